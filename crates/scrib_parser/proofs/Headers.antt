-- Roles, imports and type declarations are read by their readers, and each thing that a loop reads takes a token.
use Rattle.std.proofs.Common.{◌≡◌, ℕ, true, false, List, [], ◌∷◌, ◌++◌, Option, Some, None, refl, ap, subst, ◌∙◌, append_assoc, inl, inr}
use Rattle.scrib_types.specs.declared.spot.Spot.{Spot}
use Rattle.scrib_lexer.specs.declared.token.Keyword.TheVariants as words
use Rattle.scrib_lexer.specs.declared.token.TokenKind.{TokenKind}
use Rattle.scrib_lexer.specs.declared.token.TokenKind.TheVariants.{Keyword, StringLiteral, Semicolon, Comma, Dot, OpenAngle, CloseAngle}
use Rattle.scrib_lexer.specs.Lexeme.{Lexeme}
use Rattle.scrib_tree.specs.declared.tree.Import.{Import}
use Rattle.scrib_tree.specs.declared.tree.RoleDeclaration.{RoleDeclaration}
use Rattle.scrib_parser.specs.Grammar.{Language, ◌·◌, nothing, any, many, joined, spotted_token, token, name, dotted, element, role, known_as, «import»}
use Rattle.scrib_parser.specs.Reading.{Reader, begins, same_kind, mapped, read_both, after, read_before, none, token_of, read_name, dotted_of, element_of, role_of, read_roles, known_as_of, import_of, imports_of, type_declaration_of}
use Rattle.scrib_parser.proofs.Laws.{Follows, free, follows_free, never, sends_never, sends_same, Leaf}
use Rattle.scrib_parser.proofs.Combinations.{respelled, seen, mapped_reads, viewed_reads, both_reads, none_reads, either, branch_reads}
use Rattle.scrib_parser.proofs.Repetition.{Takes, takes, begins_front, past, many_reads}
use Rattle.scrib_parser.proofs.Tokens.{token_reads, name_reads}
use Rattle.scrib_parser.proofs.FirstTokens.{quiet, begins_token, begins_token_at, follows_kind, behind_token}
use Rattle.scrib_parser.proofs.Sequences.{marked_reads, begins_marked, quiet_joined_reads, pair_reads, skip_reads, ended_reads}
use Rattle.scrib_parser.proofs.Elements.{no_dot, past_element, dotted_reads, element_reads}

-- ---- roles and imports

pub role_reads : Leaf never role_of role free
unfolding role_of
role_reads =
    viewed_reads never (λ x. record { name = x.1; spot = x.0 }) (read_both (token_of (Keyword words.Role)) read_name) (λ x. spotted_token (Keyword words.Role) x.0 · name x.1) free
    (λ (r : RoleDeclaration). (r.spot, r.name)) (λ x. refl) (λ r. refl)
    (pair_reads (token_of (Keyword words.Role)) read_name (spotted_token (Keyword words.Role)) name (token_reads (Keyword words.Role)) name_reads)

pub roles_reads : Leaf never read_roles (joined role (token Comma)) (past (same_kind Comma) free)
unfolding read_roles
roles_reads = quiet_joined_reads role_of role free Comma role_reads (λ kind e. tt)

abbrev not_as : TokenKind → Type 0
not_as kind = same_kind (Keyword words.As) kind ≡ false

abbrev new_name : Option (List ℕ) → Language
new_name = seen (λ (n : List ℕ). Some n) (λ n. token (Keyword words.As) · name n)

abbrev no_new_name : Option (List ℕ) → Language
no_new_name y ts = (None ≡ y) × nothing ts

known_to : (known : Option (List ℕ)) (ts : List Lexeme) → either new_name no_new_name known ts → known_as known ts
known_to known ts (inl h) = subst (λ (o : Option (List ℕ)). known_as o ts) h.1 h.2
known_to known ts (inr h) = subst (λ (o : Option (List ℕ)). known_as o ts) h.0 h.1

known_from : (known : Option (List ℕ)) (ts : List Lexeme) → known_as known ts → either new_name no_new_name known ts
known_from (Some n) ts h = inl (n, refl, h)
known_from None ts h = inr (refl, h)

no_as : (rest : List Lexeme) → Follows not_as rest → begins (same_kind (Keyword words.As)) rest ≡ false
no_as [] fits = refl
no_as (t ∷ rest) fits = fits

known_as_reads : Leaf never known_as_of known_as not_as
unfolding known_as_of
known_as_reads =
    respelled never known_as_of (either new_name no_new_name) known_as not_as known_to known_from
    (branch_reads never never never (same_kind (Keyword words.As)) (mapped Some (after (token_of (Keyword words.As)) read_name)) (none None) new_name no_new_name free free not_as
    (mapped_reads never (λ (n : List ℕ). Some n) (after (token_of (Keyword words.As)) read_name) (λ n. token (Keyword words.As) · name n) free
    (skip_reads (token_of (Keyword words.As)) read_name (spotted_token (Keyword words.As)) name (token_reads (Keyword words.As)) name_reads))
    (none_reads None free) (sends_same never) (sends_same never)
    (λ y front rest h fits. (begins_front (same_kind (Keyword words.As)) front rest (begins_token (same_kind (Keyword words.As)) (Keyword words.As) (name h.0) front refl h.2), follows_free rest))
    (λ y front rest h fits. (ap (λ (l : List Lexeme). begins (same_kind (Keyword words.As)) (l ++ rest)) h.1 ∙ no_as rest fits, follows_free rest)))

-- only a dot continues a dotted name, and what follows the name begins with `as` or a semicolon
behind_dotted : (known : Option (List ℕ)) (ts rest : List Lexeme) → (known_as known · token Semicolon) ts → Follows no_dot (ts ++ rest)
behind_dotted (Some n) ts rest h =
    behind_token no_dot (Keyword words.As) (name n · token Semicolon) ts rest (refl, tt)
    (h.3.0, h.3.1 ++ h.1, h.2 ∙ ap (λ (l : List Lexeme). l ++ h.1) h.3.2 ∙ append_assoc h.3.0 h.3.1 h.1, h.3.3, (h.3.1, h.1, refl, h.3.4, h.4))
behind_dotted None ts rest h =
    follows_kind no_dot Semicolon h.4.1.0 (ts ++ rest) rest (refl, tt) h.4.1.2.0
    (ap (λ (l : List Lexeme). l ++ rest) (h.2 ∙ ap (λ (l : List Lexeme). l ++ h.1) h.3 ∙ h.4.1.1))

pub import_reads : Leaf never import_of «import» free
unfolding import_of
import_reads =
    viewed_reads never (λ x. record { «module» = x.1.0; known_as = x.1.1; spot = x.0 }) (read_both (token_of (Keyword words.Import)) (read_both dotted_of (read_before known_as_of (token_of Semicolon))))
    (λ x. spotted_token (Keyword words.Import) x.0 · dotted x.1.0 · known_as x.1.1 · token Semicolon) free
    (λ (i : Import). (i.spot, (i.«module», i.known_as))) (λ x. refl) (λ i. refl)
    (pair_reads (token_of (Keyword words.Import)) (read_both dotted_of (read_before known_as_of (token_of Semicolon))) (spotted_token (Keyword words.Import)) (λ x. dotted x.0 · known_as x.1 · token Semicolon) (token_reads (Keyword words.Import))
    (both_reads never never never dotted_of (read_before known_as_of (token_of Semicolon)) dotted (λ known. known_as known · token Semicolon) no_dot free dotted_reads
    (ended_reads known_as_of known_as not_as Semicolon known_as_reads refl)
    (λ known ts rest h fits. behind_dotted known ts rest h) (quiet dotted)))

pub begins_import : (i : Import) (ts : List Lexeme) → «import» i ts → begins (same_kind (Keyword words.Import)) ts ≡ true
begins_import i ts h = begins_token_at (same_kind (Keyword words.Import)) (Keyword words.Import) i.spot _ ts refl h

pub imports_reads : Leaf never imports_of (many «import») (past (same_kind (Keyword words.Import)) free)
unfolding imports_of
imports_reads = many_reads never never (same_kind (Keyword words.Import)) import_of «import» free import_reads begins_import (λ kind e. tt) (quiet «import»)

-- ---- type declarations

-- two tokens, or a token and more, of which only the last one's value is kept
pub token_and : {A : Type 0} (kind : TokenKind) (second : Reader A) (M : A → Language) → Leaf never second M free → Leaf never (after (token_of kind) second) (λ y. token kind · M y) free
token_and kind second M s = skip_reads (token_of kind) second (spotted_token kind) M (token_reads kind) s

name_and : {A : Type 0} (second : Reader A) (M : A → Language) → Leaf never second M free → Leaf never (after read_name second) (λ y. any name · M y) free
name_and second M s = skip_reads read_name second name M name_reads s

abbrev type_name : Spot → Language
type_name spot = token (Keyword words.As) · any name · spotted_token Semicolon spot

abbrev type_source : Spot → Language
type_source spot = token StringLiteral · token (Keyword words.From) · token StringLiteral · type_name spot

abbrev pub typed : Spot → Language
typed spot = token (Keyword words.«Type») · token OpenAngle · any name · token CloseAngle · type_source spot

pub type_declaration_reads : Leaf never type_declaration_of typed free
unfolding type_declaration_of
type_declaration_reads =
    token_and (Keyword words.«Type») _ _ (token_and OpenAngle _ _ (name_and _ _ (token_and CloseAngle _ type_source
    (token_and StringLiteral _ _ (token_and (Keyword words.From) _ _ (token_and StringLiteral _ type_name
    (token_and (Keyword words.As) _ _ (name_and (token_of Semicolon) (spotted_token Semicolon) (token_reads Semicolon)))))))))

-- ---- each of the things that a loop reads takes a token

marked_takes : {A : Type 0} (item : Reader A) (L : A → Language) (F : TokenKind → Type 0) (mark : TokenKind) → Leaf never item L F → Takes (same_kind mark) (after (token_of mark) item)
marked_takes item L F mark r =
    takes never never (same_kind mark) (after (token_of mark) item) (λ y. token mark · L y) (λ y. token mark · L y) F (marked_reads never never never never item L F mark r (λ spot ts h. sends_never ts never)) (begins_marked never never never never item L F mark)

pub dot_takes : Takes (same_kind Dot) (after (token_of Dot) read_name)
dot_takes = marked_takes read_name name free Dot name_reads

pub element_takes : Takes (same_kind Comma) (after (token_of Comma) element_of)
element_takes = marked_takes element_of element past_element Comma element_reads

pub name_takes : Takes (same_kind Comma) (after (token_of Comma) read_name)
name_takes = marked_takes read_name name free Comma name_reads

pub role_takes : Takes (same_kind Comma) (after (token_of Comma) role_of)
role_takes = marked_takes role_of role free Comma role_reads

pub import_takes : Takes (same_kind (Keyword words.Import)) import_of
import_takes = takes never never (same_kind (Keyword words.Import)) import_of «import» «import» free import_reads begins_import
