-- Protocols, declarations and modules are read by their readers.
use Rattle.std.proofs.Common.{◌≡◌, ℕ, suc, true, false, List, [], ◌∷◌, ◌++◌, Option, Some, None, refl, sym, ap, subst, ◌∙◌, append_assoc, inl, inr}
use Rattle.std.proofs.lemmas.List.{append-nil}
use Rattle.scrib_types.specs.declared.spot.Spot.{Spot}
use Rattle.scrib_lexer.specs.declared.token.Keyword.TheVariants as words
use Rattle.scrib_lexer.specs.declared.token.TokenKind.{TokenKind}
use Rattle.scrib_lexer.specs.declared.token.TokenKind.TheVariants.{Keyword, Semicolon, Comma, OpenParen, CloseParen}
use Rattle.scrib_lexer.specs.Lexeme.{Lexeme}
use Rattle.scrib_tree.specs.declared.tree.ModuleTree.{ModuleTree}
use Rattle.scrib_tree.specs.declared.tree.Import.{Import}
use Rattle.scrib_tree.specs.declared.tree.ProtocolDeclaration.{ProtocolDeclaration}
use Rattle.scrib_tree.specs.declared.tree.RoleDeclaration.{RoleDeclaration}
use Rattle.scrib_tree.specs.declared.tree.Block.{Block}
use Rattle.scrib_parser.specs.Grammar.{Language, ◌·◌, any, many, joined, spotted_token, token, name, dotted, block, role, protocol, type_declaration, declaration, kept, «import», module_text}
use Rattle.scrib_parser.specs.Reading.{begins, same_kind, mapped, read_both, after, repeated, token_of, read_name, dotted_of, block_of, read_roles, protocol_of, type_declaration_of, read_declaration, begins_declaration, declarations_of, imports_of, module_of}
use Rattle.scrib_parser.proofs.Laws.{Follows, free, follows_free, never, sends_never, Reads}
use Rattle.scrib_parser.proofs.Combinations.{seen, mapped_reads, either, branch_up, respelled_up}
use Rattle.scrib_parser.proofs.Repetition.{Takes, takes, begins_front, past, many_up}
use Rattle.scrib_parser.proofs.Tokens.{kind_is, token_reads, name_reads}
use Rattle.scrib_parser.proofs.FirstTokens.{begins_token, begins_token_at, behind_token}
use Rattle.scrib_parser.proofs.Elements.{no_dot, dotted_reads}
use Rattle.scrib_parser.proofs.Headers.{roles_reads, imports_reads, typed, type_declaration_reads}
use Rattle.scrib_parser.proofs.Claims.{claim_of, begun_on, both_claimed, after_claimed, mapped_claimed, respelled_claimed, out, into}
use Rattle.scrib_parser.proofs.Blocks.{block_reads, apart, other, along}

-- ---- protocols

abbrev pub Declared : Type 0
Declared = Spot × (List ℕ × (List RoleDeclaration × Block))

abbrev pub protocol_made : Declared → ProtocolDeclaration
protocol_made x = record { name = x.1.0; roles = x.1.1.0; body = x.1.1.1.body; spot = x.0 }

abbrev pub with_roles : (Block → Language) → List RoleDeclaration × Block → Language
with_roles b x = joined role (token Comma) x.0 · token CloseParen · b x.1

abbrev pub declared : (Block → Language) → Declared → Language
declared b x = spotted_token (Keyword words.Global) x.0 · token (Keyword words.Protocol) · name x.1.0 · token OpenParen · with_roles b x.1.1

module _ (levels : ℕ) where
  abbrev B : Block → Language
  B = block levels

  abbrev W : Block → Language
  W = block (suc levels)

  with_roles_reads : Reads (claim_of (with_roles W)) (read_both read_roles (after (token_of CloseParen) (block_of levels))) (with_roles B) (with_roles W) free
  with_roles_reads =
      both_claimed read_roles (after (token_of CloseParen) (block_of levels)) (joined role (token Comma)) (λ b. token CloseParen · B b) (λ b. token CloseParen · W b) (past (same_kind Comma) free) free roles_reads
      (after_claimed (token_of CloseParen) (block_of levels) (spotted_token CloseParen) B W free free (token_reads CloseParen) (block_reads levels) (λ y ts rest h fits. follows_free (ts ++ rest)))
      (λ b ts rest h fits. behind_token (past (same_kind Comma) free) CloseParen (B b) ts rest (refl, tt) h)

  declared_reads : Reads (claim_of (declared W)) (read_both (token_of (Keyword words.Global)) (after (token_of (Keyword words.Protocol)) (read_both read_name (after (token_of OpenParen) (read_both read_roles (after (token_of CloseParen) (block_of levels))))))) (declared B) (declared W) free
  declared_reads =
      both_claimed (token_of (Keyword words.Global)) (after (token_of (Keyword words.Protocol)) (read_both read_name (after (token_of OpenParen) (read_both read_roles (after (token_of CloseParen) (block_of levels)))))) (spotted_token (Keyword words.Global))
      (λ x. token (Keyword words.Protocol) · name x.0 · token OpenParen · with_roles B x.1) (λ x. token (Keyword words.Protocol) · name x.0 · token OpenParen · with_roles W x.1) free free (token_reads (Keyword words.Global))
      (after_claimed (token_of (Keyword words.Protocol)) (read_both read_name (after (token_of OpenParen) (read_both read_roles (after (token_of CloseParen) (block_of levels))))) (spotted_token (Keyword words.Protocol))
      (λ x. name x.0 · token OpenParen · with_roles B x.1) (λ x. name x.0 · token OpenParen · with_roles W x.1) free free (token_reads (Keyword words.Protocol))
      (both_claimed read_name (after (token_of OpenParen) (read_both read_roles (after (token_of CloseParen) (block_of levels)))) name (λ x. token OpenParen · with_roles B x) (λ x. token OpenParen · with_roles W x) free free name_reads
      (after_claimed (token_of OpenParen) (read_both read_roles (after (token_of CloseParen) (block_of levels))) (spotted_token OpenParen) (with_roles B) (with_roles W) free free (token_reads OpenParen) with_roles_reads (λ y ts rest h fits. follows_free (ts ++ rest)))
      (λ y ts rest h fits. follows_free (ts ++ rest)))
      (λ y ts rest h fits. follows_free (ts ++ rest)))
      (λ y ts rest h fits. follows_free (ts ++ rest))

  protocol_reads : Reads (claim_of (protocol (suc levels))) (protocol_of levels) (protocol levels) (protocol (suc levels)) free
  unfolding protocol_of
  protocol_reads =
      respelled_claimed _ (seen protocol_made (declared B)) (seen protocol_made (declared W)) (protocol levels) (protocol (suc levels)) free
      (λ p ts h. subst (λ (q : ProtocolDeclaration). protocol levels q ts) h.1 (h.0.1.1.1.spot, h.2))
      (λ p ts h. ((p.spot, (p.name, (p.roles, record { body = p.body; spot = h.0 }))), refl, h.1))
      (λ p ts h. subst (λ (q : ProtocolDeclaration). protocol (suc levels) q ts) h.1 (h.0.1.1.1.spot, h.2))
      (mapped_claimed protocol_made _ (declared B) (declared W) free declared_reads)

  pub begins_protocol : (p : ProtocolDeclaration) (ts : List Lexeme) → protocol levels p ts → begins (same_kind (Keyword words.Global)) ts ≡ true
  begins_protocol p ts h = begins_token_at (same_kind (Keyword words.Global)) (Keyword words.Global) p.spot _ ts refl h.1

-- ---- declarations

typed_to : (spot : Spot) (ts : List Lexeme) → typed spot ts → type_declaration ts
typed_to spot ts h =
    into _ _ (λ (s : Spot). _) (into _ _ (λ (s : Spot). _) (into _ _ (λ (s : Spot). _) (into _ _ (λ (s : Spot). _) (into _ _ (λ (s : Spot). _) (into _ _ (λ (s : Spot). _) (into _ _ (λ (s : Spot). _) (into _ _ (λ (s : Spot). _)
    (into (any name) (token Semicolon) (λ (s : Spot). spotted_token Semicolon s) (λ s us k. (s, k)))))))))) spot ts h

typed_from : (ts : List Lexeme) → type_declaration ts → (spot : Spot) × typed spot ts
typed_from ts h =
    out _ _ (λ (s : Spot). _) (out _ _ (λ (s : Spot). _) (out _ _ (λ (s : Spot). _) (out _ _ (λ (s : Spot). _) (out _ _ (λ (s : Spot). _) (out _ _ (λ (s : Spot). _) (out _ _ (λ (s : Spot). _) (out _ _ (λ (s : Spot). _)
    (out (any name) (token Semicolon) (λ (s : Spot). spotted_token Semicolon s) (λ us k. k))))))))) ts h

abbrev a_type : Option ProtocolDeclaration → Language
a_type = seen (λ (spot : Spot). None) typed

abbrev a_protocol : ℕ → Option ProtocolDeclaration → Language
a_protocol levels = seen (λ (p : ProtocolDeclaration). Some p) (protocol levels)

declaration_to : (levels : ℕ) (d : Option ProtocolDeclaration) (ts : List Lexeme) → either a_type (a_protocol levels) d ts → declaration levels d ts
declaration_to levels d ts (inl h) = subst (λ (o : Option ProtocolDeclaration). declaration levels o ts) h.1 (typed_to h.0 ts h.2)
declaration_to levels d ts (inr h) = subst (λ (o : Option ProtocolDeclaration). declaration levels o ts) h.1 h.2

declaration_from : (levels : ℕ) (d : Option ProtocolDeclaration) (ts : List Lexeme) → declaration levels d ts → either a_type (a_protocol levels) d ts
declaration_from levels None ts h = let k = typed_from ts h in inl (k.0, refl, k.1)
declaration_from levels (Some p) ts h = inr (p, refl, h)

begins_type : (spot : Spot) (ts : List Lexeme) → typed spot ts → begins (same_kind (Keyword words.«Type»)) ts ≡ true
begins_type spot ts h = begins_token (same_kind (Keyword words.«Type»)) (Keyword words.«Type») _ ts refl h

pub declaration_reads : (levels : ℕ) → Reads (claim_of (declaration (suc levels))) (read_declaration levels) (declaration levels) (declaration (suc levels)) free
unfolding read_declaration
declaration_reads levels =
    let C = claim_of (declaration (suc levels)) in
    respelled_up C _ (either a_type (a_protocol levels)) (either a_type (a_protocol (suc levels))) (declaration levels) (declaration (suc levels)) free (declaration_to levels) (declaration_from levels) (declaration_to (suc levels))
    (branch_up never (claim_of (a_protocol (suc levels))) C (same_kind (Keyword words.«Type»)) (mapped (λ spot. None) type_declaration_of) (mapped Some (protocol_of levels)) a_type a_type (a_protocol levels) (a_protocol (suc levels)) free free free
    (mapped_reads never (λ (spot : Spot). None) type_declaration_of typed free type_declaration_reads)
    (mapped_claimed (λ (p : ProtocolDeclaration). Some p) (protocol_of levels) (protocol levels) (protocol (suc levels)) free (protocol_reads levels))
    (sends_never [] C) (begun_on [] (a_protocol (suc levels)) (declaration (suc levels)) (λ d. d) (λ d us k. declaration_to (suc levels) d us (inr k)))
    (λ d front rest h fits. (begins_front (same_kind (Keyword words.«Type»)) front rest (begins_type h.0 front h.2), follows_free rest))
    (λ d front rest h fits. (apart (same_kind (Keyword words.Global)) (same_kind (Keyword words.«Type»)) (other (Keyword words.Global) (Keyword words.«Type») refl) front rest (begins_protocol levels h.0 front h.2), follows_free rest)))

is_declaration : (kind word : TokenKind) → begins_declaration word ≡ true → same_kind word kind ≡ true → begins_declaration kind ≡ true
is_declaration kind word h e = ap begins_declaration (sym (kind_is word kind e)) ∙ h

pub begins_a_declaration : (levels : ℕ) (d : Option ProtocolDeclaration) (ts : List Lexeme) → declaration levels d ts → begins begins_declaration ts ≡ true
begins_a_declaration levels None ts h =
    along (same_kind (Keyword words.«Type»)) begins_declaration (λ kind e. is_declaration kind (Keyword words.«Type») refl e) ts (let k = typed_from ts h in begins_type k.0 ts k.1)
begins_a_declaration levels (Some p) ts h =
    along (same_kind (Keyword words.Global)) begins_declaration (λ kind e. is_declaration kind (Keyword words.Global) refl e) ts (begins_protocol levels p ts h)

pub declaration_takes : (levels : ℕ) → Takes begins_declaration (read_declaration levels)
declaration_takes levels =
    takes (claim_of (declaration (suc levels))) (claim_of (many (declaration (suc levels)))) begins_declaration (read_declaration levels) (declaration levels) (declaration (suc levels)) free (declaration_reads levels) (begins_a_declaration levels)

abbrev pub past_declarations : TokenKind → Type 0
past_declarations = past begins_declaration free

abbrev pub kept_of : ℕ → List ProtocolDeclaration → Language
kept_of levels = seen kept (many (declaration levels))

declarations_reads : (levels : ℕ) → Reads (claim_of (kept_of (suc levels))) (declarations_of levels) (kept_of levels) (kept_of (suc levels)) past_declarations
unfolding declarations_of
declarations_reads levels =
    let C = claim_of (declaration (suc levels)) in
    mapped_claimed kept (repeated begins_declaration (read_declaration levels)) (many (declaration levels)) (many (declaration (suc levels))) past_declarations
    (many_up C (claim_of (many (declaration (suc levels)))) begins_declaration (read_declaration levels) (declaration levels) (declaration (suc levels)) free (declaration_reads levels) (begins_a_declaration levels) (λ kind e. tt) (
      begun_on [] (declaration (suc levels)) (many (declaration (suc levels))) (λ d. d ∷ []) (λ d us k. (us, [], sym (append-nil us), k, refl)),
      (λ d ts h. begun_on ts (many (declaration (suc levels))) (many (declaration (suc levels))) (λ ds. d ∷ ds) (λ ds us k. (ts, us, refl, (declaration_reads levels).wider d ts h, k))),
    ))

-- ---- modules

abbrev pub past_imports : TokenKind → Type 0
past_imports = past (same_kind (Keyword words.Import)) free

-- a token that may follow a module's declarations
abbrev pub past_module : TokenKind → Type 0
past_module kind = past_imports kind × past_declarations kind

behind_module : (ts : List Lexeme) → Follows past_module ts → Follows past_declarations ts
behind_module [] fits = tt
behind_module (t ∷ ts) fits = fits.1

no_import : (kind : TokenKind) → begins_declaration kind ≡ true → same_kind (Keyword words.Import) kind ≡ false
no_import (Keyword words.«Type») e = refl
no_import (Keyword words.Global) e = refl
no_import _ e = absurd cc

pub behind_imports : (levels : ℕ) (ps : List ProtocolDeclaration) (ts rest : List Lexeme) → kept_of levels ps ts → Follows past_module rest → Follows past_imports (ts ++ rest)
behind_imports levels ps ts rest h fits = at h.0 h.2
  where
    first : (ts : List Lexeme) → begins begins_declaration ts ≡ true → Follows past_imports (ts ++ rest)
    first [] e = absurd cc
    first (t ∷ us) e = (no_import t.kind e, tt)

    ends : (rest : List Lexeme) → Follows past_module rest → Follows past_imports rest
    ends [] fits = tt
    ends (t ∷ rest) fits = fits.0

    at : (ds : List (Option ProtocolDeclaration)) → many (declaration levels) ds ts → Follows past_imports (ts ++ rest)
    at [] k = subst (λ (l : List Lexeme). Follows past_imports (l ++ rest)) (sym k) (ends rest fits)
    at (d ∷ ds) k = first ts (ap (begins begins_declaration) k.2 ∙ begins_front begins_declaration k.0 k.1 (begins_a_declaration levels d k.0 k.3))

abbrev pub Parts : Type 0
Parts = List (List ℕ) × (List Import × List ProtocolDeclaration)

abbrev pub module_made : Parts → ModuleTree
module_made x = record { name = x.0; imports = x.1.0; protocols = x.1.1 }

abbrev pub in_module : ℕ → Parts → Language
in_module levels x = token (Keyword words.Module) · dotted x.0 · token Semicolon · many «import» x.1.0 · kept_of levels x.1.1

in_module_reads : (levels : ℕ) → Reads (claim_of (in_module (suc levels))) (after (token_of (Keyword words.Module)) (read_both dotted_of (after (token_of Semicolon) (read_both imports_of (declarations_of levels))))) (in_module levels) (in_module (suc levels)) past_module
in_module_reads levels =
    after_claimed (token_of (Keyword words.Module)) (read_both dotted_of (after (token_of Semicolon) (read_both imports_of (declarations_of levels)))) (spotted_token (Keyword words.Module))
    (λ (x : Parts). dotted x.0 · token Semicolon · many «import» x.1.0 · kept_of levels x.1.1) (λ (x : Parts). dotted x.0 · token Semicolon · many «import» x.1.0 · kept_of (suc levels) x.1.1) free past_module (token_reads (Keyword words.Module))
    (both_claimed dotted_of (after (token_of Semicolon) (read_both imports_of (declarations_of levels))) dotted
    (λ (x : List Import × List ProtocolDeclaration). token Semicolon · many «import» x.0 · kept_of levels x.1) (λ (x : List Import × List ProtocolDeclaration). token Semicolon · many «import» x.0 · kept_of (suc levels) x.1) no_dot past_module dotted_reads
    (after_claimed (token_of Semicolon) (read_both imports_of (declarations_of levels)) (spotted_token Semicolon)
    (λ (x : List Import × List ProtocolDeclaration). many «import» x.0 · kept_of levels x.1) (λ (x : List Import × List ProtocolDeclaration). many «import» x.0 · kept_of (suc levels) x.1) free past_module (token_reads Semicolon)
    (both_claimed imports_of (declarations_of levels) (many «import») (kept_of levels) (kept_of (suc levels)) past_imports past_module imports_reads
    (narrowed levels) (λ ps ts rest h fits. behind_imports levels ps ts rest h fits))
    (λ y ts rest h fits. follows_free (ts ++ rest)))
    (λ y ts rest h fits. behind_token no_dot Semicolon _ ts rest (refl, tt) h))
    (λ y ts rest h fits. follows_free (ts ++ rest))
  where
    narrowed : (levels : ℕ) → Reads (claim_of (kept_of (suc levels))) (declarations_of levels) (kept_of levels) (kept_of (suc levels)) past_module
    narrowed levels =
        let r = declarations_reads levels in
        record {
          taken = r.taken;
          again = λ front x rest h fits. r.again front x rest h (behind_module rest fits);
          stopped = r.stopped;
          wider = r.wider;
          value = r.value;
          example = r.example;
          spelled = r.spelled;
        }

-- the declarations that a module keeps, for the whole module
module_to : (levels : ℕ) (m : ModuleTree) (ts : List Lexeme) → seen module_made (in_module levels) m ts → module_text levels m ts
module_to levels m ts h = subst (λ (n : ModuleTree). module_text levels n ts) h.1 (at h.0 ts h.2)
  where
    at : (x : Parts) (ts : List Lexeme) → in_module levels x ts → module_text levels (module_made x) ts
    at x ts k =
        let last : (us : List Lexeme) → kept_of levels x.1.1 us → (d : (ds : List (Option ProtocolDeclaration)) × (x.1.1 ≡ kept ds)) × many (declaration levels) d.0 us = λ us g. ((g.0, sym g.1), g.2) in
        let w = out (token (Keyword words.Module)) _ (λ (d : (ds : List (Option ProtocolDeclaration)) × (x.1.1 ≡ kept ds)). _) (out (dotted x.0) _ (λ (d : (ds : List (Option ProtocolDeclaration)) × (x.1.1 ≡ kept ds)). _) (out (token Semicolon) _ (λ (d : (ds : List (Option ProtocolDeclaration)) × (x.1.1 ≡ kept ds)). _) (out (many «import» x.1.0) (kept_of levels x.1.1) (λ d. many (declaration levels) d.0) last))) ts k in
        (w.0.0, w.0.1, w.1)

pub module_from : (levels : ℕ) (m : ModuleTree) (ts : List Lexeme) → module_text levels m ts → seen module_made (in_module levels) m ts
module_from levels m ts h =
    let ds = h.0 in
    let last : (u : Unit {0}) (us : List Lexeme) → many (declaration levels) ds us → kept_of levels m.protocols us = λ u us g. (ds, sym h.1, g) in (
      (m.name, (m.imports, m.protocols)),
      refl,
      into (token (Keyword words.Module)) _ (λ (u : Unit {0}). _) (into (dotted m.name) _ (λ (u : Unit {0}). _) (into (token Semicolon) _ (λ (u : Unit {0}). _) (into (many «import» m.imports) (kept_of levels m.protocols) (λ (u : Unit {0}). many (declaration levels) ds) last))) tt ts h.2,
    )

pub module_reads : (levels : ℕ) → Reads (claim_of (module_text (suc levels))) (module_of levels) (module_text levels) (module_text (suc levels)) past_module
unfolding module_of
module_reads levels =
    respelled_claimed _ (seen module_made (in_module levels)) (seen module_made (in_module (suc levels))) (module_text levels) (module_text (suc levels)) past_module (module_to levels) (module_from levels) (module_to (suc levels))
    (mapped_claimed module_made _ (in_module levels) (in_module (suc levels)) past_module (in_module_reads levels))

-- ---- one more protocol

-- a protocol's tokens
pub a_protocol_text : (levels : ℕ) → (p : ProtocolDeclaration) × (g : Lexeme) × (more : List Lexeme) × (g.kind ≡ Keyword words.Global) × protocol (suc levels) p (g ∷ more)
a_protocol_text levels = at r.example r.spelled (begins_protocol (suc levels) r.value r.example r.spelled)
  where
    r : Reads (claim_of (protocol (suc levels))) (protocol_of levels) (protocol levels) (protocol (suc levels)) free
    r = protocol_reads levels

    at : (ts : List Lexeme) → protocol (suc levels) r.value ts → begins (same_kind (Keyword words.Global)) ts ≡ true → (p : ProtocolDeclaration) × (g : Lexeme) × (more : List Lexeme) × (g.kind ≡ Keyword words.Global) × protocol (suc levels) p (g ∷ more)
    at [] h e = absurd cc
    at (g ∷ more) h e = (r.value, g, more, sym (kind_is (Keyword words.Global) g.kind e), h)

many_more : {A : Type 0} (L : A → Language) (x : A) (us : List Lexeme) → L x us → (xs : List A) (ts : List Lexeme) → many L xs ts → many L (xs ++ x ∷ []) (ts ++ us)
many_more L x us h [] ts k = subst (λ (l : List Lexeme). many L (x ∷ []) (l ++ us)) (sym k) (us, [], sym (append-nil us), h, refl)
many_more L x us h (y ∷ xs) ts k = (k.0, k.1 ++ us, ap (λ (l : List Lexeme). l ++ us) k.2 ∙ append_assoc k.0 k.1 us, k.3, many_more L x us h xs k.1 k.4)

extended : (p q r : Language) (us : List Lexeme) → ((ts : List Lexeme) → q ts → r (ts ++ us)) → (ts : List Lexeme) → (p · q) ts → (p · r) (ts ++ us)
extended p q r us f ts h = (h.0, h.1 ++ us, ap (λ (l : List Lexeme). l ++ us) h.2 ∙ append_assoc h.0 h.1 us, h.3, f h.1 h.4)

-- another protocol may follow a whole module
pub one_protocol_more : (levels : ℕ) (m : ModuleTree) (p : ProtocolDeclaration) (ts us : List Lexeme) → module_text levels m ts → protocol levels p us → (n : ModuleTree) × module_text levels n (ts ++ us)
one_protocol_more levels m p ts us h k =
    let ds = h.0 ++ Some p ∷ [] in
    let n : ModuleTree = record { name = m.name; imports = m.imports; protocols = kept ds } in (
      n,
      (
        ds,
        refl,
        extended (token (Keyword words.Module)) _ _ us (extended (dotted m.name) _ _ us (extended (token Semicolon) _ _ us (extended (many «import» m.imports) (many (declaration levels) h.0) (many (declaration levels) ds) us (many_more (declaration levels) (Some p) us k h.0)))) ts h.2,
      ),
    )
