-- Names, dotted names, elements and payloads are read by their readers.
use Rattle.std.proofs.Common.{◌≡◌, ℕ, true, false, List, [], ◌∷◌, ◌++◌, refl, sym, ap, subst, ◌∙◌, append_assoc, inl, inr}
use Rattle.std.specs.Prelude.{◌⊎◌}
use Rattle.scrib_lexer.specs.declared.token.TokenKind.{TokenKind}
use Rattle.scrib_lexer.specs.declared.token.TokenKind.TheVariants.{Name, Comma, Dot, Colon}
use Rattle.scrib_lexer.specs.Lexeme.{Lexeme}
use Rattle.scrib_parser.specs.Grammar.{Language, ◌·◌, nothing, any, maybe, many, joined, listed, spotted_token, token, name, dotted, element}
use Rattle.scrib_parser.specs.Reading.{begins, same_kind, after, branch, none, token_of, read_name, dots_of, dotted_from, dotted_of, element_of, elements_of, payload_of, read_names}
use Rattle.scrib_parser.proofs.Laws.{Follows, free, follows_free, never, sends_same, Leaf, chain_reads}
use Rattle.scrib_parser.proofs.Combinations.{respelled, seen, mapped_reads, after_reads, none_reads, either, branch_reads}
use Rattle.scrib_parser.proofs.Repetition.{begins_front, past}
use Rattle.scrib_parser.proofs.Tokens.{kind_is, token_reads, name_reads}
use Rattle.scrib_parser.proofs.FirstTokens.{quiet, other_kind, begins_token, begins_name}
use Rattle.scrib_parser.proofs.Sequences.{quiet_more_reads, quiet_joined_reads}

-- ---- dotted names and elements

abbrev pub no_dot : TokenKind → Type 0
no_dot = past (same_kind Dot) free

-- no token that continues an element
abbrev pub past_element : TokenKind → Type 0
past_element kind = (same_kind Colon kind ≡ false) × no_dot kind

pub dotted_reads : Leaf never dotted_of dotted no_dot
unfolding dotted_of dotted_from
dotted_reads = quiet_joined_reads read_name name free Dot name_reads (λ kind e. tt)

-- the names after the first
abbrev dotted_behind : List ℕ → List (List ℕ) → Language
dotted_behind first = seen (λ (names : List (List ℕ)). first ∷ names) (many (λ y. token Dot · name y))

dotted_from_reads : (first : List ℕ) → Leaf never (dotted_from first) (dotted_behind first) no_dot
unfolding dotted_from
dotted_from_reads first = mapped_reads never (λ names. first ∷ names) dots_of (many (λ y. token Dot · name y)) no_dot (quiet_more_reads read_name name free Dot name_reads (λ kind e. tt))

-- dots, or no token and what follows: no colon
no_colon : (names : List (List ℕ)) (ts rest : List Lexeme) → many (λ y. token Dot · name y) names ts → Follows past_element rest → begins (same_kind Colon) (ts ++ rest) ≡ false
no_colon [] ts [] h fits = ap (λ (l : List Lexeme). begins (same_kind Colon) (l ++ [])) h
no_colon [] ts (t ∷ rest) h fits = ap (λ (l : List Lexeme). begins (same_kind Colon) (l ++ t ∷ rest)) h ∙ fits.0
no_colon (x ∷ xs) ts rest h fits =
    let dot = h.3.3.1 in
    other_kind (same_kind Colon) Dot dot.0 h.3.0 (h.3.1 ++ (h.1 ++ rest)) (ts ++ rest) refl dot.2.0 dot.1
    (ap (λ (l : List Lexeme). l ++ rest) (h.2 ∙ ap (λ (l : List Lexeme). l ++ h.1) h.3.2) ∙ append_assoc (h.3.0 ++ h.3.1) h.1 rest ∙ append_assoc h.3.0 h.3.1 (h.1 ++ rest))

behind_element : (ts : List Lexeme) → Follows past_element ts → Follows no_dot ts
behind_element [] fits = tt
behind_element (t ∷ ts) fits = fits.1

-- the tokens after an element's first name
abbrev element_behind : List ℕ → List (List ℕ) → Language
element_behind first = either (λ y. token Colon · dotted y) (dotted_behind first)

element_behind_reads : (first : List ℕ) → Leaf never (branch (same_kind Colon) (after (token_of Colon) dotted_of) (dotted_from first)) (element_behind first) past_element
element_behind_reads first =
    branch_reads never never never (same_kind Colon) (after (token_of Colon) dotted_of) (dotted_from first) (λ y. token Colon · dotted y) (dotted_behind first) no_dot no_dot past_element
    (after_reads never never never (token_of Colon) dotted_of (spotted_token Colon) dotted free no_dot (token_reads Colon) dotted_reads (λ y ts rest h fits. follows_free (ts ++ rest)) (quiet (spotted_token Colon)))
    (dotted_from_reads first) (sends_same never) (sends_same never)
    (λ y front rest h fits. (begins_front (same_kind Colon) front rest (begins_token (same_kind Colon) Colon (dotted y) front refl h), behind_element rest fits))
    (λ y front rest h fits. (no_colon h.0 front rest h.2 fits, behind_element rest fits))

element_to : (sort : List (List ℕ)) (ts : List Lexeme) → ((first : List ℕ) × (name first · element_behind first sort) ts) → element sort ts
element_to sort ts w = at w.1.4
  where
    at : element_behind w.0 sort w.1.1 → element sort ts
    at (inl h) = (w.1.0 ++ h.0, h.1, w.1.2 ∙ ap (λ (l : List Lexeme). w.1.0 ++ l) h.2 ∙ sym (append_assoc w.1.0 h.0 h.1), inl (w.1.0, h.0, refl, (w.0, w.1.3), h.3), h.4)
    at (inr h) = ([], ts, refl, inr refl, subst (λ (z : List (List ℕ)). dotted z ts) h.1 (w.1.0, w.1.1, w.1.2, w.1.3, h.2))

dotted_split : (sort : List (List ℕ)) (ts : List Lexeme) → dotted sort ts → (first : List ℕ) × (name first · dotted_behind first sort) ts
dotted_split [] ts h = absurd h
dotted_split (x ∷ xs) ts h = (x, (h.0, h.1, h.2, h.3, (xs, refl, h.4)))

element_from : (sort : List (List ℕ)) (ts : List Lexeme) → element sort ts → (first : List ℕ) × (name first · element_behind first sort) ts
element_from sort ts w = at w.3
  where
    at : maybe (any name · token Colon) w.0 → (first : List ℕ) × (name first · element_behind first sort) ts
    at (inl h) = (h.3.0, (h.0, h.1 ++ w.1, w.2 ∙ ap (λ (l : List Lexeme). l ++ w.1) h.2 ∙ append_assoc h.0 h.1 w.1, h.3.1, inl (h.1, w.1, refl, h.4, w.4)))
    at (inr h) =
        let d = dotted_split sort w.1 w.4 in
        (d.0, (d.1.0, d.1.1, w.2 ∙ ap (λ (l : List Lexeme). l ++ w.1) h ∙ d.1.2, d.1.3, inr d.1.4))

pub element_reads : Leaf never element_of element past_element
unfolding element_of
element_reads =
    respelled never element_of _ element past_element element_to element_from
    (chain_reads read_name (λ first. branch (same_kind Colon) (after (token_of Colon) dotted_of) (dotted_from first)) name name element_behind element_behind free past_element never (λ x. never) never name_reads element_behind_reads (λ x y ts rest h fits. follows_free (ts ++ rest)) (quiet name))

-- ---- payloads

begins_element : (sort : List (List ℕ)) (ts : List Lexeme) → element sort ts → begins (same_kind Name) ts ≡ true
begins_element sort ts w = at (element_from sort ts w)
  where
    at : ((first : List ℕ) × (name first · element_behind first sort) ts) → begins (same_kind Name) ts ≡ true
    at h = begins_name (same_kind Name) h.0 (element_behind h.0 sort) ts refl h.1

-- no token that continues elements
abbrev past_elements : TokenKind → Type 0
past_elements = past (same_kind Comma) past_element

comma_behind : (kind : TokenKind) → same_kind Comma kind ≡ true → past_element kind
comma_behind kind e = let k : Comma ≡ kind = kind_is Comma kind e in subst past_element k (refl, (refl, tt))

elements_reads : Leaf never elements_of (joined element (token Comma)) past_elements
unfolding elements_of
elements_reads = quiet_joined_reads element_of element past_element Comma element_reads comma_behind

-- nor one that begins them
abbrev pub past_payload : TokenKind → Type 0
past_payload kind = (same_kind Name kind ≡ false) × past_elements kind

behind_payload : (ts : List Lexeme) → Follows past_payload ts → (begins (same_kind Name) ts ≡ false) × Follows past_elements ts
behind_payload [] fits = (refl, tt)
behind_payload (t ∷ ts) fits = fits

begins_elements : (sorts : List (List (List ℕ))) (ts : List Lexeme) → joined element (token Comma) sorts ts → begins (same_kind Name) ts ≡ true
begins_elements [] ts h = absurd h
begins_elements (x ∷ xs) ts h = ap (begins (same_kind Name)) h.2 ∙ begins_front (same_kind Name) h.0 h.1 (begins_element x h.0 h.3)

pub payload_reads : Leaf never payload_of (listed element (token Comma)) past_payload
unfolding payload_of
payload_reads =
    let empty : List (List (List ℕ)) → Language = λ y ts. ([] ≡ y) × nothing ts in
    respelled never payload_of (either (joined element (token Comma)) empty) (listed element (token Comma)) past_payload
    (λ y ts h. to y ts h) (λ y ts h. from y ts h)
    (branch_reads never never never (same_kind Name) elements_of (none []) (joined element (token Comma)) empty past_elements free past_payload elements_reads (none_reads [] free) (sends_same never) (sends_same never)
    (λ y front rest h fits. (begins_front (same_kind Name) front rest (begins_elements y front h), (behind_payload rest fits).1))
    (λ y front rest h fits. (ap (λ (l : List Lexeme). begins (same_kind Name) (l ++ rest)) h.1 ∙ (behind_payload rest fits).0, follows_free rest)))
  where
    to : (y : List (List (List ℕ))) (ts : List Lexeme) → (joined element (token Comma) y ts ⊎ (([] ≡ y) × nothing ts)) → listed element (token Comma) y ts
    to [] ts (inl h) = absurd h
    to [] ts (inr h) = h.1
    to (x ∷ xs) ts (inl h) = h
    to (x ∷ xs) ts (inr h) = absurd (let e = h.0 in cc)

    from : (y : List (List (List ℕ))) (ts : List Lexeme) → listed element (token Comma) y ts → joined element (token Comma) y ts ⊎ (([] ≡ y) × nothing ts)
    from [] ts h = inr (refl, h)
    from (x ∷ xs) ts h = inl h

-- ---- names between commas

pub names_reads : Leaf never read_names (joined name (token Comma)) (past (same_kind Comma) free)
unfolding read_names
names_reads = quiet_joined_reads read_name name free Comma name_reads (λ kind e. tt)
