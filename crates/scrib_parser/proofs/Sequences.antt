-- Parts that follow one another, with marks between or without, are read by their readers in turn.
use Rattle.std.proofs.Common.{◌≡◌, true, List, [], ◌∷◌, ◌++◌, refl, subst}
use Rattle.scrib_types.specs.declared.spot.Spot.{Spot}
use Rattle.scrib_lexer.specs.declared.token.TokenKind.{TokenKind}
use Rattle.scrib_lexer.specs.Lexeme.{Lexeme}
use Rattle.scrib_parser.specs.Grammar.{Language, ◌·◌, any, many, joined, spotted_token, token}
use Rattle.scrib_parser.specs.Reading.{Reader, begins, same_kind, chain, mapped, read_both, after, read_before, repeated, token_of}
use Rattle.scrib_parser.proofs.Laws.{free, follows_free, Claim, never, Sends, sends_never, Leaf, chain_reads}
use Rattle.scrib_parser.proofs.Combinations.{respelled, seen, mapped_reads, both_reads, after_reads, before_reads}
use Rattle.scrib_parser.proofs.Repetition.{past, follows_items, many_reads}
use Rattle.scrib_parser.proofs.Tokens.{same_kind-refl, token_reads}
use Rattle.scrib_parser.proofs.FirstTokens.{quiet, behind_quiet, begins_token, behind_token, behind_token_at}

-- ---- values with marks between

module _ {A : Type 0} (C E D K : Claim) (item : Reader A) (L : A → Language) (F : TokenKind → Type 0) (mark : TokenKind) where
  abbrev pub marked : A → Language
  marked y = token mark · L y

  abbrev pub past_mark : TokenKind → Type 0
  past_mark = past (same_kind mark) F

  -- the claim after a mark
  abbrev pub BehindMark : Type 0
  BehindMark = (spot : Spot) (ts : List Lexeme) → spotted_token mark spot ts → Sends ts C E

  pub marked_reads : Leaf C item L F → BehindMark → Leaf E (after (token_of mark) item) marked F
  marked_reads r behind =
      after_reads never C E (token_of mark) item (spotted_token mark) L free F (token_reads mark) r (λ y ts rest h fits. follows_free (ts ++ rest)) (behind_quiet (spotted_token mark) C E behind)

  pub begins_marked : (y : A) (ts : List Lexeme) → marked y ts → begins (same_kind mark) ts ≡ true
  begins_marked y ts h = begins_token (same_kind mark) mark (L y) ts (same_kind-refl mark) h

  -- the claim after the items that marks precede
  abbrev pub BehindMarked : Type 0
  BehindMarked = Sends [] E D × ((y : A) (ts : List Lexeme) → marked y ts → Sends ts D D)

  pub more_reads : Leaf C item L F → ((kind : TokenKind) → same_kind mark kind ≡ true → F kind) → BehindMark → BehindMarked → Leaf D (repeated (same_kind mark) (after (token_of mark) item)) (many marked) past_mark
  more_reads r goes behind carries = many_reads E D (same_kind mark) (after (token_of mark) item) marked F (marked_reads r behind) begins_marked goes carries

  -- the first value, and those after marks
  abbrev from_first : A → List A → Language
  from_first x = seen (λ (xs : List A). x ∷ xs) (many marked)

  pub joined_reads : Leaf C item L F → ((kind : TokenKind) → same_kind mark kind ≡ true → F kind) → BehindMark → BehindMarked → Sends [] C K × ((x : A) (ts : List Lexeme) → L x ts → Sends ts D K)
      → Leaf K (chain item (λ first. mapped (λ more. first ∷ more) (repeated (same_kind mark) (after (token_of mark) item)))) (joined L (token mark)) past_mark
  joined_reads r goes behind carries brings =
      let more = more_reads r goes behind carries in
      respelled K _ _ (joined L (token mark)) past_mark
      (λ y ts h. subst (λ (z : List A). joined L (token mark) z ts) h.1.4.1 (h.1.0, h.1.1, h.1.2, h.1.3, h.1.4.2))
      (elim [ [] ↦ λ ts h. absurd h | x ∷ xs ↦ λ ts h. (x, (h.0, h.1, h.2, h.3, (xs, refl, h.4))) ])
      (chain_reads item (λ first. mapped (λ more. first ∷ more) (repeated (same_kind mark) (after (token_of mark) item))) L L from_first from_first F past_mark C (λ x. D) K r
      (λ x. mapped_reads D (λ (xs : List A). x ∷ xs) (repeated (same_kind mark) (after (token_of mark) item)) (many marked) past_mark more)
      (λ x y ts rest h fits. follows_items E D (same_kind mark) (after (token_of mark) item) marked marked F begins_marked goes h.0 ts rest h.2 fits) brings)

module _ {A : Type 0} (item : Reader A) (L : A → Language) (F : TokenKind → Type 0) (mark : TokenKind) where
  -- the same for items with no claim
  pub quiet_more_reads : Leaf never item L F → ((kind : TokenKind) → same_kind mark kind ≡ true → F kind) → Leaf never (repeated (same_kind mark) (after (token_of mark) item)) (many (λ y. token mark · L y)) (past (same_kind mark) F)
  quiet_more_reads r goes = more_reads never never never never item L F mark r goes (λ spot ts h. sends_never ts never) (quiet (λ y. token mark · L y))

  pub quiet_joined_reads : Leaf never item L F → ((kind : TokenKind) → same_kind mark kind ≡ true → F kind)
      → Leaf never (chain item (λ first. mapped (λ more. first ∷ more) (repeated (same_kind mark) (after (token_of mark) item)))) (joined L (token mark)) (past (same_kind mark) F)
  quiet_joined_reads r goes = joined_reads never never never never item L F mark r goes (λ spot ts h. sends_never ts never) (quiet (λ y. token mark · L y)) (quiet L)

-- ---- parts that don't continue one another, with no claim

module _ {A B : Type 0} (first : Reader A) (second : Reader B) (L : A → Language) (M : B → Language) where
  pub pair_reads : Leaf never first L free → Leaf never second M free → Leaf never (read_both first second) (λ p. L p.0 · M p.1) free
  pair_reads r s = both_reads never never never first second L M free free r s (λ y ts rest h fits. follows_free (ts ++ rest)) (quiet L)

  pub skip_reads : Leaf never first L free → Leaf never second M free → Leaf never (after first second) (λ y. any L · M y) free
  skip_reads r s = after_reads never never never first second L M free free r s (λ y ts rest h fits. follows_free (ts ++ rest)) (quiet L)

  pub closed_reads : Leaf never first L free → Leaf never second M free → Leaf never (read_before first second) (λ x. L x · any M) free
  closed_reads r s = before_reads never never never first second L M free free r s (λ y ts rest h fits. follows_free (ts ++ rest)) (quiet L)

module _ {A B : Type 0} (first : Reader A) (second : Reader B) (L : A → Language) (M : B → Language) (F G : TokenKind → Type 0) (kind : TokenKind) where
  -- a token of a kind that doesn't continue the first
  pub until_reads : Leaf never first L F → Leaf never second M G → F kind → Leaf never (read_both first (after (token_of kind) second)) (λ p. L p.0 · token kind · M p.1) G
  until_reads r s h =
      both_reads never never never first (after (token_of kind) second) L (λ y. token kind · M y) F G r
      (after_reads never never never (token_of kind) second (spotted_token kind) M free G (token_reads kind) s (λ y ts rest k fits. follows_free (ts ++ rest)) (quiet (spotted_token kind)))
      (λ y ts rest k fits. behind_token F kind (M y) ts rest h k) (quiet L)

module _ {A : Type 0} (first : Reader A) (L : A → Language) (F : TokenKind → Type 0) (kind : TokenKind) where
  -- a last token of a kind that doesn't continue the first
  pub ended_reads : Leaf never first L F → F kind → Leaf never (read_before first (token_of kind)) (λ x. L x · token kind) free
  ended_reads r h =
      before_reads never never never first (token_of kind) L (spotted_token kind) F free r (token_reads kind) (λ spot ts rest k fits. behind_token_at F kind spot ts rest h k) (quiet L)
