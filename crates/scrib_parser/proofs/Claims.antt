-- Readers of languages with blocks: the tokens at which they stop, for the language with one more level.
use Rattle.std.proofs.Common.{◌≡◌, List, [], ◌∷◌, ◌++◌, refl, sym, ap, subst, ◌∙◌, append_assoc}
use Rattle.scrib_lexer.specs.declared.token.Keyword.TheVariants as words
use Rattle.scrib_lexer.specs.declared.token.TokenKind.{TokenKind}
use Rattle.scrib_lexer.specs.declared.token.TokenKind.TheVariants.{Keyword}
use Rattle.scrib_lexer.specs.Lexeme.{Lexeme}
use Rattle.scrib_parser.specs.Grammar.{Language, ◌·◌, any}
use Rattle.scrib_parser.specs.Reading.{Reader, mapped, read_both, after, read_before}
use Rattle.scrib_parser.proofs.Laws.{Follows, Begun, Claim, never, Sends, sends_never, Reads, Leaf, reclaimed}
use Rattle.scrib_parser.proofs.Combinations.{seen, respelled_up, mapped_up, both_up, after_up, before_up}
use Rattle.scrib_parser.proofs.Statements.{IsLeftWord}

-- after these tokens a statement may begin
abbrev pub MayGo : {A : Type 0} → (A → Language) → List Lexeme → Type 0
MayGo U ts = (c : Lexeme) × (c.kind ≡ Keyword words.Continue) × Begun U (ts ++ c ∷ [])

abbrev pub claim_of : {A : Type 0} → (A → Language) → Claim
claim_of U = record {
  left = λ word spot ts. (front : List Lexeme) × (w : Lexeme) × (ts ≡ front ++ w ∷ []) × IsLeftWord word spot w × MayGo U front;
  deep = λ ts. Begun U ts;
}

module _ {A B : Type 0} (p : List Lexeme) (U : A → Language) (V : B → Language) where
  pub sends_of : ((ts : List Lexeme) → Begun U ts → Begun V (p ++ ts)) → Sends p (claim_of U) (claim_of V)
  sends_of f = (
    (λ word spot ts h. (
      p ++ h.0,
      h.1,
      ap (λ (l : List Lexeme). p ++ l) h.2 ∙ sym (append_assoc p h.0 (h.1 ∷ [])),
      h.3,
      (h.4.0, h.4.1, subst (λ (l : List Lexeme). Begun V l) (sym (append_assoc p h.0 (h.4.0 ∷ []))) (f (h.0 ++ h.4.0 ∷ []) h.4.2)),
    )),
    f,
  )

  pub begun_on : (k : A → B) → ((x : A) (ts : List Lexeme) → U x ts → V (k x) (p ++ ts)) → Sends p (claim_of U) (claim_of V)
  begun_on k lift = sends_of (λ ts h. (k h.0, h.1, subst (λ (l : List Lexeme). V (k h.0) l) (sym (append_assoc p ts h.1)) (lift h.0 (ts ++ h.1) h.2)))

module _ {A B : Type 0} (U : A → Language) (V : B → Language) (q : List Lexeme) where
  pub begun_before : (k : A → B) → ((x : A) (ts : List Lexeme) → U x ts → V (k x) (ts ++ q)) → Sends [] (claim_of U) (claim_of V)
  begun_before k lift = sends_of [] U V (λ ts h. (k h.0, h.1 ++ q, subst (λ (l : List Lexeme). V (k h.0) l) (append_assoc ts h.1 q) (lift h.0 (ts ++ h.1) h.2)))

-- ---- combined readers

module _ {A B : Type 0} (first : Reader A) (second : Reader B) (P : A → Language) (M V : B → Language) (F G : TokenKind → Type 0) where
  abbrev pub Joined : Type 0
  Joined = (y : B) (ts rest : List Lexeme) → M y ts → Follows G rest → Follows F (ts ++ rest)

  pub both_claimed : Leaf never first P F → Reads (claim_of V) second M V G → Joined → Reads (claim_of {A = A × B} (λ p. P p.0 · V p.1)) (read_both first second) (λ p. P p.0 · M p.1) (λ p. P p.0 · V p.1) G
  both_claimed r s joins =
      both_up never (claim_of V) (claim_of {A = A × B} (λ p. P p.0 · V p.1)) first second P P M V F G r s joins
      (sends_never [] (claim_of {A = A × B} (λ p. P p.0 · V p.1)), (λ x ts h. begun_on {B = A × B} ts V (λ p. P p.0 · V p.1) (λ y. (x, y)) (λ y us k. (ts, us, refl, h, k))))

  pub after_claimed : Leaf never first P F → Reads (claim_of V) second M V G → Joined → Reads (claim_of (λ y. any P · V y)) (after first second) (λ y. any P · M y) (λ y. any P · V y) G
  after_claimed r s joins =
      after_up never (claim_of V) (claim_of (λ y. any P · V y)) first second P P M V F G r s joins
      (sends_never [] (claim_of (λ y. any P · V y)), (λ x ts h. begun_on ts V (λ y. any P · V y) (λ y. y) (λ y us k. (ts, us, refl, (x, h), k))))

module _ {A B : Type 0} (first : Reader A) (second : Reader B) (L U : A → Language) (M : B → Language) (F G : TokenKind → Type 0) where
  pub before_claimed : Reads (claim_of U) first L U F → Leaf never second M G → ((y : B) (ts rest : List Lexeme) → M y ts → Follows G rest → Follows F (ts ++ rest))
      → Reads (claim_of (λ x. U x · any M)) (read_before first second) (λ x. L x · any M) (λ x. U x · any M) G
  before_claimed r s joins =
      before_up (claim_of U) never (claim_of (λ x. U x · any M)) first second L U M M F G r s joins
      (begun_before U (λ x. U x · any M) s.example (λ x. x) (λ x ts h. (ts, s.example, refl, h, (s.value, s.spelled))), (λ x ts h. sends_never ts (claim_of (λ x. U x · any M))))

module _ {A B : Type 0} (f : A → B) (reader : Reader A) (L U : A → Language) (F : TokenKind → Type 0) where
  pub mapped_claimed : Reads (claim_of U) reader L U F → Reads (claim_of (seen f U)) (mapped f reader) (seen f L) (seen f U) F
  mapped_claimed r =
      reclaimed (claim_of U) (claim_of (seen f U)) (mapped f reader) (seen f L) (seen f U) F (begun_on [] U (seen f U) f (λ x us k. (x, refl, k))) (mapped_up (claim_of U) f reader L U F r)

module _ {A : Type 0} (reader : Reader A) (L U M V : A → Language) (F : TokenKind → Type 0) where
  pub respelled_claimed : ((x : A) (ts : List Lexeme) → L x ts → M x ts) → ((x : A) (ts : List Lexeme) → M x ts → L x ts) → ((x : A) (ts : List Lexeme) → U x ts → V x ts) → Reads (claim_of U) reader L U F → Reads (claim_of V) reader M V F
  respelled_claimed to from up r =
      reclaimed (claim_of U) (claim_of V) reader M V F (begun_on [] U V (λ x. x) up) (respelled_up (claim_of U) reader L U M V F to from up r)

-- a value in the last part of a language is one in the whole
pub out : {A : Type 0} (p q : Language) (r : A → Language) → ((ts : List Lexeme) → q ts → (x : A) × r x ts) → (ts : List Lexeme) → (p · q) ts → (x : A) × (p · r x) ts
out p q r f ts h = let k = f h.1 h.4 in (k.0, (h.0, h.1, h.2, h.3, k.1))

pub into : {A : Type 0} (p q : Language) (r : A → Language) → ((x : A) (ts : List Lexeme) → r x ts → q ts) → (x : A) (ts : List Lexeme) → (p · r x) ts → (p · q) ts
into p q r f x ts h = (h.0, h.1, h.2, h.3, f x h.1 h.4)
