-- The laws of reading one token.
use Rattle.std.proofs.Common.{◌≡◌, ℕ, Bool, true, false, cond, List, [], ◌∷◌, ◌++◌, Option, Some, None, Ok, Err, refl, sym, ap, subst, ◌∙◌}
use Rattle.std.specs.Prelude.{◌&&◌}
use Rattle.scrib_types.specs.Names.{is_name}
use Rattle.scrib_types.specs.declared.spot.Spot.{Spot}
use Rattle.scrib_lexer.specs.declared.token.Keyword as keyword
use Rattle.scrib_lexer.specs.declared.token.Keyword.TheVariants as words
use Rattle.scrib_lexer.specs.declared.token.TokenKind.{TokenKind}
use Rattle.scrib_lexer.specs.declared.token.TokenKind.TheVariants.{Name, Keyword, StringLiteral, Semicolon, Comma, Dot, Colon, OpenParen, CloseParen, OpenBrace, CloseBrace, OpenAngle, CloseAngle}
use Rattle.scrib_lexer.specs.Lexeme.{Lexeme}
use Rattle.scrib_parser.specs.declared.fault.ParseFault.{ParseFault}
use Rattle.scrib_parser.specs.declared.fault.ParseFault.TheVariants.{Unexpected, EndOfText}
use Rattle.scrib_parser.specs.Grammar.{Language, lexeme, spotted_token, name, name_at}
use Rattle.scrib_parser.specs.Reading.{same_word, same_kind, given, lexeme_at, mapped, token_of, read_name, placed_name_of}
use Rattle.scrib_parser.proofs.Laws.{free, never, IsCause, Taken, Stopped, Reads, ok_is, err_is}
use Rattle.scrib_parser.proofs.Combinations.{respelled, seen, mapped_reads}

-- ---- kinds

pub same_word-refl : (word : keyword.Keyword) → same_word word word ≡ true
same_word-refl words.Module = refl
same_word-refl words.Import = refl
same_word-refl words.As = refl
same_word-refl words.Type = refl
same_word-refl words.From = refl
same_word-refl words.To = refl
same_word-refl words.Global = refl
same_word-refl words.Protocol = refl
same_word-refl words.Role = refl
same_word-refl words.Choice = refl
same_word-refl words.At = refl
same_word-refl words.Or = refl
same_word-refl words.Rec = refl
same_word-refl words.Continue = refl
same_word-refl words.Do = refl

pub same_kind-refl : (kind : TokenKind) → same_kind kind kind ≡ true
same_kind-refl Name = refl
same_kind-refl (Keyword word) = same_word-refl word
same_kind-refl StringLiteral = refl
same_kind-refl Semicolon = refl
same_kind-refl Comma = refl
same_kind-refl Dot = refl
same_kind-refl Colon = refl
same_kind-refl OpenParen = refl
same_kind-refl CloseParen = refl
same_kind-refl OpenBrace = refl
same_kind-refl CloseBrace = refl
same_kind-refl OpenAngle = refl
same_kind-refl CloseAngle = refl

pub word_is : (a b : keyword.Keyword) → same_word a b ≡ true → a ≡ b
word_is words.Module words.Module e = refl
word_is words.Import words.Import e = refl
word_is words.As words.As e = refl
word_is words.Type words.Type e = refl
word_is words.From words.From e = refl
word_is words.To words.To e = refl
word_is words.Global words.Global e = refl
word_is words.Protocol words.Protocol e = refl
word_is words.Role words.Role e = refl
word_is words.Choice words.Choice e = refl
word_is words.At words.At e = refl
word_is words.Or words.Or e = refl
word_is words.Rec words.Rec e = refl
word_is words.Continue words.Continue e = refl
word_is words.Do words.Do e = refl
word_is _ _ e = absurd cc

pub kind_is : (a b : TokenKind) → same_kind a b ≡ true → a ≡ b
kind_is Name Name e = refl
kind_is (Keyword a) (Keyword b) e = ap Keyword (word_is a b e)
kind_is StringLiteral StringLiteral e = refl
kind_is Semicolon Semicolon e = refl
kind_is Comma Comma e = refl
kind_is Dot Dot e = refl
kind_is Colon Colon e = refl
kind_is OpenParen OpenParen e = refl
kind_is CloseParen CloseParen e = refl
kind_is OpenBrace OpenBrace e = refl
kind_is CloseBrace CloseBrace e = refl
kind_is OpenAngle OpenAngle e = refl
kind_is CloseAngle CloseAngle e = refl
kind_is _ _ e = absurd cc

pub same_kind-of : (a b : TokenKind) → b ≡ a → same_kind a b ≡ true
same_kind-of a b e = subst (λ (k : TokenKind). same_kind a k ≡ true) (sym e) (same_kind-refl a)

-- ---- one token

module _ {A : Type 0} (test : Lexeme → Option A) where
  abbrev pub passing : A → Language
  passing x = lexeme (λ t. test t ≡ Some x)

  given_ok : (o : Option A) (t : Lexeme) (ts : List Lexeme) (x : A) (rest : List Lexeme) → given o t ts ≡ Ok (x, rest) → (o ≡ Some x) × (ts ≡ rest)
  given_ok (Some y) t ts x rest e = let k = ok_is (y, ts) (x, rest) e in (ap (λ (p : A × List Lexeme). Some p.0) k, ap (λ (p : A × List Lexeme). p.1) k)
  given_ok None t ts x rest e = absurd cc

  given_err : (o : Option A) (t : Lexeme) (ts : List Lexeme) (f : ParseFault) → given o t ts ≡ Err f → (o ≡ None) × (f ≡ Unexpected t.spot)
  given_err (Some y) t ts f e = absurd cc
  given_err None t ts f e = (refl, sym (err_is {A = A × List Lexeme} (Unexpected t.spot) f e))

  passing_taken : (ts : List Lexeme) (x : A) (rest : List Lexeme) → lexeme_at test ts ≡ Ok (x, rest) → Taken (lexeme_at test) passing ts x rest
  passing_taken [] x rest e = absurd cc
  passing_taken (t ∷ ts) x rest e =
      let k = given_ok (test t) t ts x rest e in
      record { front = t ∷ []; parts = ap (λ (l : List Lexeme). t ∷ l) k.1; spelled = (t, refl, k.0); again = λ u us vs h. rw k.0 refl }

  passing_stopped : (x : A) (t : Lexeme) → test t ≡ Some x → (ts : List Lexeme) (f : ParseFault) → lexeme_at test ts ≡ Err f → Stopped never (lexeme_at test) passing ts f
  passing_stopped x s h [] f e =
      record { front = []; rest = []; parts = refl; cause = subst (λ (g : ParseFault). IsCause never [] [] g) (err_is {A = A × List Lexeme} EndOfText f e) refl; value = x; more = s ∷ []; spelled = (s, refl, h); again = λ u us vs k. absurd cc }
  passing_stopped x s h (t ∷ ts) f e =
      let k = given_err (test t) t ts f e in
      record {
        front = [];
        rest = t ∷ ts;
        parts = refl;
        cause = subst (λ (g : ParseFault). IsCause never [] (t ∷ ts) g) (sym k.1) (t, ts, refl, refl);
        value = x;
        more = s ∷ [];
        spelled = (s, refl, h);
        again = λ u us vs m.
            let same : t ≡ u = cc in
            let no : test u ≡ None = ap test (sym same) ∙ k.0 in
            rw (no, k.1) (ap (λ (v : Lexeme). Err (Unexpected v.spot)) (sym same));
      }

  pub passing_reads : (x : A) (t : Lexeme) → test t ≡ Some x → Reads never (lexeme_at test) passing passing free
  passing_reads x t h = record {
    taken = passing_taken;
    again = λ front y rest k fits. ap (λ (l : List Lexeme). lexeme_at test (l ++ rest)) k.1 ∙ rw k.2 refl;
    stopped = passing_stopped x t h;
    wider = λ y ts k. k;
    value = x;
    example = t ∷ [];
    spelled = (t, refl, h);
  }

pub if_some : {A : Type 0} (b : Bool) (x y : A) → cond b (Some x) None ≡ Some y → (b ≡ true) × (x ≡ y)
if_some true x y e = (refl, cc)
if_some false x y e = absurd cc

pub both_true : (a b : Bool) → (a && b) ≡ true → (a ≡ true) × (b ≡ true)
both_true true b e = (refl, e)
both_true false b e = absurd cc

-- any place
somewhere : Spot
somewhere = record { line = 1; column = 1 }

-- a token of this kind, with these bytes
some_token : TokenKind → List ℕ → Lexeme
some_token kind bytes = record { kind = kind; bytes = bytes; spot = somewhere }

-- a token of this kind, and its place
pub token_reads : (kind : TokenKind) → Reads never (token_of kind) (spotted_token kind) (spotted_token kind) free
unfolding token_of some_token
token_reads kind =
    let test : Lexeme → Option Spot = λ t. cond (same_kind kind t.kind) (Some t.spot) None in
    respelled never (lexeme_at test) (passing test) (spotted_token kind) free
    (λ spot ts h. let k = if_some (same_kind kind h.0.kind) h.0.spot spot h.2 in (h.0, h.1, (sym (kind_is kind h.0.kind k.0), k.1)))
    (λ spot ts h. (h.0, h.1, rw (same_kind-of kind h.0.kind h.2.0, h.2.1) refl))
    (passing_reads test somewhere (some_token kind []) (rw (same_kind-refl kind) refl))

-- a name, and its place
pub placed_name_reads : Reads never placed_name_of (λ p. name_at p.0 p.1) (λ p. name_at p.0 p.1) free
unfolding placed_name_of some_token
placed_name_reads =
    let test : Lexeme → Option (List ℕ × Spot) = λ t. cond (same_kind Name t.kind && is_name t.bytes) (Some (t.bytes, t.spot)) None in
    respelled never (lexeme_at test) (passing test) (λ p. name_at p.0 p.1) free
    (λ p ts h.
    let k = if_some (same_kind Name h.0.kind && is_name h.0.bytes) (h.0.bytes, h.0.spot) p h.2 in
    let m = both_true (same_kind Name h.0.kind) (is_name h.0.bytes) k.0 in
    let e : h.0.bytes ≡ p.0 = ap (λ (q : List ℕ × Spot). q.0) k.1 in
    (h.0, h.1, (sym (kind_is Name h.0.kind m.0), e, ap is_name (sym e) ∙ m.1, ap (λ (q : List ℕ × Spot). q.1) k.1)))
    (λ p ts h.
    let real : is_name h.0.bytes ≡ true = ap is_name h.2.1 ∙ h.2.2 in
    (h.0, h.1, rw (same_kind-of Name h.0.kind h.2.0, real) (λ i. Some (h.2.1 i, h.2.3 i))))
    (passing_reads test (97 ∷ [], somewhere) (some_token Name (97 ∷ [])) refl)

pub name_reads : Reads never read_name name name free
unfolding read_name
name_reads =
    let first : List ℕ × Spot → List ℕ = λ p. p.0 in
    let placed : List ℕ × Spot → Language = λ p. name_at p.0 p.1 in
    respelled never (mapped first placed_name_of) (seen first placed) name free
    (λ bytes ts h. (h.0.1, subst (λ (b : List ℕ). name_at b h.0.1 ts) h.1 h.2))
    (λ bytes ts h. ((bytes, h.0), refl, h.1))
    (mapped_reads never first placed_name_of placed free placed_name_reads)
