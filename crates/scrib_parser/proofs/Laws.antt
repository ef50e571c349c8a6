-- Readers with one token of look-ahead against the languages of a grammar: the laws of each way to combine readers.
use Rattle.std.proofs.Common.{◌≡◌, List, [], ◌∷◌, ◌++◌, Result, Ok, Err, refl, sym, ap, subst, ◌∙◌, append_assoc, inl, inr}
use Rattle.std.specs.Prelude.{◌⊎◌}
use Rattle.scrib_lexer.specs.declared.token.TokenKind.{TokenKind}
use Rattle.scrib_lexer.specs.declared.token.TokenKind.TheVariants.{OpenBrace}
use Rattle.scrib_lexer.specs.Lexeme.{Lexeme}
use Rattle.scrib_parser.specs.declared.fault.ParseFault.{ParseFault}
use Rattle.scrib_parser.specs.declared.fault.ParseFault.TheVariants.{Unexpected, EndOfText, LeftOut, TooDeep, OutOfMemory}
use Rattle.scrib_parser.specs.declared.fault.LeftOutWord.{LeftOutWord}
use Rattle.scrib_types.specs.declared.spot.Spot.{Spot}
use Rattle.scrib_parser.specs.Grammar.{Language, ◌·◌}
use Rattle.scrib_parser.specs.Reading.{Reader, ◌>>=◌, chain}

-- what may follow a value without being read with it: the end, or a token of such a kind
abbrev pub Follows : (TokenKind → Type 0) → List Lexeme → Type 0
Follows F [] = Unit {0}
Follows F (t ∷ ts) = F t.kind

-- any token
abbrev pub free : TokenKind → Type 0
free kind = Unit {0}

pub follows_free : (ts : List Lexeme) → Follows free ts
follows_free [] = tt
follows_free (t ∷ ts) = tt

-- the tokens begin some value's spelling
abbrev pub Begun : {A : Type 0} → (A → Language) → List Lexeme → Type 0
Begun {A} L ts = (value : A) × (more : List Lexeme) × L value (ts ++ more)

-- Two claims: one of the tokens after which a word and its place are reported as left out, and one of the tokens up to
-- a brace that opens one level too many.
pub record Claim : Type 1 where
  pub left : LeftOutWord → Spot → List Lexeme → Type 0
  pub deep : List Lexeme → Type 0

-- a reader with neither fault
abbrev pub never : Claim
never = record { left = λ word spot ts. ⊥; deep = λ ts. ⊥ }

-- a claim that holds after some tokens holds with them in front
abbrev pub Sends : List Lexeme → Claim → Claim → Type 0
Sends front C D =
    ((word : LeftOutWord) (spot : Spot) (ts : List Lexeme) → C.left word spot ts → D.left word spot (front ++ ts)) × ((ts : List Lexeme) → C.deep ts → D.deep (front ++ ts))

pub sends_never : (front : List Lexeme) (D : Claim) → Sends front never D
sends_never front D = ((λ word spot ts h. absurd h), (λ ts h. absurd h))

pub sends_same : (C : Claim) → Sends [] C C
sends_same C = ((λ word spot ts h. h), (λ ts h. h))

-- the cause for which reading stops between the tokens in front and the rest
abbrev pub IsCause : Claim → (front rest : List Lexeme) → ParseFault → Type 0
IsCause C front rest EndOfText = rest ≡ []
IsCause C front rest (Unexpected spot) = (u : Lexeme) × (us : List Lexeme) × (rest ≡ u ∷ us) × (u.spot ≡ spot)
IsCause C front rest (LeftOut word spot) =
    (u : Lexeme) × (us : List Lexeme) × (rest ≡ u ∷ us) × C.left word spot front
IsCause C front rest (TooDeep spot) =
    (u : Lexeme) × (us : List Lexeme) × (rest ≡ u ∷ us) × (u.kind ≡ OpenBrace) × (u.spot ≡ spot) × C.deep (front ++ u ∷ [])
IsCause C front rest OutOfMemory = ⊥

pub cause_on : (p : List Lexeme) (C D : Claim) → Sends p C D → (front rest : List Lexeme) (f : ParseFault) → IsCause C front rest f → IsCause D (p ++ front) rest f
cause_on p C D s front rest EndOfText h = h
cause_on p C D s front rest (Unexpected spot) h = h
cause_on p C D s front rest (LeftOut word spot) h = (h.0, h.1, h.2, s.0 word spot front h.3)
cause_on p C D s front rest (TooDeep spot) h =
    (h.0, h.1, h.2, h.3, h.4, subst D.deep (sym (append_assoc p front (h.0 ∷ []))) (s.1 (front ++ h.0 ∷ []) h.5))
cause_on p C D s front rest OutOfMemory h = h

-- A value that was read is spelled by the tokens before the rest. It would be read with any other tokens after the
-- rest's first one.
pub record Taken {A : Type 0} (reader : Reader A) (language : A → Language) (ts : List Lexeme) (x : A) (rest : List Lexeme) : Type 0 where
  pub front : List Lexeme
  pub parts : ts ≡ front ++ rest
  pub spelled : language x front
  pub again : (u : Lexeme) (us vs : List Lexeme) → rest ≡ u ∷ us → reader (front ++ u ∷ vs) ≡ Ok (x, u ∷ vs)

-- The tokens before a fault begin some value's spelling. With the token at the fault reading stops there, whatever
-- tokens follow it.
pub record Stopped {A : Type 0} (C : Claim) (reader : Reader A) (language : A → Language) (ts : List Lexeme) (f : ParseFault) : Type 0 where
  pub front : List Lexeme
  pub rest : List Lexeme
  pub parts : ts ≡ front ++ rest
  pub cause : IsCause C front rest f
  pub value : A
  pub more : List Lexeme
  pub spelled : language value (front ++ more)
  pub again : (u : Lexeme) (us vs : List Lexeme) → rest ≡ u ∷ us → reader (front ++ u ∷ vs) ≡ Err f

-- The reader reads the language's values, where such a token or none follows. Of a text that it stops in, the tokens
-- that it read begin a spelling of the wider language.
pub record Reads {A : Type 0} (C : Claim) (reader : Reader A) (language wide : A → Language) (F : TokenKind → Type 0) : Type 0 where
  pub taken : (ts : List Lexeme) (x : A) (rest : List Lexeme) → reader ts ≡ Ok (x, rest) → Taken reader language ts x rest
  pub again : (front : List Lexeme) (x : A) (rest : List Lexeme) → language x front → Follows F rest → reader (front ++ rest) ≡ Ok (x, rest)
  pub stopped : (ts : List Lexeme) (f : ParseFault) → reader ts ≡ Err f → Stopped C reader wide ts f
  pub wider : (x : A) (ts : List Lexeme) → language x ts → wide x ts
  pub value : A
  pub example : List Lexeme
  pub spelled : wide value example

-- the same of a reader that stops in no part of a wider language
abbrev pub Leaf : {A : Type 0} → Claim → Reader A → (A → Language) → (TokenKind → Type 0) → Type 0
Leaf C reader L F = Reads C reader L L F

-- ---- small steps

abbrev pub done : {A : Type 0} → A → Result A ParseFault
done x = Ok x

pub ok_is : {A : Type 0} (x y : A) → done x ≡ done y → x ≡ y
ok_is x y e = cc

abbrev failed : {A : Type 0} → ParseFault → Result A ParseFault
failed f = Err f

pub err_is : {A : Type 0} (f g : ParseFault) → failed {A = A} f ≡ failed {A = A} g → f ≡ g
err_is f g e = cc

-- a step that did not fail
pub bind_ok : {A B : Type 0} (r : Result A ParseFault) (f : A → Result B ParseFault) (y : B) → (r >>= f) ≡ Ok y → (x : A) × (r ≡ Ok x) × (f x ≡ Ok y)
bind_ok (Ok x) f y e = (x, refl, e)
bind_ok (Err d) f y e = absurd cc

-- a step that failed: at its first part or at its second
pub bind_err : {A B : Type 0} (r : Result A ParseFault) (f : A → Result B ParseFault) (d : ParseFault) → (r >>= f) ≡ Err d → (r ≡ Err d) ⊎ ((x : A) × (r ≡ Ok x) × (f x ≡ Err d))
bind_err (Ok x) f d e = inr (x, refl, e)
bind_err (Err g) f d e = inl (ap (λ (h : ParseFault). Err h) (err_is g d e))

-- a fact of a list that begins with a part, from the same fact of that part
pub carried : (P : List Lexeme → Type 0) (mid part : List Lexeme) → ((u : Lexeme) (us vs : List Lexeme) → mid ≡ u ∷ us → P (u ∷ vs))
    → (u : Lexeme) (us vs : List Lexeme) → mid ≡ part ++ u ∷ us → P (part ++ u ∷ vs)
carried P mid [] h u us vs e = h u us vs e
carried P mid (v ∷ part) h u us vs e = h v (part ++ u ∷ us) (part ++ u ∷ vs) e

-- ---- the second after the first

module _ {A B : Type 0} (first : Reader A) (second : A → Reader B) (L U : A → Language) (M V : A → B → Language) (F G : TokenKind → Type 0) (C : Claim) (D : A → Claim) (E : Claim) where
  abbrev pub chained : B → Language
  chained y ts = (x : A) × (L x · M x y) ts

  abbrev pub widely : B → Language
  widely y ts = (x : A) × (U x · V x y) ts

  chain_taken : Reads C first L U F → ((x : A) → Reads (D x) (second x) (M x) (V x) G) → (ts : List Lexeme) (y : B) (rest : List Lexeme) → chain first second ts ≡ Ok (y, rest) → Taken (chain first second) chained ts y rest
  chain_taken r s ts y rest e =
      let a = bind_ok (first ts) (λ x. second x.0 x.1) (y, rest) e in
      let t = r.taken ts a.0.0 a.0.1 a.1 in
      let w = (s a.0.0).taken a.0.1 y rest a.2 in
      record {
        front = t.front ++ w.front;
        parts = t.parts ∙ ap (λ (l : List Lexeme). t.front ++ l) w.parts ∙ sym (append_assoc t.front w.front rest);
        spelled = (a.0.0, (t.front, w.front, refl, t.spelled, w.spelled));
        again = λ u us vs h.
            let one : first (t.front ++ (w.front ++ u ∷ vs)) ≡ Ok (a.0.0, w.front ++ u ∷ vs) = carried (λ (l : List Lexeme). first (t.front ++ l) ≡ Ok (a.0.0, l)) a.0.1 w.front t.again u us vs (w.parts ∙ ap (λ (l : List Lexeme). w.front ++ l) h) in
            ap (chain first second) (append_assoc t.front w.front (u ∷ vs)) ∙ rw one (w.again u us vs h);
      }

  chain_again : Reads C first L U F → ((x : A) → Reads (D x) (second x) (M x) (V x) G) → ((x : A) (y : B) (ts rest : List Lexeme) → M x y ts → Follows G rest → Follows F (ts ++ rest))
      → (front : List Lexeme) (y : B) (rest : List Lexeme) → chained y front → Follows G rest → chain first second (front ++ rest) ≡ Ok (y, rest)
  chain_again r s joins front y rest h fits =
      let x = h.0 in
      let one = r.again h.1.0 x (h.1.1 ++ rest) h.1.3 (joins x y h.1.1 rest h.1.4 fits) in
      let two = (s x).again h.1.1 y rest h.1.4 fits in
      ap (λ (l : List Lexeme). chain first second (l ++ rest)) h.1.2 ∙ ap (chain first second) (append_assoc h.1.0 h.1.1 rest) ∙ rw one two

  -- the claims of the two readers hold of both together
  abbrev pub Brings : Type 0
  Brings = Sends [] C E × ((x : A) (ts : List Lexeme) → L x ts → Sends ts (D x) E)

  chain_stopped : Reads C first L U F → ((x : A) → Reads (D x) (second x) (M x) (V x) G) → Brings → (ts : List Lexeme) (f : ParseFault) → chain first second ts ≡ Err f → Stopped E (chain first second) widely ts f
  chain_stopped r s brings ts f e = at (bind_err (first ts) (λ x. second x.0 x.1) f e)
    where
      at : (first ts ≡ Err f) ⊎ ((x : A × List Lexeme) × (first ts ≡ Ok x) × (second x.0 x.1 ≡ Err f)) → Stopped E (chain first second) widely ts f
      at (inl h) =
          let t = r.stopped ts f h in
          let w = s t.value in
          record {
            front = t.front;
            rest = t.rest;
            parts = t.parts;
            cause = cause_on [] C E brings.0 t.front t.rest f t.cause;
            value = w.value;
            more = t.more ++ w.example;
            spelled = (t.value, (t.front ++ t.more, w.example, sym (append_assoc t.front t.more w.example), t.spelled, w.spelled));
            again = λ u us vs k. rw (t.again u us vs k) refl;
          }
      at (inr a) =
          let t = r.taken ts a.0.0 a.0.1 a.1 in
          let w = (s a.0.0).stopped a.0.1 f a.2 in
          record {
            front = t.front ++ w.front;
            rest = w.rest;
            parts = t.parts ∙ ap (λ (l : List Lexeme). t.front ++ l) w.parts ∙ sym (append_assoc t.front w.front w.rest);
            cause = cause_on t.front (D a.0.0) E (brings.1 a.0.0 t.front t.spelled) w.front w.rest f w.cause;
            value = w.value;
            more = w.more;
            spelled = (a.0.0, (t.front, w.front ++ w.more, append_assoc t.front w.front w.more, r.wider a.0.0 t.front t.spelled, w.spelled));
            again = λ u us vs h.
                let one : first (t.front ++ (w.front ++ u ∷ vs)) ≡ Ok (a.0.0, w.front ++ u ∷ vs) = carried (λ (l : List Lexeme). first (t.front ++ l) ≡ Ok (a.0.0, l)) a.0.1 w.front t.again u us vs (w.parts ∙ ap (λ (l : List Lexeme). w.front ++ l) h) in
                ap (chain first second) (append_assoc t.front w.front (u ∷ vs)) ∙ rw one (w.again u us vs h);
          }

  pub chain_reads : Reads C first L U F → ((x : A) → Reads (D x) (second x) (M x) (V x) G) → ((x : A) (y : B) (ts rest : List Lexeme) → M x y ts → Follows G rest → Follows F (ts ++ rest)) → Brings → Reads E (chain first second) chained widely G
  chain_reads r s joins brings = record {
    taken = chain_taken r s;
    again = chain_again r s joins;
    stopped = chain_stopped r s brings;
    wider = λ y ts h. (h.0, (h.1.0, h.1.1, h.1.2, r.wider h.0 h.1.0 h.1.3, (s h.0).wider y h.1.1 h.1.4));
    value = (s r.value).value;
    example = r.example ++ (s r.value).example;
    spelled = (r.value, (r.example, (s r.value).example, refl, r.spelled, (s r.value).spelled));
  }

-- the same with a stronger claim
module _ {A : Type 0} (C D : Claim) (reader : Reader A) (L U : A → Language) (F : TokenKind → Type 0) where
  pub reclaimed : Sends [] C D → Reads C reader L U F → Reads D reader L U F
  reclaimed s r = record {
    taken = r.taken;
    again = r.again;
    stopped = λ ts f e.
        let t = r.stopped ts f e in
        record { front = t.front; rest = t.rest; parts = t.parts; cause = cause_on [] C D s t.front t.rest f t.cause; value = t.value; more = t.more; spelled = t.spelled; again = t.again };
    wider = r.wider;
    value = r.value;
    example = r.example;
    spelled = r.spelled;
  }
