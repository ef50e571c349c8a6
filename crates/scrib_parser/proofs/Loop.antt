-- Reading one value after the other, as a loop does.
use Rattle.std.proofs.Common.{◌≡◌, Bool, true, false, List, [], ◌∷◌, ◌++◌, Ok, Err, refl, sym, ap, ◌∙◌, append_assoc}
use Rattle.std.proofs.lemmas.List.{append-nil}
use Rattle.scrib_types.specs.declared.spot.Spot.{Spot}
use Rattle.scrib_lexer.specs.declared.token.TokenKind.{TokenKind}
use Rattle.scrib_lexer.specs.Lexeme.{Lexeme}
use Rattle.scrib_parser.specs.declared.fault.ParseFault.{ParseFault}
use Rattle.scrib_parser.specs.declared.fault.ParseFault.TheVariants.{Unexpected, EndOfText, LeftOut, TooDeep, OutOfMemory}
use Rattle.scrib_parser.specs.Reading.{Reader, ReadResult, ◌>>=◌, Stops, begins, repeated, token_of, after}
use Rattle.scrib_parser.proofs.Repetition.{Takes, repeated_ends, repeated_goes}

-- the values that were read, and those that are still read
abbrev pub with_front : {A : Type 0} → List A → ReadResult (List A) → ReadResult (List A)
with_front front read = read >>= λ x. Ok (front ++ x.0, x.1)

regroup : {A : Type 0} (front : List A) (x : A) (read : ReadResult (List A)) → with_front front (read >>= λ xs. Ok (x ∷ xs.0, xs.1)) ≡ with_front (front ++ x ∷ []) read
regroup front x (Ok xs) = ap (λ (l : List _). Ok (l, xs.1)) (simp append_assoc)
regroup front x (Err f) = refl

module _ {A : Type 0} (test : TokenKind → Bool) (item : Reader A) (takes : Takes test item) (front : List A) (ts : List Lexeme) (total : ReadResult (List A)) where
  -- one more was read
  pub goes_on : (x : A) (rest : List Lexeme) → begins test ts ≡ true → item ts ≡ Ok (x, rest) → with_front front (repeated test item ts) ≡ total → with_front (front ++ x ∷ []) (repeated test item rest) ≡ total
  goes_on x rest b h so_far =
      let one : with_front front (repeated test item ts) ≡ with_front (front ++ x ∷ []) (repeated test item rest)
      = ap (with_front front) (repeated_goes test item takes ts b) ∙ rw h (regroup front x (repeated test item rest)) in
      sym one ∙ so_far

  -- one more can't be read
  pub fails : (f : ParseFault) → begins test ts ≡ true → Stops f (item ts) → with_front front (repeated test item ts) ≡ total → Stops f total
  fails (Unexpected spot) b h so_far = sym so_far ∙ ap (with_front front) (repeated_goes test item takes ts b) ∙ rw h refl
  fails EndOfText b h so_far = sym so_far ∙ ap (with_front front) (repeated_goes test item takes ts b) ∙ rw h refl
  fails (LeftOut word spot) b h so_far = sym so_far ∙ ap (with_front front) (repeated_goes test item takes ts b) ∙ rw h refl
  fails (TooDeep spot) b h so_far = sym so_far ∙ ap (with_front front) (repeated_goes test item takes ts b) ∙ rw h refl
  fails OutOfMemory b h so_far = tt

  -- no more is read
  pub is_done : begins test ts ≡ false → with_front front (repeated test item ts) ≡ total → total ≡ Ok (front, ts)
  is_done b so_far =
      let one : with_front front (repeated test item ts) ≡ Ok (front, ts) = ap (with_front front) (repeated_ends test item takes ts b) ∙ ap (λ (l : List A). Ok (l, ts)) (append-nil front) in
      sym so_far ∙ one

-- ---- the value after a mark

module _ {A : Type 0} (mark : TokenKind) (item : Reader A) (ts : List Lexeme) where
  pub behind_mark : (spot : Spot) (mid : List Lexeme) (x : A) (rest : List Lexeme) → token_of mark ts ≡ Ok (spot, mid) → item mid ≡ Ok (x, rest) → after (token_of mark) item ts ≡ Ok (x, rest)
  behind_mark spot mid x rest h k = rw h k

  pub no_mark : (f : ParseFault) → Stops f (token_of mark ts) → Stops f (after (token_of mark) item ts)
  no_mark (Unexpected spot) h = rw h refl
  no_mark EndOfText h = rw h refl
  no_mark (LeftOut word spot) h = rw h refl
  no_mark (TooDeep spot) h = rw h refl
  no_mark OutOfMemory h = tt

  pub none_behind_mark : (spot : Spot) (mid : List Lexeme) (f : ParseFault) → token_of mark ts ≡ Ok (spot, mid) → Stops f (item mid) → Stops f (after (token_of mark) item ts)
  none_behind_mark spot mid f h k = rw h k
