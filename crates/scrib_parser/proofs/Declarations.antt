-- Reading declarations, as a loop does that keeps the protocols alone.
use Rattle.std.proofs.Common.{◌≡◌, ℕ, true, false, List, [], ◌∷◌, ◌++◌, Option, Some, None, Ok, Err, refl, sym, ap, ◌∙◌, append_assoc}
use Rattle.std.proofs.lemmas.List.{append-nil}
use Rattle.scrib_lexer.specs.Lexeme.{Lexeme}
use Rattle.scrib_parser.specs.declared.fault.ParseFault.{ParseFault}
use Rattle.scrib_parser.specs.declared.fault.ParseFault.TheVariants.{Unexpected, EndOfText, LeftOut, TooDeep, OutOfMemory}
use Rattle.scrib_tree.specs.declared.tree.ProtocolDeclaration.{ProtocolDeclaration}
use Rattle.scrib_parser.specs.Grammar.{kept}
use Rattle.scrib_parser.specs.Reading.{ReadResult, ◌>>=◌, Stops, begins, repeated, read_declaration, begins_declaration, declarations_of}
use Rattle.scrib_parser.proofs.Repetition.{repeated_ends, repeated_goes}
use Rattle.scrib_parser.proofs.Loop.{with_front}
use Rattle.scrib_parser.proofs.Modules.{declaration_takes}

abbrev Declarations : Type 0
Declarations = ReadResult (List (Option ProtocolDeclaration))

abbrev Protocols : Type 0
Protocols = ReadResult (List ProtocolDeclaration)

abbrev keep : Declarations → Protocols
keep read = read >>= λ x. Ok (kept x.0, x.1)

one_kept : (front : List ProtocolDeclaration) (p : ProtocolDeclaration) (read : Declarations) → with_front front (keep (read >>= λ xs. Ok (Some p ∷ xs.0, xs.1))) ≡ with_front (front ++ p ∷ []) (keep read)
one_kept front p (Ok xs) = ap (λ (l : List ProtocolDeclaration). Ok (l, xs.1)) (simp append_assoc)
one_kept front p (Err f) = refl

none_kept : (front : List ProtocolDeclaration) (read : Declarations) → with_front front (keep (read >>= λ xs. Ok (None ∷ xs.0, xs.1))) ≡ with_front front (keep read)
none_kept front (Ok xs) = refl
none_kept front (Err f) = refl

module _ (levels : ℕ) (front : List ProtocolDeclaration) (ts : List Lexeme) (total : Protocols) where
  goes : begins begins_declaration ts ≡ true → repeated begins_declaration (read_declaration levels) ts ≡ (read_declaration levels ts >>= λ x. repeated begins_declaration (read_declaration levels) x.1 >>= λ xs. Ok (x.0 ∷ xs.0, xs.1))
  goes b = repeated_goes begins_declaration (read_declaration levels) (declaration_takes levels) ts b

  pub keeps : (p : ProtocolDeclaration) (rest : List Lexeme) → begins begins_declaration ts ≡ true → read_declaration levels ts ≡ Ok (Some p, rest) → with_front front (declarations_of levels ts) ≡ total → with_front (front ++ p ∷ []) (declarations_of levels rest) ≡ total
  unfolding declarations_of
  keeps p rest b h so_far =
      let one : with_front front (declarations_of levels ts) ≡ with_front (front ++ p ∷ []) (declarations_of levels rest) =
      ap (λ (r : Declarations). with_front front (keep r)) (goes b) ∙ rw h (one_kept front p (repeated begins_declaration (read_declaration levels) rest)) in
      sym one ∙ so_far

  pub skips : (rest : List Lexeme) → begins begins_declaration ts ≡ true → read_declaration levels ts ≡ Ok (None, rest) → with_front front (declarations_of levels ts) ≡ total → with_front front (declarations_of levels rest) ≡ total
  unfolding declarations_of
  skips rest b h so_far =
      let one : with_front front (declarations_of levels ts) ≡ with_front front (declarations_of levels rest) =
      ap (λ (r : Declarations). with_front front (keep r)) (goes b) ∙ rw h (none_kept front (repeated begins_declaration (read_declaration levels) rest)) in
      sym one ∙ so_far

  refused : (f : ParseFault) → begins begins_declaration ts ≡ true → read_declaration levels ts ≡ Err f → with_front front (declarations_of levels ts) ≡ total → total ≡ Err f
  unfolding declarations_of
  refused f b h so_far = sym so_far ∙ ap (λ (r : Declarations). with_front front (keep r)) (goes b) ∙ rw h refl

  pub refuses : (f : ParseFault) → begins begins_declaration ts ≡ true → Stops f (read_declaration levels ts) → with_front front (declarations_of levels ts) ≡ total → Stops f total
  refuses (Unexpected spot) b h so_far = refused (Unexpected spot) b h so_far
  refuses EndOfText b h so_far = refused EndOfText b h so_far
  refuses (LeftOut word spot) b h so_far = refused (LeftOut word spot) b h so_far
  refuses (TooDeep spot) b h so_far = refused (TooDeep spot) b h so_far
  refuses OutOfMemory b h so_far = tt

  pub ended : begins begins_declaration ts ≡ false → with_front front (declarations_of levels ts) ≡ total → total ≡ Ok (front, ts)
  unfolding declarations_of
  ended b so_far =
      let one : with_front front (declarations_of levels ts) ≡ Ok (front, ts) =
      ap (λ (r : Declarations). with_front front (keep r)) (repeated_ends begins_declaration (read_declaration levels) (declaration_takes levels) ts b) ∙ ap (λ (l : List ProtocolDeclaration). Ok (l, ts)) (append-nil front) in
      sym so_far ∙ one
