-- Bytes as lines and a part of a line.
use Rattle.std.proofs.Common.{◌≡◌, ◌≢◌, ◌∙◌, ℕ, List, [], ◌∷◌, ◌++◌, refl, sym, ap}
use Rattle.std.proofs.lemmas.List.{append_assoc, append-nil}
use Rattle.std.proofs.lemmas.List.Elements.{All-nil, All-append}
use Rattle.scrib_script_reader.specs.Scripts.{NoLf, lines}
use Rattle.scrib_script_reader.proofs.Bytes.{lines_lf}
use Rattle.scrib_labelled.specs.Splits.{IsSplit}

pub split_none : IsSplit [] [] []
split_none = record { at = λ more. refl; no_lf = All-nil (λ b. b ≢ 10) }

pub split_part : (seen : List ℕ) (before : List (List ℕ)) (part k : List ℕ) → IsSplit seen before part → NoLf k → IsSplit (seen ++ k) before (part ++ k)
split_part seen before part k s no_lf = record {
  at = λ more. ap lines (append_assoc seen k more) ∙ s.at (k ++ more) ∙ ap (λ (t : List ℕ). before ++ lines t) (sym (append_assoc part k more));
  no_lf = All-append (λ b. b ≢ 10) part k s.no_lf no_lf;
}

-- a line that has ended
pub split_line : (seen : List ℕ) (before : List (List ℕ)) (part k : List ℕ) → IsSplit seen before part → NoLf k → IsSplit (seen ++ (k ++ 10 ∷ [])) (before ++ ((part ++ k) ++ 10 ∷ []) ∷ []) []
split_line seen before part k s no_lf =
    let whole : NoLf (part ++ k) = All-append (λ b. b ≢ 10) part k s.no_lf no_lf in
    record {
      at = λ more.
          ap lines (append_assoc seen (k ++ 10 ∷ []) more) ∙ s.at ((k ++ 10 ∷ []) ++ more)
          ∙ ap (λ (t : List ℕ). before ++ lines t)
          (ap (λ (t : List ℕ). part ++ t) (append_assoc k (10 ∷ []) more) ∙ sym (append_assoc part k (10 ∷ more)))
          ∙ ap (λ (ls : List (List ℕ)). before ++ ls) (lines_lf (part ++ k) more whole)
          ∙ sym (append_assoc before (((part ++ k) ++ 10 ∷ []) ∷ []) (lines more));
      no_lf = All-nil (λ b. b ≢ 10);
    }

-- the lines of the bytes
pub split_lines : (seen : List ℕ) (before : List (List ℕ)) (part : List ℕ) → IsSplit seen before part → lines seen ≡ before ++ lines part
split_lines seen before part s = ap lines (sym (append-nil seen)) ∙ s.at [] ∙ ap (λ (t : List ℕ). before ++ lines t) (append-nil part)
