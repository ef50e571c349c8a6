-- Lines of a module text, and the part of them that is put.
use Rattle.std.proofs.Common.{◌≡◌, ◌≢◌, ◌∙◌, ◌<◌, ◌≤◌, ◌+◌, ◌-◌, ◌⊎◌, ℕ, suc, List, [], ◌∷◌, ◌++◌, take, length, length-append, refl, sym, ap, subst, inl, inr, arith}
use Rattle.std.proofs.lemmas.Bool.{cases_lt}
use Rattle.std.proofs.lemmas.List.{append_assoc, take-append-le, length-take, length-take-le}
use Rattle.std.proofs.lemmas.List.Elements.{All-nil, All-take}
use Rattle.std.proofs.Math.Seq.{take-append-add}
use Rattle.scrib_script_reader.specs.Scripts.{NoLf, bare, text_end}
use Rattle.scrib_script_reader.proofs.Bytes.{take_of_none}
use Rattle.scrib_hold_lines.specs.Lines.{AreTextLines, no_line, one_more, IsPutText}

-- one line more
pub text_lines_more : {text : List ℕ} → AreTextLines text → (k : List ℕ) → NoLf k → bare (k ++ 10 ∷ []) ≢ text_end → AreTextLines (text ++ (k ++ 10 ∷ []))
text_lines_more no_line k no_lf ne = one_more k [] no_lf ne no_line
text_lines_more (one_more j m j_no_lf j_ne more) k no_lf ne =
    subst AreTextLines (sym (append_assoc j (10 ∷ m) (k ++ 10 ∷ []))) (one_more j (m ++ (k ++ 10 ∷ [])) j_no_lf j_ne (text_lines_more more k no_lf ne))

-- some first bytes of the lines: lines, and then a part of one
pub record IsCutAt (n : ℕ) (text : List ℕ) : Type 0 where
  pub front : List ℕ
  pub part : List ℕ
  pub is : take n text ≡ front ++ part
  pub whole : AreTextLines front
  pub no_lf : NoLf part
  pub cut : (part ≡ []) ⊎ (length (take n text) ≡ n)

cut_here : (n : ℕ) (k m : List ℕ) → NoLf k → n ≤ length k → IsCutAt n (k ++ 10 ∷ m)
cut_here n k m no_lf short =
    let is : take n (k ++ 10 ∷ m) ≡ take n k = take-append-le n k (10 ∷ m) short in
    record {
      front = [];
      part = take n k;
      is = is;
      whole = no_line;
      no_lf = All-take (λ b. b ≢ 10) n k no_lf;
      cut = inr (ap length is ∙ length-take-le n k short);
    }

cut_further : (n : ℕ) (k m : List ℕ) → NoLf k → bare (k ++ 10 ∷ []) ≢ text_end → length k < n → IsCutAt (n - suc (length k)) m → IsCutAt n (k ++ 10 ∷ m)
cut_further n k m no_lf ne long c =
    let j : ℕ = n - suc (length k) in
    let number : n ≡ length k + suc (n - suc (length k)) = omega arith in
    let is : take n (k ++ 10 ∷ m) ≡ k ++ 10 ∷ take (n - suc (length k)) m =
    ap (λ (i : ℕ). take i (k ++ 10 ∷ m)) number ∙ take-append-add k (10 ∷ m) (suc (n - suc (length k))) in
    record {
      front = k ++ 10 ∷ c.front;
      part = c.part;
      is = is ∙ ap (λ (t : List ℕ). k ++ 10 ∷ t) c.is ∙ sym (append_assoc k (10 ∷ c.front) c.part);
      whole = one_more k c.front no_lf ne c.whole;
      no_lf = c.no_lf;
      cut = by c.cut is;
    }
  where
    by : (c.part ≡ []) ⊎ (length (take (n - suc (length k)) m) ≡ n - suc (length k)) → take n (k ++ 10 ∷ m) ≡ k ++ 10 ∷ take (n - suc (length k)) m → (c.part ≡ []) ⊎ (length (take n (k ++ 10 ∷ m)) ≡ n)
    by (inl none) is = inl none
    by (inr full) is = inr (omega (arith, ap length is, length-append k (10 ∷ take (n - suc (length k)) m), full, long))

pub cut_lines : {text : List ℕ} → AreTextLines text → (n : ℕ) → IsCutAt n text
cut_lines no_line n = record { front = []; part = []; is = take_of_none n; whole = no_line; no_lf = All-nil (λ b. b ≢ 10); cut = inl refl }
cut_lines (one_more k m no_lf ne more) n = elim (cases_lt (length k) n) [
  | inl long ↦ cut_further n k m no_lf ne long (cut_lines more (n - suc (length k)))
  | inr short ↦ cut_here n k m no_lf short
]

-- what is put of a module text
put_cut : (text : List ℕ) (part : List ℕ) → (part ≡ []) ⊎ (length (take 1048577 text) ≡ 1048577) → ((part ≡ []) × (length (take 1048577 text) ≤ 1048577)) ⊎ (length (take 1048577 text) ≡ 1048577)
put_cut text part (inl none) = inl (none, omega (arith, length-take 1048577 text))
put_cut text part (inr full) = inr full

pub put_of_lines : (text : List ℕ) → AreTextLines text → IsPutText (take 1048577 text)
put_of_lines text h =
    let c = cut_lines h 1048577 in
    record { front = c.front; part = c.part; is = c.is; whole = c.whole; no_lf = c.no_lf; cut = put_cut text c.part c.cut }
