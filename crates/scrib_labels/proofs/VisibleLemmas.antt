-- The mask of the bytes that are not visible, and the run of those in front of them.
use Rattle.std.proofs.Common.{◌≡◌, ◌∙◌, ◌+◌, ◌-◌, ◌%◌, ◌^◌, ◌<◌, ◌≤◌, ltb, inl, inr, ℕ, suc, true, Bool, not, cond, List, [], ◌∷◌, length, take, get_or, map, replicate, refl, sym, ap, ap₂, arith, Fits, w8}
use Rattle.std.specs.List.{prefix_len}
use Rattle.std.specs.Simd.Lanes.{Each1, chunk, mask_l, top, zip2}
use Rattle.std.proofs.lemmas.Bool.{agree_below_at, cases_Bool, cases_lt, not-false, not-true}
use Rattle.std.proofs.lemmas.List.Sums.{prefix_len_is}
use Rattle.std.proofs.lemmas.Simd.{bitmask_splat, length-chunk, length-zip2, length-replicate, map-map, none_from_empty_mask, run_in_chunk_fails, run_in_chunk_stops, trailing_mask_l, zip2_splat}
use lib.Count.{count_trailing_zeros}
use Rattle.scrib_labels.specs.Tags.{all_visible, is_visible}

-- a byte at most 161 above 127, without carry, is not visible
abbrev is_other : ℕ → Bool
is_other b = ltb ((b + (256 - 127)) % 256) 162

other-bytes : (bytes : List ℕ) → Each1 (Fits w8) bytes → map is_other bytes ≡ map (λ b. not (is_visible b)) bytes
other-bytes [] fits = refl
other-bytes (b ∷ bs) fits =
    ap₂ (λ (t : Bool) (ts : List Bool). t ∷ ts) (agree_below_at is_other (λ b. not (is_visible b)) 256 b refl fits.0.fits) (other-bytes bs fits.1)

pub mask_of_others : (bytes : List ℕ) → length bytes ≡ 16 → Each1 (Fits w8) bytes
    → mask_l (map (top 7) (zip2 (λ a b. cond (ltb a b) 255 0) (zip2 (λ a b. (a + (256 - b)) % 256) bytes (replicate 16 127)) (replicate 16 162))) % 2 ^ 64
    ≡ mask_l (map (λ b. not (is_visible b)) bytes)
mask_of_others bytes long fits =
    let moved = zip2 (λ (a b : ℕ). (a + (256 - b)) % 256) bytes (replicate 16 127) in
    let lanes : length moved ≡ 16 = length-zip2 _ bytes (replicate 16 127) (long ∙ sym (length-replicate {A = ℕ} 16 127)) ∙ long in
    bitmask_splat w8 ltb moved 16 162 lanes (omega arith)
    ∙ ap (λ (l : List ℕ). mask_l (map (λ x. ltb x 162) l)) (zip2_splat _ bytes 16 127 long)
    ∙ ap mask_l (map-map (λ x. ltb x 162) (λ x. (x + (256 - 127)) % 256) bytes ∙ other-bytes bytes fits)

-- the first byte of a run, and the others
one_more : (b : ℕ) (bs : List ℕ) → is_visible b ≡ true → all_visible (take (prefix_len is_visible bs) bs) ≡ true → all_visible (take (1 + prefix_len is_visible bs) (b ∷ bs)) ≡ true
one_more b bs seen rest =
    let e : 1 + prefix_len is_visible bs ≡ suc (prefix_len is_visible bs) = omega arith in
    rw e (rw seen rest)

-- the run of visible bytes is visible
pub visible_front : (bytes : List ℕ) → all_visible (take (prefix_len is_visible bytes) bytes) ≡ true
visible_front [] = refl
visible_front (b ∷ bs) = elim (cases_Bool (is_visible b)) [
  | inl seen ↦ rw seen (one_more b bs seen (visible_front bs))
  | inr other ↦ rw other refl
]

abbrev is_hidden : ℕ → Bool
is_hidden b = not (is_visible b)

-- where no byte is hidden, the mask is 0
none_masked : (bytes : List ℕ) → length bytes ≤ prefix_len (λ b. not (is_hidden b)) bytes → mask_l (map is_hidden bytes) ≡ 0
none_masked [] all = refl
none_masked (b ∷ bs) all = elim (cases_Bool (is_visible b)) [
  | inl seen ↦
      let run : prefix_len (λ b. not (is_hidden b)) (b ∷ bs) ≡ 1 + prefix_len (λ b. not (is_hidden b)) bs = rw seen refl in
      let rest = none_masked bs (omega (arith, all, run)) in
      rw seen (omega (arith, rest))
  | inr other ↦
      let run : prefix_len (λ b. not (is_hidden b)) (b ∷ bs) ≡ 0 = rw other refl in
      absurd (omega (arith, all, run))
]

module _ (bytes : List ℕ) (at : ℕ) (room : at + 16 ≤ length bytes) where
  abbrev block : List ℕ
  block = chunk at 16 bytes

  -- the number of bytes in front of the first one that is not visible, if there is one
  abbrev run : ℕ
  run = count_trailing_zeros 64 (mask_l (map is_hidden block))

  long : length block ≡ 16
  long = length-chunk at 16 bytes room

  counted : 0 < mask_l (map is_hidden block) → run ≡ prefix_len (λ b. not (is_hidden b)) block
  counted some = trailing_mask_l is_hidden 64 block (omega (arith, long)) some

  pub run_short : 0 < mask_l (map is_hidden block) → run < 16
  run_short some = elim (cases_lt run 16) [
    | inl less ↦ less
    | inr all ↦ absurd (omega (arith, some, none_masked block (omega (arith, all, counted some, long))))
  ]

  -- where all bytes in front are visible, so are sixteen more whose mask is 0, or the run ends among them
  module _ (front : (k : ℕ) → k < at → is_visible (get_or bytes k 0) ≡ true) where
    pub front_longer : mask_l (map is_hidden block) ≡ 0 → (k : ℕ) → k < at + 16 → is_visible (get_or bytes k 0) ≡ true
    front_longer none k within = elim (cases_lt k at) [
      | inl early ↦ front k early
      | inr late ↦ not-false _ (none_from_empty_mask is_hidden bytes at 16 0 room none k late within)
    ]

    pub front_ends : 0 < mask_l (map is_hidden block) → at + run ≡ prefix_len is_visible bytes
    front_ends some =
        let is = counted some in
        let short = run_short some in
        sym (prefix_len_is is_visible bytes (at + run) 0 (omega (arith, short, room))
        (λ k within. elim (cases_lt k at) [
          | inl early ↦ front k early
          | inr late ↦ not-false _ (run_in_chunk_fails is_hidden bytes at 16 run 0 room is k late within)
        ])
        (λ more. not-true _ (run_in_chunk_stops is_hidden bytes at 16 run 0 room is short)))
