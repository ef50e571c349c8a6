-- Sorted lists of actions.
use Rattle.std.proofs.Common.{◌≡◌, ◌≢◌, ◌↔◌, ◌⊎◌, false, ℕ, suc, ◌+◌, ◌-◌, ◌<◌, ◌≤◌, List, [], ◌∷◌, ◌++◌, AllPairs, Contains, length, get_or, take, drop, insert, refl, sym, ap, subst, ◌∙◌, inl, inr, arith}
use Rattle.std.specs.List.{AllByRecursion}
use Rattle.std.specs.Ordering.{nat_cmp, ordering_reverse, is_gt}
use Rattle.std.specs.declared.cmp.Ordering.{Ordering}
use Rattle.std.specs.declared.cmp.Ordering.TheVariants.{Less, Equal, Greater}
use Rattle.std.specs.Cmp.Lexicographic.{slice_cmp}
use Rattle.std.proofs.Math.Seq.{drop-cons}
use Rattle.std.proofs.lemmas.Cmp.{nat_list_cmp_total, upto, tied_itself}
use Rattle.std.proofs.lemmas.List.{take_more, take-append-drop, take_all, drop_all, length-drop, get_or-drop, get_or_default}
use Rattle.std.proofs.lemmas.List.Elements.{All-from_recursion, recursion_from_All, Contains-append_left, Contains-append_right, Contains-append_cases, Contains-push_cases, Contains-push}
use Rattle.std.proofs.lemmas.List.Kept.{AllPairs-cons}
use Rattle.scrib_types.specs.declared.event.Action.{Action}
use Rattle.scrib_types.specs.Judgement.{ComesBefore}
use Rattle.scrib_types.specs.Texts.{action_text}
use Rattle.scrib_global.specs.Sorted.{BelongsAt}

pub all_more : {X : Type 0} (P : X → Type 0) (xs : List X) (y : X) → AllByRecursion P xs → P y → AllByRecursion P (xs ++ y ∷ [])
all_more P [] y h p = (p, tt)
all_more P (x ∷ xs) y h p = (h.0, all_more P xs y h.1 p)

abbrev by_text : Action → Action → Ordering
by_text x y = slice_cmp nat_cmp (action_text x) (action_text y)

gt_from : (o : Ordering) → o ≢ Greater → is_gt o ≡ false
gt_from Less n = refl
gt_from Equal n = refl
gt_from Greater n = absurd (n refl)

not_gt : (o : Ordering) → is_gt o ≡ false → o ≢ Greater
not_gt Less h e = absurd (cc)
not_gt Equal h e = absurd (cc)
not_gt Greater h e = absurd (cc)

less_back : (o : Ordering) → o ≡ Greater → ordering_reverse o ≢ Greater
less_back o e f = let g : ordering_reverse Greater ≡ Greater = ap ordering_reverse (sym e) ∙ f in absurd (cc)

-- what comes after the action comes before what follows it
first_after : (x y : Action) → by_text x y ≡ Greater → ComesBefore y x
first_after x y g = (
  λ e. let h : by_text x x ≡ Greater = ap (by_text x) (sym e) ∙ g in absurd (cc (sym (tied_itself nat_list_cmp_total (action_text x)) ∙ h)),
  λ h. less_back (by_text x y) g (sym (nat_list_cmp_total.antisymm (action_text y) (action_text x)) ∙ h),
)

later_after : (x y d : Action) → by_text x y ≡ Greater → ComesBefore x d → ComesBefore y d
later_after x y d g h = (
  λ e. h.1 (ap (by_text x) (sym e) ∙ g),
  let yx : is_gt (by_text y x) ≡ false = gt_from (by_text y x) (first_after x y g).1 in
      let xd : is_gt (by_text x d) ≡ false = gt_from (by_text x d) h.1 in
      not_gt (by_text y d) (upto nat_list_cmp_total (action_text y) (action_text x) (action_text d) yx xd),
)

all_later : (x y : Action) (ds : List Action) → by_text x y ≡ Greater → AllByRecursion (ComesBefore x) ds → AllByRecursion (ComesBefore y) ds
all_later x y [] g h = tt
all_later x y (d ∷ ds) g h = (later_after x y d g h.0, all_later x y ds g h.1)

pairs_after : (list : List Action) (i : ℕ) (x : Action) → AllPairs ComesBefore list → AllByRecursion (ComesBefore (get_or list i x)) (drop (suc i) list)
pairs_after list i x h =
    let P : Action → Type 0 = ComesBefore (get_or list i x) in
    recursion_from_All P (drop (suc i) list)
    (λ k d n. let len : length (drop (suc i) list) ≡ length list - suc i = length-drop (suc i) list in
    let within : suc i + k < length list = omega arith in
    let here : get_or list i d ≡ get_or list i x = get_or_default list i d x (omega arith) in
    let R : Action → Action → Type 0 = λ a b. ComesBefore a b in
    subst (λ b. R (get_or list i x) b) (sym (get_or-drop (suc i) list k d)) (subst (λ a. R a (get_or list (suc i + k) d)) here (h i (suc i + k) d (omega arith) within)))

pub belongs_here : (y : Action) (list : List Action) (i : ℕ) (x : Action) → AllPairs ComesBefore list → i < length list → x ≡ get_or list i x → AllByRecursion (λ z. ComesBefore z y) (take i list) → by_text x y ≡ Greater → BelongsAt y list i
belongs_here y list i x h n e w g =
    let rest : AllByRecursion (ComesBefore x) (drop (suc i) list) = subst (λ (z : Action). AllByRecursion (ComesBefore z) (drop (suc i) list)) (sym e) (pairs_after list i x h) in
    let split : x ∷ drop (suc i) list ≡ drop i list = ap (λ z. z ∷ drop (suc i) list) e ∙ sym (drop-cons list i x n) in
    record {
      within = omega arith;
      after = w;
      before = subst (AllByRecursion (ComesBefore y)) split (first_after x y g, all_later x y (drop (suc i) list) g rest);
    }

pub belongs_last : (y : Action) (list : List Action) (n : ℕ) → length list ≤ n → AllByRecursion (λ z. ComesBefore z y) (take n list) → BelongsAt y list (length list)
belongs_last y list n le w = record {
  within = omega arith;
  after = subst (AllByRecursion (λ z. ComesBefore z y)) (take_all n list le ∙ sym (take_all (length list) list (omega arith))) w;
  before = subst (AllByRecursion (ComesBefore y)) (sym (drop_all (length list) list (omega arith))) tt;
}

pub before_more : (y : Action) (list : List Action) (i : ℕ) (x : Action) → i < length list → x ≡ get_or list i x → AllByRecursion (λ z. ComesBefore z y) (take i list) → x ≢ y → by_text x y ≢ Greater → AllByRecursion (λ z. ComesBefore z y) (take (i + 1) list)
before_more y list i x n e w ne le =
    let P : Action → Type 0 = λ z. ComesBefore z y in
    let more : take i list ++ x ∷ [] ≡ take (i + 1) list = ap (λ z. take i list ++ z ∷ []) e ∙ sym (take_more list i x n) in
    subst (AllByRecursion P) more (all_more P (take i list) x w (ne, le))

-- an action inserted at its place
all_between : (P : Action → Type 0) (xs ys : List Action) (y : Action) → AllByRecursion P (xs ++ ys) → P y → AllByRecursion P (xs ++ y ∷ ys)
all_between P [] ys y h p = (p, h)
all_between P (x ∷ xs) ys y h p = (h.0, all_between P xs ys y h.1 p)

pairs_tail : (R : Action → Action → Type 0) (x : Action) (xs : List Action) → AllPairs R (x ∷ xs) → AllPairs R xs
pairs_tail R x xs h i j d lt n = h (suc i) (suc j) d (omega arith) (omega arith)

pairs_head : (R : Action → Action → Type 0) (x : Action) (xs : List Action) → AllPairs R (x ∷ xs) → AllByRecursion (R x) xs
pairs_head R x xs h = recursion_from_All (R x) xs (λ k d n. h 0 (suc k) d (omega arith) (omega arith))

pairs_between : (R : Action → Action → Type 0) (xs ys : List Action) (y : Action) → AllPairs R (xs ++ ys) → AllByRecursion (λ x. R x y) xs → AllByRecursion (R y) ys → AllPairs R (xs ++ y ∷ ys)
pairs_between R [] ys y h a b = AllPairs-cons R y ys (All-from_recursion (R y) ys b) h
pairs_between R (x ∷ xs) ys y h a b =
    AllPairs-cons R x (xs ++ y ∷ ys)
    (All-from_recursion (R x) (xs ++ y ∷ ys) (all_between (R x) xs ys y (pairs_head R x (xs ++ ys) h) a.0))
    (pairs_between R xs ys y (pairs_tail R x (xs ++ ys) h) a.1 b)

pub inserted_sorted : (y : Action) (old new : List Action) (i : ℕ) → AllPairs ComesBefore old → BelongsAt y old i → new ≡ insert old i y → AllPairs ComesBefore new
inserted_sorted y old new i h b e =
    let R : Action → Action → Type 0 = ComesBefore in
    subst (AllPairs R) (sym e) (pairs_between R (take i old) (drop i old) y (subst (AllPairs R) (sym (take-append-drop i old)) h) b.after b.before)

pub inserted_kept : (y : Action) (old new : List Action) (i : ℕ) → new ≡ insert old i y → (act : Action) → Contains new act ↔ (Contains old act ⊎ (y ≡ act))
inserted_kept y old new i e act =
    let xs = take i old in
    let ys = drop i old in
    let whole : xs ++ ys ≡ old = take-append-drop i old in
    let has : List Action → Type 0 = λ z. Contains z act in (
      λ h. elim (Contains-append_cases xs (y ∷ ys) act (subst has e h)) [
        | inl a ↦ inl (subst has whole (Contains-append_left xs ys act a))
        | inr b ↦ elim (Contains-append_cases (y ∷ []) ys act b) [
          | inl s ↦ elim (Contains-push_cases [] y act s) [ inl z ↦ absurd (omega (arith, z.1)) | inr q ↦ inr q ]
          | inr d ↦ inl (subst has whole (Contains-append_right xs ys act d))
        ]
      ],
      λ h. subst has (sym e) (elim h [
        | inl a ↦ elim (Contains-append_cases xs ys act (subst has (sym whole) a)) [
          | inl p ↦ Contains-append_left xs (y ∷ ys) act p
          | inr q ↦ Contains-append_right xs (y ∷ ys) act (Contains-append_right (y ∷ []) ys act q)
        ]
        | inr q ↦ Contains-append_right xs (y ∷ ys) act (Contains-append_left (y ∷ []) ys act (subst (λ z. Contains (y ∷ []) z) q (Contains-push [] y)))
      ]),
    )

-- the actions that pass, one more
pub passing_if : {A B E P : Type 0} → P → (A ↔ (B ⊎ E)) → A ↔ (B ⊎ (E × P))
passing_if p h = (λ a. elim (h.0 a) [ inl b ↦ inl b | inr e ↦ inr (e, p) ], λ x. elim x [ inl b ↦ h.1 (inl b) | inr e ↦ h.1 (inr e.0) ])

pub passing_more : (P : Action → Type 0) (xs list new : List Action) (y : Action) → ((act : Action) → Contains list act ↔ (Contains xs act × P act)) → ((act : Action) → Contains new act ↔ (Contains list act ⊎ ((y ≡ act) × P y))) → (act : Action) → Contains new act ↔ (Contains (xs ++ y ∷ []) act × P act)
passing_more P xs list new y h g act = (
  λ n. elim ((g act).0 n) [
    | inl l ↦ let q = (h act).0 l in (Contains-append_left xs (y ∷ []) act q.0, q.1)
    | inr e ↦ (subst (λ z. Contains (xs ++ y ∷ []) z) e.0 (Contains-push xs y), subst P e.0 e.1)
  ],
  λ q. elim (Contains-push_cases xs y act q.0) [
    | inl x ↦ (g act).1 (inl ((h act).1 (x, q.1)))
    | inr e ↦ (g act).1 (inr (e, subst P (sym e) q.1))
  ],
)

pub passing_all : (P : Action → Type 0) (xs ys list : List Action) → xs ≡ ys → ((act : Action) → Contains list act ↔ (Contains xs act × P act)) → (act : Action) → Contains list act ↔ (Contains ys act × P act)
passing_all P xs ys list e h = subst (λ (z : List Action). (act : Action) → Contains list act ↔ (Contains z act × P act)) e h
