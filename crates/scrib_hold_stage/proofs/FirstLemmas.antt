-- The first item of a list that has a property, taken out.
use Rattle.std.proofs.Common.{◌≡◌, ◌∙◌, ℕ, zero, suc, ◌+◌, ◌<◌, ◌≤◌, List, [], ◌∷◌, ◌++◌, Option, None, Some, MatchOption, IfSome, OnSome, take, drop, slice_get, slice_index_or, get_or, length, sym, ap, subst, arith}
use Rattle.std.specs.List.{remove, AllByRecursion}
use Rattle.std.proofs.lemmas.Option.{slice_get-get_or, get_or_from_slice_get, none-some, same_Some}
use Rattle.scrib_types.specs.declared.event.Event.{Event}
use Rattle.scrib_hold_stage.specs.declared.noted.Noted.{Noted}
use Rattle.scrib_hold_stage.specs.declared.closings.Closing.{Closing}
use Rattle.scrib_hold_stage.specs.Firsts.{IsFirstAt, IsFirstTaken}
use Rattle.scrib_hold_stage.specs.Stages.{StageState}
use Rattle.scrib_hold_stage.specs.PendingClosings.{IsMade, IsMadeAt}

split_at : {X : Type 0} (xs : List X) (i : ℕ) (x : X) → slice_get xs i ≡ Some x → xs ≡ take i xs ++ x ∷ drop (suc i) xs
split_at [] i x e = absurd (none-some x e)
split_at (y ∷ ys) zero x e = ap (λ z. z ∷ ys) (same_Some y x e)
split_at (y ∷ ys) (suc i) x e = ap (λ z. y ∷ z) (split_at ys i x e)

-- what is taken out at the index of the first is the first
pub first_at : {X : Type 0} (Is IsNot : X → Type 0) (index : ℕ) (old new : List X) (x : X) → IsFirstAt Is IsNot index old → slice_get old index ≡ Some x → new ≡ remove old index → IsFirstTaken Is IsNot x old new
first_at Is IsNot index old new x f at removed = record {
  front = take index old;
  back = drop (suc index) old;
  was = split_at old index x at;
  left = removed;
  is = subst Is (same_Some f.x x (sym f.at ∙ at)) f.is;
  before = f.before;
}

-- the same of what a removal returns
pub first_removed : {X : Type 0} (Is IsNot : X → Type 0) (index : ℕ) (old new : List X) (o : Option X) → IsFirstAt Is IsNot index old → IfSome o (λ y. y ≡ slice_index_or old index y) → OnSome o (new ≡ remove old index)
    → IfSome o (λ x. IsFirstTaken Is IsNot x old new)
first_removed Is IsNot index old new None f value items = tt
first_removed Is IsNot index old new (Some y) f value items =
    first_at Is IsNot index old new y f (f.at ∙ ap Some (sym (value ∙ get_or_from_slice_get old index f.x y f.at))) items

-- ---- a search, item by item

-- the item at an index
pub here_at : {X : Type 0} (xs : List X) (i : ℕ) (x : X) → i < length xs → x ≡ get_or xs i x → slice_get xs i ≡ Some x
here_at xs i x less is = slice_get-get_or xs i x less ∙ ap Some (sym is)

one_further : {X : Type 0} (P : X → Type 0) (xs : List X) (i : ℕ) (x : X) → slice_get xs i ≡ Some x → AllByRecursion P (take i xs) → P x → AllByRecursion P (take (suc i) xs)
one_further P [] i x e a p = absurd (none-some x e)
one_further P (y ∷ ys) zero x e a p = (subst P (sym (same_Some y x e)) p, tt)
one_further P (y ∷ ys) (suc i) x e a p = (a.0, one_further P ys i x e a.1 p)

-- the items up to the next one
pub next_at : {X : Type 0} (P : X → Type 0) (xs : List X) (i : ℕ) (x : X) → i < length xs → x ≡ get_or xs i x → AllByRecursion P (take i xs) → P x → (i + 1 ≤ length xs) × AllByRecursion P (take (i + 1) xs)
next_at P xs i x less is a p =
    let next : suc i ≡ i + 1 = omega arith in
    (omega (arith, less), subst (λ n. AllByRecursion P (take n xs)) next (one_further P xs i x (here_at xs i x less is) a p))

-- ---- a closing that is made

module _ {T A : Type 0} (event : A → Event) (Is IsNot : Closing T → Type 0) (index : ℕ) (old new : List (Closing T)) (s t : StageState A) (released now : List (Noted A)) where
  pub made_first : (o : Option (Closing T)) → IsFirstAt Is IsNot index old → MatchOption o ⊥ (λ c. IsMadeAt event index c old new s t released now) → IfSome o (λ c. IsMade event Is IsNot c old new s t released now)
  made_first None f m = tt
  made_first (Some c) f m = record { taken = first_at Is IsNot index old new c f m.at m.left; closed = m.closed }
