use Rattle.std.proofs.Common.{◌≡◌, ◌∷◌, ◌∙◌, ℕ, List, Some, IsPermutation, slice_get, get_or, sym, subst}
use Rattle.std.specs.List.{swap_remove}
use Rattle.std.proofs.lemmas.Option.{slice_get_within, get_or_from_slice_get}
use Rattle.std.proofs.lemmas.List.Sorted.{IsPermutation-swap_remove}
use Rattle.scrib_locked_steps.proofs.index.take_id.Goals as goal

-- the element at a place where the id was found is taken out
taken : (ids read left : List ℕ) (id place x : ℕ) → read ≡ ids → slice_get read place ≡ Some id → x ≡ get_or ids place x → left ≡ swap_remove ids place x → IsPermutation ids (id ∷ left)
taken ids read left id place x same found value items =
    let at : slice_get ids place ≡ Some id = subst (λ (l : List ℕ). slice_get l place ≡ Some id) same found in
    let is : x ≡ id = value ∙ get_or_from_slice_get ids place id x at in
    subst (λ (n : ℕ). IsPermutation ids (n ∷ left)) is
    (subst (λ (l : List ℕ). IsPermutation ids (x ∷ l)) (sym items) (IsPermutation-swap_remove ids place x (slice_get_within ids place id at) value))

pub returns-in-Some-get : goal.returns-in-Some-get
returns-in-Some-get c has =
    taken c.args.ids.now.items c.deref.result.now c.swap_remove.new.self.items c.args.id c.in-Some.place c.swap_remove.result c.deref.ensures.value c.in-Some.ensures.found
    c.swap_remove.ensures.value c.swap_remove.ensures.items

pub returns-in-None : goal.returns-in-None
returns-in-None c has =
    taken c.args.ids.now.items c.deref.result.now c.swap_remove.new.self.items c.args.id c.in-Some.place c.swap_remove.result c.deref.ensures.value c.in-Some.ensures.found
    c.swap_remove.ensures.value c.swap_remove.ensures.items
