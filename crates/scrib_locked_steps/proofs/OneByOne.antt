-- The case of no element, and that of one more.
use Rattle.std.proofs.Common.{◌≡◌, List, [], ◌∷◌, ◌++◌, length, refl, sym, subst}
use Rattle.std.proofs.lemmas.List.{nil_from_length}
use Rattle.scrib_locked_steps.specs.OneByOne.{OneByOne}

pub none_yet : {S A B : Type 0} (Step : S → A → B → S → Type 0) (s : S) (bs : List B) → length bs ≡ 0 → OneByOne Step s [] bs s
none_yet {S} {A} {B} Step s bs none = subst (λ (ys : List B). OneByOne Step s [] ys s) (sym (nil_from_length bs none)) refl

pub one_more : {S A B : Type 0} (Step : S → A → B → S → Type 0) (s t u : S) (aa : List A) (bs : List B) (a : A) (b : B) → OneByOne Step s aa bs t → Step t a b u
    → OneByOne Step s (aa ++ a ∷ []) (bs ++ b ∷ []) u
one_more {S} {A} {B} Step s t u [] [] a b same step = (u, subst (λ (z : S). Step z a b u) same step, refl)
one_more {S} {A} {B} Step s t u [] (y ∷ ys) a b x step = absurd x
one_more {S} {A} {B} Step s t u (x ∷ xs) [] a b y step = absurd y
one_more {S} {A} {B} Step s t u (x ∷ xs) (y ∷ ys) a b all step = (all.0, all.1, one_more Step all.0 t u xs ys a b all.2 step)
