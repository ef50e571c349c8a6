-- The texts of branches.
use Rattle.std.proofs.Common.{◌≡◌, ◌≢◌, ℕ, zero, suc, ◌<◌, ◌+◌, ◌++◌, Bool, true, false, List, [], ◌∷◌, length, get_or, drop, refl, sym, ap, subst, ◌∙◌, arith, add-one}
use Rattle.std.proofs.lemmas.List.{append_assoc}
use Rattle.scrib_types.specs.declared.message.Message.{Message}
use Rattle.scrib_types.specs.declared.local.Local.{Local}
use Rattle.scrib_types.specs.LocalView.{local_of, local_branches}
use Rattle.scrib_types.specs.Texts.{after_each, joined_by, message_text}
use Rattle.scrib_projection.specs.Text.{is_one, local_text, branch_texts}

pub one : (bs : List (Message × Local)) → length bs ≡ 1 → is_one (local_branches bs) ≡ true
one [] h = absurd (omega arith)
one (b ∷ []) h = refl
one (b ∷ c ∷ bs) h = absurd (omega arith)

pub not_one : (bs : List (Message × Local)) → length bs ≢ 1 → is_one (local_branches bs) ≡ false
not_one [] h = refl
not_one (b ∷ []) h = absurd (h refl)
not_one (b ∷ c ∷ bs) h = refl

-- texts that follow others, or follow nothing
abbrev pub following : Bool → List (List ℕ) → List ℕ
following true ts = after_each 44 ts
following false ts = joined_by 44 ts

pub after_two : (x y z a b : List ℕ) → y ≡ x ++ a → z ≡ y ++ b → z ≡ x ++ (a ++ b)
after_two x y z a b p q = q ∙ ap (λ t. t ++ b) p ∙ append_assoc x a b

pub after_three : (x y z w a b c : List ℕ) → y ≡ x ++ a → z ≡ y ++ b → w ≡ z ++ c → w ≡ x ++ (a ++ (b ++ c))
after_three x y z w a b c p q r = r ∙ ap (λ t. t ++ c) (after_two x y z a b p q) ∙ append_assoc x (a ++ b) c ∙ ap (λ t. x ++ t) (append_assoc a b c)

pub after_four : (x y z w v a b c d : List ℕ) → y ≡ x ++ a → z ≡ y ++ b → w ≡ z ++ c → v ≡ w ++ d → v ≡ x ++ ((a ++ b) ++ (c ++ d))
after_four x y z w v a b c d p q r s = after_two x z v (a ++ b) (c ++ d) (after_two x y z a b p q) (after_two z w v c d r s)

-- whether a branch precedes the one at this index
abbrev pub is_later : ℕ → Bool
is_later zero = false
is_later (suc i) = true

texts_drop' : (depth : ℕ) (bs : List (Message × Local)) (i : ℕ) (d : Message × Local) → i < length bs
    → branch_texts depth (local_branches (drop i bs)) ≡ (message_text (get_or bs i d).0 ++ 46 ∷ local_text depth (local_of (get_or bs i d).1)) ∷ branch_texts depth (local_branches (drop (suc i) bs))
texts_drop' depth [] i d h = absurd (omega arith)
texts_drop' depth (b ∷ bs) zero d h = refl
texts_drop' depth (b ∷ bs) (suc i) d h = let k : i < length bs = omega arith in texts_drop' depth bs i d k

pub texts_drop : (depth : ℕ) (bs : List (Message × Local)) (i : ℕ) (b : Message × Local) → i < length bs → b ≡ get_or bs i b
    → branch_texts depth (local_branches (drop i bs)) ≡ (message_text b.0 ++ 46 ∷ local_text depth (local_of b.1)) ∷ branch_texts depth (local_branches (drop (i + 1) bs))
texts_drop depth bs i b h is = subst (λ (x : Message × Local). branch_texts depth (local_branches (drop i bs)) ≡ (message_text x.0 ++ 46 ∷ local_text depth (local_of x.1)) ∷ branch_texts depth (local_branches (drop (i + 1) bs))) (sym is) (rw add-one (texts_drop' depth bs i b h))

-- the first text, and then those that follow it
first_text : (t : List ℕ) (ts : List (List ℕ)) → following false (t ∷ ts) ≡ t ++ following true ts
first_text t ts = refl

-- one more text
later_text : (t : List ℕ) (ts : List (List ℕ)) → following true (t ∷ ts) ≡ 44 ∷ (t ++ following true ts)
later_text t ts = refl

is_later-push : (i : ℕ) → is_later (i + 1) ≡ true
is_later-push i = rw add-one refl
