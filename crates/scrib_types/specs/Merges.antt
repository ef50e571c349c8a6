-- The merge of receptions as a relation, and the facts that it keeps.
use Rattle.std.specs.Prelude.{◌≡◌, ◌≢◌, ◌&&◌, Bool, true, false, ℕ, List, Option, Some, None, option_map, option_and_then, if◌then◌else◌, refl}
use Rattle.std.proofs.Common.{inl, inr, sym, ap, ◌∙◌, subst}
use Rattle.std.specs.Str.{bytes_eq}
use Rattle.std.proofs.lemmas.Bool.{and_parts, true≢false}
use Rattle.std.proofs.lemmas.Slice.Eq.{bytes_eq-Decides}
use Rattle.scrib_types.specs.declared.message.Message.{Message}
use Rattle.scrib_types.specs.declared.profile.Profile.TheVariants.{Reception}
use Rattle.scrib_types.specs.Trees.{LocalTree, LocalEnd, LocalVar, LocalRec, Send, Recv, LocalBranches, NoChoice, Choice}
use Rattle.scrib_types.specs.Same.{same_operator, same_message, same_message-equal, same_local, same_local-equal}
use Rattle.scrib_types.specs.Projection.{with_alternative, alternatives, merged_from, merged_receptions, merged_two}
use Rattle.scrib_types.specs.Traces.{substitute, substitute_all, Offers}

-- the last list is the alternatives of the first with this one more
pub data WithOne : Message → LocalTree → LocalBranches → LocalBranches → Type 0 where
  one_new : {m : Message} {l : LocalTree} → WithOne m l NoChoice (Choice m l NoChoice)
  one_known : {m : Message} {l : LocalTree} {ls : LocalBranches} → WithOne m l (Choice m l ls) (Choice m l ls)
  one_later : {m n : Message} {l k : LocalTree} {ls js : LocalBranches} → m ≢ n → WithOne m l ls js
      → WithOne m l (Choice n k ls) (Choice n k js)

-- the last list is the alternatives of two receptions together
pub data WithAll : LocalBranches → LocalBranches → LocalBranches → Type 0 where
  all_none : {ks : LocalBranches} → WithAll ks NoChoice ks
  all_more : {m : Message} {l : LocalTree} {ks ls js is : LocalBranches} → WithOne m l ks js → WithAll js ls is
      → WithAll ks (Choice m l ls) is

-- two branches merge to the last type
pub data Merges : LocalTree → LocalTree → LocalTree → Type 0 where
  merges_same : {l : LocalTree} → Merges l l l
  merges_receptions : {p : List ℕ} {ks ls js : LocalBranches} → WithAll ks ls js
      → Merges (Recv p ks) (Recv p ls) (Recv p js)

-- from the computed merge

-- an operator is the same as itself
pub operator_itself : (o : Option (List ℕ)) → same_operator o o ≡ true
operator_itself None = refl
operator_itself (Some a) = (bytes_eq-Decides a a).1 refl

operators_apart : (m n : Message) → same_operator m.op n.op ≡ false → m ≢ n
operators_apart m n h e = true≢false (sym (operator_itself m.op) ∙ ap (λ (x : Message). same_operator m.op x.op) e ∙ h)

-- two optional values that are the same contain the same
pub some_same : {X : Type 0} (x y : X) → ◌≡◌ {A = Option X} (Some x) (Some y) → x ≡ y
some_same x y h = cc

known : (m n : Message) (l k : LocalTree) (ls js : LocalBranches) (b : Bool) → same_message m n && same_local l k ≡ b
    → (if b then Some (Choice n k ls) else None) ≡ Some js → WithOne m l (Choice n k ls) js
known m n l k ls js true f e =
    let both = and_parts (same_message m n) (same_local l k) f in
    subst (λ x. WithOne x l (Choice n k ls) js) (sym (same_message-equal m n both.0))
    (subst (λ x. WithOne n x (Choice n k ls) js) (sym (same_local-equal l k both.1))
    (subst (WithOne n k (Choice n k ls)) (some_same (Choice n k ls) js e) one_known))
known m n l k ls js false f e = absurd (cc)

later : (m n : Message) (l k : LocalTree) (ls js : LocalBranches) (o : Option LocalBranches) → m ≢ n
    → ((is : LocalBranches) → o ≡ Some is → WithOne m l ls is) → option_map (Choice n k) o ≡ Some js
    → WithOne m l (Choice n k ls) js
later m n l k ls js None ne h e = absurd (cc)
later m n l k ls js (Some is) ne h e =
    subst (WithOne m l (Choice n k ls)) (some_same (Choice n k is) js e) (one_later ne (h is refl))

with_one : (m : Message) (l : LocalTree) (ks js : LocalBranches) → with_alternative m l ks ≡ Some js → WithOne m l ks js
with_one m l NoChoice js e = subst (WithOne m l NoChoice) (some_same (Choice m l NoChoice) js e) one_new
with_one m l (Choice n k ls) js e = by (same_operator m.op n.op) refl e (λ is i. with_one m l ls is i)
  where
    by : (b : Bool) → same_operator m.op n.op ≡ b
        → (if b then (if same_message m n && same_local l k then Some (Choice n k ls) else None)
        else option_map (Choice n k) (with_alternative m l ls)) ≡ Some js
        → ((is : LocalBranches) → with_alternative m l ls ≡ Some is → WithOne m l ls is)
        → WithOne m l (Choice n k ls) js
    by true f h rest = known m n l k ls js (same_message m n && same_local l k) refl h
    by false f h rest = later m n l k ls js (with_alternative m l ls) (operators_apart m n f) rest h

with_all : (ks ls js : LocalBranches) → alternatives ks ls ≡ Some js → WithAll ks ls js
with_all ks NoChoice js e = subst (WithAll ks NoChoice) (some_same ks js e) all_none
with_all ks (Choice m l ls) js e =
    by (with_alternative m l ks) (λ is i. with_one m l ks is i) (λ is i. with_all is ls js i) e
  where
    by : (o : Option LocalBranches) → ((is : LocalBranches) → o ≡ Some is → WithOne m l ks is)
        → ((is : LocalBranches) → alternatives is ls ≡ Some js → WithAll is ls js)
        → option_and_then (λ is. alternatives is ls) o ≡ Some js → WithAll ks (Choice m l ls) js
    by None h more f = absurd (cc)
    by (Some is) h more f = all_more (h is refl) (more is f)

merged_joined : (p q : List ℕ) (ks ls : LocalBranches) (l : LocalTree) (b : Bool) → bytes_eq p q ≡ b
    → (o : Option LocalBranches) → ((js : LocalBranches) → o ≡ Some js → WithAll ks ls js)
    → (if b then option_map (Recv p) o else None) ≡ Some l → Merges (Recv p ks) (Recv q ls) l
merged_joined p q ks ls l true f None h e = absurd (cc)
merged_joined p q ks ls l true f (Some js) h e =
    let from : p ≡ q = (bytes_eq-Decides p q).0 f in
    subst (λ x. Merges (Recv p ks) (Recv x ls) l) from
    (subst (Merges (Recv p ks) (Recv p ls)) (some_same (Recv p js) l e) (merges_receptions (h js refl)))
merged_joined p q ks ls l false f o h e = absurd (cc)

receptions_from : (p : List ℕ) (ks : LocalBranches) (b c : LocalTree) → merged_from p ks b ≡ Some c
    → Merges (Recv p ks) b c
receptions_from p ks LocalEnd c e = absurd (cc)
receptions_from p ks (LocalVar n) c e = absurd (cc)
receptions_from p ks (LocalRec l) c e = absurd (cc)
receptions_from p ks (Send q ls) c e = absurd (cc)
receptions_from p ks (Recv q ls) c e =
    merged_joined p q ks ls c (bytes_eq p q) refl (alternatives ks ls) (λ js i. with_all ks ls js i) e

receptions : (a b c : LocalTree) → merged_receptions a b ≡ Some c → Merges a b c
receptions LocalEnd b c e = absurd (cc)
receptions (LocalVar n) b c e = absurd (cc)
receptions (LocalRec l) b c e = absurd (cc)
receptions (Send q ls) b c e = absurd (cc)
receptions (Recv p ls) b c e = receptions_from p ls b c e

-- the computed merge is in the relation
pub merges_of : (a b c : LocalTree) → merged_two Reception a b ≡ Some c → Merges a b c
merges_of a b c e = by (same_local a b) refl e
  where
    by : (s : Bool) → same_local a b ≡ s → (if s then Some a else merged_receptions a b) ≡ Some c → Merges a b c
    by true f h = subst (λ x. Merges a x c) (same_local-equal a b f) (subst (Merges a a) (some_same a c h) merges_same)
    by false f h = receptions a b c h

-- a property of each alternative is one of all together
module _ (P : LocalTree → Type 0) (Q : LocalBranches → Type 0)
    (first : (m : Message) (l : LocalTree) (ls : LocalBranches) → Q (Choice m l ls) → P l)
    (rest : (m : Message) (l : LocalTree) (ls : LocalBranches) → Q (Choice m l ls) → Q ls)
    (both : (m : Message) (l : LocalTree) (ls : LocalBranches) → P l → Q ls → Q (Choice m l ls)) where
  kept_one : {m : Message} {l : LocalTree} {ks js : LocalBranches} → WithOne m l ks js → P l → Q ks → Q js
  kept_one (one_new {m} {l}) p q = both m l NoChoice p q
  kept_one one_known p q = q
  kept_one (one_later {n} {k} {ls} {js} ne w) p q = both n k js (first n k ls q) (kept_one w p (rest n k ls q))

  pub kept_all : {ks ls js : LocalBranches} → WithAll ks ls js → Q ks → Q ls → Q js
  kept_all all_none q r = q
  kept_all (all_more {m} {l} {ls} w a) q r = kept_all a (kept_one w (first m l ls r) q) (rest m l ls r)

-- what either list of alternatives offers, the merged list offers
offers_old : {m : Message} {l : LocalTree} {ks js : LocalBranches} → WithOne m l ks js → (n : Message) (k : LocalTree)
    → Offers ks n k → Offers js n k
offers_old one_new n k o = absurd o
offers_old one_known n k o = o
offers_old (one_later ne w) n k (inl o) = inl o
offers_old (one_later ne w) n k (inr o) = inr (o.0, offers_old w n k o.1)

offers_new : {m : Message} {l : LocalTree} {ks js : LocalBranches} → WithOne m l ks js → Offers js m l
offers_new one_new = inl (refl, refl)
offers_new one_known = inl (refl, refl)
offers_new (one_later ne w) = inr (ne, offers_new w)

-- the merged alternatives offer what the first list offers
pub offers_first : {ks ls js : LocalBranches} → WithAll ks ls js → (n : Message) (k : LocalTree) → Offers ks n k
    → Offers js n k
offers_first all_none n k o = o
offers_first (all_more w a) n k o = offers_first a n k (offers_old w n k o)

-- the merged alternatives offer what the second list offers
pub offers_second : {ks ls js : LocalBranches} → WithAll ks ls js → (n : Message) (k : LocalTree) → Offers ls n k
    → Offers js n k
offers_second all_none n k o = absurd o
offers_second (all_more {m} {l} {js} w a) n k (inl o) =
    offers_first a n k (subst (λ x. Offers js x k) (sym o.0) (subst (λ x. Offers js m x) (sym o.1) (offers_new w)))
offers_second (all_more w a) n k (inr o) = offers_second a n k o.1

-- a local type substituted for a variable
substitute_one : (t : LocalTree) (i : ℕ) {m : Message} {l : LocalTree} {ks js : LocalBranches} → WithOne m l ks js
    → WithOne m (substitute t l i) (substitute_all t ks i) (substitute_all t js i)
substitute_one t i one_new = one_new
substitute_one t i one_known = one_known
substitute_one t i (one_later ne w) = one_later ne (substitute_one t i w)

substitute_with : (t : LocalTree) (i : ℕ) {ks ls js : LocalBranches} → WithAll ks ls js
    → WithAll (substitute_all t ks i) (substitute_all t ls i) (substitute_all t js i)
substitute_with t i all_none = all_none
substitute_with t i (all_more w a) = all_more (substitute_one t i w) (substitute_with t i a)

-- substitution keeps a merge
pub merges_substitute : (t : LocalTree) (i : ℕ) {a b c : LocalTree} → Merges a b c
    → Merges (substitute t a i) (substitute t b i) (substitute t c i)
merges_substitute t i merges_same = merges_same
merges_substitute t i (merges_receptions w) = merges_receptions (substitute_with t i w)
