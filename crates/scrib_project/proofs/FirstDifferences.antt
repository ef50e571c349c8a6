-- The first communication whose branches differ.
use Rattle.std.proofs.Common.{◌≡◌, ◌≢◌, ℕ, zero, suc, ◌+◌, Bool, true, false, ◌&&◌, ◌||◌, not, List, [], ◌∷◌, ◌++◌, length, Option, Some, None, option_map, if◌then◌else◌, refl, ap, ◌∙◌, subst, arith}
use Rattle.std.specs.List.{AllZip, slice_get}
use Rattle.std.specs.Option.{option_or}
use Rattle.std.specs.Str.{bytes_eq}
use Rattle.std.proofs.lemmas.Bool.{false≢true, both_ways, or_parts}
use Rattle.std.proofs.lemmas.List.{length-append}
use Rattle.std.proofs.lemmas.Slice.Eq.{bytes_eq-Decides}
use Rattle.scrib_types.specs.declared.message.Message.{Message}
use Rattle.scrib_types.specs.declared.profile.Profile.{Profile}
use Rattle.scrib_types.specs.Trees.{GlobalTree, GlobalEnd, GlobalVar, GlobalRec, Comm, Flight, GlobalBranches, NoBranch, Branch, LocalTree, NoChoice}
use Rattle.scrib_types.specs.Projection.{is_closed, occurs, with_choice, projection, branch_projections}
use Rattle.scrib_projection.specs.Differences.{choice_count_here, choice_count, branch_choice_count, differ, difference_here, first_difference, first_among}
use Rattle.scrib_elaborate.specs.Sites.{communications, branch_communications, has_several, is_several, several_of}

-- the communication's branches differ for the role, which has no part in it
pub record IsDifference (profile : Profile) (r : List ℕ) (g : GlobalTree) : Type 0 where
  pub sender : List ℕ
  pub receiver : List ℕ
  pub branches : GlobalBranches
  pub is : g ≡ Comm sender receiver branches
  pub not_sender : r ≢ sender
  pub not_receiver : r ≢ receiver
  pub differs : differ profile (branch_projections profile r branches) ≡ true

-- such a communication is at this index of the list
abbrev pub IsThere : Profile → List ℕ → List (ℕ × GlobalTree) → ℕ → Type 0
IsThere profile r cs k = (c : ℕ × GlobalTree) × (slice_get cs k ≡ Some c) × IsDifference profile r c.1

-- lists one after the other

several_and : (xs ys : List (ℕ × GlobalTree)) → several_of (xs ++ ys) ≡ several_of xs ++ several_of ys
several_and [] ys = refl
several_and (x ∷ xs) ys = by (is_several x.1) (several_and xs ys)
  where
    by : (b : Bool) → several_of (xs ++ ys) ≡ several_of xs ++ several_of ys → (if b then x ∷ several_of (xs ++ ys) else several_of (xs ++ ys)) ≡ (if b then x ∷ several_of xs else several_of xs) ++ several_of ys
    by true e = ap (λ zs. x ∷ zs) e
    by false e = e

get_left : {X : Type 0} (xs ys : List X) (k : ℕ) (x : X) → slice_get xs k ≡ Some x → slice_get (xs ++ ys) k ≡ Some x
get_left [] ys k x e = absurd (cc e)
get_left (y ∷ xs) ys zero x e = e
get_left (y ∷ xs) ys (suc k) x e = get_left xs ys k x e

get_right : {X : Type 0} (xs ys : List X) (n k : ℕ) (x : X) → n ≡ length xs + k → slice_get ys k ≡ Some x → slice_get (xs ++ ys) n ≡ Some x
get_right [] ys n k x n_is e =
    let same : k ≡ n = omega (arith, n_is) in
    subst (λ i. slice_get ys i ≡ Some x) same e
get_right (y ∷ xs) ys zero k x n_is e = absurd (omega (arith, n_is))
get_right (y ∷ xs) ys (suc n) k x n_is e = get_right xs ys n k x (omega (arith, n_is)) e

there_left : (profile : Profile) (r : List ℕ) (xs ys : List (ℕ × GlobalTree)) (k : ℕ) → IsThere profile r (several_of xs) k → IsThere profile r (several_of (xs ++ ys)) k
there_left profile r xs ys k h =
    (h.0, ap (λ zs. slice_get zs k) (several_and xs ys) ∙ get_left (several_of xs) (several_of ys) k h.0 h.1, h.2)

there_right : (profile : Profile) (r : List ℕ) (xs ys : List (ℕ × GlobalTree)) (n k : ℕ) → n ≡ length (several_of xs) + k → IsThere profile r (several_of ys) k → IsThere profile r (several_of (xs ++ ys)) n
there_right profile r xs ys n k e h =
    (h.0, ap (λ zs. slice_get zs n) (several_and xs ys) ∙ get_right (several_of xs) (several_of ys) n k h.0 e h.1, h.2)

-- the number of communications with several branches

one_here : (c : ℕ × GlobalTree) (bs : GlobalBranches) → is_several c.1 ≡ has_several bs → length (several_of (c ∷ [])) ≡ choice_count_here bs
one_here c NoBranch e = rw e refl
one_here c (Branch m g NoBranch) e = rw e refl
one_here c (Branch m g (Branch n h bs)) e = rw e refl

-- a communication, after those in its branches
with_own : (n : ℕ) (g : GlobalTree) (bs : GlobalBranches) → is_several g ≡ has_several bs → length (several_of (branch_communications n bs)) ≡ branch_choice_count bs → length (several_of (branch_communications n bs ++ (n, g) ∷ [])) ≡ branch_choice_count bs + choice_count_here bs
with_own n g bs e inner =
    let here = one_here (n, g) bs e in
    ap length (several_and (branch_communications n bs) ((n, g) ∷ [])) ∙ length-append (several_of (branch_communications n bs)) (several_of ((n, g) ∷ [])) ∙ (λ i. inner i + here i)

mutual
  number : (n : ℕ) (g : GlobalTree) → length (several_of (communications n g)) ≡ choice_count g
  number n GlobalEnd = refl
  number n (GlobalVar i) = refl
  number n (GlobalRec g) = number (n + 1) g
  number n (Comm p q bs) = with_own n (Comm p q bs) bs refl (branch_number n bs)
  number n (Flight p q j bs) = with_own n (Flight p q j bs) bs refl (branch_number n bs)

  branch_number : (n : ℕ) (bs : GlobalBranches) → length (several_of (branch_communications n bs)) ≡ branch_choice_count bs
  branch_number n NoBranch = refl
  branch_number n (Branch m g bs) =
      let first = number n g in
      let rest = branch_number n bs in
      ap length (several_and (communications n g) (branch_communications n bs)) ∙ length-append (several_of (communications n g)) (several_of (branch_communications n bs)) ∙ (λ i. first i + rest i)

-- branches that differ are at least two

one_alike : (profile : Profile) (m : Message) (o : Option LocalTree) → differ profile (with_choice m o (Some NoChoice)) ≡ true → ⊥
one_alike profile m None h = false≢true h
one_alike profile m (Some l) h = false≢true h

differ_several : (profile : Profile) (r : List ℕ) (bs : GlobalBranches) → differ profile (branch_projections profile r bs) ≡ true → has_several bs ≡ true
differ_several profile r NoBranch h = absurd (false≢true h)
differ_several profile r (Branch m g NoBranch) h = absurd (one_alike profile m (projection profile r g) h)
differ_several profile r (Branch m g (Branch n k bs)) h = refl

-- a role that differs

another : (r p : List ℕ) → bytes_eq r p ≡ false → r ≢ p
another r p differs same = both_ways (bytes_eq r p) differs ((bytes_eq-Decides r p).1 same)

-- the communication itself, after those in its branches
own_difference : (profile : Profile) (r p q : List ℕ) (n : ℕ) (bs : GlobalBranches) (k : ℕ) → difference_here profile r p q bs ≡ Some k → IsThere profile r (several_of (communications n (Comm p q bs))) k
own_difference profile r p q n bs k e = by (bytes_eq r p || bytes_eq r q) refl (differ profile (branch_projections profile r bs)) refl e
  where
    by : (part : Bool) → bytes_eq r p || bytes_eq r q ≡ part → (d : Bool) → differ profile (branch_projections profile r bs) ≡ d → (if part then None else (if d then Some (branch_choice_count bs) else None)) ≡ Some k → IsThere profile r (several_of (communications n (Comm p q bs))) k
    by true f d g h = absurd (cc h)
    by false f false g h = absurd (cc h)
    by false f true g h =
        let apart = or_parts (bytes_eq r p) (bytes_eq r q) f in
        let here : branch_choice_count bs ≡ k = cc h in
        let inner = branch_number n bs in
        let several : is_several (Comm p q bs) ≡ true = differ_several profile r bs g in
        let is : IsDifference profile r (Comm p q bs) = record {
          sender = p;
          receiver = q;
          branches = bs;
          is = refl;
          not_sender = another r p apart.0;
          not_receiver = another r q apart.1;
          differs = g;
        } in
        let own : slice_get (several_of ((n, Comm p q bs) ∷ [])) 0 ≡ Some (n, Comm p q bs) = rw several refl in
        there_right profile r (branch_communications n bs) ((n, Comm p q bs) ∷ []) k 0 (omega (arith, here, inner)) ((n, Comm p q bs), own, is)

mutual
  pub located : (profile : Profile) (r : List ℕ) (n : ℕ) (g : GlobalTree) (k : ℕ) → first_difference profile r g ≡ Some k → IsThere profile r (several_of (communications n g)) k
  located profile r n GlobalEnd k e = absurd (cc e)
  located profile r n (GlobalVar i) k e = absurd (cc e)
  located profile r n (GlobalRec g) k e = by (is_closed (GlobalRec g) && not (occurs r g)) e (λ f. located profile r (n + 1) g k f)
    where
      by : (b : Bool) → (if b then None else first_difference profile r g) ≡ Some k → (first_difference profile r g ≡ Some k → IsThere profile r (several_of (communications (n + 1) g)) k) → IsThere profile r (several_of (communications (n + 1) g)) k
      by true f more = absurd (cc f)
      by false f more = more f
  located profile r n (Comm p q bs) k e = by (first_among profile r bs) e (λ j f. located_among profile r n bs j f)
    where
      by : (o : Option ℕ) → option_or o (difference_here profile r p q bs) ≡ Some k → ((j : ℕ) → o ≡ Some j → IsThere profile r (several_of (branch_communications n bs)) j) → IsThere profile r (several_of (communications n (Comm p q bs))) k
      by None f more = own_difference profile r p q n bs k f
      by (Some j) f more = there_left profile r (branch_communications n bs) ((n, Comm p q bs) ∷ []) k (more k f)
  located profile r n (Flight p q j bs) k e = absurd (cc e)

  located_among : (profile : Profile) (r : List ℕ) (n : ℕ) (bs : GlobalBranches) (k : ℕ) → first_among profile r bs ≡ Some k → IsThere profile r (several_of (branch_communications n bs)) k
  located_among profile r n NoBranch k e = absurd (cc e)
  located_among profile r n (Branch m g bs) k e =
      by (first_difference profile r g) (first_among profile r bs) e (λ j f. located profile r n g j f) (λ j f. located_among profile r n bs j f)
    where
      by : (o l : Option ℕ) → option_or o (option_map (λ j. choice_count g + j) l) ≡ Some k → ((j : ℕ) → o ≡ Some j → IsThere profile r (several_of (communications n g)) j) → ((j : ℕ) → l ≡ Some j → IsThere profile r (several_of (branch_communications n bs)) j) → IsThere profile r (several_of (branch_communications n (Branch m g bs))) k
      by (Some j) l f first rest = there_left profile r (communications n g) (branch_communications n bs) k (first k f)
      by None (Some j) f first rest =
          let after : choice_count g + j ≡ k = cc f in
          there_right profile r (communications n g) (branch_communications n bs) k j (omega (arith, after, number n g)) (rest j refl)
      by None None f first rest = absurd (cc f)

-- the element at the same index of the other list
pub zipped_at : {X Y : Type 0} (R : X → Y → Type 0) (xs : List X) (ys : List Y) (k : ℕ) (x : X) → AllZip R xs ys → slice_get xs k ≡ Some x → (y : Y) × (slice_get ys k ≡ Some y) × R x y
zipped_at R [] ys k x h e = absurd (cc e)
zipped_at R (z ∷ xs) [] k x h e = absurd h
zipped_at R (z ∷ xs) (y ∷ ys) zero x h e =
    let same : z ≡ x = cc e in
    (y, refl, subst (λ w. R w y) same h.0)
zipped_at R (z ∷ xs) (y ∷ ys) (suc k) x h e = zipped_at R xs ys k x h.1 e
