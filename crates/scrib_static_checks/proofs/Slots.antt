-- An index finds the first declared protocol of a name.
use Rattle.std.proofs.Common.{◌≡◌, ◌⊎◌, inl, inr, leb, ℕ, zero, suc, ◌+◌, ◌<◌, ◌≤◌, Bool, true, false, List, [], ◌∷◌, ◌++◌, length, get_or, set, replicate, Option, Some, None, is_some, refl, sym, ap, ◌∙◌, subst, ⊎_elim, arith}
use Rattle.std.specs.List.{slice_get}
use Rattle.std.specs.Str.{bytes_eq}
use Rattle.std.proofs.lemmas.Bool.{and_parts, and_from, leb-true, leb-false}
use Rattle.std.proofs.lemmas.List.{length-set, length-append, length-map}
use Rattle.std.proofs.lemmas.Option.{slice_get_read, slice_get_within}
use Rattle.std.proofs.lemmas.Slice.Eq.{bytes_eq-Decides}
use Rattle.scrib_static_checks.specs.declared.declared.Declaration.{Declaration as CodeDeclaration}
use Rattle.scrib_static_checks.specs.ProtocolIndex.{protocol_slot, slot_for, next_slot, probed, IsReached, IsProtocolIndex, IsFilled, IsIndexed, AreTaken, IsFirstFree, IsSlotTaken}
use Rattle.scrib_tree.specs.declared.tree.ModuleTree.{ModuleTree}
use Rattle.scrib_tree.specs.declared.tree.ProtocolDeclaration.{ProtocolDeclaration}
use Rattle.scrib_static_checks.specs.Names.{Declaration, declared_in, dotted_eq, first_where, is_called}
use Rattle.scrib_static_checks.specs.Table.{declaration_of, shown, IsFound, IsNamed}
use Rattle.scrib_static_checks.proofs.NameLemmas.{dotted_eq-Decides}
use Rattle.scrib_static_checks.proofs.GivenRoles.{true_or_false}
use Rattle.scrib_static_checks.proofs.TableLemmas.{there_shown}
use Rattle.scrib_static_checks.proofs.Walks.{get_set}

-- the first that passes a test, by its index
first_there : {X : Type 0} (test : X → Bool) (xs : List X) (k : ℕ) (x : X) → slice_get xs k ≡ Some x → test x ≡ true → ((j : ℕ) (y : X) → slice_get xs j ≡ Some y → j < k → test y ≡ false) → first_where test xs ≡ Some x
first_there test [] k x e t f = absurd (cc e)
first_there test (y ∷ xs) zero x e t f =
    let same : y ≡ x = cc e in
    let passes : test y ≡ true = ap test same ∙ t in
    rw passes (ap Some same)
first_there test (y ∷ xs) (suc k) x e t f =
    let not : test y ≡ false = f zero y refl (omega arith) in
    rw not (first_there test xs k x e t (λ j z g l. f (suc j) z g (omega (arith, l))))

-- none passes a test
none_there : {X : Type 0} (test : X → Bool) (xs : List X) → ((j : ℕ) (y : X) → slice_get xs j ≡ Some y → test y ≡ false) → first_where test xs ≡ None
none_there test [] f = refl
none_there test (y ∷ xs) f =
    let not : test y ≡ false = f zero y refl in
    rw not (none_there test xs (λ j z g. f (suc j) z g))

-- a name leads to one slot
slot_called : (size : ℕ) (d : Declaration) (home : List (List ℕ)) (name : List ℕ) → is_called home name d ≡ true → slot_for size d ≡ protocol_slot size home name
slot_called size d home name t =
    let parts = and_parts (bytes_eq name d.protocol.name) (dotted_eq home d.home.name) t in
    let home_is : d.home.name ≡ home = sym ((dotted_eq-Decides home d.home.name).0 parts.1) in
    let name_is : d.protocol.name ≡ name = sym ((bytes_eq-Decides name d.protocol.name).0 parts.0) in
    λ i. protocol_slot size (home_is i) (name_is i)

-- one of the first n, or the next
pub last_or_before : (j n : ℕ) → j < n + 1 → (j < n) ⊎ (j ≡ n)
last_or_before j n l = case (leb n j) refl
  where
    case : (t : Bool) → leb n j ≡ t → (j < n) ⊎ (j ≡ n)
    case true e = let low = leb-true n j e in inr (omega (arith, l, low))
    case false e = inl (leb-false n j e)

compared : (a b : ℕ) → (a < b) ⊎ ((a ≡ b) ⊎ (b < a))
compared a b = case (leb b a) refl
  where
    case : (t : Bool) → leb b a ≡ t → (a < b) ⊎ ((a ≡ b) ⊎ (b < a))
    case true e =
        let low = leb-true b a e in
        ⊎_elim (λ x. inr (inr x)) (λ x. inr (inl (sym x))) (last_or_before b a (omega (arith, low)))
    case false e = inl (leb-false b a e)

-- the search for a protocol

-- the first n slots from this one on have protocols of other names
abbrev pub ArePassed : List Declaration → List (Option ℕ) → (size slot : ℕ) → List (List ℕ) → List ℕ → (n : ℕ) → Type 0
ArePassed ds slots size s home name n = (m : ℕ) → m < n → (k : ℕ) × (slice_get slots (probed size s m) ≡ Some (Some k)) × ((d : Declaration) → slice_get ds k ≡ Some d → is_called home name d ≡ false)

-- a search reaches each protocol from its own slot
abbrev pub AreReached : List Declaration → List (Option ℕ) → (size : ℕ) → Type 0
AreReached ds slots size = (j : ℕ) (d : Declaration) → slice_get ds j ≡ Some d → IsReached slots size (slot_for size d) j

pub probed_more : (size s n : ℕ) → probed size s (n + 1) ≡ next_slot size (probed size s n)
probed_more size s n =
    let e : n + 1 ≡ suc n = omega arith in
    ap (probed size s) e

pub passed_more : (ds : List Declaration) (slots : List (Option ℕ)) (size s : ℕ) (home : List (List ℕ)) (name : List ℕ) (n k : ℕ) → slice_get slots (probed size s n) ≡ Some (Some k) → ((d : Declaration) → slice_get ds k ≡ Some d → is_called home name d ≡ false)
    → ArePassed ds slots size s home name n → ArePassed ds slots size s home name (n + 1)
passed_more ds slots size s home name n k there other passed m l =
    ⊎_elim (λ x. passed m x) (λ x. (k, subst (λ z. slice_get slots (probed size s z) ≡ Some (Some k)) (sym x) there, other)) (last_or_before m n l)

pub taken_more : (slots : List (Option ℕ)) (size s n k : ℕ) → slice_get slots (probed size s n) ≡ Some (Some k) → AreTaken slots size s n → AreTaken slots size s (n + 1)
taken_more slots size s n k there taken m l =
    ⊎_elim (λ x. taken m x) (λ x. (k, subst (λ z. slice_get slots (probed size s z) ≡ Some (Some k)) (sym x) there)) (last_or_before m n l)

-- the slot behind those has the protocol, or one at a smaller place
not_passed : (ds : List Declaration) (slots : List (Option ℕ)) (size s : ℕ) (home : List (List ℕ)) (name : List ℕ) (n j : ℕ) (d : Declaration) (o : Option ℕ) → slice_get ds j ≡ Some d → is_called home name d ≡ true → IsReached slots size s j
    → ArePassed ds slots size s home name n → slice_get slots (probed size s n) ≡ Some o → (i : ℕ) × (o ≡ Some i) × (i ≤ j)
not_passed ds slots size s home name n j d o e t r passed there =
    ⊎_elim (λ x. absurd (before x)) (λ x. ⊎_elim here later x) (compared r.steps n)
  where
    before : r.steps < n → ⊥
    before x =
        let p = passed r.steps x in
        let same : j ≡ p.0 = cc (r.there, p.1) in
        let other : is_called home name d ≡ false = p.2 d (subst (λ z. slice_get ds z ≡ Some d) same e) in
        cc (other, t)

    here : r.steps ≡ n → (i : ℕ) × (o ≡ Some i) × (i ≤ j)
    here x =
        let at : slice_get slots (probed size s n) ≡ Some (Some j) = subst (λ z. slice_get slots (probed size s z) ≡ Some (Some j)) x r.there in
        let is : o ≡ Some j = cc (there, at) in
        (j, is, omega arith)

    later : n < r.steps → (i : ℕ) × (o ≡ Some i) × (i ≤ j)
    later x =
        let b = r.before n x in
        let is : o ≡ Some b.0 = cc (there, b.1) in
        (b.0, is, omega (arith, b.2))

-- what is found is the first of its name
pub found_by_probing : (ds : List Declaration) (slots : List (Option ℕ)) (size s : ℕ) (home : List (List ℕ)) (name : List ℕ) (n k : ℕ) → AreReached ds slots size → s ≡ protocol_slot size home name → ArePassed ds slots size s home name n
    → slice_get slots (probed size s n) ≡ Some (Some k) → IsNamed ds k home name → IsFound ds (is_called home name) k
found_by_probing ds slots size s home name n k reached at passed there f = record {
  found = f.found;
  there = f.there;
  first =
      first_there (is_called home name) ds k f.found f.there (and_from (bytes_eq name f.found.protocol.name) (dotted_eq home f.found.home.name) ((bytes_eq-Decides name f.found.protocol.name).1 (sym f.name_is)) ((dotted_eq-Decides home f.found.home.name).1 (sym f.home_is)))
      (λ j d e l. ⊎_elim (λ t. absurd (earlier j d e l t)) (λ t. t) (true_or_false (is_called home name d)));
}
  where
    earlier : (j : ℕ) (d : Declaration) → slice_get ds j ≡ Some d → j < k → is_called home name d ≡ true → ⊥
    earlier j d e l t =
        let r = subst (λ z. IsReached slots size z j) (slot_called size d home name t ∙ sym at) (reached j d e) in
        let q = not_passed ds slots size s home name n j d (Some k) e t r passed there in
        let same : k ≡ q.0 = cc (q.1) in
        omega (arith, l, same, q.2)

-- a free slot ends the search
pub absent_by_probing : (ds : List Declaration) (slots : List (Option ℕ)) (size s : ℕ) (home : List (List ℕ)) (name : List ℕ) (n : ℕ) → AreReached ds slots size → s ≡ protocol_slot size home name → ArePassed ds slots size s home name n
    → slice_get slots (probed size s n) ≡ Some None → first_where (is_called home name) ds ≡ None
absent_by_probing ds slots size s home name n reached at passed free =
    none_there (is_called home name) ds (λ j d e. ⊎_elim (λ t. absurd (present j d e t)) (λ t. t) (true_or_false (is_called home name d)))
  where
    present : (j : ℕ) (d : Declaration) → slice_get ds j ≡ Some d → is_called home name d ≡ true → ⊥
    present j d e t =
        let r = subst (λ z. IsReached slots size z j) (slot_called size d home name t ∙ sym at) (reached j d e) in
        let q = not_passed ds slots size s home name n j d None e t r passed free in
        cc (q.1)

-- slots that are filled for one protocol after the other

pub empty_slot : (n s : ℕ) (k : ℕ) → slice_get (replicate n None) s ≡ Some (Some k) → ⊥
empty_slot zero s k e = cc e
empty_slot (suc n) zero k e = cc e
empty_slot (suc n) (suc s) k e = empty_slot n s k e

pub none_indexed : (ds : List Declaration) (size : ℕ) (slots : List (Option ℕ)) → length slots ≡ size → slots ≡ replicate size None → IsFilled ds size 0 slots
none_indexed ds size slots long e = record {
  long = long;
  within = λ s k h. absurd (empty_slot size s k (subst (λ xs. slice_get xs s ≡ Some (Some k)) e h));
  reached = λ j d h l. absurd (omega (arith, l));
}

set_here : (xs : List (Option ℕ)) (i n : ℕ) (o : Option ℕ) → slice_get xs i ≡ Some o → slice_get (set xs i (Some n)) i ≡ Some (Some n)
set_here [] i n o e = absurd (cc e)
set_here (y ∷ xs) zero n o e = refl
set_here (y ∷ xs) (suc i) n o e = set_here xs i n o e

-- a taken slot keeps its place when a free one is taken
kept_slot : (xs : List (Option ℕ)) (i n p k : ℕ) → slice_get xs i ≡ Some None → slice_get xs p ≡ Some (Some k) → slice_get (set xs i (Some n)) p ≡ Some (Some k)
kept_slot [] i n p k e h = absurd (cc h)
kept_slot (y ∷ xs) zero n zero k e h = absurd (cc (e, h))
kept_slot (y ∷ xs) zero n (suc p) k e h = h
kept_slot (y ∷ xs) (suc i) n zero k e h = h
kept_slot (y ∷ xs) (suc i) n (suc p) k e h = kept_slot xs i n p k e h

kept_reached : (slots : List (Option ℕ)) (size s k i n : ℕ) → slice_get slots i ≡ Some None → IsReached slots size s k → IsReached (set slots i (Some n)) size s k
kept_reached slots size s k i n e r = record {
  steps = r.steps;
  there = kept_slot slots i n (probed size s r.steps) k e r.there;
  before = λ m l. let b = r.before m l in (b.0, kept_slot slots i n (probed size s m) b.0 e b.1, b.2);
}

-- one more protocol, in the first free slot
one_indexed : (ds : List Declaration) (size n free : ℕ) (c : Declaration) (slots : List (Option ℕ)) → slice_get ds n ≡ Some c → IsFirstFree slots size (slot_for size c) free → IsFilled ds size n slots → IsFilled ds size (n + 1) (set slots free (Some n))
one_indexed ds size n free c slots here f g = record {
  long = length-set slots free (Some n) ∙ g.long;
  within = λ p k h. ⊎_elim (λ x. let same : n ≡ k = cc (x.1) in omega (arith, same)) (λ x. omega (arith, g.within p k x.1)) (get_set slots free (Some n) p (Some k) h);
  reached = λ j d e l. ⊎_elim (λ x. kept_reached slots size (slot_for size d) j free n f.empty (g.reached j d e x)) (λ x. next j d e x) (last_or_before j n l);
}
  where
    itself : IsReached (set slots free (Some n)) size (slot_for size c) n
    itself = record {
      steps = f.steps;
      there = subst (λ z. slice_get (set slots free (Some n)) z ≡ Some (Some n)) f.at (set_here slots free n None f.empty);
      before = λ m l. let t = f.before m l in (t.0, kept_slot slots free n (probed size (slot_for size c) m) t.0 f.empty t.1, g.within (probed size (slot_for size c) m) t.0 t.1);
    }

    next : (j : ℕ) (d : Declaration) → slice_get ds j ≡ Some d → j ≡ n → IsReached (set slots free (Some n)) size (slot_for size d) j
    next j d e x =
        let both : slice_get ds n ≡ Some d = ap (slice_get ds) (sym x) ∙ e in
        let same : c ≡ d = cc (here, both) in
        subst (λ z. IsReached (set slots free (Some n)) size (slot_for size d) z) (sym x) (subst (λ z. IsReached (set slots free (Some n)) size (slot_for size z) n) same itself)

has_one : (xs : List (Option ℕ)) (i : ℕ) (o : Option ℕ) → slice_get xs i ≡ Some o → 0 < length xs
has_one [] i o h = absurd (cc h)
has_one (x ∷ xs) i o h = omega arith

-- where slots are left, there were slots
pub some_left : (slots new : List (Option ℕ)) (n s : ℕ) → IsSlotTaken slots n s new → 0 < length new → 0 < length slots
some_left slots new n s t l = ⊎_elim (λ x. has_one slots x.0 None (x.1).empty) (λ x. absurd (omega (arith, l, ap length x))) t

-- one more protocol, if slots are left
pub next_indexed : (ds : List Declaration) (size n : ℕ) (c : Declaration) (slots new : List (Option ℕ)) → slice_get ds n ≡ Some c → IsSlotTaken slots n (slot_for (length slots) c) new → (0 < length slots → IsFilled ds size n slots) → 0 < length new → IsFilled ds size (n + 1) new
next_indexed ds size n c slots new here t f l =
    let g = f (some_left slots new n (slot_for (length slots) c) t l) in
    ⊎_elim (λ x. subst (IsFilled ds size (n + 1)) (sym x.2) (one_indexed ds size n x.0 c slots here (subst (λ z. IsFirstFree slots z (slot_for z c) x.0) g.long x.1) g))
    (λ x. absurd (omega (arith, l, ap length x))) t

-- all protocols are in the index
pub indexed_all : (ds : List Declaration) (slots : List (Option ℕ)) (n : ℕ) → IsIndexed ds slots n → IsProtocolIndex ds slots
indexed_all ds slots n h l k d e =
    let q = h l in
    let f = q.0 in
    f.reached k d e (slice_get_within ds k d e)

pub none_kept : (ds : List Declaration) (slots : List (Option ℕ)) (n : ℕ) → slots ≡ [] → IsIndexed ds slots n
none_kept ds slots n e l = absurd (omega (arith, l, ap length e))

pub read_at : {X : Type 0} (xs : List X) (i : ℕ) (x : X) → i < length xs → x ≡ get_or xs i x → slice_get xs i ≡ Some x
read_at xs i x l e = slice_get_read xs (length xs) i x refl l e

pub next_declared : (ds : List CodeDeclaration) (size n : ℕ) (c : CodeDeclaration) (slots new : List (Option ℕ)) → n < length ds → c ≡ get_or ds n c → IsSlotTaken slots n (slot_for (length slots) (declaration_of c)) new → (0 < length slots → IsFilled (shown ds) size n slots)
    → 0 < length new → IsFilled (shown ds) size (n + 1) new
next_declared ds size n c slots new l e t f more = next_indexed (shown ds) size n (declaration_of c) slots new (there_shown ds n c (read_at ds n c l e)) t f more

-- a slot that is not empty
pub some_of : (o : Option ℕ) → is_some o ≡ true → (k : ℕ) × (o ≡ Some k)
some_of None e = absurd (cc e)
some_of (Some k) e = (k, refl)

-- the protocols of one more module

pub get_before : {X : Type 0} (xs ys : List X) (j : ℕ) (x : X) → j < length xs → slice_get (xs ++ ys) j ≡ Some x → slice_get xs j ≡ Some x
get_before [] ys j x l e = absurd (omega (arith, l))
get_before (y ∷ xs) ys zero x l e = e
get_before (y ∷ xs) ys (suc j) x l e = get_before xs ys j x (omega (arith, l)) e

get_after : {X : Type 0} (xs ys : List X) (i : ℕ) (x : X) → slice_get ys i ≡ Some x → slice_get (xs ++ ys) (length xs + i) ≡ Some x
get_after [] ys i x e =
    let same : i ≡ 0 + i = omega arith in
    subst (λ n. slice_get ys n ≡ Some x) same e
get_after (y ∷ xs) ys i x e =
    let same : suc (length xs + i) ≡ suc (length xs) + i = omega arith in
    subst (λ n. slice_get (y ∷ (xs ++ ys)) n ≡ Some x) same (get_after xs ys i x e)

pub indexed_before : (ds es : List Declaration) (size : ℕ) (slots : List (Option ℕ)) → IsFilled ds size (length ds) slots → IsFilled (ds ++ es) size (length ds + 0) slots
indexed_before ds es size slots f = record {
  long = f.long;
  within = λ s k h. omega (arith, f.within s k h);
  reached = λ j d e l. let low : j < length ds = omega (arith, l) in f.reached j d (get_before ds es j d low e) low;
}

declared_at : (home : ModuleTree) (ps : List ProtocolDeclaration) (i : ℕ) (p : ProtocolDeclaration) → slice_get ps i ≡ Some p → slice_get (declared_in home ps) i ≡ Some (record { home = home; protocol = p })
declared_at home [] i p e = absurd (cc e)
declared_at home (q ∷ ps) zero p e =
    let same : q ≡ p = cc e in
    ap (λ x. Some (record { home = home; protocol = x })) same
declared_at home (q ∷ ps) (suc i) p e = declared_at home ps i p e

pub next_added : (ds : List Declaration) (home : ModuleTree) (size i place : ℕ) (p : ProtocolDeclaration) (slots new : List (Option ℕ)) → i < length home.protocols → p ≡ get_or home.protocols i p → place ≡ length ds + i → IsSlotTaken slots place (protocol_slot (length slots) home.name p.name) new
    → (0 < length slots → IsFilled (ds ++ declared_in home home.protocols) size (length ds + i) slots) → 0 < length new → IsFilled (ds ++ declared_in home home.protocols) size (length ds + (i + 1)) new
next_added ds home size i place p slots new l e at t f left =
    let es = declared_in home home.protocols in
    let d : Declaration = record { home = home; protocol = p } in
    let here = get_after ds es i d (declared_at home home.protocols i p (read_at home.protocols i p l e)) in
    let taken = subst (λ z. IsSlotTaken slots z (slot_for (length slots) d) new) at t in
    let more : length ds + i + 1 ≡ length ds + (i + 1) = omega arith in
    subst (λ z. IsFilled (ds ++ es) size z new) more (next_indexed (ds ++ es) size (length ds + i) d slots new here taken f left)

pub added_count : (ds : List Declaration) (home : ModuleTree) → length (ds ++ declared_in home home.protocols) ≡ length ds + length home.protocols
added_count ds home = length-append ds (declared_in home home.protocols) ∙ ap (λ n. length ds + n) (length-map home.protocols (λ p. record { home = home; protocol = p }))
