-- The properties of a protocol's global types, and a closed global type substituted for a variable.
use Rattle.std.proofs.Common.{◌≡◌, ◌≢◌, Bool, true, false, ℕ, ◌+◌, ◌<◌, ◌≤◌, ◌==◌, List, if◌then◌else◌, refl, sym, ap, ap₂, ◌∙◌, arith}
use Rattle.std.proofs.lemmas.Bool.{true≢false}
use Rattle.std.proofs.lemmas.Bool.Decides.{Decides-eqb}
use Rattle.scrib_types.specs.declared.message.Message.{Message}
use Rattle.scrib_types.specs.Trees.{GlobalTree, GlobalEnd, GlobalVar, GlobalRec, Comm, Flight, GlobalBranches, NoBranch, Branch}
use Rattle.scrib_types.specs.WellFormed.{leads_to_communication}
use Rattle.scrib_global.specs.Transitions.{substitute, substitute_all, global_unfolding}

-- n recursions round it bind all its variables
abbrev mutual
  pub Closed : GlobalTree → ℕ → Type 0
  Closed GlobalEnd n = Unit {0}
  Closed (GlobalVar k) n = k < n
  Closed (GlobalRec g) n = Closed g (n + 1)
  Closed (Comm p q bs) n = ClosedAll bs n
  Closed (Flight p q j bs) n = ClosedAll bs n

  pub ClosedAll : GlobalBranches → ℕ → Type 0
  ClosedAll NoBranch n = Unit {0}
  ClosedAll (Branch m g bs) n = Closed g n × ClosedAll bs n

-- the role neither sends nor receives in it
abbrev mutual
  pub Absent : List ℕ → GlobalTree → Type 0
  Absent r GlobalEnd = Unit {0}
  Absent r (GlobalVar k) = Unit {0}
  Absent r (GlobalRec g) = Absent r g
  Absent r (Comm p q bs) = (r ≢ p) × (r ≢ q) × AbsentAll r bs
  Absent r (Flight p q j bs) = (r ≢ p) × (r ≢ q) × AbsentAll r bs

  pub AbsentAll : List ℕ → GlobalBranches → Type 0
  AbsentAll r NoBranch = Unit {0}
  AbsentAll r (Branch m g bs) = Absent r g × AbsentAll r bs

abbrev pub NonEmpty : GlobalBranches → Type 0
NonEmpty NoBranch = ⊥
NonEmpty (Branch m g bs) = Unit {0}

-- no branch has the message
abbrev pub Lack : Message → GlobalBranches → Type 0
Lack m NoBranch = Unit {0}
Lack m (Branch n g bs) = (m ≢ n) × Lack m bs

abbrev pub Distinct : GlobalBranches → Type 0
Distinct NoBranch = Unit {0}
Distinct (Branch m g bs) = Lack m bs × Distinct bs

-- no flights, guarded recursions, no communication with oneself, a branch at least, and different messages
abbrev mutual
  pub Sound : GlobalTree → Type 0
  Sound GlobalEnd = Unit {0}
  Sound (GlobalVar k) = Unit {0}
  Sound (GlobalRec g) = (leads_to_communication g ≡ true) × Sound g
  Sound (Comm p q bs) = (p ≢ q) × NonEmpty bs × Distinct bs × SoundAll bs
  Sound (Flight p q j bs) = ⊥

  pub SoundAll : GlobalBranches → Type 0
  SoundAll NoBranch = Unit {0}
  SoundAll (Branch m g bs) = Sound g × SoundAll bs

mutual
  pub closed_more : (g : GlobalTree) (n k : ℕ) → n ≤ k → Closed g n → Closed g k
  closed_more GlobalEnd n k le c = tt
  closed_more (GlobalVar i) n k le c = omega arith
  closed_more (GlobalRec g) n k le c = closed_more g (n + 1) (k + 1) (omega arith) c
  closed_more (Comm p q bs) n k le c = closed_more_all bs n k le c
  closed_more (Flight p q j bs) n k le c = closed_more_all bs n k le c

  pub closed_more_all : (bs : GlobalBranches) (n k : ℕ) → n ≤ k → ClosedAll bs n → ClosedAll bs k
  closed_more_all NoBranch n k le c = tt
  closed_more_all (Branch m g bs) n k le c = (closed_more g n k le c.0, closed_more_all bs n k le c.1)

nat_same : (i n : ℕ) → (i == n) ≡ true → i ≡ n
nat_same i n e = (Decides-eqb i n).0 e

nat_not : (i n : ℕ) → (i == n) ≡ false → i ≢ n
nat_not i n e h = true≢false (sym ((Decides-eqb i n).1 h) ∙ e)

closed_var : (t : GlobalTree) (i n : ℕ) → Closed t 0 → i < n + 1 → (b : Bool) → (i == n) ≡ b → Closed (if b then t else GlobalVar i) n
closed_var t i n ct c true e = closed_more t 0 n (omega arith) ct
closed_var t i n ct c false e = let ne = nat_not i n e in omega arith

mutual
  pub closed_substitute : (t : GlobalTree) → Closed t 0 → (g : GlobalTree) (n : ℕ) → Closed g (n + 1) → Closed (substitute t g n) n
  closed_substitute t ct GlobalEnd n c = tt
  closed_substitute t ct (GlobalVar i) n c = closed_var t i n ct c (i == n) refl
  closed_substitute t ct (GlobalRec g) n c = closed_substitute t ct g (n + 1) c
  closed_substitute t ct (Comm p q bs) n c = closed_substitute_all t ct bs n c
  closed_substitute t ct (Flight p q j bs) n c = closed_substitute_all t ct bs n c

  pub closed_substitute_all : (t : GlobalTree) → Closed t 0 → (bs : GlobalBranches) (n : ℕ) → ClosedAll bs (n + 1) → ClosedAll (substitute_all t bs n) n
  closed_substitute_all t ct NoBranch n c = tt
  closed_substitute_all t ct (Branch m g bs) n c = (closed_substitute t ct g n c.0, closed_substitute_all t ct bs n c.1)

absent_var : (r : List ℕ) (t : GlobalTree) (i : ℕ) → Absent r t → (b : Bool) → Absent r (if b then t else GlobalVar i)
absent_var r t i a true = a
absent_var r t i a false = tt

mutual
  pub absent_substitute : (r : List ℕ) (t : GlobalTree) → Absent r t → (g : GlobalTree) (n : ℕ) → Absent r g → Absent r (substitute t g n)
  absent_substitute r t at GlobalEnd n a = tt
  absent_substitute r t at (GlobalVar i) n a = absent_var r t i at (i == n)
  absent_substitute r t at (GlobalRec g) n a = absent_substitute r t at g (n + 1) a
  absent_substitute r t at (Comm p q bs) n a = (a.0, a.1, absent_substitute_all r t at bs n a.2)
  absent_substitute r t at (Flight p q j bs) n a = (a.0, a.1, absent_substitute_all r t at bs n a.2)

  pub absent_substitute_all : (r : List ℕ) (t : GlobalTree) → Absent r t → (bs : GlobalBranches) (n : ℕ) → AbsentAll r bs → AbsentAll r (substitute_all t bs n)
  absent_substitute_all r t at NoBranch n a = tt
  absent_substitute_all r t at (Branch m g bs) n a = (absent_substitute r t at g n a.0, absent_substitute_all r t at bs n a.1)

-- a role of t that is not in the result: t was substituted nowhere
same_var : (r : List ℕ) (t : GlobalTree) (i : ℕ) → (Absent r t → ⊥) → (b : Bool) → Absent r (if b then t else GlobalVar i) → (if b then t else GlobalVar i) ≡ GlobalVar i
same_var r t i h true a = absurd (h a)
same_var r t i h false a = refl

mutual
  pub same_substitute : (r : List ℕ) (t : GlobalTree) → (Absent r t → ⊥) → (g : GlobalTree) (n : ℕ) → Absent r (substitute t g n) → substitute t g n ≡ g
  same_substitute r t h GlobalEnd n a = refl
  same_substitute r t h (GlobalVar i) n a = same_var r t i h (i == n) a
  same_substitute r t h (GlobalRec g) n a = ap GlobalRec (same_substitute r t h g (n + 1) a)
  same_substitute r t h (Comm p q bs) n a = ap (Comm p q) (same_substitute_all r t h bs n a.2)
  same_substitute r t h (Flight p q j bs) n a = ap (Flight p q j) (same_substitute_all r t h bs n a.2)

  pub same_substitute_all : (r : List ℕ) (t : GlobalTree) → (Absent r t → ⊥) → (bs : GlobalBranches) (n : ℕ) → AbsentAll r (substitute_all t bs n) → substitute_all t bs n ≡ bs
  same_substitute_all r t h NoBranch n a = refl
  same_substitute_all r t h (Branch m g bs) n a = ap₂ (Branch m) (same_substitute r t h g n a.0) (same_substitute_all r t h bs n a.1)

-- nothing is substituted in what is closed
closed_same_var : (t : GlobalTree) (i n : ℕ) → i < n → (b : Bool) → (i == n) ≡ b → (if b then t else GlobalVar i) ≡ GlobalVar i
closed_same_var t i n c true e = let s = nat_same i n e in absurd (omega arith)
closed_same_var t i n c false e = refl

mutual
  pub closed_same : (t g : GlobalTree) (n : ℕ) → Closed g n → substitute t g n ≡ g
  closed_same t GlobalEnd n c = refl
  closed_same t (GlobalVar i) n c = closed_same_var t i n c (i == n) refl
  closed_same t (GlobalRec g) n c = ap GlobalRec (closed_same t g (n + 1) c)
  closed_same t (Comm p q bs) n c = ap (Comm p q) (closed_same_all t bs n c)
  closed_same t (Flight p q j bs) n c = ap (Flight p q j) (closed_same_all t bs n c)

  pub closed_same_all : (t : GlobalTree) (bs : GlobalBranches) (n : ℕ) → ClosedAll bs n → substitute_all t bs n ≡ bs
  closed_same_all t NoBranch n c = refl
  closed_same_all t (Branch m g bs) n c = ap₂ (Branch m) (closed_same t g n c.0) (closed_same_all t bs n c.1)

lack_substitute : (t : GlobalTree) (m : Message) (bs : GlobalBranches) (n : ℕ) → Lack m bs → Lack m (substitute_all t bs n)
lack_substitute t m NoBranch n f = tt
lack_substitute t m (Branch k g bs) n f = (f.0, lack_substitute t m bs n f.1)

distinct_substitute : (t : GlobalTree) (bs : GlobalBranches) (n : ℕ) → Distinct bs → Distinct (substitute_all t bs n)
distinct_substitute t NoBranch n f = tt
distinct_substitute t (Branch m g bs) n f = (lack_substitute t m bs n f.0, distinct_substitute t bs n f.1)

some_substitute : (t : GlobalTree) (bs : GlobalBranches) (n : ℕ) → NonEmpty bs → NonEmpty (substitute_all t bs n)
some_substitute t NoBranch n f = f
some_substitute t (Branch m g bs) n f = tt

-- a guarded recursion stays guarded
pub leads_substitute : (t g : GlobalTree) (n : ℕ) → leads_to_communication g ≡ true → leads_to_communication (substitute t g n) ≡ true
leads_substitute t GlobalEnd n h = h
leads_substitute t (GlobalVar i) n h = absurd (true≢false (sym h))
leads_substitute t (GlobalRec g) n h = leads_substitute t g (n + 1) h
leads_substitute t (Comm p q bs) n h = refl
leads_substitute t (Flight p q j bs) n h = h

sound_var : (t : GlobalTree) (i : ℕ) → Sound t → (b : Bool) → Sound (if b then t else GlobalVar i)
sound_var t i s true = s
sound_var t i s false = tt

mutual
  pub sound_substitute : (t : GlobalTree) → Sound t → (g : GlobalTree) (n : ℕ) → Sound g → Sound (substitute t g n)
  sound_substitute t st GlobalEnd n s = tt
  sound_substitute t st (GlobalVar i) n s = sound_var t i st (i == n)
  sound_substitute t st (GlobalRec g) n s = (leads_substitute t g (n + 1) s.0, sound_substitute t st g (n + 1) s.1)
  sound_substitute t st (Comm p q bs) n s = (s.0, some_substitute t bs n s.1, distinct_substitute t bs n s.2, sound_substitute_all t st bs n s.3)
  sound_substitute t st (Flight p q j bs) n s = s

  pub sound_substitute_all : (t : GlobalTree) → Sound t → (bs : GlobalBranches) (n : ℕ) → SoundAll bs → SoundAll (substitute_all t bs n)
  sound_substitute_all t st NoBranch n s = tt
  sound_substitute_all t st (Branch m g bs) n s = (sound_substitute t st g n s.0, sound_substitute_all t st bs n s.1)

-- the unfolding of a closed recursion
pub closed_unfolding : (g : GlobalTree) → Closed (GlobalRec g) 0 → Closed (global_unfolding g) 0
closed_unfolding g c = closed_substitute (GlobalRec g) c g 0 c

pub sound_unfolding : (g : GlobalTree) → Sound (GlobalRec g) → Sound (global_unfolding g)
sound_unfolding g s = sound_substitute (GlobalRec g) s g 0 s.1

pub absent_unfolding : (r : List ℕ) (g : GlobalTree) → Absent r g → Absent r (global_unfolding g)
absent_unfolding r g a = absent_substitute r (GlobalRec g) a g 0 a
