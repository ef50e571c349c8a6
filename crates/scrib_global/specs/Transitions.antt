-- The global transitions of a conversation. A state is a global type in which messages may be in flight, and each
-- transition is one send or one reception. The transitions are this project's own, after Deniélou and Yoshida, ICALP
-- 2013; the global types are those of Honda, Yoshida and Carbone, POPL 2008.
use Rattle.std.specs.Prelude.{◌≢◌, ℕ, zero, suc, ◌+◌, ◌==◌, List, if◌then◌else◌}
use Rattle.scrib_types.specs.declared.message.Message.{Message}
use Rattle.scrib_types.specs.declared.event.Event.{Event}
use Rattle.scrib_types.specs.declared.event.Event.TheVariants.{Sent, Received}
use Rattle.scrib_types.specs.Trees.{GlobalTree, GlobalEnd, GlobalVar, GlobalRec, Comm, Flight, GlobalBranches, NoBranch, Branch}
use Rattle.scrib_types.specs.Logs.{subject_of}

-- substitutes t, in which no variable is free, for the variable of the n-th enclosing recursion
abbrev mutual
  pub substitute : GlobalTree → GlobalTree → ℕ → GlobalTree
  substitute t GlobalEnd n = GlobalEnd
  substitute t (GlobalVar k) n = if k == n then t else GlobalVar k
  substitute t (GlobalRec body) n = GlobalRec (substitute t body (n + 1))
  substitute t (Comm p q bs) n = Comm p q (substitute_all t bs n)
  substitute t (Flight p q j bs) n = Flight p q j (substitute_all t bs n)

  pub substitute_all : GlobalTree → GlobalBranches → ℕ → GlobalBranches
  substitute_all t NoBranch n = NoBranch
  substitute_all t (Branch m g bs) n = Branch m (substitute t g n) (substitute_all t bs n)

-- the unfolding of a recursion with this body
abbrev pub global_unfolding : GlobalTree → GlobalTree
global_unfolding body = substitute (GlobalRec body) body 0

-- the j-th branch, from 0, has the message and continues as this
pub data IsBranch : GlobalBranches → ℕ → Message → GlobalTree → Type 0 where
  first : {m : Message} {g : GlobalTree} {bs : GlobalBranches} → IsBranch (Branch m g bs) zero m g
  later : {m n : Message} {g h : GlobalTree} {bs : GlobalBranches} {j : ℕ} → IsBranch bs j m g
      → IsBranch (Branch n h bs) (suc j) m g

-- the first state makes the transition of the event to the second
mutual
  pub data Transition : GlobalTree → Event → GlobalTree → Type 0 where
    -- a communication sends one of its branches, whose message is in flight from then on
    sends : {p q : List ℕ} {j : ℕ} {m : Message} {g : GlobalTree} {bs : GlobalBranches} → IsBranch bs j m g
        → Transition (Comm p q bs) (Sent p q m) (Flight p q j bs)
    -- the message in flight is received, and the state becomes its branch
    receives : {p q : List ℕ} {j : ℕ} {m : Message} {g : GlobalTree} {bs : GlobalBranches} → IsBranch bs j m g
        → Transition (Flight p q j bs) (Received p q m) g
    -- a recursion has the transitions of its unfolding
    unfolds : {e : Event} {body h : GlobalTree} → Transition (global_unfolding body) e h → Transition (GlobalRec body) e h
    -- a role that is neither sender nor receiver may act beneath a communication, in every branch
    beneath : {p q : List ℕ} {e : Event} {bs cs : GlobalBranches} → subject_of e ≢ p → subject_of e ≢ q
        → EachTransition bs e cs → Transition (Comm p q bs) e (Comm p q cs)
    -- a role that isn't the receiver of the message in flight may act in its branch
    beside : {p q : List ℕ} {j : ℕ} {e : Event} {bs cs : GlobalBranches} → subject_of e ≢ q → BranchTransition bs j e cs
        → Transition (Flight p q j bs) e (Flight p q j cs)

  -- every branch makes the transition
  pub data EachTransition : GlobalBranches → Event → GlobalBranches → Type 0 where
    none : {e : Event} → EachTransition NoBranch e NoBranch
    each : {e : Event} {m : Message} {g h : GlobalTree} {bs cs : GlobalBranches} → Transition g e h
        → EachTransition bs e cs → EachTransition (Branch m g bs) e (Branch m h cs)

  -- the j-th branch makes the transition, and the others stay
  pub data BranchTransition : GlobalBranches → ℕ → Event → GlobalBranches → Type 0 where
    here : {e : Event} {m : Message} {g h : GlobalTree} {bs : GlobalBranches} → Transition g e h
        → BranchTransition (Branch m g bs) zero e (Branch m h bs)
    there : {j : ℕ} {e : Event} {m : Message} {g : GlobalTree} {bs cs : GlobalBranches} → BranchTransition bs j e cs
        → BranchTransition (Branch m g bs) (suc j) e (Branch m g cs)
