-- A recursion substituted for its variable, where variables and depths are machine numbers, and the types that act
-- after their leading recursions (this project's own).
-- Only contracts of private functions cite this file.
use Rattle.std.specs.Prelude.{◌≡◌, ℕ, ◌^◌, min, Bool, true, false}
use Rattle.scrib_types.specs.Trees.{LocalTree, LocalEnd, LocalVar, LocalRec, Send, Recv, LocalBranches}
use Rattle.scrib_types.specs.Traces.{substitute, substitute_all}

-- after its leading recursions it sends or receives
abbrev pub acts_first : LocalTree → Bool
acts_first LocalEnd = false
acts_first (LocalVar n) = false
acts_first (LocalRec body) = acts_first body
acts_first (Send q ls) = true
acts_first (Recv p ls) = true

-- d represents n recursions; all numbers from 2 ^ 32 on are the same, since no variable of a `Local` is so large
abbrev pub Represents : ℕ → ℕ → Type 0
Represents d n = min d (2 ^ 32) ≡ min n (2 ^ 32)

-- r is l with the recursion of this body in place of the variable of the d-th enclosing recursion
abbrev pub Substitutes : (body l : LocalTree) → ℕ → LocalTree → Type 0
Substitutes body l d r = (n : ℕ) → Represents d n → r ≡ substitute (LocalRec body) l n

-- the same for each branch
abbrev pub SubstitutesAll : LocalTree → LocalBranches → ℕ → LocalBranches → Type 0
SubstitutesAll body ls d rs = (n : ℕ) → Represents d n → rs ≡ substitute_all (LocalRec body) ls n
