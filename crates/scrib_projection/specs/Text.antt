-- The printed text of a local type (this project's own).
use Rattle.std.specs.Prelude.{ℕ, ◌+◌, ◌-◌, List, [], ◌∷◌, ◌++◌, Bool, true, false, codes}
use Rattle.std.specs.Fmt.{decimal}
use Rattle.scrib_types.specs.Texts.{message_text, joined_by}
use Rattle.scrib_types.specs.Trees.{LocalTree, LocalEnd, LocalVar, LocalRec, Send, Recv, LocalBranches, NoChoice, Choice}

-- whether there is one branch
abbrev pub is_one : LocalBranches → Bool
is_one NoChoice = false
is_one (Choice m l NoChoice) = true
is_one (Choice m l (Choice n k ls)) = false

-- one branch alone, or the list of several in braces
abbrev pub braced : Bool → List ℕ → List ℕ
braced true text = text
braced false text = (123 ∷ text) ++ 125 ∷ []

-- The text of a type inside `depth` recursions: `end`, `Xn` where n recursions enclose the variable's own, `rec Xn.L`,
-- `B!m.L`, `A?{m.L,n.K}`.
abbrev mutual
  pub local_text : ℕ → LocalTree → List ℕ
  local_text depth LocalEnd = codes "end"
  local_text depth (LocalVar k) = 88 ∷ decimal (depth - 1 - k)
  local_text depth (LocalRec l) = (codes "rec X" ++ decimal depth) ++ 46 ∷ local_text (depth + 1) l
  local_text depth (Send q ls) = q ++ 33 ∷ braced (is_one ls) (joined_by 44 (branch_texts depth ls))
  local_text depth (Recv p ls) = p ++ 63 ∷ braced (is_one ls) (joined_by 44 (branch_texts depth ls))

  pub branch_texts : ℕ → LocalBranches → List (List ℕ)
  branch_texts depth NoChoice = []
  branch_texts depth (Choice m l ls) = (message_text m ++ 46 ∷ local_text depth l) ∷ branch_texts depth ls
