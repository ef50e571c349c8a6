-- The pure tree of a local type.
use Rattle.std.specs.Prelude.{◌≡◌, ℕ, List, [], ◌∷◌, refl}
use Rattle.std.proofs.Common.{ap}
use Rattle.scrib_types.specs.declared.message.Message.{Message}
use Rattle.scrib_types.specs.declared.local.Local as local
use Rattle.scrib_types.specs.declared.local.Local.{Local, Row_of-Local, end_of-Local, more_of-Local, Row_of-Local-Send-1-2, end_of-Local-Send-1-2, more_of-Local-Send-1-2}
use Rattle.scrib_types.specs.declared.local.Local.TheBlock.{hidden-the_row-Local-0, hidden-the_row-Local-Send-1-2-1}
use denote.Hole.Carrier.{hidden}
use Rattle.scrib_types.specs.Trees.{LocalTree, LocalEnd, LocalVar, LocalRec, Send, Recv, LocalBranches, NoChoice, Choice}

unfoldable mutual
  pub local_of : Local → LocalTree
  local_of local.End = LocalEnd
  local_of (local.Var n) = LocalVar n
  local_of (local.Rec' s row) = LocalRec (body_of row)
  local_of (local.Send' q s row) = Send q (rows_of row)
  local_of (local.Recv' p s row) = Recv p (rows_of row)

  pub body_of : {n : _} → Row_of-Local n → LocalTree
  body_of end_of-Local = LocalEnd
  body_of (more_of-Local l rest) = local_of l

  pub rows_of : {n : _} → Row_of-Local-Send-1-2 n → LocalBranches
  rows_of end_of-Local-Send-1-2 = NoChoice
  rows_of (more_of-Local-Send-1-2 m l rest) = Choice m (local_of l) (rows_of rest)

-- the branches of a list, as a pure tree
abbrev pub local_branches : List (Message × Local) → LocalBranches
local_branches [] = NoChoice
local_branches (b ∷ bs) = Choice b.0 (local_of b.1) (local_branches bs)

unfoldable local_branches_in : LocalTree → LocalBranches
local_branches_in LocalEnd = NoChoice
local_branches_in (LocalVar n) = NoChoice
local_branches_in (LocalRec l) = NoChoice
local_branches_in (Send q ls) = ls
local_branches_in (Recv p ls) = ls

-- the tree of a choice of sends
pub local_send : (q : List ℕ) (bs : List (Message × Local)) → local_of (local.Send q bs) ≡ Send q (local_branches bs)
unfolding hidden-the_row-Local-Send-1-2-1 hidden local_of rows_of body_of local_branches_in
local_send q [] = refl
local_send q (b ∷ bs) = ap (λ t. Send q (Choice b.0 (local_of b.1) (local_branches_in t))) (local_send q bs)

-- the tree of a choice of receptions
pub local_recv : (p : List ℕ) (bs : List (Message × Local)) → local_of (local.Recv p bs) ≡ Recv p (local_branches bs)
unfolding hidden-the_row-Local-Send-1-2-1 hidden local_of rows_of body_of local_branches_in
local_recv p [] = refl
local_recv p (b ∷ bs) = ap (λ t. Recv p (Choice b.0 (local_of b.1) (local_branches_in t))) (local_recv p bs)

-- the tree of a recursion
pub local_rec : (l : Local) → local_of (local.Rec l) ≡ LocalRec (local_of l)
unfolding hidden-the_row-Local-0 hidden local_of rows_of body_of
local_rec l = refl

-- the tree of an end
pub local_end : local_of local.End ≡ LocalEnd
unfolding local_of
local_end = refl

-- the tree of a variable
pub local_var : (n : ℕ) → local_of (local.Var n) ≡ LocalVar n
unfolding local_of
local_var n = refl

-- the equation at each form of local type
pub ruleset local_views = (local_end, local_var, local_rec, local_send, local_recv)
