-- The pure tree of a global type.
use Rattle.std.specs.Prelude.{◌≡◌, ℕ, List, [], ◌∷◌, refl}
use Rattle.std.proofs.Common.{ap}
use Rattle.scrib_types.specs.declared.message.Message.{Message}
use Rattle.scrib_types.specs.declared.global.GlobalType as global
use Rattle.scrib_types.specs.declared.global.GlobalType.{GlobalType, Row_of-GlobalType, end_of-GlobalType, more_of-GlobalType, Row_of-GlobalType-Comm-2-2, end_of-GlobalType-Comm-2-2, more_of-GlobalType-Comm-2-2}
use Rattle.scrib_types.specs.declared.global.GlobalType.TheBlock.{hidden-the_row-GlobalType-0, hidden-the_row-GlobalType-Comm-2-2-1}
use denote.Hole.Carrier.{hidden}
use Rattle.scrib_types.specs.Trees.{GlobalTree, GlobalEnd, GlobalVar, GlobalRec, Comm, Flight, GlobalBranches, NoBranch, Branch}

unfoldable mutual
  pub global_of : GlobalType → GlobalTree
  global_of global.End = GlobalEnd
  global_of (global.Var n) = GlobalVar n
  global_of (global.Rec' s row) = GlobalRec (body_of row)
  global_of (global.Comm' p q s row) = Comm p q (rows_of row)

  pub body_of : {n : _} → Row_of-GlobalType n → GlobalTree
  body_of end_of-GlobalType = GlobalEnd
  body_of (more_of-GlobalType g rest) = global_of g

  pub rows_of : {n : _} → Row_of-GlobalType-Comm-2-2 n → GlobalBranches
  rows_of end_of-GlobalType-Comm-2-2 = NoBranch
  rows_of (more_of-GlobalType-Comm-2-2 m g rest) = Branch m (global_of g) (rows_of rest)

-- the branches of a list, as a pure tree
abbrev pub global_branches : List (Message × GlobalType) → GlobalBranches
global_branches [] = NoBranch
global_branches (b ∷ bs) = Branch b.0 (global_of b.1) (global_branches bs)

unfoldable branches_in : GlobalTree → GlobalBranches
branches_in GlobalEnd = NoBranch
branches_in (GlobalVar n) = NoBranch
branches_in (GlobalRec g) = NoBranch
branches_in (Comm p q bs) = bs
branches_in (Flight p q j bs) = bs

-- the tree of a communication
pub global_comm : (p q : List ℕ) (bs : List (Message × GlobalType))
    → global_of (global.Comm p q bs) ≡ Comm p q (global_branches bs)
unfolding hidden-the_row-GlobalType-Comm-2-2-1 hidden global_of rows_of body_of branches_in
global_comm p q [] = refl
global_comm p q (b ∷ bs) = ap (λ t. Comm p q (Branch b.0 (global_of b.1) (branches_in t))) (global_comm p q bs)

-- the tree of a recursion
pub global_rec : (g : GlobalType) → global_of (global.Rec g) ≡ GlobalRec (global_of g)
unfolding hidden-the_row-GlobalType-0 hidden global_of rows_of body_of
global_rec g = refl

-- the tree of an end
pub global_end : global_of global.End ≡ GlobalEnd
unfolding global_of
global_end = refl

-- the tree of a variable
pub global_var : (n : ℕ) → global_of (global.Var n) ≡ GlobalVar n
unfolding global_of
global_var n = refl

-- the equation at each form of global type
pub ruleset global_views = (global_end, global_var, global_rec, global_comm)
