-- A global type with other roles (this project's own).
use Rattle.std.specs.Prelude.{ℕ, List, map}
use Rattle.std.specs.Borrow.{Bor}
use Rattle.scrib_types.specs.Trees.{GlobalTree, GlobalEnd, GlobalVar, GlobalRec, Comm, Flight, GlobalBranches, NoBranch, Branch}

abbrev mutual
  pub renamed : (name : List ℕ → List ℕ) → GlobalTree → GlobalTree
  renamed f GlobalEnd = GlobalEnd
  renamed f (GlobalVar n) = GlobalVar n
  renamed f (GlobalRec g) = GlobalRec (renamed f g)
  renamed f (Comm p q bs) = Comm (f p) (f q) (branches_renamed f bs)
  renamed f (Flight p q j bs) = Flight (f p) (f q) j (branches_renamed f bs)

  pub branches_renamed : (name : List ℕ → List ℕ) → GlobalBranches → GlobalBranches
  branches_renamed f NoBranch = NoBranch
  branches_renamed f (Branch m g bs) = Branch m (renamed f g) (branches_renamed f bs)

-- the values of borrowed names
abbrev pub named : List (Bor (List ℕ)) → List (List ℕ)
named rs = map (λ (r : Bor (List ℕ)). r.now) rs
