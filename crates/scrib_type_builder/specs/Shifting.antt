-- A global type under one more recursion: the de Bruijn shift (this project's own).
use Rattle.std.specs.Prelude.{ℕ, ◌+◌, nat_le, if◌then◌else◌}
use Rattle.scrib_types.specs.Trees.{GlobalTree, GlobalEnd, GlobalVar, GlobalRec, Comm, Flight, GlobalBranches, NoBranch, Branch}

-- each variable of a recursion around the type counts one more, where so many recursions of the type are around it
abbrev mutual
  pub shifted : (under : ℕ) → GlobalTree → GlobalTree
  shifted under GlobalEnd = GlobalEnd
  shifted under (GlobalVar n) = GlobalVar (if nat_le under n then n + 1 else n)
  shifted under (GlobalRec g) = GlobalRec (shifted (under + 1) g)
  shifted under (Comm p q bs) = Comm p q (branches_shifted under bs)
  shifted under (Flight p q j bs) = Flight p q j (branches_shifted under bs)

  pub branches_shifted : (under : ℕ) → GlobalBranches → GlobalBranches
  branches_shifted under NoBranch = NoBranch
  branches_shifted under (Branch m g bs) = Branch m (shifted under g) (branches_shifted under bs)
