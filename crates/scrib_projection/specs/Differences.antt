-- The first choice whose branches don't merge for a role (this project's own).
use Rattle.std.specs.Prelude.{ℕ, ◌+◌, Bool, false, ◌&&◌, ◌||◌, not, List, Option, Some, None, is_some, option_map, if◌then◌else◌}
use Rattle.std.specs.Option.{option_or}
use Rattle.std.specs.Str.{bytes_eq}
use Rattle.scrib_types.specs.declared.profile.Profile.{Profile}
use Rattle.scrib_types.specs.Trees.{GlobalTree, GlobalEnd, GlobalVar, GlobalRec, Comm, Flight, GlobalBranches, NoBranch, Branch, LocalBranches, NoChoice, Choice}
use Rattle.scrib_types.specs.Projection.{is_closed, occurs, merged, branch_projections}

-- one, where there are several branches
abbrev pub choice_count_here : GlobalBranches → ℕ
choice_count_here NoBranch = 0
choice_count_here (Branch m g NoBranch) = 0
choice_count_here (Branch m g (Branch n h bs)) = 1

-- the number of its communications with several branches
abbrev mutual
  pub choice_count : GlobalTree → ℕ
  choice_count GlobalEnd = 0
  choice_count (GlobalVar n) = 0
  choice_count (GlobalRec g) = choice_count g
  choice_count (Comm p q bs) = branch_choice_count bs + choice_count_here bs
  choice_count (Flight p q j bs) = branch_choice_count bs + choice_count_here bs

  pub branch_choice_count : GlobalBranches → ℕ
  branch_choice_count NoBranch = 0
  branch_choice_count (Branch m g bs) = choice_count g + branch_choice_count bs

-- the branches have projections, and don't merge
abbrev pub differ : Profile → Option LocalBranches → Bool
differ profile None = false
differ profile (Some NoChoice) = false
differ profile (Some (Choice m l ls)) = not (is_some (merged profile (Choice m l ls)))

-- the communication's number, where the role is neither sender nor receiver and the branches don't merge for it
abbrev pub difference_here : Profile → (role sender receiver : List ℕ) → GlobalBranches → Option ℕ
difference_here profile r p q bs =
    if bytes_eq r p || bytes_eq r q then None
    else (if differ profile (branch_projections profile r bs) then Some (branch_choice_count bs) else None)

-- The number of the first communication whose branches don't merge for the role: of those with several branches,
-- from 0 and in post-order. A closed recursion in which the role doesn't occur isn't visited.
abbrev mutual
  pub first_difference : Profile → List ℕ → GlobalTree → Option ℕ
  first_difference profile r GlobalEnd = None
  first_difference profile r (GlobalVar n) = None
  first_difference profile r (GlobalRec g) =
      if is_closed (GlobalRec g) && not (occurs r g) then None else first_difference profile r g
  first_difference profile r (Comm p q bs) = option_or (first_among profile r bs) (difference_here profile r p q bs)
  first_difference profile r (Flight p q j bs) = None

  pub first_among : Profile → List ℕ → GlobalBranches → Option ℕ
  first_among profile r NoBranch = None
  first_among profile r (Branch m g bs) =
      option_or (first_difference profile r g) (option_map (λ k. choice_count g + k) (first_among profile r bs))
