-- Branches merged one after the other.
-- Only contracts of private functions cite this file.
use Rattle.std.specs.Prelude.{Bool, false, not, Option, Some, None, is_some, option_and_then}
use Rattle.scrib_types.specs.declared.message.Message.{Message}
use Rattle.scrib_types.specs.declared.profile.Profile.{Profile}
use Rattle.scrib_types.specs.declared.local.Local.{Local}
use Rattle.scrib_types.specs.Trees.{LocalTree, LocalBranches, NoChoice, Choice}
use Rattle.scrib_types.specs.LocalView.{local_of}
use Rattle.scrib_types.specs.Projection.{merged, merged_with}
use Rattle.scrib_projection.specs.declared.alternatives.Fit.{Fit}
use Rattle.scrib_projection.specs.declared.alternatives.Fit.TheVariants.{Known, New, Clashing}
use Rattle.scrib_projection.specs.declared.merge.Merge.{Merge}
use Rattle.scrib_projection.specs.declared.merge.Merge.TheVariants.{Empty, One, Differ, Undefined}
use Rattle.scrib_projection.specs.Differences.{differ}

-- the merge of one branch
abbrev pub merge_of : Option Local → Merge
merge_of None = Undefined
merge_of (Some l) = One l

-- the merge of these branches with the ones that follow
abbrev pub merged_after : Profile → Merge → Option LocalBranches → Option LocalTree
merged_after profile Empty rest = option_and_then (merged profile) rest
merged_after profile (One l) None = None
merged_after profile (One l) (Some rest) = merged_with profile (local_of l) rest
merged_after profile Differ rest = None
merged_after profile Undefined rest = None

-- these branches and the ones that follow have projections, and don't merge
abbrev pub differ_after : Profile → Merge → Option LocalBranches → Bool
differ_after profile Empty rest = differ profile rest
differ_after profile (One l) None = false
differ_after profile (One l) (Some rest) = not (is_some (merged_with profile (local_of l) rest))
differ_after profile Differ rest = is_some rest
differ_after profile Undefined rest = false

-- the alternatives, and one more after them
abbrev pub and_choice : LocalBranches → Message → LocalTree → LocalBranches
and_choice NoChoice m l = Choice m l NoChoice
and_choice (Choice n k ls) m l = Choice n k (and_choice ls m l)

-- the alternatives with one more, by how it fits
abbrev pub fitted : Fit → Message → LocalTree → LocalBranches → Option LocalBranches
fitted Known m l ls = Some ls
fitted New m l ls = Some (and_choice ls m l)
fitted Clashing m l ls = None
