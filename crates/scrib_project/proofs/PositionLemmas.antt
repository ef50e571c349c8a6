-- The position of the first difference, by the sites of the protocol's choices.
use Rattle.std.proofs.Common.{ℕ, List, Some, Result, Ok, Err, IfErr, sym, ap, ◌∙◌, subst}
use Rattle.scrib_types.specs.declared.local.Local.{Local}
use Rattle.scrib_types.specs.declared.profile.Profile.{Profile}
use Rattle.scrib_types.specs.Trees.{Comm}
use Rattle.scrib_tree.specs.declared.tree.ModuleTree.{ModuleTree}
use Rattle.scrib_projection.specs.Differences.{first_difference}
use Rattle.scrib_elaborate.specs.declared.elaborated.Elaborated.{Elaborated}
use Rattle.scrib_static_checks.specs.Elaboration.{start_of}
use Rattle.scrib_elaborate.specs.Meaning.{elaborated_meaning, sites_of}
use Rattle.scrib_elaborate.specs.Sites.{several, IsSite, IsSiteOf, AreSites}
use Rattle.scrib_project.specs.declared.fault.Unmergeable.{Unmergeable}
use Rattle.scrib_project.specs.declared.fault.ProjectFault.{ProjectFault}
use Rattle.scrib_project.specs.declared.fault.ProjectFault.TheVariants as fault
use Rattle.scrib_project.specs.Faults.{IsUnmergeable, IsAtSite, IsOfSite, Projects, IsPlaced, IsFaultPlaced}
use Rattle.scrib_project.proofs.FirstDifferences.{located, zipped_at}

placed : (profile : Profile) (modules : List ModuleTree) (home : List (List ℕ)) (name : List ℕ) (e : Elaborated) (r : List ℕ) (u : Unmergeable) → AreSites modules home name e → IsUnmergeable profile (elaborated_meaning e).global r u → IsAtSite profile (sites_of e) (elaborated_meaning e).global u → IsPlaced profile modules home name (elaborated_meaning e).global u
placed profile modules home name e r u sites told at =
    let g = (elaborated_meaning e).global in
    let number = ap (λ x. first_difference profile x g) told.role ∙ told.differs in
    let there = located profile u.role 0 g told.first number in
    let c = there.0 in
    let d = there.2 in
    let found = zipped_at (IsSiteOf modules sites.root) (several g) (sites_of e) told.first c sites.each there.1 in
    let place = at told.first found.0 number found.1 in
    let site = subst (λ x. IsSite modules 0 (start_of sites.root) found.0.module found.0.spot c.0 x) d.is found.2 in
    record {
      root = sites.root;
      there = sites.there;
      first = told.first;
      differs = number;
      depth = c.0;
      sender = d.sender;
      receiver = d.receiver;
      branches = d.branches;
      is = there.1 ∙ ap (λ x. Some (c.0, x)) d.is;
      site =
          subst (λ m. IsSite modules 0 (start_of sites.root) m u.spot c.0 (Comm d.sender d.receiver d.branches)) (sym place.0) (subst (λ s. IsSite modules 0 (start_of sites.root) found.0.module s c.0 (Comm d.sender d.receiver d.branches)) (sym place.1) site);
      not_sender = d.not_sender;
      not_receiver = d.not_receiver;
      apart = d.differs;
    }

pub fault_placed : (profile : Profile) (modules : List ModuleTree) (home : List (List ℕ)) (name : List ℕ) (e : Elaborated) (r : List ℕ) (x : Result Local ProjectFault) → AreSites modules home name e → Projects profile (elaborated_meaning e).global r x → IfErr x (IsOfSite profile (sites_of e) (elaborated_meaning e).global) → IfErr x (IsFaultPlaced profile modules home name (elaborated_meaning e).global)
fault_placed profile modules home name e r (Ok l) sites value at = tt
fault_placed profile modules home name e r (Err (fault.Unmergeable u)) sites value at = placed profile modules home name e r u sites value at
fault_placed profile modules home name e r (Err fault.OutOfMemory) sites value at = tt
