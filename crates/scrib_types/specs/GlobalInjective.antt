-- Two global types with the same tree are the same.
use Rattle.std.specs.Prelude.{◌≡◌, List, [], ◌∷◌, map, refl}
use Rattle.std.proofs.Common.{ap, sym, ◌∙◌, subst}
use Rattle.scrib_types.specs.declared.message.Message.{Message}
use Rattle.scrib_types.specs.declared.global.GlobalType as global
use Rattle.scrib_types.specs.declared.global.GlobalType.{GlobalType, roll-GlobalType, ind-GlobalType, map-GlobalType}
use Rattle.scrib_types.specs.declared.global.GlobalType.TheOpen.{GlobalType-F}
use Rattle.scrib_types.specs.declared.global.GlobalType.TheVariants.{rolls-End, rolls-Var, rolls-Rec, rolls-Comm}
use Rattle.scrib_types.specs.Trees.{GlobalTree, GlobalEnd, GlobalVar, GlobalRec, Comm, Flight, GlobalBranches, NoBranch, Branch}
use Rattle.scrib_types.specs.GlobalView.{global_of, global_branches, global_end, global_var, global_rec, global_comm}

-- the global type of a tree that has no flight
mutual
  tree_to_type : GlobalTree → GlobalType
  tree_to_type GlobalEnd = global.End
  tree_to_type (GlobalVar n) = global.Var n
  tree_to_type (GlobalRec g) = global.Rec (tree_to_type g)
  tree_to_type (Comm p q bs) = global.Comm p q (tree_to_branches bs)
  tree_to_type (Flight p q j bs) = global.End

  tree_to_branches : GlobalBranches → List (Message × GlobalType)
  tree_to_branches NoBranch = []
  tree_to_branches (Branch m g bs) = (m, tree_to_type g) ∷ tree_to_branches bs

abbrev RoundTrips : GlobalType → Type 0
RoundTrips g = tree_to_type (global_of g) ≡ g

global_branches_round_trip : (es : List (Message × ((g : GlobalType) × RoundTrips g)))
    → let bs : List (Message × GlobalType) = map (λ e. (e.0, e.1.0)) es in tree_to_branches (global_branches bs) ≡ bs
unfolding tree_to_branches
global_branches_round_trip [] = refl
global_branches_round_trip (e ∷ es) = λ i. (e.0, e.1.1 i) ∷ global_branches_round_trip es i

global_round_trip : (y : GlobalType-F ((g : GlobalType) × RoundTrips g))
    → RoundTrips (roll-GlobalType (map-GlobalType ((g : GlobalType) × RoundTrips g) GlobalType (λ e. e.0) y))
unfolding tree_to_type
global_round_trip GlobalType-F.End = rw (rolls-End, global_end) refl
global_round_trip (GlobalType-F.Var n) = rw (rolls-Var, global_var) refl
global_round_trip (GlobalType-F.Rec e) =
    subst RoundTrips (sym (rolls-Rec e.0)) (ap tree_to_type (global_rec e.0) ∙ ap global.Rec e.1)
global_round_trip (GlobalType-F.Comm p q es) =
    let bs : List (Message × GlobalType) = map (λ e. (e.0, e.1.0)) es in
    subst RoundTrips (sym (rolls-Comm p q bs))
    (ap tree_to_type (global_comm p q bs) ∙ ap (global.Comm p q) (global_branches_round_trip es))

global_round_trips : (g : GlobalType) → RoundTrips g
global_round_trips =
    ind-GlobalType RoundTrips (λ x y is. subst (λ z. RoundTrips (roll-GlobalType z)) is (global_round_trip y))

-- one tree, one global type
pub global_of-injective : (a b : GlobalType) → global_of a ≡ global_of b → a ≡ b
global_of-injective a b e = sym (global_round_trips a) ∙ ap tree_to_type e ∙ global_round_trips b
