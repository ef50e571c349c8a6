-- Lists of branches.
use Rattle.std.proofs.Common.{◌≡◌, ℕ, ◌+◌, ◌<◌, List, [], ◌∷◌, ◌++◌, length, get_or, take, refl, sym, ap, ◌∙◌}
use Rattle.std.proofs.lemmas.List.{take_more}
use Rattle.scrib_types.specs.declared.message.Message.{Message}
use Rattle.scrib_types.specs.declared.global.GlobalType as global
use Rattle.scrib_types.specs.declared.global.GlobalType.{GlobalType}
use Rattle.scrib_types.specs.GlobalView.{global_of, global_branches, global_comm}
use Rattle.scrib_types.specs.Trees.{GlobalTree, Comm, GlobalBranches, NoBranch, Branch}
use Rattle.scrib_static_checks.specs.Elaboration.{and_branches}
use Rattle.scrib_type_builder.specs.Shifting.{shifted, branches_shifted}
use Rattle.scrib_type_builder.specs.Renaming.{renamed, branches_renamed}

pub branches_append : (bs cs : List (Message × GlobalType)) → global_branches (bs ++ cs) ≡ and_branches (global_branches bs) (global_branches cs)
branches_append [] cs = refl
branches_append (b ∷ bs) cs = ap (Branch b.0 (global_of b.1)) (branches_append bs cs)

shifted_and : (under : ℕ) (bs cs : GlobalBranches) → branches_shifted under (and_branches bs cs) ≡ and_branches (branches_shifted under bs) (branches_shifted under cs)
shifted_and under NoBranch cs = refl
shifted_and under (Branch m g bs) cs = ap (Branch m (shifted under g)) (shifted_and under bs cs)

renamed_and : (f : List ℕ → List ℕ) (bs cs : GlobalBranches) → branches_renamed f (and_branches bs cs) ≡ and_branches (branches_renamed f bs) (branches_renamed f cs)
renamed_and f NoBranch cs = refl
renamed_and f (Branch m g bs) cs = ap (Branch m (renamed f g)) (renamed_and f bs cs)

-- one more branch, where each type is changed
changed_more : (change : GlobalTree → GlobalTree) (changes : GlobalBranches → GlobalBranches) → ((bs : GlobalBranches) (m : Message) (g : GlobalTree) → changes (and_branches bs (Branch m g NoBranch)) ≡ and_branches (changes bs) (Branch m (change g) NoBranch))
    → (old new all : List (Message × GlobalType)) (i : ℕ) (b : Message × GlobalType) (m : Message) (g : GlobalType) → i < length all → b ≡ get_or all i b → m ≡ b.0 → global_of g ≡ change (global_of b.1)
    → new ≡ old ++ (m, g) ∷ [] → global_branches old ≡ changes (global_branches (take i all)) → global_branches new ≡ changes (global_branches (take (i + 1) all))
changed_more change changes last old new all i b m g h is same to push so_far =
    let more : take (i + 1) all ≡ take i all ++ b ∷ [] = take_more all i b h ∙ ap (λ x. take i all ++ x ∷ []) (sym is) in
    let left : global_branches new ≡ and_branches (changes (global_branches (take i all))) (Branch b.0 (change (global_of b.1)) NoBranch) =
    ap global_branches push ∙ branches_append old ((m, g) ∷ []) ∙ (λ j. and_branches (so_far j) (Branch (same j) (to j) NoBranch)) in
    left ∙ sym (ap (λ x. changes (global_branches x)) more ∙ ap changes (branches_append (take i all) (b ∷ [])) ∙ last (global_branches (take i all)) b.0 (global_of b.1))

pub shifted_more : (under : ℕ) (old new all : List (Message × GlobalType)) (i : ℕ) (b : Message × GlobalType) (m : Message) (g : GlobalType) → i < length all → b ≡ get_or all i b → m ≡ b.0 → global_of g ≡ shifted under (global_of b.1)
    → new ≡ old ++ (m, g) ∷ [] → global_branches old ≡ branches_shifted under (global_branches (take i all)) → global_branches new ≡ branches_shifted under (global_branches (take (i + 1) all))
shifted_more under = changed_more (shifted under) (branches_shifted under) (λ bs m g. shifted_and under bs (Branch m g NoBranch))

pub renamed_more : (f : List ℕ → List ℕ) (old new all : List (Message × GlobalType)) (i : ℕ) (b : Message × GlobalType) (m : Message) (g : GlobalType) → i < length all → b ≡ get_or all i b → m ≡ b.0 → global_of g ≡ renamed f (global_of b.1)
    → new ≡ old ++ (m, g) ∷ [] → global_branches old ≡ branches_renamed f (global_branches (take i all)) → global_branches new ≡ branches_renamed f (global_branches (take (i + 1) all))
renamed_more f = changed_more (renamed f) (branches_renamed f) (λ bs m g. renamed_and f bs (Branch m g NoBranch))

-- a communication with one branch
pub global_of-one_branch : (p q r s : List ℕ) (m n : Message) (g : GlobalType) (bs : List (Message × GlobalType)) → r ≡ p → s ≡ q → n ≡ m → bs ≡ (n, g) ∷ [] → global_of (global.Comm r s bs) ≡ Comm p q (Branch m (global_of g) NoBranch)
global_of-one_branch p q r s m n g bs e f k h =
    ap (λ cs. global_of (global.Comm r s cs)) h ∙ global_comm r s ((n, g) ∷ []) ∙ (λ i. Comm (e i) (f i) (Branch (k i) (global_of g) NoBranch))
