-- The parts of a protocol in which sizes are computed.
use Rattle.std.proofs.Common.{◌≡◌, List, ℕ, ◌∷◌, sym, subst}
use Rattle.scrib_types.specs.declared.spot.Spot.{Spot}
use Rattle.scrib_static_checks.specs.Source.{Body, Then, Statement, Chooses, Repeats, Blocks, OrBlock}
use Rattle.scrib_static_checks.specs.Names.{Declaration}
use Rattle.scrib_static_checks.specs.Faults.{later, in_choice, in_rec, in_this, in_other, HasStatement}
use Rattle.scrib_static_checks.specs.Table.{IsPart, AreParts, IsPartSomewhere, IsStatementSomewhere, AreSomewhere}
use Rattle.scrib_static_checks.proofs.Checks.{occurs_as}

pub first_somewhere : (d : Declaration) (b c : Body) (s : Statement) → b ≡ Then s c → IsPartSomewhere d b → IsStatementSomewhere d s
first_somewhere d b c s is p = (p.0, c, subst (λ x. IsPart d p.0 x) is p.1)

pub rest_somewhere : (d : Declaration) (b c : Body) (s : Statement) → b ≡ Then s c → IsPartSomewhere d b → IsPartSomewhere d c
rest_somewhere d b c s is p = let part = subst (λ x. IsPart d p.0 x) is p.1 in (p.0, λ inner r st. part inner r (later st))

pub block_somewhere : (d : Declaration) (bs cs : Blocks) (b : Body) (s : Spot) → bs ≡ OrBlock b s cs → AreSomewhere d bs → IsPartSomewhere d b
block_somewhere d bs cs b s is p = let parts = subst (λ x. AreParts d p.0 x) is p.1 in (p.0, λ inner r st. parts inner r (in_this st))

pub others_somewhere : (d : Declaration) (bs cs : Blocks) (b : Body) (s : Spot) → bs ≡ OrBlock b s cs → AreSomewhere d bs → AreSomewhere d cs
others_somewhere d bs cs b s is p = let parts = subst (λ x. AreParts d p.0 x) is p.1 in (p.0, λ inner r st. parts inner r (in_other st))

pub choice_somewhere : (d : Declaration) (t : Statement) (q : List ℕ) (bs whole : Blocks) (s : Spot) → t ≡ Chooses q bs s → whole ≡ bs → IsStatementSomewhere d t → AreSomewhere d whole
choice_somewhere d t q bs whole s is w p =
    let part = subst (λ x. IsPart d p.0 (Then x p.1)) is p.2 in
    (p.0, subst (λ x. AreParts d p.0 x) (sym w) (λ inner r st. part inner r (in_choice st)))

pub rec_somewhere : (d : Declaration) (t : Statement) (x : List ℕ) (c whole : Body) (s : Spot) → t ≡ Repeats x c s → whole ≡ c → IsStatementSomewhere d t → IsPartSomewhere d whole
rec_somewhere d t x c whole s is w p =
    let part = subst (λ y. IsPart d p.0 (Then y p.1)) is p.2 in
    (x ∷ p.0, subst (λ y. IsPart d (x ∷ p.0) y) (sym w) (λ inner r st. part inner r (in_rec st)))

pub step_occurs : (d : Declaration) (t u : Statement) → t ≡ u → IsStatementSomewhere d t → HasStatement d u
step_occurs d t u is p = occurs_as d p.0 t u p.1 p.2 is
