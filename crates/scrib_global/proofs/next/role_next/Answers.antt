use Rattle.std.proofs.Common.{Bool, Some, None, sym, ap, subst}
use Rattle.scrib_types.specs.GlobalView.{global_of}
use Rattle.scrib_types.specs.LocalView.{local_of}
use Rattle.scrib_global.specs.declared.next.RoleNext.TheVariants.{MayJoin, Done}
use Rattle.scrib_global.specs.Next.{IsTypeLeft}
use Rattle.scrib_global.proofs.NextLists.{by_joined_ok, by_absent, by_nothing}
use Rattle.scrib_global.proofs.next.role_next.Goals as goal

pub returns-in-Some : goal.returns-in-Some
returns-in-Some c =
    let g = global_of c.args.global.now in
    let typed : IsTypeLeft g c.args.log.now c.args.role.now (Some c.in-Some.left) = subst (IsTypeLeft g c.args.log.now c.args.role.now) c.in-Some.is c.in_ok-left.ensures in
    by_joined_ok g c.args.log.now c.args.role.now (local_of c.in-Some.left) c.next_by_type.result typed (sym c.if-has_joined.ensures) c.next_by_type.ensures

pub returns-in-Some-2 : goal.returns-in-Some-2
returns-in-Some-2 c =
    let g = global_of c.args.global.now in
    let typed : IsTypeLeft g c.args.log.now c.args.role.now (Some c.in-Some.left) = subst (IsTypeLeft g c.args.log.now c.args.role.now) c.in-Some.is c.in_ok-left.ensures in
    by_absent g c.args.log.now c.args.role.now (local_of c.in-Some.left) (MayJoin c.acts_first.result) typed (sym c.if-has_joined.ensures) (ap (λ (b : Bool). MayJoin b) c.acts_first.ensures)

pub returns-in-None : goal.returns-in-None
returns-in-None c =
    let g = global_of c.args.global.now in
    let none : IsTypeLeft g c.args.log.now c.args.role.now None = subst (IsTypeLeft g c.args.log.now c.args.role.now) c.in-None.is c.in_ok-left.ensures in
    by_nothing g c.args.log.now c.args.role.now Done none
