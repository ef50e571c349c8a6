use Rattle.std.proofs.Common.{◌≡◌, ◌+◌, ◌<◌, ◌++◌, List, length, get_or, refl, ap, sym, ◌∙◌, subst, arith}
use Rattle.scrib_tree.specs.declared.tree.ProtocolDeclaration.{ProtocolDeclaration}
use Rattle.scrib_static_checks.specs.ProtocolIndex.{protocol_slot, IsFilled}
use Rattle.scrib_static_checks.specs.Names.{declared_in}
use Rattle.scrib_static_checks.proofs.Slots.{some_left, next_added, added_count, indexed_before}
use Rattle.scrib_static_checks.proofs.protocol_index.ProtocolIndex.add.Goals as goal

pub loop-i-init : goal.loop-i-init
loop-i-init c =
    let home = c.args.home.now in
    record {
      indexed = refl;
      some = λ l. l;
      slots = λ l ds f n. indexed_before ds (declared_in home home.protocols) (length c.args.self.now.slots.items) c.args.self.now.slots.items f;
    }

pub loop-i-preserved : goal.loop-i-preserved
loop-i-preserved c =
    let home = c.args.home.now in
    let i = c.loop-i.i in
    let p = c.index-protocols-i.result in
    let now = c.loop-i.self.slots.items in
    let new = c.take_slot.new.slots.items in
    let place = c.loop-i.self.indexed + i in
    let same : c.as_slice-protocols.result.now ≡ home.protocols = c.as_slice-protocols.ensures in
    let low = subst (λ (ps : List ProtocolDeclaration). i < length ps) same c.loop-i-test.true in
    let at = c.index-protocols-i.is ∙ ap (λ ps. get_or ps i p) same in
    record {
      indexed = c.loop-i.invariant.indexed;
      some = λ l. c.loop-i.invariant.some (some_left now new place (protocol_slot (length now) home.name p.name) c.take_slot.ensures l);
      slots = λ l ds f n. next_added ds home (length c.args.self.now.slots.items) i place p now new low at (ap (λ z. z + i) (c.loop-i.invariant.indexed ∙ n)) c.take_slot.ensures (λ m. c.loop-i.invariant.slots m ds f n) l;
    }

pub returns : goal.returns
returns c = λ ds h l.
    let home = c.args.home.now in
    let inv = c.loop-i.invariant in
    let now = c.loop-i.self.slots.items in
    let es = declared_in home home.protocols in
    let q = h (inv.some l) in
    let count = added_count ds home in
    let same : length c.as_slice-protocols.result.now ≡ length home.protocols = ap length c.as_slice-protocols.ensures in
    let end : length ds + c.loop-i.i ≡ length (ds ++ es) = omega (arith, c.loop-i-test.false, c.loop-i.auto, same, count) in
    let f = inv.slots l ds q.0 q.1 in
    (subst (λ z. IsFilled (ds ++ es) (length now) z now) end (subst (λ z. IsFilled (ds ++ es) z (length ds + c.loop-i.i) now) (sym f.long) f), omega (arith, inv.indexed, q.1, same, count))
