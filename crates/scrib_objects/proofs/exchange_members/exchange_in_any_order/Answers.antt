use Rattle.scrib_objects.proofs.ExchangeMemberLemmas.{object_line}
use Rattle.scrib_objects.proofs.exchange_members.exchange_in_any_order.Goals as goal

pub returns : goal.returns
returns c = object_line c.args.options c.args.line.now c.in_ok-members.members c.in_ok-object.object c.in-Ok.ensures.1 c.in_ok-members.ensures c.in_ok-object.ensures
