use Rattle.json.specs.Lex.{between, fresh, lex, punctuate}
use Rattle.scrib_objects.proofs.ExchangeMemberLemmas.{all_read, next_read, none_read}
use Rattle.scrib_objects.proofs.exchange_members.read_members.Goals as goal

pub loop-init : goal.loop-init
loop-init c = none_read c.in_ok-rest.rest.now c.no_members-members.result c.no_members-members.ensures

pub returns-then-is_object_end : goal.returns-then-is_object_end
returns-then-is_object_end c =
    all_read c.args.line.now c.after_blanks.result.now c.after_blanks-behind.result.now c.loop.members c.add.new.self c.loop.rest.now c.in_ok-member.member c.in_ok-rest.rest.now
    c.after_blanks.ensures c.in_ok-rest.ensures c.loop.invariant c.in_ok-member.ensures c.in_ok-add.ensures c.after_blanks-behind.ensures (c.is_object_end.ensures c.if-is_object_end.true)

pub loop-preserved : goal.loop-preserved
loop-preserved c =
    next_read (punctuate fresh (lex between c.in_ok-rest.rest.now)) c.loop.members c.add.new.self c.loop.rest.now c.in_ok-member.member c.after_blanks-behind.result.now c.in-Some.next.now
    c.loop.invariant c.in_ok-member.ensures c.in_ok-add.ensures c.after_blanks-behind.ensures c.in-Some.ensures
