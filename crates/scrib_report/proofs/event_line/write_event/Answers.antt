use Rattle.std.proofs.Common.{◌≤◌, ◌-◌, ◌++◌, ◌∙◌, ap, drop, length, set, arith}
use Rattle.std.proofs.lemmas.List.{length-set}
use Rattle.std.specs.Fmt.{decimal}
use Rattle.scrib_report.proofs.EventLine.{two_numbers, long_digits, short_digits}
use Rattle.scrib_report.proofs.event_line.write_event.Goals as goal

pub write_digits-place_at-requires : goal.write_digits-place_at-requires
write_digits-place_at-requires c =
    let few = long_digits c.args.place c.ranges.place.fits in
    (omega (arith, few, c.requires.room), omega (arith, c.requires.within))

pub overflow_sub-line : goal.overflow_sub-line
overflow_sub-line c = omega (arith, long_digits c.args.place c.ranges.place.fits, c.write_digits-place_at.ensures.start, c.requires.room)

pub overflow_sub-place_at : goal.overflow_sub-place_at
overflow_sub-place_at c = omega (arith, long_digits c.args.place c.ranges.place.fits, c.write_digits-place_at.ensures.start, c.requires.room)

pub write_digits-requires : goal.write_digits-requires
write_digits-requires c =
    let few : length (decimal c.from.result) ≤ 10 = rw c.from.ensures (short_digits c.args.id c.ranges.id.fits) in
    let start = c.write_digits-place_at.ensures.start in
    let long = length-set c.write_digits-place_at.new.buf (c.write_digits-place_at.result - 1) 46 in
    let size = c.write_digits-place_at.auto.buf in
    (omega (arith, few, start, long_digits c.args.place c.ranges.place.fits, c.requires.room), omega (arith, start, long, size, c.requires.within))

pub returns-clause-written : goal.returns-clause-written
returns-clause-written c =
    let one = c.write_digits-place_at in
    let two = c.write_digits in
    let at_least : 1 ≤ one.result = omega (arith, long_digits c.args.place c.ranges.place.fits, one.ensures.start, c.requires.room) in
    let text = two_numbers c.args.id c.args.place one.result two.result 46 one.new.buf two.new.buf (drop c.args.end c.args.line.now) at_least (omega (arith, at_least, one.ensures.start, one.auto.buf, c.requires.within)) one.ensures.written (two.ensures.written ∙ ap (λ i. decimal i ++ drop (one.result - 1) (set one.new.buf (one.result - 1) 46)) c.from.ensures) in
    text
