use Rattle.std.proofs.Common.{◌≡◌, ◌++◌, drop}
use Rattle.scrib_types.specs.Texts.{after_each}
use Rattle.scrib_show.specs.ShownLines.{rows, most_digits}
use Rattle.scrib_show.proofs.events.push_rows.Given as goal

abbrev pub invariant-loop-i : goal.invariant-loop-i
invariant-loop-i l =
    l.out.items ++ after_each 10 (rows l.width (drop l.i l.numbers) (drop l.i l.events))
    ≡ l.fn.out.items ++ after_each 10 (rows l.width l.numbers l.events)
