use Rattle.std.proofs.Common.{◌≡◌, ◌≤◌, ◌-◌, ◌++◌, ◌∙◌, List, ℕ, ap, sym, append_assoc, drop, take, length, arith}
use Rattle.std.proofs.lemmas.List.{length-drop, length-take-le, take_all}
use Rattle.std.specs.Fmt.{decimal}
use Rattle.scrib_report.proofs.EventLine.{end_added, part_length, part_written, long_digits}
use Rattle.scrib_report.proofs.numbered.push_word_and_number.Goals as goal

pub write_digits-number_at-requires : goal.write_digits-number_at-requires
write_digits-number_at-requires c =
    let few : length (decimal c.args.number) ≤ 20 = long_digits c.args.number c.ranges.number.fits in
    (omega (arith, few, c.requires.room), omega (arith, c.requires.within))

pub overflow_sub-word_at : goal.overflow_sub-word_at
overflow_sub-word_at c =
    let few : length (decimal c.args.number) ≤ 20 = long_digits c.args.number c.ranges.number.fits in
    omega (arith, few, c.write_digits-number_at.ensures.start, c.requires.room)

pub copy_from_slice-requires : goal.copy_from_slice-requires
copy_from_slice-requires c =
    let at = c.write_digits-number_at in
    let few : length (decimal c.args.number) ≤ 20 = long_digits c.args.number c.ranges.number.fits in
    length-take-le _ _ (omega (arith, length-drop (at.result - length c.args.word.now) at.new.buf, at.auto.buf, at.ensures.start, few, c.requires.room, c.requires.within)) ∙ omega (arith, at.ensures.start, few, c.requires.room)

pub returns-clause-ok : goal.returns-clause-ok
returns-clause-ok c =
    let at = c.write_digits-number_at in
    let from = at.result - length c.args.word.now in
    let few : length (decimal c.args.number) ≤ 20 = long_digits c.args.number c.ranges.number.fits in
    let before : from ≤ at.result = omega arith in
    let within : at.result ≤ length at.new.buf = omega (arith, at.ensures.start, at.auto.buf, c.requires.within) in
    let end = drop c.args.digits_end c.args.template in
    let whole = take from at.new.buf ++ (c.copy_from_slice.new.self ++ drop (at.result - from) (drop from at.new.buf)) in
    let text : drop from whole ≡ c.args.word.now ++ decimal c.args.number ++ end =
    part_written from at.result at.new.buf c.copy_from_slice.new.self (decimal c.args.number ++ end) before within at.ensures.written
    ∙ ap (λ (w : List ℕ). w ++ (decimal c.args.number ++ end)) c.copy_from_slice.ensures.after
    ∙ sym (append_assoc c.args.word.now (decimal c.args.number) end) in
    let part : length c.copy_from_slice.new.self ≡ at.result - from = ap length c.copy_from_slice.ensures.after ∙ omega (arith, at.ensures.start, few, c.requires.room) in
    let long = part_length from at.result at.new.buf c.copy_from_slice.new.self before within part in
    let behind : length (drop from whole) ≤ 40 - from = omega (arith, length-drop from whole, at.auto.buf, long) in
    end_added c.extend_from_slice.result _ _ _ (c.args.word.now ++ decimal c.args.number ++ end) (take_all (40 - from) (drop from whole) behind ∙ text) c.extend_from_slice.ensures.items
