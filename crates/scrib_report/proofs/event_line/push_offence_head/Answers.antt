use Rattle.std.proofs.Common.{◌≡◌, ◌≤◌, ◌-◌, ◌++◌, ◌∙◌, List, ℕ, ap, codes, drop, take, length, arith}
use Rattle.std.proofs.lemmas.List.{length-drop, length-take-le, take_all}
use Rattle.std.specs.Fmt.{decimal}
use Rattle.scrib_report.proofs.EventLine.{end_added, long_digits, part_written, six_pieces}
use Rattle.scrib_report.proofs.event_line.push_offence_head.Goals as goal

pub write_digits-offence_at-requires : goal.write_digits-offence_at-requires
write_digits-offence_at-requires c =
    let few = long_digits c.args.offence_place c.ranges.offence_place.fits in
    (omega (arith, few), omega arith)

pub overflow_sub-words_at : goal.overflow_sub-words_at
overflow_sub-words_at c = omega (arith, long_digits c.args.offence_place c.ranges.offence_place.fits, c.write_digits-offence_at.ensures.start)

pub write_event-id_at-requires-clause-room : goal.write_event-id_at-requires-clause-room
write_event-id_at-requires-clause-room c = omega (arith, long_digits c.args.offence_place c.ranges.offence_place.fits, c.write_digits-offence_at.ensures.start)

pub copy_from_slice-requires : goal.copy_from_slice-requires
copy_from_slice-requires c =
    let at = c.write_digits-offence_at in
    let room = long_digits c.args.offence_place c.ranges.offence_place.fits in
    length-take-le _ _ (omega (arith, length-drop (at.result - 12) at.new.buf, at.auto.buf, at.ensures.start, room)) ∙ omega (arith, at.ensures.start, room)

pub returns-clause-ok : goal.returns-clause-ok
returns-clause-ok c =
    let at = c.write_digits-offence_at in
    let line = c.write_event-id_at in
    let room = long_digits c.args.offence_place c.ranges.offence_place.fits in
    let before : at.result - 12 ≤ at.result = omega arith in
    let within : at.result ≤ length at.new.buf = omega (arith, at.ensures.start, at.auto.buf) in
    let words : drop (at.result - 12) (take (at.result - 12) at.new.buf ++ (c.copy_from_slice.new.self ++ drop (at.result - (at.result - 12)) (drop (at.result - 12) at.new.buf))) ≡ codes " offence at " ++ (decimal c.args.offence_place ++ codes " by ") =
    part_written (at.result - 12) at.result at.new.buf c.copy_from_slice.new.self (decimal c.args.offence_place ++ codes " by ") before within at.ensures.written
    ∙ ap (λ (w : List ℕ). w ++ (decimal c.args.offence_place ++ codes " by ")) c.copy_from_slice.ensures.after in
    let front = decimal c.args.id ++ codes "." ++ decimal c.args.place in
    let text = line.ensures.written ∙ ap (λ (r : List ℕ). front ++ r) words ∙ six_pieces (decimal c.args.id) (codes ".") (decimal c.args.place) (codes " offence at ") (decimal c.args.offence_place) (codes " by ") in
    let behind : length (drop line.result line.new.line) ≤ 67 - line.result = omega (arith, length-drop line.result line.new.line, line.auto.line) in
    end_added c.extend_from_slice.result _ _ _ (decimal c.args.id ++ codes "." ++ decimal c.args.place ++ codes " offence at " ++ decimal c.args.offence_place ++ codes " by ") (take_all (67 - line.result) (drop line.result line.new.line) behind ∙ text) c.extend_from_slice.ensures.items
