use Rattle.std.proofs.Common.{◌≡◌, ◌≤◌, ◌<◌, ◌-◌, ◌∷◌, ◌++◌, [], ◌∙◌, ℕ, List, ap, codes, drop, length, set, arith}
use Rattle.std.specs.Fmt.{decimal}
use Rattle.std.proofs.lemmas.List.{length-drop, length-set, take_all}
use Rattle.std.proofs.lemmas.Result.{on_ok_weaker}
use Rattle.scrib_report.proofs.EventLine.{end_added, long_digits}
use Rattle.scrib_report.proofs.HeadedEventLemmas.{dot_before, kept_pieces, place_pieces}
use Rattle.scrib_report.proofs.labelled_event.push_named.Goals as goal

pub write_digits-place_at-requires : goal.write_digits-place_at-requires
write_digits-place_at-requires c = (omega (arith, long_digits c.args.place c.ranges.place.fits), omega arith)

pub overflow_sub-line : goal.overflow_sub-line
overflow_sub-line c = omega (arith, long_digits c.args.place c.ranges.place.fits, c.write_digits-place_at.ensures.start)

pub overflow_sub-place_at : goal.overflow_sub-place_at
overflow_sub-place_at c = omega (arith, long_digits c.args.place c.ranges.place.fits, c.write_digits-place_at.ensures.start)

pub returns-clause-ok : goal.returns-clause-ok
returns-clause-ok c =
    let one = c.write_digits-place_at in
    let some : 1 ≤ one.result = omega (arith, long_digits c.args.place c.ranges.place.fits, one.ensures.start) in
    let within : one.result - 1 < length one.new.buf = omega (arith, some, one.ensures.start, one.auto.buf) in
    let laid = set one.new.buf (one.result - 1) 46 in
    let behind : length (drop (one.result - 1) laid) ≤ 32 - (one.result - 1) = omega (arith, length-drop (one.result - 1) laid, length-set one.new.buf (one.result - 1) 46, one.auto.buf) in
    let old = c.extend_from_slice.new.self.items in
    on_ok_weaker c.extend_from_slice-2.result
    (λ e. e ∙ place_pieces old (46 ∷ []) (decimal c.args.place) (codes " permitted\n") ∙ ap (λ (t : List ℕ). t ++ 46 ∷ [] ++ decimal c.args.place ++ codes " permitted\n") c.in_ok-extend_from_slice.ensures.items)
    (end_added c.extend_from_slice-2.result _ _ _ (46 ∷ (decimal c.args.place ++ codes " permitted\n"))
    (take_all (32 - (one.result - 1)) (drop (one.result - 1) laid) behind ∙ dot_before c.args.place one.result one.new.buf (codes " permitted\n") some within one.ensures.written) c.extend_from_slice-2.ensures.items)

pub returns-clause-kept : goal.returns-clause-kept
returns-clause-kept c = kept_pieces c.extend_from_slice-2.result _ _ _ c.args.name.now _ c.in_ok-extend_from_slice.ensures.items c.extend_from_slice-2.ensures.items
