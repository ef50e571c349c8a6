use Rattle.std.proofs.Common.{◌≡◌, ◌∙◌, ℕ, List, ◌++◌, false, true, drop, length, ap}
use Rattle.std.specs.Prelude.{codes}
use Rattle.std.proofs.lemmas.Result.{on_ok_weaker}
use Rattle.scrib_show.specs.ChartLines.{participants, left_out_note, left_out, left_in_flight, received, arrow_lines}
use Rattle.scrib_show.proofs.Appended.{behind}
use Rattle.scrib_show.proofs.chart.push_chart.Goals as goal

pub returns : goal.returns
returns c =
    let roles = c.args.roles.now in
    let log = c.args.log.now in
    let flights = c.args.flights.now in
    let note = left_out_note (length c.args.roles.now) (left_out c.args.log.now c.args.flights.now) in
    let closed = arrow_lines c.args.roles.now false (drop (left_out c.args.log.now c.args.flights.now) (received c.args.log.now)) in
    let open_ones = arrow_lines c.args.roles.now true (drop (left_in_flight c.args.log.now c.args.flights.now) c.args.flights.now) in
    let before = c.push_participants.new.out.items in
    let noted : c.push_left_out.new.out.items ≡ c.push_participants.new.out.items ++ left_out_note (length c.args.roles.now) (left_out c.args.log.now c.args.flights.now) =
    c.in_ok-push_left_out.ensures ∙ ap (λ (n : ℕ). c.push_participants.new.out.items ++ left_out_note (length c.args.roles.now) n) c.left_out-left_out.ensures in
    let arrows : c.push_received.new.out.items ≡ c.push_left_out.new.out.items ++ arrow_lines c.args.roles.now false (drop (left_out c.args.log.now c.args.flights.now) (received c.args.log.now)) =
    c.in_ok-push_received.ensures ∙ ap (λ (n : ℕ). c.push_left_out.new.out.items ++ arrow_lines c.args.roles.now false (drop n (received c.args.log.now))) c.left_out-left_out.ensures in
    let old = c.args.out.now.items in
    let seq = codes "sequenceDiagram\n" in
    let with_roles = behind old c.push_bytes.new.out.items before seq (participants 1 roles) c.in_ok-push_bytes.ensures c.in_ok-push_participants.ensures in
    let with_note = behind old before c.push_left_out.new.out.items (seq ++ participants 1 roles) note with_roles noted in
    let with_arrows = behind old c.push_left_out.new.out.items c.push_received.new.out.items (seq ++ participants 1 roles ++ note) closed with_note arrows in
    on_ok_weaker c.push_open.result
    (λ end. behind old c.push_received.new.out.items c.push_open.new.out.items (seq ++ participants 1 roles ++ note ++ closed) open_ones with_arrows
    (end ∙ ap (λ (n : ℕ). c.push_received.new.out.items ++ arrow_lines c.args.roles.now true (drop n c.args.flights.now)) c.left_in_flight.ensures.is))
    c.push_open.ensures
