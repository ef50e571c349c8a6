use Rattle.std.proofs.Common.{◌≡◌, ◌∙◌, ◌∷◌, ◌++◌, [], ℕ, true, not, List, length, take, get_or, ap, sym, subst, arith}
use Rattle.std.proofs.Math.Seq.{take-append_seam, get_or-append_seam}
use Rattle.std.proofs.lemmas.Bool.{and_parts}
use Rattle.std.proofs.lemmas.Grind.{common_steps}
use Rattle.std.specs.Option.{option_copied}
use Rattle.scrib_types.specs.declared.event.Event.{Event}
use Rattle.scrib_types.specs.declared.event.Told.TheVariants.{Stale}
use Rattle.scrib_record.specs.Stale.{Recorded, is_final, is_present}
use Rattle.scrib_record.specs.Told.{IsNoted}
use Rattle.scrib_record.specs.Judgings.{IsJudgedOn}
use Rattle.scrib_record.proofs.ResultLemmas.{is_fresh, fresh_at, now_stale, not_stale, noted_stale, noted_fresh, seen}
use Rattle.scrib_record.proofs.record.Record.note.Goals as goal

-- the log before one more event, and that event
front : (log grown : List Event) (e : Event) (n : ℕ) → grown ≡ log ++ e ∷ [] → n ≡ length log → take n grown ≡ log
front log grown e n same long = rw (same, long) (take-append_seam log (e ∷ []))

back : (log grown : List Event) (e d : Event) (n : ℕ) → grown ≡ log ++ e ∷ [] → n ≡ length log → get_or grown n d ≡ e
back log grown e d n same long = rw (same, long) (get_or-append_seam log e [] d)

pub invariant_of-self : goal.invariant_of-self
invariant_of-self c = grind (arith, common_steps)

pub invariant_of-self-then-is_stale : goal.invariant_of-self-then-is_stale
invariant_of-self-then-is_stale c = grind (arith, common_steps)

pub invariant_of-self-in-Ok : goal.invariant_of-self-in-Ok
invariant_of-self-in-Ok c = grind (arith, common_steps)

pub invariant_of-self-in-Err : goal.invariant_of-self-in-Err
invariant_of-self-in-Err c = grind (arith, common_steps)

pub returns-then-is_stale-clause-ok : goal.returns-then-is_stale-clause-ok
returns-then-is_stale-clause-ok c =
    let present = option_copied c.args.present in
    let r = c.self.inside in
    let items = c.in_ok-reserve.ensures.items in
    let long = c.len-events.ensures ∙ r.log.ok.0 in
    let test = c.is_stale.ensures ∙ ap not (fresh_at present r.log.items r.judging c.len-events.result long) in
    let stale = now_stale (is_fresh present r.log.items r.judging) c.is_stale.result test c.if-is_stale.true in
    let grown = c.push_reserved.ensures.items ∙ ap (λ (x : List Event). x ++ c.args.event ∷ []) items in
    subst (λ (x : Recorded). IsNoted present x c.args.event (seen r.name c.push_reserved.new.self.items r.judging) Stale) c.self.view_is
    (subst (λ (x : List Event). IsNoted present (seen r.name r.log.items r.judging) c.args.event (seen r.name x r.judging) Stale) (sym grown)
    (noted_stale present r.name r.log.items c.args.event r.judging stale))

pub note-requires-clause-whole : goal.note-requires-clause-whole
note-requires-clause-whole c =
    let present = option_copied c.args.present in
    let r = c.self.inside in
    let items = c.in_ok-reserve.ensures.items in
    let long = c.len-events.ensures ∙ r.log.ok.0 in
    let test = c.is_stale.ensures ∙ ap not (fresh_at present r.log.items r.judging c.len-events.result long) in
    let fresh = not_stale (is_fresh present r.log.items r.judging) c.is_stale.result test c.if-is_stale.false in
    let grown = c.push_reserved.ensures.items ∙ ap (λ (x : List Event). x ++ c.args.event ∷ []) items in
    let before = front r.log.items c.deref.result.now c.args.event c.len-events.result (c.deref.ensures.value ∙ grown) long in
    let both = and_parts (is_present present r.judging.held) (is_final r.judging.verdict r.judging.judged (length r.log.items)) fresh in
    subst (λ (x : List Event). is_final r.judging.verdict r.judging.judged (length x) ≡ true) (sym before) both.1

pub returns-in-Ok-clause-ok : goal.returns-in-Ok-clause-ok
returns-in-Ok-clause-ok c =
    let present = option_copied c.args.present in
    let r = c.self.inside in
    let told = c.in-Ok.verdict in
    let items = c.in_ok-reserve.ensures.items in
    let long = c.len-events.ensures ∙ r.log.ok.0 in
    let test = c.is_stale.ensures ∙ ap not (fresh_at present r.log.items r.judging c.len-events.result long) in
    let fresh = not_stale (is_fresh present r.log.items r.judging) c.is_stale.result test c.if-is_stale.false in
    let grown = c.push_reserved.ensures.items ∙ ap (λ (x : List Event). x ++ c.args.event ∷ []) items in
    let before = front r.log.items c.deref.result.now c.args.event c.len-events.result (c.deref.ensures.value ∙ grown) long in
    let last = c.index.ensures ∙ back r.log.items c.push_reserved.new.self.items c.args.event c.index.result.now c.len-events.result grown long in
    let there = subst (λ (x : List Event). IsJudgedOn x c.index.result.now r.judging c.note.new.self told) before c.in-Ok.ensures.ok in
    let judged = subst (λ (x : Event). IsJudgedOn r.log.items x r.judging c.note.new.self told) last there in
    subst (λ (x : Recorded). IsNoted present x c.args.event (seen r.name c.push_reserved.new.self.items c.note.new.self) told) c.self.view_is
    (subst (λ (x : List Event). IsNoted present (seen r.name r.log.items r.judging) c.args.event (seen r.name x c.note.new.self) told) (sym grown)
    (noted_fresh present r.name r.log.items c.args.event r.judging c.note.new.self told fresh judged))
