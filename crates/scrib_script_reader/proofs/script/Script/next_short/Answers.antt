use Rattle.std.proofs.Common.{◌+◌, ◌∷◌, [], take, refl, arith}
use Rattle.std.proofs.lemmas.List.{length-take}
use Rattle.scrib_script_reader.specs.ShortLines.{short_entry}
use Rattle.scrib_script_reader.proofs.LimitLemmas.{counts_line}
use Rattle.scrib_script_reader.proofs.ScriptLemmas.{text_outside, line_is_empty, front_first, front_moved, front_none}
use Rattle.scrib_script_reader.proofs.ShortLineLemmas.{is_none, passed_short, front_short}
use Rattle.scrib_script_reader.proofs.script.Script.next_short.Goals as goal

pub returns-then-is_some-clause-taken : goal.returns-then-is_some-clause-taken
returns-then-is_some-clause-taken c = front_none c.args.self.now c.args.piece.now

pub returns-in_err-at-clause-taken : goal.returns-in_err-at-clause-taken
returns-in_err-at-clause-taken c = rw c.from_residual.ensures (front_none c.args.self.now c.args.piece.now)

pub returns-in_default-clause-taken : goal.returns-in_default-clause-taken
returns-in_default-clause-taken c = front_none c.args.self.now c.args.piece.now

pub returns-in_err-short-clause-taken : goal.returns-in_err-short-clause-taken
returns-in_err-short-clause-taken c = rw c.from_residual-in_err-short.ensures (front_moved c.args.self.now _ c.args.piece.now refl refl refl refl refl)

pub returns-clause-entry : goal.returns-clause-entry
returns-clause-entry c =
    let outside = text_outside c.args.self.now (is_none c.args.self.now.text c.if-is_some.ensures) in
    let empty = line_is_empty c.args.self.now.line c.if-not-is_empty.ensures in
    front_first c.args.self.now _ c.args.piece.now c.in_ok-at.at (short_entry c.in_ok-short.short ∷ []) c.in_ok-at.ensures.within c.in_ok-at.ensures.lf
    (passed_short c.args.self.now _ (take c.in_ok-at.at c.args.piece.now) c.in_ok-short.short c.without_cr-line.result.now
    (counts_line c.args.self.now _ (take c.in_ok-at.at c.args.piece.now) (c.in_ok-at.at + 1) (omega (arith, c.in_ok-at.ensures.within, length-take c.in_ok-at.at c.args.piece.now)) c.in_ok-at.ensures.before refl c.in-Ok.ensures.bytes c.in-Ok.ensures.few_bytes c.in-Ok.ensures.few_lines refl)
    outside empty c.in_ok-at.ensures.before c.without_cr-line.ensures c.in_ok-short.ensures outside empty refl)

pub returns-clause-taken : goal.returns-clause-taken
returns-clause-taken c = front_short c.args.self.now _ c.args.piece.now _ c.in_ok-short.short (returns-clause-entry c)
