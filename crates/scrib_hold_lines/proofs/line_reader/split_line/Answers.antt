use Rattle.std.proofs.Common.{ℕ, Option, Some, refl, subst}
use Rattle.memchr.specs.Find.{IsFirstByte, is_byte}
use Rattle.scrib_script_reader.proofs.FirstLineFeed.{feed-within, feed-lf, feed-before}
use Rattle.scrib_hold_lines.proofs.Placements.{line_ended}
use Rattle.scrib_hold_lines.proofs.line_reader.split_line.Goals as goal

pub returns-clause-ended : goal.returns-clause-ended
returns-clause-ended c =
    let first = subst (λ (r : Option ℕ). IsFirstByte (is_byte 10) c.args.piece.now r) c.in_ok-at.was c.memchr.ensures in
    line_ended c.args.piece.now c.split_at.result.0.now c.in_ok-at.at _ (feed-within c.args.piece.now (Some c.in_ok-at.at) first) (feed-lf c.args.piece.now (Some c.in_ok-at.at) first) (feed-before c.args.piece.now (Some c.in_ok-at.at) first)
    c.split_at.ensures.front refl
