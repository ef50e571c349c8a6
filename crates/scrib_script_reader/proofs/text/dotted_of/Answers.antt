use Rattle.std.proofs.Common.{◌==◌, length, sym, ◌∙◌, rules, tests}
use Rattle.std.proofs.lemmas.Iterator.Consumers.{YieldsList-at, YieldsList-turn, YieldsList-end}
use Rattle.std.proofs.lemmas.Iterator.Splits.{YieldsList-from_slice_split}
use Rattle.scrib_script_reader.proofs.Pieces.{no-dotted, dotted-read, none-named}
use Rattle.scrib_script_reader.proofs.text.dotted_of.Goals as goal

pub returns-in_default : goal.returns-in_default
returns-in_default c =
    let turn = YieldsList-turn
    (YieldsList-at c.into_iter-piece-iterator.ensures.into_iter_gives
    (YieldsList-from_slice_split _ (λ b. b == 46) c.args.bytes.now c.split-piece-items.ensures.rest c.split-piece-items.ensures.done c.split-piece-items.ensures.closure (λ x r q k. search (rules, tests))))
    c.loop-piece.yielded _ c.loop-piece.yielded_by _ _ c.in-Some.piece c.in-Some.is c.next.ensures.steps in
    no-dotted c.args.bytes.now c.in-Some.piece.now (length c.loop-piece.yielded) turn.0 turn.1 (none-named c.in-Some.piece.now (sym c.in_default.is ∙ c.in_ok-name.ensures))

pub returns : goal.returns
returns c =
    let seen = YieldsList-end
    (YieldsList-at c.into_iter-piece-iterator.ensures.into_iter_gives
    (YieldsList-from_slice_split _ (λ b. b == 46) c.args.bytes.now c.split-piece-items.ensures.rest c.split-piece-items.ensures.done c.split-piece-items.ensures.closure (λ x r q k. search (rules, tests))))
    c.loop-piece.yielded _ c.loop-piece.yielded_by _ _ c.in-None.is c.next.ensures.steps in
    rw c.in_ok-from_vec.ensures (dotted-read c.args.bytes.now c.loop-piece.names.items (c.loop-piece.invariant.read ∙ seen.0) c.loop-piece.invariant.names)
