use Rattle.std.proofs.Common.{◌==◌, ◌<◌, ℕ, List, map, length, sym, ◌∙◌, arith, rules, tests}
use Rattle.std.proofs.lemmas.Bool.Decides.{nat_tests}
use Rattle.std.proofs.lemmas.List.{map_push}
use Rattle.std.proofs.lemmas.Iterator.Consumers.{YieldsList-at, YieldsList-turn, YieldsList-end}
use Rattle.std.proofs.lemmas.Iterator.Splits.{YieldsList-from_slice_split}
use Rattle.scrib_script_reader.specs.Fields.{IsDottedText}
use Rattle.scrib_script_reader.proofs.Pieces.{no-payload, payload-read, payload-more}
use Rattle.scrib_script_reader.proofs.text.payload_of.Goals as goal

pub returns-in_default : goal.returns-in_default
returns-in_default c =
    let turn = YieldsList-turn
    (YieldsList-at c.into_iter-piece-iterator.ensures.into_iter_gives
    (YieldsList-from_slice_split _ (λ b. b == 44) c.args.bytes.now c.split-piece-items.ensures.rest c.split-piece-items.ensures.done c.split-piece-items.ensures.closure (λ x r q k. search (rules, tests))))
    c.loop-piece.yielded _ c.loop-piece.yielded_by _ _ c.in-Some.piece c.in-Some.is c.next.ensures.steps in
    let some : 0 < length c.args.bytes.now = grind (arith, nat_tests, c.is_empty.ensures, c.if-is_empty.false) in
    let none : (names : List (List ℕ)) → IsDottedText c.in-Some.piece.now names → ⊥ = rw c.in_default.is at c.in_ok-sort.ensures in
    no-payload c.args.bytes.now c.in-Some.piece.now (length c.loop-piece.yielded) some turn.0 turn.1 none

pub loop-piece-preserved : goal.loop-piece-preserved
loop-piece-preserved c =
    let found : IsDottedText c.in-Some.piece.now c.in-Some-2.sort = rw c.in-Some-2.is at c.in_ok-sort.ensures in
    let p = payload-more c.loop-piece.sorts.items c.in-Some-2.sort c.in-Some.piece.now (map (λ piece. piece.now) c.loop-piece.yielded) c.loop-piece.invariant.read c.loop-piece.invariant.dotted found in
    rw c.in_ok-push.ensures.items
    record {
      read = p.0 ∙ sym (map_push (λ piece. piece.now) c.loop-piece.yielded c.in-Some.piece);
      dotted = p.1;
    }

pub returns : goal.returns
returns c =
    let seen = YieldsList-end
    (YieldsList-at c.into_iter-piece-iterator.ensures.into_iter_gives
    (YieldsList-from_slice_split _ (λ b. b == 44) c.args.bytes.now c.split-piece-items.ensures.rest c.split-piece-items.ensures.done c.split-piece-items.ensures.closure (λ x r q k. search (rules, tests))))
    c.loop-piece.yielded _ c.loop-piece.yielded_by _ _ c.in-None.is c.next.ensures.steps in
    rw c.from_vec-2.ensures (payload-read c.args.bytes.now c.loop-piece.sorts.items (c.loop-piece.invariant.read ∙ seen.0) c.loop-piece.invariant.dotted)
