use Rattle.std.proofs.Common.{◌∙◌, take, sym, ap, arith}
use Rattle.std.specs.List.{prefix_len}
use Rattle.std.proofs.lemmas.List.{length-take-le, take-take}
use Rattle.std.proofs.lemmas.List.Sums.{prefix_len-le-length}
use Rattle.scrib_labels.specs.Tags.{all_visible, is_visible}
use Rattle.scrib_labels.proofs.VisibleLemmas.{visible_front}
use Rattle.scrib_labels.proofs.tag.visible_len.Goals as goal

pub returns-in-Some-clause-visible : goal.returns-in-Some-clause-visible
returns-in-Some-clause-visible c = ap (λ n. all_visible (take n c.args.bytes.now)) c.in-Some.ensures.run ∙ visible_front c.args.bytes.now

pub returns-in-Some-clause-within : goal.returns-in-Some-clause-within
returns-in-Some-clause-within c = omega (arith, prefix_len-le-length is_visible c.args.bytes.now, c.in-Some.ensures.run)

pub returns-in-None-clause-visible : goal.returns-in-None-clause-visible
returns-in-None-clause-visible c =
    let bytes = c.args.bytes.now in
    let most = c.min.result in
    let bound = prefix_len-le-length is_visible (take most bytes) in
    ap (λ n. all_visible (take n bytes)) c.visible_run.ensures
    ∙ ap all_visible (sym (take-take (prefix_len is_visible (take most bytes)) most bytes (omega (arith, bound, length-take-le most bytes (omega arith)))))
    ∙ visible_front (take most bytes)

pub returns-in-None-clause-within : goal.returns-in-None-clause-within
returns-in-None-clause-within c = omega (arith, prefix_len-le-length is_visible (take c.min.result c.args.bytes.now), length-take-le c.min.result c.args.bytes.now (omega arith))

pub returns-in-None-clause-few : goal.returns-in-None-clause-few
returns-in-None-clause-few c = omega (arith, prefix_len-le-length is_visible (take c.min.result c.args.bytes.now), length-take-le c.min.result c.args.bytes.now (omega arith))
