use Rattle.std.proofs.Common.{◌∷◌, reverse, subst}
use Rattle.std.proofs.lemmas.Result.{MatchResult-weaker}
use Rattle.scrib_elaborate.specs.Typing.{made_of, IsState}
use Rattle.scrib_elaborate.proofs.FaultPrefixes.{closing_ahead, stops_ahead}
use Rattle.scrib_elaborate.proofs.typing.step.Goals as goal

pub returns-in-Close : goal.returns-in-Close
returns-in-Close c = λ target e kept s.
    let ms = c.args.context.now.modules.now in
    let old = c.args.tasks.now.items in
    let m = c.in-Close in
    let at = subst (λ t. IsState ms target (t ∷ reverse old) (made_of c.args.typed)) m.is s in
    let ahead = closing_ahead ms target old m.home m.spot (made_of c.args.typed) at in
    MatchResult-weaker c.close.result (c.close.ensures ms target (reverse old) at) (λ t v. v) (λ e f. stops_ahead ms target.root old e f ahead)
