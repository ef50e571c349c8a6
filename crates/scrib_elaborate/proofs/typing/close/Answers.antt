use Rattle.std.proofs.lemmas.Result.{MatchResult-weaker}
use Rattle.scrib_elaborate.specs.Typing.{made_of}
use Rattle.scrib_elaborate.proofs.Steps.{close_put, close_fails}
use Rattle.scrib_elaborate.proofs.typing.close.Goals as goal

pub returns : goal.returns
returns c = λ modules target tasks s.
    MatchResult-weaker c.close_recursion.result c.close_recursion.ensures
    (λ t closed. close_put modules target tasks c.args.home c.args.spot (made_of c.args.typed) (made_of t) closed.guarded closed.global closed.origins s)
    (λ e fault. close_fails modules target tasks c.args.home c.args.spot (made_of c.args.typed) e fault s)
