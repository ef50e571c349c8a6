use Rattle.std.proofs.Common.{refl}
use Rattle.scrib_elaborate.specs.declared.tasks.Task.TheVariants.{Front, Join}
use Rattle.scrib_elaborate.proofs.Steps.{pushed_twice}
use Rattle.scrib_elaborate.proofs.choices.enter.Goals as goal

pub returns : goal.returns
returns c = λ modules target g entered.
    pushed_twice modules target c.args.tasks.now.items c.push.new.self.items c.push-2.new.self.items (Join c.args.choosing) (Front c.in_ok-inner.inner c.args.body) g g c.in_ok-push.ensures.items c.in_ok-push-2.ensures.items refl (entered c.in_ok-inner.inner c.in_ok-inner.ensures)
