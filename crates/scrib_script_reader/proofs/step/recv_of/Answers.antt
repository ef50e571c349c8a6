use Rattle.scrib_script_reader.proofs.Steps.{no-recv}
use Rattle.scrib_script_reader.proofs.step.recv_of.Goals as goal

pub returns-in_default : goal.returns-in_default
returns-in_default c =
    let none = rw c.in_default.is at c.in_ok-exchange.ensures in
    no-recv c.args.id _ (λ from to m h. none (record { from = from; to = to; message = m }) h)
