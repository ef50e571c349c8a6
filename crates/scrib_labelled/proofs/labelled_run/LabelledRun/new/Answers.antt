use Rattle.std.proofs.Common.{refl}
use Rattle.scrib_labelled.proofs.PieceLemmas.{is_new}
use Rattle.scrib_labelled.proofs.labelled_run.LabelledRun.new.Goals as goal

pub returns-clause-start : goal.returns-clause-start
returns-clause-start g c = is_new g.S.EntryStage.Took _ c.new-7.ensures.lines c.new-7.ensures.bytes c.new-5.ensures.items refl c.requires.new
