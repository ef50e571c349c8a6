use Rattle.scrib_record.proofs.WholeVerdictLemmas.{whole_kept, complete_with, nothing_held}
use Rattle.scrib_record.proofs.judging.Judging.is_complete.Goals as goal

pub returns-in_default : goal.returns-in_default
returns-in_default c = nothing_held c.args.self.now.held c.args.log.now c.args.self.now.verdict c.args.self.now.judged c.in_default.is

pub is_complete-requires : goal.is_complete-requires
is_complete-requires c =
    let w = whole_kept c.args.log.now c.args.self.now c.in-Some.version c.requires c.in-Some.is c.in-Permitted.is c.if-self-log.false in (c.args.log.now, w.0)

pub returns-in-Permitted : goal.returns-in-Permitted
returns-in-Permitted c =
    let w = whole_kept c.args.log.now c.args.self.now c.in-Some.version c.requires c.in-Some.is c.in-Permitted.is c.if-self-log.false in
    complete_with c.args.self.now.held c.in-Some.version c.args.log.now c.args.self.now.verdict c.args.self.now.judged c.is_complete.result c.in-Some.is c.in-Permitted.is c.if-self-log.false
    (c.is_complete.ensures c.args.log.now w.0 w.1)
