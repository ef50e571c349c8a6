use Rattle.std.proofs.Common.{rules}
use Rattle.scrib_types.proofs.local.+equal.Goals as goal

pub Local::equal-returns-in-End-End : goal.Local::equal-returns-in-End-End
Local::equal-returns-in-End-End t c = search rules

pub Local::equal-returns-in-Var-Var : goal.Local::equal-returns-in-Var-Var
Local::equal-returns-in-Var-Var t c = search rules

pub Local::equal-returns-else-equal : goal.Local::equal-returns-else-equal
Local::equal-returns-else-equal t c = search rules

pub Local::equal-returns-else-equal-2 : goal.Local::equal-returns-else-equal-2
Local::equal-returns-else-equal-2 t c = search rules

pub Local::equal-returns-in_default : goal.Local::equal-returns-in_default
Local::equal-returns-in_default t c = search rules

pub Local::equal-returns-in_default-2 : goal.Local::equal-returns-in_default-2
Local::equal-returns-in_default-2 t c = search rules

pub Local::equal-returns-in_default-3 : goal.Local::equal-returns-in_default-3
Local::equal-returns-in_default-3 t c = search rules

pub Local::equal-returns-in_default-4 : goal.Local::equal-returns-in_default-4
Local::equal-returns-in_default-4 t c = search rules

pub Local::equal-returns-in_default-5 : goal.Local::equal-returns-in_default-5
Local::equal-returns-in_default-5 t c = search rules
