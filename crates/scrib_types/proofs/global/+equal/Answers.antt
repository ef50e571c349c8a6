use Rattle.std.proofs.Common.{rules}
use Rattle.scrib_types.proofs.global.+equal.Goals as goal

pub GlobalType::equal-returns-in-End-End : goal.GlobalType::equal-returns-in-End-End
GlobalType::equal-returns-in-End-End t c = search rules

pub GlobalType::equal-returns-in-Var-Var : goal.GlobalType::equal-returns-in-Var-Var
GlobalType::equal-returns-in-Var-Var t c = search rules

pub GlobalType::equal-returns-else-equal-2 : goal.GlobalType::equal-returns-else-equal-2
GlobalType::equal-returns-else-equal-2 t c = search rules

pub GlobalType::equal-returns-in_default : goal.GlobalType::equal-returns-in_default
GlobalType::equal-returns-in_default t c = search rules

pub GlobalType::equal-returns-in_default-2 : goal.GlobalType::equal-returns-in_default-2
GlobalType::equal-returns-in_default-2 t c = search rules

pub GlobalType::equal-returns-in_default-3 : goal.GlobalType::equal-returns-in_default-3
GlobalType::equal-returns-in_default-3 t c = search rules

pub GlobalType::equal-returns-in_default-4 : goal.GlobalType::equal-returns-in_default-4
GlobalType::equal-returns-in_default-4 t c = search rules
