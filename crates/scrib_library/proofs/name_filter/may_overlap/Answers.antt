use Rattle.std.proofs.Common.{arith}
use Rattle.std.proofs.lemmas.Bool.Decides.{nat_tests}
use Rattle.scrib_library.proofs.NameFilterLemmas.{no_common}
use Rattle.scrib_library.proofs.name_filter.may_overlap.Goals as goal

pub returns : goal.returns
returns c = λ e. no_common c.args.a c.args.b (grind (arith, nat_tests))
