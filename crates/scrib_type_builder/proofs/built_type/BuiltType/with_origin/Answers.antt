use Rattle.std.proofs.Common.{sym, ◌∙◌, ◌-◌, arith}
use Rattle.std.proofs.lemmas.Bool.Decides.{nat_tests}
use Rattle.scrib_type_builder.proofs.OriginLemmas.{with_origin_some, with_origin_none, with_origin_empty}
use Rattle.scrib_type_builder.proofs.built_type.BuiltType.with_origin.Goals.{then-not-is_empty+then-is_some, then-not-is_empty+else-is_some, else-not-is_empty}
use Rattle.scrib_type_builder.proofs.built_type.BuiltType.with_origin.Goals as goal

pub returns-clause-origins : goal.returns-clause-origins
returns-clause-origins c =
    let origins = c.args.self.origins in
    elim c.if-not-is_empty.branch [
      | then-not-is_empty+then-is_some w ↦ rw w.origins-is (with_origin_some c.args.origin origins.items (w.len-front.result - 1) w.index.result.now (grind (arith, nat_tests, origins.ok.0, w.len-front.ensures, c.is_empty.ensures, w.if-not-is_empty.true)) w.index.ensures (sym w.is_some.ensures ∙ w.if-is_some.true))
      | then-not-is_empty+else-is_some w ↦ rw w.origins-is (with_origin_none c.args.origin origins.items (w.len-front.result - 1) w.index.result.now (grind (arith, nat_tests, origins.ok.0, w.len-front.ensures, c.is_empty.ensures, w.if-not-is_empty.true)) w.index.ensures (sym w.is_some.ensures ∙ w.if-is_some.false))
      | else-not-is_empty w ↦ rw w.origins-is (with_origin_empty c.args.origin origins.items (grind (arith, nat_tests, origins.ok.0, c.is_empty.ensures, w.if-not-is_empty.false)))
    ]
