use Rattle.std.proofs.Common.{sym, ◌∙◌}
use Rattle.scrib_static_checks.specs.Table.{declaration_of}
use Rattle.scrib_static_checks.proofs.NameLemmas.{dotted_eq-Decides}
use Rattle.scrib_static_checks.proofs.TableLemmas.{lent_at, there_shown}
use Rattle.scrib_static_checks.proofs.index_entries.is_named.Goals as goal

pub returns-then-equal-clause-named : goal.returns-then-equal-clause-named
returns-then-equal-clause-named c = λ t.
    let one = c.in-Some.one.now in
    record {
      found = declaration_of one;
      there = there_shown c.args.declared.now c.args.place one (lent_at c.args.declared.now c.args.place one c.in-Some.ensures.lookup.0 c.in-Some.ensures.lookup.1);
      home_is = sym ((dotted_eq-Decides c.args.home.now one.home.now.name).0 (sym c.same_name.ensures ∙ t));
      name_is = sym (c.equal.ensures.same.0 c.if-equal.true);
    }
