use Rattle.std.proofs.Common.{◌↔◌, AllPairs, Contains, ◌∷◌, ◌++◌, []}
use Rattle.scrib_types.specs.declared.event.Action.{Action}
use Rattle.scrib_types.specs.Judgement.{ComesBefore}
use Rattle.scrib_types.specs.Logs.{event_of}
use Rattle.scrib_types.specs.Meaning.{agreement_of}
use Rattle.scrib_types.specs.Permitted.{IsPermitted}
use Rattle.scrib_global.proofs.allowed.allowed.Given as goal

abbrev pub invariant-loop-action : goal.invariant-loop-action
invariant-loop-action l = record {
  sorted : AllPairs ComesBefore l.list.items;
  exact : (a : Action) → Contains l.list.items a ↔ (Contains l.yielded a × IsPermitted (agreement_of l.protocol) (l.before ++ event_of l.role a ∷ []));
}
