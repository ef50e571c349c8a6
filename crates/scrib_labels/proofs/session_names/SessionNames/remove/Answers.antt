use Rattle.std.proofs.Common.{None, sym}
use Rattle.std.proofs.lemmas.Map.Text.{hash_map_updates_text}
use Rattle.scrib_labels.proofs.NamingLemmas.{found_removed, kept_removed, named_updated}
use Rattle.scrib_labels.proofs.session_names.SessionNames.remove.Goals as goal

pub invariant_of-self : goal.invariant_of-self
invariant_of-self c = record {
  kept = kept_removed c.args.self.now.names c.try_remove.new.self c.args.self.now.numbers c.swap_remove.new.self c.args.name.now c.in-Some.number c.args.self.now.kept (sym c.in-Some.ensures.value) (hash_map_updates_text c.args.name.now c.args.self.now.numbers c.swap_remove.new.self None c.swap_remove.ensures.updates) c.try_remove.ensures.updates;
  named = named_updated c.args.self.now.numbers c.swap_remove.new.self c.args.name.now None c.args.self.now.named (c.args.self.now.named c.args.name.now c.in-Some.number (sym c.in-Some.ensures.value)) (hash_map_updates_text c.args.name.now c.args.self.now.numbers c.swap_remove.new.self None c.swap_remove.ensures.updates);
  found = found_removed c.args.self.now.names c.try_remove.new.self c.args.self.now.numbers c.swap_remove.new.self c.args.name.now c.in-Some.number c.args.self.now.found (sym c.in-Some.ensures.value) (hash_map_updates_text c.args.name.now c.args.self.now.numbers c.swap_remove.new.self None c.swap_remove.ensures.updates) c.try_remove.ensures.updates;
}

pub returns-in-Some : goal.returns-in-Some
returns-in-Some c = hash_map_updates_text c.args.name.now c.args.self.now.numbers c.swap_remove.new.self None c.swap_remove.ensures.updates
