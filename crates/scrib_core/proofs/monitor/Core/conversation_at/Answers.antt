use Rattle.std.proofs.Common.{◌≡◌, slice_get, Some, sym, ap, ◌∙◌}
use Rattle.std.proofs.lemmas.Map.Made.{keys_of-map_values}
use Rattle.std.proofs.lemmas.Option.{slice_get-map}
use Rattle.std.specs.Map.Iter.{deref_pair}
use Rattle.std.specs.Map.{keys_of}
use Rattle.std.specs.Option.{option_map}
use Rattle.scrib_core.specs.Held.{conversation_of}
use Rattle.scrib_core.proofs.monitor.Core.conversation_at.Goals as goal

pub returns : goal.returns
returns c =
    let es = c.self.inside.records.entries in
    let entry : slice_get c.self.inside.records.entries c.args.index ≡ Some (c.in_ok-id.id.now, c.in_ok-id.field-0-1.now) =
    sym c.get_index.ensures.entry ∙ ap (option_map deref_pair) c.in_ok-id.was in
    let key : slice_get (keys_of c.self.inside.records.entries) c.args.index ≡ Some c.in_ok-id.id.now =
    slice_get-map (λ e. e.0) es c.args.index ∙ ap (option_map (λ e. e.0)) entry in
    rw (sym c.self.view_is) (sym (ap (λ ks. slice_get ks c.args.index) (keys_of-map_values conversation_of es) ∙ key))
