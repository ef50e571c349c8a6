use Rattle.std.proofs.Common.{◌≡◌, true, map}
use Rattle.std.specs.List.{list_all}
use Rattle.scrib_types.specs.Names.{is_name}
use Rattle.scrib_script_reader.proofs.text.dotted_of.Given as goal

abbrev pub invariant-loop-piece : goal.invariant-loop-piece
invariant-loop-piece l = record {
  read : l.names.items ≡ map (λ piece. piece.now) l.yielded;
  names : list_all is_name l.names.items ≡ true;
}
