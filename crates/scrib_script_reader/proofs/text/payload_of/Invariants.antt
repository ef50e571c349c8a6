use Rattle.std.proofs.Common.{◌≡◌, true, map}
use Rattle.std.specs.List.{list_all}
use Rattle.scrib_types.specs.Texts.{dotted_texts}
use Rattle.scrib_script_reader.specs.Fields.{is_dotted}
use Rattle.scrib_script_reader.proofs.text.payload_of.Given as goal

abbrev pub invariant-loop-piece : goal.invariant-loop-piece
invariant-loop-piece l = record {
  read : dotted_texts l.sorts.items ≡ map (λ piece. piece.now) l.yielded;
  dotted : list_all is_dotted l.sorts.items ≡ true;
}
