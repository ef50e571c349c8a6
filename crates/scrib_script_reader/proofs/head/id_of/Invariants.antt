use Rattle.std.proofs.Common.{◌≡◌, ◌<◌, ◌^◌, take}
use Rattle.std.specs.Str.Parse.{AllDigits, digits_value}
use Rattle.scrib_script_reader.proofs.head.id_of.Given as goal

abbrev pub invariant-loop-at : goal.invariant-loop-at
invariant-loop-at l = record {
  value : l.value ≡ digits_value 10 (take l.at l.bytes);
  digits : AllDigits 10 (take l.at l.bytes);
  fits : l.value < 10 ^ l.at;
}
