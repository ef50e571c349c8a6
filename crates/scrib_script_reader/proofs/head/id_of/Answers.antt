use Rattle.std.proofs.Common.{◌≡◌, ◌+◌, ◌-◌, ◌*◌, ◌<◌, length, get_or, sym, ◌∙◌, arith}
use Rattle.std.specs.Char.{digit_value}
use Rattle.std.proofs.lemmas.Int.Digits.{digits_value_more, digits_more}
use Rattle.scrib_script_reader.proofs.Digits.{decimal_value, power_more}
use Rattle.scrib_script_reader.proofs.head.id_of.Goals as goal

pub loop-at-preserved : goal.loop-at-preserved
loop-at-preserved c =
    let i = c.loop-at.at in
    let bytes = c.args.bytes.now in
    let here : i < length bytes = omega arith in
    let is : digit_value (get_or bytes i 0) ≡ get_or bytes i 0 - 48 = decimal_value (get_or bytes i 0) c.if-byte-lt48.false c.if-byte-gt57.false in
    let more = digits_value_more 10 bytes i here in
    record {
      value = sym (more ∙ (λ k. sym c.loop-at.invariant.value k * 10 + (is ∙ sym c.from.ensures) k));
      digits = digits_more 10 bytes i here c.loop-at.invariant.digits (omega (arith, is));
      fits = power_more c.loop-at.value c.from.result i c.loop-at.invariant.fits (omega (arith, c.from.ensures));
    }
