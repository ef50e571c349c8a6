use Rattle.std.proofs.Common.{◌≡◌, ℕ, ◌+◌, ◌-◌, ◌*◌, get_or, sym, ◌∙◌, arith}
use Rattle.std.specs.Char.{digit_value}
use Rattle.std.proofs.lemmas.Int.Digits.{digits_value_more, digits_more}
use Rattle.scrib_script_reader.proofs.Digits.{decimal, decimal_value, digit-at, power_more}
use Rattle.scrib_script_reader.proofs.text.number_of.Goals as goal
use Rattle.scrib_script_reader.proofs.text.number_of.Goals.{then-byte-lt48-via-then-byte-lt48, then-byte-lt48-via-else-byte-lt48+then-byte-gt57}

pub returns-then-byte-lt48 : goal.returns-then-byte-lt48
returns-then-byte-lt48 c = λ n h.
    let p = decimal (get_or c.args.bytes.now c.loop-byte.byte-index 0) (digit-at c.args.bytes.now c.loop-byte.byte-index c.loop-byte-test.true h.digits) in
    elim c.then-byte-lt48.branch [
      | then-byte-lt48-via-then-byte-lt48 w ↦ omega (arith, w.if-byte-lt48.true)
      | then-byte-lt48-via-else-byte-lt48+then-byte-gt57 w ↦ omega (arith, w.if-byte-gt57.true)
    ]

pub loop-byte-preserved : goal.loop-byte-preserved
loop-byte-preserved c =
    let i = c.loop-byte.byte-index in
    let bytes = c.args.bytes.now in
    let b : ℕ = get_or c.args.bytes.now c.loop-byte.byte-index 0 in
    let is : digit_value (get_or c.args.bytes.now c.loop-byte.byte-index 0) ≡ get_or c.args.bytes.now c.loop-byte.byte-index 0 - 48 = decimal_value (get_or c.args.bytes.now c.loop-byte.byte-index 0) c.if-byte-lt48.false c.if-byte-gt57.false in
    let more = digits_value_more 10 bytes i c.loop-byte-test.true in
    record {
      value = sym (more ∙ (λ k. sym c.loop-byte.invariant.value k * 10 + (is ∙ sym c.from.ensures) k));
      digits = digits_more 10 bytes i c.loop-byte-test.true c.loop-byte.invariant.digits (omega (arith, is));
      fits = power_more c.loop-byte.value c.from.result i c.loop-byte.invariant.fits (omega (arith, c.from.ensures));
    }
