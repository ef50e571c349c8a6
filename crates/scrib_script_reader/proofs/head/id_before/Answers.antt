use Rattle.std.proofs.Common.{◌≡◌, ◌-◌, ◌++◌, ◌∷◌, ℕ, suc, List, length, take, drop, add-one, sym, ap, ◌∙◌, arith}
use Rattle.std.proofs.lemmas.List.{length-take-le, length-drop, take_all}
use Rattle.scrib_script_reader.proofs.Heads.{cut-at}
use Rattle.scrib_script_reader.proofs.head.id_before.Goals as goal

-- the bytes behind an index, taken whole
all-behind : (bytes : List ℕ) (at : ℕ) → take (length bytes - suc at) (drop (suc at) bytes) ≡ drop (suc at) bytes
all-behind bytes at = take_all (length bytes - suc at) (drop (suc at) bytes) (omega (arith, length-drop (suc at) bytes))

pub returns : goal.returns
returns c =
    let at = c.args.at in
    let bytes = c.args.bytes.now in
    let long = length-take-le at bytes (omega arith) in
    let number = c.in-Ok.ensures in (
      take at bytes,
      (rw add-one (cut-at bytes at c.requires.within c.requires.blank ∙ ap (λ (l : List ℕ). take at bytes ++ 32 ∷ l) (sym (all-behind bytes at)))),
      record {
        digits = c.requires.digits;
        some = omega (arith, long);
        most = omega (arith, long);
        value = number.1 ∙ c.requires.value;
        fits = omega arith;
      },
    )
