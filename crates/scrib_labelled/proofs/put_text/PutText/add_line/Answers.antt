use Rattle.std.proofs.Common.{◌≡◌, ◌≤◌, ◌∙◌, ℕ, List, [], ◌∷◌, ◌++◌, length, take, refl, ap, vec_len, arith}
use Rattle.std.proofs.lemmas.List.{length-take}
use Rattle.scrib_labelled.proofs.put_text.PutText.add_line.Goals as goal

pub returns : goal.returns
returns c = record {
  bytes = λ h.
      let first : c.append_up_to.new.kept.items ≡ take 1048577 (c.args.self.now.bytes.items ++ c.args.line.now) = c.in_ok-append_up_to.ensures (omega (arith, h, c.args.self.now.bytes.ok.0)) in
      let short : vec_len c.append_up_to.new.kept ≤ 1048577 = omega (arith, ap length first, length-take 1048577 (c.args.self.now.bytes.items ++ c.args.line.now), c.append_up_to.new.kept.ok.0) in
      c.in_ok-append_up_to-2.ensures short ∙ ap (λ (t : List ℕ). take 1048577 (t ++ 10 ∷ [])) first;
  format = refl;
  tag = refl;
  line = refl;
  head = refl;
}
