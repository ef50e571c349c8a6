use Rattle.std.proofs.Common.{◌≡◌, ◌≤◌, ◌∙◌, ℕ, List, [], ◌∷◌, ◌++◌, length, take, refl, sym, ap, vec_len, arith}
use Rattle.std.proofs.lemmas.Bool.{false≢true}
use Rattle.std.proofs.lemmas.List.{append_assoc, length-take}
use Rattle.scrib_script_reader.proofs.Bytes.{take_kept}
use Rattle.scrib_script_reader.proofs.spelling.text_line_entry.Goals as goal

pub returns : goal.returns
returns c =
    let text = c.args.text.bytes.items in
    let line = c.args.line.now in (
      λ e. false≢true (sym c.if-is_text_end.false ∙ c.is_text_end.ensures.1 (c.without_cr.ensures ∙ e)),
      λ h.
          let first : c.append_up_to.new.kept.items ≡ take 1048577 (c.args.text.bytes.items ++ c.args.line.now) = c.in_ok-append_up_to.ensures (omega (arith, h, c.args.text.bytes.ok.0)) in
          let short : vec_len c.append_up_to.new.kept ≤ 1048577 = omega (arith, ap length first, length-take 1048577 (c.args.text.bytes.items ++ c.args.line.now), c.append_up_to.new.kept.ok.0) in
          let all = c.in_ok-append_up_to-2.ensures short ∙ ap (λ (t : List ℕ). take 1048577 (t ++ 10 ∷ [])) first ∙ take_kept 1048577 (text ++ line) (10 ∷ []) ∙ ap (take 1048577) (append_assoc text line (10 ∷ [])) in
          ap (λ (bytes : List ℕ). record { bytes = bytes; format = c.args.text.format }) all,
      refl,
    )
