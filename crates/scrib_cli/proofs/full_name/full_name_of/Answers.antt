use Rattle.std.proofs.Common.{◌≡◌, ◌∙◌, length, sym, ◌∷◌, [], ◌++◌, vec_len}
use Rattle.std.proofs.lemmas.Bool.{eqb-true}
use Rattle.scrib_script_reader.specs.Fields.{IsDottedText}
use Rattle.scrib_cli.proofs.ProjectionLemmas.{alone}
use Rattle.scrib_cli.proofs.full_name.full_name_of.Goals as goal

pub returns-then-is_empty : goal.returns-then-is_empty
returns-then-is_empty c =
    let joined : IsDottedText c.args.word.now c.in-Some.names.items = rw (c.as_bytes.ensures.value, c.in-Some.is) at c.in_ok-names.ensures in
    let last : c.in-Some.names.items ≡ c.pop.new.self.items ++ c.in-Some-pop.protocol ∷ [] = c.in-Some-pop.ensures.items in
    let none : length c.pop.new.self.items ≡ 0 = sym c.pop.new.self.ok.0 ∙ eqb-true (vec_len c.pop.new.self) 0 (sym c.if-is_empty.ensures) in
    alone c.args.word.now c.pop.new.self.items c.in-Some-pop.protocol (rw last at joined) none
