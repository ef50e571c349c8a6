use Rattle.std.proofs.Common.{◌≡◌, ◌∷◌, [], ◌++◌, Some, None, length, cond, ltb, sym, ◌∙◌, rules, tests}
use Rattle.std.proofs.lemmas.Bool.Decides.{Decides-eqb}
use Rattle.std.proofs.lemmas.List.{take_rest}
use Rattle.std.proofs.lemmas.Slice.Eq.{strip_suffix_is}
use Rattle.std.specs.List.{position_or_len}
use Rattle.std.proofs.lemmas.Iterator.{YieldsList-from_slice}
use Rattle.std.proofs.lemmas.Iterator.Search.{position_from_yields_List}
use Rattle.scrib_script_reader.proofs.MessageTexts.{is_open, no-cut-unopened, cut-read}
use Rattle.scrib_script_reader.proofs.text.parts_of.Goals as goal

pub returns-in_err-open : goal.returns-in_err-open
returns-in_err-open c =
    let closed = strip_suffix_is Decides-eqb c.args.bytes.now (41 ∷ []) c.strip_suffix.result c.strip_suffix.ensures.cases in
    let e : c.args.bytes.now ≡ c.in_ok-front.front.now ++ 41 ∷ [] = rw c.in_ok-front.was at closed in
    let at : c.position.result ≡ cond (ltb (position_or_len is_open c.in_ok-front.front.now) (length c.in_ok-front.front.now)) (Some (position_or_len is_open c.in_ok-front.front.now)) None =
    position_from_yields_List is_open _ _ c.position.result c.position.ensures.ran (YieldsList-from_slice c.in_ok-front.front.now cc) (λ x b q k. search (rules, tests)) in
    rw c.from_residual-in_err-open.ensures (no-cut-unopened c.args.bytes.now c.in_ok-front.front.now e (sym c.in_err-open.was ∙ at))

pub returns : goal.returns
returns c =
    let closed = strip_suffix_is Decides-eqb c.args.bytes.now (41 ∷ []) c.strip_suffix.result c.strip_suffix.ensures.cases in
    let e : c.args.bytes.now ≡ c.in_ok-front.front.now ++ 41 ∷ [] = rw c.in_ok-front.was at closed in
    let at : c.position.result ≡ cond (ltb (position_or_len is_open c.in_ok-front.front.now) (length c.in_ok-front.front.now)) (Some (position_or_len is_open c.in_ok-front.front.now)) None =
    position_from_yields_List is_open _ _ c.position.result c.position.ensures.ran (YieldsList-from_slice c.in_ok-front.front.now cc) (λ x b q k. search (rules, tests)) in
    rw take_rest (cut-read c.args.bytes.now c.in_ok-front.front.now c.in_ok-open.open e (sym c.in_ok-open.was ∙ at))
