use Rattle.std.proofs.Common.{◌≡◌, ◌∙◌, Some, ap, subst, sym, refl}
use Rattle.std.specs.Prelude.{IsSome, nat_eq}
use Rattle.std.specs.Map.{lookup}
use Rattle.std.specs.Option.{option_copied_mut}
use Rattle.std.proofs.lemmas.Result.{on_ok_weaker}
use Rattle.scrib_reported.proofs.KeptLemmas.{line_added}
use Rattle.scrib_reported.proofs.kept.KeptConversations.add_line_by_key.Goals as goal

pub returns-in-Some : goal.returns-in-Some
returns-in-Some c =
    let es = c.args.self.now.table.entries in
    let k = c.in-Some.kept.now in
    let there : lookup (nat_eq c.args.id) es ≡ Some k = sym c.get_mut.ensures.value ∙ ap option_copied_mut c.in-Some.is in
    let through = c.get_mut.follows.holds (record k { lines = c.push.new.self }) in
    on_ok_weaker c.push.result
    (λ is. line_added es _ c.args.id c.args.line k c.push.new.self there is (through.3 (subst IsSome (sym there) refl)).0)
    c.push.ensures.ok
