use Rattle.std.proofs.Common.{◌≡◌, Some, None, sym, ap, ◌∙◌}
use Rattle.std.specs.Option.{option_copied}
use Rattle.scrib_core.specs.Held.{record_at, conversation_of}
use Rattle.scrib_core.proofs.ConversationLemmas.{seen}
use Rattle.scrib_core.proofs.monitor.Core.view.Goals as goal

pub returns-in_err-record : goal.returns-in_err-record
returns-in_err-record c =
    let none : record_at c.self.inside.records.entries c.args.id ≡ None = sym c.get.ensures.value ∙ ap option_copied c.in_err-record.was in
    rw (sym c.self.view_is, c.from_residual.ensures) (seen c.self.inside.library c.self.inside.records.entries c.args.id None none)

pub returns : goal.returns
returns c =
    let there : record_at c.self.inside.records.entries c.args.id ≡ Some c.in_ok-record.record.now = sym c.get.ensures.value ∙ ap option_copied c.in_ok-record.was in
    rw (sym c.self.view_is) (conversation_of c.in_ok-record.record.now, seen c.self.inside.library c.self.inside.records.entries c.args.id (Some c.in_ok-record.record.now) there, rw (sym c.name.ensures) c.protocol_of-protocol.ensures, c.log.ensures.log)
