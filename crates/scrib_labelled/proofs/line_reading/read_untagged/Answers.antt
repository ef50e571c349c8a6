use Rattle.std.proofs.Common.{◌∙◌, ◌++◌, ℕ, List, Some, sym, ap, subst}
use Rattle.scrib_script_reader.specs.Fields.{fields}
use Rattle.scrib_script_reader.specs.Says.{Says}
use Rattle.scrib_labels.specs.SessionLines.{numbered_line}
use Rattle.scrib_labels.specs.SessionNames.{is_session_name}
use Rattle.scrib_labelled.specs.LabelledLines.{IsNumbered}
use Rattle.scrib_labelled.proofs.LineLemmas.{rest_bad, rest_whole, session_numbered}
use Rattle.scrib_labelled.proofs.line_reading.read_untagged.Goals as goal

pub returns-in_ok-line-in-Whole : goal.returns-in_ok-line-in-Whole
returns-in_ok-line-in-Whole c = rest_whole c.args.names.now c.args.named c.args.rest.now c.in_ok-line-in-Whole.field-0 c.in-Whole.ensures c.in_ok-line-in-Whole.ensures

pub returns-in-Bad : goal.returns-in-Bad
returns-in-Bad c = rest_bad c.args.names.now c.args.named c.args.rest.now c.in-Bad.ensures.1.0 c.in-Bad.ensures.0 c.in-Bad.ensures.1.1 c.in-Bad.ensures.1.2

pub returns-in_ok-line-in-Session : goal.returns-in_ok-line-in-Session
returns-in_ok-line-in-Session c =
    let text = c.in_ok-push_numbered_line-in-Session.ensures.line ∙ ap (λ (t : List ℕ). t ++ numbered_line c.in-Session.line c.in_ok-session-in-Session.session.number) c.clear.ensures.items in
    record {
      plain = c.push_numbered_line.new.out.items;
      numbered = subst (λ (name : List ℕ). IsNumbered c.args.named c.args.rest.now (Some (name, c.in_ok-session-in-Session.session.number)) c.push_numbered_line.new.out.items) (sym c.in_ok-session-in-Session.ensures.name)
          (session_numbered c.args.named c.args.rest.now c.push_numbered_line.new.out.items c.in-Session.line c.in_ok-session-in-Session.session.number
          c.in-Session.ensures.0 c.in-Session.ensures.1 c.in-Session.ensures.2
          (ap fields text ∙ c.in_ok-push_numbered_line-in-Session.ensures.fields c.in-Session.ensures.1.1));
      says = subst (λ (t : List ℕ). Says t c.in_ok-line-in-Session.field-0) c.as_slice.ensures.value c.in_ok-line-in-Session.ensures;
      numbers = (c.in_ok-session-in-Session.ensures.number, ap is_session_name c.in_ok-session-in-Session.ensures.name ∙ c.in-Session.ensures.2);
    }
