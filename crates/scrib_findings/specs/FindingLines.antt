-- The lines of findings (this project's own).
use Rattle.std.specs.Prelude.{ℕ, List, [], ◌++◌, Option, Some, None, unwrap_or, codes}
use Rattle.std.specs.Fmt.{decimal}
use Rattle.scrib_types.specs.Logs.{subject_of}
use Rattle.scrib_global.specs.declared.next.RoleNext.{RoleNext}
use Rattle.scrib_global.specs.declared.next.RoleNext.TheVariants.{MayJoin, Done, May, WaitsFor}
use Rattle.scrib_offences.specs.declared.explained_offence.ExplainedOffence.{ExplainedOffence}
use Rattle.scrib_offences.specs.declared.explained_offence.Situation.{Situation}
use Rattle.scrib_offences.specs.declared.explained_offence.Situation.TheVariants.{Undeclared, Next}
use Rattle.scrib_report.specs.Lines.{refusal_text}
use Rattle.scrib_report.specs.PutBack.{bytes_of}
use Rattle.scrib_cli.specs.NextLines.{next_text}
use Rattle.scrib_show.specs.ShownLines.{event_text, reason_word}
use Rattle.scrib_findings.specs.declared.finding.CleanVerdict.{CleanVerdict}
use Rattle.scrib_findings.specs.declared.finding.CleanVerdict.TheVariants.{Permitted, Withdrawn}
use Rattle.scrib_findings.specs.declared.finding.ConversationId.{ConversationId}
use Rattle.scrib_findings.specs.declared.finding.Finding.{Finding}
use Rattle.scrib_findings.specs.declared.finding.Finding.TheVariants as finding
use Rattle.scrib_findings.specs.declared.finding.FoundOffence.{FoundOffence}
use Rattle.scrib_findings.specs.declared.finding.OffenceEnd.{OffenceEnd}
use Rattle.scrib_findings.specs.declared.finding.RefusedStep.{RefusedStep}

-- a conversation by its name, or by its number where it has none: `conversation order-8f3a` or `conversation 7`
unfoldable pub conversation_text : ConversationId → List ℕ
conversation_text c = codes "conversation " ++ unwrap_or (bytes_of c.name) (decimal c.number)

-- what a role may do, in the words of `next`; `is done` of a role that is done
abbrev pub next_words : RoleNext → List ℕ
next_words (MayJoin acts) = next_text (MayJoin acts)
next_words Done = codes "is done"
next_words (May acts) = next_text (May acts)
next_words (WaitsFor acts) = next_text (WaitsFor acts)

-- the role that is not declared, as `Zoe is not declared`; else what this role may do, as `Payment waits for A?ok()`
abbrev pub situation_text : (role : List ℕ) → Situation → List ℕ
situation_text role (Undeclared r) = r ++ codes " is not declared"
situation_text role (Next next) = role ++ codes " " ++ next_words next

-- the event, the reason, and the situation of the role that acts, as `recv A B x(): NotSent; B waits for A?x()`
unfoldable pub explained_text : ExplainedOffence → List ℕ
explained_text o =
    event_text o.event ++ codes ": " ++ reason_word o.reason ++ codes "; "
    ++ situation_text (subject_of o.event) o.situation

-- the line of an offence: `offence in conversation 7 at event 11, line 35: ` in front of its event and the reason
unfoldable pub offence_line : FoundOffence → List ℕ
offence_line f =
    codes "offence in " ++ conversation_text f.conversation ++ codes " at event "
    ++ decimal f.offence.now.explained.place ++ codes ", line " ++ decimal f.offence.now.line ++ codes ": "
    ++ explained_text f.offence.now.explained ++ codes "\n"

-- the word of a verdict that is no offence
abbrev pub clean_word : CleanVerdict → List ℕ
clean_word Permitted = codes "permitted"
clean_word Withdrawn = codes "withdrawn"

-- the line of the end of an offence, as `no offence any more in conversation 7, line 90: permitted`
unfoldable pub end_line : OffenceEnd → List ℕ
end_line e =
    codes "no offence any more in " ++ conversation_text e.conversation ++ codes ", line " ++ decimal e.found
    ++ codes ": " ++ clean_word e.verdict ++ codes "\n"

-- the conversation that a refused step concerns, if it concerns one
abbrev pub concerned_text : Option ConversationId → List ℕ
concerned_text None = []
concerned_text (Some c) = codes ", " ++ conversation_text c

-- the line of a refusal: `refused in line 12, conversation 9: NoConversation` or `refused in line 12: UnknownModule`
unfoldable pub refusal_line : RefusedStep → List ℕ
refusal_line r =
    codes "refused in line " ++ decimal r.line ++ concerned_text r.conversation ++ codes ": "
    ++ refusal_text r.refusal ++ codes "\n"

-- the line of a finding, with its LF
abbrev pub finding_line : Finding → List ℕ
finding_line (finding.Offence f) = offence_line f
finding_line (finding.OffenceEnd e) = end_line e
finding_line (finding.Refusal r) = refusal_line r
