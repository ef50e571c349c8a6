-- No member of the object of a finding is a float.
use Rattle.std.proofs.Common.{◌≡◌, ◌||◌, ℕ, Bool, List, [], ◌∷◌, Option, Some, None, Ordering, Less, Equal, Greater, true, false, codes, refl}
use Rattle.std.specs.Ordering.{match_ordering, nat_cmp}
use Rattle.std.specs.Cmp.Lexicographic.{slice_cmp}
use Rattle.serde_json.specs.Data.{Data, string, object, Members, no_members, member, put}
use Rattle.serde_json.specs.Written.{has_float, members_have_float}
use Rattle.scrib_types.specs.declared.event.Action.{Action}
use Rattle.scrib_types.specs.declared.event.Action.TheVariants as action
use Rattle.scrib_types.specs.declared.event.Event.{Event}
use Rattle.scrib_types.specs.declared.event.Event.TheVariants.{Join, Sent, Received}
use Rattle.scrib_types.specs.Texts.{dotted_text}
use Rattle.scrib_global.specs.declared.next.RoleNext.{RoleNext}
use Rattle.scrib_global.specs.declared.next.RoleNext.TheVariants.{MayJoin, Done, May, WaitsFor}
use Rattle.scrib_offences.specs.declared.explained_offence.Situation.{Situation}
use Rattle.scrib_offences.specs.declared.explained_offence.Situation.TheVariants.{Undeclared, Next}
use Rattle.scrib_report.specs.Json.{natural, actions_array}
use Rattle.scrib_report.specs.LabelledReplies.{with_text}
use Rattle.scrib_report.specs.Lines.{refusal_text}
use Rattle.scrib_report.specs.PutBack.{bytes_of}
use Rattle.scrib_findings.specs.declared.finding.ConversationId.{ConversationId}
use Rattle.scrib_findings.specs.declared.finding.Finding.{Finding}
use Rattle.scrib_findings.specs.declared.finding.Finding.TheVariants as finding
use Rattle.scrib_findings.specs.declared.finding.OffenceEnd.{OffenceEnd}
use Rattle.scrib_findings.specs.declared.finding.RefusedStep.{RefusedStep}
use Rattle.scrib_findings.specs.declared.finding.ReportedOffence.{ReportedOffence}
use Rattle.scrib_findings.specs.FindingLines.{clean_word}
use Rattle.scrib_findings.specs.FindingObjects.{name_or_number, conversation_item, exchange_object, event_object, with_next, with_situation, offence_members, with_found, with_concerned, end_members, refusal_members, finding_members, finding_object}

or-left : (a b : Bool) → (a || b) ≡ false → a ≡ false
or-left false b h = refl
or-left true b h = h

or-right : (a b : Bool) → (a || b) ≡ false → b ≡ false
or-right false b h = h
or-right true b h = absurd (cc)

by-order : (o : Ordering) (a b c : Members) → members_have_float a ≡ false → members_have_float b ≡ false → members_have_float c ≡ false → members_have_float (match_ordering o a b c) ≡ false
by-order Less a b c p q r = p
by-order Equal a b c p q r = q
by-order Greater a b c p q r = r

with-put : (k : List ℕ) (d : Data) (ms : Members) → has_float d ≡ false → members_have_float ms ≡ false → members_have_float (put k d ms) ≡ false
with-put k d no_members none h = rw none
with-put k d (member l e ms) none h =
    let here : has_float e ≡ false = or-left (has_float e) (members_have_float ms) h in
    let more : members_have_float ms ≡ false = or-right (has_float e) (members_have_float ms) h in
    by-order (slice_cmp nat_cmp k l) (member k d (member l e ms)) (member l d ms) (member l e (put k d ms))
    (rw none h) (rw none more) (rw here (with-put k d ms none more))

actions-none : (acts : List Action) → has_float (actions_array acts) ≡ false
actions-none [] = refl
actions-none (a ∷ acts) = actions-none acts

name-none : (name : Option (List ℕ)) (n : ℕ) → has_float (name_or_number name n) ≡ false
name-none None n = refl
name-none (Some name) n = refl

conversation-none : (c : ConversationId) → has_float (conversation_item c) ≡ false
conversation-none c = name-none (bytes_of c.name) c.number

event-none : (e : Event) → has_float (event_object e) ≡ false
unfolding event_object exchange_object
event-none (Join r) = refl
event-none (Sent p q m) = refl
event-none (Received p q m) = refl

next-none : (next : RoleNext) (ms : Members) → members_have_float ms ≡ false → members_have_float (with_next next ms) ≡ false
next-none (MayJoin acts) ms h = with-put (codes "may") (actions_array (action.Join ∷ [])) ms (actions-none (action.Join ∷ [])) h
next-none Done ms h = h
next-none (May acts) ms h = with-put (codes "may") (actions_array acts) ms (actions-none acts) h
next-none (WaitsFor acts) ms h = with-put (codes "waits") (actions_array acts) ms (actions-none acts) h

situation-none : (s : Situation) (ms : Members) → members_have_float ms ≡ false → members_have_float (with_situation s ms) ≡ false
situation-none (Undeclared r) ms h = with-put (codes "undeclared") (string r) ms refl h
situation-none (Next next) ms h = next-none next ms h

offence-none : (o : ReportedOffence) → members_have_float (offence_members o) ≡ false
unfolding offence_members
offence-none o = situation-none o.explained.situation _ (rw (actions-none o.allowed, event-none o.explained.event))

found-none : (c : ConversationId) (protocol : List (List ℕ)) (found : ℕ) (ms : Members) → members_have_float ms ≡ false → members_have_float (with_found c protocol found ms) ≡ false
found-none c protocol found ms h =
    let named : members_have_float (put (codes "conversation") (conversation_item c) ms) ≡ false = with-put (codes "conversation") (conversation_item c) ms (conversation-none c) h in
    let numbered : members_have_float (put (codes "found") (natural found) (put (codes "conversation") (conversation_item c) ms)) ≡ false = with-put (codes "found") (natural found) (put (codes "conversation") (conversation_item c) ms) refl named in
    with-put (codes "protocol") (string (dotted_text protocol)) (put (codes "found") (natural found) (put (codes "conversation") (conversation_item c) ms)) refl numbered

concerned-none : (o : Option ConversationId) (ms : Members) → members_have_float ms ≡ false → members_have_float (with_concerned o ms) ≡ false
concerned-none None ms h = h
concerned-none (Some c) ms h = with-put (codes "conversation") (conversation_item c) ms (conversation-none c) h

end-none : (e : OffenceEnd) → members_have_float (end_members e) ≡ false
unfolding end_members
end-none e = found-none e.conversation e.protocol.now e.found
    (member (codes "verdict") (string (clean_word e.verdict)) (member (codes "was") (object (offence_members e.was.now)) no_members))
    (rw (offence-none e.was.now))

refusal-none : (r : RefusedStep) → members_have_float (refusal_members r) ≡ false
unfolding refusal_members
refusal-none r = concerned-none r.conversation
    (member (codes "line") (natural r.line) (member (codes "refused") (string (refusal_text r.refusal)) no_members)) refl

finding-none : (f : Finding) → members_have_float (finding_members f) ≡ false
finding-none (finding.Offence f) = found-none f.conversation f.protocol.now f.found (offence_members f.offence.now) (offence-none f.offence.now)
finding-none (finding.OffenceEnd e) = end-none e
finding-none (finding.Refusal r) = refusal-none r

tag-none : (tag : Option (List ℕ)) (ms : Members) → members_have_float ms ≡ false → members_have_float (with_text (codes "tag") tag ms) ≡ false
tag-none None ms h = h
tag-none (Some tag) ms h = with-put (codes "tag") (string tag) ms refl h

pub finding_has_no_float : (tag : Option (List ℕ)) (f : Finding) → has_float (finding_object tag f) ≡ false
finding_has_no_float tag f = tag-none tag (finding_members f) (finding-none f)
