-- What is shown of a conversation, from a view of the monitor and its verdict; and where writing it fails.
use Rattle.std.proofs.Common.{◌≡◌, ◌≢◌, ◌⊎◌, ◌+◌, ◌<◌, ◌≤◌, inl, inr, ℕ, Bool, true, false, List, [], ◌++◌, ◌∙◌, Option, Some, None, length, take, get_or, refl, sym, ap, subst, rules, arith}
use Rattle.std.specs.Prelude.{IfSome, All, IsTrue, ◌↔◌, option_map, slice_get}
use Rattle.std.specs.Borrow.{Bor}
use Rattle.std.specs.Io.KnownBytes.{Appends, Keeps}
use Rattle.std.proofs.lemmas.Bool.{true≢false}
use Rattle.std.proofs.lemmas.List.{append-nil}
use Rattle.std.proofs.lemmas.Option.{slice_get-get_or}
use Rattle.scrib_types.specs.declared.event.Event.{Event}
use Rattle.scrib_types.specs.declared.event.Told.{Told}
use Rattle.scrib_types.specs.declared.event.Told.TheVariants as tell
use Rattle.scrib_types.specs.Logs.{subject_of}
use Rattle.scrib_types.specs.declared.protocol.Protocol.{Protocol}
use Rattle.scrib_types.specs.Agreement.{Agreement}
use Rattle.scrib_types.specs.Meaning.{agreement_of}
use Rattle.scrib_library.specs.Modules.{IsMeaning}
use Rattle.scrib_core.specs.World.{Conversation, conversation}
use Rattle.scrib_core.specs.Marks.{IsStale}
use Rattle.scrib_core.specs.Answers.{State, IsReportedIn, IsJudged}
use Rattle.scrib_core.specs.Held.{state_of, IsViewed}
use Rattle.scrib_global.specs.declared.explain.Flight.{Flight}
use Rattle.scrib_global.specs.declared.next.RoleStatus.{RoleStatus}
use Rattle.scrib_reasons.specs.declared.reason.Reason.{Reason}
use Rattle.scrib_cli.specs.NextLines.{are_at_rest}
use Rattle.scrib_cli.proofs.CompleteLogLemmas.{complete_at_rest}
use Rattle.scrib_script_reader.specs.declared.limits.Limits.{Limits}
use Rattle.scrib_script_reader.specs.Limits.{IsWithinLimits}
use Rattle.scrib_script_io.specs.Writes.{AppendsPart}
use Rattle.scrib_script_io.proofs.WriterLemmas.{appends_none, appends_kept}
use Rattle.scrib_show.specs.declared.line_monitor.LineMonitor.{LineMonitor}
use Rattle.scrib_show.specs.declared.show_form.ShowForm.{ShowForm}
use Rattle.scrib_show.specs.EventLines.{event_lines, HasEventFor}
use Rattle.scrib_global.specs.Explained.{IsExplained}
use Rattle.scrib_show.specs.ChartLines.{chart_text, offence_note}
use Rattle.scrib_show.specs.Charts.{IsChart, charts, charts_offence}
use Rattle.scrib_show.specs.Pages.{permitted_page, offence_page}
use Rattle.scrib_show.specs.Offence.{IsOffence}
use Rattle.scrib_show.specs.Shown.{IsOpen, IsAfter, IsPage, permits, offends, IsShownAs, Shown, present, IsShowOutput}
use Rattle.scrib_show.specs.Progress.{IsPaired, IsRead, HasReadScript, is_stale}

-- the output of a script that was read
show_output : (form : ShowForm) (m : Limits) (id : ℕ) (input : List ℕ) (s : State) (numbers : List ℕ) (k : Bool) (text : List ℕ) → IsRead m id input s numbers → HasEventFor s.world id numbers → Shown form s id numbers k text → IsShowOutput form input id k text
show_output form m id input s numbers k text r paired shown = record {
  entries = r.entries;
  replies = r.replies;
  after = s;
  spelled = r.spelled;
  answered = r.answered;
  none_refused = r.made;
  paired = subst (λ (ns : List ℕ). HasEventFor s.world id ns) (sym r.numbers_are) paired;
  is = subst (λ (ns : List ℕ). Shown form s id ns k text) (sym r.numbers_are) shown;
}

-- such an output was written
abbrev pub WritesShown : ShowForm → ℕ → Bool → Option (List ℕ) → Option (List ℕ) → Option (List ℕ) → Type 0
WritesShown form id k r was now = IfSome r (λ input. (output : List ℕ) × IsShowOutput form input id k output × Appends was now output)

-- nothing was written, or a prefix of such an output
abbrev pub WritesShownPart : ShowForm → ℕ → Option (List ℕ) → Option (List ℕ) → Option (List ℕ) → Type 0
WritesShownPart form id r was now =
    IfSome r (λ input. Appends was now [] ⊎ ((k : Bool) × (output : List ℕ) × IsShowOutput form input id k output × AppendsPart was now output))

pub wrote_nothing : (form : ShowForm) (id : ℕ) (r was : Option (List ℕ)) → WritesShownPart form id r was was
wrote_nothing form id None was = search rules
wrote_nothing form id (Some input) was = inl (appends_none was)

module _ (form : ShowForm) (m : Limits) (id : ℕ) (r : Option (List ℕ)) (mon : LineMonitor) (read : HasReadScript m id r mon) (k : Bool) (text : List ℕ) (shown : Shown form (state_of mon.core) mon.id mon.numbers.items k text) where
  output_of : (input : List ℕ) → IsRead m id input (state_of mon.core) mon.numbers.items → IsShowOutput form input id k text
  output_of input whole =
      show_output form m id input (state_of mon.core) mon.numbers.items k text whole
      (subst (λ (i : ℕ). HasEventFor (state_of mon.core).world i mon.numbers.items) read.id_is read.paired)
      (subst (λ (i : ℕ). Shown form (state_of mon.core) i mon.numbers.items k text) read.id_is shown)

  written : (q : Option (List ℕ)) → IfSome q (λ input. IsRead m id input (state_of mon.core) mon.numbers.items) → (was mid now : Option (List ℕ)) → Appends was mid text → Keeps mid now → WritesShown form id k q was now
  written None h was mid now all keeps = search rules
  written (Some input) h was mid now all keeps = (text, output_of input h, appends_kept was mid now text all keeps)

  part : (q : Option (List ℕ)) → IfSome q (λ input. IsRead m id input (state_of mon.core) mon.numbers.items) → (was now : Option (List ℕ)) → AppendsPart was now text → WritesShownPart form id q was now
  part None h was now some = search rules
  part (Some input) h was now some = inr (k, text, output_of input h, some)

  within_all : (q : Option (List ℕ)) → IfSome q (λ input. IsRead m id input (state_of mon.core) mon.numbers.items) → IfSome q (λ input. IsWithinLimits m input)
  within_all None h = search rules
  within_all (Some input) h = h.within

  pub shown_all : (was mid now : Option (List ℕ)) → Appends was mid text → Keeps mid now → WritesShown form id k r was now
  shown_all was mid now all keeps = written r read.read was mid now all keeps

  pub shown_part : (was now : Option (List ℕ)) → AppendsPart was now text → WritesShownPart form id r was now
  shown_part was now some = part r read.read was now some

  pub shown_unflushed : (was mid now : Option (List ℕ)) → Appends was mid text → Keeps mid now → WritesShownPart form id r was now
  shown_unflushed was mid now all keeps = part r read.read was now (text, [], sym (append-nil text), appends_kept was mid now text all keeps)

  pub shown_within : IfSome r (λ input. IsWithinLimits m input)
  shown_within = within_all r read.read

some_same : {A : Type 0} (x y : A) → Some x ≡ Some y → x ≡ y
some_same x y e = cc

-- a view of the monitor is of the conversation
pub viewed : (s : State) (id : ℕ) (o : Option (Bor Protocol)) (log : Bor (List Event)) (name : List (List ℕ)) (events : ℕ) (told : Told) → IsViewed s.world id (Some (o, log)) → IsJudged s id name events told
    → (c : Conversation) × (conversation s.world id ≡ Some c) × IsMeaning s.world.modules c.name (option_map (λ p. agreement_of p.now) o) × (record { name = name; log = log.now } ≡ c)
viewed s id o log name events told v j =
    let same : j.of ≡ v.0 = some_same j.of v.0 (sym j.there ∙ v.1) in
    let names : name ≡ v.0.name = j.name_is ∙ ap (λ (c : Conversation). c.name) same in
    (v.0, v.1, v.2, λ i. record { name = names i; log = v.3 i })

-- there is a number for each event that is shown
pub paired_view : (s : State) (id : ℕ) (numbers : List ℕ) (o : Option (Bor Protocol)) (log : Bor (List Event)) → IsViewed s.world id (Some (o, log)) → HasEventFor s.world id numbers → length numbers ≡ length log.now
paired_view s id numbers o log v paired = paired v.0 v.1 ∙ ap length (sym v.3)

-- whether the verdict is stale
stale_reported : (s : State) (id : ℕ) (told : Told) → IsReportedIn s id told → IsTrue (is_stale told) ↔ IsStale (s.marks id)
stale_reported s id tell.Stale r = (λ t. r, λ t. refl)
stale_reported s id (tell.Judged v) r = (λ t. absurd (true≢false (sym t)), λ t. absurd (subst IsStale r.0 t))

-- an open conversation is shown
pub shown_open : (form : ShowForm) (s : State) (id : ℕ) (numbers : List ℕ) (o : Option (Bor Protocol)) (log : Bor (List Event)) (name : List (List ℕ)) (events : ℕ) (told : Told) (stale shown : Bool) (text : List ℕ)
    → IsViewed s.world id (Some (o, log)) → IsJudged s id name events told → stale ≡ is_stale told
    → IsShownAs form (record { name = name; log = log.now }) stale numbers (option_map (λ p. agreement_of p.now) o) shown text → Shown form s id numbers shown text
shown_open form s id numbers o log name events told stale shown text v j is given =
    let c = viewed s id o log name events told v j in
    let reported : IsTrue stale ↔ IsStale (s.marks id) = subst (λ (b : Bool). IsTrue b ↔ IsStale (s.marks id)) (sym is) (stale_reported s id told j.reported) in
    present c.0 stale (option_map (λ p. agreement_of p.now) o) shown text (record { there = c.1; reported = reported }) c.2
    (subst (λ (d : Conversation). IsShownAs form d stale numbers (option_map (λ p. agreement_of p.now) o) shown text) c.3 given)

-- the text after a permitted log
pub permitted_is : (c : Conversation) (stale : Bool) (numbers : List ℕ) (p : Protocol) (flights : List Flight) (roles : List RoleStatus) (text : List ℕ) → IsAfter (agreement_of p) c.log flights roles
    → text ≡ permitted_page c stale numbers (are_at_rest roles) flights roles → IsPage c stale numbers (Some (agreement_of p)) text
permitted_is c stale numbers p flights roles text after e =
    subst (λ (t : List ℕ). IsPage c stale numbers (Some (agreement_of p)) t) (sym e)
    (permits (agreement_of p) flights roles (are_at_rest roles) after (complete_at_rest (agreement_of p) p.valid c.log roles after.next))

-- the text after an offence
pub offence_is : (c : Conversation) (stale : Bool) (numbers : List ℕ) (a : Agreement) (i : ℕ) (e : Event) (reason : Reason) (flights : List Flight) (roles : List RoleStatus) (text : List ℕ) → IsOffence a c.log i e reason
    → IsAfter a (take i c.log) flights roles → IfSome (slice_get c.log i) (λ d. text ≡ offence_page c stale numbers i (subject_of d) reason flights roles) → IsPage c stale numbers (Some a) text
offence_is c stale numbers a i e reason flights roles text off after h =
    let is : text ≡ offence_page c stale numbers i (subject_of e) reason flights roles =
    subst (λ (o : Option Event). IfSome o (λ d. text ≡ offence_page c stale numbers i (subject_of d) reason flights roles)) off.at h in
    subst (λ (t : List ℕ). IsPage c stale numbers (Some a) t) (sym is) (offends a flights roles i e reason off after)

-- the diagram of a permitted log
pub chart_is : (log : List Event) (a : Agreement) (flights : List Flight) (text : List ℕ) → IsExplained a log flights → text ≡ chart_text a.roles log flights → IsChart log (Some a) true text
chart_is log a flights text explained e = subst (λ (t : List ℕ). IsChart log (Some a) true t) (sym e) (charts a flights explained)

-- the diagram of a log with an offence
pub offence_chart_is : (log : List Event) (a : Agreement) (i : ℕ) (e : Event) (reason : Reason) (flights : List Flight) (roles : List RoleStatus) (text : List ℕ) → IsOffence a log i e reason → IsAfter a (take i log) flights roles
    → text ≡ chart_text a.roles (take i log) flights ++ offence_note (length a.roles) (i + 1) e reason → IsChart log (Some a) true text
offence_chart_is log a i e reason flights roles text off after h =
    subst (λ (t : List ℕ). IsChart log (Some a) true t) (sym h) (charts_offence a flights i e reason off after.explained)

-- the event of an offence is that at its index
pub offence_event : (a : Agreement) (log : List Event) (i : ℕ) (e d : Event) (reason : Reason) → IsOffence a log i e reason → d ≡ get_or log i d → i < length log → d ≡ e
offence_event a log i e d reason off is within =
    let there : Some d ≡ Some e = ap Some is ∙ sym (slice_get-get_or log i d within) ∙ off.at in
    some_same d e there

pub offence_chart_made : (a : Agreement) (log : List Event) (i : ℕ) (e d : Event) (reason : Reason) (rs rs2 : List (List ℕ)) (fs flights : List Flight) (old mid out : List ℕ) → rs ≡ a.roles → rs2 ≡ a.roles → fs ≡ flights → d ≡ e
    → old ≡ [] → mid ≡ old ++ chart_text rs (take i log) fs → out ≡ mid ++ offence_note (length rs2) (i + 1) d reason
    → out ≡ chart_text a.roles (take i log) flights ++ offence_note (length a.roles) (i + 1) e reason
offence_chart_made a log i e d reason rs rs2 fs flights old mid out r r2 f is none first then =
    let whole : mid ≡ chart_text a.roles (take i log) flights = first ∙ (λ k. none k ++ chart_text (r k) (take i log) (f k)) in
    then ∙ (λ k. whole k ++ offence_note (length (r2 k)) (i + 1) (is k) reason)
