-- The output of the setup, of the connections and of a whole run.
use Rattle.std.proofs.Common.{◌≡◌, ◌≢◌, ◌∙◌, inl, inr, ℕ, true, List, [], ◌∷◌, ◌++◌, map, Option, Some, None, Result, Ok, Err, Vec, Global, refl, sym, ap, subst}
use Rattle.std.specs.Prelude.{IfOk, IfErr, IfSome, OnOk, OnErr}
use Rattle.std.specs.Io.KnownBytes.{Appends}
use Rattle.std.proofs.lemmas.List.{append-nil}
use Rattle.scrib_locked_steps.specs.Passes.{PassHeld}
use Rattle.scrib_core.specs.declared.format.Format.{Format}
use Rattle.scrib_script_reader.specs.declared.item.Item.{Item}
use Rattle.scrib_script_reader.specs.Scripts.{Spells, lines}
use Rattle.scrib_script_io.specs.declared.fault.ScriptFault.{ScriptFault}
use Rattle.scrib_script_io.specs.declared.fault.ScriptFault.TheVariants as fault
use Rattle.scrib_script_io.specs.Faults.{of_script}
use Rattle.scrib_script_io.specs.Writes.{AppendsPart}
use Rattle.scrib_script_io.proofs.WriterLemmas.{appends_more}
use Rattle.scrib_run_service.specs.declared.connection.Connection.{Connection}
use Rattle.scrib_run_service.specs.declared.connection.Closed.{Closed}
use Rattle.scrib_run_service.specs.Outcomes.{outcomes_text}
use Rattle.scrib_run_service.specs.Reading.{of_reading, Ran, RanPart}
use Rattle.scrib_report.specs.ReplyTexts.{read_fault_line}
use Rattle.scrib_run_service.specs.Outputs.{connections_text, IsTranscript, IsTranscriptStart, IsConnectionText, WritesAll, WritesFirst, WritesPart, first_fault, Prints, PrintsPart, PrintsRun, PrintsRunPart}
use Rattle.scrib_run_service.specs.ConnectionResults.{IsConnectionClosed, AreClosed, AreTexts}
use Rattle.scrib_run_service.proofs.PartialWriteLemmas.{part_after}

all_are_first : (r : Option (List ℕ)) (items : List Item) → IfSome r (λ input. Spells 1 None (lines input) items) → IfSome r (λ input. (rest : List Item) × Spells 1 None (lines input) (items ++ rest))
all_are_first None items spelled = tt
all_are_first (Some input) items spelled = ([], subst (λ (is : List Item). Spells 1 None (lines input) is) (sym (append-nil items)) spelled)

pub whole_first : (f : Format) (r : Option (List ℕ)) (text : List ℕ) → IsTranscript f r text → IsTranscriptStart f r text
whole_first f r text h = record { items = h.items; outcomes = h.outcomes; spelled = all_are_first r h.items h.spelled; matched = h.matched; is = h.is }

module _ (f : Format) (r : Option (List ℕ)) (a b : Connection) (empty : a.lines.items ≡ []) (format : a.format ≡ f) where
  -- the text of a connection that began with no lines
  pub transcript : Ran a b r → IsTranscript f r b.lines.items
  transcript h = record {
    items = h.items;
    outcomes = h.appends.outcomes;
    spelled = h.spelled;
    matched = h.appends.matched;
    is = h.appends.lines ∙ (λ i. empty i ++ outcomes_text (format i) h.appends.outcomes);
  }

  pub first_of : RanPart a b r → IsTranscriptStart f r b.lines.items
  first_of h = record {
    items = h.items;
    outcomes = h.appends.outcomes;
    spelled = h.spelled;
    matched = h.appends.matched;
    is = h.appends.lines ∙ (λ i. empty i ++ outcomes_text (format i) h.appends.outcomes);
  }

  pub text_of_all : Ran a b r → IsConnectionText f r b.lines.items
  text_of_all h = inl (transcript h)

  -- the text of a connection whose reader failed
  pub text_of_failed : RanPart a b r → (text : List ℕ) → text ≡ b.lines.items ++ read_fault_line b.format → IsConnectionText f r text
  text_of_failed h text is = inr (b.lines.items, first_of h, is ∙ ap (λ (q : Format). b.lines.items ++ read_fault_line q) (h.appends.format ∙ format))

  pub transcript_on : {T E : Type 0} (x : Result T E) → OnOk x (Ran a b r) → OnOk x (IsTranscript f r b.lines.items)
  transcript_on (Ok v) h = transcript h
  transcript_on (Err e) h = tt

  pub first_on : {T : Type 0} (x : Result T ScriptFault) → IfErr x (λ e. e ≡ fault.Read → RanPart a b r) → IfErr x (λ e. e ≡ fault.Read → IsTranscriptStart f r b.lines.items)
  first_on (Ok v) h = tt
  first_on (Err e) h = λ is. first_of (h is)

-- The output of a script, by the result of running it and writing its lines.
pub record ScriptEnds (f : Format) (r was now : Option (List ℕ)) (x : Result (Unit {0}) ScriptFault) : Type 0 where
  pub ok : OnOk x (WritesAll f r was now)
  pub read : IfErr x (λ e. e ≡ fault.Read → WritesFirst f r was now)
  pub write : IfErr x (λ e. e ≡ fault.Write → WritesPart f r was now)
  pub fault : IfErr x (λ e. of_script e ≡ true)

module _ (f : Format) (r was now : Option (List ℕ)) (text : List ℕ) where
  script_cut : (g : ScriptFault) → g ≡ fault.Write → IsTranscriptStart f r text → AppendsPart was now text → ScriptEnds f r was now (Err g)
  script_cut g is first part = record {
    ok = tt;
    read = λ read. let same : fault.Write ≡ fault.Read = sym is ∙ read in absurd (cc same);
    write = λ write. (text, first, part);
    fault = ap of_script is;
  }

  pub script_ends : (ran written : Result (Unit {0}) ScriptFault) → OnOk ran (IsTranscript f r text) → IfErr ran (λ e. e ≡ fault.Read → IsTranscriptStart f r text) → IfErr ran (λ e. of_reading e ≡ true)
      → OnOk written (Appends was now text) → OnErr written (AppendsPart was now text) → IfErr written (λ e. e ≡ fault.Write) → ScriptEnds f r was now (first_fault ran written)
  script_ends (Ok x) (Ok y) all first reading wrote part writing = record { ok = (text, all, wrote); read = tt; write = tt; fault = tt }
  script_ends (Ok x) (Err g) all first reading wrote part writing = script_cut g writing (whole_first f r text all) part
  script_ends (Err fault.Read) (Ok y) all first reading wrote part writing = record {
    ok = tt;
    read = λ is. (text, first refl, wrote);
    write = λ is. absurd (cc is);
    fault = refl;
  }
  script_ends (Err fault.Read) (Err g) all first reading wrote part writing = script_cut g writing (first refl) part
  script_ends (Err fault.Write) written all first reading wrote part writing = absurd (cc reading)
  script_ends (Err fault.Settle) written all first reading wrote part writing = absurd (cc reading)
  script_ends (Err fault.OutOfMemory) written all first reading wrote part writing = record {
    ok = tt;
    read = λ is. absurd (cc is);
    write = λ is. absurd (cc is);
    fault = refl;
  }

-- a closed connection has the lines that the connection had
pub closed_text : {E : Type 0} (x : Result Closed E) (f : Format) (r : Option (List ℕ)) (lines : Vec ℕ Global) → IfOk x (λ closed. closed.lines ≡ lines) → IsConnectionText f r lines.items → IsConnectionClosed f r x
closed_text (Ok closed) f r lines same text = subst (λ (v : Vec ℕ Global). IsConnectionText f r v.items) (sym same) text
closed_text (Err e) f r lines same text = tt

-- the texts of the connections, where none was refused memory
texts_closed : (E : Type 0) (f : Format) (readers : List (Option (List ℕ))) (closed : List Closed) → AreClosed {E = E} f readers (map (λ (c : Closed). Ok c) closed) → AreTexts f readers (map (λ (c : Closed). c.lines.items) closed)
texts_closed E f [] [] h = tt
texts_closed E f [] (c ∷ cs) h = absurd h
texts_closed E f (r ∷ rs) [] h = absurd h
texts_closed E f (r ∷ rs) (c ∷ cs) h = (h.0, texts_closed E f rs cs h.1)

pub all_texts : {E : Type 0} (f : Format) (readers : List (Option (List ℕ))) (closed : List Closed) (ran : List (Result Closed E)) → map (λ (c : Closed). Ok c) closed ≡ ran → AreClosed f readers ran → AreTexts f readers (map (λ (c : Closed). c.lines.items) closed)
all_texts {E} f readers closed ran is h = texts_closed E f readers closed (subst (λ (x : List (Result Closed E)). AreClosed f readers x) (sym is) h)

-- the texts that are split off are those of the connections
pub lines_split : (closed : List Closed) → map (λ (v : Vec ℕ Global). v.items) (map (λ (c : Closed). c.lines) closed) ≡ map (λ (c : Closed). c.lines.items) closed
lines_split [] = refl
lines_split (c ∷ cs) = ap (λ (ts : List (List ℕ)). c.lines.items ∷ ts) (lines_split cs)

module _ (f : Format) (count : ℕ) (r : Option (List ℕ)) (readers : List (Option (List ℕ))) (was mid now : Option (List ℕ)) (texts : List (List ℕ)) (passes : List PassHeld) where
  -- the setup's lines were written, and then the rest
  pub run_prints : {T E : Type 0} (x : Result T E) → WritesAll f r was mid → AreTexts f readers texts → OnOk x (Prints f texts count passes mid now) → OnOk x (PrintsRun f count r readers was now)
  run_prints (Ok v) first are rest = (first.0, texts, passes, rest.0, first.1, are, rest.1, appends_more was mid now first.0 (connections_text f 1 texts ++ rest.0) first.2 rest.2)
  run_prints (Err e) first are rest = tt

  -- the setup's lines were written, and then a beginning of the rest
  pub run_cut : {T : Type 0} (x : Result T ScriptFault) → WritesAll f r was mid → AreTexts f readers texts → OnErr x (PrintsPart f texts count passes mid now) → IfErr x (λ e. e ≢ fault.OutOfMemory → PrintsRunPart f count r readers was now)
  run_cut (Ok v) first are rest = tt
  run_cut (Err e) first are rest = λ other. inr (first.0, texts, passes, rest.0, first.1, are, rest.1, part_after was mid now first.0 (connections_text f 1 texts ++ rest.0) first.2 rest.2)

first_part : (f : Format) (r was now : Option (List ℕ)) → WritesFirst f r was now → WritesPart f r was now
first_part f r was now h = (h.0, h.1, (h.0, [], sym (append-nil h.0), h.2))

-- the setup failed
pub setup_cut : (f : Format) (count : ℕ) (r : Option (List ℕ)) (readers : List (Option (List ℕ))) (was now : Option (List ℕ)) (e : ScriptFault) → (e ≡ fault.Read → WritesFirst f r was now) → (e ≡ fault.Write → WritesPart f r was now) → of_script e ≡ true
    → e ≢ fault.OutOfMemory → PrintsRunPart f count r readers was now
setup_cut f count r readers was now fault.Read read write script other = inl (first_part f r was now (read refl))
setup_cut f count r readers was now fault.Write read write script other = inl (write refl)
setup_cut f count r readers was now fault.Settle read write script other = absurd (cc script)
setup_cut f count r readers was now fault.OutOfMemory read write script other = absurd (other refl)

-- a fault that is not the reader's promises nothing of `Read`
pub never_read : {T : Type 0} (P : Type 0) (x : Result T ScriptFault) → IfErr x (λ e. e ≢ fault.Read) → IfErr x (λ e. e ≡ fault.Read → P)
never_read P (Ok v) h = tt
never_read P (Err e) h = λ is. absurd (h is)
