-- The lines, the count and the buffer of a connection after several calls.
use Rattle.std.proofs.Common.{◌≡◌, ◌∙◌, inr, ℕ, List, [], ◌∷◌, ◌++◌, length, Result, Ok, Err, refl, sym, ap, subst}
use Rattle.std.specs.Prelude.{OnOk}
use Rattle.std.specs.List.{AllZip}
use Rattle.std.proofs.lemmas.List.{append_assoc, append-nil}
use Rattle.std.proofs.lemmas.List.Sums.{fold-append}
use Rattle.scrib_core.specs.declared.format.Format.{Format}
use Rattle.scrib_core.specs.declared.format.Format.TheVariants as format
use Rattle.scrib_script_reader.specs.declared.item.Item.{Item}
use Rattle.scrib_script_reader.specs.declared.item.Item.TheVariants as item
use Rattle.scrib_core.specs.declared.step.Step.TheVariants as step
use Rattle.scrib_run_service.specs.declared.connection.Connection.{Connection}
use Rattle.scrib_types.specs.declared.event.Event.{Event}
use Rattle.scrib_library.specs.Holdings.{Holdings, IsAccepting}
use Rattle.scrib_core.specs.Held.{Records}
use Rattle.scrib_locked_steps.specs.declared.pass_calls.PassRefusal.{PassRefusal}
use Rattle.scrib_core.specs.declared.conversation_steps.Noted.{Noted}
use Rattle.scrib_locked_steps.specs.OneByOne.{OneByOne}
use Rattle.scrib_locked_steps.specs.Passes.{PassHeld}
use Rattle.scrib_locked_steps.specs.Passing.{AnswersBy}
use Rattle.scrib_shards.specs.Called.{AreAnsweredSome}
use Rattle.scrib_run_service.specs.Outcomes.{Outcome, outcome_text, outcomes_text, count_one, count_all, IsOutcome, note_items, noted_outcomes, pending_items, Adds, Yields, TakesItems, Appends}

text_more : (o : Format) (xs ys : List Outcome) → outcomes_text o (xs ++ ys) ≡ outcomes_text o xs ++ outcomes_text o ys
text_more o [] ys = refl
text_more o (x ∷ xs) ys =
    ap (λ (t : List ℕ). outcome_text o x ++ t) (text_more o xs ys) ∙ sym (append_assoc (outcome_text o x) (outcomes_text o xs) (outcomes_text o ys))

lines_more : (o p : Format) (la lb lc : List ℕ) (xs ys : List Outcome) → p ≡ o → lb ≡ la ++ outcomes_text o xs → lc ≡ lb ++ outcomes_text p ys → lc ≡ la ++ outcomes_text o (xs ++ ys)
lines_more o p la lb lc xs ys same first second =
    let both : lb ++ outcomes_text p ys ≡ (la ++ outcomes_text o xs) ++ outcomes_text o ys = λ i. first i ++ outcomes_text (same i) ys in
    second ∙ both ∙ append_assoc la (outcomes_text o xs) (outcomes_text o ys) ∙ ap (λ (t : List ℕ). la ++ t) (sym (text_more o xs ys))

count_more : (na nb nc : ℕ) (xs ys : List Outcome) → nb ≡ count_all na xs → nc ≡ count_all nb ys → nc ≡ count_all na (xs ++ ys)
count_more na nb nc xs ys first second = second ∙ ap (λ (n : ℕ). count_all n ys) first ∙ sym (fold-append count_one na xs ys)

matched_more : (is js : List Item) (xs ys : List Outcome) → AllZip IsOutcome is xs → AllZip IsOutcome js ys → AllZip IsOutcome (is ++ js) (xs ++ ys)
matched_more [] js [] ys p q = q
matched_more [] js (x ∷ xs) ys p q = absurd p
matched_more (i ∷ is) js [] ys p q = absurd p
matched_more (i ∷ is) js (x ∷ xs) ys p q = (p.0, matched_more is js xs ys p.1 q)

pub notes_more : (id : ℕ) (es fs : List Event) → note_items id (es ++ fs) ≡ note_items id es ++ note_items id fs
notes_more id [] fs = refl
notes_more id (e ∷ es) fs = ap (λ (t : List Item). item.Step format.Line (step.Note id e) ∷ t) (notes_more id es fs)

pub adds_none : (c : Connection) → Adds c c []
adds_none c = record { format = refl; lines = sym (append-nil c.lines.items); noted = refl; pending = refl; pending_id = refl }

pub adds_more : (a b c : Connection) (xs ys : List Outcome) → Adds a b xs → Adds b c ys → Adds a c (xs ++ ys)
adds_more a b c xs ys p q = record {
  format = q.format ∙ p.format;
  lines = lines_more a.format b.format a.lines.items b.lines.items c.lines.items xs ys p.format p.lines q.lines;
  noted = count_more a.noted b.noted c.noted xs ys p.noted q.noted;
  pending = q.pending ∙ p.pending;
  pending_id = q.pending_id ∙ p.pending_id;
}

pub yields_none : (c : Connection) → Yields c c []
yields_none c = record { outcomes = []; matched = tt; adds = adds_none c }

pub yields_more : (a b c : Connection) (is js : List Item) → Yields a b is → Yields b c js → Yields a c (is ++ js)
yields_more a b c is js p q = record {
  outcomes = p.outcomes ++ q.outcomes;
  matched = matched_more is js p.outcomes q.outcomes p.matched q.matched;
  adds = adds_more a b c p.outcomes q.outcomes p.adds q.adds;
}

pub takes_none : (c : Connection) → TakesItems c c []
takes_none c = record {
  done = [];
  outcomes = [];
  order = append-nil (pending_items c);
  matched = tt;
  format = refl;
  lines = sym (append-nil c.lines.items);
  noted = refl;
}

pub takes_more : (a b c : Connection) (is js : List Item) → TakesItems a b is → TakesItems b c js → TakesItems a c (is ++ js)
takes_more a b c is js p q = record {
  done = p.done ++ q.done;
  outcomes = p.outcomes ++ q.outcomes;
  order = sym (append_assoc (pending_items a) is js) ∙ ap (λ (t : List Item). t ++ js) p.order ∙ append_assoc p.done (pending_items b) js
      ∙ ap (λ (t : List Item). p.done ++ t) q.order ∙ sym (append_assoc p.done q.done (pending_items c));
  matched = matched_more p.done q.done p.outcomes q.outcomes p.matched q.matched;
  format = q.format ∙ p.format;
  lines = lines_more a.format b.format a.lines.items b.lines.items c.lines.items p.outcomes q.outcomes p.format p.lines q.lines;
  noted = count_more a.noted b.noted c.noted p.outcomes q.outcomes p.noted q.noted;
}

none_pending : (c : Connection) → c.pending.items ≡ [] → pending_items c ≡ []
none_pending c none = ap (note_items c.pending_id) none

-- items that have outcomes were taken, if the buffer was empty
pub takes_yielded : (a b : Connection) (is : List Item) → a.pending.items ≡ [] → Yields a b is → TakesItems a b is
takes_yielded a b is none h =
    let before = none_pending a none in
    let after = none_pending b (h.adds.pending ∙ none) in
    record {
      done = is;
      outcomes = h.outcomes;
      order = ap (λ (t : List Item). t ++ is) before ∙ sym (append-nil is) ∙ ap (λ (t : List Item). is ++ t) (sym after);
      matched = h.matched;
      format = h.adds.format;
      lines = h.adds.lines;
      noted = h.adds.noted;
    }

-- the buffer was emptied and its events noted
pub takes_flushed : (a m b : Connection) → m.format ≡ a.format → m.lines.items ≡ a.lines.items → m.noted ≡ a.noted → m.pending.items ≡ [] → Yields m b (pending_items a) → TakesItems a b []
takes_flushed a m b format lines noted none h =
    let after = none_pending b (h.adds.pending ∙ none) in
    record {
      done = pending_items a;
      outcomes = h.outcomes;
      order = ap (λ (t : List Item). pending_items a ++ t) (sym after);
      matched = h.matched;
      format = h.adds.format ∙ format;
      lines = h.adds.lines ∙ (λ i. lines i ++ outcomes_text (format i) h.outcomes);
      noted = h.adds.noted ∙ ap (λ (n : ℕ). count_all n h.outcomes) noted;
    }

-- the one event of the buffer was taken out, and noted if the call returned `Ok`
pub takes_single : {T E : Type 0} (r : Result T E) (a m b : Connection) (e : Event) → m.format ≡ a.format → m.lines.items ≡ a.lines.items → m.noted ≡ a.noted → m.pending.items ≡ [] → a.pending.items ≡ m.pending.items ++ e ∷ []
    → OnOk r (Yields m b (note_items a.pending_id (e ∷ []))) → OnOk r (TakesItems a b [])
takes_single (Ok v) a m b e format lines noted none was h =
    let all : a.pending.items ≡ e ∷ [] = was ∙ ap (λ (xs : List Event). xs ++ e ∷ []) none in
    takes_flushed a m b format lines noted none (subst (λ (es : List Event). Yields m b (note_items a.pending_id es)) (sym all) h)
takes_single (Err f) a m b e format lines noted none was h = tt

-- the buffer is still empty then
pub none_flushed : (m b : Connection) (is : List Item) → m.pending.items ≡ [] → Yields m b is → b.pending.items ≡ []
none_flushed m b is none h = h.adds.pending ∙ none

-- an empty buffer may change its conversation
pub takes_turned : (a m b : Connection) (is : List Item) → TakesItems a m is → m.pending.items ≡ [] → b.pending.items ≡ [] → b.format ≡ m.format → b.lines.items ≡ m.lines.items → b.noted ≡ m.noted → TakesItems a b is
takes_turned a m b is h none still format lines noted = record {
  done = h.done;
  outcomes = h.outcomes;
  order = h.order ∙ ap (λ (t : List Item). h.done ++ t) (none_pending m none ∙ sym (none_pending b still));
  matched = h.matched;
  format = format ∙ h.format;
  lines = lines ∙ h.lines;
  noted = noted ∙ h.noted;
}

-- an event was put into the buffer
pub takes_pushed : (a b : Connection) (id : ℕ) (e : Event) → a.pending_id ≡ id → b.pending_id ≡ id → b.pending.items ≡ a.pending.items ++ e ∷ [] → b.format ≡ a.format → b.lines.items ≡ a.lines.items → b.noted ≡ a.noted
    → TakesItems a b (note_items id (e ∷ []))
takes_pushed a b id e was is pushed format lines noted =
    let before : pending_items a ≡ note_items id a.pending.items = ap (λ (n : ℕ). note_items n a.pending.items) was in
    let after : pending_items b ≡ note_items id (a.pending.items ++ e ∷ []) = λ i. note_items (is i) (pushed i) in
    record {
      done = [];
      outcomes = [];
      order = ap (λ (t : List Item). t ++ note_items id (e ∷ [])) before ∙ sym (notes_more id a.pending.items (e ∷ [])) ∙ sym after;
      matched = tt;
      format = format;
      lines = lines ∙ sym (append-nil a.lines.items);
      noted = noted;
    }

-- two connections that differ in their passes alone
pub record DifferInPasses (a b : Connection) : Type 0 where
  pub format : b.format ≡ a.format
  pub lines : b.lines.items ≡ a.lines.items
  pub noted : b.noted ≡ a.noted
  pub pending : b.pending.items ≡ a.pending.items
  pub pending_id : b.pending_id ≡ a.pending_id

adds_from : (a m b : Connection) (xs : List Outcome) → DifferInPasses a m → Adds m b xs → Adds a b xs
adds_from a m b xs same h = record {
  format = h.format ∙ same.format;
  lines = h.lines ∙ (λ i. same.lines i ++ outcomes_text (same.format i) xs);
  noted = h.noted ∙ ap (λ (n : ℕ). count_all n xs) same.noted;
  pending = h.pending ∙ same.pending;
  pending_id = h.pending_id ∙ same.pending_id;
}

-- an item has an outcome, if a call that returned `Ok` added one that it may have
pub yields_one : {T E : Type 0} (r : Result T E) (a m b : Connection) (i : Item) (x : Outcome) → IsOutcome i x → DifferInPasses a m → OnOk r (Adds m b (x ∷ [])) → OnOk r (Yields a b (i ∷ []))
yields_one (Ok v) a m b i x is same h = record { outcomes = x ∷ []; matched = (is, tt); adds = adds_from a m b (x ∷ []) same h }
yields_one (Err e) a m b i x is same h = tt

replies_among : (id : ℕ) (h : Holdings) (s t : Records × PassHeld) (es : List Event) (rs : List (Result Noted PassRefusal)) → IsAccepting h → OneByOne (AnswersBy h) s es rs t → AllZip IsOutcome (note_items id es) (noted_outcomes id rs)
replies_among id h s t [] [] accepting x = tt
replies_among id h s t [] (r ∷ rs) accepting x = absurd x
replies_among id h s t (e ∷ es) [] accepting x = absurd x
replies_among id h s t (e ∷ es) (r ∷ rs) accepting x = ((refl, refl, inr (r, refl, (h, s, x.0, accepting, x.1))), replies_among id h x.0 t es rs accepting x.2)

-- the notes of events have outcomes, if a call that returned `Ok` added the replies to them, made together
pub yields_among : {T E : Type 0} (r : Result T E) (a m b : Connection) (id : ℕ) (p q : PassHeld) (es : List Event) (rs : List (Result Noted PassRefusal)) → AreAnsweredSome p es rs q → DifferInPasses a m → OnOk r (Adds m b (noted_outcomes id rs))
    → OnOk r (Yields a b (note_items id es))
yields_among (Ok v) a m b id p q es rs is same h = record { outcomes = noted_outcomes id rs; matched = replies_among id is.0 (is.1, p) (is.2, q) es rs is.3 is.4; adds = adds_from a m b (noted_outcomes id rs) same h }
yields_among (Err e) a m b id p q es rs is same h = tt

-- after a flush, one more item is taken
pub takes_one : {T E : Type 0} (r : Result T E) (a m b : Connection) (is : List Item) → TakesItems a m [] → m.pending.items ≡ [] → OnOk r (Yields m b is) → OnOk r (TakesItems a b is)
takes_one (Ok v) a m b is before none h = takes_more a m b [] is before (takes_yielded m b is none h)
takes_one (Err e) a m b is before none h = tt

-- a larger capacity of the buffer changes nothing
pub takes_renewed : (a m b : Connection) (is : List Item) → m.format ≡ a.format → m.lines.items ≡ a.lines.items → m.noted ≡ a.noted → m.pending_id ≡ a.pending_id → m.pending.items ≡ a.pending.items → TakesItems m b is → TakesItems a b is
takes_renewed a m b is format lines noted id pending h =
    let same : pending_items m ≡ pending_items a = λ i. note_items (id i) (pending i) in
    record {
      done = h.done;
      outcomes = h.outcomes;
      order = ap (λ (t : List Item). t ++ is) (sym same) ∙ h.order;
      matched = h.matched;
      format = h.format ∙ format;
      lines = h.lines ∙ (λ i. lines i ++ outcomes_text (format i) h.outcomes);
      noted = h.noted ∙ ap (λ (n : ℕ). count_all n h.outcomes) noted;
    }

-- a loop over outcomes, and one over items: the next one, and those that are left
pub adds_next : (a m b last : Connection) (x : Outcome) (xs all : List Outcome) → ((u : Connection) → Adds m u (x ∷ xs) → Adds a u all) → Adds m b (x ∷ []) → Adds b last xs → Adds a last all
adds_next a m b last x xs all so_far one rest = so_far last (adds_more m b last (x ∷ []) xs one rest)

pub yields_next : (a m b last : Connection) (i : Item) (is all : List Item) → ((u : Connection) → Yields m u (i ∷ is) → Yields a u all) → Yields m b (i ∷ []) → Yields b last is → Yields a last all
yields_next a m b last i is all so_far one rest = so_far last (yields_more m b last (i ∷ []) is one rest)

-- a list of length 0 is empty
pub none_left : {A : Type 0} (xs : List A) → length xs ≡ 0 → xs ≡ []
none_left [] is = refl
none_left (x ∷ xs) is = cc is

-- all items have their outcomes, if the buffer was empty and is empty again
all_done : (is done before after : List Item) → before ≡ [] → after ≡ [] → before ++ (is ++ []) ≡ done ++ after → done ≡ is
all_done is done before after none left order =
    sym (append-nil done) ∙ ap (λ (t : List Item). done ++ t) (sym left) ∙ sym order ∙ ap (λ (t : List Item). t ++ (is ++ [])) none ∙ append-nil is

-- items were taken, and then the buffer was flushed
pub appends_taken : (a m b : Connection) (is : List Item) → a.pending.items ≡ [] → TakesItems a m is → TakesItems m b [] → b.pending.items ≡ [] → Appends a b is
appends_taken a m b is none took flushed left =
    let t = takes_more a m b is [] took flushed in
    let all : t.done ≡ is = all_done is t.done (pending_items a) (pending_items b) (none_pending a none) (none_pending b left) t.order in
    record {
      outcomes = t.outcomes;
      matched = subst (λ (d : List Item). AllZip IsOutcome d t.outcomes) all t.matched;
      format = t.format;
      lines = t.lines;
      none = left;
    }

pub appends_none : (c : Connection) → c.pending.items ≡ [] → Appends c c []
appends_none c none = record { outcomes = []; matched = tt; format = refl; lines = sym (append-nil c.lines.items); none = none }

pub appends_more : (a b c : Connection) (is js : List Item) → Appends a b is → Appends b c js → Appends a c (is ++ js)
appends_more a b c is js p q = record {
  outcomes = p.outcomes ++ q.outcomes;
  matched = matched_more is js p.outcomes q.outcomes p.matched q.matched;
  format = q.format ∙ p.format;
  lines = lines_more a.format b.format a.lines.items b.lines.items c.lines.items p.outcomes q.outcomes p.format p.lines q.lines;
  none = q.none;
}

-- the count of noted events may be taken after that
pub appends_counted : (a m b : Connection) (is : List Item) → Appends a m is → b.format ≡ m.format → b.lines.items ≡ m.lines.items → b.pending.items ≡ m.pending.items → Appends a b is
appends_counted a m b is h format lines pending = record {
  outcomes = h.outcomes;
  matched = h.matched;
  format = format ∙ h.format;
  lines = lines ∙ h.lines;
  none = pending ∙ h.none;
}
