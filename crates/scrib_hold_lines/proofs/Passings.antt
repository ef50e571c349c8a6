-- What is written for what passes at once, and for events that were released.
use Rattle.std.proofs.Common.{◌≡◌, ◌∙◌, ℕ, List, [], ◌∷◌, ◌++◌, map, reverse, Result, Ok, Err, refl, sym, ap, subst}
use Rattle.std.specs.Prelude.{OnOk, OnErr, is_ok, if◌then◌else◌}
use Rattle.std.proofs.lemmas.List.{append_assoc, append-nil, map-append, reverse-append, reverse-reverse}
use Rattle.scrib_core.specs.declared.format.Format.{Format}
use Rattle.scrib_core.specs.declared.step.Step.TheVariants.{Note, Close}
use Rattle.scrib_script_reader.specs.declared.line.Line.TheVariants as line
use Rattle.scrib_script_reader.specs.declared.item.Item.{Item}
use Rattle.scrib_script_reader.specs.declared.entry.Entry.{Entry}
use Rattle.scrib_hold_stage.specs.declared.noted.Noted.{Noted}
use Rattle.scrib_hold.specs.HeldScripts.{Asked, Pending, item_of, closing_item, passing}
use Rattle.scrib_hold.specs.LetOutSoFar.{closing_items}
use Rattle.scrib_hold_lines.specs.declared.staging.Passing.{Passing}
use Rattle.scrib_hold_lines.specs.declared.staging.Passing.TheVariants as passed
use Rattle.scrib_hold_lines.specs.Lines.{WritesItems, WritesItemsPart, IsLineOf, IsTail, put_line, GivesLine, AddsBytes}
use Rattle.scrib_hold_lines.specs.Progress.{IsPassing, IsTextOfEvent, IsPartOf, AreWritten, AreWrittenInPart}
use Rattle.scrib_hold_lines.proofs.SpelledLines.{writes_none, writes_more, writes_step, part_whole, part_more, part_cut}
use Rattle.scrib_hold_lines.proofs.PutTexts.{writes_put}

-- ---- bytes that are added, or not

pub ok_added : {T E : Type 0} (r : Result T E) (old new xs : List ℕ) → new ≡ (if is_ok r then old ++ xs else old) → OnOk r (new ≡ old ++ xs)
ok_added (Ok x) old new xs e = e
ok_added (Err x) old new xs e = tt

pub err_unadded : {T E : Type 0} (r : Result T E) (old new xs : List ℕ) → new ≡ (if is_ok r then old ++ xs else old) → OnErr r (new ≡ old)
err_unadded (Ok x) old new xs e = tt
err_unadded (Err x) old new xs e = e

-- ---- what passes at once

pub writes_passing : (e : Entry) (found : Passing) (l text : List ℕ) → IsPassing e found → GivesLine l e → IsTextOfEvent found l text → WritesItems text (passing e)
writes_passing e passed.Nothing l text p g is = subst (λ (t : List ℕ). WritesItems t (passing e)) (sym is) (subst (λ (items : List Item). WritesItems [] items) (sym p) writes_none)
writes_passing e passed.Line l text p g is = subst (λ (t : List ℕ). WritesItems t (passing e)) (sym is) (p l g)
writes_passing e (passed.Put f put) l text p g is =
    subst (λ (t : List ℕ). WritesItems t (passing e)) (sym is.2)
    (subst (λ (items : List Item). WritesItems (put_line f ++ (put ++ is.0)) items) (sym p.0) (writes_put f put is.0 (p.1 l g) is.1))

pub part_passing : (e : Entry) (found : Passing) (l part : List ℕ) (more : List Item) → IsPassing e found → GivesLine l e → IsPartOf found l part → WritesItemsPart part (passing e ++ more)
part_passing e found l part more p g is = part_cut part is.0 (passing e) more (writes_passing e found l (part ++ is.0) p g is.1)

-- the parts of a put
pub put_part_none : (f : Format) (put tail was now : List ℕ) → IsTail put tail → now ≡ was → AddsBytes (IsPartOf (passed.Put f put) []) was now
put_part_none f put tail was now t same = ([], same ∙ sym (append-nil was), (put_line f ++ (put ++ tail), (tail, t, refl)))

pub put_part_line : (f : Format) (put tail was now : List ℕ) → IsTail put tail → now ≡ was ++ put_line f → AddsBytes (IsPartOf (passed.Put f put) []) was now
put_part_line f put tail was now t is = (put_line f, is, (put ++ tail, (tail, t, refl)))

pub put_part_text : (f : Format) (put tail was now : List ℕ) → IsTail put tail → now ≡ (was ++ put_line f) ++ put → AddsBytes (IsPartOf (passed.Put f put) []) was now
put_part_text f put tail was now t is = (put_line f ++ put, is ∙ append_assoc was (put_line f) put, (tail, (tail, t, append_assoc (put_line f) put tail)))

pub put_whole : (f : Format) (put tail was now : List ℕ) → IsTail put tail → now ≡ ((was ++ put_line f) ++ put) ++ tail → AddsBytes (IsTextOfEvent (passed.Put f put) []) was now
put_whole f put tail was now t is = (
  put_line f ++ (put ++ tail),
  is ∙ append_assoc (was ++ put_line f) put tail ∙ append_assoc was (put_line f) (put ++ tail),
  (tail, t, refl),
)

pub nothing_added : (l was : List ℕ) → AddsBytes (IsTextOfEvent passed.Nothing l) was was
nothing_added l was = ([], sym (append-nil was), refl)

pub line_added : (l was now : List ℕ) → now ≡ was ++ l → AddsBytes (IsTextOfEvent passed.Line l) was now
line_added l was now is = (l, is, refl)

pub line_unadded : (l was now : List ℕ) → now ≡ was → AddsBytes (IsPartOf passed.Line l) was now
line_unadded l was now same = ([], same ∙ sym (append-nil was), (l, refl))

-- ---- events that were released

pub written_event : (x : Noted Asked) (text was now : List ℕ) → IsLineOf text (line.Step x.arrival.1 (Note x.conversation x.arrival.0)) → now ≡ was ++ text → AreWritten (item_of x ∷ []) was now
written_event x text was now h is = (text, is, writes_step text x.arrival.1 (Note x.conversation x.arrival.0) h)

-- The events that were released are written in order; those left are kept in the other order.
pub record ReleasedSoFar (all left : List (Noted Asked)) (was now : List ℕ) : Type 0 where
  pub done : List (Noted Asked)
  pub all_are : all ≡ done ++ reverse left
  pub written : AreWritten (map item_of done) was now

pub released_none : (all left : List (Noted Asked)) (was : List ℕ) → left ≡ reverse all → ReleasedSoFar all left was was
released_none all left was is = record {
  done = [];
  all_are = sym (reverse-reverse all) ∙ ap reverse (sym is);
  written = ([], sym (append-nil was), writes_none);
}

popped : (left now : List (Noted Asked)) (x : Noted Asked) → left ≡ now ++ x ∷ [] → reverse left ≡ x ∷ reverse now
popped left now x is = ap reverse is ∙ reverse-append now (x ∷ [])

pub released_one : (all left after : List (Noted Asked)) (x : Noted Asked) (was mid now : List ℕ) → ReleasedSoFar all left was mid → left ≡ after ++ x ∷ [] → AreWritten (item_of x ∷ []) mid now
    → ReleasedSoFar all after was now
released_one all left after x was mid now s is w = record {
  done = s.done ++ x ∷ [];
  all_are = s.all_are ∙ ap (λ (t : List (Noted Asked)). s.done ++ t) (popped left after x is) ∙ sym (append_assoc s.done (x ∷ []) (reverse after));
  written = (
    s.written.0 ++ w.0,
    w.1 ∙ ap (λ (t : List ℕ). t ++ w.0) s.written.1 ∙ append_assoc was s.written.0 w.0,
    subst (λ (items : List Item). WritesItems (s.written.0 ++ w.0) items) (sym (map-append item_of s.done (x ∷ [])))
        (writes_more s.written.0 w.0 (map item_of s.done) (item_of x ∷ []) s.written.2 w.2),
  );
}

pub released_part : (all left : List (Noted Asked)) (was mid now : List ℕ) → ReleasedSoFar all left was mid → now ≡ mid → AreWrittenInPart (map item_of all) was now
released_part all left was mid now s same = (
  s.written.0,
  same ∙ s.written.1,
  subst (λ (items : List Item). WritesItemsPart s.written.0 items) (sym (ap (map item_of) s.all_are ∙ map-append item_of s.done (reverse left)))
      (part_whole s.written.0 (map item_of s.done) (map item_of (reverse left)) s.written.2),
)

pub released_all : (all left : List (Noted Asked)) (was now : List ℕ) → ReleasedSoFar all left was now → left ≡ [] → AreWritten (map item_of all) was now
released_all all left was now s none =
    let is : all ≡ s.done = s.all_are ∙ ap (λ (t : List (Noted Asked)). s.done ++ reverse t) none ∙ append-nil s.done in
    subst (λ (t : List (Noted Asked)). AreWritten (map item_of t) was now) (sym is) s.written

-- ---- closings, one after another

pub written_closing : (c : Pending) (text was now : List ℕ) → IsLineOf text (line.Step c.line (Close c.conversation)) → now ≡ was ++ text → AreWritten (closing_item c ∷ []) was now
written_closing c text was now h is = (text, is, writes_step text c.line (Close c.conversation) h)

-- what was released, and then the closing
pub written_closed : (c : Pending) (released : List (Noted Asked)) (was mid now : List ℕ) → AreWritten (map item_of released) was mid → AreWritten (closing_item c ∷ []) mid now → AreWritten (closing_items c released) was now
written_closed c released was mid now v w = (
  v.0 ++ w.0,
  w.1 ∙ ap (λ (t : List ℕ). t ++ w.0) v.1 ∙ append_assoc was v.0 w.0,
  writes_more v.0 w.0 (map item_of released) (closing_item c ∷ []) v.2 w.2,
)

pub closed_unreleased : (c : Pending) (released : List (Noted Asked)) (was now : List ℕ) → AreWrittenInPart (map item_of released) was now → AreWrittenInPart (closing_items c released) was now
closed_unreleased c released was now p = (p.0, p.1, part_more p.0 (map item_of released) (closing_item c ∷ []) p.2)

pub closed_unwritten : (c : Pending) (released : List (Noted Asked)) (was mid now : List ℕ) → AreWritten (map item_of released) was mid → now ≡ mid → AreWrittenInPart (closing_items c released) was now
closed_unwritten c released was mid now v same = (v.0, same ∙ v.1, part_whole v.0 (map item_of released) (closing_item c ∷ []) v.2)

-- the first closings were written, and these are left
pub record ClosedSoFar (all left : List Pending) (was now : List ℕ) : Type 0 where
  pub done : List Pending
  pub all_are : all ≡ done ++ left
  pub written : AreWritten (map closing_item done) was now

pub closed_none : (all : List Pending) (was : List ℕ) → ClosedSoFar all all was was
closed_none all was = record { done = []; all_are = refl; written = ([], sym (append-nil was), writes_none) }

pub closed_one : (all left after : List Pending) (c : Pending) (was mid now : List ℕ) → ClosedSoFar all left was mid → left ≡ c ∷ after → AreWritten (closing_item c ∷ []) mid now → ClosedSoFar all after was now
closed_one all left after c was mid now s is w = record {
  done = s.done ++ c ∷ [];
  all_are = s.all_are ∙ ap (λ (l : List Pending). s.done ++ l) is ∙ sym (append_assoc s.done (c ∷ []) after);
  written = (
    s.written.0 ++ w.0,
    w.1 ∙ ap (λ (t : List ℕ). t ++ w.0) s.written.1 ∙ append_assoc was s.written.0 w.0,
    subst (λ (items : List Item). WritesItems (s.written.0 ++ w.0) items) (sym (map-append closing_item s.done (c ∷ [])))
        (writes_more s.written.0 w.0 (map closing_item s.done) (closing_item c ∷ []) s.written.2 w.2),
  );
}

pub closed_part : (all left : List Pending) (was mid now : List ℕ) → ClosedSoFar all left was mid → now ≡ mid → AreWrittenInPart (map closing_item all) was now
closed_part all left was mid now s same = (
  s.written.0,
  same ∙ s.written.1,
  subst (λ (items : List Item). WritesItemsPart s.written.0 items) (sym (ap (map closing_item) s.all_are ∙ map-append closing_item s.done left))
      (part_whole s.written.0 (map closing_item s.done) (map closing_item left) s.written.2),
)

pub closed_all : (all left : List Pending) (was now : List ℕ) → ClosedSoFar all left was now → left ≡ [] → AreWritten (map closing_item all) was now
closed_all all left was now s none =
    let is : all ≡ s.done = s.all_are ∙ ap (λ (l : List Pending). s.done ++ l) none ∙ append-nil s.done in
    subst (λ (l : List Pending). AreWritten (map closing_item l) was now) (sym is) s.written
