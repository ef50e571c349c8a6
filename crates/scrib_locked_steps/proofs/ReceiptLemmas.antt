-- Receipts that agree with a log, and the receipt of a note.
use Rattle.std.proofs.Common.{◌≡◌, ℕ, zero, suc, ◌+◌, ◌-◌, ◌<◌, ◌≤◌, ◌&&◌, Bool, true, false, List, [], ◌∷◌, ◌++◌, length, drop, Option, Some, None, All, slice_get, get_or, option_to_list, option_map, nat_lt, refl, sym, ap, subst, ◌∙◌, arith, length-append, true≢false, ltb-true, lt-ltb}
use Rattle.std.proofs.Math.ListN.{get_or-append}
use Rattle.std.proofs.Math.Seq.{drop-append_seam}
use Rattle.std.proofs.lemmas.Option.{slice_get_within, get_or_from_slice_get, slice_get-get_or}
use Rattle.std.proofs.lemmas.List.{get_or_push}
use Rattle.std.proofs.lemmas.List.Elements.{All-nil, All-cons, All-head}
use Rattle.scrib_types.specs.declared.event.Event.{Event}
use Rattle.scrib_types.specs.declared.event.Told.{Told}
use Rattle.scrib_types.specs.declared.event.Told.TheVariants.{Stale, Judged}
use Rattle.scrib_record.specs.declared.version.Version.{Version}
use Rattle.scrib_record.specs.Stale.{Recorded}
use Rattle.scrib_record.specs.Told.{IsReported}
use Rattle.scrib_record.specs.Versions.{meaning_of}
use Rattle.scrib_library.specs.Holdings.{Holdings}
use Rattle.scrib_core.specs.Held.{Records, record_at}
use Rattle.scrib_locked_steps.specs.declared.pass.Receipt.{Receipt}
use Rattle.scrib_core.specs.declared.conversation_steps.Noted.{Noted}
use Rattle.scrib_locked_steps.specs.Shards.{log_at, log_in}
use Rattle.scrib_locked_steps.specs.Receipts.{entry_at, AgreesWith}
use Rattle.scrib_locked_steps.specs.Passes.{PassHeld, rises, newest_of, IsVerdictOn, IsReceipted, IsAnsweredOn}
use Rattle.scrib_locked_steps.specs.Passing.{IsAskedBy}
use Rattle.scrib_locked_steps.specs.Noting.{IsNotedIn}

-- ---- places of a log

slice_get_more : (xs ys : List Event) (i : ℕ) (x : Event) → slice_get xs i ≡ Some x → slice_get (xs ++ ys) i ≡ Some x
slice_get_more xs ys i x p =
    let within : i < length xs = slice_get_within xs i x p in
    let longer : i < length (xs ++ ys) = omega (arith, length-append xs ys) in
    slice_get-get_or (xs ++ ys) i x longer ∙ ap Some (get_or-append xs ys x i within ∙ get_or_from_slice_get xs i x x p)

some_entry : (o : Option Event) (e : Event) → option_to_list o ≡ e ∷ [] → o ≡ Some e
some_entry None e p = let q : [] ≡ e ∷ [] = p in cc
some_entry (Some x) e p = let q : x ∷ [] ≡ e ∷ [] = p in cc

agrees_more : (place : ℕ) (log : List Event) (e x : Event) → entry_at place log ≡ e ∷ [] → entry_at place (log ++ x ∷ []) ≡ e ∷ []
agrees_more zero log e x p = p
agrees_more (suc k) log e x p = ap option_to_list (slice_get_more log (x ∷ []) k e (some_entry (slice_get log k) e p))

agrees_within : (place : ℕ) (log : List Event) (e : Event) → entry_at place log ≡ e ∷ [] → place ≤ length log
agrees_within zero log e p = omega arith
agrees_within (suc k) log e p = let within : k < length log = slice_get_within log k e (some_entry (slice_get log k) e p) in omega arith

ends_with : (log : List Event) (e : Event) (place : ℕ) → place ≡ length log + 1 → entry_at place (log ++ e ∷ []) ≡ e ∷ []
ends_with log e place is =
    let last : slice_get (log ++ e ∷ []) (length log) ≡ Some e = slice_get-get_or (log ++ e ∷ []) (length log) e (omega (arith, length-append log (e ∷ []))) ∙ ap Some (get_or_push log e e (length log) refl) in
    let at : place ≡ suc (length log) = omega arith in
    subst (λ (n : ℕ). entry_at n (log ++ e ∷ []) ≡ e ∷ []) (sym at) (ap option_to_list last)

-- ---- places that rise

and_parts : (a b : Bool) → (a && b) ≡ true → (a ≡ true) × (b ≡ true)
and_parts true b p = (refl, p)
and_parts false b p = absurd (true≢false (sym p))

-- no place is above the newest
newest_highest : (floor n : ℕ) (rs : List Receipt) → rises floor rs ≡ true → All (λ r. r.place ≤ n) (newest_of rs) → All (λ r. r.place ≤ n) rs
newest_highest floor n [] p all = all
newest_highest floor n (r ∷ []) p all = all
newest_highest floor n (r ∷ q ∷ rs) p all =
    let at : length (r ∷ q ∷ rs) - 1 ≡ suc (length (q ∷ rs) - 1) = omega arith in
    let tail : rises r.place (q ∷ rs) ≡ true = (and_parts (nat_lt floor r.place) (rises r.place (q ∷ rs)) p).1 in
    let below : r.place < q.place = ltb-true r.place q.place (and_parts (nat_lt r.place q.place) (rises q.place rs) tail).0 in
    let rest : All (λ (x : Receipt). x.place ≤ n) (q ∷ rs) = newest_highest r.place n (q ∷ rs) tail (subst (λ (i : ℕ). All (λ (x : Receipt). x.place ≤ n) (drop i (r ∷ q ∷ rs))) at all) in
    let next : q.place ≤ n = All-head (λ (x : Receipt). x.place ≤ n) q rs rest in
    All-cons (λ (x : Receipt). x.place ≤ n) r (q ∷ rs) (omega arith) rest

-- a receipt above all others keeps the places rising
pub rises_push : (floor : ℕ) (rs : List Receipt) (r : Receipt) → rises floor rs ≡ true → floor < r.place → All (λ q. q.place < r.place) rs → rises floor (rs ++ r ∷ []) ≡ true
rises_push floor [] r p above all = rw (lt-ltb floor r.place above) refl
rises_push floor (q ∷ rs) r p above all =
    let parts = and_parts (nat_lt floor q.place) (rises q.place rs) p in
    let first : q.place < r.place = All-head (λ (x : Receipt). x.place < r.place) q rs all in
    let rest : rises q.place (rs ++ r ∷ []) ≡ true = rises_push q.place rs r parts.1 first (λ k d below. all (suc k) d (omega arith)) in
    rw parts.0 rest

-- ---- the verdict

reported_verdict : (present : Option Version) (r : Recorded) (answer : Told) → IsReported present r answer → IsVerdictOn r.log answer
reported_verdict present r Stale h = tt
reported_verdict present r (Judged v) h = (option_map meaning_of present, h.2)

log_there : (rs : Records) (id : ℕ) (r : Recorded) → record_at rs id ≡ Some r → log_at rs id ≡ r.log
log_there rs id r e = ap log_in e

abbrev pub receipt_of : Noted → Event → Receipt
receipt_of n e = record { place = n.place; event = e }

-- ---- a note in a record

-- the receipt appended last is the newest
newest_pushed : (rs : List Receipt) (r : Receipt) → newest_of (rs ++ r ∷ []) ≡ r ∷ []
newest_pushed rs r =
    let at : length (rs ++ r ∷ []) - 1 ≡ length rs = omega (arith, length-append rs (r ∷ [])) in
    ap (λ (i : ℕ). drop i (rs ++ r ∷ [])) at ∙ drop-append_seam rs (r ∷ [])

module _ (present : Option Version) (before : Recorded) (p : PassHeld) (e : Event) (n : Noted) (after : Recorded)
    (stood : All (AgreesWith before.log) (newest_of p.receipts)) (noted : IsNotedIn present before e n after) where
  longer : length after.log ≡ length before.log + 1
  longer = ap length noted.noted.log ∙ length-append before.log (e ∷ [])

  -- the event is the last entry
  ended : entry_at n.place after.log ≡ e ∷ []
  ended = subst (λ (l : List Event). entry_at n.place l ≡ e ∷ []) (sym noted.noted.log) (ends_with before.log e n.place (omega (arith, noted.place_is, longer)))

  -- each earlier place is below that of the note
  above : rises 0 p.receipts ≡ true → All (λ r. r.place < n.place) p.receipts
  above rise k d below =
      let newest : All (λ (r : Receipt). r.place ≤ length before.log) (newest_of p.receipts) =
      λ i c h. agrees_within (get_or (newest_of p.receipts) i c).place before.log (get_or (newest_of p.receipts) i c).event (stood i c h) in
      let high : (get_or p.receipts k d).place ≤ length before.log = newest_highest 0 (length before.log) p.receipts rise newest k d below in
      omega (arith, noted.place_is, longer)

  receipted : rises 0 p.receipts ≡ true → IsReceipted p e n (record { conversation = p.conversation; opening = p.opening; receipts = p.receipts ++ receipt_of n e ∷ [] })
  receipted rise = record {
    added = refl;
    above = above rise;
    log = after.log;
    place = noted.place_is;
    ends = ended;
    stood = λ i c h. subst (λ (l : List Event). AgreesWith l (get_or (newest_of p.receipts) i c)) (sym noted.noted.log)
        (agrees_more (get_or (newest_of p.receipts) i c).place before.log (get_or (newest_of p.receipts) i c).event e (stood i c h));
    verdict = reported_verdict present after n.told noted.noted.told;
  }

same_held : (c d m n : ℕ) (rs ss : List Receipt) → c ≡ d → m ≡ n → rs ≡ ss
    → (let p : PassHeld = record { conversation = c; opening = m; receipts = rs } in let q : PassHeld = record { conversation = d; opening = n; receipts = ss } in p ≡ q)
same_held c d m n rs ss e g f = λ i. let p : PassHeld = record { conversation = e i; opening = g i; receipts = f i } in p

-- the fields of a pass after a note that added a receipt
module _ (present : Option Version) (before : Recorded) (p : PassHeld) (conversation opening : ℕ) (old new : List Receipt) (e kept : Event) (n : Noted) (after : Recorded)
    (view : (let q : PassHeld = record { conversation = conversation; opening = opening; receipts = old } in q ≡ p)) (pushed : new ≡ old ++ receipt_of n kept ∷ []) (copied : kept ≡ e)
    (rise : rises 0 old ≡ true) (stood : All (AgreesWith before.log) (newest_of p.receipts)) (noted : IsNotedIn present before e n after) where
  rises_before : rises 0 p.receipts ≡ true
  rises_before = subst (λ (q : PassHeld). rises 0 q.receipts ≡ true) view rise

  same_receipts : p.receipts ++ receipt_of n e ∷ [] ≡ new
  same_receipts =
      ap (λ (x : Event). p.receipts ++ receipt_of n x ∷ []) (sym copied)
      ∙ ap (λ (q : PassHeld). q.receipts ++ receipt_of n kept ∷ []) (sym view) ∙ sym pushed

  pub pass_rises : rises 0 new ≡ true
  pass_rises =
      let positive : 0 < n.place = omega (arith, noted.place_is, longer present before p e n after stood noted) in
      subst (λ (xs : List Receipt). rises 0 xs ≡ true) same_receipts
      (rises_push 0 p.receipts (receipt_of n e) rises_before positive (above present before p e n after stood noted rises_before))

  pub pass_receipted : IsReceipted p e n (record { conversation = conversation; opening = opening; receipts = new })
  pass_receipted =
      subst (IsReceipted p e n) (same_held p.conversation conversation p.opening opening (p.receipts ++ receipt_of n e ∷ []) new (ap (λ (q : PassHeld). q.conversation) (sym view)) (ap (λ (q : PassHeld). q.opening) (sym view)) same_receipts)
      (receipted present before p e n after stood noted rises_before)

  -- and the newest receipt agrees with the log again
  pub pass_agrees : All (AgreesWith after.log) (newest_of new)
  pass_agrees =
      subst (λ (xs : List Receipt). All (AgreesWith after.log) (newest_of xs)) same_receipts
      (subst (λ (xs : List Receipt). All (AgreesWith after.log) xs) (sym (newest_pushed p.receipts (receipt_of n e)))
      (All-cons (AgreesWith after.log) (receipt_of n e) [] (ended present before p e n after stood noted) (All-nil (AgreesWith after.log))))

-- the reply to a question by a pass
pub answered : (h : Holdings) (rs : Records) (p : PassHeld) (answer : Told) → IsAskedBy h rs p answer → IsAnsweredOn p.receipts answer
answered h rs p answer x =
    let a = x.asked.2 in
    record {
      log = a.of.log;
      stood = subst (λ (l : List Event). All (AgreesWith l) p.receipts) (log_there rs p.conversation a.of a.there) x.stood;
      verdict = reported_verdict a.present a.of answer a.told;
    }
