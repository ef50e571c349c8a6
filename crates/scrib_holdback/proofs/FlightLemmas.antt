-- How many messages were sent and received on each pair, after an event.
use Rattle.std.proofs.Common.{◌≡◌, ◌↔◌, ◌&&◌, ◌||◌, Bool, true, false, cond, not, ltb, zero, suc, ℕ, ◌+◌, ◌<◌, List, [], ◌∷◌, ◌++◌, filter, length, length-append, get_or, set, slice_get, position, Option, Some, None, MatchOption, refl, sym, ap, ◌∙◌, subst, inl, inr, arith}
use Rattle.std.specs.List.{list_any, position_or_len}
use Rattle.std.specs.Str.{bytes_eq}
use Rattle.std.proofs.lemmas.Bool.{true≢false, and_parts, and_from, false_from_ne_true, cases_Bool, cond-true, ltb-true, lt-ltb}
use Rattle.std.proofs.lemmas.List.{set_at}
use Rattle.scrib_types.specs.declared.message.Message.{Message}
use Rattle.scrib_types.specs.declared.event.Event.{Event}
use Rattle.scrib_types.specs.declared.event.Event.TheVariants.{Join, Sent, Received}
use Rattle.scrib_types.specs.Queues.{sent, received}
use Rattle.scrib_holdback.specs.declared.flights.Flight.{Flight}
use Rattle.scrib_holdback.specs.Holdings.{is_between, count_on, sent_on, received_on}
use Rattle.scrib_holdback.specs.Releases.{IsReceivable, HasFlight, IsFlightOf, IsPairAt, AreDistinctFlights, KeepsFlights, CountsEvent, SameCounts}
use Rattle.scrib_holdback.proofs.OwnEvents.{name_itself, same_name}
use Rattle.scrib_holdback.proofs.Positions.{first_at, none_at, element_at, passes_not, no_any, any_left, any_right, any_only, or_true}

count_yes : (k : Flight → ℕ) (p q : List ℕ) (f : Flight) (fs : List Flight) → is_between p q f ≡ true → count_on k p q (f ∷ fs) ≡ k f
count_yes k p q f fs h = rw h refl

count_no : (k : Flight → ℕ) (p q : List ℕ) (f : Flight) (fs : List Flight) → is_between p q f ≡ false → count_on k p q (f ∷ fs) ≡ count_on k p q fs
count_no k p q f fs h = rw h refl

-- the first flight of the pair counts
count_here : (k : Flight → ℕ) (p q : List ℕ) (earlier later : List Flight) (f : Flight) → filter (is_between p q) earlier ≡ [] → is_between p q f ≡ true → count_on k p q (earlier ++ f ∷ later) ≡ k f
count_here k p q [] later f none here = count_yes k p q f later here
count_here k p q (e ∷ earlier) later f none here =
    let n = passes_not (is_between p q) e earlier none in
    count_no k p q e (earlier ++ f ∷ later) n.0 ∙ count_here k p q earlier later f n.1 here

pub no_count : (k : Flight → ℕ) (p q : List ℕ) (fs : List Flight) → filter (is_between p q) fs ≡ [] → count_on k p q fs ≡ 0
no_count k p q [] none = refl
no_count k p q (f ∷ fs) none =
    let n = passes_not (is_between p q) f fs none in
    count_no k p q f fs n.0 ∙ no_count k p q fs n.1

-- a flight of another pair doesn't count
count_step : (k : Flight → ℕ) (p q : List ℕ) (e : Flight) (xs ys : List Flight) → count_on k p q xs ≡ count_on k p q ys → count_on k p q (e ∷ xs) ≡ count_on k p q (e ∷ ys)
count_step k p q e xs ys h = ap (λ n. cond (is_between p q e) (k e) n) h

count_elsewhere : (k : Flight → ℕ) (p q : List ℕ) (earlier later : List Flight) (f g : Flight) → is_between p q f ≡ false → is_between p q g ≡ false → count_on k p q (earlier ++ g ∷ later) ≡ count_on k p q (earlier ++ f ∷ later)
count_elsewhere k p q [] later f g n m = count_no k p q g later m ∙ sym (count_no k p q f later n)
count_elsewhere k p q (e ∷ earlier) later f g n m = count_step k p q e (earlier ++ g ∷ later) (earlier ++ f ∷ later) (count_elsewhere k p q earlier later f g n m)

-- a flight with other counts
abbrev with_counts : Flight → ℕ → ℕ → Flight
with_counts f m n = record { from = f.from; to = f.to; sent = m; received = n }

pairs_agree : (p q s t : List ℕ) (f : Flight) → is_between s t f ≡ true → (bytes_eq p s && bytes_eq q t) ≡ false → is_between p q f ≡ false
pairs_agree p q s t f here n =
    false_from_ne_true (is_between p q f)
    (λ y. let a = and_parts (bytes_eq f.from s) (bytes_eq f.to t) here in
    let b = and_parts (bytes_eq f.from p) (bytes_eq f.to q) y in
    let ps : p ≡ s = sym (same_name f.from p b.0) ∙ same_name f.from s a.0 in
    let qt : q ≡ t = sym (same_name f.to q b.1) ∙ same_name f.to t a.1 in
    let ep : bytes_eq p s ≡ true = subst (λ z. bytes_eq p z ≡ true) ps (name_itself p) in
    let eq : bytes_eq q t ≡ true = subst (λ z. bytes_eq q z ≡ true) qt (name_itself q) in
    true≢false (sym (and_from (bytes_eq p s) (bytes_eq q t) ep eq) ∙ n))

-- what a list of flights is like where one has other counts: of one of the two counts
pub record IsRecounted (k : Flight → ℕ) (s t : List ℕ) (old new : List Flight) (before after : ℕ) : Type 0 where
  pub was : count_on k s t old ≡ before
  pub is : count_on k s t new ≡ after
  pub others : (p q : List ℕ) → (bytes_eq p s && bytes_eq q t) ≡ false → count_on k p q new ≡ count_on k p q old

recounted_parts : (k : Flight → ℕ) (s t : List ℕ) (earlier later : List Flight) (f : Flight) (m n : ℕ) → filter (is_between s t) earlier ≡ [] → is_between s t f ≡ true → IsRecounted k s t (earlier ++ f ∷ later) (earlier ++ with_counts f m n ∷ later) (k f) (k (with_counts f m n))
recounted_parts k s t earlier later f m n none here = record {
  was = count_here k s t earlier later f none here;
  is = count_here k s t earlier later (with_counts f m n) none here;
  others = λ p q other. (let no : is_between p q f ≡ false = pairs_agree p q s t f here other in count_elsewhere k p q earlier later f (with_counts f m n) no no);
}

any_kept_at : (p q : List ℕ) (earlier later : List Flight) (f : Flight) (m n : ℕ) → list_any (is_between p q) (earlier ++ f ∷ later) ≡ list_any (is_between p q) (earlier ++ with_counts f m n ∷ later)
any_kept_at p q [] later f m n = refl
any_kept_at p q (e ∷ earlier) later f m n = ap (λ b. is_between p q e || b) (any_kept_at p q earlier later f m n)

distinct_kept_at : (earlier later : List Flight) (f : Flight) (m n : ℕ) → AreDistinctFlights (earlier ++ f ∷ later) → AreDistinctFlights (earlier ++ with_counts f m n ∷ later)
distinct_kept_at [] later f m n d = d
distinct_kept_at (e ∷ earlier) later f m n d = (sym (any_kept_at e.from e.to earlier later f m n) ∙ d.0, distinct_kept_at earlier later f m n d.1)

-- The flight at the index has other counts. All of these facts are read of the first flight of the pair.
pub record IsCountedAt (s t : List ℕ) (old new : List Flight) (f : Flight) (m n : ℕ) : Type 0 where
  pub sends : IsRecounted (λ (g : Flight). g.sent) s t old new f.sent m
  pub receptions : IsRecounted (λ (g : Flight). g.received) s t old new f.received n
  pub any : (p q : List ℕ) → list_any (is_between p q) old ≡ true → list_any (is_between p q) new ≡ true
  pub distinct : AreDistinctFlights old → AreDistinctFlights new

counted_parts : (s t : List ℕ) (earlier later : List Flight) (f : Flight) (m n : ℕ) → filter (is_between s t) earlier ≡ [] → is_between s t f ≡ true → IsCountedAt s t (earlier ++ f ∷ later) (earlier ++ with_counts f m n ∷ later) f m n
counted_parts s t earlier later f m n none here = record {
  sends = recounted_parts (λ (g : Flight). g.sent) s t earlier later f m n none here;
  receptions = recounted_parts (λ (g : Flight). g.received) s t earlier later f m n none here;
  any = λ p q h. sym (any_kept_at p q earlier later f m n) ∙ h;
  distinct = distinct_kept_at earlier later f m n;
}

counted_first : (s t : List ℕ) (fs : List Flight) (i : ℕ) (at : position (is_between s t) fs ≡ Some i) (m n : ℕ) → IsCountedAt s t fs (set fs i (with_counts (first_at (is_between s t) fs i at).x m n)) (first_at (is_between s t) fs i at).x m n
counted_first s t fs i at m n =
    let k = first_at (is_between s t) fs i at in
    let new : set fs i (with_counts k.x m n) ≡ k.earlier ++ with_counts k.x m n ∷ k.later = ap (λ z. set z i (with_counts k.x m n)) k.whole ∙ set_at k.earlier k.x k.later (with_counts k.x m n) i k.place in
    subst (λ z. IsCountedAt s t z (set fs i (with_counts k.x m n)) k.x m n) (sym k.whole)
    (subst (λ z. IsCountedAt s t (k.earlier ++ k.x ∷ k.later) z k.x m n) (sym new) (counted_parts s t k.earlier k.later k.x m n k.none k.here))

-- one more was sent, or received, as a write of a count gives it
pub sent_at : (s t : List ℕ) (fs : List Flight) (i : ℕ) (f g : Flight) (m : ℕ) → position (is_between s t) fs ≡ Some i → IsCountedAt s t fs (set fs i record { from = (get_or fs i g).from; to = (get_or fs i g).to; sent = m; received = (get_or fs i g).received }) (get_or fs i f) m (get_or fs i f).received
sent_at s t fs i f g m at =
    let k = first_at (is_between s t) fs i at in
    let P : Flight → Flight → Type 0 = λ a b. IsCountedAt s t fs (set fs i record { from = b.from; to = b.to; sent = m; received = b.received }) a m a.received in
    subst (λ a. P a (get_or fs i g)) (sym (element_at (is_between s t) fs i k f))
    (subst (λ b. P k.x b) (sym (element_at (is_between s t) fs i k g)) (counted_first s t fs i at m k.x.received))

pub received_at : (s t : List ℕ) (fs : List Flight) (i : ℕ) (f g : Flight) (n : ℕ) → position (is_between s t) fs ≡ Some i → IsCountedAt s t fs (set fs i record { from = (get_or fs i g).from; to = (get_or fs i g).to; sent = (get_or fs i g).sent; received = n }) (get_or fs i f) (get_or fs i f).sent n
received_at s t fs i f g n at =
    let k = first_at (is_between s t) fs i at in
    let P : Flight → Flight → Type 0 = λ a b. IsCountedAt s t fs (set fs i record { from = b.from; to = b.to; sent = b.sent; received = n }) a a.sent n in
    subst (λ a. P a (get_or fs i g)) (sym (element_at (is_between s t) fs i k f))
    (subst (λ b. P k.x b) (sym (element_at (is_between s t) fs i k g)) (counted_first s t fs i at k.x.sent n))

-- a count of the pair at the index
pub count_at : (k : Flight → ℕ) (s t : List ℕ) (fs : List Flight) (i : ℕ) (f : Flight) → position (is_between s t) fs ≡ Some i → k (get_or fs i f) ≡ count_on k s t fs
count_at k s t fs i f at =
    let e = first_at (is_between s t) fs i at in
    ap k (element_at (is_between s t) fs i e f)
    ∙ sym (ap (count_on k s t) e.whole ∙ count_here k s t e.earlier e.later e.x e.none e.here)

-- one message more
sent_one : (p q s t : List ℕ) (m : Message) (b : Bool) → (bytes_eq p s && bytes_eq q t) ≡ b → length (sent p q (Sent s t m ∷ [])) ≡ cond b 1 0
sent_one p q s t m true y = rw y refl
sent_one p q s t m false n = rw n refl

received_one : (p q s t : List ℕ) (m : Message) (b : Bool) → (bytes_eq p s && bytes_eq q t) ≡ b → length (received p q (Received s t m ∷ [])) ≡ cond b 1 0
received_one p q s t m true y = rw y refl
received_one p q s t m false n = rw n refl

-- the count of each pair, where that of one is another
recounted_by : (k : Flight → ℕ) (p q s t : List ℕ) (old new : List Flight) (before more : ℕ) → IsRecounted k s t old new before (before + more) → (b : Bool) → (bytes_eq p s && bytes_eq q t) ≡ b → count_on k p q new ≡ count_on k p q old + cond b more 0
recounted_by k p q s t old new before more r true y =
    let e = and_parts (bytes_eq p s) (bytes_eq q t) y in
    let ps = same_name p s e.0 in
    let qt = same_name q t e.1 in
    let was : count_on k p q old ≡ before = ap (λ z. count_on k z q old) ps ∙ ap (λ z. count_on k s z old) qt ∙ r.was in
    let is : count_on k p q new ≡ before + more = ap (λ z. count_on k z q new) ps ∙ ap (λ z. count_on k s z new) qt ∙ r.is in
    omega (arith, was, is)
recounted_by k p q s t old new before more r false other = omega (arith, r.others p q other)

cond_nothing : (b : Bool) → ◌≡◌ {A = ℕ} (cond b 0 0) 0
cond_nothing true = refl
cond_nothing false = refl

recounted_same : (k : Flight → ℕ) (p q s t : List ℕ) (old new : List Flight) (n : ℕ) → IsRecounted k s t old new n n → count_on k p q new ≡ count_on k p q old + 0
recounted_same k p q s t old new n r =
    let same : n ≡ n + 0 = omega arith in
    let e = recounted_by k p q s t old new n 0 (subst (λ z. IsRecounted k s t old new n z) same r) (bytes_eq p s && bytes_eq q t) refl in
    omega (arith, e, cond_nothing (bytes_eq p s && bytes_eq q t))

counts_sent : (s t : List ℕ) (m : Message) (old new : List Flight) (f : Flight) → IsCountedAt s t old new f (f.sent + 1) f.received → CountsEvent (Sent s t m) old new
counts_sent s t m old new f c = record {
  sends = λ p q. omega (arith, recounted_by (λ (g : Flight). g.sent) p q s t old new f.sent 1 c.sends (bytes_eq p s && bytes_eq q t) refl, sent_one p q s t m (bytes_eq p s && bytes_eq q t) refl);
  receptions = λ p q. recounted_same (λ (g : Flight). g.received) p q s t old new f.received c.receptions;
}

counts_received : (s t : List ℕ) (m : Message) (old new : List Flight) (f : Flight) → IsCountedAt s t old new f f.sent (f.received + 1) → CountsEvent (Received s t m) old new
counts_received s t m old new f c = record {
  sends = λ p q. recounted_same (λ (g : Flight). g.sent) p q s t old new f.sent c.sends;
  receptions = λ p q. omega (arith, recounted_by (λ (g : Flight). g.received) p q s t old new f.received 1 c.receptions (bytes_eq p s && bytes_eq q t) refl, received_one p q s t m (bytes_eq p s && bytes_eq q t) refl);
}

has_counted : (s t : List ℕ) (old new : List Flight) (f : Flight) (m n : ℕ) → IsCountedAt s t old new f m n → (e : Event) → HasFlight old e → HasFlight new e
has_counted s t old new f m n c (Join a) h = tt
has_counted s t old new f m n c (Sent p q message) h = c.any p q h
has_counted s t old new f m n c (Received p q message) h = c.any p q h

pub keeps_counted : (s t : List ℕ) (old new : List Flight) (f : Flight) (m n : ℕ) → IsCountedAt s t old new f m n → KeepsFlights old new
keeps_counted s t old new f m n c = record { has = has_counted s t old new f m n c; distinct = c.distinct }

-- the same flights
pub keeps_same : (old new : List Flight) → new ≡ old → KeepsFlights old new
keeps_same old new same = record { has = λ e h. subst (λ z. HasFlight z e) (sym same) h; distinct = λ d. subst AreDistinctFlights (sym same) d }

-- a join is not counted
pub counts_join : (r : List ℕ) (fs : List Flight) → CountsEvent (Join r) fs fs
counts_join r fs = record { sends = λ p q. omega arith; receptions = λ p q. omega arith }

-- an event whose pair is missing
pub paired_not : (s t : List ℕ) (fs : List Flight) → position (is_between s t) fs ≡ None → list_any (is_between s t) fs ≡ true → ⊥
paired_not s t fs none any = true≢false (sym any ∙ no_any (is_between s t) fs (none_at (is_between s t) fs none))

-- whether more was sent than received
pub unreceived : (s t : List ℕ) (fs : List Flight) (i : ℕ) (f g : Flight) → position (is_between s t) fs ≡ Some i → (ltb (get_or fs i f).received (get_or fs i g).sent ≡ true) ↔ (received_on s t fs < sent_on s t fs)
unreceived s t fs i f g at =
    let r = count_at (λ (z : Flight). z.received) s t fs i f at in
    let m = count_at (λ (z : Flight). z.sent) s t fs i g at in (
      λ y. omega (arith, r, m, ltb-true (get_or fs i f).received (get_or fs i g).sent y),
      λ less. lt-ltb (get_or fs i f).received (get_or fs i g).sent (omega (arith, r, m, less)),
    )

pub none_unreceived : (s t : List ℕ) (fs : List Flight) → position (is_between s t) fs ≡ None → received_on s t fs < sent_on s t fs → ⊥
none_unreceived s t fs at less =
    let none = no_count (λ (z : Flight). z.sent) s t fs (none_at (is_between s t) fs at) in
    omega (arith, less, none)

-- a pair that is added, with nothing sent and received
added_nothing : (k : Flight → ℕ) (p q : List ℕ) (fs : List Flight) (f : Flight) → k f ≡ 0 → count_on k p q (fs ++ f ∷ []) ≡ count_on k p q fs
added_nothing k p q [] f none = by (is_between p q f)
  where
    by : (b : Bool) → cond b (k f) 0 ≡ 0
    by true = none
    by false = refl
added_nothing k p q (e ∷ fs) f none = count_step k p q e (fs ++ f ∷ []) fs (added_nothing k p q fs f none)

pub added_same : (fs : List Flight) (f : Flight) → f.sent ≡ 0 → f.received ≡ 0 → SameCounts fs (fs ++ f ∷ [])
added_same fs f no_send no_reception = record {
  sends = λ p q. added_nothing (λ (z : Flight). z.sent) p q fs f no_send;
  receptions = λ p q. added_nothing (λ (z : Flight). z.received) p q fs f no_reception;
}

has_added : (fs : List Flight) (f : Flight) (e : Event) → HasFlight fs e → HasFlight (fs ++ f ∷ []) e
has_added fs f (Join r) h = tt
has_added fs f (Sent p q m) h = any_left (is_between p q) fs (f ∷ []) h
has_added fs f (Received p q m) h = any_left (is_between p q) fs (f ∷ []) h

or_none : (a b : Bool) → (a || b) ≡ false → (a ≡ false) × (b ≡ false)
or_none true b h = absurd (true≢false h)
or_none false b h = (refl, h)

any_missing : (t : Flight → Bool) (fs : List Flight) (f : Flight) → list_any t fs ≡ false → t f ≡ false → list_any t (fs ++ f ∷ []) ≡ false
any_missing t [] f none no_ = ap (λ b. b || false) no_
any_missing t (g ∷ fs) f none no_ =
    let n = or_none (t g) (list_any t fs) none in
    ap (λ b. b || list_any t (fs ++ f ∷ [])) n.0 ∙ any_missing t fs f n.1 no_

other_pair : (f g : Flight) → is_between f.from f.to g ≡ false → is_between g.from g.to f ≡ false
other_pair f g n =
    false_from_ne_true (is_between g.from g.to f)
    (λ y. let a = and_parts (bytes_eq f.from g.from) (bytes_eq f.to g.to) y in
    let from : bytes_eq g.from f.from ≡ true = subst (λ z. bytes_eq g.from z ≡ true) (sym (same_name f.from g.from a.0)) (name_itself g.from) in
    let to : bytes_eq g.to f.to ≡ true = subst (λ z. bytes_eq g.to z ≡ true) (sym (same_name f.to g.to a.1)) (name_itself g.to) in
    true≢false (sym (and_from (bytes_eq g.from f.from) (bytes_eq g.to f.to) from to) ∙ n))

distinct_added : (fs : List Flight) (f : Flight) → AreDistinctFlights fs → list_any (is_between f.from f.to) fs ≡ false → AreDistinctFlights (fs ++ f ∷ [])
distinct_added [] f d none = (refl, tt)
distinct_added (g ∷ fs) f d none =
    let n = or_none (is_between f.from f.to g) (list_any (is_between f.from f.to) fs) none in
    (any_missing (is_between g.from g.to) fs f d.0 (other_pair f g n.0), distinct_added fs f d.1 n.1)

-- a pair that was missing
pub added_keeps : (p q : List ℕ) (fs now : List Flight) (f : Flight) → now ≡ fs ++ f ∷ [] → f.from ≡ p → f.to ≡ q → position (is_between p q) fs ≡ None → KeepsFlights fs now
added_keeps p q fs now f more from to missing =
    let none : list_any (is_between p q) fs ≡ false = no_any (is_between p q) fs (none_at (is_between p q) fs missing) in
    let mine : list_any (is_between f.from f.to) fs ≡ false =
    subst (λ z. list_any (is_between z f.to) fs ≡ false) (sym from) (subst (λ z. list_any (is_between p z) fs ≡ false) (sym to) none) in
    subst (KeepsFlights fs) (sym more) (record { has = has_added fs f; distinct = λ d. distinct_added fs f d mine })

-- ---- the only flight of a pair

any_at : (t : Flight → Bool) (fs : List Flight) (i : ℕ) (f : Flight) → slice_get fs i ≡ Some f → t f ≡ true → list_any t fs ≡ true
any_at t [] i f at h = absurd (cc)
any_at t (g ∷ fs) zero f at h = let same : g ≡ f = cc in ap (λ b. b || list_any t fs) (ap t same ∙ h)
any_at t (g ∷ fs) (suc i) f at h = ap (λ b. t g || b) (any_at t fs i f at h) ∙ or_true (t g)

not_twice : (p q : List ℕ) (g : Flight) (fs : List Flight) (i : ℕ) → list_any (is_between g.from g.to) fs ≡ false → IsPairAt p q fs i → is_between p q g ≡ true → ⊥
not_twice p q g fs i none at here =
    let a = and_parts (bytes_eq g.from p) (bytes_eq g.to q) here in
    let some : list_any (is_between p q) fs ≡ true = any_at (is_between p q) fs i at.0 at.1 at.2 in
    let mine : list_any (is_between g.from g.to) fs ≡ true =
    subst (λ z. list_any (is_between z g.to) fs ≡ true) (sym (same_name g.from p a.0)) (subst (λ z. list_any (is_between p z) fs ≡ true) (sym (same_name g.to q a.1)) some) in
    true≢false (sym mine ∙ none)

only_at_len : (p q : List ℕ) (fs : List Flight) (i : ℕ) → AreDistinctFlights fs → IsPairAt p q fs i → (position_or_len (is_between p q) fs ≡ i) × (i < length fs)
only_at_len p q [] i d at = let none : None ≡ Some at.0 = at.1 in absurd (cc)
only_at_len p q (g ∷ fs) zero d at =
    let some : Some g ≡ Some at.0 = at.1 in
    let same : g ≡ at.0 = cc in
    let here : is_between p q g ≡ true = ap (is_between p q) same ∙ at.2 in
    (ap (λ b. cond (not b) (1 + position_or_len (is_between p q) fs) 0) here, omega arith)
only_at_len p q (g ∷ fs) (suc i) d at =
    let r = only_at_len p q fs i d.1 at in
    elim (cases_Bool (is_between p q g)) [
      | inl y ↦ absurd (not_twice p q g fs i d.0 at y)
      | inr n ↦ let e : position_or_len (is_between p q) (g ∷ fs) ≡ 1 + position_or_len (is_between p q) fs = ap (λ b. cond (not b) (1 + position_or_len (is_between p q) fs) 0) n in
          (omega (arith, e, r.0), omega (arith, r.1))
    ]

-- where no two flights are on one pair, one that is found is the first
pub only_at : (p q : List ℕ) (fs : List Flight) (i : ℕ) → AreDistinctFlights fs → IsPairAt p q fs i → Some i ≡ position (is_between p q) fs
only_at p q fs i d at =
    let r = only_at_len p q fs i d at in
    let n = position_or_len (is_between p q) fs in
    let within : ltb n (length fs) ≡ true = lt-ltb n (length fs) (omega (arith, r.0, r.1)) in
    ap (λ z. Some z) (sym r.0) ∙ sym (cond-true (ltb n (length fs)) (Some n) None within)

pub added_has : (p q : List ℕ) (fs : List Flight) (f : Flight) → f.from ≡ p → f.to ≡ q → list_any (is_between p q) (fs ++ f ∷ []) ≡ true
added_has p q fs f from to =
    let a : bytes_eq f.from p ≡ true = subst (λ z. bytes_eq f.from z ≡ true) from (name_itself f.from) in
    let b : bytes_eq f.to q ≡ true = subst (λ z. bytes_eq f.to z ≡ true) to (name_itself f.to) in
    any_right (is_between p q) fs (f ∷ []) (any_only (is_between p q) f (and_from (bytes_eq f.from p) (bytes_eq f.to q) a b))

pub found_has : (p q : List ℕ) (fs : List Flight) (i : ℕ) → position (is_between p q) fs ≡ Some i → list_any (is_between p q) fs ≡ true
found_has p q fs i at =
    let k = first_at (is_between p q) fs i at in
    subst (λ z. list_any (is_between p q) z ≡ true) (sym k.whole)
    (any_right (is_between p q) k.earlier (k.x ∷ k.later) (ap (λ b. b || list_any (is_between p q) k.later) k.here))

-- the same for an event that is known to be a send, or a reception
pub counts_by_send : (e : Event) (s t : List ℕ) (m : Message) (old new : List Flight) (f : Flight) → e ≡ Sent s t m → IsCountedAt s t old new f (f.sent + 1) f.received → CountsEvent e old new
counts_by_send e s t m old new f is c = subst (λ z. CountsEvent z old new) (sym is) (counts_sent s t m old new f c)

pub counts_by_reception : (e : Event) (s t : List ℕ) (m : Message) (old new : List Flight) (f : Flight) → e ≡ Received s t m → IsCountedAt s t old new f f.sent (f.received + 1) → CountsEvent e old new
counts_by_reception e s t m old new f is c = subst (λ z. CountsEvent z old new) (sym is) (counts_received s t m old new f c)

-- the event, which is known to be a reception, is ready
pub ready_by_reception : (e : Event) (s t : List ℕ) (m : Message) (fs : List Flight) → e ≡ Received s t m → received_on s t fs < sent_on s t fs → IsReceivable fs e
ready_by_reception e s t m fs is less = subst (IsReceivable fs) (sym is) less

-- the event, which is known to be a send, is ready
pub ready_by_send : (e : Event) (s t : List ℕ) (m : Message) (fs : List Flight) → e ≡ Sent s t m → IsReceivable fs e
ready_by_send e s t m fs is = subst (IsReceivable fs) (sym is) tt

-- ---- the flight of an event

pub within_at : (p q : List ℕ) (fs : List Flight) (i : ℕ) → position (is_between p q) fs ≡ Some i → i < length fs
within_at p q fs i at =
    let k = first_at (is_between p q) fs i at in
    omega (arith, k.place, ap length k.whole, length-append k.earlier (k.x ∷ k.later))

pub of_send : (e : Event) (s t : List ℕ) (m : Message) (fs : List Flight) (i : ℕ) → e ≡ Sent s t m → IsFlightOf e fs i → position (is_between s t) fs ≡ Some i
of_send e s t m fs i is at = subst (λ z. IsFlightOf z fs i) is at

pub of_reception : (e : Event) (s t : List ℕ) (m : Message) (fs : List Flight) (i : ℕ) → e ≡ Received s t m → IsFlightOf e fs i → position (is_between s t) fs ≡ Some i
of_reception e s t m fs i is at = subst (λ z. IsFlightOf z fs i) is at

-- what a search for the event's pair means
abbrev pub IsFlightFound : Event → List Flight → Option ℕ → Type 0
IsFlightFound e fs o = MatchOption o (HasFlight fs e → ⊥) (IsFlightOf e fs)

found_send : (s t : List ℕ) (m : Message) (fs : List Flight) (o : Option ℕ) → o ≡ position (is_between s t) fs → IsFlightFound (Sent s t m) fs o
found_send s t m fs None is = paired_not s t fs (sym is)
found_send s t m fs (Some i) is = sym is

found_reception : (s t : List ℕ) (m : Message) (fs : List Flight) (o : Option ℕ) → o ≡ position (is_between s t) fs → IsFlightFound (Received s t m) fs o
found_reception s t m fs None is = paired_not s t fs (sym is)
found_reception s t m fs (Some i) is = sym is

pub found_by_send : (e : Event) (s t : List ℕ) (m : Message) (fs : List Flight) (o : Option ℕ) → e ≡ Sent s t m → o ≡ position (is_between s t) fs → IsFlightFound e fs o
found_by_send e s t m fs o is at = subst (λ z. IsFlightFound z fs o) (sym is) (found_send s t m fs o at)

pub found_by_reception : (e : Event) (s t : List ℕ) (m : Message) (fs : List Flight) (o : Option ℕ) → e ≡ Received s t m → o ≡ position (is_between s t) fs → IsFlightFound e fs o
found_by_reception e s t m fs o is at = subst (λ z. IsFlightFound z fs o) (sym is) (found_reception s t m fs o at)

-- the flight of a reception, and whether it is ready
pub ready_is : (e : Event) (s t : List ℕ) (m : Message) (fs : List Flight) (i : ℕ) (f g : Flight) → e ≡ Received s t m → position (is_between s t) fs ≡ Some i → (ltb (get_or fs i f).received (get_or fs i g).sent ≡ true) ↔ IsReceivable fs e
ready_is e s t m fs i f g is at =
    let u = unreceived s t fs i f g at in (
      λ y. ready_by_reception e s t m fs is (u.0 y),
      λ ready. u.1 (subst (IsReceivable fs) is ready),
    )

-- ---- the flight that is added

last_is : (fs : List Flight) (f : Flight) → slice_get (fs ++ f ∷ []) (length fs) ≡ Some f
last_is [] f = refl
last_is (g ∷ fs) f = last_is fs f

pub added_at : (p q : List ℕ) (fs now : List Flight) (f : Flight) (n : ℕ) → now ≡ fs ++ f ∷ [] → f.from ≡ p → f.to ≡ q → position (is_between p q) fs ≡ None → AreDistinctFlights fs → n ≡ length fs
    → position (is_between p q) now ≡ Some n
added_at p q fs now f n more from to missing d last =
    let a : bytes_eq f.from p ≡ true = subst (λ z. bytes_eq f.from z ≡ true) from (name_itself f.from) in
    let b : bytes_eq f.to q ≡ true = subst (λ z. bytes_eq f.to z ≡ true) to (name_itself f.to) in
    let there : IsPairAt p q (fs ++ f ∷ []) (length fs) = (f, last_is fs f, and_from (bytes_eq f.from p) (bytes_eq f.to q) a b) in
    let here : IsPairAt p q now n = subst (λ z. IsPairAt p q z n) (sym more) (subst (λ i. IsPairAt p q (fs ++ f ∷ []) i) (sym last) there) in
    sym (only_at p q now n ((added_keeps p q fs now f more from to missing).distinct d) here)

-- a send whose pair is missing
pub send_missing : (e : Event) (s t : List ℕ) (m : Message) (fs : List Flight) → e ≡ Sent s t m → (HasFlight fs e → ⊥) → position (is_between s t) fs ≡ None
send_missing e s t m fs is missing = by (position (is_between s t) fs) refl
  where
    by : (o : Option ℕ) → position (is_between s t) fs ≡ o → o ≡ None
    by None at = refl
    by (Some i) at = absurd (missing (subst (HasFlight fs) (sym is) (found_has s t fs i at)))

pub flight_of_send : (e : Event) (s t : List ℕ) (m : Message) (fs : List Flight) (i : ℕ) → e ≡ Sent s t m → position (is_between s t) fs ≡ Some i → IsFlightOf e fs i
flight_of_send e s t m fs i is at = subst (λ z. IsFlightOf z fs i) (sym is) at

-- an event that is counted after a flight was added
pub counted_after : (e : Event) (old mid new : List Flight) → SameCounts old mid → CountsEvent e mid new → CountsEvent e old new
counted_after e old mid new same counted = record {
  sends = λ p q. omega (arith, same.sends p q, counted.sends p q);
  receptions = λ p q. omega (arith, same.receptions p q, counted.receptions p q);
}

pub kept_after : (old mid new : List Flight) → KeepsFlights old mid → KeepsFlights mid new → KeepsFlights old new
kept_after old mid new k l = record { has = λ e h. l.has e (k.has e h); distinct = λ d. l.distinct (k.distinct d) }

-- an event that has its flight at a place has one
pub has_at : (e : Event) (fs : List Flight) (i : ℕ) → IsFlightOf e fs i → HasFlight fs e
has_at (Join r) fs i at = tt
has_at (Sent p q m) fs i at = found_has p q fs i at
has_at (Received p q m) fs i at = found_has p q fs i at
