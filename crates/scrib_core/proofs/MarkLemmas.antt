-- Marks: read off the version numbers, and changed by turns and edits.
use Rattle.std.proofs.Common.{◌≡◌, ◌==◌, ◌&&◌, ◌⊎◌, inl, inr, ℕ, zero, suc, ◌+◌, ◌/◌, ◌<◌, Bool, true, false, not, cond, if◌then◌else◌, List, [], ◌∷◌, length, Option, Some, None, option_map, Contains, take, refl, sym, ap, subst, ◌∙◌, arith}
use Rattle.std.specs.Str.{bytes_eq}
use Rattle.std.specs.List.{slice_index_or}
use Rattle.std.proofs.lemmas.Bool.{cases_Bool, true≢false, false≢true}
use Rattle.std.proofs.lemmas.Bool.Decides.{Decides-eqb, nat_tests}
use Rattle.std.proofs.lemmas.List.Elements.{Contains-append_right}
use Rattle.std.proofs.Math.Nat.{add-mul-div_left, mul-div-le}
use Rattle.scrib_types.specs.declared.event.Verdict.{Verdict}
use Rattle.scrib_types.specs.declared.event.Verdict.TheVariants.{Permitted, Offence, Withdrawn}
use Rattle.scrib_types.specs.declared.event.Event.{Event}
use Rattle.scrib_types.specs.declared.event.Told.{Told}
use Rattle.scrib_types.specs.Judgement.{Judges}
use Rattle.scrib_static_checks.specs.Names.{dotted_eq}
use Rattle.scrib_static_checks.proofs.NameLemmas.{dotted_eq-Decides}
use Rattle.scrib_record.specs.declared.version.Version.{Version}
use Rattle.scrib_record.specs.Flat.{flat_form}
use Rattle.scrib_record.specs.Stale.{same_stamp, is_present, is_final, Recorded, is_stale, IsLawful}
use Rattle.scrib_record.specs.Told.{judged_under}
use Rattle.scrib_record.specs.Told as record_verdict
use Rattle.scrib_record.specs.Versions.{meaning_of, number_of}
use Rattle.scrib_record.specs.Turns.{stamp_itself, present_alike}
use Rattle.scrib_library.specs.Holdings.{Stamp, Holdings, HasNumber, IsNumber, AreNumbered}
use Rattle.scrib_library.specs.Modules.{Means, IsMeaning, MeansOnce}
use Rattle.scrib_core.specs.Marks.{Mark, Fresh, Stale, IsStale}
use Rattle.scrib_core.specs.Marks as marks
use Rattle.scrib_core.specs.Held.{number_at, mark, held_number, mark_of, IsKnown}
use Rattle.scrib_core.specs.ConversationSteps.{IsPresent}

-- membership at the head and in the tail
Contains-head : {X : Type 0} (x : X) (xs : List X) → Contains (x ∷ xs) x
Contains-head x xs = (0, omega arith, refl)

Contains-tail : {X : Type 0} (x : X) (xs : List X) (y : X) → Contains xs y → Contains (x ∷ xs) y
Contains-tail x xs y h = Contains-append_right (x ∷ []) xs y h

Contains-cases : {X : Type 0} (x : X) (xs : List X) (y : X) → Contains (x ∷ xs) y → (x ≡ y) ⊎ Contains xs y
Contains-cases x xs y h = by h.0 h.1 h.2
  where
    by : (k : ℕ) → k < length (x ∷ xs) → slice_index_or (x ∷ xs) k y ≡ y → (x ≡ y) ⊎ Contains xs y
    by zero l e = inl e
    by (suc k) l e = inr (k, omega arith, e)

abbrev stamp : List (List ℕ) → ℕ → Stamp
stamp name k = record { name = name; number = k }

-- a number that is found belongs to a stamp
pub number_there : (ss : List Stamp) (name : List (List ℕ)) (k : ℕ) → number_at ss name ≡ Some k → Contains ss (stamp name k)
number_there [] name k e = cc
number_there (s ∷ ss) name k e = by (dotted_eq name s.name) refl e (number_there ss name k)
  where
    by : (b : Bool) → dotted_eq name s.name ≡ b → cond b (Some s.number) (number_at ss name) ≡ Some k → (number_at ss name ≡ Some k → Contains ss (stamp name k)) → Contains (s ∷ ss) (stamp name k)
    by true d e rest =
        let same : s.name ≡ name = sym ((dotted_eq-Decides name s.name).0 d) in
        let number : s.number ≡ k = cc in
        let here : s ≡ stamp name k = λ i. record { name = same i; number = number i } in
        subst (Contains (s ∷ ss)) here (Contains-head s ss)
    by false d e rest = Contains-tail s ss (stamp name k) (rest e)

-- if none is found, no stamp has the name
pub number_absent : (ss : List Stamp) (name : List (List ℕ)) (k : ℕ) → number_at ss name ≡ None → Contains ss (stamp name k) → ⊥
number_absent [] name k e h = omega (arith, h.1)
number_absent (s ∷ ss) name k e h = by (dotted_eq name s.name) refl e (number_absent ss name k)
  where
    by : (b : Bool) → dotted_eq name s.name ≡ b → cond b (Some s.number) (number_at ss name) ≡ None → (number_at ss name ≡ None → Contains ss (stamp name k) → ⊥) → ⊥
    by true d e rest = cc
    by false d e rest = elim (Contains-cases s ss (stamp name k) h) [
      | inl here ↦
          let same : name ≡ s.name = sym (ap (λ (x : Stamp). x.name) here) in
          false≢true (sym d ∙ (dotted_eq-Decides name s.name).1 same)
      | inr there ↦ rest e there
    ]

module _ (h : Holdings) (numbered : AreNumbered h) where
  -- the number that is found is that of the present version
  pub number_present : (name : List (List ℕ)) (o : Option ℕ) → IsNumber h name o → number_at h.stamps name ≡ o
  number_present name o i = by (number_at h.stamps name) refl o i
    where
      by : (found : Option ℕ) → number_at h.stamps name ≡ found → (o : Option ℕ) → IsNumber h name o → found ≡ o
      by None e None i = refl
      by None e (Some k) i = absurd (number_absent h.stamps name k e i)
      by (Some l) e None i = absurd (i l (number_there h.stamps name l e))
      by (Some l) e (Some k) i = ap (λ (n : ℕ). Some n) (numbered.one name l k (number_there h.stamps name l e) i)

-- the mark, given whether the present version is held
abbrev pub mark_seen : Option Version → Bool → Verdict → (judged events : ℕ) → Mark
mark_seen None true verdict judged events = Fresh
mark_seen None false verdict judged events = Stale 0
mark_seen (Some v) true verdict judged events = if is_final verdict judged events then Fresh else Stale (judged / 256)
mark_seen (Some v) false verdict judged events = Stale 0

-- the mark of a stale record
abbrev pub mark_left : Option Version → Bool → (judged : ℕ) → Mark
mark_left None true judged = Fresh
mark_left None false judged = Stale 0
mark_left (Some v) true judged = Stale (judged / 256)
mark_left (Some v) false judged = Stale 0

seen_fresh : (p : Option Version) (b : Bool) (v : Verdict) (j n : ℕ) → not (b && is_final v j n) ≡ false → mark_seen p b v j n ≡ Fresh
seen_fresh p false v j n e = absurd (true≢false e)
seen_fresh None true v j n e = refl
seen_fresh (Some x) true v j n e = by (is_final v j n) e
  where
    by : (f : Bool) → not f ≡ false → (if f then Fresh else Stale (j / 256)) ≡ Fresh
    by true e = refl
    by false e = absurd (true≢false e)

seen_stale : (p : Option Version) (b : Bool) (v : Verdict) (j n : ℕ) → not (b && is_final v j n) ≡ true → mark_seen p b v j n ≡ mark_left p b j
seen_stale None false v j n e = refl
seen_stale (Some x) false v j n e = refl
seen_stale None true v j n e = refl
seen_stale (Some x) true v j n e = by (is_final v j n) e
  where
    by : (f : Bool) → not f ≡ true → (if f then Fresh else Stale (j / 256)) ≡ Stale (j / 256)
    by true e = absurd (false≢true e)
    by false e = refl

module _ (h : Holdings) (r : Recorded) (present : Option Version) (numbered : AreNumbered h) (once : MeansOnce h.modules) (known : IsKnown h r) (here : IsPresent h r.name present) where
  -- versions of one number have the same stamp
  same_stamps : (v w : Version) → present ≡ Some v → r.held ≡ Some w → number_of v ≡ number_of w → same_stamp v w ≡ true
  same_stamps v w p q n =
      let means : Means h.modules r.name (meaning_of v) = subst (λ (o : Option Version). IsMeaning h.modules r.name (option_map meaning_of o)) p here.meaning in
      let number : HasNumber h r.name (number_of v) = subst (λ (o : Option Version). IsNumber h r.name (option_map number_of o)) p here.number in
      let held = known.means w q (subst (HasNumber h r.name) n number) in
      present_alike v w (Some w) n (once r.name (meaning_of v) (meaning_of w) means held) ∙ stamp_itself w

  abbrev where_held : Bool → Mark
  where_held b = if b then (if is_final r.verdict r.judged (length r.log) then Fresh else Stale (r.judged / 256)) else Stale 0

  pub mark_is : mark_of h r ≡ mark_seen present (is_present present r.held) r.verdict r.judged (length r.log)
  mark_is = ap (λ (o : Option ℕ). mark o (held_number r) r.verdict r.judged (length r.log)) (number_present h numbered r.name (option_map number_of present) here.number) ∙ by present refl r.held refl
    where
      stamps : (v w : Version) → present ≡ Some v → r.held ≡ Some w → (b : Bool) → (number_of v == number_of w) ≡ b → (number_of v == number_of w) ≡ same_stamp v w
      stamps v w p q true e = e ∙ sym (same_stamps v w p q ((Decides-eqb (number_of v) (number_of w)).0 e))
      stamps v w p q false e = e ∙ sym (ap (λ (c : Bool). c && bytes_eq (flat_form (meaning_of v)) (flat_form (meaning_of w))) e)

      shift : (v : Version) (b : Bool) → where_held b ≡ mark_seen (Some v) b r.verdict r.judged (length r.log)
      shift v true = refl
      shift v false = refl

      by : (p : Option Version) → present ≡ p → (q : Option Version) → r.held ≡ q
          → mark (option_map number_of p) (option_map number_of q) r.verdict r.judged (length r.log) ≡ mark_seen p (is_present p q) r.verdict r.judged (length r.log)
      by None e None f = refl
      by None e (Some w) f = refl
      by (Some v) e None f = refl
      by (Some v) e (Some w) f = ap where_held (stamps v w e f (number_of v == number_of w) refl) ∙ shift v (same_stamp v w)

  abbrev held_now : Bool
  held_now = is_present present r.held

  -- a record that is not stale has the mark `Fresh`
  pub fresh_mark : is_stale present r ≡ false → mark_of h r ≡ Fresh
  fresh_mark s = mark_is ∙ seen_fresh present held_now r.verdict r.judged (length r.log) s

  pub stale_mark : IsLawful r → is_stale present r ≡ true → IsStale (mark_of h r)
  stale_mark lawful s = subst IsStale (sym mark_is) (by present r.held r.verdict lawful.judges s)
    where
      none_judged : (v : Verdict) → Judges None (take r.judged r.log) v → is_final v r.judged (length r.log) ≡ true
      none_judged Permitted j = absurd j
      none_judged (Offence place role allowed) j = absurd j
      none_judged Withdrawn j = refl

      seen_some : (v : Version) (b f : Bool) → not (b && f) ≡ true → IsStale (if b then (if f then Fresh else Stale (r.judged / 256)) else Stale 0)
      seen_some v true true e = absurd (false≢true e)
      seen_some v true false e = tt
      seen_some v false f e = tt

      by : (p held : Option Version) (v : Verdict) → Judges (option_map meaning_of held) (take r.judged r.log) v → not (is_present p held && is_final v r.judged (length r.log)) ≡ true
          → IsStale (mark_seen p (is_present p held) v r.judged (length r.log))
      by None None v j e = absurd (false≢true (sym (ap not (none_judged v j)) ∙ e))
      by None (Some w) v j e = tt
      by (Some p) None v j e = tt
      by (Some p) (Some w) v j e = subst IsStale (shift (same_stamp p w)) (seen_some p (same_stamp p w) (is_final v r.judged (length r.log)) e)
        where
          shift : (b : Bool) → (if b then (if is_final v r.judged (length r.log) then Fresh else Stale (r.judged / 256)) else Stale 0) ≡ mark_seen (Some p) b v r.judged (length r.log)
          shift true = refl
          shift false = refl

  pub left_mark : is_stale present r ≡ true → mark_of h r ≡ mark_left present held_now r.judged
  left_mark s = mark_is ∙ seen_stale present held_now r.verdict r.judged (length r.log) s

-- the case of a turn
turned_fresh : (events : ℕ) (m : Mark) → marks.IsMarkTurned events m Fresh
turned_fresh events Fresh = refl
turned_fresh events (Stale t) = tt

turned_once : (j : ℕ) → (j + 256) / 256 ≡ j / 256 + 1
turned_once j = add-mul-div_left j 1 {y = 256} (omega arith)

turned_left : (p : Option Version) (b : Bool) (j k events : ℕ) → k ≡ (if b then j else 0) + 256 → k < events → marks.IsMarkTurned events (mark_left p b j) (mark_left p true k)
turned_left None b j k events e l = turned_fresh events (mark_left None b j)
turned_left (Some v) true j k events e l = (ap (λ (n : ℕ). n / 256) e ∙ turned_once j, omega (arith, mul-div-le k 256, l))
turned_left (Some v) false j k events e l = (ap (λ (n : ℕ). n / 256) e, omega (arith, mul-div-le k 256, l))

-- a stale verdict under the present version covers only a part of the log
goes_on : (p : Option Version) (r : Recorded) → is_stale p r ≡ true → is_present p r.held ≡ true → r.judged < length r.log
goes_on p r stale here = by r.verdict (not_final (is_present p r.held) (is_final r.verdict r.judged (length r.log)) stale here)
  where
    not_final : (b f : Bool) → not (b && f) ≡ true → b ≡ true → f ≡ false
    not_final true true e h = absurd (false≢true e)
    not_final true false e h = refl
    not_final false f e h = absurd (false≢true h)

    by : (v : Verdict) → is_final v r.judged (length r.log) ≡ false → r.judged < length r.log
    by Permitted e = grind (arith, nat_tests)
    by (Offence place role allowed) e = absurd (true≢false e)
    by Withdrawn e = absurd (true≢false e)

module _ (h : Holdings) (r s : Recorded) (present : Option Version) (numbered : AreNumbered h) (once : MeansOnce h.modules) where
  -- a note leaves the mark
  pub note_mark : (e : Event) (answer : Told) → IsKnown h r → IsKnown h s → IsPresent h r.name present → record_verdict.IsNoted present r e s answer → mark_of h s ≡ mark_of h r
  note_mark e answer old new here n =
      let there : IsPresent h s.name present = subst (λ (x : List (List ℕ)). IsPresent h x present) (sym n.name) here in
      elim (cases_Bool (is_stale present r)) [
        | inr fresh ↦ fresh_mark h s present numbered once new there (n.stale ∙ fresh) ∙ sym (fresh_mark h r present numbered once old here fresh)
        | inl stale ↦
            let same : mark_left present (is_present present s.held) s.judged ≡ mark_left present (is_present present r.held) r.judged =
            ap (λ (o : Option Version). mark_left present (is_present present o) s.judged) n.held ∙ ap (λ (j : ℕ). mark_left present (is_present present r.held) j) (n.kept stale).0 in
            left_mark h s present numbered once new there (n.stale ∙ stale) ∙ same ∙ sym (left_mark h r present numbered once old here stale)
      ]

  -- a turn after which the record is still stale
  still : {answer : Told} → record_verdict.IsTurned present r s answer → IsKnown h r → IsKnown h s → IsPresent h r.name present → IsPresent h s.name present → is_stale present s ≡ true
      → marks.IsMarkTurned (length r.log) (mark_of h r) (mark_of h s)
  still u old new here there stale =
      let was : is_stale present r ≡ true = elim (cases_Bool (is_stale present r)) [
        | inl e ↦ e
        | inr fresh ↦ absurd (true≢false (sym stale ∙ ap (is_stale present) (u.fresh fresh) ∙ fresh))
      ] in
      let further : s.judged ≡ judged_under present r + 256 = elim u.further [
        | inl fresh ↦ absurd (true≢false (sym stale ∙ fresh))
        | inr j ↦ j
      ] in
      let more : s.judged < length r.log = subst (λ (l : List Event). s.judged < length l) u.log (goes_on present s stale u.present) in
      let mark_s = left_mark h s present numbered once new there stale ∙ ap (λ (b : Bool). mark_left present b s.judged) u.present in
      let mark_r = left_mark h r present numbered once old here was in
      let both = turned_left present (is_present present r.held) r.judged s.judged (length r.log) further more in
      subst (λ (m : Mark). marks.IsMarkTurned (length r.log) m (mark_of h s)) (sym mark_r) (subst (marks.IsMarkTurned (length r.log) (mark_left present (is_present present r.held) r.judged)) (sym mark_s) both)

  -- a turn that leaves the mark stale is counted
  pub turn_mark : (answer : Told) → IsKnown h r → IsKnown h s → IsPresent h r.name present → record_verdict.IsTurned present r s answer → marks.IsMarkTurned (length r.log) (mark_of h r) (mark_of h s)
  turn_mark answer old new here u =
      let there : IsPresent h s.name present = subst (λ (x : List (List ℕ)). IsPresent h x present) (sym u.name) here in
      elim (cases_Bool (is_stale present s)) [
        | inr fresh ↦ subst (marks.IsMarkTurned (length r.log) (mark_of h r)) (sym (fresh_mark h s present numbered once new there fresh)) (turned_fresh (length r.log) (mark_of h r))
        | inl stale ↦ still u old new here there stale
      ]
