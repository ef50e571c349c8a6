-- One more event: a permitted log and an event that may follow it form a permitted log, and no other event may follow.
use Rattle.std.proofs.Common.{◌≡◌, ◌&&◌, true, ℕ, List, [], ◌∷◌, ◌++◌, Some, filter_map, refl, sym, ap, subst, ◌∙◌, append_assoc, inl, inr}
use Rattle.std.specs.Str.{bytes_eq}
use Rattle.std.proofs.lemmas.Bool.{and_parts, and_from, cases_Bool, true≢false}
use Rattle.std.proofs.lemmas.List.{append-nil, append_cancel_left}
use Rattle.scrib_types.specs.declared.message.Message.{Message}
use Rattle.scrib_types.specs.declared.event.Event.{Event}
use Rattle.scrib_types.specs.declared.event.Event.TheVariants.{Join, Sent, Received}
use Rattle.scrib_types.specs.Trees.{LocalTree}
use Rattle.scrib_types.specs.Traces.{IsTrace}
use Rattle.scrib_types.specs.Projection.{projection, widest}
use Rattle.scrib_types.specs.WellFormed.{has_role}
use Rattle.scrib_types.specs.Agreement.{Agreement}
use Rattle.scrib_types.specs.Permitted.{IsPermitted}
use Rattle.scrib_types.specs.Logs.{subject_of, action_of, is_action, is_action_of, own_actions, has_joined, IsJoined}
use Rattle.scrib_types.specs.Queues.{sent_message, received_message, sent, received, IsPrefix}
use Rattle.scrib_record.specs.Following.{MayAct, IsOldest, MayFollow}
use Rattle.scrib_record.proofs.Logs.{all_more, all_last, joined_more, queued_more, own_more, own_same}
use Rattle.scrib_record.proofs.Queues.{sent_on, received_on, listed, prefix_grown, prefix_taken, listed_is}
use Rattle.scrib_record.proofs.RolePlaces.{bytes_same, bytes_itself}

may_join : (a : Agreement) (log : List Event) (e : Event) → MayFollow a log e → IsJoined a.roles log e
may_join a log (Join r) h = h
may_join a log (Sent p q m) h = h.joined
may_join a log (Received p q m) h = h.0.joined

pub may_declared : (a : Agreement) (log : List Event) (e : Event) → MayFollow a log e → has_role (subject_of e) a.roles ≡ true
may_declared a log (Join r) h = h.0
may_declared a log (Sent p q m) h = h.declared
may_declared a log (Received p q m) h = h.0.declared

may_act : (a : Agreement) (log : List Event) (e : Event) → MayFollow a log e → is_action e ≡ true → MayAct a log (subject_of e) (action_of e)
may_act a log (Join r) h i = absurd (true≢false (sym i))
may_act a log (Sent p q m) h i = h
may_act a log (Received p q m) h i = h.0

subject_trace : (a : Agreement) (log : List Event) (e : Event) → MayAct a log (subject_of e) (action_of e) → is_action_of (subject_of e) e ≡ true → (l : LocalTree) × (projection widest (subject_of e) a.global ≡ Some l) × IsTrace l (own_actions (subject_of e) (log ++ e ∷ []))
subject_trace a log e h i = (h.local, h.projected, subst (IsTrace h.local) (sym (own_more (subject_of e) log e i)) h.trace)

trace_more : (a : Agreement) (log : List Event) (e : Event) → IsPermitted a log → MayFollow a log e → (r : List ℕ) → has_role r a.roles ≡ true → (l : LocalTree) × (projection widest r a.global ≡ Some l) × IsTrace l (own_actions r (log ++ e ∷ []))
trace_more a log e p h r d =
    elim (cases_Bool (is_action_of r e)) [
      | inl i ↦
          let b = and_parts (is_action e) (bytes_eq r (subject_of e)) i in
          let same : subject_of e ≡ r = sym (bytes_same r (subject_of e) b.1) in
          let P : List ℕ → Type 0 = λ s. is_action_of s e ≡ true → (l : LocalTree) × (projection widest s a.global ≡ Some l) × IsTrace l (own_actions s (log ++ e ∷ [])) in
          subst P same (subject_trace a log e (may_act a log e h b.0)) i
      | inr i ↦ let l = p.traces r d in (l.0, l.1, subst (IsTrace l.0) (sym (own_same r log e i)) l.2)
    ]

prefix_now : (a : Agreement) (log : List Event) (p q : List ℕ) → IsPermitted a log → IsPrefix (received p q log) (sent p q log)
prefix_now a log p q h = h.queued log [] (sym (append-nil log)) p q

oldest_first : (p q : List ℕ) (m : Message) (log : List Event) (rest : List Message) → sent p q log ≡ received p q log ++ rest → IsOldest p q m log → (more : List Message) × (rest ≡ m ∷ more)
oldest_first p q m log rest e h = (h.0, append_cancel_left (received p q log) rest (m ∷ h.0) (sym e ∙ h.1))

prefix_more : (a : Agreement) (log : List Event) (e : Event) → IsPermitted a log → MayFollow a log e → (p q : List ℕ) → IsPrefix (received p q log ++ filter_map (received_message p q) (e ∷ [])) (sent p q log ++ filter_map (sent_message p q) (e ∷ []))
prefix_more a log (Join r) h f p q =
    let w = prefix_now a log p q h in prefix_grown (sent p q log) (received p q log) w.0 [] w.1
prefix_more a log (Sent s u m) h f p q =
    let w = prefix_now a log p q h in prefix_grown (sent p q log) (received p q log) w.0 (filter_map (sent_message p q) (Sent s u m ∷ [])) w.1
prefix_more a log (Received s u m) h f p q =
    let w = prefix_now a log p q h in
    let b = bytes_eq p s && bytes_eq q u in
    let front : b ≡ true → (rest : List Message) × (w.0 ≡ m ∷ rest) =
    λ i. let y = and_parts (bytes_eq p s) (bytes_eq q u) i in
    let there : IsOldest p q m log = subst (λ x. IsOldest x q m log) (sym (bytes_same p s y.0)) (subst (λ x. IsOldest s x m log) (sym (bytes_same q u y.1)) f.1) in
    oldest_first p q m log w.0 w.1 there in
    let added : filter_map (received_message p q) (Received s u m ∷ []) ≡ listed b m = listed_is b m (received_message p q) (Received s u m) refl in
    subst (λ x. IsPrefix (received p q log ++ x) (sent p q log ++ [])) (sym added) (prefix_taken b m (sent p q log) (received p q log) w.0 w.1 front)

pub permitted_on : (a : Agreement) (log : List Event) (e : Event) → IsPermitted a log → MayFollow a log e → IsPermitted a (log ++ e ∷ [])
permitted_on a log e p h = record {
  joined = joined_more a.roles log e p.joined (may_join a log e h);
  declared = all_more (λ x. has_role (subject_of x) a.roles ≡ true) log e p.declared (may_declared a log e h);
  traces = trace_more a log e p h;
  queued = queued_more log e p.queued (λ x y. rw (received_on x y log e, sent_on x y log e) (prefix_more a log e p h x y));
}

-- the last event of a permitted log
last_declared : (a : Agreement) (log : List Event) (e : Event) → IsPermitted a (log ++ e ∷ []) → has_role (subject_of e) a.roles ≡ true
last_declared a log e p = all_last (λ x. has_role (subject_of x) a.roles ≡ true) log e p.declared

last_act : (a : Agreement) (log : List Event) (e : Event) → IsPermitted a (log ++ e ∷ []) → has_joined (subject_of e) log ≡ true → is_action_of (subject_of e) e ≡ true → MayAct a log (subject_of e) (action_of e)
last_act a log e p j i =
    let r = subject_of e in
    let d = last_declared a log e p in
    let u = p.traces r d in
    record { declared = d; joined = j; local = u.0; projected = u.1; trace = subst (IsTrace u.0) (own_more r log e i) u.2 }

last_oldest : (a : Agreement) (log : List Event) (p q : List ℕ) (m : Message) → IsPermitted a (log ++ Received p q m ∷ []) → IsOldest p q m log
last_oldest a log p q m h =
    let e = Received p q m in
    let whole : IsPrefix (received p q (log ++ e ∷ [])) (sent p q (log ++ e ∷ [])) = h.queued (log ++ e ∷ []) [] (sym (append-nil (log ++ e ∷ []))) p q in
    let both : (bytes_eq p p && bytes_eq q q) ≡ true = and_from (bytes_eq p p) (bytes_eq q q) (bytes_itself p) (bytes_itself q) in
    let added : filter_map (received_message p q) (e ∷ []) ≡ m ∷ [] = listed_is true m (received_message p q) e (rw both) in
    let taken : received p q (log ++ e ∷ []) ≡ received p q log ++ m ∷ [] = received_on p q log e ∙ ap (λ x. received p q log ++ x) added in
    let same : sent p q (log ++ e ∷ []) ≡ sent p q log = sent_on p q log e ∙ append-nil (sent p q log) in
    (whole.0, sym same ∙ whole.1 ∙ ap (λ x. x ++ whole.0) taken ∙ append_assoc (received p q log) (m ∷ []) whole.0)

pub may_follow : (a : Agreement) (log : List Event) (e : Event) → IsPermitted a (log ++ e ∷ []) → MayFollow a log e
may_follow a log (Join r) p = p.joined log [] (Join r) refl
may_follow a log (Sent p q m) h = last_act a log (Sent p q m) h (h.joined log [] (Sent p q m) refl) (bytes_itself p)
may_follow a log (Received p q m) h =
    (last_act a log (Received p q m) h (h.joined log [] (Received p q m) refl) (bytes_itself q), last_oldest a log p q m h)
