-- The conversation at a place of the map.
use Rattle.std.proofs.Common.{◌≡◌, ◌∙◌, ℕ, List, [], ◌∷◌, ◌++◌, Option, None, Some, slice_get, get_or, position, nat_eq, IfSome, option_map, refl, sym, ap, subst, inl, inr, eqb-true}
use Rattle.std.specs.List.{IsDistinct}
use Rattle.std.specs.Map.{keys_of, values_of}
use Rattle.std.specs.Cmp.{nat_eq_equiv}
use Rattle.std.proofs.lemmas.Bool.{cases_Bool}
use Rattle.std.proofs.lemmas.Option.{slice_get-map, slice_get-get_or, none-some, same_Some}
use Rattle.std.proofs.lemmas.List.Quantifiers.{position-Some}
use Rattle.std.proofs.lemmas.Map.Entries.{lookup_from_place}
use Rattle.indexmap.specs.IndexMap.{IndexMap, IsUnique, with_value_at}
use Rattle.indexmap.proofs.CallerLemmas.{updates-with_value_at}
use Rattle.scrib_types.specs.declared.event.Event.{Event}
use Rattle.scrib_hold_stage.specs.declared.noted.Noted.{Noted}
use Rattle.scrib_hold_stage.specs.declared.conversation.Conversation.{Conversation}
use Rattle.scrib_hold_stage.specs.Conversations.{IsUnopened, IsUnopenedAt, IsOpenAt, IsPushedTo, IsOpenedIn, IsExpiredIn}
use Rattle.scrib_hold_stage.specs.Changes.{Conversations, conversation_at, IsPlaceOf, LeavesOthers, IsMet, IsPushedOf, IsOpenedOf, IsExpiredOf}

-- the given place, if the id is there
pub read_at : {A : Type 0} (cs : Conversations A) (at key id : ℕ) (c : Conversation A) → Some (key, c) ≡ slice_get cs at → key ≡ id → IsPlaceOf cs at id
read_at {A} cs at key id c read same = (c, sym read ∙ ap (λ (n : ℕ). let o : Option (ℕ × Conversation A) = Some (n, c) in o) same)

-- the place that a search returns
pub found_at : {A : Type 0} (cs : Conversations A) (id : ℕ) (o : Option ℕ) → o ≡ position (nat_eq id) (keys_of cs) → IfSome o (λ at. IsPlaceOf cs at id)
found_at cs id None index = tt
found_at {A} cs id (Some i) index =
    let p = position-Some (nat_eq id) (keys_of cs) i 0 (sym index) in
    let at : slice_get (keys_of cs) i ≡ Some id = slice_get-get_or (keys_of cs) i 0 p.0 ∙ ap Some (sym (eqb-true id (get_or (keys_of cs) i 0) p.1)) in
    by (slice_get cs i) refl (sym (slice_get-map (λ (e : ℕ × Conversation A). e.0) cs i) ∙ at)
  where
    by : (o : Option (ℕ × Conversation A)) → slice_get cs i ≡ o → option_map (λ (e : ℕ × Conversation A). e.0) o ≡ Some id → IsPlaceOf cs i id
    by None e k = absurd (none-some id k)
    by (Some (key, c)) e k = let same : key ≡ id = same_Some key id k in (c, e ∙ ap (λ (n : ℕ). let o : Option (ℕ × Conversation A) = Some (n, c) in o) same)

-- the conversation at the place of an id is that of the id
pub there_at : {A : Type 0} (cs : Conversations A) (at id : ℕ) (p : IsPlaceOf cs at id) → IsDistinct nat_eq (keys_of cs) → conversation_at cs id ≡ Some p.0
there_at cs at id p distinct = lookup_from_place nat_eq_equiv cs at id p.0 distinct p.1

-- a write at the place of an id is one under the id
pub written_at : {A S : Type 0} (m : IndexMap ℕ (Conversation A) S) (at id : ℕ) (w : Conversation A) → IsPlaceOf m.entries at id → IsUnique nat_eq m
    → (conversation_at (with_value_at m at w).entries id ≡ Some w) × LeavesOthers id m.entries (with_value_at m at w).entries
written_at m at id w p unique = let u = updates-with_value_at m at w nat_eq_equiv unique id p.0 p.1 in (u.1, u.2)

-- the conversation that was read at the place of an id
pub value_at : {A : Type 0} (cs : Conversations A) (at id : ℕ) (c : Conversation A) → IsPlaceOf cs at id → IsDistinct nat_eq (keys_of cs) → Some c ≡ slice_get (values_of cs) at → conversation_at cs id ≡ Some c
value_at {A} cs at id c p distinct read =
    let here : slice_get (values_of cs) at ≡ Some p.0 = slice_get-map (λ (e : ℕ × Conversation A). e.1) cs at ∙ ap (option_map (λ (e : ℕ × Conversation A). e.1)) p.1 in
    there_at cs at id p distinct ∙ sym here ∙ sym read

-- ---- a conversation that is met

pub met_before : {A : Type 0} (event : A → Event) (id : ℕ) (cs : Conversations A) → IsMet event id cs cs
met_before event id cs = record { others = λ k differs. refl; unopened = λ waiting k. k; opened = λ arrivals released expired k. k }

pub met_now : {A : Type 0} (event : A → Event) (id : ℕ) (old new : Conversations A) (c : Conversation A) → conversation_at old id ≡ None → conversation_at new id ≡ Some c
    → LeavesOthers id old new → IsUnopened event [] c → IsMet event id old new
met_now event id old new c none there others k = record {
  others = others;
  unopened = λ waiting w. (let empty : waiting ≡ [] = subst (IsUnopenedAt event waiting) none w in
      subst (IsUnopenedAt event waiting) (sym there) (subst (λ z. IsUnopened event z c) (sym empty) k));
  opened = λ arrivals released expired w. absurd (subst (IsOpenAt event arrivals released expired) none w);
}

-- ---- a call for a conversation

pub pushed_of : {A : Type 0} (event : A → Event) (x : Noted A) (old mid new : Conversations A) (released now : List (Noted A)) (c d : Conversation A)
    → IsMet event x.conversation old mid → conversation_at mid x.conversation ≡ Some c → conversation_at new x.conversation ≡ Some d → LeavesOthers x.conversation mid new
    → IsPushedTo event x (Some c) (Some d) released now → IsPushedOf event x old new released now
pushed_of event x old mid new released now c d m was is others p = record {
  others = λ k differs. others k differs ∙ m.others k differs;
  pushed = record {
    given = p.given;
    appended = p.appended;
    unopened = λ waiting w. (let q = p.unopened waiting (subst (IsUnopenedAt event waiting) was (m.unopened waiting w)) in
        (subst (IsUnopenedAt event (waiting ++ x ∷ [])) (sym is) q.0, q.1));
    opened = λ arrivals earlier expired w.
        subst (IsOpenAt event (arrivals ++ x ∷ []) (earlier ++ p.given) expired) (sym is)
        (p.opened arrivals earlier expired (subst (IsOpenAt event arrivals earlier expired) was (m.opened arrivals earlier expired w)));
  };
}

pub opened_of : {A : Type 0} (event : A → Event) (id : ℕ) (old mid new : Conversations A) (released now : List (Noted A)) (c d : Conversation A)
    → IsMet event id old mid → conversation_at mid id ≡ Some c → conversation_at new id ≡ Some d → LeavesOthers id mid new
    → IsOpenedIn event (Some c) (Some d) released now → IsOpenedOf event id old new released now
opened_of event id old mid new released now c d m was is others p = record {
  others = λ k differs. others k differs ∙ m.others k differs;
  opened = record {
    given = p.given;
    appended = p.appended;
    unopened = λ waiting w. subst (IsOpenAt event waiting p.given []) (sym is) (p.unopened waiting (subst (IsUnopenedAt event waiting) was (m.unopened waiting w)));
    opened = λ arrivals earlier expired w.
        subst (IsOpenAt event arrivals (earlier ++ p.given) expired) (sym is)
        (p.opened arrivals earlier expired (subst (IsOpenAt event arrivals earlier expired) was (m.opened arrivals earlier expired w)));
  };
}

pub expired_of : {A : Type 0} (event : A → Event) (id time : ℕ) (old new : Conversations A) (released now : List (Noted A)) (c d : Conversation A)
    → conversation_at old id ≡ Some c → conversation_at new id ≡ Some d → LeavesOthers id old new
    → IsExpiredIn event time (Some c) (Some d) released now → IsExpiredOf event id time old new released now
expired_of event id time old new released now c d was is others p = record {
  others = others;
  expired = subst (λ o. IsExpiredIn event time o (conversation_at new id) released now) (sym was) (subst (λ o. IsExpiredIn event time (Some c) o released now) (sym is) p);
}

-- the conversations, where the same was written
pub rewritten : {A : Type 0} (old new : Conversations A) (id : ℕ) (c d : Conversation A) → conversation_at old id ≡ Some c → conversation_at new id ≡ Some d → LeavesOthers id old new → d ≡ c → (k : ℕ) → conversation_at new k ≡ conversation_at old k
rewritten {A} old new id c d was is others same k = elim (cases_Bool (nat_eq id k)) [
  | inl y ↦ subst (λ (n : ℕ). conversation_at new n ≡ conversation_at old n) (eqb-true id k y) (is ∙ ap (λ (z : Conversation A). Some z) same ∙ sym was)
  | inr differs ↦ others k differs
]
