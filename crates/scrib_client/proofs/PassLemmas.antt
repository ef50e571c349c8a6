-- The passes of a connection: each is stored under the id of its own conversation.
use Rattle.std.proofs.Common.{◌≡◌, ◌∙◌, ◌⊎◌, inl, ℕ, zero, suc, Bool, true, false, cond, if◌then◌else◌, List, [], ◌∷◌, length, Option, None, Some, Result, Ok, Err, IfOk, IfErr, OnOk, OnErr, slice_get, nat_eq, map, option_map, unwrap_or, refl, sym, ap, subst, eqb-true}
use Rattle.std.specs.List.{IsDistinct}
use Rattle.std.specs.Map.{keys_of, values_of, lookup}
use Rattle.std.specs.Cmp.{nat_eq_equiv}
use Rattle.std.proofs.lemmas.Option.{none-some, slice_get-map}
use Rattle.std.proofs.lemmas.Map.Entries.{lookup_from_place}
use Rattle.indexmap.specs.IndexMap.{IndexMap, IsUnchanged, insert_entry, set_value_at}
use Rattle.scrib_types.specs.declared.event.Event.{Event}
use Rattle.scrib_library.specs.Holdings.{Holdings}
use Rattle.scrib_core.specs.Held.{Records}
use Rattle.scrib_locked_steps.specs.declared.pass_calls.PassRefusal.{PassRefusal}
use Rattle.scrib_core.specs.declared.conversation_steps.Noted.{Noted}
use Rattle.scrib_locked_steps.specs.OneByOne.{OneByOne}
use Rattle.scrib_locked_steps.specs.Passes.{PassHeld, IsReceipted}
use Rattle.scrib_locked_steps.specs.Passing.{AnswersBy}
use Rattle.scrib_shards.specs.Called.{AreAnsweredSome}
use Rattle.scrib_client.specs.ConnectionPasses.{AreOwn, conversation_id, pass_for, pass_after, pass_before}

abbrev held_to : PassHeld → ℕ
held_to p = p.conversation

module _ (id : ℕ) where
  -- inserting a pass under the id of its conversation keeps `AreOwn`
  pub own_inserted : (kept : List (ℕ × PassHeld)) (p : PassHeld) → AreOwn kept → p.conversation ≡ id → AreOwn (insert_entry nat_eq kept id p)
  own_inserted [] p own is = ap (λ (n : ℕ). n ∷ []) is
  own_inserted (e ∷ es) p own is = by (nat_eq id e.0) refl (own_inserted es p (cc own) is)
    where
      by : (t : Bool) → nat_eq id e.0 ≡ t → AreOwn (insert_entry nat_eq es id p) → AreOwn (if t then (e.0, p) ∷ es else e ∷ insert_entry nat_eq es id p)
      by true same rest =
          let here : p.conversation ≡ e.0 = is ∙ eqb-true id e.0 same in
          let others : map conversation_id es ≡ keys_of es = cc own in
          cc (here, others)
      by false other rest =
          let first : e.1.conversation ≡ e.0 = cc own in
          cc (first, rest)

  -- the pass of an id has the conversation of this id
  pub own_pass : (n : ℕ) (kept : List (ℕ × PassHeld)) → AreOwn kept → (pass_for n kept id).conversation ≡ id
  own_pass n [] own = refl
  own_pass n (e ∷ es) own = by (nat_eq id e.0) refl (own_pass n es (cc own))
    where
      by : (t : Bool) → nat_eq id e.0 ≡ t → (pass_for n es id).conversation ≡ id
          → (unwrap_or (cond t (Some e.1) (lookup (nat_eq id) es)) (record { conversation = id; opening = n; receipts = [] })).conversation ≡ id
      by true same rest =
          let first : e.1.conversation ≡ e.0 = cc own in
          first ∙ sym (eqb-true id e.0 same)
      by false other rest = rest

  -- the entry at a place, from its key and its value
  entry_at : (kept : List (ℕ × PassHeld)) (at : ℕ) (p : PassHeld) → slice_get (keys_of kept) at ≡ Some id → slice_get (values_of kept) at ≡ Some p → slice_get kept at ≡ Some (id, p)
  entry_at [] at p key value = absurd (none-some id key)
  entry_at (e ∷ es) zero p key value =
      let k : e.0 ≡ id = cc key in
      let v : e.1 ≡ p = cc value in
      λ j. Some (k j, v j)
  entry_at (e ∷ es) (suc at) p key value = entry_at es at p key value

  -- the pass at the index of an id is the pass of the id
  pub pass_there : (n : ℕ) (kept : List (ℕ × PassHeld)) (at : ℕ) (p : PassHeld) → IsDistinct nat_eq (keys_of kept) → slice_get (keys_of kept) at ≡ Some id → slice_get (values_of kept) at ≡ Some p → pass_for n kept id ≡ p
  pass_there n kept at p distinct key value =
      ap (λ (o : Option PassHeld). unwrap_or o (record { conversation = id; opening = n; receipts = [] })) (lookup_from_place nat_eq_equiv kept at id p distinct (entry_at kept at p key value))

  -- the conversation of the pass at the index of an id is that id
  pub own_there : (kept : List (ℕ × PassHeld)) (at : ℕ) (p : PassHeld) → AreOwn kept → slice_get (keys_of kept) at ≡ Some id → slice_get (values_of kept) at ≡ Some p → p.conversation ≡ id
  own_there [] at p own key value = absurd (none-some id key)
  own_there (e ∷ es) zero p own key value =
      let first : e.1.conversation ≡ e.0 = cc own in
      let is : e.1 ≡ p = cc value in
      sym (ap held_to is) ∙ first ∙ cc key
  own_there (e ∷ es) (suc at) p own key value =
      let rest : map conversation_id es ≡ keys_of es = cc own in
      own_there es at p rest key value

  -- the value of an entry that was read
  pub value_read : (kept : List (ℕ × PassHeld)) (at key : ℕ) (p : PassHeld) → slice_get kept at ≡ Some (key, p) → slice_get (values_of kept) at ≡ Some p
  value_read kept at key p read = slice_get-map (λ (e : ℕ × PassHeld). e.1) kept at ∙ ap (option_map (λ (e : ℕ × PassHeld). e.1)) read

  keys_set : (kept : List (ℕ × PassHeld)) (at : ℕ) (w : PassHeld) → keys_of (set_value_at kept at w) ≡ keys_of kept
  keys_set [] at w = refl
  keys_set (e ∷ es) zero w = refl
  keys_set (e ∷ es) (suc at) w = ap (λ (l : List ℕ). e.0 ∷ l) (keys_set es at w)

  value_set : (kept : List (ℕ × PassHeld)) (at : ℕ) (w : PassHeld) → slice_get (keys_of kept) at ≡ Some id → slice_get (values_of (set_value_at kept at w)) at ≡ Some w
  value_set [] at w key = absurd (none-some id key)
  value_set (e ∷ es) zero w key = refl
  value_set (e ∷ es) (suc at) w key = value_set es at w key

  -- a pass that was written at the index of an id is the pass of the id
  pub pass_set : (n : ℕ) (kept : List (ℕ × PassHeld)) (at : ℕ) (w : PassHeld) → IsDistinct nat_eq (keys_of kept) → slice_get (keys_of kept) at ≡ Some id → pass_for n (set_value_at kept at w) id ≡ w
  pass_set n kept at w distinct key =
      pass_there n (set_value_at kept at w) at w (subst (IsDistinct nat_eq) (sym (keys_set kept at w)) distinct) (ap (λ (l : List ℕ). slice_get l at) (keys_set kept at w) ∙ key) (value_set kept at w key)

  -- writing a pass of the conversation at the index of its id keeps `AreOwn`
  pub own_set : (kept : List (ℕ × PassHeld)) (at : ℕ) (w : PassHeld) → AreOwn kept → slice_get (keys_of kept) at ≡ Some id → w.conversation ≡ id → AreOwn (set_value_at kept at w)
  own_set [] at w own key is = refl
  own_set (e ∷ es) zero w own key is =
      let here : w.conversation ≡ e.0 = cc in
      let rest : map conversation_id es ≡ keys_of es = cc own in
      cc (here, rest)
  own_set (e ∷ es) (suc at) w own key is =
      let first : e.1.conversation ≡ e.0 = cc own in
      let rest : map conversation_id es ≡ keys_of es = cc own in
      cc (first, own_set es at w rest key is)

  -- inserting a new pass keeps `AreOwn`, whether it succeeds or fails
  pub own_after_insert : {S X E : Type 0} (old new : IndexMap ℕ PassHeld S) (r : Result X E) (p : PassHeld) → OnOk r (new.entries ≡ insert_entry nat_eq old.entries id p) → OnErr r (IsUnchanged old new)
      → p.conversation ≡ id → AreOwn old.entries → AreOwn new.entries
  own_after_insert old new (Ok x) p inserted same is own = subst AreOwn (sym inserted) (own_inserted old.entries p own is)
  own_after_insert old new (Err e) p inserted same is own = subst AreOwn (sym same) own

-- a pass that was made for the conversation is stored
pub connected : {S : Type 0} (old new : IndexMap ℕ PassHeld S) (id n : ℕ) (p : PassHeld) → lookup (nat_eq id) old.entries ≡ None → lookup (nat_eq id) new.entries ≡ Some p
    → p ≡ record { conversation = id; opening = n; receipts = [] } → pass_after new id ≡ pass_before old new id
connected old new id n p absent there is =
    let after : pass_after new id ≡ p = ap (λ (o : Option PassHeld). unwrap_or o (record { conversation = id; opening = 0; receipts = [] })) there in
    let numbered : n ≡ (pass_after new id).opening = sym (ap (λ (x : PassHeld). x.opening) (after ∙ is)) in
    let made : (let x : PassHeld = record { conversation = id; opening = n; receipts = [] } in x ≡ pass_before old new id) =
    ap (λ (m : ℕ). let x : PassHeld = record { conversation = id; opening = m; receipts = [] } in x) numbered
    ∙ sym (ap (λ (o : Option PassHeld). unwrap_or o (record { conversation = id; opening = (pass_after new id).opening; receipts = [] })) absent) in
    after ∙ is ∙ made

-- the conversation of the pass and the number of its opening are the same
abbrev pub LeavesBoth : PassHeld → PassHeld → Type 0
LeavesBoth p q = (q.conversation ≡ p.conversation) × (q.opening ≡ p.opening)

pub both_kept : (p q : PassHeld) (e : Event) (r : Result Noted PassRefusal) → IfOk r (λ n. IsReceipted p e n q) → OnErr r (q ≡ p) → LeavesBoth p q
both_kept p q e (Ok n) receipted same = (ap (λ (x : PassHeld). x.conversation) receipted.added, ap (λ (x : PassHeld). x.opening) receipted.added)
both_kept p q e (Err f) receipted same = (ap (λ (x : PassHeld). x.conversation) same, ap (λ (x : PassHeld). x.opening) same)

answer_keeps : (h : Holdings) (s t : Records × PassHeld) (e : Event) (r : Result Noted PassRefusal) → AnswersBy h s e r t → LeavesBoth s.1 t.1
answer_keeps h s t e (Ok n) x = (ap (λ (y : PassHeld). y.conversation) x.2.added, ap (λ (y : PassHeld). y.opening) x.2.added)
answer_keeps h s t e (Err f) x = (ap (λ (u : Records × PassHeld). u.1.conversation) x.1, ap (λ (u : Records × PassHeld). u.1.opening) x.1)

all_keep : (h : Holdings) (s t : Records × PassHeld) (es : List Event) (rs : List (Result Noted PassRefusal)) → OneByOne (AnswersBy h) s es rs t → LeavesBoth s.1 t.1
all_keep h s t [] [] x = (ap (λ (u : Records × PassHeld). u.1.conversation) x, ap (λ (u : Records × PassHeld). u.1.opening) x)
all_keep h s t [] (r ∷ rs) x = absurd x
all_keep h s t (e ∷ es) [] x = absurd x
all_keep h s t (e ∷ es) (r ∷ rs) x =
    let rest = all_keep h x.0 t es rs x.2 in
    let first = answer_keeps h s x.0 e r x.1 in
    (rest.0 ∙ first.0, rest.1 ∙ first.1)

-- many notes leave both
pub both_kept_by_all : (p q : PassHeld) (es : List Event) (rs : List (Result Noted PassRefusal)) → AreAnsweredSome p es rs q → LeavesBoth p q
both_kept_by_all p q es rs x = all_keep x.0 (x.1, p) (x.2, q) es rs x.4

-- a call that leaves the opening of the pass leaves the pass that was there before
pub before_kept : (old kept new : List (ℕ × PassHeld)) (id : ℕ) (p q : PassHeld) → pass_for 0 kept id ≡ p → pass_for 0 new id ≡ q → q.opening ≡ p.opening
    → pass_for 0 kept id ≡ pass_for (pass_for 0 kept id).opening old id → pass_for (pass_for 0 new id).opening old id ≡ p
before_kept old kept new id p q first last same is =
    ap (λ (n : ℕ). pass_for n old id) (ap (λ (x : PassHeld). x.opening) last ∙ same ∙ ap (λ (x : PassHeld). x.opening) (sym first)) ∙ sym is ∙ first

one_by_one_length : {S A B : Type 0} (Step : S → A → B → S → Type 0) (s t : S) (aa : List A) (bs : List B) → OneByOne Step s aa bs t → length bs ≡ length aa
one_by_one_length Step s t [] [] x = refl
one_by_one_length Step s t [] (b ∷ bs) x = absurd x
one_by_one_length Step s t (a ∷ aa) [] x = absurd x
one_by_one_length Step s t (a ∷ aa) (b ∷ bs) x = ap suc (one_by_one_length Step x.0 t aa bs x.2)

-- each note has a reply
pub replies_each : (p q : PassHeld) (es : List Event) (rs : List (Result Noted PassRefusal)) → AreAnsweredSome p es rs q → length rs ≡ length es
replies_each p q es rs x = one_by_one_length (AnswersBy x.0) (x.1, p) (x.2, q) es rs x.4

-- what refuses a call by a pass is one of two reasons
pub refused_so : {A E : Type 0} (P Q : E → Type 0) (r : Result A E) → IfErr r P → IfErr r (λ f. P f ⊎ Q f)
refused_so P Q (Ok v) h = tt
refused_so P Q (Err f) h = inl h
