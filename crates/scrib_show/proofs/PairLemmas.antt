-- A conversation's log has an event for each line that is kept.
use Rattle.std.proofs.Common.{◌≡◌, ◌⊎◌, inl, inr, ℕ, ◌+◌, Bool, true, false, cond, List, [], ◌∷◌, ◌++◌, ◌∙◌, length, Option, Some, None, nat_eq, refl, sym, ap, subst, arith, length-append, ◌==◌, if◌then◌else◌}
use Rattle.std.specs.Prelude.{IsSome}
use Rattle.std.specs.Map.{lookup, set_value}
use Rattle.std.specs.Cmp.{nat_eq_equiv}
use Rattle.std.proofs.lemmas.Bool.{true≢false}
use Rattle.std.proofs.lemmas.Bool.Decides.{Decides-eqb}
use Rattle.std.proofs.lemmas.Map.{lookup-set_value}
use Rattle.scrib_types.specs.declared.event.Event.{Event}
use Rattle.scrib_core.specs.declared.step.Step.{Step}
use Rattle.scrib_core.specs.declared.step.Step.TheVariants.{Put, Withdraw, Open, Note, Turn, Ask, Close}
use Rattle.scrib_core.specs.declared.step.Step.TheVariants as step
use Rattle.scrib_core.specs.declared.reply.Reply.{Reply}
use Rattle.scrib_core.specs.declared.reply.Reply.TheVariants as reply
use Rattle.scrib_core.specs.World.{World, Conversation, conversation, noted, opened, IsTakenOut}
use Rattle.scrib_core.specs.Answers.{State, IsAnswered}
use Rattle.scrib_cli.specs.Requests.{OfStep}
use Rattle.scrib_show.specs.EventLines.{lines_after, HasEventFor}

some_same : {A : Type 0} (x y : A) → Some x ≡ Some y → x ≡ y
some_same x y e = cc

-- the conversations are the same
pub pairs_kept : (w v : World) (id : ℕ) (so : List ℕ) → v.conversations ≡ w.conversations → HasEventFor w id so → HasEventFor v id so
pairs_kept w v id so e h c there = h c (sym (ap (λ (cs : List (ℕ × Conversation)). conversation (record w { conversations = cs }) id) e) ∙ there)

-- a conversation after one is added
found_added : (cs : List (ℕ × Conversation)) (i id : ℕ) (x c : Conversation) → lookup (nat_eq id) (cs ++ (i, x) ∷ []) ≡ Some c → (lookup (nat_eq id) cs ≡ Some c) ⊎ ((nat_eq id i ≡ true) × (x ≡ c))
found_added [] i id x c e = by (nat_eq id i) refl e
  where
    by : (b : Bool) → nat_eq id i ≡ b → cond b (Some x) None ≡ Some c → (None ≡ Some c) ⊎ ((nat_eq id i ≡ true) × (x ≡ c))
    by true t f = inr (t, some_same x c f)
    by false t f = inl f
found_added (y ∷ cs) i id x c e = by (nat_eq id y.0) e (found_added cs i id x c)
  where
    by : (b : Bool) → cond b (Some y.1) (lookup (nat_eq id) (cs ++ (i, x) ∷ [])) ≡ Some c
        → (lookup (nat_eq id) (cs ++ (i, x) ∷ []) ≡ Some c → (lookup (nat_eq id) cs ≡ Some c) ⊎ ((nat_eq id i ≡ true) × (x ≡ c)))
        → (cond b (Some y.1) (lookup (nat_eq id) cs) ≡ Some c) ⊎ ((nat_eq id i ≡ true) × (x ≡ c))
    by true f rest = inl f
    by false f rest = rest f

none_some : {A : Type 0} (o : Option A) (x : A) → o ≡ None → o ≡ Some x → ⊥
none_some o x n s = let e : None ≡ Some x = sym n ∙ s in cc

-- an opening
pairs_opened : (cs : List (ℕ × Conversation)) (i id n : ℕ) (so : List ℕ) (name : List (List ℕ)) (c : Conversation) → lookup (nat_eq i) cs ≡ None
    → ((d : Conversation) → lookup (nat_eq id) cs ≡ Some d → length so ≡ length d.log)
    → lookup (nat_eq id) (cs ++ (i, opened name) ∷ []) ≡ Some c → length (if i == id then [] else so) ≡ length c.log
pairs_opened cs i id n so name c none h there = by (i == id) refl (found_added cs i id (opened name) c there)
  where
    by : (b : Bool) → (i == id) ≡ b → (lookup (nat_eq id) cs ≡ Some c) ⊎ ((nat_eq id i ≡ true) × (opened name ≡ c)) → length (if b then [] else so) ≡ length c.log
    by true e (inl old) =
        let same : i ≡ id = (Decides-eqb i id).0 e in
        absurd (none_some (lookup (nat_eq id) cs) c (subst (λ (k : ℕ). lookup (nat_eq k) cs ≡ None) same none) old)
    by true e (inr new) = ap (λ (d : Conversation). length d.log) new.1
    by false e (inl old) = h c old
    by false e (inr new) =
        let same : id ≡ i = (Decides-eqb id i).0 new.0 in
        absurd (true≢false (sym ((Decides-eqb i id).1 (sym same)) ∙ e))

-- a note
pairs_noted : (cs : List (ℕ × Conversation)) (i id n : ℕ) (so : List ℕ) (e : Event) (old c : Conversation) → lookup (nat_eq i) cs ≡ Some old
    → ((d : Conversation) → lookup (nat_eq id) cs ≡ Some d → length so ≡ length d.log)
    → lookup (nat_eq id) (set_value (nat_eq i) cs (noted old e)) ≡ Some c → length (if i == id then so ++ n ∷ [] else so) ≡ length c.log
pairs_noted cs i id n so e old c found h there = by (nat_eq i id) refl (sym set ∙ there)
  where
    one : (x y : ℕ) → nat_eq i x ≡ true → nat_eq i y ≡ nat_eq x y
    one x y t = ap (λ (k : ℕ). nat_eq k y) ((Decides-eqb i x).0 t)

    set : lookup (nat_eq id) (set_value (nat_eq i) cs (noted old e)) ≡ cond (nat_eq i id) (Some (noted old e)) (lookup (nat_eq id) cs)
    set = lookup-set_value nat_eq_equiv (nat_eq i) one id (noted old e) cs (subst IsSome (sym found) refl)

    by : (b : Bool) → nat_eq i id ≡ b → cond b (Some (noted old e)) (lookup (nat_eq id) cs) ≡ Some c → length (if b then so ++ n ∷ [] else so) ≡ length c.log
    by true t f =
        let same : i ≡ id = (Decides-eqb i id).0 t in
        let before : length so ≡ length old.log = h old (subst (λ (k : ℕ). lookup (nat_eq k) cs ≡ Some old) same found) in
        let more : length so + 1 ≡ length (old.log ++ e ∷ []) = omega (arith, before, length-append old.log (e ∷ [])) in
        let is : noted old e ≡ c = some_same (noted old e) c f in
        length-append so (n ∷ []) ∙ more ∙ ap (λ (d : Conversation). length d.log) is
    by false t f = h c f

-- a close
pairs_closed : (w v : World) (i id : ℕ) (so : List ℕ) (c : Conversation) → IsTakenOut i w.conversations c v.conversations → HasEventFor w id so → HasEventFor v id so
pairs_closed w v i id so c out h d there = by (nat_eq i id) refl
  where
    by : (b : Bool) → nat_eq i id ≡ b → length so ≡ length d.log
    by true t =
        let same : i ≡ id = (Decides-eqb i id).0 t in
        absurd (none_some (conversation v id) d (subst (λ (k : ℕ). conversation v k ≡ None) same out.gone) there)
    by false t = h d (sym (out.others id (λ e. true≢false (sym ((Decides-eqb i id).1 (sym e)) ∙ t))) ∙ there)

-- a step that is answered
pub pairs_step : (id n : ℕ) (so : List ℕ) (s t : State) (st : Step) (r : Reply) → IsAnswered s st r t → HasEventFor s.world id so → HasEventFor t.world id (lines_after id so n (OfStep r))
pairs_step id n so s t st (reply.Refused f) a h = subst (λ (u : State). HasEventFor u.world id so) (sym a.1) h
pairs_step id n so s t (Put text) (reply.Edited e changes) a h = pairs_kept s.world t.world id so a.follows.3 h
pairs_step id n so s t (Withdraw name) (reply.Edited e changes) a h = pairs_kept s.world t.world id so a.follows.3 h
pairs_step id n so s t (step.Profile p) (reply.Profiled q) a h = pairs_kept s.world t.world id so (ap (λ (v : World). v.conversations) a.follows.1) h
pairs_step id n so s t (Open i name) (reply.Opened j k) a h = λ c there.
    let there_i : lookup (nat_eq id) (s.world.conversations ++ (i, opened name) ∷ []) ≡ Some c = sym (ap (λ (v : World). conversation v id) a.follows.3) ∙ there in
    subst (λ (x : ℕ). length (lines_after id so n (OfStep (reply.Opened x k))) ≡ length c.log) (sym a.replies.0) (pairs_opened s.world.conversations i id n so name c a.follows.0 h there_i)
pairs_step id n so s t (Note i e) (reply.Noted j place verdict) a h = λ c there.
    let there_i : lookup (nat_eq id) (set_value (nat_eq i) s.world.conversations (noted a.follows.0 e)) ≡ Some c = sym (ap (λ (v : World). conversation v id) a.follows.3) ∙ there in
    subst (λ (x : ℕ). length (lines_after id so n (OfStep (reply.Noted x place verdict))) ≡ length c.log) (sym a.replies.0) (pairs_noted s.world.conversations i id n so e a.follows.0 c a.follows.1 h there_i)
pairs_step id n so s t (Turn i) (reply.Judged j name events verdict) a h = subst (λ (v : World). HasEventFor v id so) (sym a.follows.1) h
pairs_step id n so s t (Ask i) (reply.Judged j name events verdict) a h = subst (λ (v : World). HasEventFor v id so) (sym a.follows.1) h
pairs_step id n so s t (Close i) (reply.Closed j name events verdict complete) a h = pairs_closed s.world t.world i id so a.follows.0.0 a.follows.0.1 h
pairs_step id n so s t st r a h = absurd a.replies
