-- No message is in flight but between declared roles.
use Rattle.std.proofs.Common.{◌≡◌, ◌⊎◌, ◌&&◌, inl, inr, true, false, ℕ, zero, suc, List, [], ◌∷◌, ◌++◌, length, drop, refl, sym, ap, ◌∙◌, subst, append_assoc}
use Rattle.std.specs.List.{AllByRecursion}
use Rattle.std.proofs.lemmas.Bool.{and_parts, and_from, true≢false}
use Rattle.scrib_types.specs.declared.message.Message.{Message}
use Rattle.scrib_types.specs.declared.event.Action.{Action}
use Rattle.scrib_types.specs.declared.event.Action.TheVariants.{Sends, Receives}
use Rattle.scrib_types.specs.declared.event.Event.{Event}
use Rattle.scrib_types.specs.declared.event.Event.TheVariants.{Join, Sent, Received}
use Rattle.scrib_types.specs.Trees.{GlobalTree, GlobalBranches, Branch, LocalTree, LocalBranches, NoChoice, Choice}
use Rattle.scrib_types.specs.Merges.{WithOne, one_new, one_known, one_later, WithAll, all_none, all_more, Merges, merges_same, merges_receptions}
use Rattle.scrib_types.specs.WellFormed.{has_role, well_formed, branches_well_formed, is_protocol}
use Rattle.scrib_types.specs.Agreement.{Agreement}
use Rattle.scrib_types.specs.Permitted.{IsPermitted}
use Rattle.scrib_types.specs.Logs.{subject_of, own_actions}
use Rattle.scrib_types.specs.Queues.{sent, received, flights}
use Rattle.scrib_types.specs.Traces.{IsTrace}
use Rattle.scrib_global.specs.Named.{named, named_sends, named_receptions}
use Rattle.scrib_global.proofs.Names.{pair_cases}
use Rattle.scrib_global.proofs.ProjectionLemmas.{Projects, p_end, p_var, p_send, p_recv, p_other, p_idle, p_rec, ProjectEach, each_none, each_one, ProjectMerged, merged_none, merged_one}
use Rattle.scrib_global.proofs.Events.{own_yes, sent_no}
use Rattle.scrib_global.proofs.ProtocolFacts.{parts, rec_body, tests, projects_of}
use Rattle.scrib_global.proofs.Candidates.{Among, among_left, among_right, among_cases, does_named}
use Rattle.scrib_global.proofs.JudgementLemmas.{own_append}

same_to : (q t : List ℕ) (m n : Message) → Sends q m ≡ Sends t n → q ≡ t
same_to q t m n e = cc

no_reception : (q p : List ℕ) (m n : Message) → Sends q m ≡ Receives p n → ⊥
no_reception q p m n e = cc

-- an action in merged alternatives is in one of the two
among_one : (p : List ℕ) {n : Message} {l : LocalTree} {ks js : LocalBranches} → WithOne n l ks js → (a : Action) → Among a (named_receptions p js) → Among a (named_receptions p ks) ⊎ Among a (named_receptions p (Choice n l NoChoice))
among_one p one_new a h = inr h
among_one p one_known a h = inl h
among_one p (one_later {n = o} {k} ne w) a (inl e) = inl (inl e)
among_one p (one_later {n = o} {k} {ls} {js} ne w) a (inr h) =
    elim (among_cases a (named k) (named_receptions p js) h) [
      | inl x ↦ inl (inr (among_left a (named k) (named_receptions p ls) x))
      | inr x ↦ elim (among_one p w a x) [ inl y ↦ inl (inr (among_right a (named k) (named_receptions p ls) y)) | inr y ↦ inr y ]
    ]

among_first : (p : List ℕ) (n : Message) (l : LocalTree) (ls : LocalBranches) (a : Action) → Among a (named_receptions p (Choice n l NoChoice)) → Among a (named_receptions p (Choice n l ls))
among_first p n l ls a (inl e) = inl e
among_first p n l ls a (inr h) =
    elim (among_cases a (named l) [] h) [ inl x ↦ inr (among_left a (named l) (named_receptions p ls) x) | inr x ↦ absurd x ]

among_rest : (p : List ℕ) (n : Message) (l : LocalTree) (ls : LocalBranches) (a : Action) → Among a (named_receptions p ls) → Among a (named_receptions p (Choice n l ls))
among_rest p n l ls a h = inr (among_right a (named l) (named_receptions p ls) h)

among_all : (p : List ℕ) {ks ls js : LocalBranches} → WithAll ks ls js → (a : Action) → Among a (named_receptions p js) → Among a (named_receptions p ks) ⊎ Among a (named_receptions p ls)
among_all p all_none a h = inl h
among_all p (all_more {m = n} {l} {ls} w all) a h =
    elim (among_all p all a h) [
      | inl x ↦ elim (among_one p w a x) [ inl y ↦ inl y | inr y ↦ inr (among_first p n l ls a y) ]
      | inr x ↦ inr (among_rest p n l ls a x)
    ]

among_merged : {j k l : LocalTree} → Merges j k l → (a : Action) → Among a (named l) → Among a (named j) ⊎ Among a (named k)
among_merged merges_same a h = inl h
among_merged (merges_receptions {p} w) a h = among_all p w a h

-- whoever is sent to in a projection is declared
mutual
  named_declared : (roles : List (List ℕ)) (r : List ℕ) {g : GlobalTree} {l : LocalTree} → Projects g r l → well_formed roles g ≡ true → (q : List ℕ) (m : Message) → Among (Sends q m) (named l) → has_role q roles ≡ true
  named_declared roles r p_end h q m a = absurd a
  named_declared roles r p_var h q m a = absurd a
  named_declared roles r (p_send {p} {q = t} {bs} e pe) h q m a = let y = parts roles p t bs h in sends_declared roles r t y.receiver pe y.branches q m a
  named_declared roles r (p_recv {p} {q = t} {bs} e pe) h q m a = let y = parts roles p t bs h in receptions_declared roles r p pe y.branches q m a
  named_declared roles r (p_other {p} {q = t} {m = n} {g} {bs} n1 n2 pj pm) h q m a =
      let y = and_parts (well_formed roles g) (branches_well_formed roles bs) (parts roles p t (Branch n g bs) h).branches in
      merged_declared roles r pm y.1 q m (λ b. named_declared roles r pj y.0 q m b) a
  named_declared roles r (p_idle c x) h q m a = absurd a
  named_declared roles r (p_rec {g} no' p) h q m a = named_declared roles r p (rec_body roles g h) q m a

  sends_declared : (roles : List (List ℕ)) (r t : List ℕ) → has_role t roles ≡ true → {bs : GlobalBranches} {ls : LocalBranches} → ProjectEach bs r ls → branches_well_formed roles bs ≡ true → (q : List ℕ) (m : Message) → Among (Sends q m) (named_sends t ls) → has_role q roles ≡ true
  sends_declared roles r t d each_none h q m a = absurd a
  sends_declared roles r t d (each_one {m = n} p pe) h q m (inl e) = subst (λ x. has_role x roles ≡ true) (sym (same_to q t m n e)) d
  sends_declared roles r t d (each_one {g} {bs} {l} {ls} p pe) h q m (inr a) =
      let y = and_parts (well_formed roles g) (branches_well_formed roles bs) h in
      elim (among_cases (Sends q m) (named l) (named_sends t ls) a) [ inl x ↦ named_declared roles r p y.0 q m x | inr x ↦ sends_declared roles r t d pe y.1 q m x ]

  receptions_declared : (roles : List (List ℕ)) (r t : List ℕ) {bs : GlobalBranches} {ls : LocalBranches} → ProjectEach bs r ls → branches_well_formed roles bs ≡ true → (q : List ℕ) (m : Message) → Among (Sends q m) (named_receptions t ls) → has_role q roles ≡ true
  receptions_declared roles r t each_none h q m a = absurd a
  receptions_declared roles r t (each_one {m = n} p pe) h q m (inl e) = absurd (no_reception q t m n e)
  receptions_declared roles r t (each_one {g} {bs} {l} {ls} p pe) h q m (inr a) =
      let y = and_parts (well_formed roles g) (branches_well_formed roles bs) h in
      elim (among_cases (Sends q m) (named l) (named_receptions t ls) a) [ inl x ↦ named_declared roles r p y.0 q m x | inr x ↦ receptions_declared roles r t pe y.1 q m x ]

  merged_declared : (roles : List (List ℕ)) (r : List ℕ) {bs : GlobalBranches} {j l : LocalTree} → ProjectMerged bs r j l → branches_well_formed roles bs ≡ true → (q : List ℕ) (m : Message) → (Among (Sends q m) (named j) → has_role q roles ≡ true) → Among (Sends q m) (named l) → has_role q roles ≡ true
  merged_declared roles r merged_none h q m f a = f a
  merged_declared roles r (merged_one {g} {bs} p v pm) h q m f a =
      let y = and_parts (well_formed roles g) (branches_well_formed roles bs) h in
      merged_declared roles r pm y.1 q m (λ b. elim (among_merged v (Sends q m) b) [ inl x ↦ f x | inr x ↦ named_declared roles r p y.0 q m x ]) a

-- who is sent to in a permitted log is declared
all_here : {X : Type 0} (P : X → Type 0) (xs ys : List X) (x : X) → AllByRecursion P (xs ++ x ∷ ys) → P x
all_here P [] ys x h = h.0
all_here P (z ∷ xs) ys x h = all_here P xs ys x h.1

trace_named : (w v : List Action) (l : LocalTree) (a : Action) → IsTrace l (w ++ a ∷ v) → Among a (named l)
trace_named [] v l a t = (does_named t.1).0
trace_named (b ∷ w) v l a t = (does_named t.1).1 a (trace_named w v t.0 a t.2)

pub both_declared : (a : Agreement) → is_protocol a.roles a.global ≡ true → (log : List Event) → IsPermitted a log → (before after : List Event) (p q : List ℕ) (m : Message) → log ≡ before ++ Sent p q m ∷ after → (has_role p a.roles && has_role q a.roles) ≡ true
both_declared a v log h before after p q m eq =
    let e = Sent p q m in
    let d : has_role p a.roles ≡ true = all_here (λ x. has_role (subject_of x) a.roles ≡ true) before after e (subst (AllByRecursion (λ x. has_role (subject_of x) a.roles ≡ true)) eq h.declared) in
    let t = h.traces p d in
    let own : own_actions p log ≡ own_actions p before ++ Sends q m ∷ own_actions p after = ap (own_actions p) eq ∙ own_append p before (e ∷ after) ∙ ap (λ z. own_actions p before ++ z) (own_yes p e after refl refl) in
    let among : Among (Sends q m) (named t.0) = trace_named (own_actions p before) (own_actions p after) t.0 (Sends q m) (subst (IsTrace t.0) own t.2) in
    and_from (has_role p a.roles) (has_role q a.roles) d (named_declared a.roles p (projects_of p a.global t.0 t.1) (tests a.roles a.global v).formed q m among)

sent_none : (a : Agreement) → is_protocol a.roles a.global ≡ true → (log : List Event) → IsPermitted a log → (p q : List ℕ) → (has_role p a.roles && has_role q a.roles) ≡ false → (before after : List Event) → log ≡ before ++ after → sent p q after ≡ []
sent_none a v log h p q n before [] eq = refl
sent_none a v log h p q n before (Join r ∷ after) eq = sent_none a v log h p q n (before ++ Join r ∷ []) after (eq ∙ sym (append_assoc before (Join r ∷ []) after))
sent_none a v log h p q n before (Received s t m ∷ after) eq = sent_none a v log h p q n (before ++ Received s t m ∷ []) after (eq ∙ sym (append_assoc before (Received s t m ∷ []) after))
sent_none a v log h p q n before (Sent s t m ∷ after) eq =
    let rest = sent_none a v log h p q n (before ++ Sent s t m ∷ []) after (eq ∙ sym (append_assoc before (Sent s t m ∷ []) after)) in
    elim (pair_cases p s q t) [
      | inl i ↦
          let here = both_declared a v log h before after s t m eq in
          let same : (has_role p a.roles && has_role q a.roles) ≡ (has_role s a.roles && has_role t a.roles) = ap (λ x. has_role x a.roles && has_role q a.roles) i.0 ∙ ap (λ x. has_role s a.roles && has_role x a.roles) i.1 in
          absurd (true≢false (sym here ∙ sym same ∙ n))
      | inr i ↦ sent_no p q s t m after i ∙ rest
    ]

drop_none : (n : ℕ) → drop {A = Message} n [] ≡ []
drop_none zero = refl
drop_none (suc n) = refl

-- nothing is in flight between two names that aren't both declared
pub nothing_elsewhere : (a : Agreement) → is_protocol a.roles a.global ≡ true → (log : List Event) → IsPermitted a log → (p q : List ℕ) → (has_role p a.roles && has_role q a.roles) ≡ false → flights p q log ≡ []
nothing_elsewhere a v log h p q n =
    ap (drop (length (received p q log))) (sent_none a v log h p q n [] log refl) ∙ drop_none (length (received p q log))
