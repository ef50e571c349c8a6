-- The local type of a role that takes part in a protocol has a first action.
use Rattle.std.proofs.Common.{◌≡◌, ◌⊎◌, inl, inr, true, ℕ, zero, suc, ◌+◌, ◌≤◌, List, refl, ap, subst, arith}
use Rattle.scrib_types.specs.declared.event.Action.{Action}
use Rattle.scrib_types.specs.declared.event.Action.TheVariants.{Sends, Receives}
use Rattle.scrib_types.specs.Trees.{GlobalTree, GlobalBranches, LocalTree, LocalEnd, LocalVar, LocalRec, Send, Recv, NoChoice, Choice}
use Rattle.scrib_types.specs.Traces.{substitute, unfolding_of, LocalTransition, sends, receives, unfolds}
use Rattle.scrib_global.specs.Unfolded.{acts_first}
use Rattle.scrib_global.proofs.Substitution.{Absent, AbsentAll, Sound, SoundAll}
use Rattle.scrib_global.proofs.ProjectionLemmas.{Projects, p_end, p_var, p_send, p_recv, p_other, p_idle, p_rec, ProjectMerged, merged_none, merged_one}
use Rattle.scrib_global.proofs.WiderTypes.{Wider, same, more, wider_trans, second_wider, merged_wider, NonEmptyChoice, first_offer, more_choices, each_offers}
use Rattle.scrib_global.proofs.Steps.{recursions, substitute_recursions}

-- after its leading recursions it has an alternative to send or to receive
abbrev pub Starts : LocalTree → Type 0
Starts LocalEnd = ⊥
Starts (LocalVar n) = ⊥
Starts (LocalRec l) = Starts l
Starts (Send q ls) = NonEmptyChoice ls
Starts (Recv p ls) = NonEmptyChoice ls

wider_starts : {l x : LocalTree} → Wider l x → Starts x → Starts l
wider_starts same s = s
wider_starts (more {ls} {xs} f) s = more_choices ls xs f s

-- a role that occurs in a type starts in it
mutual
  pub starts_or_absent : {r : List ℕ} {g : GlobalTree} {x : LocalTree} → Projects g r x → Sound g → Starts x ⊎ Absent r g
  starts_or_absent p_end s = inr tt
  starts_or_absent p_var s = inr tt
  starts_or_absent (p_send e pe) s = inl (each_offers pe s.1)
  starts_or_absent (p_recv e pe) s = inl (each_offers pe s.1)
  starts_or_absent (p_other n1 n2 pj pm) s = elim (starts_or_absent pj s.3.0) [
    | inl y ↦ inl (wider_starts (merged_wider pm) y)
    | inr y ↦ elim (merged_starts pm s.3.1) [ inl z ↦ inl z | inr z ↦ inr (n1, n2, (y, z)) ]
  ]
  starts_or_absent (p_idle c a) s = inr a
  starts_or_absent (p_rec h p) s = starts_or_absent p s.1

  merged_starts : {r : List ℕ} {bs : GlobalBranches} {j l : LocalTree} → ProjectMerged bs r j l → SoundAll bs → Starts l ⊎ AbsentAll r bs
  merged_starts merged_none s = inr tt
  merged_starts (merged_one p v pm) s = elim (starts_or_absent p s.0) [
    | inl y ↦ inl (wider_starts (wider_trans (merged_wider pm) (second_wider v)) y)
    | inr y ↦ elim (merged_starts pm s.1) [ inl z ↦ inl z | inr z ↦ inr (y, z) ]
  ]

-- an action that the type can make
abbrev pub Acts : LocalTree → Type 0
Acts l = (d : Action) × (k : LocalTree) × LocalTransition l d k

starts_first : (l : LocalTree) → Starts l → acts_first l ≡ true
starts_first LocalEnd s = absurd s
starts_first (LocalVar n) s = absurd s
starts_first (LocalRec l) s = starts_first l s
starts_first (Send q ls) s = refl
starts_first (Recv p ls) s = refl

substitute_starts : (t l : LocalTree) (n : ℕ) → Starts l → Starts (substitute t l n)
substitute_starts t LocalEnd n s = absurd s
substitute_starts t (LocalVar k) n s = absurd s
substitute_starts t (LocalRec l) n s = substitute_starts t l (n + 1) s
substitute_starts t (Send q NoChoice) n s = absurd s
substitute_starts t (Send q (Choice m l ls)) n s = tt
substitute_starts t (Recv p NoChoice) n s = absurd s
substitute_starts t (Recv p (Choice m l ls)) n s = tt

acts_unfolded : (l : LocalTree) → Starts l → ((body : LocalTree) → l ≡ LocalRec body → Acts (unfolding_of body)) → Acts l
acts_unfolded LocalEnd s f = absurd s
acts_unfolded (LocalVar n) s f = absurd s
acts_unfolded (LocalRec body) s f = let y = f body refl in (y.0, y.1, unfolds y.2)
acts_unfolded (Send q ls) s f = let y = first_offer ls s in (Sends q y.0, y.1, sends y.2)
acts_unfolded (Recv p ls) s f = let y = first_offer ls s in (Receives p y.0, y.1, receives y.2)

acts_within : (n : ℕ) (l : LocalTree) → recursions l ≤ n → Starts l → Acts l
acts_within zero l le s = acts_unfolded l s (λ body e. let i : recursions l ≡ recursions body + 1 = ap recursions e in absurd (omega arith))
acts_within (suc n) l le s =
    acts_unfolded l s (λ body e.
    let i : recursions l ≡ recursions body + 1 = ap recursions e in
    let b : Starts body = subst Starts e s in
    let k : recursions (unfolding_of body) ≡ recursions body = substitute_recursions (LocalRec body) body 0 (starts_first body b) in
    acts_within n (unfolding_of body) (omega arith) (substitute_starts (LocalRec body) body 0 b))

pub starts_acts : (l : LocalTree) → Starts l → Acts l
starts_acts l s = acts_within (recursions l) l (omega arith) s
