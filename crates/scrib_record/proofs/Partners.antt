-- The roles that local types name: those of a protocol's projections are its own.
use Rattle.std.proofs.Common.{◌≡◌, ◌&&◌, ◌==◌, true, not, ℕ, ◌+◌, List, [], ◌∷◌, ◌++◌, Some, sym, subst, if◌then◌else◌, inl, inr}
use Rattle.std.specs.List.{AllByRecursion}
use Rattle.std.specs.Str.{bytes_eq}
use Rattle.std.proofs.lemmas.Bool.{and_parts, cases_Bool}
use Rattle.scrib_types.specs.declared.message.Message.{Message}
use Rattle.scrib_types.specs.declared.event.Action.{Action}
use Rattle.scrib_types.specs.declared.event.Action.TheVariants.{Join, Sends, Receives}
use Rattle.scrib_types.specs.declared.event.Event.{Event}
use Rattle.scrib_types.specs.Agreement.{Agreement}
use Rattle.scrib_types.specs.Logs.{own_actions}
use Rattle.scrib_types.specs.Projection.{projection, widest}
use Rattle.scrib_types.specs.Traces.{substitute, substitute_all, Offers, LocalTransition, sends, receives, unfolds, IsTrace}
use Rattle.scrib_types.specs.Merges.{Merges, merges_same, merges_receptions, kept_all}
use Rattle.scrib_types.specs.Trees.{GlobalTree, GlobalBranches, Branch, Comm, LocalTree, LocalEnd, LocalVar, LocalRec, Send, Recv, LocalBranches, NoChoice, Choice}
use Rattle.scrib_types.specs.WellFormed.{has_role, has_branches, distinct_operators, leads_to_communication, uses, well_formed, branches_well_formed}
use Rattle.scrib_machine.specs.Projects.{Projects, p_end, p_var, p_send, p_recv, p_other, p_idle, p_rec, ProjectEach, each_none, each_one, ProjectMerged, merged_none, merged_one, projects_of}
use Rattle.scrib_record.specs.Following.{MayAct}

-- each send is to one of the roles, and each reception from one
abbrev mutual
  Among : List (List ℕ) → LocalTree → Type 0
  Among rs LocalEnd = Unit {0}
  Among rs (LocalVar k) = Unit {0}
  Among rs (LocalRec l) = Among rs l
  Among rs (Send q ls) = (has_role q rs ≡ true) × AmongAll rs ls
  Among rs (Recv p ls) = (has_role p rs ≡ true) × AmongAll rs ls

  AmongAll : List (List ℕ) → LocalBranches → Type 0
  AmongAll rs NoChoice = Unit {0}
  AmongAll rs (Choice m l ls) = Among rs l × AmongAll rs ls

-- a send to one of the roles, or a reception from one
abbrev pub IsAmong : List (List ℕ) → Action → Type 0
IsAmong rs Join = ⊥
IsAmong rs (Sends q m) = has_role q rs ≡ true
IsAmong rs (Receives p m) = has_role p rs ≡ true

record Parts (rs : List (List ℕ)) (p q : List ℕ) (bs : GlobalBranches) : Type 0 where
  sender : has_role p rs ≡ true
  receiver : has_role q rs ≡ true
  some : has_branches bs ≡ true
  branches : branches_well_formed rs bs ≡ true

parts : (rs : List (List ℕ)) (p q : List ℕ) (bs : GlobalBranches) → well_formed rs (Comm p q bs) ≡ true → Parts rs p q bs
parts rs p q bs h =
    let a = and_parts (has_role p rs && has_role q rs && not (bytes_eq p q) && has_branches bs && distinct_operators bs) (branches_well_formed rs bs) h in
    let b = and_parts (has_role p rs && has_role q rs && not (bytes_eq p q) && has_branches bs) (distinct_operators bs) a.0 in
    let c = and_parts (has_role p rs && has_role q rs && not (bytes_eq p q)) (has_branches bs) b.0 in
    let d = and_parts (has_role p rs && has_role q rs) (not (bytes_eq p q)) c.0 in
    let e = and_parts (has_role p rs) (has_role q rs) d.0 in
    record { sender = e.0; receiver = e.1; some = c.1; branches = a.1 }

merges_among : (rs : List (List ℕ)) {j k l : LocalTree} → Merges j k l → Among rs j → Among rs k → Among rs l
merges_among rs merges_same a b = a
merges_among rs (merges_receptions w) a b = (a.0, kept_all (Among rs) (AmongAll rs) (λ m l ls h. h.0) (λ m l ls h. h.1) (λ m l ls p q. (p, q)) w a.1 b.1)

mutual
  among : (rs : List (List ℕ)) (r : List ℕ) {g : GlobalTree} {l : LocalTree} → Projects g r l → well_formed rs g ≡ true → Among rs l
  among rs r p_end f = tt
  among rs r p_var f = tt
  among rs r (p_send {p} {q} {bs} e pe) f = let w = parts rs p q bs f in (w.receiver, among_each rs r pe w.branches)
  among rs r (p_recv {p} {q} {bs} e pe) f = let w = parts rs p q bs f in (w.sender, among_each rs r pe w.branches)
  among rs r (p_other {p} {q} {m} {g} {bs} e n pj pm) f =
      let w = and_parts (well_formed rs g) (branches_well_formed rs bs) (parts rs p q (Branch m g bs) f).branches in
      among_merged rs r pm (among rs r pj w.0) w.1
  among rs r (p_idle e n) f = tt
  among rs r (p_rec {g = g} e p) f = among rs r p (and_parts (leads_to_communication g && uses 0 g) (well_formed rs g) f).1

  among_each : (rs : List (List ℕ)) (r : List ℕ) {bs : GlobalBranches} {ls : LocalBranches} → ProjectEach bs r ls → branches_well_formed rs bs ≡ true → AmongAll rs ls
  among_each rs r each_none f = tt
  among_each rs r (each_one {g} {bs} p pe) f =
      let w = and_parts (well_formed rs g) (branches_well_formed rs bs) f in (among rs r p w.0, among_each rs r pe w.1)

  among_merged : (rs : List (List ℕ)) (r : List ℕ) {bs : GlobalBranches} {j l : LocalTree} → ProjectMerged bs r j l → Among rs j → branches_well_formed rs bs ≡ true → Among rs l
  among_merged rs r merged_none h f = h
  among_merged rs r (merged_one {g} {bs} p m pm) h f =
      let w = and_parts (well_formed rs g) (branches_well_formed rs bs) f in among_merged rs r pm (merges_among rs m h (among rs r p w.0)) w.1

mutual
  among_substitute : (rs : List (List ℕ)) (l k : LocalTree) (n : ℕ) → Among rs l → Among rs k → Among rs (substitute l k n)
  among_substitute rs l LocalEnd n h j = tt
  among_substitute rs l (LocalVar k) n h j =
      elim (cases_Bool (k == n)) [
        | inl b ↦ subst (λ x. Among rs (if x then l else LocalVar k)) (sym b) h
        | inr b ↦ subst (λ x. Among rs (if x then l else LocalVar k)) (sym b) tt
      ]
  among_substitute rs l (LocalRec body) n h j = among_substitute rs l body (n + 1) h j
  among_substitute rs l (Send q ls) n h j = (j.0, among_substitute_all rs l ls n h j.1)
  among_substitute rs l (Recv p ls) n h j = (j.0, among_substitute_all rs l ls n h j.1)

  among_substitute_all : (rs : List (List ℕ)) (l : LocalTree) (ls : LocalBranches) (n : ℕ) → Among rs l → AmongAll rs ls → AmongAll rs (substitute_all l ls n)
  among_substitute_all rs l NoChoice n h j = tt
  among_substitute_all rs l (Choice m k ls) n h j = (among_substitute rs l k n h j.0, among_substitute_all rs l ls n h j.1)

among_offers : (rs : List (List ℕ)) (ls : LocalBranches) (m : Message) (l : LocalTree) → Offers ls m l → AmongAll rs ls → Among rs l
among_offers rs NoChoice m l o j = absurd o
among_offers rs (Choice n k ls) m l (inl o) j = subst (Among rs) (sym o.1) j.0
among_offers rs (Choice n k ls) m l (inr o) j = among_offers rs ls m l o.1 j.1

among_does : (rs : List (List ℕ)) {l k : LocalTree} {a : Action} → LocalTransition l a k → Among rs l → IsAmong rs a × Among rs k
among_does rs (sends {q} {m} {ls} {l} o) j = (j.0, among_offers rs ls m l o j.1)
among_does rs (receives {p} {m} {ls} {l} o) j = (j.0, among_offers rs ls m l o j.1)
among_does rs (unfolds {body = body} d) j = among_does rs d (among_substitute rs (LocalRec body) body 0 j j)

among_last : (rs : List (List ℕ)) (w : List Action) (l : LocalTree) (a : Action) → IsTrace l (w ++ a ∷ []) → Among rs l → IsAmong rs a
among_last rs [] l a t j = (among_does rs t.1 j).0
among_last rs (b ∷ w) l a t j = among_last rs w t.0 a t.2 (among_does rs t.1 j).1

-- the next actions of a role are with one of the roles
pub acts_among : (a : Agreement) (log : List Event) (r : List ℕ) (act : Action) → well_formed a.roles a.global ≡ true → MayAct a log r act → IsAmong a.roles act
acts_among a log r act f h =
    among_last a.roles (own_actions r log) h.local act h.trace (among a.roles r (projects_of r a.global h.local h.projected) f)

among_all : (rs : List (List ℕ)) (w : List Action) (l : LocalTree) → IsTrace l w → Among rs l → AllByRecursion (IsAmong rs) w
among_all rs [] l t j = tt
among_all rs (b ∷ w) l t j = let d = among_does rs t.1 j in (d.0, among_all rs w t.0 t.2 d.1)

-- so are all that it made
pub own_among : (a : Agreement) (log : List Event) (r : List ℕ) (l : LocalTree) → well_formed a.roles a.global ≡ true → projection widest r a.global ≡ Some l → IsTrace l (own_actions r log) → AllByRecursion (IsAmong a.roles) (own_actions r log)
own_among a log r l f projected t = among_all a.roles (own_actions r log) l t (among a.roles r (projects_of r a.global l projected) f)
