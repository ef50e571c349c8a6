-- An action of a role's type that the messages in flight allow is a transition of the state.
use Rattle.std.proofs.Common.{◌≡◌, ◌≢◌, inl, inr, ℕ, zero, suc, List, [], ◌∷◌, sym, subst}
use Rattle.scrib_types.specs.declared.message.Message.{Message}
use Rattle.scrib_types.specs.declared.event.Action.{Action}
use Rattle.scrib_types.specs.declared.event.Action.TheVariants.{Sends, Receives}
use Rattle.scrib_types.specs.declared.event.Event.TheVariants.{Sent, Received}
use Rattle.scrib_types.specs.Trees.{GlobalTree, GlobalEnd, GlobalVar, GlobalRec, Comm, Flight, GlobalBranches, NoBranch, Branch, LocalTree, LocalEnd, LocalVar, LocalRec, Send, Recv, LocalBranches}
use Rattle.scrib_types.specs.Traces.{Offers, LocalTransition}
use Rattle.scrib_types.specs.Traces as local
use Rattle.scrib_global.specs.Transitions.{global_unfolding, IsBranch, first, later, Transition, sends, receives, unfolds, beneath, beside, EachTransition, none, each, BranchTransition, here, there}
use Rattle.scrib_global.proofs.Names.{which}
use Rattle.scrib_global.proofs.Substitution.{Closed, ClosedAll, closed_unfolding, NonEmpty, Sound, SoundAll, sound_unfolding}
use Rattle.scrib_global.proofs.ProjectionLemmas.{Projects, p_end, p_var, p_send, p_recv, p_other, p_idle, p_rec, ProjectMerged, merged_none, merged_one, project_unfolding}
use Rattle.scrib_global.proofs.WiderTypes.{Wider, same, wider_trans, second_wider, merged_wider, wider_as}
use Rattle.scrib_global.proofs.Locals.{no_mix, same_from, alike_send}
use Rattle.scrib_global.proofs.FollowingTypes.{HasMessage, Follows, FollowsBy, FollowsAll, FollowsAt, FollowsByAt, offered}
use Rattle.scrib_global.proofs.FlightPaths.{Carries, CarriesAll, CarriesAt}

has_at : (bs : GlobalBranches) (m : Message) → HasMessage bs m → (j : ℕ) × (g : GlobalTree) × IsBranch bs j m g
has_at NoBranch m h = absurd h
has_at (Branch n g bs) m (inl e) = (zero, g, subst (λ x. IsBranch (Branch x g bs) zero m g) e first)
has_at (Branch n g bs) m (inr h) = let y = has_at bs m h in (suc y.0, y.1, later y.2)

send_step : (p q r t : List ℕ) (m : Message) (bs : GlobalBranches) → r ≡ p → t ≡ q → HasMessage bs m → (h : GlobalTree) × Transition (Comm p q bs) (Sent r t m) h
send_step p q r t m bs e i h =
    let y = has_at bs m h in
    let s : Transition (Comm p q bs) (Sent p q m) (Flight p q y.0 bs) = sends y.2 in
    (Flight p q y.0 bs, subst (λ z. Transition (Comm p q bs) (Sent z t m) (Flight p q y.0 bs)) (sym e) (subst (λ z. Transition (Comm p q bs) (Sent p z m) (Flight p q y.0 bs)) (sym i) s))

-- local types of different forms

no_end : (q : List ℕ) (ls : LocalBranches) → Send q ls ≡ LocalEnd → ⊥
no_end q ls e = cc e

no_var : (q : List ℕ) (ls : LocalBranches) (i : ℕ) → Send q ls ≡ LocalVar i → ⊥
no_var q ls i e = cc e

no_rec : (q : List ℕ) (ls : LocalBranches) (x : LocalTree) → Send q ls ≡ LocalRec x → ⊥
no_rec q ls x e = cc e

no_recv : (q p : List ℕ) (ls xs : LocalBranches) → Send q ls ≡ Recv p xs → ⊥
no_recv q p ls xs e = cc e

same_send : (q t : List ℕ) (ls xs : LocalBranches) → Send q ls ≡ Send t xs → (q ≡ t) × (ls ≡ xs)
same_send q t ls xs e = (cc e, cc e)

rec_no_end : (y : LocalTree) → LocalRec y ≡ LocalEnd → ⊥
rec_no_end y e = cc e

rec_no_var : (y : LocalTree) (i : ℕ) → LocalRec y ≡ LocalVar i → ⊥
rec_no_var y i e = cc e

rec_no_recv : (y : LocalTree) (p : List ℕ) (xs : LocalBranches) → LocalRec y ≡ Recv p xs → ⊥
rec_no_recv y p xs e = cc e

same_rec : (y x : LocalTree) → LocalRec y ≡ LocalRec x → y ≡ x
same_rec y x e = cc e

-- a sending of the projection, or of what it merges with
mutual
  sends_from : (r q : List ℕ) (m : Message) (ls : LocalBranches) (k : LocalTree) → Offers ls m k → {g : GlobalTree} {x : LocalTree} → Projects g r x → Wider (Send q ls) x → (h : GlobalTree) × Transition g (Sent r q m) h
  sends_from r q m ls k o p_end w = absurd (no_end q ls (wider_as w))
  sends_from r q m ls k o (p_var {k = i}) w = absurd (no_var q ls i (wider_as w))
  sends_from r q m ls k o (p_send {p} {q = t} {bs} {ls = xs} e pe) w =
      let y = same_send q t ls xs (wider_as w) in
      send_step p t r q m bs e y.0 (offered r pe m k (subst (λ z. Offers z m k) y.1 o))
  sends_from r q m ls k o (p_recv {p} {ls = xs} e pe) w = absurd (no_recv q p ls xs (wider_as w))
  sends_from r q m ls k o (p_other {p} {q = t} {m = n} n1 n2 pj pm) w =
      let y = sends_from r q m ls k o pj (wider_trans w (merged_wider pm)) in
      let z = sends_from_merged r q m ls k o pm w in
      (Comm p t (Branch n y.0 z.0), beneath n1 n2 (each y.1 z.1))
  sends_from r q m ls k o (p_idle c a) w = absurd (no_end q ls (wider_as w))
  sends_from r q m ls k o (p_rec {l = x} h p) w = absurd (no_rec q ls x (wider_as w))

  sends_from_merged : (r q : List ℕ) (m : Message) (ls : LocalBranches) (k : LocalTree) → Offers ls m k → {bs : GlobalBranches} {j x : LocalTree} → ProjectMerged bs r j x → Wider (Send q ls) x → (cs : GlobalBranches) × EachTransition bs (Sent r q m) cs
  sends_from_merged r q m ls k o merged_none w = (NoBranch, none)
  sends_from_merged r q m ls k o (merged_one {m = n} p v pm) w =
      let y = sends_from r q m ls k o p (wider_trans w (wider_trans (merged_wider pm) (second_wider v))) in
      let z = sends_from_merged r q m ls k o pm w in
      (Branch n y.0 z.0, each y.1 z.1)

-- what sends after unfolding
abbrev Unfolded : List ℕ → List ℕ → Message → LocalTree → Type 0
Unfolded r q m y =
    (g : GlobalTree) → Projects g r (local.unfolding_of y) → Sound g → Closed g 0 → (h : GlobalTree) × Transition g (Sent r q m) h

mutual
  recs_from : (r q : List ℕ) (m : Message) (y : LocalTree) → Unfolded r q m y → {g : GlobalTree} {x : LocalTree} → Projects g r x → Wider (LocalRec y) x → Sound g → Closed g 0 → (h : GlobalTree) × Transition g (Sent r q m) h
  recs_from r t m y ih p_end w s c = absurd (rec_no_end y (wider_as w))
  recs_from r t m y ih (p_var {k = i}) w s c = absurd (rec_no_var y i (wider_as w))
  recs_from r t m y ih (p_send {q} {ls} e pe) w s c = absurd (no_rec q ls y (sym (wider_as w)))
  recs_from r t m y ih (p_recv {p} {ls} e pe) w s c = absurd (rec_no_recv y p ls (wider_as w))
  recs_from r t m y ih (p_other {p} {q} {m = n} n1 n2 pj pm) w s c =
      let a = recs_from r t m y ih pj (wider_trans w (merged_wider pm)) s.3.0 c.0 in
      let z = recs_from_merged r t m y ih pm w s.3.1 c.1 in
      (Comm p q (Branch n a.0 z.0), beneath n1 n2 (each a.1 z.1))
  recs_from r t m y ih (p_idle c' a) w s c = absurd (rec_no_end y (wider_as w))
  recs_from r t m y ih (p_rec {g} {l} h p) w s c =
      let e = same_rec y l (wider_as w) in
      let z = ih (global_unfolding g) (subst (λ x. Projects (global_unfolding g) r (local.unfolding_of x)) (sym e) (project_unfolding r g l c h p)) (sound_unfolding g s) (closed_unfolding g c) in
      (z.0, unfolds z.1)

  recs_from_merged : (r q : List ℕ) (m : Message) (y : LocalTree) → Unfolded r q m y → {bs : GlobalBranches} {j x : LocalTree} → ProjectMerged bs r j x → Wider (LocalRec y) x → SoundAll bs → ClosedAll bs 0 → (cs : GlobalBranches) × EachTransition bs (Sent r q m) cs
  recs_from_merged r t m y ih merged_none w s c = (NoBranch, none)
  recs_from_merged r t m y ih (merged_one {m = n} p v pm) w s c =
      let a = recs_from r t m y ih p (wider_trans w (wider_trans (merged_wider pm) (second_wider v))) s.0 c.0 in
      let z = recs_from_merged r t m y ih pm w s.1 c.1 in
      (Branch n a.0 z.0, each a.1 z.1)

project_sends : {x k : LocalTree} {q : List ℕ} {m : Message} → LocalTransition x (Sends q m) k → (r : List ℕ) (g : GlobalTree) → Projects g r x → Sound g → Closed g 0 → (h : GlobalTree) × Transition g (Sent r q m) h
project_sends {q} {m} (local.sends {ls} {l} o) r g p s c = sends_from r q m ls l o p same
project_sends {q} {m} (local.unfolds {body = y} d) r g p s c = recs_from r q m y (λ g' p' s' c'. project_sends d r g' p' s' c') p same s c

by_first : (bs : GlobalBranches) (d : Message → Action) (r : List ℕ) (l : LocalTree) → NonEmpty bs → FollowsBy bs d r l → (m : Message) × (k : LocalTree) × LocalTransition l (d m) k
by_first NoBranch d r l n f = absurd n
by_first (Branch m g bs) d r l n f = (m, f.0.0, f.0.1)

by_one : (bs : GlobalBranches) (j : ℕ) (d : Message → Action) (r : List ℕ) (l : LocalTree) → FollowsByAt bs j d r l → (m : Message) × (k : LocalTree) × LocalTransition l (d m) k
by_one NoBranch j d r l f = absurd f
by_one (Branch m g bs) zero d r l f = (m, f.0, f.1)
by_one (Branch m g bs) (suc j) d r l f = by_one bs j d r l f

send_comm : (p t : List ℕ) (bs : GlobalBranches) (r q : List ℕ) (m : Message) (l k : LocalTree) → Follows (Comm p t bs) r l → LocalTransition l (Sends q m) k → (FollowsAll bs r l → (cs : GlobalBranches) × EachTransition bs (Sent r q m) cs) → Dec (r ≡ p) → Dec (r ≡ t) → (h : GlobalTree) × Transition (Comm p t bs) (Sent r q m) h
send_comm p t bs r q m l k f d ih (yes e) c = let y = (f.2 e).0 q m k d in send_step p t r q m bs e y.0 y.1
send_comm p t bs r q m l k f d ih (no n) (yes e) = absurd (no_mix d (by_first bs (Receives p) r l f.1 (f.3 e)).2)
send_comm p t bs r q m l k f d ih (no n) (no n2) = let y = ih (f.4 n n2) in (Comm p t y.0, beneath n n2 y.1)

send_flight : (p t : List ℕ) (j : ℕ) (bs : GlobalBranches) (r q : List ℕ) (m : Message) (l k : LocalTree) → Follows (Flight p t j bs) r l → LocalTransition l (Sends q m) k → (FollowsAt bs j r l → (cs : GlobalBranches) × BranchTransition bs j (Sent r q m) cs) → Dec (r ≡ t) → (h : GlobalTree) × Transition (Flight p t j bs) (Sent r q m) h
send_flight p t j bs r q m l k f d ih (yes e) = absurd (no_mix d (by_one bs j (Receives p) r l (f.0 e)).2)
send_flight p t j bs r q m l k f d ih (no n) = let y = ih (f.1 n) in (Flight p t j y.0, beside n y.1)

mutual
  pub can_send : (g : GlobalTree) (r q : List ℕ) (m : Message) (l k : LocalTree) → Follows g r l → LocalTransition l (Sends q m) k → (h : GlobalTree) × Transition g (Sent r q m) h
  can_send GlobalEnd r q m l k f d = absurd (f (Sends q m) k d)
  can_send (GlobalVar i) r q m l k f d = absurd f
  can_send (GlobalRec g) r q m l k f d = project_sends (alike_send f.like d).1 r (GlobalRec g) f.projects f.sound f.closed
  can_send (Comm p t bs) r q m l k f d =
      send_comm p t bs r q m l k f d (λ fa. can_send_all bs r q m l k fa d) (which r p) (which r t)
  can_send (Flight p t j bs) r q m l k f d =
      send_flight p t j bs r q m l k f d (λ fa. can_send_at bs j r q m l k fa d) (which r t)

  can_send_all : (bs : GlobalBranches) (r q : List ℕ) (m : Message) (l k : LocalTree) → FollowsAll bs r l → LocalTransition l (Sends q m) k → (cs : GlobalBranches) × EachTransition bs (Sent r q m) cs
  can_send_all NoBranch r q m l k f d = (NoBranch, none)
  can_send_all (Branch n g bs) r q m l k f d =
      let y = can_send g r q m l k f.0 d in
      let z = can_send_all bs r q m l k f.1 d in
      (Branch n y.0 z.0, each y.1 z.1)

  can_send_at : (bs : GlobalBranches) (j : ℕ) (r q : List ℕ) (m : Message) (l k : LocalTree) → FollowsAt bs j r l → LocalTransition l (Sends q m) k → (cs : GlobalBranches) × BranchTransition bs j (Sent r q m) cs
  can_send_at NoBranch j r q m l k f d = absurd f
  can_send_at (Branch n g bs) zero r q m l k f d = let y = can_send g r q m l k f d in (Branch n y.0 bs, here y.1)
  can_send_at (Branch n g bs) (suc j) r q m l k f d = let z = can_send_at bs j r q m l k f d in (Branch n g z.0, there z.1)

-- the oldest message in flight is received, where its role receives from its sender
same_front : (m n : Message) (w v : List Message) → m ∷ w ≡ n ∷ v → n ≡ m
same_front m n w v h = cc

recv_at : (bs : GlobalBranches) (j : ℕ) (p q r a : List ℕ) (m : Message) (w : List Message) (l : LocalTree) → r ≡ q → a ≡ p → FollowsByAt bs j (Receives p) r l → CarriesAt bs j p q a r (m ∷ w) → (g : GlobalTree) × IsBranch bs j m g
recv_at NoBranch j p q r a m w l e i f c = absurd f
recv_at (Branch n g bs) zero p q r a m w l e i f c =
    let y = c.0 i e in
    (g, subst (λ x. IsBranch (Branch n g bs) zero x g) (same_front m n w y.0 y.1) first)
recv_at (Branch n g bs) (suc j) p q r a m w l e i f c = let y = recv_at bs j p q r a m w l e i f c in (y.0, later y.1)

recv_step : (p q : List ℕ) (j : ℕ) (r a : List ℕ) (m : Message) (bs : GlobalBranches) (g : GlobalTree) → r ≡ q → a ≡ p → IsBranch bs j m g → Transition (Flight p q j bs) (Received a r m) g
recv_step p q j r a m bs g e i x =
    let s : Transition (Flight p q j bs) (Received p q m) g = receives x in
    subst (λ z. Transition (Flight p q j bs) (Received a z m) g) (sym e) (subst (λ z. Transition (Flight p q j bs) (Received z q m) g) (sym i) s)

recv_comm : (p t : List ℕ) (bs : GlobalBranches) (r a : List ℕ) (n m : Message) (l k : LocalTree) (w : List Message) → Follows (Comm p t bs) r l → LocalTransition l (Receives a n) k → Carries (Comm p t bs) a r (m ∷ w) → (FollowsAll bs r l → CarriesAll bs a r (m ∷ w) → (cs : GlobalBranches) × EachTransition bs (Received a r m) cs) → Dec (r ≡ p) → Dec (r ≡ t) → (h : GlobalTree) × Transition (Comm p t bs) (Received a r m) h
recv_comm p t bs r a n m l k w f d c ih (yes e) x = absurd (no_mix (by_first bs (Sends t) r l f.1 (f.2 e).1).2 d)
recv_comm p t bs r a n m l k w f d c ih (no n1) (yes e) =
    let h : m ∷ w ≡ [] = c.2 (same_from d (by_first bs (Receives p) r l f.1 (f.3 e)).2) in
    absurd (cc)
recv_comm p t bs r a n m l k w f d c ih (no n1) (no n2) = let y = ih (f.4 n1 n2) c.4 in (Comm p t y.0, beneath n1 n2 y.1)

recv_flight : (p t : List ℕ) (j : ℕ) (bs : GlobalBranches) (r a : List ℕ) (n m : Message) (l k : LocalTree) (w : List Message) → Follows (Flight p t j bs) r l → LocalTransition l (Receives a n) k → Carries (Flight p t j bs) a r (m ∷ w) → (r ≢ t → FollowsAt bs j r l → CarriesAt bs j p t a r (m ∷ w) → (cs : GlobalBranches) × BranchTransition bs j (Received a r m) cs) → Dec (r ≡ t) → (h : GlobalTree) × Transition (Flight p t j bs) (Received a r m) h
recv_flight p t j bs r a n m l k w f d c ih (yes e) =
    let i = same_from d (by_one bs j (Receives p) r l (f.0 e)).2 in
    let y = recv_at bs j p t r a m w l e i (f.0 e) c.1 in
    (y.0, recv_step p t j r a m bs y.0 e i y.1)
recv_flight p t j bs r a n m l k w f d c ih (no n2) = let y = ih n2 (f.1 n2) c.1 in (Flight p t j y.0, beside n2 y.1)

mutual
  pub can_receive : (g : GlobalTree) (r a : List ℕ) (n m : Message) (l k : LocalTree) (w : List Message) → Follows g r l → LocalTransition l (Receives a n) k → Carries g a r (m ∷ w) → (h : GlobalTree) × Transition g (Received a r m) h
  can_receive GlobalEnd r a n m l k w f d c = absurd (cc)
  can_receive (GlobalVar i) r a n m l k w f d c = absurd f
  can_receive (GlobalRec g) r a n m l k w f d c = let h : m ∷ w ≡ [] = c.0 in absurd (cc)
  can_receive (Comm p t bs) r a n m l k w f d c =
      recv_comm p t bs r a n m l k w f d c (λ fa ca. can_receive_all bs r a n m l k w fa d ca) (which r p) (which r t)
  can_receive (Flight p t j bs) r a n m l k w f d c =
      recv_flight p t j bs r a n m l k w f d c (λ n2 fa ca. can_receive_at bs j p t r a n m l k w n2 fa d ca) (which r t)

  can_receive_all : (bs : GlobalBranches) (r a : List ℕ) (n m : Message) (l k : LocalTree) (w : List Message) → FollowsAll bs r l → LocalTransition l (Receives a n) k → CarriesAll bs a r (m ∷ w) → (cs : GlobalBranches) × EachTransition bs (Received a r m) cs
  can_receive_all NoBranch r a n m l k w f d c = (NoBranch, none)
  can_receive_all (Branch o g bs) r a n m l k w f d c =
      let y = can_receive g r a n m l k w f.0 d c.0 in
      let z = can_receive_all bs r a n m l k w f.1 d c.1 in
      (Branch o y.0 z.0, each y.1 z.1)

  can_receive_at : (bs : GlobalBranches) (j : ℕ) (p t r a : List ℕ) (n m : Message) (l k : LocalTree) (w : List Message) → r ≢ t → FollowsAt bs j r l → LocalTransition l (Receives a n) k → CarriesAt bs j p t a r (m ∷ w) → (cs : GlobalBranches) × BranchTransition bs j (Received a r m) cs
  can_receive_at NoBranch j p t r a n m l k w ne f d c = absurd f
  can_receive_at (Branch o g bs) zero p t r a n m l k w ne f d c =
      let y = can_receive g r a n m l k w f d (c.1 (λ x z. ne z)) in (Branch o y.0 bs, here y.1)
  can_receive_at (Branch o g bs) (suc j) p t r a n m l k w ne f d c =
      let z = can_receive_at bs j p t r a n m l k w ne f d c in (Branch o g z.0, there z.1)
