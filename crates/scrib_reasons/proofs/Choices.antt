-- The test of a local type's first choice, and the actions that it makes.
use Rattle.std.proofs.Common.{◌≡◌, ◌⊎◌, ◌↔◌, IsTrue, inl, inr, Bool, true, false, ◌||◌, ℕ, zero, suc, ◌+◌, ◌<◌, List, [], ◌∷◌, length, get_or, drop, add-one, arith, refl, sym, ap, ◌∙◌}
use Rattle.std.specs.Str.{bytes_eq}
use Rattle.std.proofs.lemmas.Bool.{true≢false, cases_Bool, and_parts, and_from, or_right}
use Rattle.scrib_types.specs.declared.message.Message.{Message}
use Rattle.scrib_types.specs.declared.event.Action.{Action}
use Rattle.scrib_types.specs.declared.event.Action.TheVariants.{Sends, Receives}
use Rattle.scrib_types.specs.declared.event.Event.{Event}
use Rattle.scrib_types.specs.declared.event.Event.TheVariants.{Join, Sent, Received}
use Rattle.scrib_types.specs.declared.local.Local.{Local}
use Rattle.scrib_types.specs.LocalView.{local_branches}
use Rattle.scrib_types.specs.Trees.{LocalTree, LocalEnd, LocalVar, LocalRec, Send, Recv, LocalBranches, NoChoice, Choice}
use Rattle.scrib_types.specs.Same.{same_message, same_message-equal, same_message-refl}
use Rattle.scrib_types.specs.Logs.{action_of, is_action}
use Rattle.scrib_global.specs.Next.{sends_of, receptions_of}
use Rattle.scrib_global.proofs.Names.{same_name, name_is}
use Rattle.scrib_global.proofs.Candidates.{Among}
use Rattle.scrib_global.proofs.OfferedActions.{offers, does_offered, offered_does}
use Rattle.scrib_reasons.specs.Reasons.{Makes}
use Rattle.scrib_reasons.specs.Tests.{has_message, is_end, has_choice}

pub message_is : (m n : Message) → m ≡ n → same_message m n ≡ true
message_is m n e = ap (same_message m) (sym e) ∙ same_message-refl m

pub same_or_not : (m n : Message) → (m ≡ n) ⊎ (same_message m n ≡ false)
same_or_not m n = elim (cases_Bool (same_message m n)) [ inl e ↦ inl (same_message-equal m n e) | inr e ↦ inr e ]

or_other : (x y : Bool) → (x || y) ≡ true → x ≡ false → y ≡ true
or_other true y h n = absurd (true≢false n)
or_other false y h n = h

or_left : (x y : Bool) → x ≡ true → (x || y) ≡ true
or_left x y e = ap (λ b. b || y) e

-- sends
sends_among : (q : List ℕ) (ls : LocalBranches) (t : List ℕ) (m : Message) → t ≡ q → has_message m ls ≡ true → Among (Sends t m) (sends_of q ls)
sends_among q NoChoice t m e h = absurd (true≢false (sym h))
sends_among q (Choice n l ls) t m e h = elim (same_or_not m n) [
  | inl i ↦ inl (cc)
  | inr i ↦ inr (sends_among q ls t m e (or_other (same_message m n) (has_message m ls) h i))
]

same_to : (q t : List ℕ) (m n : Message) → Sends t m ≡ Sends q n → (t ≡ q) × (m ≡ n)
same_to q t m n e = (cc, cc)

among_sends : (q : List ℕ) (ls : LocalBranches) (t : List ℕ) (m : Message) → Among (Sends t m) (sends_of q ls) → (t ≡ q) × (has_message m ls ≡ true)
among_sends q NoChoice t m h = absurd h
among_sends q (Choice n l ls) t m (inl e) = let y = same_to q t m n e in (y.0, or_left (same_message m n) (has_message m ls) (message_is m n y.1))
among_sends q (Choice n l ls) t m (inr h) = let y = among_sends q ls t m h in (y.0, or_right (same_message m n) (has_message m ls) y.1)

-- receptions
receptions_among : (p : List ℕ) (ls : LocalBranches) (s : List ℕ) (m : Message) → s ≡ p → has_message m ls ≡ true → Among (Receives s m) (receptions_of p ls)
receptions_among p NoChoice s m e h = absurd (true≢false (sym h))
receptions_among p (Choice n l ls) s m e h = elim (same_or_not m n) [
  | inl i ↦ inl (cc)
  | inr i ↦ inr (receptions_among p ls s m e (or_other (same_message m n) (has_message m ls) h i))
]

same_from : (p s : List ℕ) (m n : Message) → Receives s m ≡ Receives p n → (s ≡ p) × (m ≡ n)
same_from p s m n e = (cc, cc)

among_receptions : (p : List ℕ) (ls : LocalBranches) (s : List ℕ) (m : Message) → Among (Receives s m) (receptions_of p ls) → (s ≡ p) × (has_message m ls ≡ true)
among_receptions p NoChoice s m h = absurd h
among_receptions p (Choice n l ls) s m (inl e) = let y = same_from p s m n e in (y.0, or_left (same_message m n) (has_message m ls) (message_is m n y.1))
among_receptions p (Choice n l ls) s m (inr h) = let y = among_receptions p ls s m h in (y.0, or_right (same_message m n) (has_message m ls) y.1)

-- neither kind is the other
no_sends : (q : List ℕ) (ls : LocalBranches) (s : List ℕ) (m : Message) → Among (Receives s m) (sends_of q ls) → ⊥
no_sends q NoChoice s m h = h
no_sends q (Choice n l ls) s m (inl e) = cc
no_sends q (Choice n l ls) s m (inr h) = no_sends q ls s m h

no_receptions : (p : List ℕ) (ls : LocalBranches) (t : List ℕ) (m : Message) → Among (Sends t m) (receptions_of p ls) → ⊥
no_receptions p NoChoice t m h = h
no_receptions p (Choice n l ls) t m (inl e) = cc
no_receptions p (Choice n l ls) t m (inr h) = no_receptions p ls t m h

-- the test is exact
chosen_offered : (l : LocalTree) (e : Event) → has_choice l e ≡ true → Among (action_of e) (offers l)
chosen_offered LocalEnd e h = absurd (true≢false (sym h))
chosen_offered (LocalVar n) e h = absurd (true≢false (sym h))
chosen_offered (LocalRec body) e h = chosen_offered body e h
chosen_offered (Send q ls) (Join r) h = absurd (true≢false (sym h))
chosen_offered (Send q ls) (Sent s t m) h =
    let y = and_parts (bytes_eq t q) (has_message m ls) h in sends_among q ls t m (same_name t q y.0) y.1
chosen_offered (Send q ls) (Received s t m) h = absurd (true≢false (sym h))
chosen_offered (Recv p ls) (Join r) h = absurd (true≢false (sym h))
chosen_offered (Recv p ls) (Sent s t m) h = absurd (true≢false (sym h))
chosen_offered (Recv p ls) (Received s t m) h =
    let y = and_parts (bytes_eq s p) (has_message m ls) h in receptions_among p ls s m (same_name s p y.0) y.1

offered_chosen : (l : LocalTree) (e : Event) → is_action e ≡ true → Among (action_of e) (offers l) → has_choice l e ≡ true
offered_chosen LocalEnd e i h = absurd h
offered_chosen (LocalVar n) e i h = absurd h
offered_chosen (LocalRec body) e i h = offered_chosen body e i h
offered_chosen (Send q ls) (Join r) i h = absurd (true≢false (sym i))
offered_chosen (Send q ls) (Sent s t m) i h =
    let y = among_sends q ls t m h in and_from (bytes_eq t q) (has_message m ls) (name_is t q y.0) y.1
offered_chosen (Send q ls) (Received s t m) i h = absurd (no_sends q ls s m h)
offered_chosen (Recv p ls) (Join r) i h = absurd (true≢false (sym i))
offered_chosen (Recv p ls) (Sent s t m) i h = absurd (no_receptions p ls t m h)
offered_chosen (Recv p ls) (Received s t m) i h =
    let y = among_receptions p ls s m h in and_from (bytes_eq s p) (has_message m ls) (name_is s p y.0) y.1

pub chosen_made : (l : LocalTree) (e : Event) → has_choice l e ≡ true → Makes l (action_of e)
chosen_made l e h = offered_does l (action_of e) (chosen_offered l e h)

pub made_chosen : (l : LocalTree) (e : Event) → is_action e ≡ true → Makes l (action_of e) → has_choice l e ≡ true
made_chosen l e i d = offered_chosen l e i (does_offered d.1)

-- the end makes no action
pub end_makes_none : (act : Action) → Makes LocalEnd act → ⊥
end_makes_none act d = does_offered d.1

-- what makes an action is not the end
pub made_not_end : (l : LocalTree) (act : Action) → Makes l act → is_end l ≡ false
made_not_end LocalEnd act d = absurd (end_makes_none act d)
made_not_end (LocalVar n) act d = refl
made_not_end (LocalRec body) act d = refl
made_not_end (Send q ls) act d = refl
made_not_end (Recv p ls) act d = refl

-- the messages of a list of branches, from an index on
pub message_from : (bs : List (Message × Local)) (i : ℕ) (b : Message × Local) (m : Message) → i < length bs → b ≡ get_or bs i b → has_message m (local_branches (drop i bs)) ≡ (same_message m b.0 || has_message m (local_branches (drop (i + 1) bs)))
message_from bs i b m h is = rw add-one (at_index bs i b h ∙ ap (λ (x : Message × Local). same_message m x.0 || has_message m (local_branches (drop (suc i) bs))) (sym is))
  where
    at_index : (cs : List (Message × Local)) (k : ℕ) (d : Message × Local) → k < length cs → has_message m (local_branches (drop k cs)) ≡ (same_message m (get_or cs k d).0 || has_message m (local_branches (drop (suc k) cs)))
    at_index [] k d h = absurd (omega arith)
    at_index (c ∷ cs) zero d h = refl
    at_index (c ∷ cs) (suc k) d h = let lt : k < length cs = omega arith in at_index cs k d lt

-- the branch at i has the message
pub message_here : (bs : List (Message × Local)) (i : ℕ) (b : Message × Local) (m : Message) → i < length bs → b ≡ get_or bs i b → m ≡ b.0 → has_message m (local_branches (drop i bs)) ≡ true
message_here bs i b m h is e = message_from bs i b m h is ∙ or_left (same_message m b.0) (has_message m (local_branches (drop (i + 1) bs))) (message_is m b.0 e)

-- the branch at i has another
pub message_later : (bs : List (Message × Local)) (i : ℕ) (b : Message × Local) (m : Message) → i < length bs → b ≡ get_or bs i b → (m ≡ b.0 → ⊥) → has_message m (local_branches (drop (i + 1) bs)) ≡ has_message m (local_branches (drop i bs))
message_later bs i b m h is n = elim (same_or_not m b.0) [
  | inl e ↦ absurd (n e)
  | inr e ↦ sym (message_from bs i b m h is ∙ ap (λ x. x || has_message m (local_branches (drop (i + 1) bs))) e)
]

-- a test that is false refuses what it decides
pub refused : {P : Type 0} (b : Bool) → (IsTrue b ↔ P) → b ≡ false → P → ⊥
refused b h e p = true≢false (sym (h.1 p) ∙ e)
