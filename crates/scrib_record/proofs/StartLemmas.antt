-- The configuration before any event, and the log of no events.
use Rattle.std.proofs.Common.{◌≡◌, false, ℕ, zero, suc, ◌+◌, ◌<◌, List, [], ◌∷◌, ◌++◌, Some, All, map, replicate, length, slice_get, refl, sym, ap, subst, ◌∙◌, arith}
use Rattle.std.proofs.lemmas.List.{replicate_more, length-replicate}
use Rattle.scrib_types.specs.declared.event.Event.{Event}
use Rattle.scrib_types.specs.Agreement.{Agreement}
use Rattle.scrib_types.specs.Permitted.{IsPermitted}
use Rattle.scrib_types.specs.Queues.{sent, received, IsPrefix}
use Rattle.scrib_machine.specs.declared.machine.Edge.{Edge}
use Rattle.scrib_queues.specs.Channels.{AllEmpty}
use Rattle.scrib_record.specs.declared.role_state.RoleState.{RoleState}
use Rattle.scrib_record.specs.declared.configuration.Configuration.{Configuration}
use Rattle.scrib_record.specs.RoleMachines.{AreMachinesOf}
use Rattle.scrib_record.specs.declared.exchanges.Exchange.{Exchange}
use Rattle.scrib_record.specs.Configurations.{LeadsTo, IsBetween, IsNumberedBy, exchanges_of, message_at}
use Rattle.scrib_record.proofs.RolePlaces.{place_within, place_role, place_for}

-- the state of a role that has not acted
abbrev pub unmoved : RoleState
unmoved = record { joined = false; state = 0 }

pub role_states_more : (role_states new : List RoleState) (n : ℕ) (s : RoleState) → role_states ≡ replicate n unmoved → s ≡ unmoved → new ≡ role_states ++ s ∷ [] → new ≡ replicate (n + 1) unmoved
role_states_more role_states new n s e f g = rw (g, e, f) (replicate_more n unmoved)

get_replicate : {X : Type 0} (n i : ℕ) (x : X) → i < n → slice_get (replicate n x) i ≡ Some x
get_replicate zero i x h = absurd (omega arith)
get_replicate (suc n) zero x h = refl
get_replicate (suc n) (suc i) x h = get_replicate n i x (omega arith)

some_there : {X : Type 0} (xs : List X) (i : ℕ) → i < length xs → (x : X) × (slice_get xs i ≡ Some x)
some_there [] i h = absurd (omega arith)
some_there (x ∷ xs) zero h = (x, refl)
some_there (x ∷ xs) (suc i) h = some_there xs i (omega arith)

no_numbers : (es : List Exchange) (i j : ℕ) → All (IsBetween es i j) []
no_numbers es i j k d h = absurd (omega arith)

pub led_start : (a : Agreement) (ms : List (List (List Edge))) (c : Configuration) (n : ℕ) → AreMachinesOf a ms → n ≡ length ms → c.role_states.items ≡ replicate n unmoved → c.queues.roles ≡ length ms → AllEmpty c.queues → IsNumberedBy a.roles ms c.numbering → LeadsTo a ms [] c
led_start a ms c n w long role_states roles empty numbered =
    let all : length ms ≡ length a.roles = w.count in
    record {
      role_states = ap length role_states ∙ length-replicate n unmoved ∙ long ∙ all;
      queues = roles ∙ all;
      states_are = λ r i e.
          let in_ms : i < length ms = omega (arith, place_within a.roles r i e) in
          let m = some_there ms i in_ms in
          (unmoved, ap (λ (x : List RoleState). slice_get x i) role_states ∙ get_replicate n i unmoved (omega arith), record { machine = m.0; runs = m.1; joined = refl; led = refl });
      follow = w;
      numbered = numbered;
      queued = λ i j. subst (All (IsBetween (exchanges_of c.numbering) i j)) (sym (empty i j)) (no_numbers (exchanges_of c.numbering) i j);
      flying = λ p q i j e f. sym (ap (map (message_at (exchanges_of c.numbering))) (empty i j));
    }

no_event : (before : List Event) (e : Event) (after : List Event) → [] ≡ before ++ e ∷ after → ⊥
no_event [] e after eq = absurd (cc)
no_event (x ∷ xs) e after eq = absurd (cc)

no_front : (before after : List Event) → [] ≡ before ++ after → [] ≡ before
no_front [] after eq = refl
no_front (x ∷ xs) after eq = absurd (cc)

-- the log of no events is permitted
pub permitted_start : (a : Agreement) (ms : List (List (List Edge))) → AreMachinesOf a ms → IsPermitted a []
permitted_start a ms w = record {
  joined = λ before after e eq. absurd (no_event before e after eq);
  declared = tt;
  traces = λ r d.
      let at = place_for a.roles r d in
      let m = some_there ms at.0 (omega (arith, place_within a.roles r at.0 at.1, w.count)) in
      let k = w.each at.0 r m.0 (place_role a.roles r at.0 at.1) m.1 in
      (k.local, k.projected, tt);
  queued = λ before after eq p q. subst (λ x. IsPrefix (received p q x) (sent p q x)) (no_front before after eq) ([], refl);
}
