-- The list of the messages in flight, role by role.
use Rattle.std.proofs.Common.{◌≡◌, true, ℕ, ◌+◌, ◌<◌, List, ◌++◌, length, get_or, take, sym, ap, ◌∙◌}
use Rattle.std.specs.List.{flat_map}
use Rattle.std.proofs.lemmas.List.{flat_map_more}
use Rattle.scrib_types.specs.declared.event.Event.{Event}
use Rattle.scrib_types.specs.Agreement.{Agreement}
use Rattle.scrib_types.specs.WellFormed.{is_protocol}
use Rattle.scrib_types.specs.Permitted.{IsPermitted}
use Rattle.scrib_global.specs.declared.explain.Flight.{Flight}
use Rattle.scrib_global.specs.Explained.{all_in_flight, IsExplained}
use Rattle.scrib_global.proofs.LogPrefixes.{one_more}
use Rattle.scrib_global.proofs.Runs.{simulates}
use Rattle.scrib_global.proofs.UndeclaredFlights.{nothing_elsewhere}

pub flat_more : {X A : Type 0} (f : X → List A) (old cur new : List A) (xs : List X) (i : ℕ) (x : X) → i < length xs → x ≡ get_or xs i x → cur ≡ old ++ flat_map f (take i xs) → new ≡ cur ++ f x → new ≡ old ++ flat_map f (take (i + 1) xs)
flat_more f old cur new xs i x n is inv pushed =
    pushed
    ∙ ap (λ z. z ++ f x) inv
    ∙ flat_map_more f old (take i xs) x
    ∙ ap (λ z. old ++ flat_map f z) (sym (one_more xs i x n is))

pub explained : (a : Agreement) → is_protocol a.roles a.global ≡ true → (log : List Event) → IsPermitted a log → (found : List Flight) (roles : List (List ℕ)) → roles ≡ a.roles → found ≡ all_in_flight roles log → IsExplained a log found
explained a v log p found roles e h =
    let s = simulates a v in
    let r = (s.exact log).0 p in
    record {
      run = r;
      exact = h ∙ ap (λ x. all_in_flight x log) e;
      elsewhere = nothing_elsewhere a v log p;
      carried = s.carries log r.state r.run;
      oldest = s.oldest log p;
    }
