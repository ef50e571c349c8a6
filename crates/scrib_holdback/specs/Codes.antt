-- How the logic stores the state of a holdback. Only its view cites this file.
use Rattle.std.specs.Prelude.{ℕ, List, refl}
use Rattle.std.specs.Coded.{Coded, code_by, coded×, coded_list, coded_ℕ}
use Rattle.scrib_holdback.specs.declared.flights.Flight.{Flight}
use Rattle.scrib_holdback.specs.Holdings.{Holding}

-- a flight is stored as its roles and its counts
abbrev pub flight_code : Coded Flight
flight_code =
    code_by (List ℕ × (List ℕ × (ℕ × ℕ)))
    (coded× (coded_list coded_ℕ) (coded× (coded_list coded_ℕ) (coded× coded_ℕ coded_ℕ)))
    (λ f. (f.from, (f.to, (f.sent, f.received))))
    (λ p. record { from = p.0; to = p.1.0; sent = p.1.1.0; received = p.1.1.1 }) (λ _. refl)

-- the state of a holdback is stored as its lists
abbrev pub holding_code : {A : Type 0} → Coded A → Coded (Holding A)
holding_code {A} c =
    code_by (List (List ℕ) × (List A × List Flight))
    (coded× (coded_list (coded_list coded_ℕ)) (coded× (coded_list c) (coded_list flight_code)))
    (λ h. (h.roles, (h.waiting, h.flights)))
    (λ p. record { roles = p.0; waiting = p.1.0; flights = p.1.1 }) (λ _. refl)
