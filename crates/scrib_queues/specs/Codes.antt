-- How the logic stores queues. Only their views cite this file.
use Rattle.std.specs.Prelude.{ℕ, Bool, List, refl}
use Rattle.std.specs.Coded.{Coded, code_by, coded×, coded_bool, coded_list, coded_ℕ}
use Rattle.scrib_queues.specs.declared.queues.Pair.{Pair}
use Rattle.scrib_queues.specs.Channels.{Channel, Channels}

-- a pair is stored as the pair of its positions
abbrev pub pair_code : Coded Pair
pair_code =
    code_by (ℕ × ℕ) (coded× coded_ℕ coded_ℕ) (λ k. (k.from, k.to)) (λ p. record { from = p.0; to = p.1 })
    (λ _. refl)

-- a queue is stored as the pair of its fields
abbrev pub channel_code : {T : Type 0} → Coded T → Coded (Channel T)
channel_code {T} c =
    code_by (List T × Bool) (coded× (coded_list c) coded_bool) (λ l. (l.items, l.room))
    (λ p. record { items = p.0; room = p.1 }) (λ _. refl)

-- queues are stored as the pair of their fields
abbrev pub channels_code : {T : Type 0} → Coded T → Coded (Channels T)
channels_code {T} c =
    code_by (ℕ × List (Pair × Channel T)) (coded× coded_ℕ (coded_list (coded× pair_code (channel_code c))))
    (λ s. (s.roles, s.used)) (λ p. record { roles = p.0; used = p.1 }) (λ _. refl)
