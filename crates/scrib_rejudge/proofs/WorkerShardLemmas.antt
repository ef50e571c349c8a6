-- The shards of a worker are shards of the service.
use Rattle.std.proofs.Common.{◌<◌, ℕ, Bool, All, length, arith}
use Rattle.std.specs.List.{filter, range_with_len}
use Rattle.std.proofs.lemmas.List.Elements.{All-filter, All-from_get_or}
use Rattle.std.proofs.lemmas.List.FromFn.{length-range_with_len, get_or-range_with_len}

pub all_below : (p : ℕ → Bool) (n : ℕ) → All (λ k. k < n) (filter p (range_with_len 0 n))
all_below p n =
    let within : (i : ℕ) → i < length (range_with_len 0 n) → i < n = λ i l. omega (arith, length-range_with_len 0 n) in
    All-filter p (λ k. k < n) (range_with_len 0 n)
    (All-from_get_or (λ k. k < n) (range_with_len 0 n) 0 (λ i l. omega (arith, within i l, get_or-range_with_len 0 n i 0 (within i l))))
