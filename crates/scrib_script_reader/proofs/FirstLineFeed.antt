-- The first LF among bytes.
use Rattle.std.proofs.Common.{◌≡◌, ◌≢◌, ◌<◌, ◌≤◌, ℕ, List, Option, Some, None, length, take, get_or, ap, sym, ◌∙◌, subst, arith}
use Rattle.std.specs.Prelude.{MatchOption, slice_index}
use Rattle.std.proofs.lemmas.Bool.{eqb-true}
use Rattle.std.proofs.lemmas.List.{get_or-take, length-take-le, take_all}
use Rattle.std.proofs.lemmas.List.Elements.{All-from_get_or}
use Rattle.memchr.specs.Find.{IsFirstByte, Nowhere, Passes, is_byte}
use Rattle.scrib_script_reader.specs.Scripts.{NoLf}

-- the place is the first one where no byte in front of it is an LF
none_before : (bytes : List ℕ) (at : ℕ) → at ≤ length bytes → Nowhere (Passes (is_byte 10) bytes) 0 at → NoLf (take at bytes)
none_before bytes at within none =
    let whole = length-take-le at bytes within in
    All-from_get_or (λ b. b ≢ 10) (take at bytes) 0 (λ k below e.
    let under : k < at = omega (arith, below, whole) in
    let same : get_or bytes k 0 ≡ 10 = sym (get_or-take at bytes k 0 under) ∙ e in
    none k (omega arith) under (ap (is_byte 10) same))

none_at_all : (bytes : List ℕ) → Nowhere (Passes (is_byte 10) bytes) 0 (length bytes) → NoLf bytes
none_at_all bytes none =
    subst NoLf (take_all (length bytes) bytes (omega arith)) (none_before bytes (length bytes) (omega arith) none)

pub feed-within : (bytes : List ℕ) (r : Option ℕ) → IsFirstByte (is_byte 10) bytes r → MatchOption r (NoLf bytes) (λ at. at < length bytes)
feed-within bytes None h = none_at_all bytes h
feed-within bytes (Some at) h = h.0.high

pub feed-lf : (bytes : List ℕ) (r : Option ℕ) → IsFirstByte (is_byte 10) bytes r → MatchOption r (NoLf bytes) (λ at. slice_index bytes at ≡ 10)
feed-lf bytes None h = none_at_all bytes h
feed-lf bytes (Some at) h = eqb-true (slice_index bytes at) 10 h.1

pub feed-before : (bytes : List ℕ) (r : Option ℕ) → IsFirstByte (is_byte 10) bytes r → MatchOption r (NoLf bytes) (λ at. NoLf (take at bytes))
feed-before bytes None h = none_at_all bytes h
feed-before bytes (Some at) h = none_before bytes at (omega (arith, h.0.high)) h.0.before
