-- The results of jobs on threads, each beside its job.
use Rattle.std.proofs.Common.{◌≡◌, ℕ, suc, ◌<◌, List, [], ◌∷◌, map, length, Result, Ok, Err, Vec, vec_len, arith}
use Rattle.std.specs.Prelude.{IfOk, slice_index_or}
use Rattle.std.specs.List.{AllZip}

-- a property of each job and its result by index is one of the two lists side by side
zip_jobs : {J R Q : Type 0} (P : Q → R → Type 0) (v : J → Q) (js : List J) (rs : List R) → length rs ≡ length js
    → ((i : ℕ) (d : R) (c : J) → i < length js → P (v (slice_index_or js i c)) (slice_index_or rs i d)) → AllZip P (map v js) rs
zip_jobs P v [] [] long each = tt
zip_jobs P v [] (r ∷ rs) long each = cc long
zip_jobs P v (j ∷ js) [] long each = cc long
zip_jobs {J} {R} P v (j ∷ js) (r ∷ rs) long each = (each 0 r j (omega arith), zip_jobs P v js rs (cc long) (λ i d c within. each (suc i) d c (omega arith)))

pub zip_ok : {J R Q Z Y E : Type 0} (P : Q → R → Type 0) (v : J → Q) (js : Vec J Y) (r : Result (Vec R Z) E) → IfOk r (λ all. vec_len all ≡ vec_len js)
    → IfOk r (λ all. (i : ℕ) (d : R) (c : J) → i < length js.items → P (v (slice_index_or js.items i c)) (slice_index_or all.items i d)) → IfOk r (λ all. AllZip P (map v js.items) all.items)
zip_ok P v js (Ok all) long each = zip_jobs P v js.items all.items (omega (arith, long, js.ok.0, all.ok.0)) each
zip_ok P v js (Err e) long each = tt
