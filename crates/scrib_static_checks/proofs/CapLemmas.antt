-- Numbers that agree below a cap.
use Rattle.std.proofs.Common.{◌≡◌, ℕ, zero, suc, ◌+◌, ◌*◌, ◌<◌, ◌≤◌, min, sym, ap, ◌∙◌, subst, ⊎_elim, arith}
use Rattle.std.proofs.Math.Nat.{mul-suc, mul-add, add-mul, mul_assoc, mul_comm}
use Rattle.std.proofs.lemmas.Bool.{cases_lt}
use Rattle.scrib_static_checks.specs.declared.size_bound.NodeCount.{NodeCount}
use Rattle.scrib_static_checks.specs.SizeFunctions.{Agree, nodes_at, IsComposed, IsCombined}

at_least : (m j : ℕ) → m ≤ m * suc j
at_least m j = let has_size = mul-suc m j in omega arith

-- a multiple of a capped number
pub capped_times : (c x y k : ℕ) → min c (x + y * k) ≡ min c (min c x + min c y * k)
capped_times c x y k = ⊎_elim (λ h. small h) (λ h. large k h) (cases_lt y c)
  where
    small : y < c → min c (x + y * k) ≡ min c (min c x + min c y * k)
    small h =
        let same : min c y ≡ y = omega arith in
        let times : min c y * k ≡ y * k = ap (λ z. z * k) same in
        omega arith

    large : (j : ℕ) → c ≤ y → min c (x + y * j) ≡ min c (min c x + min c y * j)
    large zero h = omega arith
    large (suc j) h =
        let same : min c y ≡ c = omega arith in
        let times : min c y * suc j ≡ c * suc j = ap (λ z. z * suc j) same in
        let wide : y ≤ y * suc j = at_least y j in
        let whole : c ≤ c * suc j = at_least c j in
        omega arith

-- one number may replace another that agrees with it
pub capped_put : (c a b n w : ℕ) → min c n ≡ min c w → min c (a + b * n) ≡ min c (a + b * w)
capped_put c a b n w e = ⊎_elim (λ h. small h) (λ h. large b h) (cases_lt n c)
  where
    small : n < c → min c (a + b * n) ≡ min c (a + b * w)
    small h = let same : n ≡ w = omega arith in ap (λ z. min c (a + b * z)) same

    large : (j : ℕ) → c ≤ n → min c (a + j * n) ≡ min c (a + j * w)
    large zero h = omega arith
    large (suc j) h =
        let wide : n ≤ suc j * n = has_size n in
        let other : w ≤ suc j * w = has_size w in
        omega arith
      where
        has_size : (m : ℕ) → m ≤ suc j * m
        has_size m = subst (λ z. m ≤ z) (mul_comm m (suc j)) (at_least m j)

distributed : (a b c d k : ℕ) → a + b * (c + d * k) ≡ (a + b * c) + (b * d) * k
distributed a b c d k =
    let spread = mul-add b c (d * k) in let joined = mul_assoc b d k in omega arith

-- the result of a size function, its numbers capped
nodes_at_is : (g : NodeCount) (x y : ℕ) → g.base ≡ min 65536 x → g.times ≡ min 65536 y → (k : ℕ) → Agree 65536 (x + y * k) (nodes_at g k)
nodes_at_is g x y p q k = capped_times 65536 x y k ∙ sym (λ i. min 65536 (p i + q i * k))

pub compose_agrees : (outer inner all : NodeCount) → all.base ≡ min 65536 (outer.base + outer.times * inner.base) → all.times ≡ min 65536 (outer.times * inner.times) → IsComposed 65536 (nodes_at outer) (nodes_at inner) (nodes_at all)
compose_agrees outer inner all p q k m n e f =
    f ∙ capped_put 65536 outer.base outer.times m (nodes_at inner k) e ∙ ap (min 65536) (distributed outer.base outer.times inner.base inner.times k) ∙ nodes_at_is all (outer.base + outer.times * inner.base) (outer.times * inner.times) p q k

pub sum_agrees : (one other all : NodeCount) → all.base ≡ min 65536 (one.base + other.base) → all.times ≡ min 65536 (one.times + other.times) → IsCombined 65536 ◌+◌ (nodes_at one) (nodes_at other) (nodes_at all)
sum_agrees one other all p q k m n e f =
    let split = add-mul one.times other.times k in
    let together : min 65536 (m + n) ≡ min 65536 ((one.base + other.base) + (one.times + other.times) * k) = omega arith in
    together ∙ nodes_at_is all (one.base + other.base) (one.times + other.times) p q k
