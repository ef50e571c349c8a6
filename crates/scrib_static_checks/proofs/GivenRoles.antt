-- The roles that are passed for the roles of a called protocol.
use Rattle.std.proofs.Common.{◌≡◌, ◌⊎◌, ℕ, Bool, true, false, not, List, [], ◌∷◌, length, map, refl, sym, ap, ◌∙◌, ⊎_elim, inl, inr, arith}
use Rattle.std.specs.Str.{bytes_eq}
use Rattle.std.proofs.lemmas.Bool.{false≢true, both_ways, and_parts, and_from, or_cases, or_left, or_right, not-true, not_from_false}
use Rattle.std.proofs.lemmas.List.{length-map}
use Rattle.std.proofs.lemmas.Slice.Eq.{bytes_eq-Decides}
use Rattle.scrib_types.specs.WellFormed.{has_role, distinct_roles}
use Rattle.scrib_tree.specs.declared.tree.ModuleTree.{ModuleTree}
use Rattle.scrib_static_checks.specs.Names.{Declaration, roles_of}
use Rattle.scrib_static_checks.specs.Statements.{are_roles, IsCall}
use Rattle.scrib_static_checks.specs.Elaboration.{Scope, given_for, role_in, inside_call}

same_role : (r s : List ℕ) → bytes_eq r s ≡ true → r ≡ s
same_role r s e = (bytes_eq-Decides r s).0 e

pub role_itself : (r : List ℕ) → bytes_eq r r ≡ true
role_itself r = (bytes_eq-Decides r r).1 refl

-- by the first declared role

given_first : (r d : List ℕ) (ds : List (List ℕ)) (g : List ℕ) (gs : List (List ℕ)) → bytes_eq r d ≡ true → given_for (d ∷ ds) (g ∷ gs) r ≡ g
given_first r d ds g gs e = rw e refl

given_later : (r d : List ℕ) (ds : List (List ℕ)) (g : List ℕ) (gs : List (List ℕ)) → bytes_eq r d ≡ false → given_for (d ∷ ds) (g ∷ gs) r ≡ given_for ds gs r
given_later r d ds g gs e = rw e refl

pub true_or_false : (t : Bool) → (t ≡ true) ⊎ (t ≡ false)
true_or_false true = inl refl
true_or_false false = inr refl

-- what is passed for a declared role is one of the passed roles
given_among : (ds gs : List (List ℕ)) (r : List ℕ) → length ds ≡ length gs → has_role r ds ≡ true → has_role (given_for ds gs r) gs ≡ true
given_among [] gs r l h = absurd (false≢true h)
given_among (d ∷ ds) [] r l h = absurd (omega arith)
given_among (d ∷ ds) (g ∷ gs) r l h =
    ⊎_elim (λ e. ap (λ x. has_role x (g ∷ gs)) (given_first r d ds g gs e) ∙ or_left (bytes_eq g g) (has_role g gs) (role_itself g))
    (λ e. let there : has_role r ds ≡ true = ⊎_elim (λ t. absurd (both_ways (bytes_eq r d) e t)) (λ t. t) (or_cases (bytes_eq r d) (has_role r ds) h) in
    let x = given_for ds gs r in
    ap (λ x. has_role x (g ∷ gs)) (given_later r d ds g gs e) ∙ or_right (bytes_eq x g) (has_role x gs) (given_among ds gs r (omega arith) there))
    (true_or_false (bytes_eq r d))

-- different roles are passed for different ones
given_same : (ds gs : List (List ℕ)) (r s : List ℕ) → length ds ≡ length gs → distinct_roles gs ≡ true → has_role r ds ≡ true → has_role s ds ≡ true → given_for ds gs r ≡ given_for ds gs s → r ≡ s
given_same [] gs r s l u h k e = absurd (false≢true h)
given_same (d ∷ ds) [] r s l u h k e = absurd (omega arith)
given_same (d ∷ ds) (g ∷ gs) r s l u h k e =
    let parts = and_parts (not (has_role g gs)) (distinct_roles gs) u in
    let none = not-true (has_role g gs) parts.0 in
    let more : (x : List ℕ) → has_role x (d ∷ ds) ≡ true → bytes_eq x d ≡ false → has_role x ds ≡ true =
    λ x t f. ⊎_elim (λ v. absurd (both_ways (bytes_eq x d) f v)) (λ v. v) (or_cases (bytes_eq x d) (has_role x ds) t) in
    let here : (x y : List ℕ) → has_role y (d ∷ ds) ≡ true → bytes_eq x d ≡ true → bytes_eq y d ≡ false → given_for (d ∷ ds) (g ∷ gs) x ≡ given_for (d ∷ ds) (g ∷ gs) y → ⊥ =
    λ x y t a b f.
    let same : g ≡ given_for ds gs y = sym (given_first x d ds g gs a) ∙ f ∙ given_later y d ds g gs b in
    both_ways (has_role g gs) none (ap (λ z. has_role z gs) same ∙ given_among ds gs y (omega arith) (more y t b)) in
    ⊎_elim (λ a. ⊎_elim (λ b. same_role r d a ∙ sym (same_role s d b)) (λ b. absurd (here r s k a b e)) (true_or_false (bytes_eq s d)))
    (λ a. ⊎_elim (λ b. absurd (here s r h b a (sym e))) (λ b. given_same ds gs r s (omega arith) parts.1 (more r h a) (more s k b) (sym (given_later r d ds g gs a) ∙ e ∙ given_later s d ds g gs b)) (true_or_false (bytes_eq s d)))
    (true_or_false (bytes_eq r d))

-- each role of a protocol is passed for itself in it
given_itself : (ds : List (List ℕ)) (r : List ℕ) → given_for ds ds r ≡ r
given_itself [] r = refl
given_itself (d ∷ ds) r =
    ⊎_elim (λ e. given_first r d ds d ds e ∙ sym (same_role r d e)) (λ e. given_later r d ds d ds e ∙ given_itself ds r) (true_or_false (bytes_eq r d))

-- For each role of the protocol one of these roles is passed, different ones for different ones.
pub record GivesRoles (roles : List (List ℕ)) (sc : Scope) : Type 0 where
  pub among : (r : List ℕ) → has_role r (roles_of sc.within) ≡ true → has_role (role_in sc r) roles ≡ true
  pub same : (r s : List ℕ) → has_role r (roles_of sc.within) ≡ true → has_role s (roles_of sc.within) ≡ true → role_in sc r ≡ role_in sc s → r ≡ s

pub gives_itself : (d : Declaration) → GivesRoles (roles_of d) (record { within = d; given = roles_of d; recs = [] })
gives_itself d = record {
  among = λ r h. ap (λ x. has_role x (roles_of d)) (given_itself (roles_of d) r) ∙ h;
  same = λ r s h k e. sym (given_itself (roles_of d) r) ∙ e ∙ given_itself (roles_of d) s;
}

-- a role of roles that are all among others
pub role_among : (r : List ℕ) (rs roles : List (List ℕ)) → are_roles rs roles ≡ true → has_role r rs ≡ true → has_role r roles ≡ true
role_among r [] roles a h = absurd (false≢true h)
role_among r (s ∷ rs) roles a h =
    let parts = and_parts (has_role s roles) (are_roles rs roles) a in
    ⊎_elim (λ e. ap (λ x. has_role x roles) (same_role r s e) ∙ parts.0) (λ e. role_among r rs roles parts.1 e) (or_cases (bytes_eq r s) (has_role r rs) h)

-- what is passed for the roles of a list

mapped_among : (f : List ℕ → List ℕ) (rs roles : List (List ℕ)) → ((r : List ℕ) → has_role r rs ≡ true → has_role (f r) roles ≡ true) → (q : List ℕ) → has_role q (map f rs) ≡ true → has_role q roles ≡ true
mapped_among f [] roles h q k = absurd (false≢true k)
mapped_among f (r ∷ rs) roles h q k =
    ⊎_elim (λ e. ap (λ x. has_role x roles) (same_role q (f r) e) ∙ h r (or_left (bytes_eq r r) (has_role r rs) (role_itself r)))
    (λ e. mapped_among f rs roles (λ s t. h s (or_right (bytes_eq s r) (has_role s rs) t)) q e)
    (or_cases (bytes_eq q (f r)) (has_role q (map f rs)) k)

mapped_role : (f : List ℕ → List ℕ) (r : List ℕ) (rs : List (List ℕ)) → ((s : List ℕ) → has_role s rs ≡ true → f r ≡ f s → r ≡ s) → has_role (f r) (map f rs) ≡ true → has_role r rs ≡ true
mapped_role f r [] h k = absurd (false≢true k)
mapped_role f r (s ∷ rs) h k =
    ⊎_elim (λ e. let same = h s (or_left (bytes_eq s s) (has_role s rs) (role_itself s)) (same_role (f r) (f s) e) in or_left (bytes_eq r s) (has_role r rs) ((bytes_eq-Decides r s).1 same))
    (λ e. or_right (bytes_eq r s) (has_role r rs) (mapped_role f r rs (λ t u. h t (or_right (bytes_eq t s) (has_role t rs) u)) e))
    (or_cases (bytes_eq (f r) (f s)) (has_role (f r) (map f rs)) k)

mapped_distinct : (f : List ℕ → List ℕ) (rs : List (List ℕ)) → ((r s : List ℕ) → has_role r rs ≡ true → has_role s rs ≡ true → f r ≡ f s → r ≡ s) → distinct_roles rs ≡ true → distinct_roles (map f rs) ≡ true
mapped_distinct f [] h d = refl
mapped_distinct f (r ∷ rs) h d =
    let parts = and_parts (not (has_role r rs)) (distinct_roles rs) d in
    let first : has_role r (r ∷ rs) ≡ true = or_left (bytes_eq r r) (has_role r rs) (role_itself r) in
    let more : (s : List ℕ) → has_role s rs ≡ true → has_role s (r ∷ rs) ≡ true = λ s t. or_right (bytes_eq s r) (has_role s rs) t in
    let none : has_role (f r) (map f rs) ≡ false =
    ⊎_elim (λ t. absurd (both_ways (has_role r rs) (not-true (has_role r rs) parts.0) (mapped_role f r rs (λ s u. h r s first (more s u)) t))) (λ t. t) (true_or_false (has_role (f r) (map f rs))) in
    and_from (not (has_role (f r) (map f rs))) (distinct_roles (map f rs)) (not_from_false (has_role (f r) (map f rs)) none) (mapped_distinct f rs (λ s t a b. h s t (more s a) (more t b)) parts.1)

pub gives_called : (ms : List ModuleTree) (roles : List (List ℕ)) (sc : Scope) (path rs : List (List ℕ)) (c : Declaration) → IsCall ms sc.within path rs c → GivesRoles roles sc → GivesRoles roles (inside_call sc c rs)
gives_called ms roles sc path rs c i g =
    let gs = map (role_in sc) rs in
    let count : length (roles_of c) ≡ length gs = length-map c.protocol.roles (λ r. r.name) ∙ sym i.count ∙ sym (length-map rs (role_in sc)) in
    let inner : (r : List ℕ) → has_role r rs ≡ true → has_role r (roles_of sc.within) ≡ true = λ r h. role_among r rs (roles_of sc.within) i.declared h in
    let different : distinct_roles gs ≡ true = mapped_distinct (role_in sc) rs (λ r s h k e. g.same r s (inner r h) (inner s k) e) i.different in
    record {
      among = λ r h. mapped_among (role_in sc) rs roles (λ s k. g.among s (inner s k)) (given_for (roles_of c) gs r) (given_among (roles_of c) gs r count h);
      same = λ r s h k e. given_same (roles_of c) gs r s count different h k e;
    }
