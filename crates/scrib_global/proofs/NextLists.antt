-- What each role may do next, role by role.
use Rattle.std.proofs.Common.{◌≡◌, Bool, true, false, if◌then◌else◌, ℕ, ◌+◌, ◌<◌, ◌≤◌, List, [], ◌∷◌, ◌++◌, Option, Some, None, Result, Ok, Err, IfOk, length, get_or, take, drop, map, refl, sym, ap, ◌∙◌, subst}
use Rattle.std.specs.List.{AllByRecursion}
use Rattle.std.proofs.Math.Seq.{drop-cons}
use Rattle.std.proofs.lemmas.Bool.{true≢false}
use Rattle.std.proofs.lemmas.List.{take_all, drop_all, map-append}
use Rattle.scrib_types.specs.declared.message.Message.{Message}
use Rattle.scrib_types.specs.declared.event.Event.{Event}
use Rattle.scrib_types.specs.Trees.{GlobalTree, LocalTree}
use Rattle.scrib_types.specs.Logs.{has_joined}
use Rattle.scrib_global.specs.declared.next.RoleNext.{RoleNext}
use Rattle.scrib_global.specs.declared.next.RoleNext.TheVariants.{MayJoin}
use Rattle.scrib_global.specs.declared.next.RoleStatus.{RoleStatus}
use Rattle.scrib_global.specs.Unfolded.{acts_first}
use Rattle.scrib_global.specs.Next.{IsTypeAfter, oldest_of, next_by_type, IsNextByType, AreNextByType}
use Rattle.scrib_global.proofs.LogPrefixes.{one_more}
use Rattle.scrib_global.proofs.NextLogs.{type_after_one}

-- a value that is chosen by a test
pub chosen_true : (b : Bool) (x y : RoleNext) → b ≡ true → (if b then x else y) ≡ x
chosen_true true x y h = refl
chosen_true false x y h = absurd (true≢false (sym h))

pub chosen_false : (b : Bool) (x y : RoleNext) → b ≡ false → (if b then x else y) ≡ y
chosen_false true x y h = absurd (true≢false h)
chosen_false false x y h = refl

-- the next step by the type that is left
pub by_type : (g : GlobalTree) (log : List Event) (r : List ℕ) (l : LocalTree) → IsTypeAfter g log r l → IsNextByType g log r (if has_joined r log then next_by_type l r log else MayJoin (acts_first l))
by_type g log r l x = λ k y.
    ap (λ z. if has_joined r log then next_by_type z r log else MayJoin (acts_first z)) (type_after_one g log r l k x y)

by_joined : (g : GlobalTree) (log : List Event) (r : List ℕ) (l : LocalTree) (next : RoleNext) → IsTypeAfter g log r l → has_joined r log ≡ true → next ≡ next_by_type l r log → IsNextByType g log r next
by_joined g log r l next x j e =
    subst (λ z. IsNextByType g log r z) (chosen_true (has_joined r log) (next_by_type l r log) (MayJoin (acts_first l)) j ∙ sym e) (by_type g log r l x)

pub by_joined_ok : {E : Type 0} (g : GlobalTree) (log : List Event) (r : List ℕ) (l : LocalTree) (o : Result RoleNext E) → IsTypeAfter g log r l → has_joined r log ≡ true → IfOk o (λ next. next ≡ next_by_type l r log) → IfOk o (IsNextByType g log r)
by_joined_ok g log r l (Ok next) x j e = by_joined g log r l next x j e
by_joined_ok g log r l (Err f) x j e = tt

pub by_absent : (g : GlobalTree) (log : List Event) (r : List ℕ) (l : LocalTree) (next : RoleNext) → IsTypeAfter g log r l → has_joined r log ≡ false → next ≡ MayJoin (acts_first l) → IsNextByType g log r next
by_absent g log r l next x n e =
    subst (λ z. IsNextByType g log r z) (chosen_false (has_joined r log) (next_by_type l r log) (MayJoin (acts_first l)) n ∙ sym e) (by_type g log r l x)

pub by_nothing : (g : GlobalTree) (log : List Event) (r : List ℕ) (next : RoleNext) → ((l : LocalTree) → IsTypeAfter g log r l → ⊥) → IsNextByType g log r next
by_nothing g log r next none = λ l x. absurd (none l x)

all_push : {X : Type 0} (P : X → Type 0) (xs : List X) (y : X) → AllByRecursion P xs → P y → AllByRecursion P (xs ++ y ∷ [])
all_push P [] y h p = (p, tt)
all_push P (x ∷ xs) y h p = (h.0, all_push P xs y h.1 p)

pub statuses_none : (g : GlobalTree) (log : List Event) (found : List RoleStatus) → found ≡ [] → AreNextByType g log [] found
statuses_none g log found e = subst (AreNextByType g log []) (sym e) (record { listed = refl; each = tt })

pub statuses_more : (g : GlobalTree) (log : List Event) (roles : List (List ℕ)) (i : ℕ) (r : List ℕ) (found new : List RoleStatus) (s : RoleStatus) → i < length roles → r ≡ get_or roles i r → new ≡ found ++ s ∷ [] → s.role ≡ r → IsNextByType g log r s.next → AreNextByType g log (take i roles) found → AreNextByType g log (take (i + 1) roles) new
statuses_more g log roles i r found new s n is pushed same next h =
    let role = λ (x : RoleStatus). x.role in
    let P = λ (x : RoleStatus). IsNextByType g log x.role x.next in
    record {
      listed = ap (map role) pushed
          ∙ map-append role found (s ∷ [])
          ∙ ap (λ z. z ++ s.role ∷ []) h.listed
          ∙ ap (λ z. take i roles ++ z ∷ []) same
          ∙ sym (one_more roles i r n is);
      each = subst (AllByRecursion P) (sym pushed) (all_push P found s h.each (subst (λ x. IsNextByType g log x s.next) (sym same) next));
    }

pub statuses_all : (g : GlobalTree) (log : List Event) (roles : List (List ℕ)) (i : ℕ) (found : List RoleStatus) → length roles ≤ i → AreNextByType g log (take i roles) found → AreNextByType g log roles found
statuses_all g log roles i found n h = subst (λ x. AreNextByType g log x found) (take_all i roles n) h

-- the oldest message in flight
pub oldest_at : (sent : List Message) (i : ℕ) (m : Message) → i < length sent → m ≡ get_or sent i m → Some m ≡ oldest_of (drop i sent)
oldest_at sent i m n is = sym (ap oldest_of (drop-cons sent i m n) ∙ ap Some (sym is))

pub oldest_none : (sent : List Message) (i : ℕ) → length sent ≤ i → ◌≡◌ {A = Option Message} None (oldest_of (drop i sent))
oldest_none sent i n = sym (ap oldest_of (drop_all i sent n))
