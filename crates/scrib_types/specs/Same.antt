-- Whether two operators, messages and local types are the same, as tests.
use Rattle.std.specs.Prelude.{◌≡◌, ◌↔◌, ℕ, Bool, true, false, ◌&&◌, ◌==◌, IsTrue, List, Option, Some, None, refl}
use Rattle.std.specs.Str.{bytes_eq}
use Rattle.std.proofs.Common.{ap, sym, ◌∙◌}
use Rattle.std.proofs.lemmas.Bool.{and_parts, false_from_ne_true}
use Rattle.std.proofs.lemmas.Bool.Decides.{Decides-eqb}
use base.Stored.{Gv, gnil, gnum, gcons}
use Rattle.scrib_types.specs.declared.message.Message.{Message}
use Rattle.scrib_types.specs.Trees.{LocalTree}
use Rattle.scrib_types.specs.Codes.{coded_message, local_code, local_code-injective}

-- the same operator, or both none
abbrev pub same_operator : Option (List ℕ) → Option (List ℕ) → Bool
same_operator None None = true
same_operator None (Some b) = false
same_operator (Some a) None = false
same_operator (Some a) (Some b) = bytes_eq a b

-- two codes are the same
abbrev pub code_eq : Gv → Gv → Bool
code_eq gnil gnil = true
code_eq (gnum m) (gnum n) = m == n
code_eq (gcons a b) (gcons c d) = code_eq a c && code_eq b d
code_eq gnil (gnum n) = false
code_eq gnil (gcons c d) = false
code_eq (gnum m) gnil = false
code_eq (gnum m) (gcons c d) = false
code_eq (gcons a b) gnil = false
code_eq (gcons a b) (gnum n) = false

code_eq-refl : (a : Gv) → code_eq a a ≡ true
code_eq-refl gnil = refl
code_eq-refl (gnum n) = (Decides-eqb n n).1 refl
code_eq-refl (gcons a b) = rw (code_eq-refl a) (code_eq-refl b)

code_eq-true : (a b : Gv) → code_eq a b ≡ true → a ≡ b
code_eq-true gnil gnil h = refl
code_eq-true (gnum m) (gnum n) h = ap gnum ((Decides-eqb m n).0 h)
code_eq-true (gcons a b) (gcons c d) h =
    let p = and_parts (code_eq a c) (code_eq b d) h in λ i. gcons (code_eq-true a c p.0 i) (code_eq-true b d p.1 i)
code_eq-true gnil (gnum n) h = cc
code_eq-true gnil (gcons c d) h = cc
code_eq-true (gnum m) gnil h = cc
code_eq-true (gnum m) (gcons c d) h = cc
code_eq-true (gcons a b) gnil h = cc
code_eq-true (gcons a b) (gnum n) h = cc

-- two local types are the same
unfoldable pub same_local : LocalTree → LocalTree → Bool
same_local a b = code_eq (local_code a) (local_code b)

-- the test holds of equal types alone
pub same_local-equal : (a b : LocalTree) → same_local a b ≡ true → a ≡ b
unfolding same_local
same_local-equal a b h = local_code-injective a b (code_eq-true (local_code a) (local_code b) h)

-- the test holds of a type and itself
pub same_local-refl : (a : LocalTree) → same_local a a ≡ true
unfolding same_local
same_local-refl a = code_eq-refl (local_code a)

-- any decision of equality agrees with the test
pub same_local_decided : (r : Bool) (a b : LocalTree) → (IsTrue r ↔ a ≡ b) → r ≡ same_local a b
same_local_decided true a b h = sym (ap (same_local a) (sym (h.0 refl)) ∙ same_local-refl a)
same_local_decided false a b h =
    sym (false_from_ne_true (same_local a b) (λ e. absurd (cc (h.1 (same_local-equal a b e)))))

-- two messages are the same
unfoldable pub same_message : Message → Message → Bool
same_message m n = code_eq (coded_message.code m) (coded_message.code n)

-- the test holds of equal messages alone
pub same_message-equal : (m n : Message) → same_message m n ≡ true → m ≡ n
unfolding same_message
same_message-equal m n h = coded_message.inj m n (code_eq-true (coded_message.code m) (coded_message.code n) h)

-- the test holds of a message and itself
pub same_message-refl : (m : Message) → same_message m m ≡ true
unfolding same_message
same_message-refl m = code_eq-refl (coded_message.code m)

-- any decision of equality agrees with the test
pub same_message_decided : (r : Bool) (m n : Message) → (IsTrue r ↔ m ≡ n) → r ≡ same_message m n
same_message_decided true m n h = sym (ap (same_message m) (sym (h.0 refl)) ∙ same_message-refl m)
same_message_decided false m n h =
    sym (false_from_ne_true (same_message m n) (λ e. absurd (cc (h.1 (same_message-equal m n e)))))
