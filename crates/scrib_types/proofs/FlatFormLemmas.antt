-- The flat forms of messages and of events are prefix-free codes, and so injective.
use Rattle.std.proofs.Common.{◌≡◌, ◌↔◌, IsTrue, Bool, ℕ, zero, suc, ◌/◌, ◌%◌, ◌<◌, List, [], ◌∷◌, ◌++◌, length, drop, replicate, Some, None, refl, sym, ap, ◌∙◌, append_assoc, arith}
use Rattle.scrib_types.specs.declared.message.Message.{Message}
use Rattle.scrib_types.specs.declared.event.Event.{Event}
use Rattle.scrib_types.specs.declared.event.Event.TheVariants as event
use Rattle.scrib_types.specs.Flat.{number_bytes, name_bytes, names_bytes, payload_bytes, operator_bytes, message_bytes}
use Rattle.scrib_types.specs.FlatEvents.{event_bytes, exchange_bytes}

-- prefix-free: bytes that begin with a value's code determine the value and what follows
abbrev pub IsPrefixFree : {A : Type 0} → (A → List ℕ) → Type 0
IsPrefixFree {A = A} f = (x y : A) (s t : List ℕ) → f x ++ s ≡ f y ++ t → (x ≡ y) × (s ≡ t)

number-prefix_free : (a b q r : ℕ) (s t : List ℕ) → q < 255 → r < 255 → (replicate a 255 ++ q ∷ []) ++ s ≡ (replicate b 255 ++ r ∷ []) ++ t → (a ≡ b) × (q ≡ r) × (s ≡ t)
number-prefix_free zero zero q r s t m n e = (refl, cc, cc)
number-prefix_free zero (suc b) q r s t m n e = let k : q ≡ 255 = cc in absurd (omega arith)
number-prefix_free (suc a) zero q r s t m n e = let k : 255 ≡ r = cc in absurd (omega arith)
number-prefix_free (suc a) (suc b) q r s t m n e =
    let k : (replicate a 255 ++ q ∷ []) ++ s ≡ (replicate b 255 ++ r ∷ []) ++ t = cc in
    let h = number-prefix_free a b q r s t m n k in (ap suc h.0, h.1, h.2)

pub number_bytes-prefix_free : IsPrefixFree number_bytes
unfolding number_bytes
number_bytes-prefix_free m n s t e =
    let h = number-prefix_free (m / 255) (n / 255) (m % 255) (n % 255) s t (omega arith) (omega arith) e in
    let q : m / 255 ≡ n / 255 = h.0 in
    let r : m % 255 ≡ n % 255 = h.1 in
    (omega arith, h.2)

same_length : (x y s t : List ℕ) → length x ≡ length y → x ++ s ≡ y ++ t → (x ≡ y) × (s ≡ t)
same_length [] [] s t n e = (refl, e)
same_length [] (b ∷ y) s t n e = absurd (omega arith)
same_length (a ∷ x) [] s t n e = absurd (omega arith)
same_length (a ∷ x) (b ∷ y) s t n e =
    let k : length x ≡ length y = omega arith in
    let f : x ++ s ≡ y ++ t = cc in
    let g : a ≡ b = cc in
    let h = same_length x y s t k f in (λ i. g i ∷ h.0 i, h.1)

pub name_bytes-prefix_free : IsPrefixFree name_bytes
unfolding name_bytes
name_bytes-prefix_free x y s t e =
    let f = sym (append_assoc (number_bytes (length x)) x s) ∙ e ∙ append_assoc (number_bytes (length y)) y t in
    let h = number_bytes-prefix_free (length x) (length y) (x ++ s) (y ++ t) f in
    same_length x y s t h.0 h.1

-- the code of a pair: the first part's, and then the second's
pub pair-prefix_free : {A B : Type 0} (f : A → List ℕ) (g : B → List ℕ) → IsPrefixFree f → IsPrefixFree g → (a c : A) (b d : B) (s t : List ℕ) → (f a ++ g b) ++ s ≡ (f c ++ g d) ++ t → (a ≡ c) × (b ≡ d) × (s ≡ t)
pair-prefix_free f g once_f once_g a c b d s t e =
    let k = sym (append_assoc (f a) (g b) s) ∙ e ∙ append_assoc (f c) (g d) t in
    let h = once_f a c (g b ++ s) (g d ++ t) k in
    let j = once_g b d s t h.1 in
    (h.0, j.0, j.1)

pub names_bytes-prefix_free : IsPrefixFree names_bytes
names_bytes-prefix_free [] [] s t e = (refl, cc)
names_bytes-prefix_free [] (y ∷ ys) s t e = absurd (cc)
names_bytes-prefix_free (x ∷ xs) [] s t e = absurd (cc)
names_bytes-prefix_free (x ∷ xs) (y ∷ ys) s t e =
    let k : (name_bytes x ++ names_bytes xs) ++ s ≡ (name_bytes y ++ names_bytes ys) ++ t = cc in
    let f = sym (append_assoc (name_bytes x) (names_bytes xs) s) ∙ k ∙ append_assoc (name_bytes y) (names_bytes ys) t in
    let h = name_bytes-prefix_free x y (names_bytes xs ++ s) (names_bytes ys ++ t) f in
    let j = names_bytes-prefix_free xs ys s t h.1 in
    (λ i. h.0 i ∷ j.0 i, j.1)

pub payload_bytes-prefix_free : IsPrefixFree payload_bytes
payload_bytes-prefix_free [] [] s t e = (refl, cc)
payload_bytes-prefix_free [] (y ∷ ys) s t e = absurd (cc)
payload_bytes-prefix_free (x ∷ xs) [] s t e = absurd (cc)
payload_bytes-prefix_free (x ∷ xs) (y ∷ ys) s t e =
    let k : (names_bytes x ++ payload_bytes xs) ++ s ≡ (names_bytes y ++ payload_bytes ys) ++ t = cc in
    let f = sym (append_assoc (names_bytes x) (payload_bytes xs) s) ∙ k ∙ append_assoc (names_bytes y) (payload_bytes ys) t in
    let h = names_bytes-prefix_free x y (payload_bytes xs ++ s) (payload_bytes ys ++ t) f in
    let j = payload_bytes-prefix_free xs ys s t h.1 in
    (λ i. h.0 i ∷ j.0 i, j.1)

operator_bytes-prefix_free : IsPrefixFree operator_bytes
operator_bytes-prefix_free None None s t e = (refl, cc)
operator_bytes-prefix_free None (Some y) s t e = absurd (cc)
operator_bytes-prefix_free (Some x) None s t e = absurd (cc)
operator_bytes-prefix_free (Some x) (Some y) s t e =
    let k : name_bytes x ++ s ≡ name_bytes y ++ t = cc in
    let h = name_bytes-prefix_free x y s t k in (ap Some h.0, h.1)

pub message_bytes-prefix_free : IsPrefixFree message_bytes
unfolding message_bytes
message_bytes-prefix_free m n s t e =
    let h = pair-prefix_free operator_bytes payload_bytes operator_bytes-prefix_free payload_bytes-prefix_free m.op n.op m.payload n.payload s t e in
    (λ i. record { op = h.0 i; payload = h.1 i }, h.2)

-- one flat form, one message
pub message_bytes-injective : (m n : Message) → message_bytes m ≡ message_bytes n → m ≡ n
message_bytes-injective m n e = (message_bytes-prefix_free m n [] [] (ap (λ x. x ++ []) e)).0

-- a comparison of flat forms decides equality of messages
pub same_message : (r : Bool) (x y : List ℕ) (m n : Message) → (IsTrue r ↔ (x ≡ y)) → x ≡ message_bytes m → y ≡ message_bytes n → IsTrue r ↔ (m ≡ n)
same_message r x y m n t p q = (
  λ h. message_bytes-injective m n (sym p ∙ t.0 h ∙ q),
  λ h. t.1 (p ∙ ap message_bytes h ∙ sym q),
)

roles_and_message-prefix_free : (p q a b : List ℕ) (m n : Message) (s t : List ℕ) → (name_bytes p ++ name_bytes q ++ message_bytes m) ++ s ≡ (name_bytes a ++ name_bytes b ++ message_bytes n) ++ t → (p ≡ a) × (q ≡ b) × (m ≡ n) × (s ≡ t)
roles_and_message-prefix_free p q a b m n s t e =
    let k = sym (append_assoc (name_bytes p ++ name_bytes q) (message_bytes m) s) ∙ e ∙ append_assoc (name_bytes a ++ name_bytes b) (message_bytes n) t in
    let h = pair-prefix_free name_bytes name_bytes name_bytes-prefix_free name_bytes-prefix_free p a q b (message_bytes m ++ s) (message_bytes n ++ t) k in
    let j = message_bytes-prefix_free m n s t h.2 in
    (h.0, h.1, j.0, j.1)

pub event_bytes-prefix_free : IsPrefixFree event_bytes
event_bytes-prefix_free (event.Join r) (event.Join x) s t e =
    let k : name_bytes r ++ s ≡ name_bytes x ++ t = cc in
    let h = name_bytes-prefix_free r x s t k in (ap event.Join h.0, h.1)
event_bytes-prefix_free (event.Join r) (event.Sent a b n) s t e = absurd (cc)
event_bytes-prefix_free (event.Join r) (event.Received a b n) s t e = absurd (cc)
event_bytes-prefix_free (event.Sent p q m) (event.Join x) s t e = absurd (cc)
event_bytes-prefix_free (event.Sent p q m) (event.Sent a b n) s t e =
    let k : (name_bytes p ++ name_bytes q ++ message_bytes m) ++ s ≡ (name_bytes a ++ name_bytes b ++ message_bytes n) ++ t = cc in
    let h = roles_and_message-prefix_free p q a b m n s t k in (λ i. event.Sent (h.0 i) (h.1 i) (h.2 i), h.3)
event_bytes-prefix_free (event.Sent p q m) (event.Received a b n) s t e = absurd (cc)
event_bytes-prefix_free (event.Received p q m) (event.Join x) s t e = absurd (cc)
event_bytes-prefix_free (event.Received p q m) (event.Sent a b n) s t e = absurd (cc)
event_bytes-prefix_free (event.Received p q m) (event.Received a b n) s t e =
    let k : (name_bytes p ++ name_bytes q ++ message_bytes m) ++ s ≡ (name_bytes a ++ name_bytes b ++ message_bytes n) ++ t = cc in
    let h = roles_and_message-prefix_free p q a b m n s t k in (λ i. event.Received (h.0 i) (h.1 i) (h.2 i), h.3)

-- one flat form, one event
pub event_bytes-injective : (d e : Event) → event_bytes d ≡ event_bytes e → d ≡ e
event_bytes-injective d e h = (event_bytes-prefix_free d e [] [] (ap (λ x. x ++ []) h)).0

-- a comparison of flat forms decides equality of events
pub same_event : (r : Bool) (x y : List ℕ) (d e : Event) → (IsTrue r ↔ (x ≡ y)) → x ≡ event_bytes d → y ≡ event_bytes e → IsTrue r ↔ (d ≡ e)
same_event r x y d e t p q = (
  λ h. event_bytes-injective d e (sym p ∙ t.0 h ∙ q),
  λ h. t.1 (p ∙ ap event_bytes h ∙ sym q),
)

-- the flat form behind the kind of event
pub behind_kind : (e : Event) → drop 1 (event_bytes e) ≡ exchange_bytes e
behind_kind (event.Join r) = refl
behind_kind (event.Sent p q m) = refl
behind_kind (event.Received p q m) = refl

-- one exchange, the same roles and message
pub exchange-injective : (p q a b : List ℕ) (m n : Message) → name_bytes p ++ name_bytes q ++ message_bytes m ≡ name_bytes a ++ name_bytes b ++ message_bytes n → (p ≡ a) × (q ≡ b) × (m ≡ n)
exchange-injective p q a b m n e =
    let h = roles_and_message-prefix_free p q a b m n [] [] (ap (λ x. x ++ []) e) in (h.0, h.1, h.2)
