-- The fields of a line with a number in the place of a name.
use Rattle.std.proofs.Common.{◌≡◌, ◌∙◌, ◌<◌, ◌^◌, ◌||◌, inl, inr, ℕ, true, false, Bool, List, [], ◌∷◌, ◌++◌, cond, codes, sym, ap, subst, arith, rules}
use Rattle.std.specs.Fmt.{decimal}
use Rattle.std.specs.Str.{bytes_eq}
use Rattle.std.proofs.lemmas.Bool.{or_cases}
use Rattle.std.proofs.lemmas.Fmt.{decimal_is_IsNumeral, length-decimal-le}
use Rattle.std.proofs.lemmas.Slice.Eq.{bytes_eq-Decides}
use Rattle.scrib_script_reader.specs.Fields.{IsNumberText, fields}
use Rattle.scrib_script_reader.proofs.Heads.{NoBlank, first-field-cut, number-cut}
use Rattle.scrib_labels.specs.SessionLines.{is_event_word, is_id_word, is_state_word, json_field}

-- a number in decimal is the text of that number
pub decimal-number : (n : ℕ) → n < 2 ^ 32 → IsNumberText (decimal n) n
decimal-number n h =
    let big : n < 2 ^ 64 = omega (arith, h) in
    let is = decimal_is_IsNumeral n big in
    record { digits = is.0.1; some = is.0.0; most = length-decimal-le 10 n (omega arith) (omega (arith, h)) big; value = sym is.1; fits = h }

-- a word of letters is the first field
abbrev IsField : List ℕ → Type 0
IsField w = (rest : List ℕ) → fields (w ++ 32 ∷ rest) ≡ w ∷ fields rest

is-field : (x : ℕ) (xs : List ℕ) → NoBlank (x ∷ xs) → IsField (x ∷ xs)
is-field x xs h rest = first-field-cut x xs rest h

of-word : (w known : List ℕ) → bytes_eq w known ≡ true → IsField known → IsField w
of-word w known h is = subst IsField (sym ((bytes_eq-Decides w known).0 h)) is

join-field : IsField (codes "join")
join-field = is-field 106 (codes "oin") (search rules)

pub send-field : IsField (codes "send")
send-field = is-field 115 (codes "end") (search rules)

pub recv-field : IsField (codes "recv")
recv-field = is-field 114 (codes "ecv") (search rules)

open-field : IsField (codes "open")
open-field = is-field 111 (codes "pen") (search rules)

turn-field : IsField (codes "turn")
turn-field = is-field 116 (codes "urn") (search rules)

ask-field : IsField (codes "ask")
ask-field = is-field 97 (codes "sk") (search rules)

close-field : IsField (codes "close")
close-field = is-field 99 (codes "lose") (search rules)

json-field : IsField (codes "json")
json-field = is-field 106 (codes "son") (search rules)

event-word : (w : List ℕ) → is_event_word w ≡ true → IsField w
event-word w h = elim (or_cases (bytes_eq w (codes "join") || bytes_eq w (codes "send")) (bytes_eq w (codes "recv")) h) [
  | inl more ↦ elim (or_cases (bytes_eq w (codes "join")) (bytes_eq w (codes "send")) more) [
    | inl e ↦ of-word w (codes "join") e join-field
    | inr e ↦ of-word w (codes "send") e send-field
  ]
  | inr e ↦ of-word w (codes "recv") e recv-field
]

state-word : (w : List ℕ) → is_state_word w ≡ true → IsField w
state-word w h = elim (or_cases (bytes_eq w (codes "open") || bytes_eq w (codes "turn") || bytes_eq w (codes "ask")) (bytes_eq w (codes "close")) h) [
  | inl more ↦ elim (or_cases (bytes_eq w (codes "open") || bytes_eq w (codes "turn")) (bytes_eq w (codes "ask")) more) [
    | inl most ↦ elim (or_cases (bytes_eq w (codes "open")) (bytes_eq w (codes "turn")) most) [
      | inl e ↦ of-word w (codes "open") e open-field
      | inr e ↦ of-word w (codes "turn") e turn-field
    ]
    | inr e ↦ of-word w (codes "ask") e ask-field
  ]
  | inr e ↦ of-word w (codes "close") e close-field
]

id-word : (w : List ℕ) → is_id_word w ≡ true → IsField w
id-word w h = elim (or_cases (is_event_word w) (is_state_word w) h) [
  | inl e ↦ event-word w e
  | inr e ↦ state-word w e
]

-- the word, a number and the rest
named-fields : (w rest : List ℕ) (n : ℕ) → is_id_word w ≡ true → n < 2 ^ 32 → fields (w ++ 32 ∷ (decimal n ++ 32 ∷ rest)) ≡ w ∷ decimal n ∷ fields rest
named-fields w rest n h small =
    id-word w h (decimal n ++ 32 ∷ rest) ∙ ap (λ (fs : List (List ℕ)). w ∷ fs) (number-cut (decimal n) rest n (decimal-number n small))

pub numbered_fields : (j : Bool) (w rest : List ℕ) (n : ℕ) → is_id_word w ≡ true → n < 2 ^ 32
    → fields (cond j (codes "json ") [] ++ (w ++ 32 ∷ (decimal n ++ 32 ∷ rest))) ≡ json_field j ++ w ∷ decimal n ∷ fields rest
numbered_fields false w rest n h small = named-fields w rest n h small
numbered_fields true w rest n h small =
    json-field (w ++ 32 ∷ (decimal n ++ 32 ∷ rest)) ∙ ap (λ (fs : List (List ℕ)). codes "json" ∷ fs) (named-fields w rest n h small)
