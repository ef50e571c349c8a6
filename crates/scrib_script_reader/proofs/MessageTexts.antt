-- The printed text of a message, cut at its parentheses.
use Rattle.std.proofs.Common.{◌≡◌, ℕ, ◌+◌, ◌<◌, Bool, true, false, ◌==◌, cond, ltb, List, [], ◌∷◌, ◌++◌, length, get_or, take, drop, Option, Some, None, refl, sym, ap, ◌∙◌, arith}
use borrow.Author.Tests.{ltb-true}
use Rattle.std.specs.List.{position_or_len}
use Rattle.std.proofs.lemmas.List.{append_assoc, same_from_push, take_at, drop_at, get_or_append_left, get_or_at, get_or-take, length-append, length-take}
use Rattle.std.proofs.lemmas.List.Elements.{All-nil}
use Rattle.std.proofs.lemmas.List.Sums.{position_or_len_is, split_at_first, passes_at_first, fails_before_first}
use Rattle.std.proofs.lemmas.Bool.Decides.{Decides-eqb, nat_tests}
use Rattle.scrib_types.specs.declared.message.Message.{Message}
use Rattle.scrib_types.specs.Texts.{joined_by, dotted_texts, operator_text, message_text}
use Rattle.scrib_script_reader.specs.Fields.{is_operator, IsMessageText, IsOperatorText, IsPayloadText, IsCut}
use Rattle.scrib_script_reader.proofs.Pieces.{Lacks, name-lacks}

abbrev pub is_open : ℕ → Bool
is_open b = b == 40

operator-lacks : (op : Option (List ℕ)) → is_operator op ≡ true → Lacks 40 (operator_text op)
operator-lacks None h = All-nil (λ b. (b == 40) ≡ false)
operator-lacks (Some name) h = name-lacks 40 name refl h

-- a printed message is cut into its operator and its payload
pub message-cut : (bytes : List ℕ) (m : Message) → IsMessageText bytes m → IsCut bytes (operator_text m.op) (joined_by 44 (dotted_texts m.payload))
unfolding message_text
message-cut bytes m h = (h.0, operator-lacks m.op h.1)

-- the operator and the payload, put together, are the printed message
pub cut-message : (bytes before between : List ℕ) (m : Message) → IsCut bytes before between → IsOperatorText before m.op → IsPayloadText between m.payload → IsMessageText bytes m
unfolding message_text
cut-message bytes before between m cut op payload =
    (cut.0 ∙ (λ i. op.0 i ++ (40 ∷ payload.0 i) ++ 41 ∷ []), op.1, payload.1)

-- the first opening parenthesis after a text without one
opens-at : (before between : List ℕ) → Lacks 40 before → position_or_len is_open (before ++ 40 ∷ between) ≡ length before
opens-at before between h =
    position_or_len_is is_open (before ++ 40 ∷ between) (length before) 0 (omega (arith, length-append before (40 ∷ between)))
    (λ k l. ap is_open (get_or_append_left before (40 ∷ between) 0 k l) ∙ h k 0 l)
    (λ l. ap is_open (get_or_at before 40 between 0 (length before) refl))

append-mid : (xs : List ℕ) (y : ℕ) (ys : List ℕ) → xs ++ y ∷ ys ≡ (xs ++ y ∷ []) ++ ys
append-mid xs y ys = sym (append_assoc xs (y ∷ []) ys)

-- the text in front of the closing parenthesis
cut-front : (bytes front before between : List ℕ) → bytes ≡ front ++ 41 ∷ [] → IsCut bytes before between → front ≡ before ++ 40 ∷ between
cut-front bytes front before between e h = (same_from_push front (before ++ 40 ∷ between) 41 41 (sym e ∙ h.0)).0

cut-at : (before between : List ℕ) (n : ℕ) → length before ≡ n → (take n (before ++ 40 ∷ between) ≡ before) × (drop (n + 1) (before ++ 40 ∷ between) ≡ between)
cut-at before between n e = (
  take_at before (40 ∷ between) n e,
  ap (drop (n + 1)) (append-mid before 40 between) ∙ drop_at (before ++ 40 ∷ []) between (n + 1) (omega (arith, length-append before (40 ∷ []))),
)

-- a text has at most one cut
pub cut-once : (bytes a b c d : List ℕ) → IsCut bytes a b → IsCut bytes c d → (a ≡ c) × (b ≡ d)
cut-once bytes a b c d h k =
    let same : a ++ 40 ∷ b ≡ c ++ 40 ∷ d = cut-front bytes (a ++ 40 ∷ b) c d h.0 k in
    let lengths : length a ≡ length c = sym (opens-at a b h.1) ∙ ap (position_or_len is_open) same ∙ opens-at c d k.1 in
    let p = cut-at a b (length a) refl in
    let q = cut-at c d (length a) (sym lengths) in
    (sym p.0 ∙ ap (take (length a)) same ∙ q.0, sym p.1 ∙ ap (drop (length a + 1)) same ∙ q.1)

-- a text without an opening parenthesis has no cut
pub no-cut-unopened : (bytes front : List ℕ) → bytes ≡ front ++ 41 ∷ [] → None ≡ cond (ltb (position_or_len is_open front) (length front)) (Some (position_or_len is_open front)) None → (before between : List ℕ) → IsCut bytes before between → ⊥
no-cut-unopened bytes front e none before between h =
    let p = cut-front bytes front before between e h in
    let opens : position_or_len is_open front ≡ length before = ap (position_or_len is_open) p ∙ opens-at before between h.1 in
    let within : length before < length front = omega (arith, ap length p, length-append before (40 ∷ between)) in
    grind (arith, nat_tests)

found-at : (front : List ℕ) (place : ℕ) → Some place ≡ cond (ltb (position_or_len is_open front) (length front)) (Some (position_or_len is_open front)) None → (place ≡ position_or_len is_open front) × (place < length front)
found-at front place h =
    let cases : (r : Bool) → ltb (position_or_len is_open front) (length front) ≡ r → (place ≡ position_or_len is_open front) × (place < length front) =
    λ r. elim r as (λ r. ltb (position_or_len is_open front) (length front) ≡ r → (place ≡ position_or_len is_open front) × (place < length front)) [
      | true ↦ λ t. let e : Some place ≡ Some (position_or_len is_open front) = rw t at h in let same : place ≡ position_or_len is_open front = cc in (same, omega (arith, ltb-true _ _ t))
      | false ↦ λ t. let e : Some place ≡ None = rw t at h in cc
    ] in
    cases (ltb (position_or_len is_open front) (length front)) refl

-- the cut at the first opening parenthesis
pub cut-read : (bytes front : List ℕ) (place : ℕ) → bytes ≡ front ++ 41 ∷ [] → Some place ≡ cond (ltb (position_or_len is_open front) (length front)) (Some (position_or_len is_open front)) None → IsCut bytes (take place front) (drop (place + 1) front)
cut-read bytes front place e h =
    let o = found-at front place h in
    let within : position_or_len is_open front < length front = omega (arith, o.0) in
    let cut = split_at_first is_open front 0 within in
    let mark : get_or front (position_or_len is_open front) 0 ≡ 40 = (Decides-eqb _ 40).0 (passes_at_first is_open front 0 within) in
    let here : front ≡ take place front ++ 40 ∷ drop (place + 1) front = cut ∙ (λ i. take (sym o.0 i) front ++ mark i ∷ drop (sym o.0 i + 1) front) in (
      e ∙ ap (λ xs. xs ++ 41 ∷ []) here,
      λ k d l.
          let low : k < place = omega (arith, length-take place front) in
          ap is_open (get_or-take place front k d low) ∙ fails_before_first is_open front k d (omega (arith, o.0)),
    )
