-- The meaning of fields and lines is decided by their bytes.
use Rattle.std.proofs.Common.{◌≡◌, ◌⊎◌, inl, inr, ℕ, suc, ◌<◌, ◌≤◌, ◌^◌, Bool, true, false, ◌&&◌, ◌==◌, List, [], ◌∷◌, ◌++◌, length, Option, Some, None, codes, refl, sym, ap, ◌∙◌, subst, arith}
use Rattle.std.specs.Char.{digit_value}
use Rattle.std.specs.List.{list_all}
use Rattle.std.specs.Str.{bytes_eq}
use Rattle.std.specs.Str.Parse.{AllDigits, digits_value}
use Rattle.std.proofs.lemmas.Bool.{cases_lt, cases_Bool, and_parts, false≢true}
use Rattle.std.proofs.lemmas.Bool.Decides.{Decides-eqb}
use Rattle.std.proofs.lemmas.List.{length-append}
use Rattle.std.proofs.lemmas.List.Elements.{All-nil, All-cons, All-head, All-tail}
use Rattle.std.proofs.lemmas.Slice.Eq.{bytes_eq-Decides}
use Rattle.scrib_types.specs.declared.message.Message.{Message}
use Rattle.scrib_types.specs.declared.event.Event.TheVariants as event
use Rattle.scrib_types.specs.Names.{is_name}
use Rattle.scrib_types.specs.declared.profile.Profile.{Profile}
use Rattle.scrib_types.specs.declared.profile.Profile.TheVariants.{Plain, Reception}
use Rattle.scrib_types.specs.Texts.{joined_by, dotted_text, dotted_texts, operator_text, profile_word}
use Rattle.scrib_core.specs.declared.step.Step.{Step}
use Rattle.scrib_core.specs.declared.step.Step.TheVariants as step
use Rattle.scrib_core.specs.declared.format.Format.{Format}
use Rattle.scrib_core.specs.declared.format.Format.TheVariants as format
use Rattle.scrib_script_reader.specs.declared.line.Line.{Line}
use Rattle.scrib_script_reader.specs.declared.line.Line.TheVariants as line
use Rattle.scrib_script_reader.specs.Fields.{fields, Finds, IsNumberText, is_dotted, IsDottedText, IsMessageText, IsOperatorText, IsPayloadText, IsCut}
use Rattle.scrib_script_reader.specs.Steps.{IsExchange, MakesWithId, Edits, MakesStep}
use Rattle.scrib_script_reader.specs.Says.{Says, IsSkipped, IsPutLine, IsSweepLine, Asks}
use Rattle.scrib_script_reader.proofs.Pieces.{pieces, dotted-pieces, dotted-read, payload-pieces, payload-read}
use Rattle.scrib_script_reader.proofs.Formats.{no_put, no_sweep, no_step}
use Rattle.scrib_script_reader.proofs.MessageTexts.{message-cut, cut-message, cut-once}
use Rattle.scrib_script_reader.proofs.Steps.{no-open, no-join, no-send, no-recv, no-turn, no-ask, no-close, no-word, no-short, no-withdraw, no-profile, no-number, found-edit, found-step}

-- a property holds or does not hold
abbrev pub Decided : Type 0 → Type 0
Decided P = P ⊎ (P → ⊥)

-- a value that has the property, or the fact that no value has it
abbrev pub Found : {A : Type 0} → (A → Type 0) → Type 0
Found {A} P = (o : Option A) × Finds P o

both : {P Q : Type 0} → Decided P → Decided Q → Decided (P × Q)
both (inl p) (inl q) = inl (p, q)
both (inl p) (inr n) = inr (λ h. n h.1)
both (inr n) q = inr (λ h. n h.0)

at_most : (a b : ℕ) → Decided (a ≤ b)
at_most a b = elim (cases_lt b a) [
  | inl l ↦ inr (λ h. omega arith)
  | inr h ↦ inl h
]

is_true : (r : Bool) → Decided (r ≡ true)
is_true true = inl refl
is_true false = inr false≢true

same_byte : (a b : ℕ) → Decided (a ≡ b)
same_byte a b = elim (is_true (a == b)) [
  | inl t ↦ inl ((Decides-eqb a b).0 t)
  | inr n ↦ inr (λ e. n ((Decides-eqb a b).1 e))
]

pub same_bytes : (xs ys : List ℕ) → Decided (xs ≡ ys)
same_bytes xs ys = elim (is_true (bytes_eq xs ys)) [
  | inl t ↦ inl ((bytes_eq-Decides xs ys).0 t)
  | inr n ↦ inr (λ e. n ((bytes_eq-Decides xs ys).1 e))
]

all_digits : (bytes : List ℕ) → Decided (AllDigits 10 bytes)
all_digits [] = inl tt
all_digits (b ∷ bs) = both (at_most (suc (digit_value b)) 10) (all_digits bs)

-- the number that the bytes are
number_found : (bytes : List ℕ) → Found (IsNumberText bytes)
number_found bytes =
    let value = digits_value 10 bytes in
    elim (both (both (all_digits bytes) (at_most 1 (length bytes))) (both (at_most (length bytes) 10) (at_most (suc (digits_value 10 bytes)) (2 ^ 32)))) [
      | inl h ↦ (Some value, record { digits = h.0.0; some = h.0.1; most = h.1.0; value = refl; fits = h.1.1 })
      | inr n ↦ (None, λ v k. n ((k.digits, k.some), (k.most, subst (λ (i : ℕ). i < 2 ^ 32) k.value k.fits)))
    ]

-- the names that the bytes join by dots
dotted_found : (bytes : List ℕ) → Found (IsDottedText bytes)
dotted_found bytes = elim (is_true (list_all is_name (pieces 46 bytes))) [
  | inl t ↦ (Some (pieces 46 bytes), dotted-read bytes (pieces 46 bytes) refl t)
  | inr n ↦ (None, λ names h. let p = dotted-pieces bytes names h in n (ap (list_all is_name) p.0 ∙ p.1))
]

no_operator : (b : ℕ) (bs : List ℕ) → (is_name (b ∷ bs) ≡ true → ⊥) → (op : Option (List ℕ)) → IsOperatorText (b ∷ bs) op → ⊥
no_operator b bs n None h = let e : b ∷ bs ≡ [] = h.0 in cc
no_operator b bs n (Some name) h = n (ap is_name h.0 ∙ h.1)

-- the operator, or none, that the bytes are
operator_found : (bytes : List ℕ) → Found (IsOperatorText bytes)
operator_found [] = (Some None, (refl, refl))
operator_found (b ∷ bs) = elim (is_true (is_name (b ∷ bs))) [
  | inl t ↦ (Some (Some (b ∷ bs)), (refl, t))
  | inr n ↦ (None, no_operator b bs n)
]

-- the dotted names of these texts
abbrev AreDotted : List (List ℕ) → List (List (List ℕ)) → Type 0
AreDotted texts payload = (dotted_texts payload ≡ texts) × (list_all is_dotted payload ≡ true)

first_dotted : (t : List ℕ) (ts : List (List ℕ)) (payload : List (List (List ℕ))) → AreDotted (t ∷ ts) payload → (names : List (List ℕ)) × IsDottedText t names
first_dotted t ts [] h = let e : [] ≡ t ∷ ts = h.0 in cc
first_dotted t ts (names ∷ more) h =
    let e : dotted_text names ∷ dotted_texts more ≡ t ∷ ts = h.0 in
    let here : t ≡ dotted_text names = cc in
    (names, (here, (and_parts (is_dotted names) (list_all is_dotted more) h.1).0))

rest_dotted : (t : List ℕ) (ts : List (List ℕ)) (payload : List (List (List ℕ))) → AreDotted (t ∷ ts) payload → (more : List (List (List ℕ))) × AreDotted ts more
rest_dotted t ts [] h = let e : [] ≡ t ∷ ts = h.0 in cc
rest_dotted t ts (names ∷ more) h =
    let e : dotted_text names ∷ dotted_texts more ≡ t ∷ ts = h.0 in
    let here : dotted_texts more ≡ ts = cc in
    (more, (here, (and_parts (is_dotted names) (list_all is_dotted more) h.1).1))

dotted_cons : (t : List ℕ) (ts : List (List ℕ)) (a : Option (List (List ℕ))) → Finds (IsDottedText t) a → (b : Option (List (List (List ℕ)))) → Finds (AreDotted ts) b → Found (AreDotted (t ∷ ts))
dotted_cons t ts None none b k = (None, λ payload h. let p = first_dotted t ts payload h in none p.0 p.1)
dotted_cons t ts (Some names) d None none = (None, λ payload h. let p = rest_dotted t ts payload h in none p.0 p.1)
dotted_cons t ts (Some names) d (Some more) k = (Some (names ∷ more), (λ i. sym d.0 i ∷ k.0 i, λ i. d.1 i && k.1 i))

each_dotted : (texts : List (List ℕ)) → Found (AreDotted texts)
each_dotted [] = (Some [], (refl, refl))
each_dotted (t ∷ ts) =
    let first = dotted_found t in
    let more = each_dotted ts in
    dotted_cons t ts first.0 first.1 more.0 more.1

payload_from : (bytes : List ℕ) → 0 < length bytes → (o : Option (List (List (List ℕ)))) → Finds (AreDotted (pieces 44 bytes)) o → Finds (IsPayloadText bytes) o
payload_from bytes some None none = λ payload h. let p = payload-pieces bytes payload some h in none payload (sym p.0, p.1)
payload_from bytes some (Some payload) k = payload-read bytes payload k.0 k.1

-- the payload that the bytes are
payload_found : (bytes : List ℕ) → Found (IsPayloadText bytes)
payload_found [] = (Some [], (refl, refl))
payload_found (b ∷ bs) =
    let found = each_dotted (pieces 44 (b ∷ bs)) in
    (found.0, payload_from (b ∷ bs) (omega arith) found.0 found.1)

-- the bytes are this text and a closing parenthesis
abbrev Closes : List ℕ → List ℕ → Type 0
Closes bytes front = bytes ≡ front ++ 41 ∷ []

closes_tail : (b c : ℕ) (bs front : List ℕ) → Closes (b ∷ c ∷ bs) front → (rest : List ℕ) × Closes (c ∷ bs) rest
closes_tail b c bs [] e = let h : b ∷ c ∷ bs ≡ 41 ∷ [] = e in cc
closes_tail b c bs (x ∷ front) e =
    let h : b ∷ c ∷ bs ≡ x ∷ (front ++ 41 ∷ []) = e in
    let rest : c ∷ bs ≡ front ++ 41 ∷ [] = cc in
    (front, rest)

closes_one : (b : ℕ) (front : List ℕ) → Closes (b ∷ []) front → b ≡ 41
closes_one b [] e = let h : b ∷ [] ≡ 41 ∷ [] = e in cc
closes_one b (x ∷ front) e = absurd (omega (arith, ap length e, length-append front (41 ∷ [])))

closed_cons : (b c : ℕ) (bs : List ℕ) (o : Option (List ℕ)) → Finds (Closes (c ∷ bs)) o → Found (Closes (b ∷ c ∷ bs))
closed_cons b c bs None none = (None, λ front e. let p = closes_tail b c bs front e in none p.0 p.1)
closed_cons b c bs (Some front) e = (Some (b ∷ front), ap (λ (t : List ℕ). b ∷ t) e)

closed_found : (bytes : List ℕ) → Found (Closes bytes)
closed_found [] = (None, λ front e. omega (arith, ap length e, length-append front (41 ∷ [])))
closed_found (b ∷ []) = elim (same_byte b 41) [
  | inl e ↦ (Some [], ap (λ (x : ℕ). x ∷ []) e)
  | inr n ↦ (None, λ front e. n (closes_one b front e))
]
closed_found (b ∷ c ∷ bs) = let more = closed_found (c ∷ bs) in closed_cons b c bs more.0 more.1

-- the bytes are the first text and the second one in parentheses
abbrev Parts : List ℕ → List ℕ × List ℕ → Type 0
Parts bytes p = IsCut bytes p.0 p.1

parts_tail : (b : ℕ) (bs before between : List ℕ) → (b == 40) ≡ false → IsCut (b ∷ bs) before between → (front : List ℕ) × IsCut bs front between
parts_tail b bs [] between f h =
    let e : b ∷ bs ≡ 40 ∷ (between ++ 41 ∷ []) = h.0 in
    let here : b ≡ 40 = cc in
    absurd (false≢true (sym f ∙ (Decides-eqb b 40).1 here))
parts_tail b bs (x ∷ before) between f h =
    let e : b ∷ bs ≡ x ∷ (before ++ 40 ∷ between ++ 41 ∷ []) = h.0 in
    let rest : bs ≡ before ++ (40 ∷ between) ++ 41 ∷ [] = cc in
    (before, (rest, All-tail (λ y. (y == 40) ≡ false) x before h.1))

parts_open : (b : ℕ) (bs before between : List ℕ) → b ≡ 40 → IsCut (b ∷ bs) before between → Closes bs between
parts_open b bs [] between o h = let e : b ∷ bs ≡ 40 ∷ (between ++ 41 ∷ []) = h.0 in cc
parts_open b bs (x ∷ before) between o h =
    let e : b ∷ bs ≡ x ∷ ((before ++ (40 ∷ between)) ++ 41 ∷ []) = h.0 in
    let here : x ≡ 40 = cc in
    absurd (false≢true (sym (All-head (λ y. (y == 40) ≡ false) x before h.1) ∙ (Decides-eqb x 40).1 here))

parts_opened : (b : ℕ) (bs : List ℕ) → b ≡ 40 → (o : Option (List ℕ)) → Finds (Closes bs) o → Found (Parts (b ∷ bs))
parts_opened b bs e None none = (None, λ p h. none p.1 (parts_open b bs p.0 p.1 e h))
parts_opened b bs e (Some between) k = (Some ([], between), ((λ i. e i ∷ k i), All-nil (λ y. (y == 40) ≡ false)))

parts_more : (b : ℕ) (bs : List ℕ) → (b == 40) ≡ false → (o : Option (List ℕ × List ℕ)) → Finds (Parts bs) o → Found (Parts (b ∷ bs))
parts_more b bs f None none = (None, λ p h. let q = parts_tail b bs p.0 p.1 f h in none (q.0, p.1) q.1)
parts_more b bs f (Some p) k = (Some (b ∷ p.0, p.1), (ap (λ (t : List ℕ). b ∷ t) k.0, All-cons (λ y. (y == 40) ≡ false) b p.0 f k.1))

-- the text before the parentheses, and between them
parts_found : (bytes : List ℕ) → Found (Parts bytes)
parts_found [] = (None, λ p h. omega (arith, ap length h.0, length-append (p.0 ++ 40 ∷ p.1) (41 ∷ [])))
parts_found (b ∷ bs) = elim (cases_Bool (b == 40)) [
  | inl t ↦ let closed = closed_found bs in parts_opened b bs ((Decides-eqb b 40).0 t) closed.0 closed.1
  | inr f ↦ let more = parts_found bs in parts_more b bs f more.0 more.1
]

message_at : (bytes before between : List ℕ) → IsCut bytes before between → (a : Option (Option (List ℕ))) → Finds (IsOperatorText before) a → (b : Option (List (List (List ℕ)))) → Finds (IsPayloadText between) b → Found (IsMessageText bytes)
message_at bytes before between cut None none b k =
    (None, λ m h. none m.op ((cut-once bytes before between _ _ cut (message-cut bytes m h)).0, h.1))
message_at bytes before between cut (Some op) d None none =
    (None, λ m h. none m.payload ((cut-once bytes before between _ _ cut (message-cut bytes m h)).1, h.2))
message_at bytes before between cut (Some op) d (Some payload) k =
    let m : Message = record { op = op; payload = payload } in (Some m, cut-message bytes before between m cut d k)

message_from : (bytes : List ℕ) (o : Option (List ℕ × List ℕ)) → Finds (Parts bytes) o → Found (IsMessageText bytes)
message_from bytes None none = (None, λ m h. none (operator_text m.op, joined_by 44 (dotted_texts m.payload)) (message-cut bytes m h))
message_from bytes (Some p) cut =
    let op = operator_found p.0 in
    let payload = payload_found p.1 in
    message_at bytes p.0 p.1 cut op.0 op.1 payload.0 payload.1

-- the message whose printed text this is
message_found : (bytes : List ℕ) → Found (IsMessageText bytes)
message_found bytes = let parts = parts_found bytes in message_from bytes parts.0 parts.1

-- the fields are the sender, the receiver and the message
abbrev EventCache : List (List ℕ) → List ℕ × List ℕ × Message → Type 0
EventCache fs e = IsExchange fs e.0 e.1 e.2

no_exchange : (fs : List (List ℕ)) → (length fs ≡ 3 → ⊥) → Found (EventCache fs)
no_exchange fs n = (None, λ e h. n (ap length h.1))

exchange_at : (from to text : List ℕ) → Decided ((is_name from ≡ true) × (is_name to ≡ true)) → (o : Option Message) → Finds (IsMessageText text) o → Found (EventCache (from ∷ to ∷ text ∷ []))
exchange_at from to text (inr n) o k = (
  None,
  λ e h.
      let same : from ∷ to ∷ text ∷ [] ≡ e.0 ∷ e.1 ∷ h.0 ∷ [] = h.1 in
      let first : from ≡ e.0 = cc in
      let second : to ≡ e.1 = cc in
      n (ap is_name first ∙ h.2, ap is_name second ∙ h.3),
)
exchange_at from to text (inl names) None none = (
  None,
  λ e h.
      let same : from ∷ to ∷ text ∷ [] ≡ e.0 ∷ e.1 ∷ h.0 ∷ [] = h.1 in
      let third : h.0 ≡ text = cc in
      none e.2 (subst (λ (t : List ℕ). IsMessageText t e.2) third h.4),
)
exchange_at from to text (inl names) (Some m) k = (Some (from, to, m), (text, refl, names.0, names.1, k))

exchange_found : (fs : List (List ℕ)) → Found (EventCache fs)
exchange_found [] = no_exchange [] (λ e. omega (arith, e))
exchange_found (a ∷ []) = no_exchange (a ∷ []) (λ e. omega (arith, e))
exchange_found (a ∷ b ∷ []) = no_exchange (a ∷ b ∷ []) (λ e. omega (arith, e))
exchange_found (from ∷ to ∷ text ∷ []) =
    let message = message_found text in
    exchange_at from to text (both (is_true (is_name from)) (is_true (is_name to))) message.0 message.1
exchange_found (a ∷ b ∷ c ∷ d ∷ fs) = no_exchange (a ∷ b ∷ c ∷ d ∷ fs) (λ e. omega (arith, e))

-- the fields are one dotted text
abbrev Opens : List (List ℕ) → List (List ℕ) → Type 0
Opens fs name = (text : List ℕ) × (fs ≡ text ∷ []) × IsDottedText text name

opens_one : (text : List ℕ) (o : Option (List (List ℕ))) → Finds (IsDottedText text) o → Found (Opens (text ∷ []))
opens_one text None none = (
  None,
  λ name h.
      let same : text ∷ [] ≡ h.0 ∷ [] = h.1 in
      let here : h.0 ≡ text = cc in
      none name (subst (λ (t : List ℕ). IsDottedText t name) here h.2),
)
opens_one text (Some name) d = (Some name, (text, refl, d))

opens_found : (fs : List (List ℕ)) → Found (Opens fs)
opens_found [] = (None, λ name h. omega (arith, ap length h.1))
opens_found (text ∷ []) = let name = dotted_found text in opens_one text name.0 name.1
opens_found (a ∷ b ∷ fs) = (None, λ name h. omega (arith, ap length h.1))

-- the fields are one name
abbrev Joins : List (List ℕ) → List ℕ → Type 0
Joins fs role = (fs ≡ role ∷ []) × (is_name role ≡ true)

joins_found : (fs : List (List ℕ)) → Found (Joins fs)
joins_found [] = (None, λ role h. omega (arith, ap length h.0))
joins_found (role ∷ []) = elim (is_true (is_name role)) [
  | inl t ↦ (Some role, (refl, t))
  | inr n ↦ (
    None,
    λ other h.
        let same : role ∷ [] ≡ other ∷ [] = h.0 in
        let here : role ≡ other = cc in
        n (ap is_name here ∙ h.1),
  )
]
joins_found (a ∷ b ∷ fs) = (None, λ role h. omega (arith, ap length h.0))

module _ (id : ℕ) (fs : List (List ℕ)) where
  open_step : (o : Option (List (List ℕ))) → Finds (Opens fs) o → Found (MakesWithId (codes "open") id fs)
  open_step None none = (None, no-open id fs none)
  open_step (Some name) h = (Some (step.Open id name), (refl, refl, h))

  join_step : (o : Option (List ℕ)) → Finds (Joins fs) o → Found (MakesWithId (codes "join") id fs)
  join_step None none = (None, no-join id fs none)
  join_step (Some role) h = (Some (step.Note id (event.Join role)), (refl, refl, h.0, h.1))

  send_step : (o : Option (List ℕ × List ℕ × Message)) → Finds (EventCache fs) o → Found (MakesWithId (codes "send") id fs)
  send_step None none = (None, no-send id fs (λ from to m h. none (from, to, m) h))
  send_step (Some e) h = (Some (step.Note id (event.Sent e.0 e.1 e.2)), (refl, refl, h))

  recv_step : (o : Option (List ℕ × List ℕ × Message)) → Finds (EventCache fs) o → Found (MakesWithId (codes "recv") id fs)
  recv_step None none = (None, no-recv id fs (λ from to m h. none (from, to, m) h))
  recv_step (Some e) h = (Some (step.Note id (event.Received e.0 e.1 e.2)), (refl, refl, h))

turn_step : (id : ℕ) (fs : List (List ℕ)) → Found (MakesWithId (codes "turn") id fs)
turn_step id [] = (Some (step.Turn id), (refl, refl, refl))
turn_step id (f ∷ fs) = (None, no-turn id (f ∷ fs) (λ e. cc))

ask_step : (id : ℕ) (fs : List (List ℕ)) → Found (MakesWithId (codes "ask") id fs)
ask_step id [] = (Some (step.Ask id), (refl, refl, refl))
ask_step id (f ∷ fs) = (None, no-ask id (f ∷ fs) (λ e. cc))

close_step : (id : ℕ) (fs : List (List ℕ)) → Found (MakesWithId (codes "close") id fs)
close_step id [] = (Some (step.Close id), (refl, refl, refl))
close_step id (f ∷ fs) = (None, no-close id (f ∷ fs) (λ e. cc))

-- the step of a word that equals the known one
worded : (word known : List ℕ) (id : ℕ) (fs : List (List ℕ)) → word ≡ known → Found (MakesWithId known id fs) → Found (MakesWithId word id fs)
worded word known id fs e found = (found.0, subst (λ (w : List ℕ). Finds (MakesWithId w id fs) found.0) (sym e) found.1)

-- the step that a word makes with an id and the fields after them
word_step : (word : List ℕ) (id : ℕ) (fs : List (List ℕ)) → Found (MakesWithId word id fs)
word_step word id fs = elim (same_bytes word (codes "open")) [
  | inl e ↦ let opens = opens_found fs in worded word (codes "open") id fs e (open_step id fs opens.0 opens.1)
  | inr open_no ↦ elim (same_bytes word (codes "join")) [
    | inl e ↦ let joins = joins_found fs in worded word (codes "join") id fs e (join_step id fs joins.0 joins.1)
    | inr join_no ↦ elim (same_bytes word (codes "send")) [
      | inl e ↦ let sends = exchange_found fs in worded word (codes "send") id fs e (send_step id fs sends.0 sends.1)
      | inr send_no ↦ elim (same_bytes word (codes "recv")) [
        | inl e ↦ let receives = exchange_found fs in worded word (codes "recv") id fs e (recv_step id fs receives.0 receives.1)
        | inr recv_no ↦ elim (same_bytes word (codes "turn")) [
          | inl e ↦ worded word (codes "turn") id fs e (turn_step id fs)
          | inr turn_no ↦ elim (same_bytes word (codes "ask")) [
            | inl e ↦ worded word (codes "ask") id fs e (ask_step id fs)
            | inr ask_no ↦ elim (same_bytes word (codes "close")) [
              | inl e ↦ worded word (codes "close") id fs e (close_step id fs)
              | inr close_no ↦ (None, no-word word id fs open_no join_no send_no recv_no turn_no ask_no close_no)
            ]
          ]
        ]
      ]
    ]
  ]
]

step_from : (word number : List ℕ) (fs : List (List ℕ)) → (word ≡ codes "withdraw" → ⊥) → (word ≡ codes "profile" → ⊥) → (o : Option ℕ) → Finds (IsNumberText number) o → Found (MakesStep (word ∷ number ∷ fs))
step_from word number fs withdraws profiles None none = (None, no-number word number fs withdraws profiles none)
step_from word number fs withdraws profiles (Some id) n =
    let made = word_step word id fs in (made.0, found-step word number fs id withdraws profiles n made.0 made.1)

-- the withdrawal that a name makes without further fields
pub no_withdrawal : (text : List ℕ) (fs : List (List ℕ)) → ((name : List (List ℕ)) → (fs ≡ []) × IsDottedText text name → ⊥) → (s : Step) → Edits (codes "withdraw") text fs s → ⊥
no_withdrawal text fs none (step.Withdraw name) h = none name (h.1, h.2)
no_withdrawal text fs none (step.Profile p) h = let e : codes "withdraw" ≡ codes "profile" = h.0 in cc
no_withdrawal text fs none (step.Put t) h = h
no_withdrawal text fs none (step.Open i name) h = h
no_withdrawal text fs none (step.Note i e) h = h
no_withdrawal text fs none (step.Turn i) h = h
no_withdrawal text fs none (step.Ask i) h = h
no_withdrawal text fs none (step.Close i) h = h

withdrawal_from : (text : List ℕ) (o : Option (List (List ℕ))) → Finds (IsDottedText text) o → Found (Edits (codes "withdraw") text [])
withdrawal_from text None none = (None, no_withdrawal text [] (λ name h. none name h.1))
withdrawal_from text (Some name) d = (Some (step.Withdraw name), (refl, refl, d))

withdrawal_found : (text : List ℕ) (fs : List (List ℕ)) → Found (Edits (codes "withdraw") text fs)
withdrawal_found text [] = let name = dotted_found text in withdrawal_from text name.0 name.1
withdrawal_found text (f ∷ fs) = (None, no_withdrawal text (f ∷ fs) (λ name h. let e : f ∷ fs ≡ [] = h.0 in cc))

-- the change that a profile's word makes without further fields
pub no_change : (text : List ℕ) (fs : List (List ℕ)) → ((p : Profile) → (fs ≡ []) × (text ≡ profile_word p) → ⊥) → (s : Step) → Edits (codes "profile") text fs s → ⊥
no_change text fs none (step.Profile p) h = none p (h.1, h.2)
no_change text fs none (step.Withdraw name) h = let e : codes "profile" ≡ codes "withdraw" = h.0 in cc
no_change text fs none (step.Put t) h = h
no_change text fs none (step.Open i name) h = h
no_change text fs none (step.Note i e) h = h
no_change text fs none (step.Turn i) h = h
no_change text fs none (step.Ask i) h = h
no_change text fs none (step.Close i) h = h

-- the profile of a word
profile_found : (text : List ℕ) → Found (λ (p : Profile). text ≡ profile_word p)
profile_found text = elim (same_bytes text (codes "plain")) [
  | inl e ↦ (Some Plain, e)
  | inr m ↦ elim (same_bytes text (codes "reception")) [
    | inl e ↦ (Some Reception, e)
    | inr n ↦ (None, by m n)
  ]
]
  where
    by : (text ≡ codes "plain" → ⊥) → (text ≡ codes "reception" → ⊥) → (p : Profile) → text ≡ profile_word p → ⊥
    by m n Plain e = m e
    by m n Reception e = n e

change_from : (text : List ℕ) (o : Option Profile) → Finds (λ (p : Profile). text ≡ profile_word p) o → Found (Edits (codes "profile") text [])
change_from text None none = (None, no_change text [] (λ p h. none p h.1))
change_from text (Some p) e = (Some (step.Profile p), (refl, refl, e))

change_found : (text : List ℕ) (fs : List (List ℕ)) → Found (Edits (codes "profile") text fs)
change_found text [] = let p = profile_found text in change_from text p.0 p.1
change_found text (f ∷ fs) = (None, no_change text (f ∷ fs) (λ p h. let e : f ∷ fs ≡ [] = h.0 in cc))

-- the step that fields make
step_found : (fs : List (List ℕ)) → Found (MakesStep fs)
step_found [] = (None, no-short [] (omega arith))
step_found (word ∷ []) = (None, no-short (word ∷ []) (omega arith))
step_found (word ∷ first ∷ fs) = elim (same_bytes word (codes "withdraw")) [
  | inl e ↦ let made = withdrawal_found first fs in (made.0, found-edit (codes "withdraw") word first fs no-withdraw e made.0 made.1)
  | inr withdraws ↦ elim (same_bytes word (codes "profile")) [
    | inl e ↦ let made = change_found first fs in (made.0, found-edit (codes "profile") word first fs no-profile e made.0 made.1)
    | inr profiles ↦ let id = number_found first in step_from word first fs withdraws profiles id.0 id.1
  ]
]

is_skipped : (fs : List (List ℕ)) → Decided (IsSkipped fs)
is_skipped [] = inl tt
is_skipped ([] ∷ fs) = inr (λ h. h)
is_skipped ((b ∷ bs) ∷ fs) = same_byte b 35

-- the only field is this word
is_only : (only : List ℕ) (fs : List (List ℕ)) → Decided (fs ≡ only ∷ [])
is_only only [] = inr (λ e. let h : [] ≡ only ∷ [] = e in cc)
is_only only (word ∷ []) = elim (same_bytes word only) [
  | inl e ↦ inl (ap (λ (w : List ℕ). w ∷ []) e)
  | inr n ↦ inr (λ e. n (let h : word ∷ [] ≡ only ∷ [] = e in cc))
]
is_only only (a ∷ b ∷ fs) = inr (λ e. let h : a ∷ b ∷ fs ≡ only ∷ [] = e in cc)

-- the format that fields ask for
abbrev Asked : List (List ℕ) → Type 0
Asked fs = (f : Format) × (rest : List (List ℕ)) × Asks fs f rest

asked : (fs : List (List ℕ)) → Asked fs
asked [] = (format.Line, [], (refl, λ more e. let h : [] ≡ codes "json" ∷ more = e in cc))
asked (word ∷ fs) = elim (same_bytes word (codes "json")) [
  | inl e ↦ (format.Json, fs, ap (λ (w : List ℕ). w ∷ fs) e)
  | inr n ↦ (format.Line, word ∷ fs, (refl, λ more e. n (let h : word ∷ fs ≡ codes "json" ∷ more = e in cc)))
]

decided_within : (bytes : List ℕ) → length bytes ≤ 131072 → Decided (IsSkipped (fields bytes)) → (a : Asked (fields bytes)) → Decided (IsPutLine a.1) → Decided (IsSweepLine a.1) → (o : Option Step) → Finds (MakesStep a.1) o → (meaning : Line) × Says bytes meaning
decided_within bytes fits (inl s) a p w o k = (line.Skipped, (fits, s))
decided_within bytes fits (inr ns) a (inl p) w o k = (line.Put a.0, (fits, (a.1, a.2, p)))
decided_within bytes fits (inr ns) a (inr np) (inl w) o k = (line.Sweep a.0, (fits, (a.1, a.2, w)))
decided_within bytes fits (inr ns) a (inr np) (inr nw) None none =
    (line.Bad, inr (ns, no_put (fields bytes) a.1 a.0 a.2 np, no_sweep (fields bytes) a.1 a.0 a.2 nw, no_step (fields bytes) a.1 a.0 a.2 none))
decided_within bytes fits (inr ns) a (inr np) (inr nw) (Some s) k = (line.Step a.0 s, (fits, (a.1, a.2, k)))

-- the meaning of a line
pub line_decided : (bytes : List ℕ) → (meaning : Line) × Says bytes meaning
line_decided bytes = elim (cases_lt 131072 (length bytes)) [
  | inl long ↦ (line.Bad, inl long)
  | inr fits ↦
      let a = asked (fields bytes) in
      let made = step_found a.1 in
      decided_within bytes fits (is_skipped (fields bytes)) a (is_only (codes "put") a.1) (is_only (codes "sweep") a.1) made.0 made.1
]
