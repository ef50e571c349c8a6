-- The meaning of lines of exchanges, and of lines that ask and turn.
use Rattle.std.proofs.Common.{◌≡◌, inr, ℕ, suc, ◌<◌, ◌≤◌, true, false, List, [], ◌∷◌, ◌++◌, length, take, drop, get_or, codes, refl, sym, ap, ◌∙◌, subst, arith, rules, if◌then◌else◌}
use Rattle.std.specs.List.{All, filter, onto_first, slice_split}
use Rattle.std.specs.Char.{digit_value}
use Rattle.std.specs.Str.Parse.{AllDigits}
use Rattle.std.specs.Str.{bytes_eq}
use Rattle.std.proofs.lemmas.List.Elements.{All-nil, All-cons}
use Rattle.std.proofs.lemmas.List.Splits.{slice_split-cons_no, slice_split_at, slice_split_none}
use Rattle.std.proofs.lemmas.Bool.{false≢true}
use Rattle.std.proofs.lemmas.Bool.Decides.{nat_tests}
use Rattle.std.proofs.lemmas.Slice.Eq.{bytes_eq-Decides}
use Rattle.std.proofs.Math.Seq.{split_at}
use Rattle.scrib_types.specs.declared.event.Event.{Event}
use Rattle.scrib_types.specs.declared.message.Message.{Message}
use Rattle.scrib_script_reader.specs.declared.direction.Direction.{Direction}
use Rattle.scrib_script_reader.specs.declared.direction.Direction.TheVariants as direction
use Rattle.scrib_core.specs.declared.format.Format.TheVariants as format
use Rattle.scrib_script_reader.specs.declared.line.Line.TheVariants as line
use Rattle.scrib_core.specs.declared.step.Step.TheVariants as step
use Rattle.scrib_script_reader.specs.Fields.{fields, is_blank, has_bytes, IsNumberText}
use Rattle.scrib_script_reader.specs.Heads.{IsHead, SpellsEvent, SpellsExchange, direction_word, directed_event, sender_of, receiver_of, event_message}
use Rattle.scrib_types.specs.Texts.{message_text}
use Rattle.scrib_script_reader.specs.Says.{IsSkipped, Says}
use Rattle.scrib_script_reader.specs.Steps.{IsExchange}
use Rattle.scrib_script_reader.proofs.Digits.{decimal}

-- none of the bytes is a blank
abbrev pub NoBlank : List ℕ → Type 0
NoBlank bytes = All (λ b. is_blank b ≡ false) bytes

digit-no-blank : (b : ℕ) → digit_value b < 10 → is_blank b ≡ false
digit-no-blank b h = let p = decimal b h in grind (arith, nat_tests)

digits-no-blank : (bytes : List ℕ) → AllDigits 10 bytes → NoBlank bytes
digits-no-blank [] h = All-nil (λ b. is_blank b ≡ false)
digits-no-blank (b ∷ bs) h = All-cons (λ b. is_blank b ≡ false) b bs (digit-no-blank b h.0) (digits-no-blank bs h.1)

-- a first field that begins with a `#`
hash-skipped : (pieces : List (List ℕ)) → IsSkipped (filter has_bytes (onto_first 35 pieces))
hash-skipped [] =
    let some : has_bytes (35 ∷ []) ≡ true = grind (arith, nat_tests) in
    subst (λ t. IsSkipped (if t then (35 ∷ []) ∷ [] else [])) (sym some) refl
hash-skipped (piece ∷ pieces) =
    let some : has_bytes (35 ∷ piece) ≡ true = grind (arith, nat_tests) in
    subst (λ t. IsSkipped (if t then (35 ∷ piece) ∷ filter has_bytes pieces else filter has_bytes pieces)) (sym some) refl

-- the fields of a line that begins with a `#`
comment-fields : (rest : List ℕ) → IsSkipped (fields (35 ∷ rest))
unfolding fields
comment-fields rest = subst (λ parts. IsSkipped (filter has_bytes parts)) (sym (slice_split-cons_no is_blank 35 rest refl)) (hash-skipped (slice_split is_blank rest))

pub comment_skipped : (bytes rest : List ℕ) → bytes ≡ 35 ∷ rest → IsSkipped (fields bytes)
comment_skipped bytes rest e = subst (λ text. IsSkipped (fields text)) (sym e) (comment-fields rest)

-- a first field, and the fields after its space
pub first-field-cut : (x : ℕ) (xs rest : List ℕ) → NoBlank (x ∷ xs) → fields (x ∷ xs ++ 32 ∷ rest) ≡ (x ∷ xs) ∷ fields rest
unfolding fields
first-field-cut x xs rest h =
    let some : has_bytes (x ∷ xs) ≡ true = grind (arith, nat_tests) in
    ap (filter has_bytes) (slice_split_at is_blank (x ∷ xs) 32 rest h refl) ∙ ap (λ t. if t then (x ∷ xs) ∷ filter has_bytes (slice_split is_blank rest) else filter has_bytes (slice_split is_blank rest)) some

pub number-cut : (digits rest : List ℕ) (n : ℕ) → IsNumberText digits n → fields (digits ++ 32 ∷ rest) ≡ digits ∷ fields rest
number-cut [] rest n h = absurd (omega (arith, h.some))
number-cut (d ∷ ds) rest n h = first-field-cut d ds rest (digits-no-blank (d ∷ ds) h.digits)

-- a number is one field
number-alone : (digits : List ℕ) (n : ℕ) → IsNumberText digits n → fields digits ≡ digits ∷ []
unfolding fields
number-alone [] n h = absurd (omega (arith, h.some))
number-alone (d ∷ ds) n h =
    let some : has_bytes (d ∷ ds) ≡ true = grind (arith, nat_tests) in
    ap (filter has_bytes) (slice_split_none is_blank (d ∷ ds) (digits-no-blank (d ∷ ds) h.digits)) ∙ ap (λ t. if t then (d ∷ ds) ∷ [] else []) some

ask-no-blank : NoBlank (codes "ask")
ask-no-blank = search rules

turn-no-blank : NoBlank (codes "turn")
turn-no-blank = search rules

send-no-blank : NoBlank (codes "send")
send-no-blank = search rules

recv-no-blank : NoBlank (codes "recv")
recv-no-blank = search rules

-- the fields of a line of an exchange
pub head-fields : (bytes text : List ℕ) (a : Direction) (id : ℕ) (h : IsHead bytes a id text) → fields bytes ≡ direction_word a ∷ h.1.0 ∷ fields text
head-fields bytes text direction.Send id h =
    ap fields h.1.1 ∙ first-field-cut 115 (codes "end") (h.1.0 ++ 32 ∷ text) send-no-blank ∙ ap (λ fs. codes "send" ∷ fs) (number-cut h.1.0 text id h.1.2)
head-fields bytes text direction.Receive id h =
    ap fields h.1.1 ∙ first-field-cut 114 (codes "ecv") (h.1.0 ++ 32 ∷ text) recv-no-blank ∙ ap (λ fs. codes "recv" ∷ fs) (number-cut h.1.0 text id h.1.2)

pub apart : (xs ys : List ℕ) → bytes_eq xs ys ≡ false → xs ≡ ys → ⊥
apart xs ys f e = false≢true (sym f ∙ (bytes_eq-Decides xs ys).1 e)

pub head-of-fields : (x y : List ℕ) (xs ys : List (List ℕ)) → x ∷ xs ≡ y ∷ ys → x ≡ y
head-of-fields x y xs ys e = cc

-- the fields of a text, where they are an exchange
pub exchange-spelled : (text : List ℕ) (from to : List ℕ) (m : Message) → IsExchange (fields text) from to m → SpellsExchange text from to m
exchange-spelled text from to m e =
    (e.1 ∙ ap (λ t. from ∷ to ∷ t ∷ []) e.4.0, e.2, e.3, e.4.1, e.4.2)

spelled-exchange : (text : List ℕ) (from to : List ℕ) (m : Message) → SpellsExchange text from to m → IsExchange (fields text) from to m
spelled-exchange text from to m s = (message_text m, s.0, s.1, s.2, (refl, s.3, s.4))

-- a line of an exchange means the note of its event
exchange-says : (bytes text : List ℕ) (a : Direction) (id : ℕ) (from to : List ℕ) (m : Message) → IsHead bytes a id text → SpellsExchange text from to m → Says bytes (line.Step format.Line (step.Note id (directed_event a from to m)))
exchange-says bytes text direction.Send id from to m h e =
    let is = head-fields bytes text direction.Send id h in
    (h.0, (fields bytes, (refl, λ more k. apart (codes "send") (codes "json") refl (head-of-fields _ _ _ _ (sym is ∙ k))), rw is (inr (id, h.1.2, (refl, refl, spelled-exchange text from to m e)))))
exchange-says bytes text direction.Receive id from to m h e =
    let is = head-fields bytes text direction.Receive id h in
    (h.0, (fields bytes, (refl, λ more k. apart (codes "recv") (codes "json") refl (head-of-fields _ _ _ _ (sym is ∙ k))), rw is (inr (id, h.1.2, (refl, refl, spelled-exchange text from to m e)))))

pub head-says : (bytes text : List ℕ) (a : Direction) (id : ℕ) (e : Event) → IsHead bytes a id text → SpellsEvent text a e → Says bytes (line.Step format.Line (step.Note id e))
head-says bytes text a id e h s =
    subst (λ (x : Event). Says bytes (line.Step format.Line (step.Note id x))) (sym s.0) (exchange-says bytes text a id (sender_of e) (receiver_of e) (event_message e) h s.1)

-- the fields of an `ask` line
ask-fields : (digits : List ℕ) (id : ℕ) → IsNumberText digits id → fields (codes "ask" ++ 32 ∷ digits) ≡ codes "ask" ∷ digits ∷ []
ask-fields digits id h = first-field-cut 97 (codes "sk") digits ask-no-blank ∙ ap (λ fs. codes "ask" ∷ fs) (number-alone digits id h)

-- an `ask` line means a question
pub ask_says : (bytes digits : List ℕ) (id : ℕ) → bytes ≡ codes "ask" ++ 32 ∷ digits → IsNumberText digits id → Says bytes (line.Step format.Line (step.Ask id))
ask_says bytes digits id e h =
    let is = ap fields e ∙ ask-fields digits id h in
    let short : length bytes ≤ 131072 = omega (arith, ap length e, h.most) in
    (short, (fields bytes, (refl, λ more k. apart (codes "ask") (codes "json") refl (head-of-fields _ _ _ _ (sym is ∙ k))), rw is (inr (id, h, (refl, refl, refl)))))

-- the fields of a `turn` line
turn-fields : (digits : List ℕ) (id : ℕ) → IsNumberText digits id → fields (codes "turn" ++ 32 ∷ digits) ≡ codes "turn" ∷ digits ∷ []
turn-fields digits id h = first-field-cut 116 (codes "urn") digits turn-no-blank ∙ ap (λ fs. codes "turn" ∷ fs) (number-alone digits id h)

-- a `turn` line means a turn
pub turn_says : (bytes digits : List ℕ) (id : ℕ) → bytes ≡ codes "turn" ++ 32 ∷ digits → IsNumberText digits id → Says bytes (line.Step format.Line (step.Turn id))
turn_says bytes digits id e h =
    let is = ap fields e ∙ turn-fields digits id h in
    let short : length bytes ≤ 131072 = omega (arith, ap length e, h.most) in
    (short, (fields bytes, (refl, λ more k. apart (codes "turn") (codes "json") refl (head-of-fields _ _ _ _ (sym is ∙ k))), rw is (inr (id, h, (refl, refl, refl)))))

-- a text split at a space
pub cut-at : (rest : List ℕ) (at : ℕ) → at < length rest → get_or rest at 0 ≡ 32 → rest ≡ take at rest ++ 32 ∷ drop (suc at) rest
cut-at rest at l e = split_at rest at 0 l ∙ ap (λ b. take at rest ++ b ∷ drop (suc at) rest) e
