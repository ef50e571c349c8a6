-- The line of an event, which is written from its end.
use Rattle.std.proofs.Common.{◌≡◌, ◌≤◌, ◌<◌, ◌+◌, ◌-◌, ◌^◌, ℕ, List, [], ◌∷◌, ◌++◌, codes, drop, take, length, set, sym, ap, ◌∙◌, append_assoc, Result, Ok, Err, is_ok, OnOk, if◌then◌else◌, rules, arith}
use Rattle.std.specs.Fmt.{decimal}
use Rattle.scrib_types.specs.declared.event.Told.TheVariants.{Judged}
use Rattle.scrib_types.specs.declared.event.Action.{Action}
use Rattle.scrib_types.specs.declared.event.Verdict.TheVariants.{Permitted, Offence, Withdrawn}
use Rattle.scrib_types.specs.Texts.{allowed_text}
use Rattle.scrib_core.specs.declared.reply.Reply.TheVariants.{Noted}
use Rattle.scrib_core.specs.declared.reply.Reply.TheVariants as reply
use Rattle.scrib_report.specs.Lines.{line_of, told_text, verdict_text, offence_text}
use Rattle.std.proofs.lemmas.Fmt.{length-decimal-le}
use Rattle.std.proofs.lemmas.Grind.{common_steps}
use Rattle.std.proofs.lemmas.List.{drop-drop, drop-set, length-append, length-drop, length-take-le}
use Rattle.std.proofs.Math.Seq.{drop-append_seam}

-- A number of 64 bits has at most 20 digits, one of 32 bits at most 10.
pub long_digits : (n : ℕ) → n < 2 ^ 64 → length (decimal n) ≤ 20
long_digits n h = length-decimal-le 20 n (omega arith) (omega (arith, h)) h

pub short_digits : (n : ℕ) → n < 2 ^ 32 → length (decimal n) ≤ 10
short_digits n h = length-decimal-le 10 n (omega arith) (omega (arith, h)) (omega (arith, h))

-- Two numbers with a byte between them, written in front of an end.
pub two_numbers : (m n at from byte : ℕ) (one two end : List ℕ) → 1 ≤ at → at - 1 < length one → drop at one ≡ decimal n ++ end → drop from two ≡ decimal m ++ drop (at - 1) (set one (at - 1) byte) → drop from two ≡ (decimal m ++ byte ∷ []) ++ decimal n ++ end
two_numbers m n at from byte one two end some within e f =
    let next : at - 1 + 1 ≡ at = omega (arith, some) in
    let between : drop (at - 1) (set one (at - 1) byte) ≡ byte ∷ (decimal n ++ end) = drop-set one (at - 1) byte within ∙ ap (λ rest. byte ∷ rest) (ap (λ i. drop i one) next ∙ e) in
    let whole : decimal m ++ byte ∷ (decimal n ++ end) ≡ (decimal m ++ byte ∷ []) ++ decimal n ++ end = sym (append_assoc (decimal m ++ byte ∷ []) (decimal n) end ∙ append_assoc (decimal m) (byte ∷ []) (decimal n ++ end)) in
    f ∙ ap (λ rest. decimal m ++ rest) between ∙ whole

-- Appending four pieces at once is appending them one after another.
append_five : (old a b c d : List ℕ) → old ++ (a ++ b ++ c ++ d) ≡ old ++ a ++ b ++ c ++ d
append_five old a b c d = sym (append_assoc old (a ++ b ++ c) d) ∙ ap (λ rest. rest ++ d) (sym (append_assoc old (a ++ b) c) ∙ ap (λ rest. rest ++ c) (sym (append_assoc old a b)))

-- Where the buffer could grow, the text ends with the four pieces.
pub line_added : {E : Type 0} (r : Result (Unit {0}) E) (new old laid a b c d : List ℕ) → laid ≡ a ++ b ++ c ++ d → new ≡ (if is_ok r then old ++ laid else old) → OnOk r (new ≡ old ++ a ++ b ++ c ++ d)
line_added (Ok u) new old laid a b c d e f = f ∙ ap (λ rest. old ++ rest) e ∙ append_five old a b c d
line_added (Err u) new old laid a b c d e f = search rules

few_pieces : (old id dot place blank word end : List ℕ) → old ++ id ++ dot ++ place ++ (blank ++ word ++ end) ≡ old ++ (id ++ dot ++ place ++ blank ++ word) ++ end
few_pieces old id dot place blank word end = grind (arith, common_steps)

-- The four pieces are the line of a permitted event with its line feed.
pub line_and_end : (old : List ℕ) (id place : ℕ) → old ++ decimal id ++ codes "." ++ decimal place ++ codes " permitted\n" ≡ old ++ line_of (Noted id place (Judged Permitted)) ++ 10 ∷ []
unfolding line_of told_text verdict_text
line_and_end old id place = few_pieces old (decimal id) (codes ".") (decimal place) (codes " ") (codes "permitted") (10 ∷ [])

-- The same of a log that is judged withdrawn.
pub withdrawn_and_end : (old : List ℕ) (id place : ℕ) → old ++ decimal id ++ codes "." ++ decimal place ++ codes " withdrawn\n" ≡ old ++ line_of (Noted id place (Judged Withdrawn)) ++ 10 ∷ []
unfolding line_of told_text verdict_text
withdrawn_and_end old id place = few_pieces old (decimal id) (codes ".") (decimal place) (codes " ") (codes "withdrawn") (10 ∷ [])

-- Where the buffer could grow, the text ends with the piece.
pub end_added : {E : Type 0} (r : Result (Unit {0}) E) (new old laid end : List ℕ) → laid ≡ end → new ≡ (if is_ok r then old ++ laid else old) → OnOk r (new ≡ old ++ end)
end_added (Ok u) new old laid end e f = f ∙ ap (λ rest. old ++ rest) e
end_added (Err u) new old laid end e f = search rules

-- The id and the end are the line of a permitted verdict with its line feed.
pub verdict_and_end : (old : List ℕ) (id : ℕ) (name : List (List ℕ)) (events : ℕ) → old ++ (decimal id ++ codes " permitted\n") ≡ old ++ line_of (reply.Judged id name events (Judged Permitted)) ++ 10 ∷ []
unfolding line_of told_text verdict_text
verdict_and_end old id name events =
    let end : List ℕ = 10 ∷ [] in
    ap (λ rest. old ++ rest) (sym (append_assoc (decimal id ++ codes " ") (codes "permitted") end ∙ append_assoc (decimal id) (codes " ") (codes "permitted" ++ end)))
    ∙ sym (append_assoc old (decimal id ++ codes " " ++ codes "permitted") end)

-- What is behind the offset of a part that was written over.
pub part_written : (a e : ℕ) (old part end : List ℕ) → a ≤ e → e ≤ length old → drop e old ≡ end → drop a (take a old ++ (part ++ drop (e - a) (drop a old))) ≡ part ++ end
part_written a e old part end before within is =
    let front : length (take a old) ≡ a = length-take-le a old (omega (arith, before, within)) in
    let behind = part ++ drop (e - a) (drop a old) in
    let there : a + (e - a) ≡ e = omega (arith, before) in
    let rest : drop (e - a) (drop a old) ≡ end = drop-drop (e - a) a old ∙ ap (λ n. drop n old) there ∙ is in
    ap (λ n. drop n (take a old ++ behind)) (sym front) ∙ drop-append_seam (take a old) behind ∙ ap (λ r. part ++ r) rest

-- A part that was written over keeps the length.
pub part_length : (a e : ℕ) (old part : List ℕ) → a ≤ e → e ≤ length old → length part ≡ e - a → length (take a old ++ (part ++ drop (e - a) (drop a old))) ≡ length old
part_length a e old part before within same =
    let behind = drop (e - a) (drop a old) in
    omega (arith, length-append (take a old) (part ++ behind), length-append part behind, length-take-le a old (omega (arith, before, within)), length-drop (e - a) (drop a old), length-drop a old, before, within, same)

-- Appending six pieces at once, the last three of which were written together.
pub six_pieces : (id dot place words at by_ : List ℕ) → id ++ dot ++ place ++ (words ++ (at ++ by_)) ≡ id ++ dot ++ place ++ words ++ at ++ by_
six_pieces id dot place words at by_ = grind (arith, common_steps)

pieces : (old id dot place blank offence at by_ role allowed text end : List ℕ) → old ++ (id ++ dot ++ place ++ (blank ++ offence) ++ at ++ by_) ++ role ++ allowed ++ text ++ end ≡ old ++ (id ++ dot ++ place ++ blank ++ (offence ++ at ++ by_ ++ role ++ allowed ++ text)) ++ end
pieces old id dot place blank offence at by_ role allowed text end = grind (arith, common_steps)

-- The pieces are the line of an offence with its line feed.
pub offence_and_end : (old : List ℕ) (id place at : ℕ) (role : List ℕ) (allowed : List Action) → old ++ (decimal id ++ codes "." ++ decimal place ++ codes " offence at " ++ decimal at ++ codes " by ") ++ role ++ codes ", allowed: " ++ allowed_text allowed ++ codes "\n" ≡ old ++ line_of (Noted id place (Judged (Offence at role allowed))) ++ 10 ∷ []
unfolding line_of told_text verdict_text offence_text
offence_and_end old id place at role allowed =
    pieces old (decimal id) (codes ".") (decimal place) (codes " ") (codes "offence at ") (decimal at) (codes " by ") role (codes ", allowed: ") (allowed_text allowed) (10 ∷ [])
