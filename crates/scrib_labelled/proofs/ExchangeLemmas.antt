-- What a line of an exchange with a label stands for.
use Rattle.std.proofs.Common.{◌≡◌, ◌∙◌, ◌≤◌, ◌<◌, ◌^◌, ℕ, true, false, Bool, List, [], ◌∷◌, ◌++◌, Some, None, codes, length, refl, ap, arith, rules}
use Rattle.std.specs.Fmt.{decimal}
use Rattle.std.proofs.lemmas.Bool.Decides.{nat_tests}
use Rattle.std.proofs.lemmas.List.{length-append}
use Rattle.std.proofs.lemmas.List.Elements.{All-nil, All-cons}
use Rattle.scrib_types.specs.declared.event.Event.{Event}
use Rattle.scrib_core.specs.declared.format.Format.TheVariants as format
use Rattle.scrib_core.specs.declared.step.Step.TheVariants.{Note}
use Rattle.scrib_script_reader.specs.declared.direction.Direction.{Direction}
use Rattle.scrib_script_reader.specs.declared.direction.Direction.TheVariants as direction
use Rattle.scrib_script_reader.specs.declared.line.Line.TheVariants as line
use Rattle.scrib_script_reader.specs.Fields.{fields, is_blank}
use Rattle.scrib_script_reader.specs.Heads.{IsHead, SpellsEvent, direction_word}
use Rattle.scrib_script_reader.specs.Says.{Says}
use Rattle.scrib_script_reader.proofs.Heads.{NoBlank, first-field-cut, head-fields, head-says}
use Rattle.scrib_labels.specs.SessionLines.{is_id_word}
use Rattle.scrib_labels.specs.SessionNames.{all_session_bytes, is_session_byte, is_session_name}
use Rattle.scrib_labels.specs.Tags.{HasTag, begins_tag}
use Rattle.scrib_labels.proofs.NumberedLines.{decimal-number, recv-field, send-field}
use Rattle.scrib_labelled.specs.LabelledLines.{IsNumbered, IsUntagged}
use Rattle.scrib_labelled.proofs.LineLemmas.{numbered_by_parts}
use Rattle.scrib_labelled.proofs.NameLemmas.{name_bytes}

-- ---- a name is a field

no-blank-byte : (b : ℕ) → is_session_byte b ≡ true → is_blank b ≡ false
no-blank-byte b h = grind (arith, nat_tests)

no-blank : (bs : List ℕ) → all_session_bytes bs ≡ true → NoBlank bs
no-blank [] h = All-nil (λ b. is_blank b ≡ false)
no-blank (b ∷ bs) h = All-cons (λ b. is_blank b ≡ false) b bs (no-blank-byte b (search rules)) (no-blank bs (search rules))

name-field : (w text : List ℕ) → is_session_name w ≡ true → fields (w ++ 32 ∷ text) ≡ w ∷ fields text
name-field [] text h = absurd (cc)
name-field (b ∷ bs) text h = first-field-cut b bs text (no-blank (b ∷ bs) (name_bytes (b ∷ bs) h))

-- ---- the fields of an exchange with a name

id-word : (d : Direction) → is_id_word (direction_word d) ≡ true
id-word direction.Send = refl
id-word direction.Receive = refl

named-fields : (rest : List ℕ) (d : Direction) (w text : List ℕ) → rest ≡ direction_word d ++ 32 ∷ w ++ 32 ∷ text → is_session_name w ≡ true → fields rest ≡ direction_word d ∷ w ∷ fields text
named-fields rest direction.Send w text e h = ap fields e ∙ send-field (w ++ 32 ∷ text) ∙ ap (λ (fs : List (List ℕ)). codes "send" ∷ fs) (name-field w text h)
named-fields rest direction.Receive w text e h = ap fields e ∙ recv-field (w ++ 32 ∷ text) ∙ ap (λ (fs : List (List ℕ)). codes "recv" ∷ fs) (name-field w text h)

-- ---- the same with a number

short-head : (d : Direction) (k : ℕ) (text : List ℕ) → k < 2 ^ 32 → length text ≤ 65536 → length (direction_word d ++ 32 ∷ decimal k ++ 32 ∷ text) ≤ 131072
short-head direction.Send k text small few = omega (arith, length-append (decimal k) (32 ∷ text), (decimal-number k small).most, few)
short-head direction.Receive k text small few = omega (arith, length-append (decimal k) (32 ∷ text), (decimal-number k small).most, few)

plain-head : (d : Direction) (k : ℕ) (text : List ℕ) → k < 2 ^ 32 → length text ≤ 65536 → IsHead (direction_word d ++ 32 ∷ decimal k ++ 32 ∷ text) d k text
plain-head d k text small few = (short-head d k text small few, (decimal k, refl, decimal-number k small))

-- a line with a name is that with the number in its place
pub exchange_named : (rest : List ℕ) (d : Direction) (w text : List ℕ) (k : ℕ) (e : Event) → rest ≡ direction_word d ++ 32 ∷ w ++ 32 ∷ text → length text ≤ 65536 → is_session_name w ≡ true → k < 2 ^ 32
    → SpellsEvent text d e → (plain : List ℕ) × IsNumbered true rest (Some (w, k)) plain × Says plain (line.Step format.Line (Note k e))
unfolding plain-head
exchange_named rest d w text k e is few named small spells =
    let head = plain-head d k text small few in
    let plain : List ℕ = direction_word d ++ 32 ∷ decimal k ++ 32 ∷ text in (
      plain,
      numbered_by_parts true rest plain false (direction_word d) w (fields text) k refl (named-fields rest d w text is named) (id-word d) named (head-fields plain text d k head),
      head-says plain text d k e head spells,
    )

-- ---- tags

-- a line that does not begin with `@` has no tag
pub no_tag : (line : List ℕ) → begins_tag line ≡ false → (tag rest : List ℕ) → HasTag line tag rest → ⊥
no_tag line h tag rest has =
    let yes : begins_tag line ≡ true = ap begins_tag has.0 in
    absurd (cc)

pub untagged : (b : Bool) (line : List ℕ) → begins_tag line ≡ false → IsUntagged b line None line
untagged false line h = (refl, refl)
untagged true line h = (no_tag line h, refl)

pub untagged_off : (b : Bool) (line : List ℕ) → b ≡ false → IsUntagged b line None line
untagged_off false line e = (refl, refl)
untagged_off true line e = absurd (cc)

pub tagged : (b : Bool) (line tag rest : List ℕ) → b ≡ true → HasTag line tag (32 ∷ rest) → IsUntagged b line (Some tag) rest
tagged false line tag rest e h = absurd (cc)
tagged true line tag rest e h = (32 ∷ rest, h, refl)
