-- The meaning of lines that name a protocol or a role.
use Rattle.std.proofs.Common.{◌≡◌, inr, ℕ, List, [], ◌∷◌, ◌++◌, codes, refl, sym, ap, subst, ◌∙◌, rules}
use Rattle.scrib_types.specs.declared.event.Event.{Event}
use Rattle.scrib_types.specs.Texts.{dotted_text}
use Rattle.scrib_core.specs.declared.step.Step.{Step}
use Rattle.scrib_core.specs.declared.step.Step.TheVariants as step
use Rattle.scrib_core.specs.declared.format.Format.TheVariants as format
use Rattle.scrib_script_reader.specs.declared.line.Line.TheVariants as line
use Rattle.scrib_script_reader.specs.declared.head.NamedWord.{NamedWord}
use Rattle.scrib_script_reader.specs.declared.head.NamedWord.TheVariants as word
use Rattle.scrib_script_reader.specs.Fields.{fields, IsDottedText}
use Rattle.scrib_script_reader.specs.NamedHeads.{IsNamedHead, SpellsName, SpellsJoin, named_word}
use Rattle.scrib_script_reader.specs.Says.{Says}
use Rattle.scrib_script_reader.specs.Steps.{MakesWithId}
use Rattle.scrib_script_reader.proofs.Heads.{NoBlank, first-field-cut, number-cut, apart, head-of-fields}

open-no-blank : NoBlank (codes "open")
open-no-blank = search rules

join-no-blank : NoBlank (codes "join")
join-no-blank = search rules

-- the fields of a line that names a protocol or a role
named-fields : (bytes text : List ℕ) (w : NamedWord) (id : ℕ) (h : IsNamedHead bytes w id text) → fields bytes ≡ named_word w ∷ h.1.0 ∷ fields text
named-fields bytes text word.Open id h =
    ap fields h.1.1 ∙ first-field-cut 111 (codes "pen") (h.1.0 ++ 32 ∷ text) open-no-blank ∙ ap (λ fs. codes "open" ∷ fs) (number-cut h.1.0 text id h.1.2)
named-fields bytes text word.Join id h =
    ap fields h.1.1 ∙ first-field-cut 106 (codes "oin") (h.1.0 ++ 32 ∷ text) join-no-blank ∙ ap (λ fs. codes "join" ∷ fs) (number-cut h.1.0 text id h.1.2)

not-json : (w : NamedWord) → named_word w ≡ codes "json" → ⊥
not-json word.Open = apart (codes "open") (codes "json") refl
not-json word.Join = apart (codes "join") (codes "json") refl

-- the word, the id and the fields of the text make the step
abbrev SpellsNamed : NamedWord → ℕ → List ℕ → Step → Type 0
SpellsNamed w id text s = MakesWithId (named_word w) id (fields text) s

-- such a line means the step that its word, its id and the fields of its text make
named_says : (bytes text : List ℕ) (w : NamedWord) (id : ℕ) (s : Step) → IsNamedHead bytes w id text → SpellsNamed w id text s → Says bytes (line.Step format.Line s)
named_says bytes text w id s h made =
    let is = named-fields bytes text w id h in
    (h.0, (fields bytes, (refl, λ more k. not-json w (head-of-fields _ _ _ _ (sym is ∙ k))), rw is (inr (id, h.1.2, made))))

-- a name that the text spells is opened
name_opens : (text : List ℕ) (id : ℕ) (name : List (List ℕ)) → SpellsName text name → SpellsNamed word.Open id text (step.Open id name)
name_opens text id name s = (refl, refl, (dotted_text name, s.0, (refl, s.1)))

pub open_says : (bytes text : List ℕ) (id : ℕ) (name : List (List ℕ)) → IsNamedHead bytes word.Open id text → SpellsName text name → Says bytes (line.Step format.Line (step.Open id name))
open_says bytes text id name h s = named_says bytes text word.Open id (step.Open id name) h (name_opens text id name s)

-- a join that the text spells is noted
join_notes : (text : List ℕ) (id : ℕ) (e : Event) → SpellsJoin text e → SpellsNamed word.Join id text (step.Note id e)
join_notes text id e s =
    subst (λ (x : Event). SpellsNamed word.Join id text (step.Note id x)) (sym s.0) (refl, refl, s.1, s.2)

pub join_says : (bytes text : List ℕ) (id : ℕ) (e : Event) → IsNamedHead bytes word.Join id text → SpellsJoin text e → Says bytes (line.Step format.Line (step.Note id e))
join_says bytes text id e h s = named_says bytes text word.Join id (step.Note id e) h (join_notes text id e s)

-- the only field, where it is a dotted name's text
pub field_names : (text field : List ℕ) (name : List (List ℕ)) → fields text ≡ field ∷ [] → IsDottedText field name → SpellsName text name
field_names text field name e d = (e ∙ ap (λ t. t ∷ []) d.0, d.1)
