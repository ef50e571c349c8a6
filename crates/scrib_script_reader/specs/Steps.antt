-- The step that the fields of a line make (this project's own).
use Rattle.std.specs.Prelude.{◌≡◌, ◌⊎◌, ℕ, List, [], ◌∷◌, IsTrue, codes}
use Rattle.scrib_types.specs.declared.message.Message.{Message}
use Rattle.scrib_types.specs.declared.event.Event.TheVariants as event
use Rattle.scrib_types.specs.Names.{is_name}
use Rattle.scrib_types.specs.Texts.{profile_word}
use Rattle.scrib_core.specs.declared.step.Step.{Step}
use Rattle.scrib_core.specs.declared.step.Step.TheVariants as step
use Rattle.scrib_script_reader.specs.Fields.{IsNumberText, IsDottedText, IsMessageText}

-- the fields are the sender, the receiver and the message
abbrev pub IsExchange : List (List ℕ) → (from to : List ℕ) → Message → Type 0
IsExchange fs from to m =
    (text : List ℕ) × (fs ≡ from ∷ to ∷ text ∷ []) × IsTrue (is_name from) × IsTrue (is_name to) × IsMessageText text m

-- the word, the id and the fields after them make the step
abbrev pub MakesWithId : List ℕ → ℕ → List (List ℕ) → Step → Type 0
MakesWithId word id fs (step.Open i name) =
    (word ≡ codes "open") × (i ≡ id) × ((text : List ℕ) × (fs ≡ text ∷ []) × IsDottedText text name)
MakesWithId word id fs (step.Note i (event.Join role)) =
    (word ≡ codes "join") × (i ≡ id) × (fs ≡ role ∷ []) × IsTrue (is_name role)
MakesWithId word id fs (step.Note i (event.Sent from to m)) = (word ≡ codes "send") × (i ≡ id) × IsExchange fs from to m
MakesWithId word id fs (step.Note i (event.Received from to m)) =
    (word ≡ codes "recv") × (i ≡ id) × IsExchange fs from to m
MakesWithId word id fs (step.Turn i) = (word ≡ codes "turn") × (i ≡ id) × (fs ≡ [])
MakesWithId word id fs (step.Ask i) = (word ≡ codes "ask") × (i ≡ id) × (fs ≡ [])
MakesWithId word id fs (step.Close i) = (word ≡ codes "close") × (i ≡ id) × (fs ≡ [])
MakesWithId word id fs _ = ⊥

-- the word and the last field, after which no field comes, make the step: `withdraw` and a module's name, or
-- `profile` and a profile's word
abbrev pub Edits : (word text : List ℕ) → List (List ℕ) → Step → Type 0
Edits word text fs (step.Withdraw name) = (word ≡ codes "withdraw") × (fs ≡ []) × IsDottedText text name
Edits word text fs (step.Profile p) = (word ≡ codes "profile") × (fs ≡ []) × (text ≡ profile_word p)
Edits word text fs _ = ⊥

-- the fields make the step: `withdraw` or `profile` and one field, or a word, an id in digits, and further fields
abbrev pub MakesStep : List (List ℕ) → Step → Type 0
MakesStep (word ∷ first ∷ fs) s = Edits word first fs s ⊎ ((id : ℕ) × IsNumberText first id × MakesWithId word id fs s)
MakesStep _ s = ⊥
