-- The printed text of messages and actions, and the word of a profile (this project's own).
use Rattle.std.specs.Prelude.{ℕ, List, [], ◌∷◌, ◌++◌, Option, Some, None, codes}
use Rattle.scrib_types.specs.declared.message.Message.{Message}
use Rattle.scrib_types.specs.declared.profile.Profile.{Profile}
use Rattle.scrib_types.specs.declared.profile.Profile.TheVariants.{Plain, Reception}
use Rattle.scrib_types.specs.declared.event.Action.{Action}
use Rattle.scrib_types.specs.declared.event.Action.TheVariants.{Join, Sends, Receives}

-- each text after this byte
abbrev pub after_each : ℕ → List (List ℕ) → List ℕ
after_each b [] = []
after_each b (t ∷ ts) = (b ∷ t) ++ after_each b ts

-- the texts with this byte between each two
abbrev pub joined_by : ℕ → List (List ℕ) → List ℕ
joined_by b [] = []
joined_by b (t ∷ ts) = t ++ after_each b ts

-- `a.b`
abbrev pub dotted_text : List (List ℕ) → List ℕ
dotted_text names = joined_by 46 names

-- the texts of dotted names
abbrev pub dotted_texts : List (List (List ℕ)) → List (List ℕ)
dotted_texts [] = []
dotted_texts (d ∷ ds) = dotted_text d ∷ dotted_texts ds

-- the operator, or nothing
abbrev pub operator_text : Option (List ℕ) → List ℕ
operator_text None = []
operator_text (Some name) = name

-- `hello()`, `a(Int,b.Str)`, `()`
unfoldable pub message_text : Message → List ℕ
message_text m = operator_text m.op ++ (40 ∷ joined_by 44 (dotted_texts m.payload)) ++ 41 ∷ []

-- `join`, `B!hello()` for a send to B, `A?hello()` for a reception from A
unfoldable pub action_text : Action → List ℕ
action_text Join = codes "join"
action_text (Sends q m) = q ++ 33 ∷ message_text m
action_text (Receives p m) = p ++ 63 ∷ message_text m

-- each action after a comma and a blank
abbrev pub further_actions : List Action → List ℕ
further_actions [] = []
further_actions (a ∷ as_) = codes ", " ++ action_text a ++ further_actions as_

-- the actions with commas between them, or `none`
abbrev pub allowed_text : List Action → List ℕ
allowed_text [] = codes "none"
allowed_text (a ∷ as_) = action_text a ++ further_actions as_

-- `plain` or `reception`
abbrev pub profile_word : Profile → List ℕ
profile_word Plain = codes "plain"
profile_word Reception = codes "reception"
