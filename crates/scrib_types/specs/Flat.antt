-- The flat form of messages: an encoding as bytes, by which two messages are compared (this project's own).
-- It is a prefix-free code: the bytes of no other message begin with those of this one.
use Rattle.std.specs.Prelude.{ℕ, ◌/◌, ◌%◌, List, [], ◌∷◌, ◌++◌, length, replicate, Option, Some, None}
use Rattle.scrib_types.specs.declared.message.Message.{Message}

-- a number: a byte 255 for each 255 in it, and then the remainder (the lacing of Ogg, RFC 3533)
unfoldable pub number_bytes : ℕ → List ℕ
number_bytes n = replicate (n / 255) 255 ++ (n % 255) ∷ []

-- a name after its length
unfoldable pub name_bytes : List ℕ → List ℕ
name_bytes name = number_bytes (length name) ++ name

-- each name after a 1, and at the end a 0
abbrev pub names_bytes : List (List ℕ) → List ℕ
names_bytes [] = 0 ∷ []
names_bytes (name ∷ names) = (1 ∷ name_bytes name) ++ names_bytes names

-- each list of names after a 1, and at the end a 0
abbrev pub payload_bytes : List (List (List ℕ)) → List ℕ
payload_bytes [] = 0 ∷ []
payload_bytes (sort ∷ sorts) = (1 ∷ names_bytes sort) ++ payload_bytes sorts

-- the name after a 1, or 0
abbrev pub operator_bytes : Option (List ℕ) → List ℕ
operator_bytes None = 0 ∷ []
operator_bytes (Some name) = 1 ∷ name_bytes name

-- the operator, and then the types of the payload
unfoldable pub message_bytes : Message → List ℕ
message_bytes m = operator_bytes m.op ++ payload_bytes m.payload
