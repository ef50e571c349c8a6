-- The names of all kinds of refusals, and of the reasons of offences (this project's own).
use Rattle.std.specs.Prelude.{ℕ, Bool, List, [], ◌∷◌, ◌++◌, codes, map}
use Rattle.std.specs.List.{list_any}
use Rattle.std.specs.Str.{bytes_eq}
use Rattle.scrib_why.specs.declared.kind.Kind.{Kind}

-- the names of the kinds
abbrev pub names_of : List Kind → List (List ℕ)
names_of kinds = map (λ (k : Kind). k.name.now) kinds

-- whether this name is among the names
abbrev pub has_name : List (List ℕ) → List ℕ → Bool
has_name names name = list_any (λ (n : List ℕ). bytes_eq n name) names

-- of a text that is no module
unfoldable pub text_names : List (List ℕ)
text_names =
    codes "BadByte" ∷ codes "OpenComment" ∷ codes "OpenString" ∷ codes "LongName" ∷ codes "TextTooLong" ∷
    codes "EndOfText" ∷ codes "Unexpected" ∷ codes "LeftOut" ∷ codes "TooDeep" ∷ []

-- of a module with a protocol that breaks a rule, but for those of choices
unfoldable pub protocol_names : List (List ℕ)
protocol_names =
    codes "NoModule" ∷ codes "NoProtocol" ∷ codes "TwiceDeclared" ∷ codes "NoRole" ∷ codes "RepeatedRole" ∷
    codes "WrongCount" ∷ codes "SelfMessage" ∷ codes "DoCycle" ∷ codes "NoRec" ∷ codes "Unguarded" ∷
    codes "Unreachable" ∷ codes "TooManyRoles" ∷ codes "TooLarge" ∷ []

-- of a module with a choice that breaks a rule
unfoldable pub choice_names : List (List ℕ)
choice_names =
    codes "EmptyBranch" ∷ codes "ContinueHead" ∷ codes "RecHead" ∷ codes "NotChooser" ∷ codes "TwoReceivers" ∷
    codes "SameOperator" ∷ codes "Unmergeable" ∷ []

-- of an edit that the library refuses
unfoldable pub library_names : List (List ℕ)
library_names =
    codes "ImportMissing" ∷ codes "TooManyModules" ∷ codes "TooManyProtocols" ∷ codes "VersionsFull" ∷
    codes "UnknownModule" ∷ codes "StillImported" ∷ codes "NeedsReception" ∷ []

-- of a line of a script, or of a command, that is refused
unfoldable pub step_names : List (List ℕ)
step_names =
    codes "BadLine" ∷ codes "AlreadyOpen" ∷ codes "UnknownProtocol" ∷ codes "TooManyConversations" ∷
    codes "NoConversation" ∷ codes "LogFull" ∷ codes "NotPermitted" ∷ codes "OutOfMemory" ∷ codes "Mismatch" ∷ []

-- the reasons of an offence
unfoldable pub reason_names : List (List ℕ)
reason_names =
    codes "NotDeclared" ∷ codes "JoinedTwice" ∷ codes "NotJoined" ∷ codes "Done" ∷ codes "NotAllowed" ∷
    codes "NotSent" ∷ codes "OtherFirst" ∷ []

-- the names of all kinds, in the order in which they are listed
abbrev pub kind_names : List (List ℕ)
kind_names = text_names ++ protocol_names ++ choice_names ++ library_names ++ step_names ++ reason_names
