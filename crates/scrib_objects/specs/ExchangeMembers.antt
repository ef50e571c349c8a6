-- Objects of exchanges whose members come in any order, with any blanks (this project's own).
use Rattle.std.specs.Prelude.{◌≡◌, ◌≤◌, ◌<◌, ℕ, Bool, true, false, if◌then◌else◌, List, [], ◌∷◌, ◌++◌, Option, Some, None, option_map, length, codes, IfSome}
use Rattle.std.specs.Borrow.{Bor}
use Rattle.std.specs.List.{list_all}
use Rattle.std.specs.Str.{bytes_eq}
use Rattle.json.specs.Find.{get}
use Rattle.json.specs.Json.{Json, null, boolean, number, string, array, object, max_depth}
use Rattle.json.specs.Lex.{tokens}
use Rattle.json.specs.Strict.{HasUniqueKeys}
use Rattle.json.specs.Tree.{depth, json_tokens}
use Rattle.scrib_script_reader.specs.Fields.{is_blank}
use Rattle.scrib_objects.specs.declared.exchange_members.ExchangeMembers.{ExchangeMembers}
use Rattle.scrib_objects.specs.declared.exchange_members.Member.{Member}
use Rattle.scrib_objects.specs.declared.exchange_members.MemberKey.{MemberKey}
use Rattle.scrib_objects.specs.declared.exchange_members.MemberKey.TheVariants as member_key
use Rattle.scrib_objects.specs.declared.exchange_object.ExchangeObject.{ExchangeObject}
use Rattle.scrib_objects.specs.declared.exchange_object.IdValue.{IdValue}
use Rattle.scrib_objects.specs.declared.object_options.ObjectOptions.{ObjectOptions}
use Rattle.scrib_objects.specs.ExchangeObjects.{IsIdValue, all_plain, exchange_line}
use Rattle.scrib_objects.specs.Objects.{as_line, spelled}

-- Contracts of private functions alone cite this file.

-- ---- the text of a member

-- blanks and tabs, then these
pub record SkipsBlanks (bytes rest : List ℕ) : Type 0 where
  pub blanks : List ℕ
  pub blank : list_all is_blank blanks ≡ true
  pub is : bytes ≡ blanks ++ rest

-- the key of a member
abbrev pub key_text : MemberKey → List ℕ
key_text member_key.Do = codes "do"
key_text member_key.From = codes "from"
key_text member_key.Id = codes "id"
key_text member_key.Message = codes "message"
key_text member_key.Tag = codes "tag"
key_text member_key.To = codes "to"

-- the key in quotes, a colon and the value, each behind blanks, and then the rest of the value
pub record IsMember (bytes : List ℕ) (m : Member) : Type 0 where
  pub behind_key : List ℕ
  pub key : SkipsBlanks bytes (34 ∷ (key_text m.key ++ 34 ∷ behind_key))
  pub behind_colon : List ℕ
  pub colon : SkipsBlanks behind_key (58 ∷ behind_colon)
  pub value_text : List ℕ
  pub value : SkipsBlanks behind_colon value_text
  pub is : IsIdValue true value_text m.value

-- the brace that ends an object, and then blanks alone
abbrev pub IsObjectEnd : List ℕ → Type 0
IsObjectEnd bytes = (rest : List ℕ) × (bytes ≡ 125 ∷ rest) × SkipsBlanks rest []

-- ---- the members of an object

-- a text as a value
abbrev pub text_value : Bor (List ℕ) → Json
text_value text = string text.now

-- the value that is read: a string or a number
abbrev pub value_of : IdValue → Json
value_of v = if v.quoted then string v.text.now else number v.text.now

-- the value in the place of the key
abbrev pub value_under : ExchangeMembers → List ℕ → Option Json
value_under m key =
    if bytes_eq (codes "do") key then option_map text_value m.word
    else if bytes_eq (codes "from") key then option_map text_value m.from
    else if bytes_eq (codes "id") key then option_map value_of m.id
    else if bytes_eq (codes "message") key then option_map text_value m.message
    else if bytes_eq (codes "tag") key then option_map text_value m.tag
    else if bytes_eq (codes "to") key then option_map text_value m.to
    else None

-- an empty place is filled with the value
abbrev pub IsFilled : Option Json → Json → Option Json → Type 0
IsFilled old value new = (old ≡ None) × (new ≡ Some value)

-- the place of the key is filled, and all others are kept
pub record IsAdded (old : ExchangeMembers) (key : List ℕ) (value : Json) (new : ExchangeMembers) : Type 0 where
  pub filled : IsFilled (value_under old key) value (value_under new key)
  pub kept : (other : List ℕ) → bytes_eq key other ≡ false → value_under new other ≡ value_under old other

-- a number, or a string of plain bytes, one at least
abbrev pub IsPlainValue : Json → Type 0
IsPlainValue null = ⊥
IsPlainValue (boolean b) = ⊥
IsPlainValue (number s) = Unit {0}
IsPlainValue (string s) = (all_plain s ≡ true) × (0 < length s)
IsPlainValue (array js) = ⊥
IsPlainValue (object ms) = ⊥

-- the value is an object that has these members alone, each once, and their values are plain
pub record HasMembers (j : Json) (m : ExchangeMembers) : Type 0 where
  pub values : (key : List ℕ) → get key j ≡ value_under m key
  pub plain : (key : List ℕ) → IfSome (value_under m key) IsPlainValue
  pub unique : HasUniqueKeys j
  pub shallow : depth j ≤ max_depth

-- the tokens of the text are those of such an object
abbrev pub SpellsMembers : List ℕ → ExchangeMembers → Type 0
SpellsMembers text m = (j : Json) × (tokens text ≡ json_tokens j) × HasMembers j m

-- ---- the exchange

-- the tag that is shown: the text, where lines have tags, of at most 64 bytes
abbrev pub IsShownTag : (tags : Bool) → Option (Bor (List ℕ)) → Option (Bor (List ℕ)) → Type 0
IsShownTag tags text shown =
    (option_map (λ t. t.now) shown ≡ (if tags then option_map (λ t. t.now) text else None))
    × IfSome shown (λ t. length t.now ≤ 64)

-- an object that has these members stands for this exchange, with this tag
abbrev pub StandsForExchange : ObjectOptions → ExchangeMembers → ExchangeObject → Type 0
StandsForExchange o m e =
    (j : Json) → HasMembers j m
    → spelled o j ≡ Some (record { tag = option_map (λ t. t.now) e.tag; body = as_line (exchange_line e) })
