-- Objects that stand for a send or a reception (this project's own).
use Rattle.std.specs.Prelude.{◌≡◌, ◌⊎◌, ℕ, ◌<◌, ◌≤◌, Bool, true, false, ◌&&◌, ◌||◌, ◌==◌, not, nat_le, if◌then◌else◌, List, [], ◌∷◌, ◌++◌, Some, None, option_map, length, codes}
use Rattle.std.specs.Str.{bytes_eq}
use Rattle.json.specs.Print.{IsNumber}
use Rattle.scrib_objects.specs.declared.object_options.ObjectOptions.{ObjectOptions}
use Rattle.scrib_objects.specs.declared.exchange_object.ExchangeObject.{ExchangeObject}
use Rattle.scrib_objects.specs.declared.exchange_object.IdValue.{IdValue}
use Rattle.scrib_objects.specs.declared.exchange_object.Quoted.{Quoted}
use Rattle.scrib_objects.specs.declared.exchange_object.TagValue.{TagValue}
use Rattle.scrib_objects.specs.Objects.{IsObjectLine, as_line, spaced}

-- the line that the object stands for
abbrev pub exchange_line : ExchangeObject → List ℕ
exchange_line e = spaced (e.word.now ∷ e.id.now ∷ e.from.now ∷ e.to.now ∷ e.message.now ∷ [])

-- the line is an object that stands for this exchange, with this tag
abbrev pub IsExchangeObject : ObjectOptions → List ℕ → ExchangeObject → Type 0
IsExchangeObject o line e =
    IsObjectLine o line (Some (record { tag = option_map (λ t. t.now) e.tag; body = as_line (exchange_line e) }))

-- The rest of this file is cited by contracts of private functions alone.

-- a visible byte that needs no escape and is no quote
abbrev pub is_plain : ℕ → Bool
is_plain b = nat_le 33 b && nat_le b 126 && not (b == 34) && not (b == 92)

-- each byte is such
abbrev pub all_plain : List ℕ → Bool
all_plain [] = true
all_plain (b ∷ bs) = is_plain b && all_plain bs

-- the word of a send or a reception
abbrev pub is_exchange : List ℕ → Bool
is_exchange w = bytes_eq w (codes "send") || bytes_eq w (codes "recv")

-- plain bytes, one at least, then a quote, then these
pub record IsQuoted (bytes : List ℕ) (q : Quoted) : Type 0 where
  pub is : bytes ≡ q.text.now ++ 34 ∷ q.rest.now
  pub plain : all_plain q.text.now ≡ true
  pub some : 0 < length q.text.now

-- a number, then these
pub record IsNumberValue (bytes : List ℕ) (v : IdValue) : Type 0 where
  pub unquoted : v.quoted ≡ false
  pub is : bytes ≡ v.text.now ++ v.rest.now
  pub number : IsNumber v.text.now

-- a name in quotes, then these
pub record IsNameValue (names : Bool) (bytes : List ℕ) (v : IdValue) : Type 0 where
  pub allowed : names ≡ true
  pub quoted : v.quoted ≡ true
  pub is : bytes ≡ 34 ∷ (v.text.now ++ 34 ∷ v.rest.now)
  pub plain : all_plain v.text.now ≡ true
  pub some : 0 < length v.text.now

-- the value of `id`, then these
abbrev pub IsIdValue : (names : Bool) → List ℕ → IdValue → Type 0
IsIdValue names bytes v = IsNumberValue bytes v ⊎ IsNameValue names bytes v

-- the member `tag` with this text, then these
pub record IsTagMember (tags : Bool) (bytes : List ℕ) (v : TagValue) : Type 0 where
  pub text : List ℕ
  pub is : bytes ≡ 44 ∷ 34 ∷ 116 ∷ 97 ∷ 103 ∷ 34 ∷ 58 ∷ 34 ∷ (text ++ 34 ∷ v.rest.now)
  pub plain : all_plain text ≡ true
  pub some : 0 < length text
  pub short : length text ≤ 64
  pub tag : option_map (λ t. t.now) v.tag ≡ (if tags then Some text else None)

-- such a member, or none
abbrev pub IsTagValue : (tags : Bool) → List ℕ → TagValue → Type 0
IsTagValue tags bytes v = ((bytes ≡ v.rest.now) × (option_map (λ t. t.now) v.tag ≡ None)) ⊎ IsTagMember tags bytes v
