-- Objects of exchanges whose members come in any order.
use Rattle.std.proofs.Common.{◌≡◌, ◌≢◌, ◌∙◌, ◌≤◌, ◌<◌, ◌||◌, ◌==◌, inl, inr, ◌⊎◌, ℕ, Bool, true, false, List, [], ◌∷◌, ◌++◌, Option, Some, None, All, IfSome, codes, cond, if◌then◌else◌, not, length, option_map, option_and_then, unwrap_or, refl, sym, ap, ap₂, subst, arith, rules, append_assoc, append-nil}
use Rattle.std.specs.Borrow.{Bor}
use Rattle.std.specs.List.{list_all}
use Rattle.std.specs.Str.{IsUtf8, bytes_eq}
use Rattle.std.proofs.lemmas.Bool.{or_cases}
use Rattle.std.proofs.lemmas.Bool.Decides.{Decides-eqb}
use Rattle.std.proofs.lemmas.Slice.Eq.{bytes_eq-Decides}
use Rattle.std.proofs.lemmas.List.Elements.{All-cons, All-nil}
use Rattle.std.proofs.lemmas.List.Kept.{AllPairs-cons}
use Rattle.json.specs.Find.{get_member, later_or}
use Rattle.json.specs.Json.{Json, null, boolean, number, string, array, object, Members, no_members, member, document, if_last, max_depth, value}
use Rattle.json.specs.Lex.{Lexeme, token, colon, Place, fresh, after_value, after_comma, after_key, begins_colon, between, in_string, lex, may_begin, punctuate, string_token, tokens}
use Rattle.json.specs.Strict.{AreDistinct, HasUniqueKeys, MembersHaveUniqueKeys, keys}
use Rattle.json.specs.Text as within
use Rattle.json.specs.Token.{Token}
use Rattle.json.specs.Tree.{depth, json_tokens, members_depth, members_tokens}
use Rattle.json.specs.Word.{ends_word}
use Rattle.json.proofs.Printed.Numbers.{lex-number}
use Rattle.json.proofs.Printed.Strings.{content-escape, lex-escape}
use Rattle.json.proofs.Printed.Trees.{value-json_tokens}
use Rattle.scrib_script_reader.specs.Fields.{is_blank}
use Rattle.scrib_objects.specs.declared.exchange_members.ExchangeMembers.{ExchangeMembers}
use Rattle.scrib_objects.specs.declared.exchange_members.Member.{Member}
use Rattle.scrib_objects.specs.declared.exchange_members.MemberKey.{MemberKey}
use Rattle.scrib_objects.specs.declared.exchange_members.MemberKey.TheVariants as member_key
use Rattle.scrib_objects.specs.declared.exchange_object.ExchangeObject.{ExchangeObject}
use Rattle.scrib_objects.specs.declared.exchange_object.IdValue.{IdValue}
use Rattle.scrib_objects.specs.declared.object_options.ObjectOptions.{ObjectOptions}
use Rattle.scrib_objects.specs.ExchangeMembers.{HasMembers, IsAdded, IsMember, IsObjectEnd, IsPlainValue, IsShownTag, SkipsBlanks, SpellsMembers, StandsForExchange, key_text, text_value, value_of, value_under}
use Rattle.scrib_objects.specs.ExchangeObjects.{IsExchangeObject, IsIdValue, all_plain, is_exchange}
use Rattle.scrib_objects.specs.Objects.{as_bad, as_line, body_of, body_of_word, body_or_bad, field_under, fields_under, id_field, id_text, is_field, json_of, spaced, spelled, Spelling, string_under, tag_in, tag_of, text_field, text_of}
use Rattle.scrib_objects.proofs.ExchangeObjectLemmas.{escape_plain, plain_field, short_tag, word_of}

-- ---- the members that are read so far, the last of them first

-- their tokens, and then the rest
abbrev tokens_before : List (List ℕ × Json) → List Token → List Token
tokens_before [] rest = rest
tokens_before (m ∷ front) rest = tokens_before front (Token.key m.0 ∷ (json_tokens m.1 ++ rest))

-- they, and then these
abbrev members_before : List (List ℕ × Json) → Members → Members
members_before [] ms = ms
members_before (m ∷ front) ms = members_before front (member m.0 m.1 ms)

-- the value under the key
abbrev value_in : List ℕ → List (List ℕ × Json) → Option Json
value_in key [] = None
value_in key (m ∷ front) = cond (bytes_eq m.0 key) (Some m.1) (value_in key front)

-- each key is new
abbrev AreNew : List (List ℕ × Json) → Type 0
AreNew [] = Unit {0}
AreNew (m ∷ front) = (value_in m.0 front ≡ None) × AreNew front

abbrev ArePlain : List (List ℕ × Json) → Type 0
ArePlain [] = Unit {0}
ArePlain (m ∷ front) = IsPlainValue m.1 × ArePlain front

-- what is read of the tokens, where the rest is still to come
pub record IsReadSoFar (whole : List Token) (m : ExchangeMembers) (rest : List Token) : Type 0 where
  front : List (List ℕ × Json)
  is : whole ≡ tokens_before front rest
  values : (key : List ℕ) → value_in key front ≡ value_under m key
  new : AreNew front
  plain : ArePlain front

-- ---- one more member

-- nothing is read
pub nothing_read : (whole : List Token) (m : ExchangeMembers) → ((key : List ℕ) → value_under m key ≡ None) → IsReadSoFar whole m whole
nothing_read whole m none = record { front = []; is = refl; values = λ key. sym (none key); new = tt; plain = tt }

-- a choice by a test
chosen : (b : Bool) (j : Json) (o x : Option Json) → (b ≡ true → x ≡ Some j) → (b ≡ false → x ≡ o) → cond b (Some j) o ≡ x
chosen true j o x on_true on_false = sym (on_true refl)
chosen false j o x on_true on_false = sym (on_false refl)

one-more : (whole : List Token) (old new : ExchangeMembers) (key : List ℕ) (v : Json) (rest : List Token) → IsReadSoFar whole old (Token.key key ∷ (json_tokens v ++ rest)) → IsPlainValue v → IsAdded old key v new → IsReadSoFar whole new rest
one-more whole old new key v rest s p a = record {
  front = (key, v) ∷ s.front;
  is = s.is;
  values = λ other. chosen (bytes_eq key other) v (value_in other s.front) (value_under new other)
      (λ same. subst (λ (k : List ℕ). value_under new k ≡ Some v) ((bytes_eq-Decides key other).0 same) a.filled.1)
      (λ apart. a.kept other apart ∙ sym (s.values other));
  new = (s.values key ∙ a.filled.0, s.new);
  plain = (p, s.plain);
}

-- ---- the text of a member

blank-byte : (b : ℕ) (bs : List ℕ) → list_all is_blank (b ∷ bs) ≡ true → (b ≡ 32) ⊎ (b ≡ 9)
blank-byte b bs h =
    let first : is_blank b ≡ true = search rules in
    elim (or_cases (b == 32) (b == 9) first) [ inl e ↦ inl ((Decides-eqb b 32).0 e) | inr e ↦ inr ((Decides-eqb b 9).0 e) ]

blank-rest : (b : ℕ) (bs : List ℕ) → list_all is_blank (b ∷ bs) ≡ true → list_all is_blank bs ≡ true
blank-rest b bs h = search rules

lex-first : (b : ℕ) (r : List ℕ) → (b ≡ 32) ⊎ (b ≡ 9) → lex between (b ∷ r) ≡ lex between r
unfolding lex
lex-first b r (inl e) = subst (λ (x : ℕ). lex between (x ∷ r) ≡ lex between r) (sym e) refl
lex-first b r (inr e) = subst (λ (x : ℕ). lex between (x ∷ r) ≡ lex between r) (sym e) refl

lex-blanks : (g r : List ℕ) → list_all is_blank g ≡ true → lex between (g ++ r) ≡ lex between r
lex-blanks [] r h = refl
lex-blanks (b ∷ g) r h = lex-first b (g ++ r) (blank-byte b g h) ∙ lex-blanks g r (blank-rest b g h)

skips-lex : (bytes rest : List ℕ) → SkipsBlanks bytes rest → lex between bytes ≡ lex between rest
skips-lex bytes rest s = ap (λ (l : List ℕ). lex between l) s.is ∙ lex-blanks s.blanks rest s.blank

blank-ends : (b : ℕ) (r : List ℕ) → (b ≡ 32) ⊎ (b ≡ 9) → ends_word (b ∷ r) ≡ true
blank-ends b r (inl e) = subst (λ (x : ℕ). ends_word (x ∷ r) ≡ true) (sym e) refl
blank-ends b r (inr e) = subst (λ (x : ℕ). ends_word (x ∷ r) ≡ true) (sym e) refl

blanks-end : (g r : List ℕ) → list_all is_blank g ≡ true → ends_word r ≡ true → ends_word (g ++ r) ≡ true
blanks-end [] r h e = e
blanks-end (b ∷ g) r h e = blank-ends b (g ++ r) (blank-byte b g h)

skips-end : (bytes rest : List ℕ) → SkipsBlanks bytes rest → ends_word rest ≡ true → ends_word bytes ≡ true
skips-end bytes rest s e = subst (λ (l : List ℕ). ends_word l ≡ true) (sym s.is) (blanks-end s.blanks rest s.blank e)

lex-quoted : (s r : List ℕ) → all_plain s ≡ true → lex between (34 ∷ (s ++ 34 ∷ r)) ≡ token (Token.string s) ∷ lex between r
unfolding lex
lex-quoted s r h =
    ap₂ (λ (o : Option (List ℕ)) (l : List Lexeme). token (string_token o) ∷ l)
    (subst (λ (x : List ℕ). within.content within.plain (x ++ 34 ∷ r) ≡ Some s) (escape_plain s h) (content-escape s r))
    (subst (λ (x : List ℕ). lex in_string (x ++ 34 ∷ r) ≡ lex between r) (escape_plain s h) (lex-escape s r))

plain-key : (k : MemberKey) → all_plain (key_text k) ≡ true
plain-key member_key.Do = refl
plain-key member_key.From = refl
plain-key member_key.Id = refl
plain-key member_key.Message = refl
plain-key member_key.Tag = refl
plain-key member_key.To = refl

lex-colon : (r : List ℕ) → lex between (58 ∷ r) ≡ colon ∷ lex between r
unfolding lex
lex-colon r = refl

-- what may be behind a value
record EndsValue (r : List ℕ) : Type 0 where
  word : ends_word r ≡ true
  no_colon : begins_colon (lex between r) ≡ false

comma-ends : (r : List ℕ) → EndsValue (44 ∷ r)
unfolding lex
comma-ends r = record { word = refl; no_colon = refl }

brace-ends : (r : List ℕ) → EndsValue (125 ∷ r)
unfolding lex
brace-ends r = record { word = refl; no_colon = refl }

skips-ends : (bytes rest : List ℕ) → SkipsBlanks bytes rest → EndsValue rest → EndsValue bytes
skips-ends bytes rest s e = record {
  word = skips-end bytes rest s e.word;
  no_colon = ap begins_colon (skips-lex bytes rest s) ∙ e.no_colon;
}

punctuate-key : (p : Place) (k : List ℕ) (ls : List Lexeme) → may_begin p ≡ true → punctuate p (token (Token.string k) ∷ colon ∷ ls) ≡ Token.key k ∷ punctuate fresh ls
unfolding punctuate
punctuate-key fresh k ls h = refl
punctuate-key after_value k ls h = absurd (cc)
punctuate-key after_comma k ls h = refl
punctuate-key after_key k ls h = absurd (cc)

punctuate-string : (s : List ℕ) (ls : List Lexeme) → begins_colon ls ≡ false → punctuate fresh (token (Token.string s) ∷ ls) ≡ Token.string s ∷ punctuate after_value ls
unfolding punctuate
punctuate-string s ls h = rw h refl

punctuate-number : (s : List ℕ) (ls : List Lexeme) → punctuate fresh (token (Token.number s) ∷ ls) ≡ Token.number s ∷ punctuate after_value ls
unfolding punctuate
punctuate-number s ls = refl

value-tokens : (text : List ℕ) (v : IdValue) → IsIdValue true text v → EndsValue v.rest.now → punctuate fresh (lex between text) ≡ json_tokens (value_of v) ++ punctuate after_value (lex between v.rest.now)
value-tokens text v (inl n) e =
    ap (λ (l : List ℕ). punctuate fresh (lex between l)) n.is
    ∙ ap (punctuate fresh) (lex-number v.text.now v.rest.now n.number e.word)
    ∙ punctuate-number v.text.now (lex between v.rest.now)
    ∙ subst (λ (b : Bool). Token.number v.text.now ∷ punctuate after_value (lex between v.rest.now) ≡ json_tokens (if b then string v.text.now else number v.text.now) ++ punctuate after_value (lex between v.rest.now)) (sym n.unquoted) refl
value-tokens text v (inr n) e =
    ap (λ (l : List ℕ). punctuate fresh (lex between l)) n.is
    ∙ ap (punctuate fresh) (lex-quoted v.text.now v.rest.now n.plain)
    ∙ punctuate-string v.text.now (lex between v.rest.now) e.no_colon
    ∙ subst (λ (b : Bool). Token.string v.text.now ∷ punctuate after_value (lex between v.rest.now) ≡ json_tokens (if b then string v.text.now else number v.text.now) ++ punctuate after_value (lex between v.rest.now)) (sym n.quoted) refl

plain-value : (text : List ℕ) (v : IdValue) → IsIdValue true text v → IsPlainValue (value_of v)
plain-value text v (inl n) = subst (λ (b : Bool). IsPlainValue (if b then string v.text.now else number v.text.now)) (sym n.unquoted) tt
plain-value text v (inr n) = subst (λ (b : Bool). IsPlainValue (if b then string v.text.now else number v.text.now)) (sym n.quoted) (n.plain, n.some)

member-tokens : (p : Place) (bytes : List ℕ) (m : Member) (behind : List ℕ) → may_begin p ≡ true → IsMember bytes m → SkipsBlanks m.value.rest.now behind → EndsValue behind
    → punctuate p (lex between bytes) ≡ Token.key (key_text m.key) ∷ (json_tokens (value_of m.value) ++ punctuate after_value (lex between behind))
member-tokens p bytes m behind begins h skips ends =
    let key = key_text m.key in
    let named : lex between bytes ≡ token (Token.string key) ∷ colon ∷ lex between h.value_text =
    skips-lex bytes (34 ∷ (key ++ 34 ∷ h.behind_key)) h.key
    ∙ lex-quoted key h.behind_key (plain-key m.key)
    ∙ ap (λ (l : List Lexeme). token (Token.string key) ∷ l)
    (skips-lex h.behind_key (58 ∷ h.behind_colon) h.colon ∙ lex-colon h.behind_colon ∙ ap (λ (l : List Lexeme). colon ∷ l) (skips-lex h.behind_colon h.value_text h.value)) in
    ap (punctuate p) named
    ∙ punctuate-key p key (lex between h.value_text) begins
    ∙ ap (λ (l : List Token). Token.key key ∷ l)
    (value-tokens h.value_text m.value h.is (skips-ends m.value.rest.now behind skips ends)
    ∙ ap (λ (l : List Lexeme). json_tokens (value_of m.value) ++ punctuate after_value l) (skips-lex m.value.rest.now behind skips))

-- ---- from member to member

-- the members in front of a text are read
pub record AreReadTo (whole : List Token) (m : ExchangeMembers) (text : List ℕ) : Type 0 where
  place : Place
  begins : may_begin place ≡ true
  read : IsReadSoFar whole m (punctuate place (lex between text))

pub none_read : (text : List ℕ) (m : ExchangeMembers) → ((key : List ℕ) → value_under m key ≡ None) → AreReadTo (punctuate fresh (lex between text)) m text
none_read text m none = record { place = fresh; begins = refl; read = nothing_read (punctuate fresh (lex between text)) m none }

read-member : (whole : List Token) (old new : ExchangeMembers) (bytes : List ℕ) (m : Member) (behind : List ℕ) → AreReadTo whole old bytes → IsMember bytes m → IsAdded old (key_text m.key) (value_of m.value) new → SkipsBlanks m.value.rest.now behind → EndsValue behind
    → IsReadSoFar whole new (punctuate after_value (lex between behind))
read-member whole old new bytes m behind r h a skips ends =
    let is = member-tokens r.place bytes m behind r.begins h skips ends in
    one-more whole old new (key_text m.key) (value_of m.value) (punctuate after_value (lex between behind))
    (subst (λ (l : List Token). IsReadSoFar whole old l) is r.read) (plain-value h.value_text m.value h.is) a

after-comma : (r : List ℕ) → punctuate after_value (lex between (44 ∷ r)) ≡ punctuate after_comma (lex between r)
unfolding lex punctuate
after-comma r = refl

after-brace : (r : List ℕ) → punctuate after_value (lex between (125 ∷ r)) ≡ Token.end_object ∷ punctuate after_value (lex between r)
unfolding lex punctuate
after-brace r = refl

nothing-left : punctuate after_value (lex between []) ≡ []
unfolding lex punctuate
nothing-left = refl

-- one more member, and a comma
pub next_read : (whole : List Token) (old new : ExchangeMembers) (bytes : List ℕ) (m : Member) (behind next : List ℕ) → AreReadTo whole old bytes → IsMember bytes m → IsAdded old (key_text m.key) (value_of m.value) new → SkipsBlanks m.value.rest.now behind → behind ≡ 44 ∷ next
    → AreReadTo whole new next
next_read whole old new bytes m behind next r h a skips is =
    let here = subst (λ (l : List ℕ). SkipsBlanks m.value.rest.now l) is skips in
    let read = read-member whole old new bytes m (44 ∷ next) r h a here (comma-ends next) in
    record { place = after_comma; begins = refl; read = subst (λ (l : List Token). IsReadSoFar whole new l) (after-comma next) read }

-- the last member, and the end of the object
last-read : (whole : List Token) (old new : ExchangeMembers) (bytes : List ℕ) (m : Member) (behind : List ℕ) → AreReadTo whole old bytes → IsMember bytes m → IsAdded old (key_text m.key) (value_of m.value) new → SkipsBlanks m.value.rest.now behind → IsObjectEnd behind
    → IsReadSoFar whole new (Token.end_object ∷ [])
last-read whole old new bytes m behind r h a skips (rest, is, blanks) =
    let here = subst (λ (l : List ℕ). SkipsBlanks m.value.rest.now l) is skips in
    let read = read-member whole old new bytes m (125 ∷ rest) r h a here (brace-ends rest) in
    let ended = after-brace rest ∙ ap (λ (l : List Lexeme). Token.end_object ∷ punctuate after_value l) (skips-lex rest [] blanks) ∙ ap (λ (l : List Token). Token.end_object ∷ l) nothing-left in
    subst (λ (l : List Token). IsReadSoFar whole new l) ended read

-- ---- all members

tokens-are : (front : List (List ℕ × Json)) (ms : Members) (rest : List Token) → tokens_before front (members_tokens ms ++ rest) ≡ members_tokens (members_before front ms) ++ rest
tokens-are [] ms rest = refl
tokens-are (m ∷ front) ms rest =
    ap (λ (ts : List Token). tokens_before front (Token.key m.0 ∷ ts)) (sym (append_assoc (json_tokens m.1) (members_tokens ms) rest))
    ∙ tokens-are front (member m.0 m.1 ms) rest

later-none : (o : Option Json) → o ≡ later_or o None
later-none None = refl
later-none (Some j) = refl

regroup : (o : Option Json) (b : Bool) (j : Json) (earlier : Option Json) → later_or (later_or o (cond b (Some j) None)) earlier ≡ later_or o (cond b (Some j) earlier)
regroup None true j earlier = refl
regroup None false j earlier = refl
regroup (Some x) b j earlier = refl

values-are : (key : List ℕ) (front : List (List ℕ × Json)) (ms : Members) → get_member key (members_before front ms) ≡ later_or (get_member key ms) (value_in key front)
values-are key [] ms = later-none (get_member key ms)
values-are key (m ∷ front) ms =
    values-are key front (member m.0 m.1 ms) ∙ regroup (get_member key ms) (bytes_eq m.0 key) m.1 (value_in key front)

-- no key of the members is among those in front of them
abbrev AreNewTo : List (List ℕ × Json) → Members → Type 0
AreNewTo front no_members = Unit {0}
AreNewTo front (member k j ms) = (value_in k front ≡ None) × AreNewTo front ms

not-chosen : (b : Bool) (j : Json) (o : Option Json) → cond b (Some j) o ≡ None → (b ≡ false) × (o ≡ None)
not-chosen true j o e = absurd (cc)
not-chosen false j o e = (refl, e)

new-to-fewer : (m : List ℕ × Json) (front : List (List ℕ × Json)) (ms : Members) → AreNewTo (m ∷ front) ms → AreNewTo front ms
new-to-fewer m front no_members h = tt
new-to-fewer m front (member k j ms) h = ((not-chosen (bytes_eq m.0 k) m.1 (value_in k front) h.0).1, new-to-fewer m front ms h.1)

key-apart : (a b : List ℕ) → bytes_eq a b ≡ false → a ≢ b
key-apart a b h e =
    let same : bytes_eq a b ≡ true = (bytes_eq-Decides a b).1 e in
    absurd (cc)

keys-apart : (m : List ℕ × Json) (front : List (List ℕ × Json)) (ms : Members) → AreNewTo (m ∷ front) ms → All (λ (b : List ℕ). m.0 ≢ b) (keys ms)
keys-apart m front no_members h = All-nil (λ (b : List ℕ). m.0 ≢ b)
keys-apart m front (member k j ms) h =
    All-cons (λ (b : List ℕ). m.0 ≢ b) k (keys ms) (key-apart m.0 k (not-chosen (bytes_eq m.0 k) m.1 (value_in k front) h.0).0) (keys-apart m front ms h.1)

distinct-keys : (front : List (List ℕ × Json)) (ms : Members) → AreNew front → AreNewTo front ms → AreDistinct (keys ms) → AreDistinct (keys (members_before front ms))
distinct-keys [] ms new to distinct = distinct
distinct-keys (m ∷ front) ms new to distinct =
    distinct-keys front (member m.0 m.1 ms) new.1 (new.0, new-to-fewer m front ms to)
    (AllPairs-cons (λ (a b : List ℕ). a ≢ b) m.0 (keys ms) (keys-apart m front ms to) distinct)

none-apart : AreDistinct []
none-apart i j d lt within = absurd (omega (arith, within))

unique-value : (j : Json) → IsPlainValue j → HasUniqueKeys j
unique-value null p = absurd p
unique-value (boolean b) p = absurd p
unique-value (number s) p = tt
unique-value (string s) p = tt
unique-value (array js) p = absurd p
unique-value (object ms) p = absurd p

flat-value : (j : Json) → IsPlainValue j → depth j ≡ 0
flat-value null p = absurd p
flat-value (boolean b) p = absurd p
flat-value (number s) p = refl
flat-value (string s) p = refl
flat-value (array js) p = absurd p
flat-value (object ms) p = absurd p

unique-values : (front : List (List ℕ × Json)) (ms : Members) → ArePlain front → MembersHaveUniqueKeys ms → MembersHaveUniqueKeys (members_before front ms)
unique-values [] ms plain unique = unique
unique-values (m ∷ front) ms plain unique = unique-values front (member m.0 m.1 ms) plain.1 (unique-value m.1 plain.0, unique)

flat-members : (front : List (List ℕ × Json)) (ms : Members) → ArePlain front → members_depth ms ≤ 0 → members_depth (members_before front ms) ≤ 0
flat-members [] ms plain h = h
flat-members (m ∷ front) ms plain h =
    let here : depth m.1 ≡ 0 = flat-value m.1 plain.0 in
    flat-members front (member m.0 m.1 ms) plain.1 (omega arith)

plain-values : (key : List ℕ) (front : List (List ℕ × Json)) → ArePlain front → IfSome (value_in key front) IsPlainValue
plain-values key [] plain = tt
plain-values key (m ∷ front) plain = either (bytes_eq m.0 key) (plain-values key front plain.1)
  where
    either : (b : Bool) → IfSome (value_in key front) IsPlainValue → IfSome (cond b (Some m.1) (value_in key front)) IsPlainValue
    either true rest = plain.0
    either false rest = rest

has-members : (whole : List Token) (m : ExchangeMembers) → IsReadSoFar whole m (Token.end_object ∷ []) → (ms : Members) × (whole ≡ members_tokens ms) × HasMembers (object ms) m
has-members whole m s =
    let ms = members_before s.front no_members in
    let shallow : members_depth (members_before s.front no_members) ≤ 0 = flat-members s.front no_members s.plain (omega arith) in (
      ms,
      s.is ∙ tokens-are s.front no_members [] ∙ append-nil (members_tokens ms),
      record {
        values = λ key. values-are key s.front no_members ∙ s.values key;
        plain = λ key. subst (λ (o : Option Json). IfSome o IsPlainValue) (s.values key) (plain-values key s.front s.plain);
        unique = (distinct-keys s.front no_members s.new tt none-apart, unique-values s.front no_members s.plain tt);
        shallow = omega arith;
      },
    )

after-open : (r : List ℕ) → punctuate fresh (lex between (123 ∷ r)) ≡ Token.begin_object ∷ punctuate fresh (lex between r)
unfolding lex punctuate
after-open r = refl

-- all members of an object are read
pub all_read : (line start behind : List ℕ) (old new : ExchangeMembers) (bytes : List ℕ) (m : Member) (inside : List ℕ) → SkipsBlanks line start → start ≡ 123 ∷ inside → AreReadTo (punctuate fresh (lex between inside)) old bytes → IsMember bytes m
    → IsAdded old (key_text m.key) (value_of m.value) new → SkipsBlanks m.value.rest.now behind → IsObjectEnd behind → SpellsMembers line new
all_read line start behind old new bytes m inside skips is r h a blanks ended =
    let has = has-members (punctuate fresh (lex between inside)) new (last-read (punctuate fresh (lex between inside)) old new bytes m behind r h a blanks ended) in (
      object has.0,
      ap (punctuate fresh) (skips-lex line start skips)
          ∙ ap (λ (l : List ℕ). punctuate fresh (lex between l)) is
          ∙ after-open inside
          ∙ ap (λ (l : List Token). Token.begin_object ∷ l) has.1,
      has.2,
    )

-- ---- what the object stands for

-- the text of these tokens is the value
pub document_of : (text : List ℕ) (j : Json) → tokens text ≡ json_tokens j → depth j ≤ max_depth → document text ≡ Some j
document_of text j is shallow =
    ap (λ (r : Option (Json × List Token)). option_and_then (λ p. if_last p.0 p.1) r)
    (ap (value max_depth) (is ∙ sym (append-nil (json_tokens j))) ∙ value-json_tokens j max_depth [] shallow)

one-field : (names : Bool) (j : Json) (key : List ℕ) (others : List (List ℕ)) (f : List ℕ) (fs : List (List ℕ)) → field_under names j key ≡ Some f → fields_under names j others ≡ Some fs → fields_under names j (key ∷ others) ≡ Some (f ∷ fs)
one-field names j key others f fs h hs =
    ap (λ (x : Option (List ℕ)). option_and_then (λ y. option_map (λ ys. y ∷ ys) (fields_under names j others)) x) h
    ∙ ap (λ (x : Option (List (List ℕ))). option_map (λ ys. f ∷ ys) x) hs

-- the members of an exchange
pub record HasFields (names : Bool) (j : Json) (i f t m : List ℕ) : Type 0 where
  pub id : id_text names j ≡ Some i
  pub from : text_of (codes "from") j ≡ Some f
  pub to : text_of (codes "to") j ≡ Some t
  pub message : text_of (codes "message") j ≡ Some m
  pub json : json_of j ≡ Some false

four-fields : (names : Bool) (j : Json) (i f t m : List ℕ) → HasFields names j i f t m → fields_under names j (codes "id" ∷ codes "from" ∷ codes "to" ∷ codes "message" ∷ []) ≡ Some (i ∷ f ∷ t ∷ m ∷ [])
four-fields names j i f t m h =
    one-field names j (codes "id") (codes "from" ∷ codes "to" ∷ codes "message" ∷ []) i (f ∷ t ∷ m ∷ []) h.id
    (one-field names j (codes "from") (codes "to" ∷ codes "message" ∷ []) f (t ∷ m ∷ []) h.from
    (one-field names j (codes "to") (codes "message" ∷ []) t (m ∷ []) h.to
    (one-field names j (codes "message") [] m [] h.message refl)))

-- the body of an object, by its word and its flag
body-by : (names : Bool) (j : Json) (w : List ℕ) (b : Option Spelling) → string_under (codes "do") j ≡ Some w → json_of j ≡ Some false → body_of_word names false w j ≡ b → body_of names j ≡ b
body-by names j w b word flag is =
    ap (λ (x : Option (List ℕ)). option_and_then (λ y. option_and_then (λ z. body_of_word names z y j) (json_of j)) x) word
    ∙ ap (λ (x : Option Bool). option_and_then (λ z. body_of_word names z w j) x) flag
    ∙ is

line-by : (w : List ℕ) (fs : Option (List (List ℕ))) (i f t m : List ℕ) → fs ≡ Some (i ∷ f ∷ t ∷ m ∷ []) → option_map as_line (option_map (λ (xs : List (List ℕ)). spaced (w ∷ xs)) fs) ≡ Some (as_line (spaced (w ∷ i ∷ f ∷ t ∷ m ∷ [])))
line-by w fs i f t m e = ap (λ (x : Option (List (List ℕ))). option_map as_line (option_map (λ (xs : List (List ℕ)). spaced (w ∷ xs)) x)) e

word-body : (names : Bool) (j : Json) (w i f t m : List ℕ) → (w ≡ codes "send") ⊎ (w ≡ codes "recv") → HasFields names j i f t m → body_of_word names false w j ≡ Some (as_line (spaced (w ∷ i ∷ f ∷ t ∷ m ∷ [])))
word-body names j w i f t m (inl e) h =
    subst (λ (x : List ℕ). body_of_word names false x j ≡ Some (as_line (spaced (x ∷ i ∷ f ∷ t ∷ m ∷ [])))) (sym e)
    (line-by (codes "send") (fields_under names j (codes "id" ∷ codes "from" ∷ codes "to" ∷ codes "message" ∷ [])) i f t m (four-fields names j i f t m h))
word-body names j w i f t m (inr e) h =
    subst (λ (x : List ℕ). body_of_word names false x j ≡ Some (as_line (spaced (x ∷ i ∷ f ∷ t ∷ m ∷ [])))) (sym e)
    (line-by (codes "recv") (fields_under names j (codes "id" ∷ codes "from" ∷ codes "to" ∷ codes "message" ∷ [])) i f t m (four-fields names j i f t m h))

-- an object with the members of an exchange stands for its line, with its tag
pub spelled_exchange : (o : ObjectOptions) (j : Json) (w i f t m : List ℕ) (shown : Option (List ℕ)) → string_under (codes "do") j ≡ Some w → is_exchange w ≡ true → HasFields o.names j i f t m → tag_of o.tags j ≡ Some shown
    → spelled o j ≡ Some (record { tag = shown; body = as_line (spaced (w ∷ i ∷ f ∷ t ∷ m ∷ [])) })
spelled_exchange o j w i f t m shown word exchange fields tag =
    let body : body_or_bad o.names j ≡ as_line (spaced (w ∷ i ∷ f ∷ t ∷ m ∷ [])) =
    ap (λ (b : Option Spelling). unwrap_or b as_bad)
    (body-by o.names j w (Some (as_line (spaced (w ∷ i ∷ f ∷ t ∷ m ∷ [])))) word fields.json (word-body o.names j w i f t m (word_of w exchange) fields)) in
    ap (λ (x : Option (Option (List ℕ))). option_map (λ (g : Option (List ℕ)). record { tag = g; body = body_or_bad o.names j }) x) tag
    ∙ ap (λ (b : Spelling). Some (record { tag = shown; body = b })) body

-- ---- the fields and the tag

pub text_field_of : (text : Option (Bor (List ℕ))) (f : Bor (List ℕ)) → IfSome (option_map text_value text) IsPlainValue → text ≡ Some f → option_and_then text_field (option_map text_value text) ≡ Some f.now
text_field_of text f p is =
    let here : (all_plain f.now ≡ true) × (0 < length f.now) = subst (λ (t : Option (Bor (List ℕ))). IfSome (option_map text_value t) IsPlainValue) is p in
    ap (λ (t : Option (Bor (List ℕ))). option_and_then text_field (option_map text_value t)) is ∙ field (plain_field f.now here.0 here.1)
  where
    field : is_field f.now ≡ true → text_field (string f.now) ≡ Some f.now
    field h = rw h refl

id-value : (names : Bool) (v : IdValue) (b : Bool) → b ≡ v.quoted → IsPlainValue (if b then string v.text.now else number v.text.now) → not b || names ≡ true → id_field names (if b then string v.text.now else number v.text.now) ≡ Some v.text.now
id-value names v false is p h = refl
id-value true v true is p h = rw (plain_field v.text.now p.0 p.1) refl
id-value false v true is p h = absurd (cc)

pub id_field_of : (names : Bool) (id : Option IdValue) (v : IdValue) → IfSome (option_map value_of id) IsPlainValue → id ≡ Some v → not v.quoted || names ≡ true → option_and_then (id_field names) (option_map value_of id) ≡ Some v.text.now
id_field_of names id v p is h =
    let here : IsPlainValue (value_of v) = subst (λ (t : Option IdValue). IfSome (option_map value_of t) IsPlainValue) is p in
    ap (λ (t : Option IdValue). option_and_then (id_field names) (option_map value_of t)) is ∙ id-value names v v.quoted refl here h

tag-text : (t s : List ℕ) → IsPlainValue (string t) → s ≡ t → length s ≤ 64 → tag_in (Some (string t)) ≡ Some (Some s)
tag-text t s p e short =
    let few : length t ≤ 64 = subst (λ (l : List ℕ). length l ≤ 64) e short in
    rw (short_tag t p.0 p.1 few) (ap (λ (l : List ℕ). Some (Some l)) (sym e))

pub tag_shown : (tags : Bool) (text shown : Option (Bor (List ℕ))) → IfSome (option_map text_value text) IsPlainValue → IsShownTag tags text shown → (if tags then tag_in (option_map text_value text) else Some None) ≡ Some (option_map (λ t. t.now) shown)
tag_shown false text shown p h = ap Some (sym h.0)
tag_shown true None shown p h = ap Some (sym h.0)
tag_shown true (Some t) None p h = absurd (cc h.0)
tag_shown true (Some t) (Some s) p h =
    let same : s.now ≡ t.now = cc h.0 in
    tag-text t.now s.now p same h.1

-- a line that spells such members stands for the exchange
pub object_line : (o : ObjectOptions) (line : List ℕ) (m : ExchangeMembers) (e : ExchangeObject) → IsUtf8 line → SpellsMembers line m → StandsForExchange o m e → IsExchangeObject o line e
object_line o line m e utf8 (j, is, has) stands = (utf8, (j, document_of line j is has.shallow, has.unique, stands j has))
