-- No object stands for the line of a put.
use Rattle.std.specs.Prelude.{if◌then◌else◌, option_and_then, unwrap_or}
use Rattle.std.proofs.Common.{◌≡◌, ◌∙◌, ◌⊎◌, ℕ, Bool, true, false, List, [], ◌∷◌, ◌++◌, Option, Some, None, option_map, codes, rules, refl, sym, ap, subst, inl, inr, arith}
use Rattle.std.specs.Fmt.{decimal}
use Rattle.std.specs.Str.{bytes_eq}
use Rattle.std.proofs.lemmas.Bool.{cases_Bool}
use Rattle.std.proofs.lemmas.List.{append-nil}
use Rattle.std.proofs.lemmas.Slice.Eq.{bytes_eq-Decides}
use Rattle.json.specs.Json.{Json}
use Rattle.scrib_core.specs.declared.format.Format.{Format}
use Rattle.scrib_core.specs.declared.format.Format.TheVariants as format
use Rattle.scrib_script_reader.specs.declared.entry.Entry.TheVariants as entry
use Rattle.scrib_script_reader.specs.declared.item.Item.TheVariants as item
use Rattle.scrib_script_reader.specs.declared.line.Line.TheVariants as line
use Rattle.scrib_script_reader.specs.Fields.{fields}
use Rattle.scrib_script_reader.specs.Says.{Puts, Says}
use Rattle.scrib_script_reader.proofs.Heads.{NoBlank, apart, first-field-cut, head-of-fields}
use Rattle.scrib_labels.specs.SessionLines.{id_field, json_field}
use Rattle.scrib_objects.specs.Objects.{IsObjectLine, Spelled, Spelling, as_bad, as_line, as_put, body_of, body_of_word, body_or_bad, fields_under, format_of, json_of, keys_of, line_of, put_of, spaced, spelled, string_under, tag_of}
use Rattle.scrib_types.specs.Texts.{after_each}
use Rattle.scrib_labelled.specs.declared.label_options.LabelOptions.{LabelOptions}
use Rattle.scrib_labelled.specs.LabelledLines.{IsLineOf, IsNumbered, IsNumberedBy, IsObjectBody, IsObjectOf, LineLabel, StandsFor, object_options}
use Rattle.scrib_labelled.specs.LabelledScripts.{SaysAs}
use Rattle.scrib_labelled.proofs.LineLemmas.{put_no_session}
use Rattle.scrib_hold_lines.proofs.FirstLines.{put_apart}

-- ---- words of objects

-- a word without blanks, which is neither `put` nor `json`
record IsOther (w : List ℕ) : Type 0 where
  first : ℕ
  rest : List ℕ
  is : w ≡ first ∷ rest
  no_blank : NoBlank (first ∷ rest)
  alone : fields w ≡ w ∷ []
  no_put : bytes_eq w (codes "put") ≡ false
  no_json : bytes_eq w (codes "json") ≡ false

withdraw-other : IsOther (codes "withdraw")
unfolding fields
withdraw-other = record { first = 119; rest = codes "ithdraw"; is = refl; no_blank = search rules; alone = refl; no_put = refl; no_json = refl }

profile-other : IsOther (codes "profile")
unfolding fields
profile-other = record { first = 112; rest = codes "rofile"; is = refl; no_blank = search rules; alone = refl; no_put = refl; no_json = refl }

open-other : IsOther (codes "open")
unfolding fields
open-other = record { first = 111; rest = codes "pen"; is = refl; no_blank = search rules; alone = refl; no_put = refl; no_json = refl }

join-other : IsOther (codes "join")
unfolding fields
join-other = record { first = 106; rest = codes "oin"; is = refl; no_blank = search rules; alone = refl; no_put = refl; no_json = refl }

send-other : IsOther (codes "send")
unfolding fields
send-other = record { first = 115; rest = codes "end"; is = refl; no_blank = search rules; alone = refl; no_put = refl; no_json = refl }

recv-other : IsOther (codes "recv")
unfolding fields
recv-other = record { first = 114; rest = codes "ecv"; is = refl; no_blank = search rules; alone = refl; no_put = refl; no_json = refl }

turn-other : IsOther (codes "turn")
unfolding fields
turn-other = record { first = 116; rest = codes "urn"; is = refl; no_blank = search rules; alone = refl; no_put = refl; no_json = refl }

ask-other : IsOther (codes "ask")
unfolding fields
ask-other = record { first = 97; rest = codes "sk"; is = refl; no_blank = search rules; alone = refl; no_put = refl; no_json = refl }

close-other : IsOther (codes "close")
unfolding fields
close-other = record { first = 99; rest = codes "lose"; is = refl; no_blank = search rules; alone = refl; no_put = refl; no_json = refl }

sweep-other : IsOther (codes "sweep")
unfolding fields
sweep-other = record { first = 115; rest = codes "weep"; is = refl; no_blank = search rules; alone = refl; no_put = refl; no_json = refl }

-- the word is this one, or one of the rest
word-or : (word w : List ℕ) (ks : List (List ℕ)) (rest : Option (List (List ℕ))) (keys : List (List ℕ)) → IsOther w → (if bytes_eq word w then Some ks else rest) ≡ Some keys → (rest ≡ Some keys → IsOther word) → IsOther word
word-or word w ks rest keys other h more = elim (cases_Bool (bytes_eq word w)) [
  | inl same ↦ subst IsOther (sym ((bytes_eq-Decides word w).0 same)) other
  | inr differs ↦ more (sym (ap (λ (b : Bool). if b then Some ks else rest) differs) ∙ h)
]

no-keys : (word : List ℕ) (keys : List (List ℕ)) → None ≡ Some keys → IsOther word
no-keys word keys e = absurd (cc)

keys-known : (word : List ℕ) (keys : List (List ℕ)) → keys_of word ≡ Some keys → IsOther word
keys-known word keys h =
    word-or word (codes "withdraw") (codes "module" ∷ []) _ keys withdraw-other h (λ h.
    word-or word (codes "profile") (codes "profile" ∷ []) _ keys profile-other h (λ h.
    word-or word (codes "open") (codes "id" ∷ codes "protocol" ∷ []) _ keys open-other h (λ h.
    word-or word (codes "join") (codes "id" ∷ codes "role" ∷ []) _ keys join-other h (λ h.
    word-or word (codes "send") (codes "id" ∷ codes "from" ∷ codes "to" ∷ codes "message" ∷ []) _ keys send-other h (λ h.
    word-or word (codes "recv") (codes "id" ∷ codes "from" ∷ codes "to" ∷ codes "message" ∷ []) _ keys recv-other h (λ h.
    word-or word (codes "turn") (codes "id" ∷ []) _ keys turn-other h (λ h.
    word-or word (codes "ask") (codes "id" ∷ []) _ keys ask-other h (λ h.
    word-or word (codes "close") (codes "id" ∷ []) _ keys close-other h (λ h.
    word-or word (codes "sweep") [] None keys sweep-other h (λ h.
    no-keys word keys h))))))))))

-- ---- the line of such an object is no put

other-first : (w more : List ℕ) → IsOther w → fields (w ++ 32 ∷ more) ≡ w ∷ fields more
other-first w more k = ap (λ (x : List ℕ). fields (x ++ 32 ∷ more)) k.is ∙ first-field-cut k.first k.rest more k.no_blank ∙ ap (λ (x : List ℕ). x ∷ fields more) (sym k.is)

json-first : (more : List ℕ) → fields (codes "json" ++ 32 ∷ more) ≡ codes "json" ∷ fields more
json-first more = first-field-cut 106 (codes "son") more (search rules)

-- the fields of the word with others behind it
word-fields : (w : List ℕ) (fs : List (List ℕ)) → IsOther w → (more : List (List ℕ)) × (fields (w ++ after_each 32 fs) ≡ w ∷ more)
word-fields w [] k = ([], ap fields (append-nil w) ∙ k.alone)
word-fields w (field ∷ fs) k = (fields (field ++ after_each 32 fs), other-first w (field ++ after_each 32 fs) k)

same-tail : (x : List ℕ) (xs ys : List (List ℕ)) → x ∷ xs ≡ x ∷ ys → xs ≡ ys
same-tail x xs ys e = cc

other-puts : (w : List ℕ) (more : List (List ℕ)) (f : Format) → IsOther w → Puts (w ∷ more) f → ⊥
other-puts w more format.Json k h = apart w (codes "json") k.no_json (head-of-fields w (codes "json") more h.0 h.1)
other-puts w more format.Line k h = apart w (codes "put") k.no_put (head-of-fields w (codes "put") more [] (sym h.1.0 ∙ h.2))

json-puts : (w : List ℕ) (more : List (List ℕ)) (f : Format) → IsOther w → Puts (codes "json" ∷ w ∷ more) f → ⊥
json-puts w more format.Json k h = apart w (codes "put") k.no_put (head-of-fields w (codes "put") more [] (same-tail (codes "json") (w ∷ more) h.0 h.1 ∙ h.2))
json-puts w more format.Line k h = h.1.1 (w ∷ more) refl

spaced-puts : (json : Bool) (w : List ℕ) (fs : List (List ℕ)) (f : Format) → IsOther w → Puts (fields (spaced (json_field json ++ w ∷ fs))) f → ⊥
spaced-puts false w fs f k h = let p = word-fields w fs k in other-puts w p.0 f k (subst (λ (x : List (List ℕ)). Puts x f) p.1 h)
spaced-puts true w fs f k h =
    let p = word-fields w fs k in
    json-puts w p.0 f k (subst (λ (x : List (List ℕ)). Puts x f) (json-first (w ++ after_each 32 fs) ∙ ap (λ (x : List (List ℕ)). codes "json" ∷ x) p.1) h)

-- ---- what an object stands for

under-puts : (json : Bool) (word : List ℕ) (found : Option (List (List ℕ))) (bytes : List ℕ) (f : Format) → IsOther word → option_map (λ fs. spaced (json_field json ++ word ∷ fs)) found ≡ Some bytes → Puts (fields bytes) f → ⊥
under-puts json word None bytes f k e h = absurd (cc)
under-puts json word (Some fs) bytes f k e h = spaced-puts json word fs f k (subst (λ (x : List ℕ). Puts (fields x) f) (sym (some-bytes (spaced (json_field json ++ word ∷ fs)) bytes e)) h)
  where
    some-bytes : (a b : List ℕ) → Some a ≡ Some b → a ≡ b
    some-bytes a b e = cc

line-puts : (names json : Bool) (word : List ℕ) (j : Json) (keys : Option (List (List ℕ))) (bytes : List ℕ) (f : Format) → keys_of word ≡ keys
    → option_and_then (λ keys. option_map (λ fs. spaced (json_field json ++ word ∷ fs)) (fields_under names j keys)) keys ≡ Some bytes → Puts (fields bytes) f → ⊥
line-puts names json word j None bytes f is e h = absurd (cc)
line-puts names json word j (Some keys) bytes f is e h = under-puts json word (fields_under names j keys) bytes f (keys-known word keys is) e h

as-line-of : (x : Option (List ℕ)) (bytes : List ℕ) → option_map as_line x ≡ Some (as_line bytes) → x ≡ Some bytes
as-line-of None bytes e = absurd (cc)
as-line-of (Some b) bytes e = cc

no-put-of : (replies : Format) (x : Option (List ℕ)) (bytes : List ℕ) → option_map (as_put replies) x ≡ Some (as_line bytes) → ⊥
no-put-of replies None bytes e = cc
no-put-of replies (Some b) bytes e = cc

word-puts : (b : Bool) (names json : Bool) (word : List ℕ) (j : Json) (bytes : List ℕ) (f : Format) → (if b then put_of json j else option_map as_line (line_of names json word j)) ≡ Some (as_line bytes) → Puts (fields bytes) f → ⊥
word-puts true names json word j bytes f e h = no-put-of (format_of json) (string_under (codes "text") j) bytes e
word-puts false names json word j bytes f e h = line-puts names json word j (keys_of word) bytes f refl (as-line-of (line_of names json word j) bytes e) h

found-puts : (names : Bool) (j : Json) (x : Option (List ℕ)) (y : Option Bool) (bytes : List ℕ) (f : Format) → option_and_then (λ word. option_and_then (λ json. body_of_word names json word j) y) x ≡ Some (as_line bytes) → Puts (fields bytes) f → ⊥
found-puts names j None y bytes f e h = absurd (cc)
found-puts names j (Some word) None bytes f e h = absurd (cc)
found-puts names j (Some word) (Some json) bytes f e h = word-puts (bytes_eq word (codes "put")) names json word j bytes f e h

some-body : (x : Option Spelling) (bytes : List ℕ) → unwrap_or x as_bad ≡ as_line bytes → x ≡ Some (as_line bytes)
some-body None bytes e = absurd (cc)
some-body (Some b) bytes e = ap Some e

body-in : (x : Option (Option (List ℕ))) (b : Spelling) (s : Spelled) → option_map (λ tag. record { tag = tag; body = b }) x ≡ Some s → s.body ≡ b
body-in None b s e = absurd (cc)
body-in (Some tag) b s e = ap (λ (x : Spelled). x.body) (sym (some-spelled (record { tag = tag; body = b }) s e))
  where
    some-spelled : (a c : Spelled) → Some a ≡ Some c → a ≡ c
    some-spelled a c e = cc

-- the line that an object stands for is no put
object-puts : (o : LabelOptions) (whole bytes : List ℕ) (s : Spelled) (f : Format) → IsObjectLine (object_options o) whole (Some s) → s.body ≡ as_line bytes → Puts (fields bytes) f → ⊥
object-puts o whole bytes s f is e h =
    let j = is.1.0 in
    let body : body_or_bad o.names j ≡ as_line bytes = sym (body-in (tag_of o.tags j) (body_or_bad o.names j) s is.1.3) ∙ e in
    found-puts o.names j (string_under (codes "do") j) (json_of j) bytes f (some-body (body_of o.names j) bytes body) h

-- ---- an object says no put

bad-puts : (plain : List ℕ) (f : Format) → Says plain line.Bad → Says plain (line.Put f) → ⊥
bad-puts plain f bad says = put_apart plain (entry.Item (item.BadLine 0)) f bad says

by-puts : (o : LabelOptions) (bytes plain : List ℕ) (session : Option (List ℕ × ℕ)) (f : Format) (field : Option (List ℕ)) → ((f : Format) → Puts (fields bytes) f → ⊥) → session ≡ None → IsNumberedBy field bytes session plain → Says plain (line.Put f) → ⊥
by-puts o bytes plain session f None never none h says = never f (subst (λ (x : List ℕ). Puts (fields x) f) h.1 says.1)
by-puts o bytes plain None f (Some field) never none h says = bad-puts plain f h.1 says
by-puts o bytes plain (Some s) f (Some field) never none h says = absurd (cc)

numbered-puts : (b : Bool) (o : LabelOptions) (bytes plain : List ℕ) (session : Option (List ℕ × ℕ)) (f : Format) → ((f : Format) → Puts (fields bytes) f → ⊥) → session ≡ None → IsNumbered b bytes session plain → Says plain (line.Put f) → ⊥
numbered-puts false o bytes plain session f never none h says = never f (subst (λ (x : List ℕ). Puts (fields x) f) h.1 says.1)
numbered-puts true o bytes plain session f never none h says = by-puts o bytes plain session f (id_field (fields bytes)) never none h says

body-puts : (o : LabelOptions) (whole : List ℕ) (s : Spelled) (b : Spelling) (label : LineLabel) (plain : List ℕ) (f : Format) → IsObjectLine (object_options o) whole (Some s) → s.body ≡ b → label.session ≡ None
    → IsObjectBody o.names b label.session plain → Says plain (line.Put f) → ⊥
body-puts o whole s (as_line bytes) label plain f is e none h says = numbered-puts o.names o bytes plain label.session f (λ f p. object-puts o whole bytes s f is e p) none h says
body-puts o whole s (as_put replies text) label plain f is e none h says = h
body-puts o whole s as_bad label plain f is e none h says = bad-puts plain f h.1 says

spelled-puts : (o : LabelOptions) (whole : List ℕ) (found : Option Spelled) (label : LineLabel) (plain : List ℕ) (f : Format) → IsObjectLine (object_options o) whole found → label.session ≡ None → IsObjectOf o.names found label plain
    → Says plain (line.Put f) → ⊥
spelled-puts o whole None label plain f is none h says = bad-puts plain f h.1 says
spelled-puts o whole (Some s) label plain f is none h says = body-puts o whole s s.body label plain f is refl none h.1 says

line-of-puts : (b : Bool) (o : LabelOptions) (whole : List ℕ) (label : LineLabel) (plain : List ℕ) (f : Format) → b ≡ true → label.session ≡ None → IsLineOf b o whole label plain → Says plain (line.Put f) → ⊥
line-of-puts false o whole label plain f on none h says = absurd (cc)
line-of-puts true o whole label plain f on none h says = spelled-puts o whole h.0 label plain f h.1 none h.2 says

stands-puts : (o : LabelOptions) (whole : List ℕ) (label : LineLabel) (plain : List ℕ) (f : Format) → o.objects ≡ true → label.session ≡ None → StandsFor o whole label plain → Says plain (line.Put f) → ⊥
stands-puts o whole label plain f on none (inl h) says = bad-puts plain f h.2 says
stands-puts o whole label plain f on none (inr h) says = line-of-puts o.objects o whole label plain f on none h.1 says

pub no_line_put : (o : LabelOptions) (whole : List ℕ) (label : LineLabel) (f : Format) → o.objects ≡ true → SaysAs o whole label (line.Put f) → ⊥
no_line_put o whole label f on says = stands-puts o whole label says.0 f on (put_no_session o whole label says.0 f says.1 says.2) says.1 says.2
