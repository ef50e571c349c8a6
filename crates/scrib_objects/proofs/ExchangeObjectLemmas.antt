-- Objects of exchanges are read back.
use Rattle.std.proofs.Common.{◌≡◌, ◌≢◌, ◌∙◌, ◌≤◌, ◌<◌, ◌&&◌, inl, inr, ◌⊎◌, ℕ, zero, suc, Bool, true, false, List, [], ◌∷◌, ◌++◌, Option, Some, None, codes, option_map, length, take, get_or, cond, refl, sym, ap, subst, arith, rules, append_assoc}
use Rattle.std.specs.Prelude.{AllPairs, nat_le, nat_lt}
use Rattle.std.specs.Str.{IsUtf8, bytes_eq}
use Rattle.std.proofs.lemmas.Bool.{or_cases}
use Rattle.std.proofs.lemmas.Bool.Decides.{nat_tests}
use Rattle.std.proofs.lemmas.Slice.Eq.{bytes_eq-Decides}
use Rattle.std.proofs.lemmas.List.Elements.{All-from_recursion}
use Rattle.std.proofs.lemmas.List.Kept.{AllPairs-cons}
use Rattle.json.specs.Json.{Json, string, number, object, Members, member, no_members, document, max_depth}
use Rattle.json.specs.Print.{escape, print, print_from, quoted, IsNumber}
use Rattle.json.specs.Strict.{HasUniqueKeys}
use Rattle.json.specs.Token.{Token}
use Rattle.json.specs.Tree.{HasNumbers, depth, json_tokens, members_tokens}
use Rattle.json.proofs.Printed.Strings.{escape_byte_plain}
use Rattle.json.proofs.Printed.Trees.{document-print}
use Rattle.scrib_script_reader.specs.Fields.{has_bytes, is_blank}
use Rattle.scrib_labels.specs.Tags.{all_visible, is_tag, is_visible}
use Rattle.scrib_objects.specs.declared.object_options.ObjectOptions.{ObjectOptions}
use Rattle.scrib_objects.specs.Objects.{IsObjectLine, as_line, body_or_bad, has_no_blank, is_field, Spelling, spaced, tag_of}
use Rattle.scrib_objects.specs.ExchangeObjects.{all_plain, is_exchange, is_plain}

-- ---- plain bytes

-- one more plain byte
pub plain_more : (bytes : List ℕ) (n : ℕ) → n < length bytes → all_plain (take n bytes) ≡ true → is_plain (get_or bytes n 0) ≡ true → all_plain (take (suc n) bytes) ≡ true
plain_more [] n l h v = absurd (omega (arith, l))
plain_more (b ∷ bs) zero l h v = rw v refl
plain_more (b ∷ bs) (suc n) l h v =
    let first : is_plain b ≡ true = search rules in
    let more : all_plain (take n bs) ≡ true = search rules in
    rw first (plain_more bs n (omega (arith, l)) more v)

-- what a plain byte is
record PlainByte (b : ℕ) : Type 0 where
  above : 33 ≤ b
  below : b ≤ 126
  no_quote : b ≢ 34
  no_backslash : b ≢ 92

plain-byte : (b : ℕ) → is_plain b ≡ true → PlainByte b
plain-byte b h = record {
  above = grind (arith, nat_tests);
  below = grind (arith, nat_tests);
  no_quote = grind (arith, nat_tests);
  no_backslash = grind (arith, nat_tests);
}

no-blank-byte : (b : ℕ) → 33 ≤ b → is_blank b ≡ false
no-blank-byte b h = grind (arith, nat_tests)

visible-byte : (b : ℕ) → 33 ≤ b → b ≤ 126 → is_visible b ≡ true
visible-byte b l h = grind (arith, nat_tests)

plain-first : (b : ℕ) (bs : List ℕ) → all_plain (b ∷ bs) ≡ true → is_plain b ≡ true
plain-first b bs h = search rules

plain-rest : (b : ℕ) (bs : List ℕ) → all_plain (b ∷ bs) ≡ true → all_plain bs ≡ true
plain-rest b bs h = search rules

-- no escapes
pub escape_plain : (s : List ℕ) → all_plain s ≡ true → escape s ≡ s
escape_plain [] h = refl
escape_plain (b ∷ bs) h =
    let p = plain-byte b (plain-first b bs h) in
    ap (λ (e : List ℕ). e ++ escape bs) (escape_byte_plain b p.no_quote p.no_backslash (omega (arith, p.above)))
    ∙ ap (λ (e : List ℕ). b ∷ e) (escape_plain bs (plain-rest b bs h))

no-blanks : (s : List ℕ) → all_plain s ≡ true → has_no_blank s ≡ true
no-blanks [] h = refl
no-blanks (b ∷ bs) h =
    let p = plain-byte b (plain-first b bs h) in
    rw (no-blank-byte b p.above) (no-blanks bs (plain-rest b bs h))

some-bytes : (b : ℕ) (bs : List ℕ) → has_bytes (b ∷ bs) ≡ true
some-bytes b bs = grind (arith, nat_tests)

-- plain bytes are a field, if there are some
pub plain_field : (s : List ℕ) → all_plain s ≡ true → 0 < length s → is_field s ≡ true
plain_field [] h some = absurd (omega (arith, some))
plain_field (b ∷ bs) h some = rw (some-bytes b bs) (no-blanks (b ∷ bs) h)

all-visible : (s : List ℕ) → all_plain s ≡ true → all_visible s ≡ true
all-visible [] h = refl
all-visible (b ∷ bs) h =
    let p = plain-byte b (plain-first b bs h) in
    rw (visible-byte b p.above p.below) (all-visible bs (plain-rest b bs h))

-- ---- the text of members

key-text : (k rest : List ℕ) → all_plain k ≡ true → (quoted k ++ 58 ∷ []) ++ rest ≡ 34 ∷ (k ++ 34 ∷ 58 ∷ rest)
key-text k rest h =
    ap (λ (e : List ℕ). 34 ∷ (((e ++ 34 ∷ []) ++ 58 ∷ []) ++ rest)) (escape_plain k h)
    ∙ ap (λ (x : List ℕ). 34 ∷ x) (append_assoc (k ++ 34 ∷ []) (58 ∷ []) rest ∙ append_assoc k (34 ∷ []) (58 ∷ rest))

string-text : (s : List ℕ) (ts : List Token) → all_plain s ≡ true → print_from false (Token.string s ∷ ts) ≡ 34 ∷ (s ++ 34 ∷ print_from true ts)
unfolding print_from
string-text s ts h =
    ap (λ (e : List ℕ). 34 ∷ ((e ++ 34 ∷ []) ++ print_from true ts)) (escape_plain s h)
    ∙ ap (λ (x : List ℕ). 34 ∷ x) (append_assoc s (34 ∷ []) (print_from true ts))

key-first : (k : List ℕ) (ts : List Token) → all_plain k ≡ true → print_from false (Token.key k ∷ ts) ≡ 34 ∷ (k ++ 34 ∷ 58 ∷ print_from false ts)
unfolding print_from
key-first k ts h = key-text k (print_from false ts) h

key-later : (k : List ℕ) (ts : List Token) → all_plain k ≡ true → print_from true (Token.key k ∷ ts) ≡ 44 ∷ 34 ∷ (k ++ 34 ∷ 58 ∷ print_from false ts)
unfolding print_from
key-later k ts h = ap (λ (x : List ℕ). 44 ∷ x) (key-text k (print_from false ts) h)

-- a member behind others, whose value is a string
string-member : (k s : List ℕ) (ms : Members) → all_plain k ≡ true → all_plain s ≡ true → print_from true (members_tokens (member k (string s) ms)) ≡ 44 ∷ 34 ∷ (k ++ 34 ∷ 58 ∷ 34 ∷ (s ++ 34 ∷ print_from true (members_tokens ms)))
string-member k s ms hk hs =
    key-later k (Token.string s ∷ members_tokens ms) hk ∙ ap (λ (x : List ℕ). 44 ∷ 34 ∷ (k ++ 34 ∷ 58 ∷ x)) (string-text s (members_tokens ms) hs)

first-member : (k s : List ℕ) (ms : Members) → all_plain k ≡ true → all_plain s ≡ true → print_from false (members_tokens (member k (string s) ms)) ≡ 34 ∷ (k ++ 34 ∷ 58 ∷ 34 ∷ (s ++ 34 ∷ print_from true (members_tokens ms)))
first-member k s ms hk hs =
    key-first k (Token.string s ∷ members_tokens ms) hk ∙ ap (λ (x : List ℕ). 34 ∷ (k ++ 34 ∷ 58 ∷ x)) (string-text s (members_tokens ms) hs)

number-text : (s : List ℕ) (ts : List Token) → print_from false (Token.number s ∷ ts) ≡ s ++ print_from true ts
unfolding print_from
number-text s ts = refl

number-member : (k s : List ℕ) (ms : Members) → all_plain k ≡ true → print_from true (members_tokens (member k (number s) ms)) ≡ 44 ∷ 34 ∷ (k ++ 34 ∷ 58 ∷ (s ++ print_from true (members_tokens ms)))
number-member k s ms hk =
    key-later k (Token.number s ∷ members_tokens ms) hk ∙ ap (λ (x : List ℕ). 44 ∷ 34 ∷ (k ++ 34 ∷ 58 ∷ x)) (number-text s (members_tokens ms))

end-text : print_from true (members_tokens no_members) ≡ 125 ∷ []
unfolding print_from
end-text = refl

object-text : (ms : Members) → print (json_tokens (object ms)) ≡ 123 ∷ print_from false (members_tokens ms)
unfolding print_from
object-text ms = refl

-- ---- the object of an exchange

-- the members behind the message
abbrev tail-members : (tag : Option (List ℕ)) (to : List ℕ) → Members
tail-members None t = member (codes "to") (string t) no_members
tail-members (Some g) t = member (codes "tag") (string g) (member (codes "to") (string t) no_members)

abbrev exchange-members : (w f : List ℕ) (id : Json) (m : List ℕ) (tag : Option (List ℕ)) (t : List ℕ) → Members
exchange-members w f id m tag t =
    member (codes "do") (string w) (member (codes "from") (string f) (member (codes "id") id (member (codes "message") (string m) (tail-members tag t))))

-- the value of `id`
abbrev id-json : (quoted : Bool) → List ℕ → Json
id-json true i = string i
id-json false i = number i

-- the text of the value of `id`, and what follows
abbrev pub id_text : (quoted : Bool) (i rest : List ℕ) → List ℕ
id_text true i rest = 34 ∷ (i ++ 34 ∷ rest)
id_text false i rest = i ++ rest

-- the text of the member `tag`, if there is one, and what follows
abbrev pub tag_text : Option (List ℕ) → List ℕ → List ℕ
tag_text None rest = rest
tag_text (Some g) rest = 44 ∷ 34 ∷ 116 ∷ 97 ∷ 103 ∷ 34 ∷ 58 ∷ 34 ∷ (g ++ 34 ∷ rest)

-- what is known of the value of `id`
abbrev pub IdFits : (names quoted : Bool) → List ℕ → Type 0
IdFits names true i = (names ≡ true) × (all_plain i ≡ true) × (0 < length i)
IdFits names false i = IsNumber i

-- what is known of the member `tag`, and of the tag of the line
abbrev pub TagFits : (tags : Bool) → (tag shown : Option (List ℕ)) → Type 0
TagFits tags None shown = shown ≡ None
TagFits tags (Some g) shown = (all_plain g ≡ true) × (0 < length g) × (length g ≤ 64) × (shown ≡ cond tags (Some g) None)

-- the text of an exchange
abbrev pub exchange_text : (w f : List ℕ) (quoted : Bool) (i m : List ℕ) (tag : Option (List ℕ)) (t : List ℕ) → List ℕ
exchange_text w f quoted i m tag t =
    123 ∷ 34 ∷ 100 ∷ 111 ∷ 34 ∷ 58 ∷ 34 ∷ (w ++ 34 ∷ 44 ∷ 34 ∷ 102 ∷ 114 ∷ 111 ∷ 109 ∷ 34 ∷ 58 ∷ 34 ∷ (f ++ 34 ∷ 44 ∷ 34 ∷ 105 ∷ 100 ∷ 34 ∷ 58 ∷ (id_text quoted i (44 ∷ 34 ∷ 109 ∷ 101 ∷ 115 ∷ 115 ∷ 97 ∷ 103 ∷ 101 ∷ 34 ∷ 58 ∷ 34 ∷ (m ++ 34 ∷ tag_text tag (44 ∷ 34 ∷ 116 ∷ 111 ∷ 34 ∷ 58 ∷ 34 ∷ (t ++ 34 ∷ 125 ∷ [])))))))

to-text : (t : List ℕ) → all_plain t ≡ true → print_from true (members_tokens (member (codes "to") (string t) no_members)) ≡ 44 ∷ 34 ∷ 116 ∷ 111 ∷ 34 ∷ 58 ∷ 34 ∷ (t ++ 34 ∷ 125 ∷ [])
to-text t h = string-member (codes "to") t no_members refl h ∙ ap (λ (x : List ℕ). 44 ∷ 34 ∷ 116 ∷ 111 ∷ 34 ∷ 58 ∷ 34 ∷ (t ++ 34 ∷ x)) end-text

tail-text : (tags : Bool) (tag shown : Option (List ℕ)) (t : List ℕ) → TagFits tags tag shown → all_plain t ≡ true → print_from true (members_tokens (tail-members tag t)) ≡ tag_text tag (44 ∷ 34 ∷ 116 ∷ 111 ∷ 34 ∷ 58 ∷ 34 ∷ (t ++ 34 ∷ 125 ∷ []))
tail-text tags None shown t fits h = to-text t h
tail-text tags (Some g) shown t fits h =
    string-member (codes "tag") g (member (codes "to") (string t) no_members) refl fits.0
    ∙ ap (λ (x : List ℕ). 44 ∷ 34 ∷ 116 ∷ 97 ∷ 103 ∷ 34 ∷ 58 ∷ 34 ∷ (g ++ 34 ∷ x)) (to-text t h)

id-member : (names quoted : Bool) (i : List ℕ) (ms : Members) → IdFits names quoted i → print_from true (members_tokens (member (codes "id") (id-json quoted i) ms)) ≡ 44 ∷ 34 ∷ 105 ∷ 100 ∷ 34 ∷ 58 ∷ id_text quoted i (print_from true (members_tokens ms))
id-member names true i ms fits = string-member (codes "id") i ms refl fits.1
id-member names false i ms fits = number-member (codes "id") i ms refl

is-text : (names tags quoted : Bool) (w f i m : List ℕ) (tag shown : Option (List ℕ)) (t : List ℕ) → all_plain w ≡ true → all_plain f ≡ true → all_plain m ≡ true → all_plain t ≡ true → IdFits names quoted i → TagFits tags tag shown
    → print (json_tokens (object (exchange-members w f (id-json quoted i) m tag t))) ≡ exchange_text w f quoted i m tag t
is-text names tags quoted w f i m tag shown t hw hf hm ht id_fits tag_fits =
    let behind_message = tail-members tag t in
    let behind_id = member (codes "message") (string m) behind_message in
    let behind_from = member (codes "id") (id-json quoted i) behind_id in
    let behind_do = member (codes "from") (string f) behind_from in
    object-text (member (codes "do") (string w) behind_do)
    ∙ ap (λ (x : List ℕ). 123 ∷ x) (first-member (codes "do") w behind_do refl hw)
    ∙ ap (λ (x : List ℕ). 123 ∷ 34 ∷ 100 ∷ 111 ∷ 34 ∷ 58 ∷ 34 ∷ (w ++ 34 ∷ x)) (string-member (codes "from") f behind_from refl hf)
    ∙ ap (λ (x : List ℕ). 123 ∷ 34 ∷ 100 ∷ 111 ∷ 34 ∷ 58 ∷ 34 ∷ (w ++ 34 ∷ 44 ∷ 34 ∷ 102 ∷ 114 ∷ 111 ∷ 109 ∷ 34 ∷ 58 ∷ 34 ∷ (f ++ 34 ∷ x))) (id-member names quoted i behind_id id_fits)
    ∙ ap (λ (x : List ℕ). 123 ∷ 34 ∷ 100 ∷ 111 ∷ 34 ∷ 58 ∷ 34 ∷ (w ++ 34 ∷ 44 ∷ 34 ∷ 102 ∷ 114 ∷ 111 ∷ 109 ∷ 34 ∷ 58 ∷ 34 ∷ (f ++ 34 ∷ 44 ∷ 34 ∷ 105 ∷ 100 ∷ 34 ∷ 58 ∷ id_text quoted i x))) (string-member (codes "message") m behind_message refl hm)
    ∙ ap (λ (x : List ℕ). 123 ∷ 34 ∷ 100 ∷ 111 ∷ 34 ∷ 58 ∷ 34 ∷ (w ++ 34 ∷ 44 ∷ 34 ∷ 102 ∷ 114 ∷ 111 ∷ 109 ∷ 34 ∷ 58 ∷ 34 ∷ (f ++ 34 ∷ 44 ∷ 34 ∷ 105 ∷ 100 ∷ 34 ∷ 58 ∷ id_text quoted i (44 ∷ 34 ∷ 109 ∷ 101 ∷ 115 ∷ 115 ∷ 97 ∷ 103 ∷ 101 ∷ 34 ∷ 58 ∷ 34 ∷ (m ++ 34 ∷ x))))) (tail-text tags tag shown t tag_fits ht)

-- ---- its numbers, its depth and its keys

has-numbers : (names quoted : Bool) (w f i m : List ℕ) (tag : Option (List ℕ)) (t : List ℕ) → IdFits names quoted i → HasNumbers (object (exchange-members w f (id-json quoted i) m tag t))
has-numbers names true w f i m None t fits = (tt, (tt, (tt, (tt, (tt, tt)))))
has-numbers names true w f i m (Some g) t fits = (tt, (tt, (tt, (tt, (tt, (tt, tt))))))
has-numbers names false w f i m None t fits = (tt, (tt, (fits, (tt, (tt, tt)))))
has-numbers names false w f i m (Some g) t fits = (tt, (tt, (fits, (tt, (tt, (tt, tt))))))

shallow : (quoted : Bool) (w f i m : List ℕ) (tag : Option (List ℕ)) (t : List ℕ) → depth (object (exchange-members w f (id-json quoted i) m tag t)) ≤ max_depth
shallow true w f i m None t = omega arith
shallow true w f i m (Some g) t = omega arith
shallow false w f i m None t = omega arith
shallow false w f i m (Some g) t = omega arith

none-apart : AllPairs (λ (a b : List ℕ). a ≢ b) []
none-apart i j d lt within = absurd (omega (arith, within))

plain-apart : AllPairs (λ (a b : List ℕ). a ≢ b) (codes "do" ∷ codes "from" ∷ codes "id" ∷ codes "message" ∷ codes "to" ∷ [])
plain-apart =
    AllPairs-cons (λ a b. a ≢ b) (codes "do") (codes "from" ∷ codes "id" ∷ codes "message" ∷ codes "to" ∷ []) (All-from_recursion (λ b. codes "do" ≢ b) (codes "from" ∷ codes "id" ∷ codes "message" ∷ codes "to" ∷ []) ((λ e. omega (arith, ap (λ (l : List ℕ). get_or l 0 0) e)), ((λ e. omega (arith, ap (λ (l : List ℕ). get_or l 0 0) e)), ((λ e. omega (arith, ap (λ (l : List ℕ). get_or l 0 0) e)), ((λ e. omega (arith, ap (λ (l : List ℕ). get_or l 0 0) e)), tt))))) (AllPairs-cons (λ a b. a ≢ b) (codes "from") (codes "id" ∷ codes "message" ∷ codes "to" ∷ []) (All-from_recursion (λ b. codes "from" ≢ b) (codes "id" ∷ codes "message" ∷ codes "to" ∷ []) ((λ e. omega (arith, ap (λ (l : List ℕ). get_or l 0 0) e)), ((λ e. omega (arith, ap (λ (l : List ℕ). get_or l 0 0) e)), ((λ e. omega (arith, ap (λ (l : List ℕ). get_or l 0 0) e)), tt)))) (AllPairs-cons (λ a b. a ≢ b) (codes "id") (codes "message" ∷ codes "to" ∷ []) (All-from_recursion (λ b. codes "id" ≢ b) (codes "message" ∷ codes "to" ∷ []) ((λ e. omega (arith, ap (λ (l : List ℕ). get_or l 0 0) e)), ((λ e. omega (arith, ap (λ (l : List ℕ). get_or l 0 0) e)), tt))) (AllPairs-cons (λ a b. a ≢ b) (codes "message") (codes "to" ∷ []) (All-from_recursion (λ b. codes "message" ≢ b) (codes "to" ∷ []) ((λ e. omega (arith, ap (λ (l : List ℕ). get_or l 0 0) e)), tt)) (AllPairs-cons (λ a b. a ≢ b) (codes "to") ([]) (All-from_recursion (λ b. codes "to" ≢ b) ([]) tt) (none-apart)))))

tagged-apart : AllPairs (λ (a b : List ℕ). a ≢ b) (codes "do" ∷ codes "from" ∷ codes "id" ∷ codes "message" ∷ codes "tag" ∷ codes "to" ∷ [])
tagged-apart =
    AllPairs-cons (λ a b. a ≢ b) (codes "do") (codes "from" ∷ codes "id" ∷ codes "message" ∷ codes "tag" ∷ codes "to" ∷ []) (All-from_recursion (λ b. codes "do" ≢ b) (codes "from" ∷ codes "id" ∷ codes "message" ∷ codes "tag" ∷ codes "to" ∷ []) ((λ e. omega (arith, ap (λ (l : List ℕ). get_or l 0 0) e)), ((λ e. omega (arith, ap (λ (l : List ℕ). get_or l 0 0) e)), ((λ e. omega (arith, ap (λ (l : List ℕ). get_or l 0 0) e)), ((λ e. omega (arith, ap (λ (l : List ℕ). get_or l 0 0) e)), ((λ e. omega (arith, ap (λ (l : List ℕ). get_or l 0 0) e)), tt)))))) (AllPairs-cons (λ a b. a ≢ b) (codes "from") (codes "id" ∷ codes "message" ∷ codes "tag" ∷ codes "to" ∷ []) (All-from_recursion (λ b. codes "from" ≢ b) (codes "id" ∷ codes "message" ∷ codes "tag" ∷ codes "to" ∷ []) ((λ e. omega (arith, ap (λ (l : List ℕ). get_or l 0 0) e)), ((λ e. omega (arith, ap (λ (l : List ℕ). get_or l 0 0) e)), ((λ e. omega (arith, ap (λ (l : List ℕ). get_or l 0 0) e)), ((λ e. omega (arith, ap (λ (l : List ℕ). get_or l 0 0) e)), tt))))) (AllPairs-cons (λ a b. a ≢ b) (codes "id") (codes "message" ∷ codes "tag" ∷ codes "to" ∷ []) (All-from_recursion (λ b. codes "id" ≢ b) (codes "message" ∷ codes "tag" ∷ codes "to" ∷ []) ((λ e. omega (arith, ap (λ (l : List ℕ). get_or l 0 0) e)), ((λ e. omega (arith, ap (λ (l : List ℕ). get_or l 0 0) e)), ((λ e. omega (arith, ap (λ (l : List ℕ). get_or l 0 0) e)), tt)))) (AllPairs-cons (λ a b. a ≢ b) (codes "message") (codes "tag" ∷ codes "to" ∷ []) (All-from_recursion (λ b. codes "message" ≢ b) (codes "tag" ∷ codes "to" ∷ []) ((λ e. omega (arith, ap (λ (l : List ℕ). get_or l 0 0) e)), ((λ e. omega (arith, ap (λ (l : List ℕ). get_or l 0 0) e)), tt))) (AllPairs-cons (λ a b. a ≢ b) (codes "tag") (codes "to" ∷ []) (All-from_recursion (λ b. codes "tag" ≢ b) (codes "to" ∷ []) ((λ e. omega (arith, ap (λ (l : List ℕ). get_or l 1 0) e)), tt)) (AllPairs-cons (λ a b. a ≢ b) (codes "to") ([]) (All-from_recursion (λ b. codes "to" ≢ b) ([]) tt) (none-apart))))))

unique : (quoted : Bool) (w f i m : List ℕ) (tag : Option (List ℕ)) (t : List ℕ) → HasUniqueKeys (object (exchange-members w f (id-json quoted i) m tag t))
unique true w f i m None t = (plain-apart, (tt, (tt, (tt, (tt, (tt, tt))))))
unique true w f i m (Some g) t = (tagged-apart, (tt, (tt, (tt, (tt, (tt, (tt, tt)))))))
unique false w f i m None t = (plain-apart, (tt, (tt, (tt, (tt, (tt, tt))))))
unique false w f i m (Some g) t = (tagged-apart, (tt, (tt, (tt, (tt, (tt, (tt, tt)))))))

-- ---- what it stands for

pub short_tag : (g : List ℕ) → all_plain g ≡ true → 0 < length g → length g ≤ 64 → is_tag g ≡ true
short_tag [] h some short = absurd (omega (arith, some))
short_tag (b ∷ bs) h some short = rw (all-visible (b ∷ bs) h) (within (length bs) short)
  where
    within : (n : ℕ) → suc n ≤ 64 → nat_lt 0 (suc n) && nat_le (suc n) 64 && true ≡ true
    within n h = grind (arith, nat_tests)

-- the line behind the word, by the value of `id`
body-send : (names quoted : Bool) (f i m : List ℕ) (tag : Option (List ℕ)) (t : List ℕ) → is_field f ≡ true → is_field m ≡ true → is_field t ≡ true → IdFits names quoted i
    → body_or_bad names (object (exchange-members (codes "send") f (id-json quoted i) m tag t)) ≡ as_line (spaced (codes "send" ∷ i ∷ f ∷ t ∷ m ∷ []))
body-send names false f i m None t hf hm ht fits = rw (hf, hm, ht) refl
body-send names false f i m (Some g) t hf hm ht fits = rw (hf, hm, ht) refl
body-send names true f i m None t hf hm ht fits = rw (hf, hm, ht, fits.0, plain_field i fits.1 fits.2) refl
body-send names true f i m (Some g) t hf hm ht fits = rw (hf, hm, ht, fits.0, plain_field i fits.1 fits.2) refl

body-recv : (names quoted : Bool) (f i m : List ℕ) (tag : Option (List ℕ)) (t : List ℕ) → is_field f ≡ true → is_field m ≡ true → is_field t ≡ true → IdFits names quoted i
    → body_or_bad names (object (exchange-members (codes "recv") f (id-json quoted i) m tag t)) ≡ as_line (spaced (codes "recv" ∷ i ∷ f ∷ t ∷ m ∷ []))
body-recv names false f i m None t hf hm ht fits = rw (hf, hm, ht) refl
body-recv names false f i m (Some g) t hf hm ht fits = rw (hf, hm, ht) refl
body-recv names true f i m None t hf hm ht fits = rw (hf, hm, ht, fits.0, plain_field i fits.1 fits.2) refl
body-recv names true f i m (Some g) t hf hm ht fits = rw (hf, hm, ht, fits.0, plain_field i fits.1 fits.2) refl

body-is : (names quoted : Bool) (w f i m : List ℕ) (tag : Option (List ℕ)) (t : List ℕ) → (w ≡ codes "send") ⊎ (w ≡ codes "recv") → is_field f ≡ true → is_field m ≡ true → is_field t ≡ true → IdFits names quoted i
    → body_or_bad names (object (exchange-members w f (id-json quoted i) m tag t)) ≡ as_line (spaced (w ∷ i ∷ f ∷ t ∷ m ∷ []))
body-is names quoted w f i m tag t (inl e) hf hm ht fits =
    subst (λ (w : List ℕ). body_or_bad names (object (exchange-members w f (id-json quoted i) m tag t)) ≡ as_line (spaced (w ∷ i ∷ f ∷ t ∷ m ∷ []))) (sym e) (body-send names quoted f i m tag t hf hm ht fits)
body-is names quoted w f i m tag t (inr e) hf hm ht fits =
    subst (λ (w : List ℕ). body_or_bad names (object (exchange-members w f (id-json quoted i) m tag t)) ≡ as_line (spaced (w ∷ i ∷ f ∷ t ∷ m ∷ []))) (sym e) (body-recv names quoted f i m tag t hf hm ht fits)

tag-is : (tags : Bool) (w f : List ℕ) (id : Json) (m : List ℕ) (tag shown : Option (List ℕ)) (t : List ℕ) → TagFits tags tag shown → tag_of tags (object (exchange-members w f id m tag t)) ≡ Some shown
tag-is true w f id m None shown t fits = ap Some (sym fits)
tag-is false w f id m None shown t fits = ap Some (sym fits)
tag-is true w f id m (Some g) shown t fits = rw (short_tag g fits.0 fits.1 fits.2) (ap Some (sym fits.3))
tag-is false w f id m (Some g) shown t fits = ap Some (sym fits.3)

-- the word of an exchange
pub word_of : (w : List ℕ) → is_exchange w ≡ true → (w ≡ codes "send") ⊎ (w ≡ codes "recv")
word_of w h = elim (or_cases (bytes_eq w (codes "send")) (bytes_eq w (codes "recv")) h) [
  | inl e ↦ inl ((bytes_eq-Decides w (codes "send")).0 e)
  | inr e ↦ inr ((bytes_eq-Decides w (codes "recv")).0 e)
]

-- a line with this text is an object that stands for the exchange
pub read_exchange : (o : ObjectOptions) (line w f : List ℕ) (quoted : Bool) (i m : List ℕ) (tag shown : Option (List ℕ)) (t : List ℕ) → IsUtf8 line → line ≡ exchange_text w f quoted i m tag t → is_exchange w ≡ true
    → all_plain w ≡ true → (all_plain f ≡ true) × (0 < length f) → (all_plain m ≡ true) × (0 < length m) → (all_plain t ≡ true) × (0 < length t) → IdFits o.names quoted i → TagFits o.tags tag shown
    → IsObjectLine o line (Some (record { tag = shown; body = as_line (spaced (w ∷ i ∷ f ∷ t ∷ m ∷ [])) }))
read_exchange o line w f quoted i m tag shown t utf8 is word hw hf hm ht id_fits tag_fits =
    let j = object (exchange-members w f (id-json quoted i) m tag t) in
    let text = is-text o.names o.tags quoted w f i m tag shown t hw hf.0 hm.0 ht.0 id_fits tag_fits in (
      utf8,
      (
        j,
        ap document (is ∙ sym text) ∙ document-print j (has-numbers o.names quoted w f i m tag t id_fits) (shallow quoted w f i m tag t),
        unique quoted w f i m tag t,
        ap (λ (x : Option (Option (List ℕ))). option_map (λ (g : Option (List ℕ)). record { tag = g; body = body_or_bad o.names j }) x) (tag-is o.tags w f (id-json quoted i) m tag shown t tag_fits)
            ∙ ap (λ (b : Spelling). Some (record { tag = shown; body = b })) (body-is o.names quoted w f i m tag t (word_of w word) (plain_field f hf.0 hf.1) (plain_field m hm.0 hm.1) (plain_field t ht.0 ht.1) id_fits),
      ),
    )
