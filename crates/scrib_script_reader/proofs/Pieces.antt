-- Texts joined by a byte, and the pieces into which a split at that byte cuts them.
use Rattle.std.proofs.Common.{◌≡◌, ℕ, zero, suc, ◌<◌, Bool, true, false, ◌&&◌, ◌||◌, ◌==◌, nat_lt, List, [], ◌∷◌, ◌++◌, length, get_or, Some, None, refl, sym, ap, ◌∙◌, arith, if◌then◌else◌}
use Rattle.std.specs.List.{All, list_all, slice_split, onto_first}
use Rattle.std.proofs.lemmas.List.{append-nil}
use Rattle.std.proofs.lemmas.List.Elements.{All-nil, All-cons, All-append}
use Rattle.std.proofs.lemmas.List.Folds.{list_all_at}
use Rattle.std.proofs.lemmas.List.Splits.{slice_split-cons_yes, slice_split-cons_no, slice_split_none, slice_split_at, length-slice_split}
use Rattle.std.proofs.lemmas.Bool.{and_parts, false_from_ne_true}
use Rattle.std.proofs.lemmas.Bool.Decides.{Decides-eqb}
use Rattle.scrib_types.specs.Names.{is_letter, is_digit, is_word_byte, all_word, is_name}
use Rattle.scrib_types.specs.Texts.{after_each, joined_by, dotted_text, dotted_texts}
use Rattle.scrib_script_reader.specs.Fields.{is_dotted, IsDottedText, IsPayloadText}

-- the pieces between the bytes c
abbrev pub pieces : ℕ → List ℕ → List (List ℕ)
pieces c bytes = slice_split (λ b. b == c) bytes

joined-onto : (c x : ℕ) (ts : List (List ℕ)) → joined_by c (onto_first x ts) ≡ x ∷ joined_by c ts
joined-onto c x [] = refl
joined-onto c x (t ∷ ts) = refl

after-some : (c : ℕ) (ts : List (List ℕ)) → 0 < length ts → after_each c ts ≡ c ∷ joined_by c ts
after-some c [] h = absurd (omega arith)
after-some c (t ∷ ts) h = refl

pub some-pieces : (c : ℕ) (bytes : List ℕ) → 0 < length (pieces c bytes)
some-pieces c bytes = omega (arith, length-slice_split (λ b. b == c) bytes)

-- the pieces joined again are the text
pub joined-pieces : (c : ℕ) (bytes : List ℕ) → joined_by c (pieces c bytes) ≡ bytes
joined-pieces c [] = refl
joined-pieces c (x ∷ xs) =
    let e = joined-pieces c xs in
    let here : (r : Bool) → (x == c) ≡ r → joined_by c (pieces c (x ∷ xs)) ≡ x ∷ xs =
    λ r. elim r as (λ r. (x == c) ≡ r → joined_by c (pieces c (x ∷ xs)) ≡ x ∷ xs) [
      | true ↦ λ h. ap (joined_by c) (slice_split-cons_yes (λ b. b == c) x xs h) ∙ after-some c (pieces c xs) (some-pieces c xs) ∙ (λ i. (sym ((Decides-eqb x c).0 h)) i ∷ e i)
      | false ↦ λ h. ap (joined_by c) (slice_split-cons_no (λ b. b == c) x xs h) ∙ joined-onto c x (pieces c xs) ∙ ap (λ ys. x ∷ ys) e
    ] in
    here (x == c) refl

-- the text does not contain the byte c
abbrev pub Lacks : ℕ → List ℕ → Type 0
Lacks c bytes = All (λ b. (b == c) ≡ false) bytes

abbrev pub EachLacks : ℕ → List (List ℕ) → Type 0
EachLacks c [] = Unit {0}
EachLacks c (t ∷ ts) = Lacks c t × EachLacks c ts

-- texts without the byte, joined by it and split again, are the same texts
pub pieces-joined : (c : ℕ) (ts : List (List ℕ)) → 0 < length ts → EachLacks c ts → pieces c (joined_by c ts) ≡ ts
pieces-joined c [] s h = absurd (omega arith)
pieces-joined c (t ∷ []) s h = ap (pieces c) (append-nil t) ∙ slice_split_none (λ b. b == c) t h.0
pieces-joined c (t ∷ u ∷ us) s h =
    slice_split_at (λ b. b == c) t c (joined_by c (u ∷ us)) h.0 ((Decides-eqb c c).1 refl) ∙ ap (λ ts. t ∷ ts) (pieces-joined c (u ∷ us) (omega arith) h.1)

-- a byte of names differs from every byte that is none
word-apart : (b c : ℕ) → is_word_byte b ≡ true → is_word_byte c ≡ false → (b == c) ≡ false
word-apart b c h k = false_from_ne_true (b == c) (λ e. let same : b ≡ c = (Decides-eqb b c).0 e in cc)

word-lacks : (c : ℕ) (bytes : List ℕ) → is_word_byte c ≡ false → all_word bytes ≡ true → Lacks c bytes
word-lacks c [] k h = All-nil (λ b. (b == c) ≡ false)
word-lacks c (b ∷ bs) k h =
    let p = and_parts (is_word_byte b) (all_word bs) h in
    All-cons (λ b. (b == c) ≡ false) b bs (word-apart b c p.0 k) (word-lacks c bs k p.1)

pub name-lacks : (c : ℕ) (name : List ℕ) → is_word_byte c ≡ false → is_name name ≡ true → Lacks c name
name-lacks c [] k h = All-nil (λ b. (b == c) ≡ false)
name-lacks c (b ∷ bs) k h =
    let p = and_parts (is_letter b && all_word bs) (nat_lt (length bs) 128) h in
    let q = and_parts (is_letter b) (all_word bs) p.0 in
    All-cons (λ b. (b == c) ≡ false) b bs (word-apart b c (ap (λ r. r || is_digit b) q.0) k) (word-lacks c bs k q.1)

pub names-lack : (c : ℕ) (names : List (List ℕ)) → is_word_byte c ≡ false → list_all is_name names ≡ true → EachLacks c names
names-lack c [] k h = tt
names-lack c (n ∷ ns) k h =
    let p = and_parts (is_name n) (list_all is_name ns) h in (name-lacks c n k p.0, names-lack c ns k p.1)

after-lacks : (c d : ℕ) (ts : List (List ℕ)) → (d == c) ≡ false → EachLacks c ts → Lacks c (after_each d ts)
after-lacks c d [] k h = All-nil (λ b. (b == c) ≡ false)
after-lacks c d (t ∷ ts) k h =
    All-append (λ b. (b == c) ≡ false) (d ∷ t) (after_each d ts) (All-cons (λ b. (b == c) ≡ false) d t k h.0) (after-lacks c d ts k h.1)

joined-lacks : (c d : ℕ) (ts : List (List ℕ)) → (d == c) ≡ false → EachLacks c ts → Lacks c (joined_by d ts)
joined-lacks c d [] k h = All-nil (λ b. (b == c) ≡ false)
joined-lacks c d (t ∷ ts) k h = All-append (λ b. (b == c) ≡ false) t (after_each d ts) h.0 (after-lacks c d ts k h.1)

dotted-names : (names : List (List ℕ)) → is_dotted names ≡ true → (0 < length names) × (list_all is_name names ≡ true)
dotted-names [] h = cc
dotted-names (n ∷ ns) h = (omega arith, h)

names-dotted : (names : List (List ℕ)) → 0 < length names → list_all is_name names ≡ true → is_dotted names ≡ true
names-dotted [] s h = absurd (omega arith)
names-dotted (n ∷ ns) s h = h

-- a dotted text is split into its names
pub dotted-pieces : (bytes : List ℕ) (names : List (List ℕ)) → IsDottedText bytes names → (pieces 46 bytes ≡ names) × (list_all is_name names ≡ true)
dotted-pieces bytes names h =
    let p = dotted-names names h.1 in
    (ap (pieces 46) h.0 ∙ pieces-joined 46 names p.0 (names-lack 46 names refl p.1), p.1)

-- a text with a piece that is no name is no dotted text
pub no-dotted : (bytes piece : List ℕ) (n : ℕ) → n < length (pieces 46 bytes) → piece ≡ get_or (pieces 46 bytes) n piece → is_name piece ≡ false → (names : List (List ℕ)) → IsDottedText bytes names → ⊥
no-dotted bytes piece n l e f names h =
    let p = dotted-pieces bytes names h in
    let none : list_all is_name (pieces 46 bytes) ≡ false = list_all_at is_name (pieces 46 bytes) n piece l (ap is_name (sym e) ∙ f) in
    let all : list_all is_name (pieces 46 bytes) ≡ true = ap (list_all is_name) p.0 ∙ p.1 in
    cc

-- a text whose pieces are names is their dotted text
pub dotted-read : (bytes : List ℕ) (names : List (List ℕ)) → names ≡ pieces 46 bytes → list_all is_name names ≡ true → IsDottedText bytes names
dotted-read bytes names e h =
    let some : 0 < length names = omega (arith, some-pieces 46 bytes, ap length e) in
    (sym (ap (joined_by 46) e ∙ joined-pieces 46 bytes), names-dotted names some h)

dotted-lacks : (c : ℕ) (payload : List (List (List ℕ))) → is_word_byte c ≡ false → (46 == c) ≡ false → list_all is_dotted payload ≡ true → EachLacks c (dotted_texts payload)
dotted-lacks c [] k d h = tt
dotted-lacks c (names ∷ more) k d h =
    let p = and_parts (is_dotted names) (list_all is_dotted more) h in
    let q = dotted-names names p.0 in
    (joined-lacks c 46 names d (names-lack c names k q.1), dotted-lacks c more k d p.1)

length-dotted_texts : (payload : List (List (List ℕ))) → length (dotted_texts payload) ≡ length payload
length-dotted_texts [] = refl
length-dotted_texts (names ∷ more) = ap suc (length-dotted_texts more)

-- a payload's text is split into the texts of its types
pub payload-pieces : (bytes : List ℕ) (payload : List (List (List ℕ))) → 0 < length bytes → IsPayloadText bytes payload → (pieces 44 bytes ≡ dotted_texts payload) × (list_all is_dotted payload ≡ true)
payload-pieces bytes [] s h = absurd (omega (arith, ap length h.0))
payload-pieces bytes (names ∷ more) s h =
    (ap (pieces 44) h.0 ∙ pieces-joined 44 (dotted_texts (names ∷ more)) (omega arith) (dotted-lacks 44 (names ∷ more) refl refl h.1), h.1)

dotted-at : (payload : List (List (List ℕ))) (n : ℕ) (text : List ℕ) → n < length (dotted_texts payload) → text ≡ get_or (dotted_texts payload) n text → list_all is_dotted payload ≡ true → (names : List (List ℕ)) × IsDottedText text names
dotted-at [] n text l e h = absurd (omega arith)
dotted-at (names ∷ more) zero text l e h = (names, (e, (and_parts (is_dotted names) (list_all is_dotted more) h).0))
dotted-at (names ∷ more) (suc n) text l e h = dotted-at more n text (omega arith) e (and_parts (is_dotted names) (list_all is_dotted more) h).1

-- a text with a piece that is no dotted text is no payload's
pub no-payload : (bytes piece : List ℕ) (n : ℕ) → 0 < length bytes → n < length (pieces 44 bytes) → piece ≡ get_or (pieces 44 bytes) n piece → ((names : List (List ℕ)) → IsDottedText piece names → ⊥) → (payload : List (List (List ℕ))) → IsPayloadText bytes payload → ⊥
no-payload bytes piece n s l e none payload h =
    let p = payload-pieces bytes payload s h in
    let found = dotted-at payload n piece (omega (arith, ap length p.0)) (e ∙ ap (λ ts. get_or ts n piece) p.0) p.1 in
    none found.0 found.1

-- a text whose pieces are dotted texts is a payload's
pub payload-read : (bytes : List ℕ) (payload : List (List (List ℕ))) → dotted_texts payload ≡ pieces 44 bytes → list_all is_dotted payload ≡ true → IsPayloadText bytes payload
payload-read bytes payload e h = (sym (ap (joined_by 44) e ∙ joined-pieces 44 bytes), h)

-- one more type
pub dotted_texts-push : (payload : List (List (List ℕ))) (names : List (List ℕ)) → dotted_texts (payload ++ names ∷ []) ≡ dotted_texts payload ++ dotted_text names ∷ []
dotted_texts-push [] names = refl
dotted_texts-push (p ∷ ps) names = ap (λ ts. dotted_text p ∷ ts) (dotted_texts-push ps names)

list_all-push : {A : Type 0} (p : A → Bool) (xs : List A) (x : A) → list_all p xs ≡ true → p x ≡ true → list_all p (xs ++ x ∷ []) ≡ true
list_all-push p [] x h k = ap (λ r. r && true) k
list_all-push p (y ∷ ys) x h k =
    let q = and_parts (p y) (list_all p ys) h in λ i. q.0 i && list_all-push p ys x q.1 k i

pub payload-more : (payload : List (List (List ℕ))) (names : List (List ℕ)) (piece : List ℕ) (read : List (List ℕ)) → dotted_texts payload ≡ read → list_all is_dotted payload ≡ true → IsDottedText piece names → (dotted_texts (payload ++ names ∷ []) ≡ read ++ piece ∷ []) × (list_all is_dotted (payload ++ names ∷ []) ≡ true)
payload-more payload names piece read e h d =
    (dotted_texts-push payload names ∙ (λ i. e i ++ sym d.0 i ∷ []), list_all-push is_dotted payload names h d.1)

-- where `Name::from_bytes` returns none, the bytes are no name
pub none-named : (bytes : List ℕ) → None ≡ (if is_name bytes then Some bytes else None) → is_name bytes ≡ false
none-named bytes h = false_from_ne_true (is_name bytes) (λ e. let k : None ≡ Some bytes = rw e at h in cc)
