-- Words at the front of a text.
use Rattle.std.proofs.Common.{◌≡◌, ℕ, ◌+◌, ◌<◌, Bool, true, false, cond, List, [], ◌∷◌, ◌++◌, length, take, get_or, refl, sym, ap, ◌∙◌, ◌&&◌, nat_lt, Option, Some}
use Rattle.std.specs.Str.{bytes_eq}
use Rattle.std.proofs.lemmas.Bool.{and_parts, false≢true, ltb-true}
use Rattle.std.proofs.lemmas.List.{take_more}
use Rattle.std.proofs.lemmas.Slice.Eq.{bytes_eq-Decides}
use Rattle.scrib_types.specs.Names.{is_letter, is_word_byte, all_word, is_name}
use Rattle.scrib_lexer.specs.declared.token.Keyword.{Keyword}
use Rattle.scrib_lexer.specs.Words.{reserved, look_up, keyword_of, begins_in_word}

-- one more byte of a word
all_word-push : (bytes : List ℕ) (b : ℕ) → all_word bytes ≡ true → is_word_byte b ≡ true → all_word (bytes ++ b ∷ []) ≡ true
all_word-push [] b w h = rw h refl
all_word-push (a ∷ bytes) b w h =
    let p = and_parts (is_word_byte a) (all_word bytes) w in rw (p.0, all_word-push bytes b p.1 h) refl

pub all_word-take_more : (text : List ℕ) (i : ℕ) → i < length text → is_word_byte (get_or text i 0) ≡ true → all_word (take i text) ≡ true → all_word (take (i + 1) text) ≡ true
all_word-take_more text i l h w = rw (take_more text i 0 l) (all_word-push (take i text) (get_or text i 0) w h)

-- the keyword of a text that is known
pub keyword_at : (word text : List ℕ) (k : Option Keyword) → word ≡ text → k ≡ keyword_of text → k ≡ keyword_of word
keyword_at word text k e h = h ∙ ap keyword_of (sym e)

-- every reserved word is a name
names_in : List (List ℕ × Keyword) → Bool
names_in [] = true
names_in (row ∷ rows) = is_name row.0 && names_in rows

by_test : (word : List ℕ) (row : List ℕ × Keyword) (o : Option Keyword) (k : Keyword) (t : Bool) → bytes_eq word row.0 ≡ t → is_name row.0 ≡ true → (o ≡ Some k → is_name word ≡ true) → cond t (Some row.1) o ≡ Some k → is_name word ≡ true
by_test word row o k true e n rest h = ap is_name ((bytes_eq-Decides word row.0).0 e) ∙ n
by_test word row o k false e n rest h = rest h

look_up-name : (word : List ℕ) (rows : List (List ℕ × Keyword)) (k : Keyword) → names_in rows ≡ true → look_up word rows ≡ Some k → is_name word ≡ true
unfolding names_in
look_up-name word [] k n h = absurd (cc h)
look_up-name word (row ∷ rows) k n h =
    let p = and_parts (is_name row.0) (names_in rows) n in
    by_test word row (look_up word rows) k (bytes_eq word row.0) refl p.0 (look_up-name word rows k p.1) h

pub keyword-name : (word : List ℕ) (k : Keyword) → keyword_of word ≡ Some k → is_name word ≡ true
unfolding names_in
keyword-name word k h = look_up-name word reserved k refl h

-- a name by its parts
pub record IsNamed (word : List ℕ) (b : ℕ) (bytes : List ℕ) : Type 0 where
  pub split : word ≡ b ∷ bytes
  pub letter : is_letter b ≡ true
  pub tail : all_word bytes ≡ true
  pub short : length bytes < 128

pub named : (word : List ℕ) → is_name word ≡ true → (b : ℕ) × (bytes : List ℕ) × IsNamed word b bytes
named [] h = absurd (false≢true h)
named (b ∷ bytes) h =
    let p = and_parts (is_letter b && all_word bytes) (nat_lt (length bytes) 128) h in
    let q = and_parts (is_letter b) (all_word bytes) p.0 in
    (b, bytes, record { split = refl; letter = q.0; tail = q.1; short = ltb-true _ _ p.1 })

pub short-name : (b : ℕ) (bytes : List ℕ) → is_name (b ∷ bytes) ≡ true → length bytes < 128
short-name b bytes n =
    let p = and_parts (is_letter b && all_word bytes) (nat_lt (length bytes) 128) n in ltb-true _ _ p.1

pub name-letter : (b : ℕ) (bytes : List ℕ) → is_name (b ∷ bytes) ≡ true → is_letter b ≡ true
name-letter b bytes n =
    let p = and_parts (is_letter b && all_word bytes) (nat_lt (length bytes) 128) n in
    (and_parts (is_letter b) (all_word bytes) p.0).0

-- the bytes of a word in front of a text
unfoldable pub word_front : List ℕ → List ℕ
word_front [] = []
word_front (b ∷ bytes) = cond (is_word_byte b) (b ∷ word_front bytes) []

pub word_front-append : (bytes rest : List ℕ) → all_word bytes ≡ true → begins_in_word rest ≡ false → word_front (bytes ++ rest) ≡ bytes
unfolding word_front
word_front-append [] [] w e = refl
word_front-append [] (c ∷ rest) w e = rw e refl
word_front-append (b ∷ bytes) rest w e =
    let p = and_parts (is_word_byte b) (all_word bytes) w in rw p.0 (ap (λ x. b ∷ x) (word_front-append bytes rest p.1 e))
