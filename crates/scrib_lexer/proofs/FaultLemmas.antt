-- A text that begins with a fault begins with no piece, and has one fault.
use Rattle.std.proofs.Common.{◌≡◌, ℕ, ◌+◌, ◌<◌, Bool, true, false, cond, List, [], ◌∷◌, ◌++◌, length, take, refl, sym, ap, ◌∙◌, subst, arith, ◌==◌, ◌&&◌, ◌||◌, inl, inr, Option, Some, None}
use Rattle.std.specs.Str.{IsUtf8, IsValidUpTo}
use Rattle.std.specs.Str.Lossy.{utf8_valid_len}
use Rattle.std.proofs.lemmas.Bool.{false≢true, eqb-true}
use Rattle.std.proofs.lemmas.Str.{utf8_valid_len-IsValidUpTo, IsUtf8-nil}
use Rattle.std.proofs.lemmas.List.{append_assoc, append-nil, append_cancel_right, take_all}
use Rattle.std.proofs.Math.Seq.{take-append_seam}
use Rattle.scrib_types.specs.Names.{is_letter, is_name}
use Rattle.scrib_lexer.specs.declared.token.Keyword.{Keyword}
use Rattle.scrib_lexer.specs.declared.token.Element.TheVariants as element
use Rattle.scrib_lexer.specs.declared.token.Element.{Element}
use Rattle.scrib_lexer.specs.declared.token.TokenKind.TheVariants as kind
use Rattle.scrib_lexer.specs.declared.token.TokenKind.{TokenKind}
use Rattle.scrib_lexer.specs.declared.fault.LexFault.TheVariants as fault
use Rattle.scrib_lexer.specs.declared.fault.LexFault.{LexFault}
use Rattle.scrib_lexer.specs.Words.{is_space, is_quote, quoted, keyword_of, IsLexeme}
use Rattle.scrib_lexer.specs.Pieces.{has_close, IsElement, Piece, IsFront}
use Rattle.scrib_lexer.specs.Tokens.{spot_after, begins_comment, BeginsNothing, BeginsBadString, BeginsOpenComment, BeginsOpenString, BeginsLongName, AtOnce, BeginsBad}
use Rattle.scrib_lexer.specs.Steps.{quote_in}
use Rattle.scrib_lexer.proofs.Words.{keyword-name, named, short-name}
use Rattle.scrib_lexer.proofs.Quotes.{block_front, has_close-append, quote_in-append, quote_in-open, string_front}
use Rattle.scrib_lexer.proofs.Front.{front, comment_front, front-word, front-string, read_element, front-is, element-is}

-- the text begins with no piece
abbrev pub IsStuck : List ℕ → Type 0
IsStuck rest = (p : Piece) (more : List ℕ) → IsFront rest p more → ⊥

-- ---- a byte with which nothing begins

-- a piece has a first byte
pub record HasFirst (bytes : List ℕ) (b : ℕ) (more : List ℕ) : Type 0 where
  pub split : bytes ≡ b ∷ more

first-name : (bytes : List ℕ) → is_name bytes ≡ true → (b : ℕ) × (more : List ℕ) × HasFirst bytes b more
first-name bytes n = let p = named bytes n in (p.0, p.1, record { split = p.2.split })

pub first-token : (k : TokenKind) (bytes : List ℕ) → IsLexeme k bytes → (b : ℕ) × (more : List ℕ) × HasFirst bytes b more
first-token kind.Name bytes h = first-name bytes h.0
first-token (kind.Keyword k) bytes h = first-name bytes (keyword-name bytes k h)
first-token kind.StringLiteral bytes h = (34, h.0 ++ 34 ∷ [], record { split = h.1 })
first-token kind.Semicolon bytes h = (59, [], record { split = h })
first-token kind.Comma bytes h = (44, [], record { split = h })
first-token kind.Dot bytes h = (46, [], record { split = h })
first-token kind.Colon bytes h = (58, [], record { split = h })
first-token kind.OpenParen bytes h = (40, [], record { split = h })
first-token kind.CloseParen bytes h = (41, [], record { split = h })
first-token kind.OpenBrace bytes h = (123, [], record { split = h })
first-token kind.CloseBrace bytes h = (125, [], record { split = h })
first-token kind.OpenAngle bytes h = (60, [], record { split = h })
first-token kind.CloseAngle bytes h = (62, [], record { split = h })

nothing_in_front : (b : ℕ) (rest : List ℕ) (e : Element) (bytes more : List ℕ) → BeginsNothing (b ∷ rest) → b ∷ rest ≡ bytes ++ more → IsElement e bytes → ⊥
nothing_in_front b rest element.Space bytes more w e h =
    let here : b ∷ rest ≡ h.0 ∷ more = e ∙ ap (λ x. x ++ more) h.1 in
    let same : b ≡ h.0 = cc in
    false≢true (sym w.0 ∙ ap is_space same ∙ h.2)
nothing_in_front b rest element.LineComment bytes more w e h =
    false≢true (sym w.1 ∙ ap begins_comment (e ∙ ap (λ x. x ++ more) h.1))
nothing_in_front b rest element.BlockComment bytes more w e h =
    false≢true (sym w.1 ∙ ap begins_comment (e ∙ ap (λ x. x ++ more) h.1))
nothing_in_front b rest (element.Token k) bytes more w e h =
    let f = first-token k bytes h in
    let here : b ∷ rest ≡ f.0 ∷ (f.1 ++ more) = e ∙ ap (λ x. x ++ more) f.2.split in
    let same : b ≡ f.0 = cc in
    w.2 k f.1 (subst (λ x. IsLexeme k x) (f.2.split ∙ ap (λ x. x ∷ f.1) (sym same)) h)

pub stuck-nothing : (rest : List ℕ) → BeginsNothing rest → IsStuck rest
stuck-nothing [] w p more f = w
stuck-nothing (b ∷ rest) w p more f = nothing_in_front b rest p.element p.bytes more w f.split f.whole

-- ---- a string that is no UTF-8

string_is : (e : Element) (bytes : List ℕ) → element.Token kind.StringLiteral ≡ e → IsElement e bytes → IsLexeme kind.StringLiteral bytes
string_is e bytes same h = subst (λ x. IsElement x bytes) (sym same) h

tail_of : (b c : ℕ) (xs ys : List ℕ) → b ∷ xs ≡ c ∷ ys → xs ≡ ys
tail_of b c xs ys e = cc

no_utf8 : (inner : List ℕ) (good : ℕ) → IsValidUpTo inner good → IsUtf8 inner → ⊥
no_utf8 inner good v u =
    v.longest (length inner) v.short (subst IsUtf8 (sym (take_all (length inner) inner (omega arith))) u)

pub stuck-bad_string : (rest : List ℕ) (n : ℕ) → BeginsBadString rest n → IsStuck rest
unfolding read_element
stuck-bad_string rest n w p more f =
    let inner = w.0 in
    let whole : front rest ≡ quoted inner = ap front w.3 ∙ front-string inner w.1 w.4 in
    let bytes : p.bytes ≡ quoted inner = sym (front-is rest p more f) ∙ whole in
    let is_string : element.Token kind.StringLiteral ≡ p.element = sym (ap read_element whole) ∙ element-is rest p more f in
    let h = string_is p.element p.bytes is_string f.whole in
    let tails : inner ++ 34 ∷ [] ≡ h.0 ++ 34 ∷ [] = tail_of 34 34 _ _ (sym bytes ∙ h.1) in
    let same : inner ≡ h.0 = append_cancel_right inner h.0 (34 ∷ []) tails in
    no_utf8 inner w.2 w.5 (subst IsUtf8 (sym same) h.3)

-- ---- an open comment

block_is : (e : Element) (bytes : List ℕ) → element.BlockComment ≡ e → IsElement e bytes → IsElement element.BlockComment bytes
block_is e bytes same h = subst (λ x. IsElement x bytes) (sym same) h

pub stuck-open_comment : (rest : List ℕ) → BeginsOpenComment rest → IsStuck rest
unfolding front comment_front read_element
stuck-open_comment rest w p more f =
    let inner = w.0 in
    let whole : front rest ≡ 47 ∷ 42 ∷ block_front inner = ap front w.1 in
    let is_block : element.BlockComment ≡ p.element = sym (ap read_element whole) ∙ element-is rest p more f in
    let h = block_is p.element p.bytes is_block f.whole in
    let split : 47 ∷ 42 ∷ inner ≡ 47 ∷ 42 ∷ ((h.0 ++ 42 ∷ 47 ∷ []) ++ more) = sym w.1 ∙ f.split ∙ ap (λ x. x ++ more) h.1 in
    let tails : inner ≡ (h.0 ++ 42 ∷ 47 ∷ []) ++ more = tail_of 42 42 _ _ (tail_of 47 47 _ _ split) in
    false≢true (sym w.2 ∙ ap has_close (tails ∙ append_assoc h.0 (42 ∷ 47 ∷ []) more) ∙ has_close-append h.0 more)

-- ---- an open string

pub stuck-open_string : (rest : List ℕ) → BeginsOpenString rest → IsStuck rest
unfolding front read_element
stuck-open_string rest w p more f =
    let whole : front rest ≡ 34 ∷ string_front (w.0 ++ w.1) = ap front w.2 in
    let is_string : element.Token kind.StringLiteral ≡ p.element = sym (ap read_element whole) ∙ element-is rest p more f in
    let h = string_is p.element p.bytes is_string f.whole in
    let split : 34 ∷ (w.0 ++ w.1) ≡ 34 ∷ ((h.0 ++ 34 ∷ []) ++ more) = sym w.2 ∙ f.split ∙ ap (λ x. x ++ more) h.1 in
    let tails : w.0 ++ w.1 ≡ h.0 ++ 34 ∷ more = tail_of 34 34 _ _ split ∙ append_assoc h.0 (34 ∷ []) more in
    let closed : None ≡ Some (length h.0) = sym (quote_in-open w.0 w.1 w.3 w.4) ∙ ap quote_in tails ∙ quote_in-append h.0 more h.2 in
    cc closed

-- ---- a long name

no_letter : (b : ℕ) (bytes : List ℕ) (c : ℕ) (more : List ℕ) → is_letter c ≡ false → b ∷ bytes ≡ c ∷ more → is_letter b ≡ true → ⊥
no_letter b bytes c more n e l = let same : b ≡ c = cc in false≢true (sym n ∙ ap is_letter (sym same) ∙ l)

short-one : (b : ℕ) (bytes : List ℕ) (c : ℕ) (more : List ℕ) → is_letter c ≡ false → is_letter b ≡ true → b ∷ bytes ≡ c ∷ more → length bytes < 128
short-one b bytes c more n l e = absurd (no_letter b bytes c more n e l)

short-element : (e : Element) (b : ℕ) (bytes : List ℕ) → is_letter b ≡ true → IsElement e (b ∷ bytes) → length bytes < 128
short-element element.Space b bytes l h = let none : bytes ≡ [] = cc h.1 in subst (λ x. length x < 128) (sym none) (omega arith)
short-element element.LineComment b bytes l h = short-one b bytes 47 _ refl l h.1
short-element element.BlockComment b bytes l h = short-one b bytes 47 _ refl l h.1
short-element (element.Token kind.Name) b bytes l h = short-name b bytes h.0
short-element (element.Token (kind.Keyword k)) b bytes l h = short-name b bytes (keyword-name (b ∷ bytes) k h)
short-element (element.Token kind.StringLiteral) b bytes l h = short-one b bytes 34 _ refl l h.1
short-element (element.Token kind.Semicolon) b bytes l h = short-one b bytes 59 _ refl l h
short-element (element.Token kind.Comma) b bytes l h = short-one b bytes 44 _ refl l h
short-element (element.Token kind.Dot) b bytes l h = short-one b bytes 46 _ refl l h
short-element (element.Token kind.Colon) b bytes l h = short-one b bytes 58 _ refl l h
short-element (element.Token kind.OpenParen) b bytes l h = short-one b bytes 40 _ refl l h
short-element (element.Token kind.CloseParen) b bytes l h = short-one b bytes 41 _ refl l h
short-element (element.Token kind.OpenBrace) b bytes l h = short-one b bytes 123 _ refl l h
short-element (element.Token kind.CloseBrace) b bytes l h = short-one b bytes 125 _ refl l h
short-element (element.Token kind.OpenAngle) b bytes l h = short-one b bytes 60 _ refl l h
short-element (element.Token kind.CloseAngle) b bytes l h = short-one b bytes 62 _ refl l h

pub stuck-long_name : (rest : List ℕ) → BeginsLongName rest → IsStuck rest
stuck-long_name [] w p more f = w
stuck-long_name (b ∷ text) w p more f =
    let v = w.1 in
    let whole : front (b ∷ text) ≡ b ∷ v.0 = ap (λ x. front (b ∷ x)) v.2 ∙ front-word b v.0 v.1 w.0 v.3 v.5 in
    let bytes : p.bytes ≡ b ∷ v.0 = sym (front-is (b ∷ text) p more f) ∙ whole in
    let short = short-element p.element b v.0 w.0 (subst (λ x. IsElement p.element x) bytes f.whole) in
    omega (arith, v.4)

-- ---- the one fault

-- the fault of a string, by the bytes after its opening quote
abbrev pub string_fault : (before text : List ℕ) → Option ℕ → LexFault
string_fault before text None = fault.OpenString (spot_after before)
string_fault before text (Some n) = fault.BadByte (spot_after (before ++ take (utf8_valid_len (take n text) + 1) (34 ∷ text)))

abbrev pub is_star : List ℕ → Bool
is_star [] = false
is_star (b ∷ text) = b == 42

-- the fault that the rest begins with
unfoldable pub fault_of : (before rest : List ℕ) → LexFault
fault_of before [] = fault.OutOfMemory
fault_of before (b ∷ text) =
    cond (is_letter b) (fault.LongName (spot_after before)) (cond (is_quote b) (string_fault before text (quote_in text)) (cond ((b == 47) && is_star text) (fault.OpenComment (spot_after before)) (fault.BadByte (spot_after before))))

at_once : (before rest : List ℕ) (n : ℕ) → n ≡ 0 → spot_after (before ++ take n rest) ≡ spot_after before
at_once before rest n e = ap (λ x. spot_after (before ++ take x rest)) e ∙ ap spot_after (append-nil before)

pub fault-long_name : (before rest : List ℕ) (n : ℕ) → AtOnce BeginsLongName rest n → fault.LongName (spot_after (before ++ take n rest)) ≡ fault_of before rest
unfolding fault_of
fault-long_name before [] n w = absurd w.0
fault-long_name before (b ∷ text) n w = rw w.0.0 (ap fault.LongName (at_once before (b ∷ text) n w.1))

pub fault-open_string : (before rest : List ℕ) (n : ℕ) → AtOnce BeginsOpenString rest n → fault.OpenString (spot_after (before ++ take n rest)) ≡ fault_of before rest
unfolding fault_of
fault-open_string before rest n w =
    let v = w.0 in
    let none : quote_in (v.0 ++ v.1) ≡ None = quote_in-open v.0 v.1 v.3 v.4 in
    let here : fault_of before (34 ∷ (v.0 ++ v.1)) ≡ fault.OpenString (spot_after before) = ap (string_fault before (v.0 ++ v.1)) none in
    ap fault.OpenString (at_once before rest n w.1) ∙ sym here ∙ ap (fault_of before) (sym v.2)

pub fault-open_comment : (before rest : List ℕ) (n : ℕ) → AtOnce BeginsOpenComment rest n → fault.OpenComment (spot_after (before ++ take n rest)) ≡ fault_of before rest
unfolding fault_of
fault-open_comment before rest n w =
    ap fault.OpenComment (at_once before rest n w.1) ∙ ap (fault_of before) (sym w.0.1)

nothing-letter : (b : ℕ) (rest : List ℕ) → BeginsNothing (b ∷ rest) → (t : Bool) → is_letter b ≡ t → is_letter b ≡ false
nothing-letter b rest w false l = l
nothing-letter b rest w true l = absurd (by_keyword (keyword_of (b ∷ [])) refl)
  where
    by_keyword : (o : Option Keyword) → keyword_of (b ∷ []) ≡ o → ⊥
    by_keyword (Some k) e = w.2 (kind.Keyword k) [] e
    by_keyword None e = w.2 kind.Name [] (rw l refl, e)

nothing-quote : (b : ℕ) (rest : List ℕ) → BeginsNothing (b ∷ rest) → (t : Bool) → is_quote b ≡ t → is_quote b ≡ false
nothing-quote b rest w false q = q
nothing-quote b rest w true q =
    absurd (w.2 kind.StringLiteral (34 ∷ []) ([], ap (λ x. x ∷ 34 ∷ []) (eqb-true b 34 q), refl, IsUtf8-nil))

nothing-comment : (b : ℕ) (rest : List ℕ) → begins_comment (b ∷ rest) ≡ false → ((b == 47) && is_star rest) ≡ false
nothing-comment b [] h = by (b == 47)
  where
    by : (t : Bool) → (t && false) ≡ false
    by true = refl
    by false = refl
nothing-comment b (c ∷ rest) h = by (b == 47) (c == 47) (c == 42) h
  where
    by : (t u v : Bool) → (t && (u || v)) ≡ false → (t && v) ≡ false
    by false u v h = refl
    by true true v h = absurd (false≢true (sym h))
    by true false v h = h

fault-nothing : (before rest : List ℕ) (n : ℕ) → AtOnce BeginsNothing rest n → fault.BadByte (spot_after (before ++ take n rest)) ≡ fault_of before rest
unfolding fault_of
fault-nothing before [] n w = absurd w.0
fault-nothing before (b ∷ rest) n w =
    rw (nothing-letter b rest w.0 (is_letter b) refl, nothing-quote b rest w.0 (is_quote b) refl, nothing-comment b rest w.0.1) (ap fault.BadByte (at_once before (b ∷ rest) n w.1))

fault-bad_string : (before rest : List ℕ) (n : ℕ) → BeginsBadString rest n → fault.BadByte (spot_after (before ++ take n rest)) ≡ fault_of before rest
unfolding fault_of
fault-bad_string before rest n w =
    let inner = w.0 in
    let text : List ℕ = inner ++ 34 ∷ w.1 in
    let whole : rest ≡ 34 ∷ text = w.3 ∙ ap (λ x. 34 ∷ x) (append_assoc inner (34 ∷ []) w.1) in
    let closed : quote_in text ≡ Some (length inner) = quote_in-append inner w.1 w.4 in
    let good : utf8_valid_len (take (length inner) text) ≡ w.2 = ap utf8_valid_len (take-append_seam inner (34 ∷ w.1)) ∙ utf8_valid_len-IsValidUpTo inner w.2 w.5 in
    let here : fault_of before (34 ∷ text) ≡ fault.BadByte (spot_after (before ++ take (w.2 + 1) (34 ∷ text))) =
    ap (string_fault before text) closed ∙ ap (λ x. fault.BadByte (spot_after (before ++ take (x + 1) (34 ∷ text)))) good in
    ap (λ x. fault.BadByte (spot_after (before ++ take x rest))) w.6 ∙ ap (λ x. fault.BadByte (spot_after (before ++ take (w.2 + 1) x))) whole ∙ sym here ∙ ap (fault_of before) (sym whole)

pub fault-bad : (before rest : List ℕ) (n : ℕ) → BeginsBad rest n → fault.BadByte (spot_after (before ++ take n rest)) ≡ fault_of before rest
fault-bad before rest n (inl w) = fault-nothing before rest n w
fault-bad before rest n (inr w) = fault-bad_string before rest n w

pub stuck-bad : (rest : List ℕ) (n : ℕ) → BeginsBad rest n → IsStuck rest
stuck-bad rest n (inl w) = stuck-nothing rest w.0
stuck-bad rest n (inr w) = stuck-bad_string rest n w
