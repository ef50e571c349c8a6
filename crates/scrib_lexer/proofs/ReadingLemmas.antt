-- The loop of the lexer: what it has read of a text, and the tokens or the fault of the whole text.
use Rattle.std.proofs.Common.{◌≡◌, ℕ, ◌+◌, ◌<◌, ◌≤◌, true, inl, inr, List, [], ◌∷◌, ◌++◌, length, take, drop, refl, sym, ap, ◌∙◌, subst, arith, ◌≢◌, Err}
use Rattle.std.proofs.lemmas.List.{append_assoc, append-nil, append_cancel_right, take-append-drop, drop-drop, drop_all, length-take-le, map-append, take-append-le}
use native.Mathlib.Numerals.{unary_clauses}
use Rattle.std.proofs.Math.Seq.{take-add}
use Rattle.scrib_types.specs.declared.spot.Spot.{Spot}
use Rattle.scrib_lexer.specs.declared.token.Element.TheVariants as element
use Rattle.scrib_lexer.specs.declared.token.Element.{Element}
use Rattle.scrib_lexer.specs.declared.token.Token.{Token}
use Rattle.scrib_lexer.specs.declared.token.TokenKind.{TokenKind}
use Rattle.scrib_lexer.specs.declared.fault.LexFault.TheVariants as fault
use Rattle.scrib_lexer.specs.declared.fault.LexFault.{LexFault}
use Rattle.scrib_lexer.specs.Lexeme.{Lexeme, lexeme_of, lexemes_of}
use Rattle.scrib_lexer.specs.Words.{in_line}
use Rattle.scrib_lexer.specs.Pieces.{IsElement, IsLongest, Piece, IsFront, Pieces, bytes_of}
use Rattle.scrib_lexer.specs.Tokens.{spot_after, token_at, tokens_of, IsTokens, FailsWith, LexFailsAt, LexFails, AtOnce, BeginsNothing, BeginsBadString, BeginsBad, BeginsOpenComment, BeginsOpenString, BeginsLongName}
use Rattle.scrib_lexer.specs.Steps.{IsFrontElement, IsFrontFault, IsWrongAt, spot_on, spot_past_all}
use Rattle.scrib_lexer.proofs.Spots.{spot_after-past_all, spot_after-in_line, spot_on-zero}
use Rattle.scrib_lexer.proofs.Quotes.{quotable-in_line, quotable-take}
use Rattle.scrib_lexer.proofs.Front.{one_front}
use Rattle.scrib_lexer.proofs.FaultLemmas.{IsStuck, first-token, stuck-bad, stuck-open_comment, stuck-open_string, stuck-long_name, fault_of, fault-bad, fault-open_comment, fault-open_string, fault-long_name}

-- ---- pieces

pub pieces-split : (text : List ℕ) (ps : List Piece) (rest : List ℕ) → Pieces text ps rest → text ≡ bytes_of ps ++ rest
pieces-split text [] rest h = h
pieces-split text (p ∷ ps) rest h =
    h.1.split ∙ ap (λ x. p.bytes ++ x) (pieces-split h.0 ps rest h.2) ∙ sym (append_assoc p.bytes (bytes_of ps) rest)

pub pieces-push : (text : List ℕ) (ps : List Piece) (p : Piece) (rest more : List ℕ) → Pieces text ps rest → IsFront rest p more → Pieces text (ps ++ p ∷ []) more
pieces-push text [] p rest more h f = (more, record { split = h ∙ f.split; whole = f.whole; longest = f.longest }, refl)
pieces-push text (q ∷ ps) p rest more h f = (h.0, h.1, pieces-push h.0 ps p rest more h.2 f)

tokens_of-append : (before : List ℕ) (ps qs : List Piece) → tokens_of before (ps ++ qs) ≡ tokens_of before ps ++ tokens_of (before ++ bytes_of ps) qs
tokens_of-append before [] qs = ap (λ x. tokens_of x qs) (sym (append-nil before))
tokens_of-append before (p ∷ ps) qs =
    ap (λ x. token_at before p.element p.bytes ++ x) (tokens_of-append (before ++ p.bytes) ps qs) ∙ sym (append_assoc (token_at before p.element p.bytes) (tokens_of (before ++ p.bytes) ps) (tokens_of ((before ++ p.bytes) ++ bytes_of ps) qs)) ∙ ap (λ x. (token_at before p.element p.bytes ++ tokens_of (before ++ p.bytes) ps) ++ tokens_of x qs) (append_assoc before p.bytes (bytes_of ps))

pub tokens_of-push : (ps : List Piece) (p : Piece) → tokens_of [] (ps ++ p ∷ []) ≡ tokens_of [] ps ++ token_at (bytes_of ps) p.element p.bytes
tokens_of-push ps p =
    tokens_of-append [] ps (p ∷ []) ∙ ap (λ x. tokens_of [] ps ++ x) (append-nil (token_at (bytes_of ps) p.element p.bytes))

-- one text, read as far as it can be
pub one_reading : (text : List ℕ) (ps qs : List Piece) (rest after : List ℕ) → Pieces text ps rest → Pieces text qs after → IsStuck rest → IsStuck after → (ps ≡ qs) × (rest ≡ after)
one_reading text [] [] rest after h g s t = (refl, sym h ∙ g)
one_reading text [] (q ∷ qs) rest after h g s t = absurd (s q g.0 (subst (λ x. IsFront x q g.0) h g.1))
one_reading text (p ∷ ps) [] rest after h g s t = absurd (t p h.0 (subst (λ x. IsFront x p h.0) g h.1))
one_reading text (p ∷ ps) (q ∷ qs) rest after h g s t =
    let one = one_front text p q h.0 g.0 h.1 g.1 in
    let more = one_reading h.0 ps qs rest after h.2 (subst (λ x. Pieces x qs after) (sym one.1) g.2) s t in
    ((λ i. one.0 i ∷ more.0 i), more.1)

-- ---- the empty text begins with no piece

pub stuck-nil : IsStuck []
stuck-nil p more f = by p.element p.bytes f.whole f.split
  where
    some : (b : ℕ) (bytes rest : List ℕ) → [] ≡ (b ∷ bytes) ++ rest → ⊥
    some b bytes rest e = cc e

    by : (e : Element) (bytes : List ℕ) → IsElement e bytes → [] ≡ bytes ++ more → ⊥
    by element.Space bytes h e = some h.0 [] more (e ∙ ap (λ x. x ++ more) h.1)
    by element.LineComment bytes h e = some 47 (47 ∷ h.0) more (e ∙ ap (λ x. x ++ more) h.1)
    by element.BlockComment bytes h e = some 47 (42 ∷ (h.0 ++ 42 ∷ 47 ∷ [])) more (e ∙ ap (λ x. x ++ more) h.1)
    by (element.Token k) bytes h e =
        let f = first-token k bytes h in
        some f.0 f.1 more (e ∙ ap (λ x. x ++ more) f.2.split)

-- a text's tokens are one list
pub one_tokens : (text : List ℕ) (ps : List Piece) (all : List Lexeme) → Pieces text ps [] → IsTokens text all → tokens_of [] ps ≡ all
one_tokens text ps all h t =
    ap (tokens_of []) (one_reading text ps t.1.0 [] [] h t.1.1 stuck-nil stuck-nil).0 ∙ sym t.1.2

-- ---- the fault

-- the place at which a text can be read no further, and the fault there
pub record IsFaulty (text : List ℕ) (e : LexFault) : Type 0 where
  pub ps : List Piece
  pub rest : List ℕ
  pub pieces : Pieces text ps rest
  pub some : rest ≢ []
  pub stuck : IsStuck rest
  pub same : e ≡ fault_of (bytes_of ps) rest

faulty : (text : List ℕ) (Wrong : List ℕ → ℕ → Type 0) (fault : Spot → LexFault) (at : Spot) → ((rest : List ℕ) (n : ℕ) → Wrong rest n → IsStuck rest) → ((n : ℕ) → Wrong [] n → ⊥) → ((before rest : List ℕ) (n : ℕ) → Wrong rest n → fault (spot_after (before ++ take n rest)) ≡ fault_of before rest) → FailsWith Wrong text at → IsFaulty text (fault at)
faulty text Wrong fault at stuck some same w =
    record { ps = w.0; rest = w.1; pieces = w.3; some = λ none. some w.2 (subst (λ x. Wrong x w.2) none w.4); stuck = stuck w.1 w.2 w.4; same = ap fault w.5 ∙ same (bytes_of w.0) w.1 w.2 w.4 }

some-bad : (n : ℕ) → BeginsBad [] n → ⊥
some-bad n (inl w) = w.0
some-bad n (inr w) = let e : [] ≡ 34 ∷ ((w.0 ++ 34 ∷ []) ++ w.1) = w.3 in cc e

some-comment : (n : ℕ) → AtOnce BeginsOpenComment [] n → ⊥
some-comment n w = let e : [] ≡ 47 ∷ 42 ∷ w.0.0 = w.0.1 in cc e

some-string : (n : ℕ) → AtOnce BeginsOpenString [] n → ⊥
some-string n w = cc w.0.2

pub is_faulty : (text : List ℕ) (e : LexFault) → e ≢ fault.OutOfMemory → e ≢ fault.TextTooLong → LexFailsAt text e → IsFaulty text e
is_faulty text fault.TextTooLong m l w = absurd (l refl)
is_faulty text (fault.BadByte at) m l w = faulty text BeginsBad fault.BadByte at stuck-bad some-bad fault-bad w.1
is_faulty text (fault.OpenComment at) m l w =
    faulty text (AtOnce BeginsOpenComment) fault.OpenComment at (λ rest n h. stuck-open_comment rest h.0) some-comment fault-open_comment w.1
is_faulty text (fault.OpenString at) m l w =
    faulty text (AtOnce BeginsOpenString) fault.OpenString at (λ rest n h. stuck-open_string rest h.0) some-string fault-open_string w.1
is_faulty text (fault.LongName at) m l w =
    faulty text (AtOnce BeginsLongName) fault.LongName at (λ rest n h. stuck-long_name rest h.0) (λ n h. h.0) fault-long_name w.1
is_faulty text fault.OutOfMemory m l w = absurd (m refl)

-- a text that fails has no tokens
pub no_tokens : (text : List ℕ) (e : LexFault) (all : List Lexeme) → IsFaulty text e → IsTokens text all → ⊥
no_tokens text e all f t = f.some (one_reading text f.ps t.1.0 f.rest [] f.pieces t.1.1 f.stuck stuck-nil).1

pub fits : (text : List ℕ) (e : LexFault) → e ≢ fault.TextTooLong → LexFailsAt text e → length text ≤ 1048576
fits text fault.TextTooLong n w = absurd (n refl)
fits text (fault.BadByte at) n w = w.0
fits text (fault.OpenComment at) n w = w.0
fits text (fault.OpenString at) n w = w.0
fits text (fault.LongName at) n w = w.0
fits text fault.OutOfMemory n w = w

-- a text has one fault
pub same_fault : (text : List ℕ) (e f : LexFault) → IsFaulty text e → IsFaulty text f → f ≡ e
same_fault text e f v w =
    let one = one_reading text w.ps v.ps w.rest v.rest w.pieces v.pieces w.stuck v.stuck in
    w.same ∙ (λ i. fault_of (bytes_of (one.0 i)) (one.1 i)) ∙ sym v.same

-- ---- the loop

-- the text was read up to an index, and these are the tokens
pub record IsRead (text : List ℕ) (i : ℕ) (done : List Lexeme) : Type 0 where
  pub ps : List Piece
  pub pieces : Pieces text ps (drop i text)
  pub tokens : done ≡ tokens_of [] ps

pub read_none : (text : List ℕ) → IsRead text 0 []
read_none text = record { ps = []; pieces = refl; tokens = refl }

bytes_read : (text : List ℕ) (i : ℕ) (ps : List Piece) → Pieces text ps (drop i text) → bytes_of ps ≡ take i text
bytes_read text i ps h =
    append_cancel_right (bytes_of ps) (take i text) (drop i text) (sym (pieces-split text ps (drop i text) h) ∙ sym (take-append-drop i text))

pub read_more : (text : List ℕ) (i len : ℕ) (e : Element) (done : List Lexeme) → IsFrontElement (drop i text) e len → IsRead text i done → IsRead text (i + len) (done ++ token_at (take i text) e (take len (drop i text)))
read_more text i len e done f h =
    let p : Piece = record { element = e; bytes = take len (drop i text) } in
    let rest : drop len (drop i text) ≡ drop (i + len) text = drop-drop len i text in
    let front : IsFront (drop i text) p (drop (i + len) text) =
    record {
      split = sym (take-append-drop len (drop i text)) ∙ ap (λ x. take len (drop i text) ++ x) rest;
      whole = f.whole;
      longest = subst (λ x. IsLongest e x) rest f.longest;
    } in
    record {
      ps = h.ps ++ p ∷ [];
      pieces = pieces-push text h.ps p (drop i text) (drop (i + len) text) h.pieces front;
      tokens = ap (λ x. x ++ token_at (take i text) e p.bytes) h.tokens ∙ ap (λ x. tokens_of [] h.ps ++ token_at x e p.bytes) (sym (bytes_read text i h.ps h.pieces)) ∙ sym (tokens_of-push h.ps p);
    }

pub spot_more : (text : List ℕ) (i len : ℕ) → spot_after (take (i + len) text) ≡ spot_past_all (spot_after (take i text)) (take len (drop i text))
spot_more text i len = ap spot_after (take-add i len text) ∙ spot_after-past_all (take i text) (take len (drop i text))

-- the loop's end
pub end_found : (text : List ℕ) (i : ℕ) (done : List Lexeme) → length text ≤ 1048576 → length text ≤ i → IsRead text i done → IsTokens text done
end_found text i done l e h =
    (l, (h.ps, subst (λ x. Pieces text h.ps x) (drop_all i text e) h.pieces, h.tokens))

pub end_only : (text : List ℕ) (i : ℕ) (done all : List Lexeme) → length text ≤ i → IsRead text i done → IsTokens text all → done ≡ all
end_only text i done all e h t =
    h.tokens ∙ one_tokens text h.ps all (subst (λ x. Pieces text h.ps x) (drop_all i text e) h.pieces) t

-- the fault at the index of the loop
fails_here : (text : List ℕ) (i : ℕ) (done : List Lexeme) (Wrong : List ℕ → ℕ → Type 0) (here at : Spot) → here ≡ spot_after (take i text) → IsRead text i done → ((n : ℕ) → Wrong (drop i text) n → spot_after (take i text ++ take n (drop i text)) ≡ spot_on (spot_after (take i text)) n) → IsWrongAt Wrong (drop i text) here at → FailsWith Wrong text at
fails_here text i done Wrong here at s h on w =
    let place : at ≡ spot_after (bytes_of h.ps ++ take w.0 (drop i text)) =
    w.2 ∙ ap (λ x. spot_on x w.0) s ∙ sym (on w.0 w.1) ∙ ap (λ x. spot_after (x ++ take w.0 (drop i text))) (sym (bytes_read text i h.ps h.pieces)) in
    (h.ps, drop i text, w.0, h.pieces, w.1, place)

on_at_once : (Wrong : List ℕ → Type 0) (before rest : List ℕ) (n : ℕ) → AtOnce Wrong rest n → spot_after (before ++ take n rest) ≡ spot_on (spot_after before) n
on_at_once Wrong before rest n w =
    ap (λ x. spot_after (before ++ take x rest)) w.1 ∙ ap spot_after (append-nil before) ∙ sym (spot_on-zero (spot_after before)) ∙ ap (λ x. spot_on (spot_after before) x) (sym w.1)

on_bad_string : (before rest : List ℕ) (n : ℕ) → BeginsBadString rest n → spot_after (before ++ take n rest) ≡ spot_on (spot_after before) n
on_bad_string before rest n w =
    let inner = w.0 in
    let good = w.2 in
    let short : good ≤ length inner = omega (arith, w.5.short) in
    let front : take n rest ≡ 34 ∷ take good inner =
    ap (λ x. take x rest) w.6 ∙ ap (take (good + 1)) w.3 ∙ simp unary_clauses (ap (λ x. 34 ∷ x) (ap (take good) (append_assoc inner (34 ∷ []) w.1) ∙ take-append-le good inner (34 ∷ w.1) short)) in
    let line : in_line (34 ∷ take good inner) ≡ true = quotable-in_line (take good inner) (quotable-take inner good w.4) in
    ap (λ x. spot_after (before ++ x)) front ∙ spot_after-in_line before (34 ∷ take good inner) line ∙ ap (λ x. spot_on (spot_after before) x) (omega (arith, w.6, length-take-le good inner short))

on_bad : (before rest : List ℕ) (n : ℕ) → BeginsBad rest n → spot_after (before ++ take n rest) ≡ spot_on (spot_after before) n
on_bad before rest n (inl w) = on_at_once BeginsNothing before rest n w
on_bad before rest n (inr w) = on_bad_string before rest n w

pub fault_here : (text : List ℕ) (i : ℕ) (done : List Lexeme) (here : Spot) (e : LexFault) → length text ≤ 1048576 → here ≡ spot_after (take i text) → IsRead text i done → IsFrontFault (drop i text) here e → LexFailsAt text e
fault_here text i done here fault.TextTooLong l s h w = absurd w
fault_here text i done here (fault.BadByte at) l s h w =
    (l, fails_here text i done BeginsBad here at s h (on_bad (take i text) (drop i text)) w)
fault_here text i done here (fault.OpenComment at) l s h w =
    (l, fails_here text i done (AtOnce BeginsOpenComment) here at s h (on_at_once BeginsOpenComment (take i text) (drop i text)) w)
fault_here text i done here (fault.OpenString at) l s h w =
    (l, fails_here text i done (AtOnce BeginsOpenString) here at s h (on_at_once BeginsOpenString (take i text) (drop i text)) w)
fault_here text i done here (fault.LongName at) l s h w =
    (l, fails_here text i done (AtOnce BeginsLongName) here at s h (on_at_once BeginsLongName (take i text) (drop i text)) w)
fault_here text i done here fault.OutOfMemory l s h w = absurd w

-- a fault at the front is neither of the two that have no place
pub placed : (text : List ℕ) (here : Spot) (e : LexFault) → IsFrontFault text here e → (e ≢ fault.OutOfMemory) × (e ≢ fault.TextTooLong)
placed text here fault.TextTooLong w = absurd w
placed text here (fault.BadByte at) w = ((λ e. cc e), (λ e. cc e))
placed text here (fault.OpenComment at) w = ((λ e. cc e), (λ e. cc e))
placed text here (fault.OpenString at) w = ((λ e. cc e), (λ e. cc e))
placed text here (fault.LongName at) w = ((λ e. cc e), (λ e. cc e))
placed text here fault.OutOfMemory w = absurd w

-- ---- the clauses

pub fails_as : (text : List ℕ) (e f : LexFault) → e ≢ fault.OutOfMemory → e ≢ fault.TextTooLong → LexFailsAt text e → f ≢ fault.OutOfMemory → LexFailsAt text f → f ≡ e
fails_as text e fault.TextTooLong m l v n w = absurd (omega (arith, w, fits text e l v))
fails_as text e (fault.BadByte at) m l v n w =
    same_fault text e (fault.BadByte at) (is_faulty text e m l v) (is_faulty text (fault.BadByte at) n (λ x. cc x) w)
fails_as text e (fault.OpenComment at) m l v n w =
    same_fault text e (fault.OpenComment at) (is_faulty text e m l v) (is_faulty text (fault.OpenComment at) n (λ x. cc x) w)
fails_as text e (fault.OpenString at) m l v n w =
    same_fault text e (fault.OpenString at) (is_faulty text e m l v) (is_faulty text (fault.OpenString at) n (λ x. cc x) w)
fails_as text e (fault.LongName at) m l v n w =
    same_fault text e (fault.LongName at) (is_faulty text e m l v) (is_faulty text (fault.LongName at) n (λ x. cc x) w)
fails_as text e fault.OutOfMemory m l v n w = absurd (n refl)

pub refused_as : (text : List ℕ) (e f : LexFault) → f ≡ e → LexFails (Err e) f
refused_as text fault.TextTooLong f s = s
refused_as text (fault.BadByte at) f s = s
refused_as text (fault.OpenComment at) f s = s
refused_as text (fault.OpenString at) f s = s
refused_as text (fault.LongName at) f s = s
refused_as text fault.OutOfMemory f s = tt

pub too_long : (text : List ℕ) (f : LexFault) → 1048576 < length text → f ≢ fault.OutOfMemory → LexFailsAt text f → f ≡ fault.TextTooLong
too_long text fault.TextTooLong l n w = refl
too_long text (fault.BadByte at) l n w = absurd (omega (arith, w.0))
too_long text (fault.OpenComment at) l n w = absurd (omega (arith, w.0))
too_long text (fault.OpenString at) l n w = absurd (omega (arith, w.0))
too_long text (fault.LongName at) l n w = absurd (omega (arith, w.0))
too_long text fault.OutOfMemory l n w = absurd (n refl)

-- a text with tokens has no fault
pub no_fault : (text : List ℕ) (all : List Lexeme) (f : LexFault) → f ≢ fault.OutOfMemory → IsTokens text all → LexFailsAt text f → ⊥
no_fault text all fault.TextTooLong n t w = omega (arith, t.0, w)
no_fault text all (fault.BadByte at) n t w = no_tokens text (fault.BadByte at) all (is_faulty text (fault.BadByte at) n (λ x. cc x) w) t
no_fault text all (fault.OpenComment at) n t w = no_tokens text (fault.OpenComment at) all (is_faulty text (fault.OpenComment at) n (λ x. cc x) w) t
no_fault text all (fault.OpenString at) n t w = no_tokens text (fault.OpenString at) all (is_faulty text (fault.OpenString at) n (λ x. cc x) w) t
no_fault text all (fault.LongName at) n t w = no_tokens text (fault.LongName at) all (is_faulty text (fault.LongName at) n (λ x. cc x) w) t
no_fault text all fault.OutOfMemory n t w = n refl

-- one more token in the vector
pub lexemes_of-push : (tokens more : List Token) (token : Token) → more ≡ tokens ++ token ∷ [] → lexemes_of more ≡ lexemes_of tokens ++ lexeme_of token ∷ []
lexemes_of-push tokens more token e = ap lexemes_of e ∙ map-append lexeme_of tokens (token ∷ [])

-- the loop's two steps: over a token, and over another piece
pub read_token : (text : List ℕ) (i len : ℕ) (e : Element) (k : TokenKind) (tokens more : List Token) (token : Token) → i ≤ length text → e ≡ element.Token k → IsFrontElement (drop i text) e len → IsRead text i (lexemes_of tokens) → more ≡ tokens ++ token ∷ [] → lexeme_of token ≡ record { kind = k; bytes = take len (drop i text); spot = spot_after (take i text) } → IsRead text (i + len) (lexemes_of more)
read_token text i len e k tokens more token l is f h pushed same =
    let next = read_more text i len e (lexemes_of tokens) f h in
    let bytes : List ℕ = take len (drop i text) in
    let one : token_at (take i text) e bytes ≡ lexeme_of token ∷ [] =
    ap (λ x. token_at (take i text) x bytes) is ∙ ap (λ x. x ∷ []) (sym same) in
    subst (λ x. IsRead text (i + len) x) (ap (λ x. lexemes_of tokens ++ x) one ∙ sym (lexemes_of-push tokens more token pushed)) next

no_token_at : (before bytes : List ℕ) (e : Element) → ((k : TokenKind) → e ≡ element.Token k → ⊥) → token_at before e bytes ≡ []
no_token_at before bytes element.Space n = refl
no_token_at before bytes element.LineComment n = refl
no_token_at before bytes element.BlockComment n = refl
no_token_at before bytes (element.Token k) n = absurd (n k refl)

pub read_other : (text : List ℕ) (i len : ℕ) (e : Element) (done : List Lexeme) → ((k : TokenKind) → e ≡ element.Token k → ⊥) → IsFrontElement (drop i text) e len → IsRead text i done → IsRead text (i + len) done
read_other text i len e done n f h =
    subst (λ x. IsRead text (i + len) x) (ap (λ x. done ++ x) (no_token_at (take i text) (take len (drop i text)) e n) ∙ append-nil done) (read_more text i len e done f h)
