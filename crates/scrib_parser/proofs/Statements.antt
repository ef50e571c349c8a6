-- Messages, jumps and calls are read by their readers.
use Rattle.std.proofs.Common.{◌≡◌, ℕ, Bool, true, false, cond, List, [], ◌∷◌, ◌++◌, Option, Some, None, Ok, Err, refl, sym, ap, subst, ◌∙◌, append_assoc, inl, inr}
use Rattle.scrib_types.specs.declared.spot.Spot.{Spot}
use Rattle.scrib_lexer.specs.declared.token.Keyword.TheVariants as words
use Rattle.scrib_lexer.specs.declared.token.TokenKind.TheVariants.{Name, Keyword, Semicolon, Comma, OpenParen, CloseParen}
use Rattle.scrib_lexer.specs.Lexeme.{Lexeme}
use Rattle.scrib_parser.specs.declared.fault.LeftOutWord.{LeftOutWord}
use Rattle.scrib_parser.specs.declared.fault.ParseFault.{ParseFault}
use Rattle.scrib_parser.specs.declared.fault.ParseFault.TheVariants.{EndOfText}
use Rattle.scrib_tree.specs.declared.tree.Statement.{Statement}
use Rattle.scrib_tree.specs.declared.tree.Statement as tree
use Rattle.scrib_parser.specs.LeftOut.{statement_word, statement_word_of, left_out_statement}
use Rattle.scrib_parser.specs.Grammar.{Language, ◌·◌, any, joined, listed, spotted_token, token, name, name_at, dotted, element, opening, message, jump, call}
use Rattle.scrib_parser.specs.Reading.{Reader, ReadResult, begins, same_kind, mapped, read_both, after, read_before, token_of, read_name, placed_name_of, dotted_of, payload_of, refusal_behind, paren_behind, named_opening_of, opening_of, read_names, read_message, jump_of, call_of, begins_message}
use Rattle.scrib_parser.proofs.Laws.{free, follows_free, Claim, never, Sends, sends_never, sends_same, IsCause, Taken, Stopped, Leaf, ok_is, err_is, chain_reads}
use Rattle.scrib_parser.proofs.Combinations.{respelled, seen, mapped_reads, both_reads, before_reads, either, branch_reads}
use Rattle.scrib_parser.proofs.Repetition.{begins_front, past}
use Rattle.scrib_parser.proofs.Tokens.{kind_is, token_reads, name_reads, placed_name_reads}
use Rattle.scrib_parser.proofs.FirstTokens.{quiet, before_quiet, first_kind, other_kind, begins_token_at, behind_token}
use Rattle.scrib_parser.proofs.Sequences.{pair_reads, skip_reads, closed_reads, until_reads, ended_reads}
use Rattle.scrib_parser.proofs.Elements.{no_dot, dotted_reads, past_payload, payload_reads, names_reads}

-- ---- messages

abbrev pub Opened : Type 0
Opened = Option (List ℕ) × Spot

-- a left-out word that begins a statement
abbrev pub IsLeftWord : LeftOutWord → Spot → Lexeme → Type 0
IsLeftWord word spot w = (left_out_statement w ≡ Some word) × (w.spot ≡ spot)

-- the first token is reported as left out
abbrev pub at_first : Claim
at_first = record { left = λ word spot ts. (w : Lexeme) × (ts ≡ w ∷ []) × IsLeftWord word spot w; deep = λ ts. ⊥ }

-- the name read_before is reported as left out
abbrev behind_name : List ℕ × Spot → Claim
behind_name op = record { left = λ word spot ts. (ts ≡ []) × (statement_word op.0 ≡ Some word) × (op.1 ≡ spot); deep = λ ts. ⊥ }

paren_taken : (op : List ℕ × Spot) (ts : List Lexeme) (x : Spot) (rest : List Lexeme) → paren_behind op ts ≡ Ok (x, rest) → Taken (paren_behind op) (spotted_token OpenParen) ts x rest
unfolding paren_behind
paren_taken op [] x rest e = absurd cc
paren_taken op (t ∷ ts) x rest e = by (same_kind OpenParen t.kind) refl e
  where
    by : (b : Bool) → same_kind OpenParen t.kind ≡ b → cond {A = ReadResult Spot} b (Ok (t.spot, ts)) (Err (refusal_behind (statement_word op.0) op.1 t)) ≡ Ok (x, rest) → Taken (paren_behind op) (spotted_token OpenParen) (t ∷ ts) x rest
    by true b k =
        let read_both = ok_is {A = Spot × List Lexeme} (t.spot, ts) (x, rest) k in
        record {
          front = t ∷ [];
          parts = ap (λ (p : Spot × List Lexeme). t ∷ p.1) read_both;
          spelled = (t, refl, (sym (kind_is OpenParen t.kind b), ap (λ (p : Spot × List Lexeme). p.0) read_both));
          again = λ u us vs h. rw b (ap (λ (p : Spot × List Lexeme). Ok (p.0, u ∷ vs)) read_both);
        }
    by false b k = absurd (cc k)

-- a parenthesis at any place
some_paren : Lexeme
some_paren = record { kind = OpenParen; bytes = []; spot = record { line = 1; column = 1 } }

refused_by : (op : List ℕ × Spot) (t : Lexeme) (ts : List Lexeme) (o : Option LeftOutWord) (f : ParseFault) → statement_word op.0 ≡ o → refusal_behind o op.1 t ≡ f → IsCause (behind_name op) [] (t ∷ ts) f
refused_by op t ts None f o e = subst (λ (g : ParseFault). IsCause (behind_name op) [] (t ∷ ts) g) e (t, ts, refl, refl)
refused_by op t ts (Some word) f o e = subst (λ (g : ParseFault). IsCause (behind_name op) [] (t ∷ ts) g) e (t, ts, refl, (refl, o, refl))

paren_stopped : (op : List ℕ × Spot) (ts : List Lexeme) (f : ParseFault) → paren_behind op ts ≡ Err f → Stopped (behind_name op) (paren_behind op) (spotted_token OpenParen) ts f
unfolding paren_behind some_paren
paren_stopped op [] f e =
    record { front = []; rest = []; parts = refl; cause = subst (λ (g : ParseFault). IsCause (behind_name op) [] [] g) (err_is {A = Spot × List Lexeme} EndOfText f e) refl; value = some_paren.spot; more = some_paren ∷ []; spelled = (some_paren, refl, (refl, refl)); again = λ u us vs k. absurd cc }
paren_stopped op (t ∷ ts) f e = by (same_kind OpenParen t.kind) refl e
  where
    by : (b : Bool) → same_kind OpenParen t.kind ≡ b → cond {A = ReadResult Spot} b (Ok (t.spot, ts)) (Err (refusal_behind (statement_word op.0) op.1 t)) ≡ Err f → Stopped (behind_name op) (paren_behind op) (spotted_token OpenParen) (t ∷ ts) f
    by true b k = absurd (cc k)
    by false b k =
        let reported : refusal_behind (statement_word op.0) op.1 t ≡ f = err_is {A = Spot × List Lexeme} (refusal_behind (statement_word op.0) op.1 t) f k in
        record {
          front = [];
          rest = t ∷ ts;
          parts = refl;
          cause = refused_by op t ts (statement_word op.0) f refl reported;
          value = some_paren.spot;
          more = some_paren ∷ [];
          spelled = (some_paren, refl, (refl, refl));
          again = λ u us vs m.
              let same : t ≡ u = cc in
              let no : same_kind OpenParen u.kind ≡ false = ap (λ (v : Lexeme). same_kind OpenParen v.kind) (sym same) ∙ b in
              rw no (ap (λ (v : Lexeme). Err (refusal_behind (statement_word op.0) op.1 v)) (sym same) ∙ ap (λ (g : ParseFault). Err g) reported);
        }

paren_again : (op : List ℕ × Spot) (front : List Lexeme) (x : Spot) (rest : List Lexeme) → spotted_token OpenParen x front → paren_behind op (front ++ rest) ≡ Ok (x, rest)
unfolding paren_behind
paren_again op front x rest h =
    let yes : same_kind OpenParen h.0.kind ≡ true = ap (same_kind OpenParen) h.2.0 in
    ap (λ (l : List Lexeme). paren_behind op (l ++ rest)) h.1 ∙ rw yes (ap (λ (s : Spot). Ok (s, rest)) h.2.1)

paren_reads : (op : List ℕ × Spot) → Leaf (behind_name op) (paren_behind op) (spotted_token OpenParen) free
unfolding some_paren
paren_reads op = record {
  taken = paren_taken op;
  again = λ front x rest h fits. paren_again op front x rest h;
  stopped = paren_stopped op;
  wider = λ x ts h. h;
  value = some_paren.spot;
  example = some_paren ∷ [];
  spelled = (some_paren, refl, (refl, refl));
}

-- a form that is left out after a name is so by the name's token
sends_named : (op : List ℕ × Spot) (ts : List Lexeme) → name_at op.0 op.1 ts → Sends ts (behind_name op) at_first
sends_named op ts n = (
  (λ word spot us h. (
    n.0,
    ap (λ (l : List Lexeme). l ++ us) n.1 ∙ ap (λ (l : List Lexeme). n.0 ∷ l) h.0,
    (ap (λ k. statement_word_of k n.0.bytes) n.2.0 ∙ ap statement_word n.2.1 ∙ h.1, n.2.3 ∙ h.2),
  )),
  (λ us h. absurd h),
)

abbrev with_name : List ℕ × Spot → Opened
with_name op = (Some op.0, op.1)

abbrev with_none : Spot → Opened
with_none spot = (None, spot)

abbrev name_and_paren : List ℕ × Spot → Language
name_and_paren op = name_at op.0 op.1 · token OpenParen

named_opening_reads : Leaf at_first named_opening_of (seen with_name name_and_paren) free
unfolding named_opening_of
named_opening_reads =
    respelled at_first named_opening_of _ (seen with_name name_and_paren) free
    (λ p ts h. (h.0, h.1.4.1, (h.1.0, h.1.1, h.1.2, h.1.3, (h.1.4.0, h.1.4.2))))
    (λ p ts h. (h.0, (h.2.0, h.2.1, h.2.2, h.2.3, (h.2.4.0, h.1, h.2.4.1))))
    (chain_reads placed_name_of (λ op. mapped (λ paren. with_name op) (paren_behind op)) (λ op. name_at op.0 op.1) (λ op. name_at op.0 op.1) (λ op. seen (λ (paren : Spot). with_name op) (spotted_token OpenParen)) (λ op. seen (λ (paren : Spot). with_name op) (spotted_token OpenParen)) free free never behind_name at_first
    placed_name_reads (λ op. mapped_reads (behind_name op) (λ (paren : Spot). with_name op) (paren_behind op) (spotted_token OpenParen) free (paren_reads op)) (λ x y ts rest h fits. follows_free (ts ++ rest))
    (sends_never [] at_first, sends_named))

-- with an operator, or without one
abbrev either_opening : Opened → Language
either_opening = either (seen with_name name_and_paren) (seen with_none (spotted_token OpenParen))

opening_to : (p : Opened) (ts : List Lexeme) → either_opening p ts → opening p.0 p.1 ts
opening_to p ts (inl h) = subst (λ (q : Opened). opening q.0 q.1 ts) h.1 h.2
opening_to p ts (inr h) = subst (λ (q : Opened). opening q.0 q.1 ts) h.1 h.2

opening_from : (op : Option (List ℕ)) (spot : Spot) (ts : List Lexeme) → opening op spot ts → either_opening (op, spot) ts
opening_from (Some op) spot ts h = inl ((op, spot), refl, h)
opening_from None spot ts h = inr (spot, refl, h)

pub opening_reads : Leaf at_first opening_of (λ p. opening p.0 p.1) free
unfolding opening_of
opening_reads =
    respelled at_first opening_of either_opening (λ p. opening p.0 p.1) free opening_to (λ p ts h. opening_from p.0 p.1 ts h)
    (branch_reads at_first never at_first (same_kind Name) named_opening_of (mapped with_none (token_of OpenParen)) (seen with_name name_and_paren) (seen with_none (spotted_token OpenParen)) free free free
    named_opening_reads
    (mapped_reads never with_none (token_of OpenParen) (spotted_token OpenParen) free (token_reads OpenParen))
    (sends_same at_first) (sends_never [] at_first)
    (λ p front rest h fits. (begins_front (same_kind Name) front rest (first_kind (same_kind Name) Name h.2.3.0 h.2.0 h.2.1 front refl h.2.3.2.0 h.2.3.1 h.2.2), follows_free rest))
    (λ p front rest h fits. (other_kind (same_kind Name) OpenParen h.2.0 front rest (front ++ rest) refl h.2.2.0 h.2.1 refl, follows_free rest)))

begins_opening : (op : Option (List ℕ)) (spot : Spot) (p : Language) (ts : List Lexeme) → (opening op spot · p) ts → begins begins_message ts ≡ true
begins_opening (Some op) spot p ts h =
    let n = h.3.3 in
    first_kind begins_message Name n.0 h.3.0 (h.3.1 ++ h.1) ts refl n.2.0 n.1 (h.2 ∙ ap (λ (l : List Lexeme). l ++ h.1) h.3.2 ∙ append_assoc h.3.0 h.3.1 h.1)
begins_opening None spot p ts h = begins_token_at begins_message OpenParen spot p ts refl h

-- the tokens after a message's payload, and after its parenthesis
abbrev ends_of : Reader (List ℕ × List (List ℕ))
ends_of = after (token_of (Keyword words.From)) (read_both read_name (after (token_of (Keyword words.To)) (read_before read_names (token_of Semicolon))))

abbrev ends : List ℕ × List (List ℕ) → Language
ends p = token (Keyword words.From) · name p.0 · token (Keyword words.To) · joined name (token Comma) p.1 · token Semicolon

ends_reads : Leaf never ends_of ends free
ends_reads =
    let last = ended_reads read_names (joined name (token Comma)) (past (same_kind Comma) free) Semicolon names_reads (refl, tt) in
    skip_reads (token_of (Keyword words.From)) _ (spotted_token (Keyword words.From)) _ (token_reads (Keyword words.From))
    (until_reads read_name (read_before read_names (token_of Semicolon)) name (λ ns. joined name (token Comma) ns · token Semicolon) free free (Keyword words.To) name_reads last tt)

abbrev Said : Type 0
Said = Opened × (List (List (List ℕ)) × (List ℕ × List (List ℕ)))

abbrev said_of : Reader Said
said_of = read_both opening_of (read_both payload_of (after (token_of CloseParen) ends_of))

abbrev said : Said → Language
said x = opening x.0.0 x.0.1 · listed element (token Comma) x.1.0 · token CloseParen · ends x.1.1

said_reads : Leaf at_first said_of said free
said_reads =
    both_reads at_first never at_first opening_of (read_both payload_of (after (token_of CloseParen) ends_of)) (λ p. opening p.0 p.1) (λ x. listed element (token Comma) x.0 · token CloseParen · ends x.1) free free opening_reads
    (until_reads payload_of ends_of (listed element (token Comma)) ends past_payload free CloseParen payload_reads ends_reads (refl, (refl, (refl, (refl, tt)))))
    (λ y ts rest h fits. follows_free (ts ++ rest)) (before_quiet (λ p. opening p.0 p.1) at_first at_first (sends_same at_first))

abbrev message_made : Said → Statement
message_made x = tree.Message (record { op = x.0.0; payload = x.1.0 }) x.1.1.0 x.1.1.1 x.0.1

pub message_reads : Leaf at_first read_message message free
unfolding read_message
message_reads =
    respelled at_first read_message (seen message_made said) message free
    (λ s ts h. (record { op = h.0.0.0; payload = h.0.1.0 }, h.0.1.1.0, h.0.1.1.1, h.0.0.1, sym h.1, h.2))
    (λ s ts h. (((h.0.op, h.3), (h.0.payload, (h.1, h.2))), sym h.4, h.5))
    (mapped_reads at_first message_made said_of said free said_reads)

pub begins_with_message : (s : Statement) (ts : List Lexeme) → message s ts → begins begins_message ts ≡ true
begins_with_message s ts h = begins_opening h.0.op h.3 _ ts h.5

-- ---- jumps and calls

abbrev jump_made : Spot × List ℕ → Statement
jump_made x = tree.Continue x.1 x.0

pub jump_reads : Leaf never jump_of jump free
unfolding jump_of
jump_reads =
    respelled never jump_of (seen jump_made (λ x. spotted_token (Keyword words.Continue) x.0 · name x.1 · token Semicolon)) jump free
    (λ s ts h. (h.0.1, h.0.0, sym h.1, h.2)) (λ s ts h. ((h.1, h.0), sym h.2, h.3))
    (mapped_reads never jump_made (read_both (token_of (Keyword words.Continue)) (read_before read_name (token_of Semicolon))) (λ x. spotted_token (Keyword words.Continue) x.0 · name x.1 · token Semicolon) free
    (pair_reads (token_of (Keyword words.Continue)) (read_before read_name (token_of Semicolon)) (spotted_token (Keyword words.Continue)) (λ n. name n · token Semicolon) (token_reads (Keyword words.Continue))
    (closed_reads read_name (token_of Semicolon) name (spotted_token Semicolon) name_reads (token_reads Semicolon))))

abbrev Called : Type 0
Called = Spot × (List (List ℕ) × List (List ℕ))

abbrev call_made : Called → Statement
call_made x = tree.Do x.1.0 x.1.1 x.0

abbrev arguments : List (List ℕ) → Language
arguments roles = joined name (token Comma) roles · token CloseParen · token Semicolon

abbrev called : Called → Language
called x = spotted_token (Keyword words.Do) x.0 · dotted x.1.0 · token OpenParen · arguments x.1.1

arguments_reads : Leaf never (read_before read_names (after (token_of CloseParen) (token_of Semicolon))) arguments free
arguments_reads =
    respelled never _ (λ roles. joined name (token Comma) roles · any (λ spot. token CloseParen · spotted_token Semicolon spot)) arguments free
    (λ roles ts h. (h.0, h.1, h.2, h.3, (h.4.1.0, h.4.1.1, h.4.1.2, h.4.1.3, (h.4.0, h.4.1.4))))
    (λ roles ts h. (h.0, h.1, h.2, h.3, (h.4.4.0, (h.4.0, h.4.1, h.4.2, h.4.3, h.4.4.1))))
    (before_reads never never never read_names (after (token_of CloseParen) (token_of Semicolon)) (joined name (token Comma)) (λ spot. token CloseParen · spotted_token Semicolon spot) (past (same_kind Comma) free) free names_reads
    (skip_reads (token_of CloseParen) (token_of Semicolon) (spotted_token CloseParen) (spotted_token Semicolon) (token_reads CloseParen) (token_reads Semicolon))
    (λ spot ts rest h fits. behind_token (past (same_kind Comma) free) CloseParen (spotted_token Semicolon spot) ts rest (refl, tt) h) (quiet (joined name (token Comma))))

pub call_reads : Leaf never call_of call free
unfolding call_of
call_reads =
    respelled never call_of (seen call_made called) call free
    (λ s ts h. (h.0.1.0, h.0.1.1, h.0.0, sym h.1, h.2)) (λ s ts h. ((h.2, (h.0, h.1)), sym h.3, h.4))
    (mapped_reads never call_made _ called free
    (pair_reads (token_of (Keyword words.Do)) (read_both dotted_of (after (token_of OpenParen) (read_before read_names (after (token_of CloseParen) (token_of Semicolon))))) (spotted_token (Keyword words.Do)) (λ x. dotted x.0 · token OpenParen · arguments x.1) (token_reads (Keyword words.Do))
    (until_reads dotted_of (read_before read_names (after (token_of CloseParen) (token_of Semicolon))) dotted arguments no_dot free OpenParen dotted_reads arguments_reads (refl, tt))))
