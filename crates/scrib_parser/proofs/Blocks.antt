-- Each nonterminal of the grammar that contains blocks is read by its reader.
use Rattle.std.proofs.Common.{◌≡◌, ℕ, zero, suc, Bool, true, false, cond, List, [], ◌∷◌, ◌++◌, Result, Err, refl, sym, ap, subst, ◌∙◌, inl, inr}
use Rattle.std.proofs.lemmas.List.{append-nil}
use Rattle.scrib_types.specs.declared.spot.Spot.{Spot}
use Rattle.scrib_lexer.specs.declared.token.Keyword.TheVariants as words
use Rattle.scrib_lexer.specs.declared.token.TokenKind.{TokenKind}
use Rattle.scrib_lexer.specs.declared.token.TokenKind.TheVariants.{Name, Keyword, Semicolon, OpenParen, OpenBrace, CloseBrace}
use Rattle.scrib_lexer.specs.Lexeme.{Lexeme}
use Rattle.scrib_parser.specs.declared.fault.ParseFault.{ParseFault}
use Rattle.scrib_parser.specs.declared.fault.ParseFault.TheVariants.{Unexpected, EndOfText, LeftOut, TooDeep, OutOfMemory}
use Rattle.scrib_tree.specs.declared.tree.Block.{Block}
use Rattle.scrib_tree.specs.declared.tree.Statement.{Statement}
use Rattle.scrib_tree.specs.declared.tree.Statement as tree
use Rattle.scrib_parser.specs.Grammar.{Language, ◌·◌, many, joined, spotted_token, token, name, message, choice, recursion, jump, call, statement, block}
use Rattle.scrib_parser.specs.Reading.{Reader, Stops, begins, same_kind, mapped, read_both, after, read_before, branch, repeated, token_of, read_name, begins_message, read_message, read_blocks, read_choice, recursion_of, jump_of, call_of, statement_of, begins_statement, statements_of, deep_fault, opened_block_of, block_of}
use Rattle.scrib_parser.proofs.Laws.{free, follows_free, Claim, never, Sends, sends_never, sends_same, IsCause, Stopped, Reads, err_is, chain_reads}
use Rattle.scrib_parser.proofs.Combinations.{respelled_up, seen, mapped_up, either, branch_up}
use Rattle.scrib_parser.proofs.Repetition.{Takes, takes, begins_front, past, many_up}
use Rattle.scrib_parser.proofs.Tokens.{kind_is, token_reads, name_reads}
use Rattle.scrib_parser.proofs.FirstTokens.{begins_token, begins_token_at, behind_token_at}
use Rattle.scrib_parser.proofs.Statements.{at_first, message_reads, begins_with_message, jump_reads, call_reads}
use Rattle.scrib_parser.proofs.Claims.{claim_of, begun_on, both_claimed, after_claimed, before_claimed, mapped_claimed, respelled_claimed}

-- ---- tests of a first token

-- a token of one kind is of no other
pub other : (a b : TokenKind) → same_kind b a ≡ false → (kind : TokenKind) → same_kind a kind ≡ true → same_kind b kind ≡ false
other a b h kind e = subst (λ (k : TokenKind). same_kind b k ≡ false) (kind_is a kind e) h

no_message : (word : _) (kind : TokenKind) → begins_message kind ≡ true → same_kind (Keyword word) kind ≡ false
no_message word Name e = refl
no_message word OpenParen e = refl
no_message word _ e = absurd cc

-- what passes one test fails another, or passes it
pub apart : (test fails : TokenKind → Bool) → ((kind : TokenKind) → test kind ≡ true → fails kind ≡ false) → (front rest : List Lexeme) → begins test front ≡ true → begins fails (front ++ rest) ≡ false
apart test fails h [] rest e = absurd cc
apart test fails h (t ∷ front) rest e = h t.kind e

pub along : (test passes : TokenKind → Bool) → ((kind : TokenKind) → test kind ≡ true → passes kind ≡ true) → (ts : List Lexeme) → begins test ts ≡ true → begins passes ts ≡ true
along test passes h [] e = absurd cc
along test passes h (t ∷ ts) e = h t.kind e

-- a token that continues a choice
abbrev pub past_choice : TokenKind → Type 0
past_choice = past (same_kind (Keyword words.Or)) free

pub begins_choice : (block : Block → Language) (s : Statement) (ts : List Lexeme) → choice block s ts → begins (same_kind (Keyword words.Choice)) ts ≡ true
begins_choice block s ts h = begins_token_at (same_kind (Keyword words.Choice)) (Keyword words.Choice) h.2 _ ts refl h.4

pub begins_recursion : (block : Block → Language) (s : Statement) (ts : List Lexeme) → recursion block s ts → begins (same_kind (Keyword words.Rec)) ts ≡ true
begins_recursion block s ts h = begins_token_at (same_kind (Keyword words.Rec)) (Keyword words.Rec) h.2 _ ts refl h.4

begins_jump : (s : Statement) (ts : List Lexeme) → jump s ts → begins (same_kind (Keyword words.Continue)) ts ≡ true
begins_jump s ts h = begins_token_at (same_kind (Keyword words.Continue)) (Keyword words.Continue) h.1 _ ts refl h.3

begins_call : (s : Statement) (ts : List Lexeme) → call s ts → begins (same_kind (Keyword words.Do)) ts ≡ true
begins_call s ts h = begins_token_at (same_kind (Keyword words.Do)) (Keyword words.Do) h.2 _ ts refl h.4

is_statement : (kind word : TokenKind) → begins_statement word ≡ true → same_kind word kind ≡ true → begins_statement kind ≡ true
is_statement kind word h e = ap begins_statement (sym (kind_is word kind e)) ∙ h

message_statement : (kind : TokenKind) → begins_message kind ≡ true → begins_statement kind ≡ true
message_statement Name e = refl
message_statement OpenParen e = refl
message_statement _ e = absurd cc

pub begins_a_statement : (block : Block → Language) (s : Statement) (ts : List Lexeme) → statement block s ts → begins begins_statement ts ≡ true
begins_a_statement block s ts (inl h) = along begins_message begins_statement message_statement ts (begins_with_message s ts h)
begins_a_statement block s ts (inr (inl h)) =
    along (same_kind (Keyword words.Choice)) begins_statement (λ kind e. is_statement kind (Keyword words.Choice) refl e) ts (begins_choice block s ts h)
begins_a_statement block s ts (inr (inr (inl h))) =
    along (same_kind (Keyword words.Rec)) begins_statement (λ kind e. is_statement kind (Keyword words.Rec) refl e) ts (begins_recursion block s ts h)
begins_a_statement block s ts (inr (inr (inr (inl h)))) =
    along (same_kind (Keyword words.Continue)) begins_statement (λ kind e. is_statement kind (Keyword words.Continue) refl e) ts (begins_jump s ts h)
begins_a_statement block s ts (inr (inr (inr (inr h)))) =
    along (same_kind (Keyword words.Do)) begins_statement (λ kind e. is_statement kind (Keyword words.Do) refl e) ts (begins_call s ts h)

pub statement_no_or : (kind : TokenKind) → begins_statement kind ≡ true → same_kind (Keyword words.Or) kind ≡ false
statement_no_or (Keyword words.Or) e = absurd cc
statement_no_or (Keyword words.Choice) e = refl
statement_no_or (Keyword words.Rec) e = refl
statement_no_or (Keyword words.Continue) e = refl
statement_no_or (Keyword words.Do) e = refl
statement_no_or Name e = refl
statement_no_or OpenParen e = refl
statement_no_or _ e = absurd cc

-- ---- statements, over the blocks in them

-- the jump with which a statement may begin
a_token : TokenKind → Lexeme
a_token kind = record { kind = kind; bytes = 97 ∷ []; spot = record { line = 1; column = 1 } }

abbrev a_jump : List Lexeme
a_jump = a_token Name ∷ a_token Semicolon ∷ []

kind_of_token : (kind : TokenKind) → (a_token kind).kind ≡ kind
unfolding a_token
kind_of_token kind = refl

jump_spelled : jump (tree.Continue (97 ∷ []) (record { line = 1; column = 1 })) (a_token (Keyword words.Continue) ∷ a_jump)
unfolding a_token
jump_spelled = (
  97 ∷ [],
  record { line = 1; column = 1 },
  refl,
  (
    a_token (Keyword words.Continue) ∷ [],
    a_jump,
    refl,
    (a_token (Keyword words.Continue), refl, (refl, refl)),
    (a_token Name ∷ [], a_token Semicolon ∷ [], refl, (record { line = 1; column = 1 }, (a_token Name, refl, (refl, refl, refl, refl))), (record { line = 1; column = 1 }, (a_token Semicolon, refl, (refl, refl)))),
  ),
)

module _ (reader : Reader Block) (B W : Block → Language) (r : Reads (claim_of W) reader B W free) where
  abbrev pub or_B : Block → Language
  or_B b = token (Keyword words.Or) · B b

  abbrev or_W : Block → Language
  or_W b = token (Keyword words.Or) · W b

  pub or_reads : Reads (claim_of or_W) (after (token_of (Keyword words.Or)) reader) or_B or_W free
  or_reads = after_claimed (token_of (Keyword words.Or)) reader (spotted_token (Keyword words.Or)) B W free free (token_reads (Keyword words.Or)) r (λ y ts rest h fits. follows_free (ts ++ rest))

  pub begins_or : (b : Block) (ts : List Lexeme) → or_B b ts → begins (same_kind (Keyword words.Or)) ts ≡ true
  begins_or b ts h = begins_token (same_kind (Keyword words.Or)) (Keyword words.Or) (B b) ts refl h

  pub or_takes : Takes (same_kind (Keyword words.Or)) (after (token_of (Keyword words.Or)) reader)
  or_takes = takes (claim_of or_W) (claim_of (many or_W)) (same_kind (Keyword words.Or)) (after (token_of (Keyword words.Or)) reader) or_B or_W free or_reads begins_or

  more_blocks_reads : Reads (claim_of (many or_W)) (repeated (same_kind (Keyword words.Or)) (after (token_of (Keyword words.Or)) reader)) (many or_B) (many or_W) past_choice
  more_blocks_reads =
      many_up (claim_of or_W) (claim_of (many or_W)) (same_kind (Keyword words.Or)) (after (token_of (Keyword words.Or)) reader) or_B or_W free or_reads begins_or (λ kind e. tt) (
        begun_on [] or_W (many or_W) (λ b. b ∷ []) (λ b us k. (us, [], sym (append-nil us), k, refl)),
        (λ b ts h. begun_on ts (many or_W) (many or_W) (λ bs. b ∷ bs) (λ bs us k. (ts, us, refl, or_reads.wider b ts h, k))),
      )

  abbrev pub joined_B : List Block → Language
  joined_B bs = joined B (token (Keyword words.Or)) bs

  abbrev joined_W : List Block → Language
  joined_W bs = joined W (token (Keyword words.Or)) bs

  split_B : (bs : List Block) (ts : List Lexeme) → joined_B bs ts → (x : Block) × (B x · seen (λ (xs : List Block). x ∷ xs) (many or_B) bs) ts
  split_B [] ts h = absurd h
  split_B (x ∷ xs) ts h = (x, (h.0, h.1, h.2, h.3, (xs, refl, h.4)))

  blocks_reads : Reads (claim_of joined_W) (read_blocks reader) joined_B joined_W past_choice
  unfolding read_blocks
  blocks_reads =
      respelled_up (claim_of joined_W) _ _ _ joined_B joined_W past_choice
      (λ y ts h. subst (λ (z : List Block). joined_B z ts) h.1.4.1 (h.1.0, h.1.1, h.1.2, h.1.3, h.1.4.2))
      split_B
      (λ y ts h. subst (λ (z : List Block). joined_W z ts) h.1.4.1 (h.1.0, h.1.1, h.1.2, h.1.3, h.1.4.2))
      (chain_reads reader (λ first. mapped (λ more. first ∷ more) (repeated (same_kind (Keyword words.Or)) (after (token_of (Keyword words.Or)) reader)))
      B W (λ x. seen (λ (xs : List Block). x ∷ xs) (many or_B)) (λ x. seen (λ (xs : List Block). x ∷ xs) (many or_W)) free past_choice (claim_of W) (λ x. claim_of (many or_W)) (claim_of joined_W) r
      (λ x. mapped_up (claim_of (many or_W)) (λ (xs : List Block). x ∷ xs) (repeated (same_kind (Keyword words.Or)) (after (token_of (Keyword words.Or)) reader)) (many or_B) (many or_W) past_choice more_blocks_reads)
      (λ x y ts rest h fits. follows_free (ts ++ rest)) (
        begun_on [] W joined_W (λ b. b ∷ []) (λ b us k. (us, [], sym (append-nil us), k, refl)),
        (λ b ts h. begun_on ts (many or_W) joined_W (λ bs. b ∷ bs) (λ bs us k. (ts, us, refl, r.wider b ts h, k))),
      ))

  -- ---- choices and recursions

  abbrev Chosen : Type 0
  Chosen = Spot × (List ℕ × List Block)

  abbrev chosen_made : Chosen → Statement
  chosen_made x = tree.Choice x.1.0 x.1.1 x.0

  abbrev pub chosen : (List Block → Language) → Chosen → Language
  chosen bs x = spotted_token (Keyword words.Choice) x.0 · token (Keyword words.At) · name x.1.0 · bs x.1.1

  chosen_reads : Reads (claim_of (chosen joined_W)) (read_both (token_of (Keyword words.Choice)) (after (token_of (Keyword words.At)) (read_both read_name (read_blocks reader)))) (chosen joined_B) (chosen joined_W) past_choice
  chosen_reads =
      both_claimed (token_of (Keyword words.Choice)) (after (token_of (Keyword words.At)) (read_both read_name (read_blocks reader))) (spotted_token (Keyword words.Choice)) (λ x. token (Keyword words.At) · name x.0 · joined_B x.1) (λ x. token (Keyword words.At) · name x.0 · joined_W x.1) free past_choice (token_reads (Keyword words.Choice))
      (after_claimed (token_of (Keyword words.At)) (read_both read_name (read_blocks reader)) (spotted_token (Keyword words.At)) (λ x. name x.0 · joined_B x.1) (λ x. name x.0 · joined_W x.1) free past_choice (token_reads (Keyword words.At))
      (both_claimed read_name (read_blocks reader) name joined_B joined_W free past_choice name_reads blocks_reads (λ y ts rest h fits. follows_free (ts ++ rest)))
      (λ y ts rest h fits. follows_free (ts ++ rest)))
      (λ y ts rest h fits. follows_free (ts ++ rest))

  choice_reads : Reads (claim_of (choice W)) (read_choice reader) (choice B) (choice W) past_choice
  unfolding read_choice
  choice_reads =
      respelled_claimed _ (seen chosen_made (chosen joined_B)) (seen chosen_made (chosen joined_W)) (choice B) (choice W) past_choice
      (λ s ts h. (h.0.1.0, h.0.1.1, h.0.0, sym h.1, h.2)) (λ s ts h. ((h.2, (h.0, h.1)), sym h.3, h.4)) (λ s ts h. (h.0.1.0, h.0.1.1, h.0.0, sym h.1, h.2))
      (mapped_claimed chosen_made _ (chosen joined_B) (chosen joined_W) past_choice chosen_reads)

  abbrev Repeating : Type 0
  Repeating = Spot × (List ℕ × Block)

  abbrev repeating_made : Repeating → Statement
  repeating_made x = tree.Rec x.1.0 x.1.1.body x.0

  abbrev pub repeating : (Block → Language) → Repeating → Language
  repeating b x = spotted_token (Keyword words.Rec) x.0 · name x.1.0 · b x.1.1

  repeating_reads : Reads (claim_of (repeating W)) (read_both (token_of (Keyword words.Rec)) (read_both read_name reader)) (repeating B) (repeating W) free
  repeating_reads =
      both_claimed (token_of (Keyword words.Rec)) (read_both read_name reader) (spotted_token (Keyword words.Rec)) (λ x. name x.0 · B x.1) (λ x. name x.0 · W x.1) free free (token_reads (Keyword words.Rec))
      (both_claimed read_name reader name B W free free name_reads r (λ y ts rest h fits. follows_free (ts ++ rest)))
      (λ y ts rest h fits. follows_free (ts ++ rest))

  recursion_reads : Reads (claim_of (recursion W)) (recursion_of reader) (recursion B) (recursion W) free
  unfolding recursion_of
  recursion_reads =
      respelled_claimed _ (seen repeating_made (repeating B)) (seen repeating_made (repeating W)) (recursion B) (recursion W) free
      (λ s ts h. (h.0.1.0, h.0.1.1, h.0.0, sym h.1, h.2)) (λ s ts h. ((h.2, (h.0, h.1)), sym h.3, h.4)) (λ s ts h. (h.0.1.0, h.0.1.1, h.0.0, sym h.1, h.2))
      (mapped_claimed repeating_made _ (repeating B) (repeating W) free repeating_reads)

  -- ---- statements

  abbrev of_W : Claim
  of_W = claim_of (statement W)

  sends_message : Sends [] at_first of_W
  sends_message = (
    (λ word spot ts h. ([], h.0, h.1, h.2, (a_token (Keyword words.Continue), kind_of_token (Keyword words.Continue), (tree.Continue (97 ∷ []) (record { line = 1; column = 1 }), a_jump, inr (inr (inr (inl jump_spelled))))))),
    (λ ts h. absurd h),
  )

  abbrev behind_do : (Block → Language) → Statement → Language
  behind_do b = either call message

  abbrev behind_continue : (Block → Language) → Statement → Language
  behind_continue b = either jump (behind_do b)

  abbrev behind_rec : (Block → Language) → Statement → Language
  behind_rec b = either (recursion b) (behind_continue b)

  abbrev in_order : (Block → Language) → Statement → Language
  in_order b = either (choice b) (behind_rec b)

  no_call : (s : Statement) (front rest : List Lexeme) → message s front → begins (same_kind (Keyword words.Do)) (front ++ rest) ≡ false
  no_call s front rest h = apart begins_message (same_kind (Keyword words.Do)) (no_message words.Do) front rest (begins_with_message s front h)

  no_jump : (s : Statement) (front rest : List Lexeme) → behind_do B s front → begins (same_kind (Keyword words.Continue)) (front ++ rest) ≡ false
  no_jump s front rest (inl h) = apart (same_kind (Keyword words.Do)) (same_kind (Keyword words.Continue)) (other (Keyword words.Do) (Keyword words.Continue) refl) front rest (begins_call s front h)
  no_jump s front rest (inr h) = apart begins_message (same_kind (Keyword words.Continue)) (no_message words.Continue) front rest (begins_with_message s front h)

  no_rec : (s : Statement) (front rest : List Lexeme) → behind_continue B s front → begins (same_kind (Keyword words.Rec)) (front ++ rest) ≡ false
  no_rec s front rest (inl h) = apart (same_kind (Keyword words.Continue)) (same_kind (Keyword words.Rec)) (other (Keyword words.Continue) (Keyword words.Rec) refl) front rest (begins_jump s front h)
  no_rec s front rest (inr (inl h)) = apart (same_kind (Keyword words.Do)) (same_kind (Keyword words.Rec)) (other (Keyword words.Do) (Keyword words.Rec) refl) front rest (begins_call s front h)
  no_rec s front rest (inr (inr h)) = apart begins_message (same_kind (Keyword words.Rec)) (no_message words.Rec) front rest (begins_with_message s front h)

  no_choice : (s : Statement) (front rest : List Lexeme) → behind_rec B s front → begins (same_kind (Keyword words.Choice)) (front ++ rest) ≡ false
  no_choice s front rest (inl h) = apart (same_kind (Keyword words.Rec)) (same_kind (Keyword words.Choice)) (other (Keyword words.Rec) (Keyword words.Choice) refl) front rest (begins_recursion B s front h)
  no_choice s front rest (inr (inl h)) = apart (same_kind (Keyword words.Continue)) (same_kind (Keyword words.Choice)) (other (Keyword words.Continue) (Keyword words.Choice) refl) front rest (begins_jump s front h)
  no_choice s front rest (inr (inr (inl h))) = apart (same_kind (Keyword words.Do)) (same_kind (Keyword words.Choice)) (other (Keyword words.Do) (Keyword words.Choice) refl) front rest (begins_call s front h)
  no_choice s front rest (inr (inr (inr h))) = apart begins_message (same_kind (Keyword words.Choice)) (no_message words.Choice) front rest (begins_with_message s front h)

  behind_do_reads : Reads of_W (branch (same_kind (Keyword words.Do)) call_of read_message) (behind_do B) (behind_do W) past_choice
  behind_do_reads =
      branch_up never at_first of_W (same_kind (Keyword words.Do)) call_of read_message call call message message free free past_choice call_reads message_reads (sends_never [] of_W) sends_message
      (λ s front rest h fits. (begins_front (same_kind (Keyword words.Do)) front rest (begins_call s front h), follows_free rest))
      (λ s front rest h fits. (no_call s front rest h, follows_free rest))

  behind_continue_reads : Reads of_W (branch (same_kind (Keyword words.Continue)) jump_of (branch (same_kind (Keyword words.Do)) call_of read_message)) (behind_continue B) (behind_continue W) past_choice
  behind_continue_reads =
      branch_up never of_W of_W (same_kind (Keyword words.Continue)) jump_of (branch (same_kind (Keyword words.Do)) call_of read_message) jump jump (behind_do B) (behind_do W) free past_choice past_choice jump_reads behind_do_reads (sends_never [] of_W) (sends_same of_W)
      (λ s front rest h fits. (begins_front (same_kind (Keyword words.Continue)) front rest (begins_jump s front h), follows_free rest))
      (λ s front rest h fits. (no_jump s front rest h, fits))

  behind_rec_reads : Reads of_W (branch (same_kind (Keyword words.Rec)) (recursion_of reader) (branch (same_kind (Keyword words.Continue)) jump_of (branch (same_kind (Keyword words.Do)) call_of read_message))) (behind_rec B) (behind_rec W) past_choice
  behind_rec_reads =
      branch_up (claim_of (recursion W)) of_W of_W (same_kind (Keyword words.Rec)) (recursion_of reader) (branch (same_kind (Keyword words.Continue)) jump_of (branch (same_kind (Keyword words.Do)) call_of read_message)) (recursion B) (recursion W) (behind_continue B) (behind_continue W) free past_choice past_choice recursion_reads behind_continue_reads
      (begun_on [] (recursion W) (statement W) (λ s. s) (λ s us k. inr (inr (inl k)))) (sends_same of_W)
      (λ s front rest h fits. (begins_front (same_kind (Keyword words.Rec)) front rest (begins_recursion B s front h), follows_free rest))
      (λ s front rest h fits. (no_rec s front rest h, fits))

  reordered : (b : Block → Language) (s : Statement) (ts : List Lexeme) → in_order b s ts → statement b s ts
  reordered b s ts (inl h) = inr (inl h)
  reordered b s ts (inr (inl h)) = inr (inr (inl h))
  reordered b s ts (inr (inr (inl h))) = inr (inr (inr (inl h)))
  reordered b s ts (inr (inr (inr (inl h)))) = inr (inr (inr (inr h)))
  reordered b s ts (inr (inr (inr (inr h)))) = inl h

  ordered : (b : Block → Language) (s : Statement) (ts : List Lexeme) → statement b s ts → in_order b s ts
  ordered b s ts (inl h) = inr (inr (inr (inr h)))
  ordered b s ts (inr (inl h)) = inl h
  ordered b s ts (inr (inr (inl h))) = inr (inl h)
  ordered b s ts (inr (inr (inr (inl h)))) = inr (inr (inl h))
  ordered b s ts (inr (inr (inr (inr h)))) = inr (inr (inr (inl h)))

  pub statement_reads : Reads of_W (statement_of reader) (statement B) (statement W) past_choice
  unfolding statement_of
  statement_reads =
      respelled_up of_W (statement_of reader) (in_order B) (in_order W) (statement B) (statement W) past_choice (reordered B) (ordered B) (reordered W)
      (branch_up (claim_of (choice W)) of_W of_W (same_kind (Keyword words.Choice)) (read_choice reader) (branch (same_kind (Keyword words.Rec)) (recursion_of reader) (branch (same_kind (Keyword words.Continue)) jump_of (branch (same_kind (Keyword words.Do)) call_of read_message))) (choice B) (choice W) (behind_rec B) (behind_rec W) past_choice past_choice past_choice choice_reads behind_rec_reads
      (begun_on [] (choice W) (statement W) (λ s. s) (λ s us k. inr (inl k))) (sends_same of_W)
      (λ s front rest h fits. (begins_front (same_kind (Keyword words.Choice)) front rest (begins_choice B s front h), fits))
      (λ s front rest h fits. (no_choice s front rest h, fits)))

  pub statement_takes : Takes begins_statement (statement_of reader)
  statement_takes = takes of_W of_W begins_statement (statement_of reader) (statement B) (statement W) past_choice statement_reads (begins_a_statement B)

  statements_reads : Reads (claim_of (many (statement W))) (statements_of reader) (many (statement B)) (many (statement W)) (past begins_statement past_choice)
  unfolding statements_of
  statements_reads =
      many_up of_W (claim_of (many (statement W))) begins_statement (statement_of reader) (statement B) (statement W) past_choice statement_reads (begins_a_statement B) (λ kind e. (statement_no_or kind e, tt)) (
        begun_on [] (statement W) (many (statement W)) (λ s. s ∷ []) (λ s us k. (us, [], sym (append-nil us), k, refl)),
        (λ s ts h. begun_on ts (many (statement W)) (many (statement W)) (λ ss. s ∷ ss) (λ ss us k. (ts, us, refl, statement_reads.wider s ts h, k))),
      )

  -- ---- the block around them

  abbrev body : (Block → Language) → List Statement → Language
  body b ss = many (statement b) ss · token CloseBrace

  abbrev pub opened : (Block → Language) → Block → Language
  opened b x = spotted_token OpenBrace x.spot · body b x.body

  body_reads : Reads (claim_of (body W)) (read_before (statements_of reader) (token_of CloseBrace)) (body B) (body W) free
  body_reads =
      before_claimed (statements_of reader) (token_of CloseBrace) (many (statement B)) (many (statement W)) (spotted_token CloseBrace) (past begins_statement past_choice) free statements_reads (token_reads CloseBrace)
      (λ spot ts rest h fits. behind_token_at (past begins_statement past_choice) CloseBrace spot ts rest (refl, (refl, tt)) h)

  abbrev paired : (Block → Language) → Spot × List Statement → Language
  paired b x = spotted_token OpenBrace x.0 · body b x.1

  abbrev block_made : Spot × List Statement → Block
  block_made x = record { body = x.1; spot = x.0 }

  pub opened_reads : Reads (claim_of (opened W)) (opened_block_of reader) (opened B) (opened W) free
  unfolding opened_block_of
  opened_reads =
      respelled_claimed _ (seen block_made (paired B)) (seen block_made (paired W)) (opened B) (opened W) free
      (λ x ts h. subst (λ (b : Block). opened B b ts) h.1 h.2) (λ x ts h. ((x.spot, x.body), refl, h)) (λ x ts h. subst (λ (b : Block). opened W b ts) h.1 h.2)
      (mapped_claimed block_made _ (paired B) (paired W) free
      (both_claimed (token_of OpenBrace) (read_before (statements_of reader) (token_of CloseBrace)) (spotted_token OpenBrace) (body B) (body W) free free (token_reads OpenBrace) body_reads (λ y ts rest h fits. follows_free (ts ++ rest))))

-- ---- blocks of a number of levels

closing : List Lexeme
closing = a_token CloseBrace ∷ []

-- an empty block
empty_block : (t : Lexeme) → t.kind ≡ OpenBrace → block 1 (record { body = []; spot = t.spot }) (t ∷ closing)
unfolding block closing a_token
empty_block t k = (t ∷ [], a_token CloseBrace ∷ [], refl, (t, refl, (k, refl)), ([], a_token CloseBrace ∷ [], refl, refl, (record { line = 1; column = 1 }, (a_token CloseBrace, refl, (refl, refl)))))

deep_cause : (t : Lexeme) (ts : List Lexeme) (b : Bool) (f : ParseFault) → same_kind OpenBrace t.kind ≡ b → cond b (TooDeep t.spot) (Unexpected t.spot) ≡ f → IsCause (claim_of (block 1)) [] (t ∷ ts) f
deep_cause t ts true f b e =
    let brace : t.kind ≡ OpenBrace = sym (kind_is OpenBrace t.kind b) in
    subst (λ (g : ParseFault). IsCause (claim_of (block 1)) [] (t ∷ ts) g) e (t, ts, refl, brace, refl, (record { body = []; spot = t.spot }, closing, empty_block t brace))
deep_cause t ts false f b e = subst (λ (g : ParseFault). IsCause (claim_of (block 1)) [] (t ∷ ts) g) e (t, ts, refl, refl)

a_brace : Lexeme
a_brace = a_token OpenBrace

brace_kind : a_brace.kind ≡ OpenBrace
unfolding a_brace a_token
brace_kind = refl

too_deep_stopped : (ts : List Lexeme) (f : ParseFault) → block_of zero ts ≡ Err f → Stopped (claim_of (block 1)) (block_of zero) (block 1) ts f
unfolding block_of
too_deep_stopped [] f e =
    record {
      front = [];
      rest = [];
      parts = refl;
      cause = subst (λ (g : ParseFault). IsCause (claim_of (block 1)) [] [] g) (err_is {A = Block × List Lexeme} EndOfText f e) refl;
      value = record { body = []; spot = a_brace.spot };
      more = a_brace ∷ closing;
      spelled = empty_block a_brace brace_kind;
      again = λ u us vs k. absurd cc;
    }
too_deep_stopped (t ∷ ts) f e =
    let reported = err_is {A = Block × List Lexeme} (deep_fault (t ∷ ts)) f e in
    record {
      front = [];
      rest = t ∷ ts;
      parts = refl;
      cause = deep_cause t ts (same_kind OpenBrace t.kind) f refl reported;
      value = record { body = []; spot = a_brace.spot };
      more = a_brace ∷ closing;
      spelled = empty_block a_brace brace_kind;
      again = λ u us vs k.
          let same : u ≡ t = cc in
          ap (λ (g : ParseFault). Err g) (ap (λ (v : Lexeme). deep_fault (v ∷ vs)) same ∙ reported);
    }

too_deep_reads : Reads (claim_of (block 1)) (block_of zero) (block zero) (block 1) free
unfolding block_of block
too_deep_reads = record {
  taken = λ ts x rest e. absurd (cc e);
  again = λ front x rest h fits. absurd h;
  stopped = too_deep_stopped;
  wider = λ x ts h. absurd h;
  value = record { body = []; spot = a_brace.spot };
  example = a_brace ∷ closing;
  spelled = empty_block a_brace brace_kind;
}

pub block_reads : (levels : ℕ) → Reads (claim_of (block (suc levels))) (block_of levels) (block levels) (block (suc levels)) free
unfolding block_of block
block_reads zero = too_deep_reads
block_reads (suc levels) = opened_reads (block_of levels) (block levels) (block (suc levels)) (block_reads levels)

pub statement_takes_of : (levels : ℕ) → Takes begins_statement (statement_of (block_of levels))
statement_takes_of levels = statement_takes (block_of levels) (block levels) (block (suc levels)) (block_reads levels)

pub or_takes_of : (levels : ℕ) → Takes (same_kind (Keyword words.Or)) (after (token_of (Keyword words.Or)) (block_of levels))
or_takes_of levels = or_takes (block_of levels) (block levels) (block (suc levels)) (block_reads levels)

-- ---- one level less

pub stops_at : {A : Type 0} (f : ParseFault) (read : Result A ParseFault) → read ≡ Err f → Stops f read
stops_at (Unexpected spot) read e = e
stops_at EndOfText read e = e
stops_at (LeftOut word spot) read e = e
stops_at (TooDeep spot) read e = e
stops_at OutOfMemory read e = tt

pub stops_deep : (levels : ℕ) (ts : List Lexeme) (f : ParseFault) → levels ≡ 0 → f ≡ deep_fault ts → Stops f (block_of levels ts)
unfolding block_of
stops_deep levels ts f e d = stops_at f (block_of levels ts) (ap (λ n. block_of n ts) e ∙ ap (λ (g : ParseFault). Err g) (sym d))

pub opens_more : (levels less : ℕ) (ts : List Lexeme) → levels ≡ suc less → opened_block_of (block_of less) ts ≡ block_of levels ts
unfolding block_of
opens_more levels less ts e = ap (λ n. block_of n ts) (sym e)
