-- Where a statement may begin, reading continues as at a statement: a token that begins none stops it.
use Rattle.std.proofs.Common.{◌≡◌, ℕ, zero, suc, Bool, true, false, List, [], ◌∷◌, ◌++◌, Option, Some, None, Ok, Err, refl, sym, ap, subst, ◌∙◌, append_assoc, inl, inr}
use Rattle.std.specs.Prelude.{◌⊎◌}
use Rattle.scrib_types.specs.declared.spot.Spot.{Spot}
use Rattle.scrib_lexer.specs.declared.token.Keyword.TheVariants as words
use Rattle.scrib_lexer.specs.declared.token.TokenKind.{TokenKind}
use Rattle.scrib_lexer.specs.declared.token.TokenKind.TheVariants.{Name, Keyword, Semicolon, Comma, OpenParen, CloseParen, OpenBrace, CloseBrace}
use Rattle.scrib_lexer.specs.Lexeme.{Lexeme}
use Rattle.scrib_parser.specs.declared.fault.ParseFault.{ParseFault}
use Rattle.scrib_tree.specs.declared.tree.Import.{Import}
use Rattle.scrib_tree.specs.declared.tree.ProtocolDeclaration.{ProtocolDeclaration}
use Rattle.scrib_tree.specs.declared.tree.RoleDeclaration.{RoleDeclaration}
use Rattle.scrib_tree.specs.declared.tree.Block.{Block}
use Rattle.scrib_tree.specs.declared.tree.Statement.{Statement}
use Rattle.scrib_tree.specs.declared.tree.Statement as tree
use Rattle.scrib_parser.specs.Grammar.{Language, ◌·◌, any, many, joined, spotted_token, token, name, dotted, message, choice, recursion, jump, call, statement, block, role, protocol, type_declaration, declaration, kept, «import», module_text}
use Rattle.scrib_parser.specs.Reading.{Reader, ReadResult, begins, same_kind, mapped, read_both, after, read_before, repeated, token_of, read_name, dotted_of, read_blocks, read_choice, recursion_of, statement_of, begins_statement, statements_of, opened_block_of, block_of, read_roles, protocol_of, read_declaration, begins_declaration, declarations_of, imports_of, module_of}
use Rattle.scrib_parser.proofs.Laws.{Follows, free, follows_free, Claim, never, Reads, Leaf}
use Rattle.scrib_parser.proofs.Combinations.{seen}
use Rattle.scrib_parser.proofs.Repetition.{Takes, takes, begins_front, past, repeated_goes, follows_items}
use Rattle.scrib_parser.proofs.Tokens.{kind_is, token_reads, name_reads}
use Rattle.scrib_parser.proofs.FirstTokens.{behind_token}
use Rattle.scrib_parser.proofs.Elements.{no_dot, dotted_reads}
use Rattle.scrib_parser.proofs.Headers.{roles_reads, imports_reads}
use Rattle.scrib_parser.proofs.Claims.{claim_of}
use Rattle.scrib_parser.proofs.Blocks.{other, past_choice, begins_choice, begins_recursion, begins_a_statement, statement_no_or, or_reads, begins_or, block_reads, statement_reads}
use Rattle.scrib_parser.proofs.Modules.{declaration_reads, begins_a_declaration, begins_protocol, behind_imports, past_imports, in_module, module_from, module_made}
use Rattle.scrib_parser.proofs.TokenKinds.{parted, Plain, none_in, IsRare, plain_at, plain_token, plain_name, plain_message, plain_call, plain_dotted, plain_roles, plain_imports, plain_type, plain_behind_jump}

-- the word with which statements alone begin
abbrev pub go : TokenKind
go = Keyword words.Continue

rare : IsRare go
rare = record {
  no_name = refl;
  no_dot = refl;
  no_colon = refl;
  no_comma = refl;
  no_semicolon = refl;
  no_open = refl;
  no_close = refl;
  no_text = refl;
  no_angle = refl;
  no_angle_end = refl;
  no_from = refl;
  no_to = refl;
  no_do = refl;
  no_as = refl;
  no_role = refl;
  no_type = refl;
  no_import = refl;
}

module _ (us : List Lexeme) (f : ParseFault) (named : begins (same_kind Name) us ≡ true) where
  -- where such a word may follow, reading other tokens there stops with the fault
  abbrev pub Breaks : {A : Type 0} → Reader A → (A → Language) → Type 0
  Breaks {A} reader L = (x : A) (front : List Lexeme) (c : Lexeme) (more : List Lexeme) → L x (front ++ c ∷ more) → c.kind ≡ go → ◌≡◌ {A = ReadResult A} (reader (front ++ us)) (Err f)

  begins_us : (test : TokenKind → Bool) → test Name ≡ true → begins test us ≡ true
  begins_us test h = at us named
    where
      at : (ts : List Lexeme) → begins (same_kind Name) ts ≡ true → begins test ts ≡ true
      at [] e = absurd cc
      at (t ∷ ts) e = ap test (sym (kind_is Name t.kind e)) ∙ h

  follows_us : (F : TokenKind → Type 0) → F Name → Follows F us
  follows_us F h = at us named
    where
      at : (ts : List Lexeme) → begins (same_kind Name) ts ≡ true → Follows F ts
      at [] e = tt
      at (t ∷ ts) e = subst F (kind_is Name t.kind e) h

  follows_on : (F : TokenKind → Type 0) → F Name → (b : List Lexeme) (c : Lexeme) (more : List Lexeme) → Follows F ((b ++ c ∷ more) ++ []) → Follows F (b ++ us)
  follows_on F h [] c more k = follows_us F h
  follows_on F h (v ∷ b) c more k = k

  -- a first part that doesn't contain such a word
  module _ {A B : Type 0} (first : Reader A) (second : Reader B) (P : A → Language) (M : B → Language) (F : TokenKind → Type 0) where
    passed : Leaf never first P F → ((x : A) → Plain go (P x)) → F Name → ((y : B) (ts : List Lexeme) → M y ts → Follows F (ts ++ [])) → Breaks second M
        → (x : A) (y : B) (front : List Lexeme) (c : Lexeme) (more : List Lexeme) → (P x · M y) (front ++ c ∷ more) → c.kind ≡ go → (b : List Lexeme) × (first (front ++ us) ≡ Ok (x, b ++ us)) × (second (b ++ us) ≡ Err f)
    passed r plain fits joins breaks x y front c more h g = at (parted front c more h.0 h.1 h.2)
      where
        at : (((m : List Lexeme) × (h.0 ≡ front ++ c ∷ m)) ⊎ ((b : List Lexeme) × (front ≡ h.0 ++ b) × (h.1 ≡ b ++ c ∷ more))) → (b : List Lexeme) × (first (front ++ us) ≡ Ok (x, b ++ us)) × (second (b ++ us) ≡ Err f)
        at (inl k) = absurd (none_in go (P x) front c k.0 (plain x) (subst (P x) k.1 h.3) g)
        at (inr k) =
            let second_part : M y (k.0 ++ c ∷ more) = subst (M y) k.2 h.4 in
            let one = r.again h.0 x (k.0 ++ us) h.3 (follows_on F fits k.0 c more (joins y (k.0 ++ c ∷ more) second_part)) in
            (k.0, ap first (ap (λ (l : List Lexeme). l ++ us) k.1 ∙ append_assoc h.0 k.0 us) ∙ one, breaks y k.0 c more second_part g)

    pub breaks_both : Leaf never first P F → ((x : A) → Plain go (P x)) → F Name → ((y : B) (ts : List Lexeme) → M y ts → Follows F (ts ++ [])) → Breaks second M → Breaks {A = A × B} (read_both first second) (λ p. P p.0 · M p.1)
    breaks_both r plain fits joins breaks p front c more h g =
        let k = passed r plain fits joins breaks p.0 p.1 front c more h g in rw (k.1, k.2) refl

    pub breaks_after : Leaf never first P F → ((x : A) → Plain go (P x)) → F Name → ((y : B) (ts : List Lexeme) → M y ts → Follows F (ts ++ [])) → Breaks second M → Breaks (after first second) (λ y. any P · M y)
    breaks_after r plain fits joins breaks y front c more h g =
        let k = passed r plain fits joins breaks h.3.0 y front c more (h.0, h.1, h.2, h.3.1, h.4) g in rw (k.1, k.2) refl

  breaks_before : {A B : Type 0} (first : Reader A) (second : Reader B) (L : A → Language) (M : B → Language) → Breaks first L → Plain go (any M) → Breaks (read_before first second) (λ x. L x · any M)
  breaks_before first second L M breaks plain x front c more h g = at (parted front c more h.0 h.1 h.2)
    where
      at : (((m : List Lexeme) × (h.0 ≡ front ++ c ∷ m)) ⊎ ((b : List Lexeme) × (front ≡ h.0 ++ b) × (h.1 ≡ b ++ c ∷ more))) → read_before first second (front ++ us) ≡ Err f
      at (inl k) = let one = breaks x front c k.0 (subst (L x) k.1 h.3) g in rw one refl
      at (inr k) = absurd (none_in go (any M) k.0 c more plain (subst (any M) k.2 h.4) g)

  breaks_seen : {A B : Type 0} (k : A → B) (reader : Reader A) (L : A → Language) → Breaks reader L → Breaks (mapped k reader) (seen k L)
  breaks_seen k reader L breaks y front c more h g = let one = breaks h.0 front c more h.2 g in rw one refl

  module _ {A : Type 0} (C : Claim) (test : TokenKind → Bool) (item : Reader A) (L U : A → Language) (F : TokenKind → Type 0) where
    begins_on : (x : A) (front : List Lexeme) (c : Lexeme) (m : List Lexeme) → ((x : A) (ts : List Lexeme) → L x ts → begins test ts ≡ true) → ((x : A) (c : Lexeme) (more : List Lexeme) → L x (c ∷ more) → c.kind ≡ go → test Name ≡ true) → L x (front ++ c ∷ m) → c.kind ≡ go → begins test (front ++ us) ≡ true
    begins_on x [] c m starts first h g = begins_us test (first x c m h g)
    begins_on x (v ∷ front) c m starts first h g = starts x (v ∷ front ++ c ∷ m) h

    pub breaks_many : Reads C item L U F → ((x : A) (ts : List Lexeme) → L x ts → begins test ts ≡ true) → ((x : A) (c : Lexeme) (more : List Lexeme) → L x (c ∷ more) → c.kind ≡ go → test Name ≡ true) → ((kind : TokenKind) → test kind ≡ true → F kind) → F Name → Breaks item L → Breaks (repeated test item) (many L)
    breaks_many r starts first goes fits breaks [] front c more h g = absurd (no_item front h)
      where
        no_item : (front : List Lexeme) → front ++ c ∷ more ≡ [] → ⊥
        no_item [] e = cc e
        no_item (v ∷ front) e = cc e
    breaks_many r starts first goes fits breaks (x ∷ xs) front c more h g = at (parted front c more h.0 h.1 h.2) (λ b k. breaks_many r starts first goes fits breaks xs b c more k g)
      where
        one_takes : Takes test item
        one_takes = takes C C test item L U F r starts

        at : (((m : List Lexeme) × (h.0 ≡ front ++ c ∷ m)) ⊎ ((b : List Lexeme) × (front ≡ h.0 ++ b) × (h.1 ≡ b ++ c ∷ more))) → ((b : List Lexeme) → many L xs (b ++ c ∷ more) → repeated test item (b ++ us) ≡ Err f) → repeated test item (front ++ us) ≡ Err f
        at (inl k) later =
            let here : L x (front ++ c ∷ k.0) = subst (L x) k.1 h.3 in
            let one = breaks x front c k.0 here g in
            repeated_goes test item one_takes (front ++ us) (begins_on x front c k.0 starts first here g) ∙ rw one refl
        at (inr k) later =
            let rest : many L xs (k.0 ++ c ∷ more) = subst (many L xs) k.2 h.4 in
            let one = r.again h.0 x (k.0 ++ us) h.3 (follows_on F fits k.0 c more (follows_items C C test item L U F starts goes xs (k.0 ++ c ∷ more) [] rest tt)) in
            let two = later k.0 rest in
            ap (repeated test item) (ap (λ (l : List Lexeme). l ++ us) k.1 ∙ append_assoc h.0 k.0 us)
            ∙ repeated_goes test item one_takes (h.0 ++ (k.0 ++ us)) (begins_front test h.0 (k.0 ++ us) (starts x h.0 h.3))
            ∙ rw (one, two) refl

  breaks_respelled : {A : Type 0} (reader : Reader A) (L M : A → Language) → ((x : A) (ts : List Lexeme) → M x ts → L x ts) → Breaks reader L → Breaks reader M
  breaks_respelled reader L M from breaks x front c more h g = breaks x front c more (from x (front ++ c ∷ more) h) g

  -- a token that passes a test which the word fails
  not_go : (test : TokenKind → Bool) → test go ≡ false → (c : Lexeme) → test c.kind ≡ true → c.kind ≡ go → ⊥
  not_go test h c e g = let no : true ≡ false = sym e ∙ ap test g ∙ h in cc no

  module _ (fails : (levels : ℕ) → statement_of (block_of levels) us ≡ Err f) where
    module _ (levels : ℕ) (inner : Breaks (block_of levels) (block levels)) where
      abbrev reader : Reader Block
      reader = block_of levels

      abbrev B : Block → Language
      B = block levels

      abbrev W : Block → Language
      W = block (suc levels)

      abbrev more_of : Reader (List Block)
      more_of = repeated (same_kind (Keyword words.Or)) (after (token_of (Keyword words.Or)) reader)

      breaks_or : Breaks (after (token_of (Keyword words.Or)) reader) (λ b. token (Keyword words.Or) · B b)
      breaks_or = breaks_after (token_of (Keyword words.Or)) reader (spotted_token (Keyword words.Or)) B free (token_reads (Keyword words.Or)) (λ spot. plain_at go (Keyword words.Or) spot refl) tt (λ y ts h. follows_free (ts ++ [])) inner

      breaks_more : Breaks more_of (many (λ b. token (Keyword words.Or) · B b))
      breaks_more =
          breaks_many (claim_of (λ b. token (Keyword words.Or) · W b)) (same_kind (Keyword words.Or)) (after (token_of (Keyword words.Or)) reader) (λ b. token (Keyword words.Or) · B b) (λ b. token (Keyword words.Or) · W b) free
          (or_reads reader B W (block_reads levels)) (begins_or reader B W (block_reads levels))
          (λ b c more h g. absurd (not_go (same_kind (Keyword words.Or)) refl c (begins_or reader B W (block_reads levels) b (c ∷ more) h) g)) (λ kind e. tt) tt breaks_or

      breaks_blocks : Breaks (read_blocks reader) (λ bs. joined B (token (Keyword words.Or)) bs)
      unfolding read_blocks
      breaks_blocks [] front c more h g = absurd h
      breaks_blocks (x ∷ xs) front c more h g = at (parted front c more h.0 h.1 h.2)
        where
          at : (((m : List Lexeme) × (h.0 ≡ front ++ c ∷ m)) ⊎ ((b : List Lexeme) × (front ≡ h.0 ++ b) × (h.1 ≡ b ++ c ∷ more))) → read_blocks reader (front ++ us) ≡ Err f
          at (inl k) = let one = inner x front c k.0 (subst (B x) k.1 h.3) g in rw one refl
          at (inr k) =
              let one = (block_reads levels).again h.0 x (k.0 ++ us) h.3 (follows_free (k.0 ++ us)) in
              let two = breaks_more xs k.0 c more (subst (many (λ b. token (Keyword words.Or) · B b) xs) k.2 h.4) g in
              ap (read_blocks reader) (ap (λ (l : List Lexeme). l ++ us) k.1 ∙ append_assoc h.0 k.0 us) ∙ rw (one, two) refl

      abbrev chosen_of : Reader (Spot × (List ℕ × List Block))
      chosen_of = read_both (token_of (Keyword words.Choice)) (after (token_of (Keyword words.At)) (read_both read_name (read_blocks reader)))

      breaks_choice : Breaks (read_choice reader) (choice B)
      unfolding read_choice
      breaks_choice =
          breaks_respelled (read_choice reader) (seen (λ (x : Spot × (List ℕ × List Block)). tree.Choice x.1.0 x.1.1 x.0) (λ x. spotted_token (Keyword words.Choice) x.0 · token (Keyword words.At) · name x.1.0 · joined B (token (Keyword words.Or)) x.1.1)) (choice B)
          (λ s ts h. ((h.2, (h.0, h.1)), sym h.3, h.4))
          (breaks_seen (λ (x : Spot × (List ℕ × List Block)). tree.Choice x.1.0 x.1.1 x.0) chosen_of (λ x. spotted_token (Keyword words.Choice) x.0 · token (Keyword words.At) · name x.1.0 · joined B (token (Keyword words.Or)) x.1.1)
          (breaks_both (token_of (Keyword words.Choice)) (after (token_of (Keyword words.At)) (read_both read_name (read_blocks reader))) (spotted_token (Keyword words.Choice)) (λ x. token (Keyword words.At) · name x.0 · joined B (token (Keyword words.Or)) x.1) free (token_reads (Keyword words.Choice)) (λ spot. plain_at go (Keyword words.Choice) spot refl) tt (λ y ts h. follows_free (ts ++ []))
          (breaks_after (token_of (Keyword words.At)) (read_both read_name (read_blocks reader)) (spotted_token (Keyword words.At)) (λ x. name x.0 · joined B (token (Keyword words.Or)) x.1) free (token_reads (Keyword words.At)) (λ spot. plain_at go (Keyword words.At) spot refl) tt (λ y ts h. follows_free (ts ++ []))
          (breaks_both read_name (read_blocks reader) name (λ bs. joined B (token (Keyword words.Or)) bs) free name_reads (plain_name go refl) tt (λ y ts h. follows_free (ts ++ [])) breaks_blocks))))

      abbrev repeating_of : Reader (Spot × (List ℕ × Block))
      repeating_of = read_both (token_of (Keyword words.Rec)) (read_both read_name reader)

      breaks_recursion : Breaks (recursion_of reader) (recursion B)
      unfolding recursion_of
      breaks_recursion =
          breaks_respelled (recursion_of reader) (seen (λ (x : Spot × (List ℕ × Block)). tree.Rec x.1.0 x.1.1.body x.0) (λ x. spotted_token (Keyword words.Rec) x.0 · name x.1.0 · B x.1.1)) (recursion B)
          (λ s ts h. ((h.2, (h.0, h.1)), sym h.3, h.4))
          (breaks_seen (λ (x : Spot × (List ℕ × Block)). tree.Rec x.1.0 x.1.1.body x.0) repeating_of (λ x. spotted_token (Keyword words.Rec) x.0 · name x.1.0 · B x.1.1)
          (breaks_both (token_of (Keyword words.Rec)) (read_both read_name reader) (spotted_token (Keyword words.Rec)) (λ x. name x.0 · B x.1) free (token_reads (Keyword words.Rec)) (λ spot. plain_at go (Keyword words.Rec) spot refl) tt (λ y ts h. follows_free (ts ++ []))
          (breaks_both read_name reader name B free name_reads (plain_name go refl) tt (λ y ts h. follows_free (ts ++ [])) inner)))

      -- a jump has the word at its start alone
      no_jump_in : (s : Statement) (v : Lexeme) (front : List Lexeme) (c : Lexeme) (more : List Lexeme) → jump s (v ∷ front ++ c ∷ more) → c.kind ≡ go → ⊥
      no_jump_in s v front c more h g = at (parted (v ∷ front) c more h.3.0 h.3.1 h.3.2)
        where
          short : (front : List Lexeme) (m : List Lexeme) → [] ≡ front ++ c ∷ m → ⊥
          short [] m e = cc e
          short (x ∷ front) m e = cc e

          at : (((m : List Lexeme) × (h.3.0 ≡ v ∷ (front ++ c ∷ m))) ⊎ ((b : List Lexeme) × (v ∷ front ≡ h.3.0 ++ b) × (h.3.1 ≡ b ++ c ∷ more))) → ⊥
          at (inl k) = let one : h.3.3.0 ∷ [] ≡ v ∷ (front ++ c ∷ k.0) = sym h.3.3.1 ∙ k.1 in let tail : [] ≡ front ++ c ∷ k.0 = cc in short front k.0 tail
          at (inr k) = none_in go (name h.0 · token Semicolon) k.0 c more (plain_behind_jump go rare h.0) (subst (name h.0 · token Semicolon) k.2 h.3.4) g

      breaks_statement : Breaks (statement_of reader) (statement B)
      unfolding statement_of
      breaks_statement s [] c more h g = fails levels
      breaks_statement s (v ∷ front) c more (inl h) g = absurd (none_in go (message s) (v ∷ front) c more (plain_message go rare s) h g)
      breaks_statement s (v ∷ front) c more (inr (inl h)) g =
          let b : same_kind (Keyword words.Choice) v.kind ≡ true = begins_choice B s (v ∷ front ++ c ∷ more) h in
          let one = breaks_choice s (v ∷ front) c more h g in
          rw b one
      breaks_statement s (v ∷ front) c more (inr (inr (inl h))) g =
          let b : same_kind (Keyword words.Rec) v.kind ≡ true = begins_recursion B s (v ∷ front ++ c ∷ more) h in
          let a : same_kind (Keyword words.Choice) v.kind ≡ false = other (Keyword words.Rec) (Keyword words.Choice) refl v.kind b in
          let one = breaks_recursion s (v ∷ front) c more h g in
          rw (a, b) one
      breaks_statement s (v ∷ front) c more (inr (inr (inr (inl h)))) g = absurd (no_jump_in s v front c more h g)
      breaks_statement s (v ∷ front) c more (inr (inr (inr (inr h)))) g = absurd (none_in go (call s) (v ∷ front) c more (plain_call go rare s) h g)

      breaks_statements : Breaks (statements_of reader) (many (statement B))
      unfolding statements_of
      breaks_statements =
          breaks_many (claim_of (statement W)) begins_statement (statement_of reader) (statement B) (statement W) past_choice (statement_reads reader B W (block_reads levels)) (begins_a_statement B) (λ s c more h g. refl) (λ kind e. (statement_no_or kind e, tt)) (refl, tt) breaks_statement

      abbrev braced : Block → Language
      braced x = spotted_token OpenBrace x.spot · many (statement B) x.body · token CloseBrace

      abbrev braced_of : Reader (Spot × List Statement)
      braced_of = read_both (token_of OpenBrace) (read_before (statements_of reader) (token_of CloseBrace))

      breaks_opened : Breaks (opened_block_of reader) braced
      unfolding opened_block_of
      breaks_opened =
          breaks_respelled (opened_block_of reader) (seen (λ (x : Spot × List Statement). record { body = x.1; spot = x.0 }) (λ x. spotted_token OpenBrace x.0 · many (statement B) x.1 · token CloseBrace)) braced
          (λ x ts h. ((x.spot, x.body), refl, h))
          (breaks_seen (λ (x : Spot × List Statement). record { body = x.1; spot = x.0 }) braced_of (λ x. spotted_token OpenBrace x.0 · many (statement B) x.1 · token CloseBrace)
          (breaks_both (token_of OpenBrace) (read_before (statements_of reader) (token_of CloseBrace)) (spotted_token OpenBrace) (λ ss. many (statement B) ss · token CloseBrace) free (token_reads OpenBrace) (λ spot. plain_at go OpenBrace spot refl) tt (λ y ts h. follows_free (ts ++ []))
          (breaks_before (statements_of reader) (token_of CloseBrace) (many (statement B)) (spotted_token CloseBrace) breaks_statements (plain_token go CloseBrace refl))))

    breaks_block : (levels : ℕ) → Breaks (block_of levels) (block levels)
    unfolding block block_of
    breaks_block zero x front c more h g = absurd h
    breaks_block (suc levels) x front c more h g = breaks_opened levels (breaks_block levels) x front c more h g

    module _ (levels : ℕ) where
      abbrev roles_and : List RoleDeclaration × Block → Language
      roles_and x = joined role (token Comma) x.0 · token CloseParen · block levels x.1

      abbrev Whole : Type 0
      Whole = Spot × (List ℕ × (List RoleDeclaration × Block))

      abbrev spelled : Whole → Language
      spelled x = spotted_token (Keyword words.Global) x.0 · token (Keyword words.Protocol) · name x.1.0 · token OpenParen · roles_and x.1.1

      abbrev made : Whole → ProtocolDeclaration
      made x = record { name = x.1.0; roles = x.1.1.0; body = x.1.1.1.body; spot = x.0 }

      abbrev roles_and_of : Reader (List RoleDeclaration × Block)
      roles_and_of = read_both read_roles (after (token_of CloseParen) (block_of levels))

      abbrev named_of : Reader (List ℕ × (List RoleDeclaration × Block))
      named_of = read_both read_name (after (token_of OpenParen) roles_and_of)

      abbrev whole_of : Reader Whole
      whole_of = read_both (token_of (Keyword words.Global)) (after (token_of (Keyword words.Protocol)) named_of)

      breaks_roles : Breaks (read_both read_roles (after (token_of CloseParen) (block_of levels))) roles_and
      breaks_roles =
          breaks_both read_roles (after (token_of CloseParen) (block_of levels)) (joined role (token Comma)) (λ b. token CloseParen · block levels b) (past (same_kind Comma) free) roles_reads (plain_roles go rare) (refl, tt)
          (λ b ts h. behind_token (past (same_kind Comma) free) CloseParen (block levels b) ts [] (refl, tt) h)
          (breaks_after (token_of CloseParen) (block_of levels) (spotted_token CloseParen) (block levels) free (token_reads CloseParen) (λ spot. plain_at go CloseParen spot refl) tt (λ y ts h. follows_free (ts ++ [])) (breaks_block levels))

      breaks_protocol : Breaks (protocol_of levels) (protocol levels)
      unfolding protocol_of
      breaks_protocol =
          breaks_respelled (protocol_of levels) (seen made spelled) (protocol levels) (λ p ts h. ((p.spot, (p.name, (p.roles, record { body = p.body; spot = h.0 }))), refl, h.1))
          (breaks_seen made whole_of spelled
          (breaks_both (token_of (Keyword words.Global)) (after (token_of (Keyword words.Protocol)) named_of) (spotted_token (Keyword words.Global)) (λ x. token (Keyword words.Protocol) · name x.0 · token OpenParen · roles_and x.1) free (token_reads (Keyword words.Global)) (λ spot. plain_at go (Keyword words.Global) spot refl) tt (λ y ts h. follows_free (ts ++ []))
          (breaks_after (token_of (Keyword words.Protocol)) named_of (spotted_token (Keyword words.Protocol)) (λ x. name x.0 · token OpenParen · roles_and x.1) free (token_reads (Keyword words.Protocol)) (λ spot. plain_at go (Keyword words.Protocol) spot refl) tt (λ y ts h. follows_free (ts ++ []))
          (breaks_both read_name (after (token_of OpenParen) roles_and_of) name (λ x. token OpenParen · roles_and x) free name_reads (plain_name go refl) tt (λ y ts h. follows_free (ts ++ []))
          (breaks_after (token_of OpenParen) roles_and_of (spotted_token OpenParen) roles_and free (token_reads OpenParen) (λ spot. plain_at go OpenParen spot refl) tt (λ y ts h. follows_free (ts ++ [])) breaks_roles)))))

      no_first : (d : Option ProtocolDeclaration) (c : Lexeme) (more : List Lexeme) → declaration levels d (c ∷ more) → c.kind ≡ go → ⊥
      no_first d c more h g = not_go begins_declaration refl c (begins_a_declaration levels d (c ∷ more) h) g

      breaks_declaration : Breaks (read_declaration levels) (declaration levels)
      unfolding read_declaration
      breaks_declaration d [] c more h g = absurd (no_first d c more h g)
      breaks_declaration None (v ∷ front) c more h g = absurd (none_in go type_declaration (v ∷ front) c more (plain_type go rare) h g)
      breaks_declaration (Some p) (v ∷ front) c more h g =
          let b : same_kind (Keyword words.Global) v.kind ≡ true = begins_protocol levels p (v ∷ front ++ c ∷ more) h in
          let a : same_kind (Keyword words.«Type») v.kind ≡ false = other (Keyword words.Global) (Keyword words.«Type») refl v.kind b in
          let one = breaks_protocol p (v ∷ front) c more h g in
          rw (a, one) refl

      breaks_declarations : Breaks (declarations_of levels) (seen kept (many (declaration levels)))
      unfolding declarations_of
      breaks_declarations =
          breaks_seen kept (repeated begins_declaration (read_declaration levels)) (many (declaration levels))
          (breaks_many (claim_of (declaration (suc levels))) begins_declaration (read_declaration levels) (declaration levels) (declaration (suc levels)) free (declaration_reads levels) (begins_a_declaration levels) (λ d c more h g. absurd (no_first d c more h g)) (λ kind e. tt) tt breaks_declaration)

      abbrev listed_of : Reader (List Import × List ProtocolDeclaration)
      listed_of = read_both imports_of (declarations_of levels)

      abbrev titled_of : Reader (List (List ℕ) × (List Import × List ProtocolDeclaration))
      titled_of = read_both dotted_of (after (token_of Semicolon) listed_of)

      pub breaks_module : Breaks (module_of levels) (module_text levels)
      unfolding module_of
      breaks_module =
          breaks_respelled (module_of levels) (seen module_made (in_module levels)) (module_text levels) (module_from levels)
          (breaks_seen module_made (after (token_of (Keyword words.Module)) titled_of) (in_module levels)
          (breaks_after (token_of (Keyword words.Module)) titled_of (spotted_token (Keyword words.Module)) (λ x. dotted x.0 · token Semicolon · many «import» x.1.0 · seen kept (many (declaration levels)) x.1.1) free (token_reads (Keyword words.Module)) (λ spot. plain_at go (Keyword words.Module) spot refl) tt (λ y ts h. follows_free (ts ++ []))
          (breaks_both dotted_of (after (token_of Semicolon) listed_of) dotted (λ x. token Semicolon · many «import» x.0 · seen kept (many (declaration levels)) x.1) no_dot dotted_reads (plain_dotted go rare) (refl, tt) (λ y ts h. behind_token no_dot Semicolon _ ts [] (refl, tt) h)
          (breaks_after (token_of Semicolon) listed_of (spotted_token Semicolon) (λ x. many «import» x.0 · seen kept (many (declaration levels)) x.1) free (token_reads Semicolon) (λ spot. plain_at go Semicolon spot refl) tt (λ y ts h. follows_free (ts ++ []))
          (breaks_both imports_of (declarations_of levels) (many «import») (seen kept (many (declaration levels))) past_imports imports_reads (plain_imports go rare) (refl, tt) (λ ps ts h. behind_imports levels ps ts [] h tt) breaks_declarations)))))
