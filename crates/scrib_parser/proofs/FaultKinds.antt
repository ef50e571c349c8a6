-- A token that is reported as unexpected is none that must be reported as left out.
use Rattle.std.proofs.Common.{◌≡◌, ℕ, zero, suc, ◌+◌, Bool, true, false, cond, List, [], ◌∷◌, ◌++◌, Option, Some, None, Ok, Err, refl, sym, ap, subst, ◌∙◌, append_assoc, inl, inr, arith}
use Rattle.std.specs.Prelude.{◌⊎◌}
use Rattle.std.specs.Str.{bytes_eq}
use Rattle.std.proofs.lemmas.Slice.Eq.{bytes_eq-Decides}
use Rattle.scrib_types.specs.Names.{is_name}
use Rattle.scrib_types.specs.declared.spot.Spot.{Spot}
use Rattle.scrib_lexer.specs.declared.token.Keyword.TheVariants as words
use Rattle.scrib_lexer.specs.declared.token.TokenKind.{TokenKind}
use Rattle.scrib_lexer.specs.declared.token.TokenKind.TheVariants.{Name, Keyword, Semicolon, Comma, OpenParen, CloseParen, OpenBrace, CloseBrace}
use Rattle.scrib_lexer.specs.Lexeme.{Lexeme}
use Rattle.scrib_parser.specs.declared.fault.LeftOutWord.{LeftOutWord}
use Rattle.scrib_parser.specs.declared.fault.LeftOutWord.TheVariants.{Local, Sig, Aux, Explicit, From, Par, Interruptible, Connect, Disconnect}
use Rattle.scrib_parser.specs.declared.fault.ParseFault.{ParseFault}
use Rattle.scrib_parser.specs.declared.fault.ParseFault.TheVariants.{Unexpected, EndOfText, LeftOut, TooDeep}
use Rattle.scrib_tree.specs.declared.tree.ModuleTree.{ModuleTree}
use Rattle.scrib_tree.specs.declared.tree.ProtocolDeclaration.{ProtocolDeclaration}
use Rattle.scrib_tree.specs.declared.tree.Block.{Block}
use Rattle.scrib_tree.specs.declared.tree.Statement.{Statement}
use Rattle.scrib_parser.specs.LeftOut.{spelling, word_among, statement_word, statement_word_of, declaration_word_of, left_out_declaration, left_out_statement}
use Rattle.scrib_parser.specs.Grammar.{Language, ◌·◌, many, joined, spotted_token, token, name, dotted, statement, block, role, protocol, type_declaration, declaration, kept, «import», module_text, TokenMayFollow, IsLeftOut}
use Rattle.scrib_parser.specs.Reading.{Reader, ◌>>=◌, same_kind, token_of, placed_name_of, paren_behind, named_opening_of, opening_of, payload_of, read_message, statement_of, block_of, at_end, whole_of, refusal}
use Rattle.scrib_parser.proofs.Modules.{module_reads, past_module}
use Rattle.scrib_parser.proofs.LevelLemmas.{Same, deeper}
use Rattle.scrib_parser.proofs.TokenKinds.{parted, Plain, none_in, IsRare, plain_at, plain_token, plain_name, plain_seq, plain_many, plain_joined, plain_message, plain_call, plain_dotted, plain_roles, plain_imports, plain_type, plain_behind_jump}
use Rattle.scrib_parser.proofs.StatementStarts.{go, breaks_module}

-- ---- the tokens before the word `global` are a whole module

abbrev opens : TokenKind
opens = Keyword words.Global

rare : IsRare opens
rare = record {
  no_name = refl;
  no_dot = refl;
  no_colon = refl;
  no_comma = refl;
  no_semicolon = refl;
  no_open = refl;
  no_close = refl;
  no_text = refl;
  no_angle = refl;
  no_angle_end = refl;
  no_from = refl;
  no_to = refl;
  no_do = refl;
  no_as = refl;
  no_role = refl;
  no_type = refl;
  no_import = refl;
}

plain_statement : (inner : Block → Language) → ((b : Block) → Plain opens (inner b)) → (s : Statement) → Plain opens (statement inner s)
plain_statement inner f s ts (inl h) = plain_message opens rare s ts h
plain_statement inner f s ts (inr (inl h)) =
    plain_seq opens (spotted_token (Keyword words.Choice) h.2) (token (Keyword words.At) · name h.0 · joined inner (token (Keyword words.Or)) h.1) (plain_at opens (Keyword words.Choice) h.2 refl)
    (plain_seq opens (token (Keyword words.At)) (name h.0 · joined inner (token (Keyword words.Or)) h.1) (plain_token opens (Keyword words.At) refl)
    (plain_seq opens (name h.0) (joined inner (token (Keyword words.Or)) h.1) (plain_name opens refl h.0) (plain_joined opens inner (token (Keyword words.Or)) f (plain_token opens (Keyword words.Or) refl) h.1))) ts h.4
plain_statement inner f s ts (inr (inr (inl h))) =
    plain_seq opens (spotted_token (Keyword words.Rec) h.2) (name h.0 · inner h.1) (plain_at opens (Keyword words.Rec) h.2 refl) (plain_seq opens (name h.0) (inner h.1) (plain_name opens refl h.0) (f h.1)) ts h.4
plain_statement inner f s ts (inr (inr (inr (inl h)))) =
    plain_seq opens (spotted_token (Keyword words.Continue) h.1) (name h.0 · token Semicolon) (plain_at opens (Keyword words.Continue) h.1 refl) (plain_behind_jump opens rare h.0) ts h.3
plain_statement inner f s ts (inr (inr (inr (inr h)))) = plain_call opens rare s ts h

plain_block : (levels : ℕ) (b : Block) → Plain opens (block levels b)
unfolding block
plain_block zero b ts h = absurd h
plain_block (suc levels) b ts h =
    plain_seq opens (spotted_token OpenBrace b.spot) (many (statement (block levels)) b.body · token CloseBrace) (plain_at opens OpenBrace b.spot refl)
    (plain_seq opens (many (statement (block levels)) b.body) (token CloseBrace) (plain_many opens (statement (block levels)) (plain_statement (block levels) (plain_block levels)) b.body) (plain_token opens CloseBrace refl)) ts h

-- no such word after a protocol's first
no_second : (levels : ℕ) (p : ProtocolDeclaration) (v : Lexeme) (front : List Lexeme) (g : Lexeme) (more : List Lexeme) → protocol levels p (v ∷ front ++ g ∷ more) → g.kind ≡ opens → ⊥
no_second levels p v front g more k e = at (parted (v ∷ front) g more h.0 h.1 h.2)
  where
    Rest : Language
    Rest = token (Keyword words.Protocol) · name p.name · token OpenParen · joined role (token Comma) p.roles · token CloseParen · block levels (record { body = p.body; spot = k.0 })

    h : (spotted_token (Keyword words.Global) p.spot · Rest) (v ∷ front ++ g ∷ more)
    h = k.1

    plain : Plain opens Rest
    plain =
        plain_seq opens (token (Keyword words.Protocol)) _ (plain_token opens (Keyword words.Protocol) refl)
        (plain_seq opens (name p.name) _ (plain_name opens refl p.name)
        (plain_seq opens (token OpenParen) _ (plain_token opens OpenParen refl)
        (plain_seq opens (joined role (token Comma) p.roles) _ (plain_roles opens rare p.roles)
        (plain_seq opens (token CloseParen) (block levels (record { body = p.body; spot = k.0 })) (plain_token opens CloseParen refl) (plain_block levels (record { body = p.body; spot = k.0 }))))))

    short : (front : List Lexeme) (m : List Lexeme) → [] ≡ front ++ g ∷ m → ⊥
    short [] m e = cc e
    short (x ∷ front) m e = cc e

    at : (((m : List Lexeme) × (h.0 ≡ v ∷ (front ++ g ∷ m))) ⊎ ((b : List Lexeme) × (v ∷ front ≡ h.0 ++ b) × (h.1 ≡ b ++ g ∷ more))) → ⊥
    at (inl k) = let one : h.3.0 ∷ [] ≡ v ∷ (front ++ g ∷ k.0) = sym h.3.1 ∙ k.1 in let tail : [] ≡ front ++ g ∷ k.0 = cc in short front k.0 tail
    at (inr k) = none_in opens Rest k.0 g more plain (subst Rest k.2 h.4) e

at_first_alone : (levels : ℕ) (d : Option ProtocolDeclaration) (v : Lexeme) (front : List Lexeme) (g : Lexeme) (more : List Lexeme) → declaration levels d (v ∷ front ++ g ∷ more) → g.kind ≡ opens → ⊥
at_first_alone levels None v front g more h e = none_in opens type_declaration (v ∷ front) g more (plain_type opens rare) h e
at_first_alone levels (Some p) v front g more h e = no_second levels p v front g more h e

cut_declarations : (levels : ℕ) (ds : List (Option ProtocolDeclaration)) (front : List Lexeme) (g : Lexeme) (more : List Lexeme) → many (declaration levels) ds (front ++ g ∷ more) → g.kind ≡ opens → (es : List (Option ProtocolDeclaration)) × many (declaration levels) es front
cut_declarations levels ds [] g more h e = ([], refl)
cut_declarations levels [] (v ∷ front) g more h e = absurd (cc h)
cut_declarations levels (d ∷ ds) (v ∷ front) g more h e = at (parted (v ∷ front) g more h.0 h.1 h.2) (λ b k. cut_declarations levels ds b g more k e)
  where
    at : (((m : List Lexeme) × (h.0 ≡ v ∷ (front ++ g ∷ m))) ⊎ ((b : List Lexeme) × (v ∷ front ≡ h.0 ++ b) × (h.1 ≡ b ++ g ∷ more))) → ((b : List Lexeme) → many (declaration levels) ds (b ++ g ∷ more) → (es : List (Option ProtocolDeclaration)) × many (declaration levels) es b)
        → (es : List (Option ProtocolDeclaration)) × many (declaration levels) es (v ∷ front)
    at (inl k) later = absurd (at_first_alone levels d v front g k.0 (subst (declaration levels d) k.1 h.3) e)
    at (inr k) later =
        let rest = later k.0 (subst (many (declaration levels) ds) k.2 h.4) in
        (d ∷ rest.0, (h.0, k.0, k.1, h.3, rest.1))

-- a first part that doesn't contain such a word
cut : {A : Type 0} (g : Lexeme) (more : List Lexeme) (p q : Language) (r : A → Language) → g.kind ≡ opens → Plain opens p → ((b : List Lexeme) → q (b ++ g ∷ more) → (x : A) × r x b) → (front : List Lexeme) → (p · q) (front ++ g ∷ more) → (x : A) × (p · r x) front
cut {A} g more p q r e plain f front h = at (parted front g more h.0 h.1 h.2)
  where
    at : (((m : List Lexeme) × (h.0 ≡ front ++ g ∷ m)) ⊎ ((b : List Lexeme) × (front ≡ h.0 ++ b) × (h.1 ≡ b ++ g ∷ more))) → (x : A) × (p · r x) front
    at (inl k) = absurd (none_in opens p front g k.0 plain (subst p k.1 h.3) e)
    at (inr k) = let w = f k.0 (subst q k.2 h.4) in (w.0, (h.0, k.0, k.1, h.3, w.1))

whole_before : (levels : ℕ) (m : ModuleTree) (front : List Lexeme) (g : Lexeme) (more : List Lexeme) → module_text levels m (front ++ g ∷ more) → g.kind ≡ opens → (n : ModuleTree) × module_text levels n front
whole_before levels m front g more h e =
    let w =
    cut g more (token (Keyword words.Module)) (dotted m.name · token Semicolon · many «import» m.imports · many (declaration levels) h.0) (λ ds. dotted m.name · token Semicolon · many «import» m.imports · many (declaration levels) ds) e (plain_token opens (Keyword words.Module) refl)
    (cut g more (dotted m.name) (token Semicolon · many «import» m.imports · many (declaration levels) h.0) (λ ds. token Semicolon · many «import» m.imports · many (declaration levels) ds) e (plain_dotted opens rare m.name)
    (cut g more (token Semicolon) (many «import» m.imports · many (declaration levels) h.0) (λ ds. many «import» m.imports · many (declaration levels) ds) e (plain_token opens Semicolon refl)
    (cut g more (many «import» m.imports) (many (declaration levels) h.0) (λ ds. many (declaration levels) ds) e (plain_imports opens rare m.imports)
    (λ b k. cut_declarations levels h.0 b g more k e)))) front h.2 in
    (record { name = m.name; imports = m.imports; protocols = kept w.0 }, (w.0, refl, w.1))

-- ---- more levels

wider_by : (more levels : ℕ) (n : ℕ) → levels + more ≡ n → (m : ModuleTree) (ts : List Lexeme) → module_text levels m ts → module_text n m ts
wider_by zero levels n e m ts h = let same : levels ≡ n = omega (arith, e) in subst (λ k. module_text k m ts) same h
wider_by (suc more) levels n e m ts h =
    let same : suc (levels + more) ≡ n = omega (arith, e) in
    subst (λ k. module_text k m ts) same ((module_reads (levels + more)).wider m ts (wider_by more levels (levels + more) refl m ts h))

-- the fault with 64 levels and with more, for a token that is reported as unexpected
same_with_more : (levels : ℕ) (ts : List Lexeme) (spot : Spot) (f : ParseFault) → whole_of 64 ts ≡ Err (Unexpected spot) → whole_of (64 + levels) ts ≡ Err f → f ≡ Unexpected spot
same_with_more levels ts spot f e k = at (deeper levels 64 ts)
  where
    at : Same (whole_of 64 ts) (whole_of (64 + levels) ts) → f ≡ Unexpected spot
    at (inl s) = let same : Err f ≡ Err (Unexpected spot) = sym k ∙ sym s ∙ e in cc same
    at (inr d) = let no : Err (TooDeep d.0) ≡ Err (Unexpected spot) = sym d.1 ∙ e in absurd (cc no)

-- ---- at the start of a declaration

behind_words : (kind : TokenKind) (bytes : List ℕ) (word : LeftOutWord) → declaration_word_of kind bytes ≡ Some word → past_module kind
behind_words Name bytes word h = ((refl, tt), (refl, tt))
behind_words (Keyword words.From) bytes word h = ((refl, tt), (refl, tt))
behind_words _ bytes word h = absurd cc

no_declaration : (front : List Lexeme) (u : Lexeme) (word : LeftOutWord) → whole_of 64 (front ++ u ∷ []) ≡ Err (Unexpected u.spot) → left_out_declaration u ≡ Some word → TokenMayFollow opens front → ⊥
unfolding whole_of
no_declaration front u word e d may =
    let levels = may.2.0 in
    let all : 64 + levels ≡ levels + 64 = omega arith in
    let text = subst (λ (l : List Lexeme). module_text levels may.2.2 l) (append_assoc front (may.0 ∷ []) may.2.1) may.2.3 in
    let wide = wider_by 64 levels (64 + levels) (sym all) may.2.2 (front ++ may.0 ∷ may.2.1) text in
    let n = whole_before (64 + levels) may.2.2 front may.0 may.2.1 wide may.1 in
    let one = (module_reads (64 + levels)).again front n.0 (u ∷ []) n.1 (behind_words u.kind u.bytes word d) in
    let reported : whole_of (64 + levels) (front ++ u ∷ []) ≡ Err (LeftOut word u.spot) = ap (λ r. r >>= at_end) one ∙ ap (λ o. Err (refusal o u)) d in
    let same = same_with_more levels (front ++ u ∷ []) u.spot (LeftOut word u.spot) e reported in
    cc same

-- ---- at the start of a statement

by_word : (ws : List LeftOutWord) (bytes : List ℕ) (word : LeftOutWord) → word_among ws bytes ≡ Some word → bytes ≡ spelling word
by_word [] bytes word h = absurd (cc h)
by_word (w ∷ ws) bytes word h = at (bytes_eq bytes (spelling w)) refl h (by_word ws bytes word)
  where
    at : (t : Bool) → bytes_eq bytes (spelling w) ≡ t → cond t (Some w) (word_among ws bytes) ≡ Some word → (word_among ws bytes ≡ Some word → bytes ≡ spelling word) → bytes ≡ spelling word
    at true e k later = let same : w ≡ word = cc in (bytes_eq-Decides bytes (spelling w)).0 e ∙ ap spelling same
    at false e k later = later k

spelled_name : (word : LeftOutWord) → is_name (spelling word) ≡ true
spelled_name Local = refl
spelled_name Sig = refl
spelled_name Aux = refl
spelled_name Explicit = refl
spelled_name From = refl
spelled_name Par = refl
spelled_name Interruptible = refl
spelled_name Connect = refl
spelled_name Disconnect = refl

statement_name : (bytes : List ℕ) (word : LeftOutWord) → statement_word bytes ≡ Some word → is_name bytes ≡ true
statement_name bytes word h = ap is_name (by_word (Par ∷ Interruptible ∷ Connect ∷ Disconnect ∷ []) bytes word h) ∙ spelled_name word

word_kind : (kind : TokenKind) (bytes : List ℕ) (word : LeftOutWord) → statement_word_of kind bytes ≡ Some word → (kind ≡ Name) × (statement_word bytes ≡ Some word)
word_kind Name bytes word h = (refl, h)
word_kind _ bytes word h = absurd cc

-- a left-out word, and the tokens after it
module _ (bytes : List ℕ) (spot : Spot) (u : Lexeme) (word : LeftOutWord) (reported : statement_word bytes ≡ Some word) where
  abbrev w : Lexeme
  w = record { kind = Name; bytes = bytes; spot = spot }

  open_paren : same_kind OpenParen u.kind ≡ true → opening_of (w ∷ u ∷ []) ≡ Ok ((Some bytes, spot), [])
  unfolding opening_of named_opening_of placed_name_of paren_behind
  open_paren p = rw (statement_name bytes word reported) (rw p refl)

  no_paren : same_kind OpenParen u.kind ≡ false → opening_of (w ∷ u ∷ []) ≡ Err (LeftOut word spot)
  unfolding opening_of named_opening_of placed_name_of paren_behind
  no_paren p = rw (statement_name bytes word reported) (rw (p, reported) refl)

  ends_behind : same_kind OpenParen u.kind ≡ true → (inner : Reader Block) → statement_of inner (w ∷ u ∷ []) ≡ Err EndOfText
  unfolding statement_of read_message payload_of token_of
  ends_behind p inner = let one = open_paren p in rw one refl

  stops_behind : same_kind OpenParen u.kind ≡ false → (inner : Reader Block) → statement_of inner (w ∷ u ∷ []) ≡ Err (LeftOut word spot)
  unfolding statement_of read_message
  stops_behind p inner = let one = no_paren p in rw one refl

  -- the fault of such a text isn't `Unexpected`
  not_reported : (front : List Lexeme) → whole_of 64 (front ++ w ∷ u ∷ []) ≡ Err (Unexpected u.spot) → TokenMayFollow go front → ⊥
  unfolding whole_of
  not_reported front e may = at (same_kind OpenParen u.kind) refl
    where
      levels : ℕ
      levels = may.2.0

      all : levels + 64 ≡ 64 + levels
      all = omega arith

      wide : module_text (64 + levels) may.2.2 (front ++ may.0 ∷ may.2.1)
      wide = wider_by 64 levels (64 + levels) all may.2.2 (front ++ may.0 ∷ may.2.1) (subst (λ (l : List Lexeme). module_text levels may.2.2 l) (append_assoc front (may.0 ∷ []) may.2.1) may.2.3)

      broken : (f : ParseFault) → ((n : ℕ) → statement_of (block_of n) (w ∷ u ∷ []) ≡ Err f) → f ≡ Unexpected u.spot
      broken f fails =
          let one = breaks_module (w ∷ u ∷ []) f refl fails (64 + levels) may.2.2 front may.0 may.2.1 wide may.1 in
          same_with_more levels (front ++ w ∷ u ∷ []) u.spot f e (ap (λ r. r >>= at_end) one)

      at : (b : Bool) → same_kind OpenParen u.kind ≡ b → ⊥
      at true b = let same = broken EndOfText (λ n. ends_behind b (block_of n)) in cc same
      at false b = let same = broken (LeftOut word spot) (λ n. stops_behind b (block_of n)) in cc same

no_statement : (front : List Lexeme) (w u : Lexeme) (word : LeftOutWord) → whole_of 64 (front ++ w ∷ u ∷ []) ≡ Err (Unexpected u.spot) → left_out_statement w ≡ Some word → TokenMayFollow go front → ⊥
no_statement front w u word e h may =
    let k = word_kind w.kind w.bytes word h in
    let same : w ≡ record { kind = Name; bytes = w.bytes; spot = w.spot } = λ i. record { kind = k.0 i; bytes = w.bytes; spot = w.spot } in
    not_reported w.bytes w.spot u word k.1 front (ap (λ v. whole_of 64 (front ++ v ∷ u ∷ [])) (sym same) ∙ e) may

-- ---- both

pub exclusive : (front : List Lexeme) (u : Lexeme) → whole_of 64 (front ++ u ∷ []) ≡ Err (Unexpected u.spot) → (word : LeftOutWord) (spot : Spot) → IsLeftOut front u word spot → ⊥
exclusive front u e word spot (inl h) = no_declaration front u word e h.0 h.2
exclusive front u e word spot (inr h) =
    no_statement h.0 h.1 u word (ap (whole_of 64) (sym (append_assoc h.0 (h.1 ∷ []) (u ∷ [])) ∙ ap (λ (l : List Lexeme). l ++ u ∷ []) (sym h.2)) ∙ e) h.3 h.5
