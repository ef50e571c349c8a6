-- Languages without tokens of some kind.
use Rattle.std.proofs.Common.{◌≡◌, ℕ, true, false, List, [], ◌∷◌, ◌++◌, Option, Some, None, refl, sym, ap, subst, ◌∙◌, inl, inr}
use Rattle.std.specs.Prelude.{◌⊎◌}
use Rattle.scrib_types.specs.declared.spot.Spot.{Spot}
use Rattle.scrib_lexer.specs.declared.token.Keyword.TheVariants as words
use Rattle.scrib_lexer.specs.declared.token.TokenKind.{TokenKind}
use Rattle.scrib_lexer.specs.declared.token.TokenKind.TheVariants.{Name, Keyword, StringLiteral, Semicolon, Comma, Dot, Colon, OpenParen, CloseParen, OpenAngle, CloseAngle}
use Rattle.scrib_lexer.specs.Lexeme.{Lexeme}
use Rattle.scrib_tree.specs.declared.tree.Import.{Import}
use Rattle.scrib_tree.specs.declared.tree.RoleDeclaration.{RoleDeclaration}
use Rattle.scrib_tree.specs.declared.tree.Statement.{Statement}
use Rattle.scrib_parser.specs.Grammar.{Language, ◌·◌, nothing, any, maybe, many, joined, listed, spotted_token, token, name, name_at, dotted, element, opening, message, call, role, known_as, «import», type_declaration}
use Rattle.scrib_parser.specs.Reading.{same_kind}
use Rattle.scrib_parser.proofs.Tokens.{same_kind-refl}

-- the two ways to split a list at a token
pub parted : (before : List Lexeme) (c : Lexeme) (more front rest : List Lexeme) → before ++ c ∷ more ≡ front ++ rest
    → ((m : List Lexeme) × (front ≡ before ++ c ∷ m)) ⊎ ((b : List Lexeme) × (before ≡ front ++ b) × (rest ≡ b ++ c ∷ more))
parted [] c more [] rest e = inr ([], refl, sym e)
parted [] c more (x ∷ front) rest e = let same : x ≡ c = cc in inl (front, ap (λ (y : Lexeme). y ∷ front) same)
parted (b ∷ before) c more [] rest e = inr (b ∷ before, refl, sym e)
parted (b ∷ before) c more (x ∷ front) rest e =
    let same : x ≡ b = cc in
    let tail : before ++ c ∷ more ≡ front ++ rest = cc in
    at same (parted before c more front rest tail)
  where
    at : x ≡ b → (((m : List Lexeme) × (front ≡ before ++ c ∷ m)) ⊎ ((d : List Lexeme) × (before ≡ front ++ d) × (rest ≡ d ++ c ∷ more)))
        → ((m : List Lexeme) × (x ∷ front ≡ b ∷ (before ++ c ∷ m))) ⊎ ((d : List Lexeme) × (b ∷ before ≡ x ∷ (front ++ d)) × (rest ≡ d ++ c ∷ more))
    at same (inl k) = inl (k.0, (λ i. same i ∷ k.1 i))
    at same (inr k) = let back : b ≡ x = sym same in inr (k.0, (λ i. back i ∷ k.1 i), k.2)

module _ (kind : TokenKind) where
  -- no token of the kind
  abbrev pub Free : List Lexeme → Type 0
  Free [] = Unit {0}
  Free (t ∷ ts) = (t.kind ≡ kind → ⊥) × Free ts

  abbrev pub Plain : Language → Type 0
  Plain p = (ts : List Lexeme) → p ts → Free ts

  free_append : (ts us : List Lexeme) → Free ts → Free us → Free (ts ++ us)
  free_append [] us f g = g
  free_append (t ∷ ts) us f g = (f.0, free_append ts us f.1 g)

  pub free_not : (before : List Lexeme) (c : Lexeme) (more : List Lexeme) → Free (before ++ c ∷ more) → c.kind ≡ kind → ⊥
  free_not [] c more f e = f.0 e
  free_not (b ∷ before) c more f e = free_not before c more f.1 e

  -- such a token in a plain language
  pub none_in : (p : Language) (before : List Lexeme) (c : Lexeme) (more : List Lexeme) → Plain p → p (before ++ c ∷ more) → c.kind ≡ kind → ⊥
  none_in p before c more f h e = free_not before c more (f (before ++ c ∷ more) h) e

  -- another kind
  abbrev pub Not : TokenKind → Type 0
  Not k = same_kind kind k ≡ false

  not_this : (k : TokenKind) → Not k → (t : Lexeme) → t.kind ≡ k → t.kind ≡ kind → ⊥
  not_this k n t e g = let same : k ≡ kind = sym e ∙ g in let yes : same_kind kind k ≡ true = ap (same_kind kind) same ∙ same_kind-refl kind in absurd (let no : false ≡ true = sym n ∙ yes in cc no)

  pub plain_at : (k : TokenKind) (spot : Spot) → Not k → Plain (spotted_token k spot)
  plain_at k spot n ts h = subst Free (sym h.1) (not_this k n h.0 h.2.0, tt)

  pub plain_token : (k : TokenKind) → Not k → Plain (token k)
  plain_token k n ts h = plain_at k h.0 n ts h.1

  pub plain_name_at : Not Name → (bytes : List ℕ) (spot : Spot) → Plain (name_at bytes spot)
  plain_name_at n bytes spot ts h = subst Free (sym h.1) (not_this Name n h.0 h.2.0, tt)

  pub plain_name : Not Name → (bytes : List ℕ) → Plain (name bytes)
  plain_name n bytes ts h = plain_name_at n bytes h.0 ts h.1

  pub plain_seq : (p q : Language) → Plain p → Plain q → Plain (p · q)
  plain_seq p q f g ts h = subst Free (sym h.2) (free_append h.0 h.1 (f h.0 h.3) (g h.1 h.4))

  pub plain_nothing : Plain nothing
  plain_nothing ts h = subst Free (sym h) tt

  pub plain_any : {A : Type 0} (item : A → Language) → ((x : A) → Plain (item x)) → Plain (any item)
  plain_any item f ts h = f h.0 ts h.1

  pub plain_maybe : (p : Language) → Plain p → Plain (maybe p)
  plain_maybe p f ts (inl h) = f ts h
  plain_maybe p f ts (inr h) = plain_nothing ts h

  pub plain_many : {A : Type 0} (item : A → Language) → ((x : A) → Plain (item x)) → (xs : List A) → Plain (many item xs)
  plain_many item f [] ts h = plain_nothing ts h
  plain_many item f (x ∷ xs) ts h = plain_seq (item x) (many item xs) (f x) (plain_many item f xs) ts h

  pub plain_joined : {A : Type 0} (item : A → Language) (mark : Language) → ((x : A) → Plain (item x)) → Plain mark → (xs : List A) → Plain (joined item mark xs)
  plain_joined item mark f g [] ts h = absurd h
  plain_joined item mark f g (x ∷ xs) ts h =
      plain_seq (item x) (many (λ y. mark · item y) xs) (f x) (plain_many (λ y. mark · item y) (λ y. plain_seq mark (item y) g (f y)) xs) ts h

  pub plain_listed : {A : Type 0} (item : A → Language) (mark : Language) → ((x : A) → Plain (item x)) → Plain mark → (xs : List A) → Plain (listed item mark xs)
  plain_listed item mark f g [] ts h = plain_nothing ts h
  plain_listed item mark f g (x ∷ xs) ts h = plain_joined item mark f g (x ∷ xs) ts h

  -- ---- the nonterminals, where the kind is of none of their tokens

  -- the kind is none of those of names and marks
  pub record IsRare : Type 0 where
    pub no_name : Not Name
    pub no_dot : Not Dot
    pub no_colon : Not Colon
    pub no_comma : Not Comma
    pub no_semicolon : Not Semicolon
    pub no_open : Not OpenParen
    pub no_close : Not CloseParen
    pub no_text : Not StringLiteral
    pub no_angle : Not OpenAngle
    pub no_angle_end : Not CloseAngle
    pub no_from : Not (Keyword words.From)
    pub no_to : Not (Keyword words.To)
    pub no_do : Not (Keyword words.Do)
    pub no_as : Not (Keyword words.As)
    pub no_role : Not (Keyword words.Role)
    pub no_type : Not (Keyword words.«Type»)
    pub no_import : Not (Keyword words.Import)

  module _ (r : IsRare) where
    pub plain_names : (ns : List (List ℕ)) → Plain (joined name (token Comma) ns)
    plain_names ns = plain_joined name (token Comma) (plain_name r.no_name) (plain_token Comma r.no_comma) ns

    pub plain_dotted : (ns : List (List ℕ)) → Plain (dotted ns)
    plain_dotted ns = plain_joined name (token Dot) (plain_name r.no_name) (plain_token Dot r.no_dot) ns

    plain_element : (sort : List (List ℕ)) → Plain (element sort)
    plain_element sort =
        plain_seq (maybe (any name · token Colon)) (dotted sort)
        (plain_maybe (any name · token Colon) (plain_seq (any name) (token Colon) (plain_any name (plain_name r.no_name)) (plain_token Colon r.no_colon))) (plain_dotted sort)

    plain_opening : (op : Option (List ℕ)) (spot : Spot) → Plain (opening op spot)
    plain_opening (Some op) spot = plain_seq (name_at op spot) (token OpenParen) (plain_name_at r.no_name op spot) (plain_token OpenParen r.no_open)
    plain_opening None spot = plain_at OpenParen spot r.no_open

    pub plain_message : (s : Statement) → Plain (message s)
    plain_message s ts h =
        plain_seq (opening h.0.op h.3) _ (plain_opening h.0.op h.3)
        (plain_seq (listed element (token Comma) h.0.payload) _ (plain_listed element (token Comma) plain_element (plain_token Comma r.no_comma) h.0.payload)
        (plain_seq (token CloseParen) _ (plain_token CloseParen r.no_close)
        (plain_seq (token (Keyword words.From)) _ (plain_token (Keyword words.From) r.no_from)
        (plain_seq (name h.1) _ (plain_name r.no_name h.1)
        (plain_seq (token (Keyword words.To)) _ (plain_token (Keyword words.To) r.no_to)
        (plain_seq (joined name (token Comma) h.2) (token Semicolon) (plain_names h.2) (plain_token Semicolon r.no_semicolon))))))) ts h.5

    pub plain_call : (s : Statement) → Plain (call s)
    plain_call s ts h =
        plain_seq (spotted_token (Keyword words.Do) h.2) _ (plain_at (Keyword words.Do) h.2 r.no_do)
        (plain_seq (dotted h.0) _ (plain_dotted h.0)
        (plain_seq (token OpenParen) _ (plain_token OpenParen r.no_open)
        (plain_seq (joined name (token Comma) h.1) _ (plain_names h.1)
        (plain_seq (token CloseParen) (token Semicolon) (plain_token CloseParen r.no_close) (plain_token Semicolon r.no_semicolon))))) ts h.4

    pub plain_role : (x : RoleDeclaration) → Plain (role x)
    plain_role x = plain_seq (spotted_token (Keyword words.Role) x.spot) (name x.name) (plain_at (Keyword words.Role) x.spot r.no_role) (plain_name r.no_name x.name)

    pub plain_roles : (rs : List RoleDeclaration) → Plain (joined role (token Comma) rs)
    plain_roles rs = plain_joined role (token Comma) plain_role (plain_token Comma r.no_comma) rs

    plain_known : (known : Option (List ℕ)) → Plain (known_as known)
    plain_known None = plain_nothing
    plain_known (Some n) = plain_seq (token (Keyword words.As)) (name n) (plain_token (Keyword words.As) r.no_as) (plain_name r.no_name n)

    plain_import : (i : Import) → Plain («import» i)
    plain_import i =
        plain_seq (spotted_token (Keyword words.Import) i.spot) _ (plain_at (Keyword words.Import) i.spot r.no_import)
        (plain_seq (dotted i.«module») _ (plain_dotted i.«module»)
        (plain_seq (known_as i.known_as) (token Semicolon) (plain_known i.known_as) (plain_token Semicolon r.no_semicolon)))

    pub plain_imports : (is : List Import) → Plain (many «import» is)
    plain_imports is = plain_many «import» plain_import is

    any_name : Plain (any name)
    any_name = plain_any name (plain_name r.no_name)

    pub plain_type : Plain type_declaration
    plain_type =
        plain_seq (token (Keyword words.«Type»)) _ (plain_token (Keyword words.«Type») r.no_type)
        (plain_seq (token OpenAngle) _ (plain_token OpenAngle r.no_angle)
        (plain_seq (any name) _ any_name
        (plain_seq (token CloseAngle) _ (plain_token CloseAngle r.no_angle_end)
        (plain_seq (token StringLiteral) _ (plain_token StringLiteral r.no_text)
        (plain_seq (token (Keyword words.From)) _ (plain_token (Keyword words.From) r.no_from)
        (plain_seq (token StringLiteral) _ (plain_token StringLiteral r.no_text)
        (plain_seq (token (Keyword words.As)) _ (plain_token (Keyword words.As) r.no_as)
        (plain_seq (any name) (token Semicolon) any_name (plain_token Semicolon r.no_semicolon)))))))))

    pub plain_behind_jump : (label : List ℕ) → Plain (name label · token Semicolon)
    plain_behind_jump label = plain_seq (name label) (token Semicolon) (plain_name r.no_name label) (plain_token Semicolon r.no_semicolon)
