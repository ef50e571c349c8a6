-- The parts of a parsed module's names are identifiers.
use Rattle.std.proofs.Common.{ℕ, List, [], ◌∷◌, Option, Some, None, inl, inr, subst}
use Rattle.std.specs.List.{Contains}
use Rattle.std.specs.Bool.{IsTrue}
use Rattle.scrib_types.specs.Names.{is_name}
use Rattle.scrib_lexer.specs.declared.token.TokenKind.TheVariants.{Dot}
use Rattle.scrib_lexer.specs.Lexeme.{Lexeme}
use Rattle.scrib_tree.specs.declared.tree.ModuleTree.{ModuleTree}
use Rattle.scrib_tree.specs.declared.tree.ProtocolDeclaration.{ProtocolDeclaration}
use Rattle.scrib_parser.specs.Grammar as grammar
use Rattle.scrib_parser.specs.Grammar.{Language, many, token, dotted, kept, declaration, max_levels, ◌·◌}
use Rattle.scrib_library.specs.Edits.{Reads}
use Rattle.scrib_library.specs.Stored.{AreNames, IsSpelled}
use Rattle.scrib_library.proofs.Lists.{Contains-nil, Contains-head, Contains-tail, Contains-cases}

spelled_name : (bytes : List ℕ) (ts : List Lexeme) → grammar.name bytes ts → IsTrue (is_name bytes)
spelled_name bytes ts h = h.1.2.2

no_names : AreNames []
no_names n p = absurd (Contains-nil n p)

more_names : (x : List ℕ) (xs : List (List ℕ)) → IsTrue (is_name x) → AreNames xs → AreNames (x ∷ xs)
more_names x xs h rest n p =
    elim (Contains-cases x xs n p) [ inl e ↦ (let P : List ℕ → Type 0 = λ y. IsTrue (is_name y) in subst P e h) | inr q ↦ rest n q ]

spelled_more : (xs : List (List ℕ)) (ts : List Lexeme) → many (λ y. token Dot · grammar.name y) xs ts → AreNames xs
spelled_more [] ts h = no_names
spelled_more (x ∷ xs) ts h = more_names x xs (spelled_name x h.3.1 h.3.4) (spelled_more xs h.1 h.4)

spelled_dotted : (names : List (List ℕ)) (ts : List Lexeme) → dotted names ts → AreNames names
spelled_dotted [] ts h = no_names
spelled_dotted (x ∷ xs) ts h = more_names x xs (spelled_name x h.0 h.3) (spelled_more xs h.1 h.4)

-- each value of a list satisfies the condition
each : {A : Type 0} (item : A → Language) (xs : List A) (ts : List Lexeme) → many item xs ts → (x : A) → Contains xs x → (us : List Lexeme) × item x us
each {A} item [] ts h x p = absurd (Contains-nil x p)
each {A} item (y ∷ ys) ts h x p =
    elim (Contains-cases y ys x p) [
      | inl e ↦ (let P : A → Type 0 = λ z. (us : List Lexeme) × item z us in subst P e (h.0, h.3))
      | inr q ↦ each item ys h.1 h.4 x q
    ]

kept_back : {A : Type 0} (ds : List (Option A)) (x : A) → Contains (kept ds) x → Contains ds (Some x)
kept_back [] x p = absurd (Contains-nil x p)
kept_back (None ∷ ds) x p = Contains-tail None ds (Some x) (kept_back ds x p)
kept_back {A} (Some y ∷ ds) x p =
    elim (Contains-cases y (kept ds) x p) [
      | inl e ↦ (let P : A → Type 0 = λ z. Contains (Some y ∷ ds) (Some z) in subst P e (Contains-head (Some y) ds))
      | inr q ↦ Contains-tail (Some y) ds (Some x) (kept_back ds x q)
    ]

declared_name : (levels : ℕ) (p : ProtocolDeclaration) (ts : List Lexeme) → declaration levels (Some p) ts → IsTrue (is_name p.name)
declared_name levels p ts h = spelled_name p.name h.1.4.4.0 h.1.4.4.3

pub spelled : (text : List ℕ) (m : ModuleTree) → Reads text m → IsSpelled m
spelled text m h =
    let read = h.2 in
    let body = read.2 in
    let names = body.4 in
    let rest = names.4 in
    record {
      home = spelled_dotted m.name names.0 names.3;
      protocols = λ p q.
          let P : List ProtocolDeclaration → Type 0 = λ l. Contains l p in
          let d = each (declaration max_levels) read.0 rest.4.1 rest.4.4 (Some p) (kept_back read.0 p (subst P read.1 q)) in
          declared_name max_levels p d.0 d.1;
    }
