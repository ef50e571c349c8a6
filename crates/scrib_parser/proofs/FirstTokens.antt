-- What a list of tokens begins with, and what follows it.
use Rattle.std.proofs.Common.{◌≡◌, ℕ, Bool, true, false, List, [], ◌∷◌, ◌++◌, sym, ap, subst, ◌∙◌}
use Rattle.scrib_types.specs.declared.spot.Spot.{Spot}
use Rattle.scrib_lexer.specs.declared.token.TokenKind.{TokenKind}
use Rattle.scrib_lexer.specs.declared.token.TokenKind.TheVariants.{Name}
use Rattle.scrib_lexer.specs.Lexeme.{Lexeme}
use Rattle.scrib_parser.specs.Grammar.{Language, ◌·◌, spotted_token, token, name}
use Rattle.scrib_parser.specs.Reading.{begins}
use Rattle.scrib_parser.proofs.Laws.{Follows, Claim, never, Sends, sends_never}

-- parts with no claim
pub quiet : {A : Type 0} (L : A → Language) → Sends [] never never × ((x : A) (ts : List Lexeme) → L x ts → Sends ts never never)
quiet L = (sends_never [] never, (λ x ts h. sends_never ts never))

-- a first part of which nothing is claimed
pub behind_quiet : {A : Type 0} (L : A → Language) (D E : Claim) → ((x : A) (ts : List Lexeme) → L x ts → Sends ts D E) → Sends [] never E × ((x : A) (ts : List Lexeme) → L x ts → Sends ts D E)
behind_quiet L D E s = (sends_never [] E, s)

-- a second part of which nothing is claimed
pub before_quiet : {A : Type 0} (L : A → Language) (C E : Claim) → Sends [] C E → Sends [] C E × ((x : A) (ts : List Lexeme) → L x ts → Sends ts never E)
before_quiet L C E s = (s, (λ x ts h. sends_never ts E))

-- ---- what a list begins with

pub first_kind : (test : TokenKind → Bool) (kind : TokenKind) (t : Lexeme) (front rest ts : List Lexeme) → test kind ≡ true → t.kind ≡ kind → front ≡ t ∷ [] → ts ≡ front ++ rest → begins test ts ≡ true
first_kind test kind t front rest ts h k e p = ap (begins test) (p ∙ ap (λ (l : List Lexeme). l ++ rest) e) ∙ ap test k ∙ h

pub other_kind : (test : TokenKind → Bool) (kind : TokenKind) (t : Lexeme) (front rest ts : List Lexeme) → test kind ≡ false → t.kind ≡ kind → front ≡ t ∷ [] → ts ≡ front ++ rest → begins test ts ≡ false
other_kind test kind t front rest ts h k e p = ap (begins test) (p ∙ ap (λ (l : List Lexeme). l ++ rest) e) ∙ ap test k ∙ h

pub begins_token : (test : TokenKind → Bool) (kind : TokenKind) (p : Language) (ts : List Lexeme) → test kind ≡ true → (token kind · p) ts → begins test ts ≡ true
begins_token test kind p ts h w = first_kind test kind w.3.1.0 w.0 w.1 ts h w.3.1.2.0 w.3.1.1 w.2

pub begins_token_at : (test : TokenKind → Bool) (kind : TokenKind) (spot : Spot) (p : Language) (ts : List Lexeme) → test kind ≡ true → (spotted_token kind spot · p) ts → begins test ts ≡ true
begins_token_at test kind spot p ts h w = first_kind test kind w.3.0 w.0 w.1 ts h w.3.2.0 w.3.1 w.2

pub begins_name : (test : TokenKind → Bool) (bytes : List ℕ) (p : Language) (ts : List Lexeme) → test Name ≡ true → (name bytes · p) ts → begins test ts ≡ true
begins_name test bytes p ts h w = first_kind test Name w.3.1.0 w.0 w.1 ts h w.3.1.2.0 w.3.1.1 w.2

pub follows_kind : (F : TokenKind → Type 0) (kind : TokenKind) (t : Lexeme) (ts rest : List Lexeme) → F kind → t.kind ≡ kind → ts ≡ t ∷ rest → Follows F ts
follows_kind F kind t ts rest h k e = subst (λ (l : List Lexeme). Follows F l) (sym e) (subst F (sym k) h)

-- what begins with a token of a kind that may follow
pub behind_token : (F : TokenKind → Type 0) (kind : TokenKind) (p : Language) (ts rest : List Lexeme) → F kind → (token kind · p) ts → Follows F (ts ++ rest)
behind_token F kind p ts rest h w =
    follows_kind F kind w.3.1.0 (ts ++ rest) (w.1 ++ rest) h w.3.1.2.0 (ap (λ (l : List Lexeme). l ++ rest) (w.2 ∙ ap (λ (l : List Lexeme). l ++ w.1) w.3.1.1))

pub behind_token_at : (F : TokenKind → Type 0) (kind : TokenKind) (spot : Spot) (ts rest : List Lexeme) → F kind → spotted_token kind spot ts → Follows F (ts ++ rest)
behind_token_at F kind spot ts rest h w = follows_kind F kind w.0 (ts ++ rest) rest h w.2.0 (ap (λ (l : List Lexeme). l ++ rest) w.1)
