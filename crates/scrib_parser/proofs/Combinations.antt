-- The laws of readers that are combined from two, or that map the value of another.
use Rattle.std.proofs.Common.{◌≡◌, Bool, true, false, cond, List, [], ◌∷◌, ◌++◌, Ok, Err, refl, sym, ap, subst, ◌∙◌, inl, inr}
use Rattle.std.specs.Prelude.{◌⊎◌}
use Rattle.scrib_lexer.specs.declared.token.TokenKind.{TokenKind}
use Rattle.scrib_lexer.specs.Lexeme.{Lexeme}
use Rattle.scrib_parser.specs.declared.fault.ParseFault.{ParseFault}
use Rattle.scrib_parser.specs.Grammar.{Language, ◌·◌, any, nothing}
use Rattle.scrib_parser.specs.Reading.{Reader, begins, mapped, read_both, after, read_before, branch, none}
use Rattle.scrib_parser.proofs.Laws.{done, Follows, Claim, never, Sends, cause_on, Taken, Stopped, Reads, bind_ok, bind_err, ok_is, chain_reads}

-- ---- the same language, written in another way

module _ {A : Type 0} (C : Claim) (reader : Reader A) (L U M V : A → Language) (F : TokenKind → Type 0) where
  pub respelled_up : ((x : A) (ts : List Lexeme) → L x ts → M x ts) → ((x : A) (ts : List Lexeme) → M x ts → L x ts) → ((x : A) (ts : List Lexeme) → U x ts → V x ts) → Reads C reader L U F → Reads C reader M V F
  respelled_up to from up r = record {
    taken = λ ts x rest e. let t = r.taken ts x rest e in record { front = t.front; parts = t.parts; spelled = to x t.front t.spelled; again = t.again };
    again = λ front x rest h fits. r.again front x rest (from x front h) fits;
    stopped = λ ts f e.
        let t = r.stopped ts f e in
        record { front = t.front; rest = t.rest; parts = t.parts; cause = t.cause; value = t.value; more = t.more; spelled = up t.value (t.front ++ t.more) t.spelled; again = t.again };
    wider = λ x ts h. up x ts (r.wider x ts (from x ts h));
    value = r.value;
    example = r.example;
    spelled = up r.value r.example r.spelled;
  }

module _ {A : Type 0} (C : Claim) (reader : Reader A) (L M : A → Language) (F : TokenKind → Type 0) where
  pub respelled : ((x : A) (ts : List Lexeme) → L x ts → M x ts) → ((x : A) (ts : List Lexeme) → M x ts → L x ts) → Reads C reader L L F → Reads C reader M M F
  respelled to from r = respelled_up C reader L L M M F to from to r

-- ---- the value seen by a function

abbrev pub seen : {A B : Type 0} → (A → B) → (A → Language) → B → Language
seen {A} f L y ts = (x : A) × (f x ≡ y) × L x ts

module _ {A B : Type 0} (C : Claim) (f : A → B) (reader : Reader A) (L U : A → Language) (F : TokenKind → Type 0) where
  mapped_err : (ts : List Lexeme) (d : ParseFault) → mapped f reader ts ≡ Err d → reader ts ≡ Err d
  mapped_err ts d e = at (bind_err (reader ts) (λ x. Ok (f x.0, x.1)) d e)
    where
      at : (reader ts ≡ Err d) ⊎ ((x : A × List Lexeme) × (reader ts ≡ Ok x) × (done {A = B × List Lexeme} (f x.0, x.1) ≡ Err d)) → reader ts ≡ Err d
      at (inl h) = h
      at (inr h) = absurd (let k = h.2 in cc)

  pub mapped_up : Reads C reader L U F → Reads C (mapped f reader) (seen f L) (seen f U) F
  mapped_up r = record {
    taken = λ ts y rest e.
        let a = bind_ok (reader ts) (λ x. Ok (f x.0, x.1)) (y, rest) e in
        let t = r.taken ts a.0.0 a.0.1 a.1 in
        let e = ok_is (f a.0.0, a.0.1) (y, rest) a.2 in
        let made : Taken (mapped f reader) (seen f L) ts (f a.0.0) a.0.1 = record {
          front = t.front;
          parts = t.parts;
          spelled = (a.0.0, refl, t.spelled);
          again = λ u us vs h. rw (t.again u us vs h) refl;
        } in
        subst (λ (p : B × List Lexeme). Taken (mapped f reader) (seen f L) ts p.0 p.1) e made;
    again = λ front y rest h fits. rw (r.again front h.0 rest h.2 fits, h.1) refl;
    stopped = λ ts d e.
        let t = r.stopped ts d (mapped_err ts d e) in
        record { front = t.front; rest = t.rest; parts = t.parts; cause = t.cause; value = f t.value; more = t.more; spelled = (t.value, refl, t.spelled); again = λ u us vs h. rw (t.again u us vs h) refl };
    wider = λ y ts h. (h.0, h.1, r.wider h.0 ts h.2);
    value = f r.value;
    example = r.example;
    spelled = (r.value, refl, r.spelled);
  }

  -- where the function can be undone
  pub viewed_up : (g : B → A) → ((x : A) → g (f x) ≡ x) → ((y : B) → f (g y) ≡ y) → Reads C reader L U F → Reads C (mapped f reader) (λ y. L (g y)) (λ y. U (g y)) F
  viewed_up g gf fg r =
      respelled_up C (mapped f reader) (seen f L) (seen f U) (λ y. L (g y)) (λ y. U (g y)) F (λ y ts h. subst (λ (x : A). L x ts) (sym (gf h.0) ∙ ap g h.1) h.2) (λ y ts h. (g y, fg y, h))
      (λ y ts h. subst (λ (x : A). U x ts) (sym (gf h.0) ∙ ap g h.1) h.2) (mapped_up r)

module _ {A B : Type 0} (C : Claim) (f : A → B) (reader : Reader A) (L : A → Language) (F : TokenKind → Type 0) where
  pub mapped_reads : Reads C reader L L F → Reads C (mapped f reader) (seen f L) (seen f L) F
  mapped_reads r = mapped_up C f reader L L F r

  pub viewed_reads : (g : B → A) → ((x : A) → g (f x) ≡ x) → ((y : B) → f (g y) ≡ y) → Reads C reader L L F → Reads C (mapped f reader) (λ y. L (g y)) (λ y. L (g y)) F
  viewed_reads g gf fg r = viewed_up C f reader L L F g gf fg r

-- ---- two readers

module _ {A B : Type 0} (C D E : Claim) (first : Reader A) (second : Reader B) (L U : A → Language) (M V : B → Language) (F G : TokenKind → Type 0) where
  -- no first token of the second's spellings continues one of the first's
  abbrev pub Joins : Type 0
  Joins = (y : B) (ts rest : List Lexeme) → M y ts → Follows G rest → Follows F (ts ++ rest)

  -- the claims of the two readers hold of read_both together
  abbrev pub Brings : Type 0
  Brings = Sends [] C E × ((x : A) (ts : List Lexeme) → L x ts → Sends ts D E)

  pub both_up : Reads C first L U F → Reads D second M V G → Joins → Brings → Reads E (read_both first second) (λ p. L p.0 · M p.1) (λ p. U p.0 · V p.1) G
  both_up r s joins brings = respelled_up E (read_both first second) _ _ (λ p. L p.0 · M p.1) (λ p. U p.0 · V p.1) G
      (λ p ts h. let e : (h.0, h.1.4.0) ≡ p = h.1.4.1 in subst (λ (q : A × B). (L q.0 · M q.1) ts) e (h.1.0, h.1.1, h.1.2, h.1.3, h.1.4.2))
      (λ p ts h. (p.0, (h.0, h.1, h.2, h.3, (p.1, refl, h.4))))
      (λ p ts h. let e : (h.0, h.1.4.0) ≡ p = h.1.4.1 in subst (λ (q : A × B). (U q.0 · V q.1) ts) e (h.1.0, h.1.1, h.1.2, h.1.3, h.1.4.2))
      (chain_reads first (λ x. mapped (λ y. (x, y)) second) L U (λ x. seen (λ (y : B). (x, y)) M) (λ x. seen (λ (y : B). (x, y)) V) F G C (λ x. D) E r (λ x. mapped_up D (λ (y : B). (x, y)) second M V G s) (λ x p ts rest h fits. joins h.0 ts rest h.2 fits) brings)

  pub after_up : Reads C first L U F → Reads D second M V G → Joins → Brings → Reads E (after first second) (λ y. any L · M y) (λ y. any U · V y) G
  after_up r s joins brings = respelled_up E (after first second) _ _ (λ y. any L · M y) (λ y. any U · V y) G
      (λ y ts h. (h.1.0, h.1.1, h.1.2, (h.0, h.1.3), h.1.4))
      (λ y ts h. (h.3.0, (h.0, h.1, h.2, h.3.1, h.4)))
      (λ y ts h. (h.1.0, h.1.1, h.1.2, (h.0, h.1.3), h.1.4))
      (chain_reads first (λ x. second) L U (λ x. M) (λ x. V) F G C (λ x. D) E r (λ x. s) (λ x. joins) brings)

  pub before_up : Reads C first L U F → Reads D second M V G → Joins → Brings → Reads E (read_before first second) (λ x. L x · any M) (λ x. U x · any V) G
  before_up r s joins brings = respelled_up E (read_before first second) _ _ (λ x. L x · any M) (λ x. U x · any V) G
      (λ x ts h. subst (λ (z : A). (L z · any M) ts) h.1.4.1 (h.1.0, h.1.1, h.1.2, h.1.3, (h.1.4.0, h.1.4.2)))
      (λ x ts h. (x, (h.0, h.1, h.2, h.3, (h.4.0, refl, h.4.1))))
      (λ x ts h. subst (λ (z : A). (U z · any V) ts) h.1.4.1 (h.1.0, h.1.1, h.1.2, h.1.3, (h.1.4.0, h.1.4.2)))
      (chain_reads first (λ x. mapped (λ y. x) second) L U (λ x. seen (λ (y : B). x) M) (λ x. seen (λ (y : B). x) V) F G C (λ x. D) E r (λ x. mapped_up D (λ (y : B). x) second M V G s) (λ x p ts rest h fits. joins h.0 ts rest h.2 fits) brings)

module _ {A B : Type 0} (C D E : Claim) (first : Reader A) (second : Reader B) (L : A → Language) (M : B → Language) (F G : TokenKind → Type 0) where
  pub both_reads : Reads C first L L F → Reads D second M M G → Joins C D E first second L L M M F G → Brings C D E first second L L M M F G → Reads E (read_both first second) (λ p. L p.0 · M p.1) (λ p. L p.0 · M p.1) G
  both_reads r s joins brings = both_up C D E first second L L M M F G r s joins brings

  pub after_reads : Reads C first L L F → Reads D second M M G → Joins C D E first second L L M M F G → Brings C D E first second L L M M F G → Reads E (after first second) (λ y. any L · M y) (λ y. any L · M y) G
  after_reads r s joins brings = after_up C D E first second L L M M F G r s joins brings

  pub before_reads : Reads C first L L F → Reads D second M M G → Joins C D E first second L L M M F G → Brings C D E first second L L M M F G → Reads E (read_before first second) (λ x. L x · any M) (λ x. L x · any M) G
  before_reads r s joins brings = before_up C D E first second L L M M F G r s joins brings

-- ---- no token

pub none_reads : {A : Type 0} (x : A) (F : TokenKind → Type 0) → Reads never (none x) (λ y ts. (x ≡ y) × nothing ts) (λ y ts. (x ≡ y) × nothing ts) F
none_reads x F = record {
  taken = λ ts y rest e. let k = ok_is (x, ts) (y, rest) e in record {
    front = [];
    parts = ap (λ (p : _ × List Lexeme). p.1) k;
    spelled = (ap (λ (p : _ × List Lexeme). p.0) k, refl);
    again = λ u us vs h. ap (λ z. Ok (z, u ∷ vs)) (ap (λ (p : _ × List Lexeme). p.0) k);
  };
  again = λ front y rest h fits. rw (h.1, h.0) refl;
  stopped = λ ts f e. absurd cc;
  wider = λ y ts h. h;
  value = x;
  example = [];
  spelled = (refl, refl);
}

-- ---- one or the other

pub begins_first : (test : TokenKind → Bool) (part : List Lexeme) (u : Lexeme) (us vs : List Lexeme) → begins test (part ++ u ∷ us) ≡ begins test (part ++ u ∷ vs)
begins_first test [] u us vs = refl
begins_first test (t ∷ part) u us vs = refl

chosen : {A : Type 0} (b : Bool) (x y z : A) → cond b x y ≡ z → ((b ≡ true) × (x ≡ z)) ⊎ ((b ≡ false) × (y ≡ z))
chosen true x y z e = inl (refl, e)
chosen false x y z e = inr (refl, e)

abbrev pub either : {A : Type 0} → (A → Language) → (A → Language) → A → Language
either L M x ts = L x ts ⊎ M x ts

module _ {A : Type 0} (C D E : Claim) (test : TokenKind → Bool) (here elsewhere : Reader A) (L U M V : A → Language) (F G H : TokenKind → Type 0) where
  branch_taken : Reads C here L U F → Reads D elsewhere M V G → (ts : List Lexeme) (x : A) (rest : List Lexeme) → branch test here elsewhere ts ≡ Ok (x, rest) → Taken (branch test here elsewhere) (either L M) ts x rest
  branch_taken r s ts x rest e = at (chosen (begins test ts) (here ts) (elsewhere ts) (Ok (x, rest)) e)
    where
      at : ((begins test ts ≡ true) × (here ts ≡ Ok (x, rest))) ⊎ ((begins test ts ≡ false) × (elsewhere ts ≡ Ok (x, rest))) → Taken (branch test here elsewhere) (either L M) ts x rest
      at (inl h) =
          let t = r.taken ts x rest h.1 in
          record {
            front = t.front;
            parts = t.parts;
            spelled = inl t.spelled;
            again = λ u us vs k.
                let b : begins test (t.front ++ u ∷ vs) ≡ true = sym (begins_first test t.front u us vs) ∙ ap (begins test) (sym (t.parts ∙ ap (λ (l : List Lexeme). t.front ++ l) k)) ∙ h.0 in
                rw b (t.again u us vs k);
          }
      at (inr h) =
          let t = s.taken ts x rest h.1 in
          record {
            front = t.front;
            parts = t.parts;
            spelled = inr t.spelled;
            again = λ u us vs k.
                let b : begins test (t.front ++ u ∷ vs) ≡ false = sym (begins_first test t.front u us vs) ∙ ap (begins test) (sym (t.parts ∙ ap (λ (l : List Lexeme). t.front ++ l) k)) ∙ h.0 in
                rw b (t.again u us vs k);
          }

  branch_stopped : Reads C here L U F → Reads D elsewhere M V G → Sends [] C E → Sends [] D E → (ts : List Lexeme) (f : ParseFault) → branch test here elsewhere ts ≡ Err f → Stopped E (branch test here elsewhere) (either U V) ts f
  branch_stopped r s one two ts f e = at (chosen (begins test ts) (here ts) (elsewhere ts) (Err f) e)
    where
      at : ((begins test ts ≡ true) × (here ts ≡ Err f)) ⊎ ((begins test ts ≡ false) × (elsewhere ts ≡ Err f)) → Stopped E (branch test here elsewhere) (either U V) ts f
      at (inl h) =
          let t = r.stopped ts f h.1 in
          record {
            front = t.front;
            rest = t.rest;
            parts = t.parts;
            cause = cause_on [] C E one t.front t.rest f t.cause;
            value = t.value;
            more = t.more;
            spelled = inl t.spelled;
            again = λ u us vs k.
                let b : begins test (t.front ++ u ∷ vs) ≡ true = sym (begins_first test t.front u us vs) ∙ ap (begins test) (sym (t.parts ∙ ap (λ (l : List Lexeme). t.front ++ l) k)) ∙ h.0 in
                rw b (t.again u us vs k);
          }
      at (inr h) =
          let t = s.stopped ts f h.1 in
          record {
            front = t.front;
            rest = t.rest;
            parts = t.parts;
            cause = cause_on [] D E two t.front t.rest f t.cause;
            value = t.value;
            more = t.more;
            spelled = inr t.spelled;
            again = λ u us vs k.
                let b : begins test (t.front ++ u ∷ vs) ≡ false = sym (begins_first test t.front u us vs) ∙ ap (begins test) (sym (t.parts ∙ ap (λ (l : List Lexeme). t.front ++ l) k)) ∙ h.0 in
                rw b (t.again u us vs k);
          }

  pub branch_up : Reads C here L U F → Reads D elsewhere M V G → Sends [] C E → Sends [] D E
      → ((x : A) (front rest : List Lexeme) → L x front → Follows H rest → (begins test (front ++ rest) ≡ true) × Follows F rest)
      → ((x : A) (front rest : List Lexeme) → M x front → Follows H rest → (begins test (front ++ rest) ≡ false) × Follows G rest)
      → Reads E (branch test here elsewhere) (either L M) (either U V) H
  branch_up r s one two yes_of no_of = record {
    taken = branch_taken r s;
    again = λ front x rest h fits. at front x rest fits h;
    stopped = branch_stopped r s one two;
    wider = widened;
    value = r.value;
    example = r.example;
    spelled = inl r.spelled;
  }
    where
      at : (front : List Lexeme) (x : A) (rest : List Lexeme) → Follows H rest → either L M x front → branch test here elsewhere (front ++ rest) ≡ Ok (x, rest)
      at front x rest fits (inl h) = let k = yes_of x front rest h fits in rw k.0 (r.again front x rest h k.1)
      at front x rest fits (inr h) = let k = no_of x front rest h fits in rw k.0 (s.again front x rest h k.1)

      widened : (x : A) (ts : List Lexeme) → either L M x ts → either U V x ts
      widened x ts (inl h) = inl (r.wider x ts h)
      widened x ts (inr h) = inr (s.wider x ts h)

module _ {A : Type 0} (C D E : Claim) (test : TokenKind → Bool) (here elsewhere : Reader A) (L M : A → Language) (F G H : TokenKind → Type 0) where
  pub branch_reads : Reads C here L L F → Reads D elsewhere M M G → Sends [] C E → Sends [] D E
      → ((x : A) (front rest : List Lexeme) → L x front → Follows H rest → (begins test (front ++ rest) ≡ true) × Follows F rest)
      → ((x : A) (front rest : List Lexeme) → M x front → Follows H rest → (begins test (front ++ rest) ≡ false) × Follows G rest)
      → Reads E (branch test here elsewhere) (either L M) (either L M) H
  branch_reads r s one two yes_of no_of = branch_up C D E test here elsewhere L L M M F G H r s one two yes_of no_of
