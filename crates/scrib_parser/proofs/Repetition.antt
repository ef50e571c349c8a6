-- The laws of reading while the next token's kind passes a test.
use Rattle.std.proofs.Common.{◌≡◌, ℕ, zero, suc, ◌≤◌, ◌<◌, Bool, true, false, cond, List, [], ◌∷◌, ◌++◌, length, Ok, Err, refl, sym, ap, subst, ◌∙◌, append_assoc, arith, inl, inr, length-append}
use Rattle.std.specs.Prelude.{◌⊎◌}
use Rattle.std.proofs.lemmas.List.{append-nil}
use Rattle.scrib_lexer.specs.declared.token.TokenKind.{TokenKind}
use Rattle.scrib_lexer.specs.Lexeme.{Lexeme}
use Rattle.scrib_parser.specs.declared.fault.ParseFault.{ParseFault}
use Rattle.scrib_parser.specs.Grammar.{Language, many}
use Rattle.scrib_parser.specs.Reading.{Reader, ReadResult, ◌>>=◌, begins, repeat, repeated}
use Rattle.scrib_parser.proofs.Laws.{done, Follows, Claim, Sends, cause_on, Taken, Stopped, Reads, bind_ok, bind_err, ok_is, carried}
use Rattle.scrib_parser.proofs.Combinations.{begins_first}

-- a list whose first token is of such a kind is no empty one
pub some_begins : (test : TokenKind → Bool) (ts : List Lexeme) → begins test ts ≡ true → 0 < length ts
some_begins test [] e = absurd cc
some_begins test (t ∷ ts) e = omega arith

pub begins_front : (test : TokenKind → Bool) (front rest : List Lexeme) → begins test front ≡ true → begins test (front ++ rest) ≡ true
begins_front test [] rest e = absurd cc
begins_front test (t ∷ front) rest e = e

module _ {A : Type 0} (test : TokenKind → Bool) (item : Reader A) where
  -- each item takes a token
  abbrev pub Takes : Type 0
  Takes = (ts : List Lexeme) (x : A) (rest : List Lexeme) → item ts ≡ Ok (x, rest) → length rest < length ts

  -- one more step
  abbrev pub one_more : (List Lexeme → ReadResult (List A)) → List Lexeme → ReadResult (List A)
  one_more rest_of ts = item ts >>= λ x. rest_of x.1 >>= λ xs. Ok (x.0 ∷ xs.0, xs.1)

  one_more_same : (f g : List Lexeme → ReadResult (List A)) (ts : List Lexeme) → ((x : A) (rest : List Lexeme) → item ts ≡ Ok (x, rest) → f rest ≡ g rest) → one_more f ts ≡ one_more g ts
  one_more_same f g ts h = at (item ts) h
    where
      at : (r : ReadResult A) → ((x : A) (rest : List Lexeme) → r ≡ Ok (x, rest) → f rest ≡ g rest)
          → ◌≡◌ {A = ReadResult (List A)} (r >>= λ x. f x.1 >>= λ xs. Ok (x.0 ∷ xs.0, xs.1)) (r >>= λ x. g x.1 >>= λ xs. Ok (x.0 ∷ xs.0, xs.1))
      at (Ok x) k = rw (k x.0 x.1 refl) refl
      at (Err f) k = refl

  -- any bound that is enough has the same result
  enough : Takes → (n m : ℕ) (ts : List Lexeme) → length ts ≤ n → length ts ≤ m → repeat test item n ts ≡ repeat test item m ts
  unfolding repeat
  enough takes zero zero ts h k = refl
  enough takes zero (suc m) [] h k = refl
  enough takes zero (suc m) (t ∷ ts) h k = absurd (omega arith)
  enough takes (suc n) zero [] h k = refl
  enough takes (suc n) zero (t ∷ ts) h k = absurd (omega arith)
  enough takes (suc n) (suc m) ts h k =
      ap (λ (r : ReadResult (List A)). cond (begins test ts) r (Ok ([], ts)))
      (one_more_same (repeat test item n) (repeat test item m) ts (λ x rest e. let lt = takes ts x rest e in enough takes n m rest (omega arith) (omega arith)))

  -- what reading does at its next token
  pub repeated_is : Takes → (ts : List Lexeme) → repeated test item ts ≡ cond (begins test ts) (one_more (repeated test item) ts) (Ok ([], ts))
  unfolding repeat repeated
  repeated_is takes [] = refl
  repeated_is takes (t ∷ ts) =
      ap (λ (r : ReadResult (List A)). cond (test t.kind) r (Ok ([], t ∷ ts)))
      (one_more_same (repeat test item (length ts)) (repeated test item) (t ∷ ts) (λ x rest e. let lt = takes (t ∷ ts) x rest e in enough takes (length ts) (length rest) rest (omega arith) (omega arith)))

  pub repeated_ends : Takes → (ts : List Lexeme) → begins test ts ≡ false → repeated test item ts ≡ Ok ([], ts)
  repeated_ends takes ts b = repeated_is takes ts ∙ rw b refl

  pub repeated_goes : Takes → (ts : List Lexeme) → begins test ts ≡ true → repeated test item ts ≡ one_more (repeated test item) ts
  repeated_goes takes ts b = repeated_is takes ts ∙ rw b refl

chosen : {A : Type 0} (b : Bool) (x y z : A) → cond b x y ≡ z → ((b ≡ true) × (x ≡ z)) ⊎ ((b ≡ false) × (y ≡ z))
chosen true x y z e = inl (refl, e)
chosen false x y z e = inr (refl, e)

-- a token after items: it begins no item, and doesn't continue the last one
abbrev pub past : (TokenKind → Bool) → (TokenKind → Type 0) → TokenKind → Type 0
past test F kind = (test kind ≡ false) × F kind

module _ {A : Type 0} (C D : Claim) (test : TokenKind → Bool) (item : Reader A) (L U : A → Language) (F : TokenKind → Type 0) where
  -- an item begins with such a token
  abbrev pub Begins : Type 0
  Begins = (x : A) (ts : List Lexeme) → L x ts → begins test ts ≡ true

  pub takes : Reads C item L U F → Begins → Takes test item
  takes r starts ts x rest e =
      let t = r.taken ts x rest e in
      let some = some_begins test t.front (starts x t.front t.spelled) in
      omega (arith, length-append t.front rest, ap length t.parts)

  abbrev TakenWithin : ℕ → Type 0
  TakenWithin n = (ts : List Lexeme) → length ts ≤ n → (xs : List A) (rest : List Lexeme) → repeated test item ts ≡ Ok (xs, rest) → Taken (repeated test item) (many L) ts xs rest

  taken_none : Takes test item → (ts : List Lexeme) → begins test ts ≡ false → Taken (repeated test item) (many L) ts [] ts
  taken_none g ts b = record {
    front = [];
    parts = refl;
    spelled = refl;
    again = λ u us vs k. repeated_ends test item g (u ∷ vs) (begins_first test [] u vs us ∙ ap (begins test) (sym k) ∙ b);
  }

  taken_more : Reads C item L U F → Begins → (n : ℕ) → TakenWithin n → (ts : List Lexeme) → length ts ≤ suc n → (xs : List A) (rest : List Lexeme)
      → one_more test item (repeated test item) ts ≡ Ok (xs, rest) → Taken (repeated test item) (many L) ts xs rest
  taken_more r starts n within ts le xs rest e =
      let g = takes r starts in
      let a = bind_ok (item ts) (λ x. repeated test item x.1 >>= λ ys. Ok (x.0 ∷ ys.0, ys.1)) (xs, rest) e in
      let b = bind_ok (repeated test item a.0.1) (λ ys. Ok (a.0.0 ∷ ys.0, ys.1)) (xs, rest) a.2 in
      let t = r.taken ts a.0.0 a.0.1 a.1 in
      let less = g ts a.0.0 a.0.1 a.1 in
      let w = within a.0.1 (omega arith) b.0.0 b.0.1 b.1 in
      let made : Taken (repeated test item) (many L) ts (a.0.0 ∷ b.0.0) b.0.1 = record {
        front = t.front ++ w.front;
        parts = t.parts ∙ ap (λ (l : List Lexeme). t.front ++ l) w.parts ∙ sym (append_assoc t.front w.front b.0.1);
        spelled = (t.front, w.front, refl, t.spelled, w.spelled);
        again = λ u us vs k.
            let one : item (t.front ++ (w.front ++ u ∷ vs)) ≡ Ok (a.0.0, w.front ++ u ∷ vs) = carried (λ (l : List Lexeme). item (t.front ++ l) ≡ Ok (a.0.0, l)) a.0.1 w.front t.again u us vs (w.parts ∙ ap (λ (l : List Lexeme). w.front ++ l) k) in
            ap (repeated test item) (append_assoc t.front w.front (u ∷ vs))
            ∙ repeated_goes test item g (t.front ++ (w.front ++ u ∷ vs)) (begins_front test t.front _ (starts a.0.0 t.front t.spelled))
            ∙ rw (one, w.again u us vs k) refl;
      } in
      subst (λ (p : List A × List Lexeme). Taken (repeated test item) (many L) ts p.0 p.1) (ok_is (a.0.0 ∷ b.0.0, b.0.1) (xs, rest) b.2) made

  many_taken : Reads C item L U F → Begins → (n : ℕ) → TakenWithin n
  many_taken r starts zero [] le xs rest e =
      let g = takes r starts in
      subst (λ (p : List A × List Lexeme). Taken (repeated test item) (many L) [] p.0 p.1) (ok_is ([], []) (xs, rest) (sym (repeated_ends test item g [] refl) ∙ e)) (taken_none g [] refl)
  many_taken r starts zero (t ∷ ts) le xs rest e = absurd (omega arith)
  many_taken r starts (suc n) ts le xs rest e =
      at (many_taken r starts n) (chosen (begins test ts) _ _ (Ok (xs, rest)) (sym (repeated_is test item g ts) ∙ e))
    where
      g : Takes test item
      g = takes r starts

      at : TakenWithin n → ((begins test ts ≡ true) × (one_more test item (repeated test item) ts ≡ Ok (xs, rest))) ⊎ ((begins test ts ≡ false) × (done {A = List A × List Lexeme} ([], ts) ≡ Ok (xs, rest)))
          → Taken (repeated test item) (many L) ts xs rest
      at within (inl h) = taken_more r starts n within ts le xs rest h.1
      at within (inr h) = subst (λ (p : List A × List Lexeme). Taken (repeated test item) (many L) ts p.0 p.1) (ok_is ([], ts) (xs, rest) h.1) (taken_none g ts h.0)

  -- a claim that holds after items holds with them in front
  abbrev pub Carries : Type 0
  Carries = Sends [] C D × ((x : A) (ts : List Lexeme) → L x ts → Sends ts D D)

  abbrev StoppedWithin : ℕ → Type 0
  StoppedWithin n = (ts : List Lexeme) → length ts ≤ n → (f : ParseFault) → repeated test item ts ≡ Err f → Stopped D (repeated test item) (many U) ts f

  stopped_more : Reads C item L U F → Begins → Carries → (n : ℕ) → StoppedWithin n → (ts : List Lexeme) → length ts ≤ suc n → (f : ParseFault) → begins test ts ≡ true
      → one_more test item (repeated test item) ts ≡ Err f → Stopped D (repeated test item) (many U) ts f
  stopped_more r starts carries n within ts le f here e = at (bind_err (item ts) (λ x. repeated test item x.1 >>= λ ys. Ok (x.0 ∷ ys.0, ys.1)) f e)
    where
      g : Takes test item
      g = takes r starts

      after_item : (x : A) (rest : List Lexeme) → item ts ≡ Ok (x, rest) → repeated test item rest ≡ Err f → Stopped D (repeated test item) (many U) ts f
      after_item x rest h k =
          let t = r.taken ts x rest h in
          let less = g ts x rest h in
          let w = within rest (omega arith) f k in
          record {
            front = t.front ++ w.front;
            rest = w.rest;
            parts = t.parts ∙ ap (λ (l : List Lexeme). t.front ++ l) w.parts ∙ sym (append_assoc t.front w.front w.rest);
            cause = cause_on t.front D D (carries.1 x t.front t.spelled) w.front w.rest f w.cause;
            value = x ∷ w.value;
            more = w.more;
            spelled = (t.front, w.front ++ w.more, append_assoc t.front w.front w.more, r.wider x t.front t.spelled, w.spelled);
            again = λ u us vs m.
                let one : item (t.front ++ (w.front ++ u ∷ vs)) ≡ Ok (x, w.front ++ u ∷ vs) = carried (λ (l : List Lexeme). item (t.front ++ l) ≡ Ok (x, l)) rest w.front t.again u us vs (w.parts ∙ ap (λ (l : List Lexeme). w.front ++ l) m) in
                ap (repeated test item) (append_assoc t.front w.front (u ∷ vs))
                ∙ repeated_goes test item g (t.front ++ (w.front ++ u ∷ vs)) (begins_front test t.front _ (starts x t.front t.spelled))
                ∙ rw (one, w.again u us vs m) refl;
          }

      at_item : item ts ≡ Err f → Stopped D (repeated test item) (many U) ts f
      at_item h =
          let t = r.stopped ts f h in
          record {
            front = t.front;
            rest = t.rest;
            parts = t.parts;
            cause = cause_on [] C D carries.0 t.front t.rest f t.cause;
            value = t.value ∷ [];
            more = t.more;
            spelled = (t.front ++ t.more, [], sym (append-nil (t.front ++ t.more)), t.spelled, refl);
            again = λ u us vs m.
                let b : begins test (t.front ++ u ∷ vs) ≡ true = begins_first test t.front u vs us ∙ ap (begins test) (sym (t.parts ∙ ap (λ (l : List Lexeme). t.front ++ l) m)) ∙ here in
                repeated_goes test item g (t.front ++ u ∷ vs) b ∙ rw (t.again u us vs m) refl;
          }

      at : (item ts ≡ Err f) ⊎ ((x : A × List Lexeme) × (item ts ≡ Ok x) × ((repeated test item x.1 >>= λ ys. done {A = List A × List Lexeme} (x.0 ∷ ys.0, ys.1)) ≡ Err f)) → Stopped D (repeated test item) (many U) ts f
      at (inl h) = at_item h
      at (inr h) = inner (bind_err (repeated test item h.0.1) (λ ys. Ok (h.0.0 ∷ ys.0, ys.1)) f h.2)
        where
          inner : (repeated test item h.0.1 ≡ Err f) ⊎ ((ys : List A × List Lexeme) × (repeated test item h.0.1 ≡ Ok ys) × (done {A = List A × List Lexeme} (h.0.0 ∷ ys.0, ys.1) ≡ Err f)) → Stopped D (repeated test item) (many U) ts f
          inner (inl k) = after_item h.0.0 h.0.1 h.1 k
          inner (inr k) = absurd (let m = k.2 in cc)

  many_stopped : Reads C item L U F → Begins → Carries → (n : ℕ) → StoppedWithin n
  many_stopped r starts carries zero [] le f e = absurd (let k = sym (repeated_ends test item (takes r starts) [] refl) ∙ e in cc)
  many_stopped r starts carries zero (t ∷ ts) le f e = absurd (omega arith)
  many_stopped r starts carries (suc n) ts le f e =
      at (many_stopped r starts carries n) (chosen (begins test ts) _ _ (Err f) (sym (repeated_is test item (takes r starts) ts) ∙ e))
    where
      at : StoppedWithin n → ((begins test ts ≡ true) × (one_more test item (repeated test item) ts ≡ Err f)) ⊎ ((begins test ts ≡ false) × (done {A = List A × List Lexeme} ([], ts) ≡ Err f))
          → Stopped D (repeated test item) (many U) ts f
      at within (inl h) = stopped_more r starts carries n within ts le f h.0 h.1
      at within (inr h) = absurd (let m = h.1 in cc)

  -- items may follow items, and then what may follow them all
  pub follows_items : Begins → ((kind : TokenKind) → test kind ≡ true → F kind) → (xs : List A) (ts rest : List Lexeme) → many L xs ts → Follows (past test F) rest → Follows F (ts ++ rest)
  follows_items starts goes [] ts [] h fits = subst (λ (l : List Lexeme). Follows F (l ++ [])) (sym h) tt
  follows_items starts goes [] ts (t ∷ rest) h fits = subst (λ (l : List Lexeme). Follows F (l ++ t ∷ rest)) (sym h) fits.1
  follows_items starts goes (x ∷ xs) ts rest h fits = at ts (ap (begins test) h.2 ∙ begins_front test h.0 h.1 (starts x h.0 h.3))
    where
      at : (ts : List Lexeme) → begins test ts ≡ true → Follows F (ts ++ rest)
      at [] b = absurd cc
      at (t ∷ ts) b = goes t.kind b

  stops_past : (rest : List Lexeme) → Follows (past test F) rest → begins test rest ≡ false
  stops_past [] fits = refl
  stops_past (t ∷ rest) fits = fits.0

  many_again : Reads C item L U F → Begins → ((kind : TokenKind) → test kind ≡ true → F kind) → (xs : List A) (front rest : List Lexeme) → many L xs front → Follows (past test F) rest → repeated test item (front ++ rest) ≡ Ok (xs, rest)
  many_again r starts goes [] front rest h fits =
      ap (λ (l : List Lexeme). repeated test item (l ++ rest)) h ∙ repeated_ends test item (takes r starts) rest (stops_past rest fits)
  many_again r starts goes (x ∷ xs) front rest h fits =
      let one = r.again h.0 x (h.1 ++ rest) h.3 (follows_items starts goes xs h.1 rest h.4 fits) in
      let two = many_again r starts goes xs h.1 rest h.4 fits in
      ap (λ (l : List Lexeme). repeated test item (l ++ rest)) h.2
      ∙ ap (repeated test item) (append_assoc h.0 h.1 rest)
      ∙ repeated_goes test item (takes r starts) (h.0 ++ (h.1 ++ rest)) (begins_front test h.0 _ (starts x h.0 h.3))
      ∙ rw (one, two) refl

  widened : ((x : A) (ts : List Lexeme) → L x ts → U x ts) → (xs : List A) (ts : List Lexeme) → many L xs ts → many U xs ts
  widened w [] ts h = h
  widened w (x ∷ xs) ts h = (h.0, h.1, h.2, w x h.0 h.3, widened w xs h.1 h.4)

  pub many_up : Reads C item L U F → Begins → ((kind : TokenKind) → test kind ≡ true → F kind) → Carries → Reads D (repeated test item) (many L) (many U) (past test F)
  many_up r starts goes carries = record {
    taken = λ ts xs rest e. many_taken r starts (length ts) ts (omega arith) xs rest e;
    again = λ front xs rest h fits. many_again r starts goes xs front rest h fits;
    stopped = λ ts f e. many_stopped r starts carries (length ts) ts (omega arith) f e;
    wider = widened r.wider;
    value = [];
    example = [];
    spelled = refl;
  }

module _ {A : Type 0} (C D : Claim) (test : TokenKind → Bool) (item : Reader A) (L : A → Language) (F : TokenKind → Type 0) where
  pub many_reads : Reads C item L L F → Begins C D test item L L F → ((kind : TokenKind) → test kind ≡ true → F kind) → Carries C D test item L L F → Reads D (repeated test item) (many L) (many L) (past test F)
  many_reads r starts goes carries = many_up C D test item L L F r starts goes carries
