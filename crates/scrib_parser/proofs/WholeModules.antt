-- A module is read from its spelling alone, and each fault is the leftmost one.
use Rattle.std.proofs.Common.{◌≡◌, ℕ, zero, suc, ◌+◌, ◌-◌, ◌≤◌, List, [], ◌∷◌, ◌++◌, Option, Some, None, Result, Ok, Err, refl, sym, ap, subst, ◌∙◌, append_assoc, inl, inr, arith}
use Rattle.std.specs.Prelude.{◌⊎◌, IfOk, IfErr}
use Rattle.std.proofs.lemmas.List.{append-nil}
use Rattle.scrib_types.specs.declared.spot.Spot.{Spot}
use Rattle.scrib_lexer.specs.declared.token.Keyword.TheVariants as words
use Rattle.scrib_lexer.specs.declared.token.TokenKind.TheVariants.{Keyword}
use Rattle.scrib_lexer.specs.Lexeme.{Lexeme}
use Rattle.scrib_parser.specs.declared.fault.LeftOutWord.{LeftOutWord}
use Rattle.scrib_parser.specs.declared.fault.ParseFault.{ParseFault}
use Rattle.scrib_parser.specs.declared.fault.ParseFault.TheVariants.{Unexpected, EndOfText, LeftOut, TooDeep, OutOfMemory}
use Rattle.scrib_tree.specs.declared.tree.ModuleTree.{ModuleTree}
use Rattle.scrib_parser.specs.LeftOut.{left_out_declaration}
use Rattle.scrib_parser.specs.Grammar.{module_text, IsModule, ParseGives, IsBeginning, TokenMayFollow, IsParseFault}
use Rattle.scrib_parser.specs.Reading.{◌>>=◌, GivesAll, module_of, refusal, at_end, whole_of}
use Rattle.scrib_parser.proofs.Laws.{Taken, Stopped, bind_ok, bind_err, ok_is, err_is}
use Rattle.scrib_parser.proofs.Claims.{claim_of}
use Rattle.scrib_parser.proofs.Modules.{module_reads, a_protocol_text, one_protocol_more}
use Rattle.scrib_parser.proofs.LevelLemmas.{Same, deeper}
use Rattle.scrib_parser.proofs.FaultKinds.{exclusive}

at_end_ok : (m n : ModuleTree) (rest : List Lexeme) → at_end (m, rest) ≡ Ok n → (rest ≡ []) × (m ≡ n)
at_end_ok m n [] e = (refl, ok_is m n e)
at_end_ok m n (t ∷ ts) e = absurd cc

-- the tokens spell the module that is read
pub whole_found : (levels : ℕ) (ts : List Lexeme) (m : ModuleTree) → whole_of levels ts ≡ Ok m → module_text levels m ts
unfolding whole_of
whole_found levels ts m e =
    let a = bind_ok (module_of levels ts) at_end m e in
    let k = at_end_ok a.0.0 m a.0.1 a.2 in
    let t = (module_reads levels).taken ts a.0.0 a.0.1 a.1 in
    let all : ts ≡ t.front = t.parts ∙ ap (λ (l : List Lexeme). t.front ++ l) k.0 ∙ append-nil t.front in
    subst (λ (n : ModuleTree). module_text levels n ts) k.1 (subst (λ (l : List Lexeme). module_text levels a.0.0 l) (sym all) t.spelled)

-- a module that the tokens spell is read
pub whole_again : (levels : ℕ) (ts : List Lexeme) (m : ModuleTree) → module_text levels m ts → whole_of levels ts ≡ Ok m
unfolding whole_of
whole_again levels ts m h =
    let one : module_of levels ts ≡ Ok (m, []) = ap (module_of levels) (sym (append-nil ts)) ∙ (module_reads levels).again ts m [] h tt in
    rw one refl

-- no text is both read and refused
refused : (levels : ℕ) (ts : List Lexeme) (f : ParseFault) → whole_of levels ts ≡ Err f → (m : ModuleTree) → module_text levels m ts → ⊥
refused levels ts f e m h = let k : Err f ≡ Ok m = sym e ∙ whole_again levels ts m h in cc

-- a fault for another cause than want of a level
abbrev IsShallow : ParseFault → Type 0
IsShallow f = (spot : Spot) → f ≡ TooDeep spot → ⊥

not_both : (f : ParseFault) (m : ModuleTree) → ◌≡◌ {A = Result ModuleTree ParseFault} (Err f) (Ok m) → ⊥
not_both f m e = cc

no_more : (a b : ℕ) → (a ≤ b) ⊎ (b ≤ a)
no_more zero b = inl (omega arith)
no_more (suc a) zero = inr (omega arith)
no_more (suc a) (suc b) = at (no_more a b)
  where
    at : (a ≤ b) ⊎ (b ≤ a) → (suc a ≤ suc b) ⊎ (suc b ≤ suc a)
    at (inl k) = inl (omega (arith, k))
    at (inr k) = inr (omega (arith, k))

-- what is refused for another cause is no module of any number of levels
no_module : (levels : ℕ) (ts : List Lexeme) (f : ParseFault) → whole_of levels ts ≡ Err f → IsShallow f → (n : ℕ) (m : ModuleTree) → module_text n m ts → ⊥
no_module levels ts f e shallow n m h = at (no_more n levels)
  where
    read : whole_of n ts ≡ Ok m
    read = whole_again n ts m h

    fewer : (more : ℕ) → n + more ≡ levels → Same (whole_of n ts) (whole_of (n + more) ts) → ⊥
    fewer more k (inl s) = not_both f m (sym e ∙ ap (λ l. whole_of l ts) (sym k) ∙ sym s ∙ read)
    fewer more k (inr d) = not_both (TooDeep d.0) m (sym d.1 ∙ read)

    further : (more : ℕ) → levels + more ≡ n → Same (whole_of levels ts) (whole_of (levels + more) ts) → ⊥
    further more k (inl s) = not_both f m (sym e ∙ s ∙ ap (λ l. whole_of l ts) k ∙ read)
    further more k (inr d) = shallow d.0 (err_is {A = ModuleTree} f (TooDeep d.0) (sym e ∙ d.1))

    at : (n ≤ levels) ⊎ (levels ≤ n) → ⊥
    at (inl k) = fewer (levels - n) (omega arith) (deeper (levels - n) n ts)
    at (inr k) = further (n - levels) (omega arith) (deeper (n - levels) levels ts)

-- where reading stops at a token whatever follows it, no module has the token there
offends : (levels : ℕ) (front : List Lexeme) (t : Lexeme) (f : ParseFault) → ((vs : List Lexeme) → whole_of levels (front ++ t ∷ vs) ≡ Err f) → IsShallow f → IsBeginning (front ++ t ∷ []) → ⊥
offends levels front t f h shallow w =
    no_module levels (front ++ t ∷ w.1) f (h w.1) shallow w.0 w.2 (subst (λ (l : List Lexeme). module_text w.0 w.2 l) (append_assoc front (t ∷ []) w.1) w.3)

module _ (levels : ℕ) (ts : List Lexeme) where
  abbrev StopsAt : ParseFault → Type 0
  StopsAt f = Stopped (claim_of (module_text (suc levels))) (module_of levels) (module_text (suc levels)) ts f

  begun : (f : ParseFault) (s : StopsAt f) → IsBeginning s.front
  begun f s = (suc levels, s.more, s.value, s.spelled)

  stays : (f : ParseFault) (s : StopsAt f) (u : Lexeme) (us : List Lexeme) → s.rest ≡ u ∷ us → (vs : List Lexeme) → whole_of levels (s.front ++ u ∷ vs) ≡ Err f
  unfolding whole_of
  stays f s u us k vs = rw (s.again u us vs k) refl

  parts_at : (f : ParseFault) (s : StopsAt f) (u : Lexeme) (us : List Lexeme) → s.rest ≡ u ∷ us → ts ≡ s.front ++ u ∷ us
  parts_at f s u us k = s.parts ∙ ap (λ (l : List Lexeme). s.front ++ l) k

stopped_at : (ts : List Lexeme) (f : ParseFault) → whole_of 64 ts ≡ Err f → Stopped (claim_of (module_text 65)) (module_of 64) (module_text 65) ts f → IsParseFault ts f
stopped_at ts (Unexpected spot) e s =
    let h = s.cause in
    let goes : (vs : List Lexeme) → whole_of 64 (s.front ++ h.0 ∷ vs) ≡ Err (Unexpected spot) = stays 64 ts (Unexpected spot) s h.0 h.1 h.2 in (
      s.front,
      h.0,
      h.1,
      parts_at 64 ts (Unexpected spot) s h.0 h.1 h.2,
      (begun 64 ts (Unexpected spot) s, offends 64 s.front h.0 (Unexpected spot) goes (λ at k. cc k)),
      exclusive s.front h.0 (goes [] ∙ ap (λ at. Err (Unexpected at)) (sym h.3)),
      h.3,
    )
stopped_at ts EndOfText e s =
    let all : s.front ≡ ts = sym (s.parts ∙ ap (λ (l : List Lexeme). s.front ++ l) s.cause ∙ append-nil s.front) in
    (subst IsBeginning all (begun 64 ts EndOfText s), no_module 64 ts EndOfText e (λ at k. cc k))
stopped_at ts (LeftOut word spot) e s =
    let h = s.cause in
    let c = h.3 in (
      s.front,
      h.0,
      h.1,
      parts_at 64 ts (LeftOut word spot) s h.0 h.1 h.2,
      (begun 64 ts (LeftOut word spot) s, offends 64 s.front h.0 (LeftOut word spot) (stays 64 ts (LeftOut word spot) s h.0 h.1 h.2) (λ at k. cc k)),
      inr (c.0, c.1, c.2, c.3.0, c.3.1, (c.4.0, c.4.1, (65, c.4.2.1, c.4.2.0, c.4.2.2))),
    )
stopped_at ts (TooDeep spot) e s =
    let h = s.cause in (
      s.front,
      h.0,
      h.1,
      parts_at 64 ts (TooDeep spot) s h.0 h.1 h.2,
      h.3,
      (65, h.5.1, h.5.0, h.5.2),
      (λ more m k. refused 64 (s.front ++ h.0 ∷ more) (TooDeep spot) (stays 64 ts (TooDeep spot) s h.0 h.1 h.2 more) m k),
      h.4,
    )
stopped_at ts OutOfMemory e s = tt

-- a token that is left over
left_over : (ts : List Lexeme) (f : ParseFault) (m : ModuleTree) (rest : List Lexeme) → module_of 64 ts ≡ Ok (m, rest) → at_end (m, rest) ≡ Err f → IsParseFault ts f
unfolding whole_of
left_over ts f m [] e k = absurd cc
left_over ts f m (u ∷ us) e k = at (left_out_declaration u) f refl (err_is {A = ModuleTree} (refusal (left_out_declaration u) u) f k)
  where
    t : Taken (module_of 64) (module_text 64) ts m (u ∷ us)
    t = (module_reads 64).taken ts m (u ∷ us) e

    whole : IsBeginning t.front
    whole = (64, [], m, subst (λ (l : List Lexeme). module_text 64 m l) (sym (append-nil t.front)) t.spelled)

    goes_on : (vs : List Lexeme) → whole_of 64 (t.front ++ u ∷ vs) ≡ Err (refusal (left_out_declaration u) u)
    goes_on vs = ap (λ r. r >>= at_end) (t.again u us vs refl)

    may_follow : TokenMayFollow (Keyword words.Global) t.front
    may_follow =
        let g = a_protocol_text 64 in
        let n = one_protocol_more 65 m g.0 t.front (g.1 ∷ g.2) ((module_reads 64).wider m t.front t.spelled) g.4 in
        (g.1, g.3, (65, g.2, n.0, subst (λ (l : List Lexeme). module_text 65 n.0 l) (sym (append_assoc t.front (g.1 ∷ []) g.2)) n.1))

    at : (o : Option LeftOutWord) (g : ParseFault) → left_out_declaration u ≡ o → refusal (left_out_declaration u) u ≡ g → IsParseFault ts g
    at None g d r =
        let reported : Unexpected u.spot ≡ g = ap (λ o. refusal o u) (sym d) ∙ r in
        let goes : (vs : List Lexeme) → whole_of 64 (t.front ++ u ∷ vs) ≡ Err (Unexpected u.spot) = λ vs. goes_on vs ∙ ap (λ o. Err (refusal o u)) d in
        subst (λ (x : ParseFault). IsParseFault ts x) reported
        (t.front, u, us, t.parts, (whole, offends 64 t.front u (Unexpected u.spot) goes (λ at k. cc k)), exclusive t.front u (goes []), refl)
    at (Some word) g d r =
        let reported : LeftOut word u.spot ≡ g = ap (λ o. refusal o u) (sym d) ∙ r in
        subst (λ (x : ParseFault). IsParseFault ts x) reported
        (t.front, u, us, t.parts, (whole, offends 64 t.front u (LeftOut word u.spot) (λ vs. goes_on vs ∙ ap (λ o. Err (refusal o u)) d) (λ at k. cc k)), inl (d, refl, may_follow))

-- a fault is the first from the left
pub whole_fault : (ts : List Lexeme) (f : ParseFault) → whole_of 64 ts ≡ Err f → IsParseFault ts f
unfolding whole_of
whole_fault ts f e = at (bind_err (module_of 64 ts) at_end f e)
  where
    at : (module_of 64 ts ≡ Err f) ⊎ ((x : ModuleTree × List Lexeme) × (module_of 64 ts ≡ Ok x) × (at_end x ≡ Err f)) → IsParseFault ts f
    at (inl h) = stopped_at ts f e ((module_reads 64).stopped ts f h)
    at (inr h) = left_over ts f h.0.0 h.0.1 h.1 h.2

-- ---- the result of a function that reads the same

pub is_found : (ts : List Lexeme) (r : Result ModuleTree ParseFault) → GivesAll r (whole_of 64 ts) → IfOk r (λ m. IsModule ts m)
is_found ts (Ok m) given = whole_found 64 ts m given
is_found ts (Err f) given = tt

pub is_only : (ts : List Lexeme) (r : Result ModuleTree ParseFault) → GivesAll r (whole_of 64 ts) → (m : ModuleTree) → IsModule ts m → ParseGives r m
is_only ts (Ok n) given m h = ok_is n m (sym given ∙ whole_again 64 ts m h)
is_only ts (Err OutOfMemory) given m h = tt
is_only ts (Err (Unexpected spot)) given m h = refused 64 ts (Unexpected spot) given m h
is_only ts (Err EndOfText) given m h = refused 64 ts EndOfText given m h
is_only ts (Err (LeftOut word spot)) given m h = refused 64 ts (LeftOut word spot) given m h
is_only ts (Err (TooDeep spot)) given m h = refused 64 ts (TooDeep spot) given m h

pub is_fault : (ts : List Lexeme) (r : Result ModuleTree ParseFault) → GivesAll r (whole_of 64 ts) → IfErr r (λ e. IsParseFault ts e)
is_fault ts (Ok m) given = tt
is_fault ts (Err OutOfMemory) given = tt
is_fault ts (Err (Unexpected spot)) given = whole_fault ts (Unexpected spot) given
is_fault ts (Err EndOfText) given = whole_fault ts EndOfText given
is_fault ts (Err (LeftOut word spot)) given = whole_fault ts (LeftOut word spot) given
is_fault ts (Err (TooDeep spot)) given = whole_fault ts (TooDeep spot) given
