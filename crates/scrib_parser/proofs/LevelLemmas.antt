-- With more levels of blocks reading has the same result, unless it stopped at a block with no level left.
use Rattle.std.proofs.Common.{◌≡◌, ℕ, zero, suc, ◌+◌, Bool, true, false, cond, List, [], ◌∷◌, length, Some, Result, Ok, Err, refl, ap, ◌∙◌, inl, inr, arith}
use Rattle.std.specs.Prelude.{◌⊎◌}
use Rattle.scrib_types.specs.declared.spot.Spot.{Spot}
use Rattle.scrib_lexer.specs.declared.token.TokenKind.{TokenKind}
use Rattle.scrib_lexer.specs.declared.token.TokenKind.TheVariants.{OpenBrace}
use Rattle.scrib_lexer.specs.Lexeme.{Lexeme}
use Rattle.scrib_parser.specs.declared.fault.ParseFault.{ParseFault}
use Rattle.scrib_parser.specs.declared.fault.ParseFault.TheVariants.{TooDeep}
use Rattle.scrib_tree.specs.declared.tree.Block.{Block}
use Rattle.scrib_parser.specs.Reading.{Reader, ◌>>=◌, begins, same_kind, chain, mapped, read_both, after, read_before, branch, repeat, repeated, token_of, read_blocks, read_choice, recursion_of, statement_of, begins_statement, statements_of, deep_fault, opened_block_of, block_of, protocol_of, read_declaration, begins_declaration, declarations_of, module_of, at_end, whole_of}

-- a result for want of a level
abbrev pub IsDeep : {A : Type 0} → Result A ParseFault → Type 0
IsDeep {A} read = (spot : Spot) × ◌≡◌ {A = Result A ParseFault} read (Err (TooDeep spot))

-- the first result is the second, or came for want of a level
abbrev pub Same : {A : Type 0} → Result A ParseFault → Result A ParseFault → Type 0
Same {A} r s = ◌≡◌ {A = Result A ParseFault} r s ⊎ IsDeep r

abbrev pub Under : {A : Type 0} → Reader A → Reader A → Type 0
Under r s = (ts : List Lexeme) → Same (r ts) (s ts)

pub same_bind : {A B : Type 0} (r s : Result A ParseFault) (f g : A → Result B ParseFault) → Same r s → ((x : A) → Same (f x) (g x)) → Same (r >>= f) (s >>= g)
same_bind {A} {B} r s f g (inr d) h = inr (d.0, ap (λ (q : Result A ParseFault). q >>= f) d.1)
same_bind {A} {B} r s f g (inl e) h = at r (ap (λ (q : Result A ParseFault). q >>= g) e)
  where
    at : (q : Result A ParseFault) → (q >>= g) ≡ (s >>= g) → Same (q >>= f) (s >>= g)
    at (Ok x) k = on (h x)
      where
        on : Same (f x) (g x) → Same (f x) (s >>= g)
        on (inl m) = inl (m ∙ k)
        on (inr d) = inr d
    at (Err d) k = inl k

pub under_same : {A : Type 0} (r : Reader A) → Under r r
under_same r ts = inl refl

module _ {A B : Type 0} where
  under_chain : (r s : Reader A) (f g : A → Reader B) → Under r s → ((x : A) → Under (f x) (g x)) → Under (chain r f) (chain s g)
  under_chain r s f g u v ts = same_bind (r ts) (s ts) (λ x. f x.0 x.1) (λ x. g x.0 x.1) (u ts) (λ x. v x.0 x.1)

  under_mapped : (k : A → B) (r s : Reader A) → Under r s → Under (mapped k r) (mapped k s)
  under_mapped k r s u ts = same_bind (r ts) (s ts) (λ x. Ok (k x.0, x.1)) (λ x. Ok (k x.0, x.1)) (u ts) (λ x. inl refl)

module _ {A B : Type 0} where
  -- the second part has the blocks
  under_both : (r : Reader A) (f g : Reader B) → Under f g → Under (read_both r f) (read_both r g)
  under_both r f g v = under_chain r r (λ x. mapped (λ y. (x, y)) f) (λ x. mapped (λ y. (x, y)) g) (under_same r) (λ x. under_mapped (λ (y : B). (x, y)) f g v)

  under_after : (r : Reader A) (f g : Reader B) → Under f g → Under (after r f) (after r g)
  under_after r f g v = under_chain r r (λ x. f) (λ x. g) (under_same r) (λ x. v)

  under_before : (r s : Reader A) (f : Reader B) → Under r s → Under (read_before r f) (read_before s f)
  under_before r s f u = under_chain r s (λ x. mapped (λ y. x) f) (λ x. mapped (λ y. x) f) u (λ x. under_same (mapped (λ y. x) f))

under_cond : {A : Type 0} (b : Bool) (r s p q : Result A ParseFault) → Same r s → Same p q → Same (cond b r p) (cond b s q)
under_cond true r s p q u v = u
under_cond false r s p q u v = v

under_branch : {A : Type 0} (test : TokenKind → Bool) (r s p q : Reader A) → Under r s → Under p q → Under (branch test r p) (branch test s q)
under_branch test r s p q u v ts = under_cond (begins test ts) (r ts) (s ts) (p ts) (q ts) (u ts) (v ts)

under_repeat : {A : Type 0} (test : TokenKind → Bool) (r s : Reader A) → Under r s → (n : ℕ) (ts : List Lexeme) → Same (repeat test r n ts) (repeat test s n ts)
unfolding repeat
under_repeat test r s u zero ts = inl refl
under_repeat test r s u (suc n) ts =
    under_cond (begins test ts) _ _ (Ok ([], ts)) (Ok ([], ts))
    (same_bind (r ts) (s ts) (λ x. repeat test r n x.1 >>= λ xs. Ok (x.0 ∷ xs.0, xs.1)) (λ x. repeat test s n x.1 >>= λ xs. Ok (x.0 ∷ xs.0, xs.1)) (u ts)
    (λ x. same_bind (repeat test r n x.1) (repeat test s n x.1) (λ xs. Ok (x.0 ∷ xs.0, xs.1)) (λ xs. Ok (x.0 ∷ xs.0, xs.1)) (under_repeat test r s u n x.1) (λ xs. inl refl)))
    (inl refl)

under_repeated : {A : Type 0} (test : TokenKind → Bool) (r s : Reader A) → Under r s → Under (repeated test r) (repeated test s)
unfolding repeated
under_repeated test r s u ts = under_repeat test r s u (length ts) ts

module _ (r s : Reader Block) (u : Under r s) where
  under_blocks : Under (read_blocks r) (read_blocks s)
  unfolding read_blocks
  under_blocks =
      under_chain r s _ _ u (λ first. under_mapped (λ more. first ∷ more) _ _ (under_repeated _ _ _ (under_after (token_of _) r s u)))

  under_choice : Under (read_choice r) (read_choice s)
  unfolding read_choice
  under_choice = under_mapped _ _ _ (under_both (token_of _) _ _ (under_after (token_of _) _ _ (under_both _ (read_blocks r) (read_blocks s) under_blocks)))

  under_recursion : Under (recursion_of r) (recursion_of s)
  unfolding recursion_of
  under_recursion = under_mapped _ _ _ (under_both (token_of _) _ _ (under_both _ r s u))

  under_statement : Under (statement_of r) (statement_of s)
  unfolding statement_of
  under_statement = under_branch _ (read_choice r) (read_choice s) _ _ under_choice (under_branch _ (recursion_of r) (recursion_of s) _ _ under_recursion (under_same _))

  under_statements : Under (statements_of r) (statements_of s)
  unfolding statements_of
  under_statements = under_repeated begins_statement (statement_of r) (statement_of s) under_statement

  under_opened : Under (opened_block_of r) (opened_block_of s)
  unfolding opened_block_of
  under_opened = under_mapped _ _ _ (under_both (token_of OpenBrace) _ _ (under_before (statements_of r) (statements_of s) _ under_statements))

shallow : (inner : Reader Block) (t : Lexeme) (ts : List Lexeme) (b : Bool) → same_kind OpenBrace t.kind ≡ b → Same {A = Block × List Lexeme} (Err (deep_fault (t ∷ ts))) (opened_block_of inner (t ∷ ts))
unfolding opened_block_of token_of
shallow inner t ts true e = inr (t.spot, rw e refl)
shallow inner t ts false e = inl (rw e refl)

under_block : (levels : ℕ) → Under (block_of levels) (block_of (suc levels))
unfolding block_of opened_block_of token_of
under_block zero [] = inl refl
under_block zero (t ∷ ts) = shallow (block_of zero) t ts (same_kind OpenBrace t.kind) refl
under_block (suc levels) ts = under_opened (block_of levels) (block_of (suc levels)) (under_block levels) ts

under_protocol : (levels : ℕ) → Under (protocol_of levels) (protocol_of (suc levels))
unfolding protocol_of
under_protocol levels =
    under_mapped _ _ _ (under_both (token_of _) _ _ (under_after (token_of _) _ _ (under_both _ _ _ (under_after (token_of _) _ _ (under_both _ _ _ (under_after (token_of _) (block_of levels) (block_of (suc levels)) (under_block levels)))))))

under_declaration : (levels : ℕ) → Under (read_declaration levels) (read_declaration (suc levels))
unfolding read_declaration
under_declaration levels = under_branch _ _ _ _ _ (under_same _) (under_mapped Some (protocol_of levels) (protocol_of (suc levels)) (under_protocol levels))

under_declarations : (levels : ℕ) → Under (declarations_of levels) (declarations_of (suc levels))
unfolding declarations_of
under_declarations levels = under_mapped _ _ _ (under_repeated begins_declaration (read_declaration levels) (read_declaration (suc levels)) (under_declaration levels))

under_module : (levels : ℕ) → Under (module_of levels) (module_of (suc levels))
unfolding module_of
under_module levels =
    under_mapped _ _ _ (under_after (token_of _) _ _ (under_both _ _ _ (under_after (token_of _) _ _ (under_both _ (declarations_of levels) (declarations_of (suc levels)) (under_declarations levels)))))

one_deeper : (levels : ℕ) (ts : List Lexeme) → Same (whole_of levels ts) (whole_of (suc levels) ts)
unfolding whole_of
one_deeper levels ts = same_bind (module_of levels ts) (module_of (suc levels) ts) at_end at_end (under_module levels ts) (λ x. inl refl)

pub deeper : (more levels : ℕ) (ts : List Lexeme) → Same (whole_of levels ts) (whole_of (levels + more) ts)
deeper zero levels ts = inl (ap (λ n. whole_of n ts) (omega arith))
deeper (suc more) levels ts = at (deeper more levels ts) (one_deeper (levels + more) ts)
  where
    end : whole_of (suc (levels + more)) ts ≡ whole_of (levels + suc more) ts
    end = ap (λ n. whole_of n ts) (omega arith)

    at : Same (whole_of levels ts) (whole_of (levels + more) ts) → Same (whole_of (levels + more) ts) (whole_of (suc (levels + more)) ts) → Same (whole_of levels ts) (whole_of (levels + suc more) ts)
    at (inr d) k = inr d
    at (inl e) (inl k) = inl (e ∙ k ∙ end)
    at (inl e) (inr d) = inr (d.0, e ∙ d.1)
