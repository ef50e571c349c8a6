use Rattle.std.proofs.Common.{◌≡◌, ◌+◌, ◌-◌, ◌<◌, true, ◌∷◌, length, get_or, take, drop, refl, sym, ap, ◌∙◌, subst, arith}
use Rattle.std.proofs.lemmas.List.{drop_more, take_more, take_rest, length-take-le, length-take, length-drop}
use Rattle.std.proofs.lemmas.Result.{err_from_is_err_and}
use Rattle.scrib_lexer.specs.Lexeme.{lexemes_of}
use Rattle.scrib_lexer.specs.Pieces.{IsElement}
use Rattle.scrib_lexer.specs.Tokens.{spot_after}
use Rattle.scrib_lexer.specs.declared.token.Element.TheVariants as element
use Rattle.scrib_lexer.specs.Steps.{IsFrontElement, spot_in, spot_past, spot_past_all}
use Rattle.scrib_lexer.specs.Words.{is_space}
use Rattle.scrib_lexer.proofs.Spots.{line-le, column-le, spot_after-push}
use Rattle.scrib_lexer.proofs.ReadingLemmas.{IsRead, read_token, read_other, spot_more, fault_here, placed, is_faulty, no_tokens, fails_as, refused_as, end_found, end_only, no_fault}
use Rattle.scrib_lexer.proofs.lex.lex.Goals as goal
use Rattle.scrib_lexer.proofs.lex.lex.Goals.{in-Token+in_ok-push, in_default}

pub past-line-requires-clause-number : goal.past-line-requires-clause-number
past-line-requires-clause-number c =
    let i = c.loop-start.start in
    let text = c.args.text.now in
    omega (arith, line-le (take i text), ap (λ s. s.line) c.loop-start.invariant.place, length-take-le i text c.loop-start.invariant.within)

-- a byte of white space is a piece by itself
pub loop-start-preserved-then-is_space : goal.loop-start-preserved-then-is_space
loop-start-preserved-then-is_space c =
    let i = c.loop-start.start in
    let text = c.args.text.now in
    let below : i < length text = c.loop-start-test.true in
    let space : is_space (get_or text i 0) ≡ true = sym c.if-is_space.ensures in
    let front : IsFrontElement (get_or text i 0 ∷ drop (i + 1) text) element.Space 1 = record {
      some = omega arith;
      within = omega arith;
      whole = (get_or text i 0, refl, space);
      longest = tt;
    } in
    let here = subst (λ x. IsFrontElement x element.Space 1) (sym (drop_more text i 0 below)) front in
    record {
      within = omega arith;
      behind = c.past-line.ensures.within;
      place = c.past-line.ensures.spot ∙ ap (λ s. spot_past s (get_or text i 0)) c.loop-start.invariant.place ∙ sym (ap spot_after (take_more text i 0 below) ∙ spot_after-push (take i text) (get_or text i 0));
      read = read_other text i 1 element.Space _ (λ k e. cc) here c.loop-start.invariant.read;
    }

pub front_element-requires-clause-column : goal.front_element-requires-clause-column
front_element-requires-clause-column c =
    let i = c.loop-start.start in
    let text = c.args.text.now in
    rw take_rest (omega (arith, column-le (take i text), ap (λ s. s.column) (c.spot-spot.ensures ∙ c.loop-start.invariant.place), length-take-le i text c.loop-start.invariant.within, length-drop i text))

pub returns-in_err-element-clause-only : goal.returns-in_err-element-clause-only
returns-in_err-element-clause-only c ts h =
    let text = c.args.text.now in
    let w = rw take_rest at c.in_err-element.ensures.fault in
    let n = placed _ _ _ w in
    let here = fault_here text c.loop-start.start _ _ c.in_err-element.field-0.0 (omega arith) (c.spot-spot.ensures ∙ c.loop-start.invariant.place) c.loop-start.invariant.read w in
    absurd (no_tokens text c.in_err-element.field-0.0 ts (is_faulty text c.in_err-element.field-0.0 n.0 n.1 here) h)

pub returns-in_err-element-clause-fault : goal.returns-in_err-element-clause-fault
returns-in_err-element-clause-fault c =
    let p = err_from_is_err_and c.from_residual-in_err-element.result c.from_residual-in_err-element.ensures.1 in
    let w = rw take_rest at c.in_err-element.ensures.fault in
    rw (p.1, p.2) (fault_here c.args.text.now c.loop-start.start _ _ c.in_err-element.field-0.0 (omega arith) (c.spot-spot.ensures ∙ c.loop-start.invariant.place) c.loop-start.invariant.read w)

pub returns-in_err-element-clause-refused : goal.returns-in_err-element-clause-refused
returns-in_err-element-clause-refused c f m h =
    let text = c.args.text.now in
    let p = err_from_is_err_and c.from_residual-in_err-element.result c.from_residual-in_err-element.ensures.1 in
    let w = rw take_rest at c.in_err-element.ensures.fault in
    let n = placed _ _ _ w in
    let here = fault_here text c.loop-start.start _ _ c.in_err-element.field-0.0 (omega arith) (c.spot-spot.ensures ∙ c.loop-start.invariant.place) c.loop-start.invariant.read w in
    rw (p.1, p.2) (refused_as text c.in_err-element.field-0.0 f (fails_as text c.in_err-element.field-0.0 f n.0 n.1 here m h))

pub past_element-line-requires-clause-number : goal.past_element-line-requires-clause-number
past_element-line-requires-clause-number c =
    let i = c.loop-start.start in
    let len = c.in_ok-element.len in
    let text = c.args.text.now in
    let f = rw take_rest at c.in_ok-element.ensures.found in
    omega (arith, line-le (take i text), ap (λ s. s.line) c.loop-start.invariant.place, length-take-le i text c.loop-start.invariant.within, length-drop i text, f.within, length-take (i + len - i) (drop i text))

pub past_element-line-requires-clause-column : goal.past_element-line-requires-clause-column
past_element-line-requires-clause-column c =
    let i = c.loop-start.start in
    let len = c.in_ok-element.len in
    let text = c.args.text.now in
    let f = rw take_rest at c.in_ok-element.ensures.found in
    omega (arith, length-drop i text, f.within, length-take (i + len - i) (drop i text))

pub loop-start-preserved : goal.loop-start-preserved
loop-start-preserved c =
    let i = c.loop-start.start in
    let len = c.in_ok-element.len in
    let text = c.args.text.now in
    let e = c.in_ok-element.element in
    let f = rw take_rest at c.in_ok-element.ensures.found in
    let bytes : take (i + len - i) (drop i text) ≡ take len (drop i text) = ap (λ n. take n (drop i text)) (omega arith) in
    let size : length (take (i + len - i) (drop i text)) ≡ len = ap length bytes ∙ length-take-le len (drop i text) f.within in
    let old = c.loop-start.tokens.items in
    let more : IsRead text (i + len) (lexemes_of c.match-element.tokens.items) =
    elim c.match-element.branch [
      | in-Token+in_ok-push w ↦ read_token text i len e w.in-Token.kind old c.match-element.tokens.items _ c.loop-start.invariant.within w.in-Token.is f c.loop-start.invariant.read (ap (λ v. v.items) w.tokens-is ∙ w.in_ok-push.ensures.items) (λ j. record { kind = w.in-Token.kind; bytes = bytes j; spot = (c.spot-spot.ensures ∙ c.loop-start.invariant.place) j })
      | in_default w ↦ subst (λ v. IsRead text (i + len) (lexemes_of v.items)) (sym w.tokens-is) (read_other text i len e (lexemes_of old) w.in_default.not-Token f c.loop-start.invariant.read)
    ] in
    record {
      within = omega (arith, length-drop i text, f.within);
      behind = omega (arith, c.past_element-line.ensures.within, size);
      place = ap (λ n. spot_in c.past_element-line.result (i + n)) (sym size) ∙ c.past_element-line.ensures.spot ∙ (λ j. spot_past_all (c.loop-start.invariant.place j) (bytes j)) ∙ sym (spot_more text i len);
      read = more;
    }

pub returns-clause-only : goal.returns-clause-only
returns-clause-only c ts h =
    end_only c.args.text.now c.loop-start.start _ ts c.loop-start-test.false c.loop-start.invariant.read h

pub returns-clause-refused : goal.returns-clause-refused
returns-clause-refused c f n h =
    absurd (no_fault c.args.text.now _ f n (end_found c.args.text.now c.loop-start.start _ (omega arith) c.loop-start-test.false c.loop-start.invariant.read) h)

pub past_element-line-requires-clause-element : goal.past_element-line-requires-clause-element
past_element-line-requires-clause-element c =
    let i = c.loop-start.start in
    let len = c.in_ok-element.len in
    let text = c.args.text.now in
    let f = rw take_rest at c.in_ok-element.ensures.found in
    let bytes : take (i + len - i) (drop i text) ≡ take len (drop i text) = ap (λ n. take n (drop i text)) (omega arith) in
    subst (λ b. IsElement c.in_ok-element.element b) (sym bytes) f.whole
