use Rattle.std.proofs.Common.{◌≡◌, ◌<◌, ◌-◌, ◌∙◌, ◌++◌, ℕ, List, true, get_or, length, length-drop, take, take_all, drop, refl, sym, ap, subst, arith}
use Rattle.std.specs.List.{list_all}
use Rattle.std.proofs.lemmas.List.{take-append-drop}
use Rattle.std.proofs.lemmas.List.Folds.{list_all_more}
use Rattle.scrib_script_reader.specs.Fields.{is_blank}
use Rattle.scrib_objects.proofs.exchange_members.after_blanks.Goals as goal

pub loop-at-preserved : goal.loop-at-preserved
loop-at-preserved c =
    let at = c.loop-at.at in
    let bytes = c.args.bytes.now in
    let here : at < length bytes = omega arith in
    let blank : is_blank (get_or bytes at 0) ≡ true = sym c.is_blank.ensures ∙ c.if-not-is_blank.false in
    list_all_more is_blank bytes at 0 here ∙ rw (c.loop-at.invariant, blank) refl

-- what is sliced off, and the rest
parts : (at : ℕ) (bytes : List ℕ) → bytes ≡ take at bytes ++ take (length bytes - at) (drop at bytes)
parts at bytes = sym (take-append-drop at bytes) ∙ ap (λ (l : List ℕ). take at bytes ++ l) (sym (take_all (length bytes - at) (drop at bytes) (omega (arith, length-drop at bytes))))

pub returns-then-not-is_blank : goal.returns-then-not-is_blank
returns-then-not-is_blank c = record { blanks = take c.loop-at.at c.args.bytes.now; blank = c.loop-at.invariant; is = parts c.loop-at.at c.args.bytes.now }

pub returns : goal.returns
returns c =
    let bytes = c.args.bytes.now in
    let all : c.loop-at.at ≡ length bytes = omega arith in
    record {
      blanks = take (length bytes) bytes;
      blank = subst (λ (n : ℕ). list_all is_blank (take n bytes) ≡ true) all c.loop-at.invariant;
      is = parts (length bytes) bytes;
    }
