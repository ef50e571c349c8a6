-- The names of all kinds, group by group: their lines, and whether a name is among them.
use Rattle.std.proofs.Common.{◌≡◌, ◌∙◌, ap, ℕ, Bool, true, false, ◌||◌, List, [], ◌∷◌, ◌++◌, Option, Some, None, IfSome, codes, refl, append_assoc, arith}
use Rattle.std.specs.Option.{is_some, option_or}
use Rattle.std.specs.Str.{bytes_eq}
use Rattle.std.proofs.lemmas.List.Folds.{list_any-append}
use Rattle.scrib_why.specs.Names.{has_name, kind_names, text_names, protocol_names, choice_names, library_names, step_names, reason_names}
use Rattle.scrib_why.specs.Texts.{lines_of}

lines_append : (xs ys : List (List ℕ)) → lines_of (xs ++ ys) ≡ lines_of xs ++ lines_of ys
lines_append [] ys = refl
lines_append (x ∷ xs) ys = grind (arith, lines_append xs ys, append_assoc)

lines_then : (xs ys : List (List ℕ)) (lines : List ℕ) → lines_of xs ≡ lines → lines_of (xs ++ ys) ≡ lines ++ lines_of ys
lines_then xs ys lines e = lines_append xs ys ∙ ap (λ them. them ++ lines_of ys) e

pub lines_of_kinds : lines_of kind_names
    ≡ lines_of text_names ++ lines_of protocol_names ++ lines_of choice_names ++ lines_of library_names ++ lines_of step_names ++ lines_of reason_names
lines_of_kinds =
    lines_then _ reason_names _ (lines_then _ step_names _ (lines_then _ library_names _ (lines_then _ choice_names _ (lines_append text_names protocol_names))))

chain : (out t p c l s r : List ℕ) → out ++ (t ++ p ++ c ++ l ++ s ++ r) ≡ out ++ t ++ p ++ c ++ l ++ s ++ r
chain out t p c l s r = simp append_assoc refl

-- the lines of each group, one after another, are those of all names
pub all_lines : (out a b c d e : List ℕ) (t p ch l s r : List (List ℕ))
    → t ≡ text_names → p ≡ protocol_names → ch ≡ choice_names → l ≡ library_names → s ≡ step_names → r ≡ reason_names
    → a ≡ out ++ lines_of t → b ≡ a ++ lines_of p → c ≡ b ++ lines_of ch → d ≡ c ++ lines_of l → e ≡ d ++ lines_of s
    → out ++ lines_of kind_names ≡ e ++ lines_of r
all_lines out a b c d e t p ch l s r ht hp hch hl hs hr ha hb hc hd he =
    rw (he, hd, hc, hb, ha, ht, hp, hch, hl, hs, hr) (ap (λ them. out ++ them) lines_of_kinds ∙ chain out _ _ _ _ _ _)

has_then : (xs ys : List (List ℕ)) (name : List ℕ) (had : Bool) → has_name xs name ≡ had → has_name (xs ++ ys) name ≡ (had || has_name ys name)
has_then xs ys name had e = list_any-append (λ (n : List ℕ). bytes_eq n name) xs ys ∙ ap (λ them. them || has_name ys name) e

pub has_name_of_kinds : (name : List ℕ) → has_name kind_names name
    ≡ (has_name text_names name || has_name protocol_names name || has_name choice_names name || has_name library_names name || has_name step_names name || has_name reason_names name)
has_name_of_kinds name =
    has_then _ reason_names name _ (has_then _ step_names name _ (has_then _ library_names name _ (has_then _ choice_names name _ (has_then text_names protocol_names name _ refl))))

pub is_some-option_or : {T : Type 0} (a b : Option T) → is_some (option_or a b) ≡ (is_some a || is_some b)
is_some-option_or None b = refl
is_some-option_or (Some x) b = refl

pub ruleset choices = (is_some-option_or, has_name_of_kinds)
