-- What is known of the line of an entry.
use Rattle.std.proofs.Common.{◌≡◌, ◌≢◌, ◌∙◌, ◌+◌, ℕ, List, [], ◌∷◌, ◌++◌, Option, Some, None, take, length, refl, sym, ap, subst, inl, inr, arith}
use Rattle.std.specs.Prelude.{IfSome}
use Rattle.std.proofs.lemmas.List.{append_assoc, append-nil, append_cancel_right}
use Rattle.std.proofs.lemmas.List.Elements.{All-append, All-push, All-take}
use Rattle.scrib_core.specs.declared.format.Format.{Format}
use Rattle.scrib_core.specs.declared.step.Step.{Step}
use Rattle.scrib_core.specs.declared.step.Step.TheVariants.{Put}
use Rattle.scrib_script_reader.specs.declared.limits.Limits.{Limits}
use Rattle.scrib_script_reader.specs.declared.script.Script.{Script}
use Rattle.scrib_script_reader.specs.declared.line.Line.TheVariants as line
use Rattle.scrib_script_reader.specs.declared.item.Item.TheVariants as item
use Rattle.scrib_script_reader.specs.declared.entry.Entry.{Entry}
use Rattle.scrib_script_reader.specs.declared.entry.Entry.TheVariants as entry
use Rattle.scrib_script_reader.specs.Says.{Says}
use Rattle.scrib_script_reader.specs.Scripts.{NoLf, Text, lines, bare}
use Rattle.scrib_script_reader.specs.Entries.{SpellsEntries, entry_list}
use Rattle.scrib_script_reader.specs.Positions.{HasRead, TakesEntries, EndGives}
use Rattle.scrib_script_reader.proofs.Bytes.{lines_last, bare_last, length-bare, all_or_most, bare_cr, before_other, take_kept}
use Rattle.scrib_script_reader.proofs.ScriptLemmas.{more_entries, all_entries}
use Rattle.scrib_hold_lines.specs.Lines.{IsLineOf, IsPutText, GivesLine}
use Rattle.scrib_hold_lines.specs.Placement.{IsReaderEnded, IsSplit, IsReaderAt, IsLastLine}
use Rattle.scrib_hold_lines.proofs.TextLines.{put_of_lines}
use Rattle.scrib_hold_lines.proofs.FirstLines.{LineGives, put_entry, inverts, one_line, no_put}
use Rattle.scrib_hold_lines.proofs.Walks.{HasLines}
use Rattle.scrib_hold_lines.proofs.Placements.{kept_no_lf, split_line, entry_at_lf, behind_read, lines_push}

-- what is known of the bytes of an entry's line, without their end
abbrev pub Known : List ℕ → Entry → Type 0
Known bytes entry.Skipped = Unit {0}
Known bytes (entry.Item item.EndOfText) = Unit {0}
Known bytes (entry.Item (item.BadLine n)) = Says bytes line.Bad
Known bytes (entry.Item (item.Sweep f)) = Says bytes (line.Sweep f)
Known bytes (entry.Item (item.Step f (Put put))) = IsPutText put
Known bytes (entry.Item (item.Step f s)) = Says bytes (line.Step f s)

known_line : (bytes : List ℕ) (e : Entry) → LineGives bytes e → Known bytes e
known_line bytes entry.Skipped h = tt
known_line bytes (entry.Item item.EndOfText) h = tt
known_line bytes (entry.Item (item.BadLine n)) h = h
known_line bytes (entry.Item (item.Sweep f)) h = h
known_line bytes (entry.Item (item.Step f (Put put))) h = absurd (no_put bytes f put h)
known_line bytes (entry.Item (item.Step f s)) h = h

-- the entry is the first of two equal lists
heads : (x y : Entry) (xs ys : List Entry) → x ∷ xs ≡ y ∷ ys → x ≡ y
heads x y xs ys e = cc

known_at : (bytes : List ℕ) (e x : Entry) (rest more : List Entry) → e ∷ rest ≡ x ∷ more → Known bytes x → Known bytes e
known_at bytes e x rest more is h = subst (λ (y : Entry). Known bytes y) (sym (heads e x rest more is)) h

-- ---- a line with its LF

-- a line, behind which one more line gives an entry
first_known : (n : ℕ) (text : Option Text) (l : List ℕ) (e : Entry) (rest : List Entry) → HasLines text → length rest ≡ 1 → SpellsEntries n text (l ∷ (10 ∷ []) ∷ []) (e ∷ rest) → Known (bare l) e
first_known n None l e rest whole one h = elim (inverts h) [
  | inl k ↦ known_at (bare l) e k.0 rest k.1 k.2 (known_line (bare l) k.0 k.3)
  | inr k ↦ absurd (omega (arith, one, one_line (n + 1) _ (10 ∷ []) (e ∷ rest) k.2))
]
first_known n (Some t) l e rest whole one h = elim (inverts h) [
  | inl k ↦ absurd (omega (arith, one, one_line (n + 1) _ (10 ∷ []) (e ∷ rest) k.1))
  | inr k ↦ known_at (bare l) e (put_entry t) rest k.1.0 k.1.1 (put_of_lines t.bytes whole)
]

line_known : (m : Limits) (old new : Script) (seen : List ℕ) (entries : List Entry) (before : List (List ℕ)) (part k : List ℕ) (e : Entry) → HasRead m old seen entries → IsSplit seen before part → NoLf k
    → TakesEntries old new (k ++ 10 ∷ []) (e ∷ []) → Known (bare ((part ++ k) ++ 10 ∷ [])) e
line_known m old new seen entries before part k e r split no_lf takes =
    let read = more_entries m old new seen (k ++ 10 ∷ []) entries (e ∷ []) r takes in
    let further = entry_at_lf m new (seen ++ (k ++ 10 ∷ [])) (entries ++ e ∷ []) read in
    let lines_are : lines ((seen ++ (k ++ 10 ∷ [])) ++ 10 ∷ []) ≡ before ++ (((part ++ k) ++ 10 ∷ []) ∷ (10 ∷ []) ∷ []) =
    (split_line seen before part k split no_lf).at (10 ∷ []) ∙ lines_push before ((part ++ k) ++ 10 ∷ []) ((10 ∷ []) ∷ []) in
    let here : SpellsEntries 1 None (before ++ (((part ++ k) ++ 10 ∷ []) ∷ (10 ∷ []) ∷ [])) (entries ++ (e ∷ further.0)) =
    subst (λ (es : List Entry). SpellsEntries 1 None (before ++ (((part ++ k) ++ 10 ∷ []) ∷ (10 ∷ []) ∷ [])) es) (append_assoc entries (e ∷ []) further.0)
    (subst (λ (ls : List (List ℕ)). SpellsEntries 1 None ls ((entries ++ e ∷ []) ++ further.0)) lines_are further.1) in
    let b = behind_read m old seen entries before part r split (((part ++ k) ++ 10 ∷ []) ∷ (10 ∷ []) ∷ []) (e ∷ further.0) here in
    first_known b.at b.text ((part ++ k) ++ 10 ∷ []) e further.0 b.whole further.2 b.spells

-- ---- the last line

ends_text : (bytes : List ℕ) (e : Entry) → e ∷ [] ≡ entry.Item item.EndOfText ∷ [] → Known bytes e
ends_text bytes e is = known_at bytes e (entry.Item item.EndOfText) [] [] is tt

only_known : (n : ℕ) (text : Option Text) (l : List ℕ) (e : Entry) → HasLines text → SpellsEntries n text (l ∷ []) (e ∷ []) → Known (bare l) e
only_known n None l e whole h = elim (inverts h) [
  | inl k ↦ known_at (bare l) e k.0 [] k.1 k.2 (known_line (bare l) k.0 k.3)
  | inr k ↦ ends_text (bare l) e (inverts k.2)
]
only_known n (Some t) l e whole h = elim (inverts h) [
  | inl k ↦ ends_text (bare l) e (inverts k.1)
  | inr k ↦ known_at (bare l) e (put_entry t) [] k.1.0 k.1.1 (put_of_lines t.bytes whole)
]

none_known : (n : ℕ) (text : Option Text) (e : Entry) → SpellsEntries n text [] (e ∷ []) → Known [] e
none_known n None e h = let none : e ∷ [] ≡ [] = inverts h in absurd (omega (arith, ap length none))
none_known n (Some t) e h = ends_text [] e (inverts h)

left_known : (n : ℕ) (text : Option Text) (part : List ℕ) (e : Entry) → HasLines text → NoLf part → SpellsEntries n text (lines part) (e ∷ []) → Known part e
left_known n text [] e whole no_lf h = none_known n text e h
left_known n text (b ∷ bs) e whole no_lf h =
    subst (λ (t : List ℕ). Known t e) (bare_last (b ∷ bs) no_lf)
    (only_known n text (b ∷ bs) e whole (subst (λ (ls : List (List ℕ)). SpellsEntries n text ls (e ∷ [])) (lines_last b bs no_lf) h))

last_known : (m : Limits) (s : Script) (seen : List ℕ) (entries : List Entry) (before : List (List ℕ)) (part : List ℕ) (e : Entry) → HasRead m s seen entries → IsSplit seen before part
    → EndGives s (e ∷ []) → Known part e
last_known m s seen entries before part e r split gives =
    let all : SpellsEntries 1 None (lines seen) (entries ++ e ∷ []) = all_entries m s seen entries (e ∷ []) r gives in
    let lines_are : lines seen ≡ before ++ lines part = ap lines (sym (append-nil seen)) ∙ split.at [] ∙ ap (λ (t : List ℕ). before ++ lines t) (append-nil part) in
    let here : SpellsEntries 1 None (before ++ lines part) (entries ++ e ∷ []) = subst (λ (ls : List (List ℕ)). SpellsEntries 1 None ls (entries ++ e ∷ [])) lines_are all in
    let b = behind_read m s seen entries before part r split (lines part) (e ∷ []) here in
    left_known b.at b.text part e b.whole split.no_lf b.spells

-- ---- the kept part of a line

-- a line that is longer than what is kept is bad
kept_step : (x : List ℕ) (f : Format) (s : Step) → Says (bare (x ++ 10 ∷ [])) (line.Step f s) → Says (bare (take 131074 x ++ 10 ∷ [])) (line.Step f s)
kept_step x f s says = elim (all_or_most 131074 x) [
  | inl same ↦ subst (λ (t : List ℕ). Says (bare (t ++ 10 ∷ [])) (line.Step f s)) (sym same) says
  | inr long ↦ absurd (omega (arith, says.0, length-bare x, long.1))
]

kept_sweep : (x : List ℕ) (f : Format) → Says (bare (x ++ 10 ∷ [])) (line.Sweep f) → Says (bare (take 131074 x ++ 10 ∷ [])) (line.Sweep f)
kept_sweep x f says = elim (all_or_most 131074 x) [
  | inl same ↦ subst (λ (t : List ℕ). Says (bare (t ++ 10 ∷ [])) (line.Sweep f)) (sym same) says
  | inr long ↦ absurd (omega (arith, says.0, length-bare x, long.1))
]

kept_bad : (x : List ℕ) → Says (bare (x ++ 10 ∷ [])) line.Bad → Says (bare (take 131074 x ++ 10 ∷ [])) line.Bad
kept_bad x says = elim (all_or_most 131074 x) [
  | inl same ↦ subst (λ (t : List ℕ). Says (bare (t ++ 10 ∷ [])) line.Bad) (sym same) says
  | inr long ↦ inl (omega (arith, length-bare (take 131074 x), long.0))
]

line_of_step : (x : List ℕ) (f : Format) (s : Step) → NoLf x → Says (bare (x ++ 10 ∷ [])) (line.Step f s) → IsLineOf (take 131074 x ++ 10 ∷ []) (line.Step f s)
line_of_step x f s no_lf says = record { front = take 131074 x; is = refl; no_lf = All-take (λ b. b ≢ 10) 131074 x no_lf; says = kept_step x f s says }

line_of_sweep : (x : List ℕ) (f : Format) → NoLf x → Says (bare (x ++ 10 ∷ [])) (line.Sweep f) → IsLineOf (take 131074 x ++ 10 ∷ []) (line.Sweep f)
line_of_sweep x f no_lf says = record { front = take 131074 x; is = refl; no_lf = All-take (λ b. b ≢ 10) 131074 x no_lf; says = kept_sweep x f says }

line_of_bad : (x : List ℕ) → NoLf x → Says (bare (x ++ 10 ∷ [])) line.Bad → IsLineOf (take 131074 x ++ 10 ∷ []) line.Bad
line_of_bad x no_lf says = record { front = take 131074 x; is = refl; no_lf = All-take (λ b. b ≢ 10) 131074 x no_lf; says = kept_bad x says }

gives_kept : (x : List ℕ) (e : Entry) → NoLf x → Known (bare (x ++ 10 ∷ [])) e → GivesLine (take 131074 x ++ 10 ∷ []) e
gives_kept x entry.Skipped no_lf h = tt
gives_kept x (entry.Item item.EndOfText) no_lf h = tt
gives_kept x (entry.Item (item.BadLine n)) no_lf h = line_of_bad x no_lf h
gives_kept x (entry.Item (item.Sweep f)) no_lf h = line_of_sweep x f no_lf h
gives_kept x (entry.Item (item.Step f (Put put))) no_lf h = h
gives_kept x (entry.Item (item.Step f s)) no_lf h = line_of_step x f s no_lf h

-- the entry of a line with its LF
pub end_gives : (old new : Script) (kept bytes k now text : List ℕ) (o : Option Entry) → IsReaderAt old kept → IsReaderEnded bytes → TakesEntries old new bytes (entry_list o) → bytes ≡ k ++ 10 ∷ []
    → now ≡ take 131074 (kept ++ k) → text ≡ now ++ 10 ∷ [] → IfSome o (GivesLine text)
end_gives old new kept bytes k now text None a ended takes is kept_is text_is = tt
end_gives old new kept bytes k now text (Some e) a ended takes is kept_is text_is =
    let no_lf : NoLf k = subst NoLf (append_cancel_right ended.0 k (10 ∷ []) (sym ended.2 ∙ is)) ended.1 in
    let here : TakesEntries old new (k ++ 10 ∷ []) (e ∷ []) = subst (λ (b : List ℕ). TakesEntries old new b (e ∷ [])) is takes in
    let whole : NoLf (a.part ++ k) = All-append (λ b. b ≢ 10) a.part k a.split.no_lf no_lf in
    let known = line_known a.limits old new a.seen a.entries a.before a.part k e a.read a.split no_lf here in
    let now_is : now ≡ take 131074 (a.part ++ k) = kept_is ∙ ap (λ (t : List ℕ). take 131074 (t ++ k)) a.kept_is ∙ take_kept 131074 a.part k in
    subst (λ (t : List ℕ). GivesLine t e) (sym (text_is ∙ ap (λ (t : List ℕ). t ++ 10 ∷ []) now_is)) (gives_kept (a.part ++ k) e whole known)

-- ---- the kept part of the last line

last_step : (x : List ℕ) (f : Format) (s : Step) → Says x (line.Step f s) → Says (take 131074 x) (line.Step f s)
last_step x f s says = elim (all_or_most 131074 x) [
  | inl same ↦ subst (λ (t : List ℕ). Says t (line.Step f s)) (sym same) says
  | inr long ↦ absurd (omega (arith, says.0, long.1))
]

last_sweep : (x : List ℕ) (f : Format) → Says x (line.Sweep f) → Says (take 131074 x) (line.Sweep f)
last_sweep x f says = elim (all_or_most 131074 x) [
  | inl same ↦ subst (λ (t : List ℕ). Says t (line.Sweep f)) (sym same) says
  | inr long ↦ absurd (omega (arith, says.0, long.1))
]

last_bad : (x : List ℕ) → Says x line.Bad → Says (take 131074 x) line.Bad
last_bad x says = elim (all_or_most 131074 x) [
  | inl same ↦ subst (λ (t : List ℕ). Says t line.Bad) (sym same) says
  | inr long ↦ inl (omega (arith, long.0))
]

gives_last : (x text : List ℕ) (e : Entry) → IsLastLine (take 131074 x) text → Known x e → GivesLine text e
gives_last x text entry.Skipped l h = tt
gives_last x text (entry.Item item.EndOfText) l h = tt
gives_last x text (entry.Item (item.BadLine n)) l h = record { front = l.0.0; is = l.0.2; no_lf = l.0.1; says = subst (λ (t : List ℕ). Says t line.Bad) (sym l.1) (last_bad x h) }
gives_last x text (entry.Item (item.Sweep f)) l h = record { front = l.0.0; is = l.0.2; no_lf = l.0.1; says = subst (λ (t : List ℕ). Says t (line.Sweep f)) (sym l.1) (last_sweep x f h) }
gives_last x text (entry.Item (item.Step f (Put put))) l h = h
gives_last x text (entry.Item (item.Step f s)) l h = record { front = l.0.0; is = l.0.2; no_lf = l.0.1; says = subst (λ (t : List ℕ). Says t (line.Step f s)) (sym l.1) (last_step x f s h) }

pub last_gives : (s : Script) (kept text : List ℕ) (o : Option Entry) → IsReaderAt s kept → EndGives s (entry_list o) → IsLastLine kept text → IfSome o (GivesLine text)
last_gives s kept text None a gives l = tt
last_gives s kept text (Some e) a gives l =
    gives_last a.part text e (subst (λ (t : List ℕ). IsLastLine t text) a.kept_is l) (last_known a.limits s a.seen a.entries a.before a.part e a.read a.split gives)

-- ---- the end of a last line

lf_ended : (k : List ℕ) → NoLf k → IsReaderEnded (k ++ 10 ∷ [])
lf_ended k no_lf = (k, no_lf, refl)

pub end_of_none : (last end : List ℕ) → NoLf last → last ≡ [] → end ≡ 10 ∷ [] → IsLastLine last (last ++ end)
end_of_none last end no_lf none is =
    subst (λ (t : List ℕ). IsLastLine last (last ++ t)) (sym is)
    (lf_ended last no_lf, subst (λ (t : List ℕ). bare (t ++ 10 ∷ []) ≡ t) (sym none) refl)

pub end_of_cr : (last end : List ℕ) → NoLf last → end ≡ 13 ∷ 10 ∷ [] → IsLastLine last (last ++ end)
end_of_cr last end no_lf is =
    let longer : NoLf (last ++ 13 ∷ []) = All-push (λ b. b ≢ 10) last 13 no_lf (λ e. absurd (omega (arith, e))) in
    subst (λ (t : List ℕ). IsLastLine last (last ++ t)) (sym is)
    ((last ++ 13 ∷ [], longer, sym (append_assoc last (13 ∷ []) (10 ∷ []))), bare_cr last)

pub end_of_other : (last front : List ℕ) (b : ℕ) (end : List ℕ) → NoLf last → last ≡ front ++ b ∷ [] → (b ≡ 13 → ⊥) → end ≡ 10 ∷ [] → IsLastLine last (last ++ end)
end_of_other last front b end no_lf last_is other is =
    subst (λ (t : List ℕ). IsLastLine last (last ++ t)) (sym is) (lf_ended last no_lf, sym (before_other last front b last_is other))

pub last_text : (slice kept end text : List ℕ) → slice ≡ kept → text ≡ kept ++ end → IsLastLine slice (slice ++ end) → IsLastLine kept text
last_text slice kept end text same is l =
    subst (λ (t : List ℕ). IsLastLine kept t) (sym is) (subst (λ (s : List ℕ). IsLastLine s (s ++ end)) same l)

-- the kept line of an entry is one line
pub end_ended : (s : Script) (kept bytes k now text : List ℕ) → IsReaderAt s kept → IsReaderEnded bytes → bytes ≡ k ++ 10 ∷ [] → now ≡ take 131074 (kept ++ k) → text ≡ now ++ 10 ∷ [] → IsReaderEnded text
end_ended s kept bytes k now text a ended is kept_is text_is =
    let no_lf : NoLf k = subst NoLf (append_cancel_right ended.0 k (10 ∷ []) (sym ended.2 ∙ is)) ended.1 in
    let whole : NoLf (kept ++ k) = All-append (λ b. b ≢ 10) kept k (kept_no_lf s kept a) no_lf in
    (now, subst NoLf (sym kept_is) (All-take (λ b. b ≢ 10) 131074 (kept ++ k) whole), text_is)
