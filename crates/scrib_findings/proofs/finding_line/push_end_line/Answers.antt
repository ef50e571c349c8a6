use Rattle.std.proofs.Common.{◌≡◌, ℕ, List, ◌++◌, ◌∙◌, ap, append_assoc}
use Rattle.std.specs.Prelude.{codes}
use Rattle.std.specs.Fmt.{decimal}
use Rattle.std.proofs.lemmas.Result.{on_ok_weaker}
use Rattle.scrib_findings.specs.declared.finding.OffenceEnd.{OffenceEnd}
use Rattle.scrib_findings.specs.FindingLines.{clean_word, conversation_text, end_line}
use Rattle.scrib_findings.proofs.finding_line.push_end_line.Goals as goal

behind : (a b c y z : List ℕ) → b ≡ a ++ y → c ≡ b ++ z → c ≡ a ++ (y ++ z)
behind a b c y z first then = then ∙ ap (λ (t : List ℕ). t ++ z) first ∙ append_assoc a y z

line_made : (e : OffenceEnd) (old a b c d f g h : List ℕ) → a ≡ old ++ codes "no offence any more in "
    → b ≡ a ++ conversation_text e.conversation → c ≡ b ++ codes ", line " → d ≡ c ++ decimal e.found
    → f ≡ d ++ codes ": " → g ≡ f ++ clean_word e.verdict → h ≡ g ++ codes "\n" → h ≡ old ++ end_line e
unfolding end_line
line_made e old a b c d f g h first named line numbered colon word end =
    let words = codes "no offence any more in " in
    let id = conversation_text e.conversation in
    let to_id = behind old a b words id first named in
    let to_line = behind old b c (words ++ id) (codes ", line ") to_id line in
    let to_number = behind old c d (words ++ id ++ codes ", line ") (decimal e.found) to_line numbered in
    let to_colon = behind old d f (words ++ id ++ codes ", line " ++ decimal e.found) (codes ": ") to_number colon in
    let to_word = behind old f g (words ++ id ++ codes ", line " ++ decimal e.found ++ codes ": ") (clean_word e.verdict) to_colon word in
    behind old g h (words ++ id ++ codes ", line " ++ decimal e.found ++ codes ": " ++ clean_word e.verdict) (codes "\n") to_word end

pub returns : goal.returns
returns c =
    let word : c.push_bytes-4.new.out.items ≡ c.push_bytes-3.new.out.items ++ clean_word c.args.end.verdict =
    c.in_ok-push_bytes-4.ensures ∙ ap (λ (t : List ℕ). c.push_bytes-3.new.out.items ++ t) (c.as_bytes.ensures.value ∙ c.clean_word.ensures) in
    on_ok_weaker c.push_bytes-5.result
    (λ end. line_made c.args.end c.args.out.now.items c.push_bytes.new.out.items c.push_conversation.new.out.items c.push_bytes-2.new.out.items c.push_number.new.out.items c.push_bytes-3.new.out.items c.push_bytes-4.new.out.items c.push_bytes-5.new.out.items c.in_ok-push_bytes.ensures c.in_ok-push_conversation.ensures c.in_ok-push_bytes-2.ensures c.in_ok-push_number.ensures c.in_ok-push_bytes-3.ensures word end)
    c.push_bytes-5.ensures
