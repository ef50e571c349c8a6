use Rattle.std.proofs.Common.{◌≡◌, ℕ, List, ◌++◌}
use Rattle.std.specs.Prelude.{codes}
use Rattle.std.proofs.lemmas.Result.{on_ok_weaker}
use Rattle.scrib_show.specs.ChartLines.{note_head, last_text}
use Rattle.scrib_show.proofs.Appended.{behind}
use Rattle.scrib_show.proofs.notes.push_note_head.Goals as goal

head_made : (old a b c : List ℕ) (count : ℕ) → a ≡ old ++ codes "    Note over p1" → b ≡ a ++ last_text count → c ≡ b ++ codes ": " → c ≡ old ++ note_head count
unfolding note_head
head_made old a b c count first last end = behind old a c (codes "    Note over p1") (last_text count ++ codes ": ") first (behind a b c (last_text count) (codes ": ") last end)

pub returns : goal.returns
returns c =
    on_ok_weaker c.push_bytes-2.result
    (λ end. head_made c.args.out.now.items c.push_bytes.new.out.items c.push_last.new.out.items c.push_bytes-2.new.out.items c.args.count c.in_ok-push_bytes.ensures c.in_ok-push_last.ensures end)
    c.push_bytes-2.ensures
