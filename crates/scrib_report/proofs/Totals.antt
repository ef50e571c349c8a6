-- The last line of a table, appended piece by piece, as text and as JSON.
use Rattle.std.proofs.Common.{◌≡◌, ℕ, List, ◌++◌, append_assoc, codes}
use Rattle.std.specs.Fmt.{decimal}
use Rattle.scrib_report.specs.Table.{total_text}
use Rattle.scrib_report.specs.Json.{total_line}

joined : (o a b c d e x y z : List ℕ) → x ≡ o ++ a → y ≡ x ++ (b ++ c) → z ≡ y ++ (d ++ e) → z ≡ o ++ (a ++ b ++ c ++ d ++ e)
joined o a b c d e x y z p q r = rw (r, q, p) (simp append_assoc)

pub total_joined : (conversations events : ℕ) (o x y z : List ℕ)
    → x ≡ o ++ codes "total "
    → y ≡ x ++ (decimal conversations ++ codes " conversations, ")
    → z ≡ y ++ (decimal events ++ codes " events\n")
    → z ≡ o ++ total_text conversations events
unfolding total_text
total_joined conversations events o x y z p q r =
    joined o (codes "total ") (decimal conversations) (codes " conversations, ") (decimal events) (codes " events\n") x y z p q r

pub json_total_joined : (conversations events : ℕ) (o x y z : List ℕ)
    → x ≡ o ++ codes "{\"conversations\":"
    → y ≡ x ++ (decimal conversations ++ codes ",\"events\":")
    → z ≡ y ++ (decimal events ++ codes "}\n")
    → z ≡ o ++ total_line conversations events
unfolding total_line
json_total_joined conversations events o x y z p q r =
    joined o (codes "{\"conversations\":") (decimal conversations) (codes ",\"events\":") (decimal events) (codes "}\n") x y z p q r
