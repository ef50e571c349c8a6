-- A writer after two texts, of which it may hold a beginning alone.
use Rattle.std.proofs.Common.{◌≡◌, ◌∙◌, ℕ, ◌+◌, ◌<◌, List, [], ◌∷◌, ◌++◌, map, drop, length, get_or, Option, Result, Ok, Err, Vec, Global, ap, sym}
use Rattle.std.specs.Prelude.{OnOk, OnErr}
use Rattle.std.proofs.lemmas.List.{append_assoc, append-nil, drop_more}
use Rattle.std.specs.Io.KnownBytes.{Appends}
use Rattle.scrib_script_io.specs.Writes.{AppendsPart}
use Rattle.scrib_script_io.proofs.WriterLemmas.{appends_more}

-- it holds a beginning of the first
pub part_before : (a b : Option (List ℕ)) (xs ys : List ℕ) → AppendsPart a b xs → AppendsPart a b (xs ++ ys)
part_before a b xs ys p = (p.0, p.1 ++ ys, ap (λ (t : List ℕ). t ++ ys) p.2 ∙ append_assoc p.0 p.1 ys, p.3)

-- it holds the first, and a beginning of the second
pub part_after : (a b c : Option (List ℕ)) (xs ys : List ℕ) → Appends a b xs → AppendsPart b c ys → AppendsPart a c (xs ++ ys)
part_after a b c xs ys p q = (xs ++ q.0, q.1, ap (λ (t : List ℕ). xs ++ t) q.2 ∙ sym (append_assoc xs q.0 q.1), appends_more a b c xs q.0 p q.3)

-- it holds the first, and where the second call failed a beginning of the second
pub failed_after : {T E : Type 0} (r : Result T E) (a b c : Option (List ℕ)) (xs ys : List ℕ) → Appends a b xs → OnErr r (AppendsPart b c ys) → OnErr r (AppendsPart a c (xs ++ ys))
failed_after (Ok x) a b c xs ys p q = tt
failed_after (Err e) a b c xs ys p q = part_after a b c xs ys p q

-- the lines of the connection at this index, and of those after it
pub texts_at : (texts : List (Vec ℕ Global)) (k : ℕ) (v : Vec ℕ Global) → k < length texts → v ≡ get_or texts k v → map (λ (w : Vec ℕ Global). w.items) (drop k texts) ≡ v.items ∷ map (λ (w : Vec ℕ Global). w.items) (drop (k + 1) texts)
texts_at texts k v within read =
    ap (map (λ (w : Vec ℕ Global). w.items)) (drop_more texts k v within) ∙ ap (λ (w : Vec ℕ Global). w.items ∷ map (λ (w : Vec ℕ Global). w.items) (drop (k + 1) texts)) (sym read)

-- whether the call failed or not, it holds a beginning of the text
pub part_known : {T E : Type 0} (r : Result T E) (a b : Option (List ℕ)) (xs : List ℕ) → OnOk r (Appends a b xs) → OnErr r (AppendsPart a b xs) → AppendsPart a b xs
part_known (Ok x) a b xs all part = (xs, [], sym (append-nil xs), all)
part_known (Err e) a b xs all part = part
