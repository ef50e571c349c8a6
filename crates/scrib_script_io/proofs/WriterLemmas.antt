-- What a writer holds after several writes, and what a reader has left.
use Rattle.std.proofs.Common.{◌≡◌, ◌≤◌, ◌+◌, ◌-◌, ℕ, List, [], ◌++◌, ◌∙◌, Option, Some, None, take, drop, length, rules, refl, sym, ap, arith}
use Rattle.std.proofs.lemmas.List.{append_assoc, take-append-drop, take_all, length-drop, length-take}
use Rattle.std.proofs.Math.Seq.{take-add}
use Rattle.std.specs.Io.KnownBytes.{Appends, Consumes, Keeps}
use Rattle.scrib_script_io.specs.Writes.{AppendsPart}

pub appends_none : (o : Option (List ℕ)) → Appends o o []
appends_none None = search rules
appends_none (Some xs) = search rules

pub appends_more : (a b c : Option (List ℕ)) (xs ys : List ℕ) → Appends a b xs → Appends b c ys → Appends a c (xs ++ ys)
appends_more None b c xs ys p q = search rules
appends_more (Some a) None c xs ys p q = absurd p
appends_more (Some a) (Some b) None xs ys p q = absurd q
appends_more (Some a) (Some b) (Some c) xs ys p q = q ∙ ap (λ (t : List ℕ). t ++ ys) p ∙ append_assoc a xs ys

-- a call that keeps what the writer holds
pub appends_kept : (a b c : Option (List ℕ)) (xs : List ℕ) → Appends a b xs → Keeps b c → Appends a c xs
appends_kept None b c xs p q = search rules
appends_kept (Some a) None c xs p q = absurd p
appends_kept (Some a) (Some b) None xs p q = absurd q
appends_kept (Some a) (Some b) (Some c) xs p q = q ∙ p

pub consumes_none : (o : Option (List ℕ)) → Consumes o o []
consumes_none None = search rules
consumes_none (Some xs) = search rules

pub consumes_more : (a b c : Option (List ℕ)) (xs ys : List ℕ) → Consumes a b xs → Consumes b c ys → Consumes a c (xs ++ ys)
consumes_more None b c xs ys p q = search rules
consumes_more (Some a) None c xs ys p q = absurd p
consumes_more (Some a) (Some b) None xs ys p q = absurd q
consumes_more (Some a) (Some b) (Some c) xs ys p q = p ∙ ap (λ (t : List ℕ). xs ++ t) q ∙ sym (append_assoc xs ys c)

-- a call that keeps what the reader has left
pub consumes_kept : (a b c : Option (List ℕ)) (xs : List ℕ) → Consumes a b xs → Keeps b c → Consumes a c xs
consumes_kept None b c xs p q = search rules
consumes_kept (Some a) None c xs p q = absurd p
consumes_kept (Some a) (Some b) None xs p q = absurd q
consumes_kept (Some a) (Some b) (Some c) xs p q = p ∙ ap (λ (t : List ℕ). xs ++ t) (sym q)

-- a write of the next bytes
pub wrote : (old mid new : Option (List ℕ)) (at n : ℕ) (bs : List ℕ) → Appends old mid (take at bs)
    → Appends mid new (take n (take (length bs - at) (drop at bs))) → Appends old new (take (at + n) bs)
wrote old mid new at n bs p q =
    let rest : take (length bs - at) (drop at bs) ≡ drop at bs = take_all (length bs - at) (drop at bs) (omega (arith, length-drop at bs)) in
    let more : Appends mid new (take n (drop at bs)) = rw rest at q in
    rw take-add (appends_more old mid new (take at bs) (take n (drop at bs)) p more)

-- a prefix of the bytes
pub part_at : (old new : Option (List ℕ)) (k : ℕ) (bs : List ℕ) → Appends old new (take k bs) → AppendsPart old new bs
part_at old new k bs p = (take k bs, drop k bs, sym (take-append-drop k bs), p)

-- all of the bytes
pub part_all : (old new : Option (List ℕ)) (k : ℕ) (bs : List ℕ) → length bs ≡ k → Appends old new (take k bs) → Appends old new bs
part_all old new k bs e p = rw (take_all k bs (omega (arith, e))) at p

-- nothing of the bytes
pub part_none : (o : Option (List ℕ)) (bs : List ℕ) → AppendsPart o o bs
part_none o bs = ([], bs, refl, appends_none o)

pub wrote_within : (at n : ℕ) (bs : List ℕ) → at ≤ length bs → n ≤ length (take (length bs - at) (drop at bs)) → at + n ≤ length bs
wrote_within at n bs h b = omega (arith, length-take (length bs - at) (drop at bs), length-drop at bs)
