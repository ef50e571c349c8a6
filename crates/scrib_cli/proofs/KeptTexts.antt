-- The kept part of a module text while it is read.
use Rattle.std.proofs.Common.{◌≡◌, ◌≤◌, ◌∙◌, ℕ, List, [], ◌++◌, Option, Some, None, take, length, Vec, Global, vec_len, rules, sym, ap, subst, arith}
use Rattle.std.specs.Prelude.{IfSome}
use Rattle.std.specs.Io.KnownBytes.{Consumes, Keeps, IsAtEnd}
use Rattle.std.proofs.lemmas.List.{append-nil, length-take}
use Rattle.scrib_script_reader.proofs.Bytes.{take_kept, take_of_none}
use Rattle.scrib_script_io.proofs.WriterLemmas.{consumes_none, consumes_more, consumes_kept}

-- these bytes were read, and this part of them is kept
abbrev pub HasRead : (was now : Option (List ℕ)) → List ℕ → Type 0
HasRead was now text = (seen : List ℕ) × Consumes was now seen × (text ≡ take 1048577 seen)

pub has_read_none : (r : Option (List ℕ)) → HasRead r r []
has_read_none r = ([], consumes_none r, sym (take_of_none 1048577))

pub has_read_kept : (r0 r r' : Option (List ℕ)) (text : List ℕ) → HasRead r0 r text → Keeps r r' → HasRead r0 r' text
has_read_kept r0 r r' text h keeps = (h.0, consumes_kept r0 r r' h.0 h.1 keeps, h.2)

pub has_read_few : (r0 r : Option (List ℕ)) (text : Vec ℕ Global) → HasRead r0 r text.items → vec_len text ≤ 1048577
has_read_few r0 r text h = omega (arith, text.ok.0, ap length h.2, length-take 1048577 h.0)

pub has_read_more : (r0 r r' : Option (List ℕ)) (text new piece : List ℕ) → HasRead r0 r text → Consumes r r' piece → new ≡ take 1048577 (text ++ piece) → HasRead r0 r' new
has_read_more r0 r r' text new piece h read e =
    (h.0 ++ piece, consumes_more r0 r r' h.0 piece h.1 read, e ∙ ap (λ (t : List ℕ). take 1048577 (t ++ piece)) h.2 ∙ take_kept 1048577 h.0 piece)

-- nothing is left
read_whole : (r0 r : Option (List ℕ)) (text : List ℕ) → HasRead r0 r text → IsAtEnd r → IfSome r0 (λ input. text ≡ take 1048577 input)
read_whole None r text h at_end = search rules
read_whole (Some input) None text h at_end = absurd h.1
read_whole (Some input) (Some rest) text h at_end =
    let whole : input ≡ h.0 = h.1 ∙ ap (λ (t : List ℕ). h.0 ++ t) at_end ∙ append-nil h.0 in
    h.2 ∙ ap (take 1048577) (sym whole)

pub has_read_all : (r0 r r' : Option (List ℕ)) (text piece : List ℕ) (n : ℕ) → HasRead r0 r text → Consumes r r' (take n piece) → n ≡ 0 → IsAtEnd r' → IfSome r0 (λ input. text ≡ take 1048577 input)
has_read_all r0 r r' text piece n h read none at_end =
    let nothing : Consumes r r' [] = subst (λ (i : ℕ). Consumes r r' (take i piece)) none read in
    read_whole r0 r' text (h.0, subst (λ (u : List ℕ). Consumes r0 r' u) (append-nil h.0) (consumes_more r0 r r' h.0 [] h.1 nothing), h.2) at_end
