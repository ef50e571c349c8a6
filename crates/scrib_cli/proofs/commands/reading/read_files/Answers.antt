use Rattle.std.proofs.Common.{◌∙◌, ◌∷◌, ◌++◌, ℕ, List, [], Option, Some, None, ap, append_assoc, sym, subst}
use Rattle.std.specs.Borrow.{Bor}
use Rattle.std.proofs.lemmas.List.{at_drop_all, drop_more, append-nil}
use Rattle.scrib_cli.specs.Commands.{AreRead, reads_none, reads_no_more, reads_next}
use Rattle.scrib_cli.proofs.commands.reading.read_files.Goals as goal

pub returns : goal.returns
returns g c =
    let text = g.F.Folder.text c.args.folder.now in
    let none = at_drop_all (λ l. l) c.args.paths.now c.loop-path.path-index c.loop-path-test.false in
    let all = c.loop-path.invariant [] (subst (λ (ps : List (Bor (List ℕ))). AreRead text ps []) (sym none) reads_none) in
    subst (λ (ts : List (Option (List ℕ))). AreRead text c.args.paths.now ts) (append-nil c.loop-path.texts.items) all

pub returns-in-Err : goal.returns-in-Err
returns-in-Err g c =
    let text = g.F.Folder.text c.args.folder.now in
    let here : Bor (List ℕ) = record { ref_ptr = (0, 0); now = [] } in
    let front = drop_more c.args.paths.now c.loop-path.path-index here c.loop-path-test.true in
    let stops = c.loop-path.invariant (None ∷ []) (subst (λ (ps : List (Bor (List ℕ))). AreRead text ps (None ∷ [])) (sym front) (reads_no_more _ _)) in
    subst (λ (ts : List (Option (List ℕ))). AreRead text c.args.paths.now ts) (sym c.in_ok-push-in-Err.ensures.items) stops

pub loop-path-preserved : goal.loop-path-preserved
loop-path-preserved g c = λ texts rest.
    let text = g.F.Folder.text c.args.folder.now in
    let here : Bor (List ℕ) = record { ref_ptr = (0, 0); now = [] } in
    let front = drop_more c.args.paths.now c.loop-path.path-index here c.loop-path-test.true in
    let more = c.loop-path.invariant (Some c.in-Ok.text ∷ texts) (subst (λ (ps : List (Bor (List ℕ))). AreRead text ps (Some c.in-Ok.text ∷ texts)) (sym front) (reads_next _ _ c.in-Ok.text texts c.in-Ok.ensures rest)) in
    let is = ap (λ (ts : List (Option (List ℕ))). ts ++ texts) c.in_ok-push-in-Ok.ensures.items ∙ append_assoc c.loop-path.texts.items (Some c.in-Ok.text ∷ []) texts in
    subst (λ (ts : List (Option (List ℕ))). AreRead text c.args.paths.now ts) (sym is) more
