-- Which blocks have no exit.
use Rattle.std.proofs.Common.{◌≡◌, ◌⊎◌, ℕ, ◌+◌, ◌<◌, Bool, true, false, List, length, get_or, drop, Some, refl, sym, ◌∙◌, subst, ⊎_elim, inl, inr}
use Rattle.std.proofs.lemmas.Bool.{false≢true, or_parts}
use Rattle.scrib_types.specs.declared.message.Message.{Message}
use Rattle.scrib_types.specs.declared.spot.Spot.{Spot}
use Rattle.scrib_tree.specs.declared.tree.ModuleTree.{ModuleTree}
use Rattle.scrib_tree.specs.declared.tree.Statement.{Statement as ParsedStatement}
use Rattle.scrib_tree.specs.declared.tree.Block.{Block}
use Rattle.scrib_static_checks.specs.Source.{Body, Done, Then, Statement, Sends, Chooses, Repeats, Calls, Blocks, OrBlock}
use Rattle.scrib_static_checks.specs.SourceView.{statement_of, body_of, blocks_of}
use Rattle.scrib_static_checks.specs.Names.{Declaration, called}
use Rattle.scrib_static_checks.specs.Statements.{KeepsRules, protocol_keeps, BlockKeeps, end_keeps, then_keeps, StatementKeeps, sends_keeps, chooses_keeps, repeats_keeps, continues_keeps, calls_keeps, BlocksKeep, none_keeps, or_keeps}
use Rattle.scrib_elaborate.specs.NoExit.{Stays, stays_here, stays_later, StatementStays, chooses_stays, repeats_stays, continues_stays, calls_stays, AllStay, none_stays, all_stay}
use Rattle.scrib_static_checks.proofs.Checks.{body_more, blocks_more}

-- what follows the rules and has no exit

true_or_false : (b : Bool) → (b ≡ true) ⊎ (b ≡ false)
true_or_false true = inl refl
true_or_false false = inr refl

mutual
  pub protocol_stays : {ms : List ModuleTree} {d : Declaration} {e : Bool} → KeepsRules ms d e → e ≡ false → Stays ms d.home (body_of d.protocol.body)
  protocol_stays (protocol_keeps n b) h = block_stays b refl h

  block_stays : {ms : List ModuleTree} {d : Declaration} {recs : List (List ℕ)} {e f : Bool} {b : Body} → BlockKeeps ms d recs e b f → e ≡ true → f ≡ false → Stays ms d.home b
  block_stays end_keeps h none = absurd (false≢true (sym none ∙ h))
  block_stays (then_keeps {e = e} s r) h none =
      ⊎_elim (λ t. stays_later (block_stays r t none)) (λ f. stays_here (step_stays s f)) (true_or_false e)

  step_stays : {ms : List ModuleTree} {d : Declaration} {recs : List (List ℕ)} {s : Statement} {e : Bool} → StatementKeeps ms d recs s e → e ≡ false → StatementStays ms d.home s
  step_stays (sends_keeps r o) none = absurd (false≢true (sym none))
  step_stays (chooses_keeps p bs) none = chooses_stays (blocks_stay bs none)
  step_stays (repeats_keeps b) none = repeats_stays (block_stays b refl none)
  step_stays (continues_keeps x) none = continues_stays
  step_stays (calls_keeps i k) none = calls_stays i.there (protocol_stays k none)

  blocks_stay : {ms : List ModuleTree} {d : Declaration} {recs : List (List ℕ)} {bs : Blocks} {e : Bool} → BlocksKeep ms d recs bs e → e ≡ false → AllStay ms d.home bs
  blocks_stay none_keeps none = none_stays
  blocks_stay (or_keeps {e = e} {f = f} b bs i) none =
      let parts = or_parts e f (sym i ∙ none) in
      all_stay (block_stays b refl parts.0) (blocks_stay bs parts.1)

-- the parts of what has no exit

pub of_then : {ms : List ModuleTree} {home : ModuleTree} {s : Statement} {b : Body} → Stays ms home (Then s b) → StatementStays ms home s ⊎ Stays ms home b
of_then (stays_here s) = inl s
of_then (stays_later b) = inr b

pub of_done : {ms : List ModuleTree} {home : ModuleTree} → Stays ms home Done → ⊥
of_done h = elim h [ ]

pub of_sends : {ms : List ModuleTree} {home : ModuleTree} {m : Message} {p : List ℕ} {qs : List (List ℕ)} {s : Spot} → StatementStays ms home (Sends m p qs s) → ⊥
of_sends h = elim h [ ]

pub of_chooses : {ms : List ModuleTree} {home : ModuleTree} {p : List ℕ} {bs : Blocks} {s : Spot} → StatementStays ms home (Chooses p bs s) → AllStay ms home bs
of_chooses (chooses_stays bs) = bs

pub of_repeats : {ms : List ModuleTree} {home : ModuleTree} {x : List ℕ} {c : Body} {s : Spot} → StatementStays ms home (Repeats x c s) → Stays ms home c
of_repeats (repeats_stays c) = c

pub of_calls : {ms : List ModuleTree} {home : ModuleTree} {path roles : List (List ℕ)} {s : Spot} (c : Declaration) → called ms home path ≡ Some c → StatementStays ms home (Calls path roles s) → Stays ms c.home (body_of c.protocol.body)
of_calls {ms = ms} c e (calls_stays {c = d} f b) =
    let same : d ≡ c = cc (e, f) in
    subst (λ x. Stays ms x.home (body_of x.protocol.body)) same b

pub of_or : {ms : List ModuleTree} {home : ModuleTree} {b : Body} {s : Spot} {bs : Blocks} → AllStay ms home (OrBlock b s bs) → Stays ms home b × AllStay ms home bs
of_or (all_stay b bs) = (b, bs)

-- the statements of a block, and the blocks of a choice, one by one

pub stays_at : (ms : List ModuleTree) (home : ModuleTree) (ss : List ParsedStatement) (i : ℕ) (s : ParsedStatement) → i < length ss → s ≡ get_or ss i s → StatementStays ms home (statement_of s) → Stays ms home (body_of (drop i ss))
stays_at ms home ss i s h e k = subst (Stays ms home) (sym (body_more ss i s h e)) (stays_here k)

pub stays_more : (ms : List ModuleTree) (home : ModuleTree) (ss : List ParsedStatement) (i : ℕ) (s : ParsedStatement) → i < length ss → s ≡ get_or ss i s → Stays ms home (body_of (drop (i + 1) ss)) → Stays ms home (body_of (drop i ss))
stays_more ms home ss i s h e k = subst (Stays ms home) (sym (body_more ss i s h e)) (stays_later k)

pub all_more : (ms : List ModuleTree) (home : ModuleTree) (bs : List Block) (i : ℕ) (b : Block) → i < length bs → b ≡ get_or bs i b → Stays ms home (body_of b.body) → AllStay ms home (blocks_of (drop (i + 1) bs)) → AllStay ms home (blocks_of (drop i bs))
all_more ms home bs i b h e k ks = subst (AllStay ms home) (sym (blocks_more bs i b h e)) (all_stay k ks)
