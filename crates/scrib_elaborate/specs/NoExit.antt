-- Blocks without an exit (this project's own). Only contracts of private functions cite this file.
use Rattle.std.specs.Prelude.{◌≡◌, ℕ, List, Some}
use Rattle.scrib_types.specs.declared.spot.Spot.{Spot}
use Rattle.scrib_tree.specs.declared.tree.ModuleTree.{ModuleTree}
use Rattle.scrib_static_checks.specs.Source.{Body, Then, Statement, Chooses, Repeats, Continues, Calls, Blocks, NoBlock, OrBlock}
use Rattle.scrib_static_checks.specs.SourceView.{body_of}
use Rattle.scrib_static_checks.specs.Names.{Declaration, called}

mutual
  -- No path through the block, in this module, leads to its end, because one of its statements has no exit.
  pub data Stays (modules : List ModuleTree) : ModuleTree → Body → Type 0 where
    stays_here : {home : ModuleTree} {s : Statement} {b : Body} → StatementStays modules home s
        → Stays modules home (Then s b)
    stays_later : {home : ModuleTree} {s : Statement} {b : Body} → Stays modules home b → Stays modules home (Then s b)

  -- no path leads through the statement
  pub data StatementStays (modules : List ModuleTree) : ModuleTree → Statement → Type 0 where
    chooses_stays : {home : ModuleTree} {p : List ℕ} {bs : Blocks} {s : Spot} → AllStay modules home bs
        → StatementStays modules home (Chooses p bs s)
    repeats_stays : {home : ModuleTree} {x : List ℕ} {c : Body} {s : Spot} → Stays modules home c
        → StatementStays modules home (Repeats x c s)
    continues_stays : {home : ModuleTree} {x : List ℕ} {s : Spot} → StatementStays modules home (Continues x s)
    calls_stays : {home : ModuleTree} {path roles : List (List ℕ)} {s : Spot} {c : Declaration}
        → called modules home path ≡ Some c → Stays modules c.home (body_of c.protocol.body)
        → StatementStays modules home (Calls path roles s)

  -- no path leads through any of the blocks
  pub data AllStay (modules : List ModuleTree) : ModuleTree → Blocks → Type 0 where
    none_stays : {home : ModuleTree} → AllStay modules home NoBlock
    all_stay : {home : ModuleTree} {b : Body} {s : Spot} {bs : Blocks} → Stays modules home b → AllStay modules home bs
        → AllStay modules home (OrBlock b s bs)
