-- A permitted verdict is a run (this project's own). Global types are those of Honda, Yoshida and Carbone, POPL 2008.
-- Their runs follow Deniélou and Yoshida, ICALP 2013.
use Rattle.std.specs.Prelude.{◌≡◌, ◌↔◌, ℕ, Option, Some}
use Rattle.scrib_types.specs.declared.event.Verdict.{Verdict}
use Rattle.scrib_types.specs.declared.event.Verdict.TheVariants.{Permitted}
use Rattle.scrib_types.specs.Agreement.{Agreement}
use Rattle.scrib_types.specs.Judgement.{Judges}
use Rattle.scrib_global.specs.Simulation.{IsJoinedRun}
use Rattle.scrib_library.specs.Modules.{IsMeaning}
use Rattle.scrib_core.specs.World.{World, Conversation, conversation}

-- A fresh verdict is `Permitted` exactly if three conditions hold. The protocol is in the library. Each acting role
-- joined first. The sends and receptions are a run of the protocol's global type over first-in-first-out queues.
abbrev pub IsPermittedRun : World → Conversation → Type 0
IsPermittedRun w c =
    (o : Option Agreement) (v : Verdict) → IsMeaning w.modules c.name o → Judges o c.log v
    → (v ≡ Permitted) ↔ ((a : Agreement) × (o ≡ Some a) × IsJoinedRun a c.log)

-- this holds for each conversation
unfoldable pub PermitsRuns : World → Type 0
PermitsRuns w = (id : ℕ) (c : Conversation) → conversation w id ≡ Some c → IsPermittedRun w c
