-- How many conversations have which verdict (this project's own).
use Rattle.std.specs.Prelude.{◌↔◌, ℕ, ◌+◌, Bool, true, false, IsTrue, List, [], ◌∷◌, ◌++◌, min}
use Rattle.scrib_types.specs.declared.event.Told.{Told}
use Rattle.scrib_types.specs.declared.event.Told.TheVariants as tell
use Rattle.scrib_types.specs.declared.event.Verdict.{Verdict}
use Rattle.scrib_types.specs.declared.event.Verdict.TheVariants.{Permitted, Offence, Withdrawn}
use Rattle.scrib_core.specs.Answers.{State, IsCompleteIn, IsReportedIn}
use Rattle.scrib_summary.specs.declared.verdict_counts.VerdictCounts.{VerdictCounts}

-- one more, up to the greatest count
abbrev pub one_more : ℕ → ℕ
one_more n = min (n + 1) 18446744073709551615

-- the counts of no conversation
abbrev pub no_counts : VerdictCounts
no_counts = record { permitted = 0; complete = 0; offences = 0; stale = 0; withdrawn = 0 }

-- the counts with one more conversation of this verdict
abbrev pub with_verdict : Verdict → VerdictCounts → VerdictCounts
with_verdict Permitted c = record c { permitted = one_more c.permitted }
with_verdict (Offence place role allowed) c = record c { offences = one_more c.offences }
with_verdict Withdrawn c = record c { withdrawn = one_more c.withdrawn }

-- the same, where the verdict may be stale
abbrev pub with_told : Told → VerdictCounts → VerdictCounts
with_told tell.Stale c = record c { stale = one_more c.stale }
with_told (tell.Judged v) c = with_verdict v c

-- the counts with one more conversation whose log is complete, or with none
abbrev pub with_complete : Bool → VerdictCounts → VerdictCounts
with_complete false c = c
with_complete true c = record c { complete = one_more c.complete }

-- In this state, each of these conversations was counted once: by the verdict that is reported, or as stale, and also
-- where its log is complete.
pub data CountsVerdicts (s : State) : List ℕ → (old new : VerdictCounts) → Type 0 where
  no_conversation : (c : VerdictCounts) → CountsVerdicts s [] c c
  one_further : (ids : List ℕ) (old new : VerdictCounts) (id : ℕ) (told : Told) (complete : Bool)
      → CountsVerdicts s ids old new → IsReportedIn s id told → (IsTrue complete ↔ IsCompleteIn s id)
      → CountsVerdicts s (ids ++ id ∷ []) old (with_complete complete (with_told told new))
