-- The list of the conversations that may be stale (this project's own). Only contracts of private functions cite this
-- file.
use Rattle.std.specs.Prelude.{◌≡◌, ◌<◌, ℕ, IsTrue, List, drop, get_or, nat_eq}
use Rattle.std.specs.Set.{is_member}
use Rattle.scrib_core.specs.Marks.{IsStale}
use Rattle.scrib_core.specs.Answers.{State}
use Rattle.scrib_sweeping.specs.declared.stale_list.StaleList.{StaleList}

-- the conversations that are left
abbrev pub left_in : StaleList → List ℕ
left_in l = drop l.done l.ids.items

-- the rest of a list, without some first ids that are below this one
pub record IsRestFrom (id : ℕ) (old new : List ℕ) : Type 0 where
  pub count : ℕ
  pub is : new ≡ drop count old
  pub below : (k : ℕ) → k < count → get_or old k 0 < id

-- each stale conversation is among these
abbrev pub AreAmong : State → List ℕ → Type 0
AreAmong s ids = (id : ℕ) → IsStale (s.marks id) → IsTrue (is_member nat_eq ids id)
