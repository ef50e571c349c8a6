-- A record that was borrowed and left unchanged, or that refused a note.
use Rattle.std.proofs.Common.{◌≡◌, ℕ, Bool, false, Option, Some, None, nat_eq, refl, sym, ap, subst, ◌∙◌}
use Rattle.std.specs.Prelude.{IsSome, is_some}
use Rattle.std.proofs.lemmas.Bool.{true≢false}
use Rattle.std.specs.Map.{set_value}
use Rattle.std.proofs.lemmas.Map.Steps.{set_value_same}
use Rattle.scrib_record.specs.declared.fault.NoteFault.{NoteFault}
use Rattle.scrib_record.specs.declared.fault.NoteFault.TheVariants as fault
use Rattle.scrib_record.specs.Stale.{Recorded}
use Rattle.scrib_record.specs.Told as record_spec
use Rattle.scrib_core.specs.Held.{Records, record_at}
use Rattle.scrib_core.specs.ConversationSteps.{NoteFails}
use Rattle.scrib_core.specs.ReplyValues.{note_refusal}

-- the records after writing a record's own value
pub kept : (old new : Records) (id : ℕ) (r s : Recorded) → record_at old id ≡ Some r → new ≡ set_value (nat_eq id) old s → s ≡ r → new ≡ old
kept old new id r s there put same = put ∙ ap (set_value (nat_eq id) old) same ∙ set_value_same (nat_eq id) old r there

-- the reasons why the record refuses a note
pub fails_at : (rs : Records) (id : ℕ) (r : Recorded) (f : NoteFault) → record_at rs id ≡ Some r → record_spec.NoteFails r f → NoteFails rs id (note_refusal f)
fails_at rs id r fault.LogFull there x = (r, there, x)
fails_at rs id r fault.OutOfMemory there x = (r, there, x)

-- a record exists
pub some_there : (rs : Records) (id : ℕ) (r : Recorded) → record_at rs id ≡ Some r → IsSome (record_at rs id)
some_there rs id r e = subst IsSome (sym e) refl

-- no record exists
pub none_there : (rs : Records) (id : ℕ) (found : Bool) → found ≡ is_some (record_at rs id) → found ≡ false → record_at rs id ≡ None
none_there rs id found e f = by (record_at rs id) (sym e ∙ f)
  where
    by : (o : Option Recorded) → is_some o ≡ false → o ≡ None
    by None n = refl
    by (Some r) n = absurd (true≢false n)
