use Rattle.std.proofs.Common.{◌≡◌, ◌≤◌, ◌<◌, ◌+◌, ◌∙◌, ℕ, List, Vec, Global, length, slice_get, Option, Some, None, option_map, true≢false, sym, ap, subst, arith}
use Rattle.std.specs.Prelude.{IsSome}
use Rattle.std.specs.Borrow.{Bor}
use Rattle.std.specs.Map.Iter.{deref_pair}
use Rattle.std.specs.Option.{option_copied}
use Rattle.std.proofs.lemmas.List.Sorted.{IsNonDecreasingBy-from_sort}
use Rattle.scrib_record.specs.declared.version.Version.{Version}
use Rattle.scrib_record.specs.Versions.{meaning_of, number_of}
use Rattle.scrib_library.specs.Holdings.{Holdings, IsNumber}
use Rattle.scrib_library.specs.Modules.{IsMeaning}
use Rattle.scrib_core.specs.ConversationSteps.{IsPresent}
use Rattle.scrib_locked_steps.specs.Indexing.{IsIndex}
use Rattle.scrib_locked_steps.specs.Shards.{ShardHeld}
use Rattle.scrib_locked_steps.proofs.StaleListLemmas.{AreTouchedUnder, touched_none, touched_more, touched_all}
use Rattle.scrib_locked_steps.proofs.sweep.touched_locked.Goals as goal
use Rattle.scrib_locked_steps.proofs.sweep.touched_locked.Goals.{in-Some+in_ok-push_stale, in_default}

-- the library returns the present version
present_here : (h : Holdings) (name : List (List ℕ)) (o : Option (Bor Version)) → IsMeaning h.modules name (option_map (λ v. meaning_of v.now) o) → IsNumber h name (option_map (λ v. number_of v.now) o)
    → IsPresent h name (option_copied o)
present_here h name None m n = record { meaning = m; number = n }
present_here h name (Some v) m n = record { meaning = m; number = n }

pub loop-place-init : goal.loop-place-init
loop-place-init c =
    subst (AreTouchedUnder c.args.library.now c.args.shard.now.records c.shard.inside.directory.index.entries 0) (sym c.new-ids.ensures.items)
    (touched_none c.args.library.now c.args.shard.now.records c.shard.inside.directory.index.entries)

pub loop-place-preserved : goal.loop-place-preserved
loop-place-preserved c =
    let h = c.args.library.now in
    let rs = c.args.shard.now.records in
    let es = c.shard.inside.directory.index.entries in
    let index : IsIndex es rs = subst (λ (s : ShardHeld). IsIndex es s.records) c.shard.view_is c.shard.invariant.indexed in
    elim c.match-get_index.branch [
      | in-Some+in_ok-push_stale w ↦
          (let at : slice_get es c.loop-place.place ≡ Some (w.in-Some.key.now, w.in-Some.listed.now) = sym c.get_index.ensures.entry ∙ ap (option_map deref_pair) w.in-Some.is in
          let all = rw w.deref.ensures.value at w.in_ok-push_stale.ensures in
          subst (AreTouchedUnder h rs es (c.loop-place.place + 1)) (sym (ap (λ (v : Vec ℕ Global). v.items) w.ids-is ∙ all))
          (touched_more h rs es c.loop-place.place w.in-Some.key.now w.in-Some.listed.now (option_copied w.present.result) c.loop-place.ids.items
          c.len-place-end.ensures.unique index at (present_here h w.in-Some.key.now.name w.present.result w.present.ensures.meaning w.present.ensures.number) c.loop-place.invariant))
      | in_default w ↦
          (let within : c.loop-place.place < length es = omega (arith, c.loop-place-test.true, c.len-place-end.ensures.len) in
          absurd (true≢false (sym (subst IsSome w.in_default.is (c.get_index.ensures.found.1 within)))))
    ]

pub returns : goal.returns
returns c =
    let rs = c.args.shard.now.records in
    let es = c.shard.inside.directory.index.entries in
    let index : IsIndex es rs = subst (λ (s : ShardHeld). IsIndex es s.records) c.shard.view_is c.shard.invariant.indexed in
    let end : length es ≤ c.loop-place.place = omega (arith, c.len-place-end.ensures.len) in
    touched_all c.args.library.now rs es c.loop-place.place c.loop-place.ids.items c.sort_unstable.new.self.items index end c.loop-place.invariant
    c.sort_unstable.ensures.permutation (IsNonDecreasingBy-from_sort (λ x. x) c.sort_unstable.new.self.items c.sort_unstable.ensures.sorted)
