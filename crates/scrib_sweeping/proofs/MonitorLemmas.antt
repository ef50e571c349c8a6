-- The list of a monitor that sweeps, and what its sweeps come to.
use Rattle.std.proofs.Common.{◌≡◌, ℕ, Bool, true, false, List, [], Option, Some, None, slice_get, refl, sym, ap, subst, ◌∙◌}
use Rattle.std.specs.Prelude.{IfNone, IfSome, OnOk, Result, Ok, Err}
use Rattle.std.specs.Result.{is_err}
use Rattle.std.proofs.lemmas.Bool.{false≢true}
use Rattle.std.specs.Option.{ForSome}
use Rattle.scrib_core.specs.Marks.{IsStale}
use Rattle.scrib_core.specs.Answers.{State}
use Rattle.scrib_script_reader.specs.declared.item.Item.{Item}
use Rattle.scrib_sweep.specs.declared.sweep.Progress.{Progress}
use Rattle.scrib_sweep.specs.Sweeps.{Covers, IsAllFresh, IsSwept, IsSweptSome}
use Rattle.scrib_sweep.proofs.TurnEffects.{not_both}
use Rattle.scrib_labelled.specs.declared.labelled_monitor.LabelledMonitor.{LabelledMonitor}
use Rattle.scrib_labelled.specs.declared.named_monitor.NamedMonitor.{NamedMonitor}
use Rattle.scrib_labelled.specs.Behind.{CarriesOut}
use Rattle.scrib_labelled.specs.CheckedCores.{state_of}
use Rattle.scrib_labelled.specs.LabelledLines.{LineLabel}
use Rattle.scrib_labelled.specs.LabelledRuns.{put_back}
use Rattle.scrib_sweeping.specs.declared.stale_list.StaleList.{StaleList}
use Rattle.scrib_sweeping.specs.declared.sweep_counts.SweepCounts.{SweepCounts}
use Rattle.scrib_sweeping.specs.declared.sweeping_monitor.SweepingMonitor.{SweepingMonitor}
use Rattle.scrib_sweeping.specs.Edits.{is_edit}
use Rattle.scrib_sweeping.specs.StaleLists.{AreAmong, IsRestFrom, left_in}
use Rattle.scrib_sweeping.specs.SweepingMonitors.{IsSameBut, Sweeps, SweepsRest, state_in}
use Rattle.scrib_sweeping.specs.SweptRuns.{IsSweptBefore, with_sweep}
use Rattle.scrib_sweeping.specs.SweptScripts.{capped}
use Rattle.scrib_sweeping.proofs.CountLemmas.{capped_more, capped_none}
use Rattle.scrib_sweeping.proofs.ListLemmas.{all_fresh, among_kept, none_left, none_rise, rest_covers, swept_nothing, swept_rest_nothing, swept_some, swept_unlisted}
use Rattle.scrib_sweeping.proofs.StaleLemmas.{MakesNoneStale, item_none, sweep_none}

-- ---- the list

one_list : (a b : StaleList) → Some a ≡ Some b → a ≡ b
one_list a b e = cc

no_list : (l : StaleList) → None ≡ Some l → ⊥
no_list l e = absurd (cc)

-- a fact about the list that there is
pub of_list : (P : List ℕ → Type 0) (l : StaleList) → P (left_in l) → ForSome (Some l) (λ (x : StaleList). P (left_in x))
of_list P l p x e = subst (λ (y : StaleList). P (left_in y)) (one_list l x e) p

-- there is no list
pub of_none : (P : StaleList → Type 0) → ForSome None P
of_none P x e = absurd (no_list x e)

-- the list is kept as long as no conversation becomes stale
pub list_kept : (o : Option StaleList) (w u : State) → MakesNoneStale w u → ForSome o (λ (l : StaleList). AreAmong w (left_in l)) → ForSome o (λ (l : StaleList). AreAmong u (left_in l))
list_kept o w u none among l e = among_kept w u (left_in l) none (among l e)

-- where none is left, nothing is stale
pub done_fresh : (s : State) (l : StaleList) → AreAmong s (left_in l) → left_in l ≡ [] → IsAllFresh s
done_fresh s l among none = all_fresh s (subst (AreAmong s) none among)

-- an item that is no edit makes no conversation stale
pub carried_none : (old new : NamedMonitor) (label : LineLabel) (i : Item) → is_edit i ≡ false → CarriesOut old new label i → MakesNoneStale (state_of old.monitor.core) (state_of new.monitor.core)
carried_none old new label i other c =
    item_none old.monitor.style (put_back old.monitor.style label) (state_of old.monitor.core) (state_of new.monitor.core) i c.replies c.more other c.takes

-- the item was carried out, where that did not fail
pub when_carried : {T E : Type 0} (old new : NamedMonitor) (label : LineLabel) (i : Item) (r : Result T E) (failed : Bool) → failed ≡ is_err r → failed ≡ false → OnOk r (CarriesOut old new label i) → CarriesOut old new label i
when_carried old new label i (Ok x) failed value ok carried = carried
when_carried old new label i (Err e) failed value ok carried = absurd (false≢true (sym ok ∙ value))

-- what is left of the list has each conversation that is still stale
pub left_covers : (s t : State) (listed : List ℕ) (p : Progress) (first : Option ℕ) (rest : List ℕ) → Covers s listed → IsSweptSome s listed p t → first ≡ slice_get p.left.now 0 → IfNone first (rest ≡ [])
    → IfSome first (λ id. IsRestFrom id listed rest) → Covers t rest
left_covers s t listed p None rest covers h is none some =
    subst (Covers t) (sym none) (record { rise = none_rise; each = λ id stale. absurd (nothing_stale id stale) })
  where
    fresh : IsAllFresh t
    fresh = none_left t p.left.now h.left (sym is)

    nothing_stale : (id : ℕ) → IsStale (t.marks id) → ⊥
    nothing_stale id stale = not_both (t.marks id) (fresh id) stale
left_covers s t listed p (Some id) rest covers h is none some = rest_covers s t listed p.left.now id covers (sweep_none s t h.turns h.sweep) h.left (sym is) rest some

-- the sweep of a list, in the words of the monitor before it
pub swept_as : (n m : NamedMonitor) (listed left : List ℕ) (p : Progress) (t : State) → m ≡ n → left ≡ listed → IsSweptSome (state_of m.monitor.core) left p t → IsSweptSome (state_of n.monitor.core) listed p t
swept_as n m listed left p t is same h =
    subst (λ (x : NamedMonitor). IsSweptSome (state_of x.monitor.core) listed p t) is (subst (λ (x : List ℕ). IsSweptSome (state_of m.monitor.core) x p t) same h)

pub same_but : (n m : NamedMonitor) (swept : LabelledMonitor) → m ≡ n → swept ≡ record m.monitor { core = swept.core } → IsSameBut n (record { names = m.names; monitor = swept })
same_but n m swept is same =
    ap (λ (x : LabelledMonitor). record { names = m.names; monitor = x }) same ∙ ap (λ (y : NamedMonitor). record y { monitor = record y.monitor { core = swept.core } }) is

-- ---- sweeps

-- the counts of a sweep
pub counted : (old new : SweepCounts) (judged : ℕ) (refused : Bool) → new ≡ capped (with_sweep old judged refused) → (sums : SweepCounts) → old ≡ capped sums → new ≡ capped (with_sweep sums judged refused)
counted old new judged refused is sums from = is ∙ ap (λ (c : SweepCounts). capped (with_sweep c judged refused)) from ∙ capped_more sums judged refused

-- nothing is stale
pub sweeps_nothing : (s : SweepingMonitor) → IsAllFresh (state_in s) → Sweeps s s
sweeps_nothing s fresh = record { judged = 0; refused = false; swept = swept_nothing (state_in s) fresh; counts = λ sums is. is ∙ capped_none sums; same = refl }

-- there is no memory for the list
pub sweeps_unlisted : (old new : SweepingMonitor) → new.named ≡ old.named → new.counts ≡ capped (with_sweep old.counts 0 true) → Sweeps old new
sweeps_unlisted old new named is = record {
  judged = 0;
  refused = true;
  swept = subst (λ (n : NamedMonitor). IsSweptBefore (state_in old) 0 true (state_of n.monitor.core)) (sym named) (swept_unlisted (state_in old));
  counts = counted old.counts new.counts 0 true is;
  same = subst (λ (n : NamedMonitor). IsSameBut old.named n) (sym named) refl;
}

-- the turns of the listed conversations
pub sweeps_listed : (old new : SweepingMonitor) (listed : List ℕ) (p : Progress) → IsSweptSome (state_in old) listed p (state_in new) → new.counts ≡ capped (with_sweep old.counts p.judged p.refused) → IsSameBut old.named new.named → Sweeps old new
sweeps_listed old new listed p h is same = record {
  judged = p.judged;
  refused = p.refused;
  swept = swept_some (state_in old) (state_in new) listed p h;
  counts = counted old.counts new.counts p.judged p.refused is;
  same = same;
}

-- the last sweep, where nothing is stale
pub rests_nothing : (s : SweepingMonitor) → IsAllFresh (state_in s) → SweepsRest s s
rests_nothing s fresh = record { judged = Some 0; swept = swept_rest_nothing (state_in s) fresh; counts = λ sums is. is ∙ capped_none sums; same = refl }

pub rests_all : (old new : SweepingMonitor) (judged : ℕ) → IsSwept (state_in old) (Some judged) (state_in new) → new.counts ≡ capped (with_sweep old.counts judged false) → IsSameBut old.named new.named → SweepsRest old new
rests_all old new judged h is same = record { judged = Some judged; swept = h; counts = counted old.counts new.counts judged false is; same = same }

pub rests_refused : (old new : SweepingMonitor) → IsSwept (state_in old) None (state_in new) → new.counts ≡ capped (with_sweep old.counts 0 true) → IsSameBut old.named new.named → SweepsRest old new
rests_refused old new h is same = record { judged = None; swept = h; counts = counted old.counts new.counts 0 true is; same = same }
