-- What a run has gathered, and what it has written of that.
use Rattle.std.proofs.Common.{◌≡◌, ℕ, List, [], ◌∷◌, ◌++◌, ◌∙◌, Option, Some, None, rules, refl, sym, ap, subst}
use Rattle.std.specs.Io.KnownBytes.{Appends, append_known}
use Rattle.std.proofs.lemmas.List.{append_assoc, append-nil, append_cancel_left}
use Rattle.scrib_core.specs.Answers.{State}
use Rattle.scrib_core.specs.Held.{state_of}
use Rattle.scrib_script_reader.specs.declared.item.Item.{Item}
use Rattle.scrib_script_reader.specs.declared.limits.Limits.{Limits}
use Rattle.scrib_script_reader.specs.declared.script.Script.{Script}
use Rattle.scrib_script_reader.specs.Scripts.{item_list}
use Rattle.scrib_script_reader.proofs.ScriptLemmas.{takes_then}
use Rattle.scrib_script_reader.specs.Positions.{TakesFront, EndSpells, PassesLimits}
use Rattle.scrib_script_io.specs.Writes.{AppendsPart}
use Rattle.scrib_script_io.proofs.WriterLemmas.{appends_more, appends_none}
use Rattle.scrib_cli.specs.declared.gathered.Gathered.{Gathered}
use Rattle.scrib_cli.specs.declared.run.ScriptRun.{ScriptRun}
use Rattle.scrib_cli.specs.declared.output_mode.OutputMode.{OutputMode}
use Rattle.scrib_cli.specs.Progress.{RunFailsOn, HasProgressed, RunAdvances, PieceFails, FailsWithin, PassesLimitIn, EndSucceeds, EndFails, IsCarriedOut, WasCarriedOut, GathersFront, WritesFront, items_shown}
use Rattle.scrib_cli.proofs.RunLemmas.{ConsumedFront, IsPartCarriedOut, took_none, took_item, failed_within, stopped_past, ended_item, failed_last, ahead}

known_none : (w : Option (List ℕ)) → w ≡ append_known w []
known_none None = refl
known_none (Some xs) = ap Some (sym (append-nil xs))

-- The known bytes after a front of the gathered ones was written.
front_written : (was now end : Option (List ℕ)) (front gathered out : List ℕ) → Appends was (append_known now (front ++ gathered)) out → Appends now end front
    → Appends was (append_known end gathered) out
front_written None now end front gathered out p q = search rules
front_written (Some a) None end front gathered out p q = absurd p
front_written (Some a) (Some b) None front gathered out p q = absurd q
front_written (Some a) (Some b) (Some c) front gathered out p q =
    ap (λ (u : List ℕ). u ++ gathered) q ∙ append_assoc b front gathered ∙ p

-- The known bytes after some or all of the gathered ones were written.
part_written : (was now end : Option (List ℕ)) (gathered grown out : List ℕ) → Appends was (append_known now gathered) out → Appends was now grown → AppendsPart now end gathered
    → AppendsPart was end out
part_written None now end gathered grown out p q r = (out, [], sym (append-nil out), search rules)
part_written (Some a) None end gathered grown out p q r = absurd q
part_written (Some a) (Some b) None gathered grown out p q r = absurd r.3
part_written (Some a) (Some b) (Some c) gathered grown out p q r =
    let whole : a ++ out ≡ a ++ ((grown ++ r.0) ++ r.1) =
    sym p ∙ ap (λ (u : List ℕ). u ++ gathered) q ∙ append_assoc a grown gathered ∙ ap (λ (u : List ℕ). a ++ (grown ++ u)) r.2 ∙ ap (λ (u : List ℕ). a ++ u) (sym (append_assoc grown r.0 r.1)) in
    (grown ++ r.0, r.1, append_cancel_left a out ((grown ++ r.0) ++ r.1) whole, r.3 ∙ ap (λ (u : List ℕ). u ++ r.0) q ∙ append_assoc a grown r.0)

-- The progress of a run does not depend on what it holds as gathered.
moved : (m : Limits) (t : OutputMode) (run : ScriptRun) (held : Gathered) (seen : List ℕ) (w now end : Option (List ℕ)) → ((out : List ℕ) → Appends w now out → Appends w end out)
    → HasProgressed m t run seen w now → HasProgressed m t (record run { gathered = held }) seen w end
moved m t run held seen w now end on c = record {
  output_mode = c.output_mode;
  items = c.items;
  replies = c.replies;
  read = c.read;
  answered = c.answered;
  goes_on = c.goes_on;
  appends = on (items_shown t c.items c.replies) c.appends;
}

advances_moved : (old mid : ScriptRun) (held : Gathered) (bytes : List ℕ) (was now end : Option (List ℕ)) → ((w : Option (List ℕ)) (out : List ℕ) → Appends w now out → Appends w end out)
    → RunAdvances old mid bytes was now → RunAdvances old (record mid { gathered = held }) bytes was end
advances_moved old mid held bytes was now end on went = record {
  goes = λ m t seen w c. moved m t mid held (seen ++ bytes) w now end (on w) (went.goes m t seen w c);
}

-- A part of a piece was consumed, and the rest is left. Some replies were written, and the others are gathered.
pub record GatheredFront (old new : ScriptRun) (piece rest : List ℕ) (was now : Option (List ℕ)) : Type 0 where
  pub consumed : ConsumedFront old new piece rest was (append_known now new.gathered.bytes.items)
  pub grown : List ℕ
  pub grows : Appends was now grown

pub gathered_none : (run : ScriptRun) (held : Gathered) (piece : List ℕ) (w : Option (List ℕ)) → held.bytes.items ≡ [] → GatheredFront run (record run { gathered = held }) piece piece w w
gathered_none run held piece w none =
    let start = took_none run piece w in
    let same : w ≡ append_known w held.bytes.items = known_none w ∙ ap (append_known w) (sym none) in
    record {
      consumed = record {
        done = start.done;
        is = start.is;
        went = advances_moved run run held start.done w w (append_known w held.bytes.items) (λ v out a. subst (λ (u : Option (List ℕ)). Appends v u out) same a) start.went;
      };
      grown = [];
      grows = appends_none w;
    }

-- An item's output that is gathered is output of the run.
carried_on : (t : OutputMode) (o : Option Item) (w v : State) (now : Option (List ℕ)) (a b : List ℕ) → WasCarriedOut t o w v (Some a) (Some b) → WasCarriedOut t o w v (append_known now a) (append_known now b)
carried_on t None w v now a b d =
    let some : Some b ≡ Some a = d.1 in
    let same : b ≡ a = cc in
    (d.0, ap (append_known now) same)
carried_on t (Some i) w v None a b d = (d.0, d.1, d.2, search rules)
carried_on t (Some i) w v (Some x) a b d = (d.0, d.1, d.2, ap (λ (u : List ℕ). x ++ u) d.3 ∙ sym (append_assoc x a d.1))

-- a further front of the piece was consumed, and the output of its item, if it spells one, was gathered
pub gathered_further : (old mid new : ScriptRun) (piece rest after : List ℕ) (was now : Option (List ℕ)) → GatheredFront old mid piece rest was now → GathersFront mid new rest after
    → GatheredFront old new piece after was now
gathered_further old mid new piece rest after was now k f = record {
  consumed = took_item old mid new piece rest after f.found was (append_known now mid.gathered.bytes.items) (append_known now new.gathered.bytes.items) k.consumed f.output_mode f.takes
      (carried_on mid.output_mode f.found (state_of mid.core) (state_of new.core) now mid.gathered.bytes.items new.gathered.bytes.items f.carried);
  grown = k.grown;
  grows = k.grows;
}

on_written : (now end : Option (List ℕ)) (all left : List ℕ) → (f : WritesFront all left now end) → (w : Option (List ℕ)) (out : List ℕ) → Appends w (append_known now all) out → Appends w (append_known end left) out
on_written now end all left f w out a = front_written w now end f.0 left out (subst (λ (u : List ℕ). Appends w (append_known now u) out) f.1 a) f.2

-- a front of what is gathered was written
pub gathered_written : (old mid : ScriptRun) (held : Gathered) (piece rest : List ℕ) (was now end : Option (List ℕ)) → GatheredFront old mid piece rest was now
    → WritesFront mid.gathered.bytes.items held.bytes.items now end → GatheredFront old (record mid { gathered = held }) piece rest was end
gathered_written old mid held piece rest was now end k f = record {
  consumed = record {
    done = k.consumed.done;
    is = k.consumed.is;
    went = advances_moved old mid held k.consumed.done was (append_known now mid.gathered.bytes.items) (append_known end held.bytes.items) (on_written now end mid.gathered.bytes.items held.bytes.items f) k.consumed.went;
  };
  grown = k.grown ++ f.0;
  grows = appends_more was now end k.grown f.0 k.grows f.2;
}

-- the run fails here, however much of what is gathered is then written
pub fails_within : (old mid : ScriptRun) (piece rest : List ℕ) (was now : Option (List ℕ)) → GatheredFront old mid piece rest was now → FailsWithin old piece mid.gathered.bytes.items was now
fails_within old mid piece rest was now k = λ end part. record {
  so = λ m t seen w c more.
      let d = k.consumed.went.goes m t seen w c in
      let before = items_shown t c.items c.replies in
      let grown = appends_more w was now before k.grown c.appends k.grows in
      let written = part_written w now end mid.gathered.bytes.items (before ++ k.grown) (items_shown t d.items d.replies) d.appends grown part in
      subst (λ (u : List ℕ). RunFailsOn t u w end) (ahead seen k.consumed.done rest more piece k.consumed.is)
      (failed_within m t mid (seen ++ k.consumed.done) w (append_known now mid.gathered.bytes.items) end d written (rest ++ more));
}

no_part : (part rest : List ℕ) → [] ≡ part ++ rest → part ≡ []
no_part [] rest e = refl
no_part (b ∷ part) rest e = cc

-- a part of what was gathered was written, and nothing is left
pub fails_written : (old : ScriptRun) (piece all left : List ℕ) (was now end : Option (List ℕ)) → FailsWithin old piece all was now → AppendsPart now end all → left ≡ [] → FailsWithin old piece left was end
fails_written old piece all left was now end fails part none = λ last more.
    let nothing = no_part more.0 more.1 (sym none ∙ more.2) in
    let kept : Appends now last part.0 = subst (λ (u : List ℕ). Appends now last u) (ap (λ (u : List ℕ). part.0 ++ u) nothing ∙ append-nil part.0) (appends_more now end last part.0 more.0 part.3 more.3) in
    fails last (part.0, part.1, part.2, kept)

-- Nothing was consumed, and then a front.
front_then : (old mid new : Script) (piece rest : List ℕ) (items : List Item) → TakesFront old mid piece piece [] → TakesFront mid new piece rest items → TakesFront old new piece rest items
front_then old mid new piece rest items t s = (
  t.0 ++ s.0,
  t.1 ∙ ap (λ (u : List ℕ). t.0 ++ u) s.1 ∙ sym (append_assoc t.0 s.0 rest),
  takes_then old mid new t.0 s.0 [] items t.2 s.2,
)

pub gathers_after : (old new : ScriptRun) (script : Script) (piece rest : List ℕ) → TakesFront old.script script piece piece [] → GathersFront (record old { script = script }) new piece rest
    → GathersFront old new piece rest
gathers_after old new script piece rest t f = record {
  output_mode = f.output_mode;
  found = f.found;
  takes = front_then old.script script new.script piece rest (item_list f.found) t f.takes;
  carried = f.carried;
}

pub passes_after : (old mid : Script) (piece : List ℕ) → TakesFront old mid piece piece [] → PassesLimits mid piece → PassesLimits old piece
passes_after old mid piece t passes = record {
  mid = passes.mid;
  line = passes.line;
  rest = passes.rest;
  before = front_then old mid passes.mid piece (passes.line ++ passes.rest) [] t passes.before;
  first = passes.first;
  past = passes.past;
}

-- What is gathered was written: all of it, or some.
pub all_of : (all : List ℕ) (now end : Option (List ℕ)) → Appends now end all → AppendsPart now end all
all_of all now end a = (all, [], sym (append-nil all), a)

to_end : (now end : Option (List ℕ)) (all : List ℕ) → Appends now end all → (w : Option (List ℕ)) (out : List ℕ) → Appends w (append_known now all) out → Appends w end out
to_end now end all q w out a =
    subst (λ (u : Option (List ℕ)). Appends w u out) (sym (known_none end))
    (front_written w now end all [] out (subst (λ (u : List ℕ). Appends w (append_known now u) out) (sym (append-nil all)) a) q)

pub advances_written : (old mid : ScriptRun) (held : Gathered) (piece : List ℕ) (was now end : Option (List ℕ)) → Appends now end mid.gathered.bytes.items
    → RunAdvances old mid piece was (append_known now mid.gathered.bytes.items) → RunAdvances old (record mid { gathered = held }) piece was end
advances_written old mid held piece was now end q went =
    advances_moved old mid held piece was (append_known now mid.gathered.bytes.items) end (to_end now end mid.gathered.bytes.items q) went

pub passes_written : (old : ScriptRun) (piece all : List ℕ) (was now end : Option (List ℕ)) → Appends now end all → PassesLimitIn old piece was (append_known now all) → PassesLimitIn old piece was end
passes_written old piece all was now end q passes = record {
  so = λ m t seen w c.
      let p = passes.so m t seen w c in
      (p.0, p.1, p.2, p.3, p.4, p.5, moved m t p.0 p.0.gathered (seen ++ p.1) w (append_known now all) end (to_end now end all q w) p.6, p.7);
}

-- The last item's output was gathered alone.
pub carried_alone : (t : OutputMode) (i : Item) (w v : State) (a b : List ℕ) (was now : Option (List ℕ)) → IsCarriedOut t i w v (Some a) (Some b) → a ≡ [] → Appends was now b → IsCarriedOut t i w v was now
carried_alone t i w v a b was now d none written =
    let is : b ≡ d.1 = d.3 ∙ ap (λ (u : List ℕ). u ++ d.1) none in
    (d.0, d.1, d.2, subst (λ (u : List ℕ). Appends was now u) is written)

pub part_alone : (t : OutputMode) (i : Item) (w v : State) (a b : List ℕ) (was now : Option (List ℕ)) → IsCarriedOut t i w v (Some a) (Some b) → a ≡ [] → AppendsPart was now b → IsPartCarriedOut t i w was now
part_alone t i w v a b was now d none written =
    let is : b ≡ d.1 = d.3 ∙ ap (λ (u : List ℕ). u ++ d.1) none in
    (d.0, v, d.1, d.2, subst (λ (u : List ℕ). AppendsPart was now u) is written)
