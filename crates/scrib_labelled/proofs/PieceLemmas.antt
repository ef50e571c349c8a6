-- What a run with labels gave at a position of its script, and where it fails.
use Rattle.std.proofs.Common.{◌≡◌, ◌∙◌, ℕ, ◌+◌, true, List, [], ◌∷◌, ◌++◌, inl, inr, Option, None, length, refl, sym, ap, subst, arith, eqb, Result, Ok, Err}
use Rattle.std.specs.Prelude.{OnOk, OnErr}
use Rattle.std.specs.Io.KnownBytes.{Appends}
use Rattle.std.proofs.lemmas.Bool.{eqb-true}
use Rattle.std.proofs.lemmas.List.{append_assoc, append-nil}
use Rattle.scrib_script_reader.specs.Scripts.{lines}
use Rattle.scrib_script_reader.proofs.Bytes.{take_of_none}
use Rattle.scrib_script_io.specs.Writes.{AppendsPart}
use Rattle.scrib_script_io.proofs.WriterLemmas.{appends_none, appends_more}
use Rattle.scrib_cli.specs.Progress.{WritesFront}
use Rattle.scrib_labelled.specs.declared.labelled_run.LabelledRun.{LabelledRun}
use Rattle.scrib_labelled.specs.declared.put_text.PutText.{PutText}
use Rattle.scrib_labelled.specs.GatheredBytes.{GatherFails, GathersBytes, GathersFront, WritesFirst}
use Rattle.scrib_labelled.specs.LabelledEntries.{LabelledEntry, SpellsLabelledEntries, no_line}
use Rattle.scrib_labelled.specs.Readings.{Beginning, HoldsUnended, IsAt, IsPartOf, IsPartOfLines, IsWholeOf, PieceFails, RunAdvances, Writes, beginning, kept_len}
use Rattle.scrib_labelled.specs.Stages.{Keeps, OutputRelation, StageRelation}
use Rattle.scrib_labelled.proofs.SplitLemmas.{split_none}

-- ---- laws of a stage, which the proofs of functions have

-- what was taken has its output as a part
abbrev pub IsPartLaw : {S : Type 0} → StageRelation S → OutputRelation S → Type 0
IsPartLaw {S} Took Part = (first now : S) (entries : List LabelledEntry) (out : List ℕ) → Took first now entries out → Part first entries out

-- a beginning of a part is one
abbrev pub LessLaw : {S : Type 0} → OutputRelation S → Type 0
LessLaw {S} Part = (first : S) (entries : List LabelledEntry) (part rest : List ℕ) → Part first entries (part ++ rest) → Part first entries part

-- ---- parts

-- the output of a run so far is a part of what its script gives
pub part_so_far : {S : Type 0} (Took : StageRelation S) (Part : OutputRelation S) → IsPartLaw Took Part → (b : Beginning S) (run : LabelledRun S) (seen out : List ℕ) → IsAt Took b run seen out → (more : List ℕ) → IsPartOf Part b (seen ++ more) out
part_so_far Took Part law b run seen out at more =
    inl (record {
      read = at.whole;
      later = lines (at.part ++ more);
      is = at.split.at more;
      number = run.count.lines + 1;
      unended = at.unended;
      entries = at.entries;
      spells = at.spells;
      part = law b.stage run.stage at.entries out at.took;
    })

less-of-lines : {S : Type 0} (Part : OutputRelation S) → LessLaw Part → (b : Beginning S) (ls : List (List ℕ)) (part rest : List ℕ) → IsPartOfLines Part b.labels b.stage ls (part ++ rest) → IsPartOfLines Part b.labels b.stage ls part
less-of-lines Part law b ls part rest p = record {
  read = p.read;
  later = p.later;
  is = p.is;
  number = p.number;
  unended = p.unended;
  entries = p.entries;
  spells = p.spells;
  part = law b.stage p.entries part rest p.part;
}

pub part_less : {S : Type 0} (Part : OutputRelation S) → LessLaw Part → (b : Beginning S) (input whole part rest : List ℕ) → whole ≡ part ++ rest → IsPartOf Part b input whole → IsPartOf Part b input part
part_less Part law b input whole part rest is p = less (subst (λ (x : List ℕ). IsPartOf Part b input x) is p)
  where
    less : IsPartOf Part b input (part ++ rest) → IsPartOf Part b input part
    less (inl p) = inl (less-of-lines Part law b (lines input) part rest p)
    less (inr p) = inr (p.0, p.1, p.2, p.3, law b.stage _ part rest p.4)

-- all of an output
pub part_whole : {S : Type 0} (TookAll : StageRelation S) (Part : OutputRelation S) → IsPartLaw TookAll Part → (b : Beginning S) (after : S) (input out : List ℕ) → IsWholeOf TookAll b after input out → IsPartOf Part b input out
part_whole TookAll Part law b after input out h = inr (h.0, h.1, h.2, h.3, law b.stage after _ out h.4)

-- ---- a run before its first byte

pub is_new : {S : Type 0} (Took : StageRelation S) (run : LabelledRun S) → run.count.lines ≡ 0 → run.count.bytes ≡ 0 → run.line.items ≡ [] → run.text ≡ None → Took run.stage run.stage [] [] → IsAt Took (beginning run) run [] []
is_new Took run lines bytes line text took = record {
  options = refl;
  limits = refl;
  whole = [];
  part = [];
  split = split_none;
  unended = None;
  entries = [];
  spells = subst (λ (n : ℕ). SpellsLabelledEntries run.options [] (n + 1) None []) (sym lines) no_line;
  text = subst (λ (t : Option PutText). HoldsUnended t None) (sym text) tt;
  kept = line ∙ sym (take_of_none (kept_len run.options None));
  took = took;
  bytes = bytes;
  lines = lines;
  within = (omega arith, omega arith);
}

-- ---- what is gathered does not matter

abbrev pub with_stage : {S : Type 0} → LabelledRun S → S → LabelledRun S
with_stage run s = record run { stage = s }

pub progress_moved : {S : Type 0} (Took : StageRelation S) (b : Beginning S) (run : LabelledRun S) (s : S) (seen out : List ℕ) → Keeps Took run.stage s → IsAt Took b run seen out → IsAt Took b (with_stage run s) seen out
progress_moved Took b run s seen out keeps at = record {
  options = at.options;
  limits = at.limits;
  whole = at.whole;
  part = at.part;
  split = at.split;
  unended = at.unended;
  entries = at.entries;
  spells = at.spells;
  text = at.text;
  kept = at.kept;
  took = keeps b.stage at.entries out at.took;
  bytes = at.bytes;
  lines = at.lines;
  within = at.within;
}

-- the bytes of a piece up to an LF, or all of them
pub gathers_front : {S : Type 0} (Took : StageRelation S) (gathered : S → List ℕ) (old new : LabelledRun S) (piece front rest : List ℕ) → piece ≡ front ++ rest → GathersBytes Took gathered old new front → GathersFront Took gathered old new piece rest
gathers_front Took gathered old new piece front rest is g = record { front = front; is = is; out = g.out; grows = g.grows; went = g.went }

-- ---- where a run fails

-- nothing was consumed
pub piece_unread : {S : Type 0} (Took : StageRelation S) (Part : OutputRelation S) (gathered : S → List ℕ) → IsPartLaw Took Part → (old new : LabelledRun S) (piece : List ℕ) → new.stage ≡ old.stage → GatherFails Took Part gathered old new piece
piece_unread Took Part gathered law old new piece same = record {
  out = [];
  grows = ap gathered same ∙ sym (append-nil (gathered old.stage));
  fails = record {
    so = λ b seen before c more. subst (λ (l : List ℕ). IsPartOf Part b (seen ++ (piece ++ more)) l) (sym (append-nil before)) (part_so_far Took Part law b old seen before c (piece ++ more));
  };
}

-- a failure within the first bytes of a piece
pub piece_begun : {S : Type 0} (Took : StageRelation S) (Part : OutputRelation S) (gathered : S → List ℕ) (old new : LabelledRun S) (piece front rest : List ℕ) → piece ≡ front ++ rest → GatherFails Took Part gathered old new front
    → GatherFails Took Part gathered old new piece
piece_begun Took Part gathered old new piece front rest is g = record {
  out = g.out;
  grows = g.grows;
  fails = record {
    so = λ b seen before c more.
        subst (λ (l : List ℕ). IsPartOf Part b (seen ++ l) (before ++ g.out)) (sym (append_assoc front rest more) ∙ ap (λ (l : List ℕ). l ++ more) (sym is)) (g.fails.so b seen before c (rest ++ more));
  };
}

-- the consumed bytes and those that follow
ahead : (seen done rest more piece : List ℕ) → piece ≡ done ++ rest → (seen ++ done) ++ (rest ++ more) ≡ seen ++ (piece ++ more)
ahead seen done rest more piece e =
    append_assoc seen done (rest ++ more) ∙ ap (λ (u : List ℕ). seen ++ u) (sym (append_assoc done rest more) ∙ ap (λ (u : List ℕ). u ++ more) (sym e))

-- ---- a piece

-- A part of a piece was consumed, and the rest is left. Some of its output was written, and the rest is gathered.
pub record ConsumedFront {S : Type 0} (Took : StageRelation S) (gathered : S → List ℕ) (old new : LabelledRun S) (piece rest : List ℕ) (was now : Option (List ℕ)) : Type 0 where
  pub done : List ℕ
  pub is : piece ≡ done ++ rest
  pub out : List ℕ
  pub went : RunAdvances Took old new done (out ++ gathered new.stage)
  pub wrote : Appends was now out

pub consumed_none : {S : Type 0} (Took : StageRelation S) (gathered : S → List ℕ) (run : LabelledRun S) (s : S) (piece : List ℕ) (w : Option (List ℕ)) → Keeps Took run.stage s → gathered s ≡ [] → ConsumedFront Took gathered run (with_stage run s) piece piece w w
consumed_none Took gathered run s piece w keeps none = record {
  done = [];
  is = refl;
  out = [];
  went = record {
    goes = λ b seen before c.
        let same : before ≡ before ++ gathered s = sym (append-nil before) ∙ ap (λ (l : List ℕ). before ++ l) (sym none) in
        subst (λ (l : List ℕ). IsAt Took b (with_stage run s) l (before ++ gathered s)) (sym (append-nil seen))
        (subst (λ (l : List ℕ). IsAt Took b (with_stage run s) seen l) same (progress_moved Took b run s seen before keeps c));
  };
  wrote = appends_none w;
}

-- two outputs, one after the other
both : (all a b before : List ℕ) → all ≡ a ++ b → (before ++ a) ++ b ≡ before ++ all
both all a b before is = append_assoc before a b ∙ ap (λ (l : List ℕ). before ++ l) (sym is)

-- what was written is in front of two gathered outputs
both_behind : (out all a b : List ℕ) → all ≡ a ++ b → out ++ all ≡ (out ++ a) ++ b
both_behind out all a b is = sym (both all a b out is)

pub consumed_more : {S : Type 0} (Took : StageRelation S) (gathered : S → List ℕ) (old mid new : LabelledRun S) (piece rest after : List ℕ) (was now : Option (List ℕ)) → ConsumedFront Took gathered old mid piece rest was now
    → GathersFront Took gathered mid new rest after → ConsumedFront Took gathered old new piece after was now
consumed_more Took gathered old mid new piece rest after was now k f =
    let all = k.out ++ gathered new.stage in
    let first = k.out ++ gathered mid.stage in
    let is : all ≡ first ++ f.out = both_behind k.out (gathered new.stage) (gathered mid.stage) f.out f.grows in
    record {
      done = k.done ++ f.front;
      is = k.is ∙ ap (λ (u : List ℕ). k.done ++ u) f.is ∙ sym (append_assoc k.done f.front after);
      out = k.out;
      went = record {
        goes = λ b seen before c.
            let d = f.went.goes b (seen ++ k.done) (before ++ first) (k.went.goes b seen before c) in
            subst (λ (u : List ℕ). IsAt Took b new u (before ++ all)) (append_assoc seen k.done f.front)
            (subst (λ (l : List ℕ). IsAt Took b new ((seen ++ k.done) ++ f.front) l) (both all first f.out before is) d);
      };
      wrote = k.wrote;
    }

no_items : (xs : List ℕ) → length xs ≡ 0 → xs ≡ []
no_items [] e = refl
no_items (x ∷ xs) e = absurd (omega (arith, e))

pub consumed_all : {S : Type 0} (Took : StageRelation S) (gathered : S → List ℕ) (old new : LabelledRun S) (piece rest : List ℕ) (was now : Option (List ℕ)) → ConsumedFront Took gathered old new piece rest was now → true ≡ eqb (length rest) 0
    → WritesFirst (RunAdvances Took old new piece) (gathered new.stage) was now
consumed_all Took gathered old new piece rest was now k e =
    let none = no_items rest (eqb-true (length rest) 0 (sym e)) in
    let all : piece ≡ k.done = k.is ∙ ap (λ (u : List ℕ). k.done ++ u) none ∙ append-nil k.done in
    (k.out, subst (λ (u : List ℕ). RunAdvances Took old new u (k.out ++ gathered new.stage)) (sym all) k.went, k.wrote)

-- a further line failed
pub consumed_fails : {S : Type 0} (Took : StageRelation S) (Part : OutputRelation S) (gathered : S → List ℕ) (old mid new : LabelledRun S) (piece rest : List ℕ) (was now : Option (List ℕ)) → ConsumedFront Took gathered old mid piece rest was now
    → GatherFails Took Part gathered mid new rest → WritesFirst (PieceFails Took Part old piece) (gathered new.stage) was now
consumed_fails Took Part gathered old mid new piece rest was now k f =
    let all = k.out ++ gathered new.stage in
    let first = k.out ++ gathered mid.stage in
    let is : all ≡ first ++ f.out = both_behind k.out (gathered new.stage) (gathered mid.stage) f.out f.grows in (
      k.out,
      record {
        so = λ b seen before c more.
            let d = f.fails.so b (seen ++ k.done) (before ++ first) (k.went.goes b seen before c) more in
            subst (λ (u : List ℕ). IsPartOf Part b u (before ++ all)) (ahead seen k.done rest more piece k.is)
            (subst (λ (l : List ℕ). IsPartOf Part b ((seen ++ k.done) ++ (rest ++ more)) l) (both all first f.out before is) d);
      },
      k.wrote,
    )

-- it ends somewhere in the piece
consumed_ends : {S : Type 0} (Took : StageRelation S) (Part : OutputRelation S) (gathered : S → List ℕ) → IsPartLaw Took Part → (old new : LabelledRun S) (piece rest : List ℕ) (was now : Option (List ℕ)) → (k : ConsumedFront Took gathered old new piece rest was now)
    → PieceFails Took Part old piece (k.out ++ gathered new.stage)
consumed_ends Took Part gathered law old new piece rest was now k = record {
  so = λ b seen before c more.
      let all = k.out ++ gathered new.stage in
      subst (λ (u : List ℕ). IsPartOf Part b u (before ++ all)) (ahead seen k.done rest more piece k.is)
      (part_so_far Took Part law b new (seen ++ k.done) (before ++ all) (k.went.goes b seen before c) (rest ++ more));
}

-- a piece that was carried out is also a part
advances_fails : {S : Type 0} (Took : StageRelation S) (Part : OutputRelation S) → IsPartLaw Took Part → (old new : LabelledRun S) (piece out : List ℕ) → RunAdvances Took old new piece out → PieceFails Took Part old piece out
advances_fails Took Part law old new piece out went = record {
  so = λ b seen before c more.
      subst (λ (u : List ℕ). IsPartOf Part b u (before ++ out)) (append_assoc seen piece more)
      (part_so_far Took Part law b new (seen ++ piece) (before ++ out) (went.goes b seen before c) more);
}

pub advances_moved : {S : Type 0} (Took : StageRelation S) (old new : LabelledRun S) (s : S) (piece out : List ℕ) → Keeps Took new.stage s → RunAdvances Took old new piece out → RunAdvances Took old (with_stage new s) piece out
advances_moved Took old new s piece out keeps went = record {
  goes = λ b seen before c. progress_moved Took b new s (seen ++ piece) (before ++ out) keeps (went.goes b seen before c);
}

-- a front of what is gathered was written
pub consumed_written : {S : Type 0} (Took : StageRelation S) (gathered : S → List ℕ) (old new : LabelledRun S) (s : S) (piece rest : List ℕ) (was now end : Option (List ℕ)) → Keeps Took new.stage s → ConsumedFront Took gathered old new piece rest was now
    → WritesFront (gathered new.stage) (gathered s) now end → ConsumedFront Took gathered old (with_stage new s) piece rest was end
consumed_written Took gathered old new s piece rest was now end keeps k f =
    let out = k.out ++ f.0 in
    let all = both_behind k.out (gathered new.stage) f.0 (gathered s) f.1 in
    record {
      done = k.done;
      is = k.is;
      out = out;
      went = advances_moved Took old new s k.done (out ++ gathered s) keeps (subst (λ (l : List ℕ). RunAdvances Took old new k.done l) all k.went);
      wrote = appends_more was now end k.out f.0 k.wrote f.2;
    }

-- what was written, and then all that is gathered
pub all_written : (P : List ℕ → Type 0) (gathered : List ℕ) (was now end : Option (List ℕ)) → WritesFirst P gathered was now → Appends now end gathered → Writes P was end
all_written P gathered was now end w more = (w.0 ++ gathered, w.1, appends_more was now end w.0 gathered w.2 more)

-- what was written, and then a beginning of what is gathered
part_behind : (out gathered : List ℕ) (was now end : Option (List ℕ)) → Appends was now out → AppendsPart now end gathered → AppendsPart was end (out ++ gathered)
part_behind out gathered was now end wrote part = (
  out ++ part.0,
  part.1,
  both_behind out gathered part.0 part.1 part.2,
  appends_more was now end out part.0 wrote part.3,
)

-- a beginning of what is gathered was written
piece_cut : {S : Type 0} (Took : StageRelation S) (Part : OutputRelation S) → LessLaw Part → (old : LabelledRun S) (piece whole : List ℕ) (was now : Option (List ℕ)) → PieceFails Took Part old piece whole → AppendsPart was now whole
    → Writes (PieceFails Took Part old piece) was now
piece_cut Took Part law old piece whole was now fails part = (
  part.0,
  record {
    so = λ b seen before c more.
        part_less Part law b (seen ++ (piece ++ more)) (before ++ whole) (before ++ part.0) part.1 (ap (λ (l : List ℕ). before ++ l) part.2 ∙ sym (append_assoc before part.0 part.1)) (fails.so b seen before c more);
  },
  part.3,
)

-- it was not written whole, and is dropped
pub consumed_cut : {S : Type 0} (Took : StageRelation S) (Part : OutputRelation S) (gathered : S → List ℕ) → IsPartLaw Took Part → LessLaw Part → (old new : LabelledRun S) (piece rest left : List ℕ) (was now end : Option (List ℕ))
    → ConsumedFront Took gathered old new piece rest was now → AppendsPart now end (gathered new.stage) → left ≡ [] → WritesFirst (PieceFails Took Part old piece) left was end
consumed_cut Took Part gathered law less old new piece rest left was now end k part none =
    let whole = k.out ++ gathered new.stage in
    let cut = piece_cut Took Part less old piece whole was end (consumed_ends Took Part gathered law old new piece rest was now k) (part_behind k.out (gathered new.stage) was now end k.wrote part) in
    let same : cut.0 ≡ cut.0 ++ left = sym (append-nil cut.0) ∙ ap (λ (l : List ℕ). cut.0 ++ l) (sym none) in
    (cut.0, subst (λ (l : List ℕ). PieceFails Took Part old piece l) same cut.1, cut.2)

-- a writer failed, however the piece was carried out
pub taken_cut : {S T E : Type 0} (Took : StageRelation S) (Part : OutputRelation S) → IsPartLaw Took Part → LessLaw Part → (r : Result T E) (old new : LabelledRun S) (piece gathered : List ℕ) (was now end : Option (List ℕ))
    → OnOk r (WritesFirst (RunAdvances Took old new piece) gathered was now) → OnErr r (WritesFirst (PieceFails Took Part old piece) gathered was now) → AppendsPart now end gathered → Writes (PieceFails Took Part old piece) was end
taken_cut Took Part law less (Ok x) old new piece gathered was now end went failed part =
    let whole = went.0 ++ gathered in
    piece_cut Took Part less old piece whole was end (advances_fails Took Part law old new piece whole went.1) (part_behind went.0 gathered was now end went.2 part)
taken_cut Took Part law less (Err e) old new piece gathered was now end went failed part =
    piece_cut Took Part less old piece (failed.0 ++ gathered) was end failed.1 (part_behind failed.0 gathered was now end failed.2 part)
