-- What a run with labels gave at the end of its script, and where it fails there.
use Rattle.std.proofs.Common.{◌≡◌, ◌∙◌, ℕ, ◌+◌, List, [], ◌++◌, inl, inr, Option, Result, Ok, Err, sym, ap, subst}
use Rattle.std.specs.Prelude.{OnOk, OnErr}
use Rattle.std.proofs.lemmas.List.{append_assoc, append-nil}
use Rattle.scrib_script_io.specs.Writes.{AppendsPart}
use Rattle.scrib_script_reader.specs.Scripts.{lines}
use Rattle.scrib_labelled.specs.declared.label_options.LabelOptions.{LabelOptions}
use Rattle.scrib_labelled.specs.declared.labelled_run.LabelledRun.{LabelledRun}
use Rattle.scrib_labelled.specs.LabelledEntries.{LabelledEntry, SpellsLabelledEntries, all_entries}
use Rattle.scrib_labelled.specs.LabelledScripts.{LabelledText}
use Rattle.scrib_labelled.specs.LineEnds.{EndsLast, EndsText, FailsLast, FailsText, HasLabel, of_last}
use Rattle.scrib_labelled.specs.Readings.{Beginning, EndIsCut, EndSucceeds, IsAt, IsPartOf, IsPartOfLines, IsWholeOf, Writes}
use Rattle.scrib_labelled.specs.Stages.{FailsEnd, Keeps, OutputRelation, StageRelation, TakesEnd}
use Rattle.scrib_labelled.proofs.PieceLemmas.{IsPartLaw, LessLaw, part_less, part_whole, with_stage}
use Rattle.scrib_labelled.proofs.SplitLemmas.{split_lines}

-- ---- the last line

-- all lines of a script were read, with this more output
record AllRead {S : Type 0} (Took : StageRelation S) (b : Beginning S) (mid : LabelledRun S) (more seen before : List ℕ) : Type 0 where
  number : ℕ
  after : Option LabelledText
  entries : List LabelledEntry
  label : HasLabel mid.text after
  spells : SpellsLabelledEntries b.labels (lines seen) number after entries
  took : Took b.stage mid.stage entries (before ++ more)

-- the entries of the lines that have ended, by the labels of a run
spelled-here : {S : Type 0} (Took : StageRelation S) (b : Beginning S) (old : LabelledRun S) (seen before : List ℕ) → (at : IsAt Took b old seen before) → SpellsLabelledEntries old.options at.whole (old.count.lines + 1) at.unended at.entries
spelled-here Took b old seen before at = subst (λ (l : LabelOptions). SpellsLabelledEntries l at.whole (old.count.lines + 1) at.unended at.entries) (sym at.options) at.spells

all-read : {S : Type 0} (Took : StageRelation S) (gathered : S → List ℕ) (b : Beginning S) (old : LabelledRun S) (s : S) (mid : LabelledRun S) (seen before : List ℕ) → Keeps Took old.stage s
    → (last : EndsLast Took gathered (with_stage old s) mid (of_last old.options old.text old.line.items)) → IsAt Took b old seen before → AllRead Took b mid last.0 seen before
all-read Took gathered b old s mid seen before keeps last at =
    let line = last.2 at.unended at.part at.text at.split.no_lf at.kept in
    let spelled = line.gives at.whole at.entries (spelled-here Took b old seen before at) in
    record {
      number = spelled.0;
      after = line.after;
      entries = at.entries ++ line.given;
      label = line.label;
      spells =
          subst (λ (l : LabelOptions). SpellsLabelledEntries l (lines seen) spelled.0 line.after (at.entries ++ line.given)) at.options
          (subst (λ (ls : List (List ℕ)). SpellsLabelledEntries old.options ls spelled.0 line.after (at.entries ++ line.given)) (sym (split_lines seen at.whole at.part at.split)) spelled.1);
      took = line.took b.stage at.entries before (keeps b.stage at.entries before at.took);
    }

-- the last line failed
pub last_cut : {S : Type 0} (Took : StageRelation S) (Part : OutputRelation S) (gathered : S → List ℕ) (old : LabelledRun S) (s : S) (mid : LabelledRun S) → Keeps Took old.stage s → gathered s ≡ []
    → FailsLast Took Part gathered (with_stage old s) mid (of_last old.options old.text old.line.items) → EndIsCut Took Part old (gathered mid.stage)
last_cut Took Part gathered old s mid keeps empty f = record {
  so = λ b seen before at.
      let p = f.2 at.unended at.part at.text at.split.no_lf at.kept b.stage at.whole at.entries before (spelled-here Took b old seen before at) (keeps b.stage at.entries before at.took) in
      let all : gathered mid.stage ≡ f.0 = f.1 ∙ ap (λ (l : List ℕ). l ++ f.0) empty in
      inl
      (subst (λ (l : LabelOptions). IsPartOfLines Part l b.stage (lines seen) (before ++ gathered mid.stage)) at.options
      (subst (λ (ls : List (List ℕ)). IsPartOfLines Part old.options b.stage ls (before ++ gathered mid.stage)) (sym (split_lines seen at.whole at.part at.split))
      (subst (λ (l : List ℕ). IsPartOfLines Part old.options b.stage (at.whole ++ lines at.part) (before ++ l)) (sym all) p)));
}

-- ---- the end of the text

-- three outputs, one after the other
behind-two : (before a b all : List ℕ) → all ≡ a ++ b → (before ++ a) ++ b ≡ before ++ all
behind-two before a b all is = append_assoc before a b ∙ ap (λ (l : List ℕ). before ++ l) (sym is)

module _ {S : Type 0} (Took : StageRelation S) (gathered : S → List ℕ) (old : LabelledRun S) (s : S) (mid : LabelledRun S) (keeps : Keeps Took old.stage s) (empty : gathered s ≡ [])
    (last : EndsLast Took gathered (with_stage old s) mid (of_last old.options old.text old.line.items)) where
  -- what is gathered behind the last line
  gathered-last : gathered mid.stage ≡ last.0
  gathered-last = last.1 ∙ ap (λ (l : List ℕ). l ++ last.0) empty

  -- the end of a text failed behind the last line
  pub text_cut : (Part : OutputRelation S) (new : LabelledRun S) → FailsText Took Part gathered mid new → EndIsCut Took Part old (gathered new.stage)
  text_cut Part new f = record {
    so = λ b seen before at.
        let r = all-read Took gathered b old s mid seen before keeps last at in
        let all : gathered new.stage ≡ last.0 ++ f.more = f.grows ∙ ap (λ (l : List ℕ). l ++ f.more) gathered-last in
        subst (λ (l : List ℕ). IsPartOf Part b seen l) (behind-two before last.0 f.more (gathered new.stage) all)
        (elim (f.part r.after b.stage r.entries (before ++ last.0) r.label r.took) [
          | inl p ↦
              inl (record {
                read = lines seen;
                later = [];
                is = sym (append-nil (lines seen));
                number = r.number;
                unended = r.after;
                entries = r.entries;
                spells = r.spells;
                part = p;
              })
          | inr p ↦ inr (r.number, r.after, r.entries, r.spells, p)
        ]);
  }

  -- ---- the end of the script

  module _ (text : LabelledRun S) (ended : EndsText Took gathered mid text) where
    gathered-text : gathered text.stage ≡ last.0 ++ ended.more
    gathered-text = ended.grows ∙ ap (λ (l : List ℕ). l ++ ended.more) gathered-last

    -- the stage failed at the end of the script
    pub finish_cut : (Part : OutputRelation S) (new : S) → FailsEnd Took Part gathered text.stage new → EndIsCut Took Part old (gathered new)
    finish_cut Part new f = record {
      so = λ b seen before at.
          let r = all-read Took gathered b old s mid seen before keeps last at in
          let took = ended.took r.after b.stage r.entries (before ++ last.0) r.label r.took in
          let all : gathered new ≡ (last.0 ++ ended.more) ++ f.more = f.grows ∙ ap (λ (l : List ℕ). l ++ f.more) gathered-text in
          let out : ((before ++ last.0) ++ ended.more) ++ f.more ≡ before ++ gathered new =
          ap (λ (l : List ℕ). l ++ f.more) (append_assoc before last.0 ended.more) ∙ behind-two before (last.0 ++ ended.more) f.more (gathered new) all in
          subst (λ (l : List ℕ). IsPartOf Part b seen l) out (inr (r.number, r.after, r.entries, r.spells, f.part b.stage (all_entries r.after r.entries) ((before ++ last.0) ++ ended.more) took));
    }

    -- the whole script was read
    pub script_ended : (TookAll : StageRelation S) (new : S) → TakesEnd Took TookAll gathered text.stage new → EndSucceeds Took TookAll old new (gathered new)
    script_ended TookAll new e = record {
      so = λ b seen before at.
          let r = all-read Took gathered b old s mid seen before keeps last at in
          let took = ended.took r.after b.stage r.entries (before ++ last.0) r.label r.took in
          let all : gathered new ≡ (last.0 ++ ended.more) ++ e.more = e.grows ∙ ap (λ (l : List ℕ). l ++ e.more) gathered-text in
          let out : ((before ++ last.0) ++ ended.more) ++ e.more ≡ before ++ gathered new =
          ap (λ (l : List ℕ). l ++ e.more) (append_assoc before last.0 ended.more) ∙ behind-two before (last.0 ++ ended.more) e.more (gathered new) all in (
            subst (λ (l : List ℕ). IsWholeOf TookAll b new seen l) out (r.number, r.after, r.entries, r.spells, e.took b.stage (all_entries r.after r.entries) ((before ++ last.0) ++ ended.more) took),
            at.within,
          );
    }

-- ---- what is written of it

-- what was written does not matter
pub end_moved : {S : Type 0} (Took TookAll : StageRelation S) (old : LabelledRun S) (after s : S) (out : List ℕ) → Keeps TookAll after s → EndSucceeds Took TookAll old after out → EndSucceeds Took TookAll old s out
end_moved Took TookAll old after s out keeps e = record {
  so = λ b seen before at.
      let p = e.so b seen before at in
      let h = p.0 in
      ((h.0, h.1, h.2, h.3, keeps b.stage (all_entries h.1 h.2) (before ++ out) h.4), p.1);
}

-- what a whole run gave is also a part
whole-part : {S : Type 0} (Took TookAll : StageRelation S) (Part : OutputRelation S) → IsPartLaw TookAll Part → (old : LabelledRun S) (after : S) (out : List ℕ) → EndSucceeds Took TookAll old after out → EndIsCut Took Part old out
whole-part Took TookAll Part law old after out e = record { so = λ b seen before at. part_whole TookAll Part law b after seen (before ++ out) (e.so b seen before at).0 }

end-cut : {S : Type 0} (Took : StageRelation S) (Part : OutputRelation S) → LessLaw Part → (old : LabelledRun S) (whole : List ℕ) (was now : Option (List ℕ)) → EndIsCut Took Part old whole → AppendsPart was now whole → Writes (EndIsCut Took Part old) was now
end-cut Took Part law old whole was now fails part = (
  part.0,
  record {
    so = λ b seen before at.
        part_less Part law b seen (before ++ whole) (before ++ part.0) part.1 (ap (λ (l : List ℕ). before ++ l) part.2 ∙ sym (append_assoc before part.0 part.1)) (fails.so b seen before at);
  },
  part.3,
)

-- a writer failed at the end of a script
pub ended_cut : {S T E : Type 0} (Took TookAll : StageRelation S) (Part : OutputRelation S) → IsPartLaw TookAll Part → LessLaw Part → (r : Result T E) (old : LabelledRun S) (after : S) (whole : List ℕ) (was now : Option (List ℕ))
    → OnOk r (EndSucceeds Took TookAll old after whole) → OnErr r (EndIsCut Took Part old whole) → AppendsPart was now whole → Writes (EndIsCut Took Part old) was now
ended_cut Took TookAll Part law less (Ok x) old after whole was now ended failed part = end-cut Took Part less old whole was now (whole-part Took TookAll Part law old after whole ended) part
ended_cut Took TookAll Part law less (Err e) old after whole was now ended failed part = end-cut Took Part less old whole was now failed part
