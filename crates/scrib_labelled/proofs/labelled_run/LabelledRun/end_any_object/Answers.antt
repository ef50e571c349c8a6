use Rattle.std.proofs.Common.{◌∙◌, ◌+◌, ℕ, List, Option, Some, None, refl, sym, subst}
use Rattle.std.specs.Prelude.{option_map}
use Rattle.std.proofs.lemmas.Result.{err_from_is_err_and, on_err_weaker, on_ok_weaker}
use Rattle.scrib_script_reader.specs.declared.line.Line.TheVariants as line
use Rattle.scrib_objects.specs.Objects.{as_bad, as_line, shown}
use Rattle.scrib_objects.specs.declared.object_line.ObjectBody.TheVariants as body
use Rattle.scrib_objects.specs.declared.object_line.ObjectLine.{ObjectLine}
use Rattle.scrib_report.specs.PutBack.{bytes_of}
use Rattle.scrib_labelled.specs.declared.put_text.PutText.{PutText}
use Rattle.scrib_labelled.specs.LineEnds.{nameless, of_cut, of_meaning, of_object}
use Rattle.scrib_labelled.specs.ObjectLines.{IsObjectRead}
use Rattle.scrib_labelled.proofs.LineEndLemmas.{ends_of, ends_one, fails_of, fails_one, fails_unread, gives_put_object, put_entry}
use Rattle.scrib_labelled.proofs.ObjectLemmas.{read_some, says_bad_object, says_no_object, says_object, says_put_object}
use Rattle.scrib_labelled.proofs.labelled_run.LabelledRun.end_any_object.Goals as goal

pub returns-in_err-object-clause-err : goal.returns-in_err-object-clause-err
returns-in_err-object-clause-err g c =
    let p = err_from_is_err_and c.from_residual.result c.from_residual.ensures.1 in
    rw p.1
    (fails_unread g.S.EntryStage.Took g.S.EntryStage.TookPart g.S.EntryStage.gathered g.met.S.EntryStage.is_part c.args.self.now c.args.self.now (of_cut c.args.self.now.options c.args.line.now) refl (λ P all l is. all None l tt))

pub returns-in_default-clause-ok : goal.returns-in_default-clause-ok
returns-in_default-clause-ok g c =
    let old = c.args.self.now in
    let read = subst (λ (x : Option ObjectLine). IsObjectRead old.options c.args.line.now (option_map shown x)) c.in_default.is c.in_ok-object.ensures in
    on_ok_weaker c.end_bad_object.result
    (ends_of g.S.EntryStage.Took g.S.EntryStage.gathered old c.end_bad_object.new.self (of_meaning old.options (nameless (old.count.lines + 1) c.args.line.now None) line.Bad) (of_cut old.options c.args.line.now)
    (λ P h l is. h l (says_no_object old.options c.args.line.now (old.count.lines + 1) c.requires.objects read l is) is))
    c.end_bad_object.ensures.ok

pub returns-in_default-clause-err : goal.returns-in_default-clause-err
returns-in_default-clause-err g c =
    let old = c.args.self.now in
    let read = subst (λ (x : Option ObjectLine). IsObjectRead old.options c.args.line.now (option_map shown x)) c.in_default.is c.in_ok-object.ensures in
    on_err_weaker c.end_bad_object.result
    (fails_of g.S.EntryStage.Took g.S.EntryStage.TookPart g.S.EntryStage.gathered old c.end_bad_object.new.self (of_meaning old.options (nameless (old.count.lines + 1) c.args.line.now None) line.Bad) (of_cut old.options c.args.line.now)
    (λ P h l is. h l (says_no_object old.options c.args.line.now (old.count.lines + 1) c.requires.objects read l is) is))
    c.end_bad_object.ensures.err

pub returns-in-Line-clause-ok : goal.returns-in-Line-clause-ok
returns-in-Line-clause-ok g c =
    let old = c.args.self.now in
    let read = read_some old.options c.args.line.now c.in_ok-object.field-0 c.in-Some.object (body.Line c.in-Line.bytes) c.in-Some.is c.in-Line.is c.in_ok-object.ensures in
    let tagged = subst (λ (t : Option (List ℕ)). IsObjectRead old.options c.args.line.now (Some (record { tag = t; body = as_line c.in-Line.bytes.items }))) (sym c.tag_of.ensures) read in
    let spelled = subst (λ (t : List ℕ). IsObjectRead old.options c.args.line.now (Some (record { tag = bytes_of c.tag_of.result; body = as_line t }))) (sym c.as_slice.ensures.value) tagged in
    on_ok_weaker c.end_object_line.result
    (ends_of g.S.EntryStage.Took g.S.EntryStage.gathered old c.end_object_line.new.self (of_object old.options c.args.line.now (bytes_of c.tag_of.result) c.as_slice.result.now) (of_cut old.options c.args.line.now)
    (λ P h l is. h l (says_object old.options c.args.line.now (bytes_of c.tag_of.result) c.as_slice.result.now c.requires.objects spelled l is) is))
    c.end_object_line.ensures.ok

pub returns-in-Line-clause-err : goal.returns-in-Line-clause-err
returns-in-Line-clause-err g c =
    let old = c.args.self.now in
    let read = read_some old.options c.args.line.now c.in_ok-object.field-0 c.in-Some.object (body.Line c.in-Line.bytes) c.in-Some.is c.in-Line.is c.in_ok-object.ensures in
    let tagged = subst (λ (t : Option (List ℕ)). IsObjectRead old.options c.args.line.now (Some (record { tag = t; body = as_line c.in-Line.bytes.items }))) (sym c.tag_of.ensures) read in
    let spelled = subst (λ (t : List ℕ). IsObjectRead old.options c.args.line.now (Some (record { tag = bytes_of c.tag_of.result; body = as_line t }))) (sym c.as_slice.ensures.value) tagged in
    on_err_weaker c.end_object_line.result
    (fails_of g.S.EntryStage.Took g.S.EntryStage.TookPart g.S.EntryStage.gathered old c.end_object_line.new.self (of_object old.options c.args.line.now (bytes_of c.tag_of.result) c.as_slice.result.now) (of_cut old.options c.args.line.now)
    (λ P h l is. h l (says_object old.options c.args.line.now (bytes_of c.tag_of.result) c.as_slice.result.now c.requires.objects spelled l is) is))
    c.end_object_line.ensures.err

pub returns-in_ok-head-in-Put-clause-ok : goal.returns-in_ok-head-in-Put-clause-ok
returns-in_ok-head-in-Put-clause-ok g c =
    let old = c.args.self.now in
    let read = read_some old.options c.args.line.now c.in_ok-object.field-0 c.in-Some.object (body.Put c.in-Put.format c.in-Put.text) c.in-Some.is c.in-Put.is c.in_ok-object.ensures in
    let text : PutText = record { line = c.number-number.result; head = c.in_ok-head-in-Put.head; bytes = c.truncate.new.self; format = c.in-Put.format; tag = c.in-Some.object.tag } in
    on_ok_weaker c.put.result
    (λ h. ends_one g.S.EntryStage.Took g.S.EntryStage.gathered old c.put.new.self (of_cut old.options c.args.line.now) h.label (put_entry text.format text.bytes.items) (h.rest ∙ c.requires.text) h.same
    (λ P made l is. made None l
    (gives_put_object old.options (old.count.lines + 1) l c.args.line.now c.in-Put.text.items text h.label h.labelled c.number-number.ensures c.in_ok-head-in-Put.ensures.items is c.truncate.ensures.items
    (says_put_object old.options c.args.line.now (old.count.lines + 1) (option_map (λ t. t.items) c.in-Some.object.tag) c.in-Put.format c.in-Put.text.items c.requires.objects read l is))) h.takes)
    c.put.ensures.ok

pub returns-in_ok-head-in-Put-clause-err : goal.returns-in_ok-head-in-Put-clause-err
returns-in_ok-head-in-Put-clause-err g c =
    let old = c.args.self.now in
    let read = read_some old.options c.args.line.now c.in_ok-object.field-0 c.in-Some.object (body.Put c.in-Put.format c.in-Put.text) c.in-Some.is c.in-Put.is c.in_ok-object.ensures in
    let text : PutText = record { line = c.number-number.result; head = c.in_ok-head-in-Put.head; bytes = c.truncate.new.self; format = c.in-Put.format; tag = c.in-Some.object.tag } in
    on_err_weaker c.put.result
    (λ h. fails_one g.S.EntryStage.Took g.S.EntryStage.TookPart g.S.EntryStage.gathered old c.put.new.self (of_cut old.options c.args.line.now) h.label (put_entry text.format text.bytes.items)
    (λ P made l is. made None l
    (gives_put_object old.options (old.count.lines + 1) l c.args.line.now c.in-Put.text.items text h.label h.labelled c.number-number.ensures c.in_ok-head-in-Put.ensures.items is c.truncate.ensures.items
    (says_put_object old.options c.args.line.now (old.count.lines + 1) (option_map (λ t. t.items) c.in-Some.object.tag) c.in-Put.format c.in-Put.text.items c.requires.objects read l is))) h.fails)
    c.put.ensures.err

pub returns-in_err-head-in-Put-clause-err : goal.returns-in_err-head-in-Put-clause-err
returns-in_err-head-in-Put-clause-err g c =
    let p = err_from_is_err_and c.from_residual-in_err-head-in-Put.result c.from_residual-in_err-head-in-Put.ensures.1 in
    rw p.1
    (fails_unread g.S.EntryStage.Took g.S.EntryStage.TookPart g.S.EntryStage.gathered g.met.S.EntryStage.is_part c.args.self.now c.args.self.now (of_cut c.args.self.now.options c.args.line.now) refl (λ P all l is. all None l tt))

pub returns-in-Bad-clause-ok : goal.returns-in-Bad-clause-ok
returns-in-Bad-clause-ok g c =
    let old = c.args.self.now in
    let read = read_some old.options c.args.line.now c.in_ok-object.field-0 c.in-Some.object body.Bad c.in-Some.is c.in-Bad.is c.in_ok-object.ensures in
    let tagged = subst (λ (t : Option (List ℕ)). IsObjectRead old.options c.args.line.now (Some (record { tag = t; body = as_bad }))) (sym c.tag_of-in-Bad.ensures) read in
    on_ok_weaker c.end_bad_object-in-Bad.result
    (ends_of g.S.EntryStage.Took g.S.EntryStage.gathered old c.end_bad_object-in-Bad.new.self (of_meaning old.options (nameless (old.count.lines + 1) c.args.line.now (bytes_of c.tag_of-in-Bad.result)) line.Bad) (of_cut old.options c.args.line.now)
    (λ P h l is. h l (says_bad_object old.options c.args.line.now (old.count.lines + 1) (bytes_of c.tag_of-in-Bad.result) c.requires.objects tagged l is) is))
    c.end_bad_object-in-Bad.ensures.ok

pub returns-in-Bad-clause-err : goal.returns-in-Bad-clause-err
returns-in-Bad-clause-err g c =
    let old = c.args.self.now in
    let read = read_some old.options c.args.line.now c.in_ok-object.field-0 c.in-Some.object body.Bad c.in-Some.is c.in-Bad.is c.in_ok-object.ensures in
    let tagged = subst (λ (t : Option (List ℕ)). IsObjectRead old.options c.args.line.now (Some (record { tag = t; body = as_bad }))) (sym c.tag_of-in-Bad.ensures) read in
    on_err_weaker c.end_bad_object-in-Bad.result
    (fails_of g.S.EntryStage.Took g.S.EntryStage.TookPart g.S.EntryStage.gathered old c.end_bad_object-in-Bad.new.self (of_meaning old.options (nameless (old.count.lines + 1) c.args.line.now (bytes_of c.tag_of-in-Bad.result)) line.Bad) (of_cut old.options c.args.line.now)
    (λ P h l is. h l (says_bad_object old.options c.args.line.now (old.count.lines + 1) (bytes_of c.tag_of-in-Bad.result) c.requires.objects tagged l is) is))
    c.end_bad_object-in-Bad.ensures.err
