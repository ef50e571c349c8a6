use Rattle.std.proofs.Common.{length, ◌∙◌, arith}
use Rattle.std.proofs.lemmas.List.{length_push}
use Rattle.std.proofs.lemmas.Iterator.Adapters.{YieldsList-from_vec}
use Rattle.std.proofs.lemmas.Iterator.Consumers.{YieldsList-turn, YieldsList-so_far}
use Rattle.scrib_library.proofs.VersionEditLemmas.{all_made_more, unedited}
use Rattle.scrib_library.proofs.versions.apply_edits.Goals as goal

pub loop-edit-preserved : goal.loop-edit-preserved
loop-edit-preserved c =
    let all = c.args.edits.items in
    let made = c.into_iter-edit-iterator.ensures.into_iter_gives in
    let yields = YieldsList-from_vec {s = c.into_iter-edit-iterator.result} all made.0 (made.1 ∙ c.args.edits.ok.0) in
    let turn = YieldsList-turn yields c.loop-edit.yielded c.loop-edit.edit-iterator c.loop-edit.yielded_by _ c.next.new.self c.in-Some.edit c.in-Some.is c.next.ensures.steps in
    let far = YieldsList-so_far yields c.loop-edit.yielded c.loop-edit.edit-iterator c.loop-edit.yielded_by in
    let long = length_push c.loop-edit.yielded c.in-Some.edit in
    let k = c.apply_edit.ensures in
    record {
      made = all_made_more c.args.versions.now.items c.loop-edit.yielded c.in-Some.edit c.loop-edit.versions.items c.apply_edit.new.versions.items c.loop-edit.invariant.made (unedited all c.requires.edits (length c.loop-edit.yielded) c.in-Some.edit turn.0 turn.1 c.loop-edit.yielded far) k.made;
      room = omega (arith, c.loop-edit.invariant.room, k.length, k.room, long);
    }
