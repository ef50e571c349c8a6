-- No member of an object with a label is a float.
use Rattle.std.proofs.Common.{◌≡◌, ◌||◌, ℕ, Bool, List, Option, Some, None, Ordering, Less, Equal, Greater, true, false, refl}
use Rattle.std.specs.Ordering.{match_ordering, nat_cmp}
use Rattle.std.specs.Cmp.Lexicographic.{slice_cmp}
use Rattle.serde_json.specs.Data.{Data, null, boolean, number, string, array, object, Members, no_members, member, put}
use Rattle.serde_json.specs.Written.{has_float, members_have_float}
use Rattle.scrib_core.specs.declared.reply.Reply.{Reply}
use Rattle.scrib_core.specs.declared.reply.Reply.TheVariants as reply
use Rattle.scrib_report.specs.Json.{json_of, natural}
use Rattle.scrib_report.specs.LabelledReplies.{reply_object, with_conversation, with_label, with_number, with_text}
use Rattle.scrib_report.specs.PutBack.{ReplyLabel}
use Rattle.scrib_report.proofs.Members.{json_has_no_float}

or-left : (a b : Bool) → (a || b) ≡ false → a ≡ false
or-left false b h = refl
or-left true b h = h

or-right : (a b : Bool) → (a || b) ≡ false → b ≡ false
or-right false b h = h
or-right true b h = absurd (cc)

by-order : (o : Ordering) (a b c : Members) → members_have_float a ≡ false → members_have_float b ≡ false → members_have_float c ≡ false → members_have_float (match_ordering o a b c) ≡ false
by-order Less a b c p q r = p
by-order Equal a b c p q r = q
by-order Greater a b c p q r = r

put-member : (k : List ℕ) (d : Data) (ms : Members) → has_float d ≡ false → members_have_float ms ≡ false → members_have_float (put k d ms) ≡ false
put-member k d no_members f h = rw f refl
put-member k d (member l e ms) f h =
    let here : has_float e ≡ false = or-left (has_float e) (members_have_float ms) h in
    let more : members_have_float ms ≡ false = or-right (has_float e) (members_have_float ms) h in
    by-order (slice_cmp nat_cmp k l) (member k d (member l e ms)) (member l d ms) (member l e (put k d ms))
    (rw f h) (rw f more) (rw here (put-member k d ms f more))

with-text : (k : List ℕ) (text : Option (List ℕ)) (ms : Members) → members_have_float ms ≡ false → members_have_float (with_text k text ms) ≡ false
with-text k None ms h = h
with-text k (Some text) ms h = put-member k (string text) ms refl h

with-number : (k : List ℕ) (n : Option ℕ) (ms : Members) → members_have_float ms ≡ false → members_have_float (with_number k n ms) ≡ false
with-number k None ms h = h
with-number k (Some n) ms h = put-member k (natural n) ms refl h

pub label_has_no_float : (l : ReplyLabel) (d : Data) → has_float d ≡ false → has_float (with_label l d) ≡ false
label_has_no_float l (object ms) h = with-text _ l.tag _ (with-number _ l.line _ (with-text _ l.name ms h))
label_has_no_float l null h = h
label_has_no_float l (boolean b) h = h
label_has_no_float l (number n) h = h
label_has_no_float l (string s) h = h
label_has_no_float l (array ds) h = h

with-conversation : (c : Option ℕ) (d : Data) → has_float d ≡ false → has_float (with_conversation c d) ≡ false
with-conversation c (object ms) h = with-number _ c ms h
with-conversation c null h = h
with-conversation c (boolean b) h = h
with-conversation c (number n) h = h
with-conversation c (string s) h = h
with-conversation c (array ds) h = h

pub object_has_no_float : (l : ReplyLabel) (r : Reply) → has_float (reply_object l r) ≡ false
object_has_no_float l (reply.Refused f) = with-conversation l.conversation (json_of (reply.Refused f)) (json_has_no_float (reply.Refused f))
object_has_no_float l (reply.Edited edit changes) = json_has_no_float (reply.Edited edit changes)
object_has_no_float l (reply.Profiled profile) = json_has_no_float (reply.Profiled profile)
object_has_no_float l (reply.Opened id name) = json_has_no_float (reply.Opened id name)
object_has_no_float l (reply.Noted id place told) = json_has_no_float (reply.Noted id place told)
object_has_no_float l (reply.Judged id name events told) = json_has_no_float (reply.Judged id name events told)
object_has_no_float l (reply.Closed id name events verdict complete) = json_has_no_float (reply.Closed id name events verdict complete)
