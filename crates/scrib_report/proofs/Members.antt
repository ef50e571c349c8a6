-- The members of replies: each key is put in its place in the order of bytes, and no value is a float.
use Rattle.std.proofs.Common.{◌≡◌, ℕ, Bool, List, [], ◌∷◌, false, codes, map, refl}
use Rattle.serde_json.specs.Data.{boolean, string, Members, member, put}
use Rattle.serde_json.specs.View.{items_of}
use Rattle.serde_json.specs.Written.{has_float, items_have_float, members_have_float}
use Rattle.scrib_types.specs.declared.event.Verdict.{Verdict}
use Rattle.scrib_types.specs.declared.event.Verdict.TheVariants.{Permitted, Offence, Withdrawn}
use Rattle.scrib_types.specs.declared.event.Told.{Told}
use Rattle.scrib_types.specs.declared.event.Told.TheVariants.{Stale, Judged}
use Rattle.scrib_types.specs.Texts.{action_text}
use Rattle.scrib_core.specs.declared.reply.Reply.{Reply}
use Rattle.scrib_core.specs.declared.reply.Reply.TheVariants as reply
use Rattle.scrib_report.specs.Lines.{change_text}
use Rattle.scrib_core.specs.declared.ended.Ended.{Ended}
use Rattle.scrib_report.specs.Json.{natural, offence_then, verdict_member, json_of, verdict_object, judged_object, mismatch_object}

pub verdict_in_order : (id : ℕ) (verdict : Told)
    → put (codes "conversation") (natural id) (offence_then verdict (verdict_member verdict))
    ≡ offence_then verdict (member (codes "conversation") (natural id) (verdict_member verdict))
verdict_in_order id Stale = refl
verdict_in_order id (Judged Permitted) = refl
verdict_in_order id (Judged (Offence at by allowed)) = refl
verdict_in_order id (Judged Withdrawn) = refl

pub noted_in_order : (id place : ℕ) (verdict : Told)
    → put (codes "place") (natural place) (put (codes "conversation") (natural id) (offence_then verdict (verdict_member verdict)))
    ≡ offence_then verdict (member (codes "conversation") (natural id) (member (codes "place") (natural place) (verdict_member verdict)))
noted_in_order id place Stale = refl
noted_in_order id place (Judged Permitted) = refl
noted_in_order id place (Judged (Offence at by allowed)) = refl
noted_in_order id place (Judged Withdrawn) = refl

pub judged_in_order : (id : ℕ) (name : List ℕ) (events : ℕ) (verdict : Told)
    → put (codes "protocol") (string name) (put (codes "events") (natural events) (put (codes "conversation") (natural id) (offence_then verdict (verdict_member verdict))))
    ≡ offence_then verdict (member (codes "conversation") (natural id) (member (codes "events") (natural events) (member (codes "protocol") (string name) (verdict_member verdict))))
judged_in_order id name events Stale = refl
judged_in_order id name events (Judged Permitted) = refl
judged_in_order id name events (Judged (Offence at by allowed)) = refl
judged_in_order id name events (Judged Withdrawn) = refl

pub closed_in_order : (id : ℕ) (name : List ℕ) (events : ℕ) (verdict : Verdict) (complete : Bool)
    → put (codes "events") (natural events) (put (codes "conversation") (natural id) (put (codes "complete") (boolean complete) (put (codes "closed") (string name) (offence_then (Judged verdict) (verdict_member (Judged verdict))))))
    ≡ offence_then (Judged verdict) (member (codes "closed") (string name) (member (codes "complete") (boolean complete) (member (codes "conversation") (natural id) (member (codes "events") (natural events) (verdict_member (Judged verdict))))))
closed_in_order id name events Permitted complete = refl
closed_in_order id name events (Offence at by allowed) complete = refl
closed_in_order id name events Withdrawn complete = refl

texts_have_no_float : {A : Type 0} (text : A → List ℕ) (as_ : List A) → items_have_float (items_of (map (λ a. string (text a)) as_)) ≡ false
texts_have_no_float text [] = refl
texts_have_no_float text (a ∷ as_) = texts_have_no_float text as_

offence_then_has_no_float : (verdict : Told) (ms : Members) → members_have_float ms ≡ false → members_have_float (offence_then verdict ms) ≡ false
offence_then_has_no_float Stale ms h = h
offence_then_has_no_float (Judged Permitted) ms h = h
offence_then_has_no_float (Judged Withdrawn) ms h = h
offence_then_has_no_float (Judged (Offence place role allowed)) ms h = rw (texts_have_no_float action_text allowed) h

pub json_has_no_float : (r : Reply) → has_float (json_of r) ≡ false
unfolding json_of
json_has_no_float (reply.Edited e changes) = rw (texts_have_no_float change_text changes.list)
json_has_no_float (reply.Profiled p) = refl
json_has_no_float (reply.Opened id name) = refl
json_has_no_float (reply.Noted id place verdict) = offence_then_has_no_float verdict _ refl
json_has_no_float (reply.Judged id name events verdict) = offence_then_has_no_float verdict _ refl
json_has_no_float (reply.Closed id name events verdict complete) = offence_then_has_no_float (Judged verdict) _ refl
json_has_no_float (reply.Refused f) = refl

pub verdict_object_has_no_float : (id : ℕ) (verdict : Told) → has_float (verdict_object id verdict) ≡ false
verdict_object_has_no_float id verdict = offence_then_has_no_float verdict _ refl

pub mismatch_has_no_float : (conversation place : ℕ) → has_float (mismatch_object conversation place) ≡ false
unfolding mismatch_object
mismatch_has_no_float conversation place = refl

pub ended_has_no_float : (e : Ended) → has_float (judged_object e.id e.name e.events e.told) ≡ false
ended_has_no_float e = offence_then_has_no_float e.told _ refl
