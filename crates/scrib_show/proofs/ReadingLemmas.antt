-- A run of a script that a reader gives by pieces.
use Rattle.std.proofs.Common.{◌≡◌, ℕ, List, [], ◌++◌, ◌∙◌, Option, Some, None, take, refl, sym, ap, subst, rules}
use Rattle.std.specs.Prelude.{IfSome}
use Rattle.std.specs.Io.KnownBytes.{Consumes, IsAtEnd}
use Rattle.std.proofs.lemmas.List.{append_assoc, append-nil}
use Rattle.scrib_core.specs.Held.{state_of}
use Rattle.scrib_script_reader.specs.declared.limits.Limits.{Limits}
use Rattle.scrib_script_io.proofs.WriterLemmas.{consumes_none, consumes_more}
use Rattle.scrib_show.specs.declared.show_run.ShowRun.{ShowRun}
use Rattle.scrib_show.specs.Progress.{HasFollowed, IsNewRun, FollowsBytes, FollowsFront, IsRead, FollowsEnd, HasReadScript}
use Rattle.scrib_show.proofs.RunLemmas.{follows_none, follows_more}

-- a front of the piece was consumed
pub record ConsumedFront (old new : ShowRun) (piece rest : List ℕ) : Type 0 where
  pub front : List ℕ
  pub is : piece ≡ front ++ rest
  pub went : FollowsBytes old new front

pub consumed_none : (run : ShowRun) (piece : List ℕ) → ConsumedFront run run piece piece
consumed_none run piece = record { front = []; is = refl; went = follows_none run }

pub consumed_more : (old mid new : ShowRun) (piece rest after : List ℕ) → ConsumedFront old mid piece rest → FollowsFront mid new rest after → ConsumedFront old new piece after
consumed_more old mid new piece rest after c f = record {
  front = c.front ++ f.front;
  is = c.is ∙ ap (λ (u : List ℕ). c.front ++ u) f.is ∙ sym (append_assoc c.front f.front after);
  went = follows_more old mid new c.front f.front c.went f.went;
}

pub consumed_all : (old new : ShowRun) (piece rest : List ℕ) → ConsumedFront old new piece rest → rest ≡ [] → FollowsBytes old new piece
consumed_all old new piece rest c none =
    subst (λ (u : List ℕ). FollowsBytes old new u) (sym (c.is ∙ ap (λ (u : List ℕ). c.front ++ u) none ∙ append-nil c.front)) c.went

-- A run consumed all that was read.
pub record HasReadSome (old new : ShowRun) (r0 r : Option (List ℕ)) : Type 0 where
  pub seen : List ℕ
  pub read : Consumes r0 r seen
  pub went : FollowsBytes old new seen

pub reads_none : (run : ShowRun) (r : Option (List ℕ)) → HasReadSome run run r r
reads_none run r = record { seen = []; read = consumes_none r; went = follows_none run }

pub reads_more : (old mid new : ShowRun) (r0 r r' : Option (List ℕ)) (piece : List ℕ) → HasReadSome old mid r0 r → Consumes r r' piece → FollowsBytes mid new piece → HasReadSome old new r0 r'
reads_more old mid new r0 r r' piece h read went = record {
  seen = h.seen ++ piece;
  read = consumes_more r0 r r' h.seen piece h.read read;
  went = follows_more old mid new h.seen piece h.went went;
}

pub reads_end : (old new : ShowRun) (r0 r r' : Option (List ℕ)) (n : ℕ) (piece : List ℕ) → HasReadSome old new r0 r → Consumes r r' (take n piece) → n ≡ 0 → HasReadSome old new r0 r'
reads_end old new r0 r r' n piece h read none =
    let nothing : Consumes r r' [] = subst (λ (i : ℕ). Consumes r r' (take i piece)) none read in
    record {
      seen = h.seen;
      read = subst (λ (u : List ℕ). Consumes r0 r' u) (append-nil h.seen) (consumes_more r0 r r' h.seen [] h.read nothing);
      went = h.went;
    }

-- the whole script was read
read_all : (m : Limits) (id : ℕ) (run end : ShowRun) (r0 r : Option (List ℕ)) (seen : List ℕ) → HasFollowed m run seen → run.monitor.id ≡ id → Consumes r0 r seen → IsAtEnd r → FollowsEnd run end
    → IfSome r0 (λ input. IsRead m id input (state_of end.monitor.core) end.monitor.numbers.items)
read_all m id run end None r seen h id_is read at_end ended = search rules
read_all m id run end (Some input) None seen h id_is read at_end ended = absurd read
read_all m id run end (Some input) (Some left) seen h id_is read at_end ended =
    let all : seen ≡ input = sym (read ∙ ap (λ (u : List ℕ). seen ++ u) at_end ∙ append-nil seen) in
    subst (λ (i : ℕ). IsRead m i input (state_of end.monitor.core) end.monitor.numbers.items) id_is
    (subst (λ (u : List ℕ). IsRead m run.monitor.id u (state_of end.monitor.core) end.monitor.numbers.items) all (ended.so m seen h))

pub reached_end : (m : Limits) (id : ℕ) (old run end : ShowRun) (r0 r : Option (List ℕ)) → IsNewRun m id old → HasReadSome old run r0 r → IsAtEnd r → FollowsEnd run end → HasReadScript m id r0 end.monitor
reached_end m id old run end r0 r new h at_end ended = record {
  id_is = ended.id_is ∙ h.went.id_is ∙ new.id_is;
  paired = ended.pairs (h.went.pairs new.paired);
  read = read_all m id run end r0 r h.seen (h.went.goes m [] new.followed) (h.went.id_is ∙ new.id_is) h.read at_end ended;
}

-- a new run has the given limits
pub new_itself : (m : Limits) (id : ℕ) (run : ShowRun) → IsNewRun m id run → IsNewRun run.script.limits run.monitor.id run
new_itself m id run new =
    subst (λ (i : ℕ). IsNewRun run.script.limits i run) (sym new.id_is) (subst (λ (u : Limits). IsNewRun u id run) (sym new.followed.read.limits) new)
