-- Each reason, after a short log of two roles: A sends hello or bye to B.
use Rattle.std.proofs.Common.{◌≡◌, true, List, [], ◌∷◌, ℕ, Some, codes, inl, inr, refl, sym, ap}
use Rattle.std.proofs.lemmas.Bool.{true≢false}
use Rattle.scrib_types.specs.declared.message.Message.{Message}
use Rattle.scrib_types.specs.declared.event.Action.TheVariants.{Sends}
use Rattle.scrib_types.specs.declared.event.Event.TheVariants.{Join, Sent, Received}
use Rattle.scrib_types.specs.Trees.{GlobalEnd, Comm, Branch, NoBranch, LocalEnd, Send, Recv, LocalBranches, NoChoice, Choice}
use Rattle.scrib_types.specs.Traces.{sends, receives}
use Rattle.scrib_types.specs.Same.{same_operator}
use Rattle.scrib_types.specs.WellFormed.{is_protocol}
use Rattle.scrib_types.specs.Agreement.{Agreement}
use Rattle.scrib_global.specs.Next.{IsTypeAfter}
use Rattle.scrib_reasons.specs.declared.reason.Reason.TheVariants.{NotDeclared, JoinedTwice, NotJoined, Done, NotAllowed, NotSent, OtherFirst}
use Rattle.scrib_reasons.specs.Reasons.{IsBecause}
use Rattle.scrib_reasons.proofs.Choices.{made_chosen, end_makes_none}

abbrev says : List ℕ → Message
says operator = record { op = Some operator; payload = [] }

abbrev hello : Message
hello = says (codes "hello")

abbrev bye : Message
bye = says (codes "bye")

abbrev A : List ℕ
A = codes "A"

abbrev B : List ℕ
B = codes "B"

abbrev C : List ℕ
C = codes "C"

abbrev sample : Agreement
sample = record { roles = A ∷ B ∷ []; global = Comm A B (Branch hello GlobalEnd (Branch bye GlobalEnd NoBranch)) }

sample_valid : is_protocol sample.roles sample.global ≡ true
unfolding is_protocol
sample_valid = refl

abbrev both : LocalBranches
both = Choice hello LocalEnd (Choice bye LocalEnd NoChoice)

sender_starts : IsTypeAfter sample.global (Join A ∷ []) A (Send B both)
sender_starts = record { start = Send B both; projected = refl; leads = refl }

sender_ends : IsTypeAfter sample.global (Join A ∷ Sent A B hello ∷ []) A LocalEnd
sender_ends = record { start = Send B both; projected = refl; leads = (LocalEnd, sends (inl (refl, refl)), refl) }

receiver_starts : IsTypeAfter sample.global (Join A ∷ Join B ∷ Sent A B hello ∷ []) B (Recv A both)
receiver_starts = record { start = Recv A both; projected = refl; leads = refl }

receiver_waits : IsTypeAfter sample.global (Join B ∷ []) B (Recv A both)
receiver_waits = record { start = Recv A both; projected = refl; leads = refl }

-- a role that isn't declared joins, is sent to, or is received from; it needn't have joined
undeclared_join : IsBecause sample [] (Join C) NotDeclared
undeclared_join = refl

undeclared_receiver : IsBecause sample (Join A ∷ []) (Sent A C hello) NotDeclared
undeclared_receiver = refl

undeclared_sender : IsBecause sample (Join B ∷ []) (Received C B hello) NotDeclared
undeclared_sender = refl

undeclared_first : IsBecause sample [] (Sent C B hello) NotJoined → ⊥
undeclared_first h = true≢false (sym h.declared)

-- joins
joined_twice : IsBecause sample (Join A ∷ Join B ∷ []) (Join A) JoinedTwice
joined_twice = record { declared = refl; joins = refl; joined = refl }

sends_unjoined : IsBecause sample (Join B ∷ []) (Sent A B hello) NotJoined
sends_unjoined = record { declared = refl; acts = refl; absent = refl }

-- a sender at its end, and one that may make another send
sends_ended : IsBecause sample (Join A ∷ Sent A B hello ∷ []) (Sent A B bye) Done
sends_ended = record {
  left = LocalEnd;
  ready = record { declared = refl; acts = refl; joined = refl; after = sender_ends };
  ended = end_makes_none;
}

receives_as_sender : IsBecause sample (Join A ∷ []) (Received B A hello) NotAllowed
receives_as_sender = record {
  left = Send B both;
  ready = record { declared = refl; acts = refl; joined = refl; after = sender_starts };
  other = Sends B hello;
  makes = (LocalEnd, sends (inl (refl, refl)));
  refuses = λ d. true≢false (sym (made_chosen (Send B both) (Received B A hello) refl d));
}

sends_to_itself : IsBecause sample (Join A ∷ []) (Sent A A hello) NotAllowed
sends_to_itself = record {
  left = Send B both;
  ready = record { declared = refl; acts = refl; joined = refl; after = sender_starts };
  other = Sends B hello;
  makes = (LocalEnd, sends (inl (refl, refl)));
  refuses = λ d. true≢false (sym (made_chosen (Send B both) (Sent A A hello) refl d));
}

-- a reception that is offered
other_message : bye ≡ hello → ⊥
other_message e = true≢false (sym (ap (λ (m : Message). same_operator m.op (Some (codes "hello"))) e))

received_unsent : IsBecause sample (Join B ∷ []) (Received A B hello) NotSent
received_unsent = (
  record {
    left = Recv A both;
    ready = record { declared = refl; acts = refl; joined = refl; after = receiver_waits };
    makes = (LocalEnd, receives (inl (refl, refl)));
  },
  refl,
)

received_other : IsBecause sample (Join A ∷ Join B ∷ Sent A B hello ∷ []) (Received A B bye) OtherFirst
received_other = (
  record {
    left = Recv A both;
    ready = record { declared = refl; acts = refl; joined = refl; after = receiver_starts };
    makes = (LocalEnd, receives (inr (other_message, inl (refl, refl))));
  },
  hello,
  [],
  refl,
  λ e. other_message (sym e),
)
