-- The items of a script that a connection took, as far as the script was read.
use Rattle.std.proofs.Common.{◌≡◌, ◌≢◌, ◌∙◌, ℕ, true, List, [], ◌∷◌, ◌++◌, length, take, Option, Some, None, Result, Ok, Err, sym, ap, subst}
use Rattle.std.specs.Prelude.{IfErr, OnOk}
use Rattle.std.specs.Io.KnownBytes.{Consumes, IsAtEnd, Keeps}
use Rattle.std.proofs.lemmas.List.{append_assoc, append-nil}
use Rattle.std.proofs.lemmas.List.Elements.{All-nil}
use Rattle.scrib_script_reader.specs.declared.fault.SpellFault.{SpellFault}
use Rattle.scrib_script_reader.specs.declared.fault.SpellFault.TheVariants as spell
use Rattle.scrib_script_reader.specs.declared.item.Item.{Item}
use Rattle.scrib_script_reader.specs.declared.script.Script.{Script}
use Rattle.scrib_script_reader.specs.Limits.{of_scripts}
use Rattle.scrib_script_reader.specs.Scripts.{Spells, lines, item_list}
use Rattle.scrib_script_reader.specs.Positions.{Holds, TakesFront, PassesLimits, EndSpells, HasConsumed}
use Rattle.scrib_script_reader.proofs.ScriptLemmas.{takes_then, takes_same, read_none, read_more, read_all, read_first}
use Rattle.scrib_script_io.specs.declared.fault.ScriptFault.{ScriptFault}
use Rattle.scrib_script_io.specs.declared.fault.ScriptFault.TheVariants as fault
use Rattle.scrib_script_io.specs.Faults.{fault_of}
use Rattle.scrib_script_io.proofs.WriterLemmas.{consumes_none, consumes_more, consumes_kept}
use Rattle.scrib_run_service.specs.declared.connection.Connection.{Connection}
use Rattle.scrib_run_service.specs.Outcomes.{TakesItems, Appends}
use Rattle.scrib_run_service.specs.Reading.{of_reading, Carries, CarriesTo, CarriesFront, AppendsSpelled, AppendsFront, AppendsEnd, Ran, RanPart}
use Rattle.scrib_run_service.proofs.ConnectionLemmas.{takes_none, takes_more, appends_taken, appends_none, appends_more, appends_counted}

-- A part of the piece was consumed and its items submitted, and the rest is left.
pub record Submitted (a b : Connection) (was now : Script) (piece rest : List ℕ) : Type 0 where
  pub done : List ℕ
  pub is : piece ≡ done ++ rest
  pub carries : Carries a b was now done

pub submitted_none : (c : Connection) (s : Script) (piece : List ℕ) → Submitted c c s s piece piece
submitted_none c s piece = record {
  done = [];
  is = λ i. piece;
  carries = record { items = []; spelled = takes_same s [] (λ i. []) (All-nil (λ b. b ≢ 10)); took = takes_none c };
}

pub submitted_further : (a b c : Connection) (was s t : Script) (piece rest after : List ℕ) → Submitted a b was s piece rest → CarriesTo b c s t rest after → Submitted a c was t piece after
submitted_further a b c was s t piece rest after k f =
    let takes = f.spelled in
    record {
      done = k.done ++ takes.0;
      is = k.is ∙ ap (λ (u : List ℕ). k.done ++ u) takes.1 ∙ sym (append_assoc k.done takes.0 after);
      carries = record {
        items = k.carries.items ++ f.items;
        spelled = takes_then was s t k.done takes.0 k.carries.items f.items k.carries.spelled takes.2;
        took = takes_more a b c k.carries.items f.items k.carries.took f.took;
      };
    }

no_bytes : (xs : List ℕ) → length xs ≡ 0 → xs ≡ []
no_bytes [] is = λ i. []
no_bytes (x ∷ xs) is = cc is

pub submitted_all : (a b : Connection) (was now : Script) (piece rest : List ℕ) → Submitted a b was now piece rest → length rest ≡ 0 → Carries a b was now piece
submitted_all a b was now piece rest k none =
    let all : piece ≡ k.done = k.is ∙ ap (λ (u : List ℕ). k.done ++ u) (no_bytes rest none) ∙ append-nil k.done in
    subst (λ (u : List ℕ). Carries a b was now u) (sym all) k.carries

-- the rest was consumed up to a fault
pub submitted_front : (a b c : Connection) (was s : Script) (piece rest : List ℕ) → Submitted a b was s piece rest → CarriesFront b c s rest → CarriesFront a c was piece
submitted_front a b c was s piece rest k f = record {
  front = k.done ++ f.front;
  rest = f.rest;
  is = k.is ∙ ap (λ (u : List ℕ). k.done ++ u) f.is ∙ sym (append_assoc k.done f.front f.rest);
  now = f.now;
  carries = record {
    items = k.carries.items ++ f.carries.items;
    spelled = takes_then was s f.now k.done f.front k.carries.items f.carries.items k.carries.spelled f.carries.spelled;
    took = takes_more a b c k.carries.items f.carries.items k.carries.took f.carries.took;
  };
}

-- the script passes its limits in the piece
pub carries_past : (c : Connection) (was : Script) (piece : List ℕ) → PassesLimits was piece → CarriesFront c c was piece
carries_past c was piece passes =
    let t = passes.before in
    record {
      front = t.0;
      rest = passes.line ++ passes.rest;
      is = t.1;
      now = passes.mid;
      carries = record { items = []; spelled = t.2; took = takes_none c };
    }

-- nothing was consumed, and then a front
pub carries_after : (a b : Connection) (was mid now : Script) (piece rest : List ℕ) → TakesFront was mid piece piece [] → CarriesTo a b mid now piece rest → CarriesTo a b was now piece rest
carries_after a b was mid now piece rest t f =
    let s = f.spelled in
    record {
      items = f.items;
      spelled = (
        t.0 ++ s.0,
        t.1 ∙ ap (λ (u : List ℕ). t.0 ++ u) s.1 ∙ sym (append_assoc t.0 s.0 rest),
        takes_then was mid now t.0 s.0 [] f.items t.2 s.2,
      );
      took = f.took;
    }

-- nothing was consumed, and then a front up to a fault
pub front_after : (a b : Connection) (was mid : Script) (piece : List ℕ) → TakesFront was mid piece piece [] → CarriesFront a b mid piece → CarriesFront a b was piece
front_after a b was mid piece t f = record {
  front = t.0 ++ f.front;
  rest = f.rest;
  is = t.1 ∙ ap (λ (u : List ℕ). t.0 ++ u) f.is ∙ sym (append_assoc t.0 f.front f.rest);
  now = f.now;
  carries = record {
    items = f.carries.items;
    spelled = takes_then was mid f.now t.0 f.front [] f.carries.items t.2 f.carries.spelled;
    took = f.carries.took;
  };
}

-- a fault of spelling is a fault of reading
pub spelled_of_reading : (e : SpellFault) (f : ScriptFault) → f ≡ fault_of e → of_reading f ≡ true
spelled_of_reading spell.TooLong f is = ap of_reading is
spelled_of_reading spell.OutOfMemory f is = ap of_reading is

pub memory_of_reading : (f : ScriptFault) → f ≡ fault.OutOfMemory → of_reading f ≡ true
memory_of_reading f is = ap of_reading is

pub memory_not_read : (f : ScriptFault) → f ≡ fault.OutOfMemory → f ≢ fault.Read
memory_not_read f is = λ read. let same : fault.OutOfMemory ≡ fault.Read = sym is ∙ read in cc

pub memory_of_spelling : (e : SpellFault) (f : ScriptFault) → f ≡ fault_of e → e ≡ spell.OutOfMemory → f ≡ fault.OutOfMemory
memory_of_spelling e f is memory = is ∙ ap fault_of memory

module _ (a m b : Connection) (none : a.pending.items ≡ []) (flushed : TakesItems m b []) (left : b.pending.items ≡ []) where
  spelled_flushed : (was now : Script) (bytes : List ℕ) → Carries a m was now bytes → AppendsSpelled a b was now bytes
  spelled_flushed was now bytes h = record { items = h.items; spelled = h.spelled; appends = appends_taken a m b h.items none h.took flushed left }

  -- a piece was consumed, and then the buffer was flushed
  pub piece_flushed : {T E : Type 0} (r : Result T E) (was now : Script) (bytes : List ℕ) → OnOk r (Carries a m was now bytes) → OnOk r (AppendsSpelled a b was now bytes)
  piece_flushed (Ok v) was now bytes h = spelled_flushed was now bytes h
  piece_flushed (Err e) was now bytes h = tt

  -- a beginning of the piece was consumed, and then the buffer was flushed
  pub front_flushed : {T : Type 0} (r : Result T ScriptFault) (was : Script) (piece : List ℕ) → IfErr r (λ e. e ≡ fault.Read → CarriesFront a m was piece) → IfErr r (λ e. e ≡ fault.Read → AppendsFront a b was piece)
  front_flushed (Ok v) was piece h = tt
  front_flushed (Err e) was piece h = λ read.
      let k = h read in
      record { front = k.front; rest = k.rest; is = k.is; now = k.now; appends = spelled_flushed was k.now k.front k.carries }

-- the item at the end of the script was taken, and then the buffer was flushed
pub end_taken : {T E : Type 0} (r : Result T E) (a m b : Connection) (was : Script) (o : Option Item) → a.pending.items ≡ [] → EndSpells was (item_list o) → TakesItems a m (item_list o) → OnOk r (TakesItems m b []) → OnOk r (b.pending.items ≡ []) → OnOk r (AppendsEnd a b was)
end_taken (Ok v) a m b was o none ends took flushed left = record { items = item_list o; spelled = ends; appends = appends_taken a m b (item_list o) none took flushed left }
end_taken (Err e) a m b was o none ends took flushed left = tt

-- A connection has the lines of all items that were read so far.
pub record Reached (a b : Connection) (s : Script) (r0 r : Option (List ℕ)) : Type 0 where
  pub seen : List ℕ
  pub items : List Item
  pub consumed : Consumes r0 r seen
  pub read : HasConsumed of_scripts s seen items
  pub appends : Appends a b items

pub reached_none : (c : Connection) (s : Script) (r : Option (List ℕ)) → c.pending.items ≡ [] → Holds s None [] → s.lines ≡ 0 → s.bytes ≡ 0 → s.limits ≡ of_scripts → Reached c c s r r
reached_none c s r none holds no_lines no_bytes limits = record {
  seen = [];
  items = [];
  consumed = consumes_none r;
  read = read_none of_scripts s holds no_lines no_bytes limits;
  appends = appends_none c none;
}

-- a read was interrupted
pub reached_kept : (a b : Connection) (s : Script) (r0 r r' : Option (List ℕ)) → Reached a b s r0 r → Keeps r r' → Reached a b s r0 r'
reached_kept a b s r0 r r' h keeps = record { seen = h.seen; items = h.items; consumed = consumes_kept r0 r r' h.seen h.consumed keeps; read = h.read; appends = h.appends }

-- a piece was read and consumed
pub reached_more : (a b c d : Connection) (s t : Script) (r0 r r' : Option (List ℕ)) (piece : List ℕ) → Reached a b s r0 r → Consumes r r' piece → AppendsSpelled b c s t piece
    → d.format ≡ c.format → d.lines.items ≡ c.lines.items → d.pending.items ≡ c.pending.items → Reached a d t r0 r'
reached_more a b c d s t r0 r r' piece h read k format lines pending = record {
  seen = h.seen ++ piece;
  items = h.items ++ k.items;
  consumed = consumes_more r0 r r' h.seen piece h.consumed read;
  read = read_more of_scripts s t h.seen piece h.items k.items h.read k.spelled;
  appends = appends_counted a c d (h.items ++ k.items) (appends_more a b c h.items k.items h.appends k.appends) format lines pending;
}

-- the bytes that were read so far, and those that the reader has left
first_known : (a b : Connection) (r0 r : Option (List ℕ)) (seen more : List ℕ) (s : Script) (items : List Item) → ((left : List ℕ) → r ≡ Some left → (end : List ℕ) × (left ≡ more ++ end)) → Consumes r0 r seen → HasConsumed of_scripts s (seen ++ more) items → Appends a b items → RanPart a b r0
first_known a b None r seen more s items front consumed read appends = record { items = items; appends = appends; spelled = tt }
first_known a b (Some input) None seen more s items front consumed read appends = absurd consumed
first_known a b (Some input) (Some left) seen more s items front consumed read appends =
    let end = front left (λ i. Some left) in
    let all : input ≡ (seen ++ more) ++ end.0 = consumed ∙ ap (λ (u : List ℕ). seen ++ u) end.1 ∙ sym (append_assoc seen more end.0) in
    let p = read_first of_scripts s (seen ++ more) items read end.0 in
    record { items = items; appends = appends; spelled = (p.0, subst (λ (u : List ℕ). Spells 1 None (lines u) (items ++ p.0)) (sym all) p.1) }

-- the reader failed
pub reader_failed : (a b : Connection) (s : Script) (r0 r : Option (List ℕ)) → Reached a b s r0 r → RanPart a b r0
reader_failed a b s r0 r h =
    first_known a b r0 r h.seen [] s h.items (λ left is. (left, λ i. left)) h.consumed (subst (λ (u : List ℕ). HasConsumed of_scripts s u h.items) (sym (append-nil h.seen)) h.read) h.appends

front_left : (r r' : Option (List ℕ)) (piece front rest : List ℕ) → Consumes r r' piece → piece ≡ front ++ rest → (left : List ℕ) → r ≡ Some left → (end : List ℕ) × (left ≡ front ++ end)
front_left None r' piece front rest read is left same = cc same
front_left (Some was) None piece front rest read is left same = absurd read
front_left (Some was) (Some now) piece front rest read is left same =
    let is_left : was ≡ left = cc same in
    (rest ++ now, sym is_left ∙ read ∙ ap (λ (u : List ℕ). u ++ now) is ∙ append_assoc front rest now)

-- the script passes its limits in a piece that was read
pub piece_failed : (a b c : Connection) (s : Script) (r0 r r' : Option (List ℕ)) (piece : List ℕ) → Reached a b s r0 r → Consumes r r' piece → AppendsFront b c s piece → RanPart a c r0
piece_failed a b c s r0 r r' piece h read k =
    first_known a c r0 r h.seen k.front k.now (h.items ++ k.appends.items) (front_left r r' piece k.front k.rest read k.is) h.consumed
    (read_more of_scripts s k.now h.seen k.front h.items k.appends.items h.read k.appends.spelled) (appends_more a b c h.items k.appends.items h.appends k.appends.appends)

end_known : (a b : Connection) (r0 r r' : Option (List ℕ)) (seen : List ℕ) (items : List Item) → Consumes r0 r seen → Consumes r r' [] → IsAtEnd r' → Spells 1 None (lines seen) items → Appends a b items → Ran a b r0
end_known a b None r r' seen items consumed read at_end spelled appends = record { items = items; appends = appends; spelled = tt }
end_known a b (Some input) None r' seen items consumed read at_end spelled appends = absurd consumed
end_known a b (Some input) (Some left) None seen items consumed read at_end spelled appends = absurd read
end_known a b (Some input) (Some left) (Some last) seen items consumed read at_end spelled appends =
    let all : input ≡ seen = consumed ∙ ap (λ (u : List ℕ). seen ++ u) (read ∙ at_end) ∙ append-nil seen in
    record { items = items; appends = appends; spelled = subst (λ (u : List ℕ). Spells 1 None (lines u) items) (sym all) spelled }

-- all bytes were read, and the item at the end was taken
pub reached_end : (a b c d : Connection) (s : Script) (r0 r r' : Option (List ℕ)) (n : ℕ) (piece : List ℕ) → Reached a b s r0 r → Consumes r r' (take n piece) → n ≡ 0 → IsAtEnd r' → AppendsEnd b c s
    → d.format ≡ c.format → d.lines.items ≡ c.lines.items → d.pending.items ≡ c.pending.items → Ran a d r0
reached_end a b c d s r0 r r' n piece h read none at_end k format lines pending =
    end_known a d r0 r r' h.seen (h.items ++ k.items) h.consumed (subst (λ (i : ℕ). Consumes r r' (take i piece)) none read) at_end (read_all of_scripts s h.seen h.items k.items h.read k.spelled)
    (appends_counted a c d (h.items ++ k.items) (appends_more a b c h.items k.items h.appends k.appends) format lines pending)
