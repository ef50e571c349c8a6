-- The machines of a protocol's projections.
use Rattle.std.proofs.Common.{◌≡◌, ◌≤◌, ◌<◌, ◌+◌, true, ℕ, zero, suc, List, [], ◌∷◌, ◌++◌, take, Some, length, get_or, slice_get, refl, sym, ap, subst, ◌∙◌, All, arith}
use Rattle.std.specs.List.{AllZip}
use Rattle.std.proofs.lemmas.Bool.{and_parts}
use Rattle.std.proofs.lemmas.List.{take_more, take_all}
use Rattle.std.proofs.lemmas.Option.{same_Some, get_or_from_slice_get, slice_get_within}
use Rattle.scrib_types.specs.declared.local.Local.{Local}
use Rattle.scrib_types.specs.LocalView.{local_of}
use Rattle.scrib_types.specs.Agreement.{Agreement}
use Rattle.scrib_types.specs.Projection.{projection, is_closed, widest}
use Rattle.scrib_types.specs.Trees.{GlobalTree}
use Rattle.scrib_types.specs.WellFormed.{distinct_roles, is_protocol, well_formed}
use Rattle.scrib_projection.specs.Projections.{are_projections}
use Rattle.scrib_machine.specs.declared.machine.Edge.{Edge}
use Rattle.scrib_machine.specs.Compilable.{IsCompilable, max_nodes}
use Rattle.scrib_machine.specs.Projected.{global_nodes, projected_compilable}
use Rattle.scrib_record.specs.RoleMachines.{IsCompiled, AreMachinesOf}
use Rattle.scrib_record.proofs.Projections.{projections_length, projection_at}

-- the parts of a valid protocol
pub record Valid (roles : List (List ℕ)) (g : GlobalTree) : Type 0 where
  pub differ : distinct_roles roles ≡ true
  pub closed : is_closed g ≡ true
  pub formed : well_formed roles g ≡ true

pub valid : (roles : List (List ℕ)) (g : GlobalTree) → is_protocol roles g ≡ true → Valid roles g
unfolding is_protocol
valid roles g h =
    let all = and_parts _ _ h in
    let formed = and_parts _ _ all.0 in
    let closed = and_parts _ _ formed.0 in
    let differ = and_parts _ _ closed.0 in
    record { differ = differ.1; closed = closed.1; formed = formed.1 }

-- each projection can be compiled
pub all_compilable : (roles : List (List ℕ)) (g : GlobalTree) (ls : List Local) → is_protocol roles g ≡ true → global_nodes g ≤ max_nodes → are_projections g roles ls ≡ true → All (λ l. IsCompilable (local_of l)) ls
all_compilable roles g ls v n p i d h =
    let ok = valid roles g v in
    let long = projections_length g roles ls p in
    let r : List ℕ = [] in
    projected_compilable roles (get_or roles i r) g (local_of (get_or ls i d)) ok.formed ok.closed n (projection_at g roles ls i r d p (omega arith))

-- one more machine
pub zip_none : (ls : List Local) (ms : List (List (List Edge))) → ms ≡ [] → AllZip IsCompiled (take 0 ls) ms
zip_none ls ms e = rw e tt

zip_push : (ls : List Local) (ms : List (List (List Edge))) (l : Local) (m : List (List Edge)) → AllZip IsCompiled ls ms → IsCompiled l m → AllZip IsCompiled (ls ++ l ∷ []) (ms ++ m ∷ [])
zip_push [] [] l m z h = (h, tt)
zip_push [] (k ∷ ms) l m z h = absurd z
zip_push (x ∷ ls) [] l m z h = absurd z
zip_push (x ∷ ls) (k ∷ ms) l m z h = (z.0, zip_push ls ms l m z.1 h)

pub zip_more : (ls : List Local) (ms new : List (List (List Edge))) (i : ℕ) (l : Local) (m : List (List Edge)) → i < length ls → l ≡ get_or ls i l → AllZip IsCompiled (take i ls) ms → IsCompiled l m → new ≡ ms ++ m ∷ [] → AllZip IsCompiled (take (i + 1) ls) new
zip_more ls ms new i l m n is z h e =
    let more : take i ls ++ l ∷ [] ≡ take (i + 1) ls = ap (λ x. take i ls ++ x ∷ []) is ∙ sym (take_more ls i l n) in
    rw (← more, e) (zip_push (take i ls) ms l m z h)

pub zip_all : (ls : List Local) (ms : List (List (List Edge))) (i : ℕ) → length ls ≤ i → AllZip IsCompiled (take i ls) ms → AllZip IsCompiled ls ms
zip_all ls ms i n z = subst (λ (x : List Local). AllZip IsCompiled x ms) (take_all i ls n) z

zip_length : (ls : List Local) (ms : List (List (List Edge))) → AllZip IsCompiled ls ms → length ls ≡ length ms
zip_length [] [] z = refl
zip_length [] (k ∷ ms) z = absurd z
zip_length (l ∷ ls) [] z = absurd z
zip_length (l ∷ ls) (k ∷ ms) z = ap suc (zip_length ls ms z.1)

zip_at : (ls : List Local) (ms : List (List (List Edge))) (i : ℕ) (d : Local) (m : List (List Edge)) → AllZip IsCompiled ls ms → slice_get ms i ≡ Some m → IsCompiled (get_or ls i d) m
zip_at [] [] i d m z e = absurd (cc)
zip_at [] (k ∷ ms) i d m z e = absurd z
zip_at (l ∷ ls) [] i d m z e = absurd z
zip_at (l ∷ ls) (k ∷ ms) zero d m z e = subst (IsCompiled l) (same_Some k m e) z.0
zip_at (l ∷ ls) (k ∷ ms) (suc i) d m z e = zip_at ls ms i d m z.1 e

pub are_machines : (a : Agreement) (ls : List Local) (ms : List (List (List Edge))) → are_projections a.global a.roles ls ≡ true → AllZip IsCompiled ls ms → AreMachinesOf a ms
are_machines a ls ms p z =
    let long = projections_length a.global a.roles ls p in
    let same = zip_length ls ms z in
    record {
      count = omega arith;
      each = λ i role m here at.
          let within = slice_get_within ms i m at in
          let d : Local = within_some ls i (omega arith) in
          let is = zip_at ls ms i d m z at in
          let named : get_or a.roles i role ≡ role = get_or_from_slice_get a.roles i role role here in
          record {
            local = local_of (get_or ls i d);
            projected = subst (λ x. projection widest x a.global ≡ Some (local_of (get_or ls i d))) named (projection_at a.global a.roles ls i role d p (omega arith));
            machine = is.0;
            follows = is.1;
          };
    }
  where
    within_some : (ls : List Local) (i : ℕ) → suc i ≤ length ls → Local
    within_some [] i h = absurd (omega arith)
    within_some (l ∷ ls) i h = l
