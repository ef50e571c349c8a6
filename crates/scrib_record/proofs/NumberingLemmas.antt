-- Exchanges by number, and the edges of machines by the numbers of their exchanges.
use Rattle.std.proofs.Common.{◌≡◌, ℕ, zero, suc, ◌<◌, List, [], ◌∷◌, ◌++◌, Some, Contains, length, get_or, slice_get, refl, sym, ap, subst, ◌∙◌, arith}
use Rattle.std.specs.List.{AllZip}
use Rattle.std.proofs.lemmas.Option.{same_Some, get_or_from_slice_get, slice_get_within}
use Rattle.scrib_types.specs.declared.message.Message.{Message}
use Rattle.scrib_types.specs.declared.event.Action.{Action}
use Rattle.scrib_types.specs.declared.event.Action.TheVariants as action
use Rattle.scrib_types.specs.declared.event.Event.{Event}
use Rattle.scrib_types.specs.declared.event.Event.TheVariants.{Sent, Received}
use Rattle.scrib_types.specs.Flat.{name_bytes, message_bytes}
use Rattle.scrib_types.specs.FlatEvents.{exchange_bytes}
use Rattle.scrib_types.proofs.FlatFormLemmas.{exchange-injective}
use Rattle.scrib_machine.specs.declared.machine.Edge.{Edge}
use Rattle.scrib_machine.specs.Machines.{Steps}
use Rattle.scrib_record.specs.declared.exchanges.Exchange.{Exchange}
use Rattle.scrib_record.specs.declared.exchanges.Located.{Located}
use Rattle.scrib_record.specs.declared.numbered_edge.NumberedEdge.{NumberedEdge}
use Rattle.scrib_record.specs.declared.numbered_edge.NumberedEdge.TheVariants.{Joins, Sends, Receives}
use Rattle.scrib_record.specs.Configurations.{IsBetween, message_at, message_in}
use Rattle.scrib_record.specs.Exchanges.{IsNumberOf, IsLocated, AreExchanges, IsEdge, HasRow, Numbered, IsNumberingOf, row_of, row_at}
use Rattle.scrib_record.specs.Places.{place_in}
use Rattle.scrib_record.proofs.RolePlaces.{same_role}

-- the bytes of a message from one role to another
abbrev pub bytes_of : List ℕ → List ℕ → Message → List ℕ
bytes_of p q m = name_bytes p ++ name_bytes q ++ message_bytes m

-- an exchange of these roles and this message, between their places
pub record IsOf (roles : List (List ℕ)) (x : Exchange) (p q : List ℕ) (m : Message) : Type 0 where
  pub from : place_in roles p ≡ Some x.from
  pub to : place_in roles q ≡ Some x.to
  pub message : x.message ≡ m

-- two members of a list at one place
one_at : {X : Type 0} (xs : List X) (k : ℕ) (x y : X) → slice_get xs k ≡ Some x → slice_get xs k ≡ Some y → x ≡ y
one_at xs k x y e f = same_Some x y (sym e ∙ f)

pub is_of : (roles : List (List ℕ)) (es : List Exchange) (k : ℕ) (x : Exchange) (p q : List ℕ) (m : Message) → AreExchanges roles es → slice_get es k ≡ Some x → exchange_bytes x.send ≡ bytes_of p q m → IsOf roles x p q m
is_of roles es k x p q m are here same =
    let h = are.each k x here in
    let i = exchange-injective h.sender h.receiver p q x.message m (ap exchange_bytes (sym h.send) ∙ same) in
    record {
      from = subst (λ r. place_in roles r ≡ Some x.from) i.0 h.from;
      to = subst (λ r. place_in roles r ≡ Some x.to) i.1 h.to;
      message = i.2;
    }

-- one exchange, one number
pub same_number : (roles : List (List ℕ)) (es : List Exchange) (d e : Event) (i k : ℕ) → AreExchanges roles es → IsNumberOf es d i → IsNumberOf es e k → exchange_bytes d ≡ exchange_bytes e → i ≡ k
same_number roles es d e i k are m n same =
    are.distinct i k m.exchange m.here record { exchange = n.exchange; here = n.here; same = n.same ∙ sym same ∙ sym m.same }

-- the found exchange of a message
pub record IsFound (roles : List (List ℕ)) (es : List Exchange) (p q : List ℕ) (m : Message) (l : Located) : Type 0 where
  pub from : place_in roles p ≡ Some l.from
  pub to : place_in roles q ≡ Some l.to
  pub number : IsNumberOf es (Sent p q m) l.number
  pub between : IsBetween es l.from l.to l.number
  pub message : message_at es l.number ≡ m

pub is_found : (roles : List (List ℕ)) (es : List Exchange) (p q : List ℕ) (m : Message) (e : Event) (l : Located) → AreExchanges roles es → IsLocated es e l → exchange_bytes e ≡ bytes_of p q m → IsFound roles es p q m l
is_found roles es p q m e l are h same =
    let x = h.exchange in
    let of = is_of roles es l.number x p q m are h.here (h.same ∙ same) in
    record {
      from = of.from ∙ ap Some (sym h.from);
      to = of.to ∙ ap Some (sym h.to);
      number = record { exchange = x; here = h.here; same = h.same ∙ same };
      between = (x, h.here, sym h.from, sym h.to);
      message = ap message_in h.here ∙ of.message;
    }

-- the number of a message between two places is that of its exchange
pub number_between : (roles : List (List ℕ)) (es : List Exchange) (p q : List ℕ) (m : Message) (i j k : ℕ) → AreExchanges roles es → place_in roles p ≡ Some i → place_in roles q ≡ Some j → IsBetween es i j k → message_at es k ≡ m → IsNumberOf es (Sent p q m) k
number_between roles es p q m i j k are from to b is =
    let x = b.0 in
    let h = are.each k x b.1 in
    let sp : h.sender ≡ p = same_role roles h.sender p i (h.from ∙ ap Some b.2) from in
    let rq : h.receiver ≡ q = same_role roles h.receiver q j (h.to ∙ ap Some b.3) to in
    let sm : x.message ≡ m = sym (ap message_in b.1) ∙ is in
    record { exchange = x; here = b.1; same = ap exchange_bytes h.send ∙ (λ t. bytes_of (sp t) (rq t) (sm t)) }

-- lists that agree place by place
pub zip_there : {A B : Type 0} (R : A → B → Type 0) (xs : List A) (ys : List B) (i : ℕ) (y : B) → AllZip R xs ys → slice_get ys i ≡ Some y → (x : A) × (slice_get xs i ≡ Some x) × R x y
zip_there R [] [] i y z e = absurd (cc)
zip_there R [] (w ∷ ys) i y z e = absurd z
zip_there R (v ∷ xs) [] i y z e = absurd z
zip_there R (v ∷ xs) (w ∷ ys) zero y z e = (v, refl, subst (R v) (same_Some w y e) z.0)
zip_there R (v ∷ xs) (w ∷ ys) (suc i) y z e = zip_there R xs ys i y z.1 e

zip_here : {A B : Type 0} (R : A → B → Type 0) (xs : List A) (ys : List B) (i : ℕ) (x : A) → AllZip R xs ys → slice_get xs i ≡ Some x → (y : B) × (slice_get ys i ≡ Some y) × R x y
zip_here R [] [] i x z e = absurd (cc)
zip_here R [] (w ∷ ys) i x z e = absurd z
zip_here R (v ∷ xs) [] i x z e = absurd z
zip_here R (v ∷ xs) (w ∷ ys) zero x z e = (w, refl, subst (λ u. R u w) (same_Some v x e) z.0)
zip_here R (v ∷ xs) (w ∷ ys) (suc i) x z e = zip_here R xs ys i x z.1 e

at_place : {X : Type 0} (xs : List X) (x : X) → Contains xs x → (k : ℕ) × (slice_get xs k ≡ Some x)
at_place xs x h = (h.0, slice_of xs h.0 x h.1 h.2)
  where
    slice_of : {X : Type 0} (xs : List X) (k : ℕ) (x : X) → k < length xs → get_or xs k x ≡ x → slice_get xs k ≡ Some x
    slice_of [] k x l e = absurd (omega arith)
    slice_of (y ∷ xs) zero x l e = ap Some e
    slice_of (y ∷ xs) (suc k) x l e = slice_of xs k x (omega arith) e

contained : {X : Type 0} (xs : List X) (k : ℕ) (x : X) → slice_get xs k ≡ Some x → Contains xs x
contained xs k x e = (k, slice_get_within xs k x e, get_or_from_slice_get xs k x x e)

-- the edges of a state by number
pub record IsRow (es : List Exchange) (role : List ℕ) (m : List (List Edge)) (s : ℕ) (row : List NumberedEdge) : Type 0 where
  pub edges : List Edge
  pub here : slice_get m s ≡ Some edges
  pub zipped : AllZip (IsEdge es role) row edges

pub is_row : (roles : List (List ℕ)) (ms : List (List (List Edge))) (n : Numbered) (role : List ℕ) (i s : ℕ) (m : List (List Edge)) → IsNumberingOf roles ms n.exchanges n.machines → slice_get roles i ≡ Some role → slice_get ms i ≡ Some m → s < length m → IsRow n.exchanges role m s (row_at n.machines i s)
is_row roles ms n role i s m w here at within =
    let rows = w.rows i role m here at in
    let edges = some_at m s within in
    let row = zip_there (AllZip (IsEdge n.exchanges role)) rows.0 m s edges.0 rows.2 edges.1 in
    let rows_are : get_or n.machines i [] ≡ rows.0 = get_or_from_slice_get n.machines i rows.0 [] rows.1 in
    let row_is : row_at n.machines i s ≡ row.0 = ap (λ x. row_of x s) rows_are ∙ get_or_from_slice_get rows.0 s row.0 [] row.1 in
    record { edges = edges.0; here = edges.1; zipped = subst (λ x. AllZip (IsEdge n.exchanges role) x edges.0) (sym row_is) row.2 }
  where
    some_at : {X : Type 0} (xs : List X) (i : ℕ) → i < length xs → (x : X) × (slice_get xs i ≡ Some x)
    some_at [] i h = absurd (omega arith)
    some_at (x ∷ xs) zero h = (x, refl)
    some_at (x ∷ xs) (suc i) h = some_at xs i (omega arith)

-- the machine at the place of a role has rows, one for each state
pub has_row : (roles : List (List ℕ)) (ms : List (List (List Edge))) (n : Numbered) (role : List ℕ) (i s : ℕ) (m : List (List Edge)) → IsNumberingOf roles ms n.exchanges n.machines → slice_get roles i ≡ Some role → slice_get ms i ≡ Some m → s < length m → HasRow n.machines i s
has_row roles ms n role i s m w here at within =
    let rows = w.rows i role m here at in
    let rows_are : get_or n.machines i [] ≡ rows.0 = get_or_from_slice_get n.machines i rows.0 [] rows.1 in
    let long : length (get_or n.machines i []) ≡ length m = ap length rows_are ∙ zip_length (AllZip (IsEdge n.exchanges role)) rows.0 m rows.2 in
    record { place_within = slice_get_within n.machines i rows.0 rows.1; state_within = omega (arith, long, within) }
  where
    zip_length : {A B : Type 0} (R : A → B → Type 0) (xs : List A) (ys : List B) → AllZip R xs ys → length xs ≡ length ys
    zip_length R [] [] z = refl
    zip_length R [] (y ∷ ys) z = absurd z
    zip_length R (x ∷ xs) [] z = absurd z
    zip_length R (x ∷ xs) (y ∷ ys) z = ap suc (zip_length R xs ys z.1)

edge_in : (m : List (List Edge)) (s : ℕ) (edges : List Edge) (a : Action) (n : ℕ) → slice_get m s ≡ Some edges → Steps m s a n → (k : ℕ) × (slice_get edges k ≡ Some record { action = a; next = n })
edge_in m s edges a n here step =
    at_place edges (record { action = a; next = n }) (subst (λ (x : List Edge). Contains x (record { action = a; next = n })) (one_at m s step.edges edges step.here here) step.there)

-- a numbered send is a step of the machine
pub send_steps : (roles : List (List ℕ)) (es : List Exchange) (role q : List ℕ) (x : Message) (m : List (List Edge)) (s k n : ℕ) (row : List NumberedEdge) → AreExchanges roles es → IsRow es role m s row → IsNumberOf es (Sent role q x) k → Contains row (Sends k n) → Steps m s (action.Sends q x) n
send_steps roles es role q x m s k n row are r num h =
    let at = at_place row (Sends k n) h in
    let e = zip_here (IsEdge es role) row r.edges at.0 (Sends k n) r.zipped at.1 in
    let there = e.2.3 in
    let one : num.exchange ≡ there.exchange = one_at es k num.exchange there.exchange num.here there.here in
    let i = exchange-injective role e.2.0 role q e.2.1 x (sym there.same ∙ ap (λ (y : Exchange). exchange_bytes y.send) (sym one) ∙ num.same) in
    let is : e.0 ≡ record { action = action.Sends q x; next = n } = e.2.2 ∙ (λ t. record { action = action.Sends (i.1 t) (i.2 t); next = n }) in
    record { edges = r.edges; here = r.here; there = contained r.edges at.0 _ (e.1 ∙ ap Some is) }

pub reception_steps : (roles : List (List ℕ)) (es : List Exchange) (p role : List ℕ) (x : Message) (m : List (List Edge)) (s k n : ℕ) (row : List NumberedEdge) → AreExchanges roles es → IsRow es role m s row → IsNumberOf es (Received p role x) k → Contains row (Receives k n) → Steps m s (action.Receives p x) n
reception_steps roles es p role x m s k n row are r num h =
    let at = at_place row (Receives k n) h in
    let e = zip_here (IsEdge es role) row r.edges at.0 (Receives k n) r.zipped at.1 in
    let there = e.2.3 in
    let one : num.exchange ≡ there.exchange = one_at es k num.exchange there.exchange num.here there.here in
    let i = exchange-injective e.2.0 role p role e.2.1 x (sym there.same ∙ ap (λ (y : Exchange). exchange_bytes y.send) (sym one) ∙ num.same) in
    let is : e.0 ≡ record { action = action.Receives p x; next = n } = e.2.2 ∙ (λ t. record { action = action.Receives (i.0 t) (i.2 t); next = n }) in
    record { edges = r.edges; here = r.here; there = contained r.edges at.0 _ (e.1 ∙ ap Some is) }

-- each send of a machine has the number of its exchange
pub numbered_send : (es : List Exchange) (role q : List ℕ) (x : Message) (m : List (List Edge)) (s n : ℕ) (row : List NumberedEdge) → IsRow es role m s row → Steps m s (action.Sends q x) n → (k : ℕ) × IsNumberOf es (Sent role q x) k × Contains row (Sends k n)
numbered_send es role q x m s n row r step =
    let at = edge_in m s r.edges (action.Sends q x) n r.here step in
    let e = zip_there (IsEdge es role) row r.edges at.0 _ r.zipped at.1 in
    by at.0 e.0 e.1 e.2
  where
    by : (i : ℕ) (f : NumberedEdge) → slice_get row i ≡ Some f → IsEdge es role f (record { action = action.Sends q x; next = n }) → (k : ℕ) × IsNumberOf es (Sent role q x) k × Contains row (Sends k n)
    by i Joins at h = absurd (cc)
    by i (Sends k j) at h =
        let same : ◌≡◌ {A = Edge} record { action = action.Sends q x; next = n } record { action = action.Sends h.0 h.1; next = j } = h.2 in
        let act : action.Sends q x ≡ action.Sends h.0 h.1 = ap (λ (y : Edge). y.action) same in
        let next : n ≡ j = ap (λ (y : Edge). y.next) same in
        let to : h.0 ≡ q = cc in
        let what : h.1 ≡ x = cc in
        (k, subst (λ y. IsNumberOf es y k) (λ t. Sent role (to t) (what t)) h.3, contained row i _ (at ∙ ap (λ y. Some (Sends k y)) (sym next)))
    by i (Receives k j) at h = absurd (let act : action.Sends q x ≡ action.Receives h.0 h.1 = ap (λ (y : Edge). y.action) h.2 in cc)

pub numbered_reception : (es : List Exchange) (p role : List ℕ) (x : Message) (m : List (List Edge)) (s n : ℕ) (row : List NumberedEdge) → IsRow es role m s row → Steps m s (action.Receives p x) n → (k : ℕ) × IsNumberOf es (Received p role x) k × Contains row (Receives k n)
numbered_reception es p role x m s n row r step =
    let at = edge_in m s r.edges (action.Receives p x) n r.here step in
    let e = zip_there (IsEdge es role) row r.edges at.0 _ r.zipped at.1 in
    by at.0 e.0 e.1 e.2
  where
    by : (i : ℕ) (f : NumberedEdge) → slice_get row i ≡ Some f → IsEdge es role f (record { action = action.Receives p x; next = n }) → (k : ℕ) × IsNumberOf es (Received p role x) k × Contains row (Receives k n)
    by i Joins at h = absurd (cc)
    by i (Sends k j) at h = absurd (let act : action.Receives p x ≡ action.Sends h.0 h.1 = ap (λ (y : Edge). y.action) h.2 in cc)
    by i (Receives k j) at h =
        let same : ◌≡◌ {A = Edge} record { action = action.Receives p x; next = n } record { action = action.Receives h.0 h.1; next = j } = h.2 in
        let act : action.Receives p x ≡ action.Receives h.0 h.1 = ap (λ (y : Edge). y.action) same in
        let next : n ≡ j = ap (λ (y : Edge). y.next) same in
        let from : h.0 ≡ p = cc in
        let what : h.1 ≡ x = cc in
        (k, subst (λ y. IsNumberOf es y k) (λ t. Received (from t) role (what t)) h.3, contained row i _ (at ∙ ap (λ y. Some (Receives k y)) (sym next)))
