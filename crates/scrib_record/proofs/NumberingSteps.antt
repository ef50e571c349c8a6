-- Exchanges and edges while they are numbered.
use Rattle.std.proofs.Common.{◌≡◌, ◌⊎◌, Bool, true, false, if◌then◌else◌, true≢false, ℕ, zero, suc, ◌+◌, ◌<◌, ◌≤◌, List, [], ◌∷◌, ◌++◌, Some, length, get_or, nat_lt, slice_get, take, refl, sym, ap, subst, ◌∙◌, inl, inr, arith}
use Rattle.std.specs.Bool.{Decides}
use Rattle.std.specs.List.{AllZip, list_any}
use Rattle.std.specs.Str.{bytes_eq}
use Rattle.std.proofs.lemmas.Bool.{cases_Bool, ltb-true, ltb-false}
use Rattle.std.proofs.lemmas.List.{take_more, take_all, length-append}
use Rattle.std.proofs.lemmas.List.Folds.{list_any_at}
use Rattle.std.proofs.lemmas.Option.{same_Some, slice_get_within, get_or_from_slice_get}
use Rattle.std.proofs.lemmas.Slice.Eq.{bytes_eq-Decides}
use Rattle.indexmap.specs.IndexSet.{insert_key}
use Rattle.scrib_types.specs.declared.event.Event.{Event}
use Rattle.scrib_types.specs.declared.event.Event.TheVariants.{Sent}
use Rattle.scrib_types.specs.FlatEvents.{event_bytes, exchange_bytes}
use Rattle.scrib_types.proofs.FlatFormLemmas.{event_bytes-injective, exchange-injective}
use Rattle.scrib_machine.specs.declared.machine.Edge.{Edge}
use Rattle.scrib_record.specs.declared.exchanges.Exchange.{Exchange}
use Rattle.scrib_record.specs.declared.numbered_edge.NumberedEdge.{NumberedEdge}
use Rattle.scrib_record.specs.declared.numbered_edge.NumberedEdge.TheVariants.{Joins, Sends, Receives}
use Rattle.scrib_record.specs.Exchanges.{send_bytes, IsExchange, IsNumberOf, IsAbsent, IsNew, AreMore, AreExchanges, KeepsNumbers, IsEdge, AreRows, IsNumberingOf}

pub there_left : {X : Type 0} (xs ys : List X) (k : ℕ) (x : X) → slice_get xs k ≡ Some x → slice_get (xs ++ ys) k ≡ Some x
there_left [] ys k x e = absurd (cc)
there_left (y ∷ xs) ys zero x e = e
there_left (y ∷ xs) ys (suc k) x e = there_left xs ys k x e

pub there_last : {X : Type 0} (xs : List X) (x : X) → slice_get (xs ++ x ∷ []) (length xs) ≡ Some x
there_last [] x = refl
there_last (y ∷ xs) x = there_last xs x

pub there_either : {X : Type 0} (xs : List X) (x y : X) (k : ℕ) → slice_get (xs ++ x ∷ []) k ≡ Some y → (slice_get xs k ≡ Some y) ⊎ ((k ≡ length xs) × (x ≡ y))
there_either [] x y zero e = inr (refl, same_Some x y e)
there_either [] x y (suc k) e = absurd (cc)
there_either (z ∷ xs) x y zero e = inl e
there_either (z ∷ xs) x y (suc k) e = elim (there_either xs x y k e) [
  | inl h ↦ inl h
  | inr h ↦ inr (ap suc h.0, h.1)
]

-- one more exchange
number_either : (es : List Exchange) (x : Exchange) (e : Event) (k : ℕ) → IsNumberOf (es ++ x ∷ []) e k → IsNumberOf es e k ⊎ ((k ≡ length es) × IsNumberOf (es ++ x ∷ []) e (length es))
number_either es x e k h = elim (there_either es x h.exchange k h.here) [
  | inl i ↦ inl record { exchange = h.exchange; here = i; same = h.same }
  | inr i ↦ inr (i.0, subst (IsNumberOf (es ++ x ∷ []) e) i.0 h)
]

-- an event of the last exchange
last_bytes : (es : List Exchange) (x : Exchange) (e : Event) → IsNumberOf (es ++ x ∷ []) e (length es) → (k : ℕ) → IsNumberOf es e k → IsNumberOf es x.send k
last_bytes es x e last k h =
    let is : x ≡ last.exchange = same_Some x last.exchange (sym (there_last es x) ∙ last.here) in
    record { exchange = h.exchange; here = h.here; same = h.same ∙ sym last.same ∙ ap (λ (y : Exchange). exchange_bytes y.send) (sym is) }

-- a comparison of exchanges decides equality of their sends
pub same_send : (x y : Exchange) → Decides (bytes_eq (send_bytes x) (send_bytes y)) (x.send ≡ y.send)
same_send x y =
    let d = bytes_eq-Decides (send_bytes x) (send_bytes y) in
    (λ t. event_bytes-injective x.send y.send (d.0 t), λ e. d.1 (ap event_bytes e))

-- what an insertion into a set leaves
pub inserted : (old new : List Exchange) (x : Exchange) → new ≡ insert_key (λ y z. bytes_eq (send_bytes y) (send_bytes z)) old x → AreMore old x new
inserted old new x e = by (list_any (λ y. bytes_eq (send_bytes x) (send_bytes y)) old) refl e
  where
    by : (b : Bool) → list_any (λ y. bytes_eq (send_bytes x) (send_bytes y)) old ≡ b → new ≡ (if b then old else old ++ x ∷ []) → AreMore old x new
    by true found is = inl is
    by false found is = inr (
      λ k y at same. true≢false (sym (list_any_at (λ z. bytes_eq (send_bytes x) (send_bytes z)) old k y (slice_get_within old k y at)
          (ap (λ z. bytes_eq (send_bytes x) (send_bytes z)) (get_or_from_slice_get old k y y at) ∙ (same_send x y).1 (sym same))) ∙ found),
      is,
    )

-- an exchange with a new send is absent
absent : (roles : List (List ℕ)) (es : List Exchange) (x : Exchange) → IsExchange roles x → AreExchanges roles es → IsNew es x.send → IsAbsent es x.send
absent roles es x is are new k h =
    let y = h.exchange in
    let d = are.each k y h.here in
    let i = exchange-injective d.sender d.receiver is.sender is.receiver y.message x.message (ap exchange_bytes (sym d.send) ∙ h.same ∙ ap exchange_bytes is.send) in
    new k y h.here (d.send ∙ (λ t. Sent (i.0 t) (i.1 t) (i.2 t)) ∙ sym is.send)

pub more_exchanges : (roles : List (List ℕ)) (old new : List Exchange) (x : Exchange) → IsExchange roles x → AreExchanges roles old → AreMore old x new → AreExchanges roles new
more_exchanges roles old new x is are (inl same) = subst (AreExchanges roles) (sym same) are
more_exchanges roles old new x is are (inr more) = subst (AreExchanges roles) (sym more.1) record { each = each; distinct = distinct }
  where
    none : IsAbsent old x.send
    none = absent roles old x is are more.0

    each : (k : ℕ) (y : Exchange) → slice_get (old ++ x ∷ []) k ≡ Some y → IsExchange roles y
    each k y e = elim (there_either old x y k e) [
      | inl h ↦ are.each k y h
      | inr h ↦ subst (IsExchange roles) h.1 is
    ]

    distinct : (i k : ℕ) (y : Exchange) → slice_get (old ++ x ∷ []) i ≡ Some y → IsNumberOf (old ++ x ∷ []) y.send k → i ≡ k
    distinct i k y e h = elim (there_either old x y i e) [
      | inl a ↦ elim (number_either old x y.send k h) [
        | inl b ↦ are.distinct i k y a b
        | inr b ↦ absurd (none i (last_bytes old x y.send b.1 i record { exchange = y; here = a; same = refl }))
      ]
      | inr a ↦ elim (number_either old x y.send k h) [
        | inl b ↦ absurd (none k record { exchange = b.exchange; here = b.here; same = b.same ∙ ap (λ (z : Exchange). exchange_bytes z.send) (sym a.1) })
        | inr b ↦ a.0 ∙ sym b.0
      ]
    ]

pub more_kept : (old new : List Exchange) (x : Exchange) → AreMore old x new → KeepsNumbers old new
more_kept old new x (inl same) k y e = subst (λ (es : List Exchange). slice_get es k ≡ Some y) (sym same) e
more_kept old new x (inr more) k y e = subst (λ (es : List Exchange). slice_get es k ≡ Some y) (sym more.1) (there_left old (x ∷ []) k y e)

-- what was numbered keeps its numbers
number_kept : (old new : List Exchange) (e : Event) (k : ℕ) → KeepsNumbers old new → IsNumberOf old e k → IsNumberOf new e k
number_kept old new e k kept h = record { exchange = h.exchange; here = kept k h.exchange h.here; same = h.same }

edge_kept : (old new : List Exchange) (role : List ℕ) (f : NumberedEdge) (e : Edge) → KeepsNumbers old new → IsEdge old role f e → IsEdge new role f e
edge_kept old new role Joins e kept h = h
edge_kept old new role (Sends k n) e kept h = (h.0, h.1, h.2, number_kept old new _ k kept h.3)
edge_kept old new role (Receives k n) e kept h = (h.0, h.1, h.2, number_kept old new _ k kept h.3)

zip_weaker : {A B : Type 0} (P Q : A → B → Type 0) (xs : List A) (ys : List B) → ((x : A) (y : B) → P x y → Q x y) → AllZip P xs ys → AllZip Q xs ys
zip_weaker P Q [] [] f h = tt
zip_weaker P Q [] (y ∷ ys) f h = absurd h
zip_weaker P Q (x ∷ xs) [] f h = absurd h
zip_weaker P Q (x ∷ xs) (y ∷ ys) f h = (f x y h.0, zip_weaker P Q xs ys f h.1)

pub row_kept : (old new : List Exchange) (role : List ℕ) (row : List NumberedEdge) (edges : List Edge) → KeepsNumbers old new → AllZip (IsEdge old role) row edges → AllZip (IsEdge new role) row edges
row_kept old new role row edges kept = zip_weaker (IsEdge old role) (IsEdge new role) row edges (λ f e. edge_kept old new role f e kept)

pub rows_kept : (old new : List Exchange) (role : List ℕ) (rows : List (List NumberedEdge)) (m : List (List Edge)) → KeepsNumbers old new → AreRows old role rows m → AreRows new role rows m
rows_kept old new role rows m kept =
    zip_weaker (AllZip (IsEdge old role)) (AllZip (IsEdge new role)) rows m (λ row edges. row_kept old new role row edges kept)

pub kept_again : (a b c : List Exchange) → KeepsNumbers a b → KeepsNumbers b c → KeepsNumbers a c
kept_again a b c f g k x e = g k x (f k x e)

pub kept_itself : (a : List Exchange) → KeepsNumbers a a
kept_itself a k x e = e

-- one more item of each list
zip_push : {A B : Type 0} (R : A → B → Type 0) (xs : List A) (ys : List B) (x : A) (y : B) → AllZip R xs ys → R x y → AllZip R (xs ++ x ∷ []) (ys ++ y ∷ [])
zip_push R [] [] x y z h = (h, tt)
zip_push R [] (w ∷ ys) x y z h = absurd z
zip_push R (v ∷ xs) [] x y z h = absurd z
zip_push R (v ∷ xs) (w ∷ ys) x y z h = (z.0, zip_push R xs ys x y z.1 h)

pub zip_on : {A B : Type 0} (R : A → B → Type 0) (old new : List A) (ys : List B) (i : ℕ) (x : A) (y : B) → i < length ys → y ≡ get_or ys i y → AllZip R old (take i ys) → R x y → new ≡ old ++ x ∷ [] → AllZip R new (take (i + 1) ys)
zip_on R old new ys i x y n is z h e =
    let more : take i ys ++ y ∷ [] ≡ take (i + 1) ys = ap (λ v. take i ys ++ v ∷ []) is ∙ sym (take_more ys i y n) in
    rw (← more, e) (zip_push R old (take i ys) x y z h)

pub zip_end : {A B : Type 0} (R : A → B → Type 0) (xs : List A) (ys : List B) (i : ℕ) → length ys ≤ i → AllZip R xs (take i ys) → AllZip R xs ys
zip_end R xs ys i n z = subst (AllZip R xs) (take_all i ys n) z

-- the machines of the first so many roles
pub record AreNumbered (roles : List (List ℕ)) (ms : List (List (List Edge))) (es : List Exchange) (ns : List (List (List NumberedEdge))) (n : ℕ) : Type 0 where
  pub exchanges : AreExchanges roles es
  pub count : length ns ≡ n
  pub rows : (i : ℕ) (role : List ℕ) (m : List (List Edge)) → i < n → slice_get roles i ≡ Some role → slice_get ms i ≡ Some m → (rows : List (List NumberedEdge)) × (slice_get ns i ≡ Some rows) × AreRows es role rows m

no_exchange : {X : Type 0} (k : ℕ) (x : X) → slice_get [] k ≡ Some x → ⊥
no_exchange k x e = absurd (cc)

pub numbered_none : (roles : List (List ℕ)) (ms : List (List (List Edge))) (es : List Exchange) (ns : List (List (List NumberedEdge))) → es ≡ [] → ns ≡ [] → AreNumbered roles ms es ns 0
numbered_none roles ms es ns e f = record {
  exchanges = subst (AreExchanges roles) (sym e) record { each = λ k x h. absurd (no_exchange k x h); distinct = λ i k x h g. absurd (no_exchange i x h) };
  count = ap length f;
  rows = λ i role m n a b. absurd (omega (arith, n));
}

pub numbered_more : (roles : List (List ℕ)) (ms : List (List (List Edge))) (old new : List Exchange) (before after : List (List (List NumberedEdge))) (n : ℕ) (role : List ℕ) (m : List (List Edge)) (rows : List (List NumberedEdge)) → slice_get roles n ≡ Some role → slice_get ms n ≡ Some m → AreNumbered roles ms old before n → AreExchanges roles new → KeepsNumbers old new → AreRows new role rows m → after ≡ before ++ rows ∷ [] → AreNumbered roles ms new after (n + 1)
numbered_more roles ms old new before after n role m rows here at w are kept h e = record {
  exchanges = are;
  count = ap length e ∙ length-append before (rows ∷ []) ∙ ap (λ k. k + 1) w.count;
  rows = λ i r k less a b. elim (last_or i less) [
    | inl under ↦
        let f = w.rows i r k under a b in
        (f.0, ap (λ (x : List (List (List NumberedEdge))). slice_get x i) e ∙ there_left before (rows ∷ []) i f.0 f.1, rows_kept old new r f.0 k kept f.2)
    | inr is ↦
        let same_role : role ≡ r = same_Some role r (sym here ∙ ap (slice_get roles) (sym is) ∙ a) in
        let same_machine : m ≡ k = same_Some m k (sym at ∙ ap (slice_get ms) (sym is) ∙ b) in
        (rows, ap (λ (x : List (List (List NumberedEdge))). slice_get x i) e ∙ ap (slice_get (before ++ rows ∷ [])) (is ∙ sym w.count) ∙ there_last before rows, subst (λ y. AreRows new r rows y) same_machine (subst (λ y. AreRows new y rows m) same_role h))
  ];
}
  where
    last_or : (i : ℕ) → i < n + 1 → (i < n) ⊎ (i ≡ n)
    last_or i less = elim (cases_Bool (nat_lt i n)) [
      | inl b ↦ inl (ltb-true i n b)
      | inr b ↦ let past = ltb-false i n b in inr (omega (arith, past, less))
    ]

pub numbered_all : (roles : List (List ℕ)) (ms : List (List (List Edge))) (es : List Exchange) (ns : List (List (List NumberedEdge))) (n : ℕ) → length ms ≡ n → AreNumbered roles ms es ns n → IsNumberingOf roles ms es ns
numbered_all roles ms es ns n long w = record {
  exchanges = w.exchanges;
  count = w.count ∙ sym long;
  rows = λ i role m a b. w.rows i role m (omega (arith, long, slice_get_within ms i m b)) a b;
}
