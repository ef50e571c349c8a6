-- The names at numbers, and the numbers of names.
use Rattle.std.proofs.Common.{◌≡◌, ◌≢◌, ◌∙◌, inl, inr, ℕ, List, Option, Some, None, Bool, true, cond, sym, ap, subst}
use Rattle.std.specs.Prelude.{String, string_bytes, option_map}
use Rattle.std.specs.declared.alloc.Global.{Global}
use Rattle.std.specs.HashMap.{HashMap, get_by_text}
use Rattle.std.specs.Map.{update}
use Rattle.std.specs.Str.{bytes_eq}
use Rattle.std.proofs.lemmas.Bool.{cases_Bool, cases_eq}
use Rattle.std.proofs.lemmas.Slice.Eq.{bytes_eq-Decides}
use Rattle.slab.specs.Slab.{Slab, get, Updates}
use Rattle.scrib_labels.specs.NameSlots.{name_at}
use Rattle.scrib_labels.specs.SessionNames.{is_session_name}

-- the name at a number that did not change
same-at : (s t : Slab (String Global)) (k number : ℕ) (o : Option (String Global)) → Updates s t k o → number ≢ k → name_at t number ≡ name_at s number
same-at s t k number o u d = ap (option_map string_bytes) (u.others number d)

some-name : (a b : List ℕ) → Some a ≡ Some b → a ≡ b
some-name a b e = cc

some-number : (a b : ℕ) → Some a ≡ Some b → a ≡ b
some-number a b e = cc

-- the name at a number, by what is there
pub name_there : (s : Slab (String Global)) (k : ℕ) (v : String Global) (name : List ℕ) → get s k ≡ Some v → string_bytes v ≡ name → name_at s k ≡ Some name
name_there s k v name e is = ap (option_map string_bytes) e ∙ ap Some is

module _ {S : Type 0} where
  -- each name with a number is at that number
  abbrev pub Kept : Slab (String Global) → HashMap (String Global) ℕ S → Type 0
  Kept s m = (name : List ℕ) (number : ℕ) → get_by_text m name ≡ Some number → name_at s number ≡ Some name

  -- a name and its number are taken away
  pub kept_removed : (s t : Slab (String Global)) (m n : HashMap (String Global) ℕ S) (gone : List ℕ) (k : ℕ) → Kept s m → get_by_text m gone ≡ Some k
      → ((cs : List ℕ) → get_by_text n cs ≡ update bytes_eq (get_by_text m) gone None cs) → Updates s t k None → Kept t n
  kept_removed s t m n gone k kept at upd u = λ name number e.
      elim (cases_Bool (bytes_eq gone name)) [
        | inl same ↦
            let gives : get_by_text n name ≡ None = upd name ∙ ap (λ (b : Bool). cond b None (get_by_text m name)) same in
            absurd (cc)
        | inr apart ↦
            let was : get_by_text m name ≡ Some number = sym (upd name ∙ ap (λ (b : Bool). cond b None (get_by_text m name)) apart) ∙ e in
            let differs : number ≢ k = λ (q : number ≡ k).
            let both : Some name ≡ Some gone = sym (kept name number was) ∙ ap (name_at s) q ∙ kept gone k at in
            let true_too = (bytes_eq-Decides gone name).1 (sym (some-name name gone both)) in
            absurd (cc) in
            same-at s t k number None u differs ∙ kept name number was
      ]

  -- a name gets a number
  pub kept_added : (s t : Slab (String Global)) (m n : HashMap (String Global) ℕ S) (given : List ℕ) (k : ℕ) (v : String Global) → Kept s m → get s k ≡ None
      → ((cs : List ℕ) → get_by_text n cs ≡ update bytes_eq (get_by_text m) given (Some k) cs) → string_bytes v ≡ given → Updates s t k (Some v) → Kept t n
  kept_added s t m n given k v kept free upd is u = λ name number e.
      elim (cases_Bool (bytes_eq given name)) [
        | inl same ↦
            let gives : get_by_text n name ≡ Some k = upd name ∙ ap (λ (b : Bool). cond b (Some k) (get_by_text m name)) same in
            let q : number ≡ k = cc in
            let text : given ≡ name = (bytes_eq-Decides given name).0 same in
            ap (name_at t) q ∙ ap (option_map string_bytes) u.changed ∙ ap Some (is ∙ text)
        | inr apart ↦
            let was : get_by_text m name ≡ Some number = sym (upd name ∙ ap (λ (b : Bool). cond b (Some k) (get_by_text m name)) apart) ∙ e in
            let differs : number ≢ k = λ (q : number ≡ k).
            let here : name_at s k ≡ None = ap (option_map string_bytes) free in
            let there : name_at s k ≡ Some name = sym (ap (name_at s) q) ∙ kept name number was in
            absurd (cc) in
            same-at s t k number (Some v) u differs ∙ kept name number was
      ]

  -- a number that is at no name's
  pub kept_vacant : (s : Slab (String Global)) (m : HashMap (String Global) ℕ S) (k : ℕ) → Kept s m → get s k ≡ None → (name : List ℕ) → get_by_text m name ≢ Some k
  kept_vacant s m k kept free name at =
      let here : name_at s k ≡ None = ap (option_map string_bytes) free in
      let there : name_at s k ≡ Some name = kept name k at in
      absurd (cc)

  -- only names of conversations have numbers
  abbrev pub Named : HashMap (String Global) ℕ S → Type 0
  Named m = (name : List ℕ) (number : ℕ) → get_by_text m name ≡ Some number → is_session_name name ≡ true

  -- what a name of a conversation has is changed
  pub named_updated : (m n : HashMap (String Global) ℕ S) (at : List ℕ) (w : Option ℕ) → Named m → is_session_name at ≡ true → ((cs : List ℕ) → get_by_text n cs ≡ update bytes_eq (get_by_text m) at w cs) → Named n
  named_updated m n at w named is upd name number e =
      elim (cases_Bool (bytes_eq at name)) [
        | inl same ↦ subst (λ (t : List ℕ). is_session_name t ≡ true) ((bytes_eq-Decides at name).0 same) is
        | inr apart ↦ named name number (sym (upd name ∙ ap (λ (b : Bool). cond b w (get_by_text m name)) apart) ∙ e)
      ]

  -- each name at a number has that number
  abbrev pub Found : Slab (String Global) → HashMap (String Global) ℕ S → Type 0
  Found s m = (name : List ℕ) (number : ℕ) → name_at s number ≡ Some name → get_by_text m name ≡ Some number

  -- a name and its number are taken away
  pub found_removed : (s t : Slab (String Global)) (m n : HashMap (String Global) ℕ S) (gone : List ℕ) (k : ℕ) → Found s m → get_by_text m gone ≡ Some k
      → ((cs : List ℕ) → get_by_text n cs ≡ update bytes_eq (get_by_text m) gone None cs) → Updates s t k None → Found t n
  found_removed s t m n gone k found at upd u = λ name number e.
      elim (cases_eq number k) [
        | inl same ↦
            let none : name_at t number ≡ None = ap (name_at t) same ∙ ap (option_map string_bytes) u.changed in
            absurd (cc)
        | inr differs ↦
            let was : get_by_text m name ≡ Some number = found name number (sym (same-at s t k number None u differs) ∙ e) in
            elim (cases_Bool (bytes_eq gone name)) [
              | inl same ↦
                  let text : gone ≡ name = (bytes_eq-Decides gone name).0 same in
                  absurd (differs (some-number number k (sym was ∙ ap (get_by_text m) (sym text) ∙ at)))
              | inr apart ↦ upd name ∙ ap (λ (b : Bool). cond b None (get_by_text m name)) apart ∙ was
            ]
      ]

  -- a name gets a number
  pub found_added : (s t : Slab (String Global)) (m n : HashMap (String Global) ℕ S) (given : List ℕ) (k : ℕ) (v : String Global) → Found s m → get_by_text m given ≡ None
      → ((cs : List ℕ) → get_by_text n cs ≡ update bytes_eq (get_by_text m) given (Some k) cs) → string_bytes v ≡ given → Updates s t k (Some v) → Found t n
  found_added s t m n given k v found free upd is u = λ name number e.
      elim (cases_eq number k) [
        | inl same ↦
            let here : name_at t number ≡ Some given = ap (name_at t) same ∙ ap (option_map string_bytes) u.changed ∙ ap Some is in
            let text : given ≡ name = some-name given name (sym here ∙ e) in
            upd name ∙ ap (λ (b : Bool). cond b (Some k) (get_by_text m name)) ((bytes_eq-Decides given name).1 text) ∙ ap Some (sym same)
        | inr differs ↦
            let was : get_by_text m name ≡ Some number = found name number (sym (same-at s t k number (Some v) u differs) ∙ e) in
            elim (cases_Bool (bytes_eq given name)) [
              | inl same ↦
                  let text : given ≡ name = (bytes_eq-Decides given name).0 same in
                  let none : get_by_text m name ≡ None = ap (get_by_text m) (sym text) ∙ free in
                  absurd (cc)
              | inr apart ↦ upd name ∙ ap (λ (b : Bool). cond b (Some k) (get_by_text m name)) apart ∙ was
            ]
      ]
