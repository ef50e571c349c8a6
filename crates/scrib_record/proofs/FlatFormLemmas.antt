-- The flat form determines its parts.
use Rattle.std.proofs.Common.{◌≡◌, ◌↔◌, IsTrue, Bool, ℕ, List, [], ◌++◌, sym, ap, ◌∙◌, append_assoc, refl}
use Rattle.std.specs.Str.{bytes_eq}
use Rattle.std.proofs.lemmas.Slice.Eq.{bytes_eq-Decides}
use Rattle.scrib_types.specs.Agreement.{Agreement}
use Rattle.scrib_types.specs.Trees.{GlobalEnd, GlobalVar, GlobalRec, Comm, Flight, NoBranch, Branch}
use Rattle.scrib_types.specs.Flat.{number_bytes, name_bytes, names_bytes, message_bytes}
use Rattle.scrib_types.proofs.FlatFormLemmas.{IsPrefixFree, number_bytes-prefix_free, name_bytes-prefix_free, pair-prefix_free, names_bytes-prefix_free, message_bytes-prefix_free}
use Rattle.scrib_record.specs.Flat.{global_bytes, branches_bytes, flat_form}

mutual
  pub globals : IsPrefixFree global_bytes
  globals GlobalEnd GlobalEnd s t e = (refl, cc)
  globals (GlobalVar m) (GlobalVar n) s t e =
      let k : number_bytes m ++ s ≡ number_bytes n ++ t = cc in
      let h = number_bytes-prefix_free m n s t k in (ap GlobalVar h.0, h.1)
  globals (GlobalRec g) (GlobalRec h) s t e =
      let k : global_bytes g ++ s ≡ global_bytes h ++ t = cc in
      let j = globals g h s t k in (ap GlobalRec j.0, j.1)
  globals (Comm p q bs) (Comm u v cs) s t e =
      let k : (name_bytes p ++ (name_bytes q ++ branches_bytes bs)) ++ s ≡ (name_bytes u ++ (name_bytes v ++ branches_bytes cs)) ++ t = cc in
      let f = sym (append_assoc (name_bytes p) (name_bytes q ++ branches_bytes bs) s) ∙ k ∙ append_assoc (name_bytes u) (name_bytes v ++ branches_bytes cs) t in
      let h = name_bytes-prefix_free p u ((name_bytes q ++ branches_bytes bs) ++ s) ((name_bytes v ++ branches_bytes cs) ++ t) f in
      let j = sym (append_assoc (name_bytes q) (branches_bytes bs) s) ∙ h.1 ∙ append_assoc (name_bytes v) (branches_bytes cs) t in
      let l = name_bytes-prefix_free q v (branches_bytes bs ++ s) (branches_bytes cs ++ t) j in
      let m = branches bs cs s t l.1 in
      (λ i. Comm (h.0 i) (l.0 i) (m.0 i), m.1)
  globals (Flight p q a bs) (Flight u v b cs) s t e =
      let k : (name_bytes p ++ (name_bytes q ++ (number_bytes a ++ branches_bytes bs))) ++ s ≡ (name_bytes u ++ (name_bytes v ++ (number_bytes b ++ branches_bytes cs))) ++ t = cc in
      let f = sym (append_assoc (name_bytes p) (name_bytes q ++ (number_bytes a ++ branches_bytes bs)) s) ∙ k ∙ append_assoc (name_bytes u) (name_bytes v ++ (number_bytes b ++ branches_bytes cs)) t in
      let h = name_bytes-prefix_free p u ((name_bytes q ++ (number_bytes a ++ branches_bytes bs)) ++ s) ((name_bytes v ++ (number_bytes b ++ branches_bytes cs)) ++ t) f in
      let j = sym (append_assoc (name_bytes q) (number_bytes a ++ branches_bytes bs) s) ∙ h.1 ∙ append_assoc (name_bytes v) (number_bytes b ++ branches_bytes cs) t in
      let l = name_bytes-prefix_free q v ((number_bytes a ++ branches_bytes bs) ++ s) ((number_bytes b ++ branches_bytes cs) ++ t) j in
      let x = sym (append_assoc (number_bytes a) (branches_bytes bs) s) ∙ l.1 ∙ append_assoc (number_bytes b) (branches_bytes cs) t in
      let y = number_bytes-prefix_free a b (branches_bytes bs ++ s) (branches_bytes cs ++ t) x in
      let m = branches bs cs s t y.1 in
      (λ i. Flight (h.0 i) (l.0 i) (y.0 i) (m.0 i), m.1)
  globals GlobalEnd (GlobalVar n) s t e = absurd (cc)
  globals GlobalEnd (GlobalRec h) s t e = absurd (cc)
  globals GlobalEnd (Comm u v cs) s t e = absurd (cc)
  globals GlobalEnd (Flight u v b cs) s t e = absurd (cc)
  globals (GlobalVar m) GlobalEnd s t e = absurd (cc)
  globals (GlobalVar m) (GlobalRec h) s t e = absurd (cc)
  globals (GlobalVar m) (Comm u v cs) s t e = absurd (cc)
  globals (GlobalVar m) (Flight u v b cs) s t e = absurd (cc)
  globals (GlobalRec g) GlobalEnd s t e = absurd (cc)
  globals (GlobalRec g) (GlobalVar n) s t e = absurd (cc)
  globals (GlobalRec g) (Comm u v cs) s t e = absurd (cc)
  globals (GlobalRec g) (Flight u v b cs) s t e = absurd (cc)
  globals (Comm p q bs) GlobalEnd s t e = absurd (cc)
  globals (Comm p q bs) (GlobalVar n) s t e = absurd (cc)
  globals (Comm p q bs) (GlobalRec h) s t e = absurd (cc)
  globals (Comm p q bs) (Flight u v b cs) s t e = absurd (cc)
  globals (Flight p q a bs) GlobalEnd s t e = absurd (cc)
  globals (Flight p q a bs) (GlobalVar n) s t e = absurd (cc)
  globals (Flight p q a bs) (GlobalRec h) s t e = absurd (cc)
  globals (Flight p q a bs) (Comm u v cs) s t e = absurd (cc)

  pub branches : IsPrefixFree branches_bytes
  branches NoBranch NoBranch s t e = (refl, cc)
  branches NoBranch (Branch n h cs) s t e = absurd (cc)
  branches (Branch m g bs) NoBranch s t e = absurd (cc)
  branches (Branch m g bs) (Branch n h cs) s t e =
      let k : (message_bytes m ++ (global_bytes g ++ branches_bytes bs)) ++ s ≡ (message_bytes n ++ (global_bytes h ++ branches_bytes cs)) ++ t = cc in
      let f = sym (append_assoc (message_bytes m) (global_bytes g ++ branches_bytes bs) s) ∙ k ∙ append_assoc (message_bytes n) (global_bytes h ++ branches_bytes cs) t in
      let a = message_bytes-prefix_free m n ((global_bytes g ++ branches_bytes bs) ++ s) ((global_bytes h ++ branches_bytes cs) ++ t) f in
      let j = sym (append_assoc (global_bytes g) (branches_bytes bs) s) ∙ a.1 ∙ append_assoc (global_bytes h) (branches_bytes cs) t in
      let b = globals g h (branches_bytes bs ++ s) (branches_bytes cs ++ t) j in
      let d = branches bs cs s t b.1 in
      (λ i. Branch (a.0 i) (b.0 i) (d.0 i), d.1)

-- equal flat forms have equal meanings
pub flat_form-injective : (a b : Agreement) → flat_form a ≡ flat_form b → a ≡ b
unfolding flat_form
flat_form-injective a b e =
    let h = pair-prefix_free names_bytes global_bytes names_bytes-prefix_free globals a.roles b.roles a.global b.global [] [] (ap (λ x. x ++ []) e) in
    λ i. record { roles = h.0 i; global = h.1 i }

-- a test of flat forms is a test of meanings
pub same_by_form : (r : Bool) (x y : List ℕ) (a b : Agreement) → IsTrue r ↔ (x ≡ y) → x ≡ flat_form a → y ≡ flat_form b → IsTrue r ↔ (a ≡ b)
same_by_form r x y a b e p q = (
  λ h. flat_form-injective a b (sym p ∙ e.0 h ∙ q),
  λ h. e.1 (p ∙ ap flat_form h ∙ sym q),
)

pub same_form : (r : Bool) (x y : List ℕ) (a b : Agreement) → r ≡ bytes_eq x y → x ≡ flat_form a → y ≡ flat_form b → IsTrue r ↔ (a ≡ b)
same_form r x y a b e p q =
    same_by_form r x y a b (λ h. (bytes_eq-Decides x y).0 (sym e ∙ h), λ h. e ∙ (bytes_eq-Decides x y).1 h) p q
