-- Codes of names, messages and local trees. Two trees are the same where their codes are.
use Rattle.std.specs.Prelude.{◌≡◌, ℕ, List, Option, refl}
use Rattle.std.proofs.Common.{ap}
use Rattle.std.specs.Coded.{Coded, code_by, coded×, coded_ℕ, coded_list, coded_option}
use base.Stored.{Gv, gnil, gnum, gcons}
use Rattle.scrib_types.specs.declared.message.Message.{Message}
use Rattle.scrib_types.specs.Trees.{LocalTree, LocalEnd, LocalVar, LocalRec, Send, Recv, LocalBranches, NoChoice, Choice}

-- the code of a name
abbrev pub coded_name : Coded (List ℕ)
coded_name = coded_list coded_ℕ

-- the code of a message
abbrev pub coded_message : Coded Message
coded_message =
    code_by (Option (List ℕ) × List (List (List ℕ)))
    (coded× (coded_option coded_name) (coded_list (coded_list coded_name))) (λ m. (m.op, m.payload))
    (λ p. record { op = p.0; payload = p.1 }) (λ _. refl)

abbrev num : Gv → ℕ
num gnil = 0
num (gnum n) = n
num (gcons a b) = 0

abbrev head : Gv → Gv
head gnil = gnil
head (gnum n) = gnil
head (gcons a b) = a

abbrev tail : Gv → Gv
tail gnil = gnil
tail (gnum n) = gnil
tail (gcons a b) = b

abbrev mutual
  pub local_code : LocalTree → Gv
  local_code LocalEnd = gcons (gnum 0) gnil
  local_code (LocalVar n) = gcons (gnum 1) (gnum n)
  local_code (LocalRec l) = gcons (gnum 2) (local_code l)
  local_code (Send q bs) = gcons (gnum 3) (gcons (coded_name.code q) (branches_code bs))
  local_code (Recv p bs) = gcons (gnum 4) (gcons (coded_name.code p) (branches_code bs))

  pub branches_code : LocalBranches → Gv
  branches_code NoChoice = gcons (gnum 0) gnil
  branches_code (Choice m l bs) =
      gcons (gnum 1) (gcons (coded_message.code m) (gcons (local_code l) (branches_code bs)))

mutual
  -- one code, one tree
  pub local_code-injective : (x y : LocalTree) → local_code x ≡ local_code y → x ≡ y
  local_code-injective LocalEnd LocalEnd p = refl
  local_code-injective (LocalVar m) (LocalVar n) p = ap (λ g. LocalVar (num (tail g))) p
  local_code-injective (LocalRec g) (LocalRec h) p = ap LocalRec (local_code-injective g h (ap tail p))
  local_code-injective (Send p bs) (Send q cs) e =
      λ i. Send (coded_name.inj p q (ap (λ g. head (tail g)) e) i)
      (branches_code-injective bs cs (ap (λ g. tail (tail g)) e) i)
  local_code-injective (Recv p bs) (Recv q cs) e =
      λ i. Recv (coded_name.inj p q (ap (λ g. head (tail g)) e) i)
      (branches_code-injective bs cs (ap (λ g. tail (tail g)) e) i)
  local_code-injective LocalEnd (LocalVar k) p = cc
  local_code-injective LocalEnd (LocalRec k) p = cc
  local_code-injective LocalEnd (Send k j) p = cc
  local_code-injective LocalEnd (Recv k j) p = cc
  local_code-injective (LocalVar m) LocalEnd p = cc
  local_code-injective (LocalVar m) (LocalRec k) p = cc
  local_code-injective (LocalVar m) (Send k j) p = cc
  local_code-injective (LocalVar m) (Recv k j) p = cc
  local_code-injective (LocalRec m) LocalEnd p = cc
  local_code-injective (LocalRec m) (LocalVar k) p = cc
  local_code-injective (LocalRec m) (Send k j) p = cc
  local_code-injective (LocalRec m) (Recv k j) p = cc
  local_code-injective (Send m n) LocalEnd p = cc
  local_code-injective (Send m n) (LocalVar k) p = cc
  local_code-injective (Send m n) (LocalRec k) p = cc
  local_code-injective (Send m n) (Recv k j) p = cc
  local_code-injective (Recv m n) LocalEnd p = cc
  local_code-injective (Recv m n) (LocalVar k) p = cc
  local_code-injective (Recv m n) (LocalRec k) p = cc
  local_code-injective (Recv m n) (Send k j) p = cc

  pub branches_code-injective : (x y : LocalBranches) → branches_code x ≡ branches_code y → x ≡ y
  branches_code-injective NoChoice NoChoice p = refl
  branches_code-injective (Choice m g bs) (Choice n h cs) e =
      λ i. Choice (coded_message.inj m n (ap (λ g. head (tail g)) e) i)
      (local_code-injective g h (ap (λ g. head (tail (tail g))) e) i)
      (branches_code-injective bs cs (ap (λ g. tail (tail (tail g))) e) i)
  branches_code-injective NoChoice (Choice m g bs) p = cc
  branches_code-injective (Choice m g bs) NoChoice p = cc
