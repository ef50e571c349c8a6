-- The protocols of the tests.
use Rattle.std.proofs.Common.{◌≡◌, true, ℕ, List, [], ◌∷◌, ◌++◌, Some, codes, refl, ap, ◌∙◌}
use Rattle.scrib_types.specs.declared.message.Message.{Message}
use Rattle.scrib_types.specs.declared.global.GlobalType as global
use Rattle.scrib_types.specs.declared.global.GlobalType.{GlobalType}
use Rattle.scrib_types.specs.GlobalView.{global_of, global_branches, global_comm}
use Rattle.scrib_types.specs.Trees.{GlobalTree, GlobalEnd, GlobalVar, GlobalRec, Comm, Branch, NoBranch, LocalEnd, Send, NoChoice, Choice}
use Rattle.scrib_types.specs.Same.{same_local-refl}
use Rattle.scrib_types.specs.WellFormed.{is_protocol}

abbrev pub says : List ℕ → Message
says operator = record { op = Some operator; payload = [] }

abbrev pub sending : List ℕ → List ℕ → List ℕ → GlobalTree → GlobalTree
sending p q operator then = Comm p q (Branch (says operator) then NoBranch)

pub one_branch : (p q r s : List ℕ) (m n : Message) (g : GlobalType) (bs : List (Message × GlobalType)) → p ≡ r → q ≡ s → m ≡ n → bs ≡ (m, g) ∷ [] → global_of (global.Comm p q bs) ≡ Comm r s (Branch n (global_of g) NoBranch)
one_branch p q r s m n g bs ep eq em eb =
    global_comm p q bs ∙ ap (λ x. Comm p q (global_branches x)) eb
    ∙ ap (λ x. Comm x q (Branch m (global_of g) NoBranch)) ep
    ∙ ap (λ x. Comm r x (Branch m (global_of g) NoBranch)) eq
    ∙ ap (λ x. Comm r s (Branch x (global_of g) NoBranch)) em

pub two_branches : (p q r s : List ℕ) (m n m' n' : Message) (g h : GlobalType) (none one bs : List (Message × GlobalType)) (g' h' : GlobalTree) → p ≡ r → q ≡ s → m ≡ m' → n ≡ n' → none ≡ [] → one ≡ none ++ (m, g) ∷ [] → bs ≡ one ++ (n, h) ∷ [] → global_of g ≡ g' → global_of h ≡ h' → global_of (global.Comm p q bs) ≡ Comm r s (Branch m' g' (Branch n' h' NoBranch))
two_branches p q r s m n m' n' g h none one bs g' h' ep eq em en e0 e1 e2 eg eh =
    let all : bs ≡ (m, g) ∷ (n, h) ∷ [] = e2 ∙ ap (λ (x : List (Message × GlobalType)). x ++ (n, h) ∷ []) (e1 ∙ ap (λ (x : List (Message × GlobalType)). x ++ (m, g) ∷ []) e0) in
    global_comm p q bs ∙ ap (λ x. Comm p q (global_branches x)) all
    ∙ ap (λ x. Comm x q (Branch m (global_of g) (Branch n (global_of h) NoBranch))) ep
    ∙ ap (λ x. Comm r x (Branch m (global_of g) (Branch n (global_of h) NoBranch))) eq
    ∙ ap (λ x. Comm r s (Branch x (global_of g) (Branch n (global_of h) NoBranch))) em
    ∙ ap (λ x. Comm r s (Branch m' x (Branch n (global_of h) NoBranch))) eg
    ∙ ap (λ x. Comm r s (Branch m' g' (Branch x (global_of h) NoBranch))) en
    ∙ ap (λ x. Comm r s (Branch m' g' (Branch n' x NoBranch))) eh

pub is_valid : (roles known : List (List ℕ)) (g tree : GlobalTree) → roles ≡ known → g ≡ tree → is_protocol known tree ≡ true → is_protocol roles g ≡ true
is_valid roles known g tree er eg v = ap (λ x. is_protocol x g) er ∙ ap (is_protocol known) eg ∙ v

-- one role more
pub with_role : (all roles known : List (List ℕ)) (r : List ℕ) → all ≡ roles ++ r ∷ [] → roles ≡ known → all ≡ known ++ r ∷ []
with_role all roles known r e f = e ∙ ap (λ x. x ++ r ∷ []) f

abbrev pub hello : GlobalTree
hello = sending (codes "A") (codes "B") (codes "hello") (sending (codes "B") (codes "A") (codes "bye") GlobalEnd)

pub hello_valid : is_protocol (codes "A" ∷ codes "B" ∷ []) hello ≡ true
unfolding is_protocol
hello_valid = refl

abbrev pub for_ever : GlobalTree
for_ever = GlobalRec (sending (codes "A") (codes "B") (codes "a") (sending (codes "C") (codes "D") (codes "c") (GlobalVar 0)))

pub for_ever_valid : is_protocol (codes "A" ∷ codes "B" ∷ codes "C" ∷ codes "D" ∷ []) for_ever ≡ true
unfolding is_protocol
for_ever_valid = refl

abbrev pub third : GlobalTree
third = sending (codes "C") (codes "B") (codes "z") GlobalEnd

abbrev pub third_party : GlobalTree
third_party = Comm (codes "A") (codes "B") (Branch (says (codes "l")) third (Branch (says (codes "r")) third NoBranch))

pub third_party_valid : is_protocol (codes "A" ∷ codes "B" ∷ codes "C" ∷ []) third_party ≡ true
unfolding is_protocol
third_party_valid = rw (same_local-refl (Send (codes "B") (Choice (says (codes "z")) LocalEnd NoChoice))) refl
