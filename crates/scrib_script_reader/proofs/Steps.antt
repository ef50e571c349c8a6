-- Steps, by the fields that make them.
use Rattle.std.proofs.Common.{◌≡◌, inl, inr, ℕ, ◌<◌, ◌≤◌, List, [], ◌∷◌, length, get_or, map, take, drop, ◌-◌, Option, Some, None, codes, refl, sym, ap, ◌∙◌, subst, true, false, arith}
use Rattle.std.specs.Str.{bytes_eq}
use Rattle.std.proofs.lemmas.List.{take_rest}
use Rattle.std.proofs.lemmas.Bool.{false≢true}
use Rattle.std.proofs.lemmas.Slice.Eq.{bytes_eq-Decides}
use Rattle.scrib_types.specs.declared.message.Message.{Message}
use Rattle.scrib_types.specs.declared.event.Event.TheVariants as event
use Rattle.scrib_types.specs.Names.{is_name}
use Rattle.scrib_core.specs.declared.step.Step.{Step}
use Rattle.scrib_core.specs.declared.step.Step.TheVariants as step
use Rattle.scrib_script_reader.specs.Fields.{Finds, IsNumberText, IsDottedText}
use Rattle.scrib_script_reader.specs.Steps.{IsExchange, MakesWithId, Edits, MakesStep}
use Rattle.scrib_script_reader.proofs.Digits.{same_number}

apart : (xs ys : List ℕ) → bytes_eq xs ys ≡ false → xs ≡ ys → ⊥
apart xs ys f e = false≢true (sym f ∙ (bytes_eq-Decides xs ys).1 e)

-- fields that are no exchange make no send and no reception
pub no-send : (id : ℕ) (fs : List (List ℕ)) → ((from to : List ℕ) (m : Message) → IsExchange fs from to m → ⊥) → (s : Step) → MakesWithId (codes "send") id fs s → ⊥
no-send id fs none (step.Put text) h = h
no-send id fs none (step.Withdraw name) h = h
no-send id fs none (step.Profile p) h = h
no-send id fs none (step.Open i name) h = apart (codes "send") (codes "open") refl h.0
no-send id fs none (step.Note i (event.Join role)) h = apart (codes "send") (codes "join") refl h.0
no-send id fs none (step.Note i (event.Sent from to m)) h = none from to m h.2
no-send id fs none (step.Note i (event.Received from to m)) h = apart (codes "send") (codes "recv") refl h.0
no-send id fs none (step.Turn i) h = apart (codes "send") (codes "turn") refl h.0
no-send id fs none (step.Ask i) h = apart (codes "send") (codes "ask") refl h.0
no-send id fs none (step.Close i) h = apart (codes "send") (codes "close") refl h.0

pub no-recv : (id : ℕ) (fs : List (List ℕ)) → ((from to : List ℕ) (m : Message) → IsExchange fs from to m → ⊥) → (s : Step) → MakesWithId (codes "recv") id fs s → ⊥
no-recv id fs none (step.Put text) h = h
no-recv id fs none (step.Withdraw name) h = h
no-recv id fs none (step.Profile p) h = h
no-recv id fs none (step.Open i name) h = apart (codes "recv") (codes "open") refl h.0
no-recv id fs none (step.Note i (event.Join role)) h = apart (codes "recv") (codes "join") refl h.0
no-recv id fs none (step.Note i (event.Sent from to m)) h = apart (codes "recv") (codes "send") refl h.0
no-recv id fs none (step.Note i (event.Received from to m)) h = none from to m h.2
no-recv id fs none (step.Turn i) h = apart (codes "recv") (codes "turn") refl h.0
no-recv id fs none (step.Ask i) h = apart (codes "recv") (codes "ask") refl h.0
no-recv id fs none (step.Close i) h = apart (codes "recv") (codes "close") refl h.0

-- a field that is no dotted text makes no opening
pub no-open : (id : ℕ) (fs : List (List ℕ)) → ((name : List (List ℕ)) → (text : List ℕ) × (fs ≡ text ∷ []) × IsDottedText text name → ⊥) → (s : Step) → MakesWithId (codes "open") id fs s → ⊥
no-open id fs none (step.Put text) h = h
no-open id fs none (step.Withdraw name) h = h
no-open id fs none (step.Profile p) h = h
no-open id fs none (step.Open i name) h = none name h.2
no-open id fs none (step.Note i (event.Join role)) h = apart (codes "open") (codes "join") refl h.0
no-open id fs none (step.Note i (event.Sent from to m)) h = apart (codes "open") (codes "send") refl h.0
no-open id fs none (step.Note i (event.Received from to m)) h = apart (codes "open") (codes "recv") refl h.0
no-open id fs none (step.Turn i) h = apart (codes "open") (codes "turn") refl h.0
no-open id fs none (step.Ask i) h = apart (codes "open") (codes "ask") refl h.0
no-open id fs none (step.Close i) h = apart (codes "open") (codes "close") refl h.0

pub no-join : (id : ℕ) (fs : List (List ℕ)) → ((role : List ℕ) → (fs ≡ role ∷ []) × (is_name role ≡ true) → ⊥) → (s : Step) → MakesWithId (codes "join") id fs s → ⊥
no-join id fs none (step.Put text) h = h
no-join id fs none (step.Withdraw name) h = h
no-join id fs none (step.Profile p) h = h
no-join id fs none (step.Open i name) h = apart (codes "join") (codes "open") refl h.0
no-join id fs none (step.Note i (event.Join role)) h = none role (h.2, h.3)
no-join id fs none (step.Note i (event.Sent from to m)) h = apart (codes "join") (codes "send") refl h.0
no-join id fs none (step.Note i (event.Received from to m)) h = apart (codes "join") (codes "recv") refl h.0
no-join id fs none (step.Turn i) h = apart (codes "join") (codes "turn") refl h.0
no-join id fs none (step.Ask i) h = apart (codes "join") (codes "ask") refl h.0
no-join id fs none (step.Close i) h = apart (codes "join") (codes "close") refl h.0

pub no-ask : (id : ℕ) (fs : List (List ℕ)) → (fs ≡ [] → ⊥) → (s : Step) → MakesWithId (codes "ask") id fs s → ⊥
no-ask id fs none (step.Put text) h = h
no-ask id fs none (step.Withdraw name) h = h
no-ask id fs none (step.Profile p) h = h
no-ask id fs none (step.Open i name) h = apart (codes "ask") (codes "open") refl h.0
no-ask id fs none (step.Note i (event.Join role)) h = apart (codes "ask") (codes "join") refl h.0
no-ask id fs none (step.Note i (event.Sent from to m)) h = apart (codes "ask") (codes "send") refl h.0
no-ask id fs none (step.Note i (event.Received from to m)) h = apart (codes "ask") (codes "recv") refl h.0
no-ask id fs none (step.Turn i) h = apart (codes "ask") (codes "turn") refl h.0
no-ask id fs none (step.Ask i) h = none h.2
no-ask id fs none (step.Close i) h = apart (codes "ask") (codes "close") refl h.0

pub no-turn : (id : ℕ) (fs : List (List ℕ)) → (fs ≡ [] → ⊥) → (s : Step) → MakesWithId (codes "turn") id fs s → ⊥
no-turn id fs none (step.Put text) h = h
no-turn id fs none (step.Withdraw name) h = h
no-turn id fs none (step.Profile p) h = h
no-turn id fs none (step.Open i name) h = apart (codes "turn") (codes "open") refl h.0
no-turn id fs none (step.Note i (event.Join role)) h = apart (codes "turn") (codes "join") refl h.0
no-turn id fs none (step.Note i (event.Sent from to m)) h = apart (codes "turn") (codes "send") refl h.0
no-turn id fs none (step.Note i (event.Received from to m)) h = apart (codes "turn") (codes "recv") refl h.0
no-turn id fs none (step.Turn i) h = none h.2
no-turn id fs none (step.Ask i) h = apart (codes "turn") (codes "ask") refl h.0
no-turn id fs none (step.Close i) h = apart (codes "turn") (codes "close") refl h.0

pub no-close : (id : ℕ) (fs : List (List ℕ)) → (fs ≡ [] → ⊥) → (s : Step) → MakesWithId (codes "close") id fs s → ⊥
no-close id fs none (step.Put text) h = h
no-close id fs none (step.Withdraw name) h = h
no-close id fs none (step.Profile p) h = h
no-close id fs none (step.Open i name) h = apart (codes "close") (codes "open") refl h.0
no-close id fs none (step.Note i (event.Join role)) h = apart (codes "close") (codes "join") refl h.0
no-close id fs none (step.Note i (event.Sent from to m)) h = apart (codes "close") (codes "send") refl h.0
no-close id fs none (step.Note i (event.Received from to m)) h = apart (codes "close") (codes "recv") refl h.0
no-close id fs none (step.Turn i) h = apart (codes "close") (codes "turn") refl h.0
no-close id fs none (step.Ask i) h = apart (codes "close") (codes "ask") refl h.0
no-close id fs none (step.Close i) h = none h.2

-- another word makes no step
pub no-word : (word : List ℕ) (id : ℕ) (fs : List (List ℕ)) → (word ≡ codes "open" → ⊥) → (word ≡ codes "join" → ⊥) → (word ≡ codes "send" → ⊥) → (word ≡ codes "recv" → ⊥) → (word ≡ codes "turn" → ⊥) → (word ≡ codes "ask" → ⊥) → (word ≡ codes "close" → ⊥)
    → (s : Step) → MakesWithId word id fs s → ⊥
no-word word id fs opens joins sends receives turns asks closes (step.Put text) h = h
no-word word id fs opens joins sends receives turns asks closes (step.Withdraw name) h = h
no-word word id fs opens joins sends receives turns asks closes (step.Profile p) h = h
no-word word id fs opens joins sends receives turns asks closes (step.Open i name) h = opens h.0
no-word word id fs opens joins sends receives turns asks closes (step.Note i (event.Join role)) h = joins h.0
no-word word id fs opens joins sends receives turns asks closes (step.Note i (event.Sent from to m)) h = sends h.0
no-word word id fs opens joins sends receives turns asks closes (step.Note i (event.Received from to m)) h = receives h.0
no-word word id fs opens joins sends receives turns asks closes (step.Turn i) h = turns h.0
no-word word id fs opens joins sends receives turns asks closes (step.Ask i) h = asks h.0
no-word word id fs opens joins sends receives turns asks closes (step.Close i) h = closes h.0

-- a step has two fields
pub no-short : (fs : List (List ℕ)) → length fs < 2 → (s : Step) → MakesStep fs s → ⊥
no-short [] l s h = h
no-short (word ∷ []) l s h = h
no-short (word ∷ number ∷ fs) l s h = omega arith

pub one-field : {A B : Type 0} (f : A → B) (xs : List A) (d : A) → 1 ≤ length xs → length xs < 2 → map f xs ≡ f (get_or xs 0 d) ∷ []
one-field f [] d l h = absurd (omega arith)
one-field f (x ∷ []) d l h = refl
one-field f (x ∷ y ∷ xs) d l h = absurd (omega arith)

behind : {A B : Type 0} (f : A → B) (xs : List A) (d : A) → 1 ≤ length xs → map f xs ≡ f (get_or xs 0 d) ∷ map f (drop 1 xs)
behind f [] d l = absurd (omega arith)
behind f (x ∷ xs) d l = refl

pub first-field : {A B : Type 0} (f : A → B) (xs : List A) (d : A) → 1 ≤ length xs → map f xs ≡ f (get_or xs 0 d) ∷ map f (take (length xs - 1) (drop 1 xs))
first-field f xs d l = behind f xs d l ∙ ap (λ ys. f (get_or xs 0 d) ∷ map f ys) (sym (take_rest xs 1))

front : {A B : Type 0} (f : A → B) (xs : List A) (d : A) → 2 ≤ length xs → map f xs ≡ f (get_or xs 0 d) ∷ f (get_or xs 1 d) ∷ map f (drop 2 xs)
front f [] d l = absurd (omega arith)
front f (x ∷ []) d l = absurd (omega arith)
front f (x ∷ y ∷ xs) d l = refl

pub two-fields : {A B : Type 0} (f : A → B) (xs : List A) (d : A) → 2 ≤ length xs → map f xs ≡ f (get_or xs 0 d) ∷ f (get_or xs 1 d) ∷ map f (take (length xs - 2) (drop 2 xs))
two-fields f xs d l = front f xs d l ∙ ap (λ ys. f (get_or xs 0 d) ∷ f (get_or xs 1 d) ∷ map f ys) (sym (take_rest xs 2))

-- `withdraw` and `profile` make no step with a number
pub no-withdraw : (id : ℕ) (fs : List (List ℕ)) (s : Step) → MakesWithId (codes "withdraw") id fs s → ⊥
no-withdraw id fs = no-word (codes "withdraw") id fs (apart (codes "withdraw") (codes "open") refl) (apart (codes "withdraw") (codes "join") refl) (apart (codes "withdraw") (codes "send") refl) (apart (codes "withdraw") (codes "recv") refl) (apart (codes "withdraw") (codes "turn") refl) (apart (codes "withdraw") (codes "ask") refl) (apart (codes "withdraw") (codes "close") refl)

pub no-profile : (id : ℕ) (fs : List (List ℕ)) (s : Step) → MakesWithId (codes "profile") id fs s → ⊥
no-profile id fs = no-word (codes "profile") id fs (apart (codes "profile") (codes "open") refl) (apart (codes "profile") (codes "join") refl) (apart (codes "profile") (codes "send") refl) (apart (codes "profile") (codes "recv") refl) (apart (codes "profile") (codes "turn") refl) (apart (codes "profile") (codes "ask") refl) (apart (codes "profile") (codes "close") refl)

-- the step of `withdraw` or `profile`
pub found-edit : (known word first : List ℕ) (fs : List (List ℕ)) → ((id : ℕ) (gs : List (List ℕ)) (s : Step) → MakesWithId known id gs s → ⊥) → word ≡ known → (o : Option Step) → Finds (Edits known first fs) o → Finds (MakesStep (word ∷ first ∷ fs)) o
found-edit known word first fs numberless e None none = λ s h. elim h [
  | inl w ↦ none s (subst (λ (x : List ℕ). Edits x first fs s) e w)
  | inr k ↦ numberless k.0 fs s (subst (λ (x : List ℕ). MakesWithId x k.0 fs s) e k.2)
]
found-edit known word first fs numberless e (Some s) h = inl (subst (λ (x : List ℕ). Edits x first fs s) (sym e) h)

-- another word makes no edit
pub no-edit : (word first : List ℕ) (fs : List (List ℕ)) → (word ≡ codes "withdraw" → ⊥) → (word ≡ codes "profile" → ⊥) → (s : Step) → Edits word first fs s → ⊥
no-edit word first fs withdraws profiles (step.Put text) h = h
no-edit word first fs withdraws profiles (step.Withdraw name) h = withdraws h.0
no-edit word first fs withdraws profiles (step.Profile p) h = profiles h.0
no-edit word first fs withdraws profiles (step.Open i name) h = h
no-edit word first fs withdraws profiles (step.Note i e) h = h
no-edit word first fs withdraws profiles (step.Turn i) h = h
no-edit word first fs withdraws profiles (step.Ask i) h = h
no-edit word first fs withdraws profiles (step.Close i) h = h

-- another word and no number make no step
pub no-number : (word first : List ℕ) (fs : List (List ℕ)) → (word ≡ codes "withdraw" → ⊥) → (word ≡ codes "profile" → ⊥) → ((id : ℕ) → IsNumberText first id → ⊥) → (s : Step) → MakesStep (word ∷ first ∷ fs) s → ⊥
no-number word first fs withdraws profiles none s h = elim h [
  | inl w ↦ no-edit word first fs withdraws profiles s w
  | inr k ↦ none k.0 k.1
]

-- the step of another word and a number
pub found-step : (word number : List ℕ) (fs : List (List ℕ)) (id : ℕ) → (word ≡ codes "withdraw" → ⊥) → (word ≡ codes "profile" → ⊥) → IsNumberText number id → (o : Option Step) → Finds (MakesWithId word id fs) o → Finds (MakesStep (word ∷ number ∷ fs)) o
found-step word number fs id withdraws profiles n None none = λ s h. elim h [
  | inl w ↦ no-edit word number fs withdraws profiles s w
  | inr k ↦ none s (subst (λ (i : ℕ). MakesWithId word i fs s) (same_number number k.0 id k.1 n) k.2)
]
found-step word number fs id withdraws profiles n (Some s) h = inr (id, n, h)
