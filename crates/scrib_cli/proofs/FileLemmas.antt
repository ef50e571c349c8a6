-- Commands over files.
use Rattle.std.proofs.Common.{◌≡◌, ℕ, Bool, true, false, ◌&&◌, List, [], ◌∷◌, ◌∙◌, Option, Some, None, inl, inr, sym, ap, refl, subst}
use Rattle.std.specs.Prelude.{IfSome}
use Rattle.std.specs.Borrow.{Bor}
use Rattle.scrib_core.specs.Answers.{State}
use Rattle.scrib_cli.specs.Checks.{IsChecked, IsPartChecked}
use Rattle.scrib_cli.specs.Commands.{AreChecked, ArePartChecked}
use Rattle.scrib_script_io.proofs.WriterLemmas.{appends_none}

-- a property of the bytes of an opened reader holds of its file's contents, where they are known
pub known : (P : List ℕ → Type 0) (text reader : Option (List ℕ)) → IfSome text (λ bytes. reader ≡ Some bytes) → IfSome reader P → IfSome text P
known P None reader e h = tt
known P (Some bytes) reader e h = subst (λ (o : Option (List ℕ)). IfSome o P) e h

pub and_true : (b : Bool) → b ≡ (b && true)
and_true true = refl
and_true false = refl

pub and_false : (b c : Bool) → (b && (false && c)) ≡ (false && c)
and_false true c = refl
and_false false c = refl

-- the flag of all files, with the flags of those so far, of one more, and of the others
pub agree_refused : (old first accepted : Bool) → first ≡ false → accepted ≡ false → (others : Bool) → (old && (first && others)) ≡ (accepted && others)
agree_refused old first accepted e f others = ap (λ b. old && (b && others)) e ∙ and_false old others ∙ ap (λ b. b && others) (sym f)

pub agree_accepted : (old first accepted : Bool) → first ≡ true → accepted ≡ old → (others : Bool) → (old && (first && others)) ≡ (accepted && others)
agree_accepted old first accepted e f others = ap (λ b. old && (b && others)) e ∙ ap (λ b. b && others) (sym f)

module _ (text : List ℕ → Option (List ℕ)) where
  -- one file was checked, and then the others
  pub then_checked : (p : Bor (List ℕ)) (ps rest : List (Bor (List ℕ))) → rest ≡ p ∷ ps → (w v after : State) (first others : Bool) (was mid now : Option (List ℕ))
      → IfSome (text p.now) (λ input. IsChecked input w first v was mid) → AreChecked text ps v others after mid now
      → AreChecked text rest w (first && others) after was now
  then_checked p ps rest e w v after first others was mid now h k =
      subst (λ (qs : List (Bor (List ℕ))). AreChecked text qs w (first && others) after was now) (sym e) (first, others, v, mid, refl, h, k)

  pub then_part : (p : Bor (List ℕ)) (ps rest : List (Bor (List ℕ))) → rest ≡ p ∷ ps → (w v : State) (first : Bool) (was mid now : Option (List ℕ))
      → IfSome (text p.now) (λ input. IsChecked input w first v was mid) → ArePartChecked text ps v mid now
      → ArePartChecked text rest w was now
  then_part p ps rest e w v first was mid now h k =
      subst (λ (qs : List (Bor (List ℕ))). ArePartChecked text qs w was now) (sym e) (inr (inr (first, v, mid, h, k)))

  -- nothing was written of the next file
  pub none_checked : (rest : List (Bor (List ℕ))) (w : State) (was : Option (List ℕ)) → ArePartChecked text rest w was was
  none_checked [] w was = appends_none was
  none_checked (p ∷ ps) w was = inl (appends_none was)

  part_so : (t : Option (List ℕ)) (w v : State) (was now : Option (List ℕ)) → IfSome t (λ input. IsPartChecked input w v was now)
      → IfSome t (λ input. (after : State) × IsPartChecked input w after was now)
  part_so None w v was now h = tt
  part_so (Some input) w v was now h = (v, h)

  -- a prefix was written of the next file
  pub part_checked_next : (p : Bor (List ℕ)) (ps rest : List (Bor (List ℕ))) → rest ≡ p ∷ ps → (w v : State) (was now : Option (List ℕ))
      → IfSome (text p.now) (λ input. IsPartChecked input w v was now) → ArePartChecked text rest w was now
  part_checked_next p ps rest e w v was now h =
      subst (λ (qs : List (Bor (List ℕ))). ArePartChecked text qs w was now) (sym e) (inr (inl (part_so (text p.now) w v was now h)))

  -- no file is left
  pub end_checked : (rest : List (Bor (List ℕ))) → rest ≡ [] → (w : State) (was : Option (List ℕ)) → AreChecked text rest w true w was was
  end_checked rest e w was = subst (λ (qs : List (Bor (List ℕ))). AreChecked text qs w true w was was) (sym e) (refl, refl, appends_none was)
