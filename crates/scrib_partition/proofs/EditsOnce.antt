-- An edit has one effect on the library: from the same library it leads to the same library.
use Rattle.std.proofs.Common.{◌≡◌, ◌≢◌, ℕ, ◌+◌, List, Ok, sym, ap, subst, ◌∙◌, arith}
use Rattle.std.specs.Prelude.{Result}
use Rattle.std.specs.Ordering.{nat_cmp}
use Rattle.std.specs.declared.cmp.Ordering.TheVariants.{Equal}
use Rattle.std.specs.Cmp.Lexicographic.{slice_cmp}
use Rattle.std.proofs.lemmas.Cmp.{nat_list_cmp_total, tied_itself}
use Rattle.scrib_types.specs.declared.profile.Profile.{Profile}
use Rattle.scrib_types.specs.Texts.{dotted_text}
use Rattle.scrib_lexer.specs.Lexeme.{Lexeme}
use Rattle.scrib_lexer.proofs.ReadingLemmas.{one_tokens}
use Rattle.scrib_parser.specs.declared.fault.ParseFault.{ParseFault}
use Rattle.scrib_parser.specs.Grammar.{IsModule}
use Rattle.scrib_parser.specs.Reading.{whole_of}
use Rattle.scrib_parser.proofs.WholeModules.{whole_again}
use Rattle.scrib_tree.specs.declared.tree.ModuleTree.{ModuleTree}
use Rattle.scrib_static_checks.specs.Names.{with_module}
use Rattle.scrib_elaborate.specs.Locality.{without_module}
use Rattle.scrib_library.specs.declared.changes.Change.{Change}
use Rattle.scrib_library.specs.Edits.{Reads, NamedBefore, IsChanges, has_new_version, new_versions}
use Rattle.scrib_library.proofs.Lists.{count_within}
use Rattle.scrib_core.specs.declared.step.Step.TheVariants.{Put, Withdraw}
use Rattle.scrib_core.specs.declared.step.Step.TheVariants as step
use Rattle.scrib_core.specs.World.{World, Follows}

-- a text has one module
pub reads_once : (text : List ℕ) (m n : ModuleTree) → Reads text m → Reads text n → m ≡ n
reads_once text m n p q =
    let tokens : p.0 ≡ q.0 = p.1.1.2 ∙ one_tokens text p.1.1.0 q.0 p.1.1.1 q.1 in
    let first : whole_of 64 q.0 ≡ Ok m = whole_again 64 q.0 m (subst (λ (ts : List Lexeme). IsModule ts m) tokens p.2) in
    let second : whole_of 64 q.0 ≡ Ok n = whole_again 64 q.0 n q.2 in
    same_ok m n (sym first ∙ second)
  where
    same_ok : (x y : ModuleTree) → ◌≡◌ {A = Result ModuleTree ParseFault} (Ok x) (Ok y) → x ≡ y
    same_ok x y e = cc

named_apart : (x y : Change) → NamedBefore x y → x ≢ y
named_apart x y less same =
    let tied : slice_cmp nat_cmp (dotted_text x.name) (dotted_text y.name) ≡ Equal =
    subst (λ (c : Change). slice_cmp nat_cmp (dotted_text x.name) (dotted_text c.name) ≡ Equal) same (tied_itself nat_list_cmp_total (dotted_text x.name)) in
    cc

-- two lists of the changes of an edit have as many new versions
changes_once : (before after : List ModuleTree) (xs ys : List Change) → IsChanges before after xs → IsChanges before after ys → new_versions xs ≡ new_versions ys
changes_once before after xs ys p q =
    let less = count_within (λ (x : Change). has_new_version x.kind) NamedBefore named_apart xs ys p.sorted (λ x there. (q.exact x).1 ((p.exact x).0 there)) in
    let more = count_within (λ (x : Change). has_new_version x.kind) NamedBefore named_apart ys xs q.sorted (λ x there. (p.exact x).1 ((q.exact x).0 there)) in
    omega (arith, less, more)

-- the worlds have the same library
pub record HaveOneLibrary (v w : World) : Type 0 where
  pub profile : w.profile ≡ v.profile
  pub modules : w.modules ≡ v.modules
  pub used : w.used ≡ v.used

module _ (a b after other : World) (one : HaveOneLibrary a b) where
  pub put_once : (text : List ℕ) → Follows a (Put text) after → Follows b (Put text) other → HaveOneLibrary after other
  put_once text f g =
      let m : g.0.0 ≡ f.0.0 = reads_once text g.0.0 f.0.0 g.0.1.read f.0.1.read in
      let modules : other.modules ≡ after.modules =
      g.0.1.placed ∙ ap (λ (t : ModuleTree). with_module t b.modules) m ∙ ap (with_module f.0.0) one.modules ∙ sym f.0.1.placed in
      let changes : IsChanges a.modules after.modules g.1.list =
      subst (λ (ms : List ModuleTree). IsChanges a.modules ms g.1.list) modules (subst (λ (ms : List ModuleTree). IsChanges ms other.modules g.1.list) one.modules g.1.changes) in
      let many : new_versions g.1.list ≡ new_versions f.1.list = changes_once a.modules after.modules g.1.list f.1.list changes f.1.changes in
      record {
        profile = g.2 ∙ one.profile ∙ sym f.2;
        modules = modules;
        used = g.1.count ∙ ap (λ (n : ℕ). n + new_versions g.1.list) one.used ∙ ap (λ (n : ℕ). a.used + n) many ∙ sym f.1.count;
      }

  pub withdraw_once : (name : List (List ℕ)) → Follows a (Withdraw name) after → Follows b (Withdraw name) other → HaveOneLibrary after other
  withdraw_once name f g = record {
    profile = g.2 ∙ one.profile ∙ sym f.2;
    modules = g.0.removed ∙ ap (without_module name) one.modules ∙ sym f.0.removed;
    used = g.1 ∙ one.used ∙ sym f.1;
  }

  pub profile_once : (p : Profile) → Follows a (step.Profile p) after → Follows b (step.Profile p) other → HaveOneLibrary after other
  profile_once p f g = record {
    profile = ap (λ (w : World). w.profile) g.1 ∙ sym (ap (λ (w : World). w.profile) f.1);
    modules = ap (λ (w : World). w.modules) g.1 ∙ one.modules ∙ sym (ap (λ (w : World). w.modules) f.1);
    used = ap (λ (w : World). w.used) g.1 ∙ one.used ∙ sym (ap (λ (w : World). w.used) f.1);
  }
