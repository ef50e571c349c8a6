-- Which recursions around statements have a level in the type.
use Rattle.std.proofs.Common.{◌≡◌, ℕ, ◌<◌, Bool, true, false, List, [], ◌∷◌, Some, if◌then◌else◌, refl, sym, ap, ◌∙◌, subst, ⊎_elim}
use Rattle.std.specs.Str.{bytes_eq}
use Rattle.std.proofs.lemmas.Bool.{false≢true, both_ways, or_cases, or_left, or_right}
use Rattle.std.proofs.lemmas.Slice.Eq.{bytes_eq-Decides}
use Rattle.scrib_types.specs.declared.spot.Spot.{Spot}
use Rattle.scrib_types.specs.WellFormed.{has_role}
use Rattle.scrib_tree.specs.declared.tree.Statement.{Statement as ParsedStatement}
use Rattle.scrib_static_checks.specs.Source.{Body, Then, Statement, Chooses, Repeats, Blocks, NoBlock, OrBlock}
use Rattle.scrib_static_checks.specs.SourceView.{statement_of}
use Rattle.scrib_static_checks.specs.Elaboration.{continues_in, continues_at, continues_some, Scope, level_of, inside}
use Rattle.scrib_static_checks.specs.Faults.{blocks_before}
use Rattle.scrib_elaborate.specs.Levels.{LevelsBelow}
use Rattle.scrib_elaborate.specs.Typing.{before, HasLevels, HaveLevels}

-- no recursion is around a protocol's own block
pub levels_none : (sc : Scope) (b : Body) → HasLevels sc [] b
levels_none sc b x among continued = absurd (false≢true among)

-- what follows a statement, and what follows several

pub levels_rest : (sc : Scope) (recs : List (List ℕ)) (s : Statement) (b : Body) → HasLevels sc recs (Then s b) → HasLevels sc recs b
levels_rest sc recs s b h x among continued =
    h x among (or_right (continues_at x s) (continues_in x b) continued)

pub levels_after : (sc : Scope) (recs : List (List ℕ)) (ss : List ParsedStatement) (b : Body) → HasLevels sc recs (before ss b) → HasLevels sc recs b
levels_after sc recs [] b h = h
levels_after sc recs (s ∷ ss) b h = levels_after sc recs ss b (levels_rest sc recs (statement_of s) (before ss b) h)

-- the blocks of a choice, and one of them

pub levels_chosen : (sc : Scope) (recs : List (List ℕ)) (p : List ℕ) (bs : Blocks) (spot : Spot) (rest : Body) → HasLevels sc recs (Then (Chooses p bs spot) rest) → HaveLevels sc recs bs
levels_chosen sc recs p bs spot rest h x among continued =
    h x among (or_left (continues_some x bs) (continues_in x rest) continued)

continued_among : (x : List ℕ) (b : Body) (s : Spot) (after bs : Blocks) → continues_in x b ≡ true → continues_some x (blocks_before bs b s after) ≡ true
continued_among x b s after NoBlock e = or_left (continues_in x b) (continues_some x after) e
continued_among x b s after (OrBlock c t cs) e =
    or_right (continues_in x c) (continues_some x (blocks_before cs b s after)) (continued_among x b s after cs e)

pub levels_block : (sc : Scope) (recs : List (List ℕ)) (first : Blocks) (b : Body) (s : Spot) (last bs : Blocks) → bs ≡ blocks_before first b s last → HaveLevels sc recs bs → HasLevels sc recs b
levels_block sc recs first b s last bs split h x among continued =
    h x among (ap (continues_some x) split ∙ continued_among x b s last first continued)

-- the body of a recursion

other_rec : (x y : List ℕ) (recs : List (List ℕ)) → bytes_eq x y ≡ false → has_role x (y ∷ recs) ≡ true → has_role x recs ≡ true
other_rec x y recs other among =
    ⊎_elim (λ e. absurd (both_ways (bytes_eq x y) other e)) (λ e. e) (or_cases (bytes_eq x y) (has_role x recs) among)

pub levels_passes : (sc : Scope) (recs : List (List ℕ)) (y : List ℕ) (c : Body) (spot : Spot) (rest : Body) → continues_in y c ≡ false → HasLevels sc recs (Then (Repeats y c spot) rest) → HasLevels sc (y ∷ recs) c
levels_passes sc recs y c spot rest none h x among continued = case (bytes_eq x y) refl
  where
    case : (t : Bool) → bytes_eq x y ≡ t → (k : ℕ) × (level_of x sc.recs ≡ Some k)
    case true e =
        let same : x ≡ y = (bytes_eq-Decides x y).0 e in
        absurd (both_ways (continues_in y c) none (ap (λ z. continues_in z c) (sym same) ∙ continued))
    case false e =
        let at : continues_at x (Repeats y c spot) ≡ true = ap (λ t. if t then false else continues_in x c) e ∙ continued in
        h x (other_rec x y recs e among) (or_left (continues_at x (Repeats y c spot)) (continues_in x rest) at)

pub levels_repeats : (sc : Scope) (recs : List (List ℕ)) (y : List ℕ) (n : ℕ) (c : Body) (spot : Spot) (rest : Body) → HasLevels sc recs (Then (Repeats y c spot) rest) → HasLevels (inside sc y n) (y ∷ recs) c
levels_repeats sc recs y n c spot rest h x among continued = case (bytes_eq x y) refl
  where
    case : (t : Bool) → bytes_eq x y ≡ t → (k : ℕ) × (level_of x (inside sc y n).recs ≡ Some k)
    case true e = (n, ap (λ t. if t then Some n else level_of x sc.recs) e)
    case false e =
        let at : continues_at x (Repeats y c spot) ≡ true = ap (λ t. if t then false else continues_in x c) e ∙ continued in
        let k = h x (other_rec x y recs e among) (or_left (continues_at x (Repeats y c spot)) (continues_in x rest) at) in
        (k.0, ap (λ t. if t then Some n else level_of x sc.recs) e ∙ k.1)

-- a level is below the number of recursions around the statements
pub level_below : (n : ℕ) (x : List ℕ) (rs : List (List ℕ × ℕ)) (k : ℕ) → LevelsBelow n rs → level_of x rs ≡ Some k → k < n
level_below n x [] k low h = absurd (cc)
level_below n x (r ∷ rs) k low h = case (bytes_eq x r.0) (level_below n x rs k low.1) h
  where
    case : (t : Bool) → (level_of x rs ≡ Some k → k < n) → (if t then Some r.1 else level_of x rs) ≡ Some k → k < n
    case true more e = let same : r.1 ≡ k = cc in subst (λ l. l < n) same low.0
    case false more e = more e
