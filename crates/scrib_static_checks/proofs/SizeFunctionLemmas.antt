-- The sizes of statements as functions of the size of what follows, statement by statement.
use Rattle.std.proofs.Common.{◌≡◌, ℕ, ◌+◌, ◌-◌, max, true, false, List, length, Some, if◌then◌else◌, refl, sym, ap, subst, arith}
use Rattle.scrib_types.specs.declared.message.Message.{Message}
use Rattle.scrib_types.specs.declared.spot.Spot.{Spot}
use Rattle.scrib_tree.specs.declared.tree.ModuleTree.{ModuleTree}
use Rattle.scrib_static_checks.specs.declared.size_bound.SizeBound.{SizeBound}
use Rattle.scrib_static_checks.specs.Source.{Body, Done, Then, Statement, Sends, Chooses, Repeats, Continues, Calls, Blocks, NoBlock, OrBlock}
use Rattle.scrib_static_checks.specs.SourceView.{body_of}
use Rattle.scrib_static_checks.specs.Names.{Declaration, called}
use Rattle.scrib_static_checks.specs.Elaboration.{continues_in}
use Rattle.scrib_static_checks.specs.Sizes.{Size, size_done, size_sends, size_chooses, size_repeats, size_continues, size_calls, SizeOfBlocks, size_none, size_or}
use Rattle.scrib_static_checks.specs.SizeFunctions.{Agree, nodes_at, height_at, BlockSize, StatementSize, BlocksSize, BlockHasSize, StatementHasSize, BlocksHaveSize, IsComposed, IsCombined, AreComposed, AreJoined, IsRow, IsEnd}

-- how sizes are combined: 0 changes nothing, and the operation is associative
pub record Gathers (both : ℕ → ℕ → ℕ) : Type 0 where
  pub before : (n : ℕ) → both 0 n ≡ n
  pub after : (n : ℕ) → both n 0 ≡ n
  pub grouped : (m n t : ℕ) → both m (both n t) ≡ both (both m n) t

pub sums_gather : Gathers ◌+◌
sums_gather = record { before = λ n. omega arith; after = λ n. omega arith; grouped = λ m n t. omega arith }

pub heights_gather : Gathers max
heights_gather = record { before = λ n. omega arith; after = λ n. omega arith; grouped = λ m n t. omega arith }

-- the state of the computation of a block's size: the whole from what is left

pub record IsGoing (cap : ℕ) (both : ℕ → ℕ → ℕ) (ms : List ModuleTree) (d : Declaration) (whole : Body) (f : ℕ → ℕ) (b : Body) : Type 0 where
  pub completes : (j m : ℕ) → Size both ms d b j (m + 1) → (n : ℕ) × Size both ms d whole j (n + 1) × Agree cap n (f m)

begin_going : (cap : ℕ) (both : ℕ → ℕ → ℕ) (ms : List ModuleTree) (d : Declaration) (whole : Body) (f : ℕ → ℕ) → ((k : ℕ) → Agree cap (0 + k) (f k)) → IsGoing cap both ms d whole f whole
begin_going cap both ms d whole f row = record { completes = λ j m s. (m, s, subst (λ x. Agree cap x (f m)) (plain m) (row m)) }
  where
    plain : (m : ℕ) → 0 + m ≡ m
    plain m = omega arith

step_going : (cap : ℕ) (both : ℕ → ℕ → ℕ) (ms : List ModuleTree) (d : Declaration) (whole : Body) (f g h : ℕ → ℕ) (b c : Body) (s : Statement) → b ≡ Then s c → IsComposed cap f g h → StatementSize cap both ms d s g → IsGoing cap both ms d whole f b → IsGoing cap both ms d whole h c
step_going cap both ms d whole f g h b c s is put step l = record {
  completes =
      λ j m z. let t = step m in let w = l.completes j t.0 (subst (λ x. Size both ms d x j (t.0 + 1)) (sym is) (t.2 c j z)) in (w.0, w.1, put m t.0 w.0 t.1 w.2);
}

end_going : (cap : ℕ) (both : ℕ → ℕ → ℕ) (ms : List ModuleTree) (d : Declaration) (whole : Body) (f : ℕ → ℕ) (b : Body) → b ≡ Done → IsGoing cap both ms d whole f b → BlockSize cap both ms d whole f
end_going cap both ms d whole f b is l = λ k. l.completes (k + 1) k (subst (λ x. Size both ms d x (k + 1) (k + 1)) (sym is) size_done)

-- the same for the blocks of a choice

pub record AreGoing (cap : ℕ) (both : ℕ → ℕ → ℕ) (ms : List ModuleTree) (d : Declaration) (whole : Blocks) (f : ℕ → ℕ) (bs : Blocks) : Type 0 where
  pub completes : (k : ℕ) → (n : ℕ) × Agree cap n (f k) × ((t : ℕ) → SizeOfBlocks both ms d bs (k + 1) t → SizeOfBlocks both ms d whole (k + 1) (both n t))

begin_blocks_going : (cap : ℕ) (both : ℕ → ℕ → ℕ) (ms : List ModuleTree) (d : Declaration) (whole : Blocks) (f : ℕ → ℕ) → Gathers both → ((k : ℕ) → Agree cap 0 (f k)) → AreGoing cap both ms d whole f whole
begin_blocks_going cap both ms d whole f gathers end = record {
  completes = λ k. (0, end k, λ t s. subst (λ x. SizeOfBlocks both ms d whole (k + 1) x) (sym (gathers.before t)) s);
}

step_blocks_going : (cap : ℕ) (both : ℕ → ℕ → ℕ) (ms : List ModuleTree) (d : Declaration) (whole : Blocks) (f g h : ℕ → ℕ) (bs cs : Blocks) (b : Body) (s : Spot) → Gathers both → bs ≡ OrBlock b s cs → IsCombined cap both f g h → BlockSize cap both ms d b g
    → AreGoing cap both ms d whole f bs → AreGoing cap both ms d whole h cs
step_blocks_going cap both ms d whole f g h bs cs b s gathers is joined block l = record {
  completes =
      λ k. let t = block k in let w = l.completes k in (both w.0 t.0, joined k w.0 t.0 w.1 t.2, λ u z. subst (λ x. SizeOfBlocks both ms d whole (k + 1) x) (gathers.grouped w.0 t.0 u) (w.2 (both t.0 u) (subst (λ x. SizeOfBlocks both ms d x (k + 1) (both t.0 u)) (sym is) (size_or t.1 z (ap (λ x. both x u) (less t.0))))));
}
  where
    less : (n : ℕ) → n ≡ (n + 1) - 1
    less n = omega arith

end_blocks_going : (cap : ℕ) (both : ℕ → ℕ → ℕ) (ms : List ModuleTree) (d : Declaration) (whole : Blocks) (f : ℕ → ℕ) (bs : Blocks) → Gathers both → bs ≡ NoBlock → AreGoing cap both ms d whole f bs → BlocksSize cap both ms d whole f
end_blocks_going cap both ms d whole f bs gathers is l = λ k.
    let w = l.completes k in
    let none : SizeOfBlocks both ms d bs (k + 1) 0 = subst (λ x. SizeOfBlocks both ms d x (k + 1) 0) (sym is) size_none in
    (w.0, subst (λ x. SizeOfBlocks both ms d whole (k + 1) x) (gathers.after w.0) (w.2 0 none), w.1)

-- the forms of statement

message_goes : (cap : ℕ) (both : ℕ → ℕ → ℕ) (ms : List ModuleTree) (d : Declaration) (t : Statement) (m : Message) (p : List ℕ) (qs : List (List ℕ)) (s : Spot) (f : ℕ → ℕ) → t ≡ Sends m p qs s → ((k : ℕ) → Agree cap (length qs + k) (f k)) → StatementSize cap both ms d t f
message_goes cap both ms d t m p qs s f is row = λ k.
    (length qs + k, row k, λ b j z. let r : (length qs + k) + 1 ≡ length qs + (k + 1) = omega arith in subst (λ x. Size both ms d (Then x b) j ((length qs + k) + 1)) (sym is) (size_sends z r))

continue_goes : (cap : ℕ) (both : ℕ → ℕ → ℕ) (ms : List ModuleTree) (d : Declaration) (t : Statement) (x : List ℕ) (s : Spot) (f : ℕ → ℕ) → t ≡ Continues x s → ((k : ℕ) → Agree cap 0 (f k)) → StatementSize cap both ms d t f
continue_goes cap both ms d t x s f is end = λ k. (0, end k, λ b j z. subst (λ y. Size both ms d (Then y b) j (0 + 1)) (sym is) size_continues)

choice_goes : (cap : ℕ) (both : ℕ → ℕ → ℕ) (ms : List ModuleTree) (d : Declaration) (t : Statement) (p : List ℕ) (bs whole : Blocks) (s : Spot) (f : ℕ → ℕ) → t ≡ Chooses p bs s → whole ≡ bs → BlocksSize cap both ms d whole f → StatementSize cap both ms d t f
choice_goes cap both ms d t p bs whole s f is w h = λ k.
    let v = subst (λ x. BlocksSize cap both ms d x f) w h k in
    (v.0, v.2, λ b j z. let r : v.0 + 1 ≡ 1 + v.0 = omega arith in subst (λ x. Size both ms d (Then x b) j (v.0 + 1)) (sym is) (size_chooses z v.1 r))

loop_goes : (cap : ℕ) (both : ℕ → ℕ → ℕ) (ms : List ModuleTree) (d : Declaration) (t : Statement) (x : List ℕ) (c whole : Body) (s : Spot) (f g h : ℕ → ℕ) → t ≡ Repeats x c s → whole ≡ c → continues_in x c ≡ true → ((k : ℕ) → Agree cap (1 + k) (f k)) → IsComposed cap f g h
    → BlockSize cap both ms d whole g → StatementSize cap both ms d t h
loop_goes cap both ms d t x c whole s f g h is w used row put block = λ k.
    let v = subst (λ y. BlockSize cap both ms d y g) w block k in
    let r : (1 + v.0) + 1 ≡ (if continues_in x c then 1 + (v.0 + 1) else v.0 + 1) = rw used (omega arith) in
    (1 + v.0, put k v.0 (1 + v.0) v.2 (row v.0), λ b j z. subst (λ y. Size both ms d (Then y b) j ((1 + v.0) + 1)) (sym is) (size_repeats z v.1 r))

pass_goes : (cap : ℕ) (both : ℕ → ℕ → ℕ) (ms : List ModuleTree) (d : Declaration) (t : Statement) (x : List ℕ) (c whole : Body) (s : Spot) (f : ℕ → ℕ) → t ≡ Repeats x c s → whole ≡ c → continues_in x c ≡ false → BlockSize cap both ms d whole f → StatementSize cap both ms d t f
pass_goes cap both ms d t x c whole s f is w unused block = λ k.
    let v = subst (λ y. BlockSize cap both ms d y f) w block k in
    let r : v.0 + 1 ≡ (if continues_in x c then 1 + (v.0 + 1) else v.0 + 1) = rw unused refl in
    (v.0, v.2, λ b j z. subst (λ y. Size both ms d (Then y b) j (v.0 + 1)) (sym is) (size_repeats z v.1 r))

call_goes : (cap : ℕ) (both : ℕ → ℕ → ℕ) (ms : List ModuleTree) (d : Declaration) (t : Statement) (path roles : List (List ℕ)) (s : Spot) (c : Declaration) (f : ℕ → ℕ) → t ≡ Calls path roles s → called ms d.home path ≡ Some c → BlockSize cap both ms c (body_of c.protocol.body) f
    → StatementSize cap both ms d t f
call_goes cap both ms d t path roles s c f is there block = λ k.
    let v = block k in
    (v.0, v.2, λ b j z. subst (λ x. Size both ms d (Then x b) j (v.0 + 1)) (sym is) (size_calls z there v.1))

-- the same for nodes and heights

pub record IsPartialSize (ms : List ModuleTree) (d : Declaration) (whole : Body) (e : SizeBound) (b : Body) : Type 0 where
  pub nodes : IsGoing 65536 ◌+◌ ms d whole (nodes_at e.nodes) b
  pub height : IsGoing 4096 max ms d whole (height_at e.height) b

pub begin_size : (ms : List ModuleTree) (d : Declaration) (whole : Body) (e : SizeBound) → IsRow 0 e → IsPartialSize ms d whole e whole
begin_size ms d whole e row = record {
  nodes = begin_going 65536 ◌+◌ ms d whole (nodes_at e.nodes) row.nodes;
  height = begin_going 4096 max ms d whole (height_at e.height) row.height;
}

pub step_size : (ms : List ModuleTree) (d : Declaration) (whole : Body) (e f g : SizeBound) (b c : Body) (s : Statement) → b ≡ Then s c → AreComposed e f g → StatementHasSize ms d s f → IsPartialSize ms d whole e b → IsPartialSize ms d whole g c
step_size ms d whole e f g b c s is put step l = record {
  nodes = step_going 65536 ◌+◌ ms d whole (nodes_at e.nodes) (nodes_at f.nodes) (nodes_at g.nodes) b c s is put.nodes step.nodes l.nodes;
  height = step_going 4096 max ms d whole (height_at e.height) (height_at f.height) (height_at g.height) b c s is put.height step.height l.height;
}

pub end_size : (ms : List ModuleTree) (d : Declaration) (whole : Body) (e : SizeBound) (b : Body) → b ≡ Done → IsPartialSize ms d whole e b → BlockHasSize ms d whole e
end_size ms d whole e b is l = record {
  nodes = end_going 65536 ◌+◌ ms d whole (nodes_at e.nodes) b is l.nodes;
  height = end_going 4096 max ms d whole (height_at e.height) b is l.height;
}

pub record ArePartialSizes (ms : List ModuleTree) (d : Declaration) (whole : Blocks) (e : SizeBound) (bs : Blocks) : Type 0 where
  pub nodes : AreGoing 65536 ◌+◌ ms d whole (nodes_at e.nodes) bs
  pub height : AreGoing 4096 max ms d whole (height_at e.height) bs

pub begin_blocks : (ms : List ModuleTree) (d : Declaration) (whole : Blocks) (e : SizeBound) → IsEnd e → ArePartialSizes ms d whole e whole
begin_blocks ms d whole e end = record {
  nodes = begin_blocks_going 65536 ◌+◌ ms d whole (nodes_at e.nodes) sums_gather end.nodes;
  height = begin_blocks_going 4096 max ms d whole (height_at e.height) heights_gather end.height;
}

pub step_blocks : (ms : List ModuleTree) (d : Declaration) (whole : Blocks) (e f g : SizeBound) (bs cs : Blocks) (b : Body) (s : Spot) → bs ≡ OrBlock b s cs → AreJoined e f g → BlockHasSize ms d b f → ArePartialSizes ms d whole e bs
    → ArePartialSizes ms d whole g cs
step_blocks ms d whole e f g bs cs b s is joined block l = record {
  nodes = step_blocks_going 65536 ◌+◌ ms d whole (nodes_at e.nodes) (nodes_at f.nodes) (nodes_at g.nodes) bs cs b s sums_gather is joined.nodes block.nodes l.nodes;
  height = step_blocks_going 4096 max ms d whole (height_at e.height) (height_at f.height) (height_at g.height) bs cs b s heights_gather is joined.height block.height l.height;
}

pub end_blocks : (ms : List ModuleTree) (d : Declaration) (whole : Blocks) (e : SizeBound) (bs : Blocks) → bs ≡ NoBlock → ArePartialSizes ms d whole e bs → BlocksHaveSize ms d whole e
end_blocks ms d whole e bs is l = record {
  nodes = end_blocks_going 65536 ◌+◌ ms d whole (nodes_at e.nodes) bs sums_gather is l.nodes;
  height = end_blocks_going 4096 max ms d whole (height_at e.height) bs heights_gather is l.height;
}

pub message_size : (ms : List ModuleTree) (d : Declaration) (t : Statement) (m : Message) (p : List ℕ) (qs : List (List ℕ)) (s : Spot) (e : SizeBound) → t ≡ Sends m p qs s → IsRow (length qs) e → StatementHasSize ms d t e
message_size ms d t m p qs s e is row = record {
  nodes = message_goes 65536 ◌+◌ ms d t m p qs s (nodes_at e.nodes) is row.nodes;
  height = message_goes 4096 max ms d t m p qs s (height_at e.height) is row.height;
}

pub continue_size : (ms : List ModuleTree) (d : Declaration) (t : Statement) (x : List ℕ) (s : Spot) (e : SizeBound) → t ≡ Continues x s → IsEnd e → StatementHasSize ms d t e
continue_size ms d t x s e is end = record {
  nodes = continue_goes 65536 ◌+◌ ms d t x s (nodes_at e.nodes) is end.nodes;
  height = continue_goes 4096 max ms d t x s (height_at e.height) is end.height;
}

pub choice_size : (ms : List ModuleTree) (d : Declaration) (t : Statement) (p : List ℕ) (bs whole : Blocks) (s : Spot) (e : SizeBound) → t ≡ Chooses p bs s → whole ≡ bs → BlocksHaveSize ms d whole e → StatementHasSize ms d t e
choice_size ms d t p bs whole s e is w h = record {
  nodes = choice_goes 65536 ◌+◌ ms d t p bs whole s (nodes_at e.nodes) is w h.nodes;
  height = choice_goes 4096 max ms d t p bs whole s (height_at e.height) is w h.height;
}

pub loop_size : (ms : List ModuleTree) (d : Declaration) (t : Statement) (x : List ℕ) (c whole : Body) (s : Spot) (e f g : SizeBound) → t ≡ Repeats x c s → whole ≡ c → continues_in x c ≡ true → IsRow 1 e → AreComposed e f g → BlockHasSize ms d whole f → StatementHasSize ms d t g
loop_size ms d t x c whole s e f g is w used row put block = record {
  nodes = loop_goes 65536 ◌+◌ ms d t x c whole s (nodes_at e.nodes) (nodes_at f.nodes) (nodes_at g.nodes) is w used row.nodes put.nodes block.nodes;
  height = loop_goes 4096 max ms d t x c whole s (height_at e.height) (height_at f.height) (height_at g.height) is w used row.height put.height block.height;
}

pub pass_size : (ms : List ModuleTree) (d : Declaration) (t : Statement) (x : List ℕ) (c whole : Body) (s : Spot) (e : SizeBound) → t ≡ Repeats x c s → whole ≡ c → continues_in x c ≡ false → BlockHasSize ms d whole e → StatementHasSize ms d t e
pass_size ms d t x c whole s e is w unused block = record {
  nodes = pass_goes 65536 ◌+◌ ms d t x c whole s (nodes_at e.nodes) is w unused block.nodes;
  height = pass_goes 4096 max ms d t x c whole s (height_at e.height) is w unused block.height;
}

pub call_size : (ms : List ModuleTree) (d : Declaration) (t : Statement) (path roles : List (List ℕ)) (s : Spot) (c : Declaration) (e : SizeBound) → t ≡ Calls path roles s → called ms d.home path ≡ Some c → BlockHasSize ms c (body_of c.protocol.body) e → StatementHasSize ms d t e
call_size ms d t path roles s c e is there block = record {
  nodes = call_goes 65536 ◌+◌ ms d t path roles s c (nodes_at e.nodes) is there block.nodes;
  height = call_goes 4096 max ms d t path roles s c (height_at e.height) is there block.height;
}
