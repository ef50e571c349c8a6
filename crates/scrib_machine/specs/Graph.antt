-- The text of a machine as a graph in the DOT language (Graphviz, https://graphviz.org/doc/info/lang.html); which
-- lines it has is this project's own.
use Rattle.std.specs.Prelude.{ℕ, ◌+◌, List, [], ◌∷◌, ◌++◌, codes}
use Rattle.std.specs.Fmt.{decimal}
use Rattle.scrib_types.specs.Texts.{action_text}
use Rattle.scrib_machine.specs.declared.machine.Edge.{Edge}

-- the lines before the states: a directed graph, drawn from left to right, with an arrow from a point to state 0
abbrev pub graph_head : List ℕ
graph_head = codes "digraph machine {\n  rankdir=LR;\n  node [shape=circle];\n  start [shape=point];\n  start -> 0;\n"

-- an end, a state without edges, is a double circle
abbrev pub shape_of : List Edge → List ℕ
shape_of [] = codes " [shape=doublecircle]"
shape_of (e ∷ es) = []

-- `  3;`, or `  3 [shape=doublecircle];` for an end
unfoldable pub state_line : ℕ → List Edge → List ℕ
state_line n es = codes "  " ++ decimal n ++ shape_of es ++ codes ";\n"

-- a line for each state, the first of which has this number
abbrev pub state_lines : ℕ → List (List Edge) → List ℕ
state_lines n [] = []
state_lines n (es ∷ m) = state_line n es ++ state_lines (n + 1) m

-- `  0 -> 1 [label="B!hello()"];`
unfoldable pub edge_line : ℕ → Edge → List ℕ
edge_line n e =
    codes "  " ++ decimal n ++ codes " -> " ++ decimal e.next
    ++ codes " [label=\"" ++ action_text e.action ++ codes "\"];\n"

-- a line for each edge of the state of this number
abbrev pub lines_from : ℕ → List Edge → List ℕ
lines_from n [] = []
lines_from n (e ∷ es) = edge_line n e ++ lines_from n es

-- a line for each edge of each state, the first of which has this number
abbrev pub edge_lines : ℕ → List (List Edge) → List ℕ
edge_lines n [] = []
edge_lines n (es ∷ m) = lines_from n es ++ edge_lines (n + 1) m

-- the states and then the edges, in the order that the machine has them
unfoldable pub graph_text : List (List Edge) → List ℕ
graph_text m = graph_head ++ state_lines 0 m ++ edge_lines 0 m ++ codes "}\n"
