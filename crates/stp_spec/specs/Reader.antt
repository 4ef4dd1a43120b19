-- The reader of an STP text, word by word. At each word it stands at one place of the layout, which says whether the word must be the first of its line and which
-- words may come; the first word that cannot stand is where reading ends. So a word too many on a line, and the next word after a line that ends too soon, are told at that word.
-- Assumes nothing.
use Rattle.std.specs.Prelude.{ℕ, suc, ◌*◌, Bool, true, false, not, cond, ◌&&◌, List, [], ◌∷◌, ◌++◌, leb, ℤ, take}
use Rattle.std.proofs.Math.Option.{Option, none, some}
use Rattle.rowset.specs.Integers.{to_bits}
use Rattle.star_spec.specs.Door.{bytes_of}
use Rattle.star_spec.specs.Refusals.{max_rows, max_vertices}
use Rattle.stp_words.specs.Names.{is}
use Rattle.stp_words.specs.Numbers.{number_of, price_of}
use Rattle.stp_words.specs.Text.{Word}

-- what is read so far: whether a Graph has begun, what Nodes and Edges say, the number of E lines, and the columns of their rows in file order;
-- the columns have 1,024 rows at most, and further rows are counted only
pub record Read : Type 0 where
  pub graph : Bool
  pub nodes : ℕ
  pub edges : ℕ
  pub rows : ℕ
  pub left : List ℕ
  pub right : List ℕ
  pub weight : List ℕ

unfoldable pub nothing_read : Read
nothing_read = record { graph = false; nodes = 0; edges = 0; rows = 0; left = []; right = []; weight = [] }

unfoldable pub with_graph : Read → Read
with_graph r = record { graph = true; nodes = r.nodes; edges = r.edges; rows = r.rows; left = r.left; right = r.right; weight = r.weight }

unfoldable pub with_nodes : Read → ℕ → Read
with_nodes r k = record { graph = r.graph; nodes = k; edges = r.edges; rows = r.rows; left = r.left; right = r.right; weight = r.weight }

unfoldable pub with_edges : Read → ℕ → Read
with_edges r k = record { graph = r.graph; nodes = r.nodes; edges = k; rows = r.rows; left = r.left; right = r.right; weight = r.weight }

-- an end above 255 is stored as 0
unfoldable pub end_of : ℕ → ℕ
end_of v = cond (leb v max_vertices) v 0

-- one row more, with the 32 bits of its price
unfoldable pub with_row : Read → ℕ → ℕ → ℕ → Read
with_row r a b w =
    record {
      graph = r.graph;
      nodes = r.nodes;
      edges = r.edges;
      rows = suc r.rows;
      left = take max_rows (r.left ++ (end_of a ∷ []));
      right = take max_rows (r.right ++ (end_of b ∷ []));
      weight = take (4 * max_rows) (r.weight ++ bytes_of 4 w);
    }

-- where the reader stands
pub data Stand : Type 0 where
  -- before the first word, and in the rest of the first line, which is free
  opening : Stand
  heading : Stand
  -- between sections, and after SECTION
  sections : Stand
  naming : Stand
  -- in a section that is skipped: after its name, in a line, and after a line's first word END
  skipping : Stand
  skipped : Stand
  ending : Stand
  -- in Graph: before Nodes and its count, before Edges and its count, before a line of E or END, and before each end and the price of an E line
  nodes : Stand
  node_count : Stand
  edges : Stand
  edge_count : Stand
  lines : Stand
  left_end : Stand
  right_end : ℕ → Stand
  price : ℕ → ℕ → Stand
  -- after EOF
  closed : Stand

-- where the reader stands after a word, and what is read by then; none where the word cannot stand
abbrev pub Next : Type 0
Next = Option (Stand × Read)

unfoldable pub when : Bool → Stand × Read → Next
when true x = some x
when false x = none

-- a number or a price on the line that is being read
unfoldable pub counted : {A : Type 0} → Option A → (A → Stand × Read) → Next
counted none f = none
counted (some k) f = some (f k)

unfoldable pub number_then : Word → (ℕ → Stand × Read) → Next
number_then w f = cond w.first none (counted (number_of w.letters) f)

unfoldable pub price_then : Word → (ℤ → Stand × Read) → Next
price_then w f = cond w.first none (counted (price_of w.letters) f)

-- the first word of a line between sections: SECTION, or EOF once a Graph has been read
unfoldable pub next_section : Read → Word → Next
next_section r w = cond (is "SECTION" w) (some (naming, r)) (when (is "EOF" w && r.graph) (closed, r))

-- the name of a section, of which one alone is Graph
unfoldable pub named : Read → Word → Next
named r w = cond (is "Graph" w) (when (not r.graph) (nodes, with_graph r)) (some (skipping, r))

-- the first word of a line in a section that is skipped
unfoldable pub skip_line : Word → Stand
skip_line w = cond (is "END" w) ending skipped

-- the first word of a line after Nodes and Edges
unfoldable pub graph_line : Read → Word → Next
graph_line r w = cond (is "E" w) (some (left_end, r)) (when (is "END" w) (sections, r))

unfoldable pub next : Stand → Read → Word → Next
next opening r w = when (is "33D32945" w) (heading, r)
next heading r w = cond w.first (next_section r w) (some (heading, r))
next sections r w = cond w.first (next_section r w) none
next naming r w = cond w.first none (named r w)
next skipping r w = cond w.first (some (skip_line w, r)) none
next skipped r w = cond w.first (some (skip_line w, r)) (some (skipped, r))
next ending r w = cond w.first (next_section r w) (some (skipped, r))
next nodes r w = when (w.first && is "Nodes" w) (node_count, r)
next node_count r w = number_then w (λ k. (edges, with_nodes r k))
next edges r w = when (w.first && is "Edges" w) (edge_count, r)
next edge_count r w = number_then w (λ k. (lines, with_edges r k))
next lines r w = cond w.first (graph_line r w) none
next left_end r w = number_then w (λ a. (right_end a, r))
next (right_end a) r w = number_then w (λ b. (price a b, r))
next (price a b) r w = price_then w (λ c. (lines, with_row r a b (to_bits 32 c)))
next closed r w = none

-- what reading comes to: the layout is broken at a place, or the text is read whole
pub data Reading : Type 0 where
  broken : ℕ → Reading
  whole : Read → Reading

unfoldable pub is_closed : Stand → Bool
is_closed opening = false
is_closed heading = false
is_closed sections = false
is_closed naming = false
is_closed skipping = false
is_closed skipped = false
is_closed ending = false
is_closed nodes = false
is_closed node_count = false
is_closed edges = false
is_closed edge_count = false
is_closed lines = false
is_closed left_end = false
is_closed (right_end a) = false
is_closed (price a b) = false
is_closed closed = true

unfoldable pub follow : Next → ℕ → (Stand → Read → Reading) → Reading
follow none at go = broken at
follow (some (s, r)) at go = go s r

-- the words that are left of a text of `size` bytes; a text that ends early is broken at its length
unfoldable pub read_from : ℕ → Stand → Read → List Word → Reading
read_from size s r [] = cond (is_closed s) (whole r) (broken size)
read_from size s r (w ∷ ws) = follow (next s r w) w.at (λ s' r'. read_from size s' r' ws)
