-- Why a call is declined: each cause with its number and place, and each procedure's causes in their order. The first that applies is the refusal.
-- A cause that a check finds without the whole call is written over what it looks at, and then taken for a call.
-- Assumes nothing.
use Rattle.std.specs.Prelude.{ℕ, zero, suc, ◌*◌, ◌-◌, Bool, true, false, not, ◌&&◌, ◌||◌, List, [], ◌∷◌, ◌++◌, ◌≡◌, eqb, ltb, length}
use Rattle.std.proofs.Math.Option.{Option, none, some}
use Rattle.graph_theory.specs.Builder.{Fragment, tree}
use Rattle.graph_theory.specs.Graph.{joined}
use Rattle.refusal.specs.declared.Refusal.{Refusal}
use Rattle.rowset.specs.Bytes.{in_row}
use Rattle.rowset.specs.Sets.{any, uppermost, count}
use Rattle.rowset.specs.Words.{column_words}
use Rattle.star_spec.specs.Call.{Call, rows_of, used, graph_of, weight_of, claimed}

-- the largest n and m that are taken
abbrev pub max_vertices : ℕ
max_vertices = 255

abbrev pub max_rows : ℕ
max_rows = 1024

-- the refusal with this number and place where the test holds
unfoldable pub cause : Bool → ℕ → ℕ → Option Refusal
cause true number place = some (record { number = number; place = place })
cause false number place = none

-- the refusal at a row or vertex, where 0 says that there is none
unfoldable pub cause_at : ℕ → ℕ → Option Refusal
cause_at number zero = none
cause_at number (suc i) = some (record { number = number; place = suc i })

-- 1: n is 0 or above 255
unfoldable pub bad_vertices : ℕ → Option Refusal
bad_vertices n = cause (eqb n 0 || ltb max_vertices n) 1 0

-- 2: m above 1,024
unfoldable pub too_many_rows : ℕ → Option Refusal
too_many_rows m = cause (ltb max_rows m) 2 0

-- 3: the rows in use are not handed in for m rows, the left, right or mark column is not m bytes, or the weight column not 4 · m
abbrev pub wrong_lengths : (whole : Bool) → (m left right weight mark : ℕ) → Option Refusal
wrong_lengths whole m left right weight mark =
    cause (not whole || not (eqb left m) || not (eqb right m) || not (eqb mark m) || not (eqb weight (4 * m))) 3 0

unfoldable pub bad_lengths : Call → Option Refusal
bad_lengths c = wrong_lengths c.whole (rows_of c) (length c.left) (length c.right) (length c.weight) (length c.mark)

-- an end is 0 or above n, or both ends are equal
abbrev pub wrong_ends : (n a b : ℕ) → Bool
wrong_ends n a b = eqb a 0 || ltb n a || eqb b 0 || ltb n b || eqb a b

-- row i is one of the rows, and its ends are wrong
unfoldable pub wrong_row : (rows : ℕ → Bool) → ℕ → (left right : List ℕ) → ℕ → Bool
wrong_row rows n left right i = rows i && wrong_ends n (in_row 1 left i) (in_row 1 right i)

unfoldable pub bad_ends : Call → ℕ → Bool
bad_ends c = wrong_row (used c) c.n c.left c.right

-- 4: sought among the rows in use, row by row from the top
unfoldable pub bad_row : Call → Option Refusal
bad_row c = cause_at 4 (uppermost (rows_of c) (bad_ends c))

-- the ends a and b are the same pair as the ends x and y, in either direction
abbrev pub same_pair : (a b x y : ℕ) → Bool
same_pair a b x y = eqb a x && eqb b y || eqb a y && eqb b x

-- row i is one of the rows, and another of them above it joins the same pair of ends
unfoldable pub repeats_above : (rows : ℕ → Bool) → (left right : List ℕ) → ℕ → Bool
repeats_above rows left right i =
    rows i && any (i - 1) (λ k. rows k && same_pair (in_row 1 left k) (in_row 1 right k) (in_row 1 left i) (in_row 1 right i))

unfoldable pub repeats : Call → ℕ → Bool
repeats c = repeats_above (used c) c.left c.right

-- 15: the uppermost row in use that repeats an earlier one
unfoldable pub repeated_row : Call → Option Refusal
repeated_row c = cause_at 15 (uppermost (rows_of c) (repeats c))

-- row i is one of the rows, and its claim byte is neither 0 nor 1
unfoldable pub wrong_byte : (rows : ℕ → Bool) → (mark : List ℕ) → ℕ → Bool
wrong_byte rows mark i = rows i && ltb 1 (in_row 1 mark i)

-- 6: a claim byte other than 0 and 1 at a row in use
unfoldable pub bad_claim : Call → Option Refusal
bad_claim c = cause_at 6 (uppermost (rows_of c) (wrong_byte (used c) c.mark))

-- 7: s is 0 or above n
abbrev pub wrong_source : (n s : ℕ) → Option Refusal
wrong_source n s = cause (eqb s 0 || ltb n s) 7 0

unfoldable pub bad_source : Call → ℕ → Option Refusal
bad_source c s = wrong_source c.n s

-- 8: R is shorter than 16 · n words
abbrev pub few_words : (n size : ℕ) → Option Refusal
few_words n size = cause (ltb size (column_words * n)) 8 0

unfoldable pub short_matrix : Call → ℕ → Option Refusal
short_matrix c size = few_words c.n size

-- 9: the marks are not n − 1
abbrev pub wrong_count : (n m : ℕ) → (marks : ℕ → Bool) → Option Refusal
wrong_count n m marks = cause (not (eqb (suc (count m marks)) n)) 9 0

unfoldable pub bad_count : Call → Option Refusal
bad_count c = wrong_count c.n (rows_of c) (claimed c)

-- 10: no tree; the place is the smallest vertex that marked rows do not join to s
abbrev pub unreached : ℕ → (reached : ℕ → Bool) → Option Refusal
unreached n reached = cause_at 10 (uppermost n (λ v. not (reached v)))

unfoldable pub unjoined : Call → ℕ → Option Refusal
unjoined c s = unreached c.n (joined (graph_of c) (claimed c) s)

-- 11: no spanning tree exists
unfoldable pub is_none : Option Fragment → Bool
is_none none = true
is_none (some f) = false

unfoldable pub no_tree : Call → Option Refusal
no_tree c = cause (is_none (tree (graph_of c) (weight_of c))) 11 0

-- the causes that concern the rows, and those of every procedure that takes the table, in order: a 4 in any row goes before a 15 in any row
abbrev pub row_causes : Call → List (Option Refusal)
row_causes c = bad_row c ∷ repeated_row c ∷ []

unfoldable pub table_causes : Call → List (Option Refusal)
table_causes c = bad_vertices c.n ∷ too_many_rows (rows_of c) ∷ bad_lengths c ∷ row_causes c

-- the causes of each procedure, in order; MatrixPath seeks all but the last before it walks
abbrev pub before_walk : Call → ℕ → ℕ → List (Option Refusal)
before_walk c s size = table_causes c ++ (bad_claim c ∷ bad_source c s ∷ short_matrix c size ∷ bad_count c ∷ [])

unfoldable pub matrix_path_causes : Call → ℕ → ℕ → List (Option Refusal)
matrix_path_causes c s size = before_walk c s size ++ (unjoined c s ∷ [])

unfoldable pub cst_causes : Call → List (Option Refusal)
cst_causes c = table_causes c ++ (bad_claim c ∷ bad_count c ∷ unjoined c 1 ∷ [])

unfoldable pub mst1_causes : Call → List (Option Refusal)
mst1_causes c = table_causes c ++ (no_tree c ∷ [])

-- the first refusal of a list of causes
unfoldable pub or_else : Option Refusal → Option Refusal → Option Refusal
or_else none later = later
or_else (some r) later = some r

unfoldable pub refusal : List (Option Refusal) → Option Refusal
refusal [] = none
refusal (x ∷ xs) = or_else x (refusal xs)

-- an accepted table, with its mark column: none of causes 1 to 4 and 15 applies
abbrev pub Accepted : Call → Type 0
Accepted c = refusal (table_causes c) ≡ none
