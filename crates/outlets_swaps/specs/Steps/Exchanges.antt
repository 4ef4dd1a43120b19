-- Exchanges one after the other as the machine makes them: the rows of the tree, the words of the path matrix from r, and two columns of numbers, one number a row.
-- Assumes nothing.
use Rattle.std.specs.Prelude.{ℕ, zero, suc, ◌-◌, eqb, ℤ, length, get_or, replicate, Bool, true, false, cond, List, [], ◌∷◌, ◌≡◌}
use Rattle.std.proofs.Math.Option.{Option, none, some}
use Rattle.path_exchange.specs.Turned.{columns_turned}
use Rattle.path_matrix.specs.Matrix.{matrix_column}
use Rattle.outlets_kept.specs.Steps.Offers.{no_cost, cost_of, cheapest_to}
use Rattle.rowset.specs.Bytes.{in_row}
use Rattle.rowset.specs.Searches.{largest}
use Rattle.rowset.specs.Sets.{empty, both, one_of, uppermost}
use Rattle.slice.specs.Slices.{size, written}

-- what stays: the ends of the rows, their prices, the weights that MAX reads, and the rows at r
pub record Given : Type 0 where
  pub left : List ℕ
  pub right : List ℕ
  pub price : ℕ → ℕ
  pub weight : ℕ → ℤ
  pub at : ℕ → Bool

-- what changes: the rows of the tree, the words of the path matrix, and for each row the row at r that would go out for it and the cost
pub record State : Type 0 where
  pub chosen : ℕ → Bool
  pub own : List ℕ
  pub out : List ℕ
  pub cost : List ℕ

-- the number of row i in a column
abbrev pub number_of : List ℕ → ℕ → ℕ
number_of l i = get_or l (i - 1) 0

-- the rows between row i's ends: the xor of the columns of its two vertices
unfoldable pub between : (own left right : List ℕ) → ℕ → ℕ → Bool
between own left right i = one_of (matrix_column own (in_row 1 left i)) (matrix_column own (in_row 1 right i))

abbrev pub path_of : Given → List ℕ → ℕ → ℕ → Bool
path_of x own i = between own x.left x.right i

-- the dearest row at r on row i's path, the uppermost among equals, 0 where there is none
unfoldable pub dearest : Given → List ℕ → ℕ → ℕ
dearest x own i = uppermost size (largest size x.weight (both (path_of x own i) x.at))

-- what the exchange for it costs
abbrev pub costs : Given → List ℕ → ℕ → ℕ
costs x own i = cost_of x.price i (dearest x own i)

-- a column with the numbers `to` at the rows of P, and the others as they were; i rows are before it
unfoldable pub filled : (P : ℕ → Bool) → (to : ℕ → ℕ) → ℕ → List ℕ → List ℕ
filled P to i [] = []
filled P to i (y ∷ l) = cond (P (suc i)) (to (suc i)) y ∷ filled P to (suc i) l

-- the state once the rows of P are looked at
unfoldable pub found : Given → (P : ℕ → Bool) → State → State
found x P s =
    record {
      chosen = s.chosen;
      own = s.own;
      out = filled P (dearest x s.own) 0 s.out;
      cost = filled P (costs x s.own) 0 s.cost;
    }

-- the rows for which row e is kept
abbrev pub kept_as : List ℕ → ℕ → ℕ → Bool
kept_as out e i = eqb (number_of out i) e

-- the rows of a tree, as a slice has them, with row e out and row f in
unfoldable pub swapped : (ℕ → Bool) → (e f : ℕ) → ℕ → Bool
swapped S e f = written (written S e false) f true

-- row e goes out and row f comes in: the tree, and the path matrix turned over by the ring
unfoldable pub turned : Given → (n e f : ℕ) → State → State
turned x n e f s =
    record {
      chosen = swapped s.chosen e f;
      own = columns_turned s.own n e (written (path_of x s.own f) f true);
      out = s.out;
      cost = s.cost;
    }

-- one exchange, where 0 says that there is no row to come in
unfoldable pub exchange_by : Given → (n f : ℕ) → State → Option State
exchange_by x n zero s = none
exchange_by x n (suc j) s = some (found x (kept_as s.out (number_of s.out (suc j))) (turned x n (number_of s.out (suc j)) (suc j) s))

-- the row whose exchange costs least
unfoldable pub picked : State → ℕ
picked s = (cheapest_to (number_of s.cost) (length s.cost)).row

unfoldable pub exchange_after : Given → (n : ℕ) → Option State → Option State
exchange_after x n none = none
exchange_after x n (some s) = exchange_by x n (picked s) s

-- after k exchanges
unfoldable pub exchanges_to : Given → (n k : ℕ) → State → Option State
exchanges_to x n zero s = some s
exchanges_to x n (suc k) s = exchange_after x n (exchanges_to x n k s)

-- the state after k exchanges, or after as many as there are
unfoldable pub or_stays : State → Option State → State
or_stays s none = s
or_stays s (some t) = t

unfoldable pub last_state : Given → (n k : ℕ) → State → State
last_state x n zero s = s
last_state x n (suc k) s = or_stays (last_state x n k s) (exchange_by x n (picked (last_state x n k s)) (last_state x n k s))

-- the first state: the rows of a set are looked at
unfoldable pub first_state : Given → (rest chosen : ℕ → Bool) → (own : List ℕ) → State
first_state x rest chosen own = found x rest (record { chosen = chosen; own = own; out = replicate size 0; cost = replicate size no_cost })

-- what is left: whether all exchanges were made, and the rows then, none where they were not
unfoldable pub is_made : Option State → Bool
is_made none = false
is_made (some s) = true

unfoldable pub rows_left : Option State → ℕ → Bool
rows_left none = empty
rows_left (some s) = s.chosen

pub record Ends (o : Option State) (whole : Bool) (chosen : ℕ → Bool) : Type 0 where
  pub all : whole ≡ is_made o
  pub rows : chosen ≡ rows_left o
