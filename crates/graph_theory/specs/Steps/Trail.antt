-- The walk of MatrixPath: the vertices reached so far, and for each vertex the column of the rows by which it was reached.
-- Assumes nothing.
use Rattle.std.specs.Prelude.{ℕ, zero, suc, Bool, cond, eqb}
use Rattle.graph_theory.specs.Graph.{Graph, crosses}
use Rattle.rowset.specs.Sets.{empty, both, put, uppermost}

pub record Trail : Type 0 where
  pub vertices : ℕ → Bool
  pub columns : ℕ → ℕ → Bool

-- of a row with exactly one end in Q, the end in Q and the other
unfoldable pub near : Graph → (ℕ → Bool) → ℕ → ℕ
near g Q i = cond (Q (g.a i)) (g.a i) (g.b i)

unfoldable pub far : Graph → (ℕ → Bool) → ℕ → ℕ
far g Q i = cond (Q (g.a i)) (g.b i) (g.a i)

-- the trail with row i: its far end is reached, and that vertex's column is the near end's with row i; 0 is no row
unfoldable pub extend : Graph → Trail → ℕ → Trail
extend g t zero = t
extend g t (suc j) =
    record {
      vertices = put t.vertices (far g t.vertices (suc j));
      columns =
          λ v.
          cond (eqb v (far g t.vertices (suc j)))
          (put (t.columns (near g t.vertices (suc j))) (suc j))
          (t.columns v);
    }

-- the trail from s after k rows of S: each the uppermost that has exactly one end in the vertices reached
unfoldable pub trail : Graph → (ℕ → Bool) → ℕ → ℕ → Trail
trail g S s zero = record { vertices = put empty s; columns = λ v. empty }
trail g S s (suc k) =
    let t = trail g S s k in
    extend g t (uppermost g.m (both S (crosses g t.vertices)))
