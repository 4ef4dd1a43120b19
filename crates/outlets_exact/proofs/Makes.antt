-- What is made of the start and the exchanges, with weights in columns that hold the loaded ones.
-- Main statements: the exchanges by the number of rows at r (reduced-none, reduced-whole, reduced-made); no tree, and one with exchanges made on it (makes_none, makes-some). Assumes nothing.
use Prim.Native.Nat.{ℕ, ◌-◌, ◌≤◌, ◌<◌}
use borrow.Author.Tests.{lt-ltb, le-ltb}
use lib.IntN.{ℤ}
use mathlib.Core.Bool.{Bool, true, false}
use mathlib.Core.List.{List}
use mathlib.Core.Path.{◌≡◌, refl, sym, ◌∙◌}
use native.Mathlib.Omega.{arith}
use Rattle.outlets_theory.specs.Degree.{touches}
use Rattle.outlets_swaps.proofs.Turns.{ends-none, ends-made}
use Rattle.outlets_swaps.specs.Steps.Columns.{price_in}
use Rattle.outlets_swaps.specs.Steps.Exchanges.{Given, found, exchanges_to, first_state, Ends}
use Rattle.rowset.proofs.Laws.{clash}
use Rattle.rowset.specs.Sets.{empty, both, without, count}
use Rattle.mst1.specs.Steps.Growth.{chosen_in}
use Rattle.outlets_exact.specs.declared.NotMade.{NotMade}
use Rattle.outlets_exact.specs.declared.NotMade.TheVariants.{NoExactTree}
use Rattle.slice.specs.Slices.{size}
use Rattle.slice.specs.declared.Slice.{Slice}
use Rattle.std.proofs.Common.{Option, Some, None, Result, ok_or, is_ok, is_some}
use Rattle.outlets_start.specs.Steps.Start.{graph_in, Starts}
use Rattle.table.specs.Loads.{loaded_row}
use Rattle.outlets_exact.specs.Steps.Reduced.{joined_in, rows_in, reduced_by, walked, forest_in, reduced_from, Held, used_in, loaded_in, weight_in, Makes}

-- ── The exchanges ──

module _ (x : Given) (U T : ℕ → Bool) (r n t have : ℕ) (is : have ≡ count size (both T x.at)) {whole : Bool} {chosen : ℕ → Bool} where
  -- there are fewer than t rows at r
  pub reduced-none : have < t → whole ≡ false → chosen ≡ empty → Ends (reduced_from x U T r n t) whole chosen
  unfolding reduced_by
  reduced-none l p q = rw (← is, lt-ltb have t l) (ends-none refl p q)

  -- there are exactly t, and no exchange is made
  pub reduced-whole : have ≡ t → whole ≡ true → chosen ≡ T → Ends (reduced_from x U T r n t) whole chosen
  unfolding reduced_by exchanges_to first_state found
  reduced-whole e p q =
      let enough : t ≤ have = omega (arith, e) in
      let over : have - t ≡ 0 = omega (arith, e) in
      rw (p, q, ← is, le-ltb have t enough, over) (ends-made refl refl)

  -- there are more, and the exchanges are made for rows of the forest of those that are not at r, with the path matrix from r
  pub reduced-made : t ≤ have → (away forest : ℕ → Bool) (own : List ℕ) → away ≡ without U x.at → forest ≡ forest_in x away n → own ≡ walked (loaded_row 1 x.left) (loaded_row 1 x.right) T r n → Ends (exchanges_to x n (have - t) (first_state x forest T own)) whole chosen → Ends (reduced_from x U T r n t) whole chosen
  unfolding reduced_by
  reduced-made l away forest own p f q e = rw (← is, le-ltb have t l, ← p, ← f, ← q) e

-- ── What is made ──

module _ (h : Held) (r t : ℕ) {U : ℕ → Bool} {w : ℕ → ℤ} {whole : Bool} {chosen : ℕ → Bool}
    (eu : U ≡ used_in h) (ew : w ≡ weight_in h) (s : Starts (graph_in (loaded_row 1 h.left) (loaded_row 1 h.right) U h.n) w r whole chosen) where
  same-starts : Starts (loaded_in h) (weight_in h) r whole chosen
  same-starts = rw (eu, ew) at s

  -- there is no tree
  pub makes_none : whole ≡ false → {left : Bool} {remaining : ℕ → Bool} → left ≡ false → remaining ≡ empty → Makes h r t false left remaining
  makes_none e l q = record { joins = sym e ∙ same-starts.all; ends-not = λ _. (l, q); ends = λ z. clash z refl }

  -- there is one, and exchanges are made on it
  pub makes-some : whole ≡ true → {at : ℕ → Bool} → at ≡ both U (touches (graph_in (loaded_row 1 h.left) (loaded_row 1 h.right) U h.n) r) → {left : Bool} {remaining : ℕ → Bool}
      → Ends (reduced_from (record { left = h.left; right = h.right; price = price_in h.weight; weight = w; at = at }) U chosen r h.n t) left remaining → Makes h r t true left remaining
  makes-some e is_at ends = record { joins = sym e ∙ same-starts.all; ends-not = λ q. clash refl q; ends = λ q. rw (is_at, eu, ew, same-starts.rows) at ends }

-- what is made as a result: the rows that are left, or that there are none
pub made-of : (h : Held) (r t : ℕ) (o : Option Slice) {x : Result Slice NotMade} → x ≡ ok_or o NoExactTree → Makes h r t true (is_some o) (chosen_in o) → Makes h r t (joined_in x) (is_ok x) (rows_in x)
unfolding chosen_in joined_in rows_in
made-of h r t None e m = rw e m
made-of h r t (Some tree) e m = rw e m
