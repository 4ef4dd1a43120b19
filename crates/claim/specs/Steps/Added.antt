-- What is added up before 2 ^ 31 is taken off for each row. No contract of a public function speaks of it. Assumes nothing.
use Rattle.std.specs.Prelude.{◌≡◌, ℕ, ◌*◌, ◌≤◌, Bool, List}
use Rattle.rowset.specs.Bytes.{in_row}
use Rattle.rowset.specs.Sets.{sum, count}
use Rattle.rowset.specs.Steps.Flipped.{flipped}

-- over the rows of p among the first m of a weight column, the sum of the flipped weights, each less than 2 ^ 32, and 2 ^ 31 for each row
pub record Added (weight : List ℕ) (p : ℕ → Bool) (m above taken : ℕ) : Type 0 where
  pub total : above ≡ sum m (λ k. flipped (in_row 4 weight k)) p
  pub rows : taken ≡ 2147483648 * count m p
  pub small : above ≤ m * 4294967295
  pub few : taken ≤ m * 2147483648
