-- The four searches of the machine over any selection X: each looks only at the rows that X selects. MATCH is over the numbers of the rows' bits;
-- GREAT, MIN and MAX follow the order of the integers that the bits stand for. At the end, which rows each of them gives, in words. Assumes nothing.
use Rattle.std.specs.Prelude.{ℕ, ◌≤◌, Bool, true, not, ◌&&◌, ◌↔◌, ◌≡◌, eqb, ℤ, ◌≤ℤ◌, ◌<ℤ◌}
use Rattle.std.specs.Int.Signed.{le_z, lt_z}
use Rattle.rowset.specs.Sets.{any}

-- MATCH: the selected rows that equal w
unfoldable pub equal_to : (ℕ → ℕ) → ℕ → (ℕ → Bool) → ℕ → Bool
equal_to f w X i = X i && eqb (f i) w

-- GREAT: the selected rows that are greater than w
unfoldable pub greater_than : (ℕ → ℤ) → ℤ → (ℕ → Bool) → ℕ → Bool
greater_than f w X i = X i && lt_z w (f i)

-- GREAT's second slice: the selected rows that equal w
unfoldable pub same_as : (ℕ → ℤ) → ℤ → (ℕ → Bool) → ℕ → Bool
same_as f w X i = X i && (le_z (f i) w && le_z w (f i))

-- MIN: the selected rows than which no selected row of 1 to m is smaller
unfoldable pub smallest : ℕ → (ℕ → ℤ) → (ℕ → Bool) → ℕ → Bool
smallest m f X i = X i && not (any m (λ k. X k && lt_z (f k) (f i)))

-- MAX: the selected rows than which no selected row of 1 to m is larger
unfoldable pub largest : ℕ → (ℕ → ℤ) → (ℕ → Bool) → ℕ → Bool
largest m f X i = X i && not (any m (λ k. X k && lt_z (f i) (f k)))

-- exactly which rows i each search gives, where the positions are 1 to m, the rows' bits are the numbers r and stand for the integers f
pub record Gives (m : ℕ) (r : ℕ → ℕ) (f : ℕ → ℤ) (X : ℕ → Bool) (i : ℕ) : Type 0 where
  -- MATCH with w: row i is selected and equals w
  pub of-match : (w : ℕ) → (equal_to r w X i ≡ true) ↔ ((X i ≡ true) × (r i ≡ w))
  -- GREAT with w: row i is selected and is greater than w
  pub of-great : (w : ℤ) → (greater_than f w X i ≡ true) ↔ ((X i ≡ true) × (w <ℤ f i))
  -- and its second slice: row i is selected and equals w
  pub of-same : (w : ℤ) → (same_as f w X i ≡ true) ↔ ((X i ≡ true) × (f i ≡ w))
  -- MIN: row i is selected, and no selected row is smaller
  pub of-min : (smallest m f X i ≡ true) ↔ ((X i ≡ true) × ((k : ℕ) → 1 ≤ k → k ≤ m → X k ≡ true → f i ≤ℤ f k))
  -- MAX: row i is selected, and no selected row is larger
  pub of-max : (largest m f X i ≡ true) ↔ ((X i ≡ true) × ((k : ℕ) → 1 ≤ k → k ≤ m → X k ≡ true → f k ≤ℤ f i))

-- The theorem that the definitions mean what the document says of the searches; its proof is proofs/Searches.antt.
abbrev pub SearchesInWords : Type 0
SearchesInWords = (m : ℕ) (r : ℕ → ℕ) (f : ℕ → ℤ) (X : ℕ → Bool) (i : ℕ) → Gives m r f X i
