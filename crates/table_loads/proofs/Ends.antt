-- The rows of a column of ends after a load, byte by byte. Assumes nothing.
use Prim.Native.Nat.{ℕ, suc, ◌-◌, ◌*◌, ◌<◌, ◌≤◌}
use lib.ListN.{length, get_or, get_or-eq_default}
use mathlib.Core.List.{List}
use mathlib.Core.Path.{◌≡◌, sym, ap, ◌∙◌}
use native.Mathlib.Omega.{arith}
use Rattle.rowset.specs.Bytes.{little, in_row}
use Rattle.slice.specs.Slices.{size}
use Rattle.table.proofs.Loads.{load-long, load-taken, loaded-refused, loaded-taken}
use Rattle.table.specs.Loads.{loaded_row}

-- a column that is too long is not loaded
pub end-unloaded : (l : List ℕ) (i : ℕ) → size < length l → 0 ≡ loaded_row 1 l i
end-unloaded l i h = ap (λ (f : ℕ → ℕ). f i) (sym (loaded-refused 1 l 1 (load-long 1 l (omega arith))))

module _ (l : List ℕ) (i : ℕ) (short : length l ≤ size) where
  loaded : in_row 1 l i ≡ loaded_row 1 l i
  loaded = ap (λ (f : ℕ → ℕ). f i) (sym (loaded-taken 1 l (load-taken 1 l (omega arith) (omega arith))))

  -- 0 is no row
  pub end_none : i < 1 → 0 ≡ loaded_row 1 l i
  unfolding in_row
  end_none h = let z : i ≡ 0 = omega arith in sym (ap (in_row 1 l) z) ∙ loaded

  -- a row holds its byte
  pub end-byte : 1 ≤ i → get_or l (i - 1) 0 ≡ loaded_row 1 l i
  unfolding in_row little
  end-byte h =
      let next : suc (i - 1) ≡ i = omega arith in
      let at : i - 1 ≡ 1 * (i - 1) = omega arith in
      let byte : get_or l (i - 1) 0 ≡ in_row 1 l (suc (i - 1)) = ap (λ (k : ℕ). get_or l k 0) at ∙ omega arith in
      byte ∙ ap (in_row 1 l) next ∙ loaded

  -- and a row past the end nothing
  pub end-past : length l < i → 0 ≡ loaded_row 1 l i
  end-past h = sym (get_or-eq_default l 0 {n = i - 1} (omega arith)) ∙ end-byte (omega arith)
