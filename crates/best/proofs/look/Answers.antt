-- `best::look` meets its contract: any other row is passed over; else the exchange of its dearest row is compared with what is kept. Assumes nothing.
use Prim.Native.Nat.{ℕ, ◌-◌, ◌≤◌}
use lib.Dec.{ltb}
use mathlib.Core.Bool.{Bool, true, false, cond}
use mathlib.Core.List.{List}
use mathlib.Core.Path.{◌≡◌, sym, ◌∙◌}
use Rattle.rowset.specs.Bytes.{in_row}
use Rattle.rowset.specs.Steps.Flipped.{flipped}
use Rattle.slice.specs.Slices.{size}
use Rattle.best.specs.Steps.Picks.{Picked, Small, better_of, look_at}
use Rattle.best.proofs.look.Goals as goal

passes : (weight : List ℕ) (D : ℕ → ℕ) (U : ℕ → Bool) (b : Picked) (i : ℕ) → U i ≡ false → b ≡ look_at weight D U b i
unfolding look_at
passes weight D U b i h = rw h

looks : (weight : List ℕ) (D : ℕ → ℕ) (U : ℕ → Bool) (b p : Picked) (i e s : ℕ) → U i ≡ true → e ≡ D i → s ≡ flipped (in_row 4 weight e) - flipped (in_row 4 weight i) → p ≡ better_of b i e s → p ≡ look_at weight D U b i
unfolding look_at
looks weight D U b p i e s h d g q = q ∙ rw (h, g, d)

-- what is kept stays small
small : (b p : Picked) (row out saved : ℕ) → Small b → row ≤ size → out ≤ size → p ≡ better_of b row out saved → Small p
unfolding better_of
small b p row out saved h low high q = rw q (go (ltb b.saved saved))
  where
    go : (d : Bool) → Small (cond d (record { row = row; out = out; saved = saved }) b)
    go true = (low, high)
    go false = h

pub returns-then-not-row_in : goal.returns-then-not-row_in
returns-then-not-row_in c =
    record {
      look = λ U e. passes _ _ _ _ _ (e ∙ sym c.row_in.ensures ∙ c.if-not-row_in.true);
      small = c.requires.1;
    }

pub returns : goal.returns
returns c =
    record {
      look = λ U e. looks _ _ _ _ _ _ _ _ (e ∙ sym c.row_in.ensures ∙ c.if-not-row_in.false) (c.dearest_at-e.ensures.by_index U e) c.gain-saving.ensures c.better.ensures;
      small = small _ _ _ _ _ c.requires.1 c.requires.0 c.dearest_at-e.ensures.row c.better.ensures;
    }
