-- `search_match::match_from` meets its contract: where w has a digit before those of the columns that are read, no row equals it, and where it has none, the rows are MATCH's from the right. Assumes nothing.
use Prim.Native.Nat.{ℕ, ◌-◌, ◌/◌, ◌^◌}
use borrow.Author.Tests.{eqb-true, eqb-false}
use lib.Dec.{eqb}
use mathlib.Core.Bool.{Bool, true, false}
use mathlib.Core.Path.{◌≡◌, refl, sym, ap, ◌∙◌}
use Rattle.rowset.specs.Columns.{in_columns}
use Rattle.rowset.specs.Counts.{equal_right}
use Rattle.rowset.specs.Searches.{equal_to}
use Rattle.rowset.specs.Sets.{empty}
use Rattle.search_columns.proofs.Steps.{match-start, match-start-none}
use Rattle.search_match.proofs.Counts.{right-from}
use Rattle.search_match.proofs.match_from.Goals as goal

module _ (c : ℕ → ℕ → Bool) (w first : ℕ) (X : ℕ → Bool) (b : Bool) (fits : b ≡ eqb (w / 2 ^ (32 - first)) 0) where
  none_right : equal_right c w (32 - first) empty ≡ empty
  unfolding equal_right equal_to empty
  none_right = refl

  -- where w has a digit before those of the columns, no row equals it
  found_none : b ≡ false → empty ≡ equal_to (in_columns c first (32 - first)) w X
  found_none t =
      sym none_right
      ∙ ap (equal_right c w (32 - first)) (sym (match-start-none _ X (eqb-false _ _ (sym fits ∙ t))))
      ∙ right-from c w first X

  -- where it has none, the rows that equal w are those that equal its last digits
  found : b ≡ true → equal_right c w (32 - first) X ≡ equal_to (in_columns c first (32 - first)) w X
  found t = ap (equal_right c w (32 - first)) (sym (match-start _ X (eqb-true _ _ (sym fits ∙ t)))) ∙ right-from c w first X

pub returns-then-not-fits : goal.returns-then-not-fits
returns-then-not-fits c = c.empty.ensures ∙ found_none _ _ _ _ _ c.fits.ensures c.if-not-fits.true

pub returns : goal.returns
returns c = c.match_right.ensures.rows ∙ found _ _ _ _ _ c.fits.ensures c.if-not-fits.false
