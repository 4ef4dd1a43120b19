-- The causes of a quote in order: those that are sought before a tree is built, and then that there is none.
-- Assumes nothing.
use Prim.Native.Nat.{ℕ}
use mathlib.Core.Bool.{not, true, false}
use mathlib.Core.List.{List, [], ◌∷◌, ◌++◌}
use mathlib.Core.Option.{Option, none, some}
use mathlib.Core.Path.{◌≡◌, refl, sym, ◌∙◌}
use borrow.Author.Tests.{not-false}
use Rattle.refusal.specs.declared.Refusal.{Refusal}
use Rattle.star_spec.proofs.Accepted.{none-head, cause-none, refusal-append, used-row}
use Rattle.star_spec.specs.Accepted.{Row}
use Rattle.star_spec.specs.Call.{Call, used}
use Rattle.star_spec.specs.Refusals.{Accepted, table_causes, no_tree, or_else, refusal}
use Rattle.price_spec.specs.Quote.{no_row, row_asked, quote_causes}

-- one cause more comes last
refusal-last : (xs : List (Option Refusal)) (a b : Option Refusal) → refusal (xs ++ (a ∷ b ∷ [])) ≡ or_else (refusal (xs ++ (a ∷ []))) b
unfolding refusal or_else
refusal-last [] none none = refl
refusal-last [] none (some r) = refl
refusal-last [] (some r) b = refl
refusal-last (none ∷ xs) a b = refusal-last xs a b
refusal-last (some r ∷ xs) a b = refl

-- where no cause applies, none of the first ones does
refusal-before : (xs ys : List (Option Refusal)) → refusal (xs ++ ys) ≡ none → refusal xs ≡ none
unfolding refusal or_else
refusal-before [] ys e = refl
refusal-before (none ∷ xs) ys e = refusal-before xs ys e
refusal-before (some r ∷ xs) ys e = e

module _ (c : Call) (k : ℕ) where
  pub causes-in-order : refusal (quote_causes c k) ≡ or_else (refusal (row_asked c k)) (no_tree c)
  unfolding quote_causes row_asked
  causes-in-order = refusal-last (table_causes c) (no_row c k) (no_tree c)

  -- a table and a row that are not refused: the table is accepted, and the row is in use
  pub row-asked : refusal (row_asked c k) ≡ none → Accepted c × Row c k
  unfolding row_asked no_row
  row-asked e =
      let ok = refusal-before (table_causes c) (no_row c k ∷ []) e in
      let last = none-head (no_row c k) [] (sym (refusal-append (table_causes c) (no_row c k ∷ []) ok) ∙ e) in
      (ok, used-row c k (not-false (used c k) (cause-none (not (used c k)) 7 0 last)))
