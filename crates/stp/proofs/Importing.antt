-- Laws of what follows the reading: the causes of a text that was read, and what a text without one gives.
-- Assumes nothing.
use Prim.Native.Nat.{ℕ, ◌*◌, ◌≤◌}
use borrow.Author.Tests.{eq-eqb, ne_eqb, eqb-true, ltb-false}
use lib.Dec.{eqb}
use lib.ListN.{length, drop}
use mathlib.Core.Bool.{Bool, true, false, not, ◌||◌, false≢true}
use mathlib.Core.List.{List, [], ◌∷◌, ◌++◌}
use mathlib.Core.Logic.{◌≢◌}
use mathlib.Core.Option.{Option, none, some}
use mathlib.Core.Path.{◌≡◌, refl, sym, ◌∙◌}
use Rattle.refusal.specs.declared.Refusal.{Refusal}
use Rattle.rowset.specs.Sets.{up_to, both}
use Rattle.star_spec.specs.Call as call
use Rattle.star_spec.specs.Call.{Call, call_of}
use Rattle.star_spec.specs.Refusals.{max_rows, cause, bad_vertices, too_many_rows, bad_lengths, row_causes, table_causes, or_else, refusal}
use Rattle.star_spec.proofs.Accepted.{none-head, none_tail, none-cons, none_both, none-nil, none-cause, cause-none, refusal-append}
use Rattle.stp_spec.specs.Import.{table_of, bad_columns, bad_edges, import_causes, untaken, sizes, answered, filled}
use Rattle.stp_spec.specs.Reader.{Read, Reading, broken, whole}

-- causes of which one applies decide before later ones
refusal-first : (xs ys : List (Option Refusal)) (x : Refusal) → refusal xs ≡ some x → refusal (xs ++ ys) ≡ some x
unfolding refusal or_else
refusal-first [] ys x e = cc
refusal-first (none ∷ xs) ys x e = refusal-first xs ys x e
refusal-first (some y ∷ xs) ys x e = e

-- ── Causes 3, 4 and 15 ──

-- the table's own checks of rows whose sizes are taken: the lengths are right, so the rows decide
module _ (n m : ℕ) (size : none ≡ refusal (bad_vertices n ∷ too_many_rows m ∷ [])) where
  pub few-rows : m ≤ max_rows
  unfolding too_many_rows
  few-rows = ltb-false max_rows m (cause-none _ 2 0 (none-head _ _ (none_tail _ _ (sym size))))

  module _ (left right weight : List ℕ) (l : length left ≡ m) (r : length right ≡ m) (w : length weight ≡ 4 * m) where
    lengths-right : refusal (table_causes (call_of n left right weight left)) ≡ refusal (row_causes (call_of n left right weight left))
    unfolding table_causes bad_lengths
    lengths-right = refusal-append (bad_vertices n ∷ too_many_rows (length left) ∷ bad_lengths c ∷ []) (row_causes c)
        (none_both _ _ (none-head _ _ (sym size)) (none_both _ _ (rw l (none-head _ _ (none_tail _ _ (sym size)))) (none_both _ _ lengths none-nil)))
      where
        c : Call
        c = call_of n left right weight left

        lengths : bad_lengths c ≡ none
        lengths = none-cause _ 3 0 (rw (l, r, w, eq-eqb m m refl, eq-eqb (4 * m) (4 * m) refl))

    -- and all m rows are in use
    pub table-rows : (rows : ℕ → Bool) → rows ≡ both (up_to max_rows) (up_to m) → refusal (table_causes (call.table_of n m true rows left right weight left)) ≡ refusal (row_causes (call_of n left right weight left))
    table-rows rows e = rw (e, sym l) lengths-right

-- what the lent columns' lengths say
module _ (l r w : ℕ) where
  pub columns-right : l ≡ 1024 → r ≡ 1024 → w ≡ 4096 → bad_columns l r w ≡ none
  unfolding bad_columns
  columns-right a b d = none-cause _ 3 0 (rw (eq-eqb l 1024 a, eq-eqb r 1024 b, eq-eqb w 4096 d))

  columns_of_lem : bad_columns l r w ≡ none → (l ≡ 1024) × (r ≡ 1024) × (w ≡ 4096)
  unfolding bad_columns
  columns_of_lem e = go (eqb l 1024) refl (eqb r 1024) refl (eqb w 4096) refl (cause-none _ 3 0 e)
    where
      go : (a : Bool) → eqb l 1024 ≡ a → (b : Bool) → eqb r 1024 ≡ b → (d : Bool) → eqb w 4096 ≡ d →
          (not a || not b || not d) ≡ false → (l ≡ 1024) × (r ≡ 1024) × (w ≡ 4096)
      go true a true b true d e = (eqb-true l 1024 a, eqb-true r 1024 b, eqb-true w 4096 d)
      go true a true b false d e = absurd (false≢true (sym e))
      go true a false b d d' e = absurd (false≢true (sym e))
      go false a b b' d d' e = absurd (false≢true (sym e))

  -- 3 goes before the rows
  pub columns-first : (xs : List (Option Refusal)) → (not (eqb l 1024) || not (eqb r 1024) || not (eqb w 4096)) ≡ true → some (record { number = 3; place = 0 }) ≡ refusal (bad_columns l r w ∷ xs)
  unfolding bad_columns cause refusal or_else
  columns-first xs e = rw e

-- ── What follows the refusal, if there is one ──

module _ {R : Option Refusal} (x : Reading) where
  pub answered-some : (y : Refusal) → some y ≡ R → untaken y ≡ answered R x
  unfolding answered
  answered-some y e = rw (← e)

  pub answered-none : none ≡ R → sizes x ≡ answered R x
  unfolding answered
  answered-none e = rw (← e)

module _ {R : Option Refusal} (column lent : List ℕ) where
  pub filled-some : (y : Refusal) → some y ≡ R → lent ≡ filled R column lent
  unfolding filled
  filled-some y e = rw (← e)

  pub filled_none : (k : ℕ) → length column ≡ k → none ≡ R → column ++ drop k lent ≡ filled R column lent
  unfolding filled
  filled_none k h e = rw (← e, h)

-- ── The causes in their order ──

-- 12 is the one cause of a text whose layout is broken
pub broken-refused : (place l r w : ℕ) → some (record { number = 12; place = place }) ≡ refusal (import_causes (broken place) l r w)
unfolding import_causes refusal or_else
broken-refused place l r w = refl

module _ (t : Read) (l r w : ℕ) where
  pub edges-refused : t.rows ≢ t.edges → some (record { number = 13; place = 0 }) ≡ refusal (import_causes (whole t) l r w)
  unfolding import_causes bad_edges cause refusal or_else
  edges-refused d = rw (ne_eqb _ _ d)

  module _ (even : t.rows ≡ t.edges) where
    -- causes 1 and 2, and then the others
    causes : refusal (import_causes (whole t) l r w) ≡ refusal ((bad_vertices t.nodes ∷ too_many_rows t.rows ∷ []) ++ (bad_columns l r w ∷ row_causes (table_of t)))
    unfolding import_causes bad_edges
    causes = none-cons _ _ (none-cause _ 13 0 (rw (eq-eqb _ _ even)))

    pub size-first : (y : Refusal) → some y ≡ refusal (bad_vertices t.nodes ∷ too_many_rows t.rows ∷ []) → some y ≡ refusal (import_causes (whole t) l r w)
    size-first y e = sym (causes ∙ refusal-first (bad_vertices t.nodes ∷ too_many_rows t.rows ∷ []) _ y (sym e))

    pub size-taken : none ≡ refusal (bad_vertices t.nodes ∷ too_many_rows t.rows ∷ []) → refusal (bad_columns l r w ∷ row_causes (table_of t)) ≡ refusal (import_causes (whole t) l r w)
    size-taken e = sym (causes ∙ refusal-append (bad_vertices t.nodes ∷ too_many_rows t.rows ∷ []) _ (sym e))

  -- a table that nothing refuses
  pub record Clear : Type 0 where
    pub few : t.rows ≤ 1024
    pub left-length : l ≡ 1024
    pub right-length : r ≡ 1024
    pub weight-length : w ≡ 4096

  pub clear : none ≡ refusal (import_causes (whole t) l r w) → Clear
  unfolding import_causes too_many_rows
  clear e =
      let e₂ = none_tail (bad_vertices t.nodes) _ (none_tail (bad_edges t) _ (sym e)) in
      let d = columns_of_lem l r w (none-head _ _ (none_tail _ _ e₂)) in
      record {
        few = ltb-false max_rows t.rows (cause-none _ 2 0 (none-head _ _ e₂));
        left-length = d.0;
        right-length = d.1;
        weight-length = d.2;
      }
