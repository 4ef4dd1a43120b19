-- What is built has rows at r and rows of U alone: the start prefers rows at r, and takes another row only where no row of U goes ahead of it; each exchange brings in a row of U.
-- Main statements: start-within, swaps-within, enough. Assumes nothing.
use Prim.Native.Nat.{ℕ, zero, suc, ◌-◌}
use borrow.Author.Tests.{eq-eqb, ne_eqb}
use lib.Dec.{eqb, ltb}
use lib.IntN.{ℤ}
use mathlib.Core.Bool.{Bool, true, false, cond, xor, false≢true}
use mathlib.Core.Logic.{◌⊎◌, inl, inr}
use mathlib.Core.Option.{Option, none, some}
use mathlib.Core.Path.{◌≡◌, refl, sym, ◌∙◌}
use native.Mathlib.Omega.{arith}
use Rattle.graph_theory.specs.Builder.{Fragment, nothing, cheapest, choose}
use Rattle.graph_theory.specs.Graph.{Graph, Sound, Inside, crosses}
use Rattle.graph_theory.specs.Tree.{SpanningTree, exchange}
use Rattle.outlets_forest_theory.proofs.Forest.{forest-rows, outside-ahead, row-in-inside, row-in-same}
use Rattle.outlets_forest_theory.proofs.Ranked.{lightest-some}
use Rattle.outlets_forest_theory.specs.Forest.{forest_away, ForestIsEnough}
use Rattle.outlets_theory.proofs.Promise.{start-tight}
use Rattle.outlets_theory.proofs.Swaps.{Tight, swaps-tight}
use Rattle.outlets_theory.specs.Degree.{touches, rows_at, preferred, first, next, fragment, start_of, start, row_out, row_in, swap_for, swap, swaps, reduced, reduced_from, tree_with}
use Rattle.rowset.proofs.Laws.{clash, take_out-in}
use Rattle.rowset.proofs.Members.{put_all, both-in, in_both}
use Rattle.rowset.specs.Searches.{smallest}
use Rattle.rowset.specs.Sets.{empty, both, put, take_out, first_of, uppermost}

module _ (g : Graph) (ok : Sound g) (w : ℕ → ℤ) (r : ℕ) where
  -- a row at r or one of U, and sets of such rows
  abbrev Here : ℕ → Type 0
  Here i = (touches g r i ≡ true) ⊎ (forest_away g w r i ≡ true)

  abbrev Within : (ℕ → Bool) → Type 0
  Within S = (i : ℕ) → S i ≡ true → Here i

  -- ── The start ──

  preferred-in : (X : ℕ → Bool) (j : ℕ) → preferred g w r X ≡ suc j → X (suc j) ≡ true
  unfolding preferred first_of cheapest
  preferred-in X j e = go (uppermost g.m (smallest g.m w (both X (touches g r)))) refl e
    where
      go : (o : ℕ) → uppermost g.m (smallest g.m w (both X (touches g r))) ≡ o → first_of o (uppermost g.m (smallest g.m w X)) ≡ suc j → X (suc j) ≡ true
      go zero q s = (lightest-some g.m w X j s).inside
      go (suc i) q s =
          let same : suc i ≡ suc j = s in
          (both-in X (touches g r) (suc j) (lightest-some g.m w (both X (touches g r)) j (q ∙ same)).inside).0

  -- the preferred row of a set that has every row across a colouring is at r or one of U, where it crosses the colouring
  preferred-here : (X side : ℕ → Bool) → Inside g X → ((k : ℕ) → g.rows k ≡ true → crosses g side k ≡ true → X k ≡ true) → (j : ℕ) → preferred g w r X ≡ suc j → crosses g side (suc j) ≡ true → Here (suc j)
  unfolding preferred first_of cheapest
  preferred-here X side inside all j e c = go (touches g r (suc j)) (forest_away g w r (suc j)) refl refl
    where
      never : touches g r (suc j) ≡ false → forest_away g w r (suc j) ≡ false → (o : ℕ) → uppermost g.m (smallest g.m w (both X (touches g r))) ≡ o → first_of o (uppermost g.m (smallest g.m w X)) ≡ suc j → ⊥
      never off out zero q s =
          let h = lightest-some g.m w X j s in
          let k = outside-ahead g ok w r side (suc j) (inside (suc j) h.inside) off out c in
          let row = (forest-rows g ok w r k.row k.inside).0 in
          let (l, u) = ok.position k.row row in
          let x = all k.row row k.crossing in
          omega (arith, h.first k.row l u x k.lighter, k.above (h.least k.row l u x))
      never off out (suc i) q s =
          let same : suc i ≡ suc j = s in
          clash (both-in X (touches g r) (suc j) (lightest-some g.m w (both X (touches g r)) j (q ∙ same)).inside).1 off

      go : (a b : Bool) → touches g r (suc j) ≡ a → forest_away g w r (suc j) ≡ b → Here (suc j)
      go true b p q = inl p
      go false true p q = inr q
      go false false p q = absurd (never p q (uppermost g.m (smallest g.m w (both X (touches g r)))) refl e)

  -- the fragment with a row more
  chosen-within : (f : Fragment) → Within f.chosen → (i : ℕ) → ((j : ℕ) → i ≡ suc j → Here (suc j)) → (f' : Fragment) → choose g f i ≡ some f' → Within f'.chosen
  unfolding choose
  chosen-within f h zero new f' e =
      let z : ◌≡◌ {A = ℕ} 0 1 = cc in
      absurd (omega arith)
  chosen-within f h (suc j) new f' e =
      let same : put f.chosen (suc j) ≡ f'.chosen = cc in
      rw (← same) (put_all Here f.chosen (suc j) h (new j refl))

  -- the first row crosses the colouring that has its left end alone
  first-here : (j : ℕ) → preferred g w r g.rows ≡ suc j → Here (suc j)
  unfolding crosses xor
  first-here j q =
      let row = preferred-in g.rows j q in
      preferred-here g.rows (λ v. eqb v (g.a (suc j))) (λ i h. h) (λ k h c. h) j q (rw (eq-eqb (g.a (suc j)) (g.a (suc j)) refl, ne_eqb (g.b (suc j)) (g.a (suc j)) (λ z. ok.apart (suc j) row (sym z))))

  next_here : (Q : ℕ → Bool) (j : ℕ) → preferred g w r (both g.rows (crosses g Q)) ≡ suc j → Here (suc j)
  next_here Q j q =
      preferred-here (both g.rows (crosses g Q)) Q (λ i h. (both-in g.rows (crosses g Q) i h).0) (λ k h c. in_both g.rows (crosses g Q) k h c) j q (both-in g.rows (crosses g Q) (suc j) (preferred-in (both g.rows (crosses g Q)) j q)).1

  none_within : Within empty
  unfolding empty
  none_within i h = absurd (false≢true h)

  fragment-within : (k : ℕ) (f : Fragment) → fragment g w r k ≡ some f → Within f.chosen
  unfolding fragment first next
  fragment-within zero f e = chosen-within nothing none_within (preferred g w r g.rows) first-here f e
  fragment-within (suc k) f e = go (fragment-within k) (fragment g w r k) refl e
    where
      go : ((q : Fragment) → fragment g w r k ≡ some q → Within q.chosen) → (o : Option Fragment) → fragment g w r k ≡ o → next g w r o ≡ some f → Within f.chosen
      go before none p s =
          let z : ◌≡◌ {A = ℕ} 0 1 = cc in
          absurd (omega arith)
      go before (some q) p s = chosen-within q (before q p) (preferred g w r (both g.rows (crosses g q.vertices))) (next_here q.vertices) f s

  start-within : (n : ℕ) (f : Fragment) → start_of n g w r ≡ some f → Within f.chosen
  unfolding start_of
  start-within zero f e =
      let z : ◌≡◌ {A = ℕ} 0 1 = cc in
      absurd (omega arith)
  start-within (suc zero) f e =
      let same : empty ≡ f.chosen = cc in
      rw (← same) none_within
  start-within (suc (suc k)) f e = fragment-within k f e

  -- ── The exchanges ──

  swapped-within : (S : ℕ → Bool) → SpanningTree g S → Within S → (o : ℕ) → row_in g w r S ≡ o → (T : ℕ → Bool) → swap_for g w r S o ≡ some T → Within T
  unfolding swap_for exchange
  swapped-within S tree h zero q T e =
      let z : ◌≡◌ {A = ℕ} 0 1 = cc in
      absurd (omega arith)
  swapped-within S tree h (suc j) q T e =
      let same : put (take_out S (row_out g w r S (suc j))) (suc j) ≡ T = cc in
      rw (← same) (put_all Here (take_out S (row_out g w r S (suc j))) (suc j) (λ i t. h i (take_out-in S (row_out g w r S (suc j)) i t).0) (inr (row-in-inside g ok w r S tree j q)))

  swaps-within : (S : ℕ → Bool) → Tight g w r S → Within S → (k : ℕ) (T : ℕ → Bool) → swaps g w r k S ≡ some T → Within T
  unfolding swaps swap
  swaps-within S tight h zero T e =
      let same : S ≡ T = cc in
      rw (← same) h
  swaps-within S tight h (suc k) T e = go (swaps-within S tight h k) (swaps g w r k S) refl e
    where
      go : ((Q : ℕ → Bool) → swaps g w r k S ≡ some Q → Within Q) → (o : Option (ℕ → Bool)) → swaps g w r k S ≡ o → swap g w r o ≡ some T → Within T
      go before none q s =
          let z : ◌≡◌ {A = ℕ} 0 1 = cc in
          absurd (omega arith)
      go before (some Q) q s = swapped-within Q (swaps-tight g ok w r S tight k Q q).0.tree (before Q q) (row_in g w r Q) refl T s

  built-within : (t : ℕ) (T : ℕ → Bool) → tree_with g w r t ≡ some T → Within T
  unfolding tree_with reduced_from reduced start
  built-within t T e = go (start g w r) refl e
    where
      go : (o : Option Fragment) → start g w r ≡ o → reduced_from g w r t o ≡ some T → Within T
      go none q s =
          let z : ◌≡◌ {A = ℕ} 0 1 = cc in
          absurd (omega arith)
      go (some f) q s = by_number (ltb (rows_at g r f.chosen) t) s
        where
          by_number : (b : Bool) → cond b none (swaps g w r (rows_at g r f.chosen - t) f.chosen) ≡ some T → Within T
          by_number true s =
              let z : ◌≡◌ {A = ℕ} 0 1 = cc in
              absurd (omega arith)
          by_number false s = swaps-within f.chosen (start-tight g ok w r t f q).0 (start-within g.n f q) (rows_at g r f.chosen - t) T s

pub enough : ForestIsEnough
enough g ok w r = record { rows = forest-rows g ok w r; same = row-in-same g ok w r; inside = built-within g ok w r }
