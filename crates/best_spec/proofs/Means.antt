-- What the best exchange and the least total mean: the exchanges of the claim's bytes are the exchanges of its rows, of which detour_theory says which saves most. Assumes nothing.
use Prim.Native.Nat.{ℕ, zero, suc, ◌≤◌, ◌<◌}
use lib.IntN.{ℤ, pos, nat_abs, ◌+ℤ◌, ◌-ℤ◌}
use lib.Signed.{lt_z, ◌≤ℤ◌, ◌<ℤ◌}
use mathlib.Core.Bool.{Bool, true, false}
use mathlib.Core.Option.{Option, none, some}
use mathlib.Core.Path.{◌≡◌, refl, sym, subst, ◌∙◌, ap}
use native.Mathlib.Omega.{arith}
use Rattle.detour_spec.proofs.Means.{swap-rows, rows-swap, swap-after}
use Rattle.detour_spec.specs.Means.{ClaimSwap, weight_after}
use Rattle.detour_theory.proofs.Promise.{detours-promise, swap-weight}
use Rattle.detour_theory.specs.Detours.{dearest, saving, best_in}
use Rattle.detour_theory.specs.Promise.{Swap, after, BestOfAll, DetoursMean}
use Rattle.graph_theory.proofs.LeastTotal.{least-totals}
use Rattle.graph_theory.specs.Builder.{Fragment, tree}
use Rattle.graph_theory.specs.Graph.{Graph}
use Rattle.graph_theory.specs.LeastTotal.{weighed, least_total}
use Rattle.rowset.proofs.Integers.{integers, plus, minus, difference, pos-parts, lt_z-true, lt_z-false}
use Rattle.rowset.proofs.Signed.{difference-small}
use Rattle.rowset.specs.Bytes.{in_row}
use Rattle.rowset.specs.Integers.{total}
use Rattle.star_meaning.proofs.Demand3.{ok, least-claim, claim-least}
use Rattle.star_meaning.specs.Demand3.{ClaimTree, LeastClaim}
use Rattle.star_spec.specs.Call.{Call, rows_of, graph_of, weight_of, claimed, claim_weight}
use Rattle.star_spec.specs.Mst1.{chosen_rows}
use Rattle.star_spec.specs.Refusals.{Accepted}
use Rattle.best_spec.specs.Best.{row_into, row_for, least_total_of}
use Rattle.best_spec.specs.Means.{BestSwap, LeastIs}

module _ (c : Call) (a : Accepted c) (t : ClaimTree c) where
  abbrev g : Graph
  g = graph_of c

  abbrev w : ℕ → ℤ
  w = weight_of c

  abbrev S : ℕ → Bool
  S = claimed c

  d : DetoursMean g w S
  d = detours-promise g (ok c a) w S t.spanning

  claim-total : total g.m w S ≡ claim_weight c
  unfolding claim_weight graph_of
  claim-total = refl

  -- no row comes in exactly where the claim is least
  pub none-least : row_into c ≡ 0 → LeastClaim c
  unfolding row_into
  none-least z = least-claim c a t (d.none.0 z)

  pub least-none : LeastClaim c → row_into c ≡ 0
  unfolding row_into
  least-none l = d.none.1 (claim-least c a l)

  -- a row that comes in is lighter than the row out
  lighter-in : (e f : ℕ) → Swap g S e f → (total g.m w S ≤ℤ after g w S e f → ⊥) → w f <ℤ w e
  lighter-in e f s n = go (lt_z (after g w S e f) (total g.m w S)) refl
    where
      go : (b : Bool) → lt_z (after g w S e f) (total g.m w S) ≡ b → w f <ℤ w e
      go true q = omega (arith, integers, lt_z-true (after g w S e f) (total g.m w S) q, swap-weight g (ok c a) w S t.spanning e f s, plus (after g w S e f) (w e), plus (total g.m w S) (w f))
      go false q = absurd (n (lt_z-false (after g w S e f) (total g.m w S) q))

  saved-is : (e f : ℕ) → w f ≤ℤ w e → nat_abs (w e -ℤ w f) ≤ 4294967295
  unfolding weight_of
  saved-is e f h = difference-small (in_row 4 c.weight e) (in_row 4 c.weight f) h

  swapped : (e f : ℕ) → BestOfAll g w S e f → BestSwap c e f (nat_abs (w e -ℤ w f))
  swapped e f b =
      let s = rows-swap c a t e f b.swap in
      let less = lighter-in e f b.swap b.lighter in
      let most : w f ≤ℤ w e = omega (arith, integers, less) in
      record {
        swap = s;
        weight =
            rw (swap-after c a t e f s, ← claim-total) (omega (
              arith,
              integers,
              swap-weight g (ok c a) w S t.spanning e f b.swap,
              plus (after g w S e f) (w e),
              plus (total g.m w S) (w f),
              plus (after g w S e f) (pos (nat_abs (w e -ℤ w f))),
              difference (w e) (w f) most,
              minus (w e) (w f),
            ));
        positive = omega (arith, integers, less, difference (w e) (w f) most, minus (w e) (w f), pos-parts (nat_abs (w e -ℤ w f)));
        small = saved-is e f most;
        lightest = λ k j x. rw (swap-after c a t e f s, swap-after c a t k j x) (b.lightest k j (swap-rows c a t k j x));
        uppermost = λ k j x q. b.uppermost k j (swap-rows c a t k j x) (sym (swap-after c a t k j x) ∙ q ∙ swap-after c a t e f s);
      }

  -- the row in, where there is one, is the best
  pub best-swap : (j : ℕ) → row_into c ≡ suc j → BestSwap c (row_for c (suc j)) (suc j) (nat_abs (saving g w S (suc j)))
  unfolding row_into row_for saving
  best-swap j q =
      swapped (dearest g w S (suc j)) (suc j)
      (subst (λ (x : ℕ). BestOfAll g w S (dearest g w S x) x) q (d.best (λ z. omega (arith, z, q))))

  -- the least total
  pub least-is : LeastIs c (least_total_of c) × (least_total_of c ≤ℤ claim_weight c)
  unfolding least_total_of least_total weighed chosen_rows graph_of claim_weight
  least-is = go (tree g w) refl
    where
      go : (o : Option Fragment) → tree g w ≡ o → LeastIs c (least_total_of c) × (least_total_of c ≤ℤ claim_weight c)
      go none e = absurd ((least-totals g (ok c a) w).no-tree.0 (ap (weighed g w) e) S t.spanning)
      go (some f) e =
          let x = total g.m w f.chosen in
          let (T, l, q) = ((least-totals g (ok c a) w).is-least x).0 (ap (weighed g w) e) in
          (rw e (T, l, q), rw (e, ← q) (l.least S t.spanning))
