-- The checker tells the only cheapest tree: yes exactly where no other claim is a spanning tree of the same weight, and no with an exchange that gives one.
-- Assumes nothing.
use Prim.Native.Nat.{ℕ, zero, suc, ◌≤◌}
use borrow.Author.Tests.{eqb-true, eqb-false, eq-eqb}
use lib.Dec.{eqb}
use mathlib.Core.Bool.{Bool, true, false, and-eq-true_iff}
use mathlib.Core.List.{List}
use mathlib.Core.Path.{◌≡◌, refl, sym, ◌∙◌, ap}
use native.Mathlib.Omega.{arith}
use Rattle.star_meaning.proofs.Checker.{between-path}
use Rattle.star_meaning.proofs.Demand3.{ok, claim-least, exchanged-rows, exchanged-tree, out-row, unmarked-byte, passed-least}
use Rattle.star_meaning.specs.Demand3.{LeastClaim}
use Rattle.star_meaning.specs.Only.{NoOther, EqualExchange, OnlyHolds}
use Rattle.graph_theory.proofs.Only.{unequalled-only, equal-exchange}
use Rattle.graph_theory.proofs.Path.{path_inside}
use Rattle.graph_theory.specs.Least.{Least}
use Rattle.graph_theory.specs.Only.{Only, Unequalled}
use Rattle.graph_theory.specs.Tree.{on_path, exchange}
use Rattle.rowset.proofs.Laws.{clash, put_same, any_some, any_found, uppermost-none, uppermost-some}
use Rattle.rowset.proofs.Searches.{same_as-in, in-same_as}
use Rattle.rowset.proofs.Members.{both-in, without_in, in_without}
use Rattle.rowset.specs.Bytes.{in_row}
use Rattle.rowset.specs.Sets.{both, without, take_out}
use Rattle.star_spec.proofs.Accepted.{used-row, row-used}
use Rattle.star_spec.specs.Accepted.{Row}
use Rattle.star_spec.specs.Call.{Call, rows_of, used, graph_of, weight_of, marked, claimed, claim_weight, with_claim, exchanged}
use Rattle.star_spec.specs.Cst.{between, equals, replaces, equal_in, equal_out, only, rows_beside, equal_rows}
use Rattle.star_spec.specs.Refusals.{Accepted}

-- bytes of zeros and ones that mark alike are the same
same_byte : (l k : List ℕ) (i : ℕ) → in_row 1 l i ≤ 1 → in_row 1 k i ≤ 1 → marked l i ≡ marked k i → in_row 1 l i ≡ in_row 1 k i
unfolding marked
same_byte l k i = bit (in_row 1 l i) (in_row 1 k i)
  where
    bit : (x y : ℕ) → x ≤ 1 → y ≤ 1 → eqb x 1 ≡ eqb y 1 → x ≡ y
    bit x y hx hy q = go (eqb y 1) refl
      where
        go : (t : Bool) → eqb y 1 ≡ t → x ≡ y
        go true e = eqb-true x 1 (q ∙ e) ∙ sym (eqb-true y 1 e)
        go false e = omega (arith, eqb-false x 1 (q ∙ e), eqb-false y 1 e)

module _ (c : Call) (a : Accepted c) (least : LeastClaim c) where
  abbrev S : ℕ → Bool
  S = claimed c

  rows-least : Least (graph_of c) (weight_of c) S
  rows-least = claim-least c a least

  -- an unmarked row with a row of equal weight on its path
  equals-in : (e f : ℕ) → (graph_of c).rows f ≡ true → equals c f e ≡ true → (on_path (graph_of c) S ((graph_of c).a f) ((graph_of c).b f) e ≡ true) × (weight_of c e ≡ weight_of c f)
  unfolding equals
  equals-in e f r h =
      let (path, same) = same_as-in (weight_of c) (weight_of c f) (between c f) e h in
      (ap (λ x. x e) (sym (between-path c (ok c a) least.tree.spanning f r)) ∙ path, same)

  in-equals : (e f : ℕ) → (graph_of c).rows f ≡ true → on_path (graph_of c) S ((graph_of c).a f) ((graph_of c).b f) e ≡ true → weight_of c e ≡ weight_of c f → equals c f e ≡ true
  unfolding equals
  in-equals e f r path same =
      in-same_as (weight_of c) (weight_of c f) (between c f) e (ap (λ x. x e) (between-path c (ok c a) least.tree.spanning f r) ∙ path) same

  -- where there is no such row, no row outside the tree has an equal on its path
  none-unequalled : equal_in c ≡ 0 → Unequalled (graph_of c) (weight_of c) S
  unfolding equal_in replaces graph_of
  none-unequalled none f r out e path same =
      let (lf, uf) = (ok c a).position f r in
      let (le, ue) = (ok c a).position e (least.tree.spanning.inside e (path_inside (graph_of c) (ok c a) S least.tree.spanning _ _ e path)) in
      clash
      (rw (in_without (used c) S f r out) (any_some (rows_of c) e (equals c f) le ue (in-equals e f r path same)))
      (uppermost-none (rows_of c) (replaces c) none f lf uf)

  -- and where there is one, the exchange gives another tree of the same weight
  found-equal : (j : ℕ) → equal_in c ≡ suc j → EqualExchange c (equal_out c) (equal_in c)
  unfolding used equal_in equal_out replaces graph_of claim_weight weight_of
  found-equal j u =
      let (new, some) = (and-eq-true_iff (without (used c) S (suc j)) _).0 (uppermost-some (rows_of c) j (replaces c) u).0 in
      let (r, out) = without_in (used c) S (suc j) new in
      let (k, v) = any_found (rows_of c) (equals c (suc j)) some in
      let (path, same) = equals-in (suc k) (suc j) r (uppermost-some (rows_of c) k (equals c (suc j)) v).0 in
      let m = path_inside (graph_of c) (ok c a) S least.tree.spanning _ _ (suc k) path in
      let (t, w) = equal-exchange (graph_of c) (ok c a) (weight_of c) S rows-least (suc k) (suc j) r out path same in
      let i : Row c (suc j) = used-row c (suc j) r in
      let (o, byte) = out-row c a (suc k) m in
      rw (u, v) (record {
        out-row = o;
        in-row = i;
        out-marked = byte;
        in-unmarked = unmarked-byte c a (suc j) r out;
        tree = exchanged-tree c a least.tree (suc k) (suc j) o i t;
        weight = rw (exchanged-rows c a least.tree (suc k) (suc j) o i) w;
      })

  -- no other tree of the same weight, as sets of rows and as claims
  none_other : Only (graph_of c) (weight_of c) S → NoOther c
  unfolding used both claimed claim_weight weight_of graph_of
  none_other alone other t same i r =
      same_byte other c.mark i (t.zero-or-one i r) (least.tree.zero-or-one i r) (alike i r)
    where
      rows : claimed (with_claim c other) ≡ S
      rows = alone (claimed (with_claim c other)) t.spanning same

      alike : (i : ℕ) → Row c i → marked other i ≡ marked c.mark i
      alike i r = rw (row-used c i r) at (ap (λ (p : ℕ → Bool). p i) rows)

  -- an equal exchange is another claim
  another : (out into : ℕ) → EqualExchange c out into → NoOther c → ⊥
  unfolding used exchange marked claimed
  another out into x n =
      clash
      (ap (λ b. eqb b 1) (sym (n (exchanged c.mark out into) x.tree x.weight into x.in-row))
      ∙ (both-in (used c) (marked (exchanged c.mark out into)) into
      (ap (λ (p : ℕ → Bool). p into) (exchanged-rows c a least.tree out into x.out-row x.in-row) ∙ put_same (take_out S out) into)).1)
      x.in-unmarked

  pub yes-rows : only c ≡ true → Only (graph_of c) (weight_of c) S
  unfolding only
  yes-rows h = unequalled-only (graph_of c) (ok c a) (weight_of c) S rows-least (none-unequalled (eqb-true (equal_in c) 0 h))

  pub yes-none : only c ≡ true → NoOther c
  yes-none h = none_other (yes-rows h)

  pub none-yes : NoOther c → only c ≡ true
  unfolding only
  none-yes n = go (equal_in c) refl
    where
      go : (i : ℕ) → equal_in c ≡ i → eqb (equal_in c) 0 ≡ true
      go zero e = eq-eqb (equal_in c) 0 e
      go (suc j) e = absurd (another (equal_out c) (equal_in c) (found-equal j e) n)

  pub rows-yes : Only (graph_of c) (weight_of c) S → only c ≡ true
  rows-yes alone = none-yes (none_other alone)

  pub no-equal : only c ≡ false → EqualExchange c (equal_out c) (equal_in c)
  unfolding only
  no-equal h = go (equal_in c) refl
    where
      go : (i : ℕ) → equal_in c ≡ i → EqualExchange c (equal_out c) (equal_in c)
      go zero e = clash (eq-eqb (equal_in c) 0 e) h
      go (suc j) e = found-equal j e

-- what CST's yes and no are worth
pub only-holds : OnlyHolds
unfolding equal_rows rows_beside
only-holds c a =
    record {
      yes = λ weight alone e. let (least, w, y) = passed-least c a weight alone e in rw y (yes-none c a least, none-yes c a least);
      no = λ weight e. let (least, w, y) = passed-least c a weight false e in rw e (no-equal c a least (sym y));
    }
