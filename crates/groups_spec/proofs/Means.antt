-- What groups and rings mean of the table (groups-told): the definitions on the columns are those of the graph, whose theorem is cited.
-- Assumes nothing.
use Prim.Native.Nat.{ℕ, zero, suc, ◌+◌, ◌≤◌, ◌<◌}
use borrow.Author.Tests.{eqb-true, eq-eqb}
use lib.Dec.{eqb}
use lib.ListN.{length, get_or}
use mathlib.Core.Bool.{Bool, true, false}
use mathlib.Core.List.{List, [], ◌∷◌}
use mathlib.Core.Logic.{◌↔◌}
use mathlib.Core.Path.{◌≡◌, refl, sym, ◌∙◌, ap, subst}
use native.Mathlib.Omega.{arith}
use Rattle.graph_theory.specs.Graph.{Graph, Inside, Walk}
use Rattle.groups_spec.specs.Groups.{vertex_group, ring_rows, numbers_from}
use Rattle.groups_spec.specs.Means.{Taken, MarkedWalk, GroupsTold}
use Rattle.groups_theory.proofs.Held.{count-ext}
use Rattle.groups_theory.proofs.Means.{groups-means}
use Rattle.groups_theory.specs.Groups.{group_of, group_count, closes_ring}
use Rattle.groups_theory.specs.Means.{GroupsMean}
use Rattle.rowset.proofs.Laws.{clash, refuted, count-take_out, count-empty}
use Rattle.rowset.proofs.Members.{both-in}
use Rattle.rowset.specs.Bytes.{in_row}
use Rattle.rowset.specs.Sets.{empty, both, take_out, count}
use Rattle.star_meaning.proofs.Demand3.{ok}
use Rattle.star_meaning.specs.Demand3.{RightCount, ClaimTree}
use Rattle.star_spec.proofs.Accepted.{used-row, accepted-means}
use Rattle.star_spec.proofs.Claims.{in_row-byte, marked-claim_of, claim_of-length, claim_of-bytes}
use Rattle.star_spec.specs.Accepted.{Vertex, Row}
use Rattle.star_spec.specs.Call.{Call, rows_of, used, graph_of, marked, claimed, claim_of}
use Rattle.star_spec.specs.Refusals.{Accepted}

-- the bytes of the vertices' numbers
pub length-numbers : (f : ℕ → ℕ) (v k : ℕ) → length (numbers_from f v k) ≡ k
unfolding numbers_from
length-numbers f v zero = refl
length-numbers f v (suc k) = ap suc (length-numbers f (suc v) k)

pub get_d-numbers : (f : ℕ → ℕ) (v k j : ℕ) → j < k → get_or (numbers_from f v k) j 0 ≡ f (suc (v + j))
unfolding numbers_from
get_d-numbers f v zero j h = absurd (omega arith)
get_d-numbers f v (suc k) zero h = ap f (omega arith)
get_d-numbers f v (suc k) (suc j) h = get_d-numbers f (suc v) k j (omega arith) ∙ ap f (omega arith)

pub byte-numbers : (f : ℕ → ℕ) (n v : ℕ) → 1 ≤ v → v ≤ n → in_row 1 (numbers_from f 0 n) v ≡ f v
byte-numbers f n zero l u = absurd (omega arith)
byte-numbers f n (suc j) l u = in_row-byte (numbers_from f 0 n) j ∙ get_d-numbers f 0 n j (omega arith) ∙ ap f (omega arith)

claimed-inside : (c : Call) → Inside (graph_of c) (claimed c)
unfolding graph_of claimed
claimed-inside c i h = (both-in (used c) (marked c.mark) i h).0

-- a byte is 1 exactly where it marks
byte-marks : (l : List ℕ) (i : ℕ) → in_row 1 l i ≡ 1 → marked l i ≡ true
unfolding marked
byte-marks l i e = eq-eqb _ 1 e

marks-byte : (l : List ℕ) (i : ℕ) → marked l i ≡ true → in_row 1 l i ≡ 1
unfolding marked
marks-byte l i e = eqb-true _ 1 e

claimed-row : (c : Call) (i : ℕ) → claimed c i ≡ true → Row c i × (in_row 1 c.mark i ≡ 1)
unfolding claimed
claimed-row c i t = let (u, m) = both-in (used c) (marked c.mark) i t in (used-row c i u, marks-byte c.mark i m)

module _ (c : Call) (a : Accepted c) where
  known : GroupsMean (graph_of c) (claimed c)
  known = groups-means (graph_of c) (ok c a) (claimed c) (claimed-inside c)

  abbrev G : List ℕ
  G = numbers_from (vertex_group c) 0 c.n

  abbrev Z : List ℕ
  Z = claim_of (rows_of c) (ring_rows c)

  group-byte : (v : ℕ) → Vertex c.n v → in_row 1 G v ≡ group_of (graph_of c) (claimed c) v
  unfolding vertex_group
  group-byte v (l, u) = byte-numbers (vertex_group c) c.n v l u

  ring-claimed : (i : ℕ) → ring_rows c i ≡ true → claimed c i ≡ true
  unfolding ring_rows
  ring-claimed i t = ((known.ring i).0 t).0

  ring-place : (i : ℕ) → ring_rows c i ≡ true → (1 ≤ i) × (i ≤ rows_of c)
  ring-place i t = let (l, u, _) = (claimed-row c i (ring-claimed i t)).0 in (l, u)

  ring-marks : marked Z ≡ ring_rows c
  ring-marks = marked-claim_of (rows_of c) (ring_rows c) ring-place

  -- a ring is counted
  ring-counted : (i : ℕ) → ring_rows c i ≡ true → 1 ≤ count (rows_of c) (ring_rows c)
  ring-counted i t = let (l, u) = ring-place i t in omega (arith, count-take_out (rows_of c) i (ring_rows c) l u t)

  none-counted : ((i : ℕ) → ring_rows c i ≡ false) → count (rows_of c) (ring_rows c) ≡ 0
  unfolding empty
  none-counted h = count-ext (rows_of c) (ring_rows c) empty (λ i l u. h i) ∙ count-empty (rows_of c)

  tree-told : length c.mark ≡ rows_of c → ((i : ℕ) → Row c i → in_row 1 c.mark i ≤ 1) → ClaimTree c ↔ ((group_count (graph_of c) (claimed c) ≡ 1) × (count (rows_of c) (ring_rows c) ≡ 0))
  unfolding ring_rows
  tree-told bytes zero-or-one = (
    λ t. let (one, none) = known.tree.0 t.spanning in (one, none-counted none),
    λ (one, nought). record { bytes = bytes; zero-or-one = zero-or-one; spanning = known.tree.1 (one, λ i. refuted _ (λ t. let k = ring-counted i t in absurd (omega arith))) },
  )

  not-enough : RightCount c → 2 ≤ group_count (graph_of c) (claimed c) → (1 ≤ count (rows_of c) (ring_rows c)) × ((i : ℕ) × (in_row 1 Z i ≡ 1))
  unfolding graph_of ring_rows
  not-enough marks more =
      let (i, t) = known.count-is-not-enough marks more in
      (ring-counted i t, (i, marks-byte Z i (ap (λ (p : ℕ → Bool). p i) ring-marks ∙ t)))

  pub groups-told : (groups rings : List ℕ) → Taken c groups rings → GroupsTold c G Z (group_count (graph_of c) (claimed c)) (count (rows_of c) (ring_rows c))
  unfolding graph_of ring_rows group_count
  groups-told groups rings t =
      record {
        bytes = (length-numbers (vertex_group c) 0 c.n, claim_of-length (rows_of c) (ring_rows c));
        zero-or-one = claim_of-bytes (rows_of c) (ring_rows c);
        rows = λ i e. claimed-row c i (ring-claimed i (ring_of i e));
        group-walk = λ v hv. let (x, w) = known.group-walk v hv in (subst (Vertex c.n) (sym (group-byte v hv)) x, subst (MarkedWalk c v) (sym (group-byte v hv)) w);
        group-least = λ u v hu hv w. omega (arith, group-byte v hv, known.group-least u v hu hv w);
        same-group = λ u v hu hv. (λ e. (known.same-group u v hu hv).0 (sym (group-byte u hu) ∙ e ∙ group-byte v hv), λ w. group-byte u hu ∙ (known.same-group u v hu hv).1 w ∙ sym (group-byte v hv));
        ring = λ i. (λ e. (known.ring i).0 (ring_of i e), λ x. marks-byte Z i (ap (λ (p : ℕ → Bool). p i) ring-marks ∙ (known.ring i).1 x));
        group-number = count-ext c.n _ _ (λ v l u. ap (λ (k : ℕ). eqb k v) (sym (group-byte v (l, u))));
        ring-number = ap (count (rows_of c)) (sym ring-marks);
        tree = tree-told t.table.mark-length t.zero-or-one;
        count-is-not-enough = not-enough;
      }
    where
      ring_of : (i : ℕ) → in_row 1 Z i ≡ 1 → ring_rows c i ≡ true
      ring_of i e = ap (λ (p : ℕ → Bool). p i) (sym ring-marks) ∙ byte-marks Z i e
