-- Rows, walks, spanning trees and weights of Promise.antt are those of the columns of a call, plain or working.
-- Assumes nothing.
use Prim.Native.Nat.{ℕ, zero, suc, ◌+◌, ◌*◌, ◌%◌, ◌^◌, ◌≤◌, ◌<◌}
use borrow.Author.Tests.{eqb-true, eq-eqb, lt-ltb, le-ltb}
use lib.Dec.{eqb, ltb}
use lib.IntN.{ℤ, pos, nat_abs, ◌+ℤ◌, ◌-ℤ◌}
use lib.ListN.{get_or}
use mathlib.Core.Bool.{Bool, true, false, cond, ◌&&◌}
use mathlib.Core.List.{List}
use mathlib.Core.Path.{◌≡◌, refl, sym, ap, ◌∙◌, subst}
use native.Mathlib.Decide.{dec_lt}
use native.Mathlib.Omega.{arith}
use Rattle.star_meaning.specs.Demand3.{ClaimTree, LeastClaim}
use Rattle.graph_theory.specs.Graph.{Graph, stay, ahead}
use Rattle.graph_theory.specs.Graph as G
use Rattle.promise.specs.Promise as P
use Rattle.rowset.proofs.Laws.{in-up_to}
use Rattle.rowset.proofs.Members.{both-in, in_both}
use Rattle.rowset.specs.Bytes.{little, in_row}
use Rattle.rowset.specs.Integers.{from_bits, total}
use Rattle.rowset.specs.Sets.{count, sum, both}
use Rattle.star_spec.proofs.Accepted.{row-used, used-row}
use Rattle.star_spec.proofs.Claims.{in_row-byte, marked-byte, marked-zero}
use Rattle.star_spec.specs.Accepted.{Row}
use Rattle.star_spec.specs.Call.{Call, table_of, used, graph_of, weight_of, claimed, claim_weight}

-- numbers in bytes, and the signed number of a word
pub number-little : (b : List ℕ) (k j : ℕ) → P.number b k j ≡ little b k j
unfolding P.number little
number-little b k zero = refl
number-little b k (suc j) = ap (λ x. get_or b k 0 + 256 * x) (number-little b (suc k) j)

pub signed-bits : (k h x : ℕ) → 2 ^ k ≡ 2 * h → P.signed h x ≡ from_bits k x
unfolding P.signed from_bits
signed-bits k h x e = rw e (ap (λ b. cond b (pos (x % (2 * h))) (pos (x % (2 * h)) -ℤ pos (2 * h))) (same (x % (2 * h))))
  where
    same : (y : ℕ) → ltb y h ≡ ltb (2 * y) (2 * h)
    same y = elim (dec_lt y h) [ yes l ↦ lt-ltb y h l ∙ sym (lt-ltb (2 * y) (2 * h) (omega arith)) | no l ↦ le-ltb y h (omega arith) ∙ sym (le-ltb (2 * y) (2 * h) (omega arith)) ]

pub amount-read : (a : List ℕ) → P.amount a ≡ from_bits 64 (little a 8 8)
amount-read a = ap (P.signed 9223372036854775808) (number-little a 8 8) ∙ signed-bits 64 9223372036854775808 (little a 8 8) refl

-- a table t, and the rows in use as a call has them
module _ (t : P.Table) (uses : ℕ → Bool) (same : (k : ℕ) → k < t.m → uses (suc k) ≡ t.in_use k) where
  abbrev pub call : List ℕ → Call
  call c = table_of t.n t.m t.whole uses t.left t.right t.weights c

  module _ (c : List ℕ) where
    pub row-there : (k : ℕ) → P.Row t k → Row (call c) (suc k)
    row-there k (l, e) = (omega arith, l, same k l ∙ e)

    pub row_here : (k : ℕ) → Row (call c) (suc k) → P.Row t k
    row_here k (z, l, e) = (l, sym (same k l) ∙ e)

    abbrev g : Graph
    g = graph_of (call c)

    abbrev S : ℕ → Bool
    S = claimed (call c)

    -- the marked rows
    in-claimed : (k : ℕ) → P.Row t k → P.at c k ≡ 1 → S (suc k) ≡ true
    unfolding claimed
    in-claimed k r e = in_both _ _ (suc k) (row-used (call c) (suc k) (row-there k r)) (marked-byte c k ∙ eq-eqb _ _ e)

    claimed-in : (k : ℕ) → S (suc k) ≡ true → P.Row t k × (P.at c k ≡ 1)
    unfolding claimed
    claimed-in k e =
        let (u, m) = both-in _ _ (suc k) e in
        (row_here k (used-row (call c) (suc k) u), eqb-true _ _ (sym (marked-byte c k) ∙ m))

    claimed-zero : S 0 ≡ true → ⊥
    unfolding claimed
    claimed-zero e = let z : ◌≡◌ {A = Bool} false true = sym (marked-zero c) ∙ (both-in _ _ 0 e).1 in let y : ◌≡◌ {A = ℕ} 0 1 = cc in omega arith

    mark-bit : (k : ℕ) → k < t.m → S (suc k) ≡ (t.in_use k && eqb (P.at c k) 1)
    unfolding claimed used both
    mark-bit k l = rw (in-up_to t.m (suc k) (omega arith) l, same k l, marked-byte c k)

    -- the ends of a row
    left_end : (k : ℕ) → g.a (suc k) ≡ P.at t.left k
    unfolding graph_of
    left_end k = in_row-byte t.left k

    right_end : (k : ℕ) → g.b (suc k) ≡ P.at t.right k
    unfolding graph_of
    right_end k = in_row-byte t.right k

    -- walks
    pub walk-there : {u v : ℕ} → P.Walk t c u v → G.Walk g S u v
    walk-there P.stay = stay
    walk-there {u} (P.forth k r e w) =
        subst (G.Walk g S u) (right_end k) (ahead (suc k) (in-claimed k r e) (subst (G.Walk g S u) (sym (left_end k)) (walk-there w)))
    walk-there {u} (P.back k r e w) =
        subst (G.Walk g S u) (left_end k) (G.Walk.back (suc k) (in-claimed k r e) (subst (G.Walk g S u) (sym (right_end k)) (walk-there w)))

    pub walk_here : {u v : ℕ} → G.Walk g S u v → P.Walk t c u v
    walk_here stay = P.stay
    walk_here {u} (ahead i e w) = go i e (walk_here w)
      where
        go : (i : ℕ) → S i ≡ true → P.Walk t c u (g.a i) → P.Walk t c u (g.b i)
        go zero e w = absurd (claimed-zero e)
        go (suc k) e w = subst (P.Walk t c u) (sym (right_end k)) (P.forth k (claimed-in k e).0 (claimed-in k e).1 (subst (P.Walk t c u) (left_end k) w))
    walk_here {u} (G.Walk.back i e w) = go i e (walk_here w)
      where
        go : (i : ℕ) → S i ≡ true → P.Walk t c u (g.b i) → P.Walk t c u (g.a i)
        go zero e w = absurd (claimed-zero e)
        go (suc k) e w = subst (P.Walk t c u) (sym (left_end k)) (P.back k (claimed-in k e).0 (claimed-in k e).1 (subst (P.Walk t c u) (right_end k) w))

    -- sums over the marked rows
    sum-total : (f w : ℕ → ℤ) → ((k : ℕ) → w (suc k) ≡ f k) → (k : ℕ) → k ≤ t.m → total k w S ≡ P.sum t c f k
    unfolding P.sum total
    sum-total f w h zero l = refl
    sum-total f w h (suc k) l = rw (sum-total f w h k (omega arith), mark-bit k l, h k)

    pub weight-same : claim_weight (call c) ≡ P.weight t c
    unfolding claim_weight weight_of in_row
    weight-same =
        sum-total _ _ (λ k. sym (ap (P.signed 2147483648) (number-little t.weights (4 * k) 4) ∙ signed-bits 32 2147483648 _ refl)) t.m (omega arith)

    count-total : (p : ℕ → Bool) (m : ℕ) → total m (λ i. pos 1) p ≡ pos (count m p)
    unfolding total count sum
    count-total p zero = refl
    count-total p (suc m) = rw (count-total p m) (one (p (suc m)))
      where
        one : (b : Bool) → (pos (count m p) +ℤ cond b (pos 1) (pos 0)) ≡ pos (count m p + cond b 1 0)
        one true = refl
        one false = refl

    marks-same : P.sum t c (λ k. pos 1) t.m ≡ pos (count t.m S)
    marks-same = sym (sum-total (λ k. pos 1) (λ i. pos 1) (λ k. refl) t.m (omega arith)) ∙ count-total S t.m

    pub count-there : P.Count t c → suc (count t.m S) ≡ t.n
    count-there e = omega (arith, ap nat_abs (ap (λ z. z +ℤ pos 1) (sym marks-same) ∙ e))

    pub count-here : suc (count t.m S) ≡ t.n → P.Count t c
    count-here e = ap (λ z. z +ℤ pos 1) marks-same ∙ ap pos (omega arith)

    -- spanning trees
    pub tree-there : P.SpanningTree t c → ClaimTree (call c)
    unfolding graph_of claimed
    tree-there s =
        record {
          bytes = s.sized;
          zero-or-one = zero-or-one;
          spanning = record {
            inside = λ i e. (both-in _ _ i e).0;
            marks = count-there s.count;
            reached = λ v l h. walk-there (s.joined v (l, h));
          };
        }
      where
        zero-or-one : (i : ℕ) → Row (call c) i → in_row 1 c i ≤ 1
        zero-or-one zero r = absurd (omega (arith, r.0))
        zero-or-one (suc k) r = rw (in_row-byte c k) (s.binary k (row_here k r))

    pub tree-here : ClaimTree (call c) → P.SpanningTree t c
    unfolding graph_of claimed
    tree-here s =
        record {
          sized = s.bytes;
          binary = λ k r. rw (in_row-byte c k) at (s.zero-or-one (suc k) (row-there k r));
          count = count-here s.spanning.marks;
          joined = λ v h. walk_here (s.spanning.reached v h.0 h.1);
        }

  pub least-here : (c : List ℕ) → LeastClaim (call c) → P.Least t c
  least-here c l = record { tree = tree-here c l.tree; least = λ d s. rw (weight-same c, weight-same d) at (l.least d (tree-there d s)) }

  pub least-there : (c : List ℕ) → P.Least t c → LeastClaim (call c)
  least-there c l = record { tree = tree-there c l.tree; least = λ d s. rw (weight-same c, weight-same d) (l.least d (tree-here d s)) }
