-- The visits on the machine keep what the theory asks for (Kept), so that the labels are the groups and the rings the rows that close one (all-labels, all-rings).
-- Assumes nothing.
use Prim.Native.Nat.{ℕ, zero, suc, min, max, ◌≤◌, ◌<◌}
use lib.Dec.{eqb}
use lib.ListN.{length, get_or, replicate, length-replicate, get_or-replicate, get_or-eq_default}
use mathlib.Core.Bool.{Bool, true, false, cond, and-false}
use mathlib.Core.List.{List}
use mathlib.Core.Logic.{◌≢◌}
use mathlib.Core.Path.{◌≡◌, refl, sym, ◌∙◌, ap, subst, fun_ext}
use native.Mathlib.Decide.{ℕ_discrete, dec_lt}
use native.Mathlib.Omega.{arith}
use Rattle.graph_theory.proofs.Reach.{Joins, rightward, leftward}
use Rattle.graph_theory.specs.Graph.{Graph, Sound, Inside}
use Rattle.graph_theory.specs.Meaning.{Vertex}
use Rattle.groups.proofs.Steps.{row-marked, row-unmarked, visit-closes, visit-joins, xor-in, length-all-turned, column-turned}
use Rattle.groups.specs.Steps.Machine.{State, ring_at, columns_turned, joined_at, visit_at, row_at, visits, all_visited}
use Rattle.groups_theory.proofs.Rings.{ring_of}
use Rattle.groups_theory.proofs.Held.{Held, relabelled, turned, held_start, held_same, held-ring, held-join, held-group, held-closes}
use Rattle.groups_theory.specs.Groups.{group_of, closes_ring}
use Rattle.mend_groups.proofs.Groups.{length-renamed, get_d-renamed, length-labels, get_d-labels}
use Rattle.mend_groups.proofs.Joining.{written_in}
use Rattle.mend_groups.specs.Steps.Machine.{renamed, all_renamed, labels_from}
use Rattle.mend_theory.proofs.Rings.{above-put, above_same}
use Rattle.path_exchange.proofs.Turned.{InSize, column-in}
use Rattle.path_matrix.specs.Matrix.{matrix_column}
use Rattle.rowset.proofs.Laws.{refuted, up_to-in, both-inside}
use Rattle.rowset.proofs.Members.{both-in, put_all}
use Rattle.rowset.specs.Bytes.{in_row}
use Rattle.rowset.specs.Sets.{empty, up_to, both, one_of, put}
use Rattle.slice.proofs.Bits.{bit-of-zero}
use Rattle.slice.specs.Slices.{size}
use Rattle.star_spec.proofs.Claims.{in_row-byte}

-- the columns of a matrix of zeros are empty
zero_word : (n k : ℕ) → ◌≡◌ {A = ℕ} (get_or (replicate n 0) k 0) 0
zero_word n k = go (dec_lt k n)
  where
    go : Dec (k < n) → ◌≡◌ {A = ℕ} (get_or (replicate n 0) k 0) 0
    go (yes h) = get_or-replicate n k 0 0 h
    go (no h) = get_or-eq_default (replicate n 0) 0 (omega (arith, length-replicate {A = ℕ} n 0))

zero-column : (n v : ℕ) → matrix_column (replicate n 0) v ≡ empty
unfolding matrix_column empty
zero-column n v = fun_ext (λ i. rw (zero_word n, bit-of-zero, and-false, and-false))

-- a renamed label
renamed-label : (l : List ℕ) (x y v : ℕ) → 1 ≤ v → v ≤ length l → in_row 1 (all_renamed l x y) v ≡ relabelled (in_row 1 l) x y v
unfolding renamed relabelled
renamed-label l x y zero low high = absurd (omega arith)
renamed-label l x y (suc j) low high = in_row-byte (all_renamed l x y) j ∙ get_d-renamed l x y j (omega arith) ∙ ap (λ (z : ℕ). cond (eqb z x) y z) (sym (in_row-byte l j))

own-label : (n v : ℕ) → 1 ≤ v → v ≤ n → in_row 1 (labels_from 0 n) v ≡ v
own-label n zero low high = absurd (omega arith)
own-label n (suc j) low high = in_row-byte (labels_from 0 n) j ∙ get_d-labels 0 n j (omega arith) ∙ omega arith

module _ (n m : ℕ) (left right : List ℕ) (U : ℕ → Bool) where
  abbrev g : Graph
  g = record { n = n; m = m; a = in_row 1 left; b = in_row 1 right; rows = U }

  module _ (ok : Sound g) (few : n ≤ 255) (short : m ≤ size) (M : ℕ → Bool) (inside : Inside g M) where
    -- after the visits at rows 1 to k
    pub record Kept (k : ℕ) (s : State) : Type 0 where
      pub forest : ℕ → Bool
      pub held : Held g (both (up_to k) M) forest (in_row 1 s.labels) (matrix_column s.own) s.rings
      pub labels-size : length s.labels ≡ n
      pub own-size : length s.own ≡ 4080

    above-inside : (k : ℕ) → Inside g (both (up_to k) M)
    above-inside k i t = inside i (both-in (up_to k) M i t).1

    none_above : both (up_to 0) M ≡ empty
    unfolding empty
    none_above = fun_ext λ i. refuted _ (λ t. let (l, u) = up_to-in 0 i (both-in (up_to 0) M i t).0 in omega arith)

    kept-start : Kept 0 (record { rings = empty; labels = labels_from 0 n; own = replicate 4080 0 })
    kept-start =
        record {
          forest = empty;
          held =
              held_same g ok (above-inside 0)
              (subst (λ (S : ℕ → Bool). Held g S empty (λ v. v) (λ v. empty) empty) (sym none_above) (held_start g ok))
              (in_row 1 (labels_from 0 n)) (matrix_column (replicate 4080 0)) (λ v (l, u). own-label n v l u) (λ v h. zero-column 4080 v);
          labels-size = length-labels 0 n;
          own-size = length-replicate {A = ℕ} 4080 0;
        }

    module _ (k : ℕ) (low : suc k ≤ m) (s : State) (h : Kept k s) (on : M (suc k) ≡ true) where
      abbrev L : ℕ → ℕ
      L = in_row 1 s.labels

      abbrev P : ℕ → ℕ → Bool
      P = matrix_column s.own

      abbrev a : ℕ
      a = in_row 1 left (suc k)

      abbrev b : ℕ
      b = in_row 1 right (suc k)

      abbrev ring : ℕ → Bool
      ring = ring_at s.own (in_row 1 left (suc k)) (in_row 1 right (suc k)) (suc k)

      new : both (up_to k) M (suc k) ≡ false
      new = refuted _ (λ t. let (l, u) = up_to-in k (suc k) (both-in (up_to k) M (suc k) t).0 in omega arith)

      ring-is : ring ≡ ring_of g P (suc k)
      unfolding ring_at ring_of
      ring-is = written_in (one_of (P (in_row 1 left (suc k))) (P (in_row 1 right (suc k)))) (suc k) (omega arith) (omega arith)

      ring-size : InSize (ring_of g P (suc k))
      unfolding ring_of
      ring-size = put_all (λ (e : ℕ). (1 ≤ e) × (e ≤ size)) (one_of (P (in_row 1 left (suc k))) (P (in_row 1 right (suc k)))) (suc k) (xor-in _ _ (column-in s.own _) (column-in s.own _)) (omega arith, omega arith)

      closes_kept : L (in_row 1 left (suc k)) ≡ L (in_row 1 right (suc k)) → Kept (suc k) (visit_at n left right (suc k) s)
      closes_kept e =
          rw (visit-closes n left right (suc k) s e, ring-is)
          (record {
            forest = h.forest;
            held = rw (above-put k M on) (held-ring g ok (above-inside k) h.held (suc k) new e);
            labels-size = h.labels-size;
            own-size = h.own-size;
          })

      joined-kept : (c d : ℕ) → Joins g (suc k) c d → L c < L d → Kept (suc k) (joined_at n s (L d) (L c) (ring_of g P (suc k)))
      unfolding joined_at turned
      joined-kept c d joins less =
          record {
            forest = put h.forest (suc k);
            held =
                rw (above-put k M on)
                (held_same g ok (put_all (λ (i : ℕ). U i ≡ true) (both (up_to k) M) (suc k) (above-inside k) (inside (suc k) on))
                (held-join g ok (above-inside k) h.held (suc k) (inside (suc k) on) new c d joins less)
                (in_row 1 (all_renamed s.labels (L d) (L c)))
                (matrix_column (columns_turned s.labels s.own n (L d) (ring_of g P (suc k))))
                (λ v (l, u). renamed-label s.labels (L d) (L c) v l (omega (arith, h.labels-size)))
                (λ v (l, u). column-turned s.labels (L d) (ring_of g P (suc k)) ring-size s.own n (omega (arith, h.own-size)) v l u));
            labels-size = length-renamed s.labels (L d) (L c) ∙ h.labels-size;
            own-size = length-all-turned s.labels (L d) (ring_of g P (suc k)) s.own n ∙ h.own-size;
          }

      joins-kept : L (in_row 1 left (suc k)) ≢ L (in_row 1 right (suc k)) → Kept (suc k) (visit_at n left right (suc k) s)
      joins-kept e = rw (visit-joins n left right (suc k) s e, ring-is) (go (dec_lt (L (in_row 1 left (suc k))) (L (in_row 1 right (suc k)))))
        where
          go : Dec (L a < L b) → Kept (suc k) (joined_at n s (max (L a) (L b)) (min (L a) (L b)) (ring_of g P (suc k)))
          go (yes l) =
              let more : max (L a) (L b) ≡ L b = omega arith in
              let less : min (L a) (L b) ≡ L a = omega arith in
              rw (more, less) (joined-kept _ _ rightward l)
          go (no l) =
              let more : max (L a) (L b) ≡ L a = omega arith in
              let less : min (L a) (L b) ≡ L b = omega arith in
              rw (more, less) (joined-kept _ _ leftward (omega (arith, e)))

    kept_step : (k : ℕ) → suc k ≤ m → (s : State) → Kept k s → Kept (suc k) (row_at M n left right (suc k) s)
    kept_step k low s h = go (M (suc k)) refl
      where
        at : M (suc k) ≡ true → Dec (in_row 1 s.labels (in_row 1 left (suc k)) ≡ in_row 1 s.labels (in_row 1 right (suc k))) → Kept (suc k) (visit_at n left right (suc k) s)
        at on (yes e) = closes_kept k low s h on e
        at on (no e) = joins-kept k low s h on e

        go : (b : Bool) → M (suc k) ≡ b → Kept (suc k) (row_at M n left right (suc k) s)
        go false off =
            rw (row-unmarked M n left right (suc k) s off)
            (record { forest = h.forest; held = rw (above_same k M off) h.held; labels-size = h.labels-size; own-size = h.own-size })
        go true on = rw (row-marked M n left right (suc k) s on) (at on (ℕ_discrete _ _))

    kept-after : (k : ℕ) → k ≤ m → Kept k (visits (row_at M n left right) k (record { rings = empty; labels = labels_from 0 n; own = replicate 4080 0 }))
    unfolding visits
    kept-after zero l = kept-start
    kept-after (suc k) l = kept_step k l _ (kept-after k (omega arith))

    all-kept : Kept m (all_visited n m left right M n)
    unfolding all_visited
    all-kept = kept-after m (omega arith)

    all_above : both (up_to m) M ≡ M
    all_above = both-inside m M (λ i t. ok.position i (inside i t))

    all_held : Held g M all-kept.forest (in_row 1 (all_visited n m left right M n).labels) (matrix_column (all_visited n m left right M n).own) (all_visited n m left right M n).rings
    all_held = subst (λ (S : ℕ → Bool). Held g S all-kept.forest (in_row 1 (all_visited n m left right M n).labels) (matrix_column (all_visited n m left right M n).own) (all_visited n m left right M n).rings) all_above all-kept.held

    -- the labels are the groups, and the rings the rows that close one
    pub all-labels : (v : ℕ) → Vertex g v → in_row 1 (all_visited n m left right M n).labels v ≡ group_of g M v
    all-labels = held-group g ok inside all_held

    pub all-rings : (all_visited n m left right M n).rings ≡ closes_ring g M
    all-rings = fun_ext (held-closes g ok inside all_held)

    pub all-length : length (all_visited n m left right M n).labels ≡ n
    all-length = all-kept.labels-size
