-- Packing keeps least totals, spanning trees, the builder's answer and passed claims: the rows in use are the same rows under other numbers.
-- Assumes nothing.
use Prim.Native.Nat.{ℕ, suc, ◌-◌, ◌≤◌}
use lib.IntN.{ℤ}
use lib.ListN.{length, get_or, get_or-eq_default}
use mathlib.Core.Bool.{Bool, true, false}
use mathlib.Core.List.{List}
use mathlib.Core.Logic.{◌↔◌, by_cases}
use mathlib.Core.Option.{Option, none, some}
use mathlib.Core.Path.{◌≡◌, refl, sym, ap, ap₂, ◌∙◌, fun_ext, subst}
use native.Mathlib.Decide.{dec_le}
use native.Mathlib.Omega.{arith}
use Rattle.star_meaning.proofs.Demand3.{ok, least-claim, claim-least, least-passed, passed-least, mst1-total, stated, built-accepted, demand3}
use Rattle.star_meaning.proofs.Only.{yes-rows, rows-yes}
use Rattle.star_meaning.specs.Demand3.{ClaimTree, LeastClaim}
use Rattle.graph_theory.proofs.LeastTotal.{least-total-stays}
use Rattle.graph_theory.proofs.Renumbered.{renumbering-keeps}
use Rattle.graph_theory.specs.Least.{Least}
use Rattle.graph_theory.specs.LeastTotal.{least_total}
use Rattle.graph_theory.specs.Renumbered.{Renumbered, SameWeights, carried, Keeps as Kept}
use Rattle.graph_theory.specs.Tree.{SpanningTree}
use Rattle.path_matrix.proofs.Laws.{length-words_from}
use Rattle.change_meaning.proofs.Carrying.{carried-length, carried-moved, carried_none}
use Rattle.change_meaning.specs.Packing.{call_on, carried_to, Carries, LeastOf, Keeps, without_row, MergingKeeps, AddingKeeps}
use Rattle.refusal.specs.declared.Refusal.{Refusal}
use Rattle.rowset.proofs.Integers.{integers}
use Rattle.rowset.proofs.Laws.{in-up_to, up_to-in}
use Rattle.rowset.proofs.Members.{same_truth}
use Rattle.rowset.specs.Bytes.{in_row}
use Rattle.rowset.specs.Integers.{signed}
use Rattle.rowset.specs.Sets.{both, take_out, count}
use Rattle.star_spec.proofs.Accepted.{accepted-means, working-means, used-work}
use Rattle.star_spec.specs.Accepted.{GoodRows, AcceptedTable, WorkingTable}
use Rattle.star_spec.specs.Call.{Call, used, graph_of, weight_of, marked, claimed, claim_weight, with_claim}
use Rattle.star_spec.specs.Cst.{passed, only, cst}
use Rattle.star_spec.specs.Mst1.{tree_built, mst1, mst1_marks}
use Rattle.star_spec.specs.Refusals.{Accepted}
use Rattle.change_spec.proofs.Meaning.{held-inside, merging-merges, added-sized, earlier-rows, adding-adds}
use Rattle.change_spec.proofs.Numbers.{numbers-in-order}
use Rattle.change_spec.proofs.Tables.{Sized, packed_table-sized, room-sized}
use Rattle.change_spec.specs.Changes.{afterwards, words_of, struck_words, merged, room_made, new_row, added}
use Rattle.change_spec.specs.Meaning.{old_row, number_of, MergesTo, AddsTo, Unpacked}
use Rattle.change_spec.specs.Packing.{new_number, own_number}
use Rattle.change_spec.specs.Tables.{Working, in_use, strike_refusal, merge_refusal}

-- the rows in use of t are those of s under other numbers: row i of s is row place i of t, row j of t is row number j of s, and s lists these numbers
record Moved (t s : Working) (place number : ℕ → ℕ) : Type 0 where
  sized : Sized s
  placed : (i : ℕ) → in_use s i ≡ true → (in_use t (place i) ≡ true) × (number (place i) ≡ i)
  numbered : (j : ℕ) → in_use t j ≡ true → (in_use s (number j) ≡ true) × (place (number j) ≡ j)
  unnumbered : (j : ℕ) → in_use t j ≡ false → number j ≡ 0
  row : (j : ℕ) → in_use t j ≡ true
      → (in_row 1 s.left (number j) ≡ in_row 1 t.left j) × (in_row 1 s.right (number j) ≡ in_row 1 t.right j) × (in_row 4 s.weight (number j) ≡ in_row 4 t.weight j)
  listed : length s.numbers ≡ 1024
  numbers : (j : ℕ) → 1 ≤ j → j ≤ 1024 → number_of s j ≡ number j

-- ── Two ways to move rows ──

-- MERGE's: the rows in use go to the top in their order
packed-moved : (t s : Working) → Sized s → MergesTo t s → Moved t s (old_row 1024 (in_use t)) (new_number (in_use t))
packed-moved t s z m =
    let X = in_use t in
    let o = numbers-in-order 1024 X in
    record {
      sized = z;
      placed = λ i e. let h = up_to-in (count 1024 X) i (rw m.rows at e) in let x = o.onto i h.0 h.1 in (x.1, x.2);
      numbered =
          λ j e.
          let b = held-inside t.words j e in
          let h = o.inside j b.0 b.1 e in
          (rw m.rows (in-up_to (count 1024 X) (new_number X j) h.0 h.1), o.back j b.0 b.1 e);
      unnumbered = o.outside;
      row =
          λ j e.
          let b = held-inside t.words j e in
          rw (m.numbers j b.0 b.1) at (m.moved j e);
      listed = m.listed;
      numbers = m.numbers;
    }

-- a row in use has its own number, any other 0
own : (X : ℕ → Bool) (i : ℕ) → X i ≡ true → own_number X i ≡ i
unfolding own_number
own X i e = rw e

not_own : (X : ℕ → Bool) (i : ℕ) → X i ≡ false → own_number X i ≡ 0
unfolding own_number
not_own X i e = rw e

-- the rows stay where they are
kept-moved : (t s : Working) → Sized s → Unpacked t s → Moved t s (λ i. i) (own_number (in_use t))
kept-moved t s z u =
    record {
      sized = z;
      placed = λ i e. let f : in_use t i ≡ true = rw u.words at e in (f, own (in_use t) i f);
      numbered = λ j e. rw (own (in_use t) j e, u.words) (e, refl);
      unnumbered = not_own (in_use t);
      row = λ j e. rw (own (in_use t) j e, u.left, u.right, u.weight) (refl, refl, refl);
      listed = u.listed;
      numbers = u.numbers;
    }

-- ── What stays where rows have moved ──

-- what is built is a least tree, with the weight that is stated; and where there is a tree, one is built
module _ (c : Call) (a : Accepted c) where
  built-least : (weight : ℤ) → mst1 c ≡ tree_built weight → LeastOf (with_claim c (mst1_marks c)) weight
  built-least weight e =
      let d = with_claim c (mst1_marks c) in
      let h = demand3 d (built-accepted c a weight e) in
      let (single, q) = (demand3 c a).builds weight e in
      (h.passes.0 (weight, single, q), sym (h.weight weight single q))

  least-built : (x : ℤ) (other : List ℕ) → LeastOf (with_claim c other) x → mst1 c ≡ tree_built x
  least-built x other (l, e) =
      let (weight, q) = (demand3 c a).built other l.tree in
      let (b, w) = built-least weight q in
      q ∙ ap tree_built (sym w ∙ omega (arith, integers, l.least _ b.tree, b.least other l.tree) ∙ e)

module _ (n : ℕ) (t s : Working) (claim : List ℕ) (place number : ℕ → ℕ) (v : Moved t s place number) (table : AcceptedTable (call_on n t claim)) where
  abbrev c : Call
  c = call_on n t claim

  before : WorkingTable n t.words t.left t.right t.weight claim
  before = (working-means n t.words t.left t.right t.weight claim).0 table

  -- row i of s has the ends and the price of row place i of t
  from-left : (i : ℕ) → in_use s i ≡ true → in_row 1 s.left i ≡ in_row 1 t.left (place i)
  from-left i e = let (f, q) = v.placed i e in rw q at (v.row (place i) f).0

  from-right : (i : ℕ) → in_use s i ≡ true → in_row 1 s.right i ≡ in_row 1 t.right (place i)
  from-right i e = let (f, q) = v.placed i e in rw q at (v.row (place i) f).1

  from-weight : (i : ℕ) → in_use s i ≡ true → in_row 4 s.weight i ≡ in_row 4 t.weight (place i)
  from-weight i e = let (f, q) = v.placed i e in rw q at (v.row (place i) f).2

  -- s is accepted with every claim of 1,024 bytes
  good : GoodRows n s.left s.right (λ i. in_use s i ≡ true)
  good =
      record {
        left_end = λ i e. rw (from-left i e) (before.good-rows.left_end (place i) (v.placed i e).0);
        right_end = λ i e. rw (from-right i e) (before.good-rows.right_end (place i) (v.placed i e).0);
        apart = λ i e. rw (from-left i e, from-right i e) (before.good-rows.apart (place i) (v.placed i e).0);
        unrepeated =
            λ i k e f p.
            let same : place i ≡ place k = before.good-rows.unrepeated (place i) (place k) (v.placed i e).0 (v.placed k f).0 (rw (from-left i e, from-right i e, from-left k f, from-right k f) at p) in
            sym (v.placed i e).1 ∙ ap number same ∙ (v.placed k f).1;
      }

  after : (other : List ℕ) → length other ≡ 1024 → AcceptedTable (call_on n s other)
  after other l =
      (working-means n s.words s.left s.right s.weight other).1 (record {
        vertices = before.vertices;
        words-length = v.sized.words;
        left-length = v.sized.left;
        right-length = v.sized.right;
        weight-length = v.sized.weight;
        mark-length = l;
        good-rows = good;
      })

  -- a row that is named by a number is in use
  named : (j k : ℕ) → get_or s.numbers j 0 ≡ k → 1 ≤ k → (in_use t (suc j) ≡ true) × (number (suc j) ≡ k)
  named j k e l = by_cases (dec_le (suc j) 1024) (λ h. go h (in_use t (suc j)) refl) (λ h. absurd (omega (arith, get_or-eq_default s.numbers 0 (outside h))))
    where
      outside : (suc j ≤ 1024 → ⊥) → length s.numbers ≤ j
      outside h = omega (arith, h, v.listed)

      there : suc j ≤ 1024 → number (suc j) ≡ k
      there h =
          let at : suc j - 1 ≡ j = omega arith in
          sym (v.numbers (suc j) (omega arith) h) ∙ ap (λ x. get_or s.numbers x 0) at ∙ e

      go : suc j ≤ 1024 → (b : Bool) → in_use t (suc j) ≡ b → (in_use t (suc j) ≡ true) × (number (suc j) ≡ k)
      go h true q = (q, there h)
      go h false q = absurd (omega (arith, there h, v.unnumbered (suc j) q))

  -- the carried claim
  carries : Carries t s claim
  carries =
      record {
        as_long = carried-length s.numbers claim;
        moved =
            λ i e.
            let b = held-inside t.words i e in
            let q = v.numbers i b.0 b.1 in
            let (f, p) = v.numbered i e in
            let h = held-inside s.words (number i) f in
            rw q (carried-moved s.numbers claim i (number i) b.0 (rw v.listed b.1) (rw before.mark-length b.1) h.0 (rw before.mark-length h.1) q
            (λ j r. let (x, y) = named j (number i) r h.0 in sym (v.numbered (suc j) x).1 ∙ ap place y ∙ p));
        elsewhere =
            λ k away.
            carried_none s.numbers claim k
            (λ j r l.
            let (x, y) = named j k r l in
            let b = held-inside t.words (suc j) x in
            away (suc j) x (v.numbers (suc j) b.0 b.1 ∙ y));
      }

  byte : (i : ℕ) → in_use s i ≡ true → in_row 1 (carried_to s claim) i ≡ in_row 1 claim (place i)
  byte i e =
      let (f, q) = v.placed i e in
      let b = held-inside t.words (place i) f in
      ap (in_row 1 (carried_to s claim)) (sym (v.numbers (place i) b.0 b.1 ∙ q)) ∙ carries.moved (place i) f

  -- ── The graphs ──

  abbrev d : Call
  d = call_on n s claim

  abbrev e : Call
  e = call_on n s (carried_to s claim)

  c-ok : Accepted c
  c-ok = (accepted-means c).1 table

  d-ok : Accepted d
  d-ok = (accepted-means d).1 (after claim before.mark-length)

  e-ok : Accepted e
  e-ok = (accepted-means e).1 (after (carried_to s claim) (carries.as_long ∙ before.mark-length))

  in-t : used c ≡ in_use t
  in-t = used-work n t.words t.left t.right t.weight claim

  in-s : used d ≡ in_use s
  in-s = used-work n s.words s.left s.right s.weight claim

  renumbered : Renumbered (graph_of c) (graph_of d) place number
  unfolding graph_of
  renumbered =
      record {
        vertices = refl;
        placed = rw (in-t, in-s) v.placed;
        numbered = rw (in-t, in-s) v.numbered;
        left = rw in-s from-left;
        right = rw in-s from-right;
      }

  same : SameWeights (graph_of d) place (weight_of c) (weight_of d)
  unfolding graph_of weight_of
  same = rw in-s (λ i e. ap signed (from-weight i e))

  stays : Kept (graph_of c) (graph_of d) place number (weight_of c) (weight_of d)
  stays = renumbering-keeps (graph_of c) (graph_of d) (ok c c-ok) (ok d d-ok) place number renumbered (weight_of c) (weight_of d) same

  least-total : least_total (graph_of d) (weight_of d) ≡ least_total (graph_of c) (weight_of c)
  least-total = least-total-stays (graph_of c) (graph_of d) (ok c c-ok) (ok d d-ok) place number renumbered (weight_of c) (weight_of d) same

  -- the builder states the least total
  builds : mst1 d ≡ mst1 c
  builds = mst1-total d d-ok ∙ ap stated least-total ∙ sym (mst1-total c c-ok)

  trees : ((other : List ℕ) × ClaimTree (call_on n t other)) ↔ ((other : List ℕ) × ClaimTree (call_on n s other))
  trees = (
    λ (other, x). let (weight, q) = (demand3 c c-ok).built other x in (_, (built-least d d-ok weight (builds ∙ q)).0.tree),
    λ (other, x). let (weight, q) = (demand3 d d-ok).built other x in (_, (built-least c c-ok weight (sym builds ∙ q)).0.tree),
  )

  totals : (x : ℤ) → ((other : List ℕ) × LeastOf (call_on n t other) x) ↔ ((other : List ℕ) × LeastOf (call_on n s other) x)
  totals x = (
    λ (other, l). (_, built-least d d-ok x (builds ∙ least-built c c-ok x other l)),
    λ (other, l). (_, built-least c c-ok x (sym builds ∙ least-built d d-ok x other l)),
  )

  -- ── The carried claim as a set of rows ──

  claimed-carried : claimed e ≡ carried (graph_of d) place (claimed c)
  unfolding claimed carried graph_of both marked
  claimed-carried = fun_ext λ i. go i (in_use s i) refl
    where
      in_e : used e ≡ in_use s
      in_e = used-work n s.words s.left s.right s.weight (carried_to s claim)

      go : (i : ℕ) (b : Bool) → in_use s i ≡ b → claimed e i ≡ carried (graph_of d) place (claimed c) i
      go i true q = rw (in_e, in-s, in-t, q, (v.placed i q).0, byte i q) refl
      go i false q = rw (in_e, in-s, q) refl

  tree : ClaimTree c → ClaimTree e
  unfolding used graph_of
  tree x =
      record {
        bytes = carries.as_long ∙ x.bytes;
        zero-or-one = λ i (l, u, q). let (f, r) = v.placed i q in let b = held-inside t.words (place i) f in rw (byte i q) (x.zero-or-one (place i) (b.0, b.1, f));
        spanning = subst (λ (Q : ℕ → Bool). SpanningTree (graph_of d) Q) (sym claimed-carried) (stays.there.spanning (claimed c) x.spanning);
      }

  weight : ClaimTree c → claim_weight e ≡ claim_weight c
  unfolding used graph_of weight_of claim_weight
  weight x = rw claimed-carried (stays.there.weight (claimed c) x.spanning.inside)

  least : LeastClaim c → LeastClaim e
  unfolding used graph_of weight_of
  least l =
      least-claim e e-ok (tree l.tree)
      (subst (λ (Q : ℕ → Bool). Least (graph_of d) (weight_of d) Q) (sym claimed-carried) (stays.there.least (claimed c) (claim-least c c-ok l)))

  -- yes stays yes, and no stays no
  alone : LeastClaim c → only e ≡ only c
  unfolding used graph_of weight_of
  alone l = same_truth _ _ back there
    where
      there : only c ≡ true → only e ≡ true
      there q = rows-yes e e-ok (least l) (rw claimed-carried (stays.there.only (claimed c) l.tree.spanning (yes-rows c c-ok l q)))

      back : only e ≡ true → only c ≡ true
      back q =
          let x = stays.there.spanning (claimed c) l.tree.spanning in
          let o = stays.back.only (carried (graph_of d) place (claimed c)) x (rw claimed-carried at (yes-rows e e-ok (least l) q)) in
          rows-yes c c-ok l (rw (stays.there_and_back (claimed c) l.tree.spanning.inside) at o)

  passes : (weight : ℤ) (single : Bool) → cst c ≡ passed weight single → cst e ≡ passed weight single
  passes x single q =
      let (l, w, y) = passed-least c c-ok x single q in
      least-passed e e-ok (least l) ∙ ap₂ passed (weight l.tree ∙ sym w) (alone l ∙ sym y)

  keeps : Keeps n t s claim
  keeps =
      record {
        accepted = after;
        totals = totals;
        least-total = least-total;
        trees = trees;
        builds = builds;
        carries = carries;
        tree = tree;
        weight = weight;
        least = least;
        passes = passes;
      }

-- ── MERGE and adding ──

-- the lengths of an accepted working table's parts
sized : (n : ℕ) (t : Working) (claim : List ℕ) → AcceptedTable (call_on n t claim) → Sized t
sized n t claim a =
    let w = (working-means n t.words t.left t.right t.weight claim).0 a in
    record { words = w.words-length; left = w.left-length; right = w.right-length; weight = w.weight-length }

merged-sized : (t : Working) → merge_refusal t ≡ none → Sized t → Sized (merged t)
unfolding merged afterwards
merged-sized t e z = rw e (packed_table-sized t z)

pub merging-keeps : MergingKeeps
merging-keeps n t claim a e = keeps n t (merged t) claim _ _ (packed-moved t (merged t) (merged-sized t e (sized n t claim a)) ((merging-merges t).done e)) a

-- the rows in use before the new row have moved as they did to make room
added-moved : (t s u : Working) (i a b price : ℕ) (place number : ℕ → ℕ) → Moved t s place number → AddsTo s u i a b price → Sized (without_row u i) → in_use (without_row u i) ≡ in_use s → Moved t (without_row u i) place number
added-moved t s u i a b price place number v x z rows =
    record {
      sized = z;
      placed = rw rows v.placed;
      numbered = rw rows v.numbered;
      unnumbered = v.unnumbered;
      row =
          λ j e.
          let h = x.after-all (number j) (v.numbered j e).0 in
          let (l, r, w) = x.others (number j) (λ q. omega arith) in
          rw (l, r, w) (v.row j e);
      listed = rw x.numbers v.listed;
      numbers = rw x.numbers v.numbers;
    }

struck-sized : (u : Working) (i : ℕ) → Sized u → Sized (without_row u i)
unfolding struck_words afterwards
struck-sized u i z = record { words = sixteen (strike_refusal u.words i); left = z.left; right = z.right; weight = z.weight }
  where
    sixteen : (o : Option Refusal) → length (afterwards o (words_of (take_out (in_use u) i)) u.words) ≡ 16
    sixteen none = length-words_from (take_out (in_use u) i) 0 16
    sixteen (some r) = z.words

pub adding-keeps : AddingKeeps
adding-keeps n t claim a l r price e = go (in_use t 1024) refl
  where
    s : Working
    s = room_made t

    z : Sized s
    z = room-sized t (sized n t claim a)

    u : Working
    u = without_row (added t l r price) (new_row s)

    from : (place number : ℕ → ℕ) → Moved t s place number → Keeps n t u claim
    from place number v =
        keeps n t u claim place number
        (added-moved t s (added t l r price) (new_row s) l r price place number v ((adding-adds t l r price).done e) (struck-sized _ _ (added-sized t l r price e)) (earlier-rows t l r price e)) a

    go : (b : Bool) → in_use t 1024 ≡ b → Keeps n t u claim
    go true q = from _ _ (packed-moved t s z ((adding-adds t l r price).packs e q))
    go false q = from _ _ (kept-moved t s z ((adding-adds t l r price).keeps e q))
