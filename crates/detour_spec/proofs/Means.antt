-- What the numbers beside a claim mean (means): the exchanges of the claim's bytes are the exchanges of its rows, of which detour_theory says which is the lightest. Assumes nothing.
use Prim.Native.Nat.{ℕ, zero, suc, ◌≤◌}
use lib.IntN.{ℤ}
use lib.ListN.{length}
use lib.Signed.{◌≤ℤ◌}
use mathlib.Core.Bool.{Bool, true, false}
use mathlib.Core.List.{List}
use mathlib.Core.Logic.{◌↔◌, by_cases}
use mathlib.Core.Option.{Option, none, some}
use mathlib.Core.Path.{◌≡◌, refl, sym, subst, ◌∙◌, ap}
use native.Mathlib.Decide.{dec_le}
use native.Mathlib.Omega.{arith}
use Rattle.detour_theory.proofs.Promise.{detours-promise}
use Rattle.detour_theory.specs.Detours.{dearest, replacement}
use Rattle.detour_theory.specs.Promise as theory
use Rattle.graph_theory.specs.Graph.{Graph, Sound}
use Rattle.graph_theory.specs.Least.{Least}
use Rattle.graph_theory.specs.Tree.{SpanningTree, exchange}
use Rattle.refusal.specs.declared.Refusal.{Refusal}
use Rattle.rowset.proofs.Laws.{clash, refuted}
use Rattle.rowset.proofs.Members.{in_both}
use Rattle.star_meaning.proofs.Bytes.{Standing, accepted, turned, standing, refused-first}
use Rattle.star_meaning.proofs.Demand3.{apart, ok, demand3, least-claim, claim-least, out-row, unmarked-byte, exchanged-rows, exchanged-tree}
use Rattle.star_meaning.specs.Demand3.{ClaimTree, LeastClaim, Fault}
use Rattle.star_spec.proofs.Accepted.{used-row, row-used}
use Rattle.star_spec.specs.Accepted.{Row}
use Rattle.star_spec.specs.Call.{Call, rows_of, used, graph_of, weight_of, marked, claimed, claim_weight, with_claim, exchanged}
use Rattle.star_spec.specs.Cst.{Answer, refused, passed, lighter, cst, verdict, judged, row_in, row_out, only}
use Rattle.star_spec.specs.Refusals.{Accepted, table_causes, cst_causes, refusal}
use Rattle.detour_spec.proofs.Numbers.{numbers_of-length, number_in, number-outside}
use Rattle.detour_spec.specs.Detours.{number_at, numbers_of, number_of, detour_of}
use Rattle.detour_spec.specs.Means.{ClaimSwap, weight_after, LightestOut, LightestIn, DetoursMean}

-- a claim over an accepted table is a spanning tree, or refused
pub data Judged (c : Call) : Type 0 where
  tree : ClaimTree c → refusal (cst_causes c) ≡ none → Judged c
  fault : (r : Refusal) → refusal (cst_causes c) ≡ some r → Fault c r → (ClaimTree c → ⊥) → Judged c

module _ (c : Call) (a : Accepted c) where
  pub judgement : Judged c
  unfolding cst verdict judged
  judgement = go (refusal (cst_causes c)) refl
    where
      of-rows : refusal (cst_causes c) ≡ none → (i : ℕ) → row_in c ≡ i → ClaimTree c
      of-rows e zero q = ((demand3 c a).passes.0 (_, _, ap (verdict c) e ∙ ap (λ i. judged c i (row_out c)) q)).tree
      of-rows e (suc j) q = ((demand3 c a).exchange _ _ _ (ap (verdict c) e ∙ ap (λ i. judged c i (row_out c)) q)).claim-tree

      go : (o : Option Refusal) → refusal (cst_causes c) ≡ o → Judged c
      go none e = tree (of-rows e (row_in c) refl) e
      go (some r) e = let x : cst c ≡ refused r = ap (verdict c) e in fault r e ((demand3 c a).fault r x) ((demand3 c a).declines.0 (r, x))

  abbrev g : Graph
  g = graph_of c

  abbrev w : ℕ → ℤ
  w = weight_of c

  abbrev S : ℕ → Bool
  S = claimed c

  -- a marked row in use belongs to the claim, an unmarked one does not
  row-marked : (i : ℕ) → Row c i → marked c.mark i ≡ true → S i ≡ true
  unfolding claimed
  row-marked i r m = in_both (used c) (marked c.mark) i (row-used c i r) m

  row-unmarked : (i : ℕ) → Row c i → marked c.mark i ≡ false → S i ≡ false
  row-unmarked i r m = refuted (S i) (λ e. clash (out-row c a i e).1 m)

  graph-row : (i : ℕ) → Row c i → g.rows i ≡ true
  unfolding graph_of
  graph-row i r = row-used c i r

  row-graph : (i : ℕ) → g.rows i ≡ true → Row c i
  unfolding graph_of
  row-graph i h = used-row c i h

  module _ (t : ClaimTree c) where
    -- exchanges of bytes and exchanges of rows are the same
    pub swap-rows : (e f : ℕ) → ClaimSwap c e f → theory.Swap g S e f
    unfolding used graph_of
    swap-rows e f s =
        record {
          out = row-marked e s.out-row s.out-marked;
          row = graph-row f s.in-row;
          lacked = row-unmarked f s.in-row s.in-unmarked;
          tree = subst (λ (Q : ℕ → Bool). SpanningTree g Q) (exchanged-rows c a t e f s.out-row s.in-row) s.tree.spanning;
        }

    pub rows-swap : (e f : ℕ) → theory.Swap g S e f → ClaimSwap c e f
    rows-swap e f s =
        let (o, m) = out-row c a e s.out in
        let i = row-graph f s.row in
        record {
          out-row = o;
          in-row = i;
          out-marked = m;
          in-unmarked = unmarked-byte c a f (row-used c f i) s.lacked;
          tree = exchanged-tree c a t e f o i s.tree;
        }

    -- and weigh the same
    pub swap-after : (e f : ℕ) → ClaimSwap c e f → weight_after c e f ≡ theory.after g w S e f
    unfolding used graph_of weight_of claim_weight
    swap-after e f s = rw (exchanged-rows c a t e f s.out-row s.in-row)

    d : theory.DetoursMean g w S
    d = detours-promise g (ok c a) w S t.spanning

    lightest-out : (e f : ℕ) → theory.BestOut g w S e f → LightestOut c e f
    lightest-out e f b =
        let s = rows-swap e f b.swap in
        record {
          swap = s;
          lightest = λ k x. rw (swap-after e f s, swap-after k f x) (b.lightest k (swap-rows k f x));
          uppermost = λ k x q. b.uppermost k (swap-rows k f x) (sym (swap-after k f x) ∙ q ∙ swap-after e f s);
        }

    lightest-in : (e f : ℕ) → theory.BestFor g w S e f → LightestIn c e f
    lightest-in e f b =
        let s = rows-swap e f b.swap in
        record {
          swap = s;
          lightest = λ k x. rw (swap-after e f s, swap-after e k x) (b.lightest k (swap-rows e k x));
          uppermost = λ k x q. b.uppermost k (swap-rows e k x) (sym (swap-after e k x) ∙ q ∙ swap-after e f s);
        }

    -- the number of a row in use
    told : (i : ℕ) → Row c i → number_at (numbers_of (rows_of c) (detour_of c)) i ≡ detour_of c i
    told i (l, u, x) = number_in (rows_of c) (detour_of c) i l u

    at-unmarked : (i : ℕ) → Row c i → marked c.mark i ≡ false → number_at (numbers_of (rows_of c) (detour_of c)) i ≡ dearest g w S i
    unfolding detour_of number_of
    at-unmarked i r m = told i r ∙ rw (row-used c i r, row-unmarked i r m)

    at-marked : (i : ℕ) → Row c i → marked c.mark i ≡ true → number_at (numbers_of (rows_of c) (detour_of c)) i ≡ replacement g w S i
    unfolding detour_of number_of
    at-marked i r m = told i r ∙ rw (row-used c i r, row-marked i r m)

    off : (i : ℕ) → (Row c i → ⊥) → number_at (numbers_of (rows_of c) (detour_of c)) i ≡ 0
    unfolding detour_of number_of number_at
    off zero n = refl
    off (suc j) n = by_cases (dec_le (suc j) (rows_of c)) within (λ h. number-outside (numbers_of (rows_of c) (detour_of c)) (suc j) (omega (arith, numbers_of-length (rows_of c) (detour_of c))))
      where
        within : suc j ≤ rows_of c → number_at (numbers_of (rows_of c) (detour_of c)) (suc j) ≡ 0
        within h = number_in (rows_of c) (detour_of c) (suc j) (omega arith) h ∙ rw (refuted (used c (suc j)) (λ e. n (used-row c (suc j) e)))

    pub means : DetoursMean c (numbers_of (rows_of c) (detour_of c))
    means =
        record {
          sized = numbers_of-length (rows_of c) (detour_of c);
          dearest = λ i r m. rw (at-unmarked i r m) (lightest-out _ i (d.goes i (graph-row i r) (row-unmarked i r m)));
          replaced = λ i r m n. rw (at-marked i r m) (lightest-in i _ (d.comes i (row-marked i r m) (λ z. n (at-marked i r m ∙ z))));
          bridge = λ i r m z k s. d.bridge i (row-marked i r m) (sym (at-marked i r m) ∙ z) k (swap-rows i k s);
          elsewhere = off;
          least = (
            λ l i r m. rw (at-unmarked i r m) (d.least.0 (claim-least c a l) i (graph-row i r) (row-unmarked i r m)),
            λ h. least-claim c a t (d.least.1 (λ f r out. let i = row-graph f r in let m = unmarked-byte c a f (row-used c f i) out in rw (at-unmarked f i m) at (h f i m))),
          );
        }

-- a claim that is not refused is a spanning tree of an accepted table
pub unrefused : (c : Call) → refusal (cst_causes c) ≡ none → Accepted c × ClaimTree c
unfolding cst_causes
unrefused c e =
    elim (standing c) [
      | accepted a ↦ (a, elim (judgement c a) [ tree t q ↦ t | fault r q f n ↦ absurd (apart r (sym q ∙ e)) ])
      | turned r q ↦ absurd (apart r (sym (refused-first c r _ (table_causes c) q) ∙ e))
    ]
