-- Demand 3 holds: over every accepted table, what CST answers on a claim and what MST1 builds are what they should be.
-- Assumes nothing.
use Prim.Native.Nat.{ℕ, zero, suc, ◌≤◌}
use mathlib.Core.Bool.{Bool, true, false, not, ◌&&◌, ◌||◌, and_assoc, or-true, or-false, and-eq-true_iff}
use mathlib.Core.List.{List, [], ◌∷◌}
use mathlib.Core.Logic.{◌⊎◌, ⊎_elim}
use mathlib.Core.Option.{Option, none, some}
use mathlib.Core.Path.{◌≡◌, refl, sym, ap, ◌∙◌, fun_ext, subst, subst₃}
use borrow.Author.Tests.{ltb-true, ltb-false, le-ltb, eqb-true, eqb-false, eq-eqb, not-true, not-false}
use lib.Dec.{eqb}
use lib.IntN.{ℤ, pos, nat_abs, ◌-ℤ◌}
use lib.ListN.{length, length-set}
use lib.Signed.{◌≤ℤ◌}
use native.Mathlib.Omega.{arith}
use Rattle.graph_theory.proofs.Joined.{unjoined-place, unjoined-none}
use Rattle.graph_theory.proofs.Reach.{walk-joined}
use Rattle.graph_theory.specs.Builder.{Fragment, tree}
use Rattle.graph_theory.specs.Graph.{Sound, Inside, joined}
use Rattle.graph_theory.specs.Least.{Least}
use Rattle.graph_theory.specs.LeastTotal.{weighed, least_total}
use Rattle.graph_theory.specs.Tree.{SpanningTree, exchange}
use Rattle.refusal.specs.declared.Refusal.{Refusal}
use Rattle.rowset.proofs.Laws.{both-subset, refuted, uppermost-none, uppermost-some, uppermost-zero}
use Rattle.rowset.proofs.Members.{both-in}
use Rattle.rowset.proofs.Integers.{integers, plus, minus, difference, pos-parts}
use Rattle.rowset.proofs.Signed.{difference-small}
use Rattle.rowset.specs.Bytes.{in_row}
use Rattle.rowset.specs.Integers.{total}
use Rattle.rowset.specs.Sets.{both, put, take_out, uppermost, count}
use Rattle.graph_theory.proofs.Builder.{built-spanning, built-least, not-built}
use Rattle.graph_theory.proofs.Exchange.{exchange-weight}
use Rattle.graph_theory.proofs.Path.{and-never}
use Rattle.graph_theory.proofs.Least.{Lighter, good-least, least-good}
use Rattle.star_spec.proofs.Accepted.{none-head, none_tail, none_both, none-nil, refusal-append, cause-none, none-cause, cause_at-none, none-cause_at, some-cons, some-cause, some-cause_at, Taken, taken, used-row, row-used, sound}
use Rattle.star_meaning.proofs.Checker.{none-good, good_none, found-lighter}
use Rattle.star_spec.proofs.Claims.{marked-claim_of, claim_of-length, claim_of-bytes, marked-exchanged, exchanged-bytes}
use Rattle.star_spec.specs.Accepted.{Row}
use Rattle.star_spec.specs.Call.{Call, rows_of, used, graph_of, weight_of, marked, claimed, claim_weight, with_claim, claim_of, exchanged}
use Rattle.star_spec.specs.Cst.{Answer, refused, passed, lighter, row_in, row_out, only, judged, verdict, cst}
use Rattle.star_meaning.specs.Demand3.{ClaimTree, LeastClaim, WorthExchange, ZeroOrOne, Fault, bad-byte, bad-count, cut_off, BuilderBytes, Demand3}
use Rattle.star_spec.specs.Mst1.{BuildAnswer, unbuilt, tree_built, chosen_rows, tree_rows, built, mst1, built_marks, mst1_marks}
use Rattle.star_spec.specs.Refusals.{cause, bad_vertices, too_many_rows, bad_lengths, bad_row, bad_ends, repeats, repeated_row, wrong_byte, bad_claim, bad_count, unjoined, no_tree, is_none, table_causes, cst_causes, mst1_causes, refusal, or_else, Accepted}

-- the exchange within a set that has the row that comes in
both-exchange : (p q : ℕ → Bool) (e f : ℕ) → p f ≡ true → both p (exchange q e f) ≡ exchange (both p q) e f
unfolding both exchange put take_out
both-exchange p q e f h = fun_ext (λ i. at i (eqb i f) refl)
  where
    at : (i : ℕ) (t : Bool) → eqb i f ≡ t → (p i && (q i && not (eqb i e) || t)) ≡ (p i && q i && not (eqb i e) || t)
    at i true u = rw (eqb-true i f u, h, or-true (q f && not (eqb f e)))
    at i false u = rw (or-false (q i && not (eqb i e)), or-false (p i && q i && not (eqb i e)), and_assoc (p i) (q i) (not (eqb i e)))

-- a refusal is not none, and the answers are told apart
pub apart : (r : Refusal) → ◌≡◌ {A = Option Refusal} (some r) none → ⊥
apart r e = let z : ◌≡◌ {A = ℕ} 0 1 = cc in omega arith

pub refused-passed : {x : Answer} {r : Refusal} {weight : ℤ} {alone : Bool} → x ≡ refused r → x ≡ passed weight alone → ⊥
refused-passed e h = let z : ◌≡◌ {A = ℕ} 0 1 = cc in omega arith

pub refused-lighter : {x : Answer} {r : Refusal} {out into saving : ℕ} → x ≡ refused r → x ≡ lighter out into saving → ⊥
refused-lighter e h = let z : ◌≡◌ {A = ℕ} 0 1 = cc in omega arith

pub passed-lighter : {x : Answer} {weight : ℤ} {alone : Bool} {out into saving : ℕ} → x ≡ passed weight alone → x ≡ lighter out into saving → ⊥
passed-lighter e h = let z : ◌≡◌ {A = ℕ} 0 1 = cc in omega arith

pub unbuilt-built : {x : BuildAnswer} {r : Refusal} {weight : ℤ} → x ≡ unbuilt r → x ≡ tree_built weight → ⊥
unbuilt-built e h = let z : ◌≡◌ {A = ℕ} 0 1 = cc in omega arith

length_exchanged : (l : List ℕ) (out into : ℕ) → length (exchanged l out into) ≡ length l
unfolding exchanged
length_exchanged l out into = simp length-set

none-some : {j : ℕ} → ◌≡◌ {A = ℕ} (suc j) 0 → ⊥
none-some e = omega arith

-- the rows that the claim marks are rows of the table
claimed-inside : (c : Call) → Inside (graph_of c) (claimed c)
unfolding graph_of claimed
claimed-inside c i h = (both-in (used c) (marked c.mark) i h).0

-- the builder's answer where this is the least total, and where there is none
pub stated : Option ℤ → BuildAnswer
stated none = unbuilt (record { number = 11; place = 0 })
stated (some weight) = tree_built weight

-- the causes that CST seeks after the table's own
claim-causes : (c : Call) → Accepted c → refusal (cst_causes c) ≡ refusal (bad_claim c ∷ bad_count c ∷ unjoined c 1 ∷ [])
unfolding cst_causes
claim-causes c a = refusal-append (table_causes c) _ a

module _ (c : Call) (a : Accepted c) where
  pub ok : Sound (graph_of c)
  ok = sound c (taken c a)

  -- a claim that is not refused is a spanning tree
  tree_of : refusal (cst_causes c) ≡ none → ClaimTree c
  unfolding graph_of bad_claim wrong_byte bad_count unjoined
  tree_of e =
      record {
        bytes = t.mark-length;
        zero-or-one = small;
        spanning =
            record {
              inside = claimed-inside c;
              marks = eqb-true _ _ (not-false _ (cause-none _ 9 0 (none-head _ _ e₂)));
              reached = unjoined-none (graph_of c) ok (claimed c) (claimed-inside c) 1 (omega arith) t.some-vertex (cause_at-none 10 _ (none-head _ _ (none_tail _ _ e₂)));
            };
      }
    where
      t : Taken c
      t = taken c a

      e₁ : refusal (bad_claim c ∷ bad_count c ∷ unjoined c 1 ∷ []) ≡ none
      e₁ = sym (claim-causes c a) ∙ e

      e₂ : refusal (bad_count c ∷ unjoined c 1 ∷ []) ≡ none
      e₂ = none_tail _ _ e₁

      small : ZeroOrOne c
      small i r =
          ltb-false 1 _
          (rw (row-used c i r) at (uppermost-none (rows_of c) (wrong_byte (used c) c.mark) (cause_at-none 6 _ (none-head _ _ e₁)) i r.0 r.1))

  -- and a spanning tree is not refused
  not-refused : ClaimTree c → refusal (cst_causes c) ≡ none
  unfolding graph_of bad_claim wrong_byte bad_count unjoined
  not-refused t =
      claim-causes c a
      ∙ none_both (bad_claim c) _ (none-cause_at 6 bytes)
      (none_both (bad_count c) _ (none-cause _ 9 0 marks) (none_both (unjoined c 1) _ (none-cause_at 10 joins) none-nil))
    where
      bytes : uppermost (rows_of c) (wrong_byte (used c) c.mark) ≡ 0
      bytes =
          uppermost-zero (rows_of c) (wrong_byte (used c) c.mark)
          (λ i l u. and-never (used c i) _ (λ e. le-ltb 1 _ (t.zero-or-one i (used-row c i e))))

      marks : not (eqb (suc (count (rows_of c) (claimed c))) c.n) ≡ false
      marks = ap not (eq-eqb _ _ t.spanning.marks)

      joins : uppermost c.n (λ v. not (joined (graph_of c) (claimed c) 1 v)) ≡ 0
      joins =
          uppermost-zero c.n (λ v. not (joined (graph_of c) (claimed c) 1 v))
          (λ v l u. ap not (walk-joined (graph_of c) ok (claimed c) t.spanning.inside 1 (omega arith) (taken c a).some-vertex v (t.spanning.reached v l u)))

  -- the three forms of CST's answer
  data Judged : Type 0 where
    declined : (r : Refusal) → cst c ≡ refused r → (ClaimTree c → ⊥) → Judged
    approved : ClaimTree c → row_in c ≡ 0 → cst c ≡ passed (claim_weight c) (only c) → Judged
    faulted : ClaimTree c → (j : ℕ) → row_in c ≡ suc j → cst c ≡ judged c (suc j) (row_out c) → Judged

  judgement : Judged
  unfolding cst verdict judged
  judgement = go (refusal (cst_causes c)) refl
    where
      go₂ : (t : ClaimTree c) (i : ℕ) → row_in c ≡ i → Judged
      go₂ t zero e = approved t e (ap (verdict c) (not-refused t) ∙ ap (λ i. judged c i (row_out c)) e)
      go₂ t (suc j) e = faulted t j e (ap (verdict c) (not-refused t) ∙ ap (λ i. judged c i (row_out c)) e)

      go : (o : Option Refusal) → refusal (cst_causes c) ≡ o → Judged
      go none e = go₂ (tree_of e) _ refl
      go (some r) e = declined r (ap (verdict c) e) (λ t. apart r (sym e ∙ not-refused t))

  -- a claim is least among claims exactly where its rows are least among sets of rows
  pub least-claim : ClaimTree c → Least (graph_of c) (weight_of c) (claimed c) → LeastClaim c
  unfolding used graph_of weight_of claim_weight
  least-claim t l = record { tree = t; least = λ other o. l.least (claimed (with_claim c other)) o.spanning }

  -- the claim that marks the rows of a spanning tree
  claim-rows : (S : ℕ → Bool) → SpanningTree (graph_of c) S → claimed (with_claim c (claim_of (rows_of c) S)) ≡ S
  unfolding used graph_of claimed
  claim-rows S t =
      ap (both (used c)) (marked-claim_of (rows_of c) S (λ i e. let (l, h, x) = used-row c i (t.inside i e) in (l, h)))
      ∙ both-subset (used c) S t.inside

  claim-tree : (S : ℕ → Bool) → SpanningTree (graph_of c) S → ClaimTree (with_claim c (claim_of (rows_of c) S))
  unfolding used graph_of
  claim-tree S t =
      record {
        bytes = claim_of-length (rows_of c) S;
        zero-or-one = λ i r. claim_of-bytes (rows_of c) S i;
        spanning = subst (λ (Q : ℕ → Bool). SpanningTree (graph_of c) Q) (sym (claim-rows S t)) t;
      }

  pub claim-least : LeastClaim c → Least (graph_of c) (weight_of c) (claimed c)
  unfolding used graph_of weight_of claim_weight
  claim-least l =
      record {
        tree = l.tree.spanning;
        least =
            λ S t.
            subst (λ (Q : ℕ → Bool). claim_weight c ≤ℤ total (rows_of c) (weight_of c) Q) (claim-rows S t)
            (l.least _ (claim-tree S t));
      }

  -- a marked row of the claim is a row in use whose byte is 1, and an unmarked row in use is one whose byte is not
  pub out-row : (out : ℕ) → claimed c out ≡ true → Row c out × (marked c.mark out ≡ true)
  unfolding claimed
  out-row out m = let (u, k) = both-in (used c) (marked c.mark) out m in (used-row c out u, k)

  pub unmarked-byte : (into : ℕ) → used c into ≡ true → claimed c into ≡ false → marked c.mark into ≡ false
  unfolding claimed both
  unmarked-byte into u k = rw u at k

  -- the exchange of two rows as an exchange of bytes: which rows it marks, and that it is a spanning tree where the rows are
  pub exchanged-rows : ClaimTree c → (out into : ℕ) → Row c out → Row c into → claimed (with_claim c (exchanged c.mark out into)) ≡ exchange (claimed c) out into
  unfolding used claimed
  exchanged-rows t out into o r =
      ap (both (used c)) (marked-exchanged c.mark out into o.0 (rw t.bytes o.1) r.0 (rw t.bytes r.1))
      ∙ both-exchange (used c) (marked c.mark) out into (row-used c into r)

  pub exchanged-tree : ClaimTree c → (out into : ℕ) → Row c out → Row c into → SpanningTree (graph_of c) (exchange (claimed c) out into) → ClaimTree (with_claim c (exchanged c.mark out into))
  unfolding used graph_of
  exchanged-tree t out into o r s =
      record {
        bytes = length_exchanged c.mark out into ∙ t.bytes;
        zero-or-one = λ i h. exchanged-bytes c.mark out into o.0 (rw t.bytes o.1) r.0 (rw t.bytes r.1) i (t.zero-or-one i h);
        spanning = subst (λ (Q : ℕ → Bool). SpanningTree (graph_of c) Q) (sym (exchanged-rows t out into o r)) s;
      }

  -- what a lighter exchange of rows says of the claim's bytes
  worth : ClaimTree c → (out into : ℕ) → Lighter (graph_of c) (weight_of c) (claimed c) out into → WorthExchange c out into (nat_abs (weight_of c out -ℤ weight_of c into))
  unfolding used graph_of weight_of claim_weight
  worth t out into l =
      record {
        claim-tree = t;
        out-row = o;
        in-row = i;
        out-marked = (out-row out l.out-marked).1;
        in-unmarked = unmarked-byte into l.in-row l.in-unmarked;
        tree = exchanged-tree t out into o i l.tree;
        weight =
            rw (exchanged-rows t out into o i) (omega (
              arith,
              integers,
              exchange-weight (graph_of c) ok (claimed c) t.spanning w out into l.out-marked l.in-row l.in-unmarked,
              plus (total (rows_of c) w (exchange (claimed c) out into)) (w out),
              plus (total (rows_of c) w (claimed c)) (w into),
              plus (total (rows_of c) w (exchange (claimed c) out into)) (pos (nat_abs (w out -ℤ w into))),
              difference (w out) (w into) less,
              minus (w out) (w into),
            ));
        positive = omega (arith, integers, l.saves, difference (w out) (w into) less, minus (w out) (w into), pos-parts (nat_abs (w out -ℤ w into)));
        small = difference-small (in_row 4 c.weight out) (in_row 4 c.weight into) less;
      }
    where
      w : ℕ → ℤ
      w = weight_of c

      less : w into ≤ℤ w out
      less = omega (arith, integers, l.saves)

      o : Row c out
      o = (out-row out l.out-marked).0

      i : Row c into
      i = used-row c into l.in-row

  -- the two forms of MST1's answer
  data Grown : Type 0 where
    ungrown : tree (graph_of c) (weight_of c) ≡ none → mst1 c ≡ unbuilt (record { number = 11; place = 0 }) → Grown
    grown : (f : Fragment) → tree (graph_of c) (weight_of c) ≡ some f → mst1 c ≡ tree_built (total (rows_of c) (weight_of c) f.chosen) → mst1_marks c ≡ claim_of (rows_of c) f.chosen → Grown

  growth : Grown
  unfolding mst1 mst1_marks built built_marks mst1_causes no_tree refusal or_else cause is_none tree_rows chosen_rows
  growth = go (tree (graph_of c) (weight_of c)) refl
    where
      after : (o : Option Fragment) → tree (graph_of c) (weight_of c) ≡ o → refusal (mst1_causes c) ≡ refusal (cause (is_none o) 11 0 ∷ [])
      after o e = refusal-append (table_causes c) (no_tree c ∷ []) a ∙ ap (λ x. refusal (cause (is_none x) 11 0 ∷ [])) e

      go : (o : Option Fragment) → tree (graph_of c) (weight_of c) ≡ o → Grown
      go none e = ungrown e (ap (built c) (after none e))
      go (some f) e =
          grown f e
          (ap (built c) (after (some f) e) ∙ ap (λ x. tree_built (total (rows_of c) (weight_of c) (chosen_rows x))) e)
          (ap (built_marks c) (after (some f) e) ∙ ap (λ x. claim_of (rows_of c) (chosen_rows x)) e)

  -- the builder states the least total
  pub mst1-total : mst1 c ≡ stated (least_total (graph_of c) (weight_of c))
  unfolding graph_of least_total weighed stated
  mst1-total =
      elim growth [
        | ungrown z x ↦ x ∙ ap (λ o. stated (weighed (graph_of c) (weight_of c) o)) (sym z)
        | grown f z x k ↦ x ∙ ap (λ o. stated (weighed (graph_of c) (weight_of c) o)) (sym z)
      ]

  -- the verdict on a least tree
  pub least-passed : LeastClaim c → cst c ≡ passed (claim_weight c) (only c)
  unfolding judged
  least-passed l =
      elim judgement [
        | declined r x n ↦ absurd (n l.tree)
        | approved t z x ↦ x
        | faulted t j z x ↦ absurd (none-some (sym z ∙ good_none c ok t.spanning (least-good (graph_of c) ok (weight_of c) (claimed c) t.spanning (claim-least l))))
      ]

  pub passed-least : (weight : ℤ) (alone : Bool) → cst c ≡ passed weight alone → LeastClaim c × (weight ≡ claim_weight c) × (alone ≡ only c)
  unfolding judged
  passed-least weight alone e =
      elim judgement [
        | declined r x n ↦ absurd (refused-passed x e)
        | approved t z x ↦ (least-claim t (good-least (graph_of c) ok (weight_of c) (claimed c) t.spanning (none-good c ok t.spanning z)), cc, cc)
        | faulted t j z x ↦ absurd (passed-lighter e x)
      ]

  -- a spanning tree that is not least comes back lighter
  comes-lighter : ClaimTree c → (LeastClaim c → ⊥) → (out into saving : ℕ) × (cst c ≡ lighter out into saving)
  unfolding judged
  comes-lighter t n =
      elim judgement [
        | declined r x k ↦ absurd (k t)
        | approved t z x ↦ absurd (n (passed-least _ _ x).0)
        | faulted t j z x ↦ (_, _, _, x)
      ]

  found : (t : ClaimTree c) (j : ℕ) → row_in c ≡ suc j → Lighter (graph_of c) (weight_of c) (claimed c) (row_out c) (suc j)
  found t j z = subst (λ (i : ℕ). Lighter (graph_of c) (weight_of c) (claimed c) (row_out c) i) z (found-lighter c ok t.spanning j z)

  -- and an exchange that comes back is worth it
  lighter-worth : (out into saving : ℕ) → cst c ≡ lighter out into saving → WorthExchange c out into saving
  unfolding judged
  lighter-worth out into saving e =
      elim judgement [
        | declined r x n ↦ absurd (refused-lighter x e)
        | approved t z x ↦ absurd (passed-lighter x e)
        | faulted t j z x ↦ subst₃ (WorthExchange c) (cc) (cc) (cc) (worth t (row_out c) (suc j) (found t j z))
      ]

  -- a refusal is handed on from the causes
  refused-cause : (r : Refusal) → cst c ≡ refused r → refusal (cst_causes c) ≡ some r
  unfolding cst verdict judged
  refused-cause r e = go (refusal (cst_causes c)) refl
    where
      go₂ : (i : ℕ) → row_in c ≡ i → cst c ≡ judged c i (row_out c) → ⊥
      go₂ zero h x = refused-passed e x
      go₂ (suc j) h x = refused-lighter e x

      go : (o : Option Refusal) → refusal (cst_causes c) ≡ o → o ≡ some r
      go none h = absurd (go₂ (row_in c) refl (ap (verdict c) h))
      go (some q) h = cc (ap (verdict c) h)

  -- and says why the claim is no spanning tree
  fault-of : (r : Refusal) → cst c ≡ refused r → Fault c r
  unfolding graph_of bad_claim wrong_byte bad_count unjoined
  fault-of r e = ⊎_elim byte (λ h. ⊎_elim (marks h.0) (λ k. ⊎_elim (apart₁ h.0 k.0) (λ z. absurd (nothing z.1)) (some-cons _ _ r k.1)) (some-cons _ _ r h.1)) (some-cons _ _ r causes)
    where
      t : Taken c
      t = taken c a

      causes : refusal (bad_claim c ∷ bad_count c ∷ unjoined c 1 ∷ []) ≡ some r
      causes = sym (claim-causes c a) ∙ refused-cause r e

      nothing : refusal [] ≡ some r → ⊥
      nothing h = apart r (sym h ∙ none-nil)

      bytes : ℕ → Bool
      bytes = wrong_byte (used c) c.mark

      -- at a row in use the byte alone decides
      told : (i : ℕ) → Row c i → bytes i ≡ false → in_row 1 c.mark i ≤ 1
      told i r e = ltb-false 1 _ (rw (row-used c i r) at e)

      byte : bad_claim c ≡ some r → Fault c r
      byte h =
          let (j, u, q) = some-cause_at 6 _ r h in
          let (bad, low, above) = uppermost-some (rows_of c) j bytes u in
          let (here, large) = (and-eq-true_iff (used c (suc j)) _).0 bad in
          subst (Fault c) q (bad-byte (suc j) (used-row c (suc j) here) (ltb-true 1 _ large) (λ k row less. told k row (above k row.0 (omega arith))))

      clean : bad_claim c ≡ none → ZeroOrOne c
      clean h i row = told i row (uppermost-none (rows_of c) bytes (cause_at-none 6 _ h) i row.0 row.1)

      marks : bad_claim c ≡ none → bad_count c ≡ some r → Fault c r
      marks h k =
          let (wrong, q) = some-cause _ 9 0 r k in
          subst (Fault c) q (bad-count (clean h) (eqb-false _ _ (not-true _ wrong)))

      apart₁ : bad_claim c ≡ none → bad_count c ≡ none → unjoined c 1 ≡ some r → Fault c r
      apart₁ h k z =
          let (j, u, q) = some-cause_at 10 _ r z in
          let (none₁, low, others) = unjoined-place (graph_of c) ok (claimed c) (claimed-inside c) 1 (omega arith) t.some-vertex j u in
          subst (Fault c) q
          (cut_off (clean h) (eqb-true _ _ (not-false _ (cause-none _ 9 0 k))) (suc j) (omega arith, low) none₁ (λ v vertex less. others v vertex.0 (omega arith)))

  refused-unless : (ClaimTree c → ⊥) → (r : Refusal) × (cst c ≡ refused r)
  refused-unless n =
      elim judgement [
        | declined r x k ↦ (r, x)
        | approved t z x ↦ absurd (n t)
        | faulted t j z x ↦ absurd (n t)
      ]

  refused-no-tree : (r : Refusal) → cst c ≡ refused r → ClaimTree c → ⊥
  refused-no-tree r e t = apart r (sym (refused-cause r e) ∙ not-refused t)

  -- the builder leaves the marks as they were where it refuses
  marks-kept : (r : Refusal) → mst1 c ≡ unbuilt r → mst1_marks c ≡ c.mark
  unfolding mst1 mst1_marks built built_marks
  marks-kept r e = go (refusal (mst1_causes c)) refl
    where
      go : (o : Option Refusal) → refusal (mst1_causes c) ≡ o → mst1_marks c ≡ c.mark
      go none h = absurd (unbuilt-built e (ap (built c) h))
      go (some q) h = ap (built_marks c) h

  -- the builder refuses exactly where there is no spanning tree
  no-tree : mst1 c ≡ unbuilt (record { number = 11; place = 0 }) → (other : List ℕ) → ClaimTree (with_claim c other) → ⊥
  unfolding used graph_of
  no-tree e other t =
      elim growth [
        | ungrown z x ↦ not-built (graph_of c) ok (weight_of c) z (claimed (with_claim c other)) t.spanning
        | grown f z x k ↦ unbuilt-built e x
      ]

  refuses-no-tree : ((other : List ℕ) → ClaimTree (with_claim c other) → ⊥) → mst1 c ≡ unbuilt (record { number = 11; place = 0 })
  refuses-no-tree n =
      elim growth [
        | ungrown z x ↦ x
        | grown f z x k ↦ absurd (n _ (claim-tree f.chosen (built-spanning (graph_of c) ok (weight_of c) f z)))
      ]

  refuses-eleven : (r : Refusal) → mst1 c ≡ unbuilt r → r ≡ record { number = 11; place = 0 }
  refuses-eleven r e = elim growth [ ungrown z x ↦ cc | grown f z x k ↦ absurd (unbuilt-built e x) ]

  builds-tree : (other : List ℕ) → ClaimTree (with_claim c other) → (weight : ℤ) × (mst1 c ≡ tree_built weight)
  builds-tree other t = elim growth [ ungrown z x ↦ absurd (no-tree x other t) | grown f z x k ↦ (_, x) ]

-- another claim of m bytes leaves the table accepted
accepted-claim : (c : Call) (l : List ℕ) → length l ≡ length c.mark → Accepted c → Accepted (with_claim c l)
unfolding used table_causes bad_vertices too_many_rows bad_lengths bad_row bad_ends repeated_row repeats
accepted-claim c l e a = rw e a

-- a least tree that was grown is passed as a claim, with its weight
grown-passed : (c : Call) (a : Accepted c) (f : Fragment) → tree (graph_of c) (weight_of c) ≡ some f → (alone : Bool) × (cst (with_claim c (claim_of (rows_of c) f.chosen)) ≡ passed (total (rows_of c) (weight_of c) f.chosen) alone)
unfolding used graph_of weight_of claim_weight
grown-passed c a f z = (only d, least-passed d b least ∙ ap (λ S. passed (total (rows_of c) (weight_of c) S) (only d)) rows)
  where
    t : SpanningTree (graph_of c) f.chosen
    t = built-spanning (graph_of c) (ok c a) (weight_of c) f z

    d : Call
    d = with_claim c (claim_of (rows_of c) f.chosen)

    rows : claimed d ≡ f.chosen
    rows = claim-rows c a f.chosen t

    b : Accepted d
    b = accepted-claim c (claim_of (rows_of c) f.chosen) (claim_of-length (rows_of c) f.chosen ∙ sym (taken c a).mark-length) a

    least : LeastClaim d
    least = least-claim d b (claim-tree c a f.chosen t) (subst (λ (S : ℕ → Bool). Least (graph_of c) (weight_of c) S) (sym rows) (built-least (graph_of c) (ok c a) (weight_of c) f z))

-- the table with the marks that were built is accepted
pub built-accepted : (c : Call) → Accepted c → (weight : ℤ) → mst1 c ≡ tree_built weight → Accepted (with_claim c (mst1_marks c))
built-accepted c a weight e =
    elim (growth c a) [
      | ungrown z x ↦ absurd (unbuilt-built x e)
      | grown f z x k ↦ accepted-claim c (mst1_marks c) (ap length k ∙ claim_of-length (rows_of c) f.chosen ∙ sym (taken c a).mark-length) a
    ]

-- what is built is passed, with the weight that was stated
built-passed : (c : Call) → Accepted c → (weight : ℤ) → mst1 c ≡ tree_built weight → (alone : Bool) × (cst (with_claim c (mst1_marks c)) ≡ passed weight alone)
built-passed c a weight e =
    elim (growth c a) [
      | ungrown z x ↦ absurd (unbuilt-built x e)
      | grown f z x k ↦
          let (alone, p) = grown-passed c a f z in
          let w : total (rows_of c) (weight_of c) f.chosen ≡ weight = cc in
          (alone, ap (λ l. cst (with_claim c l)) k ∙ p ∙ ap (λ v. passed v alone) w)
    ]

-- what is built has bytes 0 and 1 only, and 0 at rows not in use
built-bytes : (c : Call) → Accepted c → (weight : ℤ) → mst1 c ≡ tree_built weight → BuilderBytes c (mst1_marks c)
unfolding graph_of marked
built-bytes c a weight e =
    elim (growth c a) [
      | ungrown z x ↦ absurd (unbuilt-built x e)
      | grown f z x k ↦
          let inside = (built-spanning (graph_of c) (ok c a) (weight_of c) f z).inside in
          rw k
          (record {
            zero-or-one = claim_of-bytes (rows_of c) f.chosen;
            zero-elsewhere = λ i n. omega (arith, claim_of-bytes (rows_of c) f.chosen i, eqb-false (in_row 1 (claim_of (rows_of c) f.chosen) i) 1 (unmarked f inside i n));
          })
    ]
  where
    unmarked : (f : Fragment) → ((i : ℕ) → f.chosen i ≡ true → used c i ≡ true) → (i : ℕ) → (Row c i → ⊥) → marked (claim_of (rows_of c) f.chosen) i ≡ false
    unmarked f inside i n =
        ap (λ S. S i) (marked-claim_of (rows_of c) f.chosen (λ j h. let r = used-row c j (inside j h) in (r.0, r.1)))
        ∙ refuted _ (λ h. n (used-row c i (inside i h)))

pub demand3 : Demand3
demand3 c a =
    record {
      passes = (λ p. (passed-least c a p.0 p.1 p.2).0, λ l. (claim_weight c, only c, least-passed c a l));
      weight = λ weight alone e. (passed-least c a weight alone e).1;
      not-passed = comes-lighter c a;
      exchange = lighter-worth c a;
      declines = (λ p. refused-no-tree c a p.0 p.1, refused-unless c a);
      fault = fault-of c a;
      refuses = (no-tree c a, refuses-no-tree c a);
      refuses-only = refuses-eleven c a;
      kept = marks-kept c a;
      built = builds-tree c a;
      builds = built-passed c a;
      bytes = built-bytes c a;
    }
