-- What the line that verdict prints means. Main statement: verdicts-mean.
-- Assumes nothing.
use Prim.Native.Nat.{ℕ}
use lib.IntN.{ℤ, pos, ◌+ℤ◌}
use lib.ListN.{length}
use mathlib.Core.Bool.{Bool, true, false, ◌&&◌}
use mathlib.Core.List.{List}
use mathlib.Core.Logic.{◌↔◌}
use mathlib.Core.Path.{◌≡◌, refl, sym, ap, ◌∙◌, subst}
use native.Mathlib.Omega.{arith}
use Rattle.file_meaning.proofs.FileCall.{Carried, file-calls, file-carried}
use Rattle.file_meaning.specs.FileCall.{file_graph, file_plan, file_price, file_total, FileTable, call_after, FileCall}
use Rattle.file_spec.specs.Reader.{Read, Reading, broken, read, junctions}
use Rattle.file_spec.specs.Table.{untaken, taken, reading, wrong_sizes, wrong_lent, answered, answered_if, file_answer, lent_after}
use Rattle.graph_theory.specs.Least.{Least}
use Rattle.graph_theory.specs.Only.{Only}
use Rattle.graph_theory.specs.Tree.{SpanningTree, exchange}
use Rattle.refusal.specs.declared.Refusal.{Refusal}
use Rattle.rowset.specs.Integers.{total}
use Rattle.rowset.specs.Sets.{both}
use Rattle.star_meaning.proofs.Bytes.{Standing, accepted, turned, standing, cst-turned}
use Rattle.star_meaning.proofs.Demand3.{refused-passed, refused-lighter, exchanged-rows, passed-least, demand3}
use Rattle.star_meaning.proofs.Only.{yes-rows, rows-yes}
use Rattle.star_meaning.specs.Demand3.{WorthExchange}
use Rattle.star_spec.proofs.Accepted.{row-used, accepted-means}
use Rattle.star_spec.specs.Call.{Call, rows_of, used, graph_of, weight_of, marked, claimed, claim_weight}
use Rattle.star_spec.specs.Cst.{Answer, refused, passed, lighter, cst}
use Rattle.star_spec.specs.Refusals.{Accepted}
use Rattle.verdict_spec.specs.VerdictText.{blank, judged_file, file_verdict, verdict_line, verdict_text}
use Rattle.verdict_meaning.proofs.Lines.{line-tells}
use Rattle.verdict_meaning.specs.Means.{ReadWith, CheaperBy, VerdictsMean}

-- ── What was read, and the call over it ──

-- a text that was not read, or the call over what was read
data Judged (text : List ℕ) : Type 0 where
  unread : (r : Refusal) → file_verdict text ≡ refused r → ((n : ℕ) → ReadWith text n → ⊥) → Judged text
  called : (n : ℕ) (c : Call) → ReadWith text n → ((k : ℕ) → ReadWith text k → k ≡ n) → FileCall text n c → Carried text n c → file_verdict text ≡ cst c → Judged text

well-blank : wrong_lent blank ≡ false
unfolding wrong_lent wrong_sizes
well-blank = refl

blank-answer : (text : List ℕ) → file_answer text blank ≡ answered (reading text)
unfolding file_answer answered_if
blank-answer text = rw well-blank

module _ (text : List ℕ) where
  same_read : {r s : Read} → reading text ≡ read r → reading text ≡ read s → r ≡ s
  same_read e f = cc

  not-read : {reason at : ℕ} {s : Read} → reading text ≡ broken reason at → reading text ≡ read s → ⊥
  not-read e f = let z : ◌≡◌ {A = ℕ} 0 1 = cc in omega arith

  untaken-verdict : (number place : ℕ) → file_answer text blank ≡ untaken number place → file_verdict text ≡ refused (record { number = number; place = place })
  unfolding file_verdict judged_file
  untaken-verdict number place e = rw e

  taken-verdict : (n names rows : ℕ) → file_answer text blank ≡ taken n names rows → file_verdict text ≡ cst (call_after n (lent_after text blank))
  unfolding file_verdict judged_file call_after
  taken-verdict n names rows e = rw e

  judged-by : (x : Reading) → reading text ≡ x → Judged text
  unfolding answered
  judged-by (broken reason at) e =
      let a : file_answer text blank ≡ untaken reason at = blank-answer text ∙ ap answered e in
      unread (record { number = reason; place = at }) (untaken-verdict reason at a) (λ n p. not-read e p.1)
  judged-by (read r) e =
      let a : file_answer text blank ≡ taken (junctions r) (length r.names) (length r.left) = blank-answer text ∙ ap answered e in
      called (junctions r) (call_after (junctions r) (lent_after text blank)) (r, e, refl) (λ k p. sym p.2 ∙ ap junctions (same_read p.1 e))
      (file-calls text blank (junctions r) _ _ a) (file-carried text blank (junctions r) _ _ a) (taken-verdict (junctions r) _ _ a)

judged-text : (text : List ℕ) → Judged text
judged-text text = judged-by text (reading text) refl

-- ── What the call over what was read says of the lines ──

module _ (text : List ℕ) (n : ℕ) (c : Call) (f : FileCall text n c) (k : Carried text n c) where
  -- a row in use whose byte is 1 is a line of the plan, one whose byte is not is none
  in-plan : (i : ℕ) (x : Bool) → used c i ≡ true → marked c.mark i ≡ x → file_plan text i ≡ x
  unfolding claimed both
  in-plan i x u m = sym (ap (λ (p : ℕ → Bool). p i) k.plan) ∙ rw (u, m)

  plan-inside : (i : ℕ) → file_plan text i ≡ true → (file_graph text n).rows i ≡ true
  unfolding claimed both graph_of
  plan-inside i e = sym (k.lines i) ∙ first (used c i) (marked c.mark i) (ap (λ (p : ℕ → Bool). p i) k.plan ∙ e)
    where
      first : (x y : Bool) → (x && y) ≡ true → x ≡ true
      first true y q = refl
      first false y q = q

  -- an accepted table, where the lines are one
  taken-table : FileTable text n → Accepted c
  taken-table t = (accepted-means c).1 (f.accepted.1 t)

  lines-table : Accepted c → FileTable text n
  lines-table a = f.accepted.0 ((accepted-means c).0 a)

  plan-there : SpanningTree (graph_of c) (claimed c) → SpanningTree (file_graph text n) (file_plan text)
  plan-there t = k.tree-there (file_plan text) (subst (λ (S : ℕ → Bool). SpanningTree (graph_of c) S) k.plan t)

  plan-here : SpanningTree (file_graph text n) (file_plan text) → SpanningTree (graph_of c) (claimed c)
  plan-here t = subst (λ (S : ℕ → Bool). SpanningTree (graph_of c) S) (sym k.plan) (k.tree-here (file_plan text) t)

  -- what sets of rows cost
  plan-total : total (rows_of c) (weight_of c) (claimed c) ≡ file_total text (file_plan text)
  plan-total = ap (total (rows_of c) (weight_of c)) k.plan ∙ k.total-there (file_plan text) plan-inside

  -- the only one among the rows is the only one among the lines
  only-there : Only (graph_of c) (weight_of c) (claimed c) → Only (file_graph text n) (file_price text) (file_plan text)
  unfolding file_graph graph_of
  only-there o S t e = o S (k.tree-here S t) (k.total-there S t.inside ∙ e ∙ sym plan-total) ∙ k.plan

  only_here : Only (file_graph text n) (file_price text) (file_plan text) → Only (graph_of c) (weight_of c) (claimed c)
  unfolding file_graph graph_of
  only_here o S t e =
      let u = k.tree-there S t in
      o S u (sym (k.total-there S u.inside) ∙ e ∙ plan-total) ∙ sym k.plan

  alone-lines : (w : ℤ) (alone : Bool) → cst c ≡ passed w alone → (alone ≡ true) ↔ Only (file_graph text n) (file_price text) (file_plan text)
  alone-lines w alone q =
      let a = taken-table (f.passes.0 (w, alone, q)).0 in
      let (least, weight, own) = passed-least c a w alone q in
      (λ e. only-there (yes-rows c a least (sym own ∙ e)), λ o. own ∙ rows-yes c a least (only_here o))

  -- an exchange of rows is one of lines
  worth-lines : (out into saving : ℕ) → Accepted c → WorthExchange c out into saving → CheaperBy text n out into saving
  unfolding claim_weight weight_of graph_of used
  worth-lines out into saving a x =
      let rows = exchanged-rows c a x.claim-tree out into x.out-row x.in-row ∙ ap (λ (S : ℕ → Bool). exchange S out into) k.plan in
      let t = k.tree-there (exchange (file_plan text) out into) (subst (λ (S : ℕ → Bool). SpanningTree (graph_of c) S) rows x.tree.spanning) in
      record {
        plan-tree = plan-there x.claim-tree.spanning;
        out-marked = in-plan out true (row-used c out x.out-row) x.out-marked;
        in-line = sym (k.lines into) ∙ row-used c into x.in-row;
        in-unmarked = in-plan into false (row-used c into x.in-row) x.in-unmarked;
        tree = t;
        less = ap (λ w. w +ℤ pos saving) (sym (k.total-there (exchange (file_plan text) out into) t.inside) ∙ ap (total (rows_of c) (weight_of c)) (sym rows)) ∙ x.weight ∙ plan-total;
        positive = x.positive;
      }

  cheaper-lines : (out into saving : ℕ) → cst c ≡ lighter out into saving → FileTable text n × CheaperBy text n out into saving
  cheaper-lines out into saving q = go (standing c)
    where
      go : Standing c → FileTable text n × CheaperBy text n out into saving
      go (accepted a) = (lines-table a, worth-lines out into saving a ((demand3 c a).exchange out into saving q))
      go (turned x z) = absurd (refused-lighter (cst-turned c x z) q)

  -- refused: no table, or the plan is no tree
  refused-lines : (r : Refusal) → cst c ≡ refused r → FileTable text n → SpanningTree (file_graph text n) (file_plan text) → ⊥
  refused-lines r q t s = (demand3 c (taken-table t)).declines.0 (r, q) (k.plan-claim (plan-here s))

  lines-refused : (FileTable text n → SpanningTree (file_graph text n) (file_plan text) → ⊥) → (r : Refusal) × (cst c ≡ refused r)
  lines-refused none = go (standing c)
    where
      go : Standing c → (r : Refusal) × (cst c ≡ refused r)
      go (accepted a) = (demand3 c a).declines.1 (λ t. none (lines-table a) (plan-there t.spanning))
      go (turned x z) = (x, cst-turned c x z)

-- ── The theorem ──

module _ (text : List ℕ) where
  told : (a : Answer) → verdict_text text ≡ verdict_line a → file_verdict text ≡ a
  unfolding verdict_text
  told a e = line-tells (file_verdict text) a e

  tells : (a : Answer) → file_verdict text ≡ a → verdict_text text ≡ verdict_line a
  unfolding verdict_text
  tells a e = ap verdict_line e

  passes-there : (w : ℤ) (alone : Bool) → file_verdict text ≡ passed w alone → Judged text
      → (n : ℕ) × ReadWith text n × FileTable text n × Least (file_graph text n) (file_price text) (file_plan text)
  passes-there w alone e (unread r q none) = absurd (refused-passed q e)
  passes-there w alone e (called n c p one f k q) = let (t, l) = f.passes.0 (w, alone, sym q ∙ e) in (n, p, t, l)

  passes-here : (n : ℕ) → ReadWith text n → FileTable text n → Least (file_graph text n) (file_price text) (file_plan text) → Judged text
      → (w : ℤ) × (alone : Bool) × (file_verdict text ≡ passed w alone)
  passes-here m p t l (unread r q none) = absurd (none m p)
  passes-here m p t l (called n c r one f k q) =
      let (w, alone, e) = f.passes.1 (subst (λ j. FileTable text j × Least (file_graph text j) (file_price text) (file_plan text)) (one m p) (t, l)) in
      (w, alone, q ∙ e)

  total-is : (w : ℤ) (alone : Bool) → file_verdict text ≡ passed w alone → Judged text → w ≡ file_total text (file_plan text)
  total-is w alone e (unread r q none) = absurd (refused-passed q e)
  total-is w alone e (called n c p one f k q) = f.weight w alone (sym q ∙ e)

  alone-is : (w : ℤ) (alone : Bool) → file_verdict text ≡ passed w alone → Judged text
      → (alone ≡ true) ↔ ((n : ℕ) × ReadWith text n × Only (file_graph text n) (file_price text) (file_plan text))
  alone-is w alone e (unread r q none) = absurd (refused-passed q e)
  alone-is w alone e (called n c p one f k q) =
      let (there, here) = alone-lines text n c f k w alone (sym q ∙ e) in
      (λ y. (n, p, there y), λ o. here (subst (λ j. Only (file_graph text j) (file_price text) (file_plan text)) (one o.0 o.1) o.2))

  cheaper-is : (out into saving : ℕ) → file_verdict text ≡ lighter out into saving → Judged text
      → (n : ℕ) × ReadWith text n × FileTable text n × CheaperBy text n out into saving
  cheaper-is out into saving e (unread r q none) = absurd (refused-lighter q e)
  cheaper-is out into saving e (called n c p one f k q) = let (t, x) = cheaper-lines text n c f k out into saving (sym q ∙ e) in (n, p, t, x)

  abbrev Tree : Type 0
  Tree = (n : ℕ) × ReadWith text n × FileTable text n × SpanningTree (file_graph text n) (file_plan text)

  refuses-there : (r : Refusal) → file_verdict text ≡ refused r → Judged text → Tree → ⊥
  refuses-there r e (unread s q none) x = none x.0 x.1
  refuses-there r e (called n c p one f k q) x =
      let (t, s) = subst (λ j. FileTable text j × SpanningTree (file_graph text j) (file_plan text)) (one x.0 x.1) (x.2, x.3) in
      refused-lines text n c f k r (sym q ∙ e) t s

  refuses-here : (Tree → ⊥) → Judged text → (r : Refusal) × (file_verdict text ≡ refused r)
  refuses-here never (unread r q none) = (r, q)
  refuses-here never (called n c p one f k q) = let (r, e) = lines-refused text n c f k (λ t s. never (n, p, t, s)) in (r, q ∙ e)

pub verdicts-mean : VerdictsMean
verdicts-mean text =
    let j = judged-text text in
    record {
      passes = (
        λ p. passes-there text p.0 p.1 (told text (passed p.0 p.1) p.2) j,
        λ p. let (w, alone, e) = passes-here text p.0 p.1 p.2 p.3 j in (w, alone, tells text (passed w alone) e),
      );
      costs = λ w alone e. total-is text w alone (told text (passed w alone) e) j;
      alone = λ w alone e. alone-is text w alone (told text (passed w alone) e) j;
      cheaper = λ out into saving e. cheaper-is text out into saving (told text (lighter out into saving) e) j;
      refuses = (λ p. refuses-there text p.0 (told text (refused p.0) p.1) j, λ never. let (r, e) = refuses-here text never j in (r, tells text (refused r) e));
    }
