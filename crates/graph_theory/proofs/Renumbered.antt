-- Graphs whose rows have other numbers.
-- Main statements: the way back is a renumbering too (renumbered-back); a renumbered graph is sound where its rows have positions (renumbered-sound);
-- walks, weights, spanning trees, least trees and the only least tree stay, there and back (renumbering-keeps).
-- Assumes nothing.
use Prim.Native.Nat.{ℕ, suc, ◌≤◌}
use lib.IntN.{ℤ}
use mathlib.Core.Bool.{Bool, true, false, false≢true}
use mathlib.Core.Logic.{⊎_elim}
use mathlib.Core.Path.{◌≡◌, refl, sym, ◌∙◌, ap, subst, fun_ext}
use native.Mathlib.Omega.{arith}
use Rattle.graph_theory.specs.Graph.{Graph, Sound, Inside, Walk, stay, ahead, back}
use Rattle.graph_theory.specs.Renumbered.{Renumbered, SameWeights, carried, Stays, RenumberingKeeps}
use Rattle.graph_theory.specs.Tree.{SpanningTree}
use Rattle.rowset.proofs.Integers.{integers, plus, total-cut, total-put}
use Rattle.rowset.proofs.Laws.{clash, refuted, put_same, put_keeps, put-cases, count-put, count-empty}
use Rattle.rowset.proofs.Members.{same_truth, put_all, put-induction, both-in, in_both}
use Rattle.rowset.specs.Integers.{total}
use Rattle.rowset.specs.Sets.{empty, put, count}

-- the way back is a renumbering too
pub renumbered-back : {g h : Graph} {place number : ℕ → ℕ} → Renumbered g h place number → Renumbered h g number place
renumbered-back {g} {h} {place} {number} r =
    record {
      vertices = sym r.vertices;
      placed = r.numbered;
      numbered = r.placed;
      left = λ j e. let (f, q) = r.numbered j e in ap g.a (sym q) ∙ sym (r.left (number j) f);
      right = λ j e. let (f, q) = r.numbered j e in ap g.b (sym q) ∙ sym (r.right (number j) f);
    }

-- a renumbered graph is sound where its rows have positions
pub renumbered-sound : {g h : Graph} {place number : ℕ → ℕ} → Sound g → Renumbered g h place number → ((i : ℕ) → h.rows i ≡ true → (1 ≤ i) × (i ≤ h.m)) → Sound h
renumbered-sound {g} {h} {place} {number} ok r position =
    record {
      vertex = rw r.vertices ok.vertex;
      position = position;
      left = λ i e. rw (r.left i e, r.vertices) (ok.left (place i) (r.placed i e).0);
      right = λ i e. rw (r.right i e, r.vertices) (ok.right (place i) (r.placed i e).0);
      apart = λ i e q. ok.apart (place i) (r.placed i e).0 (sym (r.left i e) ∙ q ∙ r.right i e);
    }

-- the empty set weighs nothing
total-empty : (m : ℕ) (w : ℕ → ℤ) → total m w empty ≡ total 0 w empty
unfolding empty
total-empty m w = total-cut m 0 w empty (omega arith) (λ i l. refl)

module _ (h : Graph) (place : ℕ → ℕ) (S : ℕ → Bool) where
  carried-in : (i : ℕ) → carried h place S i ≡ true → (h.rows i ≡ true) × (S (place i) ≡ true)
  unfolding carried
  carried-in i e = both-in h.rows (λ i. S (place i)) i e

  in-carried : (i : ℕ) → h.rows i ≡ true → S (place i) ≡ true → carried h place S i ≡ true
  unfolding carried
  in-carried i r e = in_both h.rows (λ i. S (place i)) i r e

module _ (g h : Graph) (place number : ℕ → ℕ) (r : Renumbered g h place number) where
  -- a row of the set is carried to its number
  in-number : (S : ℕ → Bool) (j : ℕ) → g.rows j ≡ true → S j ≡ true → carried h place S (number j) ≡ true
  in-number S j e s =
      let (f, q) = r.numbered j e in
      in-carried h place S (number j) f (rw q s)

  -- a walk leads on as before
  carried-walk : (S : ℕ → Bool) → Inside g S → {u v : ℕ} → Walk g S u v → Walk h (carried h place S) u v
  carried-walk S inside stay = stay
  carried-walk S inside (ahead j e p) =
      let o = renumbered-back r in
      let f = inside j e in
      rw (o.right j f) (ahead (number j) (in-number S j f e) (rw (o.left j f) at (carried-walk S inside p)))
  carried-walk S inside (back j e p) =
      let o = renumbered-back r in
      let f = inside j e in
      rw (o.left j f) (back (number j) (in-number S j f e) (rw (o.right j f) at (carried-walk S inside p)))

  -- what went there and back is as it was
  carried-twice : (S : ℕ → Bool) → Inside g S → carried g number (carried h place S) ≡ S
  carried-twice S inside = fun_ext λ j. same_truth _ _ (was j) (λ e. in-carried g number (carried h place S) j (inside j e) (in-number S j (inside j e) e))
    where
      was : (j : ℕ) → carried g number (carried h place S) j ≡ true → S j ≡ true
      was j e =
          let (f, t) = carried-in g number (carried h place S) j e in
          rw (r.numbered j f).1 at (carried-in h place S (number j) t).1

  -- nothing is carried to nothing, and a row put in to its number put in
  carried-empty : carried h place empty ≡ empty
  unfolding empty
  carried-empty = fun_ext λ i. refuted _ (λ e. false≢true (carried-in h place empty i e).1)

  carried-put : (S : ℕ → Bool) (j : ℕ) → g.rows j ≡ true → carried h place (put S j) ≡ put (carried h place S) (number j)
  carried-put S j e = fun_ext λ i. same_truth _ _ (there i) (put_all (λ i. carried h place (put S j) i ≡ true) (carried h place S) (number j) old (in-number (put S j) j e (put_same S j)) i)
    where
      there : (i : ℕ) → carried h place (put S j) i ≡ true → put (carried h place S) (number j) i ≡ true
      there i t =
          let (f, q) = carried-in h place (put S j) i t in
          ⊎_elim (λ s. put_keeps (carried h place S) (number j) i (in-carried h place S i f s))
          (λ s. let same : number j ≡ i = ap number (sym s) ∙ (r.placed i f).1 in rw same (put_same (carried h place S) i))
          (put-cases S j (place i) q)

      old : (i : ℕ) → carried h place S i ≡ true → carried h place (put S j) i ≡ true
      old i t =
          let (f, s) = carried-in h place S i t in
          in-carried h place (put S j) i f (put_keeps S j (place i) s)

module _ (g h : Graph) (ok : Sound g) (fine : Sound h) (place number : ℕ → ℕ) (r : Renumbered g h place number) (w x : ℕ → ℤ) (same : SameWeights h place w x) where
  -- a set of rows keeps its weight and its number of rows
  carried-parts : (S : ℕ → Bool) → Inside g S → (total h.m x (carried h place S) ≡ total g.m w S) × (count h.m (carried h place S) ≡ count g.m S)
  unfolding total
  carried-parts S inside =
      put-induction g.m S P (λ j e. ok.position j (inside j e)) (rw (carried-empty g h place number r) (total-empty h.m x ∙ sym (total-empty g.m w), count-empty h.m ∙ sym (count-empty g.m))) more
    where
      P : (ℕ → Bool) → Type 0
      P T = (total h.m x (carried h place T) ≡ total g.m w T) × (count h.m (carried h place T) ≡ count g.m T)

      more : (T : ℕ → Bool) (j : ℕ) → S j ≡ true → T j ≡ false → P T → P (put T j)
      more T j e out (weigh, number_of_lem) =
          let f = inside j e in
          let (k, q) = r.numbered j f in
          let (lj, uj) = ok.position j f in
          let (lk, uk) = fine.position (number j) k in
          let off : carried h place T (number j) ≡ false = refuted _ (λ t. clash (carried-in h place T (number j) t).1 (ap T q ∙ out)) in
          let heavier : total h.m x (put (carried h place T) (number j)) ≡ total g.m w (put T j) = omega (arith, integers, total-put h.m (number j) x (carried h place T) lk uk off, total-put g.m j w T lj uj out, plus (total h.m x (carried h place T)) (x (number j)), plus (total g.m w T) (w j), same (number j) k ∙ ap w q) in
          rw (carried-put g h place number r T j f) (heavier, count-put h.m (number j) (carried h place T) lk uk off ∙ ap suc number_of_lem ∙ sym (count-put g.m j T lj uj out))

  carried-spanning : (S : ℕ → Bool) → SpanningTree g S → SpanningTree h (carried h place S)
  carried-spanning S t =
      record {
        inside = λ i e. (carried-in h place S i e).0;
        marks = ap suc (carried-parts S t.inside).1 ∙ t.marks ∙ sym r.vertices;
        reached = λ v l u. carried-walk g h place number r S t.inside (t.reached v l (subst (λ n. v ≤ n) r.vertices u));
      }

  carried-weight : (S : ℕ → Bool) → Inside g S → total h.m x (carried h place S) ≡ total g.m w S
  carried-weight S inside = (carried-parts S inside).0

module _ (g h : Graph) (ok : Sound g) (fine : Sound h) (place number : ℕ → ℕ) (r : Renumbered g h place number) (w x : ℕ → ℤ) (same : SameWeights h place w x) where
  -- the weights on the way back
  same_back : SameWeights g number x w
  same_back j e =
      let (f, q) = r.numbered j e in
      ap w (sym q) ∙ sym (same (number j) f)

  -- a spanning tree of h is carried from a spanning tree of g, which weighs the same
  from-tree : (T : ℕ → Bool) → SpanningTree h T → SpanningTree g (carried g number T) × (total g.m w (carried g number T) ≡ total h.m x T) × (carried h place (carried g number T) ≡ T)
  from-tree T t =
      let o = renumbered-back r in
      (carried-spanning h g fine ok number place o x w same_back T t, carried-weight h g fine ok number place o x w same_back T t.inside, carried-twice h g number place o T t.inside)

  stays : Stays g h place w x
  stays =
      record {
        walk = λ S inside u v p. carried-walk g h place number r S inside p;
        weight = carried-weight g h ok fine place number r w x same;
        spanning = carried-spanning g h ok fine place number r w x same;
        least = λ S l.
            record {
              tree = carried-spanning g h ok fine place number r w x same S l.tree;
              least = λ T t.
                  let (from, weight, _) = from-tree T t in
                  omega (arith, integers, l.least (carried g number T) from, carried-weight g h ok fine place number r w x same S l.tree.inside);
            };
        only = λ S s o T t e.
            let (from, weight, again) = from-tree T t in
            sym again ∙ ap (carried h place) (o (carried g number T) from (weight ∙ e ∙ carried-weight g h ok fine place number r w x same S s.inside));
      }

pub renumbering-keeps : RenumberingKeeps
renumbering-keeps g h ok fine place number r w x same =
    let o = renumbered-back r in
    record {
      there = stays g h ok fine place number r w x same;
      back = stays h g fine ok number place o x w (same_back g h ok fine place number r w x same);
      there_and_back = carried-twice g h place number r;
      back-and-there = carried-twice h g number place o;
    }
