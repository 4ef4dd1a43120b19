-- `slice::some` meets its contract. The loop's invariant: if `joined` is 0, no component in the words below `k` is 1, and otherwise some component is.
-- Assumes nothing.
use Prim.Native.Nat.{ℕ, zero, suc, ◌+◌, ◌*◌, ◌^◌, ◌<◌, ◌≤◌}
use mathlib.Core.Bool.{true, not}
use mathlib.Core.Path.{◌≡◌, refl, sym, ap, ◌∙◌}
use borrow.Author.Rules.{rules}
use borrow.Author.Tests.{eq-eqb, ne_eqb}
use lib.Bits.{bit_or, or_zero_l, or_add_and, and_le_l, and_le_r}
use lib.Count.{count_trailing_zeros}
use lib.Dec.{eqb}
use lib.ListN.{get_or}
use mir.Syntax.{w64}
use mir.Val.{Fits}
use native.Mathlib.Omega.{arith}
use Rattle.rowset.specs.Sets.{any}
use Rattle.rowset.proofs.Laws.{any_some, none_any}
use Rattle.slice.specs.Slices.{size, component}
use Rattle.slice.specs.declared.Slice.{Slice}
use Rattle.slice.proofs.Bits.{bit-at-trailing}
use Rattle.slice.proofs.Laws.{component-at, clear-more}
use Rattle.slice.proofs.some.Invariants.{Joined}
use Rattle.slice.proofs.some.Goals as goal

-- a word that is not 0 has a component 1
word-found : (x : Slice) (k : ℕ) → k < 16 → 0 < get_or x.words k 0 → get_or x.words k 0 < 2 ^ 64 → any size (component x) ≡ true
word-found x k h p f =
    let z = count_trailing_zeros 64 (get_or x.words k 0) in
    let t = bit-at-trailing 64 (get_or x.words k 0) p f in
    any_some size (64 * k + z + 1) (component x) (omega arith) (omega arith) (component-at x k z h t.0 ∙ t.1)

joined-more : (x : Slice) (w k : ℕ) → k < 16 → get_or x.words k 0 < 2 ^ 64 → Joined x w k → Joined x (bit_or w (get_or x.words k 0)) (k + 1)
joined-more x w k h f m =
    record {
      most = omega arith;
      clear = λ e.
          let sum = or_add_and w word in
          clear-more x k h (omega (arith, sum, and_le_l w word)) (m.clear (omega (arith, sum, and_le_r w word)));
      found = go w refl;
    }
  where
    word : ℕ
    word = get_or x.words k 0

    go : (v : ℕ) → w ≡ v → 0 < bit_or w word → any size (component x) ≡ true
    go zero e p = word-found x k h (omega (arith, ap (λ a. bit_or a word) e ∙ or_zero_l word)) f
    go (suc v) e p = m.found (omega arith)

-- all words
joined-all : (x : Slice) (w k : ℕ) → 16 ≤ k → Joined x w k → not (eqb w 0) ≡ any size (component x)
joined-all x w k h m = go w refl
  where
    go : (v : ℕ) → w ≡ v → not (eqb w 0) ≡ any size (component x)
    go zero e = rw (eq-eqb w 0 e) (sym (none_any size (component x) (λ i l g. m.clear e i l (omega arith))))
    go (suc v) e = rw (ne_eqb w 0 (λ z. omega arith)) (sym (m.found (omega arith)))

pub loop-w-init : goal.loop-w-init
loop-w-init c =
    record { most = omega arith; clear = λ e i l g. absurd (omega arith); found = λ p. absurd (omega arith) }

pub loop-w-preserved : goal.loop-w-preserved
loop-w-preserved c =
    let x = c.args.x in
    let l = c.loop-w in
    let word : Fits w64 (get_or x.words l.w-index 0) = search rules in
    joined-more _ _ _ (omega arith) word.fits l.invariant

pub returns : goal.returns
returns c = joined-all _ _ _ (omega arith) c.loop-w.invariant
