-- What the dearest rows, the replacements and the best exchange are worth, over every sound graph, all weights and every spanning tree.
-- Cites definitions alone; the proof is proofs/Promise.antt. Assumes nothing.
use Rattle.std.specs.Prelude.{ℕ, ◌≤◌, ◌<◌, ℤ, ◌≤ℤ◌, Bool, true, false, ◌↔◌, ◌⊎◌, ◌≡◌}
use Rattle.graph_theory.specs.Graph.{Graph, Sound}
use Rattle.graph_theory.specs.Least.{Least}
use Rattle.graph_theory.specs.Tree.{SpanningTree, exchange}
use Rattle.rowset.specs.Integers.{total}
use Rattle.detour_theory.specs.Detours.{dearest, replacement, best_in}

-- row e of S goes out, row f of the graph, which S lacks, comes in, and what is left is a spanning tree
pub record Swap (g : Graph) (S : ℕ → Bool) (e f : ℕ) : Type 0 where
  pub out : S e ≡ true
  pub row : g.rows f ≡ true
  pub lacked : S f ≡ false
  pub tree : SpanningTree g (exchange S e f)

-- the weight after an exchange
abbrev pub after : Graph → (ℕ → ℤ) → (ℕ → Bool) → ℕ → ℕ → ℤ
after g w S e f = total g.m w (exchange S e f)

-- of all exchanges that bring row f in, that of row e gives the lightest tree, and no row above e one as light
pub record BestOut (g : Graph) (w : ℕ → ℤ) (S : ℕ → Bool) (e f : ℕ) : Type 0 where
  pub swap : Swap g S e f
  pub lightest : (k : ℕ) → Swap g S k f → after g w S e f ≤ℤ after g w S k f
  pub uppermost : (k : ℕ) → Swap g S k f → after g w S k f ≡ after g w S e f → e ≤ k

-- of all exchanges that take row e out, that for row f gives the lightest tree, and no row above f one as light
pub record BestFor (g : Graph) (w : ℕ → ℤ) (S : ℕ → Bool) (e f : ℕ) : Type 0 where
  pub swap : Swap g S e f
  pub lightest : (k : ℕ) → Swap g S e k → after g w S e f ≤ℤ after g w S e k
  pub uppermost : (k : ℕ) → Swap g S e k → after g w S e k ≡ after g w S e f → f ≤ k

-- of all exchanges that of row e for row f gives the lightest tree, which is lighter than S; of those as light none brings in a row above f, nor takes out for f a row above e
pub record BestOfAll (g : Graph) (w : ℕ → ℤ) (S : ℕ → Bool) (e f : ℕ) : Type 0 where
  pub swap : Swap g S e f
  pub lighter : total g.m w S ≤ℤ after g w S e f → ⊥
  pub lightest : (k j : ℕ) → Swap g S k j → after g w S e f ≤ℤ after g w S k j
  pub uppermost : (k j : ℕ) → Swap g S k j → after g w S k j ≡ after g w S e f → (f < j) ⊎ ((f ≡ j) × (e ≤ k))

-- of a spanning tree S
pub record DetoursMean (g : Graph) (w : ℕ → ℤ) (S : ℕ → Bool) : Type 0 where
  -- the dearest row of a row's detour is the best to go out for it
  pub goes : (f : ℕ) → g.rows f ≡ true → S f ≡ false → BestOut g w S (dearest g w S f) f
  -- the replacement of a row of the tree is the best to come in for it, and where it is 0 there is none
  pub comes : (e : ℕ) → S e ≡ true → (replacement g w S e ≡ 0 → ⊥) → BestFor g w S e (replacement g w S e)
  pub bridge : (e : ℕ) → S e ≡ true → replacement g w S e ≡ 0 → (f : ℕ) → Swap g S e f → ⊥
  -- the tree is least exactly where no row outside it is lighter than its dearest
  pub least : Least g w S ↔ ((f : ℕ) → g.rows f ≡ true → S f ≡ false → w (dearest g w S f) ≤ℤ w f)
  -- the row that saves most and its dearest are the best exchange of all, and where it is 0 the tree is least
  pub best : (best_in g w S ≡ 0 → ⊥) → BestOfAll g w S (dearest g w S (best_in g w S)) (best_in g w S)
  pub none : (best_in g w S ≡ 0) ↔ Least g w S

-- the theorem
abbrev pub DetoursPromise : Type 0
DetoursPromise = (g : Graph) → Sound g → (w : ℕ → ℤ) (S : ℕ → Bool) → SpanningTree g S → DetoursMean g w S
