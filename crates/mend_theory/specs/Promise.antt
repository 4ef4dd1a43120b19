-- What mending promises, over every sound graph and every set of marked rows of it. Cites definitions alone; the proof is proofs/Promise.antt.
-- Assumes nothing.
use Rattle.std.specs.Prelude.{ℕ, suc, ◌≤◌, ◌<◌, ◌*◌, eqb, ℤ, length, ◌≤ℤ◌, ◌<ℤ◌, Bool, true, false, cond, ◌↔◌, ◌⊎◌, ◌≡◌}
use mathlib.Core.List.{List, [], ◌∷◌, Memᴰ}
use Rattle.std.proofs.Math.Option.{none, some}
use Rattle.graph_theory.specs.Graph.{Graph, Sound, Inside, Walk}
use Rattle.graph_theory.specs.Least.{Least, Good}
use Rattle.graph_theory.specs.Tree.{SpanningTree, on_path}
use Rattle.mend_theory.specs.Mending.{Drawing, drop, addition, exchange_of, apply, apply_all, mended}
use Rattle.mend_record.specs.declared.Record.{Record}
use Rattle.rowset.specs.Sets.{up_to, both}

-- what a record says of the marks S that it is applied to
pub data Meant (g : Graph) (w : ℕ → ℤ) (S : ℕ → Bool) : Record → Type 0 where
  -- a dropped row was marked and closed a ring: a walk over marks above it joins its ends
  dropped : (j : ℕ) → S (suc j) ≡ true → Walk g (both (up_to j) S) (g.a (suc j)) (g.b (suc j)) → Meant g w S (drop (suc j))
  -- an added row is a row of the graph and joined two groups: no walk over the marks joins its ends
  added : (j : ℕ) → g.rows (suc j) ≡ true → (Walk g S (g.a (suc j)) (g.b (suc j)) → ⊥) → Meant g w S (addition (suc j))
  -- where rows are exchanged the marks are a spanning tree; the row that went out was on the tree path of the row that came in, and was heavier: it was the heaviest row of that path, the uppermost among equals
  swapped : SpanningTree g S → (e f : ℕ) → g.rows f ≡ true → S f ≡ false → on_path g S (g.a f) (g.b f) e ≡ true → w f <ℤ w e → ((k : ℕ) → on_path g S (g.a f) (g.b f) k ≡ true → w k ≤ℤ w e) → ((k : ℕ) → on_path g S (g.a f) (g.b f) k ≡ true → w k ≡ w e → e ≤ k) → Meant g w S (exchange_of e f)

-- what records applied in order say: each of them of the marks that those before it left
unfoldable pub AllMeant : Graph → (ℕ → ℤ) → (ℕ → Bool) → List Record → Type 0
AllMeant g w S [] = Unit
AllMeant g w S (c ∷ l) = Meant g w S c × AllMeant g w (apply S c) l

-- the row that a record is about: the dropped row, or the row that came in
unfoldable pub visited_row : Record → ℕ
visited_row c = cond (eqb c.kind 1) c.out c.into

-- of two records the first is of an earlier pass, or of the same pass and about a row further up
abbrev pub Earlier : Record → Record → Type 0
Earlier c d = (c.kind < d.kind) ⊎ ((c.kind ≡ d.kind) × (visited_row c < visited_row d))

-- of two records at most one is earlier than the other
abbrev pub OneOrder : Type 0
OneOrder = (c d : Record) → Earlier c d → Earlier d c → ⊥

-- each record of a list is earlier than those after it
unfoldable pub InOrder : List Record → Type 0
InOrder [] = Unit
InOrder (c ∷ l) = ((d : Record) → Memᴰ d l → Earlier c d) × InOrder l

-- of a drawing s that is the marks M mended
pub record Mends (g : Graph) (w : ℕ → ℤ) (M : ℕ → Bool) (s : Drawing) : Type 0 where
  -- the mended claim is a least spanning tree, and the checker finds no fault with it
  pub least : Least g w s.marks
  pub good : Good g w s.marks
  -- the records applied in order to the old claim give the mended claim
  pub applied : apply_all M s.records ≡ s.marks
  -- they are at most twice as many as the positions
  pub few : length s.records ≤ 2 * g.m
  -- each of them says what was done to the marks at its step
  pub meant : AllMeant g w M s.records
  -- and they stand in the order of the passes, those of one pass from the top
  pub order : InOrder s.records

-- of the marks M
pub record MendingMeans (g : Graph) (w : ℕ → ℤ) (M : ℕ → Bool) : Type 0 where
  -- nothing is mended exactly where there is no spanning tree
  pub unmended : (mended g w M ≡ none) ↔ ((S : ℕ → Bool) → SpanningTree g S → ⊥)
  pub mends : (s : Drawing) → mended g w M ≡ some s → Mends g w M s

abbrev pub Mendings : Type 0
Mendings = (g : Graph) → Sound g → (w : ℕ → ℤ) (M : ℕ → Bool) → Inside g M → MendingMeans g w M
