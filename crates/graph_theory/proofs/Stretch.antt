-- The dearest stretch between two vertices.
-- Main statements: a set that has a row of the graph has a heaviest one (heaviest-exists); a walk between two colours uses a row that crosses (walk-crosses);
-- each row on the path of a least tree is no heavier than some row of any walk (stretch-row); the theorem (dearest-stretch).
-- Assumes nothing.
use Prim.Native.Nat.{ℕ, suc, ◌≤◌}
use lib.IntN.{ℤ}
use lib.Signed.{◌≤ℤ◌}
use mathlib.Core.Bool.{Bool, true, false, xor}
use mathlib.Core.Logic.{◌≢◌}
use mathlib.Core.Path.{◌≡◌, refl, sym, ◌∙◌, ap}
use borrow.Author.Tests.{eq-eqb, ne_eqb}
use lib.Dec.{eqb}
use native.Mathlib.Omega.{arith}
use Rattle.graph_theory.proofs.Least.{cut-light, least-good}
use Rattle.graph_theory.proofs.Path.{path_inside, path-columns, path-crossed}
use Rattle.graph_theory.proofs.PathRows.{uses-inside}
use Rattle.graph_theory.specs.Graph.{Graph, Sound, Inside, Walk, stay, ahead, back, crosses}
use Rattle.graph_theory.specs.Least.{Least}
use Rattle.graph_theory.specs.Stretch.{Heaviest, DearestStretch}
use Rattle.graph_theory.specs.Tree.{on_path, uses}
use Rattle.rowset.proofs.Integers.{integers}
use Rattle.rowset.proofs.Laws.{clash, put_same, put_keeps, xor_self, xor-false-same, any_some, any_found, uppermost-some}
use Rattle.rowset.proofs.Searches.{largest-in, largest-greatest, largest-exists}
use Rattle.rowset.specs.Searches.{largest}
use Rattle.rowset.specs.Sets.{put, one_of, uppermost}

-- the uppermost of the largest rows of a set is a heaviest row of it, where the set has a row
heaviest-exists : (m : ℕ) (w : ℕ → ℤ) (P : ℕ → Bool) → ((i : ℕ) → P i ≡ true → (1 ≤ i) × (i ≤ m)) → (i : ℕ) → P i ≡ true → Heaviest w P (uppermost m (largest m w P))
heaviest-exists m w P inside i e =
    let (l, u) = inside i e in
    let (j, q) = any_found m (largest m w P) (largest-exists m w P (any_some m i P l u e)) in
    let on = (uppermost-some m j (largest m w P) q).0 in
    rw q (largest-in m w P (suc j) on, λ k h. let (lk, uk) = inside k h in largest-greatest m w P (suc j) k on lk uk h)

-- row i crosses, or else a row of the set does
crosses-or : (g : Graph) (side Q : ℕ → Bool) (i : ℕ) → (crosses g side i ≡ false → (k : ℕ) × (Q k ≡ true) × (crosses g side k ≡ true)) → (k : ℕ) × (put Q i k ≡ true) × (crosses g side k ≡ true)
crosses-or g side Q i other = go (crosses g side i) refl
  where
    go : (b : Bool) → crosses g side i ≡ b → (k : ℕ) × (put Q i k ≡ true) × (crosses g side k ≡ true)
    go true q = (i, put_same Q i, q)
    go false q =
        let (k, h, c) = other q in
        (k, put_keeps Q i k h, c)

-- a walk between two colours uses a row that crosses
pub walk-crosses : {g : Graph} {S : ℕ → Bool} {u v : ℕ} (side : ℕ → Bool) (p : Walk g S u v) → xor (side u) (side v) ≡ true → (k : ℕ) × (uses p k ≡ true) × (crosses g side k ≡ true)
unfolding uses crosses
walk-crosses side stay c = clash c (xor_self _)
walk-crosses {g} side (ahead i e p) c = crosses-or g side (uses p) i (λ q. walk-crosses side p (rw (xor-false-same _ _ q) c))
walk-crosses {g} side (back i e p) c = crosses-or g side (uses p) i (λ q. walk-crosses side p (rw (← xor-false-same _ _ q) c))

-- two different vertices have different colours where one of them alone is coloured
apart : (u v : ℕ) → u ≢ v → xor (eqb u u) (eqb v u) ≡ true
unfolding xor
apart u v d = rw (eq-eqb u u refl, ne_eqb v u (λ q. d (sym q)))

-- between different vertices a walk has a heaviest row
pub walk-heaviest : (g : Graph) → Sound g → (w : ℕ → ℤ) (S : ℕ → Bool) → Inside g S → (u v : ℕ) → u ≢ v → (p : Walk g S u v) → Heaviest w (uses p) (uppermost g.m (largest g.m w (uses p)))
walk-heaviest g ok w S inside u v d p =
    let (k, on, _) = walk-crosses (λ j. eqb j u) p (apart u v d) in
    heaviest-exists g.m w (uses p) (λ i h. ok.position i (inside i (uses-inside p i h))) k on

module _ (g : Graph) (ok : Sound g) (w : ℕ → ℤ) (S : ℕ → Bool) (least : Least g w S) (u v : ℕ) (lu : 1 ≤ u) (hu : u ≤ g.n) (lv : 1 ≤ v) (hv : v ≤ g.n) where
  -- a row on the path of a least tree is no heavier than some row of any walk between the same vertices: one that crosses its cut
  stretch-row : (e : ℕ) → on_path g S u v e ≡ true → (p : Walk g g.rows u v) → (f : ℕ) × (uses p f ≡ true) × (w e ≤ℤ w f)
  unfolding one_of
  stretch-row e on p =
      let (f, h, c) = walk-crosses (λ j. on_path g S 1 j e) p (ap (λ (P : ℕ → Bool). P e) (path-columns g ok S least.tree 1 u v (omega arith) ok.vertex lu hu lv hv) ∙ on) in
      (f, h, cut-light g ok w S least.tree (least-good g ok w S least.tree least) e f (uses-inside p f h) c)

  -- between different vertices the path has a heaviest row
  pub path-heaviest : u ≢ v → Heaviest w (on_path g S u v) (uppermost g.m (largest g.m w (on_path g S u v)))
  path-heaviest d =
      let (k, on, _) = path-crossed g ok S least.tree (λ j. eqb j u) u v lu hu lv hv (apart u v d) in
      heaviest-exists g.m w (on_path g S u v) (λ i h. ok.position i (least.tree.inside i (path_inside g ok S least.tree u v i h))) k on

pub dearest-stretch : DearestStretch
dearest-stretch g ok w S least u v (lu, hu) (lv, hv) d =
    record {
      on-path = (_, path-heaviest g ok w S least u v lu hu lv hv d);
      on-walk = λ p. (_, walk-heaviest g ok w g.rows (λ i e. e) u v d p);
      no-heavier =
          λ e (on, _) p f (_, most).
          let (k, h, le) = stretch-row g ok w S least u v lu hu lv hv e on p in
          omega (arith, integers, most k h);
    }
