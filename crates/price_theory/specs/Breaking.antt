-- The breaking price of a row: over all routes between its ends that do not use it, the least possible heaviest row; and the exact effect of a new price.
-- Cites definitions alone; the proof is proofs/Breaking.antt. Assumes nothing.
use Rattle.std.specs.Prelude.{ℕ, ℤ, ◌-ℤ◌, ◌≤ℤ◌, true, cond, ◌↔◌, ◌≡◌}
use Rattle.std.specs.Int.Signed.{lt_z}
use Rattle.std.proofs.Math.Option.{Option, none, some}
use Rattle.graph_theory.specs.Builder.{Fragment, tree}
use Rattle.graph_theory.specs.Graph.{Graph, Sound, Walk, Connected}
use Rattle.graph_theory.specs.Stretch.{Heaviest}
use Rattle.graph_theory.specs.Tree.{on_path, uses}
use Rattle.price_theory.specs.Quote.{priced, Totals, quote}
use Rattle.rowset.specs.Searches.{largest}
use Rattle.rowset.specs.Sets.{take_out, uppermost}

-- the graph without row k
abbrev pub lacking : Graph → ℕ → Graph
lacking g k = record { n = g.n; m = g.m; a = g.a; b = g.b; rows = take_out g.rows k }

-- the weight of the heaviest row on the path of a built tree between row k's ends
unfoldable pub heaviest_between : Graph → (ℕ → ℤ) → ℕ → Option Fragment → Option ℤ
heaviest_between g w k none = none
heaviest_between g w k (some f) = some (w (uppermost g.m (largest g.m w (on_path g f.chosen (g.a k) (g.b k)))))

-- the breaking price of row k: the tree built without it has the heaviest row on its path; none where nothing is built
unfoldable pub breaking : Graph → (ℕ → ℤ) → ℕ → Option ℤ
breaking g w k = heaviest_between g w k (tree (lacking g k) w)

-- a route: a walk between row k's ends that does not use it
abbrev pub Route : Graph → ℕ → Type 0
Route g k = Walk g (take_out g.rows k) (g.a k) (g.b k)

-- x is the least possible heaviest row of a route: some route has a heaviest row of x, and no route has a lighter one
pub record LeastHeaviest (g : Graph) (w : ℕ → ℤ) (k : ℕ) (x : ℤ) : Type 0 where
  pub some-route : (p : Route g k) × (e : ℕ) × Heaviest w (uses p) e × (w e ≡ x)
  pub every-route : (p : Route g k) (e : ℕ) → Heaviest w (uses p) e → x ≤ℤ w e

-- the lesser of two prices
unfoldable pub lesser : ℤ → ℤ → ℤ
lesser x y = cond (lt_z y x) y x

-- what of a price counts: the lesser of it and the breaking price, all of it where there is none
unfoldable pub counted : Option ℤ → ℤ → ℤ
counted none x = x
counted (some y) x = lesser x y

-- what the breaking price of row k means
pub record Breaking (g : Graph) (w : ℕ → ℤ) (k : ℕ) : Type 0 where
  -- there is none exactly where no route exists
  pub no-route : (breaking g w k ≡ none) ↔ (Route g k → ⊥)
  -- each route has a heaviest row, and the breaking price is the least possible one
  pub route-heaviest : (p : Route g k) → (e : ℕ) × Heaviest w (uses p) e
  pub least : (x : ℤ) → (breaking g w k ≡ some x) ↔ LeastHeaviest g w k x
  -- the row's own price plays no part
  pub own-price : (x : ℤ) → breaking g (priced w k x) k ≡ breaking g w k
  -- the least total moves by exactly min(new, breaking) − min(old, breaking), or new − old where there is none
  pub exact : (x : ℤ) (t : Totals) → quote g w k x ≡ some t → t.after -ℤ t.before ≡ counted (breaking g w k) x -ℤ counted (breaking g w k) (w k)

-- the theorem: over all sound and connected graphs, all prices and every row
abbrev pub BreakingPrices : Type 0
BreakingPrices = (g : Graph) → Sound g → Connected g → (w : ℕ → ℤ) (k : ℕ) → g.rows k ≡ true → Breaking g w k
