-- What the trees say in each of its four cases (the call is refused; a tree is built without the row; only with it; or not even so), and that the walk then tells the breaking price.
-- Assumes nothing.
use Prim.Native.Nat.{ℕ}
use lib.Dec.{eqb}
use lib.IntN.{ℤ, pos}
use lib.ListN.{length, replicate}
use mathlib.Core.Bool.{Bool, true, false, not, ◌&&◌}
use mathlib.Core.List.{List}
use mathlib.Core.Option.{Option, none, some}
use mathlib.Core.Path.{◌≡◌, refl, sym, ◌∙◌, ap, fun_ext}
use native.Mathlib.Omega.{arith}
use Rattle.graph_theory.proofs.Builder.{built-spanning, not-built}
use Rattle.graph_theory.specs.Builder.{Fragment, tree}
use Rattle.graph_theory.specs.Graph.{Graph, Sound}
use Rattle.graph_theory.specs.Tree.{SpanningTree, on_path}
use Rattle.path_matrix.specs.Matrix.{matrix_column}
use Rattle.mst1.proofs.Answers.{loaded-weights, loaded-graph}
use Rattle.mst1.specs.Steps.Growth.{loaded_graph, Grows}
use Rattle.path_walk.specs.Steps.Walks.{walk}
use Rattle.price_theory.proofs.Lacking.{lacking-sound, lacking-tree}
use Rattle.price_theory.specs.Breaking.{lacking, heaviest_between, breaking}
use Rattle.refusal.specs.Outcomes.{refusal_of}
use Rattle.refusal.specs.declared.Refusal.{Refusal}
use Rattle.rowset.proofs.Laws.{clash}
use Rattle.rowset.specs.Bytes.{in_row}
use Rattle.rowset.specs.Integers.{signed}
use Rattle.rowset.specs.Searches.{largest}
use Rattle.rowset.specs.Sets.{up_to, both, take_out, uppermost}
use Rattle.star_spec.proofs.Accepted.{Taken, taken, row-used, sound}
use Rattle.star_spec.specs.Accepted.{Row}
use Rattle.star_spec.specs.Call.{Call, rows_of, used, graph_of, weight_of}
use Rattle.star_spec.specs.Mst1.{chosen_rows}
use Rattle.star_spec.specs.Refusals.{Accepted, cause, is_none, or_else, refusal}
use Rattle.std.specs.Prelude.{Result, Ok, Err, ⊤}
use Rattle.table.proofs.Loads.{load-taken, loaded-taken}
use Rattle.table.specs.Loads.{loaded_row}
use Rattle.price_spec.proofs.Causes.{causes-in-order, row-asked}
use Rattle.price_spec.proofs.Means.{last-cause}
use Rattle.price_spec.specs.Breaking.{unanswered, breaks_at, never_breaks, breaking_told, breaking_or, breaking_price}
use Rattle.price_spec.specs.Quote.{row_asked}
use Rattle.breaking.proofs.Paths.{path-heaviest}
use Rattle.breaking.specs.Steps.Routes.{Said, answered, by_trees, said_or, said, way_between, heaviest_price, told}
use Rattle.path_walk.proofs.Trees.{walked-path}

-- a call that the checks refuse
pub call-refused : (c : Call) (k : ℕ) {o : Result ⊤ Refusal} {r : Refusal} → refusal_of o ≡ refusal (row_asked c k) → o ≡ Err r → answered (unanswered r) ≡ said c k
unfolding said said_or refusal_of
call-refused c k {r = r} e q =
    let h : refusal (row_asked c k) ≡ some r = sym e ∙ ap refusal_of q in
    rw h

-- taking a row out of the rows in use takes it out of those among the first m
take-out-both : (p q : ℕ → Bool) (k : ℕ) → both p (take_out q k) ≡ take_out (both p q) k
unfolding both take_out
take-out-both p q k = fun_ext (λ i. go (p i) (q i) (not (eqb i k)))
  where
    go : (x y z : Bool) → (x && (y && z)) ≡ ((x && y) && z)
    go true y z = refl
    go false y z = refl

-- whether nothing was built
some-built : (o : Option Fragment) → not (is_none o) ≡ true → (f : Fragment) × (o ≡ some f)
unfolding is_none
some-built none e = clash e refl
some-built (some f) e = (f, refl)

none-built : (o : Option Fragment) → not (is_none o) ≡ false → o ≡ none
unfolding is_none
none-built none e = refl
none-built (some f) e = clash refl e

pub accepted-call : (c : Call) (k : ℕ) {o : Result ⊤ Refusal} → refusal_of o ≡ refusal (row_asked c k) → o ≡ Ok tt → refusal (row_asked c k) ≡ none
unfolding refusal_of
accepted-call c k checked done = sym checked ∙ ap refusal_of done

-- a call that the checks accept
module _ (c : Call) (k : ℕ) (asked : refusal (row_asked c k) ≡ none) where
  accepted : Accepted c × Row c k
  accepted = row-asked c k asked

  t : Taken c
  t = taken c accepted.0

  abbrev g : Graph
  g = graph_of c

  abbrev w : ℕ → ℤ
  w = weight_of c

  fine : Sound g
  fine = sound c t

  row : g.rows k ≡ true
  unfolding graph_of
  row = row-used c k accepted.1

  -- the loaded ends are the table's
  loaded : (l : List ℕ) → length l ≡ rows_of c → loaded_row 1 l ≡ in_row 1 l
  loaded l h = loaded-taken 1 l (load-taken 1 l (omega (arith, t.few-rows)) (omega arith))

  -- a tree built without row k: the heaviest row on its path between k's ends
  module _ (f : Fragment) (built : tree (lacking g k) w ≡ some f) where
    spans : SpanningTree g f.chosen
    spans = (lacking-tree g k f.chosen (built-spanning (lacking g k) (lacking-sound g k fine) w f built)).0

    -- the table is connected, so that nothing is refused
    told-built : breaking_price c k ≡ breaks_at (w (uppermost g.m (largest g.m w (on_path g f.chosen (g.a k) (g.b k)))))
    unfolding breaking_price breaking_or breaking_told breaking heaviest_between is_none cause
    told-built = go (tree g w) refl
      where
        go : (x : Option Fragment) → tree g w ≡ x → breaking_price c k ≡ breaks_at (w (uppermost g.m (largest g.m w (on_path g f.chosen (g.a k) (g.b k)))))
        go none e = absurd (not-built g fine w e f.chosen spans)
        go (some x) e = rw (last-cause c k accepted.0 accepted.1, e, built)

    -- what the walk finds between k's ends is the tree's path
    walked-between : (words : List ℕ) → length words ≡ 4080
        → matrix_column (walk (loaded_row 1 c.left) (loaded_row 1 c.right) f.chosen (in_row 1 c.left k) words c.n).words (in_row 1 c.right k) ≡ on_path g f.chosen (g.a k) (g.b k)
    unfolding graph_of
    walked-between words long =
        let (la, ha) = fine.left k row in
        let (lb, hb) = fine.right k row in
        rw (loaded c.left t.left-length, loaded c.right t.right-length)
        (walked-path g fine f.chosen spans (omega (arith, t.few-vertices)) t.few-rows (g.a k) la ha words (omega (arith, t.few-vertices)) (g.b k) lb hb)

    -- and the heaviest row on it has the breaking price
    path-price : {P : ℕ → Bool} → P ≡ on_path g f.chosen (g.a k) (g.b k) → breaks_at (signed (heaviest_price c.weight P)) ≡ breaking_price c k
    unfolding graph_of weight_of heaviest_price
    path-price path = rw (path, loaded-weights c t, path-heaviest g fine f.chosen spans (omega (arith, t.few-vertices)) t.few-rows w (g.a k) (g.b k)) (sym told-built)

    route-told : breaks_at (signed (heaviest_price c.weight (way_between c.n c.left c.right k f.chosen))) ≡ breaking_price c k
    unfolding way_between
    route-told = path-price (walked-between (replicate 4080 0) refl)

  -- a tree is built only with the row
  never-told : tree (lacking g k) w ≡ none → (f : Fragment) → tree g w ≡ some f → never_breaks ≡ breaking_price c k
  unfolding breaking_price breaking_or breaking_told breaking heaviest_between is_none cause
  never-told e f h = rw (last-cause c k accepted.0 accepted.1, h, e)

  -- not even so
  no-tree-told : tree g w ≡ none → unanswered (record { number = 11; place = 0 }) ≡ breaking_price c k
  unfolding breaking_price breaking_or is_none cause
  no-tree-told h = rw (last-cause c k accepted.0 accepted.1, h)

  accepted-told : told c.n c.left c.right c.weight k (said c k) ≡ breaking_price c k
  unfolding said said_or told by_trees
  accepted-told = rw asked (go (tree (lacking g k) w) (tree g w) refl refl)
    where
      go : (x y : Option Fragment) → tree (lacking g k) w ≡ x → tree g w ≡ y → told c.n c.left c.right c.weight k (by_trees x y) ≡ breaking_price c k
      go (some f) y e h = route-told f e
      go none (some f) e h = never-told e f h
      go none none e h = no-tree-told h

  -- the graph that a tree is grown on where the rows of a set are in use
  abbrev On : (ℕ → Bool) → Graph
  On rows = loaded_graph c.n c.m rows c.left c.right

  abbrev loaded_weights : ℕ → ℤ
  loaded_weights i = signed (loaded_row 4 c.weight i)

  -- the tree that grows without row k, and the tree that grows with it
  without-row : (rows : ℕ → Bool) → rows ≡ take_out c.in_use k → tree (On rows) loaded_weights ≡ tree (lacking g k) w
  unfolding graph_of used
  without-row rows e = rw (e, loaded-weights c t) (loaded-graph c t (take_out c.in_use k) (weight_of c) ∙ rw (take-out-both (up_to c.m) c.in_use k))

  with_row : tree (On c.in_use) loaded_weights ≡ tree g w
  unfolding graph_of used
  with_row = rw (loaded-weights c t) (loaded-graph c t c.in_use (weight_of c))

  module _ {rows : ℕ → Bool} (others : rows ≡ take_out c.in_use k) {whole : Bool} {chosen : ℕ → Bool} (grown : Grows (On rows) loaded_weights whole chosen) where
    around : not (is_none (tree (lacking g k) w)) ≡ whole
    around = rw (← without-row rows others) (sym grown.all)

    route-said : (f : Fragment) → tree (lacking g k) w ≡ some f → chosen ≡ f.chosen → record { answer = breaks_at (pos 0); route = true; chosen = chosen } ≡ said c k
    unfolding said said_or by_trees
    route-said f built same = rw (same, asked, built)

    -- a tree is built without the row
    pub route-found : whole ≡ true → record { answer = breaks_at (pos 0); route = true; chosen = chosen } ≡ said c k
    unfolding chosen_rows
    route-found e =
        let (f, built) = some-built (tree (lacking g k) w) (around ∙ e) in
        route-said f built (grown.rows ∙ ap chosen_rows (without-row rows others ∙ built))

    module _ (none-around : whole ≡ false) {whole' : Bool} {chosen' : ℕ → Bool} (grown' : Grows (On c.in_use) loaded_weights whole' chosen') where
      unbuilt : tree (lacking g k) w ≡ none
      unbuilt = none-built (tree (lacking g k) w) (around ∙ none-around)

      whole-tree : not (is_none (tree g w)) ≡ whole'
      whole-tree = rw (← with_row) (sym grown'.all)

      -- only with it
      pub no-route : whole' ≡ true → answered never_breaks ≡ said c k
      unfolding said said_or by_trees
      no-route e =
          let (f, built) = some-built (tree g w) (whole-tree ∙ e) in
          rw (asked, unbuilt, built)

      -- not even so
      pub no-tree : whole' ≡ false → answered (unanswered (record { number = 11; place = 0 })) ≡ said c k
      unfolding said said_or by_trees
      no-tree e = rw (asked, unbuilt, none-built (tree g w) (whole-tree ∙ e))

-- what is told by whether there is a route
module _ (n : ℕ) (left right weight : List ℕ) (k : ℕ) (x : Said) where
  pub answer-told : x.route ≡ false → x.answer ≡ told n left right weight k x
  unfolding told
  answer-told e = rw e

  pub way-told : x.route ≡ true → {u v : ℕ} → u ≡ in_row 1 left k → v ≡ in_row 1 right k
      → {P : ℕ → Bool} → P ≡ matrix_column (walk (loaded_row 1 left) (loaded_row 1 right) x.chosen u (replicate 4080 0) n).words v
      → {price : ℕ} → price ≡ heaviest_price weight P → breaks_at (signed price) ≡ told n left right weight k x
  unfolding told way_between
  way-told e from to path heaviest = rw (e, heaviest, path, from, to)

-- what is told of what the trees say is the breaking price, of every call
pub told-price : (c : Call) (k : ℕ) → told c.n c.left c.right c.weight k (said c k) ≡ breaking_price c k
unfolding said said_or told breaking_price breaking_or or_else
told-price c k = go (refusal (row_asked c k)) refl
  where
    go : (o : Option Refusal) → refusal (row_asked c k) ≡ o → told c.n c.left c.right c.weight k (said c k) ≡ breaking_price c k
    go none e = accepted-told c k e
    go (some r) e = rw (causes-in-order c k, e)
