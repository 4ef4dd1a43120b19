-- What the breaking price means of the table's routes, and the exact effect of a new price (breakings-mean): the theorem about graphs, cited for the graph of an accepted table.
-- Assumes nothing.
use Prim.Native.Nat.{ℕ}
use lib.IntN.{ℤ, ◌-ℤ◌}
use mathlib.Core.Bool.{true}
use mathlib.Core.Logic.{◌↔◌}
use mathlib.Core.Option.{Option, none, some}
use mathlib.Core.Path.{◌≡◌, refl, sym, ◌∙◌, ap}
use native.Mathlib.Omega.{arith}
use Rattle.graph_theory.proofs.Builder.{tree-connected, built-least, not-connected}
use Rattle.graph_theory.specs.Builder.{Fragment, tree}
use Rattle.graph_theory.specs.Graph.{Graph, Sound, Connected}
use Rattle.price_theory.proofs.Breaking.{breaking-prices}
use Rattle.price_theory.proofs.Quote.{quotes}
use Rattle.price_theory.specs.Breaking.{breaking, counted, lesser, Breaking}
use Rattle.price_theory.specs.Quote.{Totals}
use Rattle.rowset.specs.Integers.{signed}
use Rattle.star_spec.proofs.Accepted.{taken, row-used, sound}
use Rattle.star_spec.specs.Accepted.{Row}
use Rattle.star_spec.specs.Call.{Call, graph_of, weight_of}
use Rattle.star_spec.specs.Refusals.{Accepted, cause, is_none}
use Rattle.price_spec.proofs.Means.{last-cause, total-built, totals-built}
use Rattle.price_spec.specs.Breaking.{unanswered, breaks_at, never_breaks, breaking_told, breaking_or, breaking_price}
use Rattle.price_spec.specs.BreakingMeans.{Broken, BreakingsMean}
use Rattle.price_spec.specs.Quote.{new_prices, quoted, quote}

module _ (c : Call) (ok : Accepted c) (k : ℕ) (row : Row c k) where
  abbrev g : Graph
  g = graph_of c

  fine : Sound g
  fine = sound c (taken c ok)

  unconnected : (Connected g → ⊥) → breaking_price c k ≡ unanswered (record { number = 11; place = 0 })
  unfolding breaking_price breaking_or is_none cause
  unconnected apart = go (tree g (weight_of c)) refl
    where
      go : (o : Option Fragment) → tree g (weight_of c) ≡ o → breaking_price c k ≡ unanswered (record { number = 11; place = 0 })
      go none e = rw (last-cause c k ok row, e)
      go (some f) e = absurd (apart (tree-connected (built-least g fine (weight_of c) f e).tree))

  module _ (joins : Connected g) where
    -- what is told is the graph's breaking price
    pub told : breaking_price c k ≡ breaking_told (breaking g (weight_of c) k)
    unfolding breaking_price breaking_or is_none cause
    told = go (tree g (weight_of c)) refl
      where
        go : (o : Option Fragment) → tree g (weight_of c) ≡ o → breaking_price c k ≡ breaking_told (breaking g (weight_of c) k)
        go none e = absurd (not-connected g fine (weight_of c) e joins)
        go (some f) e = rw (last-cause c k ok row, e)

    means : Breaking g (weight_of c) k
    unfolding graph_of
    means = breaking-prices g fine joins (weight_of c) k (row-used c k row)

    told_none : (o : Option ℤ) → breaking_told o ≡ never_breaks → o ≡ none
    unfolding breaking_told
    told_none none e = refl
    told_none (some x) e =
        let z : ◌≡◌ {A = ℕ} 0 1 = cc in
        absurd (omega arith)

    told-some : (o : Option ℤ) (x : ℤ) → breaking_told o ≡ breaks_at x → o ≡ some x
    unfolding breaking_told
    told-some none x e =
        let z : ◌≡◌ {A = ℕ} 0 1 = cc in
        absurd (omega arith)
    told-some (some y) x e =
        let q : y ≡ x = cc in
        ap some q

    is-none : breaking_price c k ≡ never_breaks → breaking g (weight_of c) k ≡ none
    is-none e = told_none (breaking g (weight_of c) k) (sym told ∙ e)

    is_some : (x : ℤ) → breaking_price c k ≡ breaks_at x → breaking g (weight_of c) k ≡ some x
    is_some x e = told-some (breaking g (weight_of c) k) x (sym told ∙ e)

    -- the least total moves by what of the price counts
    moves : (x : ℕ) (before after : ℤ) → quote c k x ≡ quoted before after
        → (after -ℤ before) ≡ (counted (breaking g (weight_of c) k) (signed x) -ℤ counted (breaking g (weight_of c) k) (weight_of c k))
    unfolding new_prices
    moves x before after h =
        let (b, a) = totals-built c ok k row x before after h in
        let q = quotes g fine (weight_of c) k (signed x) in
        let t : Totals = record { before = before; after = after } in
        means.exact (signed x) t ((q.least t).1 (total-built c ok (weight_of c) joins ∙ ap some b, total-built c ok (new_prices c k x) joins ∙ ap some a))

    broken : Broken c k
    unfolding counted breaking_told
    broken =
        record {
          never = (λ e. means.no-route.0 (is-none e), λ r. told ∙ ap breaking_told (means.no-route.1 r));
          least = λ x. (λ e. (means.least x).0 (is_some x e), λ r. told ∙ ap breaking_told ((means.least x).1 r));
          exact = λ y e x before after h. rw (is_some y e) at (moves x before after h);
          whole = λ e x before after h. rw (is-none e) at (moves x before after h);
        }

pub breakings-mean : BreakingsMean
breakings-mean c ok k row = record { connected = broken c ok k row; unconnected = unconnected c ok k row }
