-- What the quote means of the table's spanning trees (quotes-mean): the definition on the columns is the quote of the graph, whose theorem is cited.
-- Assumes nothing.
use Prim.Native.Nat.{ℕ}
use lib.IntN.{ℤ}
use mathlib.Core.Bool.{Bool, true, false}
use mathlib.Core.List.{[], ◌∷◌}
use mathlib.Core.Option.{Option, none, some}
use mathlib.Core.Path.{◌≡◌, refl, sym, ◌∙◌, ap}
use native.Mathlib.Omega.{arith}
use Rattle.graph_theory.proofs.Builder.{tree-connected, built-least, not-connected}
use Rattle.graph_theory.proofs.LeastTotal.{least-total}
use Rattle.graph_theory.specs.Builder.{Fragment, tree}
use Rattle.graph_theory.specs.Graph.{Graph, Sound, Connected}
use Rattle.graph_theory.specs.LeastTotal.{least_total}
use Rattle.price_theory.proofs.Quote.{quotes}
use Rattle.price_theory.specs.Quote.{Totals, Bound}
use Rattle.rowset.specs.Integers.{signed}
use Rattle.star_spec.proofs.Accepted.{none-cons, refusal-append, taken, row-used, sound}
use Rattle.star_spec.specs.Accepted.{Row}
use Rattle.star_spec.specs.Call.{Call, graph_of, weight_of}
use Rattle.star_spec.specs.Mst1.{chosen_rows}
use Rattle.star_spec.specs.Refusals.{Accepted, cause, table_causes, is_none, no_tree, or_else, refusal}
use Rattle.price_spec.specs.Means.{LeastIs, Quoted, QuotesMean}
use Rattle.price_spec.specs.Quote.{no_row, row_asked, quote_causes, built_total, new_prices, unquoted, quoted, quote_or, quote}

-- an accepted table and a row in use: only the last cause is left
module _ (c : Call) (k : ℕ) where
  pub last-cause : Accepted c → Row c k → refusal (quote_causes c k) ≡ cause (is_none (tree (graph_of c) (weight_of c))) 11 0
  unfolding quote_causes no_row no_tree cause refusal or_else
  last-cause ok row = refusal-append (table_causes c) (no_row c k ∷ no_tree c ∷ []) ok ∙ rw (row-used c k row) (go (is_none (tree (graph_of c) (weight_of c))))
    where
      go : (b : Bool) → or_else (cause b 11 0) none ≡ cause b 11 0
      go true = refl
      go false = refl

module _ (c : Call) (ok : Accepted c) where
  abbrev g : Graph
  g = graph_of c

  fine : Sound g
  fine = sound c (taken c ok)

  -- in a connected table the built tree under any prices is a least one
  least-built : (w : ℕ → ℤ) → Connected g → LeastIs c w (built_total c w)
  unfolding built_total chosen_rows graph_of
  least-built w joins = go (tree g w) refl
    where
      go : (o : Option Fragment) → tree g w ≡ o → LeastIs c w (built_total c w)
      go none e = absurd (not-connected g fine w e joins)
      go (some f) e = (f.chosen, built-least g fine w f e, rw e)

  -- and its weight is the graph's least total
  pub total-built : (w : ℕ → ℤ) → Connected g → least_total g w ≡ some (built_total c w)
  unfolding graph_of
  total-built w joins =
      let (S, l, e) = least-built w joins in
      least-total g fine w S l ∙ ap some e

  module _ (k : ℕ) (row : Row c k) (x : ℕ) where
    -- the two answers that are left
    quote-connected : Connected g → quote c k x ≡ quoted (built_total c (weight_of c)) (built_total c (new_prices c k x))
    unfolding quote quote_or is_none cause
    quote-connected joins = go (tree g (weight_of c)) refl
      where
        go : (o : Option Fragment) → tree g (weight_of c) ≡ o → quote c k x ≡ quoted (built_total c (weight_of c)) (built_total c (new_prices c k x))
        go none e = absurd (not-connected g fine (weight_of c) e joins)
        go (some f) e = rw (last-cause c k ok row, e)

    quote-unconnected : (Connected g → ⊥) → quote c k x ≡ unquoted (record { number = 11; place = 0 })
    unfolding quote quote_or is_none cause
    quote-unconnected apart = go (tree g (weight_of c)) refl
      where
        go : (o : Option Fragment) → tree g (weight_of c) ≡ o → quote c k x ≡ unquoted (record { number = 11; place = 0 })
        go none e = rw (last-cause c k ok row, e)
        go (some f) e = absurd (apart (tree-connected (built-least g fine (weight_of c) f e).tree))

    -- a table that is quoted is connected
    connected-quote : (before after : ℤ) → quote c k x ≡ quoted before after → Connected g
    unfolding quote quote_or is_none cause
    connected-quote before after h = go (tree g (weight_of c)) refl
      where
        go : (o : Option Fragment) → tree g (weight_of c) ≡ o → Connected g
        go none e =
            let q : quote c k x ≡ unquoted (record { number = 11; place = 0 }) = rw (last-cause c k ok row, e) in
            let z : ◌≡◌ {A = ℕ} 0 1 = cc in
            absurd (omega arith)
        go (some f) e = tree-connected (built-least g fine (weight_of c) f e).tree

    -- and its totals are those of the trees that are built
    pub totals-built : (before after : ℤ) → quote c k x ≡ quoted before after → (built_total c (weight_of c) ≡ before) × (built_total c (new_prices c k x) ≡ after)
    totals-built before after h =
        let q = quote-connected (connected-quote before after h) in
        (cc, cc)

    bounded : (before after : ℤ) → quote c k x ≡ quoted before after → Bound (weight_of c k) (signed x) (record { before = before; after = after })
    unfolding new_prices
    bounded before after h =
        let joins = connected-quote before after h in
        let (b, a) = totals-built before after h in
        let q = quotes g fine (weight_of c) k (signed x) in
        let t : Totals = record { before = before; after = after } in
        q.bound t ((q.least t).1 (total-built (weight_of c) joins ∙ ap some b, total-built (new_prices c k x) joins ∙ ap some a))

pub quotes-mean : QuotesMean
quotes-mean c ok k row x =
    record {
      connected = (λ joins. (_, _, quote-connected c ok k row x joins), λ s. connected-quote c ok k row x s.0 s.1 s.2);
      unconnected = (quote-unconnected c ok k row x, refused);
      before-least = λ before after h. rw (← (totals-built c ok k row x before after h).0) (least-built c ok (weight_of c) (connected-quote c ok k row x before after h));
      after-least = λ before after h. rw (← (totals-built c ok k row x before after h).1) (least-built c ok (new_prices c k x) (connected-quote c ok k row x before after h));
      bound = bounded c ok k row x;
    }
  where
    refused : quote c k x ≡ unquoted (record { number = 11; place = 0 }) → Connected (graph_of c) → ⊥
    refused h joins =
        let q = quote-connected c ok k row x joins in
        let z : ◌≡◌ {A = ℕ} 0 1 = cc in
        absurd (omega arith)
