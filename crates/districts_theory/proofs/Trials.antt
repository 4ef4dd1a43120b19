-- The trials hold: the definitions compute to what each says.
-- Assumes nothing.
use Prim.Native.Nat.{ℕ}
use lib.Dec.{eqb}
use mathlib.Core.Bool.{true, xor, true≢false, false≢true}
use mathlib.Core.List.{[], ◌∷◌}
use mathlib.Core.Path.{◌≡◌, refl}
use Rattle.districts_theory.specs.Districts.{run, rises_to, forests_after, forests, districts}
use Rattle.districts_theory.specs.Forest.{Forest}
use Rattle.districts_theory.specs.Growing.{misses, next_row, with_row, grown, grown_forest}
use Rattle.districts_theory.specs.Trials.{ring, apart, weight_built, TrialsHold}
use Rattle.graph_theory.proofs.Reach.{walk-one-side}
use Rattle.graph_theory.specs.Builder.{cheapest, choose, first, next, fragment, tree_of, tree}
use Rattle.graph_theory.specs.Graph.{stay, ahead, crosses, with_ends}
use Rattle.rowset.proofs.Members.{put_all}
use Rattle.rowset.specs.Integers.{total}
use Rattle.rowset.specs.Searches.{smallest}
use Rattle.rowset.specs.Sets.{empty, up_to, both, either, without, put, take_out, any, first_of, uppermost}
use Rattle.rowset.specs.Trials.{these, members}

-- rows 1 and 2 of the ring join the ends of row 3
no-ring : Forest ring (up_to 3) (up_to 3) → ⊥
unfolding up_to take_out
no-ring t = t.ringless 3 refl (ahead 2 refl (ahead 1 refl stay))

-- rows 3 and 4 do not join vertices 1 and 2, as row 1 does
no_gap : Forest apart (up_to 4) (these (3 ∷ 4 ∷ [])) → ⊥
unfolding up_to these empty
no_gap t =
    true≢false (walk-one-side (λ v. eqb v 1) rows ((t.joins 1 2).1 (ahead 1 refl stay)))
  where
    rows : (i : ℕ) → put (put empty 4) 3 i ≡ true → eqb (apart.a i) 1 ≡ eqb (apart.b i) 1
    rows = put_all (λ (i : ℕ). eqb (apart.a i) 1 ≡ eqb (apart.b i) 1) (put empty 4) 3 (put_all (λ (i : ℕ). eqb (apart.a i) 1 ≡ eqb (apart.b i) 1) empty 4 (λ i h. absurd (false≢true h)) refl) refl

pub trials-hold : TrialsHold
unfolding xor run rises_to forests_after forests districts misses next_row with_row grown grown_forest weight_built cheapest choose first next fragment tree_of tree crosses with_ends total smallest empty up_to both either without put any first_of uppermost these members
trials-hold = (refl, refl, refl, refl, (no-ring, no_gap, λ t. false≢true (t.inside 2 refl)))
