-- The dearest stretch on the tree of a passed claim is no dearer than that of any walk: a passed claim is a least tree, and the law holds of those.
-- Assumes nothing.
use lib.IntN.{ℤ}
use mathlib.Core.Bool.{Bool}
use mathlib.Core.Path.{◌≡◌, ap}
use Rattle.star_meaning.proofs.Bytes.{refused-first, standing, accepted, turned}
use Rattle.star_meaning.proofs.Demand3.{refused-passed, ok, claim-least, passed-least}
use Rattle.star_meaning.specs.Stretch.{StretchHolds}
use Rattle.graph_theory.proofs.Meaning.{meanings}
use Rattle.graph_theory.proofs.Stretch.{dearest-stretch}
use Rattle.star_spec.specs.Call.{Call, graph_of, weight_of, claimed}
use Rattle.star_spec.specs.Cst.{passed, verdict, cst}
use Rattle.star_spec.specs.Refusals.{Accepted, table_causes, cst_causes}

-- a table whose claim is passed is accepted
passed-accepted : (c : Call) {weight : ℤ} {alone : Bool} → cst c ≡ passed weight alone → Accepted c
unfolding cst verdict cst_causes
passed-accepted c e =
    elim (standing c) [
      | accepted a ↦ a
      | turned r h ↦ absurd (refused-passed (ap (verdict c) (refused-first c r _ (table_causes c) h)) e)
    ]

pub stretch-holds : StretchHolds
unfolding graph_of
stretch-holds c weight alone e u v hu hv d =
    let a = passed-accepted c e in
    let (l, _, _) = passed-least c a weight alone e in
    let s = dearest-stretch (graph_of c) (ok c a) (weight_of c) (claimed c) (claim-least c a l) u v hu hv d in
    record {
      path = ((meanings (graph_of c) (ok c a)).of-paths (claimed c) l.tree.spanning u v hu hv).path-walk;
      on-path = s.on-path;
      on-walk = s.on-walk;
      no-heavier = s.no-heavier;
    }
