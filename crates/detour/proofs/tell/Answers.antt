-- `detour::tell` meets its contract: the slices of marked and unmarked rows are the claim's, and what is written and weighed is what the definition says. Assumes nothing.
use Prim.Native.Nat.{ℕ, ◌≤◌}
use lib.ListN.{length}
use mathlib.Core.Bool.{Bool}
use mathlib.Core.Path.{ap, ◌∙◌}
use native.Mathlib.Omega.{arith}
use Rattle.claim.specs.Claims.{claim_rows}
use Rattle.rowset.specs.Sets.{both, without}
use Rattle.slice.specs.Slices.{component}
use Rattle.detour.proofs.Paths.{marked-rows, tells}
use Rattle.detour.proofs.tell.Goals as goal

pub write_rows-requires : goal.write_rows-requires
write_rows-requires c =
    let rows = c.rows_among-used.ensures in
    let is-marked = c.claim_rows-marked.ensures ∙ ap (λ (p : ℕ → Bool). both p (claim_rows c.args.mark.now)) rows in
    let is-unmarked = c.without-unmarked.ensures ∙ ap (λ (p : ℕ → Bool). without p (component c.claim_rows-marked.result)) rows in (
      c.requires.0,
      λ i h.
          let (low, off) = marked-rows c.args.m (component c.args.in_use) (claim_rows c.args.mark.now) is-marked is-unmarked i h in
          let inside : i ≤ length c.args.rows.now = omega (arith, low, c.requires.1) in
          (inside, off),
    )

pub returns : goal.returns
returns c n whole w =
    let rows = c.rows_among-used.ensures in
    let is-marked = c.claim_rows-marked.ensures ∙ ap (λ (p : ℕ → Bool). both p (claim_rows c.args.mark.now)) rows in
    let is-unmarked = c.without-unmarked.ensures ∙ ap (λ (p : ℕ → Bool). without p (component c.claim_rows-marked.result)) rows in
    tells _ _ w c.args.rows.now is-marked is-unmarked c.weigh.ensures c.requires.1 c.write_rows.ensures
