-- `mend::mend_check` meets its contract: a list of so many records has fewer than 2 · m exactly where half of them is below m.
-- Assumes nothing.
use Prim.Native.Nat.{ℕ, ◌*◌, ◌/◌}
use borrow.Author.Tests.{lt-ltb, le-ltb, ltb-true, ltb-false}
use lib.Dec.{ltb}
use mathlib.Core.Bool.{Bool, true, false}
use mathlib.Core.Path.{◌≡◌, refl, sym}
use native.Mathlib.Omega.{arith}
use Rattle.mend_spec.specs.Mend.{claim_causes}
use Rattle.table_checks.proofs.Laws.{refused-on, done_next}
use Rattle.mend.proofs.mend_check.Goals as goal

half : (records m : ℕ) → ltb (records / 2) m ≡ ltb records (2 * m)
half records m = go (ltb (records / 2) m) refl
  where
    go : (b : Bool) → ltb (records / 2) m ≡ b → b ≡ ltb records (2 * m)
    go true e = sym (lt-ltb records (2 * m) (omega (arith, ltb-true (records / 2) m e)))
    go false e = sym (le-ltb records (2 * m) (omega (arith, ltb-false (records / 2) m e)))

pub returns-in_err-claim_check : goal.returns-in_err-claim_check
unfolding claim_causes
returns-in_err-claim_check c = refused-on _ _ c.in_err-claim_check.was c.from_residual.ensures.1 c.claim_check.ensures

pub returns : goal.returns
unfolding claim_causes
returns c = done_next _ _ _ _ c.in_ok-claim_check.was c.claim_check.ensures (rw (c.refused_if.ensures, half))
