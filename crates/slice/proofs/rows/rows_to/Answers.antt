-- `slice::rows::rows_to` meets its contract: the bits of each word are those of positions 1 to m. Assumes nothing.
use Prim.Native.Nat.{ℕ, ◌+◌, ◌*◌, ◌<◌}
use borrow.Author.Tests.{le-leb}
use borrow.Author.Rules.{rules}
use lib.Dec.{leb}
use lib.ListN.{get_or}
use mathlib.Core.Path.{◌≡◌, sym, ◌∙◌}
use native.Mathlib.Omega.{arith}
use Rattle.rowset.specs.Sets.{up_to, both}
use Rattle.slice.specs.Slices.{size, bit}
use Rattle.slice.proofs.Laws.{component-ext}
use Rattle.slice.proofs.Made.{made}
use Rattle.slice.proofs.rows.rows_to.Goals as goal

pub returns : goal.returns
unfolding both up_to
returns c =
    component-ext _ (both (up_to size) (up_to c.args.m)) (λ i e. rw e)
    (λ k j hk hj. words k 0 hk j hj ∙ sym (both_at k j hk hj))
  where
    both_at : (k j : ℕ) → k < 16 → j < 64 → both (up_to size) (up_to c.args.m) (64 * k + j + 1) ≡ leb (64 * k + j + 1) c.args.m
    both_at k j hk hj = rw (le-leb 1 (64 * k + j + 1) (omega arith), le-leb (64 * k + j + 1) size (omega arith))

    words : (k e : ℕ) → k < 16 → (j : ℕ) → j < 64 → bit (get_or c.from_fn.result k e) j ≡ leb (64 * k + j + 1) c.args.m
    words = made _ _ (λ k w. (j : ℕ) → j < 64 → bit w j ≡ leb (64 * k + j + 1) c.args.m) (λ i w q d. (search rules, search rules)) _ 16 c.from_fn.ensures.items
