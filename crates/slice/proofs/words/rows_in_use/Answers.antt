-- `slice::words::rows_in_use` meets its contract: each word is the one lent. Assumes nothing.
use borrow.Author.Rules.{rules}
use lib.ListN.{get_or}
use mathlib.Core.Path.{◌≡◌}
use Rattle.slice.proofs.Laws.{same-words}
use Rattle.slice.proofs.Made.{made}
use Rattle.slice.proofs.words.rows_in_use.Goals as goal

pub returns : goal.returns
returns c =
    same-words _ _
    (λ k h. made _ _ (λ i w. w ≡ get_or c.args.words.now i 0) (λ i w q d. (search rules, search rules)) _ 16 c.from_fn.ensures.items k 0 h)
