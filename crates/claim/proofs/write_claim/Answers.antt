-- `claim::write_claim` meets its contract. The loop's invariant: the bytes before index i are those of the claim, and the length is as it was.
-- Assumes nothing.
use Rattle.std.proofs.Common.{◌≡◌, ℕ, suc, ◌+◌, ◌<◌, Bool, cond, List, [], ◌∷◌, length, get_or, sym, refl, ap, ◌∙◌, ap₂, zero-add, arith}
use Rattle.slice_words.proofs.Laws.{component-words}
use Rattle.slice.proofs.Stores.{filled_none, filled_more, filled-all}
use Rattle.star_spec.specs.Call.{claim_from, claim_of}
use Rattle.claim.proofs.Laws.{as-digit}
use Rattle.claim.proofs.write_claim.Invariants.{Byte}
use Rattle.claim.proofs.write_claim.Goals as goal

-- a list with the claim's bytes is the claim
claim-bytes : (S : ℕ → Bool) (i : ℕ) (l : List ℕ) → ((k : ℕ) → k < length l → Byte S (i + k) (get_or l k 0)) → l ≡ claim_from S i (length l)
unfolding claim_from
claim-bytes S i [] h = refl
claim-bytes S i (x ∷ l) h = ap₂ ◌∷◌ (h 0 (omega arith) ∙ ap (λ k. cond (S k) 1 0) (omega arith)) (claim-bytes S (suc i) l (λ k q. h (suc k) (omega arith) ∙ ap (λ j. cond (S j) 1 0) (omega arith)))

pub loop-i-init : goal.loop-i-init
loop-i-init c = filled_none refl

pub row_in-requires : goal.row_in-requires
row_in-requires c = tt

pub overflow_cast-mark : goal.overflow_cast-mark
overflow_cast-mark c = tt

pub loop-i-preserved : goal.loop-i-preserved
loop-i-preserved c =
    let l = c.loop-i in
    filled_more l.invariant (omega arith) (as-digit _ (c.row_in.ensures ∙ ap (λ (p : ℕ → Bool). p (l.i + 1)) (sym (component-words _))))

pub shape_of-mark : goal.shape_of-mark
shape_of-mark c = c.loop-i.invariant.full

pub returns : goal.returns
unfolding claim_of
returns c =
    claim-bytes _ 0 _ (λ k h. rw zero-add (filled-all c.loop-i.invariant (omega arith) k (omega arith))) ∙ ap (claim_from _ 0) c.loop-i.invariant.full
