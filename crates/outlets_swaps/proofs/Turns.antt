-- Exchanges one after the other by the calls that the code makes.
-- Main statements: where no row can come in, no more exchanges are made (exchanges-stuck); the last state then and where all were made (own-stuck, own-made); one exchange more (exchanges-more); what is left (ends-made, ends-none). Assumes nothing.
use Prim.Native.Nat.{ℕ, zero, suc, ◌+◌, ◌-◌, ◌<◌}
use lib.ListN.{get_or}
use mathlib.Core.Bool.{Bool, true, false}
use mathlib.Core.List.{List}
use mathlib.Core.Option.{Option, none, some}
use mathlib.Core.Path.{◌≡◌, refl, sym, ◌∙◌, ap}
use native.Mathlib.Numerals.{add-one}
use native.Mathlib.Omega.{arith}
use Rattle.path_exchange.specs.Turned.{columns_turned}
use Rattle.rowset.proofs.Laws.{clash, upwards}
use Rattle.rowset.specs.Sets.{empty}
use Rattle.slice.specs.Slices.{written}
use Rattle.outlets_swaps.specs.Steps.Exchanges.{Given, State, path_of, dearest, costs, filled, found, kept_as, swapped, turned, exchange_by, picked, exchange_after, exchanges_to, or_stays, last_state, is_made, rows_left, Ends}

some_same : {s t : State} → some s ≡ some t → s ≡ t
some_same e = cc

none-some : {s : State} → none ≡ some s → ⊥
none-some e = clash refl (cc)

module _ (x : Given) (n : ℕ) (s₀ : State) where
  pub exchanges-stuck : (i k : ℕ) (s : State) (f : ℕ) → exchanges_to x n i s₀ ≡ some s → f ≡ picked s → f ≡ 0 → i < k → exchanges_to x n k s₀ ≡ none
  unfolding exchanges_to exchange_after exchange_by
  exchanges-stuck i k s f e q z l = upwards (λ j. exchanges_to x n j s₀ ≡ none) (suc i) k l (rw (e, ← q, z)) (λ j h u p. rw p)

  -- the state after k exchanges that were made is the last one
  last_made : (k : ℕ) (s : State) → exchanges_to x n k s₀ ≡ some s → last_state x n k s₀ ≡ s
  unfolding exchanges_to exchange_after last_state or_stays
  last_made zero s e = some_same e
  last_made (suc k) s e = go (exchanges_to x n k s₀) refl e (last_made k)
    where
      go : (o : Option State) → exchanges_to x n k s₀ ≡ o → exchange_after x n o ≡ some s → ((t : State) → exchanges_to x n k s₀ ≡ some t → last_state x n k s₀ ≡ t) → or_stays (last_state x n k s₀) (exchange_by x n (picked (last_state x n k s₀)) (last_state x n k s₀)) ≡ s
      go none q h made = absurd (none-some h)
      go (some t) q h made = rw (made t q, h)

  -- and where no row can come in, it stays
  last-stuck : (i k : ℕ) (s : State) (f : ℕ) → exchanges_to x n i s₀ ≡ some s → f ≡ picked s → f ≡ 0 → i < k → last_state x n k s₀ ≡ s
  unfolding last_state exchange_by or_stays
  last-stuck i k s f e q z l = upwards (λ j. last_state x n j s₀ ≡ s) i k (omega arith) (last_made i s e) (λ j h u p. rw (p, ← q, z))

  -- f comes in, and e is the row kept for it
  pub exchanges-more : (i : ℕ) (s : State) (f e : ℕ) (chosen : ℕ → Bool) (own out cost : List ℕ) → exchanges_to x n i s₀ ≡ some s → f ≡ picked s → (f ≡ 0 → ⊥) → e ≡ get_or s.out (f - 1) 0
      → chosen ≡ swapped s.chosen e f → own ≡ columns_turned s.own n e (written (path_of x s.own f) f true)
      → out ≡ filled (kept_as s.out e) (dearest x own) 0 s.out → cost ≡ filled (kept_as s.out e) (costs x own) 0 s.cost
      → exchanges_to x n (i + 1) s₀ ≡ some (record { chosen = chosen; own = own; out = out; cost = cost })
  unfolding exchanges_to exchange_after exchange_by found turned
  exchanges-more i s f e chosen own out cost q p nz he hc ho hk hp = rw (add-one, q, ← p) (go f nz he hc ho)
    where
      go : (f : ℕ) → (f ≡ 0 → ⊥) → e ≡ get_or s.out (f - 1) 0 → chosen ≡ swapped s.chosen e f → own ≡ columns_turned s.own n e (written (path_of x s.own f) f true) → exchange_by x n f s ≡ some (record { chosen = chosen; own = own; out = out; cost = cost })
      go zero nz he hc ho = absurd (nz refl)
      go (suc j) nz he hc ho = rw (← he, ← hc, ← ho, ← hk, ← hp)

-- the path matrix of the last state
pub own-made : (x : Given) (n : ℕ) (s₀ : State) (k : ℕ) (s : State) → exchanges_to x n k s₀ ≡ some s → s.own ≡ (last_state x n k s₀).own
own-made x n s₀ k s e = sym (ap (λ (t : State). t.own) (last_made x n s₀ k s e))

pub own-stuck : (x : Given) (n : ℕ) (s₀ : State) (i k : ℕ) (s : State) (f : ℕ) → exchanges_to x n i s₀ ≡ some s → f ≡ picked s → f ≡ 0 → i < k → s.own ≡ (last_state x n k s₀).own
own-stuck x n s₀ i k s f e q z l = sym (ap (λ (t : State). t.own) (last-stuck x n s₀ i k s f e q z l))

pub ends-none : {o : Option State} {whole : Bool} {chosen : ℕ → Bool} → o ≡ none → whole ≡ false → chosen ≡ empty → Ends o whole chosen
unfolding is_made rows_left
ends-none e p q = record { all = p ∙ sym (ap is_made e); rows = q ∙ sym (ap rows_left e) }

pub ends-made : {o : Option State} {whole : Bool} {s : State} → o ≡ some s → whole ≡ true → Ends o whole s.chosen
unfolding is_made rows_left
ends-made e p = record { all = p ∙ sym (ap is_made e); rows = sym (ap rows_left e) }
