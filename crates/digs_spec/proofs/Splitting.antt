-- Laws of the reader of lists: a text splits at the first byte that separates, numbers have none, and a line is read as its row or its total.
-- Main statements: split-first, split-last, integer-free, read-line, read-total.
-- Assumes nothing.
use Prim.Native.Nat.{ℕ, suc, ◌<◌}
use borrow.Author.Tests.{eq-eqb, ne_eqb, leb-true}
use lib.Dec.{eqb, leb}
use lib.IntN.{ℤ, pos, negsuc}
use mathlib.Core.Bool.{Bool, true, false, not, cond, ◌&&◌, false≢true}
use mathlib.Core.List.{List, [], ◌∷◌, ◌++◌}
use mathlib.Core.Option.{some}
use mathlib.Core.Path.{◌≡◌, refl, sym, ◌∙◌}
use native.Mathlib.Omega.{arith}
use Rattle.decimal.proofs.Reading.{natural-digits, reads-back}
use Rattle.decimal.specs.Decimal.{natural, integer}
use Rattle.digs_spec.specs.DigList.{total_line}
use Rattle.digs_spec.specs.Reading.{on_first, split, alike, read_row, read_total, at_end, with_row, read_lines, read}
use Rattle.stp_words.specs.Bytes.{bytes, within}
use Rattle.stp_words.specs.Numbers.{all_digits, is_empty}

-- no byte of the text separates
unfoldable pub free : ℕ → List ℕ → Bool
free at [] = true
free at (b ∷ t) = not (eqb b at) && free at t

-- ── Splitting ──

pub split-first : (at : ℕ) (a t : List ℕ) → free at a ≡ true → split at (a ++ at ∷ t) ≡ a ∷ split at t
unfolding free split on_first
split-first at [] t h = rw (eq-eqb at at refl)
split-first at (b ∷ a) t h = go (λ e. split-first at a t e) (eqb b at) h
  where
    go : (free at a ≡ true → split at (a ++ at ∷ t) ≡ a ∷ split at t) → (x : Bool) → (not x && free at a) ≡ true
        → cond x ([] ∷ split at (a ++ at ∷ t)) (on_first b (split at (a ++ at ∷ t))) ≡ (b ∷ a) ∷ split at t
    go f true e = absurd (false≢true e)
    go f false e = rw (f e)

pub split-last : (at : ℕ) (a : List ℕ) → free at a ≡ true → split at a ≡ a ∷ []
unfolding free split on_first
split-last at [] h = refl
split-last at (b ∷ a) h = go (λ e. split-last at a e) (eqb b at) h
  where
    go : (free at a ≡ true → split at a ≡ a ∷ []) → (x : Bool) → (not x && free at a) ≡ true → cond x ([] ∷ split at a) (on_first b (split at a)) ≡ (b ∷ a) ∷ []
    go f true e = absurd (false≢true e)
    go f false e = rw (f e)

-- ── What has no separating byte ──

pub free-append : (at : ℕ) (a b : List ℕ) → free at a ≡ true → free at b ≡ true → free at (a ++ b) ≡ true
unfolding free
free-append at [] b h k = k
free-append at (x ∷ a) b h k = go (λ e. free-append at a b e k) (not (eqb x at)) h
  where
    go : (free at a ≡ true → free at (a ++ b) ≡ true) → (t : Bool) → (t && free at a) ≡ true → (t && free at (a ++ b)) ≡ true
    go f true e = f e
    go f false e = e

digits-free : (at : ℕ) → at < 48 → (l : List ℕ) → all_digits l ≡ true → free at l ≡ true
unfolding all_digits free within
digits-free at h [] e = refl
digits-free at h (b ∷ l) e = go (λ d. digits-free at h l d) (leb 48 b) (leb b 57) refl e
  where
    go : (all_digits l ≡ true → free at l ≡ true) → (x y : Bool) → leb 48 b ≡ x → (x && y && all_digits l) ≡ true → (not (eqb b at) && free at l) ≡ true
    go f true true g d = rw (ne_eqb b at (λ q. omega (arith, leb-true 48 b g)), f d)
    go f true false g d = absurd (false≢true d)
    go f false y g d = absurd (false≢true d)

pub natural-free : (at n : ℕ) → at < 48 → free at (natural n) ≡ true
natural-free at n h = digits-free at h (natural n) (natural-digits n)

pub integer-free : (at : ℕ) (z : ℤ) → at < 45 → free at (integer z) ≡ true
unfolding integer free
integer-free at (pos n) h = natural-free at n (omega arith)
integer-free at (negsuc n) h = rw (ne_eqb 45 at (λ q. omega arith), natural-free at (suc n) (omega arith))

-- ── Lines ──

-- pieces never are none
split-some : (at : ℕ) (t : List ℕ) → ((w : List ℕ) × (ws : List (List ℕ)) × (split at t ≡ w ∷ ws))
unfolding split on_first
split-some at [] = ([], [], refl)
split-some at (b ∷ t) = go (split-some at t) (eqb b at)
  where
    go : ((w : List ℕ) × (ws : List (List ℕ)) × (split at t ≡ w ∷ ws)) → (x : Bool)
        → ((w : List ℕ) × (ws : List (List ℕ)) × (cond x ([] ∷ split at t) (on_first b (split at t)) ≡ w ∷ ws))
    go (w, ws, e) true = ([], split at t, refl)
    go (w, ws, e) false = (b ∷ w, ws, rw e)

-- a text with bytes is not at its end
not-at-end : (at : ℕ) (t : List ℕ) → is_empty t ≡ false → at_end (split at t) ≡ false
unfolding is_empty at_end split on_first
not-at-end at [] h = absurd (false≢true (sym h))
not-at-end at (b ∷ t) h = go (split-some at t) (eqb b at)
  where
    one : (w : List ℕ) (ws : List (List ℕ)) → at_end ((b ∷ w) ∷ ws) ≡ false
    one w [] = refl
    one w (v ∷ ws) = refl

    go : ((w : List ℕ) × (ws : List (List ℕ)) × (split at t ≡ w ∷ ws)) → (x : Bool) → at_end (cond x ([] ∷ split at t) (on_first b (split at t))) ≡ false
    go (w, ws, e) true = rw e
    go (w, ws, e) false = rw e (one w ws)

-- a line above the last is a row
pub read-line : (l t : List ℕ) → free 10 l ≡ true → is_empty t ≡ false → read (l ++ 10 ∷ t) ≡ with_row (read_row (split 32 l)) (read t)
unfolding read read_lines
read-line l t h k = rw (split-first 10 l t h, not-at-end 10 t k)

-- the last line is the total
total-words : (z : ℤ) → split 32 (84 ∷ 111 ∷ 116 ∷ 97 ∷ 108 ∷ 32 ∷ integer z) ≡ (84 ∷ 111 ∷ 116 ∷ 97 ∷ 108 ∷ []) ∷ integer z ∷ []
unfolding free
total-words z = split-first 32 (84 ∷ 111 ∷ 116 ∷ 97 ∷ 108 ∷ []) (integer z) refl ∙ rw (split-last 32 (integer z) (integer-free 32 z (omega arith)))

total-lines : (z : ℤ) → split 10 (84 ∷ 111 ∷ 116 ∷ 97 ∷ 108 ∷ 32 ∷ (integer z ++ 10 ∷ [])) ≡ (84 ∷ 111 ∷ 116 ∷ 97 ∷ 108 ∷ 32 ∷ integer z) ∷ [] ∷ []
unfolding free split
total-lines z = split-first 10 (84 ∷ 111 ∷ 116 ∷ 97 ∷ 108 ∷ 32 ∷ integer z) [] (integer-free 10 z (omega arith))

pub read-total : (z : ℤ) → read (total_line z) ≡ some (record { rows = []; total = z })
unfolding total_line bytes read read_lines at_end is_empty read_total alike
read-total z = rw (total-lines z, total-words z, reads-back.integers z)
