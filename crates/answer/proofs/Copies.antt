-- Bytes copied one after the other from one list to another.
-- Assumes nothing.
use Prim.Native.Nat.{ℕ, ◌+◌, ◌≤◌, ◌<◌}
use lib.ListN.{length, take, get_or, set}
use lib.Seq.{take-suc, take-suc-set, take_all}
use mathlib.Core.List.{List, ◌++◌, ◌∷◌, []}
use mathlib.Core.Path.{◌≡◌, sym, ap, ◌∙◌}
use native.Mathlib.Numerals.{add-one}
use native.Mathlib.Omega.{arith}

-- one byte more is copied
pub copy_more : (s d : List ℕ) (i : ℕ) → i < length s → i < length d → take i d ≡ take i s → take (i + 1) (set d i (get_or s i 0)) ≡ take (i + 1) s
copy_more s d i hs hd e = rw add-one (take-suc-set d i (get_or s i 0) hd ∙ ap (λ l. l ++ (get_or s i 0 ∷ [])) e ∙ sym (take-suc s i 0 hs))

-- all is copied
pub copy-all : (s d : List ℕ) (i : ℕ) → length s ≡ length d → length s ≤ i → take i d ≡ take i s → d ≡ s
copy-all s d i h u e = sym (take_all i d (omega arith)) ∙ e ∙ take_all i s u
