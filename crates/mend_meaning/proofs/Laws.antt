-- Laws of the mended claim and of the list of records: their lengths, their bytes, and the records that are read back.
-- Assumes nothing.
use Prim.Native.Nat.{ℕ, zero, suc, ◌+◌, ◌*◌, ◌<◌}
use lib.ListN.{length, get_or, take, drop}
use mathlib.Core.Bool.{Bool, cond}
use mathlib.Core.List.{List, [], ◌∷◌, ◌++◌}
use mathlib.Core.Path.{◌≡◌, refl, ◌∙◌, ap}
use native.Mathlib.Omega.{arith}
use Rattle.mend_record.specs.declared.Record.{Record}
use Rattle.mend_spec.specs.Mend.{redrawn_from}

-- the byte of row i
abbrev pub byte_of : (U S : ℕ → Bool) → ℕ → ℕ → ℕ
byte_of U S i old = cond (U i) (cond (S i) 1 0) old

pub length-redrawn : (U S : ℕ → Bool) (i : ℕ) (l : List ℕ) → length (redrawn_from U S i l) ≡ length l
unfolding redrawn_from
length-redrawn U S i [] = refl
length-redrawn U S i (x ∷ l) = ap suc (length-redrawn U S (suc i) l)

pub get_d-redrawn : (U S : ℕ → Bool) (i : ℕ) (l : List ℕ) (k : ℕ) → k < length l → get_or (redrawn_from U S i l) k 0 ≡ byte_of U S (i + k + 1) (get_or l k 0)
unfolding redrawn_from
get_d-redrawn U S i [] k h = absurd (omega arith)
get_d-redrawn U S i (x ∷ l) zero h = let e : suc i ≡ i + 0 + 1 = omega arith in ap (λ (j : ℕ). byte_of U S j x) e
get_d-redrawn U S i (x ∷ l) (suc k) h =
    let e : suc i + k + 1 ≡ i + suc k + 1 = omega arith in
    get_d-redrawn U S (suc i) l k (omega arith) ∙ ap (λ (j : ℕ). byte_of U S j (get_or l k 0)) e

-- the records written are the first of the list, and those past the last of them are as they were
pub records-back : (rs l : List Record) → take (length rs) (rs ++ l) ≡ rs
records-back [] l = refl
records-back (r ∷ rs) l = ap (λ (t : List Record). r ∷ t) (records-back rs l)

pub records-rest : (rs l : List Record) → drop (length rs) (rs ++ l) ≡ l
records-rest [] l = refl
records-rest (r ∷ rs) l = records-rest rs l
