-- Claims as bytes and as sets of rows: the claim of a set marks that set, and the exchange of bytes is the exchange of rows.
-- Assumes nothing.
use Prim.Native.Nat.{ℕ, zero, suc, ◌+◌, ◌-◌, ◌≤◌, ◌<◌}
use mathlib.Core.Bool.{Bool, true, false, cond, not, ◌&&◌, ◌||◌, false≢true, and-true, and-false, or-true, or-false}
use mathlib.Core.List.{List}
use mathlib.Core.Logic.{◌≢◌}
use mathlib.Core.Path.{◌≡◌, refl, sym, ap, ◌∙◌, fun_ext, subst}
use borrow.Author.Tests.{eq-eqb, ne_eqb}
use lib.Dec.{eqb, eqb-zero-suc, eqb-suc-suc}
use lib.ListN.{length, get_or, set, length-set, get_or-eq_default}
use lib.Seq.{get_or-set_same, get_or-set_other}
use native.Mathlib.Decide.{ℕ_discrete, dec_le}
use native.Mathlib.Nat.{one-mul, add-zero, zero-add}
use native.Mathlib.Omega.{arith}
use Rattle.graph_theory.specs.Tree.{exchange}
use Rattle.rowset.specs.Bytes.{little, in_row}
use Rattle.rowset.specs.Sets.{put, take_out}
use Rattle.star_spec.specs.Call.{marked, claim_from, claim_of, exchanged}

-- a column of one byte a row
pub in_row-byte : (l : List ℕ) (i : ℕ) → in_row 1 l (suc i) ≡ get_or l i 0
unfolding in_row little
in_row-byte l i = rw (one-mul, add-zero)

pub byte-outside : (l : List ℕ) (i : ℕ) → length l < i → in_row 1 l i ≡ 0
unfolding in_row
byte-outside l zero h = refl
byte-outside l (suc j) h = in_row-byte l j ∙ get_or-eq_default l 0 (omega arith)

pub marked-byte : (l : List ℕ) (j : ℕ) → marked l (suc j) ≡ eqb (get_or l j 0) 1
unfolding marked
marked-byte l j = ap (λ x. eqb x 1) (in_row-byte l j)

pub marked-zero : (l : List ℕ) → marked l 0 ≡ false
unfolding marked in_row
marked-zero l = refl

-- a marked row is a row of the column
pub marked_row : (l : List ℕ) (i : ℕ) → marked l i ≡ true → (1 ≤ i) × (i ≤ length l)
unfolding marked in_row
marked_row l zero e = absurd (false≢true e)
marked_row l (suc j) e = elim (dec_le (suc j) (length l)) [ yes h ↦ (omega arith, h) | no h ↦ absurd (false≢true (ap (λ x. eqb x 1) (sym (byte-outside l (suc j) (omega arith))) ∙ e)) ]

-- the claim of a set: its length and its bytes
claim-length : (S : ℕ → Bool) (i k : ℕ) → length (claim_from S i k) ≡ k
unfolding claim_from
claim-length S i zero = refl
claim-length S i (suc k) = ap suc (claim-length S (suc i) k)

pub claim_of-length : (m : ℕ) (S : ℕ → Bool) → length (claim_of m S) ≡ m
unfolding claim_of
claim_of-length m S = claim-length S 0 m

claim-byte : (S : ℕ → Bool) (i k j : ℕ) → j < k → get_or (claim_from S i k) j 0 ≡ cond (S (suc (i + j))) 1 0
unfolding claim_from
claim-byte S i zero j h = absurd (omega arith)
claim-byte S i (suc k) zero h = rw add-zero
claim-byte S i (suc k) (suc j) h = claim-byte S (suc i) k j (omega arith) ∙ ap (λ x. cond (S (suc x)) 1 0) (omega arith)

claim_of-byte : (m : ℕ) (S : ℕ → Bool) (j : ℕ) → j < m → get_or (claim_of m S) j 0 ≡ cond (S (suc j)) 1 0
unfolding claim_of
claim_of-byte m S j h = claim-byte S 0 m j h ∙ ap (λ x. cond (S (suc x)) 1 0) (zero-add j)

-- the claim of a set of rows marks just that set
pub marked-claim_of : (m : ℕ) (S : ℕ → Bool) → ((i : ℕ) → S i ≡ true → (1 ≤ i) × (i ≤ m)) → marked (claim_of m S) ≡ S
marked-claim_of m S inside = fun_ext at
  where
    outside : (i : ℕ) → ((1 ≤ i) × (i ≤ m) → ⊥) → (b : Bool) → S i ≡ b → S i ≡ false
    outside i h true e = absurd (h (inside i e))
    outside i h false e = e

    bit : (b : Bool) → eqb (cond b 1 0) 1 ≡ b
    bit true = refl
    bit false = refl

    unmarked : (i : ℕ) → ((1 ≤ i) × (i ≤ m) → ⊥) → (b : Bool) → marked (claim_of m S) i ≡ b → marked (claim_of m S) i ≡ false
    unmarked i h true e = absurd (h ((marked_row _ i e).0, subst (λ n. i ≤ n) (claim_of-length m S) (marked_row _ i e).1))
    unmarked i h false e = e

    at : (i : ℕ) → marked (claim_of m S) i ≡ S i
    at zero = unmarked 0 (λ h. omega (arith, h.0)) _ refl ∙ sym (outside 0 (λ h. omega (arith, h.0)) _ refl)
    at (suc j) =
        elim (dec_le (suc j) m) [
          | yes h ↦ marked-byte _ j ∙ ap (λ x. eqb x 1) (claim_of-byte m S j h) ∙ bit (S (suc j))
          | no h ↦ unmarked (suc j) (λ k. h k.1) _ refl ∙ sym (outside (suc j) (λ k. h k.1) _ refl)
        ]

pub claim_of-bytes : (m : ℕ) (S : ℕ → Bool) (i : ℕ) → in_row 1 (claim_of m S) i ≤ 1
unfolding in_row
claim_of-bytes m S zero = omega arith
claim_of-bytes m S (suc j) =
    elim (dec_le (suc j) m) [
      | yes h ↦ rw (in_row-byte (claim_of m S) j, claim_of-byte m S j h) (bit (S (suc j)))
      | no h ↦ rw (byte-outside (claim_of m S) (suc j) (rw claim_of-length (omega arith))) (omega arith)
    ]
  where
    bit : (b : Bool) → cond b 1 0 ≤ 1
    bit true = omega arith
    bit false = omega arith

-- the bytes of an exchanged claim
exchanged-byte : (l : List ℕ) (o f j : ℕ) → o < length l → f < length l → get_or (exchanged l (suc o) (suc f)) j 0 ≡ cond (eqb j f) 1 (cond (eqb j o) 0 (get_or l j 0))
unfolding exchanged
exchanged-byte l o f j ho hf = rw (pred-suc o, pred-suc f) (elim (ℕ_discrete j f) [ yes e ↦ rw (e, eq-eqb f f refl) (get_or-set_same (set l o 0) f 1 0 (rw length-set hf)) | no n ↦ rw (ne_eqb j f n) (get_or-set_other (set l o 0) f j 1 0 n ∙ elim (ℕ_discrete j o) [ yes e ↦ rw (e, eq-eqb o o refl) (get_or-set_same l o 0 0 ho) | no k ↦ rw (ne_eqb j o k) (get_or-set_other l o j 0 0 k) ]) ])
  where
    pred-suc : (x : ℕ) → suc x - 1 ≡ x
    pred-suc x = omega arith

-- the exchange of bytes is the exchange of rows
pub marked-exchanged : (l : List ℕ) (out into : ℕ) → 1 ≤ out → out ≤ length l → 1 ≤ into → into ≤ length l → marked (exchanged l out into) ≡ exchange (marked l) out into
unfolding exchange put take_out
marked-exchanged l zero into lo ho li hi = absurd (omega arith)
marked-exchanged l (suc o) zero lo ho li hi = absurd (omega arith)
marked-exchanged l (suc o) (suc f) lo ho li hi = fun_ext at
  where
    bits : (p q : Bool) (x : ℕ) → eqb (cond p 1 (cond q 0 x)) 1 ≡ (eqb x 1 && not q || p)
    bits true q x = sym (or-true (eqb x 1 && not q))
    bits false true x = rw (and-false (eqb x 1))
    bits false false x = rw (and-true (eqb x 1), or-false (eqb x 1))

    at : (i : ℕ) → marked (exchanged l (suc o) (suc f)) i ≡ (marked l i && not (eqb i (suc o)) || eqb i (suc f))
    at zero = rw (marked-zero (exchanged l (suc o) (suc f)), marked-zero l) (sym (eqb-zero-suc f))
    at (suc j) =
        rw (marked-byte (exchanged l (suc o) (suc f)) j, exchanged-byte l o f j ho hi, marked-byte l j, eqb-suc-suc j o, eqb-suc-suc j f)
        (bits (eqb j f) (eqb j o) (get_or l j 0))

pub exchanged-bytes : (l : List ℕ) (out into : ℕ) → 1 ≤ out → out ≤ length l → 1 ≤ into → into ≤ length l → (i : ℕ) → in_row 1 l i ≤ 1 → in_row 1 (exchanged l out into) i ≤ 1
unfolding in_row
exchanged-bytes l zero into lo ho li hi i h = absurd (omega arith)
exchanged-bytes l (suc o) zero lo ho li hi i h = absurd (omega arith)
exchanged-bytes l (suc o) (suc f) lo ho li hi zero h = omega arith
exchanged-bytes l (suc o) (suc f) lo ho li hi (suc j) h =
    rw (in_row-byte (exchanged l (suc o) (suc f)) j, exchanged-byte l o f j ho hi)
    (bits (eqb j f) (eqb j o) (get_or l j 0) (rw (in_row-byte l j) at h))
  where
    bits : (p q : Bool) (x : ℕ) → x ≤ 1 → cond p 1 (cond q 0 x) ≤ 1
    bits true q x k = omega arith
    bits false true x k = omega arith
    bits false false x k = k
