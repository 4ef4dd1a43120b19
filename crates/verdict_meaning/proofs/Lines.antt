-- The line of a verdict tells the verdict: two verdicts with the same line are the same.
-- Main statement: line-tells. Assumes nothing.
use Prim.Native.Nat.{ℕ}
use lib.Dec.{eqb}
use lib.IntN.{ℤ, pos, negsuc}
use lib.ListN.{drop, get_or}
use mathlib.Core.Bool.{Bool, true, false, cond, ◌&&◌, ◌||◌}
use mathlib.Core.List.{List, [], ◌∷◌, ◌++◌, append_assoc}
use mathlib.Core.Option.{some}
use mathlib.Core.Path.{◌≡◌, refl, sym, ap, ap₂, ◌∙◌}
use native.Mathlib.Omega.{arith}
use Rattle.decimal.proofs.Reading.{natural-digits, reads-back}
use Rattle.decimal.specs.Decimal.{natural, integer}
use Rattle.decimal.specs.Reading.{read_natural, read_integer}
use Rattle.refusal.specs.declared.Refusal.{Refusal}
use Rattle.rowset.proofs.Laws.{clash}
use Rattle.star_spec.specs.Cst.{Answer, refused, passed, lighter}
use Rattle.stp_words.specs.Bytes.{bytes, within}
use Rattle.stp_words.specs.Numbers.{all_digits}
use Rattle.verdict_spec.specs.VerdictText.{only_word, verdict_line}

-- ── Numbers before a byte that is none of theirs ──

-- a byte of a number: a digit or -
of_number : ℕ → Bool
of_number b = within 48 57 b || eqb b 45

all_of : List ℕ → Bool
all_of [] = true
all_of (b ∷ t) = of_number b && all_of t

-- the bytes of a number at the start of a text, and what follows them
front : List ℕ → List ℕ
front [] = []
front (b ∷ t) = cond (of_number b) (b ∷ front t) []

back : List ℕ → List ℕ
back [] = []
back (b ∷ t) = cond (of_number b) (back t) (b ∷ t)

module _ (x : ℕ) (t : List ℕ) (other : of_number x ≡ false) where
  front_of : (d : List ℕ) → all_of d ≡ true → front (d ++ (x ∷ t)) ≡ d
  unfolding front of_number all_of
  front_of [] e = rw other
  front_of (b ∷ d) e = go (front_of d) (of_number b) refl e
    where
      go : (all_of d ≡ true → front (d ++ (x ∷ t)) ≡ d) → (y : Bool) → of_number b ≡ y → (y && all_of d) ≡ true → cond y (b ∷ front (d ++ (x ∷ t))) [] ≡ b ∷ d
      go f true q e = ap (λ l. b ∷ l) (f e)
      go f false q e = clash e refl

  back-of : (d : List ℕ) → all_of d ≡ true → back (d ++ (x ∷ t)) ≡ x ∷ t
  unfolding back of_number all_of
  back-of [] e = rw other
  back-of (b ∷ d) e = go (back-of d) (of_number b) refl e
    where
      go : (all_of d ≡ true → back (d ++ (x ∷ t)) ≡ x ∷ t) → (y : Bool) → of_number b ≡ y → (y && all_of d) ≡ true → cond y (back (d ++ (x ∷ t))) (b ∷ (d ++ (x ∷ t))) ≡ x ∷ t
      go f true q e = f e
      go f false q e = clash e refl

digits-numbers : (d : List ℕ) → all_digits d ≡ true → all_of d ≡ true
unfolding all_digits all_of of_number within
digits-numbers [] e = refl
digits-numbers (b ∷ d) e = go (digits-numbers d) (within 48 57 b) e
  where
    go : (all_digits d ≡ true → all_of d ≡ true) → (y : Bool) → (y && all_digits d) ≡ true → ((y || eqb b 45) && all_of d) ≡ true
    go f true e = f e
    go f false e = clash e refl

natural-all : (n : ℕ) → all_of (natural n) ≡ true
natural-all n = digits-numbers (natural n) (natural-digits n)

integer-all : (z : ℤ) → all_of (integer z) ≡ true
unfolding integer within all_of of_number
integer-all (pos n) = natural-all n
integer-all (negsuc n) = natural-all _

-- the number tells which it is
some_same : {A : Type 0} {x y : A} → some x ≡ some y → x ≡ y
some_same e = cc

natural-same : (m n : ℕ) → natural m ≡ natural n → m ≡ n
natural-same m n e = some_same (sym (reads-back.naturals m) ∙ ap read_natural e ∙ reads-back.naturals n)

integer-same : (y z : ℤ) → integer y ≡ integer z → y ≡ z
integer-same y z e = some_same (sym (reads-back.integers y) ∙ ap read_integer e ∙ reads-back.integers z)

-- a number and what follows it, read off the whole
module _ (x y : ℕ) (s t : List ℕ) (p : of_number x ≡ false) (q : of_number y ≡ false) where
  natural-parts : (m n : ℕ) → natural m ++ (x ∷ s) ≡ natural n ++ (y ∷ t) → (m ≡ n) × (x ∷ s ≡ y ∷ t)
  natural-parts m n e = (
    natural-same m n (sym (front_of x s p (natural m) (natural-all m)) ∙ ap front e ∙ front_of y t q (natural n) (natural-all n)),
    sym (back-of x s p (natural m) (natural-all m)) ∙ ap back e ∙ back-of y t q (natural n) (natural-all n),
  )

  integer-parts : (m n : ℤ) → integer m ++ (x ∷ s) ≡ integer n ++ (y ∷ t) → (m ≡ n) × (x ∷ s ≡ y ∷ t)
  integer-parts m n e = (
    integer-same m n (sym (front_of x s p (integer m) (integer-all m)) ∙ ap front e ∙ front_of y t q (integer n) (integer-all n)),
    sym (back-of x s p (integer m) (integer-all m)) ∙ ap back e ∙ back-of y t q (integer n) (integer-all n),
  )

-- ── Lines ──

-- the lines after their first word
refused-shape : (r : Refusal) → drop 8 (verdict_line (refused r)) ≡ natural r.number ++ (32 ∷ (natural r.place ++ (10 ∷ [])))
unfolding verdict_line bytes
refused-shape r = simp append_assoc

passed-shape : (z : ℤ) (b : Bool) → drop 7 (verdict_line (passed z b)) ≡ integer z ++ (only_word b ++ (10 ∷ []))
unfolding verdict_line bytes
passed-shape z b = simp append_assoc

cheaper-shape : (out into saving : ℕ) → drop 8 (verdict_line (lighter out into saving))
    ≡ natural saving ++ (32 ∷ 111 ∷ 117 ∷ 116 ∷ 32 ∷ (natural out ++ (32 ∷ 105 ∷ 110 ∷ 32 ∷ (natural into ++ (10 ∷ [])))))
unfolding verdict_line bytes
cheaper-shape out into saving =
    append_assoc (natural saving ++ (32 ∷ 111 ∷ 117 ∷ 116 ∷ 32 ∷ natural out)) (32 ∷ 105 ∷ 110 ∷ 32 ∷ natural into) (10 ∷ [])
    ∙ append_assoc (natural saving) (32 ∷ 111 ∷ 117 ∷ 116 ∷ 32 ∷ natural out) (32 ∷ 105 ∷ 110 ∷ 32 ∷ (natural into ++ (10 ∷ [])))

blank-apart : of_number 32 ≡ false
unfolding within of_number
blank-apart = refl

end-apart : of_number 10 ≡ false
unfolding within of_number
end-apart = refl

refused-tells : (r s : Refusal) → verdict_line (refused r) ≡ verdict_line (refused s) → r ≡ s
refused-tells r s e =
    let (number, rest) = natural-parts 32 32 _ _ blank-apart blank-apart r.number s.number (sym (refused-shape r) ∙ ap (drop 8) e ∙ refused-shape s) in
    let (place, end) = natural-parts 10 10 _ _ end-apart end-apart r.place s.place (ap (drop 1) rest) in
    ap₂ (λ k p. record { number = k; place = p }) number place

passed-tells : (y z : ℤ) (a b : Bool) → verdict_line (passed y a) ≡ verdict_line (passed z b) → (y ≡ z) × (a ≡ b)
unfolding only_word bytes
passed-tells y z true true e = ((integer-parts 32 32 _ _ blank-apart blank-apart y z (sym (passed-shape y true) ∙ ap (drop 7) e ∙ passed-shape z true)).0, refl)
passed-tells y z false false e = ((integer-parts 10 10 _ _ end-apart end-apart y z (sym (passed-shape y false) ∙ ap (drop 7) e ∙ passed-shape z false)).0, refl)
passed-tells y z true false e =
    let k : ◌≡◌ {A = ℕ} 32 10 = ap (λ l. get_or l 0 0) (integer-parts 32 10 _ _ blank-apart end-apart y z (sym (passed-shape y true) ∙ ap (drop 7) e ∙ passed-shape z false)).1 in
    absurd (omega arith)
passed-tells y z false true e =
    let k : ◌≡◌ {A = ℕ} 10 32 = ap (λ l. get_or l 0 0) (integer-parts 10 32 _ _ end-apart blank-apart y z (sym (passed-shape y false) ∙ ap (drop 7) e ∙ passed-shape z true)).1 in
    absurd (omega arith)

cheaper-tells : (o i s o' i' s' : ℕ) → verdict_line (lighter o i s) ≡ verdict_line (lighter o' i' s') → (o ≡ o') × (i ≡ i') × (s ≡ s')
cheaper-tells o i s o' i' s' e =
    let (saving, rest) = natural-parts 32 32 _ _ blank-apart blank-apart s s' (sym (cheaper-shape o i s) ∙ ap (drop 8) e ∙ cheaper-shape o' i' s') in
    let (out, more) = natural-parts 32 32 _ _ blank-apart blank-apart o o' (ap (drop 5) rest) in
    let (into, end) = natural-parts 10 10 _ _ end-apart end-apart i i' (ap (drop 4) more) in
    (out, into, saving)

-- the first byte tells the kind
first_of : Answer → ℕ
first_of (refused r) = 82
first_of (passed z b) = 80
first_of (lighter o i s) = 67

first_byte : (a : Answer) → get_or (verdict_line a) 0 0 ≡ first_of a
unfolding verdict_line bytes first_of
first_byte (refused r) = refl
first_byte (passed z b) = refl
first_byte (lighter o i s) = refl

pub line-tells : (a b : Answer) → verdict_line a ≡ verdict_line b → a ≡ b
unfolding first_of
line-tells a b e = go a b e (sym (first_byte a) ∙ ap (λ l. get_or l 0 0) e ∙ first_byte b)
  where
    go : (a b : Answer) → verdict_line a ≡ verdict_line b → first_of a ≡ first_of b → a ≡ b
    go (refused r) (refused s) e k = ap refused (refused-tells r s e)
    go (refused r) (passed z b) e k = absurd (omega arith)
    go (refused r) (lighter o i s) e k = absurd (omega arith)
    go (passed y a) (refused r) e k = absurd (omega arith)
    go (passed y a) (passed z b) e k = let (p, q) = passed-tells y z a b e in ap₂ passed p q
    go (passed y a) (lighter o i s) e k = absurd (omega arith)
    go (lighter o i s) (refused r) e k = absurd (omega arith)
    go (lighter o i s) (passed z b) e k = absurd (omega arith)
    go (lighter o i s) (lighter o' i' s') e k = let (p, q, r) = cheaper-tells o i s o' i' s' e in rw (p, q, r)
