-- The rows that are read from a list: the marked rows in order, each as the table has it, and their sum.
-- Assumes nothing.
use Prim.Native.Nat.{ℕ, zero, suc, ◌+◌, ◌≤◌, ◌<◌}
use borrow.Author.Tests.{eq-eqb, ne_eqb, eqb-true, eqb-false}
use lib.Dec.{eqb}
use lib.IntN.{ℤ, pos, ◌+ℤ◌, +ℤ_idl, +ℤ_idr, +ℤ_assoc}
use lib.ListN.{length, length-append}
use mathlib.Core.Bool.{Bool, true, false, cond}
use mathlib.Core.List.{List, [], ◌∷◌, ◌++◌, append_assoc, append-nil}
use mathlib.Core.Option.{Option, some}
use mathlib.Core.Path.{◌≡◌, refl, sym, ap, ◌∙◌}
use native.Mathlib.Omega.{arith}
use Rattle.decimal.proofs.Reading.{reads-back}
use Rattle.decimal.specs.Decimal.{natural, integer}
use Rattle.digs_spec.proofs.Splitting.{free, split-first, split-last, free-append, natural-free, integer-free, read-line, read-total}
use Rattle.digs_spec.specs.DigList.{row_line, row_lines, total_line}
use Rattle.digs_spec.specs.Meaning.{Ascending, AllStored}
use Rattle.digs_spec.specs.Reading.{split, Dig, Listed, dig_from, read_row, with_row, read, weighed, listed}
use Rattle.rowset.specs.Bytes.{in_row}
use Rattle.rowset.specs.Integers.{signed, total}
use Rattle.rowset.specs.Sets.{sum, count}
use Rattle.stp_words.specs.Bytes.{bytes}
use Rattle.stp_words.specs.Numbers.{is_empty}

-- rows put before those that are read
abbrev with_rows : List Dig → Option Listed → Option Listed
with_rows [] o = o
with_rows (d ∷ ds) o = with_row (some d) (with_rows ds o)

with_rows-append : (a b : List Dig) (o : Option Listed) → with_rows (a ++ b) o ≡ with_rows a (with_rows b o)
with_rows-append [] b o = refl
with_rows-append (d ∷ a) b o = rw (with_rows-append a b o)

with_rows-some : (ds : List Dig) (z : ℤ) → with_rows ds (some (record { rows = []; total = z })) ≡ some (record { rows = ds; total = z })
unfolding with_row
with_rows-some [] z = refl
with_rows-some (d ∷ ds) z = rw (with_rows-some ds z)

empty-append : (a b : List ℕ) → is_empty b ≡ false → is_empty (a ++ b) ≡ false
unfolding is_empty
empty-append [] b h = h
empty-append (x ∷ a) b h = refl

module _ (left right weight : List ℕ) where
  -- row i as it is listed
  abbrev dig_at : ℕ → Dig
  dig_at i = record { position = i; left = in_row 1 left i; right = in_row 1 right i; weight = signed (in_row 4 weight i) }

  -- those of 1 to m that belong to a set
  abbrev pub digs : ℕ → (ℕ → Bool) → List Dig
  digs zero p = []
  digs (suc m) p = digs m p ++ cond (p (suc m)) (dig_at (suc m) ∷ []) []

  -- ── Reading ──

  abbrev body : ℕ → List ℕ
  body i = natural i ++ 32 ∷ (natural (in_row 1 left i) ++ 32 ∷ (natural (in_row 1 right i) ++ 32 ∷ integer (signed (in_row 4 weight i))))

  line-body : (i : ℕ) (t : List ℕ) → row_line left right weight i ++ t ≡ body i ++ 10 ∷ t
  unfolding row_line bytes
  line-body i t = simp append_assoc

  body-free : (i : ℕ) → free 10 (body i) ≡ true
  unfolding free
  body-free i =
      free-append 10 (natural i) _ (natural-free 10 i (omega arith))
      (free-append 10 (natural (in_row 1 left i)) _ (natural-free 10 (in_row 1 left i) (omega arith))
      (free-append 10 (natural (in_row 1 right i)) _ (natural-free 10 (in_row 1 right i) (omega arith)) (integer-free 10 (signed (in_row 4 weight i)) (omega arith))))

  body-words : (i : ℕ) → split 32 (body i) ≡ natural i ∷ natural (in_row 1 left i) ∷ natural (in_row 1 right i) ∷ integer (signed (in_row 4 weight i)) ∷ []
  body-words i =
      rw (
        split-first 32 (natural i) (natural (in_row 1 left i) ++ 32 ∷ (natural (in_row 1 right i) ++ 32 ∷ integer (signed (in_row 4 weight i)))) (natural-free 32 i (omega arith)),
        split-first 32 (natural (in_row 1 left i)) (natural (in_row 1 right i) ++ 32 ∷ integer (signed (in_row 4 weight i))) (natural-free 32 (in_row 1 left i) (omega arith)),
        split-first 32 (natural (in_row 1 right i)) (integer (signed (in_row 4 weight i))) (natural-free 32 (in_row 1 right i) (omega arith)),
        split-last 32 (integer (signed (in_row 4 weight i))) (integer-free 32 (signed (in_row 4 weight i)) (omega arith)),
      )

  body-row : (i : ℕ) → read_row (split 32 (body i)) ≡ some (dig_at i)
  unfolding read_row dig_from
  body-row i =
      rw (
        body-words i,
        reads-back.naturals i,
        reads-back.naturals (in_row 1 left i),
        reads-back.naturals (in_row 1 right i),
        reads-back.integers (signed (in_row 4 weight i)),
      )

  read-row : (i : ℕ) (t : List ℕ) → is_empty t ≡ false → read (row_line left right weight i ++ t) ≡ with_row (some (dig_at i)) (read t)
  read-row i t h = ap read (line-body i t) ∙ read-line (body i) t (body-free i) h ∙ ap (λ o. with_row o (read t)) (body-row i)

  read-rows : (m : ℕ) (p : ℕ → Bool) (t : List ℕ) → is_empty t ≡ false → read (row_lines (row_line left right weight) m p ++ t) ≡ with_rows (digs m p) (read t)
  unfolding row_lines
  read-rows zero p t h = refl
  read-rows (suc m) p t h = go (λ u e. read-rows m p u e) (p (suc m))
    where
      go : ((u : List ℕ) → is_empty u ≡ false → read (row_lines (row_line left right weight) m p ++ u) ≡ with_rows (digs m p) (read u)) → (b : Bool)
          → read ((row_lines (row_line left right weight) m p ++ cond b (row_line left right weight (suc m)) []) ++ t) ≡ with_rows (digs m p ++ cond b (dig_at (suc m) ∷ []) []) (read t)
      go f true =
          ap read (append_assoc (row_lines (row_line left right weight) m p) (row_line left right weight (suc m)) t)
          ∙ f (row_line left right weight (suc m) ++ t) (empty-append (row_line left right weight (suc m)) t h)
          ∙ ap (with_rows (digs m p)) (read-row (suc m) t h)
          ∙ sym (with_rows-append (digs m p) (dig_at (suc m) ∷ []) (read t))
      go f false =
          ap read (append_assoc (row_lines (row_line left right weight) m p) [] t) ∙ f t h ∙ sym (with_rows-append (digs m p) [] (read t))

  total-some : (z : ℤ) → is_empty (total_line z) ≡ false
  unfolding total_line bytes is_empty
  total-some z = refl

  pub read-list : (m : ℕ) (p : ℕ → Bool) (z : ℤ) → read (row_lines (row_line left right weight) m p ++ total_line z) ≡ some (record { rows = digs m p; total = z })
  read-list m p z = read-rows m p (total_line z) (total-some z) ∙ ap (with_rows (digs m p)) (read-total z) ∙ with_rows-some (digs m p) z

  -- ── What the rows are ──

  -- no position is above m
  abbrev Below : ℕ → List Dig → Type 0
  Below m [] = Unit
  Below m (d ∷ ds) = (d.position ≤ m) × Below m ds

  below_more : (m k : ℕ) → m ≤ k → (ds : List Dig) → Below m ds → Below k ds
  below_more m k h [] b = tt
  below_more m k h (d ∷ ds) b = (omega (arith, b.0), below_more m k h ds b.1)

  below-append : (m : ℕ) (a b : List Dig) → Below m a → Below m b → Below m (a ++ b)
  below-append m [] b h k = k
  below-append m (d ∷ a) b h k = (h.0, below-append m a b h.1 k)

  digs-below : (m : ℕ) (p : ℕ → Bool) → Below m (digs m p)
  digs-below zero p = tt
  digs-below (suc m) p =
      below-append (suc m) (digs m p) (cond (p (suc m)) (dig_at (suc m) ∷ []) []) (below_more m (suc m) (omega arith) (digs m p) (digs-below m p)) (one (p (suc m)))
    where
      one : (b : Bool) → Below (suc m) (cond b (dig_at (suc m) ∷ []) [])
      one true = (omega arith, tt)
      one false = tt

  ascending-more : (k m : ℕ) (ds : List Dig) (d : Dig) → k ≤ m → m < d.position → Below m ds → Ascending k ds → Ascending k (ds ++ (d ∷ []))
  unfolding Ascending
  ascending-more k m [] d h l b a = (omega arith, tt)
  ascending-more k m (e ∷ ds) d h l b a = (a.0, ascending-more e.position m ds d b.0 l b.1 a.1)

  pub digs-ascending : (m : ℕ) (p : ℕ → Bool) → Ascending 0 (digs m p)
  unfolding Ascending
  digs-ascending zero p = tt
  digs-ascending (suc m) p = go (digs-ascending m p) (p (suc m))
    where
      go : Ascending 0 (digs m p) → (b : Bool) → Ascending 0 (digs m p ++ cond b (dig_at (suc m) ∷ []) [])
      go a true = ascending-more 0 m (digs m p) (dig_at (suc m)) (omega arith) (omega arith) (digs-below m p) a
      go a false = rw (append-nil (digs m p)) a

  stored-append : (a b : List Dig) → AllStored left right weight a → AllStored left right weight b → AllStored left right weight (a ++ b)
  unfolding AllStored
  stored-append [] b h k = k
  stored-append (d ∷ a) b h k = (h.0, stored-append a b h.1 k)

  pub digs-stored : (m : ℕ) (p : ℕ → Bool) → AllStored left right weight (digs m p)
  unfolding AllStored
  digs-stored zero p = tt
  digs-stored (suc m) p = stored-append (digs m p) (cond (p (suc m)) (dig_at (suc m) ∷ []) []) (digs-stored m p) (one (p (suc m)))
    where
      one : (b : Bool) → AllStored left right weight (cond b (dig_at (suc m) ∷ []) [])
      one true = (record { left_end = refl; right_end = refl; price = refl }, tt)
      one false = tt

  listed-append : (i : ℕ) (a b : List Dig) → listed i (a ++ b) ≡ cond (listed i a) true (listed i b)
  unfolding listed
  listed-append i [] b = refl
  listed-append i (d ∷ a) b = go (listed-append i a b) (eqb d.position i)
    where
      go : listed i (a ++ b) ≡ cond (listed i a) true (listed i b) → (t : Bool) → cond t true (listed i (a ++ b)) ≡ cond (cond t true (listed i a)) true (listed i b)
      go e true = refl
      go e false = e

  -- a position outside 1 to m is not listed
  listed-not : (i m : ℕ) (b : Bool) → (suc m ≡ i → ⊥) → listed i (cond b (dig_at (suc m) ∷ []) []) ≡ false
  unfolding listed
  listed-not i m true n = rw (ne_eqb (suc m) i n)
  listed-not i m false n = refl

  pub listed-outside : (i m : ℕ) (p : ℕ → Bool) → (1 ≤ i → i ≤ m → ⊥) → listed i (digs m p) ≡ false
  unfolding listed
  listed-outside i zero p n = refl
  listed-outside i (suc m) p n =
      listed-append i (digs m p) (cond (p (suc m)) (dig_at (suc m) ∷ []) [])
      ∙ rw (listed-outside i m p (λ a b. n a (omega arith)), listed-not i m (p (suc m)) (λ e. n (omega arith) (omega arith)))

  -- one of 1 to m is listed where it belongs
  pub listed-inside : (i m : ℕ) (p : ℕ → Bool) → 1 ≤ i → i ≤ m → listed i (digs m p) ≡ p i
  unfolding listed
  listed-inside i zero p h k = absurd (omega arith)
  listed-inside i (suc m) p h k =
      listed-append i (digs m p) (cond (p (suc m)) (dig_at (suc m) ∷ []) []) ∙ go (λ l. listed-inside i m p h l) (eqb i (suc m)) refl
    where
      last : (b : Bool) → listed (suc m) (cond b (dig_at (suc m) ∷ []) []) ≡ b
      last true = rw (eq-eqb (suc m) (suc m) refl)
      last false = refl

      same : (b : Bool) → cond b true false ≡ b
      same true = refl
      same false = refl

      go : (i ≤ m → listed i (digs m p) ≡ p i) → (t : Bool) → eqb i (suc m) ≡ t → cond (listed i (digs m p)) true (listed i (cond (p (suc m)) (dig_at (suc m) ∷ []) [])) ≡ p i
      go f true e =
          let q : i ≡ suc m = eqb-true i (suc m) e in
          rw (q, listed-outside (suc m) m p (λ a b. omega arith)) (last (p (suc m)))
      go f false e =
          let q : i ≤ m = omega (arith, eqb-false i (suc m) e) in
          rw (f q, listed-not i m (p (suc m)) (λ x. omega arith)) (same (p i))

  -- ── Their sum and their number ──

  weighed-append : (a b : List Dig) → weighed (a ++ b) ≡ weighed a +ℤ weighed b
  unfolding weighed
  weighed-append [] b = sym (+ℤ_idl (weighed b))
  weighed-append (d ∷ a) b = rw (weighed-append a b) (sym (+ℤ_assoc d.weight (weighed a) (weighed b)))

  pub digs-weighed : (m : ℕ) (p : ℕ → Bool) → weighed (digs m p) ≡ total m (λ i. signed (in_row 4 weight i)) p
  unfolding weighed total
  digs-weighed zero p = refl
  digs-weighed (suc m) p =
      weighed-append (digs m p) (cond (p (suc m)) (dig_at (suc m) ∷ []) []) ∙ rw (digs-weighed m p) (ap (λ z. total m (λ i. signed (in_row 4 weight i)) p +ℤ z) (one (p (suc m))))
    where
      one : (b : Bool) → weighed (cond b (dig_at (suc m) ∷ []) []) ≡ cond b (signed (in_row 4 weight (suc m))) (pos 0)
      one true = +ℤ_idr (signed (in_row 4 weight (suc m)))
      one false = refl

  pub digs-number : (m : ℕ) (p : ℕ → Bool) → length (digs m p) ≡ count m p
  unfolding count sum
  digs-number zero p = refl
  digs-number (suc m) p =
      length-append (digs m p) (cond (p (suc m)) (dig_at (suc m) ∷ []) []) ∙ rw (digs-number m p) (ap (λ k. sum m (λ i. 1) p + k) (one (p (suc m))))
    where
      one : (b : Bool) → length (cond b (dig_at (suc m) ∷ []) []) ≡ cond b 1 0
      one true = refl
      one false = refl
