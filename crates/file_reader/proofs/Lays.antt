-- Laws of one trench more. Assumes nothing.
use Prim.Native.Nat.{ℕ, suc, ◌+◌, ◌≤◌, ◌<◌}
use borrow.Author.Tests.{eq-eqb, ne_eqb, le-leb, lt-leb, lt-ltb, le-ltb, ltb-true}
use lib.Dec.{eqb, ltb}
use lib.ListN.{length, take, set, get_or, length-append}
use lib.Seq.{length-take-le}
use mathlib.Core.Bool.{Bool, true, false, not, cond, ◌&&◌}
use mathlib.Core.List.{List, [], ◌∷◌, ◌++◌, map-append}
use mathlib.Core.Path.{◌≡◌, refl, sym, ap, ◌∙◌}
use native.Mathlib.Omega.{arith}
use mir.Syntax.{w32}
use mir.Val.{SFits, of_z, bool_byte}
use Rattle.std.proofs.lemmas.Int.{ints}
use lib.IntN.{ℤ, pos, negsuc}
use Rattle.rowset.specs.Integers.{to_bits}
use Rattle.file_spec.specs.Names.{position, met}
use Rattle.file_text.specs.Steps.Spans.{names_of}
use Rattle.file_text.proofs.Meeting.{position-kept, position-met, position-high}
use Rattle.file_spec.specs.Line.{End, number, name, Trench, mixed, many_names, many_rows}
use Rattle.file_spec.specs.Reader.{Read, broken, read, kind_of, met_end, number_in, met_end_at, with_row, names_after, names_at_after, other_kind, laid}
use Rattle.file_reader.specs.Steps.State.{is_one, read_of, Stored, EndMet}
use Rattle.file_reader.specs.declared.Met.{Met}
use Rattle.file_reader.specs.declared.Row.{Row}
use Rattle.file_reader.proofs.Ends.{names-all}

-- the 32 bits of a price
pub price-bits : (z : ℤ) → SFits w32 z → of_z w32 z ≡ to_bits 32 z
unfolding to_bits
price-bits (pos n) f = omega (arith, ints)
price-bits (negsuc n) f = omega (arith, ints)

-- a struck trench as a byte
pub one-struck : (b : Bool) (n : ℕ) → n ≡ bool_byte b → is_one n ≡ b
unfolding is_one
one-struck true n e = rw e
one-struck false n e = rw e

-- a trench, by what is wrong with it
module _ (r : Read) (t : Trench) where
  pub other-kind : (x : Bool) → x ≡ (not (eqb r.kind 0) && not (eqb r.kind (kind_of t.left))) → x ≡ true → laid r t ≡ broken mixed t.left_at
  unfolding laid other_kind
  other-kind x e h = let q = sym e ∙ h in rw q

  module _ (x : Bool) (e : x ≡ (not (eqb r.kind 0) && not (eqb r.kind (kind_of t.left)))) (h : x ≡ false) where
    q1 : other_kind r t.left ≡ false
    unfolding other_kind
    q1 = sym e ∙ h

    pub two-kinds : (kind_of t.left ≡ kind_of t.right → ⊥) → laid r t ≡ broken mixed t.right_at
    unfolding laid
    two-kinds n = rw (q1, ne_eqb (kind_of t.left) (kind_of t.right) n)

    module _ (k : kind_of t.left ≡ kind_of t.right) where
      pub rows-full : 1024 ≤ length r.left → laid r t ≡ broken many_rows t.at
      unfolding laid
      rows-full n = rw (q1, eq-eqb (kind_of t.left) (kind_of t.right) k, le-leb 1024 (length r.left) n)

      module _ (m : length r.left < 1024) where
        pub left-full : 255 < length (met_end t.left r.names) → laid r t ≡ broken many_names t.left_at
        unfolding laid
        left-full n = rw (q1, eq-eqb (kind_of t.left) (kind_of t.right) k, lt-leb 1024 (length r.left) m, lt-ltb 255 (length (met_end t.left r.names)) n)

        module _ (a : length (met_end t.left r.names) ≤ 255) where
          pub right-full : 255 < length (met_end t.right (met_end t.left r.names)) → laid r t ≡ broken many_names t.right_at
          unfolding laid names_after
          right-full n = rw (q1, eq-eqb (kind_of t.left) (kind_of t.right) k, lt-leb 1024 (length r.left) m, le-ltb 255 (length (met_end t.left r.names)) a, lt-ltb 255 (length (met_end t.right (met_end t.left r.names))) n)

          pub one_more : length (met_end t.right (met_end t.left r.names)) ≤ 255 → laid r t ≡ read (with_row r (met_end t.right (met_end t.left r.names)) (met_end_at t.right_at t.right (met_end t.left r.names) (met_end_at t.left_at t.left r.names r.names_at)) t)
          unfolding laid names_after names_at_after
          one_more n = rw (q1, eq-eqb (kind_of t.left) (kind_of t.right) k, lt-leb 1024 (length r.left) m, le-ltb 255 (length (met_end t.left r.names)) a, le-ltb 255 (length (met_end t.right (met_end t.left r.names))) n)

met-in : (w : List ℕ) (ns : List (List ℕ)) → position w (met w ns) < length (met w ns)
unfolding met
met-in w ns = go (ltb (position w ns) (length ns)) refl (position-met w ns)
  where
    go : (x : Bool) → ltb (position w ns) (length ns) ≡ x → position w (cond (ltb (position w ns) (length ns)) ns (ns ++ (w ∷ []))) ≡ position w ns
        → position w (cond (ltb (position w ns) (length ns)) ns (ns ++ (w ∷ []))) < length (cond (ltb (position w ns) (length ns)) ns (ns ++ (w ∷ [])))
    go true e p = rw (p, e) (ltb-true (position w ns) (length ns) e)
    go false e p = rw (p, e) (omega (arith, position-high w ns, length-append ns (w ∷ [])))

-- the left end keeps its number when the right end is met
pub left-kept : (l r : End) (ns : List (List ℕ)) → number_in (met_end r (met_end l ns)) l ≡ number_in (met_end l ns) l
unfolding number_in met_end
left-kept (number v) r ns = refl
left-kept (name w) (number v) ns = refl
left-kept (name w) (name v) ns = ap suc (position-kept w v (met w ns) (met-in w ns))

-- the numbers found after a row
row-five : (text s e l r w m k p s' e' l' r' w' m' k' p' : List ℕ) (f0 f1 f2 f3 f4 a count : ℕ) (ns : List (List ℕ)) (qs : List ℕ) (t : Trench) (x : Row)
    → a ≡ kind_of t.left → names_of text s' e' count ≡ ns → take count s' ≡ qs → Stored l r w m k p l' r' w' m' k' p' f2 x → x.left ≡ number_in ns t.left → x.right ≡ number_in ns t.right
    → x.bits ≡ to_bits 32 t.price → x.mark ≡ t.mark → is_one x.struck ≡ t.struck → x.at ≡ t.at
    → with_row (read_of text (f0 ∷ f1 ∷ f2 ∷ f3 ∷ f4 ∷ []) s e l r w m k p) ns qs t ≡ read_of text (a ∷ count ∷ (f2 + 1) ∷ f3 ∷ f4 ∷ []) s' e' l' r' w' m' k' p'
unfolding with_row read_of
row-five text s e l r w m k p s' e' l' r' w' m' k' p' f0 f1 f2 f3 f4 a count ns qs t x ea en eq st el er eb em es ep =
    rw (ea, en, eq, st.lefts, st.rights, st.weights, st.marks, st.strucks, st.places, el, er, eb, em, map-append is_one (take f2 k) (x.struck ∷ []), es, ep)

pub row_read : (text found s e l r w m k p s' e' l' r' w' m' k' p' : List ℕ) (a count n : ℕ) (ns : List (List ℕ)) (qs : List ℕ) (t : Trench) (x : Row) → length found ≡ 5 → n ≡ get_or found 2 0
    → a ≡ kind_of t.left → names_of text s' e' count ≡ ns → take count s' ≡ qs → Stored l r w m k p l' r' w' m' k' p' n x → x.left ≡ number_in ns t.left → x.right ≡ number_in ns t.right
    → x.bits ≡ to_bits 32 t.price → x.mark ≡ t.mark → is_one x.struck ≡ t.struck → x.at ≡ t.at
    → with_row (read_of text found s e l r w m k p) ns qs t ≡ read_of text (set (set (set found 0 a) 1 count) 2 (n + 1)) s' e' l' r' w' m' k' p'
row_read text [] s e l r w m k p s' e' l' r' w' m' k' p' a count n ns qs t x five rows ea en eq st el er eb em es ep = absurd (omega arith)
row_read text (f0 ∷ []) s e l r w m k p s' e' l' r' w' m' k' p' a count n ns qs t x five rows ea en eq st el er eb em es ep = absurd (omega arith)
row_read text (f0 ∷ f1 ∷ []) s e l r w m k p s' e' l' r' w' m' k' p' a count n ns qs t x five rows ea en eq st el er eb em es ep = absurd (omega arith)
row_read text (f0 ∷ f1 ∷ f2 ∷ []) s e l r w m k p s' e' l' r' w' m' k' p' a count n ns qs t x five rows ea en eq st el er eb em es ep = absurd (omega arith)
row_read text (f0 ∷ f1 ∷ f2 ∷ f3 ∷ []) s e l r w m k p s' e' l' r' w' m' k' p' a count n ns qs t x five rows ea en eq st el er eb em es ep = absurd (omega arith)
row_read text (f0 ∷ f1 ∷ f2 ∷ f3 ∷ f4 ∷ []) s e l r w m k p s' e' l' r' w' m' k' p' a count n ns qs t x five rows ea en eq st el er eb em es ep =
    rw rows (row-five text s e l r w m k p s' e' l' r' w' m' k' p' f0 f1 f2 f3 f4 a count ns qs t x ea en eq (rw rows at st) el er eb em es ep)
row_read text (f0 ∷ f1 ∷ f2 ∷ f3 ∷ f4 ∷ f5 ∷ fs) s e l r w m k p s' e' l' r' w' m' k' p' a count n ns qs t x five rows ea en eq st el er eb em es ep = absurd (omega arith)

pub kinds : (x : Bool) (f k k' : ℕ) → x ≡ (not (eqb f 0) && not (eqb f k)) → k ≡ k' → x ≡ (not (eqb f 0) && not (eqb f k'))
kinds x f k k' e g = e ∙ (rw g)

pub rows-length : (n : ℕ) (l : List ℕ) → length l ≡ 1024 → n ≤ 1024 → length (take n l) ≡ n
rows-length n l e h = length-take-le n l (omega arith)

pub numbers_after : (found : List ℕ) (a b d : ℕ) → length found ≡ 5 → (get_or (set (set (set found 0 a) 1 b) 2 d) 1 0 ≡ b) × (get_or (set (set (set found 0 a) 1 b) 2 d) 2 0 ≡ d)
numbers_after [] a b d h = absurd (omega arith)
numbers_after (f0 ∷ []) a b d h = absurd (omega arith)
numbers_after (f0 ∷ f1 ∷ []) a b d h = absurd (omega arith)
numbers_after (f0 ∷ f1 ∷ f2 ∷ fs) a b d h = (refl, refl)

pub met-few : (text s e : List ℕ) (at : ℕ) (u : End) (ns : List (List ℕ)) (ps : List ℕ) (x : Met) → EndMet text s e at u ns ps x → length (met_end u ns) ≤ 255
met-few text s e at u ns ps x m = rw m.names at (few-of text s e x.count m.few)
  where
    few-of : (text s e : List ℕ) (n : ℕ) → n ≤ 255 → length (names_of text s e n) ≤ 255
    few-of text s e n g = omega (arith, names-all text s e n)

-- both ends met, one after the other
module _ (text s e s₁ e₁ s₂ e₂ : List ℕ) (n i j : ℕ) (u v : End) (x : Met) (m : EndMet text s₁ e₁ i u (names_of text s e n) (take n s) x) where
  pub both-many : 255 < length (met_end v (names_of text s₁ e₁ x.count)) → 255 < length (met_end v (met_end u (names_of text s e n)))
  both-many g = rw m.names at g

  module _ (y : Met) (o : EndMet text s₂ e₂ j v (names_of text s₁ e₁ x.count) (take x.count s₁) y) where
    pub both-few : length (met_end v (met_end u (names_of text s e n))) ≤ 255
    both-few = rw m.names at (met-few text s₂ e₂ j v (names_of text s₁ e₁ x.count) (take x.count s₁) y o)

    pub both-names : names_of text s₂ e₂ y.count ≡ met_end v (met_end u (names_of text s e n))
    both-names = rw m.names at o.names

    pub both-places : take y.count s₂ ≡ met_end_at j v (met_end u (names_of text s e n)) (met_end_at i u (names_of text s e n) (take n s))
    both-places = rw (m.names, m.places-met) at o.places-met

    pub left-number : x.number ≡ number_in (met_end v (met_end u (names_of text s e n))) u
    left-number = sym (left-kept u v (names_of text s e n) ∙ m.number-met)

    pub right-number : y.number ≡ number_in (met_end v (met_end u (names_of text s e n))) v
    right-number = sym (rw m.names at o.number-met)
