-- The causes of Promise.antt that concern the table are the ones that a call is refused for: numbers 1 to 4 and 15, in their order. Accepted tables are the same.
-- Assumes nothing.
use Prim.Native.Nat.{ℕ, zero, suc, ◌*◌, ◌-◌, ◌≤◌, ◌<◌}
use borrow.Author.Tests.{ltb-false, le-ltb, eqb-true, eqb-false, eq-eqb, ne_eqb, not-false}
use lib.Dec.{eqb, ltb}
use lib.ListN.{length}
use mathlib.Core.Bool.{Bool, true, false, not, ◌||◌, and-eq-true_iff, false≢true}
use mathlib.Core.List.{List, [], ◌∷◌, ◌++◌}
use mathlib.Core.Option.{Option, none, some}
use mathlib.Core.Path.{◌≡◌, refl, sym, ap, subst}
use native.Mathlib.Omega.{arith}
use Rattle.star_meaning.proofs.Demand3.{apart}
use Rattle.promise.proofs.Trees.{call, row-there, row_here}
use Rattle.promise.specs.Promise as P
use Rattle.refusal.specs.declared.Refusal.{Refusal}
use Rattle.rowset.proofs.Laws.{clash, any_found, any_none, uppermost-none, uppermost-some}
use Rattle.rowset.specs.Bytes.{in_row}
use Rattle.rowset.specs.Sets.{uppermost}
use Rattle.star_spec.proofs.Accepted.{pair_same, same-pair, row-used, used-row}
use Rattle.star_spec.proofs.Claims.{in_row-byte}
use Rattle.star_spec.specs.Accepted.{Row, Vertex, SamePair}
use Rattle.star_spec.specs.Call.{Call, used}
use Rattle.star_spec.specs.Refusals.{max_vertices, cause, cause_at, bad_vertices, too_many_rows, bad_lengths, wrong_ends, wrong_row, bad_ends, bad_row, repeats_above, repeats, repeated_row, table_causes, or_else, refusal}
use Rattle.star_spec.specs.Refusals as Refusals

-- a disjunction that fails, and one of two that fail
or_parts : (a b : Bool) → (a || b) ≡ false → (a ≡ false) × (b ≡ false)
or_parts true b e = absurd (false≢true (sym e))
or_parts false b e = (refl, e)

or-none : {a b : Bool} → a ≡ false → b ≡ false → (a || b) ≡ false
or-none e h = rw (e, h)

same : {x y : ℕ} → not (eqb x y) ≡ false → x ≡ y
same {x} {y} h = eqb-true x y (not-false _ h)

not_same : {x y : ℕ} → x ≡ y → not (eqb x y) ≡ false
not_same {x} {y} e = ap not (eq-eqb x y e)

-- the ends of a row
abbrev Good : ℕ → ℕ → ℕ → Type 0
Good n a b = Vertex n a × Vertex n b × ¬ (a ≡ b)

ends-good : (n a b : ℕ) → wrong_ends n a b ≡ false → Good n a b
ends-good n a b e =
    let (e₄, apart) = or_parts (eqb a 0 || ltb n a || eqb b 0 || ltb n b) (eqb a b) e in
    let (e₃, high) = or_parts (eqb a 0 || ltb n a || eqb b 0) (ltb n b) e₄ in
    let (e₂, low) = or_parts (eqb a 0 || ltb n a) (eqb b 0) e₃ in
    let (none₀, above) = or_parts (eqb a 0) (ltb n a) e₂ in
    ((omega (arith, eqb-false a 0 none₀), ltb-false n a above), (omega (arith, eqb-false b 0 low), ltb-false n b high), eqb-false a b apart)

good-ends : (n a b : ℕ) → Good n a b → wrong_ends n a b ≡ false
good-ends n a b (u, v, apart) =
    or-none (or-none (or-none (or-none (ne_eqb a 0 (λ e. omega (arith, u.0))) (le-ltb _ _ u.1)) (ne_eqb b 0 (λ e. omega (arith, v.0)))) (le-ltb _ _ v.1)) (ne_eqb a b apart)

module _ (t : P.Table) (uses : ℕ → Bool) (agree : (k : ℕ) → k < t.m → uses (suc k) ≡ t.in_use k) (c : List ℕ) where
  abbrev d : Call
  d = call t uses agree c

  -- what a cause that is told says, and what one that is not told does not
  data Told : Option Refusal → ℕ → Type 0 where
    silent : {x : ℕ} → ((q : ℕ) → ¬ P.Cause t c x q) → Told none x
    speaks : {x : ℕ} → (p : ℕ) → P.Cause t c x p → Told (some (record { number = x; place = p })) x

  -- a cause without a place, and one whose place is the uppermost row
  decided : (b : Bool) (x : ℕ) → (b ≡ true → P.Cause t c x 0) → (b ≡ false → (q : ℕ) → ¬ P.Cause t c x q) → Told (cause b x 0) x
  unfolding cause
  decided true x f g = speaks 0 (f refl)
  decided false x f g = silent (g refl)

  at_row : (p : ℕ → Bool) (x : ℕ)
      → ((k : ℕ) → p (suc k) ≡ true → ((j : ℕ) → j < k → p (suc j) ≡ false) → P.Cause t c x (suc k))
      → (((k : ℕ) → k < t.m → p (suc k) ≡ false) → (q : ℕ) → ¬ P.Cause t c x q)
      → Told (cause_at x (uppermost t.m p)) x
  unfolding cause_at
  at_row p x f g = go (uppermost t.m p) refl
    where
      go : (i : ℕ) → uppermost t.m p ≡ i → Told (cause_at x i) x
      go zero e = silent (g (λ k l. uppermost-none t.m p e (suc k) (omega arith) l))
      go (suc j) e =
          let (bad, low, above) = uppermost-some t.m j p e in
          speaks (suc j) (f j bad (λ i l. above (suc i) (omega arith) (omega arith)))

  -- 1
  no-vertices : ((1 ≤ t.n) × (t.n ≤ 255)) → (q : ℕ) → ¬ P.Cause t c 1 q
  no-vertices h q (P.vertices n) = n (omega (arith, h.0), omega (arith, h.1))

  vertices-told : Told (bad_vertices t.n) 1
  unfolding bad_vertices
  vertices-told = decided (eqb t.n 0 || ltb max_vertices t.n) 1 (λ e. P.vertices (λ h. clash e (or-none (ne_eqb t.n 0 (λ z. omega (arith, h.0))) (le-ltb _ _ h.1)))) (λ e. no-vertices (good e))
    where
      good : (eqb t.n 0 || ltb max_vertices t.n) ≡ false → (1 ≤ t.n) × (t.n ≤ 255)
      good e = let (z, h) = or_parts (eqb t.n 0) (ltb max_vertices t.n) e in (omega (arith, eqb-false t.n 0 z), ltb-false max_vertices t.n h)

  -- 2
  no_rows : t.m ≤ 1024 → (q : ℕ) → ¬ P.Cause t c 2 q
  no_rows h q (P.rows n) = n (omega arith)

  rows_told : Told (too_many_rows t.m) 2
  unfolding too_many_rows
  rows_told = decided (ltb 1024 t.m) 2 (λ e. P.rows (λ h. clash e (le-ltb _ _ h))) (λ e. no_rows (ltb-false 1024 t.m e))

  -- 3
  abbrev Lengths : Type 0
  Lengths = (t.whole ≡ true) × (length t.left ≡ t.m) × (length t.right ≡ t.m) × (length t.weights ≡ 4 * t.m) × (length c ≡ t.m)

  no_lengths : Lengths → (q : ℕ) → ¬ P.Cause t c 3 q
  no_lengths h q (P.lengths n) = n h

  lengths-told : Told (bad_lengths d) 3
  unfolding bad_lengths
  lengths-told =
      decided _ 3 (λ e. P.lengths (λ h. clash e (or-none (or-none (or-none (or-none (ap not h.0) (not_same h.1)) (not_same h.2)) (not_same h.4)) (not_same h.3))))
      (λ e. no_lengths (good e))
    where
      good : (not t.whole || not (eqb (length t.left) t.m) || not (eqb (length t.right) t.m) || not (eqb (length c) t.m) || not (eqb (length t.weights) (4 * t.m))) ≡ false → Lengths
      good e =
          let (e₄, weights) = or_parts (not t.whole || not (eqb (length t.left) t.m) || not (eqb (length t.right) t.m) || not (eqb (length c) t.m)) _ e in
          let (e₃, marks) = or_parts (not t.whole || not (eqb (length t.left) t.m) || not (eqb (length t.right) t.m)) _ e₄ in
          let (e₂, right) = or_parts (not t.whole || not (eqb (length t.left) t.m)) _ e₃ in
          let (whole, left) = or_parts (not t.whole) _ e₂ in
          (not-false _ whole, same left, same right, same weights, same marks)

  -- 4
  abbrev Ends : ℕ → Type 0
  Ends i = P.Vertex t (P.at t.left i) × P.Vertex t (P.at t.right i) × ¬ (P.at t.left i ≡ P.at t.right i)

  ends-here : (k : ℕ) → P.Row t k → bad_ends d (suc k) ≡ false → Ends k
  unfolding bad_ends wrong_row
  ends-here k r e = rw (in_row-byte t.left k, in_row-byte t.right k) at (ends-good t.n (in_row 1 t.left (suc k)) (in_row 1 t.right (suc k)) (rw (row-used d (suc k) (row-there t uses agree c k r)) at e))

  ends-bad : (k : ℕ) → bad_ends d (suc k) ≡ true → P.Row t k × ¬ Ends k
  unfolding bad_ends wrong_row
  ends-bad k e =
      let (u, wrong) = (and-eq-true_iff (used d (suc k)) _).0 e in
      (row_here t uses agree c k (used-row d (suc k) u), λ g. clash wrong (good-ends t.n (in_row 1 t.left (suc k)) (in_row 1 t.right (suc k)) (rw (in_row-byte t.left k, in_row-byte t.right k) g)))

  no-ends : ((k : ℕ) → k < t.m → bad_ends d (suc k) ≡ false) → (q : ℕ) → ¬ P.Cause t c 4 q
  no-ends h q (P.ends k (r, bad, above)) = bad (ends-here k r (h k r.0))

  ends-told : Told (bad_row d) 4
  unfolding bad_row
  ends-told = at_row (bad_ends d) 4 (λ k e above. let (r, bad) = ends-bad k e in P.ends k (r, bad, λ j l x. ends-here j x (above j l))) no-ends

  -- 15
  abbrev New : ℕ → Type 0
  New i = (j : ℕ) → j < i → P.Row t j → ¬ P.Same t j i

  pair-there : (j k : ℕ) → P.Same t j k → SamePair t.left t.right (suc j) (suc k)
  pair-there j k s = rw (in_row-byte t.left j, in_row-byte t.left k, in_row-byte t.right j, in_row-byte t.right k) s

  pair-here : (j k : ℕ) → SamePair t.left t.right (suc j) (suc k) → P.Same t j k
  pair-here j k s = rw (in_row-byte t.left j, in_row-byte t.left k, in_row-byte t.right j, in_row-byte t.right k) at s

  new-here : (k : ℕ) → P.Row t k → repeats d (suc k) ≡ false → New k
  unfolding repeats repeats_above
  new-here k r e j l x s =
      clash (rw (row-used d (suc j) (row-there t uses agree c j x), same-pair _ _ _ _ (pair-there j k s)))
      (any_none (suc k - 1) _ (rw (row-used d (suc k) (row-there t uses agree c k r)) at e) (suc j) (omega arith) (omega arith))

  new-bad : (k : ℕ) → repeats d (suc k) ≡ true → P.Row t k × ¬ New k
  unfolding repeats repeats_above
  new-bad k e =
      let (u, some-above) = (and-eq-true_iff (used d (suc k)) _).0 e in
      let (j, first) = any_found (suc k - 1) _ some-above in
      let (here, low, above) = uppermost-some (suc k - 1) j _ first in
      let (x, pair) = (and-eq-true_iff (used d (suc j)) _).0 here in
      (row_here t uses agree c k (used-row d (suc k) u), λ n. n j (omega arith) (row_here t uses agree c j (used-row d (suc j) x)) (pair-here j k (pair_same _ _ _ _ pair)))

  no-repeats : ((k : ℕ) → k < t.m → repeats d (suc k) ≡ false) → (q : ℕ) → ¬ P.Cause t c 15 q
  no-repeats h q (P.repeats k (r, bad, above)) = bad (new-here k r (h k r.0))

  repeats-told : Told (repeated_row d) 15
  unfolding repeated_row
  repeats-told = at_row (repeats d) 15 (λ k e above. let (r, bad) = new-bad k e in P.repeats k (r, bad, λ j l x. new-here j x (above j l))) no-repeats

  -- lists of causes, and the first that applies
  data Tolds : List (Option Refusal) → List ℕ → Type 0 where
    none_left : Tolds [] []
    and_then : {o : Option Refusal} {x : ℕ} {os : List (Option Refusal)} {xs : List ℕ} → Told o x → Tolds os xs → Tolds (o ∷ os) (x ∷ xs)

  here-at : {x p : ℕ} {l : List ℕ} → P.Cause t c x p → (r : Refusal) → ◌≡◌ {A = Option Refusal} (some (record { number = x; place = p })) (some r) → P.First t c (x ∷ l) r.number r.place
  here-at {x} {p} {l} k r e = subst (λ (q : Refusal). P.First t c (x ∷ l) q.number q.place) (told e) (P.here k)
    where
      told : {q : Refusal} → ◌≡◌ {A = Option Refusal} (some q) (some r) → q ≡ r
      told e = cc

  first_some : {os : List (Option Refusal)} {xs : List ℕ} → Tolds os xs → (r : Refusal) → refusal os ≡ some r → (l : List ℕ) → P.First t c (xs ++ l) r.number r.place
  unfolding refusal or_else
  first_some none_left r e l = absurd (apart r (sym e))
  first_some (and_then (silent n) w) r e l = P.later n (first_some w r e l)
  first_some (and_then (speaks p k) w) r e l = here-at k r e

  first-none : {os : List (Option Refusal)} {xs : List ℕ} → Tolds os xs → refusal os ≡ none → {l : List ℕ} {y p : ℕ} → P.First t c l y p → P.First t c (xs ++ l) y p
  unfolding refusal or_else
  first-none none_left e f = f
  first-none (and_then (silent n) w) e f = P.later n (first-none w e f)
  first-none (and_then (speaks p k) w) e f = absurd (apart _ e)

  none_first : {os : List (Option Refusal)} {xs : List ℕ} → Tolds os xs → refusal os ≡ none → (y p : ℕ) → ¬ P.First t c xs y p
  unfolding refusal or_else
  none_first none_left e y p f = elim f [ ]
  none_first (and_then (silent n) w) e y p (P.here k) = n p k
  none_first (and_then (silent n) w) e y p (P.later m f) = none_first w e y p f
  none_first (and_then (speaks q k) w) e y p f = absurd (apart _ e)

  abbrev table_numbers : List ℕ
  table_numbers = 1 ∷ 2 ∷ 3 ∷ 4 ∷ 15 ∷ []

  table-told : Tolds (table_causes d) table_numbers
  unfolding table_causes
  table-told = and_then vertices-told (and_then rows_told (and_then lengths-told (and_then ends-told (and_then repeats-told none_left))))

  -- a refusal of the table is the first cause that applies, whatever causes come after those of the table
  pub turned-first : (r : Refusal) → refusal (table_causes d) ≡ some r → (l : List ℕ) → P.First t c (table_numbers ++ l) r.number r.place
  turned-first = first_some table-told

  pub accepted-first : Refusals.Accepted d → {l : List ℕ} {y p : ℕ} → P.First t c l y p → P.First t c (table_numbers ++ l) y p
  accepted-first = first-none table-told

  -- accepted tables
  pub accepted-here : Refusals.Accepted d → P.Accepted t c
  accepted-here = none_first table-told

  pub accepted-there : P.Accepted t c → Refusals.Accepted d
  accepted-there h = go (refusal (table_causes d)) refl
    where
      go : (o : Option Refusal) → refusal (table_causes d) ≡ o → o ≡ none
      go none e = refl
      go (some r) e = absurd (h _ _ (turned-first r e []))
