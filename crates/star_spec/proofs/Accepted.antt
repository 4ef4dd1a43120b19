-- What an accepted table gives: a sound graph, and columns of the right lengths; and an accepted table in words, of either kind, plain and working.
-- Assumes nothing.
use Prim.Native.Nat.{ℕ, zero, suc, ◌+◌, ◌*◌, ◌-◌, ◌≤◌, ◌<◌}
use mathlib.Core.Bool.{Bool, true, false, not, ◌&&◌, ◌||◌, and-eq-true_iff, or-true}
use mathlib.Core.List.{List, [], ◌∷◌, ◌++◌}
use mathlib.Core.Logic.{◌⊎◌, inl, inr}
use mathlib.Core.Option.{Option, none, some}
use mathlib.Core.Path.{◌≡◌, refl, sym, ap, ◌∙◌}
use borrow.Author.Tests.{ltb-true, ltb-false, le-ltb, eqb-false, eqb-true, eq-eqb, ne_eqb, not-false}
use lib.Dec.{eqb, ltb}
use lib.ListN.{length}
use native.Mathlib.Omega.{arith}
use Rattle.graph_theory.proofs.Path.{and-never}
use Rattle.graph_theory.specs.Graph.{Sound}
use Rattle.refusal.specs.declared.Refusal.{Refusal}
use Rattle.rowset.specs.Bytes.{in_row}
use Rattle.rowset.specs.Sets.{up_to, any}
use Rattle.rowset.specs.Words.{in_words}
use Rattle.rowset.proofs.Laws.{refuted, clash, both-inside, any_none, none_any, uppermost-none, uppermost-zero, in-up_to, up_to-in}
use Rattle.rowset.proofs.Members.{both-in, in_both}
use Rattle.star_spec.specs.Accepted.{Row, SamePair, GoodRows, AcceptedTable, AcceptedMeans, PlainMeans, PlainRows, WorkingMeans}
use Rattle.star_spec.specs.Call.{Call, call_of, work_of, rows_of, used, graph_of}
use Rattle.star_spec.specs.Refusals.{max_vertices, max_rows, cause, cause_at, bad_vertices, too_many_rows, bad_lengths, wrong_ends, wrong_row, bad_ends, bad_row, same_pair, repeats_above, repeats, repeated_row, table_causes, or_else, refusal, Accepted}

-- a disjunction that fails
or_left : (a b : Bool) → (a || b) ≡ false → a ≡ false
or_left true b e = e
or_left false b e = refl

or_right : (a b : Bool) → (a || b) ≡ false → b ≡ false
or_right true b e = cc
or_right false b e = e

-- the head of a list of causes does not apply, and none of the tail does, where none of the list applies
pub none-head : (x : Option Refusal) (xs : List (Option Refusal)) → refusal (x ∷ xs) ≡ none → x ≡ none
unfolding refusal or_else
none-head none xs e = refl
none-head (some r) xs e = e

pub none_tail : (x : Option Refusal) (xs : List (Option Refusal)) → refusal (x ∷ xs) ≡ none → refusal xs ≡ none
unfolding refusal or_else
none_tail none xs e = e
none_tail (some r) xs e = cc

pub none-cons : (x : Option Refusal) (xs : List (Option Refusal)) → x ≡ none → refusal (x ∷ xs) ≡ refusal xs
unfolding refusal or_else
none-cons none xs e = refl
none-cons (some r) xs e = cc

pub none-nil : refusal [] ≡ none
unfolding refusal
none-nil = refl

pub none_both : (x : Option Refusal) (xs : List (Option Refusal)) → x ≡ none → refusal xs ≡ none → refusal (x ∷ xs) ≡ none
none_both x xs e h = none-cons x xs e ∙ h

-- causes that none applies of may be left out in front
pub refusal-append : (xs ys : List (Option Refusal)) → refusal xs ≡ none → refusal (xs ++ ys) ≡ refusal ys
refusal-append [] ys e = refl
refusal-append (x ∷ xs) ys e = none-cons x (xs ++ ys) (none-head x xs e) ∙ refusal-append xs ys (none_tail x xs e)

pub cause-none : (b : Bool) (k p : ℕ) → cause b k p ≡ none → b ≡ false
unfolding cause
cause-none true k p e = cc
cause-none false k p e = refl

pub none-cause : (b : Bool) (k p : ℕ) → b ≡ false → cause b k p ≡ none
unfolding cause
none-cause true k p e = cc
none-cause false k p e = refl

-- none is no refusal
none-is-some : {r : Refusal} → ◌≡◌ {A = Option Refusal} none (some r) → ⊥
none-is-some e = let z : ◌≡◌ {A = ℕ} 0 1 = cc in omega arith

-- the refusal of a list is its head's, or that of its tail where the head does not apply
pub some-cons : (x : Option Refusal) (xs : List (Option Refusal)) (r : Refusal) → refusal (x ∷ xs) ≡ some r → (x ≡ some r) ⊎ ((x ≡ none) × (refusal xs ≡ some r))
unfolding refusal or_else
some-cons none xs r e = inr (refl, e)
some-cons (some q) xs r e = inl e

pub some-cause : (b : Bool) (k p : ℕ) (r : Refusal) → cause b k p ≡ some r → (b ≡ true) × (record { number = k; place = p } ≡ r)
unfolding cause
some-cause true k p r e = (refl, cc)
some-cause false k p r e = absurd (none-is-some e)

pub some-cause_at : (k i : ℕ) (r : Refusal) → cause_at k i ≡ some r → (j : ℕ) × (i ≡ suc j) × (record { number = k; place = suc j } ≡ r)
unfolding cause_at
some-cause_at k zero r e = absurd (none-is-some e)
some-cause_at k (suc j) r e = (j, refl, cc)

pub none-cause_at : (k : ℕ) {i : ℕ} → i ≡ 0 → cause_at k i ≡ none
unfolding cause_at
none-cause_at k e = ap (cause_at k) e

pub cause_at-none : (k i : ℕ) → cause_at k i ≡ none → i ≡ 0
unfolding cause_at
cause_at-none k zero e = refl
cause_at-none k (suc i) e = cc

-- the same pair of ends, in words and back
pub pair_same : (a b x y : ℕ) → same_pair a b x y ≡ true → ((a ≡ x) × (b ≡ y)) ⊎ ((a ≡ y) × (b ≡ x))
pair_same a b x y e = go (eqb a x && eqb b y) refl e
  where
    equal : (p q r s : ℕ) → (eqb p q && eqb r s) ≡ true → (p ≡ q) × (r ≡ s)
    equal p q r s h =
        let (k, l) = (and-eq-true_iff (eqb p q) (eqb r s)).0 h in
        (eqb-true p q k, eqb-true r s l)

    go : (t : Bool) → (eqb a x && eqb b y) ≡ t → (t || eqb a y && eqb b x) ≡ true → ((a ≡ x) × (b ≡ y)) ⊎ ((a ≡ y) × (b ≡ x))
    go true h k = inl (equal a x b y h)
    go false h k = inr (equal a y b x k)

pub same-pair : (a b x y : ℕ) → ((a ≡ x) × (b ≡ y)) ⊎ ((a ≡ y) × (b ≡ x)) → same_pair a b x y ≡ true
same-pair a b x y (inl (h, k)) = rw (h, k, eq-eqb x x refl, eq-eqb y y refl)
same-pair a b x y (inr (h, k)) = rw (h, k, eq-eqb x x refl, eq-eqb y y refl) (or-true (eqb y x && eqb x y))

-- what acceptance says of a call
pub record Taken (c : Call) : Type 0 where
  pub some-vertex : 1 ≤ c.n
  pub few-vertices : c.n ≤ max_vertices
  pub few-rows : rows_of c ≤ max_rows
  pub whole : c.whole ≡ true
  pub left-length : length c.left ≡ rows_of c
  pub right-length : length c.right ≡ rows_of c
  pub mark-length : length c.mark ≡ rows_of c
  pub weight-length : length c.weight ≡ 4 * rows_of c
  pub good-ends : (i : ℕ) → 1 ≤ i → i ≤ rows_of c → bad_ends c i ≡ false
  pub no-repeat : (i : ℕ) → 1 ≤ i → i ≤ rows_of c → repeats c i ≡ false

pub taken : (c : Call) → Accepted c → Taken c
unfolding table_causes bad_vertices too_many_rows bad_lengths bad_row repeated_row
taken c e =
    record {
      some-vertex = omega (arith, eqb-false c.n 0 (or_left (eqb c.n 0) (ltb max_vertices c.n) vertices));
      few-vertices = ltb-false max_vertices c.n (or_right (eqb c.n 0) (ltb max_vertices c.n) vertices);
      few-rows = ltb-false max_rows (rows_of c) rows;
      whole = not-false _ (or_left whole left lengths₂);
      left-length = same (or_right whole left lengths₂);
      right-length = same (or_right (whole || left) right lengths₃);
      mark-length = same (or_right (whole || left || right) mark lengths₄);
      weight-length = same (or_right (whole || left || right || mark) weight lengths);
      good-ends = uppermost-none (rows_of c) (bad_ends c) (cause_at-none 4 _ (none-head _ _ e₄));
      no-repeat = uppermost-none (rows_of c) (repeats c) (cause_at-none 15 _ (none-head _ _ (none_tail _ _ e₄)));
    }
  where
    vertices : (eqb c.n 0 || ltb max_vertices c.n) ≡ false
    vertices = cause-none _ 1 0 (none-head _ _ e)

    e₂ : refusal (too_many_rows (rows_of c) ∷ bad_lengths c ∷ bad_row c ∷ repeated_row c ∷ []) ≡ none
    e₂ = none_tail _ _ e

    rows : ltb max_rows (rows_of c) ≡ false
    rows = cause-none _ 2 0 (none-head _ _ e₂)

    e₃ : refusal (bad_lengths c ∷ bad_row c ∷ repeated_row c ∷ []) ≡ none
    e₃ = none_tail _ _ e₂

    e₄ : refusal (bad_row c ∷ repeated_row c ∷ []) ≡ none
    e₄ = none_tail _ _ e₃

    whole : Bool
    whole = not c.whole

    left : Bool
    left = not (eqb (length c.left) (rows_of c))

    right : Bool
    right = not (eqb (length c.right) (rows_of c))

    mark : Bool
    mark = not (eqb (length c.mark) (rows_of c))

    weight : Bool
    weight = not (eqb (length c.weight) (4 * rows_of c))

    lengths : (whole || left || right || mark || weight) ≡ false
    lengths = cause-none _ 3 0 (none-head _ _ e₃)

    lengths₄ : (whole || left || right || mark) ≡ false
    lengths₄ = or_left (whole || left || right || mark) weight lengths

    lengths₃ : (whole || left || right) ≡ false
    lengths₃ = or_left (whole || left || right) mark lengths₄

    lengths₂ : (whole || left) ≡ false
    lengths₂ = or_left (whole || left) right lengths₃

    same : {x y : ℕ} → not (eqb x y) ≡ false → x ≡ y
    same {x} {y} h = eqb-true x y (not-false _ h)

-- a row in use, as the set has it and in words
pub used-row : (c : Call) (i : ℕ) → used c i ≡ true → Row c i
unfolding used
used-row c i e =
    let (u, x) = both-in (up_to (rows_of c)) c.in_use i e in
    let (l, h) = up_to-in (rows_of c) i u in
    (l, h, x)

pub row-used : (c : Call) (i : ℕ) → Row c i → used c i ≡ true
unfolding used
row-used c i (l, h, x) = in_both (up_to (rows_of c)) c.in_use i (in-up_to (rows_of c) i l h) x

pub plain_rows : PlainRows
unfolding used
plain_rows n left right weight mark h =
    rw (both-inside 1024 (up_to (length left)) (λ i x. let b = up_to-in (length left) i x in (b.0, omega arith)))
    (both-inside (length left) (up_to (length left)) (up_to-in (length left)))

-- a component that words hold is one of 1,024
words_row : (words : List ℕ) (i : ℕ) → in_words words i ≡ true → (1 ≤ i) × (i ≤ 1024)
unfolding in_words
words_row words i e = up_to-in 1024 i ((and-eq-true_iff (up_to 1024 i) _).0 e).0

-- the rows in use of a working table are those that its words hold
pub used-work : (n : ℕ) (words left right weight mark : List ℕ) → used (work_of n words left right weight mark) ≡ in_words words
unfolding used
used-work n words left right weight mark = both-inside 1024 (in_words words) (words_row words)

-- the graph of an accepted table is sound
pub sound : (c : Call) → Taken c → Sound (graph_of c)
unfolding graph_of bad_ends wrong_row
sound c t =
    record {
      vertex = t.some-vertex;
      position = λ i r. let (l, h, x) = used-row c i r in (l, h);
      left = λ i r. (positive (a i) (or_left (a₀ i) (a₁ i) (ends₂ i r)), ltb-false c.n (a i) (or_right (a₀ i) (a₁ i) (ends₂ i r)));
      right = λ i r. (positive (b i) (or_right (a₀ i || a₁ i) (b₀ i) (ends₃ i r)), ltb-false c.n (b i) (or_right (a₀ i || a₁ i || b₀ i) (b₁ i) (ends₄ i r)));
      apart = λ i r. eqb-false (a i) (b i) (or_right (a₀ i || a₁ i || b₀ i || b₁ i) (eqb (a i) (b i)) (ends i r));
    }
  where
    a : ℕ → ℕ
    a = in_row 1 c.left

    b : ℕ → ℕ
    b = in_row 1 c.right

    a₀ : ℕ → Bool
    a₀ i = eqb (a i) 0

    a₁ : ℕ → Bool
    a₁ i = ltb c.n (a i)

    b₀ : ℕ → Bool
    b₀ i = eqb (b i) 0

    b₁ : ℕ → Bool
    b₁ i = ltb c.n (b i)

    positive : (x : ℕ) → eqb x 0 ≡ false → 1 ≤ x
    positive x e = omega (arith, eqb-false x 0 e)

    ends : (i : ℕ) → used c i ≡ true → (a₀ i || a₁ i || b₀ i || b₁ i || eqb (a i) (b i)) ≡ false
    ends i r =
        let (l, h, x) = used-row c i r in
        rw r at (t.good-ends i l h)

    ends₄ : (i : ℕ) → used c i ≡ true → (a₀ i || a₁ i || b₀ i || b₁ i) ≡ false
    ends₄ i r = or_left (a₀ i || a₁ i || b₀ i || b₁ i) (eqb (a i) (b i)) (ends i r)

    ends₃ : (i : ℕ) → used c i ≡ true → (a₀ i || a₁ i || b₀ i) ≡ false
    ends₃ i r = or_left (a₀ i || a₁ i || b₀ i) (b₁ i) (ends₄ i r)

    ends₂ : (i : ℕ) → used c i ≡ true → (a₀ i || a₁ i) ≡ false
    ends₂ i r = or_left (a₀ i || a₁ i) (b₀ i) (ends₃ i r)

-- a disjunction of two that fail
or-none : {a b : Bool} → a ≡ false → b ≡ false → (a || b) ≡ false
or-none e h = rw (e, h)

-- a row and one above it do not join the same pair
no-pair-above : (c : Call) → Taken c → (i k : ℕ) → Row c k → Row c i → k < i → SamePair c.left c.right k i → ⊥
unfolding repeats repeats_above
no-pair-above c t i k r q l p = clash above (any_none (i - 1) _ none_above k r.0 (omega arith))
  where
    above : (used c k && same_pair (in_row 1 c.left k) (in_row 1 c.right k) (in_row 1 c.left i) (in_row 1 c.right i)) ≡ true
    above = rw (row-used c k r, same-pair _ _ _ _ p)

    none_above : any (i - 1) (λ k. used c k && same_pair (in_row 1 c.left k) (in_row 1 c.right k) (in_row 1 c.left i) (in_row 1 c.right i)) ≡ false
    none_above = rw (row-used c i q) at (t.no-repeat i q.0 q.1)

one-row : (c : Call) → Taken c → (i k : ℕ) → Row c i → Row c k → SamePair c.left c.right i k → i ≡ k
one-row c t i k r q p = go (ltb i k) refl (ltb k i) refl
  where
    back : SamePair c.left c.right i k → SamePair c.left c.right k i
    back (inl (x, y)) = inl (sym x, sym y)
    back (inr (x, y)) = inr (sym y, sym x)

    go : (a : Bool) → ltb i k ≡ a → (b : Bool) → ltb k i ≡ b → i ≡ k
    go true e b f = absurd (no-pair-above c t k i r q (ltb-true i k e) p)
    go false e true f = absurd (no-pair-above c t i k q r (ltb-true k i f) (back p))
    go false e false f = omega (arith, ltb-false i k e, ltb-false k i f)

-- an accepted table in words
in-words : (c : Call) → Taken c → AcceptedTable c
unfolding graph_of
in-words c t =
    record {
      vertices = (t.some-vertex, t.few-vertices);
      rows = t.few-rows;
      whole = t.whole;
      left-length = t.left-length;
      right-length = t.right-length;
      weight-length = t.weight-length;
      mark-length = t.mark-length;
      good-rows =
          record {
            left_end = λ i r. s.left i (row-used c i r);
            right_end = λ i r. s.right i (row-used c i r);
            apart = λ i r. s.apart i (row-used c i r);
            unrepeated = one-row c t;
          };
    }
  where
    s : Sound (graph_of c)
    s = sound c t

-- and back
from-words : (c : Call) → AcceptedTable c → Accepted c
unfolding table_causes bad_vertices too_many_rows bad_lengths bad_row bad_ends wrong_row repeated_row repeats repeats_above
from-words c a =
    none_both _ _ (none-cause _ 1 0 (or-none (positive c.n a.vertices.0) (le-ltb _ _ a.vertices.1)))
    (none_both _ _ (none-cause _ 2 0 (le-ltb _ _ a.rows))
    (none_both _ _ (none-cause _ 3 0 (or-none (or-none (or-none (or-none (ap not a.whole) (same a.left-length)) (same a.right-length)) (same a.mark-length)) (same a.weight-length)))
    (none_both _ _ (none-cause_at 4 (uppermost-zero (rows_of c) (bad_ends c) good))
    (none_both _ _ (none-cause_at 15 (uppermost-zero (rows_of c) (repeats c) single)) none-nil))))
  where
    g : GoodRows c.n c.left c.right (Row c)
    g = a.good-rows

    positive : (x : ℕ) → 1 ≤ x → eqb x 0 ≡ false
    positive x h = ne_eqb x 0 (λ e. omega arith)

    same : {x y : ℕ} → x ≡ y → not (eqb x y) ≡ false
    same {x} {y} e = ap not (eq-eqb x y e)

    ends : (i : ℕ) → used c i ≡ true → wrong_ends c.n (in_row 1 c.left i) (in_row 1 c.right i) ≡ false
    ends i e =
        let r = used-row c i e in
        or-none
        (or-none
        (or-none (or-none (positive _ (g.left_end i r).0) (le-ltb _ _ (g.left_end i r).1)) (positive _ (g.right_end i r).0))
        (le-ltb _ _ (g.right_end i r).1))
        (ne_eqb _ _ (g.apart i r))

    good : (i : ℕ) → 1 ≤ i → i ≤ rows_of c → bad_ends c i ≡ false
    good i l u = and-never (used c i) _ (ends i)

    differs : (i k : ℕ) → used c i ≡ true → 1 ≤ k → k ≤ i - 1 → used c k ≡ true → same_pair (in_row 1 c.left k) (in_row 1 c.right k) (in_row 1 c.left i) (in_row 1 c.right i) ≡ false
    differs i k e l u f = refuted _ (λ p. omega (arith, g.unrepeated k i (used-row c k f) (used-row c i e) (pair_same _ _ _ _ p)))

    single : (i : ℕ) → 1 ≤ i → i ≤ rows_of c → repeats c i ≡ false
    single i l u = and-never (used c i) _ (λ e. none_any (i - 1) _ (λ k a₁ a₂. and-never (used c k) _ (differs i k e a₁ a₂)))

pub accepted-means : AcceptedMeans
accepted-means c = (λ e. in-words c (taken c e), from-words c)

-- rows that are the same rows are good rows of the same columns
same_rows : {n : ℕ} {left right : List ℕ} {P Q : ℕ → Type 0} → ((i : ℕ) → Q i → P i) → GoodRows n left right P → GoodRows n left right Q
same_rows f g =
    record {
      left_end = λ i r. g.left_end i (f i r);
      right_end = λ i r. g.right_end i (f i r);
      apart = λ i r. g.apart i (f i r);
      unrepeated = λ i k r q. g.unrepeated i k (f i r) (f k q);
    }

pub plain-means : PlainMeans
plain-means n left right weight mark = (
  λ a. record {
    vertices = a.vertices;
    rows = a.rows;
    right-length = a.right-length;
    weight-length = a.weight-length;
    mark-length = a.mark-length;
    good-rows = same_rows (λ i r. (r.0, r.1, in_both (up_to 1024) (up_to (length left)) i (in-up_to 1024 i r.0 (omega (arith, a.rows))) (in-up_to (length left) i r.0 r.1))) a.good-rows;
  },
  λ p. record {
    vertices = p.vertices;
    rows = p.rows;
    whole = refl;
    left-length = refl;
    right-length = p.right-length;
    weight-length = p.weight-length;
    mark-length = p.mark-length;
    good-rows = same_rows (λ i r. (r.0, r.1)) p.good-rows;
  },
)

pub working-means : WorkingMeans
working-means n words left right weight mark = (
  λ a. record {
    vertices = a.vertices;
    words-length = eqb-true _ _ a.whole;
    left-length = a.left-length;
    right-length = a.right-length;
    weight-length = a.weight-length;
    mark-length = a.mark-length;
    good-rows = same_rows (λ i r. ((words_row words i r).0, (words_row words i r).1, r)) a.good-rows;
  },
  λ w. record {
    vertices = w.vertices;
    rows = omega arith;
    whole = eq-eqb _ _ w.words-length;
    left-length = w.left-length;
    right-length = w.right-length;
    weight-length = w.weight-length;
    mark-length = w.mark-length;
    good-rows = same_rows (λ i r. r.2) w.good-rows;
  },
)
