-- The unmarked rows taken from the lightest on: the first whose path has a marked row is the one that replaces it (first-of-part). Of the unmarked rows U those of x are left, of the marked rows M those of y have no answer yet.
-- Assumes nothing.
use Prim.Native.Nat.{ℕ, zero, suc, ◌≤◌}
use lib.IntN.{ℤ}
use lib.ListN.{length}
use mathlib.Core.Bool.{Bool, true, false, cond, ◌&&◌, and-eq-true_iff}
use mathlib.Core.List.{List}
use mathlib.Core.Logic.{◌≢◌}
use mathlib.Core.Path.{◌≡◌, refl, sym, ◌∙◌}
use native.Mathlib.Omega.{arith}
use Rattle.detour_spec.specs.Detours.{number_at}
use Rattle.rowset.proofs.Laws.{clash, refuted, take_out-other, take_out-in, any_some, any_found, uppermost-some, uppermost-zero, uppermost-is}
use Rattle.rowset.proofs.Integers.{integers}
use Rattle.rowset.proofs.Members.{both-in, in_both, without_in, in_without}
use Rattle.rowset.proofs.Searches.{smallest-in, smallest-least, in-smallest, smallest-exists}
use Rattle.rowset.specs.Searches.{smallest}
use Rattle.rowset.specs.Sets.{any, both, without, take_out, uppermost}
use Rattle.slice.specs.Slices.{size}
use Rattle.detour.specs.Steps.Machine.{path_in, around_in, replaced_in, next_in, Put}

-- the uppermost lightest row of a set is that of every part that has it
first-of-part : (m : ℕ) (w : ℕ → ℤ) (X A : ℕ → Bool) (j : ℕ) → uppermost m (smallest m w X) ≡ suc j → ((i : ℕ) → A i ≡ true → X i ≡ true) → A (suc j) ≡ true → uppermost m (smallest m w A) ≡ suc j
first-of-part m w X A j q part on =
    let (least, high, above) = uppermost-some m j (smallest m w X) q in
    uppermost-is m j (smallest m w A) high
    (in-smallest m w A (suc j) on (λ k l u h. smallest-least m w X (suc j) k least l u (part k h)))
    (λ i l u. refuted _ (λ s. clash
    (in-smallest m w X i (part i (smallest-in m w A i s)) (λ k lk uk h.
    let first = smallest-least m w A i (suc j) s (omega arith) high on in
    let under = smallest-least m w X (suc j) k least lk uk h in
    omega (arith, integers, first, under)))
    (above i l u)))

module _ (w : ℕ → ℤ) (own left right : List ℕ) (U M : ℕ → Bool) (old : List ℕ) where
  -- on the way
  pub record Visited (x y : ℕ → Bool) (l : List ℕ) : Type 0 where
    pub full : length l ≡ length old
    pub unmarked : (f : ℕ) → x f ≡ true → U f ≡ true
    pub marked : (e : ℕ) → y e ≡ true → M e ≡ true
    pub ahead : (e f : ℕ) → y e ≡ true → U f ≡ true → path_in own left right f e ≡ true → x f ≡ true
    pub waits : (e : ℕ) → y e ≡ true → number_at l e ≡ 0
    pub answered : (e : ℕ) → M e ≡ true → y e ≡ false → number_at l e ≡ replaced_in w own left right U e
    pub others : (i : ℕ) → M i ≡ false → number_at l i ≡ number_at old i

  pub visited-none : ((e : ℕ) → M e ≡ true → number_at old e ≡ 0) → Visited U M old
  visited-none zeros =
      record {
        full = refl;
        unmarked = λ f h. h;
        marked = λ e h. h;
        ahead = λ e f h u p. u;
        waits = zeros;
        answered = λ e h n. clash h n;
        others = λ i h. refl;
      }

  module _ (x y : ℕ → Bool) (l : List ℕ) (v : Visited x y l) where
    -- the next row is a lightest of those that are left
    pub next-lightest : (f j : ℕ) → f ≡ next_in w x y → f ≡ suc j → uppermost size (smallest size w x) ≡ suc j
    unfolding next_in
    next-lightest f j e q = go (any size y) refl
      where
        go : (b : Bool) → any size y ≡ b → uppermost size (smallest size w x) ≡ suc j
        go true h = sym (rw h at e) ∙ q
        go false h = absurd (let z : f ≡ 0 = rw h at e in omega (arith, z, q))

    -- it answers the rows of its path that are open
    pub visited-more : (j : ℕ) → uppermost size (smallest size w x) ≡ suc j → (l' : List ℕ) → Put (both (path_in own left right (suc j)) y) (suc j) l l'
        → Visited (take_out x (suc j)) (without y (both (path_in own left right (suc j)) y)) l'
    unfolding replaced_in around_in
    visited-more j q l' p =
        record {
          full = p.full ∙ v.full;
          unmarked = λ f h. v.unmarked f (take_out-in x (suc j) f h).0;
          marked = λ e h. v.marked e (without_in y hit e h).0;
          ahead = λ e f h u path. take_out-other x (suc j) f (λ z. clash (in_both _ y e (rw z at path) (without_in y hit e h).0) (without_in y hit e h).1) ∙ v.ahead e f (without_in y hit e h).0 u path;
          waits = λ e h. p.numbers e ∙ rw (without_in y hit e h).1 (v.waits e (without_in y hit e h).0);
          answered = answer;
          others = λ i h. p.numbers i ∙ rw (refuted (hit i) (λ t. clash (v.marked i (both-in _ y i t).1) h)) (v.others i h);
        }
      where
        hit : ℕ → Bool
        hit = both (path_in own left right (suc j)) y

        on : x (suc j) ≡ true
        on = smallest-in size w x (suc j) (uppermost-some size j (smallest size w x) q).0

        found : (e : ℕ) → y e ≡ true → path_in own left right (suc j) e ≡ true → uppermost size (smallest size w (λ f. U f && path_in own left right f e)) ≡ suc j
        found e h path =
            first-of-part size w x (λ f. U f && path_in own left right f e) j q
            (λ f t. let (u, r) = (and-eq-true_iff (U f) _).0 t in v.ahead e f h u r)
            (rw (v.unmarked (suc j) on) path)

        answer : (e : ℕ) → M e ≡ true → without y hit e ≡ false → number_at l' e ≡ uppermost size (smallest size w (λ f. U f && path_in own left right f e))
        answer e m h = go (y e) refl (hit e) refl
          where
            go : (b : Bool) → y e ≡ b → (d : Bool) → hit e ≡ d → number_at l' e ≡ uppermost size (smallest size w (λ f. U f && path_in own left right f e))
            go true a true t = p.numbers e ∙ rw t (sym (found e a (both-in _ y e t).0))
            go true a false t = clash (in_without y hit e a t) h
            go false a true t = clash (both-in _ y e t).1 a
            go false a false t = p.numbers e ∙ rw t (v.answered e m a)

    -- where there is no next row every marked row has its answer
    pub visited-all : ((f : ℕ) → U f ≡ true → (1 ≤ f) × (f ≤ size)) → ((e : ℕ) → M e ≡ true → (1 ≤ e) × (e ≤ size)) → next_in w x y ≡ 0 → (i : ℕ) → number_at l i ≡ cond (M i) (replaced_in w own left right U i) (number_at old i)
    unfolding next_in replaced_in around_in
    visited-all inside rows z i = go (M i) refl (y i) refl
      where
        none_left : (e : ℕ) → y e ≡ true → (f : ℕ) → x f ≡ false
        none_left e h f = refuted (x f) (λ t.
            let (lf, uf) = inside f (v.unmarked f t) in
            let (le, ue) = rows e (v.marked e h) in
            let (j, q) = any_found size (smallest size w x) (smallest-exists size w x (any_some size f x lf uf t)) in
            let z' = rw (any_some size e y le ue h) at z in
            omega (arith, z', q))

        go : (b : Bool) → M i ≡ b → (d : Bool) → y i ≡ d → number_at l i ≡ cond (M i) (uppermost size (smallest size w (λ f. U f && path_in own left right f i))) (number_at old i)
        go false m d h = rw m (v.others i m)
        go true m false h = rw m (v.answered i m h)
        go true m true h =
            rw m (v.waits i h ∙ sym (uppermost-zero size _ (λ f lf uf. refuted _ (λ s.
            let (u, r) = (and-eq-true_iff (U f) _).0 (smallest-in size w (λ f. U f && path_in own left right f i) f s) in
            clash (v.ahead i f h u r) (none_left i h f)))))

    -- fewer rows are left
    pub next-left : (j : ℕ) → uppermost size (smallest size w x) ≡ suc j → (x (suc j) ≡ true) × (suc j ≤ size)
    next-left j q = let (least, high, _) = uppermost-some size j (smallest size w x) q in (smallest-in size w x (suc j) least, high)

    -- the same of the next row by itself
    pub next-in : (f : ℕ) → f ≡ next_in w x y → f ≢ 0 → (x f ≡ true) × (f ≤ size)
    next-in zero e n = absurd (n refl)
    next-in (suc j) e n = next-left j (next-lightest (suc j) j e refl)

    pub next-taken : (f : ℕ) → f ≡ next_in w x y → f ≢ 0 → (l' : List ℕ) → Put (both (path_in own left right f) y) f l l' → Visited (take_out x f) (without y (both (path_in own left right f) y)) l'
    next-taken zero e n l' p = absurd (n refl)
    next-taken (suc j) e n l' p = visited-more j (next-lightest (suc j) j e refl) l' p
