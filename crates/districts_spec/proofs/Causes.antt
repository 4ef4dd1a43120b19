-- The causes in order: those that the checks find one after the other, and then that there is no tree. What is taken, in words (taken-means).
-- Assumes nothing.
use Prim.Native.Nat.{ℕ, ◌≤◌}
use borrow.Author.Tests.{ltb-true, ltb-false, lt-ltb, le-ltb, eqb-true, eq-eqb, not-false}
use lib.Dec.{eqb, ltb}
use lib.ListN.{length}
use mathlib.Core.Bool.{Bool, true, false, not, ◌||◌, and-eq-true_iff, true≢false}
use mathlib.Core.List.{List, [], ◌∷◌, ◌++◌}
use mathlib.Core.Option.{Option, none, some}
use mathlib.Core.Path.{◌≡◌, refl, sym, ◌∙◌, ap}
use Rattle.districts_theory.specs.Districts.{rises_to}
use Rattle.refusal.specs.declared.Refusal.{Refusal}
use Rattle.star_spec.proofs.Accepted.{none-head, none_tail, none_both, none-nil, cause-none, none-cause, accepted-means}
use Rattle.star_spec.specs.Call.{Call, rows_of}
use Rattle.star_spec.specs.Refusals.{Accepted, bad_vertices, too_many_rows, bad_lengths, bad_row, repeated_row, table_causes, or_else, refusal}
use Rattle.districts_spec.specs.Districts.{max_ends, bad_forests, bad_runs, no_city, run_causes, district_causes}
use Rattle.districts_spec.specs.Means.{Rises, Taken, TakenMeans}

-- one cause more comes last
refusal-last : (xs : List (Option Refusal)) (b : Option Refusal) → refusal (xs ++ (b ∷ [])) ≡ or_else (refusal xs) b
unfolding refusal or_else
refusal-last [] none = refl
refusal-last [] (some r) = refl
refusal-last (none ∷ xs) b = refusal-last xs b
refusal-last (some r ∷ xs) b = refl

-- a cause in the middle may be sought beforehand, after those that go before it
in_order : (a b f l x y r : Option Refusal) → or_else (or_else (refusal (a ∷ b ∷ [])) f) (or_else (refusal (a ∷ b ∷ l ∷ x ∷ y ∷ [])) r) ≡ refusal (a ∷ b ∷ f ∷ l ∷ x ∷ y ∷ r ∷ [])
unfolding refusal or_else
in_order (some _) b f l x y r = refl
in_order none (some _) f l x y r = refl
in_order none none (some _) l x y r = refl
in_order none none none (some _) x y r = refl
in_order none none none none (some _) y r = refl
in_order none none none none none (some _) r = refl
in_order none none none none none none (some _) = refl
in_order none none none none none none none = refl

module _ (c : Call) (F ends : List ℕ) where
  pub causes-in-order : refusal (district_causes c F ends) ≡ or_else (refusal (run_causes c F ends)) (no_city c ends)
  unfolding district_causes
  causes-in-order = refusal-last (run_causes c F ends) (no_city c ends)

  pub checks-in-order : or_else (or_else (refusal (bad_vertices c.n ∷ too_many_rows (rows_of c) ∷ [])) (bad_forests (rows_of c) F)) (or_else (refusal (table_causes c)) (bad_runs (rows_of c) ends)) ≡ refusal (run_causes c F ends)
  unfolding table_causes run_causes
  checks-in-order = in_order (bad_vertices c.n) (too_many_rows (rows_of c)) (bad_forests (rows_of c) F) (bad_lengths c) (bad_row c) (repeated_row c) (bad_runs (rows_of c) ends)

  -- where no cause applies, none of the table's, of the forests' column and of the ends does
  pub none-applies : refusal (run_causes c F ends) ≡ none → Accepted c × (bad_forests (rows_of c) F ≡ none) × (bad_runs (rows_of c) ends ≡ none)
  unfolding table_causes run_causes
  none-applies e =
      let e₁ = none_tail _ _ e in
      let e₂ = none_tail _ _ e₁ in
      let e₃ = none_tail _ _ e₂ in
      let e₄ = none_tail _ _ e₃ in
      let e₅ = none_tail _ _ e₄ in (
        none_both _ _ (none-head _ _ e) (none_both _ _ (none-head _ _ e₁) (none_both _ _ (none-head _ _ e₃) (none_both _ _ (none-head _ _ e₄) (none_both _ _ (none-head _ _ e₅) none-nil)))),
        none-head _ _ e₂,
        none-head _ _ (none_tail _ _ e₅),
      )

  pub none_then : Accepted c → bad_forests (rows_of c) F ≡ none → bad_runs (rows_of c) ends ≡ none → refusal (run_causes c F ends) ≡ none
  unfolding table_causes run_causes
  none_then a f r =
      let a₁ = none_tail _ _ a in
      let a₂ = none_tail _ _ a₁ in
      let a₃ = none_tail _ _ a₂ in
      none_both _ _ (none-head _ _ a) (none_both _ _ (none-head _ _ a₁) (none_both _ _ f (none_both _ _ (none-head _ _ a₂) (none_both _ _ (none-head _ _ a₃) (none_both _ _ (none-head _ _ (none_tail _ _ a₃)) (none_both _ _ r none-nil))))))

-- the ends that are taken, in words
pub rises-words : (m p : ℕ) (ends : List ℕ) → rises_to m p ends ≡ true → Rises m p ends
unfolding rises_to Rises
rises-words m p [] e = eqb-true p m e
rises-words m p (q ∷ ends) e =
    let (l, h) = (and-eq-true_iff (ltb p q) (rises_to m q ends)).0 e in
    (ltb-true p q l, rises-words m q ends h)

pub words-rise : (m p : ℕ) (ends : List ℕ) → Rises m p ends → rises_to m p ends ≡ true
unfolding rises_to Rises
words-rise m p [] e = eq-eqb p m e
words-rise m p (q ∷ ends) (l, h) = (and-eq-true_iff (ltb p q) (rises_to m q ends)).1 (lt-ltb p q l, words-rise m q ends h)

neither : (a b : Bool) → (a || b) ≡ false → (a ≡ false) × (b ≡ false)
neither true b e = absurd (true≢false e)
neither false b e = (refl, e)

pub taken-means : TakenMeans
unfolding bad_forests bad_runs
taken-means c F ends = (there, back)
  where
    there : refusal (run_causes c F ends) ≡ none → Taken c F ends
    there e =
        let (a, f, r) = none-applies c F ends e in
        let (few, rise) = neither (ltb max_ends (length ends)) (not (rises_to (rows_of c) 0 ends)) (cause-none _ 14 0 r) in
        record {
          table = (accepted-means c).0 a;
          bytes = eqb-true _ _ (not-false _ (cause-none _ 3 0 f));
          few = ltb-false max_ends (length ends) few;
          rising = rises-words (rows_of c) 0 ends (not-false _ rise);
        }

    back : Taken c F ends → refusal (run_causes c F ends) ≡ none
    back t =
        none_then c F ends ((accepted-means c).1 t.table) (none-cause _ 3 0 (ap not (eq-eqb _ _ t.bytes)))
        (none-cause _ 14 0 (rw (le-ltb max_ends (length ends) t.few, words-rise (rows_of c) 0 ends t.rising)))
