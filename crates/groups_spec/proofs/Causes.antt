-- The causes in order: those that the checks find one after the other. What is taken, in words (taken-means).
-- Assumes nothing.
use Prim.Native.Nat.{ℕ, ◌≤◌}
use borrow.Author.Tests.{ltb-false, le-ltb, eqb-true, eq-eqb, not-false}
use lib.Dec.{eqb, ltb}
use lib.ListN.{length}
use mathlib.Core.Bool.{Bool, true, false, not, ◌||◌, true≢false}
use mathlib.Core.List.{List, [], ◌∷◌, ◌++◌}
use mathlib.Core.Logic.{◌⊎◌, inl, inr}
use mathlib.Core.Option.{Option, none, some}
use mathlib.Core.Path.{◌≡◌, refl, ap}
use Rattle.graph_theory.proofs.Path.{and-never}
use Rattle.groups_spec.specs.Groups.{bad_columns, groups_causes}
use Rattle.groups_spec.specs.Means.{Taken, TakenMeans}
use Rattle.refusal.specs.declared.Refusal.{Refusal}
use Rattle.rowset.proofs.Laws.{uppermost-none, uppermost-zero}
use Rattle.star_meaning.specs.Demand3.{ZeroOrOne}
use Rattle.star_spec.proofs.Accepted.{none-head, none_tail, none_both, none-nil, cause-none, none-cause, cause_at-none, none-cause_at, used-row, row-used, accepted-means}
use Rattle.star_spec.specs.Call.{Call, rows_of, used}
use Rattle.star_spec.specs.Refusals.{Accepted, bad_vertices, too_many_rows, bad_lengths, bad_row, repeated_row, wrong_byte, bad_claim, table_causes, or_else, refusal}

-- a cause in the middle may be sought beforehand, after those that go before it
in_order : (a b f l x y z : Option Refusal) → or_else (or_else (refusal (a ∷ b ∷ [])) f) (refusal (a ∷ b ∷ l ∷ x ∷ y ∷ z ∷ [])) ≡ refusal (a ∷ b ∷ f ∷ l ∷ x ∷ y ∷ z ∷ [])
unfolding refusal or_else
in_order (some _) b f l x y z = refl
in_order none (some _) f l x y z = refl
in_order none none (some _) l x y z = refl
in_order none none none l x y z = refl

-- the first refusal is one of the table's, or the one in the middle, or the last where the table has none
which-cause : (a b f l x y z : Option Refusal) (r : Refusal) → refusal (a ∷ b ∷ f ∷ l ∷ x ∷ y ∷ z ∷ []) ≡ some r
    → (refusal (a ∷ b ∷ l ∷ x ∷ y ∷ []) ≡ some r) ⊎ ((f ≡ some r) ⊎ ((refusal (a ∷ b ∷ l ∷ x ∷ y ∷ []) ≡ none) × (z ≡ some r)))
unfolding refusal or_else
which-cause (some _) b f l x y z r e = inl e
which-cause none (some _) f l x y z r e = inl e
which-cause none none (some _) l x y z r e = inr (inl e)
which-cause none none none (some _) x y z r e = inl e
which-cause none none none none (some _) y z r e = inl e
which-cause none none none none none (some _) z r e = inl e
which-cause none none none none none none (some _) r e = inr (inr (refl, e))
which-cause none none none none none none none r e = inl e

module _ (c : Call) (G Z : List ℕ) where
  abbrev columns : Option Refusal
  columns = bad_columns c.n (rows_of c) (length G) (length Z)

  pub checks-in-order : or_else (or_else (refusal (bad_vertices c.n ∷ too_many_rows (rows_of c) ∷ [])) (bad_columns c.n (rows_of c) (length G) (length Z))) (refusal (table_causes c ++ (bad_claim c ∷ []))) ≡ refusal (groups_causes c G Z)
  unfolding table_causes groups_causes
  checks-in-order = in_order (bad_vertices c.n) (too_many_rows (rows_of c)) columns (bad_lengths c) (bad_row c) (repeated_row c) (bad_claim c)

  pub which : (r : Refusal) → refusal (groups_causes c G Z) ≡ some r → (refusal (table_causes c) ≡ some r) ⊎ ((bad_columns c.n (rows_of c) (length G) (length Z) ≡ some r) ⊎ (Accepted c × (bad_claim c ≡ some r)))
  unfolding table_causes groups_causes
  which r e = which-cause (bad_vertices c.n) (too_many_rows (rows_of c)) columns (bad_lengths c) (bad_row c) (repeated_row c) (bad_claim c) r e

  none-applies : refusal (groups_causes c G Z) ≡ none → Accepted c × (columns ≡ none) × (bad_claim c ≡ none)
  unfolding table_causes groups_causes
  none-applies e =
      let e₁ = none_tail _ _ e in
      let e₂ = none_tail _ _ e₁ in
      let e₃ = none_tail _ _ e₂ in
      let e₄ = none_tail _ _ e₃ in
      let e₅ = none_tail _ _ e₄ in (
        none_both _ _ (none-head _ _ e) (none_both _ _ (none-head _ _ e₁) (none_both _ _ (none-head _ _ e₃) (none_both _ _ (none-head _ _ e₄) (none_both _ _ (none-head _ _ e₅) none-nil)))),
        none-head _ _ e₂,
        none-head _ _ (none_tail _ _ e₅),
      )

  none_then : Accepted c → columns ≡ none → bad_claim c ≡ none → refusal (groups_causes c G Z) ≡ none
  unfolding table_causes groups_causes
  none_then a f z =
      let a₁ = none_tail _ _ a in
      let a₂ = none_tail _ _ a₁ in
      let a₃ = none_tail _ _ a₂ in
      none_both _ _ (none-head _ _ a) (none_both _ _ (none-head _ _ a₁) (none_both _ _ f (none_both _ _ (none-head _ _ a₂) (none_both _ _ (none-head _ _ a₃) (none_both _ _ (none-head _ _ (none_tail _ _ a₃)) (none_both _ _ z none-nil))))))

neither : (a b : Bool) → (a || b) ≡ false → (a ≡ false) × (b ≡ false)
neither true b e = absurd (true≢false e)
neither false b e = (refl, e)

-- the claim's bytes are 0 and 1 at the rows in use
none-bytes : (c : Call) → bad_claim c ≡ none → ZeroOrOne c
unfolding bad_claim wrong_byte
none-bytes c e i r = ltb-false 1 _ (rw (row-used c i r) at (uppermost-none (rows_of c) (wrong_byte (used c) c.mark) (cause_at-none 6 _ e) i r.0 r.1))

bytes-none : (c : Call) → ZeroOrOne c → bad_claim c ≡ none
unfolding bad_claim wrong_byte
bytes-none c h = none-cause_at 6 (uppermost-zero (rows_of c) (wrong_byte (used c) c.mark) (λ i l u. and-never (used c i) _ (λ e. le-ltb 1 _ (h i (used-row c i e)))))

pub taken-means : TakenMeans
unfolding bad_columns
taken-means c G Z = (there, back)
  where
    there : refusal (groups_causes c G Z) ≡ none → Taken c G Z
    there e =
        let (a, f, z) = none-applies c G Z e in
        let (x, y) = neither (not (eqb (length G) c.n)) (not (eqb (length Z) (rows_of c))) (cause-none _ 3 0 f) in
        record { table = (accepted-means c).0 a; group-bytes = eqb-true _ _ (not-false _ x); ring-bytes = eqb-true _ _ (not-false _ y); zero-or-one = none-bytes c z }

    back : Taken c G Z → refusal (groups_causes c G Z) ≡ none
    back t = none_then c G Z ((accepted-means c).1 t.table) (none-cause _ 3 0 (rw (eq-eqb _ _ t.group-bytes, eq-eqb _ _ t.ring-bytes))) (bytes-none c t.zero-or-one)
