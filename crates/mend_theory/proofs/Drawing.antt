-- The drawing while it is mended: what holds of it after each position, and what holds of its records (Recorded).
-- Assumes nothing.
use Prim.Native.Nat.{ℕ, zero, suc, ◌≤◌, ◌<◌}
use lib.IntN.{ℤ}
use lib.ListN.{length, length-append}
use mathlib.Core.Bool.{Bool, true, false, cond}
use mathlib.Core.List.Memᴰ
use mathlib.Core.List.{List, [], ◌∷◌, ◌++◌, Memᴰ}
use mathlib.Core.Logic.{◌⊎◌, inl, inr, ⊎_elim}
use mathlib.Core.Path.{◌≡◌, refl, sym, ◌∙◌, ap, subst}
use native.Mathlib.Omega.{arith}
use Rattle.graph_theory.specs.Graph.{Graph}
use Rattle.mend_theory.specs.Mending.{Drawing, apply, apply_all, done, down}
use Rattle.mend_theory.specs.Promise.{Meant, AllMeant, visited_row, Earlier, InOrder}
use Rattle.mend_record.specs.declared.Record.{Record}

-- what holds of both of two values holds of the one that a test gives
pub cond_cases : {A : Type 0} (P : A → Type 0) (b : Bool) {x y : A} → (b ≡ true → P x) → (b ≡ false → P y) → P (cond b x y)
cond_cases P true t f = t refl
cond_cases P false t f = f refl

-- what holds of the drawing before the first position, and after each position if it held before it, holds after k positions
pub down-keeps : (visit : ℕ → Drawing → Drawing) (s : Drawing) (P : ℕ → Drawing → Type 0) → P 0 s → ((k : ℕ) (t : Drawing) → P k t → P (suc k) (visit (suc k) t)) → (k : ℕ) → P k (down visit k s)
unfolding down
down-keeps visit s P base step zero = base
down-keeps visit s P base step (suc k) = step k (down visit k s) (down-keeps visit s P base step k)

-- the records with one more applied are the marks with that one applied
apply_all-one : (S : ℕ → Bool) (l : List Record) (c : Record) → apply_all S (l ++ (c ∷ [])) ≡ apply (apply_all S l) c
unfolding apply_all
apply_all-one S [] c = refl
apply_all-one S (d ∷ l) c = apply_all-one (apply S d) l c

-- the records applied to M give the marks
abbrev pub Applied : (ℕ → Bool) → Drawing → Type 0
Applied M s = apply_all M s.records ≡ s.marks

pub done-applied : (M : ℕ → Bool) (s : Drawing) (c : Record) → Applied M s → Applied M (done s c)
unfolding done
done-applied M s c e = apply_all-one M s.records c ∙ ap (λ (S : ℕ → Bool). apply S c) e

-- one more record
pub done-length : (s : Drawing) (c : Record) → length (done s c).records ≡ suc (length s.records)
unfolding done
done-length s c = omega (arith, length-append s.records (c ∷ []))

-- what holds of each record, and of the one more, holds of each
more-all : (P : Record → Type 0) (l : List Record) (c : Record) → ((d : Record) → Memᴰ d l → P d) → P c → (d : Record) → Memᴰ d (l ++ (c ∷ [])) → P d
more-all P l c h p d m = ⊎_elim (h d) (λ q. subst P (sym (Memᴰ.eq_of_singleton q)) p) (Memᴰ.append_cases l m)

-- one record more after those that are earlier
order-more : (l : List Record) (c : Record) → InOrder l → ((d : Record) → Memᴰ d l → Earlier d c) → InOrder (l ++ (c ∷ []))
unfolding InOrder
order-more [] c o h = (λ d m. absurd (Memᴰ.not-nil m), tt)
order-more (b ∷ l) c o h =
    (more-all (Earlier b) l c o.0 (h b (Memᴰ.head refl)), order-more l c o.1 (λ d m. h d (Memᴰ.tail m)))

module _ (g : Graph) (w : ℕ → ℤ) (M : ℕ → Bool) where
  -- one record more that says what was done to the marks that those before it left
  meant-more : (S : ℕ → Bool) (l : List Record) (c : Record) → AllMeant g w S l → Meant g w (apply_all S l) c → AllMeant g w S (l ++ (c ∷ []))
  unfolding AllMeant apply_all
  meant-more S [] c h m = (m, tt)
  meant-more S (d ∷ l) c h m = (h.0, meant-more (apply S d) l c h.1 m)

  -- a record of a pass before pass p, or of pass p about one of the rows 1 to k
  abbrev By : (p k : ℕ) → Record → Type 0
  By p k c = (c.kind < p) ⊎ ((c.kind ≡ p) × (visited_row c ≤ k))

  -- what holds of the records after the positions 1 to k of pass p
  pub record Recorded (p k : ℕ) (s : Drawing) : Type 0 where
    pub applied : Applied M s
    pub meant : AllMeant g w M s.records
    pub order : InOrder s.records
    pub by : (c : Record) → Memᴰ c s.records → By p k c

  -- nothing is recorded at a position
  pub recorded-on : (p k : ℕ) (s : Drawing) → Recorded p k s → Recorded p (suc k) s
  recorded-on p k s h =
      record {
        applied = h.applied;
        meant = h.meant;
        order = h.order;
        by = λ c m. ⊎_elim inl (λ (e, l). inr (e, omega arith)) (h.by c m);
      }

  -- the next pass begins
  pub recorded-next : (p k : ℕ) (s : Drawing) → Recorded p k s → Recorded (suc p) 0 s
  recorded-next p k s h =
      record {
        applied = h.applied;
        meant = h.meant;
        order = h.order;
        by = λ c m. inl (⊎_elim (λ l. omega arith) (λ (e, l). omega arith) (h.by c m));
      }

  -- one record more, at the next position
  pub recorded-done : (p k : ℕ) (s : Drawing) (c : Record) → Recorded p k s → c.kind ≡ p → visited_row c ≡ suc k → Meant g w s.marks c → Recorded p (suc k) (done s c)
  unfolding done
  recorded-done p k s c h e v m =
      record {
        applied = done-applied M s c h.applied;
        meant = meant-more M s.records c h.meant (subst (λ (S : ℕ → Bool). Meant g w S c) (sym h.applied) m);
        order = order-more s.records c h.order (λ d n. ⊎_elim (λ l. inl (omega arith)) (λ (q, l). inr (omega arith, omega arith)) (h.by d n));
        by = more-all (By p (suc k)) s.records c (λ d n. ⊎_elim inl (λ (q, l). inr (q, omega arith)) (h.by d n)) (inr (e, omega arith));
      }
