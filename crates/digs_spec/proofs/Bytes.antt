-- The sixteen bytes and the text of a dig list mean what they should: what is read back is the answer's own, and the text begins with the list of MST1's tree.
-- Assumes nothing.
use Prim.Native.Nat.{ℕ, ◌+◌, ◌*◌, ◌/◌, ◌%◌, ◌≤◌, ◌<◌}
use borrow.Author.Tests.{eqb-true, leb-true, eq-eqb, le-leb}
use lib.Dec.{eqb, leb}
use lib.IntN.{pos}
use lib.ListN.{length, drop}
use lib.Seq.{take-append_seam}
use mathlib.Core.Bool.{Bool, true, false, ◌&&◌}
use mathlib.Core.List.{List, [], ◌∷◌}
use mathlib.Core.Logic.{◌⊎◌, inl, inr}
use mathlib.Core.Option.{some}
use mathlib.Core.Path.{◌≡◌, refl, sym, ap, ◌∙◌, subst}
use native.Mathlib.Omega.{arith}
use Rattle.star_meaning.proofs.Bytes.{TableRefusal, table-refusal, refused-first, turned-away}
use Rattle.star_meaning.proofs.Demand3.{built-accepted, demand3}
use Rattle.star_meaning.specs.Bytes.{TableDeclined}
use Rattle.star_meaning.specs.Demand3.{ClaimTree, LeastClaim, Holds}
use Rattle.digs_spec.proofs.Meaning.{dig-list-holds}
use Rattle.digs_spec.specs.Bytes.{ListedMeans, Lent, DigsCall, DigsDoorMeans}
use Rattle.digs_spec.specs.DigList.{dig_list, ListAnswer, unlisted, listing, built_list, table_list}
use Rattle.digs_spec.specs.Door.{list_fields, lent_both, list_returns, list_answered, with_list, list_text}
use Rattle.digs_spec.specs.Meaning.{SaysTree}
use Rattle.refusal.specs.declared.Refusal.{Refusal}
use Rattle.rowset.proofs.Signed.{natural-bits}
use Rattle.rowset.specs.Bytes.{little}
use Rattle.rowset.specs.Integers.{to_bits}
use Rattle.star_spec.proofs.Accepted.{accepted-means}
use Rattle.star_spec.specs.Accepted.{AcceptedTable}
use Rattle.star_spec.specs.Call.{Call, with_claim}
use Rattle.star_spec.specs.Door.{bytes_of, field_bytes, read_back, well_lent}
use Rattle.star_spec.specs.Mst1.{BuildAnswer, unbuilt, tree_built, built, mst1, mst1_marks}
use Rattle.star_spec.specs.Refusals.{Accepted, table_causes, no_tree, mst1_causes, refusal}

-- ── Reading back ──

eight : (x : ℕ) → x < 65536 → x % 256 + 256 * (x / 256 % 256 + 256 * (x / 256 / 256 % 256 + 256 * (x / 256 / 256 / 256 % 256 + 256 * (x / 256 / 256 / 256 / 256 % 256 + 256 * (x / 256 / 256 / 256 / 256 / 256 % 256 + 256 * (x / 256 / 256 / 256 / 256 / 256 / 256 % 256 + 256 * (x / 256 / 256 / 256 / 256 / 256 / 256 / 256 % 256 + 256 * 0))))))) ≡ x
eight x h = omega arith

list-kind : (text : List ℕ) → (read_back (field_bytes (list_fields (listing text)))).kind ≡ 1
unfolding list_fields field_bytes bytes_of read_back little
list-kind text = refl

list-amount : (text : List ℕ) → length text ≤ 6370 → (read_back (field_bytes (list_fields (listing text)))).amount ≡ pos (length text)
unfolding list_fields field_bytes bytes_of read_back little to_bits
list-amount text h = rw (eight (length text) (omega arith)) (natural-bits 63 (length text) (omega arith))

refused-kind : (r : Refusal) → (read_back (field_bytes (list_fields (unlisted r)))).kind ≡ 0
unfolding list_fields field_bytes bytes_of read_back little
refused-kind r = refl

eleven-told : ((read_back (field_bytes (list_fields (unlisted (record { number = 11; place = 0 }))))).number ≡ 11) × ((read_back (field_bytes (list_fields (unlisted (record { number = 11; place = 0 }))))).out ≡ 0)
unfolding list_fields field_bytes bytes_of read_back little
eleven-told = (refl, refl)

sixteen : (a : ListAnswer) → length (field_bytes (list_fields a)) ≡ 16
unfolding field_bytes bytes_of
sixteen a = refl

pub unlisted-text : (r : Refusal) (text : List ℕ) → with_list (unlisted r) text ≡ text
unfolding with_list
unlisted-text r text = refl

-- ── Accepted tables ──

pub listed-means : (c : Call) → Accepted c → (text : List ℕ) → ListedMeans c (read_back (field_bytes (list_fields (table_list c)))) (with_list (table_list c) text)
unfolding table_list built_list with_list
listed-means c a text = go (mst1 c) refl
  where
    h : Holds c
    h = demand3 c a

    go : (x : BuildAnswer) → mst1 c ≡ x → ListedMeans c (read_back (field_bytes (list_fields (built_list c x)))) (with_list (built_list c x) text)
    go (unbuilt r) e =
        record {
          listed = (λ k. absurd (omega (arith, k, refused-kind r)), λ t. absurd (none-tree t.0 t.1));
          says = λ k. absurd (omega (arith, k, refused-kind r));
          least = λ k. absurd (omega (arith, k, refused-kind r));
          declined = (λ k. none-tree, λ n. refused-kind r);
          number = λ k. rw eleven eleven-told;
        }
      where
        eleven : r ≡ record { number = 11; place = 0 }
        eleven = h.refuses-only r e

        none-tree : (other : List ℕ) → ClaimTree (with_claim c other) → ⊥
        none-tree = h.refuses.0 (e ∙ ap unbuilt eleven)
    go (tree_built w) e =
        record {
          listed = (λ k. (mst1_marks c, least.tree), λ t. list-kind list);
          says = λ k. (length list, list-amount list says.short, subst (SaysTree (with_claim c (mst1_marks c))) (sym (take-append_seam list (drop (length list) text))) says);
          least = λ k. least;
          declined = (λ k. absurd (omega (arith, k, list-kind list)), λ n. absurd (n (mst1_marks c) least.tree));
          number = λ k. absurd (omega (arith, k, list-kind list));
        }
      where
        after : Accepted (with_claim c (mst1_marks c))
        after = built-accepted c a w e

        least : LeastClaim (with_claim c (mst1_marks c))
        least = let (alone, p) = h.builds w e in (demand3 (with_claim c (mst1_marks c)) after).passes.0 (w, alone, p)

        list : List ℕ
        list = dig_list (with_claim c (mst1_marks c))

        says : SaysTree (with_claim c (mst1_marks c)) list
        says = (dig-list-holds (with_claim c (mst1_marks c)) after).every-tree least.tree

-- ── Tables that are refused ──

table-refused : (c : Call) (r : Refusal) → refusal (table_causes c) ≡ some r → table_list c ≡ unlisted r
unfolding table_list built_list mst1 built mst1_causes
table-refused c r e = rw (refused-first c r (no_tree c ∷ []) (table_causes c) e) refl

refused-table : (r : Refusal) → TableRefusal r → TableDeclined (read_back (field_bytes (list_fields (unlisted r))))
unfolding list_fields field_bytes bytes_of read_back little
refused-table r t = record { kind = refl; number = rw (one (small t.number)) t.number; only = refl }
  where
    small : ((1 ≤ r.number) × (r.number ≤ 4)) ⊎ (r.number ≡ 15) → r.number < 256
    small (inl h) = omega (arith, h.1)
    small (inr e) = omega arith

    one : r.number < 256 → r.number % 256 + 256 * 0 ≡ r.number
    one h = omega arith

-- ── The call ──

module _ (text answer : List ℕ) where
  pub lent : Lent text answer → lent_both text answer ≡ true
  unfolding lent_both well_lent
  lent (h, room) = rw (eq-eqb (length answer) 16 h, le-leb 6370 (length text) room)

  pub not-lent : (Lent text answer → ⊥) → lent_both text answer ≡ false
  unfolding lent_both well_lent
  not-lent n = go (eqb (length answer) 16) (leb 6370 (length text)) refl refl
    where
      go : (a b : Bool) → eqb (length answer) 16 ≡ a → leb 6370 (length text) ≡ b → (a && b) ≡ false
      go true true p q = absurd (n (eqb-true (length answer) 16 p, leb-true 6370 (length text) q))
      go true false p q = refl
      go false b p q = refl

pub digs-door-means : DigsDoorMeans
unfolding list_text list_answered list_returns
digs-door-means c text answer =
    record {
      declined = λ n. rw (not-lent text answer n) (refl, refl, refl);
      returns = λ h. rw (lent text answer h) (refl, sixteen (table_list c));
      means = λ h a. rw (lent text answer h) (listed-means c ((accepted-means c).1 a) text);
      refused = λ h n. rw (lent text answer h) (turned n);
    }
  where
    turned : (AcceptedTable c → ⊥) → TableDeclined (read_back (field_bytes (list_fields (table_list c)))) × (with_list (table_list c) text ≡ text)
    turned n = let (r, e) = turned-away c n in rw (table-refused c r e) (refused-table r (table-refusal c r e), unlisted-text r text)

-- a door that returns and leaves what the definitions say is such a call
pub digs-call : {c : Call} {text answer written after : List ℕ} {r : ℕ}
    → (r ≡ list_returns text answer) × ((after ≡ list_answered text answer (list_fields (table_list c))) × (written ≡ list_text (table_list c) text answer))
    → (r ≡ list_returns text answer) × ((after ≡ list_answered text answer (list_fields (table_list c))) × ((written ≡ list_text (table_list c) text answer) × DigsCall c text answer written after r))
digs-call {c} {text} {answer} (p, (q, s)) = (p, (q, (s, rw (p, q, s) (digs-door-means c text answer))))
