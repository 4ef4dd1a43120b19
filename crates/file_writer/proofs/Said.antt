-- What the lines that were written say: the number of junctions, and each trench as it was, at the places of the new text.
-- Assumes nothing.
use Prim.Native.Nat.{ℕ, zero, suc, ◌+◌, ◌≤◌, ◌<◌}
use lib.IntN.{ℤ, pos, negsuc}
use lib.ListN.{length}
use lib.Signed.{◌≤ℤ◌}
use mathlib.Core.Bool.{Bool, true, false, not, cond, ◌&&◌, ◌||◌}
use mathlib.Core.List.{List, [], ◌∷◌, ◌++◌, map}
use mathlib.Core.Option.{Option, none, some}
use mathlib.Core.Path.{◌≡◌, refl, sym, ap, ◌∙◌, subst}
use native.Mathlib.Omega.{arith}
use Rattle.decimal.specs.Decimal.{natural, integer}
use Rattle.stp_words.specs.Bytes.{bytes, within, upper}
use Rattle.stp_words.specs.Names.{same}
use Rattle.stp_words.specs.Numbers.{number_of, price_of}
use Rattle.file_spec.specs.Line.{Line, Trench, End, nothing, counting, trench, says, end_of, mark_of, marked, whole, row, fielded, counted, count, said, line_of}
use Rattle.file_spec.specs.Pieces as pieces
use Rattle.file_spec.specs.Pieces.{Piece, fields}
use Rattle.file_spec.specs.Writer.{count_fields, struck_fields, end_bytes, trench_fields}
use Rattle.file_writer.proofs.Cuts.{piece_of}
use Rattle.file_writer.proofs.Fields.{Separator, Plain, AllPlain, placed, written-fields}
use Rattle.file_writer.proofs.Plain.{natural-plain, integer-plain, struck-plain, junctions-plain, left-plain, right-plain, price-plain, mark-plain, number-back, price-back, mark-back, integer-no-price, end-plain, end_back}
use Rattle.file_writer.specs.Forms.{line_by, header_fields}
use Rattle.file_writer.specs.RoundTrip.{GoodEnd, GoodTrench}

-- ── The line of junctions, and the empty line after the last ──

count-said : (at n : ℕ) → n ≤ 4294967295 → said (placed at (bytes "junctions" ∷ natural n ∷ [])) ≡ counting n at
unfolding said placed count counted says bytes same upper within
count-said at n h = rw (number-back n h)

pub count-line : (s : ℕ) → Separator s → (at n : ℕ) → n ≤ 4294967295 → line_of (piece_of at (line_by s (count_fields n))) ≡ counting n at
unfolding line_of count_fields
count-line s p at n h = ap said (written-fields s p at (bytes "junctions") (natural n) [] (junctions-plain s p, (natural-plain s p n, tt))) ∙ count-said at n h

-- the header says nothing
pub header-plain : (s : ℕ) → Separator s → AllPlain s header_fields
unfolding header_fields
header-plain s p = (left-plain s p, (right-plain s p, (price-plain s p, (mark-plain s p, tt))))

header-said : (at : ℕ) → said (placed at (bytes "left" ∷ bytes "right" ∷ bytes "price" ∷ bytes "mark" ∷ [])) ≡ nothing
unfolding said placed fielded row says bytes same upper within
header-said at = refl

pub header-line : (s : ℕ) → Separator s → (at : ℕ) → line_of (piece_of at (line_by s header_fields)) ≡ nothing
unfolding line_of header_fields
header-line s p at = ap said (written-fields s p at (bytes "left") (bytes "right") (bytes "price" ∷ bytes "mark" ∷ []) (header-plain s p)) ∙ header-said at

pub empty-line : (at : ℕ) → line_of (piece_of at []) ≡ nothing
unfolding line_of said fields pieces.fields_by pieces.content pieces.trimmed pieces.before pieces.back_trimmed pieces.front_trimmed pieces.separator pieces.holds pieces.parted pieces.pieces pieces.field pieces.unquoted pieces.opens_quote pieces.full pieces.unless pieces.is_empty pieces.end_trimmed
empty-line at = refl

-- ── A trench ──

module _ (s at : ℕ) (l r : End) (p : ℤ) (m : ℕ) (gl : GoodEnd s l) (gr : GoodEnd s r) (low : negsuc 2147483647 ≤ℤ p) (high : p ≤ℤ pos 2147483647) (binary : m ≤ 1) where
  unstruck-said : same (end_bytes l) (bytes "struck") ≡ false → same (end_bytes l) (bytes "junctions") ≡ false
      → said (placed at (end_bytes l ∷ end_bytes r ∷ integer p ∷ natural m ∷ []))
      ≡ trench (record { struck = false; at = at; left_at = at; left = l; right_at = suc (at + length (end_bytes l)); right = r; price = p; mark = m })
  unfolding said placed fielded row whole marked says
  unstruck-said a b =
      rw (
        a,
        b,
        integer-no-price p,
        end_back s l gl,
        end_back s r gr,
        price-back p low high,
        mark-back (suc (suc (suc (at + length (end_bytes l)) + length (end_bytes r)) + length (integer p))) m binary,
      )

  struck-said : m ≡ 0
      → said (placed at (bytes "struck" ∷ end_bytes l ∷ end_bytes r ∷ integer p ∷ natural m ∷ []))
      ≡ trench
      (record {
        struck = true;
        at = at;
        left_at = suc (at + length (bytes "struck"));
        left = l;
        right_at = suc (suc (at + length (bytes "struck")) + length (end_bytes l));
        right = r;
        price = p;
        mark = m;
      })
  unfolding said placed fielded row whole marked says bytes same upper within
  struck-said z =
      rw (
        end_back s l gl,
        end_back s r gr,
        price-back p low high,
        mark-back (suc (suc (suc (suc (at + 6) + length (end_bytes l)) + length (end_bytes r)) + length (integer p))) m binary,
        z,
      )

-- where the left end begins
unfoldable pub left_place : Bool → ℕ → ℕ
left_place true at = suc (at + length (bytes "struck"))
left_place false at = at

-- the trench as it is read of its line at a place
unfoldable pub placed_trench : ℕ → Trench → Trench
placed_trench at t =
    record {
      struck = t.struck;
      at = at;
      left_at = left_place t.struck at;
      left = t.left;
      right_at = suc (left_place t.struck at + length (end_bytes t.left));
      right = t.right;
      price = t.price;
      mark = t.mark;
    }

module _ (s : ℕ) (p : Separator s) where
  four-plain : (t : Trench) → GoodTrench s t → AllPlain s (end_bytes t.left ∷ end_bytes t.right ∷ integer t.price ∷ natural t.mark ∷ [])
  four-plain t g = (end-plain s p t.left g.left, (end-plain s p t.right g.right, (integer-plain s p t.price, (natural-plain s p t.mark, tt))))

  pub trench-plain : (t : Trench) → GoodTrench s t → AllPlain s (trench_fields t)
  unfolding trench_fields struck_fields
  trench-plain t g = go t.struck
    where
      go : (x : Bool) → AllPlain s (struck_fields x ++ (end_bytes t.left ∷ end_bytes t.right ∷ integer t.price ∷ natural t.mark ∷ []))
      go true = (struck-plain s p, four-plain t g)
      go false = four-plain t g

  pub trench-line : (at : ℕ) (t : Trench) → GoodTrench s t → line_of (piece_of at (line_by s (trench_fields t))) ≡ trench (placed_trench at t)
  unfolding line_of trench_fields placed_trench struck_fields left_place
  trench-line at t g = go t.struck refl
    where
      go : (x : Bool) → t.struck ≡ x
          → said (fields (piece_of at (line_by s (struck_fields x ++ (end_bytes t.left ∷ end_bytes t.right ∷ integer t.price ∷ natural t.mark ∷ [])))))
          ≡ trench
          (record {
            struck = x;
            at = at;
            left_at = left_place x at;
            left = t.left;
            right_at = suc (left_place x at + length (end_bytes t.left));
            right = t.right;
            price = t.price;
            mark = t.mark;
          })
      go true e =
          ap said (written-fields s p at (bytes "struck") (end_bytes t.left) (end_bytes t.right ∷ integer t.price ∷ natural t.mark ∷ []) (struck-plain s p, four-plain t g))
          ∙ struck-said s at t.left t.right t.price t.mark g.left g.right g.price-low g.price-high g.binary (g.unmarked e)
      go false e =
          ap said (written-fields s p at (end_bytes t.left) (end_bytes t.right) (integer t.price ∷ natural t.mark ∷ []) (four-plain t g))
          ∙ unstruck-said s at t.left t.right t.price t.mark g.left g.right g.price-low g.price-high g.binary (g.no-struck e) (g.no-junctions e)
