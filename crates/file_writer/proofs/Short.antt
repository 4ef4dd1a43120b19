-- How long a written text can be. Main statement: longest-text.
-- Assumes nothing.
use Prim.Native.Nat.{ℕ, zero, suc, ◌+◌, ◌*◌, ◌-◌, ◌^◌, ◌≤◌, ◌<◌}
use lib.IntN.{ℤ, pos, negsuc}
use lib.ListN.{length, get_or, get_elem?, length-append}
use lib.Signed.{◌≤ℤ◌}
use mathlib.Core.Bool.{Bool, true, false}
use mathlib.Core.List.{List, [], ◌∷◌, ◌++◌}
use mathlib.Core.Option.{some}
use mathlib.Core.Path.{◌≡◌, refl, sym, ap, ◌∙◌, subst}
use native.Mathlib.Nat.{suc-mul}
use native.Mathlib.Omega.{arith}
use Rattle.decimal.proofs.Laws.{natural-length}
use Rattle.decimal.specs.Decimal.{natural, integer}
use Rattle.file_meaning.specs.Means.{EndOf, here-left, here-right, later}
use Rattle.file_spec.specs.Line.{Trench, End}
use Rattle.file_spec.specs.Writer.{count_fields, struck_fields, end_bytes, trench_fields, trenches_fields}
use Rattle.rowset.proofs.Integers.{up, down, le_parts}
use Rattle.stp_words.specs.Bytes.{bytes}
use Rattle.file_writer.proofs.Back.{AllGood, all-good}
use Rattle.file_writer.specs.Columns.{room, LongestText}
use Rattle.file_writer.specs.Forms.{line_by, lines_by, header_fields, text_by}
use Rattle.file_writer.specs.RoundTrip.{GoodTrench, Writable}

price-short : (z : ℤ) → negsuc 2147483647 ≤ℤ z → z ≤ℤ pos 2147483647 → length (integer z) ≤ 11
unfolding integer up down
price-short (pos n) h g = omega (arith, natural-length 9 n (omega (arith, le_parts g)))
price-short (negsuc n) h g = omega (arith, natural-length 9 (suc n) (omega (arith, le_parts h)))

four : (s : ℕ) (a b c d : List ℕ) → length (line_by s (a ∷ b ∷ c ∷ d ∷ [])) ≡ length a + length b + length c + length d + 3
unfolding line_by
four s a b c d = simp length-append (omega arith)

line-short : (s longest : ℕ) (t : Trench) → GoodTrench s t → length (end_bytes t.left) ≤ longest → length (end_bytes t.right) ≤ longest → length (line_by s (trench_fields t)) ≤ 22 + 2 * longest
unfolding trench_fields struck_fields bytes line_by
line-short s longest t g h k = go t.struck (price-short t.price g.price-low g.price-high) (natural-length 0 t.mark (omega (arith, g.binary))) (four s (end_bytes t.left) (end_bytes t.right) (integer t.price) (natural t.mark))
  where
    go : (x : Bool) → length (integer t.price) ≤ 11 → length (natural t.mark) ≤ 1
        → length (line_by s (end_bytes t.left ∷ end_bytes t.right ∷ integer t.price ∷ natural t.mark ∷ [])) ≡ length (end_bytes t.left) + length (end_bytes t.right) + length (integer t.price) + length (natural t.mark) + 3
        → length (line_by s (struck_fields x ++ (end_bytes t.left ∷ end_bytes t.right ∷ integer t.price ∷ natural t.mark ∷ []))) ≤ 22 + 2 * longest
    go true p m f = omega (arith, p, m, f, h, k)
    go false p m f = omega (arith, p, m, f, h, k)

lines-short : (s longest : ℕ) (ts : List Trench) → AllGood s ts → ((e : End) → EndOf ts e → length (end_bytes e) ≤ longest) → length (lines_by s (trenches_fields ts)) ≤ length ts * (23 + 2 * longest)
unfolding lines_by trenches_fields
lines-short s longest [] g f = omega arith
lines-short s longest (t ∷ ts) g f =
    let l = line-short s longest t g.0 (f t.left here-left) (f t.right here-right) in
    let r = lines-short s longest ts g.1 (λ e h. f e (later h)) in
    omega (arith, l, r, length-append (line_by s (trench_fields t)) (10 ∷ lines_by s (trenches_fields ts)), suc-mul (length ts) (23 + 2 * longest))

count-short : (s n : ℕ) → n ≤ 4294967295 → length (line_by s (count_fields n)) ≤ 20
unfolding count_fields line_by bytes
count-short s n h = omega (arith, natural-length 9 n (omega arith))

header-short : (s : ℕ) (rest : List ℕ) → length (line_by s header_fields ++ (10 ∷ rest)) ≡ 22 + length rest
unfolding header_fields line_by bytes
header-short s rest = omega arith

below-short : (s n longest : ℕ) (ts : List Trench) → Writable s n ts → ((e : End) → EndOf ts e → length (end_bytes e) ≤ longest)
    → length (lines_by s (count_fields n ∷ trenches_fields ts)) ≤ 21 + length ts * (23 + 2 * longest)
unfolding lines_by
below-short s n longest ts w f =
    omega (
      arith,
      length-append (line_by s (count_fields n)) (10 ∷ lines_by s (trenches_fields ts)),
      count-short s n w.few-junctions,
      lines-short s longest ts (all-good s ts w.good) f,
    )

pub longest-text : LongestText
unfolding room text_by lines_by
longest-text true s n longest ts w l f = omega (arith, header-short s (lines_by s (count_fields n ∷ trenches_fields ts)), below-short s n longest ts w f)
longest-text false s n longest ts w l f = omega (arith, below-short s n longest ts w f)
