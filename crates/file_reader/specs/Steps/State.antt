-- What the reader's numbers and columns stand for.
-- Assumes nothing.
use Rattle.std.specs.Prelude.{ℕ, ◌+◌, ◌*◌, ◌≤◌, Bool, cond, List, [], ◌∷◌, ◌++◌, map, ◌≡◌, eqb, length, take, get_or, Result, Ok, Err, ⊤}
use Rattle.std.proofs.Math.Option.{Option, none, some}
use Rattle.file_text.specs.Steps.Spans.{names_of, Within}
use Rattle.file_spec.specs.Line.{End}
use Rattle.file_spec.specs.Reader.{Read, Reading, broken, read, met_end, met_end_at, number_in}
use Rattle.file_line.specs.declared.ReadError.{ReadError}
use Rattle.file_reader.specs.declared.Met.{Met}
use Rattle.file_reader.specs.declared.Row.{Row}
use Rattle.star_spec.specs.Door.{bytes_of}

-- the numbers found: the kind of the junctions, the number of names, the number of rows, whether a line says how many junctions there are, and what it says
unfoldable pub told_of : ℕ → ℕ → Option ℕ
told_of t v = cond (eqb t 1) (some v) none

unfoldable pub is_one : ℕ → Bool
is_one b = eqb b 1

unfoldable pub read_of : (text found starts ends left right weight mark struck rows : List ℕ) → Read
read_of text found starts ends left right weight mark struck rows =
    record {
      kind = get_or found 0 0;
      names = names_of text starts ends (get_or found 1 0);
      names_at = take (get_or found 1 0) starts;
      told = told_of (get_or found 3 0) (get_or found 4 0);
      left = take (get_or found 2 0) left;
      right = take (get_or found 2 0) right;
      weight = take (4 * get_or found 2 0) weight;
      marks = take (get_or found 2 0) mark;
      struck = map is_one (take (get_or found 2 0) struck);
      rows_at = take (get_or found 2 0) rows;
    }

pub record Sized (found starts ends : List ℕ) : Type 0 where
  pub numbers : length found ≡ 5
  pub starts-sized : length starts ≡ 255
  pub ends-sized : length ends ≡ 255

pub record Columns (left right weight mark struck rows : List ℕ) : Type 0 where
  pub lefts : length left ≡ 1024
  pub rights : length right ≡ 1024
  pub weights : length weight ≡ 4096
  pub marks : length mark ≡ 1024
  pub strucks : length struck ≡ 1024
  pub places : length rows ≡ 1024

-- one row more
pub record Stored (l r w m s p l' r' w' m' s' p' : List ℕ) (k : ℕ) (x : Row) : Type 0 where
  pub lefts : take (k + 1) l' ≡ take k l ++ (x.left ∷ [])
  pub rights : take (k + 1) r' ≡ take k r ++ (x.right ∷ [])
  pub weights : take (4 * (k + 1)) w' ≡ take (4 * k) w ++ bytes_of 4 x.bits
  pub marks : take (k + 1) m' ≡ take k m ++ (x.mark ∷ [])
  pub strucks : take (k + 1) s' ≡ take k s ++ (x.struck ∷ [])
  pub places : take (k + 1) p' ≡ take k p ++ (x.at ∷ [])

pub record Sound (text found starts ends : List ℕ) : Type 0 where
  pub few-names : get_or found 1 0 ≤ 255
  pub few-rows : get_or found 2 0 ≤ 1024
  pub kept : Within text starts ends (get_or found 1 0)

-- reading goes on, or is broken
unfoldable pub resumed : Result ⊤ ReadError → Read → Reading
resumed (Ok done) r = read r
resumed (Err e) r = broken e.number e.place

-- an end e met at a place, after the names ns at their places
pub record EndMet (text starts ends : List ℕ) (at : ℕ) (e : End) (ns : List (List ℕ)) (places : List ℕ) (x : Met) : Type 0 where
  pub names : names_of text starts ends x.count ≡ met_end e ns
  pub places-met : take x.count starts ≡ met_end_at at e ns places
  pub number-met : number_in (met_end e ns) e ≡ x.number
  pub few : x.count ≤ 255
  pub kept : Within text starts ends x.count
