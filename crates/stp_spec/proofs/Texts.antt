-- Trials of texts that a definition makes: blanks after EOF, and many equal lines of E. They are read by induction on the number of blanks or lines, since computing them takes too long.
-- Main statements: lengths-hold, rows-hold.
-- Assumes nothing.
use Prim.Native.Nat.{ℕ, zero, suc, ◌+◌, ◌*◌, ◌≤◌, ◌<◌}
use Prim.Native.String.{String}
use mathlib.Core.Bool.{true, false, and-false}
use mathlib.Core.List.{List, [], ◌∷◌, ◌++◌}
use mathlib.Core.Option.{none, some}
use mathlib.Core.Path.{◌≡◌, refl, ap, ◌∙◌}
use borrow.Author.Tests.{le-ltb, lt-ltb}
use lib.ListN.{length, take, replicate, length-append, length-replicate, get_or-replicate}
use lib.Seq.{take_all}
use native.Mathlib.Omega.{arith}
use Rattle.rowset.specs.Bytes.{little, in_row}
use Rattle.rowset.specs.Integers.{to_bits}
use Rattle.refusal.specs.declared.Refusal.{Refusal}
use Rattle.rowset.specs.Sets.{up_to, any, uppermost}
use Rattle.rowset.proofs.Laws.{in-up_to, uppermost-zero, uppermost-is}
use Rattle.rowset.proofs.Members.{in_both}
use Rattle.star_spec.specs.Call.{Call, call_of, rows_of, used}
use Rattle.star_spec.specs.Door.{bytes_of}
use Rattle.star_spec.specs.Refusals.{max_rows, cause, cause_at, bad_vertices, too_many_rows, wrong_row, bad_ends, bad_row, repeats_above, repeats, repeated_row, or_else, refusal}
use Rattle.star_spec.proofs.Accepted.{row-used, none_both, none-nil, refusal-append}
use Rattle.stp_spec.specs.Import.{max_text, untaken, taken, bounded, read_text, table_of, bad_columns, bad_edges, import_causes, sizes, answered, imported, columns_of}
use Rattle.stp_spec.specs.Reader.{Read, opening, lines, whole, nothing_read, with_graph, with_nodes, with_edges, end_of, with_row, when, counted, number_then, price_then, next_section, named, graph_line, next, is_closed, follow, read_from}
use Rattle.stp_spec.specs.Trials.{spaced, LengthsHold, lines_of, counting, RowsHold}
use Rattle.stp_words.specs.Bytes.{bytes, within, class_of, of_words, upper}
use Rattle.stp_words.specs.Names.{same, is}
use Rattle.stp_words.specs.Numbers.{all_digits, is_empty, decimal, digits_to, number_of, opens_below, price_of}
use Rattle.stp_words.specs.Text.{Before, at_start, in_gap, in_word, after, is_first, begins, run, prepend, words_from, words}

-- a text that is not too long is read, and one that is is broken there
short-read : (text : List ℕ) → length text ≤ max_text → read_text text ≡ read_from (length text) opening nothing_read (words text)
unfolding read_text bounded
short-read text h = rw (le-ltb max_text (length text) h)

long-refused : (text : List ℕ) (l r w : ℕ) → max_text < length text → imported text l r w ≡ untaken (record { number = 12; place = max_text })
unfolding imported read_text bounded import_causes refusal or_else answered
long-refused text l r w h = rw (lt-ltb max_text (length text) h)

-- blanks have no word
no_words : (k : ℕ) (s : Before) (at : ℕ) → words_from s at (replicate k 32) ≡ []
unfolding words_from prepend begins after class_of within of_words
no_words zero s at = refl
no_words (suc k) at_start at = no_words k at_start (suc at)
no_words (suc k) in_gap at = no_words k in_gap (suc at)
no_words (suc k) in_word at = no_words k in_gap (suc at)

spaced-length : (k : ℕ) → length (spaced k) ≡ 47 + k
unfolding spaced bytes
spaced-length k = omega (arith, length-replicate {A = ℕ} k 32)

-- what is read of a text with one vertex and no row
one : Read
one = record { graph = true; nodes = 1; edges = 0; rows = 0; left = []; right = []; weight = [] }

spaced-read : (k size : ℕ) → read_from size opening nothing_read (words (spaced k)) ≡ whole one
unfolding one spaced nothing_read with_graph with_nodes with_edges when counted number_then next_section named graph_line next is_closed follow read_from bytes within class_of of_words upper same is all_digits is_empty decimal digits_to number_of after is_first begins run prepend words_from words
spaced-read k size = rw (no_words k at_start 47)

spaced-taken : (k : ℕ) → 47 + k ≤ max_text → imported (spaced k) 1024 1024 4096 ≡ taken 1 0
unfolding one imported import_causes bad_edges bad_vertices too_many_rows bad_columns bad_row repeated_row table_of uppermost cause cause_at refusal or_else answered sizes
spaced-taken k h =
    let l : length (spaced k) ≤ max_text = omega (arith, spaced-length k) in
    rw (short-read (spaced k) l, spaced-read k (length (spaced k)))

pub lengths-hold : LengthsHold
lengths-hold =
    record {
      longest = spaced-length 65489;
      longest-taken = spaced-taken 65489 (omega arith);
      longer = long-refused (spaced 65490) 1024 1024 4096 (omega (arith, spaced-length 65490));
      longer-blank = long-refused (replicate 65537 32) 0 0 0 (omega (arith, length-replicate {A = ℕ} 65537 32));
    }

-- what is read with k equal lines of E more
more : ℕ → Read → Read
more zero r = r
more (suc k) r = more k (with_row r 1 2 3)

lines-read : (k : ℕ) (r : Read) (size at e : ℕ) (tail : List ℕ) → e ≡ at + 8 * k →
    read_from size lines r (words_from at_start at (lines_of k ++ tail)) ≡ read_from size lines (more k r) (words_from at_start e tail)
unfolding more lines_of when counted number_then price_then graph_line next follow read_from bytes within class_of of_words upper same is all_digits is_empty decimal digits_to number_of opens_below price_of to_bits after is_first begins run prepend words_from
lines-read zero r size at e tail h =
    let z : e ≡ at = omega arith in
    rw z
lines-read (suc k) r size at e tail h = lines-read k (with_row r 1 2 3) size (suc (suc (suc (suc (suc (suc (suc (suc at)))))))) e tail (omega arith)

end-length : length (bytes "END\nEOF") ≡ 7
unfolding bytes
end-length = refl

end_read : (r : Read) (size at : ℕ) → r.graph ≡ true → read_from size lines r (words_from at_start at (bytes "END\nEOF")) ≡ whole r
unfolding when next_section graph_line next is_closed follow read_from bytes within class_of of_words upper same is after is_first begins run prepend words_from
end_read r size at g = rw g

-- the fields of what is read with k lines more
more-graph : (k : ℕ) (r : Read) → (more k r).graph ≡ r.graph
unfolding more with_row
more-graph zero r = refl
more-graph (suc k) r = more-graph k (with_row r 1 2 3)

more-nodes : (k : ℕ) (r : Read) → (more k r).nodes ≡ r.nodes
unfolding more with_row
more-nodes zero r = refl
more-nodes (suc k) r = more-nodes k (with_row r 1 2 3)

more_edges : (k : ℕ) (r : Read) → (more k r).edges ≡ r.edges
unfolding more with_row
more_edges zero r = refl
more_edges (suc k) r = more_edges k (with_row r 1 2 3)

more_rows : (k : ℕ) (r : Read) → (more k r).rows ≡ r.rows + k
unfolding more with_row
more_rows zero r = omega arith
more_rows (suc k) r = more_rows k (with_row r 1 2 3) ∙ omega arith

-- a column of equal bytes with one more, and a column of equal weights with one more
longer : (a j : ℕ) → replicate j a ++ (a ∷ []) ≡ replicate (suc j) a
longer a zero = refl
longer a (suc j) = ap {B = List ℕ} (λ l. a ∷ l) (longer a j)

grown : (a j : ℕ) → j < max_rows → take max_rows (replicate j a ++ (a ∷ [])) ≡ replicate (suc j) a
grown a j h = rw (longer a j) (take_all max_rows (replicate (suc j) a) (omega (arith, length-replicate (suc j) a)))

threes : ℕ → List ℕ
threes zero = []
threes (suc j) = 3 ∷ 0 ∷ 0 ∷ 0 ∷ threes j

threes-length : (j : ℕ) → length (threes j) ≡ 4 * j
unfolding threes
threes-length zero = refl
threes-length (suc j) = omega (arith, threes-length j)

threes-longer : (j : ℕ) → threes j ++ (3 ∷ 0 ∷ 0 ∷ 0 ∷ []) ≡ threes (suc j)
unfolding threes
threes-longer zero = refl
threes-longer (suc j) = ap {B = List ℕ} (λ l. 3 ∷ 0 ∷ 0 ∷ 0 ∷ l) (threes-longer j)

threes-grown : (j : ℕ) → j < max_rows → take (4 * max_rows) (threes j ++ (3 ∷ 0 ∷ 0 ∷ 0 ∷ [])) ≡ threes (suc j)
threes-grown j h = rw (threes-longer j) (take_all (4 * max_rows) (threes (suc j)) (omega (arith, threes-length (suc j))))

more_left : (k j e : ℕ) (r : Read) → r.left ≡ replicate j 1 → e ≡ j + k → e ≤ max_rows → (more k r).left ≡ replicate e 1
unfolding more with_row end_of
more_left zero j e r c n h =
    let z : e ≡ j = omega arith in
    rw z c
more_left (suc k) j e r c n h = more_left k (suc j) e (with_row r 1 2 3) (rw c (grown 1 j (omega arith))) (omega arith) h

more-right : (k j e : ℕ) (r : Read) → r.right ≡ replicate j 2 → e ≡ j + k → e ≤ max_rows → (more k r).right ≡ replicate e 2
unfolding more with_row end_of
more-right zero j e r c n h =
    let z : e ≡ j = omega arith in
    rw z c
more-right (suc k) j e r c n h = more-right k (suc j) e (with_row r 1 2 3) (rw c (grown 2 j (omega arith))) (omega arith) h

more-weight : (k j e : ℕ) (r : Read) → r.weight ≡ threes j → e ≡ j + k → e ≤ max_rows → (more k r).weight ≡ threes e
unfolding more with_row bytes_of
more-weight zero j e r c n h =
    let z : e ≡ j = omega arith in
    rw z c
more-weight (suc k) j e r c n h = more-weight k (suc j) e (with_row r 1 2 3) (rw c (threes-grown j (omega arith))) (omega arith) h

-- each row of these columns is good
row-byte : (a k i : ℕ) → i < k → in_row 1 (replicate k a) (suc i) ≡ a
unfolding in_row little
row-byte a k i h =
    let n : 1 * i ≡ i = omega arith in
    rw (n, get_or-replicate k i a 0 h) (omega arith)

equal-rows : ℕ → List ℕ → Call
equal-rows k mark = call_of 2 (replicate k 1) (replicate k 2) (threes k) mark

good-rows : (k : ℕ) (mark : List ℕ) → bad_row (equal-rows k mark) ≡ none
unfolding equal-rows bad_row cause_at bad_ends wrong_row
good-rows k mark = rw (uppermost-zero (rows_of (equal-rows k mark)) (bad_ends (equal-rows k mark)) good)
  where
    good : (i : ℕ) → 1 ≤ i → i ≤ rows_of (equal-rows k mark) → bad_ends (equal-rows k mark) i ≡ false
    good zero l u = absurd (omega arith)
    good (suc i) l u =
        let h : i < k = omega (arith, length-replicate {A = ℕ} k 1) in
        rw (row-byte 1 k i h, row-byte 2 k i h) (and-false (used (equal-rows k mark) (suc i)))

-- and the second of them repeats the first
repeated-rows : (k : ℕ) (mark : List ℕ) → 2 ≤ k → repeated_row (equal-rows k mark) ≡ some (record { number = 15; place = 2 })
unfolding equal-rows repeated_row repeats repeats_above cause_at any
repeated-rows k mark h = rw (uppermost-is (rows_of (equal-rows k mark)) 1 (repeats (equal-rows k mark)) rows second first)
  where
    rows : 2 ≤ rows_of (equal-rows k mark)
    rows = omega (arith, length-replicate {A = ℕ} k 1)

    row : (i : ℕ) → 1 ≤ i → i ≤ 2 → used (equal-rows k mark) i ≡ true
    row i l u =
        let r : i ≤ rows_of (equal-rows k mark) = omega (arith, rows) in
        row-used (equal-rows k mark) i (l, r, in_both (up_to 1024) (up_to (rows_of (equal-rows k mark))) i (in-up_to 1024 i l (omega arith)) (in-up_to (rows_of (equal-rows k mark)) i l r))

    second : repeats (equal-rows k mark) 2 ≡ true
    second =
        rw (row 2 (omega arith) (omega arith), row 1 (omega arith) (omega arith), row-byte 1 k 0 (omega arith), row-byte 1 k 1 (omega arith), row-byte 2 k 0 (omega arith), row-byte 2 k 1 (omega arith))

    first : (i : ℕ) → 1 ≤ i → i ≤ 1 → repeats (equal-rows k mark) i ≡ false
    first i l u =
        let z : i ≡ 1 = omega arith in
        rw z (and-false (used (equal-rows k mark) 1))

-- what is read before the lines of E
begun : ℕ → ℕ → Read
begun n e = record { graph = true; nodes = n; edges = e; rows = 0; left = []; right = []; weight = [] }

lines_of-length : (k : ℕ) → length (lines_of k) ≡ 8 * k
unfolding lines_of bytes
lines_of-length zero = refl
lines_of-length (suc k) = omega (arith, lines_of-length k)

-- a text with counts n and e whose lines of E begin at byte 42
record Opens (counts : String) (n e : ℕ) : Type 0 where
  lines_next : (k size : ℕ) → read_from size opening nothing_read (words (counting counts k)) ≡ read_from size lines (begun n e) (words_from at_start 42 (lines_of k ++ bytes "END\nEOF"))
  bytes-before : (k : ℕ) → length (counting counts k) ≡ 42 + length (lines_of k ++ bytes "END\nEOF")

module _ (counts : String) (n e : ℕ) (o : Opens counts n e) (k : ℕ) (few : k ≤ 1025) where
  counting-read : read_text (counting counts k) ≡ whole (more k (begun n e))
  unfolding begun
  counting-read =
      short-read (counting counts k) (omega (arith, o.bytes-before k, length-append (lines_of k) (bytes "END\nEOF"), lines_of-length k, end-length))
      ∙ o.lines_next k (length (counting counts k))
      ∙ lines-read k (begun n e) (length (counting counts k)) 42 (42 + 8 * k) (bytes "END\nEOF") refl
      ∙ end_read (more k (begun n e)) (length (counting counts k)) (42 + 8 * k) (more-graph k (begun n e))

opens-most : Opens "Nodes 2\nEdges 1024\n" 2 1024
unfolding begun counting nothing_read with_graph with_nodes with_edges when counted number_then next_section named graph_line next follow read_from bytes within class_of of_words upper same is all_digits is_empty decimal digits_to number_of after is_first begins run prepend words_from words
opens-most = record { lines_next = λ k size. refl; bytes-before = λ k. omega arith }

opens-more : Opens "Nodes 2\nEdges 1025\n" 2 1025
unfolding begun counting nothing_read with_graph with_nodes with_edges when counted number_then next_section named graph_line next follow read_from bytes within class_of of_words upper same is all_digits is_empty decimal digits_to number_of after is_first begins run prepend words_from words
opens-more = record { lines_next = λ k size. refl; bytes-before = λ k. omega arith }

opens-none : Opens "Nodes 0\nEdges 1025\n" 0 1025
unfolding begun counting nothing_read with_graph with_nodes with_edges when counted number_then next_section named graph_line next follow read_from bytes within class_of of_words upper same is all_digits is_empty decimal digits_to number_of after is_first begins run prepend words_from words
opens-none = record { lines_next = λ k size. refl; bytes-before = λ k. omega arith }

module _ (k e : ℕ) (few : k ≤ max_rows) where
  left-equal : (more k (begun 2 e)).left ≡ replicate k 1
  unfolding begun
  left-equal = more_left k 0 k (begun 2 e) refl (omega arith) few

  right-equal : (more k (begun 2 e)).right ≡ replicate k 2
  unfolding begun
  right-equal = more-right k 0 k (begun 2 e) refl (omega arith) few

  weight-equal : (more k (begun 2 e)).weight ≡ threes k
  unfolding begun threes
  weight-equal = more-weight k 0 k (begun 2 e) refl (omega arith) few

  good-read : bad_row (table_of (more k (begun 2 e))) ≡ none
  unfolding table_of begun equal-rows
  good-read = rw (more-nodes k (begun 2 e), left-equal, right-equal, weight-equal) (good-rows k (replicate k 1))

  repeated-read : 2 ≤ k → repeated_row (table_of (more k (begun 2 e))) ≡ some (record { number = 15; place = 2 })
  unfolding table_of begun equal-rows
  repeated-read h = rw (more-nodes k (begun 2 e), left-equal, right-equal, weight-equal) (repeated-rows k (replicate k 1) h)

-- what is answered of a text that is read whole, by its counts; these are stated for any text, so that no refused step computes a large one
module _ (text : List ℕ) (t : Read) (x : read_text text ≡ whole t) where
  unsaid-refused : t.rows ≡ 1025 → t.edges ≡ 1024 → imported text 1024 1024 4096 ≡ untaken (record { number = 13; place = 0 })
  unfolding imported import_causes bad_edges cause refusal or_else answered
  unsaid-refused m e = rw (x, m, e)

  nodes-refused : t.rows ≡ 1025 → t.edges ≡ 1025 → t.nodes ≡ 0 → imported text 1024 1024 4096 ≡ untaken (record { number = 1; place = 0 })
  unfolding imported import_causes bad_edges bad_vertices cause refusal or_else answered
  nodes-refused m e n = rw (x, m, e, n)

  rows-refused : (l : ℕ) → t.rows ≡ 1025 → t.edges ≡ 1025 → t.nodes ≡ 2 → imported text l 1024 4096 ≡ untaken (record { number = 2; place = 0 })
  unfolding imported import_causes bad_edges bad_vertices too_many_rows cause refusal or_else answered
  rows-refused l m e n = rw (x, m, e, n)

  none_before : t.rows ≡ 1024 → t.edges ≡ 1024 → t.nodes ≡ 2 → bad_row (table_of t) ≡ none
      → refusal (bad_edges t ∷ bad_vertices t.nodes ∷ too_many_rows t.rows ∷ bad_columns 1024 1024 4096 ∷ bad_row (table_of t) ∷ []) ≡ none
  unfolding bad_edges bad_vertices too_many_rows bad_columns cause
  none_before m e n good = none_both _ _ (rw (m, e)) (none_both _ _ (rw n) (none_both _ _ (rw m) (none_both _ _ refl (none_both _ _ good none-nil))))

  repeat-refused : t.rows ≡ 1024 → t.edges ≡ 1024 → t.nodes ≡ 2 → bad_row (table_of t) ≡ none → (r : Refusal) → repeated_row (table_of t) ≡ some r → imported text 1024 1024 4096 ≡ untaken r
  unfolding imported import_causes refusal or_else answered
  repeat-refused m e n good r again =
      let told : refusal (import_causes (whole t) 1024 1024 4096) ≡ some r =
      refusal-append (bad_edges t ∷ bad_vertices t.nodes ∷ too_many_rows t.rows ∷ bad_columns 1024 1024 4096 ∷ bad_row (table_of t) ∷ []) (repeated_row (table_of t) ∷ []) (none_before m e n good)
      ∙ rw again in
      rw (x, told)

-- 1,024 lines of E, as many as Edges says
module _ (k : ℕ) (is : k ≡ 1024) where
  most-read : read_text (counting "Nodes 2\nEdges 1024\n" k) ≡ whole (more k (begun 2 1024))
  most-read = counting-read "Nodes 2\nEdges 1024\n" 2 1024 opens-most k (omega arith)

  most-refused : imported (counting "Nodes 2\nEdges 1024\n" k) 1024 1024 4096 ≡ untaken (record { number = 15; place = 2 })
  unfolding begun
  most-refused =
      repeat-refused _ _ most-read (omega (arith, more_rows k (begun 2 1024))) (more_edges k (begun 2 1024)) (more-nodes k (begun 2 1024)) (good-read k 1024 (omega arith)) _ (repeated-read k 1024 (omega arith) (omega arith))

  most-left : (columns_of (read_text (counting "Nodes 2\nEdges 1024\n" k))).left ≡ replicate k 1
  unfolding columns_of
  most-left = rw most-read (left-equal k 1024 (omega arith))

  most-right : (columns_of (read_text (counting "Nodes 2\nEdges 1024\n" k))).right ≡ replicate k 2
  unfolding columns_of
  most-right = rw most-read (right-equal k 1024 (omega arith))

-- 1,025 lines of E
module _ (k : ℕ) (is : k ≡ 1025) where
  more-is : (n e : ℕ) → (more k (begun n e)).rows ≡ 1025
  unfolding begun
  more-is n e = omega (arith, more_rows k (begun n e))

  more-refused : (l : ℕ) → imported (counting "Nodes 2\nEdges 1025\n" k) l 1024 4096 ≡ untaken (record { number = 2; place = 0 })
  unfolding begun
  more-refused l =
      rows-refused _ _ (counting-read "Nodes 2\nEdges 1025\n" 2 1025 opens-more k (omega arith)) l (more-is 2 1025) (more_edges k (begun 2 1025)) (more-nodes k (begun 2 1025))

  more-none : imported (counting "Nodes 0\nEdges 1025\n" k) 1024 1024 4096 ≡ untaken (record { number = 1; place = 0 })
  unfolding begun
  more-none =
      nodes-refused _ _ (counting-read "Nodes 0\nEdges 1025\n" 0 1025 opens-none k (omega arith)) (more-is 0 1025) (more_edges k (begun 0 1025)) (more-nodes k (begun 0 1025))

  more-unsaid : imported (counting "Nodes 2\nEdges 1024\n" k) 1024 1024 4096 ≡ untaken (record { number = 13; place = 0 })
  unfolding begun
  more-unsaid = unsaid-refused _ _ (counting-read "Nodes 2\nEdges 1024\n" 2 1024 opens-most k (omega arith)) (more-is 2 1024) (more_edges k (begun 2 1024))

pub rows-hold : RowsHold
rows-hold =
    record {
      most = most-refused 1024 refl;
      most-left = most-left 1024 refl;
      most-right = most-right 1024 refl;
      more = more-refused 1025 refl 1024;
      more-short = more-refused 1025 refl 1023;
      more-nodes = more-none 1025 refl;
      more-lines = more-unsaid 1025 refl;
    }
