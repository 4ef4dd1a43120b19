-- `path_matrix::write_column` meets its contract. Assumes nothing.
use Prim.Native.Nat.{ℕ}
use mathlib.Core.Path.{◌≡◌, sym, ◌∙◌}
use borrow.Author.Rules.{rules}
use native.Mathlib.Omega.{arith}
use lib.ListN.{length, get_or}
use mir.Syntax.{w64}
use mir.Val.{Fits}
use Rattle.std.proofs.lemmas.Slice.{put_mid-paste}
use Rattle.rowset.specs.Words.{column_words, column_words_from}
use Rattle.slice.specs.Slices.{component, SixteenWords}
use Rattle.path_matrix.proofs.Laws.{length-words_from, with_column-outside, with_column-paste, slice-words}
use Rattle.path_matrix.proofs.write_column.Goals as goal

pub returns-then-has_column : goal.returns-then-has_column
returns-then-has_column c =
    let bounds = c.has_column.ensures.inside c.if-has_column.true in
    let x = c.args.x in
    let words : length x.words ≡ 16 = search rules in
    let small : (k : ℕ) → Fits w64 (get_or x.words k 0) = λ k. search rules in
    let stored : SixteenWords x = record { sixteen = words; fits = λ k h. (small k).fits } in
    put_mid-paste _ _ _ _ (column_words_from (component x) 0 column_words) column_words (c.copy_from_slice.ensures.after ∙ slice-words x stored) (omega arith) (sym (length-words_from _ _ _))
    ∙ sym (with_column-paste _ _ bounds.0 bounds.1 (component x))

pub returns-else-has_column : goal.returns-else-has_column
returns-else-has_column c = sym (with_column-outside _ _ _ (sym c.has_column.ensures.value ∙ c.if-has_column.false))
