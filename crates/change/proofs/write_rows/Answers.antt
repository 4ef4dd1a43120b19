-- `change::write_rows` meets its contract: a slice's words are those of its components. Assumes nothing.
use borrow.Author.Rules.{rules}
use mathlib.Core.Path.{◌≡◌, ◌∙◌}
use Prim.Native.Nat.{ℕ}
use lib.ListN.{length, get_or}
use mir.Syntax.{w64}
use mir.Val.{Fits}
use Rattle.path_matrix.proofs.Laws.{slice-words}
use Rattle.slice.specs.Slices.{SixteenWords}
use Rattle.change.proofs.write_rows.Goals as goal

pub returns : goal.returns
returns c =
    let x = c.args.x in
    let words : length x.words ≡ 16 = search rules in
    let small : (k : ℕ) → Fits w64 (get_or x.words k 0) = λ k. search rules in
    let stored : SixteenWords x = record { sixteen = words; fits = λ k h. (small k).fits } in
    record {
      stored = λ h. c.copy_from_slice.ensures.after ∙ slice-words x stored;
      kept = λ h. absurd (h c.if-words-ne-WORDS.false);
    }
