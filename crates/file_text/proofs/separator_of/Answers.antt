-- `file_text::separator_of` meets its contract. Assumes nothing.
use borrow.Author.Tests.{lt-ltb, le-ltb}
use mathlib.Core.Path.{◌∙◌}
use native.Mathlib.Omega.{arith}
use Rattle.file_spec.specs.Pieces.{separator}
use Rattle.file_text.proofs.Searches.{holds-part}
use Rattle.file_text.proofs.separator_of.Goals as goal

pub returns-then-find_byte-to : goal.returns-then-find_byte-to
unfolding separator
returns-then-find_byte-to c =
    let a = c.args in
    rw (holds-part a.text.now a.from a.to (omega arith) (omega arith) 59 _ c.find_byte.ensures.value ∙ lt-ltb _ _ c.if-find_byte-to.true)

pub returns-then-find_byte-to-2 : goal.returns-then-find_byte-to-2
unfolding separator
returns-then-find_byte-to-2 c =
    let a = c.args in
    rw (
      holds-part a.text.now a.from a.to (omega arith) (omega arith) 59 _ c.find_byte.ensures.value ∙ le-ltb _ _ c.if-find_byte-to.false,
      holds-part a.text.now a.from a.to (omega arith) (omega arith) 9 _ c.find_byte-2.ensures.value ∙ lt-ltb _ _ c.if-find_byte-to-2.true,
    )

pub returns-then-find_byte-to-3 : goal.returns-then-find_byte-to-3
unfolding separator
returns-then-find_byte-to-3 c =
    let a = c.args in
    rw (
      holds-part a.text.now a.from a.to (omega arith) (omega arith) 59 _ c.find_byte.ensures.value ∙ le-ltb _ _ c.if-find_byte-to.false,
      holds-part a.text.now a.from a.to (omega arith) (omega arith) 9 _ c.find_byte-2.ensures.value ∙ le-ltb _ _ c.if-find_byte-to-2.false,
      holds-part a.text.now a.from a.to (omega arith) (omega arith) 44 _ c.find_byte-3.ensures.value ∙ lt-ltb _ _ c.if-find_byte-to-3.true,
    )

pub returns : goal.returns
unfolding separator
returns c =
    let a = c.args in
    rw (
      holds-part a.text.now a.from a.to (omega arith) (omega arith) 59 _ c.find_byte.ensures.value ∙ le-ltb _ _ c.if-find_byte-to.false,
      holds-part a.text.now a.from a.to (omega arith) (omega arith) 9 _ c.find_byte-2.ensures.value ∙ le-ltb _ _ c.if-find_byte-to-2.false,
      holds-part a.text.now a.from a.to (omega arith) (omega arith) 44 _ c.find_byte-3.ensures.value ∙ le-ltb _ _ c.if-find_byte-to-3.false,
    )
