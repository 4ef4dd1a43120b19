-- `stp_reader::read` meets its contract. The loop's invariant: the reader stands before the word with what was read so far. Assumes nothing.
use Rattle.std.proofs.Common.{◌≡◌, arith, true, length, sym, refl, ◌∙◌}
use Rattle.stp_words.specs.Bytes.{bytes}
use Rattle.stp_spec.specs.Import.{read_text}
use Rattle.stp_spec.specs.Reader.{broken, is_closed}
use Rattle.stp_reader.specs.Readings.{stand_of, reading_of}
use Rattle.stp_reader.proofs.Words.{NextWord, next_word, text-long, opening-refused, opening-taken, refused, leads, over, still-open, told-broken, kept-broken, place-broken, sized-broken, told-whole}
use Rattle.stp_reader.proofs.read.Goals as goal
use Rattle.stp_reader.proofs.read.Goals.{After-next_word-opening}

word : (c : After-next_word-opening) → NextWord c.args.text.now 0 true c.next_word-opening.result
word c = next_word (omega arith) c.next_word-opening.ensures

pub returns-then-text-gt-MAX_TEXT-clause-value : goal.returns-then-text-gt-MAX_TEXT-clause-value
returns-then-text-gt-MAX_TEXT-clause-value c = told-broken _ _ c.new.ensures (text-long _ c.if-text-gt-MAX_TEXT.true)

pub returns-then-text-gt-MAX_TEXT-clause-kept : goal.returns-then-text-gt-MAX_TEXT-clause-kept
unfolding reading_of
returns-then-text-gt-MAX_TEXT-clause-kept c = kept-broken _ _ c.new.ensures (text-long _ c.if-text-gt-MAX_TEXT.true)

pub returns-then-text-gt-MAX_TEXT-clause-place : goal.returns-then-text-gt-MAX_TEXT-clause-place
returns-then-text-gt-MAX_TEXT-clause-place c = place-broken _ c.new.ensures (omega arith)

pub slice_bounds-same-count : goal.slice_bounds-same-count
slice_bounds-same-count c = (word (goal.at.slice_bounds-same-count c).After-next_word-opening).order

pub slice_bounds-same-start : goal.slice_bounds-same-start
slice_bounds-same-start c = (word (goal.at.slice_bounds-same-start c).After-next_word-opening).order

pub slice_bounds-same-end : goal.slice_bounds-same-end
slice_bounds-same-end c = (word (goal.at.slice_bounds-same-end c).After-next_word-opening).high

pub returns-then-not-same-clause-value : goal.returns-then-not-same-clause-value
unfolding bytes
returns-then-not-same-clause-value c =
    told-broken _ _ c.new-then-not-same.ensures (opening-refused (word (goal.at.returns-then-not-same-clause-value c).After-next_word-opening) (omega arith) (sym c.same.ensures ∙ c.if-not-same.true))

pub returns-then-not-same-clause-kept : goal.returns-then-not-same-clause-kept
unfolding reading_of bytes
returns-then-not-same-clause-kept c =
    kept-broken _ _ c.new-then-not-same.ensures (opening-refused (word (goal.at.returns-then-not-same-clause-kept c).After-next_word-opening) (omega arith) (sym c.same.ensures ∙ c.if-not-same.true))

pub returns-then-not-same-clause-place : goal.returns-then-not-same-clause-place
returns-then-not-same-clause-place c =
    let n = word (goal.at.returns-then-not-same-clause-place c).After-next_word-opening in place-broken _ c.new-then-not-same.ensures (omega (arith, n.order, n.high))

pub loop-word-init : goal.loop-word-init
unfolding stand_of bytes
loop-word-init c =
    let n = word (goal.at.loop-word-init c).After-next_word-opening in
    record {
      at = c.next_word-opening.result.to;
      word = next_word n.high c.next_word-word.ensures;
      few = omega (arith, c.new-table.ensures.reads.1);
      clean = c.new-table.ensures.clean;
      reads = opening-taken n (omega arith) (sym c.same.ensures ∙ c.if-not-same.false) ∙ rw c.new-table.ensures.reads.0;
    }

pub slice_bounds-next-end : goal.slice_bounds-next-end
slice_bounds-next-end c = c.loop-word.invariant.word.high

pub next-requires-clause-few : goal.next-requires-clause-few
next-requires-clause-few c =
    let n = c.loop-word.invariant in omega (arith, n.few, n.word.low, n.word.high)

pub next-requires-clause-clean : goal.next-requires-clause-clean
next-requires-clause-clean c = c.loop-word.invariant.clean

pub returns-in_default-clause-value : goal.returns-in_default-clause-value
returns-in_default-clause-value c =
    told-broken _ _ c.new-in_default.ensures (refused c.loop-word.invariant _ c.loop-word-test.true c.in_default.is (c.next.ensures.leads _ refl refl))

pub returns-in_default-clause-kept : goal.returns-in_default-clause-kept
unfolding reading_of
returns-in_default-clause-kept c =
    kept-broken _ _ c.new-in_default.ensures (refused c.loop-word.invariant _ c.loop-word-test.true c.in_default.is (c.next.ensures.leads _ refl refl))

pub returns-in_default-clause-place : goal.returns-in_default-clause-place
returns-in_default-clause-place c =
    let n = c.loop-word.invariant.word in place-broken _ c.new-in_default.ensures (omega (arith, n.order, n.high))

pub loop-word-smaller : goal.loop-word-smaller
loop-word-smaller c =
    let n = c.loop-word.invariant.word in
    let m = next_word n.high c.next_word-word-in-loop-word.ensures in
    omega (arith, n.high, m.low, c.loop-word-test.true)

pub loop-word-preserved : goal.loop-word-preserved
loop-word-preserved c =
    let n = c.loop-word.invariant in
    record {
      at = c.loop-word.word.to;
      word = next_word n.word.high c.next_word-word-in-loop-word.ensures;
      few = omega (arith, n.few, n.word.low, c.loop-word-test.true, c.next.ensures.count);
      clean = c.next.ensures.clean;
      reads = leads n _ c.loop-word-test.true c.in-Some.is (c.next.ensures.leads _ refl refl);
    }

pub returns-in-Closed-clause-value : goal.returns-in-Closed-clause-value
unfolding is_closed stand_of
returns-in-Closed-clause-value c =
    told-whole _ _ (over c.loop-word.invariant c.loop-word-test.false ∙ rw c.in-Closed.is) c.loop-word.invariant.clean

pub returns-in-Closed-clause-kept : goal.returns-in-Closed-clause-kept
unfolding reading_of is_closed stand_of
returns-in-Closed-clause-kept c = over c.loop-word.invariant c.loop-word-test.false ∙ rw c.in-Closed.is

pub returns-in-Closed-clause-sized : goal.returns-in-Closed-clause-sized
returns-in-Closed-clause-sized c = c.loop-word.invariant.clean.sized

pub returns-in_default-stand : goal.returns-in_default-stand
unfolding reading_of
returns-in_default-stand c =
    let e : read_text c.args.text.now ≡ broken (length c.args.text.now) = over c.loop-word.invariant c.loop-word-test.false ∙ rw (still-open c.loop-word.stand c.in_default-stand.not-Closed) in
    let b = c.new-in_default-stand.ensures in
    record { value = told-broken _ _ b e; kept = kept-broken _ _ b e; place = place-broken _ b (omega arith); sized = tt; zeros = sized-broken _ b }
