-- MatrixPath's answer and matrix, from its checks and its walk: the checks decide first, then the vertices that the walk reached, and a refusal leaves the caller's matrix.
-- The walk in a lent matrix with room for its columns answers the same, and its words are the tree paths (own-answer, own-paths).
-- Assumes nothing.
use Prim.Native.Nat.{ℕ, ◌*◌, ◌≤◌}
use Rattle.std.specs.Prelude.{Result, Ok, Err, ⊤}
use Rattle.std.specs.Result.{IsErrAnd}
use borrow.Author.Tests.{eqb-false, ltb-false}
use lib.Dec.{eqb, ltb}
use lib.ListN.{length, take, drop}
use mathlib.Core.Bool.{Bool, true, false, ◌||◌}
use mathlib.Core.List.{List, [], ◌∷◌, ◌++◌}
use mathlib.Core.Option.{Option, none, some}
use mathlib.Core.Path.{◌≡◌, refl, sym, ap, ◌∙◌}
use native.Mathlib.Omega.{arith}
use Rattle.refusal.specs.Outcomes.{refusal_of}
use Rattle.refusal.specs.declared.Refusal.{Refusal}
use Rattle.refusal.proofs.Passed.{told}
use Rattle.rowset.specs.Bytes.{in_row}
use Rattle.rowset.specs.Words.{column_words, matrix_words}
use Rattle.rowset.proofs.Laws.{clash}
use Rattle.star_spec.specs.Call.{Call, rows_of, used, claimed}
use Rattle.star_spec.specs.MatrixPath.{matrix_path, matrix_or, matrix_after, path_column}
use Rattle.star_spec.specs.Refusals.{max_vertices, table_causes, bad_claim, bad_source, short_matrix, bad_count, unreached, unjoined, before_walk, or_else, refusal, matrix_path_causes}
use Rattle.star_spec.proofs.Accepted.{Taken, taken, none-head, none_tail, cause-none}
use Rattle.table.specs.Loads.{loaded_row}
use Rattle.table.proofs.Loads.{load-taken, loaded-taken}
use Rattle.claim.proofs.Laws.{claim_rows-marked}
use Rattle.path_walk.specs.Steps.Walks.{State}
use Rattle.path.specs.Steps.Walks.{call_walk, own_path, own_after}
use Rattle.table_checks.proofs.Laws.{refusal-both, refusal-one, refused-on, done_next}
use Rattle.path.proofs.Paths.{walked, walked-joined, walked-paths, joined-tree}

-- the answer is that of the checks, or else that of the walk
answer-in-order : (c : Call) (s words : ℕ) → refusal (matrix_path_causes c s words) ≡ or_else (refusal (before_walk c s words)) (unjoined c s)
unfolding matrix_path_causes
answer-in-order c s words = refusal-both (before_walk c s words) (unjoined c s ∷ []) ∙ ap (or_else _) (refusal-one (unjoined c s))

-- a refusal leaves the matrix as it was
refused-keeps : (c : Call) (s : ℕ) (R : List ℕ) (o : Result ⊤ Refusal) (r : Refusal) → o ≡ Err r → refusal_of o ≡ matrix_path c s R → R ≡ matrix_after c s R
unfolding matrix_after matrix_or refusal_of
refused-keeps c s R o r was e = rw (← e, was)

-- where nothing is refused the matrix is filled
done-fills : (c : Call) (s : ℕ) (R : List ℕ) → none ≡ matrix_path c s R → matrix_after c s R ≡ matrix_words (path_column c s) c.n ++ drop (column_words * c.n) R
unfolding matrix_after matrix_or
done-fills c s R e = rw (← e)

-- what the checks settle where they refuse nothing
pub record Checked (c : Call) (s words : ℕ) : Type 0 where
  pub table : Taken c
  pub low : 1 ≤ s
  pub high : s ≤ c.n
  pub room : column_words * c.n ≤ words
  pub marks : bad_count c ≡ none

-- a disjunction that fails, and causes of which none applies
neither : (a b : Bool) → (a || b) ≡ false → (a ≡ false) × (b ≡ false)
neither true b e = clash refl e
neither false b e = (refl, e)

none_first : (x y : Option Refusal) → or_else x y ≡ none → (x ≡ none) × (y ≡ none)
unfolding or_else
none_first none y e = (refl, e)
none_first (some r) y e = (e, cc)

checked : (c : Call) (s words : ℕ) → refusal (before_walk c s words) ≡ none → Checked c s words
unfolding bad_source short_matrix
checked c s words e =
    record {
      table = taken c parts.0;
      low = omega (arith, eqb-false s 0 source.0);
      high = ltb-false c.n s source.1;
      room = ltb-false words (column_words * c.n) (cause-none _ 8 0 (none-head _ _ rest));
      marks = none-head _ _ (none_tail _ _ rest);
    }
  where
    parts : (refusal (table_causes c) ≡ none) × (refusal (bad_claim c ∷ bad_source c s ∷ short_matrix c words ∷ bad_count c ∷ []) ≡ none)
    parts = none_first _ _ (sym (refusal-both (table_causes c) _) ∙ e)

    rest : refusal (short_matrix c words ∷ bad_count c ∷ []) ≡ none
    rest = none_tail _ _ (none_tail _ _ parts.1)

    source : (eqb s 0 ≡ false) × (ltb c.n s ≡ false)
    source = neither _ _ (cause-none _ 7 0 (none-head _ _ (none_tail _ _ parts.1)))

-- ── The walk in a matrix of its own ──

-- what the checks settle where they are done
pub settled : (c : Call) (s words : ℕ) (o : Result ⊤ Refusal) → refusal_of o ≡ refusal (before_walk c s words) → o ≡ Ok tt → Checked c s words
unfolding refusal_of
settled c s words o e done = checked c s words (sym e ∙ ap refusal_of done)

-- what is answered and left: the checks refuse, or they do not and the walk decides
module _ (c : Call) (s words : ℕ) (own : List ℕ) (o : Result ⊤ Refusal) (e : refusal_of o ≡ refusal (before_walk c s words)) where
  pub own-refused : (r : Refusal) → o ≡ Err r → (x : Result ⊤ Refusal) → IsErrAnd x (λ y. y ≡ r) → (refusal_of x ≡ own_path c s words own) × (own ≡ own_after c s words own)
  unfolding own_path own_after matrix_or refusal_of
  own-refused r was x on = (refused-on x _ was on e, rw (← e, was))

  pub own-walked : o ≡ Ok tt → (w : Result ⊤ Refusal) (l : List ℕ) → refusal_of w ≡ unreached c.n (call_walk c s own).reached → l ≡ (call_walk c s own).words
      → (refusal_of w ≡ own_path c s words own) × (l ≡ own_after c s words own)
  unfolding own_path own_after matrix_or refusal_of
  own-walked done w l answer filled = (done_next o _ _ _ done e answer, filled ∙ rw (← e, done))

-- a matrix with a column for each vertex of an accepted table
module _ (c : Call) (s words : ℕ) (own : List ℕ) (enough : Taken c → column_words * c.n ≤ length own) where
  -- where the checks refuse nothing
  module _ (h : Checked c s words) where
    t : Taken c
    t = h.table

    loaded : (l : List ℕ) → length l ≡ rows_of c → loaded_row 1 l ≡ in_row 1 l
    loaded l k = loaded-taken 1 l (load-taken 1 l (omega (arith, t.few-rows)) (omega arith))

    -- the walk on the loaded columns is that on the byte columns
    same-walk : call_walk c s own ≡ walked c s own
    unfolding claimed used
    same-walk =
        let rows = claim_rows-marked c.mark (omega (arith, t.few-rows, t.mark-length)) in
        rw (loaded c.left t.left-length, loaded c.right t.right-length, rows)

    -- the vertices that the walk does not reach are cause 10
    unreached-unjoined : unreached c.n (call_walk c s own).reached ≡ unjoined c s
    unfolding unjoined
    unreached-unjoined =
        ap (λ (x : State). unreached c.n x.reached) same-walk
        ∙ ap (unreached c.n) (walked-joined c t s h.low h.high own (enough t))

    -- and where there is none, its words are the tree paths
    walk-fills : unjoined c s ≡ none → take (column_words * c.n) (call_walk c s own).words ≡ matrix_words (path_column c s) c.n
    walk-fills joins =
        ap (λ (x : State). take (column_words * c.n) x.words) same-walk
        ∙ walked-paths c t s h.low h.high own (enough t) (joined-tree c t s h.low h.high h.marks joins)

  -- the answer is MatrixPath's
  pub own-answer : own_path c s words own ≡ refusal (matrix_path_causes c s words)
  unfolding own_path or_else
  own-answer = go (refusal (before_walk c s words)) refl ∙ sym (answer-in-order c s words)
    where
      go : (x : Option Refusal) → refusal (before_walk c s words) ≡ x → or_else x (unreached c.n (call_walk c s own).reached) ≡ or_else x (unjoined c s)
      go none e = unreached-unjoined (checked c s words e)
      go (some r) e = refl

  -- and where it is done the first 16 · n words are the tree paths from s
  pub own-paths : refusal (matrix_path_causes c s words) ≡ none → take (column_words * c.n) (own_after c s words own) ≡ matrix_words (path_column c s) c.n
  unfolding own_after matrix_or
  own-paths e =
      let (before, joins) = none_first _ _ (sym (answer-in-order c s words) ∙ e) in
      rw before (walk-fills (checked c s words before) joins)

-- ── The caller's matrix ──

module _ (c : Call) (s : ℕ) (R own : List ℕ) (all : length own ≡ column_words * max_vertices) (o : Result ⊤ Refusal) (e : refusal_of o ≡ own_path c s (length R) own) where
  enough : Taken c → column_words * c.n ≤ length own
  enough t = omega (arith, t.few-vertices)

  answer : refusal_of o ≡ matrix_path c s R
  unfolding matrix_path
  answer = e ∙ own-answer c s (length R) own enough

  -- a refusal leaves it
  pub path-refuses : (r : Refusal) → o ≡ Err r → (x : Result ⊤ Refusal) → IsErrAnd x (λ y. y ≡ r) → (refusal_of x ≡ matrix_path c s R) × (R ≡ matrix_after c s R)
  path-refuses r was x on = (told x was on answer, refused-keeps c s R o r was answer)

  module _ (done : o ≡ Ok tt) where
    nothing : none ≡ matrix_path c s R
    unfolding refusal_of
    nothing = sym (ap refusal_of done) ∙ answer

    -- the checks are done
    pub path-settled : Checked c s (length R)
    unfolding matrix_path
    path-settled = checked c s (length R) (none_first _ _ (sym (answer-in-order c s (length R)) ∙ sym nothing)).0

    -- and the walk's words are copied
    pub path-fills : (l W : List ℕ) → l ≡ own_after c s (length R) own → W ≡ take (column_words * c.n) l ++ drop (column_words * c.n) R → (refusal_of {A = ⊤} (Ok tt) ≡ matrix_path c s R) × (W ≡ matrix_after c s R)
    unfolding refusal_of matrix_path
    path-fills l W filled copied =
        let words = ap (take (column_words * c.n)) filled ∙ own-paths c s (length R) own enough (sym nothing) in
        (nothing, copied ∙ ap (λ (k : List ℕ). k ++ drop (column_words * c.n) R) words ∙ sym (done-fills c s R nothing))
