-- The console's door: the sixteen bytes of an answer, and what a call through the door returns and leaves.
-- Assumes nothing.
use Rattle.std.specs.Prelude.{ℕ, zero, suc, ◌/◌, ◌%◌, Bool, true, false, cond, List, [], ◌∷◌, ◌++◌, eqb, ℤ, pos, length}
use Rattle.std.proofs.Math.Option.{Option, none, some}
use Rattle.refusal.specs.declared.Refusal.{Refusal}
use Rattle.rowset.specs.Bytes.{little}
use Rattle.rowset.specs.Integers.{from_bits, to_bits}
use Rattle.star_spec.specs.Call.{Call}
use Rattle.star_spec.specs.Cst.{Answer, refused, passed, lighter, cst, EqualRows, equal_rows}
use Rattle.star_spec.specs.MatrixPath.{matrix_path, matrix_after}
use Rattle.star_spec.specs.Mst1.{BuildAnswer, unbuilt, tree_built, mst1, mst1_marks}

-- the fields of an answer: the kind, the refusal's number, out or the refusal's place, in, whether the tree is the only cheapest one, and the weight or the saving; a field that a kind lacks is 0
pub record Fields : Type 0 where
  pub kind : ℕ
  pub number : ℕ
  pub out : ℕ
  pub into : ℕ
  pub only : ℕ
  pub amount : ℤ

-- CST's: yes is 1 and no is 0, and so is every other answer's
unfoldable pub fields : Answer → Fields
fields (refused r) = record { kind = 0; number = r.number; out = r.place; into = 0; only = 0; amount = pos 0 }
fields (passed weight only) = record { kind = 1; number = 0; out = 0; into = 0; only = cond only 1 0; amount = weight }
fields (lighter out into saving) = record { kind = 2; number = 0; out = out; into = into; only = 0; amount = pos saving }

-- MST1's, which say nothing about other trees
unfoldable pub built_fields : BuildAnswer → Fields
built_fields (unbuilt r) = record { kind = 0; number = r.number; out = r.place; into = 0; only = 0; amount = pos 0 }
built_fields (tree_built weight) = record { kind = 1; number = 0; out = 0; into = 0; only = 0; amount = weight }

-- CST's with an exchange: where the claim passes and another tree weighs the same, out and in are the rows of an exchange that gives one; otherwise just as CST's
unfoldable pub fields_beside : Answer → EqualRows → Fields
fields_beside (refused r) x = fields (refused r)
fields_beside (passed weight true) x = fields (passed weight true)
fields_beside (passed weight false) x = record { kind = 1; number = 0; out = x.out; into = x.into; only = 0; amount = weight }
fields_beside (lighter out into saving) x = fields (lighter out into saving)

unfoldable pub other_fields : Call → Fields
other_fields c = fields_beside (cst c) (equal_rows c)

-- the k bytes of a number, least significant first
unfoldable pub bytes_of : ℕ → ℕ → List ℕ
bytes_of zero x = []
bytes_of (suc k) x = x % 256 ∷ bytes_of k (x / 256)

-- byte 0 the kind, byte 1 the number, bytes 2 and 3 out or place, bytes 4 and 5 in, byte 6 whether the tree is the only one, byte 7 zero, bytes 8 to 15 the weight or the saving in two's complement
unfoldable pub field_bytes : Fields → List ℕ
field_bytes f =
    bytes_of 1 f.kind ++ bytes_of 1 f.number ++ bytes_of 2 f.out ++ bytes_of 2 f.into ++ bytes_of 1 f.only
    ++ bytes_of 1 0
    ++ bytes_of 8 (to_bits 64 f.amount)

-- the fields that are read back from sixteen bytes
unfoldable pub read_back : List ℕ → Fields
read_back l =
    record { kind = little l 0 1; number = little l 1 1; out = little l 2 2; into = little l 4 2; only = little l 6 1; amount = from_bits 64 (little l 8 8) }

-- whether the lent answer has sixteen bytes; otherwise the call returns 0 and writes nothing
unfoldable pub well_lent : List ℕ → Bool
well_lent answer = eqb (length answer) 16

unfoldable pub door_returns : List ℕ → ℕ
door_returns answer = cond (well_lent answer) 1 0

-- the lent answer with these fields written, for CST, for MST1, and for CST with an exchange
unfoldable pub answer_after : List ℕ → Fields → List ℕ
answer_after answer f = cond (well_lent answer) (field_bytes f) answer

unfoldable pub cst_door : Call → List ℕ → List ℕ
cst_door c answer = answer_after answer (fields (cst c))

unfoldable pub mst1_door : Call → List ℕ → List ℕ
mst1_door c answer = answer_after answer (built_fields (mst1 c))

unfoldable pub other_door : Call → List ℕ → List ℕ
other_door c answer = answer_after answer (other_fields c)

-- the mark column after MST1 was called through the door; CST writes no mark
unfoldable pub mst1_door_marks : Call → List ℕ → List ℕ
mst1_door_marks c answer = cond (well_lent answer) (mst1_marks c) c.mark

-- the fields of what is done or refused, MatrixPath's among them: done is kind 1 and all else 0; a refusal is told as CST's
unfoldable pub outcome_fields : Option Refusal → Fields
outcome_fields none = record { kind = 1; number = 0; out = 0; into = 0; only = 0; amount = pos 0 }
outcome_fields (some r) = fields (refused r)

-- the lent answer after MatrixPath from s was called through the door, with R lent as its matrix
unfoldable pub paths_door : Call → ℕ → List ℕ → List ℕ → List ℕ
paths_door c s R answer = answer_after answer (outcome_fields (matrix_path c s R))

-- R after that call
unfoldable pub paths_door_matrix : Call → ℕ → List ℕ → List ℕ → List ℕ
paths_door_matrix c s R answer = cond (well_lent answer) (matrix_after c s R) R
