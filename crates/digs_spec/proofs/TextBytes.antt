-- The sixteen bytes and the text of the dig list of an STP text mean what they should: a text that is taken is an accepted table, whose list it is; the fields of a list, and of 11, are those of the table's.
-- Assumes nothing.
use Prim.Native.Nat.{ℕ, ◌*◌}
use mathlib.Core.List.{List}
use mathlib.Core.Path.{◌≡◌, refl}
use lib.ListN.{length}
use Rattle.star_meaning.proofs.Demand3.{demand3}
use Rattle.digs_spec.proofs.Bytes.{lent, not-lent, unlisted-text, listed-means}
use Rattle.digs_spec.specs.Bytes.{ListedMeans}
use Rattle.digs_spec.specs.DigList.{ListAnswer, unlisted, built_list, table_list, read_list, text_list}
use Rattle.digs_spec.specs.Door.{list_fields, text_fields, list_returns, list_answered, with_list, list_text}
use Rattle.digs_spec.specs.TextBytes.{table_read, DigsTextCall, DigsTextDoorMeans}
use Rattle.refusal.specs.declared.Refusal.{Refusal}
use Rattle.rowset.specs.Bytes.{little}
use Rattle.star_spec.proofs.Accepted.{accepted-means}
use Rattle.star_spec.specs.Accepted.{AcceptedTable}
use Rattle.star_spec.specs.Call.{Call}
use Rattle.star_spec.specs.Door.{bytes_of, field_bytes, read_back}
use Rattle.star_spec.specs.Mst1.{BuildAnswer, unbuilt, tree_built, mst1}
use Rattle.star_spec.specs.Refusals.{Accepted, max_rows}
use Rattle.stp_spec.proofs.Accepted.{read_taken}
use Rattle.stp_spec.specs.Import.{untaken, taken, imported}

-- the two kinds of fields differ in the place of a refusal alone
same-fields : (c : Call) → Accepted c → text_fields (table_list c) ≡ list_fields (table_list c)
unfolding table_list built_list text_fields list_fields
same-fields c a = go (mst1 c) refl
  where
    go : (x : BuildAnswer) → mst1 c ≡ x → text_fields (built_list c x) ≡ list_fields (built_list c x)
    go (unbuilt r) e = rw ((demand3 c a).refuses-only r e)
    go (tree_built w) e = refl

text-kind : (r : Refusal) → (read_back (field_bytes (text_fields (unlisted r)))).kind ≡ 0
unfolding text_fields field_bytes bytes_of read_back little
text-kind r = refl

-- what is listed of a text: the list of the table that was read, or the import's refusal
list-taken : (stp : List ℕ) (n m : ℕ) → imported stp max_rows max_rows (4 * max_rows) ≡ taken n m → text_list stp ≡ table_list (table_read stp n)
unfolding text_list read_list
list-taken stp n m e = rw e

list-untaken : (stp : List ℕ) (r : Refusal) → imported stp max_rows max_rows (4 * max_rows) ≡ untaken r → text_list stp ≡ unlisted r
unfolding text_list read_list
list-untaken stp r e = rw e

text-sixteen : (a : ListAnswer) → length (field_bytes (text_fields a)) ≡ 16
unfolding field_bytes bytes_of
text-sixteen a = refl

pub digs-text-door-means : DigsTextDoorMeans
unfolding list_text list_answered list_returns
digs-text-door-means stp text answer =
    record {
      declined = λ n. rw (not-lent text answer n) (refl, refl, refl);
      returns = λ h. rw (lent text answer h) (refl, text-sixteen (text_list stp));
      means = λ h n m e. rw (lent text answer h) (read n m e);
      refused = λ h r e. rw (lent text answer h, list-untaken stp r e) (text-kind r, unlisted-text r text);
    }
  where
    read : (n m : ℕ) → imported stp max_rows max_rows (4 * max_rows) ≡ taken n m → AcceptedTable (table_read stp n) × ListedMeans (table_read stp n) (read_back (field_bytes (text_fields (text_list stp)))) (with_list (text_list stp) text)
    read n m e =
        let a = read_taken stp max_rows max_rows (4 * max_rows) n m e in
        ((accepted-means _).0 a, rw (list-taken stp n m e, same-fields (table_read stp n) a) (listed-means (table_read stp n) a text))

-- a door that returns and leaves what the definitions say is such a call
pub digs-text-call : {stp text answer written after : List ℕ} {r : ℕ}
    → (r ≡ list_returns text answer) × ((after ≡ list_answered text answer (text_fields (text_list stp))) × (written ≡ list_text (text_list stp) text answer))
    → (r ≡ list_returns text answer) × ((after ≡ list_answered text answer (text_fields (text_list stp))) × ((written ≡ list_text (text_list stp) text answer) × DigsTextCall stp text answer written after r))
digs-text-call {stp} {text} {answer} (p, (q, s)) = (p, (q, (s, rw (p, q, s) (digs-text-door-means stp text answer))))
