-- The bytes and the columns of star_read_table mean what they should: what is read back is the answer's own fields, and the theorems on texts say what they are worth.
-- Assumes nothing.
use Prim.Native.Nat.{ℕ, ◌≤◌, ◌<◌}
use lib.IntN.{pos}
use lib.ListN.{length, get_or}
use mathlib.Core.Bool.{Bool, true, false, cond}
use mathlib.Core.List.{List}
use mathlib.Core.Logic.{◌⊎◌, ⊎_elim}
use mathlib.Core.Path.{◌≡◌, refl, sym, ap, ◌∙◌, subst}
use native.Mathlib.Omega.{arith}
use Rattle.file_door_meaning.proofs.Checked.{file-checked}
use Rattle.file_door_meaning.proofs.Left.{n-most, words-in, table-left}
use Rattle.file_door_meaning.proofs.Taken.{TakenFile, taken-file, taken-exactly, refusals-told, places-small, no-taken}
use Rattle.file_door_meaning.specs.Bytes.{TableLeft, FileChecked, ReadTableCall}
use Rattle.file_door_meaning.specs.TableText.{TableText, RefusalTold}
use Rattle.file_meaning.proofs.FileCall.{lent-after, file-calls}
use Rattle.file_meaning.specs.FileCall.{call_after, file_graph, FileCall}
use Rattle.file_meaning.proofs.Means.{readings-mean}
use Rattle.file_spec.specs.Door.{file_fields, file_door, file_door_lent}
use Rattle.file_spec.specs.Reader.{Read, Reading, broken, read, junctions}
use Rattle.file_spec.specs.Table.{Lent, FileAnswer, untaken, taken, file_answer, wrong_lent, lent_over, lent_after, reading, answered, answered_if, filled, filled_if, max_text}
use Rattle.rowset.proofs.Signed.{natural-bits}
use Rattle.rowset.specs.Words.{in_words}
use Rattle.star_meaning.proofs.Bytes.{Fits, lent-well, lent-ill, returns_one, returns-zero, after_kept, read_back_lem}
use Rattle.star_meaning.specs.Bytes.{Written}
use Rattle.star_spec.specs.Door.{Fields, read_back, well_lent, door_returns, answer_after}

-- ── The fields fit their bytes ──

taken-fits : (n names rows : ℕ) → n ≤ 4294967295 → names ≤ 255 → rows ≤ 1024 → Fits (file_fields (taken n names rows))
unfolding file_fields
taken-fits n names rows h i j = record { kind = omega arith; number = omega arith; out = omega arith; into = omega arith; only = omega arith; amount = omega arith }

abbrev refused_fields : ℕ → ℕ → Fields
refused_fields number place = record { kind = 0; number = number; out = 0; into = 0; only = 0; amount = pos place }

refused-are : (number place : ℕ) → place < 9223372036854775808 → file_fields (untaken number place) ≡ refused_fields number place
unfolding file_fields
refused-are number place h = rw (natural-bits 63 place h)

refused-fits : (number place : ℕ) → number < 256 → place < 9223372036854775808 → Fits (refused_fields number place)
refused-fits number place h i = record { kind = omega arith; number = h; out = omega arith; into = omega arith; only = omega arith; amount = omega arith }

-- a refusal's number and place are small
told-number : (text : List ℕ) (l : Lent) (number place : ℕ) → RefusalTold text l number place → number < 256
told-number text l number place t =
    ⊎_elim (λ h. omega (arith, h.1)) (λ h. ⊎_elim (λ k. omega (arith, k)) (λ k. ⊎_elim (λ i. omega (arith, i)) (λ i. omega (arith, i.1)) k) h.2) t

-- ── What is left of the columns ──

read_kept : (x : Reading) (l : Lent) (number place : ℕ) → answered x ≡ untaken number place → filled x l ≡ l
unfolding answered filled
read_kept (broken reason at) l number place q = refl
read_kept (read r) l number place q = absurd (no-taken (sym q))

untaken-kept : (text : List ℕ) (l : Lent) (number place : ℕ) → file_answer text l ≡ untaken number place → lent_after text l ≡ l
unfolding file_answer answered_if lent_after filled_if
untaken-kept text l number place e = go (wrong_lent l) e
  where
    go : (x : Bool) → answered_if x text ≡ untaken number place → filled_if x text l ≡ l
    go true q = refl
    go false q = read_kept (reading text) l number place q

-- a file that was taken, in columns that are what was left
file-told : (text : List ℕ) (l l' : Lent) → l' ≡ lent_after text l → (n names rows : ℕ) → file_answer text l ≡ taken n names rows
    → TableLeft text l l' n names rows × FileCall text n (call_after n l') × FileChecked text n l'
file-told text l l' e n names rows q =
    let t = taken-file text l n names rows q in
    let s = e ∙ lent-after text l t.r t.lent-well t.whole in
    let c = subst (λ x. FileCall text n (call_after n x)) (sym e) (file-calls text l n names rows q) in
    let w : (i : ℕ) → in_words l'.in_use i ≡ (file_graph text n).rows i = λ i. subst (λ k. in_words l'.in_use i ≡ (file_graph text k).rows i) t.n-is (ap (λ x. in_words x.in_use i) s ∙ words-in text t.r t.own l i) in
    (table-left text l l' n names rows t s, c, file-checked text n l' w c)

n-small : (text : List ℕ) (l : Lent) (n names rows : ℕ) → file_answer text l ≡ taken n names rows → n ≤ 4294967295
n-small text l n names rows q =
    let t = taken-file text l n names rows q in
    subst (λ k. k ≤ 4294967295) t.n-is (n-most text t.r t.own l)

-- ── The door ──

module _ (text : List ℕ) (l : Lent) (answer : List ℕ) (e : length answer ≡ 16) where
  abbrev after : List ℕ
  after = answer_after answer (file_fields (file_answer text l))

  taken-written : (n names rows : ℕ) → file_answer text l ≡ taken n names rows → Written after (file_fields (taken n names rows))
  taken-written n names rows q =
      let t = taken-file text l n names rows q in
      let m = readings-mean text t.r t.own in
      subst (λ x. Written (answer_after answer (file_fields x)) (file_fields (taken n names rows))) (sym q)
      (read_back_lem answer (file_fields (taken n names rows))
      (taken-fits n names rows (n-small text l n names rows q) (subst (λ k. k ≤ 255) t.names-are m.few-names) (subst (λ k. k ≤ 1024) t.rows_are (omega (arith, m.few-rows, m.lefts))))
      e)

  untaken-written : (number place : ℕ) → file_answer text l ≡ untaken number place → Written after (refused_fields number place)
  untaken-written number place q =
      let t = refusals-told text l number place q in
      let i : place < 9223372036854775808 = omega (arith, places-small text l number place q) in
      subst (λ x. Written (answer_after answer (file_fields x)) (refused_fields number place)) (sym q)
      (subst (λ x. Written (answer_after answer x) (refused_fields number place)) (sym (refused-are number place i))
      (read_back_lem answer (refused_fields number place) (refused-fits number place (told-number text l number place t) i) e))

  taken-told : (n names rows : ℕ) → file_answer text l ≡ taken n names rows
      → ((read_back after).kind ≡ 1) × ((read_back after).out ≡ names) × ((read_back after).into ≡ rows) × ((read_back after).amount ≡ pos n)
  unfolding file_fields
  taken-told n names rows q = let f = (taken-written n names rows q).fields in (ap (λ x. x.kind) f, ap (λ x. x.out) f, ap (λ x. x.into) f, ap (λ x. x.amount) f)

  untaken-told : (number place : ℕ) → file_answer text l ≡ untaken number place → ((read_back after).kind ≡ 0) × ((read_back after).number ≡ number) × ((read_back after).amount ≡ pos place)
  untaken-told number place q = let f = (untaken-written number place q).fields in (ap (λ x. x.kind) f, ap (λ x. x.number) f, ap (λ x. x.amount) f)

  -- the answer's bytes, by cases
  data Cases : Type 0 where
    was-taken : (n names rows : ℕ) → file_answer text l ≡ taken n names rows → Cases
    was-untaken : (number place : ℕ) → file_answer text l ≡ untaken number place → Cases

  cases : Cases
  cases = go (file_answer text l) refl
    where
      go : (x : FileAnswer) → file_answer text l ≡ x → Cases
      go (taken n names rows) q = was-taken n names rows q
      go (untaken number place) q = was-untaken number place q

  sixteen : Cases → (length after ≡ 16) × ((k : ℕ) → get_or after k 0 < 256)
  sixteen (was-taken n names rows q) = let w = taken-written n names rows q in (w.sixteen, w.bytes)
  sixteen (was-untaken number place q) = let w = untaken-written number place q in (w.sixteen, w.bytes)

  kind-small : Cases → (read_back after).kind ≤ 1
  kind-small (was-taken n names rows q) = omega (arith, (taken-told n names rows q).0)
  kind-small (was-untaken number place q) = omega (arith, (untaken-told number place q).0)

  kind-taken : Cases → (read_back after).kind ≡ 1 → (n names rows : ℕ) × (file_answer text l ≡ taken n names rows)
  kind-taken (was-taken n names rows q) k = (n, names, rows, q)
  kind-taken (was-untaken number place q) k = absurd (omega (arith, (untaken-told number place q).0))

  kind-untaken : Cases → (read_back after).kind ≡ 0 → (number place : ℕ) × (file_answer text l ≡ untaken number place)
  kind-untaken (was-taken n names rows q) k = absurd (omega (arith, (taken-told n names rows q).0))
  kind-untaken (was-untaken number place q) k = (number, place, q)

  abbrev columns : Lent
  columns = cond (well_lent answer) (lent_after text l) l

  all_told : (read_back after).kind ≡ 1
      → (n : ℕ) × ((read_back after).amount ≡ pos n) × (n ≤ 4294967295) × TableLeft text l columns n (read_back after).out (read_back after).into × FileCall text n (call_after n columns) × FileChecked text n columns
  all_told k =
      let (n, names, rows, q) = kind-taken cases k in
      let (kind, out, into, amount) = taken-told n names rows q in
      let (t, c, f) = file-told text l columns (lent-well answer (lent_after text l) l e) n names rows q in
      (n, amount, n-small text l n names rows q, subst (λ x. TableLeft text l columns n x (read_back after).into) (sym out) (subst (λ x. TableLeft text l columns n names x) (sym into) t), c, f)

  all-refused : (read_back after).kind ≡ 0
      → (place : ℕ) × ((read_back after).amount ≡ pos place) × (file_answer text l ≡ untaken (read_back after).number place) × RefusalTold text l (read_back after).number place × (columns ≡ l)
  all-refused k =
      let (number, place, q) = kind-untaken cases k in
      let (kind, is, amount) = untaken-told number place q in
      (place, amount, q ∙ ap (λ x. untaken x place) (sym is), subst (λ x. RefusalTold text l x place) (sym is) (refusals-told text l number place q), lent-well answer (lent_after text l) l e ∙ untaken-kept text l number place q)

  done-told : wrong_lent l ≡ false × TableText text → (read_back after).kind ≡ 1
  done-told h =
      let (n, names, rows, q) = (taken-exactly text l).1 h in
      (taken-told n names rows q).0

-- the theorem: of every call through the door, whatever the text, the columns and the lent answer hold
pub read-table-means : (text : List ℕ) (l : Lent) (answer : List ℕ) → ReadTableCall text l (file_door_lent text l answer) answer (file_door text l answer) (door_returns answer)
unfolding file_door file_door_lent
read-table-means text l answer =
    record {
      declined = λ n. (returns-zero answer n, after_kept answer (file_fields (file_answer text l)) n, lent-ill answer (lent_after text l) l n);
      returns = λ e. let s = sixteen text l answer e (cases text l answer e) in (returns_one answer e, s.0, s.1);
      kinds = λ e. kind-small text l answer e (cases text l answer e);
      done = λ e. (λ k. (taken-exactly text l).0 (kind-taken text l answer e (cases text l answer e) k), done-told text l answer e);
      told = all_told text l answer;
      refused = all-refused text l answer;
    }

-- a door that returns and leaves what the definitions say is such a call
pub read-table-call : {text answer after : List ℕ} {l l' : Lent} {r : ℕ} → (r ≡ door_returns answer) × ((after ≡ file_door text l answer) × (l' ≡ file_door_lent text l answer))
    → (r ≡ door_returns answer) × ((after ≡ file_door text l answer) × ((l' ≡ file_door_lent text l answer) × ReadTableCall text l l' answer after r))
read-table-call {text} {answer} {after} {l} {l'} {r} h = (
  h.0,
  (
    h.1.0,
    (
      h.1.1,
      subst (λ x. ReadTableCall text l l' answer after x) (sym h.0)
          (subst (λ x. ReadTableCall text l l' answer x (door_returns answer)) (sym h.1.0)
          (subst (λ x. ReadTableCall text l x answer (file_door text l answer) (door_returns answer)) (sym h.1.1) (read-table-means text l answer))),
    ),
  ),
)
