-- The bytes and the columns of star_import mean what they should: what is read back is the answer's own fields, and the theorem of imports says what they are worth.
-- Assumes nothing.
use Prim.Native.Nat.{ℕ, ◌≤◌, ◌<◌}
use lib.IntN.{pos}
use lib.ListN.{length}
use mathlib.Core.Bool.{Bool, cond}
use mathlib.Core.List.{List}
use mathlib.Core.Logic.{⊎_elim}
use mathlib.Core.Option.{Option, none, some}
use mathlib.Core.Path.{◌≡◌, refl, sym, ap, ◌∙◌, subst}
use native.Mathlib.Omega.{arith}
use Rattle.star_meaning.proofs.Bytes.{Fits, lent-well, lent-ill, returns_one, returns-zero, after_kept, read_back_lem}
use Rattle.star_meaning.proofs.Demand3.{apart}
use Rattle.star_meaning.specs.Bytes.{Written}
use Rattle.stp_meaning.specs.Bytes.{import_of, ReadMeans, ImportCall, ImportDoorMeans}
use Rattle.refusal.specs.declared.Refusal.{Refusal}
use Rattle.star_spec.proofs.Accepted.{none-nil, some-cons, some-cause, some-cause_at, accepted-means}
use Rattle.star_spec.specs.Door.{read_back, well_lent, door_returns, answer_after}
use Rattle.star_spec.specs.Refusals.{cause, cause_at, bad_vertices, too_many_rows, bad_row, repeated_row, or_else, refusal}
use Rattle.stp_spec.proofs.Accepted.{import-holds}
use Rattle.stp_spec.proofs.Places.{places-hold}
use Rattle.stp_spec.specs.Door.{import_fields, import_door, left_door, right_door, weight_door}
use Rattle.stp_spec.specs.Import.{bad_columns, bad_edges, import_causes, ImportAnswer, untaken, taken, sizes, answered, imported, read_text, left_after, right_after, weight_after}
use Rattle.stp_spec.specs.Reader.{Read, Reading, broken, whole}

-- ── The answers ──

-- an answer's number, and whether it is taken
number_of : ImportAnswer → ℕ
number_of (untaken r) = r.number
number_of (taken n m) = 0

taken_of : ImportAnswer → ℕ
taken_of (untaken r) = 0
taken_of (taken n m) = 1

taken-untaken : {r : Refusal} {n m : ℕ} → taken n m ≡ untaken r → ⊥
unfolding taken_of
taken-untaken e = let z : ◌≡◌ {A = ℕ} 1 0 = ap taken_of e in absurd (omega arith)

-- the number of a refusal fits a byte
cause-number : (r : Refusal) (k p : ℕ) (b : Bool) → k < 256 → cause b k p ≡ some r → r.number < 256
cause-number r k p b h e = subst (λ q. q.number < 256) (some-cause b k p r e).1 h

row_number : (r : Refusal) (k i : ℕ) → k < 256 → cause_at k i ≡ some r → r.number < 256
row_number r k i h e = let (j, u, q) = some-cause_at k i r e in subst (λ x. x.number < 256) q h

-- the number of a refused import
broken-number : (place l r w : ℕ) (q : Refusal) → answered (refusal (import_causes (broken place) l r w)) (broken place) ≡ untaken q → q.number < 256
unfolding answered import_causes refusal or_else number_of
broken-number place l r w q e = let z : 12 ≡ q.number = ap number_of e in omega arith

cause-of : (t : Read) (l r w : ℕ) (c : Refusal) → refusal (import_causes (whole t) l r w) ≡ some c → c.number < 256
unfolding import_causes bad_edges bad_vertices too_many_rows bad_columns bad_row repeated_row
cause-of t l r w c z =
    ⊎_elim (cause-number c 13 0 _ (omega arith)) (λ h.
    ⊎_elim (cause-number c 1 0 _ (omega arith)) (λ k.
    ⊎_elim (cause-number c 2 0 _ (omega arith)) (λ i.
    ⊎_elim (cause-number c 3 0 _ (omega arith)) (λ j.
    ⊎_elim (row_number c 4 _ (omega arith)) (λ y.
    ⊎_elim (row_number c 15 _ (omega arith)) (λ x. absurd (apart c (sym x.1 ∙ none-nil))) (some-cons _ _ c y.1))
    (some-cons _ _ c j.1))
    (some-cons _ _ c i.1)) (some-cons _ _ c k.1)) (some-cons _ _ c h.1)) (some-cons _ _ c z)

whole-number : (t : Read) (l r w : ℕ) (q : Refusal) → answered (refusal (import_causes (whole t) l r w)) (whole t) ≡ untaken q → q.number < 256
unfolding answered sizes number_of
whole-number t l r w q e = go (refusal (import_causes (whole t) l r w)) refl
  where
    go : (o : Option Refusal) → refusal (import_causes (whole t) l r w) ≡ o → q.number < 256
    go none z = let told : taken t.nodes t.rows ≡ untaken q = sym (ap (λ o. answered o (whole t)) z) ∙ e in absurd (taken-untaken told)
    go (some c) z = let same : c.number ≡ q.number = ap number_of (sym (ap (λ o. answered o (whole t)) z) ∙ e) in subst (λ k. k < 256) same (cause-of t l r w c z)

reading-number : (x : Reading) (l r w : ℕ) (q : Refusal) → answered (refusal (import_causes x l r w)) x ≡ untaken q → q.number < 256
reading-number (broken place) l r w q e = broken-number place l r w q e
reading-number (whole t) l r w q e = whole-number t l r w q e

import-number : (text left right weight : List ℕ) (q : Refusal) → import_of text left right weight ≡ untaken q → q.number < 256
unfolding imported
import-number text left right weight q e = reading-number (read_text text) (length left) (length right) (length weight) q e

-- the fields of each answer
taken-fits : (n m : ℕ) → n ≤ 255 → m ≤ 1024 → Fits (import_fields (taken n m))
unfolding import_fields
taken-fits n m h k = record { kind = omega arith; number = omega arith; out = omega arith; into = omega arith; only = omega arith; amount = omega arith }

untaken-fits : (r : Refusal) → r.number < 256 → r.place < 9223372036854775808 → Fits (import_fields (untaken r))
unfolding import_fields
untaken-fits r h k = record { kind = omega arith; number = h; out = omega arith; into = omega arith; only = omega arith; amount = omega arith }

-- ── The door ──

module _ (text left right weight answer : List ℕ) (e : length answer ≡ 16) where
  abbrev after : List ℕ
  after = answer_after answer (import_fields (import_of text left right weight))

  fits : (x : ImportAnswer) → import_of text left right weight ≡ x → Fits (import_fields x)
  fits (taken n m) q = let t = (import-holds text left right weight).takes n m q in taken-fits n m t.few-vertices t.few-rows
  fits (untaken r) q =
      untaken-fits r (import-number text left right weight r q) (omega (arith, (places-hold text (length left) (length right) (length weight) r q).few_bytes))

  -- what is written is the answer
  back : (x : ImportAnswer) → import_of text left right weight ≡ x → Written after (import_fields x)
  back x q = subst (λ y. Written after (import_fields y)) q (read_back_lem answer _ (fits _ refl) e)

  taken-written : (n m : ℕ) → import_of text left right weight ≡ taken n m → ((read_back after).kind ≡ 1) × ((read_back after).out ≡ n) × ((read_back after).into ≡ m)
  unfolding import_fields
  taken-written n m q = let f = (back (taken n m) q).fields in (ap (λ x. x.kind) f, ap (λ x. x.out) f, ap (λ x. x.into) f)

  untaken-written : (r : Refusal) → import_of text left right weight ≡ untaken r
      → ((read_back after).kind ≡ 0) × ((read_back after).number ≡ r.number) × ((read_back after).amount ≡ pos r.place)
  unfolding import_fields
  untaken-written r q = let f = (back (untaken r) q).fields in (ap (λ x. x.kind) f, ap (λ x. x.number) f, ap (λ x. x.amount) f)

  kind-taken : (read_back after).kind ≡ 1 → (n m : ℕ) × (import_of text left right weight ≡ taken n m)
  kind-taken k = go (import_of text left right weight) refl
    where
      go : (x : ImportAnswer) → import_of text left right weight ≡ x → (n m : ℕ) × (import_of text left right weight ≡ taken n m)
      go (taken n m) q = (n, m, q)
      go (untaken r) q = let z = (untaken-written r q).0 in absurd (omega arith)

  read-means : (n m : ℕ) → import_of text left right weight ≡ taken n m
      → ReadMeans text left right weight (left_after text left right weight) (right_after text left right weight) (weight_after text left right weight) n m
  read-means n m q =
      let t = (import-holds text left right weight).takes n m q in
      record {
        table = λ claim h. (accepted-means _).0 (t.accepted claim h);
        few-rows = t.few-rows;
        nodes-said = t.nodes-said;
        edges-said = t.edges-said;
        lines-read = t.lines-read;
        left-rows = t.left-rows;
        right-rows = t.right-rows;
        weight-rows = t.weight-rows;
        left-kept = t.left-kept;
        right_kept = t.right_kept;
        weight-kept = t.weight-kept;
      }

pub import-door-means : ImportDoorMeans
unfolding import_door left_door right_door weight_door
import-door-means text left right weight answer =
    record {
      declined = λ n. (returns-zero answer n, after_kept answer _ n, lent-ill answer _ left n, lent-ill answer _ right n, lent-ill answer _ weight n);
      returns = λ e. (returns_one answer e, (back text left right weight answer e _ refl).sixteen);
      told = λ e. (kind-taken text left right weight answer e, λ h. let (n, m, q) = h in (taken-written text left right weight answer e n m q).0);
      read = λ e k. let (n, m, q) = kind-taken text left right weight answer e k in reads e n m q;
      refused = λ e r q. let w = untaken-written text left right weight answer e r q in (w.0, w.1);
      place = λ e r q. (untaken-written text left right weight answer e r q).2;
      kept = λ e n. keeps e n (import_of text left right weight) refl;
    }
  where
    reads : (e : length answer ≡ 16) (n m : ℕ) → import_of text left right weight ≡ taken n m
        → ReadMeans text left right weight (cond (well_lent answer) (left_after text left right weight) left) (cond (well_lent answer) (right_after text left right weight) right)
        (cond (well_lent answer) (weight_after text left right weight) weight)
        (read_back (after text left right weight answer e)).out (read_back (after text left right weight answer e)).into
    reads e n m q =
        let (kind, first, second) = taken-written text left right weight answer e n m q in
        rw (first, second, lent-well answer (left_after text left right weight) left e, lent-well answer (right_after text left right weight) right e, lent-well answer (weight_after text left right weight) weight e)
        (read-means text left right weight answer e n m q)

    keeps : (e : length answer ≡ 16) → ((read_back (after text left right weight answer e)).kind ≡ 1 → ⊥) → (x : ImportAnswer) → import_of text left right weight ≡ x
        → (cond (well_lent answer) (left_after text left right weight) left ≡ left)
        × (cond (well_lent answer) (right_after text left right weight) right ≡ right)
        × (cond (well_lent answer) (weight_after text left right weight) weight ≡ weight)
    keeps e n (taken k m) q = absurd (n (taken-written text left right weight answer e k m q).0)
    keeps e n (untaken r) q =
        let h = (import-holds text left right weight).refuses r q in
        (lent-well answer _ left e ∙ h.left-kept, lent-well answer _ right e ∙ h.right_kept, lent-well answer _ weight e ∙ h.weight-kept)

-- a door that returns and leaves what the definitions say is such a call
pub import-call : {text left right weight answer after left' right' weight' : List ℕ} {r : ℕ}
    → (r ≡ door_returns answer) × ((after ≡ import_door text left right weight answer) × ((left' ≡ left_door text left right weight answer) × ((right' ≡ right_door text left right weight answer) × (weight' ≡ weight_door text left right weight answer))))
    → (r ≡ door_returns answer) × ((after ≡ import_door text left right weight answer) × ((left' ≡ left_door text left right weight answer) × ((right' ≡ right_door text left right weight answer) × ((weight' ≡ weight_door text left right weight answer) × ImportCall text left right weight answer after left' right' weight' r))))
import-call {text} {left} {right} {weight} {answer} {after} {left'} {right'} {weight'} {r} h = (
  h.0,
  (
    h.1.0,
    (
      h.1.1.0,
      (
        h.1.1.1.0,
        (
          h.1.1.1.1,
          subst (λ x. ImportCall text left right weight answer after left' right' weight' x) (sym h.0)
              (subst (λ x. ImportCall text left right weight answer after left' right' x (door_returns answer)) (sym h.1.1.1.1)
              (subst (λ x. ImportCall text left right weight answer after left' x (weight_door text left right weight answer) (door_returns answer)) (sym h.1.1.1.0)
              (subst (λ x. ImportCall text left right weight answer after x (right_door text left right weight answer) (weight_door text left right weight answer) (door_returns answer)) (sym h.1.1.0)
              (subst (λ x. ImportCall text left right weight answer x (left_door text left right weight answer) (right_door text left right weight answer) (weight_door text left right weight answer) (door_returns answer)) (sym h.1.0)
              (import-door-means text left right weight answer))))),
        ),
      ),
    ),
  ),
)
