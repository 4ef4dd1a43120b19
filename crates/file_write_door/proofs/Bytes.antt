-- The sixteen bytes and the text of the writer's door mean what they should. Main statements: write-door-means, write-call.
-- Assumes nothing.
use Prim.Native.Nat.{ℕ, suc, ◌≤◌, ◌<◌}
use lib.IntN.{pos}
use lib.ListN.{length, take, drop}
use lib.Seq.{take_at, drop_at}
use mathlib.Core.Bool.{Bool, true, false, cond}
use mathlib.Core.List.{List, [], ◌∷◌, ◌++◌}
use mathlib.Core.Logic.{◌⊎◌, inl, inr}
use mathlib.Core.Option.{Option, none, some}
use mathlib.Core.Path.{◌≡◌, refl, sym, ap, ◌∙◌, subst}
use native.Mathlib.Omega.{arith}
use Rattle.file_spec.specs.Reader.{Read, read}
use Rattle.file_spec.specs.Table.{reading}
use Rattle.file_write_checks.specs.Checks.{write_cause}
use Rattle.file_writer.specs.Columns.{Sheet, trenches_of}
use Rattle.file_writer.specs.RoundTrip.{TableRead}
use Rattle.refusal.specs.declared.Refusal.{Refusal}
use Rattle.rowset.specs.Bytes.{little}
use lib.Signed.{mag}
use Rattle.star_meaning.proofs.Bytes.{Fits, lent-well, lent-ill, returns_one, returns-zero, after_kept, read_back_lem}
use Rattle.star_meaning.specs.Bytes.{Written}
use Rattle.star_spec.specs.Door.{Fields, bytes_of, field_bytes, read_back, well_lent, door_returns, answer_after}
use Rattle.file_write_door.proofs.Checked.{fits-size, fits-most, reads}
use Rattle.file_write_door.specs.Bytes.{WriteCall, WriteDoorMeans}
use Rattle.file_write_door.specs.Door.{sheet_text, write_fields, out_after, write_door, write_door_out}

-- ── The fields that are read back ──

fits : (text : List ℕ) → length text ≤ 16777216 → Fits (write_fields none text)
unfolding write_fields
fits text h = record { kind = omega arith; number = omega arith; out = omega arith; into = omega arith; only = omega arith; amount = omega arith }

refused-kind : (r : Refusal) (text : List ℕ) → (read_back (field_bytes (write_fields (some r) text))).kind ≡ 0
unfolding write_fields field_bytes bytes_of read_back little
refused-kind r text = refl

written-kind : (text : List ℕ) → (read_back (field_bytes (write_fields none text))).kind ≡ 1
unfolding write_fields field_bytes bytes_of read_back little
written-kind text = refl

sixteen : (c : Option Refusal) (text : List ℕ) → length (field_bytes (write_fields c text)) ≡ 16
unfolding field_bytes bytes_of
sixteen c text = refl

apart : (k : ℕ) → k ≡ 0 → k ≡ 1 → ⊥
apart k a b = omega arith

unlike : (k : ℕ) → k ≡ 1 → k ≡ 0 → ⊥
unlike k a b = omega arith

after-written : (answer : List ℕ) (f : Fields) → length answer ≡ 16 → answer_after answer f ≡ field_bytes f
unfolding answer_after
after-written answer f e = lent-well answer (field_bytes f) answer e

-- what the amount is
amount : (answer text : List ℕ) → length answer ≡ 16 → length text ≤ 16777216 → (read_back (answer_after answer (write_fields none text))).amount ≡ pos (length text)
unfolding write_fields
amount answer text e h = ap (λ f. f.amount) (read_back_lem answer (write_fields none text) (fits text h) e).fields

-- ── The lent text ──

front : (text out : List ℕ) → take (length text) (out_after none text out) ≡ text
unfolding out_after
front text out = take_at text (drop (length text) out) (length text) refl

behind : (text out : List ℕ) → drop (length text) (out_after none text out) ≡ drop (length text) out
unfolding out_after
behind text out = go text (drop (length text) out)
  where
    go : (t l : List ℕ) → drop (length t) (t ++ l) ≡ l
    go [] l = refl
    go (b ∷ t) l = go t l

-- ── A call ──

module _ (s n : ℕ) (x : Sheet) (out answer : List ℕ) (few : n ≤ 4294967295) where
  abbrev text : List ℕ
  text = sheet_text s n x

  kinds : (c : Option Refusal) → length answer ≡ 16 → ((read_back (answer_after answer (write_fields c text))).kind ≡ 0) ⊎ ((read_back (answer_after answer (write_fields c text))).kind ≡ 1)
  kinds none e = inr (rw (after-written answer (write_fields none text) e) (written-kind text))
  kinds (some r) e = inl (rw (after-written answer (write_fields (some r) text) e) (refused-kind r text))

  refused : (c : Option Refusal) → length answer ≡ 16 → (read_back (answer_after answer (write_fields c text))).kind ≡ 0 → out_after c text out ≡ out
  unfolding out_after
  refused none e k = absurd (apart _ k (rw (after-written answer (write_fields none text) e) (written-kind text)))
  refused (some r) e k = refl

  means : (c : Option Refusal) → write_cause s x (length out) ≡ c → length answer ≡ 16 → (read_back (answer_after answer (write_fields c text))).kind ≡ 1
      → (size : ℕ) × ((read_back (answer_after answer (write_fields c text))).amount ≡ pos size) × (size ≤ length out) × (drop size (out_after c text out) ≡ drop size out)
      × (q : Read) × (reading (take size (out_after c text out)) ≡ read q) × TableRead n (trenches_of x (length x.left)) q
  means (some r) h e k = absurd (unlike _ k (rw (after-written answer (write_fields (some r) text) e) (refused-kind r text)))
  means none h e k =
      let (q, p, t) = reads s n x (length out) few (sym h) in (
        length text,
        amount answer text e (fits-most s n x (length out) few (sym h)),
        fits-size s n x (length out) few (sym h),
        behind text out,
        q,
        ap reading (front text out) ∙ p,
        t,
      )

pub write-door-means : WriteDoorMeans
unfolding write_door write_door_out
write-door-means s n x out answer few =
    let c = write_cause s x (length out) in
    let t = sheet_text s n x in
    let lent : length answer ≡ 16 → cond (well_lent answer) (out_after c t out) out ≡ out_after c t out = λ e. lent-well answer (out_after c t out) out e in
    record {
      declined = λ h. (returns-zero answer h, after_kept answer (write_fields c t) h, lent-ill answer (out_after c t out) out h);
      returns = λ e. (returns_one answer e, ap length (after-written answer (write_fields c t) e) ∙ sixteen c t);
      kinds = kinds s n x out answer few c;
      refused = λ e k. lent e ∙ refused s n x out answer few c e k;
      means = λ e k. rw (lent e) (means s n x out answer few c refl e k);
    }

-- a door that returns and leaves what the definitions say is such a call
pub write-call : {s n : ℕ} {x : Sheet} {out answer written after : List ℕ} {r : ℕ} → n ≤ 4294967295
    → (r ≡ door_returns answer) × ((after ≡ write_door s n x out answer) × (written ≡ write_door_out s n x out answer))
    → (r ≡ door_returns answer) × ((after ≡ write_door s n x out answer) × ((written ≡ write_door_out s n x out answer) × WriteCall s n x out answer written after r))
write-call {s} {n} {x} {out} {answer} few (p, (q, w)) = (p, (q, (w, rw (p, q, w) (write-door-means s n x out answer few))))
