-- Laws of the number of an end. Assumes nothing.
use Prim.Native.Nat.{ℕ, ◌+◌, ◌≤◌, ◌<◌, max}
use borrow.Author.Tests.{le-ltb, ltb-true, ltb-false}
use lib.Dec.{ltb}
use lib.ListN.{length, take, set, length-append}
use lib.Seq.{take-suc-set}
use mathlib.Core.Bool.{Bool, true, false}
use mathlib.Core.List.{List, [], ◌∷◌, ◌++◌}
use mathlib.Core.Path.{◌≡◌, refl}
use native.Mathlib.Numerals.{add-one}
use native.Mathlib.Omega.{arith}
use Rattle.file_spec.specs.Names.{position, met, met_at}
use Rattle.file_text.specs.Steps.Spans.{names_of, Within}
use Rattle.file_text.proofs.Found.{names-length}
use Rattle.file_text.proofs.Meeting.{position-met}
use Rattle.file_spec.specs.Line.{number, name}
use Rattle.file_spec.specs.Reader.{met_end, met_end_at, number_in}
use Rattle.file_reader.specs.Steps.State.{EndMet}

pub names-all : (text s e : List ℕ) (count : ℕ) → length (names_of text s e count) ≡ count
unfolding names_of
names-all text s e count = names-length text s e 0 count

module _ (text s e : List ℕ) (count at : ℕ) where
  pub kept-number : (v : ℕ) → count ≤ 255 → Within text s e count → EndMet text s e at (number v) (names_of text s e count) (take count s) (record { number = v; count = count })
  unfolding met_end met_end_at number_in
  kept-number v k i = record { names = refl; places-met = refl; number-met = refl; few = k; kept = i }

module _ (text s e : List ℕ) (count : ℕ) (w : List ℕ) (k : ℕ) (p : k ≡ position w (names_of text s e count)) (h : k ≤ count) (c : count ≤ 255) where
  pub no_room : k ≡ 255 → 255 < length (met_end (name w) (names_of text s e count))
  unfolding met_end met
  no_room g =
      let n : length (names_of text s e count) ≡ count = names-all text s e count in
      let l : ltb (position w (names_of text s e count)) (length (names_of text s e count)) ≡ false = le-ltb (position w (names_of text s e count)) (length (names_of text s e count)) (omega arith) in
      rw l (omega (arith, length-append (names_of text s e count) (w ∷ [])))

  pub met-name : (s' e' : List ℕ) (at : ℕ) → k < 255 → names_of text s' e' (max count (k + 1)) ≡ met w (names_of text s e count) → take (max count (k + 1)) s' ≡ met_at at w (names_of text s e count) (take count s) → Within text s' e' (max count (k + 1)) → (n : ℕ) → n ≡ max count (k + 1)
      → EndMet text s' e' at (name w) (names_of text s e count) (take count s) (record { number = k + 1; count = n })
  unfolding met_end met_end_at number_in
  met-name s' e' at g m a i n q =
      rw q
      (record {
        names = m;
        places-met = a;
        number-met = rw (position-met w (names_of text s e count)) (omega arith);
        few = omega arith;
        kept = i;
      })

pub stored : (l : List ℕ) (k v : ℕ) → k < length l → take (k + 1) (set l k v) ≡ take k l ++ (v ∷ [])
stored l k v h = rw (add-one k) (take-suc-set l k v h)

pub below : (k : ℕ) → k ≤ 255 → (k ≡ 255 → ⊥) → k < 255
below k h n = go (ltb k 255) refl
  where
    go : (x : Bool) → ltb k 255 ≡ x → k < 255
    go true e = ltb-true k 255 e
    go false e = absurd (n (omega (arith, ltb-false k 255 e)))
