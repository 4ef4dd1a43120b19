-- The ends of runs read one after the other: whether they rise.
-- Assumes nothing.
use Prim.Native.Nat.{ℕ, ◌+◌, ◌≤◌, ◌<◌}
use borrow.Author.Tests.{lt-ltb, le-ltb}
use lib.Dec.{eqb}
use lib.ListN.{length, get_or, drop, drop_of_length-le}
use lib.Seq.{drop-cons}
use mathlib.Core.Bool.{false}
use mathlib.Core.List.{List}
use mathlib.Core.Path.{◌≡◌, sym, ◌∙◌, ap}
use native.Mathlib.Numerals.{add-one}
use Rattle.districts_theory.specs.Districts.{rises_to}

module _ (ends : List ℕ) (m p j : ℕ) (inv : rises_to m p (drop j ends) ≡ rises_to m 0 ends) where
  -- an end that is not above the one before
  pub rises-not : j < length ends → get_or ends j 0 ≤ p → false ≡ rises_to m 0 ends
  unfolding rises_to
  rises-not h l = sym (ap (rises_to m p) (drop-cons ends j 0 h) ∙ rw (le-ltb p (get_or ends j 0) l)) ∙ inv

  -- an end that is
  pub rises-more : j < length ends → p < get_or ends j 0 → rises_to m (get_or ends j 0) (drop (j + 1) ends) ≡ rises_to m 0 ends
  unfolding rises_to
  rises-more h l = rw add-one (sym (ap (rises_to m p) (drop-cons ends j 0 h) ∙ rw (lt-ltb p (get_or ends j 0) l)) ∙ inv)

  -- no end left
  pub rises-last : length ends ≤ j → eqb p m ≡ rises_to m 0 ends
  unfolding rises_to
  rises-last h = sym (ap (rises_to m p) (drop_of_length-le ends h)) ∙ inv
