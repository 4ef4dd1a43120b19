-- A name's letters and bytes, as std says that some byte passes or all do. Assumes nothing.
use Prim.Native.Nat.{ℕ}
use mathlib.Core.Bool.{◌&&◌, and_comm}
use mathlib.Core.List.{List, [], ◌∷◌}
use mathlib.Core.Path.{◌≡◌, refl}
use Rattle.std.specs.List.{list_any, list_all}
use Rattle.file_spec.specs.Names.{is_letter, of_names, any_letter, all_of_names, is_name}

pub some-letter : (w : List ℕ) → any_letter w ≡ list_any is_letter w
unfolding any_letter
some-letter [] = refl
some-letter (b ∷ t) = rw (some-letter t)

each-of : (w : List ℕ) → all_of_names w ≡ list_all of_names w
unfolding all_of_names
each-of [] = refl
each-of (b ∷ t) = rw (each-of t)

pub named : (w : List ℕ) → is_name w ≡ (list_all of_names w && list_any is_letter w)
unfolding is_name
named w = rw (some-letter w, each-of w, and_comm (list_any is_letter w) (list_all of_names w))
