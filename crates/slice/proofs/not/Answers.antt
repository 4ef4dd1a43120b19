-- `slice::not` meets its contract: xor with the full slice. Assumes nothing.
use Prim.Native.Nat.{ℕ}
use mathlib.Core.Bool.{Bool, true, false, not, xor, ◌&&◌}
use mathlib.Core.Path.{◌≡◌, refl, ap, ◌∙◌, fun_ext}
use Rattle.rowset.specs.Sets.{up_to, one_of, without}
use Rattle.slice.specs.Slices.{size, component}
use Rattle.slice.specs.declared.Slice.{Slice}
use Rattle.slice.proofs.Bits.{xor-true}
use Rattle.slice.proofs.Laws.{component-outside}
use Rattle.slice.proofs.not.Goals as goal

complement : (x : Slice) → one_of (component x) (up_to size) ≡ without (up_to size) (component x)
unfolding one_of without xor
complement x = fun_ext (λ i. go i (up_to size i) refl)
  where
    go : (i : ℕ) (b : Bool) → up_to size i ≡ b → xor (component x i) b ≡ (b && not (component x i))
    go i true e = xor-true (component x i)
    go i false e = rw (component-outside x i e)

pub returns : goal.returns
returns c = c.xor.ensures ∙ ap (one_of (component _)) c.full.ensures ∙ complement _
