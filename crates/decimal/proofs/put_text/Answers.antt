-- `decimal::put_text` meets its contract. The loop's invariant: the first bytes of the text were put. Assumes nothing.
use Prim.Native.Nat.{ℕ, ◌+◌, ◌≤◌, ◌<◌}
use lib.ListN.{length, take, get_or}
use lib.Seq.{take-suc, take_all}
use mathlib.Core.List.{List, [], ◌∷◌}
use mathlib.Core.Path.{refl}
use native.Mathlib.Numerals.{add-one}
use native.Mathlib.Omega.{arith}
use Rattle.decimal.proofs.Laws.{puts-append, puts-length}
use Rattle.decimal.specs.Puts.{Puts}
use Rattle.decimal.proofs.put_text.Goals as goal

-- one byte more
more : (text : List ℕ) (i : ℕ) {out₀ out out' : List ℕ} {at next next' : ℕ} → i < length text → Puts out₀ at (take i text) out next → Puts out next (get_or text i 0 ∷ []) out' next' → Puts out₀ at (take (i + 1) text) out' next'
more text i h p q = rw (add-one i, take-suc text i 0 h) (puts-append p q)

-- all of them
all : (text : List ℕ) (i : ℕ) {out₀ out : List ℕ} {at next : ℕ} → length text ≤ i → Puts out₀ at (take i text) out next → Puts out₀ at text out next
all text i h p = rw (take_all i text h) at p

pub loop-b-init : goal.loop-b-init
loop-b-init c = record { column = refl; place = omega arith }

pub loop-b-preserved : goal.loop-b-preserved
loop-b-preserved c = more c.args.text.now c.loop-b.b-index (omega arith) c.loop-b.invariant c.put_byte-next.ensures

pub shape_of-out : goal.shape_of-out
shape_of-out c = puts-length c.loop-b.invariant

pub returns : goal.returns
returns c = all c.args.text.now c.loop-b.b-index (omega arith) c.loop-b.invariant
