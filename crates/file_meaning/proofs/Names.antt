-- Names and numbers of junctions while trenches are read: a name that is met keeps its number, and every name among those met is an end's.
-- Assumes nothing.
use Prim.Native.Nat.{ℕ, zero, suc, ◌+◌, ◌≤◌, ◌<◌}
use borrow.Author.Tests.{ltb-true, ltb-false}
use lib.Dec.{ltb}
use lib.ListN.{length, get_or, length-append, get_or-append}
use lib.Seq.{get_or_at}
use mathlib.Core.Bool.{Bool, true, false, cond}
use mathlib.Core.List.Memᴰ
use mathlib.Core.List.{List, [], ◌∷◌, ◌++◌, Memᴰ}
use mathlib.Core.Logic.{◌⊎◌, inl, inr, ⊎_elim}
use mathlib.Core.Path.{◌≡◌, refl, sym, ap, ◌∙◌, subst}
use native.Mathlib.Omega.{arith}
use Rattle.file_text.proofs.Meeting.{equal-self, equal-same, position-high, position-added, position-met, position-kept, position-tells}
use Rattle.file_spec.specs.Names.{equal, position, met}
use Rattle.file_spec.specs.Line.{Trench, End, number, name}
use Rattle.file_spec.specs.Reader.{met_end, number_in}
use Rattle.file_meaning.specs.Means.{EndOf, here-left, here-right, later, names_over}

-- ── One name ──

pub met-longer : (w : List ℕ) (ns : List (List ℕ)) → length ns ≤ length (met w ns)
unfolding met
met-longer w ns = go (ltb (position w ns) (length ns))
  where
    go : (x : Bool) → length ns ≤ length (cond x ns (ns ++ (w ∷ [])))
    go true = omega arith
    go false = omega (arith, length-append ns (w ∷ []))

met-old : (w : List ℕ) (ns : List (List ℕ)) → ltb (position w ns) (length ns) ≡ true → met w ns ≡ ns
unfolding met
met-old w ns e = rw e

met-new : (w : List ℕ) (ns : List (List ℕ)) → ltb (position w ns) (length ns) ≡ false → met w ns ≡ ns ++ (w ∷ [])
unfolding met
met-new w ns e = rw e

met-self : (w : List ℕ) (ns : List (List ℕ)) → position w (met w ns) < length (met w ns)
met-self w ns = rw (position-met w ns) (go (ltb (position w ns) (length ns)) refl)
  where
    go : (x : Bool) → ltb (position w ns) (length ns) ≡ x → position w ns < length (met w ns)
    go true e = rw (met-old w ns e) (ltb-true (position w ns) (length ns) e)
    go false e = rw (met-new w ns e) (omega (arith, position-high w ns, length-append ns (w ∷ [])))

met-from : (w x : List ℕ) (ns : List (List ℕ)) → Memᴰ x (met w ns) → Memᴰ x ns ⊎ (x ≡ w)
unfolding met
met-from w x ns m = go (ltb (position w ns) (length ns)) m
  where
    go : (t : Bool) → Memᴰ x (cond t ns (ns ++ (w ∷ []))) → Memᴰ x ns ⊎ (x ≡ w)
    go true m = inl m
    go false m = ⊎_elim inl (λ h. inr (Memᴰ.eq_of_singleton h)) (Memᴰ.append_cases ns m)

-- ── Names that are all different ──

-- each name stands where it is found
abbrev pub Proper : List (List ℕ) → Type 0
Proper ns = (k : ℕ) → k < length ns → position (get_or ns k []) ns ≡ k

pub proper-none : Proper []
proper-none k h = absurd (omega arith)

met-proper : (w : List ℕ) (ns : List (List ℕ)) → Proper ns → Proper (met w ns)
met-proper w ns p = go (ltb (position w ns) (length ns)) refl
  where
    at : ltb (position w ns) (length ns) ≡ false → (k : ℕ) → k < length (met w ns) → (x : Bool) → ltb k (length ns) ≡ x → position (get_or (met w ns) k []) (met w ns) ≡ k
    at e k h true l =
        let i : k < length ns = ltb-true k (length ns) l in
        let g : get_or (met w ns) k [] ≡ get_or ns k [] = ap (λ q. get_or q k []) (met-new w ns e) ∙ get_or-append ns (w ∷ []) [] k i in
        let u : position (get_or ns k []) ns < length ns = subst (λ v. v < length ns) (sym (p k i)) i in
        rw g (position-kept (get_or ns k []) w ns u ∙ p k i)
    at e k h false l =
        let n : length ns ≡ k = omega (arith, ltb-false k (length ns) l, subst (λ q. k < length q) (met-new w ns e) h, length-append ns (w ∷ [])) in
        let g : get_or (met w ns) k [] ≡ w = ap (λ q. get_or q k []) (met-new w ns e) ∙ get_or_at ns w [] [] k n in
        rw g (position-met w ns ∙ omega (arith, position-high w ns, ltb-false (position w ns) (length ns) e))

    go : (x : Bool) → ltb (position w ns) (length ns) ≡ x → Proper (met w ns)
    go true e = subst Proper (sym (met-old w ns e)) p
    go false e = λ k h. at e k h (ltb k (length ns)) refl

-- ── Ends ──

-- an end whose number is settled
abbrev pub Known : List (List ℕ) → End → Type 0
Known ns (number v) = Unit {0}
Known ns (name w) = position w ns < length ns

pub met-longer-end : (d : End) (ns : List (List ℕ)) → length ns ≤ length (met_end d ns)
unfolding met_end
met-longer-end (number v) ns = omega arith
met-longer-end (name w) ns = met-longer w ns

known-met : (e d : End) (ns : List (List ℕ)) → Known ns e → Known (met_end d ns) e
unfolding met_end
known-met (number v) d ns k = tt
known-met (name w) (number v) ns k = k
known-met (name w) (name x) ns k = rw (position-kept w x ns k) (omega (arith, met-longer x ns))

known-self : (e : End) (ns : List (List ℕ)) → Known (met_end e ns) e
unfolding met_end
known-self (number v) ns = tt
known-self (name w) ns = met-self w ns

number-met : (e d : End) (ns : List (List ℕ)) → Known ns e → number_in (met_end d ns) e ≡ number_in ns e
unfolding met_end number_in
number-met (number v) d ns k = refl
number-met (name w) (number v) ns k = refl
number-met (name w) (name x) ns k = rw (position-kept w x ns k)

proper-met : (d : End) (ns : List (List ℕ)) → Proper ns → Proper (met_end d ns)
unfolding met_end
proper-met (number v) ns p = p
proper-met (name w) ns p = met-proper w ns p

from-met : (d : End) (x : List ℕ) (ns : List (List ℕ)) → Memᴰ x (met_end d ns) → Memᴰ x ns ⊎ (d ≡ name x)
unfolding met_end
from-met (number v) x ns m = inl m
from-met (name w) x ns m = ⊎_elim inl (λ e. inr (ap name (sym e))) (met-from w x ns m)

-- ── Trenches ──

pub longer-over : (ts : List Trench) (ns : List (List ℕ)) → length ns ≤ length (names_over ns ts)
unfolding names_over
longer-over [] ns = omega arith
longer-over (t ∷ ts) ns =
    omega (arith, longer-over ts (met_end t.right (met_end t.left ns)), met-longer-end t.right (met_end t.left ns), met-longer-end t.left ns)

known_over : (ts : List Trench) (e : End) (ns : List (List ℕ)) → Known ns e → Known (names_over ns ts) e
unfolding names_over
known_over [] e ns k = k
known_over (t ∷ ts) e ns k =
    known_over ts e (met_end t.right (met_end t.left ns)) (known-met e t.right (met_end t.left ns) (known-met e t.left ns k))

pub number-over : (ts : List Trench) (e : End) (ns : List (List ℕ)) → Known ns e → number_in (names_over ns ts) e ≡ number_in ns e
unfolding names_over
number-over [] e ns k = refl
number-over (t ∷ ts) e ns k =
    let a = known-met e t.left ns k in
    let b = known-met e t.right (met_end t.left ns) a in
    number-over ts e (met_end t.right (met_end t.left ns)) b ∙ number-met e t.right (met_end t.left ns) a ∙ number-met e t.left ns k

pub proper-over : (ts : List Trench) (ns : List (List ℕ)) → Proper ns → Proper (names_over ns ts)
unfolding names_over
proper-over [] ns p = p
proper-over (t ∷ ts) ns p = proper-over ts (met_end t.right (met_end t.left ns)) (proper-met t.right (met_end t.left ns) (proper-met t.left ns p))

-- after a trench both its ends are settled
pub left-known : (t : Trench) (ns : List (List ℕ)) → Known (met_end t.right (met_end t.left ns)) t.left
left-known t ns = known-met t.left t.right (met_end t.left ns) (known-self t.left ns)

pub right-known : (t : Trench) (ns : List (List ℕ)) → Known (met_end t.right (met_end t.left ns)) t.right
right-known t ns = known-self t.right (met_end t.left ns)

pub all_known : (ts : List Trench) (e : End) (ns : List (List ℕ)) → EndOf ts e → Known (names_over ns ts) e
unfolding names_over
all_known ts e ns (here-left {t = t} {ts = us}) = known_over us t.left (met_end t.right (met_end t.left ns)) (left-known t ns)
all_known ts e ns (here-right {t = t} {ts = us}) = known_over us t.right (met_end t.right (met_end t.left ns)) (right-known t ns)
all_known ts e ns (later {t = t} {ts = us} h) = all_known us e (met_end t.right (met_end t.left ns)) h

-- every name among those met was there before, or is an end's
pub over-from : (ts : List Trench) (x : List ℕ) (ns : List (List ℕ)) → Memᴰ x (names_over ns ts) → Memᴰ x ns ⊎ EndOf ts (name x)
unfolding names_over
over-from [] x ns m = inl m
over-from (t ∷ ts) x ns m = ⊎_elim right (λ h. inr (later h)) (over-from ts x (met_end t.right (met_end t.left ns)) m)
  where
    left : Memᴰ x (met_end t.left ns) → Memᴰ x ns ⊎ EndOf (t ∷ ts) (name x)
    left m = ⊎_elim inl (λ e. inr (subst (EndOf (t ∷ ts)) e here-left)) (from-met t.left x ns m)

    right : Memᴰ x (met_end t.right (met_end t.left ns)) → Memᴰ x ns ⊎ EndOf (t ∷ ts) (name x)
    right m = ⊎_elim left (λ e. inr (subst (EndOf (t ∷ ts)) e here-right)) (from-met t.right x (met_end t.left ns) m)

pub get_d-in : (ns : List (List ℕ)) (k : ℕ) → k < length ns → Memᴰ (get_or ns k []) ns
get_d-in [] k h = absurd (omega arith)
get_d-in (n ∷ ns) zero h = Memᴰ.head refl
get_d-in (n ∷ ns) (suc k) h = Memᴰ.tail (get_d-in ns k (omega arith))

-- the name at the position that is found is the one that is looked for
pub name-found : (w : List ℕ) (ns : List (List ℕ)) → position w ns < length ns → get_or ns (position w ns) [] ≡ w
unfolding position
name-found w [] h = absurd (omega arith)
name-found w (n ∷ ns) h = go (equal w n) refl h (λ g. name-found w ns g)
  where
    go : (x : Bool) → equal w n ≡ x → cond x 0 (suc (position w ns)) < suc (length ns) → (position w ns < length ns → get_or ns (position w ns) [] ≡ w)
        → get_or (n ∷ ns) (cond x 0 (suc (position w ns))) [] ≡ w
    go true e h f = sym (equal-same w n e)
    go false e h f = f (omega arith)
