-- A reading means what it should. Main statement: readings-mean.
-- Assumes nothing.
use Prim.Native.Nat.{ℕ, zero, suc, ◌+◌, ◌*◌, ◌-◌, ◌≤◌, ◌<◌, max}
use borrow.Author.Tests.{eqb-true, ne_eqb, eq-eqb, leb-true, leb-false}
use lib.Dec.{eqb, leb}
use lib.IntN.{ℤ}
use lib.ListN.{length, get_or, get_elem?, length-map, length-append}
use mathlib.Core.Bool.{Bool, true, false, cond}
use mathlib.Core.List.Memᴰ
use mathlib.Core.List.{List, [], ◌∷◌, ◌++◌, map, Memᴰ}
use mathlib.Core.Logic.{◌↔◌, ◌⊎◌, inl, inr, ⊎_elim}
use mathlib.Core.Option.{Option, none, some}
use mathlib.Core.Path.{◌≡◌, refl, sym, ap, ◌∙◌, subst}
use native.Mathlib.Omega.{arith}
use Rattle.rowset.specs.Bytes.{little, in_row}
use Rattle.rowset.specs.Integers.{signed, to_bits}
use Rattle.star_spec.specs.Door.{bytes_of}
use Rattle.stp_spec.proofs.Prices.{prices-kept}
use Rattle.stp_words.specs.Numbers.{price_of}
use Rattle.file_text.proofs.Meeting.{position-tells}
use Rattle.file_spec.specs.Names.{position}
use Rattle.file_spec.specs.Pieces.{Piece}
use Rattle.file_spec.specs.Line.{Line, Trench, End, number, name, nothing, counting, trench, wrong, line_of}
use Rattle.file_spec.specs.Reader.{Read, Reading, broken, read, kind_of, number_in, nothing_read, body_at, read_lines, read_text, largest, told_or, junctions}
use Rattle.file_meaning.proofs.Lines.{line-said, count-line-said}
use Rattle.file_meaning.proofs.Names.{Proper, proper-none, proper-over, Known, all_known, over-from, get_d-in, name-found}
use Rattle.file_meaning.proofs.Extends.{ToldBy, Extended, reads, none-wrong}
use Rattle.file_meaning.specs.Means.{lines_of, trench_in, trenches_in, trenches, counts_in, counts, EndOf, here-left, here-right, later, names_over, weights_of, EndSaid, a-number, a-name, TrenchSaid, RowRead, ReadingMeans, ReadingsMean}

-- ── What every trench of a text is ──

-- a trench of one of the lines
trench-of : (p : Piece) (ps : List Piece) (P : Trench → Type 0) → ((t : Trench) → line_of p ≡ trench t → P t) → ((k : ℕ) (t : Trench) → get_elem? (trenches_in ps) k ≡ some t → P t)
    → (k : ℕ) (t : Trench) → get_elem? (trench_in (line_of p) (trenches_in ps)) k ≡ some t → P t
unfolding trench_in
trench-of p ps P f g = go (line_of p) refl
  where
    first : (u : Trench) → line_of p ≡ trench u → (k : ℕ) (t : Trench) → get_elem? (u ∷ trenches_in ps) k ≡ some t → P t
    first u e zero t h = let q : u ≡ t = cc in subst P q (f u e)
    first u e (suc k) t h = g k t h

    go : (l : Line) → line_of p ≡ l → (k : ℕ) (t : Trench) → get_elem? (trench_in l (trenches_in ps)) k ≡ some t → P t
    go nothing e k t h = g k t h
    go (counting v at) e k t h = g k t h
    go (trench u) e k t h = first u e k t h
    go (wrong reason at) e k t h = g k t h

-- each trench is what the fields of a line say
pub trench-said : (ps : List Piece) (k : ℕ) (t : Trench) → get_elem? (trenches_in ps) k ≡ some t → (p : Piece) × TrenchSaid p t
unfolding trenches_in
trench-said [] k t h = let z : ◌≡◌ {A = ℕ} 0 1 = cc in absurd (omega arith)
trench-said (p ∷ ps) k t h = trench-of p ps (λ u. (p : Piece) × TrenchSaid p u) (λ u e. (p, line-said p u e)) (trench-said ps) k t h

-- an end is one of a trench
pub end_of : (ts : List Trench) (e : End) → EndOf ts e → (k : ℕ) × (t : Trench) × (get_elem? ts k ≡ some t) × ((e ≡ t.left) ⊎ (e ≡ t.right))
end_of ts e (here-left {t = t}) = (0, t, refl, inl refl)
end_of ts e (here-right {t = t}) = (0, t, refl, inr refl)
end_of ts e (later {ts = us} h) = let (k, t, g, s) = end_of us e h in (suc k, t, g, s)

pub left_end : (ts : List Trench) (k : ℕ) (t : Trench) → get_elem? ts k ≡ some t → EndOf ts t.left
left_end [] k t h = let z : ◌≡◌ {A = ℕ} 0 1 = cc in absurd (omega arith)
left_end (u ∷ ts) zero t h = let q : u ≡ t = cc in subst (λ v. EndOf (u ∷ ts) v.left) q here-left
left_end (u ∷ ts) (suc k) t h = later (left_end ts k t h)

pub right_end : (ts : List Trench) (k : ℕ) (t : Trench) → get_elem? ts k ≡ some t → EndOf ts t.right
right_end [] k t h = let z : ◌≡◌ {A = ℕ} 0 1 = cc in absurd (omega arith)
right_end (u ∷ ts) zero t h = let q : u ≡ t = cc in subst (λ v. EndOf (u ∷ ts) v.right) q here-right
right_end (u ∷ ts) (suc k) t h = later (right_end ts k t h)

-- an end as its field says it
pub end-said-of : (ps : List Piece) (e : End) → EndOf (trenches_in ps) e → (w : List ℕ) × EndSaid w e
end-said-of ps e h =
    let (k, t, g, s) = end_of (trenches_in ps) e h in
    let (p, q) = trench-said ps k t g in
    ⊎_elim (λ l. (q.a.letters, subst (EndSaid q.a.letters) (sym l) q.left-said)) (λ r. (q.b.letters, subst (EndSaid q.b.letters) (sym r) q.right-said)) s

-- ── The columns ──

mapped : {A B : Type 0} (f : A → B) (ts : List A) (k : ℕ) (t : A) (d : B) → get_elem? ts k ≡ some t → get_or (map f ts) k d ≡ f t
mapped f [] k t d h = let z : ◌≡◌ {A = ℕ} 0 1 = cc in absurd (omega arith)
mapped f (u ∷ ts) zero t d h = let q : u ≡ t = cc in ap f q
mapped f (u ∷ ts) (suc k) t d h = mapped f ts k t d h

-- the four bytes of row k + 1
little-past : (a b c d : ℕ) (l : List ℕ) (k : ℕ) → little (a ∷ b ∷ c ∷ d ∷ l) (4 * suc k) 4 ≡ little l (4 * k) 4
unfolding little
little-past a b c d l k =
    let e : 4 * suc k ≡ suc (suc (suc (suc (4 * k)))) = omega arith in
    rw e

little-first : (a b c d : ℕ) (l : List ℕ) → little (a ∷ b ∷ c ∷ d ∷ l) (4 * 0) 4 ≡ little (a ∷ b ∷ c ∷ d ∷ []) (4 * 0) 4
unfolding little
little-first a b c d l = refl

weight-row : (ts : List Trench) (k : ℕ) (t : Trench) → get_elem? ts k ≡ some t → in_row 4 (weights_of ts) (suc k) ≡ in_row 4 (bytes_of 4 (to_bits 32 t.price)) 1
unfolding weights_of in_row bytes_of
weight-row [] k t h = let z : ◌≡◌ {A = ℕ} 0 1 = cc in absurd (omega arith)
weight-row (u ∷ ts) zero t h =
    let q : u ≡ t = cc in
    rw q (little-first _ _ _ _ (weights_of ts))
weight-row (u ∷ ts) (suc k) t h = little-past _ _ _ _ (weights_of ts) k ∙ weight-row ts k t h

pub weights-length : (ts : List Trench) → length (weights_of ts) ≡ 4 * length ts
unfolding weights_of bytes_of
weights-length [] = refl
weights-length (t ∷ ts) = omega (arith, weights-length ts)

-- ── The largest number ──

largest-high : (f : Trench → ℕ) (ts : List Trench) (k : ℕ) (t : Trench) → get_elem? ts k ≡ some t → f t ≤ largest (map f ts)
unfolding largest
largest-high f [] k t h = let z : ◌≡◌ {A = ℕ} 0 1 = cc in absurd (omega arith)
largest-high f (u ∷ ts) zero t h =
    let q : f u ≡ f t = ap f cc in
    omega arith
largest-high f (u ∷ ts) (suc k) t h = omega (arith, largest-high f ts k t h)

largest-one : (f : Trench → ℕ) (ts : List Trench) → 1 ≤ largest (map f ts) → (k : ℕ) × (t : Trench) × (get_elem? ts k ≡ some t) × (f t ≡ largest (map f ts))
unfolding largest
largest-one f [] h = absurd (omega arith)
largest-one f (u ∷ ts) h = go (leb (largest (map f ts)) (f u)) refl (largest-one f ts)
  where
    go : (x : Bool) → leb (largest (map f ts)) (f u) ≡ x → (1 ≤ largest (map f ts) → (k : ℕ) × (t : Trench) × (get_elem? ts k ≡ some t) × (f t ≡ largest (map f ts)))
        → (k : ℕ) × (t : Trench) × (get_elem? (u ∷ ts) k ≡ some t) × (f t ≡ max (f u) (largest (map f ts)))
    go true e g = (0, u, refl, omega (arith, leb-true (largest (map f ts)) (f u) e))
    go false e g =
        let l = leb-false (largest (map f ts)) (f u) e in
        let (k, t, q, z) = g (omega arith) in
        (suc k, t, q, omega arith)

-- ── A reading ──

module _ (text : List ℕ) (r : Read) (e : read_text text ≡ read r) where
  abbrev ts : List Trench
  ts = trenches text

  extended : Extended nothing_read ts (counts text) r
  unfolding read_text
  extended = reads (lines_of text) nothing_read r e

  names-are : r.names ≡ names_over [] ts
  unfolding nothing_read
  names-are = extended.names

  pub left-column : r.left ≡ map (λ t. number_in r.names t.left) ts
  unfolding nothing_read
  left-column = extended.lefts

  pub right-column : r.right ≡ map (λ t. number_in r.names t.right) ts
  unfolding nothing_read
  right-column = extended.rights

  pub weight-column : r.weight ≡ weights_of ts
  unfolding nothing_read
  weight-column = extended.weights

  pub mark-column : r.marks ≡ map (λ t. t.mark) ts
  unfolding nothing_read
  mark-column = extended.marks

  pub struck-column : r.struck ≡ map (λ t. t.struck) ts
  unfolding nothing_read
  struck-column = extended.strucks

  few-rows : length ts ≤ 1024
  unfolding nothing_read
  few-rows = omega (arith, extended.few-rows (omega arith))

  few-names : length r.names ≤ 255
  unfolding nothing_read
  few-names = extended.few-names (omega arith)

  told : ToldBy none (counts text) r.told
  unfolding nothing_read
  told = extended.told

  proper : Proper r.names
  proper = rw names-are (proper-over ts [] proper-none)

  known : (d : End) → EndOf ts d → Known r.names d
  known d h = subst (λ ns. Known ns d) (sym names-are) (all_known ts d [] h)

  row_read : (k : ℕ) (t : Trench) → get_elem? ts k ≡ some t → RowRead r k t
  row_read k t h =
      let (p, q) = trench-said (lines_of text) k t h in
      record {
        left-read = ap (λ l. get_or l k 0) left-column ∙ mapped (λ t. number_in r.names t.left) ts k t 0 h;
        right-read = ap (λ l. get_or l k 0) right-column ∙ mapped (λ t. number_in r.names t.right) ts k t 0 h;
        price-read = ap (λ l. signed (in_row 4 l (suc k))) weight-column ∙ ap signed (weight-row ts k t h) ∙ prices-kept q.c.letters t.price q.price-said;
        mark-read = ap (λ l. get_or l k 0) mark-column ∙ mapped (λ t. t.mark) ts k t 0 h;
        struck-read = ap (λ l. get_or l k false) struck-column ∙ mapped (λ t. t.struck) ts k t false h;
      }

  low : (d : End) → EndOf ts d → 1 ≤ number_in r.names d
  unfolding number_in
  low d h = let (w, q) = end-said-of (lines_of text) d h in go w d q
    where
      go : (w : List ℕ) (d : End) → EndSaid w d → 1 ≤ number_in r.names d
      go w d (a-number v g a b) = a
      go w d (a-name g n) = omega arith

  high : (d : End) → EndOf ts d → number_in r.names d ≤ 255
  unfolding number_in
  high d h = let (w, q) = end-said-of (lines_of text) d h in go w d q (known d h)
    where
      go : (w : List ℕ) (d : End) → EndSaid w d → Known r.names d → number_in r.names d ≤ 255
      go w d (a-number v g a b) k = b
      go w d (a-name g n) k = omega (arith, few-names)

  one-kind : (d : End) → EndOf ts d → kind_of d ≡ r.kind
  one-kind d h = extended.kind d h

  one-junction : (a b : End) → EndOf ts a → EndOf ts b → number_in r.names a ≡ number_in r.names b → a ≡ b
  unfolding number_in kind_of
  one-junction a b h g q = go a b (known a h) (one-kind a h ∙ sym (one-kind b g)) q
    where
      go : (a b : End) → Known r.names a → kind_of a ≡ kind_of b → number_in r.names a ≡ number_in r.names b → a ≡ b
      go (number u) (number v) k s q = ap number q
      go (number u) (name v) k s q = absurd (omega arith)
      go (name u) (number v) k s q = absurd (omega arith)
      go (name u) (name v) k s q = ap name (position-tells u v r.names k (omega arith))

  name-place : (w : List ℕ) → EndOf ts (name w) → get_or r.names (number_in r.names (name w) - 1) [] ≡ w
  unfolding number_in
  name-place w h =
      let i : suc (position w r.names) - 1 ≡ position w r.names = omega arith in
      rw i (name-found w r.names (known (name w) h))

  own-number : (v : ℕ) → EndOf ts (number v) → number_in r.names (number v) ≡ v
  unfolding number_in
  own-number v h = refl

  names-met : (k : ℕ) → k < length r.names → EndOf ts (name (get_or r.names k []))
  names-met k h =
      ⊎_elim (λ m. absurd (Memᴰ.not-nil m)) (λ x. x)
      (over-from ts (get_or r.names k []) [] (subst (Memᴰ (get_or r.names k [])) names-are (get_d-in r.names k h)))

  one-count : length (counts text) ≤ 1
  one-count = ⊎_elim (λ h. rw h.0 (omega arith)) (λ h. rw h.2 (omega arith)) told

  told-said : (v : ℕ) → counts text ≡ v ∷ [] → r.told ≡ some v
  told-said v h = ⊎_elim (λ g. let z : ◌≡◌ {A = ℕ} 0 1 = clash v (sym h ∙ g.0) in absurd (omega arith)) (λ g. let s : v ∷ [] ≡ g.1 ∷ [] = sym h ∙ g.2 in let q : v ≡ g.1 = cc in g.3 ∙ ap some (sym q)) told
    where
      clash : (v : ℕ) → ◌≡◌ {A = List ℕ} (v ∷ []) [] → ◌≡◌ {A = ℕ} 0 1
      clash v e = cc

  n-said : (v : ℕ) → counts text ≡ v ∷ [] → junctions r ≡ v
  unfolding junctions told_or
  n-said v h = rw (told-said v h)

  told_none : counts text ≡ [] → r.told ≡ none
  told_none h = ⊎_elim (λ g. g.1) (λ g. let z : ◌≡◌ {A = ℕ} 0 1 = clash g.1 (sym g.2 ∙ h) in absurd (omega arith)) told
    where
      clash : (v : ℕ) → ◌≡◌ {A = List ℕ} (v ∷ []) [] → ◌≡◌ {A = ℕ} 0 1
      clash v e = cc

  n-counted : counts text ≡ [] → junctions r ≡ cond (eqb r.kind 2) (length r.names) (max (largest r.left) (largest r.right))
  unfolding junctions told_or
  n-counted h = rw (told_none h)

  column-high : (d : End) → EndOf ts d → number_in r.names d ≤ max (largest r.left) (largest r.right)
  column-high d h =
      let (k, t, g, s) = end_of ts d h in
      let a = largest-high (λ t. number_in r.names t.left) ts k t g in
      let b = largest-high (λ t. number_in r.names t.right) ts k t g in
      let c : largest r.left ≡ largest (map (λ t. number_in r.names t.left) ts) = ap largest left-column in
      let f : largest r.right ≡ largest (map (λ t. number_in r.names t.right) ts) = ap largest right-column in
      ⊎_elim (λ x. let y : number_in r.names d ≡ number_in r.names t.left = ap (number_in r.names) x in omega arith) (λ x. let y : number_in r.names d ≡ number_in r.names t.right = ap (number_in r.names) x in omega arith) s

  n-high : counts text ≡ [] → (d : End) → EndOf ts d → number_in r.names d ≤ junctions r
  unfolding number_in kind_of
  n-high c d h = rw (n-counted c) (go d (one-kind d h) (known d h) (column-high d h))
    where
      go : (d : End) → kind_of d ≡ r.kind → Known r.names d → number_in r.names d ≤ max (largest r.left) (largest r.right)
          → number_in r.names d ≤ cond (eqb r.kind 2) (length r.names) (max (largest r.left) (largest r.right))
      go (number v) s k g = rw (← s) g
      go (name w) s k g = rw (← s) k

  column-one : 1 ≤ max (largest r.left) (largest r.right) → (d : End) × EndOf ts d × (number_in r.names d ≡ max (largest r.left) (largest r.right))
  column-one h = go (leb (largest r.right) (largest r.left)) refl
    where
      go : (x : Bool) → leb (largest r.right) (largest r.left) ≡ x → (d : End) × EndOf ts d × (number_in r.names d ≡ max (largest r.left) (largest r.right))
      go true e =
          let l = leb-true (largest r.right) (largest r.left) e in
          let c : largest r.left ≡ largest (map (λ t. number_in r.names t.left) ts) = ap largest left-column in
          let (k, t, g, z) = largest-one (λ t. number_in r.names t.left) ts (omega arith) in
          (t.left, left_end ts k t g, omega arith)
      go false e =
          let l = leb-false (largest r.right) (largest r.left) e in
          let c : largest r.right ≡ largest (map (λ t. number_in r.names t.right) ts) = ap largest right-column in
          let (k, t, g, z) = largest-one (λ t. number_in r.names t.right) ts (omega arith) in
          (t.right, right_end ts k t g, omega arith)

  last_name : 1 ≤ length r.names → (d : End) × EndOf ts d × (number_in r.names d ≡ length r.names)
  unfolding number_in
  last_name h =
      let i : length r.names - 1 < length r.names = omega arith in
      (name (get_or r.names (length r.names - 1) []), names-met (length r.names - 1) i, omega (arith, proper (length r.names - 1) i))

  n-reached : counts text ≡ [] → 1 ≤ junctions r → (d : End) × EndOf ts d × (number_in r.names d ≡ junctions r)
  n-reached c h = go (eqb r.kind 2) (n-counted c) h
    where
      go : (x : Bool) → junctions r ≡ cond x (length r.names) (max (largest r.left) (largest r.right)) → 1 ≤ junctions r → (d : End) × EndOf ts d × (number_in r.names d ≡ junctions r)
      go true q h = let (d, g, z) = last_name (omega arith) in (d, g, z ∙ sym q)
      go false q h = let (d, g, z) = column-one (omega arith) in (d, g, z ∙ sym q)

  means : ReadingMeans text r
  unfolding read_text
  means =
      record {
        stands = none-wrong (lines_of text) nothing_read r e;
        fields-said = λ p t m q. line-said p t q;
        count-said = λ p v at m q. count-line-said p v at q;
        row = row_read;
        few-rows = few-rows;
        lefts = ap length left-column ∙ length-map ts (λ t. number_in r.names t.left);
        rights = ap length right-column ∙ length-map ts (λ t. number_in r.names t.right);
        weights = ap length weight-column ∙ weights-length ts;
        marks = ap length mark-column ∙ length-map ts (λ t. t.mark);
        strucks = ap length struck-column ∙ length-map ts (λ t. t.struck);
        one-kind = one-kind;
        low = low;
        high = high;
        own-number = own-number;
        name-place = name-place;
        names-met = names-met;
        few-names = few-names;
        names-order = names-are;
        one-junction = λ a b h g. (one-junction a b h g, ap (number_in r.names));
        one-count = one-count;
        n-said = n-said;
        n-high = n-high;
        n-reached = n-reached;
      }

pub readings-mean : ReadingsMean
readings-mean text r e = means text r e
