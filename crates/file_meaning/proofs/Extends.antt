-- Reading lines on from what was read before: the columns go on with the trenches of the lines, and the names with theirs.
-- Assumes nothing.
use Prim.Native.Nat.{ℕ, zero, suc, ◌+◌, ◌≤◌, ◌<◌}
use borrow.Author.Tests.{ltb-false, leb-false, eqb-true, not-false, ne_eqb}
use lib.Dec.{eqb, leb, ltb}
use lib.ListN.{length, length-append}
use mathlib.Core.Bool.{Bool, true, false, not, cond, ◌&&◌, false≢true}
use mathlib.Core.List.Memᴰ
use mathlib.Core.List.{List, [], ◌∷◌, ◌++◌, map, append_assoc, append-nil, Memᴰ}
use mathlib.Core.Logic.{◌⊎◌, inl, inr, ⊎_elim}
use mathlib.Core.Option.{Option, none, some}
use mathlib.Core.Path.{◌≡◌, refl, sym, ap, ◌∙◌, subst}
use native.Mathlib.Omega.{arith}
use Rattle.rowset.specs.Integers.{to_bits}
use Rattle.star_spec.specs.Door.{bytes_of}
use Rattle.file_spec.specs.Pieces.{Piece}
use Rattle.file_spec.specs.Line.{Line, Trench, End, number, name, nothing, counting, trench, wrong, line_of, mixed, many_rows, many_names}
use Rattle.file_spec.specs.Reader.{Read, Reading, broken, read, kind_of, met_end, number_in, with_told, with_row, names_after, names_at_after, other_kind, laid, recount, next, follow, read_lines}
use Rattle.file_meaning.proofs.Names.{number-over, left-known, right-known}
use Rattle.file_meaning.specs.Means.{trench_in, trenches_in, count_in, counts_in, EndOf, here-left, here-right, later, names_over, weights_of}

-- what is told after lines that say how many junctions there are
abbrev pub ToldBy : Option ℕ → List ℕ → Option ℕ → Type 0
ToldBy before vs after = ((vs ≡ []) × (after ≡ before)) ⊎ ((before ≡ none) × (v : ℕ) × (vs ≡ v ∷ []) × (after ≡ some v))

-- q is what was read in r and after it these trenches and counts
pub record Extended (r : Read) (ts : List Trench) (vs : List ℕ) (q : Read) : Type 0 where
  pub names : q.names ≡ names_over r.names ts
  pub lefts : q.left ≡ r.left ++ map (λ t. number_in q.names t.left) ts
  pub rights : q.right ≡ r.right ++ map (λ t. number_in q.names t.right) ts
  pub weights : q.weight ≡ r.weight ++ weights_of ts
  pub marks : q.marks ≡ r.marks ++ map (λ t. t.mark) ts
  pub strucks : q.struck ≡ r.struck ++ map (λ t. t.struck) ts
  pub few-rows : length r.left ≤ 1024 → length r.left + length ts ≤ 1024
  pub few-names : length r.names ≤ 255 → length q.names ≤ 255
  pub kind : (e : End) → EndOf ts e → kind_of e ≡ q.kind
  pub kind-kept : (r.kind ≡ 0 → ⊥) → q.kind ≡ r.kind
  pub told : ToldBy r.told vs q.told

-- ── One trench ──

-- what is known of a trench that is laid
record Laid (r : Read) (t : Trench) (q : Read) : Type 0 where
  is : q ≡ with_row r (names_after r t) (names_at_after r t) t
  same_kind : (r.kind ≡ 0 → ⊥) → kind_of t.left ≡ r.kind
  one-kind : kind_of t.right ≡ kind_of t.left
  room : length r.left < 1024
  few : length (names_after r t) ≤ 255

other-same : (r : Read) (e : End) → other_kind r e ≡ false → (r.kind ≡ 0 → ⊥) → kind_of e ≡ r.kind
unfolding other_kind
other-same r e h n = sym (eqb-true r.kind (kind_of e) (not-false (eqb r.kind (kind_of e)) (rw (ne_eqb r.kind 0 n) at h)))

laid-is : (r : Read) (t : Trench) (q : Read) → laid r t ≡ read q → Laid r t q
unfolding laid
laid-is r t q e =
    go (other_kind r t.left) (eqb (kind_of t.left) (kind_of t.right)) (leb 1024 (length r.left)) (ltb 255 (length (met_end t.left r.names))) (ltb 255 (length (names_after r t)))
    refl refl refl refl e
  where
    go : (a b c d f : Bool) → other_kind r t.left ≡ a → eqb (kind_of t.left) (kind_of t.right) ≡ b → leb 1024 (length r.left) ≡ c → ltb 255 (length (names_after r t)) ≡ f
        → cond a (broken mixed t.left_at)
        (cond (not b) (broken mixed t.right_at)
        (cond c (broken many_rows t.at)
        (cond d (broken many_names t.left_at)
        (cond f (broken many_names t.right_at) (read (with_row r (names_after r t) (names_at_after r t) t)))))) ≡ read q
        → Laid r t q
    go true b c d f ha hb hc hf e = let z : ◌≡◌ {A = ℕ} 0 1 = cc in absurd (omega arith)
    go false false c d f ha hb hc hf e = let z : ◌≡◌ {A = ℕ} 0 1 = cc in absurd (omega arith)
    go false true true d f ha hb hc hf e = let z : ◌≡◌ {A = ℕ} 0 1 = cc in absurd (omega arith)
    go false true false true f ha hb hc hf e = let z : ◌≡◌ {A = ℕ} 0 1 = cc in absurd (omega arith)
    go false true false false true ha hb hc hf e = let z : ◌≡◌ {A = ℕ} 0 1 = cc in absurd (omega arith)
    go false true false false false ha hb hc hf e =
        record {
          is = cc;
          same_kind = other-same r t.left ha;
          one-kind = sym (eqb-true (kind_of t.left) (kind_of t.right) hb);
          room = leb-false 1024 (length r.left) hc;
          few = ltb-false 255 (length (names_after r t)) hf;
        }

-- ── Lines ──

nothing-more : (r : Read) → Extended r [] [] r
unfolding names_over weights_of
nothing-more r =
    record {
      names = refl;
      lefts = sym (append-nil r.left);
      rights = sym (append-nil r.right);
      weights = sym (append-nil r.weight);
      marks = sym (append-nil r.marks);
      strucks = sym (append-nil r.struck);
      few-rows = λ h. omega arith;
      few-names = λ h. h;
      kind = λ e h. elim h [ ];
      kind-kept = λ n. refl;
      told = inl (refl, refl);
    }

some-none : (v : ℕ) → some v ≡ none → ⊥
some-none v e = let z : ◌≡◌ {A = ℕ} 0 1 = cc in omega arith

count-more : (r : Read) (v : ℕ) (ts : List Trench) (vs : List ℕ) (q : Read) → r.told ≡ none → Extended (with_told r v) ts vs q → Extended r ts (v ∷ vs) q
unfolding with_told
count-more r v ts vs q n x =
    record {
      names = x.names;
      lefts = x.lefts;
      rights = x.rights;
      weights = x.weights;
      marks = x.marks;
      strucks = x.strucks;
      few-rows = x.few-rows;
      few-names = x.few-names;
      kind = x.kind;
      kind-kept = x.kind-kept;
      told = ⊎_elim (λ h. inr (n, v, ap (λ l. v ∷ l) h.0, h.1)) (λ h. absurd (some-none v h.0)) x.told;
    }

-- a column that goes on by one and then by more
on : {A : Type 0} (l : List A) (a b : A) (m c : List A) → c ≡ (l ++ (a ∷ [])) ++ m → b ≡ a → c ≡ l ++ (b ∷ m)
on l a b m c e h = rw h (e ∙ append_assoc l (a ∷ []) m)

kind-some : (e : End) → kind_of e ≡ 0 → ⊥
unfolding kind_of
kind-some (number v) e = omega arith
kind-some (name w) e = omega arith

-- all ends of one trench and of those after it are of the kind told last
kinds : (t : Trench) (ts : List Trench) (k : ℕ) → k ≡ kind_of t.left → kind_of t.right ≡ kind_of t.left → ((e : End) → EndOf ts e → kind_of e ≡ k) → (e : End) → EndOf (t ∷ ts) e → kind_of e ≡ k
kinds t ts k l r f e here-left = sym l
kinds t ts k l r f e here-right = r ∙ sym l
kinds t ts k l r f e (later h) = f e h

module _ (r : Read) (t : Trench) where
  -- the names after the trench
  abbrev ns : List (List ℕ)
  ns = met_end t.right (met_end t.left r.names)

  row_more : (r' : Read) (ts : List Trench) (vs : List ℕ) (q : Read) → Laid r t r' → Extended (with_row r ns (names_at_after r t) t) ts vs q → Extended r (t ∷ ts) vs q
  unfolding names_over weights_of with_row names_after
  row_more r' ts vs q l x =
      let known-left : number_in q.names t.left ≡ number_in ns t.left = rw x.names (number-over ts t.left ns (left-known t r.names)) in
      let known-right : number_in q.names t.right ≡ number_in ns t.right = rw x.names (number-over ts t.right ns (right-known t r.names)) in
      let longer = length-append r.left (number_in ns t.left ∷ []) in
      record {
        names = x.names;
        lefts = on r.left (number_in ns t.left) (number_in q.names t.left) (map (λ t. number_in q.names t.left) ts) q.left x.lefts known-left;
        rights = on r.right (number_in ns t.right) (number_in q.names t.right) (map (λ t. number_in q.names t.right) ts) q.right x.rights known-right;
        weights = x.weights ∙ append_assoc r.weight (bytes_of 4 (to_bits 32 t.price)) (weights_of ts);
        marks = on r.marks t.mark t.mark (map (λ t. t.mark) ts) q.marks x.marks refl;
        strucks = on r.struck t.struck t.struck (map (λ t. t.struck) ts) q.struck x.strucks refl;
        few-rows = λ h. omega (arith, longer, x.few-rows (omega (arith, longer, l.room)));
        few-names = λ h. x.few-names l.few;
        kind = kinds t ts q.kind (x.kind-kept (kind-some t.left)) l.one-kind x.kind;
        kind-kept = λ n. x.kind-kept (kind-some t.left) ∙ l.same_kind n;
        told = x.told;
      }

  trench-more : (r' : Read) (ts : List Trench) (vs : List ℕ) (q : Read) → Laid r t r' → Extended r' ts vs q → Extended r (t ∷ ts) vs q
  unfolding names_after
  trench-more r' ts vs q l x = row_more r' ts vs q l (subst (λ y. Extended y ts vs q) l.is x)

follow-read : (x : Reading) (go : Read → Reading) (q : Read) → follow x go ≡ read q → (r : Read) × (x ≡ read r) × (go r ≡ read q)
unfolding follow
follow-read (broken reason at) go q e = let z : ◌≡◌ {A = ℕ} 0 1 = cc in absurd (omega arith)
follow-read (read r) go q e = (r, refl, e)

module _ (r : Read) (ts : List Trench) (vs : List ℕ) (q : Read) where
  told_more : (v at : ℕ) (r' : Read) → Extended r' ts vs q → (o : Option ℕ) → r.told ≡ o → recount r o v at ≡ read r' → Extended r ts (v ∷ vs) q
  unfolding recount
  told_more v at r' x none n f =
      let h : r' ≡ with_told r v = cc in
      count-more r v ts vs q n (subst (λ y. Extended y ts vs q) h x)
  told_more v at r' x (some u) n f = let z : ◌≡◌ {A = ℕ} 0 1 = cc in absurd (omega arith)

  line-more : (l : Line) (r' : Read) → next r l ≡ read r' → Extended r' ts vs q → Extended r (trench_in l ts) (count_in l vs) q
  unfolding next trench_in count_in
  line-more nothing r' f x =
      let h : r' ≡ r = cc in
      subst (λ y. Extended y ts vs q) h x
  line-more (counting v at) r' f x = told_more v at r' x r.told refl f
  line-more (trench t) r' f x = trench-more r t r' ts vs q (laid-is r t r' f) x
  line-more (wrong reason at) r' f x = let z : ◌≡◌ {A = ℕ} 0 1 = cc in absurd (omega arith)

-- what the lines that were read are
pub reads : (ps : List Piece) (r q : Read) → read_lines r ps ≡ read q → Extended r (trenches_in ps) (counts_in ps) q
unfolding read_lines trenches_in counts_in
reads [] r q e =
    let h : r ≡ q = cc in
    subst (Extended r [] []) h (nothing-more r)
reads (p ∷ ps) r q e =
    let (r', f, g) = follow-read (next r (line_of p)) (λ r'. read_lines r' ps) q e in
    line-more r (trenches_in ps) (counts_in ps) q (line_of p) r' f (reads ps r' q g)

-- no line that was read is wrong
stands : (r : Read) (x : Line) (r' : Read) (reason at : ℕ) → next r x ≡ read r' → x ≡ wrong reason at → ⊥
unfolding next
stands r nothing r' reason at f w = let z : ◌≡◌ {A = ℕ} 0 1 = cc in omega arith
stands r (counting v a) r' reason at f w = let z : ◌≡◌ {A = ℕ} 0 1 = cc in omega arith
stands r (trench t) r' reason at f w = let z : ◌≡◌ {A = ℕ} 0 1 = cc in omega arith
stands r (wrong u a) r' reason at f w = let z : ◌≡◌ {A = ℕ} 0 1 = cc in omega arith

pub none-wrong : (ps : List Piece) (r q : Read) → read_lines r ps ≡ read q → (p : Piece) → Memᴰ p ps → (reason at : ℕ) → line_of p ≡ wrong reason at → ⊥
unfolding read_lines
none-wrong [] r q e p m reason at w = Memᴰ.not-nil m
none-wrong (l ∷ ps) r q e p m reason at w =
    let (r', f, g) = follow-read (next r (line_of l)) (λ r'. read_lines r' ps) q e in
    ⊎_elim (λ h. stands r (line_of l) r' reason at f (sym (ap line_of h) ∙ w)) (λ h. none-wrong ps r' q g p h reason at w) (Memᴰ.cases_cons m)
