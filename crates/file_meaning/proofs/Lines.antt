-- What a line says, taken apart: a trench line has the fields that TrenchSaid names.
-- Assumes nothing.
use Prim.Native.Nat.{ℕ, zero, suc, ◌≤◌, ◌<◌}
use borrow.Author.Tests.{leb-true}
use lib.Dec.{leb}
use lib.IntN.{ℤ}
use lib.ListN.{length}
use mathlib.Core.Bool.{Bool, true, false, not, cond, ◌&&◌, ◌||◌, false≢true}
use mathlib.Core.List.{List, [], ◌∷◌, ◌++◌}
use mathlib.Core.Logic.{◌⊎◌, inl, inr}
use mathlib.Core.Option.{Option, none, some}
use mathlib.Core.Path.{◌≡◌, refl, sym, ap, ◌∙◌, subst}
use native.Mathlib.Omega.{arith}
use Rattle.stp_words.specs.Numbers.{number_of, price_of}
use Rattle.file_spec.specs.Names.{is_name}
use Rattle.file_spec.specs.Pieces.{Piece, fields}
use Rattle.file_spec.specs.Line.{Line, Trench, End, number, name, nothing, counting, trench, wrong, line_of, says, end_of, numbered, digit_mark, mark_of, marked, whole, row, fielded, counted, count, said}
use Rattle.file_meaning.specs.Means.{EndSaid, a-number, a-name, mark_said, TrenchSaid, CountSaid}

-- ── Ends and marks ──

and_parts : (x y : Bool) → (x && y) ≡ true → (x ≡ true) × (y ≡ true)
and_parts true y e = (refl, e)
and_parts false y e = absurd (false≢true e)

number-said : (w : List ℕ) (v : ℕ) (e : End) → number_of w ≡ some v → cond (leb 1 v && leb v 255) (some (number v)) none ≡ some e → EndSaid w e
number-said w v e h q = go (leb 1 v && leb v 255) refl q
  where
    go : (x : Bool) → (leb 1 v && leb v 255) ≡ x → cond x (some (number v)) none ≡ some e → EndSaid w e
    go true b q =
        let p = and_parts (leb 1 v) (leb v 255) b in
        let s : number v ≡ e = cc in
        subst (EndSaid w) s (a-number v h (leb-true 1 v p.0) (leb-true v 255 p.1))
    go false b q = let z : ◌≡◌ {A = ℕ} 0 1 = cc in absurd (omega arith)

name-said : (w : List ℕ) (e : End) → number_of w ≡ none → cond (is_name w) (some (name w)) none ≡ some e → EndSaid w e
name-said w e h q = go (is_name w) refl q
  where
    go : (x : Bool) → is_name w ≡ x → cond x (some (name w)) none ≡ some e → EndSaid w e
    go true b q =
        let s : name w ≡ e = cc in
        subst (EndSaid w) s (a-name h b)
    go false b q = let z : ◌≡◌ {A = ℕ} 0 1 = cc in absurd (omega arith)

pub end-said : (w : List ℕ) (e : End) → end_of w ≡ some e → EndSaid w e
unfolding end_of numbered
end-said w e q = go (number_of w) refl q
  where
    go : (o : Option ℕ) → number_of w ≡ o → numbered w o ≡ some e → EndSaid w e
    go (some v) h q = number-said w v e h q
    go none h q = name-said w e h q

-- a mark is 0 or 1
pub mark-small : (f : Piece) (m : ℕ) → mark_of f ≡ some m → m ≤ 1
unfolding mark_of digit_mark
mark-small f m q = go (number_of f.letters) q
  where
    digit : (v : ℕ) (x : Bool) → leb v 1 ≡ x → cond x (some v) none ≡ some m → m ≤ 1
    digit v true h q = let e : v ≡ m = cc in omega (arith, leb-true v 1 h)
    digit v false h q = let z : ◌≡◌ {A = ℕ} 0 1 = cc in absurd (omega arith)

    word : (x y : Bool) → cond x (some 1) (cond y (some 0) none) ≡ some m → m ≤ 1
    word true y q = let e : 1 ≡ m = cc in omega arith
    word false true q = let e : 0 ≡ m = cc in omega arith
    word false false q = let z : ◌≡◌ {A = ℕ} 0 1 = cc in absurd (omega arith)

    go : (o : Option ℕ) → digit_mark o f ≡ some m → m ≤ 1
    go (some v) q = digit v (leb v 1) refl q
    go none q = word (says "x" f || says "yes" f || says "true" f) (says "no" f || says "false" f) q

-- ── The fields of a line ──

-- what the fields are, without the line
record FieldsSaid (fs : List Piece) (t : Trench) : Type 0 where
  word : List Piece
  a : Piece
  b : Piece
  c : Piece
  d : List Piece
  m : ℕ
  line : fs ≡ word ++ (a ∷ b ∷ c ∷ d)
  one-mark : length d ≤ 1
  struck-said : ((t.struck ≡ true) × (f : Piece) × (word ≡ f ∷ []) × (says "struck" f ≡ true)) ⊎ ((t.struck ≡ false) × (word ≡ []) × (says "price" c ≡ false) × (says "struck" a ≡ false) × (says "junctions" a ≡ false))
  left-said : EndSaid a.letters t.left
  right-said : EndSaid b.letters t.right
  price-said : price_of c.letters ≡ some t.price
  mark-said : mark_said d ≡ some m
  mark-binary : m ≤ 1
  mark-kept : t.mark ≡ marked t.struck m

-- the parts of a whole trench
record WholeSaid (s : Bool) (x y : Option End) (p : Option ℤ) (m : Option ℕ) (t : Trench) : Type 0 where
  v : ℕ
  struck : t.struck ≡ s
  left : x ≡ some t.left
  right : y ≡ some t.right
  price : p ≡ some t.price
  mark : m ≡ some v
  kept : t.mark ≡ marked s v

whole-said : (s : Bool) (at : ℕ) (a b : Piece) (c : ℕ) (x y : Option End) (p : Option ℤ) (m : Option ℕ) (mat : ℕ) (t : Trench) → whole s at a b c x y p m mat ≡ trench t → WholeSaid s x y p m t
unfolding whole
whole-said s at a b c none y p m mat t q = let z : ◌≡◌ {A = ℕ} 0 1 = cc in absurd (omega arith)
whole-said s at a b c (some x) none p m mat t q = let z : ◌≡◌ {A = ℕ} 0 1 = cc in absurd (omega arith)
whole-said s at a b c (some x) (some y) none m mat t q = let z : ◌≡◌ {A = ℕ} 0 1 = cc in absurd (omega arith)
whole-said s at a b c (some x) (some y) (some p) none mat t q = let z : ◌≡◌ {A = ℕ} 0 1 = cc in absurd (omega arith)
whole-said s at a b c (some x) (some y) (some p) (some m) mat t q =
    let e : record { struck = s; at = at; left_at = a.at; left = x; right_at = b.at; right = y; price = p; mark = marked s m } ≡ t = cc in
    record {
      v = m;
      struck = sym (ap (λ r. r.struck) e);
      left = ap (λ r. some r.left) e;
      right = ap (λ r. some r.right) e;
      price = ap (λ r. some r.price) e;
      mark = refl;
      kept = sym (ap (λ r. r.mark) e);
    }

row-said : (s : Bool) (at : ℕ) (a b c : Piece) (m : Option ℕ) (mat : ℕ) (t : Trench) → row s at a b c m mat ≡ trench t
    → ((not s && says "price" c) ≡ false) × WholeSaid s (end_of a.letters) (end_of b.letters) (price_of c.letters) m t
unfolding row
row-said s at a b c m mat t q = go (not s && says "price" c) refl q
  where
    go : (x : Bool) → (not s && says "price" c) ≡ x
        → cond x nothing (whole s at a b c.at (end_of a.letters) (end_of b.letters) (price_of c.letters) m mat) ≡ trench t
        → ((not s && says "price" c) ≡ false) × WholeSaid s (end_of a.letters) (end_of b.letters) (price_of c.letters) m t
    go true h q = let z : ◌≡◌ {A = ℕ} 0 1 = cc in absurd (omega arith)
    go false h q = (h, whole-said s at a b c.at (end_of a.letters) (end_of b.letters) (price_of c.letters) m mat t q)

-- the word before the fields of a trench: struck; or nothing, and the first field is none of the two words
data Word (s : Bool) (fs word : List Piece) : Type 0 where
  the_word : s ≡ true → (f : Piece) → word ≡ f ∷ [] → says "struck" f ≡ true → Word s fs word
  no_word : s ≡ false → word ≡ [] → ((a : Piece) (gs : List Piece) → fs ≡ a ∷ gs → (says "struck" a ≡ false) × (says "junctions" a ≡ false)) → Word s fs word

word-said : (s : Bool) (word : List Piece) (a b c : Piece) (d : List Piece) (t : Trench) → t.struck ≡ s → (not s && says "price" c) ≡ false → Word s (a ∷ b ∷ c ∷ d) word
    → ((t.struck ≡ true) × (f : Piece) × (word ≡ f ∷ []) × (says "struck" f ≡ true)) ⊎ ((t.struck ≡ false) × (word ≡ []) × (says "price" c ≡ false) × (says "struck" a ≡ false) × (says "junctions" a ≡ false))
word-said s word a b c d t e h (the_word z f l u) = inl (e ∙ z, f, l, u)
word-said s word a b c d t e h (no_word z l n) = let u = n a (b ∷ c ∷ d) refl in inr (e ∙ z, l, rw z at h, u.0, u.1)

three_said : (s : Bool) (at : ℕ) (word : List Piece) (a b c : Piece) (d : List Piece) (m : Option ℕ) (mat : ℕ) (t : Trench) → length d ≤ 1 → Word s (a ∷ b ∷ c ∷ d) word → mark_said d ≡ m
    → ((v : ℕ) → m ≡ some v → v ≤ 1) → row s at a b c m mat ≡ trench t → FieldsSaid (word ++ (a ∷ b ∷ c ∷ d)) t
three_said s at word a b c d m mat t one w k small q =
    let g = row-said s at a b c m mat t q in
    let h = g.1 in
    record {
      word = word;
      a = a;
      b = b;
      c = c;
      d = d;
      m = h.v;
      line = refl;
      one-mark = one;
      struck-said = word-said s word a b c d t h.struck g.0 w;
      left-said = end-said a.letters t.left h.left;
      right-said = end-said b.letters t.right h.right;
      price-said = h.price;
      mark-said = k ∙ h.mark;
      mark-binary = small h.v h.mark;
      mark-kept = h.kept ∙ ap (λ x. marked x h.v) (sym h.struck);
    }

fielded-said : (s : Bool) (at : ℕ) (word fs : List Piece) (t : Trench) → Word s fs word → fielded s at fs ≡ trench t → FieldsSaid (word ++ fs) t
unfolding fielded mark_said
fielded-said s at word [] t w q = let z : ◌≡◌ {A = ℕ} 0 1 = cc in absurd (omega arith)
fielded-said s at word (a ∷ []) t w q = let z : ◌≡◌ {A = ℕ} 0 1 = cc in absurd (omega arith)
fielded-said s at word (a ∷ b ∷ []) t w q = let z : ◌≡◌ {A = ℕ} 0 1 = cc in absurd (omega arith)
fielded-said s at word (a ∷ b ∷ c ∷ []) t w q =
    three_said s at word a b c [] (some 0) c.at t (omega arith) w refl (λ v e. let z : 0 ≡ v = cc in omega arith) q
fielded-said s at word (a ∷ b ∷ c ∷ d ∷ []) t w q =
    three_said s at word a b c (d ∷ []) (mark_of d) d.at t (omega arith) w refl (λ v e. mark-small d v e) q
fielded-said s at word (a ∷ b ∷ c ∷ d ∷ e ∷ fs) t w q = let z : ◌≡◌ {A = ℕ} 0 1 = cc in absurd (omega arith)

counts-none : (at : ℕ) (fs : List Piece) (t : Trench) → count at fs ≡ trench t → ⊥
unfolding count counted
counts-none at [] t q = let z : ◌≡◌ {A = ℕ} 0 1 = cc in omega arith
counts-none at (a ∷ []) t q = go (number_of a.letters) q
  where
    go : (o : Option ℕ) → counted at o ≡ trench t → ⊥
    go none q = let z : ◌≡◌ {A = ℕ} 0 1 = cc in omega arith
    go (some v) q = let z : ◌≡◌ {A = ℕ} 0 1 = cc in omega arith
counts-none at (a ∷ b ∷ fs) t q = let z : ◌≡◌ {A = ℕ} 0 1 = cc in omega arith

said-said : (fs : List Piece) (t : Trench) → said fs ≡ trench t → FieldsSaid fs t
unfolding said
said-said [] t q = let z : ◌≡◌ {A = ℕ} 0 1 = cc in absurd (omega arith)
said-said (f ∷ fs) t q = go (says "struck" f) (says "junctions" f) refl refl q
  where
    words : says "struck" f ≡ false → says "junctions" f ≡ false → (a : Piece) (gs : List Piece) → f ∷ fs ≡ a ∷ gs → (says "struck" a ≡ false) × (says "junctions" a ≡ false)
    words h g a gs e =
        let z : f ≡ a = cc in
        (ap (says "struck") (sym z) ∙ h, ap (says "junctions") (sym z) ∙ g)

    go : (x y : Bool) → says "struck" f ≡ x → says "junctions" f ≡ y → cond x (fielded true f.at fs) (cond y (count f.at fs) (fielded false f.at (f ∷ fs))) ≡ trench t → FieldsSaid (f ∷ fs) t
    go true y h g q = fielded-said true f.at (f ∷ []) fs t (the_word refl f refl h) q
    go false true h g q = absurd (counts-none f.at fs t q)
    go false false h g q = fielded-said false f.at [] (f ∷ fs) t (no_word refl refl (words h g)) q

pub line-said : (p : Piece) (t : Trench) → line_of p ≡ trench t → TrenchSaid p t
unfolding line_of
line-said p t q =
    let h = said-said (fields p) t q in
    record {
      word = h.word;
      a = h.a;
      b = h.b;
      c = h.c;
      d = h.d;
      m = h.m;
      line = h.line;
      one-mark = h.one-mark;
      struck-said = h.struck-said;
      left-said = h.left-said;
      right-said = h.right-said;
      price-said = h.price-said;
      mark-said = h.mark-said;
      mark-binary = h.mark-binary;
      mark-kept = h.mark-kept;
    }

-- ── Lines that count ──

no-count-whole : (s : Bool) (at : ℕ) (a b : Piece) (c : ℕ) (x y : Option End) (p : Option ℤ) (m : Option ℕ) (mat v w : ℕ) → whole s at a b c x y p m mat ≡ counting v w → ⊥
unfolding whole
no-count-whole s at a b c none y p m mat v w q = let z : ◌≡◌ {A = ℕ} 0 1 = cc in omega arith
no-count-whole s at a b c (some x) none p m mat v w q = let z : ◌≡◌ {A = ℕ} 0 1 = cc in omega arith
no-count-whole s at a b c (some x) (some y) none m mat v w q = let z : ◌≡◌ {A = ℕ} 0 1 = cc in omega arith
no-count-whole s at a b c (some x) (some y) (some p) none mat v w q = let z : ◌≡◌ {A = ℕ} 0 1 = cc in omega arith
no-count-whole s at a b c (some x) (some y) (some p) (some m) mat v w q = let z : ◌≡◌ {A = ℕ} 0 1 = cc in omega arith

no-count-row : (s : Bool) (at : ℕ) (a b c : Piece) (m : Option ℕ) (mat v w : ℕ) → row s at a b c m mat ≡ counting v w → ⊥
unfolding row
no-count-row s at a b c m mat v w q = go (not s && says "price" c) q
  where
    go : (x : Bool) → cond x nothing (whole s at a b c.at (end_of a.letters) (end_of b.letters) (price_of c.letters) m mat) ≡ counting v w → ⊥
    go true q = let z : ◌≡◌ {A = ℕ} 0 1 = cc in omega arith
    go false q = no-count-whole s at a b c.at (end_of a.letters) (end_of b.letters) (price_of c.letters) m mat v w q

no-count-fields : (s : Bool) (at : ℕ) (fs : List Piece) (v w : ℕ) → fielded s at fs ≡ counting v w → ⊥
unfolding fielded
no-count-fields s at [] v w q = let z : ◌≡◌ {A = ℕ} 0 1 = cc in omega arith
no-count-fields s at (a ∷ []) v w q = let z : ◌≡◌ {A = ℕ} 0 1 = cc in omega arith
no-count-fields s at (a ∷ b ∷ []) v w q = let z : ◌≡◌ {A = ℕ} 0 1 = cc in omega arith
no-count-fields s at (a ∷ b ∷ c ∷ []) v w q = no-count-row s at a b c (some 0) c.at v w q
no-count-fields s at (a ∷ b ∷ c ∷ d ∷ []) v w q = no-count-row s at a b c (mark_of d) d.at v w q
no-count-fields s at (a ∷ b ∷ c ∷ d ∷ e ∷ fs) v w q = let z : ◌≡◌ {A = ℕ} 0 1 = cc in omega arith

counted_is : (at : ℕ) (o : Option ℕ) (v w : ℕ) → counted at o ≡ counting v w → o ≡ some v
unfolding counted
counted_is at none v w q = let z : ◌≡◌ {A = ℕ} 0 1 = cc in absurd (omega arith)
counted_is at (some u) v w q = let z : u ≡ v = cc in ap some z

count-is : (at : ℕ) (fs : List Piece) (v w : ℕ) → count at fs ≡ counting v w → (b : Piece) × (fs ≡ b ∷ []) × (number_of b.letters ≡ some v)
unfolding count
count-is at [] v w q = let z : ◌≡◌ {A = ℕ} 0 1 = cc in absurd (omega arith)
count-is at (b ∷ []) v w q = (b, refl, counted_is at (number_of b.letters) v w q)
count-is at (b ∷ c ∷ fs) v w q = let z : ◌≡◌ {A = ℕ} 0 1 = cc in absurd (omega arith)

counts-said : (fs : List Piece) (v w : ℕ) → said fs ≡ counting v w → (a b : Piece) × (fs ≡ a ∷ b ∷ []) × (says "junctions" a ≡ true) × (number_of b.letters ≡ some v)
unfolding said
counts-said [] v w q = let z : ◌≡◌ {A = ℕ} 0 1 = cc in absurd (omega arith)
counts-said (f ∷ fs) v w q = go (says "struck" f) (says "junctions" f) refl q
  where
    go : (x y : Bool) → says "junctions" f ≡ y → cond x (fielded true f.at fs) (cond y (count f.at fs) (fielded false f.at (f ∷ fs))) ≡ counting v w
        → (a b : Piece) × (f ∷ fs ≡ a ∷ b ∷ []) × (says "junctions" a ≡ true) × (number_of b.letters ≡ some v)
    go true y h q = absurd (no-count-fields true f.at fs v w q)
    go false true h q = let (b, e, n) = count-is f.at fs v w q in (f, b, ap (λ l. f ∷ l) e, h, n)
    go false false h q = absurd (no-count-fields false f.at (f ∷ fs) v w q)

pub count-line-said : (p : Piece) (v w : ℕ) → line_of p ≡ counting v w → CountSaid p v
unfolding line_of
count-line-said p v w q = let (a, b, e, h, n) = counts-said (fields p) v w q in record { a = a; b = b; line = e; word-said = h; number-said = n }
