-- Where what the lines of a text say stands: the place of a refusal and of a trench's line is one of the text's bytes, and the bytes from the place of a name on are the name.
-- Assumes nothing.
use Prim.Native.Nat.{ℕ, zero, suc, ◌+◌, ◌≤◌, ◌<◌}
use lib.Dec.{eqb, leb, ltb}
use lib.IntN.{ℤ}
use lib.ListN.{length, drop, get_elem?}
use mathlib.Core.Bool.{Bool, true, false, not, cond, ◌&&◌, false≢true}
use mathlib.Core.List.{List, [], ◌∷◌, ◌++◌, map, append-nil, append_assoc}
use mathlib.Core.Logic.{◌⊎◌, inl, inr}
use mathlib.Core.Option.{Option, none, some}
use mathlib.Core.Path.{◌≡◌, refl, sym, ap, ◌∙◌, subst}
use native.Mathlib.Omega.{arith}
use Rattle.stp_words.specs.Numbers.{number_of, price_of}
use Rattle.file_meaning.proofs.Lines.{end-said}
use Rattle.file_meaning.specs.Means.{lines_of, trench_in, trenches_in, trenches, EndSaid, a-number, a-name}
use Rattle.file_spec.specs.Line.{Line, Trench, End, number, name, nothing, counting, trench, wrong, line_of, says, end_of, mark_of, marked, whole, row, fielded, counted, count, said, mixed, many_rows, many_names}
use Rattle.file_spec.specs.Names.{is_name, any_letter, all_of_names, position, met, met_at}
use Rattle.file_spec.specs.Pieces.{Piece, fields, lines}
use Rattle.file_spec.specs.Reader.{Read, Reading, broken, read, nothing_read, kind_of, met_end, met_end_at, number_in, with_told, with_row, names_after, names_at_after, other_kind, laid, recount, next, follow, read_lines, body_at, read_text}
use Rattle.file_door_meaning.proofs.Pieces.{Opens, Lies, All, Inside, fields-inside, lines-lie}

-- ── A line ──

-- the bytes of a name stand at its place
abbrev pub NamePlaced : List ℕ → ℕ → List ℕ → Type 0
NamePlaced text at w = (1 ≤ length w) × Opens w (drop at text)

abbrev EndPlaced : List ℕ → ℕ → End → Type 0
EndPlaced text at (number v) = Unit {0}
EndPlaced text at (name w) = NamePlaced text at w

record TrenchPlaced (text : List ℕ) (t : Trench) : Type 0 where
  inside : t.at < length text
  left-inside : t.left_at < length text
  right-inside : t.right_at < length text
  left-placed : EndPlaced text t.left_at t.left
  right-placed : EndPlaced text t.right_at t.right

abbrev LinePlaced : List ℕ → Line → Type 0
LinePlaced text nothing = Unit {0}
LinePlaced text (counting v at) = at < length text
LinePlaced text (trench t) = TrenchPlaced text t
LinePlaced text (wrong reason at) = (at < length text) × ((20 ≤ reason) × (reason ≤ 24))

name-some : (w : List ℕ) → is_name w ≡ true → 1 ≤ length w
unfolding is_name any_letter
name-some [] e = absurd (false≢true e)
name-some (b ∷ t) e = omega arith

module _ (text : List ℕ) where
  end-placed : (f : Piece) → Inside text f → (d : End) → end_of f.letters ≡ some d → EndPlaced text f.at d
  end-placed f h d e = go f.letters d (end-said f.letters d e) h.1
    where
      go : (w : List ℕ) (d : End) → EndSaid w d → Opens w (drop f.at text) → EndPlaced text f.at d
      go w d (a-number v g a b) o = tt
      go w d (a-name g n) o = (name-some w n, o)

  whole-placed : (s : Bool) (at : ℕ) (a b : Piece) (c : ℕ) (x y : Option End) (p : Option ℤ) (m : Option ℕ) (mat : ℕ) → at < length text → a.at < length text → b.at < length text
      → c < length text → mat < length text → ((d : End) → x ≡ some d → EndPlaced text a.at d) → ((d : End) → y ≡ some d → EndPlaced text b.at d)
      → LinePlaced text (whole s at a b c x y p m mat)
  unfolding whole
  whole-placed s at a b c none y p m mat h i j k l f g = (i, (omega arith, omega arith))
  whole-placed s at a b c (some x) none p m mat h i j k l f g = (j, (omega arith, omega arith))
  whole-placed s at a b c (some x) (some y) none m mat h i j k l f g = (k, (omega arith, omega arith))
  whole-placed s at a b c (some x) (some y) (some p) none mat h i j k l f g = (l, (omega arith, omega arith))
  whole-placed s at a b c (some x) (some y) (some p) (some m) mat h i j k l f g =
      record { inside = h; left-inside = i; right-inside = j; left-placed = f x refl; right-placed = g y refl }

  row-placed : (s : Bool) (at : ℕ) (a b c : Piece) (m : Option ℕ) (mat : ℕ) → at < length text → Inside text a → Inside text b → Inside text c → mat < length text
      → LinePlaced text (row s at a b c m mat)
  unfolding row
  row-placed s at a b c m mat h i j k l = go (not s && says "price" c)
    where
      go : (x : Bool) → LinePlaced text (cond x nothing (whole s at a b c.at (end_of a.letters) (end_of b.letters) (price_of c.letters) m mat))
      go true = tt
      go false =
          whole-placed s at a b c.at (end_of a.letters) (end_of b.letters) (price_of c.letters) m mat h i.0 j.0 k.0 l (end-placed a i) (end-placed b j)

  fielded-placed : (s : Bool) (at : ℕ) (fs : List Piece) → at < length text → All (Inside text) fs → LinePlaced text (fielded s at fs)
  unfolding fielded
  fielded-placed s at [] h i = (h, (omega arith, omega arith))
  fielded-placed s at (a ∷ []) h i = (h, (omega arith, omega arith))
  fielded-placed s at (a ∷ b ∷ []) h i = (h, (omega arith, omega arith))
  fielded-placed s at (a ∷ b ∷ c ∷ []) h i = row-placed s at a b c (some 0) c.at h i.0 i.1.0 i.1.1.0 i.1.1.0.0
  fielded-placed s at (a ∷ b ∷ c ∷ d ∷ []) h i = row-placed s at a b c (mark_of d) d.at h i.0 i.1.0 i.1.1.0 i.1.1.1.0.0
  fielded-placed s at (a ∷ b ∷ c ∷ d ∷ e ∷ fs) h i = (h, (omega arith, omega arith))

  count-placed : (at : ℕ) (fs : List Piece) → at < length text → LinePlaced text (count at fs)
  unfolding count counted
  count-placed at [] h = (h, (omega arith, omega arith))
  count-placed at (a ∷ []) h = go (number_of a.letters)
    where
      go : (o : Option ℕ) → LinePlaced text (counted at o)
      go none = (h, (omega arith, omega arith))
      go (some v) = h
  count-placed at (a ∷ b ∷ fs) h = (h, (omega arith, omega arith))

  said-placed : (fs : List Piece) → All (Inside text) fs → LinePlaced text (said fs)
  unfolding said
  said-placed [] i = tt
  said-placed (f ∷ fs) i = go (says "struck" f) (says "junctions" f)
    where
      go : (x y : Bool) → LinePlaced text (cond x (fielded true f.at fs) (cond y (count f.at fs) (fielded false f.at (f ∷ fs))))
      go true y = fielded-placed true f.at fs i.0.0 i.1
      go false true = count-placed f.at fs i.0.0
      go false false = fielded-placed false f.at (f ∷ fs) i.0.0 i

  line-placed : (p : Piece) → Lies text p → LinePlaced text (line_of p)
  unfolding line_of
  line-placed p h = said-placed (fields p) (fields-inside text p h)

-- ── What is read ──

-- each name stands at its place
abbrev pub NamesPlaced : List ℕ → List (List ℕ) → List ℕ → Type 0
NamesPlaced text [] [] = Unit {0}
NamesPlaced text [] (at ∷ places) = ⊥
NamesPlaced text (w ∷ ns) [] = ⊥
NamesPlaced text (w ∷ ns) (at ∷ places) = NamePlaced text at w × NamesPlaced text ns places

-- a reason of the text
abbrev pub Reason : ℕ → Type 0
Reason k = (k ≡ 2) ⊎ ((20 ≤ k) × (k ≤ 26))

-- the place of a trench's line
abbrev ats_of : Line → List ℕ
ats_of nothing = []
ats_of (counting v at) = []
ats_of (trench t) = t.at ∷ []
ats_of (wrong reason at) = []

abbrev Stepped : List ℕ → Read → List ℕ → Reading → Type 0
Stepped text r ats (broken reason at) = (at < length text) × Reason reason
Stepped text r ats (read q) = (q.rows_at ≡ r.rows_at ++ ats) × NamesPlaced text q.names q.names_at

abbrev pub Outcome : List ℕ → Read → List ℕ → Reading → Type 0
Outcome text r ats x = Stepped text r ats x

module _ (text : List ℕ) where
  placed_snoc : (ns : List (List ℕ)) (places : List ℕ) (w : List ℕ) (at : ℕ) → NamesPlaced text ns places → NamePlaced text at w → NamesPlaced text (ns ++ (w ∷ [])) (places ++ (at ∷ []))
  placed_snoc [] [] w at h p = (p, tt)
  placed_snoc [] (a ∷ places) w at h p = absurd h
  placed_snoc (n ∷ ns) [] w at h p = absurd h
  placed_snoc (n ∷ ns) (a ∷ places) w at h p = (h.0, placed_snoc ns places w at h.1 p)

  met-placed : (at : ℕ) (w : List ℕ) (ns : List (List ℕ)) (places : List ℕ) → NamesPlaced text ns places → NamePlaced text at w → NamesPlaced text (met w ns) (met_at at w ns places)
  unfolding met met_at
  met-placed at w ns places h p = go (ltb (position w ns) (length ns))
    where
      go : (x : Bool) → NamesPlaced text (cond x ns (ns ++ (w ∷ []))) (cond x places (places ++ (at ∷ [])))
      go true = h
      go false = placed_snoc ns places w at h p

  end-met : (at : ℕ) (e : End) (ns : List (List ℕ)) (places : List ℕ) → NamesPlaced text ns places → EndPlaced text at e → NamesPlaced text (met_end e ns) (met_end_at at e ns places)
  unfolding met_end met_end_at
  end-met at (number v) ns places h p = h
  end-met at (name w) ns places h p = met-placed at w ns places h p

  row-after : (r : Read) (t : Trench) → NamesPlaced text r.names r.names_at → TrenchPlaced text t → Stepped text r (t.at ∷ []) (read (with_row r (names_after r t) (names_at_after r t) t))
  unfolding with_row names_after names_at_after
  row-after r t h p = (refl, end-met t.right_at t.right (met_end t.left r.names) (met_end_at t.left_at t.left r.names r.names_at) (end-met t.left_at t.left r.names r.names_at h p.left-placed) p.right-placed)

  laid-placed : (r : Read) (t : Trench) → NamesPlaced text r.names r.names_at → TrenchPlaced text t → Stepped text r (t.at ∷ []) (laid r t)
  unfolding laid
  laid-placed r t h p =
      go (other_kind r t.left) (not (eqb (kind_of t.left) (kind_of t.right))) (leb 1024 (length r.left)) (ltb 255 (length (met_end t.left r.names))) (ltb 255 (length (names_after r t)))
    where
      go : (a b c d e : Bool)
          → Stepped text r (t.at ∷ [])
          (cond a (broken mixed t.left_at)
          (cond b (broken mixed t.right_at)
          (cond c (broken many_rows t.at)
          (cond d (broken many_names t.left_at) (cond e (broken many_names t.right_at) (read (with_row r (names_after r t) (names_at_after r t) t)))))))
      go true b c d e = (p.left-inside, inr (omega arith, omega arith))
      go false true c d e = (p.right-inside, inr (omega arith, omega arith))
      go false false true d e = (p.inside, inl refl)
      go false false false true e = (p.left-inside, inr (omega arith, omega arith))
      go false false false false true = (p.right-inside, inr (omega arith, omega arith))
      go false false false false false = row-after r t h p

  count-after : (r : Read) (o : Option ℕ) (v at : ℕ) → NamesPlaced text r.names r.names_at → at < length text → Stepped text r [] (recount r o v at)
  unfolding recount with_told
  count-after r none v at h i = (sym (append-nil r.rows_at), h)
  count-after r (some u) v at h i = (i, inr (omega arith, omega arith))

  next-placed : (r : Read) (l : Line) → NamesPlaced text r.names r.names_at → LinePlaced text l → Stepped text r (ats_of l) (next r l)
  unfolding next
  next-placed r nothing h p = (sym (append-nil r.rows_at), h)
  next-placed r (counting v at) h p = count-after r r.told v at h p
  next-placed r (trench t) h p = laid-placed r t h p
  next-placed r (wrong reason at) h p = (p.0, inr (p.1.0, omega (arith, p.1.1)))

  ats-more : (l : Line) (ts : List Trench) → ats_of l ++ map (λ t. t.at) ts ≡ map (λ t. t.at) (trench_in l ts)
  unfolding trench_in
  ats-more nothing ts = refl
  ats-more (counting v at) ts = refl
  ats-more (trench t) ts = refl
  ats-more (wrong reason at) ts = refl

  lines-placed : (ps : List Piece) (r : Read) → All (Lies text) ps → NamesPlaced text r.names r.names_at → Outcome text r (map (λ t. t.at) (trenches_in ps)) (read_lines r ps)
  unfolding read_lines trenches_in follow
  lines-placed [] r a h = (sym (append-nil r.rows_at), h)
  lines-placed (p ∷ ps) r a h = go (next r (line_of p)) (next-placed r (line_of p) h (line-placed text p a.0)) (λ r' g. lines-placed ps r' a.1 g)
    where
      on : (r' : Read) → r'.rows_at ≡ r.rows_at ++ ats_of (line_of p) → (y : Reading) → Outcome text r' (map (λ t. t.at) (trenches_in ps)) y
          → Outcome text r (map (λ t. t.at) (trench_in (line_of p) (trenches_in ps))) y
      on r' e (broken reason at) o = o
      on r' e (read q) o =
          (o.0 ∙ ap (λ l. l ++ map (λ t. t.at) (trenches_in ps)) e ∙ append_assoc r.rows_at (ats_of (line_of p)) (map (λ t. t.at) (trenches_in ps)) ∙ ap (λ l. r.rows_at ++ l) (ats-more (line_of p) (trenches_in ps)), o.1)

      go : (x : Reading) → Stepped text r (ats_of (line_of p)) x
          → ((r' : Read) → NamesPlaced text r'.names r'.names_at → Outcome text r' (map (λ t. t.at) (trenches_in ps)) (read_lines r' ps))
          → Outcome text r (map (λ t. t.at) (trench_in (line_of p) (trenches_in ps))) (follow x (λ r'. read_lines r' ps))
      go (broken reason at) s ih = s
      go (read r') s ih = on r' s.0 (read_lines r' ps) (ih r' s.1)

  -- a text that is read, or is broken at one of its bytes
  pub text-placed : Outcome text nothing_read (map (λ t. t.at) (trenches text)) (read_text text)
  unfolding read_text nothing_read
  text-placed = lines-placed (lines_of text) nothing_read (lines-lie text (body_at text)) tt

  -- each trench's line is at one of its bytes
  trenches-inside : (ps : List Piece) → All (Lies text) ps → (k : ℕ) (t : Trench) → get_elem? (trenches_in ps) k ≡ some t → t.at < length text
  unfolding trenches_in trench_in
  trenches-inside [] a k t h = let z : ◌≡◌ {A = ℕ} 0 1 = cc in absurd (omega arith)
  trenches-inside (p ∷ ps) a k t h = go (line_of p) (line-placed text p a.0) k h (trenches-inside ps a.1)
    where
      go : (x : Line) → LinePlaced text x → (k : ℕ) → get_elem? (trench_in x (trenches_in ps)) k ≡ some t → ((k : ℕ) (t : Trench) → get_elem? (trenches_in ps) k ≡ some t → t.at < length text) → t.at < length text
      go nothing q k h ih = ih k t h
      go (counting v at) q k h ih = ih k t h
      go (trench u) q zero h ih =
          let z : u ≡ t = cc in
          subst (λ x. x.at < length text) z q.inside
      go (trench u) q (suc k) h ih = ih k t h
      go (wrong reason at) q k h ih = ih k t h

  pub trench-inside : (k : ℕ) (t : Trench) → get_elem? (trenches text) k ≡ some t → t.at < length text
  trench-inside k t h = trenches-inside (lines_of text) (lines-lie text (body_at text)) k t h
