-- What star_cst, star_other and star_mst1 promise of plain tables, and star_work_cst, star_work_other and star_work_mst1 of working ones: demand 3, and every refusal.
-- Document 01 with signed weights (A3), the only cheapest tree (A4), no repeats (A8), rows in use (A10). The doors state the calls at the end, and beside them which of several exchanges or least trees it is.
-- Cites the kit's standard library alone. `(d : List ℕ) × P` says that there is such a d. Places are counted from 0: row k + 1 stands at place k. Assumes nothing.
use Rattle.std.specs.Prelude.{ℕ, zero, suc, ◌+◌, ◌*◌, ◌/◌, ◌%◌, ◌^◌, ◌≤◌, ◌<◌, Bool, true, cond, ◌&&◌, List, [], ◌∷◌, ◌↔◌, ◌⊎◌, ◌≡◌, eqb, ltb, ℤ, pos, ◌+ℤ◌, ◌-ℤ◌, length, get_or, set, ◌≤ℤ◌}

-- BYTES: what stands at place k; the number in j bytes from there on, least significant first; and the signed number of a word x, whose negative half begins at h
abbrev pub at : List ℕ → ℕ → ℕ
at b k = get_or b k 0

unfoldable pub number : List ℕ → ℕ → ℕ → ℕ
number b k zero = 0
number b k (suc j) = at b k + 256 * number b (suc k) j

unfoldable pub signed : ℕ → ℕ → ℤ
signed h x = let y = x % (2 * h) in cond (ltb y h) (pos y) (pos y -ℤ pos (2 * h))

-- TABLES: n vertices, m rows, which rows are in use, and whether that was lent whole; the left and right columns, and the weight column with four bytes a row
pub record Table : Type 0 where
  pub n : ℕ
  pub m : ℕ
  pub whole : Bool
  pub in_use : ℕ → Bool
  pub left : List ℕ
  pub right : List ℕ
  pub weights : List ℕ

-- a plain table has a row for each byte of its left column, all in use
abbrev pub plain : (n : ℕ) → (left right weights : List ℕ) → Table
plain n left right weights = record { n = n; m = length left; whole = true; in_use = λ k. true; left = left; right = right; weights = weights }

-- a working table has 1,024 rows; sixteen words of 64 bits, lent, say which are in use
abbrev pub working : (n : ℕ) → (words left right weights : List ℕ) → Table
working n words left right weights =
    record { n = n; m = 1024; whole = eqb (length words) 16; in_use = λ k. eqb (at words (k / 64) / 2 ^ (k % 64) % 2) 1; left = left; right = right; weights = weights }

abbrev pub Row : Table → ℕ → Type 0
Row t k = (k < t.m) × (t.in_use k ≡ true)

abbrev pub Vertex : Table → ℕ → Type 0
Vertex t v = (1 ≤ v) × (v ≤ t.n)

-- TREES. c is a claim, or mark column: a walk from vertex u over its marked rows, and the sum of f over those at the first k places
pub data Walk (t : Table) (c : List ℕ) (u : ℕ) : ℕ → Type 0 where
  stay : Walk t c u u
  forth : (k : ℕ) → Row t k → at c k ≡ 1 → Walk t c u (at t.left k) → Walk t c u (at t.right k)
  back : (k : ℕ) → Row t k → at c k ≡ 1 → Walk t c u (at t.right k) → Walk t c u (at t.left k)

unfoldable pub sum : Table → List ℕ → (ℕ → ℤ) → ℕ → ℤ
sum t c f zero = pos 0
sum t c f (suc k) = sum t c f k +ℤ cond (t.in_use k && eqb (at c k) 1) (f k) (pos 0)

abbrev pub weight : Table → List ℕ → ℤ
weight t c = sum t c (λ k. signed 2147483648 (number t.weights (4 * k) 4)) t.m

-- exactly n − 1 marks; a spanning tree, of which bytes at rows not in use are no part; and one than which none weighs less
abbrev pub Count : Table → List ℕ → Type 0
Count t c = sum t c (λ k. pos 1) t.m +ℤ pos 1 ≡ pos t.n

pub record SpanningTree (t : Table) (c : List ℕ) : Type 0 where
  pub sized : length c ≡ t.m
  pub binary : (k : ℕ) → Row t k → at c k ≤ 1
  pub count : Count t c
  pub joined : (v : ℕ) → Vertex t v → Walk t c 1 v

pub record Least (t : Table) (c : List ℕ) : Type 0 where
  pub tree : SpanningTree t c
  pub least : (d : List ℕ) → SpanningTree t d → weight t c ≤ℤ weight t d

-- REFUSALS: two rows of the same pair, in either direction; the uppermost row in use that is not good; and the causes, by number and place
abbrev pub Same : Table → ℕ → ℕ → Type 0
Same t j k =
    ((at t.left j ≡ at t.left k) × (at t.right j ≡ at t.right k)) ⊎ ((at t.left j ≡ at t.right k) × (at t.right j ≡ at t.left k))

abbrev pub Uppermost : Table → (ℕ → Type 0) → ℕ → Type 0
Uppermost t Good k = Row t k × (¬ Good k) × ((j : ℕ) → j < k → Row t j → Good j)

pub data Cause (t : Table) (c : List ℕ) : ℕ → ℕ → Type 0 where
  vertices : ¬ ((1 ≤ t.n) × (t.n ≤ 255)) → Cause t c 1 0
  rows : ¬ (t.m ≤ 1024) → Cause t c 2 0
  lengths : ¬ ((t.whole ≡ true) × (length t.left ≡ t.m) × (length t.right ≡ t.m) × (length t.weights ≡ 4 * t.m) × (length c ≡ t.m)) → Cause t c 3 0
  ends : (k : ℕ) → Uppermost t (λ i. Vertex t (at t.left i) × Vertex t (at t.right i) × ¬ (at t.left i ≡ at t.right i)) k → Cause t c 4 (suc k)
  claim-byte : (k : ℕ) → Uppermost t (λ i. at c i ≤ 1) k → Cause t c 6 (suc k)
  count : ¬ Count t c → Cause t c 9 0
  unjoined : (v : ℕ) → Vertex t v → ¬ Walk t c 1 v → ((u : ℕ) → u < v → Vertex t u → Walk t c 1 u) → Cause t c 10 v
  no-tree : ((d : List ℕ) → ¬ SpanningTree t d) → Cause t c 11 0
  repeats : (k : ℕ) → Uppermost t (λ i. (j : ℕ) → j < i → Row t j → ¬ Same t j i) k → Cause t c 15 (suc k)

-- the first of these numbers that applies, with its place; an accepted table, with its mark column, meets none of causes 1 to 4 and 15
pub data First (t : Table) (c : List ℕ) : List ℕ → ℕ → ℕ → Type 0 where
  here : {x p : ℕ} {l : List ℕ} → Cause t c x p → First t c (x ∷ l) x p
  later : {x y p : ℕ} {l : List ℕ} → ((q : ℕ) → ¬ Cause t c x q) → First t c l y p → First t c (x ∷ l) y p

abbrev pub Accepted : Table → List ℕ → Type 0
Accepted t c = (x p : ℕ) → ¬ First t c (1 ∷ 2 ∷ 3 ∷ 4 ∷ 15 ∷ []) x p

-- ANSWERS, sixteen bytes a. Bytes 8 to 15 are a signed number; bytes 2 to 5 may name rows out and in, whose exchange gives another spanning tree, d
abbrev pub amount : List ℕ → ℤ
amount a = signed 9223372036854775808 (number a 8 8)

pub record Exchange (t : Table) (c a d : List ℕ) : Type 0 where
  pub out : ℕ
  pub into : ℕ
  pub said : (number a 2 2 ≡ suc out) × (number a 4 2 ≡ suc into)
  pub marked : Row t out × (at c out ≡ 1)
  pub unmarked : Row t into × (at c into ≡ 0)
  pub made : d ≡ set (set c out 0) into 1
  pub tree : SpanningTree t d

-- refused: byte 1 is the number, bytes 2 and 3 the place, and all else is 0
pub record Refused (t : Table) (c : List ℕ) (numbers : List ℕ) (a : List ℕ) : Type 0 where
  pub first : First t c numbers (at a 1) (number a 2 2)
  pub zeros : (number a 4 2 ≡ 0) × (at a 6 ≡ 0) × (amount a ≡ pos 0)

-- THE CHECKER, by byte 0. 1: passed; byte 6: no other tree weighs the same, where claims alike on the rows in use are one tree. 2: lighter, by an exchange. 0: refused
pub record Checked (t : Table) (c a : List ℕ) : Type 0 where
  pub kinds : (at a 0 ≤ 2) × (at a 6 ≤ 1) × (at a 7 ≡ 0)
  pub passed : (at a 0 ≡ 1) ↔ (Accepted t c × Least t c)
  pub states : at a 0 ≡ 1 → (amount a ≡ weight t c) × (at a 1 ≡ 0)
  pub only : at a 0 ≡ 1 → ((at a 6 ≡ 1) ↔ ((d : List ℕ) → SpanningTree t d → weight t d ≡ weight t c → (k : ℕ) → Row t k → at d k ≡ at c k))
  pub lighter : (at a 0 ≡ 2) ↔ (Accepted t c × SpanningTree t c × ¬ Least t c)
  pub exchange : at a 0 ≡ 2 → (d : List ℕ) × Exchange t c a d × (weight t d +ℤ amount a ≡ weight t c) × (pos 1 ≤ℤ amount a) × (at a 1 ≡ 0) × (at a 6 ≡ 0)
  pub refused : (at a 0 ≡ 0) ↔ ¬ (Accepted t c × SpanningTree t c)
  pub cause : at a 0 ≡ 0 → Refused t c (1 ∷ 2 ∷ 3 ∷ 4 ∷ 15 ∷ 6 ∷ 9 ∷ 10 ∷ []) a

-- THE CALLS: the lent answer before and after, and the number returned. An answer that is not 16 bytes: 0 is returned, and nothing is written
pub record CstCall (t : Table) (c before after : List ℕ) (returned : ℕ) : Type 0 where
  pub short : ¬ (length before ≡ 16) → (returned ≡ 0) × (after ≡ before)
  pub sixteen : length before ≡ 16 → (returned ≡ 1) × (length after ≡ 16) × ((k : ℕ) → at after k < 256)
  pub says : length before ≡ 16 → Checked t c after × (at after 0 ≡ 1 → number after 2 4 ≡ 0)

-- star_other: the same of its own bytes; and where another tree weighs the same, bytes 2 to 5 name an exchange that gives one
pub record OtherCall (t : Table) (c before after : List ℕ) (returned : ℕ) : Type 0 where
  pub short : ¬ (length before ≡ 16) → (returned ≡ 0) × (after ≡ before)
  pub sixteen : length before ≡ 16 → (returned ≡ 1) × (length after ≡ 16) × ((k : ℕ) → at after k < 256)
  pub says : length before ≡ 16 → Checked t c after × (at after 0 ≡ 1 → at after 6 ≡ 1 → number after 2 4 ≡ 0)
  pub other : length before ≡ 16 → at after 0 ≡ 1 → at after 6 ≡ 0 → (d : List ℕ) × Exchange t c after d × (weight t d ≡ weight t c)

-- THE BUILDER. 1: the mark column afterwards is a least spanning tree, 0 at rows not in use; star_cst passes it, with the same bytes 8 to 15. 0: refused
pub record Built (t : Table) (c a marks : List ℕ) : Type 0 where
  pub kinds : (at a 0 ≤ 1) × (at a 6 ≡ 0) × (at a 7 ≡ 0)
  pub built : (at a 0 ≡ 1) ↔ (Accepted t c × (d : List ℕ) × SpanningTree t d)
  pub least : at a 0 ≡ 1 → Least t marks × ((k : ℕ) → at marks k ≤ 1) × ((k : ℕ) → ¬ Row t k → at marks k ≡ 0)
  pub states : at a 0 ≡ 1 → (amount a ≡ weight t marks) × (at a 1 ≡ 0) × (number a 2 4 ≡ 0)
  pub passed : at a 0 ≡ 1 → (before after : List ℕ) (returned : ℕ) → length before ≡ 16 → CstCall t marks before after returned
      → (at after 0 ≡ 1) × ((k : ℕ) → 8 ≤ k → k < 16 → at after k ≡ at a k)
  pub refused : (at a 0 ≡ 0) ↔ ¬ (Accepted t c × (d : List ℕ) × SpanningTree t d)
  pub cause : at a 0 ≡ 0 → Refused t c (1 ∷ 2 ∷ 3 ∷ 4 ∷ 15 ∷ 11 ∷ []) a × (marks ≡ c)

pub record Mst1Call (t : Table) (c before after marks : List ℕ) (returned : ℕ) : Type 0 where
  pub short : ¬ (length before ≡ 16) → (returned ≡ 0) × (after ≡ before) × (marks ≡ c)
  pub sixteen : length before ≡ 16 → (returned ≡ 1) × (length after ≡ 16) × ((k : ℕ) → at after k < 256)
  pub says : length before ≡ 16 → Built t c after marks
