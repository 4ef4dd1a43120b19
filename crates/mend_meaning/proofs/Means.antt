-- What mending means of the table's spanning trees (mending-means): the definition on the columns is the mending of the graph, whose theorem is cited, and the records applied to the bytes.
-- Assumes nothing.
use Prim.Native.Nat.{ℕ, zero, suc, ◌+◌, ◌*◌, ◌≤◌, ◌<◌}
use borrow.Author.Tests.{le-ltb, eq-eqb, ne_eqb}
use lib.Dec.{eqb}
use lib.IntN.{ℤ}
use lib.ListN.{length, get_or, set, take, drop, length-set}
use lib.Seq.{ext_get_or, get_or-set_same, get_or-set_other}
use mathlib.Core.Bool.{Bool, true, false, cond, ◌&&◌}
use mathlib.Core.List.{List, [], ◌∷◌, ◌++◌}
use mathlib.Core.Logic.{◌⊎◌, inl, inr, ◌≢◌}
use mathlib.Core.Option.{Option, none, some}
use mathlib.Core.Path.{◌≡◌, refl, sym, ◌∙◌, ap, subst, fun_ext}
use native.Mathlib.Decide.{ℕ_discrete}
use native.Mathlib.Omega.{arith}
use Rattle.star_meaning.proofs.Demand3.{demand3, least-claim}
use Rattle.star_meaning.specs.Demand3.{ZeroOrOne, ClaimTree}
use Rattle.graph_theory.proofs.Builder.{tree-connected, built-least, not-connected, connected-spanning}
use Rattle.graph_theory.proofs.Path.{and-never, path_inside}
use Rattle.graph_theory.specs.Builder.{Fragment, tree}
use Rattle.graph_theory.specs.Graph.{Graph, Sound, Inside, Connected}
use Rattle.graph_theory.specs.Least.{Least}
use Rattle.graph_theory.specs.Tree.{SpanningTree}
use Rattle.refusal.specs.declared.Refusal.{Refusal}
use Rattle.mend_theory.proofs.Promise.{spanned, mends}
use Rattle.mend_theory.specs.Mending.{unmark_row, mark_row, apply, apply_all, exchanged}
use Rattle.mend_record.specs.declared.Record.{Record}
use Rattle.mend_theory.specs.Promise.{Mends, Meant, dropped, added, swapped, AllMeant}
use Rattle.rowset.proofs.Laws.{clash, uppermost-zero, put_same, put_other, take_out-same, take_out-other, take_out-in}
use Rattle.rowset.proofs.Members.{both-in, put_all}
use Rattle.rowset.specs.Bytes.{in_row}
use Rattle.rowset.specs.Sets.{both, put, take_out}
use Rattle.star_spec.proofs.Accepted.{none-cause, none-cause_at, none-cons, refusal-append, Taken, taken, used-row, row-used, sound, accepted-means}
use Rattle.star_spec.proofs.Claims.{in_row-byte}
use Rattle.star_spec.specs.Accepted.{Row, AcceptedTable}
use Rattle.star_spec.specs.Call.{Call, rows_of, used, graph_of, weight_of, marked, claimed, with_claim}
use Rattle.star_spec.specs.Cst.{passed, cst}
use Rattle.star_spec.specs.Refusals.{Accepted, cause, is_none, no_tree, table_causes, wrong_byte, bad_claim, or_else, refusal}
use Rattle.mend_meaning.proofs.Laws.{byte_of, length-redrawn, get_d-redrawn, records-back, records-rest}
use Rattle.mend_spec.specs.Means.{byte_written, applied_to, Mended, MendingMeans}
use Rattle.mend_spec.specs.Mend.{short_list, mend_causes, drawn, listed, redrawn_from, redrawn, unmended, mended_by, MendAnswer, answer_or, mend, marks_or, mend_marks, list_or, mend_list}

-- nothing is both refused and mended
pub told-apart : {x : MendAnswer} {r : Refusal} {k : ℕ} → x ≡ unmended r → x ≡ mended_by k → ⊥
told-apart e h = clash refl (cc)

-- a byte of 0 or 1 is told by whether it is 1
zero_one : (x : ℕ) → x ≤ 1 → cond (eqb x 1) 1 0 ≡ x
zero_one zero h = refl
zero_one (suc zero) h = refl
zero_one (suc (suc x)) h = absurd (omega arith)

module _ (c : Call) (a : Accepted c) (small : ZeroOrOne c) (l : List Record) (room : 2 * rows_of c ≤ length l) where
  t : Taken c
  t = taken c a

  abbrev g : Graph
  g = graph_of c

  ok : Sound g
  ok = sound c t

  inside : Inside g (claimed c)
  unfolding graph_of claimed
  inside i e = (both-in (used c) (marked c.mark) i e).0

  clean : bad_claim c ≡ none
  unfolding bad_claim wrong_byte
  clean = none-cause_at 6 (uppermost-zero (rows_of c) (wrong_byte (used c) c.mark) (λ i lo hi. and-never (used c i) _ (λ e. le-ltb 1 _ (small i (used-row c i e)))))

  single : (x : Option Refusal) → refusal (x ∷ []) ≡ x
  unfolding refusal or_else
  single none = refl
  single (some r) = refl

  last-cause : refusal (mend_causes c (length l)) ≡ no_tree c
  unfolding mend_causes short_list
  last-cause =
      refusal-append (table_causes c) (bad_claim c ∷ short_list c (length l) ∷ no_tree c ∷ []) a
      ∙ none-cons (bad_claim c) (short_list c (length l) ∷ no_tree c ∷ []) clean
      ∙ none-cons (short_list c (length l)) (no_tree c ∷ []) (none-cause _ 16 0 (le-ltb (length l) (2 * rows_of c) room))
      ∙ single (no_tree c)

  -- the two answers that are left
  tree-none : Connected g → no_tree c ≡ none
  unfolding no_tree is_none cause
  tree-none joins = go (tree g (weight_of c)) refl
    where
      go : (o : Option Fragment) → tree g (weight_of c) ≡ o → no_tree c ≡ none
      go none e = absurd (not-connected g ok (weight_of c) e joins)
      go (some f) e = rw e

  tree-some : (Connected g → ⊥) → no_tree c ≡ some (record { number = 11; place = 0 })
  unfolding no_tree is_none cause
  tree-some apart = go (tree g (weight_of c)) refl
    where
      go : (o : Option Fragment) → tree g (weight_of c) ≡ o → no_tree c ≡ some (record { number = 11; place = 0 })
      go none e = rw e
      go (some f) e = absurd (apart (tree-connected (built-least g ok (weight_of c) f e).tree))

  answer-connected : Connected g → mend c (length l) ≡ mended_by (length (drawn c).records)
  unfolding mend answer_or
  answer-connected joins = rw (last-cause, tree-none joins)

  answer-unconnected : (Connected g → ⊥) → mend c (length l) ≡ unmended (record { number = 11; place = 0 })
  unfolding mend answer_or
  answer-unconnected apart = rw (last-cause, tree-some apart)

  decided : {A : Type 0} → (Connected g → A) → ((Connected g → ⊥) → A) → A
  decided {A} yes-case no-case = go (tree g (weight_of c)) refl
    where
      go : (o : Option Fragment) → tree g (weight_of c) ≡ o → A
      go none e = no-case (not-connected g ok (weight_of c) e)
      go (some f) e = yes-case (tree-connected (built-least g ok (weight_of c) f e).tree)

  mended-connected : (k : ℕ) → mend c (length l) ≡ mended_by k → Connected g
  mended-connected k e = decided (λ joins. joins) (λ apart. absurd (told-apart (answer-unconnected apart) e))

  kept-marks : no_tree c ≡ some (record { number = 11; place = 0 }) → mend_marks c (length l) ≡ c.mark
  unfolding mend_marks marks_or
  kept-marks e = rw (last-cause, e)

  kept-list : no_tree c ≡ some (record { number = 11; place = 0 }) → mend_list c l ≡ l
  unfolding mend_list list_or
  kept-list e = rw (last-cause, e)

  module _ (joins : Connected g) where
    all : Mends g (weight_of c) (claimed c) (drawn c)
    unfolding drawn
    all =
        let (B, b) = connected-spanning g ok (weight_of c) joins in
        mends g ok (weight_of c) (claimed c) inside (spanned g ok (weight_of c) (claimed c) inside B b)

    few-rows : (k : ℕ) → length (drawn c).records ≡ k → k ≤ 2 * rows_of c
    unfolding graph_of
    few-rows k n = omega (arith, n, all.few)

    marks-are : mend_marks c (length l) ≡ redrawn (used c) (drawn c).marks c.mark
    unfolding mend_marks marks_or
    marks-are = rw (last-cause, tree-none joins)

    list-is : mend_list c l ≡ (drawn c).records ++ drop (length (drawn c).records) l
    unfolding mend_list list_or listed
    list-is = rw (last-cause, tree-none joins)

    abbrev S : ℕ → Bool
    S = (drawn c).marks

    abbrev new : Call
    new = with_claim c (redrawn (used c) S c.mark)

    -- the byte at a row in use
    byte-used : (i : ℕ) → Row c i → in_row 1 (redrawn (used c) S c.mark) i ≡ cond (S i) 1 0
    unfolding redrawn
    byte-used zero (lo, _, _) = absurd (omega arith)
    byte-used (suc j) (lo, hi, u) =
        let e : 0 + j + 1 ≡ suc j = omega arith in
        in_row-byte (redrawn_from (used c) S 0 c.mark) j
        ∙ get_d-redrawn (used c) S 0 c.mark j (omega (arith, t.mark-length))
        ∙ ap (λ (k : ℕ). byte_of (used c) S k (get_or c.mark j 0)) e
        ∙ rw (row-used c (suc j) (lo, hi, u))

    tree-inside : Inside g S
    tree-inside = all.least.tree.inside

    new-claimed : claimed new ≡ S
    unfolding claimed marked both used graph_of
    new-claimed = fun_ext λ i. go i (used c i) refl (S i) refl
      where
        go : (i : ℕ) (b : Bool) → used c i ≡ b → (d : Bool) → S i ≡ d → (used c i && eqb (in_row 1 (redrawn (used c) S c.mark) i) 1) ≡ S i
        go i true e true f = rw (e, byte-used i (used-row c i e), f)
        go i true e false f = rw (e, byte-used i (used-row c i e), f)
        go i false e true f = clash (tree-inside i f) e
        go i false e false f = rw (e, f)

    new-accepted : Accepted new
    unfolding redrawn
    new-accepted =
        let b = (accepted-means c).0 a in
        (accepted-means new).1
        (record { vertices = b.vertices; rows = b.rows; whole = b.whole; left-length = b.left-length; right-length = b.right-length; weight-length = b.weight-length; mark-length = length-redrawn (used c) S 0 c.mark ∙ b.mark-length; good-rows = record { left_end = b.good-rows.left_end; right_end = b.good-rows.right_end; apart = b.good-rows.apart; unrepeated = b.good-rows.unrepeated } })

    bit-small : (b : Bool) → cond b 1 0 ≤ 1
    bit-small true = omega arith
    bit-small false = omega arith

    new-tree : ClaimTree new
    unfolding redrawn graph_of used
    new-tree =
        record {
          bytes = length-redrawn (used c) S 0 c.mark ∙ t.mark-length;
          zero-or-one = λ i row. rw (byte-used i row) (bit-small (S i));
          spanning = subst (SpanningTree (graph_of c)) (sym new-claimed) all.least.tree;
        }

    new-passed : (weight : ℤ) × (alone : Bool) × (cst new ≡ passed weight alone)
    unfolding graph_of used weight_of
    new-passed = (demand3 new new-accepted).passes.1 (least-claim new new-accepted new-tree (subst (Least (graph_of c) (weight_of c)) (sym new-claimed) all.least))

    -- a byte written at a row in use
    abbrev at : (ℕ → Bool) → List ℕ
    at p = redrawn (used c) p c.mark

    set-byte : (p q : ℕ → Bool) (j : ℕ) (d : Bool) → Row c (suc j) → q (suc j) ≡ d → ((i : ℕ) → i ≢ suc j → q i ≡ p i) → set (at p) j (cond d 1 0) ≡ at q
    unfolding redrawn
    set-byte p q j d (lo, hi, u) e same =
        ext_get_or 0 (set (redrawn_from (used c) p 0 c.mark) j (cond d 1 0)) (redrawn_from (used c) q 0 c.mark)
        (length-set (redrawn_from (used c) p 0 c.mark) j (cond d 1 0) ∙ length-redrawn (used c) p 0 c.mark ∙ sym (length-redrawn (used c) q 0 c.mark))
        (λ k h. go k (omega (arith, h, length-set (redrawn_from (used c) p 0 c.mark) j (cond d 1 0), length-redrawn (used c) p 0 c.mark)) (ℕ_discrete k j))
      where
        byte : (r : ℕ → Bool) (k : ℕ) → k < length c.mark → get_or (redrawn_from (used c) r 0 c.mark) k 0 ≡ byte_of (used c) r (suc k) (get_or c.mark k 0)
        byte r k h = let n : 0 + k + 1 ≡ suc k = omega arith in get_d-redrawn (used c) r 0 c.mark k h ∙ ap (λ (i : ℕ). byte_of (used c) r i (get_or c.mark k 0)) n

        go : (k : ℕ) → k < length c.mark → Dec (k ≡ j) → get_or (set (redrawn_from (used c) p 0 c.mark) j (cond d 1 0)) k 0 ≡ get_or (redrawn_from (used c) q 0 c.mark) k 0
        go k h (yes f) =
            rw f (get_or-set_same (redrawn_from (used c) p 0 c.mark) j (cond d 1 0) 0 (omega (arith, t.mark-length, length-redrawn (used c) p 0 c.mark))
            ∙ sym (byte q j (omega (arith, t.mark-length)) ∙ rw (row-used c (suc j) (lo, hi, u), e)))
        go k h (no f) =
            get_or-set_other (redrawn_from (used c) p 0 c.mark) j k (cond d 1 0) 0 f
            ∙ byte p k h
            ∙ sym (byte q k h ∙ ap (λ (b : Bool). cond (used c (suc k)) (cond b 1 0) (get_or c.mark k 0)) (same (suc k) (λ z. f (omega arith))))

    -- a position is a row in use, or 0
    abbrev RowOrNone : ℕ → Type 0
    RowOrNone i = (i ≡ 0) ⊎ Row c i

    out-byte : (p : ℕ → Bool) (i : ℕ) → RowOrNone i → byte_written (at p) i 0 ≡ at (unmark_row p i)
    unfolding byte_written unmark_row
    out-byte p zero h = refl
    out-byte p (suc j) (inl e) = absurd (omega arith)
    out-byte p (suc j) (inr row) = set-byte p (take_out p (suc j)) j false row (take_out-same p (suc j)) (take_out-other p (suc j))

    in-byte : (p : ℕ → Bool) (i : ℕ) → RowOrNone i → byte_written (at p) i 1 ≡ at (mark_row p i)
    unfolding byte_written mark_row
    in-byte p zero h = refl
    in-byte p (suc j) (inl e) = absurd (omega arith)
    in-byte p (suc j) (inr row) = set-byte p (put p (suc j)) j true row (put_same p (suc j)) (put_other p (suc j))

    -- each record's rows are rows in use
    record-rows : (p : ℕ → Bool) (r : Record) → Meant g (weight_of c) p r → Inside g p → RowOrNone r.out × RowOrNone r.into
    unfolding graph_of
    record-rows p r (dropped j m w) within = (inr (used-row c (suc j) (within (suc j) m)), inl refl)
    record-rows p r (added j row w) within = (inl refl, inr (used-row c (suc j) row))
    record-rows p r (swapped tr e f row off on heavy heaviest uppermost) within = (inr (used-row c e (tr.inside e (path_inside (graph_of c) ok p tr (in_row 1 c.left f) (in_row 1 c.right f) e on))), inr (used-row c f row))

    applied-as : (p : ℕ → Bool) (r : Record) → mark_row (unmark_row p r.out) r.into ≡ apply p r
    unfolding apply
    applied-as p r = refl

    -- and it leaves rows in use
    record-inside : (p : ℕ → Bool) (r : Record) → Meant g (weight_of c) p r → Inside g p → Inside g (apply p r)
    unfolding apply mark_row unmark_row
    record-inside p r (dropped j m w) within i e = within i (take_out-in p (suc j) i e).0
    record-inside p r (added j row w) within i e = put_all (λ (k : ℕ). g.rows k ≡ true) p (suc j) within row i e
    record-inside p r (swapped tr e f row off on heavy heaviest uppermost) within i t = marked-in f row i t
      where
        unmarked : (k i : ℕ) → unmark_row p k i ≡ true → g.rows i ≡ true
        unmarked zero i h = within i h
        unmarked (suc k) i h = within i (take_out-in p (suc k) i h).0

        marked-in : (k : ℕ) → g.rows k ≡ true → (i : ℕ) → mark_row (unmark_row p e) k i ≡ true → g.rows i ≡ true
        marked-in zero u i h = unmarked e i h
        marked-in (suc k) u i h = put_all (λ (j : ℕ). g.rows j ≡ true) (unmark_row p e) (suc k) (unmarked e) u i h

    -- the records applied to the bytes of a claim are the records applied to its rows
    applied-bytes : (rs : List Record) (p : ℕ → Bool) → Inside g p → AllMeant g (weight_of c) p rs → applied_to (at p) rs ≡ at (apply_all p rs)
    unfolding applied_to apply_all AllMeant
    applied-bytes [] p within h = refl
    applied-bytes (r ∷ rs) p within h =
        let (o, i) = record-rows p r h.0 within in
        ap (λ (b : List ℕ). applied_to (byte_written b r.into 1) rs) (out-byte p r.out o)
        ∙ ap (λ (b : List ℕ). applied_to b rs) (in-byte (unmark_row p r.out) r.into i)
        ∙ ap (λ (q : ℕ → Bool). applied_to (at q) rs) (applied-as p r)
        ∙ applied-bytes rs (apply p r) (record-inside p r h.0 within) h.1

    -- the old claim is its own rows
    old-bytes : at (claimed c) ≡ c.mark
    unfolding redrawn claimed both marked
    old-bytes = ext_get_or 0 (redrawn_from (used c) (claimed c) 0 c.mark) c.mark (length-redrawn (used c) (claimed c) 0 c.mark) (λ k h. byte k (omega (arith, h, length-redrawn (used c) (claimed c) 0 c.mark)))
      where
        same : (k : ℕ) (b : Bool) → used c (suc k) ≡ b → byte_of (used c) (claimed c) (suc k) (get_or c.mark k 0) ≡ get_or c.mark k 0
        same k true e =
            let x = get_or c.mark k 0 in
            let low : x ≤ 1 = rw (← in_row-byte c.mark k) (small (suc k) (used-row c (suc k) e)) in
            rw (e, in_row-byte c.mark k) (zero_one x low)
        same k false e = rw e

        byte : (k : ℕ) → k < length c.mark → get_or (redrawn_from (used c) (claimed c) 0 c.mark) k 0 ≡ get_or c.mark k 0
        byte k h =
            let n : 0 + k + 1 ≡ suc k = omega arith in
            get_d-redrawn (used c) (claimed c) 0 c.mark k h ∙ ap (λ (i : ℕ). byte_of (used c) (claimed c) i (get_or c.mark k 0)) n ∙ same k (used c (suc k)) refl

    back : (k : ℕ) → mend c (length l) ≡ mended_by k → take k (mend_list c l) ≡ (drawn c).records
    back k e =
        let q = answer-connected joins in
        let n : length (drawn c).records ≡ k = cc in
        rw (← n, list-is) (records-back (drawn c).records (drop (length (drawn c).records) l))

    applied : (k : ℕ) → mend c (length l) ≡ mended_by k → applied_to c.mark (take k (mend_list c l)) ≡ mend_marks c (length l)
    applied k e =
        rw (back k e, marks-are)
        (ap (λ (b : List ℕ). applied_to b (drawn c).records) (sym old-bytes)
        ∙ applied-bytes (drawn c).records (claimed c) inside all.meant
        ∙ ap at all.applied)

    rest : (k : ℕ) → mend c (length l) ≡ mended_by k → drop k (mend_list c l) ≡ drop k l
    rest k e =
        let q = answer-connected joins in
        let n : length (drawn c).records ≡ k = cc in
        rw (← n, list-is) (records-rest (drawn c).records (drop (length (drawn c).records) l))

  whole : Mended c l
  whole =
      record {
        connected = (λ joins. (_, answer-connected joins), λ (k, e). mended-connected k e);
        unconnected = (answer-unconnected, λ e joins. told-apart e (answer-connected joins));
        kept = λ e. kept-both (decided (λ joins. absurd (told-apart e (answer-connected joins))) tree-some);
        passes = λ k e. rw (marks-are (mended-connected k e)) (new-passed (mended-connected k e));
        applied = λ k e. applied (mended-connected k e) k e;
        few = λ k e. few-records k e;
        rest = λ k e. rest (mended-connected k e) k e;
        meant = λ k e. rw (back (mended-connected k e) k e) (all (mended-connected k e)).meant;
        order = λ k e. rw (back (mended-connected k e) k e) (all (mended-connected k e)).order;
      }
    where
      kept-both : no_tree c ≡ some (record { number = 11; place = 0 }) → (mend_marks c (length l) ≡ c.mark) × (mend_list c l ≡ l)
      kept-both e = (kept-marks e, kept-list e)

      few-records : (k : ℕ) → mend c (length l) ≡ mended_by k → k ≤ 2 * rows_of c
      few-records k e =
          let joins = mended-connected k e in
          let q = answer-connected joins in
          let n : length (drawn c).records ≡ k = cc in
          few-rows joins k n

pub mending-means : MendingMeans
mending-means c a small l room = whole c a small l room
