-- The dig list's theorem: what is printed of a tree reads back as its rows and their sum. Assumes nothing.
use Prim.Native.Nat.{ℕ, suc, ◌≤◌}
use borrow.Author.Tests.{leb-true, leb-false}
use lib.Dec.{leb}
use lib.IntN.{ℤ}
use lib.ListN.{length, length-append}
use mathlib.Core.Bool.{Bool, true, false}
use mathlib.Core.List.{List}
use mathlib.Core.Path.{◌≡◌, refl}
use native.Mathlib.Omega.{arith}
use Rattle.star_meaning.proofs.Demand3.{demand3, built-accepted}
use Rattle.star_meaning.specs.Demand3.{ClaimTree}
use Rattle.digs_spec.proofs.Rows.{digs, read-list, digs-ascending, digs-stored, listed-outside, listed-inside, digs-weighed, digs-number}
use Rattle.digs_spec.proofs.Sizes.{line-size, lines-size, total_size}
use Rattle.digs_spec.specs.DigList.{row_line, dig_list, built_list, table_list}
use Rattle.digs_spec.specs.Meaning.{Says, SaysTree, DigListTheorem}
use Rattle.digs_spec.specs.Reading.{Dig, weighed, listed}
use Rattle.rowset.proofs.Laws.{up_to-in}
use Rattle.rowset.proofs.Members.{both-in}
use Rattle.rowset.specs.Bytes.{in_row}
use Rattle.rowset.specs.Sets.{up_to, count}
use Rattle.star_spec.proofs.Accepted.{accepted-means}
use Rattle.star_spec.specs.Accepted.{Row, AcceptedTable}
use Rattle.star_spec.specs.Call.{Call, with_claim, rows_of, used, graph_of, weight_of, marked, claimed, claim_weight}
use Rattle.star_spec.specs.Mst1.{tree_built, mst1, mst1_marks}
use Rattle.star_spec.specs.Refusals.{Accepted}

module _ (c : Call) where
  -- a marked row of the claim is a row in use
  claimed-row : (i : ℕ) → claimed c i ≡ true → Row c i
  unfolding claimed used
  claimed-row i e =
      let u = both-in (up_to (rows_of c)) c.in_use i (both-in (used c) (marked c.mark) i e).0 in
      let r = up_to-in (rows_of c) i u.0 in
      (r.0, r.1, u.1)

  abbrev found : List Dig
  found = digs c.left c.right c.weight (rows_of c) (claimed c)

  -- the rows that are read are exactly the marked ones
  exactly : (i : ℕ) → listed i found ≡ claimed c i
  exactly i = go (leb 1 i) (leb i (rows_of c)) refl refl
    where
      outside : (1 ≤ i → i ≤ rows_of c → ⊥) → (b : Bool) → claimed c i ≡ b → listed i found ≡ b
      outside o true e =
          let r = claimed-row i e in
          absurd (o r.0 r.1)
      outside o false e = listed-outside c.left c.right c.weight i (rows_of c) (claimed c) o

      go : (a b : Bool) → leb 1 i ≡ a → leb i (rows_of c) ≡ b → listed i found ≡ claimed c i
      go true true x y = listed-inside c.left c.right c.weight i (rows_of c) (claimed c) (leb-true 1 i x) (leb-true i (rows_of c) y)
      go true false x y = outside (λ a b. omega (arith, leb-false i (rows_of c) y)) (claimed c i) refl
      go false b x y = outside (λ a d. omega (arith, leb-false 1 i x)) (claimed c i) refl

  weighs : weighed found ≡ claim_weight c
  unfolding claim_weight weight_of
  weighs = digs-weighed c.left c.right c.weight (rows_of c) (claimed c)

  says : Says c (dig_list c)
  unfolding dig_list
  says =
      record {
        rows = found;
        reads = rw weighs (read-list c.left c.right c.weight (rows_of c) (claimed c) _);
        from-top = digs-ascending c.left c.right c.weight (rows_of c) (claimed c);
        exactly = exactly;
        as-stored = digs-stored c.left c.right c.weight (rows_of c) (claimed c);
      }

  -- a tree has n − 1 marks
  marks : ClaimTree c → suc (count (rows_of c) (claimed c)) ≡ c.n
  unfolding graph_of
  marks t = t.spanning.marks

  short : AcceptedTable c → count (rows_of c) (claimed c) ≤ 254 → length (dig_list c) ≤ 6370
  unfolding dig_list claim_weight weight_of
  short a k =
      simp length-append
      (omega (
        arith,
        lines-size (row_line c.left c.right c.weight) 25 (rows_of c) (claimed c)
            (λ i u v e.
            let r = claimed-row i e in
            line-size c.left c.right c.weight i (omega (arith, a.rows)) (omega (arith, a.good-rows.left_end i r, a.vertices)) (omega (arith, a.good-rows.right_end i r, a.vertices))),
        total_size (rows_of c) (in_row 4 c.weight) (claimed c) k,
      ))

  says-tree : Accepted c → ClaimTree c → SaysTree c (dig_list c)
  unfolding says
  says-tree accepted t =
      let a = (accepted-means c).0 accepted in
      record {
        says = says;
        number = rw (digs-number c.left c.right c.weight (rows_of c) (claimed c)) (marks t);
        weight-of = weighs;
        short = short a (omega (arith, marks t, a.vertices));
      }

-- what MST1 builds is a tree
built-tree : (c : Call) → Accepted c → (w : ℤ) → mst1 c ≡ tree_built w → SaysTree (with_claim c (mst1_marks c)) (dig_list (with_claim c (mst1_marks c)))
built-tree c accepted w e =
    let after = built-accepted c accepted w e in
    let (alone, passes) = (demand3 c accepted).builds w e in
    says-tree (with_claim c (mst1_marks c)) after ((demand3 (with_claim c (mst1_marks c)) after).passes.0 (w, alone, passes)).tree

pub dig-list-holds : DigListTheorem
unfolding table_list built_list
dig-list-holds c accepted =
    record {
      every-tree = says-tree c accepted;
      mst1-tree = λ w e. (dig_list (with_claim c (mst1_marks c)), rw e refl, built-tree c accepted w e);
    }
