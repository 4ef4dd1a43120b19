-- What star_work_cst and star_work_mst1 say over the columns that were left. Main statement: file-checked.
-- Assumes nothing.
use Prim.Native.Nat.{ℕ, zero, suc, ◌+◌, ◌*◌, ◌-◌, ◌/◌, ◌%◌, ◌^◌, ◌≤◌, ◌<◌}
use borrow.Author.Tests.{eqb-true}
use lib.Dec.{eqb}
use lib.IntN.{ℤ, pos}
use lib.ListN.{length, get_or}
use mathlib.Core.Bool.{Bool, true, false, ◌&&◌, false≢true}
use mathlib.Core.List.{List, [], ◌∷◌}
use mathlib.Core.Logic.{◌↔◌}
use mathlib.Core.Path.{◌≡◌, refl, sym, ap, ◌∙◌, subst}
use native.Mathlib.Omega.{arith}
use Rattle.file_door_meaning.specs.Bytes.{CheckedOver, BuiltOver, FileChecked}
use Rattle.file_meaning.specs.FileCall.{file_graph, file_plan, file_price, file_total, FileTable, call_after, FileCall}
use Rattle.file_spec.specs.Table.{Lent}
use Rattle.graph_theory.specs.Least.{Least}
use Rattle.graph_theory.specs.Tree.{SpanningTree}
use Rattle.promise.proofs.Doors.{work-cst, work-mst1}
use Rattle.promise.proofs.Trees.{amount-read}
use Rattle.promise.specs.Promise as P
use Rattle.rowset.proofs.Laws.{in-up_to}
use Rattle.rowset.specs.Bytes.{little, in_row}
use Rattle.rowset.specs.Sets.{up_to}
use Rattle.rowset.specs.Words.{in_words}
use Rattle.star_meaning.proofs.Bytes.{cst-door-means, mst1-door-means}
use Rattle.star_spec.proofs.Claims.{in_row-byte}
use Rattle.star_spec.specs.Call.{Call, work_of, with_claim, marked}
use Rattle.star_spec.specs.Cst.{Answer, refused, passed, lighter, cst}
use Rattle.star_spec.specs.Door.{Fields, fields, built_fields, read_back, door_returns, cst_door, mst1_door, mst1_door_marks}
use Rattle.star_spec.specs.Mst1.{BuildAnswer, unbuilt, tree_built, mst1}

-- the kind and the amount that are read back are byte 0 and bytes 8 to 15
kind-read : (a : List ℕ) (f : Fields) → read_back a ≡ f → P.at a 0 ≡ f.kind
unfolding read_back little
kind-read a f e = let k : get_or a 0 0 + 256 * 0 ≡ f.kind = ap (λ x. x.kind) e in omega arith

amount-is : (a : List ℕ) (f : Fields) → read_back a ≡ f → P.amount a ≡ f.amount
unfolding read_back
amount-is a f e = amount-read a ∙ ap (λ x. x.amount) e

-- kind 1 is a claim that passes, and a tree that is built
kind-passed : (x : Answer) → (fields x).kind ≡ 1 → (w : ℤ) × (alone : Bool) × (x ≡ passed w alone)
unfolding fields
kind-passed (refused r) e = absurd (omega arith)
kind-passed (passed w alone) e = (w, alone, refl)
kind-passed (lighter out into saving) e = absurd (omega arith)

passed-fields : (x : Answer) (w : ℤ) (alone : Bool) → x ≡ passed w alone → ((fields x).kind ≡ 1) × ((fields x).amount ≡ w)
unfolding fields
passed-fields x w alone e = rw e (refl, refl)

kind-built : (x : BuildAnswer) → (built_fields x).kind ≡ 1 → (w : ℤ) × (x ≡ tree_built w)
unfolding built_fields
kind-built (unbuilt r) e = absurd (omega arith)
kind-built (tree_built w) e = (w, refl)

built-fields : (x : BuildAnswer) (w : ℤ) → x ≡ tree_built w → ((built_fields x).kind ≡ 1) × ((built_fields x).amount ≡ w)
unfolding built_fields
built-fields x w e = rw e (refl, refl)

-- ── The checker ──

module _ (n : ℕ) (words left right weight mark before after : List ℕ) (returned : ℕ) (sixteen : length before ≡ 16)
    (call : P.CstCall (P.working n words left right weight) mark before after returned) where
  abbrev c : Call
  c = work_of n words left right weight mark

  own-call : P.CstCall (P.working n words left right weight) mark before (cst_door c before) (door_returns before)
  own-call = (work-cst words (refl, refl)).1.1

  own-fields : read_back (cst_door c before) ≡ fields (cst c)
  own-fields = ((cst-door-means c before).written sixteen).fields

  -- byte 0 is 1 exactly where CST passes, and then bytes 8 to 15 are the weight that it states
  pub byte-passed : P.at after 0 ≡ 1 → (w : ℤ) × (alone : Bool) × (cst c ≡ passed w alone)
  byte-passed k =
      let own = (own-call.says sixteen).0.passed.1 ((call.says sixteen).0.passed.0 k) in
      kind-passed (cst c) (sym (kind-read (cst_door c before) (fields (cst c)) own-fields) ∙ own)

  own-one : (w : ℤ) (alone : Bool) → cst c ≡ passed w alone → P.at (cst_door c before) 0 ≡ 1
  own-one w alone e = kind-read (cst_door c before) (fields (cst c)) own-fields ∙ (passed-fields (cst c) w alone e).0

  pub passed-byte : (w : ℤ) (alone : Bool) → cst c ≡ passed w alone → P.at after 0 ≡ 1
  passed-byte w alone e = (call.says sixteen).0.passed.1 ((own-call.says sixteen).0.passed.0 (own-one w alone e))

  pub passed-amount : (w : ℤ) (alone : Bool) → cst c ≡ passed w alone → P.amount after ≡ w
  passed-amount w alone e =
      ((call.says sixteen).0.states (passed-byte w alone e)).0 ∙ sym ((own-call.says sixteen).0.states (own-one w alone e)).0
      ∙ amount-is (cst_door c before) (fields (cst c)) own-fields
      ∙ (passed-fields (cst c) w alone e).1

-- ── The builder ──

module _ (n : ℕ) (words left right weight mark before after marks : List ℕ) (returned : ℕ) (sixteen : length before ≡ 16)
    (call : P.Mst1Call (P.working n words left right weight) mark before after marks returned) where
  abbrev b : Call
  b = work_of n words left right weight mark

  own-build : P.Mst1Call (P.working n words left right weight) mark before (mst1_door b before) (mst1_door_marks b before) (door_returns before)
  own-build = (work-mst1 words (refl, (refl, refl))).1.1

  build-fields : read_back (mst1_door b before) ≡ built_fields (mst1 b)
  build-fields = ((mst1-door-means b before).written sixteen).fields

  pub byte-built : P.at after 0 ≡ 1 → (w : ℤ) × (mst1 b ≡ tree_built w)
  byte-built k =
      let own = (own-build.says sixteen).built.1 ((call.says sixteen).built.0 k) in
      kind-built (mst1 b) (sym (kind-read (mst1_door b before) (built_fields (mst1 b)) build-fields) ∙ own)

  pub built-byte : (w : ℤ) → mst1 b ≡ tree_built w → P.at after 0 ≡ 1
  built-byte w e = (call.says sixteen).built.1 ((own-build.says sixteen).built.0 (kind-read (mst1_door b before) (built_fields (mst1 b)) build-fields ∙ (built-fields (mst1 b) w e).0))

  -- the checker passes what was marked, with the same weight
  pub marks-passed : P.at after 0 ≡ 1 → (w : ℤ) × (alone : Bool) × (cst (work_of n words left right weight marks) ≡ passed w alone) × (P.amount after ≡ w)
  marks-passed k =
      let d = cst_door (work_of n words left right weight marks) before in
      let check = (work-cst words (refl, refl)).1.1 in
      let one = ((call.says sixteen).passed k before d (door_returns before) sixteen check).0 in
      let (w, alone, e) = byte-passed n words left right weight marks before d (door_returns before) sixteen check one in
      let weighs = ((check.says sixteen).0.states one).0 in
      (w, alone, e, ((call.says sixteen).states k).0 ∙ sym weighs ∙ passed-amount n words left right weight marks before d (door_returns before) sixteen check w alone e)

  pub marks-used : P.at after 0 ≡ 1 → (k : ℕ) → in_words words (suc k) ≡ false → P.at marks k ≡ 0
  unfolding in_words
  marks-used one k u = ((call.says sixteen).least one).2 k (λ row. false≢true (sym u ∙ rw (top k row.0, less k) row.1))
    where
      less : (x : ℕ) → suc x - 1 ≡ x
      less x = omega arith

      top : (x : ℕ) → x < 1024 → up_to 1024 (suc x) ≡ true
      top x h = in-up_to 1024 (suc x) (omega arith) h

-- ── A file ──

module _ (text : List ℕ) (n : ℕ) (l : Lent) (words_are : (i : ℕ) → in_words l.in_use i ≡ (file_graph text n).rows i) (f : FileCall text n (call_after n l)) where
  checker-passes : (after : List ℕ) → CheckedOver n l after → (P.at after 0 ≡ 1) ↔ (FileTable text n × Least (file_graph text n) (file_price text) (file_plan text))
  unfolding call_after
  checker-passes after h =
      let (before, returned, sixteen, call) = h in (
        λ k. f.passes.0 (byte-passed n l.in_use l.left l.right l.weight l.mark before after returned sixteen call k),
        λ p. let (w, alone, e) = f.passes.1 p in passed-byte n l.in_use l.left l.right l.weight l.mark before after returned sixteen call w alone e,
      )

  checker-states : (after : List ℕ) → CheckedOver n l after → P.at after 0 ≡ 1 → P.amount after ≡ file_total text (file_plan text)
  unfolding call_after
  checker-states after h k =
      let (before, returned, sixteen, call) = h in
      let (w, alone, e) = byte-passed n l.in_use l.left l.right l.weight l.mark before after returned sixteen call k in
      passed-amount n l.in_use l.left l.right l.weight l.mark before after returned sixteen call w alone e ∙ f.weight w alone e

  builder-builds : (after marks : List ℕ) → BuiltOver n l after marks → (P.at after 0 ≡ 1) ↔ (FileTable text n × (S : ℕ → Bool) × SpanningTree (file_graph text n) S)
  unfolding call_after
  builder-builds after marks h =
      let (before, returned, sixteen, call) = h in (
        λ k. f.builds.0 (byte-built n l.in_use l.left l.right l.weight l.mark before after marks returned sixteen call k),
        λ p. let (w, e) = f.builds.1 p in built-byte n l.in_use l.left l.right l.weight l.mark before after marks returned sixteen call w e,
      )

  -- what is marked is in use
  marked-rows : (marks : List ℕ) → ((k : ℕ) → in_words l.in_use (suc k) ≡ false → P.at marks k ≡ 0) → (i : ℕ) → marked marks i ≡ true → (file_graph text n).rows i ≡ true
  unfolding marked in_row
  marked-rows marks z zero e = absurd (zero-none (eqb-true 0 1 e))
    where
      zero-none : ◌≡◌ {A = ℕ} 0 1 → ⊥
      zero-none q = omega arith
  marked-rows marks z (suc k) e = sym (words_are (suc k)) ∙ go (in_words l.in_use (suc k)) refl
    where
      go : (x : Bool) → in_words l.in_use (suc k) ≡ x → x ≡ true
      go true q = refl
      go false q =
          let a = eqb-true (in_row 1 marks (suc k)) 1 e in
          let b = in_row-byte marks k in
          let c = z k q in
          absurd (omega arith)

  builder-marks : (after marks : List ℕ) → BuiltOver n l after marks → P.at after 0 ≡ 1 → Least (file_graph text n) (file_price text) (marked marks) × (P.amount after ≡ file_total text (marked marks))
  unfolding call_after
  builder-marks after marks h k =
      let (before, returned, sixteen, call) = h in
      let (w, alone, e, a) = marks-passed n l.in_use l.left l.right l.weight l.mark before after marks returned sixteen call k in
      let used = marks-used n l.in_use l.left l.right l.weight l.mark before after marks returned sixteen call k in
      let (least, t) = f.others marks w alone e (marked-rows marks used) in
      (least, a ∙ t)

  pub file-checked : FileChecked text n l
  file-checked = record { passes = checker-passes; states = checker-states; builds = builder-builds; built = builder-marks }
