-- The mender's answer, the claim and the list in each of its three cases: the call is refused, there is no tree, or the claim is mended.
-- Assumes nothing.
use Prim.Native.Nat.{ℕ, ◌*◌, ◌≤◌}
use borrow.Author.Tests.{ltb-false}
use lib.ListN.{length, take, drop, length-append}
use mathlib.Core.Bool.{Bool}
use mathlib.Core.List.{List, [], ◌∷◌, ◌++◌}
use mathlib.Core.Option.{Option, none, some}
use mathlib.Core.Path.{◌≡◌, refl, sym, ◌∙◌, ap, ap₂, subst}
use native.Mathlib.Omega.{arith}
use Rattle.claim.proofs.Laws.{claim_rows-marked}
use Rattle.claim.specs.Claims.{claim_rows}
use Rattle.cst.proofs.Paths.{refused-walk, done-walk, done-loads}
use Rattle.cst.specs.Steps.Paths.{Walked}
use Rattle.star_meaning.proofs.Demand3.{demand3}
use Rattle.star_meaning.specs.Demand3.{ClaimTree}
use Rattle.mend_spec.specs.Mend.{few_records, short_list, claim_causes, mend_causes, drawn, redrawn, unmended, mended_by, answer_or, mend, marks_or, mend_marks, list_or, mend_list}
use Rattle.path_exchange.specs.Turned.{PathsFrom}
use Rattle.graph_theory.proofs.Builder.{tree-connected, built-least, not-connected}
use Rattle.graph_theory.specs.Builder.{Fragment, tree}
use Rattle.graph_theory.specs.Graph.{Graph, Sound, Inside}
use Rattle.graph_theory.specs.Tree.{SpanningTree, on_path}
use Rattle.path_matrix.proofs.Laws.{length-matrix_words}
use Rattle.mend_theory.proofs.Promise.{joined-tree, spanned, mends}
use Rattle.mend_theory.specs.Mending.{gapless, exchanged}
use Rattle.path.proofs.Paths as P
use Rattle.mend_record.specs.declared.Record.{Record}
use Rattle.mend_list.specs.Steps.Stored.{stored_to}
use Rattle.refusal.specs.declared.Refusal.{Refusal}
use Rattle.rowset.proofs.Laws.{clash, both-subset}
use Rattle.rowset.proofs.Members.{both-in}
use Rattle.rowset.specs.Bytes.{in_row}
use Rattle.rowset.specs.Integers.{signed}
use Rattle.rowset.specs.Sets.{up_to, both}
use Rattle.rowset.specs.Words.{column_words, matrix_words}
use Rattle.star_spec.proofs.Accepted.{none-head, none_tail, cause-none, refusal-append, Taken, taken, sound, accepted-means}
use Rattle.star_spec.proofs.Claims.{claim_of-length, marked-claim_of, claim_of-bytes}
use Rattle.star_spec.specs.Call.{Call, used, graph_of, weight_of, marked, claimed, with_claim, claim_of}
use Rattle.star_spec.specs.MatrixPath.{path_column, matrix_path, matrix_or, matrix_after}
use Rattle.star_spec.specs.Refusals.{Accepted, max_vertices, cause, is_none, no_tree, table_causes, bad_claim, bad_count, unjoined, cst_causes, or_else, refusal}
use Rattle.table.specs.Loads.{loaded_row}
use Rattle.mend_groups.proofs.Listed.{begun}
use Rattle.mend_groups.proofs.Joining.{Second, passes-shown}
use Rattle.mend.proofs.Written.{records-taken, stored-all}
use Rattle.mend.proofs.Third.{Third, third-after}
use Rattle.mend_groups.specs.Steps.Machine.{State, visits, two_passes}
use Rattle.mend.specs.Steps.Machine.{swap_at}

-- the causes in order
refusal-thrice : (xs : List (Option Refusal)) (a b d : Option Refusal) → refusal (xs ++ (a ∷ b ∷ d ∷ [])) ≡ or_else (or_else (refusal (xs ++ (a ∷ []))) b) d
unfolding refusal or_else
refusal-thrice [] none none none = refl
refusal-thrice [] none none (some r) = refl
refusal-thrice [] none (some r) d = refl
refusal-thrice [] (some r) b d = refl
refusal-thrice (none ∷ xs) a b d = refusal-thrice xs a b d
refusal-thrice (some r ∷ xs) a b d = refl

refusal-before : (xs ys : List (Option Refusal)) → refusal (xs ++ ys) ≡ none → refusal xs ≡ none
unfolding refusal or_else
refusal-before [] ys e = refl
refusal-before (none ∷ xs) ys e = refusal-before xs ys e
refusal-before (some r ∷ xs) ys e = e

or_else-none : (x y : Option Refusal) → or_else x y ≡ none → (x ≡ none) × (y ≡ none)
unfolding or_else
or_else-none none y e = (refl, e)
or_else-none (some r) y e = clash refl (cc)

module _ (c : Call) (records : ℕ) where
  pub causes-in-order : refusal (mend_causes c records) ≡ or_else (or_else (refusal (claim_causes c)) (few_records c.m records)) (no_tree c)
  unfolding mend_causes claim_causes short_list
  causes-in-order = refusal-thrice (table_causes c) (bad_claim c) (short_list c records) (no_tree c)

  -- a call that the checks refuse
  pub call-refused : (r : Refusal) → or_else (refusal (claim_causes c)) (few_records c.m records) ≡ some r → (unmended r ≡ mend c records) × (c.mark ≡ mend_marks c records) × ((l : List Record) → length l ≡ records → l ≡ mend_list c l)
  unfolding mend mend_marks mend_list answer_or marks_or list_or or_else
  call-refused r h = (rw (causes-in-order, h), rw (causes-in-order, h), λ l e. rw (e, causes-in-order, h))

  -- a call that they accept
  module _ (checked : or_else (refusal (claim_causes c)) (few_records c.m records) ≡ none) where
    accepted : Accepted c
    unfolding claim_causes
    accepted = refusal-before (table_causes c) (bad_claim c ∷ []) (or_else-none _ _ checked).0

    t : Taken c
    t = taken c accepted

    pub few-rows : c.m ≤ 1024
    few-rows = t.few-rows

    -- the list has room
    pub long-list : 2 * c.m ≤ records
    long-list = ltb-false records (2 * c.m) (cause-none _ 16 0 (or_else-none _ _ checked).1)

    last-cause : refusal (mend_causes c records) ≡ no_tree c
    unfolding or_else
    last-cause = rw (causes-in-order, checked)

    -- the graph of the call, its parts in view
    abbrev g : Graph
    g = record { n = c.n; m = c.m; a = in_row 1 c.left; b = in_row 1 c.right; rows = used c }

    ok : Sound g
    unfolding graph_of
    ok = sound c t

    inside : Inside g (claimed c)
    unfolding graph_of claimed
    inside i e = (both-in (used c) (marked c.mark) i e).0

    -- the rows in use and the marked rows as the machine has them
    module _ (U M : ℕ → Bool) (e_u : U ≡ both (up_to c.m) c.in_use) (e_m : M ≡ both U (claim_rows c.mark)) (l₀ : List Record) (room : length l₀ ≡ 3072) where
      space : 3 * c.m ≤ length l₀
      space = omega (arith, few-rows)

      are-used : U ≡ used c
      unfolding used
      are-used = e_u

      are-marked : M ≡ claimed c
      unfolding claimed
      are-marked = e_m ∙ ap₂ both are-used (claim_rows-marked c.mark (omega (arith, t.mark-length, t.few-rows)))

      abbrev two : State
      two = two_passes c.m U M c.left c.right l₀

      joined-up : Second c.n c.m c.left c.right (used c) ok t.few-vertices few-rows (claimed c) inside l₀ space c.m two (gapless g (claimed c))
      unfolding graph_of
      joined-up =
          subst (λ (x : State). Second c.n c.m c.left c.right (used c) ok t.few-vertices few-rows (claimed c) inside l₀ space c.m x (gapless g (claimed c)))
          (sym (ap₂ (λ (u p : ℕ → Bool). two_passes c.m u p c.left c.right l₀) are-used are-marked))
          (passes-shown c.n c.m c.left c.right (used c) ok t.few-vertices few-rows (claimed c) inside l₀ space)

      abbrev marks : ℕ → Bool
      marks = (gapless g (claimed c)).marks

      module _ (S : ℕ → Bool) (e_s : S ≡ two.marks) where
        -- the claim of which the paths are sought
        abbrev plan : Call
        plan = with_claim c (claim_of c.m S)

        plan-marks : S ≡ marks
        plan-marks = e_s ∙ joined-up.shows.marks

        within : Inside g marks
        within = joined-up.within

        plan-claimed : claimed plan ≡ marks
        unfolding claimed used graph_of
        plan-claimed =
            ap (λ (p : ℕ → Bool). both (used c) (marked (claim_of c.m p))) plan-marks
            ∙ ap (both (used c)) (marked-claim_of c.m marks (λ i e. ok.position i (within i e)))
            ∙ both-subset (used c) marks within

        plan-accepted : Accepted plan
        plan-accepted =
            let a = (accepted-means c).0 accepted in
            (accepted-means plan).1
            (record { vertices = a.vertices; rows = a.rows; whole = a.whole; left-length = a.left-length; right-length = a.right-length; weight-length = a.weight-length; mark-length = claim_of-length c.m S; good-rows = record { left_end = a.good-rows.left_end; right_end = a.good-rows.right_end; apart = a.good-rows.apart; unrepeated = a.good-rows.unrepeated } })

        plan-tree : SpanningTree g marks → ClaimTree plan
        unfolding graph_of used
        plan-tree s = record { bytes = claim_of-length c.m S; zero-or-one = λ i row. claim_of-bytes c.m S i; spanning = subst (SpanningTree g) (sym plan-claimed) s }

        module _ (R : List ℕ) (words : length R ≡ column_words * max_vertices) where
          module _ (r : Refusal) (e : some r ≡ matrix_path plan 1 R) where
            never : (B : ℕ → Bool) → SpanningTree g B → ⊥
            never B b = (demand3 plan plan-accepted).declines.0 (r, sym (refused-walk plan R words r e).0) (plan-tree (joined-tree g ok (weight_of c) (claimed c) inside (spanned g ok (weight_of c) (claimed c) inside B b)))

            eleven : no_tree c ≡ some (record { number = 11; place = 0 })
            unfolding no_tree is_none cause graph_of
            eleven = go (tree g (weight_of c)) refl
              where
                go : (o : Option Fragment) → tree g (weight_of c) ≡ o → no_tree c ≡ some (record { number = 11; place = 0 })
                go none q = rw q
                go (some f) q = absurd (never f.chosen (built-least g ok (weight_of c) f q).tree)

            -- where MatrixPath refuses the plan there is no tree
            pub no-tree : (unmended (record { number = 11; place = 0 }) ≡ mend c records) × (c.mark ≡ mend_marks c records) × ((l : List Record) → length l ≡ records → l ≡ mend_list c l)
            unfolding mend mend_marks mend_list answer_or marks_or list_or
            no-tree = (rw (last-cause, eleven), rw (last-cause, eleven), λ l z. rw (z, last-cause, eleven))

          -- where it is done the plan is a tree, and its matrix has the paths
          module _ (own : List ℕ) (e : none ≡ matrix_path plan 1 R) (q : own ≡ matrix_after plan 1 R) where
            pub loads : loaded_row 4 c.weight ≡ in_row 4 c.weight
            loads = done-loads plan R words e

            walked : Walked plan own
            walked = done-walk plan R words own e q

            spans : SpanningTree g marks
            unfolding graph_of used cst_causes
            spans =
                let rest = none_tail (bad_claim plan) (bad_count plan ∷ unjoined plan 1 ∷ []) (sym (refusal-append (table_causes plan) (bad_claim plan ∷ bad_count plan ∷ unjoined plan 1 ∷ []) plan-accepted) ∙ walked.unrefused) in
                subst (SpanningTree g) plan-claimed (P.joined-tree plan (taken plan plan-accepted) 1 (omega arith) t.some-vertex (none-head (bad_count plan) (unjoined plan 1 ∷ []) rest) (none-head (unjoined plan 1) [] (none_tail (bad_count plan) (unjoined plan 1 ∷ []) rest)))

            paths : PathsFrom g marks 1 own
            unfolding path_column graph_of used
            paths j lo hi = walked.columns j lo hi ∙ ap (λ (p : ℕ → Bool). on_path g p 1 j) plan-claimed

            long : column_words * c.n ≤ length own
            unfolding matrix_after matrix_or
            long = rw (q, ← e) (omega (arith, length-append (matrix_words (path_column plan 1) c.n) (drop (column_words * c.n) R), length-matrix_words (path_column plan 1) c.n))

            twelve : no_tree c ≡ none
            unfolding no_tree is_none cause graph_of
            twelve = go (tree g (weight_of c)) refl
              where
                go : (o : Option Fragment) → tree g (weight_of c) ≡ o → no_tree c ≡ none
                go none f = absurd (not-connected g ok (weight_of c) f (tree-connected spans))
                go (some f) h = rw h

            module _ (count : ℕ) (list : List Record) (ec : count ≡ two.count) (el : list ≡ two.list) (s : State) (es : s ≡ visits (swap_at c.n U (λ k. signed (in_row 4 c.weight k)) c.left c.right c.weight) c.m (record { marks = S; count = count; list = list; own = own })) where
              third : Third c.n c.m c.left c.right (used c) c.weight ok few-rows l₀ space c.m s (drawn c)
              unfolding drawn exchanged graph_of weight_of
              third =
                  subst (λ (x : State). Third c.n c.m c.left c.right (used c) c.weight ok few-rows l₀ space c.m x (drawn c))
                  (sym (es ∙ ap (λ (u : ℕ → Bool). visits (swap_at c.n u (λ k. signed (in_row 4 c.weight k)) c.left c.right c.weight) c.m (record { marks = S; count = count; list = list; own = own })) are-used))
                  (third-after c.n c.m c.left c.right (used c) c.weight ok few-rows l₀ space (record { marks = S; count = count; list = list; own = own }) (gapless g (claimed c))
                  (record {
                    shows = record { marks = plan-marks; count = ec ∙ joined-up.shows.count; list = el ∙ joined-up.shows.list };
                    tree = spans;
                    paths = paths;
                    long = long;
                    number = omega (arith, joined-up.number);
                  })
                  c.m (omega arith))

              -- the records are few
              pub few : s.count ≤ 2 * c.m
              unfolding drawn graph_of
              few = omega (arith, third.shows.count, (mends g ok (weight_of c) (claimed c) inside (spanned g ok (weight_of c) (claimed c) inside marks spans)).few)

              -- the first records of the list are those of the drawing
              records-first : take s.count s.list ≡ (drawn c).records
              unfolding begun
              records-first = rw (third.shows.list, third.shows.count) (records-taken (drawn c).records (drop (length (drawn c).records) l₀))

              pub mended : (mended_by s.count ≡ mend c records) × (redrawn U s.marks c.mark ≡ mend_marks c records) × ((l : List Record) → length l ≡ records → stored_to (length (take s.count s.list)) (take s.count s.list) l ≡ mend_list c l)
              unfolding mend mend_marks mend_list answer_or marks_or list_or
              mended = (
                rw (last-cause, twelve) (ap mended_by third.shows.count),
                rw (last-cause, twelve) (ap₂ (λ (p r : ℕ → Bool). redrawn p r c.mark) are-used third.shows.marks),
                λ l z. rw (z, last-cause, twelve, records-first) (stored-all (drawn c).records l (omega (arith, z, long-list, few, third.shows.count))),
              )
