-- Trials of restoring: each row of four, the refusals at their boundaries and in their order, what a refusal leaves, striking and restoring in turn, and the door's bytes.
-- Assumes nothing.
use Rattle.std.specs.Prelude.{ℕ, List, [], ◌∷◌, ◌≡◌, replicate}
use Rattle.std.proofs.Math.Option.{Option, none, some}
use Rattle.change_spec.specs.Changes.{words_of, struck_words}
use Rattle.refusal.specs.declared.Refusal.{Refusal}
use Rattle.restore_spec.specs.Restoring.{restore_refusal, restored_words, restore_door, restore_door_words}
use Rattle.rowset.specs.Trials.{these}
use Rattle.star_spec.specs.Trials.{because}

-- the words of these rows; of rows 2, 64, 65 and 1,024
abbrev rows : List ℕ → List ℕ
rows l = words_of (these l)

abbrev four : List ℕ
four = rows (2 ∷ 64 ∷ 65 ∷ 1024 ∷ [])

-- so many words in which every row is in use, and in which none is
abbrev full : ℕ → List ℕ
full k = replicate k 18446744073709551615

abbrev clear : ℕ → List ℕ
clear k = replicate k 0

-- the refusal with this number
abbrev no : ℕ → Option Refusal
no number = some (because number 0)

-- a row restored: the first, the last of a word, the first of the next, the last
abbrev RestoresHold : Type 0
RestoresHold =
    (restored_words (rows (64 ∷ 65 ∷ 1024 ∷ [])) 2 ∷ restored_words (rows (2 ∷ 65 ∷ 1024 ∷ [])) 64 ∷ restored_words (rows (2 ∷ 64 ∷ 1024 ∷ [])) 65 ∷ restored_words (rows (2 ∷ 64 ∷ 65 ∷ [])) 1024
    ∷ restored_words (clear 16) 1 ∷ [])
    ≡ (four ∷ four ∷ four ∷ four ∷ rows (1 ∷ []) ∷ [])

abbrev RefusalsHold : Type 0
RefusalsHold =
    (
    restore_refusal four 1 ∷ restore_refusal four 63 ∷ restore_refusal four 1023 ∷ restore_refusal (clear 16) 1024
    -- rows in use, and positions outside, also where no row is in use
    ∷ restore_refusal four 2 ∷ restore_refusal four 1024 ∷ restore_refusal (clear 16) 0 ∷ restore_refusal (clear 16) 1025 ∷ restore_refusal (clear 16) 4294967295
    -- 27 before 3; 3 where the row is struck: also a row that a list of fifteen words does not have
    ∷ restore_refusal (full 15) 960 ∷ restore_refusal (full 17) 1 ∷ restore_refusal (clear 15) 0 ∷ restore_refusal (full 17) 1025
    ∷ restore_refusal (full 15) 1024 ∷ restore_refusal (clear 17) 1 ∷ restore_refusal [] 1024
    ∷ [])
    ≡ (
    none ∷ none ∷ none ∷ none
    ∷ no 27 ∷ no 27 ∷ no 27 ∷ no 27 ∷ no 27
    ∷ no 27 ∷ no 27 ∷ no 27 ∷ no 27
    ∷ no 3 ∷ no 3 ∷ no 3
    ∷ [])

-- a refused call changes nothing
abbrev UnrestoredHold : Type 0
UnrestoredHold = (restored_words four 2 ∷ restored_words four 1025 ∷ restored_words (clear 15) 1 ∷ restored_words (full 17) 1 ∷ []) ≡ (four ∷ four ∷ clear 15 ∷ full 17 ∷ [])

-- struck and restored, restored and struck
abbrev TurnsHold : Type 0
TurnsHold =
    (restored_words (struck_words four 65) 65 ∷ struck_words (restored_words four 66) 66 ∷ restored_words (struck_words (full 16) 1024) 1024 ∷ struck_words (restored_words (clear 16) 1) 1 ∷ [])
    ≡ (four ∷ four ∷ full 16 ∷ clear 16 ∷ [])

-- the door: done, refused, and an answer of fifteen bytes
abbrev DoorsHold : Type 0
DoorsHold =
    (
    restore_door four 63 (replicate 16 7) ∷ restore_door four 64 (replicate 16 7) ∷ restore_door (clear 15) 64 (replicate 16 7) ∷ restore_door four 63 (replicate 15 7)
    ∷ restore_door_words four 63 (replicate 16 7) ∷ restore_door_words four 64 (replicate 16 7) ∷ restore_door_words four 63 (replicate 15 7) ∷ restore_door_words four 63 (replicate 17 7)
    ∷ [])
    ≡ (
    (1 ∷ replicate 15 0) ∷ (0 ∷ 27 ∷ replicate 14 0) ∷ (0 ∷ 3 ∷ replicate 14 0) ∷ replicate 15 7
    ∷ rows (2 ∷ 63 ∷ 64 ∷ 65 ∷ 1024 ∷ []) ∷ four ∷ four ∷ four
    ∷ [])

-- all trials of this crate
abbrev pub TrialsHold : Type 0
TrialsHold = RestoresHold × RefusalsHold × UnrestoredHold × TurnsHold × DoorsHold
