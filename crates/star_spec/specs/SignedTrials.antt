-- Trials of prices below zero: the builder and the checker follow the order and the sums of the integers, n − 1 rows are required as ever, and the amount's eight bytes are in two's complement.
-- Assumes nothing.
use Rattle.std.specs.Prelude.{ℕ, ◌-◌, true, false, List, [], ◌∷◌, ◌++◌, ◌≡◌, ℤ, pos, neg_ℤ, replicate}
use Rattle.star_spec.specs.Call.{Call, call_of}
use Rattle.star_spec.specs.Cst.{refused, passed, lighter}
use Rattle.star_spec.specs.Mst1.{tree_built}
use Rattle.star_spec.specs.Door.{read_back, cst_door, mst1_door}
use Rattle.star_spec.specs.Trials.{Result, checked, built, checks, builds, small, because}

-- the integer −k
abbrev pub minus : ℕ → ℤ
minus k = neg_ℤ (pos k)

-- −k as four bytes, for k of 1 to 256; and the largest and the smallest price, 2,147,483,647 and −2,147,483,648
abbrev pub below : ℕ → List ℕ
below k = (256 - k) ∷ 255 ∷ 255 ∷ 255 ∷ []

abbrev pub most : List ℕ
most = 255 ∷ 255 ∷ 255 ∷ 127 ∷ []

abbrev pub least : List ℕ
least = 0 ∷ 0 ∷ 0 ∷ 128 ∷ []

-- the signed yard: 1-2 weight 5, 2-3 weight −3, 3-4 weight 5, 1-4 weight −4, 1-3 weight −2,147,483,648
abbrev pub signed_yard : List ℕ → Call
signed_yard claim =
    call_of 4 (1 ∷ 2 ∷ 3 ∷ 1 ∷ 1 ∷ []) (2 ∷ 3 ∷ 4 ∷ 4 ∷ 3 ∷ []) (small 5 ++ (below 3 ++ (small 5 ++ (below 4 ++ least)))) claim

-- a triangle of three rows of −1
abbrev pub triangle : List ℕ → Call
triangle claim = call_of 3 (1 ∷ 2 ∷ 1 ∷ []) (2 ∷ 3 ∷ 3 ∷ []) (below 1 ++ (below 1 ++ below 1)) claim

-- the two extreme rows in a triangle: 1-2 weight 2,147,483,647, 1-3 weight −2,147,483,648 and 2-3 weight 0
abbrev pub extremes : List ℕ → Call
extremes claim = call_of 3 (1 ∷ 1 ∷ 2 ∷ []) (2 ∷ 3 ∷ 3 ∷ []) (most ++ (least ++ small 0)) claim

-- what the definitions give
abbrev pub given : List Result
given =
    builds (signed_yard (9 ∷ 9 ∷ 9 ∷ 9 ∷ 9 ∷ []))
    ∷ checks (signed_yard (1 ∷ 1 ∷ 0 ∷ 1 ∷ 0 ∷ []))
    ∷ checks (signed_yard (0 ∷ 1 ∷ 0 ∷ 1 ∷ 1 ∷ []))
    ∷ builds (triangle (0 ∷ 0 ∷ 0 ∷ []))
    ∷ checks (triangle (1 ∷ 1 ∷ 1 ∷ []))
    ∷ checks (triangle (0 ∷ 1 ∷ 1 ∷ []))
    ∷ checks (extremes (1 ∷ 0 ∷ 1 ∷ []))
    ∷ checks (extremes (0 ∷ 1 ∷ 1 ∷ []))
    ∷ builds (call_of 2 (1 ∷ []) (2 ∷ []) least (0 ∷ []))
    ∷ []

-- what the trials say: rows 2, 4, 5, total −2,147,483,655; lighter, out 1, in 5, saving 2,147,483,653; passed, the only one; rows 1, 2, total −2; refused 9;
-- passed, −2, not the only one; lighter, out 1, in 2, saving 4,294,967,295; passed with −2,147,483,648, the only one; −2,147,483,648 is taken
abbrev pub expected : List Result
expected =
    built (tree_built (minus 2147483655)) (0 ∷ 1 ∷ 0 ∷ 1 ∷ 1 ∷ [])
    ∷ checked (lighter 1 5 2147483653)
    ∷ checked (passed (minus 2147483655) true)
    ∷ built (tree_built (minus 2)) (1 ∷ 1 ∷ 0 ∷ [])
    ∷ checked (refused (because 9 0))
    ∷ checked (passed (minus 2) false)
    ∷ checked (lighter 1 2 4294967295)
    ∷ checked (passed (minus 2147483648) true)
    ∷ built (tree_built (minus 2147483648)) (1 ∷ [])
    ∷ []

-- the sixteen bytes through the door: of the two claims of the extreme rows, and of the triangle's tree
abbrev sixteen : List ℕ
sixteen = replicate 16 7

abbrev pub given_bytes : List (List ℕ)
given_bytes =
    cst_door (extremes (1 ∷ 0 ∷ 1 ∷ [])) sixteen
    ∷ cst_door (extremes (0 ∷ 1 ∷ 1 ∷ [])) sixteen
    ∷ mst1_door (triangle (0 ∷ 0 ∷ 0 ∷ [])) sixteen
    ∷ []

abbrev pub expected_bytes : List (List ℕ)
expected_bytes =
    (2 ∷ 0 ∷ 1 ∷ 0 ∷ 2 ∷ 0 ∷ 0 ∷ 0 ∷ 255 ∷ 255 ∷ 255 ∷ 255 ∷ 0 ∷ 0 ∷ 0 ∷ 0 ∷ [])
    ∷ (1 ∷ 0 ∷ 0 ∷ 0 ∷ 0 ∷ 0 ∷ 1 ∷ 0 ∷ 0 ∷ 0 ∷ 0 ∷ 128 ∷ 255 ∷ 255 ∷ 255 ∷ 255 ∷ [])
    ∷ (1 ∷ 0 ∷ 0 ∷ 0 ∷ 0 ∷ 0 ∷ 0 ∷ 0 ∷ 254 ∷ 255 ∷ 255 ∷ 255 ∷ 255 ∷ 255 ∷ 255 ∷ 255 ∷ [])
    ∷ []

-- eight bytes read back as the integer that they stand for: −2,147,483,648, and the largest and the smallest of 64 bits
abbrev amounts : List ℕ → ℤ
amounts l = (read_back (replicate 8 0 ++ l)).amount

abbrev pub ReadBackSigned : Type 0
ReadBackSigned =
    (amounts (0 ∷ 0 ∷ 0 ∷ 128 ∷ 255 ∷ 255 ∷ 255 ∷ 255 ∷ []) ≡ minus 2147483648)
    × (amounts (255 ∷ 255 ∷ 255 ∷ 255 ∷ 255 ∷ 255 ∷ 255 ∷ 127 ∷ []) ≡ pos 9223372036854775807)
    × (amounts (0 ∷ 0 ∷ 0 ∷ 0 ∷ 0 ∷ 0 ∷ 0 ∷ 128 ∷ []) ≡ minus 9223372036854775808)

-- the theorem: each trial gives what it should
abbrev pub SignedTrialsHold : Type 0
SignedTrialsHold = (given ≡ expected) × (given_bytes ≡ expected_bytes) × ReadBackSigned
