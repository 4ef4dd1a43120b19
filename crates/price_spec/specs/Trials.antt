-- Trials of the quote: the answers on the yard and on small tables, refusals in their order, working tables, and the bytes at the door.
-- Assumes nothing.
use Rattle.std.specs.Prelude.{ℕ, List, [], ◌∷◌, ◌++◌, ◌≡◌, pos, negsuc, replicate}
use Rattle.rowset.specs.Trials.{these}
use Rattle.star_spec.specs.Call.{Call, table_of}
use Rattle.star_spec.specs.Trials.{small, because}
use Rattle.price_spec.specs.Door.{quote_returns, quote_door}
use Rattle.price_spec.specs.Quote.{asked, asked_work, QuoteAnswer, unquoted, quoted, quote}

-- the yard: 1-2 weight 5, 2-3 weight 3, 3-4 weight 5, 1-4 weight 4, 1-3 weight 6
abbrev pub yard : Call
yard = asked 4 (1 ∷ 2 ∷ 3 ∷ 1 ∷ 1 ∷ []) (2 ∷ 3 ∷ 4 ∷ 4 ∷ 3 ∷ []) (small 5 ++ (small 3 ++ (small 5 ++ (small 4 ++ small 6))))

-- rows 1, 3 and 5 of the yard in use
abbrev pub struck : Call
struck = table_of 4 5 yard.whole (these (1 ∷ 3 ∷ 5 ∷ [])) yard.left yard.right yard.weight yard.mark

-- two vertices that one row joins, of weight -5; three vertices of which row 1 joins two; two rows of one pair
abbrev pub single : Call
single = asked 2 (1 ∷ []) (2 ∷ []) (251 ∷ 255 ∷ 255 ∷ 255 ∷ [])

abbrev pub apart : Call
apart = asked 3 (1 ∷ []) (2 ∷ []) (small 5)

abbrev pub twice : Call
twice = asked 2 (1 ∷ 2 ∷ []) (2 ∷ 1 ∷ []) (small 5 ++ small 3)

-- -3 and the least price as 32 bits
abbrev pub minus_three : ℕ
minus_three = 4294967293

abbrev pub least_price : ℕ
least_price = 2147483648

abbrev pub given : List QuoteAnswer
given =
    -- row 4 dearer and cheaper, row 5 cheaper and dearer; rows 0 and 6
    quote yard 4 9 ∷ quote yard 4 minus_three ∷ quote yard 5 1 ∷ quote yard 5 100 ∷ quote yard 0 1 ∷ quote yard 6 1
    -- row 3 of 5 stands in for row 1 of 5; the same price again; the least and the greatest price
    ∷ quote yard 1 7 ∷ quote yard 4 4 ∷ quote yard 5 least_price ∷ quote yard 2 2147483647
    -- one row moves by the whole change; a row outside and a row of an unconnected table: 7 goes before 11
    ∷ quote single 1 2 ∷ quote apart 2 9 ∷ quote apart 1 9 ∷ quote apart 4294967295 9
    -- 15 and 4 go before 7; no vertex; a short right column and a short weight column; the right column is not looked at before
    ∷ quote twice 3 9 ∷ quote (asked 2 (1 ∷ []) (3 ∷ []) (small 5)) 2 9 ∷ quote (asked 0 [] [] []) 1 9
    ∷ quote (asked 2 (1 ∷ []) [] (small 5)) 1 9 ∷ quote (asked 2 (1 ∷ []) (2 ∷ []) (5 ∷ 0 ∷ 0 ∷ [])) 1 9
    -- struck rows: a row not in use is refused 7, and the others are the only ones
    ∷ quote struck 1 9 ∷ quote struck 2 9 ∷ quote struck 4 9 ∷ quote struck 5 minus_three
    ∷ []

abbrev pub expected : List QuoteAnswer
expected =
    quoted (pos 12) (pos 13) ∷ quoted (pos 12) (pos 5) ∷ quoted (pos 12) (pos 8) ∷ quoted (pos 12) (pos 12) ∷ unquoted (because 7 0) ∷ unquoted (because 7 0)
    ∷ quoted (pos 12) (pos 12) ∷ quoted (pos 12) (pos 12) ∷ quoted (pos 12) (negsuc 2147483640) ∷ quoted (pos 12) (pos 14)
    ∷ quoted (negsuc 4) (pos 2) ∷ unquoted (because 7 0) ∷ unquoted (because 11 0) ∷ unquoted (because 7 0)
    ∷ unquoted (because 15 2) ∷ unquoted (because 4 1) ∷ unquoted (because 1 0)
    ∷ unquoted (because 3 0) ∷ unquoted (because 3 0)
    ∷ quoted (pos 16) (pos 20) ∷ unquoted (because 7 0) ∷ unquoted (because 7 0) ∷ quoted (pos 16) (pos 7)
    ∷ []

-- a working table of two vertices whose row 1,024 joins them, of weight 9, and whose other rows hold 7; the words say which rows are in use
abbrev pub last : (left : ℕ) → List ℕ → Call
last left words = asked_work 2 words (replicate left 7 ++ (1 ∷ [])) (replicate 1023 7 ++ (2 ∷ [])) (replicate 4092 7 ++ small 9)

abbrev pub last_row : List ℕ
last_row = replicate 15 0 ++ (9223372036854775808 ∷ [])

abbrev pub given_work : List QuoteAnswer
given_work =
    quote (last 1023 last_row) 1024 minus_three ∷ quote (last 1023 last_row) 1023 1 ∷ quote (last 1023 last_row) 1025 1
    ∷ quote (last 1022 last_row) 1024 1 ∷ quote (last 1024 last_row) 1024 1 ∷ quote (last 1023 (replicate 15 0)) 1024 1
    ∷ []

abbrev pub expected_work : List QuoteAnswer
expected_work =
    quoted (pos 9) (negsuc 2) ∷ unquoted (because 7 0) ∷ unquoted (because 7 0)
    ∷ unquoted (because 3 0) ∷ unquoted (because 3 0) ∷ unquoted (because 3 0)
    ∷ []

-- the bytes: 12 and 13; 12 and -3 ... ; refused 7; and twenty-three bytes, which stay as they are
abbrev pub given_bytes : List (List ℕ)
given_bytes =
    quote_door yard 4 9 (replicate 24 8) ∷ quote_door single 1 minus_three (replicate 24 8) ∷ quote_door yard 6 9 (replicate 24 8) ∷ quote_door yard 4 9 (replicate 23 8) ∷ quote_door yard 4 9 (replicate 16 8)
    ∷ (quote_returns (replicate 24 8) ∷ quote_returns (replicate 16 8) ∷ quote_returns (replicate 25 8) ∷ [])
    ∷ []

abbrev pub expected_bytes : List (List ℕ)
expected_bytes =
    (1 ∷ 0 ∷ 0 ∷ 0 ∷ 0 ∷ 0 ∷ 0 ∷ 0 ∷ 12 ∷ 0 ∷ 0 ∷ 0 ∷ 0 ∷ 0 ∷ 0 ∷ 0 ∷ 13 ∷ 0 ∷ 0 ∷ 0 ∷ 0 ∷ 0 ∷ 0 ∷ 0 ∷ [])
    ∷ (1 ∷ 0 ∷ 0 ∷ 0 ∷ 0 ∷ 0 ∷ 0 ∷ 0 ∷ 251 ∷ 255 ∷ 255 ∷ 255 ∷ 255 ∷ 255 ∷ 255 ∷ 255 ∷ 253 ∷ 255 ∷ 255 ∷ 255 ∷ 255 ∷ 255 ∷ 255 ∷ 255 ∷ [])
    ∷ (0 ∷ 7 ∷ replicate 22 0)
    ∷ replicate 23 8
    ∷ replicate 16 8
    ∷ (1 ∷ 0 ∷ 0 ∷ [])
    ∷ []

-- the theorem: each trial gives what it should
abbrev pub TrialsHold : Type 0
TrialsHold = (given ≡ expected) × (given_work ≡ expected_work) × (given_bytes ≡ expected_bytes)
