-- The house order (02, W3) as rows: programs, what a call answers and writes, at both sides of each edge; and the comparison of bytes.
use Rattle.std.specs.Prelude.{ℕ, Bool, true, false, List, [], ◌∷◌, ◌++◌, ℤ, pos, negsuc, replicate}
use Rattle.rewrite.specs.Programs.{flat}
use Rattle.pieces.specs.Spelled.{f, b, left, right, rack, drop, xfer, bring_in, take_out, miss, tuck, knit, split, plated_tuck, plated_knit}
use Rattle.pieces.specs.Rows.{expected, empty, on_right, led_at_8, Swap, lending, swap, unmade, swap_given, swap_bad}

-- a call that is made, with room to spare: the program, whether its state is complete, its racking, and what is written
abbrev ordered : List (List ℕ) → Bool → ℤ → List (List ℕ) → List ℕ → Swap
ordered p done r q v = swap (flat p) [] (expected 0 0 done r [] []) (flat q) v

abbrev two_drops : List ℕ
two_drops = drop (f 2) ++ drop (f 1)

-- each is one call; there is no log
abbrev pub houses : List Swap
houses =
    -- bytes are unsigned, and the smaller goes first
    ordered (drop (f 128) ∷ drop (f 127) ∷ []) true (pos 0) (drop (f 127) ∷ drop (f 128) ∷ []) (0 ∷ 3 ∷ [])
    ∷ ordered (drop (f 127) ∷ drop (f 128) ∷ []) true (pos 0) (drop (f 127) ∷ drop (f 128) ∷ []) (0 ∷ 3 ∷ [])
    -- byte by byte: kind, direction, bed, needle, carrier; no column goes before
    ∷ ordered (drop (b 5) ∷ drop (f 9) ∷ []) true (pos 0) (drop (f 9) ∷ drop (b 5) ∷ []) (0 ∷ 3 ∷ [])
    ∷ ordered (xfer (f 1) 1 ∷ drop (b 9) ∷ []) true (pos 0) (drop (b 9) ∷ xfer (f 1) 1 ∷ []) (0 ∷ 3 ∷ [])
    ∷ ordered (drop (b 9) ∷ xfer (f 1) 1 ∷ []) true (pos 0) (drop (b 9) ∷ xfer (f 1) 1 ∷ []) (0 ∷ 3 ∷ [])
    ∷ ordered (bring_in right (f 5) 3 ∷ bring_in left (b 9) 4 ∷ []) false (pos 0) (bring_in left (b 9) 4 ∷ bring_in right (f 5) 3 ∷ []) (0 ∷ 5 ∷ [])
    ∷ ordered (bring_in left (f 9) 1 ∷ bring_in left (f 5) 2 ∷ []) false (pos 0) (bring_in left (f 5) 2 ∷ bring_in left (f 9) 1 ∷ []) (0 ∷ 5 ∷ [])
    ∷ ordered (bring_in left (f 5) 10 ∷ bring_in left (f 5) 9 ∷ []) false (pos 0) (bring_in left (f 5) 9 ∷ bring_in left (f 5) 10 ∷ []) (0 ∷ 5 ∷ [])
    ∷ ordered (rack 2 ∷ drop (b 8) ∷ drop (b 7) ∷ drop (f 10) ∷ []) false (pos 2) (rack 2 ∷ drop (f 10) ∷ drop (b 7) ∷ drop (b 8) ∷ []) (0 ∷ 2 ∷ 5 ∷ 8 ∷ [])
    -- every kind
    ∷ ordered (bring_in right (f 10) 1 ∷ bring_in right (f 10) 2 ∷ bring_in right (f 20) 3 ∷ bring_in right (f 20) 4 ∷ bring_in right (f 30) 5 ∷ bring_in right (f 40) 6 ∷ bring_in right (f 50) 7 ∷ bring_in right (f 60) 8 ∷ bring_in right (f 70) 9 ∷ plated_knit right (f 10) 1 2 ∷ plated_tuck right (f 20) 3 4 ∷ split right (f 30) 5 30 ∷ knit right (f 40) 6 ∷ tuck right (f 50) 7 ∷ miss right (f 60) 8 ∷ take_out left (f 70) 9 ∷ bring_in right (f 80) 10 ∷ xfer (f 90) 90 ∷ drop (f 100) ∷ []) false (pos 0) (drop (f 100) ∷ xfer (f 90) 90 ∷ bring_in right (f 10) 1 ∷ bring_in right (f 10) 2 ∷ bring_in right (f 20) 3 ∷ bring_in right (f 20) 4 ∷ bring_in right (f 30) 5 ∷ bring_in right (f 40) 6 ∷ bring_in right (f 50) 7 ∷ bring_in right (f 60) 8 ∷ bring_in right (f 70) 9 ∷ bring_in right (f 80) 10 ∷ take_out left (f 70) 9 ∷ miss right (f 60) 8 ∷ tuck right (f 50) 7 ∷ knit right (f 40) 6 ∷ split right (f 30) 5 30 ∷ plated_tuck right (f 20) 3 4 ∷ plated_knit right (f 10) 1 2 ∷ []) (0 ∷ 3 ∷ 7 ∷ 12 ∷ 17 ∷ 22 ∷ 27 ∷ 32 ∷ 37 ∷ 42 ∷ 47 ∷ 52 ∷ 57 ∷ 62 ∷ 67 ∷ 72 ∷ 77 ∷ 83 ∷ 89 ∷ [])
    -- one at a time, of those not tied to an earlier remaining one, near or far
    ∷ ordered (bring_in right (f 10) 1 ∷ tuck right (f 10) 1 ∷ drop (f 10) ∷ xfer (f 50) 50 ∷ []) false (pos 0) (xfer (f 50) 50 ∷ bring_in right (f 10) 1 ∷ tuck right (f 10) 1 ∷ drop (f 10) ∷ []) (0 ∷ 4 ∷ 9 ∷ 14 ∷ [])
    ∷ ordered (bring_in right (f 10) 1 ∷ tuck right (f 10) 1 ∷ xfer (f 50) 50 ∷ drop (f 10) ∷ []) false (pos 0) (xfer (f 50) 50 ∷ bring_in right (f 10) 1 ∷ tuck right (f 10) 1 ∷ drop (f 10) ∷ []) (0 ∷ 4 ∷ 9 ∷ 14 ∷ [])
    ∷ ordered (drop (f 5) ∷ drop (f 9) ∷ drop (f 5) ∷ []) true (pos 0) (drop (f 5) ∷ drop (f 5) ∷ drop (f 9) ∷ []) (0 ∷ 3 ∷ 6 ∷ [])
    ∷ ordered (drop (f 9) ∷ drop (f 5) ∷ drop (f 9) ∷ drop (f 5) ∷ []) true (pos 0) (drop (f 5) ∷ drop (f 5) ∷ drop (f 9) ∷ drop (f 9) ∷ []) (0 ∷ 3 ∷ 6 ∷ 9 ∷ [])
    ∷ ordered (drop (f 5) ∷ drop (f 9) ∷ xfer (f 5) 5 ∷ []) true (pos 0) (drop (f 5) ∷ drop (f 9) ∷ xfer (f 5) 5 ∷ []) (0 ∷ 3 ∷ 6 ∷ [])
    ∷ ordered (bring_in right (f 10) 1 ∷ bring_in right (f 11) 2 ∷ tuck right (f 10) 1 ∷ tuck right (f 11) 2 ∷ drop (f 11) ∷ []) false (pos 0) (bring_in right (f 10) 1 ∷ bring_in right (f 11) 2 ∷ tuck right (f 10) 1 ∷ tuck right (f 11) 2 ∷ drop (f 11) ∷ []) (0 ∷ 5 ∷ 10 ∷ 15 ∷ 20 ∷ [])
    -- one carrier, and layers
    ∷ ordered (bring_in right (f 50) 3 ∷ take_out left (f 50) 3 ∷ bring_in right (f 10) 3 ∷ take_out left (f 10) 3 ∷ []) true (pos 0) (bring_in right (f 50) 3 ∷ take_out left (f 50) 3 ∷ bring_in right (f 10) 3 ∷ take_out left (f 10) 3 ∷ []) (0 ∷ 5 ∷ 10 ∷ 15 ∷ [])
    -- two designers send P in different orders; with carrier 5 for 3 the knits are tied, and two orders stay two
    ∷ ordered (bring_in right (f 10) 3 ∷ bring_in right (b 10) 4 ∷ knit right (f 10) 3 ∷ knit right (b 10) 4 ∷ []) false (pos 0) (bring_in right (f 10) 3 ∷ bring_in right (b 10) 4 ∷ knit right (f 10) 3 ∷ knit right (b 10) 4 ∷ []) (0 ∷ 5 ∷ 10 ∷ 15 ∷ [])
    ∷ ordered (bring_in right (b 10) 4 ∷ knit right (b 10) 4 ∷ bring_in right (f 10) 3 ∷ knit right (f 10) 3 ∷ []) false (pos 0) (bring_in right (f 10) 3 ∷ bring_in right (b 10) 4 ∷ knit right (f 10) 3 ∷ knit right (b 10) 4 ∷ []) (0 ∷ 5 ∷ 10 ∷ 15 ∷ [])
    ∷ ordered (bring_in right (f 10) 5 ∷ bring_in right (b 10) 4 ∷ knit right (f 10) 5 ∷ knit right (b 10) 4 ∷ []) false (pos 0) (bring_in right (f 10) 5 ∷ bring_in right (b 10) 4 ∷ knit right (f 10) 5 ∷ knit right (b 10) 4 ∷ []) (0 ∷ 5 ∷ 10 ∷ 15 ∷ [])
    ∷ ordered (bring_in right (f 10) 5 ∷ bring_in right (b 10) 4 ∷ knit right (b 10) 4 ∷ knit right (f 10) 5 ∷ []) false (pos 0) (bring_in right (f 10) 5 ∷ bring_in right (b 10) 4 ∷ knit right (b 10) 4 ∷ knit right (f 10) 5 ∷ []) (0 ∷ 5 ∷ 10 ∷ 15 ∷ [])
    -- between racks: nothing passes one, and it stays behind what stood before it
    ∷ ordered (drop (f 9) ∷ rack 0 ∷ drop (f 5) ∷ []) true (pos 0) (drop (f 9) ∷ rack 0 ∷ drop (f 5) ∷ []) (0 ∷ 3 ∷ 5 ∷ [])
    ∷ ordered (rack 2 ∷ rack 254 ∷ rack 0 ∷ []) true (pos 0) (rack 2 ∷ rack 254 ∷ rack 0 ∷ []) (0 ∷ 2 ∷ 4 ∷ [])
    ∷ ordered (drop (f 5) ∷ rack 2 ∷ []) false (pos 2) (drop (f 5) ∷ rack 2 ∷ []) (0 ∷ 3 ∷ [])
    ∷ ordered (drop (f 9) ∷ drop (f 8) ∷ rack 1 ∷ drop (f 7) ∷ drop (f 6) ∷ []) false (pos 1) (drop (f 8) ∷ drop (f 9) ∷ rack 1 ∷ drop (f 6) ∷ drop (f 7) ∷ []) (0 ∷ 3 ∷ 6 ∷ 8 ∷ 11 ∷ [])
    -- ties at the racking in force
    ∷ ordered (rack 254 ∷ xfer (f 10) 12 ∷ drop (b 12) ∷ []) false (negsuc 1) (rack 254 ∷ xfer (f 10) 12 ∷ drop (b 12) ∷ []) (0 ∷ 2 ∷ 6 ∷ [])
    ∷ ordered (rack 254 ∷ xfer (f 10) 12 ∷ drop (b 10) ∷ []) false (negsuc 1) (rack 254 ∷ drop (b 10) ∷ xfer (f 10) 12 ∷ []) (0 ∷ 2 ∷ 5 ∷ [])
    ∷ ordered (xfer (f 10) 10 ∷ drop (b 8) ∷ rack 2 ∷ []) false (pos 2) (drop (b 8) ∷ xfer (f 10) 10 ∷ rack 2 ∷ []) (0 ∷ 3 ∷ 7 ∷ [])
    ∷ ordered (xfer (f 10) 10 ∷ drop (b 10) ∷ rack 2 ∷ []) false (pos 2) (xfer (f 10) 10 ∷ drop (b 10) ∷ rack 2 ∷ []) (0 ∷ 4 ∷ 7 ∷ [])
    ∷ ordered (rack 2 ∷ rack 0 ∷ xfer (f 12) 12 ∷ drop (b 10) ∷ []) true (pos 0) (rack 2 ∷ rack 0 ∷ drop (b 10) ∷ xfer (f 12) 12 ∷ []) (0 ∷ 2 ∷ 4 ∷ 7 ∷ [])
    ∷ ordered (rack 2 ∷ rack 0 ∷ xfer (f 12) 12 ∷ drop (b 12) ∷ []) true (pos 0) (rack 2 ∷ rack 0 ∷ xfer (f 12) 12 ∷ drop (b 12) ∷ []) (0 ∷ 2 ∷ 4 ∷ 8 ∷ [])
    -- at a limit of its own; refused at another, with nothing written
    ∷ swap_given 2 (ordered (drop (f 9) ∷ bring_in right (f 10) 3 ∷ tuck right (f 10) 3 ∷ tuck left (f 10) 3 ∷ drop (f 5) ∷ []) false (pos 0) (drop (f 5) ∷ drop (f 9) ∷ bring_in right (f 10) 3 ∷ tuck right (f 10) 3 ∷ tuck left (f 10) 3 ∷ []) (0 ∷ 3 ∷ 6 ∷ 11 ∷ 16 ∷ []))
    ∷ swap_given 1 (lending (flat (drop (f 9) ∷ bring_in right (f 10) 3 ∷ tuck right (f 10) 3 ∷ tuck left (f 10) 3 ∷ drop (f 5) ∷ [])) [] 23 11 (expected 11 13 false (pos 0) ((f 10, 1) ∷ []) ((3, on_right 11 (f 10)) ∷ [])) [] [])
    -- the rewriter's refusals, in its order, with nothing written: no entry, no byte too few
    ∷ ordered [] true (pos 0) [] []
    ∷ lending two_drops [] 6 3 (empty 0 0) (drop (f 1) ++ drop (f 2)) (0 ∷ 3 ∷ [])
    ∷ unmade two_drops [] 5 3 2
    ∷ unmade two_drops [] 6 2 2
    ∷ unmade (replicate 32769 0) [] 0 0 1
    ∷ swap_bad 0 (replicate 32769 0) [] 0 0
    ∷ swap_bad 9 two_drops [] 6 3
    ∷ lending (two_drops ++ 2 ∷ 0 ∷ []) [] 8 4 (empty 4 6) [] []
    ∷ lending (two_drops ++ knit right (f 10) 3) [] 11 5 (empty 7 6) [] []
    ∷ lending (two_drops ++ 12 ∷ []) [] 7 3 (empty 3 6) [] []
    ∷ lending (two_drops ++ drop (f 250)) [] 9 4 (empty 5 6) [] []
    ∷ lending (two_drops ++ plated_knit right (f 10) 3 3) [] 12 6 (empty 16 6) [] []
    -- 02, W5: a rack that takes an attachment to 21, and to 20
    ∷ lending (led_at_8 5 ++ two_drops ++ rack 248) [] 45 22 (expected 17 43 false (pos 8) [] ((3, on_right 24 (b 10)) ∷ [])) [] []
    ∷ lending (led_at_8 4 ++ two_drops ++ rack 248) [] 40 20 (expected 0 0 false (negsuc 7) [] ((3, on_right 23 (b 10)) ∷ []))
    (rack 8 ++ drop (f 1) ++ drop (f 2) ++ bring_in right (b 10) 3 ++ tuck right (b 10) 3 ++ miss right (f 19) 3 ++ miss right (f 20) 3 ++ miss right (f 21) 3 ++ miss right (f 22) 3 ++ rack 248)
    (0 ∷ 2 ∷ 5 ∷ 8 ∷ 13 ∷ 18 ∷ 23 ∷ 28 ∷ 33 ∷ 38 ∷ [])
    ∷ []

-- bytes, and whether the first come first: 'unsigned, byte by byte, a shorter prefix first'
abbrev pub firsts : List (List ℕ × List ℕ × Bool)
firsts =
    ((2 ∷ 0 ∷ []), (2 ∷ 0 ∷ 5 ∷ []), true)
    ∷ ((2 ∷ 0 ∷ 5 ∷ []), (2 ∷ 0 ∷ []), false)
    ∷ ((2 ∷ 9 ∷ []), (2 ∷ 0 ∷ 5 ∷ []), false)
    ∷ ((2 ∷ 0 ∷ 5 ∷ []), (2 ∷ 9 ∷ []), true)
    ∷ ((127 ∷ []), (128 ∷ []), true)
    ∷ ((255 ∷ []), (0 ∷ []), false)
    ∷ ((2 ∷ 7 ∷ 0 ∷ []), (2 ∷ 6 ∷ 255 ∷ []), false)
    ∷ ((2 ∷ 6 ∷ []), (2 ∷ 6 ∷ []), false)
    ∷ ([], [], false)
    ∷ ([], (0 ∷ []), true)
    ∷ ((0 ∷ []), [], false)
    ∷ []
