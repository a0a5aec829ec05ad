-- What ties two records, as rows: a racking, the bytes of both, what is told.
use Rattle.std.specs.Prelude.{ℕ, ◌≡◌, List, [], ◌∷◌, ◌++◌, ℤ, pos, negsuc}
use Rattle.tie.specs.declared.Tied.{Tied}
use Rattle.tie.specs.Tie.{tie_of}
use Rattle.pieces.specs.Spelled.{f, b, left, right, rack, drop, xfer, bring_in, take_out, miss, tuck, knit, split, plated_tuck, plated_knit}

-- ---- what is told, each field written out: left, right, number, by, carrier, low, high
abbrev alone : ℕ → Tied
alone n = record { left = pos 0; right = pos 0; number = n; by = 0; carrier = 0; low = 0; high = 0 }

abbrev a_rack : Tied
a_rack = record { left = pos 0; right = pos 0; number = 13; by = 1; carrier = 0; low = 0; high = 0 }

abbrev one_carrier : ℕ → Tied
one_carrier k = record { left = pos 0; right = pos 0; number = 13; by = 2; carrier = k; low = 0; high = 0 }

abbrev meet : ℤ → ℤ → ℕ → ℕ → Tied
meet l r low high = record { left = l; right = r; number = 13; by = 3; carrier = 0; low = low; high = high }

abbrev zero : ℤ
zero = pos 0

abbrev pub Row : Type 0
Row = ℤ × List ℕ × List ℕ × Tied

abbrev pub tied_rows : List Row
tied_rows =
    -- a rack, whatever the other is
    (zero, rack 0, knit right (f 10) 3, a_rack) ∷ (zero, knit right (f 10) 3, rack 255, a_rack) ∷ (zero, rack 2, rack 2, a_rack) ∷ (negsuc 7, rack 248, drop (f 10), a_rack) ∷ (pos 8, drop (b 0), rack 8, a_rack)
    -- one carrier, near or far, in either direction
    ∷ (zero, knit right (f 10) 3, knit right (f 10) 3, one_carrier 3) ∷ (zero, knit right (f 10) 3, miss left (b 240) 3, one_carrier 3) ∷ (zero, bring_in right (f 0) 10, take_out left (f 249) 10, one_carrier 10)
    ∷ (zero, split right (f 10) 1 10, tuck left (b 200) 1, one_carrier 1)
    -- the least of two, wherever each names it; one named twice
    ∷ (zero, plated_knit right (f 10) 5 4, plated_tuck left (f 30) 4 5, one_carrier 4) ∷ (zero, plated_knit right (f 10) 4 5, plated_tuck left (f 30) 4 5, one_carrier 4)
    ∷ (zero, plated_knit right (f 10) 4 5, plated_tuck left (f 30) 5 4, one_carrier 4) ∷ (zero, plated_tuck right (b 10) 9 1, plated_tuck left (f 30) 1 9, one_carrier 1)
    ∷ (zero, plated_knit right (f 10) 5 4, knit right (f 30) 5, one_carrier 5) ∷ (zero, knit right (f 30) 5, plated_knit right (f 10) 5 4, one_carrier 5)
    ∷ (zero, plated_knit right (f 10) 2 9, plated_knit right (f 10) 9 8, one_carrier 9) ∷ (zero, plated_knit right (f 10) 3 3, tuck right (f 90) 3, one_carrier 3)
    -- opposite needles: the front's layers up to its carrier, the back's from its own
    ∷ (zero, knit right (f 10) 3, knit right (b 10) 4, alone 0) ∷ (zero, knit right (f 10) 4, knit right (b 10) 3, meet (pos 19) (pos 21) 3 4) ∷ (zero, knit right (b 10) 3, knit right (f 10) 4, meet (pos 19) (pos 21) 3 4)
    ∷ (zero, tuck left (f 10) 10, tuck left (b 10) 1, meet (pos 19) (pos 21) 1 10)
    -- the next column: one half column; two columns away: none
    ∷ (zero, knit right (f 10) 3, tuck right (f 11) 5, meet (pos 21) (pos 21) 0 3) ∷ (zero, tuck right (f 11) 5, knit right (f 10) 3, meet (pos 21) (pos 21) 0 3) ∷ (zero, knit right (f 10) 3, tuck right (f 12) 5, alone 0)
    ∷ (zero, knit right (f 10) 5, tuck right (f 9) 3, meet (pos 19) (pos 19) 0 3)
    -- drop and xfer have one half column; a drop the layer of its bed alone
    ∷ (zero, drop (f 10), knit right (f 10) 3, meet (pos 20) (pos 20) 0 0) ∷ (zero, drop (b 10), knit right (f 10) 3, alone 0) ∷ (zero, drop (f 11), knit right (f 10) 3, alone 0) ∷ (zero, drop (b 10), knit left (b 10) 3, meet (pos 20) (pos 20) 11 11)
    ∷ (zero, drop (f 10), drop (f 10), meet (pos 20) (pos 20) 0 0) ∷ (zero, drop (f 10), drop (b 10), alone 0) ∷ (zero, xfer (f 10) 10, xfer (b 10) 10, meet (pos 20) (pos 20) 0 11)
    ∷ (zero, xfer (f 10) 10, miss right (f 10) 7, meet (pos 20) (pos 20) 7 7) ∷ (zero, xfer (f 10) 10, drop (b 10), meet (pos 20) (pos 20) 11 11) ∷ (zero, xfer (f 10) 10, miss right (f 11) 7, alone 0)
    -- in, out and miss: their carrier's layer; split: all
    ∷ (zero, bring_in right (f 10) 3, miss left (f 10) 4, alone 0) ∷ (zero, bring_in right (f 10) 3, tuck left (f 10) 4, meet (pos 19) (pos 21) 3 3) ∷ (zero, take_out right (f 10) 5, tuck left (f 10) 4, alone 0)
    ∷ (zero, split right (f 10) 3 10, bring_in left (b 11) 9, meet (pos 21) (pos 21) 9 9) ∷ (zero, split right (b 10) 3 10, drop (f 10), meet (pos 20) (pos 20) 0 0)
    -- plated: on the front up to the greater carrier, on the back from the smaller
    ∷ (zero, plated_tuck right (f 10) 6 2, tuck right (b 10) 5, meet (pos 19) (pos 21) 5 6) ∷ (zero, plated_tuck right (f 10) 2 6, tuck right (b 10) 7, alone 0) ∷ (zero, plated_knit left (b 10) 8 4, plated_knit left (f 10) 1 5, meet (pos 19) (pos 21) 4 5)
    ∷ (zero, plated_knit left (b 10) 4 8, tuck left (f 10) 3, alone 0)
    -- at a racking the back bed's columns have moved, the front's have not
    ∷ (pos 1, knit right (f 10) 3, tuck right (b 9) 2, meet (pos 19) (pos 21) 2 3) ∷ (pos 2, knit right (f 10) 3, tuck right (b 9) 2, meet (pos 21) (pos 21) 2 3) ∷ (pos 3, knit right (f 10) 3, tuck right (b 9) 2, alone 0)
    ∷ (negsuc 0, knit right (f 10) 3, tuck right (b 11) 2, meet (pos 19) (pos 21) 2 3) ∷ (pos 5, knit right (f 10) 3, tuck right (f 11) 5, meet (pos 21) (pos 21) 0 3) ∷ (pos 5, knit right (b 10) 3, tuck right (b 11) 5, meet (pos 31) (pos 31) 5 11)
    -- the outermost columns
    ∷ (negsuc 7, drop (b 0), xfer (b 0) 8, meet (negsuc 15) (negsuc 15) 11 11) ∷ (negsuc 7, tuck right (b 0) 3, miss right (b 0) 5, meet (negsuc 16) (negsuc 14) 5 5) ∷ (pos 8, tuck right (b 249) 3, miss right (b 249) 5, meet (pos 513) (pos 515) 5 5)
    ∷ (zero, tuck right (f 0) 3, miss right (f 0) 2, meet (negsuc 0) (pos 1) 2 2)
    -- 15 before all else; then 3, 4 and 5 of the first, then of the second
    ∷ (pos 9, knit right (f 10) 3, knit right (f 10) 3, alone 15) ∷ (negsuc 8, rack 0, [], alone 15) ∷ (pos 127, [], 0 ∷ [], alone 15) ∷ (negsuc 127, drop (f 0), drop (f 0), alone 15)
    ∷ (pos 8, 0 ∷ 1 ∷ [], knit right (f 10) 3, alone 3) ∷ (zero, 12 ∷ [], [], alone 3) ∷ (zero, [], 12 ∷ [], alone 4) ∷ (zero, 8 ∷ 1 ∷ 0 ∷ 10 ∷ [], 12 ∷ [], alone 4) ∷ (negsuc 7, knit 2 (f 10) 3, 12 ∷ [], alone 5)
    ∷ (zero, rack 9, rack 0, alone 5) ∷ (zero, rack 0, rack 247, alone 5) ∷ (zero, rack 0, 255 ∷ [], alone 3) ∷ (zero, drop (f 3), [], alone 4) ∷ (zero, drop (f 3), 2 ∷ 0 ∷ [], alone 4) ∷ (zero, drop (f 3), drop (f 250), alone 5)
    ∷ (zero, drop (f 3), knit right (f 10) 11, alone 5) ∷ (zero, drop (f 3), plated_knit right (f 10) 3 0, alone 5)
    -- what stands behind a record is not looked at
    ∷ (zero, drop (f 10) ++ 255 ∷ [], drop (f 10) ++ rack 0, meet (pos 20) (pos 20) 0 0) ∷ (zero, drop (f 10) ++ knit right (f 30) 3, knit right (f 40) 3 ++ [], alone 0) ∷ []

abbrev pub TiedSo : Row → Type 0
TiedSo r = tie_of r.0 r.1 r.2 ≡ r.3
