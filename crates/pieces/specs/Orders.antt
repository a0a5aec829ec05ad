-- What demand 3 is said in, as rows: a program's records and histories, its stretches, ties between records of it, equal ones by their count; and where hooks and
-- carriers lie in a state, a plated stitch's two carriers in its bytes.
use Rattle.std.specs.Prelude.{ℕ, ◌≡◌, Bool, true, false, List, [], ◌∷◌, ◌++◌, get_or}
use Rattle.machine.specs.declared.Carrier.{Carrier}
use Rattle.machine.specs.Machine.{inactive, Each}
use Rattle.run.specs.Run.{run_of}
use Rattle.trace.specs.Lists.{Nth}
use Rattle.trace.specs.Order.{stretch, tied_in}
use Rattle.rewrite.specs.Programs.{flat, records_of, same_bytes, knitting, what, Named, needle, carrier, history_of}
use Rattle.rewrite.specs.Rewrite.{racking_zero}
use Rattle.pieces.specs.Spelled.{f, b, left, right, rack, drop, xfer, bring_in, take_out, miss, tuck, knit, split, plated_tuck, plated_knit}
use Rattle.pieces.specs.Rows.{on_left, on_right}

-- a program of three stretches: needles f.10, b.10 and f.12, carriers 3 to 5
abbrev pub listed : List (List ℕ)
listed =
    bring_in right (f 10) 3
    ∷ miss right (f 10) 3
    ∷ tuck left (f 10) 3
    ∷ drop (b 10)
    ∷ xfer (f 10) 10
    ∷ rack 2
    ∷ knit right (f 10) 3
    ∷ drop (b 10)
    ∷ drop (f 12)
    ∷ rack 0
    ∷ split left (f 10) 3 10
    ∷ drop (b 10)
    ∷ bring_in left (f 10) 4
    ∷ take_out left (f 10) 3
    ∷ bring_in left (f 10) 5
    ∷ plated_knit left (f 10) 4 5
    ∷ plated_tuck right (f 10) 5 4
    ∷ []

abbrev pub program : List ℕ
program = flat listed

-- 'A needle's history is the list of drop, xfer, tuck, knit and split records naming it', first or second; 'a carrier's is the list of all records naming it'.
-- A plated stitch enters its needle's and both its carriers'
abbrev pub histories : List (Named × List (List ℕ))
histories =
    (needle (f 10), tuck left (f 10) 3 ∷ xfer (f 10) 10 ∷ knit right (f 10) 3 ∷ split left (f 10) 3 10 ∷ plated_knit left (f 10) 4 5 ∷ plated_tuck right (f 10) 5 4 ∷ [])
    ∷ (needle (b 10), drop (b 10) ∷ xfer (f 10) 10 ∷ drop (b 10) ∷ split left (f 10) 3 10 ∷ drop (b 10) ∷ [])
    ∷ (needle (f 12), drop (f 12) ∷ [])
    ∷ (needle (f 3), [])
    ∷ (carrier 3, bring_in right (f 10) 3 ∷ miss right (f 10) 3 ∷ tuck left (f 10) 3 ∷ knit right (f 10) 3 ∷ split left (f 10) 3 10 ∷ take_out left (f 10) 3 ∷ [])
    ∷ (carrier 4, bring_in left (f 10) 4 ∷ plated_knit left (f 10) 4 5 ∷ plated_tuck right (f 10) 5 4 ∷ [])
    ∷ (carrier 5, bring_in left (f 10) 5 ∷ plated_knit left (f 10) 4 5 ∷ plated_tuck right (f 10) 5 4 ∷ [])
    ∷ (carrier 10, [])
    ∷ []

-- 'one stretch between racks'
abbrev pub stretches : List (ℕ × List (List ℕ))
stretches =
    (0, bring_in right (f 10) 3 ∷ miss right (f 10) 3 ∷ tuck left (f 10) 3 ∷ drop (b 10) ∷ xfer (f 10) 10 ∷ [])
    ∷ (1, knit right (f 10) 3 ∷ drop (b 10) ∷ drop (f 12) ∷ [])
    ∷ (2, split left (f 10) 3 10 ∷ drop (b 10) ∷ bring_in left (f 10) 4 ∷ take_out left (f 10) 3 ∷ bring_in left (f 10) 5 ∷ plated_knit left (f 10) 4 5 ∷ plated_tuck right (f 10) 5 4 ∷ [])
    ∷ (3, [])
    ∷ []

-- two positions, the records there, and whether they are tied
pub record TiePlace : Type 0 where
  pub p : ℕ
  pub q : ℕ
  pub first : List ℕ
  pub second : List ℕ
  pub tied : Bool

abbrev places : ℕ → ℕ → List ℕ → List ℕ → Bool → TiePlace
places p q x y t = record { p = p; q = q; first = x; second = y; tied = t }

abbrev pub tie_places : List TiePlace
tie_places =
    -- in one stretch, at its racking: at 0 b.10 is beside f.10, at 2 it is not
    places 3 4 (drop (b 10)) (xfer (f 10) 10) true
    ∷ places 6 7 (knit right (f 10) 3) (drop (b 10)) false
    ∷ places 7 8 (drop (b 10)) (drop (f 12)) false
    ∷ places 10 11 (split left (f 10) 3 10) (drop (b 10)) true
    -- 'Extents are compared only within one stretch'
    ∷ places 3 10 (drop (b 10)) (split left (f 10) 3 10) false
    ∷ places 3 7 (drop (b 10)) (drop (b 10)) false
    -- a rack, or one carrier, wherever they stand
    ∷ places 0 5 (bring_in right (f 10) 3) (rack 2) true
    ∷ places 5 11 (rack 2) (drop (b 10)) true
    ∷ places 5 9 (rack 2) (rack 0) true
    ∷ places 0 13 (bring_in right (f 10) 3) (take_out left (f 10) 3) true
    ∷ places 0 12 (bring_in right (f 10) 3) (bring_in left (f 10) 4) false
    -- a plated stitch through either of its carriers
    ∷ places 12 15 (bring_in left (f 10) 4) (plated_knit left (f 10) 4 5) true
    ∷ places 14 15 (bring_in left (f 10) 5) (plated_knit left (f 10) 4 5) true
    ∷ places 15 16 (plated_knit left (f 10) 4 5) (plated_tuck right (f 10) 5 4) true
    ∷ places 0 15 (bring_in right (f 10) 3) (plated_knit left (f 10) 4 5) false
    ∷ []

-- 'a record is known by its bytes and by how many equal ones stand before it in the program': which, how many, its position
abbrev pub counted : List (List ℕ × (ℕ × ℕ))
counted = (drop (b 10), (0, 3)) ∷ (drop (b 10), (1, 7)) ∷ (drop (b 10), (2, 11)) ∷ (drop (f 12), (0, 8)) ∷ []

-- ---- a state's hooks, f.0 to f.249 and then b.0 to b.249, and its carriers, k at k - 1 (include/banthewig.h): 1, 3, 2 and 4 loops at the ends of the beds
abbrev pub at_the_ends : List ℕ
at_the_ends =
    bring_in right (f 0) 1 ++ knit right (f 0) 1
    ++ bring_in left (f 249) 10 ++ tuck left (f 249) 10 ++ tuck right (f 249) 10 ++ tuck left (f 249) 10
    ++ bring_in right (b 0) 2 ++ tuck right (b 0) 2 ++ tuck left (b 0) 2
    ++ bring_in left (b 249) 3 ++ tuck left (b 249) 3 ++ tuck right (b 249) 3 ++ tuck left (b 249) 3 ++ tuck right (b 249) 3

abbrev pub stored_loops : List (ℕ × ℕ)
stored_loops = (0, 1) ∷ (1, 0) ∷ (248, 0) ∷ (249, 3) ∷ (250, 2) ∷ (251, 0) ∷ (498, 0) ∷ (499, 4) ∷ []

abbrev pub stored_carriers : List (ℕ × Carrier)
stored_carriers = (0, on_right 1 (f 0)) ∷ (1, on_left 0 (b 0)) ∷ (2, on_right 250 (b 249)) ∷ (3, inactive) ∷ (8, inactive) ∷ (9, on_left 249 (f 249)) ∷ []

pub record OrdersHold : Type 0 where
  pub records_are : records_of program ≡ listed
  pub histories_are : Each (λ (h : Named × List (List ℕ)). history_of h.0 program ≡ h.1) histories
  pub stretches_are : Each (λ (k : ℕ × List (List ℕ)). stretch knitting k.0 (records_of program) ≡ k.1) stretches
  pub ties_are : Each (λ (t : TiePlace). tied_in knitting racking_zero (records_of program) t.p t.q t.first t.second ≡ t.tied) tie_places
  pub counts_are : Each (λ (c : List ℕ × (ℕ × ℕ)). Nth same_bytes (records_of program) c.0 c.1.0 c.1.1) counted
  pub loops_are : Each (λ (h : ℕ × ℕ). get_or (run_of 8 at_the_ends).state.loops h.0 0 ≡ h.1) stored_loops
  pub carriers_are : Each (λ (k : ℕ × Carrier). get_or (run_of 8 at_the_ends).state.carriers k.0 inactive ≡ k.1) stored_carriers
  -- which byte is which carrier of a plated stitch: no answer tells, since the two are treated alike
  pub carriers_read : ((what (plated_knit right (f 10) 3 4)).carrier ≡ 3) × ((what (plated_knit right (f 10) 3 4)).second ≡ 4)
