-- The pieces of document 01, 'Pieces to try', and rows besides them: programs and logs, what the run and the rewriter answer, and what the rewriter writes.
use Rattle.std.specs.Prelude.{ℕ, zero, suc, ◌+◌, ◌-◌, Bool, true, false, List, [], ◌∷◌, ◌++◌, ℤ, pos, negsuc, length, replicate}
use Rattle.machine.specs.declared.Needle.{Needle}
use Rattle.machine.specs.declared.Carrier.{Carrier}
use Rattle.machine.specs.Machine.{inactive}
use Rattle.pieces.specs.Spelled.{f, b, left, right, rack, drop, xfer, bring_in, take_out, miss, tuck, knit, split, plated_tuck, plated_knit}

-- what an answer says: number, place, complete; of the state its racking, its limit, some needles with their loops, some carriers
pub record Expected : Type 0 where
  pub number : ℕ
  pub place : ℕ
  pub complete : Bool
  pub racking : ℤ
  pub limit : ℕ
  pub hooks : List (Needle × ℕ)
  pub carriers : List (ℕ × Carrier)

abbrev pub expected : ℕ → ℕ → Bool → ℤ → List (Needle × ℕ) → List (ℕ × Carrier) → Expected
expected n at done r hs cs = record { number = n; place = at; complete = done; racking = r; limit = 8; hooks = hs; carriers = cs }

-- the same at another limit
abbrev having : ℕ → Expected → Expected
having limit e = record { number = e.number; place = e.place; complete = e.complete; racking = e.racking; limit = limit; hooks = e.hooks; carriers = e.carriers }

-- the empty state, which complete says whole
abbrev pub empty : ℕ → ℕ → Expected
empty n at = expected n at true (pos 0) [] []

-- a carrier parked at slot z, attached to a needle on a side, or to none
abbrev pub parked : ℤ → ℕ → Needle → Carrier
parked z side n = record { active = 1; side = side; slot = record { 0 = z }; needle = n }

abbrev pub on_left : ℕ → Needle → Carrier
on_left z n = parked (pos z) 1 n

abbrev pub on_right : ℕ → Needle → Carrier
on_right z n = parked (pos z) 2 n

abbrev unattached : ℕ → Carrier
unattached z = parked (pos z) 0 (f 0)

-- ---- the run: a limit, a program and its answer
pub record Row : Type 0 where
  pub limit : ℕ
  pub program : List ℕ
  pub answer : Expected

-- rows at limit 8 that end in the empty state; in another at racking 0; at another racking
abbrev row : List ℕ → ℕ → ℕ → Row
row p n at = record { limit = 8; program = p; answer = empty n at }

abbrev knitted : List ℕ → ℕ → ℕ → List (Needle × ℕ) → List (ℕ × Carrier) → Row
knitted p n at hs cs = record { limit = 8; program = p; answer = expected n at false (pos 0) hs cs }

abbrev racked : List ℕ → ℕ → ℕ → ℤ → List (Needle × ℕ) → List (ℕ × Carrier) → Row
racked p n at r hs cs = record { limit = 8; program = p; answer = expected n at false r hs cs }

-- a row at another limit, which its state has too; and 02, W2: 'a run or rewrite started with a bad limit gets 15 too .. with the empty state of limit 8, complete'
abbrev given : ℕ → Row → Row
given limit r = record { limit = limit; program = r.program; answer = having limit r.answer }

abbrev bad : ℕ → List ℕ → Row
bad limit p = record { limit = limit; program = p; answer = empty 15 0 }

-- carrier 3 comes in right at f.10, parked at slot 10
abbrev in_3 : List ℕ
in_3 = bring_in right (f 10) 3

-- four tucks at a needle, right and left in turn, or left and right
abbrev tucks : Needle → ℕ → List ℕ
tucks n k = tuck right n k ++ tuck left n k ++ tuck right n k ++ tuck left n k

abbrev left_tucks : Needle → ℕ → List ℕ
left_tucks n k = tuck left n k ++ tuck right n k ++ tuck left n k ++ tuck right n k

-- misses of a carrier: right over so many needles of a bed from n on, or left from n down
abbrev passes_right : ℕ → (ℕ → Needle) → ℕ → ℕ → List ℕ
passes_right k bed n zero = []
passes_right k bed n (suc count) = miss right (bed n) k ++ passes_right k bed (suc n) count

abbrev passes_left : ℕ → (ℕ → Needle) → ℕ → ℕ → List ℕ
passes_left k bed n zero = []
passes_left k bed n (suc count) = miss left (bed n) k ++ passes_left k bed (n - 1) count

-- the same of carrier 3, the left ones over the front bed
abbrev misses_right : (ℕ → Needle) → ℕ → ℕ → List ℕ
misses_right bed n count = passes_right 3 bed n count

abbrev misses_left : ℕ → ℕ → List ℕ
misses_left n count = passes_left 3 f n count

-- carrier 3 attached to f.10, on its right, and led on over f.11 to f.29 (to slot 30), or to f.30 (to slot 31)
abbrev led_20 : List ℕ
led_20 = in_3 ++ tuck right (f 10) 3 ++ misses_right f 11 19

abbrev led_21 : List ℕ
led_21 = in_3 ++ tuck right (f 10) 3 ++ misses_right f 11 20

-- carrier 3 attached to f.31, on its left, and led back over f.30 to f.11 (to slot 11), or to f.10 (to slot 10): what lies ahead of it then is its own yarn
abbrev back_20 : List ℕ
back_20 = bring_in left (f 31) 3 ++ tuck left (f 31) 3 ++ misses_left 30 20

abbrev back_21 : List ℕ
back_21 = bring_in left (f 31) 3 ++ tuck left (f 31) 3 ++ misses_left 30 21

-- carrier 3 attached to f.10, on its left, turned there, and led right over f.10 to f.29 (to slot 30), or to f.30 (to slot 31)
abbrev turned_20 : List ℕ
turned_20 = in_3 ++ tuck right (f 10) 3 ++ tuck left (f 10) 3 ++ misses_right f 10 20

abbrev turned_21 : List ℕ
turned_21 = in_3 ++ tuck right (f 10) 3 ++ tuck left (f 10) 3 ++ misses_right f 10 21

-- the same from f.30, on its right, led left over f.30 to f.11 (to slot 11), or to f.10 (to slot 10)
abbrev turned_left_20 : List ℕ
turned_left_20 = bring_in left (f 30) 3 ++ tuck left (f 30) 3 ++ tuck right (f 30) 3 ++ misses_left 30 20

abbrev turned_left_21 : List ℕ
turned_left_21 = bring_in left (f 30) 3 ++ tuck left (f 30) 3 ++ tuck right (f 30) 3 ++ misses_left 30 21

-- on the back bed: a carrier attached to b.10, on its right, and led right over so many needles from b.11 on; to b.30, on its left, and led left from b.29 down
abbrev on_right_of_10 : ℕ → ℕ → List ℕ
on_right_of_10 k count = bring_in right (b 10) k ++ tuck right (b 10) k ++ passes_right k b 11 count

abbrev on_left_of_30 : ℕ → ℕ → List ℕ
on_left_of_30 k count = bring_in left (b 30) k ++ tuck left (b 30) k ++ passes_left k b 29 count

-- piece 8's program P
abbrev P : List ℕ
P = 4 ∷ 1 ∷ 0 ∷ 10 ∷ 3 ∷ 4 ∷ 1 ∷ 1 ∷ 10 ∷ 4 ∷ 8 ∷ 1 ∷ 0 ∷ 10 ∷ 3 ∷ 8 ∷ 1 ∷ 1 ∷ 10 ∷ 4 ∷ []

-- piece 9's program
abbrev in_out_in : List ℕ
in_out_in = in_3 ++ take_out left (f 10) 3 ++ bring_in right (f 50) 3

-- the pieces
abbrev pieces : List Row
pieces =
    -- 1: the empty program
    row [] 0 0
    -- 2: rack bytes 08 and F8 pass, 09 and F7 give 5
    ∷ racked (1 ∷ 8 ∷ []) 0 0 (pos 8) [] []
    ∷ racked (1 ∷ 248 ∷ []) 0 0 (negsuc 7) [] []
    ∷ row (1 ∷ 9 ∷ []) 5 0
    ∷ row (1 ∷ 247 ∷ []) 5 0
    -- 3: drop f.249 passes, f.250 gives 5
    ∷ row (2 ∷ 0 ∷ 249 ∷ []) 0 0
    ∷ row (2 ∷ 0 ∷ 250 ∷ []) 5 0
    -- 4: in right f.10, knit left there: 8 at place 5
    ∷ knitted (in_3 ++ knit left (f 10) 3) 8 5 ((f 10, 0) ∷ []) ((3, unattached 10) ∷ [])
    -- 5: rack 2: xfer f.12 to b.10 passes, f.8 to b.10 gives 10
    ∷ racked (1 ∷ 2 ∷ 3 ∷ 0 ∷ 12 ∷ 10 ∷ []) 0 0 (pos 2) [] []
    ∷ racked (1 ∷ 2 ∷ 3 ∷ 0 ∷ 8 ∷ 10 ∷ []) 10 2 (pos 2) [] []
    -- 6: eight tucks pass, the ninth gives 11 at 45
    ∷ knitted (in_3 ++ tucks (f 10) 3 ++ tucks (f 10) 3) 0 0 ((f 10, 8) ∷ []) ((3, on_left 10 (f 10)) ∷ [])
    ∷ knitted (in_3 ++ tucks (f 10) 3 ++ tucks (f 10) 3 ++ tuck right (f 10) 3) 11 45 ((f 10, 8) ∷ []) ((3, on_left 10 (f 10)) ∷ [])
    -- 7: a float of 20 columns passes, one of 21 gives 9
    ∷ knitted (led_20 ++ tuck right (f 30) 3) 0 0 ((f 10, 1) ∷ (f 30, 1) ∷ []) ((3, on_right 31 (f 30)) ∷ [])
    ∷ knitted (led_21 ++ tuck right (f 31) 3) 9 110 ((f 31, 0) ∷ []) ((3, on_right 31 (f 10)) ∷ [])
    -- 8: P runs to the state that 01 lists
    ∷ knitted P 0 0 ((f 10, 1) ∷ (b 10, 1) ∷ []) ((3, on_right 11 (f 10)) ∷ (4, on_right 11 (b 10)) ∷ [])
    -- 9: in right f.10, out left f.10, in right f.50: runs
    ∷ knitted in_out_in 0 0 [] ((3, unattached 50) ∷ [])
    -- 12: kind 00 gives 3, bytes 08 01 give 4
    ∷ row (0 ∷ []) 3 0
    ∷ row (8 ∷ 1 ∷ []) 4 0
    ∷ []

-- each kind's step
abbrev steps : List Row
steps =
    -- rack: parked slots stay, the needles of the back bed pass by them
    racked (bring_in right (b 10) 3 ++ rack 2) 0 0 (pos 2) [] ((3, unattached 10) ∷ [])
    ∷ racked (bring_in right (b 10) 3 ++ rack 2 ++ knit right (b 8) 3) 0 0 (pos 2) ((b 8, 1) ∷ (b 10, 0) ∷ []) ((3, on_right 11 (b 8)) ∷ [])
    ∷ row (rack 2 ++ rack 0) 0 0
    -- drop: of two loops, the attachment remains; of none
    ∷ knitted (in_3 ++ tuck right (f 10) 3 ++ tuck left (f 10) 3 ++ drop (f 10)) 0 0 ((f 10, 0) ∷ []) ((3, on_left 10 (f 10)) ∷ [])
    ∷ knitted (P ++ drop (b 10) ++ drop (b 10)) 0 0 ((f 10, 1) ∷ (b 10, 0) ∷ []) ((3, on_right 11 (f 10)) ∷ (4, on_right 11 (b 10)) ∷ [])
    -- in: right at slot z, left at slot z + 1
    ∷ knitted (bring_in right (f 10) 3) 0 0 [] ((3, unattached 10) ∷ [])
    ∷ knitted (bring_in left (f 10) 3) 0 0 [] ((3, unattached 11) ∷ [])
    -- out: inactive and unattached, the loop remains; with nothing left the state is the empty one
    ∷ knitted (in_3 ++ knit right (f 10) 3 ++ take_out right (f 10) 3) 0 0 ((f 10, 1) ∷ []) ((3, inactive) ∷ [])
    ∷ row (in_3 ++ knit right (f 10) 3 ++ take_out right (f 10) 3 ++ drop (f 10)) 0 0
    -- miss: right and left; with an attachment, which it keeps; past 20 columns
    ∷ knitted (in_3 ++ miss right (f 10) 3) 0 0 ((f 10, 0) ∷ []) ((3, unattached 11) ∷ [])
    ∷ knitted (bring_in left (f 10) 3 ++ miss left (f 10) 3) 0 0 ((f 10, 0) ∷ []) ((3, unattached 10) ∷ [])
    ∷ knitted (led_21 ++ miss right (f 31) 3) 0 0 ((f 10, 1) ∷ (f 31, 0) ∷ []) ((3, on_right 32 (f 10)) ∷ [])
    -- tuck: one loop more, attached on the side it moved to
    ∷ knitted (in_3 ++ tuck right (f 10) 3) 0 0 ((f 10, 1) ∷ []) ((3, on_right 11 (f 10)) ∷ [])
    ∷ knitted (in_3 ++ tuck right (f 10) 3 ++ tuck left (f 10) 3) 0 0 ((f 10, 2) ∷ []) ((3, on_left 10 (f 10)) ∷ [])
    -- knit: over two loops, over eight, over none
    ∷ knitted (in_3 ++ tuck right (f 10) 3 ++ tuck left (f 10) 3 ++ knit right (f 10) 3) 0 0 ((f 10, 1) ∷ []) ((3, on_right 11 (f 10)) ∷ [])
    ∷ knitted (in_3 ++ tucks (f 10) 3 ++ tucks (f 10) 3 ++ knit right (f 10) 3) 0 0 ((f 10, 1) ∷ []) ((3, on_right 11 (f 10)) ∷ [])
    ∷ knitted (bring_in left (b 10) 3 ++ knit left (b 10) 3) 0 0 ((b 10, 1) ∷ []) ((3, on_left 10 (b 10)) ∷ [])
    -- xfer: a loop and an attachment, front to back and back to front; of none
    ∷ knitted (in_3 ++ tuck right (f 10) 3 ++ xfer (f 10) 10) 0 0 ((f 10, 0) ∷ (b 10, 1) ∷ []) ((3, on_right 11 (b 10)) ∷ [])
    ∷ knitted (bring_in right (b 10) 3 ++ tuck right (b 10) 3 ++ xfer (b 10) 10) 0 0 ((f 10, 1) ∷ (b 10, 0) ∷ []) ((3, on_right 11 (f 10)) ∷ [])
    ∷ row (xfer (b 10) 10) 0 0
    -- two carriers' attachments with their sides; one at another needle stays
    ∷ knitted
    (bring_in right (f 10) 1 ++ tuck right (f 10) 1 ++ bring_in left (f 10) 3 ++ tuck left (f 10) 3 ++ bring_in right (f 11) 4 ++ tuck right (f 11) 4 ++ xfer (f 10) 10)
    0 0 ((f 10, 0) ∷ (b 10, 2) ∷ (f 11, 1) ∷ []) ((1, on_right 11 (b 10)) ∷ (3, on_left 10 (b 10)) ∷ (4, on_right 12 (f 11)) ∷ [])
    -- the attachment at a needle of the same number on the other bed stays
    ∷ racked (bring_in right (b 10) 3 ++ tuck right (b 10) 3 ++ rack 2 ++ xfer (f 10) 8) 0 0 (pos 2) ((b 8, 0) ∷ (b 10, 1) ∷ []) ((3, on_right 11 (b 10)) ∷ [])
    -- split: its own attachment ends at the needle it works, another carrier's goes along
    ∷ knitted (in_3 ++ tuck right (f 10) 3 ++ split left (f 10) 3 10) 0 0 ((f 10, 1) ∷ (b 10, 1) ∷ []) ((3, on_left 10 (f 10)) ∷ [])
    ∷ knitted (bring_in right (f 10) 1 ++ tuck right (f 10) 1 ++ in_3 ++ split right (f 10) 3 10) 0 0 ((f 10, 1) ∷ (b 10, 1) ∷ [])
    ((1, on_right 11 (b 10)) ∷ (3, on_right 11 (f 10)) ∷ [])
    ∷ racked (rack 2 ++ bring_in right (f 12) 3 ++ split right (f 12) 3 10) 0 0 (pos 2) ((f 12, 1) ∷ (b 10, 0) ∷ []) ((3, on_right 13 (f 12)) ∷ [])
    -- from the back bed; at racking 2; a carrier attached to another needle stays, and one attached to the second needle
    ∷ knitted (bring_in right (b 10) 3 ++ tuck right (b 10) 3 ++ split left (b 10) 3 10) 0 0 ((f 10, 1) ∷ (b 10, 1) ∷ []) ((3, on_left 10 (b 10)) ∷ [])
    ∷ racked (rack 2 ++ bring_in right (b 10) 3 ++ split right (b 10) 3 12) 0 0 (pos 2) ((b 10, 1) ∷ (f 12, 0) ∷ []) ((3, on_right 13 (b 10)) ∷ [])
    ∷ racked (rack 2 ++ bring_in right (b 10) 3 ++ split right (b 10) 3 10) 10 7 (pos 2) ((b 10, 0) ∷ []) ((3, unattached 12) ∷ [])
    ∷ knitted
    (bring_in left (f 10) 1 ++ tuck left (f 10) 1 ++ bring_in right (f 11) 4 ++ tuck right (f 11) 4 ++ bring_in right (b 10) 5 ++ tuck right (b 10) 5 ++ in_3 ++ split right (f 10) 3 10 ++ drop (f 11))
    0 0 ((f 10, 1) ∷ (b 10, 2) ∷ (f 11, 0) ∷ [])
    ((1, on_left 10 (b 10)) ∷ (3, on_right 11 (f 10)) ∷ (4, on_right 12 (f 11)) ∷ (5, on_right 11 (b 10)) ∷ [])
    -- a carrier that is unattached stays so, at f.0 too
    ∷ knitted (in_3 ++ xfer (f 0) 0) 0 0 [] ((3, unattached 10) ∷ [])
    ∷ knitted (in_3 ++ bring_in right (f 0) 1 ++ split right (f 0) 1 0) 0 0 ((f 0, 1) ∷ (b 0, 0) ∷ []) ((1, on_right 1 (f 0)) ∷ (3, unattached 10) ∷ [])
    -- a knit leaves another carrier's attachment
    ∷ knitted (bring_in right (f 10) 1 ++ tuck right (f 10) 1 ++ in_3 ++ knit right (f 10) 3) 0 0 ((f 10, 1) ∷ []) ((1, on_right 11 (f 10)) ∷ (3, on_right 11 (f 10)) ∷ [])
    -- xfer and out at racking 2; out past 20 columns
    ∷ racked (rack 2 ++ bring_in right (b 10) 3 ++ tuck right (b 10) 3 ++ xfer (b 10) 12) 0 0 (pos 2) ((b 10, 0) ∷ (f 12, 1) ∷ []) ((3, on_right 13 (f 12)) ∷ [])
    ∷ racked (rack 2 ++ bring_in right (b 10) 3 ++ miss right (b 10) 3 ++ take_out right (b 10) 3) 0 0 (pos 2) [] ((3, inactive) ∷ [])
    ∷ knitted (led_21 ++ take_out left (f 31) 3) 0 0 ((f 10, 1) ∷ []) ((3, inactive) ∷ [])
    -- eight loops in all pass
    ∷ knitted (in_3 ++ tucks (f 10) 3 ++ tucks (b 10) 3 ++ xfer (f 10) 10) 0 0 ((f 10, 0) ∷ (b 10, 8) ∷ []) ((3, on_left 10 (b 10)) ∷ [])
    ∷ knitted (in_3 ++ tucks (f 10) 3 ++ tucks (b 10) 3 ++ split right (f 10) 3 10) 0 0 ((f 10, 1) ∷ (b 10, 8) ∷ []) ((3, on_right 11 (f 10)) ∷ [])
    -- the first and the last needle, column, slot and carrier
    ∷ knitted (bring_in right (f 0) 1 ++ bring_in left (b 249) 10) 0 0 [] ((1, unattached 0) ∷ (10, unattached 250) ∷ [])
    ∷ racked (rack 248 ++ bring_in right (b 0) 3) 0 0 (negsuc 7) [] ((3, parked (negsuc 7) 0 (f 0)) ∷ [])
    ∷ racked (rack 248 ++ bring_in left (b 0) 3 ++ tuck left (b 0) 3) 0 0 (negsuc 7) ((b 0, 1) ∷ []) ((3, parked (negsuc 7) 1 (b 0)) ∷ [])
    ∷ racked (rack 8 ++ bring_in left (b 249) 3) 0 0 (pos 8) [] ((3, unattached 258) ∷ [])
    ∷ racked (rack 8 ++ bring_in right (b 249) 3 ++ knit right (b 249) 3) 0 0 (pos 8) ((b 249, 1) ∷ []) ((3, on_right 258 (b 249)) ∷ [])
    ∷ racked (rack 248 ++ bring_in left (b 7) 3 ++ miss left (b 7) 3) 0 0 (negsuc 7) [] ((3, parked (negsuc 0) 0 (f 0)) ∷ [])
    -- columns, not needles, are opposite: column 0; −8 is not 8
    ∷ racked (rack 248 ++ xfer (b 8) 0) 0 0 (negsuc 7) [] []
    ∷ racked (rack 248 ++ xfer (b 0) 8) 10 2 (negsuc 7) [] []
    ∷ []

-- floats of 20 and 21 columns
abbrev pub floats : List Row
floats =
    -- knit and split as tuck
    knitted (led_20 ++ knit right (f 30) 3) 0 0 ((f 30, 1) ∷ []) ((3, on_right 31 (f 30)) ∷ [])
    ∷ knitted (led_21 ++ knit right (f 31) 3) 9 110 ((f 31, 0) ∷ []) ((3, on_right 31 (f 10)) ∷ [])
    ∷ knitted (led_20 ++ split right (f 30) 3 30) 0 0 ((f 30, 1) ∷ (b 30, 0) ∷ []) ((3, on_right 31 (f 30)) ∷ [])
    ∷ knitted (led_21 ++ split right (f 31) 3 31) 9 110 ((f 31, 0) ∷ []) ((3, on_right 31 (f 10)) ∷ [])
    -- to the left
    ∷ knitted (bring_in left (f 30) 3 ++ tuck left (f 30) 3 ++ misses_left 29 19 ++ tuck left (f 10) 3) 0 0 ((f 30, 1) ∷ (f 10, 1) ∷ []) ((3, on_left 10 (f 10)) ∷ [])
    ∷ knitted (bring_in left (f 30) 3 ++ tuck left (f 30) 3 ++ misses_left 29 20 ++ tuck left (f 9) 3) 9 110 ((f 30, 1) ∷ (f 9, 0) ∷ []) ((3, on_left 10 (f 30)) ∷ [])
    -- from column −8 to 12 and to 13
    ∷ racked (rack 248 ++ bring_in right (b 0) 3 ++ tuck right (b 0) 3 ++ misses_right b 1 19 ++ tuck right (b 20) 3) 0 0 (negsuc 7) ((b 0, 1) ∷ (b 20, 1) ∷ [])
    ((3, on_right 13 (b 20)) ∷ [])
    ∷ racked (rack 248 ++ bring_in right (b 0) 3 ++ tuck right (b 0) 3 ++ misses_right b 1 20 ++ tuck right (b 21) 3) 9 112 (negsuc 7) ((b 0, 1) ∷ (b 21, 0) ∷ [])
    ((3, on_right 13 (b 0)) ∷ [])
    -- 'both columns at the current racking': rack −1 makes 20 columns 21, rack 1 makes 21 columns 20
    ∷ racked (bring_in right (b 10) 3 ++ knit right (b 10) 3 ++ misses_right f 11 19 ++ rack 255 ++ tuck right (f 30) 3) 9 107 (negsuc 0) ((b 10, 1) ∷ (f 30, 0) ∷ [])
    ((3, on_right 30 (b 10)) ∷ [])
    ∷ racked (bring_in right (b 10) 3 ++ knit right (b 10) 3 ++ misses_right f 11 20 ++ rack 1 ++ tuck right (f 31) 3) 0 0 (pos 1) ((b 10, 1) ∷ (f 31, 1) ∷ [])
    ((3, on_right 32 (f 31)) ∷ [])
    -- the same for knit and split
    ∷ racked (bring_in right (b 10) 3 ++ knit right (b 10) 3 ++ misses_right f 11 19 ++ rack 255 ++ knit right (f 30) 3) 9 107 (negsuc 0) ((b 10, 1) ∷ (f 30, 0) ∷ [])
    ((3, on_right 30 (b 10)) ∷ [])
    ∷ racked (bring_in right (b 10) 3 ++ knit right (b 10) 3 ++ misses_right f 11 19 ++ rack 255 ++ split right (f 30) 3 31) 9 107 (negsuc 0) ((b 10, 1) ∷ (f 30, 0) ∷ [])
    ((3, on_right 30 (b 10)) ∷ [])
    -- to the back bed: at racking 1 b.29 is 20 columns from f.10, b.30 is 21
    ∷ racked (led_20 ++ rack 1 ++ tuck right (b 29) 3) 0 0 (pos 1) ((b 29, 1) ∷ []) ((3, on_right 31 (b 29)) ∷ [])
    ∷ racked (led_21 ++ rack 1 ++ tuck right (b 30) 3) 9 112 (pos 1) ((b 30, 0) ∷ []) ((3, on_right 31 (f 10)) ∷ [])
    ∷ racked (led_20 ++ rack 1 ++ knit right (b 29) 3) 0 0 (pos 1) ((b 29, 1) ∷ []) ((3, on_right 31 (b 29)) ∷ [])
    ∷ racked (led_21 ++ rack 1 ++ knit right (b 30) 3) 9 112 (pos 1) ((b 30, 0) ∷ []) ((3, on_right 31 (f 10)) ∷ [])
    ∷ racked (led_20 ++ rack 1 ++ split right (b 29) 3 30) 0 0 (pos 1) ((b 29, 1) ∷ (f 30, 0) ∷ []) ((3, on_right 31 (b 29)) ∷ [])
    ∷ racked (led_21 ++ rack 1 ++ split right (b 30) 3 31) 9 112 (pos 1) ((b 30, 0) ∷ []) ((3, on_right 31 (f 10)) ∷ [])
    -- no attachment, no float, also from f.0; of a split to the left
    ∷ knitted (bring_in right (f 40) 3 ++ knit right (f 40) 3) 0 0 ((f 40, 1) ∷ []) ((3, on_right 41 (f 40)) ∷ [])
    ∷ knitted (bring_in right (f 40) 3 ++ split right (f 40) 3 40) 0 0 ((f 40, 1) ∷ []) ((3, on_right 41 (f 40)) ∷ [])
    ∷ knitted (bring_in left (f 30) 3 ++ tuck left (f 30) 3 ++ misses_left 29 20 ++ split left (f 9) 3 9) 9 110 ((f 30, 1) ∷ (f 9, 0) ∷ []) ((3, on_left 10 (f 30)) ∷ [])
    -- none for out
    ∷ knitted (led_21 ++ miss right (f 31) 3 ++ take_out right (f 31) 3) 0 0 ((f 10, 1) ∷ []) ((3, inactive) ∷ [])
    -- none without an attachment
    ∷ knitted (in_3 ++ misses_right f 10 21 ++ tuck right (f 31) 3) 0 0 ((f 31, 1) ∷ []) ((3, on_right 32 (f 31)) ∷ [])
    -- ahead of the carrier: its attachment lies 21 or 20 columns further on, to the right and to the left
    ∷ knitted (back_21 ++ tuck right (f 10) 3) 9 115 ((f 31, 1) ∷ (f 10, 0) ∷ []) ((3, on_left 10 (f 31)) ∷ [])
    ∷ knitted (back_20 ++ tuck right (f 11) 3) 0 0 ((f 31, 1) ∷ (f 11, 1) ∷ []) ((3, on_right 12 (f 11)) ∷ [])
    ∷ knitted (back_21 ++ knit right (f 10) 3) 9 115 ((f 31, 1) ∷ (f 10, 0) ∷ []) ((3, on_left 10 (f 31)) ∷ [])
    ∷ knitted (back_20 ++ knit right (f 11) 3) 0 0 ((f 31, 1) ∷ (f 11, 1) ∷ []) ((3, on_right 12 (f 11)) ∷ [])
    ∷ knitted (back_21 ++ split right (f 10) 3 10) 9 115 ((f 31, 1) ∷ (f 10, 0) ∷ []) ((3, on_left 10 (f 31)) ∷ [])
    ∷ knitted (back_20 ++ split right (f 11) 3 11) 0 0 ((f 31, 1) ∷ (f 11, 1) ∷ (b 11, 0) ∷ []) ((3, on_right 12 (f 11)) ∷ [])
    ∷ knitted (back_21 ++ bring_in right (f 10) 4 ++ plated_knit right (f 10) 3 4) 9 120 ((f 10, 0) ∷ []) ((3, on_left 10 (f 31)) ∷ (4, unattached 10) ∷ [])
    ∷ knitted (back_21 ++ bring_in right (f 10) 4 ++ plated_tuck right (f 10) 4 3) 9 120 ((f 10, 0) ∷ []) ((3, on_left 10 (f 31)) ∷ (4, unattached 10) ∷ [])
    ∷ knitted (back_20 ++ bring_in right (f 11) 4 ++ plated_knit right (f 11) 3 4) 0 0 ((f 11, 2) ∷ []) ((3, on_right 12 (f 11)) ∷ (4, on_right 12 (f 11)) ∷ [])
    ∷ knitted (back_20 ++ bring_in right (f 11) 4 ++ plated_tuck right (f 11) 4 3) 0 0 ((f 11, 2) ∷ []) ((3, on_right 12 (f 11)) ∷ (4, on_right 12 (f 11)) ∷ [])
    ∷ knitted (led_21 ++ miss right (f 31) 3 ++ tuck left (f 31) 3) 9 115 ((f 31, 0) ∷ []) ((3, on_right 32 (f 10)) ∷ [])
    ∷ knitted (led_21 ++ tuck left (f 30) 3) 0 0 ((f 10, 1) ∷ (f 30, 1) ∷ []) ((3, on_left 30 (f 30)) ∷ [])
    ∷ knitted (led_21 ++ miss right (f 31) 3 ++ split left (f 31) 3 31) 9 115 ((f 31, 0) ∷ []) ((3, on_right 32 (f 10)) ∷ [])
    ∷ knitted (led_21 ++ split left (f 30) 3 30) 0 0 ((f 30, 1) ∷ (b 30, 0) ∷ []) ((3, on_left 30 (f 30)) ∷ [])
    ∷ knitted (led_21 ++ miss right (f 31) 3 ++ bring_in left (f 31) 4 ++ plated_knit left (f 31) 4 3) 9 120 ((f 31, 0) ∷ []) ((3, on_right 32 (f 10)) ∷ (4, unattached 32) ∷ [])
    ∷ knitted (led_21 ++ bring_in left (f 30) 4 ++ plated_tuck left (f 30) 3 4) 0 0 ((f 30, 2) ∷ []) ((3, on_left 30 (f 30)) ∷ (4, on_left 30 (f 30)) ∷ [])
    -- after a turn at the needle it is attached to, to the right and to the left
    ∷ knitted (turned_20 ++ tuck right (f 30) 3) 0 0 ((f 10, 2) ∷ (f 30, 1) ∷ []) ((3, on_right 31 (f 30)) ∷ [])
    ∷ knitted (turned_21 ++ tuck right (f 31) 3) 9 120 ((f 10, 2) ∷ (f 31, 0) ∷ []) ((3, on_left 31 (f 10)) ∷ [])
    ∷ knitted (turned_20 ++ knit right (f 30) 3) 0 0 ((f 30, 1) ∷ []) ((3, on_right 31 (f 30)) ∷ [])
    ∷ knitted (turned_21 ++ knit right (f 31) 3) 9 120 ((f 31, 0) ∷ []) ((3, on_left 31 (f 10)) ∷ [])
    ∷ knitted (turned_20 ++ split right (f 30) 3 30) 0 0 ((f 10, 2) ∷ (f 30, 1) ∷ (b 30, 0) ∷ []) ((3, on_right 31 (f 30)) ∷ [])
    ∷ knitted (turned_21 ++ split right (f 31) 3 31) 9 120 ((f 31, 0) ∷ []) ((3, on_left 31 (f 10)) ∷ [])
    ∷ knitted (turned_20 ++ bring_in right (f 30) 4 ++ plated_tuck right (f 30) 4 3) 0 0 ((f 30, 2) ∷ []) ((3, on_right 31 (f 30)) ∷ (4, on_right 31 (f 30)) ∷ [])
    ∷ knitted (turned_21 ++ bring_in right (f 31) 4 ++ plated_knit right (f 31) 4 3) 9 125 ((f 31, 0) ∷ []) ((3, on_left 31 (f 10)) ∷ (4, unattached 31) ∷ [])
    ∷ knitted (turned_21 ++ bring_in right (f 31) 4 ++ plated_tuck right (f 31) 3 4) 9 125 ((f 31, 0) ∷ []) ((3, on_left 31 (f 10)) ∷ (4, unattached 31) ∷ [])
    ∷ knitted (turned_left_20 ++ tuck left (f 10) 3) 0 0 ((f 30, 2) ∷ (f 10, 1) ∷ []) ((3, on_left 10 (f 10)) ∷ [])
    ∷ knitted (turned_left_21 ++ tuck left (f 9) 3) 9 120 ((f 30, 2) ∷ (f 9, 0) ∷ []) ((3, on_right 10 (f 30)) ∷ [])
    ∷ knitted (turned_left_20 ++ split left (f 10) 3 10) 0 0 ((f 10, 1) ∷ (b 10, 0) ∷ []) ((3, on_left 10 (f 10)) ∷ [])
    ∷ knitted (turned_left_21 ++ split left (f 9) 3 9) 9 120 ((f 9, 0) ∷ []) ((3, on_right 10 (f 30)) ∷ [])
    ∷ knitted (turned_left_20 ++ bring_in left (f 10) 4 ++ plated_knit left (f 10) 3 4) 0 0 ((f 10, 2) ∷ []) ((3, on_left 10 (f 10)) ∷ (4, on_left 10 (f 10)) ∷ [])
    ∷ knitted (turned_left_21 ++ bring_in left (f 9) 4 ++ plated_tuck left (f 9) 4 3) 9 125 ((f 9, 0) ∷ []) ((3, on_right 10 (f 30)) ∷ (4, unattached 10) ∷ [])
    -- knit and split to the left
    ∷ knitted (bring_in left (f 30) 3 ++ tuck left (f 30) 3 ++ misses_left 29 20 ++ knit left (f 9) 3) 9 110 ((f 30, 1) ∷ (f 9, 0) ∷ []) ((3, on_left 10 (f 30)) ∷ [])
    ∷ knitted (bring_in left (f 30) 3 ++ tuck left (f 30) 3 ++ misses_left 29 19 ++ knit left (f 10) 3) 0 0 ((f 30, 1) ∷ (f 10, 1) ∷ []) ((3, on_left 10 (f 10)) ∷ [])
    ∷ knitted (bring_in left (f 30) 3 ++ tuck left (f 30) 3 ++ misses_left 29 19 ++ split left (f 10) 3 10) 0 0 ((f 10, 1) ∷ (b 10, 0) ∷ []) ((3, on_left 10 (f 10)) ∷ [])
    -- across the beds at racking 0
    ∷ knitted (led_21 ++ tuck right (b 31) 3) 9 110 ((f 10, 1) ∷ (b 31, 0) ∷ []) ((3, on_right 31 (f 10)) ∷ [])
    ∷ knitted (led_20 ++ tuck right (b 30) 3) 0 0 ((f 10, 1) ∷ (b 30, 1) ∷ (f 30, 0) ∷ []) ((3, on_right 31 (b 30)) ∷ [])
    -- on the back bed at racking 0, to the right and to the left
    ∷ knitted (on_right_of_10 1 19 ++ tuck right (b 30) 1) 0 0 ((b 10, 1) ∷ (b 30, 1) ∷ (f 30, 0) ∷ []) ((1, on_right 31 (b 30)) ∷ [])
    ∷ knitted (on_right_of_10 3 20 ++ tuck right (b 31) 3) 9 110 ((b 10, 1) ∷ (b 31, 0) ∷ []) ((3, on_right 31 (b 10)) ∷ [])
    ∷ knitted (on_right_of_10 10 19 ++ knit right (b 30) 10) 0 0 ((b 30, 1) ∷ []) ((10, on_right 31 (b 30)) ∷ [])
    ∷ knitted (on_right_of_10 1 20 ++ knit right (b 31) 1) 9 110 ((b 31, 0) ∷ []) ((1, on_right 31 (b 10)) ∷ [])
    ∷ knitted (on_right_of_10 3 19 ++ split right (b 30) 3 30) 0 0 ((b 30, 1) ∷ (f 30, 0) ∷ []) ((3, on_right 31 (b 30)) ∷ [])
    ∷ knitted (on_right_of_10 10 20 ++ split right (b 31) 10 31) 9 110 ((b 31, 0) ∷ []) ((10, on_right 31 (b 10)) ∷ [])
    ∷ knitted (on_right_of_10 1 19 ++ bring_in right (b 30) 10 ++ plated_tuck right (b 30) 10 1) 0 0 ((b 30, 2) ∷ []) ((1, on_right 31 (b 30)) ∷ (10, on_right 31 (b 30)) ∷ [])
    ∷ knitted (on_right_of_10 3 20 ++ bring_in right (b 31) 1 ++ plated_knit right (b 31) 3 1) 9 115 ((b 31, 0) ∷ []) ((3, on_right 31 (b 10)) ∷ (1, unattached 31) ∷ [])
    ∷ knitted (on_right_of_10 10 19 ++ bring_in right (b 30) 3 ++ plated_knit right (b 30) 3 10) 0 0 ((b 30, 2) ∷ []) ((3, on_right 31 (b 30)) ∷ (10, on_right 31 (b 30)) ∷ [])
    ∷ knitted (on_right_of_10 1 20 ++ bring_in right (b 31) 10 ++ plated_tuck right (b 31) 1 10) 9 115 ((b 31, 0) ∷ []) ((1, on_right 31 (b 10)) ∷ (10, unattached 31) ∷ [])
    ∷ knitted (bring_in left (b 30) 3 ++ tuck left (b 30) 3 ++ misses_left 29 20 ++ tuck left (b 9) 3) 9 110 ((b 30, 1) ∷ (b 9, 0) ∷ []) ((3, on_left 10 (b 30)) ∷ [])
    ∷ knitted (on_left_of_30 1 19 ++ tuck left (b 10) 1) 0 0 ((b 30, 1) ∷ (b 10, 1) ∷ (f 10, 0) ∷ []) ((1, on_left 10 (b 10)) ∷ [])
    ∷ knitted (on_left_of_30 3 20 ++ tuck left (b 9) 3) 9 110 ((b 9, 0) ∷ []) ((3, on_left 10 (b 30)) ∷ [])
    ∷ knitted (on_left_of_30 10 19 ++ knit left (b 10) 10) 0 0 ((b 10, 1) ∷ []) ((10, on_left 10 (b 10)) ∷ [])
    ∷ knitted (on_left_of_30 1 20 ++ knit left (b 9) 1) 9 110 ((b 9, 0) ∷ []) ((1, on_left 10 (b 30)) ∷ [])
    ∷ knitted (on_left_of_30 3 19 ++ split left (b 10) 3 10) 0 0 ((b 10, 1) ∷ (f 10, 0) ∷ []) ((3, on_left 10 (b 10)) ∷ [])
    ∷ knitted (on_left_of_30 10 20 ++ split left (b 9) 10 9) 9 110 ((b 9, 0) ∷ []) ((10, on_left 10 (b 30)) ∷ [])
    ∷ knitted (on_left_of_30 1 19 ++ bring_in left (b 10) 10 ++ plated_knit left (b 10) 1 10) 0 0 ((b 10, 2) ∷ []) ((1, on_left 10 (b 10)) ∷ (10, on_left 10 (b 10)) ∷ [])
    ∷ knitted (on_left_of_30 3 20 ++ bring_in left (b 9) 1 ++ plated_tuck left (b 9) 1 3) 9 115 ((b 9, 0) ∷ []) ((3, on_left 10 (b 30)) ∷ (1, unattached 10) ∷ [])
    ∷ knitted (on_left_of_30 10 19 ++ bring_in left (b 10) 3 ++ plated_tuck left (b 10) 10 3) 0 0 ((b 10, 2) ∷ []) ((3, on_left 10 (b 10)) ∷ (10, on_left 10 (b 10)) ∷ [])
    ∷ knitted (on_left_of_30 1 20 ++ bring_in left (b 9) 10 ++ plated_knit left (b 9) 10 1) 9 115 ((b 9, 0) ∷ []) ((1, on_left 10 (b 30)) ∷ (10, unattached 10) ∷ [])
    -- at racking −3, where b.10 has column 7 and b.30 column 27: on the back bed to the right and to the left, from the front bed to the left, and ahead
    ∷ racked (rack 253 ++ on_right_of_10 1 19 ++ tuck right (b 30) 1) 0 0 (negsuc 2) ((b 10, 1) ∷ (b 30, 1) ∷ []) ((1, on_right 28 (b 30)) ∷ [])
    ∷ racked (rack 253 ++ on_right_of_10 10 20 ++ tuck right (b 31) 10) 9 112 (negsuc 2) ((b 31, 0) ∷ []) ((10, on_right 28 (b 10)) ∷ [])
    ∷ racked (rack 253 ++ on_left_of_30 3 19 ++ knit left (b 10) 3) 0 0 (negsuc 2) ((b 30, 1) ∷ (b 10, 1) ∷ []) ((3, on_left 7 (b 10)) ∷ [])
    ∷ racked (rack 253 ++ on_left_of_30 1 20 ++ split left (b 9) 1 6) 9 112 (negsuc 2) ((b 9, 0) ∷ []) ((1, on_left 7 (b 30)) ∷ [])
    ∷ racked (rack 253 ++ on_right_of_10 3 20 ++ bring_in right (b 31) 10 ++ plated_knit right (b 31) 10 3) 9 117 (negsuc 2) ((b 31, 0) ∷ []) ((3, on_right 28 (b 10)) ∷ (10, unattached 28) ∷ [])
    ∷ racked (rack 253 ++ bring_in left (f 30) 10 ++ tuck left (f 30) 10 ++ passes_left 10 f 29 19 ++ tuck left (b 13) 10) 0 0 (negsuc 2) ((f 30, 1) ∷ (b 13, 1) ∷ []) ((10, on_left 10 (b 13)) ∷ [])
    ∷ racked (rack 253 ++ bring_in left (f 30) 3 ++ tuck left (f 30) 3 ++ passes_left 3 f 29 20 ++ tuck left (b 12) 3) 9 112 (negsuc 2) ((b 12, 0) ∷ []) ((3, on_left 10 (f 30)) ∷ [])
    ∷ racked (rack 253 ++ bring_in left (b 31) 1 ++ tuck left (b 31) 1 ++ passes_left 1 b 30 20 ++ tuck right (b 11) 1) 0 0 (negsuc 2) ((b 31, 1) ∷ (b 11, 1) ∷ []) ((1, on_right 9 (b 11)) ∷ [])
    ∷ racked (rack 253 ++ bring_in left (b 31) 10 ++ tuck left (b 31) 10 ++ passes_left 10 b 30 21 ++ knit right (b 10) 10) 9 117 (negsuc 2) ((b 10, 0) ∷ []) ((10, on_left 7 (b 31)) ∷ [])
    -- at racking 5, where b.10 has column 15 and b.30 column 35: the same, and from either bed to the other
    ∷ racked (rack 5 ++ on_right_of_10 10 19 ++ split right (b 30) 10 35) 0 0 (pos 5) ((b 30, 1) ∷ (f 35, 0) ∷ []) ((10, on_right 36 (b 30)) ∷ [])
    ∷ racked (rack 5 ++ on_right_of_10 3 20 ++ tuck right (b 31) 3) 9 112 (pos 5) ((b 31, 0) ∷ []) ((3, on_right 36 (b 10)) ∷ [])
    ∷ racked (rack 5 ++ on_left_of_30 1 19 ++ tuck left (b 10) 1) 0 0 (pos 5) ((b 10, 1) ∷ []) ((1, on_left 15 (b 10)) ∷ [])
    ∷ racked (rack 5 ++ on_left_of_30 10 20 ++ knit left (b 9) 10) 9 112 (pos 5) ((b 9, 0) ∷ []) ((10, on_left 15 (b 30)) ∷ [])
    ∷ racked (rack 5 ++ on_left_of_30 3 19 ++ bring_in left (b 10) 1 ++ plated_tuck left (b 10) 3 1) 0 0 (pos 5) ((b 10, 2) ∷ []) ((3, on_left 15 (b 10)) ∷ (1, on_left 15 (b 10)) ∷ [])
    ∷ racked (rack 5 ++ bring_in right (b 10) 1 ++ tuck right (b 10) 1 ++ passes_right 1 f 16 19 ++ tuck right (f 35) 1) 0 0 (pos 5) ((b 10, 1) ∷ (f 35, 1) ∷ []) ((1, on_right 36 (f 35)) ∷ [])
    ∷ racked (rack 5 ++ bring_in right (b 10) 3 ++ tuck right (b 10) 3 ++ passes_right 3 f 16 20 ++ knit right (f 36) 3) 9 112 (pos 5) ((f 36, 0) ∷ []) ((3, on_right 36 (b 10)) ∷ [])
    ∷ racked (rack 5 ++ bring_in right (f 10) 10 ++ tuck right (f 10) 10 ++ passes_right 10 f 11 19 ++ knit right (b 25) 10) 0 0 (pos 5) ((f 10, 1) ∷ (b 25, 1) ∷ []) ((10, on_right 31 (b 25)) ∷ [])
    ∷ racked (rack 5 ++ bring_in right (f 10) 1 ++ tuck right (f 10) 1 ++ passes_right 1 f 11 20 ++ tuck right (b 26) 1) 9 112 (pos 5) ((b 26, 0) ∷ []) ((1, on_right 31 (f 10)) ∷ [])
    ∷ racked (rack 5 ++ bring_in left (b 30) 3 ++ tuck left (b 30) 3 ++ passes_left 3 f 34 19 ++ tuck left (f 15) 3) 0 0 (pos 5) ((b 30, 1) ∷ (f 15, 1) ∷ []) ((3, on_left 15 (f 15)) ∷ [])
    ∷ racked (rack 5 ++ bring_in left (b 30) 1 ++ tuck left (b 30) 1 ++ passes_left 1 f 34 20 ++ knit left (f 14) 1) 9 112 (pos 5) ((f 14, 0) ∷ []) ((1, on_left 15 (b 30)) ∷ [])
    -- 'both columns at the current racking', to the left: rack 1 makes 20 columns 21, rack −1 makes 21 columns 20
    ∷ racked (bring_in left (b 30) 3 ++ knit left (b 30) 3 ++ misses_left 29 19 ++ rack 1 ++ tuck left (f 10) 3) 9 107 (pos 1) ((b 30, 1) ∷ (f 10, 0) ∷ []) ((3, on_left 11 (b 30)) ∷ [])
    ∷ racked (bring_in left (b 30) 3 ++ knit left (b 30) 3 ++ misses_left 29 20 ++ rack 255 ++ tuck left (f 9) 3) 0 0 (negsuc 0) ((b 30, 1) ∷ (f 9, 1) ∷ []) ((3, on_left 9 (f 9)) ∷ [])
    ∷ []

-- long ones: 41 columns, the whole front bed, and from f.0 to b.249 at racking 8
abbrev pub long_floats : List Row
long_floats =
    knitted (in_3 ++ tuck right (f 10) 3 ++ misses_right f 11 40 ++ tuck right (f 51) 3) 9 210 ((f 51, 0) ∷ []) ((3, on_right 51 (f 10)) ∷ [])
    ∷ knitted (bring_in right (f 0) 3 ++ tuck right (f 0) 3 ++ misses_right f 1 248 ++ knit right (f 249) 3) 9 1250 ((f 249, 0) ∷ []) ((3, on_right 249 (f 0)) ∷ [])
    ∷ racked (rack 8 ++ bring_in right (f 0) 3 ++ tuck right (f 0) 3 ++ misses_right f 1 249 ++ misses_right b 242 7 ++ knit right (b 249) 3) 9 1292 (pos 8) ((b 249, 0) ∷ [])
    ((3, on_right 257 (f 0)) ∷ [])
    ∷ []

-- ---- attachments
-- two carriers attached to a needle in column 20, one on its right (at slot 21), one on its left (at slot 20)
abbrev two_on : ℕ → ℕ → Needle → List ℕ
two_on k j n = bring_in right n k ++ tuck right n k ++ bring_in left n j ++ tuck left n j

-- two more, one on the right of a needle in column 21 (at slot 22), one on the left of another needle
abbrev four_on : ℕ → ℕ → ℕ → ℕ → Needle → Needle → Needle → List ℕ
four_on k j i h n m s = two_on k j n ++ bring_in right m i ++ tuck right m i ++ bring_in left s h ++ tuck left s h

-- carriers 1 to 9 attached to a needle in column 20, on its right and left in turn, each by a knit; and where they are then
abbrev nine_on : Needle → List ℕ
nine_on n =
    bring_in right n 1 ++ knit right n 1 ++ bring_in left n 2 ++ knit left n 2 ++ bring_in right n 3 ++ knit right n 3
    ++ bring_in left n 4 ++ knit left n 4 ++ bring_in right n 5 ++ knit right n 5 ++ bring_in left n 6 ++ knit left n 6
    ++ bring_in right n 7 ++ knit right n 7 ++ bring_in left n 8 ++ knit left n 8 ++ bring_in right n 9 ++ knit right n 9

abbrev eight : Needle → List (ℕ × Carrier)
eight n =
    (2, on_left 20 n) ∷ (3, on_right 21 n) ∷ (4, on_left 20 n) ∷ (5, on_right 21 n) ∷ (6, on_left 20 n) ∷ (7, on_right 21 n) ∷ (8, on_left 20 n) ∷ (9, on_right 21 n) ∷ []

abbrev nine : Needle → List (ℕ × Carrier)
nine n = (1, on_right 21 n) ∷ eight n

-- what goes along with a needle's loops, and what stays
abbrev pub attachments : List Row
attachments =
    -- an emptied hook: its attachments are still there, and go
    knitted (in_3 ++ tuck right (f 10) 3 ++ drop (f 10) ++ xfer (f 10) 10) 0 0 ((f 10, 0) ∷ (b 10, 0) ∷ []) ((3, on_right 11 (b 10)) ∷ [])
    ∷ knitted (bring_in right (f 10) 1 ++ tuck right (f 10) 1 ++ drop (f 10) ++ in_3 ++ split right (f 10) 3 10) 0 0 ((f 10, 1) ∷ (b 10, 0) ∷ [])
    ((1, on_right 11 (b 10)) ∷ (3, on_right 11 (f 10)) ∷ [])
    ∷ racked (rack 8 ++ bring_in left (b 12) 10 ++ tuck left (b 12) 10 ++ drop (b 12) ++ xfer (b 12) 20) 0 0 (pos 8) ((b 12, 0) ∷ (f 20, 0) ∷ []) ((10, on_left 20 (f 20)) ∷ [])
    ∷ racked (rack 255 ++ bring_in left (b 21) 10 ++ tuck left (b 21) 10 ++ drop (b 21) ++ bring_in right (b 21) 1 ++ split right (b 21) 1 20) 0 0 (negsuc 0) ((b 21, 1) ∷ (f 20, 0) ∷ [])
    ((1, on_right 21 (b 21)) ∷ (10, on_left 20 (f 20)) ∷ [])
    ∷ knitted (two_on 1 10 (f 20) ++ drop (f 20) ++ xfer (f 20) 20) 0 0 ((f 20, 0) ∷ (b 20, 0) ∷ []) ((1, on_right 21 (b 20)) ∷ (10, on_left 20 (b 20)) ∷ [])
    -- once gone they do not go again, and they come back
    ∷ knitted (in_3 ++ tuck right (f 10) 3 ++ xfer (f 10) 10 ++ xfer (f 10) 10) 0 0 ((f 10, 0) ∷ (b 10, 1) ∷ []) ((3, on_right 11 (b 10)) ∷ [])
    ∷ knitted (in_3 ++ tuck right (f 10) 3 ++ xfer (f 10) 10 ++ xfer (b 10) 10) 0 0 ((f 10, 1) ∷ (b 10, 0) ∷ []) ((3, on_right 11 (f 10)) ∷ [])
    -- a split from the back bed, and one at racking 2: another carrier's, on either side
    ∷ knitted (bring_in right (b 10) 1 ++ tuck right (b 10) 1 ++ bring_in right (b 10) 3 ++ split right (b 10) 3 10) 0 0 ((b 10, 1) ∷ (f 10, 1) ∷ [])
    ((1, on_right 11 (f 10)) ∷ (3, on_right 11 (b 10)) ∷ [])
    ∷ knitted (bring_in left (b 10) 1 ++ tuck left (b 10) 1 ++ bring_in right (b 10) 3 ++ split right (b 10) 3 10) 0 0 ((b 10, 1) ∷ (f 10, 1) ∷ [])
    ((1, on_left 10 (f 10)) ∷ (3, on_right 11 (b 10)) ∷ [])
    ∷ racked (rack 2 ++ bring_in right (f 12) 1 ++ tuck right (f 12) 1 ++ bring_in right (f 12) 3 ++ split right (f 12) 3 10) 0 0 (pos 2) ((f 12, 1) ∷ (b 10, 1) ∷ [])
    ((1, on_right 13 (b 10)) ∷ (3, on_right 13 (f 12)) ∷ [])
    -- its own: from the back bed at racking −1; at the second needle
    ∷ racked (rack 255 ++ bring_in right (b 21) 10 ++ tuck right (b 21) 10 ++ split left (b 21) 10 20) 0 0 (negsuc 0) ((b 21, 1) ∷ (f 20, 1) ∷ []) ((10, on_left 20 (b 21)) ∷ [])
    ∷ knitted (bring_in right (b 10) 3 ++ tuck right (b 10) 3 ++ split left (f 10) 3 10) 0 0 ((f 10, 1) ∷ (b 10, 1) ∷ []) ((3, on_left 10 (f 10)) ∷ [])
    -- an xfer from the back bed, on the left
    ∷ knitted (bring_in left (b 10) 3 ++ tuck left (b 10) 3 ++ xfer (b 10) 10) 0 0 ((f 10, 1) ∷ (b 10, 0) ∷ []) ((3, on_left 10 (f 10)) ∷ [])
    -- onto a needle that has one
    ∷ racked (rack 2 ++ bring_in left (b 18) 3 ++ tuck left (b 18) 3 ++ bring_in right (f 20) 1 ++ tuck right (f 20) 1 ++ xfer (f 20) 18) 0 0 (pos 2) ((f 20, 0) ∷ (b 18, 2) ∷ [])
    ((1, on_right 21 (b 18)) ∷ (3, on_left 20 (b 18)) ∷ [])
    ∷ racked (rack 248 ++ bring_in right (f 20) 10 ++ tuck right (f 20) 10 ++ bring_in left (b 28) 1 ++ tuck left (b 28) 1 ++ xfer (b 28) 20) 0 0 (negsuc 7) ((f 20, 2) ∷ (b 28, 0) ∷ [])
    ((1, on_left 20 (f 20)) ∷ (10, on_right 21 (f 20)) ∷ [])
    -- xfer at rackings −8, −1, 2 and 8, where b.28, b.21, b.18 and b.12 have column 20: two go, one on each side; one at the next needle and one at the needle of the same
    -- number on the other bed stay. From the front
    ∷ racked (rack 248 ++ four_on 1 3 10 4 (f 20) (f 21) (b 20) ++ xfer (f 20) 28) 0 0 (negsuc 7) ((f 20, 0) ∷ (b 28, 2) ∷ (f 21, 1) ∷ (b 20, 1) ∷ [])
    ((1, on_right 21 (b 28)) ∷ (3, on_left 20 (b 28)) ∷ (10, on_right 22 (f 21)) ∷ (4, on_left 12 (b 20)) ∷ [])
    ∷ racked (rack 255 ++ four_on 3 10 1 5 (f 20) (f 21) (b 20) ++ xfer (f 20) 21) 0 0 (negsuc 0) ((f 20, 0) ∷ (b 21, 2) ∷ (f 21, 1) ∷ (b 20, 1) ∷ [])
    ((3, on_right 21 (b 21)) ∷ (10, on_left 20 (b 21)) ∷ (1, on_right 22 (f 21)) ∷ (5, on_left 19 (b 20)) ∷ [])
    ∷ racked (rack 2 ++ four_on 10 1 3 6 (f 20) (f 21) (b 20) ++ xfer (f 20) 18) 0 0 (pos 2) ((f 20, 0) ∷ (b 18, 2) ∷ (f 21, 1) ∷ (b 20, 1) ∷ [])
    ((10, on_right 21 (b 18)) ∷ (1, on_left 20 (b 18)) ∷ (3, on_right 22 (f 21)) ∷ (6, on_left 22 (b 20)) ∷ [])
    ∷ racked (rack 8 ++ four_on 1 10 3 7 (f 20) (f 21) (b 20) ++ xfer (f 20) 12) 0 0 (pos 8) ((f 20, 0) ∷ (b 12, 2) ∷ (f 21, 1) ∷ (b 20, 1) ∷ [])
    ((1, on_right 21 (b 12)) ∷ (10, on_left 20 (b 12)) ∷ (3, on_right 22 (f 21)) ∷ (7, on_left 28 (b 20)) ∷ [])
    -- from the back
    ∷ racked (rack 248 ++ four_on 3 1 10 8 (b 28) (b 29) (f 28) ++ xfer (b 28) 20) 0 0 (negsuc 7) ((b 28, 0) ∷ (f 20, 2) ∷ (b 29, 1) ∷ (f 28, 1) ∷ [])
    ((3, on_right 21 (f 20)) ∷ (1, on_left 20 (f 20)) ∷ (10, on_right 22 (b 29)) ∷ (8, on_left 28 (f 28)) ∷ [])
    ∷ racked (rack 255 ++ four_on 10 3 1 9 (b 21) (b 22) (f 21) ++ xfer (b 21) 20) 0 0 (negsuc 0) ((b 21, 0) ∷ (f 20, 2) ∷ (b 22, 1) ∷ (f 21, 1) ∷ [])
    ((10, on_right 21 (f 20)) ∷ (3, on_left 20 (f 20)) ∷ (1, on_right 22 (b 22)) ∷ (9, on_left 21 (f 21)) ∷ [])
    ∷ racked (rack 2 ++ four_on 1 3 10 2 (b 18) (b 19) (f 18) ++ xfer (b 18) 20) 0 0 (pos 2) ((b 18, 0) ∷ (f 20, 2) ∷ (b 19, 1) ∷ (f 18, 1) ∷ [])
    ((1, on_right 21 (f 20)) ∷ (3, on_left 20 (f 20)) ∷ (10, on_right 22 (b 19)) ∷ (2, on_left 18 (f 18)) ∷ [])
    ∷ racked (rack 8 ++ four_on 3 10 1 4 (b 12) (b 13) (f 12) ++ xfer (b 12) 20) 0 0 (pos 8) ((b 12, 0) ∷ (f 20, 2) ∷ (b 13, 1) ∷ (f 12, 1) ∷ [])
    ((3, on_right 21 (f 20)) ∷ (10, on_left 20 (f 20)) ∷ (1, on_right 22 (b 13)) ∷ (4, on_left 12 (f 12)) ∷ [])
    -- split there, right and left in turn: the same, and its own carrier ends at the first needle. From the front
    ∷ racked (rack 248 ++ four_on 10 3 1 4 (f 20) (f 21) (b 20) ++ bring_in right (f 20) 5 ++ split right (f 20) 5 28) 0 0 (negsuc 7) ((f 20, 1) ∷ (b 28, 2) ∷ (f 21, 1) ∷ (b 20, 1) ∷ [])
    ((10, on_right 21 (b 28)) ∷ (3, on_left 20 (b 28)) ∷ (1, on_right 22 (f 21)) ∷ (4, on_left 12 (b 20)) ∷ (5, on_right 21 (f 20)) ∷ [])
    ∷ racked (rack 255 ++ four_on 1 10 3 6 (f 20) (f 21) (b 20) ++ bring_in left (f 20) 2 ++ split left (f 20) 2 21) 0 0 (negsuc 0) ((f 20, 1) ∷ (b 21, 2) ∷ (f 21, 1) ∷ (b 20, 1) ∷ [])
    ((1, on_right 21 (b 21)) ∷ (10, on_left 20 (b 21)) ∷ (3, on_right 22 (f 21)) ∷ (6, on_left 19 (b 20)) ∷ (2, on_left 20 (f 20)) ∷ [])
    ∷ racked (rack 2 ++ four_on 3 1 10 7 (f 20) (f 21) (b 20) ++ bring_in right (f 20) 8 ++ split right (f 20) 8 18) 0 0 (pos 2) ((f 20, 1) ∷ (b 18, 2) ∷ (f 21, 1) ∷ (b 20, 1) ∷ [])
    ((3, on_right 21 (b 18)) ∷ (1, on_left 20 (b 18)) ∷ (10, on_right 22 (f 21)) ∷ (7, on_left 22 (b 20)) ∷ (8, on_right 21 (f 20)) ∷ [])
    ∷ racked (rack 8 ++ four_on 1 3 9 5 (f 20) (f 21) (b 20) ++ bring_in left (f 20) 10 ++ split left (f 20) 10 12) 0 0 (pos 8) ((f 20, 1) ∷ (b 12, 2) ∷ (f 21, 1) ∷ (b 20, 1) ∷ [])
    ((1, on_right 21 (b 12)) ∷ (3, on_left 20 (b 12)) ∷ (9, on_right 22 (f 21)) ∷ (5, on_left 28 (b 20)) ∷ (10, on_left 20 (f 20)) ∷ [])
    -- from the back
    ∷ racked (rack 248 ++ four_on 10 1 3 2 (b 28) (b 29) (f 28) ++ bring_in left (b 28) 4 ++ split left (b 28) 4 20) 0 0 (negsuc 7) ((b 28, 1) ∷ (f 20, 2) ∷ (b 29, 1) ∷ (f 28, 1) ∷ [])
    ((10, on_right 21 (f 20)) ∷ (1, on_left 20 (f 20)) ∷ (3, on_right 22 (b 29)) ∷ (2, on_left 28 (f 28)) ∷ (4, on_left 20 (b 28)) ∷ [])
    ∷ racked (rack 255 ++ four_on 3 10 8 9 (b 21) (b 22) (f 21) ++ bring_in right (b 21) 1 ++ split right (b 21) 1 20) 0 0 (negsuc 0) ((b 21, 1) ∷ (f 20, 2) ∷ (b 22, 1) ∷ (f 21, 1) ∷ [])
    ((3, on_right 21 (f 20)) ∷ (10, on_left 20 (f 20)) ∷ (8, on_right 22 (b 22)) ∷ (9, on_left 21 (f 21)) ∷ (1, on_right 21 (b 21)) ∷ [])
    ∷ racked (rack 2 ++ four_on 1 10 6 7 (b 18) (b 19) (f 18) ++ bring_in left (b 18) 3 ++ split left (b 18) 3 20) 0 0 (pos 2) ((b 18, 1) ∷ (f 20, 2) ∷ (b 19, 1) ∷ (f 18, 1) ∷ [])
    ((1, on_right 21 (f 20)) ∷ (10, on_left 20 (f 20)) ∷ (6, on_right 22 (b 19)) ∷ (7, on_left 18 (f 18)) ∷ (3, on_left 20 (b 18)) ∷ [])
    ∷ racked (rack 8 ++ four_on 10 3 2 5 (b 12) (b 13) (f 12) ++ bring_in right (b 12) 1 ++ split right (b 12) 1 20) 0 0 (pos 8) ((b 12, 1) ∷ (f 20, 2) ∷ (b 13, 1) ∷ (f 12, 1) ∷ [])
    ((10, on_right 21 (f 20)) ∷ (3, on_left 20 (f 20)) ∷ (2, on_right 22 (b 13)) ∷ (5, on_left 12 (f 12)) ∷ (1, on_right 21 (b 12)) ∷ [])
    -- a miss over the needle it is attached to keeps needle and side, right and left, on either bed; over the opposite needle; past 40 columns; beside two others
    ∷ knitted (in_3 ++ tuck right (f 10) 3 ++ tuck left (f 10) 3 ++ miss right (f 10) 3) 0 0 ((f 10, 2) ∷ []) ((3, on_left 11 (f 10)) ∷ [])
    ∷ knitted (in_3 ++ tuck right (f 10) 3 ++ miss left (f 10) 3) 0 0 ((f 10, 1) ∷ []) ((3, on_right 10 (f 10)) ∷ [])
    ∷ knitted (in_3 ++ tuck right (f 10) 3 ++ tuck left (f 10) 3 ++ miss right (f 10) 3 ++ miss left (f 10) 3) 0 0 ((f 10, 2) ∷ []) ((3, on_left 10 (f 10)) ∷ [])
    ∷ knitted (in_3 ++ tuck right (f 10) 3 ++ miss left (f 10) 3 ++ miss right (f 10) 3) 0 0 ((f 10, 1) ∷ []) ((3, on_right 11 (f 10)) ∷ [])
    ∷ racked (rack 255 ++ bring_in left (b 21) 1 ++ tuck left (b 21) 1 ++ miss right (b 21) 1) 0 0 (negsuc 0) ((b 21, 1) ∷ []) ((1, on_left 21 (b 21)) ∷ [])
    ∷ racked (rack 255 ++ bring_in right (b 21) 10 ++ tuck right (b 21) 10 ++ miss left (b 21) 10) 0 0 (negsuc 0) ((b 21, 1) ∷ []) ((10, on_right 20 (b 21)) ∷ [])
    ∷ knitted (in_3 ++ tuck right (f 10) 3 ++ miss left (b 10) 3) 0 0 ((f 10, 1) ∷ (b 10, 0) ∷ []) ((3, on_right 10 (f 10)) ∷ [])
    ∷ knitted (in_3 ++ tuck right (f 10) 3 ++ misses_right f 11 41) 0 0 ((f 10, 1) ∷ []) ((3, on_right 52 (f 10)) ∷ [])
    ∷ knitted (bring_in left (b 60) 10 ++ tuck left (b 60) 10 ++ passes_left 10 b 59 45) 0 0 ((b 60, 1) ∷ []) ((10, on_left 15 (b 60)) ∷ [])
    ∷ knitted (two_on 1 10 (f 20) ++ bring_in right (f 20) 3 ++ miss right (f 20) 3) 0 0 ((f 20, 2) ∷ []) ((1, on_right 21 (f 20)) ∷ (10, on_left 20 (f 20)) ∷ (3, unattached 21) ∷ [])
    -- a drop of three loops, and then of none, keeps two carriers'
    ∷ knitted (bring_in right (f 10) 1 ++ tuck right (f 10) 1 ++ in_3 ++ tuck right (f 10) 3 ++ tuck left (f 10) 3 ++ drop (f 10)) 0 0 ((f 10, 0) ∷ [])
    ((1, on_right 11 (f 10)) ∷ (3, on_left 10 (f 10)) ∷ [])
    ∷ knitted (bring_in right (f 10) 1 ++ tuck right (f 10) 1 ++ in_3 ++ tuck right (f 10) 3 ++ tuck left (f 10) 3 ++ drop (f 10) ++ drop (f 10)) 0 0 ((f 10, 0) ∷ [])
    ((1, on_right 11 (f 10)) ∷ (3, on_left 10 (f 10)) ∷ [])
    ∷ racked (rack 2 ++ two_on 10 1 (b 18) ++ tuck right (b 18) 1 ++ drop (b 18) ++ drop (b 18)) 0 0 (pos 2) ((b 18, 0) ∷ []) ((10, on_right 21 (b 18)) ∷ (1, on_right 21 (b 18)) ∷ [])
    -- in, out, tuck, knit and rack leave the others'
    ∷ knitted (two_on 3 10 (b 20) ++ bring_in right (b 20) 1) 0 0 ((b 20, 2) ∷ []) ((3, on_right 21 (b 20)) ∷ (10, on_left 20 (b 20)) ∷ (1, unattached 20) ∷ [])
    ∷ knitted (two_on 10 1 (b 20) ++ bring_in left (b 20) 3 ++ knit left (b 20) 3) 0 0 ((b 20, 1) ∷ []) ((10, on_right 21 (b 20)) ∷ (1, on_left 20 (b 20)) ∷ (3, on_left 20 (b 20)) ∷ [])
    ∷ knitted (two_on 1 3 (f 20) ++ bring_in left (f 20) 10 ++ tuck left (f 20) 10 ++ take_out left (f 20) 10) 0 0 ((f 20, 3) ∷ [])
    ((1, on_right 21 (f 20)) ∷ (3, on_left 20 (f 20)) ∷ (10, inactive) ∷ [])
    ∷ knitted (two_on 3 10 (f 20) ++ take_out right (f 20) 3) 0 0 ((f 20, 2) ∷ []) ((3, inactive) ∷ (10, on_left 20 (f 20)) ∷ [])
    ∷ racked (two_on 10 3 (b 20) ++ rack 248) 0 0 (negsuc 7) ((b 20, 2) ∷ []) ((10, on_right 21 (b 20)) ∷ (3, on_left 20 (b 20)) ∷ [])
    -- nine others: in, tuck, knit, out, miss, plated tuck, drop and rack leave them, xfer and split take them all along
    ∷ knitted (nine_on (f 20) ++ bring_in right (f 20) 10) 0 0 ((f 20, 1) ∷ []) ((10, unattached 20) ∷ nine (f 20))
    ∷ knitted (nine_on (f 20) ++ bring_in left (f 20) 10 ++ tuck left (f 20) 10) 0 0 ((f 20, 2) ∷ []) ((10, on_left 20 (f 20)) ∷ nine (f 20))
    ∷ knitted (nine_on (f 20) ++ bring_in right (f 20) 10 ++ knit right (f 20) 10) 0 0 ((f 20, 1) ∷ []) ((10, on_right 21 (f 20)) ∷ nine (f 20))
    ∷ knitted (nine_on (b 20) ++ bring_in right (b 20) 10 ++ tuck right (b 20) 10 ++ take_out right (b 20) 10) 0 0 ((b 20, 2) ∷ []) ((10, inactive) ∷ nine (b 20))
    ∷ knitted (nine_on (b 20) ++ bring_in left (b 20) 10 ++ miss left (b 20) 10) 0 0 ((b 20, 1) ∷ []) ((10, unattached 20) ∷ nine (b 20))
    ∷ knitted (nine_on (f 20) ++ bring_in left (f 20) 10 ++ plated_tuck left (f 20) 10 1) 0 0 ((f 20, 3) ∷ []) ((1, on_left 20 (f 20)) ∷ (10, on_left 20 (f 20)) ∷ eight (f 20))
    ∷ knitted (nine_on (b 20) ++ drop (b 20)) 0 0 ((b 20, 0) ∷ []) ((10, inactive) ∷ nine (b 20))
    ∷ racked (nine_on (f 20) ++ rack 2) 0 0 (pos 2) ((f 20, 1) ∷ []) (nine (f 20))
    ∷ racked (nine_on (b 20) ++ rack 8) 0 0 (pos 8) ((b 20, 1) ∷ []) (nine (b 20))
    ∷ knitted (nine_on (f 20) ++ xfer (f 20) 20) 0 0 ((f 20, 0) ∷ (b 20, 1) ∷ []) ((10, inactive) ∷ nine (b 20))
    ∷ knitted (nine_on (b 20) ++ xfer (b 20) 20) 0 0 ((f 20, 1) ∷ (b 20, 0) ∷ []) ((10, inactive) ∷ nine (f 20))
    ∷ knitted (nine_on (f 20) ++ bring_in right (f 20) 10 ++ split right (f 20) 10 20) 0 0 ((f 20, 1) ∷ (b 20, 1) ∷ []) ((10, on_right 21 (f 20)) ∷ nine (b 20))
    ∷ knitted (nine_on (b 20) ++ bring_in left (b 20) 10 ++ split left (b 20) 10 20) 0 0 ((f 20, 1) ∷ (b 20, 1) ∷ []) ((10, on_left 20 (b 20)) ∷ nine (f 20))
    -- an xfer of the opposite needle and of the next leaves them
    ∷ knitted (nine_on (f 20) ++ xfer (b 20) 20) 0 0 ((f 20, 1) ∷ (b 20, 0) ∷ []) (nine (f 20))
    ∷ knitted (nine_on (b 20) ++ xfer (b 21) 21) 0 0 ((b 20, 1) ∷ []) (nine (b 20))
    -- a back knit to the left leaves another's
    ∷ knitted (bring_in right (b 10) 1 ++ tuck right (b 10) 1 ++ bring_in left (b 10) 3 ++ knit left (b 10) 3) 0 0 ((b 10, 1) ∷ []) ((1, on_right 11 (b 10)) ∷ (3, on_left 10 (b 10)) ∷ [])
    ∷ []

-- each number, and which of two comes first
abbrev refusals : List Row
refusals =
    -- 1, and one byte fewer
    row (replicate 32769 0) 1 0
    ∷ row (replicate 32768 0) 3 0
    -- 3: also behind a record; before 4
    ∷ row (12 ∷ []) 3 0
    ∷ row (12 ∷ 1 ∷ 0 ∷ 10 ∷ 3 ∷ 4 ∷ []) 3 0
    ∷ row (255 ∷ 0 ∷ 0 ∷ 0 ∷ 0 ∷ 0 ∷ []) 3 0
    ∷ knitted (in_3 ++ (0 ∷ [])) 3 5 [] ((3, unattached 10) ∷ [])
    -- 4: each kind without its last byte; before 5
    ∷ row (1 ∷ []) 4 0
    ∷ row (2 ∷ 0 ∷ []) 4 0
    ∷ row (3 ∷ 0 ∷ 10 ∷ []) 4 0
    ∷ row (4 ∷ 1 ∷ 0 ∷ 10 ∷ []) 4 0
    ∷ row (5 ∷ 1 ∷ 0 ∷ 10 ∷ []) 4 0
    ∷ row (6 ∷ 1 ∷ 0 ∷ 10 ∷ []) 4 0
    ∷ row (7 ∷ 1 ∷ 0 ∷ 10 ∷ []) 4 0
    ∷ row (8 ∷ 1 ∷ 0 ∷ 10 ∷ []) 4 0
    ∷ row (9 ∷ 1 ∷ 0 ∷ 10 ∷ 3 ∷ []) 4 0
    ∷ row (9 ∷ []) 4 0
    ∷ row (8 ∷ 2 ∷ 2 ∷ 250 ∷ []) 4 0
    ∷ knitted (in_3 ++ (3 ∷ 2 ∷ 250 ∷ [])) 4 5 [] ((3, unattached 10) ∷ [])
    -- 5: each field; before 6, 7, 8 and 10
    ∷ row (2 ∷ 2 ∷ 10 ∷ []) 5 0
    ∷ row (3 ∷ 2 ∷ 10 ∷ 10 ∷ []) 5 0
    ∷ row (3 ∷ 0 ∷ 250 ∷ 10 ∷ []) 5 0
    ∷ row (3 ∷ 0 ∷ 10 ∷ 250 ∷ []) 5 0
    ∷ row (8 ∷ 2 ∷ 0 ∷ 10 ∷ 3 ∷ []) 5 0
    ∷ row (8 ∷ 1 ∷ 2 ∷ 10 ∷ 3 ∷ []) 5 0
    ∷ row (8 ∷ 1 ∷ 0 ∷ 250 ∷ 3 ∷ []) 5 0
    ∷ row (8 ∷ 1 ∷ 0 ∷ 10 ∷ 0 ∷ []) 5 0
    ∷ row (8 ∷ 1 ∷ 0 ∷ 10 ∷ 11 ∷ []) 5 0
    ∷ row (9 ∷ 1 ∷ 0 ∷ 10 ∷ 3 ∷ 250 ∷ []) 5 0
    ∷ knitted (in_3 ++ bring_in right (f 250) 3) 5 5 [] ((3, unattached 10) ∷ [])
    ∷ knitted (in_3 ++ knit left (f 250) 3) 5 5 [] ((3, unattached 10) ∷ [])
    -- 6
    ∷ knitted (in_3 ++ bring_in right (f 20) 3) 6 5 [] ((3, unattached 10) ∷ [])
    -- 7: any other use; before 10 and 11
    ∷ row (take_out right (f 10) 3) 7 0
    ∷ row (miss right (f 10) 3) 7 0
    ∷ row (tuck right (f 10) 3) 7 0
    ∷ row (knit right (f 10) 3) 7 0
    ∷ row (split right (f 10) 3 10) 7 0
    ∷ row (split right (f 10) 3 11) 7 0
    ∷ knitted (in_3 ++ tucks (f 10) 3 ++ tucks (f 10) 3 ++ tuck right (f 10) 4) 7 45 ((f 10, 8) ∷ []) ((3, on_left 10 (f 10)) ∷ (4, inactive) ∷ [])
    -- 8: out at the entry slot, the rest at the exit slot; before 9, 10 and 11
    ∷ knitted (in_3 ++ take_out right (f 10) 3) 8 5 [] ((3, unattached 10) ∷ [])
    ∷ knitted (in_3 ++ miss left (f 10) 3) 8 5 [] ((3, unattached 10) ∷ [])
    ∷ knitted (in_3 ++ tuck left (f 10) 3) 8 5 ((f 10, 0) ∷ []) ((3, unattached 10) ∷ [])
    ∷ knitted (in_3 ++ split left (f 10) 3 10) 8 5 ((f 10, 0) ∷ []) ((3, unattached 10) ∷ [])
    ∷ knitted (bring_in left (f 10) 3 ++ knit right (f 10) 3) 8 5 ((f 10, 0) ∷ []) ((3, unattached 11) ∷ [])
    ∷ knitted (led_21 ++ tuck right (f 40) 3) 8 110 ((f 40, 0) ∷ []) ((3, on_right 31 (f 10)) ∷ [])
    ∷ knitted (in_3 ++ split left (f 10) 3 11) 8 5 ((f 10, 0) ∷ []) ((3, unattached 10) ∷ [])
    ∷ knitted (in_3 ++ tucks (f 10) 3 ++ tucks (f 10) 3 ++ tuck left (f 10) 3) 8 45 ((f 10, 8) ∷ []) ((3, on_left 10 (f 10)) ∷ [])
    -- 9 before 10 and 11
    ∷ knitted (led_21 ++ split right (f 31) 3 30) 9 110 ((f 31, 0) ∷ []) ((3, on_right 31 (f 10)) ∷ [])
    ∷ knitted (bring_in right (f 31) 4 ++ tucks (f 31) 4 ++ tucks (f 31) 4 ++ led_21 ++ tuck right (f 31) 3) 9 155 ((f 31, 8) ∷ [])
    ((3, on_right 31 (f 10)) ∷ (4, on_left 31 (f 31)) ∷ [])
    -- 10 of a split; before 11
    ∷ knitted (in_3 ++ split right (f 10) 3 11) 10 5 ((f 10, 0) ∷ (b 11, 0) ∷ []) ((3, unattached 10) ∷ [])
    ∷ knitted (in_3 ++ tucks (f 10) 3 ++ tuck right (f 10) 3 ++ tucks (b 11) 3 ++ xfer (f 10) 11) 10 50 ((f 10, 5) ∷ (b 11, 4) ∷ []) ((3, on_left 11 (b 11)) ∷ [])
    -- 11: nine loops in all
    ∷ knitted (in_3 ++ tucks (f 10) 3 ++ tuck right (f 10) 3 ++ left_tucks (b 10) 3 ++ xfer (f 10) 10) 11 50 ((f 10, 5) ∷ (b 10, 4) ∷ []) ((3, on_right 11 (b 10)) ∷ [])
    ∷ knitted (in_3 ++ tucks (f 10) 3 ++ tuck right (f 10) 3 ++ left_tucks (b 10) 3 ++ split left (f 10) 3 10) 11 50 ((f 10, 5) ∷ (b 10, 4) ∷ [])
    ((3, on_right 11 (b 10)) ∷ [])
    ∷ []

-- 5 for each field of direction, bed, needle and carrier, by the kind; a split or a plated stitch has a byte more
abbrev outside : ℕ → List ℕ → List Row
outside kind more =
    row (kind ∷ 2 ∷ 0 ∷ 10 ∷ 3 ∷ more) 5 0
    ∷ row (kind ∷ 1 ∷ 2 ∷ 10 ∷ 3 ∷ more) 5 0
    ∷ row (kind ∷ 1 ∷ 0 ∷ 250 ∷ 3 ∷ more) 5 0
    ∷ row (kind ∷ 1 ∷ 1 ∷ 250 ∷ 3 ∷ more) 5 0
    ∷ row (kind ∷ 1 ∷ 0 ∷ 10 ∷ 0 ∷ more) 5 0
    ∷ row (kind ∷ 1 ∷ 0 ∷ 10 ∷ 11 ∷ more) 5 0
    ∷ []

-- and the last needle of either bed, first or second
abbrev fields : List Row
fields =
    row (drop (b 249)) 0 0
    ∷ row (drop (b 250)) 5 0
    ∷ row (xfer (f 249) 249) 0 0
    ∷ row (xfer (b 249) 249) 0 0
    ∷ row (xfer (b 250) 249) 5 0
    ∷ row (xfer (b 249) 250) 5 0
    ∷ row (split right (b 10) 3 250) 5 0
    ∷ row (split right (f 249) 3 249) 7 0
    ∷ row (split right (b 249) 3 249) 7 0
    ∷ (outside 4 [] ++ outside 5 [] ++ outside 6 [] ++ outside 7 [] ++ outside 8 [] ++ outside 9 (10 ∷ []))

-- ---- plated stitches (02, W1): carriers 3 and 4 parked at slot 10
abbrev both_in : List ℕ
both_in = in_3 ++ bring_in right (f 10) 4

abbrev plated : List Row
plated =
    -- a plated knit leaves 2 loops, over none, over eight and from the back bed; 'both leave at the exit slot, attached'
    knitted (both_in ++ plated_knit right (f 10) 3 4) 0 0 ((f 10, 2) ∷ []) ((3, on_right 11 (f 10)) ∷ (4, on_right 11 (f 10)) ∷ (5, inactive) ∷ [])
    ∷ knitted (both_in ++ tucks (f 10) 3 ++ tucks (f 10) 3 ++ plated_knit right (f 10) 4 3) 0 0 ((f 10, 2) ∷ []) ((3, on_right 11 (f 10)) ∷ (4, on_right 11 (f 10)) ∷ [])
    ∷ knitted (bring_in left (b 10) 3 ++ bring_in left (b 10) 4 ++ plated_knit left (b 10) 3 4) 0 0 ((b 10, 2) ∷ (f 10, 0) ∷ []) ((3, on_left 10 (b 10)) ∷ (4, on_left 10 (b 10)) ∷ [])
    ∷ knitted (bring_in left (f 10) 3 ++ bring_in left (f 10) 4 ++ plated_knit left (f 10) 4 3) 0 0 ((f 10, 2) ∷ []) ((3, on_left 10 (f 10)) ∷ (4, on_left 10 (f 10)) ∷ [])
    -- beside another carrier's attachment, which stays
    ∷ knitted (bring_in right (f 10) 5 ++ tuck right (f 10) 5 ++ both_in ++ plated_knit right (f 10) 3 4) 0 0 ((f 10, 2) ∷ [])
    ((3, on_right 11 (f 10)) ∷ (4, on_right 11 (f 10)) ∷ (5, on_right 11 (f 10)) ∷ [])
    -- a plated tuck adds 2, onto none, one and six; onto seven it gets 11
    ∷ knitted (both_in ++ plated_tuck right (f 10) 3 4) 0 0 ((f 10, 2) ∷ []) ((3, on_right 11 (f 10)) ∷ (4, on_right 11 (f 10)) ∷ [])
    ∷ knitted (bring_in right (f 10) 5 ++ tuck right (f 10) 5 ++ both_in ++ plated_tuck right (f 10) 3 4) 0 0 ((f 10, 3) ∷ [])
    ((3, on_right 11 (f 10)) ∷ (4, on_right 11 (f 10)) ∷ (5, on_right 11 (f 10)) ∷ [])
    ∷ knitted (both_in ++ tucks (f 10) 3 ++ tuck right (f 10) 3 ++ tuck left (f 10) 3 ++ plated_tuck right (f 10) 3 4) 0 0 ((f 10, 8) ∷ [])
    ((3, on_right 11 (f 10)) ∷ (4, on_right 11 (f 10)) ∷ [])
    ∷ knitted (in_3 ++ bring_in left (f 10) 4 ++ tucks (f 10) 3 ++ tuck right (f 10) 3 ++ tuck left (f 10) 3 ++ tuck right (f 10) 3 ++ plated_tuck left (f 10) 3 4) 11 45 ((f 10, 7) ∷ [])
    ((3, on_right 11 (f 10)) ∷ (4, unattached 11) ∷ [])
    -- at racking 2; at the outermost slots; at the last needle with the first and the last carrier; an xfer takes both attachments along
    ∷ racked (rack 2 ++ bring_in right (b 10) 3 ++ bring_in right (b 10) 4 ++ plated_tuck right (b 10) 3 4) 0 0 (pos 2) ((b 10, 2) ∷ []) ((3, on_right 13 (b 10)) ∷ (4, on_right 13 (b 10)) ∷ [])
    ∷ racked (rack 248 ++ bring_in left (b 0) 3 ++ bring_in left (b 0) 10 ++ plated_tuck left (b 0) 10 3) 0 0 (negsuc 7) ((b 0, 2) ∷ [])
    ((3, parked (negsuc 7) 1 (b 0)) ∷ (10, parked (negsuc 7) 1 (b 0)) ∷ [])
    ∷ racked (rack 8 ++ bring_in right (b 249) 3 ++ bring_in right (b 249) 4 ++ plated_knit right (b 249) 3 4) 0 0 (pos 8) ((b 249, 2) ∷ [])
    ((3, on_right 258 (b 249)) ∷ (4, on_right 258 (b 249)) ∷ [])
    ∷ knitted (bring_in right (f 249) 1 ++ bring_in right (f 249) 10 ++ plated_knit right (f 249) 10 1) 0 0 ((f 249, 2) ∷ []) ((1, on_right 250 (f 249)) ∷ (10, on_right 250 (f 249)) ∷ [])
    ∷ knitted (both_in ++ plated_knit right (f 10) 3 4 ++ xfer (f 10) 10) 0 0 ((f 10, 0) ∷ (b 10, 2) ∷ []) ((3, on_right 11 (b 10)) ∷ (4, on_right 11 (b 10)) ∷ [])
    -- 9 by either carrier alone, at 21 columns; at 20 it passes
    ∷ knitted (led_20 ++ bring_in right (f 30) 4 ++ plated_knit right (f 30) 3 4) 0 0 ((f 30, 2) ∷ []) ((3, on_right 31 (f 30)) ∷ (4, on_right 31 (f 30)) ∷ [])
    ∷ knitted (led_20 ++ bring_in right (f 30) 4 ++ plated_tuck right (f 30) 4 3) 0 0 ((f 30, 2) ∷ []) ((3, on_right 31 (f 30)) ∷ (4, on_right 31 (f 30)) ∷ [])
    ∷ knitted (led_21 ++ bring_in right (f 31) 4 ++ plated_knit right (f 31) 3 4) 9 115 ((f 31, 0) ∷ []) ((3, on_right 31 (f 10)) ∷ (4, unattached 31) ∷ [])
    ∷ knitted (led_21 ++ bring_in right (f 31) 4 ++ plated_knit right (f 31) 4 3) 9 115 ((f 31, 0) ∷ []) ((3, on_right 31 (f 10)) ∷ (4, unattached 31) ∷ [])
    ∷ knitted (led_21 ++ bring_in right (f 31) 4 ++ plated_tuck right (f 31) 4 3) 9 115 ((f 31, 0) ∷ []) ((3, on_right 31 (f 10)) ∷ (4, unattached 31) ∷ [])
    -- to the left; each float by itself, 20 columns from one side and 1 from the other
    ∷ knitted (bring_in left (f 30) 3 ++ tuck left (f 30) 3 ++ misses_left 29 19 ++ bring_in left (f 10) 4 ++ plated_tuck left (f 10) 3 4) 0 0 ((f 10, 2) ∷ [])
    ((3, on_left 10 (f 10)) ∷ (4, on_left 10 (f 10)) ∷ [])
    ∷ knitted (bring_in left (f 30) 3 ++ tuck left (f 30) 3 ++ misses_left 29 20 ++ bring_in left (f 9) 4 ++ plated_tuck left (f 9) 3 4) 9 115 ((f 9, 0) ∷ [])
    ((3, on_left 10 (f 30)) ∷ (4, unattached 10) ∷ [])
    ∷ knitted (bring_in left (f 30) 3 ++ tuck left (f 30) 3 ++ misses_left 29 20 ++ bring_in left (f 9) 4 ++ plated_knit left (f 9) 4 3) 9 115 ((f 9, 0) ∷ [])
    ((3, on_left 10 (f 30)) ∷ (4, unattached 10) ∷ [])
    ∷ knitted (led_20 ++ bring_in left (f 31) 4 ++ tuck left (f 31) 4 ++ miss left (f 30) 4 ++ plated_knit right (f 30) 3 4) 0 0 ((f 30, 2) ∷ (f 31, 1) ∷ [])
    ((3, on_right 31 (f 30)) ∷ (4, on_right 31 (f 30)) ∷ [])
    -- 'both columns at the current racking': the attachment on the back bed, the needle worked on it
    ∷ racked (bring_in right (b 10) 3 ++ knit right (b 10) 3 ++ misses_right f 11 19 ++ bring_in right (f 30) 4 ++ rack 255 ++ plated_tuck right (f 30) 3 4) 9 112 (negsuc 0) ((f 30, 0) ∷ [])
    ((3, on_right 30 (b 10)) ∷ (4, unattached 30) ∷ [])
    ∷ racked (bring_in right (b 10) 3 ++ knit right (b 10) 3 ++ misses_right f 11 19 ++ bring_in right (f 30) 4 ++ rack 255 ++ plated_knit right (f 30) 4 3) 9 112 (negsuc 0) ((f 30, 0) ∷ [])
    ((3, on_right 30 (b 10)) ∷ (4, unattached 30) ∷ [])
    ∷ racked (led_21 ++ bring_in right (f 31) 4 ++ rack 1 ++ plated_knit right (b 30) 3 4) 9 117 (pos 1) ((b 30, 0) ∷ []) ((3, on_right 31 (f 10)) ∷ (4, unattached 31) ∷ [])
    ∷ racked (led_21 ++ bring_in right (f 31) 4 ++ rack 1 ++ plated_tuck right (b 30) 4 3) 9 117 (pos 1) ((b 30, 0) ∷ []) ((3, on_right 31 (f 10)) ∷ (4, unattached 31) ∷ [])
    -- 7 by either alone
    ∷ knitted (in_3 ++ plated_knit right (f 10) 3 4) 7 5 ((f 10, 0) ∷ []) ((3, unattached 10) ∷ (4, inactive) ∷ [])
    ∷ knitted (in_3 ++ plated_knit right (f 10) 4 3) 7 5 ((f 10, 0) ∷ []) ((3, unattached 10) ∷ (4, inactive) ∷ [])
    ∷ knitted (in_3 ++ plated_tuck right (f 10) 3 4) 7 5 ((f 10, 0) ∷ []) ((3, unattached 10) ∷ (4, inactive) ∷ [])
    ∷ knitted (in_3 ++ plated_tuck right (f 10) 4 3) 7 5 ((f 10, 0) ∷ []) ((3, unattached 10) ∷ (4, inactive) ∷ [])
    -- 8 by either alone: one column off, and at the exit slot
    ∷ knitted (in_3 ++ bring_in right (f 11) 4 ++ plated_knit right (f 10) 3 4) 8 10 ((f 10, 0) ∷ []) ((3, unattached 10) ∷ (4, unattached 11) ∷ [])
    ∷ knitted (in_3 ++ bring_in right (f 11) 4 ++ plated_knit right (f 10) 4 3) 8 10 ((f 10, 0) ∷ []) ((3, unattached 10) ∷ (4, unattached 11) ∷ [])
    ∷ knitted (in_3 ++ bring_in right (f 11) 4 ++ plated_tuck left (f 10) 4 3) 8 10 ((f 10, 0) ∷ []) ((3, unattached 10) ∷ (4, unattached 11) ∷ [])
    ∷ knitted (in_3 ++ bring_in right (f 11) 4 ++ plated_tuck right (f 10) 4 3) 8 10 ((f 10, 0) ∷ []) ((3, unattached 10) ∷ (4, unattached 11) ∷ [])
    -- by number: 7 before 8 and 9, 8 before 9, whichever carrier it is; 8 and 9 before 11
    ∷ knitted (led_21 ++ plated_knit right (f 31) 3 4) 7 110 ((f 31, 0) ∷ []) ((3, on_right 31 (f 10)) ∷ (4, inactive) ∷ [])
    ∷ knitted (led_21 ++ plated_knit right (f 31) 4 3) 7 110 ((f 31, 0) ∷ []) ((3, on_right 31 (f 10)) ∷ (4, inactive) ∷ [])
    ∷ knitted (led_21 ++ bring_in right (f 40) 4 ++ plated_knit right (f 40) 3 4) 8 115 ((f 40, 0) ∷ []) ((3, on_right 31 (f 10)) ∷ (4, unattached 40) ∷ [])
    ∷ knitted (led_21 ++ bring_in right (f 40) 4 ++ plated_knit right (f 40) 4 3) 8 115 ((f 40, 0) ∷ []) ((3, on_right 31 (f 10)) ∷ (4, unattached 40) ∷ [])
    ∷ knitted (bring_in right (f 20) 3 ++ plated_knit right (f 10) 3 4) 7 5 ((f 10, 0) ∷ []) ((3, unattached 20) ∷ (4, inactive) ∷ [])
    ∷ knitted (bring_in right (f 20) 3 ++ plated_knit right (f 10) 4 3) 7 5 ((f 10, 0) ∷ []) ((3, unattached 20) ∷ (4, inactive) ∷ [])
    ∷ knitted (led_21 ++ bring_in right (f 50) 4 ++ plated_knit right (f 31) 3 4) 8 115 ((f 31, 0) ∷ []) ((3, on_right 31 (f 10)) ∷ (4, unattached 50) ∷ [])
    ∷ knitted (led_21 ++ bring_in right (f 50) 4 ++ plated_knit right (f 31) 4 3) 8 115 ((f 31, 0) ∷ []) ((3, on_right 31 (f 10)) ∷ (4, unattached 50) ∷ [])
    ∷ knitted (in_3 ++ tucks (f 10) 3 ++ tucks (f 10) 3 ++ bring_in right (f 20) 4 ++ plated_tuck right (f 10) 3 4) 8 50 ((f 10, 8) ∷ []) ((3, on_left 10 (f 10)) ∷ (4, unattached 20) ∷ [])
    ∷ knitted (bring_in right (f 31) 5 ++ tucks (f 31) 5 ++ tucks (f 31) 5 ++ led_21 ++ bring_in right (f 31) 4 ++ plated_tuck right (f 31) 3 4) 9 160 ((f 31, 8) ∷ [])
    ((3, on_right 31 (f 10)) ∷ (4, unattached 31) ∷ [])
    -- 16: before 7, 8, 9 and 11, and where nothing else is wrong; at either bed, with any carrier
    ∷ row (plated_knit left (b 249) 10 10) 16 0
    ∷ row (plated_tuck left (b 0) 1 1) 16 0
    ∷ row (plated_knit right (f 10) 3 3) 16 0
    ∷ row (plated_tuck right (f 10) 3 3) 16 0
    ∷ knitted (in_3 ++ plated_knit left (f 10) 3 3) 16 5 ((f 10, 0) ∷ []) ((3, unattached 10) ∷ [])
    ∷ knitted (led_21 ++ plated_knit right (f 31) 3 3) 16 110 ((f 31, 0) ∷ []) ((3, on_right 31 (f 10)) ∷ [])
    ∷ knitted (in_3 ++ tucks (f 10) 3 ++ tucks (f 10) 3 ++ plated_tuck right (f 10) 3 3) 16 45 ((f 10, 8) ∷ []) ((3, on_left 10 (f 10)) ∷ [])
    ∷ knitted (in_3 ++ plated_knit right (f 10) 3 3) 16 5 ((f 10, 0) ∷ []) ((3, unattached 10) ∷ [])
    ∷ []

-- a plated kind cut short at every length, before 5 and 16; 5 for each field, carriers 0 and 11 as the second and as both, before 16
abbrev plated_bytes : ℕ → List Row
plated_bytes kind =
    row (kind ∷ []) 4 0
    ∷ row (kind ∷ 1 ∷ []) 4 0
    ∷ row (kind ∷ 1 ∷ 0 ∷ []) 4 0
    ∷ row (kind ∷ 1 ∷ 0 ∷ 10 ∷ []) 4 0
    ∷ row (kind ∷ 1 ∷ 0 ∷ 10 ∷ 3 ∷ []) 4 0
    ∷ row (kind ∷ 2 ∷ 2 ∷ 250 ∷ 0 ∷ []) 4 0
    ∷ knitted (in_3 ++ (kind ∷ 1 ∷ 0 ∷ 10 ∷ 3 ∷ [])) 4 5 [] ((3, unattached 10) ∷ [])
    ∷ row (kind ∷ 1 ∷ 0 ∷ 10 ∷ 3 ∷ 0 ∷ []) 5 0
    ∷ row (kind ∷ 1 ∷ 0 ∷ 10 ∷ 3 ∷ 11 ∷ []) 5 0
    ∷ row (kind ∷ 1 ∷ 0 ∷ 10 ∷ 0 ∷ 0 ∷ []) 5 0
    ∷ row (kind ∷ 1 ∷ 0 ∷ 10 ∷ 11 ∷ 11 ∷ []) 5 0
    ∷ row (kind ∷ 1 ∷ 0 ∷ 250 ∷ 3 ∷ 3 ∷ []) 5 0
    ∷ knitted (in_3 ++ (kind ∷ 1 ∷ 0 ∷ 10 ∷ 3 ∷ 11 ∷ [])) 5 5 [] ((3, unattached 10) ∷ [])
    ∷ (outside kind (4 ∷ []) ++ outside kind (3 ∷ []))

-- ---- other limits than 8 (02, W2)
-- carriers 3 and 4 parked at slot 10, or attached on the right of f.10
abbrev both_parked : List (ℕ × Carrier)
both_parked = (3, unattached 10) ∷ (4, unattached 10) ∷ []

abbrev both_on : List (ℕ × Carrier)
both_on = (3, on_right 11 (f 10)) ∷ (4, on_right 11 (f 10)) ∷ []

-- a loop by carrier 5 at f.10, and carriers 3 and 4 beside it
abbrev one_and_both : List ℕ
one_and_both = bring_in right (f 10) 5 ++ tuck right (f 10) 5 ++ both_in

-- four loops on f.10 or three, one on b.10, and an xfer from f.10 to b.10
abbrev four_onto_one : List ℕ
four_onto_one = in_3 ++ tucks (f 10) 3 ++ bring_in right (b 10) 4 ++ knit right (b 10) 4 ++ xfer (f 10) 10

abbrev three_onto_one : List ℕ
three_onto_one = in_3 ++ tuck right (f 10) 3 ++ tuck left (f 10) 3 ++ tuck right (f 10) 3 ++ bring_in right (b 10) 4 ++ knit right (b 10) 4 ++ xfer (f 10) 10

-- a loop on f.10 and one on b.11, which are not opposite
abbrev apart : List ℕ
apart = in_3 ++ bring_in right (b 11) 4 ++ knit right (f 10) 3 ++ knit right (b 11) 4

-- carriers 3 and 4 parked at slot 11, right of b.10
abbrev both_left : List ℕ
both_left = bring_in left (b 10) 3 ++ bring_in left (b 10) 4

abbrev limits : List Row
limits =
    -- 'so a plated knit at limit 1 gets 11', whatever the hook holds; at 2 it is done, over two loops too; 16, 7, 8 and 9 come first
    given 1 (knitted (both_in ++ plated_knit right (f 10) 3 4) 11 10 ((f 10, 0) ∷ []) both_parked)
    ∷ given 1 (knitted (one_and_both ++ plated_knit right (f 10) 3 4) 11 20 ((f 10, 1) ∷ []) both_parked)
    ∷ given 2 (knitted (both_in ++ plated_knit right (f 10) 3 4) 0 0 ((f 10, 2) ∷ []) both_on)
    ∷ given 2 (knitted (both_in ++ tuck right (f 10) 3 ++ tuck left (f 10) 3 ++ plated_knit right (f 10) 3 4) 0 0 ((f 10, 2) ∷ []) both_on)
    ∷ given 1 (row (plated_knit right (f 10) 3 3) 16 0)
    ∷ given 1 (knitted (in_3 ++ plated_knit right (f 10) 3 4) 7 5 ((f 10, 0) ∷ []) ((3, unattached 10) ∷ (4, inactive) ∷ []))
    ∷ given 1 (knitted (in_3 ++ bring_in right (f 11) 4 ++ plated_knit right (f 10) 3 4) 8 10 ((f 10, 0) ∷ []) ((3, unattached 10) ∷ (4, unattached 11) ∷ []))
    ∷ given 1 (knitted (led_21 ++ bring_in right (f 31) 4 ++ plated_knit right (f 31) 4 3) 9 115 ((f 31, 0) ∷ []) ((3, on_right 31 (f 10)) ∷ (4, unattached 31) ∷ []))
    -- a tuck at limits 1 and 2, and the last tuck that fits at the others; 7 to 9 come first
    ∷ given 1 (knitted (in_3 ++ tuck right (f 10) 3) 0 0 ((f 10, 1) ∷ []) ((3, on_right 11 (f 10)) ∷ []))
    ∷ given 1 (knitted (in_3 ++ tuck right (f 10) 3 ++ tuck left (f 10) 3) 11 10 ((f 10, 1) ∷ []) ((3, on_right 11 (f 10)) ∷ []))
    ∷ given 2 (knitted (in_3 ++ tuck right (f 10) 3 ++ tuck left (f 10) 3) 0 0 ((f 10, 2) ∷ []) ((3, on_left 10 (f 10)) ∷ []))
    ∷ given 2 (knitted (in_3 ++ tucks (f 10) 3) 11 15 ((f 10, 2) ∷ []) ((3, on_left 10 (f 10)) ∷ []))
    ∷ given 3 (knitted (in_3 ++ tucks (f 10) 3) 11 20 ((f 10, 3) ∷ []) ((3, on_right 11 (f 10)) ∷ []))
    ∷ given 4 (knitted (in_3 ++ tucks (f 10) 3) 0 0 ((f 10, 4) ∷ []) ((3, on_left 10 (f 10)) ∷ []))
    ∷ given 4 (knitted (in_3 ++ tucks (f 10) 3 ++ tucks (f 10) 3) 11 25 ((f 10, 4) ∷ []) ((3, on_left 10 (f 10)) ∷ []))
    ∷ given 5 (knitted (in_3 ++ tucks (f 10) 3 ++ tucks (f 10) 3) 11 30 ((f 10, 5) ∷ []) ((3, on_right 11 (f 10)) ∷ []))
    ∷ given 6 (knitted (in_3 ++ tucks (f 10) 3 ++ tucks (f 10) 3) 11 35 ((f 10, 6) ∷ []) ((3, on_left 10 (f 10)) ∷ []))
    ∷ given 7 (knitted (in_3 ++ tucks (f 10) 3 ++ tucks (f 10) 3) 11 40 ((f 10, 7) ∷ []) ((3, on_right 11 (f 10)) ∷ []))
    ∷ given 1 (knitted (in_3 ++ tuck right (f 10) 3 ++ tuck right (f 10) 3) 8 10 ((f 10, 1) ∷ []) ((3, on_right 11 (f 10)) ∷ []))
    ∷ given 1 (knitted (in_3 ++ tuck right (f 10) 3 ++ tuck left (f 10) 4) 7 10 ((f 10, 1) ∷ []) ((3, on_right 11 (f 10)) ∷ (4, inactive) ∷ []))
    ∷ given 1 (knitted (bring_in right (f 31) 4 ++ knit right (f 31) 4 ++ led_21 ++ tuck right (f 31) 3) 9 120 ((f 31, 1) ∷ []) ((3, on_right 31 (f 10)) ∷ []))
    -- a plated tuck at limits 1 to 3; 16, 7, 8 and 9 come first
    ∷ given 1 (knitted (both_in ++ plated_tuck right (f 10) 3 4) 11 10 ((f 10, 0) ∷ []) both_parked)
    ∷ given 2 (knitted (both_in ++ plated_tuck right (f 10) 3 4) 0 0 ((f 10, 2) ∷ []) both_on)
    ∷ given 2 (knitted (one_and_both ++ plated_tuck right (f 10) 3 4) 11 20 ((f 10, 1) ∷ []) both_parked)
    ∷ given 3 (knitted (one_and_both ++ plated_tuck right (f 10) 3 4) 0 0 ((f 10, 3) ∷ []) both_on)
    ∷ given 1 (row (plated_tuck right (f 10) 3 3) 16 0)
    ∷ given 1 (knitted (in_3 ++ plated_tuck right (f 10) 3 4) 7 5 ((f 10, 0) ∷ []) ((3, unattached 10) ∷ (4, inactive) ∷ []))
    ∷ given 1 (knitted (in_3 ++ bring_in right (f 11) 4 ++ plated_tuck right (f 10) 3 4) 8 10 ((f 10, 0) ∷ []) ((3, unattached 10) ∷ (4, unattached 11) ∷ []))
    ∷ given 1 (knitted (led_21 ++ bring_in right (f 31) 4 ++ plated_tuck right (f 31) 4 3) 9 115 ((f 31, 0) ∷ []) ((3, on_right 31 (f 10)) ∷ (4, unattached 31) ∷ []))
    -- one loop always fits: a knit over a loop, a split of none, a split of one onto none; of one onto one it is the second hook that is full
    ∷ given 1 (knitted (in_3 ++ knit right (f 10) 3 ++ knit left (f 10) 3) 0 0 ((f 10, 1) ∷ []) ((3, on_left 10 (f 10)) ∷ []))
    ∷ given 1 (knitted (in_3 ++ split right (f 10) 3 10) 0 0 ((f 10, 1) ∷ (b 10, 0) ∷ []) ((3, on_right 11 (f 10)) ∷ []))
    ∷ given 1 (knitted (in_3 ++ knit right (f 10) 3 ++ split left (f 10) 3 10) 0 0 ((f 10, 1) ∷ (b 10, 1) ∷ []) ((3, on_left 10 (f 10)) ∷ []))
    ∷ given 1 (knitted (in_3 ++ knit right (f 10) 3 ++ split left (f 10) 3 10 ++ split right (f 10) 3 10) 11 16 ((f 10, 1) ∷ (b 10, 1) ∷ []) ((3, on_left 10 (f 10)) ∷ []))
    ∷ given 2 (knitted (in_3 ++ knit right (f 10) 3 ++ split left (f 10) 3 10 ++ split right (f 10) 3 10) 0 0 ((f 10, 1) ∷ (b 10, 2) ∷ []) ((3, on_right 11 (f 10)) ∷ []))
    -- an xfer of one onto none and onto one, of four and three onto one; 10 comes first, of a split too
    ∷ given 1 (knitted (in_3 ++ knit right (f 10) 3 ++ xfer (f 10) 10) 0 0 ((f 10, 0) ∷ (b 10, 1) ∷ []) ((3, on_right 11 (b 10)) ∷ []))
    ∷ given 1 (knitted (P ++ xfer (f 10) 10) 11 20 ((f 10, 1) ∷ (b 10, 1) ∷ []) ((3, on_right 11 (f 10)) ∷ (4, on_right 11 (b 10)) ∷ []))
    ∷ given 2 (knitted (P ++ xfer (f 10) 10) 0 0 ((f 10, 0) ∷ (b 10, 2) ∷ []) ((3, on_right 11 (b 10)) ∷ (4, on_right 11 (b 10)) ∷ []))
    ∷ given 4 (knitted four_onto_one 11 35 ((f 10, 4) ∷ (b 10, 1) ∷ []) ((3, on_left 10 (f 10)) ∷ (4, on_right 11 (b 10)) ∷ []))
    ∷ given 4 (knitted three_onto_one 0 0 ((f 10, 0) ∷ (b 10, 4) ∷ []) ((3, on_right 11 (b 10)) ∷ (4, on_right 11 (b 10)) ∷ []))
    ∷ given 5 (knitted four_onto_one 0 0 ((f 10, 0) ∷ (b 10, 5) ∷ []) ((3, on_left 10 (b 10)) ∷ (4, on_right 11 (b 10)) ∷ []))
    ∷ given 1 (knitted (apart ++ xfer (f 10) 11) 10 20 ((f 10, 1) ∷ (b 11, 1) ∷ []) ((3, on_right 11 (f 10)) ∷ (4, on_right 12 (b 11)) ∷ []))
    ∷ given 1 (knitted (apart ++ split left (f 10) 3 11) 10 20 ((f 10, 1) ∷ (b 11, 1) ∷ []) ((3, on_right 11 (f 10)) ∷ (4, on_right 12 (b 11)) ∷ []))
    -- of none onto a full hook: nothing is put there
    ∷ given 1 (knitted (bring_in right (b 10) 3 ++ knit right (b 10) 3 ++ xfer (f 10) 10) 0 0 ((f 10, 0) ∷ (b 10, 1) ∷ []) ((3, on_right 11 (b 10)) ∷ []))
    ∷ given 1 (knitted (bring_in right (b 10) 4 ++ knit right (b 10) 4 ++ in_3 ++ split right (f 10) 3 10) 0 0 ((f 10, 1) ∷ (b 10, 1) ∷ [])
    ((3, on_right 11 (f 10)) ∷ (4, on_right 11 (b 10)) ∷ []))
    ∷ knitted (bring_in right (b 10) 3 ++ tucks (b 10) 3 ++ tucks (b 10) 3 ++ xfer (f 10) 10) 0 0 ((f 10, 0) ∷ (b 10, 8) ∷ []) ((3, on_left 10 (b 10)) ∷ [])
    -- a split onto a full hook: 7, 8 and 9 come first
    ∷ given 1 (knitted (P ++ split left (f 10) 5 10) 7 20 ((f 10, 1) ∷ (b 10, 1) ∷ []) ((5, inactive) ∷ []))
    ∷ given 1 (knitted (P ++ split right (f 10) 3 10) 8 20 ((f 10, 1) ∷ (b 10, 1) ∷ []) ((3, on_right 11 (f 10)) ∷ []))
    ∷ given 1 (knitted (bring_in right (f 31) 4 ++ knit right (f 31) 4 ++ bring_in right (b 31) 5 ++ knit right (b 31) 5 ++ led_21 ++ split right (f 31) 3 31) 9 130
    ((f 31, 1) ∷ (b 31, 1) ∷ []) ((3, on_right 31 (f 10)) ∷ []))
    -- on the back bed, and to the left
    ∷ given 2 (knitted (bring_in right (b 10) 3 ++ tucks (b 10) 3) 11 15 ((b 10, 2) ∷ []) ((3, on_left 10 (b 10)) ∷ []))
    ∷ given 1 (knitted (both_left ++ plated_knit left (b 10) 4 3) 11 10 ((b 10, 0) ∷ []) ((3, unattached 11) ∷ (4, unattached 11) ∷ []))
    ∷ given 2 (knitted (both_left ++ plated_knit left (b 10) 4 3) 0 0 ((b 10, 2) ∷ []) ((3, on_left 10 (b 10)) ∷ (4, on_left 10 (b 10)) ∷ []))
    ∷ given 1 (knitted (both_left ++ plated_tuck left (b 10) 4 3) 11 10 ((b 10, 0) ∷ []) ((3, unattached 11) ∷ (4, unattached 11) ∷ []))
    ∷ given 2 (knitted (both_left ++ plated_tuck left (b 10) 4 3) 0 0 ((b 10, 2) ∷ []) ((3, on_left 10 (b 10)) ∷ (4, on_left 10 (b 10)) ∷ []))
    ∷ given 1 (knitted (bring_in right (b 10) 3 ++ knit right (b 10) 3 ++ knit left (b 10) 3) 0 0 ((b 10, 1) ∷ []) ((3, on_left 10 (b 10)) ∷ []))
    ∷ given 1 (knitted (P ++ xfer (b 10) 10) 11 20 ((f 10, 1) ∷ (b 10, 1) ∷ []) ((3, on_right 11 (f 10)) ∷ (4, on_right 11 (b 10)) ∷ []))
    ∷ given 2 (knitted (P ++ xfer (b 10) 10) 0 0 ((f 10, 2) ∷ (b 10, 0) ∷ []) ((3, on_right 11 (f 10)) ∷ (4, on_right 11 (f 10)) ∷ []))
    ∷ given 1 (knitted (P ++ split left (b 10) 4 10) 11 20 ((f 10, 1) ∷ (b 10, 1) ∷ []) ((3, on_right 11 (f 10)) ∷ (4, on_right 11 (b 10)) ∷ []))
    ∷ given 2 (knitted (P ++ split left (b 10) 4 10) 0 0 ((f 10, 2) ∷ (b 10, 1) ∷ []) ((3, on_right 11 (f 10)) ∷ (4, on_left 10 (b 10)) ∷ []))
    -- a full hook of two: knitted over, moved, split
    ∷ given 2 (knitted (in_3 ++ tuck right (f 10) 3 ++ tuck left (f 10) 3 ++ knit right (f 10) 3) 0 0 ((f 10, 1) ∷ []) ((3, on_right 11 (f 10)) ∷ []))
    ∷ given 2 (knitted (in_3 ++ tuck right (f 10) 3 ++ tuck left (f 10) 3 ++ xfer (f 10) 10) 0 0 ((f 10, 0) ∷ (b 10, 2) ∷ []) ((3, on_left 10 (b 10)) ∷ []))
    ∷ given 2 (knitted (in_3 ++ tuck right (f 10) 3 ++ tuck left (f 10) 3 ++ split right (f 10) 3 10) 0 0 ((f 10, 1) ∷ (b 10, 2) ∷ []) ((3, on_right 11 (f 10)) ∷ []))
    -- a split of four onto one
    ∷ given 4 (knitted (in_3 ++ tucks (f 10) 3 ++ bring_in right (b 10) 4 ++ knit right (b 10) 4 ++ split right (f 10) 3 10) 11 35 ((f 10, 4) ∷ (b 10, 1) ∷ []) ((3, on_left 10 (f 10)) ∷ []))
    ∷ given 5 (knitted (in_3 ++ tucks (f 10) 3 ++ bring_in right (b 10) 4 ++ knit right (b 10) 4 ++ split right (f 10) 3 10) 0 0 ((f 10, 1) ∷ (b 10, 5) ∷ []) ((3, on_right 11 (f 10)) ∷ []))
    -- a full hook is passed by, left and emptied; racks and all keep the limit, and complete is asked at it
    ∷ given 1 (knitted (in_3 ++ knit right (f 10) 3 ++ miss left (f 10) 3) 0 0 ((f 10, 1) ∷ []) ((3, on_right 10 (f 10)) ∷ []))
    ∷ given 1 (row (rack 2 ++ in_3 ++ knit right (f 10) 3 ++ take_out right (f 10) 3 ++ drop (f 10) ++ rack 0) 0 0)
    -- the empty state has the limit given, and complete compares against that: done, 3, 4, 5 and 1
    ∷ given 1 (row [] 0 0)
    ∷ given 7 (row [] 0 0)
    ∷ given 3 (row (in_3 ++ take_out left (f 10) 3) 0 0)
    ∷ given 1 (row (0 ∷ []) 3 0)
    ∷ given 2 (row (8 ∷ 1 ∷ []) 4 0)
    ∷ given 4 (row (1 ∷ 9 ∷ []) 5 0)
    ∷ given 1 (row (replicate 32769 0) 1 0)
    -- 15: limits 0, 9 and 255; before 1 and every number of a record
    ∷ bad 0 []
    ∷ bad 9 []
    ∷ bad 255 []
    ∷ bad 0 (replicate 32769 0)
    ∷ bad 9 (replicate 32769 0)
    ∷ bad 0 (0 ∷ [])
    ∷ bad 0 (8 ∷ 1 ∷ [])
    ∷ bad 9 (1 ∷ 9 ∷ [])
    ∷ bad 9 (plated_knit right (f 10) 3 3)
    ∷ bad 0 (in_3 ++ in_3)
    ∷ bad 9 (knit right (f 10) 3)
    ∷ bad 0 (in_3 ++ knit left (f 10) 3)
    ∷ bad 9 (led_21 ++ tuck right (f 31) 3)
    ∷ bad 0 (P ++ xfer (f 10) 11)
    ∷ bad 0 (in_3 ++ tuck right (f 10) 3)
    ∷ bad 9 P
    ∷ []

-- ---- 02, W5: a rack that stretches a yarn
-- carrier 3 attached on the right of b.10 (slot 11 at racking 0) and led right by so many slots; on the left of b.40 (slot 40) and led left
abbrev led_right : ℕ → List ℕ
led_right n = bring_in right (b 10) 3 ++ tuck right (b 10) 3 ++ misses_right f 11 n

abbrev led_left : ℕ → List ℕ
led_left n = bring_in left (b 40) 3 ++ tuck left (b 40) 3 ++ misses_left 39 n

-- the same at racking 8, where b.10 has column 18
abbrev pub led_at_8 : ℕ → List ℕ
led_at_8 n = rack 8 ++ bring_in right (b 10) 3 ++ tuck right (b 10) 3 ++ misses_right f 19 n

abbrev carried_off_rows : List Row
carried_off_rows =
    -- carried off to 20, and to 21, at once and by a second rack; to the current value, nearer
    racked (led_right 19 ++ rack 255) 0 0 (negsuc 0) ((b 10, 1) ∷ []) ((3, on_right 30 (b 10)) ∷ [])
    ∷ knitted (led_right 19 ++ rack 254) 17 105 ((b 10, 1) ∷ []) ((3, on_right 30 (b 10)) ∷ [])
    ∷ racked (led_right 19 ++ rack 255 ++ rack 254) 17 107 (negsuc 0) ((b 10, 1) ∷ []) ((3, on_right 30 (b 10)) ∷ [])
    ∷ racked (led_right 19 ++ rack 255 ++ rack 255 ++ rack 0 ++ rack 8) 0 0 (pos 8) [] ((3, on_right 30 (b 10)) ∷ [])
    ∷ knitted (led_right 20 ++ rack 255) 17 110 ((b 10, 1) ∷ []) ((3, on_right 31 (b 10)) ∷ [])
    ∷ knitted (led_right 20 ++ rack 0) 0 0 [] ((3, on_right 31 (b 10)) ∷ [])
    -- misses led it on to 30: it comes nearer and stays, and then is not carried back
    ∷ racked (led_right 30 ++ rack 1 ++ rack 1) 0 0 (pos 1) [] ((3, on_right 41 (b 10)) ∷ [])
    ∷ racked (led_right 30 ++ rack 1 ++ rack 0) 17 162 (pos 1) [] ((3, on_right 41 (b 10)) ∷ [])
    ∷ racked (led_right 30 ++ rack 8) 0 0 (pos 8) [] ((3, on_right 41 (b 10)) ∷ [])
    -- on the left, carried off to the right
    ∷ racked (led_left 19 ++ rack 1) 0 0 (pos 1) ((b 40, 1) ∷ []) ((3, on_left 21 (b 40)) ∷ [])
    ∷ knitted (led_left 20 ++ rack 1) 17 110 ((b 40, 1) ∷ []) ((3, on_left 20 (b 40)) ∷ [])
    ∷ racked (led_left 20 ++ rack 255) 0 0 (negsuc 0) [] ((3, on_left 20 (b 40)) ∷ [])
    -- from racking 8 to −8: 4 to 20, 5 to 21
    ∷ racked (led_at_8 4 ++ rack 248) 0 0 (negsuc 7) [] ((3, on_right 23 (b 10)) ∷ [])
    ∷ racked (led_at_8 5 ++ rack 248) 17 37 (pos 8) [] ((3, on_right 24 (b 10)) ∷ [])
    ∷ racked (led_at_8 5 ++ rack 249) 0 0 (negsuc 6) [] ((3, on_right 24 (b 10)) ∷ [])
    -- in front it stays; xfer takes an attachment to the back bed, and from there
    ∷ racked (in_3 ++ tuck right (f 10) 3 ++ misses_right f 11 30 ++ rack 248 ++ rack 8) 0 0 (pos 8) [] ((3, on_right 41 (f 10)) ∷ [])
    ∷ knitted (led_21 ++ xfer (f 10) 10 ++ rack 255) 17 114 ((f 10, 0) ∷ (b 10, 1) ∷ []) ((3, on_right 31 (b 10)) ∷ [])
    ∷ racked (led_right 20 ++ xfer (b 10) 10 ++ rack 255) 0 0 (negsuc 0) ((f 10, 1) ∷ (b 10, 0) ∷ []) ((3, on_right 31 (f 10)) ∷ [])
    -- an unattached carrier, and one that went out
    ∷ racked (bring_in right (b 10) 3 ++ misses_right f 10 30 ++ rack 248) 0 0 (negsuc 7) [] ((3, unattached 40) ∷ [])
    ∷ racked (led_right 20 ++ take_out right (f 30) 3 ++ rack 255) 0 0 (negsuc 0) ((b 10, 1) ∷ []) ((3, inactive) ∷ [])
    -- two carriers, one by one and plated: only the one that is led on is stretched
    ∷ knitted (bring_in right (b 10) 4 ++ tuck right (b 10) 4 ++ led_right 20 ++ rack 255) 17 120 ((b 10, 2) ∷ []) ((3, on_right 31 (b 10)) ∷ (4, on_right 11 (b 10)) ∷ [])
    ∷ knitted (bring_in right (b 10) 2 ++ bring_in right (b 10) 3 ++ plated_tuck right (b 10) 3 2 ++ misses_right f 11 20 ++ rack 255) 17 116 ((b 10, 2) ∷ []) ((2, on_right 11 (b 10)) ∷ (3, on_right 31 (b 10)) ∷ [])
    -- at limit 1 as at 8; 4 and 5 come first
    ∷ given 1 (knitted (led_right 20 ++ rack 255) 17 110 ((b 10, 1) ∷ []) ((3, on_right 31 (b 10)) ∷ []))
    ∷ knitted (led_right 20 ++ rack 247) 5 110 [] ((3, on_right 31 (b 10)) ∷ [])
    ∷ knitted (led_right 20 ++ (1 ∷ [])) 4 110 [] ((3, on_right 31 (b 10)) ∷ [])
    ∷ []

-- the rows besides floats and attachments, and all of them
abbrev pub the_rest : List Row
the_rest = pieces ++ steps ++ refusals ++ fields ++ plated ++ plated_bytes 10 ++ plated_bytes 11 ++ limits ++ carried_off_rows

abbrev pub rows : List Row
rows = floats ++ long_floats ++ attachments ++ the_rest

-- ---- the rewriter: limit, program, log, the lengths of output and work area; its answer, the program at the front of the output and the starts at the front of the work area
pub record Swap : Type 0 where
  pub limit : ℕ
  pub program : List ℕ
  pub log : List ℕ
  pub output : ℕ
  pub work : ℕ
  pub answer : Expected
  pub wrote : List ℕ
  pub starts : List ℕ

abbrev pub lending : List ℕ → List ℕ → ℕ → ℕ → Expected → List ℕ → List ℕ → Swap
lending p log output work a q v = record { limit = 8; program = p; log = log; output = output; work = work; answer = a; wrote = q; starts = v }

-- with room to spare
abbrev pub swap : List ℕ → List ℕ → Expected → List ℕ → List ℕ → Swap
swap p log a q v = lending p log (length p + 2) (length p + 2) a q v

-- refused in the empty state, nothing written
abbrev pub unmade : List ℕ → List ℕ → ℕ → ℕ → ℕ → Swap
unmade p log output work n = lending p log output work (empty n 0) [] []

-- at another limit, which the state has too; at a bad one
abbrev pub swap_given : ℕ → Swap → Swap
swap_given limit r =
    record { limit = limit; program = r.program; log = r.log; output = r.output; work = r.work; answer = having limit r.answer; wrote = r.wrote; starts = r.starts }

abbrev pub swap_bad : ℕ → List ℕ → List ℕ → ℕ → ℕ → Swap
swap_bad limit p log output work =
    record { limit = limit; program = p; log = log; output = output; work = work; answer = empty 15 0; wrote = []; starts = [] }

-- a log record, below position 256
abbrev at : ℕ → List ℕ
at i = 64 ∷ 0 ∷ i ∷ []

-- P after its log, as 01 lists it, and its final state
abbrev swapped_p : List ℕ
swapped_p = 4 ∷ 1 ∷ 0 ∷ 10 ∷ 3 ∷ 4 ∷ 1 ∷ 1 ∷ 10 ∷ 4 ∷ 8 ∷ 1 ∷ 1 ∷ 10 ∷ 4 ∷ 8 ∷ 1 ∷ 0 ∷ 10 ∷ 3 ∷ []

abbrev of_p : ℕ → ℕ → Expected
of_p n place = expected n place false (pos 0) ((f 10, 1) ∷ (b 10, 1) ∷ []) ((3, on_right 11 (f 10)) ∷ (4, on_right 11 (b 10)) ∷ (5, inactive) ∷ [])

abbrev fives : List ℕ
fives = 0 ∷ 5 ∷ 10 ∷ 15 ∷ []

-- P with carrier 5 for 3
abbrev P_5 : List ℕ
P_5 = bring_in right (f 10) 5 ++ bring_in right (b 10) 4 ++ knit right (f 10) 5 ++ knit right (b 10) 4

-- piece 10's pair with carrier 1 brought in before it, and its final state
abbrev in_1 : List ℕ
in_1 = bring_in right (f 10) 1

abbrev tuck_1 : List ℕ
tuck_1 = tuck right (f 10) 1

abbrev tucked : ℕ → Needle → Expected
tucked n at-needle = expected n 0 false (pos 0) ((at-needle, 1) ∷ []) ((1, on_right 11 at-needle) ∷ [])

-- 256 racks to 0
abbrev racks : ℕ → List ℕ
racks zero = []
racks (suc n) = rack 0 ++ racks n

abbrev evens : ℕ → ℕ → List ℕ
evens place zero = []
evens place (suc n) = place ∷ evens (place + 2) n

-- carriers 1 to 4 parked at slot 10; two stitches of theirs at f.10 and at b.10
abbrev four_in : List ℕ
four_in = in_1 ++ bring_in right (f 10) 2 ++ bring_in right (f 10) 3 ++ bring_in right (f 10) 4

abbrev two_sheets : ℕ → Expected
two_sheets n = expected n 0 false (pos 0) ((f 10, 2) ∷ (b 10, 2) ∷ []) ((1, on_right 11 (f 10)) ∷ (4, on_right 11 (b 10)) ∷ [])

abbrev six_starts : List ℕ
six_starts = 0 ∷ 5 ∷ 10 ∷ 15 ∷ 20 ∷ 26 ∷ []

abbrev pub swaps : List Swap
swaps =
    -- 1: an empty log: the output equals the program
    swap [] [] (empty 0 0) [] []
    ∷ swap P [] (of_p 0 0) P fives
    -- 8: the two knits change places; with carrier 5 for 3 they are tied
    ∷ swap P (at 2) (of_p 0 0) swapped_p fives
    ∷ swap P_5 (at 2) (expected 13 0 false (pos 0) ((f 10, 1) ∷ (b 10, 1) ∷ []) ((4, on_right 11 (b 10)) ∷ (5, on_right 11 (f 10)) ∷ [])) P_5 fives
    -- 9: extents apart, but one carrier
    ∷ swap in_out_in (at 1) (expected 13 0 false (pos 0) [] ((3, unattached 50) ∷ [])) in_out_in (0 ∷ 5 ∷ 10 ∷ [])
    -- 10: the starts follow the lengths; tied in one column
    ∷ swap (in_1 ++ tuck_1 ++ xfer (f 11) 11) (at 1) (tucked 0 (f 10)) (in_1 ++ xfer (f 11) 11 ++ tuck_1) (0 ∷ 5 ∷ 9 ∷ [])
    ∷ swap (in_1 ++ tuck_1 ++ xfer (f 10) 10) (at 1) (tucked 13 (b 10)) (in_1 ++ tuck_1 ++ xfer (f 10) 10) (0 ∷ 5 ∷ 10 ∷ [])
    -- 11: no pair; a torn log after a swap that was made
    ∷ swap P (at 3) (of_p 12 0) P fives
    ∷ swap P (at 2 ++ (64 ∷ [])) (of_p 14 3) swapped_p fives
    -- two swaps; one and back; one record past two
    ∷ swap P (at 2 ++ at 0) (of_p 0 0) (bring_in right (b 10) 4 ++ bring_in right (f 10) 3 ++ knit right (b 10) 4 ++ knit right (f 10) 3) fives
    ∷ swap P (at 2 ++ at 2) (of_p 0 0) P fives
    ∷ swap (in_1 ++ tuck_1 ++ xfer (f 11) 11 ++ drop (f 20)) (at 1 ++ at 2) (tucked 0 (f 10)) (in_1 ++ xfer (f 11) 11 ++ drop (f 20) ++ tuck_1) (0 ∷ 5 ∷ 9 ∷ 12 ∷ [])
    -- complete
    ∷ swap (drop (f 1) ++ drop (f 2)) (at 0) (empty 0 0) (drop (f 2) ++ drop (f 1)) (0 ∷ 3 ∷ [])
    ∷ swap (in_3 ++ bring_in right (f 50) 4 ++ take_out left (f 10) 3 ++ take_out left (f 50) 4) (at 1) (empty 0 0)
    (in_3 ++ take_out left (f 10) 3 ++ bring_in right (f 50) 4 ++ take_out left (f 50) 4) fives
    -- the racking in force: at racking 2 f.12 and b.10 are in one column, f.10 is not; no record passes a rack
    ∷ swap (rack 2 ++ drop (f 12) ++ xfer (b 10) 12) (at 1) (expected 13 0 false (pos 2) [] []) (rack 2 ++ drop (f 12) ++ xfer (b 10) 12) (0 ∷ 2 ∷ 5 ∷ [])
    ∷ swap (rack 2 ++ drop (f 10) ++ xfer (b 10) 12) (at 1) (expected 0 0 false (pos 2) [] []) (rack 2 ++ xfer (b 10) 12 ++ drop (f 10)) (0 ∷ 2 ∷ 6 ∷ [])
    ∷ swap (rack 2 ++ rack 0 ++ drop (f 12) ++ xfer (b 10) 10) (at 2) (empty 0 0) (rack 2 ++ rack 0 ++ xfer (b 10) 10 ++ drop (f 12)) (0 ∷ 2 ∷ 4 ∷ 8 ∷ [])
    ∷ swap (drop (f 1) ++ rack 0) (at 0) (empty 13 0) (drop (f 1) ++ rack 0) (0 ∷ 3 ∷ [])
    ∷ swap (rack 0 ++ drop (f 1)) (at 0) (empty 13 0) (rack 0 ++ drop (f 1)) (0 ∷ 2 ∷ [])
    -- at the front it is 0, whatever rack comes later
    ∷ swap (drop (f 10) ++ xfer (b 10) 10) (at 0) (empty 13 0) (drop (f 10) ++ xfer (b 10) 10) (0 ∷ 3 ∷ [])
    ∷ swap (drop (f 11) ++ xfer (b 10) 10) (at 0) (empty 0 0) (xfer (b 10) 10 ++ drop (f 11)) (0 ∷ 4 ∷ [])
    ∷ swap (drop (f 12) ++ xfer (b 10) 10 ++ rack 2) (at 0) (expected 0 0 false (pos 2) [] []) (xfer (b 10) 10 ++ drop (f 12) ++ rack 2) (0 ∷ 4 ∷ 7 ∷ [])
    -- a split is six bytes
    ∷ swap (in_3 ++ split right (f 10) 3 10 ++ drop (f 50)) (at 1) (expected 0 0 false (pos 0) ((f 10, 1) ∷ (b 10, 0) ∷ []) ((3, on_right 11 (f 10)) ∷ []))
    (in_3 ++ drop (f 50) ++ split right (f 10) 3 10) (0 ∷ 5 ∷ 8 ∷ [])
    -- so is a plated stitch; two of them, the front one on layers 0 to 2, the back one on 3 to 11; with carriers 3 and 2 exchanged they are tied
    ∷ swap (both_in ++ plated_knit right (f 10) 3 4 ++ drop (f 50)) (at 2) (expected 0 0 false (pos 0) ((f 10, 2) ∷ []) ((3, on_right 11 (f 10)) ∷ (4, on_right 11 (f 10)) ∷ []))
    (both_in ++ drop (f 50) ++ plated_knit right (f 10) 3 4) (0 ∷ 5 ∷ 10 ∷ 13 ∷ [])
    ∷ swap (four_in ++ plated_knit right (f 10) 2 1 ++ plated_tuck right (b 10) 3 4) (at 4) (two_sheets 0) (four_in ++ plated_tuck right (b 10) 3 4 ++ plated_knit right (f 10) 2 1) six_starts
    ∷ swap (four_in ++ plated_knit right (f 10) 3 1 ++ plated_tuck right (b 10) 2 4) (at 4) (two_sheets 13) (four_in ++ plated_knit right (f 10) 3 1 ++ plated_tuck right (b 10) 2 4) six_starts
    -- 12: one record, none; a position's high byte comes first; after a swap that was made
    ∷ swap (drop (f 1)) (at 0) (empty 12 0) (drop (f 1)) (0 ∷ [])
    ∷ swap [] (at 0) (empty 12 0) [] []
    ∷ swap P (64 ∷ 2 ∷ 0 ∷ []) (of_p 12 0) P fives
    ∷ swap (racks 256 ++ drop (f 1) ++ xfer (f 2) 2) (64 ∷ 1 ∷ 0 ∷ []) (empty 0 0) (racks 256 ++ xfer (f 2) 2 ++ drop (f 1)) (evens 0 256 ++ (512 ∷ 516 ∷ []))
    ∷ swap P (at 2 ++ at 3) (of_p 12 3) swapped_p fives
    -- 13 after a swap that was made: in and knit of carrier 4
    ∷ swap P (at 2 ++ at 1) (of_p 13 3) swapped_p fives
    ∷ swap P (at 2 ++ at 1 ++ at 2) (of_p 13 3) swapped_p fives
    -- 14: one byte, two; kinds 3F, 41 and 42, first and after a swap that was made; before 12
    ∷ swap P (64 ∷ []) (of_p 14 0) P fives
    ∷ swap P (64 ∷ 0 ∷ []) (of_p 14 0) P fives
    ∷ swap P (63 ∷ 0 ∷ 2 ∷ []) (of_p 14 0) P fives
    ∷ swap P (65 ∷ 0 ∷ 2 ∷ []) (of_p 14 0) P fives
    ∷ swap P (66 ∷ 0 ∷ 2 ∷ []) (of_p 14 0) P fives
    ∷ swap P (at 2 ++ (63 ∷ 0 ∷ 2 ∷ [])) (of_p 14 3) swapped_p fives
    ∷ swap P (at 2 ++ (65 ∷ 0 ∷ 2 ∷ [])) (of_p 14 3) swapped_p fives
    ∷ swap P (at 2 ++ (66 ∷ 0 ∷ 2 ∷ [])) (of_p 14 3) swapped_p fives
    ∷ swap P (at 2 ++ (64 ∷ 0 ∷ [])) (of_p 14 3) swapped_p fives
    ∷ swap P (63 ∷ 0 ∷ 3 ∷ []) (of_p 14 0) P fives
    -- 3 to 11, 16 and 17: a program that is refused is not written; before 14
    ∷ swap (1 ∷ 9 ∷ []) (at 0) (empty 5 0) [] []
    ∷ swap (in_3 ++ knit left (f 10) 3) (63 ∷ []) (expected 8 5 false (pos 0) ((f 10, 0) ∷ []) ((3, unattached 10) ∷ [])) [] []
    ∷ swap (both_in ++ plated_knit right (f 10) 3 3) (63 ∷ []) (expected 16 10 false (pos 0) ((f 10, 0) ∷ []) ((3, unattached 10) ∷ (4, unattached 10) ∷ [])) [] []
    ∷ swap (led_at_8 5 ++ drop (f 200) ++ drop (f 201) ++ rack 248) (63 ∷ []) (expected 17 43 false (pos 8) ((b 10, 1) ∷ []) ((3, on_right 24 (b 10)) ∷ [])) [] []
    -- a swap before a rack that takes an attachment to 20; the rack itself is tied
    ∷ swap (led_at_8 4 ++ drop (f 200) ++ drop (f 201) ++ rack 248) (at 7) (expected 0 0 false (negsuc 7) ((b 10, 1) ∷ []) ((3, on_right 23 (b 10)) ∷ []))
    (led_at_8 4 ++ drop (f 201) ++ drop (f 200) ++ rack 248) (0 ∷ 2 ∷ 7 ∷ 12 ∷ 17 ∷ 22 ∷ 27 ∷ 32 ∷ 35 ∷ 38 ∷ [])
    ∷ swap (led_at_8 4 ++ drop (f 200) ++ drop (f 201) ++ rack 248) (at 8) (expected 13 0 false (negsuc 7) ((b 10, 1) ∷ []) ((3, on_right 23 (b 10)) ∷ []))
    (led_at_8 4 ++ drop (f 200) ++ drop (f 201) ++ rack 248) (0 ∷ 2 ∷ 7 ∷ 12 ∷ 17 ∷ 22 ∷ 27 ∷ 32 ∷ 35 ∷ 38 ∷ [])
    -- 1: program or log; before 2. One byte fewer is not too long
    ∷ unmade (replicate 32769 0) [] 32769 16384 1
    ∷ unmade (replicate 32769 0) [] 0 0 1
    ∷ unmade P (replicate 32769 64) 20 10 1
    ∷ unmade P (replicate 32769 64) 19 10 1
    ∷ unmade (replicate 32768 0) [] 32768 16384 3
    ∷ lending P (replicate 32768 65) 20 10 (of_p 14 0) P fives
    -- 2: output a byte short, work area an entry short; exactly enough; half of 3 is 1; before 5
    ∷ unmade P (at 2) 19 10 2
    ∷ unmade P (at 2) 20 9 2
    ∷ lending P (at 2) 20 10 (of_p 0 0) swapped_p fives
    ∷ unmade (drop (f 1)) [] 3 0 2
    ∷ lending (drop (f 1)) [] 3 1 (empty 0 0) (drop (f 1)) (0 ∷ [])
    ∷ lending [] [] 0 0 (empty 0 0) [] []
    ∷ unmade (1 ∷ 9 ∷ []) [] 1 1 2
    -- 02, W2: at limit 1 a swap is made and one refused as at 8, and a program that is full there is not written, before 14
    ∷ swap_given 1 (swap P (at 2) (of_p 0 0) swapped_p fives)
    ∷ swap_given 1 (swap P (at 2 ++ at 1) (of_p 13 3) swapped_p fives)
    ∷ swap_given 1 (swap (in_3 ++ tuck right (f 10) 3 ++ tuck left (f 10) 3) (63 ∷ []) (expected 11 10 false (pos 0) ((f 10, 1) ∷ []) ((3, on_right 11 (f 10)) ∷ [])) [] [])
    ∷ swap_given 2 (swap (in_3 ++ tuck right (f 10) 3 ++ tuck left (f 10) 3) (63 ∷ []) (expected 14 0 false (pos 0) ((f 10, 2) ∷ []) ((3, on_left 10 (f 10)) ∷ []))
    (in_3 ++ tuck right (f 10) 3 ++ tuck left (f 10) 3) (0 ∷ 5 ∷ 10 ∷ []))
    -- 1 and 2 with the empty state of the limit given
    ∷ swap_given 3 (unmade (replicate 32769 0) [] 0 0 1)
    ∷ swap_given 3 (unmade P (at 2) 19 10 2)
    -- by a log that is too long, by the work area, and 12
    ∷ swap_given 3 (unmade P (replicate 32769 64) 20 10 1)
    ∷ swap_given 3 (unmade P (at 2) 20 9 2)
    ∷ swap_given 1 (swap P (at 3) (of_p 12 0) P fives)
    -- 15 before 1, 2 and a torn log: limits 0, 9 and 255
    ∷ swap_bad 0 P (at 2) 22 22
    ∷ swap_bad 9 P (at 2) 22 22
    ∷ swap_bad 255 P (at 2) 22 22
    ∷ swap_bad 0 (replicate 32769 0) [] 0 0
    ∷ swap_bad 9 P (replicate 32769 64) 20 10
    ∷ swap_bad 9 P (at 2) 19 10
    ∷ swap_bad 0 P (63 ∷ []) 20 9
    -- and before 5
    ∷ swap_bad 0 (1 ∷ 9 ∷ []) (at 0) 4 4
    ∷ []
