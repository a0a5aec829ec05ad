-- The kinds of records (document 01, 'Records'; 02, W1), by name, and what each kind fixes.
use Rattle.std.specs.Prelude.{ℕ, Bool, cond, ◌||◌, eqb}

abbrev pub RACK : ℕ
RACK = 1

abbrev pub DROP : ℕ
DROP = 2

abbrev pub XFER : ℕ
XFER = 3

abbrev pub IN : ℕ
IN = 4

abbrev pub OUT : ℕ
OUT = 5

abbrev pub MISS : ℕ
MISS = 6

abbrev pub TUCK : ℕ
TUCK = 7

abbrev pub KNIT : ℕ
KNIT = 8

abbrev pub SPLIT : ℕ
SPLIT = 9

-- 02, W1: 'Add 0A plated tuck and 0B plated knit'
abbrev pub PLATED_TUCK : ℕ
PLATED_TUCK = 10

abbrev pub PLATED_KNIT : ℕ
PLATED_KNIT = 11

-- a row of a table: rack, drop, xfer, in, out, miss, tuck, knit, split, plated tuck, plated knit; and its value at a kind, 0 at an unknown one
unfoldable pub by_kind : ℕ → ℕ → ℕ → ℕ → ℕ → ℕ → ℕ → ℕ → ℕ → ℕ → ℕ → ℕ → ℕ
by_kind rack drop xfer enter leave miss tuck knit split plated_tuck plated_knit k =
    cond (eqb k RACK) rack
    (cond (eqb k DROP) drop
    (cond (eqb k XFER) xfer
    (cond (eqb k IN) enter
    (cond (eqb k OUT) leave
    (cond (eqb k MISS) miss
    (cond (eqb k TUCK) tuck
    (cond (eqb k KNIT) knit
    (cond (eqb k SPLIT) split
    (cond (eqb k PLATED_TUCK) plated_tuck
    (cond (eqb k PLATED_KNIT) plated_knit 0))))))))))

-- the length in bytes: 'one byte of kind, then a body whose length the kind fixes'
abbrev pub size_of : ℕ → ℕ
size_of = by_kind 2 3 4 5 5 5 5 5 6 6 6

-- hooks worked: none by rack, nor by in, out and miss, which 'pass by the hook'; the first needle's, or both needles'
abbrev pub hooks_worked : ℕ → ℕ
hooks_worked = by_kind 0 1 2 0 0 0 1 1 2 1 1

-- carriers named; a plated stitch names two
abbrev pub carriers_named : ℕ → ℕ
carriers_named = by_kind 0 0 0 1 1 1 1 1 1 2 2

-- loops formed, on the first needle: 'A plated tuck adds 2 loops, a plated knit leaves 2'
abbrev pub loops_formed : ℕ → ℕ
loops_formed = by_kind 0 0 0 0 0 0 1 1 1 2 2

-- with two hooks, the loops and attachments at the first needle go to the second
abbrev pub moves : ℕ → Bool
moves k = eqb (hooks_worked k) 2

-- with two carriers, the stitch is plated
abbrev pub is_plated : ℕ → Bool
is_plated k = eqb (carriers_named k) 2

-- a tuck, plain or plated, adds its loops to those on the hook; a knit leaves its own
abbrev pub tucks : ℕ → Bool
tucks k = eqb k TUCK || eqb k PLATED_TUCK
