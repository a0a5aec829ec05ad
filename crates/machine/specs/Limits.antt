-- The limits of document 01, each said once, and read by name everywhere else.
use Rattle.std.specs.Prelude.{ℕ, ◌*◌}

-- 'Needles are f.0 to f.249 (front bed) and b.0 to b.249 (back)': on a bed, its last one, and the hooks of both beds
abbrev pub bed_needles : ℕ
bed_needles = 250

abbrev pub last_needle : ℕ
last_needle = 249

abbrev pub hook_count : ℕ
hook_count = 2 * bed_needles

-- 'Carriers are 1 to 10'
abbrev pub carrier_count : ℕ
carrier_count = 10

-- 'Racking r is −8 to 8', and so 'slots −8 to 258'
abbrev pub racking_most : ℕ
racking_most = 8

abbrev pub slot_most : ℕ
slot_most = 258

-- 02, W2: 'The machine state gains a hook limit, 1 to 8'; 8 is 01's, 'A hook holds 0 to 8 loops'
abbrev pub limit_least : ℕ
limit_least = 1

abbrev pub limit_most : ℕ
limit_most = 8

-- 'at most 20 columns from the needle worked'
abbrev pub float_most : ℕ
float_most = 20

-- 02, W5: 'ends over 20', slots between an attachment and its parked carrier
abbrev pub stretch_most : ℕ
stretch_most = 20

-- 'at most 32,768 bytes': a program, a log
abbrev pub program_most : ℕ
program_most = 32768

abbrev pub log_most : ℕ
log_most = 32768
