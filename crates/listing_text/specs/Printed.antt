-- Listings as they are printed: P's, which document 01 gives, and others worked out by hand from its words.
use Rattle.std.specs.Prelude.{ℕ, ◌≤◌, ◌≡◌, false, List, [], ◌∷◌, ◌++◌, length, take}
use Prim.Native.Char.{code}
use Prim.Native.String.{String, [] as nil, ◌∷◌ as ◌then◌}
use Rattle.machine.specs.Limits.{limit_most}
use Rattle.machine.specs.Machine.{Each}
use Rattle.rewrite.specs.Programs.{flat}
use Rattle.rewrite.specs.Rewrite.{writes, rewrite_of}
use Rattle.rewrite.specs.Exact.{Enough}
use Rattle.listing_text.specs.Text.{figures, listing_of}
use Rattle.listing_text.specs.Listed.{listed_of, ListsRead}

-- a line's bytes, and those of lines, each with its end
unfoldable pub bytes_in : String → List ℕ
bytes_in nil = []
bytes_in (c then s) = code c ∷ bytes_in s

unfoldable pub text : List String → List ℕ
text [] = []
text (s ∷ l) = bytes_in s ++ (10 ∷ text l)

pub record Listing : Type 0 where
  pub program : List ℕ
  pub log : List ℕ
  pub lines : List String

abbrev listing : List (List ℕ) → List ℕ → List String → Listing
listing records log lines = record { program = flat records; log = log; lines = lines }

-- a record of kinds 04 to 08: direction (0 left, 1 right), bed (0 front, 1 back), needle, carrier
abbrev work : ℕ → ℕ → ℕ → ℕ → ℕ → List ℕ
work kind direction bed needle carrier = kind ∷ direction ∷ bed ∷ needle ∷ carrier ∷ []

-- P = 'in right f.10 carrier 3; in right b.10 carrier 4; knit right f.10 carrier 3; knit right b.10 carrier 4', or 'with carrier 5 for 3'
abbrev piece_8 : ℕ → List (List ℕ)
piece_8 k = work 4 1 0 10 k ∷ work 4 1 1 10 4 ∷ work 8 1 0 10 k ∷ work 8 1 1 10 4 ∷ []

-- a log of one swap
abbrev swap : ℕ → List ℕ
swap i = 0x40 ∷ 0 ∷ i ∷ []

-- 'For P and 40 00 02'
abbrev pub P_swapped : Listing
P_swapped =
    listing (piece_8 3) (swap 2)
    ("0 0 0"
    ∷ "r 0"
    ∷ "f 10 1"
    ∷ "b 10 1"
    ∷ "c 3 11 f 10 +"
    ∷ "c 4 11 b 10 +"
    ∷ "p 0401000a030401010a040801010a040801000a03"
    ∷ [])

-- 'tucks right and left in turn there', at f.10
abbrev tucks : List (List ℕ) → List (List ℕ)
tucks l = work 7 1 0 10 1 ∷ work 7 0 0 10 1 ∷ l

abbrev pub listings : List Listing
listings =
    P_swapped
    -- piece 8 with carrier 5 for 3: tied
    ∷ listing (piece_8 5) (swap 2)
    ("13 0 0" ∷ "r 0" ∷ "f 10 1" ∷ "b 10 1" ∷ "c 4 11 b 10 +" ∷ "c 5 11 f 10 +" ∷ "p 0401000a050401010a040801000a050801010a04" ∷ [])
    -- piece 11: no pair; a log that is torn behind a swap
    ∷ listing (piece_8 3) (swap 3)
    ("12 0 0" ∷ "r 0" ∷ "f 10 1" ∷ "b 10 1" ∷ "c 3 11 f 10 +" ∷ "c 4 11 b 10 +" ∷ "p 0401000a030401010a040801000a030801010a04" ∷ [])
    ∷ listing (piece_8 3) (swap 2 ++ (0x40 ∷ []))
    ("14 3 0" ∷ "r 0" ∷ "f 10 1" ∷ "b 10 1" ∷ "c 3 11 f 10 +" ∷ "c 4 11 b 10 +" ∷ "p 0401000a030401010a040801010a040801000a03" ∷ [])
    -- p alone for an empty program, done or with 12
    ∷ listing [] [] ("0 0 1" ∷ "r 0" ∷ "p" ∷ [])
    ∷ listing [] (swap 0) ("12 0 1" ∷ "r 0" ∷ "p" ∷ [])
    -- and after 1 to 11: rack 9; piece 4; the ninth tuck of piece 6
    ∷ listing ((0x01 ∷ 0x09 ∷ []) ∷ []) [] ("5 0 1" ∷ "r 0" ∷ "p" ∷ [])
    ∷ listing (work 4 1 0 10 3 ∷ work 8 0 0 10 3 ∷ []) [] ("8 5 0" ∷ "r 0" ∷ "c 3 10 none" ∷ "p" ∷ [])
    ∷ listing (work 4 1 0 10 1 ∷ tucks (tucks (tucks (tucks (work 7 1 0 10 1 ∷ []))))) [] ("11 45 0" ∷ "r 0" ∷ "f 10 8" ∷ "c 1 10 f 10 -" ∷ "p" ∷ [])
    -- 02, W1: a plated knit; and after 16, the same with one yarn twice
    ∷ listing (work 4 1 0 10 3 ∷ work 4 1 0 10 4 ∷ (0x0b ∷ 0x01 ∷ 0x00 ∷ 0x0a ∷ 0x03 ∷ 0x04 ∷ []) ∷ []) []
    ("0 0 0" ∷ "r 0" ∷ "f 10 2" ∷ "c 3 11 f 10 +" ∷ "c 4 11 f 10 +" ∷ "p 0401000a030401000a040b01000a0304" ∷ [])
    ∷ listing (work 4 1 0 10 3 ∷ work 4 1 0 10 4 ∷ (0x0b ∷ 0x01 ∷ 0x00 ∷ 0x0a ∷ 0x03 ∷ 0x03 ∷ []) ∷ []) [] ("16 10 0" ∷ "r 0" ∷ "c 3 10 none" ∷ "c 4 10 none" ∷ "p" ∷ [])
    -- a program that leaves the empty state, and the other hexadecimal digits: drop f.249, f.188, f.222, f.103
    ∷ listing ((0x02 ∷ 0x00 ∷ 0xf9 ∷ []) ∷ (0x02 ∷ 0x00 ∷ 0xbc ∷ []) ∷ (0x02 ∷ 0x00 ∷ 0xde ∷ []) ∷ (0x02 ∷ 0x00 ∷ 0x67 ∷ []) ∷ []) []
    ("0 0 1" ∷ "r 0" ∷ "p 0200f90200bc0200de020067" ∷ [])
    -- figures below 0: rack -8; in right b.0 (column -8); in left and knit left b.3 (column -5)
    ∷ listing ((0x01 ∷ 0xf8 ∷ []) ∷ work 4 1 1 0 10 ∷ work 4 0 1 3 1 ∷ work 8 0 1 3 1 ∷ []) []
    ("0 0 0" ∷ "r -8" ∷ "b 3 1" ∷ "c 1 -5 b 3 -" ∷ "c 10 -8 none" ∷ "p 01f8040101000a04000103010800010301" ∷ [])
    -- front first, upward: in and knit left f.249; in and knit right f.0; in right, tuck right and tuck left b.249
    ∷ listing (work 4 0 0 249 2 ∷ work 8 0 0 249 2 ∷ work 4 1 0 0 1 ∷ work 8 1 0 0 1 ∷ work 4 1 1 249 4 ∷ work 7 1 1 249 4 ∷ work 7 0 1 249 4 ∷ []) []
    ("0 0 0" ∷ "r 0" ∷ "f 0 1" ∷ "f 249 1" ∷ "b 249 2" ∷ "c 1 1 f 0 +" ∷ "c 2 249 f 249 -" ∷ "c 4 249 b 249 -"
    ∷ "p 040000f902080000f90204010000010801000001040101f904070101f904070001f904" ∷ [])
    ∷ []

-- figures of more places than the listings have
abbrev pub FiguresPrinted : Type 0
FiguresPrinted =
    Each (λ (n : ℕ × String). figures n.0 ≡ bytes_in n.1) ((999, "999") ∷ (1000, "1000") ∷ (9999, "9999") ∷ (10000, "10000") ∷ (32767, "32767") ∷ [])

-- the listing at limit 8 (02, W2: 'The listing and the C entry run with limit 8') is this text, whatever the output and the work area held, if they are long enough
abbrev pub Printed : Listing → Type 0
Printed r =
    (output work : List ℕ) → Enough (length r.program) (length r.log) (length output) (length work) → listed_of limit_most r.program r.log output work ≡ text r.lines

abbrev pub ListsP : Type 0
ListsP = Printed P_swapped

-- so that `list_files` gives these lines, if P and 40 00 02 are what it read
abbrev pub ListsPRead : Type 0
ListsPRead =
    (old new : List ℕ) (n : ℕ) (r : ListsRead limit_most old new n) → r.program ≡ P_swapped.program → r.log ≡ P_swapped.log → 88307 ≤ length old → take n new ≡ text P_swapped.lines

abbrev pub ListingsPrinted : Type 0
ListingsPrinted = Each Printed listings

-- '"p" alone after 1 to 11 and for an empty program', and so after 16 and 17 (02: 'handled like' 5) and 15: after a number that writes nothing, the listing of no bytes
abbrev pub PAloneRefused : Type 0
PAloneRefused =
    (limit : ℕ) (program log output work : List ℕ) → let w = rewrite_of limit program log output work in
    writes w.answer.number ≡ false → listed_of limit program log output work ≡ listing_of w.answer []

abbrev pub PAloneEmpty : Type 0
PAloneEmpty = (limit : ℕ) (log output work : List ℕ) → listed_of limit [] log output work ≡ listing_of (rewrite_of limit [] log output work).answer []
