-- Ties (document 01, 'Extents and ties'; 02, W1): pairs of records; and what a record of each kind covers, each of its edges seen by a probe that just meets it and by one
-- that just does not.
use Rattle.std.specs.Prelude.{ℕ, ◌+◌, ◌-◌, Bool, true, false, ◌&&◌, cond, List, [], ◌∷◌, ◌++◌, map, ℤ, pos, negsuc, eqb, leb, ltb}
use Rattle.machine.specs.declared.Needle.{Needle}
use Rattle.pieces.specs.Spelled.{f, b, left, right, rack, drop, xfer, bring_in, take_out, miss, tuck, knit, split, plated_tuck, plated_knit}

-- two records at a racking in force, and whether they are tied, in either order
pub record Pair : Type 0 where
  pub racking : ℤ
  pub first : List ℕ
  pub second : List ℕ
  pub tied : Bool

abbrev pub pair : ℤ → List ℕ → List ℕ → Bool → Pair
pair r x y t = record { racking = r; first = x; second = y; tied = t }

abbrev pub pairs : List Pair
pairs =
    -- piece 10: a tuck, and an xfer in the next column or in its own
    pair (pos 0) (tuck right (f 10) 1) (xfer (f 11) 11) false
    ∷ pair (pos 0) (tuck right (f 10) 1) (xfer (f 10) 10) true
    -- pieces 8 and 9
    ∷ pair (pos 0) (knit right (f 10) 3) (knit right (b 10) 4) false
    ∷ pair (pos 0) (knit right (f 10) 5) (knit right (b 10) 4) true
    ∷ pair (pos 0) (take_out left (f 10) 3) (bring_in right (f 50) 3) true
    -- one carrier, however far apart, and two
    ∷ pair (negsuc 7) (knit right (f 249) 10) (miss left (b 0) 10) true
    ∷ pair (negsuc 7) (knit right (f 249) 10) (miss left (b 0) 9) false
    -- 'sharing either carrier ties': a plated stitch, however far apart, through its first, through its second alone, through neither
    ∷ pair (negsuc 7) (plated_knit right (f 249) 10 3) (miss left (b 0) 10) true
    ∷ pair (negsuc 7) (plated_knit right (f 249) 3 10) (miss left (b 0) 10) true
    ∷ pair (negsuc 7) (plated_tuck right (f 249) 3 10) (miss left (b 0) 10) true
    ∷ pair (negsuc 7) (plated_knit right (f 249) 3 10) (miss left (b 0) 9) false
    -- two plated stitches: first and first, first and second, second and second, none
    ∷ pair (pos 0) (plated_knit right (f 10) 3 4) (plated_tuck left (b 200) 3 5) true
    ∷ pair (pos 0) (plated_knit right (f 10) 3 4) (plated_tuck left (b 200) 5 3) true
    ∷ pair (pos 0) (plated_knit right (f 10) 3 4) (plated_tuck left (b 200) 4 5) true
    ∷ pair (pos 0) (plated_knit right (f 10) 3 4) (plated_tuck left (b 200) 5 4) true
    ∷ pair (pos 0) (plated_knit right (f 10) 3 4) (plated_tuck left (b 200) 5 6) false
    -- a split's last byte is a needle and no carrier
    ∷ pair (pos 0) (split right (f 10) 3 4) (miss left (b 200) 4) false
    ∷ pair (pos 0) (split right (f 10) 3 4) (plated_knit left (b 200) 5 4) false
    -- either is a rack, though it set the racking that is in force
    ∷ pair (pos 2) (rack 2) (drop (f 249)) true
    ∷ pair (pos 0) (rack 0) (rack 0) true
    -- needle numbers are not columns: at racking 2 b.10 is in column 12
    ∷ pair (pos 2) (drop (b 10)) (xfer (f 10) 8) false
    ∷ pair (pos 2) (drop (b 10)) (xfer (f 12) 10) true
    -- the second needle is no part of the extent
    ∷ pair (pos 0) (xfer (f 10) 20) (drop (b 20)) false
    ∷ pair (pos 0) (split right (f 10) 3 20) (drop (b 20)) false
    ∷ pair (pos 0) (xfer (f 10) 20) (xfer (f 11) 20) false
    ∷ []

-- for each element what a function lists
abbrev pub for_each : {A B : Type 0} → List A → (A → List B) → List B
for_each [] g = []
for_each (x ∷ l) g = g x ++ for_each l g

-- the whole number n − m
abbrev pub less : ℕ → ℕ → ℤ
less n m = cond (ltb n m) (negsuc (m - n - 1)) (pos (n - m))

-- ---- who works at a spot: a carrier, two for plated stitches, the smaller and the greater, one that only probes; and a direction, which takes turns with the other
pub record Hands : Type 0 where
  pub one : ℕ
  pub two : ℕ × ℕ
  pub probe : ℕ
  pub way : ℕ

abbrev by : ℕ → ℕ → ℕ → ℕ → ℕ → Hands
by k small great probe d = record { one = k; two = (small, great); probe = probe; way = d }

-- the other direction
abbrev turn : ℕ → ℕ
turn d = 1 - d

-- ---- where: a racking, and the needles in five columns side by side, z − 2 to z + 2, as far as the beds reach ('A back needle n has column n + r')
pub record Spot : Type 0 where
  pub racking : ℤ
  pub far_left : List Needle
  pub near_left : List Needle
  pub here : List Needle
  pub near_right : List Needle
  pub far_right : List Needle
  pub hands : Hands

abbrev spot : ℤ → List Needle → List Needle → List Needle → List Needle → List Needle → Hands → Spot
spot r p q z s t h = record { racking = r; far_left = p; near_left = q; here = z; near_right = s; far_right = t; hands = h }

-- a front needle and a back one in one column; a back one alone
abbrev fb : ℕ → ℕ → List Needle
fb n m = f n ∷ b m ∷ []

abbrev back : ℕ → List Needle
back m = b m ∷ []

-- at racking i − 8, column z is that of b.(z + 8 − i)
abbrev at : ℕ → ℕ → Hands → Spot
at i z h =
    spot (less i 8) (fb (z - 2) (z + 6 - i)) (fb (z - 1) (z + 7 - i)) (fb z (z + 8 - i)) (fb (z + 1) (z + 9 - i)) (fb (z + 2) (z + 10 - i)) h

-- two spots for each racking from −8 to 8, in columns that differ, with the directions exchanged, and some more: among them every two carriers
abbrev pub middle : List Spot
middle =
    at 0 10 (by 1 1 10 7 left)
    ∷ at 1 23 (by 2 1 2 8 left)
    ∷ at 2 36 (by 3 2 3 9 right)
    ∷ at 3 49 (by 4 3 4 10 right)
    ∷ at 4 62 (by 5 4 5 1 left)
    ∷ at 5 75 (by 6 5 6 2 left)
    ∷ at 6 88 (by 7 6 7 3 right)
    ∷ at 7 101 (by 8 7 8 4 right)
    ∷ at 8 114 (by 9 8 9 5 left)
    ∷ at 9 127 (by 10 9 10 6 left)
    ∷ at 10 140 (by 1 3 5 7 right)
    ∷ at 11 153 (by 3 2 9 8 right)
    ∷ at 12 166 (by 5 1 6 9 left)
    ∷ at 13 179 (by 7 5 10 1 left)
    ∷ at 14 192 (by 8 4 7 2 right)
    ∷ at 15 205 (by 9 3 8 5 right)
    ∷ at 16 218 (by 10 7 10 4 left)
    ∷ at 0 237 (by 6 2 5 9 right)
    ∷ at 1 224 (by 7 1 3 10 right)
    ∷ at 2 211 (by 8 4 6 1 left)
    ∷ at 3 198 (by 9 5 7 2 left)
    ∷ at 4 185 (by 10 6 8 3 right)
    ∷ at 5 172 (by 1 7 9 4 right)
    ∷ at 6 159 (by 2 8 10 5 left)
    ∷ at 7 146 (by 3 1 4 6 left)
    ∷ at 8 133 (by 4 2 10 7 right)
    ∷ at 9 120 (by 5 3 6 8 right)
    ∷ at 10 107 (by 6 4 8 9 left)
    ∷ at 11 94 (by 7 5 9 10 left)
    ∷ at 12 81 (by 8 6 10 1 right)
    ∷ at 13 68 (by 9 1 5 2 right)
    ∷ at 14 55 (by 10 2 7 3 left)
    ∷ at 15 42 (by 2 3 9 4 left)
    ∷ at 16 29 (by 4 4 10 5 right)
    ∷ at 0 50 (by 5 1 7 2 left)
    ∷ at 1 61 (by 6 1 8 3 right)
    ∷ at 3 83 (by 7 1 9 4 left)
    ∷ at 5 105 (by 8 2 4 10 right)
    ∷ at 7 127 (by 9 2 6 1 left)
    ∷ at 8 138 (by 10 2 8 5 right)
    ∷ at 9 149 (by 1 3 7 9 left)
    ∷ at 11 171 (by 2 3 10 6 right)
    ∷ at 13 193 (by 3 4 9 8 left)
    ∷ at 15 215 (by 4 5 8 7 right)
    ∷ at 16 226 (by 5 6 9 3 left)
    ∷ []

-- columns −8, −1 and 0 at racking −8, 249 and 257 at 8
abbrev pub outer : List Spot
outer =
    spot (negsuc 7) [] [] (back 0) (back 1) (back 2) (by 5 3 5 7 left)
    ∷ spot (negsuc 7) (back 5) (back 6) (back 7) (fb 0 8) (fb 1 9) (by 2 2 6 8 right)
    ∷ spot (negsuc 7) (back 6) (back 7) (fb 0 8) (fb 1 9) (fb 2 10) (by 8 4 9 1 left)
    ∷ spot (pos 8) (fb 247 239) (fb 248 240) (fb 249 241) (back 242) (back 243) (by 3 1 7 10 right)
    ∷ spot (pos 8) (back 247) (back 248) (back 249) [] [] (by 6 6 10 2 left)
    ∷ []

-- ---- what a record at a needle of column z covers: half columns left to right, 2z − 3 to 2z + 3 counted as 0 to 6; layers low to high
pub record Cover : Type 0 where
  pub made : Needle → List ℕ
  pub left : ℕ
  pub right : ℕ
  pub low : ℕ
  pub high : ℕ

-- half column 2z; or 2z − 1 to 2z + 1
abbrev narrow : (Needle → List ℕ) → ℕ → ℕ → Cover
narrow x low high = record { made = x; left = 3; right = 3; low = low; high = high }

abbrev broad : (Needle → List ℕ) → ℕ → ℕ → Cover
broad x low high = record { made = x; left = 2; right = 4; low = low; high = high }

-- with carrier k: 'a front tuck or knit with carrier k on layers 0 to k; a back one on k to 11; split on 0 to 11; in, out and miss on k alone'
abbrev with_one : ℕ → ℕ → ℕ → ℕ → List Cover
with_one k low high d =
    broad (λ n. tuck d n k) low high
    ∷ broad (λ n. knit (turn d) n k) low high
    ∷ broad (λ n. bring_in d n k) k k
    ∷ broad (λ n. take_out (turn d) n k) k k
    ∷ broad (λ n. miss d n k) k k
    ∷ broad (λ n. split (turn d) n k 200) 0 11
    ∷ []

-- plated, with the smaller and the greater carrier, either one first: 'On the front the layers run from 0 to the greater carrier, on the back from the smaller to 11'
abbrev plated : ℕ → ℕ → ℕ → ℕ → ℕ → List Cover
plated k j low high d =
    broad (λ n. plated_tuck d n k j) low high
    ∷ broad (λ n. plated_tuck (turn d) n j k) low high
    ∷ broad (λ n. plated_knit (turn d) n k j) low high
    ∷ broad (λ n. plated_knit d n j k) low high
    ∷ []

-- 'A drop covers 2z on its bed's layer. An xfer covers 2z on layers 0 to 11'; on the back the directions are exchanged
abbrev pub covers : Hands → Needle → List Cover
covers h n =
    let k = h.one in
    let p = h.two in
    let d = h.way in
    cond (eqb n.0 0)
    (narrow drop 0 0 ∷ narrow (λ m. xfer m 200) 0 11 ∷ with_one k 0 k d ++ plated p.0 p.1 0 p.1 d)
    (narrow drop 11 11 ∷ narrow (λ m. xfer m 200) 0 11 ∷ with_one k k 11 (turn d) ++ plated p.0 p.1 p.0 11 (turn d))

-- ---- probes: records at needles, each with the half column or the layer that it sees
abbrev seeing : ℕ → (Needle → List ℕ) → List Needle → List (ℕ × List ℕ)
seeing i x l = map (λ (n : Needle). (i, x n)) l

abbrev splits : ℕ → ℕ → Hands → List Needle → List (ℕ × List ℕ)
splits i d h l = seeing i (λ n. split d n h.probe 0) l

abbrev xfers : ℕ → List Needle → List (ℕ × List ℕ)
xfers i l = seeing i (λ n. xfer n 0) l

-- an xfer sees the one that it covers, 2z − 2, 2z or 2z + 2; a split on the left sees its last, 2z − 3 or 2z − 1, one on the right its first, 2z + 1 or 2z + 3
abbrev pub half_columns : Spot → List (ℕ × List ℕ)
half_columns s =
    splits 0 s.hands.way s.hands s.far_left
    ++ xfers 1 s.near_left
    ++ splits 2 (turn s.hands.way) s.hands s.near_left
    ++ xfers 3 s.here
    ++ splits 4 s.hands.way s.hands s.near_right
    ++ xfers 5 s.near_right
    ++ splits 6 (turn s.hands.way) s.hands s.far_right

-- a drop sees layer 0 or 11; a miss, here at a needle n, sees its carrier's
abbrev pub layers : Spot → Needle → List (ℕ × List ℕ)
layers s n =
    let d = s.hands.way in
    map (λ (m : Needle). (cond (eqb m.0 0) 0 11, drop m)) s.here
    ++ map (λ (k : ℕ). (k, miss d n k)) (1 ∷ 3 ∷ 5 ∷ 7 ∷ 9 ∷ [])
    ++ map (λ (k : ℕ). (k, miss (turn d) n k)) (2 ∷ 4 ∷ 6 ∷ 8 ∷ 10 ∷ [])

-- ---- a record is tied to the probes that see what it covers, and to no other
abbrev pub probed : ℤ → List ℕ → ℕ → ℕ → List (ℕ × List ℕ) → List Pair
probed r x low high l = map (λ (p : ℕ × List ℕ). pair r x p.1 (leb low p.0 && leb p.0 high)) l

abbrev pub edges_of : Spot → Needle → Cover → List Pair
edges_of s n c =
    probed s.racking (c.made n) c.left c.right (half_columns s)
    ++ probed s.racking (c.made n) c.low c.high (layers s n)

abbrev pub edges_here : Spot → Needle → List Pair
edges_here s n = for_each (covers s.hands n) (edges_of s n)

abbrev pub edges_at : Spot → List Pair
edges_at s = for_each s.here (edges_here s)

abbrev pub edges : List Pair
edges = for_each (middle ++ outer) edges_at
