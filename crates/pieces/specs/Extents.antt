-- What a record of each kind covers (document 01, 'Extents and ties'; 02, W1), whole: its first and last half column, its first and last layer.
-- Every kind but rack, on both beds, in both directions, at every racking, with every carrier and every two, at needles that change from row to row.
-- Rackings are counted here from −8 and half columns from −17, so that all of them are naturals.
use Rattle.std.specs.Prelude.{ℕ, ◌+◌, ◌-◌, ◌*◌, ◌%◌, ◌≡◌, Bool, true, false, cond, List, [], ◌∷◌, ◌++◌, ℤ, drop, eqb}
use Rattle.machine.specs.declared.Needle.{Needle}
use Rattle.record.specs.declared.Record.{Record}
use Rattle.record.specs.Kinds.{IN, OUT, MISS, TUCK, KNIT, PLATED_TUCK, PLATED_KNIT}
use Rattle.record.specs.Format.{drop_record, xfer_record, work_record, split_record, plated_record}
use Rattle.rewrite.specs.declared.Extent.{Extent}
use Rattle.rewrite.specs.Extents.{extent_of}
use Rattle.pieces.specs.Spelled.{f, b}
use Rattle.pieces.specs.Edges.{for_each, less}

-- a racking in force, a record, and the extent it has then
pub record Span : Type 0 where
  pub racking : ℤ
  pub made : Record
  pub extent : Extent

-- at racking i − 8: half columns from left − 17 to right − 17, layers low to high
abbrev span : ℕ → Record → ℕ → ℕ → ℕ → ℕ → Span
span i x left right low high =
    record { racking = less i 8; made = x; extent = record { left = less left 17; right = less right 17; low = low; high = high } }

-- a needle's number by a figure: a third of them at the left end of the bed, a third at its right end, a third anywhere
abbrev place : ℕ → ℕ
place s = cond (eqb (s % 3) 0) (s % 8) (cond (eqb (s % 3) 1) (249 - s % 8) (s % 250))

-- 'A front needle n has column n. A back needle n has column n + r' and 'column z is 2z': half column 2n in front, 2 (n + i − 8) at the back, which are
-- 2n + 17 and 2n + 2i + 1, counted from −17
abbrev Made : Type 0
Made = ℕ → (Needle → Record) → ℕ → ℕ → Span

-- 2z alone: drop and xfer
abbrev front_one : ℕ → Made
front_one i s x low high = let n = place s in span i (x (f n)) (2 * n + 17) (2 * n + 17) low high

abbrev back_one : ℕ → Made
back_one i s x low high = let n = place s in span i (x (b n)) (2 * n + 2 * i + 1) (2 * n + 2 * i + 1) low high

-- 2z − 1 to 2z + 1: the rest
abbrev front_three : ℕ → Made
front_three i s x low high = let n = place s in span i (x (f n)) (2 * n + 16) (2 * n + 18) low high

abbrev back_three : ℕ → Made
back_three i s x low high = let n = place s in span i (x (b n)) (2 * n + 2 * i) (2 * n + 2 * i + 2) low high

-- the second needle of an xfer or a split, which is no part of its extent
abbrev other : Needle → Needle
other n = record { 0 = 1 - n.0; 1 = 200 }

-- 'A drop covers 2z on its bed's layer. An xfer covers 2z on layers 0 to 11'
abbrev hooks : ℕ → ℕ → List Span
hooks i s =
    front_one i s drop_record 0 0
    ∷ back_one i s drop_record 11 11
    ∷ front_one i (s + 1) (λ n. xfer_record n (other n)) 0 11
    ∷ back_one i (s + 1) (λ n. xfer_record n (other n)) 0 11
    ∷ []

-- 'in, out and miss on k alone', 'split on 0 to 11'
abbrev on_carrier : Made → Bool → ℕ → ℕ → List Span
on_carrier make right k s =
    make s (λ n. work_record IN right n k) k k
    ∷ make (s + 1) (λ n. work_record OUT right n k) k k
    ∷ make (s + 2) (λ n. work_record MISS right n k) k k
    ∷ make (s + 3) (λ n. split_record right n k (other n)) 0 11
    ∷ []

-- 'a front tuck or knit with carrier k on layers 0 to k; a back one on k to 11'
abbrev stitches : Made → Bool → ℕ → ℕ → ℕ → ℕ → List Span
stitches make right k low high s =
    make s (λ n. work_record TUCK right n k) low high
    ∷ make (s + 1) (λ n. work_record KNIT right n k) low high
    ∷ on_carrier make right k (s + 2)

abbrev with_one : ℕ → Bool → ℕ → ℕ → List Span
with_one i right k s = stitches (front_three i) right k 0 k s ++ stitches (back_three i) right k k 11 (s + 1)

-- either carrier first, the smaller k and the greater j: 'On the front the layers run from 0 to the greater carrier, on the back from the smaller to 11'
abbrev plated : Made → Bool → ℕ → ℕ → ℕ → ℕ → ℕ → List Span
plated make right k j low high s =
    make s (λ n. plated_record PLATED_TUCK right n k j) low high
    ∷ make (s + 1) (λ n. plated_record PLATED_TUCK right n j k) low high
    ∷ make (s + 2) (λ n. plated_record PLATED_KNIT right n k j) low high
    ∷ make (s + 3) (λ n. plated_record PLATED_KNIT right n j k) low high
    ∷ []

abbrev with_two : ℕ → Bool → ℕ → ℕ → ℕ → List Span
with_two i right k j s = plated (front_three i) right k j 0 j s ++ plated (back_three i) right k j k 11 (s + 1)

-- all at racking i − 8, to the left and to the right
abbrev carriers : List ℕ
carriers = 1 ∷ 2 ∷ 3 ∷ 4 ∷ 5 ∷ 6 ∷ 7 ∷ 8 ∷ 9 ∷ 10 ∷ []

abbrev singles : ℕ → List Span
singles i =
    hooks i (37 * i) ++ hooks i (37 * i + 1) ++ hooks i (37 * i + 2)
    ++ for_each carriers (λ k. with_one i false k (37 * i + 53 * k) ++ with_one i true k (37 * i + 53 * k + 101))

abbrev doubles : ℕ → List Span
doubles i =
    for_each carriers (λ k.
    for_each (drop k carriers) (λ j. with_two i false k j (37 * i + 53 * k + 29 * j) ++ with_two i true k j (37 * i + 53 * k + 29 * j + 101)))

abbrev rackings : List ℕ
rackings = 0 ∷ 1 ∷ 2 ∷ 3 ∷ 4 ∷ 5 ∷ 6 ∷ 7 ∷ 8 ∷ 9 ∷ 10 ∷ 11 ∷ 12 ∷ 13 ∷ 14 ∷ 15 ∷ 16 ∷ []

-- with one carrier or none, and with two
abbrev pub spans : List Span
spans = for_each rackings singles

abbrev pub plated_spans : List Span
plated_spans = for_each rackings doubles

-- the definition gives that extent
abbrev pub Spans : Span → Type 0
Spans c = extent_of (record { 0 = c.racking }) c.made ≡ c.extent
