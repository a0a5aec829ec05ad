-- How records lie in a program while their starts are put in order: what the private functions ask and promise. No part of the claims.
use Rattle.std.specs.Prelude.{ℕ, ◌+◌, ◌-◌, ◌≤◌, ◌≡◌, true, List, ◌∷◌, ◌++◌, map, ℤ, nat_abs, length, take, drop, get_or}
use Rattle.machine.specs.declared.Racking.{Racking}
use Rattle.machine.specs.Limits.{program_most}
use Rattle.machine.specs.Machine.{Each}
use Rattle.record.specs.Kinds.{RACK, size_of}
use Rattle.record.specs.Names.{outline_of}
use Rattle.record.specs.Format.{byte}
use Rattle.trace.specs.House.{up_to_tied, before_greater, spot_of}
use Rattle.rewrite.specs.Programs.{flat, what, knitting}
use Rattle.rewrite.specs.Laid.{is_record}
use Rattle.house.specs.declared.Near.{Near}
use Rattle.house.specs.declared.Mover.{Mover}
use Rattle.house.specs.Order.{comes_first}

-- the record that begins at a place
unfoldable pub record_in : List ℕ → ℕ → List ℕ
record_in p a = take (size_of (byte p a)) (drop a p)

-- one does, whole, of a known kind and with its fields in range
pub record Begins (p : List ℕ) (a : ℕ) : Type 0 where
  pub is_one_record : is_record (record_in p a) ≡ true
  pub ends : a + length (record_in p a) ≤ length p

-- one does at each start of a work area, in a short program
pub record Starts (p w : List ℕ) : Type 0 where
  pub short : length p ≤ program_most
  pub begin : Each (λ (a : ℕ). Begins p a) w
  pub long : length (flat (map (record_in p) w)) ≤ length p

-- these records, in the order of their starts; the one at entry i, and those before it
abbrev pub records_at : List ℕ → List ℕ → List (List ℕ)
records_at p w = map (record_in p) w

abbrev pub record_of : List ℕ → List ℕ → ℕ → List ℕ
record_of p w i = record_in p (get_or w i 0)

-- needles in neighbouring columns have numbers that are this far apart at most, whatever their beds; the numbers within reach of one
abbrev pub reach_of : ℤ → ℕ
reach_of z = nat_abs z + 1

abbrev pub near_to : ℕ → ℕ → Near
near_to n reach = record { low = n - reach; high = n + reach }

-- of the records before entry j: how many there are up to the last that record j is tied to, and where it goes
abbrev pub tied_up_to : List ℕ → List ℕ → ℕ → Racking → ℕ
tied_up_to p w j r = up_to_tied knitting comes_first r (record_of p w j) (records_at p (take j w))

abbrev pub greater_from : List ℕ → List ℕ → ℕ → ℕ → Racking → ℕ
greater_from p w i j r = i + before_greater knitting comes_first r (record_of p w j) (drop i (records_at p (take j w)))

abbrev pub spot_at : List ℕ → List ℕ → ℕ → Racking → ℕ
spot_at p w j r = spot_of knitting comes_first r (record_of p w j) (records_at p (take j w))

-- entry j moved to k, those between one up
unfoldable pub moved : List ℕ → ℕ → ℕ → List ℕ
moved w k j = take k w ++ get_or w j 0 ∷ (take (j - k) (drop k w) ++ drop (j + 1) w)

-- a record that is put in order and is no rack, with its outline and the needles within its reach
pub record Moves (p : List ℕ) (m : Mover) : Type 0 where
  pub begins : Begins p m.at
  pub no_rack : byte p m.at ≡ RACK → ⊥
  pub outline : m.outline ≡ outline_of (what (record_in p m.at))
  pub near : m.near ≡ near_to m.outline.at.1 (reach_of m.racking.0)
