-- What the code's small looks at a state promise. Theorems need them, a reader of document 01 does not.
use Rattle.std.specs.Prelude.{ℕ, ◌≡◌, Bool, ◌&&◌, not, List, pos, eqb, leb, ltb}
use Rattle.machine.specs.declared.Needle.{Needle}
use Rattle.machine.specs.declared.Racking.{Racking}
use Rattle.machine.specs.declared.Carrier.{Carrier}
use Rattle.machine.specs.declared.Walked.{Walked}
use Rattle.machine.specs.Geometry.{eq_z}
use Rattle.machine.specs.Machine.{all, no_loops}
use Rattle.machine.specs.Range.{slot_ok, attachment_ok}
use Rattle.machine.specs.Walk.{hooks_looked}
use Rattle.machine.specs.Stretch.{distance_of}

-- the largest of a list, 0 of none: it is at most b exactly if every element is
abbrev pub Most : List ℕ → ℕ → Type 0
Most l m = (b : ℕ) → all (λ (n : ℕ). leb n b) l ≡ leb m b

-- whether racking and loops are an empty state's; and the hooks looked at for it
abbrev pub beds_empty : Racking → List ℕ → Bool
beds_empty r l = eq_z r.0 (pos 0) && no_loops l

abbrev pub beds_walk : Racking → List ℕ → Walked
beds_walk r l = record { none = beds_empty r l; looked = hooks_looked r l }

-- a parked carrier's slot and attachment in range
abbrev pub parked_ok : Carrier → Bool
parked_ok c = slot_ok c.slot.0 && attachment_ok c

-- whether a carrier names a needle of this number, on either bed, attached or not: where none does, code need not move attachments
abbrev pub any_beside : Needle → List Carrier → Bool
any_beside n l = not (all (λ (c : Carrier). not (eqb c.needle.1 n.1)) l)

-- whether a carrier names a needle of the back bed, attached or not: where none does, no rack carries an attachment off
abbrev pub any_back : List Carrier → Bool
any_back l = not (all (λ (c : Carrier). eqb c.needle.0 0) l)

-- whether a carrier is parked and attached, and its attachment is further off at z than at r
abbrev pub carried_off : Racking → Racking → Carrier → Bool
carried_off r z c = not (eqb c.active 0) && (not (eqb c.side 0) && ltb (distance_of r c) (distance_of z c))
