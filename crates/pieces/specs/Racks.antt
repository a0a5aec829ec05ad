-- Racks and the yarns they stretch (02, W5) as rows: racks from a state with some carriers. (Programs that lead a carrier away are in Rows.antt.)
use Rattle.std.specs.Prelude.{ℕ, ◌-◌, ◌≡◌, cond, List, [], ◌∷◌, ℤ, pos, negsuc, set, eqb}
use Rattle.machine.specs.declared.Needle.{Needle}
use Rattle.machine.specs.declared.Carrier.{Carrier}
use Rattle.machine.specs.declared.State.{State}
use Rattle.machine.specs.Machine.{empty_state, state_with}
use Rattle.panel.specs.Panel.{panel_step}
use Rattle.pieces.specs.Spelled.{f, b, rack}
use Rattle.pieces.specs.Rows.{parked}

-- ---- racks from a state: its limit, its racking, its carriers, the racking asked for (negsuc n is −1 − n), and the number
abbrev pub Rack : Type 0
Rack = ℕ × ℤ × List (ℕ × Carrier) × ℤ × ℕ

-- carriers by their numbers, the others inactive
abbrev pub carriers : List (ℕ × Carrier) → List Carrier
carriers [] = (empty_state 8).carriers
carriers ((k, c) ∷ l) = set (carriers l) (k - 1) c

abbrev pub standing : ℕ → ℤ → List (ℕ × Carrier) → State
standing limit r l = state_with (record { 0 = r }) (empty_state limit).loops limit (carriers l)

abbrev pub byte_of : ℤ → ℕ
byte_of (pos n) = n
byte_of (negsuc n) = 255 - n

-- a carrier parked at a slot, attached on the left or right of a needle, or unattached
abbrev on_left : ℤ → Needle → Carrier
on_left z n = parked z 1 n

abbrev on_right : ℤ → Needle → Carrier
on_right z n = parked z 2 n

abbrev unattached : ℤ → Carrier
unattached z = parked z 0 (f 0)

-- at limit 8, carrier 3 alone
abbrev alone : ℤ → Carrier → ℤ → ℕ → Rack
alone r c z n = (8, r, (3, c) ∷ [], z, n)

abbrev pub racks : List Rack
racks =
    -- on the right of b.100, slot 101 at racking 0, parked at 120, 19 to its right: carried off to the left to 20 it passes, to 21 it is refused
    alone (pos 0) (on_right (pos 120) (b 100)) (negsuc 0) 0 ∷ alone (pos 0) (on_right (pos 120) (b 100)) (negsuc 1) 17 ∷ alone (pos 0) (on_right (pos 120) (b 100)) (negsuc 7) 17
    ∷ alone (pos 0) (on_right (pos 120) (b 100)) (pos 1) 0 ∷ alone (pos 0) (on_right (pos 120) (b 100)) (pos 8) 0
    -- on its left, slot 100, one further: 20 at racking 0, 21 at −1
    ∷ alone (pos 0) (on_left (pos 120) (b 100)) (negsuc 0) 17 ∷ alone (pos 0) (on_left (pos 120) (b 100)) (pos 0) 0 ∷ alone (pos 0) (on_left (pos 120) (b 100)) (pos 1) 0
    ∷ alone (pos 0) (on_left (pos 119) (b 100)) (negsuc 0) 0 ∷ alone (pos 0) (on_left (pos 119) (b 100)) (negsuc 1) 17
    -- parked at 81, to the left: carried off to the right, 20 at racking 0 on the right side, 19 on the left
    ∷ alone (pos 0) (on_right (pos 81) (b 100)) (pos 1) 17 ∷ alone (pos 0) (on_right (pos 81) (b 100)) (pos 0) 0 ∷ alone (pos 0) (on_right (pos 81) (b 100)) (negsuc 0) 0
    ∷ alone (pos 0) (on_left (pos 81) (b 100)) (pos 1) 0 ∷ alone (pos 0) (on_left (pos 81) (b 100)) (pos 2) 17 ∷ alone (pos 0) (on_left (pos 81) (b 100)) (pos 8) 17 ∷ alone (pos 0) (on_left (pos 81) (b 100)) (negsuc 7) 0
    -- over 20 already, 29 at racking 0: nearer it passes, to 28 and to 21, and so does the current value; further it is refused
    ∷ alone (pos 0) (on_right (pos 130) (b 100)) (pos 1) 0 ∷ alone (pos 0) (on_right (pos 130) (b 100)) (pos 8) 0 ∷ alone (pos 0) (on_right (pos 130) (b 100)) (pos 0) 0 ∷ alone (pos 0) (on_right (pos 130) (b 100)) (negsuc 0) 17
    ∷ alone (pos 0) (on_left (pos 71) (b 100)) (negsuc 0) 0 ∷ alone (pos 0) (on_left (pos 71) (b 100)) (negsuc 7) 0 ∷ alone (pos 0) (on_left (pos 71) (b 100)) (pos 0) 0 ∷ alone (pos 0) (on_left (pos 71) (b 100)) (pos 1) 17
    -- from a racking other than 0, 'before' is at that one: 23 at −4 (19 at 0), 22 at 3 (25 at 0)
    ∷ alone (negsuc 3) (on_right (pos 120) (b 100)) (negsuc 2) 0 ∷ alone (negsuc 3) (on_right (pos 120) (b 100)) (negsuc 1) 0 ∷ alone (negsuc 3) (on_right (pos 120) (b 100)) (negsuc 3) 0 ∷ alone (negsuc 3) (on_right (pos 120) (b 100)) (negsuc 4) 17
    ∷ alone (pos 3) (on_left (pos 125) (b 100)) (pos 2) 17 ∷ alone (pos 3) (on_left (pos 125) (b 100)) (pos 0) 17 ∷ alone (pos 3) (on_left (pos 125) (b 100)) (pos 3) 0 ∷ alone (pos 3) (on_left (pos 125) (b 100)) (pos 4) 0
    -- from one end of the rackings to the other: 4 and 20, 5 and 21, and nearer again; past the carrier, 4 on its left and 12 on its right
    ∷ alone (pos 8) (on_right (pos 113) (b 100)) (negsuc 7) 0 ∷ alone (pos 8) (on_right (pos 114) (b 100)) (negsuc 7) 17 ∷ alone (negsuc 7) (on_right (pos 114) (b 100)) (pos 8) 0
    ∷ alone (negsuc 7) (on_left (pos 88) (b 100)) (pos 8) 0 ∷ alone (negsuc 7) (on_left (pos 87) (b 100)) (pos 8) 17 ∷ alone (negsuc 7) (on_left (pos 96) (b 100)) (pos 8) 0
    -- at the ends of the beds and of the slots
    ∷ alone (pos 0) (on_left (negsuc 7) (b 12)) (pos 0) 0 ∷ alone (pos 0) (on_left (negsuc 7) (b 12)) (pos 1) 17 ∷ alone (pos 0) (on_right (negsuc 7) (b 11)) (pos 1) 17 ∷ alone (pos 0) (on_right (negsuc 7) (b 10)) (pos 1) 0
    ∷ alone (pos 0) (on_right (pos 258) (b 237)) (pos 0) 0 ∷ alone (pos 0) (on_right (pos 258) (b 237)) (negsuc 0) 17 ∷ alone (pos 0) (on_left (pos 258) (b 239)) (negsuc 0) 0 ∷ alone (pos 0) (on_left (pos 258) (b 238)) (negsuc 0) 17
    ∷ alone (negsuc 0) (on_left (pos 20) (b 0)) (negsuc 1) 17 ∷ alone (pos 1) (on_left (pos 20) (b 0)) (negsuc 0) 17 ∷ alone (pos 1) (on_left (pos 20) (b 0)) (pos 0) 0 ∷ alone (negsuc 7) (on_left (pos 12) (b 0)) (negsuc 6) 0
    ∷ alone (negsuc 6) (on_left (pos 13) (b 0)) (negsuc 7) 17 ∷ alone (pos 7) (on_right (pos 237) (b 249)) (pos 8) 17 ∷ alone (pos 7) (on_right (pos 238) (b 249)) (pos 8) 0
    -- as far as there are slots: 64 and 65, 128 and 129, 255 and 256, and back; 258 and 266; 266 and 266, 250 and 266, and back
    ∷ alone (pos 0) (on_right (pos 165) (b 100)) (negsuc 0) 17 ∷ alone (pos 0) (on_left (pos 128) (b 0)) (negsuc 0) 17 ∷ alone (pos 0) (on_left (pos 255) (b 0)) (negsuc 0) 17 ∷ alone (pos 0) (on_left (pos 256) (b 0)) (pos 1) 0
    ∷ alone (pos 0) (on_left (pos 258) (b 0)) (negsuc 7) 17 ∷ alone (pos 8) (on_right (negsuc 7) (b 249)) (pos 8) 0 ∷ alone (negsuc 7) (on_right (negsuc 7) (b 249)) (pos 8) 17 ∷ alone (pos 8) (on_right (negsuc 7) (b 249)) (negsuc 7) 0
    -- a front attachment is as far at every racking
    ∷ alone (pos 0) (on_right (pos 150) (f 100)) (negsuc 7) 0 ∷ alone (pos 0) (on_right (pos 150) (f 100)) (pos 8) 0 ∷ alone (negsuc 7) (on_left (pos 50) (f 100)) (pos 8) 0 ∷ alone (pos 0) (on_right (pos 120) (f 100)) (negsuc 1) 0
    -- an unattached carrier; inactive ones alone
    ∷ alone (pos 0) (unattached (pos 200)) (negsuc 7) 0 ∷ alone (pos 0) (unattached (pos 20)) (negsuc 0) 0 ∷ alone (negsuc 7) (unattached (pos 258)) (negsuc 6) 0 ∷ (8, pos 0, [], pos 8, 0) ∷ (8, pos 0, [], negsuc 7, 0)
    -- two carriers of which the second is stretched, the first, each, none; of two, one is over 20 and the other is carried further, which stretches none
    ∷ (8, pos 0, (3, on_right (pos 110) (b 100)) ∷ (7, on_right (pos 121) (b 100)) ∷ [], negsuc 0, 17) ∷ (8, pos 0, (3, on_right (pos 121) (b 100)) ∷ (7, on_right (pos 110) (b 100)) ∷ [], negsuc 0, 17)
    ∷ (8, pos 0, (3, on_right (pos 121) (b 100)) ∷ (7, on_left (pos 120) (b 100)) ∷ [], negsuc 0, 17) ∷ (8, pos 0, (3, on_right (pos 110) (b 100)) ∷ (7, on_right (pos 120) (b 100)) ∷ [], negsuc 0, 0)
    ∷ (8, pos 0, (3, on_right (pos 130) (b 100)) ∷ (7, on_left (pos 40) (b 50)) ∷ [], pos 1, 0) ∷ (8, pos 0, (3, on_left (pos 40) (b 50)) ∷ (7, on_right (pos 130) (b 100)) ∷ [], pos 1, 0)
    ∷ (8, pos 0, (3, on_right (pos 130) (f 100)) ∷ (7, on_left (pos 40) (b 50)) ∷ [], pos 1, 0) ∷ (8, pos 0, (3, unattached (pos 130)) ∷ (7, on_right (pos 121) (b 100)) ∷ [], negsuc 0, 17)
    -- one is stretched beside one that is over 20 and comes nearer, that is over 20 and stays, in front, or that comes nearer under 20
    ∷ (8, pos 0, (3, on_right (pos 130) (b 100)) ∷ (7, on_right (pos 81) (b 100)) ∷ [], pos 1, 17) ∷ (8, pos 0, (3, on_right (pos 81) (b 100)) ∷ (7, on_right (pos 130) (b 100)) ∷ [], pos 1, 17)
    ∷ (8, pos 0, (3, on_right (pos 150) (f 100)) ∷ (7, on_right (pos 81) (b 100)) ∷ [], pos 1, 17) ∷ (8, pos 0, (3, on_right (pos 81) (b 100)) ∷ (7, on_right (pos 150) (f 100)) ∷ [], pos 1, 17)
    ∷ (8, pos 0, (3, on_right (pos 110) (b 100)) ∷ (7, on_right (pos 81) (b 100)) ∷ [], pos 1, 17)
    -- every carrier; at every limit alike
    ∷ (8, pos 0, (4, on_right (pos 121) (b 100)) ∷ [], negsuc 0, 17) ∷ (8, pos 0, (5, on_right (pos 121) (b 100)) ∷ [], negsuc 0, 17) ∷ (8, pos 0, (6, on_right (pos 81) (b 100)) ∷ [], pos 1, 17) ∷ (8, pos 0, (8, on_right (pos 81) (b 100)) ∷ [], pos 1, 17)
    ∷ (8, pos 0, (1, on_right (pos 121) (b 100)) ∷ [], negsuc 0, 17) ∷ (8, pos 0, (10, on_right (pos 121) (b 100)) ∷ [], negsuc 0, 17) ∷ (8, pos 0, (2, on_right (pos 81) (b 100)) ∷ [], pos 1, 17) ∷ (8, pos 0, (9, on_right (pos 81) (b 100)) ∷ [], pos 1, 17)
    ∷ (1, pos 0, (3, on_right (pos 121) (b 100)) ∷ [], negsuc 0, 17) ∷ (3, pos 0, (3, on_right (pos 121) (b 100)) ∷ [], negsuc 0, 17) ∷ (1, pos 0, (3, on_right (pos 120) (b 100)) ∷ [], negsuc 0, 0)
    -- 15 and 5 come first
    ∷ (0, pos 0, (3, on_right (pos 121) (b 100)) ∷ [], negsuc 0, 15) ∷ alone (pos 9) (on_right (pos 121) (b 100)) (pos 8) 15 ∷ alone (pos 0) (on_right (pos 259) (b 100)) (negsuc 0) 15
    ∷ alone (pos 0) (on_right (pos 121) (b 100)) (negsuc 8) 5 ∷ alone (negsuc 7) (on_right (pos 121) (b 100)) (negsuc 8) 5 ∷ alone (pos 0) (on_left (pos 81) (b 100)) (pos 9) 5
    ∷ []

-- number, length, and the racking and carriers that are left
abbrev pub RacksSo : Rack → Type 0
RacksSo (limit, r, l, z, n) =
    let a = panel_step (standing limit r l) (rack (byte_of z)) in
    (a.number ≡ n) × (a.length ≡ cond (eqb n 0) 2 0) × (a.state.racking.0 ≡ cond (eqb n 0) z r) × (a.state.carriers ≡ carriers l)
