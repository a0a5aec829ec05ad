-- Needles, and records as their bytes (document 01, 'Records'; 02, W1): what the rows are written in.
use Rattle.std.specs.Prelude.{ℕ, List, [], ◌∷◌}
use Rattle.machine.specs.declared.Needle.{Needle}

abbrev pub f : ℕ → Needle
f n = record { 0 = 0; 1 = n }

abbrev pub b : ℕ → Needle
b n = record { 0 = 1; 1 = n }

-- directions
abbrev pub left : ℕ
left = 0

abbrev pub right : ℕ
right = 1

-- the kinds; a racking is given by its byte, 255 for −1 and 248 for −8, a second needle, on the other bed, by its number; bring_in and take_out are 01's in and out
abbrev pub rack : ℕ → List ℕ
rack r = 1 ∷ r ∷ []

abbrev pub drop : Needle → List ℕ
drop n = 2 ∷ n.0 ∷ n.1 ∷ []

abbrev pub xfer : Needle → ℕ → List ℕ
xfer n m = 3 ∷ n.0 ∷ n.1 ∷ m ∷ []

abbrev pub bring_in : ℕ → Needle → ℕ → List ℕ
bring_in d n k = 4 ∷ d ∷ n.0 ∷ n.1 ∷ k ∷ []

abbrev pub take_out : ℕ → Needle → ℕ → List ℕ
take_out d n k = 5 ∷ d ∷ n.0 ∷ n.1 ∷ k ∷ []

abbrev pub miss : ℕ → Needle → ℕ → List ℕ
miss d n k = 6 ∷ d ∷ n.0 ∷ n.1 ∷ k ∷ []

abbrev pub tuck : ℕ → Needle → ℕ → List ℕ
tuck d n k = 7 ∷ d ∷ n.0 ∷ n.1 ∷ k ∷ []

abbrev pub knit : ℕ → Needle → ℕ → List ℕ
knit d n k = 8 ∷ d ∷ n.0 ∷ n.1 ∷ k ∷ []

abbrev pub split : ℕ → Needle → ℕ → ℕ → List ℕ
split d n k m = 9 ∷ d ∷ n.0 ∷ n.1 ∷ k ∷ m ∷ []

-- with two carriers
abbrev pub plated_tuck : ℕ → Needle → ℕ → ℕ → List ℕ
plated_tuck d n k j = 10 ∷ d ∷ n.0 ∷ n.1 ∷ k ∷ j ∷ []

abbrev pub plated_knit : ℕ → Needle → ℕ → ℕ → List ℕ
plated_knit d n k j = 11 ∷ d ∷ n.0 ∷ n.1 ∷ k ∷ j ∷ []
