-- What tucks, knits and transfers make of the loops on hooks of a limit, and their refusals: the promises of the code's small functions.
use Rattle.std.specs.Prelude.{ℕ, ◌+◌, cond, List, get_or, set, eqb, leb}
use Rattle.machine.specs.declared.Needle.{Needle}
use Rattle.machine.specs.declared.Racking.{Racking}
use Rattle.machine.specs.Machine.{hook_of}
use Rattle.machine.specs.Geometry.{column_of, same_column}
use Rattle.run.specs.Step.{first_after, first_asked}

-- v loops more, and the refusal
unfoldable pub tuck_no : ℕ → ℕ → ℕ → ℕ
tuck_no limit here v = cond (leb (here + v) limit) 0 11

unfoldable pub tucked : ℕ → List ℕ → Needle → ℕ → List ℕ
tucked limit l n v = cond (eqb (tuck_no limit (get_or l (hook_of n) 0) v) 0) (set l (hook_of n) (get_or l (hook_of n) 0 + v)) l

-- the loops that a tuck or a knit forms, plain or plated, and the refusal
unfoldable pub form_no : ℕ → ℕ → ℕ → ℕ
form_no limit kind here = cond (leb (first_asked kind here) limit) 0 11

unfoldable pub formed_loops : ℕ → ℕ → List ℕ → Needle → List ℕ
formed_loops limit kind l n =
    cond (eqb (form_no limit kind (get_or l (hook_of n) 0)) 0) (set l (hook_of n) (first_after kind (get_or l (hook_of n) 0))) l

-- the loops at a go to b, a then holds v, and its refusal
unfoldable pub transfer_no : ℕ → List ℕ → Needle → Needle → Racking → ℕ
transfer_no limit l a b r = cond (same_column (column_of a r) (column_of b r)) (cond (leb (get_or l (hook_of a) 0 + get_or l (hook_of b) 0) limit) 0 11) 10

unfoldable pub transferred_loops : ℕ → List ℕ → Needle → Needle → Racking → ℕ → List ℕ
transferred_loops limit l a b r v = cond (eqb (transfer_no limit l a b r) 0) (set (set l (hook_of a) v) (hook_of b) (get_or l (hook_of a) 0 + get_or l (hook_of b) 0)) l
