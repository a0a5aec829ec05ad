-- A text of 88,307 bytes holds every listing whole, so that nothing is cut off. Assumes nothing.
use Prim.Native.Nat.{ℕ, zero, suc, ◌+◌, ◌*◌, ◌/◌, ◌%◌, ◌≤◌}
use mathlib.Core.Path.{◌≡◌, ◌∙◌}
use mathlib.Core.Bool.{Bool, true, false, cond}
use mathlib.Core.List.{List, [], ◌∷◌, ◌++◌}
use native.Mathlib.Omega.{arith}
use native.Mathlib.Nat.{mul-suc}
use lib.Dec.{eqb, ltb}
use lib.IntN.{ℤ, pos, negsuc}
use lib.ListN.{length, take, drop, length-append, length-take, length-drop}
use lib.Seq.{take_all}
use Rattle.machine.specs.declared.Carrier.{Carrier}
use Rattle.machine.specs.declared.State.{State}
use Rattle.run.specs.declared.Answer.{Answer}
use Rattle.listing_text.specs.Grown.{Grown}
use Rattle.listing_text.specs.Text.{digits_of, figures, signed, letter_of, sign_of, flag_of, hex_of, lines, hook_line, hook_lines, attachment_of, carrier_line, carrier_lines, racking_line, bytes_of, program_line, beds_of, state_of, shown_of, listing_of}
use Rattle.listing_text.specs.Listed.{listed_of}
use Rattle.rewrite.specs.Rewrite.{rewrite_of}
use Rattle.rewrite.proofs.Rewriting.{state_size, output_length}

-- at most so many bytes
record Short (m : ℕ) (l : List ℕ) : Type 0 where
  most : length l ≤ m

either : {m : ℕ} {x y : List ℕ} (b : Bool) → Short m x → Short m y → Short m (cond b x y)
either true h k = h
either false h k = k

join : {m n : ℕ} {x y : List ℕ} → Short m x → Short n y → Short (m + n) (x ++ y)
join {m} {n} {x} {y} h k = record { most = omega (arith, length-append x y, h.most, k.most) }

-- at most 20 digits, and a hyphen
digits : (k n : ℕ) → Short k (digits_of k n)
unfolding digits_of
digits zero n = record { most = omega arith }
digits (suc k) n =
    either (ltb n 10) (record { most = omega arith })
    (record { most = omega (arith, (digits k (n / 10)).most, length-append (digits_of k (n / 10)) ((48 + n % 10) ∷ [])) })

number : (n : ℕ) → Short 20 (figures n)
number n = digits 20 n

whole : (z : ℤ) → Short 21 (signed z)
whole (pos n) = record { most = omega (arith, (number n).most) }
whole (negsuc n) = record { most = omega (arith, (number (suc n)).most) }

-- as many lines as things, each of at most m bytes
many : {A : Type 0} (f : ℕ → A → List ℕ) (m : ℕ) → ((k : ℕ) (x : A) → Short m (f k x)) → (k : ℕ) (l : List A) → Short (m * length l) (lines f k l)
unfolding lines
many f m h k [] = record { most = omega arith }
many f m h k (x ∷ l) = record { most = omega (arith, (h k x).most, (many f m h (suc k) l).most, length-append (f k x) (lines f (suc k) l), mul-suc m (length l)) }

-- bytes written out
some : (m : ℕ) (l : List ℕ) → length l ≤ m → Short m l
some m l h = record { most = h }

hook : (bed n x : ℕ) → Short 44 (hook_line bed n x)
unfolding hook_line
hook bed n x =
    either (eqb x 0) (some 44 [] (omega arith))
    (join (some 2 (letter_of bed ∷ 32 ∷ []) (omega arith)) (join (number n) (join (some 1 (32 ∷ []) (omega arith)) (join (number x) (some 1 (10 ∷ []) (omega arith))))))

attachment : (c : Carrier) → Short 26 (attachment_of c)
unfolding attachment_of
attachment c =
    either (eqb c.side 0) (some 26 (32 ∷ 110 ∷ 111 ∷ 110 ∷ 101 ∷ 10 ∷ []) (omega arith))
    (join (some 3 (32 ∷ letter_of c.needle.0 ∷ 32 ∷ []) (omega arith)) (join (number c.needle.1) (some 3 (32 ∷ sign_of c.side ∷ 10 ∷ []) (omega arith))))

carrier : (k : ℕ) (c : Carrier) → Short 70 (carrier_line k c)
unfolding carrier_line
carrier k c =
    either (eqb c.active 0) (some 70 [] (omega arith))
    (join (some 2 (99 ∷ 32 ∷ []) (omega arith)) (join (number k) (join (some 1 (32 ∷ []) (omega arith)) (join (whole c.slot.0) (attachment c)))))

racking : (z : ℤ) → Short 24 (racking_line z)
racking z = join (some 2 (114 ∷ 32 ∷ []) (omega arith)) (join (whole z) (some 1 (10 ∷ []) (omega arith)))

beds : (l : List ℕ) → length l ≤ 500 → Short 22000 (beds_of l)
unfolding beds_of
beds l h =
    record {
      most =
          omega (arith, (many (hook_line 0) 44 (hook 0) 0 (take 250 l)).most, (many (hook_line 1) 44 (hook 1) 0 (drop 250 l)).most, length-append (hook_lines 0 (take 250 l)) (hook_lines 1 (drop 250 l)), length-take 250 l, length-drop 250 l);
    }

hex : (k b : ℕ) → Short 2 (hex_of b)
hex k b = some 2 (hex_of b) (omega arith)

bytes : (l : List ℕ) → length l ≤ 32768 → Short 65536 (bytes_of l)
bytes l h = record { most = omega (arith, (many (λ k b. hex_of b) 2 hex 0 l).most) }

program : (l : List ℕ) → length l ≤ 32768 → Short 65539 (program_line l)
unfolding program_line
program [] h = some 65539 (112 ∷ 10 ∷ []) (omega arith)
program (b ∷ l) h = join (some 2 (112 ∷ 32 ∷ []) (omega arith)) (join (bytes (b ∷ l) h) (some 1 (10 ∷ []) (omega arith)))

carriers : (l : List Carrier) → length l ≤ 10 → Short 700 (carrier_lines l)
carriers l h = record { most = omega (arith, (many carrier_line 70 carrier 1 l).most) }

-- a machine's state: 500 hooks and ten carriers
state : (s : State) → length s.loops ≤ 500 → length s.carriers ≤ 10 → Short 22724 (state_of s)
unfolding state_of
state s h k = join (racking s.racking.0) (join (beds s.loops h) (carriers s.carriers k))

longest : (a : Answer) (l : List ℕ) → length a.state.loops ≤ 500 → length a.state.carriers ≤ 10 → length l ≤ 32768 → Short 88307 (listing_of a l)
unfolding listing_of
longest a l h k n =
    join (number a.number) (join (some 1 (32 ∷ []) (omega arith)) (join (number a.place) (join (some 3 (32 ∷ flag_of a.complete ∷ 10 ∷ []) (omega arith)) (join (state a.state h k) (program l n)))))

-- so that a text of 88,307 bytes holds the listing of every call whose output has 32,768
pub uncut : (limit : ℕ) (program log output work old new : List ℕ) (end : ℕ) → Grown old 0 (listed_of limit program log output work) new end → length output ≤ 32768 → 88307 ≤ length old
    → take end new ≡ listed_of limit program log output work
unfolding listed_of
uncut limit program log output work old new end g h r =
    let w = rewrite_of limit program log output work in
    let n = shown_of w.answer.number (length program) in
    let size = state_size limit program log output work in
    let long = longest w.answer (take n w.output) (omega (arith, size.loops)) (omega (arith, size.carriers)) (omega (arith, length-take n w.output, output_length limit program log output work)) in
    g.text ∙ take_all (length old) (listing_of w.answer (take n w.output)) (omega (arith, long.most))
