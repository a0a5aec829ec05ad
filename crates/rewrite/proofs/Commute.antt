-- Untied records change places: argued once, over any two records, by what they work and name. Assumes nothing.
use borrow.Table.Steps.{cases}
use Prim.Native.Nat.{ℕ, ◌-◌, ◌≤◌}
use mathlib.Core.Path.{◌≡◌, refl, sym, ap, ◌∙◌}
use mathlib.Core.Bool.{false, true, ◌&&◌, ◌||◌, and-false, not, cond, true≢false}
use mathlib.Core.List.{List, [], ◌∷◌}
use mathlib.Core.Option.{Option, none}
use native.Mathlib.Omega.{arith}
use lib.ListN.{get_or}
use lib.Dec.{eqb, leb}
use borrow.Author.Tests.{eq-eqb, ne_eqb, eqb-true, eqb-false, leb-true}
use Rattle.std.proofs.lemmas.Bool.{and_parts}
use Rattle.machine.specs.declared.Needle.{Needle}
use Rattle.machine.specs.declared.Racking.{Racking}
use Rattle.machine.specs.declared.Carrier.{Carrier}
use Rattle.machine.specs.declared.State.{State}
use Rattle.machine.specs.Machine.{inactive, changed, hook_of, same_needle, attached_at, moved_to}
use Rattle.machine.specs.Geometry.{column_of, same_column}
use Rattle.machine.proofs.Signed.{eq_z_true}
use Rattle.record.specs.declared.Record.{Record}
use Rattle.record.specs.Kinds.{IN, OUT, MISS, hooks_worked, carriers_named, loops_formed, is_plated, tucks}
use Rattle.record.specs.Names.{is_rack, racking_after}
use Rattle.record.proofs.Ranges.{InRange}
use Rattle.run.specs.Step.{look_of, Seen, see_of, or_number, twice_no, stretch_no, carrier_no, opposite_no, first_after, second_after, first_asked, room_no, decided_no, edit, stored, Act, act_of, acted, move_attachments, number_at, apply_of}
use Rattle.record.proofs.Shapes.{is, uncarried, formed_works, tuck_works}
use Rattle.trace.specs.Machine.{and_then}
use Rattle.rewrite.specs.Extents.{extent_of, meets, share_carrier}
use Rattle.rewrite.proofs.Machine.{stepped}
use Rattle.rewrite.proofs.Edits.{Away, Apart, apart_sym, edit_other, edit_edit, map_at, map_edit, map_map}
use Rattle.rewrite.proofs.Footprints.{hooks_of, places_of, first_hook, second_hook, first_place, second_place, Settled, hooks_apart, carriers_apart}

-- ---- a decision rests on what the record works and names
record Agree (x : Record) (a b : Seen) : Type 0 where
  racking : a.racking ≡ b.racking
  limit : a.limit ≡ b.limit
  here : 1 ≤ hooks_worked x.kind → a.here ≡ b.here
  there : hooks_worked x.kind ≡ 2 → a.there ≡ b.there
  look : 1 ≤ carriers_named x.kind → a.look ≡ b.look
  other : carriers_named x.kind ≡ 2 → a.other ≡ b.other
  stretched : is_rack x ≡ true → a.stretched ≡ b.stretched

-- a record that names no carrier asks nothing of one
unasked : (x : Record) (v : Seen) → carriers_named x.kind ≡ 0 → carrier_no x v.racking v.look v.other ≡ 0
unfolding carrier_no
unasked x v e =
    let u = uncarried x.kind e in
    simp (e, ne_eqb x.kind IN u.not_in, ne_eqb x.kind OUT u.not_out, ne_eqb x.kind MISS u.not_miss, ap (leb 1) u.forms_none)

module _ (x : Record) (a b : Seen) (g : Agree x a b) where
  same_carrier_lem : carrier_no x a.racking a.look a.other ≡ carrier_no x b.racking b.look b.other
  unfolding carrier_no
  same_carrier_lem =
      is (carriers_named x.kind) 0 (λ z. unasked x a z ∙ sym (unasked x b z))
      (λ d. let l = g.look (omega (arith, d)) in
      cases (is_plated x.kind)
      (λ t. let o = g.other (eqb-true (carriers_named x.kind) 2 t) in rw (t, l, o, g.racking))
      (λ t. rw (t, l, g.racking)))

  same_stretch : stretch_no x a.stretched ≡ stretch_no x b.stretched
  unfolding stretch_no
  same_stretch = cases (is_rack x) (λ t. let h = g.stretched t in rw (t, h)) (λ t. rw t)

  same_first : first_after x.kind a.here ≡ first_after x.kind b.here
  unfolding first_after
  same_first =
      cases (tucks x.kind) (λ e. let h = g.here (tuck_works x.kind e) in rw (e, h)) (λ e. rw e)

  same_asked : first_asked x.kind a.here ≡ first_asked x.kind b.here
  unfolding first_asked
  same_asked = ap (λ (n : ℕ). cond (tucks x.kind || is_plated x.kind) n 0) same_first

  same_second : second_after x.kind a.here a.there ≡ second_after x.kind b.here b.there
  unfolding second_after
  same_second =
      cases (eqb (hooks_worked x.kind) 2)
      (λ e. let t = eqb-true (hooks_worked x.kind) 2 e in let h = g.here (omega arith) in let k = g.there t in rw (e, h, k))
      (λ e. rw e)

  same_number : decided_no x a ≡ decided_no x b
  unfolding decided_no room_no
  same_number = cc (same_stretch, same_carrier_lem, same_asked, same_second, g.racking, g.limit)

-- the state after a record, by what it saw
abbrev after : State → Record → Seen → State
after s x v =
    changed s (racking_after v.racking x) (edit stored 0 (hooks_of x) (first_after x.kind v.here ∷ second_after x.kind v.here v.there ∷ []) s.loops)
    (edit acted inactive (places_of x) (act_of x v.racking ∷ act_of x v.racking ∷ []) (move_attachments x s.carriers))

after_is : (s : State) (x : Record) → apply_of s x ≡ after s x (see_of s x)
unfolding apply_of see_of
after_is s x = refl

same_after : (s : State) (x : Record) (a b : Seen) → Agree x a b → after s x a ≡ after s x b
same_after s x a b g = cc (same_first x a b g, same_second x a b g, g.racking)

-- ---- attachments
pub needle_eq : (a b : Needle) → same_needle a b ≡ true → a ≡ b
unfolding same_needle
needle_eq a b e =
    let (p, q) = and_parts (eqb a.0 b.0) (eqb a.1 b.1) e in
    let bed = eqb-true a.0 b.0 p in let number = eqb-true a.1 b.1 q in
    λ i. record { 0 = bed i; 1 = number i }

other_needle : (a b : Needle) → (hook_of a ≡ hook_of b → ⊥) → same_needle a b ≡ false
other_needle a b h = cases (same_needle a b) (λ e. absurd (h (ap hook_of (needle_eq a b e)))) (λ e. e)

-- a record sees no change where an attachment moves within a column
look_moved : (r : Racking) (a b : Needle) (c : Carrier) → column_of a r ≡ column_of b r → look_of r (moved_to a b c) ≡ look_of r c
unfolding look_of moved_to attached_at
look_moved r a b c e =
    cases (attached_at a c)
    (λ g. let (side, here) = and_parts (not (eqb c.side 0)) (same_needle c.needle a) g in
    let q : column_of c.needle r ≡ column_of b r = ap (λ (n : Needle). column_of n r) (needle_eq c.needle a here) ∙ e in
    rw (g, q))
    (λ g. rw g)

-- an act keeps the attachment, makes none, or makes one at another needle than a
abbrev Free : Needle → Act → Type 0
Free a v = v.keep ≡ false → (not (eqb v.side 0) && same_needle v.needle a) ≡ false

moved_acted : (a b : Needle) (v : Act) → Free a v → (c : Carrier) → moved_to a b (acted v c) ≡ acted v (moved_to a b c)
unfolding moved_to attached_at acted
moved_acted a b v f c =
    cases v.keep
    (λ k. cases (attached_at a c) (λ g. rw (k, g)) (λ g. rw (k, g)))
    (λ k. rw (k, f k))

moved_moved : (a b c d : Needle) → same_needle a c ≡ false → same_needle d a ≡ false → same_needle b c ≡ false
    → (k : Carrier) → moved_to a b (moved_to c d k) ≡ moved_to c d (moved_to a b k)
unfolding moved_to attached_at
moved_moved a b c d p q w k =
    cases (eqb k.side 0) (λ t. simp t)
    (λ t. cases (same_needle k.needle a)
    (λ g. let h : same_needle k.needle c ≡ false = ap (λ (n : Needle). same_needle n c) (needle_eq k.needle a g) ∙ p in simp (t, g, h, w))
    (λ g. cases (same_needle k.needle c) (λ h. simp (t, g, h, q)) (λ h. simp (t, g, h))))

act_free : (x : Record) (r : Racking) (a : Needle) → (1 ≤ hooks_worked x.kind → same_needle x.at a ≡ false) → Free a (act_of x r)
unfolding act_of
act_free x r a h =
    cases (leb 1 (loops_formed x.kind))
    (λ e. rw e (λ k. rw (h (formed_works x.kind (leb-true 1 (loops_formed x.kind) e))) (and-false (not (eqb (cond x.right 2 1) 0)))))
    (λ e. cases (eqb x.kind OUT) (λ f. rw (e, f) (λ k. refl))
    (λ f. cases (eqb x.kind MISS) (λ g. rw (e, f, g) (λ k. absurd (true≢false k))) (λ g. rw (e, f, g) (λ k. refl))))

inactive_moved : (a b : Needle) → moved_to a b inactive ≡ inactive
unfolding moved_to attached_at
inactive_moved a b = refl

-- ---- records apart at a racking
record Clear (r : Racking) (x y : Record) : Type 0 where
  no_rack : is_rack x ≡ false
  racking : racking_after r y ≡ r
  opposite : hooks_worked y.kind ≡ 2 → column_of y.at r ≡ column_of y.to r
  hooks : Apart (hooks_of x) (hooks_of y)
  carriers : Apart (places_of x) (places_of y)

module _ (s : State) (x y : Record) (C : Clear s.racking x y) where
  -- what each carrier of a record does
  abbrev acts : Record → List Act
  acts z = act_of z s.racking ∷ act_of z s.racking ∷ []

  -- hooks of x are none of y's
  first_away : 1 ≤ hooks_worked x.kind → Away (hook_of x.at) (hooks_of y)
  first_away t = first_hook (λ (i : ℕ). Away i (hooks_of y)) x C.hooks t

  second_away : hooks_worked x.kind ≡ 2 → Away (hook_of x.to) (hooks_of y)
  second_away t = second_hook (λ (i : ℕ). Away i (hooks_of y)) x C.hooks t

  look_kept : (cs : List Carrier) (i : ℕ) → look_of s.racking (get_or (move_attachments y cs) i inactive) ≡ look_of s.racking (get_or cs i inactive)
  unfolding move_attachments
  look_kept cs i =
      cases (eqb (hooks_worked y.kind) 2)
      (λ e. rw e (ap (look_of s.racking) (map_at acted inactive (moved_to y.at y.to) (inactive_moved y.at y.to) cs i)
      ∙ look_moved s.racking y.at y.to (get_or cs i inactive) (C.opposite (eqb-true (hooks_worked y.kind) 2 e))))
      (λ e. rw e)

  -- after y, x sees what it saw
  still_seen : Agree x (see_of (apply_of s y) x) (see_of s x)
  unfolding see_of apply_of
  still_seen =
      record {
        racking = C.racking;
        limit = refl;
        here = λ t. edit_other stored 0 (hooks_of y) _ s.loops (hook_of x.at) (first_away t);
        there = λ t. edit_other stored 0 (hooks_of y) _ s.loops (hook_of x.to) (second_away t);
        look = λ t. seen_again (x.carrier - 1) (first_place (λ (i : ℕ). Away i (places_of y)) x C.carriers t);
        other = λ t. seen_again (x.second - 1) (second_place (λ (i : ℕ). Away i (places_of y)) x C.carriers t);
        -- a rack looks at all carriers, but none is apart from another record
        stretched = λ t. absurd (true≢false (sym t ∙ C.no_rack));
      }
    where
      seen_again : (i : ℕ) → Away i (places_of y)
          → look_of (racking_after s.racking y) (get_or (edit acted inactive (places_of y) (acts y) (move_attachments y s.carriers)) i inactive) ≡ look_of s.racking (get_or s.carriers i inactive)
      seen_again i away =
          rw (C.racking, edit_other acted inactive (places_of y) (acts y) (move_attachments y s.carriers) i away) (look_kept s.carriers i)

  -- the attachments that y moves are not the one that x makes
  moves_edit : (cs : List Carrier)
      → move_attachments y (edit acted inactive (places_of x) (acts x) cs) ≡ edit acted inactive (places_of x) (acts x) (move_attachments y cs)
  unfolding move_attachments
  moves_edit cs =
      cases (eqb (hooks_worked y.kind) 2)
      (λ e. let t = eqb-true (hooks_worked y.kind) 2 e in
      let free : (c : Carrier) → moved_to y.at y.to (acted (act_of x s.racking) c) ≡ acted (act_of x s.racking) (moved_to y.at y.to c) =
      moved_acted y.at y.to (act_of x s.racking) (act_free x s.racking y.at
      (λ u. other_needle x.at y.at (first_hook (λ (j : ℕ). hook_of x.at ≡ j → ⊥) y (first_away u) (omega arith)))) in
      rw e (map_edit acted inactive (moved_to y.at y.to) (inactive_moved y.at y.to) (places_of x) (acts x) cs (free, (free, tt))))
      (λ e. rw e)

  moves_moves : (cs : List Carrier) → move_attachments x (move_attachments y cs) ≡ move_attachments y (move_attachments x cs)
  unfolding move_attachments
  moves_moves cs =
      cases (eqb (hooks_worked x.kind) 2)
      (λ e. cases (eqb (hooks_worked y.kind) 2)
      (λ f. let t = eqb-true (hooks_worked x.kind) 2 e in let u = eqb-true (hooks_worked y.kind) 2 f in
      let first = first_away (omega arith) in let second = second_away t in
      rw (e, f) (map_map (moved_to x.at x.to) (moved_to y.at y.to)
      (moved_moved x.at x.to y.at y.to
      (other_needle x.at y.at (first_hook (λ (j : ℕ). hook_of x.at ≡ j → ⊥) y first (omega arith)))
      (other_needle y.to x.at (λ q. second_hook (λ (j : ℕ). hook_of x.at ≡ j → ⊥) y first u (sym q)))
      (other_needle x.to y.at (first_hook (λ (j : ℕ). hook_of x.to ≡ j → ⊥) y second (omega arith)))) cs))
      (λ f. rw (e, f)))
      (λ e. rw e)

-- ---- two records apart, in either order
module _ (s : State) (x y : Record) (C : Clear s.racking x y) (D : Clear s.racking y x) where
  abbrev xs : Seen
  xs = see_of s x

  abbrev ys : Seen
  ys = see_of s y

  both_racking : (after (after s x xs) y ys).racking ≡ (after (after s y ys) x xs).racking
  unfolding see_of
  both_racking = C.racking ∙ sym D.racking

  both_loops : (after (after s x xs) y ys).loops ≡ (after (after s y ys) x xs).loops
  both_loops = edit_edit stored 0 (hooks_of y) (hooks_of x) _ _ s.loops D.hooks

  both_carriers : (after (after s x xs) y ys).carriers ≡ (after (after s y ys) x xs).carriers
  unfolding see_of
  both_carriers =
      let A = edit acted inactive (places_of x) (acts s x y C x) in
      let B = edit acted inactive (places_of y) (acts s x y C y) in
      ap B (moves_edit s x y C (move_attachments x s.carriers))
      ∙ edit_edit acted inactive (places_of y) (places_of x) (acts s x y C y) (acts s x y C x) (move_attachments y (move_attachments x s.carriers)) D.carriers
      ∙ ap (λ (l : List Carrier). A (B l)) (sym (moves_moves s x y C s.carriers))
      ∙ ap A (sym (moves_edit s y x D (move_attachments y s.carriers)))

  both_after : after (after s x xs) y ys ≡ after (after s y ys) x xs
  both_after = let a = both_racking in let b = both_loops in let c = both_carriers in λ i. record { racking = a i; loops = b i; limit = s.limit; carriers = c i }

  first_then : apply_of (apply_of s x) y ≡ after (after s x xs) y ys
  first_then =
      after_is (apply_of s x) y ∙ same_after (apply_of s x) y (see_of (apply_of s x) y) ys (still_seen s y x D)
      ∙ ap (λ (t : State). after t y ys) (after_is s x)

  second_then : apply_of (apply_of s y) x ≡ after (after s y ys) x xs
  second_then =
      after_is (apply_of s y) x ∙ same_after (apply_of s y) x (see_of (apply_of s y) x) xs (still_seen s x y C)
      ∙ ap (λ (t : State). after t x xs) (after_is s y)

  both_applied : apply_of (apply_of s x) y ≡ apply_of (apply_of s y) x
  both_applied = first_then ∙ both_after ∙ sym second_then

  same_y : number_at (apply_of s x) y ≡ number_at s y
  unfolding number_at
  same_y = same_number y (see_of (apply_of s x) y) ys (still_seen s y x D)

  same_x : number_at (apply_of s y) x ≡ number_at s x
  unfolding number_at
  same_x = same_number x (see_of (apply_of s y) x) xs (still_seen s x y C)

  -- refused in one order, refused in the other
  both_stepped : and_then (stepped s x) (λ t. stepped t y) ≡ and_then (stepped s y) (λ t. stepped t x)
  both_stepped =
      let p = same_y in let q = same_x in let e = both_applied in
      cases (eqb (number_at s x) 0)
      (λ f. cases (eqb (number_at s y) 0) (λ g. simp (f, g, p, q, e)) (λ g. simp (f, g, p)))
      (λ f. cases (eqb (number_at s y) 0) (λ g. simp (f, g, q)) (λ g. simp (f, g)))

-- ---- what a record that has its step is
kept_racking : (x : Record) (r : Racking) → is_rack x ≡ false → racking_after r x ≡ r
kept_racking x r e = simp e

or_left : (a b : ℕ) → or_number a b ≡ 0 → a ≡ 0
or_left a b e = cases (eqb a 0) (λ h. eqb-true a 0 h) (λ h. sym (simp h) ∙ e)

or_right : (a b : ℕ) → or_number a b ≡ 0 → b ≡ 0
or_right a b e = cases (eqb a 0) (λ h. sym (simp h) ∙ e) (λ h. absurd (eqb-false a 0 h (sym (simp h) ∙ e)))

-- its two needles are opposite, which rests on the racking alone
number_opposite : (s : State) (x : Record) → number_at s x ≡ 0 → opposite_no x s.racking ≡ 0
unfolding number_at decided_no see_of
number_opposite s x e =
    or_left (opposite_no x s.racking) _ (or_right (carrier_no x s.racking (see_of s x).look (see_of s x).other) _ (or_right (stretch_no x (see_of s x).stretched) _ (or_right (twice_no x) _ e)))

opposite_columns : (x : Record) (r : Racking) → opposite_no x r ≡ 0 → hooks_worked x.kind ≡ 2 → column_of x.at r ≡ column_of x.to r
unfolding opposite_no same_column
opposite_columns x r e t =
    cases (same_column (column_of x.at r) (column_of x.to r)) (λ q. let z = eq_z_true (column_of x.at r).0 (column_of x.to r).0 q in λ i. record { 0 = z i })
    (λ q. absurd (ten (sym (simp (eq-eqb (hooks_worked x.kind) 2 t, q)) ∙ e)))
  where
    ten : ◌≡◌ {A = ℕ} 10 0 → ⊥
    ten e = omega arith

settled : (r : Racking) (x : Record) → InRange x → opposite_no x r ≡ 0 → Settled r x
settled r x h e = record { in_range = h; opposite = opposite_columns x r e }

pub number_settled : (s : State) (x : Record) → InRange x → number_at s x ≡ 0 → Settled s.racking x
number_settled s x h e = settled s.racking x h (number_opposite s x e)

-- a record whose needles are not opposite at this racking is refused in either order
refused : (s : State) (x : Record) (r : Racking) → s.racking ≡ r → (opposite_no x r ≡ 0 → ⊥) → stepped s x ≡ none
refused s x r e h = simp (ne_eqb (number_at s x) 0 (λ q. h (sym (ap (opposite_no x) e) ∙ number_opposite s x q)))

pub racking_applied : (s : State) (x : Record) → (apply_of s x).racking ≡ racking_after s.racking x
unfolding apply_of
racking_applied s x = refl

refused_both : (s : State) (x y : Record) → racking_after s.racking y ≡ s.racking → (opposite_no x s.racking ≡ 0 → ⊥)
    → and_then (stepped s x) (λ t. stepped t y) ≡ and_then (stepped s y) (λ t. stepped t x)
refused_both s x y q h =
    let a = refused s x s.racking refl h in
    let b = refused (apply_of s y) x s.racking (racking_applied s y ∙ q) h in
    ap (λ (o : Option State). and_then o (λ t. stepped t y)) a
    ∙ cases (eqb (number_at s y) 0) (λ e. simp e (sym b)) (λ e. simp e)

-- untied records, each with its step or refused, do the same in either order
pub untied_commute : (s : State) (x y : Record) → InRange x → InRange y → is_rack x ≡ false → is_rack y ≡ false → share_carrier x y ≡ false
    → meets (extent_of s.racking x) (extent_of s.racking y) ≡ false
    → and_then (stepped s x) (λ t. stepped t y) ≡ and_then (stepped s y) (λ t. stepped t x)
untied_commute s x y g h a b c d =
    let r = s.racking in
    let keep-x = kept_racking x r a in let keep-y = kept_racking y r b in
    is (opposite_no x r) 0
    (λ p. is (opposite_no y r) 0
    (λ q. let S = settled r x g p in let T = settled r y h q in
    let hooks = hooks_apart r x y S T d in let carriers = carriers_apart x y g h c in
    both_stepped s x y (record { no_rack = a; racking = keep-y; opposite = T.opposite; hooks = hooks; carriers = carriers })
    (record { no_rack = b; racking = keep-x; opposite = S.opposite; hooks = apart_sym (hooks_of x) (hooks_of y) hooks; carriers = apart_sym (places_of x) (places_of y) carriers }))
    (λ q. sym (refused_both s y x keep-x q)))
    (λ p. refused_both s x y keep-y p)
