-- Floats and attachments in words: 9's reason by its columns, and what each rule of the relation does to an attachment. Assumes nothing.
use borrow.Table.Steps.{cases}
use Prim.Native.Nat.{ℕ, ◌-◌, ◌≤◌, ◌<◌}
use mathlib.Core.Path.{◌≡◌, refl, sym, ap, subst, ◌∙◌}
use mathlib.Core.Bool.{Bool, true, not, cond}
use mathlib.Core.List.{List, map}
use mathlib.Core.Logic.{◌⊎◌, inl, inr, ⊎_elim}
use native.Mathlib.Omega.{arith}
use lib.IntN.{◌-ℤ◌, nat_abs}
use lib.Dec.{eqb}
use lib.ListN.{length, get_or, set, length-set, length-map, get_or-map}
use lib.Seq.{get_or-set_same, get_or-set_other}
use borrow.Author.Tests.{eq-eqb, ne_eqb, eqb-true, eqb-false, not-true}
use Rattle.std.proofs.lemmas.Bool.{and_parts}
use Rattle.machine.specs.declared.Needle.{Needle}
use Rattle.machine.specs.declared.Column.{Column}
use Rattle.machine.specs.declared.Carrier.{Carrier}
use Rattle.machine.specs.declared.State.{State}
use Rattle.machine.specs.Limits.{float_most, carrier_count}
use Rattle.machine.specs.Machine.{inactive, carrier_of, same_needle, attached_at, moved_to}
use Rattle.machine.specs.Geometry.{column_of}
use Rattle.machine.proofs.Signed.{apart_by}
use Rattle.record.specs.declared.Record.{Record}
use Rattle.record.specs.Kinds.{XFER, IN, OUT, TUCK, SPLIT, carriers_named, loops_formed}
use Rattle.record.proofs.Shapes.{Known, Plated, Forms, is, two_carriers, plated_two, forms, loop, carrying}
use Rattle.record.proofs.Ranges.{InRange}
use Rattle.record.proofs.Forms.{form_in}
use Rattle.run.specs.Relation.{Attached, Step, with_loops, with_carrier, transferred, reparked, exit_slot, attached}
use Rattle.run.specs.Reason.{NamesCarrier, FloatTooLong, RecordReason, Reason}
use Rattle.run.specs.Yarns.{FormsWith, FarRight, Floats, FloatExactly, AttachedTo, Unattaches, Transfers, Attachment, AttachmentsExactly}
use Rattle.run.proofs.Refusals.{begun, by_number}

-- ---- floats
module _ {x : Record} {k : ℕ} where
  named_forms : Known x.kind → 1 ≤ loops_formed x.kind → NamesCarrier x k → FormsWith x k
  named_forms known formed (NamesCarrier.first a q) = go (forms known formed)
    where
      go : Forms x.kind → FormsWith x k
      go (Forms.tuck e) = FormsWith.tuck e q
      go (Forms.knit e) = FormsWith.knit e q
      go (Forms.split e) = FormsWith.split e q
      go (Forms.plated (Plated.tuck e)) = FormsWith.plated_tuck_first e q
      go (Forms.plated (Plated.knit e)) = FormsWith.plated_knit_first e q
  named_forms known formed (NamesCarrier.second a q) = go (two_carriers known a)
    where
      go : Plated x.kind → FormsWith x k
      go (Plated.tuck e) = FormsWith.plated_tuck_second e q
      go (Plated.knit e) = FormsWith.plated_knit_second e q

  first_named : Forms x.kind → x.carrier ≡ k → NamesCarrier x k × (1 ≤ loops_formed x.kind)
  first_named f q = (NamesCarrier.first (loop f).carried q, (loop f).formed)

  second_named : Plated x.kind → x.second ≡ k → NamesCarrier x k × (1 ≤ loops_formed x.kind)
  second_named p q = (NamesCarrier.second (plated_two p) q, (loop (Forms.plated p)).formed)

  forms_named : FormsWith x k → NamesCarrier x k × (1 ≤ loops_formed x.kind)
  forms_named (FormsWith.tuck e q) = first_named (Forms.tuck e) q
  forms_named (FormsWith.knit e q) = first_named (Forms.knit e) q
  forms_named (FormsWith.split e q) = first_named (Forms.split e) q
  forms_named (FormsWith.plated_tuck_first e q) = first_named (Forms.plated (Plated.tuck e)) q
  forms_named (FormsWith.plated_tuck_second e q) = second_named (Plated.tuck e) q
  forms_named (FormsWith.plated_knit_first e q) = first_named (Forms.plated (Plated.knit e)) q
  forms_named (FormsWith.plated_knit_second e q) = second_named (Plated.knit e) q

-- more than 20 columns apart
module _ (a b : Column) where
  abbrev span : ℕ
  span = nat_abs (a.0 -ℤ b.0)

  far_said : float_most < span → FarRight a b ⊎ FarRight b a
  far_said h =
      ⊎_elim {C = FarRight a b ⊎ FarRight b a} (λ e. inl (record { columns = span; over = h; apart = e })) (λ e. inr (record { columns = span; over = h; apart = e }))
      ((apart_by a.0 b.0 span).0 refl)

  far_found : FarRight a b ⊎ FarRight b a → float_most < span
  far_found =
      ⊎_elim {C = float_most < span} (λ f. omega (arith, (apart_by a.0 b.0 f.columns).1 (inl f.apart), f.over))
      (λ f. omega (arith, (apart_by a.0 b.0 f.columns).1 (inr f.apart), f.over))

module _ {s : State} {x : Record} where
  floats_said : InRange x → FloatTooLong s x → Floats s x
  floats_said h f =
      record {
        carrier = f.carrier;
        forms = named_forms h.known f.formed f.named;
        attached = f.attached;
        far = far_said (column_of (carrier_of s f.carrier).needle s.racking) (column_of x.at s.racking) f.over;
      }

  floats_found : Floats s x → FloatTooLong s x
  floats_found f =
      let (named, formed) = forms_named f.forms in
      record {
        carrier = f.carrier;
        named = named;
        formed = formed;
        attached = f.attached;
        over = far_found (column_of (carrier_of s f.carrier).needle s.racking) (column_of x.at s.racking) f.far;
      }

pub float_exactly : FloatExactly
float_exactly s l = (
  λ r. let (bytes, rest, x, e, form, q) = begun r (omega arith) in (bytes, rest, x, e, form, floats_said (form_in form) ((by_number q).float refl)),
  λ (bytes, rest, x, e, form, f). Reason.of_record bytes rest x e form (RecordReason.float_too_long refl (floats_found f)),
)

-- ---- attachments
-- the kinds of which each is said
module _ {x : Record} {k : ℕ} where
  forms_from : FormsWith x k → TUCK ≤ x.kind
  forms_from (FormsWith.tuck e q) = omega arith
  forms_from (FormsWith.knit e q) = omega arith
  forms_from (FormsWith.split e q) = omega arith
  forms_from (FormsWith.plated_tuck_first e q) = omega arith
  forms_from (FormsWith.plated_tuck_second e q) = omega arith
  forms_from (FormsWith.plated_knit_first e q) = omega arith
  forms_from (FormsWith.plated_knit_second e q) = omega arith

  no_loop : x.kind < TUCK → FormsWith x k → ⊥
  no_loop h f = omega (arith, forms_from f)

  unattaches_kind : Unattaches x k → (IN ≤ x.kind) × (x.kind ≤ OUT)
  unattaches_kind (Unattaches.by_in e q) = (omega arith, omega arith)
  unattaches_kind (Unattaches.by_out e q) = (omega arith, omega arith)

  no_end : (IN ≤ x.kind → x.kind ≤ OUT → ⊥) → Unattaches x k → ⊥
  no_end h u = let (a, b) = unattaches_kind u in h a b

  both_kinds : Unattaches x k → FormsWith x k → ⊥
  both_kinds u f = omega (arith, unattaches_kind u, forms_from f)

  -- another carrier's yarn; only plated stitches have a second
  not_its : (x.carrier ≡ k → ⊥) → (SPLIT < x.kind → x.second ≡ k → ⊥) → FormsWith x k → ⊥
  not_its a b (FormsWith.tuck e q) = a q
  not_its a b (FormsWith.knit e q) = a q
  not_its a b (FormsWith.split e q) = a q
  not_its a b (FormsWith.plated_tuck_first e q) = a q
  not_its a b (FormsWith.plated_tuck_second e q) = b (omega arith) q
  not_its a b (FormsWith.plated_knit_first e q) = a q
  not_its a b (FormsWith.plated_knit_second e q) = b (omega arith) q

  not_ended : (x.carrier ≡ k → ⊥) → Unattaches x k → ⊥
  not_ended a (Unattaches.by_in e q) = a q
  not_ended a (Unattaches.by_out e q) = a q

no_transfer : {x : Record} → (x.kind ≡ XFER → ⊥) → (x.kind ≡ SPLIT → ⊥) → Transfers x → ⊥
no_transfer a b (Transfers.by_xfer e) = a e
no_transfer a b (Transfers.by_split e) = b e

-- an attachment that goes along, and one that stays
module _ (a b : Needle) (c : Carrier) where
  goes_along : Attached c → c.needle ≡ a → moved_to a b c ≡ record { active = c.active; side = c.side; slot = c.slot; needle = b }
  unfolding moved_to attached_at same_needle
  goes_along h e = simp (ne_eqb c.side 0 h, eq-eqb c.needle.0 a.0 (ap (λ (n : Needle). n.0) e), eq-eqb c.needle.1 a.1 (ap (λ (n : Needle). n.1) e))

  attached_there : attached_at a c ≡ true → Attached c × (c.needle ≡ a)
  unfolding attached_at same_needle
  attached_there t =
      let (h, u) = and_parts (not (eqb c.side 0)) _ t in
      let (p, q) = and_parts (eqb c.needle.0 a.0) _ u in
      let bed = eqb-true c.needle.0 a.0 p in
      let number = eqb-true c.needle.1 a.1 q in
      (eqb-false c.side 0 (not-true (eqb c.side 0) h), λ i. record { 0 = bed i; 1 = number i })

  stays : (Attached c → c.needle ≡ a → ⊥) → moved_to a b c ≡ c
  unfolding moved_to
  stays d = cases (attached_at a c) (λ t. let (h, e) = attached_there t in absurd (d h e)) (λ t. simp t)

idle_stays : (a b : Needle) → moved_to a b inactive ≡ inactive
idle_stays a b = stays a b inactive (λ h e. h refl)

module _ (s : State) (x : Record) (f : InRange x) (ten : length s.carriers ≡ carrier_count) (k : ℕ) (low : 1 ≤ k) (high : k ≤ carrier_count) where
  abbrev its : Carrier
  its = carrier_of s k

  -- what becomes of it
  data Became (t : State) : Type 0 where
    ended : Unattaches x k → AttachedTo t k 0 inactive.needle → Became t
    formed : FormsWith x k → AttachedTo t k (cond x.right 2 1) x.at → Became t
    transferred_on : Transfers x → (Unattaches x k → ⊥) → (FormsWith x k → ⊥) → AttachedTo t k (moved_to x.at x.to its).side (moved_to x.at x.to its).needle → Became t
    same : (Transfers x → ⊥) → (Unattaches x k → ⊥) → (FormsWith x k → ⊥) → AttachedTo t k its.side its.needle → Became t

  -- a state where carrier k is c
  is_now : {t : State} {c : Carrier} → carrier_of t k ≡ c → AttachedTo t k c.side c.needle
  is_now e = record { side_is = ap (λ (c : Carrier). c.side) e; needle_is = ap (λ (c : Carrier). c.needle) e }

  -- where carrier j is replaced
  module _ (u : State) (many : length u.carriers ≡ carrier_count) (j : ℕ) (least : 1 ≤ j) (c : Carrier) where
    here : j ≡ k → carrier_of (with_carrier u j c) k ≡ c
    here e = ap (λ (i : ℕ). get_or (set u.carriers (i - 1) c) (k - 1) inactive) e ∙ get_or-set_same u.carriers (k - 1) c inactive (omega (arith, many))

    there : (j ≡ k → ⊥) → carrier_of (with_carrier u j c) k ≡ carrier_of u k
    there d = get_or-set_other u.carriers (j - 1) (k - 1) c inactive (λ e. d (omega arith))

  along : carrier_of (transferred s x.at x.to) k ≡ moved_to x.at x.to its
  along =
      ap (λ (d : Carrier). get_or (map (moved_to x.at x.to) s.carriers) (k - 1) d) (sym (idle_stays x.at x.to))
      ∙ get_or-map (moved_to x.at x.to) s.carriers (k - 1) inactive

  one_carrier : IN ≤ x.kind → 1 ≤ x.carrier
  one_carrier h = f.carrier_low (carrying f.known h)

  -- a kind that replaces one carrier's attachment, of the state u that has the others' as they were
  alone : (u : State) → length u.carriers ≡ carrier_count → (c : Carrier) → IN ≤ x.kind → {G : Type 0}
      → (x.carrier ≡ k → carrier_of (with_carrier u x.carrier c) k ≡ c → G) → ((x.carrier ≡ k → ⊥) → carrier_of (with_carrier u x.carrier c) k ≡ carrier_of u k → G) → G
  alone u many c h its_own other =
      is x.carrier k (λ e. its_own e (here u many x.carrier (one_carrier h) c e)) (λ d. other d (there u many x.carrier (one_carrier h) c d))

  abbrev worked : Carrier
  worked = attached (exit_slot s x) x.at x.right

  -- tuck and knit
  by_stitch : (u : State) → u.carriers ≡ s.carriers → (x.carrier ≡ k → FormsWith x k) → TUCK ≤ x.kind → x.kind < SPLIT → Became (with_carrier u x.carrier worked)
  by_stitch u e its_own h j =
      alone u (ap length e ∙ ten) worked (omega arith) (λ q w. Became.formed (its_own q) (is_now w))
      (λ d w. Became.same (no_transfer (λ q. omega arith) (λ q. omega arith)) (no_end (λ a b. omega arith)) (not_its d (λ p q. omega arith))
      (is_now (w ∙ ap (λ (l : List Carrier). get_or l (k - 1) inactive) e)))

  -- the plated ones
  by_plated : (u : State) → u.carriers ≡ s.carriers → (x.carrier ≡ k → FormsWith x k) → (x.second ≡ k → FormsWith x k) → SPLIT < x.kind → carriers_named x.kind ≡ 2
      → Became (with_carrier (with_carrier u x.carrier worked) x.second worked)
  by_plated u e first-own second-own h two =
      let v = with_carrier u x.carrier worked in
      let many : length v.carriers ≡ carrier_count = length-set u.carriers (x.carrier - 1) worked ∙ ap length e ∙ ten in
      is x.second k (λ q. Became.formed (second-own q) (is_now (here v many x.second (f.second_low two) worked q)))
      (λ d. let w = there v many x.second (f.second_low two) worked d in
      alone u (ap length e ∙ ten) worked (omega arith) (λ q z. Became.formed (first-own q) (is_now (w ∙ z)))
      (λ b z. Became.same (no_transfer (λ q. omega arith) (λ q. omega arith)) (no_end (λ a c. omega arith)) (not_its b (λ p q. d q))
      (is_now (w ∙ z ∙ ap (λ (l : List Carrier). get_or l (k - 1) inactive) e))))

  -- in and out
  by_end : (c : Carrier) → ((t : State) → AttachedTo t k c.side c.needle → AttachedTo t k 0 inactive.needle) → (x.carrier ≡ k → Unattaches x k) → IN ≤ x.kind → x.kind ≤ OUT
      → Became (with_carrier s x.carrier c)
  by_end c unattached its_own low high =
      alone s ten c low (λ q w. Became.ended (its_own q) (unattached _ (is_now w)))
      (λ d w. Became.same (no_transfer (λ q. omega arith) (λ q. omega arith)) (not_ended d) (no_loop (omega arith)) (is_now w))

  -- a kind below the stitches that ends no attachment and takes none along
  as_it_was : {t : State} → x.kind < TUCK → (x.kind ≡ XFER → ⊥) → (IN ≤ x.kind → x.kind ≤ OUT → ⊥) → AttachedTo t k its.side its.needle → Became t
  as_it_was h a b = Became.same (no_transfer a (λ q. omega arith)) (no_end b) (no_loop h)

  became : {t : State} → Step s x t → Became t
  became (Step.rack e u) = as_it_was (omega arith) (λ q. omega arith) (λ a b. omega arith) (is_now refl)
  became (Step.drop e) = as_it_was (omega arith) (λ q. omega arith) (λ a b. omega arith) (is_now refl)
  became (Step.xfer e o r) = Became.transferred_on (Transfers.by_xfer e) (no_end (λ a b. omega arith)) (no_loop (omega arith)) (is_now along)
  became (Step.carrier_in e c) = by_end _ (λ _ w. w) (Unattaches.by_in e) (omega arith) (omega arith)
  became (Step.carrier_out e p) = by_end _ (λ _ w. w) (Unattaches.by_out e) (omega arith) (omega arith)
  became (Step.miss e p) =
      alone s ten _ (omega arith)
      (λ q w. as_it_was (omega arith) (λ q. omega arith) (λ a b. omega arith) (passed q w))
      (λ d w. as_it_was (omega arith) (λ q. omega arith) (λ a b. omega arith) (is_now w))
    where
      passed : {t : State} → x.carrier ≡ k → carrier_of t k ≡ reparked (carrier_of s x.carrier) (exit_slot s x) → AttachedTo t k its.side its.needle
      passed {t} q w = subst (λ (j : ℕ). AttachedTo t k (carrier_of s j).side (carrier_of s j).needle) q (is_now w)
  became (Step.tuck e p h r) = by_stitch _ refl (FormsWith.tuck e) (omega arith) (omega arith)
  became (Step.knit e p h) = by_stitch _ refl (FormsWith.knit e) (omega arith) (omega arith)
  became (Step.split e p h o r) =
      alone (with_loops (transferred s x.at x.to) x.at 1) (length-map s.carriers (moved_to x.at x.to) ∙ ten) worked (omega arith)
      (λ q w. Became.formed (FormsWith.split e q) (is_now w))
      (λ d w. Became.transferred_on (Transfers.by_split e) (no_end (λ a b. omega arith)) (not_its d (λ p q. omega arith)) (is_now (w ∙ along)))
  became (Step.plated_tuck e two p q h i r) = by_plated _ refl (FormsWith.plated_tuck_first e) (FormsWith.plated_tuck_second e) (omega arith) (plated_two (Plated.tuck e))
  became (Step.plated_knit e two p q h i r) = by_plated _ refl (FormsWith.plated_knit_first e) (FormsWith.plated_knit_second e) (omega arith) (plated_two (Plated.knit e))

  -- so it is as the words say
  abbrev As : State → Carrier → Type 0
  As t c = AttachedTo t k c.side c.needle

  said : {t : State} → Became t → Attachment s x t k
  said (Became.ended u a) =
      record {
        ended = λ _. a;
        to_right = λ g e. absurd (both_kinds u g);
        to_left = λ g e. absurd (both_kinds u g);
        moved = λ _ g. absurd (not_moving u g.transfers);
        kept = λ d _ _. absurd (d u);
      }
    where
      not_moving : Unattaches x k → Transfers x → ⊥
      not_moving u = let (a, b) = unattaches_kind u in no_transfer (λ e. omega (arith, a)) (λ e. omega (arith, b))
  said {t} (Became.formed g a) =
      record {
        ended = λ u. absurd (both_kinds u g);
        to_right = λ _ e. subst (λ (b : Bool). AttachedTo t k (cond b 2 1) x.at) e a;
        to_left = λ _ e. subst (λ (b : Bool). AttachedTo t k (cond b 2 1) x.at) e a;
        moved = λ d _. absurd (d g);
        kept = λ _ d _. absurd (d g);
      }
  said {t} (Became.transferred_on r u d a) =
      record {
        ended = λ v. absurd (u v);
        to_right = λ g e. absurd (d g);
        to_left = λ g e. absurd (d g);
        moved = λ _ g. subst (As t) (goes_along x.at x.to its g.attached g.at_first) a;
        kept = λ _ _ g. subst (As t) (stays x.at x.to its (λ h e. g (record { transfers = r; attached = h; at_first = e }))) a;
      }
  said (Became.same r u d a) =
      record {
        ended = λ v. absurd (u v);
        to_right = λ g e. absurd (d g);
        to_left = λ g e. absurd (d g);
        moved = λ _ g. absurd (r g.transfers);
        kept = λ _ _ _. a;
      }

pub attachments_exactly : AttachmentsExactly
attachments_exactly s t bytes x k ten low high form step = let f = form_in form in said s x f ten k low high (became s x f ten k low high step)
