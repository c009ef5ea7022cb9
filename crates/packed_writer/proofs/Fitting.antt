-- The steps of a routine are those of its type.
use Rattle.std.proofs.Common.{◌≡◌, ℕ, zero, suc, ◌+◌, Bool, true, false, List, [], ◌∷◌, ◌++◌, length, drop, refl, sym, ap, subst, ◌∙◌, arith}
use Rattle.std.specs.Prelude.{Option, Some, None, slice_get, ℤ, if◌then◌else◌}
use Rattle.std.specs.List.{AllByRecursion}
use Rattle.asn_base.specs.Types.{Alternative, Component, Constraint, Kind, Resolved, a_null, a_boolean, an_integer, an_enumerated, a_bit_string, a_named_bit_string, an_octet_string, an_object_identifier, a_relative_oid, a_utf8_string, a_restricted_string, a_sequence, a_set, a_sequence_of, a_set_of, a_choice}
use Rattle.asn_base.specs.Same.{IsLeaf}
use Rattle.asn_base.specs.Schemas.{components, is_addition}
use Rattle.asn_base.specs.Typed.{group_of}
use Rattle.packed_encodings.specs.Computed.{kind_at}
use Rattle.asn_base.specs.Order.{precedes}
use Rattle.packed_encodings.specs.Orders.{Member, component, root_members, past_marker, placed_by_tag, canonical, Addition, alone, bracketed, additions, in_front, is_of_group}
use Rattle.packed_code.specs.declared.step.PackedStep.{PackedStep}
use Rattle.packed_code.specs.declared.step.PackedStep.TheVariants as steps
use Rattle.packed_code.specs.Routines.{placed_from, place_in, field_at, root_steps, member_steps, addition_steps, mark_if, rest_if, structure, root_calls, more_calls, integer_step, routine_of, routine_at}
use Rattle.packed_writer.specs.proving.Values.{FieldFits, FieldsFit, StepsFit}

-- a component at its own place
abbrev AtPlace : List Component → Member ℕ → Type 0
AtPlace cs m = slice_get cs (place_in m) ≡ Some (component m)

abbrev Placed' : Type 0
Placed' = Member ℕ

-- ---- all members are at their places

from_place : (all cs : List Component) (i : ℕ) → ((j : ℕ) (c : Component) → slice_get cs j ≡ Some c → slice_get all (i + j) ≡ Some c) → AllByRecursion (AtPlace all) (placed_from i cs)
from_place all [] i h = tt
from_place all (c ∷ cs) i h = (
  ap (slice_get all) (let k : i ≡ i + 0 = omega arith in k) ∙ h 0 c refl,
  from_place all cs (suc i) (λ j d e. ap (slice_get all) (let k : suc i + j ≡ i + suc j = omega arith in k) ∙ h (suc j) d e),
)

pub all_placed : (cs : List Component) → AllByRecursion (AtPlace cs) (placed_from 0 cs)
all_placed cs = from_place cs cs 0 (λ j c e. ap (slice_get cs) (let k : 0 + j ≡ j = omega arith in k) ∙ e)

module _ (P : Placed' → Type 0) where
  in_root : (ms : List Placed') → AllByRecursion P ms → AllByRecursion P (root_members ms)
  in_root [] a = tt
  in_root (m ∷ ms) a = by (is_addition (component m)) (in_root ms a.1)
    where
      by : (b : Bool) → AllByRecursion P (root_members ms) → AllByRecursion P (if b then root_members ms else m ∷ root_members ms)
      by true r = r
      by false r = (a.0, r)

  after_marker : (ms : List Placed') → AllByRecursion P ms → AllByRecursion P (past_marker ms)
  after_marker [] a = tt
  after_marker (m ∷ ms) a = by (is_addition (component m)) (after_marker ms a.1)
    where
      by : (b : Bool) → AllByRecursion P (past_marker ms) → AllByRecursion P (if b then m ∷ past_marker ms else past_marker ms)
      by true r = (a.0, r)
      by false r = r

  at_place : (s : List Resolved) (m : Placed') (ms : List Placed') → P m → AllByRecursion P ms → AllByRecursion P (placed_by_tag s m ms)
  at_place s m [] p a = (p, tt)
  at_place s m (n ∷ ms) p a = by (precedes s (component n).type (component m).type) (at_place s m ms p a.1)
    where
      by : (b : Bool) → AllByRecursion P (placed_by_tag s m ms) → AllByRecursion P (if b then n ∷ placed_by_tag s m ms else m ∷ (n ∷ ms))
      by true r = (a.0, r)
      by false r = (p, a)

  in_order : (s : List Resolved) (ms : List Placed') → AllByRecursion P ms → AllByRecursion P (canonical s ms)
  in_order s [] a = tt
  in_order s (m ∷ ms) a = at_place s m (canonical s ms) a.0 (in_order s ms a.1)

  abbrev OfAddition : Addition ℕ → Type 0
  OfAddition (alone m) = P m
  OfAddition (bracketed ms) = AllByRecursion P ms

  put_front : (g : Option ℕ) (m : Placed') (ds : List (Addition ℕ)) → P m → AllByRecursion OfAddition ds → AllByRecursion OfAddition (in_front g m ds)
  put_front None m ds p a = (p, a)
  put_front (Some g) m [] p a = ((p, tt), tt)
  put_front (Some g) m (alone n ∷ ds) p a = ((p, tt), a)
  put_front (Some g) m (bracketed [] ∷ ds) p a = ((p, tt), a)
  put_front (Some g) m (bracketed (n ∷ ns) ∷ ds) p a = by (is_of_group g n)
    where
      by : (b : Bool) → AllByRecursion OfAddition (if b then bracketed (m ∷ (n ∷ ns)) ∷ ds else bracketed (m ∷ []) ∷ (bracketed (n ∷ ns) ∷ ds))
      by true = ((p, a.0), a.1)
      by false = ((p, tt), a)

  of_additions : (ms : List Placed') → AllByRecursion P ms → AllByRecursion OfAddition (additions ms)
  of_additions [] a = tt
  of_additions (m ∷ ms) a = put_front (group_of (component m).presence) m (additions ms) a.0 (of_additions ms a.1)

-- ---- steps

module _ (s : List Resolved) (t : ℕ) where
  member_fits : (cs : List Component) (m : Placed') → components (kind_at s t) ≡ cs → AtPlace cs m → FieldFits s t (field_at m)
  member_fits cs m k e = record { component = component m; there = ap (λ q. slice_get q (place_in m)) k ∙ e; is = refl }

  fields_fit : (cs : List Component) → components (kind_at s t) ≡ cs → (ms : List Placed') (ss : List PackedStep) → AllByRecursion (AtPlace cs) ms → StepsFit s t ss → StepsFit s t (root_steps ms ++ ss)
  fields_fit cs k [] ss a f = f
  fields_fit cs k (m ∷ ms) ss a f = (member_fits cs m k a.0, tt, fields_fit cs k ms ss a.1 f)

  members_fit : (cs : List Component) → components (kind_at s t) ≡ cs → (ms : List Placed') (ss : List PackedStep) → AllByRecursion (AtPlace cs) ms → StepsFit s t ss → StepsFit s t (member_steps ms ++ ss)
  members_fit cs k [] ss a f = f
  members_fit cs k (m ∷ ms) ss a f = (member_fits cs m k a.0, tt, members_fit cs k ms ss a.1 f)

  additions_fit : (cs : List Component) → components (kind_at s t) ≡ cs → (ds : List (Addition ℕ)) → AllByRecursion (OfAddition (AtPlace cs)) ds → StepsFit s t (addition_steps ds ++ steps.Rest ∷ [])
  additions_fit cs k [] a = (tt, tt, tt)
  additions_fit cs k (alone m ∷ ds) a = (member_fits cs m k a.0, tt, additions_fit cs k ds a.1)
  additions_fit cs k (bracketed ms ∷ ds) a = (tt, tt, subst (StepsFit s t) (assoc (member_steps ms) (addition_steps ds) (steps.Rest ∷ [])) (members_fit cs k ms (addition_steps ds ++ steps.Rest ∷ []) a.0 (additions_fit cs k ds a.1)))
    where
      assoc : (xs ys zs : List PackedStep) → xs ++ (ys ++ zs) ≡ (xs ++ ys) ++ zs
      assoc [] ys zs = refl
      assoc (x ∷ xs) ys zs = ap (λ q. x ∷ q) (assoc xs ys zs)

  rest_fits : (cs : List Component) → components (kind_at s t) ≡ cs → (e : Bool) (ds : List (Addition ℕ)) → AllByRecursion (OfAddition (AtPlace cs)) ds → StepsFit s t (rest_if e ds)
  rest_fits cs k true ds a = (tt, tt, additions_fit cs k ds a)
  rest_fits cs k false ds a = tt

  structure_fits : (cs : List Component) → components (kind_at s t) ≡ cs → (e : Bool) (root : List Placed') → AllByRecursion (AtPlace cs) root → StepsFit s t (structure e root (placed_from 0 cs))
  structure_fits cs k e root a = by e
    where
      body : StepsFit s t (steps.Map (length root) ∷ (root_steps root ++ rest_if e (additions (past_marker (placed_from 0 cs)))))
      body = (tt, tt, fields_fit cs k root (rest_if e (additions (past_marker (placed_from 0 cs)))) a (rest_fits cs k e (additions (past_marker (placed_from 0 cs))) (of_additions (AtPlace cs) (past_marker (placed_from 0 cs)) (after_marker (AtPlace cs) (placed_from 0 cs) (all_placed cs)))))

      by : (b : Bool) → StepsFit s t (mark_if b (length (root_members (placed_from 0 cs))) ++ (steps.Map (length root) ∷ (root_steps root ++ rest_if e (additions (past_marker (placed_from 0 cs))))))
      by true = (tt, tt, body)
      by false = body

  more_fit : (i : ℕ) (as' : List Alternative) → StepsFit s t (more_calls i as')
  more_fit i [] = tt
  more_fit i (a ∷ as') = (tt, tt, more_fit (suc i) as')

  calls_fit : (e : Bool) (all as' more : List Alternative) → StepsFit s t (root_calls s e all as' ++ more_calls 0 more)
  calls_fit e all [] more = more_fit 0 more
  calls_fit e all (a ∷ as') more = (tt, tt, calls_fit e all as' more)

  integer_fits : (c : Constraint) → kind_at s t ≡ an_integer c → (e : Bool) (l u : Option ℤ) → StepsFit s t (integer_step e l u ∷ [])
  integer_fits c k true l u = (tt, subst IsLeaf (sym k) tt, tt)
  integer_fits c k false None u = (tt, subst IsLeaf (sym k) tt, tt)
  integer_fits c k false (Some l) None = (tt, subst IsLeaf (sym k) tt, tt)
  integer_fits c k false (Some l) (Some u) = (tt, (c, k), tt)

  leaf_fits : (k : Kind) → kind_at s t ≡ k → IsLeaf k → StepsFit s t (steps.Leaf ∷ [])
  leaf_fits k e l = (tt, subst IsLeaf (sym e) l, tt)

  kind_fits : (k : Kind) → kind_at s t ≡ k → StepsFit s t (routine_of s k)
  unfolding routine_of
  kind_fits a_boolean e = (tt, subst IsLeaf (sym e) tt, tt)
  kind_fits (an_integer c) e = integer_fits c e c.visible.extensible c.visible.least c.visible.greatest
  kind_fits (an_enumerated root x more) e = leaf_fits (an_enumerated root x more) e tt
  kind_fits (a_bit_string c) e = leaf_fits (a_bit_string c) e tt
  kind_fits (a_named_bit_string ns) e = leaf_fits (a_named_bit_string ns) e tt
  kind_fits (an_octet_string c) e = leaf_fits (an_octet_string c) e tt
  kind_fits a_null e = leaf_fits a_null e tt
  kind_fits an_object_identifier e = leaf_fits an_object_identifier e tt
  kind_fits a_relative_oid e = leaf_fits a_relative_oid e tt
  kind_fits (a_utf8_string c) e = leaf_fits (a_utf8_string c) e tt
  kind_fits (a_restricted_string k a c) e = leaf_fits (a_restricted_string k a c) e tt
  kind_fits (a_sequence x cs) e = structure_fits cs (ap components e) x (root_members (placed_from 0 cs)) (in_root (AtPlace cs) (placed_from 0 cs) (all_placed cs))
  kind_fits (a_set x cs) e = structure_fits cs (ap components e) x (canonical s (root_members (placed_from 0 cs))) (in_order (AtPlace cs) s (root_members (placed_from 0 cs)) (in_root (AtPlace cs) (placed_from 0 cs) (all_placed cs)))
  kind_fits (a_sequence_of c u) e = (tt, (c, e), tt)
  kind_fits (a_set_of c u) e = (tt, (c, e), tt)
  kind_fits (a_choice root x more) e = (tt, record { root = root; extensible = x; more = more; kind = e; calls = refl }, calls_fit x root root more)

pub fits : (s : List Resolved) (t : ℕ) → StepsFit s t (routine_at s t)
fits s t = by (slice_get s t) refl
  where
    by : (o : Option Resolved) → slice_get s t ≡ o → StepsFit s t (elim o [ None ↦ [] | Some r ↦ routine_of s r.kind ])
    by None e = tt
    by (Some r) e = kind_fits s t r.kind (ap (λ o. elim o [ None ↦ a_null | Some r ↦ r.kind ]) e)

-- what is kept of fewer steps
pub fields_of_steps : (s : List Resolved) (t : ℕ) (ss : List PackedStep) → StepsFit s t ss → FieldsFit s t ss
fields_of_steps s t [] f = tt
fields_of_steps s t (st ∷ ss) f = (f.0, fields_of_steps s t ss f.2)

pub fit_drop : (s : List Resolved) (t : ℕ) (n : ℕ) (ss : List PackedStep) → StepsFit s t ss → StepsFit s t (drop n ss)
fit_drop s t zero ss f = f
fit_drop s t (suc n) [] f = tt
fit_drop s t (suc n) (st ∷ ss) f = fit_drop s t n ss f.2
