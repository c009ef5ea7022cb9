-- The fields of a routine's steps are those of the components of its type.
use Rattle.std.proofs.Common.{ℕ, suc, Bool, true, false, List, [], ◌∷◌, ◌++◌, sym, ap, subst, append_assoc, ℤ}
use Rattle.std.specs.Prelude.{Option, Some, None, slice_get}
use Rattle.std.specs.List.{AllByRecursion}
use Rattle.asn_base.specs.Types.{Alternative, Component, Kind, a_boolean, an_integer, an_enumerated, a_bit_string, a_named_bit_string, an_octet_string, a_null, an_object_identifier, a_relative_oid, a_utf8_string, a_restricted_string, a_sequence, a_set, a_sequence_of, a_set_of, a_choice, TypeNumber, Resolved}
use Rattle.asn_base.specs.Schemas.{components}
use Rattle.packed_encodings.specs.Orders.{Member, component, root_members, past_marker, has_bit, Addition, alone, bracketed, additions}
use Rattle.packed_encodings.specs.Computed.{kind_at}
use Rattle.packed_code.specs.declared.step.PackedStep.{PackedStep}
use Rattle.packed_code.specs.declared.step.PackedStep.TheVariants as steps
use Rattle.packed_code.specs.Routines.{placed_from, place_in, field_at, root_steps, member_steps, addition_steps, rest_if, structure, root_calls, more_calls, integer_step, routine_of, routine_at}
use Rattle.packed_reader.specs.Structures.{members_in}
use Rattle.packed_reader.proofs.Places.{ordered, root_part, more_part, flat_additions}
use Rattle.packed_reader.proofs.Stepwise.{Good, placed_good, first_good}
use Rattle.packed_reader.proofs.RunningMembers.{Fits}
use Rattle.packed_reader.proofs.RunningAdditions.{StepFits}

fits_good : (cs : List Component) (m : Member ℕ) → Good cs m → Fits cs (field_at m)
fits_good cs m g = record {
  bit = ap (λ q. has_bit (component q).presence) (sym g);
  type = ap (λ q. (component q).type) (sym g);
  place = ap place_in g;
}

module _ (cs : List Component) where
  root_fit : (ms : List (Member ℕ)) (ss : List PackedStep) → AllByRecursion (Good cs) ms → AllByRecursion (StepFits cs) ss → AllByRecursion (StepFits cs) (root_steps ms ++ ss)
  root_fit [] ss h f = f
  root_fit (m ∷ ms) ss h f = (fits_good cs m h.0, root_fit ms ss h.1 f)

  members_fit : (ms : List (Member ℕ)) (ss : List PackedStep) → AllByRecursion (Good cs) ms → AllByRecursion (StepFits cs) ss → AllByRecursion (StepFits cs) (member_steps ms ++ ss)
  members_fit [] ss h f = f
  members_fit (m ∷ ms) ss h f = (fits_good cs m h.0, members_fit ms ss h.1 f)

  additions_fit : (ds : List (Addition ℕ)) (ss : List PackedStep) → AllByRecursion (Good cs) (members_in ds) → AllByRecursion (StepFits cs) ss → AllByRecursion (StepFits cs) (addition_steps ds ++ ss)
  additions_fit [] ss h f = f
  additions_fit (alone m ∷ ds) ss h f = (fits_good cs m h.0, additions_fit ds ss h.1 f)
  additions_fit (bracketed ms ∷ ds) ss h f =
      let p = first_good cs ms (members_in ds) h in
      (tt, subst (AllByRecursion (StepFits cs)) (sym (append_assoc (member_steps ms) (addition_steps ds) ss)) (members_fit ms (addition_steps ds ++ ss) p.0 (additions_fit ds ss p.1 f)))

  abbrev every : List (Member ℕ)
  every = placed_from 0 cs

  more_good : AllByRecursion (Good cs) (members_in (additions (past_marker every)))
  more_good = subst (AllByRecursion (Good cs)) (sym (flat_additions (past_marker every))) (more_part (Good cs) every (placed_good [] cs))

  rest_fit : (e : Bool) → AllByRecursion (StepFits cs) (rest_if e (additions (past_marker every)))
  rest_fit true = (tt, additions_fit (additions (past_marker every)) (steps.Rest ∷ []) more_good (tt, tt))
  rest_fit false = tt

  structure_fits : (s : List Resolved) (set e : Bool) → AllByRecursion (StepFits cs) (structure e (ordered set s (root_members every)) every)
  structure_fits s set true = (tt, (tt, root_fit (ordered set s (root_members every)) (rest_if true (additions (past_marker every))) (root_part (Good cs) set s every (placed_good [] cs)) (rest_fit true)))
  structure_fits s set false = (tt, root_fit (ordered set s (root_members every)) (rest_if false (additions (past_marker every))) (root_part (Good cs) set s every (placed_good [] cs)) (rest_fit false))

more_fit : (i : ℕ) (as' : List Alternative) → AllByRecursion (StepFits []) (more_calls i as')
more_fit i [] = tt
more_fit i (a ∷ as') = (tt, more_fit (suc i) as')

calls_fit : (s : List Resolved) (e : Bool) (all as' more : List Alternative) → AllByRecursion (StepFits []) (root_calls s e all as' ++ more_calls 0 more)
calls_fit s e all [] more = more_fit 0 more
calls_fit s e all (a ∷ as') more = (tt, calls_fit s e all as' more)

integer_fits : (e : Bool) (l u : Option ℤ) → AllByRecursion (StepFits []) (integer_step e l u ∷ [])
integer_fits true l u = (tt, tt)
integer_fits false None u = (tt, tt)
integer_fits false (Some l) None = (tt, tt)
integer_fits false (Some l) (Some u) = (tt, tt)

kind_fits : (s : List Resolved) (k : Kind) → AllByRecursion (StepFits (components k)) (routine_of s k)
unfolding routine_of
kind_fits s (an_integer c) = integer_fits c.visible.extensible c.visible.least c.visible.greatest
kind_fits s (a_sequence x cs) = structure_fits cs s false x
kind_fits s (a_set x cs) = structure_fits cs s true x
kind_fits s (a_choice root x more) = (tt, calls_fit s x root root more)
kind_fits s q = (tt, tt)

pub steps_fit : (s : List Resolved) (t : TypeNumber) → AllByRecursion (StepFits (components (kind_at s t))) (routine_at s t)
steps_fit s t = by (slice_get s t)
  where
    by : (o : Option Resolved) → AllByRecursion (StepFits (components (elim o [ None ↦ a_null | Some r ↦ r.kind ]))) (elim o [ None ↦ [] | Some r ↦ routine_of s r.kind ])
    by None = tt
    by (Some r) = kind_fits s r.kind
