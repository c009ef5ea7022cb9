use Rattle.std.proofs.Common.{◌≡◌, ◌<◌, ℕ, List, Some, None, length, sym, subst, ap, ◌∙◌}
use Rattle.std.specs.Prelude.{MatchOption, Option}
use Rattle.names.specs.declared.fault.NameFault.TheVariants as faults
use Rattle.circles.specs.Circles.{IsFirstDefaultCircle, NoDefaultCircles}
use Rattle.type_table.specs.declared.table.TypeNode.{TypeNode}
use Rattle.type_table.specs.Seen.{types_of}
use Rattle.type_table.specs.Table.{Type', HasMembers, HasElements}
use Rattle.std.proofs.Common.{refl}
use Rattle.std.proofs.lemmas.Option.{slice_get_read}
use Rattle.type_table.specs.Seen.{type_of}
use Rattle.resolve.proofs.Exclusion.{first_circle, moved_places, turn_there}
use Rattle.resolve.proofs.sound.no_default_circles.Goals as goal

pub circle_of-requires-clause-parts : goal.circle_of-requires-clause-parts
circle_of-requires-clause-parts c = subst HasMembers (sym c.types-types.ensures.types) c.types-types.ensures.linked.parts

pub circle_of-requires-clause-inner : goal.circle_of-requires-clause-inner
circle_of-requires-clause-inner c = subst HasElements (sym c.types-types.ensures.types) c.types-types.ensures.linked.inner

pub returns-in-None-clause-good : goal.returns-in-None-clause-good
returns-in-None-clause-good c =
    subst NoDefaultCircles c.types-types.ensures.types (none (types_of c.types-types.result.now) (length c.types-types.result.now) c.in_ok-circle_of.field-0 c.in-None.is c.in_ok-circle_of.ensures)
  where
    none : (ts : List Type') (n : ℕ) (o : Option ℕ) → o ≡ None → MatchOption o (NoDefaultCircles ts) (λ i. (i < n) × IsFirstDefaultCircle ts i) → NoDefaultCircles ts
    none ts n None e m = m
    none ts n (Some i) e m = absurd cc

pub returns-in_ok-source_location-in-Some-clause-first : goal.returns-in_ok-source_location-in-Some-clause-first
returns-in_ok-source_location-in-Some-clause-first c =
    let p = c.args.linked.now.program in
    let ws = c.types-types.result.now in
    let i = c.in-Some.index in
    let w = c.index-types-index.result in
    let e = c.in_ok-source_location-in-Some.ensures in
    let found = some (types_of ws) (length ws) i c.in_ok-circle_of.field-0 c.in-Some.is c.in_ok-circle_of.ensures in
    let there = turn_there type_of ws p.types i w c.types-types.ensures.types found.0 c.index-types-index.is in
    moved_places p ws c.args.linked.now.types c.values-values.result.now c.args.linked.now.values (faults.Circular c.in_ok-source_location-in-Some.field-0) c.types-types.ensures.written c.values-values.ensures.written (first_circle p ws c.values-values.result.now i w c.home-home.result.module.now c.home-home.result.name.now c.in_ok-source_location-in-Some.field-0 c.requires.lists
    (slice_get_read ws (length ws) i w refl found.0 c.index-types-index.is) (c.home-home.ensures (type_of w) there) e.within e.name (e.at ∙ sym (ap (λ (z : TypeNode). z.at) c.index-types-index.is))
    (subst (λ ts. IsFirstDefaultCircle ts i) c.types-types.ensures.types found.1))
  where
    some : (ts : List Type') (n i : ℕ) (o : Option ℕ) → o ≡ Some i →
        MatchOption o (NoDefaultCircles ts) (λ j. (j < n) × IsFirstDefaultCircle ts j) → (i < n) × IsFirstDefaultCircle ts i
    some ts n i None e m = absurd cc
    some ts n i (Some j) e m = let q : j ≡ i = cc in subst (λ z. (z < n) × IsFirstDefaultCircle ts z) q m
