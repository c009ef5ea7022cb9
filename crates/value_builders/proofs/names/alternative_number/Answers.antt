use Rattle.std.proofs.Common.{arith, ◌≡◌, ◌+◌, Some, length, map, sym, ap, ◌∙◌}
use Rattle.asn_base.specs.Seen.{alternative_of}
use Rattle.value_builders.specs.Named.{place_of, alternative_names}
use Rattle.value_builders.proofs.Places.{map_append, place_first, place_second, place_nowhere}
use Rattle.value_builders.specs.proving.NamePlaces.{place_below}
use Rattle.value_builders.proofs.names.alternative_number.Goals as goal
use Rattle.asn_base.specs.proving.Lists.{length_mapped}

pub overflow_add-result : goal.overflow_add-result
overflow_add-result c =
    let a = c.args.alternatives.now.additions.items in
    let below = place_below (alternative_names (map alternative_of c.as_slice.result.now)) c.args.name.now c.in-Some-alternative_place.place (sym c.in-Some-alternative_place.ensures) in
    let long = length_mapped (λ x. x.name) (map alternative_of c.as_slice.result.now) in
    let long' = length_mapped alternative_of c.as_slice.result.now in
    omega (arith, below, long, long', c.as_slice.ensures.len, c.as_slice-root.ensures.len, c.args.alternatives.now.root.ok, c.args.alternatives.now.root.small, c.args.alternatives.now.additions.ok, c.args.alternatives.now.additions.small)

pub returns-in-Some : goal.returns-in-Some
returns-in-Some c =
    let r = map alternative_of c.args.alternatives.now.root.items in
    let a = map alternative_of c.args.alternatives.now.additions.items in
    let e = ap (λ q. place_of (alternative_names (map alternative_of q)) c.args.name.now) c.as_slice-root.ensures.value in
    sym (ap (λ q. place_of q c.args.name.now) (map_append (λ x. x.name) r a)
    ∙ place_first c.args.name.now (alternative_names r) (alternative_names a) c.in-Some.place (sym e ∙ sym c.in-Some.ensures))

pub returns-in-Some-alternative_place : goal.returns-in-Some-alternative_place
returns-in-Some-alternative_place c =
    let r = map alternative_of c.args.alternatives.now.root.items in
    let a = map alternative_of c.args.alternatives.now.additions.items in
    let e = ap (λ q. place_of (alternative_names (map alternative_of q)) c.args.name.now) c.as_slice-root.ensures.value in
    let f = ap (λ q. place_of (alternative_names (map alternative_of q)) c.args.name.now) c.as_slice.ensures.value in
    let n : length (alternative_names r) ≡ length c.as_slice-root.result.now = length_mapped (λ x. x.name) r ∙ length_mapped alternative_of c.args.alternatives.now.root.items ∙ sym (ap length c.as_slice-root.ensures.value) in
    sym (ap (λ q. place_of q c.args.name.now) (map_append (λ x. x.name) r a)
    ∙ place_second c.args.name.now (alternative_names r) (alternative_names a) c.in-Some-alternative_place.place (sym e ∙ sym c.in-None.ensures) (sym f ∙ sym c.in-Some-alternative_place.ensures)
    ∙ ap (λ q. Some (q + c.in-Some-alternative_place.place)) n)

pub returns-in-None-alternative_place : goal.returns-in-None-alternative_place
returns-in-None-alternative_place c =
    let r = map alternative_of c.args.alternatives.now.root.items in
    let a = map alternative_of c.args.alternatives.now.additions.items in
    let e = ap (λ q. place_of (alternative_names (map alternative_of q)) c.args.name.now) c.as_slice-root.ensures.value in
    let f = ap (λ q. place_of (alternative_names (map alternative_of q)) c.args.name.now) c.as_slice.ensures.value in
    sym (ap (λ q. place_of q c.args.name.now) (map_append (λ x. x.name) r a)
    ∙ place_nowhere c.args.name.now (alternative_names r) (alternative_names a) (sym e ∙ sym c.in-None.ensures) (sym f ∙ sym c.in-None-alternative_place.ensures))
