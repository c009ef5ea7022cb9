-- Components of a type, and their places.
use Rattle.std.proofs.Common.{arith, ◌≡◌, ℕ, suc, ◌<◌, ◌≤◌, Bool, List, [], ◌∷◌, length, map, get_or, refl, sym, ap, ◌∙◌, length-append}
use Rattle.std.specs.Prelude.{Some, option_map, slice_get}
use Rattle.std.proofs.lemmas.Option.{slice_get-map, slice_get_read}
use Rattle.asn_base.specs.Types.{Component, Kind, a_boolean, an_integer, an_enumerated, a_bit_string, a_named_bit_string, an_octet_string, a_null, an_object_identifier, a_relative_oid, a_utf8_string, a_restricted_string, a_sequence, a_set, a_sequence_of, a_set_of, a_choice, Resolved}
use Rattle.asn_base.specs.declared.schema.Component.{Component as Component'}
use Rattle.asn_base.specs.Seen.{component_of}
use Rattle.asn_base.specs.Schemas.{IsSound, AreListed}
use Rattle.value_builders.specs.Named.{components_in, place_of}
use Rattle.asn_base.specs.proving.Lists.{length_mapped}
use Rattle.value_builders.specs.proving.NamePlaces.{place_below}

-- ---- a type has few components

same_list : (xs ys : List Component) → Some xs ≡ Some ys → xs ≡ ys
same_list xs ys e = cc

listed_few : (s : List Resolved) (e : Bool) (xs cs : List Component) → AreListed s e xs → Some xs ≡ Some cs → length cs ≤ 320
listed_few s e xs cs h q =
    let p = ap length (sym (same_list xs cs q) ∙ h.parts) in
    let r = length-append h.root h.more in
    omega (arith, p, r, h.few_root, h.few_more)

few_components : (s : List Resolved) (k : Kind) (cs : List Component) → IsSound s k → components_in k ≡ Some cs → length cs ≤ 320
few_components s (a_sequence e xs) cs h q = listed_few s e xs cs h q
few_components s (a_set e xs) cs h q = listed_few s e xs cs h.0 q
few_components s p cs h q = absurd cc

-- the place of a component is within its list, and small
pub place_small : (s : List Resolved) (k : Kind) (cs : List Component) (n : List ℕ) (i : ℕ) → IsSound s k → components_in k ≡ Some cs → place_of (map (λ c. c.name) cs) n ≡ Some i → (i < length cs) × (i < 320)
place_small s k cs n i h q e =
    let l = place_below (map (λ c. c.name) cs) n i e in
    let m = length_mapped (λ (c : Component). c.name) cs in
    let f = few_components s k cs h q in
    (omega (arith, l, m), omega (arith, l, m, f))

-- the place of a component is one of the components in memory
pub place_in : (cs : List Component') (n : List ℕ) (i : ℕ) → Some i ≡ place_of (map (λ c. c.name) (map component_of cs)) n → i < length cs
place_in cs n i e =
    let b = place_below (map (λ c. c.name) (map component_of cs)) n i (sym e) in
    let m = length_mapped (λ (c : Component). c.name) (map component_of cs) in
    let k = length_mapped component_of cs in
    omega (arith, b, m, k)
