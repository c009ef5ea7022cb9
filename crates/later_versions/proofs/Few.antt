-- A type of a schema has at most 320 members.
use Rattle.std.proofs.Common.{arith, ◌≡◌, ℕ, ◌+◌, ◌≤◌, List, [], ◌∷◌, ◌++◌, length, map, refl, ap, ◌∙◌, Bool, Some, None}
use Rattle.std.specs.Prelude.{slice_get, Option}
use Rattle.std.proofs.lemmas.List.{length-map}
use Rattle.asn_base.specs.Types.{Component, Kind, Resolved, a_boolean, an_integer, an_enumerated, a_bit_string, a_named_bit_string, an_octet_string, a_null, an_object_identifier, a_relative_oid, a_utf8_string, a_restricted_string, a_sequence, a_set, a_sequence_of, a_set_of, a_choice}
use Rattle.asn_base.specs.Schemas.{AreListed, IsSchema, IsSound, types_in}
use Rattle.later_versions.specs.Projected.{members_of}

length_both : {A : Type 0} (xs ys : List A) → length (xs ++ ys) ≡ length xs + length ys
length_both [] ys = omega arith
length_both (x ∷ xs) ys = let h = length_both xs ys in omega (arith, h)

few_listed : {s : List Resolved} {e : Bool} {cs : List Component} → AreListed s e cs → length (map (λ c. c.type) cs) ≤ 320
few_listed {cs = cs} l =
    let a = length-map cs (λ c. c.type) in
    let b = ap length l.parts ∙ length_both l.root l.more in
    let c = l.few_root in
    let d = l.few_more in
    omega (arith, a, b, c, d)

few_in : (s : List Resolved) (k : Kind) → IsSound s k → length (types_in k) ≤ 320
few_in s a_boolean h = omega arith
few_in s (an_integer c) h = omega arith
few_in s (an_enumerated r e m) h = omega arith
few_in s (a_bit_string c) h = omega arith
few_in s (a_named_bit_string bs) h = omega arith
few_in s (an_octet_string c) h = omega arith
few_in s a_null h = omega arith
few_in s an_object_identifier h = omega arith
few_in s a_relative_oid h = omega arith
few_in s (a_utf8_string c) h = omega arith
few_in s (a_restricted_string k a c) h = omega arith
few_in s (a_sequence e cs) h = few_listed h
few_in s (a_set e cs) h = few_listed h.0
few_in s (a_sequence_of c u) h = omega arith
few_in s (a_set_of c u) h = omega arith
few_in s (a_choice root e more) h =
    let a = length-map (root ++ more) (λ a. a.type) in
    let b = length_both root more in
    let c = h.few_root in
    let d = h.few_more in
    omega (arith, a, b, c, d)

pub few_members : (s : List Resolved) (t : ℕ) → IsSchema s → length (members_of s t) ≤ 320
few_members s t h = of_type (slice_get s t) refl
  where
    of_type : (o : Option Resolved) → slice_get s t ≡ o → length {A = ℕ} (elim o [ None ↦ [] | Some r ↦ types_in r.kind ]) ≤ 320
    of_type None e = omega arith
    of_type (Some r) e = few_in s r.kind (h.sound t r.tags r.kind (record { found = e }))
