-- What the kind of a type says of its components and alternatives.
use Rattle.std.proofs.Common.{arith, ◌≡◌, ℕ, zero, suc, ◌<◌, ◌≤◌, Bool, List, [], ◌∷◌, ◌++◌, length, map, sym, ap, subst, ◌∙◌, append_assoc, Option, Some, None, codes}
use Rattle.std.specs.List.{AllByRecursion}
use Rattle.std.specs.Prelude.{slice_get}
use Rattle.std.proofs.lemmas.List.{length-append, length-map}
use Rattle.asn_base.specs.declared.schema.Component.{Component as Component'}
use Rattle.asn_base.specs.Abstract.{AbstractValue, alternative}
use Rattle.asn_base.specs.Schemas.{IsSound, AreListed, HasTag, components}
use Rattle.asn_base.specs.Seen.{component_of}
use Rattle.asn_base.specs.Types.{Alternative, Component, Kind, a_choice, a_sequence, a_set, Resolved}
use Rattle.value_text.specs.Print.{alternatives_in, kind_at, kind_in, print}

-- components are few
few_listed : {s : List Resolved} {b : Bool} (cs : List Component) → AreListed s b cs → length cs ≤ 320
few_listed cs l =
    let e = ap length l.parts in
    let f = length-append l.root l.more in
    let g = l.few_root in
    let h = l.few_more in
    omega (arith, e, f, g, h)

few_components : (s : List Resolved) (k : Kind) → IsSound s k → length (components k) ≤ 320
few_components s (a_sequence e cs) h = few_listed cs h
few_components s (a_set e cs) h = few_listed cs h.0
few_components s _ h = omega arith

pub few_there : (s : List Resolved) (k : Kind) (cs : List Component') → IsSound s k → map component_of cs ≡ components k → length cs ≤ 320
few_there s k cs h e =
    let f = few_components s k h in
    let g = sym (length-map cs component_of) ∙ ap length e in
    omega (arith, f, g)

types_listed : (s : List Resolved) (k : Kind) → IsSound s k → AllByRecursion (λ c. c.type < length s) (components k)
types_listed s (a_sequence e cs) h = h.types
types_listed s (a_set e cs) h = h.0.types
types_listed s _ h = tt

pub types_there : (s : List Resolved) (k : Kind) (cs : List Component') → IsSound s k → map component_of cs ≡ components k → AllByRecursion (λ c. c.type < length s) (map component_of cs)
types_there s k cs h e = subst (AllByRecursion (λ c. c.type < length s)) (sym e) (types_listed s k h)

-- ---- alternatives

alternative_listed : (s : List Resolved) (as' : List Alternative) (i : ℕ) (a : Alternative) → AllByRecursion (λ a. HasTag s a.type) as' → slice_get as' i ≡ Some a → a.type < length s
alternative_listed s [] i a h e = absurd cc
alternative_listed s (b ∷ as') zero a h e = tag_there s a.type (subst (λ q. HasTag s (type_or q)) e h.0)
  where
    type_or : Option Alternative → ℕ
    type_or None = 0
    type_or (Some b) = b.type

    tag_there : (s : List Resolved) (t : ℕ) → HasTag s t → t < length s
    tag_there [] t h = absurd h
    tag_there (r ∷ s) zero h = omega arith
    tag_there (r ∷ s) (suc t) h = let l = tag_there s t h in omega (arith, l)
alternative_listed s (b ∷ as') (suc i) a h e = alternative_listed s as' i a h.1 e

pub alternative_there : (s : List Resolved) (k : Kind) (i : ℕ) (a : Alternative) → IsSound s k → slice_get (alternatives_in k) i ≡ Some a → a.type < length s
alternative_there s (a_choice root e more) i a h f = alternative_listed s (root ++ more) i a h.types f
alternative_there s _ i a h f = absurd cc

pub alternative_text : (s : List Resolved) (t i : ℕ) (v : AbstractValue) (r : Resolved) (a : Alternative) → slice_get s t ≡ Some r → slice_get (alternatives_in r.kind) i ≡ Some a
    → print s t (alternative i v) ≡ a.name ++ (codes " : " ++ print s a.type v)
alternative_text s t i v r a e f = by (slice_get (alternatives_in (kind_at s t)) i) (ap (λ o. slice_get (alternatives_in (kind_in o)) i) e ∙ f)
  where
    or_else : Option Alternative → Alternative
    or_else None = a
    or_else (Some b) = b

    by : (o : Option Alternative) → o ≡ Some a → elim o [ None ↦ [] | Some a ↦ a.name ++ (codes " : " ++ print s a.type v) ] ≡ a.name ++ (codes " : " ++ print s a.type v)
    by None e = absurd cc
    by (Some b) e = ap (λ q. (or_else q).name ++ (codes " : " ++ print s (or_else q).type v)) e

pub added_three : (out a b new x y z : List ℕ) → a ≡ out ++ x → b ≡ a ++ y → new ≡ b ++ z → new ≡ out ++ (x ++ (y ++ z))
added_three out a b new x y z e f g =
    g ∙ ap (λ l. l ++ z) (f ∙ ap (λ l. l ++ y) e ∙ append_assoc out x y) ∙ append_assoc out (x ++ y) z ∙ ap (λ l. out ++ l) (append_assoc x y z)
