-- The canonical order of components that have tags is that of their keys.
use Rattle.std.proofs.Common.{◌≡◌, ℕ, suc, Bool, true, false, nat_lt, List, [], ◌∷◌, map, refl, sym, ap, ◌∙◌}
use Rattle.std.specs.Prelude.{if◌then◌else◌}
use Rattle.std.specs.List.{AllByRecursion}
use Rattle.std.specs.List.Sorted.{IsNonDecreasingBy, IsStableByKey}
use Rattle.std.specs.Ordering.{nat_cmp}
use Rattle.asn_base.specs.Order.{precedes}
use Rattle.asn_base.specs.Schemas.{HasTag, is_addition}
use Rattle.asn_base.specs.Types.{Component, Resolved, TypeNumber}
use Rattle.packed_encodings.specs.Orders.{canonical, placed_by_tag, root_members, standing}
use Rattle.packed_code.specs.declared.field.Placed.{Placed}
use Rattle.packed_code.specs.Placed.{AreTagged, placed_of}
use Rattle.packed_code.specs.Routines.{placed_from}
use Rattle.packed_code.proofs.Sorting.{placed, in_place, sorted_is}
use Rattle.tag_places.specs.Keys.{key_at}

abbrev pub KeyLaw : List Resolved → Type 0
KeyLaw s = (t u : TypeNumber) → HasTag s t → precedes s t u ≡ nat_lt (key_at 0 s t) (key_at 0 s u)

abbrev pub key_of_placed : List Resolved → Placed → ℕ
key_of_placed s p = key_at 0 s p.component.now.ty.index

module _ (s : List Resolved) (law : KeyLaw s) where
  abbrev key : Placed → ℕ
  key = key_of_placed s

  placed_is : (m : Placed) (ns : List Placed) → AreTagged s (map placed_of ns)
      → map placed_of (placed key m ns) ≡ placed_by_tag s (placed_of m) (map placed_of ns)
  placed_is m [] h = refl
  placed_is m (n ∷ ns) h =
      by (nat_lt (key n) (key m)) (placed_is m ns h.1)
      ∙ sym (ap (λ b. if b then placed_of n ∷ placed_by_tag s (placed_of m) (map placed_of ns) else placed_of m ∷ (placed_of n ∷ map placed_of ns))
      (law n.component.now.ty.index m.component.now.ty.index h.0))
    where
      by : (b : Bool) → map placed_of (placed key m ns) ≡ placed_by_tag s (placed_of m) (map placed_of ns)
          → map placed_of (if b then n ∷ placed key m ns else m ∷ (n ∷ ns))
          ≡ (if b then placed_of n ∷ placed_by_tag s (placed_of m) (map placed_of ns) else placed_of m ∷ (placed_of n ∷ map placed_of ns))
      by true r = ap (λ q. placed_of n ∷ q) r
      by false r = refl

  stay_tagged : (m : Placed) (ns : List Placed) → HasTag s m.component.now.ty.index → AreTagged s (map placed_of ns)
      → AreTagged s (map placed_of (placed key m ns))
  stay_tagged m [] t h = (t, tt)
  stay_tagged m (n ∷ ns) t h = by (nat_lt (key n) (key m)) (stay_tagged m ns t h.1)
    where
      by : (b : Bool) → AreTagged s (map placed_of (placed key m ns)) → AreTagged s (map placed_of (if b then n ∷ placed key m ns else m ∷ (n ∷ ns)))
      by true r = (h.0, r)
      by false r = (t, h)

  all_tagged : (ms : List Placed) → AreTagged s (map placed_of ms) → AreTagged s (map placed_of (in_place key ms))
  all_tagged [] h = tt
  all_tagged (m ∷ ms) h = stay_tagged m (in_place key ms) h.0 (all_tagged ms h.1)

  in_place_is : (ms : List Placed) → AreTagged s (map placed_of ms)
      → map placed_of (in_place key ms) ≡ canonical s (map placed_of ms)
  in_place_is [] h = refl
  in_place_is (m ∷ ms) h =
      placed_is m (in_place key ms) (all_tagged ms h.1)
      ∙ ap (placed_by_tag s (placed_of m)) (in_place_is ms h.1)

  pub canonical_is : (xs ys : List Placed) → AreTagged s (map placed_of xs)
      → IsNonDecreasingBy key ys → IsStableByKey key nat_cmp xs ys
      → map placed_of ys ≡ canonical s (map placed_of xs)
  canonical_is xs ys h up same = ap (map placed_of) (sorted_is key xs ys up same) ∙ in_place_is xs h

-- the root's components of a SET have tags
pub root_tagged : (s : List Resolved) (i : ℕ) (cs : List Component) → AllByRecursion (λ c. HasTag s c.type) cs
    → AreTagged s (root_members (placed_from i cs))
root_tagged s i [] h = tt
root_tagged s i (c ∷ cs) h = by (is_addition c) (root_tagged s (suc i) cs h.1)
  where
    by : (b : Bool) → AreTagged s (root_members (placed_from (suc i) cs))
        → AreTagged s (if b then root_members (placed_from (suc i) cs) else standing c i ∷ root_members (placed_from (suc i) cs))
    by true r = r
    by false r = (h.0, r)
