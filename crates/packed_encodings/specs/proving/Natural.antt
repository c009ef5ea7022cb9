-- What is done to lists of members by their components alone is done to any lists with these components.
use Rattle.std.proofs.Common.{◌≡◌, ℕ, Bool, true, false, List, [], ◌∷◌, map, refl, ap, ◌∙◌}
use Rattle.std.specs.Prelude.{if◌then◌else◌, Option, Some, None, ◌==◌}
use Rattle.asn_base.specs.Types.{Resolved}
use Rattle.asn_base.specs.Typed.{group_of}
use Rattle.asn_base.specs.Schemas.{is_addition}
use Rattle.asn_base.specs.Order.{precedes}
use Rattle.packed_encodings.specs.Orders.{Member, component, root_members, past_marker, placed_by_tag}
use Rattle.packed_encodings.specs.Orders.{canonical, Addition, alone, bracketed, is_of_group, in_front, additions}

-- the same of each member of an addition
abbrev pub on_additions : {X Y : Type 0} → (Member X → Member Y) → Addition X → Addition Y
on_additions f (alone m) = alone (f m)
on_additions f (bracketed ms) = bracketed (map f ms)

kept : {X Y : Type 0} (f : X → Y) (b : Bool) (x : X) (xs : List X) (ys : List Y) → ys ≡ map f xs
    → (if b then ys else f x ∷ ys) ≡ map f (if b then xs else x ∷ xs)
kept f true x xs ys e = e
kept f false x xs ys e = ap (λ q. f x ∷ q) e

left : {X Y : Type 0} (f : X → Y) (b : Bool) (x : X) (xs : List X) (ys : List Y) → ys ≡ map f xs
    → (if b then f x ∷ ys else ys) ≡ map f (if b then x ∷ xs else xs)
left f true x xs ys e = ap (λ q. f x ∷ q) e
left f false x xs ys e = e

either : {X Y : Type 0} (f : X → Y) (b : Bool) (as' bs : List X) (cs ds : List Y) → cs ≡ map f as' → ds ≡ map f bs
    → (if b then cs else ds) ≡ map f (if b then as' else bs)
either f true as' bs cs ds e g = e
either f false as' bs cs ds e g = g

module _ {X Y : Type 0} (f : Member X → Member Y) (same : (m : Member X) → component (f m) ≡ component m) where
  pub root_same : (ms : List (Member X)) → root_members (map f ms) ≡ map f (root_members ms)
  root_same [] = refl
  root_same (m ∷ ms) =
      ap (λ c. if is_addition c then root_members (map f ms) else f m ∷ root_members (map f ms)) (same m)
      ∙ kept f (is_addition (component m)) m (root_members ms) (root_members (map f ms)) (root_same ms)

  pub past_marker_same : (ms : List (Member X)) → past_marker (map f ms) ≡ map f (past_marker ms)
  past_marker_same [] = refl
  past_marker_same (m ∷ ms) =
      ap (λ c. if is_addition c then f m ∷ past_marker (map f ms) else past_marker (map f ms)) (same m)
      ∙ left f (is_addition (component m)) m (past_marker ms) (past_marker (map f ms)) (past_marker_same ms)

  placed_same : (s : List Resolved) (m : Member X) (ns : List (Member X))
      → placed_by_tag s (f m) (map f ns) ≡ map f (placed_by_tag s m ns)
  placed_same s m [] = refl
  placed_same s m (n ∷ ns) =
      ap (λ c. if precedes s c.type (component (f m)).type then f n ∷ placed_by_tag s (f m) (map f ns) else f m
      ∷ (f n ∷ map f ns)) (same n)
      ∙ ap (λ c. if precedes s (component n).type c.type then f n ∷ placed_by_tag s (f m) (map f ns) else f m
      ∷ (f n ∷ map f ns)) (same m)
      ∙ either f (precedes s (component n).type (component m).type) (n ∷ placed_by_tag s m ns) (m ∷ (n ∷ ns))
      (f n ∷ placed_by_tag s (f m) (map f ns)) (f m ∷ (f n ∷ map f ns)) (ap (λ q. f n ∷ q) (placed_same s m ns))
      refl

  pub canonical_same : (s : List Resolved) (ms : List (Member X)) → canonical s (map f ms) ≡ map f (canonical s ms)
  canonical_same s [] = refl
  canonical_same s (m ∷ ms) = ap (placed_by_tag s (f m)) (canonical_same s ms) ∙ placed_same s m (canonical s ms)

  in_front_same : (g : Option ℕ) (m : Member X) (ds : List (Addition X))
      → in_front g (f m) (map (on_additions f) ds) ≡ map (on_additions f) (in_front g m ds)
  in_front_same None m ds = refl
  in_front_same (Some g) m [] = refl
  in_front_same (Some g) m (alone n ∷ ds) = refl
  in_front_same (Some g) m (bracketed [] ∷ ds) = refl
  in_front_same (Some g) m (bracketed (n ∷ ns) ∷ ds) =
      ap (λ c. if elim (group_of c.presence) [ None ↦ false | Some h ↦ g == h ] then bracketed (f m ∷ (f n ∷ map f ns))
      ∷ map (on_additions f) ds else bracketed (f m ∷ []) ∷ (bracketed (f n ∷ map f ns) ∷ map (on_additions f) ds))
      (same n)
      ∙ either (on_additions f) (is_of_group g n) (bracketed (m ∷ (n ∷ ns)) ∷ ds)
      (bracketed (m ∷ []) ∷ (bracketed (n ∷ ns) ∷ ds))
      (bracketed (f m ∷ (f n ∷ map f ns)) ∷ map (on_additions f) ds)
      (bracketed (f m ∷ []) ∷ (bracketed (f n ∷ map f ns) ∷ map (on_additions f) ds)) refl refl

  pub additions_same : (ms : List (Member X)) → additions (map f ms) ≡ map (on_additions f) (additions ms)
  additions_same [] = refl
  additions_same (m ∷ ms) =
      ap (λ c. in_front (group_of c.presence) (f m) (additions (map f ms))) (same m)
      ∙ ap (in_front (group_of (component m).presence) (f m)) (additions_same ms)
      ∙ in_front_same (group_of (component m).presence) m (additions ms)
