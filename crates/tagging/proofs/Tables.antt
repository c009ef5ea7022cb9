-- A table as it lies in memory, and as definitions see it.
use Rattle.std.proofs.Common.{◌≡◌, ℕ, zero, suc, ◌<◌, ◌+◌, Bool, false, List, [], ◌∷◌, ◌++◌, length, map, take, Some, refl, sym, ap, subst, ◌∙◌, get_or, arith}
use Rattle.std.specs.Prelude.{slice_get, Contains}
use Rattle.std.proofs.lemmas.Option.{slice_get_read, slice_get_within, get_or_from_slice_get}
use Rattle.std.proofs.lemmas.List.{length-map, take_more}
use Rattle.std.specs.List.{list_any}
use Rattle.type_table.specs.declared.table.TypeNode.{TypeNode}
use Rattle.names.specs.Sources.{place_of}
use Rattle.names.specs.proving.Distinct.{item_at}
use Rattle.type_table.specs.proving.Tables.{type_at}
use Rattle.type_table.specs.Seen.{type_of, types_of, kind_of, part_of}
use Rattle.type_table.specs.declared.table.ListMember.{ListMember}
use Rattle.type_table.specs.declared.table.Shape.{Shape}
use Rattle.type_table.specs.declared.table.Shape.TheVariants as shapes
use Rattle.asn_base.specs.declared.tag.Tag.{Tag}
use Rattle.trees.specs.declared.types.Keyword.{Keyword}
use Rattle.type_table.specs.Table.{Type', WrittenKind, IsWrittenType}
use Rattle.resolve.specs.Program.{Program, IsAssignment}
use Rattle.tagging.specs.Faults.{IsWrittenIn}
use Rattle.tagging.specs.Tags.{is_tagged}

pub is_here : (ws : List TypeNode) (i : ℕ) (w : TypeNode) → i < length ws → w ≡ get_or ws i w →
    IsWrittenType (types_of ws) i (kind_of w.shape) w.default (place_of w.place)
is_here ws i w l e = record { constraints = _; assignment = _; found = type_at ws i w l e }

-- a type that is written as one of this kind
pub is_kind : (ts : List Type') (i : ℕ) (w : TypeNode) (k : WrittenKind) → slice_get ts i ≡ Some (type_of w) →
    kind_of w.shape ≡ k → IsWrittenType ts i k w.default (place_of w.place)
is_kind ts i w k e f = subst (λ m. IsWrittenType ts i m w.default (place_of w.place)) f (record { constraints = _; assignment = _; found = e })

-- one place more of a list
pub take_next : {X : Type 0} (xs : List X) (i : ℕ) (x : X) → slice_get xs i ≡ Some x →
    take (i + 1) xs ≡ take i xs ++ x ∷ []
take_next xs i x e = take_more xs i x (slice_get_within xs i x e) ∙ ap (λ z. take i xs ++ z ∷ []) (get_or_from_slice_get xs i x x e)

-- the members of a list as they lie in memory
pub part_at : (cs : List ListMember) (i : ℕ) (c : ListMember) → i < length cs → c ≡ get_or cs i c →
    slice_get (map part_of cs) i ≡ Some (part_of c)
part_at cs i c l e = item_at part_of cs i c l e

pub part_more : (cs : List ListMember) (i : ℕ) (c : ListMember) → i < length cs → c ≡ get_or cs i c →
    take (i + 1) (map part_of cs) ≡ take i (map part_of cs) ++ part_of c ∷ []
part_more cs i c l e = take_next (map part_of cs) i (part_of c) (part_at cs i c l e)

pub parts_long : (cs : List ListMember) → length (map part_of cs) ≡ length cs
parts_long cs = length-map cs part_of

-- a list has a member if its members as definitions see them have one
pub any_seen : {X Y : Type 0} (f : Y → Bool) (g : X → Y) (xs : List X) →
    list_any f (map g xs) ≡ list_any (λ x. f (g x)) xs
any_seen f g [] = refl
any_seen f g (x ∷ xs) = rw (any_seen f g xs) refl

-- what a table has at a place it contains
pub contains_at : {X : Type 0} (xs : List X) (i : ℕ) (x : X) → slice_get xs i ≡ Some x → Contains xs x
contains_at [] i x e = absurd cc
contains_at (y ∷ ys) zero x e = (zero, omega arith, some_one e)
  where
    some_one : {X : Type 0} {a b : X} → Some a ≡ Some b → a ≡ b
    some_one h = cc
contains_at (y ∷ ys) (suc i) x e = let h = contains_at ys i x e in (suc h.0, omega (arith, h.1), h.2)

pub contained_at : {X : Type 0} (xs : List X) (x : X) (h : Contains xs x) → slice_get xs h.0 ≡ Some x
contained_at xs x h = slice_get_read xs (length xs) h.0 x refl h.1 (sym h.2)

-- a shape that isn't a tag
pub no_tag : (s : Shape) → ((t : Tag) (k : Keyword) (j : ℕ) → s ≡ shapes.Tagged t k j → ⊥) →
    is_tagged (kind_of s) ≡ false
no_tag (shapes.Simple x) f = refl
no_tag (shapes.Reference j) f = refl
no_tag (shapes.Tagged t k j) f = absurd (f t k j refl)
no_tag (shapes.Members k m cs) f = refl
no_tag (shapes.Elements k j) f = refl

-- the module and the assignment of a type in linked modules
pub stands_home : (p q : Program) (i : ℕ) (t : Type') (M x : List ℕ) → q ≡ p → slice_get p.types i ≡ Some t →
    ((u : Type') → slice_get q.types i ≡ Some u → IsAssignment q u.assignment M x) → IsWrittenIn p i M x
stands_home p q i t M x e f h = record { type = t; found = f; assigned = subst (λ z. IsAssignment z t.assignment M x) e (h t (ap (λ z. slice_get z.types i) e ∙ f)) }
