-- Components, alternatives and items of a schema beside those that are written.
use Rattle.std.proofs.Common.{◌≡◌, ℕ, zero, suc, ◌<◌, ◌≤◌, Bool, true, false, List, [], ◌∷◌, ◌++◌, length, Option, Some, refl, sym, ap, subst, ◌∙◌, arith, inl, inr}
use Rattle.std.specs.Prelude.{◌⊎◌, ◌↔◌, ℤ, max, slice_get, map}
use Rattle.std.proofs.lemmas.List.{length-append}
use Rattle.asn_base.specs.Abstract.{Row, end, absent, present}
use Rattle.asn_base.specs.Names.{IsMember, is_first, is_later}
use Rattle.asn_base.specs.Types.{Component, Presence, Alternative}
use Rattle.asn_base.specs.Types as types
use Rattle.asn_base.specs.Typed.{HasNumber, group_of, HasOfGroup, LacksOfGroup, GroupsAreWhole}
use Rattle.trees.specs.Values.{Name}
use Rattle.names.specs.Modules.{OccursIn}
use Rattle.type_table.specs.Items.{WrittenItem, additions_of, numbers_of, root_from, root_numbers, additions_from, addition_numbers, given_numbers, counted_to, number_or, past}
use Rattle.type_table.specs.Table.{Part}
use Rattle.resolve.specs.Program.{Program}
use Rattle.value_notations.specs.Leaves.{IsItem}
use Rattle.value_notations.specs.Notations.{presence_without_value, component_of}
use Rattle.schema_of.specs.SchemaOf.{IsPresenceOf, is_mandatory, is_optional, has_default, is_addition, is_optional_addition, AreComponentsOf, no_component, component_and, IsAlternativeOf, AreAlternativesOf, no_alternative, root_and, addition_and, IsChosenPart, numbered_item, AreItemsOf, IsRootItem, IsAddedItem}

-- ---- groups

-- what a component of the program has of groups
group_alike : {p : Program} {M : Name} {q : Presence} (c : Part) → IsPresenceOf p M c q → group_of (presence_without_value c.presence c.standing) ≡ group_of q
group_alike c (is_mandatory e f) = rw e (rw f refl)
group_alike c (is_optional e f) = rw e (rw f refl)
group_alike c (has_default e f n) = rw e (rw f refl)
group_alike c (is_addition e f) = rw e (rw f refl)
group_alike c (is_optional_addition e f) = rw e (rw f refl)

-- the component must be present if its group is
abbrev IsDue : ℕ → Presence → Type 0
IsDue g q = q ≡ types.addition false (Some g)

due_alike : {p : Program} {M : Name} {q : Presence} (c : Part) (g : ℕ) → IsPresenceOf p M c q → (IsDue g (presence_without_value c.presence c.standing) ↔ IsDue g q)
due_alike c g (is_mandatory e f) = let r : presence_without_value c.presence c.standing ≡ types.mandatory = rw e (rw f refl) in (λ d. sym r ∙ d, λ d. r ∙ d)
due_alike c g (is_optional e f) = let r : presence_without_value c.presence c.standing ≡ types.optional = rw e (rw f refl) in (λ d. sym r ∙ d, λ d. r ∙ d)
due_alike c g (has_default e f n) =
    let r : presence_without_value c.presence c.standing ≡ types.optional = rw e (rw f refl) in
    (λ d. absurd (let w = sym r ∙ d in cc), λ d. absurd cc)
due_alike c g (is_addition {g = h} e f) = let r : presence_without_value c.presence c.standing ≡ types.addition false h = rw e (rw f refl) in (λ d. sym r ∙ d, λ d. r ∙ d)
due_alike c g (is_optional_addition {g = h} e f) = let r : presence_without_value c.presence c.standing ≡ types.addition true h = rw e (rw f refl) in (λ d. sym r ∙ d, λ d. r ∙ d)

has_alike : {p : Program} {M : Name} {cs : List Part} {ds : List Component} (g : ℕ) (r : Row) → AreComponentsOf p M cs ds → (HasOfGroup g (map component_of cs) r ↔ HasOfGroup g ds r)
has_alike g r no_component = (λ h. h, λ h. h)
has_alike g end (component_and a as') = (λ h. h, λ h. h)
has_alike g (absent r) (component_and a as') = has_alike g r as'
has_alike g (present v r) (component_and {c} {d} a as') =
    let e = group_alike c a.presence in
    let f = has_alike g r as' in
    (λ h. elim h [ inl x ↦ inl (sym e ∙ x) | inr y ↦ inr (f.0 y) ], λ h. elim h [ inl x ↦ inl (e ∙ x) | inr y ↦ inr (f.1 y) ])

lacks_alike : {p : Program} {M : Name} {cs : List Part} {ds : List Component} (g : ℕ) (r : Row) → AreComponentsOf p M cs ds → (LacksOfGroup g (map component_of cs) r ↔ LacksOfGroup g ds r)
lacks_alike g r no_component = (λ h. h, λ h. h)
lacks_alike g end (component_and a as') = (λ h. h, λ h. h)
lacks_alike g (present v r) (component_and a as') = lacks_alike g r as'
lacks_alike g (absent r) (component_and {c} a as') =
    let e = due_alike c g a.presence in
    let f = lacks_alike g r as' in
    (λ h. elim h [ inl x ↦ inl (e.0 x) | inr y ↦ inr (f.0 y) ], λ h. elim h [ inl x ↦ inl (e.1 x) | inr y ↦ inr (f.1 y) ])

pub groups_alike : (p : Program) (M : Name) (cs : List Part) (ds : List Component) (r : Row) → AreComponentsOf p M cs ds → (GroupsAreWhole ds r ↔ GroupsAreWhole (map component_of cs) r)
groups_alike p M cs ds r a = (
  λ h g has lacks. h g ((has_alike g r a).0 has) ((lacks_alike g r a).0 lacks),
  λ h g has lacks. h g ((has_alike g r a).1 has) ((lacks_alike g r a).1 lacks),
)

-- ---- alternatives

pub written_alternative : (cs : List Part) (root more : List Alternative) (i : ℕ) (a : Alternative) → AreAlternativesOf cs root more → slice_get (root ++ more) i ≡ Some a → IsChosenPart cs i a
written_alternative cs root more i a no_alternative e = absurd cc
written_alternative cs root more zero a (root_and {c} {a = b} f h hs) e = let q : b ≡ a = cc in record { part = c; there = refl; alike = subst (λ z. IsAlternativeOf c z) q h }
written_alternative cs root more (suc i) a (root_and {cs = ds} {root = roots} f h hs) e =
    let r = written_alternative ds roots more i a hs e in record { part = r.part; there = r.there; alike = r.alike }
written_alternative cs root more zero a (addition_and {c} {a = b} g f h hs) e = let q : b ≡ a = cc in record { part = c; there = refl; alike = subst (λ z. IsAlternativeOf c z) q h }
written_alternative cs root more (suc i) a (addition_and {cs = ds} {more = rest} g f h hs) e =
    let r = written_alternative ds [] rest i a hs e in record { part = r.part; there = r.there; alike = r.alike }

-- the alternative of the schema that a written one is
pub record Resolved' (root more : List Alternative) (i : ℕ) (c : Part) : Type 0 where
  pub alternative : Alternative
  pub there : slice_get (root ++ more) i ≡ Some alternative
  pub alike : IsAlternativeOf c alternative

pub resolved_alternative : (cs : List Part) (root more : List Alternative) (i : ℕ) (c : Part) → AreAlternativesOf cs root more → slice_get cs i ≡ Some c → Resolved' root more i c
resolved_alternative cs root more i c no_alternative e = absurd cc
resolved_alternative cs root more zero c (root_and {c = b} {a} f h hs) e = let q : b ≡ c = cc in record { alternative = a; there = refl; alike = subst (λ z. IsAlternativeOf z a) q h }
resolved_alternative cs root more (suc i) c (root_and {cs = ds} {root = roots} f h hs) e =
    let r = resolved_alternative ds roots more i c hs e in record { alternative = r.alternative; there = r.there; alike = r.alike }
resolved_alternative cs root more zero c (addition_and {c = b} {a} g f h hs) e = let q : b ≡ c = cc in record { alternative = a; there = refl; alike = subst (λ z. IsAlternativeOf z a) q h }
resolved_alternative cs root more (suc i) c (addition_and {cs = ds} {more = rest} g f h hs) e =
    let r = resolved_alternative ds [] rest i c hs e in record { alternative = r.alternative; there = r.there; alike = r.alike }

-- ---- items

in_part : {A : Type 0} (x : A) (xs ys : List A) → IsMember x (xs ++ ys) → IsMember x xs ⊎ IsMember x ys
in_part x [] ys m = inr m
in_part x (y ∷ xs) ys is_first = inl is_first
in_part x (y ∷ xs) ys (is_later m) = elim (in_part x xs ys m) [ inl a ↦ inl (is_later a) | inr b ↦ inr b ]

pub item_written : (root : List WrittenItem) (more : Option (List WrittenItem)) (in_root added : List types.Item) (marker : Bool) (x : Name) (z : ℤ)
    → AreItemsOf root more in_root marker added
    → IsMember (numbered_item x z) (in_root ++ added)
    → IsItem root (additions_of more) x z
item_written root more in_root added marker x z a m =
    elim (in_part (numbered_item x z) in_root added m) [
      | inl m ↦ ((a.roots x z).0 m).item
      | inr m ↦ ((a.additions x z).0 m).item
    ]

-- an item has the number
item_with : (is : List types.Item) (z : ℤ) → HasNumber is z → (x : Name) × IsMember (numbered_item x z) is
item_with [] z h = absurd h
item_with (i ∷ is) z (inl e) = (i.name, subst (λ (y : ℤ). IsMember (numbered_item i.name y) (i ∷ is)) e is_first)
item_with (i ∷ is) z (inr h) = let r = item_with is z h in (r.0, is_later r.1)

pub number_written : (root : List WrittenItem) (more : Option (List WrittenItem)) (in_root added : List types.Item) (marker : Bool) (z : ℤ)
    → AreItemsOf root more in_root marker added
    → HasNumber (in_root ++ added) z
    → OccursIn (numbers_of root (additions_of more)) z
number_written root more in_root added marker z a h =
    let m = item_with (in_root ++ added) z h in
    let i = item_written root more in_root added marker m.0 z a m.1 in
    (i.place, i.numbered)

has_number : (is js : List types.Item) (x : Name) (z : ℤ) → IsMember (numbered_item x z) is ⊎ IsMember (numbered_item x z) js → HasNumber (is ++ js) z
has_number [] [] x z h = elim h [ inl m ↦ absurd (elim m [ ]) | inr m ↦ absurd (elim m [ ]) ]
has_number [] (j ∷ js) x z (inl m) = absurd (elim m [ ])
has_number [] (j ∷ js) x z (inr is_first) = inl refl
has_number [] (j ∷ js) x z (inr (is_later m)) = inr (has_number [] js x z (inr m))
has_number (i ∷ is) js x z (inl is_first) = inl refl
has_number (i ∷ is) js x z (inl (is_later m)) = inr (has_number is js x z (inl m))
has_number (i ∷ is) js x z (inr m) = inr (has_number is js x z (inr m))

root_or_added : (root more : List WrittenItem) (x : Name) (z : ℤ) (i : IsItem root more x z) → IsRootItem root more x z ⊎ IsAddedItem root more x z
root_or_added root more x z i = elim (less (i.place) (length root)) [
  | inl l ↦ inl (record { item = i; in_root = l })
  | inr l ↦ inr (record { item = i; following = l })
]
  where
    less : (m n : ℕ) → (m < n) ⊎ (n ≤ m)
    less m n = grind arith

-- an item that is written is one of the schema
pub item_resolved : (root : List WrittenItem) (more : Option (List WrittenItem)) (in_root added : List types.Item) (marker : Bool) (x : Name) (z : ℤ)
    → AreItemsOf root more in_root marker added
    → IsItem root (additions_of more) x z
    → HasNumber (in_root ++ added) z
item_resolved root more in_root added marker x z a i =
    has_number in_root added x z
    (elim (root_or_added root (additions_of more) x z i) [ inl r ↦ inl ((a.roots x z).1 r) | inr r ↦ inr ((a.additions x z).1 r) ])

-- ---- numbers

root_long : (given : List ℤ) (is : List WrittenItem) (n : ℕ) → length (root_from given n is) ≡ length is
root_long given [] n = refl
root_long given (i ∷ is) n = ap suc (root_long given is (counted_to n given i.1))

added_long : (root : List ℤ) (is : List WrittenItem) (n : ℕ) → length (additions_from root n is) ≡ length is
added_long root [] n = refl
added_long root (i ∷ is) n = ap suc (added_long root is (max n (past (number_or n root i.1))))

numbers_long : (root more : List WrittenItem) → length (root ++ more) ≡ length (numbers_of root more)
numbers_long root more =
    let a = root_long (given_numbers root) root 0 in
    let b = added_long (root_numbers root) more 0 in
    let c = length-append root more in
    let d = length-append (root_numbers root) (addition_numbers root more) in
    omega (arith, a, b, c, d)

pub there_too : {A B : Type 0} (xs : List A) (ys : List B) (i : ℕ) (x : A) → length ys ≡ length xs → slice_get xs i ≡ Some x → (y : B) × (slice_get ys i ≡ Some y)
there_too [] ys i x l e = absurd cc
there_too (z ∷ xs) [] i x l e = absurd (omega (arith, l))
there_too (z ∷ xs) (y ∷ ys) zero x l e = (y, refl)
there_too (z ∷ xs) (y ∷ ys) (suc i) x l e = there_too xs ys i x (omega (arith, l)) e

pub number_resolved : (root : List WrittenItem) (more : Option (List WrittenItem)) (in_root added : List types.Item) (marker : Bool) (z : ℤ)
    → AreItemsOf root more in_root marker added
    → OccursIn (numbers_of root (additions_of more)) z
    → HasNumber (in_root ++ added) z
number_resolved root more in_root added marker z a h =
    let i = there_too (numbers_of root (additions_of more)) (root ++ additions_of more) h.0 z (numbers_long root (additions_of more)) h.1 in
    item_resolved root more in_root added marker i.0.0 z a (record { place = h.0; item = i.0; there = i.1; named = refl; numbered = h.1 })
