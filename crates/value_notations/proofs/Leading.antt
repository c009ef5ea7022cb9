-- From reference to reference.
use Rattle.std.proofs.Common.{◌≡◌, ℕ, zero, suc, ◌<◌, ◌≤◌, Bool, map, get_or, option_map, inl, inr, true, false, List, [], ◌∷◌, ◌++◌, ◌+◌, length, arith, cond, Some, None, Option, refl, sym, ap, ◌∙◌, subst}
use Rattle.std.specs.Prelude.{slice_get, bytes_eq}
use Rattle.std.proofs.lemmas.Option.{same_Some, slice_get-map, slice_get_within}
use Rattle.std.proofs.lemmas.List.{length-map}
use Rattle.std.proofs.lemmas.Slice.Eq.{bytes_eq-Decides}
use Rattle.trees.specs.declared.types.EnumeratedItem.{EnumeratedItem}
use Rattle.trees.specs.Values.{Name, name_at}
use Rattle.trees.specs.Types.{item_of}
use Rattle.names.specs.declared.scope.Assigned.{Assigned}
use Rattle.names.specs.declared.scope.Assigned.TheVariants as assigned
use Rattle.names.specs.Modules.{OccursIn}
use Rattle.names.specs.Names.{Meaning, Refers, under, names_of}
use Rattle.resolve.specs.Program.{Program, IsThere}
use Rattle.value_notations.specs.proving.Following.{meaning_of}
use Rattle.value_notations.proofs.Lists.{seen_here}
use Rattle.value_notations.specs.proving.Places.{less_or_more}

pub value_there : (p : Program) (M : Name) (q : Option Name) (x : Name) (i : ℕ)
    → ((N z : Name) (a : Assigned) → Meaning p.modules N z a → IsThere p a)
    → Refers p.modules M q x (assigned.Value i)
    → i < length p.values
value_there p M q x i w r = w M x (assigned.Value i) (meaning_of p.modules M q x (assigned.Value i) r)

-- ---- names in tables

occurs_after : {X : Type 0} (x : Name) (e : Name × X) (es : List (Name × X)) (v : X) (b : Bool)
    → (b ≡ true → x ≡ e.0)
    → (under x es ≡ Some v → OccursIn (names_of es) x)
    → cond b (Some e.1) (under x es) ≡ Some v
    → OccursIn (names_of (e ∷ es)) x
occurs_after x e es v true same go h = (0, ap Some (sym (same refl)))
occurs_after x e es v false same go h = let s = go h in (suc s.0, s.1)

pub under_occurs : {X : Type 0} (x : Name) (es : List (Name × X)) (v : X) → under x es ≡ Some v → OccursIn (names_of es) x
under_occurs x [] v h = absurd cc
under_occurs x (e ∷ es) v h =
    occurs_after x e es v (bytes_eq x e.0) (λ t. (bytes_eq-Decides x e.0).0 t) (under_occurs x es v) h

not_first : {X : Type 0} (b : Bool) (v : X) (o : Option X) → cond b (Some v) o ≡ None → (b ≡ false) × (o ≡ None)
not_first true v o h = absurd cc
not_first false v o h = (refl, h)

pub under_none : {X : Type 0} (x : Name) (es : List (Name × X)) → under x es ≡ None → OccursIn (names_of es) x → ⊥
under_none x [] h s = absurd (let e = s.1 in cc)
under_none x (e ∷ es) h (zero, s) =
    let t : bytes_eq x e.0 ≡ true = (bytes_eq-Decides x e.0).1 (sym (same_Some e.0 x s)) in
    let f = (not_first (bytes_eq x e.0) e.1 (under x es) h).0 in
    absurd (let g = sym t ∙ f in cc)
under_none x (e ∷ es) h (suc i, s) = under_none x es (not_first (bytes_eq x e.0) e.1 (under x es) h).1 (i, s)

-- ---- lists after lists

module _ {X : Type 0} (x : Name) where
  pub name_front : (es fs : List (Name × X)) (i : ℕ)
      → slice_get (names_of es) i ≡ Some x
      → slice_get (names_of (es ++ fs)) i ≡ Some x
  name_front [] fs i h = absurd cc
  name_front (e ∷ es) fs zero h = h
  name_front (e ∷ es) fs (suc i) h = name_front es fs i h

  pub name_after : (es fs : List (Name × X)) (n i : ℕ)
      → n ≡ length es
      → slice_get (names_of fs) i ≡ Some x
      → slice_get (names_of (es ++ fs)) (n + i) ≡ Some x
  name_after [] fs n i l h = let q : n + i ≡ i = omega (arith, l) in rw q h
  name_after (e ∷ es) fs zero i l h = absurd (omega (arith, l))
  name_after (e ∷ es) fs (suc n) i l h =
      let q : suc n + i ≡ suc (n + i) = omega arith in
      rw q (name_after es fs n i (omega (arith, l)) h)

  pub name_neither : (es fs : List (Name × X))
      → (OccursIn (names_of es) x → ⊥)
      → (OccursIn (names_of fs) x → ⊥)
      → OccursIn (names_of (es ++ fs)) x
      → ⊥
  name_neither [] fs f g s = g s
  name_neither (e ∷ es) fs f g (zero, s) = f (zero, s)
  name_neither (e ∷ es) fs f g (suc i, s) = name_neither es fs (λ t. f (suc t.0, t.1)) g (i, s)

-- ---- items of enumerations

name_of_item : (is : List EnumeratedItem) (i : ℕ) (r : EnumeratedItem)
    → i < length is
    → r ≡ get_or is i r
    → slice_get (names_of (map item_of is)) i ≡ Some (name_at r.name)
name_of_item is i r l e =
    slice_get-map (λ e. e.0) (map item_of is) i ∙ ap (option_map (λ e. e.0)) (seen_here item_of is i r l e)

pub item_here : (is : List EnumeratedItem) (i : ℕ) (r : EnumeratedItem) (x : Name)
    → i < length is
    → r ≡ get_or is i r
    → bytes_eq x (name_at r.name) ≡ true
    → slice_get (names_of (map item_of is)) i ≡ Some x
item_here is i r x l e t = name_of_item is i r l e ∙ ap Some (sym ((bytes_eq-Decides x (name_at r.name)).0 t))

pub item_not_here : (is : List EnumeratedItem) (i : ℕ) (r : EnumeratedItem) (x : Name)
    → i < length is
    → r ≡ get_or is i r
    → bytes_eq x (name_at r.name) ≡ false
    → slice_get (names_of (map item_of is)) i ≡ Some x
    → ⊥
item_not_here is i r x l e t h =
    let same = same_Some (name_at r.name) x (sym (name_of_item is i r l e) ∙ h) in
    let u : bytes_eq x (name_at r.name) ≡ true = (bytes_eq-Decides x (name_at r.name)).1 (sym same) in
    absurd (let g = sym u ∙ t in cc)

pub one_more_place : (Q : ℕ → Type 0) (i : ℕ)
    → ((j : ℕ) → j < i → Q j → ⊥)
    → (Q i → ⊥)
    → (j : ℕ)
    → j < i + 1
    → Q j
    → ⊥
one_more_place Q i f g j l q =
    elim (less_or_more j i) [
      | inl e ↦ g (subst Q e q)
      | inr h ↦ elim h [
        | inl m ↦ f j m q
        | inr m ↦ absurd (omega (arith, l, m))
      ]
    ]

pub none_of_items : (is : List EnumeratedItem) (n : ℕ) (x : Name)
    → length is ≤ n
    → ((j : ℕ) → j < n → slice_get (names_of (map item_of is)) j ≡ Some x → ⊥)
    → OccursIn (names_of (map item_of is)) x
    → ⊥
none_of_items is n x l f s =
    let w = slice_get_within (names_of (map item_of is)) s.0 x s.1 in
    let a = length-map (map item_of is) (λ e. e.0) in
    let b = length-map is item_of in
    f s.0 (omega (arith, l, w, a, b)) s.1
