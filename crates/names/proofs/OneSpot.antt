-- Modules have at most one first name that is given twice, at one offset.
use Rattle.std.proofs.Common.{◌≡◌, ◌⊎◌, inl, inr, ℕ, ◌++◌, ◌<◌, ◌≤◌, List, [], ◌∷◌, length, map, Some, take, refl, sym, subst, ap, ◌∙◌, arith}
use Rattle.std.specs.Prelude.{slice_get, String}
use Rattle.std.specs.Global.{Global}
use Rattle.std.proofs.lemmas.Bool.{cases_order}
use Rattle.std.proofs.lemmas.List.{map-append}
use Rattle.std.proofs.lemmas.Option.{same_Some, slice_get_within}
use Rattle.trees.specs.Values.{Name, name_at}
use Rattle.trees.specs.declared.location.At.{At}
use Rattle.trees.specs.declared.location.SourceLocation.{SourceLocation}
use Rattle.trees.specs.declared.module.Assignment.{Assignment}
use Rattle.trees.specs.declared.module.Import.{Import}
use Rattle.trees.specs.declared.module.Module.{Module as ModuleSyntax}
use Rattle.trees.specs.Modules.{ModuleTree, assignment_tree_of, import_of, module_tree_of}
use Rattle.names.specs.Faults.{IsSameLocation, fault_module, fault_name}
use Rattle.names.specs.First.{IsAgain, IsFirstSpot, IsSpotOf, assigned_spots, import_spots, itself, name_spot, of_assignment}
use Rattle.names.specs.Modules.{AreDifferent, OccursIn, OccursTwice, imports_of, name_of, names_in}
use Rattle.names.specs.Names.{names_of}
use Rattle.names.specs.proving.Distinct.{left, mapped, occurs_map, of_front, to_front}

-- element n, which is also before its place, is twice in each list that has it and all before it
again_twice : {X Y : Type 0} (f : X → Y) (xs ys : List X) (n : ℕ) (x : X) →
    ((k : ℕ) (y : X) → k < n → slice_get xs k ≡ Some y → slice_get ys k ≡ Some y) → slice_get ys n ≡ Some x →
    OccursIn (map f (take n xs)) (f x) → OccursTwice (map f ys) (f x)
again_twice f xs ys n x more there o =
    let m = mapped f (take n xs) o.0 (f x) o.1 in
    let b = of_front xs n o.0 m.0 m.1 in
    record {
      first = o.0;
      second = n;
      apart = b.0;
      here = occurs_map f ys o.0 m.0 (more o.0 m.0 b.0 b.1) ∙ ap Some m.2;
      there = occurs_map f ys n x there;
    }

-- ---- the names of one module

-- the names that are assigned, without offsets
assigned_named : (gs : List Assignment) → names_of (assigned_spots gs) ≡ map name_of (map assignment_tree_of gs)
assigned_named [] = refl
assigned_named (g ∷ gs) = ap (λ l. name_of (assignment_tree_of g) ∷ l) (assigned_named gs)

imported_one : (N : Name) (ns : List (At (String Global))) →
    names_of (map name_spot ns) ≡ map (λ (p : Name × Name). p.0) (map (λ x. (x, N)) (map name_at ns))
imported_one N [] = refl
imported_one N (n ∷ ns) = ap (λ l. name_at n ∷ l) (imported_one N ns)

-- the names that are imported, without offsets
imported_named : (is : List Import) →
    names_of (import_spots is) ≡ map (λ (p : Name × Name). p.0) (imports_of (map import_of is))
imported_named [] = refl
imported_named (i ∷ is) =
    let N = name_at i.module in
    map-append (λ (p : Name × ℕ). p.0) (map name_spot i.names.items) (import_spots is)
    ∙ ap (λ l. l ++ names_of (import_spots is)) (imported_one N i.names.items)
    ∙ ap (λ l. map (λ (p : Name × Name). p.0) (map (λ x. (x, N)) (map name_at i.names.items)) ++ l) (imported_named is)
    ∙ sym (map-append (λ (p : Name × Name). p.0) (map (λ x. (x, N)) (map name_at i.names.items)) (imports_of (map import_of is)))

all_named : (m : ModuleSyntax) →
    names_of (assigned_spots m.assignments.items ++ import_spots m.imports.items) ≡ names_in (module_tree_of m)
all_named m =
    map-append (λ (p : Name × ℕ). p.0) (assigned_spots m.assignments.items) (import_spots m.imports.items)
    ∙ ap (λ l. l ++ names_of (import_spots m.imports.items)) (assigned_named m.assignments.items)
    ∙ ap (λ l. map name_of (map assignment_tree_of m.assignments.items) ++ l) (imported_named m.imports.items)

-- a module with a name that is also before its place doesn't have distinct names
not_again : (m : ModuleSyntax) (x : Name) (at : ℕ) →
    IsAgain (assigned_spots m.assignments.items) (import_spots m.imports.items) x at →
    AreDifferent (names_in (module_tree_of m)) → ⊥
not_again m x at a d =
    let xs = assigned_spots m.assignments.items ++ import_spots m.imports.items in
    subst AreDifferent (sym (all_named m)) d x (again_twice (λ (p : Name × ℕ). p.0) xs xs a.number (x, a.own) (λ k y l h. h) a.there a.again)

-- two names at one place have one offset
module _ (as' is : List (Name × ℕ)) where
  apart : (k i j : ℕ) (x : Name) (m n : ℕ) → length as' ≤ k → AreDifferent (names_of (take k (as' ++ is))) →
      slice_get as' i ≡ Some (x, m) → slice_get as' j ≡ Some (x, n) → i < j → ⊥
  apart k i j x m n l d e f w =
      let u = slice_get_within as' i (x, m) e in
      let v = slice_get_within as' j (x, n) f in
      let a = to_front (as' ++ is) k i (x, m) (omega (arith, l, u)) (left as' is i (x, m) e) in
      let b = to_front (as' ++ is) k j (x, n) (omega (arith, l, v)) (left as' is j (x, n) f) in
      d x (record {
        first = i;
        second = j;
        apart = w;
        here = occurs_map (λ (p : Name × ℕ). p.0) (take k (as' ++ is)) i (x, m) a;
        there = occurs_map (λ (p : Name × ℕ). p.0) (take k (as' ++ is)) j (x, n) b;
      })

  one_place : (k : ℕ) (x : Name) (m n : ℕ) → length as' ≤ k → AreDifferent (names_of (take k (as' ++ is))) →
      OccursIn as' (x, m) → OccursIn as' (x, n) → m ≡ n
  one_place k x m n l d a b =
      elim (cases_order a.0 b.0) [
        | inl e ↦ ap (λ (p : Name × ℕ). p.1) (same_Some (x, m) (x, n) (sym a.1 ∙ ap (λ z. slice_get as' z) e ∙ b.1))
        | inr o ↦ elim o [
          | inl w ↦ absurd (apart k a.0 b.0 x m n l d a.1 b.1 w)
          | inr w ↦ absurd (apart k b.0 a.0 x n m l d b.1 a.1 w)
        ]
      ]

  occurs_named : (x : Name) (n : ℕ) → OccursIn as' (x, n) → OccursIn (names_of as') x
  occurs_named x n o = (o.0, occurs_map (λ (p : Name × ℕ). p.0) as' o.0 (x, n) o.1)

  one_spot_of : (k : ℕ) (x : Name) (own m n : ℕ) → AreDifferent (names_of (take k (as' ++ is))) →
      IsSpotOf as' k x own m → IsSpotOf as' k x own n → m ≡ n
  one_spot_of k x own m n d (itself f e) (itself g h) = e ∙ sym h
  one_spot_of k x own m n d (itself f e) (of_assignment l o) = absurd (f l (occurs_named x n o))
  one_spot_of k x own m n d (of_assignment l o) (itself f e) = absurd (f l (occurs_named x m o))
  one_spot_of k x own m n d (of_assignment l o) (of_assignment w p) = one_place k x m n l d o p

  not_before : (x y : Name) (m n : ℕ) (a : IsAgain as' is x m) (b : IsAgain as' is y n) → a.number < b.number → ⊥
  not_before x y m n a b l =
      let xs = as' ++ is in
      b.before x (again_twice (λ (p : Name × ℕ). p.0) xs (take b.number xs) a.number (x, a.own)
      (λ k z w h. to_front xs b.number k z (omega (arith, w, l)) h) (to_front xs b.number a.number (x, a.own) l a.there) a.again)

  one_again : (x y : Name) (m n : ℕ) → IsAgain as' is x m → IsAgain as' is y n → (x ≡ y) × (m ≡ n)
  one_again x y m n a b =
      elim (cases_order a.number b.number) [
        | inl e ↦ (let p = same_Some (x, a.own) (y, b.own) (sym a.there ∙ ap (λ z. slice_get (as' ++ is) z) e ∙ b.there) in
            let q = ap (λ (z : Name × ℕ). z.0) p in
            let s = subst (λ z. IsSpotOf as' b.number y z m) (ap (λ (z : Name × ℕ). z.1) p) (subst (λ z. IsSpotOf as' b.number z a.own m) q (subst (λ z. IsSpotOf as' z x a.own m) e a.reported)) in
            (q, one_spot_of b.number y b.own m n b.before s b.reported))
        | inr o ↦ elim o [
          | inl w ↦ absurd (not_before x y m n a b w)
          | inr w ↦ absurd (not_before y x n m b a w)
        ]
      ]

-- ---- modules

abbrev names_before : ℕ → List ModuleSyntax → List Name
names_before n ws = map (λ (m : ModuleTree). m.name) (map module_tree_of (take n ws))

abbrev HaveNames : List ModuleSyntax → Type 0
HaveNames ys = (m : ModuleTree) → OccursIn (map module_tree_of ys) m → AreDifferent (names_in m)

name_here : (ws : List ModuleSyntax) (n : ℕ) (M : Name) → OccursIn (names_before n ws) M →
    OccursIn (map (λ (m : ModuleSyntax). name_at m.name) (take n ws)) M
name_here ws n M o =
    let a = mapped (λ (m : ModuleTree). m.name) (map module_tree_of (take n ws)) o.0 M o.1 in
    let b = mapped module_tree_of (take n ws) o.0 a.0 a.1 in
    (o.0, occurs_map (λ (m : ModuleSyntax). name_at m.name) (take n ws) o.0 b.0 b.1 ∙ ap (λ (z : ModuleTree). Some z.name) b.2 ∙ ap Some a.2)

names_are : (ys : List ModuleSyntax) →
    map (λ (m : ModuleSyntax). name_at m.name) ys ≡ map (λ (m : ModuleTree). m.name) (map module_tree_of ys)
names_are [] = refl
names_are (y ∷ ys) = ap (λ l. name_at y.name ∷ l) (names_are ys)

-- the module of a first fault, and those before it, don't have distinct names
spot_not : (ws ys : List ModuleSyntax) (s : SourceLocation) (a : IsFirstSpot ws s) →
    ((k : ℕ) (y : ModuleSyntax) → k < a.number → slice_get ws k ≡ Some y → slice_get ys k ≡ Some y) →
    slice_get ys a.number ≡ Some a.written → AreDifferent (map (λ (m : ModuleTree). m.name) (map module_tree_of ys)) →
    HaveNames ys → ⊥
spot_not ws ys s a more there d e =
    elim a.first [
      | inl h ↦ (let M = name_at a.written.name in
          let o = subst (λ z. OccursIn (names_before a.number ws) z) a.named h.1 in
          subst AreDifferent (sym (names_are ys)) d M (again_twice (λ (m : ModuleSyntax). name_at m.name) ws ys a.number a.written more there (name_here ws a.number M o)))
      | inr h ↦ not_again a.written (fault_name s) s.at h.1 (e (module_tree_of a.written) (a.number, occurs_map module_tree_of ys a.number a.written there))
    ]

-- modules with distinct names have no such fault
pub spot_excludes : (ws : List ModuleSyntax) (s : SourceLocation) → IsFirstSpot ws s →
    AreDifferent (map (λ (m : ModuleTree). m.name) (map module_tree_of ws)) → HaveNames ws → ⊥
spot_excludes ws s a d e = spot_not ws ws s a (λ k y l h. h) a.there d e

before_spot : (ws : List ModuleSyntax) (s t : SourceLocation) (a : IsFirstSpot ws s) (b : IsFirstSpot ws t) →
    a.number < b.number → ⊥
before_spot ws s t a b l =
    spot_not ws (take b.number ws) s a (λ k y w h. to_front ws b.number k y (omega (arith, w, l)) h) (to_front ws b.number a.number a.written l a.there) b.modules b.names

-- what is wrong in module w after others
abbrev IsIn : List ModuleSyntax → ℕ → ModuleSyntax → SourceLocation → Type 0
IsIn ws n w s =
    ((fault_name s ≡ fault_module s) × OccursIn (names_before n ws) (fault_module s) × (s.at ≡ w.name.at))
    ⊎ ((OccursIn (names_before n ws) (fault_module s) → ⊥)
    × IsAgain (assigned_spots w.assignments.items) (import_spots w.imports.items) (fault_name s) s.at)

one_in : (ws : List ModuleSyntax) (n : ℕ) (w : ModuleSyntax) (s t : SourceLocation) → fault_module s ≡ fault_module t →
    IsIn ws n w s → IsIn ws n w t → IsSameLocation s t
one_in ws n w s t e (inl a) (inl b) = (e, a.0 ∙ e ∙ sym b.0, a.2 ∙ sym b.2)
one_in ws n w s t e (inl a) (inr b) = absurd (b.0 (subst (λ z. OccursIn (names_before n ws) z) e a.1))
one_in ws n w s t e (inr a) (inl b) = absurd (a.0 (subst (λ z. OccursIn (names_before n ws) z) (sym e) b.1))
one_in ws n w s t e (inr a) (inr b) =
    let r = one_again (assigned_spots w.assignments.items) (import_spots w.imports.items) (fault_name s) (fault_name t) s.at t.at a.1 b.1 in
    (e, r.0, r.1)

same_spot : (ws : List ModuleSyntax) (s t : SourceLocation) (a : IsFirstSpot ws s) (b : IsFirstSpot ws t) →
    a.number ≡ b.number → IsSameLocation s t
same_spot ws s t a b q =
    let w = same_Some a.written b.written (sym a.there ∙ ap (λ z. slice_get ws z) q ∙ b.there) in
    let e : fault_module s ≡ fault_module t = a.named ∙ ap (λ (z : ModuleSyntax). name_at z.name) w ∙ sym b.named in
    one_in ws b.number b.written s t e (subst (λ z. IsIn ws z b.written s) q (subst (λ z. IsIn ws a.number z s) w a.first)) b.first

pub one_spot : (ws : List ModuleSyntax) (s t : SourceLocation) → IsFirstSpot ws s → IsFirstSpot ws t →
    IsSameLocation s t
one_spot ws s t a b =
    elim (cases_order a.number b.number) [
      | inl q ↦ same_spot ws s t a b q
      | inr o ↦ elim o [
        | inl l ↦ absurd (before_spot ws s t a b l)
        | inr l ↦ absurd (before_spot ws t s b a l)
      ]
    ]
