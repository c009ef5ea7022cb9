-- Modules have at most one first fault of exports and imports, at one offset.
use Rattle.std.proofs.Common.{◌≡◌, inl, inr, ℕ, zero, suc, ◌+◌, ◌++◌, ◌<◌, List, [], ◌∷◌, length, map, option_map, Some, None, refl, sym, subst, ap, ◌∙◌}
use Rattle.std.specs.Prelude.{slice_get, Option, String, Vec}
use Rattle.std.specs.Global.{Global}
use Rattle.std.proofs.lemmas.Bool.{cases_order}
use Rattle.std.proofs.lemmas.List.{map-append}
use Rattle.std.proofs.lemmas.Option.{same_Some}
use Rattle.trees.specs.Values.{Name, name_at}
use Rattle.trees.specs.declared.location.At.{At}
use Rattle.trees.specs.declared.location.SourceLocation.{SourceLocation}
use Rattle.trees.specs.declared.module.Import.{Import}
use Rattle.trees.specs.declared.module.Module.{Module as ModuleSyntax}
use Rattle.trees.specs.Modules.{import_of, module_tree_of}
use Rattle.names.specs.declared.fault.NameFault.{NameFault}
use Rattle.names.specs.declared.fault.NameFault.TheVariants as faults
use Rattle.names.specs.declared.scope.Assigned.{Assigned}
use Rattle.names.specs.ByNumber.{scope_of, scopes_from}
use Rattle.names.specs.Faults.{IsSameLocation, ReportsAlike, fault_name}
use Rattle.names.specs.First.{IsFirstExport, IsFirstExports, IsFirstImport, IsFirstLost, IsFirstOf, IsImportAt, ReportsUnknown, all_written, import_spot, name_spot, written_imports, written_spots}
use Rattle.names.specs.Modules.{IsExported, OccursIn, imports_of, value_count}
use Rattle.names.specs.Names.{Module, names_of, under}
use Rattle.names.specs.Scopes.{ImportSpot, Spots}
use Rattle.names.specs.proving.Distinct.{occurs_map}
use Rattle.names.specs.proving.Reports.{known, with_memory}
use Rattle.names.specs.proving.Standing.{ExportAssigned, ImportOffered, IsImportFault, IsOffered}
use Rattle.names.proofs.Listing.{spots_named}

-- an import without its offsets
abbrev unplaced : Name × ImportSpot → Name × Name
unplaced i = (i.0, i.1.other)

-- the name and the module of an import
abbrev from_module : Name → Name → Name × Name
from_module N x = (x, N)

-- ---- exports

module _ (M : Name) (ns : List (Name × ℕ)) (as' : List (Name × Assigned)) where
  lost_before : (s t : SourceLocation) (a : IsFirstLost M ns as' s) (b : IsFirstLost M ns as' t) →
      a.number < b.number → ⊥
  lost_before s t a b l =
      a.lost (b.before a.number (fault_name s) l (occurs_map (λ (p : Name × ℕ). p.0) ns a.number (fault_name s, s.at) a.there))

  one_lost : (s t : SourceLocation) → IsFirstLost M ns as' s → IsFirstLost M ns as' t → IsSameLocation s t
  one_lost s t a b =
      elim (cases_order a.number b.number) [
        | inl e ↦ (let p = same_Some (fault_name s, s.at) (fault_name t, t.at) (sym a.there ∙ ap (λ z. slice_get ns z) e ∙ b.there) in
            (a.within ∙ sym b.within, ap (λ (z : Name × ℕ). z.0) p, ap (λ (z : Name × ℕ). z.1) p))
        | inr o ↦ elim o [
          | inl l ↦ absurd (lost_before s t a b l)
          | inr l ↦ absurd (lost_before t s b a l)
        ]
      ]

  one_unknown : (e f : NameFault) → ReportsUnknown M ns as' e → ReportsUnknown M ns as' f → ReportsAlike e f
  one_unknown faults.Memory f a b = tt
  one_unknown (faults.UnknownName s) faults.Memory a b = tt
  one_unknown (faults.UnknownName s) (faults.UnknownName t) a b = one_lost s t a b
  one_unknown (faults.UnknownName s) (faults.Limit l t) a b = absurd b
  one_unknown (faults.UnknownName s) (faults.Twice t) a b = absurd b
  one_unknown (faults.UnknownName s) (faults.NotExported t) a b = absurd b
  one_unknown (faults.UnknownName s) (faults.Circular t) a b = absurd b
  one_unknown (faults.UnknownName s) (faults.UnknownModule t) a b = absurd b
  one_unknown (faults.Limit l s) f a b = absurd a
  one_unknown (faults.Twice s) f a b = absurd a
  one_unknown (faults.NotExported s) f a b = absurd a
  one_unknown (faults.Circular s) f a b = absurd a
  one_unknown (faults.UnknownModule s) f a b = absurd a

  -- if each of the names is assigned, none is the first that isn't
  unknown_not : (e : NameFault) → (e ≡ faults.Memory → ⊥) → ReportsUnknown M ns as' e →
      ((x : Name) → OccursIn (names_of ns) x → OccursIn (names_of as') x) → ⊥
  unknown_not faults.Memory n a g = n refl
  unknown_not (faults.UnknownName s) n a g =
      a.lost (g (fault_name s) (a.number, occurs_map (λ (p : Name × ℕ). p.0) ns a.number (fault_name s, s.at) a.there))
  unknown_not (faults.Limit l s) n a g = a
  unknown_not (faults.Twice s) n a g = a
  unknown_not (faults.NotExported s) n a g = a
  unknown_not (faults.Circular s) n a g = a
  unknown_not (faults.UnknownModule s) n a g = a

one_export : (M : Name) (o : Option (List (Name × ℕ))) (as' : List (Name × Assigned)) (e f : NameFault) →
    IsFirstExport M o as' e → IsFirstExport M o as' f → ReportsAlike e f
one_export M None as' e f a b = absurd a
one_export M (Some ns) as' e f a b = one_unknown M ns as' e f a b

export_not : (M : Name) (o : Option (List (Name × ℕ))) (m : Module) (e : NameFault) → (e ≡ faults.Memory → ⊥) →
    m.exports ≡ option_map names_of o → IsFirstExport M o m.assigned e → ExportAssigned m → ⊥
export_not M None m e n q a x = a
export_not M (Some ns) m e n q a x = unknown_not M ns m.assigned e n a (λ y s. x (names_of ns) y q s)

-- ---- imports

none_some : {X : Type 0} {o : Option X} {x : X} → o ≡ None → o ≡ Some x → ⊥
none_some a b = let c : None ≡ Some _ = sym a ∙ b in absurd cc

offered_not : (ss : List (Name × Module)) (M N x : Name) (e : NameFault) → (e ≡ faults.Memory → ⊥) →
    IsImportFault ss M N x e → IsOffered ss N x → ⊥
offered_not ss M N x faults.Memory n a o = n refl
offered_not ss M N x (faults.UnknownModule s) n a o = none_some a.2 o.there
offered_not ss M N x (faults.UnknownName s) n a o =
    let q = same_Some a.2 o.other (sym a.3 ∙ o.there) in
    none_some (subst (λ (z : Module). under x z.assigned ≡ None) q a.4) o.assigns
offered_not ss M N x (faults.NotExported s) n a o =
    let q = same_Some o.other a.2 (sym o.there ∙ a.3) in
    a.6 (subst (λ (z : Module). IsExported z.exports x) q o.exported)
offered_not ss M N x (faults.Limit l s) n a o = a
offered_not ss M N x (faults.Twice s) n a o = a
offered_not ss M N x (faults.Circular s) n a o = a

module _ (ss : List (Name × Module)) (M N x : Name) (own from : ℕ) where
  one_at : (e f : NameFault) → IsImportFault ss M N x e → IsImportAt own from e → IsImportFault ss M N x f →
      IsImportAt own from f → ReportsAlike e f
  one_at faults.Memory f a p b q = tt
  one_at (faults.UnknownModule s) faults.Memory a p b q = tt
  one_at (faults.UnknownModule s) (faults.UnknownModule t) a p b q = (a.0 ∙ sym b.0, a.1 ∙ sym b.1, p ∙ sym q)
  one_at (faults.UnknownModule s) (faults.UnknownName t) a p b q = absurd (none_some a.2 b.3)
  one_at (faults.UnknownModule s) (faults.NotExported t) a p b q = absurd (none_some a.2 b.3)
  one_at (faults.UnknownModule s) (faults.Limit l t) a p b q = absurd b
  one_at (faults.UnknownModule s) (faults.Twice t) a p b q = absurd b
  one_at (faults.UnknownModule s) (faults.Circular t) a p b q = absurd b
  one_at (faults.UnknownName s) faults.Memory a p b q = tt
  one_at (faults.UnknownName s) (faults.UnknownModule t) a p b q = absurd (none_some b.2 a.3)
  one_at (faults.UnknownName s) (faults.UnknownName t) a p b q = (a.0 ∙ sym b.0, a.1 ∙ sym b.1, p ∙ sym q)
  one_at (faults.UnknownName s) (faults.NotExported t) a p b q =
      let m = same_Some a.2 b.2 (sym a.3 ∙ b.3) in
      absurd (none_some (subst (λ (z : Module). under x z.assigned ≡ None) m a.4) b.5)
  one_at (faults.UnknownName s) (faults.Limit l t) a p b q = absurd b
  one_at (faults.UnknownName s) (faults.Twice t) a p b q = absurd b
  one_at (faults.UnknownName s) (faults.Circular t) a p b q = absurd b
  one_at (faults.NotExported s) faults.Memory a p b q = tt
  one_at (faults.NotExported s) (faults.UnknownModule t) a p b q = absurd (none_some b.2 a.3)
  one_at (faults.NotExported s) (faults.UnknownName t) a p b q =
      let m = same_Some b.2 a.2 (sym b.3 ∙ a.3) in
      absurd (none_some (subst (λ (z : Module). under x z.assigned ≡ None) m b.4) a.5)
  one_at (faults.NotExported s) (faults.NotExported t) a p b q = (a.0 ∙ sym b.0, a.1 ∙ sym b.1, p ∙ sym q)
  one_at (faults.NotExported s) (faults.Limit l t) a p b q = absurd b
  one_at (faults.NotExported s) (faults.Twice t) a p b q = absurd b
  one_at (faults.NotExported s) (faults.Circular t) a p b q = absurd b
  one_at (faults.Limit l s) f a p b q = absurd a
  one_at (faults.Twice s) f a p b q = absurd a
  one_at (faults.Circular s) f a p b q = absurd a

module _ (ss : List (Name × Module)) (M : Name) (is : List (Name × ImportSpot)) where
  import_before : (e f : NameFault) → (e ≡ faults.Memory → ⊥) → (a : IsFirstImport ss M is e)
      (b : IsFirstImport ss M is f) → a.number < b.number → ⊥
  import_before e f n a b l = offered_not ss M a.spot.other a.name e n a.fault (b.before a.number (a.name, a.spot) l a.there)

  import_here : (e f : NameFault) (a : IsFirstImport ss M is e) (b : IsFirstImport ss M is f) → a.number ≡ b.number →
      ReportsAlike e f
  import_here e f a b q =
      let p = same_Some (a.name, a.spot) (b.name, b.spot) (sym a.there ∙ ap (λ z. slice_get is z) q ∙ b.there) in
      let x = subst (λ (z : Name × ImportSpot). IsImportFault ss M z.1.other z.0 e) p a.fault in
      let y = subst (λ (z : Name × ImportSpot). IsImportAt z.1.own z.1.from e) p a.at in
      one_at ss M b.spot.other b.name b.spot.own b.spot.from e f x y b.fault b.at

  one_import : (e f : NameFault) → (e ≡ faults.Memory → ⊥) → (f ≡ faults.Memory → ⊥) → IsFirstImport ss M is e →
      IsFirstImport ss M is f → ReportsAlike e f
  one_import e f n m a b =
      elim (cases_order a.number b.number) [
        | inl q ↦ import_here e f a b q
        | inr o ↦ elim o [
          | inl l ↦ absurd (import_before e f n a b l)
          | inr l ↦ absurd (import_before f e m b a l)
        ]
      ]

  import_not : (js : List (Name × Name)) (e : NameFault) → (e ≡ faults.Memory → ⊥) →
      js ≡ map unplaced is → IsFirstImport ss M is e → ImportOffered ss js → ⊥
  import_not js e n q a o =
      let s = occurs_map unplaced is a.number (a.name, a.spot) a.there in
      offered_not ss M a.spot.other a.name e n a.fault (o a.spot.other a.name (a.number, ap (λ z. slice_get z a.number) q ∙ s))

-- ---- modules

-- the exports and imports with offsets are those of the module
pub record AreSpots (m : Module) (w : Spots) : Type 0 where
  pub exports : m.exports ≡ option_map names_of w.exports
  pub imports : m.imports ≡ map unplaced w.imports

abbrev pub AllAreSpots : List (Name × Module) → List (Name × Spots) → Type 0
AllAreSpots ss ws = (k : ℕ) (a : Name × Module) (b : Name × Spots) →
    slice_get ss k ≡ Some a →
    slice_get ws k ≡ Some b →
    AreSpots a.1 b.1

module _ (ss : List (Name × Module)) (M : Name) (m : Module) (w : Spots) (h : AreSpots m w) where
  one_not : (e : NameFault) → (e ≡ faults.Memory → ⊥) → IsFirstOf ss M m w e → ExportAssigned m →
      ImportOffered ss m.imports → ⊥
  one_not e n (inl a) x y = export_not M w.exports m e n h.exports a x
  one_not e n (inr a) x y = import_not ss M w.imports m.imports e n h.imports a.1 y

  one_of : (e f : NameFault) → (e ≡ faults.Memory → ⊥) → (f ≡ faults.Memory → ⊥) → IsFirstOf ss M m w e →
      IsFirstOf ss M m w f → ReportsAlike e f
  one_of e f n k (inl a) (inl b) = one_export M w.exports m.assigned e f a b
  one_of e f n k (inl a) (inr b) = absurd (export_not M w.exports m e n h.exports a b.0)
  one_of e f n k (inr a) (inl b) = absurd (export_not M w.exports m f k h.exports b a.0)
  one_of e f n k (inr a) (inr b) = one_import ss M w.imports e f n k a.1 b.1

module _ (ss : List (Name × Module)) (ws : List (Name × Spots)) (h : AllAreSpots ss ws) where
  before_one : (e f : NameFault) → (e ≡ faults.Memory → ⊥) → (a : IsFirstExports ss ws e) (b : IsFirstExports ss ws f) →
      a.number < b.number → ⊥
  before_one e f n a b l =
      let o = b.before a.number (a.name, a.scope) l a.there in
      one_not ss a.name a.scope a.spots (h a.number (a.name, a.scope) (a.name, a.spots) a.there a.written) e n a.fault o.0 o.1

  same_one : (e f : NameFault) → (e ≡ faults.Memory → ⊥) → (f ≡ faults.Memory → ⊥) → (a : IsFirstExports ss ws e)
      (b : IsFirstExports ss ws f) → a.number ≡ b.number → ReportsAlike e f
  same_one e f n k a b q =
      let p = same_Some (a.name, a.scope) (b.name, b.scope) (sym a.there ∙ ap (λ z. slice_get ss z) q ∙ b.there) in
      let r = same_Some (a.name, a.spots) (b.name, b.spots) (sym a.written ∙ ap (λ z. slice_get ws z) q ∙ b.written) in
      let x = subst (λ (z : Name × Spots). IsFirstOf ss b.name b.scope z.1 e) r (subst (λ (z : Name × Module). IsFirstOf ss z.0 z.1 a.spots e) p a.fault) in
      one_of ss b.name b.scope b.spots (h b.number (b.name, b.scope) (b.name, b.spots) b.there b.written) e f n k x b.fault

  two_exports : (e f : NameFault) → (e ≡ faults.Memory → ⊥) → (f ≡ faults.Memory → ⊥) → IsFirstExports ss ws e →
      IsFirstExports ss ws f → ReportsAlike e f
  two_exports e f n k a b =
      elim (cases_order a.number b.number) [
        | inl q ↦ same_one e f n k a b q
        | inr o ↦ elim o [
          | inl l ↦ absurd (before_one e f n a b l)
          | inr l ↦ absurd (before_one f e k b a l)
        ]
      ]

-- ---- modules as they are written

written_one : (from : At (String Global)) (ns : List (At (String Global))) →
    map (from_module (name_at from)) (map name_at ns)
    ≡ map unplaced (map (import_spot from) ns)
written_one from [] = refl
written_one from (n ∷ ns) = ap (λ l. from_module (name_at from) (name_at n) ∷ l) (written_one from ns)

written_all : (is : List Import) →
    imports_of (map import_of is) ≡ map unplaced (written_imports is)
written_all [] = refl
written_all (i ∷ is) =
    ap (λ l. l ++ imports_of (map import_of is)) (written_one i.module i.names.items)
    ∙ ap (λ l. map unplaced (map (import_spot i.module) i.names.items) ++ l) (written_all is)
    ∙ sym (map-append unplaced (map (import_spot i.module) i.names.items) (written_imports is))

exported : (o : Option (Vec (At (String Global)) Global)) →
    option_map (λ xs. map name_at xs.items) o ≡ option_map names_of (option_map (λ xs. map name_spot xs.items) o)
exported None = refl
exported (Some v) = ap Some (sym (spots_named v.items))

are_spots : (n v : ℕ) (m : ModuleSyntax) → AreSpots (scope_of n v (module_tree_of m)) (written_spots m)
are_spots n v m = record { exports = exported m.exports; imports = written_all m.imports.items }

all_spots : (n v : ℕ) (ws : List ModuleSyntax) → AllAreSpots (scopes_from n v (map module_tree_of ws)) (all_written ws)
all_spots n v [] k a b e f = absurd cc
all_spots n v (m ∷ ws) zero a b e f =
    let p = same_Some _ a e in
    let q = same_Some _ b f in
    subst (λ (z : Name × Spots). AreSpots a.1 z.1) q (subst (λ (z : Name × Module). AreSpots z.1 (written_spots m)) p (are_spots n v m))
all_spots n v (m ∷ ws) (suc k) a b e f =
    let gs = (module_tree_of m).assignments in
    all_spots (n + length gs) (v + value_count gs) ws k a b e f

pub one_exports : (ws : List ModuleSyntax) (e f : NameFault) →
    IsFirstExports (scopes_from 0 0 (map module_tree_of ws)) (all_written ws) e →
    IsFirstExports (scopes_from 0 0 (map module_tree_of ws)) (all_written ws) f → ReportsAlike e f
one_exports ws e f a b =
    elim (known e) [
      | inl q ↦ subst (λ z. ReportsAlike z f) (sym q) tt
      | inr n ↦ elim (known f) [
        | inl q ↦ subst (λ z. ReportsAlike e z) (sym q) (with_memory e)
        | inr k ↦ two_exports (scopes_from 0 0 (map module_tree_of ws)) (all_written ws) (all_spots 0 0 ws) e f n k a b
      ]
    ]
