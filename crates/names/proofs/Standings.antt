-- Exports and imports in tables of names, and in the modules that gave them.
use Rattle.std.proofs.Common.{◌≡◌, ◌⊎◌, inl, inr, ℕ, zero, suc, ◌+◌, ◌<◌, List, [], ◌∷◌, length, Some, None, map, refl, sym, subst, ap, ◌∙◌, arith}
use Rattle.std.specs.Prelude.{slice_get, Option, String, string_bytes}
use Rattle.std.specs.Global.{Global}
use Rattle.std.proofs.lemmas.Option.{same_Some, slice_get_within}
use Rattle.trees.specs.Values.{Name}
use Rattle.trees.specs.Modules.{ModuleTree}
use Rattle.names.specs.declared.fault.NameFault.{NameFault}
use Rattle.names.specs.declared.fault.NameFault.TheVariants as faults
use Rattle.names.specs.declared.gather.ModuleTables.{ModuleTables}
use Rattle.names.specs.declared.scope.Assigned.{Assigned}
use Rattle.names.specs.declared.scope.Origin.{Origin}
use Rattle.names.specs.declared.scope.Scope.{Scope}
use Rattle.names.specs.Names.{names_of, Module, under, IsApart}
use Rattle.names.specs.proving.Gathering.{HasGathered, IsNamingFault}
use Rattle.names.specs.proving.Standing.{IsOffered, IsExportFault, IsImportFault, IsImportsFault, AreExportsSound, IsExportsFault}
use Rattle.names.specs.ByNumber.{scope_of, scopes_from}
use Rattle.names.specs.Faults.{fault_name}
use Rattle.names.specs.Modules.{imports_of, OccursIn, AreDifferent, IsExported, AreNamed, Offers, assigned_names, value_count, names_in}
use Rattle.names.specs.Scopes.{ImportSpot, all_spots, origin_of, origin_spot, origin_spots, origins, seen, scopes, spots_of}
use Rattle.names.proofs.After.{names_named, names_scopes}
use Rattle.names.specs.proving.Distinct.{mapped, name_under, occurs_map, twice_across, under_none, under_some}

-- what holds of all
pub all_checked : {Y : Type 0} (ys : List Y) (P : Y → Type 0) (n : ℕ) → n ≡ length ys →
    ((k : ℕ) (y : Y) → k < n → slice_get ys k ≡ Some y → P y) → (y : Y) → OccursIn ys y → P y
all_checked ys P n e f y s = let w = slice_get_within ys s.0 y s.1 in f s.0 y (omega (arith, w, e)) s.1

-- ---- the modules of a table of names

-- what is in the table of a module
pub record Reports (ms : List ModuleTree) (M : Name) (m : Module) : Type 0 where
  pub tree : ModuleTree
  pub there : OccursIn ms tree
  pub named : M ≡ tree.name
  pub assigned : names_of m.assigned ≡ assigned_names tree
  pub imports : m.imports ≡ imports_of tree.imports
  pub exports : m.exports ≡ tree.exports

pub tells : (n v : ℕ) (ms : List ModuleTree) (k : ℕ) (M : Name) (m : Module) →
    slice_get (scopes_from n v ms) k ≡ Some (M, m) → Reports ms M m
tells n v [] k M m e = absurd cc
tells n v (t ∷ ms) zero M m e =
    let q : (t.name, scope_of n v t) ≡ (M, m) = same_Some _ _ e in
    record {
      tree = t;
      there = (0, refl);
      named = sym (ap (λ z. z.0) q);
      assigned = ap (λ z. names_of z.1.assigned) (sym q) ∙ names_named n v t.assignments;
      imports = ap (λ z. z.1.imports) (sym q);
      exports = ap (λ z. z.1.exports) (sym q);
    }
tells n v (t ∷ ms) (suc k) M m e =
    let r = tells (n + length t.assignments) (v + value_count t.assignments) ms k M m e in
    record { tree = r.tree; there = (suc r.there.0, r.there.1); named = r.named; assigned = r.assigned; imports = r.imports; exports = r.exports }

-- the table of a module
pub record HasTable (ss : List (Name × Module)) (t : ModuleTree) : Type 0 where
  pub scope : Module
  pub there : OccursIn ss (t.name, scope)
  pub assigned : names_of scope.assigned ≡ assigned_names t
  pub imports : scope.imports ≡ imports_of t.imports
  pub exports : scope.exports ≡ t.exports

pub reported : (n v : ℕ) (ms : List ModuleTree) (k : ℕ) (t : ModuleTree) → slice_get ms k ≡ Some t →
    HasTable (scopes_from n v ms) t
reported n v [] k t e = absurd cc
reported n v (u ∷ ms) zero t e =
    let q : u ≡ t = same_Some u t e in
    subst (λ z. HasTable (scopes_from n v (u ∷ ms)) z) q (record { scope = scope_of n v u; there = (0, refl); assigned = names_named n v u.assignments; imports = refl; exports = refl })
reported n v (u ∷ ms) (suc k) t e =
    let r = reported (n + length u.assignments) (v + value_count u.assignments) ms k t e in
    record { scope = r.scope; there = (suc r.there.0, r.there.1); assigned = r.assigned; imports = r.imports; exports = r.exports }

-- what is offered by a table is offered by its module
offers : (ms : List ModuleTree) (N x : Name) → IsOffered (scopes_from 0 0 ms) N x → Offers ms N x
offers ms N x o =
    let s = under_some N (scopes_from 0 0 ms) o.other o.there in
    let t = tells 0 0 ms s.0 N o.other s.1 in
    record { tree = t.tree; there = t.there; named = sym t.named; assigns = subst (λ l. OccursIn l x) t.assigned (name_under x o.other.assigned o.assigned o.assigns); exported = subst (λ z. IsExported z x) t.exports o.exported }

pub are_named : (ms : List ModuleTree) (g : ModuleTables) → HasGathered ms g → AreExportsSound (scopes g.modules.entries) →
    AreNamed ms
are_named ms g h s =
    let a = subst AreExportsSound h.scopes s in
    record {
      modules = h.distinct;
      names = h.apart;
      exports = λ m xs x there e listed.
          let r = reported 0 0 ms there.0 m there.1 in
          subst (λ l. OccursIn l x) r.assigned ((a m.name r.scope r.there).0 xs x (r.exports ∙ e) listed);
      imports = λ m N x there i.
          let r = reported 0 0 ms there.0 m there.1 in
          offers ms N x ((a m.name r.scope r.there).1 N x (subst (λ l. OccursIn l (x, N)) (sym r.imports) i));
    }

absent : (ms : List ModuleTree) (N : Name) → under N (scopes_from 0 0 ms) ≡ None → OccursIn (map (λ m. m.name) ms) N → ⊥
absent ms N u s = under_none N (scopes_from 0 0 ms) u (subst (λ l. OccursIn l N) (sym (names_scopes 0 0 ms)) s)

unassigned : (m : Module) (t : ModuleTree) (x : Name) → names_of m.assigned ≡ assigned_names t →
    under x m.assigned ≡ None → OccursIn (assigned_names t) x → ⊥
unassigned m t x e u s = under_none x m.assigned u (subst (λ l. OccursIn l x) (sym e) s)

export_fault : (ms : List ModuleTree) (M : Name) (m : Module) (e : NameFault) → Reports ms M m → IsExportFault M m e →
    IsNamingFault ms e
export_fault ms M m faults.Memory t f = tt
export_fault ms M m (faults.UnknownName s) t f =
    inl (record { tree = t.tree; there = t.there; named = sym t.named ∙ sym f.2.0; names = f.0; list = sym t.exports ∙ f.1; listed = f.2.1; unassigned = unassigned m t.tree (fault_name s) t.assigned f.2.2 })
export_fault ms M m (faults.Limit l s) t f = absurd f.2
export_fault ms M m (faults.Twice s) t f = absurd f.2
export_fault ms M m (faults.NotExported s) t f = absurd f.2
export_fault ms M m (faults.Circular s) t f = absurd f.2
export_fault ms M m (faults.UnknownModule s) t f = absurd f.2

module _ (ms : List ModuleTree) (M : Name) (m : Module) (t : Reports ms M m) (N x : Name) (s : OccursIn m.imports (x, N)) where
  taken_from : (y : Name) → y ≡ x → (n : Module) (r : Reports ms N n) →
      OccursIn (imports_of t.tree.imports) (y, r.tree.name)
  taken_from y e n r = subst (λ l. OccursIn l (y, r.tree.name)) t.imports (subst (λ z. OccursIn m.imports (z, r.tree.name)) (sym e) (subst (λ z. OccursIn m.imports (x, z)) r.named s))

  import_fault : (e : NameFault) → IsImportFault (scopes_from 0 0 ms) M N x e → IsNamingFault ms e
  import_fault faults.Memory f = tt
  import_fault (faults.UnknownModule a) f =
      record {
        tree = t.tree;
        there = t.there;
        named = sym t.named ∙ sym f.0;
        name = x;
        imports = subst (λ l. OccursIn l (x, fault_name a)) t.imports (subst (λ z. OccursIn m.imports (x, z)) (sym f.1) s);
        nowhere = subst (λ z. OccursIn (map (λ m. m.name) ms) z → ⊥) (sym f.1) (absent ms N f.2);
      }
  import_fault (faults.UnknownName a) f =
      let o = under_some N (scopes_from 0 0 ms) f.2 f.3 in
      let r = tells 0 0 ms o.0 N f.2 o.1 in
      inr (record { tree = t.tree; there = t.there; named = sym t.named ∙ sym f.0; other = r.tree; given = r.there; imports = taken_from (fault_name a) f.1 f.2 r; such = subst (λ z. OccursIn (assigned_names r.tree) z → ⊥) (sym f.1) (unassigned f.2 r.tree x r.assigned f.4) })
  import_fault (faults.NotExported a) f =
      let o = under_some N (scopes_from 0 0 ms) f.2 f.3 in
      let r = tells 0 0 ms o.0 N f.2 o.1 in
      record {
        tree = t.tree;
        there = t.there;
        named = sym t.named ∙ sym f.0;
        other = r.tree;
        given = r.there;
        imports = taken_from (fault_name a) f.1 f.2 r;
        such = (
          subst (λ z. OccursIn (assigned_names r.tree) z) (sym f.1) (subst (λ l. OccursIn l x) r.assigned (name_under x f.2.assigned f.4 f.5)),
          subst (λ z. IsExported r.tree.exports z → ⊥) (sym f.1) (subst (λ z. IsExported z x → ⊥) r.exports f.6),
        );
      }
  import_fault (faults.Limit l a) f = absurd f
  import_fault (faults.Twice a) f = absurd f
  import_fault (faults.Circular a) f = absurd f

one_fault : (ms : List ModuleTree) (M : Name) (m : Module) (e : NameFault) → Reports ms M m →
    IsExportFault M m e ⊎ IsImportsFault (scopes_from 0 0 ms) M m.imports e → IsNamingFault ms e
one_fault ms M m e t (inl f) = export_fault ms M m e t f
one_fault ms M m e t (inr f) = import_fault ms M m t f.0 f.1 f.2 e f.3

scopes_fault : (ms : List ModuleTree) (e : NameFault) → IsExportsFault (scopes_from 0 0 ms) e → IsNamingFault ms e
scopes_fault ms e f = one_fault ms f.0 f.1 e (tells 0 0 ms f.2.0 f.0 f.1 f.2.1) f.3

pub standing_fault : (ms : List ModuleTree) (g : ModuleTables) (e : NameFault) → HasGathered ms g →
    IsExportsFault (scopes g.modules.entries) e → IsNamingFault ms e
standing_fault ms g e h f = scopes_fault ms e (subst (λ z. IsExportsFault z e) h.scopes f)

-- no module imports a name that it assigns
pub are_apart : (ms : List ModuleTree) → ((m : ModuleTree) → OccursIn ms m → AreDifferent (names_in m)) →
    IsApart (scopes_from 0 0 ms)
are_apart ms d M x N m u i = by (under x m.assigned) refl
  where
    by : (o : Option Assigned) → under x m.assigned ≡ o → o ≡ None
    by None e = refl
    by (Some a) e =
        let s = under_some M (scopes_from 0 0 ms) m u in
        let t = tells 0 0 ms s.0 M m s.1 in
        let one = subst (λ l. OccursIn l x) t.assigned (name_under x m.assigned a e) in
        let two = subst (λ l. OccursIn (names_of l) x) t.imports (name_under x m.imports N i) in
        absurd (d t.tree t.there x (twice_across (assigned_names t.tree) (names_of (imports_of t.tree.imports)) x one two))

-- what a module's name stands for, once the name is read
pub there_under : (ss : List (Name × Module)) (x N : Name) (o : Option Module) (m : Module) → x ≡ N → o ≡ under x ss →
    o ≡ Some m → under N ss ≡ Some m
there_under ss x N o m e f g = ap (λ z. under z ss) (sym e) ∙ sym f ∙ g

pub seen_long : {X Y : Type 0} (f : X → Y) (es : List (String Global × X)) → length (seen f es) ≡ length es
seen_long f [] = refl
seen_long f (e ∷ es) = ap suc (seen_long f es)

-- ---- offsets

pub entry_spot : (es : List (String Global × Origin)) (k : ℕ) (x : String Global) (o : Origin) →
    slice_get es k ≡ Some (x, o) → slice_get (origin_spots es) k ≡ Some (string_bytes x, origin_spot o)
entry_spot es k x o e = occurs_map (λ (p : String Global × Origin). (string_bytes p.0, origin_spot p.1)) es k (x, o) e

-- what holds of the names and modules of imports holds of them with offsets
pub spots_offered : (ss : List (Name × Module)) (es : List (String Global × Origin)) (n : ℕ) →
    ((k : ℕ) (i : Name × Name) → k < n → slice_get (origins es) k ≡ Some i → IsOffered ss i.1 i.0) → (k : ℕ)
    (i : Name × ImportSpot) → k < n → slice_get (origin_spots es) k ≡ Some i → IsOffered ss i.1.other i.0
spots_offered ss es n f k i l e =
    let m = mapped (λ (p : String Global × Origin). (string_bytes p.0, origin_spot p.1)) es k i e in
    let o = f k (string_bytes m.0.0, origin_of m.0.1) l (occurs_map (λ (p : String Global × Origin). (string_bytes p.0, origin_of p.1)) es k m.0 m.1) in
    subst (λ (z : Name × ImportSpot). IsOffered ss z.1.other z.0) m.2 o

pub module_spots : (es : List (String Global × Scope)) (k : ℕ) (x : String Global) (s : Scope) →
    slice_get es k ≡ Some (x, s) → slice_get (all_spots es) k ≡ Some (string_bytes x, spots_of s)
module_spots es k x s e = occurs_map (λ (p : String Global × Scope). (string_bytes p.0, spots_of p.1)) es k (x, s) e
