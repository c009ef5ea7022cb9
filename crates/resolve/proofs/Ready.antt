-- A program of what is gathered is one of its modules.
use Rattle.std.proofs.Common.{◌≡◌, ◌⊎◌, inl, inr, ℕ, List, Some, map, sym, subst, ap, ◌∙◌, refl}
use Rattle.std.specs.Prelude.{slice_get}
use Rattle.trees.specs.Modules.{ModuleTree}
use Rattle.names.specs.declared.fault.NameFault.{NameFault}
use Rattle.names.specs.declared.fault.NameFault.TheVariants as faults
use Rattle.names.specs.declared.fault.Limit.TheVariants as limits
use Rattle.names.specs.declared.gather.ModuleTables.{ModuleTables}
use Rattle.names.specs.ByNumber.{scopes_from, headers_of, owned_from, roots_of}
use Rattle.names.specs.Modules.{AreNamed, AreFew}
use Rattle.names.specs.Scopes.{seen, module_of}
use Rattle.names.specs.Sources.{Source, assignment_of, header_of, sources_of}
use Rattle.names.specs.proving.Distinct.{left}
use Rattle.names.specs.proving.Gathering.{HasGathered, IsNamingFault}
use Rattle.trees.specs.Values.{Name}
use Rattle.trees.specs.declared.module.TagDefault.{TagDefault}
use Rattle.type_table.specs.Faults.{IsTableFault}
use Rattle.type_table.specs.Numbering.{AreNumberedTypes, all_parts}
use Rattle.type_table.specs.Table.{Type'}
use Rattle.type_table.specs.proving.Checks.{IsTypesLimit}
use Rattle.resolve.specs.Links.{IsProgramOf, Links, IsLinkFault}
use Rattle.resolve.specs.Program.{Program}
use Rattle.resolve.specs.Sound.{IsSoundFault}
use Rattle.resolve.specs.proving.Assembled.{IsOf, IsAssembled, IsAssemblyFault, IsTableFrom, IsTablesFault}

-- the table of what is gathered is that of the modules
pub same_table : (ms : List ModuleTree) (g : ModuleTables) (ts : List Type') → HasGathered ms g → IsTableFrom g ts →
    AreNumberedTypes (scopes_from 0 0 ms) (headers_of ms) (owned_from 0 ms) (roots_of ms) ts
same_table ms g ts h a =
    subst (λ l. AreNumberedTypes l (headers_of ms) (owned_from 0 ms) (roots_of ms) ts) h.scopes
    (subst (λ l. AreNumberedTypes (seen module_of g.modules.entries) l (owned_from 0 ms) (roots_of ms) ts) h.headers
    (subst (λ l. AreNumberedTypes (seen module_of g.modules.entries) (map header_of g.headers.items) l (roots_of ms) ts) h.assignments
    (subst (λ l. AreNumberedTypes (seen module_of g.modules.entries) (map header_of g.headers.items) (map assignment_of g.tables.assignments.items) l ts) h.roots a)))

pub program_of : (ms : List ModuleTree) (g : ModuleTables) (p : Program) → HasGathered ms g → IsOf g p → IsProgramOf ms p
program_of ms g p h o =
    let modules = ap (λ z. z.modules) o.is ∙ h.scopes in
    let headers = ap (λ z. z.headers) o.is ∙ h.headers in
    let assignments = ap (λ z. z.assignments) o.is ∙ h.assignments in
    record {
      modules = modules;
      headers = headers;
      assignments = assignments;
      values = ap (λ z. z.values) o.is ∙ h.values;
      types =
          subst (λ l. AreNumberedTypes l p.headers p.assignments (roots_of ms) p.types) (sym modules)
          (subst (λ l. AreNumberedTypes (scopes_from 0 0 ms) l p.assignments (roots_of ms) p.types) (sym headers)
          (subst (λ l. AreNumberedTypes (scopes_from 0 0 ms) (headers_of ms) l (roots_of ms) p.types) (sym assignments) (same_table ms g p.types h o.types)));
    }

pub are_linked : (ms : List ModuleTree) (g : ModuleTables) (p : Program) → AreFew ms → AreNamed ms → HasGathered ms g →
    IsAssembled g p → Links ms p
are_linked ms g p f n h a = record { named = n; few = f; program = program_of ms g p h a.program; types = a.few; unfolds = a.unfolds; sound = a.sound }

pub naming_link : (ms : List ModuleTree) (e : NameFault) → IsNamingFault ms e → IsLinkFault ms e
naming_link ms faults.Memory f = tt
naming_link ms (faults.Limit l s) f = inl f
naming_link ms (faults.Twice s) f = inl f
naming_link ms (faults.UnknownName s) f = inl f
naming_link ms (faults.NotExported s) f = inl f
naming_link ms (faults.Circular s) f = inl f
naming_link ms (faults.UnknownModule s) f = inl f

abbrev Behind : List ModuleTree → NameFault → Type 0
Behind ms e = IsTableFault (scopes_from 0 0 ms) (headers_of ms) (owned_from 0 ms) (roots_of ms) e ⊎ ((p : Program) × IsProgramOf ms p × IsSoundFault p e)

after_link : (ms : List ModuleTree) (e : NameFault) → Behind ms e → IsLinkFault ms e
after_link ms faults.Memory f = tt
after_link ms (faults.Limit l s) f = inr f
after_link ms (faults.Twice s) f = inr f
after_link ms (faults.UnknownName s) f = inr f
after_link ms (faults.NotExported s) f = inr f
after_link ms (faults.Circular s) f = inr f
after_link ms (faults.UnknownModule s) f = inr f

pub assembly_link : (ms : List ModuleTree) (g : ModuleTables) (e : NameFault) → HasGathered ms g → IsAssemblyFault g e →
    IsLinkFault ms e
assembly_link ms g e h (inl f) =
    after_link ms e (inl (subst (λ l. IsTableFault l (headers_of ms) (owned_from 0 ms) (roots_of ms) e) h.scopes (subst (λ l. IsTableFault (seen module_of g.modules.entries) l (owned_from 0 ms) (roots_of ms) e) h.headers
    (subst (λ l. IsTableFault (seen module_of g.modules.entries) (map header_of g.headers.items) l (roots_of ms) e) h.assignments (subst (λ l. IsTableFault (seen module_of g.modules.entries) (map header_of g.headers.items) (map assignment_of g.tables.assignments.items) l e) h.roots f)))))
assembly_link ms g e h (inr r) = after_link ms e (inr (r.0, program_of ms g r.0 h r.1, r.2))

-- more assignments than there may be types
pub more_roots : (g : ModuleTables) (s : Source) (owner : ℕ) (M x : Name) (d : TagDefault) (e : NameFault) →
    slice_get (sources_of g.tables.roots.items) 65536 ≡ Some s → slice_get (map assignment_of g.tables.assignments.items) s.assignment ≡ Some (owner, x) → slice_get (map header_of g.headers.items) owner ≡ Some (M, d) → IsTypesLimit M x e → IsTablesFault g e
more_roots g s owner M x d faults.Memory r a h l = tt
more_roots g s owner M x d (faults.Limit limits.Types z) r a h l = record {
  assignment = s.assignment;
  owner = owner;
  default = d;
  more = λ ss e. (s, ap (λ y. slice_get y 65536) e ∙ left (sources_of g.tables.roots.items) (all_parts 0 ss) 65536 s r, refl);
  assigned = a ∙ ap (λ y. Some (owner, y)) (sym l.1);
  header = h ∙ ap (λ y. Some (y, d)) (sym l.0);
}
more_roots g s owner M x d (faults.Limit limits.Modules z) r a h l = absurd l
more_roots g s owner M x d (faults.Limit limits.Values z) r a h l = absurd l
more_roots g s owner M x d (faults.Limit limits.Members z) r a h l = absurd l
more_roots g s owner M x d (faults.Limit limits.Items z) r a h l = absurd l
more_roots g s owner M x d (faults.Limit limits.NamedBit z) r a h l = absurd l
more_roots g s owner M x d (faults.Limit limits.Integer z) r a h l = absurd l
more_roots g s owner M x d (faults.Twice z) r a h l = absurd l
more_roots g s owner M x d (faults.UnknownName z) r a h l = absurd l
more_roots g s owner M x d (faults.NotExported z) r a h l = absurd l
more_roots g s owner M x d (faults.Circular z) r a h l = absurd l
more_roots g s owner M x d (faults.UnknownModule z) r a h l = absurd l
