-- Modules have one program at most, and a fault excludes it.
use Rattle.std.proofs.Common.{◌≡◌, ◌≤◌, ◌⊎◌, inl, inr, ℕ, List, length, refl, sym, subst, ap, ◌∙◌}
use Rattle.trees.specs.Values.{Name}
use Rattle.trees.specs.declared.module.TagDefault.{TagDefault}
use Rattle.trees.specs.Modules.{ModuleTree}
use Rattle.names.specs.declared.fault.NameFault.{NameFault}
use Rattle.names.specs.declared.fault.NameFault.TheVariants as faults
use Rattle.type_table.specs.Faults.{IsTableFault}
use Rattle.names.specs.Faults.{IsNamesFault}
use Rattle.resolve.specs.Links.{IsProgramOf, Links, IsLinkFault}
use Rattle.names.specs.Names.{IsApart, Module}
use Rattle.names.specs.Sources.{Source, Value}
use Rattle.type_table.specs.Table.{Type', AllUnfold}
use Rattle.names.specs.Modules.{AreDifferent, AreFew, AreNamed, OccursIn, names_in}
use Rattle.names.specs.ByNumber.{scopes_from, headers_of, owned_from, roots_of}
use Rattle.type_table.specs.Numbering.{AreNumberedTypes}
use Rattle.resolve.specs.Program.{Program}
use Rattle.resolve.specs.Sound.{IsSoundProgram, IsSoundFault}

abbrev program : List (Name × Module) → List (Name × TagDefault) → List (ℕ × Name) → List Type' → List Value → Program
program ms hs gs ts vs = record { modules = ms; headers = hs; assignments = gs; types = ts; values = vs }

pub numbered_of : (ms : List ModuleTree) (p : Program) → IsProgramOf ms p →
    AreNumberedTypes (scopes_from 0 0 ms) (headers_of ms) (owned_from 0 ms) (roots_of ms) p.types
numbered_of ms p a =
    subst (λ l. AreNumberedTypes l (headers_of ms) (owned_from 0 ms) (roots_of ms) p.types) a.modules (subst (λ l. AreNumberedTypes p.modules l (owned_from 0 ms) (roots_of ms) p.types) a.headers (subst (λ l. AreNumberedTypes p.modules p.headers l (roots_of ms) p.types) a.assignments a.types))

-- what the laws of names and of the table say
abbrev pub Apart : Type 0
Apart = (ms : List ModuleTree) → ((m : ModuleTree) → OccursIn ms m → AreDifferent (names_in m)) → IsApart (scopes_from 0 0 ms)

abbrev pub OneTable : Type 0
OneTable = (ms : List (Name × Module)) (hs : List (Name × TagDefault)) (gs : List (ℕ × Name)) (roots : List Source) (ts us : List Type') → IsApart ms → AreNumberedTypes ms hs gs roots ts → AreNumberedTypes ms hs gs roots us → ts ≡ us

abbrev pub NamesExclude : Type 0
NamesExclude = (ms : List ModuleTree) (e : NameFault) → IsNamesFault ms e → AreNamed ms → AreFew ms → ⊥

abbrev pub TableExcludes : Type 0
TableExcludes = (ms : List (Name × Module)) (hs : List (Name × TagDefault)) (gs : List (ℕ × Name)) (roots : List Source) (ts : List Type') →
    AreNumberedTypes ms hs gs roots ts → IsApart ms → length ts ≤ 65536 → AllUnfold ts → (e : NameFault) → (e ≡ faults.Memory → ⊥) → IsTableFault ms hs gs roots e → ⊥

pub one_program : Apart → OneTable → (ms : List ModuleTree) (p q : Program) → AreNamed ms → IsProgramOf ms p →
    IsProgramOf ms q → p ≡ q
one_program apart lemma_one_table ms p q n a b =
    let t = lemma_one_table (scopes_from 0 0 ms) (headers_of ms) (owned_from 0 ms) (roots_of ms) p.types q.types (apart ms n.names) (numbered_of ms p a) (numbered_of ms q b) in
    ap (λ l. program l p.headers p.assignments p.types p.values) (a.modules ∙ sym b.modules)
    ∙ ap (λ l. program q.modules l p.assignments p.types p.values) (a.headers ∙ sym b.headers)
    ∙ ap (λ l. program q.modules q.headers l p.types p.values) (a.assignments ∙ sym b.assignments)
    ∙ ap (λ l. program q.modules q.headers q.assignments l p.values) t
    ∙ ap (λ l. program q.modules q.headers q.assignments q.types l) (a.values ∙ sym b.values)

module _ (apart : Apart) (lemma_one_table : OneTable) (names_exclude : NamesExclude) (table_exclude : TableExcludes)
    (sound : (p : Program) (e : NameFault) → (e ≡ faults.Memory → ⊥) → IsSoundFault p e → IsSoundProgram p →
    ⊥) (ms : List ModuleTree) (p : Program) (l : Links ms p) where
  one_of : (e : NameFault) → (e ≡ faults.Memory → ⊥) →
      IsNamesFault ms e
      ⊎
      (IsTableFault (scopes_from 0 0 ms) (headers_of ms) (owned_from 0 ms) (roots_of ms) e
      ⊎ ((q : Program) × IsProgramOf ms q × IsSoundFault q e)) →
      ⊥
  one_of e n (inl f) = names_exclude ms e f l.named l.few
  one_of e n (inr (inl f)) = table_exclude (scopes_from 0 0 ms) (headers_of ms) (owned_from 0 ms) (roots_of ms) p.types (numbered_of ms p l.program) (apart ms l.named.names) l.types l.unfolds e n f
  one_of e n (inr (inr r)) = sound p e n (subst (λ z. IsSoundFault z e) (one_program apart lemma_one_table ms r.0 p l.named r.1 l.program) r.2) l.sound

  pub link_exclude : (e : NameFault) → (e ≡ faults.Memory → ⊥) → IsLinkFault ms e → ⊥
  link_exclude faults.Memory n f = n refl
  link_exclude (faults.Limit k s) n f = one_of (faults.Limit k s) n f
  link_exclude (faults.Twice s) n f = one_of (faults.Twice s) n f
  link_exclude (faults.UnknownName s) n f = one_of (faults.UnknownName s) n f
  link_exclude (faults.NotExported s) n f = one_of (faults.NotExported s) n f
  link_exclude (faults.Circular s) n f = one_of (faults.Circular s) n f
  link_exclude (faults.UnknownModule s) n f = one_of (faults.UnknownModule s) n f
