-- A program that is put together of what is gathered.
use Rattle.std.proofs.Common.{◌≡◌, ◌<◌, ◌≤◌, ℕ, List, length, Some, map, sym, subst, ap, ◌∙◌, arith}
use Rattle.std.specs.Prelude.{slice_get, Option}
use Rattle.std.proofs.lemmas.List.{length-map}
use Rattle.trees.specs.Values.{Name}
use Rattle.trees.specs.declared.module.TagDefault.{TagDefault}
use Rattle.names.specs.declared.fault.NameFault.{NameFault}
use Rattle.names.specs.declared.fault.NameFault.TheVariants as faults
use Rattle.names.specs.declared.gather.ModuleTables.{ModuleTables}
use Rattle.names.specs.declared.scope.Assigned.{Assigned}
use Rattle.names.specs.declared.scope.Assigned.TheVariants as assigned
use Rattle.names.specs.declared.sources.AssignedAt.{AssignedAt}
use Rattle.names.specs.declared.sources.Header.{Header}
use Rattle.names.specs.Names.{Module, Refers}
use Rattle.names.specs.Scopes.{seen, module_of}
use Rattle.names.specs.Sources.{Source, HaveNoPlace, header_of, assignment_of, value_seen, source_of, sources_of}
use Rattle.names.specs.proving.Distinct.{mapped}
use Rattle.names.specs.proving.Meanings.{refers_meaning}
use Rattle.names.specs.proving.Ready.{IsGiven, IsReady}
use Rattle.type_table.specs.Numbering.{AreNumberedTypes}
use Rattle.type_table.specs.Table.{Type', AllUnfold, IsCircular, IsClosed, IsLinked}
use Rattle.resolve.specs.Program.{IsThere, IsWhole}
use Rattle.resolve.specs.proving.Assembled.{IsTableFrom, IsTablesFault, ReportsType, program_from}

-- what the laws of the table say of types that are numbered
pub record Laws : Type 0 where
  pub roots : (ms : List (Name × Module)) (hs : List (Name × TagDefault)) (gs : List (ℕ × Name))
      (roots : List Source) (ts : List Type') → AreNumberedTypes ms hs gs roots ts → length roots ≤ length ts
  pub stand : (ms : List (Name × Module)) (hs : List (Name × TagDefault)) (gs : List (ℕ × Name))
      (roots : List Source) (ts : List Type') → AreNumberedTypes ms hs gs roots ts → (i : ℕ) (t : Type') →
      slice_get ts i ≡ Some t → t.assignment < length gs
  pub closed : (ms : List (Name × Module)) (hs : List (Name × TagDefault)) (gs : List (ℕ × Name))
      (roots : List Source) (ts : List Type') → AreNumberedTypes ms hs gs roots ts →
      ((M x : Name) (N : Option Name) (j : ℕ) → Refers ms M N x (assigned.Type j) → j < length ts) → IsClosed ts
  pub linked : (ms : List (Name × Module)) (hs : List (Name × TagDefault)) (gs : List (ℕ × Name))
      (roots : List Source) (ts : List Type') → AreNumberedTypes ms hs gs roots ts →
      ((M x : Name) (N : Option Name) (j : ℕ) → Refers ms M N x (assigned.Type j) → j < length ts) → HaveNoPlace roots → AllUnfold ts → IsLinked ts

-- the table of the parts of what is gathered is its table
pub table_of : (g : ModuleTables) (ns : List (Name × Module)) (hs : List Header) (as' : List AssignedAt)
    (ts : List Type') → ns ≡ seen module_of g.modules.entries → hs ≡ g.headers.items →
    as' ≡ g.tables.assignments.items →
    AreNumberedTypes ns (map header_of hs) (map assignment_of as') (sources_of g.tables.roots.items) ts →
    IsTableFrom g ts
table_of g ns hs as' ts en eh ea all =
    subst (λ n. AreNumberedTypes n (map header_of g.headers.items) (map assignment_of g.tables.assignments.items) (sources_of g.tables.roots.items) ts) en
    (subst (λ h. AreNumberedTypes ns (map header_of h) (map assignment_of g.tables.assignments.items) (sources_of g.tables.roots.items) ts) eh
    (subst (λ a. AreNumberedTypes ns (map header_of hs) (map assignment_of a)
    (sources_of g.tables.roots.items) ts) ea all))

-- a type of the table that comes back to itself is reported with its module and its assignment
pub circular_fault : (g : ModuleTables) (hs : List Header) (as' : List AssignedAt) (ts : List Type') (i : ℕ) (w : Type')
    (e : NameFault) → hs ≡ g.headers.items → as' ≡ g.tables.assignments.items → IsTableFrom g ts →
    slice_get ts i ≡ Some w → IsCircular ts i →
    ReportsType (map header_of hs) (map assignment_of as') w e → IsTablesFault g e
circular_fault g hs as' ts i w faults.Memory eh ea all there back f = tt
circular_fault g hs as' ts i w (faults.Circular s) eh ea all there back f = record {
  types = ts;
  numbered = all;
  number = i;
  written = w;
  there = there;
  circular = back;
  owner = f.0;
  default = f.1;
  assigned = ap (λ l. slice_get (map assignment_of l) w.assignment) (sym ea) ∙ f.2;
  header = ap (λ l. slice_get (map header_of l) f.0) (sym eh) ∙ f.3;
}
circular_fault g hs as' ts i w (faults.Limit l s) eh ea all there back f = absurd f
circular_fault g hs as' ts i w (faults.Twice s) eh ea all there back f = absurd f
circular_fault g hs as' ts i w (faults.UnknownName s) eh ea all there back f = absurd f
circular_fault g hs as' ts i w (faults.NotExported s) eh ea all there back f = absurd f
circular_fault g hs as' ts i w (faults.UnknownModule s) eh ea all there back f = absurd f

module _ (law : Laws) (g : ModuleTables) (r : IsReady g) (ts : List Type') (all : IsTableFrom g ts) where
  within : (j : ℕ) → j < length g.tables.roots.items → j < length ts
  within j h =
      let n = law.roots (seen module_of g.modules.entries) (map header_of g.headers.items) (map assignment_of g.tables.assignments.items) (sources_of g.tables.roots.items) ts all in
      omega (arith, h, n, length-map g.tables.roots.items source_of)

  meant : (M x : Name) (N : Option Name) (j : ℕ) →
      Refers (seen module_of g.modules.entries) M N x (assigned.Type j) → j < length ts
  meant M x N j h = within j (r.named M x (assigned.Type j) (refers_meaning (seen module_of g.modules.entries) M x N (assigned.Type j) h))

  pub closed : IsClosed ts
  closed = law.closed (seen module_of g.modules.entries) (map header_of g.headers.items) (map assignment_of g.tables.assignments.items) (sources_of g.tables.roots.items) ts all meant

  pub typed : (i : ℕ) (t : Type') → slice_get ts i ≡ Some t → t.assignment < length g.tables.assignments.items
  typed i t e =
      let n = law.stand (seen module_of g.modules.entries) (map header_of g.headers.items) (map assignment_of g.tables.assignments.items) (sources_of g.tables.roots.items) ts all i t e in
      omega (arith, n, length-map g.tables.assignments.items assignment_of)

  there : (a : Assigned) → IsGiven (length g.tables.roots.items) (length g.tables.values.items) a →
      IsThere (program_from g ts) a
  there (assigned.Type i) h = within i h
  there (assigned.Value i) h = omega (arith, h, length-map g.tables.values.items value_seen)

  pub whole : AllUnfold ts → IsWhole (program_from g ts)
  whole unfolds = record {
    linked = law.linked (seen module_of g.modules.entries) (map header_of g.headers.items) (map assignment_of g.tables.assignments.items) (sources_of g.tables.roots.items) ts all meant r.unplaced unfolds;
    names = λ M x a m. there a (r.named M x a m);
    valued = λ i v e.
        let o = mapped value_seen g.tables.values.items i v e in
        let h = r.valued i o.0 o.1 in
        let ty : v.ty ≡ o.0.ty = sym (ap (λ z. z.ty) o.2) in
        let as' : v.assignment ≡ o.0.assignment = sym (ap (λ z. z.assignment) o.2) in
        let one : v.ty < length ts = subst (λ z. z < length ts) (sym ty) (within o.0.ty h.0) in
        let two : v.assignment < length (map assignment_of g.tables.assignments.items) = omega (arith, h.1, as', length-map g.tables.assignments.items assignment_of) in
        (one, two);
    typed = λ i t e. law.stand (seen module_of g.modules.entries) (map header_of g.headers.items) (map assignment_of g.tables.assignments.items) (sources_of g.tables.roots.items) ts all i t e;
    placed = λ i a e.
        let o = mapped assignment_of g.tables.assignments.items i a e in
        let h = r.placed i o.0 o.1 in
        let q : a.0 ≡ o.0.module = sym (ap (λ z. z.0) o.2) in
        omega (arith, h, q, length-map g.headers.items header_of);
  }
