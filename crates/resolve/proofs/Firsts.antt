-- The first fault of modules, by what is gathered from them.
use Rattle.std.proofs.Common.{◌≡◌, ◌<◌, ◌≤◌, ℕ, List, Some, length, map, refl, sym, subst, ap, ◌∙◌, arith}
use Rattle.std.proofs.lemmas.List.{length-map}
use Rattle.std.specs.Prelude.{slice_get}
use Rattle.trees.specs.declared.module.TagDefault.{TagDefault}
use Rattle.trees.specs.declared.location.SourceLocation.{SourceLocation}
use Rattle.trees.specs.declared.module.Module.{Module as ModuleSyntax}
use Rattle.trees.specs.Modules.{module_tree_of}
use Rattle.trees.specs.Values.{Name}
use Rattle.names.specs.declared.fault.Limit.TheVariants as limits
use Rattle.names.specs.declared.fault.NameFault.{NameFault}
use Rattle.names.specs.declared.fault.NameFault.TheVariants as faults
use Rattle.names.specs.declared.gather.ModuleTables.{ModuleTables}
use Rattle.names.specs.declared.sources.AssignedAt.{AssignedAt}
use Rattle.names.specs.declared.sources.Header.{Header}
use Rattle.names.specs.declared.sources.Source.{Source as SourceAt}
use Rattle.names.specs.ByNumber.{headers_of, owned_from, roots_of, scopes_from}
use Rattle.names.specs.Faults.{fault_module, fault_name}
use Rattle.names.specs.First.{IsFirstExports, IsPassedLimitAt, IsTwiceOf, all_written}
use Rattle.names.specs.Modules.{AreFew, AreNamed}
use Rattle.names.specs.Names.{Module}
use Rattle.names.specs.Scopes.{all_spots, module_of, scopes, seen}
use Rattle.names.specs.Sources.{Source, assignment_of, header_of, source_of, sources_of}
use Rattle.names.specs.Written.{written_types}
use Rattle.names.specs.proving.Distinct.{occurs_map}
use Rattle.names.specs.proving.Gathering.{HasGathered, HasWritten, IsNamingFault, syntaxes}
use Rattle.type_table.specs.declared.table.TypeNode.{TypeNode}
use Rattle.type_table.specs.Faults.{HasTooMany, IsFirstCircle, IsFirstNumbering}
use Rattle.type_table.specs.FirstInList.{IsLimitAt}
use Rattle.type_table.specs.Seen.{type_of, types_of}
use Rattle.type_table.specs.Table.{AllUnfold}
use Rattle.type_table.specs.Written.{AreWrittenTypes, type_place}
use Rattle.type_table.specs.proving.Checks.{IsTypesLimit}
use Rattle.resolve.specs.First.{IsFirstOfWritten, IsTextOf, ReportsFirstOfProgram, of_counts, of_many, of_meanings, of_offers, of_program, of_types, of_unfolding}
use Rattle.resolve.specs.Program.{WrittenProgram}
use Rattle.resolve.specs.proving.Assembled.{IsCircularAt, IsOf, IsTableFrom, IsTablesFault, IsTextFrom, ReportsType}
use Rattle.resolve.proofs.Ready.{program_of, same_table}

pub counts_first : (ws : List ModuleSyntax) (e : NameFault) → IsNamingFault (map module_tree_of ws) e →
    IsPassedLimitAt ws e → IsFirstOfWritten ws e
counts_first ws faults.Memory f l = tt
counts_first ws (faults.Limit k s) f l = of_counts f l
counts_first ws (faults.Twice s) f l = absurd l
counts_first ws (faults.UnknownName s) f l = absurd l
counts_first ws (faults.NotExported s) f l = absurd l
counts_first ws (faults.Circular s) f l = absurd l
counts_first ws (faults.UnknownModule s) f l = absurd l

pub meanings_first : (ws : List ModuleSyntax) (e : NameFault) → AreFew (map module_tree_of ws) → IsTwiceOf ws e →
    IsFirstOfWritten ws e
meanings_first ws faults.Memory n f = tt
meanings_first ws (faults.Twice s) n f = of_meanings n f
meanings_first ws (faults.Limit k s) n f = absurd f
meanings_first ws (faults.UnknownName s) n f = absurd f
meanings_first ws (faults.NotExported s) n f = absurd f
meanings_first ws (faults.Circular s) n f = absurd f
meanings_first ws (faults.UnknownModule s) n f = absurd f

offered : (ws : List ModuleSyntax) (g : ModuleTables) (e : NameFault) → HasGathered (map module_tree_of ws) g →
    HasWritten ws g → IsFirstExports (scopes g.modules.entries) (all_spots g.modules.entries) e →
    IsFirstExports (scopes_from 0 0 (map module_tree_of ws)) (all_written ws) e
offered ws g e h v t =
    subst (λ z. IsFirstExports (scopes_from 0 0 (map module_tree_of ws)) z e) v.spots (subst (λ z. IsFirstExports z (all_spots g.modules.entries) e) h.scopes t)

pub offers_first : (ws : List ModuleSyntax) (g : ModuleTables) (e : NameFault) → AreFew (map module_tree_of ws) →
    HasGathered (map module_tree_of ws) g → HasWritten ws g → IsNamingFault (map module_tree_of ws) e →
    IsFirstExports (scopes g.modules.entries) (all_spots g.modules.entries) e → IsFirstOfWritten ws e
offers_first ws g faults.Memory n h v f t = tt
offers_first ws g (faults.Limit l s) n h v f t = of_offers n (h.distinct, h.apart) f (offered ws g (faults.Limit l s) h v t)
offers_first ws g (faults.Twice s) n h v f t = of_offers n (h.distinct, h.apart) f (offered ws g (faults.Twice s) h v t)
offers_first ws g (faults.UnknownName s) n h v f t = of_offers n (h.distinct, h.apart) f (offered ws g (faults.UnknownName s) h v t)
offers_first ws g (faults.NotExported s) n h v f t = of_offers n (h.distinct, h.apart) f (offered ws g (faults.NotExported s) h v t)
offers_first ws g (faults.Circular s) n h v f t = of_offers n (h.distinct, h.apart) f (offered ws g (faults.Circular s) h v t)
offers_first ws g (faults.UnknownModule s) n h v f t = of_offers n (h.distinct, h.apart) f (offered ws g (faults.UnknownModule s) h v t)

-- what is written of what is gathered is what the modules write
pub text_of : (ws : List ModuleSyntax) (g : ModuleTables) (p : WrittenProgram) → HasWritten ws g → IsTextFrom g p →
    IsTextOf ws p
text_of ws g p v x =
    record {
      same = x.same;
      types = subst (λ z. AreWrittenTypes z p.types) v.types x.types;
      values = x.values ∙ v.values;
      assigned = x.assigned;
      names = ap (λ l. map (λ (a : AssignedAt). a.name.at) l) x.names ∙ v.names;
    }

module _ (ws : List ModuleSyntax) (g : ModuleTables) (v : HasWritten ws g) where
  -- what holds of what is gathered holds of the modules
  moved : (Q : List (Name × Module) → List (Name × TagDefault) → List (ℕ × Name) → List Source → Type 0)
      (ns : List (Name × Module)) (hs : List Header) (as' : List AssignedAt) → HasGathered (map module_tree_of ws) g →
      ns ≡ seen module_of g.modules.entries → hs ≡ g.headers.items → as' ≡ g.tables.assignments.items →
      Q ns (map header_of hs) (map assignment_of as') (sources_of g.tables.roots.items) →
      Q (scopes_from 0 0 (map module_tree_of ws)) (headers_of (map module_tree_of ws)) (owned_from 0 (map module_tree_of ws)) (roots_of (map module_tree_of ws))
  moved Q ns hs as' h en eh ea q =
      let a = subst (λ l. Q l (map header_of hs) (map assignment_of as') (sources_of g.tables.roots.items)) (en ∙ h.scopes) q in
      let b = subst (λ l. Q (scopes_from 0 0 (map module_tree_of ws)) l (map assignment_of as') (sources_of g.tables.roots.items)) (ap (λ l. map header_of l) eh ∙ h.headers) a in
      let c = subst (λ l. Q (scopes_from 0 0 (map module_tree_of ws)) (headers_of (map module_tree_of ws)) l (sources_of g.tables.roots.items)) (ap (λ l. map assignment_of l) ea ∙ h.assignments) b in
      subst (λ l. Q (scopes_from 0 0 (map module_tree_of ws)) (headers_of (map module_tree_of ws)) (owned_from 0 (map module_tree_of ws)) l) h.roots c

  types_first : (e : NameFault) → AreNamed (map module_tree_of ws) → AreFew (map module_tree_of ws) →
      length (roots_of (map module_tree_of ws)) ≤ 65536 →
      IsFirstNumbering (scopes_from 0 0 (map module_tree_of ws)) (headers_of (map module_tree_of ws)) (owned_from 0 (map module_tree_of ws)) (roots_of (map module_tree_of ws)) (written_types ws) e → IsFirstOfWritten ws e
  types_first faults.Memory n f l q = tt
  types_first (faults.Limit l s) n f few q = of_types n f few q
  types_first (faults.Twice s) n f few q = of_types n f few q
  types_first (faults.UnknownName s) n f few q = of_types n f few q
  types_first (faults.NotExported s) n f few q = of_types n f few q
  types_first (faults.Circular s) n f few q = of_types n f few q
  types_first (faults.UnknownModule s) n f few q = of_types n f few q

  -- the types of assignments are as many as those that are gathered
  few_roots : HasGathered (map module_tree_of ws) g → length g.tables.roots.items ≤ 65536 →
      length (roots_of (map module_tree_of ws)) ≤ 65536
  few_roots h l =
      subst (λ (z : List Source). length z ≤ 65536) h.roots
      (let e = length-map g.tables.roots.items source_of in omega (arith, e, l))

  pub numbering_first : (ns : List (Name × Module)) (hs : List Header) (as' : List AssignedAt) (e : NameFault) →
      HasGathered (map module_tree_of ws) g → AreNamed (map module_tree_of ws) → AreFew (map module_tree_of ws) →
      length g.tables.roots.items ≤ 65536 → ns ≡ seen module_of g.modules.entries → hs ≡ g.headers.items →
      as' ≡ g.tables.assignments.items →
      IsFirstNumbering ns (map header_of hs) (map assignment_of as') (sources_of g.tables.roots.items) (syntaxes g.tables.roots.items) e → IsFirstOfWritten ws e
  numbering_first ns hs as' e h n f few en eh ea q =
      types_first e n f (few_roots h few) (moved (λ a b c d. IsFirstNumbering a b c d (written_types ws) e) ns hs as' h en eh ea
      (subst (λ z. IsFirstNumbering ns (map header_of hs) (map assignment_of as') (sources_of g.tables.roots.items) z e) v.types q))

  -- more assignments than there may be types
  many : (r : SourceAt) (s : SourceLocation) → HasGathered (map module_tree_of ws) g → AreNamed (map module_tree_of ws) → AreFew (map module_tree_of ws) →
      65536 < length (sources_of g.tables.roots.items) → slice_get g.tables.roots.items 65536 ≡ Some r →
      s.at ≡ type_place r.syntax → IsTablesFault g (faults.Limit limits.Types s) →
      IsFirstOfWritten ws (faults.Limit limits.Types s)
  many r s h n f l e at t =
      of_many r.syntax n f (subst (λ z. 65536 < length z) h.roots l)
      (moved (λ a b c d. HasTooMany b c d (fault_module s) (fault_name s)) (seen module_of g.modules.entries) g.headers.items g.tables.assignments.items h refl refl refl t)
      (ap (λ l. slice_get l 65536) (sym v.types) ∙ occurs_map (λ (x : SourceAt). x.syntax) g.tables.roots.items 65536 r e) at

  pub many_first : (M x : Name) (r : SourceAt) (e : NameFault) → HasGathered (map module_tree_of ws) g → AreNamed (map module_tree_of ws) → AreFew (map module_tree_of ws) →
      65536 < length (sources_of g.tables.roots.items) → slice_get g.tables.roots.items 65536 ≡ Some r →
      IsLimitAt (type_place r.syntax) e → IsTypesLimit M x e → IsTablesFault g e → IsFirstOfWritten ws e
  many_first M x r faults.Memory h n f l q at y t = tt
  many_first M x r (faults.Limit limits.Types s) h n f l q at y t = many r s h n f l q at t
  many_first M x r (faults.Limit limits.Modules s) h n f l q at y t = absurd y
  many_first M x r (faults.Limit limits.Values s) h n f l q at y t = absurd y
  many_first M x r (faults.Limit limits.Members s) h n f l q at y t = absurd y
  many_first M x r (faults.Limit limits.Items s) h n f l q at y t = absurd y
  many_first M x r (faults.Limit limits.NamedBit s) h n f l q at y t = absurd y
  many_first M x r (faults.Limit limits.Integer s) h n f l q at y t = absurd y
  many_first M x r (faults.Twice s) h n f l q at y t = absurd y
  many_first M x r (faults.UnknownName s) h n f l q at y t = absurd y
  many_first M x r (faults.NotExported s) h n f l q at y t = absurd y
  many_first M x r (faults.Circular s) h n f l q at y t = absurd y
  many_first M x r (faults.UnknownModule s) h n f l q at y t = absurd y

  pub circular_first : (hs : List Header) (as' : List AssignedAt) (ts : List TypeNode) (i : ℕ) (w : TypeNode) (e : NameFault) →
      HasGathered (map module_tree_of ws) g → AreNamed (map module_tree_of ws) → AreFew (map module_tree_of ws) →
      length ts ≤ 65536 → hs ≡ g.headers.items → as' ≡ g.tables.assignments.items →
      IsTableFrom g (types_of ts) → AreWrittenTypes (syntaxes g.tables.roots.items) ts → slice_get ts i ≡ Some w →
      IsFirstCircle (types_of ts) i →
      ReportsType (map header_of hs) (map assignment_of as') (type_of w) e → IsCircularAt w.at e → IsFirstOfWritten ws e
  circular_first hs as' ts i w faults.Memory h n f few eh ea all y there c t at = tt
  circular_first hs as' ts i w (faults.Circular s) h n f few eh ea all y there c t at = of_unfolding n f (record {
    table = ts;
    few = few;
    numbered = same_table (map module_tree_of ws) g (types_of ts) h all;
    places = subst (λ z. AreWrittenTypes z ts) v.types y;
    number = i;
    written = w;
    there = there;
    circle = c;
    at = at;
    owner = t.0;
    default = t.1;
    assigned = ap (λ l. slice_get l w.assignment) (sym (ap (λ l. map assignment_of l) ea ∙ h.assignments)) ∙ t.2;
    header = ap (λ l. slice_get l t.0) (sym (ap (λ l. map header_of l) eh ∙ h.headers)) ∙ t.3;
  })
  circular_first hs as' ts i w (faults.Limit l s) h n f few eh ea all y there c t at = absurd t
  circular_first hs as' ts i w (faults.Twice s) h n f few eh ea all y there c t at = absurd t
  circular_first hs as' ts i w (faults.UnknownName s) h n f few eh ea all y there c t at = absurd t
  circular_first hs as' ts i w (faults.NotExported s) h n f few eh ea all y there c t at = absurd t
  circular_first hs as' ts i w (faults.UnknownModule s) h n f few eh ea all y there c t at = absurd t

  pub sound_first : (p : WrittenProgram) (e : NameFault) → HasGathered (map module_tree_of ws) g → AreNamed (map module_tree_of ws) → AreFew (map module_tree_of ws) → IsOf g p.program →
      length p.program.types ≤ 65536 → AllUnfold p.program.types → IsTextFrom g p → ReportsFirstOfProgram p.program p.types p.values e → IsFirstOfWritten ws e
  sound_first p faults.Memory h n f o few u x t = tt
  sound_first p (faults.Limit l s) h n f o few u x t = of_program p n f (program_of (map module_tree_of ws) g p.program h o) few u (text_of ws g p v x) t
  sound_first p (faults.Twice s) h n f o few u x t = of_program p n f (program_of (map module_tree_of ws) g p.program h o) few u (text_of ws g p v x) t
  sound_first p (faults.UnknownName s) h n f o few u x t = of_program p n f (program_of (map module_tree_of ws) g p.program h o) few u (text_of ws g p v x) t
  sound_first p (faults.NotExported s) h n f o few u x t = of_program p n f (program_of (map module_tree_of ws) g p.program h o) few u (text_of ws g p v x) t
  sound_first p (faults.Circular s) h n f o few u x t = of_program p n f (program_of (map module_tree_of ws) g p.program h o) few u (text_of ws g p v x) t
  sound_first p (faults.UnknownModule s) h n f o few u x t = of_program p n f (program_of (map module_tree_of ws) g p.program h o) few u (text_of ws g p v x) t
