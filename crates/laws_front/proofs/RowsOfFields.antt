-- Fields and premises of definitions that only the conclusions of lower crates have. Each is stated in full and not by
-- its name: none can be lost, nor can it say less, without a row that fails.
use Rattle.std.proofs.Common.{arith, ◌≡◌, ◌⊎◌, inl, inr, ◌<◌, ◌≤◌, ℕ, List, [], ◌∷◌, Some, None, map, take, refl}
use Rattle.std.specs.Prelude.{slice_get, string_bytes}
use Rattle.text.specs.Text.{AreSpans}
use Rattle.text.specs.declared.token.Token.{Token}
use Rattle.text.specs.declared.token.TokenKind.TheVariants as kinds
use Rattle.text.specs.declared.lex_fault.LexFault.{LexFault}
use Rattle.notation.specs.declared.syntax_fault.SyntaxFault.{SyntaxFault}
use Rattle.trees.specs.declared.location.SourceLocation.{SourceLocation}
use Rattle.trees.specs.declared.module.Module.{Module as ModuleSyntax}
use Rattle.trees.specs.declared.module.TagDefault.{TagDefault}
use Rattle.trees.specs.declared.types.TypeSyntax.{TypeSyntax}
use Rattle.trees.specs.declared.types.TypeSyntax.TheViews.{out-TypeSyntax}
use Rattle.trees.specs.Modules.{ModuleTree, module_tree_of}
use Rattle.trees.specs.Types.{Plain}
use Rattle.trees.specs.declared.value.ValueSyntax.{ValueSyntax}
use Rattle.trees.specs.Values.{Name, Tree, reference}
use Rattle.names.specs.declared.fault.Limit.TheVariants as limits
use Rattle.names.specs.declared.fault.NameFault.{NameFault}
use Rattle.names.specs.declared.fault.NameFault.TheVariants as linking
use Rattle.names.specs.declared.sources.AssignedAt.{AssignedAt}
use Rattle.names.specs.Faults.{IsNamesFault, fault_module, fault_name}
use Rattle.names.specs.First.{IsFirstExports, IsFirstImport, IsFirstSpot, IsPassedLimitAt}
use Rattle.names.specs.Modules.{AreDifferent, AreFew, OccursIn, names_in}
use Rattle.names.specs.Names.{Module}
use Rattle.names.specs.Scopes.{ImportSpot, Spots}
use Rattle.names.specs.Sources.{Source}
use Rattle.names.specs.Written.{written_places, written_types}
use Rattle.names.specs.proving.Standing.{ExportAssigned, ImportOffered, IsOffered}
use Rattle.type_table.specs.Faults.{IsFirstSource, IsFormAt}
use Rattle.type_table.specs.FirstInList.{IsLimitAt}
use Rattle.type_table.specs.Table.{WrittenKind}
use Rattle.type_table.specs.Written.{AreWrittenTypes, type_place}
use Rattle.resolve.specs.First.{IsFirstCircular, IsFirstLink, IsTextOf, of_counts, of_many, of_meanings, of_offers, of_program, of_types, of_unfolding, trees_of}
use Rattle.resolve.specs.Program.{Program, WrittenProgram}
use Rattle.tagging.specs.declared.fault.TagFault.{TagFault}
use Rattle.constraints.specs.First.{IsSameSpot}
use Rattle.constraints.specs.declared.fault.BoundFault.{BoundFault}
use Rattle.additions.specs.declared.fault.ExtFault.{ExtFault}
use Rattle.value_notations.specs.Faults.{HasNoMeaningAt, IsCircularNameAt, IsUnknownBitAt}
use Rattle.typed_values.specs.Faults.{IsRightValueFault, itself, no_memory}
use Rattle.typed_values.specs.declared.fault.Cause.TheVariants as cause
use Rattle.typed_values.specs.declared.fault.ValueFault.{ValueFault}
use Rattle.value_diagnostics.specs.Diagnosed.{ReportsAs}
use Rattle.value_diagnostics.specs.declared.value_diagnostic.Reason.{Reason}
use Rattle.value_diagnostics.specs.declared.value_diagnostic.ValueDiagnostic.{ValueDiagnostic}
use Rattle.named_values.specs.front_end.Layers.{layer_of_fault}
use Rattle.named_values.specs.front_end.declared.fault.CompileError.TheVariants as faults

-- ---- texts

-- the spans of two tokens
module _ (n : ℕ) (t u : Token) (h : AreSpans 0 n (t ∷ u ∷ [])) where
  two_spans : (0 ≤ t.span.start) × (t.span.start < t.span.end)
      × (t.span.end ≤ u.span.start) × (u.span.start < u.span.end) × (u.span.end ≤ n)
  two_spans = (h.0, h.1, h.2.0, h.2.1, h.2.2)

abbrev number_at : ℕ → ℕ → Token
number_at i j = record { kind = kinds.Number; span = record { start = i; end = j } }

-- octets 0 and 1 are a token, and octets 1 and 2 are none after it
overlapping : AreSpans 0 3 (number_at 0 2 ∷ number_at 1 3 ∷ []) → ⊥
overlapping h = let e : 2 ≤ 1 = (two_spans 3 (number_at 0 2) (number_at 1 3) h).2 in absurd (omega arith)

-- ---- names

-- the modules before the one with the fault
module _ (ws : List ModuleSyntax) (s : SourceLocation) (h : IsFirstSpot ws s) where
  modules_before : AreDifferent (map (λ (m : ModuleTree). m.name) (map module_tree_of (take h.number ws)))
  modules_before = h.modules

  names_before : (m : ModuleTree) → OccursIn (map module_tree_of (take h.number ws)) m → AreDifferent (names_in m)
  names_before = h.names

module _ (ss : List (Name × Module)) (M : Name) (is : List (Name × ImportSpot)) (e : NameFault)
    (h : IsFirstImport ss M is e) where
  imports_before : (k : ℕ) (i : Name × ImportSpot) → k < h.number → slice_get is k ≡ Some i → IsOffered ss i.1.other i.0
  imports_before = h.before

module _ (ss : List (Name × Module)) (ws : List (Name × Spots)) (e : NameFault) (h : IsFirstExports ss ws e) where
  exports_before : (k : ℕ) (m : Name × Module)
      → k < h.number
      → slice_get ss k ≡ Some m
      → ExportAssigned m.1 × ImportOffered ss m.1.imports
  exports_before = h.before

-- ---- types

module _ (ms : List (Name × Module)) (hs : List (Name × TagDefault)) (gs : List (ℕ × Name)) (roots : List Source)
    (given : List TypeSyntax) (e : NameFault) (h : IsFirstSource ms hs gs roots given e) where
  source_at : IsFormAt (out-TypeSyntax h.written).form e ⊎ IsLimitAt (type_place h.written) e
  source_at = h.at

-- ---- linked modules

module _ (ws : List ModuleSyntax) (p : WrittenProgram) (h : IsTextOf ws p) where
  text_types : AreWrittenTypes (written_types ws) p.types
  text_types = h.types

  text_names : map (λ (a : AssignedAt). a.name.at) p.assignments ≡ written_places ws
  text_names = h.names

module _ (ws : List ModuleSyntax) (s : SourceLocation) (h : IsFirstCircular ws s) where
  circle_places : AreWrittenTypes (written_types ws) h.table
  circle_places = h.places

-- each fault is a passed limit, with its offset, or one of modules that pass no limit
limit_or_few : (ws : List ModuleSyntax) (e : NameFault)
    → IsFirstLink ws e
    → (IsNamesFault (trees_of ws) e × IsPassedLimitAt ws e) ⊎ AreFew (trees_of ws)
limit_or_few ws e (of_counts f l) = inl (f, l)
limit_or_few ws e (of_meanings f h) = inr f
limit_or_few ws e (of_offers f m n h) = inr f
limit_or_few ws e (of_many t n f l m w h) = inr f
limit_or_few ws e (of_types n f m h) = inr f
limit_or_few ws e (of_unfolding n f h) = inr f
limit_or_few ws e (of_program p n f i l u t h) = inr f

-- the name and the offset of one module too many
module_at : (ws : List ModuleSyntax) (s : SourceLocation)
    → IsPassedLimitAt ws (linking.Limit limits.Modules s)
    → (m : ModuleSyntax)
    × (slice_get ws 256 ≡ Some m)
    × (fault_module s ≡ string_bytes m.name.it)
    × (fault_name s ≡ string_bytes m.name.it)
    × (s.at ≡ m.name.at)
module_at ws s h = h

-- ---- constraints

same_offset : (s t : SourceLocation)
    → IsSameSpot s t
    → (fault_module s ≡ fault_module t) × (fault_name s ≡ fault_name t) × (s.at ≡ t.at)
same_offset s t h = h

-- ---- values

module _ (p : Program) (k : WrittenKind) (os : List ℕ) (M : Name) (n : Tree) (K : Name) (l : Tree) where
  lost_name : (h : HasNoMeaningAt p k os M n K l) → (h.lost.within ≡ K) × (reference h.prefix h.name ≡ l)
  lost_name h = (h.within, h.notation)

  round_name : (i : ℕ) (h : IsCircularNameAt p k os M n i K l)
      → (h.round.within ≡ K) × (reference h.round.prefix h.round.name ≡ l)
  round_name i h = (h.within, h.notation)

unknown_bit : (k : Plain) (n b : Tree) (h : IsUnknownBitAt k n b) → b ≡ reference None h.name
unknown_bit k n b h = h.notation

-- where no level is left, nothing is wrong in nested notations: the fault has the module, the type and the notation
own_place : (w : WrittenProgram) (left : ℕ) (os : List ℕ) (M : Name) (i : ℕ) (n : ValueSyntax) (f : ValueFault)
    → IsRightValueFault w 0 left os M i n f
    → (f.cause ≡ cause.Memory) ⊎ ((f.at.within.now ≡ M) × (f.at.ty.index ≡ i) × (f.at.notation.now ≡ n))
own_place w left os M i n f (no_memory e) = inl e
own_place w left os M i n f (itself a b c g h) = inr (a, b, c)

module _ (t : ValueDiagnostic) (r : Reason) (M x : Name) (n : ℕ) (h : ReportsAs t r M x n) where
  reported_reason : t.reason ≡ r
  reported_reason = h.reason

  reported_module : fault_module t.source_location ≡ M
  reported_module = h.within

  reported_name : fault_name t.source_location ≡ x
  reported_name = h.name

  reported_offset : t.source_location.at ≡ n
  reported_offset = h.at

-- ---- layers

layers : (k : ℕ) (a : LexFault) (b : SyntaxFault) (c : NameFault) (d : TagFault) (e : BoundFault) (f : ExtFault)
    (t u : ValueDiagnostic)
    → (layer_of_fault (faults.Text k a) ≡ 1) × (layer_of_fault (faults.Tree k b) ≡ 1)
    × (layer_of_fault (faults.Name c) ≡ 2) × (layer_of_fault (faults.Tag d) ≡ 3)
    × (layer_of_fault (faults.Bound e) ≡ 4) × (layer_of_fault (faults.Additions f) ≡ 5)
    × (layer_of_fault (faults.Default t) ≡ 6) × (layer_of_fault (faults.Assigned u) ≡ 7)
layers k a b c d e f t u = (refl, refl, refl, refl, refl, refl, refl, refl)
