-- Each field of the headline, stated in full and not by its name: no field can be lost, nor can a premise be added,
-- without a proof that fails.
use Rattle.std.proofs.Common.{◌≡◌, ◌<◌, ◌≤◌, ℕ, Bool, List, [], Some, None, Ok, Err, length, refl, ap}
use Rattle.std.specs.Prelude.{◌↔◌, ℤ, IsUtf8, slice_get}
use Rattle.std.specs.List.{AllZip}
use Rattle.asn_base.specs.declared.strings.StringKind.{StringKind}
use Rattle.asn_base.specs.declared.tag.Tag.{Tag}
use Rattle.asn_base.specs.Abstract.{AbstractValue}
use Rattle.asn_base.specs.Schemas.{IsSchema, IsNumber, IsSize}
use Rattle.asn_base.specs.Typed.{IsAllowed, IsValue}
use Rattle.asn_base.specs.Types.{Constraint, Resolved}
use Rattle.asn_base.specs.Types as types
use Rattle.text.specs.Text.{IsText, IsWithinLimits}
use Rattle.text.specs.Text as texts
use Rattle.text.specs.declared.lex_fault.LexFault.{LexFault}
use Rattle.text.specs.declared.lex_fault.LexFault.TheVariants as lexing
use Rattle.text.specs.declared.token.Token.{Token}
use Rattle.grammar.specs.Lexeme.{lexemes}
use Rattle.grammar.specs.Places.{bounded, small}
use Rattle.parser_combinators.specs.Given.{IsLexed}
use Rattle.notation.specs.Answer as answers
use Rattle.notation.specs.Reading.{value_at}
use Rattle.notation.specs.declared.syntax_fault.SyntaxFault.{SyntaxFault}
use Rattle.notation.specs.declared.syntax_fault.SyntaxFault.TheVariants as parsing
use Rattle.syntax.specs.Syntax.{module_text}
use Rattle.trees.specs.Modules.{ModuleTree}
use Rattle.trees.specs.declared.module.Module.{Module as ModuleSyntax}
use Rattle.trees.specs.Types.{default}
use Rattle.trees.specs.declared.value.ValueSyntax.{ValueSyntax}
use Rattle.trees.specs.Values.{Name, Tree, tree_of}
use Rattle.trees.specs.declared.types.ListKind.{ListKind}
use Rattle.names.specs.Modules.{OccursIn}
use Rattle.names.specs.Sources.{Value}
use Rattle.names.specs.declared.fault.NameFault.{NameFault}
use Rattle.names.specs.declared.fault.NameFault.TheVariants as linking
use Rattle.names.specs.declared.scope.Assigned.{Assigned}
use Rattle.type_table.specs.Table.{Part, Type', members}
use Rattle.resolve.specs.First.{IsFirstOfWritten, IsTextOf, trees_of}
use Rattle.resolve.specs.Links.{Links, IsLinkFault}
use Rattle.resolve.specs.Program.{Program, WrittenProgram, IsAssignment, IsWhole}
use Rattle.tagging.specs.Faults as tagging
use Rattle.tagging.specs.FirstFault as first_tags
use Rattle.tagging.specs.Tagged.{IsTagged}
use Rattle.tagging.specs.declared.fault.TagFault.{TagFault}
use Rattle.tagging.specs.declared.fault.TagFault.TheVariants as tags
use Rattle.constraints.specs.Bounded.{AreBounded}
use Rattle.constraints.specs.Faults as bounding
use Rattle.constraints.specs.First as first_bounds
use Rattle.constraints.specs.declared.fault.BoundFault.{BoundFault}
use Rattle.constraints.specs.declared.fault.BoundFault.TheVariants as bounds
use Rattle.value_notations.specs.Notations.{Notation}
use Rattle.value_text.specs.Print.{print}
use Rattle.printed_values.specs.LineEnds.{HasNoLineEnd}
use Rattle.settled.specs.Settled.{AreTypedDefaults, IsProgramSchema}
use Rattle.additions.specs.Additions.{KeepAdditions}
use Rattle.additions.specs.Faults.{IsRightAdditionsFault}
use Rattle.additions.specs.First.{ReportOneAddition}
use Rattle.type_table.specs.FirstInList.{IsSameLocation, ReportsAlike}
use Rattle.tagging.specs.FirstFault.{ReportOneRule}
use Rattle.additions.specs.declared.fault.ExtFault.TheVariants as markers
use Rattle.additions.specs.declared.fault.ExtFault.{ExtFault as AdditionFault}
use Rattle.extensions.specs.Faults as settling
use Rattle.extensions.specs.SchemaOfModules.{AreTypedValues, SchemaOfModules}
use Rattle.extensions.specs.declared.fault.ExtFault.{ExtFault}
use Rattle.extensions.specs.declared.fault.ExtFault.TheVariants as settled
use Rattle.typed_values.specs.declared.fault.ValueFault.{ValueFault}
use Rattle.value_diagnostics.specs.Diagnosed.{IsDiagnostic}
use Rattle.value_diagnostics.specs.declared.value_diagnostic.ValueDiagnostic.{ValueDiagnostic}
use Rattle.named_values.specs.front_end.Accepted.{Accepted, AreAccepted, IsModule}
use Rattle.named_values.specs.front_end.Faults.{IsLinkedFault, IsModulesFault, IsRightCompileError}
use Rattle.named_values.specs.front_end.Layers.{layer_of_fault}
use Rattle.named_values.specs.front_end.OneReport.{ReportOneReason}
use Rattle.named_values.specs.front_end.ValueError.{HasNoValue, DenotesValue}
use Rattle.named_values.specs.front_end.declared.fault.CompileError.{CompileError}
use Rattle.named_values.specs.front_end.declared.fault.CompileError.TheVariants as faults
use Rattle.named_values.specs.front_end.declared.modules.ValueError.TheVariants as value_error
use Rattle.named_values.specs.messages.declared.fault.Fault.{Fault}
use Rattle.named_values.specs.messages.declared.fault.Fault.TheVariants as messages
use Rattle.named_values.specs.Given.{Given}
use Rattle.named_values.specs.Meant.{IsMeant, IsNotMeant}
use Rattle.named_values.specs.Named.{IsQualifiedName, TypeNamed, ValueNamed}
use Rattle.laws_front.specs.Calls.{IsOpenResult}
use Rattle.laws_front.specs.Calls.{IsTypeResult}
use Rattle.laws_front.specs.Headline.{EachAccepts, HasMeanings, IsFrontEnd, IsOneValue, NoneRefuses, ReturnsModule}
use Rattle.laws_front.specs.OneSchema.{AllowTheSame, IsSameKind, IsSameSchema}

-- ---- one value of a notation

module _ (p : Program) (s : List Resolved) (M : Name) (i : ℕ) (n : Tree) (one : IsOneValue p s M i n) where
  one_stands : (v : AbstractValue) × DenotesValue p M i n v × IsValue s i v
      × ((w : AbstractValue) → Notation p [] M i n w → w ≡ v)
  one_stands = (one.value, one.is_so, one.is, one.only)

-- ---- the same schema

module _ (P : ℤ → Type 0) (c d : Constraint) (a : AllowTheSame P c d) where
  same_allowed : (z : ℤ) → P z → (IsAllowed c z ↔ IsAllowed d z)
  same_allowed = a.allowed

  same_least : c.visible.least ≡ d.visible.least
  same_least = ap (λ (b : types.Bounds). b.least) a.visible

  same_greatest : c.visible.greatest ≡ d.visible.greatest
  same_greatest = ap (λ (b : types.Bounds). b.greatest) a.visible

  same_marker : c.visible.extensible ≡ d.visible.extensible
  same_marker = ap (λ (b : types.Bounds). b.extensible) a.visible

module _ (c d : Constraint) where
  same_integer : IsSameKind (types.an_integer c) (types.an_integer d) → AllowTheSame IsNumber c d
  same_integer h = h

  same_bits : IsSameKind (types.a_bit_string c) (types.a_bit_string d) → AllowTheSame IsSize c d
  same_bits h = h

  same_octets : IsSameKind (types.an_octet_string c) (types.an_octet_string d) → AllowTheSame IsSize c d
  same_octets h = h

  same_text : IsSameKind (types.a_utf8_string c) (types.a_utf8_string d) → AllowTheSame IsSize c d
  same_text h = h

  same_characters : (k l : StringKind) (xs ys : List ℕ)
      → IsSameKind (types.a_restricted_string k xs c) (types.a_restricted_string l ys d)
      → (k ≡ l) × (xs ≡ ys) × AllowTheSame IsSize c d
  same_characters k l xs ys h = h

  same_list : (t u : ℕ)
      → IsSameKind (types.a_sequence_of c t) (types.a_sequence_of d u)
      → (t ≡ u) × AllowTheSame IsSize c d
  same_list t u h = h

  same_set : (t u : ℕ) → IsSameKind (types.a_set_of c t) (types.a_set_of d u) → (t ≡ u) × AllowTheSame IsSize c d
  same_set t u h = h

same_enumeration : (is as' : List types.Item) (e : Bool) (k : types.Kind)
    → IsSameKind (types.an_enumerated is e as') k
    → types.an_enumerated is e as' ≡ k
same_enumeration is as' e k h = h

same_components : (cs : List types.Component) (e : Bool) (k : types.Kind)
    → IsSameKind (types.a_sequence e cs) k
    → types.a_sequence e cs ≡ k
same_components cs e k h = h

module _ (s u : List Resolved) (a : IsSameSchema s u) where
  same_count : length s ≡ length u
  same_count = a.as_many

  module _ (i : ℕ) (gs hs : List Tag) (k l : types.Kind) (e : types.Is s i gs k) (f : types.Is u i hs l) where
    same_tags : gs ≡ hs
    same_tags = (a.types i (record { tags = gs; kind = k }) (record { tags = hs; kind = l }) e.found f.found).tags

    same_kind : IsSameKind k l
    same_kind = (a.types i (record { tags = gs; kind = k }) (record { tags = hs; kind = l }) e.found f.found).kind

-- ---- the front end

module _ (xs : List (List ℕ)) (h : IsFrontEnd xs) where
  -- ---- accepted texts

  module _ (p : Program) (s : List Resolved) (a : Accepted xs p s) (o : (q : Program) → AreAccepted xs q → p ≡ q)
      (w : IsWhole p) where
    result : IsOpenResult xs (Ok (p, s))
    result = record { accepted = a; only = o; fault = tt; whole = w }

    opened_modules : (ms : List ModuleTree) × AllZip IsModule xs ms × Links ms p
    opened_modules = let b = (h.accepts.accepted p s result).accepted in (b.modules, b.are, b.links)

    opened_tagged : IsTagged p.types
    opened_tagged = (h.accepts.accepted p s result).accepted.tagged

    opened_bounded : AreBounded p
    opened_bounded = (h.accepts.accepted p s result).accepted.bounded

    opened_settling : KeepAdditions p.types × AreTypedDefaults p × AreTypedValues p
    opened_settling = let b = (h.accepts.accepted p s result).accepted.asked in (b.additions, b.defaults, b.values)

    opened_types : IsProgramSchema p s × IsSchema s
    opened_types = let b = (h.accepts.accepted p s result).types in (b.settled, b.accepted)

    -- a text is its tokens, which are a module
    module_tokens : (x : List ℕ) (m : ModuleTree)
        → IsModule x m
        → (ts : List Token) × IsText x ts × IsWithinLimits x ts × (module_text (bounded 128)).Is m (lexemes x ts)
    module_tokens x m i = (i.tokens, i.lexed.text, i.lexed.limits, i.tree)

    opened_program : (q : Program) → AreAccepted xs q → p ≡ q
    opened_program q b = h.accepts.opened (Ok (p, s)) q result b

    opened_not_refused : (e : CompileError) → (e ≡ faults.Memory → ⊥) → IsRightCompileError xs e → ⊥
    opened_not_refused e u b = h.refuses.not_opened p s e u result b

    -- ---- no layer refuses

    none : NoneRefuses xs p
    none = h.accepts.none_refuses p s result

    never_lexed : (k : ℕ) (x : List ℕ) (e : LexFault)
        → (e ≡ lexing.Memory → ⊥)
        → slice_get xs k ≡ Some x
        → ((ts : List Token) → IsText x ts → IsWithinLimits x ts → e ≡ lexing.Memory)
        → texts.IsRightTextFault x e
        → ⊥
    never_lexed k x e u f n b = none.lexed k x e u f (record { found = tt; only = n; fault = b })

    never_parsed : (k : ℕ) (x : List ℕ) (ts : List Token) (e : SyntaxFault)
        → (e ≡ parsing.Memory → ⊥)
        → slice_get xs k ≡ Some x
        → IsText x ts
        → IsWithinLimits x ts
        → ((m : ModuleTree) → (module_text (bounded 128)).Is m (lexemes x ts) → e ≡ parsing.Memory)
        → answers.IsRightNotationFault module_text (lexemes x ts) 0 (bounded 128) e
        → ⊥
    never_parsed k x ts e u f t l n b =
        none.parsed k x ts e u f (record { text = t; limits = l }) (record { found = tt; only = n; fault = b })

    never_linked : (ws : List ModuleSyntax) (e : NameFault)
        → (e ≡ linking.Memory → ⊥)
        → AllZip IsModule xs (trees_of ws)
        → IsLinkFault (trees_of ws) e
        → IsFirstOfWritten ws e
        → ⊥
    never_linked ws e u z b f = none.linked ws e u z (record { linked = tt; text = tt; fault = b; written = f })

    linked_alone : (ws : List ModuleSyntax) (w : WrittenProgram)
        → AllZip IsModule xs (trees_of ws)
        → Links (trees_of ws) w.program
        → IsTextOf ws w
        → w.program ≡ p
    linked_alone ws w z b t = none.one_link ws w z (record { linked = b; text = t; fault = tt; written = tt })

    module _ (v : WrittenProgram) (q : v.program ≡ p) where
      never_tagged : (e : TagFault)
          → (e ≡ tags.Memory → ⊥)
          → tagging.IsRightTagFault v.program e
          → first_tags.IsFirstTagFault v.program v.types e
          → ⊥
      never_tagged e u b f = none.tagged v e q u (record { found = b; written = f })

      never_bounded : (e : BoundFault)
          → (e ≡ bounds.Memory → ⊥)
          → bounding.IsRightFault v.program e
          → first_bounds.IsFirst v.program v.types v.assignments e
          → ⊥
      never_bounded e u b f = none.bounded v e q u (record { found = b; written = f })

      never_settled : (e : ExtFault) → (e ≡ settled.Memory → ⊥) → settling.IsRightExtensionFault v e → ⊥
      never_settled e u b = none.settled v e q u b

    -- ---- meanings

    meanings : HasMeanings p s
    meanings = h.accepts.meanings p s result

    is_schema : IsSchema s
    is_schema = meanings.schema

    one_name : (name : List ℕ) (a b : Assigned) → IsQualifiedName p name a → IsQualifiedName p name b → a ≡ b
    one_name = meanings.one_name

    module _ (name : List ℕ) (t : ℕ) (n : TypeNamed p name t) where
      found : (u : ℕ) → u < length p.types → TypeNamed p name u → ((v : ℕ) → TypeNamed p name v → v ≡ u)
          → (Some u ≡ Some t) × (t < length s)
      found u l m only =
          let b : IsTypeResult p name (Some u) =
          record { within = l; only = record { is = m; only = only }; named = m } in
          meanings.type_found name (Some u) t b n

      not_missing : ((u : ℕ) → TypeNamed p name u → ⊥) → ⊥
      not_missing none = meanings.type_missing name None t (record { within = tt; only = tt; named = none }) n refl

    module _ (name : List ℕ) (i : ℕ) (n : ValueNamed p name i) (j : ℕ) (l : j < length p.values)
        (m : ValueNamed p name j) where
      value_found : Some j ≡ Some i
      value_found = (meanings.value_found name (Some j) i (record { within = l; named = m }) n).0

      value_assigned : (v : Value) × (slice_get p.values i ≡ Some v) × (M : Name) × (x : Name)
          × IsAssignment p v.assignment M x × IsOneValue p s M v.ty v.notation
      value_assigned =
          let b = (meanings.value_found name (Some j) i (record { within = l; named = m }) n).1 in
          (b.value, b.there, b.within, b.assigns, b.assigned, b.one)

    each_value : (i : ℕ) (v : Value) (M x : Name)
        → slice_get p.values i ≡ Some v
        → IsAssignment p v.assignment M x
        → IsOneValue p s M v.ty v.notation
    each_value = meanings.assigned

    each_default : (i : ℕ) (t : Type') (M x : Name) (l : ListKind) (m : Bool) (cs : List Part) (c : Part) (n : Tree)
        → slice_get p.types i ≡ Some t
        → IsAssignment p t.assignment M x
        → t.kind ≡ members l m cs
        → OccursIn cs c
        → c.presence ≡ default n
        → IsOneValue p s M c.ty n
    each_default = meanings.defaults

    module _ (M : Name) (i : ℕ) (n : ValueSyntax) (v : AbstractValue) where
      typed_as : (w : AbstractValue) → DenotesValue p M i (tree_of n) w → DenotesValue p M i (tree_of n) v → w ≡ v
      typed_as w b c = meanings.typed M i n (Ok w) v (record { value = b; fault = tt }) c

      typed_never : (t : ValueDiagnostic) → HasNoValue p M i n t → DenotesValue p M i (tree_of n) v → value_error.Diagnosed t ≡ value_error.Memory
      typed_never t b c = meanings.typed M i n (Err (value_error.Diagnosed t)) v (record { value = tt; fault = b }) c

      typed_one : DenotesValue p M i (tree_of n) v → IsOneValue p s M i (tree_of n)
      typed_one b = meanings.typed_value M i n v (record { value = b; fault = tt })

    module _ (first : List ℕ) (second : Given) (t u : ℕ) (v y : AbstractValue) (m : IsMeant p first second t v) where
      meant_as : IsMeant p first second u y → (u ≡ t) × (y ≡ v)
      meant_as b = meanings.meant first second (Ok (u, y)) t v (record { meant = b; refused = tt }) m

      meant_never : (e : Fault) → IsNotMeant p first second e → e ≡ messages.Memory
      meant_never e b = meanings.meant first second (Err e) t v (record { meant = tt; refused = b }) m

      meant_is : IsValue s t v
      meant_is = meanings.meant_value first second t v (record { meant = m; refused = tt })

      meant_alone : IsMeant p first second u y → (t ≡ u) × (v ≡ y)
      meant_alone = meanings.one_meaning first second t u v y m

    module _ (M : Name) (i : ℕ) (v : AbstractValue) (y : List ℕ) (is : IsValue s i v) (e : y ≡ print s i v)
        (utf8 : IsUtf8 y) (n : HasNoLineEnd v) (l : length y ≤ 16777216) where
      read_back : (ts : List Token) × IsLexed y ts × (x : Tree) × (value_at small 128 (lexemes y ts) ≡ Ok (x, []))
          × DenotesValue p M i x v × ((w : AbstractValue) → Notation p [] M i x w → w ≡ v)
      read_back =
          let b = (h.prints p s result).read_back M i v y (record { value = is; text = e; utf8 = utf8 }) n l in
          (b.tokens, b.lexed, b.tree, b.read, b.typed, b.alone)

  -- ---- all layers accept

  module _ (ws : List ModuleSyntax) (p : WrittenProgram) (s : List Resolved) (z : AllZip ReturnsModule xs (trees_of ws))
      (l : Links (trees_of ws) p.program) (written : IsTextOf ws p)
      (t : IsTagged p.program.types) (b : AreBounded p.program) (y : SchemaOfModules p.program s) where
    each : EachAccepts xs p s
    each = record {
      modules = ws;
      read = z;
      linked = record { linked = l; text = written; fault = tt; written = tt };
      tagged = record { found = (refl, t); written = tt };
      bounded = record { found = (refl, b); written = tt };
      settled = y;
    }

    module _ (q : Program) (u : List Resolved) (a : Accepted xs q u) (w : IsWhole q)
        (o : (r : Program) → AreAccepted xs r → q ≡ r) where
      other : IsOpenResult xs (Ok (q, u))
      other = record { accepted = a; only = o; fault = tt; whole = w }

      each_program : q ≡ p.program
      each_program = (h.accepts.each_accepts (Ok (q, u)) p s other each).0

      each_schema : IsSameSchema u s
      each_schema = (h.accepts.each_accepts (Ok (q, u)) p s other each).1

    each_memory : (e : CompileError)
        → ((r : Program) → AreAccepted xs r → e ≡ faults.Memory)
        → IsRightCompileError xs e
        → e ≡ faults.Memory
    each_memory e o f =
        h.accepts.each_accepts (Err e) p s (record { accepted = tt; only = o; fault = f; whole = tt }) each

  read_as : (x : List ℕ) (m : ModuleTree) (ts : List Token)
      → IsText x ts
      → IsWithinLimits x ts
      → ((us : List Token) → IsText x us → IsWithinLimits x us → ts ≡ us)
      → (module_text (bounded 128)).Is m (lexemes x ts)
      → ((n : ModuleTree) → (module_text (bounded 128)).Is n (lexemes x ts) → m ≡ n)
      → ReturnsModule x m
  read_as x m ts t l o i n = record {
    tokens = ts;
    lexed = record { found = (t, l); only = o; fault = tt };
    parsed = record { found = i; only = n; fault = tt };
  }

  -- ---- refusals

  module _ (e : CompileError) (o : (q : Program) → AreAccepted xs q → e ≡ faults.Memory) (f : IsRightCompileError xs e) where
    refusal : IsOpenResult xs (Err e)
    refusal = record { accepted = tt; only = o; fault = f; whole = tt }

    refused_only : (q : Program) → AreAccepted xs q → e ≡ faults.Memory
    refused_only q b = h.accepts.opened (Err e) q refusal b

    refused_true : IsRightCompileError xs e
    refused_true = h.refuses.refused e refusal

    refused_alone : (q : Program) → (e ≡ faults.Memory → ⊥) → AreAccepted xs q → ⊥
    refused_alone q u b = h.refuses.not_accepted q e u refusal b

    refused_layer : (g : CompileError)
        → (e ≡ faults.Memory → ⊥)
        → (g ≡ faults.Memory → ⊥)
        → IsRightCompileError xs g
        → layer_of_fault g ≡ layer_of_fault e
    refused_layer g u w b = h.refuses.one_layer e g u w refusal b

  alone_of_octets : (k j : ℕ) (e f : LexFault)
      → ((q : Program) → AreAccepted xs q → faults.Text k e ≡ faults.Memory)
      → IsRightCompileError xs (faults.Text k e)
      → IsRightCompileError xs (faults.Text j f)
      → (j ≡ k) × (f ≡ e)
  alone_of_octets k j e f o a b = h.refuses.one_of_octets k j e f (refusal (faults.Text k e) o a) b

  alone_of_tokens : (k j : ℕ) (e f : SyntaxFault)
      → ((q : Program) → AreAccepted xs q → faults.Tree k e ≡ faults.Memory)
      → IsRightCompileError xs (faults.Tree k e)
      → IsRightCompileError xs (faults.Tree j f)
      → (j ≡ k) × (f ≡ e)
  alone_of_tokens k j e f o a b = h.refuses.one_of_tokens k j e f (refusal (faults.Tree k e) o a) b

  alone_of_tags : (ws : List ModuleSyntax) (w : WrittenProgram) (e f : TagFault)
      → IsTextOf ws w
      → IsLinkedFault w (faults.Tag e)
      → IsLinkedFault w (faults.Tag f)
      → ReportOneRule IsSameLocation e f
  alone_of_tags = h.refuses.one_of_tags

  alone_of_constraints : (ws : List ModuleSyntax) (w : WrittenProgram) (e f : BoundFault)
      → Links (trees_of ws) w.program
      → IsTextOf ws w
      → IsLinkedFault w (faults.Bound e)
      → IsLinkedFault w (faults.Bound f)
      → first_bounds.ReportsSame e f
  alone_of_constraints = h.refuses.one_of_constraints

  alone_of_additions : (w : WrittenProgram) (e f : AdditionFault)
      → IsLinkedFault w (faults.Additions e)
      → IsLinkedFault w (faults.Additions f)
      → ReportOneAddition e f
  alone_of_additions = h.refuses.one_of_additions

  alone_of_names : (ws : List ModuleSyntax) (e f : NameFault)
      → IsModulesFault ws (faults.Name e)
      → IsModulesFault ws (faults.Name f)
      → ReportsAlike e f
  alone_of_names = h.refuses.one_of_names

  alone_of_defaults : (ws : List ModuleSyntax) (w : WrittenProgram) (t u : ValueDiagnostic)
      → AllZip IsModule xs (trees_of ws)
      → Links (trees_of ws) w.program
      → IsLinkedFault w (faults.Default t)
      → IsLinkedFault w (faults.Default u)
      → ReportOneReason t u
  alone_of_defaults = h.refuses.one_of_defaults

  alone_of_values : (ws : List ModuleSyntax) (w : WrittenProgram) (t u : ValueDiagnostic)
      → AllZip IsModule xs (trees_of ws)
      → Links (trees_of ws) w.program
      → IsLinkedFault w (faults.Assigned t)
      → IsLinkedFault w (faults.Assigned u)
      → ReportOneReason t u
  alone_of_values = h.refuses.one_of_values

  never_of_both : (k j : ℕ) (e : LexFault) (f : SyntaxFault)
      → IsRightCompileError xs (faults.Text k e)
      → IsRightCompileError xs (faults.Tree j f)
      → ⊥
  never_of_both = h.refuses.not_of_both

  -- ---- one program, one schema

  alone : (p q : Program) → AreAccepted xs p → AreAccepted xs q → p ≡ q
  alone = h.accepts.one_program

  module _ (p q : Program) (s u : List Resolved) (a : Accepted xs p s) (b : Accepted xs q u) where
    schema_alone : IsSameSchema s u
    schema_alone = h.accepts.one_schema p q s u a b

    values_alone : (i : ℕ) (v : AbstractValue) → (IsValue s i v ↔ IsValue u i v)
    values_alone i v = h.accepts.same_values p q s u i v a b

-- ---- the fault of each layer

-- a text before which all are modules
abbrev IsFirst : List (List ℕ) → ℕ → (List ℕ → Type 0) → Type 0
IsFirst xs k P = (x : List ℕ) × (slice_get xs k ≡ Some x) × P x
    × ((i : ℕ) (y : List ℕ) → i < k → slice_get xs i ≡ Some y → (m : ModuleTree) × IsModule y m)

-- the texts are the modules of a program, whose types, values and assignments are as these modules write them
abbrev AreLinked : List (List ℕ) → (WrittenProgram → Type 0) → Type 0
AreLinked xs P =
    (ws : List ModuleSyntax) × AllZip IsModule xs (trees_of ws)
    × (w : WrittenProgram) × Links (trees_of ws) w.program × IsTextOf ws w × P w

module _ (xs : List (List ℕ)) where
  of_octets : (k : ℕ) (f : LexFault)
      → IsRightCompileError xs (faults.Text k f)
      → IsFirst xs k (λ x. (f ≡ lexing.Memory → ⊥) × texts.IsRightTextFault x f)
  of_octets k f a = (a.text, a.there, (a.is_so.no_memory, a.is_so.is_so), a.before)

  of_tokens : (k : ℕ) (f : SyntaxFault)
      → IsRightCompileError xs (faults.Tree k f)
      → IsFirst xs k (λ x. (f ≡ parsing.Memory → ⊥) × (ts : List Token) × IsLexed x ts
      × answers.IsRightNotationFault module_text (lexemes x ts) 0 (bounded 128) f)
  of_tokens k f a =
      (a.text, a.there, (a.is_so.no_memory, a.is_so.tokens, a.is_so.lexed, a.is_so.is_so), a.before)

  of_names : (f : NameFault)
      → IsRightCompileError xs (faults.Name f)
      → (ws : List ModuleSyntax) × AllZip IsModule xs (trees_of ws) × (f ≡ linking.Memory → ⊥)
      × IsLinkFault (trees_of ws) f × IsFirstOfWritten ws f
  of_names f a = (a.modules, a.are, a.is_so.0, a.is_so.1, a.is_so.2)

  of_tags : (f : TagFault)
      → IsRightCompileError xs (faults.Tag f)
      → AreLinked xs (λ w. (f ≡ tags.Memory → ⊥) × tagging.IsRightTagFault w.program f
      × first_tags.IsFirstTagFault w.program w.types f)
  of_tags f a = (a.modules, a.are, a.is_so.program, a.is_so.links, a.is_so.text, a.is_so.such)

  of_constraints : (f : BoundFault)
      → IsRightCompileError xs (faults.Bound f)
      → AreLinked xs (λ w. IsTagged w.program.types × (f ≡ bounds.Memory → ⊥) × bounding.IsRightFault w.program f
      × first_bounds.IsFirst w.program w.types w.assignments f)
  of_constraints f a = (a.modules, a.are, a.is_so.program, a.is_so.links, a.is_so.text, a.is_so.such)

  of_additions : (f : AdditionFault)
      → IsRightCompileError xs (faults.Additions f)
      → AreLinked xs (λ w. IsTagged w.program.types × AreBounded w.program
      × ((f ≡ markers.Memory → ⊥) × IsRightAdditionsFault w f))
  of_additions f a = (a.modules, a.are, a.is_so.program, a.is_so.links, a.is_so.text, a.is_so.such)

  of_defaults : (t : ValueDiagnostic)
      → IsRightCompileError xs (faults.Default t)
      → AreLinked xs (λ w. IsTagged w.program.types × AreBounded w.program
      × (f : ValueFault) × settling.IsRightExtensionFault w (settled.Default f) × IsDiagnostic w.program f t)
  of_defaults t a =
      let b = a.is_so.such in (
        a.modules,
        a.are,
        a.is_so.program,
        a.is_so.links,
        a.is_so.text,
        (b.0, b.1, b.2.fault, b.2.is_so, b.2.diagnostic),
      )

  of_values : (t : ValueDiagnostic)
      → IsRightCompileError xs (faults.Assigned t)
      → AreLinked xs (λ w. IsTagged w.program.types × AreBounded w.program
      × (f : ValueFault) × settling.IsRightExtensionFault w (settled.Assigned f) × IsDiagnostic w.program f t)
  of_values t a =
      let b = a.is_so.such in (
        a.modules,
        a.are,
        a.is_so.program,
        a.is_so.links,
        a.is_so.text,
        (b.0, b.1, b.2.fault, b.2.is_so, b.2.diagnostic),
      )
