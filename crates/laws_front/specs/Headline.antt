-- The headline of the front end, for any texts of modules. It says which texts are accepted, as which program and
-- schema, what the names and the notations in them mean, and what a refusal says (X.680, clauses 12 to 51).
use Rattle.std.specs.Prelude.{◌≡◌, ◌↔◌, ◌<◌, ◌≤◌, ℕ, List, [], Option, Some, None, length, slice_get, Result, Ok, Err}
use Rattle.std.specs.Prelude.{Bool, MatchResult}
use Rattle.std.specs.List.{AllZip}
use Rattle.asn_base.specs.Abstract.{AbstractValue}
use Rattle.asn_base.specs.Schemas.{IsSchema}
use Rattle.asn_base.specs.Typed.{IsValue}
use Rattle.asn_base.specs.Types.{TypeNumber, Resolved}
use Rattle.text.specs.declared.lex_fault.LexFault.{LexFault}
use Rattle.text.specs.declared.lex_fault.LexFault.TheVariants as lexing
use Rattle.text.specs.declared.token.Token.{Token}
use Rattle.parser_combinators.specs.Given.{IsLexed}
use Rattle.notation.specs.declared.syntax_fault.SyntaxFault.{SyntaxFault}
use Rattle.notation.specs.declared.syntax_fault.SyntaxFault.TheVariants as parsing
use Rattle.trees.specs.Modules.{ModuleTree}
use Rattle.trees.specs.declared.module.Module.{Module as ModuleSyntax}
use Rattle.trees.specs.Types.{default}
use Rattle.trees.specs.declared.value.ValueSyntax.{ValueSyntax}
use Rattle.trees.specs.Values.{Name, Tree, tree_of}
use Rattle.names.specs.Modules.{OccursIn}
use Rattle.names.specs.Sources.{Value}
use Rattle.names.specs.declared.fault.NameFault.{NameFault}
use Rattle.names.specs.declared.fault.NameFault.TheVariants as linking
use Rattle.names.specs.declared.scope.Assigned.{Assigned}
use Rattle.type_table.specs.Table.{Part, Type', members}
use Rattle.trees.specs.declared.types.ListKind.{ListKind}
use Rattle.resolve.specs.First.{trees_of}
use Rattle.resolve.specs.Program.{Program, WrittenProgram, IsAssignment}
use Rattle.tagging.specs.declared.fault.TagFault.{TagFault}
use Rattle.tagging.specs.declared.fault.TagFault.TheVariants as tags
use Rattle.constraints.specs.declared.fault.BoundFault.{BoundFault}
use Rattle.constraints.specs.declared.fault.BoundFault.TheVariants as bounds
use Rattle.value_notations.specs.Notations.{Notation}
use Rattle.values.specs.Allowing.{Allows, AllowsCode}
use Rattle.printed_values.specs.LineEnds.{HasNoLineEnd}
use Rattle.printed_values.specs.ReadBack.{IsReadBack}
use Rattle.extensions.specs.declared.fault.ExtFault.{ExtFault}
use Rattle.extensions.specs.declared.fault.ExtFault.TheVariants as settled
use Rattle.named_values.specs.front_end.Accepted.{Accepted, AreAccepted, IsModule}
use Rattle.named_values.specs.front_end.ValueError.{DenotesValue}
use Rattle.named_values.specs.front_end.declared.fault.CompileError.{CompileError}
use Rattle.named_values.specs.front_end.declared.fault.CompileError.TheVariants as faults
use Rattle.named_values.specs.front_end.declared.modules.ValueError.{ValueError}
use Rattle.named_values.specs.front_end.declared.modules.ValueError.TheVariants as value_error
use Rattle.named_values.specs.messages.declared.fault.Fault.{Fault}
use Rattle.named_values.specs.messages.declared.fault.Fault.TheVariants as messages
use Rattle.named_values.specs.Given.{Given}
use Rattle.named_values.specs.Meant.{IsMeant}
use Rattle.named_values.specs.Named.{IsQualifiedName, TypeNamed, ValueNamed}
use Rattle.laws_front.specs.Calls.{IsBoundResult, IsLexResult, IsLinkResult, IsMeantResult, IsOpenResult}
use Rattle.laws_front.specs.Calls.{IsParseResult, IsPrinted, IsSettleResult, IsTagResult, IsTypeResult, IsTypedResult}
use Rattle.laws_front.specs.Calls.{IsValueResult}
use Rattle.laws_front.specs.OneSchema.{IsSameSchema}
use Rattle.laws_front.specs.Refusals.{AreRightlyRefused}

-- ---- layers

-- what `open` returns: a program with its types, or a fault
abbrev pub OpenResult : Type 0
OpenResult = Result (Program × List Resolved) CompileError

-- `lex` returns tokens of the text, and `parse` returns a module for them
pub record ReturnsModule (text : List ℕ) (m : ModuleTree) : Type 0 where
  pub tokens : List Token
  pub lexed : IsLexResult text (Ok tokens)
  pub parsed : IsParseResult text tokens (Ok m)

-- the call of each layer succeeds, and the last one returns the types s of program w, which is linked as it is written
pub record EachAccepts (texts : List (List ℕ)) (w : WrittenProgram) (s : List Resolved) : Type 0 where
  pub modules : List ModuleSyntax
  pub read : AllZip ReturnsModule texts (trees_of modules)
  pub linked : IsLinkResult modules (Ok w)
  pub tagged : IsTagResult w (Ok w)
  pub bounded : IsBoundResult w (Ok w)
  pub settled : IsSettleResult w (Ok s)

-- For texts that are program p, no call of a layer is refused, unless an allocation fails.
pub record NoneRefuses (texts : List (List ℕ)) (p : Program) : Type 0 where
  -- `lex` of each text
  pub lexed : (k : ℕ) (text : List ℕ) (e : LexFault)
      → (e ≡ lexing.Memory → ⊥)
      → slice_get texts k ≡ Some text
      → IsLexResult text (Err e)
      → ⊥
  -- `parse` of its tokens
  pub parsed : (k : ℕ) (text : List ℕ) (ts : List Token) (e : SyntaxFault)
      → (e ≡ parsing.Memory → ⊥)
      → slice_get texts k ≡ Some text
      → IsLexed text ts
      → IsParseResult text ts (Err e)
      → ⊥
  -- `link` of the modules, which returns the same program
  pub linked : (ws : List ModuleSyntax) (e : NameFault)
      → (e ≡ linking.Memory → ⊥)
      → AllZip IsModule texts (trees_of ws)
      → IsLinkResult ws (Err e)
      → ⊥
  pub one_link : (ws : List ModuleSyntax) (w : WrittenProgram)
      → AllZip IsModule texts (trees_of ws)
      → IsLinkResult ws (Ok w)
      → w.program ≡ p
  -- `tag`, `bound` and `settle` of the program, however it is written
  pub tagged : (w : WrittenProgram) (e : TagFault)
      → w.program ≡ p
      → (e ≡ tags.Memory → ⊥)
      → IsTagResult w (Err e)
      → ⊥
  pub bounded : (w : WrittenProgram) (e : BoundFault)
      → w.program ≡ p
      → (e ≡ bounds.Memory → ⊥)
      → IsBoundResult w (Err e)
      → ⊥
  pub settled : (w : WrittenProgram) (e : ExtFault)
      → w.program ≡ p
      → (e ≡ settled.Memory → ⊥)
      → IsSettleResult w (Err e)
      → ⊥

-- ---- accepted texts

-- Notation n, read in module M of program p, stands for exactly one value under type i, which is a value of the type
-- (X.680, clause 17).
pub record IsOneValue (p : Program) (s : List Resolved) (M : Name) (i : ℕ) (n : Tree) : Type 0 where
  pub value : AbstractValue
  pub is_so : DenotesValue p M i n value
  pub is : IsValue s i value
  pub only : (w : AbstractValue) → Notation p [] M i n w → w ≡ value

-- Value i of program p is assigned in a module, with a type and a notation. The notation stands for exactly one value
-- of the type.
pub record IsOneAssigned (p : Program) (s : List Resolved) (i : ℕ) : Type 0 where
  pub value : Value
  pub there : slice_get p.values i ≡ Some value
  pub within : Name
  pub assigns : Name
  pub assigned : IsAssignment p value.assignment within assigns
  pub one : IsOneValue p s within value.ty value.notation

-- What holds of accepted texts, which are program p with types s.
pub record HasMeanings (p : Program) (s : List Resolved) : Type 0 where
  -- the types are an accepted schema
  pub schema : IsSchema s
  -- a name is that of at most one type or value (X.680, clause 14)
  pub one_name : (name : List ℕ) (a b : Assigned) → IsQualifiedName p name a → IsQualifiedName p name b → a ≡ b
  -- `type_number` returns the one type that has the name, which is one of the schema
  pub type_found : (name : List ℕ) (x : Option TypeNumber) (t : ℕ)
      → IsTypeResult p name x
      → TypeNamed p name t
      → (x ≡ Some t) × (t < length s)
  -- it returns none only if no type has the name
  pub type_missing : (name : List ℕ) (x : Option TypeNumber) (t : ℕ)
      → IsTypeResult p name x
      → TypeNamed p name t
      → x ≡ None
      → ⊥
  -- `value_number` returns the one value that has the name; it has exactly one value of its type (X.680, clause 16)
  pub value_found : (name : List ℕ) (x : Option ℕ) (i : ℕ)
      → IsValueResult p name x
      → ValueNamed p name i
      → (x ≡ Some i) × IsOneAssigned p s i
  -- each value assignment stands for exactly one value of its type (X.680, clause 16)
  pub assigned : (i : ℕ) (v : Value) (M x : Name)
      → slice_get p.values i ≡ Some v
      → IsAssignment p v.assignment M x
      → IsOneValue p s M v.ty v.notation
  -- each DEFAULT stands for exactly one value of its component's type (X.680, clauses 25 and 27)
  pub defaults : (i : ℕ) (t : Type') (M x : Name) (l : ListKind) (m : Bool) (cs : List Part) (c : Part) (n : Tree)
      → slice_get p.types i ≡ Some t
      → IsAssignment p t.assignment M x
      → t.kind ≡ members l m cs
      → OccursIn cs c
      → c.presence ≡ default n
      → IsOneValue p s M c.ty n
  -- `typed` returns the value that a notation stands for, unless an allocation fails
  pub typed : (M : Name) (i : TypeNumber) (n : ValueSyntax) (x : Result AbstractValue ValueError) (v : AbstractValue)
      → IsTypedResult p M i n x
      → DenotesValue p M i (tree_of n) v
      → MatchResult x (λ w. w ≡ v) (λ e. e ≡ value_error.Memory)
  -- what it returns is that one value, and a value of the type in the schema
  pub typed_value : (M : Name) (i : TypeNumber) (n : ValueSyntax) (v : AbstractValue)
      → IsTypedResult p M i n (Ok v)
      → IsOneValue p s M i (tree_of n)
  -- `meant` returns the type and the value that a type's name and a given value mean, unless an allocation fails
  pub meant : (first : List ℕ) (second : Given) (x : Result (TypeNumber × AbstractValue) Fault)
      (t : ℕ) (v : AbstractValue)
      → IsMeantResult p first second x
      → IsMeant p first second t v
      → MatchResult x (λ r. (r.0 ≡ t) × (r.1 ≡ v)) (λ e. e ≡ messages.Memory)
  -- what it returns is a value of the type, and no other type and value are meant
  pub meant_value : (first : List ℕ) (second : Given) (t : TypeNumber) (v : AbstractValue)
      → IsMeantResult p first second (Ok (t, v))
      → IsValue s t v
  pub one_meaning : (first : List ℕ) (second : Given) (t u : ℕ) (v w : AbstractValue)
      → IsMeant p first second t v
      → IsMeant p first second u w
      → (t ≡ u) × (v ≡ w)

-- ---- all together

-- What the front end promises of texts of modules that are accepted.
pub record AreRightlyAccepted (texts : List (List ℕ)) : Type 0 where
  -- what `open` returns is the program of accepted texts, with its types: each layer's condition holds
  pub accepted : (p : Program) (s : List Resolved) → IsOpenResult texts (Ok (p, s)) → Accepted texts p s
  -- accepted texts are opened, as the program that they are, unless an allocation fails
  pub opened : (x : OpenResult) (p : Program)
      → IsOpenResult texts x
      → AreAccepted texts p
      → MatchResult x (λ f. f.0 ≡ p) (λ e. e ≡ faults.Memory)
  -- if the call of each layer succeeds, so does `open`, with the same program and types, unless an allocation fails
  pub each_accepts : (x : OpenResult) (w : WrittenProgram) (s : List Resolved)
      → IsOpenResult texts x
      → EachAccepts texts w s
      → MatchResult x (λ f. (f.0 ≡ w.program) × IsSameSchema f.1 s) (λ e. e ≡ faults.Memory)
  -- if `open` succeeds, the call of no layer is refused, unless an allocation fails
  pub none_refuses : (p : Program) (s : List Resolved) → IsOpenResult texts (Ok (p, s)) → NoneRefuses texts p
  -- the texts are accepted as one program at most
  pub one_program : (p q : Program) → AreAccepted texts p → AreAccepted texts q → p ≡ q
  -- the schema is the only one, but for the ranges of its constraints
  pub one_schema : (p q : Program) (s u : List Resolved)
      → Accepted texts p s
      → Accepted texts q u
      → IsSameSchema s u
  -- whatever these ranges are, the types have the same values
  pub same_values : (p q : Program) (s u : List Resolved) (i : ℕ) (v : AbstractValue)
      → Accepted texts p s
      → Accepted texts q u
      → (IsValue s i v ↔ IsValue u i v)
  -- the names and notations of accepted texts have their meanings
  pub meanings : (p : Program) (s : List Resolved) → IsOpenResult texts (Ok (p, s)) → HasMeanings p s

-- What `print` returns of v, a value of type i, is read back, in any module, as this value and no other (X.680, clause
-- 17). The exceptions are a text of more than 16,777,216 octets, and a value with a line end in one of its texts.
pub record AreRightlyPrinted (p : Program) (s : List Resolved) : Type 0 where
  pub read_back : (M : Name) (i : TypeNumber) (v : AbstractValue) (text : List ℕ)
      → IsPrinted s i v text
      → HasNoLineEnd v
      → length text ≤ 16777216
      → IsReadBack p (Allows p) (AllowsCode p) M i text v

-- What the front end promises of texts of modules.
pub record IsFrontEnd (texts : List (List ℕ)) : Type 0 where
  -- which texts are accepted, and what they mean
  pub accepts : AreRightlyAccepted texts
  -- why texts are refused
  pub refuses : AreRightlyRefused texts
  -- values are printed as notations of them
  pub prints : (p : Program) (s : List Resolved) → IsOpenResult texts (Ok (p, s)) → AreRightlyPrinted p s
