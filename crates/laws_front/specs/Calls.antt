-- What the public calls of the front end return (X.680, clauses 12 to 51). Each field is a clause of the contract of
-- the call, with its name. So the call itself proves of its result what is said here.
use Rattle.std.specs.Prelude.{◌≡◌, ◌<◌, ℕ, List, Option, Result, IfErr, IfOk, IfSome, IsUtf8, MatchOption, MatchResult}
use Rattle.std.specs.Prelude.{length}
use Rattle.asn_base.specs.Abstract.{AbstractValue}
use Rattle.asn_base.specs.Typed.{IsValue}
use Rattle.asn_base.specs.Types.{TypeNumber, Resolved}
use Rattle.text.specs.Text.{IsText, IsWithinLimits}
use Rattle.text.specs.Text as texts
use Rattle.text.specs.declared.lex_fault.LexFault.{LexFault}
use Rattle.text.specs.declared.lex_fault.LexFault.TheVariants as lexing
use Rattle.text.specs.declared.token.Token.{Token}
use Rattle.grammar.specs.Lexeme.{lexemes}
use Rattle.grammar.specs.Places.{bounded}
use Rattle.notation.specs.Answer as answers
use Rattle.notation.specs.declared.syntax_fault.SyntaxFault.{SyntaxFault}
use Rattle.notation.specs.declared.syntax_fault.SyntaxFault.TheVariants as parsing
use Rattle.trees.specs.Modules.{ModuleTree}
use Rattle.trees.specs.declared.module.Module.{Module as ModuleSyntax}
use Rattle.trees.specs.declared.value.ValueSyntax.{ValueSyntax}
use Rattle.trees.specs.Values.{Name, tree_of}
use Rattle.syntax.specs.Syntax.{module_text}
use Rattle.names.specs.declared.fault.NameFault.{NameFault}
use Rattle.resolve.specs.First.{IsFirstOfWritten, IsTextOf, trees_of}
use Rattle.resolve.specs.Links.{Links, IsLinkFault}
use Rattle.resolve.specs.Program.{Program, WrittenProgram, IsWhole}
use Rattle.tagging.specs.Faults as tagging
use Rattle.tagging.specs.FirstFault as first_tags
use Rattle.tagging.specs.Tagged.{IsTagged}
use Rattle.tagging.specs.declared.fault.TagFault.{TagFault}
use Rattle.constraints.specs.Bounded.{AreBounded}
use Rattle.constraints.specs.Faults as bounding
use Rattle.constraints.specs.First as first_bounds
use Rattle.constraints.specs.declared.fault.BoundFault.{BoundFault}
use Rattle.extensions.specs.Faults as settling
use Rattle.extensions.specs.SchemaOfModules.{SchemaOfModules}
use Rattle.extensions.specs.declared.fault.ExtFault.{ExtFault}
use Rattle.named_values.specs.front_end.Accepted.{Accepted, AreAccepted}
use Rattle.named_values.specs.front_end.Faults.{IsRightCompileError}
use Rattle.named_values.specs.front_end.ValueError.{IsValueError, DenotesValue}
use Rattle.named_values.specs.front_end.declared.fault.CompileError.{CompileError}
use Rattle.named_values.specs.front_end.declared.fault.CompileError.TheVariants as faults
use Rattle.named_values.specs.front_end.declared.modules.ValueError.{ValueError}
use Rattle.named_values.specs.messages.declared.fault.Fault.{Fault}
use Rattle.named_values.specs.Given.{Given}
use Rattle.named_values.specs.Meant.{IsMeant, IsNotMeant}
use Rattle.named_values.specs.Named.{Names, TypeNamed, ValueNamed}
use Rattle.value_text.specs.Print.{print}

-- ---- the calls of the layers

-- `text::lex` returns x for a text
pub record IsLexResult (text : List ℕ) (x : Result (List Token) LexFault) : Type 0 where
  pub found : IfOk x (λ ts. IsText text ts × IsWithinLimits text ts)
  pub only : (ts : List Token)
      → IsText text ts
      → IsWithinLimits text ts
      → MatchResult x (λ us. us ≡ ts) (λ e. e ≡ lexing.Memory)
  pub fault : IfErr x (texts.IsRightTextFault text)

-- `syntax::parse` returns x for a text and its tokens
pub record IsParseResult (text : List ℕ) (ts : List Token) (x : Result ModuleTree SyntaxFault) : Type 0 where
  pub found : IfOk x (λ m. (module_text (bounded 128)).Is m (lexemes text ts))
  pub only : (m : ModuleTree)
      → (module_text (bounded 128)).Is m (lexemes text ts)
      → MatchResult x (λ n. n ≡ m) (λ e. e ≡ parsing.Memory)
  pub fault : IfErr x (answers.IsRightNotationFault module_text (lexemes text ts) 0 (bounded 128))

-- `resolve::link` returns x for modules, which are given as they are written
pub record IsLinkResult (ws : List ModuleSyntax) (x : Result WrittenProgram NameFault) : Type 0 where
  pub linked : IfOk x (λ w. Links (trees_of ws) w.program)
  pub text : IfOk x (IsTextOf ws)
  pub fault : IfErr x (IsLinkFault (trees_of ws))
  pub written : IfErr x (IsFirstOfWritten ws)

-- `tagging::tag` returns x for a linked program
pub record IsTagResult (w : WrittenProgram) (x : Result WrittenProgram TagFault) : Type 0 where
  pub found : MatchResult x (λ v. (v ≡ w) × IsTagged w.program.types) (tagging.IsRightTagFault w.program)
  pub written : IfErr x (first_tags.IsFirstTagFault w.program w.types)

-- `constraints::bound` returns x for a tagged program
pub record IsBoundResult (w : WrittenProgram) (x : Result WrittenProgram BoundFault) : Type 0 where
  pub found : MatchResult x (λ v. (v ≡ w) × AreBounded w.program) (bounding.IsRightFault w.program)
  pub written : IfErr x (first_bounds.IsFirst w.program w.types w.assignments)

-- `extensions::settle` returns x for a bounded program
abbrev pub IsSettleResult : WrittenProgram → Result (List Resolved) ExtFault → Type 0
IsSettleResult w x = MatchResult x (SchemaOfModules w.program) (settling.IsRightExtensionFault w)

-- ---- the call of all layers

-- `front_end::open` returns x for texts: a program and its types, or a fault
pub record IsOpenResult (texts : List (List ℕ)) (x : Result (Program × List Resolved) CompileError) : Type 0 where
  pub accepted : IfOk x (λ f. Accepted texts f.0 f.1)
  pub only : (p : Program) → AreAccepted texts p → MatchResult x (λ f. f.0 ≡ p) (λ e. e ≡ faults.Memory)
  pub fault : IfErr x (IsRightCompileError texts)
  -- the clause of `resolve::Linked::whole` for the program
  pub whole : IfOk x (λ f. IsWhole f.0)

-- ---- names and values

-- `named_values::type_number` returns x for a name in program p
pub record IsTypeResult (p : Program) (name : List ℕ) (x : Option TypeNumber) : Type 0 where
  pub within : IfSome x (λ t. t < length p.types)
  pub only : IfSome x (Names p name)
  pub named : MatchOption x ((t : ℕ) → TypeNamed p name t → ⊥) (TypeNamed p name)

-- `named_values::value_number` returns x for a name in program p
pub record IsValueResult (p : Program) (name : List ℕ) (x : Option ℕ) : Type 0 where
  pub within : IfSome x (λ i. i < length p.values)
  pub named : MatchOption x ((i : ℕ) → ValueNamed p name i → ⊥) (ValueNamed p name)

-- `front_end::Modules::typed` returns x for a notation that is read in module M of program p, under type i
pub record IsTypedResult (p : Program) (M : Name) (i : TypeNumber) (n : ValueSyntax)
    (x : Result AbstractValue ValueError) : Type 0 where
  pub value : IfOk x (DenotesValue p M i (tree_of n))
  pub fault : IfErr x (IsValueError p M i n)

-- `named_values::meant` returns x for the name of a type and a value that is given, by a name or a text, in program p
pub record IsMeantResult (p : Program) (first : List ℕ) (second : Given)
    (x : Result (TypeNumber × AbstractValue) Fault) : Type 0 where
  pub meant : IfOk x (λ r. IsMeant p first second r.0 r.1)
  pub refused : IfErr x (IsNotMeant p first second)

-- `value_text::print` returns text o for v, a value of type i of schema s
pub record IsPrinted (s : List Resolved) (i : TypeNumber) (v : AbstractValue) (o : List ℕ) : Type 0 where
  pub value : IsValue s i v
  pub text : o ≡ print s i v
  -- a `String` is UTF-8
  pub utf8 : IsUtf8 o
