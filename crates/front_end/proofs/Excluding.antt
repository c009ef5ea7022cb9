-- A true fault excludes that texts are accepted.
use Rattle.std.proofs.Common.{◌≡◌, ℕ, List, refl, subst}
use Rattle.std.specs.List.{AllZip, All}
use Rattle.std.proofs.lemmas.List.Elements.{All-from_recursion}
use Rattle.text.specs.declared.lex_fault.LexFault.{LexFault}
use Rattle.text.specs.declared.lex_fault.LexFault.TheVariants as lexing
use Rattle.text.specs.declared.token.Token.{Token}
use Rattle.text.specs.Text.{IsText, IsWithinLimits}
use Rattle.text.specs.Text as texts
use Rattle.grammar.specs.Lexeme.{lexemes}
use Rattle.grammar.specs.Places.{Limits, bounded}
use Rattle.parser_combinators.specs.Given.{IsLexed}
use Rattle.syntax.specs.Syntax.{module_text}
use Rattle.trees.specs.Modules.{ModuleTree}
use Rattle.trees.specs.declared.module.Module.{Module as ModuleSyntax}
use Rattle.names.specs.Modules.{AreNamed}
use Rattle.resolve.specs.Links.{FaultsExclude, IsProgramOf, Links, IsLinkFault}
use Rattle.resolve.specs.First.{trees_of}
use Rattle.resolve.specs.Program.{Program, WrittenProgram}
use Rattle.extensions.specs.spelled.Written.{IsSpelledModule}
use Rattle.tagging.specs.Faults as tagging
use Rattle.tagging.specs.Tagged.{IsTagged}
use Rattle.tagging.specs.declared.fault.TagFault.{TagFault}
use Rattle.tagging.specs.declared.fault.TagFault.TheVariants as tags
use Rattle.constraints.specs.Bounded.{AreBounded}
use Rattle.constraints.specs.Faults as bounding
use Rattle.constraints.specs.declared.fault.BoundFault.{BoundFault}
use Rattle.constraints.specs.declared.fault.BoundFault.TheVariants as bounds
use Rattle.extensions.specs.Faults as settling
use Rattle.extensions.specs.SchemaOfModules.{IsLinkedProgram, IsWellTyped}
use Rattle.extensions.specs.declared.fault.ExtFault.{ExtFault}
use Rattle.extensions.specs.declared.fault.ExtFault.TheVariants as settled
use Rattle.front_end.specs.Accepted.{AreAccepted, IsModule}
use Rattle.front_end.specs.Faults.{HaveProgram, IsLinkedFault, IsRightCompileError}
use Rattle.front_end.specs.declared.fault.CompileError.{CompileError}
use Rattle.front_end.specs.declared.fault.CompileError.TheVariants as faults
use Rattle.front_end.proofs.Lists.{zip_all, zip_at, zip_one}
use Rattle.front_end.proofs.Texts.{OneModule, OneTokens, no_module, one_tree}

-- ---- what follows of modules that texts are

abbrev pub Spelled : Type 0
Spelled = (text : List ℕ) (tokens : List Token) (limits : Limits) (m : ModuleTree) →
    IsLexed text tokens →
    (module_text limits).Is m (lexemes text tokens) →
    IsSpelledModule m

spelled_module : Spelled → (x : List ℕ) (m : ModuleTree) → IsModule x m → IsSpelledModule m
spelled_module law x m i = law x i.tokens (bounded 128) m i.lexed i.tree

pub all_spelled : Spelled → (xs : List (List ℕ)) (ms : List ModuleTree) → AllZip IsModule xs ms → All IsSpelledModule ms
all_spelled law xs ms z =
    All-from_recursion IsSpelledModule ms (zip_all IsModule IsSpelledModule xs ms (spelled_module law) z)

abbrev pub OneList : Type 0
OneList = (xs : List (List ℕ)) (ms ns : List ModuleTree) → AllZip IsModule xs ms → AllZip IsModule xs ns → ms ≡ ns

pub same_list : OneTokens → OneModule → OneList
same_list one tree xs ms ns = zip_one IsModule xs ms ns (one_tree one tree)

abbrev pub OneProgram : Type 0
OneProgram = (ms : List ModuleTree) (p q : Program) → AreNamed ms → IsProgramOf ms p → IsProgramOf ms q → p ≡ q

pub same_program : OneList → OneProgram → (xs : List (List ℕ)) (p q : Program) → AreAccepted xs p → AreAccepted xs q → p ≡ q
same_program list program xs p q a b =
    let e = list xs b.modules a.modules b.are a.are in
    let l = subst (λ ms. Links ms q) e b.links in
    program a.modules p q a.links.named a.links.program l.program

-- ---- faults

abbrev pub NoTokens : Type 0
NoTokens = (x : List ℕ) (ts : List Token) (f : LexFault) → IsText x ts → IsWithinLimits x ts →
    texts.IsRightTextFault x f →
    f ≡ lexing.Memory

abbrev pub AreRead : Type 0
AreRead = (xs : List (List ℕ)) (ms : List ModuleTree) (p : Program) → AllZip IsModule xs ms → Links ms p → IsLinkedProgram p

-- the laws of each layer, and those of texts
pub record Laws : Type 0 where
  pub tokens : OneTokens
  pub texts : NoTokens
  pub list : OneList
  pub program : OneProgram
  pub read : AreRead
  pub links : FaultsExclude
  pub tags : (p : Program) (e : TagFault) → (e ≡ tags.Memory → ⊥) → tagging.IsRightTagFault p e → IsTagged p.types → ⊥
  pub bounds : (p : Program) (e : BoundFault) → (e ≡ bounds.Memory → ⊥) → bounding.IsRightFault p e → AreBounded p → ⊥
  pub schema_of_modules : (w : WrittenProgram) (e : ExtFault) → IsLinkedProgram w.program → (e ≡ settled.Memory → ⊥) →
      settling.IsRightExtensionFault w e →
      IsWellTyped w.program → ⊥

linked_excluded : Laws → (w : WrittenProgram) (e : CompileError) → (e ≡ faults.Memory → ⊥) → IsLinkedFault w e →
    IsLinkedProgram w.program →
    IsTagged w.program.types → AreBounded w.program → IsWellTyped w.program → ⊥
linked_excluded l w faults.Memory u h r t b s = u refl
linked_excluded l w (faults.Tag f) u h r t b s = l.tags w.program f h.0 h.1 t
linked_excluded l w (faults.Bound f) u h r t b s = l.bounds w.program f h.1 h.2 b
linked_excluded l w (faults.Additions f) u h r t b s =
    l.schema_of_modules w (settled.Additions f) r (λ q. absurd cc) h.2 s
linked_excluded l w (faults.Default v) u h r t b s =
    l.schema_of_modules w (settled.Default h.2.fault) r (λ q. absurd cc) h.2.is_so s
linked_excluded l w (faults.Assigned v) u h r t b s =
    l.schema_of_modules w (settled.Assigned h.2.fault) r (λ q. absurd cc) h.2.is_so s
linked_excluded l w (faults.Text k f) u h r t b s = absurd h
linked_excluded l w (faults.Tree k f) u h r t b s = absurd h
linked_excluded l w (faults.Name f) u h r t b s = absurd h

program_excluded : Laws → (xs : List (List ℕ)) (p : Program) (e : CompileError) → (e ≡ faults.Memory → ⊥) →
    (ws : List ModuleSyntax) → AllZip IsModule xs (trees_of ws) → HaveProgram ws (λ w. IsLinkedFault w e) →
    AreAccepted xs p → ⊥
program_excluded l xs p e u ws z h a =
    let w = h.program in
    let k = subst (λ ns. Links ns w.program) (l.list xs (trees_of ws) a.modules z a.are) h.links in
    let q = l.program a.modules p w.program a.links.named a.links.program k.program in
    linked_excluded l w e u h.such (subst IsLinkedProgram q (l.read xs a.modules p a.are a.links))
    (subst (λ (r : Program). IsTagged r.types) q a.tagged) (subst AreBounded q a.bounded) (subst IsWellTyped q a.asked)

pub excluded : Laws → (xs : List (List ℕ)) (p : Program) (e : CompileError) → (e ≡ faults.Memory → ⊥) → IsRightCompileError xs e →
    AreAccepted xs p → ⊥
excluded l xs p faults.Memory u h a = u refl
excluded l xs p (faults.Text k f) u h a =
    let i = (zip_at IsModule xs a.modules k h.text a.are h.there).1 in
    h.is_so.no_memory (l.texts h.text i.tokens f i.lexed.text i.lexed.limits h.is_so.is_so)
excluded l xs p (faults.Tree k f) u h a =
    let i = zip_at IsModule xs a.modules k h.text a.are h.there in
    no_module l.tokens h.text f i.0 h.is_so i.1
excluded l xs p (faults.Name f) u h a =
    let e = l.list xs (trees_of h.modules) a.modules h.are a.are in
    l.links a.modules p f h.is_so.0 (subst (λ ms. IsLinkFault ms f) e h.is_so.1) a.links
excluded l xs p (faults.Tag f) u h a = program_excluded l xs p (faults.Tag f) u h.modules h.are h.is_so a
excluded l xs p (faults.Bound f) u h a = program_excluded l xs p (faults.Bound f) u h.modules h.are h.is_so a
excluded l xs p (faults.Additions f) u h a = program_excluded l xs p (faults.Additions f) u h.modules h.are h.is_so a
excluded l xs p (faults.Default t) u h a = program_excluded l xs p (faults.Default t) u h.modules h.are h.is_so a
excluded l xs p (faults.Assigned t) u h a = program_excluded l xs p (faults.Assigned t) u h.modules h.are h.is_so a

-- so a fault of accepted texts is `Memory`
pub is_memory : ((xs : List (List ℕ)) (p : Program) (e : CompileError) → (e ≡ faults.Memory → ⊥) →
    IsRightCompileError xs e →
    AreAccepted xs p → ⊥) → (xs : List (List ℕ)) (p : Program) (e : CompileError) → IsRightCompileError xs e → AreAccepted xs p →
    e ≡ faults.Memory
is_memory law xs p faults.Memory h a = refl
is_memory law xs p (faults.Text k f) h a = absurd (law xs p (faults.Text k f) (λ q. absurd cc) h a)
is_memory law xs p (faults.Tree k f) h a = absurd (law xs p (faults.Tree k f) (λ q. absurd cc) h a)
is_memory law xs p (faults.Name f) h a = absurd (law xs p (faults.Name f) (λ q. absurd cc) h a)
is_memory law xs p (faults.Tag f) h a = absurd (law xs p (faults.Tag f) (λ q. absurd cc) h a)
is_memory law xs p (faults.Bound f) h a = absurd (law xs p (faults.Bound f) (λ q. absurd cc) h a)
is_memory law xs p (faults.Additions f) h a = absurd (law xs p (faults.Additions f) (λ q. absurd cc) h a)
is_memory law xs p (faults.Default t) h a = absurd (law xs p (faults.Default t) (λ q. absurd cc) h a)
is_memory law xs p (faults.Assigned t) h a = absurd (law xs p (faults.Assigned t) (λ q. absurd cc) h a)
