-- The headline, of the laws of the layers.
use Rattle.std.proofs.Common.{◌≡◌, ◌≤◌, ℕ, List, [], Ok, Err, length, sym, subst}
use Rattle.std.specs.Prelude.{◌↔◌, IsUtf8, MatchResult}
use Rattle.std.specs.List.{AllZip}
use Rattle.asn_base.specs.Abstract.{AbstractValue}
use Rattle.asn_base.specs.Schemas.{IsSchema}
use Rattle.asn_base.specs.Typed.{IsValue}
use Rattle.asn_base.specs.Types.{Resolved}
use Rattle.text.specs.declared.lex_fault.LexFault.{LexFault}
use Rattle.notation.specs.declared.syntax_fault.SyntaxFault.{SyntaxFault}
use Rattle.trees.specs.Values.{Name, Tree, tree_of}
use Rattle.names.specs.Names.{IsApart}
use Rattle.type_table.specs.Lists.{AreSound}
use Rattle.trees.specs.Modules.{ModuleTree}
use Rattle.trees.specs.declared.module.Module.{Module as ModuleSyntax}
use Rattle.names.specs.declared.fault.NameFault.{NameFault}
use Rattle.type_table.specs.FirstInList.{IsSameLocation, ReportsAlike}
use Rattle.resolve.specs.First.{IsTextOf, trees_of}
use Rattle.resolve.specs.Links.{Links}
use Rattle.resolve.specs.Program.{Program, WrittenProgram}
use Rattle.tagging.specs.FirstFault.{ReportOneRule}
use Rattle.tagging.specs.declared.fault.TagFault.{TagFault}
use Rattle.constraints.specs.First as constraints
use Rattle.constraints.specs.declared.fault.BoundFault.{BoundFault}
use Rattle.additions.specs.First as additions
use Rattle.additions.specs.declared.fault.ExtFault.{ExtFault as AdditionFault}
use Rattle.value_notations.specs.Notations.{Notation}
use Rattle.value_notations.specs.Values as written
use Rattle.values.specs.Allowing.{Allows, AllowsCode}
use Rattle.schema_of.specs.SchemaOf.{IsSchemaOf}
use Rattle.value_text.specs.Print.{print}
use Rattle.printed_values.specs.LineEnds.{HasNoLineEnd}
use Rattle.printed_values.specs.ReadBack.{IsReadBack}
use Rattle.value_diagnostics.specs.declared.value_diagnostic.ValueDiagnostic.{ValueDiagnostic}
use Rattle.extensions.specs.SchemaOfModules.{IsLinkedProgram}
use Rattle.named_values.specs.front_end.Accepted.{Accepted, AreAccepted, IsCheckedProgram, IsModule}
use Rattle.named_values.specs.front_end.Faults.{IsLinkedFault, IsModulesFault, IsRightCompileError}
use Rattle.named_values.specs.front_end.Layers.{layer_of_fault}
use Rattle.named_values.specs.front_end.OneReport.{ReportOneReason}
use Rattle.named_values.specs.front_end.declared.fault.CompileError.{CompileError}
use Rattle.named_values.specs.front_end.declared.fault.CompileError.TheVariants as faults
use Rattle.laws_front.specs.Calls.{IsOpenResult, IsPrinted}
use Rattle.laws_front.specs.Headline.{AreRightlyAccepted, AreRightlyPrinted, EachAccepts, HasMeanings, IsFrontEnd}
use Rattle.laws_front.specs.Headline.{OpenResult}
use Rattle.laws_front.specs.Refusals.{AreRightlyRefused}
use Rattle.laws_front.specs.OneSchema.{IsSameSchema}
use Rattle.laws_front.proofs.Layers as layers
use Rattle.laws_front.proofs.Layers.{all_accept, none_refuses}
use Rattle.laws_front.proofs.Meanings as meanings
use Rattle.laws_front.proofs.Meanings.{as_one, meant, meant_value, type_found, type_missing, typed, value_found}
use Rattle.laws_front.proofs.OneSchema.{OneTags, one_schema}

-- all laws that the headline is of
pub record Laws : Type 0 where
  pub kept : (xs : List (List ℕ)) (p : Program) → AreAccepted xs p → IsCheckedProgram p
  pub excluded : (xs : List (List ℕ)) (p : Program) (e : CompileError)
      → (e ≡ faults.Memory → ⊥)
      → IsRightCompileError xs e
      → AreAccepted xs p
      → ⊥
  pub layer : (xs : List (List ℕ)) (e f : CompileError)
      → (e ≡ faults.Memory → ⊥)
      → (f ≡ faults.Memory → ⊥)
      → IsRightCompileError xs e
      → IsRightCompileError xs f
      → layer_of_fault e ≡ layer_of_fault f
  pub octets : (xs : List (List ℕ)) (k j : ℕ) (e f : LexFault)
      → IsRightCompileError xs (faults.Text k e)
      → IsRightCompileError xs (faults.Text j f)
      → (k ≡ j) × (e ≡ f)
  pub tokens : (xs : List (List ℕ)) (k j : ℕ) (e f : SyntaxFault)
      → IsRightCompileError xs (faults.Tree k e)
      → IsRightCompileError xs (faults.Tree j f)
      → (k ≡ j) × (e ≡ f)
  pub either : (xs : List (List ℕ)) (k j : ℕ) (e : LexFault) (f : SyntaxFault)
      → IsRightCompileError xs (faults.Text k e)
      → IsRightCompileError xs (faults.Tree j f)
      → ⊥
  pub one_tag : (ws : List ModuleSyntax) (w : WrittenProgram) (e f : TagFault)
      → IsTextOf ws w
      → IsLinkedFault w (faults.Tag e)
      → IsLinkedFault w (faults.Tag f)
      → ReportOneRule IsSameLocation e f
  pub one_bound : (ws : List ModuleSyntax) (w : WrittenProgram) (e f : BoundFault)
      → Links (trees_of ws) w.program
      → IsTextOf ws w
      → IsLinkedFault w (faults.Bound e)
      → IsLinkedFault w (faults.Bound f)
      → constraints.ReportsSame e f
  pub one_addition : (w : WrittenProgram) (e f : AdditionFault)
      → IsLinkedFault w (faults.Additions e)
      → IsLinkedFault w (faults.Additions f)
      → additions.ReportOneAddition e f
  pub one_link : (ws : List ModuleSyntax) (e f : NameFault)
      → IsModulesFault ws (faults.Name e)
      → IsModulesFault ws (faults.Name f)
      → ReportsAlike e f
  pub linked : (xs : List (List ℕ)) (ms : List ModuleTree) (p : Program)
      → AllZip IsModule xs ms
      → Links ms p
      → IsLinkedProgram p
  pub one_default : (w : WrittenProgram) (t u : ValueDiagnostic)
      → IsLinkedProgram w.program
      → IsLinkedFault w (faults.Default t)
      → IsLinkedFault w (faults.Default u)
      → ReportOneReason t u
  pub one_assigned : (w : WrittenProgram) (t u : ValueDiagnostic)
      → IsLinkedProgram w.program
      → IsLinkedFault w (faults.Assigned t)
      → IsLinkedFault w (faults.Assigned u)
      → ReportOneReason t u
  pub program : (xs : List (List ℕ)) (p q : Program) → AreAccepted xs p → AreAccepted xs q → p ≡ q
  pub tags : OneTags
  pub notations : (p : Program) (os : List ℕ) (M : Name) (i : ℕ) (n : Tree) (v w : AbstractValue)
      → IsApart p.modules
      → AreSound p.types
      → Notation p os M i n v
      → Notation p os M i n w
      → v ≡ w
  pub values : (p : Program) (s : List Resolved) (i : ℕ) (v : AbstractValue)
      → IsApart p.modules
      → AreSound p.types
      → IsSchema s
      → IsSchemaOf p (Allows p) (AllowsCode p) s
      → (IsValue s i v ↔ written.IsNotatedValue p (Allows p) (AllowsCode p) i v)
  pub printed : (p : Program) (s : List Resolved) (M : Name) (i : ℕ) (v : AbstractValue)
      → IsApart p.modules
      → AreSound p.types
      → IsSchema s
      → IsSchemaOf p (Allows p) (AllowsCode p) s
      → IsValue s i v
      → HasNoLineEnd v
      → IsUtf8 (print s i v)
      → length (print s i v) ≤ 16777216
      → IsReadBack p (Allows p) (AllowsCode p) M i (print s i v) v
  pub layers : layers.Laws
  pub meanings : meanings.Laws

module _ (laws : Laws) where
  one_notation : (p : Program) (M : Name) (i : ℕ) (n : Tree) (v w : AbstractValue)
      → IsCheckedProgram p
      → Notation p [] M i n v
      → Notation p [] M i n w
      → v ≡ w
  one_notation p M i n v w k a b = laws.notations p [] M i n v w k.read.apart k.read.sound.lists a b

  -- the same texts are the same program
  moved : (xs : List (List ℕ)) (p q : Program) (s u : List Resolved)
      → Accepted xs p s
      → Accepted xs q u
      → Accepted xs p u
  moved xs p q s u a b = subst (λ z. Accepted xs z u) (laws.program xs q p b.accepted a.accepted) b

  same_schema : (xs : List (List ℕ)) (p q : Program) (s u : List Resolved)
      → Accepted xs p s
      → Accepted xs q u
      → IsSameSchema s u
  same_schema xs p q s u a b =
      one_schema laws.tags p s u (λ M i n v w. one_notation p M i n v w (laws.kept xs p a.accepted)) a.types.settled
      (moved xs p q s u a b).types.settled

  same_values : (xs : List (List ℕ)) (p q : Program) (s u : List Resolved) (i : ℕ) (v : AbstractValue)
      → Accepted xs p s
      → Accepted xs q u
      → (IsValue s i v ↔ IsValue u i v)
  same_values xs p q s u i v a b =
      let k = laws.kept xs p a.accepted in
      let of = laws.values p s i v k.read.apart k.read.sound.lists a.types.accepted a.types.settled.types in
      let on = laws.values p u i v k.read.apart k.read.sound.lists b.types.accepted
      (moved xs p q s u a b).types.settled.types in
      (λ h. on.1 (of.0 h), λ h. of.1 (on.0 h))

  each_accepts : (xs : List (List ℕ)) (x : OpenResult) (w : WrittenProgram) (s : List Resolved)
      → IsOpenResult xs x
      → EachAccepts xs w s
      → MatchResult x (λ f. (f.0 ≡ w.program) × IsSameSchema f.1 s) (λ e. e ≡ faults.Memory)
  each_accepts xs (Ok f) w s r a =
      let b = all_accept xs w s a in
      (r.only w.program b.accepted, same_schema xs f.0 w.program f.1 s r.accepted b)
  each_accepts xs (Err e) w s r a = r.only w.program (all_accept xs w s a).accepted

  printed : (p : Program) (s : List Resolved) (k : IsCheckedProgram p) (M : Name) (i : ℕ) (v : AbstractValue) (text : List ℕ)
      → IsSchema s
      → IsSchemaOf p (Allows p) (AllowsCode p) s
      → IsPrinted s i v text
      → HasNoLineEnd v
      → length text ≤ 16777216
      → IsReadBack p (Allows p) (AllowsCode p) M i text v
  printed p s k M i v text a b w h l =
      subst (λ x. IsReadBack p (Allows p) (AllowsCode p) M i x v) (sym w.text)
      (laws.printed p s M i v k.read.apart k.read.sound.lists a b w.value h (subst IsUtf8 w.text w.utf8)
      (subst (λ x. length x ≤ 16777216) w.text l))

  have_meanings : (xs : List (List ℕ)) (p : Program) (s : List Resolved) → IsOpenResult xs (Ok (p, s)) → HasMeanings p s
  have_meanings xs p s r =
      let k = laws.kept xs p r.accepted.accepted in
      let t = r.accepted.types in
      let one = as_one laws.meanings p s r.whole k t in
      record {
        schema = t.accepted;
        one_name = λ name a b m n. laws.meanings.names p name a b k m n;
        type_found = type_found laws.meanings p s r.whole k t;
        type_missing = type_missing laws.meanings p s r.whole k t;
        value_found = value_found laws.meanings p s r.whole k t;
        assigned = λ i v M x e a. (let w = k.asked.values i v M x e a in one M v.ty v.notation w.0 w.1);
        defaults = λ i y M x l m cs c n e a f h d.
            (let w = k.asked.defaults i y M x l m cs c e a f h n d in one M c.ty n w.0 w.1);
        typed = typed laws.meanings p s r.whole k t;
        typed_value = λ M i n v w. one M i (tree_of n) v w.value;
        meant = meant laws.meanings p s r.whole k t;
        meant_value = meant_value laws.meanings p s r.whole k t;
        one_meaning = λ first second i u v w m n. laws.meanings.meant p first second i u v w k m n;
      }

  rightly_accepted : (xs : List (List ℕ)) → AreRightlyAccepted xs
  rightly_accepted xs = record {
    accepted = λ p s r. r.accepted;
    opened = λ x p r a. r.only p a;
    each_accepts = each_accepts xs;
    none_refuses = λ p s r.
        none_refuses laws.layers xs p r.accepted.accepted (laws.kept xs p r.accepted.accepted).read;
    one_program = λ p q a b. laws.program xs p q a b;
    one_schema = λ p q s u a b. same_schema xs p q s u a b;
    same_values = λ p q s u i v a b. same_values xs p q s u i v a b;
    meanings = λ p s r. have_meanings xs p s r;
  }

  rightly_refused : (xs : List (List ℕ)) → AreRightlyRefused xs
  rightly_refused xs = record {
    refused = λ e r. r.fault;
    not_accepted = λ p e u r a. laws.excluded xs p e u r.fault a;
    not_opened = λ p s e u r h. laws.excluded xs p e u h r.accepted.accepted;
    one_layer = λ e f u w r h. sym (laws.layer xs e f u w r.fault h);
    one_of_octets = λ k j e f r h. laws.octets xs j k f e h r.fault;
    one_of_tokens = λ k j e f r h. laws.tokens xs j k f e h r.fault;
    one_of_tags = laws.one_tag;
    one_of_constraints = laws.one_bound;
    one_of_additions = laws.one_addition;
    one_of_names = laws.one_link;
    one_of_defaults = λ ws w t u m l. laws.one_default w t u (laws.linked xs (trees_of ws) w.program m l);
    one_of_values = λ ws w t u m l. laws.one_assigned w t u (laws.linked xs (trees_of ws) w.program m l);
    not_of_both = λ k j e f g h. laws.either xs k j e f g h;
  }

  rightly_printed : (xs : List (List ℕ)) (p : Program) (s : List Resolved)
      → IsOpenResult xs (Ok (p, s))
      → AreRightlyPrinted p s
  rightly_printed xs p s r =
      let t = r.accepted.types in
      record {
        read_back = λ M i v text w h l.
            printed p s (laws.kept xs p r.accepted.accepted) M i v text t.accepted t.settled.types w h l;
      }

  pub together : (texts : List (List ℕ)) → IsFrontEnd texts
  together xs = record {
    accepts = rightly_accepted xs;
    refuses = rightly_refused xs;
    prints = rightly_printed xs;
  }
