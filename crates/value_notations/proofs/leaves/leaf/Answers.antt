use Rattle.std.proofs.Common.{◌∙◌, ap, subst, sym}
use Rattle.std.specs.Prelude.{IfErr, IfOk}
use Rattle.asn_base.specs.Abstract.{abstract}
use Rattle.trees.specs.Types.{Plain, plain_of}
use Rattle.trees.specs.Values.{tree_of}
use Rattle.type_table.specs.Lists.{IsSoundKind}
use Rattle.type_table.specs.Seen.{kind_of}
use Rattle.value_notations.specs.Faults.{IsLeafFault, IsLeafValue}
use Rattle.value_notations.proofs.OfShape.{same_plain}
use Rattle.value_notations.proofs.leaves.leaf.Goals as goal

pub plain_value-requires-clause-is : goal.plain_value-requires-clause-is
plain_value-requires-clause-is c = ap kind_of (sym c.shape.ensures ∙ c.in-Simple.is)

pub plain_value-requires-clause-sound : goal.plain_value-requires-clause-sound
plain_value-requires-clause-sound c = subst IsSoundKind (ap kind_of (sym c.shape.ensures ∙ c.in-Simple.is)) c.requires.sound

pub returns-in-Simple-clause-value : goal.returns-in-Simple-clause-value
returns-in-Simple-clause-value c k e =
    subst (λ (j : Plain). IfOk c.plain_value.result (λ v. IsLeafValue j (tree_of c.args.notation.now) (abstract v)))
    (same_plain (plain_of c.in-Simple.simple) k (sym (ap kind_of (sym c.shape.ensures ∙ c.in-Simple.is)) ∙ e)) c.plain_value.ensures.value

pub returns-in-Simple-clause-fault : goal.returns-in-Simple-clause-fault
returns-in-Simple-clause-fault c k e =
    subst (λ (j : Plain). IfErr c.plain_value.result (IsLeafFault j (tree_of c.args.notation.now)))
    (same_plain (plain_of c.in-Simple.simple) k (sym (ap kind_of (sym c.shape.ensures ∙ c.in-Simple.is)) ∙ e)) c.plain_value.ensures.fault

pub returns-in-Reference-clause-fault : goal.returns-in-Reference-clause-fault
returns-in-Reference-clause-fault c k e = let f = sym (ap kind_of (sym c.shape.ensures ∙ c.in-Reference.is)) ∙ e in absurd cc

pub returns-in-Tagged-clause-fault : goal.returns-in-Tagged-clause-fault
returns-in-Tagged-clause-fault c k e = let f = sym (ap kind_of (sym c.shape.ensures ∙ c.in-Tagged.is)) ∙ e in absurd cc

pub returns-in-Members-clause-fault : goal.returns-in-Members-clause-fault
returns-in-Members-clause-fault c k e = let f = sym (ap kind_of (sym c.shape.ensures ∙ c.in-Members.is)) ∙ e in absurd cc

pub returns-in-Elements-clause-fault : goal.returns-in-Elements-clause-fault
returns-in-Elements-clause-fault c k e = let f = sym (ap kind_of (sym c.shape.ensures ∙ c.in-Elements.is)) ∙ e in absurd cc
