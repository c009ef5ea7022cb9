use Rattle.std.proofs.Common.{sym, subst, ap, ◌∙◌}
use Rattle.std.specs.Prelude.{IfErr, IfOk}
use Rattle.asn_base.specs.Abstract.{abstract}
use Rattle.trees.specs.Values.{tree_of}
use Rattle.trees.specs.Types.{Plain, plain_of, a_boolean, an_integer, an_octet_string, a_null, an_object_identifier, a_relative_oid, an_enumerated, a_utf8_string, a_restricted_string}
use Rattle.type_table.specs.Lists.{IsSoundPlain}
use Rattle.type_table.specs.Seen.{kind_of, root_items, after_marker}
use Rattle.type_table.specs.Table.{simple}
use Rattle.resolve.specs.Listed.{numbers_listed}
use Rattle.value_notations.specs.Faults.{IsLeafFault, IsLeafValue}
use Rattle.value_notations.proofs.OfShape.{bits_of, integer_of}
use Rattle.value_notations.proofs.LeafValues.{no_bit}
use Rattle.value_notations.proofs.leaves.plain_value.Goals as goal

pub bits_value-requires : goal.bits_value-requires
bits_value-requires c =
    record {
      sound = subst IsSoundPlain (sym (bits_of c.args.simple.now _ (kind_of c.args.shape.now) c.requires.is (ap plain_of c.in-BitString.is)))
          c.requires.sound;
    }

pub returns-in-Integer-clause-value : goal.returns-in-Integer-clause-value
returns-in-Integer-clause-value c =
    subst (λ (k : Plain). IfOk c.integer_value.result (λ v. IsLeafValue k (tree_of c.args.notation.now) (abstract v)))
    (integer_of c.args.simple.now _ (kind_of c.args.shape.now) c.requires.is (ap plain_of c.in-Integer.is)) c.integer_value.ensures.value

pub returns-in-Integer-clause-fault : goal.returns-in-Integer-clause-fault
returns-in-Integer-clause-fault c =
    subst (λ (k : Plain). IfErr c.integer_value.result (IsLeafFault k (tree_of c.args.notation.now)))
    (integer_of c.args.simple.now _ (kind_of c.args.shape.now) c.requires.is (ap plain_of c.in-Integer.is)) c.integer_value.ensures.fault

pub returns-in-BitString-clause-value : goal.returns-in-BitString-clause-value
returns-in-BitString-clause-value c =
    subst (λ (k : Plain). IfOk c.bits_value.result (λ v. IsLeafValue k (tree_of c.args.notation.now) (abstract v)))
    (bits_of c.args.simple.now _ (kind_of c.args.shape.now) c.requires.is (ap plain_of c.in-BitString.is)) c.bits_value.ensures.value

pub returns-in-BitString-clause-fault : goal.returns-in-BitString-clause-fault
returns-in-BitString-clause-fault c =
    subst (λ (k : Plain). IfErr c.bits_value.result (IsLeafFault k (tree_of c.args.notation.now)))
    (bits_of c.args.simple.now _ (kind_of c.args.shape.now) c.requires.is (ap plain_of c.in-BitString.is)) c.bits_value.ensures.fault

pub enumerated_value-requires-clause-is : goal.enumerated_value-requires-clause-is
enumerated_value-requires-clause-is c =
    c.requires.is ∙ ap (λ s. simple (plain_of s)) c.in-Enumerated.is
    ∙ ap (λ e. simple (an_enumerated (root_items e) (after_marker e))) (sym c.deref.ensures)

pub returns-in-Boolean-clause-bit : goal.returns-in-Boolean-clause-bit
returns-in-Boolean-clause-bit c = no_bit a_boolean (tree_of c.args.notation.now) c.args.notation.now c.boolean_value.result tt c.boolean_value.ensures.fault

pub returns-in-Integer-clause-bit : goal.returns-in-Integer-clause-bit
returns-in-Integer-clause-bit c = no_bit (an_integer (numbers_listed (kind_of c.args.shape.now))) (tree_of c.args.notation.now) c.args.notation.now c.integer_value.result tt c.integer_value.ensures.fault

pub returns-in-OctetString-clause-bit : goal.returns-in-OctetString-clause-bit
returns-in-OctetString-clause-bit c = no_bit an_octet_string (tree_of c.args.notation.now) c.args.notation.now c.octets_value.result tt c.octets_value.ensures.fault

pub returns-in-Null-clause-bit : goal.returns-in-Null-clause-bit
returns-in-Null-clause-bit c = no_bit a_null (tree_of c.args.notation.now) c.args.notation.now c.null_value.result tt c.null_value.ensures.fault

pub returns-in-ObjectIdentifier-clause-bit : goal.returns-in-ObjectIdentifier-clause-bit
returns-in-ObjectIdentifier-clause-bit c = no_bit an_object_identifier (tree_of c.args.notation.now) c.args.notation.now c.identifier_value.result tt c.identifier_value.ensures.fault

pub returns-in-RelativeOid-clause-bit : goal.returns-in-RelativeOid-clause-bit
returns-in-RelativeOid-clause-bit c = no_bit a_relative_oid (tree_of c.args.notation.now) c.args.notation.now c.relative_value.result tt c.relative_value.ensures.fault

pub returns-in-Enumerated-clause-bit : goal.returns-in-Enumerated-clause-bit
returns-in-Enumerated-clause-bit c = no_bit (an_enumerated (root_items c.deref.result.now) (after_marker c.deref.result.now)) (tree_of c.args.notation.now) c.args.notation.now c.enumerated_value.result tt c.enumerated_value.ensures.fault

pub returns-in-Utf8String-clause-bit : goal.returns-in-Utf8String-clause-bit
returns-in-Utf8String-clause-bit c = no_bit a_utf8_string (tree_of c.args.notation.now) c.args.notation.now c.utf8_value.result tt c.utf8_value.ensures.fault

pub returns-in-Restricted-clause-bit : goal.returns-in-Restricted-clause-bit
returns-in-Restricted-clause-bit c = no_bit (a_restricted_string c.in-Restricted.kind) (tree_of c.args.notation.now) c.args.notation.now c.restricted_value.result tt c.restricted_value.ensures.fault
