use Rattle.std.proofs.Common.{◌≤◌, ap, subst}
use Rattle.asn_base.specs.Typed.{nodes}
use Rattle.views.specs.Tree.{value_of}
use Rattle.ber_reader.specs.Judged.{lacks_number, deep_alternative, outside}
use Rattle.ber_reader.proofs.Judging.{own_as}
use Rattle.ber_reader.proofs.wrong.own_fault.Goals as goal

pub fault_of_fields-requires : goal.fault_of_fields-requires
fault_of_fields-requires c = subst (λ q. nodes q ≤ 16777216) (ap value_of c.in-Fields.ensures) c.requires

pub returns-in-Fields-clause-own : goal.returns-in-Fields-clause-own
returns-in-Fields-clause-own c = own_as (ap value_of c.in-Fields.ensures) c.fault_of_fields.ensures.own

pub returns-in-Enum-clause-own : goal.returns-in-Enum-clause-own
returns-in-Enum-clause-own c = own_as (ap value_of c.in-Enum.ensures) lacks_number

pub returns-in-Alternative-clause-own : goal.returns-in-Alternative-clause-own
returns-in-Alternative-clause-own c = own_as (ap value_of c.in-Alternative.ensures) deep_alternative

pub returns-in-List-clause-own : goal.returns-in-List-clause-own
returns-in-List-clause-own c = own_as (ap value_of c.in-List.ensures) (outside tt)

pub returns-in-Bool-clause-own : goal.returns-in-Bool-clause-own
returns-in-Bool-clause-own c = own_as (ap value_of c.in-Bool.ensures) (outside tt)

pub returns-in-Int-clause-own : goal.returns-in-Int-clause-own
returns-in-Int-clause-own c = own_as (ap value_of c.in-Int.ensures) (outside tt)

pub returns-in-Bits-clause-own : goal.returns-in-Bits-clause-own
returns-in-Bits-clause-own c = own_as (ap value_of c.in-Bits.ensures.1) (outside tt)

pub returns-in-Octets-clause-own : goal.returns-in-Octets-clause-own
returns-in-Octets-clause-own c = own_as (ap value_of c.in-Octets.ensures.1) (outside tt)

pub returns-in-Text-clause-own : goal.returns-in-Text-clause-own
returns-in-Text-clause-own c = own_as (ap value_of c.in-Text.ensures.1) (outside tt)

pub returns-in-Null-clause-own : goal.returns-in-Null-clause-own
returns-in-Null-clause-own c = own_as (ap value_of c.in-Null.ensures) (outside tt)

pub returns-in-Oid-clause-own : goal.returns-in-Oid-clause-own
returns-in-Oid-clause-own c = own_as (ap value_of c.in-Oid.ensures) (outside tt)

pub returns-in-RelativeOid-clause-own : goal.returns-in-RelativeOid-clause-own
returns-in-RelativeOid-clause-own c = own_as (ap value_of c.in-RelativeOid.ensures) (outside tt)
