use Rattle.std.proofs.Common.{ap}
use Rattle.views.specs.Tree.{element_values, value_of}
use Rattle.ber_reader.specs.Judged.{kind_at, none_wrong}
use Rattle.ber_reader.proofs.Judging.{alternative_limit, choice_is, choice_lacks, fields_limit, list_is, list_lacks, list_limit, parts_as}
use Rattle.ber_reader.proofs.wrong.wrong_member.Goals as goal

pub wrong_field-requires : goal.wrong_field-requires
wrong_field-requires c = fields_limit (ap value_of c.in-Fields.ensures) c.requires

pub returns-in-Fields : goal.returns-in-Fields
returns-in-Fields c = parts_as (kind_at c.args.code.now c.args.id.index) (ap value_of c.in-Fields.ensures) c.wrong_field.ensures

pub wrong_element-requires : goal.wrong_element-requires
wrong_element-requires c = list_limit (ap value_of c.in-List.ensures) c.requires

pub returns-in-Some : goal.returns-in-Some
returns-in-Some c =
    let k = kind_at c.args.code.now c.args.id.index in
    parts_as k (ap value_of c.in-List.ensures) (list_is c.in-Some.ty (element_values c.in-List.members) k c.in-Some.ensures c.wrong_element.ensures)

pub returns-in-None : goal.returns-in-None
returns-in-None c =
    let k = kind_at c.args.code.now c.args.id.index in
    parts_as k (ap value_of c.in-List.ensures) (list_lacks (element_values c.in-List.members) k c.in-None.ensures)

pub if_wrong-requires : goal.if_wrong-requires
if_wrong-requires c = alternative_limit (ap value_of c.in-Alternative.ensures) c.requires

pub returns-in-Some-alternative_at : goal.returns-in-Some-alternative_at
returns-in-Some-alternative_at c =
    let k = kind_at c.args.code.now c.args.id.index in
    parts_as k (ap value_of c.in-Alternative.ensures)
    (choice_is c.in-Some-alternative_at.ty c.in-Alternative.index (value_of c.in-Alternative.inner) k c.in-Some-alternative_at.ensures c.if_wrong.ensures)

pub returns-in-None-alternative_at : goal.returns-in-None-alternative_at
returns-in-None-alternative_at c =
    let k = kind_at c.args.code.now c.args.id.index in
    parts_as k (ap value_of c.in-Alternative.ensures) (choice_lacks c.in-Alternative.index (value_of c.in-Alternative.inner) k c.in-None-alternative_at.ensures)

pub returns-in-Bool : goal.returns-in-Bool
returns-in-Bool c = parts_as (kind_at c.args.code.now c.args.id.index) (ap value_of c.in-Bool.ensures) none_wrong

pub returns-in-Int : goal.returns-in-Int
returns-in-Int c = parts_as (kind_at c.args.code.now c.args.id.index) (ap value_of c.in-Int.ensures) none_wrong

pub returns-in-Enum : goal.returns-in-Enum
returns-in-Enum c = parts_as (kind_at c.args.code.now c.args.id.index) (ap value_of c.in-Enum.ensures) none_wrong

pub returns-in-Bits : goal.returns-in-Bits
returns-in-Bits c = parts_as (kind_at c.args.code.now c.args.id.index) (ap value_of c.in-Bits.ensures.1) none_wrong

pub returns-in-Octets : goal.returns-in-Octets
returns-in-Octets c = parts_as (kind_at c.args.code.now c.args.id.index) (ap value_of c.in-Octets.ensures.1) none_wrong

pub returns-in-Text : goal.returns-in-Text
returns-in-Text c = parts_as (kind_at c.args.code.now c.args.id.index) (ap value_of c.in-Text.ensures.1) none_wrong

pub returns-in-Null : goal.returns-in-Null
returns-in-Null c = parts_as (kind_at c.args.code.now c.args.id.index) (ap value_of c.in-Null.ensures) none_wrong

pub returns-in-Oid : goal.returns-in-Oid
returns-in-Oid c = parts_as (kind_at c.args.code.now c.args.id.index) (ap value_of c.in-Oid.ensures) none_wrong

pub returns-in-RelativeOid : goal.returns-in-RelativeOid
returns-in-RelativeOid c = parts_as (kind_at c.args.code.now c.args.id.index) (ap value_of c.in-RelativeOid.ensures) none_wrong
