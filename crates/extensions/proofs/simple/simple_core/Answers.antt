use Rattle.std.proofs.Common.{map, subst, sym}
use Rattle.asn_base.specs.Types as types
use Rattle.settled.specs.schema_of.SchemaOf as schema_of
use Rattle.trees.specs.Types.{a_bit_string, bit_of, plain_of}
use Rattle.type_table.specs.Lists.{IsSoundPlain}
use Rattle.type_table.specs.Table.{simple}
use Rattle.extensions.specs.proving.Cores.{IsCoreOf}
use Rattle.extensions.proofs.simple.simple_core.Goals as goal

pub bit_string-requires-clause-sound : goal.bit_string-requires-clause-sound
bit_string-requires-clause-sound c =
    subst (λ v. IsSoundPlain (a_bit_string (map bit_of v))) (sym c.deref-in-BitString.ensures.value)
    (subst (λ s. IsSoundPlain (plain_of s)) c.in-BitString.is c.requires.sound)

pub returns-in-Boolean : goal.returns-in-Boolean
returns-in-Boolean c M =
    subst (λ s. IsCoreOf c.args.bounded.now.program c.args.ty.index M (simple (plain_of s)) types.a_boolean) (sym c.in-Boolean.is)
    (record { kind = schema_of.boolean; constrained = tt; items = tt })

pub returns-in-Null : goal.returns-in-Null
returns-in-Null c M =
    subst (λ s. IsCoreOf c.args.bounded.now.program c.args.ty.index M (simple (plain_of s)) types.a_null) (sym c.in-Null.is)
    (record { kind = schema_of.null; constrained = tt; items = tt })

pub returns-in-ObjectIdentifier : goal.returns-in-ObjectIdentifier
returns-in-ObjectIdentifier c M =
    subst (λ s. IsCoreOf c.args.bounded.now.program c.args.ty.index M (simple (plain_of s)) types.an_object_identifier) (sym c.in-ObjectIdentifier.is)
    (record { kind = schema_of.object_identifier; constrained = tt; items = tt })

pub returns-in-RelativeOid : goal.returns-in-RelativeOid
returns-in-RelativeOid c M =
    subst (λ s. IsCoreOf c.args.bounded.now.program c.args.ty.index M (simple (plain_of s)) types.a_relative_oid) (sym c.in-RelativeOid.is)
    (record { kind = schema_of.relative_oid; constrained = tt; items = tt })
