use Rattle.std.proofs.Common.{refl}
use Rattle.encodings.specs.declared.leaf_kind.LeafKind.TheVariants as leaves
use Rattle.der_check.proofs.Leafs.{of_kind, true_breaks, unused_breaks, as_bits, named_unused, named_last, other_breaks}
use Rattle.der_check.proofs.leaf.breach_of.Goals as goal

pub returns-in-Boolean : goal.returns-in-Boolean
returns-in-Boolean c = of_kind c.in-Boolean.is refl (λ v h n. true_breaks h n)

pub returns-in-BitString : goal.returns-in-BitString
returns-in-BitString c = of_kind c.in-BitString.is c.at_last.ensures (λ v h n. unused_breaks h n)

pub returns-then-is_distinguished : goal.returns-then-is_distinguished
returns-then-is_distinguished c = of_kind c.in-NamedBits.is c.at_last-then-is_distinguished.ensures (λ v h n. named_last h ((c.is_distinguished.ensures v (as_bits h)).0 c.if-is_distinguished.true) n)

pub returns-else-is_distinguished : goal.returns-else-is_distinguished
returns-else-is_distinguished c = of_kind c.in-NamedBits.is c.at_last-else-is_distinguished.ensures (λ v h n. named_unused h (λ q. let y = (c.is_distinguished.ensures v (as_bits h)).1 q in let f = c.if-is_distinguished.false in cc))

pub returns-in-Integer : goal.returns-in-Integer
returns-in-Integer c = of_kind c.in-Integer.is refl (other_breaks leaves.Integer tt)

pub returns-in-Enumerated : goal.returns-in-Enumerated
returns-in-Enumerated c = of_kind c.in-Enumerated.is refl (other_breaks leaves.Enumerated tt)

pub returns-in-OctetString : goal.returns-in-OctetString
returns-in-OctetString c = of_kind c.in-OctetString.is refl (other_breaks leaves.OctetString tt)

pub returns-in-Null : goal.returns-in-Null
returns-in-Null c = of_kind c.in-Null.is refl (other_breaks leaves.Null tt)

pub returns-in-ObjectIdentifier : goal.returns-in-ObjectIdentifier
returns-in-ObjectIdentifier c = of_kind c.in-ObjectIdentifier.is refl (other_breaks leaves.ObjectIdentifier tt)

pub returns-in-RelativeOid : goal.returns-in-RelativeOid
returns-in-RelativeOid c = of_kind c.in-RelativeOid.is refl (other_breaks leaves.RelativeOid tt)

pub returns-in-Utf8String : goal.returns-in-Utf8String
returns-in-Utf8String c = of_kind c.in-Utf8String.is refl (other_breaks leaves.Utf8String tt)

pub returns-in-RestrictedString : goal.returns-in-RestrictedString
returns-in-RestrictedString c = of_kind c.in-RestrictedString.is refl (other_breaks (leaves.RestrictedString _) tt)
