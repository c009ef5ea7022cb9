-- What a reference shows of its value, a level at a time.
use Rattle.std.proofs.Common.{arith, ◌≡◌, ℕ, Bool, refl, sym, ap, ◌∙◌, Option, option_map}
use Rattle.asn_base.specs.Shown.{Shows as Shows'}
use Rattle.asn_base.specs.Typed.{members}
use Rattle.asn_base.specs.declared.node.ValueKind.{ValueKind}
use Rattle.asn_base.specs.declared.node.ValueKind.TheVariants as kind
use Rattle.views.specs.Kinds.{Shows}
use Rattle.views.specs.Tree.{ViewMembers, ViewTree, no_member, member, component, component_value, count, element_values, value_of}
use Rattle.views.specs.proving.ComponentValues.{value_at}

pub kind_shown : (t : ViewTree) (k : ValueKind ViewTree ViewMembers ViewMembers) → Shows t k → Shows' value_of component_value element_values (value_of t) k
kind_shown t (kind.Bits unused os) e = (ap value_of e.1, e.2)
kind_shown t (kind.Octets os) e = ap value_of e.1
kind_shown t (kind.Text s) e = ap value_of e.1
kind_shown t q e = ap value_of e

pub value_found : (ms : ViewMembers) (i : ℕ) (o : Option ViewTree) → o ≡ component ms i → option_map value_of o ≡ component_value ms i
value_found ms i o e = ap (option_map value_of) e ∙ sym (value_at ms i)

pub same_value : (ms ns : ViewMembers) (i : ℕ) → component ms i ≡ component ns i → component_value ms i ≡ component_value ns i
same_value ms ns i e = value_at ms i ∙ ap (option_map value_of) e ∙ sym (value_at ns i)

pub as_many : (ms : ViewMembers) → count ms ≡ members (element_values ms)
as_many no_member = refl
as_many (member k t ms) = let e = as_many ms in omega (arith, e)
