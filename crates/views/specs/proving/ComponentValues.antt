-- The value of a component is that of its tree.
use Rattle.std.proofs.Common.{◌≡◌, ℕ, Bool, true, false, refl, Option, Some, option_map}
use Rattle.std.specs.Prelude.{◌==◌, cond}
use Rattle.asn_base.specs.Abstract.{AbstractValue}
use Rattle.views.specs.Tree.{ViewMembers, ViewTree, no_member, member, component, component_value, value_of}

pub value_at : (ms : ViewMembers) (i : ℕ) → component_value ms i ≡ option_map value_of (component ms i)
value_at no_member i = refl
value_at (member k t ms) i = by (k == i) (component_value ms i) (component ms i) (value_at ms i)
  where
    by : (b : Bool) (o : Option AbstractValue) (p : Option ViewTree)
        → o ≡ option_map value_of p
        → cond b (Some (value_of t)) o ≡ option_map value_of (cond b (Some t) p)
    by true o p e = refl
    by false o p e = e
