-- Whether a value is the same as a DEFAULT.
use Rattle.std.proofs.Common.{◌≡◌, Bool, true, false, List, refl, sym, subst, ◌∙◌}
use Rattle.std.specs.Prelude.{◌↔◌, IsTrue}
use Rattle.asn_base.specs.Abstract.{AbstractValue}
use Rattle.asn_base.specs.Types.{Presence, mandatory, optional, default, addition, Component, Resolved}
use Rattle.asn_base.specs.Same.{Alike, Same}
use Rattle.asn_base.specs.Schemas.{HasValue}
use Rattle.asn_base.specs.Typed.{IsValueWithoutNodes}
use Rattle.packed_code.specs.Routines.{has_default}
use Rattle.packed_encodings.specs.Computed.{DecidesDefaults, is_default, same_within}

default_same : {d e : AbstractValue} → default d ≡ default e → d ≡ e
default_same h = cc

never : IsTrue false → ⊥
never e = cc

pub same_as_default : (s : List Resolved) (c : Component) (v d : AbstractValue) (b : Bool) → DecidesDefaults s (is_default s) → HasValue s c → IsValueWithoutNodes s c.type v → c.presence ≡ default d → IsTrue b ↔ Same s c.type v d → b ≡ is_default s c v
same_as_default s c v d true t h l e a = sym (t.is_default 64 c v h l (d, e, (a.0 refl).are_alike))
same_as_default s c v d false t h l e a = sym (t.no_default 64 c v h l (λ i. never (a.1 (record { first = l; second = (h d e).shaped; are_alike = subst (λ q. Alike s c.type v q) (default_same (sym i.1 ∙ e)) i.2 }))))

pub no_default : (s : List Resolved) (c : Component) (v : AbstractValue) → has_default c.presence ≡ false → is_default s c v ≡ false
no_default s c v e = by c.presence e
  where
    by : (p : Presence) → has_default p ≡ false → elim p [ default d ↦ same_within 64 s c.type v d | mandatory ↦ false | optional ↦ false | addition o g ↦ false ] ≡ false
    by mandatory e = refl
    by optional e = refl
    by (default d) e = absurd (cc)
    by (addition o g) e = refl
