-- Tags of one class and number are equal.
use Rattle.std.proofs.Common.{◌≡◌, ℕ, ◌<◌, refl, ap, subst, ◌∙◌, arith}
use Rattle.std.proofs.Props.{props}
use Rattle.asn_base.specs.declared.tag.Class.{Class}
use Rattle.asn_base.specs.declared.tag.Class.TheVariants.{Universal, Application, Context, Private}
use Rattle.asn_base.specs.declared.tag.Tag.{Tag}
use Rattle.asn_base.specs.Tags.{class_rank}

pub class_same : (c d : Class) → class_rank c ≡ class_rank d → c ≡ d
class_same Universal Universal e = refl
class_same Universal Application e = absurd (omega (arith, e))
class_same Universal Context e = absurd (omega (arith, e))
class_same Universal Private e = absurd (omega (arith, e))
class_same Application Universal e = absurd (omega (arith, e))
class_same Application Application e = refl
class_same Application Context e = absurd (omega (arith, e))
class_same Application Private e = absurd (omega (arith, e))
class_same Context Universal e = absurd (omega (arith, e))
class_same Context Application e = absurd (omega (arith, e))
class_same Context Context e = refl
class_same Context Private e = absurd (omega (arith, e))
class_same Private Universal e = absurd (omega (arith, e))
class_same Private Application e = absurd (omega (arith, e))
class_same Private Context e = absurd (omega (arith, e))
class_same Private Private e = refl

below_prop : (n : ℕ) → IsProp (n < 2147483648)
below_prop n = hlevel props

reserved_prop : (c : Class) (n : ℕ) → IsProp (c ≡ Universal → 0 < n)
reserved_prop c n = hlevel props

-- a tag from its parts
abbrev made : (c : Class) (n : ℕ) → n < 2147483648 → (c ≡ Universal → 0 < n) → Tag
made c n p r = record { class = c; number = n; in_range = p; not_reserved = r }

pub tag_same : (g f : Tag) → g.class ≡ f.class → g.number ≡ f.number → g ≡ f
tag_same g f e m =
    subst (IsTag f.class) m (subst (λ c. IsTag c g.number) e begun) f.in_range f.not_reserved
  where
    IsTag : Class → ℕ → Type 0
    IsTag c n = (q : n < 2147483648) (t : c ≡ Universal → 0 < n) → g ≡ made c n q t

    begun : IsTag g.class g.number
    begun q t =
        ap (λ z. made g.class g.number z g.not_reserved) (below_prop g.number g.in_range q)
        ∙ ap (λ z. made g.class g.number q z) (reserved_prop g.class g.number g.not_reserved t)
