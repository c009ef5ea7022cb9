-- Components without version brackets.
use Rattle.std.proofs.Common.{◌≡◌, ℕ, inl, inr, List, [], ◌∷◌, sym, ◌∙◌}
use Rattle.std.specs.Prelude.{Some, None}
use Rattle.std.specs.List.{AllByRecursion}
use Rattle.asn_base.specs.Abstract.{Row, end, absent, present}
use Rattle.asn_base.specs.Types.{Component}
use Rattle.asn_base.specs.Typed.{group_of, HasOfGroup, GroupsAreWhole}

none_of_group : (g : ℕ) (cs : List Component) (vs : Row) → AllByRecursion (λ c. group_of c.presence ≡ None) cs → HasOfGroup g cs vs → ⊥
none_of_group g [] end a h = h
none_of_group g [] (absent vs) a h = h
none_of_group g [] (present v vs) a h = h
none_of_group g (c ∷ cs) end a h = h
none_of_group g (c ∷ cs) (absent vs) a h = none_of_group g cs vs a.1 h
none_of_group g (c ∷ cs) (present v vs) a (inl h) = let e : None ≡ Some g = sym a.0 ∙ h in cc
none_of_group g (c ∷ cs) (present v vs) a (inr h) = none_of_group g cs vs a.1 h

-- without groups all are whole
pub no_groups : (cs : List Component) (vs : Row) → AllByRecursion (λ c. group_of c.presence ≡ None) cs → GroupsAreWhole cs vs
no_groups cs vs a = λ g h l. none_of_group g cs vs a h
