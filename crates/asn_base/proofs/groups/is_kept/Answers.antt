use Rattle.std.proofs.Common.{◌≡◌, ap, map, subst, sym}
use Rattle.std.specs.Prelude.{◌↔◌, None, Some, option_map}
use Rattle.asn_base.specs.Abstract.{row_of_options}
use Rattle.asn_base.specs.Decided.{IsDue}
use Rattle.asn_base.specs.Seen.{component_of}
use Rattle.asn_base.specs.Typed.{HasOfGroup}
use Rattle.asn_base.proofs.Bracketed.{kept_there}
use Rattle.asn_base.proofs.Judged.{row_in}
use Rattle.asn_base.proofs.Parts.{kept_some, kept_none}
use Rattle.asn_base.proofs.groups.is_kept.Goals as goal

pub returns-in-Some : goal.returns-in-Some
returns-in-Some g c =
    kept_there (λ n. HasOfGroup n (map component_of c.args.components.now) (row_of_options (row_in c.args.components.now (λ i. g.N.ValueNode.part_at c.args.fields.now i)))) (component_of c.args.component.now) (ap (option_map g.N.ValueNode.value_of) c.in-Some.is)

pub returns-in-Some-due_group : goal.returns-in-Some-due_group
returns-in-Some-due_group g c =
    kept_some
    (λ n. HasOfGroup n (map component_of c.args.components.now) (row_of_options (row_in c.args.components.now (λ i. g.N.ValueNode.part_at c.args.fields.now i))))
    (λ n. IsDue n (component_of c.args.component.now) (option_map g.N.ValueNode.value_of c.args.found.now))
    c.in-Some-due_group.number
    (λ h. subst (λ q. Some c.in-Some-due_group.number ≡ Some h ↔ IsDue h (component_of c.args.component.now) (option_map g.N.ValueNode.value_of q)) (sym c.in-None.is) (c.in-Some-due_group.ensures h))
    c.has_of_group.ensures

pub returns-in-None-due_group : goal.returns-in-None-due_group
returns-in-None-due_group g c =
    kept_none
    (λ n. HasOfGroup n (map component_of c.args.components.now) (row_of_options (row_in c.args.components.now (λ i. g.N.ValueNode.part_at c.args.fields.now i))))
    (λ n. IsDue n (component_of c.args.component.now) (option_map g.N.ValueNode.value_of c.args.found.now))
    (λ h. subst (λ q. None ≡ Some h ↔ IsDue h (component_of c.args.component.now) (option_map g.N.ValueNode.value_of q)) (sym c.in-None.is) (c.in-None-due_group.ensures h))
