use Rattle.std.proofs.Common.{◌≡◌, sym, ap, subst}
use Rattle.std.specs.Prelude.{Some, option_map}
use Rattle.asn_base.specs.declared.schema.Component.{Component}
use Rattle.asn_base.specs.Seen.{component_of, presence_of}
use Rattle.asn_base.specs.Typed.{group_of}
use Rattle.asn_base.proofs.Bracketed.{absent_of}
use Rattle.asn_base.proofs.Judged.{sought_found, sought_more, sought_other, sought_over}
use Rattle.asn_base.proofs.Leaves.{yes, no}
use Rattle.asn_base.proofs.groups.has_of_group.Goals as goal
use Rattle.asn_base.proofs.groups.has_of_group.Goals.{then-is_of_group+in_default, else-is_of_group}

pub returns-in-Some : goal.returns-in-Some
returns-in-Some g c =
    yes (sought_found c.loop-i.invariant c.index-components-i.result c.loop-i-test.true c.index-components-i.is c.in-Some.ensures.found
    (subst (λ (q : Component). group_of (presence_of q.presence) ≡ Some c.args.number) (sym c.index-components-i.is) (c.is_of_group.ensures.0 c.if-is_of_group.true)))

pub loop-i-preserved : goal.loop-i-preserved
loop-i-preserved g c = elim c.if-is_of_group.branch [
  | then-is_of_group+in_default w ↦
      rw (w.left-is)
      (sought_more (λ i. g.N.ValueNode.part_at w.take_component.new.fields i) c.loop-i.invariant c.index-components-i.result c.loop-i-test.true c.index-components-i.is w.take_component.ensures.found w.take_component.ensures.later (absent_of c.args.number (component_of c.index-components-i.result) (ap (option_map g.N.ValueNode.value_of) (sym w.in_default.is))))
  | else-is_of_group w ↦
      rw (w.left-is)
      (sought_other c.loop-i.invariant c.index-components-i.result c.loop-i-test.true c.index-components-i.is
      (λ h. let e = c.is_of_group.ensures.1 (subst (λ (q : Component). group_of (presence_of q.presence) ≡ Some c.args.number) c.index-components-i.is h) in let f = w.if-is_of_group.false in cc))
]

pub returns : goal.returns
returns g c = no (sought_over c.loop-i.invariant c.loop-i-test.false)
