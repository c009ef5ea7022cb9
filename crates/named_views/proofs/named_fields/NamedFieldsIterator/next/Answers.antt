use Rattle.std.proofs.Common.{ap, sym, ◌∙◌}
use Rattle.std.specs.Prelude.{slice_get}
use Rattle.asn_base.specs.Seen.{component_of}
use Rattle.views.specs.Tree.{ViewTree, member}
use Rattle.named_views.specs.Typed.{NamedMembers}
use Rattle.named_views.proofs.named_fields.NamedFieldsIterator.next.Goals as goal
use Rattle.asn_base.specs.proving.Lists.{seen_here}

pub returns-clause-steps : goal.returns-clause-steps
returns-clause-steps c = record {
  number = c.in-Some.number;
  are = ap (λ (q : NamedMembers). q.members) (sym c.self.view_is) ∙ c.in-Some.ensures.steps
      ∙ ap (λ (t : ViewTree). member c.in-Some.number t c.next.new.self) (sym c.at-field.ensures.tree);
  component = component_of c.in-Some-get.component.now;
  at = ap (λ (q : NamedMembers). slice_get q.components c.in-Some.number) (sym c.self.view_is)
      ∙ seen_here component_of c.self.inside.components.now c.in-Some.number c.in-Some-get.component.now
      c.in-Some-get.ensures.lookup.3.0 c.in-Some-get.ensures.lookup.1;
  named = c.as_str.ensures.value;
  type = c.at-field.ensures.of_type;
  schema = c.at-field.ensures.schema ∙ ap (λ (q : NamedMembers). q.schema) c.self.view_is;
  same_components = ap (λ (q : NamedMembers). q.components) c.self.view_is;
  same_schema = ap (λ (q : NamedMembers). q.schema) c.self.view_is;
}
