use Rattle.std.proofs.Common.{Some, sym, ap, ◌∙◌}
use Rattle.asn_base.specs.Seen.{kind_of}
use Rattle.value_builders.specs.Named.{kind_at}
use Rattle.views.specs.Tree.{members_in}
use Rattle.named_views.specs.Typed.{Typed}
use Rattle.named_views.proofs.part.NamedValueRef.elements.Goals as goal

pub returns : goal.returns
returns c = record {
  kind = kind_of c.in-Some.core.now;
  of = ap (λ (q : Typed). kind_at q.schema q.type) (sym c.self.view_is) ∙ c.in-Some.ensures.is;
  element = c.in-Some-element_of.ensures ∙ ap Some (sym c.of.ensures.of_type);
  are = c.of.ensures.members ∙ c.members.ensures ∙ ap (λ (q : Typed). members_in q.tree) c.self.view_is;
  schema = c.of.ensures.schema ∙ ap (λ (q : Typed). q.schema) c.self.view_is;
}
