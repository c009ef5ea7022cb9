use Rattle.std.proofs.Common.{refl, sym, ap, ◌∙◌}
use Rattle.asn_base.specs.Seen.{alternative_of, kind_of}
use Rattle.value_builders.specs.Named.{kind_at}
use Rattle.views.specs.Tree.{alternative_in}
use Rattle.named_views.specs.Typed.{Typed}
use Rattle.named_views.proofs.part.NamedValueRef.alternative.Goals as goal

pub returns : goal.returns
returns c = record {
  kind = kind_of c.in-Some.core.now;
  of = ap (λ (q : Typed). kind_at q.schema q.type) (sym c.self.view_is) ∙ c.in-Some.ensures.is;
  number = c.in-Some-alternative.number;
  chosen = ap (λ (q : Typed). alternative_in q.tree) (sym c.self.view_is) ∙ sym c.in-Some-alternative.ensures;
  alternative = alternative_of c.in-Some-alternative_at.alternative.now;
  at = c.in-Some-alternative_at.ensures;
  named = c.as_str.ensures.value;
  type = refl;
  schema = ap (λ (q : Typed). q.schema) c.self.view_is;
}
