use Rattle.std.proofs.Common.{refl, sym, ap, ◌∙◌, option_map}
use Rattle.trees.specs.Names.{reference_module, reference_name}
use Rattle.names.specs.Faults.{fault_module, fault_name}
use Rattle.resolve.proofs.Notations.{after_none}
use Rattle.resolve.proofs.qualified.qualified_name.Goals as goal

pub returns-in_ok-source_location-in-Some : goal.returns-in_ok-source_location-in-Some
returns-in_ok-source_location-in-Some c =
    after_none c.args.linked.now.program.modules c.args.within.now (reference_module c.args.given.now) c.in-Some.field-0.now (reference_name c.args.given.now) (fault_module c.in_ok-source_location-in-Some.source_location) (fault_name c.in_ok-source_location-in-Some.source_location)
    c.args.given.now.at c.in_ok-source_location-in-Some.source_location.at (sym c.module.ensures ∙ ap (option_map (λ x. x.now)) c.in-Some.is) c.in_ok-source_location-in-Some.ensures.within (c.in_ok-source_location-in-Some.ensures.name ∙ c.name.ensures) c.in_ok-source_location-in-Some.ensures.at (λ i r. c.if-is_value.ensures.no refl (i, r))
