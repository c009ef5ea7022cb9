use Rattle.std.proofs.Common.{map, ap, ◌∙◌}
use Rattle.std.specs.Prelude.{Some, option_map}
use Rattle.asn_base.specs.Abstract.{abstract, row_of_options}
use Rattle.codec_machine.proofs.Places.{left_out_of, needed_field, no_field_there}
use Rattle.codec_machine.proofs.value_parts.written_at.Goals as goal

pub returns-then-is_left_out-clause-ok : goal.returns-then-is_left_out-clause-ok
returns-then-is_left_out-clause-ok c = left_out_of (row_of_options (map (option_map abstract) c.args.values.now)) c.requires (c.in-Ok.ensures.ok ∙ ap (λ q. Some (option_map (λ w. abstract w.now) q)) c.in-Some.is) c.if-is_left_out.ensures

pub returns-in-Err-clause-refused : goal.returns-in-Err-clause-refused
returns-in-Err-clause-refused c = no_field_there c.requires c.in-Err.ensures.refused

pub returns-else-may_be_absent-clause-refused : goal.returns-else-may_be_absent-clause-refused
returns-else-may_be_absent-clause-refused c =
    needed_field c.requires (c.in-Ok.ensures.ok ∙ ap (λ q. Some (option_map (λ w. abstract w.now) q)) c.in-None.is)
    c.if-may_be_absent.ensures
