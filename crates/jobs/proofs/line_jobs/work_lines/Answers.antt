use Rattle.std.proofs.Common.{subst, map}
use Rattle.asnc.specs.front_end.Accepted.{Accepted, octets_of}
use Rattle.asnc.specs.named_values.Meant.{NamesType}
use Rattle.jobs.proofs.Unnamed.{not_a_device}
use Rattle.jobs.proofs.line_jobs.work_lines.Goals as goal

-- the job names no type, which is no failure of a device
pub returns-in-Err-check_type-clause-device : goal.returns-in-Err-check_type-clause-device
returns-in-Err-check_type-clause-device g c = λ n e. absurd (not_a_device c.in-Err-check_type.ensures.unnamed e)

-- the texts are accepted, and the sink failed
pub returns-clause-device : goal.returns-clause-device
returns-clause-device g c = λ n e. record {
  program = c.in-Ok.kit.program;
  types = c.in-Ok.kit.types;
  accepted = subst (λ xs. Accepted (map octets_of xs) c.in-Ok.kit.program c.in-Ok.kit.types) c.as_slice.ensures.value
      c.in-Ok.ensures.opened;
  named = subst (λ x. NamesType c.in-Ok.kit.program x) c.as_str.ensures.value c.in-Ok-check_type.ensures.named;
  streamed = c.in-Err-stream.ensures.device n e;
}
