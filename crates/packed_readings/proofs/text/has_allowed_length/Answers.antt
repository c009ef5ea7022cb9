use Rattle.std.proofs.Common.{rules, arith, ap, sym, refl, ◌∙◌, ◌≡◌, ℕ}
use Rattle.std.specs.Prelude.{ℤ, pos, ◌+ℤ◌, IfOk, IfErr}
use Rattle.asn_base.specs.Seen.{constraint_of}
use Rattle.packed_readings.proofs.Given.{as_many}
use Rattle.packed_readings.proofs.text.has_allowed_length.Goals as goal

pub returns : goal.returns
returns c = as_many (constraint_of c.args.constraint.now) _ _ c.is_allowed.result (search rules) c.is_allowed.ensures
