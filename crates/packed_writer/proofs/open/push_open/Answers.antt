use Rattle.std.proofs.Common.{subst, sym, ◌∙◌}
use Rattle.std.specs.Int.Digits.{AllBelowBase}
use Rattle.packed_encodings.specs.Padding.{Padded}
use Rattle.packed_writer.proofs.Filling.{opened}
use Rattle.packed_writer.proofs.open.push_open.Goals as goal

pub returns : goal.returns
returns c =
    opened c.function_laws.ensures.open_type c.args.inner c.as_slice-2.result.now c.args.out.now c.push_counted_octets.new.out
    (subst (Padded c.args.inner) (sym c.as_slice-2.ensures.value) c.in_ok-octets.ensures) (subst (AllBelowBase 256) (c.as_slice.ensures.value ∙ sym c.as_slice-2.ensures.value) c.are_octets.ensures) c.in_ok-push_counted_octets.ensures
