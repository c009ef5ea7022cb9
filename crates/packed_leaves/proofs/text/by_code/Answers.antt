use Rattle.std.proofs.Common.{arith, ◌≤◌, ◌^◌, length, refl, sym, ap, subst, ◌∙◌}
use Rattle.packed_encodings.specs.Computed.{all_below}
use Rattle.packed_leaves.proofs.Texts.{few_bits}
use Rattle.packed_leaves.proofs.text.by_code.Goals as goal

pub are_below-requires-clause-small : goal.are_below-requires-clause-small
are_below-requires-clause-small c = subst (λ q. q ≤ 8) (sym c.width_of_place-width.ensures.is) (few_bits (length c.args.codes.now) (omega (arith, c.requires.few)))

pub returns : goal.returns
returns c = record {
  same = refl;
  wide = c.width_of_place-width.ensures.is;
  few = subst (λ q. q ≤ 8) (sym c.width_of_place-width.ensures.is) (few_bits (length c.args.codes.now) (omega (arith, c.requires.few)));
  tested = c.are_below.ensures ∙ ap (λ q. all_below (2 ^ q) c.args.codes.now) c.width_of_place-width.ensures.is;
}
