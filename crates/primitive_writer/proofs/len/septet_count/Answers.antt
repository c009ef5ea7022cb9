use Rattle.std.proofs.Common.{arith, ◌≡◌, ◌++◌, length, ap, ◌∙◌}
use Rattle.encodings.specs.Header.{septets}
use Rattle.primitive_writer.proofs.Digits.{most_septets, most_arcs}
use Rattle.primitive_writer.proofs.len.septet_count.Goals as goal

pub push_septets-requires : goal.push_septets-requires
push_septets-requires c = omega (arith, ap length c.new-out.ensures, most_septets c.args.number c.ranges.number.fits)

pub returns-clause-most : goal.returns-clause-most
returns-clause-most c =
    let e : length c.push_septets.new.out.items ≡ length (septets c.args.number) = ap length (c.push_septets.ensures ∙ ap (λ q. q ++ septets c.args.number) c.new-out.ensures) in
    omega (arith, e, c.len.ensures.value, most_septets c.args.number c.ranges.number.fits)

pub returns-clause-few : goal.returns-clause-few
returns-clause-few c = λ small.
    let e : length c.push_septets.new.out.items ≡ length (septets c.args.number) = ap length (c.push_septets.ensures ∙ ap (λ q. q ++ septets c.args.number) c.new-out.ensures) in
    omega (arith, e, c.len.ensures.value, most_arcs c.args.number small)
