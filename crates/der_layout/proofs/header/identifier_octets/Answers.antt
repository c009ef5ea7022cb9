use Rattle.std.proofs.Common.{arith, ◌≡◌, ◌+◌, ◌++◌, ◌∷◌, [], ◌<◌, ◌^◌, length, ap, ◌∙◌, length-append}
use Rattle.encodings.specs.Header.{septets}
use Rattle.der_layout.proofs.Room.{few_septets}
use Rattle.der_layout.proofs.header.identifier_octets.Goals as goal

pub push_septets-requires : goal.push_septets-requires
push_septets-requires c =
    let one : length c.push-else-number-lt31.new.self.items ≡ 1 = ap length (c.push-else-number-lt31.ensures.items ∙ ap (λ q. q ++ c.first_octet-else-number-lt31.result ∷ []) c.new-out.ensures) in
    let small : c.args.tag.number < 2 ^ 32 = (let r = c.args.tag.in_range in omega (arith, r)) in
    omega (arith, one, few_septets c.args.tag.number small)

pub returns-else-number-lt31-clause-few : goal.returns-else-number-lt31-clause-few
returns-else-number-lt31-clause-few c =
    let one : length c.push-else-number-lt31.new.self.items ≡ 1 = ap length (c.push-else-number-lt31.ensures.items ∙ ap (λ q. q ++ c.first_octet-else-number-lt31.result ∷ []) c.new-out.ensures) in
    let small : c.args.tag.number < 2 ^ 32 = (let r = c.args.tag.in_range in omega (arith, r)) in
    let all : length c.push_septets.new.out.items ≡ length c.push-else-number-lt31.new.self.items + length (septets c.args.tag.number) = ap length c.push_septets.ensures ∙ length-append c.push-else-number-lt31.new.self.items (septets c.args.tag.number) in
    omega (arith, one, all, few_septets c.args.tag.number small)
