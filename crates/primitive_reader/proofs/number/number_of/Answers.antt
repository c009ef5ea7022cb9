use Rattle.std.proofs.Common.{◌<◌, ◌^◌, pos, negsuc, sym, subst, ap, ◌∙◌, to_z, of_z}
use mir.Syntax.{w128}
use Rattle.primitive_reader.specs.proving.Numbers.{IsNumber}
use Rattle.primitive_reader.proofs.Shortest.{low_within, high_within}
use Rattle.primitive_reader.specs.proving.Shortest.{low_number, high_number}
use Rattle.primitive_reader.proofs.Decoding.{number_within}
use Rattle.primitive_reader.proofs.number.number_of.Goals as goal

pub not_negative-requires : goal.not_negative-requires
not_negative-requires c = subst (λ q. q < 2 ^ 127) (sym c.whole_worth.ensures) (low_within c.args.octets.now c.are_octets.ensures c.requires.short c.requires.few c.if-octets-lt128.true)

pub negative-requires : goal.negative-requires
negative-requires c = subst (λ q. q < 2 ^ 127) (sym c.whole_turned.ensures) (high_within c.args.octets.now c.are_octets.ensures c.requires.short c.requires.few c.if-octets-lt128.false)

pub returns-then-octets-lt128 : goal.returns-then-octets-lt128
returns-then-octets-lt128 c =
    let o = c.args.octets.now in
    subst (λ z. IsNumber (to_z w128 (of_z w128 z)) o) (sym (c.not_negative.ensures ∙ ap pos c.whole_worth.ensures)) (number_within o (pos _) (record {
      number = low_number o c.are_octets.ensures c.requires.short c.if-octets-lt128.true;
      within = low_within o c.are_octets.ensures c.requires.short c.requires.few c.if-octets-lt128.true;
    }))

pub returns-else-octets-lt128 : goal.returns-else-octets-lt128
returns-else-octets-lt128 c =
    let o = c.args.octets.now in
    subst (λ z. IsNumber (to_z w128 (of_z w128 z)) o) (sym (c.negative.ensures ∙ ap negsuc c.whole_turned.ensures)) (number_within o (negsuc _) (record {
      number = high_number o c.are_octets.ensures c.requires.short c.if-octets-lt128.false;
      within = high_within o c.are_octets.ensures c.requires.short c.requires.few c.if-octets-lt128.false;
    }))
