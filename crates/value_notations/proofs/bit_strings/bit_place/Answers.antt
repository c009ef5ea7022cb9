use Rattle.std.proofs.Common.{rules, ◌≤◌, ◌∙◌, sym}
use Rattle.names.specs.proving.Distinct.{under_some}
use Rattle.type_table.specs.Seen.{kind_of}
use Rattle.resolve.specs.Listed.{bits_listed}
use Rattle.value_notations.proofs.bit_strings.bit_place.Goals as goal

pub overflow_cast-result : goal.overflow_cast-result
overflow_cast-result c =
    let s = under_some c.args.name.now (bits_listed (kind_of c.args.shape.now)) c.in-Some.place (sym c.bit.ensures ∙ c.in-Some.is) in
    let near : c.in-Some.place ≤ 65535 = c.requires.sound.2 s.0 (c.args.name.now, c.in-Some.place) s.1 in
    search rules
