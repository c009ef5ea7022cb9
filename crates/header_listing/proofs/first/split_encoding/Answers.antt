use Rattle.std.proofs.Common.{arith, ◌∙◌}
use Rattle.octets.specs.Forms.{is_constructed}
use Rattle.header_listing.proofs.Parts.{first_is, cut_at, identifier_within}
use Rattle.header_listing.proofs.first.split_encoding.Goals as goal

pub returns : goal.returns
returns c =
    first_is c.split_at.result.0.now c.split_at.result.1.now c.split_at-2.result.0.now c.split_at-2.result.1.now
    c.split_at-3.result.0.now c.split_at-3.result.1.now c.requires
    (cut_at _ _ _ _ c.split_at.ensures.front c.split_at.ensures.back)
    (c.split_at.ensures.front_len ∙ c.identifier_len.ensures (is_constructed c.args.header.form))
    (cut_at _ _ _ _ c.split_at-2.ensures.front c.split_at-2.ensures.back)
    (let w = identifier_within c.requires in omega (arith, w, c.identifier_len.ensures (is_constructed c.args.header.form), c.split_at.ensures.front_len, c.split_at-2.ensures.front_len))
    (cut_at _ _ _ _ c.split_at-3.ensures.front c.split_at-3.ensures.back)
    c.split_at-3.ensures.front_len
