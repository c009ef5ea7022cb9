use Rattle.std.proofs.Common.{◌≡◌, sym, ap, ◌∙◌, map}
use Rattle.asn_base.specs.Seen.{alternative_of, kind_of}
use Rattle.asn_base.specs.Types.{a_choice}
use Rattle.asn_base.proofs.FirstTags.{choice_piece}
use Rattle.asn_base.proofs.first_tags.add_choice.Goals as goal

pub returns-in_ok-add_heads-in-Choice-2 : goal.returns-in_ok-add_heads-in-Choice-2
returns-in_ok-add_heads-in-Choice-2 c =
    let root = c.as_slice.result.now in
    let more = c.as_slice-in-Choice.result.now in
    let k : kind_of c.args.core.now ≡ a_choice (map alternative_of root) c.in-Choice.alternatives.extensible (map alternative_of more) = ap kind_of c.in-Choice.is ∙ ap (λ q. a_choice (map alternative_of q) c.in-Choice.alternatives.extensible (map alternative_of c.in-Choice.alternatives.additions.items)) (sym c.as_slice.ensures.value) ∙ ap (λ q. a_choice (map alternative_of root) c.in-Choice.alternatives.extensible (map alternative_of q)) (sym c.as_slice-in-Choice.ensures.value) in
    choice_piece c.args.types.now c.args.run c.args.keys.now.items c.add_heads.new.keys.items c.add_heads-in-Choice.new.keys.items (map alternative_of root) (map alternative_of more) (kind_of c.args.core.now) c.in-Choice.alternatives.extensible k c.in_ok-add_heads-in-Choice.ensures c.in_ok-add_heads-in-Choice-2.ensures
