use Rattle.std.proofs.Common.{map, sym, ap, subst}
use Rattle.std.specs.Prelude.{◌↔◌, IsTrue}
use Rattle.asn_base.specs.Abstract.{placed, row_of_options}
use Rattle.asn_base.specs.Additions.{without_additions}
use Rattle.asn_base.specs.Seen.{component_of, kind_of}
use Rattle.asn_base.specs.Typed.{AreComponents}
use Rattle.asn_base.proofs.Judged.{few_of}
use Rattle.asn_base.proofs.Rooted.{are_of, root_sequence, root_set}
use Rattle.asn_base.proofs.additions.are_of_type.Goals as goal

pub are_in_root-requires : goal.are_in_root-requires
are_in_root-requires g c =
    let o = are_of c.args.known.types.now c.args.id.index (ap kind_of c.in-Sequence.is) (ap (map component_of) (sym c.as_slice.ensures.value)) c.requires.of in
    record {
      known = c.requires.known;
      ready = c.requires.ready;
      few = few_of c.args.id.index c.as_slice.result.now c.requires.ready o;
      of = o;
    }

pub are_in_root-requires-in-Set : goal.are_in_root-requires-in-Set
are_in_root-requires-in-Set g c =
    let o = are_of c.args.known.types.now c.args.id.index (ap kind_of c.in-Set.is) (ap (map component_of) (sym c.as_slice-in-Set.ensures.value)) c.requires.of in
    record {
      known = c.requires.known;
      ready = c.requires.ready;
      few = few_of c.args.id.index c.as_slice-in-Set.result.now c.requires.ready o;
      of = o;
    }

pub returns-in-Sequence : goal.returns-in-Sequence
returns-in-Sequence g c =
    let row = row_of_options (placed c.args.size (λ i. g.N.ValueNode.part_at c.args.fields i)) in
    root_sequence row (ap kind_of c.in-Sequence.is)
    (subst (λ q. IsTrue c.are_in_root.result ↔ AreComponents c.args.known.types.now c.args.known.levels (map component_of q) (without_additions (map component_of q) row)) c.as_slice.ensures.value c.are_in_root.ensures)

pub returns-in-Set : goal.returns-in-Set
returns-in-Set g c =
    let row = row_of_options (placed c.args.size (λ i. g.N.ValueNode.part_at c.args.fields i)) in
    root_set row (ap kind_of c.in-Set.is)
    (subst (λ q. IsTrue c.are_in_root-in-Set.result ↔ AreComponents c.args.known.types.now c.args.known.levels (map component_of q) (without_additions (map component_of q) row)) c.as_slice-in-Set.ensures.value c.are_in_root-in-Set.ensures)
