use Rattle.std.proofs.Common.{length, sym, subst}
use Rattle.type_table.specs.Walks.{IsWithin}
use Rattle.range_ends.specs.proving.Steps.{listed, AreReferred}
use Rattle.range_ends.proofs.References.{refers_within}
use Rattle.range_ends.proofs.reference_table.ReferenceTable.of.Goals as goal

pub farthest-requires : goal.farthest-requires
farthest-requires c = record {
  within = subst (λ os. IsWithin (listed os) (length os)) (sym c.deref.ensures.value)
      (refers_within c.args.linked.now.program c.in_ok-target.target.items c.lemma_whole.ensures c.in_ok-target.ensures);
}

pub all_found-requires : goal.all_found-requires
all_found-requires c = subst (AreReferred c.args.linked.now.program) (sym c.deref-2.ensures.value) c.in_ok-target.ensures
