use Rattle.std.proofs.Common.{arith, ap, length, sym, ◌∙◌}
use Rattle.std.specs.Prelude.{slice_get}
use Rattle.std.proofs.lemmas.List.{length-map}
use Rattle.names.specs.proving.Distinct.{item_at}
use Rattle.type_table.specs.declared.table.TypeNode.{TypeNode}
use Rattle.type_table.specs.Seen.{kind_of, type_of}
use Rattle.extensions.proofs.types.target.Goals as goal

pub returns : goal.returns
returns c =
    let core = c.core-core.result.index in
    let w = c.index-types-core.result in
    let many = ap length c.types.ensures.types in
    let same = length-map c.types.result.now type_of in
    let less = c.core-core.ensures.there in
    let there = ap (λ q. slice_get q core) (sym c.types.ensures.types)
    ∙ item_at type_of c.types.result.now core w (omega (arith, many, same, less)) c.index-types-core.is in
    record {
      core = core;
      type = type_of w;
      chain = c.core-core.ensures.core;
      there = there;
      kind = ap (λ (x : TypeNode). kind_of x.shape) c.index-types-core.is;
      within = c.home-home.result.module.now;
      assigns = c.home-home.result.name.now;
      is_so = c.home-home.ensures (type_of w) there;
    }
