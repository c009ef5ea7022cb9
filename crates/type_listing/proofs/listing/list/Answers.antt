use Rattle.std.proofs.Common.{string_bytes, [], subst, append-nil}
use Rattle.type_listing.specs.Listing.{AreListed}
use Rattle.type_listing.proofs.Listed.{beyond, none_left, step, there, within}
use Rattle.type_listing.proofs.listing.list.Goals as goal

pub loop-index-preserved : goal.loop-index-preserved
loop-index-preserved c =
    λ rest ls.
    let types = c.args.linked.now.program.types in
    let found = there types c.loop-index.index
    (within c.types-types.result.now types c.loop-index.index c.types-types.ensures.types c.loop-index-test.true) in
    step c.args.linked.now.program c.args.code.now c.loop-index.index found.0 c.home.result.module.now
    c.home.result.name.now (string_bytes c.loop-index.out) (string_bytes c.push_type.new.out) rest found.1
    (c.home.ensures found.0 found.1) (c.in_ok-push_type.ensures found.0 found.1) c.loop-index.invariant ls

pub returns : goal.returns
returns c =
    let types = c.args.linked.now.program.types in
    subst (AreListed c.args.linked.now.program c.args.code.now 0 types) (append-nil (string_bytes c.loop-index.out))
    (c.loop-index.invariant []
    (none_left c.args.linked.now.program c.args.code.now types c.loop-index.index c.loop-index.index
    (beyond c.types-types.result.now types c.loop-index.index c.types-types.ensures.types c.loop-index-test.false)))
