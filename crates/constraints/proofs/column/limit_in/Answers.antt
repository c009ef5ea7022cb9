use Rattle.std.proofs.Common.{◌<◌, map, length, inr, sym, subst}
use Rattle.std.proofs.lemmas.List.{length-map}
use Rattle.trees.specs.Constraints.{constraint_of}
use Rattle.type_table.specs.Seen.{type_of, kind_of}
use Rattle.resolve.specs.Program.{WrittenProgram}
use Rattle.range_ends.specs.Cores.{HasKind}
use Rattle.constraints.specs.proving.Limits.{Narrows, IsLimitFault}
use Rattle.constraints.specs.proving.Columns.{IsFault}
use Rattle.constraints.specs.First.{IsLimitWrong}
use Rattle.constraints.proofs.Noting.{all_members}
use Rattle.constraints.proofs.Leaving.{limit_is, fault_is}
use Rattle.constraints.proofs.column.limit_in.Goals as goal

pub returns-in-Ok-limit_of-clause-found : goal.returns-in-Ok-limit_of-clause-found
returns-in-Ok-limit_of-clause-found c =
    let p = c.args.linked.now.program in
    let k = kind_of c.named_core-core.result.1 in
    let M = c.home-home.result.module.now in
    let w = c.written_at-written.result.now in
    let n = subst (λ (q : WrittenProgram). Narrows q.program k M (map constraint_of c.deref.result.now) (length c.deref.result.now) c.in-Ok.start c.in-Ok-limit_of.limit)
    (sym c.requires.same) c.in-Ok-limit_of.ensures.found.0 in
    let m = subst (λ xs. Narrows p k M (map constraint_of xs) (length xs) c.in-Ok.start c.in-Ok-limit_of.limit) c.deref.ensures.value n in
    let o = subst (λ l. Narrows p k M (map constraint_of w.constraints.items) l c.in-Ok.start c.in-Ok-limit_of.limit)
    (sym (length-map w.constraints.items constraint_of)) m in
    limit_is p c.args.ty k M c.home-home.result.name.now (type_of w) c.in-Ok.start c.in-Ok-limit_of.limit c.lemma_whole.ensures
    c.named_core-core.ensures.kind c.written_at-written.ensures.there (c.home-home.ensures (type_of w) c.written_at-written.ensures.there) c.in-Ok.ensures
    (λ x m. all_members (λ y. y < 128) c.in-Ok.start.codes x c.in_order.ensures.below_128 m) o c.in-Ok-limit_of.ensures.found.1

pub returns-in-Err-limit_of-clause-found : goal.returns-in-Err-limit_of-clause-found
returns-in-Err-limit_of-clause-found c =
    let p = c.args.linked.now.program in
    let k = kind_of c.named_core-core.result.1 in
    let M = c.home-home.result.module.now in
    let w = c.written_at-written.result.now in
    let n = subst (λ (q : WrittenProgram). IsLimitFault q.program k M (map constraint_of c.deref.result.now) c.in-Ok.start c.in-Err-limit_of.wrong)
    (sym c.requires.same) c.in-Err-limit_of.ensures.found in
    let m = subst (λ xs. IsLimitFault p k M (map constraint_of xs) c.in-Ok.start c.in-Err-limit_of.wrong) c.deref.ensures.value n in
    subst (IsFault p) (sym c.fault_at.ensures)
    (fault_is p c.args.ty k M c.home-home.result.name.now (type_of w) c.in-Ok.start c.in-Err-limit_of.wrong c.lemma_whole.ensures
    c.named_core-core.ensures.kind c.written_at-written.ensures.there (c.home-home.ensures (type_of w) c.written_at-written.ensures.there) c.in-Ok.ensures
    (λ x i. all_members (λ y. y < 128) c.in-Ok.start.codes x c.in_order.ensures.below_128 i) m)

pub returns-in-Err-limit_of-clause-first : goal.returns-in-Err-limit_of-clause-first
returns-in-Err-limit_of-clause-first c =
    let p = c.args.linked.now.program in
    let k = kind_of c.named_core-core.result.1 in
    let M = c.home-home.result.module.now in
    let w = c.written_at-written.result.now in
    let n = subst (λ (q : WrittenProgram). IsLimitWrong q.program k M c.deref.result.now c.in-Ok.start w.at c.in-Err-limit_of.wrong)
    (sym c.requires.same) c.in-Err-limit_of.ensures.first in
    let m = subst (λ xs. IsLimitWrong p k M xs c.in-Ok.start w.at c.in-Err-limit_of.wrong) c.deref.ensures.value n in
    inr (record {
      written = w;
      there = c.written_at-written.ensures.written;
      kind = k;
      of_kind = c.named_core-core.ensures.kind;
      within = M;
      assigns = c.home-home.result.name.now;
      is_so = c.home-home.ensures (type_of w) c.written_at-written.ensures.there;
      start = c.in-Ok.start;
      starts = c.in-Ok.ensures;
      wrong = c.in-Err-limit_of.wrong;
      fault = m;
      reported = c.fault_at.ensures;
    })

pub limit_of-requires : goal.limit_of-requires
limit_of-requires c = record {
  core = subst (λ (q : WrittenProgram). HasKind q.program.types c.named_core-core.result.0 (kind_of c.named_core-core.result.1)) c.requires.same
      c.named_core-core.ensures.core;
}
