use Rattle.std.proofs.Common.{arith, ◌≡◌, length, subst, string_bytes}
use Rattle.trees.specs.Values.{Name}
use Rattle.names.specs.proving.Standing.{IsOffered, IsImportFault}
use Rattle.names.specs.Scopes.{origin_of, origin_spot, origins, scopes}
use Rattle.names.specs.proving.Distinct.{each_more}
use Rattle.names.proofs.Standings.{all_checked, entry_spot, seen_long, spots_offered}
use Rattle.names.proofs.standing.check_imports.Goals as goal

pub loop-i-preserved : goal.loop-i-preserved
loop-i-preserved c =
    let ss = scopes c.args.modules.now.entries in
    let x = string_bytes c.entry_at.result.0.now in
    let N = origin_of c.entry_at.result.1.now in
    let o = subst (λ z. IsOffered ss N z) c.as_str.ensures.value c.in-Ok.ensures.ok in
    each_more (origins c.args.imports.now.entries) (λ (i : Name × Name). IsOffered ss i.1 i.0) c.loop-i.i (x, N) c.entry_at.ensures.seen c.loop-i.invariant o

pub returns-in-Err-clause-fault : goal.returns-in-Err-clause-fault
returns-in-Err-clause-fault c =
    let ss = scopes c.args.modules.now.entries in
    let x = string_bytes c.entry_at.result.0.now in
    let N = origin_of c.entry_at.result.1.now in
    (N, x, (c.loop-i.i, c.entry_at.ensures.seen), subst (λ z. IsImportFault ss c.args.within.now N z c.in-Err.fault) c.as_str.ensures.value c.in-Err.ensures.fault)

pub returns-clause-ok : goal.returns-clause-ok
returns-clause-ok c = λ N x s.
    let n : c.loop-i.i ≡ length (origins c.args.imports.now.entries) = omega (arith, seen_long origin_of c.args.imports.now.entries) in
    all_checked (origins c.args.imports.now.entries) (λ (i : Name × Name). IsOffered (scopes c.args.modules.now.entries) i.1 i.0) c.loop-i.i n c.loop-i.invariant (x, N) s

pub returns-in-Err-clause-first : goal.returns-in-Err-clause-first
returns-in-Err-clause-first c =
    let ss = scopes c.args.modules.now.entries in
    let es = c.args.imports.now.entries in
    let o = c.entry_at.result.1.now in
    let N = origin_of o in
    record {
      number = c.loop-i.i;
      name = string_bytes c.entry_at.result.0.now;
      spot = origin_spot o;
      there = entry_spot es c.loop-i.i c.entry_at.result.0.now o c.entry_at.ensures.entry;
      fault = subst (λ z. IsImportFault ss c.args.within.now N z c.in-Err.fault) c.as_str.ensures.value c.in-Err.ensures.fault;
      at = c.in-Err.ensures.at;
      before = spots_offered ss es c.loop-i.i c.loop-i.invariant;
    }
