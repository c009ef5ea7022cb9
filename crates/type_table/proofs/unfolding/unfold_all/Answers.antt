use Rattle.std.proofs.Common.{◌≡◌, length, sym, subst, arith, below_more}
use Rattle.type_table.specs.proving.Notes.{IsKnown, AreUnknown, right_first, all_noted}
use Rattle.type_table.specs.Seen.{types_of}
use Rattle.type_table.specs.Table.{IsUnderlying}
use Rattle.type_table.specs.proving.Tables.{as_long}
use Rattle.std.proofs.Common.{◌<◌}
use Rattle.type_table.proofs.unfolding.unfold_all.Goals as goal

pub loop-i-init : goal.loop-i-init
loop-i-init c = record {
  known = right_first (length (types_of c.args.types.now)) (IsUnderlying (types_of c.args.types.now)) c.args.cores.now (subst (λ n. AreUnknown n c.args.cores.now) (sym (as_long c.args.types.now)) c.requires.unknown);
  noted = λ k l. absurd (omega (arith, l));
}

pub loop-i-preserved : goal.loop-i-preserved
loop-i-preserved c = record {
  known = c.note.ensures.known;
  noted = below_more _ _ (λ k l. c.note.ensures.kept k (c.loop-i.invariant.noted k l)) c.note.ensures.noted;
}

pub returns-clause-cores : goal.returns-clause-cores
returns-clause-cores c =
    let ts = types_of c.args.types.now in
    let long : length c.loop-i.cores ≡ length ts = omega (arith, c.loop-i.auto.cores, c.requires.long, as_long c.args.types.now) in
    all_noted (length ts) (IsUnderlying ts) c.loop-i.cores long c.loop-i.invariant.known (λ i l. subst (λ n. IsKnown n c.loop-i.cores i) (sym (as_long c.args.types.now)) (c.loop-i.invariant.noted i (omega (arith, l, as_long c.args.types.now))))

pub returns-in-Err-clause-first : goal.returns-in-Err-clause-first
returns-in-Err-clause-first c = record {
  start = c.loop-i.i;
  there = omega (arith, as_long c.args.types.now);
  chain = c.in-Err.ensures.far;
  before = λ k l.
      let m = c.loop-i.invariant.noted k l in
      let w = m.2 in
      (m.0, c.loop-i.invariant.known k m.0 m.1 (omega (arith, w, as_long c.args.types.now)));
}
