use Rattle.std.proofs.Common.{◌≡◌, ◌<◌, ◌≤◌, ℕ, suc, length, arith, inl, inr}
use Rattle.std.specs.Prelude.{◌⊎◌, slice_index_or}
use Rattle.value_builders.proofs.SetBits.{count_all, count_greatest}
use Rattle.value_builders.proofs.bit_names.bit_count.Goals as goal
use Rattle.value_builders.proofs.bit_names.bit_count.Goals.{then-place-count, else-place-count}
use Rattle.asn_base.specs.proving.Lists.{one_of}

pub loop-place-preserved : goal.loop-place-preserved
loop-place-preserved c =
    let ps = c.args.places.now in
    let i = c.loop-place.place-index in
    let old = c.loop-place.count in
    let new = c.if-place-count.count in
    let l : i < length ps = omega (arith, c.loop-place-test.true, c.loop-place.auto.place-index-end) in
    let w = one_of (λ (p : ℕ). p ≤ 65535) ps i 0 l c.requires.within in
    let f = c.loop-place.invariant.few in
    let more : old ≤ new = elim c.if-place-count.branch [
      | then-place-count b ↦ omega (arith, w, b.if-place-count, b.count-is)
      | else-place-count b ↦ omega (arith, w, b.if-place-count, b.count-is)
    ] in
    let past : slice_index_or ps i 0 < new = elim c.if-place-count.branch [
      | then-place-count b ↦ omega (arith, w, b.if-place-count, b.count-is)
      | else-place-count b ↦ omega (arith, w, b.if-place-count, b.count-is)
    ] in
    let few : new ≤ 65536 = elim c.if-place-count.branch [
      | then-place-count b ↦ omega (arith, w, f, b.if-place-count, b.count-is)
      | else-place-count b ↦ omega (arith, w, f, b.if-place-count, b.count-is)
    ] in
    let which : (new ≡ suc (slice_index_or ps i 0)) ⊎ (new ≡ old) = elim c.if-place-count.branch [
      | then-place-count b ↦ inl (omega (arith, w, b.if-place-count, b.count-is))
      | else-place-count b ↦ inr (omega (arith, w, b.if-place-count, b.count-is))
    ] in
    record {
      all = count_all ps i old new l more past c.loop-place.invariant.all;
      greatest = count_greatest ps i old new l which c.loop-place.invariant.greatest;
      few = few;
    }
