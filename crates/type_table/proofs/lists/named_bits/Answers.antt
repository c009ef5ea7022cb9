use Rattle.std.proofs.Common.{ℕ, ◌<◌, ◌≤◌, ◌+◌, length, map, take, ap, inl, inr, arith}
use Rattle.std.proofs.lemmas.List.{length-map}
use Rattle.std.proofs.lemmas.Option.{slice_get_within}
use Rattle.trees.specs.Values.{Name}
use Rattle.trees.specs.Types.{bit_of, a_bit_string}
use Rattle.names.specs.declared.fault.Limit.TheVariants as limits
use Rattle.names.specs.proving.Distinct.{each_more, item_at}
use Rattle.type_table.specs.Table.{simple}
use Rattle.type_table.specs.proving.Checks.{texts}
use Rattle.type_table.proofs.Fronts.{seen_at, seen_long, kept_start, kept_more, kept_all, kept_in_start, kept_in_more, kept_in_all}
use Rattle.type_table.proofs.ListFaults.{kind_taken, kind_numbered, kind_limit}
use Rattle.trees.specs.declared.types.NamedBit.{NamedBit}
use Rattle.type_table.specs.FirstInList.{AreNear, IsFarBit, bit_names, bit_places, bits_named}
use Rattle.names.specs.Modules.{AreDifferent}
use Rattle.type_table.proofs.FirstFaults.{passed_at, second_numbered, second_taken}
use Rattle.type_table.proofs.lists.named_bits.Goals as goal

pub loop-item-init : goal.loop-item-init
loop-item-init c = record {
  names = kept_start _ (texts c.with_hasher-names.result.keys) (ap texts c.with_hasher-names.ensures.empty);
  places = kept_in_start _ c.new-places.result.keys c.new-places.ensures.empty;
  near = λ k b l. absurd (omega (arith, l));
}

pub loop-item-preserved : goal.loop-item-preserved
loop-item-preserved c =
    let gs = c.args.given.now in
    let i = c.loop-item.item-index in
    let l : i < length gs = omega arith in
    let near : c.item-item.result.place ≤ 65535 = omega arith in
    record {
      names = kept_more _ (texts c.loop-item.names.keys) (texts c.name_once.new.names.keys) i _ (seen_at (λ (b : Name × ℕ). b.0) bit_of gs i c.item-item.result l c.item-item.is) c.loop-item.invariant.names c.in-Ok.ensures.added c.in-Ok.ensures.fresh;
      places = kept_in_more _ c.loop-item.places.keys c.place_once.new.places.keys i _ (seen_at (λ (b : Name × ℕ). b.1) bit_of gs i c.item-item.result l c.item-item.is) c.loop-item.invariant.places c.in-Ok-place_once.ensures.added c.in-Ok-place_once.ensures.fresh;
      near = each_more (map bit_of gs) (λ (b : Name × ℕ). b.1 ≤ 65535) i (bit_of c.item-item.result) (item_at bit_of gs i c.item-item.result l c.item-item.is) c.loop-item.invariant.near near;
    }

pub returns-in-Err-clause-fault : goal.returns-in-Err-clause-fault
returns-in-Err-clause-fault c =
    let gs = c.args.given.now in
    let i = c.loop-item.item-index in
    let l : i < length gs = omega arith in
    kind_taken c.args.within.now c.args.assigns.now (simple (a_bit_string (map bit_of gs))) (map (λ (b : Name × ℕ). b.0) (map bit_of gs)) (texts c.loop-item.names.keys) i _ c.in-Err.fault (λ y t. inl t)
    (seen_at (λ (b : Name × ℕ). b.0) bit_of gs i c.item-item.result l c.item-item.is) c.loop-item.invariant.names c.in-Err.ensures.fault

pub returns-then-item-gt65535-clause-fault : goal.returns-then-item-gt65535-clause-fault
returns-then-item-gt65535-clause-fault c =
    let gs = c.args.given.now in
    let i = c.loop-item.item-index in
    let l : i < length gs = omega arith in
    let far : 65535 < c.item-item.result.place = omega arith in
    kind_limit c.args.within.now c.args.assigns.now (simple (a_bit_string (map bit_of gs))) limits.NamedBit c.passed.result
    (c.item-item.result.place, (i, seen_at (λ (b : Name × ℕ). b.1) bit_of gs i c.item-item.result l c.item-item.is), far) c.passed.ensures.limit

pub returns-in-Err-place_once-clause-fault : goal.returns-in-Err-place_once-clause-fault
returns-in-Err-place_once-clause-fault c =
    let gs = c.args.given.now in
    let i = c.loop-item.item-index in
    let l : i < length gs = omega arith in
    kind_numbered c.args.within.now c.args.assigns.now (simple (a_bit_string (map bit_of gs))) (map (λ (b : Name × ℕ). b.0) (map bit_of gs)) (map (λ (b : Name × ℕ). b.1) (map bit_of gs)) c.loop-item.places.keys i _ _ c.in-Err-place_once.fault (λ y t. t)
    (seen_at (λ (b : Name × ℕ). b.0) bit_of gs i c.item-item.result l c.item-item.is) (seen_at (λ (b : Name × ℕ). b.1) bit_of gs i c.item-item.result l c.item-item.is) c.loop-item.invariant.places c.in-Err-place_once.ensures.fault

pub returns-clause-good : goal.returns-clause-good
returns-clause-good c =
    let gs = c.args.given.now in
    let i = c.loop-item.item-index in
    let l : length gs ≤ i = omega arith in
    let n = kept_all _ (texts c.loop-item.names.keys) i (seen_long (λ (b : Name × ℕ). b.0) bit_of gs i l) c.loop-item.invariant.names in
    (n.1, kept_in_all _ c.loop-item.places.keys i (seen_long (λ (b : Name × ℕ). b.1) bit_of gs i l) c.loop-item.invariant.places, λ k b e. (let w = slice_get_within (map bit_of gs) k b e in c.loop-item.invariant.near k b (omega (arith, w, l, length-map gs bit_of)) e))

pub returns-in-Err-clause-first : goal.returns-in-Err-clause-first
returns-in-Err-clause-first c =
    let gs = c.args.given.now in
    let i = c.loop-item.item-index in
    let l : i < length gs = omega arith in
    inl (second_taken c.args.within.now (bit_names gs) (bits_named gs) (texts c.loop-item.names.keys) i c.item-item.result.name
    (λ k. AreDifferent (take k (bit_places gs)) × AreNear k gs) c.in-Err.fault (item_at (λ (b : NamedBit). b.name) gs i c.item-item.result l c.item-item.is)
    (seen_at (λ (b : Name × ℕ). b.0) bit_of gs i c.item-item.result l c.item-item.is) c.loop-item.invariant.names (c.loop-item.invariant.places.apart, c.loop-item.invariant.near) c.in-Err.ensures.fault c.in-Err.ensures.at)

pub returns-then-item-gt65535-clause-first : goal.returns-then-item-gt65535-clause-first
returns-then-item-gt65535-clause-first c =
    let gs = c.args.given.now in
    let i = c.loop-item.item-index in
    let l : i < length gs = omega arith in
    let far : 65535 < c.item-item.result.place = omega arith in
    let names = kept_more _ (texts c.loop-item.names.keys) (texts c.name_once.new.names.keys) i _ (seen_at (λ (b : Name × ℕ). b.0) bit_of gs i c.item-item.result l c.item-item.is) c.loop-item.invariant.names c.in-Ok.ensures.added c.in-Ok.ensures.fresh in
    inr (inl (passed_at limits.NamedBit c.args.within.now c.args.assigns.now (bit_names gs) i c.item-item.result.name (IsFarBit gs) c.passed.result
    (item_at (λ (b : NamedBit). b.name) gs i c.item-item.result l c.item-item.is)
    (record {
      place = c.item-item.result.place;
      there = seen_at (λ (b : Name × ℕ). b.1) bit_of gs i c.item-item.result l c.item-item.is;
      far = far;
      names = names.apart;
      places = c.loop-item.invariant.places.apart;
      near = c.loop-item.invariant.near;
    }) c.passed.ensures.limit c.passed.ensures.at))

pub returns-in-Err-place_once-clause-first : goal.returns-in-Err-place_once-clause-first
returns-in-Err-place_once-clause-first c =
    let gs = c.args.given.now in
    let i = c.loop-item.item-index in
    let l : i < length gs = omega arith in
    let near : c.item-item.result.place ≤ 65535 = omega arith in
    let names = kept_more _ (texts c.loop-item.names.keys) (texts c.name_once.new.names.keys) i _ (seen_at (λ (b : Name × ℕ). b.0) bit_of gs i c.item-item.result l c.item-item.is) c.loop-item.invariant.names c.in-Ok.ensures.added c.in-Ok.ensures.fresh in
    let all = each_more (map bit_of gs) (λ (b : Name × ℕ). b.1 ≤ 65535) i (bit_of c.item-item.result) (item_at bit_of gs i c.item-item.result l c.item-item.is) c.loop-item.invariant.near near in
    inr (inr (second_numbered c.args.within.now (bit_names gs) (bit_places gs) c.loop-item.places.keys i c.item-item.result.name c.item-item.result.place
    (λ k. AreDifferent (take (k + 1) (bits_named gs)) × AreNear (k + 1) gs) c.in-Err-place_once.fault (item_at (λ (b : NamedBit). b.name) gs i c.item-item.result l c.item-item.is)
    (seen_at (λ (b : Name × ℕ). b.1) bit_of gs i c.item-item.result l c.item-item.is) c.loop-item.invariant.places (names.apart, all) c.in-Err-place_once.ensures.fault c.in-Err-place_once.ensures.at))
