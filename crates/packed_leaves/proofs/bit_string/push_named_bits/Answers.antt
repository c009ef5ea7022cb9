use Rattle.std.proofs.Common.{◌≡◌, ◌∷◌, ◌++◌, length, map, subst, sym, ap, ◌∙◌}
use Rattle.asn_base.specs.Abstract.{abstract}
use Rattle.asn_base.specs.Seen.{named_bit_of}
use Rattle.packed_leaves.proofs.Values.{is_named_bits}
use Rattle.packed_leaves.proofs.Leaves.{some_named, named_of, Named, unused_few, named_added, some_octet}
use Rattle.packed_leaves.proofs.bit_string.push_named_bits.Goals as goal

pub push_leaf-requires : goal.push_leaf-requires
push_leaf-requires c =
    let r = is_named_bits c.requires.fits in
    some_named c.leaf_laws.ensures.some (map named_bit_of c.args.names.now) (abstract c.args.value.now) r.0 c.requires.names r.1 c.requires.fits

pub push_filled-requires : goal.push_filled-requires
push_filled-requires c =
    let r = is_named_bits c.requires.fits in
    let s = some_named c.leaf_laws.ensures.some (map named_bit_of c.args.names.now) (abstract c.args.value.now) r.0 c.requires.names r.1 c.requires.fits in
    let e : s.0 ≡ c.in-Some.unused.now ∷ c.in-Some.whole.now = sym (sym c.in-Some.ensures.cases.0 ∙ c.as_slice.ensures.value ∙ c.in_ok-push_leaf.ensures.ok s.0 s.1 ∙ ap (λ q. q ++ s.0) c.new-octets.ensures.items) in
    unused_few r.0 c.in-Some.unused.now c.in-Some.whole.now (subst (Named r.0) e (named_of (abstract c.args.value.now) r.0 s.0 r.1 s.1)) c.are_octets.ensures

pub unreachable-requires : goal.unreachable-requires
unreachable-requires c =
    let r = is_named_bits c.requires.fits in
    let s = some_named c.leaf_laws.ensures.some (map named_bit_of c.args.names.now) (abstract c.args.value.now) r.0 c.requires.names r.1 c.requires.fits in
    let e : c.as_slice.result.now ≡ s.0 = c.as_slice.ensures.value ∙ c.in_ok-push_leaf.ensures.ok s.0 s.1 ∙ ap (λ q. q ++ s.0) c.new-octets.ensures.items in
    some_octet r.0 s.0 (named_of (abstract c.args.value.now) r.0 s.0 r.1 s.1) (ap length (sym e) ∙ c.in-None.ensures.cases)

pub returns : goal.returns
returns c =
    let r = is_named_bits c.requires.fits in
    let s = some_named c.leaf_laws.ensures.some (map named_bit_of c.args.names.now) (abstract c.args.value.now) r.0 c.requires.names r.1 c.requires.fits in
    let e : s.0 ≡ c.in-Some.unused.now ∷ c.in-Some.whole.now = sym (sym c.in-Some.ensures.cases.0 ∙ c.as_slice.ensures.value ∙ c.in_ok-push_leaf.ensures.ok s.0 s.1 ∙ ap (λ q. q ++ s.0) c.new-octets.ensures.items) in
    named_added c.function_laws.ensures.leaf (map named_bit_of c.args.names.now) (abstract c.args.value.now) r.0 c.in-Some.unused.now c.in-Some.whole.now c.args.out.now c.push_filled.new.out c.requires.names r.1
    (subst (Named r.0) e (named_of (abstract c.args.value.now) r.0 s.0 r.1 s.1)) c.are_octets.ensures c.in_ok-push_filled-in-Some.ensures
