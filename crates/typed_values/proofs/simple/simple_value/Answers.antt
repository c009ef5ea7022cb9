use Rattle.std.proofs.Common.{◌≡◌, refl, subst, sym}
use Rattle.trees.specs.Types.{plain_of}
use Rattle.type_table.specs.Lists.{IsSoundKind}
use Rattle.type_table.specs.Seen.{kind_of}
use Rattle.type_table.specs.Table.{simple}
use Rattle.value_notations.specs.proving.Following.{one_kind}
use Rattle.value_notations.specs.References as last
use Rattle.typed_values.proofs.Closing.{last_own}
use Rattle.typed_values.proofs.Readings.{of_kind, leaf_means, leaf_outside, own_fault, shape_in}
use Rattle.typed_values.proofs.simple.simple_value.Goals as goal

pub leaf-requires : goal.leaf-requires
leaf-requires c =
    let e : kind_of c.written-shape.result.0 ≡ simple (plain_of c.args.simple.now) =
    one_kind c.args.bounded.now.program.types c.args.at.ty.index _ _ (of_kind (shape_in c.linked-linked.ensures c.written-shape.ensures).written)
    c.requires.is in
    record { sound = subst IsSoundKind (sym e) c.requires.sound }

pub is_allowed-requires-clause-value : goal.is_allowed-requires-clause-value
is_allowed-requires-clause-value c =
    let e : kind_of c.written-shape.result.0 ≡ simple (plain_of c.args.simple.now) =
    one_kind c.args.bounded.now.program.types c.args.at.ty.index _ _ (of_kind (shape_in c.linked-linked.ensures c.written-shape.ensures).written)
    c.requires.is in
    (c.in-Ok.ensures.value (plain_of c.args.simple.now) e).within

pub returns-in-Err : goal.returns-in-Err
returns-in-Err c = λ levels left os ps N w h.
    let e : kind_of c.written-shape.result.0 ≡ simple (plain_of c.args.simple.now) =
    one_kind c.args.bounded.now.program.types c.args.at.ty.index _ _ (of_kind (shape_in c.linked-linked.ensures c.written-shape.ensures).written)
    c.requires.is in
    own_fault _ refl refl refl
    (c.leaf_cause-cause.ensures c.args.bounded.now _ _ c.args.at.ty.index os ps c.args.at.within.now _ _ _ (of_kind w) h
    (c.in-Err.ensures.fault (plain_of c.args.simple.now) e) c.in-Err.ensures.bit)

pub returns-then-is_allowed : goal.returns-then-is_allowed
returns-then-is_allowed c = λ levels left os ps N w h m qs.
    let e : kind_of c.written-shape.result.0 ≡ simple (plain_of c.args.simple.now) =
    one_kind c.args.bounded.now.program.types c.args.at.ty.index _ _ (of_kind (shape_in c.linked-linked.ensures c.written-shape.ensures).written)
    c.requires.is in
    leaf_means w (last.own (last_own h.last)) (c.in-Ok.ensures.value (plain_of c.args.simple.now) e).is_so
    (c.is_allowed.ensures.allowed c.if-is_allowed.true)

pub returns : goal.returns
returns c = λ levels left os ps N w h.
    let e : kind_of c.written-shape.result.0 ≡ simple (plain_of c.args.simple.now) =
    one_kind c.args.bounded.now.program.types c.args.at.ty.index _ _ (of_kind (shape_in c.linked-linked.ensures c.written-shape.ensures).written)
    c.requires.is in
    own_fault _ refl refl refl
    (leaf_outside w h.last (c.in-Ok.ensures.value (plain_of c.args.simple.now) e).is_so
    (c.is_allowed.ensures.left_out (λ t. let e = c.if-is_allowed.false in let f = t in cc)))
