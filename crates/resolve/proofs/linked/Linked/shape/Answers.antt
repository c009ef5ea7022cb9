use Rattle.std.proofs.Common.{◌≡◌, ◌<◌, length, Some, refl, sym, subst, ap, ◌∙◌, arith}
use Rattle.std.specs.Prelude.{slice_get}
use Rattle.std.proofs.lemmas.Option.{same_Some, slice_get_read}
use Rattle.type_table.specs.declared.table.TypeNode.{TypeNode}
use Rattle.type_table.specs.Seen.{types_of}
use Rattle.type_table.specs.proving.Tables.{as_long}
use Rattle.resolve.proofs.linked.Linked.shape.Goals as goal

pub with_index-requires : goal.with_index-requires
with_index-requires c =
    let ts = c.self.inside.types.items in
    let i = c.args.ty.index in
    let there : i < length (types_of ts) = rw (← c.self.view_is) at c.requires in
    let here = slice_get_read ts (length ts) i c.index.result.now refl (omega (arith, there, as_long ts)) c.index.ensures in
    let l = c.in-Some.ensures.lookup in
    let found = slice_get_read c.deref.result.now _ i c.in-Some.index.now refl l.3.0 l.1 in
    c.self.invariant.2 i c.index.result.now c.in-Some.index.now here
    (subst (λ z. slice_get z i ≡ Some c.in-Some.index.now) c.deref.ensures.value found)

pub returns-in-None : goal.returns-in-None
returns-in-None c w q =
    let ts = c.self.inside.types.items in
    let i = c.args.ty.index in
    let there : i < length (types_of ts) = rw (← c.self.view_is) at c.requires in
    let here = slice_get_read ts (length ts) i c.index.result.now refl (omega (arith, there, as_long ts)) c.index.ensures in
    let q' : slice_get ts i ≡ Some w = rw (← c.self.view_is) at q in
    c.of.ensures ∙ ap (λ (z : TypeNode). z.shape) (same_Some c.index.result.now w (sym here ∙ q'))

pub returns-in-Some : goal.returns-in-Some
returns-in-Some c w q =
    let ts = c.self.inside.types.items in
    let i = c.args.ty.index in
    let there : i < length (types_of ts) = rw (← c.self.view_is) at c.requires in
    let here = slice_get_read ts (length ts) i c.index.result.now refl (omega (arith, there, as_long ts)) c.index.ensures in
    let q' : slice_get ts i ≡ Some w = rw (← c.self.view_is) at q in
    c.with_index.ensures ∙ ap (λ (z : TypeNode). z.shape) (same_Some c.index.result.now w (sym here ∙ q'))
