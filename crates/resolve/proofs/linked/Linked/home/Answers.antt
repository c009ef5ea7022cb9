use Rattle.std.proofs.Common.{◌≡◌, ◌<◌, length, Some, sym, subst, ap, ◌∙◌, arith}
use Rattle.std.specs.Prelude.{slice_get}
use Rattle.type_table.specs.Seen.{type_of, types_of}
use Rattle.type_table.specs.Table.{Type'}
use Rattle.type_table.specs.proving.Tables.{type_at, as_long}
use Rattle.resolve.specs.Program.{IsAssignment}
use Rattle.resolve.proofs.linked.Linked.home.Goals as goal

pub assigned-requires : goal.assigned-requires
assigned-requires c =
    let there : c.args.ty.index < length (types_of c.self.inside.types.items) = rw (← c.self.view_is) at c.requires in
    let w = c.index.result.now in
    let t = c.self.invariant.0.typed c.args.ty.index (type_of w) (type_at c.self.inside.types.items c.args.ty.index w (omega (arith, there, as_long c.self.inside.types.items)) c.index.ensures) in
    rw (← c.self.view_is) t

pub returns : goal.returns
returns c =
    let there : c.args.ty.index < length (types_of c.self.inside.types.items) = rw (← c.self.view_is) at c.requires in
    let w = c.index.result.now in
    let here = type_at c.self.inside.types.items c.args.ty.index w (omega (arith, there, as_long c.self.inside.types.items)) c.index.ensures in
    λ u q.
    let q' : slice_get (types_of c.self.inside.types.items) c.args.ty.index ≡ Some u = rw (← c.self.view_is) at q in
    let mine : Some (type_of w) ≡ Some u = sym here ∙ q' in
    let s : w.assignment ≡ u.assignment = ap (λ (z : Type'). z.assignment) (same (type_of w) u mine) in
    subst (λ k. IsAssignment c.args.self.now.program k c.assigned.result.module.now c.assigned.result.name.now) s c.assigned.ensures
  where
    same : (u t : Type') → Some u ≡ Some t → u ≡ t
    same u t g = cc
