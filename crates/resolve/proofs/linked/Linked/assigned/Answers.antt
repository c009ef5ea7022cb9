use Rattle.std.proofs.Common.{◌<◌, length, map, Some, sym, ap, ◌∙◌, arith}
use Rattle.std.proofs.lemmas.List.{length-map}
use Rattle.names.specs.Sources.{assignment_of, header_of}
use Rattle.names.specs.proving.Rows.{assignment_at, header_at}
use Rattle.resolve.proofs.linked.Linked.assigned.Goals as goal

pub index-header-requires : goal.index-header-requires
index-header-requires c =
    let there : c.args.assignment < length (map assignment_of c.self.inside.assignments.items) = rw (← c.self.view_is) at c.requires in
    let g = c.index-assignment.result.now in
    let e = assignment_at c.self.inside.assignments.items c.args.assignment g (omega (arith, there, length-map c.self.inside.assignments.items assignment_of)) c.index-assignment.ensures in
    let p = c.self.invariant.0.placed c.args.assignment (assignment_of g) e in
    omega (arith, p, length-map c.self.inside.headers.items header_of)

pub returns : goal.returns
returns c =
    let there : c.args.assignment < length (map assignment_of c.self.inside.assignments.items) = rw (← c.self.view_is) at c.requires in
    let g = c.index-assignment.result.now in
    let h = c.index-header.result.now in
    let e = assignment_at c.self.inside.assignments.items c.args.assignment g (omega (arith, there, length-map c.self.inside.assignments.items assignment_of)) c.index-assignment.ensures in
    let p = c.self.invariant.0.placed c.args.assignment (assignment_of g) e in
    let f = header_at c.self.inside.headers.items g.module h (omega (arith, p, length-map c.self.inside.headers.items header_of)) c.index-header.ensures in
    rw (← c.self.view_is) (record {
      owner = g.module;
      tags = h.default;
      assigned = e ∙ ap (λ z. Some (g.module, z)) (sym c.as_str-2.ensures.value);
      header = f ∙ ap (λ z. Some (z, h.default)) (sym c.as_str.ensures.value);
    })
