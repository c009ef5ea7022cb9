use Rattle.std.proofs.Common.{◌≡◌, Some, ap, inl, inr, subst, ◌∙◌}
use Rattle.std.specs.Prelude.{slice_get}
use Rattle.type_table.specs.Table.{walk}
use Rattle.resolve.specs.Program.{WrittenProgram}
use Rattle.constraints.proofs.Firsts.{good_before}
use Rattle.constraints.proofs.Noting.{below_next}
use Rattle.constraints.proofs.column.column_of.Goals as goal

pub loop-ty-preserved : goal.loop-ty-preserved
loop-ty-preserved c = record {
  noted = c.in-Ok-note_trail.ensures.noted;
  done = below_next c.loop-ty.column.at.items c.note_trail.new.column.at.items c.loop-ty.ty c.in-Ok-note_trail.ensures.kept
      c.loop-ty.invariant.done c.in-Ok-note_trail.ensures.it;
}

pub returns-in-Err-note_trail-clause-first : goal.returns-in-Err-note_trail-clause-first
returns-in-Err-note_trail-clause-first c =
    elim c.in-Err-note_trail.ensures.first [
      | inl e ↦ inl e
      | inr f ↦ inr (record {
        number = c.loop-ty.ty;
        steps = f.0;
        of = f.1;
        chain = subst (λ q. walk q f.0 c.loop-ty.ty ≡ Some f.1) (c.types-types.ensures.types ∙ ap (λ (p : WrittenProgram). p.program.types) c.linked.ensures)
            (c.in-Ok-trail.ensures.target f.0 f.1 (subst (λ v. slice_get v f.0 ≡ Some f.1) c.deref-in-loop-ty.ensures.value f.2));
        fault = f.3;
        before = good_before c.args.scope.now.program c.loop-ty.column.at.items c.loop-ty.column.limits.items c.loop-ty.ty
            c.loop-ty.invariant.noted c.loop-ty.invariant.done;
      })
    ]
