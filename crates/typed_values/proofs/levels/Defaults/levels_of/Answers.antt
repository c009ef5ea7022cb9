use Rattle.std.proofs.Common.{◌≡◌, ℕ, Some, arith, subst}
use Rattle.std.specs.Prelude.{slice_get}
use Rattle.typed_values.specs.declared.levels.DefaultLevels.{DefaultLevels}
use Rattle.typed_values.proofs.Tables.{got_here}
use Rattle.typed_values.proofs.levels.Defaults.levels_of.Goals as goal

pub returns-then-entry-component : goal.returns-then-entry-component
returns-then-entry-component c =
    let xs = c.args.self.now.levels.items in
    let i = c.in-Some.place in
    let e = c.index-entry.result.now in
    let same = c.len.ensures in
    let many = c.args.self.now.levels.ok.0 in
    let test = c.if-place-len.false in
    let there : slice_get xs i ≡ Some e = got_here xs i e e (omega (arith, same, many, test)) c.index-entry.ensures in
    let with_type : ℕ → DefaultLevels = λ t. record { ty = t; levels = e.levels } in
    (i, subst (λ t. slice_get xs i ≡ Some (with_type t)) c.if-entry-component.true there)
