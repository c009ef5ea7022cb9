use Rattle.std.proofs.Common.{◌≡◌, ℕ, Option, Some, refl, subst, sym, string_bytes}
use Rattle.std.specs.Prelude.{IfSome}
use Rattle.typed_values.specs.Chains.{number_of}
use Rattle.typed_values.specs.declared.stops.Stops.{Stops}
use Rattle.typed_values.proofs.Numbers.{numbers_same, numbered_new, numbers_more}
use Rattle.typed_values.proofs.stops.Stops.number_new.Goals.{in-Ok, in-Err}
use Rattle.typed_values.proofs.stops.Stops.number_new.Goals as goal

pub returns-clause-it : goal.returns-clause-it
returns-clause-it c =
    let s = c.args.self.now in
    let r : Stops = record { alloc = s.alloc; numbers = c.insert.new.self; branches = s.branches; height = s.height } in
    elim c.match-insert.branch [
      | in-Ok w ↦ subst (λ (o : Option ℕ). IfSome o (λ i. number_of r (string_bytes c.args.name) ≡ Some i)) (sym w.result-is)
          (numbered_new s r c.args.name c.len-number.result c.requires.fresh w.in-Ok.ensures.entries)
      | in-Err w ↦ subst (λ (o : Option ℕ). IfSome o (λ i. number_of r (string_bytes c.args.name) ≡ Some i)) (sym w.result-is) tt
    ]

pub returns-clause-more : goal.returns-clause-more
returns-clause-more c =
    let s = c.args.self.now in
    let r : Stops = record { alloc = s.alloc; numbers = c.insert.new.self; branches = s.branches; height = s.height } in
    elim c.match-insert.branch [
      | in-Ok w ↦ numbers_more s r c.args.name c.len-number.result c.requires.fresh w.in-Ok.ensures.entries refl refl
      | in-Err w ↦ numbers_same s r w.in-Err.ensures.err refl refl
    ]
