-- Linked modules are whole, and a name has at most one meaning in each.
use Rattle.std.proofs.Common.{◌≡◌, ◌<◌, ◌≤◌, ℕ, List, Some, length, sym, subst, ap, ◌∙◌, arith}
use Rattle.std.specs.Prelude.{slice_get, Option}
use Rattle.trees.specs.Modules.{ModuleTree}
use Rattle.trees.specs.Values.{Name}
use Rattle.names.specs.declared.scope.Assigned.{Assigned}
use Rattle.names.specs.declared.scope.Assigned.TheVariants as assigned
use Rattle.names.specs.ByNumber.{roots_of, scopes_from, values_of}
use Rattle.names.specs.Names.{Meaning, Refers}
use Rattle.names.specs.proving.Meanings.{meaning_found, refers_meaning}
use Rattle.names.specs.proving.Ready.{AreThere, IsGiven}
use Rattle.names.specs.Names.{IsApart}
use Rattle.resolve.specs.Links.{Links}
use Rattle.resolve.specs.Program.{Program, IsThere, IsWhole}
use Rattle.resolve.proofs.Assembling.{Laws}

same : {X : Type 0} {a b : X} → Some a ≡ Some b → a ≡ b
same h = cc

pub one_meaning : (ms : List ModuleTree) (p : Program) → IsApart (scopes_from 0 0 ms) → Links ms p →
    (M x : Name) (a b : Assigned) → Meaning p.modules M x a → Meaning p.modules M x b → a ≡ b
one_meaning ms p apart l M x a b m n =
    let f = meaning_found (scopes_from 0 0 ms) M x a apart (subst (λ z. Meaning z M x a) l.program.modules m) in
    let g = meaning_found (scopes_from 0 0 ms) M x b apart (subst (λ z. Meaning z M x b) l.program.modules n) in
    same (sym f ∙ g)

module _ (law : Laws) (ms : List ModuleTree) (p : Program) (l : Links ms p) (t : AreThere ms) where
  long : length (roots_of ms) ≤ length p.types
  long = law.roots p.modules p.headers p.assignments (roots_of ms) p.types l.program.types

  given : (M x : Name) (a : Assigned) → Meaning p.modules M x a →
      IsGiven (length (roots_of ms)) (length (values_of ms)) a
  given M x a m = t.named M x a (subst (λ z. Meaning z M x a) l.program.modules m)

  there : (a : Assigned) → IsGiven (length (roots_of ms)) (length (values_of ms)) a → IsThere p a
  there (assigned.Type i) h = let r = long in omega (arith, h, r)
  there (assigned.Value i) h = omega (arith, h, ap length l.program.values)

  meant : (M x : Name) (N : Option Name) (j : ℕ) → Refers p.modules M N x (assigned.Type j) → j < length p.types
  meant M x N j h =
      there (assigned.Type j) (given M x (assigned.Type j) (refers_meaning p.modules M x N (assigned.Type j) h))

  pub whole : IsWhole p
  whole = record {
    linked = law.linked p.modules p.headers p.assignments (roots_of ms) p.types l.program.types meant t.unplaced l.unfolds;
    names = λ M x a m. there a (given M x a m);
    valued = λ i v e.
        let h = t.valued i v (ap (λ z. slice_get z i) (sym l.program.values) ∙ e) in
        let r = long in
        (omega (arith, h.0, r), omega (arith, h.1, ap length l.program.assignments));
    typed = λ i u e. law.stand p.modules p.headers p.assignments (roots_of ms) p.types l.program.types i u e;
    placed = λ i a e.
        let h = t.placed i a (ap (λ z. slice_get z i) (sym l.program.assignments) ∙ e) in
        omega (arith, h, ap length l.program.headers);
  }
