use Rattle.std.proofs.Common.{◌≡◌, ℕ, List, Some, sym, ◌∙◌, subst, arith, inl, inr}
use Rattle.std.specs.Prelude.{slice_get}
use Rattle.std.proofs.lemmas.Option.{same_Some, slice_get_within}
use Rattle.names.specs.Modules.{OccursIn}
use Rattle.value_notations.specs.proving.Places.{less_or_more}
use Rattle.value_notations.proofs.Opening.{turned}
use Rattle.value_notations.proofs.opened.Opened.are_later.Goals as goal

pub loop-i-init : goal.loop-i-init
loop-i-init c = record { later = λ j x t l e f. absurd (omega (arith, l)) }

pub loop-i-preserved : goal.loop-i-preserved
loop-i-preserved c = record {
  later = λ j x t l e f. elim (less_or_more j c.loop-i.i) [
    | inl d ↦ c.is_later.ensures c.if-not-is_later.false t
        (subst (λ z. slice_get c.args.turns.now z ≡ Some t)
        (same_Some x c.in-Some.number.now (sym e ∙ subst (λ z. slice_get c.self.inside.numbers.keys z ≡ Some c.in-Some.number.now) (sym d) (sym c.in-Some.ensures.key))) f)
    | inr h ↦ elim h [
      | inl m ↦ c.loop-i.invariant.later j x t m e f
      | inr m ↦ absurd (omega (arith, l, m))
    ]
  ];
}

pub returns : goal.returns
returns c = λ e x t o f.
    let s = turned c.self.inside.numbers.keys x (subst (λ (z : List ℕ). OccursIn z x) (sym c.self.view_is) o) in
    let w = slice_get_within c.self.inside.numbers.keys s.0 x s.1 in
    let many = c.len-i-end.ensures.len in
    let done = c.loop-i-test.false in
    c.loop-i.invariant.later s.0 x t (omega (arith, w, many, done)) s.1 f
