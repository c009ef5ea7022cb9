use Rattle.std.proofs.Common.{rules, refl, sym, ap, subst, ◌≡◌, ◌∙◌, ◌+◌, ◌≤◌, ℕ, List, [], ◌∷◌, ◌++◌, length, take, drop}
use Rattle.std.proofs.lemmas.List.{take_rest}
use Rattle.std.specs.Io.KnownBytes.{Consumes}
use Rattle.input_lines.specs.Remaining.{remaining_of}
use Rattle.input_lines.proofs.Lefts.{taken_of}
use Rattle.input_lines.proofs.lines.InputLines.take_part.Goals as goal

pub returns-then-step : goal.returns-then-step
returns-then-step g c =
    let step = c.in_ok-step.ensures in
    let remaining = g.R.Read.remaining in
    let shown = take_rest c.deref.result.now c.refill.new.self.at ∙ ap (drop c.refill.new.self.at) c.deref.ensures.value in
    let gone : (os : List ℕ) → take c.in_ok-step.step.count (drop c.refill.new.self.at c.refill.new.self.part.items) ≡ os → Consumes (remaining_of remaining c.args.self.now) (remaining_of remaining (record c.refill.new.self { at = c.refill.new.self.at + c.in_ok-step.step.count })) os = λ os same.
    taken_of (remaining_of remaining c.args.self.now) (remaining c.refill.new.self.reader) c.refill.new.self.part.items
    (drop c.refill.new.self.at c.refill.new.self.part.items) os c.refill.new.self.at c.in_ok-step.step.count
    c.in_ok-refill.ensures.kept refl (subst (λ (xs : List ℕ). c.in_ok-step.step.count ≤ length xs) shown step.within) same in
    record {
      octets = step.octets;
      no_end = step.no_end;
      kept = step.kept;
      ended = λ e. gone (step.octets ++ 10 ∷ []) (ap (take c.in_ok-step.step.count) (sym shown) ∙ step.ended (search rules));
      more = λ e. absurd cc;
      nothing = λ e. absurd cc;
    }

pub returns-else-step : goal.returns-else-step
returns-else-step g c =
    let step = c.in_ok-step.ensures in
    let remaining = g.R.Read.remaining in
    let shown = take_rest c.deref.result.now c.refill.new.self.at ∙ ap (drop c.refill.new.self.at) c.deref.ensures.value in
    let gone : (os : List ℕ) → take c.in_ok-step.step.count (drop c.refill.new.self.at c.refill.new.self.part.items) ≡ os → Consumes (remaining_of remaining c.args.self.now) (remaining_of remaining (record c.refill.new.self { at = c.refill.new.self.at + c.in_ok-step.step.count })) os = λ os same.
    taken_of (remaining_of remaining c.args.self.now) (remaining c.refill.new.self.reader) c.refill.new.self.part.items
    (drop c.refill.new.self.at c.refill.new.self.part.items) os c.refill.new.self.at c.in_ok-step.step.count
    c.in_ok-refill.ensures.kept refl (subst (λ (xs : List ℕ). c.in_ok-step.step.count ≤ length xs) shown step.within) same in
    record {
      octets = step.octets;
      no_end = step.no_end;
      kept = step.kept;
      ended = λ e. absurd cc;
      more = λ e. gone step.octets (ap (take c.in_ok-step.step.count) (sym shown) ∙ step.not_ended (search rules));
      nothing = λ e. absurd cc;
    }
