use Rattle.std.proofs.Common.{◌≡◌, ◌<◌, sym, subst, ◌∙◌, ◌≤◌, inl, inr, ℕ, List, [], ◌∷◌, ◌++◌, length}
use Rattle.std.proofs.KnownBytes.{Consumes-trans}
use Rattle.std.proofs.lemmas.Bool.{cases_lt}
use Rattle.input_lines.specs.Remaining.{remaining_of}
use Rattle.input_lines.proofs.Lefts.{ended_line, ends_line, ends_long, final_line, kept_some, more_of, no_end_more, none_of}
use Rattle.input_lines.specs.declared.lines.NextLine.TheVariants.{End, Line, Long}
use Rattle.input_lines.proofs.lines.InputLines.next.Goals as goal

-- the line ended, so it is the first one
pub returns-in-Ended-clause-line : goal.returns-in-Ended-clause-line
returns-in-Ended-clause-line g c =
    let taken = c.in_ok-take_part.ensures in
    let full = c.loop.invariant.0 ++ taken.octets in
    let a = remaining_of g.R.Read.remaining c.args.self.now in
    let b = remaining_of g.R.Read.remaining c.loop.self in
    let d = remaining_of g.R.Read.remaining c.take_part.new.self in
    let whole = ended_line a d full (no_end_more c.loop.invariant.0 taken.octets c.loop.invariant.1 taken.no_end)
    (more_of a b d c.loop.invariant.0 taken.octets (10 ∷ []) c.loop.invariant.2 (taken.ended (c.in-Ended.is))) in
    ends_line a d full c.take_part.new.line.items c.whole.result whole (taken.kept c.loop.invariant.0 c.loop.invariant.3)
    (λ h. c.whole.ensures.long (subst (λ (l : List ℕ). 33554432 < length l) (sym c.as_slice.ensures.value) h))

pub returns-in-Ended-clause-long : goal.returns-in-Ended-clause-long
returns-in-Ended-clause-long g c =
    let taken = c.in_ok-take_part.ensures in
    let full = c.loop.invariant.0 ++ taken.octets in
    let a = remaining_of g.R.Read.remaining c.args.self.now in
    let b = remaining_of g.R.Read.remaining c.loop.self in
    let d = remaining_of g.R.Read.remaining c.take_part.new.self in
    let whole = ended_line a d full (no_end_more c.loop.invariant.0 taken.octets c.loop.invariant.1 taken.no_end)
    (more_of a b d c.loop.invariant.0 taken.octets (10 ∷ []) c.loop.invariant.2 (taken.ended (c.in-Ended.is))) in
    ends_long a d full c.take_part.new.line.items c.whole.result whole (taken.kept c.loop.invariant.0 c.loop.invariant.3)
    (λ h. c.whole.ensures.line (subst (λ (l : List ℕ). length l ≤ 33554432) (sym c.as_slice.ensures.value) h))

-- the input ended, so what was taken is the last line, if it is any
pub returns-in-AtEnd-clause-line : goal.returns-in-AtEnd-clause-line
returns-in-AtEnd-clause-line g c = λ is.
    let taken = c.in_ok-take_part.ensures in
    let full = c.loop.invariant.0 ++ taken.octets in
    let a = remaining_of g.R.Read.remaining c.args.self.now in
    let b = remaining_of g.R.Read.remaining c.loop.self in
    let d = remaining_of g.R.Read.remaining c.take_part.new.self in
    let line = c.take_part.new.line.items in
    let slice = c.as_slice-in-AtEnd.ensures.value in
    let ends = taken.nothing (c.in-AtEnd.is) in
    let kept = taken.kept c.loop.invariant.0 c.loop.invariant.3 in
    let some : 0 < length line = elim (cases_lt 0 (length line)) [
      | inl h ↦ h
      | inr h ↦ absurd (let e : End ≡ Line = sym (c.last.ensures.end (slice ∙ none_of line h)) ∙ is in cc)
    ] in
    let whole = final_line a d full (no_end_more c.loop.invariant.0 taken.octets c.loop.invariant.1 taken.no_end)
    (kept_some full line kept some)
    (Consumes-trans a b d c.loop.invariant.0 taken.octets c.loop.invariant.2 ends.0) ends.2 in
    ends_line a d full line c.last.result whole kept
    (λ h. c.last.ensures.long (subst (λ (l : List ℕ). 33554432 < length l) (sym slice) h)) is

pub returns-in-AtEnd-clause-long : goal.returns-in-AtEnd-clause-long
returns-in-AtEnd-clause-long g c = λ is.
    let taken = c.in_ok-take_part.ensures in
    let full = c.loop.invariant.0 ++ taken.octets in
    let a = remaining_of g.R.Read.remaining c.args.self.now in
    let b = remaining_of g.R.Read.remaining c.loop.self in
    let d = remaining_of g.R.Read.remaining c.take_part.new.self in
    let line = c.take_part.new.line.items in
    let slice = c.as_slice-in-AtEnd.ensures.value in
    let ends = taken.nothing (c.in-AtEnd.is) in
    let kept = taken.kept c.loop.invariant.0 c.loop.invariant.3 in
    let some : 0 < length line = elim (cases_lt 0 (length line)) [
      | inl h ↦ h
      | inr h ↦ absurd (let e : End ≡ Long = sym (c.last.ensures.end (slice ∙ none_of line h)) ∙ is in cc)
    ] in
    let whole = final_line a d full (no_end_more c.loop.invariant.0 taken.octets c.loop.invariant.1 taken.no_end)
    (kept_some full line kept some)
    (Consumes-trans a b d c.loop.invariant.0 taken.octets c.loop.invariant.2 ends.0) ends.2 in
    ends_long a d full line c.last.result whole kept
    (λ h. c.last.ensures.line (subst (λ (l : List ℕ). 0 < length l) (sym slice) some)
    (subst (λ (l : List ℕ). length l ≤ 33554432) (sym slice) h)) is

-- octets were added to the line
pub loop-preserved : goal.loop-preserved
loop-preserved g c =
    let taken = c.in_ok-take_part.ensures in (
      c.loop.invariant.0 ++ taken.octets,
      no_end_more c.loop.invariant.0 taken.octets c.loop.invariant.1 taken.no_end,
      Consumes-trans (remaining_of g.R.Read.remaining c.args.self.now) (remaining_of g.R.Read.remaining c.loop.self)
          (remaining_of g.R.Read.remaining c.take_part.new.self) c.loop.invariant.0 taken.octets c.loop.invariant.2
          (taken.more (c.in-More.is)),
      taken.kept c.loop.invariant.0 c.loop.invariant.3,
    )
