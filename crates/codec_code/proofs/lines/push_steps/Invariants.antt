use Rattle.std.proofs.Common.{◌≡◌, ◌++◌, drop, string_bytes}
use Rattle.codec_code.specs.Listing.{steps_text}
use Rattle.codec_code.proofs.lines.push_steps.Given as goal

abbrev pub invariant-loop-i : goal.invariant-loop-i
invariant-loop-i l =
    string_bytes l.out ++ steps_text (drop l.i l.steps) ≡ string_bytes l.fn.out ++ steps_text l.steps
