use Rattle.std.proofs.Common.{◌≡◌, ◌++◌, string_bytes}
use Rattle.value_text.specs.Print.{doubled}
use Rattle.value_text.proofs.string.append_doubled.Given as goal

abbrev pub invariant-loop-c : goal.invariant-loop-c
invariant-loop-c l = string_bytes l.out ++ doubled l.c-iterator.rest.now ≡ string_bytes l.fn.out ++ doubled l.text
