use Rattle.std.proofs.Common.{◌≡◌, ◌++◌, drop, string_bytes}
use Rattle.octet_findings.specs.Tags.{inner_tags}
use Rattle.octet_findings.proofs.tags.push_inner.Given as goal

abbrev pub invariant-loop-i : goal.invariant-loop-i
invariant-loop-i l = string_bytes l.words ++ inner_tags (drop l.i l.tags) ≡ string_bytes l.fn.words ++ inner_tags l.tags
