use Rattle.std.proofs.Common.{ℕ, ◌≤◌}
use Rattle.std.specs.Char.{len_utf8}
use Rattle.source_text.specs.Shown.{BeginsAt}
use Rattle.source_text.proofs.characters.character_at.Given as goal

abbrev pub invariant-loop-long : goal.invariant-loop-long
invariant-loop-long l = (c : ℕ) → BeginsAt l.text l.place c → l.long ≤ len_utf8 c
