use Rattle.std.proofs.Common.{rules}
use Rattle.std.proofs.lemmas.Str.{IsUtf8-string_bytes}
use Rattle.laws_front.proofs.calls.printed.Goals as goal

pub returns-in-Ok : goal.returns-in-Ok
returns-in-Ok c = record { value = search rules; text = search rules; utf8 = IsUtf8-string_bytes c.in-Ok.text }
