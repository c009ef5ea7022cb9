use Rattle.std.proofs.Common.{string_bytes}
use Rattle.command_line.proofs.Said.{no_octets_said}
use Rattle.command_line.proofs.octets.complaint.Goals as goal

-- src/octets.rt:15:1
pub returns : goal.returns
returns c =
    no_octets_said c.args.program.now c.args.text.now (string_bytes c.in_ok-quoted.quoted)
    (string_bytes c.in_ok-format.field-0) c.requires.file c.requires.digits c.in_ok-quoted.ensures.text
    c.in_ok-format.ensures.ok
