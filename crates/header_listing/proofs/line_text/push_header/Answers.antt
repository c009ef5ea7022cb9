use Rattle.std.proofs.Common.{string_bytes}
use Rattle.header_listing.specs.Shown.{header}
use Rattle.header_listing.proofs.Lines.{one_more, joined}
use Rattle.header_listing.proofs.line_text.push_header.Goals as goal

pub returns : goal.returns
returns c = λ ls x a.
    let w = c.in_ok-push_words.ensures in
    one_more ls (header c.args.depth c.args.offset c.args.encoding.identifier.now c.args.encoding.size.now x)
    (string_bytes c.args.out.now) w.0 _ a (joined _ _ _ _ _ (c.in_ok-push_start.ensures x) w.1) w.2 w.3
