use Rattle.std.proofs.Common.{◌≡◌, ◌∙◌, ◌++◌, ap, string_bytes}
use Rattle.check_jobs.specs.Inputs.{line_of}
use Rattle.jobs.specs.Shown.{IsRefusalLine}
use Rattle.jobs.proofs.Answering.{if_ok_then}
use Rattle.jobs.proofs.showing.with_refusal.Goals as goal

-- the report is after the lines
pub returns-clause-printed : goal.returns-clause-printed
returns-clause-printed c =
    if_ok_then (λ v. v.items ≡ line_of (string_bytes c.push_str.new.self))
    (λ v. IsRefusalLine (string_bytes c.args.lines) c.args.unread v.items) c.with_line_end.result
    (λ v e. record {
      report = string_bytes c.in_ok-line.line;
      begins = c.in_ok-line.ensures.begins;
      output_is = e
          ∙ ap line_of (c.in_ok-push_str.ensures.bytes
          ∙ ap (λ q. string_bytes c.args.lines ++ q) c.as_str.ensures.value);
    })
    c.with_line_end.ensures.line
