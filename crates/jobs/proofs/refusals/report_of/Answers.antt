use Rattle.std.proofs.Common.{◌≡◌, sym, subst, codes, string_bytes}
use Rattle.diagnostics.specs.Heading.{Begins}
use Rattle.jobs.specs.Answers.{line_heading}
use Rattle.jobs.specs.declared.refusals.LineFault.{LineFault}
use Rattle.jobs.proofs.Answering.{if_ok_then}
use Rattle.jobs.proofs.refusals.report_of.Goals as goal

-- the text begins with the number and the name
pub returns-in-Limit : goal.returns-in-Limit
returns-in-Limit c =
    if_ok_then (λ s. string_bytes s ≡ codes "error 2 Limit(Line): a line has at most 33554432 octets")
    (λ s. Begins (line_heading c.args.fault.now) (string_bytes s)) c.from_str.result
    (λ s e. subst (λ (f : LineFault). Begins (line_heading f) (string_bytes s)) (sym c.in-Limit.is)
    (record { rest = codes ": a line has at most 33554432 octets"; is = e }))
    c.from_str.ensures.ok

pub returns-in-LineEnd : goal.returns-in-LineEnd
returns-in-LineEnd c =
    if_ok_then (λ s. string_bytes s ≡ codes "error 73 LineEnd: the answer has a line end in it")
    (λ s. Begins (line_heading c.args.fault.now) (string_bytes s)) c.from_str-in-LineEnd.result
    (λ s e. subst (λ (f : LineFault). Begins (line_heading f) (string_bytes s)) (sym c.in-LineEnd.is)
    (record { rest = codes ": the answer has a line end in it"; is = e }))
    c.from_str-in-LineEnd.ensures.ok
