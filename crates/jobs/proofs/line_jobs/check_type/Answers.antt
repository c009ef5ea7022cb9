use Rattle.std.proofs.lemmas.Result.{err_from_is_err_and}
use Rattle.asnc.specs.named_values.Meant.{no_memory, no_type}
use Rattle.jobs.proofs.line_jobs.check_type.Goals as goal

pub returns-in_err-from_str-in-None-clause-unnamed : goal.returns-in_err-from_str-in-None-clause-unnamed
returns-in_err-from_str-in-None-clause-unnamed c =
    let p = err_from_is_err_and c.from_residual.result c.from_residual.ensures.1 in rw (p.1, p.2) no_memory

pub returns-in_ok-from_str-in-None-clause-unnamed : goal.returns-in_ok-from_str-in-None-clause-unnamed
returns-in_ok-from_str-in-None-clause-unnamed c = no_type c.in_ok-from_str-in-None.ensures.ok c.in-None.ensures.named
