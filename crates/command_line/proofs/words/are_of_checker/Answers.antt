use Rattle.std.proofs.Common.{sym, ◌∙◌, string_bytes}
use Rattle.command_line.proofs.Found.{first_is}
use Rattle.command_line.proofs.words.are_of_checker.Goals as goal

pub returns-in-Some : goal.returns-in-Some
returns-in-Some c =
    let f = first_is string_bytes c.args.words.now c.in-Some.program.now c.in-Some.ensures.value in (
      λ t. f ∙ sym c.as_str.ensures.value ∙ c.is_checker.ensures.0 t,
      λ e. c.is_checker.ensures.1 (c.as_str.ensures.value ∙ sym f ∙ e),
    )
