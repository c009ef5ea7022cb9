use Rattle.std.proofs.Common.{[], map, sym, ap, ◌∙◌, option_map, unwrap_or, codes}
use Rattle.clap.specs.Words.{found_of}
use Rattle.clap.proofs.WalkLemmas.{raw_values-rows}
use Rattle.command_line.specs.CommandLine.{has_input}
use Rattle.command_line.proofs.lines.names_input.Goals as goal

-- the names that were found are those of the rows
pub returns-in-Some : goal.returns-in-Some
returns-in-Some c =
    let names = ap (λ o. unwrap_or o []) (sym (ap (option_map (λ s. map (λ v. v.now) s.now)) c.in-Some.is)
    ∙ c.get_strs.ensures ∙ raw_values-rows (found_of c.args.found.now) (codes "FILE")) in
    let same = c.have_input.ensures ∙ ap has_input names in
    (λ yes. sym same ∙ yes, λ yes. same ∙ yes)

-- no names were found
pub returns-in-None : goal.returns-in-None
returns-in-None c =
    let names = ap (λ o. unwrap_or o []) (sym (ap (option_map (λ s. map (λ v. v.now) s.now)) c.in-None.is)
    ∙ c.get_strs.ensures ∙ raw_values-rows (found_of c.args.found.now) (codes "FILE")) in
    (λ yes. absurd cc, λ yes. ap has_input names ∙ yes)
