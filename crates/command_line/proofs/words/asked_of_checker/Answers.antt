use Rattle.std.proofs.Common.{◌≡◌, ap, refl, sym, subst, ◌∙◌, true, List, map, string_bytes}
use Rattle.clap.specs.Words.{Row, is_simple, fault_of, found_of, matches_of, rows_of}
use Rattle.clap.specs.Faults.{is_simple_and_free}
use Rattle.clap.proofs.OnLiterals.{clap_on_literals}
use Rattle.command_line.specs.CommandLine.{octcheck_app, HasNoCheck, IsCheck, IsCheckCommand, IsNoCheckOf, IsRefusedBy}
use Rattle.command_line.proofs.Found.{err_of, ok_of}
use Rattle.command_line.proofs.Refused.{not_given, refused_as}
use Rattle.command_line.proofs.words.asked_of_checker.Goals as goal

is_simple_octcheck : is_simple octcheck_app ≡ true
unfolding clap_on_literals
is_simple_octcheck = refl

is_free_octcheck : is_simple_and_free octcheck_app ≡ true
unfolding clap_on_literals
is_free_octcheck = refl

pub returns-in-Ok-clause-asked : goal.returns-in-Ok-clause-asked
returns-in-Ok-clause-asked c =
    let words = map string_bytes c.args.words.now in
    let rows = rows_of (found_of c.in-Ok.matches) in
    let simple = ap is_simple c.in_ok-program.ensures.shape ∙ is_simple_octcheck in
    let free = ap is_simple_and_free c.in_ok-program.ensures.shape ∙ is_free_octcheck in
    let there = (c.in-Ok.ensures.matches simple).0 ∙ ap (λ a. matches_of a words) c.in_ok-program.ensures.shape in
    ok_of (IsCheck rows) (IsCheckCommand words) c.check.result (λ command h. record {
      taken = ap (λ a. fault_of a words) (sym c.in_ok-program.ensures.shape) ∙ c.in-Ok.ensures.kinds free;
      holds = subst (λ (rows : List Row). IsCheck rows command) there h;
    }) c.check.ensures.command

pub returns-in_ok-fault_of_clap-in-Err-clause-refused : goal.returns-in_ok-fault_of_clap-in-Err-clause-refused
returns-in_ok-fault_of_clap-in-Err-clause-refused c =
    let words = map string_bytes c.args.words.now in
    let free = ap is_simple_and_free c.in_ok-program.ensures.shape ∙ is_free_octcheck in
    refused_as _ _ (HasNoCheck words) words _ _ c.in_ok-program.ensures.shape (c.in-Err.ensures.kinds free) c.in_ok-fault_of_clap-in-Err.ensures

pub returns-in-Ok-clause-refused : goal.returns-in-Ok-clause-refused
returns-in-Ok-clause-refused c =
    let words = map string_bytes c.args.words.now in
    let rows = rows_of (found_of c.in-Ok.matches) in
    let simple = ap is_simple c.in_ok-program.ensures.shape ∙ is_simple_octcheck in
    let free = ap is_simple_and_free c.in_ok-program.ensures.shape ∙ is_free_octcheck in
    let there = (c.in-Ok.ensures.matches simple).0 ∙ ap (λ a. matches_of a words) c.in_ok-program.ensures.shape in
    err_of (IsNoCheckOf rows) (IsRefusedBy octcheck_app (HasNoCheck words) words) c.check.result
    (λ fault n. not_given words rows fault
    (ap (λ a. fault_of a words) (sym c.in_ok-program.ensures.shape) ∙ c.in-Ok.ensures.kinds free)
    there n) c.check.ensures.none
