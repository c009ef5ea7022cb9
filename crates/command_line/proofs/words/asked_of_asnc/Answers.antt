use Rattle.std.proofs.Common.{◌≡◌, arith, ap, refl, sym, ◌∙◌, true, map, option_map, string_bytes}
use Rattle.clap.specs.Words.{is_simple, fault_of, found_of, rows_of, subcommand_of}
use Rattle.clap.specs.Faults.{is_simple_and_free}
use Rattle.clap.proofs.OnLiterals.{clap_on_literals}
use Rattle.command_line.specs.CommandLine.{asnc_app, HasNoJob, IsAsncCommand, IsCommandOf, IsNoJobOf, IsRefusedBy}
use Rattle.command_line.proofs.Found.{err_of, named_by, ok_of}
use Rattle.command_line.proofs.Refused.{refused_as, refused_where}
use Rattle.command_line.proofs.words.asked_of_asnc.Goals as goal

is_simple_asnc : is_simple asnc_app ≡ true
unfolding clap_on_literals
is_simple_asnc = refl

is_free_asnc : is_simple_and_free asnc_app ≡ true
unfolding clap_on_literals
is_free_asnc = refl

pub returns-in-Some-clause-asked : goal.returns-in-Some-clause-asked
returns-in-Some-clause-asked c =
    let words = map string_bytes c.args.words.now in
    let name = c.in-Some.name.now in
    let rows = rows_of (found_of c.in-Some.found.now) in
    let simple = ap is_simple c.in_ok-program.ensures.shape ∙ is_simple_asnc in
    let free = ap is_simple_and_free c.in_ok-program.ensures.shape ∙ is_free_asnc in
    let there = (c.in-Ok.ensures.matches simple).1 ∙ ap (λ a. subcommand_of a words) c.in_ok-program.ensures.shape in
    ok_of (IsCommandOf name rows) (IsAsncCommand words) c.command_of.result (λ command h. record {
      taken = ap (λ a. fault_of a words) (sym c.in_ok-program.ensures.shape) ∙ c.in-Ok.ensures.kinds free;
      name = name;
      called = ap (option_map (λ p. p.0)) (sym there) ∙ sym (named_by _) ∙ sym c.subcommand.ensures.name
          ∙ ap (option_map (λ p. p.0.now)) c.in-Some.is;
      rows = rows;
      found = grind (arith, there, c.subcommand.ensures.rows, c.in-Some.is);
      holds = h;
    }) c.command_of.ensures.command

pub returns-in_ok-fault_of_clap-in-Err-clause-refused : goal.returns-in_ok-fault_of_clap-in-Err-clause-refused
returns-in_ok-fault_of_clap-in-Err-clause-refused c =
    let words = map string_bytes c.args.words.now in
    let free = ap is_simple_and_free c.in_ok-program.ensures.shape ∙ is_free_asnc in
    refused_as _ _ (HasNoJob words) words _ _ c.in_ok-program.ensures.shape (c.in-Err.ensures.kinds free) c.in_ok-fault_of_clap-in-Err.ensures

pub returns-in-Some-clause-refused : goal.returns-in-Some-clause-refused
returns-in-Some-clause-refused c =
    let words = map string_bytes c.args.words.now in
    let name = c.in-Some.name.now in
    let rows = rows_of (found_of c.in-Some.found.now) in
    let simple = ap is_simple c.in_ok-program.ensures.shape ∙ is_simple_asnc in
    let free = ap is_simple_and_free c.in_ok-program.ensures.shape ∙ is_free_asnc in
    let there = (c.in-Ok.ensures.matches simple).1 ∙ ap (λ a. subcommand_of a words) c.in_ok-program.ensures.shape in
    err_of (IsNoJobOf name rows) (IsRefusedBy asnc_app (HasNoJob words) words) c.command_of.result
    (λ fault n. refused_where words name rows fault n
    (ap (λ a. fault_of a words) (sym c.in_ok-program.ensures.shape) ∙ c.in-Ok.ensures.kinds free)
    (ap (option_map (λ p. p.0)) (sym there) ∙ sym (named_by _) ∙ sym c.subcommand.ensures.name
    ∙ ap (option_map (λ p. p.0.now)) c.in-Some.is)
    (grind (arith, there, c.subcommand.ensures.rows, c.in-Some.is))) c.command_of.ensures.none
