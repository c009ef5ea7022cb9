use Rattle.std.proofs.Common.{◌≡◌, [], map, sym, ap, ◌∙◌, subst, option_map, unwrap_or, string_bytes}
use Rattle.std.specs.Prelude.{IfOk}
use Rattle.clap.specs.Words.{found_of}
use Rattle.clap.proofs.WalkLemmas.{raw_values-rows}
use Rattle.command_line.proofs.arguments.files_of.Goals as goal

pub returns-in-Some : goal.returns-in-Some
returns-in-Some c =
    subst (λ ts. IfOk c.texts_of.result (λ v. map string_bytes v.items ≡ ts))
    (ap (λ o. unwrap_or o []) (sym (ap (option_map (λ s. map (λ v. v.now) s.now)) c.in-Some.is) ∙ c.get_strs.ensures ∙ raw_values-rows (found_of c.args.found.now) c.args.id.now)) c.texts_of.ensures

pub returns-in-None : goal.returns-in-None
returns-in-None c =
    ap (map string_bytes) c.new.ensures.items
    ∙ ap (λ o. unwrap_or o []) (sym (ap (option_map (λ s. map (λ v. v.now) s.now)) c.in-None.is) ∙ c.get_strs.ensures ∙ raw_values-rows (found_of c.args.found.now) c.args.id.now)
