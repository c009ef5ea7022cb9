use Rattle.std.proofs.Common.{◌≡◌, Err, sym, ap, ◌∙◌}
use Rattle.account_text.specs.declared.account_fault.AccountFault.TheVariants.{NotAccount}
use Rattle.account_text.specs.proving.Tokens.{list_first}
use Rattle.account_text.proofs.Reading.{after}
use Rattle.account_text.proofs.Injective.{after_list}
use Rattle.account_text.proofs.read.set.Goals as goal

pub returns-in-Err-places-clause-refused : goal.returns-in-Err-places-clause-refused
returns-in-Err-places-clause-refused c = λ e z n p q ts hz hn hp hq f.
    let same : c.in-Err-places.fault ≡ NotAccount = cc (e) in
    let lists : c.list.new.reader ≡ list_first p (list_first q ts) = ap (λ us. after (after (after (after us)))) (sym c.in-Some.ensures.2 ∙ f) in
    c.in-Err-places.ensures.refused (ap Err same) q ts hq
    (after_list c.in-Ok.found.items p c.places.new.reader (list_first q ts) c.in-Ok.ensures.read.0 hp (sym c.in-Ok.ensures.read.1 ∙ lists))
