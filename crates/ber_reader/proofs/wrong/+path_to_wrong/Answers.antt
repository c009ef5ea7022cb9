use Rattle.std.proofs.Common.{arith, ◌<◌, refl, subst}
use Rattle.std.specs.Prelude.{Some}
use Rattle.asn_base.specs.Typed.{nodes}
use Rattle.views.specs.Tree.{value_of}
use Rattle.ber_reader.specs.Judged.{kind_at}
use Rattle.ber_reader.proofs.Plain.{on_ok}
use Rattle.ber_reader.proofs.Judging.{is_wrong, lead_itself, lead_within, part_less}
use Rattle.ber_reader.proofs.wrong.+path_to_wrong.Goals as goal

pub path_to_wrong-requires : goal.path_to_wrong-requires
path_to_wrong-requires t c =
    let q = part_less (kind_at c.args.code.now c.args.id.index) (value_of c.args.value.now) c.in-Some.ensures in
    (subst (λ n. nodes (value_of c.in-Some.wrong.value) < n) c.decreases q, omega (arith, q, c.requires))

pub returns-in_ok-push-in-Some : goal.returns-in_ok-push-in-Some
returns-in_ok-push-in-Some t c = λ n.
    on_ok c.path_to_wrong.result
    (lead_within (record { ty = c.args.id; part = Some c.in-Some.wrong.part; read = 0 }) refl refl c.in_ok-push-in-Some.ensures.items c.in-Some.ensures)
    (c.path_to_wrong.ensures (is_wrong c.in-Some.ensures))

pub returns-in-None : goal.returns-in-None
returns-in-None t c = λ n. lead_itself c.args.path.now.items n c.in-None.ensures
