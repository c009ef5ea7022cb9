use Rattle.std.proofs.Common.{rules, ◌≡◌, sym, subst, ◌∙◌}
use Rattle.decode_faults.specs.declared.read_fault.ReadFault.TheVariants.{Memory as no_memory}
use Rattle.asnc.specs.Reading.{IsReadFault}
use Rattle.asnc.proofs.reading.refusal.Goals as goal

pub returns-in-Ok : goal.returns-in-Ok
returns-in-Ok c =
    let other : c.args.fault ≡ no_memory → ⊥ = search rules in
    record {
      valid = λ r h.
          let i = h other in
          record {
            unread = subst (λ q. IsReadFault c.args.ty.code.now r c.args.ty.id.index c.args.octets.now q) (sym c.in-Ok.ensures.fault) i;
            stop_site = λ n. c.in-Ok.ensures.place (λ e. n (c.in-Ok.ensures.fault ∙ e));
            said = λ e. c.in-Ok.ensures.finding (sym c.in-Ok.ensures.fault ∙ e) (i.not_der (sym c.in-Ok.ensures.fault ∙ e)).1;
          };
    }
