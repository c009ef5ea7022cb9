use Rattle.judging.proofs.law.lemma_yes_alone.Goals as goal

pub returns : goal.returns
returns c = λ xs first second o account j.
    let k = c.lemma_accepted_checked.ensures xs j.program j.accepted.accepted in
    let m = j.on.meant in
    let v = c.lemma_values_of_schema.ensures j.program j.types m.within j.on.type m.notation j.on.value k j.accepted.types m.is_so in
    record {
      program = j.program;
      types = j.types;
      accepted = j.accepted;
      type = j.on.type;
      within = m.within;
      notation = m.notation;
      named = m.named;
      value = j.on.value;
      is_so = m.is_so;
      is = v;
      unsorted = c.account_laws.ensures.unsorted j.types j.on.type j.on.value o j.on.described j.accepted.types.accepted v.shaped j.on.verdict.describes;
      shortest = c.account_laws.ensures.shortest j.types j.on.type j.on.value o j.on.described j.accepted.types.accepted v.shaped j.on.verdict.describes;
    }
