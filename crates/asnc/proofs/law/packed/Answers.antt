use Rattle.asnc.proofs.law.packed.Goals as goal

pub returns : goal.returns
returns c = λ xs p s first second o a w.
    let m = w.message in
    let r = c.writing_laws.ensures.message s w.type w.value m.bits o m.value m.light m.packed m.filled in
    record {
      program = p;
      types = s;
      accepted = a;
      type = w.type;
      within = w.meant.within;
      notation = w.meant.notation;
      named = w.meant.named;
      value = w.value;
      is_so = w.meant.is_so;
      is = m.value;
      bits = m.bits;
      packed = m.packed;
      filled = m.filled;
      only = m.only;
      back = r.0;
      same = r.1;
      reads = r.2;
      sole = λ v k q. c.message_laws.ensures.one_value s w.type k 0 v r.0 o a.types.accepted q r.2;
    }
