use Rattle.asnc.proofs.law.judged.Goals as goal

pub returns-clause-account : goal.returns-clause-account
returns-clause-account c = λ xs p s first second o text a ok w r. record {
  program = p;
  types = s;
  accepted = ok;
  on = record {
    type = w.type;
    value = w.value;
    meant = w.meant;
    described = a;
    read = r;
    verdict = record { value = w.encoding.value; describes = w.describes };
  };
}

pub returns-clause-text : goal.returns-clause-text
returns-clause-text c = λ xs p s first second text ok u w. record {
  program = p;
  types = s;
  accepted = ok;
  on = record {
    type = w.encoded.type;
    value = w.encoded.value;
    meant = w.encoded.meant;
    described = w.account;
    read = record { utf8 = u; is = w.text_of };
    verdict = record { value = w.encoded.encoding.value; describes = w.encoded.describes };
  };
}
