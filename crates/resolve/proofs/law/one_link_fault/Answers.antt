use Rattle.resolve.proofs.OneLink.{Laws, one_link}
use Rattle.resolve.proofs.law.one_link_fault.Goals as goal

pub returns : goal.returns
returns c = λ ws e f a b.
    let law : Laws = record {
      apart = c.lemma_apart.ensures;
      table = c.lemma_one_table.ensures;
      names = c.lemma_name_faults_exclude.ensures;
      in_list = c.lemma_one_first_in_list.ensures;
      text = c.one_text.ensures;
      limit = c.one_first_fault-2.ensures.limit;
      few = c.one_first_fault-2.ensures.few;
      twice = c.one_first_fault-2.ensures.twice;
      different = c.one_first_fault-2.ensures.different;
      offers = c.one_first_fault-2.ensures.offers;
      numbering = c.one_first_fault.ensures.numbering;
      numbered = c.one_first_fault.ensures.numbered;
      many = c.one_first_fault.ensures.many;
      circle = c.one_first_fault.ensures.circle;
      unfolds = c.one_first_fault.ensures.unfolds;
      roots = c.lemma_numbered_there.ensures.roots;
    } in
    one_link ws law e f a b
