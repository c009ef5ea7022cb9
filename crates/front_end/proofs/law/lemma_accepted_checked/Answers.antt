use Rattle.front_end.proofs.law.lemma_accepted_checked.Goals as goal

pub returns : goal.returns
returns c = λ xs p a. record {
  read = c.lemma_modules_linked.ensures xs a.modules p a.are a.links;
  tagged = a.tagged;
  bounded = a.bounded;
  asked = a.asked;
}
