use Rattle.encodings.proofs.Theorems.{one_value, one_ber, same_of_der, none_begins_another}
use Rattle.encodings.proofs.encoding_law.reading_laws.Goals as goal

pub returns : goal.returns
returns c =
    let q = c.lemma_sameness.ensures in
    record { one_value = one_value; ber = one_ber q.turned q.joined; der = same_of_der q.turned q.joined; none_begins_another = none_begins_another }
