use Rattle.ber_reader.proofs.Owing.{half_group, deep_sequence, deep_set}
use Rattle.ber_reader.proofs.law.lemma_faults_of_components.Goals as goal

pub returns : goal.returns
returns c = record { half_a_group = half_group; deep_sequence = deep_sequence; deep_set = deep_set }
