use Rattle.packed_reader.specs.proving.Running.{run_value, run_group_inside}
use Rattle.packed_reader.proofs.Inside.{left_by_value, left_by_fault, value_leaves, group_leaves}
use Rattle.packed_reader.proofs.laws_of_running.inside_laws.Goals as goal

pub returns-clause-value_read : goal.returns-clause-value_read
returns-clause-value_read c = λ s l t k n b r w i h. left_by_value b r w (run_value s l t k n b)
    (value_leaves s l t k n b (c.value_laws.ensures s l t n i) (c.step_laws.ensures s l t n b i)) h

pub returns-clause-value_refused : goal.returns-clause-value_refused
returns-clause-value_refused c = λ s l t k n b r e i h. left_by_fault b r e (run_value s l t k n b)
    (value_leaves s l t k n b (c.value_laws.ensures s l t n i) (c.step_laws.ensures s l t n b i)) h

pub returns-clause-group_read : goal.returns-clause-group_read
returns-clause-group_read c = λ s l k n cs fs ws b r w i h. left_by_value b r w (run_group_inside s l (run_value s l) cs fs ws k n b)
    (group_leaves s l (run_value s l) (λ t j m z. value_leaves s l t j m z (c.value_laws.ensures s l t m i) (c.step_laws.ensures s l t m z i)) cs fs ws k n b) h

pub returns-clause-group_refused : goal.returns-clause-group_refused
returns-clause-group_refused c = λ s l k n cs fs ws b r e i h. left_by_fault b r e (run_group_inside s l (run_value s l) cs fs ws k n b)
    (group_leaves s l (run_value s l) (λ t j m z. value_leaves s l t j m z (c.value_laws.ensures s l t m i) (c.step_laws.ensures s l t m z i)) cs fs ws k n b) h
