-- What the steps of a routine read with a state is what they read without one.
use Rattle.std.proofs.Common.{◌≡◌, ℕ, ◌-◌, ◌+◌, Bool, true, false, List, [], ◌∷◌, length, take, drop, refl, sym, ap, ◌∙◌}
use Rattle.std.specs.List.{AllByRecursion}
use Rattle.asn_base.specs.Abstract.{AbstractValue, fields, list}
use Rattle.asn_base.specs.Types.{Component, TypeNumber, Resolved}
use Rattle.asn_base.specs.Schemas.{components}
use Rattle.packed_encodings.specs.Lengths.{Bits}
use Rattle.packed_encodings.specs.Orders.{Member, Addition}
use Rattle.packed_encodings.specs.Computed.{kind_at}
use Rattle.packed_code.specs.declared.step.PackedField.{PackedField}
use Rattle.packed_code.specs.declared.step.PackedStep.{PackedStep}
use Rattle.packed_code.specs.declared.step.PackedStep.TheVariants as steps
use Rattle.packed_code.specs.Meaning.{next_fields}
use Rattle.packed_code.specs.Routines.{routine_at}
use Rattle.packed_encodings.specs.Weights.{characters}
use Rattle.packed_readings.specs.Leaves.{leaf_within}
use Rattle.packed_reader.specs.declared.part.Part.TheVariants.{Alternative as Alternative'}
use Rattle.packed_reader.specs.Readings.{Reading, read, refused, next, in_part, plain, Taken, taken}
use Rattle.packed_reader.specs.Structures.{ReadsValue, mark_from, presences_from, members_from, open_from, rest_from, in_pieces, pieces_from, no_row, with_members, members_in, row_of}
use Rattle.packed_reader.specs.Lists.{list_from}
use Rattle.packed_reader.specs.Values.{Chosen, in_root, added, alternative_of, chosen_value, elements_value, leaf_taken}
use Rattle.packed_reader.specs.Steps.{next_members, additions_in, structure_by, call_from, size_in, steps_from, value_by}
use Rattle.packed_reader.specs.proving.Running.{past, run_value, run_presences, run_members, run_rest, as_fields, run_structure, no_elements, run_list, as_list, run_chosen, run_fields, run_each, run_steps}
use Rattle.packed_reader.proofs.RunningState.{plus_none, past_by, past_is, same_read, Always, after, onto, nothing_asked, with_others, opened}
use Rattle.packed_reader.proofs.RunningMembers.{run_of, all_sent, presences_same, presences_many, in_turn, members_many, members_same}
use Rattle.packed_reader.proofs.RunningAdditions.{StepFits, next_fit, drop_fit, rows, rest_same}
use Rattle.packed_reader.proofs.RunningElements.{with_all, rows_same, list_same}
use Rattle.packed_reader.proofs.RunningFits.{steps_fit}

module _ (s : List Resolved) (l : ℕ) (value : ReadsValue) where
  module _ (cs : List Component) (m : ℕ) (ss : List PackedStep) (fit : AllByRecursion (StepFits cs) ss) where
    abbrev fs : List PackedField
    fs = next_fields m ss

    abbrev root : List (Member ℕ)
    root = next_members cs m ss

    abbrev more : List (Addition ℕ)
    more = additions_in cs (drop m ss)

    -- after the bits that say which components are present
    root_same : (c : Bool) (k n : ℕ) (o : Reading (List Bool)) → Always (λ q. length q ≡ length root) o
        → next (next o (λ q x. read (all_sent fs q) x)) (λ xs x. next (run_members s l (run_of value) cs xs (no_row cs) k n x) (λ w y. run_rest s l (run_of value) cs c (drop m ss) w.it w.skipped w.left y))
        ≡ past_by (row_of cs root more) k (next o (λ q x. next (members_from s l value root q n x) (λ t y. next (rest_from s l value c more t.left y) (λ rs z. read (in_pieces t rs) z))))
    root_same c k n (refused e x) a = refl
    root_same c k n (read q x) a =
        onto (λ t. length t.it ≡ length root) (λ vs. with_members root vs (no_row cs)) (row_of cs root more) k
        (members_from s l value root q n x)
        (run_members s l (run_of value) cs (all_sent fs q) (no_row cs) k n x)
        (λ t y. next (rest_from s l value c more t.left y) (λ rs z. read (in_pieces t rs) z))
        (λ w y. run_rest s l (run_of value) cs c (drop m ss) w.it w.skipped w.left y)
        (members_many s l value root q n x a)
        (members_same s l value cs fs q (no_row cs) k n x (next_fit cs m ss fit))
        (λ t y e. rest_same s l value cs c (drop m ss) (with_members root t.it (no_row cs)) (k + t.skipped) t.left y (drop_fit cs m ss fit)
        ∙ with_others (rows more (with_members root t.it (no_row cs))) (row_of cs root more) k t.skipped (λ rs. record { root = t.it; more = rs }) (rest_from s l value c more t.left y) (λ rs. in_turn root (members_in more) t.it (members_in rs) (no_row cs) e))

    structure_same : (e : Bool) (k n : ℕ) (b : Bits) → run_structure s l (run_of value) cs e m ss k n b ≡ past_by (row_of cs root more) k (pieces_from s l value e root more n b)
    structure_same e k n b =
        after (row_of cs root more) k (mark_from e b)
        (λ c r. next (presences_from root r) (λ q x. next (members_from s l value root q n x) (λ t y. next (rest_from s l value c more t.left y) (λ rs z. read (in_pieces t rs) z))))
        (λ c r. next (run_presences [] fs r) (λ xs x. next (run_members s l (run_of value) cs xs (no_row cs) k n x) (λ w y. run_rest s l (run_of value) cs c (drop m ss) w.it w.skipped w.left y)))
        (λ c r. ap (λ o. next o (λ xs x. next (run_members s l (run_of value) cs xs (no_row cs) k n x) (λ w y. run_rest s l (run_of value) cs c (drop m ss) w.it w.skipped w.left y))) (presences_same cs [] fs r (next_fit cs m ss fit))
        ∙ root_same c k n (presences_from root r) (presences_many root r))

  module _ (t : TypeNumber) where
    fields_same : (e : Bool) (m : ℕ) (ss : List PackedStep) (k n : ℕ) (b : Bits) → AllByRecursion (StepFits (components (kind_at s t))) ss → run_fields s l (run_of value) t e m ss k n b ≡ past_by (λ x. x) k (structure_by s l value t e m ss n b)
    fields_same e m ss k n b fit =
        let cs = components (kind_at s t) in
        let root = next_members cs m ss in
        let more = additions_in cs (drop m ss) in
        onto (λ p. Unit {0}) (row_of cs root more) (λ x. x) k
        (pieces_from s l value e root more n b)
        (run_structure s l (run_of value) cs e m ss k n b)
        (λ p r. read (taken (fields (row_of cs root more p.it)) p.skipped p.left) r)
        (λ w r. read (as_fields w) r)
        (nothing_asked (pieces_from s l value e root more n b))
        (structure_same cs m ss fit e k n b)
        (λ p r u. refl)

    each_same : (sorted : Bool) (u : TypeNumber) (k n : ℕ) (b : Bits) → run_each s (run_of value) t sorted u k n b ≡ past_by (λ x. x) k (next (list_from (value u) sorted (size_in (kind_at s t)) n b) (λ w r. read (elements_value w) r))
    each_same sorted u k n b =
        onto (λ w. Unit {0}) (with_all no_elements) (λ x. x) k
        (list_from (value u) sorted (size_in (kind_at s t)) n b)
        (run_list (run_of value u) sorted (size_in (kind_at s t)) k n b)
        (λ w r. read (elements_value w) r)
        (λ w r. read (as_list w) r)
        (nothing_asked (list_from (value u) sorted (size_in (kind_at s t)) n b))
        (list_same (value u) sorted (size_in (kind_at s t)) k n b)
        (λ w r x. ap (λ q. read (taken (list q) (k + w.skipped) w.left) r) (rows_same w.it))

    chosen_same : (c : Chosen) (k n : ℕ) (b : Bits) → run_chosen (run_of value) c k n b ≡ past_by (λ x. x) k (chosen_value value c n b)
    chosen_same (in_root i u) k n b = by (value u n b)
      where
        by : (o : Reading (Taken AbstractValue)) → next (in_part (Alternative' i) (past k o)) (λ w r. read (alternative_of i w) r) ≡ past_by (λ x. x) k (next (in_part (Alternative' i) o) (λ w r. read (alternative_of i w) r))
        by (read w r) = refl
        by (refused e r) = refl
    chosen_same (added i u) k n b =
        ap (λ o. next (in_part (Alternative' i) o) (λ w r. read (alternative_of i w) r)) (opened (λ x. x) k (value u n) (run_of value u k n) (λ b. past_is k (value u n b)) b)
        ∙ by (open_from (value u n) b)
      where
        by : (o : Reading (Taken AbstractValue)) → next (in_part (Alternative' i) (past_by (λ x. x) k o)) (λ w r. read (alternative_of i w) r) ≡ past_by (λ x. x) k (next (in_part (Alternative' i) o) (λ w r. read (alternative_of i w) r))
        by (read w r) = refl
        by (refused e r) = refl

    leaf_same : (k n : ℕ) (b : Bits) → next (plain (leaf_within n (kind_at s t) b)) (λ v r. read (taken v k (n - characters v)) r) ≡ past_by (λ x. x) k (next (plain (leaf_within n (kind_at s t) b)) (λ v r. read (leaf_taken n v) r))
    leaf_same k n b = after (λ x. x) k (plain (leaf_within n (kind_at s t) b)) (λ v r. read (leaf_taken n v) r) (λ v r. read (taken v k (n - characters v)) r) (λ v r. same_read (n - characters v) r refl (plus_none k))

    -- any steps that fit the type
    pub steps_same : (ss : List PackedStep) (k n : ℕ) (b : Bits) → AllByRecursion (StepFits (components (kind_at s t))) ss → run_steps s l (run_of value) t ss k n b ≡ past_by (λ x. x) k (steps_from s l value t ss n b)
    steps_same (steps.ExtensionBit i ∷ (steps.Map m ∷ ss)) k n b fit = fields_same true m ss k n b fit.1.1
    steps_same (steps.Map m ∷ ss) k n b fit = fields_same false m ss k n b fit.1
    steps_same (steps.Each u ∷ ss) k n b fit = each_same false u.index k n b
    steps_same (steps.EachSorted u ∷ ss) k n b fit = each_same true u.index k n b
    steps_same (steps.Pick i ∷ ss) k n b fit = after (λ x. x) k (plain (call_from (take i ss) b)) (λ c r. chosen_value value c n r) (λ c r. run_chosen (run_of value) c k n r) (λ c r. chosen_same c k n r)
    steps_same [] k n b fit = refl
    steps_same (st ∷ ss) k n b fit = leaf_same k n b

pub runs_same : (s : List Resolved) (l t k n : ℕ) (b : Bits) → run_steps s l (run_value s l) t (routine_at s t) k n b ≡ past k (steps_from s l (value_by s l) t (routine_at s t) n b)
runs_same s l t k n b = steps_same s l (value_by s l) t (routine_at s t) k n b (steps_fit s t) ∙ sym (past_is k (steps_from s l (value_by s l) t (routine_at s t) n b))
