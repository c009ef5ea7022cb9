-- Runs of a routine, with a bound on the nesting of values.
use Rattle.std.proofs.Common.{arith, ◌≡◌, ℕ, suc, ◌+◌, ◌<◌, ◌≤◌, List, [], ◌∷◌, ◌++◌, length, refl, ap}
use Rattle.std.specs.Prelude.{Some, None, drop, take}
use Rattle.asn_base.specs.declared.tag.Tag.{Tag}
use Rattle.asn_base.specs.declared.schema.TypeId.{TypeId}
use Rattle.asn_base.specs.Types.{TypeNumber, Resolved, Kind, Is}
use Rattle.codec_code.specs.declared.step.Head.{Head as Head'}
use Rattle.encodings.specs.declared.leaf_kind.LeafKind.{LeafKind}
use Rattle.codec_code.specs.declared.step.Field.{Field as Field'}
use Rattle.codec_code.specs.declared.step.Step.{Step}
use Rattle.codec_code.specs.declared.step.Step.TheVariants.{Head, Leaf, Field, Pick, Rest, End}
use Rattle.codec_code.specs.Routines.{routine_at, routine_of, heads, row_of, body, ends}
use Rattle.codec_source.specs.Events.{begins, ends as ends'}
use Rattle.codec_source.specs.Reading.{Asks, head, ending, leaf, rest, left_out, field, pick, Does, finished, goes_on, reads}
use Rattle.octet_answers.specs.States.{State}
use Rattle.octet_answers.specs.Answers.{Takes, Begins, Ends, Opens, Closes, Holds, Skips, IsNext, IsAbsent, Chooses}

module _ (s : List Resolved) where
  -- the same as `Does`, with at most n levels of values
  pub data Runs : ℕ → List Step → State → State → Type 0 where
    run_ended : {n : ℕ} {x : State} → Runs n [] x x
    run_on : {n : ℕ} {ss following : List Step} {x y z : State}
        → Asks Takes ss x following None y
        → Runs n following y z
        → Runs n ss x z
    run_value : {n m : ℕ} {ss following : List Step} {t : TypeId} {x y a b c z : State}
        → m < n
        → Asks Takes ss x following (Some t) y
        → Takes y (begins t) a
        → Runs m (routine_at s t.index) a b
        → Takes b ends' c
        → Runs n following c z
        → Runs n ss x z

  wider : {n : ℕ} {ss : List Step} {x z : State} (m : ℕ) → n ≤ m → Runs n ss x z → Runs m ss x z
  wider m l run_ended = run_ended
  wider m l (run_on q d) = run_on q (wider m l d)
  wider m l (run_value lt q g r e d) = run_value (omega arith) q g r e (wider m l d)

  pub bounded : {ss : List Step} {x z : State} → Does (λ t. routine_at s t) Takes ss x z → (n : ℕ) × Runs n ss x z
  bounded finished = (0, run_ended)
  bounded (goes_on q d) = let r = bounded d in (r.0, run_on q r.1)
  bounded (reads q g i e d) =
      let v = bounded i in
      let r = bounded d in
      let n = suc v.0 + r.0 in
      (n, run_value {m = v.0} (omega arith) q g v.1 e (wider n (omega arith) r.1))

  -- a value, from before its begin to after its end
  pub record RunsValue (n : ℕ) (t : TypeId) (x z : State) : Type 0 where
    pub depth : ℕ
    pub less : depth < n
    pub first : State
    pub last : State
    pub begun : Begins x t first
    pub run : Runs depth (routine_at s t.index) first last
    pub ended : Ends last z

  pub head_run : {n : ℕ} {h : Head'} {ss : List Step} {x z : State} → Runs n (Head h ∷ ss) x z → (y : State) × Opens x h y × Runs n ss y z
  head_run (run_on {y = y} (head t) d) = (y, t.answer, d)
  head_run (run_value lt q g r e d) = elim q [ ]

  pub end_run : {n : ℕ} {ss : List Step} {x z : State} → Runs n (End ∷ ss) x z → (y : State) × Closes x y × Runs n ss y z
  end_run (run_on {y = y} (ending t) d) = (y, t.answer, d)
  end_run (run_value lt q g r e d) = elim q [ ]

  pub leaf_run : {n : ℕ} {k : LeafKind} {ss : List Step} {x z : State} → Runs n (Leaf k ∷ ss) x z → (y : State) × Holds x k y × Runs n ss y z
  leaf_run (run_on {y = y} (leaf t) d) = (y, t.answer, d)
  leaf_run (run_value lt q g r e d) = elim q [ ]

  pub rest_run : {n : ℕ} {ss : List Step} {x z : State} → Runs n (Rest ∷ ss) x z → (y : State) × Skips x y × Runs n ss y z
  rest_run (run_on {y = y} (rest t) d) = (y, t.answer, d)
  rest_run (run_value lt q g r e d) = elim q [ ]

  pub data FieldRun (n : ℕ) (f : Field') (ss : List Step) (x z : State) : Type 0 where
    run_absent : {y : State} → IsAbsent x f y → Runs n ss y z → FieldRun n f ss x z
    run_present : {y c : State} → IsNext x f y → RunsValue n f.ty y c → Runs n ss c z → FieldRun n f ss x z

  pub field_run : {n : ℕ} {f : Field'} {ss : List Step} {x z : State} → Runs n (Field f ∷ ss) x z → FieldRun n f ss x z
  field_run (run_on (left_out t) d) = run_absent t.answer d
  field_run (run_value {m = m} {a = a} {b = b} lt (field t) g r e d) = run_present t.answer (record { depth = m; less = lt; first = a; last = b; begun = g.answer; run = r; ended = e.answer }) d

  pub record PickRun (n k : ℕ) (ss : List Step) (x z : State) : Type 0 where
    pub type : TypeId
    pub next : State
    pub following : State
    pub chooses : Chooses x (take k ss) type next
    pub value : RunsValue n type next following
    pub rest : Runs n (drop k ss) following z

  pub pick_run : {n k : ℕ} {ss : List Step} {x z : State} → Runs n (Pick k ∷ ss) x z → PickRun n k ss x z
  pick_run (run_on q d) = elim q [ ]
  pick_run (run_value {m = m} {t = u} {y = y} {a = a} {b = b} {c = c} lt (pick t) g r e d) = record { type = u; next = y; following = c; chooses = t.answer; value = record { depth = m; less = lt; first = a; last = b; begun = g.answer; run = r; ended = e.answer }; rest = d }

  pub nothing_run : {n : ℕ} {x z : State} → Runs n [] x z → x ≡ z
  nothing_run run_ended = refl
  nothing_run (run_on q d) = elim q [ ]
  nothing_run (run_value lt q g r e d) = elim q [ ]

pub routine_is : (s : List Resolved) (t : TypeNumber) (tags : List Tag) (k : Kind) → Is s t tags k → routine_at s t ≡ heads tags (row_of k) ++ (body s k ++ ends (length tags))
unfolding routine_of
routine_is s t tags k i = ap (λ o. elim o [ None ↦ [] | Some r ↦ routine_of s r ]) i.found
