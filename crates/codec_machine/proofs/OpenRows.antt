-- Events within an open row, before its end and after it.
use Rattle.std.proofs.Common.{◌≡◌, ℕ, List, [], ◌∷◌, ◌++◌, sym, subst, append_assoc, append-nil}
use Rattle.asn_base.specs.Abstract.{AbstractValue}
use Rattle.asn_base.specs.Types.{Resolved}
use Rattle.codec_code.specs.declared.step.Head.{Head as Head'}
use Rattle.codec_code.specs.declared.step.RowKind.TheVariants.{Sequence as SequenceRow}
use Rattle.codec_code.specs.declared.step.Step.{Step}
use Rattle.codec_code.specs.declared.step.Step.TheVariants.{Head, End}
use Rattle.codec_code.specs.Events.{Event, opens, closes}
use Rattle.codec_code.specs.Steps.{Steps, head, ending}
use Rattle.codec_machine.specs.declared.fault.RunFault.{RunFault}
use Rattle.codec_machine.specs.declared.open_row.OpenRow.{OpenRow}
use Rattle.codec_machine.specs.Frames.{EmitsSome, NoEvents, Progress}
use Rattle.codec_machine.specs.OpenRows.{Carries}
use Rattle.codec_machine.proofs.Inversion.{after_head, after_end}

module _ {S : Type 0} (opened : S → List Event → OpenRow → S → Type 0) (row : OpenRow) where
  pub carries_nothing : (b : S) → Carries opened row b [] b
  carries_nothing b a ds o = subst (λ q. opened a q row b) (sym (append-nil ds)) o

  pub carries_joins : (b c d : S) (es fs : List Event)
      → Carries opened row b es c
      → Carries opened row c fs d
      → Carries opened row b (es ++ fs) d
  carries_joins b c d es fs h k a ds o = subst (λ z. opened a z row d) (append_assoc ds es fs) (k a (ds ++ es) (h a ds o))

  module _ (s : List Resolved) (adds : S → List Event → S → Type 0) (t : ℕ) (v : AbstractValue) (h : Head') (ss left' : List Step)
      (a b c d : S) where
    -- the header, the steps within it, and other events at the end
    sequence_by : (es : List Event) (rest' : List Step)
        → h.row ≡ SequenceRow
        → opened a (opens h.tag h.constructed SequenceRow ∷ []) row b
        → (p : Progress (Carries opened row) (Steps s t ss v) b (Steps s t left' v) c)
        → ((ds : List Event) → opened a ds row c → adds a (ds ++ es) d)
        → ((ys : List Event) → Steps s t rest' v ys → Steps s t left' v (es ++ ys))
        → ((ys : List Event) → Steps s t left' v ys → EmitsSome (Steps s t rest' v))
        → Progress adds (Steps s t (Head h ∷ ss) v) a (Steps s t rest' v) d
    sequence_by es rest' kind o p last' more stays = record {
      events = opens h.tag h.constructed SequenceRow ∷ (p.events ++ es);
      added = last' (opens h.tag h.constructed SequenceRow ∷ p.events) (p.added a (opens h.tag h.constructed SequenceRow ∷ []) o);
      left = λ ys l.
          subst (λ q. Steps s t (Head h ∷ ss) v (opens h.tag h.constructed q ∷ ((p.events ++ es) ++ ys))) kind
          (head (subst (λ q. Steps s t ss v q) (sym (append_assoc p.events es ys)) (p.left (es ++ ys) (more ys l))));
      stays = λ ys l. let e = after_head l in let f = p.stays e.events e.emitted in stays f.events f.emitted;
    }

    pub sequence_ended : (rest' : List Step)
        → left' ≡ End ∷ rest'
        → h.row ≡ SequenceRow
        → opened a (opens h.tag h.constructed SequenceRow ∷ []) row b
        → Progress (Carries opened row) (Steps s t ss v) b (Steps s t left' v) c
        → ((z : S) (ds : List Event) → opened z ds row c → adds z (ds ++ closes ∷ []) d)
        → Progress adds (Steps s t (Head h ∷ ss) v) a (Steps s t rest' v) d
    sequence_ended rest' e kind o p closed =
        sequence_by (closes ∷ []) rest' kind o p (λ ds k. closed a ds k)
        (λ ys l. subst (λ q. Steps s t q v (closes ∷ ys)) (sym e) (ending l))
        (λ ys l. after_end (subst (λ q. Steps s t q v ys) e l))

    pub sequence_stopped : h.row ≡ SequenceRow
        → opened a (opens h.tag h.constructed SequenceRow ∷ []) row b
        → Progress (Carries opened row) (Steps s t ss v) b (Steps s t left' v) c
        → ((z : S) (ds : List Event) → opened z ds row c → adds z ds d)
        → Progress adds (Steps s t (Head h ∷ ss) v) a (Steps s t left' v) d
    sequence_stopped kind o p kept =
        sequence_by [] left' kind o p (λ ds k. subst (λ q. adds a q d) (sym (append-nil ds)) (kept a ds k))
        (λ ys l. l) (λ ys l. record { events = ys; emitted = l })

-- steps without events, after a header
pub sequence_refused : (s : List Resolved) (t : ℕ) (v : AbstractValue) (h : Head') (ss : List Step) (fault : RunFault)
    → NoEvents s t ss v fault
    → NoEvents s t (Head h ∷ ss) v fault
sequence_refused s t v h ss fault n e es d = let p = after_head d in n e p.events p.emitted
