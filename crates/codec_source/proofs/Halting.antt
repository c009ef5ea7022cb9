-- The frames at which a run stops.
use Rattle.std.proofs.Common.{arith, ◌≡◌, inl, inr, ℕ, ◌<◌, List, [], ◌∷◌, ◌++◌, length, refl, sym, subst}
use Rattle.std.specs.Prelude.{Option, Some, None, Result, Ok, Err, IfErr}
use Rattle.asn_base.specs.declared.schema.TypeId.{TypeId}
use Rattle.codec_code.specs.declared.step.Step.{Step}
use Rattle.decode_faults.specs.declared.read_fault.ReadFault.{ReadFault}
use Rattle.decode_faults.specs.declared.read_fault.ReadFault.TheVariants.{Memory}
use Rattle.codec_source.specs.declared.frame.Frame.{Frame}
use Rattle.codec_source.specs.Events.{Event, begins, ends, Question, to_begin, to_end}
use Rattle.codec_source.specs.Reading.{Asks, Does, finished, goes_on, reads}
use Rattle.codec_source.specs.Stopping.{AsksNothing, asked, unanswered, answered, stops_on, not_begun, stops_within, not_ended, stops_after, StopsReading}
use Rattle.codec_source.specs.proving.Frames.{IfRefusedWith, Rests, Goes, RestsStop, GoesStop, BeforeStops, Then, ThenBeforeStops}

pub no_memory_with : {A : Type 0} (P : ReadFault → Type 0) (q : Result A ReadFault) → IfErr q (λ e. e ≡ Memory) → IfRefusedWith q P
no_memory_with P (Ok a) m = m
no_memory_with P (Err e) m = λ other. absurd (other m)

pub refused_with : {A : Type 0} {P Q : ReadFault → Type 0} (q : Result A ReadFault) → ((e : ReadFault) → P e → Q e) → IfRefusedWith q P → IfRefusedWith q Q
refused_with (Ok a) f p = p
refused_with (Err e) f p = λ other. f e (p other)

module _ {S : Type 0} (r : ℕ → List Step) (takes : S → Event → S → Type 0) (refuses : S → Question → S → Type 0) where
  then_does : {ss b : List Step} (t : Option TypeId) {x y w : S} → Asks takes ss x b t y → Then r takes t b y w → Does r takes ss x w
  then_does None a d = goes_on a d
  then_does (Some t) a d = reads a d.3 d.4 d.5 d.6

  pub asked_stops : (ss b : List Step) (t : Option TypeId) (fs : List Frame) (x y z : S) → Asks takes ss x b t y → ThenBeforeStops r takes refuses t b fs y z → BeforeStops r takes refuses ss fs x z
  asked_stops ss b t fs x y z a (inl (inl s)) = inl (inl (answered a s))
  asked_stops ss b t fs x y z a (inl (inr (w, d, n, l))) = inl (inr (w, then_does t a d, n, l))
  asked_stops ss b t fs x y z a (inr (u, (w, d, e), g)) = inr (u, (w, then_does t a d, e), g)

  -- no value is called
  pub before_none : (b : List Step) (fs : List Frame) (y z : S) → BeforeStops r takes refuses b fs y z → ThenBeforeStops r takes refuses None b fs y z
  before_none b fs y z (inl (inl s)) = inl (inl (stops_on s))
  before_none b fs y z (inl (inr q)) = inl (inr q)
  before_none b fs y z (inr q) = inr q

  pub nothing_asked : (ss : List Step) (fs : List Frame) (x z : S) → 0 < length ss → AsksNothing takes ss x → refuses x (asked ss) z → BeforeStops r takes refuses ss fs x z
  nothing_asked [] fs x z m n l = absurd (omega arith)
  nothing_asked (s ∷ ss) fs x z m n l = inl (inl (unanswered n l))

  pub none_ended : (ss : List Step) (fs : List Frame) (x z : S) → length ss ≡ 0 → ((y : S) → takes x ends y → ⊥) → refuses x to_end z → BeforeStops r takes refuses ss fs x z
  none_ended [] fs x z m n l = inl (inr (x, finished, n, l))
  none_ended (s ∷ ss) fs x z m n l = absurd (omega arith)

  -- the value of the last frame ended
  pub ended_stops : (ss : List Step) (fs : List Frame) (x y z : S) → length ss ≡ 0 → takes x ends y → GoesStop r takes refuses fs y z → BeforeStops r takes refuses ss fs x z
  ended_stops [] fs x y z m e g = inr (y, (x, finished, e), g)
  ended_stops (s ∷ ss) fs x y z m e g = absurd (omega arith)

  -- the last frame goes on, the others wait
  stops_at_last : (fs : List Frame) (f : Frame) (x z : S) → GoesStop r takes refuses (fs ++ f ∷ []) x z → BeforeStops r takes refuses f.steps.now fs x z
  stops_at_last [] f x z (inl n) = absurd n
  stops_at_last [] f x z (inr (y, e, s)) = inl (subst (λ q. RestsStop r takes refuses f.steps.now q z) (sym e) s)
  stops_at_last (g ∷ fs) f x z (inl s) = by (stops_at_last fs f x z s)
    where
      by : BeforeStops r takes refuses f.steps.now fs x z → BeforeStops r takes refuses f.steps.now (g ∷ fs) x z
      by (inl q) = inl q
      by (inr (y, d, h)) = inr (y, d, inl h)
  stops_at_last (g ∷ fs) f x z (inr (y, d, s)) =
      let i = goes_first fs f x y d in
      inr (i.0, i.1, inr (y, i.2, s))
    where
      goes_first : (fs : List Frame) (f : Frame) (x z : S) → Goes r takes (fs ++ f ∷ []) x z → (y : S) × Rests r takes f.steps.now x y × Goes r takes fs y z
      goes_first [] f x z d = (z, subst (λ q. Rests r takes f.steps.now q z) (sym d.1) d.2, refl)
      goes_first (g ∷ fs) f x z d =
          let i = goes_first fs f x d.0 d.1 in
          (i.0, i.1, (d.0, i.2, d.2))

  pub stops_at : (news fs : List Frame) (f : Frame) (x z : S) → news ≡ fs ++ f ∷ [] → GoesStop r takes refuses news x z → BeforeStops r takes refuses f.steps.now fs x z
  stops_at news fs f x z e g = stops_at_last fs f x z (subst (λ q. GoesStop r takes refuses q x z) e g)

  stops_from : (fs : List Frame) (f : Frame) (x z : S) → BeforeStops r takes refuses f.steps.now fs x z → GoesStop r takes refuses (fs ++ f ∷ []) x z
  stops_from [] f x z (inl s) = inr (x, refl, s)
  stops_from [] f x z (inr (y, d, n)) = absurd n
  stops_from (g ∷ fs) f x z (inl s) = inl (stops_from fs f x z (inl s))
  stops_from (g ∷ fs) f x z (inr (y, d, inl h)) = inl (stops_from fs f x z (inr (y, d, h)))
  stops_from (g ∷ fs) f x z (inr (y, d, inr (w, e, s))) = inr (w, goes_all fs f x w (y, d, e), s)
    where
      goes_all : (fs : List Frame) (f : Frame) (x z : S) → (y : S) × Rests r takes f.steps.now x y × Goes r takes fs y z → Goes r takes (fs ++ f ∷ []) x z
      goes_all [] f x z d = (x, refl, subst (λ q. Rests r takes f.steps.now x q) d.2 d.1)
      goes_all (g ∷ fs) f x z d = (d.2.0, goes_all fs f x d.2.0 (d.0, d.1, d.2.1), d.2.2)

  pub stops_with : (news fs : List Frame) (f : Frame) (x z : S) → news ≡ fs ++ f ∷ [] → BeforeStops r takes refuses f.steps.now fs x z → GoesStop r takes refuses news x z
  stops_with news fs f x z e g = subst (λ q. GoesStop r takes refuses q x z) (sym e) (stops_from fs f x z g)

  pub none_begun_stops : (t : TypeId) (b : List Step) (fs : List Frame) (x z : S) → ((a : S) → takes x (begins t) a → ⊥) → refuses x (to_begin t) z → ThenBeforeStops r takes refuses (Some t) b fs x z
  none_begun_stops t b fs x z n l = inl (inl (not_begun n l))

  -- a value begins above the steps that go on after it
  pub called_stops_before : (t : TypeId) (b ss : List Step) (olds mids : List Frame) (f : Frame) (x y z : S) → mids ≡ olds ++ f ∷ [] → f.steps.now ≡ b → ss ≡ r t.index → takes x (begins t) y → BeforeStops r takes refuses ss mids y z → ThenBeforeStops r takes refuses (Some t) b olds x z
  called_stops_before t b ss olds mids f x y z e fs gs k s = inner (subst (λ q. BeforeStops r takes refuses q mids y z) gs s)
    where
      outer : (w c : S) → Does r takes (r t.index) y w → takes w ends c → BeforeStops r takes refuses b olds c z → ThenBeforeStops r takes refuses (Some t) b olds x z
      outer w c d i (inl (inl q)) = inl (inl (stops_after k d i q))
      outer w c d i (inl (inr (v, d2, n, l))) = inl (inr (v, (y, w, c, k, d, i, d2), n, l))
      outer w c d i (inr (u, (v, d2, e2), q)) = inr (u, (v, (y, w, c, k, d, i, d2), e2), q)

      inner : BeforeStops r takes refuses (r t.index) mids y z → ThenBeforeStops r takes refuses (Some t) b olds x z
      inner (inl (inl q)) = inl (inl (stops_within k q))
      inner (inl (inr (w, d, n, l))) = inl (inl (not_ended k d n l))
      inner (inr (c, (w, d, i), q)) = outer w c d i (subst (λ j. BeforeStops r takes refuses j olds c z) fs (stops_at mids olds f c z e q))

  -- the start of a run
  pub started_stops : (t : TypeId) (f : Frame) (mids news : List Frame) (x y z : S) → mids ≡ [] → news ≡ mids ++ f ∷ [] → f.steps.now ≡ r t.index → takes x (begins t) y → GoesStop r takes refuses news y z → StopsReading r takes refuses t x z
  started_stops t f mids news x y z m e s k g = by (subst (λ q. BeforeStops r takes refuses q mids y z) s (stops_at news mids f y z e g))
    where
      by : BeforeStops r takes refuses (r t.index) mids y z → StopsReading r takes refuses t x z
      by (inl (inl q)) = stops_within k q
      by (inl (inr (w, d, n, l))) = not_ended k d n l
      by (inr (c, d, q)) = absurd (subst (λ j. GoesStop r takes refuses j c z) m q)
