-- Elements that a source reads at once, and the front of one more, as what they do to frames.
use Rattle.std.proofs.Common.{arith, ◌≡◌, ℕ, ◌<◌, ◌≤◌, false, List, [], ◌∷◌, ◌++◌, length, refl, sym, ap, subst}
use Rattle.std.specs.Prelude.{Option, Some, None, MatchOption}
use Rattle.asn_base.specs.declared.schema.TypeId.{TypeId}
use Rattle.codec_code.specs.declared.step.Step.{Step}
use Rattle.codec_code.specs.declared.step.Step.TheVariants.{Each, Head}
use Rattle.codec_source.specs.declared.frame.Frame.{Frame}
use Rattle.codec_source.specs.Events.{Event, begins, IsOneAnswer, Question}
use Rattle.codec_source.specs.Reading.{element}
use Rattle.codec_source.specs.proving.Frames.{Same, Goes, Before, ThenBefore, GoesStop, BeforeStops, weighs}
use Rattle.codec_source.specs.proving.Wholes.{Chain, ReadsElement, ReadsInto, ReadsOn, StepsInto}
use Rattle.codec_source.proofs.Running.{same_then, asked_before, called_before, goes_at, less_two, less_called}
use Rattle.codec_source.proofs.Halting.{asked_stops, called_stops_before, stops_at}
use Rattle.codec_source.proofs.Heads.{head_opened, opened_stops}
use Rattle.codec_source.proofs.Smalls.{elements_next, on_turned, on_after, on_no_more, on_few}

pub either : {A : Type 0} {P Q : Type 0} {M N : A → Type 0} (o : Option A) → (P → Q) → ((a : A) → M a → N a) → MatchOption o P M → MatchOption o Q N
either None f g h = f h
either (Some a) f g h = g a h

module _ {S : Type 0} (r : ℕ → List Step) (takes : S → Event → S → Type 0) where
  pub steps_asked : {ss : List Step} {t : TypeId} {following : List Step} {x z : S} → ss ≡ Each t ∷ following → Chain (ReadsElement r takes t false) x z → ReadsOn r takes ss ss x z
  steps_asked {x = x} {z = z} e d = subst (λ q. ReadsOn r takes q q x z) (sym e) (elements_next r takes d)

  pub steps_into : {ss left : List Step} (t : TypeId) (following : List Step) {x z : S} → ss ≡ Each t ∷ following → ReadsInto r takes t left x z → StepsInto r takes ss left x z
  steps_into t following e v = record { type = t; following = following; is = e; into = v }

  pub into_turned : IsOneAnswer takes → (olds mids : List Frame) (f g : Frame) (x z : S) → StepsInto r takes f.steps.now g.steps.now x z → mids ≡ olds ++ f ∷ [] → Same (Before r takes f.steps.now olds x) (Goes r takes (mids ++ g ∷ []) z)
  into_turned one olds mids f g x z v e =
      let u = v.into in
      let w = u.front in
      let ss = Each v.type ∷ v.following in
      let whole = Head w.header ∷ w.fields in
      let wholes : Same (Before r takes ss olds x) (Before r takes ss olds u.front_at) = on_turned r takes one olds (elements_next r takes u.wholes) in
      let asked : Same (Before r takes ss olds u.front_at) (ThenBefore r takes (Some v.type) ss olds w.next_at) = asked_before r takes one ss ss (Some v.type) olds u.front_at w.next_at (element w.is_next) in
      let called : Same (ThenBefore r takes (Some v.type) ss olds w.next_at) (Before r takes whole mids w.begun_at) = called_before r takes one v.type ss whole olds mids f w.next_at w.begun_at e v.is (sym w.routine) w.begun in
      let opened : Same (Before r takes whole mids w.begun_at) (Before r takes w.fields mids w.opened_at) = head_opened r takes one whole w.fields w.header mids refl w.begun_at w.opened_at w.opened in
      let read : Same (Before r takes w.fields mids w.opened_at) (Before r takes g.steps.now mids z) = on_turned r takes one mids w.read in
      let goes : Same (Before r takes g.steps.now mids z) (Goes r takes (mids ++ g ∷ []) z) = goes_at r takes one (mids ++ g ∷ []) mids g z refl in
      subst (λ q. Same (Before r takes q olds x) (Goes r takes (mids ++ g ∷ []) z)) (sym v.is)
      (same_then wholes (same_then asked (same_then called (same_then opened (same_then read goes)))))

  pub into_stops : (refuses : S → Question → S → Type 0) (olds mids : List Frame) (f g : Frame) (x z y : S) → StepsInto r takes f.steps.now g.steps.now x z → mids ≡ olds ++ f ∷ [] → GoesStop r takes refuses (mids ++ g ∷ []) z y → BeforeStops r takes refuses f.steps.now olds x y
  into_stops refuses olds mids f g x z y v e s =
      let u = v.into in
      let w = u.front in
      let ss = Each v.type ∷ v.following in
      let whole = Head w.header ∷ w.fields in
      let last : BeforeStops r takes refuses g.steps.now mids z y = stops_at r takes refuses (mids ++ g ∷ []) mids g z y refl s in
      let read : BeforeStops r takes refuses w.fields mids w.opened_at y = on_after r takes refuses mids y w.read last in
      let opened : BeforeStops r takes refuses whole mids w.begun_at y = opened_stops r takes refuses whole w.fields w.header mids refl w.begun_at w.opened_at y w.opened read in
      let called = called_stops_before r takes refuses v.type ss whole olds mids f w.next_at w.begun_at y e v.is (sym w.routine) w.begun opened in
      let asked : BeforeStops r takes refuses ss olds u.front_at y = asked_stops r takes refuses ss ss (Some v.type) olds u.front_at w.next_at y (element w.is_next) called in
      let wholes : BeforeStops r takes refuses ss olds x y = on_after r takes refuses olds y (elements_next r takes u.wholes) asked in
      subst (λ q. BeforeStops r takes refuses q olds x y) (sym v.is) wholes

  pub into_less : (budget : S → ℕ) (spends : (a b : S) (t : TypeId) → takes a (begins t) b → budget b < budget a) (keeps : (a b : S) (e : Event) → takes a e b → budget b ≤ budget a) (l : ℕ) (olds mids : List Frame) (f g : Frame) (x z : S) → ((t : ℕ) → length (r t) ≤ l) → StepsInto r takes f.steps.now g.steps.now x z → mids ≡ olds ++ f ∷ [] → weighs l (budget z) (mids ++ g ∷ []) < weighs l (budget x) (olds ++ f ∷ [])
  into_less budget spends keeps l olds mids f g x z small v e =
      let u = v.into in
      let w = u.front in
      let a = on_no_more r takes budget spends keeps (elements_next r takes {ss = v.following} u.wholes) in
      let b = keeps u.front_at w.next_at _ w.is_next in
      let c = spends w.next_at w.begun_at v.type w.begun in
      let d = keeps w.begun_at w.opened_at _ w.opened in
      let k = on_no_more r takes budget spends keeps w.read in
      let lt : budget z < budget x = omega (arith, a, b, c, d, k) in
      let few = on_few r takes budget spends keeps w.read in
      let m = small v.type.index in
      let n = ap length w.routine in
      let child : length g.steps.now ≤ l = omega (arith, few, m, n) in
      let two = less_two l (budget x) (budget z) (length f.steps.now) olds mids f g lt e refl child in
      less_called l (budget x) (budget x) (budget z) (length f.steps.now) olds (mids ++ g ∷ []) f two (omega arith) (omega arith)
