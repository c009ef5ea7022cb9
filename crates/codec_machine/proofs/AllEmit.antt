-- What frames stand for.
use Rattle.std.proofs.Common.{◌≡◌, ℕ, ◌+◌, ◌≤◌, List, [], ◌∷◌, ◌++◌, refl, sym, ap, subst, ◌∙◌, arith, append_assoc, append-nil}
use Rattle.asn_base.specs.Types.{Resolved}
use Rattle.codec_code.specs.Events.{Event}
use Rattle.codec_machine.specs.declared.fault.RunFault.{RunFault}
use Rattle.codec_machine.specs.declared.frame.Frame.{Frame}
use Rattle.codec_machine.specs.Weights.{total}
use Rattle.codec_machine.specs.Frames.{FrameEmits, AllEmit, EmitsSome, EmitsNothing, frame_weight, weighs, Acted, Turned}

record Parted (s : List Resolved) (olds news : List Frame) (rest : List Event) : Type 0 where
  first : List Event
  second : List Event
  one : AllEmit s news first
  two : AllEmit s olds second
  whole : rest ≡ first ++ second

parted : (s : List Resolved) (olds news : List Frame) (rest : List Event)
    → AllEmit s (olds ++ news) rest
    → Parted s olds news rest
parted s [] news rest l = record { first = rest; second = []; one = l; two = refl; whole = sym (append-nil rest) }
parted s (f ∷ olds) news rest l =
    let p = parted s olds news l.0 l.2 in
    record {
      first = p.first;
      second = p.second ++ l.1;
      one = p.one;
      two = (p.second, l.1, p.two, l.3, refl);
      whole = l.4 ∙ ap (λ q. q ++ l.1) p.whole ∙ append_assoc p.first p.second l.1;
    }

-- the last frames go first
left_joined : (s : List Resolved) (olds news : List Frame) (xs ys : List Event)
    → AllEmit s news xs
    → AllEmit s olds ys
    → AllEmit s (olds ++ news) (xs ++ ys)
left_joined s [] news xs ys n e = subst (AllEmit s news) (sym (ap (λ q. xs ++ q) e ∙ append-nil xs)) n
left_joined s (g ∷ olds) news xs ys n l = (xs ++ l.0, l.1, left_joined s olds news xs l.0 n l.2, l.3, ap (λ q. xs ++ q) l.4 ∙ sym (append_assoc xs l.0 l.1))

pub emit_none : (s : List Resolved) → EmitsSome (AllEmit s [])
emit_none s = record { events = []; emitted = refl }

pub emit_more : (s : List Resolved) (f : Frame) (fs : List Frame) (es : List Event)
    → FrameEmits s f es
    → EmitsSome (AllEmit s fs)
    → EmitsSome (AllEmit s (f ∷ fs))
emit_more s f fs es t l = record { events = l.events ++ es; emitted = (l.events, es, l.emitted, t, refl) }

pub one_left : (s : List Resolved) (f : Frame) (rest : List Event) → AllEmit s (f ∷ []) rest → FrameEmits s f rest
one_left s f rest l = subst (FrameEmits s f) (sym (l.4 ∙ ap (λ q. q ++ l.1) l.2)) l.3

pub record TwoLeft (s : List Resolved) (f g : Frame) (rest : List Event) : Type 0 where
  pub first : List Event
  pub second : List Event
  pub one : FrameEmits s g first
  pub two : FrameEmits s f second
  pub whole : rest ≡ first ++ second

pub two_left : (s : List Resolved) (f g : Frame) (rest : List Event) → AllEmit s (f ∷ g ∷ []) rest → TwoLeft s f g rest
two_left s f g rest l = record { first = l.0; second = l.1; one = one_left s g l.0 l.2; two = l.3; whole = l.4 }

pub record ThreeLeft (s : List Resolved) (f g h : Frame) (rest : List Event) : Type 0 where
  pub first : List Event
  pub second : List Event
  pub third : List Event
  pub one : FrameEmits s h first
  pub two : FrameEmits s g second
  pub three : FrameEmits s f third
  pub whole : rest ≡ first ++ (second ++ third)

pub three_left : (s : List Resolved) (f g h : Frame) (rest : List Event)
    → AllEmit s (f ∷ g ∷ h ∷ []) rest
    → ThreeLeft s f g h rest
three_left s f g h rest l =
    let p = two_left s g h l.0 l.2 in
    record { first = p.first; second = p.second; third = l.1; one = p.one; two = p.two; three = l.3; whole = l.4 ∙ ap (λ q. q ++ l.1) p.whole ∙ append_assoc p.first p.second l.1 }

weighs_more : (l : ℕ) (fs gs : List Frame) → weighs l (fs ++ gs) ≡ weighs l fs + weighs l gs
weighs_more l [] gs = omega arith
weighs_more l (f ∷ fs) gs = let e = weighs_more l fs gs in omega arith

-- the last frame was replaced
pub turned_by : {S : Type 0} (s : List Resolved) (adds : S → List Event → S → Type 0) (T : List Event → Type 0)
    (w : ℕ) (olds news : List Frame) (f : Frame) (a b : S)
    → ((ys : List Event) → T ys → FrameEmits s f ys)
    → ((ys : List Event) → FrameEmits s f ys → T ys)
    → w ≤ frame_weight (total s) f
    → Acted s adds T w olds a news b
    → Turned s adds (olds ++ f ∷ []) a news b
turned_by s adds T w olds news f a b h k' e ac =
    let r = ac.replaced in
    record {
      events = ac.events;
      added = ac.added;
      left = λ rest l.
          let p = parted s olds r.pushed rest (subst (λ q. AllEmit s q rest) r.is l) in
          subst (AllEmit s (olds ++ f ∷ [])) (append_assoc ac.events p.first p.second ∙ ap (λ q. ac.events ++ q) (sym p.whole))
          (left_joined s olds (f ∷ []) (ac.events ++ p.first) p.second ([], ac.events ++ p.first, refl, h (ac.events ++ p.first) (r.left p.first p.one), refl) p.two);
      stays = λ all l.
          let p = parted s olds (f ∷ []) all l in
          let d = r.stays p.first (k' p.first (one_left s f p.first p.one)) in
          record { events = d.events ++ p.second; emitted = subst (λ q. AllEmit s q (d.events ++ p.second)) (sym r.is) (left_joined s olds r.pushed d.events p.second d.emitted p.two) };
      less =
          let k = ap (weighs (total s)) r.is ∙ weighs_more (total s) olds r.pushed in
          let m = weighs_more (total s) olds (f ∷ []) in
          let z = r.less in omega (arith, k, m);
    }

-- if there are no events for the last frame, there are none for all frames
pub emits_nothing_by : (s : List Resolved) (T : List Event → Type 0) (olds : List Frame) (f : Frame) (fault : RunFault)
    → ((ys : List Event) → FrameEmits s f ys → T ys)
    → EmitsNothing T fault
    → EmitsNothing (AllEmit s (olds ++ f ∷ [])) fault
emits_nothing_by s T olds f fault h n e all l =
    let p = parted s olds (f ∷ []) all l in
    n e p.first (h p.first (one_left s f p.first p.one))
