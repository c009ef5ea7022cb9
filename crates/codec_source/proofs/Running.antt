-- What a step does to frames.
use Rattle.std.proofs.Common.{arith, ◌≡◌, ℕ, zero, suc, ◌+◌, ◌<◌, ◌≤◌, List, [], ◌∷◌, ◌++◌, length, refl, sym, ap, subst, length-append}
use Rattle.std.specs.Prelude.{Option, Some, None, Result, Ok, Err, OnOk, IfErr, flat_map, slice_get}
use Rattle.std.proofs.Math.Nat.{mul-le-mul_left}
use Rattle.asn_base.specs.declared.schema.TypeId.{TypeId}
use Rattle.asn_base.specs.Types.{Resolved}
use Rattle.codec_code.specs.declared.step.Step.{Step}
use Rattle.codec_code.specs.Routines.{routine_at, routine_of, table_of}
use Rattle.decode_faults.specs.declared.read_fault.ReadFault.{ReadFault}
use Rattle.decode_faults.specs.declared.read_fault.ReadFault.TheVariants.{Memory}
use Rattle.codec_source.specs.declared.frame.Frame.{Frame}
use Rattle.codec_source.specs.Events.{Event, begins, ends, both_begin, both_end, IsOneAnswer}
use Rattle.codec_source.specs.Reading.{Asks, Does, finished, goes_on, reads, Reads}
use Rattle.codec_source.specs.Stopping.{AsksNothing}
use Rattle.codec_source.specs.proving.Frames.{IfRefused, Same, Never, Rests, Goes, Before, Then, ThenBefore, frame_steps, weighs}
use Rattle.codec_source.specs.proving.Waiting.{and_next}
use Rattle.codec_source.proofs.Asking.{one_ask, none_asked}

none_some : {A : Type 0} {t : TypeId} → None ≡ Some t → A
none_some e = absurd (cc)

some_same : {t u : TypeId} → Some t ≡ Some u → t ≡ u
some_same e = cc

pub same_self : {S : Type 0} {P : S → Type 0} → Same P P
same_self = record { to = λ z p. p; from = λ z p. p }

pub same_then : {S : Type 0} {P Q R : S → Type 0} → Same P Q → Same Q R → Same P R
same_then a b = record { to = λ z p. b.to z (a.to z p); from = λ z p. a.from z (b.from z p) }

module _ {S : Type 0} (r : ℕ → List Step) (takes : S → Event → S → Type 0) (one : IsOneAnswer takes) where
  -- what a step asks for, in its place
  moved : {z c d : S} {e f : List Step} → Does r takes e c z → e ≡ f → c ≡ d → Does r takes f d z
  moved {z = z} {c = c} {d = d} {f = f} h g i = subst (λ q. Does r takes f q z) i (subst (λ q. Does r takes q c z) g h)

  asked_on : {ss b : List Step} {x y z : S} → Does r takes ss x z → Asks takes ss x b None y → Does r takes b y z
  asked_on finished a = absurd (none_asked takes _ _ _ _ a)
  asked_on (goes_on h d) a = let o = one_ask takes one h a in moved d o.following o.state
  asked_on (reads h p d e k) a = let o = one_ask takes one a h in none_some o.value

  asked_value : {ss b : List Step} {t : TypeId} {x y z : S} → Does r takes ss x z → Asks takes ss x b (Some t) y → Then r takes (Some t) b y z
  asked_value finished a = absurd (none_asked takes _ _ _ _ a)
  asked_value (goes_on h d) a = let o = one_ask takes one h a in none_some o.value
  asked_value {t = t} {z = z} (reads {t = u} {y = w} {a = a'} {b = b'} {c = c'} h p d e k) a =
      let o = one_ask takes one h a in
      let same : u ≡ t = some_same o.value in (
        a',
        b',
        c',
        subst (λ q. takes q (begins t) a') o.state (subst (λ q. takes w (begins q) a') same p),
        subst (λ (q : TypeId). Does r takes (r q.index) a' b') same d,
        e,
        subst (λ q. Does r takes q c' z) o.following k,
      )

  -- steps lead to one state
  one_does : {ss : List Step} {x y z : S} → Does r takes ss x y → Does r takes ss x z → y ≡ z
  one_does finished finished = refl
  one_does finished (goes_on h k) = absurd (none_asked takes _ _ _ _ h)
  one_does finished (reads h p k m n) = absurd (none_asked takes _ _ _ _ h)
  one_does (goes_on h d) i = one_does d (asked_on i h)
  one_does {z = z} (reads {following = f} {t = t} {y = w} {a = a} {b = b} {c = c} h p d e k) i =
      let v = asked_value i h in
      let j : a ≡ v.0 = (one w a v.0 (begins t) (begins t) both_begin p v.3).1 in
      let l : b ≡ v.1 = one_does d (subst (λ q. Does r takes (r t.index) q v.1) (sym j) v.4) in
      let m : c ≡ v.2 = (one b c v.2 ends ends both_end e (subst (λ q. takes q ends v.2) (sym l) v.5)).1 in
      one_does k (subst (λ q. Does r takes f q z) (sym m) v.6)

  -- a value is read to one state
  pub one_read : {t : TypeId} {x y z : S} → Reads r takes t x y → Reads r takes t x z → y ≡ z
  one_read {t} {x} {y} {z} a b =
      let i : a.first ≡ b.first = (one x a.first b.first (begins t) (begins t) both_begin a.begun b.begun).1 in
      let j : a.last ≡ b.last = one_does a.done (subst (λ q. Does r takes (r t.index) q b.last) (sym i) b.done) in
      (one a.last y z ends ends both_end a.ended (subst (λ q. takes q ends z) (sym j) b.ended)).1

  asked : (ss b : List Step) (t : Option TypeId) (x y : S) → Asks takes ss x b t y → Same (Does r takes ss x) (Then r takes t b y)
  asked ss b None x y a = record { to = λ z d. asked_on d a; from = λ z d. goes_on a d }
  asked ss b (Some t) x y a = record { to = λ z d. asked_value d a; from = λ z d. reads a d.3 d.4 d.5 d.6 }

  pub asked_before : (ss b : List Step) (t : Option TypeId) (olds : List Frame) (x y : S) → Asks takes ss x b t y → Same (Before r takes ss olds x) (ThenBefore r takes t b olds y)
  asked_before ss b t olds x y a =
      let s = asked ss b t x y a in
      record {
        to = λ z d. (d.0, (d.1.0, s.to d.1.0 d.1.1, d.1.2), d.2);
        from = λ z d. (d.0, (d.1.0, s.from d.1.0 d.1.1, d.1.2), d.2);
      }

  -- the end of a value
  pub ended_before : (ss : List Step) (olds : List Frame) (x y : S) → length ss ≡ 0 → takes x ends y → Same (Before r takes ss olds x) (Goes r takes olds y)
  ended_before [] olds x y l t = record { to = to; from = λ z d. (y, (x, finished, t), d) }
    where
      to : (z : S) → Before r takes [] olds x z → Goes r takes olds y z
      to z (u, (w, finished, e), d) = subst (λ q. Goes r takes olds q z) (one x u y ends ends both_end e t).1 d
      to z (u, (w, goes_on h k, e), d) = absurd (none_asked takes _ _ _ _ h)
      to z (u, (w, reads h p k m n, e), d) = absurd (none_asked takes _ _ _ _ h)
  ended_before (s ∷ ss) olds x y l t = absurd (omega arith)

  pub never_ended : (ss : List Step) (olds : List Frame) (x : S) → length ss ≡ 0 → ((y : S) → takes x ends y → ⊥) → Never (Before r takes ss olds x)
  never_ended [] olds x l n z (u, (w, finished, e), d) = n u e
  never_ended [] olds x l n z (u, (w, goes_on h k, e), d) = absurd (none_asked takes _ _ _ _ h)
  never_ended [] olds x l n z (u, (w, reads h p k m q, e), d) = absurd (none_asked takes _ _ _ _ h)
  never_ended (s ∷ ss) olds x l n z d = absurd (omega arith)

  pub never_asked : (ss : List Step) (olds : List Frame) (x : S) → 0 < length ss → AsksNothing takes ss x → Never (Before r takes ss olds x)
  never_asked ss olds x l n z (u, (w, finished, e), d) = absurd (omega arith)
  never_asked ss olds x l n z (u, (w, goes_on h k, e), d) = n _ _ _ h
  never_asked ss olds x l n z (u, (w, reads h p k m q, e), d) = n _ _ _ h

  pub never_begun : (t : TypeId) (b : List Step) (olds : List Frame) (x : S) → ((y : S) → takes x (begins t) y → ⊥) → Never (ThenBefore r takes (Some t) b olds x)
  never_begun t b olds x n z d = n d.1.1.0 d.1.1.3

  -- the last frame goes on, the others wait
  goes_to : (fs : List Frame) (f : Frame) (x z : S) → Goes r takes (fs ++ f ∷ []) x z → Before r takes f.steps.now fs x z
  goes_to [] f x z d = (z, subst (λ q. Rests r takes f.steps.now q z) (sym d.1) d.2, refl)
  goes_to (g ∷ fs) f x z d =
      let i = goes_to fs f x d.0 d.1 in
      (i.0, i.1, (d.0, i.2, d.2))

  goes_from : (fs : List Frame) (f : Frame) (x z : S) → Before r takes f.steps.now fs x z → Goes r takes (fs ++ f ∷ []) x z
  goes_from [] f x z d = (x, refl, subst (λ q. Rests r takes f.steps.now x q) d.2 d.1)
  goes_from (g ∷ fs) f x z d = (d.2.0, goes_from fs f x d.2.0 (d.0, d.1, d.2.1), d.2.2)

  pub goes_at : (news fs : List Frame) (f : Frame) (x : S) → news ≡ fs ++ f ∷ [] → Same (Before r takes f.steps.now fs x) (Goes r takes news x)
  goes_at news fs f x e = subst (λ q. Same (Before r takes f.steps.now fs x) (Goes r takes q x)) (sym e) (record { to = goes_from fs f x; from = goes_to fs f x })

  -- a value begins above the steps that go on after it
  pub called_before : (t : TypeId) (b ss : List Step) (olds mids : List Frame) (f : Frame) (x y : S) → mids ≡ olds ++ f ∷ [] → f.steps.now ≡ b → ss ≡ r t.index → takes x (begins t) y → Same (ThenBefore r takes (Some t) b olds x) (Before r takes ss mids y)
  called_before t b ss olds mids f x y e fs gs k = record { to = to; from = from }
    where
      to : (z : S) → ThenBefore r takes (Some t) b olds x z → Before r takes ss mids y z
      to z (u, (w, (p, q, s, begun, did, end, rest), ended), d) =
          let o : p ≡ y = (one x p y (begins t) (begins t) both_begin begun k).1 in
          let n : Same (Before r takes f.steps.now olds s) (Goes r takes mids s) = goes_at mids olds f s e in
          (s, (q, subst (λ i. Does r takes i y q) (sym gs) (subst (λ i. Does r takes (r t.index) i q) o did), end), n.to z (u, (w, subst (λ i. Does r takes i s w) (sym fs) rest, ended), d))

      from : (z : S) → Before r takes ss mids y z → ThenBefore r takes (Some t) b olds x z
      from z (s, (q, did, end), d) =
          let n : Same (Before r takes f.steps.now olds s) (Goes r takes mids s) = goes_at mids olds f s e in
          let i = n.from z d in
          (i.0, (i.1.0, (y, q, s, k, subst (λ j. Does r takes j y q) gs did, end, subst (λ j. Does r takes j s i.1.0) fs i.1.1), i.1.2), i.2)

  -- ---- the start and the end of a run

  pub started : (t : TypeId) (f : Frame) (mids news : List Frame) (x y : S) → mids ≡ [] → news ≡ mids ++ f ∷ [] → f.steps.now ≡ r t.index → takes x (begins t) y → Same (Reads r takes t x) (Goes r takes news y)
  started t f mids news x y m e s k = same_then (record { to = to; from = from }) (goes_at news mids f y e)
    where
      to : (z : S) → Reads r takes t x z → Before r takes f.steps.now mids y z
      to z d =
          let o : d.first ≡ y = (one x d.first y (begins t) (begins t) both_begin d.begun k).1 in
          (z, (d.last, subst (λ i. Does r takes i y d.last) (sym s) (subst (λ i. Does r takes (r t.index) i d.last) o d.done), d.ended), subst (λ q. Goes r takes q z z) (sym m) refl)

      from : (z : S) → Before r takes f.steps.now mids y z → Reads r takes t x z
      from z d =
          let o : d.0 ≡ z = subst (λ q. Goes r takes q d.0 z) m d.2 in
          record { first = y; last = d.1.0; begun = k; done = subst (λ i. Does r takes i y d.1.0) s d.1.1; ended = subst (λ q. takes d.1.0 ends q) o d.1.2 }

  pub read_all : (t : TypeId) (start fs : List Frame) (x y z : S) → Same (Reads r takes t x) (Goes r takes start y) → Same (Goes r takes start y) (Goes r takes fs z) → fs ≡ [] → Reads r takes t x z
  read_all t start fs x y z s i e = s.from z (i.from z (subst (λ q. Goes r takes q z z) (sym e) refl))

  pub read_only : (t : TypeId) (start fs : List Frame) (x y z : S) → Same (Reads r takes t x) (Goes r takes start y) → Same (Goes r takes start y) (Goes r takes fs z) → fs ≡ [] → (b : S) → Reads r takes t x b → b ≡ z
  read_only t start fs x y z s i e b d = sym (subst (λ q. Goes r takes q z b) e (i.to b (s.to b d)))

  pub read_none : (t : TypeId) (start fs below : List Frame) (f : Frame) (x y z : S) → Same (Reads r takes t x) (Goes r takes start y) → Same (Goes r takes start y) (Goes r takes fs z) → fs ≡ below ++ f ∷ [] → Never (Before r takes f.steps.now below z) → (b : S) → Reads r takes t x b → ⊥
  read_none t start fs below f x y z s i e n b d = n b ((goes_at fs below f z e).from b (i.to b (s.to b d)))

  pub none_begun : (t : TypeId) (x : S) → ((y : S) → takes x (begins t) y → ⊥) → (b : S) → Reads r takes t x b → ⊥
  none_begun t x n b d = n d.first d.begun

  pub turned_same : (start fs news below : List Frame) (f : Frame) (y z u : S) → Same (Goes r takes start y) (Goes r takes fs z) → fs ≡ below ++ f ∷ [] → Same (Before r takes f.steps.now below z) (Goes r takes news u) → Same (Goes r takes start y) (Goes r takes news u)
  turned_same start fs news below f y z u i e s = same_then i (same_then (record { to = k.from; from = k.to }) s)
    where
      k : Same (Before r takes f.steps.now below z) (Goes r takes fs z)
      k = goes_at fs below f z e

-- ---- weights

pub steps_add : (fs : List Frame) (f : Frame) → frame_steps (fs ++ f ∷ []) ≡ frame_steps fs + suc (length f.steps.now)
steps_add [] f = omega arith
steps_add (g ∷ fs) f = let e = steps_add fs f in omega arith

pub less_ended : (l a b : ℕ) (olds : List Frame) (f : Frame) → b ≤ a → weighs l b olds < weighs l a (olds ++ f ∷ [])
less_ended l a b olds f le =
    let m = mul-le-mul_left (2 + l) le in
    omega (arith, m, steps_add olds f)

pub less_one : (l a b : ℕ) (olds : List Frame) (f g : Frame) → b ≤ a → length g.steps.now < length f.steps.now → weighs l b (olds ++ g ∷ []) < weighs l a (olds ++ f ∷ [])
less_one l a b olds f g le s =
    let m = mul-le-mul_left (2 + l) le in
    omega (arith, m, s, steps_add olds f, steps_add olds g)

-- a budget that is no more, and a last frame that has no more steps
pub no_more : (l a b : ℕ) (olds : List Frame) (f g : Frame) → b ≤ a → length g.steps.now ≤ length f.steps.now → weighs l b (olds ++ g ∷ []) ≤ weighs l a (olds ++ f ∷ [])
no_more l a b olds f g le s =
    let m = mul-le-mul_left (2 + l) le in
    omega (arith, m, s, steps_add olds f, steps_add olds g)

pub less_two : (l a b n : ℕ) (olds mids : List Frame) (f g : Frame) → b < a → mids ≡ olds ++ f ∷ [] → length f.steps.now ≡ n → length g.steps.now ≤ l → weighs l b (mids ++ g ∷ []) < weighs l a olds + (1 + n)
less_two l a b n olds mids f g lt e s t =
    let m = mul-le-mul_left (2 + l) (let q : suc b ≤ a = omega arith in q) in
    omega (arith, m, s, t, ap frame_steps e, steps_add olds f, steps_add mids g)

pub less_whole : (l a b n : ℕ) (olds : List Frame) (f : Frame) → b < a → length f.steps.now ≡ n → weighs l b (olds ++ f ∷ []) < weighs l a olds + (1 + n)
less_whole l a b n olds f lt s =
    let m = mul-le-mul_left (2 + l) (let q : suc b ≤ a = omega arith in q) in
    omega (arith, m, s, steps_add olds f)

pub less_called : (l a b c n : ℕ) (olds news : List Frame) (f : Frame) → weighs l c news < weighs l b olds + (1 + n) → b ≤ a → n ≤ length f.steps.now → weighs l c news < weighs l a (olds ++ f ∷ [])
less_called l a b c n olds news f lt le s =
    let m = mul-le-mul_left (2 + l) le in
    omega (arith, lt, m, s, steps_add olds f)

-- ---- no routine is longer than all together

all_routines : (s rs : List Resolved) (t : ℕ) → length {A = Step} (elim (slice_get rs t) [ None ↦ [] | Some r ↦ routine_of s r ]) ≤ length (flat_map (routine_of s) rs)
all_routines s [] t = omega arith
all_routines s (q ∷ rs) zero = let e = length-append (routine_of s q) (flat_map (routine_of s) rs) in omega (arith, e)
all_routines s (q ∷ rs) (suc t) =
    let h = all_routines s rs t in
    let e = length-append (routine_of s q) (flat_map (routine_of s) rs) in
    omega (arith, e, h)

pub within_table : (s : List Resolved) (t : ℕ) → length (routine_at s t) ≤ length (table_of s)
within_table s t = all_routines s s t

-- ---- results

pub on_ok : {A E : Type 0} {P Q : Type 0} (q : Result A E) → (P → Q) → OnOk q P → OnOk q Q
on_ok (Ok a) f p = f p
on_ok (Err e) f p = p

pub no_memory : {A : Type 0} (P : Type 0) (q : Result A ReadFault) → IfErr q (λ e. e ≡ Memory) → IfRefused q P
no_memory P (Ok a) m = m
no_memory P (Err e) m = λ other. absurd (other m)

pub refused : {A : Type 0} {P Q : Type 0} (q : Result A ReadFault) → (P → Q) → IfRefused q P → IfRefused q Q
refused (Ok a) f p = p
refused (Err e) f p = λ other. f (p other)

-- none goes on, and none waits
pub none_next : (fs : List Frame) (o : Option Frame) → ((f : Frame) → o ≡ Some f → ⊥) → (o ≡ None → fs ≡ []) → and_next fs o ≡ []
none_next fs None n e = e refl
none_next fs (Some f) n e = absurd (n f refl)
