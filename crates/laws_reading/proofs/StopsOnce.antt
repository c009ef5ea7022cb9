-- A routine stops in one way, and if it stops it reads no value.
use Rattle.std.proofs.Common.{arith, Bool, true, false, ◌≡◌, ℕ, ◌≤◌, List, [], ◌++◌, length, refl, sym, ap, subst, length-append}
use Rattle.std.proofs.lemmas.List.{append-nil}
use Rattle.std.specs.Prelude.{Option, Some, None}
use Rattle.asn_base.specs.declared.schema.TypeId.{TypeId}
use Rattle.asn_base.specs.Types.{Resolved}
use Rattle.codec_code.specs.declared.step.Step.{Step}
use Rattle.codec_code.specs.Routines.{routine_at}
use Rattle.decode_faults.specs.declared.read_fault.ReadFault.{ReadFault}
use Rattle.codec_source.specs.Events.{Event, begins, ends, comes, more, among, picks, Question, to_end, IsOneAnswer}
use Rattle.codec_source.specs.Events.{both_begin, both_end, both_open, both_close, both_hold, both_skip, both_come, both_more, both_among, both_pick}
use Rattle.codec_source.specs.Reading.{Asks, head, ending, leaf, rest, left_out, field, component, no_component, element, no_element, sorted_element, no_sorted_element, pick, call}
use Rattle.codec_source.specs.Reading.{Does, finished, goes_on, reads, Reads}
use Rattle.codec_source.specs.Stopping.{Stops, unanswered, answered, StopsThen, stops_on, not_begun, stops_within, not_ended, stops_after, StopsReading}
use Rattle.codec_source.specs.proving.Frames.{Then}
use Rattle.octet_answers.specs.States.{State, front}
use Rattle.octet_answers.specs.Answers.{Takes}
use Rattle.octet_answers.specs.Unanswered.{Leaves}
use Rattle.laws_reading.proofs.Places.{Placed, taken, done, asked as asked'}

abbrev is_yes : Event → Bool
is_yes (comes f b) = b
is_yes (more t s b) = b
is_yes e = false

abbrev type_of : Event → Option TypeId
type_of (among ss t) = t
type_of (picks ss t) = Some t
type_of e = None

not_both : {A : Type 0} → true ≡ false → A
not_both e = absurd (cc)

abbrev or_type : TypeId → Option TypeId → TypeId
or_type d None = d
or_type d (Some t) = t

none_some : {A : Type 0} {t : TypeId} → None ≡ Some t → A
none_some e = absurd (cc)

-- what a step asks for: the steps after it, the value before them, and the state
record One {S : Type 0} (b c : List Step) (t u : Option TypeId) (y z : S) : Type 0 where
  following : b ≡ c
  value : t ≡ u
  state : y ≡ z

module _ {S : Type 0} (takes : S → Event → S → Type 0) (one : IsOneAnswer takes) where
  one_ask : {ss b c : List Step} {t u : Option TypeId} {x y z : S} → Asks takes ss x b t y → Asks takes ss x c u z → One b c t u y z
  one_ask {x = x} {y = y} {z = z} (head a) (head b) = record { following = refl; value = refl; state = (one x y z _ _ both_open a b).1 }
  one_ask {x = x} {y = y} {z = z} (ending a) (ending b) = record { following = refl; value = refl; state = (one x y z _ _ both_close a b).1 }
  one_ask {x = x} {y = y} {z = z} (leaf a) (leaf b) = record { following = refl; value = refl; state = (one x y z _ _ both_hold a b).1 }
  one_ask {x = x} {y = y} {z = z} (rest a) (rest b) = record { following = refl; value = refl; state = (one x y z _ _ both_skip a b).1 }
  one_ask {x = x} {y = y} {z = z} (left_out a) (left_out b) = record { following = refl; value = refl; state = (one x y z _ _ both_come a b).1 }
  one_ask {x = x} {y = y} {z = z} (left_out a) (field b) = not_both (ap is_yes (one x z y _ _ both_come b a).0)
  one_ask {x = x} {y = y} {z = z} (field a) (left_out b) = not_both (ap is_yes (one x y z _ _ both_come a b).0)
  one_ask {x = x} {y = y} {z = z} (field a) (field b) = record { following = refl; value = refl; state = (one x y z _ _ both_come a b).1 }
  one_ask {x = x} {y = y} {z = z} (component a) (component b) = let o = one x y z _ _ both_among a b in record { following = refl; value = ap type_of o.0; state = o.1 }
  one_ask {x = x} {y = y} {z = z} (component a) (no_component b) = none_some (ap type_of (one x z y _ _ both_among b a).0)
  one_ask {x = x} {y = y} {z = z} (no_component a) (component b) = none_some (ap type_of (one x y z _ _ both_among a b).0)
  one_ask {x = x} {y = y} {z = z} (no_component a) (no_component b) = record { following = refl; value = refl; state = (one x y z _ _ both_among a b).1 }
  one_ask {x = x} {y = y} {z = z} (element a) (element b) = record { following = refl; value = refl; state = (one x y z _ _ both_more a b).1 }
  one_ask {x = x} {y = y} {z = z} (element a) (no_element b) = not_both (ap is_yes (one x y z _ _ both_more a b).0)
  one_ask {x = x} {y = y} {z = z} (no_element a) (element b) = not_both (ap is_yes (one x z y _ _ both_more b a).0)
  one_ask {x = x} {y = y} {z = z} (no_element a) (no_element b) = record { following = refl; value = refl; state = (one x y z _ _ both_more a b).1 }
  one_ask {x = x} {y = y} {z = z} (sorted_element a) (sorted_element b) = record { following = refl; value = refl; state = (one x y z _ _ both_more a b).1 }
  one_ask {x = x} {y = y} {z = z} (sorted_element a) (no_sorted_element b) = not_both (ap is_yes (one x y z _ _ both_more a b).0)
  one_ask {x = x} {y = y} {z = z} (no_sorted_element a) (sorted_element b) = not_both (ap is_yes (one x z y _ _ both_more b a).0)
  one_ask {x = x} {y = y} {z = z} (no_sorted_element a) (no_sorted_element b) = record { following = refl; value = refl; state = (one x y z _ _ both_more a b).1 }
  one_ask {x = x} {y = y} {z = z} (pick a) (pick b) = let o = one x y z _ _ both_pick a b in record { following = refl; value = ap type_of o.0; state = o.1 }
  one_ask (call) (call) = record { following = refl; value = refl; state = refl }

  same_begin : {t : TypeId} {x a b : S} → takes x (begins t) a → takes x (begins t) b → a ≡ b
  same_begin {t} {x} {a} {b} g h = (one x a b (begins t) (begins t) both_begin g h).1

  same_end : {x a b : S} → takes x ends a → takes x ends b → a ≡ b
  same_end {x} {a} {b} g h = (one x a b ends ends both_end g h).1

-- steps lead to one state
module _ {S : Type 0} (r : ℕ → List Step) (takes : S → Event → S → Type 0) (one : IsOneAnswer takes) where
  moved : {b c : List Step} {x y z : S} → b ≡ c → x ≡ y → Does r takes c y z → Does r takes b x z
  moved {b = b} {y = y} {z = z} p e d = subst (λ q. Does r takes b q z) (sym e) (subst (λ q. Does r takes q y z) (sym p) d)

  begun_as : {t u : TypeId} {x y a : S} → t ≡ u → x ≡ y → takes y (begins u) a → takes x (begins t) a
  begun_as {t} {u} {x} {y} {a} p e g = subst (λ q. takes q (begins t) a) (sym e) (subst (λ q. takes y (begins q) a) (sym p) g)

  done_once : {ss : List Step} {x y z : S} → Does r takes ss x y → Does r takes ss x z → y ≡ z
  done_once finished finished = refl
  done_once finished (goes_on q d) = elim q [ ]
  done_once finished (reads q g i e d) = elim q [ ]
  done_once (goes_on q d) finished = elim q [ ]
  done_once (goes_on q d) (goes_on p f) =
      let o = one_ask takes one q p in
      done_once d (moved o.following o.state f)
  done_once (goes_on q d) (reads p h j e f) = none_some (one_ask takes one q p).value
  done_once (reads q g i e d) finished = elim q [ ]
  done_once (reads q g i e d) (goes_on p f) = none_some (one_ask takes one p q).value
  done_once (reads {t = t} {a = a} {c = c} q g i e d) (reads {t = u} {a = b} {c = n} p h j k f) =
      let o = one_ask takes one q p in
      let w : t ≡ u = ap (or_type t) o.value in
      let v : a ≡ b = same_begin takes one g (begun_as w o.state h) in
      let l = done_once i (moved (ap (λ z. r z.index) w) v j) in
      let m = same_end takes one e (subst (λ z. takes z ends n) (sym l) k) in
      done_once d (moved o.following m f)

  shift : (P : Option TypeId → List Step → S → Type 0) {b c : List Step} {t u : Option TypeId} {y z : S} → One b c t u y z → P u c z → P t b y
  shift P {b} {c} {t} {u} {y} {z} o p = subst (λ q. P t b q) (sym o.state) (subst (λ q. P t q z) (sym o.following) (subst (λ q. P q c z) (sym o.value) p))

  -- and they don't stop on the way
  module _ (leaves : S → Question → S → Type 0) where
    mutual
      stops_or_done : {ss : List Step} {x y z : S} → Stops r takes leaves ss x y → Does r takes ss x z → ⊥
      stops_or_done (unanswered n l) (goes_on q d) = n _ _ _ q
      stops_or_done (unanswered n l) (reads q g i e d) = n _ _ _ q
      stops_or_done (answered q s) finished = elim q [ ]
      stops_or_done {z = z} (answered q s) (goes_on p d) = then_or_done z s (shift (λ t b y. Then r takes t b y z) (one_ask takes one q p) d)
      stops_or_done {z = z} (answered q s) (reads {a = a} {b = b} {c = c} p g i e d) =
          then_or_done z s (shift (λ t m y. Then r takes t m y z) (one_ask takes one q p) (a, b, c, g, i, e, d))

      then_or_done : {t : Option TypeId} {ss : List Step} {x y : S} (z : S) → StopsThen r takes leaves t ss x y → Then r takes t ss x z → ⊥
      then_or_done z (stops_on s) d = stops_or_done s d
      then_or_done z (not_begun n l) (a, b, c, g, i, e, d) = n a g
      then_or_done z (stops_within g s) (a, b, c, h, i, e, d) = stops_or_done s (moved refl (same_begin takes one g h) i)
      then_or_done z (not_ended g i n l) (a, b, c, h, j, k, d) =
          let e = done_once i (moved refl (same_begin takes one g h) j) in
          n c (subst (λ q. takes q ends c) (sym e) k)
      then_or_done z (stops_after g i m s) (a, b, c, h, j, k, d) =
          let e = done_once i (moved refl (same_begin takes one g h) j) in
          stops_or_done s (moved refl (same_end takes one m (subst (λ q. takes q ends c) (sym e) k)) d)

one_taken : IsOneAnswer Takes
one_taken a b c e f k x y = x.only f c k y.answer

abbrev LeftOnce : List ℕ → Type 0
LeftOnce o = (a b c : State) (q : Question) (e f : ReadFault) → Placed o a → Leaves a q b e → Leaves a q c f → (e ≡ f) × (b ≡ c)

module _ (o : List ℕ) (r : ℕ → List Step) (left : LeftOnce o) (e f : ReadFault) where
  abbrev First : State → Question → State → Type 0
  First a q b = Leaves a q b e

  abbrev Other : State → Question → State → Type 0
  Other a q b = Leaves a q b f

  one_begun : {t : TypeId} {x a b : State} → Takes x (begins t) a → Takes x (begins t) b → a ≡ b
  one_begun g h = same_begin Takes one_taken g h

  same_done : {ss : List Step} {x a b c : State} → x ≡ a → Does r Takes ss x b → Does r Takes ss a c → b ≡ c
  same_done n d i = done_once r Takes one_taken d (moved r Takes one_taken refl n i)

  ended_as : {a b c : State} → a ≡ b → Takes b ends c → Takes a ends c
  ended_as {a} {b} {c} n k = subst (λ q. Takes q ends c) (sym n) k

  mutual
    stop_once : {ss : List Step} {x y z : State} → Placed o x → Stops r Takes First ss x y → Stops r Takes Other ss x z → (e ≡ f) × (y ≡ z)
    stop_once p (unanswered n l) (unanswered m k) = left _ _ _ _ e f p l k
    stop_once p (unanswered n l) (answered q s) = absurd (n _ _ _ q)
    stop_once p (answered q s) (unanswered n l) = absurd (n _ _ _ q)
    stop_once {z = z} p (answered q s) (answered h k) =
        then_once (asked' q p) s (shift r Takes one_taken (λ t b y. StopsThen r Takes Other t b y z) (one_ask Takes one_taken q h) k)

    then_once : {t : Option TypeId} {ss : List Step} {x y z : State} → Placed o x → StopsThen r Takes First t ss x y → StopsThen r Takes Other t ss x z → (e ≡ f) × (y ≡ z)
    then_once p (stops_on s) (stops_on k) = stop_once p s k
    then_once p (not_begun n l) (not_begun m k) = left _ _ _ _ e f p l k
    then_once p (not_begun n l) (stops_within g s) = absurd (n _ g)
    then_once p (not_begun n l) (not_ended g d m k) = absurd (n _ g)
    then_once p (not_begun n l) (stops_after g d i s) = absurd (n _ g)
    then_once p (stops_within g s) (not_begun n l) = absurd (n _ g)
    then_once {t} {z = z} p (stops_within {t = u} g s) (stops_within h k) =
        stop_once (taken g p) s (subst (λ q. Stops r Takes Other (r u.index) q z) (sym (one_begun g h)) k)
    then_once p (stops_within g s) (not_ended h d n l) =
        absurd (stops_or_done r Takes one_taken First s (moved r Takes one_taken refl (one_begun g h) d))
    then_once p (stops_within g s) (stops_after h d i k) =
        absurd (stops_or_done r Takes one_taken First s (moved r Takes one_taken refl (one_begun g h) d))
    then_once p (not_ended g d n l) (not_begun m k) = absurd (m _ g)
    then_once p (not_ended g d n l) (stops_within h k) =
        absurd (stops_or_done r Takes one_taken Other k (moved r Takes one_taken refl (one_begun h g) d))
    then_once {z = z} p (not_ended g d n l) (not_ended h i m k) =
        left _ _ _ _ e f (done d (taken g p)) l (subst (λ q. Leaves q to_end z f) (sym (same_done (one_begun g h) d i)) k)
    then_once p (not_ended g d n l) (stops_after h i m k) = absurd (n _ (ended_as (same_done (one_begun g h) d i) m))
    then_once p (stops_after g d i s) (not_begun n l) = absurd (n _ g)
    then_once p (stops_after g d i s) (stops_within h k) =
        absurd (stops_or_done r Takes one_taken Other k (moved r Takes one_taken refl (one_begun h g) d))
    then_once p (stops_after g d i s) (not_ended h j n l) = absurd (n _ (ended_as (same_done (one_begun h g) j d) i))
    then_once {ss = ss} {z = z} p (stops_after g d i s) (stops_after h j m k) =
        let v = same_end Takes one_taken i (ended_as (same_done (one_begun g h) d j) m) in
        stop_once (taken i (done d (taken g p))) s (subst (λ q. Stops r Takes Other ss q z) (sym v) k)

-- no more octets are left of a message than it has
short_here : {o : List ℕ} {a : State} → Placed o a → length a.here.octets ≤ length o
short_here {a = a} p =
    let s = p.here in
    let l = ap length s.whole in
    let m = length-append s.before (a.here.octets ++ s.following) in
    let n = length-append a.here.octets s.following in
    omega arith

abbrev pub RefusedOnce : Type 0
RefusedOnce = (a b c : State) (q : Question) (e f : ReadFault) → length a.here.octets ≤ 16777216 → Leaves a q b e → Leaves a q c f → (e ≡ f) × (b ≡ c)

pub stopped_once : RefusedOnce → (s : List Resolved) (t : TypeId) (o : List ℕ) (budget : ℕ) (y z : State) (e f : ReadFault) → length o ≤ 16777216 → StopsReading (λ u. routine_at s u) Takes (λ a q b. Leaves a q b e) t (front s o budget) y → StopsReading (λ u. routine_at s u) Takes (λ a q b. Leaves a q b f) t (front s o budget) z → (e ≡ f) × (y ≡ z)
stopped_once once s t o budget y z e f l h k =
    then_once o (λ u. routine_at s u) (λ a b c q i j p. (let n = short_here p in once a b c q i j (omega arith))) e f (record {
      here = record { before = []; following = []; whole = sym (append-nil o); place = refl };
      outer = tt;
      emitted = tt;
    }) h k

pub stopped_or_read : (s : List Resolved) (t : TypeId) (x y z : State) (e : ReadFault) → StopsReading (λ u. routine_at s u) Takes (λ a q b. Leaves a q b e) t x y → Reads (λ u. routine_at s u) Takes t x z → ⊥
stopped_or_read s t x y z e h d =
    then_or_done (λ u. routine_at s u) Takes one_taken (λ a q b. Leaves a q b e) z h (d.first, d.last, z, d.begun, d.done, d.ended, finished)

-- a value is read in one way
pub read_once : (s : List Resolved) (t : TypeId) (x y z : State) → Reads (λ u. routine_at s u) Takes t x y → Reads (λ u. routine_at s u) Takes t x z → y ≡ z
read_once s t x y z d e =
    let r = λ (u : ℕ). routine_at s u in
    let g = same_begin Takes one_taken d.begun e.begun in
    let l = done_once r Takes one_taken d.done (moved r Takes one_taken refl g e.done) in
    same_end Takes one_taken d.ended (subst (λ q. Takes q ends z) (sym l) e.ended)
