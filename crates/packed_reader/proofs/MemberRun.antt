-- Components and alternatives, as calls read them.
use Rattle.std.proofs.Common.{arith, ◌≡◌, ℕ, zero, suc, ◌+◌, ◌-◌, ◌^◌, ◌<◌, ◌≤◌, ◌==◌, ◌&&◌, Bool, true, false, List, [], ◌∷◌, ◌++◌, length, map, take, drop, Some, None, slice_get, refl, sym, ap, subst, ◌∙◌}
use Rattle.std.specs.Prelude.{if◌then◌else◌, not, Result, Ok, Err, IfOk, IfErr}
use Rattle.std.specs.List.{AllByRecursion}
use Rattle.std.proofs.lemmas.Bool.{eq-eqb, ne_eqb}
use Rattle.std.proofs.lemmas.Int.Digits.{length-digits_of-le}
use Rattle.asn_base.specs.declared.tag.Tag.{Tag}
use Rattle.asn_base.specs.Abstract.{AbstractValue, Row, abstract, alternative}
use Rattle.asn_base.specs.declared.value.Value.{Value}
use Rattle.asn_base.specs.Types.{Alternative, Component, Kind, a_null, a_choice, Presence, mandatory, optional, default, addition, Resolved}
use Rattle.packed_code.specs.declared.step.PackedField.{PackedField}
use Rattle.packed_code.specs.declared.step.PackedStep.{PackedStep}
use Rattle.packed_code.specs.declared.step.PackedStep.TheVariants as steps
use Rattle.packed_code.specs.Meaning.{next_fields}
use Rattle.packed_code.specs.Routines.{has_default, root_calls, more_calls}
use Rattle.packed_encodings.specs.Computed.{is_default, kind_at, same_within}
use Rattle.packed_encodings.specs.Leaves.{place_width}
use Rattle.packed_encodings.specs.Lengths.{Bits}
use Rattle.packed_encodings.specs.Orders.{Member, missing, standing, component}
use Rattle.decode_faults.specs.declared.refusal.Refusal.TheVariants as why
use Rattle.packed_encodings.specs.proving.Lists.{all_drop}
use Rattle.packed_reader.specs.declared.part.Part.TheVariants.{Component as Component', Alternative as Alternative'}
use Rattle.packed_reader.specs.declared.sent.Sent.{Sent}
use Rattle.packed_reader.specs.declared.reader.Progress.{Progress}
use Rattle.packed_reader.specs.declared.stop.Stop.{Stop}
use Rattle.packed_reader.specs.declared.stop.Stop.TheVariants.{Memory}
use Rattle.packed_reader.specs.Code.{HaveWidth, chosen_by}
use Rattle.packed_reader.specs.Levels.{is_within, may_lack}
use Rattle.packed_reader.specs.Readings.{Reading, read, stop, next, in_part, tested, Taken, taken}
use Rattle.packed_reader.specs.Steps.{no_component}
use Rattle.packed_reader.specs.Structures.{mark_from, no_row, open_from, with_value}
use Rattle.packed_reader.specs.Values.{alternative_of}
use Rattle.packed_reader.specs.proving.Code.{AreSent, IsGot, IsStop, IsStopAt, IsWithin}
use Rattle.packed_reader.specs.proving.Plans.{AreCalls}
use Rattle.packed_reader.specs.proving.Running.{component_of_field, differs, put, run_absent, run_chosen, run_member, run_members, run_presences, run_present, run_rest, run_structure, run_value}
use Rattle.packed_writer.specs.proving.Values.{FieldFits}
use Rattle.packed_reader.proofs.Flow.{stop_next, stop_within, stop_as, stop_at, stop_here}

pub component_is : (cs : List Component) (f : PackedField) (d : Component) → slice_get cs f.place ≡ Some d → component_of_field cs f ≡ d
component_is cs f d e = ap (λ o. component (elim o as (λ q. Member ℕ) [ None ↦ missing no_component | Some c ↦ standing c f.place ])) e

pub within_row : {X : Type 0} (xs : List X) (i : ℕ) (x : X) → slice_get xs i ≡ Some x → i < length xs
within_row [] i x e = absurd (cc)
within_row (y ∷ xs) zero x e = omega arith
within_row (y ∷ xs) (suc i) x e = let h = within_row xs i x e in omega (arith, h)

pub kind_found : (s q : List Resolved) (t : ℕ) (k : Kind) (tags : List Tag) → q ≡ s → slice_get q t ≡ Some (record { tags = tags; kind = k }) → kind_at s t ≡ k
kind_found s q t k tags e h = ap (λ z. kind_at z t) (sym e) ∙ ap (λ o. elim o as (λ z. Kind) [ None ↦ a_null | Some r ↦ r.kind ]) h

-- ---- present and absent components

differ_by : (x d : Bool) → x ≡ false → not (x && d) ≡ true
differ_by true d e = absurd (cc)
differ_by false d e = refl

-- no value of a component without DEFAULT is the same as its DEFAULT
abbrev by_presence : (AbstractValue → Bool) → Presence → Bool
by_presence same p = elim p [ default d ↦ same d | mandatory ↦ false | optional ↦ false | addition o g ↦ false ]

by_none : (same : AbstractValue → Bool) (p : Presence) → has_default p ≡ false → by_presence same p ≡ false
by_none same mandatory e = refl
by_none same optional e = refl
by_none same (default d) e = absurd (cc)
by_none same (addition o g) e = refl

lacks_default : (s : List Resolved) (c : Component) (v : AbstractValue) → has_default c.presence ≡ false → is_default s c v ≡ false
lacks_default s c v e = by_none (same_within 64 s c.type v) c.presence e

module _ (s : List Resolved) (l : ℕ) (cs : List Component) (f : PackedField) (ws : Row) (k n : ℕ) (b : Bits) where
  abbrev V : Bits → Reading (Taken AbstractValue)
  V = run_value s l f.ty.index k n

  abbrev T : Taken AbstractValue → Bool
  T = differs s (component_of_field cs f) k

  abbrev P : Reading (Taken Row)
  P = run_present s (run_value s l) cs f ws k n b

  pub present_stop : (x y : Stop) (r : Bits) → IsStop (V b) x r → IsWithin (Component' f.place) x y → IsStop P y r
  present_stop x y r h w =
      stop_next (in_part (Component' f.place) (tested T why.NotCanonical V b)) (λ v z. read (put f ws v) z) y r
      (stop_within (Component' f.place) (tested T why.NotCanonical V b) x y r (stop_next (V b) (λ v z. if T v then read v z else stop why.NotCanonical b) x r h) w)

  pub present_same : (w : Taken AbstractValue) (r : Bits) (x y : Stop) → V b ≡ read w r → T w ≡ false → IsStopAt why.NotCanonical x → IsWithin (Component' f.place) x y → IsStop P y b
  present_same w r x y e t a g =
      stop_next (in_part (Component' f.place) (tested T why.NotCanonical V b)) (λ v z. read (put f ws v) z) y b
      (stop_within (Component' f.place) (tested T why.NotCanonical V b) x y b
      (stop_at (tested T why.NotCanonical V b) why.NotCanonical x b
      (ap (λ o. next o (λ v z. if T v then read v z else stop why.NotCanonical b)) e ∙ ap (λ q. if q then read w r else stop why.NotCanonical b) t) a) g)

  pub present_ok : (v : AbstractValue) (k' n' : ℕ) (r : Bits) (ws' : Row) → V b ≡ read (taken v k' n') r → T (taken v k' n') ≡ true → ws' ≡ with_value f.place v ws → P ≡ read (taken ws' k' n') r
  present_ok v k' n' r ws' e t g =
      ap (λ o. next (in_part (Component' f.place) (next o (λ w z. if T w then read w z else stop why.NotCanonical b))) (λ w z. read (put f ws w) z)) e
      ∙ ap (λ q. next (in_part (Component' f.place) (if q then read (taken v k' n') r else stop why.NotCanonical b)) (λ w z. read (put f ws w) z)) t
      ∙ ap (λ q. read (taken q k' n') r) (sym g)

  pub same_as_default : (d : Component) (v : AbstractValue) (k' n' : ℕ) (q : Bool) → slice_get cs f.place ≡ Some d → k' ≡ k → q ≡ is_default s d v → q ≡ true → T (taken v k' n') ≡ false
  same_as_default d v k' n' q e h i t =
      ap (λ c. not (k' == k && is_default s c v)) (component_is cs f d e)
      ∙ ap (λ z. not (z == k && is_default s d v)) h ∙ ap (λ z. not ((k == k) && z)) (sym i ∙ t) ∙ ap (λ z. not (z && true)) (eq-eqb k k refl)

  pub no_default : (d : Component) (v : AbstractValue) (k' n' : ℕ) (q : Bool) → slice_get cs f.place ≡ Some d → q ≡ is_default s d v → q ≡ false → T (taken v k' n') ≡ true
  no_default d v k' n' q e i t =
      ap (λ c. not (k' == k && is_default s c v)) (component_is cs f d e) ∙ ap (λ z. not ((k' == k) && z)) (sym i ∙ t) ∙ off (k' == k)
    where
      off : (x : Bool) → not (x && false) ≡ true
      off true = refl
      off false = refl

  pub never_default : (d : Component) (v : AbstractValue) (k' n' : ℕ) → slice_get cs f.place ≡ Some d → f.with_default ≡ has_default d.presence → f.with_default ≡ false → T (taken v k' n') ≡ true
  never_default d v k' n' e i t = no_default d v k' n' false e (sym (lacks_default s d v (sym i ∙ t))) refl

  pub some_skipped : (v : AbstractValue) (k' n' : ℕ) → (k' ≡ k → ⊥) → T (taken v k' n') ≡ true
  some_skipped v k' n' h = differ_by (k' == k) (is_default s (component_of_field cs f) v) (ne_eqb k' k h)

  pub absent_ok : (d : Component) (q : Bool) → slice_get cs f.place ≡ Some d → q ≡ may_lack (is_within s l) d → q ≡ true → run_absent s l cs f ws k n b ≡ read (taken ws k n) b
  absent_ok d q e i t =
      ap (λ c. if may_lack (is_within s l) c then read (taken ws k n) b else in_part (Component' f.place) (stop why.TooDeep b)) (component_is cs f d e)
      ∙ ap (λ z. if z then read (taken ws k n) b else in_part (Component' f.place) (stop why.TooDeep b)) (sym i ∙ t)

  pub absent_deep : (d : Component) (q : Bool) (x y : Stop) → slice_get cs f.place ≡ Some d → q ≡ may_lack (is_within s l) d → q ≡ false → IsStopAt why.TooDeep x → IsWithin (Component' f.place) x y → IsStop (run_absent s l cs f ws k n b) y b
  absent_deep d q x y e i t a g =
      stop_as (run_absent s l cs f ws k n b) (in_part (Component' f.place) (stop why.TooDeep b)) y b
      (ap (λ c. if may_lack (is_within s l) c then read (taken ws k n) b else in_part (Component' f.place) (stop why.TooDeep b)) (component_is cs f d e)
      ∙ ap (λ z. if z then read (taken ws k n) b else in_part (Component' f.place) (stop why.TooDeep b)) (sym i ∙ t))
      (stop_within (Component' f.place) (stop why.TooDeep b) x y b (stop_here (Taken Row) why.TooDeep x b a) g)

module _ (s : List Resolved) (l : ℕ) (cs : List Component) (x : Sent) (ws : Row) (k n : ℕ) (b : Bits) where
  pub member_present : x.present ≡ true → run_member s l (run_value s l) cs x ws k n b ≡ run_present s (run_value s l) cs x.field ws k n b
  member_present e = ap (λ q. if q then run_present s (run_value s l) cs x.field ws k n b else run_absent s l cs x.field ws k n b) e

  pub member_absent : x.present ≡ false → run_member s l (run_value s l) cs x ws k n b ≡ run_absent s l cs x.field ws k n b
  member_absent e = ap (λ q. if q then run_present s (run_value s l) cs x.field ws k n b else run_absent s l cs x.field ws k n b) e

-- ---- members, one after the other

module _ (s : List Resolved) (l : ℕ) (cs : List Component) (xs : List Sent) (i : ℕ) (x : Sent) (ws : Row) (k n : ℕ) (b : Bits) (e : drop i xs ≡ x ∷ drop (i + 1) xs) where
  abbrev All : List Sent → Row → (k n : ℕ) → Bits → Reading (Taken Row)
  All = run_members s l (run_value s l) cs

  pub members_next : (all : Reading (Taken Row)) (ws' : Row) (k' n' : ℕ) (r : Bits) → All (drop i xs) ws k n b ≡ all → run_member s l (run_value s l) cs x ws k n b ≡ read (taken ws' k' n') r → All (drop (i + 1) xs) ws' k' n' r ≡ all
  members_next all ws' k' n' r h g = sym (ap (λ q. All q ws k n b) e ∙ ap (λ o. next o (λ w z. All (drop (i + 1) xs) w.it w.skipped w.left z)) g) ∙ h

  pub members_stop : (all : Reading (Taken Row)) (y : Stop) (r : Bits) → All (drop i xs) ws k n b ≡ all → IsStop (run_member s l (run_value s l) cs x ws k n b) y r → IsStop all y r
  members_stop all y r h g =
      stop_as all (next (run_member s l (run_value s l) cs x ws k n b) (λ w z. All (drop (i + 1) xs) w.it w.skipped w.left z)) y r (sym h ∙ ap (λ q. All q ws k n b) e)
      (stop_next (run_member s l (run_value s l) cs x ws k n b) (λ w z. All (drop (i + 1) xs) w.it w.skipped w.left z) y r g)

dropped_none : {X : Type 0} (xs : List X) (i : ℕ) → length xs ≤ i → drop i xs ≡ []
dropped_none [] zero h = refl
dropped_none [] (suc i) h = refl
dropped_none (x ∷ xs) zero h = absurd (omega (arith, h))
dropped_none (x ∷ xs) (suc i) h = dropped_none xs i (let k : length xs ≤ i = omega (arith, h) in k)

pub members_end : (s : List Resolved) (l : ℕ) (cs : List Component) (xs : List Sent) (i : ℕ) (ws : Row) (k n : ℕ) (b : Bits) (all : Reading (Taken Row)) → length xs ≤ i → run_members s l (run_value s l) cs (drop i xs) ws k n b ≡ all → all ≡ read (taken ws k n) b
members_end s l cs xs i ws k n b all h g = sym g ∙ ap (λ q. run_members s l (run_value s l) cs q ws k n b) (dropped_none xs i h)

pub sent_there : (s : List Resolved) (t : ℕ) (xs : List Sent) (i : ℕ) (x : Sent) → AreSent s t xs → drop i xs ≡ x ∷ drop (i + 1) xs → FieldFits s t x.field
sent_there s t xs i x a e = (subst (AreSent s t) e (all_drop (λ y. FieldFits s t y.field) i xs a)).0

-- the fields that bits were taken for are those of steps that fit
pub sent_fit : (s : List Resolved) (t : ℕ) (xs : List Sent) (fs : List PackedField) → map (λ x. x.field) xs ≡ fs → AllByRecursion (FieldFits s t) fs → AreSent s t xs
sent_fit s t [] fs e a = tt
sent_fit s t (x ∷ xs) [] e a = absurd (cc)
sent_fit s t (x ∷ xs) (f ∷ fs) e a = (subst (FieldFits s t) (sym (first e)) a.0, sent_fit s t xs fs (others e) a.1)
  where
    first : {g : PackedField} {gs hs : List PackedField} → g ∷ gs ≡ f ∷ hs → g ≡ f
    first e = cc

    others : {g : PackedField} {gs hs : List PackedField} → g ∷ gs ≡ f ∷ hs → gs ≡ hs
    others e = cc

-- ---- the whole of a SEQUENCE or SET

module _ (s : List Resolved) (l : ℕ) (cs : List Component) (e : Bool) (m : ℕ) (ss : List PackedStep) (k n : ℕ) (b : Bits) where
  abbrev Whole : Reading (Taken Row)
  Whole = run_structure s l (run_value s l) cs e m ss k n b

  abbrev Sent' : Bool → List Sent → Bits → Reading (Taken Row)
  Sent' c xs x = next (run_members s l (run_value s l) cs xs (no_row cs) k n x) (λ w y. run_rest s l (run_value s l) cs c (drop m ss) w.it w.skipped w.left y)

  abbrev Marked : Bool → Bits → Reading (Taken Row)
  Marked c r = next (run_presences [] (next_fields m ss) r) (λ xs x. Sent' c xs x)

  marked : (c : Bool) (r : Bits) → mark_from e b ≡ read c r → Whole ≡ Marked c r
  marked c r h = ap (λ o. next o (λ d z. Marked d z)) h

  pub no_mark : (x : Stop) (r : Bits) → IsStop (mark_from e b) x r → IsStop Whole x r
  no_mark x r h = stop_next (mark_from e b) (λ d z. Marked d z) x r h

  pub no_presences : (c : Bool) (r z : Bits) (fs : List PackedField) (x : Stop) → mark_from e b ≡ read c r → fs ≡ next_fields m ss → IsStop (run_presences [] fs r) x z → IsStop Whole x z
  no_presences c r z fs x h g i = stop_as Whole (Marked c r) x z (marked c r h) (stop_next (run_presences [] (next_fields m ss) r) (λ xs y. Sent' c xs y) x z (subst (λ q. IsStop (run_presences [] q r) x z) g i))

  sent_is : (c : Bool) (r z : Bits) (fs : List PackedField) (xs : List Sent) → mark_from e b ≡ read c r → fs ≡ next_fields m ss → run_presences [] fs r ≡ read xs z → Whole ≡ Sent' c xs z
  sent_is c r z fs xs h g i = marked c r h ∙ ap (λ o. next o (λ ys y. Sent' c ys y)) (ap (λ q. run_presences [] q r) (sym g) ∙ i)

  pub no_members : (c : Bool) (r z y : Bits) (fs : List PackedField) (xs : List Sent) (ws : Row) (x : Stop) → mark_from e b ≡ read c r → fs ≡ next_fields m ss → run_presences [] fs r ≡ read xs z → ws ≡ no_row cs → IsStop (run_members s l (run_value s l) cs xs ws k n z) x y → IsStop Whole x y
  no_members c r z y fs xs ws x h g i j u =
      stop_as Whole (Sent' c xs z) x y (sent_is c r z fs xs h g i)
      (stop_next (run_members s l (run_value s l) cs xs (no_row cs) k n z) (λ w v. run_rest s l (run_value s l) cs c (drop m ss) w.it w.skipped w.left v) x y (subst (λ q. IsStop (run_members s l (run_value s l) cs xs q k n z) x y) j u))

  pub rest_is : (c : Bool) (r z y : Bits) (fs : List PackedField) (xs : List Sent) (ws ws' : Row) (k' n' : ℕ) → mark_from e b ≡ read c r → fs ≡ next_fields m ss → run_presences [] fs r ≡ read xs z → ws ≡ no_row cs → run_members s l (run_value s l) cs xs ws k n z ≡ read (taken ws' k' n') y → Whole ≡ run_rest s l (run_value s l) cs c (drop m ss) ws' k' n' y
  rest_is c r z y fs xs ws ws' k' n' h g i j u =
      sent_is c r z fs xs h g i ∙ ap (λ o. next o (λ w v. run_rest s l (run_value s l) cs c (drop m ss) w.it w.skipped w.left v)) (ap (λ q. run_members s l (run_value s l) cs xs q k n z) (sym j) ∙ u)

-- ---- alternatives

few_bits : (n : ℕ) → n < 2 ^ 64 → place_width n ≤ 64
few_bits n h = length-digits_of-le 2 64 (n - 1) (omega arith) (let k : n - 1 < 2 ^ 64 = omega (arith, h) in k)

calls_narrow : (s : List Resolved) (e : Bool) (root more : List Alternative) (i : ℕ) → length root < 2 ^ 64 → HaveWidth (take i (root_calls s e root root ++ more_calls 0 more))
calls_narrow s e [] [] zero h = tt
calls_narrow s e [] [] (suc i) h = tt
calls_narrow s e [] (a ∷ more) zero h = tt
calls_narrow s e [] (a ∷ more) (suc i) h = tt
calls_narrow s e (a ∷ root) more zero h = tt
calls_narrow s e (a ∷ root) more (suc i) h = few_bits (length (a ∷ root)) h

pub calls_have_width : (s : List Resolved) (t : ℕ) (k : Kind) (calls : List PackedStep) → AreCalls s t calls → kind_at s t ≡ k → ((root more : List Alternative) (e : Bool) → k ≡ a_choice root e more → length root < 2 ^ 64) → HaveWidth calls
calls_have_width s t k calls a e few =
    subst HaveWidth (sym (a.is ∙ ap (take a.count) a.pick.calls))
    (calls_narrow s a.pick.extensible a.pick.root a.pick.more a.count (few a.pick.root a.pick.more a.pick.extensible (sym e ∙ a.pick.kind)))

abbrev pub next' : ℕ → Reading (Taken AbstractValue) → Reading (Taken AbstractValue)
next' i o = next (in_part (Alternative' i) o) (λ q z. read (alternative_of i q) z)

pub only_memory : {X Y : Type 0} (x : Result X Stop) (o : Reading Y) (r : Bits) → IfErr x (λ e. e ≡ Memory) → IfErr x (λ e. IsStop o e r)
only_memory (Ok v) o r h = tt
only_memory (Err e) o r h = subst (λ q. IsStop o q r) (sym h) tt

pub whatever : {X E W : Type 0} (x : Result X E) → W → IfOk x (λ v. W)
whatever (Ok v) w = w
whatever (Err e) w = tt

module _ (s : List Resolved) (l : ℕ) (i t k n : ℕ) (b : Bits) where
  abbrev W : Reading (Taken AbstractValue)
  W = run_value s l t k n b

  abbrev O : Reading (Taken AbstractValue)
  O = open_from (run_value s l t k n) b

  pub chosen_ok : (o : Reading (Taken AbstractValue)) (v w : AbstractValue) (k' n' : ℕ) (r : Bits) → o ≡ read (taken v k' n') r → w ≡ alternative i v → next (in_part (Alternative' i) o) (λ q z. read (alternative_of i q) z) ≡ read (taken w k' n') r
  chosen_ok o v w k' n' r e h = ap (λ q. next (in_part (Alternative' i) q) (λ u z. read (alternative_of i u) z)) e ∙ ap (λ q. read (taken q k' n') r) (sym h)

  pub chosen_stop : (o : Reading (Taken AbstractValue)) (x y : Stop) (r : Bits) → IsStop o x r → IsWithin (Alternative' i) x y → IsStop (next (in_part (Alternative' i) o) (λ q z. read (alternative_of i q) z)) y r
  chosen_stop o x y r h w = stop_next (in_part (Alternative' i) o) (λ q z. read (alternative_of i q) z) y r (stop_within (Alternative' i) o x y r h w)

  pub chosen_open : (q : Bool) → q ≡ true → run_chosen (run_value s l) (chosen_by q i t) k n b ≡ next' i O
  chosen_open q e = ap (λ z. run_chosen (run_value s l) (chosen_by z i t) k n b) e

  pub chosen_root : (q : Bool) → q ≡ false → run_chosen (run_value s l) (chosen_by q i t) k n b ≡ next' i W
  chosen_root q e = ap (λ z. run_chosen (run_value s l) (chosen_by z i t) k n b) e

  pub chosen_as : {E : Type 0} (x : Result Value E) (o all : Reading (Taken AbstractValue)) (u : AbstractValue) (p : Progress) (r : Bits) → all ≡ next' i o → o ≡ read (taken u p.skipped p.left) r → IfOk x (λ v. abstract v ≡ alternative i u) → IfOk x (λ v. IsGot all (abstract v) p r)
  chosen_as (Ok v) o all u p r e h g = e ∙ chosen_ok o u (abstract v) p.skipped p.left r h g
  chosen_as (Err d) o all u p r e h g = tt
