-- Elements of a list, as calls read them.
use Rattle.std.proofs.Common.{arith, ◌≡◌, ◌≤◌, ◌<◌, ◌+◌, ◌-◌, ◌∷◌, ◌++◌, [], ℕ, suc, Bool, true, false, cond, List, Option, ◌⊎◌, inl, inr, length, take, refl, sym, ap, subst, ◌∙◌}
use Rattle.std.specs.Prelude.{if◌then◌else◌, not, ◌||◌, Result, Ok, Err, IfErr, OnOk, IsErrAnd}
use Rattle.std.proofs.lemmas.Result.{err_from_is_err_and}
use Rattle.asn_base.specs.Abstract.{AbstractValue, list, row_of_list, present}
use Rattle.asn_base.specs.Types.{Constraint, Resolved, TypeNumber, a_sequence_of, a_set_of}
use Rattle.packed_encodings.specs.Computed.{kind_at}
use Rattle.packed_encodings.specs.Lengths.{Bits}
use Rattle.decode_faults.specs.declared.refusal.Refusal.{Refusal}
use Rattle.decode_faults.specs.declared.refusal.Refusal.TheVariants as why
use Rattle.packed_readings.specs.declared.count.Count.{Count}
use Rattle.packed_readings.specs.declared.size.Sizing.TheVariants.{AtOnce as at_once, Counted as counted}
use Rattle.packed_readings.specs.Counts.{count_from, total, size_from, size_fault}
use Rattle.packed_readings.specs.Outcome.{judging, found, stops}
use Rattle.packed_writer.specs.proving.Values.{IsListOf}
use Rattle.packed_reader.specs.declared.part.Part.TheVariants.{Element}
use Rattle.packed_reader.specs.declared.reader.Progress.{Progress}
use Rattle.packed_reader.specs.declared.stop.Stop.{Stop}
use Rattle.packed_reader.specs.declared.stop.Stop.TheVariants.{Memory}
use Rattle.packed_reader.specs.Lists.{at_most, in_order}
use Rattle.packed_reader.specs.Readings.{Reading, read, refused, stop, next, in_part, plain, tested, with_bits, Taken, taken}
use Rattle.packed_reader.specs.Steps.{size_in}
use Rattle.packed_reader.specs.proving.Code.{HasRoom, IsStop, IsStopAt, IsWithin, Advanced}
use Rattle.packed_reader.specs.proving.Running.{past, RunsElement, RunsValue, Elements, no_elements, and_one, with_its_bits, run_element, run_elements, run_part, run_parts, run_sized, run_list, run_each, as_list, row_of_values}
use Rattle.packed_reader.proofs.Exact.{not_both, one_value}
use Rattle.packed_reader.proofs.Flow.{stop_as, stop_at, stop_next, stop_within, went_same}

-- ---- what calls return

pub memory_stops : {X T : Type 0} (o : Reading X) (b : Bits) (r : Result T Stop) → IsErrAnd r (λ e. e ≡ Memory) → IfErr r (λ e. IsStop o e b)
memory_stops o b r h =
    let p = err_from_is_err_and r h in
    subst (λ q. IfErr q (λ e. IsStop o e b)) (sym p.1) (subst (λ e. IsStop o e b) (sym p.2) tt)

pub nothing_returned : {T : Type 0} (P : Type 0) (r : Result T Stop) → IsErrAnd r (λ e. e ≡ Memory) → OnOk r P
nothing_returned P r h =
    let p = err_from_is_err_and r h in
    subst (λ q. OnOk q P) (sym p.1) tt

module _ {X T : Type 0} (o q : Reading X) (same : o ≡ q) where
  pub returned_as : (x : Reading X) (r : Result T Stop) → OnOk r (q ≡ x) → OnOk r (o ≡ x)
  returned_as x (Ok v) h = same ∙ h
  returned_as x (Err e) h = tt

  pub refused_as : (b : Bits) (r : Result T Stop) → IfErr r (λ e. IsStop q e b) → IfErr r (λ e. IsStop o e b)
  refused_as b (Ok v) h = tt
  refused_as b (Err e) h = stop_as o q e b same h

-- ---- how much is left

pub past_more : {X : Type 0} (k : ℕ) (o : Reading (Taken X)) (v : X) (j n : ℕ) (r : Bits) → past k o ≡ read (taken v j n) r → k ≤ j
past_more k (read w z) v j n r e = let s : k + w.skipped ≡ j = ap (λ q. q.skipped) (one_value e).0 in omega (arith, s)
past_more k (refused d z) v j n r e = absurd (not_both (sym e))

-- no more bits are left after what is read
pub fewer_left : {X : Type 0} (p q : Progress) (b r : Bits) (o : Reading (Taken X)) (v : X) → past p.skipped o ≡ read (taken v q.skipped q.left) r → Advanced p b q r → length r ≤ length b
fewer_left p q b r o v e w =
    let m = past_more p.skipped o v q.skipped q.left r e in
    let h = w.room in
    omega (arith, m, h)

pub went_on : (p q u : Progress) (b r z : Bits) → Advanced p b q r → Advanced q r u z → Advanced p b u z
went_on p q u b r z v w =
    let a = v.left in
    let c = w.left in
    let d = v.room in
    let e = w.room in
    record { left = omega (arith, a, c); room = omega (arith, d, e) }

pub went_before : (p q : Progress) (b m r : Bits) → length m ≤ length b → Advanced p m q r → Advanced p b q r
went_before p q b m r l w =
    let d = w.room in
    record { left = w.left; room = omega (arith, d, l) }

pub all_before : {T : Type 0} (p q : Progress) (b m r : Bits) (o : Result T Stop) → length m ≤ length b → OnOk o (Advanced p m q r) → OnOk o (Advanced p b q r)
all_before p q b m r (Ok v) l w = went_before p q b m r l w
all_before p q b m r (Err e) l w = tt

pub room_before : (p : Progress) (b m : Bits) → length m ≤ length b → HasRoom p b → HasRoom p m
room_before p b m l h = omega (arith, l, h)

pub room_after : (p q : Progress) (b r : Bits) → Advanced p b q r → HasRoom p b → HasRoom q r
room_after p q b r w h = let d = w.room in omega (arith, d, h)

-- ---- lists

pub rows_are : (vs : List AbstractValue) → row_of_list vs ≡ row_of_values vs
rows_are [] = refl
rows_are (v ∷ vs) = ap (present v) (rows_are vs)

pub size_is : (s r : List Resolved) (t : ℕ) (c : Constraint) → r ≡ s → IsListOf r t c → size_in (kind_at s t) ≡ c
size_is s r t c e l = ap (λ q. size_in (kind_at q t)) (sym e) ∙ by l.kind
  where
    by : (kind_at r t ≡ a_sequence_of c l.element) ⊎ (kind_at r t ≡ a_set_of c l.element) → size_in (kind_at r t) ≡ c
    by (inl h) = ap size_in h
    by (inr h) = ap size_in h

module _ (s : List Resolved) (value : RunsValue) (t : TypeNumber) (sorted : Bool) (u : TypeNumber) (c : Constraint) (k n : ℕ) (b : Bits) where
  each_is : size_in (kind_at s t) ≡ c → run_each s value t sorted u k n b ≡ next (run_list (value u) sorted c k n b) (λ w r. read (as_list w) r)
  each_is e = ap (λ q. next (run_list (value u) sorted q k n b) (λ w r. read (as_list w) r)) e

  pub each_read : (es : Elements) (v : AbstractValue) (j m : ℕ) (r : Bits) → size_in (kind_at s t) ≡ c → run_list (value u) sorted c k n b ≡ read (taken es j m) r → v ≡ list (row_of_list es.values) → run_each s value t sorted u k n b ≡ read (taken v j m) r
  each_read es v j m r e h g =
      each_is e ∙ ap (λ o. next o (λ w r. read (as_list w) r)) h
      ∙ ap (λ q. read (taken q j m) r) (sym (g ∙ ap list (rows_are es.values)))

  pub each_stops : (x : Stop) (r : Bits) → size_in (kind_at s t) ≡ c → IsStop (run_list (value u) sorted c k n b) x r → IsStop (run_each s value t sorted u k n b) x r
  each_stops x r e h =
      stop_as (run_each s value t sorted u k n b) (next (run_list (value u) sorted c k n b) (λ w r. read (as_list w) r)) x r (each_is e)
      (stop_next (run_list (value u) sorted c k n b) (λ w r. read (as_list w) r) x r h)

module _ (value : RunsElement) (sorted : Bool) where
  module _ (c : Constraint) (es : Elements) (none : es ≡ no_elements) (k n : ℕ) (b r : Bits) where
    pub list_at_once : (m : ℕ) → size_from c b ≡ found (at_once m) r → run_list value sorted c k n b ≡ run_elements value sorted m es k n r
    list_at_once m e =
        ap (λ o. next (plain o) (λ z r. run_sized value sorted c k n z r)) e
        ∙ ap (λ q. run_elements value sorted m q k n r) (sym none)

    pub list_counted : (outside : Bool) → size_from c b ≡ found (counted outside) r → run_list value sorted c k n b ≡ run_parts value sorted (size_fault c outside) (suc n) true es k n r
    list_counted outside e =
        ap (λ o. next (plain o) (λ z r. run_sized value sorted c k n z r)) e
        ∙ ap (λ q. run_parts value sorted (size_fault c outside) (suc n) true q k n r) (sym none)

  pub list_stops : (c : Constraint) (k n : ℕ) (b r : Bits) (e : Refusal) (x : Stop) → size_from c b ≡ stops e r → IsStopAt e x → IsStop (run_list value sorted c k n b) x r
  list_stops c k n b r e x h a = stop_at (run_list value sorted c k n b) e x r (ap (λ o. next (plain o) (λ z r. run_sized value sorted c k n z r)) h) a

  -- ---- one element

  module _ (es : Elements) (k n : ℕ) (b : Bits) where
    abbrev own_bits : Bits → Bits
    own_bits r = take (length b - length r) b

    abbrev Whole : Reading (Taken AbstractValue × Bits)
    Whole = with_bits (value k n) b

    abbrev InOrder : Reading (Taken AbstractValue × Bits)
    InOrder = tested (in_order sorted es.before) why.NotCanonical (with_bits (value k n)) b

    abbrev put_one : Taken AbstractValue × Bits → Bits → Reading (Taken Elements)
    put_one p r = read (and_one es (with_its_bits p)) r

    abbrev judge : Taken AbstractValue × Bits → Bits → Reading (Taken AbstractValue × Bits)
    judge v r = if in_order sorted es.before v then read v r else stop why.NotCanonical b

    part_stops : (i : ℕ) (x y : Stop) (r : Bits) → i ≡ length es.values → IsStop InOrder x r → IsWithin (Element i) x y → IsStop (run_element value sorted es k n b) y r
    part_stops i x y r e h w =
        stop_next (in_part (Element (length es.values)) InOrder) put_one y r
        (stop_within (Element (length es.values)) InOrder x y r h (subst (λ q. IsWithin (Element q) x y) e w))

    pub element_stops : (i : ℕ) (x y : Stop) (r : Bits) → i ≡ length es.values → IsStop (value k n b) x r → IsWithin (Element i) x y → IsStop (run_element value sorted es k n b) y r
    element_stops i x y r e h w =
        part_stops i x y r e
        (stop_next Whole judge x r (stop_next (value k n b) (λ v r. read (v, take (length b - length r) b) r) x r h)) w

    judged_as : (w : Taken AbstractValue) (r : Bits) → value k n b ≡ read w r → InOrder ≡ judge (w, own_bits r) r
    judged_as w r h = ap (λ o. next (next o (λ v r. read (v, take (length b - length r) b) r)) judge) h

    pub element_refused : (i : ℕ) (w : Taken AbstractValue) (r own : Bits) (x y : Stop) → i ≡ length es.values → value k n b ≡ read w r → own ≡ own_bits r → (not sorted || at_most es.before own) ≡ false → IsStopAt why.NotCanonical x → IsWithin (Element i) x y → IsStop (run_element value sorted es k n b) y b
    element_refused i w r own x y e h o f a v =
        part_stops i x y b e
        (stop_at InOrder why.NotCanonical x b
        (judged_as w r h
        ∙ ap (λ q. if not sorted || at_most es.before q then read (w, own_bits r) r else stop why.NotCanonical b) (sym o)
        ∙ ap (λ q. if q then read (w, own_bits r) r else stop why.NotCanonical b) f) a) v

    pub element_read : (v : AbstractValue) (j m : ℕ) (r own : Bits) (vs : List AbstractValue) → value k n b ≡ read (taken v j m) r → own ≡ own_bits r → (not sorted || at_most es.before own) ≡ true → vs ≡ es.values ++ v ∷ [] → run_element value sorted es k n b ≡ read (taken (record { values = vs; before = own }) j m) r
    element_read v j m r own vs h o f g =
        ap (λ q. next (in_part (Element (length es.values)) q) put_one)
        (judged_as (taken v j m) r h
        ∙ ap (λ q. if not sorted || at_most es.before q then read (taken v j m, own_bits r) r else stop why.NotCanonical b) (sym o)
        ∙ ap (λ q. if q then read (taken v j m, own_bits r) r else stop why.NotCanonical b) f)
        ∙ ap (λ q. read (taken (record { values = es.values ++ v ∷ []; before = q }) j m) r) (sym o)
        ∙ ap (λ q. read (taken (record { values = q; before = own }) j m) r) (sym g)

  -- ---- several elements

  abbrev pub AreSoFar : (m i : ℕ) → (first es : Elements) → (start p : Progress) → (all b : Bits) → Type 0
  AreSoFar m i first es start p all b =
      (run_elements value sorted (m - i) es p.skipped p.left b ≡ run_elements value sorted m first start.skipped start.left all)
      × Advanced start all p b
      × (p.left + i ≤ start.left)

  pub elements_none : (m : ℕ) (es : Elements) (p : Progress) (b : Bits) → AreSoFar m 0 es es p p b b
  elements_none m es p b =
      let e : m - 0 ≡ m = omega arith in
      let l : p.left + 0 ≤ p.left = omega arith in
      (ap (λ q. run_elements value sorted q es p.skipped p.left b) e, went_same p b, l)

  module _ (m i : ℕ) (first es : Elements) (start p : Progress) (all b : Bits) where
    one_more : i < m → run_elements value sorted (suc (m - (i + 1))) es p.skipped p.left b ≡ run_elements value sorted (m - i) es p.skipped p.left b
    one_more l = let e : suc (m - (i + 1)) ≡ m - i = omega (arith, l) in ap (λ q. run_elements value sorted q es p.skipped p.left b) e

    pub elements_more : (es' : Elements) (q : Progress) (r : Bits) → i < m → AreSoFar m i first es start p all b → run_element value sorted es p.skipped p.left b ≡ read (taken es' q.skipped q.left) r → Advanced p b q r → q.left < p.left → AreSoFar m (i + 1) first es' start q all r
    elements_more es' q r l h e w f =
        let k = h.2 in
        let z : q.left + (i + 1) ≤ start.left = omega (arith, k, f) in
        (sym (ap (λ o. next o (λ w r. run_elements value sorted (m - (i + 1)) w.it w.skipped w.left r)) e) ∙ one_more l ∙ h.0, went_on start p q all b r h.1 w, z)

    pub elements_stop : (x : Stop) (r : Bits) → i < m → AreSoFar m i first es start p all b → IsStop (run_element value sorted es p.skipped p.left b) x r → IsStop (run_elements value sorted m first start.skipped start.left all) x r
    elements_stop x r l h s =
        stop_as (run_elements value sorted m first start.skipped start.left all) (run_elements value sorted (suc (m - (i + 1))) es p.skipped p.left b) x r
        (sym (one_more l ∙ h.0))
        (stop_next (run_element value sorted es p.skipped p.left b) (λ w r. run_elements value sorted (m - (i + 1)) w.it w.skipped w.left r) x r s)

    pub elements_all : m ≤ i → AreSoFar m i first es start p all b → run_elements value sorted m first start.skipped start.left all ≡ read (taken es p.skipped p.left) b
    elements_all l h = let e : m - i ≡ 0 = omega (arith, l) in sym h.0 ∙ ap (λ q. run_elements value sorted q es p.skipped p.left b) e

-- ---- numbers of elements

-- the number is known by an equation, and how many elements were before too
pub stated_at : (test : ℕ → Option Refusal) (full : Bool) (d i : ℕ) (b r : Bits) (c e : Count) → d ≡ i → c ≡ e → judging (total test d) (count_from full) b ≡ found c r → judging (total test i) (count_from full) b ≡ found e r
stated_at test full d i b r c e f g h = ap (λ q. judging (total test q) (count_from full) b) (sym f) ∙ h ∙ ap (λ q. found q r) g

pub stop_stated : (value : RunsElement) (sorted : Bool) (test : ℕ → Option Refusal) (f : ℕ) (full : Bool) (es : Elements) (d k n : ℕ) (b r : Bits) (e : Refusal) (x : Stop) → d ≡ length es.values → judging (total test d) (count_from full) b ≡ stops e r → IsStopAt e x → IsStop (run_parts value sorted test (suc f) full es k n b) x r
stop_stated value sorted test f full es d k n b r e x g h a =
    stop_at (run_parts value sorted test (suc f) full es k n b) e x r
    (ap (λ o. next (plain o) (λ c z. run_part value sorted es k n c (run_parts value sorted test f) z)) (ap (λ q. judging (total test q) (count_from full) b) (sym g) ∙ h)) a

pub less_last : (more : Bool) (m n : ℕ) → more ≡ true → m ≤ n → m + cond false 1 0 < n + cond more 1 0
less_last true m n e l = omega (arith, l)
less_last false m n e l = absurd (cc)

pub less_more : (more : Bool) (m n : ℕ) → m < n → m + cond more 1 0 < n + cond more 1 0
less_more true m n l = omega (arith, l)
less_more false m n l = omega (arith, l)

-- ---- whether an element comes in order

pub not_in_order : (sorted x given : Bool) → sorted ≡ true → x ≡ false → x ≡ given → (not sorted || given) ≡ false
not_in_order sorted x given e f g = ap (λ q. not q || given) e ∙ sym g ∙ f

pub in_order_by : (sorted x given : Bool) → x ≡ true → x ≡ given → (not sorted || given) ≡ true
in_order_by true x given f g = sym g ∙ f
in_order_by false x given f g = refl

pub in_any_order : (sorted given : Bool) → sorted ≡ false → (not sorted || given) ≡ true
in_any_order sorted given e = ap (λ q. not q || given) e

pub own_are : (x b r : Bits) (i j : ℕ) → i ≡ length b → j ≡ length r → x ≡ take (i - j) b → x ≡ take (length b - length r) b
own_are x b r i j e f h = h ∙ ap (λ q. take (q - j) b) e ∙ ap (λ q. take (length b - q) b) f
