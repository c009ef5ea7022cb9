-- Open types and additions, as calls read them.
use Rattle.std.proofs.Common.{arith, ◌≡◌, ℕ, suc, ◌+◌, ◌*◌, ◌-◌, ◌<◌, ◌≤◌, ◌^◌, Bool, true, false, List, [], ◌∷◌, ◌++◌, length, map, refl, sym, ap, subst, ◌∙◌, length-append, ◌⊎◌, inl, inr}
use Rattle.std.specs.Prelude.{if◌then◌else◌, nat_lt, min, Option, Result, Ok, Err, IfErr, OnOk}
use Rattle.std.specs.List.{AllByRecursion}
use Rattle.std.proofs.lemmas.Option.{slice_get_within}
use Rattle.std.proofs.Math.Nat.{min-le_right, min-eq_left}
use Rattle.bits.specs.Words.{octet_bits}
use Rattle.asn_base.specs.Abstract.{AbstractValue, Row}
use Rattle.asn_base.specs.Types.{Component, Resolved}
use Rattle.asn_base.specs.Schemas.{components}
use Rattle.asn_base.specs.declared.value.Value.{Value}
use Rattle.packed_code.specs.declared.step.PackedField.{PackedField}
use Rattle.packed_code.specs.declared.step.PackedStep.{PackedStep}
use Rattle.packed_code.specs.declared.step.PackedStep.TheVariants as steps
use Rattle.packed_encodings.specs.Computed.{kind_at}
use Rattle.packed_encodings.specs.Lengths.{Bits}
use Rattle.decode_faults.specs.declared.refusal.Refusal.TheVariants as why
use Rattle.packed_readings.specs.Outcome.{Outcome, found, stops}
use Rattle.packed_writer.specs.proving.Fields.{fields_fit}
use Rattle.packed_reader.specs.declared.part.Part.TheVariants.{Component as Component'}
use Rattle.packed_reader.specs.declared.reader.Progress.{Progress}
use Rattle.packed_reader.specs.declared.sent.Sent.{Sent}
use Rattle.packed_reader.specs.declared.stop.Stop.{Stop}
use Rattle.packed_reader.specs.declared.stop.Stop.TheVariants.{Memory, Refused}
use Rattle.packed_reader.specs.Readings.{Fault, Reading, read, refused, stop, next, in_part, plain, tested, Taken, taken}
use Rattle.packed_reader.specs.Structures.{is_filling, contents_from, open_from, unknown_from, with_value}
use Rattle.packed_reader.specs.proving.Code.{AreSent, HasRoom, IsStop, IsStopAt, IsWithin, Advanced, row_of_values}
use Rattle.packed_reader.specs.proving.Running.{RunsValue, any_sent, first_bit, is_addition, other_bits, put, run_added, run_additions, run_first, run_presences, run_unknown}
use Rattle.packed_writer.specs.proving.Values.{FieldFits, FieldsFit, fields_in}
use Rattle.packed_reader.proofs.Flow.{stop_as, stop_next, stop_within}
use Rattle.packed_reader.proofs.Opening.{octets_length}
use Rattle.packed_reader.proofs.RunningState.{next_next, plus_none}
use Rattle.packed_reader.proofs.ValueRun.{open_good, open_stop, open_unfilled}

-- ---- answers

pub err_as : {X T : Type 0} (res : Result T Stop) (o q : Reading X) (r : Bits) → o ≡ q → IfErr res (λ e. IsStop q e r) → IfErr res (λ e. IsStop o e r)
err_as (Ok x) o q r e h = tt
err_as (Err d) o q r e h = stop_as o q d r e h

pub err_next : {X Y T : Type 0} (res : Result T Stop) (o : Reading X) (g : X → Bits → Reading Y) (all : Reading Y) (r : Bits) → all ≡ next o g → IfErr res (λ e. IsStop o e r) → IfErr res (λ e. IsStop all e r)
err_next (Ok x) o g all r e h = tt
err_next (Err d) o g all r e h = stop_as all (next o g) d r e (stop_next o g d r h)

pub ok_as : {X T : Type 0} (res : Result T Stop) (o q : Reading X) (v : X) (r : Bits) → o ≡ q → OnOk res (q ≡ read v r) → OnOk res (o ≡ read v r)
ok_as (Ok x) o q v r e h = e ∙ h
ok_as (Err d) o q v r e h = tt

pub went_all : (p q u : Progress) (a b c : Bits) → Advanced p a q b → Advanced q b u c → Advanced p a u c
went_all p q u a b c h i = record { left = (let x = h.left in let y = i.left in let k : u.left ≤ p.left = omega (arith, x, y) in k); room = (let x = h.room in let y = i.room in let k : u.skipped + length c ≤ p.skipped + length a = omega (arith, x, y) in k) }

-- fewer bits before
pub went_longer : (p q : Progress) (a b c : Bits) → length b ≤ length a → Advanced p b q c → Advanced p a q c
went_longer p q a b c l h = record { left = h.left; room = (let x = h.room in let k : q.skipped + length c ≤ p.skipped + length a = omega (arith, x, l) in k) }

pub went_on : {T : Type 0} (res : Result T Stop) (p q : Progress) (a b c : Bits) → length b ≤ length a → OnOk res (Advanced p b q c) → OnOk res (Advanced p a q c)
went_on (Ok x) p q a b c l h = went_longer p q a b c l h
went_on (Err d) p q a b c l h = tt

pub room_after : (p q : Progress) (a b : Bits) → HasRoom p a → Advanced p a q b → HasRoom q b
room_after p q a b h w = (let x = w.room in let k : q.skipped + length b ≤ 2 ^ 62 = omega (arith, x, h) in k)

pub room_shorter : (p : Progress) (a b : Bits) → HasRoom p a → length b ≤ length a → HasRoom p b
room_shorter p a b h l = (let k : p.skipped + length b ≤ 2 ^ 62 = omega (arith, h, l) in k)

-- ---- octets of an open type

-- the bits i are those of octets o, which stand before r in b
pub record Octets (b r i : Bits) (o sl : List ℕ) : Type 0 where
  pub is : i ≡ octet_bits sl
  pub same : sl ≡ o
  pub shorter : 8 * length o + length r < length b

pub inner_is : (b r i : Bits) (o sl : List ℕ) → Octets b r i o sl → i ≡ octet_bits o
inner_is b r i o sl h = h.is ∙ ap octet_bits h.same

pub inner_long : (b r i : Bits) (o sl : List ℕ) → Octets b r i o sl → length i ≡ 8 * length o
inner_long b r i o sl h = ap length (inner_is b r i o sl h) ∙ octets_length o

pub octets_few : (p : Progress) (b r : Bits) (o sl : List ℕ) → sl ≡ o → 8 * length o + length r < length b → HasRoom p b → length sl ≤ 2 ^ 60
octets_few p b r o sl e x m = (let y = ap length e in let k : length sl ≤ 2 ^ 60 = omega (arith, x, y, m) in k)

pub inner_room : (p : Progress) (b r i : Bits) (o sl : List ℕ) → Octets b r i o sl → HasRoom p b → HasRoom p i
inner_room p b r i o sl h m = (let x = h.shorter in let y = inner_long b r i o sl h in let k : p.skipped + length i ≤ 2 ^ 62 = omega (arith, x, y, m) in k)

pub inner_went : (p q : Progress) (b r i z : Bits) (o sl : List ℕ) → Octets b r i o sl → Advanced p i q z → Advanced p b q r
inner_went p q b r i z o sl h w = record { left = w.left; room = (let x = h.shorter in let y = inner_long b r i o sl h in let u = w.room in let k : q.skipped + length r ≤ p.skipped + length b = omega (arith, x, y, u) in k) }

pub left_in : (x i z : Bits) → i ≡ x ++ z → length z ≤ length i
left_in x i z e = (let l = ap length e in let a = length-append x z in let k : length z ≤ length i = omega (arith, l, a) in k)

pub place_room : (b r i : Bits) (o sl : List ℕ) (m a n : ℕ) → Octets b r i o sl → m ≡ length i → n ≡ min a m → n + length r ≤ length b
place_room b r i o sl m a n h e f = (let x = h.shorter in let y = inner_long b r i o sl h in let u = min-le_right a m in let k : n + length r ≤ length b = omega (arith, x, y, u, e, f) in k)

-- where a fault within them is
abbrev pub IsPlace : (b r p : Bits) (n left : ℕ) → Type 0
IsPlace b r p n left = (o : List ℕ) (y z : Bits) → contents_from b ≡ found o r → length o ≡ n → octet_bits o ≡ y ++ z → length z ≡ left → p ≡ (if nat_lt n 16384 then z ++ r else r)

module _ {X : Type 0} (f : Bits → Reading X) (b r i : Bits) (o sl : List ℕ) (h : Octets b r i o sl) (e : contents_from b ≡ found o r) where
  fill_is : (z : Bits) (m a : ℕ) (t c : Bool) → m ≡ length i → a ≡ length z → t ≡ is_filling (m - a) z → t ≡ c → is_filling (length (octet_bits o) - length z) z ≡ c
  fill_is z m a t c x y u w = ap (λ q. is_filling (length q - length z) z) (sym (inner_is b r i o sl h)) ∙ ap (λ q. is_filling (q - length z) z) (sym x) ∙ ap (λ q. is_filling (m - q) z) (sym y) ∙ sym u ∙ w

  pub inner_good : (z : Bits) (v : X) (m a : ℕ) (t : Bool) → f i ≡ read v z → m ≡ length i → a ≡ length z → t ≡ is_filling (m - a) z → t ≡ true → open_from f b ≡ read v r
  inner_good z v m a t g x y u w = open_good f b r z o v e (ap f (sym (inner_is b r i o sl h)) ∙ g) (fill_is z m a t true x y u w)

  place_is : (x z p : Bits) (n m a left : ℕ) → i ≡ x ++ z → n ≡ length o → m ≡ length i → a ≡ length z → left ≡ min a m → IsPlace b r p n left → p ≡ (if nat_lt n 16384 then z ++ r else r)
  place_is x z p n m a left s k t w u place =
      let l : a ≤ m = (let y = left_in x i z s in omega (arith, y, t, w)) in
      place o x z e (sym k) (sym (inner_is b r i o sl h) ∙ s) (sym w ∙ sym (min-eq_left l) ∙ sym u)

  pub inner_bad : (z p : Bits) (v : X) (m a a' n left : ℕ) (t : Bool) (x y : Stop) → ((v : X) → f i ≡ read v z → (x : Bits) × (i ≡ x ++ z)) → f i ≡ read v z → m ≡ length i → a ≡ length z → t ≡ is_filling (m - a) z → t ≡ false → IsStopAt why.Padding x → y ≡ x → n ≡ length o → a' ≡ length z → left ≡ min a' m → IsPlace b r p n left → IsStop (open_from f b) y p
  inner_bad z p v m a a' n left t x y inside g c d u w at same k j q place =
      let s = inside v g in
      subst (λ k. IsStop (open_from f b) k p) (sym same)
      (open_unfilled f b r z p o n v x e (sym k) (ap f (sym (inner_is b r i o sl h)) ∙ g) (fill_is z m a t false c d u w) at (place_is s.0 z p n m a' left s.1 k c j q place))

  pub inner_stop : (z p : Bits) (m a' n left : ℕ) (x y : Stop) → ((d : Fault) → f i ≡ refused d z → (x : Bits) × (i ≡ x ++ z)) → IsStop (f i) x z → m ≡ length i → y ≡ x → n ≡ length o → a' ≡ length z → left ≡ min a' m → IsPlace b r p n left → IsStop (open_from f b) y p
  inner_stop z p m a' n left Memory y inside g c same k j q place = subst (λ k. IsStop (open_from f b) k p) (sym same) tt
  inner_stop z p m a' n left (Refused d ps) y inside g c same k j q place =
      let s = inside (record { why = d; path = ps.items }) g in
      subst (λ k. IsStop (open_from f b) k p) (sym same)
      (open_stop f b r z p o n (Refused d ps) e (sym k) (subst (λ k. IsStop (f k) (Refused d ps) z) (inner_is b r i o sl h) g) (place_is s.0 z p n m a' left s.1 k c j q place))

-- ---- fields

all_sent : (s : List Resolved) (t : ℕ) (xs : List Sent) → AllByRecursion (FieldFits s t) (map (λ x. x.field) xs) → AreSent s t xs
all_sent s t [] h = tt
all_sent s t (x ∷ xs) h = (h.0, all_sent s t xs h.1)

pub are_sent : (s : List Resolved) (t : ℕ) (ss : List PackedStep) (xs ys : List Sent) → FieldsFit s t ss → map (λ x. x.field) xs ≡ fields_in ss → ys ≡ xs → AreSent s t ys
are_sent s t ss xs ys h e g = subst (AreSent s t) (sym g) (all_sent s t xs (subst (AllByRecursion (FieldFits s t)) (sym e) (fields_fit s t ss h)))

-- ---- an addition by itself

module _ (value : RunsValue) (f : PackedField) (ws : Row) (k n : ℕ) (b r : Bits) where
  pub added_stop : (x y : Stop) → IsStop (open_from (value f.ty.index k n) b) x r → IsWithin (Component' f.place) x y → IsStop (run_added value f ws k n b) y r
  added_stop x y h w =
      stop_next (in_part (Component' f.place) (open_from (value f.ty.index k n) b)) (λ w r. read (put f ws w) r) y r
      (stop_within (Component' f.place) (open_from (value f.ty.index k n) b) x y r h w)

  pub added_good : (ws' : Row) (v : AbstractValue) (k' n' : ℕ) → open_from (value f.ty.index k n) b ≡ read (taken v k' n') r → ws' ≡ with_value f.place v ws → run_added value f ws k n b ≡ read (taken ws' k' n') r
  added_good ws' v k' n' e g = ap (λ o. next (in_part (Component' f.place) o) (λ w r. read (put f ws w) r)) e ∙ ap (λ q. read (taken q k' n') r) (sym g)

pub field_inside : (s : List Resolved) (t : ℕ) (f : PackedField) (m : ℕ) → FieldFits s t f → m ≡ length (components (kind_at s t)) → f.place < m
field_inside s t f m h e = subst (λ q. f.place < q) (sym e) (slice_get_within (components (kind_at s t)) f.place h.component h.there)

-- ---- groups

module _ {Y : Type 0} (fs : List PackedField) (b r : Bits) (xs : List Sent) (g : List Sent → Bits → Reading Y) where
  pub some_sent : run_presences [] fs b ≡ read xs r → any_sent xs ≡ true → next (tested any_sent why.NotCanonical (run_presences [] fs) b) g ≡ g xs r
  some_sent e h =
      ap (λ o. next (next o (λ v z. if any_sent v then read v z else stop why.NotCanonical b)) g) e
      ∙ ap (λ c. next (if c then read xs r else stop why.NotCanonical b) g) h

  pub none_sent : run_presences [] fs b ≡ read xs r → any_sent xs ≡ false → next (tested any_sent why.NotCanonical (run_presences [] fs) b) g ≡ stop why.NotCanonical b
  none_sent e h =
      ap (λ o. next (next o (λ v z. if any_sent v then read v z else stop why.NotCanonical b)) g) e
      ∙ ap (λ c. next (if c then read xs r else stop why.NotCanonical b) g) h

  pub stop_sent : (x : Stop) → IsStop (run_presences [] fs b) x r → IsStop (next (tested any_sent why.NotCanonical (run_presences [] fs) b) g) x r
  stop_sent x h =
      stop_next (tested any_sent why.NotCanonical (run_presences [] fs) b) g x r
      (stop_next (run_presences [] fs b) (λ v z. if any_sent v then read v z else stop why.NotCanonical b) x r h)

-- ---- additions that the type lacks

suc_more : (k j : ℕ) → suc k + j ≡ k + suc j
suc_more k j = omega arith

one_since : (k : ℕ) (o : Reading ℕ) → next o (λ j z. read (suc k + j) z) ≡ next (next o (λ j z. read (suc j) z)) (λ j z. read (k + j) z)
one_since k (read j z) = ap (λ q. read q z) (suc_more k j)
one_since k (refused e z) = refl

unknown_since : (k : ℕ) (q b : Bits) → run_unknown k q b ≡ next (unknown_from q b) (λ j r. read (k + j) r)
unknown_since k [] b = ap (λ q. read q b) (plus_none k)
unknown_since k (false ∷ q) b = unknown_since k q b
unknown_since k (true ∷ q) b = by (λ r. unknown_since (suc k) q r ∙ one_since k (unknown_from q r)) (contents_from b)
  where
    by : ((r : Bits) → run_unknown (suc k) q r ≡ next (next (unknown_from q r) (λ j z. read (suc j) z)) (λ j z. read (k + j) z)) → (o : Outcome (List ℕ)) → next (plain o) (λ o r. run_unknown (suc k) q r) ≡ next (next (plain o) (λ o r. next (unknown_from q r) (λ j z. read (suc j) z))) (λ j r. read (k + j) r)
    by since (found o r) = since r
    by since (stops e r) = refl

-- ---- additions

pub one_of : {A B C : Type 0} → (A → C) → (B → C) → A ⊎ B → C
one_of f g (inl x) = f x
one_of f g (inr x) = g x

module _ (s : List Resolved) (l : ℕ) (value : RunsValue) (cs : List Component) where
  abbrev Runs' : List PackedStep → Bits → Row → ℕ → ℕ → Bits → Reading (Taken Row)
  Runs' ss q ws k n b = run_additions s l value cs ss q ws k n b

  pub last_additions : (q : Bits) (ws : Row) (k n : ℕ) (b : Bits) → Runs' [] q ws k n b ≡ next (run_unknown k q b) (λ j r. read (taken ws j n) r)
  last_additions q ws k n b =
      sym (next_next (unknown_from q b) (λ j r. read (k + j) r) (λ j r. read (taken ws j n) r))
      ∙ ap (λ o. next o (λ j r. read (taken ws j n) r)) (sym (unknown_since k q b))

  pub first_none : (st : PackedStep) (ss : List PackedStep) (ws : Row) (k n : ℕ) (b : Bits) → is_addition st ≡ false → run_first s l value cs (st ∷ ss) ws k n b ≡ read (taken ws k n) b
  first_none (steps.Added f) ss ws k n b e = absurd (cc)
  first_none (steps.Group m) ss ws k n b e = absurd (cc)
  first_none st ss ws k n b e = refl

  pub addition_none : (st : PackedStep) (ss : List PackedStep) (q : Bits) (ws : Row) (k n : ℕ) (b : Bits) → is_addition st ≡ false → Runs' (st ∷ ss) q ws k n b ≡ Runs' ss q ws k n b
  addition_none (steps.Added f) ss q ws k n b e = absurd (cc)
  addition_none (steps.Group m) ss q ws k n b e = absurd (cc)
  addition_none st ss q ws k n b e = refl

  abbrev Onto : List PackedStep → Bits → Taken Row → Bits → Reading (Taken Row)
  Onto ss q w r = Runs' ss (other_bits q) w.it w.skipped w.left r

  addition_by : (st : PackedStep) (ss : List PackedStep) (q : Bits) (ws : Row) (k n : ℕ) (b : Bits) → is_addition st ≡ true → Runs' (st ∷ ss) q ws k n b ≡ (if first_bit q then next (run_first s l value cs (st ∷ ss) ws k n b) (Onto ss q) else Runs' ss (other_bits q) ws k n b)
  addition_by (steps.Added f) ss q ws k n b e = refl
  addition_by (steps.Group m) ss q ws k n b e = refl
  addition_by st ss q ws k n b e = absurd (cc)

  pub addition_read : (st : PackedStep) (ss : List PackedStep) (q : Bits) (ws : Row) (k n : ℕ) (b : Bits) → is_addition st ≡ true → first_bit q ≡ true → Runs' (st ∷ ss) q ws k n b ≡ next (run_first s l value cs (st ∷ ss) ws k n b) (Onto ss q)
  addition_read st ss q ws k n b e h =
      addition_by st ss q ws k n b e
      ∙ ap (λ c. if c then next (run_first s l value cs (st ∷ ss) ws k n b) (Onto ss q) else Runs' ss (other_bits q) ws k n b) h

  pub addition_left : (st : PackedStep) (ss : List PackedStep) (q : Bits) (ws : Row) (k n : ℕ) (b : Bits) → is_addition st ≡ true → first_bit q ≡ false → Runs' (st ∷ ss) q ws k n b ≡ Runs' ss (other_bits q) ws k n b
  addition_left st ss q ws k n b e h =
      addition_by st ss q ws k n b e
      ∙ ap (λ c. if c then next (run_first s l value cs (st ∷ ss) ws k n b) (Onto ss q) else Runs' ss (other_bits q) ws k n b) h

  module _ (all : Reading (Taken Row)) (p0 : Progress) (b0 : Bits) (n0 : ℕ) where
    -- what holds before the additions of these steps
    abbrev pub Before : List PackedStep → Bits → List (Option Value) → Progress → Bits → Type 0
    Before ss q row p b = (Runs' ss q (row_of_values row) p.skipped p.left b ≡ all) × Advanced p0 b0 p b × (length row ≡ n0)

    pub before_as : (ss : List PackedStep) (q q' : Bits) (row row' : List (Option Value)) (p p' : Progress) (b b' : Bits) → q ≡ q' → row ≡ row' → p ≡ p' → b ≡ b' → Before ss q' row' p' b' → Before ss q row p b
    before_as ss q q' row row' p p' b b' e f g i h =
        subst (λ x. Before ss x row p b) (sym e) (subst (λ x. Before ss q' x p b) (sym f) (subst (λ x. Before ss q' row' x b) (sym g) (subst (λ x. Before ss q' row' p' x) (sym i) h)))

    module _ (ss rest : List PackedStep) (st : PackedStep) (e : ss ≡ st ∷ rest) (q : Bits) (row : List (Option Value)) (p : Progress) (b : Bits) (h : Before ss q row p b) where
      pub before_none : is_addition st ≡ false → Before rest q row p b
      before_none a =
          (sym (addition_none st rest q (row_of_values row) p.skipped p.left b a) ∙ ap (λ x. Runs' x q (row_of_values row) p.skipped p.left b) (sym e) ∙ h.0, h.1, h.2)

      pub before_left : is_addition st ≡ true → first_bit q ≡ false → Before rest (other_bits q) row p b
      before_left a c =
          (sym (addition_left st rest q (row_of_values row) p.skipped p.left b a c) ∙ ap (λ x. Runs' x q (row_of_values row) p.skipped p.left b) (sym e) ∙ h.0, h.1, h.2)

      first_of : (steps' : List PackedStep) → steps' ≡ ss → is_addition st ≡ true → first_bit q ≡ true → all ≡ next (run_first s l value cs steps' (row_of_values row) p.skipped p.left b) (Onto rest q)
      first_of steps' i a c =
          sym h.0 ∙ ap (λ x. Runs' x q (row_of_values row) p.skipped p.left b) e ∙ addition_read st rest q (row_of_values row) p.skipped p.left b a c
          ∙ ap (λ x. next (run_first s l value cs x (row_of_values row) p.skipped p.left b) (Onto rest q)) (sym (i ∙ e))

      pub before_read : (steps' : List PackedStep) (row' : List (Option Value)) (p' : Progress) (b' : Bits) → steps' ≡ ss → is_addition st ≡ true → first_bit q ≡ true
          → run_first s l value cs steps' (row_of_values row) p.skipped p.left b ≡ read (taken (row_of_values row') p'.skipped p'.left) b' → Advanced p b p' b' → length row' ≡ length row → Before rest (other_bits q) row' p' b'
      before_read steps' row' p' b' i a c g w m =
          (sym (first_of steps' i a c ∙ ap (λ o. next o (Onto rest q)) g), went_all p0 p p' b0 b b' h.1 w, m ∙ h.2)

      pub before_stop : (steps' : List PackedStep) (x : Stop) (r : Bits) → steps' ≡ ss → is_addition st ≡ true → first_bit q ≡ true → IsStop (run_first s l value cs steps' (row_of_values row) p.skipped p.left b) x r → IsStop all x r
      before_stop steps' x r i a c g =
          stop_as all (next (run_first s l value cs steps' (row_of_values row) p.skipped p.left b) (Onto rest q)) x r (first_of steps' i a c)
          (stop_next (run_first s l value cs steps' (row_of_values row) p.skipped p.left b) (Onto rest q) x r g)

    module _ (ss : List PackedStep) (q : Bits) (row : List (Option Value)) (p : Progress) (b : Bits) (h : Before ss q row p b) (e : ss ≡ []) where
      all_left : all ≡ next (run_unknown p.skipped q b) (λ j r. read (taken (row_of_values row) j p.left) r)
      all_left = sym h.0 ∙ ap (λ x. Runs' x q (row_of_values row) p.skipped p.left b) e ∙ last_additions q (row_of_values row) p.skipped p.left b

      pub before_end : {T : Type 0} (res : Result T Stop) (p' : Progress) (r : Bits) → OnOk res (run_unknown p.skipped q b ≡ read p'.skipped r) → p'.left ≡ p.left → OnOk res (all ≡ read (taken (row_of_values row) p'.skipped p'.left) r)
      before_end (Ok x) p' r g i = all_left ∙ ap (λ o. next o (λ j r. read (taken (row_of_values row) j p.left) r)) g ∙ ap (λ n. read (taken (row_of_values row) p'.skipped n) r) (sym i)
      before_end (Err d) p' r g i = tt

      pub before_fault : {T : Type 0} (res : Result T Stop) (r : Bits) → IfErr res (λ d. IsStop (run_unknown p.skipped q b) d r) → IfErr res (λ d. IsStop all d r)
      before_fault res r g = err_next res (run_unknown p.skipped q b) (λ j r. read (taken (row_of_values row) j p.left) r) all r all_left g

      pub before_went : {T : Type 0} (res : Result T Stop) (p' : Progress) (r : Bits) → OnOk res (p'.skipped + length r ≤ p.skipped + length b) → p'.left ≡ p.left → OnOk res (Advanced p0 b0 p' r)
      before_went (Ok x) p' r g i = went_all p0 p p' b0 b r h.1 (record { left = (let k : p'.left ≤ p.left = omega (arith, i) in k); room = g })
      before_went (Err d) p' r g i = tt
