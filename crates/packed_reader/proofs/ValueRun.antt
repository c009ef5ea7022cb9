-- A value by the steps of its routine, as calls read it.
use Rattle.std.proofs.Common.{arith, ◌≡◌, ℕ, zero, suc, ◌+◌, ◌-◌, ◌^◌, ◌<◌, ◌≤◌, Bool, true, false, List, [], ◌++◌, length, sym, ap, subst, ◌∙◌}
use Rattle.std.specs.Prelude.{if◌then◌else◌, nat_lt, Result, Ok, Err, IfOk, IfErr, OnOk}
use Rattle.bits.specs.Words.{octet_bits}
use Rattle.asn_base.specs.Abstract.{AbstractValue, Row, abstract}
use Rattle.asn_base.specs.declared.value.Value.{Value}
use Rattle.asn_base.specs.Typed.{ValueIn}
use Rattle.asn_base.specs.Types.{Resolved}
use Rattle.packed_code.specs.Routines.{routine_at}
use Rattle.packed_encodings.specs.Lengths.{Bits}
use Rattle.decode_faults.specs.declared.refusal.Refusal.TheVariants as why
use Rattle.packed_readings.specs.Outcome.{found}
use Rattle.packed_reader.specs.Readings.{Reading, read, refused, stop, next, plain, Taken, taken, IsExact}
use Rattle.packed_reader.specs.Steps.{steps_from, value_by}
use Rattle.packed_reader.specs.Structures.{is_filling, filled_from, before_rest, contents_from, open_from}
use Rattle.packed_reader.specs.Values.{IsValueRead, value_from}
use Rattle.packed_reader.specs.proving.Code.{HasRoom, IsBare, IsGot, IsStop, IsStopAt, Advanced}
use Rattle.packed_reader.specs.declared.reader.Progress.{Progress}
use Rattle.packed_reader.specs.proving.Running.{past, run_steps, run_value}
use Rattle.packed_reader.specs.declared.stop.Stop.{Stop}
use Rattle.packed_reader.specs.declared.stop.Stop.TheVariants.{Memory, Refused}
use Rattle.packed_reader.proofs.Exact.{not_both, one_value}
use Rattle.packed_reader.proofs.Flow.{stop_as, stop_at, stop_next, stop_bare}

abbrev Runs' : Type 0
Runs' = (s : List Resolved) (l t k n : ℕ) (b : List Bool) → run_steps s l (run_value s l) t (routine_at s t) k n b ≡ past k (steps_from s l (value_by s l) t (routine_at s t) n b)

steps_by : Runs' → (s : List Resolved) (l m t k n j : ℕ) (b : Bits) → l ≡ suc m → n ≡ suc j → run_value s l t k n b ≡ run_steps s m (run_value s m) t (routine_at s t) k j b
steps_by law s l m t k n j b h g = ap (λ q. run_value s q t k n b) h ∙ ap (λ q. run_value s (suc m) t k q b) g ∙ sym (law s m t k j b)

pub value_steps : Runs' → (s : List Resolved) (l t k n : ℕ) (b : Bits) → 1 ≤ l → 1 ≤ n → run_value s l t k n b ≡ run_steps s (l - 1) (run_value s (l - 1)) t (routine_at s t) k (n - 1) b
value_steps law s l t k n b h g = steps_by law s l (l - 1) t k n (n - 1) b (let e : l ≡ suc (l - 1) = omega (arith, h) in e) (let e : n ≡ suc (n - 1) = omega (arith, g) in e)

pub value_deep : (s : List Resolved) (l t k n : ℕ) (b : Bits) → l ≡ 0 → run_value s l t k n b ≡ stop why.TooDeep b
value_deep s l t k n b e = ap (λ m. run_value s m t k n b) e

pub value_full : (s : List Resolved) (l t k n : ℕ) (b : Bits) → 1 ≤ l → n ≡ 0 → run_value s l t k n b ≡ stop why.NodesLimit b
value_full s zero t k n b h e = absurd (omega (arith, h))
value_full s (suc l) t k n b h e = ap (λ m. run_value s (suc l) t k m b) e

unpast : {X : Type 0} (k : ℕ) (o : Reading (Taken X)) (v : Taken X) (r : Bits) → past k o ≡ read v r → (w : Taken X) × ((o ≡ read w r) × (w.it ≡ v.it))
unpast k (read w z) v r e = let p = one_value e in (w, (ap (λ q. read w q) p.1, ap (λ q. q.it) p.0))
unpast k (refused d z) v r e = absurd (not_both (sym e))

pub value_in : (s : List Resolved) (l t k n : ℕ) (b r : Bits) (v : Taken AbstractValue) → IsExact (IsValueRead s l t n) (value_from s l t n) → value_by s l t n b ≡ value_from s l t n b → run_value s l t k n b ≡ read v r → ValueIn s l t v.it
value_in s l t k n b r v exact same e =
    let u = unpast k (value_by s l t n b) v r e in
    let w = exact.sound b r u.0 (sym same ∙ u.1.0) in
    subst (ValueIn s l t) u.1.1 w.1.value

-- ---- filled to octets

module _ {X : Type 0} (f : Bits → Reading X) where
  pub filled_good : (b z : Bits) (v : X) → f b ≡ read v z → is_filling (length b - length z) z ≡ true → filled_from f b ≡ read v []
  filled_good b z v e t = ap (λ o. next o (λ w y. if is_filling (length b - length y) y then read w [] else stop why.Padding y)) e ∙ ap (λ q. if q then read v [] else stop why.Padding z) t

  pub filled_bad : (b z : Bits) (v : X) → f b ≡ read v z → is_filling (length b - length z) z ≡ false → filled_from f b ≡ stop why.Padding z
  filled_bad b z v e t = ap (λ o. next o (λ w y. if is_filling (length b - length y) y then read w [] else stop why.Padding y)) e ∙ ap (λ q. if q then read v [] else stop why.Padding z) t

  pub filled_stop : (b z : Bits) (x : Stop) → IsStop (f b) x z → IsStop (filled_from f b) x z
  filled_stop b z x h = stop_next (f b) (λ w y. if is_filling (length b - length y) y then read w [] else stop why.Padding y) x z h

  abbrev Inside : List ℕ → Bits → Reading X
  Inside o r = before_rest (nat_lt (length o) 16384) (filled_from f (octet_bits o)) r

  open_is : (b r : Bits) (o : List ℕ) → contents_from b ≡ found o r → open_from f b ≡ Inside o r
  open_is b r o e = ap (λ q. next (plain q) Inside) e

  pub open_good : (b r z : Bits) (o : List ℕ) (v : X) → contents_from b ≡ found o r → f (octet_bits o) ≡ read v z → is_filling (length (octet_bits o) - length z) z ≡ true → open_from f b ≡ read v r
  open_good b r z o v e g t = open_is b r o e ∙ ap (λ q. before_rest (nat_lt (length o) 16384) q r) (filled_good (octet_bits o) z v g t)

  pub open_none : (b r : Bits) (x : Stop) → IsBare (contents_from b) r x → IsStop (open_from f b) x r
  open_none b r x h = stop_next (plain (contents_from b)) Inside x r (stop_bare (contents_from b) x r h)

  -- a fault within the octets is at the place p
  before_stop : (w : Bool) (g : Reading X) (r z p : Bits) (x : Stop) → IsStop g x z → p ≡ (if w then z ++ r else r) → IsStop (before_rest w g r) x p
  before_stop w g r z p Memory h e = tt
  before_stop w g r z p (Refused d ps) h e = ap (λ q. before_rest w q r) h ∙ ap (λ q. refused (record { why = d; path = ps.items }) q) (sym e)

  pub open_stop : (b r z p : Bits) (o : List ℕ) (n : ℕ) (x : Stop) → contents_from b ≡ found o r → length o ≡ n → IsStop (f (octet_bits o)) x z → p ≡ (if nat_lt n 16384 then z ++ r else r) → IsStop (open_from f b) x p
  open_stop b r z p o n x e l h d =
      stop_as (open_from f b) (Inside o r) x p (open_is b r o e)
      (before_stop (nat_lt (length o) 16384) (filled_from f (octet_bits o)) r z p x (filled_stop (octet_bits o) z x h) (d ∙ ap (λ m. if nat_lt m 16384 then z ++ r else r) (sym l)))

  pub open_unfilled : (b r z p : Bits) (o : List ℕ) (n : ℕ) (v : X) (x : Stop) → contents_from b ≡ found o r → length o ≡ n → f (octet_bits o) ≡ read v z → is_filling (length (octet_bits o) - length z) z ≡ false → IsStopAt why.Padding x → p ≡ (if nat_lt n 16384 then z ++ r else r) → IsStop (open_from f b) x p
  open_unfilled b r z p o n v x e l g t a d =
      stop_as (open_from f b) (Inside o r) x p (open_is b r o e)
      (before_stop (nat_lt (length o) 16384) (filled_from f (octet_bits o)) r z p x (stop_at (filled_from f (octet_bits o)) why.Padding x z (filled_bad (octet_bits o) z v g t) a) (d ∙ ap (λ m. if nat_lt m 16384 then z ++ r else r) (sym l)))

-- ---- results

pub got_as : {E : Type 0} (x : Result Value E) (o q : Reading (Taken AbstractValue)) (p : Progress) (b : Bits) → o ≡ q → IfOk x (λ v. IsGot q (abstract v) p b) → IfOk x (λ v. IsGot o (abstract v) p b)
got_as (Ok v) o q p b e h = e ∙ h
got_as (Err d) o q p b e h = tt

pub row_as : {E : Type 0} (x : Result (Unit {0}) E) (o q : Reading (Taken Row)) (ws : Row) (p : Progress) (b : Bits) → o ≡ q → OnOk x (IsGot q ws p b) → OnOk x (IsGot o ws p b)
row_as (Ok v) o q ws p b e h = e ∙ h
row_as (Err d) o q ws p b e h = tt

pub stops_as : {X Y : Type 0} (x : Result X Stop) (o q : Reading Y) (b : Bits) → o ≡ q → IfErr x (λ e. IsStop q e b) → IfErr x (λ e. IsStop o e b)
stops_as (Ok v) o q b e h = tt
stops_as (Err d) o q b e h = stop_as o q d b e h

-- the state after what came first and what came then
pub went_on : (p q r : Progress) (b c d : Bits) → Advanced p b q c → Advanced q c r d → Advanced p b r d
went_on p q r b c d h g =
    let a = h.left in let e = g.left in let f = h.room in let j = g.room in
    record { left = (let k : r.left ≤ p.left = omega (arith, a, e) in k); room = (let k : r.skipped + length d ≤ p.skipped + length b = omega (arith, f, j) in k) }

pub went_shorter : (p : Progress) (b c : Bits) → length c ≤ length b → Advanced p b p c
went_shorter p b c h = record { left = (let k : p.left ≤ p.left = omega arith in k); room = (let k : p.skipped + length c ≤ p.skipped + length b = omega (arith, h) in k) }

pub room_left : (p q : Progress) (b c : Bits) → HasRoom p b → Advanced p b q c → HasRoom q c
room_left p q b c h w = let a = w.room in let k : q.skipped + length c ≤ 2 ^ 62 = omega (arith, h, a) in k

pub went_ok : {X E : Type 0} (x : Result X E) (p q r : Progress) (b c d : Bits) → Advanced p b q c → IfOk x (λ v. Advanced q c r d) → IfOk x (λ v. Advanced p b r d)
went_ok (Ok v) p q r b c d h g = went_on p q r b c d h g
went_ok (Err e) p q r b c d h g = tt

pub went_done : {E : Type 0} (x : Result (Unit {0}) E) (p q r : Progress) (b c d : Bits) → Advanced p b q c → OnOk x (Advanced q c r d) → OnOk x (Advanced p b r d)
went_done (Ok v) p q r b c d h g = went_on p q r b c d h g
went_done (Err e) p q r b c d h g = tt

pub went_value : {E : Type 0} (x : Result Value E) (p q : Progress) (b r : Bits) → 1 ≤ p.left → IfOk x (λ v. Advanced (record { left = p.left - 1; skipped = p.skipped }) b q r) → IfOk x (λ v. Advanced p b q r)
went_value (Ok v) p q b r h g = let a = g.left in record { left = (let k : q.left ≤ p.left = omega (arith, a) in k); room = g.room }
went_value (Err e) p q b r h g = tt

pub fewer_value : {E : Type 0} (x : Result Value E) (p q : Progress) (b r : Bits) → 1 ≤ p.left → IfOk x (λ v. Advanced (record { left = p.left - 1; skipped = p.skipped }) b q r) → IfOk x (λ v. q.left < p.left)
fewer_value (Ok v) p q b r h g = let a = g.left in let k : q.left < p.left = omega (arith, a, h) in k
fewer_value (Err e) p q b r h g = tt

pub value_of : {E : Type 0} (x : Result Value E) (s : List Resolved) (l t k n : ℕ) (b r : Bits) (p : Progress) → IsExact (IsValueRead s l t n) (value_from s l t n) → value_by s l t n b ≡ value_from s l t n b → (q : Reading (Taken AbstractValue)) → run_value s l t k n b ≡ q → IfOk x (λ v. IsGot q (abstract v) p r) → IfOk x (λ v. ValueIn s l t (abstract v))
value_of (Ok v) s l t k n b r p exact same q e h = value_in s l t k n b r (taken (abstract v) p.skipped p.left) exact same (e ∙ h)
value_of (Err d) s l t k n b r p exact same q e h = tt
