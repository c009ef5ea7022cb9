-- What is read with a state is what is read without one: readings one after the other, in parts and in open types.
use Rattle.std.proofs.Common.{arith, ◌≡◌, ℕ, zero, suc, ◌+◌, ◌==◌, Bool, true, false, [], length, refl, sym, ap, ◌∙◌}
use Rattle.std.specs.Prelude.{◌-◌, nat_lt, if◌then◌else◌}
use Rattle.std.proofs.lemmas.Bool.{eq-eqb, ne_eqb}
use Rattle.bits.specs.Words.{octet_bits}
use Rattle.packed_encodings.specs.Lengths.{Bits}
use Rattle.decode_faults.specs.declared.refusal.Refusal.{Refusal}
use Rattle.decode_faults.specs.declared.refusal.Refusal.TheVariants as why
use Rattle.packed_reader.specs.declared.part.Part.{Part}
use Rattle.packed_reader.specs.Readings.{Reading, read, refused, stop, next, in_part, plain, tested, Taken, taken}
use Rattle.packed_reader.specs.Structures.{is_filling, filled_from, before_rest, contents_from, open_from}
use Rattle.packed_reader.specs.proving.Running.{past}

-- ---- numbers

pub plus_none : (k : ℕ) → k ≡ k + 0
plus_none k = omega arith

pub plus_parts : (k i j : ℕ) → (k + i) + j ≡ k + (i + j)
plus_parts k i j = omega arith

pub plus_more : (k i j n : ℕ) → (k + i) + (j + n) ≡ k + ((i + j) + n)
plus_more k i j n = omega arith

pub plus_zero : (k j : ℕ) → k + j ≡ k + (0 + j)
plus_zero k j = omega arith

-- none were skipped since
pub none_since : (k j : ℕ) → (k + j == k) ≡ (j == 0)
none_since k zero = eq-eqb (k + 0) k (omega arith) ∙ sym (eq-eqb 0 0 refl)
none_since k (suc j) = ne_eqb (k + suc j) k (λ h. omega arith) ∙ sym (ne_eqb (suc j) 0 (λ h. omega arith))

-- ---- with a state

-- what is read after k additions were skipped, as h makes it
abbrev pub past_by : {X Y : Type 0} → (X → Y) → ℕ → Reading (Taken X) → Reading (Taken Y)
past_by h k (read w r) = read (taken (h w.it) (k + w.skipped) w.left) r
past_by h k (refused e r) = refused e r

pub past_is : {X : Type 0} (k : ℕ) (o : Reading (Taken X)) → past k o ≡ past_by (λ x. x) k o
past_is k (read w r) = refl
past_is k (refused e r) = refl

pub same_read : {X : Type 0} {x y : X} {i j : ℕ} (n : ℕ) (r : Bits) → x ≡ y → i ≡ j → read (taken x i n) r ≡ read (taken y j n) r
same_read {x = x} {y = y} {i = i} {j = j} n r e f = ap (λ q. read (taken q i n) r) e ∙ ap (λ q. read (taken y q n) r) f

-- ---- one after the other

-- whatever is read has the property
abbrev pub Always : {X : Type 0} → (X → Type 0) → Reading X → Type 0
Always P (read v r) = P v
Always P (refused e r) = Unit {0}

pub always_next : {X Y : Type 0} (P : X → Type 0) (Q : Y → Type 0) (o : Reading X) (g : X → Bits → Reading Y) → Always P o → ((v : X) (r : Bits) → P v → Always Q (g v r)) → Always Q (next o g)
always_next P Q (read v r) g a h = h v r a
always_next P Q (refused e r) g a h = tt

pub always_after : {X Y : Type 0} (Q : Y → Type 0) (o : Reading X) (g : X → Bits → Reading Y) → ((v : X) (r : Bits) → Always Q (g v r)) → Always Q (next o g)
always_after Q (read v r) g h = h v r
always_after Q (refused e r) g h = tt

pub always_tested : {X : Type 0} (P : X → Type 0) (test : X → Bool) (e : Refusal) (f : Bits → Reading X) (b : Bits) → Always P (f b) → Always P (tested test e f b)
always_tested {X = X} P test e f b a = always_next P P (f b) (λ v r. if test v then read v r else stop e b) a (λ v r p. by v r p (test v))
  where
    by : (v : X) (r : Bits) → P v → (c : Bool) → Always P (if c then read v r else stop e b)
    by v r p true = p
    by v r p false = tt

pub next_next : {X Y Z : Type 0} (o : Reading X) (g : X → Bits → Reading Y) (h : Y → Bits → Reading Z) → next (next o g) h ≡ next o (λ v r. next (g v r) h)
next_next (read v r) g h = refl
next_next (refused e r) g h = refl

-- the first reading has no state
pub after : {A B Y : Type 0} (h : B → Y) (k : ℕ) (o : Reading A) (g : A → Bits → Reading (Taken B)) (g' : A → Bits → Reading (Taken Y)) → ((v : A) (r : Bits) → g' v r ≡ past_by h k (g v r)) → next o g' ≡ past_by h k (next o g)
after h k (read v r) g g' e = e v r
after h k (refused f r) g g' e = refl

-- the first reading leaves its state to the next
pub onto : {A B X Y : Type 0} (P : Taken A → Type 0) (f : A → X) (h : B → Y) (k : ℕ) (o : Reading (Taken A)) (o' : Reading (Taken X)) (g : Taken A → Bits → Reading (Taken B)) (g' : Taken X → Bits → Reading (Taken Y))
    → Always P o
    → o' ≡ past_by f k o
    → ((w : Taken A) (r : Bits) → P w → g' (taken (f w.it) (k + w.skipped) w.left) r ≡ past_by h k (g w r))
    → next o' g' ≡ past_by h k (next o g)
onto P f h k (read w r) o' g g' a e n = ap (λ q. next q g') e ∙ n w r a
onto P f h k (refused x r) o' g g' a e n = ap (λ q. next q g') e

pub nothing_asked : {A : Type 0} (o : Reading (Taken A)) → Always (λ w. Unit {0}) o
nothing_asked (read w r) = tt
nothing_asked (refused e r) = tt

-- what is read after k and then j were skipped, with what was read before
pub with_others : {A B Y : Type 0} (f : A → Y) (h : B → Y) (k j : ℕ) (m : A → B) (o : Reading (Taken A)) → ((x : A) → f x ≡ h (m x)) → past_by f (k + j) o ≡ past_by h k (next o (λ t z. read (taken (m t.it) (j + t.skipped) t.left) z))
with_others f h k j m (read t z) e = same_read t.left z (e t.it) (plus_parts k j t.skipped)
with_others f h k j m (refused x z) e = refl

-- what is read is changed
pub changed : {A B Y : Type 0} (f : A → Y) (h : B → Y) (k : ℕ) (m : A → B) (o : Reading (Taken A)) → ((x : A) → f x ≡ h (m x)) → past_by f k o ≡ past_by h k (next o (λ t z. read (taken (m t.it) t.skipped t.left) z))
changed f h k m (read t z) e = ap (λ q. read (taken q (k + t.skipped) t.left) z) (e t.it)
changed f h k m (refused x z) e = refl

-- ---- parts and open types

pub within_part : {A X : Type 0} (p : Part) (h : A → X) (k : ℕ) (o : Reading (Taken A)) → in_part p (past_by h k o) ≡ past_by h k (in_part p o)
within_part p h k (read w r) = refl
within_part p h k (refused e r) = refl

module _ {A X : Type 0} (h : A → X) (k : ℕ) (f : Bits → Reading (Taken A)) (f' : Bits → Reading (Taken X)) (same : (b : Bits) → f' b ≡ past_by h k (f b)) where
  filled : (b : Bits) → filled_from f' b ≡ past_by h k (filled_from f b)
  filled b = ap (λ o. next o (λ v z. if is_filling (length b - length z) z then read v [] else stop why.Padding z)) (same b) ∙ by (f b)
    where
      which : (w : Taken A) (z : Bits) (c : Bool) → (if c then read (taken (h w.it) (k + w.skipped) w.left) [] else stop why.Padding z) ≡ past_by h k (if c then read w [] else stop why.Padding z)
      which w z true = refl
      which w z false = refl

      by : (o : Reading (Taken A)) → next (past_by h k o) (λ v z. if is_filling (length b - length z) z then read v [] else stop why.Padding z) ≡ past_by h k (next o (λ v z. if is_filling (length b - length z) z then read v [] else stop why.Padding z))
      by (read w z) = which w z (is_filling (length b - length z) z)
      by (refused e z) = refl

  before : (whole : Bool) (o : Reading (Taken A)) (r : Bits) → before_rest whole (past_by h k o) r ≡ past_by h k (before_rest whole o r)
  before whole (read w z) r = refl
  before whole (refused e z) r = refl

  pub opened : (b : Bits) → open_from f' b ≡ past_by h k (open_from f b)
  opened b = after h k (plain (contents_from b)) (λ o r. before_rest (nat_lt (length o) 16384) (filled_from f (octet_bits o)) r) (λ o r. before_rest (nat_lt (length o) 16384) (filled_from f' (octet_bits o)) r) (λ o r. ap (λ q. before_rest (nat_lt (length o) 16384) q r) (filled (octet_bits o)) ∙ before (nat_lt (length o) 16384) (filled_from f (octet_bits o)) r)

module _ {A : Type 0} (P : A → Type 0) (f : Bits → Reading A) (a : (b : Bits) → Always P (f b)) where
  always_filled : (b : Bits) → Always P (filled_from f b)
  always_filled b = always_next P P (f b) (λ v z. if is_filling (length b - length z) z then read v [] else stop why.Padding z) (a b) (λ v z p. by v z p (is_filling (length b - length z) z))
    where
      by : (v : A) (z : Bits) → P v → (c : Bool) → Always P (if c then read v [] else stop why.Padding z)
      by v z p true = p
      by v z p false = tt

  always_before : (whole : Bool) (o : Reading A) (r : Bits) → Always P o → Always P (before_rest whole o r)
  always_before whole (read v z) r a = a
  always_before whole (refused e z) r a = tt

  pub always_opened : (b : Bits) → Always P (open_from f b)
  always_opened b = always_after P (plain (contents_from b)) (λ o r. before_rest (nat_lt (length o) 16384) (filled_from f (octet_bits o)) r) (λ o r. always_before (nat_lt (length o) 16384) (filled_from f (octet_bits o)) r (always_filled (octet_bits o)))
