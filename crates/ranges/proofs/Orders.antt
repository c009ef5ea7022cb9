-- The beginnings and ends of ranges.
use Rattle.std.proofs.Common.{inl, inr, ℤ, pos, ◌≤ℤ◌, ◌<ℤ◌, Some, None, arith}
use Rattle.std.specs.Prelude.{◌⊎◌, IfSome, IsSomeAnd, Option}
use Rattle.std.proofs.lemmas.Int.{ints, clamps, by_lt_z}
use Rattle.ranges.specs.proving.Joining.{BeginsAtMost, later}
use Rattle.ranges.specs.proving.Meeting.{later_beginning, earlier_end, EndsAtMost}

-- the number is not below the beginning, and not above the end
abbrev pub From : Option ℤ → ℤ → Type 0
From l z = IfSome l (λ l. l ≤ℤ z)

abbrev pub UpTo : Option ℤ → ℤ → Type 0
UpTo g z = IfSome g (λ g. z ≤ℤ g)

-- the end lies before the beginning
abbrev pub Ends : Option ℤ → Option ℤ → Type 0
Ends g l = IsSomeAnd g (λ g. IsSomeAnd l (λ l. g <ℤ l))

-- a number up to an end is below one from a later beginning
pub above : (g l : Option ℤ) (y z : ℤ) → Ends g l → UpTo g y → From l z → y <ℤ z
above None l y z b u f = absurd b
above (Some g) None y z b u f = absurd b
above (Some g) (Some l) y z b u f = omega (arith, ints)

-- a beginning at most another is below what that is below
pub from_at_most : (k l : Option ℤ) (z : ℤ) → BeginsAtMost k l → From l z → From k z
from_at_most None l z b f = tt
from_at_most (Some k) None z b f = absurd b
from_at_most (Some k) (Some l) z b f = omega (arith, ints)

pub begins_trans : (j k l : Option ℤ) → BeginsAtMost j k → BeginsAtMost k l → BeginsAtMost j l
begins_trans None k l b c = tt
begins_trans (Some j) None l b c = absurd b
begins_trans (Some j) (Some k) None b c = absurd c
begins_trans (Some j) (Some k) (Some l) b c = omega (arith, ints)

-- what ends before a beginning ends before a later one
pub ends_before_later : (g k l : Option ℤ) → Ends g k → BeginsAtMost k l → Ends g l
ends_before_later None k l b c = absurd b
ends_before_later (Some g) None l b c = absurd b
ends_before_later (Some g) (Some k) None b c = absurd c
ends_before_later (Some g) (Some k) (Some l) b c = omega (arith, ints)

-- up to the later end: up to the one or the other
pub up_to_later : (g h : Option ℤ) (z : ℤ) → UpTo (later g h) z → UpTo g z ⊎ (IsSomeAnd g (λ g. g <ℤ z) × UpTo h z)
up_to_later None h z u = inl tt
up_to_later (Some g) None z u = by_lt_z g z (λ lt. inr (lt, tt)) (λ le. inl le)
up_to_later (Some g) (Some h) z u =
    by_lt_z g z (λ lt. inr (lt, omega (arith, ints, clamps))) (λ le. inl le)

pub up_to_left : (g h : Option ℤ) (z : ℤ) → UpTo g z → UpTo (later g h) z
up_to_left None h z u = tt
up_to_left (Some g) None z u = tt
up_to_left (Some g) (Some h) z u = omega (arith, ints, clamps)

pub up_to_right : (g h : Option ℤ) (z : ℤ) → UpTo h z → UpTo (later g h) z
up_to_right None h z u = tt
up_to_right (Some g) None z u = tt
up_to_right (Some g) (Some h) z u = omega (arith, ints, clamps)

-- if an end isn't before a beginning, what is past the end is past the beginning
pub from_touching : (g l : Option ℤ) (z : ℤ) → (Ends g l → ⊥) → IsSomeAnd g (λ g. g <ℤ z) → From l z
from_touching None l z n p = absurd p
from_touching (Some g) None z n p = tt
from_touching (Some g) (Some l) z n p = by_lt_z g l (λ lt. absurd (n lt)) (λ le. omega (arith, ints))

-- a later end leaves a number that an earlier one left
pub joined_some : (l g h : Option ℤ)
    → IfSome l (λ k. IfSome g (λ e. k ≤ℤ e))
    → IfSome l (λ k. IfSome (later g h) (λ e. k ≤ℤ e))
joined_some None g h s = tt
joined_some (Some l) None h s = tt
joined_some (Some l) (Some g) None s = tt
joined_some (Some l) (Some g) (Some h) s = omega (arith, ints, clamps)

-- what is in two ranges is from the later beginning up to the earlier end
pub from_later : (k l : Option ℤ) (z : ℤ) → From k z → From l z → From (later_beginning k l) z
from_later None l z f g = g
from_later (Some k) None z f g = f
from_later (Some k) (Some l) z f g = omega (arith, ints, clamps)

pub later_from_left : (k l : Option ℤ) (z : ℤ) → From (later_beginning k l) z → From k z
later_from_left None l z f = tt
later_from_left (Some k) None z f = f
later_from_left (Some k) (Some l) z f = omega (arith, ints, clamps)

pub later_from_right : (k l : Option ℤ) (z : ℤ) → From (later_beginning k l) z → From l z
later_from_right None l z f = f
later_from_right (Some k) None z f = tt
later_from_right (Some k) (Some l) z f = omega (arith, ints, clamps)

pub up_to_earlier : (g h : Option ℤ) (z : ℤ) → UpTo g z → UpTo h z → UpTo (earlier_end g h) z
up_to_earlier None h z u v = v
up_to_earlier (Some g) None z u v = u
up_to_earlier (Some g) (Some h) z u v = omega (arith, ints, clamps)

pub earlier_up_to_left : (g h : Option ℤ) (z : ℤ) → UpTo (earlier_end g h) z → UpTo g z
earlier_up_to_left None h z u = tt
earlier_up_to_left (Some g) None z u = u
earlier_up_to_left (Some g) (Some h) z u = omega (arith, ints, clamps)

pub earlier_up_to_right : (g h : Option ℤ) (z : ℤ) → UpTo (earlier_end g h) z → UpTo h z
earlier_up_to_right None h z u = u
earlier_up_to_right (Some g) None z u = tt
earlier_up_to_right (Some g) (Some h) z u = omega (arith, ints, clamps)

-- an end at most another is up to what that is up to
pub ends_at_most : (g h : Option ℤ) (z : ℤ) → EndsAtMost g h → UpTo g z → UpTo h z
ends_at_most g None z e u = tt
ends_at_most None (Some h) z e u = absurd e
ends_at_most (Some g) (Some h) z e u = omega (arith, ints)

-- a range of which no number is below another one's beginning
pub no_more : (g h l : Option ℤ) (z : ℤ) → EndsAtMost g h → Ends h l → UpTo g z → From l z → ⊥
no_more g h l z e b u f =
    let lt = above h l z z b (ends_at_most g h z e u) f in omega (arith, ints)

-- what ends before one of two beginnings ends before the later one
pub before_left : (g k l : Option ℤ) → Ends g k → Ends g (later_beginning k l)
before_left None k l b = absurd b
before_left (Some g) None l b = absurd b
before_left (Some g) (Some k) None b = b
before_left (Some g) (Some k) (Some l) b = omega (arith, ints, clamps)

pub before_right : (g k l : Option ℤ) → Ends g l → Ends g (later_beginning k l)
before_right None k l b = absurd b
before_right (Some g) k None b = absurd b
before_right (Some g) None (Some l) b = b
before_right (Some g) (Some k) (Some l) b = omega (arith, ints, clamps)

-- the earlier of two ends ends before what one of them ends before
pub earlier_before_left : (g h l : Option ℤ) → Ends g l → Ends (earlier_end g h) l
earlier_before_left None h l b = absurd b
earlier_before_left (Some g) h None b = absurd b
earlier_before_left (Some g) None (Some l) b = b
earlier_before_left (Some g) (Some h) (Some l) b = omega (arith, ints, clamps)

pub earlier_before_right : (g h l : Option ℤ) → Ends h l → Ends (earlier_end g h) l
earlier_before_right g None l b = absurd b
earlier_before_right g (Some h) None b = absurd b
earlier_before_right None (Some h) (Some l) b = b
earlier_before_right (Some g) (Some h) (Some l) b = omega (arith, ints, clamps)

-- a range that holds a number: one is in it
pub some_in : (l g : Option ℤ) → IfSome l (λ k. IfSome g (λ e. k ≤ℤ e)) → (z : ℤ) × From l z × UpTo g z
some_in None None s = (pos 0, tt, tt)
some_in None (Some g) s = (g, tt, omega (arith, ints))
some_in (Some l) None s = (l, omega (arith, ints), tt)
some_in (Some l) (Some g) s = (l, omega (arith, ints), s)

-- a range that has a number holds one
pub in_some : (l g : Option ℤ) (z : ℤ) → From l z → UpTo g z → IfSome l (λ k. IfSome g (λ e. k ≤ℤ e))
in_some None g z f u = tt
in_some (Some l) None z f u = tt
in_some (Some l) (Some g) z f u = omega (arith, ints)
