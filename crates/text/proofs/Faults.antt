-- A text has at most one fault.
use Rattle.std.proofs.Common.{◌≡◌, ℕ, Bool, true, false, ◌<◌, List, length, refl, sym, ap, ◌∙◌, arith, inl, inr}
use Rattle.std.specs.Prelude.{IsUtf8, is_some}
use Rattle.std.specs.List.{AllByRecursion}
use Rattle.std.specs.Str.{IsValidUpTo}
use Rattle.std.proofs.lemmas.Str.{utf8_valid_len-IsValidUpTo}
use Rattle.text.specs.declared.token.Token.{Token}
use Rattle.text.specs.declared.lex_fault.LexFault.{LexFault}
use Rattle.text.specs.declared.lex_fault.LexFault.TheVariants as faults
use Rattle.text.specs.declared.lex_fault.Limit.{Limit}
use Rattle.text.specs.declared.lex_fault.Limit.TheVariants as limits
use Rattle.text.specs.Octets.{dashes}
use Rattle.text.specs.Items.{IsGap, IsToken, IsNumberToken, mark_at}
use Rattle.text.specs.Text.{HoldsTokens, holds_none, holds_gap, holds_token, IsNoGreatNumber, can_begin, IsFaultAt, IsReached, IsRightTextFault, max_text}
use Rattle.text.proofs.Unique.{Start, Space, Letter, Digit, Quote, Apostrophe, Line, Block, Sign, start_of, letter_starts, digit_starts, quote_starts, apostrophe_starts, block_starts, gap_unique, gap_no_token, pair_first}
use Rattle.text.proofs.Complete.{fault_no_gap, fault_token, same_token, is_nothing, hyphen_mark, not_valid}

-- ---- two fronts that end at faults end at one place

no_gap_there : (x : List ℕ) (e : LexFault) (i p k : ℕ) → IsFaultAt x p e → i ≡ p → IsGap x i k → ⊥
no_gap_there x e i p k f r g = fault_no_gap x p k e f (rw r at g)

no_small_there : (x : List ℕ) (e : LexFault) (t : Token) (p : ℕ)
    → IsFaultAt x p e
    → t.span.start ≡ p
    → IsToken x t
    → IsNoGreatNumber x t
    → ⊥
no_small_there x e t p f r a small =
    let c = fault_token x t.kind t.span.start t.span.end e (rw r f) a in
    let le = small c.0 in
    let gt = c.1 in omega arith

same_place : (x : List ℕ) (e f : LexFault) {i p q : ℕ} {ts us : List Token} → IsFaultAt x p e → IsFaultAt x q f
    → AllByRecursion (IsNoGreatNumber x) ts → AllByRecursion (IsNoGreatNumber x) us → HoldsTokens x i p ts → HoldsTokens x i q us → p ≡ q
same_place x e f a b s t (holds_none r) (holds_none r') = sym r ∙ r'
same_place x e f a b s t (holds_none r) (holds_gap k g h) = absurd (no_gap_there x e _ _ k a r g)
same_place x e f a b s t (holds_none r) (holds_token u n v h) = absurd (no_small_there x e u _ a (n ∙ r) v t.0)
same_place x e f a b s t (holds_gap k g h) (holds_none r) = absurd (no_gap_there x f _ _ k b r g)
same_place x e f a b s t (holds_token u n v h) (holds_none r) = absurd (no_small_there x f u _ b (n ∙ r) v s.0)
same_place x e f a b s t (holds_gap {i = i} k g h) (holds_gap k' g' h') = same_place x e f a b s t h (rw (gap_unique x i k' k g' g) at h')
same_place x e f a b s t (holds_gap {i = i} k g h) (holds_token u n v h') = absurd (gap_no_token x u.kind i k u.span.end g (rw n at v))
same_place x e f a b s t (holds_token {i = i} u n v h) (holds_gap k g h') = absurd (gap_no_token x u.kind i k u.span.end g (rw n at v))
same_place x e f a b s t (holds_token {i = i} u n v h) (holds_token u' n' v' h') =
    let r = same_token x u' u i n' n v' v in
    same_place x e f a b s.1 t.1 h (rw r at h')

-- ---- one place has one fault

-- faults of one sort begin with one class of octets
abbrev sort_of : Start → ℕ
sort_of Space = 0
sort_of Letter = 1
sort_of Digit = 2
sort_of Quote = 3
sort_of Apostrophe = 3
sort_of Line = 4
sort_of Block = 5
sort_of Sign = 6

abbrev sort_of_fault : LexFault → ℕ
sort_of_fault (faults.BadName q) = 1
sort_of_fault (faults.BadNumber q) = 2
sort_of_fault (faults.Limit l q) = 2
sort_of_fault (faults.OpenString q) = 3
sort_of_fault (faults.OpenComment q) = 5
sort_of_fault (faults.BadCharacter q) = 6
sort_of_fault _ = 7

-- what the fault of a number that is too great says
record Great (x : List ℕ) (p : ℕ) (l : Limit) (q : ℕ) : Type 0 where
  which : l ≡ limits.Integer
  here : q ≡ p
  end : ℕ
  number : IsNumberToken x p end

great : (x : List ℕ) (p : ℕ) (l : Limit) (q : ℕ) → IsFaultAt x p (faults.Limit l q) → Great x p l q
great x p limits.Integer q a = record { which = refl; here = a.0; end = a.1; number = a.2 }
great x p limits.Text q a = absurd a

nothing_starts : (x : List ℕ) (p : ℕ) → can_begin x p ≡ false → start_of x p ≡ Sign
unfolding start_of
nothing_starts x p e =
    let n = is_nothing x p e in
    let d : dashes x p ≡ false = no_dashes (dashes x p) refl n.mark in
    rw (n.space, n.letter, n.digit, n.quote, n.apostrophe, d, n.opening) refl
  where
    no_dashes : (b : Bool) → dashes x p ≡ b → is_some (mark_at x p) ≡ false → b ≡ false
    no_dashes true q m = absurd (let h = hyphen_mark x p (pair_first x p 45 45 q) in cc)
    no_dashes false q m = refl

fault_sort : (x : List ℕ) (p : ℕ) (e : LexFault) → IsFaultAt x p e → sort_of (start_of x p) ≡ sort_of_fault e
fault_sort x p (faults.BadCharacter q) a = rw (nothing_starts x p a.1) refl
fault_sort x p (faults.OpenComment q) a = rw (block_starts x p a.1) refl
fault_sort x p (faults.OpenString q) a = elim a.1 [ inl e ↦ rw (quote_starts x p e) refl | inr e ↦ rw (apostrophe_starts x p e) refl ]
fault_sort x p (faults.BadNumber q) a = rw (digit_starts x p a.1) refl
fault_sort x p (faults.BadName q) a = rw (letter_starts x p a.1) refl
fault_sort x p (faults.Limit l q) a = let g = great x p l q a in rw (digit_starts x p g.number.digit) refl
fault_sort x p faults.Memory a = absurd a
fault_sort x p (faults.NotUtf8 q) a = absurd a

same_fault : (x : List ℕ) (p : ℕ) (e f : LexFault) → IsFaultAt x p e → IsFaultAt x p f → e ≡ f
same_fault x p (faults.BadCharacter q) (faults.BadCharacter r) a b = ap (λ (n : ℕ). faults.BadCharacter n) (a.0 ∙ sym b.0)
same_fault x p (faults.OpenComment q) (faults.OpenComment r) a b = ap (λ (n : ℕ). faults.OpenComment n) (a.0 ∙ sym b.0)
same_fault x p (faults.OpenString q) (faults.OpenString r) a b = ap (λ (n : ℕ). faults.OpenString n) (a.0 ∙ sym b.0)
same_fault x p (faults.BadNumber q) (faults.BadNumber r) a b = ap (λ (n : ℕ). faults.BadNumber n) (a.0 ∙ sym b.0)
same_fault x p (faults.BadName q) (faults.BadName r) a b = ap (λ (n : ℕ). faults.BadName n) (a.0 ∙ sym b.0)
same_fault x p (faults.Limit l q) (faults.Limit m r) a b =
    let c = great x p l q a in
    let d = great x p m r b in
    rw (c.which, d.which) (ap (λ (n : ℕ). faults.Limit limits.Integer n) (c.here ∙ sym d.here))
same_fault x p (faults.BadNumber q) (faults.Limit m r) a b = let d = great x p m r b in absurd (a.2 d.end d.number)
same_fault x p (faults.Limit l q) (faults.BadNumber r) a b = let c = great x p l q a in absurd (b.2 c.end c.number)
same_fault x p faults.Memory f a b = absurd a
same_fault x p (faults.NotUtf8 q) f a b = absurd a
same_fault x p e f a b = absurd (let c = fault_sort x p e a in let d = fault_sort x p f b in omega arith)

-- ---- the three ways in which a text is refused

data Way (x : List ℕ) (e : LexFault) : Type 0 where
  way_octets : (p : ℕ) → e ≡ faults.NotUtf8 p → IsValidUpTo x p → Way x e
  way_long : (p : ℕ) → e ≡ faults.Limit limits.Text p → p ≡ max_text → max_text < length x → IsUtf8 x → Way x e
  way_reached : IsReached x e → Way x e

way : (x : List ℕ) (e : LexFault) → (e ≡ faults.Memory → ⊥) → IsRightTextFault x e → Way x e
way x faults.Memory n s = absurd (n refl)
way x (faults.NotUtf8 p) n s = way_octets p refl s
way x (faults.Limit limits.Text p) n s = way_long p refl s.0 s.1 s.2
way x e n s = way_reached s

ways_meet : (x : List ℕ) (e f : LexFault) → Way x e → Way x f → e ≡ f
ways_meet x e f (way_octets p r s) (way_octets q r' s') =
    let a = utf8_valid_len-IsValidUpTo x p s in
    let b = utf8_valid_len-IsValidUpTo x q s' in
    r ∙ (ap (λ (n : ℕ). faults.NotUtf8 n) (sym a ∙ b) ∙ sym r')
ways_meet x e f (way_octets p r s) (way_long q r' m l u) = absurd (not_valid x p s u)
ways_meet x e f (way_octets p r s) (way_reached d) = absurd (not_valid x p s d.utf8)
ways_meet x e f (way_long q r' m l u) (way_octets p r s) = absurd (not_valid x p s u)
ways_meet x e f (way_reached d) (way_octets p r s) = absurd (not_valid x p s d.utf8)
ways_meet x e f (way_long p r m l u) (way_long q r' m' l' u') = r ∙ (ap (λ (n : ℕ). faults.Limit limits.Text n) (m ∙ sym m') ∙ sym r')
ways_meet x e f (way_long p r m l u) (way_reached d) = absurd (let le = d.limits.text in omega arith)
ways_meet x e f (way_reached d) (way_long p r m l u) = absurd (let le = d.limits.text in omega arith)
ways_meet x e f (way_reached c) (way_reached d) =
    let r : c.place ≡ d.place = same_place x e f c.shown d.shown c.limits.numbers d.limits.numbers c.up_to d.up_to in
    same_fault x d.place e f (rw r at c.shown) d.shown

pub lemma_one_fault : (x : List ℕ) (e f : LexFault)
    → (e ≡ faults.Memory → ⊥)
    → (f ≡ faults.Memory → ⊥)
    → IsRightTextFault x e
    → IsRightTextFault x f
    → e ≡ f
lemma_one_fault x e f n m s t = ways_meet x e f (way x e n s) (way x f m t)
