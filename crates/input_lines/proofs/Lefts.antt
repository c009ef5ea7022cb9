-- What is left after a part was taken, and the lines of it.
use Rattle.std.proofs.Common.{◌≡◌, inl, inr, ℕ, ◌+◌, ◌<◌, ◌≤◌, Option, Some, None, List, [], ◌∷◌, ◌++◌, length, take, drop, refl, sym, ap, subst, ◌∙◌, append_assoc, append-nil, drop_of_length-le, take-append-drop, arith}
use Rattle.std.proofs.lemmas.Bool.{cases_lt}
use Rattle.std.proofs.lemmas.List.{drop-drop}
use Rattle.std.specs.Io.KnownBytes.{Consumes, IsAtEnd, Keeps, prepend_known}
use Rattle.std.proofs.KnownBytes.{Consumes-nil, Consumes-trans, Consumes-kept}
use Rattle.input_lines.specs.Lines.{HasNoLine, TakesLine, before, lines_of}
use Rattle.input_lines.specs.proving.Parts.{HasNoEnd, IsKept}
use Rattle.input_lines.specs.declared.lines.NextLine.{NextLine}
use Rattle.input_lines.specs.declared.lines.NextLine.TheVariants.{Line, Long}

-- ---- lines

-- octets without a line end, and then one, are a line
pub line_then : (l ys : List ℕ) → HasNoEnd l → lines_of (l ++ (10 ∷ ys)) ≡ l ∷ lines_of ys
line_then [] ys h = refl
line_then (x ∷ l) ys h = rw h.0 (ap (before x) (line_then l ys h.1))

-- octets without a line end are the last line
pub last_line : (x : ℕ) (l : List ℕ) → HasNoEnd (x ∷ l) → lines_of (x ∷ l) ≡ (x ∷ l) ∷ []
last_line x [] h = rw h.0 refl
last_line x (y ∷ l) h = rw h.0 (ap (before x) (last_line y l h.1))

pub ended_line : (a b : Option (List ℕ)) (l : List ℕ) → HasNoEnd l → Consumes a b (l ++ 10 ∷ []) → TakesLine a b l
ended_line None b l h c = tt
ended_line (Some xs) None l h c = absurd c
ended_line (Some xs) (Some ys) l h c = ap lines_of (c ∙ append_assoc l (10 ∷ []) ys) ∙ line_then l ys h

pub final_line : (a b : Option (List ℕ)) (l : List ℕ) → HasNoEnd l → 0 < length l → Consumes a b l → IsAtEnd b
    → TakesLine a b l
final_line None b l h s c e = tt
final_line (Some xs) None l h s c e = absurd c
final_line (Some xs) (Some ys) [] h s c e = absurd (omega (arith, s))
final_line (Some xs) (Some ys) (x ∷ l) h s c e =
    ap lines_of (c ∙ ap (λ q. (x ∷ l) ++ q) e ∙ append-nil (x ∷ l)) ∙ last_line x l h ∙ ap (λ q. (x ∷ l) ∷ lines_of q) (sym e)

pub no_line : (a b : Option (List ℕ)) → Consumes a b [] → IsAtEnd b → HasNoLine a
no_line None b c e = tt
no_line (Some xs) None c e = absurd c
no_line (Some xs) (Some ys) c e = ap lines_of (c ∙ e)

-- ---- what is kept of a line

-- nothing is kept of a line only if it has no octets
pub kept_none : (full line : List ℕ) → IsKept full line → line ≡ [] → full ≡ []
kept_none full line (inl e) n = sym e ∙ n
kept_none full line (inr h) n = absurd (let m : length line ≡ 0 = ap length n in omega (arith, h.0, m))

-- a line that is short enough is kept whole
pub kept_whole : (full line : List ℕ) → IsKept full line → length line ≤ 33554432 → line ≡ full
kept_whole full line (inl e) n = e
kept_whole full line (inr h) n = absurd (omega (arith, h.0, n))

-- one that isn't short enough is long
pub kept_long : (full line : List ℕ) → IsKept full line → 33554432 < length line → 33554432 < length full
kept_long full line (inl e) n = subst (λ (l : List ℕ). 33554432 < length l) e n
kept_long full line (inr h) n = h.1

-- ---- what is left

-- the next part is put in place of one of which all octets were taken
pub refilled : (a b : Option (List ℕ)) (part next : List ℕ) (at : ℕ) → length part ≤ at → Consumes a b next
    → Keeps (prepend_known (drop at part) a) (prepend_known next b)
refilled None b part next at n c = tt
refilled (Some xs) None part next at n c = absurd c
refilled (Some xs) (Some ys) part next at n c =
    sym c ∙ ap (λ q. q ++ xs) (sym (drop_of_length-le part n))

-- the first octets of a part were taken
pub moved : (a : Option (List ℕ)) (part : List ℕ) (at n : ℕ) → n ≤ length (drop at part)
    → Consumes (prepend_known (drop at part) a) (prepend_known (drop (at + n) part) a) (take n (drop at part))
moved None part at n h = tt
moved (Some xs) part at n h =
    ap (λ q. q ++ xs) (sym (take-append-drop n (drop at part)) ∙ ap (λ q. take n (drop at part) ++ q) (drop-drop n at part))
    ∙ append_assoc (take n (drop at part)) (drop (at + n) part) xs

-- what was shown of a part was taken in part
pub taken_of : (old a : Option (List ℕ)) (part shown os : List ℕ) (at n : ℕ)
    → Keeps old (prepend_known (drop at part) a)
    → shown ≡ drop at part
    → n ≤ length shown
    → take n shown ≡ os
    → Consumes old (prepend_known (drop (at + n) part) a) os
taken_of old a part shown os at n k s w t =
    let taken = moved a part at n (subst (λ (xs : List ℕ). n ≤ length xs) s w) in
    let same : take n (drop at part) ≡ os = ap (take n) (sym s) ∙ t in
    Consumes-trans old (prepend_known (drop at part) a) (prepend_known (drop (at + n) part) a) [] os
    (Consumes-kept old old (prepend_known (drop at part) a) [] (Consumes-nil old) k)
    (subst (Consumes (prepend_known (drop at part) a) (prepend_known (drop (at + n) part) a)) same taken)

-- ---- a line and what follows it

-- octets without a line end, one after the other
pub no_end_more : (xs ys : List ℕ) → HasNoEnd xs → HasNoEnd ys → HasNoEnd (xs ++ ys)
no_end_more [] ys h k = k
no_end_more (x ∷ xs) ys h k = (h.0, no_end_more xs ys h.1 k)

-- the line is the first of those that were left
pub ends_line : (a b : Option (List ℕ)) (full line : List ℕ) (r : NextLine) → TakesLine a b full → IsKept full line
    → (33554432 < length line → r ≡ Long)
    → r ≡ Line
    → TakesLine a b line
ends_line a b full line r t (inl e) long is = subst (TakesLine a b) (sym e) t
ends_line a b full line r t (inr h) long is = absurd (let w : Long ≡ Line = sym (long h.0) ∙ is in cc)

-- the first line of those that were left is too long
pub ends_long : (a b : Option (List ℕ)) (full line : List ℕ) (r : NextLine) → TakesLine a b full → IsKept full line
    → (length line ≤ 33554432 → r ≡ Line)
    → r ≡ Long
    → (f : List ℕ) × (33554432 < length f) × TakesLine a b f
ends_long a b full line r t k short is = elim (cases_lt 33554432 (length line)) [
  | inl h ↦ (full, kept_long full line k h, t)
  | inr h ↦ absurd (let w : Line ≡ Long = sym (short h) ∙ is in cc)
]

-- a step adds to what was taken of a line
pub more_of : (a b c : Option (List ℕ)) (full os tail : List ℕ) → Consumes a b full
    → Consumes b c (os ++ tail)
    → Consumes a c ((full ++ os) ++ tail)
more_of a b c full os tail h k =
    subst (Consumes a c) (sym (append_assoc full os tail)) (Consumes-trans a b c full (os ++ tail) h k)

-- if anything is kept of a line, it has octets
pub kept_some : (full line : List ℕ) → IsKept full line → 0 < length line → 0 < length full
kept_some full line (inl e) n = subst (λ (l : List ℕ). 0 < length l) e n
kept_some full line (inr h) n = omega (arith, h.1)

-- a list without elements
pub none_of : (xs : List ℕ) → length xs ≤ 0 → xs ≡ []
none_of [] h = refl
none_of (x ∷ xs) h = absurd (omega (arith, h))
