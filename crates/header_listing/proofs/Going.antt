-- Showing the octets that are left, and then those after each encoding that is open.
use Rattle.std.proofs.Common.{arith, ◌≡◌, ℕ, suc, ◌+◌, ◌≤◌, Bool, true, false, List, [], ◌∷◌, ◌++◌, length, refl, sym, ap, subst, ◌∙◌, append_assoc, length-append}
use Rattle.asn_base.specs.declared.tag.Tag.{Tag}
use Rattle.encodings.specs.Header.{Octets, LengthOf, short, long}
use Rattle.header_listing.specs.Shown.{IsFirst, HasNone, Line, header, others, ShowsLines, ends, primitive, within, after, none}
use Rattle.header_listing.specs.proving.Going.{Goes, inside, out}

pub as_many : {d n m k : ℕ} {o : Octets} {ls js : List Line} → ShowsLines d n o m ls → m ≡ k → ls ≡ js → ShowsLines d n o k js
as_many {d} {n} {m} {k} {o} {ls} {js} s e f =
    subst (λ y. ShowsLines d n o k y) f (subst (λ y. ShowsLines d n o y ls) e s)

pub from_there : {d n p m : ℕ} {o : Octets} {ls : List Line} → ShowsLines d n o m ls → n ≡ p → ShowsLines d p o m ls
from_there {d} {n} {p} {m} {o} {ls} s e = subst (λ y. ShowsLines d y o m ls) e s

pub goes_from : {outs : List Octets} {n p m : ℕ} {o : Octets} {ls : List Line} → Goes outs n o m ls → n ≡ p → Goes outs p o m ls
goes_from {outs} {n} {p} {m} {o} {ls} g e = subst (λ y. Goes outs y o m ls) e g

-- length octets are some
pub sized_some : {n : ℕ} {z : Octets} → LengthOf n z → 1 ≤ length z
sized_some (short l) = omega arith
sized_some (long f) = omega arith

-- the octets of an encoding, counted
pub counted : {t : Tag} {c : Bool} {i z x rest o : Octets}
    → IsFirst t c i z x rest o
    → length o ≡ length i + (length z + (length x + length rest))
counted {i = i} {z = z} {x = x} {rest = rest} f =
    let e = ap length f.whole in
    let a = length-append i (z ++ (x ++ rest)) in
    let b = length-append z (x ++ rest) in
    let d = length-append x rest in
    omega (arith, e, a, b, d)

pub header_counted : (i z : Octets) → length (i ++ z) ≡ length i + length z
header_counted i z = length-append i z

pub unit_counted : (i z x : Octets) → length (i ++ (z ++ x)) ≡ length i + (length z + length x)
unit_counted i z x = let a = length-append i (z ++ x) in let b = length-append z x in omega (arith, a, b)

pub not_empty : {t : Tag} {c : Bool} {i z x rest o : Octets} → IsFirst t c i z x rest o → o ≡ [] → ⊥
not_empty f e = let n = counted f in let s = sized_some f.sized in let l = ap length e in omega (arith, n, s, l)

-- no octets are shown by no lines
pub of_none : {d n m : ℕ} {o : Octets} {ls : List Line} → o ≡ [] → ShowsLines d n o m ls → (m ≡ 0) × (ls ≡ [])
of_none e ends = (refl, refl)
of_none e (primitive f s) = absurd (not_empty f e)
of_none e (within f s) = absurd (not_empty f e)
of_none e (after f s r) = absurd (not_empty f e)
of_none e (none s h) = let l = ap length e in absurd (omega (arith, l, s))

pub go_primitive : {outs : List Octets} {n m : ℕ} {t : Tag} {i z x rest o : Octets} {ls : List Line}
    → IsFirst t false i z x rest o
    → Goes outs (n + length (i ++ (z ++ x))) rest m ls
    → Goes outs n o (length (i ++ (z ++ x)) + m) (header (length outs) n i z x ∷ ls)
go_primitive f (inside s) = inside (primitive f s)
go_primitive {outs} {n} {m} {t} {i} {z} {x} {rest} {o} {ls} f (out {outs = vs} {p = p'} {k = k} {m = m'} {u = u} {ks = ks} {ls = ls'} s w p g q j) =
    let l = counted f in
    let h = unit_counted i z x in
    let first = header (suc (length vs)) n i z x in
    out {outs = vs} {n = n} {p = p'} {k = length (i ++ (z ++ x)) + k} {m = m'} {u = u} {ks = first ∷ ks} {ls = ls'}
    (primitive f s) (omega (arith, l, h, w)) (omega (arith, p)) g (omega (arith, q)) (ap (λ y. first ∷ y) j)

pub go_within : {outs : List Octets} {n m : ℕ} {t : Tag} {i z x rest o : Octets} {ls : List Line}
    → IsFirst t true i z x rest o
    → Goes (rest ∷ outs) (n + length (i ++ z)) x m ls
    → Goes outs n o (length (i ++ z) + m) (header (length outs) n i z [] ∷ ls)
go_within f (inside s) = inside (within f s)
go_within {outs} {n} {m} {t} {i} {z} {x} {rest} {o} {ls} f (out {k = k} {m = m'} {ks = ks} {ls = ls'} s w p (inside r) q j) =
    inside (as_many (after f (as_many s w refl) (from_there r (p ∙ ap (λ y. n + length (i ++ z) + y) w)))
    (omega (arith, w, q))
    (ap (λ y. header (length outs) n i z [] ∷ y) (sym j)))
go_within {outs} {n} {m} {t} {i} {z} {x} {rest} {o} {ls} f (out {k = k} {m = m''} {ks = ks} {ls = ls'} s w p (out {outs = vs} {p = p'} {k = k'} {m = m'} {u = u} {ks = ks'} {ls = ls''} r v a g b d) q j) =
    let l = counted f in
    let h = header_counted i z in
    let first = header (suc (length vs)) n i z [] in
    out {outs = vs} {n = n} {p = p'} {k = length (i ++ z) + (length x + k')} {m = m'} {u = u} {ks = first ∷ (ks ++ ks')} {ls = ls''}
    (after f (as_many s w refl) (from_there r (p ∙ ap (λ y. n + length (i ++ z) + y) w)))
    (omega (arith, l, h, v))
    (omega (arith, a, p, w))
    g
    (omega (arith, q, b, w))
    (ap (λ y. first ∷ y) (j ∙ ap (λ y. ks ++ y) d ∙ sym (append_assoc ks ks' ls'')))

pub go_none : {outs : List Octets} {n m : ℕ} {o : Octets} {ls : List Line}
    → 1 ≤ length o
    → HasNone o
    → Goes outs (n + length o) [] m ls
    → Goes outs n o (length o + m) (others (length outs) n o ∷ ls)
go_none {outs} {n} {m} {o} {ls} s h (inside r) =
    let e = of_none refl r in
    inside (as_many (none s h) (omega (arith, e.0)) (ap (λ y. others (length outs) n o ∷ y) (sym e.1)))
go_none {outs} {n} {m} {o} {ls} s h (out {outs = vs} {p = p'} {k = k} {m = m'} {u = u} {ks = ks} {ls = ls'} r w p g q j) =
    let e = of_none refl r in
    let first = others (suc (length vs)) n o in
    out {outs = vs} {n = n} {p = p'} {k = length o} {m = m'} {u = u} {ks = first ∷ []} {ls = ls'}
    (none s h) refl (omega (arith, p, e.0)) g (omega (arith, q, e.0))
    (ap (λ y. first ∷ y) (j ∙ ap (λ y. y ++ ls') e.1))

pub go_out : {outs : List Octets} {n m : ℕ} {u : Octets} {ls : List Line} → Goes outs n u m ls → Goes (u ∷ outs) n [] m ls
go_out {outs} {n} {m} {u} {ls} g =
    out {outs = outs} {n = n} {p = n} {k = 0} {m = m} {q = m} {u = u} {ks = []} {ls = ls} ends refl (omega arith) g (omega arith) refl
