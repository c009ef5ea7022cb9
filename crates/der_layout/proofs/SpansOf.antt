-- Members' octets, one member after another.
use Rattle.std.proofs.Common.{◌≡◌, ℕ, zero, suc, ◌+◌, ◌<◌, ◌≤◌, List, [], ◌∷◌, ◌++◌, length, drop, get_or, refl, sym, ap, ◌∙◌, arith, append_assoc, append-nil}
use Rattle.der_layout.specs.declared.table.Member.{Member}
use Rattle.der_layout.specs.Tables.{span, spans}

-- the members that are left
pub first_left : (o : List ℕ) (ms : List Member) (i : ℕ) (m : Member) → i < length ms → m ≡ get_or ms i m → spans o (drop i ms) ≡ span o m ++ spans o (drop (i + 1) ms)
first_left o [] i m l e = absurd (omega (arith, l))
first_left o (x ∷ ms) zero m l e = ap (λ q. span o q ++ spans o ms) (sym e) ∙ ap (λ q. span o m ++ spans o (drop q (x ∷ ms))) (let z : 1 ≡ zero + 1 = omega arith in z)
first_left o (x ∷ ms) (suc i) m l e = first_left o ms i m (omega (arith, l)) e ∙ ap (λ q. span o m ++ spans o (drop q (x ∷ ms))) (let z : suc (i + 1) ≡ suc i + 1 = omega arith in z)

pub none_left : (o : List ℕ) (ms : List Member) (i : ℕ) → length ms ≤ i → spans o (drop i ms) ≡ []
none_left o [] zero l = refl
none_left o [] (suc i) l = refl
none_left o (m ∷ ms) zero l = absurd (omega (arith, l))
none_left o (m ∷ ms) (suc i) l = none_left o ms i (omega (arith, l))

pub next_span : (o : List ℕ) (ms : List Member) (i : ℕ) (m : Member) (old news x all : List ℕ) → i < length ms → m ≡ get_or ms i m → x ≡ span o m → news ≡ old ++ x
    → old ++ spans o (drop i ms) ≡ all → news ++ spans o (drop (i + 1) ms) ≡ all
next_span o ms i m old news x all l e s f h =
    ap (λ q. q ++ spans o (drop (i + 1) ms)) f ∙ append_assoc old x (spans o (drop (i + 1) ms))
    ∙ ap (λ q. old ++ (q ++ spans o (drop (i + 1) ms))) s
    ∙ ap (λ q. old ++ q) (sym (first_left o ms i m l e)) ∙ h

pub no_span : (o : List ℕ) (ms : List Member) (i : ℕ) (old all : List ℕ) → length ms ≤ i → old ++ spans o (drop i ms) ≡ all → old ≡ all
no_span o ms i old all l h = sym (append-nil old) ∙ ap (λ q. old ++ q) (sym (none_left o ms i l)) ∙ h
