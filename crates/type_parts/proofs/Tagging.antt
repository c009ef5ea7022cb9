-- The tags that are read.
use Rattle.std.proofs.Common.{◌≡◌, ℕ, ◌<◌, ◌^◌, Bool, true, false, List, [], ◌∷◌, Ok, Err, refl, sym, ap, subst, ◌∙◌ as ◌⋆◌, arith}
use Rattle.std.proofs.Props.{props}
use Rattle.std.proofs.lemmas.Bool.Decides.{nat_tests}
use Rattle.std.specs.Prelude.{nat_lt}
use Rattle.asn_base.specs.declared.tag.Class.{Class}
use Rattle.asn_base.specs.declared.tag.Class.TheVariants.{Universal}
use Rattle.asn_base.specs.declared.tag.Tag.{Tag}
use Rattle.grammar.specs.Lexeme.{Lexeme, Number}
use Rattle.grammar.specs.Places.{small}
use Rattle.grammar.specs.Reading.{Fault, Read, ◌>>=◌}
use Rattle.parser_combinators.specs.declared.read_error.ReadError.{ReadError}
use Rattle.parser_combinators.specs.declared.read_error.ReadError.TheVariants as errors
use Rattle.parser_combinators.specs.Given.{Fails}
use Rattle.grammar.specs.Rules.{made}
use Rattle.type_parts.specs.PlainGrammar.{TagNumber, tag_of}
use Rattle.type_parts.specs.PlainReading.{by_limit, bracket_at, low, low_number_at, low_end_at, tag_number_at, tag_end_at, class_at, tag_at}

-- ---- tags of one class and number are equal

below_prop : (n : ℕ) → IsProp (n < 2147483648)
below_prop n = hlevel props

reserved_prop : (c : Class) (n : ℕ) → IsProp (c ≡ Universal → 0 < n)
reserved_prop c n = hlevel props

tags_same : (c d : Class) (m n : ℕ) (p : m < 2147483648) (q : n < 2147483648) (r : c ≡ Universal → 0 < m)
    (t : d ≡ Universal → 0 < n)
    → c ≡ d
    → m ≡ n
    →
    ◌≡◌ {A = Tag} (record { class = c; number = m; in_range = p; not_reserved = r }) (record { class = d; number = n; in_range = q; not_reserved = t })
tags_same c d m n p q r t e f = subst (λ d. (t : d ≡ Universal → 0 < n) → ◌≡◌ {A = Tag} (record { class = c; number = m; in_range = p; not_reserved = r }) (record { class = d; number = n; in_range = q; not_reserved = t })) e
    (λ t. subst (λ n. (q : n < 2147483648) (t : c ≡ Universal → 0 < n) → ◌≡◌ {A = Tag} (record { class = c; number = m; in_range = p; not_reserved = r }) (record { class = c; number = n; in_range = q; not_reserved = t })) f
    (λ q t. ap (λ z. record { class = c; number = m; in_range = z; not_reserved = r }) (below_prop m p q) ⋆ ap (λ z. record { class = c; number = m; in_range = q; not_reserved = z }) (reserved_prop c m r t)) q t) t

tag_same : (g h : Tag) → g.class ≡ h.class → g.number ≡ h.number → g ≡ h
tag_same g h e n = tags_same g.class h.class g.number h.number g.in_range h.in_range g.not_reserved h.not_reserved e n

-- ---- under the limit, the numbers of tags are those below 2 to the 31

abbrev plain : TagNumber → ℕ
plain x = x.0

none_below_itself : (n : ℕ) → nat_lt n n ≡ false
none_below_itself n = grind (arith, nat_tests)

limited : small (2 ^ 127) ≡ false
limited = none_below_itself (2 ^ 127)

limit_is : (n : ℕ) (b : Bool) (e : nat_lt n 2147483648 ≡ b) (rest : List Lexeme)
    → made plain (by_limit (small (2 ^ 127)) n b e rest) ≡ low b n rest
limit_is n true e rest = refl
limit_is n false e rest = ap (λ (u : Bool). made plain (by_limit u n false e rest)) limited

number_is : (ts : List Lexeme) → made plain (tag_number_at small ts) ≡ low_number_at ts
unfolding tag_number_at low_number_at
number_is [] = refl
number_is (Number n ∷ ts) = limit_is n (nat_lt n 2147483648) refl ts
number_is (t ∷ ts) = refl

end_is : (ts : List Lexeme) → made plain (tag_end_at small ts) ≡ low_end_at ts
unfolding tag_end_at low_end_at
end_is ts = go (tag_number_at small ts) ⋆ ap (λ (r : Read ℕ). r >>= λ n. bracket_at n.1 >>= λ e. Ok (n.0, e.1)) (number_is ts)
  where
    close : (n : TagNumber) (r : Read (Unit {0}))
        → made plain (made (λ (u : Unit {0}). n) r) ≡ made (λ (u : Unit {0}). n.0) r
    close n (Ok u) = refl
    close n (Err f) = refl

    go : (r : Read TagNumber)
        →
        made plain (r >>= λ n. bracket_at n.1 >>= λ e. Ok (n.0, e.1)) ≡ (made plain r >>= λ n. bracket_at n.1 >>= λ e. Ok (n.0, e.1))
    go (Ok n) = close n.0 (bracket_at n.1)
    go (Err f) = refl

-- ---- the tag of a class

abbrev done : {A : Type 0} → A × List Lexeme → Read A
done x = Ok x

first_is : {A : Type 0} (x y : A × List Lexeme) → done x ≡ done y → x ≡ y
first_is x y e = cc

made_is : (f : TagNumber → Tag) (r : Read TagNumber) (n : ℕ) (g : Tag) (rest : List Lexeme)
    → made plain r ≡ Ok (n, rest)
    → ((x : TagNumber) → x.0 ≡ n → f x ≡ g)
    → made f r ≡ Ok (g, rest)
made_is f (Ok x) n g rest e h =
    let p = first_is (x.0.0, x.1) (n, rest) e in
    ap (λ (u : Tag). Ok (u, x.1)) (h x.0 (ap (λ (y : ℕ × List Lexeme). y.0) p)) ⋆ ap (λ (l : List Lexeme). Ok (g, l)) (ap (λ (y : ℕ × List Lexeme). y.1) p)
made_is f (Err q) n g rest e h = absurd cc

made_fails : (f : TagNumber → Tag) (r : Read TagNumber) (e : Fault) → made plain r ≡ Err e → made f r ≡ Err e
made_fails f (Ok x) e h = absurd cc
made_fails f (Err q) e h = let d : q ≡ e = cc in ap (λ (q : Fault). Err q) d

fails : (f : TagNumber → Tag) (ts : List Lexeme) (e : ReadError)
    → Fails e (low_end_at ts)
    → Fails e (made f (tag_end_at small ts))
fails f ts errors.Memory h = tt
fails f ts (errors.Unexpected n) h = made_fails f (tag_end_at small ts) _ (end_is ts ⋆ h)
fails f ts (errors.Limit l n) h = made_fails f (tag_end_at small ts) _ (end_is ts ⋆ h)

-- us comes after the word of the class
pub tag_is : (ts us rest : List Lexeme) (n : ℕ) (g : Tag)
    → (class_at ts).1 ≡ us
    → low_end_at us ≡ Ok (n, rest)
    → (class_at ts).0.0 ≡ g.class
    → g.number ≡ n
    → tag_at small ts ≡ Ok (g, rest)
unfolding tag_at
tag_is ts us rest n g b e c d = made_is (tag_of (class_at ts).0) (tag_end_at small (class_at ts).1) n g rest (end_is (class_at ts).1 ⋆ ap low_end_at b ⋆ e) (λ x h. tag_same (tag_of (class_at ts).0 x) g c (h ⋆ sym d))

pub tag_fails : (ts us : List Lexeme) (e : ReadError)
    → (class_at ts).1 ≡ us
    → Fails e (low_end_at us)
    → Fails e (tag_at small ts)
unfolding tag_at
tag_fails ts us e b h = fails (tag_of (class_at ts).0) (class_at ts).1 e (subst (λ l. Fails e (low_end_at l)) (sym b) h)
