-- What loops over lists guarantee.
use Rattle.std.proofs.Common.{◌≡◌, ℕ, zero, suc, ◌≤◌, List, [], ◌∷◌, ◌++◌, length, Some, None, Result, Ok, Err, refl, sym, ap, subst, ◌∙◌ as ◌⋆◌, append_assoc, arith, length-append}
use Rattle.std.proofs.lemmas.List.{append-nil}
use Rattle.text.specs.declared.token.Mark.TheVariants.{Comma}
use Rattle.grammar.specs.Lexeme.{Lexeme, Mark}
use Rattle.grammar.specs.Grammar.{Grammar}
use Rattle.grammar.specs.Reading.{Fault, Read, Reader, ◌>>=◌, with_front, next_comma, after_commas_at}
use Rattle.grammar.specs.Laws.{Sound, nowhere}

pub is_comma : (ts rest : List Lexeme) → next_comma ts ≡ Some rest → ts ≡ Mark Comma ∷ rest
unfolding next_comma
is_comma [] x e = absurd cc
is_comma (Mark Comma ∷ ts) x e = cc
is_comma (t ∷ ts) x e = absurd cc

pub regroup : {A : Type 0} (front : List A) (x : A) (r : Read (List A))
    → with_front front (r >>= λ xs. Ok (x ∷ xs.0, xs.1)) ≡ with_front (front ++ x ∷ []) r
regroup front x (Ok xs) = ap (λ (l : List _). Ok (l, xs.1)) (sym (append_assoc front (x ∷ []) xs.0))
regroup front x (Err e) = refl

-- ---- lists with commas

-- a reader leaves at most as many lexemes as it was given
pub record Shrinks {A : Type 0} (read : Reader A) : Type 0 where
  pub shorter : (ts : List Lexeme) (x : A × List Lexeme) → read ts ≡ Ok x → length x.1 ≤ length ts

abbrev done : {A : Type 0} → A → Result A Fault
done x = Ok x

ok_is : {A : Type 0} (x y : A) → done x ≡ done y → x ≡ y
ok_is x y e = cc

pub sound_short : {A : Type 0} (g : Grammar A) (ts : List Lexeme) (r : Read A) (x : A × List Lexeme)
    → r ≡ Ok x
    → Sound nowhere g ts r
    → length x.1 ≤ length ts
sound_short g ts (Ok y) x e s =
    let d = ok_is y x e in
    let le : length y.1 ≤ length ts = omega (arith, ap length s.1, length-append s.0 y.1) in
    subst (λ (y : _). length y.1 ≤ length ts) d le
sound_short g ts (Err f) x e s = absurd cc

-- results are the same for any fuel that is enough
bind_same : {A B : Type 0} (r : Result A Fault) (f g : A → Result B Fault)
    → ((x : A) → r ≡ Ok x → f x ≡ g x)
    → (r >>= f) ≡ (r >>= g)
bind_same (Ok x) f g h = h x refl
bind_same (Err e) f g h = refl

any_fuel : {A : Type 0} (read : Reader A)
    → Shrinks read
    → (k j : ℕ) (ts : List Lexeme)
    → length ts ≤ k
    → length ts ≤ j
    → after_commas_at read k ts ≡ after_commas_at read j ts
unfolding after_commas_at
any_fuel read s zero zero ts p q = refl
any_fuel read s zero (suc j) [] p q = refl
any_fuel read s zero (suc j) (t ∷ ts) p q = absurd (omega arith)
any_fuel read s (suc k) zero [] p q = refl
any_fuel read s (suc k) zero (t ∷ ts) p q = absurd (omega arith)
any_fuel read s (suc k) (suc j) [] p q = refl
any_fuel read s (suc k) (suc j) ((Mark Comma) ∷ ts) p q =
    bind_same (read ts) (λ x. after_commas_at read k x.1 >>= λ xs. Ok (x.0 ∷ xs.0, xs.1))
    (λ x. after_commas_at read j x.1 >>= λ xs. Ok (x.0 ∷ xs.0, xs.1))
    (λ x e. let le = s.shorter ts x e in
    ap (λ (r : Read (List _)). r >>= λ xs. Ok (x.0 ∷ xs.0, xs.1)) (any_fuel read s k j x.1 (omega arith) (omega arith)))
any_fuel read s (suc k) (suc j) (t ∷ ts) p q = refl

pub commas_more : {A : Type 0} (read : Reader A)
    → Shrinks read
    → (ts rest : List Lexeme) (x : A × List Lexeme) (front : List A) (total : Read (List A))
    → next_comma ts ≡ Some rest
    → read rest ≡ Ok x
    → with_front front (after_commas_at read (length ts) ts) ≡ total
    → with_front (front ++ x.0 ∷ []) (after_commas_at read (length x.1) x.1) ≡ total
unfolding after_commas_at
commas_more read s ts rest x front total e r h =
    let le = s.shorter rest x r in
    let fuel = any_fuel read s (length rest) (length x.1) x.1 le (omega arith) in
    let one : after_commas_at read (length ((Mark Comma) ∷ rest)) ((Mark Comma) ∷ rest)
    ≡ (after_commas_at read (length x.1) x.1 >>= λ xs. Ok (x.0 ∷ xs.0, xs.1)) =
    ap (λ (q : Read _). q >>= λ x. after_commas_at read (length rest) x.1 >>= λ xs. Ok (x.0 ∷ xs.0, xs.1)) r
    ⋆ ap (λ (q : Read (List _)). q >>= λ xs. Ok (x.0 ∷ xs.0, xs.1)) fuel in
    sym (ap (with_front front) one ⋆ regroup front x.0 (after_commas_at read (length x.1) x.1))
    ⋆ ap (λ (l : List Lexeme). with_front front (after_commas_at read (length l) l)) (sym (is_comma ts rest e)) ⋆ h

pub commas_end : {A : Type 0} (read : Reader A) (ts : List Lexeme) (front : List A) (total : Read (List A))
    → next_comma ts ≡ None
    → with_front front (after_commas_at read (length ts) ts) ≡ total
    → total ≡ Ok (front, ts)
unfolding after_commas_at next_comma
commas_end read [] front total e h = sym h ⋆ ap (λ (l : List _). Ok (l, [])) (append-nil front)
commas_end read ((Mark Comma) ∷ ts) front total e h = absurd cc
commas_end read (t ∷ ts) front total e h = sym h ⋆ ap (λ (l : List _). Ok (l, t ∷ ts)) (append-nil front)

pub commas_fail : {A : Type 0} (read : Reader A) (ts rest : List Lexeme) (f : Fault) (front : List A)
    (total : Read (List A))
    → next_comma ts ≡ Some rest
    → read rest ≡ Err f
    → with_front front (after_commas_at read (length ts) ts) ≡ total
    → total ≡ Err f
unfolding after_commas_at
commas_fail read ts rest f front total e r h =
    let one : after_commas_at read (length ((Mark Comma) ∷ rest)) ((Mark Comma) ∷ rest) ≡ Err f =
    ap (λ (q : Read _). q >>= λ x. after_commas_at read (length rest) x.1 >>= λ xs. Ok (x.0 ∷ xs.0, xs.1)) r in
    sym h ⋆ ap (λ (l : List Lexeme). with_front front (after_commas_at read (length l) l)) (is_comma ts rest e)
    ⋆ ap (with_front front) one
