-- The results of a reader for the tokens of a text.
use Rattle.std.proofs.Common.{◌≡◌, ℕ, ◌-◌, ◌≤◌, List, length, take, drop, Ok, Err, sym, ap, subst, ◌∙◌ as ◌⋆◌, arith, length-drop}
use Rattle.std.proofs.lemmas.List.{take_all, drop-map, length-map}
use Rattle.text.specs.declared.token.Token.{Token}
use Rattle.grammar.specs.Lexeme.{Lexeme, lexeme_of, lexemes}
use Rattle.grammar.specs.Reading.{Limit, Fault, Unexpected, Beyond, Read, Reader}
use Rattle.grammar.specs.Laws.{left_of}
use Rattle.grammar.specs.Places.{Limits, Limited, free, IsRead, Ends, PassesLimit}
use Rattle.grammar.specs.Answers.{Reads, found_at, unexpected_at, limit_at, left_le, rest_le, only_at, ended_at}

pub from_slice : (place : ℕ) (ts : List Token) → take (length ts - place) (drop place ts) ≡ drop place ts
from_slice place ts = take_all (length ts - place) (drop place ts) (omega (arith, length-drop place ts))

pub slice_lexemes : (x : List ℕ) (place : ℕ) (ts : List Token)
    → lexemes x (take (length ts - place) (drop place ts)) ≡ drop place (lexemes x ts)
slice_lexemes x place ts = ap (lexemes x) (from_slice place ts) ⋆ sym (drop-map (lexeme_of x) place ts)

module _ {A : Type 0} (g : Limited A) (a : Limits) (read : Reader A) (reads : Reads g a read) (x : List ℕ)
    (ts : List Token) (place : ℕ) (le : place ≤ length ts) where
  long : (us : List Token) → length (lexemes x us) ≡ length us
  long us = length-map us (lexeme_of x)

  inside : place ≤ length (lexemes x ts)
  inside = omega (arith, long ts, le)

  -- what is read of the slice from the place on
  pub read_at : (r : Read A)
      → read (lexemes x (take (length ts - place) (drop place ts))) ≡ r
      → read (drop place (lexemes x ts)) ≡ r
  read_at r e = ap read (sym (slice_lexemes x place ts)) ⋆ e

  pub found : (v : A) (rest : List Token)
      → read (lexemes x (take (length ts - place) (drop place ts))) ≡ Ok (v, lexemes x rest)
      → IsRead (g a) (free g) (lexemes x ts) place v (length ts - length rest)
  found v rest e =
      let i = found_at g a read reads (lexemes x ts) place inside (v, lexemes x rest)
      (read_at (Ok (v, lexemes x rest)) e) in
      subst (λ (k : ℕ). IsRead (g a) (free g) (lexemes x ts) place v k) (same_place rest) i
    where
      same_place : (rest : List Token) → length (lexemes x ts) - length (lexemes x rest) ≡ length ts - length rest
      same_place rest = ap (λ (k : ℕ). k - length (lexemes x rest)) (long ts)
          ⋆ ap (λ (k : ℕ). length ts - k) (long rest)

  pub rest_fits : (v : A) (rest : List Token)
      → read (lexemes x (take (length ts - place) (drop place ts))) ≡ Ok (v, lexemes x rest)
      → length rest ≤ length ts
  rest_fits v rest e = omega (
    arith,
    rest_le g a read reads (lexemes x ts) place inside (v, lexemes x rest)
        (read_at (Ok (v, lexemes x rest)) e),
    long ts,
    long rest,
  )

  pub left_fits : (f : Fault)
      → read (lexemes x (take (length ts - place) (drop place ts))) ≡ Err f
      → left_of f ≤ length ts
  left_fits f e = omega (arith, left_le g a read reads (lexemes x ts) place inside f (read_at (Err f) e), long ts)

  pub first : (k : ℕ)
      → read (lexemes x (take (length ts - place) (drop place ts))) ≡ Err (Unexpected k)
      → Ends g a (lexemes x ts) place (length ts - k)
  first k e = subst (λ (n : ℕ). Ends g a (lexemes x ts) place (n - k)) (long ts)
      (unexpected_at g a read reads (lexemes x ts) place inside k (read_at (Err (Unexpected k)) e))

  pub passes : (l : Limit) (k : ℕ)
      → read (lexemes x (take (length ts - place) (drop place ts))) ≡ Err (Beyond l k)
      → PassesLimit g a (lexemes x ts) place (length ts - k) l
  passes l k e = subst (λ (n : ℕ). PassesLimit g a (lexemes x ts) place (n - k) l) (long ts)
      (limit_at g a read reads (lexemes x ts) place inside l k (read_at (Err (Beyond l k)) e))

  pub found_only : (v : A) (end : ℕ)
      → IsRead (g a) (free g) (lexemes x ts) place v end
      →
      (us : List Lexeme) × (read (lexemes x (take (length ts - place) (drop place ts))) ≡ Ok (v, us))
      × (length ts - length us ≡ end)
  found_only v end i =
      let o = only_at g a read reads (lexemes x ts) place inside v end i in
      (o.0, ap read (slice_lexemes x place ts) ⋆ o.1, ap (λ (k : ℕ). k - length o.0) (sym (long ts)) ⋆ o.2)

  one_result : (v w : A × List Lexeme) (r : Read A) → r ≡ Ok v → r ≡ Ok w → v ≡ w
  one_result v w r p q = let e = sym p ⋆ q in cc

  no_result : (v : A × List Lexeme) (f : Fault) (r : Read A) → r ≡ Ok v → r ≡ Err f → ⊥
  no_result v f r p q = let e = sym p ⋆ q in absurd cc

  pub same_found : (v w : A) (rest : List Token) (end : ℕ)
      → read (lexemes x (take (length ts - place) (drop place ts))) ≡ Ok (v, lexemes x rest)
      → IsRead (g a) (free g) (lexemes x ts) place w end
      → (v ≡ w) × (length ts - length rest ≡ end)
  same_found v w rest end e i =
      let o = found_only w end i in
      let p = one_result (v, lexemes x rest) (w, o.0) (read (lexemes x (take (length ts - place) (drop place ts)))) e
      o.1 in (
        ap (λ (y : A × List Lexeme). y.0) p,
        ap (λ (k : ℕ). length ts - k) (sym (long rest))
            ⋆ ap (λ (y : A × List Lexeme). length ts - length y.1) p ⋆ o.2,
      )

  pub never_found : (f : Fault) (w : A) (end : ℕ)
      → read (lexemes x (take (length ts - place) (drop place ts))) ≡ Err f
      → IsRead (g a) (free g) (lexemes x ts) place w end
      → ⊥
  never_found f w end e i = let o = found_only w end i in no_result (w, o.0) f
      (read (lexemes x (take (length ts - place) (drop place ts)))) o.1 e

  -- what is read comes before a lexeme that can't continue it
  pub stopped : (v : A) (rest : List Token)
      → read (lexemes x (take (length ts - place) (drop place ts))) ≡ Ok (v, lexemes x rest)
      → 1 ≤ length rest
      → Ends g a (lexemes x ts) place (length ts - length rest)
  stopped v rest e some =
      let same : length (lexemes x ts) - length (lexemes x rest) ≡ length ts - length rest =
      ap (λ (k : ℕ). k - length (lexemes x rest)) (long ts) ⋆ ap (λ (k : ℕ). length ts - k) (long rest) in
      subst (λ (k : ℕ). Ends g a (lexemes x ts) place k) same
      (ended_at g a read reads (lexemes x ts) place inside (v, lexemes x rest) (read_at (Ok (v, lexemes x rest)) e)
      (omega (arith, long rest, some)))

module _ {A : Type 0} (read : Reader A) (x : List ℕ) (ts : List Token) where
  -- the slice from the first token on has all tokens
  pub from_whole : (r : Read A) → read (lexemes x ts) ≡ r → read (lexemes x (take (length ts - 0) (drop 0 ts))) ≡ r
  from_whole r e = ap (λ (l : List Token). read (lexemes x l)) (from_slice 0 ts) ⋆ e
