-- Any number of parts, one after the other.
use Rattle.std.proofs.Common.{◌≡◌, ℕ, zero, suc, ◌≤◌, ◌⊎◌, inl, inr, Bool, true, false, List, [], ◌∷◌, ◌++◌, length, Ok, Err, refl, sym, ap, subst, ◌∙◌ as ◌⋆◌, append_assoc, arith, length-append}
use Rattle.std.proofs.lemmas.List.{append-nil}
use Rattle.grammar.specs.Lexeme.{Lexeme}
use Rattle.grammar.specs.Grammar.{Grammar, IsMany, many}
use Rattle.grammar.specs.Reading.{Limit, Fault, Unexpected, Beyond, Read, Reader, ◌>>=◌, with_front, goes_on_if, many_at}
use Rattle.grammar.specs.Laws.{nowhere, Sound, Follows, Passes, ReadsAs, Finds, passes_on, passes_made}
use Rattle.grammar.specs.Lists.{IsSolid, head_is}
use Rattle.grammar.specs.Loops.{regroup}

goes_is : {A : Type 0} (P : Read (List A) → Type 0) (b : Bool) (ts : List Lexeme) (r : Read (List A))
    → (b ≡ true → P r)
    → (b ≡ false → P (Ok ([], ts)))
    → P (goes_on_if b ts r)
goes_is P true ts r p q = p refl
goes_is P false ts r p q = q refl

opposite : (b : Bool) → b ≡ true → b ≡ false → ⊥
opposite b p q = let e = sym p ⋆ q in absurd cc

abbrev next : {A : Type 0} → Read A → (List Lexeme → Read (List A)) → Read (List A)
next r more = r >>= λ x. more x.1 >>= λ xs. Ok (x.0 ∷ xs.0, xs.1)

-- ---- what is read is in the grammar

module _ (over : Limit → ℕ) {A : Type 0} (a : Grammar A) where
  first_sound : (ts rest : List Lexeme) (x : A) (u : List Lexeme)
      → ts ≡ u ++ rest
      → a.Is x u
      → (r : Read (List A))
      → Sound over (many a) rest r
      → Sound over (many a) ts (r >>= λ xs. Ok (x ∷ xs.0, xs.1))
  first_sound ts rest x u e h (Ok xs) s =
      (u ++ s.0, e ⋆ ap (λ (l : List Lexeme). u ++ l) s.1 ⋆ sym (append_assoc u s.0 xs.1), (u, s.0, refl, h, s.2))
  first_sound ts rest x u e h (Err g) (v, back, q, n, (xs, v1, v2, p, hxs, hv2)) = (
    u ++ v,
    back,
    e ⋆ ap (λ (l : List Lexeme). u ++ l) q ⋆ sym (append_assoc u v back),
    n,
    (x ∷ xs, u ++ v1, v2, ap (λ (l : List Lexeme). u ++ l) p ⋆ sym (append_assoc u v1 v2), (u, v1, refl, h, hxs), hv2),
  )

  one_sound : (ts : List Lexeme) (r : Read A) (more : Reader (List A))
      → Sound over a ts r
      → ((us : List Lexeme) → Sound over (many a) us (more us))
      → Sound over (many a) ts (next r more)
  one_sound ts (Ok x) more s sm = first_sound ts x.1 x.0 s.0 s.1 s.2 (more x.1) (sm x.1)
  one_sound ts (Err g) more s sm = (s.0, s.1, s.2, s.3, ([], [], s.0, refl, refl, s.4))

  pub many_sound : (begins : Lexeme → Bool) (read : Reader A)
      → ((us : List Lexeme) → Sound over a us (read us))
      → (k : ℕ) (ts : List Lexeme)
      → Sound over (many a) ts (many_at begins read k ts)
  unfolding many_at
  many_sound begins read s zero ts = ([], refl, refl)
  many_sound begins read s (suc k) [] = ([], refl, refl)
  many_sound begins read s (suc k) (t ∷ ts) =
      goes_is (Sound over (many a) (t ∷ ts)) (begins t) (t ∷ ts) (next (read (t ∷ ts)) (many_at begins read k))
      (λ e. one_sound (t ∷ ts) (read (t ∷ ts)) (many_at begins read k) (s (t ∷ ts)) (many_sound begins read s k))
      (λ e. ([], refl, refl))

-- ---- no prefix is refused, and each whole is read

module _ {A : Type 0} (within : Limit → Type 0) (a : Grammar A) (starts ends ends' : Lexeme → Bool) (read : Reader A)
    (fa : Finds within a starts ends read) (solid : IsSolid a) (apart : (t : Lexeme) → starts t ≡ true → ends t ≡ false)
    (es : (t : Lexeme) → ends' t ≡ false → starts t ≡ false) (ee : (t : Lexeme) → ends' t ≡ false → ends t ≡ false)
  where
    one_passes : (us : List Lexeme) (r : Read A) (more : Reader (List A))
        → ((vs : List Lexeme) → Passes within vs (more vs))
        → Passes within us r
        → Passes within us (next r more)
    one_passes us (Ok x) more all h = passes_on within us x.1 _ h
        (passes_made within x.1 (more x.1) (λ xs. x.0 ∷ xs) (all x.1))
    one_passes us (Err (Unexpected n)) more all h = h
    one_passes us (Err (Beyond l n)) more all h = h

    many_shrink : (k : ℕ) (ts : List Lexeme) → Passes within ts (many_at starts read k ts)
    unfolding many_at
    many_shrink zero ts = omega arith
    many_shrink (suc k) [] = omega arith
    many_shrink (suc k) (t ∷ ts) =
        goes_is (Passes within (t ∷ ts)) (starts t) (t ∷ ts) (next (read (t ∷ ts)) (many_at starts read k))
        (λ e. one_passes (t ∷ ts) (read (t ∷ ts)) (many_at starts read k) (many_shrink k)
        (fa.front [] (t ∷ ts) fa.nil)) (λ e. le (t ∷ ts))
      where
        le : (us : List Lexeme) → length us ≤ length us
        le us = omega arith

    -- if a part is read, and the rest passes, both pass
    reads_as_more : (x : A) (us vs : List Lexeme) (r : Read A) (more : Reader (List A))
        → ReadsAs within r x vs
        → Passes within us (more vs)
        → Passes within us (next r more)
    reads_as_more x us vs r more (inl e) h =
        subst (λ (q : Read A). Passes within us (next q more)) (sym e)
        (passes_made within us (more vs) (λ xs. x ∷ xs) h)
    reads_as_more x us vs r more (inr w) h = subst (λ (q : Read A). Passes within us (next q more)) (sym w.2) (inr w.1)

    -- a whole begins with a lexeme with which a part can begin
    is_begun : (x : A) (u : List Lexeme) → a.Is x u → (t : Lexeme) × (w : List Lexeme) × (u ≡ t ∷ w) × (starts t ≡ true)
    is_begun x [] h = absurd (solid.no_empty x h)
    is_begun x (t ∷ w) h = (t, w, refl, fa.first t w (fa.part x (t ∷ w) h))

    -- a prefix is empty, or begins with such a lexeme
    begun : (xs : List A) (u v : List Lexeme)
        → IsMany a xs u
        → a.IsPrefix v
        → (u ++ v ≡ []) ⊎ ((t : Lexeme) × (w : List Lexeme) × (u ++ v ≡ t ∷ w) × (starts t ≡ true))
    begun [] u [] h g = inl (append-nil u ⋆ h)
    begun [] u (t ∷ v) h g = inr (t, v, ap (λ (l : List Lexeme). l ++ t ∷ v) h, fa.first t v g)
    begun (x ∷ xs) u v (p, q, e, hp, hq) g =
        let b = is_begun x p hp in
        inr (b.0, (b.1 ++ q) ++ v, ap (λ (l : List Lexeme). l ++ v) (e ⋆ ap (λ (l : List Lexeme). l ++ q) b.2), b.3)

    follows_start : (t : Lexeme) (ts w : List Lexeme) → ts ≡ t ∷ w → starts t ≡ true → Follows ends ts
    follows_start t ts w e s = subst (Follows ends) (sym e) (apart t s)

    -- one more part, for which there is fuel
    at_start : (P : Read (List A) → Type 0) (k : ℕ) (t : Lexeme) (rest ts : List Lexeme)
        → length ts ≤ k
        → ts ≡ t ∷ rest
        → starts t ≡ true
        → ((j : ℕ) → length rest ≤ j → P (next (read ts) (many_at starts read j)))
        → P (many_at starts read k ts)
    unfolding many_at
    at_start P zero t rest ts le e s go = absurd (omega (arith, ap length e))
    at_start P (suc k) t rest ts le e s go =
        subst (λ (l : List Lexeme). P (many_at starts read (suc k) l)) (sym e)
        (goes_is P (starts t) (t ∷ rest) (next (read (t ∷ rest)) (many_at starts read k))
        (λ b. subst (λ (l : List Lexeme). P (next (read l) (many_at starts read k))) e
        (go k (omega (arith, ap length e)))) (λ b. absurd (opposite (starts t) s b)))

    many_front : (k : ℕ) (xs : List A) (u v us : List Lexeme)
        → length ((u ++ v) ++ us) ≤ k
        → IsMany a xs u
        → a.IsPrefix v
        → Passes within us (many_at starts read k ((u ++ v) ++ us))
    many_front k [] u [] us le h g = subst (λ (l : List Lexeme). Passes within us (many_at starts read k (l ++ us)))
        (sym (append-nil u ⋆ h)) (many_shrink k us)
    many_front k [] u (t ∷ w) us le h g =
        at_start (Passes within us) k t (w ++ us) ((u ++ t ∷ w) ++ us) le
        (ap (λ (l : List Lexeme). (l ++ t ∷ w) ++ us) h) (fa.first t w g)
        (λ j lj. subst (λ (l : List Lexeme). Passes within us (next (read l) (many_at starts read j)))
        (sym (ap (λ (l : List Lexeme). (l ++ t ∷ w) ++ us) h))
        (one_passes us (read (t ∷ (w ++ us))) (many_at starts read j) (many_shrink j) (fa.front (t ∷ w) us g)))
    many_front k (x ∷ xs) u v us le (p, q, e, hp, hq) g =
        let b = is_begun x p hp in
        let whole : (u ++ v) ++ us ≡ p ++ ((q ++ v) ++ us) =
        ap (λ (l : List Lexeme). (l ++ v) ++ us) e ⋆ ap (λ (l : List Lexeme). l ++ us) (append_assoc p q v)
        ⋆ append_assoc p (q ++ v) us in
        let shape : (u ++ v) ++ us ≡ b.0 ∷ (b.1 ++ ((q ++ v) ++ us)) = whole
        ⋆ ap (λ (l : List Lexeme). l ++ ((q ++ v) ++ us)) b.2 in
        at_start (Passes within us) k b.0 (b.1 ++ ((q ++ v) ++ us)) ((u ++ v) ++ us) le shape b.3
        (λ j lj. subst (λ (l : List Lexeme). Passes within us (next (read l) (many_at starts read j))) (sym whole)
        (elim (begun xs q v hq g) [
          | inl n ↦ subst (λ (l : List Lexeme). Passes within us (next (read (p ++ (l ++ us))) (many_at starts read j)))
              (sym n)
              (one_passes us (read (p ++ us)) (many_at starts read j) (many_shrink j) (fa.front p us (fa.part x p hp)))
          | inr (t, w, n, s) ↦ reads_as_more x us ((q ++ v) ++ us) (read (p ++ ((q ++ v) ++ us)))
              (many_at starts read j)
              (fa.whole x p ((q ++ v) ++ us) hp
              (follows_start t ((q ++ v) ++ us) (w ++ us) (ap (λ (l : List Lexeme). l ++ us) n) s))
              (many_front j xs q v us (omega (arith, length-append b.1 ((q ++ v) ++ us))) hq g)
        ]))

    no_more : (k : ℕ) (us : List Lexeme) → Follows ends' us → many_at starts read k us ≡ Ok ([], us)
    unfolding many_at
    no_more zero us f = refl
    no_more (suc k) [] f = refl
    no_more (suc k) (t ∷ us) f = goes_is (λ (r : Read (List A)). r ≡ Ok ([], t ∷ us)) (starts t) (t ∷ us)
        (next (read (t ∷ us)) (many_at starts read k)) (λ e. absurd (opposite (starts t) e (es t f))) (λ e. refl)

    last_ends : (us : List Lexeme) → Follows ends' us → Follows ends us
    last_ends [] f = tt
    last_ends (t ∷ us) f = ee t f

    follows_many : (xs : List A) (u us : List Lexeme) → IsMany a xs u → Follows ends' us → Follows ends (u ++ us)
    follows_many [] u us h f = subst (λ (l : List Lexeme). Follows ends (l ++ us)) (sym h) (last_ends us f)
    follows_many (x ∷ xs) u us (p, q, e, hp, hq) f =
        let b = is_begun x p hp in
        follows_start b.0 (u ++ us) ((b.1 ++ q) ++ us)
        (ap (λ (l : List Lexeme). l ++ us) (e ⋆ ap (λ (l : List Lexeme). l ++ q) b.2)) b.3

    reads_as_both : (x : A) (xs : List A) (us vs : List Lexeme) (r : Read A) (more : Reader (List A))
        → ReadsAs within r x vs
        → ReadsAs within (more vs) xs us
        → ReadsAs within (next r more) (x ∷ xs) us
    reads_as_both x xs us vs r more (inl e) (inl h) =
        inl (ap (λ (r : Read A). next r more) e ⋆ ap (λ (s : Read (List A)). s >>= λ xs. Ok (x ∷ xs.0, xs.1)) h)
    reads_as_both x xs us vs r more (inl e) (inr h) =
        inr (
          h.0,
          h.1,
          ap (λ (r : Read A). next r more) e
              ⋆ ap (λ (s : Read (List A)). s >>= λ xs. Ok (x ∷ xs.0, xs.1)) h.2,
        )
    reads_as_both x xs us vs r more (inr w) h = inr (w.0, w.1, ap (λ (r : Read A). next r more) w.2)

    many_whole : (k : ℕ) (xs : List A) (u us : List Lexeme)
        → length (u ++ us) ≤ k
        → IsMany a xs u
        → Follows ends' us
        → ReadsAs within (many_at starts read k (u ++ us)) xs us
    many_whole k [] u us le h f = subst (λ (l : List Lexeme). ReadsAs within (many_at starts read k (l ++ us)) [] us)
        (sym h) (inl (no_more k us f))
    many_whole k (x ∷ xs) u us le (p, q, e, hp, hq) f =
        let b = is_begun x p hp in
        let whole : u ++ us ≡ p ++ (q ++ us) = ap (λ (l : List Lexeme). l ++ us) e ⋆ append_assoc p q us in
        let shape : u ++ us ≡ b.0 ∷ (b.1 ++ (q ++ us)) = whole ⋆ ap (λ (l : List Lexeme). l ++ (q ++ us)) b.2 in
        at_start (λ (r : Read (List A)). ReadsAs within r (x ∷ xs) us) k b.0 (b.1 ++ (q ++ us)) (u ++ us) le shape b.3
        (λ j lj. subst (λ (l : List Lexeme). ReadsAs within (next (read l) (many_at starts read j)) (x ∷ xs) us)
        (sym whole) (reads_as_both x xs us (q ++ us) (read (p ++ (q ++ us))) (many_at starts read j)
        (fa.whole x p (q ++ us) hp (follows_many xs q us hq f))
        (many_whole j xs q us (omega (arith, length-append b.1 (q ++ us))) hq f)))

    pub many_finds : Finds within (many a) starts ends' (λ us. many_at starts read (length us) us)
    many_finds = record {
      nil = ([], [], [], refl, refl, fa.nil);
      part = λ xs u h. (xs, u, [], sym (append-nil u), h, fa.nil);
      first = first;
      whole = λ xs u us h f. many_whole (length (u ++ us)) xs u us (omega arith) h f;
      front = λ u us h. subst (λ (l : List Lexeme). Passes within us (many_at starts read (length (l ++ us)) (l ++ us)))
          (sym h.3) (many_front (length ((h.1 ++ h.2) ++ us)) h.0 h.1 h.2 us (omega arith) h.4 h.5);
    }
      where
        nothing_is : (t : Lexeme) (u : List Lexeme) → t ∷ u ≡ [] → ⊥
        nothing_is t u e = absurd cc

        first : (t : Lexeme) (u : List Lexeme) → (many a).IsPrefix (t ∷ u) → starts t ≡ true
        first t u (xs, v, w, e, hv, hw) = elim (begun xs v w hv hw) [
          | inl n ↦ absurd (nothing_is t u (e ⋆ n))
          | inr (s, y, n, q) ↦ subst (λ (t : Lexeme). starts t ≡ true) (sym (head_is t s u y (e ⋆ n))) q
        ]

-- ---- what a loop guarantees

-- a reader takes at least one lexeme
pub record Consumes {A : Type 0} (read : Reader A) : Type 0 where
  pub shorter : (ts : List Lexeme) (x : A × List Lexeme) → read ts ≡ Ok x → suc (length x.1) ≤ length ts

pub consumes : {A : Type 0} (a : Grammar A) (read : Reader A)
    → IsSolid a
    → ((ts : List Lexeme) → Sound nowhere a ts (read ts))
    → Consumes read
consumes {A} a read solid s = record { shorter = λ ts x e. go ts (subst (Sound nowhere a ts) e (s ts)) }
  where
    go : {x : A × List Lexeme} (ts : List Lexeme) → Sound nowhere a ts (Ok x) → suc (length x.1) ≤ length ts
    go {x} ts ([], e, h) = absurd (solid.no_empty x.0 h)
    go {x} ts (t ∷ u, e, h) = omega (arith, ap length e, length-append u x.1)

same_next : {A : Type 0} (r : Read A) (f g : Reader (List A))
    → ((x : A × List Lexeme) → r ≡ Ok x → f x.1 ≡ g x.1)
    → next r f ≡ next r g
same_next (Ok x) f g h = ap (λ (s : Read (List _)). s >>= λ xs. Ok (x.0 ∷ xs.0, xs.1)) (h x refl)
same_next (Err e) f g h = refl

any_fuel : {A : Type 0} (begins : Lexeme → Bool) (read : Reader A)
    → Consumes read
    → (k j : ℕ) (ts : List Lexeme)
    → length ts ≤ k
    → length ts ≤ j
    → many_at begins read k ts ≡ many_at begins read j ts
unfolding many_at
any_fuel begins read s zero zero ts p q = refl
any_fuel begins read s zero (suc j) [] p q = refl
any_fuel begins read s zero (suc j) (t ∷ ts) p q = absurd (omega arith)
any_fuel begins read s (suc k) zero [] p q = refl
any_fuel begins read s (suc k) zero (t ∷ ts) p q = absurd (omega arith)
any_fuel begins read s (suc k) (suc j) [] p q = refl
any_fuel begins read s (suc k) (suc j) (t ∷ ts) p q =
    ap (goes_on_if (begins t) (t ∷ ts)) (same_next (read (t ∷ ts)) (many_at begins read k) (many_at begins read j)
    (λ x e. let le = s.shorter (t ∷ ts) x e in any_fuel begins read s k j x.1 (omega arith) (omega arith)))

-- whether a part begins here
abbrev pub is_begun_by : (Lexeme → Bool) → List Lexeme → Bool
is_begun_by begins [] = false
is_begun_by begins (t ∷ ts) = begins t

goes_true : {A : Type 0} (b : Bool) (ts : List Lexeme) (r : Read (List A)) → b ≡ true → goes_on_if b ts r ≡ r
goes_true true ts r e = refl
goes_true false ts r e = absurd cc

goes_false : {A : Type 0} (b : Bool) (ts : List Lexeme) (r : Read (List A))
    → b ≡ false
    → goes_on_if b ts r ≡ Ok ([], ts)
goes_false true ts r e = absurd cc
goes_false false ts r e = refl

pub many_more : {A : Type 0} (begins : Lexeme → Bool) (read : Reader A)
    → Consumes read
    → (ts : List Lexeme) (x : A × List Lexeme) (front : List A) (total : Read (List A))
    → is_begun_by begins ts ≡ true
    → read ts ≡ Ok x
    → with_front front (many_at begins read (length ts) ts) ≡ total
    → with_front (front ++ x.0 ∷ []) (many_at begins read (length x.1) x.1) ≡ total
unfolding many_at
many_more begins read s [] x front total b r h = absurd cc
many_more begins read s (t ∷ ts) x front total b r h =
    let le = s.shorter (t ∷ ts) x r in
    let fuel = any_fuel begins read s (length ts) (length x.1) x.1 (omega arith) (omega arith) in
    let one : many_at begins read (length (t ∷ ts)) (t ∷ ts) ≡ (many_at begins read (length x.1) x.1 >>= λ xs. Ok
    (x.0 ∷ xs.0, xs.1)) =
    goes_true (begins t) (t ∷ ts) (next (read (t ∷ ts)) (many_at begins read (length ts))) b
    ⋆ ap (λ (q : Read _). next q (many_at begins read (length ts))) r
    ⋆ ap (λ (q : Read (List _)). q >>= λ xs. Ok (x.0 ∷ xs.0, xs.1)) fuel in
    sym (ap (with_front front) one ⋆ regroup front x.0 (many_at begins read (length x.1) x.1)) ⋆ h

pub many_end : {A : Type 0} (begins : Lexeme → Bool) (read : Reader A) (ts : List Lexeme) (front : List A)
    (total : Read (List A))
    → is_begun_by begins ts ≡ false
    → with_front front (many_at begins read (length ts) ts) ≡ total
    → total ≡ Ok (front, ts)
unfolding many_at
many_end begins read [] front total b h = sym h ⋆ ap (λ (l : List _). Ok (l, [])) (append-nil front)
many_end begins read (t ∷ ts) front total b h =
    sym h
    ⋆ ap (with_front front) (goes_false (begins t) (t ∷ ts) (next (read (t ∷ ts)) (many_at begins read (length ts)))
    b) ⋆ ap (λ (l : List _). Ok (l, t ∷ ts)) (append-nil front)

pub many_fail : {A : Type 0} (begins : Lexeme → Bool) (read : Reader A) (ts : List Lexeme) (f : Fault) (front : List A)
    (total : Read (List A))
    → is_begun_by begins ts ≡ true
    → read ts ≡ Err f
    → with_front front (many_at begins read (length ts) ts) ≡ total
    → total ≡ Err f
unfolding many_at
many_fail begins read [] f front total b r h = absurd cc
many_fail begins read (t ∷ ts) f front total b r h =
    sym h
    ⋆ ap (with_front front) (goes_true (begins t) (t ∷ ts) (next (read (t ∷ ts)) (many_at begins read (length ts)))
    b ⋆ ap (λ (q : Read _). next q (many_at begins read (length ts))) r)
