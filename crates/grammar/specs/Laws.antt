-- What a reader guarantees for a grammar, and that a sequence of productions keeps it.
use Rattle.std.proofs.Common.{◌≡◌, ℕ, zero, suc, ◌≤◌, ◌⊎◌, inl, inr, Bool, true, false, List, [], ◌∷◌, ◌++◌, length, Ok, Err, refl, sym, ap, subst, ◌∙◌ as ◌⋆◌, append_assoc, arith, length-append}
use Rattle.std.proofs.lemmas.List.{append-nil}
use Rattle.text.specs.declared.token.Mark.TheVariants.{Comma}
use Rattle.grammar.specs.Lexeme.{Lexeme, Mark}
use Rattle.grammar.specs.Grammar.{Grammar, ◌∙◌, ◌⇒◌, IsMany, many, preceded}
use Rattle.grammar.specs.Reading.{Limit, Nesting, Integer, TagNumber, Fault, Unexpected, Beyond, Read, Reader, ◌>>=◌, after_commas_at}

-- The number of lexemes from the fault on.
abbrev pub left_of : Fault → ℕ
left_of (Unexpected n) = n
left_of (Beyond l n) = n

-- the number of lexemes from a fault on, if n are after it, or after the lexeme that passes a limit
abbrev pub more : ℕ → ℕ → ℕ
more zero n = n
more (suc over) n = suc n

-- The number of lexemes from a fault on, if n lexemes are after the prefix that can continue. If `over` is 1 at a
-- limit, the prefix includes the lexeme that passes the limit.
abbrev pub more_than : Fault → (Limit → ℕ) → ℕ → ℕ
more_than (Unexpected k) over n = n
more_than (Beyond l k) over n = more (over l) n

-- each fault is before the lexeme that passes a limit
abbrev pub nowhere : Limit → ℕ
nowhere l = 0

-- The fault is after that lexeme for nesting (`deeper`), for numbers (`wider`), or for the numbers of tags (`higher`).
abbrev pub deeper : Limit → ℕ
deeper Nesting = 1
deeper Integer = 0
deeper TagNumber = 0

abbrev pub wider : Limit → ℕ
wider Nesting = 0
wider Integer = 1
wider TagNumber = 0

abbrev pub higher : Limit → ℕ
higher Nesting = 0
higher Integer = 0
higher TagNumber = 1

-- the fault of this one limit is after the lexeme that passes it
abbrev pub past : Limit → Limit → ℕ
past Nesting = deeper
past Integer = wider
past TagNumber = higher

-- all is within each limit
abbrev pub everywhere : Limit → Type 0
everywhere l = Unit {0}

-- What is read is in the grammar, and the lexemes before a fault are a prefix that can continue.
abbrev pub Sound : {A : Type 0} → (Limit → ℕ) → Grammar A → List Lexeme → Read A → Type 0
Sound over g ts (Ok x) = (u : List Lexeme) × (ts ≡ u ++ x.1) × g.Is x.0 u
Sound over g ts (Err f) =
    (u rest : List Lexeme) × (ts ≡ u ++ rest) × (left_of f ≡ more_than f over (length rest)) × g.IsPrefix u

-- the next lexeme can't continue what comes before it
abbrev pub Follows : (Lexeme → Bool) → List Lexeme → Type 0
Follows ends [] = Unit {0}
Follows ends (t ∷ us) = ends t ≡ false

-- The reading has come to the lexemes us, or has passed a limit. If all is within that limit, it has come to us.
abbrev pub Passes : {A : Type 0} → (Limit → Type 0) → List Lexeme → Read A → Type 0
Passes within us (Ok x) = length x.1 ≤ length us
Passes within us (Err (Unexpected n)) = n ≤ length us
Passes within us (Err (Beyond l n)) = (n ≤ length us) ⊎ (within l → ⊥)

abbrev pub ReadsAs : {A : Type 0} → (Limit → Type 0) → Read A → A → List Lexeme → Type 0
ReadsAs within r x us = (r ≡ Ok (x, us)) ⊎ ((p : Limit × ℕ) × (within p.0 → ⊥) × (r ≡ Err (Beyond p.0 p.1)))

-- Each whole is read, and no prefix is refused.
pub record Finds {A : Type 0} (within : Limit → Type 0) (g : Grammar A) (starts ends : Lexeme → Bool)
    (read : Reader A) : Type 0 where
  pub nil : g.IsPrefix []
  pub part : (x : A) (u : List Lexeme) → g.Is x u → g.IsPrefix u
  pub first : (t : Lexeme) (u : List Lexeme) → g.IsPrefix (t ∷ u) → starts t ≡ true
  pub whole : (x : A) (u us : List Lexeme) → g.Is x u → Follows ends us → ReadsAs within (read (u ++ us)) x us
  pub front : (u us : List Lexeme) → g.IsPrefix u → Passes within us (read (u ++ us))

-- ---- a sequence

-- the reader of a sequence
abbrev pub then_read : {A B C : Type 0} → (A × B → C) → Reader A → Reader B → Reader C
then_read f ra rb ts = ra ts >>= λ x. rb x.1 >>= λ y. Ok (f (x.0, y.0), y.1)

abbrev pub after_read : {A B C : Type 0} → (A × B → C) → Read A → Reader B → Read C
after_read f r rb = r >>= λ x. rb x.1 >>= λ y. Ok (f (x.0, y.0), y.1)

module _ (over : Limit → ℕ) {A B C : Type 0} (a : Grammar A) (b : Grammar B) (f : A × B → C) where
  second_sound : (ts rest : List Lexeme) (x : A) (u : List Lexeme)
      → ts ≡ u ++ rest
      → a.Is x u
      → (r : Read B)
      → Sound over b rest r
      → Sound over ((a ∙ b) ⇒ f) ts (r >>= λ y. Ok (f (x, y.0), y.1))
  second_sound ts rest x u e h (Ok y) s = (
    u ++ s.0,
    e ⋆ ap (λ (l : List Lexeme). u ++ l) s.1
        ⋆ sym (append_assoc u s.0 y.1),
    ((x, y.0), refl, (u, s.0, refl, h, s.2)),
  )
  second_sound ts rest x u e h (Err g) s = (
    u ++ s.0,
    s.1,
    e ⋆ ap (λ (l : List Lexeme). u ++ l) s.2
        ⋆ sym (append_assoc u s.0 s.1),
    s.3,
    inr (x, u, s.0, refl, h, s.4),
  )

  pub seq_sound : (ts : List Lexeme) (ra : Read A) (rb : Reader B)
      → Sound over a ts ra
      → ((us : List Lexeme) → Sound over b us (rb us))
      → Sound over ((a ∙ b) ⇒ f) ts (after_read f ra rb)
  seq_sound ts (Ok x) rb sa sb = second_sound ts x.1 x.0 sa.0 sa.1 sa.2 (rb x.1) (sb x.1)
  seq_sound ts (Err g) rb sa sb = (sa.0, sa.1, sa.2, sa.3, inl sa.4)

-- a result that has come to the lexemes vs has come to any list us that is at least as long
pub passes_on : {A : Type 0} (within : Limit → Type 0) (us vs : List Lexeme) (r : Read A)
    → length vs ≤ length us
    → Passes within vs r
    → Passes within us r
passes_on within us vs (Ok x) le h = omega arith
passes_on within us vs (Err (Unexpected n)) le h = omega arith
passes_on within us vs (Err (Beyond l n)) le (inl h) = inl (omega arith)
passes_on within us vs (Err (Beyond l n)) le (inr h) = inr h

pub passes_made : {A B : Type 0} (within : Limit → Type 0) (us : List Lexeme) (r : Read A) (f : A → B)
    → Passes within us r
    → Passes within us (r >>= λ y. Ok (f y.0, y.1))
passes_made within us (Ok x) f h = h
passes_made within us (Err (Unexpected n)) f h = h
passes_made within us (Err (Beyond l n)) f h = h

module _ {A B C : Type 0} (within : Limit → Type 0) (a : Grammar A) (b : Grammar B) (f : A × B → C)
    (starts-a ends-a starts-b ends-b ends : Lexeme → Bool) (ra : Reader A) (rb : Reader B)
    (fa : Finds within a starts-a ends-a ra) (fb : Finds within b starts-b ends-b rb) where
  first_passes : (us : List Lexeme) (r : Read A) → Passes within us r → Passes within us (after_read f r rb)
  first_passes us (Ok x) h = passes_on within us x.1 _ h
      (passes_made within x.1 (rb x.1) (λ y. f (x.0, y)) (fb.front [] x.1 fb.nil))
  first_passes us (Err (Unexpected n)) h = h
  first_passes us (Err (Beyond l n)) h = h

  reads_as_then : (x : A) (us vs : List Lexeme) (r : Read A)
      → ReadsAs within r x vs
      → Passes within us (rb vs)
      → Passes within us (after_read f r rb)
  reads_as_then x us vs r (inl e) h =
      subst (λ (q : Read A). Passes within us (after_read f q rb)) (sym e)
      (passes_made within us (rb vs) (λ y. f (x, y)) h)
  reads_as_then x us vs r (inr w) h = subst (λ (q : Read A). Passes within us (after_read f q rb)) (sym w.2) (inr w.1)

  pub seq_front : ((t : Lexeme) → starts-b t ≡ true → ends-a t ≡ false)
      → (u us : List Lexeme)
      → (a ∙ b).IsPrefix u
      → Passes within us (then_read f ra rb (u ++ us))
  seq_front apart u us (inl h) = first_passes us (ra (u ++ us)) (fa.front u us h)
  seq_front apart u us (inr (x, v, [], e, ha, hb)) =
      first_passes us (ra (u ++ us)) (fa.front u us (subst a.IsPrefix (sym (e ⋆ append-nil v)) (fa.part x v ha)))
  seq_front apart u us (inr (x, v, t ∷ w, e, ha, hb)) =
      let go = reads_as_then x us (t ∷ (w ++ us)) (ra (v ++ t ∷ (w ++ us)))
      (fa.whole x v (t ∷ (w ++ us)) ha (apart t (fb.first t w hb))) (fb.front (t ∷ w) us hb) in
      subst (λ (l : List Lexeme). Passes within us (then_read f ra rb l))
      (sym (ap (λ (l : List Lexeme). l ++ us) e ⋆ append_assoc v (t ∷ w) us)) go

  second_reads_as : (x : A) (y : B) (us vs : List Lexeme) (r : Read A) (s : Read B)
      → rb vs ≡ s
      → ReadsAs within r x vs
      → ReadsAs within s y us
      → ReadsAs within (after_read f r rb) (f (x, y)) us
  second_reads_as x y us vs r s q (inl e) (inl h) =
      inl (ap (λ (r : Read A). after_read f r rb) e ⋆ ap (λ (s : Read B). s >>= λ y. Ok (f (x, y.0), y.1)) (q ⋆ h))
  second_reads_as x y us vs r s q (inl e) (inr h) =
      inr (
        h.0,
        h.1,
        ap (λ (r : Read A). after_read f r rb) e
            ⋆ ap (λ (s : Read B). s >>= λ y. Ok (f (x, y.0), y.1)) (q ⋆ h.2),
      )
  second_reads_as x y us vs r s q (inr w) h = inr (w.0, w.1, ap (λ (r : Read A). after_read f r rb) w.2)

  pub seq_whole : ((y : B) (v us : List Lexeme) → b.Is y v → Follows ends us → Follows ends-a (v ++ us))
      → ((us : List Lexeme) → Follows ends us → Follows ends-b us)
      → (z : C) (u us : List Lexeme)
      → ((a ∙ b) ⇒ f).Is z u
      → Follows ends us
      → ReadsAs within (then_read f ra rb (u ++ us)) z us
  seq_whole after last z u us (xy, e, (v, w, p, ha, hb)) follows =
      let go = second_reads_as xy.0 xy.1 us (w ++ us) (ra (v ++ (w ++ us))) (rb (w ++ us)) refl
      (fa.whole xy.0 v (w ++ us) ha (after xy.1 w us hb follows)) (fb.whole xy.1 w us hb (last us follows)) in
      subst (λ (l : List Lexeme). ReadsAs within (then_read f ra rb l) z us)
      (sym (ap (λ (l : List Lexeme). l ++ us) p ⋆ append_assoc v w us))
      (subst (λ (c : C). ReadsAs within (then_read f ra rb (v ++ (w ++ us))) c us) (sym e) go)

  pub seq_part : (z : C) (u : List Lexeme) → ((a ∙ b) ⇒ f).Is z u → (a ∙ b).IsPrefix u
  seq_part z u (xy, e, (v, w, p, ha, hb)) = inr (xy.0, v, w, p, ha, fb.part xy.1 w hb)

abbrev pub is_comma : Lexeme → Bool
is_comma (Mark Comma) = true
is_comma t = false

-- ---- a part after a lexeme

pub preceded_is : {A : Type 0} (t : Lexeme) (a : Grammar A) (x : A) (u : List Lexeme)
    → (preceded t a).Is x u
    → (v : List Lexeme) × (u ≡ t ∷ v) × a.Is x v
preceded_is t a x u (p, e, (m, v, q, hm, hv)) =
    (v, q ⋆ ap (λ (l : List Lexeme). l ++ v) hm, subst (λ (y : _). a.Is y v) (sym e) hv)

pub is_preceded : {A : Type 0} (t : Lexeme) (a : Grammar A) (x : A) (v : List Lexeme)
    → a.Is x v
    → (preceded t a).Is x (t ∷ v)
is_preceded t a x v h = ((tt, x), refl, (t ∷ [], v, refl, refl, h))

pub preceded_front : {A : Type 0} (t : Lexeme) (a : Grammar A) (u : List Lexeme)
    → a.IsPrefix []
    → (preceded t a).IsPrefix u
    → (u ≡ []) ⊎ ((v : List Lexeme) × (u ≡ t ∷ v) × a.IsPrefix v)
preceded_front t a u nil (inl (inl e)) = inl e
preceded_front t a u nil (inl (inr (x, e))) = inr ([], e, nil)
preceded_front t a u nil (inr (x, m, v, q, hm, hv)) = inr (v, q ⋆ ap (λ (l : List Lexeme). l ++ v) hm, hv)

pub front_preceded : {A : Type 0} (t : Lexeme) (a : Grammar A) (v : List Lexeme)
    → a.IsPrefix v
    → (preceded t a).IsPrefix (t ∷ v)
front_preceded t a v h = inr (tt, t ∷ [], v, refl, refl, h)

-- ---- any number of parts, each after a comma

module _ (over : Limit → ℕ) {A : Type 0} (a : Grammar A) (read : Reader A) where
  more_sound : (ts rest : List Lexeme) (x : A) (u : List Lexeme)
      → ts ≡ u ++ rest
      → a.Is x u
      → (r : Read (List A))
      → Sound over (many (preceded (Mark Comma) a)) rest r
      → Sound over (many (preceded (Mark Comma) a)) ((Mark Comma) ∷ ts) (r >>= λ xs. Ok (x ∷ xs.0, xs.1))
  more_sound ts rest x u e h (Ok xs) s = (
    ((Mark Comma) ∷ u) ++ s.0,
    ap (λ (l : List Lexeme). (Mark Comma) ∷ l)
        (e ⋆ ap (λ (l : List Lexeme). u ++ l) s.1 ⋆ sym (append_assoc u s.0 xs.1)),
    ((Mark Comma) ∷ u, s.0, refl, is_preceded (Mark Comma) a x u h, s.2),
  )
  more_sound ts rest x u e h (Err g) (v, back, q, n, (xs, v1, v2, p, hxs, hv2)) = (
    ((Mark Comma) ∷ u) ++ v,
    back,
    ap (λ (l : List Lexeme). (Mark Comma) ∷ l) (e ⋆ ap (λ (l : List Lexeme). u ++ l) q ⋆ sym (append_assoc u v back)),
    n,
    (
      x ∷ xs,
      ((Mark Comma) ∷ u) ++ v1,
      v2,
      ap (λ (l : List Lexeme). ((Mark Comma) ∷ u) ++ l) p
          ⋆ sym (append_assoc ((Mark Comma) ∷ u) v1 v2),
      ((Mark Comma) ∷ u, v1, refl, is_preceded (Mark Comma) a x u h, hxs),
      hv2,
    ),
  )

  one_sound : (rest : List Lexeme) (r : Read A) (more : Reader (List A))
      → Sound over a rest r
      → ((us : List Lexeme) → Sound over (many (preceded (Mark Comma) a)) us (more us))
      →
      Sound over (many (preceded (Mark Comma) a)) ((Mark Comma) ∷ rest)
      (r >>= λ x. more x.1 >>= λ xs. Ok (x.0 ∷ xs.0, xs.1))
  one_sound rest (Ok x) more s sm = more_sound rest x.1 x.0 s.0 s.1 s.2 (more x.1) (sm x.1)
  one_sound rest (Err g) more s sm = (
    (Mark Comma) ∷ s.0,
    s.1,
    ap (λ (l : List Lexeme). (Mark Comma) ∷ l) s.2,
    s.3,
    ([], [], (Mark Comma) ∷ s.0, refl, refl, front_preceded (Mark Comma) a s.0 s.4),
  )

  pub commas_sound : ((us : List Lexeme) → Sound over a us (read us))
      → (k : ℕ) (ts : List Lexeme)
      → Sound over (many (preceded (Mark Comma) a)) ts (after_commas_at read k ts)
  unfolding after_commas_at
  commas_sound s zero ts = ([], refl, refl)
  commas_sound s (suc k) [] = ([], refl, refl)
  commas_sound s (suc k) ((Mark Comma) ∷ ts) = one_sound ts (read ts) (after_commas_at read k) (s ts) (commas_sound s k)
  commas_sound s (suc k) (t ∷ ts) = ([], refl, refl)

module _ {A : Type 0} (within : Limit → Type 0) (a : Grammar A) (starts ends : Lexeme → Bool) (read : Reader A)
    (fa : Finds within a starts ends read) where
  one_passes : (us : List Lexeme) (r : Read A) (more : Reader (List A))
      → ((vs : List Lexeme) → Passes within vs (more vs))
      → Passes within us r
      → Passes within us (r >>= λ x. more x.1 >>= λ xs. Ok (x.0 ∷ xs.0, xs.1))
  one_passes us (Ok x) more all h = passes_on within us x.1 _ h
      (passes_made within x.1 (more x.1) (λ xs. x.0 ∷ xs) (all x.1))
  one_passes us (Err (Unexpected n)) more all h = h
  one_passes us (Err (Beyond l n)) more all h = h

  -- a loop over commas leaves at most the lexemes that it was given
  pub commas_shrink : (k : ℕ) (ts : List Lexeme) → Passes within ts (after_commas_at read k ts)
  unfolding after_commas_at
  commas_shrink zero ts = omega arith
  commas_shrink (suc k) [] = omega arith
  commas_shrink (suc k) ((Mark Comma) ∷ ts) = passes_on within ((Mark Comma) ∷ ts) ts _ (omega arith)
      (one_passes ts (read ts) (after_commas_at read k) (commas_shrink k) (fa.front [] ts fa.nil))
  commas_shrink (suc k) (t ∷ ts) = omega arith

  -- if a part is read, and the rest passes, both pass
  reads_as_more : (x : A) (us vs : List Lexeme) (r : Read A) (more : Reader (List A))
      → ReadsAs within r x vs
      → Passes within us (more vs)
      → Passes within us (r >>= λ x. more x.1 >>= λ xs. Ok (x.0 ∷ xs.0, xs.1))
  reads_as_more x us vs r more (inl e) h =
      subst (λ (q : Read A). Passes within us (q >>= λ x. more x.1 >>= λ xs. Ok (x.0 ∷ xs.0, xs.1))) (sym e)
      (passes_made within us (more vs) (λ xs. x ∷ xs) h)
  reads_as_more x us vs r more (inr w) h =
      subst (λ (q : Read A). Passes within us (q >>= λ x. more x.1 >>= λ xs. Ok (x.0 ∷ xs.0, xs.1))) (sym w.2) (inr w.1)

  -- a prefix of parts after commas is empty, or begins with a comma
  pub begins : (xs : List A) (u v : List Lexeme)
      → IsMany (preceded (Mark Comma) a) xs u
      → (preceded (Mark Comma) a).IsPrefix v
      → (u ++ v ≡ []) ⊎ ((w : List Lexeme) × (u ++ v ≡ (Mark Comma) ∷ w))
  begins [] u v h g = elim (preceded_front (Mark Comma) a v fa.nil g) [
    | inl e ↦ inl (ap (λ (l : List Lexeme). l ++ v) h ⋆ e)
    | inr (w, e, hw) ↦ inr (w, ap (λ (l : List Lexeme). l ++ v) h ⋆ e)
  ]
  begins (x ∷ xs) u v (p, q, e, hp, hq) g =
      let b = preceded_is (Mark Comma) a x p hp in
      inr ((b.0 ++ q) ++ v, ap (λ (l : List Lexeme). l ++ v) (e ⋆ ap (λ (l : List Lexeme). l ++ q) b.1))

  -- one more comma, for which there is fuel
  at_comma : (k : ℕ) (rest us ts : List Lexeme)
      → length ts ≤ k
      → ts ≡ (Mark Comma) ∷ rest
      →
      ((j : ℕ) → length rest ≤ j → Passes within us
      (read rest >>= λ x. after_commas_at read j x.1 >>= λ xs. Ok (x.0 ∷ xs.0, xs.1)))
      → Passes within us (after_commas_at read k ts)
  unfolding after_commas_at
  at_comma zero rest us ts le e go = absurd (omega (arith, ap length e))
  at_comma (suc k) rest us ts le e go = subst (λ (l : List Lexeme). Passes within us (after_commas_at read (suc k) l))
      (sym e) (go k (omega (arith, ap length e)))

  follows_comma : ends (Mark Comma) ≡ false → (ts w : List Lexeme) → ts ≡ (Mark Comma) ∷ w → Follows ends ts
  follows_comma apart ts w e = subst (Follows ends) (sym e) apart

  pub commas_front : ends (Mark Comma) ≡ false
      → (k : ℕ) (xs : List A) (u v us : List Lexeme)
      → length ((u ++ v) ++ us) ≤ k
      → IsMany (preceded (Mark Comma) a) xs u
      → (preceded (Mark Comma) a).IsPrefix v
      → Passes within us (after_commas_at read k ((u ++ v) ++ us))
  commas_front apart k [] u v us le h g = elim (preceded_front (Mark Comma) a v fa.nil g) [
    | inl e ↦ subst (λ (l : List Lexeme). Passes within us (after_commas_at read k (l ++ us)))
        (sym (ap (λ (l : List Lexeme). l ++ v) h ⋆ e)) (commas_shrink k us)
    | inr (w, e, hw) ↦ at_comma k (w ++ us) us _ le
        (ap (λ (l : List Lexeme). l ++ us) (ap (λ (l : List Lexeme). l ++ v) h ⋆ e))
        (λ j lj. one_passes us (read (w ++ us)) (after_commas_at read j) (commas_shrink j) (fa.front w us hw))
  ]
  commas_front apart k (x ∷ xs) u v us le (p, q, e, hp, hq) g =
      let b = preceded_is (Mark Comma) a x p hp in
      let shape : (u ++ v) ++ us ≡ (Mark Comma) ∷ (b.0 ++ ((q ++ v) ++ us)) =
      ap (λ (l : List Lexeme). (l ++ v) ++ us) (e ⋆ ap (λ (l : List Lexeme). l ++ q) b.1)
      ⋆ ap (λ (l : List Lexeme). (Mark Comma) ∷ l)
      (ap (λ (l : List Lexeme). l ++ us) (append_assoc b.0 q v) ⋆ append_assoc b.0 (q ++ v) us) in
      at_comma k (b.0 ++ ((q ++ v) ++ us)) us _ le shape (λ j lj. elim (begins xs q v hq g) [
        | inl n ↦ subst (λ (l : List Lexeme). Passes within us
            (read (b.0 ++ (l ++ us)) >>= λ x. after_commas_at read j x.1 >>= λ xs. Ok (x.0 ∷ xs.0, xs.1))) (sym n)
            (one_passes us (read (b.0 ++ us)) (after_commas_at read j) (commas_shrink j)
            (fa.front b.0 us (fa.part x b.0 b.2)))
        | inr (w, n) ↦ reads_as_more x us ((q ++ v) ++ us) (read (b.0 ++ ((q ++ v) ++ us))) (after_commas_at read j)
            (fa.whole x b.0 ((q ++ v) ++ us) b.2
            (follows_comma apart ((q ++ v) ++ us) (w ++ us) (ap (λ (l : List Lexeme). l ++ us) n)))
            (commas_front apart j xs q v us (omega (arith, length-append b.0 ((q ++ v) ++ us))) hq g)
      ])

  -- the same, for a whole
  whole_at_comma : (k : ℕ) (rest us ts : List Lexeme) (xs : List A)
      → length ts ≤ k
      → ts ≡ (Mark Comma) ∷ rest
      →
      ((j : ℕ) → length rest ≤ j → ReadsAs within
      (read rest >>= λ x. after_commas_at read j x.1 >>= λ xs. Ok (x.0 ∷ xs.0, xs.1)) xs us)
      → ReadsAs within (after_commas_at read k ts) xs us
  unfolding after_commas_at
  whole_at_comma zero rest us ts xs le e go = absurd (omega (arith, ap length e))
  whole_at_comma (suc k) rest us ts xs le e go =
      subst (λ (l : List Lexeme). ReadsAs within (after_commas_at read (suc k) l) xs us) (sym e)
      (go k (omega (arith, ap length e)))

  no_comma : (k : ℕ) (us : List Lexeme) → Follows is_comma us → after_commas_at read k us ≡ Ok ([], us)
  unfolding after_commas_at
  no_comma zero us f = refl
  no_comma (suc k) [] f = refl
  no_comma (suc k) ((Mark Comma) ∷ us) f = absurd cc
  no_comma (suc k) (t ∷ us) f = refl

  pub follows_many : ends (Mark Comma) ≡ false
      → (xs : List A) (u us : List Lexeme)
      → IsMany (preceded (Mark Comma) a) xs u
      → Follows ends us
      → Follows ends (u ++ us)
  follows_many apart [] u us h f = subst (λ (l : List Lexeme). Follows ends (l ++ us)) (sym h) f
  follows_many apart (x ∷ xs) u us (p, q, e, hp, hq) f =
      let b = preceded_is (Mark Comma) a x p hp in
      follows_comma apart (u ++ us) ((b.0 ++ q) ++ us)
      (ap (λ (l : List Lexeme). l ++ us) (e ⋆ ap (λ (l : List Lexeme). l ++ q) b.1))

  reads_as_both : (x : A) (xs : List A) (us vs : List Lexeme) (r : Read A) (more : Reader (List A))
      → ReadsAs within r x vs
      → ReadsAs within (more vs) xs us
      → ReadsAs within (r >>= λ x. more x.1 >>= λ xs. Ok (x.0 ∷ xs.0, xs.1)) (x ∷ xs) us
  reads_as_both x xs us vs r more (inl e) (inl h) =
      inl (ap (λ (r : Read A). r >>= λ x. more x.1 >>= λ xs. Ok (x.0 ∷ xs.0, xs.1)) e
      ⋆ ap (λ (s : Read (List A)). s >>= λ xs. Ok (x ∷ xs.0, xs.1)) h)
  reads_as_both x xs us vs r more (inl e) (inr h) =
      inr (
        h.0,
        h.1,
        ap (λ (r : Read A). r >>= λ x. more x.1 >>= λ xs. Ok (x.0 ∷ xs.0, xs.1)) e
            ⋆ ap (λ (s : Read (List A)). s >>= λ xs. Ok (x ∷ xs.0, xs.1)) h.2,
      )
  reads_as_both x xs us vs r more (inr w) h =
      inr (w.0, w.1, ap (λ (r : Read A). r >>= λ x. more x.1 >>= λ xs. Ok (x.0 ∷ xs.0, xs.1)) w.2)

  pub commas_whole : ends (Mark Comma) ≡ false
      → (k : ℕ) (xs : List A) (u us : List Lexeme)
      → length (u ++ us) ≤ k
      → IsMany (preceded (Mark Comma) a) xs u
      → Follows ends us
      → Follows is_comma us
      → ReadsAs within (after_commas_at read k (u ++ us)) xs us
  commas_whole apart k [] u us le h f g =
      subst (λ (l : List Lexeme). ReadsAs within (after_commas_at read k (l ++ us)) [] us) (sym h)
      (inl (no_comma k us g))
  commas_whole apart k (x ∷ xs) u us le (p, q, e, hp, hq) f g =
      let b = preceded_is (Mark Comma) a x p hp in
      whole_at_comma k (b.0 ++ (q ++ us)) us (u ++ us) (x ∷ xs) le
      (ap (λ (l : List Lexeme). l ++ us) (e ⋆ ap (λ (l : List Lexeme). l ++ q) b.1)
      ⋆ ap (λ (l : List Lexeme). (Mark Comma) ∷ l) (append_assoc b.0 q us))
      (λ j lj. reads_as_both x xs us (q ++ us) (read (b.0 ++ (q ++ us))) (after_commas_at read j)
      (fa.whole x b.0 (q ++ us) b.2 (follows_many apart xs q us hq f))
      (commas_whole apart j xs q us (omega (arith, length-append b.0 (q ++ us))) hq f g))

pub reads_as_made : {A B : Type 0} (within : Limit → Type 0) (us : List Lexeme) (r : Read A) (x : A) (f : A → B)
    → ReadsAs within r x us
    → ReadsAs within (r >>= λ y. Ok (f y.0, y.1)) (f x) us
reads_as_made within us r x f (inl e) = inl (ap (λ (r : Read _). r >>= λ y. Ok (f y.0, y.1)) e)
reads_as_made within us r x f (inr w) = inr (w.0, w.1, ap (λ (r : Read _). r >>= λ y. Ok (f y.0, y.1)) w.2)
