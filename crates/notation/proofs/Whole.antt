-- The reader of values refuses no front of a value, and reads each whole one.
use Rattle.std.proofs.Common.{◌≡◌, ℕ, zero, suc, ◌≤◌, inl, inr, Bool, true, List, [], ◌∷◌, ◌++◌, length, Ok, refl, sym, ap, subst, ◌∙◌ as ◌⋆◌, arith}
use Rattle.text.specs.declared.token.Mark.TheVariants.{Colon, Dot, Minus, OpenBrace, CloseBrace}
use Rattle.text.specs.declared.reserved.Word.TheVariants.{True, False, Null}
use Rattle.grammar.specs.Lexeme.{Lexeme, TypeRef, Ident, Number, BString, HString, CString, Word, Mark}
use Rattle.grammar.specs.Grammar.{Grammar, token, mark, number_of, ◌∙◌, preceded, listed, braces}
use Rattle.grammar.specs.Reading.{Limit, Integer, Nesting, Read, Reader, ◌>>=◌, stop, opened}
use Rattle.grammar.specs.Laws.{Follows, Passes, ReadsAs, Finds, preceded_front, passes_on, passes_made}
use Rattle.grammar.specs.Lists.{IsSolid, Next, head_is, second_is}
use Rattle.trees.specs.Values.{Tree, chosen}
use Rattle.notation.specs.Value.{simple, nested, value}
use Rattle.notation.specs.Reading.{braced_at, alternative_at, step_at, value_at}
use Rattle.notation.proofs.Sounds.{three_numbers}
use Rattle.notation.specs.Laws.{starts, goes_on}
use Rattle.notation.proofs.Finding.{ends_item, braced_shrinks}
use Rattle.notation.proofs.Values.{ends_item_is, simple_front, nested_front, simple_whole, nested_whole}

-- ---- the first token of a production

head_one : {A : Type 0} (kind : A → Lexeme) (s : Lexeme) (u : List Lexeme)
    → (token kind).IsPrefix (s ∷ u)
    → (x : A) × (s ≡ kind x)
head_one kind s u (inl e) = absurd cc
head_one kind s u (inr (x, e)) = (x, head_is s (kind x) u [] e)

head_of : {A B : Type 0} (kind : A → Lexeme) (b : Grammar B) (s : Lexeme) (u : List Lexeme)
    → (token kind ∙ b).IsPrefix (s ∷ u)
    → (x : A) × (s ≡ kind x)
head_of kind b s u (inl h) = head_one kind s u h
head_of kind b s u (inr (x, p, q, e, hp, hq)) = (x, head_is s (kind x) u q (e ⋆ ap (λ (l : List Lexeme). l ++ q) hp))

-- a front of one token has no second token
no_second : {A : Type 0} (kind : A → Lexeme) (s t : Lexeme) (u : List Lexeme) → (token kind).IsPrefix (s ∷ t ∷ u) → ⊥
no_second kind s t u (inl e) = absurd cc
no_second kind s t u (inr (x, e)) = absurd cc

-- a whole that begins with a token isn't empty
full : {A : Type 0} (kind : A → Lexeme) (x : A) → (token kind).Is x [] → ⊥
full kind x e = absurd cc

full_of : {A B : Type 0} (kind : A → Lexeme) (b : Grammar B) (x : A × B) → (token kind ∙ b).Is x [] → ⊥
full_of kind b x (p, q, e, hp, hq) = let d = e ⋆ ap (λ (l : List Lexeme). l ++ q) hp in absurd cc

head_number : (fits : ℕ → Bool) (s : Lexeme) (u : List Lexeme)
    → (number_of fits).IsPrefix (s ∷ u)
    → (n : ℕ) × (fits n ≡ true) × (s ≡ Number n)
head_number fits s u (inl e) = absurd cc
head_number fits s u (inr (n, f, e)) = (n, f, head_is s (Number n) u [] e)

no_second_number : (fits : ℕ → Bool) (s t : Lexeme) (u : List Lexeme) → (number_of fits).IsPrefix (s ∷ t ∷ u) → ⊥
no_second_number fits s t u (inl e) = absurd cc
no_second_number fits s t u (inr (n, f, e)) = absurd cc

-- nothing follows a number or a name
record IsHead (s : Lexeme) : Type 0 where
  no_true : s ≡ (Word True) → ⊥
  no_minus : s ≡ (Mark Minus) → ⊥
  no_typeref : (m : List ℕ) → s ≡ TypeRef m → ⊥
  no_brace : s ≡ (Mark OpenBrace) → ⊥

number_head : (a : ℕ) → IsHead (Number a)
number_head a = record { no_true = λ e. absurd cc; no_minus = λ e. absurd cc; no_typeref = λ m e. absurd cc; no_brace = λ e. absurd cc }

name_head : (a : List ℕ) → IsHead (Ident a)
name_head a = record { no_true = λ e. absurd cc; no_minus = λ e. absurd cc; no_typeref = λ m e. absurd cc; no_brace = λ e. absurd cc }

module _ (fits' : ℕ → Bool) where
  is_start : (s t : Lexeme) → s ≡ t → (starts fits') t ≡ true → (starts fits') s ≡ true
  is_start s t e h = subst (λ (t : Lexeme). (starts fits') t ≡ true) (sym e) h

  -- ---- (simple fits') values

  simple_first : (t : Lexeme) (u : List Lexeme) → (simple fits').IsPrefix (t ∷ u) → (starts fits') t ≡ true
  simple_first t u (inl h) = is_start t (Word True) (head_one (λ (x : Unit {0}). (Word True)) t u h).1 refl
  simple_first t u (inr (inl h)) = is_start t (Word False) (head_one (λ (x : Unit {0}). (Word False)) t u h).1 refl
  simple_first t u (inr (inr (inl h))) = is_start t (Word Null) (head_one (λ (x : Unit {0}). (Word Null)) t u h).1 refl
  simple_first t u (inr (inr (inr (inl h)))) = let p = head_number fits' t u h in is_start t (Number p.0) p.2 p.1
  simple_first t u (inr (inr (inr (inr (inl h))))) = let p = head_of (λ (x : Unit {0}). (Mark Minus)) (token Number) t u h in is_start t (Mark Minus) p.1 refl
  simple_first t u (inr (inr (inr (inr (inr (inl h)))))) = let p = head_one BString t u h in is_start t (BString p.0) p.1 refl
  simple_first t u (inr (inr (inr (inr (inr (inr (inl h))))))) = let p = head_one HString t u h in is_start t (HString p.0) p.1 refl
  simple_first t u (inr (inr (inr (inr (inr (inr (inr (inl h)))))))) = let p = head_one CString t u h in is_start t (CString p.0) p.1 refl
  simple_first t u (inr (inr (inr (inr (inr (inr (inr (inr (inl h))))))))) = let p = head_one Ident t u h in is_start t (Ident p.0) p.1 refl
  simple_first t u (inr (inr (inr (inr (inr (inr (inr (inr (inr h))))))))) = let p = head_of TypeRef (preceded (Mark Dot) (token Ident)) t u h in is_start t (TypeRef p.0) p.1 refl

  simple_part : (z : Tree) (u : List Lexeme) → (simple fits').Is z u → (simple fits').IsPrefix u
  simple_part z u (inl (x, d, h)) = inl (inr (x, h))
  simple_part z u (inr (inl (x, d, h))) = inr (inl (inr (x, h)))
  simple_part z u (inr (inr (inl (x, d, h)))) = inr (inr (inl (inr (x, h))))
  simple_part z u (inr (inr (inr (inl (x, d, h))))) = inr (inr (inr (inl (inr (x, h.0, h.1)))))
  simple_part z u (inr (inr (inr (inr (inl (x, d, (p, e, (v, w, q, hv, hw)))))))) = inr (inr (inr (inr (inl (inr (tt, v, w, q, hv, inr (p.1, hw)))))))
  simple_part z u (inr (inr (inr (inr (inr (inl (x, d, h))))))) = inr (inr (inr (inr (inr (inl (inr (x, h)))))))
  simple_part z u (inr (inr (inr (inr (inr (inr (inl (x, d, h)))))))) = inr (inr (inr (inr (inr (inr (inl (inr (x, h))))))))
  simple_part z u (inr (inr (inr (inr (inr (inr (inr (inl (x, d, h))))))))) = inr (inr (inr (inr (inr (inr (inr (inl (inr (x, h)))))))))
  simple_part z u (inr (inr (inr (inr (inr (inr (inr (inr (inl (x, d, h)))))))))) = inr (inr (inr (inr (inr (inr (inr (inr (inl (inr (x, h))))))))))
  simple_part z u (inr (inr (inr (inr (inr (inr (inr (inr (inr (x, d, (p, q, e, hp, (y, k, (v, w, g, hv, hw))))))))))))) =
      inr (inr (inr (inr (inr (inr (inr (inr (inr (inr (x.0, p, q, e, hp, inr (tt, v, w, g, hv, inr (y.1, hw))))))))))))

  simple_full : (z : Tree) → (simple fits').Is z [] → ⊥
  simple_full z (inl (x, d, h)) = full (λ (x : Unit {0}). (Word True)) x h
  simple_full z (inr (inl (x, d, h))) = full (λ (x : Unit {0}). (Word False)) x h
  simple_full z (inr (inr (inl (x, d, h)))) = full (λ (x : Unit {0}). (Word Null)) x h
  simple_full z (inr (inr (inr (inl (x, d, h))))) = full Number x h.1
  simple_full z (inr (inr (inr (inr (inl (x, d, (p, e, h))))))) = full_of (λ (x : Unit {0}). (Mark Minus)) (token Number) p h
  simple_full z (inr (inr (inr (inr (inr (inl (x, d, h))))))) = full BString x h
  simple_full z (inr (inr (inr (inr (inr (inr (inl (x, d, h)))))))) = full HString x h
  simple_full z (inr (inr (inr (inr (inr (inr (inr (inl (x, d, h))))))))) = full CString x h
  simple_full z (inr (inr (inr (inr (inr (inr (inr (inr (inl (x, d, h)))))))))) = full Ident x h
  simple_full z (inr (inr (inr (inr (inr (inr (inr (inr (inr (x, d, h)))))))))) = full_of TypeRef (preceded (Mark Dot) (token Ident)) x h

  simple_next : (s : Lexeme) → IsHead s → (t : Lexeme) (u : List Lexeme) → (simple fits').IsPrefix (s ∷ t ∷ u) → ⊥
  simple_next s i t u (inl h) = no_second (λ (x : Unit {0}). (Word True)) s t u h
  simple_next s i t u (inr (inl h)) = no_second (λ (x : Unit {0}). (Word False)) s t u h
  simple_next s i t u (inr (inr (inl h))) = no_second (λ (x : Unit {0}). (Word Null)) s t u h
  simple_next s i t u (inr (inr (inr (inl h)))) = no_second_number fits' s t u h
  simple_next s i t u (inr (inr (inr (inr (inl h))))) = i.no_minus (head_of (λ (x : Unit {0}). (Mark Minus)) (token Number) s (t ∷ u) h).1
  simple_next s i t u (inr (inr (inr (inr (inr (inl h)))))) = no_second BString s t u h
  simple_next s i t u (inr (inr (inr (inr (inr (inr (inl h))))))) = no_second HString s t u h
  simple_next s i t u (inr (inr (inr (inr (inr (inr (inr (inl h)))))))) = no_second CString s t u h
  simple_next s i t u (inr (inr (inr (inr (inr (inr (inr (inr (inl h))))))))) = no_second Ident s t u h
  simple_next s i t u (inr (inr (inr (inr (inr (inr (inr (inr (inr h))))))))) = let p = head_of TypeRef (preceded (Mark Dot) (token Ident)) s (t ∷ u) h in i.no_typeref p.0 p.1

  -- ---- values that open

  nested_first : (v : Grammar Tree) (t : Lexeme) (u : List Lexeme)
      → (nested fits' v).IsPrefix (t ∷ u)
      → (starts fits') t ≡ true
  nested_first v t u (inl h) = let p = head_of Ident (preceded (Mark Colon) v) t u h in is_start t (Ident p.0) p.1 refl
  nested_first v t u (inr (inl h)) = let p = head_of (λ (x : Unit {0}). (Mark OpenBrace)) (mark CloseBrace) t u h in is_start t (Mark OpenBrace) p.1 refl
  nested_first v t u (inr (inr (inl h))) = let p = head_of (λ (x : Unit {0}). (Mark OpenBrace)) (three_numbers fits' ∙ mark CloseBrace) t u h in is_start t (Mark OpenBrace) p.1 refl
  nested_first v t u (inr (inr (inr (inl h)))) = let p = head_of (λ (x : Unit {0}). (Mark OpenBrace)) (listed v ∙ mark CloseBrace) t u h in is_start t (Mark OpenBrace) p.1 refl
  nested_first v t u (inr (inr (inr (inr h)))) = let p = head_of (λ (x : Unit {0}). (Mark OpenBrace)) (listed (token Ident ∙ v) ∙ mark CloseBrace) t u h in is_start t (Mark OpenBrace) p.1 refl

  braces_part : {A : Type 0} (a : Grammar A) (z : A) (u : List Lexeme) → (braces a).Is z u → (braces a).IsPrefix u
  braces_part a z u (x, d, (p, q, e, hp, (p', q', e', hp', hq'))) = inr (tt, p, q, e, hp, inr (x.1.0, p', q', e', hp', inr (tt, hq')))

  nested_part : (v : Grammar Tree)
      → ((z : Tree) (u : List Lexeme) → v.Is z u → v.IsPrefix u)
      → (z : Tree) (u : List Lexeme)
      → (nested fits' v).Is z u
      → (nested fits' v).IsPrefix u
  nested_part v part z u (inl (x, d, (p, q, e, hp, (y, k, (p', q', g, hp', hq'))))) = inl (inr (x.0, p, q, e, hp, inr (tt, p', q', g, hp', part y.1 q' hq')))
  nested_part v part z u (inr (inl (x, d, (p, q, e, hp, hq)))) = inr (inl (inr (tt, p, q, e, hp, inr (tt, hq))))
  nested_part v part z u (inr (inr (inl (x, d, h)))) = inr (inr (inl (braces_part (three_numbers fits') x u h)))
  nested_part v part z u (inr (inr (inr (inl (x, d, h))))) = inr (inr (inr (inl (braces_part (listed v) x u h))))
  nested_part v part z u (inr (inr (inr (inr (x, d, h))))) = inr (inr (inr (inr (braces_part (listed (token Ident ∙ v)) x u h))))

  nested_full : (v : Grammar Tree) (z : Tree) → (nested fits' v).Is z [] → ⊥
  nested_full v z (inl (x, d, h)) = full_of Ident (preceded (Mark Colon) v) x h
  nested_full v z (inr (inl (x, d, h))) = full_of (λ (x : Unit {0}). (Mark OpenBrace)) (mark CloseBrace) x h
  nested_full v z (inr (inr (inl (x, d, (p, k, h))))) = full_of (λ (x : Unit {0}). (Mark OpenBrace)) (three_numbers fits' ∙ mark CloseBrace) p h
  nested_full v z (inr (inr (inr (inl (x, d, (p, k, h)))))) = full_of (λ (x : Unit {0}). (Mark OpenBrace)) (listed v ∙ mark CloseBrace) p h
  nested_full v z (inr (inr (inr (inr (x, d, (p, k, h)))))) = full_of (λ (x : Unit {0}). (Mark OpenBrace)) (listed (token Ident ∙ v) ∙ mark CloseBrace) p h

  colon_next : (v : Grammar Tree)
      → v.IsPrefix []
      → (s t : Lexeme) (u : List Lexeme)
      → (token Ident ∙ preceded (Mark Colon) v).IsPrefix (s ∷ t ∷ u)
      → t ≡ (Mark Colon)
  colon_next v nil s t u (inl h) = absurd (no_second Ident s t u h)
  colon_next v nil s t u (inr (x, p, q, e, hp, hq)) =
      let d = e ⋆ ap (λ (l : List Lexeme). l ++ q) hp in
      elim (preceded_front (Mark Colon) v q nil hq) [
        | inl g ↦ absurd (short (d ⋆ ap (λ (l : List Lexeme). Ident x ∷ l) g))
        | inr (w, g, k) ↦ second_is s t (Ident x) (Mark Colon) u w (d ⋆ ap (λ (l : List Lexeme). Ident x ∷ l) g)
      ]
    where
      short : s ∷ t ∷ u ≡ Ident x ∷ [] → ⊥
      short e = absurd cc

  nested_next : (v : Grammar Tree)
      → v.IsPrefix []
      → (s : Lexeme)
      → IsHead s
      → (t : Lexeme) (u : List Lexeme)
      → (nested fits' v).IsPrefix (s ∷ t ∷ u)
      → t ≡ (Mark Colon)
  nested_next v nil s i t u (inl h) = colon_next v nil s t u h
  nested_next v nil s i t u (inr (inl h)) = absurd (i.no_brace (head_of (λ (x : Unit {0}). (Mark OpenBrace)) (mark CloseBrace) s (t ∷ u) h).1)
  nested_next v nil s i t u (inr (inr (inl h))) = absurd (i.no_brace (head_of (λ (x : Unit {0}). (Mark OpenBrace)) (three_numbers fits' ∙ mark CloseBrace) s (t ∷ u) h).1)
  nested_next v nil s i t u (inr (inr (inr (inl h)))) = absurd (i.no_brace (head_of (λ (x : Unit {0}). (Mark OpenBrace)) (listed v ∙ mark CloseBrace) s (t ∷ u) h).1)
  nested_next v nil s i t u (inr (inr (inr (inr h)))) = absurd (i.no_brace (head_of (λ (x : Unit {0}). (Mark OpenBrace)) (listed (token Ident ∙ v) ∙ mark CloseBrace) s (t ∷ u) h).1)

  -- ---- all values

  v_nil : (m : ℕ) → (value fits' m).IsPrefix []
  v_nil zero = inl (inl refl)
  v_nil (suc m) = inl (inl (inl refl))

  pub v_part : (m : ℕ) (z : Tree) (u : List Lexeme) → (value fits' m).Is z u → (value fits' m).IsPrefix u
  v_part zero z u h = simple_part z u h
  v_part (suc m) z u (inl h) = inl (simple_part z u h)
  v_part (suc m) z u (inr h) = inr (nested_part (value fits' m) (v_part m) z u h)

  v_first : (m : ℕ) (t : Lexeme) (u : List Lexeme) → (value fits' m).IsPrefix (t ∷ u) → (starts fits') t ≡ true
  v_first zero t u h = simple_first t u h
  v_first (suc m) t u (inl h) = simple_first t u h
  v_first (suc m) t u (inr h) = nested_first (value fits' m) t u h

  v_full : (m : ℕ) (z : Tree) → (value fits' m).Is z [] → ⊥
  v_full zero z h = simple_full z h
  v_full (suc m) z (inl h) = simple_full z h
  v_full (suc m) z (inr h) = nested_full (value fits' m) z h

  pub v_solid : (m : ℕ) → IsSolid (value fits' m)
  v_solid m = record { no_empty = v_full m }

  pub v_number : (m a : ℕ) → fits' a ≡ true → (value fits' m).IsPrefix (Number a ∷ [])
  v_number zero a f = inr (inr (inr (inl (inr (a, f, refl)))))
  v_number (suc m) a f = inl (inr (inr (inr (inl (inr (a, f, refl))))))

  pub v_name : (m : ℕ) (x : List ℕ) → (value fits' m).IsPrefix (Ident x ∷ [])
  v_name zero x = inr (inr (inr (inr (inr (inr (inr (inr (inl (inr (x, refl))))))))))
  v_name (suc m) x = inl (inr (inr (inr (inr (inr (inr (inr (inr (inl (inr (x, refl)))))))))))

  v_after : (m : ℕ) (s : Lexeme)
      → IsHead s
      → (t : Lexeme) (u : List Lexeme)
      → (value fits' m).IsPrefix (s ∷ t ∷ u)
      → ends_item t ≡ true
  v_after zero s i t u h = absurd (simple_next s i t u h)
  v_after (suc m) s i t u (inl h) = absurd (simple_next s i t u h)
  v_after (suc m) s i t u (inr h) = subst (λ (t : Lexeme). ends_item t ≡ true) (sym (nested_next (value fits' m) (v_nil m) s i t u h)) refl

  pub v_after_number : (m a : ℕ) → Next (value fits' m) (Number a) ends_item_is
  v_after_number m a = record { next = v_after m (Number a) (number_head a) }

  pub v_after_name : (m : ℕ) (x : List ℕ) → Next (value fits' m) (Ident x) ends_item_is
  v_after_name m x = record { next = v_after m (Ident x) (name_head x) }

-- fits is the reader's test on numbers, fits' the grammar's
module _ (within : Limit → Type 0) (fits fits' : ℕ → Bool)
    (room : (n : ℕ) → fits' n ≡ true → within Integer → fits n ≡ true) where
  -- the reader of values with (simple fits') ones alone
  simple_finds : (n : ℕ) (read : Reader Tree)
      (colon : (x : List ℕ) (us : List Lexeme) → Passes within ((Mark Colon) ∷ us) (opened n ((Mark Colon) ∷ us) (read us >>= λ v. Ok (chosen x v.0, v.1))))
      (brace : (us : List Lexeme) → Passes within ((Mark OpenBrace) ∷ us) (opened n ((Mark OpenBrace) ∷ us) (braced_at fits read us)))
      → Finds within (simple fits') (starts fits') goes_on (step_at fits n read)
  simple_finds n read colon brace = record {
    nil = inl (inl refl);
    part = simple_part fits';
    first = simple_first fits';
    whole = λ z u us h f. simple_whole within fits fits' room n read colon brace z u us (λ x e. f) h;
    front = simple_front within fits fits' room n read colon brace;
  }

  -- and with values in them
  all_finds : (n m : ℕ) (read : Reader Tree)
      (colon : (x : List ℕ) (us : List Lexeme) → Passes within ((Mark Colon) ∷ us) (opened n ((Mark Colon) ∷ us) (read us >>= λ v. Ok (chosen x v.0, v.1))))
      (brace : (us : List Lexeme) → Passes within ((Mark OpenBrace) ∷ us) (opened n ((Mark OpenBrace) ∷ us) (braced_at fits read us)))
      → Finds within (value fits' m) (starts fits') goes_on read
      → ((ts us : List Lexeme) (r : Read Tree) → Passes within us r → Passes within us (opened n ts r))
      → ((ts us : List Lexeme) (z : Tree) (r : Read Tree) → ReadsAs within r z us → ReadsAs within (opened n ts r) z us)
      → Finds within (value fits' (suc m)) (starts fits') goes_on (step_at fits n read)
  all_finds n m read colon brace fv enter enters = record {
    nil = v_nil fits' (suc m);
    part = v_part fits' (suc m);
    first = v_first fits' (suc m);
    whole = whole;
    front = front;
  }
    where
      whole : (z : Tree) (u us : List Lexeme)
          → (value fits' (suc m)).Is z u
          → Follows goes_on us
          → ReadsAs within (step_at fits n read (u ++ us)) z us
      whole z u us (inl h) f = simple_whole within fits fits' room n read colon brace z u us (λ x e. f) h
      whole z u us (inr h) f = nested_whole within fits fits' room n read colon brace (value fits' m) fv (v_solid fits' m) (v_number fits' m) (v_name fits' m) (v_after_number fits' m) (v_after_name fits' m) enters z u us f h

      front : (u us : List Lexeme) → (value fits' (suc m)).IsPrefix u → Passes within us (step_at fits n read (u ++ us))
      front u us (inl h) = simple_front within fits fits' room n read colon brace u us h
      front u us (inr h) = nested_front within fits fits' room n read colon brace (value fits' m) fv (v_solid fits' m) (v_number fits' m) (v_name fits' m) (v_after_number fits' m) (v_after_name fits' m) enter u us h

  same_reader : (g : Grammar Tree) (r r' : Reader Tree)
      → ((ts : List Lexeme) → r ts ≡ r' ts)
      → Finds within g (starts fits') goes_on r
      → Finds within g (starts fits') goes_on r'
  same_reader g r r' e f = record {
    nil = f.nil;
    part = f.part;
    first = f.first;
    whole = λ z u us h k. subst (λ (q : Read Tree). ReadsAs within q z us) (e (u ++ us)) (f.whole z u us h k);
    front = λ u us h. subst (λ (q : Read Tree). Passes within us q) (e (u ++ us)) (f.front u us h);
  }

  -- no more parts may be open
  pub zero_colon : (x : List ℕ) (us : List Lexeme)
      →
      Passes within ((Mark Colon) ∷ us) (opened zero ((Mark Colon) ∷ us) (value_at fits zero us >>= λ v. Ok (chosen x v.0, v.1)))
  zero_colon x us = inl (omega arith)

  pub zero_brace : (us : List Lexeme)
      →
      Passes within ((Mark OpenBrace) ∷ us) (opened zero ((Mark OpenBrace) ∷ us) (braced_at fits (value_at fits zero) us))
  zero_brace us = inl (omega arith)

  none_open : (ts : List Lexeme) → step_at fits zero stop ts ≡ step_at fits zero (step_at fits zero stop) ts
  unfolding step_at alternative_at
  none_open [] = refl
  none_open (Ident x ∷ []) = refl
  none_open (Ident x ∷ (Mark Colon) ∷ ts) = refl
  none_open (Ident x ∷ t ∷ ts) = refl
  none_open (t ∷ ts) = refl

  pub zero_step : (ts : List Lexeme) → step_at fits zero (value_at fits zero) ts ≡ value_at fits zero ts
  unfolding value_at
  zero_step ts = sym (none_open ts)

  zero_finds : (m : ℕ)
      → (within Nesting → m ≤ zero)
      → Finds within (value fits' m) (starts fits') goes_on (value_at fits zero)
  zero_finds zero deep = same_reader (simple fits') (step_at fits zero (value_at fits zero)) (value_at fits zero) zero_step (simple_finds zero (value_at fits zero) zero_colon zero_brace)
  zero_finds (suc m) deep =
      let w : within Nesting → ⊥ = λ d. omega (arith, deep d) in
      same_reader (value fits' (suc m)) (step_at fits zero (value_at fits zero)) (value_at fits zero) zero_step
      (all_finds zero m (value_at fits zero) zero_colon zero_brace (zero_finds m (λ d. absurd (w d))) (λ ts us r h. inr w) (λ ts us z r h. inr ((Nesting, length ts), w, refl)))

  -- ---- the theorem

  pub suc_step : (n : ℕ) (ts : List Lexeme) → step_at fits (suc n) (value_at fits n) ts ≡ value_at fits (suc n) ts
  unfolding value_at
  suc_step n ts = refl

  pub suc_colon : (n : ℕ)
      → Finds within (value fits' zero) (starts fits') goes_on (value_at fits n)
      → (x : List ℕ) (us : List Lexeme)
      →
      Passes within ((Mark Colon) ∷ us) (opened (suc n) ((Mark Colon) ∷ us) (value_at fits n us >>= λ v. Ok (chosen x v.0, v.1)))
  suc_colon n f x us = passes_on within ((Mark Colon) ∷ us) us (value_at fits n us >>= λ v. Ok (chosen x v.0, v.1)) (omega arith) (passes_made within us (value_at fits n us) (λ t. chosen x t) (f.front [] us f.nil))

  pub suc_brace : (n : ℕ)
      → Finds within (value fits' zero) (starts fits') goes_on (value_at fits n)
      → (us : List Lexeme)
      →
      Passes within ((Mark OpenBrace) ∷ us) (opened (suc n) ((Mark OpenBrace) ∷ us) (braced_at fits (value_at fits n) us))
  suc_brace n f us = passes_on within ((Mark OpenBrace) ∷ us) us (braced_at fits (value_at fits n) us) (omega arith) (braced_shrinks within fits fits' room (value fits' zero) (value_at fits n) f (v_solid fits' zero) (v_number fits' zero) (v_name fits' zero) (v_after_number fits' zero) (v_after_name fits' zero) us)

  pub value_finds : (n m : ℕ)
      → (within Nesting → m ≤ n)
      → Finds within (value fits' m) (starts fits') goes_on (value_at fits n)
  value_finds zero m deep = zero_finds m deep
  value_finds (suc n) zero deep =
      let f = value_finds n zero (λ e. omega arith) in
      same_reader (simple fits') (step_at fits (suc n) (value_at fits n)) (value_at fits (suc n)) (suc_step n) (simple_finds (suc n) (value_at fits n) (suc_colon n f) (suc_brace n f))
  value_finds (suc n) (suc m) deep =
      let f = value_finds n zero (λ e. omega arith) in
      let g = value_finds n m (λ e. omega (arith, deep e)) in
      same_reader (value fits' (suc m)) (step_at fits (suc n) (value_at fits n)) (value_at fits (suc n)) (suc_step n)
      (all_finds (suc n) m (value_at fits n) (suc_colon n f) (suc_brace n f) g (λ ts us r h. h) (λ ts us z r h. h))
