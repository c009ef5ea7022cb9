-- The reader of values refuses no front of what is in braces, and reads each whole.
use Rattle.std.proofs.Common.{◌≡◌, ℕ, inl, inr, Bool, true, false, List, [], ◌∷◌, ◌++◌, Ok, refl, sym, ap, subst, ◌∙◌ as ◌⋆◌, arith}
use Rattle.std.proofs.lemmas.List.{append-nil}
use Rattle.text.specs.declared.token.Mark.TheVariants.{Comma, Colon, CloseBrace}
use Rattle.grammar.specs.Lexeme.{Lexeme, Ident, Number, Mark}
use Rattle.grammar.specs.Grammar.{Grammar, token, mark, number_of, ◌∙◌, ◌⇒◌, IsMany, many, listed}
use Rattle.grammar.specs.Reading.{Limit, Integer, Read, Reader, ◌>>=◌, closed_at, named_at, fitting}
use Rattle.grammar.specs.Laws.{Follows, Passes, ReadsAs, Finds, seq_front, seq_whole, passes_on, passes_made, reads_as_made}
use Rattle.grammar.specs.Lists.{IsSolid, Next, head_is, second_is, no_lexeme, is_rbrace, is_ident, finds_closed, finds_body, body_next, finds_named}
use Rattle.grammar.specs.Numbers.{fitting_passes, fitting_shrinks, fitting_reads_as, fitting_passes_on}
use Rattle.trees.specs.Values.{Tree, numbers, items, fields, trees, named_trees}
use Rattle.notation.specs.Reading.{numbers_at, items_at, fields_at, follows_name, by_name_at, two_numbers_at, by_number_at, braced_at}
use Rattle.notation.specs.Laws.{starts, goes_on}
use Rattle.notation.proofs.Sounds.{three_numbers}

-- ---- numbers

abbrev pub is_num : Lexeme → Bool
is_num (Number n) = true
is_num t = false

rbrace_no_num : (t : Lexeme) → is_rbrace t ≡ true → is_num t ≡ false
rbrace_no_num (Mark CloseBrace) e = refl
rbrace_no_num (Number n) e = absurd cc
rbrace_no_num t e = refl

-- fits is the reader's test on numbers, fits' the grammar's
module _ (within : Limit → Type 0) (fits fits' : ℕ → Bool)
    (room : (n : ℕ) → fits' n ≡ true → within Integer → fits n ≡ true) where
  abbrev more : Grammar (List ℕ)
  more = many (number_of fits')

  abbrev next : ℕ → Read (List ℕ) → Read (List ℕ)
  next n r = r >>= λ ns. Ok (n ∷ ns.0, ns.1)

  numbers_shrink : (us : List Lexeme) → Passes within us (numbers_at fits us)
  unfolding numbers_at
  numbers_shrink [] = omega arith
  numbers_shrink (Number n ∷ us) = fitting_shrinks within (fits n) n us (numbers_at fits us >>= λ ns. Ok (n ∷ ns.0, ns.1)) (passes_made within us (numbers_at fits us) (λ ns. n ∷ ns) (numbers_shrink us))
  numbers_shrink (t ∷ us) = omega arith

  -- a number more
  one_more : (n : ℕ) (ts us : List Lexeme)
      → fits' n ≡ true
      → Passes within us (numbers_at fits ts)
      → Passes within us (numbers_at fits (Number n ∷ ts))
  unfolding numbers_at
  one_more n ts us f h = fitting_passes within (fits n) us (Number n ∷ ts) (numbers_at fits ts >>= λ ns. Ok (n ∷ ns.0, ns.1)) (room n f) (passes_made within us (numbers_at fits ts) (λ ns. n ∷ ns) h)

  numbers_front' : (ns : List ℕ) (u v us : List Lexeme)
      → IsMany (number_of fits') ns u
      → (number_of fits').IsPrefix v
      → Passes within us (numbers_at fits ((u ++ v) ++ us))
  numbers_front' [] u v us h (inl e) = subst (λ (l : List Lexeme). Passes within us (numbers_at fits (l ++ us))) (sym (ap (λ (l : List Lexeme). l ++ v) h ⋆ e)) (numbers_shrink us)
  numbers_front' [] u v us h (inr (n, f, e)) =
      subst (λ (l : List Lexeme). Passes within us (numbers_at fits (l ++ us))) (sym (ap (λ (l : List Lexeme). l ++ v) h ⋆ e)) (one_more n us us f (numbers_shrink us))
  numbers_front' (n ∷ ns) u v us (p, q, e, hp, hq) g =
      subst (λ (l : List Lexeme). Passes within us (numbers_at fits ((l ++ v) ++ us))) (sym (e ⋆ ap (λ (l : List Lexeme). l ++ q) hp.1)) (one_more n ((q ++ v) ++ us) us hp.0 (numbers_front' ns q v us hq g))

  numbers_end : (us : List Lexeme) → Follows is_num us → numbers_at fits us ≡ Ok ([], us)
  unfolding numbers_at
  numbers_end [] f = refl
  numbers_end (Number n ∷ us) f = absurd cc
  numbers_end (t ∷ us) f = refl

  reads_as_more : (n : ℕ) (ns : List ℕ) (ts us : List Lexeme)
      → fits' n ≡ true
      → ReadsAs within (numbers_at fits ts) ns us
      → ReadsAs within (numbers_at fits (Number n ∷ ts)) (n ∷ ns) us
  unfolding numbers_at
  reads_as_more n ns ts us f h = fitting_reads_as within (fits n) (Number n ∷ ts) us (numbers_at fits ts >>= λ ns. Ok (n ∷ ns.0, ns.1)) (n ∷ ns) (room n f) (reads_as_made within us (numbers_at fits ts) ns (λ ns. n ∷ ns) h)

  numbers_whole' : (ns : List ℕ) (u us : List Lexeme)
      → IsMany (number_of fits') ns u
      → Follows is_num us
      → ReadsAs within (numbers_at fits (u ++ us)) ns us
  numbers_whole' [] u us h f = inl (ap (λ (l : List Lexeme). numbers_at fits (l ++ us)) h ⋆ numbers_end us f)
  numbers_whole' (n ∷ ns) u us (p, q, e, hp, hq) f =
      subst (λ (l : List Lexeme). ReadsAs within (numbers_at fits (l ++ us)) (n ∷ ns) us) (sym (e ⋆ ap (λ (l : List Lexeme). l ++ q) hp.1)) (reads_as_more n ns (q ++ us) us hp.0 (numbers_whole' ns q us hq f))

  finds_numbers : Finds within more is_num is_num (numbers_at fits)
  finds_numbers = record {
    nil = ([], [], [], refl, refl, inl refl);
    part = λ ns u h. (ns, u, [], sym (append-nil u), h, inl refl);
    first = first;
    whole = numbers_whole';
    front = λ u us h. subst (λ (l : List Lexeme). Passes within us (numbers_at fits (l ++ us))) (sym h.3) (numbers_front' h.0 h.1 h.2 us h.4 h.5);
  }
    where
      first : (t : Lexeme) (u : List Lexeme) → more.IsPrefix (t ∷ u) → is_num t ≡ true
      first t u ([], v, w, e, hv, inl h) = let q = e ⋆ ap (λ (l : List Lexeme). l ++ w) hv ⋆ h in absurd cc
      first t u ([], v, w, e, hv, inr (n, f, h)) = subst (λ (t : Lexeme). is_num t ≡ true) (sym (head_is t (Number n) u [] (e ⋆ ap (λ (l : List Lexeme). l ++ w) hv ⋆ h))) refl
      first t u (n ∷ ns, v, w, e, (p, q, d, hp, hq), h) =
          subst (λ (t : Lexeme). is_num t ≡ true) (sym (head_is t (Number n) u (q ++ w) (e ⋆ ap (λ (l : List Lexeme). l ++ w) (d ⋆ ap (λ (l : List Lexeme). l ++ q) hp.1)))) refl

  -- the numbers after two, and the end of the braces
  two_numbers_front : (a b : ℕ) (u us : List Lexeme)
      → (more ∙ mark CloseBrace).IsPrefix u
      → Passes within us (two_numbers_at fits a b (u ++ us))
  unfolding two_numbers_at
  two_numbers_front a b = seq_front within more (mark CloseBrace) (λ p. numbers (a ∷ b ∷ p.0)) is_num is_num is_rbrace no_lexeme no_lexeme (numbers_at fits) closed_at finds_numbers (finds_closed within) rbrace_no_num

  two_numbers_whole : (a b : ℕ) (z : Tree) (u us : List Lexeme)
      → ((more ∙ mark CloseBrace) ⇒ (λ p. numbers (a ∷ b ∷ p.0))).Is z u
      → ReadsAs within (two_numbers_at fits a b (u ++ us)) z us
  unfolding two_numbers_at
  two_numbers_whole a b z u us h = seq_whole within more (mark CloseBrace) (λ p. numbers (a ∷ b ∷ p.0)) is_num is_num is_rbrace no_lexeme no_lexeme (numbers_at fits) closed_at finds_numbers (finds_closed within) (λ y v us h g. subst (λ (l : List Lexeme). Follows is_num (l ++ us)) (sym h) refl) (λ us g. g) z u us h (all us)
    where
      all : (us : List Lexeme) → Follows no_lexeme us
      all [] = tt
      all (t ∷ us) = refl

-- ---- values in braces

-- after a first token of a value in braces there is no other number and no start of a value
abbrev pub ends_item : Lexeme → Bool
ends_item (Mark Comma) = true
ends_item (Mark Colon) = true
ends_item (Mark CloseBrace) = true
ends_item t = false

follows : (t : Lexeme) (us : List Lexeme) → ends_item t ≡ true → follows_name (t ∷ us) ≡ true
unfolding follows_name
follows (Mark Comma) us e = refl
follows (Mark Colon) us e = refl
follows (Mark CloseBrace) us e = refl
follows t us e = absurd cc

follows_not : (fits' : ℕ → Bool) (t : Lexeme) (us : List Lexeme) → starts fits' t ≡ true → follows_name (t ∷ us) ≡ false
unfolding follows_name
follows_not fits' (Mark Comma) us e = absurd cc
follows_not fits' (Mark Colon) us e = absurd cc
follows_not fits' (Mark CloseBrace) us e = absurd cc
follows_not fits' t us e = refl

-- a body of braces has an end
body_not_empty : {A : Type 0} (a : Grammar A) (f : List A × Unit {0} → Tree) (z : Tree)
    → ((listed a ∙ mark CloseBrace) ⇒ f).Is z []
    → ⊥
body_not_empty a f z (p, d, ([], w, e, ha, hr)) = let g = e ⋆ hr in absurd cc
body_not_empty a f z (p, d, (t ∷ q, w, e, ha, hr)) = absurd cc

body_long : {A : Type 0} (a : Grammar A)
    → IsSolid a
    → (f : List A × Unit {0} → Tree) (z : Tree) (s : Lexeme)
    → ((listed a ∙ mark CloseBrace) ⇒ f).Is z (s ∷ [])
    → ⊥
body_long a solid f z s (p, d, ([], w, e, (x, dx, ([], y, ex, hx, hy)), hr)) = solid.no_empty x.0 hx
body_long a solid f z s (p, d, ([], w, e, (x, dx, (t ∷ y', y, ex, hx, hy)), hr)) = absurd cc
body_long a solid f z s (p, d, (t ∷ [], w, e, ha, hr)) = let g = e ⋆ ap (λ (l : List Lexeme). t ∷ l) hr in absurd cc
body_long a solid f z s (p, d, (t ∷ t' ∷ q, w, e, ha, hr)) = absurd cc

module _ (within : Limit → Type 0) (fits fits' : ℕ → Bool)
    (room : (n : ℕ) → fits' n ≡ true → within Integer → fits n ≡ true) (v : Grammar Tree) (read : Reader Tree)
    (fv : Finds within v (starts fits') goes_on read) (solid : IsSolid v)
    (one_number : (a : ℕ) → fits' a ≡ true → v.IsPrefix (Number a ∷ []))
    (one_name : (x : List ℕ) → v.IsPrefix (Ident x ∷ []))
    (after_number : (a : ℕ) → Next v (Number a) (λ t. ends_item t ≡ true))
    (after_name : (x : List ℕ) → Next v (Ident x) (λ t. ends_item t ≡ true)) where
  member_solid : IsSolid (token Ident ∙ v)
  member_solid = record { no_empty = go }
    where
      go : (m : List ℕ × Tree) → (token Ident ∙ v).Is m [] → ⊥
      go m (p, q, e, hp, hq) = let d = e ⋆ ap (λ (l : List Lexeme). l ++ q) hp in absurd cc

  pub fi :
      Finds within ((listed v ∙ mark CloseBrace) ⇒ (λ p. items (trees p.0))) (starts fits') no_lexeme (items_at read)
  unfolding items_at
  fi = finds_body within v (starts fits') goes_on read fv refl refl solid (λ p. items (trees p.0))

  pub ff :
      Finds within ((listed (token Ident ∙ v) ∙ mark CloseBrace) ⇒ (λ p. fields (named_trees p.0))) is_ident no_lexeme (fields_at read)
  unfolding fields_at
  ff = finds_body within (token Ident ∙ v) is_ident goes_on (named_at read) (finds_named within v (starts fits') goes_on read fv) refl refl member_solid (λ p. fields (named_trees p.0))

  -- after the first token of items
  items_next : (s : Lexeme)
      → Next v s (λ t. ends_item t ≡ true)
      → Next (listed v ∙ mark CloseBrace) s (λ t. ends_item t ≡ true)
  items_next s n = body_next within v (starts fits') goes_on read fv refl refl solid (λ p. items (trees p.0)) s (λ t. ends_item t ≡ true) n (λ x h. (refl, refl))

  -- after the first name of components
  member_next : (x : List ℕ) → Next (token Ident ∙ v) (Ident x) (λ t. (starts fits') t ≡ true)
  member_next x = record { next = go }
    where
      go : (t : Lexeme) (u : List Lexeme) → (token Ident ∙ v).IsPrefix (Ident x ∷ t ∷ u) → (starts fits') t ≡ true
      go t u (inl (inl e)) = absurd cc
      go t u (inl (inr (y, e))) = absurd cc
      go t u (inr (y, p, [], e, hp, hq)) = let d = e ⋆ ap (λ (l : List Lexeme). l ++ []) hp in absurd cc
      go t u (inr (y, p, s ∷ w, e, hp, hq)) = subst (λ (t : Lexeme). (starts fits') t ≡ true) (sym (second_is (Ident x) t (Ident y) s u w (e ⋆ ap (λ (l : List Lexeme). l ++ s ∷ w) hp))) (fv.first s w hq)

  fields_next : (x : List ℕ)
      → Next (listed (token Ident ∙ v) ∙ mark CloseBrace) (Ident x) (λ t. (starts fits') t ≡ true)
  fields_next x = body_next within (token Ident ∙ v) is_ident goes_on (named_at read) (finds_named within v (starts fits') goes_on read fv) refl refl member_solid (λ p. fields (named_trees p.0)) (Ident x) (λ t. (starts fits') t ≡ true) (member_next x)
      (λ m h. absurd (alone m h))
    where
      alone : (m : List ℕ × Tree) → (token Ident ∙ v).Is m (Ident x ∷ []) → ⊥
      alone m (p, [], e, hp, hq) = solid.no_empty m.1 hq
      alone m (p, s ∷ q, e, hp, hq) = let d = e ⋆ ap (λ (l : List Lexeme). l ++ s ∷ q) hp in absurd cc

  -- ---- fronts

  by_name_passes : (b : Bool) (us ts : List Lexeme)
      → Passes within us (items_at read ts)
      → Passes within us (fields_at read ts)
      → Passes within us (by_name_at b read ts)
  unfolding by_name_at
  by_name_passes true us ts hi hf = hi
  by_name_passes false us ts hi hf = hf

  to_items : (ts us : List Lexeme) → Passes within us (items_at read ts) → Passes within us (by_name_at true read ts)
  unfolding by_name_at
  to_items ts us h = h

  to_fields : (ts us : List Lexeme) → Passes within us (fields_at read ts) → Passes within us (by_name_at false read ts)
  unfolding by_name_at
  to_fields ts us h = h

  items_read_as : (ts us : List Lexeme) (z : Tree)
      → ReadsAs within (items_at read ts) z us
      → ReadsAs within (by_name_at true read ts) z us
  unfolding by_name_at
  items_read_as ts us z h = h

  fields_read_as : (ts us : List Lexeme) (z : Tree)
      → ReadsAs within (fields_at read ts) z us
      → ReadsAs within (by_name_at false read ts) z us
  unfolding by_name_at
  fields_read_as ts us z h = h

  items_one : (x : List ℕ) → (listed v ∙ mark CloseBrace).IsPrefix (Ident x ∷ [])
  items_one x = inl (inl (one_name x))

  fields_one : (x : List ℕ) → (listed (token Ident ∙ v) ∙ mark CloseBrace).IsPrefix (Ident x ∷ [])
  fields_one x = inl (inl (inl (inr (x, refl))))

  two_shrink : (a b : ℕ) (us : List Lexeme) → Passes within us (two_numbers_at fits a b us)
  two_shrink a b us = two_numbers_front within fits fits' room a b [] us (inl ([], [], [], refl, refl, inl refl))

  -- after a number that may follow a front
  number_shrinks : (a : ℕ) (us : List Lexeme) → Passes within (Number a ∷ us) (by_number_at fits read a us)
  unfolding by_number_at
  number_shrinks a [] = fi.front [] (Number a ∷ []) fi.nil
  number_shrinks a (Number b ∷ us) =
      passes_on within (Number a ∷ Number b ∷ us) (Number b ∷ us) (fitting (fits b) (Number b ∷ us) (two_numbers_at fits a b us)) (omega arith)
      (fitting_shrinks within (fits b) b us (two_numbers_at fits a b us) (two_shrink a b us))
  number_shrinks a (t ∷ us) = fi.front [] (Number a ∷ t ∷ us) fi.nil

  -- after a number of a front
  one_behind : (a : ℕ) → fits' a ≡ true → (us : List Lexeme) → Passes within us (by_number_at fits read a us)
  unfolding by_number_at
  one_behind a f [] = fi.front (Number a ∷ []) [] (inl (inl (one_number a f)))
  one_behind a f (Number b ∷ us) = fitting_shrinks within (fits b) b us (two_numbers_at fits a b us) (two_shrink a b us)
  one_behind a f (t ∷ us) = fi.front (Number a ∷ []) (t ∷ us) (inl (inl (one_number a f)))

  number_one : (a : ℕ)
      → fits' a ≡ true
      → (us : List Lexeme)
      → Passes within us (fitting (fits a) (Number a ∷ us) (by_number_at fits read a us))
  number_one a f us = fitting_passes within (fits a) us (Number a ∷ us) (by_number_at fits read a us) (room a f) (one_behind a f us)

  name_one : (x : List ℕ) (us : List Lexeme) → Passes within us (by_name_at (follows_name us) read (Ident x ∷ us))
  name_one x us = by_name_passes (follows_name us) us (Ident x ∷ us) (fi.front (Ident x ∷ []) us (items_one x)) (ff.front (Ident x ∷ []) us (fields_one x))

  pub braced_shrinks : (us : List Lexeme) → Passes within us (braced_at fits read us)
  unfolding braced_at
  braced_shrinks [] = fi.front [] [] fi.nil
  braced_shrinks ((Mark CloseBrace) ∷ us) = omega arith
  braced_shrinks (Number a ∷ us) = fitting_passes_on within (fits a) (Number a ∷ us) (Number a ∷ us) (by_number_at fits read a us) (omega arith) (number_shrinks a us)
  braced_shrinks (Ident x ∷ us) = passes_on within (Ident x ∷ us) us (by_name_at (follows_name us) read (Ident x ∷ us)) (omega arith) (name_one x us)
  braced_shrinks (t ∷ us) = fi.front [] (t ∷ us) fi.nil

  pub items_front : (u us : List Lexeme)
      → (listed v ∙ mark CloseBrace).IsPrefix u
      → Passes within us (braced_at fits read (u ++ us))
  unfolding braced_at by_number_at
  items_front [] us h = braced_shrinks us
  items_front ((Mark CloseBrace) ∷ u) us h = let e = fi.first (Mark CloseBrace) u h in absurd cc
  items_front (Number a ∷ []) us h = number_one a (fi.first (Number a) [] h) us
  items_front (Number a ∷ Number b ∷ u) us h = let e = (items_next (Number a) (after_number a)).next (Number b) u h in absurd cc
  items_front (Number a ∷ t ∷ u) us h = fitting_passes within (fits a) us (Number a ∷ t ∷ (u ++ us)) (items_at read (Number a ∷ t ∷ (u ++ us))) (room a (fi.first (Number a) (t ∷ u) h)) (fi.front (Number a ∷ t ∷ u) us h)
  items_front (Ident x ∷ []) us h = name_one x us
  items_front (Ident x ∷ t ∷ u) us h = subst (λ (b : Bool). Passes within us (by_name_at b read (Ident x ∷ t ∷ (u ++ us)))) (sym (follows t (u ++ us) ((items_next (Ident x) (after_name x)).next t u h))) (to_items (Ident x ∷ t ∷ (u ++ us)) us (fi.front (Ident x ∷ t ∷ u) us h))
  items_front (t ∷ u) us h = fi.front (t ∷ u) us h

  pub fields_front : (u us : List Lexeme)
      → (listed (token Ident ∙ v) ∙ mark CloseBrace).IsPrefix u
      → Passes within us (braced_at fits read (u ++ us))
  unfolding braced_at
  fields_front [] us h = braced_shrinks us
  fields_front (Ident x ∷ []) us h = name_one x us
  fields_front (Ident x ∷ t ∷ u) us h = subst (λ (b : Bool). Passes within us (by_name_at b read (Ident x ∷ t ∷ (u ++ us)))) (sym (follows_not fits' t (u ++ us) ((fields_next x).next t u h))) (to_fields (Ident x ∷ t ∷ (u ++ us)) us (ff.front (Ident x ∷ t ∷ u) us h))
  fields_front (t ∷ u) us h = let e = ff.first t u h in absurd cc

  -- two numbers or more
  at_two : (a b : ℕ)
      → fits' a ≡ true
      → fits' b ≡ true
      → (w u us : List Lexeme)
      → u ≡ Number a ∷ Number b ∷ w
      → (many (number_of fits') ∙ mark CloseBrace).IsPrefix w
      → Passes within us (braced_at fits read (u ++ us))
  unfolding braced_at by_number_at
  at_two a b fa fb w u us e h =
      subst (λ (l : List Lexeme). Passes within us (braced_at fits read (l ++ us))) (sym e)
      (fitting_passes within (fits a) us (Number a ∷ Number b ∷ (w ++ us)) (fitting (fits b) (Number b ∷ (w ++ us)) (two_numbers_at fits a b (w ++ us))) (room a fa)
      (fitting_passes within (fits b) us (Number b ∷ (w ++ us)) (two_numbers_at fits a b (w ++ us)) (room b fb) (two_numbers_front within fits fits' room a b w us h)))

  at_one : (a : ℕ)
      → fits' a ≡ true
      → (u us : List Lexeme)
      → u ≡ Number a ∷ []
      → Passes within us (braced_at fits read (u ++ us))
  unfolding braced_at
  at_one a f u us e = subst (λ (l : List Lexeme). Passes within us (braced_at fits read (l ++ us))) (sym e) (number_one a f us)

  pub numbers_front : (u us : List Lexeme)
      → (three_numbers fits' ∙ mark CloseBrace).IsPrefix u
      → Passes within us (braced_at fits read (u ++ us))
  numbers_front u us (inl (inl (inl e))) = subst (λ (l : List Lexeme). Passes within us (braced_at fits read (l ++ us))) (sym e) (braced_shrinks us)
  numbers_front u us (inl (inl (inr (a, f, e)))) = at_one a f u us e
  numbers_front u us (inl (inr (a, p, q, e, hp, inl (inl d)))) = at_one a hp.0 u us (e ⋆ ap (λ (l : List Lexeme). l ++ q) hp.1 ⋆ ap (λ (l : List Lexeme). Number a ∷ l) d)
  numbers_front u us (inl (inr (a, p, q, e, hp, inl (inr (b, f, d))))) = at_two a b hp.0 f [] u us (e ⋆ ap (λ (l : List Lexeme). l ++ q) hp.1 ⋆ ap (λ (l : List Lexeme). Number a ∷ l) d) (inl ([], [], [], refl, refl, inl refl))
  numbers_front u us (inl (inr (a, p, q, e, hp, inr (b, p', q', d, hp', h)))) =
      at_two a b hp.0 hp'.0 q' u us (e ⋆ ap (λ (l : List Lexeme). l ++ q) hp.1 ⋆ ap (λ (l : List Lexeme). Number a ∷ l) (d ⋆ ap (λ (l : List Lexeme). l ++ q') hp'.1)) (inl h)
  numbers_front u us (inr (x, p, q, e, (p1, q1, e1, hp1, (p2, q2, e2, hp2, hm)), hq)) =
      at_two x.0 x.1.0 hp1.0 hp2.0 (q2 ++ q) u us
      (e ⋆ ap (λ (l : List Lexeme). l ++ q) (e1 ⋆ ap (λ (l : List Lexeme). l ++ q1) hp1.1 ⋆ ap (λ (l : List Lexeme). Number x.0 ∷ l) (e2 ⋆ ap (λ (l : List Lexeme). l ++ q2) hp2.1)))
      (inr (x.1.1, q2, q, refl, hm, hq))

  -- ---- wholes

  no_end : (us : List Lexeme) → Follows no_lexeme us
  no_end [] = tt
  no_end (t ∷ us) = refl

  pub items_whole : (z : Tree) (u us : List Lexeme)
      → ((listed v ∙ mark CloseBrace) ⇒ (λ p. items (trees p.0))).Is z u
      → ReadsAs within (braced_at fits read (u ++ us)) z us
  unfolding braced_at by_number_at
  items_whole z [] us h = absurd (body_not_empty v (λ p. items (trees p.0)) z h)
  items_whole z ((Mark CloseBrace) ∷ u) us h = let e = fi.first (Mark CloseBrace) u (fi.part z ((Mark CloseBrace) ∷ u) h) in absurd cc
  items_whole z (Number a ∷ []) us h = absurd (body_long v solid (λ p. items (trees p.0)) z (Number a) h)
  items_whole z (Number a ∷ Number b ∷ u) us h = let e = (items_next (Number a) (after_number a)).next (Number b) u (fi.part z (Number a ∷ Number b ∷ u) h) in absurd cc
  items_whole z (Number a ∷ t ∷ u) us h =
      fitting_reads_as within (fits a) (Number a ∷ t ∷ (u ++ us)) us (items_at read (Number a ∷ t ∷ (u ++ us))) z (room a (fi.first (Number a) (t ∷ u) (fi.part z (Number a ∷ t ∷ u) h))) (fi.whole z (Number a ∷ t ∷ u) us h (no_end us))
  items_whole z (Ident x ∷ []) us h = absurd (body_long v solid (λ p. items (trees p.0)) z (Ident x) h)
  items_whole z (Ident x ∷ t ∷ u) us h =
      subst (λ (b : Bool). ReadsAs within (by_name_at b read (Ident x ∷ t ∷ (u ++ us))) z us) (sym (follows t (u ++ us) ((items_next (Ident x) (after_name x)).next t u (fi.part z (Ident x ∷ t ∷ u) h)))) (items_read_as (Ident x ∷ t ∷ (u ++ us)) us z (fi.whole z (Ident x ∷ t ∷ u) us h (no_end us)))
  items_whole z (t ∷ u) us h = fi.whole z (t ∷ u) us h (no_end us)

  pub fields_whole : (z : Tree) (u us : List Lexeme)
      → ((listed (token Ident ∙ v) ∙ mark CloseBrace) ⇒ (λ p. fields (named_trees p.0))).Is z u
      → ReadsAs within (braced_at fits read (u ++ us)) z us
  unfolding braced_at
  fields_whole z [] us h = absurd (body_not_empty (token Ident ∙ v) (λ p. fields (named_trees p.0)) z h)
  fields_whole z (Ident x ∷ []) us h = absurd (body_long (token Ident ∙ v) member_solid (λ p. fields (named_trees p.0)) z (Ident x) h)
  fields_whole z (Ident x ∷ t ∷ u) us h =
      subst (λ (b : Bool). ReadsAs within (by_name_at b read (Ident x ∷ t ∷ (u ++ us))) z us) (sym (follows_not fits' t (u ++ us) ((fields_next x).next t u (ff.part z (Ident x ∷ t ∷ u) h)))) (fields_read_as (Ident x ∷ t ∷ (u ++ us)) us z (ff.whole z (Ident x ∷ t ∷ u) us h (no_end us)))
  fields_whole z (t ∷ u) us h = let e = ff.first t u (ff.part z (t ∷ u) h) in absurd cc

  pub numbers_whole : (z : Tree) (u us : List Lexeme)
      → ((three_numbers fits' ∙ mark CloseBrace) ⇒ (λ p. numbers (p.0.0 ∷ p.0.1.0 ∷ p.0.1.1))).Is z u
      → ReadsAs within (braced_at fits read (u ++ us)) z us
  unfolding braced_at by_number_at
  numbers_whole z u us (x, d, (p, q, e, (p1, q1, e1, hp1, (p2, q2, e2, hp2, hm)), hq)) =
      let a = x.0.0 in
      let b = x.0.1.0 in
      let w = (q2 ++ q) ++ us in
      subst (λ (l : List Lexeme). ReadsAs within (braced_at fits read (l ++ us)) z us)
      (sym (e ⋆ ap (λ (l : List Lexeme). l ++ q) (e1 ⋆ ap (λ (l : List Lexeme). l ++ q1) hp1.1 ⋆ ap (λ (l : List Lexeme). Number x.0.0 ∷ l) (e2 ⋆ ap (λ (l : List Lexeme). l ++ q2) hp2.1))))
      (fitting_reads_as within (fits a) (Number a ∷ Number b ∷ w) us (fitting (fits b) (Number b ∷ w) (two_numbers_at fits a b w)) z (room a hp1.0)
      (fitting_reads_as within (fits b) (Number b ∷ w) us (two_numbers_at fits a b w) z (room b hp2.0)
      (two_numbers_whole within fits fits' room a b z (q2 ++ q) us ((x.0.1.1, x.1), d, (q2, q, refl, hm, hq)))))
