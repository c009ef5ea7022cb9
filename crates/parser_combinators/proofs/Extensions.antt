-- What the loop over a list with an extension marker keeps.
use Rattle.std.proofs.Common.{◌≡◌, ℕ, zero, suc, ◌≤◌, Bool, true, List, [], ◌∷◌, ◌++◌, length, Option, Some, None, Ok, Err, refl, sym, ap, ◌∙◌ as ◌⋆◌, append_assoc, arith}
use Rattle.std.proofs.lemmas.List.{append-nil}
use Rattle.text.specs.declared.token.Mark.TheVariants.{Comma, Ellipsis}
use Rattle.grammar.specs.Lexeme.{Lexeme, Mark}
use Rattle.grammar.specs.Reading.{Read, Reader, ◌>>=◌, with_front, next_comma, Extensible, next_marker, additions_at, put, or_marker, more_at, extensible_at, rootless_at, with_root}
use Rattle.grammar.specs.Lexemes.{is_ellipsis}
use Rattle.grammar.specs.Loops.{is_comma}
use Rattle.grammar.specs.Manies.{is_begun_by}
use Rattle.grammar.specs.Rules.{either}
use Rattle.parser_combinators.specs.declared.read_error.ReadError.{ReadError}
use Rattle.parser_combinators.specs.declared.read_error.ReadError.TheVariants as errors
use Rattle.parser_combinators.specs.Given.{Fails}
use Rattle.grammar.specs.Short.{RestAtMost, Short}

pub no_front : {A : Type 0} (r : Read (List A)) → with_front [] r ≡ r
no_front (Ok x) = refl
no_front (Err e) = refl

pub no_root : {A B : Type 0} (r : Read (Extensible A B)) → with_root [] r ≡ r
no_root (Ok x) = refl
no_root (Err e) = refl

regroup : {A B : Type 0} (front : List A) (x : A) (r : Read (Extensible A B))
    → with_root front (put x r) ≡ with_root (front ++ x ∷ []) r
regroup front x (Ok e) = ap (λ (l : List _). Ok ((l, e.0.1), e.1)) (sym (append_assoc front (x ∷ []) e.0.0))
regroup front x (Err e) = refl

module _ {A B : Type 0} (ra : Reader A) (rb : Reader B) (s : Short ra) where
  or_same : (o : Option (List Lexeme)) (ts : List Lexeme) (f g : Reader (Extensible A B))
      → ((us : List Lexeme) → length us ≤ length ts → f us ≡ g us)
      → or_marker ra rb f o ts ≡ or_marker ra rb g o ts
  or_same (Some rest) ts f g h = refl
  or_same None ts f g h = go (ra ts) (s ts)
    where
      go : (r : Read A) → RestAtMost (length ts) r → (r >>= λ x. put x.0 (f x.1)) ≡ (r >>= λ x. put x.0 (g x.1))
      go (Ok x) le = ap (put x.0) (h x.1 le)
      go (Err e) le = refl

  any_fuel : (k j : ℕ) (ts : List Lexeme) → length ts ≤ k → length ts ≤ j → more_at ra rb k ts ≡ more_at ra rb j ts
  unfolding more_at
  any_fuel zero zero ts p q = refl
  any_fuel zero (suc j) [] p q = refl
  any_fuel zero (suc j) (t ∷ ts) p q = absurd (omega arith)
  any_fuel (suc k) zero [] p q = refl
  any_fuel (suc k) zero (t ∷ ts) p q = absurd (omega arith)
  any_fuel (suc k) (suc j) [] p q = refl
  any_fuel (suc k) (suc j) (Mark Comma ∷ ts) p q = or_same (next_marker ts) ts (more_at ra rb k) (more_at ra rb j) (λ us le. any_fuel k j us (omega arith) (omega arith))
  any_fuel (suc k) (suc j) (t ∷ ts) p q = refl

  step : (ts rest : List Lexeme)
      → next_comma ts ≡ Some rest
      → more_at ra rb (length ts) ts ≡ or_marker ra rb (λ us. more_at ra rb (length us) us) (next_marker rest) rest
  unfolding more_at
  step ts rest e =
      ap (λ (l : List Lexeme). more_at ra rb (length l) l) (is_comma ts rest e)
      ⋆ or_same (next_marker rest) rest (more_at ra rb (length rest)) (λ us. more_at ra rb (length us) us) (λ us le. any_fuel (length rest) (length us) us le (omega arith))

  pub more_marked : (ts rest after_marker : List Lexeme) (front : List A)
      → next_comma ts ≡ Some rest
      → next_marker rest ≡ Some after_marker
      → with_root front (more_at ra rb (length ts) ts) ≡ with_root front (additions_at rb after_marker)
  more_marked ts rest after_marker front e m = ap (with_root front) (step ts rest e ⋆ ap (λ (o : Option (List Lexeme)). or_marker ra rb (λ us. more_at ra rb (length us) us) o rest) m)

  plain : (ts rest : List Lexeme) (front : List A)
      → next_comma ts ≡ Some rest
      → next_marker rest ≡ None
      →
      with_root front (more_at ra rb (length ts) ts) ≡ with_root front (ra rest >>= λ x. put x.0 (more_at ra rb (length x.1) x.1))
  plain ts rest front e m = ap (with_root front) (step ts rest e ⋆ ap (λ (o : Option (List Lexeme)). or_marker ra rb (λ us. more_at ra rb (length us) us) o rest) m)

  pub more_read : (ts rest : List Lexeme) (x : A × List Lexeme) (front : List A) (total : Read (Extensible A B))
      → next_comma ts ≡ Some rest
      → next_marker rest ≡ None
      → ra rest ≡ Ok x
      → with_root front (more_at ra rb (length ts) ts) ≡ total
      → with_root (front ++ x.0 ∷ []) (more_at ra rb (length x.1) x.1) ≡ total
  more_read ts rest x front total e m r h =
      sym (regroup front x.0 (more_at ra rb (length x.1) x.1))
      ⋆ ap (λ (q : Read A). with_root front (q >>= λ x. put x.0 (more_at ra rb (length x.1) x.1))) (sym r)
      ⋆ sym (plain ts rest front e m) ⋆ h

  pub more_fails : (ts rest : List Lexeme) (f : ReadError) (front : List A) (total : Read (Extensible A B))
      → next_comma ts ≡ Some rest
      → next_marker rest ≡ None
      → Fails f (ra rest)
      → with_root front (more_at ra rb (length ts) ts) ≡ total
      → Fails f total
  more_fails ts rest errors.Memory front total e m r h = tt
  more_fails ts rest (errors.Unexpected k) front total e m r h = sym h ⋆ plain ts rest front e m ⋆ ap (λ (q : Read A). with_root front (q >>= λ x. put x.0 (more_at ra rb (length x.1) x.1))) r
  more_fails ts rest (errors.Limit l k) front total e m r h = sym h ⋆ plain ts rest front e m ⋆ ap (λ (q : Read A). with_root front (q >>= λ x. put x.0 (more_at ra rb (length x.1) x.1))) r

pub more_ends : {A B : Type 0} (ra : Reader A) (rb : Reader B) (ts : List Lexeme) (front : List A)
    (total : Read (Extensible A B))
    → next_comma ts ≡ None
    → with_root front (more_at ra rb (length ts) ts) ≡ total
    → total ≡ Ok ((front, None), ts)
unfolding more_at next_comma
more_ends ra rb [] front total e h = sym h ⋆ ap (λ (l : List _). Ok ((l, None), [])) (append-nil front)
more_ends ra rb (Mark Comma ∷ ts) front total e h = absurd cc
more_ends ra rb (t ∷ ts) front total e h = sym h ⋆ ap (λ (l : List _). Ok ((l, None), t ∷ ts)) (append-nil front)

-- ---- the first of a list

pub marker_first : {A B : Type 0} (ra : Reader A) (rb : Reader B) (ts after_marker : List Lexeme)
    → next_marker ts ≡ Some after_marker
    → rootless_at ra rb ts ≡ with_root [] (additions_at rb after_marker)
unfolding rootless_at
marker_first ra rb ts after_marker e = ap (λ (o : Option (List Lexeme)). or_marker ra rb (λ us. more_at ra rb (length us) us) o ts) e ⋆ sym (no_root (additions_at rb after_marker))

pub no_marker : {A B : Type 0} (ra : Reader A) (rb : Reader B) (ts : List Lexeme)
    → next_marker ts ≡ None
    → rootless_at ra rb ts ≡ extensible_at ra rb ts
unfolding rootless_at extensible_at
no_marker ra rb ts e = ap (λ (o : Option (List Lexeme)). or_marker ra rb (λ us. more_at ra rb (length us) us) o ts) e

pub marker_begins : (begins : Lexeme → Bool) (ts after_marker : List Lexeme)
    → next_marker ts ≡ Some after_marker
    → is_begun_by (either is_ellipsis begins) ts ≡ true
unfolding next_marker
marker_begins begins [] after_marker e = absurd cc
marker_begins begins (Mark Ellipsis ∷ ts) after_marker e = refl
marker_begins begins (t ∷ ts) after_marker e = absurd cc

pub part_begins : (begins : Lexeme → Bool) (ts : List Lexeme)
    → next_marker ts ≡ None
    → is_begun_by (either is_ellipsis begins) ts ≡ is_begun_by begins ts
unfolding next_marker
part_begins begins [] e = refl
part_begins begins (Mark Ellipsis ∷ ts) e = absurd cc
part_begins begins (t ∷ ts) e = refl
