-- No reader leaves more lexemes than it was given: the law of each part.
use Rattle.std.proofs.Common.{◌≡◌, ℕ, zero, suc, ◌≤◌, Bool, true, false, List, [], ◌∷◌, length, Option, Some, None, Ok, Err, refl, ap, subst, arith}
use Rattle.text.specs.declared.token.Mark.TheVariants.{Colon, Comma, Ellipsis, OpenBrace, CloseBrace, OpenParenthesis, CloseParenthesis, OpenVersion, CloseVersion}
use Rattle.grammar.specs.Lexeme.{Lexeme, Ident, Number, Mark}
use Rattle.grammar.specs.Reading.{Read, Reader, ◌>>=◌, fitting, opened, open_at, close_at, closed_at, parens_at, inside_at, braces_at, named_at, after_commas_at, listed_at, Extensible, next_marker, additions_at, or_marker, more_at, extensible_at, rootless_at, colon_at, close_version_at, version_at, version_parts_at, addition_at}
use Rattle.grammar.specs.Loops.{Shrinks}
use Rattle.grammar.specs.Parts.{chosen_read, perhaps}

-- a result leaves at most n lexemes
abbrev pub RestAtMost : {A : Type 0} → ℕ → Read A → Type 0
RestAtMost n (Ok x) = length x.1 ≤ n
RestAtMost n (Err e) = Unit {0}

abbrev pub Short : {A : Type 0} → Reader A → Type 0
Short read = (ts : List Lexeme) → RestAtMost (length ts) (read ts)

pub less : {A : Type 0} (m n : ℕ) (r : Read A) → m ≤ n → RestAtMost m r → RestAtMost n r
less m n (Ok x) le h = omega arith
less m n (Err e) le h = tt

pub bind_leaves : {A B : Type 0} (n : ℕ) (r : Read A) (f : A × List Lexeme → Read B)
    → RestAtMost n r
    → ((x : A × List Lexeme) → RestAtMost (length x.1) (f x))
    → RestAtMost n (r >>= f)
bind_leaves n (Ok x) f h k = less (length x.1) n (f x) h (k x)
bind_leaves n (Err e) f h k = tt

same : (n : ℕ) → n ≤ n
same n = omega arith

one_less : (t : Lexeme) (ts : List Lexeme) → length ts ≤ length (t ∷ ts)
one_less t ts = omega arith

pub shrinks_of : {A : Type 0} (read : Reader A) → Short read → Shrinks read
shrinks_of {A} read s = record { shorter = λ ts x e. subst (λ (r : Read A). RestAtMost (length ts) r) e (s ts) }

pub short_of : {A : Type 0} (read : Reader A) → Shrinks read → Short read
short_of {A} read s ts = go (read ts) refl
  where
    go : (r : Read A) → read ts ≡ r → RestAtMost (length ts) r
    go (Ok x) e = s.shorter ts x e
    go (Err f) e = tt

closed_short : Short closed_at
unfolding closed_at
closed_short [] = tt
closed_short (Mark CloseBrace ∷ ts) = one_less (Mark CloseBrace) ts
closed_short (t ∷ ts) = tt

open_short : Short open_at
unfolding open_at
open_short [] = tt
open_short (Mark OpenParenthesis ∷ ts) = one_less (Mark OpenParenthesis) ts
open_short (t ∷ ts) = tt

close_short : Short close_at
unfolding close_at
close_short [] = tt
close_short (Mark CloseParenthesis ∷ ts) = one_less (Mark CloseParenthesis) ts
close_short (t ∷ ts) = tt

marker_less : (ts rest : List Lexeme) → next_marker ts ≡ Some rest → length rest ≤ length ts
unfolding next_marker
marker_less [] rest e = absurd cc
marker_less (Mark Ellipsis ∷ ts) rest e = let d : ts ≡ rest = cc in omega (arith, ap length d)
marker_less (t ∷ ts) rest e = absurd cc

colon_short : Short colon_at
unfolding colon_at
colon_short [] = tt
colon_short (Mark Colon ∷ ts) = one_less (Mark Colon) ts
colon_short (t ∷ ts) = tt

close_version_short : Short close_version_at
unfolding close_version_at
close_version_short [] = tt
close_version_short (Mark CloseVersion ∷ ts) = one_less (Mark CloseVersion) ts
close_version_short (t ∷ ts) = tt

pub fitting_leaves : {A : Type 0} (n : ℕ) (b : Bool) (ts : List Lexeme) (r : Read A)
    → RestAtMost n r
    → RestAtMost n (fitting b ts r)
fitting_leaves n true ts r h = h
fitting_leaves n false ts r h = tt

version_short : (fits : ℕ → Bool) → Short (version_at fits)
unfolding version_at
version_short fits [] = same 0
version_short fits (Number n ∷ ts) = fitting_leaves (length (Number n ∷ ts)) (fits n) (Number n ∷ ts) (colon_at ts)
    (less (length ts) (length (Number n ∷ ts)) (colon_at ts) (one_less (Number n) ts) (colon_short ts))
version_short fits (t ∷ ts) = same (length (t ∷ ts))

module _ {A : Type 0} (read : Reader A) (s : Short read) where
  pub parens_short : Short (parens_at read)
  unfolding parens_at
  parens_short ts = bind_leaves (length ts) (open_at ts) _ (open_short ts)
      (λ o. bind_leaves (length o.1) (read o.1) _ (s o.1)
      (λ x. bind_leaves (length x.1) (close_at x.1) _ (close_short x.1) (λ c. same (length c.1))))

  pub inside_short : Short (inside_at read)
  unfolding inside_at
  inside_short ts = bind_leaves (length ts) (read ts) _ (s ts)
      (λ x. bind_leaves (length x.1) (closed_at x.1) _ (closed_short x.1) (λ c. same (length c.1)))

  opened_short : (n k : ℕ) (ts : List Lexeme) (r : Read A) → RestAtMost k r → RestAtMost k (opened n ts r)
  opened_short zero k ts r h = tt
  opened_short (suc n) k ts r h = h

  pub braces_short : (n : ℕ) → Short (braces_at n read)
  unfolding braces_at
  braces_short n [] = tt
  braces_short n (Mark OpenBrace ∷ ts) = opened_short n (length (Mark OpenBrace ∷ ts)) (Mark OpenBrace ∷ ts)
      (inside_at read ts) (less (length ts) (length (Mark OpenBrace ∷ ts)) (inside_at read ts)
      (one_less (Mark OpenBrace) ts) (inside_short ts))
  braces_short n (t ∷ ts) = tt

  pub named_short : Short (named_at read)
  unfolding named_at
  named_short [] = tt
  named_short (Ident x ∷ ts) = less (length ts) (length (Ident x ∷ ts)) _ (one_less (Ident x) ts)
      (bind_leaves (length ts) (read ts) _ (s ts) (λ v. same (length v.1)))
  named_short (t ∷ ts) = tt

  pub optional_short : (begins : Lexeme → Bool) → Short (perhaps begins read)
  optional_short begins [] = same 0
  optional_short begins (t ∷ ts) = go (begins t)
    where
      go : (b : Bool)
          → RestAtMost (length (t ∷ ts)) (chosen_read b (read (t ∷ ts) >>= λ x. Ok (Some x.0, x.1)) (Ok (None, t ∷ ts)))
      go true = bind_leaves (length (t ∷ ts)) (read (t ∷ ts)) _ (s (t ∷ ts)) (λ x. same (length x.1))
      go false = same (length (t ∷ ts))

  pub commas_short : (k : ℕ) → Short (after_commas_at read k)
  unfolding after_commas_at
  commas_short zero ts = same (length ts)
  commas_short (suc k) [] = same 0
  commas_short (suc k) (Mark Comma ∷ ts) = less (length ts) (length (Mark Comma ∷ ts)) _ (one_less (Mark Comma) ts)
      (bind_leaves (length ts) (read ts) _ (s ts)
      (λ x. bind_leaves (length x.1) (after_commas_at read k x.1) _ (commas_short k x.1) (λ xs. same (length xs.1))))
  commas_short (suc k) (t ∷ ts) = same (length (t ∷ ts))

  pub listed_short : Short (listed_at read)
  unfolding listed_at
  listed_short ts = bind_leaves (length ts) (read ts) _ (s ts)
      (λ x. bind_leaves (length x.1) (after_commas_at read (length x.1) x.1) _ (commas_short (length x.1) x.1)
      (λ xs. same (length xs.1)))

  pub version_parts_short : (fits : ℕ → Bool) → Short (version_parts_at fits read)
  unfolding version_parts_at
  version_parts_short fits ts = bind_leaves (length ts) (version_at fits ts) _ (version_short fits ts)
      (λ v. bind_leaves (length v.1) (listed_at read v.1) _ (listed_short v.1)
      (λ xs. bind_leaves (length xs.1) (close_version_at xs.1) _ (close_version_short xs.1) (λ c. same (length c.1))))

  pub addition_short : (fits : ℕ → Bool) → Short (addition_at fits read)
  unfolding addition_at
  addition_short fits [] = bind_leaves 0 (read []) _ (s []) (λ x. same (length x.1))
  addition_short fits (Mark OpenVersion ∷ ts) = less (length ts) (length (Mark OpenVersion ∷ ts))
      (version_parts_at fits read ts) (one_less (Mark OpenVersion) ts) (version_parts_short fits ts)
  addition_short fits (t ∷ ts) = bind_leaves (length (t ∷ ts)) (read (t ∷ ts)) _ (s (t ∷ ts)) (λ x. same (length x.1))

module _ {A B : Type 0} (ra : Reader A) (rb : Reader B) (s : Short ra) (sb : Short rb) where
  additions_short : Short (additions_at {A = A} rb)
  unfolding additions_at
  additions_short ts = bind_leaves (length ts) (after_commas_at rb (length ts) ts) _ (commas_short rb sb (length ts) ts)
      (λ ys. same (length ys.1))

  after_marker : (o : Option (List Lexeme)) (ts : List Lexeme)
      → next_marker ts ≡ o
      → (more : Reader (Extensible A B))
      → Short more
      → RestAtMost (length ts) (or_marker ra rb more o ts)
  after_marker None ts e more h = bind_leaves (length ts) (ra ts) _ (s ts)
      (λ x. bind_leaves (length x.1) (more x.1) _ (h x.1) (λ m. same (length m.1)))
  after_marker (Some rest) ts e more h = less (length rest) (length ts) (additions_at rb rest) (marker_less ts rest e)
      (additions_short rest)

  pub more_short : (k : ℕ) → Short (more_at ra rb k)
  unfolding more_at
  more_short zero ts = same (length ts)
  more_short (suc k) [] = same 0
  more_short (suc k) (Mark Comma ∷ ts) = less (length ts) (length (Mark Comma ∷ ts)) _ (one_less (Mark Comma) ts)
      (after_marker (next_marker ts) ts refl (more_at ra rb k) (more_short k))
  more_short (suc k) (t ∷ ts) = same (length (t ∷ ts))

  pub extensible_short : Short (extensible_at ra rb)
  unfolding extensible_at
  extensible_short ts = bind_leaves (length ts) (ra ts) _ (s ts)
      (λ x. bind_leaves (length x.1) (more_at ra rb (length x.1) x.1) _ (more_short (length x.1) x.1)
      (λ m. same (length m.1)))

  pub rootless_short : Short (rootless_at ra rb)
  unfolding rootless_at
  rootless_short ts = after_marker (next_marker ts) ts refl (λ us. more_at ra rb (length us) us)
      (λ us. more_short (length us) us)
