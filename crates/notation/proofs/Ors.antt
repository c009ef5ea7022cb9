-- What the loops over parts with "|" or UNION between them keep.
use Rattle.std.proofs.Common.{◌≡◌, suc, ◌≤◌, true, false, List, [], ◌∷◌, ◌++◌, length, Some, None, Ok, Err, refl, sym, ap, ◌∙◌ as ◌⋆◌, arith}
use Rattle.text.specs.declared.token.Mark.TheVariants.{Bar}
use Rattle.text.specs.declared.reserved.Word.TheVariants.{Union}
use Rattle.grammar.specs.Lexeme.{Lexeme, Word, Mark}
use Rattle.grammar.specs.Reading.{Fault, Read, Reader, ◌>>=◌, with_front, many_at}
use Rattle.grammar.specs.Loops.{Shrinks}
use Rattle.parser_combinators.specs.declared.read_error.ReadError.{ReadError}
use Rattle.parser_combinators.specs.declared.read_error.ReadError.TheVariants as errors
use Rattle.parser_combinators.specs.Given.{Fails}
use Rattle.grammar.specs.Manies.{Consumes, is_begun_by, many_more, many_end, many_fail}
use Rattle.notation.specs.ConstraintReading.{is_union_mark, next_union_mark, union_mark_then_at, by_union_mark_at}

or_begun : (ts rest : List Lexeme) → next_union_mark ts ≡ Some rest → is_begun_by is_union_mark ts ≡ true
unfolding next_union_mark
or_begun [] rest e = absurd cc
or_begun (Mark Bar ∷ ts) rest e = refl
or_begun (Word Union ∷ ts) rest e = refl
or_begun (t ∷ ts) rest e = absurd cc

no_or : (ts : List Lexeme) → next_union_mark ts ≡ None → is_begun_by is_union_mark ts ≡ false
unfolding next_union_mark
no_or [] e = refl
no_or (Mark Bar ∷ ts) e = absurd cc
no_or (Word Union ∷ ts) e = absurd cc
no_or (t ∷ ts) e = refl

module _ {A : Type 0} (read : Reader A) where
  after_union_mark : (ts rest : List Lexeme) → next_union_mark ts ≡ Some rest → union_mark_then_at read ts ≡ read rest
  unfolding next_union_mark union_mark_then_at
  after_union_mark [] rest e = absurd cc
  after_union_mark (Mark Bar ∷ ts) rest e = let d : ts ≡ rest = cc in ap read d
  after_union_mark (Word Union ∷ ts) rest e = let d : ts ≡ rest = cc in ap read d
  after_union_mark (t ∷ ts) rest e = absurd cc

module _ {A : Type 0} (read : Reader A) (s : Shrinks read) where
  eats : Consumes (union_mark_then_at read)
  unfolding union_mark_then_at
  eats = record { shorter = go }
    where
      go : (ts : List Lexeme) (x : A × List Lexeme) → union_mark_then_at read ts ≡ Ok x → suc (length x.1) ≤ length ts
      go [] x e = absurd cc
      go (Mark Bar ∷ ts) x e = let le = s.shorter ts x e in omega arith
      go (Word Union ∷ ts) x e = let le = s.shorter ts x e in omega arith
      go (t ∷ ts) x e = absurd cc

  pub ors_more : (ts rest : List Lexeme) (x : A × List Lexeme) (front : List A) (total : Read (List A))
      → next_union_mark ts ≡ Some rest
      → read rest ≡ Ok x
      → with_front front (many_at is_union_mark (union_mark_then_at read) (length ts) ts) ≡ total
      → with_front (front ++ x.0 ∷ []) (many_at is_union_mark (union_mark_then_at read) (length x.1) x.1) ≡ total
  ors_more ts rest x front total e r h = many_more is_union_mark (union_mark_then_at read) eats ts x front total (or_begun ts rest e) (after_union_mark read ts rest e ⋆ r) h

module _ {A : Type 0} (read : Reader A) where
  ors_fail : (ts rest : List Lexeme) (f : Fault) (front : List A) (total : Read (List A))
      → next_union_mark ts ≡ Some rest
      → read rest ≡ Err f
      → with_front front (many_at is_union_mark (union_mark_then_at read) (length ts) ts) ≡ total
      → total ≡ Err f
  ors_fail ts rest f front total e r h = many_fail is_union_mark (union_mark_then_at read) ts f front total (or_begun ts rest e) (after_union_mark read ts rest e ⋆ r) h

  pub ors_give_up : (ts rest : List Lexeme) (e : ReadError) (front : List A) (total : Read (List A))
      → next_union_mark ts ≡ Some rest
      → Fails e (read rest)
      → with_front front (many_at is_union_mark (union_mark_then_at read) (length ts) ts) ≡ total
      → Fails e total
  ors_give_up ts rest errors.Memory front total c r h = tt
  ors_give_up ts rest (errors.Unexpected n) front total c r h = ors_fail ts rest _ front total c r h
  ors_give_up ts rest (errors.Limit l n) front total c r h = ors_fail ts rest _ front total c r h

module _ {A : Type 0} (read : Reader A) where
  pub ors_end : (ts : List Lexeme) (front : List A) (total : Read (List A))
      → next_union_mark ts ≡ None
      → with_front front (many_at is_union_mark (union_mark_then_at read) (length ts) ts) ≡ total
      → total ≡ Ok (front, ts)
  ors_end ts front total e h = many_end is_union_mark (union_mark_then_at read) ts front total (no_or ts e) h

  pub ors_first : (ts : List Lexeme) (x : A × List Lexeme)
      → read ts ≡ Ok x
      → with_front (x.0 ∷ []) (many_at is_union_mark (union_mark_then_at read) (length x.1) x.1) ≡ by_union_mark_at read ts
  unfolding by_union_mark_at
  ors_first ts x r = sym (ap (λ (q : Read A). q >>= λ x. many_at is_union_mark (union_mark_then_at read) (length x.1) x.1 >>= λ xs. Ok (x.0 ∷ xs.0, xs.1)) r)

  first_fails : (ts : List Lexeme) (f : Fault) → read ts ≡ Err f → by_union_mark_at read ts ≡ Err f
  unfolding by_union_mark_at
  first_fails ts f r = ap (λ (q : Read A). q >>= λ x. many_at is_union_mark (union_mark_then_at read) (length x.1) x.1 >>= λ xs. Ok (x.0 ∷ xs.0, xs.1)) r

  pub first_gives_up : (ts : List Lexeme) (e : ReadError) → Fails e (read ts) → Fails e (by_union_mark_at read ts)
  first_gives_up ts errors.Memory r = tt
  first_gives_up ts (errors.Unexpected n) r = first_fails ts _ r
  first_gives_up ts (errors.Limit l n) r = first_fails ts _ r
