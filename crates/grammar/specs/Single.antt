-- The readers of one lexeme.
use Rattle.std.proofs.Common.{◌≡◌, ℕ, Bool, true, false, List, ◌∷◌, Ok, refl}
use Rattle.text.specs.declared.token.Mark.TheVariants.{Assign, CloseBrace}
use Rattle.text.specs.declared.reserved.Word.TheVariants.{Definitions, Tags, Begin, End}
use Rattle.grammar.specs.Lexeme.{Lexeme, TypeRef, Ident, Word, Mark}
use Rattle.grammar.specs.Reading.{Reader, ◌>>=◌, stop, closed_at}
use Rattle.grammar.specs.Parts.{IsKind}

unfoldable pub definitions_at : Reader (Unit {0})
definitions_at (Word Definitions ∷ rest) = Ok (tt, rest)
definitions_at ts = stop ts

unfoldable pub tags_at : Reader (Unit {0})
tags_at (Word Tags ∷ rest) = Ok (tt, rest)
tags_at ts = stop ts

unfoldable pub assign_at : Reader (Unit {0})
assign_at (Mark Assign ∷ rest) = Ok (tt, rest)
assign_at ts = stop ts

unfoldable pub begin_at : Reader (Unit {0})
begin_at (Word Begin ∷ rest) = Ok (tt, rest)
begin_at ts = stop ts

unfoldable pub end_at : Reader (Unit {0})
end_at (Word End ∷ rest) = Ok (tt, rest)
end_at ts = stop ts

unfoldable pub module_name_at : Reader (List ℕ)
module_name_at (TypeRef x ∷ rest) = Ok (x, rest)
module_name_at ts = stop ts

-- what is read after a lexeme
abbrev pub then_at : {A : Type 0} → Reader (Unit {0}) → Reader A → Reader A
then_at mark read ts = mark ts >>= λ m. read m.1 >>= λ x. Ok (x.0, x.1)

-- ---- the tests of these readers

abbrev pub is_closed : Lexeme → Bool
is_closed (Mark CloseBrace) = true
is_closed t = false

closed_one : (s : Lexeme) → is_closed s ≡ true → (x : Unit {0}) × (s ≡ Mark CloseBrace)
closed_one (Mark CloseBrace) e = (tt, refl)
closed_one s e = absurd cc

closed_miss : (s : Lexeme) (ts : List Lexeme) → is_closed s ≡ false → closed_at (s ∷ ts) ≡ stop (s ∷ ts)
unfolding closed_at
closed_miss (Mark CloseBrace) ts e = absurd cc
closed_miss s ts e = refl

pub closed_is : IsKind (λ (x : Unit {0}). Mark CloseBrace) is_closed closed_at
unfolding closed_at
closed_is = record { yes = λ x. refl; one = closed_one; nil = refl; hit = λ x ts. refl; miss = closed_miss }

abbrev pub is_assign : Lexeme → Bool
is_assign (Mark Assign) = true
is_assign t = false

assign_one : (s : Lexeme) → is_assign s ≡ true → (x : Unit {0}) × (s ≡ Mark Assign)
assign_one (Mark Assign) e = (tt, refl)
assign_one s e = absurd cc

assign_miss : (s : Lexeme) (ts : List Lexeme) → is_assign s ≡ false → assign_at (s ∷ ts) ≡ stop (s ∷ ts)
unfolding assign_at
assign_miss (Mark Assign) ts e = absurd cc
assign_miss s ts e = refl

pub assign_is : IsKind (λ (x : Unit {0}). Mark Assign) is_assign assign_at
unfolding assign_at
assign_is = record { yes = λ x. refl; one = assign_one; nil = refl; hit = λ x ts. refl; miss = assign_miss }

abbrev pub is_definitions : Lexeme → Bool
is_definitions (Word Definitions) = true
is_definitions t = false

definitions_one : (s : Lexeme) → is_definitions s ≡ true → (x : Unit {0}) × (s ≡ Word Definitions)
definitions_one (Word Definitions) e = (tt, refl)
definitions_one s e = absurd cc

definitions_miss : (s : Lexeme) (ts : List Lexeme) → is_definitions s ≡ false → definitions_at (s ∷ ts) ≡ stop (s ∷ ts)
unfolding definitions_at
definitions_miss (Word Definitions) ts e = absurd cc
definitions_miss s ts e = refl

pub definitions_is : IsKind (λ (x : Unit {0}). Word Definitions) is_definitions definitions_at
unfolding definitions_at
definitions_is = record {
  yes = λ x. refl;
  one = definitions_one;
  nil = refl;
  hit = λ x ts. refl;
  miss =
      definitions_miss;
}

abbrev pub is_tags : Lexeme → Bool
is_tags (Word Tags) = true
is_tags t = false

tags_one : (s : Lexeme) → is_tags s ≡ true → (x : Unit {0}) × (s ≡ Word Tags)
tags_one (Word Tags) e = (tt, refl)
tags_one s e = absurd cc

tags_miss : (s : Lexeme) (ts : List Lexeme) → is_tags s ≡ false → tags_at (s ∷ ts) ≡ stop (s ∷ ts)
unfolding tags_at
tags_miss (Word Tags) ts e = absurd cc
tags_miss s ts e = refl

pub tags_is : IsKind (λ (x : Unit {0}). Word Tags) is_tags tags_at
unfolding tags_at
tags_is = record { yes = λ x. refl; one = tags_one; nil = refl; hit = λ x ts. refl; miss = tags_miss }

abbrev pub is_begin : Lexeme → Bool
is_begin (Word Begin) = true
is_begin t = false

begin_one : (s : Lexeme) → is_begin s ≡ true → (x : Unit {0}) × (s ≡ Word Begin)
begin_one (Word Begin) e = (tt, refl)
begin_one s e = absurd cc

begin_miss : (s : Lexeme) (ts : List Lexeme) → is_begin s ≡ false → begin_at (s ∷ ts) ≡ stop (s ∷ ts)
unfolding begin_at
begin_miss (Word Begin) ts e = absurd cc
begin_miss s ts e = refl

pub begin_is : IsKind (λ (x : Unit {0}). Word Begin) is_begin begin_at
unfolding begin_at
begin_is = record { yes = λ x. refl; one = begin_one; nil = refl; hit = λ x ts. refl; miss = begin_miss }

abbrev pub is_end : Lexeme → Bool
is_end (Word End) = true
is_end t = false

end_one : (s : Lexeme) → is_end s ≡ true → (x : Unit {0}) × (s ≡ Word End)
end_one (Word End) e = (tt, refl)
end_one s e = absurd cc

end_miss : (s : Lexeme) (ts : List Lexeme) → is_end s ≡ false → end_at (s ∷ ts) ≡ stop (s ∷ ts)
unfolding end_at
end_miss (Word End) ts e = absurd cc
end_miss s ts e = refl

pub end_is : IsKind (λ (x : Unit {0}). Word End) is_end end_at
unfolding end_at
end_is = record { yes = λ x. refl; one = end_one; nil = refl; hit = λ x ts. refl; miss = end_miss }

abbrev pub is_typeref : Lexeme → Bool
is_typeref (TypeRef x) = true
is_typeref t = false

typeref_one : (s : Lexeme) → is_typeref s ≡ true → (x : List ℕ) × (s ≡ TypeRef x)
typeref_one (TypeRef x) e = (x, refl)
typeref_one s e = absurd cc

typeref_miss : (s : Lexeme) (ts : List Lexeme) → is_typeref s ≡ false → module_name_at (s ∷ ts) ≡ stop (s ∷ ts)
unfolding module_name_at
typeref_miss (TypeRef x) ts e = absurd cc
typeref_miss s ts e = refl

pub typeref_is : IsKind TypeRef is_typeref module_name_at
unfolding module_name_at
typeref_is = record { yes = λ x. refl; one = typeref_one; nil = refl; hit = λ x ts. refl; miss = typeref_miss }

unfoldable pub ident_at : Reader (List ℕ)
ident_at (Ident x ∷ rest) = Ok (x, rest)
ident_at ts = stop ts

abbrev pub is_ident : Lexeme → Bool
is_ident (Ident x) = true
is_ident t = false

ident_one : (s : Lexeme) → is_ident s ≡ true → (x : List ℕ) × (s ≡ Ident x)
ident_one (Ident x) e = (x, refl)
ident_one s e = absurd cc

ident_miss : (s : Lexeme) (ts : List Lexeme) → is_ident s ≡ false → ident_at (s ∷ ts) ≡ stop (s ∷ ts)
unfolding ident_at
ident_miss (Ident x) ts e = absurd cc
ident_miss s ts e = refl

pub ident_is : IsKind Ident is_ident ident_at
unfolding ident_at
ident_is = record { yes = λ x. refl; one = ident_one; nil = refl; hit = λ x ts. refl; miss = ident_miss }
