-- What the loops of the reader keep.
use Rattle.std.proofs.Common.{◌≡◌, ℕ, zero, suc, ◌-◌, Bool, true, false, List, [], ◌∷◌, ◌++◌, length, map, None, Ok, Err, refl, sym, ap, subst, ◌∙◌ as ◌⋆◌, arith}
use Rattle.std.proofs.lemmas.List.{append-nil}
use Rattle.std.specs.Global.{Vec}
use Rattle.text.specs.declared.token.Mark.TheVariants.{Colon}
use Rattle.grammar.specs.Lexeme.{Lexeme, Ident, Number, Mark}
use Rattle.grammar.specs.Reading.{Beyond, Integer, Read, ◌>>=◌, with_front, stop, fitting}
use Rattle.grammar.specs.Places.{small}
use Rattle.grammar.specs.Short.{Short, short_of}
use Rattle.grammar.specs.Loops.{Shrinks, sound_short, regroup}
use Rattle.parser_combinators.specs.declared.read_error.ReadError.{ReadError}
use Rattle.parser_combinators.specs.declared.read_error.ReadError.TheVariants as errors
use Rattle.parser_combinators.specs.declared.read_error.Limit.TheVariants as limits
use Rattle.trees.specs.declared.value.ValueSyntax.{ValueSyntax, roll-ValueSyntax}
use Rattle.trees.specs.declared.value.ValueForm.TheVariants.{Fields}
use Rattle.trees.specs.declared.value.ValueSyntax.TheShapes.{former-ValueSyntax-form-at-13}
use Rattle.trees.specs.declared.value.ValueSyntax.TheFolds.{fold-roll-ValueSyntax}
use Rattle.trees.specs.declared.value.Named.{Named}
use Rattle.parser_combinators.specs.Given.{Fails}
use Rattle.trees.specs.Values.{Name, Tree, fields, named_trees, name_at, value_layer, tree_of, member_of}
use Rattle.notation.specs.Value.{value}
use Rattle.notation.specs.Reading.{alternative_at, step_at, value_at, next_number, numbers_at}
use Rattle.notation.proofs.Sounds.{value_sound}

none_open : (fits : ℕ → Bool) (ts : List Lexeme)
    → step_at fits zero stop ts ≡ step_at fits zero (step_at fits zero stop) ts
unfolding step_at alternative_at
none_open fits [] = refl
none_open fits (Ident x ∷ []) = refl
none_open fits (Ident x ∷ Mark Colon ∷ ts) = refl
none_open fits (Ident x ∷ t ∷ ts) = refl
none_open fits (t ∷ ts) = refl

pub value_step : (fits : ℕ → Bool) (n : ℕ) (ts : List Lexeme)
    → value_at fits n ts ≡ step_at fits n (value_at fits (n - 1)) ts
unfolding value_at
value_step fits zero ts = none_open fits ts
value_step fits (suc n) ts = let e : n ≡ suc n - 1 = omega arith in ap (λ (k : ℕ). step_at fits (suc n) (value_at fits k) ts) e

value_shrinks : (fits : ℕ → Bool) (n : ℕ) → Shrinks (value_at fits n)
value_shrinks fits n = record { shorter = λ ts x e. sound_short (value fits n) ts (value_at fits n ts) x e (value_sound fits n ts) }

pub value_short : (n : ℕ) → Short (value_at small n)
value_short n = short_of (value_at small n) (value_shrinks small n)

-- the tree of components
together : (l : List (Named ValueSyntax))
    →
    map (λ (f : Named Tree). (name_at f.name, f.value)) (map (former-ValueSyntax-form-at-13.map ValueSyntax Tree tree_of) l) ≡ map member_of l
together [] = refl
together (f ∷ l) = ap (λ (r : List (Name × Tree)). member_of f ∷ r) (together l)

pub fields_tree : (at : ℕ) (ms : Vec (Named ValueSyntax))
    → tree_of (roll-ValueSyntax (record { at = at; form = Fields ms })) ≡ fields (named_trees (map member_of ms.items))
fields_tree at ms =
    fold-roll-ValueSyntax Tree value_layer (record { at = at; form = Fields ms })
    ⋆ ap (λ (l : List (Name × Tree)). fields (named_trees l)) (together ms.items)

-- numbers
pub numbers_end : (fits : ℕ → Bool) (ts : List Lexeme) (front : List ℕ) (total : Read (List ℕ))
    → next_number ts ≡ None
    → with_front front (numbers_at fits ts) ≡ total
    → total ≡ Ok (front, ts)
unfolding numbers_at next_number
numbers_end fits [] front total e h = sym h ⋆ ap (λ (l : List ℕ). Ok (l, [])) (append-nil front)
numbers_end fits (Number n ∷ ts) front total e h = absurd cc
numbers_end fits (t ∷ ts) front total e h = sym h ⋆ ap (λ (l : List ℕ). Ok (l, t ∷ ts)) (append-nil front)

pub numbers_more : (fits : ℕ → Bool) (n : ℕ) (ts : List Lexeme) (front : List ℕ) (total : Read (List ℕ))
    → fits n ≡ true
    → with_front front (numbers_at fits (Number n ∷ ts)) ≡ total
    → with_front (front ++ n ∷ []) (numbers_at fits ts) ≡ total
unfolding numbers_at
numbers_more fits n ts front total f h =
    sym (regroup front n (numbers_at fits ts)) ⋆ ap (λ (b : Bool). with_front front (fitting b (Number n ∷ ts) (numbers_at fits ts >>= λ ns. Ok (n ∷ ns.0, ns.1)))) (sym f) ⋆ h

stop_at : (fits : ℕ → Bool) (n : ℕ) (ts : List Lexeme) (front : List ℕ)
    → fits n ≡ false
    → with_front front (numbers_at fits (Number n ∷ ts)) ≡ Err (Beyond Integer (length (Number n ∷ ts)))
unfolding numbers_at
stop_at fits n ts front f = ap (λ (b : Bool). with_front front (fitting b (Number n ∷ ts) (numbers_at fits ts >>= λ ns. Ok (n ∷ ns.0, ns.1)))) f

pub numbers_stop : (fits : ℕ → Bool) (n : ℕ) (ls ts : List Lexeme) (left : ℕ) (e : ReadError) (front : List ℕ)
    (total : Read (List ℕ))
    → ls ≡ Number n ∷ ts
    → left ≡ length ls
    → e ≡ errors.Limit limits.Integer left
    → fits n ≡ false
    → with_front front (numbers_at fits ls) ≡ total
    → Fails e total
numbers_stop fits n ls ts left e front total d k q f h =
    let g : total ≡ Err (Beyond Integer left) = sym h ⋆ ap (λ (l : List Lexeme). with_front front (numbers_at fits l)) d ⋆ stop_at fits n ts front f ⋆ ap (λ (i : ℕ). Err (Beyond Integer i)) (sym (k ⋆ ap length d)) in
    subst (λ (e : ReadError). Fails e total) (sym q) g
