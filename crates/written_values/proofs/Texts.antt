-- A text is one notation at most, and has one fault at most.
use Rattle.std.proofs.Common.{◌≡◌, ℕ, ◌-◌, ◌≤◌, ◌<◌, inl, inr, List, [], length, Ok, take, drop, refl, sym, ap, subst, ◌∙◌ as ◌⋆◌, arith}
use Rattle.std.proofs.Math.Nat.{eq-or-lt_of_le}
use Rattle.std.proofs.lemmas.List.{take_all}
use Rattle.text.specs.declared.lex_fault.LexFault.{LexFault}
use Rattle.text.specs.declared.lex_fault.LexFault.TheVariants as lexing
use Rattle.text.specs.declared.token.Token.{Token}
use Rattle.text.specs.Text as texts
use Rattle.grammar.specs.Lexeme.{Lexeme, lexemes}
use Rattle.grammar.specs.Places.{bounded, between, free, small, Ends, PassesLimit, Stops}
use Rattle.parser_combinators.specs.declared.read_error.Limit.{Limit}
use Rattle.parser_combinators.specs.Given.{IsLexed, limit_of}
use Rattle.notation.specs.Answer.{IsRightNotationFault}
use Rattle.notation.specs.Laws.{ValueLaws}
use Rattle.notation.specs.Reading.{value_at}
use Rattle.notation.specs.Value.{values}
use Rattle.notation.specs.declared.syntax_fault.SyntaxFault.{SyntaxFault}
use Rattle.notation.specs.declared.syntax_fault.SyntaxFault.TheVariants as parsing
use Rattle.trees.specs.Values.{Tree}
use Rattle.written_values.specs.Written.{IsNotation, IsNoNotation, IsNoValue, HasNoTokens}
use Rattle.written_values.specs.declared.written.ValueTextFault.{ValueTextFault}
use Rattle.written_values.specs.declared.written.ValueTextFault.TheVariants as faults
use Rattle.written_values.proofs.Whole.{whole_is}

-- ---- what is known of texts and of values

abbrev pub OneList : Type 0
OneList = (x : List ℕ) (ts us : List Token) → texts.IsText x ts → texts.IsText x us → ts ≡ us

abbrev pub NoFault : Type 0
NoFault = (x : List ℕ) (ts : List Token) (f : LexFault) → texts.IsText x ts → texts.IsWithinLimits x ts
    → texts.IsRightTextFault x f
    → f ≡ lexing.Memory

abbrev pub OneLexFault : Type 0
OneLexFault = (x : List ℕ) (e f : LexFault) → (e ≡ lexing.Memory → ⊥) → (f ≡ lexing.Memory → ⊥) →
    texts.IsRightTextFault x e
    → texts.IsRightTextFault x f
    → e ≡ f

abbrev pub OneTree : Type 0
OneTree = (ts : List Lexeme) (v w : Tree) → (free values).Is v ts → (free values).Is w ts → v ≡ w

abbrev pub OneValueFault : Type 0
OneValueFault = (ts : List Lexeme) (start n : ℕ) → start ≤ length ts → (f g : SyntaxFault)
    → (f ≡ parsing.Memory → ⊥)
    → (g ≡ parsing.Memory → ⊥)
    → IsRightNotationFault values ts start (bounded n) f
    → IsRightNotationFault values ts start (bounded n) g
    → f ≡ g

-- ---- one notation

pub lemma_one_notation : OneList → OneTree → (x : List ℕ) (n m : Tree) → IsNotation x n → IsNotation x m → n ≡ m
lemma_one_notation list tree x n m a b =
    let e = list x b.tokens a.tokens b.lexed.text a.lexed.text in
    tree (lexemes x a.tokens) n m (bounded 128, a.is) (bounded 128, subst (λ ts. (values (bounded 128)).Is m (lexemes x ts)) e b.is)

pub is_notation : ValueLaws → (x : List ℕ) (ts : List Token) (n : Tree) → IsLexed x ts
    → value_at small 128 (lexemes x ts) ≡ Ok (n, [])
    → IsNotation x n
is_notation laws x ts n l e = record { tokens = ts; lexed = l; is = whole_is laws 128 (lexemes x ts) n e }

-- ---- a fault excludes it

-- the lexemes up to their end are all of them
to_end : (ts : List Lexeme) → between ts 0 (length ts) ≡ ts
to_end ts = take_all (length ts - 0) ts (omega arith)

-- a whole goes on to the end of the lexemes
goes_on : ValueLaws → (ts : List Lexeme) (n : Tree) → (values (bounded 128)).Is n ts
    → (values (bounded 128)).IsPrefix (between ts 0 (length ts))
goes_on laws ts n h = subst (values (bounded 128)).IsPrefix (sym (to_end ts)) ((laws.finds (bounded 128) (bounded 128)).part n ts h)

-- so the longest front is all of them
stops_last : ValueLaws → (ts : List Lexeme) (n : Tree) (i : ℕ) → (values (bounded 128)).Is n ts
    → Stops values (bounded 128) ts 0 i
    → i < length ts
    → ⊥
stops_last laws ts n i h s lt = s.longest (length ts) lt (omega arith) (goes_on laws ts n h)

at_end : (i m : ℕ) → i ≤ m → (i < m → ⊥) → i ≡ m
at_end i m le h = elim (eq-or-lt_of_le le) [
  | inl e ↦ e
  | inr lt ↦ absurd (h lt)
]

ends_no_whole : ValueLaws → (ts : List Lexeme) (n : Tree) (i : ℕ) → (values (bounded 128)).Is n ts
    → Ends values (bounded 128) ts 0 i
    → ⊥
ends_no_whole laws ts n i h e =
    let at = at_end i (length ts) e.stops.to (stops_last laws ts n i h e.stops) in
    e.none at n (bounded 128, subst (λ l. (values (bounded 128)).Is n l) (sym (ap (λ k. between ts 0 k) at ⋆ to_end ts)) h)

passes_no_whole : ValueLaws → (ts : List Lexeme) (n : Tree) (i : ℕ) (l : Limit) → (values (bounded 128)).Is n ts
    → PassesLimit values (bounded 128) ts 0 i (limit_of l)
    → ⊥
passes_no_whole laws ts n i l h p =
    let lt = p.longer in
    let to = p.to in
    stops_last laws ts n i h p.stops (omega (arith, lt, to))

no_whole : ValueLaws → (ts : List Lexeme) (n : Tree) (f : SyntaxFault) → (f ≡ parsing.Memory → ⊥)
    → (values (bounded 128)).Is n ts
    → IsRightNotationFault values ts 0 (bounded 128) f
    → ⊥
no_whole laws ts n parsing.Memory m h s = m refl
no_whole laws ts n (parsing.Unexpected i) m h s = ends_no_whole laws ts n i h s.0
no_whole laws ts n (parsing.OutOfProfile i) m h s = ends_no_whole laws ts n i h s.0
no_whole laws ts n (parsing.Limit l i) m h s = passes_no_whole laws ts n i l h s

-- a fault of tokens is one of any tokens of the text
same_tokens : OneList → (x : List ℕ) (f : SyntaxFault) (ts : List Token) → IsLexed x ts → (w : IsNoValue x f)
    → IsRightNotationFault values (lexemes x ts) 0 (bounded 128) f
same_tokens list x f ts l w =
    subst (λ us. IsRightNotationFault values (lexemes x us) 0 (bounded 128) f)
    (list x w.tokens ts w.lexed.text l.text) w.fault

pub wrong_is_none : OneList → NoFault → ValueLaws → (x : List ℕ) (n : Tree) (f : ValueTextFault)
    → (f ≡ faults.Memory → ⊥)
    → IsNoNotation x f
    → IsNotation x n
    → ⊥
wrong_is_none list none laws x n faults.Memory m h i = m refl
wrong_is_none list none laws x n (faults.Octets f) m h i = h.no_memory (none x i.tokens f i.lexed.text i.lexed.limits h.fault)
wrong_is_none list none laws x n (faults.Tokens f) m h i =
    no_whole laws (lexemes x i.tokens) n f h.no_memory i.is (same_tokens list x f i.tokens i.lexed h)

-- ---- one fault

pub one_wrong : OneList → NoFault → OneLexFault → OneValueFault → (x : List ℕ) (f g : ValueTextFault)
    → (f ≡ faults.Memory → ⊥)
    → (g ≡ faults.Memory → ⊥)
    → IsNoNotation x f
    → IsNoNotation x g
    → f ≡ g
one_wrong list none lex value x faults.Memory g m k a b = absurd (m refl)
one_wrong list none lex value x f faults.Memory m k a b = absurd (k refl)
one_wrong list none lex value x (faults.Octets f) (faults.Octets g) m k a b =
    ap (λ e. faults.Octets e) (lex x f g a.no_memory b.no_memory a.fault b.fault)
one_wrong list none lex value x (faults.Octets f) (faults.Tokens g) m k a b =
    absurd (a.no_memory (none x b.tokens f b.lexed.text b.lexed.limits a.fault))
one_wrong list none lex value x (faults.Tokens f) (faults.Octets g) m k a b =
    absurd (b.no_memory (none x a.tokens g a.lexed.text a.lexed.limits b.fault))
one_wrong list none lex value x (faults.Tokens f) (faults.Tokens g) m k a b =
    ap (λ e. faults.Tokens e)
    (value (lexemes x a.tokens) 0 128 (omega arith) f g a.no_memory b.no_memory a.fault (same_tokens list x g a.tokens a.lexed b))

-- a text that is a notation has no fault but `Memory`
pub of_memory : ((x : List ℕ) (n : Tree) (f : ValueTextFault) → (f ≡ faults.Memory → ⊥) → IsNoNotation x f → IsNotation x n
    → ⊥)
    → (x : List ℕ) (n : Tree) (f : ValueTextFault)
    → IsNoNotation x f
    → IsNotation x n
    → f ≡ faults.Memory
of_memory none x n faults.Memory h i = refl
of_memory none x n (faults.Octets f) h i = absurd (none x n (faults.Octets f) (λ e. absurd cc) h i)
of_memory none x n (faults.Tokens f) h i = absurd (none x n (faults.Tokens f) (λ e. absurd cc) h i)

-- the notation that the tokens of a slice are
pub of_slice : (x : List ℕ) (ts us : List Token) (n : Tree)
    → us ≡ ts
    → IsLexed x ts
    → (values (bounded 128)).Is n (lexemes x us)
    → IsNotation x n
of_slice x ts us n e l h = record { tokens = us; lexed = subst (IsLexed x) (sym e) l; is = h }
