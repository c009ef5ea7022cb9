-- Two texts name one type and one value at most.
use Rattle.std.proofs.Common.{◌≡◌, ℕ, suc, ◌<◌, List, [], ◌∷◌, ◌++◌, length, Option, Some, None, refl, sym, ap, ◌∙◌, arith, subst, get_or}
use Rattle.std.specs.Prelude.{slice_get, String}
use Rattle.std.specs.Global.{Global}
use Rattle.asn_base.specs.Abstract.{AbstractValue}
use Rattle.trees.specs.Values.{Name, Tree, tree_of}
use Rattle.names.specs.declared.scope.Assigned.{Assigned}
use Rattle.names.specs.declared.scope.Assigned.TheVariants as assigned
use Rattle.names.specs.Faults.{fault_module}
use Rattle.names.specs.Names.{Module, Meaning, own, imported, IsApart, under}
use Rattle.range_ends.specs.Ends.{IsValueAt}
use Rattle.resolve.specs.Program.{Program}
use Rattle.messages.specs.front_end.Accepted.{IsCheckedProgram}
use Rattle.messages.specs.front_end.ValueError.{DenotesValue}
use Rattle.messages.specs.value_diagnostics.declared.value_diagnostic.ValueDiagnostic.{ValueDiagnostic}
use Rattle.text.specs.declared.lex_fault.LexFault.{LexFault}
use Rattle.notation.specs.declared.syntax_fault.SyntaxFault.{SyntaxFault}
use Rattle.messages.specs.declared.fault.Fault.{Fault}
use Rattle.messages.specs.declared.fault.Fault.TheVariants as faults
use Rattle.messages.specs.declared.fault.NotationFault.{NotationFault}
use Rattle.messages.specs.declared.fault.NotationFault.TheVariants as texts
use Rattle.written_values.specs.Written.{IsNotation, IsNoNotation}
use Rattle.written_values.specs.declared.written.ValueTextFault.{ValueTextFault}
use Rattle.written_values.specs.declared.written.ValueTextFault.TheVariants as wrong
use Rattle.named_values.specs.Given.{Given, named, written}
use Rattle.named_values.specs.Meant.{IsMeant, IsNotMeant, IsWrongText, IsWrongWithin, NamesNoValue, NamesType, DenotesNoValue}
use Rattle.named_values.specs.Named.{AreGiven, IsGivenAs, IsQualifiedName, IsQualified, IsInModule}

-- ---- the parts of a text

abbrev Plain : Name → Type 0
Plain M = (i : ℕ) → i < length M → get_or M i 0 ≡ 46 → ⊥

one_dot : (M N x y : Name) → M ++ (46 ∷ x) ≡ N ++ (46 ∷ y) → Plain M → Plain N → (M ≡ N) × (x ≡ y)
one_dot [] [] x y e p q = (refl, let f : x ≡ y = cc in f)
one_dot [] (n ∷ N) x y e p q = absurd (q 0 (omega arith) (let f : n ≡ 46 = cc in f))
one_dot (m ∷ M) [] x y e p q = absurd (p 0 (omega arith) (let f : m ≡ 46 = cc in f))
one_dot (m ∷ M) (n ∷ N) x y e p q =
    let h : m ≡ n = cc in
    let t : M ++ (46 ∷ x) ≡ N ++ (46 ∷ y) = cc in
    let r = one_dot M N x y t (λ i l. p (suc i) (omega (arith, l))) (λ i l. q (suc i) (omega (arith, l))) in
    (ap (λ k. k ∷ M) h ∙ ap (λ L. n ∷ L) r.0, r.1)

one_spelling : (text : List ℕ) (M N x y : Name) → IsQualified text M x → IsQualified text N y → (M ≡ N) × (x ≡ y)
one_spelling text M N x y a b = one_dot M N x y (sym a.spelled ∙ b.spelled) a.plain b.plain

-- ---- the meaning of a name

one_some : {X : Type 0} (o : Option X) (x y : X) → o ≡ Some x → o ≡ Some y → x ≡ y
one_some o x y e f = let g : Some x ≡ Some y = sym e ∙ f in cc

not_none : {X : Type 0} (o : Option X) (x : X) → o ≡ Some x → o ≡ None → ⊥
not_none o x e f = let g = sym e ∙ f in cc

one_meaning : (ms : List (Name × Module)) (M x : Name) (a b : Assigned) → IsApart ms → Meaning ms M x a →
    Meaning ms M x b → a ≡ b
one_meaning ms M x a b apart (own m e f) (own n g h) =
    let same = one_some (under M ms) n m g e in
    one_some (under x m.assigned) a b f (subst (λ (y : Module). under x y.assigned ≡ Some b) same h)
one_meaning ms M x a b apart (own m e f) (imported n o N g h i j) =
    let same = one_some (under M ms) n m g e in
    absurd (not_none (under x m.assigned) a f
    (apart M x N m e (subst (λ (y : Module). under x y.imports ≡ Some N) same h)))
one_meaning ms M x a b apart (imported n o N g h i j) (own m e f) =
    let same = one_some (under M ms) n m g e in
    absurd (not_none (under x m.assigned) b f
    (apart M x N m e (subst (λ (y : Module). under x y.imports ≡ Some N) same h)))
one_meaning ms M x a b apart (imported m o N e f g h) (imported n q L i j k l) =
    let same = one_some (under M ms) n m i e in
    let from = one_some (under x m.imports) L N (subst (λ (y : Module). under x y.imports ≡ Some L) same j) f in
    let there = one_some (under N ms) q o (subst (λ (y : Name). under y ms ≡ Some q) from k) g in
    one_some (under x o.assigned) a b h (subst (λ (y : Module). under x y.assigned ≡ Some b) there l)

pub one_name : (p : Program) (text : List ℕ) (a b : Assigned) → IsApart p.modules → IsQualifiedName p text a → IsQualifiedName p text b → a ≡ b
one_name p text a b apart m n =
    let s = one_spelling text n.within m.within n.name m.name n.is m.is in
    let w = subst (λ x. Meaning p.modules m.within x b) s.1 (subst (λ M. Meaning p.modules M n.name b) s.0 n.means) in
    one_meaning p.modules m.within m.name a b apart m.means w

-- ---- a value's notation

one_place : (p : Program) (i : ℕ) (M N : Name) (n m : Tree) → IsValueAt p i M n → IsValueAt p i N m → (M ≡ N) × (n ≡ m)
one_place p i M N n m a b =
    let v = one_some (slice_get p.values i) a.value b.value a.there b.there in
    let f = one_some (slice_get p.assignments a.value.assignment) (a.is_so.owner, a.assigns) (b.is_so.owner, b.assigns)
    a.is_so.assigned (ap (λ w. slice_get p.assignments w.assignment) v ∙ b.is_so.assigned) in
    let g = one_some (slice_get p.headers a.is_so.owner) (M, a.is_so.tags) (N, b.is_so.tags)
    a.is_so.header (ap (λ w. slice_get p.headers w.0) f ∙ b.is_so.header) in
    (ap (λ w. w.0) g, sym a.notation ∙ ap (λ w. w.notation) v ∙ b.notation)

-- the type, the module and the notation that two texts name are the same
pub record AreSame (t u : ℕ) (M N : Name) (n m : Tree) : Type 0 where
  pub type : t ≡ u
  pub within : M ≡ N
  pub notation : n ≡ m

-- ---- the notation of a value that is given

abbrev pub OneNotation : Type 0
OneNotation = (x : List ℕ) (n m : Tree) → IsNotation x n → IsNotation x m → n ≡ m

abbrev pub WrongAreNone : Type 0
WrongAreNone = (x : List ℕ) (n : Tree) (f : ValueTextFault) → (f ≡ wrong.Memory → ⊥) → IsNoNotation x f → IsNotation x n
    → ⊥

one_given : OneNotation → (p : Program) (first : List ℕ) (second : Given) (M N : Name) (n m : Tree)
    → IsApart p.modules
    → IsGivenAs p first second M n
    → IsGivenAs p first second N m
    → (M ≡ N) × (n ≡ m)
one_given one p first (named text) M N n m apart a b =
    let f = one_name p text (assigned.Value a.number) (assigned.Value b.number) apart a.valued b.valued in
    let i : b.number ≡ a.number = cc in
    one_place p a.number M N n m a.at (subst (λ k. IsValueAt p k N m) i b.at)
one_given one p first (written x) M N n m apart a b =
    let e = one_spelling first M N a.within.name b.within.name a.within.is b.within.is in
    (e.0, one x n m a.is b.is)

pub one_pair : OneNotation → (p : Program) (first : List ℕ) (second : Given) (t u : ℕ) (M N : Name) (n m : Tree)
    → IsApart p.modules
    → AreGiven p first second t M n
    → AreGiven p first second u N m
    → AreSame t u M N n m
one_pair one p first second t u M N n m apart a b =
    let e = one_name p first (assigned.Type t) (assigned.Type u) apart a.typed b.typed in
    let z = one_given one p first second M N n m apart a.given b.given in
    record { type = (let q : t ≡ u = cc in q); within = z.0; notation = z.1 }

-- ---- the value

-- the value of a notation doesn't depend on how the notation is given
moved : {p : Program} {t u : ℕ} {M N : Name} {n m : Tree} {v : AbstractValue} → AreSame t u M N n m →
    DenotesValue p M t n v → DenotesValue p N u m v
moved {p} {t} {u} {M} {N} {n} {m} {v} e h =
    subst (λ k. DenotesValue p N u k v) e.notation (subst (λ L. DenotesValue p L u n v) e.within (subst (λ i. DenotesValue p M i n v) e.type h))

none_is_one : OneNotation → {p : Program} {first : List ℕ} {second : Given} {i : ℕ} {v : AbstractValue}
    {t : ValueDiagnostic}
    → IsApart p.modules
    → IsMeant p first second i v
    → DenotesNoValue p first second t
    → ⊥
none_is_one one {p} {first} {second} {i} {v} apart k n =
    n.none.none v (moved
    (one_pair one p first second i n.type k.within n.within k.notation (tree_of n.notation) apart k.named n.named)
    k.is_so)

abbrev pub OneValue : Type 0
OneValue = (p : Program) (M : Name) (i : ℕ) (n : Tree) (v w : AbstractValue) → IsCheckedProgram p → DenotesValue p M i n v →
    DenotesValue p M i n w → v ≡ w

pub one_meant : OneNotation → OneValue → (p : Program) (first : List ℕ) (second : Given) (t u : ℕ) (v w : AbstractValue)
    → IsCheckedProgram p
    → IsMeant p first second t v
    → IsMeant p first second u w
    → (t ≡ u) × (v ≡ w)
one_meant one_text one p first second t u v w kept k l =
    let e = one_pair one_text p first second t u k.within l.within k.notation l.notation kept.read.apart k.named l.named in
    (e.type, one p l.within u l.notation v w kept (moved e k.is_so) l.is_so)

-- ---- refusals

-- a name that is one of a value is not refused
pub name_refused : (p : Program) (first : List ℕ) (second : Given) (M : Name) (n : Tree) (x : String Global)
    → IsGivenAs p first second M n
    → NamesNoValue p second x
    → ⊥
name_refused p first (named text) M n x g h = h.1 g.number g.valued
name_refused p first (written y) M n x g h = h

-- a text with a fault of its octets is no notation of a value
pub octets_refused : WrongAreNone → (p : Program) (first : List ℕ) (second : Given) (M : Name) (n : Tree) (f : LexFault)
    → IsGivenAs p first second M n
    → IsWrongText p first second (texts.Octets f)
    → ⊥
octets_refused none p first (named text) M n f g h = h
octets_refused none p first (written x) M n f g h = none x n (wrong.Octets f) (λ e. absurd cc) h.1 g.is

-- a text with a fault of its tokens is no notation of a value
pub tokens_refused : WrongAreNone → (p : Program) (first : List ℕ) (second : Given) (M : Name) (n : Tree)
    (f : SyntaxFault)
    → IsGivenAs p first second M n
    → IsWrongText p first second (texts.Tokens f)
    → ⊥
tokens_refused none p first (named text) M n f g h = h
tokens_refused none p first (written x) M n f g h = none x n (wrong.Tokens f) (λ e. absurd cc) h.1 g.is

-- a fault of the value of a text is one of its notation
pub value_refused : (p : Program) (first : List ℕ) (second : Given) (t : ValueDiagnostic)
    → IsWrongText p first second (texts.Value t)
    → DenotesNoValue p first second t
value_refused p first (named text) t h = absurd h
value_refused p first (written x) t h = h.none

text_refused : OneNotation → WrongAreNone → (p : Program) (first : List ℕ) (second : Given) (t : ℕ) (v : AbstractValue)
    (f : NotationFault)
    → IsApart p.modules
    → IsMeant p first second t v
    → IsWrongText p first second f
    → ⊥
text_refused one none p first second t v (texts.Octets f) apart m h = octets_refused none p first second m.within m.notation f m.named.given h
text_refused one none p first second t v (texts.Tokens f) apart m h = tokens_refused none p first second m.within m.notation f m.named.given h
text_refused one none p first second t v (texts.Value x) apart m h = none_is_one one apart m (value_refused p first second x h)

pub meant_refused : OneNotation → WrongAreNone → (p : Program) (first : List ℕ) (second : Given) (t : ℕ)
    (v : AbstractValue) (e : Fault)
    → IsCheckedProgram p
    → IsMeant p first second t v
    → IsNotMeant p first second e
    → e ≡ faults.Memory
meant_refused one none p first second t v faults.Memory kept m h = refl
meant_refused one none p first second t v (faults.NoType x) kept m h = absurd (h.1 t m.named.typed)
meant_refused one none p first second t v (faults.NoValue x) kept m h = absurd (name_refused p first second m.within m.notation x m.named.given h.1)
meant_refused one none p first second t v (faults.Value x) kept m h = absurd (none_is_one one kept.read.apart m h)
meant_refused one none p first second t v (faults.Notation f) kept m h = absurd (text_refused one none p first second t v f kept.read.apart m h)
meant_refused one none p first second t v (faults.Front f) kept m h = absurd h
meant_refused one none p first second t v (faults.DecodeError u) kept m h = absurd h
meant_refused one none p first second t v (faults.BadWords x) kept m h = absurd h
meant_refused one none p first second t v (faults.Help x) kept m h = absurd h
meant_refused one none p first second t v (faults.File x) kept m h = absurd h
meant_refused one none p first second t v (faults.NoFile x) kept m h = absurd h
meant_refused one none p first second t v (faults.Folder x) kept m h = absurd h
meant_refused one none p first second t v (faults.Newer x) kept m h = absurd h
meant_refused one none p first second t v (faults.NoNewerType x) kept m h = absurd h
meant_refused one none p first second t v faults.TooLong kept m h = absurd h
meant_refused one none p first second t v (faults.BitDecodeError u) kept m h = absurd h
meant_refused one none p first second t v faults.MessageLimit kept m h = absurd h
meant_refused one none p first second t v (faults.Device n) kept m h = absurd h
meant_refused one none p first second t v (faults.NotAccount x) kept m h = absurd h

-- ---- the order of refusals

-- the name of the type of a text that is wrong is that of a type
pub text_typed : (p : Program) (first : List ℕ) (second : Given) (f : NotationFault)
    → IsWrongText p first second f
    → NamesType p first
text_typed p first (named text) f h = absurd h
text_typed p first (written x) (texts.Octets f) h = h.0
text_typed p first (written x) (texts.Tokens f) h = h.0
text_typed p first (written x) (texts.Value t) h = (h.none.type, h.none.named.typed)

-- a value is given by a name or by a text
pub name_or_text : (p : Program) (first : List ℕ) (second : Given) (x : String Global) (f : NotationFault)
    → NamesNoValue p second x
    → IsWrongText p first second f
    → ⊥
name_or_text p first (named text) x f a b = b
name_or_text p first (written y) x f a b = a

abbrev pub OneFault : Type 0
OneFault = (x : List ℕ) (f g : ValueTextFault) → (f ≡ wrong.Memory → ⊥) → (g ≡ wrong.Memory → ⊥) → IsNoNotation x f
    → IsNoNotation x g
    → f ≡ g

pub one_text : OneFault → (p : Program) (first : List ℕ) (second : Given) (f g : LexFault)
    → IsWrongText p first second (texts.Octets f)
    → IsWrongText p first second (texts.Octets g)
    → f ≡ g
one_text one p first (named text) f g a b = absurd a
one_text one p first (written x) f g a b =
    let e = one x (wrong.Octets f) (wrong.Octets g) (λ e. absurd cc) (λ e. absurd cc) a.1 b.1 in
    let q : f ≡ g = cc in q

pub one_tree : OneFault → (p : Program) (first : List ℕ) (second : Given) (f g : SyntaxFault)
    → IsWrongText p first second (texts.Tokens f)
    → IsWrongText p first second (texts.Tokens g)
    → f ≡ g
one_tree one p first (named text) f g a b = absurd a
one_tree one p first (written x) f g a b =
    let e = one x (wrong.Tokens f) (wrong.Tokens g) (λ e. absurd cc) (λ e. absurd cc) a.1 b.1 in
    let q : f ≡ g = cc in q

pub octets_or_tokens : OneFault → (p : Program) (first : List ℕ) (second : Given) (f : LexFault) (g : SyntaxFault)
    → IsWrongText p first second (texts.Octets f)
    → IsWrongText p first second (texts.Tokens g)
    → ⊥
octets_or_tokens one p first (named text) f g a b = a
octets_or_tokens one p first (written x) f g a b =
    let e = one x (wrong.Octets f) (wrong.Tokens g) (λ e. absurd cc) (λ e. absurd cc) a.1 b.1 in
    absurd cc

-- ---- the place of a fault

-- a place in the text, if the fault has the module in which the text is read
pub place_in_text : (p : Program) (first x : List ℕ) (W : Name) (t : ValueDiagnostic)
    → fault_module t.source_location ≡ W
    → t.source_location.at < length x
    → IsInModule first W
    → DenotesNoValue p first (written x) t
    → IsWrongWithin p first x t
place_in_text p first x W t e l w n = record {
  none = n;
  within = e ∙ (one_spelling first W n.within w.name n.named.given.within.name w.is n.named.given.within.is).0;
  at = l;
}
