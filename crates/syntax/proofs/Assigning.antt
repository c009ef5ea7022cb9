-- What is read as an assignment is one; the reader refuses no front of an assignment, and reads each whole one.
use Rattle.std.proofs.Common.{◌≡◌, ℕ, Bool, true, false, ◌||◌, List, [], ◌∷◌, refl}
use Rattle.text.specs.declared.token.Mark.TheVariants.{Assign}
use Rattle.grammar.specs.Lexeme.{Lexeme, TypeRef, Ident, Mark}
use Rattle.grammar.specs.Grammar.{Grammar, token, mark, ◌∙◌, ◌∣◌, ◌⇒◌, preceded}
use Rattle.grammar.specs.Reading.{Limit, Reader}
use Rattle.grammar.specs.Laws.{nowhere, seq_sound, Finds, then_read}
use Rattle.grammar.specs.Lists.{IsSolid, no_lexeme, seq_solid}
use Rattle.grammar.specs.Manies.{Consumes, consumes}
use Rattle.grammar.specs.Places.{small, tag_small}
use Rattle.grammar.specs.Grows.{Grows, same_grows, seq_grows, made_grows, either_grows, preceded_grows}
use Rattle.grammar.specs.Parts.{SoundReader, token_sound, token_finds, token_solid, seq_finds, pair_sound, pair_finds, pair_solid, pick, pick_sound, pick_finds, either_solid, same_sound, same_finds}
use Rattle.trees.specs.Values.{Tree}
use Rattle.notation.specs.Value.{value}
use Rattle.notation.specs.Reading.{value_at}
use Rattle.notation.specs.Laws.{goes_on}
use Rattle.trees.specs.Types.{TypeTree}
use Rattle.trees.specs.Modules.{AssignmentTree, assigns_type, assigns_value}
use Rattle.type_syntax.specs.TypeGrammar.{type}
use Rattle.type_syntax.specs.TypeReading.{type_at}
use Rattle.grammar.specs.Single.{assign_at, module_name_at, then_at}
use Rattle.syntax.specs.Reading.{typed_at, begins_assignment, assignment_at}
use Rattle.type_syntax.specs.TypeLaws.{type_ends, TypeLaws}
use Rattle.grammar.specs.Single.{is_assign, assign_is, is_typeref, typeref_is, ident_at, is_ident, ident_is}

-- ---- the productions, of given types and values

abbrev assigns_a_type : Grammar TypeTree → Grammar AssignmentTree
assigns_a_type t = (token TypeRef ∙ preceded (Mark Assign) t) ⇒ (λ p. assigns_type p.0 p.1)

abbrev typed : Grammar TypeTree → Grammar Tree → Grammar (TypeTree × Tree)
typed t v = t ∙ preceded (Mark Assign) v

abbrev assigns_a_value : Grammar TypeTree → Grammar Tree → Grammar AssignmentTree
assigns_a_value t v = (token Ident ∙ typed t v) ⇒ (λ p. assigns_value p.0 p.1.0 p.1.1)

abbrev pub assigns : Grammar TypeTree → Grammar Tree → Grammar AssignmentTree
assigns t v = assigns_a_type t ∣ assigns_a_value t v

-- ---- their readers

abbrev second : {A : Type 0} → Unit {0} × A → A
second p = p.1

abbrev type_read : (ℕ → Bool) → ℕ → Reader AssignmentTree
type_read fits n = then_read (λ p. assigns_type p.0 p.1) module_name_at (then_at assign_at (type_at fits n))

abbrev value_read : (ℕ → Bool) → ℕ → Reader AssignmentTree
value_read fits n = then_read (λ p. assigns_value p.0 p.1.0 p.1.1) ident_at (typed_at fits n)

assignment_same : (fits : ℕ → Bool) (n : ℕ) (ts : List Lexeme)
    → pick is_typeref (type_read fits n) (value_read fits n) ts ≡ assignment_at fits n ts
unfolding assignment_at module_name_at ident_at
assignment_same fits n [] = refl
assignment_same fits n (TypeRef x ∷ ts) = refl
assignment_same fits n (Ident x ∷ ts) = refl
assignment_same fits n (t ∷ ts) = refl

-- ---- what is read is so

-- after a lexeme that a reader reads
preceded_sound : {A : Type 0} (over : Limit → ℕ) (m : Lexeme) (mark : Reader (Unit {0})) (a : Grammar A) (read : Reader A)
    → SoundReader over (token (λ (x : Unit {0}). m)) mark
    → SoundReader over a read
    → SoundReader over (preceded m a) (then_at mark read)
preceded_sound over m mark a read sm s ts = seq_sound over (token (λ (x : Unit {0}). m)) a second ts (mark ts) read (sm ts) s

module _ (over : Limit → ℕ) (fits : ℕ → Bool) (n : ℕ) (t : Grammar TypeTree) (v : Grammar Tree)
    (st : SoundReader over t (type_at fits n)) (sv : SoundReader over v (value_at fits n)) where
  assigned_sound : {A : Type 0} (a : Grammar A) (read : Reader A)
      → SoundReader over a read
      → SoundReader over (preceded (Mark Assign) a) (then_at assign_at read)
  assigned_sound a read s = preceded_sound over (Mark Assign) assign_at a read (token_sound (λ (x : Unit {0}). Mark Assign) is_assign assign_at assign_is over) s

  pub assignment_sound : SoundReader over (assigns t v) (assignment_at fits n)
  assignment_sound =
      same_sound over (assigns t v) (pick is_typeref (type_read fits n) (value_read fits n)) (assignment_at fits n) (assignment_same fits n)
      (pick_sound over (assigns_a_type t) (assigns_a_value t v) is_typeref (type_read fits n) (value_read fits n)
      (λ ts. seq_sound over (token TypeRef) (preceded (Mark Assign) t) (λ p. assigns_type p.0 p.1) ts (module_name_at ts) (then_at assign_at (type_at fits n)) (token_sound TypeRef is_typeref module_name_at typeref_is over ts) (assigned_sound t (type_at fits n) st))
      (λ ts. seq_sound over (token Ident) (typed t v) (λ p. assigns_value p.0 p.1.0 p.1.1) ts (ident_at ts) (typed_at fits n) (token_sound Ident is_ident ident_at ident_is over ts)
      (pair_sound over t (preceded (Mark Assign) v) (typed_at fits n)
      (λ us. seq_sound over t (preceded (Mark Assign) v) (λ p. p) us (type_at fits n us) (then_at assign_at (value_at fits n)) (st us) (assigned_sound v (value_at fits n) sv)))))

-- ---- no front is refused, and each whole is read

ends_first : (a b : Bool) → (a || b) ≡ false → a ≡ false
ends_first true b e = absurd cc
ends_first false b e = refl

ends_second : (a b : Bool) → (a || b) ≡ false → b ≡ false
ends_second true b e = absurd cc
ends_second false b e = e

-- what goes on with an assignment
abbrev pub assignment_ends : Lexeme → Bool
assignment_ends t = type_ends t || goes_on t

assign_no_type : (t : Lexeme) → is_assign t ≡ true → type_ends t ≡ false
assign_no_type (Mark Assign) e = refl
assign_no_type t e = absurd cc

begins_type : (t : Lexeme) → is_typeref t ≡ true → begins_assignment t ≡ true
begins_type (TypeRef x) e = refl
begins_type t e = absurd cc

begins_value : (t : Lexeme) → is_ident t ≡ true → begins_assignment t ≡ true
begins_value (Ident x) e = refl
begins_value t e = absurd cc

no_type : (t : Lexeme) → is_ident t ≡ true → is_typeref t ≡ false
no_type (Ident x) e = refl
no_type t e = absurd cc

preceded_solid : {A : Type 0} (m : Lexeme) (a : Grammar A) → IsSolid (preceded m a)
preceded_solid m a = seq_solid (token (λ (x : Unit {0}). m)) a second (token_solid (λ (x : Unit {0}). m))

pub assigns_solid : (t : Grammar TypeTree) (v : Grammar Tree) → IsSolid (assigns t v)
assigns_solid t v =
    either_solid (assigns_a_type t) (assigns_a_value t v) (seq_solid (token TypeRef) (preceded (Mark Assign) t) (λ p. assigns_type p.0 p.1) (token_solid TypeRef)) (seq_solid (token Ident) (typed t v) (λ p. assigns_value p.0 p.1.0 p.1.1) (token_solid Ident))

module _ (within : Limit → Type 0) (fits : ℕ → Bool) (n : ℕ) (t : Grammar TypeTree) (v : Grammar Tree)
    (type_starts value_starts : Lexeme → Bool) (ft : Finds within t type_starts type_ends (type_at fits n))
    (fv : Finds within v value_starts goes_on (value_at fits n)) (solid_t : IsSolid t) (solid_v : IsSolid v) where
  preceded_finds : {A : Type 0} (m : Lexeme) (test : Lexeme → Bool) (mark : Reader (Unit {0})) (a : Grammar A)
      (starts ends : Lexeme → Bool) (read : Reader A)
      → Finds within (token (λ (x : Unit {0}). m)) test no_lexeme mark
      → Finds within a starts ends read
      → IsSolid a
      → Finds within (preceded m a) test ends (then_at mark read)
  preceded_finds m test mark a starts ends read fm fa sa = seq_finds within (token (λ (x : Unit {0}). m)) a second test no_lexeme starts ends mark read fm fa (token_solid (λ (x : Unit {0}). m)) sa (λ t e. refl)

  assigned_finds : {A : Type 0} (a : Grammar A) (starts ends : Lexeme → Bool) (read : Reader A)
      → Finds within a starts ends read
      → IsSolid a
      → Finds within (preceded (Mark Assign) a) is_assign ends (then_at assign_at read)
  assigned_finds a starts ends read fa sa = preceded_finds (Mark Assign) is_assign assign_at a starts ends read (token_finds (λ (x : Unit {0}). Mark Assign) is_assign assign_at assign_is within) fa sa

  pub assignment_finds : Finds within (assigns t v) begins_assignment assignment_ends (assignment_at fits n)
  assignment_finds =
      let f1 = seq_finds within (token TypeRef) (preceded (Mark Assign) t) (λ p. assigns_type p.0 p.1) is_typeref no_lexeme is_assign type_ends module_name_at (then_at assign_at (type_at fits n)) (token_finds TypeRef is_typeref module_name_at typeref_is within) (assigned_finds t type_starts type_ends (type_at fits n) ft solid_t) (token_solid TypeRef) (preceded_solid (Mark Assign) t) (λ t e. refl) in
      let fp = pair_finds within t (preceded (Mark Assign) v) type_starts goes_on (typed_at fits n)
      (seq_finds within t (preceded (Mark Assign) v) (λ p. p) type_starts type_ends is_assign goes_on (type_at fits n) (then_at assign_at (value_at fits n)) ft (assigned_finds v value_starts goes_on (value_at fits n) fv solid_v) solid_t (preceded_solid (Mark Assign) v) assign_no_type) in
      let f2 = seq_finds within (token Ident) (typed t v) (λ p. assigns_value p.0 p.1.0 p.1.1) is_ident no_lexeme type_starts goes_on ident_at (typed_at fits n) (token_finds Ident is_ident ident_at ident_is within) fp (token_solid Ident) (pair_solid t (preceded (Mark Assign) v) solid_t) (λ t e. refl) in
      same_finds within (assigns t v) begins_assignment assignment_ends (pick is_typeref (type_read fits n) (value_read fits n)) (assignment_at fits n) (assignment_same fits n)
      (pick_finds within (assigns_a_type t) (assigns_a_value t v) is_typeref is_ident begins_assignment type_ends goes_on assignment_ends (type_read fits n) (value_read fits n) f1 f2 no_type
      (seq_solid (token TypeRef) (preceded (Mark Assign) t) (λ p. assigns_type p.0 p.1) (token_solid TypeRef)) (seq_solid (token Ident) (typed t v) (λ p. assigns_value p.0 p.1.0 p.1.1) (token_solid Ident)) begins_type begins_value (λ t e. ends_first (type_ends t) (goes_on t) e) (λ t e. ends_second (type_ends t) (goes_on t) e))

-- ---- more of what is in it, more of the whole

pub assigns_grow : (t t' : Grammar TypeTree) (v v' : Grammar Tree)
    → Grows t t'
    → Grows v v'
    → Grows (assigns t v) (assigns t' v')
assigns_grow t t' v v' gt gv =
    either_grows (assigns_a_type t) (assigns_a_type t') (assigns_a_value t v) (assigns_a_value t' v')
    (made_grows (token TypeRef ∙ preceded (Mark Assign) t) (token TypeRef ∙ preceded (Mark Assign) t') (λ p. assigns_type p.0 p.1) (seq_grows (token TypeRef) (token TypeRef) (preceded (Mark Assign) t) (preceded (Mark Assign) t') (same_grows (token TypeRef)) (preceded_grows (Mark Assign) t t' gt)))
    (made_grows (token Ident ∙ typed t v) (token Ident ∙ typed t' v') (λ p. assigns_value p.0 p.1.0 p.1.1) (seq_grows (token Ident) (token Ident) (typed t v) (typed t' v') (same_grows (token Ident)) (seq_grows t t' (preceded (Mark Assign) v) (preceded (Mark Assign) v') gt (preceded_grows (Mark Assign) v v' gv))))

pub assignment_consumes : (all : TypeLaws) (n : ℕ) → Consumes (assignment_at small n)
assignment_consumes all n = consumes (assigns (type small tag_small n) (value small n)) (assignment_at small n) (assigns_solid (type small tag_small n) (value small n)) (assignment_sound nowhere small n (type small tag_small n) (value small n) (all.sound n) (all.values.sound n))
