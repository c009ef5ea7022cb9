-- What types are in a schema, with what their constraints leave.
use Rattle.std.proofs.Common.{◌≡◌, ℕ, zero, suc, refl, sym, ap, subst, ◌∙◌}
use Rattle.std.specs.Prelude.{◌↔◌, ℤ, pos, List, [], ◌∷◌, map, Option, Some, None, slice_get}
use Rattle.std.proofs.lemmas.Option.{same_Some, none-some}
use Rattle.asn_base.specs.declared.strings.StringKind.{StringKind}
use Rattle.asn_base.specs.Names.{IsMember}
use Rattle.asn_base.specs.Types.{Constraint, NamedBit}
use Rattle.asn_base.specs.Types as types
use Rattle.asn_base.specs.Typed as typed
use Rattle.trees.specs.declared.types.ElementsKind.TheVariants.{SequenceOf, SetOf}
use Rattle.trees.specs.Values.{Name}
use Rattle.trees.specs.Types.{Plain, an_integer, a_bit_string, an_octet_string, a_utf8_string, a_restricted_string}
use Rattle.type_table.specs.Walks.{follow, onward}
use Rattle.type_table.specs.Table.{Type', WrittenKind, simple, elements, IsUnderlying, next}
use Rattle.resolve.specs.Program.{Program}
use Rattle.range_ends.specs.Ends.{IsTypeOfKind}
use Rattle.constraints.specs.Allowed.{IsNumberAllowed, IsInAlphabet, IsCounted, IsConstraintOf, AreCodesOf}
use Rattle.settled.specs.values.Allowing.{Allows, AllowsCode}
use Rattle.settled.specs.schema_of.SchemaOf as schema_of
use Rattle.settled.specs.schema_of.SchemaOf.{schema_bit}
use Rattle.extensions.specs.proving.Cores.{IsCoreOf}

-- ---- one kind

same_end : (f : ℕ → Option ℕ) (k m i c d : ℕ) → follow f k i ≡ Some c → f c ≡ None → follow f m i ≡ Some d → f d ≡ None → c ≡ d
same_end f zero zero i c d e n g o = same_Some c d (sym e ∙ g)
same_end f zero (suc m) i c d e n g o = absurd (go (f i) refl)
  where
    go : (x : Option ℕ) → f i ≡ x → ⊥
    go None q = none-some d (sym (ap (λ y. onward y (λ j. follow f m j)) q) ∙ g)
    go (Some j) q = none-some j (sym n ∙ sym (ap f (same_Some i c e)) ∙ q)
same_end f (suc k) zero i c d e n g o = absurd (go (f i) refl)
  where
    go : (x : Option ℕ) → f i ≡ x → ⊥
    go None q = none-some c (sym (ap (λ y. onward y (λ j. follow f k j)) q) ∙ e)
    go (Some j) q = none-some j (sym o ∙ sym (ap f (same_Some i d g)) ∙ q)
same_end f (suc k) (suc m) i c d e n g o = go (f i) refl (λ j. same_end f k m j c d)
  where
    go : (x : Option ℕ) → f i ≡ x → ((j : ℕ) → follow f k j ≡ Some c → f c ≡ None → follow f m j ≡ Some d → f d ≡ None → c ≡ d) → c ≡ d
    go None q more = absurd (none-some c (sym (ap (λ y. onward y (λ j. follow f k j)) q) ∙ e))
    go (Some j) q more = more j (sym (ap (λ y. onward y (λ j. follow f k j)) q) ∙ e) n (sym (ap (λ y. onward y (λ j. follow f m j)) q) ∙ g) o

pub one_core : (ts : List Type') (i c d : ℕ) → IsUnderlying ts i c → IsUnderlying ts i d → c ≡ d
one_core ts i c d a b = same_end (next ts) a.steps b.steps i c d a.chain a.ends b.chain b.ends

pub one_kind : (ts : List Type') (i : ℕ) (k l : WrittenKind) → IsTypeOfKind ts i k → IsTypeOfKind ts i l → k ≡ l
one_kind ts i k l a b =
    let same = one_core ts i a.core b.core a.chain b.chain in
    let types = same_Some a.type b.type (sym a.there ∙ ap (slice_get ts) same ∙ b.there) in
    sym a.kind ∙ ap (λ (t : Type'). t.kind) types ∙ b.kind

-- ---- what is allowed

allowed_by : (p : Program) (i : ℕ) (k : WrittenKind) (c : Constraint) (z : ℤ)
    → IsTypeOfKind p.types i k
    → IsConstraintOf p k i c
    → IsCounted k z
    → (typed.IsAllowed c z ↔ Allows p i z)
allowed_by p i k c z is h counted =
    let both = h.allowed z counted in
    (λ a l o. subst (λ x. IsNumberAllowed p x i z) (one_kind p.types i k l is o) (both.0 a), λ a. both.1 (a k is))

abbrev string_of : WrittenKind → Option StringKind
string_of (simple (a_restricted_string s)) = Some s
string_of k = None

codes_by : (p : Program) (i : ℕ) (s : StringKind) (codes : List ℕ) (x : ℕ)
    → IsTypeOfKind p.types i (simple (a_restricted_string s))
    → AreCodesOf p s i codes
    → (IsMember x codes ↔ AllowsCode p i x)
codes_by p i s codes x is h =
    let both = h.same x in (
      λ a t o.
          let same = one_kind p.types i (simple (a_restricted_string s)) (simple (a_restricted_string t)) is o in
          subst (λ y. IsInAlphabet p y i x) (same_Some s t (ap string_of same)) (both.0 a),
      λ a. both.1 (a s is),
    )

-- ---- kinds

pub integer_core : (p : Program) (i : ℕ) (M : Name) (ns : List (Name × ℤ)) (c : Constraint)
    → IsTypeOfKind p.types i (simple (an_integer ns))
    → IsConstraintOf p (simple (an_integer ns)) i c
    → IsCoreOf p i M (simple (an_integer ns)) (types.an_integer c)
integer_core p i M ns c is h = record {
  kind = schema_of.integer (λ z. allowed_by p i (simple (an_integer ns)) c z is h tt);
  constrained = h;
  items = tt;
}

pub bits_core : (p : Program) (i : ℕ) (M : Name) (bs : List (Name × ℕ)) (c : Constraint)
    → bs ≡ []
    → IsTypeOfKind p.types i (simple (a_bit_string bs))
    → IsConstraintOf p (simple (a_bit_string bs)) i c
    → IsCoreOf p i M (simple (a_bit_string bs)) (types.a_bit_string c)
bits_core p i M [] c e is h = record {
  kind = schema_of.bits (λ n. allowed_by p i (simple (a_bit_string [])) c (pos n) is h tt);
  constrained = h;
  items = tt;
}
bits_core p i M (b ∷ bs) c e is h = absurd cc

pub named_core : (p : Program) (i : ℕ) (M : Name) (bs : List (Name × ℕ)) (ns : List NamedBit)
    → (bs ≡ [] → ⊥)
    → ns ≡ map schema_bit bs
    → IsCoreOf p i M (simple (a_bit_string bs)) (types.a_named_bit_string ns)
named_core p i M [] ns some e = absurd (some refl)
named_core p i M (b ∷ bs) ns some e = record { kind = schema_of.named_bits e; constrained = tt; items = tt }

pub octets_core : (p : Program) (i : ℕ) (M : Name) (c : Constraint)
    → IsTypeOfKind p.types i (simple an_octet_string)
    → IsConstraintOf p (simple an_octet_string) i c
    → IsCoreOf p i M (simple an_octet_string) (types.an_octet_string c)
octets_core p i M c is h = record {
  kind = schema_of.octets (λ n. allowed_by p i (simple an_octet_string) c (pos n) is h tt);
  constrained = h;
  items = tt;
}

pub utf8_core : (p : Program) (i : ℕ) (M : Name) (c : Constraint)
    → IsTypeOfKind p.types i (simple a_utf8_string)
    → IsConstraintOf p (simple a_utf8_string) i c
    → IsCoreOf p i M (simple a_utf8_string) (types.a_utf8_string c)
utf8_core p i M c is h = record {
  kind = schema_of.utf8 (λ n. allowed_by p i (simple a_utf8_string) c (pos n) is h tt);
  constrained = h;
  items = tt;
}

pub string_core : (p : Program) (i : ℕ) (M : Name) (s : StringKind) (codes : List ℕ) (c : Constraint)
    → IsTypeOfKind p.types i (simple (a_restricted_string s))
    → AreCodesOf p s i codes
    → IsConstraintOf p (simple (a_restricted_string s)) i c
    → IsCoreOf p i M (simple (a_restricted_string s)) (types.a_restricted_string s codes c)
string_core p i M s codes c is g h = record {
  kind = schema_of.restricted (λ x. codes_by p i s codes x is g)
      (λ n. allowed_by p i (simple (a_restricted_string s)) c (pos n) is h tt);
  constrained = (g, h);
  items = tt;
}

pub sequence_of_core : (p : Program) (i : ℕ) (M : Name) (j : ℕ) (c : Constraint)
    → IsTypeOfKind p.types i (elements SequenceOf j)
    → IsConstraintOf p (elements SequenceOf j) i c
    → IsCoreOf p i M (elements SequenceOf j) (types.a_sequence_of c j)
sequence_of_core p i M j c is h = record {
  kind = schema_of.sequence_of (λ n. allowed_by p i (elements SequenceOf j) c (pos n) is h tt);
  constrained = h;
  items = tt;
}

pub set_of_core : (p : Program) (i : ℕ) (M : Name) (j : ℕ) (c : Constraint)
    → IsTypeOfKind p.types i (elements SetOf j)
    → IsConstraintOf p (elements SetOf j) i c
    → IsCoreOf p i M (elements SetOf j) (types.a_set_of c j)
set_of_core p i M j c is h = record {
  kind = schema_of.set_of (λ n. allowed_by p i (elements SetOf j) c (pos n) is h tt);
  constrained = h;
  items = tt;
}
