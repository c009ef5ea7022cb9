-- What a value assignment comes to under a type, it comes to under a type whose constraints allow the same.
use Rattle.std.proofs.Common.{inl, inr, ◌≡◌, ℕ, refl, subst, Bool}
use Rattle.std.specs.Prelude.{List, [], ◌∷◌, ℤ, pos, length}
use Rattle.std.specs.List.{AllByRecursion}
use Rattle.asn_base.specs.Abstract.{AbstractValue, bits}
use Rattle.trees.specs.Values.{Name, Tree}
use Rattle.trees.specs.Types.{Plain, a_bit_string, a_restricted_string}
use Rattle.type_table.specs.Table.{WrittenKind, IsUnderlying, simple, next}
use Rattle.resolve.specs.Program.{Program}
use Rattle.range_ends.specs.Ends.{IsTypeOfKind}
use Rattle.values.specs.constraints.Allowed.{IsNumberAllowed, LeaveTheSame}
use Rattle.value_notations.specs.Leaves.{IsLeafNotation}
use Rattle.value_notations.specs.Leaves as leaves
use Rattle.value_notations.specs.Notations.{Notation, NotationOf, notation}
use Rattle.value_notations.specs.Notations as family
use Rattle.value_notations.specs.Values.{NotatedValueIn, NotatedValueOf, IsPlainValue, value_in}
use Rattle.value_notations.specs.Values as values
use Rattle.value_notations.specs.proving.Following.{one_kind, walks_to_one}
use Rattle.values.specs.Allowing.{Allows, AllowsCode}
use Rattle.typed_values.specs.declared.named.NamedValue.{NamedValue}
use Rattle.typed_values.specs.Known.{ComesTo}
use Rattle.typed_values.specs.proving.Turns.{AreAlike}
use Rattle.typed_values.proofs.Found.{apart_none}

one_core : (p : Program) {i c d : ℕ} → IsUnderlying p.types i c → IsUnderlying p.types i d → c ≡ d
one_core p {i} {c} {d} g h = walks_to_one (next p.types) g.steps h.steps i c d g.chain g.ends h.chain h.ends

module _ (p : Program) (i j : ℕ) (a : AreAlike p i j) where
  kind_too : {k : WrittenKind} → IsTypeOfKind p.types i k → IsTypeOfKind p.types j k
  kind_too t = record {
    core = t.core;
    type = t.type;
    chain = subst (λ c. IsUnderlying p.types j c) (one_core p a.one t.chain) a.other;
    there = t.there;
    kind = t.kind;
  }

  kind_back : {k : WrittenKind} → IsTypeOfKind p.types j k → IsTypeOfKind p.types i k
  kind_back t = record {
    core = t.core;
    type = t.type;
    chain = subst (λ c. IsUnderlying p.types i c) (one_core p a.other t.chain) a.one;
    there = t.there;
    kind = t.kind;
  }

  number_too : {k : WrittenKind} {z : ℤ} → LeaveTheSame p k i j → IsNumberAllowed p k i z → IsNumberAllowed p k j z
  number_too {z = z} s h = elim h [
    | inl r ↦ inl ((s.root z).0 r)
    | inr e ↦ inr (e.0, s.extensible.0 e.1)
  ]

  allows_too : (z : ℤ) → Allows p i z → Allows p j z
  allows_too z h = λ k t. number_too (a.same k (kind_back t) t) (h k (kind_back t))

  code_too : (c : ℕ) → AllowsCode p i c → AllowsCode p j c
  code_too c h = λ s t. ((a.same (simple (a_restricted_string s)) (kind_back t) t).alphabet c).0 (h s (kind_back t))

  codes_too : (cs : List ℕ) → AllByRecursion (AllowsCode p i) cs → AllByRecursion (AllowsCode p j) cs
  codes_too [] h = tt
  codes_too (c ∷ cs) h = (code_too c h.0, codes_too cs h.1)

  bits_too : (bs : List (Name × ℕ)) (s : List Bool) →
      IsPlainValue (Allows p) (AllowsCode p) i (a_bit_string bs) (bits s) →
      IsPlainValue (Allows p) (AllowsCode p) j (a_bit_string bs) (bits s)
  bits_too [] s h = allows_too (pos (length s)) h
  bits_too (b ∷ bs) s h = h

  plain_too : {k : Plain} {l : Tree} {v : AbstractValue} →
      IsLeafNotation k l v →
      IsPlainValue (Allows p) (AllowsCode p) i k v →
      IsPlainValue (Allows p) (AllowsCode p) j k v
  plain_too leaves.truth h = h
  plain_too leaves.falsehood h = h
  plain_too leaves.written_number h = (h.0, allows_too _ h.1)
  plain_too (leaves.named_number e) h = (h.0, allows_too _ h.1)
  plain_too (leaves.named_item e) h = h
  plain_too (leaves.bit_digits {bs = bs} {s = s} e f) h = bits_too bs s h
  plain_too (leaves.bit_hex {bs = bs} {s = s} e f) h = bits_too bs s h
  plain_too (leaves.no_named_bit {bs = bs} e) h = bits_too bs [] h
  plain_too (leaves.named_bits {bs = bs} {s = s} e f) h = bits_too bs s h
  plain_too (leaves.octet_digits e) h = (h.0, allows_too _ h.1)
  plain_too (leaves.octet_hex e) h = (h.0, allows_too _ h.1)
  plain_too leaves.nothing_more h = h
  plain_too (leaves.identifier e) h = h
  plain_too leaves.relative h = h
  plain_too leaves.relative_alone h = h
  plain_too (leaves.utf8 e) h = (h.0, allows_too _ h.1)
  plain_too (leaves.restricted e) h = (codes_too _ h.0, allows_too _ h.1)

  value_too : {n : ℕ} {N : Name} {os : List ℕ} {K : Name} {k : WrittenKind} {l : Tree} {v : AbstractValue} →
      NotationOf p os K k l v →
      NotatedValueOf p (Allows p) (AllowsCode p) n i N k v →
      NotatedValueOf p (Allows p) (AllowsCode p) n j N k v
  value_too (family.of_leaf h) (values.of_leaf b) = values.of_leaf (plain_too h b)
  value_too (family.of_fields e b h w) (values.of_fields none m g) = values.of_fields none m g
  value_too (family.of_list e h) (values.of_list m b) = values.of_list m (allows_too _ b)
  value_too (family.of_choice s e h) (values.of_choice t m) = values.of_choice t m

  stands_too : {os : List ℕ} {M : Name} {n : Tree} {v : AbstractValue} → Notation p os M i n v → Notation p os M j n v
  stands_too (notation t e h) = notation (kind_too t) e h

  shaped_too : {n : ℕ} {os : List ℕ} {M : Name} {t : Tree} {v : AbstractValue} → Notation p os M i t v →
      NotatedValueIn p (Allows p) (AllowsCode p) n i v → NotatedValueIn p (Allows p) (AllowsCode p) n j v
  shaped_too {v = v} (notation {ps = ps} {K = K} {l = l} {k = k} s e h) (value_in {n = n} {t = w} {M = N} c f g b) =
      let same = one_kind p.types i k w.kind s (record { core = _; type = w; chain = c; there = f; kind = refl }) in
      value_in (subst (λ d. IsUnderlying p.types j d) (one_core p a.one c) a.other) f g
      (value_too (subst (λ (x : WrittenKind). NotationOf p ps K x l v) same h) b)

pub comes_too : {p : Program} {turns : List ℕ} (e : NamedValue) (j : ℕ) → ComesTo p turns e → AreAlike p e.ty j →
    ComesTo p turns (record { number = e.number; ty = j; levels = e.levels; nodes = e.nodes; latest = e.latest })
comes_too {p} {turns} e j c a = record {
  within = c.within;
  notation = c.notation;
  there = c.there;
  value = c.value;
  named = c.named;
  itself = c.itself;
  by = c.by;
  holds = λ os h. stands_too p e.ty j a (c.holds os h);
  shaped = shaped_too p e.ty j a (c.holds [] (apart_none c.named)) c.shaped;
  counted = c.counted;
}
