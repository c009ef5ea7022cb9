-- An encoding is a header with a first tag of its type, and as many octets as it announces.
use Rattle.std.proofs.Common.{arith, ◌≡◌, ℕ, ◌≤◌, Bool, true, List, [], ◌∷◌, ◌++◌, length, refl, sym, subst}
use Rattle.asn_base.specs.declared.tag.Tag.{Tag}
use Rattle.asn_base.specs.Abstract.{AbstractValue}
use Rattle.asn_base.specs.Types.{Kind, Resolved, Is}
use Rattle.asn_base.specs.Tags.{First, first_tag, first_of_choice, IsChoice, AllTagged}
use Rattle.encodings.specs.Rules.{Rules}
use Rattle.encodings.specs.Header.{Header}
use Rattle.encodings.specs.Contents.{Contents, of_false, of_true, of_integer, of_enumerated, of_bits, of_named_bits, of_octets, of_null, of_oid, of_relative_oid, of_utf8, of_restricted}
use Rattle.encodings.specs.Encoding.{Framed, bare, innermost, outer, EncodesTo, says, ContentsEncode, leaf, sequence, set, sequence_of, set_of, choice}
use Rattle.encodings.specs.Levels.{levels, inner_levels}

pub record Begun (s : List Resolved) (t : ℕ) (o : List ℕ) : Type 0 where
  pub tag : Tag
  pub is_first : First s t tag
  pub constructed : Bool
  pub header : List ℕ
  pub contents : List ℕ
  pub is_header : Header tag constructed (length contents) header
  pub whole : o ≡ header ++ contents

framed_begun : {s : List Resolved} {t : ℕ} {r : Rules} {g : Tag} {ts : List Tag} {c : Bool} {x o : List ℕ} → First s t g → Framed r (g ∷ ts) c x o → Begun s t o
framed_begun {g = g} {c = c} {x = x} f (innermost {h = h} a) = record { tag = g; is_first = f; constructed = c; header = h; contents = x; is_header = a.header; whole = refl }
framed_begun {g = g} f (outer {h = h} {y = y} w a) = record { tag = g; is_first = f; constructed = true; header = h; contents = y; is_header = a.header; whole = refl }

no_leaf : {r : Rules} {k : Kind} {v : AbstractValue} {c : Bool} {x : List ℕ} → IsChoice k → Contents r k v c x → ⊥
no_leaf h of_false = h
no_leaf h (of_true a l e) = h
no_leaf h (of_integer a) = h
no_leaf h (of_enumerated a) = h
no_leaf h (of_bits a e y) = h
no_leaf h (of_named_bits a e y z) = h
no_leaf h (of_octets a e) = h
no_leaf h of_null = h
no_leaf h (of_oid a) = h
no_leaf h (of_relative_oid a) = h
no_leaf h (of_utf8 a e) = h
no_leaf h (of_restricted a e) = h

bare_is : {r : Rules} {c : Bool} {x o : List ℕ} → Framed r [] c x o → o ≡ x
bare_is bare = refl

begun_at : {s : List Resolved} {t : ℕ} {x o : List ℕ} → o ≡ x → Begun s t x → Begun s t o
begun_at {s} {t} e b = subst (λ q. Begun s t q) (sym e) b

mutual
  pub begun : {s : List Resolved} {r : Rules} {t n : ℕ} {v : AbstractValue} {o : List ℕ} → AllTagged s → EncodesTo s r t v n o → Begun s t o
  begun all (says {tags = []} i h fr) = begun_at (bare_is fr) (holds_begun all (all _ _ i) i h)
  begun all (says {tags = g ∷ ts} i h fr) = framed_begun (first_tag i) fr

  holds_begun : {s : List Resolved} {r : Rules} {t : ℕ} {k : Kind} {n : ℕ} {v : AbstractValue} {c : Bool} {x : List ℕ} → AllTagged s → IsChoice k → Is s t [] k → ContentsEncode s r k v n c x → Begun s t x
  holds_begun all h j (leaf con) = absurd (no_leaf h con)
  holds_begun all h j (sequence ms u) = absurd h
  holds_begun all h j (set ms p st u m) = absurd h
  holds_begun all h j (sequence_of es) = absurd h
  holds_begun all h j (set_of es st) = absurd h
  holds_begun all h j (choice {i = i} g a) =
      let b = begun all a in
      record { tag = b.tag; is_first = first_of_choice i j g b.is_first; constructed = b.constructed; header = b.header; contents = b.contents; is_header = b.is_header; whole = b.whole }

mutual
  -- it has a header at least
  pub levels_some : {s : List Resolved} {r : Rules} {t n : ℕ} {v : AbstractValue} {o : List ℕ} → AllTagged s → (d : EncodesTo s r t v n o) → 1 ≤ levels d
  levels_some all (says {tags = []} i h fr) = let l = inner_some all (all _ _ i) h in omega (arith, l)
  levels_some all (says {tags = g ∷ ts} i h fr) = omega arith

  inner_some : {s : List Resolved} {r : Rules} {k : Kind} {n : ℕ} {v : AbstractValue} {c : Bool} {x : List ℕ} → AllTagged s → IsChoice k → (h : ContentsEncode s r k v n c x) → 1 ≤ inner_levels h
  inner_some all h (leaf con) = absurd (no_leaf h con)
  inner_some all h (sequence ms u) = absurd h
  inner_some all h (set ms p st u m) = absurd h
  inner_some all h (sequence_of es) = absurd h
  inner_some all h (set_of es st) = absurd h
  inner_some all h (choice g a) = levels_some all a
