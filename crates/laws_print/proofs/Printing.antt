-- A printed value has tokens that the grammar takes for its tree: by recursion over the value under its type.
use Rattle.std.proofs.Common.{◌≡◌, ℕ, zero, suc, ◌^◌, ◌≤◌, ◌<◌, Bool, true, false, List, [], ◌∷◌, ◌++◌, length, Option, Some, None, refl, sym, ap, subst, ◌∙◌ as ◌⋆◌, arith, inl, inr}
use Rattle.std.specs.Prelude.{◌⊎◌, slice_get, codes, ℤ, pos, negsuc, decimal, map, if◌then◌else◌}
use Rattle.std.specs.List.{AllByRecursion, list_any}
use Rattle.std.specs.Ordering.{int_eq}
use Rattle.std.specs.Int.Digits.{AllBelowBase}
use Rattle.std.proofs.lemmas.Bool.Decides.{nat_tests}
use Rattle.text.specs.declared.token.Mark.TheVariants.{OpenBrace, CloseBrace, Comma, Minus, Colon}
use Rattle.text.specs.declared.reserved.Word.TheVariants.{True, False, Null}
use Rattle.grammar.specs.Lexeme.{Lexeme, Ident, Number, HString, BString, CString, Word, Mark}
use Rattle.grammar.specs.Grammar.{Grammar, token, ◌∙◌, IsMany, preceded, listed, number_of}
use Rattle.grammar.specs.Places.{small}
use Rattle.trees.specs.Values.{Name, Tree, number, hex, chars, chosen, nothing}
use Rattle.notation.specs.Value.{value}
use Rattle.asn_base.specs.declared.tag.Tag.{Tag}
use Rattle.asn_base.specs.Names.{IsIdentifier}
use Rattle.asn_base.specs.Abstract.{AbstractValue, boolean, integer, enumerated, bits, octets, text, oid, relative_oid, fields as fields', list, Row, absent, present}
use Rattle.asn_base.specs.Types.{Kind, an_enumerated, Alternative, Component, Item, Resolved, Is}
use Rattle.asn_base.specs.Schemas.{components, IsSchema}
use Rattle.asn_base.specs.Typed.{IsPrimitive, fits_boolean, fits_integer, fits_enumerated, fits_bits, fits_named_bits, fits_octets, fits_null, fits_oid, fits_relative_oid, fits_utf8, fits_restricted, HasNumber, arcs, ValueIn, value_in, ValueOf, of_leaf, of_sequence, of_set, of_sequence_of, of_set_of, of_choice, AreComponents, no_component, component_absent, component_present, AreElements, no_element, one_element, IsWithinLimit}
use Rattle.value_text.specs.Print.{braced as braced_text, hex_text, quoted, is_line_end, spaced, kind_in, kind_at, items_in, name_with, name_in, element_in, alternatives_in, print, print_fields, print_elements}
use Rattle.laws_print.specs.Back.{bit_values, nibbles, numbers_tree, fields_tree, items_tree, tree_of, members_of, trees_of}
use Rattle.laws_print.specs.Lexing.{Speaks, ends, Ends}
use Rattle.laws_print.proofs.Pieces.{joined, nothing_said}
use Rattle.laws_print.proofs.Tokens.{Any, NoHyphen, identifier, true_word, false_word, null_word, open_brace, close_brace, comma, colon, minus, space}
use Rattle.laws_print.proofs.Numerals.{number_said, number_begins}
use Rattle.laws_print.proofs.Names.{identifier_token}
use Rattle.laws_print.proofs.Digits.{hex_said, bits_said, bits_text}
use Rattle.laws_print.proofs.Strings.{text_said}
use Rattle.laws_print.proofs.Octets.{utf8_below, codes_below}

-- the text has these tokens in any place before what ends it, and they are the value's tree
pub record Printed (s : List Resolved) (n t : ℕ) (v : AbstractValue) (w : List ℕ) : Type 0 where
  pub lexemes : List Lexeme
  pub speaks : Speaks Ends w lexemes
  pub is : (value small n).Is (tree_of s t v) lexemes

-- ---- separators

ends_space : (z : List ℕ) → Ends (32 ∷ z)
unfolding ends
ends_space z = refl

ends_comma : (z : List ℕ) → Ends (44 ∷ z)
unfolding ends
ends_comma z = refl

ends_brace : (z : List ℕ) → Ends (125 ∷ z)
unfolding ends
ends_brace z = refl

pub ends_nil : Ends []
unfolding ends
ends_nil = refl

weaker : (P Q : List ℕ → Type 0) (w : List ℕ) (ls : List Lexeme) → Speaks P w ls → ((z : List ℕ) → Q z → P z) → Speaks Q w ls
weaker P Q w ls a f x z i e q = a x z i e (f z q)

comma_said : Speaks Any (codes ", ") (Mark Comma ∷ [])
comma_said = joined Any Any (codes ",") (codes " ") (Mark Comma ∷ []) [] comma space (λ z q. tt)

colon_said : Speaks Any (codes " : ") (Mark Colon ∷ [])
colon_said = joined Any Any (codes " ") (codes ": ") [] (Mark Colon ∷ []) space (joined Ends Any (codes ":") (codes " ") (Mark Colon ∷ []) [] colon space (λ z q. ends_space z)) (λ z q. tt)

-- a text in braces
braced : (w : List ℕ) (ls : List Lexeme) → Speaks Ends w ls → Speaks Ends (codes "{" ++ (w ++ codes "}")) (Mark OpenBrace ∷ (ls ++ (Mark CloseBrace ∷ [])))
braced w ls a = joined Any Ends (codes "{") (w ++ codes "}") (Mark OpenBrace ∷ []) (ls ++ (Mark CloseBrace ∷ [])) open_brace
    (joined Ends Ends w (codes "}") ls (Mark CloseBrace ∷ []) a (weaker Any Ends (codes "}") (Mark CloseBrace ∷ []) close_brace (λ z q. tt)) (λ z q. ends_brace z)) (λ z q. tt)

-- ---- numbers

is_small : (n : ℕ) → n < 2 ^ 127 → small n ≡ true
is_small n lt = grind (arith, nat_tests)

printed_integer : (s : List Resolved) (n t : ℕ) (z : ℤ) → IsWithinLimit z → Printed s (suc n) t (integer z) (print s t (integer z))
printed_integer s n t (pos m) l = record {
  lexemes = Number m ∷ [];
  speaks = number_said m (omega (arith, l)) (omega (arith, l));
  is = inl (inr (inr (inr (inl (m, refl, (is_small m l, refl))))));
}
printed_integer s n t (negsuc m) l = record {
  lexemes = Mark Minus ∷ Number (suc m) ∷ [];
  speaks = joined NoHyphen Ends (codes "-") (decimal (suc m)) (Mark Minus ∷ []) (Number (suc m) ∷ []) minus (number_said (suc m) (omega (arith, l)) (omega (arith, l))) (λ z q. number_begins (suc m) (omega (arith, l)) z);
  is = inl (inr (inr (inr (inr (inl (suc m, refl, ((tt, suc m), refl, (Mark Minus ∷ [], Number (suc m) ∷ [], refl, refl, refl))))))));
}

abbrev said : List ℕ → List Lexeme
said = map Number

-- numbers with a space before each
record Spaced (ns : List ℕ) : Type 0 where
  speaks : Speaks Ends (spaced (codes " ") ns) (said ns)
  are : IsMany (number_of small) ns (said ns)
  next : (z : List ℕ) → Ends z → Ends (spaced (codes " ") ns ++ z)

below_limit : (n : ℕ) → n < 2 ^ 64 → n < 2 ^ 127
below_limit n l = omega (arith, l)

numeral_said : (n : ℕ) → n < 2 ^ 64 → Speaks Ends (decimal n) (Number n ∷ [])
numeral_said n l = number_said n (omega (arith, l)) (omega (arith, l))

spaced_said : (ns : List ℕ) → AllByRecursion (λ n. n < 2 ^ 64) ns → Spaced ns
spaced_said [] a = record { speaks = nothing_said Ends; are = refl; next = λ z q. q }
spaced_said (n ∷ ns) a =
    let r = spaced_said ns a.1 in
    record {
      speaks = joined Any Ends (codes " ") (decimal n ++ spaced (codes " ") ns) [] (said (n ∷ ns)) space
          (joined Ends Ends (decimal n) (spaced (codes " ") ns) (Number n ∷ []) (said ns) (numeral_said n a.0) r.speaks r.next) (λ z q. tt);
      are = (Number n ∷ [], said ns, refl, (is_small n (below_limit n a.0), refl), r.are);
      next = λ z q. ends_space [];
    }

-- numbers, the first with nothing before it
listed_numbers : (n : ℕ) (ns : List ℕ) → AllByRecursion (λ n. n < 2 ^ 64) (n ∷ ns) → Speaks Ends (spaced [] (n ∷ ns)) (said (n ∷ ns))
listed_numbers n ns a =
    let r = spaced_said ns a.1 in
    joined Ends Ends (decimal n) (spaced (codes " ") ns) (Number n ∷ []) (said ns) (numeral_said n a.0) r.speaks r.next

-- one number in braces is a list of one item
one_number : (n m : ℕ) → small m ≡ true → (value small n).Is (number (pos m)) (Number m ∷ [])
one_number zero m e = inr (inr (inr (inl (m, refl, (e, refl)))))
one_number (suc n) m e = inl (inr (inr (inr (inl (m, refl, (e, refl))))))

record Numbers (n : ℕ) (ns : List ℕ) : Type 0 where
  lexemes : List Lexeme
  speaks : Speaks Ends (braced_text (spaced [] ns)) lexemes
  is : (value small (suc n)).Is (numbers_tree ns) lexemes

numbers_said : (n : ℕ) (ns : List ℕ) → 1 ≤ length ns → AllByRecursion (λ n. n < 2 ^ 64) ns → Numbers n ns
numbers_said n [] l a = absurd (omega (arith, l))
numbers_said n (m ∷ []) l a = record {
  lexemes = Mark OpenBrace ∷ (said (m ∷ []) ++ (Mark CloseBrace ∷ []));
  speaks = braced (spaced [] (m ∷ [])) (said (m ∷ [])) (listed_numbers m [] a);
  is =
      let o = one_number n m (is_small m (below_limit m a.0)) in
      inr (inr (inr (inr (inl (number (pos m) ∷ [], refl, ((tt, (number (pos m) ∷ [], tt)), refl, (Mark OpenBrace ∷ [], said (m ∷ []) ++ (Mark CloseBrace ∷ []), refl, refl, (said (m ∷ []), Mark CloseBrace ∷ [], refl, ((number (pos m), []), refl, (said (m ∷ []), [], refl, o, refl)), refl))))))));
}
numbers_said n (m ∷ k ∷ ns) l a =
    let r = spaced_said ns a.1.1 in record {
      lexemes = Mark OpenBrace ∷ (said (m ∷ k ∷ ns) ++ (Mark CloseBrace ∷ []));
      speaks = braced (spaced [] (m ∷ k ∷ ns)) (said (m ∷ k ∷ ns)) (listed_numbers m (k ∷ ns) a);
      is = inr (inr (inr (inl ((m, (k, ns)), refl, ((tt, ((m, (k, ns)), tt)), refl, (Mark OpenBrace ∷ [], said (m ∷ k ∷ ns) ++ (Mark CloseBrace ∷ []), refl, refl, (said (m ∷ k ∷ ns), Mark CloseBrace ∷ [], refl, (Number m ∷ [], said (k ∷ ns), refl, (is_small m (below_limit m a.0), refl), (Number k ∷ [], said ns, refl, (is_small k (below_limit k a.1.0), refl), r.are)), refl)))))));
    }

-- ---- items

kind_is : (s : List Resolved) (t : ℕ) (tags : List Tag) (k : Kind) → Is s t tags k → kind_at s t ≡ k
kind_is s t tags k is = ap kind_in is.found

all_get : {A : Type 0} (P : A → Type 0) (cs : List A) (i : ℕ) (a : A) → AllByRecursion P cs → slice_get cs i ≡ Some a → P a
all_get P [] i a h e = absurd cc
all_get P (c ∷ cs) zero a h e = let f : c ≡ a = cc in subst P f h.0
all_get P (c ∷ cs) (suc i) a h e = all_get P cs i a h.1 e

mapped : {A B : Type 0} (f : A → B) (P : B → Type 0) (xs : List A) → AllByRecursion P (map f xs) → AllByRecursion (λ x. P (f x)) xs
mapped f P [] a = tt
mapped f P (x ∷ xs) a = (a.0, mapped f P xs a.1)

same_number : (z : ℤ) → int_eq z z ≡ true
same_number (pos n) = grind (arith, nat_tests)
same_number (negsuc n) = grind (arith, nat_tests)

-- the identifier that is found for a number
item_found : (is : List Item) (z : ℤ) → HasNumber is z → AllByRecursion (λ i. IsIdentifier i.name) is → IsIdentifier (name_in (name_with is z))
item_found [] z h a = absurd h
item_found (i ∷ is) z h a = of_test (int_eq i.number z) refl h (λ g. item_found is z g a.1)
  where
    of_test : (b : Bool) → int_eq i.number z ≡ b → (i.number ≡ z) ⊎ HasNumber is z → (HasNumber is z → IsIdentifier (name_in (name_with is z))) → IsIdentifier (name_in (if b then Some i.name else name_with is z))
    of_test true e h more = a.0
    of_test false e (inl same) more = absurd (let f : int_eq i.number z ≡ true = ap (λ y. int_eq y z) same ⋆ same_number z in let g = sym e ⋆ f in cc)
    of_test false e (inr g) more = more g

-- ---- values without others

module _ (s : List Resolved) (schema : IsSchema s) where
  hex_printed : (n t : ℕ) (v : AbstractValue) (o : List ℕ) → AllBelowBase 256 o → tree_of s t v ≡ hex (nibbles o) → Printed s (suc n) t v (hex_text o)
  hex_printed n t v o b e = record {
    lexemes = HString (nibbles o) ∷ [];
    speaks = weaker Any Ends (hex_text o) (HString (nibbles o) ∷ []) (hex_said o b) (λ z q. tt);
    is = subst (λ (l : Tree). (value small (suc n)).Is l (HString (nibbles o) ∷ [])) (sym e) (inl (inr (inr (inr (inr (inr (inr (inl (nibbles o, refl, refl)))))))));
  }

  printed_text : (n t : ℕ) (o : List ℕ) → AllBelowBase 256 o → Printed s (suc n) t (text o) (print s t (text o))
  printed_text n t o b = of_test (list_any is_line_end o) refl
    where
      of_test : (l : Bool) → list_any is_line_end o ≡ l → Printed s (suc n) t (text o) (if l then hex_text o else quoted o)
      of_test true e = hex_printed n t (text o) o b (ap (λ l. if l then hex (nibbles o) else chars o) e)
      of_test false e = record {
        lexemes = CString o ∷ [];
        speaks = text_said o e;
        is = subst (λ (l : Tree). (value small (suc n)).Is l (CString o ∷ [])) (sym (ap (λ l. if l then hex (nibbles o) else chars o) e)) (inl (inr (inr (inr (inr (inr (inr (inr (inl (o, refl, refl))))))))));
      }

  printed_bits : (n t : ℕ) (b : List Bool) → Printed s (suc n) t (bits b) (print s t (bits b))
  printed_bits n t b = record {
    lexemes = BString (bit_values b) ∷ [];
    speaks = weaker Any Ends (bits_text b) (BString (bit_values b) ∷ []) (bits_said b) (λ z q. tt);
    is = inl (inr (inr (inr (inr (inr (inl (bit_values b, refl, refl)))))));
  }

  printed_item : (n t : ℕ) (tags : List Tag) (root more : List Item) (e : Bool) (z : ℤ) → Is s t tags (an_enumerated root e more) → HasNumber (root ++ more) z → Printed s (suc n) t (enumerated z) (print s t (enumerated z))
  printed_item n t tags root more e z is h =
      let k = kind_is s t tags (an_enumerated root e more) is in
      let names = mapped (λ i. i.name) IsIdentifier (root ++ more) (schema.sound t tags (an_enumerated root e more) is).names.identifiers in
      let x = item_found (root ++ more) z h names in
      let y = subst (λ (k : Kind). IsIdentifier (name_in (name_with (items_in k) z))) (sym k) x in
      record {
        lexemes = Ident (name_in (name_with (items_in (kind_at s t)) z)) ∷ [];
        speaks = identifier (name_in (name_with (items_in (kind_at s t)) z)) (identifier_token (name_in (name_with (items_in (kind_at s t)) z)) y);
        is = inl (inr (inr (inr (inr (inr (inr (inr (inr (inl (name_in (name_with (items_in (kind_at s t)) z), refl, refl))))))))));
      }

  printed_numbers : (n t : ℕ) (v : AbstractValue) (ns : List ℕ) → tree_of s t v ≡ numbers_tree ns → 1 ≤ length ns → AllByRecursion (λ n. n < 2 ^ 64) ns → Printed s (suc n) t v (braced_text (spaced [] ns))
  printed_numbers n t v ns e l a =
      let r = numbers_said n ns l a in
      record { lexemes = r.lexemes; speaks = r.speaks; is = subst (λ (l : Tree). (value small (suc n)).Is l r.lexemes) (sym e) r.is }

  printed_leaf : (n t : ℕ) (tags : List Tag) (k : Kind) (v : AbstractValue) → Is s t tags k → IsPrimitive k v → Printed s (suc n) t v (print s t v)
  printed_leaf n t tags k v is (fits_boolean {b}) = go b
    where
      go : (b : Bool) → Printed s (suc n) t (boolean b) (print s t (boolean b))
      go true = record { lexemes = Word True ∷ []; speaks = true_word; is = inl (inl (tt, refl, refl)) }
      go false = record { lexemes = Word False ∷ []; speaks = false_word; is = inl (inr (inl (tt, refl, refl))) }
  printed_leaf n t tags k v is (fits_integer {z} l a) = printed_integer s n t z l
  printed_leaf n t tags k v is (fits_enumerated {root} {more} {e} {z} l h) = printed_item n t tags root more e z is h
  printed_leaf n t tags k v is (fits_bits {s = b} a) = printed_bits n t b
  printed_leaf n t tags k v is (fits_named_bits {s = b}) = printed_bits n t b
  printed_leaf n t tags k v is (fits_octets {o} b a) = hex_printed n t (octets o) o b refl
  printed_leaf n t tags k v is fits_null = record { lexemes = Word Null ∷ []; speaks = null_word; is = inl (inr (inr (inl (tt, refl, refl)))) }
  printed_leaf n t tags k v is (fits_oid (arcs {x} {y} {zs} a b c d l)) = printed_numbers n t (oid (x ∷ y ∷ zs)) (x ∷ y ∷ zs) refl (omega arith) (omega (arith, a), (c, d))
  printed_leaf n t tags k v is (fits_relative_oid {ns} r) = printed_numbers n t (relative_oid ns) ns refl r.some r.small
  printed_leaf n t tags k v is (fits_utf8 {o} u a) = printed_text n t o (utf8_below o u)
  printed_leaf n t tags k v is (fits_restricted {k = kind} {alphabet} {c} {o} m a) = printed_text n t o (codes_below alphabet o (schema.sound t tags k is).0.below_128 m)

  -- ---- components

  -- a component with its name
  abbrev member : ℕ → Grammar (Name × Tree)
  member n = token Ident ∙ value small n

  -- components after others
  record Rest (n : ℕ) (cs : List Component) (vs : Row) (w : List ℕ) : Type 0 where
    lexemes : List Lexeme
    speaks : Speaks Ends w lexemes
    are : IsMany (preceded (Mark Comma) (member n)) (members_of s cs vs) lexemes
    next : (z : List ℕ) → Ends z → Ends (w ++ z)

  -- components, none before them
  data First (n : ℕ) (cs : List Component) (vs : Row) (w : List ℕ) : Type 0 where
    none : w ≡ [] → members_of s cs vs ≡ [] → First n cs vs w
    some : (m : Name × Tree) (ms : List (Name × Tree)) (ls : List Lexeme) → Speaks Ends w ls → (listed (member n)).Is (m ∷ ms) ls → members_of s cs vs ≡ m ∷ ms → First n cs vs w

  -- a name, a value and what preceded
  spoken : (c w r : List ℕ) (ls ms : List Lexeme) → IsIdentifier c → Speaks Ends w ls → Speaks Ends r ms → ((z : List ℕ) → Ends z → Ends (r ++ z)) → Speaks Ends (c ++ (codes " " ++ (w ++ r))) (Ident c ∷ (ls ++ ms))
  spoken c w r ls ms i a b next =
      joined Ends Ends c (codes " " ++ (w ++ r)) (Ident c ∷ []) (ls ++ ms) (identifier c (identifier_token c i))
      (joined Any Ends (codes " ") (w ++ r) [] (ls ++ ms) space (joined Ends Ends w r ls ms a b next) (λ z q. tt)) (λ z q. ends_space ((w ++ r) ++ z))

  rest_added : (n : ℕ) (c : Component) (cs : List Component) (v : AbstractValue) (vs : Row) (w r : List ℕ) → IsIdentifier c.name → Printed s n c.type v w → Rest n cs vs r
      → Rest n (c ∷ cs) (present v vs) (codes ", " ++ (c.name ++ (codes " " ++ (w ++ r))))
  rest_added n c cs v vs w r i p q = record {
    lexemes = Mark Comma ∷ Ident c.name ∷ (p.lexemes ++ q.lexemes);
    speaks = joined Any Ends (codes ", ") (c.name ++ (codes " " ++ (w ++ r))) (Mark Comma ∷ []) (Ident c.name ∷ (p.lexemes ++ q.lexemes)) comma_said (spoken c.name w r p.lexemes q.lexemes i p.speaks q.speaks q.next) (λ z q. tt);
    are = (
      Mark Comma ∷ Ident c.name ∷ p.lexemes,
      q.lexemes,
      refl,
      ((tt, (c.name, tree_of s c.type v)), refl, (Mark Comma ∷ [], Ident c.name ∷ p.lexemes, refl, refl, (Ident c.name ∷ [], p.lexemes, refl, refl, p.is))),
      q.are,
    );
    next = λ z f. ends_comma [];
  }

  first_added : (n : ℕ) (c : Component) (cs : List Component) (v : AbstractValue) (vs : Row) (w r : List ℕ) → IsIdentifier c.name → Printed s n c.type v w → Rest n cs vs r
      → First n (c ∷ cs) (present v vs) (c.name ++ (codes " " ++ (w ++ r)))
  first_added n c cs v vs w r i p q =
      some (c.name, tree_of s c.type v) (members_of s cs vs) (Ident c.name ∷ (p.lexemes ++ q.lexemes)) (spoken c.name w r p.lexemes q.lexemes i p.speaks q.speaks q.next)
      (((c.name, tree_of s c.type v), members_of s cs vs), refl, (Ident c.name ∷ p.lexemes, q.lexemes, refl, (Ident c.name ∷ [], p.lexemes, refl, refl, p.is), q.are)) refl

  first_absent : (n : ℕ) (c : Component) (cs : List Component) (vs : Row) (w : List ℕ) → First n cs vs w → First n (c ∷ cs) (absent vs) w
  first_absent n c cs vs w (none e f) = none e f
  first_absent n c cs vs w (some x xs ls a b f) = some x xs ls a b f

  record Braced (n : ℕ) (tree : Tree) (w : List ℕ) : Type 0 where
    lexemes : List Lexeme
    speaks : Speaks Ends (codes "{" ++ (w ++ codes "}")) lexemes
    is : (value small (suc n)).Is tree lexemes

  -- nothing in braces
  empty : (n : ℕ) (tree : Tree) (w : List ℕ) → w ≡ [] → tree ≡ nothing → Braced n tree w
  empty n tree w e f = record {
    lexemes = Mark OpenBrace ∷ Mark CloseBrace ∷ [];
    speaks = braced w [] (subst (λ (w : List ℕ). Speaks Ends w []) (sym e) (nothing_said Ends));
    is = subst (λ (l : Tree). (value small (suc n)).Is l (Mark OpenBrace ∷ Mark CloseBrace ∷ [])) (sym f) (inr (inr (inl ((tt, tt), refl, (Mark OpenBrace ∷ [], Mark CloseBrace ∷ [], refl, refl, refl)))));
  }

  in_braces : (n : ℕ) (cs : List Component) (vs : Row) (w : List ℕ) → First n cs vs w → Braced n (fields_tree (members_of s cs vs)) w
  in_braces n cs vs w (none e f) = empty n (fields_tree (members_of s cs vs)) w e (ap fields_tree f)
  in_braces n cs vs w (some m ms ls a h f) = record {
    lexemes = Mark OpenBrace ∷ (ls ++ (Mark CloseBrace ∷ []));
    speaks = braced w ls a;
    is = subst (λ (l : Tree). (value small (suc n)).Is l (Mark OpenBrace ∷ (ls ++ (Mark CloseBrace ∷ [])))) (sym (ap fields_tree f)) (inr (inr (inr (inr (inr (m ∷ ms, refl, ((tt, (m ∷ ms, tt)), refl, (Mark OpenBrace ∷ [], ls ++ (Mark CloseBrace ∷ []), refl, refl, (ls, Mark CloseBrace ∷ [], refl, h, refl)))))))));
  }

  -- ---- elements

  record Others (n u : ℕ) (vs : Row) (w : List ℕ) : Type 0 where
    lexemes : List Lexeme
    speaks : Speaks Ends w lexemes
    are : IsMany (preceded (Mark Comma) (value small n)) (trees_of s u vs) lexemes
    next : (z : List ℕ) → Ends z → Ends (w ++ z)

  data Ones (n u : ℕ) (vs : Row) (w : List ℕ) : Type 0 where
    none_of : w ≡ [] → trees_of s u vs ≡ [] → Ones n u vs w
    some_of : (m : Tree) (ms : List Tree) (ls : List Lexeme) → Speaks Ends w ls → (listed (value small n)).Is (m ∷ ms) ls → trees_of s u vs ≡ m ∷ ms → Ones n u vs w

  others_added : (n u : ℕ) (v : AbstractValue) (vs : Row) (w r : List ℕ) → Printed s n u v w → Others n u vs r → Others n u (present v vs) (codes ", " ++ (w ++ r))
  others_added n u v vs w r p q = record {
    lexemes = Mark Comma ∷ (p.lexemes ++ q.lexemes);
    speaks = joined Any Ends (codes ", ") (w ++ r) (Mark Comma ∷ []) (p.lexemes ++ q.lexemes) comma_said (joined Ends Ends w r p.lexemes q.lexemes p.speaks q.speaks q.next) (λ z q. tt);
    are = (Mark Comma ∷ p.lexemes, q.lexemes, refl, ((tt, tree_of s u v), refl, (Mark Comma ∷ [], p.lexemes, refl, refl, p.is)), q.are);
    next = λ z f. ends_comma [];
  }

  ones_added : (n u : ℕ) (v : AbstractValue) (vs : Row) (w r : List ℕ) → Printed s n u v w → Others n u vs r → Ones n u (present v vs) (w ++ r)
  ones_added n u v vs w r p q =
      some_of (tree_of s u v) (trees_of s u vs) (p.lexemes ++ q.lexemes) (joined Ends Ends w r p.lexemes q.lexemes p.speaks q.speaks q.next)
      ((tree_of s u v, trees_of s u vs), refl, (p.lexemes, q.lexemes, refl, p.is, q.are)) refl

  ones_in_braces : (n u : ℕ) (vs : Row) (w : List ℕ) → Ones n u vs w → Braced n (items_tree (trees_of s u vs)) w
  ones_in_braces n u vs w (none_of e f) = empty n (items_tree (trees_of s u vs)) w e (ap items_tree f)
  ones_in_braces n u vs w (some_of m ms ls a h f) = record {
    lexemes = Mark OpenBrace ∷ (ls ++ (Mark CloseBrace ∷ []));
    speaks = braced w ls a;
    is = subst (λ (l : Tree). (value small (suc n)).Is l (Mark OpenBrace ∷ (ls ++ (Mark CloseBrace ∷ [])))) (sym (ap items_tree f)) (inr (inr (inr (inr (inl (m ∷ ms, refl, ((tt, (m ∷ ms, tt)), refl, (Mark OpenBrace ∷ [], ls ++ (Mark CloseBrace ∷ []), refl, refl, (ls, Mark CloseBrace ∷ [], refl, h, refl)))))))));
  }

  -- ---- a value

  printed_alternative : (n : ℕ) (a : Alternative) (v : AbstractValue) → IsIdentifier a.name → Printed s n a.type v (print s a.type v)
      → (ls : List Lexeme) × Speaks Ends (a.name ++ (codes " : " ++ print s a.type v)) ls × (value small (suc n)).Is (chosen a.name (tree_of s a.type v)) ls
  printed_alternative n a v name p = (
    Ident a.name ∷ Mark Colon ∷ p.lexemes,
    joined Ends Ends a.name (codes " : " ++ print s a.type v) (Ident a.name ∷ []) (Mark Colon ∷ p.lexemes) (identifier a.name (identifier_token a.name name))
        (joined Any Ends (codes " : ") (print s a.type v) (Mark Colon ∷ []) p.lexemes colon_said p.speaks (λ z q. tt)) (λ z q. ends_space []),
    inr (inl ((a.name, tree_of s a.type v), refl, (Ident a.name ∷ [], Mark Colon ∷ p.lexemes, refl, refl, ((tt, tree_of s a.type v), refl, (Mark Colon ∷ [], p.lexemes, refl, refl, p.is))))),
  )

  -- the text and the tree by the alternative that is found
  abbrev chosen_text : Option Alternative → AbstractValue → List ℕ
  chosen_text o v = elim o [ None ↦ [] | Some a ↦ a.name ++ (codes " : " ++ print s a.type v) ]

  abbrev chosen_tree : Option Alternative → AbstractValue → Tree
  chosen_tree o v = elim o [ None ↦ nothing | Some a ↦ chosen a.name (tree_of s a.type v) ]

  abbrev listed_text : Option ℕ → Row → List ℕ
  listed_text o vs = elim o [ None ↦ [] | Some u ↦ braced_text (print_elements s u [] vs) ]

  abbrev listed_tree : Option ℕ → Row → Tree
  listed_tree o vs = elim o [ None ↦ nothing | Some u ↦ items_tree (trees_of s u vs) ]

  printed_fields : (n t : ℕ) (k : Kind) (cs : List Component) (vs : Row) → kind_at s t ≡ k → components k ≡ cs → First n cs vs (print_fields s cs [] vs) → Printed s (suc n) t (fields' vs) (print s t (fields' vs))
  printed_fields n t k cs vs e f h =
      let b = in_braces n cs vs _ h in
      let g : cs ≡ components (kind_at s t) = sym (ap components e ⋆ f) in
      record {
        lexemes = b.lexemes;
        speaks = subst (λ (cs : List Component). Speaks Ends (braced_text (print_fields s cs [] vs)) b.lexemes) g b.speaks;
        is = subst (λ (cs : List Component). (value small (suc n)).Is (fields_tree (members_of s cs vs)) b.lexemes) g b.is;
      }

  printed_list : (n t : ℕ) (k : Kind) (u : ℕ) (vs : Row) → kind_at s t ≡ k → element_in k ≡ Some u → Ones n u vs (print_elements s u [] vs) → Printed s (suc n) t (list vs) (print s t (list vs))
  printed_list n t k u vs e f h =
      let b = ones_in_braces n u vs _ h in
      let g : Some u ≡ element_in (kind_at s t) = sym (ap element_in e ⋆ f) in
      record {
        lexemes = b.lexemes;
        speaks = subst (λ (o : Option ℕ). Speaks Ends (listed_text o vs) b.lexemes) g b.speaks;
        is = subst (λ (o : Option ℕ). (value small (suc n)).Is (listed_tree o vs) b.lexemes) g b.is;
      }

  names_of : (cs : List Component) → AllByRecursion IsIdentifier (map (λ c. c.name) cs) → AllByRecursion (λ c. IsIdentifier c.name) cs
  names_of cs a = mapped (λ c. c.name) IsIdentifier cs a

  mutual
    pub printed : {n t : ℕ} {v : AbstractValue} → ValueIn s n t v → Printed s n t v (print s t v)
    printed (value_in {n} {t} {tags} {k} {v} is of) = printed_of n t tags k v is of

    printed_of : (n t : ℕ) (tags : List Tag) (k : Kind) (v : AbstractValue) → Is s t tags k → ValueOf s n k v → Printed s (suc n) t v (print s t v)
    printed_of n t tags k v is (of_leaf f) = printed_leaf n t tags k v is f
    printed_of n t tags k v is (of_sequence {cs} {vs} h g) =
        printed_fields n t k cs vs (kind_is s t tags k is) refl (first h (names_of cs (schema.sound t tags k is).names.identifiers))
    printed_of n t tags k v is (of_set {cs} {vs} h g) =
        printed_fields n t k cs vs (kind_is s t tags k is) refl (first h (names_of cs (schema.sound t tags k is).0.names.identifiers))
    printed_of n t tags k v is (of_sequence_of {u} {vs} h a) = printed_list n t k u vs (kind_is s t tags k is) refl (ones h)
    printed_of n t tags k v is (of_set_of {u} {vs} h a) = printed_list n t k u vs (kind_is s t tags k is) refl (ones h)
    printed_of n t tags k v is (of_choice {i} {e} {root} {more} {a} {v = w} at h) =
        let names = mapped (λ (a : Alternative). a.name) IsIdentifier (root ++ more) (schema.sound t tags k is).names.identifiers in
        let f = printed_alternative n a w (all_get (λ (a : Alternative). IsIdentifier a.name) (root ++ more) i a names at) (printed h) in
        let g : Some a ≡ slice_get (alternatives_in (kind_at s t)) i = sym (ap (λ (k : Kind). slice_get (alternatives_in k) i) (kind_is s t tags k is) ⋆ at) in
        record {
          lexemes = f.0;
          speaks = subst (λ (o : Option Alternative). Speaks Ends (chosen_text o w) f.0) g f.1;
          is = subst (λ (o : Option Alternative). (value small (suc n)).Is (chosen_tree o w) f.0) g f.2;
        }

    rest : {n : ℕ} {cs : List Component} {vs : Row} → AreComponents s n cs vs → AllByRecursion (λ c. IsIdentifier c.name) cs → Rest n cs vs (print_fields s cs (codes ", ") vs)
    rest no_component h = record { lexemes = []; speaks = nothing_said Ends; are = refl; next = λ z q. q }
    rest (component_absent m r) h = let q = rest r h.1 in record { lexemes = q.lexemes; speaks = q.speaks; are = q.are; next = q.next }
    rest (component_present {n} {c} {cs} {v} {vs} p r) h = rest_added n c cs v vs (print s c.type v) (print_fields s cs (codes ", ") vs) h.0 (printed p) (rest r h.1)

    first : {n : ℕ} {cs : List Component} {vs : Row} → AreComponents s n cs vs → AllByRecursion (λ c. IsIdentifier c.name) cs → First n cs vs (print_fields s cs [] vs)
    first no_component h = none refl refl
    first (component_absent {n} {c} {cs} {vs} m r) h = first_absent n c cs vs (print_fields s cs [] vs) (first r h.1)
    first (component_present {n} {c} {cs} {v} {vs} p r) h = first_added n c cs v vs (print s c.type v) (print_fields s cs (codes ", ") vs) h.0 (printed p) (rest r h.1)

    others : {n u : ℕ} {vs : Row} → AreElements s n u vs → Others n u vs (print_elements s u (codes ", ") vs)
    others no_element = record { lexemes = []; speaks = nothing_said Ends; are = refl; next = λ z q. q }
    others (one_element {n} {u} {v} {vs} p r) = others_added n u v vs (print s u v) (print_elements s u (codes ", ") vs) (printed p) (others r)

    ones : {n u : ℕ} {vs : Row} → AreElements s n u vs → Ones n u vs (print_elements s u [] vs)
    ones no_element = none_of refl refl
    ones (one_element {n} {u} {v} {vs} p r) = ones_added n u v vs (print s u v) (print_elements s u (codes ", ") vs) (printed p) (others r)
