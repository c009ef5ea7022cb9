-- Values of all types are read as what bits say.
use Rattle.std.proofs.Common.{arith, ◌≡◌, ℕ, ◌-◌, zero, suc, ◌+◌, ◌^◌, ◌<◌, ◌≤◌, Bool, true, false, List, [], ◌∷◌, ◌++◌, length, take, drop, Option, Some, None, slice_get, refl, sym, ap, subst, ◌∙◌, append_assoc, length-append}
use Rattle.std.specs.Prelude.{if◌then◌else◌, nat_lt}
use Rattle.std.proofs.lemmas.Bool.{ltb-false, le-ltb}
use Rattle.std.proofs.lemmas.List.{take-append-drop, length-take-le}
use Rattle.std.proofs.Math.Seq.{take-append_seam}
use Rattle.bits.specs.Words.{low_bits}
use Rattle.asn_base.specs.declared.tag.Tag.{Tag}
use Rattle.asn_base.specs.Abstract.{AbstractValue, octets, list, alternative, Row}
use Rattle.asn_base.specs.Same.{IsLeaf}
use Rattle.asn_base.specs.Types.{Alternative, Constraint, Kind, a_boolean, an_integer, an_enumerated, a_bit_string, a_named_bit_string, an_octet_string, a_null, an_object_identifier, a_relative_oid, a_utf8_string, a_restricted_string, a_sequence, a_set, a_sequence_of, a_set_of, a_choice, TypeNumber, Resolved, Is}
use Rattle.asn_base.specs.Typed.{IsPrimitive, fits_boolean, fits_integer, fits_enumerated, fits_bits, fits_named_bits, fits_octets, fits_null, fits_oid, fits_relative_oid, fits_utf8, fits_restricted, IsAllowedSize, members, ValueIn, value_in, ValueOf, of_leaf, of_sequence, of_set, of_sequence_of, of_set_of, of_choice}
use Rattle.asn_base.specs.Schemas.{AreBounds, IsSize, IsSound, IsSchema}
use Rattle.encodings.specs.Header.{Octets}
use Rattle.packed_encodings.specs.Lengths.{Bits, Items, CountedOctets, Sized}
use Rattle.packed_encodings.specs.Leaves.{place_width, place_bits, root_bit}
use Rattle.packed_encodings.specs.Orders.{canonical_place, BitsAscend, ascending_none, ascending_one, ascending_more}
use Rattle.asn_base.specs.Typed.{AreElements}
use Rattle.asn_base.specs.Abstract.{end, absent, present}
use Rattle.packed_encodings.specs.Packing.{Form, ElementsPer, no_element, element, lenient, EncodesPer, says, EncodesKindPer, leaf, sequence, set, sequence_of, set_of, choice, added_choice}
use Rattle.packed_encodings.specs.Computed.{is_default, DecidesDefaults}
use Rattle.decode_faults.specs.declared.refusal.Refusal.{Refusal}
use Rattle.decode_faults.specs.declared.refusal.Refusal.TheVariants as why
use Rattle.packed_readings.specs.Outcome.{found, stops, IsReading, Then, IsBit, IsField, IsSmall, bit_from, field_from, small_from}
use Rattle.packed_readings.specs.Composing as c
use Rattle.packed_readings.specs.Counts.{IsCount, count_from, IsSizing, size_from, InSize, several_bits, octets_from}
use Rattle.packed_encodings.specs.Weights.{characters, weight, row_weight}
use Rattle.packed_readings.specs.Leaves.{IsLeafWithin, leaf_within}
use Rattle.packed_reader.specs.declared.part.Part.TheVariants.{Alternative as Alternative'}
use Rattle.packed_reader.specs.Readings.{read, stop, next, plain, Taken, taken, IsExact}
use Rattle.packed_reader.specs.Structures.{ReadsValue}
use Rattle.packed_reader.specs.Lists.{Element', row_of_elements, items_of, list_from}
use Rattle.packed_reader.specs.Values.{IsValueRead, Chosen, in_root, added, chosen_from, alternative_of, chosen_value, elements_value, leaf_taken, kind_from, value_from}
use Rattle.packed_reader.proofs.Exact.{stop_exact, convert, next_exact, Made, made_exact, part_exact, plain_exact}
use Rattle.packed_reader.proofs.Opening.{not_true, Opened, open_exact}
use Rattle.packed_reader.proofs.Members.{moved}
use Rattle.packed_reader.proofs.Fields.{IsKindRead, structure_exact}
use Rattle.packed_reader.proofs.ElementsRead.{IsListRead, list_exact, some_weight}
use Rattle.packed_reader.proofs.Chosen.{IsChosen, chosen_root, chosen_added, chosen_reading}

-- ---- bits as they stand

module _ (n : ℕ) where
  at_once : (t : Bool) (b v r : Bits) → nat_lt (length b) n ≡ t → (if t then stops why.Truncated b else found (take n b) (drop n b)) ≡ found v r → (x : Bits) × ((length v ≡ n) × (x ≡ v)) × (b ≡ x ++ r)
  at_once true b v r e h = absurd (c.not_both h)
  at_once false b v r e h =
      let l = ltb-false (length b) n e in
      let k : take n b ≡ v = c.found_value h in
      let m : drop n b ≡ r = c.found_rest h in
      (v, (sym (ap length k) ∙ length-take-le n b l, refl), sym (take-append-drop n b) ∙ ap (λ q. q ++ drop n b) k ∙ ap (λ q. v ++ q) m)

  its_fault : (t : Bool) (b r : Bits) (e : Refusal) → (if t then stops why.Truncated b else found (take n b) (drop n b)) ≡ stops e r → (why.Truncated ≡ e) × (b ≡ r)
  its_fault true b r e h = (c.stops_why refl h, c.stops_where refl h)
  its_fault false b r e h = absurd (c.not_either h)

  drop_front : (v r : Bits) → drop (length v) (v ++ r) ≡ r
  drop_front [] r = refl
  drop_front (x ∷ v) r = drop_front v r

  all_there : (v r : Bits) → length v ≡ n → several_bits n (v ++ r) ≡ found v r
  all_there v r e =
      let l = length-append v r in
      let k : nat_lt (length (v ++ r)) n ≡ false = le-ltb (length (v ++ r)) n (omega arith) in
      let f : take n (v ++ r) ≡ v = ap (λ m. take m (v ++ r)) (sym e) ∙ take-append_seam v r in
      let g : drop n (v ++ r) ≡ r = ap (λ m. drop m (v ++ r)) (sym e) ∙ drop_front v r in
      ap (λ q. if q then stops why.Truncated (v ++ r) else found (take n (v ++ r)) (drop n (v ++ r))) k
      ∙ ap (λ q. found q (drop n (v ++ r))) f ∙ ap (found v) g

  pub several_reading : IsReading (λ v x. (length v ≡ n) × (x ≡ v)) (several_bits n)
  several_reading = record {
    sound = λ b r v e. at_once (nat_lt (length b) n) b v r refl e;
    whole = λ v x r p. ap (λ q. several_bits n (q ++ r)) p.1 ∙ all_there v r p.0;
    firm = λ b r m e h k. absurd (k (sym (its_fault (nat_lt (length b) n) b r e h).0));
    inside = λ b r e h. ([], (its_fault (nat_lt (length b) n) b r e h).1);
  }

-- ---- leaves

leaf_weight : {k : Kind} {v : AbstractValue} → IsPrimitive k v → weight v ≡ suc (characters v)
leaf_weight fits_boolean = refl
leaf_weight q = refl

module _ (s : List Resolved) (l n : ℕ) where
  abbrev LeafMade : Kind → Taken AbstractValue → Bits → Type 0
  LeafMade k = Made (IsLeafWithin n k) (leaf_taken n)

  leaf_split : (k : Kind) → IsLeaf k → (v : AbstractValue) (j left : ℕ) (x : Bits) → EncodesKindPer s lenient k v j x → ValueOf s l k v → suc n ≡ weight v + left → LeafMade k (taken v j left) x
  leaf_split k h v _ left x (leaf f) (of_leaf g) e =
      let z = leaf_weight g in
      record {
        of = v;
        is = record { is_leaf = record { leaf = f; fits = g }; few = (let k : characters v ≤ n = omega (arith, z, e) in k) };
        made = ap (taken v 0) (let y : left ≡ n - characters v = omega (arith, z, e) in y);
      }
  leaf_split _ h v j left x a (of_sequence b g) e = absurd h
  leaf_split _ h v j left x a (of_set b g) e = absurd h
  leaf_split _ h v j left x a (of_sequence_of b g) e = absurd h
  leaf_split _ h v j left x a (of_set_of b g) e = absurd h
  leaf_split _ h v j left x a (of_choice b g) e = absurd h
  leaf_split _ h _ _ left _ (sequence a b d f) v e = absurd h
  leaf_split _ h _ _ left _ (set a b d f) v e = absurd h
  leaf_split _ h _ _ left _ (sequence_of a b) v e = absurd h
  leaf_split _ h _ _ left _ (set_of a b d) v e = absurd h
  leaf_split _ h _ _ left _ (choice a b) v e = absurd h
  leaf_split _ h _ _ left _ (added_choice i a b d f g) v e = absurd h

  leaf_exact : (k : Kind) → IsLeaf k → IsReading (IsLeafWithin n k) (leaf_within n k) → IsExact (IsKindRead s l n k) (λ b. next (plain (leaf_within n k b)) (λ v r. read (leaf_taken n v) r))
  leaf_exact k h R = convert (made_exact (leaf_taken n) (plain_exact R)) to (λ w x a. leaf_split k h w.it w.skipped w.left x a.holds_it a.value a.counted)
    where
      to : (w : Taken AbstractValue) (x : Bits) → LeafMade k w x → IsKindRead s l n k w x
      to w x m = moved (IsKindRead s l n k) m.made refl (record {
        holds_it = leaf m.is.is_leaf.leaf;
        value = of_leaf m.is.is_leaf.fits;
        counted = (let z = leaf_weight m.is.is_leaf.fits in let f = m.is.few in let e : suc n ≡ weight m.of + (n - characters m.of) = omega (arith, z, f) in e);
      })

-- ---- lists

members_length : (it : List Element') → members (row_of_elements it) ≡ length (items_of it)
members_length [] = refl
members_length (e ∷ it) = let h = members_length it in omega arith

after_none : (xs : Items) → BitsAscend ([] ∷ xs) → BitsAscend xs
after_none [] a = ascending_none
after_none (x ∷ xs) (ascending_more m a) = a

before_all : (xs : Items) → BitsAscend xs → BitsAscend ([] ∷ xs)
before_all [] a = ascending_one
before_all (x ∷ xs) a = ascending_more tt a

abbrev list_kind : Bool → Constraint → TypeNumber → Kind
list_kind false c u = a_sequence_of c u
list_kind true c u = a_set_of c u

-- a row of elements with their bits
elements_of : Row → Items → List Element'
elements_of end xs = []
elements_of (absent ws) xs = elements_of ws xs
elements_of (present w ws) [] = []
elements_of (present w ws) (x ∷ xs) = (w, x) ∷ elements_of ws xs

rows_same : {s : List Resolved} {f : Form} {u k : ℕ} {ws : Row} {xs : Items} → ElementsPer s f u ws k xs → (row_of_elements (elements_of ws xs) ≡ ws) × (items_of (elements_of ws xs) ≡ xs)
unfolding elements_of
rows_same no_element = (refl, refl)
rows_same (element {w = w} {x = x} a r) = let h = rows_same r in (ap (present w) h.0, ap (λ q. x ∷ q) h.1)

record ListSaid (s : List Resolved) (l : ℕ) (sorted : Bool) (c : Constraint) (u : TypeNumber) (v : AbstractValue) (k : ℕ) (x : Bits) : Type 0 where
  ws : Row
  xs : Items
  is : v ≡ list ws
  say_them : ElementsPer s lenient u ws k xs
  ascend : sorted ≡ true → BitsAscend xs
  sized : Sized c.visible xs x
  values : AreElements s l u ws
  allowed : IsAllowedSize c (members ws)

list_said : {s : List Resolved} {l : ℕ} (sorted : Bool) {c : Constraint} {u : TypeNumber} {v : AbstractValue} {k : ℕ} {x : Bits} → EncodesKindPer s lenient (list_kind sorted c u) v k x → ValueOf s l (list_kind sorted c u) v → ListSaid s l sorted c u v k x
list_said false (leaf f) a = elim f [ ]
list_said false (sequence_of a z) (of_leaf f) = elim f [ ]
list_said false (sequence_of {ws = ws} {xs = xs} a z) (of_sequence_of v y) = record { ws = ws; xs = xs; is = refl; say_them = a; ascend = λ h. absurd (not_true h); sized = z; values = v; allowed = y }
list_said true (leaf f) a = elim f [ ]
list_said true (set_of a o z) (of_leaf f) = elim f [ ]
list_said true (set_of {ws = ws} {xs = xs} a o z) (of_set_of v y) = record { ws = ws; xs = xs; is = refl; say_them = a; ascend = λ h. o; sized = z; values = v; allowed = y }

said_holds : {s : List Resolved} (sorted : Bool) (c : Constraint) {u : TypeNumber} {ws : Row} {xs : Items} {k : ℕ} {x : Bits} → ElementsPer s lenient u ws k xs → (sorted ≡ true → BitsAscend xs) → Sized c.visible xs x → EncodesKindPer s lenient (list_kind sorted c u) (list ws) k x
said_holds false c a o z = sequence_of a z
said_holds true c a o z = set_of a (o refl) z

said_value : {s : List Resolved} {l : ℕ} (sorted : Bool) (c : Constraint) {u : TypeNumber} {ws : Row} → AreElements s l u ws → IsAllowedSize c (members ws) → ValueOf s l (list_kind sorted c u) (list ws)
said_value false c a z = of_sequence_of a z
said_value true c a z = of_set_of a z

members_many : {s : List Resolved} {f : Form} {u k : ℕ} {ws : Row} {xs : Items} → ElementsPer s f u ws k xs → members ws ≡ length xs
members_many no_element = refl
members_many (element a r) = ap suc (members_many r)

module _ (s : List Resolved) (l n : ℕ) (sorted : Bool) (c : Constraint) (u : TypeNumber)
    (in_size : (xs : Items) (b : Bits) → Sized c.visible xs b → IsAllowedSize c (length xs) → InSize c xs b)
    (sized : (xs : Items) (b : Bits) → InSize c xs b → Sized c.visible xs b × IsAllowedSize c (length xs)) where
  abbrev ListMade : Taken AbstractValue → Bits → Type 0
  ListMade = Made (IsListRead s l u sorted c n) elements_value

  list_to : (w : Taken AbstractValue) (x : Bits) → ListMade w x → IsKindRead s l n (list_kind sorted c u) w x
  list_to w x m =
      let a = m.is in
      let z = sized (items_of m.of.it) x a.sized in
      moved (IsKindRead s l n (list_kind sorted c u)) m.made refl (record {
        holds_it = said_holds sorted c a.say_them (λ h. after_none (items_of m.of.it) (a.follow h)) z.0;
        value = said_value sorted c a.values (subst (IsAllowedSize c) (sym (members_length m.of.it)) z.1);
        counted = (let k = a.counted' in omega arith);
      })

  list_from_said : (v : AbstractValue) (k left : ℕ) (x : Bits) → ListSaid s l sorted c u v k x → suc n ≡ weight v + left → ListMade (taken v k left) x
  list_from_said v k left x a e =
      let it = elements_of a.ws a.xs in
      let r = rows_same a.say_them in
      let say : ElementsPer s lenient u (row_of_elements it) k (items_of it) = subst (λ q. ElementsPer s lenient u q k (items_of it)) (sym r.0) (subst (λ q. ElementsPer s lenient u a.ws k q) (sym r.1) a.say_them) in
      let e1 : suc n ≡ suc (row_weight a.ws) + left = e ∙ ap (λ q. weight q + left) a.is in
      let e2 : row_weight (row_of_elements it) ≡ row_weight a.ws = ap row_weight r.0 in
      record {
        of = taken it k left;
        is = record {
          say_them = say;
          values = subst (AreElements s l u) (sym r.0) a.values;
          follow = λ h. subst (λ q. BitsAscend ([] ∷ q)) (sym r.1) (before_all a.xs (a.ascend h));
          counted' = omega arith;
          sized = subst (λ q. InSize c q x) (sym r.1) (in_size a.xs x a.sized (subst (IsAllowedSize c) (members_many a.say_them) a.allowed));
        };
        made = ap (λ q. taken q k left) (a.is ∙ ap list (sym r.0));
      }

  lists_exact : (value : ReadsValue) → ((t n : ℕ) → IsExact (IsValueRead s l t n) (value t n)) → ((full : Bool) → IsReading (IsCount full) (count_from full)) → IsReading (IsSizing c) (size_from c) → IsExact (IsKindRead s l n (list_kind sorted c u)) (λ b. next (list_from (value u) sorted c n b) (λ t r. read (elements_value t) r))
  lists_exact value V numbers size =
      convert (made_exact elements_value (list_exact numbers s l u (value u) (V u) sorted c size n)) list_to (λ w x a. list_from_said w.it w.skipped w.left x (list_said sorted a.holds_it a.value) a.counted)

-- ---- alternatives

get_front : {X : Type 0} {a : X} (xs ys : List X) (i : ℕ) → slice_get xs i ≡ Some a → slice_get (xs ++ ys) i ≡ Some a
get_front [] ys zero e = absurd (cc)
get_front [] ys (suc i) e = absurd (cc)
get_front (x ∷ xs) ys zero e = e
get_front (x ∷ xs) ys (suc i) e = get_front xs ys i e

get_appended : {X : Type 0} {a : X} (xs ys : List X) (j : ℕ) → slice_get ys j ≡ Some a → slice_get (xs ++ ys) (length xs + j) ≡ Some a
get_appended [] ys j e = ap (slice_get ys) (let z : 0 + j ≡ j = omega arith in z) ∙ e
get_appended (x ∷ xs) ys j e = ap (slice_get (x ∷ (xs ++ ys))) (let z : suc (length xs) + j ≡ suc (length xs + j) = omega arith in z) ∙ get_appended xs ys j e

type_same : {a b : Alternative} {o : Option Alternative} → o ≡ Some a → o ≡ Some b → a.type ≡ b.type
type_same e f = cc

module _ (front : (o r : Octets) (a b p q : Bits) → CountedOctets o a → CountedOctets r b → a ++ p ≡ b ++ q → (o ≡ r) × (p ≡ q))
    (octets : IsReading CountedOctets octets_from)
    (s : List Resolved) (l n : ℕ) (root : List Alternative) (e : Bool) (more : List Alternative)
    (value : ReadsValue) (V : (t n : ℕ) → IsExact (IsValueRead s l t n) (value t n))
    (chosen : IsReading (IsChosen s root e more) (chosen_from s root e more)) where
  abbrev ChosenThen : Chosen → Taken AbstractValue → Bits → Type 0
  ChosenThen (in_root i t) = Made (IsValueRead s l t n) (alternative_of i)
  ChosenThen (added i t) = Made (Opened (IsValueRead s l t n)) (alternative_of i)

  after_choice : (d : Chosen) → IsExact (ChosenThen d) (chosen_value value d n)
  after_choice (in_root i t) = made_exact (alternative_of i) (part_exact (Alternative' i) (V t n))
  after_choice (added i t) = made_exact (alternative_of i) (part_exact (Alternative' i) (open_exact front octets (V t n)))

  choice_to : (d : Chosen) (w : Taken AbstractValue) (x y : Bits) → IsChosen s root e more d x → ChosenThen d w y → IsKindRead s l n (a_choice root e more) w (x ++ y)
  choice_to _ w x y (chosen_root {i = i} {a = a} g h) m =
      moved (λ w z. IsKindRead s l n (a_choice root e more) w z) m.made (ap (λ q. q ++ y) h ∙ append_assoc (root_bit e) (place_bits (length root) (canonical_place s root a.type)) y)
      (record { holds_it = choice g m.is.says_it; value = of_choice (get_front root more i g) m.is.value; counted = (let k = m.is.counted in omega arith) })
  choice_to _ w x y (chosen_added {j = j} {a = a} f g small h) m =
      moved (λ w z. IsKindRead s l n (a_choice root e more) w z) m.made (ap (λ q. q ++ y) h)
      (record {
        holds_it = subst (λ q. EncodesKindPer s lenient (a_choice root q more) (alternative (length root + j) m.of.it) m.of.skipped (true ∷ (false ∷ (low_bits 6 j ++ y)))) (sym f) (added_choice j refl g small m.is.is.says_it m.is.is_open);
        value = of_choice (get_appended root more j g) m.is.is.value;
        counted = (let k = m.is.is.counted in omega arith);
      })

  choice_split : (b : Bool) → e ≡ b → (v : AbstractValue) (k left : ℕ) (x : Bits) → EncodesKindPer s lenient (a_choice root b more) v k x → ValueOf s l (a_choice root e more) v → suc n ≡ weight v + left → Then (IsChosen s root e more) ChosenThen (taken v k left) x
  choice_split b h v k left x (leaf f) a c = elim f [ ]
  choice_split b h _ k left _ (choice {i = i} {a = a} {w = w} {x = x} g sa) (of_leaf f) c = elim f [ ]
  choice_split b h _ _ left _ (choice {i = i} {n = k} {a = a} {w = w} {x = x} g sa) (of_choice {a = a'} g' v) c = record {
    first = in_root i a.type;
    front = root_bit b ++ place_bits (length root) (canonical_place s root a.type);
    back = x;
    is_first = chosen_root g (ap (λ q. root_bit q ++ place_bits (length root) (canonical_place s root a.type)) (sym h));
    is_next = record { of = taken w k left; is = record { says_it = sa; value = subst (λ t. ValueIn s l t w) (type_same g' (get_front root more i g)) v; counted = omega arith }; made = refl };
    whole = sym (append_assoc (root_bit b) (place_bits (length root) (canonical_place s root a.type)) x);
  }
  choice_split _ h _ _ left _ (added_choice j ij g small sa op) (of_leaf f) c = elim f [ ]
  choice_split _ h _ _ left _ (added_choice {i = i} {n = k} {a = a} {w = w} {x = x} {y = y} j ij g small sa op) (of_choice {a = a'} g' v) c =
      let at : slice_get (root ++ more) i ≡ Some a = ap (slice_get (root ++ more)) ij ∙ get_appended root more j g in
      record {
        first = added (length root + j) a.type;
        front = true ∷ (false ∷ low_bits 6 j);
        back = y;
        is_first = chosen_added h g small refl;
        is_next = record { of = taken w k left; is = record { inside = x; is = record { says_it = sa; value = subst (λ t. ValueIn s l t w) (type_same g' at) v; counted = omega arith }; is_open = op }; made = ap (λ q. taken (alternative q w) k left) ij };
        whole = refl;
      }

  choice_exact : IsExact (IsKindRead s l n (a_choice root e more)) (λ b. next (plain (chosen_from s root e more b)) (λ d r. chosen_value value d n r))
  choice_exact =
      convert (next_exact {Q = ChosenThen} (plain_exact chosen) (λ d x p. after_choice d))
      (λ w x t. moved (IsKindRead s l n (a_choice root e more)) refl t.whole (choice_to t.first w t.front t.back t.is_first t.is_next))
      (λ w x a. choice_split e refl w.it w.skipped w.left x a.holds_it a.value a.counted)

-- ---- all kinds

-- what is known of the parts and of encodings
pub record Laws (s : List Resolved) : Type 0 where
  pub schema : IsSchema s
  pub bit : IsReading IsBit bit_from
  pub field : (n : ℕ) → IsReading (IsField n) (field_from n)
  pub small : (e : Refusal) → IsReading IsSmall (small_from e)
  pub numbers : (full : Bool) → IsReading (IsCount full) (count_from full)
  pub size : (c : Constraint) → AreBounds IsSize c → IsReading (IsSizing c) (size_from c)
  pub in_size : (c : Constraint) (xs : Items) (b : Bits) → Sized c.visible xs b → IsAllowedSize c (length xs) → InSize c xs b
  pub sized : (c : Constraint) (xs : Items) (b : Bits) → InSize c xs b → Sized c.visible xs b × IsAllowedSize c (length xs)
  pub octets : IsReading CountedOctets octets_from
  pub front : (o r : Octets) (a b p q : Bits) → CountedOctets o a → CountedOctets r b → a ++ p ≡ b ++ q → (o ≡ r) × (p ≡ q)
  pub leaf : (n : ℕ) (k : Kind) → IsSound s k → IsReading (IsLeafWithin n k) (leaf_within n k)
  pub tells : DecidesDefaults s (is_default s)
  pub only : (t j k : ℕ) (v w : AbstractValue) (x : Bits) → EncodesPer s lenient t v j x → EncodesPer s lenient t w k x → v ≡ w
  pub one_place : (t i j : ℕ) (tags : List Tag) (root more : List Alternative) (e : Bool) (a b : Alternative) → Is s t tags (a_choice root e more) → slice_get root i ≡ Some a → slice_get root j ≡ Some b → canonical_place s root a.type ≡ canonical_place s root b.type → i ≡ j
  pub place_fits : (t i : ℕ) (tags : List Tag) (root more : List Alternative) (e : Bool) (a : Alternative) → Is s t tags (a_choice root e more) → slice_get root i ≡ Some a → canonical_place s root a.type < 2 ^ place_width (length root)

module _ (s : List Resolved) (laws : Laws s) where
  field' : (n : ℕ) → IsReading (λ v x. (v < 2 ^ n) × (x ≡ low_bits n v)) (field_from n)
  field' n = c.same (λ v x p. (p.fits, p.is)) (λ v x p. record { fits = p.0; is = p.1 }) (laws.field n)

  module _ (l n t : ℕ) (tags : List Tag) (value : ReadsValue) (V : (t n : ℕ) → IsExact (IsValueRead s l t n) (value t n)) where
    only' : (k : Kind) → Is s t tags k → (v w : AbstractValue) (i j : ℕ) (x : Bits) → EncodesKindPer s lenient k v i x → EncodesKindPer s lenient k w j x → v ≡ w
    only' k is v w i j x a b = laws.only t i j v w x (says is a) (says is b)

    kind_exact : (k : Kind) → Is s t tags k → IsSound s k → IsExact (IsKindRead s l n k) (kind_from s l value k n)
    kind_exact a_boolean is ok = leaf_exact s l n a_boolean tt (laws.leaf n a_boolean ok)
    kind_exact (an_integer c) is ok = leaf_exact s l n (an_integer c) tt (laws.leaf n (an_integer c) ok)
    kind_exact (an_enumerated root e more) is ok = leaf_exact s l n (an_enumerated root e more) tt (laws.leaf n (an_enumerated root e more) ok)
    kind_exact (a_bit_string c) is ok = leaf_exact s l n (a_bit_string c) tt (laws.leaf n (a_bit_string c) ok)
    kind_exact (a_named_bit_string ns) is ok = leaf_exact s l n (a_named_bit_string ns) tt (laws.leaf n (a_named_bit_string ns) ok)
    kind_exact (an_octet_string c) is ok = leaf_exact s l n (an_octet_string c) tt (laws.leaf n (an_octet_string c) ok)
    kind_exact a_null is ok = leaf_exact s l n a_null tt (laws.leaf n a_null ok)
    kind_exact an_object_identifier is ok = leaf_exact s l n an_object_identifier tt (laws.leaf n an_object_identifier ok)
    kind_exact a_relative_oid is ok = leaf_exact s l n a_relative_oid tt (laws.leaf n a_relative_oid ok)
    kind_exact (a_utf8_string c) is ok = leaf_exact s l n (a_utf8_string c) tt (laws.leaf n (a_utf8_string c) ok)
    kind_exact (a_restricted_string k a c) is ok = leaf_exact s l n (a_restricted_string k a c) tt (laws.leaf n (a_restricted_string k a c) ok)
    kind_exact (a_sequence e cs) is ok = structure_exact s l false e cs ok laws.tells (only' (a_sequence e cs) is) laws.bit field' several_reading laws.front laws.octets value V n
    kind_exact (a_set e cs) is ok = structure_exact s l true e cs ok.0 laws.tells (only' (a_set e cs) is) laws.bit field' several_reading laws.front laws.octets value V n
    kind_exact (a_sequence_of c u) is ok = lists_exact s l n false c u (laws.in_size c) (laws.sized c) value V laws.numbers (laws.size c ok.bounds)
    kind_exact (a_set_of c u) is ok = lists_exact s l n true c u (laws.in_size c) (laws.sized c) value V laws.numbers (laws.size c ok.bounds)
    kind_exact (a_choice root e more) is ok =
        choice_exact laws.front laws.octets s l n root e more value V
        (chosen_reading laws.bit laws.field laws.small s root e more (λ i j a b f g h. laws.one_place t i j tags root more e a b is f g h) (λ i a f. laws.place_fits t i tags root more e a is f))

  -- ---- values

  abbrev kind_in : Option Resolved → Kind
  kind_in None = a_null
  kind_in (Some r) = r.kind

  same_kind : {t : ℕ} {tags tags' : List Tag} {k k' : Kind} → Is s t tags k → Is s t tags' k' → k ≡ k'
  same_kind i j = ap kind_in (sym i.found ∙ j.found)

  abbrev IsThere : Option Resolved → Type 0
  IsThere None = ⊥
  IsThere (Some r) = Unit {0}

  no_value : {l t : ℕ} {v : AbstractValue} → slice_get s t ≡ None → ValueIn s l t v → ⊥
  no_value f (value_in i a) = subst IsThere (sym i.found ∙ f) tt

  its_value : {l t : ℕ} {v : AbstractValue} {k : Kind} {tags : List Tag} → Is s t tags k → ValueIn s (suc l) t v → ValueOf s l k v
  its_value {l} {v = v} is (value_in i a) = subst (λ q. ValueOf s l q v) (same_kind i is) a

  its_bits : {t : ℕ} {v : AbstractValue} {k : Kind} {tags : List Tag} {j : ℕ} {x : Bits} → Is s t tags k → EncodesPer s lenient t v j x → EncodesKindPer s lenient k v j x
  its_bits {v = v} {j = j} {x = x} is (says i a) = subst (λ q. EncodesKindPer s lenient q v j x) (same_kind i is) a

  no_level : {t : ℕ} {v : AbstractValue} → ValueIn s zero t v → ⊥
  no_level a = elim a [ ]

  one_level : (l t n : ℕ) → ((t n : ℕ) → IsExact (IsValueRead s l t n) (value_from s l t n)) → (o : Option Resolved) → slice_get s t ≡ o → IsExact (IsValueRead s (suc l) t (suc n)) (λ b. elim o [ None ↦ stop why.Outside b | Some r ↦ kind_from s l (value_from s l) r.kind n b ])
  one_level l t n V None f = convert (stop_exact (record { why = why.Outside; path = [] })) (λ w x p. absurd p) (λ w x p. no_value f p.value)
  one_level l t n V (Some r) f =
      let is : Is s t r.tags r.kind = record { found = f } in
      convert (kind_exact l n t r.tags (value_from s l) V r.kind is (laws.schema.sound t r.tags r.kind is))
      (λ w x p. record { says_it = says is p.holds_it; value = value_in is p.value; counted = p.counted })
      (λ w x p. record { holds_it = its_bits is p.says_it; value = its_value is p.value; counted = p.counted })

  pub value_exact : (l t n : ℕ) → IsExact (IsValueRead s l t n) (value_from s l t n)
  value_exact zero t n = convert (stop_exact (record { why = why.TooDeep; path = [] })) (λ w x p. absurd p) (λ w x p. no_level p.value)
  value_exact (suc l) t zero = convert (stop_exact (record { why = why.NodesLimit; path = [] })) (λ w x p. absurd p) (λ w x p. (let a = some_weight w.it in let b = p.counted in absurd (omega arith)))
  value_exact (suc l) t (suc n) = one_level l t n (value_exact l) (slice_get s t) refl
