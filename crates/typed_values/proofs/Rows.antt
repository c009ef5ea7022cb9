-- Rows of values that grow at their end, and lists that are split at a place.
use Rattle.std.proofs.Common.{◌≡◌, ℕ, zero, suc, ◌+◌, ◌<◌, List, [], ◌∷◌, ◌++◌, Option, Some, None, refl, sym, ap, take, drop, length, map, arith, get_or}
use Rattle.std.specs.Prelude.{slice_get}
use Rattle.asn_base.specs.Abstract.{AbstractValue, row_of_list, row_of_options}
use Rattle.asn_base.specs.Typed.{nodes, row_nodes}
use Rattle.trees.specs.Values.{Name, Tree}
use Rattle.type_table.specs.Table.{Part}
use Rattle.resolve.specs.Program.{Program}
use Rattle.value_notations.specs.Notations.{Notation, Fields, NotatedElements, no_element, one_element, no_part, part_absent, part_present}
use Rattle.value_notations.specs.Values.{NotatedValueIn, AreNotatedComponents, AreNotatedElements, MayLackValue, no_component, component_absent, component_present}
use Rattle.value_notations.specs.Values as values
use Rattle.values.specs.Allowing.{Allows, AllowsCode}
use Rattle.typed_values.specs.proving.Reading.{Means, MeanRow, MeanFields, IsField, option_nodes}

-- ---- lists

pub split : {A : Type 0} (xs : List A) (i : ℕ) (x : A) → i < length xs → x ≡ get_or xs i x →
    xs ≡ take i xs ++ x ∷ drop (i + 1) xs
split [] i x l e = absurd (omega (arith, l))
split (y ∷ ys) zero x l e = ap (λ z. z ∷ ys) (sym e)
split (y ∷ ys) (suc i) x l e =
    let h = split ys i x (omega (arith, l)) e in
    let q : suc i + 1 ≡ suc (i + 1) = omega arith in
    rw q (ap (λ zs. y ∷ zs) h)

pub taken : {A B : Type 0} (f : A → B) (xs : List A) (i : ℕ) (x : A) → i < length xs → x ≡ get_or xs i x →
    map f (take (i + 1) xs) ≡ map f (take i xs) ++ f x ∷ []
taken f [] i x l e = absurd (omega (arith, l))
taken f (y ∷ ys) zero x l e = ap (λ z. f z ∷ []) (sym e)
taken f (y ∷ ys) (suc i) x l e =
    let h = taken f ys i x (omega (arith, l)) e in
    let q : suc i + 1 ≡ suc (i + 1) = omega arith in
    rw q (ap (λ zs. f y ∷ zs) h)

pub place_below : {A : Type 0} (xs : List A) (i : ℕ) (x : A) → slice_get xs i ≡ Some x → i < length xs
place_below [] i x e = absurd cc
place_below (y ∷ ys) zero x e = omega arith
place_below (y ∷ ys) (suc i) x e = let h = place_below ys i x e in omega (arith, h)

pub got : {A B : Type 0} (f : A → B) (xs : List A) (i : ℕ) (x : A) → i < length xs → x ≡ get_or xs i x →
    slice_get (map f xs) i ≡ Some (f x)
got f [] i x l e = absurd (omega (arith, l))
got f (y ∷ ys) zero x l e = ap (λ z. Some (f z)) (sym e)
got f (y ∷ ys) (suc i) x l e = got f ys i x (omega (arith, l)) e

pub got_plain : {A : Type 0} (xs : List A) (i : ℕ) (d : A) → i < length xs → slice_get xs i ≡ Some (get_or xs i d)
got_plain [] i d l = absurd (omega (arith, l))
got_plain (y ∷ ys) zero d l = refl
got_plain (y ∷ ys) (suc i) d l = got_plain ys i d (omega (arith, l))

pub got_or : {A B : Type 0} (f : A → B) (xs : List A) (i : ℕ) (d : A) → i < length xs →
    slice_get (map f xs) i ≡ Some (f (get_or xs i d))
got_or f [] i d l = absurd (omega (arith, l))
got_or f (y ∷ ys) zero d l = refl
got_or f (y ∷ ys) (suc i) d l = got_or f ys i d (omega (arith, l))

-- ---- elements

module _ (p : Program) (levels : ℕ) (os : List ℕ) (M : Name) (i : ℕ) where
  elements_end : (ts : List Tree) (vs : List AbstractValue) (t : Tree) (v : AbstractValue) →
      NotatedElements p os M i ts (row_of_list vs) → Notation p os M i t v →
      NotatedElements p os M i (ts ++ t ∷ []) (row_of_list (vs ++ v ∷ []))
  elements_end [] [] t v no_element h = one_element h no_element
  elements_end [] (w ∷ vs) t v x h = elim x [ ]
  elements_end (u ∷ ts) [] t v x h = elim x [ ]
  elements_end (u ∷ ts) (w ∷ vs) t v (one_element g k) h = one_element g (elements_end ts vs t v k h)

  values_end : (vs : List AbstractValue) (v : AbstractValue) →
      AreNotatedElements p (Allows p) (AllowsCode p) levels i (row_of_list vs) →
      NotatedValueIn p (Allows p) (AllowsCode p) levels i v →
      AreNotatedElements p (Allows p) (AllowsCode p) levels i (row_of_list (vs ++ v ∷ []))
  values_end [] v values.no_element h = values.one_element h values.no_element
  values_end (w ∷ vs) v (values.one_element g k) h = values.one_element g (values_end vs v k h)

  nodes_end : (vs : List AbstractValue) (v : AbstractValue) →
      row_nodes (row_of_list (vs ++ v ∷ [])) ≡ row_nodes (row_of_list vs) + nodes v
  nodes_end [] v = omega arith
  nodes_end (w ∷ vs) v = let h = nodes_end vs v in omega (arith, h)

  pub none_yet : (left : ℕ) → MeanRow p levels left left os M i [] (row_of_list [])
  none_yet left = record { stand = no_element; values = values.no_element; counted = omega arith }

  pub one_more : (before between after : ℕ) (ts : List Tree) (vs : List AbstractValue) (t : Tree) (v : AbstractValue) →
      MeanRow p levels before between os M i ts (row_of_list vs) →
      Means p levels between after os M i t v →
      MeanRow p levels before after os M i (ts ++ t ∷ []) (row_of_list (vs ++ v ∷ []))
  one_more before between after ts vs t v r m =
      let a = r.counted in let b = m.counted in let c = nodes_end vs v in
      record {
        stand = elements_end ts vs t v r.stand m.is_so;
        values = values_end vs v r.values m.value;
        counted = omega (arith, a, b, c);
      }

-- ---- fields

module _ (p : Program) (levels : ℕ) (ps : List ℕ) (K N : Name) (fs : List (Name × Tree)) where
  fields_end : (cs : List Part) (os : List (Option AbstractValue)) (c : Part) (o : Option AbstractValue) →
      Fields p ps K fs cs (row_of_options os) → IsField p levels ps K N fs c o →
      Fields p ps K fs (cs ++ c ∷ []) (row_of_options (os ++ o ∷ []))
  fields_end [] [] c None no_part h = part_absent h.0 h.1 no_part
  fields_end [] [] c (Some v) no_part h = part_present h.1 h.2 no_part
  fields_end [] (None ∷ os) c o x h = elim x [ ]
  fields_end [] (Some w ∷ os) c o x h = elim x [ ]
  fields_end (b ∷ cs) [] c o x h = elim x [ ]
  fields_end (b ∷ cs) (None ∷ os) c o (part_absent a m k) h = part_absent a m (fields_end cs os c o k h)
  fields_end (b ∷ cs) (Some w ∷ os) c o (part_present s g k) h = part_present s g (fields_end cs os c o k h)

  parts_end : (cs : List Part) (os : List (Option AbstractValue)) (c : Part) (o : Option AbstractValue) →
      AreNotatedComponents p (Allows p) (AllowsCode p) levels N cs (row_of_options os) →
      IsField p levels ps K N fs c o →
      AreNotatedComponents p (Allows p) (AllowsCode p) levels N (cs ++ c ∷ []) (row_of_options (os ++ o ∷ []))
  parts_end [] [] c None no_component h = component_absent h.2 no_component
  parts_end [] [] c (Some v) no_component h = component_present h.3 no_component
  parts_end [] (None ∷ os) c o x h = elim x [ ]
  parts_end [] (Some w ∷ os) c o x h = elim x [ ]
  parts_end (b ∷ cs) [] c o x h = elim x [ ]
  parts_end (b ∷ cs) (None ∷ os) c o (component_absent m k) h = component_absent m (parts_end cs os c o k h)
  parts_end (b ∷ cs) (Some w ∷ os) c o (component_present g k) h = component_present g (parts_end cs os c o k h)

  options_end : (os : List (Option AbstractValue)) (o : Option AbstractValue) →
      row_nodes (row_of_options (os ++ o ∷ [])) ≡ row_nodes (row_of_options os) + option_nodes o
  options_end [] None = refl
  options_end [] (Some v) = omega arith
  options_end (None ∷ os) o = options_end os o
  options_end (Some w ∷ os) o = let h = options_end os o in omega (arith, h)

  pub no_field_yet : (left : ℕ) → MeanFields p levels left left ps K N fs [] (row_of_options [])
  no_field_yet left = record { stand = no_part; values = no_component; counted = omega arith }

  pub one_field_more : (before between after : ℕ) (cs : List Part) (os : List (Option AbstractValue)) (c : Part)
      (o : Option AbstractValue) →
      MeanFields p levels before between ps K N fs cs (row_of_options os) →
      IsField p levels ps K N fs c o →
      between ≡ after + option_nodes o →
      MeanFields p levels before after ps K N fs (cs ++ c ∷ []) (row_of_options (os ++ o ∷ []))
  one_field_more before between after cs os c o r f b =
      let a = r.counted in let d = options_end os o in
      record {
        stand = fields_end cs os c o r.stand f;
        values = parts_end cs os c o r.values f;
        counted = omega (arith, a, b, d);
      }
