-- The first part that isn't a value of its type, and the innermost value that isn't one of its type.
use Rattle.std.proofs.Common.{arith, ◌≡◌, ℕ, zero, suc, ◌+◌, ◌≤◌, ◌<◌, Bool, true, false, List, [], ◌∷◌, ◌++◌, length, map, drop, refl, sym, ap, subst, ◌∙◌, IsTrue, ◌↔◌, append_assoc}
use Rattle.std.proofs.lemmas.List.{append-nil, length-append}
use Rattle.std.specs.Prelude.{Option, Some, None, option_map, slice_get}
use Rattle.asn_base.specs.declared.schema.TypeId.{TypeId}
use Rattle.asn_base.specs.Abstract.{AbstractValue, boolean, integer, enumerated, bits, octets, text, null, oid, relative_oid, fields, list, alternative, Row, end, absent, present, row_of_options}
use Rattle.asn_base.specs.Schemas.{AreListed, IsSchema, IsSound, components}
use Rattle.asn_base.specs.Typed.{IsValue, IsValueWithoutNodes, nodes, row_nodes}
use Rattle.asn_base.specs.Types.{TypeNumber, Component, Alternative, Kind, a_null, a_sequence, a_set, Resolved}
use Rattle.decode_faults.specs.declared.read_fault.ReadFault.{ReadFault}
use Rattle.decode_faults.specs.declared.read_fault.ReadFault.TheVariants as faults
use Rattle.codec_code.specs.Routines.{id_of}
use Rattle.ber_reader.specs.Paths.{on_path}
use Rattle.ber_reader.specs.declared.open.OpenValue.{OpenValue}
use Rattle.ber_reader.specs.declared.open.Part.{Part}
use Rattle.ber_reader.specs.declared.open.Part.TheVariants as a_part
use Rattle.views.specs.Tree.{ViewMembers, ViewTree, no_member, member, component, component_value, count, element_values, placed as in_places, value_of}
use Rattle.ber_reader.specs.Judged.{Piece, piece, Placed, placed, kind_at, element_of, alternatives, FirstWrong, none_wrong, wrong_here, right_here, component_piece, component_pieces, element_pieces, parts, IsWrong, Innermost, is_itself, is_within, Extends, IsOwn, lacks_number, half_a_group, deep_component, deep_alternative, outside, IsJudged}
use Rattle.views.specs.proving.ComponentValues.{value_at}
use Rattle.ber_reader.proofs.Plain.{none_some, some_same}

-- ---- lists that are left

drop_none : {A : Type 0} (i : ℕ) → drop i (let n : List A = [] in n) ≡ []
drop_none zero = refl
drop_none (suc i) = refl

-- ---- pieces

-- the first wrong one after pieces that are values of their types
pub following : {s : List Resolved} {ps qs : List Placed} {o : Option Placed} → FirstWrong s ps None → FirstWrong s qs o → FirstWrong s (ps ++ qs) o
following none_wrong g = g
following (right_here r h) g = right_here r (following h g)

-- a first wrong one stays the first if others follow
pub before : {s : List Resolved} {ps : List Placed} {p : Placed} (qs : List Placed) → FirstWrong s ps (Some p) → FirstWrong s (ps ++ qs) (Some p)
before qs (wrong_here n) = wrong_here n
before qs (right_here r h) = right_here r (before qs h)

-- the first wrong one is wrong
pub is_wrong : {s : List Resolved} {ps : List Placed} {p : Placed} → FirstWrong s ps (Some p) → IsWrong s p.piece
is_wrong (wrong_here n) = n
is_wrong (right_here r h) = is_wrong h

-- a piece that was asked, within the limit on nodes
pub one_right : {s : List Resolved} (b : Bool) (p : Placed) → b ≡ true → IsTrue b ↔ IsValueWithoutNodes s p.piece.type p.piece.value → nodes p.piece.value ≤ 16777216 → FirstWrong s (p ∷ []) None
one_right b p e h l = right_here (record { shaped = h.0 e; few_nodes = l }) none_wrong

pub one_wrong : {s : List Resolved} (b : Bool) (p : Placed) → b ≡ false → IsTrue b ↔ IsValueWithoutNodes s p.piece.type p.piece.value → FirstWrong s (p ∷ []) (Some p)
one_wrong b p e h = wrong_here (λ v. let t = h.1 v.shaped in cc)

-- ---- elements

-- the first element of those left, and those after it
pub element_next : {s : List Resolved} {o : Option Placed} (u : TypeNumber) (i k : ℕ) (t : ViewTree) (left after : ViewMembers)
    → left ≡ member k t after
    → FirstWrong s (placed (a_part.Element i) u (value_of t) ∷ element_pieces (i + 1) u (element_values after)) o
    → FirstWrong s (element_pieces i u (element_values left)) o
element_next {s = s} {o = o} u i k t left after e h =
    let z : i + 1 ≡ suc i = omega arith in
    subst (λ q. FirstWrong s (element_pieces i u (element_values q)) o) (sym e)
    (subst (λ j. FirstWrong s (placed (a_part.Element i) u (value_of t) ∷ element_pieces j u (element_values after)) o) z h)

pub no_more_elements : {s : List Resolved} (u : TypeNumber) (i : ℕ) (left : ViewMembers) → left ≡ no_member → FirstWrong s (element_pieces i u (element_values left)) None
no_more_elements {s = s} u i left e = subst (λ q. FirstWrong s (element_pieces i u (element_values q)) None) (sym e) none_wrong

-- what was judged so far, as elements: all come down to those left, which are as many as are missing
pub record Elements (s : List Resolved) (u : TypeNumber) (all : ViewMembers) (i : ℕ) (left : ViewMembers) : Type 0 where
  pub rest : (r : Option Placed) → FirstWrong s (element_pieces i u (element_values left)) r → FirstWrong s (element_pieces 0 u (element_values all)) r
  pub counted : count left + i ≡ count all
  pub few : row_nodes (element_values left) ≤ 16777216

pub elements_begin : {s : List Resolved} {u : TypeNumber} (all : ViewMembers) → row_nodes (element_values all) ≤ 16777216 → Elements s u all 0 all
elements_begin all l = record { rest = λ r h. h; counted = omega arith; few = l }

-- an element is within the limit if all are
pub element_few : {s : List Resolved} {u : TypeNumber} {all left : ViewMembers} {i : ℕ} (k : ℕ) (t : ViewTree) (after : ViewMembers) → left ≡ member k t after → Elements s u all i left → nodes (value_of t) ≤ 16777216
element_few k t after e a =
    let l : nodes (value_of t) + row_nodes (element_values after) ≤ 16777216 = subst (λ q. row_nodes (element_values q) ≤ 16777216) e a.few in
    omega (arith, l)

pub elements_more : {s : List Resolved} {u : TypeNumber} {all left : ViewMembers} {i : ℕ} (k : ℕ) (t : ViewTree) (after : ViewMembers)
    → left ≡ member k t after
    → FirstWrong s (placed (a_part.Element i) u (value_of t) ∷ []) None
    → Elements s u all i left
    → Elements s u all (i + 1) after
elements_more {u = u} {all = all} {left = left} {i = i} k t after e f a =
    let l : nodes (value_of t) + row_nodes (element_values after) ≤ 16777216 = subst (λ q. row_nodes (element_values q) ≤ 16777216) e a.few in
    let n : count after + 1 + i ≡ count all = ap (λ q. count q + i) (sym e) ∙ a.counted in
    record {
      rest = λ r h. a.rest r (element_next u i k t left after e (following f h));
      counted = omega (arith, n);
      few = omega (arith, l);
    }

pub element_found : {s : List Resolved} {u : TypeNumber} {all left : ViewMembers} {i : ℕ} {r : Placed} (k : ℕ) (t : ViewTree) (after : ViewMembers)
    → left ≡ member k t after
    → FirstWrong s (placed (a_part.Element i) u (value_of t) ∷ []) (Some r)
    → Elements s u all i left
    → FirstWrong s (element_pieces 0 u (element_values all)) (Some r)
element_found {u = u} {left = left} {i = i} k t after e f a =
    a.rest _ (element_next u i k t left after e (before (element_pieces (i + 1) u (element_values after)) f))

pub elements_end : {s : List Resolved} {u : TypeNumber} {all left : ViewMembers} {i : ℕ} → left ≡ no_member → Elements s u all i left → FirstWrong s (element_pieces 0 u (element_values all)) None
elements_end {u = u} {left = left} {i = i} e a = a.rest None (no_more_elements u i left e)

none_counted : (ms : ViewMembers) → count ms ≡ 0 → ms ≡ no_member
none_counted no_member e = refl
none_counted (member k t ms) e = absurd (omega (arith, e))

pub elements_all : {s : List Resolved} {u : TypeNumber} {all left : ViewMembers} {i : ℕ} (n : ℕ) → n ≡ count all → n ≤ i → Elements s u all i left → FirstWrong s (element_pieces 0 u (element_values all)) None
elements_all {left = left} n e l a = elements_end (none_counted left (let c = a.counted in omega (arith, c, e, l))) a

-- ---- components

no_pieces : (k : ℕ) (cs : List Component) → component_pieces k cs end ≡ []
no_pieces k [] = refl
no_pieces k (c ∷ cs) = refl

pieces_split : (k : ℕ) (cs : List Component) (i : ℕ) (o : Option AbstractValue) (os : List (Option AbstractValue))
    → component_pieces k (drop i cs) (row_of_options (o ∷ os)) ≡ component_piece k (slice_get cs i) o ++ component_pieces (suc k) (drop (i + 1) cs) (row_of_options os)
pieces_split k [] i o os =
    ap (λ q. component_pieces k q (row_of_options (o ∷ os))) (drop_none i) ∙ sym (ap (λ q. component_pieces (suc k) q (row_of_options os)) (drop_none (i + 1)))
pieces_split k (c ∷ cs) zero None os = refl
pieces_split k (c ∷ cs) zero (Some v) os = refl
pieces_split k (c ∷ cs) (suc i) o os =
    let z : suc (i + 1) ≡ suc i + 1 = omega arith in
    pieces_split k cs i o os ∙ ap (λ n. component_piece k (slice_get cs i) o ++ component_pieces (suc k) (drop n (c ∷ cs)) (row_of_options os)) z

place_at : {A : Type 0} (n : ℕ) (f : ℕ → Option A) (i : ℕ) → i < n → drop i (in_places n f) ≡ f i ∷ drop (suc i) (in_places n f)
place_at zero f i l = absurd (omega (arith, l))
place_at (suc n) f zero l = refl
place_at (suc n) f (suc i) l =
    let e : i + 1 ≡ suc i = omega arith in
    place_at n (λ j. f (j + 1)) i (omega (arith, l)) ∙ ap (λ k. f k ∷ drop (suc i) (in_places n (λ j. f (j + 1)))) e

place_is : {A : Type 0} (n : ℕ) (f : ℕ → Option A) (i : ℕ) → i < n → drop i (in_places n f) ≡ f i ∷ drop (i + 1) (in_places n f)
place_is n f i l =
    let e : i + 1 ≡ suc i = omega arith in
    place_at n f i l ∙ ap (λ k. f i ∷ drop k (in_places n f)) (sym e)

places_over : {A : Type 0} (n : ℕ) (f : ℕ → Option A) (i : ℕ) → n ≤ i → drop i (in_places n f) ≡ []
places_over zero f zero l = refl
places_over zero f (suc i) l = refl
places_over (suc n) f zero l = absurd (omega (arith, l))
places_over (suc n) f (suc i) l = places_over n (λ j. f (j + 1)) i (omega (arith, l))

-- a component has no more nodes than all
few_placed : (n : ℕ) (f : ℕ → Option AbstractValue) (i : ℕ) {v : AbstractValue} → i < n → f i ≡ Some v → nodes v ≤ row_nodes (row_of_options (in_places n f))
few_placed zero f i l e = absurd (omega (arith, l))
few_placed (suc n) f zero {v} l e =
    let h : nodes v ≤ nodes v + row_nodes (row_of_options (in_places n (λ j. f (j + 1)))) = omega arith in
    subst (λ o. nodes v ≤ row_nodes (row_of_options (o ∷ in_places n (λ j. f (j + 1))))) (sym e) h
few_placed (suc n) f (suc i) {v} l e =
    let z : suc i ≡ i + 1 = omega arith in
    let h = few_placed n (λ j. f (j + 1)) i (omega (arith, l)) (ap f (sym z) ∙ e) in
    later (f 0) (in_places n (λ j. f (j + 1))) h
  where
    later : (o : Option AbstractValue) (os : List (Option AbstractValue)) → nodes v ≤ row_nodes (row_of_options os) → nodes v ≤ row_nodes (row_of_options (o ∷ os))
    later None os h = h
    later (Some w) os h = let g : nodes v ≤ nodes w + row_nodes (row_of_options os) = omega (arith, h) in g

few_listed : {s : List Resolved} {e : Bool} {cs : List Component} → AreListed s e cs → length cs ≤ 320
few_listed l = let e = ap length l.parts in let a = l.few_root in let b = l.few_more in omega (arith, e, a, b, length-append l.root l.more)

few_in : (s : List Resolved) (k : Kind) → IsSound s k → length (components k) ≤ 320
few_in s (a_sequence e cs) h = few_listed h
few_in s (a_set e cs) h = few_listed h.0
few_in s k h = omega arith

-- a type has few components
few_components : (s : List Resolved) (t : TypeNumber) → IsSchema s → length (components (kind_at s t)) ≤ 320
few_components s t schema = by (slice_get s t) refl
  where
    by : (o : Option Resolved) → slice_get s t ≡ o → length (components (elim o [ None ↦ a_null | Some r ↦ r.kind ])) ≤ 320
    by None e = omega arith
    by (Some r) e = few_in s r.kind (schema.sound t r.tags r.kind (record { found = e }))

past : {A : Type 0} (xs : List A) (i : ℕ) → length xs ≤ i → drop i xs ≡ []
past [] zero l = refl
past [] (suc i) l = refl
past (x ∷ xs) zero l = absurd (omega (arith, l))
past (x ∷ xs) (suc i) l = past xs i (omega (arith, l))

-- What was judged so far, as components of a row of n places: all come down to those from place i on. The members with
-- their numbers are left.
pub record Fields (s : List Resolved) (cs : List Component) (n : ℕ) (all : ViewMembers) (i : ℕ) (left : ViewMembers) : Type 0 where
  pub same : (j : ℕ) → i ≤ j → component all j ≡ component left j
  pub rest : (r : Option Placed)
      → FirstWrong s (component_pieces i (drop i cs) (row_of_options (drop i (in_places n (λ j. component_value all j))))) r
      → FirstWrong s (component_pieces 0 cs (row_of_options (in_places n (λ j. component_value all j)))) r

pub fields_begin : {s : List Resolved} {cs : List Component} {n : ℕ} (all : ViewMembers) → Fields s cs n all 0 all
fields_begin all = record { same = λ j l. refl; rest = λ r h. h }

found_is : {s : List Resolved} {cs : List Component} {n : ℕ} {all left : ViewMembers} {i : ℕ} {o : Option ViewTree} → o ≡ component left i → Fields s cs n all i left → component_value all i ≡ option_map value_of o
found_is {all = all} {i = i} e a = value_at all i ∙ ap (option_map value_of) (a.same i (omega arith) ∙ sym e)

pub field_few : {s : List Resolved} {cs : List Component} {n : ℕ} {all left : ViewMembers} {i : ℕ} {o : Option ViewTree} (v : AbstractValue)
    → i < n
    → o ≡ component left i
    → row_nodes (row_of_options (in_places n (λ j. component_value all j))) ≤ 16777216
    → Fields s cs n all i left
    → option_map value_of o ≡ Some v
    → nodes v ≤ 16777216
field_few {n = n} {all = all} {i = i} v l e few a f =
    let h = few_placed n (λ j. component_value all j) i l (found_is e a ∙ f) in
    omega (arith, h, few)

field_next : {s : List Resolved} {cs : List Component} {n : ℕ} {all left : ViewMembers} {i : ℕ} {o : Option ViewTree} (r : Option Placed)
    → i < n
    → o ≡ component left i
    → Fields s cs n all i left
    → FirstWrong s (component_piece i (slice_get cs i) (option_map value_of o) ++ component_pieces (i + 1) (drop (i + 1) cs) (row_of_options (drop (i + 1) (in_places n (λ j. component_value all j))))) r
    → FirstWrong s (component_pieces i (drop i cs) (row_of_options (drop i (in_places n (λ j. component_value all j))))) r
field_next {s} {cs} {n} {all} {i = i} {o = o} r l e a h =
    let z : i + 1 ≡ suc i = omega arith in
    let rest = drop (i + 1) (in_places n (λ j. component_value all j)) in
    let here = place_is n (λ j. component_value all j) i l ∙ ap (λ q. q ∷ rest) (found_is e a) in
    subst (λ q. FirstWrong s (component_pieces i (drop i cs) (row_of_options q)) r) (sym here)
    (subst (λ q. FirstWrong s q r) (sym (pieces_split i cs i (option_map value_of o) rest))
    (subst (λ k. FirstWrong s (component_piece i (slice_get cs i) (option_map value_of o) ++ component_pieces k (drop (i + 1) cs) (row_of_options rest)) r) z h))

pub fields_more : {s : List Resolved} {cs : List Component} {n : ℕ} {all left after : ViewMembers} {i : ℕ} {o : Option ViewTree}
    → i < n
    → o ≡ component left i
    → ((j : ℕ) → i < j → component after j ≡ component left j)
    → FirstWrong s (component_piece i (slice_get cs i) (option_map value_of o)) None
    → Fields s cs n all i left
    → Fields s cs n all (i + 1) after
fields_more l e b f a = record {
  same = λ j m. a.same j (omega (arith, m)) ∙ sym (b j (omega (arith, m)));
  rest = λ r h. a.rest r (field_next r l e a (following f h));
}

pub field_found : {s : List Resolved} {cs : List Component} {n : ℕ} {all left : ViewMembers} {i : ℕ} {o : Option ViewTree} {p : Placed}
    → i < n
    → o ≡ component left i
    → FirstWrong s (component_piece i (slice_get cs i) (option_map value_of o)) (Some p)
    → Fields s cs n all i left
    → FirstWrong s (component_pieces 0 cs (row_of_options (in_places n (λ j. component_value all j)))) (Some p)
field_found {cs = cs} {n = n} {all = all} {i = i} l e f a =
    a.rest _ (field_next _ l e a (before (component_pieces (i + 1) (drop (i + 1) cs) (row_of_options (drop (i + 1) (in_places n (λ j. component_value all j))))) f))

-- no places are left
pub fields_all : {s : List Resolved} {cs : List Component} {n : ℕ} {all left : ViewMembers} {i : ℕ} → n ≤ i → Fields s cs n all i left → FirstWrong s (component_pieces 0 cs (row_of_options (in_places n (λ j. component_value all j)))) None
fields_all {s} {cs} {n} {all} {i = i} l a =
    a.rest None (subst (λ q. FirstWrong s (component_pieces i (drop i cs) (row_of_options q)) None) (sym (places_over n (λ j. component_value all j) i l))
    (subst (λ q. FirstWrong s q None) (sym (no_pieces i (drop i cs))) none_wrong))

-- no components are left
pub fields_past : {s : List Resolved} {n : ℕ} {all left : ViewMembers} {i : ℕ} (t : TypeNumber) → IsSchema s → 65535 < i → Fields s (components (kind_at s t)) n all i left
    → FirstWrong s (component_pieces 0 (components (kind_at s t)) (row_of_options (in_places n (λ j. component_value all j)))) None
fields_past {s} {n} {all} {i = i} t schema l a =
    let few = few_components s t schema in
    a.rest None (subst (λ q. FirstWrong s (component_pieces i q (row_of_options (drop i (in_places n (λ j. component_value all j))))) None) (sym (past (components (kind_at s t)) i (omega (arith, few, l)))) none_wrong)

-- a component that is present, of a type that was looked up
pub component_is : {s : List Resolved} {r : Option Placed} (i : ℕ) (u : TypeId) (v : AbstractValue) (o : Option Component) (m : Option AbstractValue)
    → Some u ≡ option_map (λ c. id_of c.type) o
    → m ≡ Some v
    → FirstWrong s (placed (a_part.Component i) u.index v ∷ []) r
    → FirstWrong s (component_piece i o m) r
component_is {s} {r} i u v None m e g h = cc
component_is {s} {r} i u v (Some c) m e g h =
    subst (λ q. FirstWrong s (component_piece i (Some c) q) r) (sym g)
    (let w : u ≡ id_of c.type = (let a = e in cc) in subst (λ (q : TypeId). FirstWrong s (placed (a_part.Component i) q.index v ∷ []) r) w h)

pub component_lacks : {s : List Resolved} (i : ℕ) (o : Option Component) (m : Option AbstractValue)
    → None ≡ option_map (λ c. id_of c.type) o
    → FirstWrong s (component_piece i o m) None
component_lacks i None m e = none_wrong
component_lacks i (Some c) m e = cc

pub component_absent : {s : List Resolved} (i : ℕ) (o : Option Component) (m : Option AbstractValue) → m ≡ None → FirstWrong s (component_piece i o m) None
component_absent {s} i None m e = none_wrong
component_absent {s} i (Some c) m e = subst (λ q. FirstWrong s (component_piece i (Some c) q) None) (sym e) none_wrong

-- ---- the parts of a value

pub list_is : {s : List Resolved} {r : Option Placed} (u : TypeId) (vs : Row) (k : Kind)
    → Some u ≡ option_map id_of (element_of k)
    → FirstWrong s (element_pieces 0 u.index vs) r
    → FirstWrong s (parts k (list vs)) r
list_is {s} {r} u vs k e h = by (element_of k) e
  where
    by : (o : Option TypeNumber) → Some u ≡ option_map id_of o → FirstWrong s (elim o [ None ↦ [] | Some t ↦ element_pieces 0 t vs ]) r
    by None d = cc
    by (Some t) d = let w : u ≡ id_of t = (let a = d in cc) in subst (λ (q : TypeId). FirstWrong s (element_pieces 0 q.index vs) r) w h

pub list_lacks : {s : List Resolved} (vs : Row) (k : Kind) → None ≡ option_map id_of (element_of k) → FirstWrong s (parts k (list vs)) None
list_lacks {s} vs k e = by (element_of k) e
  where
    by : (o : Option TypeNumber) → None ≡ option_map id_of o → FirstWrong s (elim o [ None ↦ [] | Some t ↦ element_pieces 0 t vs ]) None
    by None d = none_wrong
    by (Some t) d = cc

pub choice_is : {s : List Resolved} {r : Option Placed} (u : TypeId) (i : ℕ) (v : AbstractValue) (k : Kind)
    → Some u ≡ option_map (λ a. id_of a.type) (slice_get (alternatives k) i)
    → FirstWrong s (placed (a_part.Alternative i) u.index v ∷ []) r
    → FirstWrong s (parts k (alternative i v)) r
choice_is {s} {r} u i v k e h = by (slice_get (alternatives k) i) e
  where
    by : (o : Option Alternative) → Some u ≡ option_map (λ a. id_of a.type) o → FirstWrong s (elim o [ None ↦ [] | Some a ↦ placed (a_part.Alternative i) a.type v ∷ [] ]) r
    by None d = cc
    by (Some a) d = let w : u ≡ id_of a.type = (let b = d in cc) in subst (λ (q : TypeId). FirstWrong s (placed (a_part.Alternative i) q.index v ∷ []) r) w h

pub choice_lacks : {s : List Resolved} (i : ℕ) (v : AbstractValue) (k : Kind)
    → None ≡ option_map (λ a. id_of a.type) (slice_get (alternatives k) i)
    → FirstWrong s (parts k (alternative i v)) None
choice_lacks {s} i v k e = by (slice_get (alternatives k) i) e
  where
    by : (o : Option Alternative) → None ≡ option_map (λ a. id_of a.type) o → FirstWrong s (elim o [ None ↦ [] | Some a ↦ placed (a_part.Alternative i) a.type v ∷ [] ]) None
    by None d = none_wrong
    by (Some a) d = cc

-- the parts of what is the same value
pub parts_as : {s : List Resolved} {v w : AbstractValue} {r : Option Placed} (k : Kind) → v ≡ w → FirstWrong s (parts k w) r → FirstWrong s (parts k v) r
parts_as {s} {r = r} k e h = subst (λ q. FirstWrong s (parts k q) r) (sym e) h

-- ---- parts are smaller

-- what holds others within the limit on nodes
pub fields_limit : {v : AbstractValue} {vs : Row} → v ≡ fields vs → nodes v ≤ 16777216 → row_nodes vs ≤ 16777216
fields_limit {vs = vs} e h = let g : suc (row_nodes vs) ≤ 16777216 = subst (λ q. nodes q ≤ 16777216) e h in omega (arith, g)

pub list_limit : {v : AbstractValue} {vs : Row} → v ≡ list vs → nodes v ≤ 16777216 → row_nodes vs ≤ 16777216
list_limit {vs = vs} e h = let g : suc (row_nodes vs) ≤ 16777216 = subst (λ q. nodes q ≤ 16777216) e h in omega (arith, g)

pub alternative_limit : {v w : AbstractValue} {i : ℕ} → v ≡ alternative i w → nodes v ≤ 16777216 → nodes w ≤ 16777216
alternative_limit {w = w} e h = let g : suc (nodes w) ≤ 16777216 = subst (λ q. nodes q ≤ 16777216) e h in omega (arith, g)

component_less : {s : List Resolved} {p : Placed} (i : ℕ) (cs : List Component) (vs : Row) → FirstWrong s (component_pieces i cs vs) (Some p) → nodes p.piece.value ≤ row_nodes vs
component_less i [] vs f = elim f [ ]
component_less i (c ∷ cs) end f = elim f [ ]
component_less i (c ∷ cs) (absent vs) f = component_less (suc i) cs vs f
component_less i (c ∷ cs) (present v vs) (wrong_here n) = omega arith
component_less i (c ∷ cs) (present v vs) (right_here r h) = let q = component_less (suc i) cs vs h in omega arith

element_less : {s : List Resolved} {p : Placed} (i : ℕ) (u : TypeNumber) (vs : Row) → FirstWrong s (element_pieces i u vs) (Some p) → nodes p.piece.value ≤ row_nodes vs
element_less i u end f = elim f [ ]
element_less i u (absent vs) f = element_less i u vs f
element_less i u (present v vs) (wrong_here n) = omega arith
element_less i u (present v vs) (right_here r h) = let q = element_less (suc i) u vs h in omega arith

list_less : {s : List Resolved} {p : Placed} (o : Option TypeNumber) (vs : Row) → FirstWrong s (elim o [ None ↦ [] | Some u ↦ element_pieces 0 u vs ]) (Some p) → nodes p.piece.value ≤ row_nodes vs
list_less None vs f = elim f [ ]
list_less (Some u) vs f = element_less 0 u vs f

choice_less : {s : List Resolved} {p : Placed} (i : ℕ) (o : Option Alternative) (v : AbstractValue) → FirstWrong s (elim o [ None ↦ [] | Some a ↦ placed (a_part.Alternative i) a.type v ∷ [] ]) (Some p) → nodes p.piece.value ≤ nodes v
choice_less i None v f = elim f [ ]
choice_less i (Some a) v (wrong_here n) = omega arith
choice_less i (Some a) v (right_here r h) = elim h [ ]

pub part_less : {s : List Resolved} {p : Placed} (k : Kind) (v : AbstractValue) → FirstWrong s (parts k v) (Some p) → nodes p.piece.value < nodes v
part_less k (boolean b) f = elim f [ ]
part_less k (integer z) f = elim f [ ]
part_less k (enumerated z) f = elim f [ ]
part_less k (bits b) f = elim f [ ]
part_less k (octets o) f = elim f [ ]
part_less k (text o) f = elim f [ ]
part_less k null f = elim f [ ]
part_less k (oid o) f = elim f [ ]
part_less k (relative_oid o) f = elim f [ ]
part_less k (fields vs) f = let q = component_less 0 (components k) vs f in omega arith
part_less k (list vs) f = let q = list_less (element_of k) vs f in omega arith
part_less k (alternative i v) f = let q = choice_less i (slice_get (alternatives k) i) v f in omega arith

-- ---- what is judged

-- the value itself
pub judged_itself : {s : List Resolved} {t : TypeNumber} {v : AbstractValue} {f : ReadFault}
    → (IsValue s t v → ⊥)
    → FirstWrong s (parts (kind_at s t) v) None
    → IsOwn s t v f
    → IsJudged s t v f
judged_itself {s} {t} {v} n w o = record { inner = piece t v; path = []; is_innermost = is_itself n w; own = o }

-- the value around a part
abbrev pub round : TypeNumber → Part → OpenValue
round t p = record { ty = id_of t; part = Some p; read = 0 }

-- a value within
pub judged_within : {s : List Resolved} {t u : TypeNumber} {v w : AbstractValue} {p : Part} {f : ReadFault}
    → FirstWrong s (parts (kind_at s t) v) (Some (placed p u w))
    → IsJudged s u w f
    → IsJudged s t v f
judged_within {t = t} {p = p} w j = record { inner = j.inner; path = round t p ∷ j.path; is_innermost = is_within w (record { of_type = refl; at_part = refl }) j.is_innermost; own = j.own }

-- ---- the way to it

-- none to the value itself
pub lead_itself : {s : List Resolved} {t : TypeNumber} {v : AbstractValue} (os : List OpenValue) → (IsValue s t v → ⊥) → FirstWrong s (parts (kind_at s t) v) None → Extends s (piece t v) os os
lead_itself {t = t} {v = v} os n w = record { path = []; whole = sym (append-nil os); path_to_wrong = record { inner = piece t v; is_innermost = is_itself n w } }

-- the way leads through the part that has it
pub lead_within : {s : List Resolved} {t u : TypeNumber} {v w : AbstractValue} {p : Part} {os ps all : List OpenValue} (o : OpenValue)
    → o.ty.index ≡ t
    → o.part ≡ Some p
    → ps ≡ os ++ o ∷ []
    → FirstWrong s (parts (kind_at s t) v) (Some (placed p u w))
    → Extends s (piece u w) ps all
    → Extends s (piece t v) os all
lead_within {os = os} o e f g w l = record {
  path = o ∷ l.path;
  whole = l.whole ∙ ap (λ q. q ++ l.path) g ∙ append_assoc os (o ∷ []) l.path;
  path_to_wrong = record { inner = l.path_to_wrong.inner; is_innermost = is_within w (record { of_type = e; at_part = f }) l.path_to_wrong.is_innermost };
}

-- ---- one of each

pub first_once : {s : List Resolved} {ps : List Placed} {o q : Option Placed} → FirstWrong s ps o → FirstWrong s ps q → o ≡ q
first_once none_wrong none_wrong = refl
first_once (wrong_here n) (wrong_here m) = refl
first_once (wrong_here n) (right_here r h) = absurd (n r)
first_once (right_here r h) (wrong_here n) = absurd (n r)
first_once (right_here r h) (right_here q g) = first_once h g

inner_once : {s : List Resolved} {p q r : Piece} {os ps : List OpenValue} → Innermost s p os q → Innermost s p ps r → q ≡ r
inner_once (is_itself n w) (is_itself m z) = refl
inner_once (is_itself n w) (is_within x a j) = none_some (first_once w x)
inner_once (is_within x a i) (is_itself m z) = none_some (first_once z x)
inner_once {s} {r = r} (is_within x a i) (is_within {os = os} y b j) = inner_once i (subst (λ z. Innermost s z.piece os r) (sym (some_same (first_once x y))) j)

-- the parts of it are one list: another way has the same type, and the same part, at each place
paths_once : {s : List Resolved} {p q r : Piece} {os ps : List OpenValue} → Innermost s p os q → Innermost s p ps r → map on_path os ≡ map on_path ps
paths_once (is_itself n w) (is_itself m z) = refl
paths_once (is_itself n w) (is_within x a j) = none_some (first_once w x)
paths_once (is_within x a i) (is_itself m z) = none_some (first_once z x)
paths_once {s} {r = r} (is_within {o = o} {os = ns} x a i) (is_within {o = u} {os = os} y b j) =
    let e = some_same (first_once x y) in
    let t : o.ty ≡ u.ty = ap id_of (a.of_type ∙ sym b.of_type) in
    let p : o.part ≡ u.part = a.at_part ∙ ap (λ z. Some z.part) e ∙ sym b.at_part in
    let h : on_path o ≡ on_path u = ap (λ z. record { ty = z; part = o.part; read = 0 }) t ∙ ap (λ z. record { ty = u.ty; part = z; read = 0 }) p in
    ap (λ z. z ∷ map on_path ns) h ∙ ap (λ z. on_path u ∷ z) (paths_once i (subst (λ z. Innermost s z.piece os r) (sym e) j))

pub lemma_one_path : (s : List Resolved) (p q r : Piece) (os ps : List OpenValue) → Innermost s p os q → Innermost s p ps r → (q ≡ r) × (map on_path os ≡ map on_path ps)
lemma_one_path s p q r os ps a b = (inner_once a b, paths_once a b)

own_once : {s : List Resolved} {t : TypeNumber} {v : AbstractValue} {e f : ReadFault} → IsOwn s t v e → IsOwn s t v f → e ≡ f
own_once lacks_number lacks_number = refl
own_once lacks_number (outside o) = absurd o
own_once (half_a_group r) (half_a_group q) = refl
own_once (half_a_group r) (deep_component n) = absurd (n r)
own_once (half_a_group r) (outside o) = absurd o
own_once (deep_component n) (half_a_group r) = absurd (n r)
own_once (deep_component n) (deep_component m) = refl
own_once (deep_component n) (outside o) = absurd o
own_once deep_alternative deep_alternative = refl
own_once deep_alternative (outside o) = absurd o
own_once (outside o) lacks_number = absurd o
own_once (outside o) (half_a_group r) = absurd o
own_once (outside o) (deep_component n) = absurd o
own_once (outside o) deep_alternative = absurd o
own_once (outside o) (outside q) = refl

pub once_judged : (s : List Resolved) (t : TypeNumber) (v : AbstractValue) (e f : ReadFault) → IsJudged s t v e → IsJudged s t v f → e ≡ f
once_judged s t v e f a b = own_once a.own (subst (λ p. IsOwn s p.type p.value f) (sym (inner_once a.is_innermost b.is_innermost)) b.own)

never_own : {s : List Resolved} {t : TypeNumber} {v : AbstractValue} {f : ReadFault} → IsOwn s t v f → f ≡ faults.NotDer → ⊥
never_own lacks_number e = cc
never_own (half_a_group r) e = cc
never_own (deep_component n) e = cc
never_own deep_alternative e = cc
never_own (outside o) e = cc

-- 96 is the fault of none
pub never_not_der : {s : List Resolved} {t : TypeNumber} {v : AbstractValue} → IsJudged s t v faults.NotDer → ⊥
never_not_der j = never_own j.own refl

-- the own fault of what is the same value
pub own_as : {s : List Resolved} {t : TypeNumber} {v w : AbstractValue} {f : ReadFault} → v ≡ w → IsOwn s t w f → IsOwn s t v f
own_as {s} {t} {f = f} e h = subst (λ q. IsOwn s t q f) (sym e) h
