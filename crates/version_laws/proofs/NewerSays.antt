-- What octets say of a value of an earlier version they say, by the same rules, of what it is under the later type.
use Rattle.std.proofs.Common.{arith, ◌≡◌, ℕ, ◌<◌, ◌≤◌, Bool, true, false, List, [], ◌∷◌, ◌++◌, length, refl, sym, ap, subst, ◌∙◌}
use Rattle.std.specs.Prelude.{slice_get}
use Rattle.std.specs.List.{concat, AllByRecursion}
use Rattle.asn_base.specs.Abstract.{AbstractValue, fields, list, alternative, Row}
use Rattle.asn_base.specs.Types.{Kind, Component, Resolved}
use Rattle.asn_base.specs.Typed.{ValueIn, value_in, ValueOf, of_leaf, of_sequence, of_set, of_sequence_of, of_set_of, of_choice, AreComponents, component_absent, component_present, AreElements, no_element, one_element}
use Rattle.asn_base.specs.Same.{Alike}
use Rattle.asn_base.specs.Schemas.{IsSchema, IsSound, types_in}
use Rattle.encodings.specs.Rules.{Rules, Basic, Unsorted, Distinguished, Strictly}
use Rattle.encodings.specs.Contents.{Contents, of_false, of_true, of_integer, of_enumerated, of_bits, of_named_bits, of_octets, of_null, of_oid, of_relative_oid, of_utf8, of_restricted}
use Rattle.encodings.specs.Orders.{Merges}
use Rattle.encodings.specs.Encoding.{Framed, no_unknown, UnknownIf, closed, extensible, last_run, IsDefault, EncodesTo, says, ContentsEncode, leaf, sequence, set, sequence_of, set_of, choice, Members, no_member, left_out as is_absent, member, Elements, no_element, element}
use Rattle.encodings.specs.Levels.{levels, inner_levels, leaf_levels, member_levels, element_levels, unknown_levels}
use Rattle.later_versions.specs.Projected.{members_of, projected}
use Rattle.later_versions.specs.Later.{IsMarkedAlike, IsLaterKind, later_boolean, later_integer, later_enumerated, later_bit_string, later_named_bits, later_octet_string, later_null, later_object_identifier, later_relative_oid, later_utf8_string, later_restricted_string, later_sequence, later_set, later_sequence_of, later_set_of, later_choice, Later}
use Rattle.version_laws.specs.Lifted.{all_absent, lifted, lifted_row, lifted_elements}
use Rattle.version_laws.proofs.Beside.{later_here, members_are, later_members, LaterMembers, types, AreAdditions, Beside, appended, beside, beside_of, mandatory_same, not_needed}
use Rattle.version_laws.proofs.Apart.{mapped, HasType, type_there}
use Rattle.version_laws.proofs.Places.{element_at, member_at}
use Rattle.version_laws.proofs.Older.{none_unknown}
use Rattle.version_laws.proofs.Alikes.{Laws, alike_kept, earlier}
use Rattle.version_laws.proofs.Back.{is_there, same_kind, other_choice, back}
use Rattle.version_laws.proofs.NewerAlike.{same_choice}

-- contents of a kind that hold a value, with no unknown additions, and with no more levels than m
pub record HoldsNewer (s' : List Resolved) (r : Rules) (k : Kind) (w : AbstractValue) (c : Bool) (x : List ℕ) (m : ℕ) : Type 0 where
  pub holds : ContentsEncode s' r k w 0 c x
  pub few : inner_levels holds ≤ m

pub record SaysNewer (s' : List Resolved) (r : Rules) (t' : ℕ) (w : AbstractValue) (o : List ℕ) (m : ℕ) : Type 0 where
  pub says_it : EncodesTo s' r t' w 0 o
  pub few : levels says_it ≤ m

record MembersNewer (s' : List Resolved) (r : Rules) (ds : List Component) (ws : Row) (xs : List (List ℕ)) (m : ℕ) : Type 0 where
  members : Members s' r ds ws 0 xs
  few : member_levels members ≤ m

record ElementsNewer (s' : List Resolved) (r : Rules) (u' : ℕ) (ws : Row) (xs : List (List ℕ)) (m : ℕ) : Type 0 where
  elements : Elements s' r u' ws 0 xs
  few : element_levels elements ≤ m

newer_at : {s' : List Resolved} {r : Rules} {k : Kind} {v w : AbstractValue} {c : Bool} {x y : List ℕ} {m : ℕ} → v ≡ w → x ≡ y → HoldsNewer s' r k v c x m → HoldsNewer s' r k w c y m
newer_at {s'} {r} {k} {v} {w} {c} {x} {y} {m} e f h =
    subst (λ q. HoldsNewer s' r k w c q m) f (subst (λ q. HoldsNewer s' r k q c x m) e h)

leaf_newer : {s : List Resolved} {r : Rules} {k k' : Kind} {w : AbstractValue} {c : Bool} {x : List ℕ} (s' : List Resolved) (t' : ℕ) → IsLaterKind s k k' → (con : Contents r k w c x) → HoldsNewer s' r k' (lifted s' t' w) c x (leaf_levels con)
leaf_newer s' t' later_boolean of_false = record { holds = leaf of_false; few = omega arith }
leaf_newer s' t' later_boolean (of_true a l e) = record { holds = leaf (of_true a l e); few = omega arith }
leaf_newer s' t' (later_integer q) (of_integer a) = record { holds = leaf (of_integer a); few = omega arith }
leaf_newer s' t' (later_enumerated q) (of_enumerated a) = record { holds = leaf (of_enumerated a); few = omega arith }
leaf_newer s' t' (later_bit_string q) (of_bits a e y) = record { holds = leaf (of_bits a e y); few = omega arith }
leaf_newer s' t' (later_named_bits q) (of_named_bits a e y z) = record { holds = leaf (of_named_bits a e y z); few = omega arith }
leaf_newer s' t' (later_octet_string q) (of_octets a e) = record { holds = leaf (of_octets a e); few = omega arith }
leaf_newer s' t' later_null of_null = record { holds = leaf of_null; few = omega arith }
leaf_newer s' t' later_object_identifier (of_oid a) = record { holds = leaf (of_oid a); few = omega arith }
leaf_newer s' t' later_relative_oid (of_relative_oid a) = record { holds = leaf (of_relative_oid a); few = omega arith }
leaf_newer s' t' (later_utf8_string q) (of_utf8 a e) = record { holds = leaf (of_utf8 a e); few = omega arith }
leaf_newer s' t' (later_restricted_string q) (of_restricted a e) = record { holds = leaf (of_restricted a e); few = omega arith }
leaf_newer s' t' (later_sequence q) con = elim con [ ]
leaf_newer s' t' (later_set q) con = elim con [ ]
leaf_newer s' t' (later_sequence_of q) con = elim con [ ]
leaf_newer s' t' (later_set_of q) con = elim con [ ]
leaf_newer s' t' (later_choice q f) con = elim con [ ]

strictly : {P Q : Type 0} (r : Rules) → (P → Q) → Strictly r P → Strictly r Q
strictly Basic f p = tt
strictly Unsorted f p = f p
strictly Distinguished f p = f p

record NoneUnknown (s' : List Resolved) (known : List Component) (e : Bool) : Type 0 where
  unknown : UnknownIf s' known e 0 []
  none : unknown_levels unknown ≡ 0

none_unknown_if : (s' : List Resolved) (known : List Component) (e : Bool) → NoneUnknown s' known e
none_unknown_if s' known true = record { unknown = extensible no_unknown; none = refl }
none_unknown_if s' known false = record { unknown = closed; none = refl }

no_members : {s' : List Resolved} {r : Rules} (ds : List Component) → AreAdditions ds → MembersNewer s' r ds (all_absent (types ds)) [] 0
no_members [] a = record { members = no_member; few = omega arith }
no_members (d ∷ ds) a = let r = no_members ds a.1 in record { members = is_absent (not_needed d a.0) r.members; few = r.few }

fewer : {s' : List Resolved} {r : Rules} {ds : List Component} {ws : Row} {xs : List (List ℕ)} {n : ℕ} (m : ℕ) → MembersNewer s' r ds ws xs n → n ≤ m → MembersNewer s' r ds ws xs m
fewer m r l = let few = r.few in record { members = r.members; few = omega (arith, few, l) }

module _ (laws : Laws) (s s' : List Resolved) (schema : IsSchema s') where
  -- what is its DEFAULT under the later type was the default of before
  pub default_before : (c d : Component) {n : ℕ} {w : AbstractValue} → Later s c.type s' d.type → HasType s' d.type → IsMarkedAlike s c.type c.presence d.presence → ValueIn s n c.type w → IsDefault s' d (lifted s' d.type w) → IsDefault s c w
  default_before c d {n} {w} l h mk v q =
      let m = earlier mk q.1 in
      let b = back s s' schema l h v in
      let k = alike_kept laws s s' {n = n} l q.2 (subst (ValueIn s n c.type) (sym b.same) v) in
      let a = subst (λ x. Alike s c.type x (projected s c.type q.0)) b.same k.are_alike in
      (m.value, m.is, laws.joined s c.type w (projected s c.type q.0) m.value a (laws.turned s c.type m.value (projected s c.type q.0) m.same.are_alike))

  mutual
    pub newer : {r : Rules} {t t' n m : ℕ} {w : AbstractValue} {o : List ℕ} → Later s t s' t' → HasType s' t' → (d : EncodesTo s r t w n o) → ValueIn s m t w → n ≡ 0 → SaysNewer s' r t' (lifted s' t' w) o (levels d)
    newer {r = r} {t' = t'} {w = w} {o = o} l h (says {tags = ts} {k = k} {c = c} {x = x} i con f) (value_in {n = m} i' v) z =
        let j = is_there h in
        let e = later_here l i j in
        let one = holds_newer t' (members_are j) (later_members l i j) e.kind con (subst (λ q. ValueOf s m q w) (same_kind i' i) v) (schema.sound _ _ _ j) z in
        let frame = subst (λ q. Framed r q c x o) e.tags f in
        let q = ap length e.tags in
        let few = one.few in
        record { says_it = says j one.holds frame; few = omega (arith, q, few) }

    holds_newer : {r : Rules} {k k' : Kind} {n m : ℕ} {w : AbstractValue} {c : Bool} {x : List ℕ} (t' : ℕ) → members_of s' t' ≡ types_in k' → LaterMembers s s' (types_in k) (types_in k') → IsLaterKind s k k' → (h : ContentsEncode s r k w n c x) → ValueOf s m k w → IsSound s' k' → n ≡ 0 → HoldsNewer s' r k' (lifted s' t' w) c x (inner_levels h)
    holds_newer t' q ms kind (leaf con) v sound z = leaf_newer s' t' kind con
    holds_newer t' q ms (later_sequence {e = e} {cs = cs} {ds = ds} a) (sequence {ws = ws} {xs = xs} {us = us} p u) (of_sequence v g) sound z =
        let side : Beside s s' cs ds = beside_of cs ds a.front.none_dropped a.front.projected a.appended ms in
        let none = none_unknown_if s' (last_run ds) e in
        let r = members_newer side p v (omega (arith, z)) sound.types in
        let few = r.few in
        let no = none.none in
        newer_at (ap (λ y. fields (lifted_row s' y ws)) (sym q)) (ap (λ y. concat (xs ++ y)) (sym (none_unknown u (omega (arith, z)))))
        (record { holds = sequence r.members none.unknown; few = omega (arith, few, no) })
    holds_newer t' q ms (later_set {e = e} {cs = cs} {ds = ds} a) (set {ws = ws} {zs = zs} {us = us} {ys = ys} p pe st u mg) (of_set v g) sound z =
        let side : Beside s s' cs ds = beside_of cs ds a.front.none_dropped a.front.projected a.appended ms in
        let none = none_unknown_if s' ds e in
        let r = members_newer side p v (omega (arith, z)) sound.0.types in
        let few = r.few in
        let no = none.none in
        newer_at (ap (λ y. fields (lifted_row s' y ws)) (sym q)) refl
        (record { holds = set r.members pe st none.unknown (subst (λ y. Merges zs y ys) (none_unknown u (omega (arith, z))) mg); few = omega (arith, few, no) })
    holds_newer t' q ms (later_sequence_of {u = u} {v = u'} ls) (sequence_of {ws = ws} es) (of_sequence_of v g) sound z =
        let r = elements_newer (ms 0 u u' refl refl) (type_there s' u' sound.type) es v z in
        newer_at (ap (λ y. list (lifted_elements s' y ws)) (sym (element_at s' t' u' q))) refl
        (record { holds = sequence_of r.elements; few = r.few })
    holds_newer t' q ms (later_set_of {u = u} {v = u'} ls) (set_of {ws = ws} es st) (of_set_of v g) sound z =
        let r = elements_newer (ms 0 u u' refl refl) (type_there s' u' sound.type) es v z in
        newer_at (ap (λ y. list (lifted_elements s' y ws)) (sym (element_at s' t' u' q))) refl
        (record { holds = set_of r.elements st; few = r.few })
    holds_newer {m = m} t' q ms (later_choice {root = root} {others = others} {more = more} {all = all} names front) (choice {i = i} {a = a} {w = w} g d) (of_choice h v) sound z =
        let b = other_choice {s' = s'} root more others all i names front.none_dropped sound.types g in
        let one = mapped (λ y. y.type) (root ++ more) i g in
        let other = mapped (λ y. y.type) (others ++ all) i b.at in
        let at = member_at s' t' i b.alternative.type (ap (λ y. slice_get y i) q ∙ other) in
        let r = newer (ms i a.type b.alternative.type one other) b.type d (subst (λ y. ValueIn s m y w) (same_choice (root ++ more) i h g) v) z in
        newer_at (ap (λ y. alternative i (lifted s' y w)) (sym at)) refl
        (record { holds = choice b.at r.says_it; few = r.few })
    holds_newer t' q ms kind (sequence p u) (of_leaf f) sound z = elim f [ ]
    holds_newer t' q ms kind (set p pe st u mg) (of_leaf f) sound z = elim f [ ]
    holds_newer t' q ms kind (sequence_of es) (of_leaf f) sound z = elim f [ ]
    holds_newer t' q ms kind (set_of es st) (of_leaf f) sound z = elim f [ ]
    holds_newer t' q ms kind (choice g d) (of_leaf f) sound z = elim f [ ]

    members_newer : {r : Rules} {cs ds : List Component} {ws : Row} {j m : ℕ} {xs : List (List ℕ)} → Beside s s' cs ds → (ms : Members s r cs ws j xs) → AreComponents s m cs ws → j ≡ 0 → AllByRecursion (λ c. c.type < length s') ds → MembersNewer s' r ds (lifted_row s' (types ds) ws) xs (member_levels ms)
    members_newer (appended {ds = ds} a) no_member v z th = no_members ds a
    members_newer (beside {c = c} {d = d} l mk b) (is_absent f ms) (component_absent mb v) z th =
        let r = members_newer b ms v z th.1 in
        record { members = is_absent (sym (mandatory_same c d mk) ∙ f) r.members; few = r.few }
    members_newer {r = rules} (beside {c = c} {d = d} l mk b) (member {w = w} x st ms) (component_present y v) z th =
        let h = type_there s' d.type th.0 in
        let one = newer l h x y (omega (arith, z)) in
        let r = members_newer b ms v (omega (arith, z)) th.1 in
        let few = one.few in
        let rest = r.few in
        record {
          members = member one.says_it (strictly rules (λ f e q. f (omega (arith, z)) (default_before c d l h mk y q)) st) r.members;
          few = omega (arith, few, rest);
        }

    elements_newer : {r : Rules} {u u' n m : ℕ} {ws : Row} {xs : List (List ℕ)} → Later s u s' u' → HasType s' u' → (es : Elements s r u ws n xs) → AreElements s m u ws → n ≡ 0 → ElementsNewer s' r u' (lifted_elements s' u' ws) xs (element_levels es)
    elements_newer l h no_element v z = record { elements = no_element; few = omega arith }
    elements_newer l h (element x es) (one_element y v) z =
        let one = newer l h x y (omega (arith, z)) in
        let r = elements_newer l h es v (omega (arith, z)) in
        let few = one.few in
        let rest = r.few in
        record { elements = element one.says_it r.elements; few = omega (arith, few, rest) }
