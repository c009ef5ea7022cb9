-- Components of two versions side by side, with what packed encodings see of them.
use Rattle.std.proofs.Common.{arith, ◌≡◌, ◌↔◌, ℕ, suc, ◌+◌, ◌<◌, ◌≤◌, Bool, true, false, List, [], ◌∷◌, ◌++◌, length, refl, sym, ap, subst, ◌∙◌}
use Rattle.std.proofs.lemmas.Bool.{eqb-true, eq-eqb}
use Rattle.std.specs.Prelude.{slice_get, Option, Some, None, ◌==◌}
use Rattle.std.specs.List.{AllByRecursion}
use Rattle.asn_base.specs.Abstract.{AbstractValue, Row, end, absent, present}
use Rattle.asn_base.specs.Types.{Presence, mandatory, optional, default, addition, Component, Resolved}
use Rattle.asn_base.specs.Typed.{group_of, AreComponents, no_component, component_absent, component_present}
use Rattle.asn_base.specs.Schemas.{HasValue, AreListed, is_addition}
use Rattle.later_versions.specs.Later.{IsMarkedAlike, both_mandatory, both_optional, both_default, both_additions, IsSameComponent, AreInOneGroup, Later}
use Rattle.asn_base.specs.Order.{outermost, tag_at}
use Rattle.packed_encodings.specs.Orders.{has_bit, Member, missing, standing, component, Beside, beside_none, beside_absent, beside_present, root_members, past_marker, Addition, additions}
use Rattle.version_laws.specs.LeftOut.{members_in, present_additions}
use Rattle.version_laws.proofs.Beside.{later_here, LaterMembers, types, AreAdditions}
use Rattle.version_laws.proofs.Apart.{HasType, type_there}
use Rattle.version_laws.proofs.Back.{is_there}
use Rattle.version_laws.proofs.PackedPairs.{OfValues, Matched, both_missing, both_sides_present, AllMatched, none_matched, more_matched, AdditionsMatched, only_more, grouped, joins, some_group, joined_by, one_more_addition, root_step, after_step}

-- ---- tags and marks

tag_there : (s : List Resolved) (t : ℕ) (h : HasType s t) → tag_at s t ≡ outermost h.0.tags
tag_there s t h = ap (λ q. elim q [ None ↦ None | Some r ↦ outermost r.tags ]) h.1

pub tag_same : (s s' : List Resolved) (t t' : ℕ) → Later s t s' t' → HasType s t → HasType s' t' → tag_at s t ≡ tag_at s' t'
tag_same s s' t t' l h h' = tag_there s t h ∙ ap outermost (later_here l (is_there h) (is_there h')).tags ∙ sym (tag_there s' t' h')

pub bit_same : {s : List Resolved} {t : ℕ} {p q : Presence} → IsMarkedAlike s t p q → has_bit p ≡ has_bit q
bit_same both_mandatory = refl
bit_same both_optional = refl
bit_same (both_default z e) = refl
bit_same both_additions = refl

abbrev adds : Presence → Bool
adds p = elim p [ mandatory ↦ false | optional ↦ false | default d ↦ false | addition o g ↦ true ]

adds_same : {s : List Resolved} {t : ℕ} {p q : Presence} → IsMarkedAlike s t p q → adds p ≡ adds q
adds_same both_mandatory = refl
adds_same both_optional = refl
adds_same (both_default z e) = refl
adds_same both_additions = refl

-- components at one place of both versions
pub record IsAligned (s s' : List Resolved) (c d : Component) : Type 0 where
  pub later : Later s c.type s' d.type
  pub mark : IsMarkedAlike s c.type c.presence d.presence
  pub before : HasType s c.type
  pub after : HasType s' d.type
  pub value : HasValue s' d

pub aligned_tag : {s s' : List Resolved} (c d : Component) → IsAligned s s' c d → tag_at s c.type ≡ tag_at s' d.type
aligned_tag {s} {s'} c d a = tag_same s s' c.type d.type a.later a.before a.after

addition_same : {s s' : List Resolved} {c d : Component} → IsAligned s s' c d → is_addition c ≡ is_addition d
addition_same a = adds_same a.mark

-- components of both versions, with their version brackets, before those that were appended
pub data Lined (s s' : List Resolved) : List Component → List Component → Type 0 where
  lined_end : {ds : List Component} → AreAdditions ds → Lined s s' [] ds
  lined : {c d : Component} {cs ds : List Component}
      → IsAligned s s' c d
      → grouped c ≡ grouped d
      → joins c cs ≡ joins d ds
      → Lined s s' cs ds
      → Lined s s' (c ∷ cs) (d ∷ ds)

-- ---- version brackets

first_is : {c x : Component} (cs : List Component) → slice_get (c ∷ cs) 0 ≡ Some x → c ≡ x
first_is cs e = cc

second_is : {d x : Component} (c : Component) (cs : List Component) → slice_get (c ∷ d ∷ cs) 1 ≡ Some x → d ≡ x
second_is c cs e = cc

in_group : (c : Component) (cs : List Component) (g : ℕ) → group_of c.presence ≡ Some g → AreInOneGroup (c ∷ cs) 0 0
in_group c cs g e = record { group = g; first = c; second = c; at_first = refl; at_second = refl; of_first = e; of_second = e }

group_there : {c : Component} {cs : List Component} {j : ℕ} (a : AreInOneGroup (c ∷ cs) 0 j) → group_of c.presence ≡ Some a.group
group_there {cs = cs} a = ap (λ q. group_of q.presence) (first_is cs a.at_first) ∙ a.of_first

grouped_same : (c d : Component) (cs ds : List Component) → (AreInOneGroup (c ∷ cs) 0 0 ↔ AreInOneGroup (d ∷ ds) 0 0) → grouped c ≡ grouped d
grouped_same c d cs ds f = by (group_of c.presence) (group_of d.presence) refl refl
  where
    by : (g h : Option ℕ) → group_of c.presence ≡ g → group_of d.presence ≡ h → some_group g ≡ some_group h
    by None None e z = refl
    by (Some x) (Some y) e z = refl
    by None (Some y) e z = absurd (let a = group_there (f.1 (in_group d ds y z)) in cc)
    by (Some x) None e z = absurd (let a = group_there (f.0 (in_group c cs x e)) in cc)

joins_is : (c x : Component) (cs : List Component) → joins c (x ∷ cs) ≡ true → AreInOneGroup (c ∷ x ∷ cs) 0 1
joins_is c x cs t = by (group_of c.presence) (group_of x.presence) refl refl t
  where
    by : (g h : Option ℕ) → group_of c.presence ≡ g → group_of x.presence ≡ h → joined_by g h ≡ true → AreInOneGroup (c ∷ x ∷ cs) 0 1
    by None h e f t = absurd (let z : false ≡ true = t in cc)
    by (Some a) None e f t = absurd (let z : false ≡ true = t in cc)
    by (Some a) (Some b) e f t = record { group = a; first = c; second = x; at_first = refl; at_second = refl; of_first = e; of_second = f ∙ ap (λ q. Some q) (sym (eqb-true a b t)) }

is_joins : (c x : Component) (cs : List Component) → AreInOneGroup (c ∷ x ∷ cs) 0 1 → joins c (x ∷ cs) ≡ true
is_joins c x cs a =
    let e = group_there a in
    let f = ap (λ q. group_of q.presence) (second_is c cs a.at_second) ∙ a.of_second in
    ap (λ g. elim g [ None ↦ false | Some m ↦ elim (group_of x.presence) [ None ↦ false | Some n ↦ m == n ] ]) e
    ∙ ap (λ h. elim h [ None ↦ false | Some n ↦ a.group == n ]) f
    ∙ eq-eqb a.group a.group refl

bools : (a b : Bool) → (a ≡ true → b ≡ true) → (b ≡ true → a ≡ true) → a ≡ b
bools true b f g = sym (f refl)
bools false true f g = g refl
bools false false f g = refl

joins_same : (c d : Component) (cs ds : List Component) → length cs ≤ length ds
    → ((i j : ℕ) → i < length (c ∷ cs) → j < length (c ∷ cs) → (AreInOneGroup (c ∷ cs) i j ↔ AreInOneGroup (d ∷ ds) i j))
    → ((i j : ℕ) → i < length (c ∷ cs) → length (c ∷ cs) ≤ j → AreInOneGroup (d ∷ ds) i j → ⊥)
    → joins c cs ≡ joins d ds
joins_same c d [] [] l f w = refl
joins_same c d [] (y ∷ ds) l f w = bools false (joins d (y ∷ ds)) (λ e. absurd (let z : false ≡ true = e in cc)) (λ e. absurd (w 0 1 (omega arith) (omega arith) (joins_is d y ds e)))
joins_same c d (x ∷ cs) [] l f w = absurd (omega (arith, l))
joins_same c d (x ∷ cs) (y ∷ ds) l f w =
    let g = f 0 1 (omega arith) (omega arith) in
    bools (joins c (x ∷ cs)) (joins d (y ∷ ds)) (λ e. is_joins d y ds (g.0 (joins_is c x cs e))) (λ e. is_joins c x cs (g.1 (joins_is d y ds e)))

further : {c : Component} {cs : List Component} {i j : ℕ} → AreInOneGroup cs i j → AreInOneGroup (c ∷ cs) (suc i) (suc j)
further a = record { group = a.group; first = a.first; second = a.second; at_first = a.at_first; at_second = a.at_second; of_first = a.of_first; of_second = a.of_second }

nearer : {c : Component} {cs : List Component} {i j : ℕ} → AreInOneGroup (c ∷ cs) (suc i) (suc j) → AreInOneGroup cs i j
nearer a = record { group = a.group; first = a.first; second = a.second; at_first = a.at_first; at_second = a.at_second; of_first = a.of_first; of_second = a.of_second }

all_additions : (ds : List Component) → ((i : ℕ) (d : Component) → slice_get ds i ≡ Some d → is_addition d ≡ true) → AreAdditions ds
all_additions [] h = tt
all_additions (d ∷ ds) h = (h 0 d refl, all_additions ds (λ i x e. h (suc i) x e))

pub lined_of : {s s' : List Resolved} (cs ds : List Component) → length cs ≤ length ds
    → ((i : ℕ) (c d : Component) → slice_get cs i ≡ Some c → slice_get ds i ≡ Some d → IsSameComponent s c d)
    → ((i : ℕ) (d : Component) → length cs ≤ i → slice_get ds i ≡ Some d → is_addition d ≡ true)
    → ((i j : ℕ) → i < length cs → j < length cs → (AreInOneGroup cs i j ↔ AreInOneGroup ds i j))
    → ((i j : ℕ) → i < length cs → length cs ≤ j → AreInOneGroup ds i j → ⊥)
    → LaterMembers s s' (types cs) (types ds)
    → AllByRecursion (λ c. c.type < length s) cs
    → AllByRecursion (λ d. d.type < length s') ds
    → AllByRecursion (HasValue s') ds
    → Lined s s' cs ds
lined_of [] ds l k a f w m th th' has = lined_end (all_additions ds (λ i d e. a i d (omega arith) e))
lined_of (c ∷ cs) [] l k a f w m th th' has = absurd (omega (arith, l))
lined_of {s} {s'} (c ∷ cs) (d ∷ ds) l k a f w m th th' has = lined
    (record { later = m 0 c.type d.type refl refl; mark = (k 0 c d refl refl).mark; before = type_there s c.type th.0; after = type_there s' d.type th'.0; value = has.0 })
    (grouped_same c d cs ds (f 0 0 (omega arith) (omega arith)))
    (joins_same c d cs ds (omega (arith, l)) f w)
    (lined_of cs ds (omega (arith, l)) (λ i x y e g. k (suc i) x y e g) (λ i x q e. a (suc i) x (omega (arith, q)) e)
    (λ i j p q. (let g = f (suc i) (suc j) (omega (arith, p)) (omega (arith, q)) in (λ x. nearer (g.0 (further x)), λ x. nearer (g.1 (further x)))))
    (λ i j p q x. w (suc i) (suc j) (omega (arith, p)) (omega (arith, q)) (further x))
    (λ i u v e g. m (suc i) u v e g) th.1 th'.1 has.1)

-- ---- the root before additions

pub data RootFirst : List Component → Type 0 where
  additions_left : {ds : List Component} → AreAdditions ds → RootFirst ds
  one_of_root : {d : Component} {ds : List Component} → is_addition d ≡ false → RootFirst ds → RootFirst (d ∷ ds)

root_first : (root more : List Component) → AllByRecursion (λ c. is_addition c ≡ false) root → AreAdditions more → RootFirst (root ++ more)
root_first [] more a b = additions_left b
root_first (c ∷ root) more a b = one_of_root a.0 (root_first root more a.1 b)

pub listed_first : {s : List Resolved} {e : Bool} {ds : List Component} → AreListed s e ds → RootFirst ds
listed_first l = subst RootFirst (sym l.parts) (root_first l.root l.more l.in_root l.behind)

-- ---- rows

-- The rows of both versions. V holds of the values at one place and a number. The sum of these numbers and of the
-- present additions that were appended is k.
pub data Sides (s s' : List Resolved) (V : OfValues) : List Component → List Component → Row → Row → ℕ → Type 0 where
  side_end : {ds : List Component} {ws : Row} {k : ℕ} → k ≡ present_additions (additions (members_in ds ws)) → Sides s s' V [] ds end ws k
  side_absent : {c d : Component} {cs ds : List Component} {vs ws : Row} {k : ℕ}
      → Sides s s' V cs ds vs ws k
      → Sides s s' V (c ∷ cs) (d ∷ ds) (absent vs) (absent ws) k
  side_present : {c d : Component} {cs ds : List Component} {v w : AbstractValue} {vs ws : Row} {i j k : ℕ}
      → V c d v w i
      → Sides s s' V cs ds vs ws j
      → k ≡ i + j
      → Sides s s' V (c ∷ cs) (d ∷ ds) (present v vs) (present w ws) k

pub members_are_in : {cs : List Component} {vs : Row} {ms : List (Member AbstractValue)} → Beside cs vs ms → ms ≡ members_in cs vs
members_are_in beside_none = refl
members_are_in (beside_absent {c = c} b) = ap (λ q. missing c ∷ q) (members_are_in b)
members_are_in (beside_present {c = c} {w = w} b) = ap (λ q. standing c w ∷ q) (members_are_in b)

pub beside_row : {s : List Resolved} {n : ℕ} {cs : List Component} {vs : Row} → AreComponents s n cs vs → (ms : List (Member AbstractValue)) × Beside cs vs ms
beside_row no_component = ([], beside_none)
beside_row (component_absent {c = c} mb v) = let r = beside_row v in (missing c ∷ r.0, beside_absent r.1)
beside_row (component_present {c = c} {v = x} y v) = let r = beside_row v in (standing c x ∷ r.0, beside_present r.1)

abbrev pub Members : Type 0
Members = List (Member AbstractValue)

-- the members of the root and the additions of both versions, with the appended additions
pub record Parts (s s' : List Resolved) (V : OfValues) (ms ns : Members) (k : ℕ) : Type 0 where
  pub more : List (Addition AbstractValue)
  pub in_root : ℕ
  pub in_additions : ℕ
  pub root : AllMatched (IsAligned s s') V (root_members ms) (root_members ns) in_root
  pub added : AdditionsMatched (IsAligned s s') V (additions (past_marker ms)) (additions (past_marker ns)) more in_additions
  pub count : in_root + (in_additions + present_additions more) ≡ k

record AdditionParts (s s' : List Resolved) (V : OfValues) (ms ns : Members) (k : ℕ) : Type 0 where
  more : List (Addition AbstractValue)
  in_additions : ℕ
  added : AdditionsMatched (IsAligned s s') V (additions ms) (additions ns) more in_additions
  count : in_additions + present_additions more ≡ k

only_additions : {ds : List Component} {ws : Row} {ns : Members} → AreAdditions ds → Beside ds ws ns → (root_members ns ≡ []) × (past_marker ns ≡ ns)
only_additions a beside_none = (refl, refl)
only_additions a (beside_absent {c = c} {ms = ms} b) =
    let r = only_additions a.1 b in
    let p = after_step (missing c) ms a.0 in
    (p.0 ∙ r.0, p.1 ∙ ap (λ q. missing c ∷ q) r.1)
only_additions a (beside_present {c = c} {w = w} {ms = ms} b) =
    let r = only_additions a.1 b in
    let p = after_step (standing c w) ms a.0 in
    (p.0 ∙ r.0, p.1 ∙ ap (λ q. standing c w ∷ q) r.1)

additions_before : {s s' : List Resolved} {cs ds : List Component} → Lined s s' cs ds → AreAdditions ds → AreAdditions cs
additions_before (lined_end a) b = tt
additions_before (lined al g j l) b = (addition_same al ∙ b.0, additions_before l b.1)

module _ {s s' : List Resolved} {V : OfValues} where
  addition_parts : {cs ds : List Component} {vs ws : Row} {ms ns : Members} {k : ℕ} → Lined s s' cs ds → Sides s s' V cs ds vs ws k → Beside cs vs ms → Beside ds ws ns → AdditionParts s s' V ms ns k
  addition_parts {ns = ns} (lined_end a) (side_end e) beside_none b' = record {
    more = additions ns;
    in_additions = 0;
    added = only_more refl;
    count = (let f = ap (λ q. present_additions (additions q)) (members_are_in b') in omega (arith, e, f));
  }
  addition_parts (lined al g j l) (side_absent p) (beside_absent b) (beside_absent b') =
      let r = addition_parts l p b b' in
      record { more = r.more; in_additions = r.in_additions; added = one_more_addition (both_missing al) g j b b' r.added (omega arith); count = r.count }
  addition_parts (lined al g j l) (side_present {i = i} v p e) (beside_present b) (beside_present b') =
      let r = addition_parts l p b b' in
      let f = r.count in
      record { more = r.more; in_additions = i + r.in_additions; added = one_more_addition (both_sides_present al v) g j b b' r.added refl; count = omega (arith, e, f) }

  -- one more member of the root on both sides
  one_more_part : {m n : Member AbstractValue} {ms ns : Members} {i j k : ℕ} → Matched (IsAligned s s') V m n i → is_addition (component m) ≡ false → is_addition (component n) ≡ false → k ≡ i + j → Parts s s' V ms ns j → Parts s s' V (m ∷ ms) (n ∷ ns) k
  one_more_part {m} {n} {ms} {ns} {i} a e f g r =
      let p = root_step m ms e in
      let q = root_step n ns f in
      let h = r.count in
      record {
        more = r.more;
        in_root = i + r.in_root;
        in_additions = r.in_additions;
        root = subst (λ x. AllMatched (IsAligned s s') V x (root_members (n ∷ ns)) (i + r.in_root)) (sym p.0) (subst (λ x. AllMatched (IsAligned s s') V (m ∷ root_members ms) x (i + r.in_root)) (sym q.0) (more_matched a r.root refl));
        added = subst (λ x. AdditionsMatched (IsAligned s s') V (additions x) (additions (past_marker (n ∷ ns))) r.more r.in_additions) (sym p.1) (subst (λ x. AdditionsMatched (IsAligned s s') V (additions (past_marker ms)) (additions x) r.more r.in_additions) (sym q.1) r.added);
        count = omega (arith, g, h);
      }

  pub parts : {cs ds : List Component} {vs ws : Row} {ms ns : Members} {k : ℕ} → RootFirst ds → Lined s s' cs ds → Sides s s' V cs ds vs ws k → Beside cs vs ms → Beside ds ws ns → Parts s s' V ms ns k
  parts {ms = ms} {ns = ns} (additions_left a) l p b b' =
      let r = addition_parts l p b b' in
      let x = only_additions (additions_before l a) b in
      let y = only_additions a b' in
      let f = r.count in
      record {
        more = r.more;
        in_root = 0;
        in_additions = r.in_additions;
        root = subst (λ q. AllMatched (IsAligned s s') V q (root_members ns) 0) (sym x.0) (subst (λ q. AllMatched (IsAligned s s') V [] q 0) (sym y.0) (none_matched refl));
        added = subst (λ q. AdditionsMatched (IsAligned s s') V (additions q) (additions (past_marker ns)) r.more r.in_additions) (sym x.1) (subst (λ q. AdditionsMatched (IsAligned s s') V (additions ms) (additions q) r.more r.in_additions) (sym y.1) r.added);
        count = omega (arith, f);
      }
  parts (one_of_root f o) (lined_end a) p b b' = absurd (let g = a.0 in let z : false ≡ true = sym f ∙ g in cc)
  parts (one_of_root f o) (lined al g j l) (side_absent p) (beside_absent b) (beside_absent b') =
      one_more_part (both_missing al) (addition_same al ∙ f) f (omega arith) (parts o l p b b')
  parts (one_of_root f o) (lined al g j l) (side_present v p e) (beside_present b) (beside_present b') =
      one_more_part (both_sides_present al v) (addition_same al ∙ f) f e (parts o l p b b')
