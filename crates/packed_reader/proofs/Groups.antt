-- Groups of additions that were read are whole.
use Rattle.std.proofs.Common.{◌≡◌, ℕ, ◌⊎◌, inl, inr, ◌||◌, Bool, true, false, List, [], ◌∷◌, ◌++◌, map, Option, Some, None, refl, sym, ap, subst, ◌∙◌}
use Rattle.std.specs.Prelude.{if◌then◌else◌, ◌==◌}
use Rattle.std.proofs.lemmas.Bool.{eqb-true, eq-eqb}
use Rattle.std.specs.List.{AllByRecursion}
use Rattle.asn_base.specs.Abstract.{AbstractValue, Row}
use Rattle.asn_base.specs.Types.{Component, Resolved, Presence, mandatory, optional, default, addition}
use Rattle.asn_base.specs.Typed.{group_of, IsOfGroup, HasOfGroup, LacksOfGroup, GroupsAreWhole}
use Rattle.asn_base.specs.Schemas.{is_addition, GroupsTogether, AreListed}
use Rattle.packed_encodings.specs.Lengths.{Bits}
use Rattle.packed_encodings.specs.Orders.{Member, missing, standing, component, is_present, any_present, has_bit, Beside, beside_none, beside_absent, beside_present, past_marker, Addition, alone, bracketed, is_of_group, in_front, additions}
use Rattle.packed_encodings.specs.Packing.{Form, MembersPer, no_member, must_be_present, may_be_present, is_missing, Additions, no_addition, added, not_added, group, no_group}
use Rattle.packed_encodings.specs.proving.Groups.{HasOf, LacksOf}
use Rattle.packed_reader.proofs.Opening.{not_true}

abbrev Given : Type 0
Given = Member AbstractValue

has_from : (g : ℕ) {cs : List Component} {ws : Row} {ms : List Given} → Beside cs ws ms → HasOfGroup g cs ws → HasOf g ms
has_from g beside_none h = h
has_from g (beside_absent a) h = has_from g a h
has_from g (beside_present a) (inl h) = inl h
has_from g (beside_present a) (inr h) = inr (has_from g a h)

lacks_from : (g : ℕ) {cs : List Component} {ws : Row} {ms : List Given} → Beside cs ws ms → LacksOfGroup g cs ws → LacksOf g ms
lacks_from g beside_none h = h
lacks_from g (beside_absent a) (inl h) = inl h
lacks_from g (beside_absent a) (inr h) = inr (lacks_from g a h)
lacks_from g (beside_present a) h = lacks_from g a h

grouped : (p : Presence) (g : ℕ) → group_of p ≡ Some g → elim p [ mandatory ↦ false | optional ↦ false | default d ↦ false | addition o g ↦ true ] ≡ true
grouped mandatory g e = absurd (cc)
grouped optional g e = absurd (cc)
grouped (default d) g e = absurd (cc)
grouped (addition o h) g e = refl

has_past_marker : (g : ℕ) (ms : List Given) → HasOf g ms → HasOf g (past_marker ms)
has_past_marker g [] h = elim h [ ]
has_past_marker g (missing c ∷ ms) h = by (is_addition c) (has_past_marker g ms h)
  where
    by : (b : Bool) → HasOf g (past_marker ms) → HasOf g (if b then missing c ∷ past_marker ms else past_marker ms)
    by true r = r
    by false r = r
has_past_marker g (standing c w ∷ ms) (inl h) = subst (λ b. HasOf g (if b then standing c w ∷ past_marker ms else past_marker ms)) (sym (grouped c.presence g h)) (inl h)
has_past_marker g (standing c w ∷ ms) (inr h) = by (is_addition c) (has_past_marker g ms h)
  where
    by : (b : Bool) → HasOf g (past_marker ms) → HasOf g (if b then standing c w ∷ past_marker ms else past_marker ms)
    by true r = inr r
    by false r = r

lacks_past_marker : (g : ℕ) (ms : List Given) → LacksOf g ms → LacksOf g (past_marker ms)
lacks_past_marker g [] h = elim h [ ]
lacks_past_marker g (missing c ∷ ms) (inl h) = subst (λ b. LacksOf g (if b then missing c ∷ past_marker ms else past_marker ms)) (sym (grouped c.presence g (ap group_of h))) (inl h)
lacks_past_marker g (missing c ∷ ms) (inr h) = by (is_addition c) (lacks_past_marker g ms h)
  where
    by : (b : Bool) → LacksOf g (past_marker ms) → LacksOf g (if b then missing c ∷ past_marker ms else past_marker ms)
    by true r = inr r
    by false r = r
lacks_past_marker g (standing c w ∷ ms) h = by (is_addition c) (lacks_past_marker g ms h)
  where
    by : (b : Bool) → LacksOf g (past_marker ms) → LacksOf g (if b then standing c w ∷ past_marker ms else past_marker ms)
    by true r = r
    by false r = r

-- ---- each group by itself

abbrev WholeOne : Addition AbstractValue → Type 0
WholeOne (alone m) = Unit {0}
WholeOne (bracketed ms) = any_present ms ≡ true → (g : ℕ) → LacksOf g ms → ⊥

none_lacks : {s : List Resolved} {f : Form} {ms : List Given} {j : ℕ} {p b : Bits} (g : ℕ) → MembersPer s f ms j p b → LacksOf g ms → ⊥
none_lacks g no_member h = h
none_lacks g (must_be_present h a m) l = none_lacks g m l
none_lacks g (may_be_present h a d m) l = none_lacks g m l
none_lacks g (is_missing h m) (inl e) = not_true (sym (ap has_bit e) ∙ h)
none_lacks g (is_missing h m) (inr l) = none_lacks g m l

additions_whole : {s : List Resolved} {f : Form} {as' : List (Addition AbstractValue)} {j : ℕ} {q d : Bits} → Additions s f as' j q d → AllByRecursion WholeOne as'
additions_whole no_addition = tt
additions_whole (added a o r) = (tt, additions_whole r)
additions_whole (not_added r) = (tt, additions_whole r)
additions_whole (group h m o r) = ((λ e g. none_lacks g m), additions_whole r)
additions_whole (no_group h r) = ((λ e g l. not_true (sym h ∙ e)), additions_whole r)

-- ---- groups among additions

-- the first addition is a group that holds all of group g
record FirstOf (g : ℕ) (xs : List Given) : Type 0 where
  first : Given
  others : List Given
  behind : List (Addition AbstractValue)
  is : additions xs ≡ bracketed (first ∷ others) ∷ behind
  of : is_of_group g first ≡ true
  has : HasOf g xs → any_present (first ∷ others) ≡ true
  lacks : LacksOf g xs → LacksOf g (first ∷ others)

of_group : (g : ℕ) (m : Given) → IsOfGroup g (component m) → is_of_group g m ≡ true
of_group g m e = ap (λ q. elim q [ None ↦ false | Some h ↦ g == h ]) e ∙ eq-eqb g g refl

-- a member in a group comes first in it
record Fronted (g : ℕ) (m : Given) (ds : List (Addition AbstractValue)) : Type 0 where
  others : List Given
  behind : List (Addition AbstractValue)
  is : in_front (Some g) m ds ≡ bracketed (m ∷ others) ∷ behind

fronted : (g : ℕ) (m : Given) (ds : List (Addition AbstractValue)) → Fronted g m ds
fronted g m [] = record { others = []; behind = []; is = refl }
fronted g m (alone n ∷ ds) = record { others = []; behind = alone n ∷ ds; is = refl }
fronted g m (bracketed [] ∷ ds) = record { others = []; behind = bracketed [] ∷ ds; is = refl }
fronted g m (bracketed (n ∷ ns) ∷ ds) = by (is_of_group g n) refl
  where
    by : (b : Bool) → is_of_group g n ≡ b → Fronted g m (bracketed (n ∷ ns) ∷ ds)
    by true e = record { others = n ∷ ns; behind = ds; is = ap (λ q. if q then bracketed (m ∷ (n ∷ ns)) ∷ ds else bracketed (m ∷ []) ∷ (bracketed (n ∷ ns) ∷ ds)) e }
    by false e = record { others = []; behind = bracketed (n ∷ ns) ∷ ds; is = ap (λ q. if q then bracketed (m ∷ (n ∷ ns)) ∷ ds else bracketed (m ∷ []) ∷ (bracketed (n ∷ ns) ∷ ds)) e }

none_has : (g : ℕ) (xs : List Given) → AllByRecursion (λ c. IsOfGroup g c → ⊥) (map component xs) → HasOf g xs → ⊥
none_has g [] n h = elim h [ ]
none_has g (missing c ∷ xs) n h = none_has g xs n.1 h
none_has g (standing c w ∷ xs) n (inl h) = n.0 h
none_has g (standing c w ∷ xs) n (inr h) = none_has g xs n.1 h

none_lacking : (g : ℕ) (xs : List Given) → AllByRecursion (λ c. IsOfGroup g c → ⊥) (map component xs) → LacksOf g xs → ⊥
none_lacking g [] n h = elim h [ ]
none_lacking g (missing c ∷ xs) n (inl h) = n.0 (ap group_of h)
none_lacking g (missing c ∷ xs) n (inr h) = none_lacking g xs n.1 h
none_lacking g (standing c w ∷ xs) n h = none_lacking g xs n.1 h

-- in front of members of which those of the group, if any, are at hand
has_more : (g : ℕ) (m : Given) (xs ys : List Given) → (HasOf g xs → any_present ys ≡ true) → HasOf g (m ∷ xs) → any_present (m ∷ ys) ≡ true
has_more g (missing c) xs ys r h = r h
has_more g (standing c w) xs ys r h = refl

lacks_more : (g : ℕ) (m : Given) (xs ys : List Given) → (LacksOf g xs → LacksOf g ys) → LacksOf g (m ∷ xs) → LacksOf g (m ∷ ys)
lacks_more g (missing c) xs ys r (inl h) = inl h
lacks_more g (missing c) xs ys r (inr h) = inr (r h)
lacks_more g (standing c w) xs ys r h = r h

first_alone : (g : ℕ) (m : Given) (xs : List Given) → IsOfGroup g (component m) → (HasOf g xs → ⊥) → (LacksOf g xs → ⊥) → FirstOf g (m ∷ xs)
first_alone g m xs e h k =
    let f = fronted g m (additions xs) in
    record {
      first = m;
      others = f.others;
      behind = f.behind;
      is = ap (λ q. in_front q m (additions xs)) e ∙ f.is;
      of = of_group g m e;
      has = has_more g m xs f.others (λ q. absurd (h q));
      lacks = lacks_more g m xs f.others (λ q. absurd (k q));
    }

first_of : (g : ℕ) (m : Given) (xs : List Given) → IsOfGroup g (component m) → GroupsTogether (component m ∷ map component xs) → FirstOf g (m ∷ xs)
first_of g m [] e t = first_alone g m [] e (λ h. h) (λ h. h)
first_of g m (n ∷ xs) e t = by (t.0 g e) (λ h. first_of g n xs h t.1)
  where
    by : IsOfGroup g (component n) ⊎ AllByRecursion (λ b. IsOfGroup g b → ⊥) (component n ∷ map component xs) → (IsOfGroup g (component n) → FirstOf g (n ∷ xs)) → FirstOf g (m ∷ (n ∷ xs))
    by (inl h) r =
        let f = r h in
        record {
          first = m;
          others = f.first ∷ f.others;
          behind = f.behind;
          is = ap (λ q. in_front q m (additions (n ∷ xs))) e ∙ ap (in_front (Some g) m) f.is ∙ ap (λ q. if q then bracketed (m ∷ (f.first ∷ f.others)) ∷ f.behind else bracketed (m ∷ []) ∷ (bracketed (f.first ∷ f.others) ∷ f.behind)) f.of;
          of = of_group g m e;
          has = has_more g m (n ∷ xs) (f.first ∷ f.others) f.has;
          lacks = lacks_more g m (n ∷ xs) (f.first ∷ f.others) f.lacks;
        }
    by (inr h) r = first_alone g m (n ∷ xs) e (none_has g (n ∷ xs) h) (none_lacking g (n ∷ xs) h)

in_front_whole : (o : Option ℕ) (m : Given) (ds : List (Addition AbstractValue)) → AllByRecursion WholeOne (in_front o m ds) → AllByRecursion WholeOne ds
in_front_whole None m ds w = w.1
in_front_whole (Some h) m [] w = tt
in_front_whole (Some h) m (alone n ∷ ds) w = w.1
in_front_whole (Some h) m (bracketed [] ∷ ds) w = w.1
in_front_whole (Some h) m (bracketed (n ∷ ns) ∷ ds) w = by (is_of_group h n) w
  where
    or_true : (a b : Bool) → b ≡ true → a || b ≡ true
    or_true true b e = refl
    or_true false b e = e

    by : (b : Bool) → AllByRecursion WholeOne (if b then bracketed (m ∷ (n ∷ ns)) ∷ ds else bracketed (m ∷ []) ∷ (bracketed (n ∷ ns) ∷ ds)) → AllByRecursion WholeOne (bracketed (n ∷ ns) ∷ ds)
    by true w = ((λ e g l. w.0 (or_true (is_present m) (any_present (n ∷ ns)) e) g (more m g l)), w.1)
      where
        more : (m : Given) (g : ℕ) → LacksOf g (n ∷ ns) → LacksOf g (m ∷ (n ∷ ns))
        more (missing c) g l = inr l
        more (standing c u) g l = l
    by false w = w.1

others_together : (c : Component) (cs : List Component) → GroupsTogether (c ∷ cs) → GroupsTogether cs
others_together c [] t = tt
others_together c (d ∷ cs) t = t.1

-- not of the group
past_has : (g : ℕ) (m : Given) (xs : List Given) → (IsOfGroup g (component m) → ⊥) → HasOf g (m ∷ xs) → HasOf g xs
past_has g (missing c) xs n h = h
past_has g (standing c w) xs n (inl h) = absurd (n h)
past_has g (standing c w) xs n (inr h) = h

past_lacks : (g : ℕ) (m : Given) (xs : List Given) → (IsOfGroup g (component m) → ⊥) → LacksOf g (m ∷ xs) → LacksOf g xs
past_lacks g (missing c) xs n (inl h) = absurd (n (ap group_of h))
past_lacks g (missing c) xs n (inr h) = h
past_lacks g (standing c w) xs n h = h

is_group_or : (g : ℕ) (o : Option ℕ) → (o ≡ Some g) ⊎ (o ≡ Some g → ⊥)
is_group_or g None = inr (λ e. absurd (cc))
is_group_or g (Some h) = by (h == g) refl
  where
    one : Some h ≡ Some g → h ≡ g
    one e = cc

    by : (b : Bool) → (h == g) ≡ b → (Some h ≡ Some g) ⊎ (Some h ≡ Some g → ⊥)
    by true e = inl (ap Some (eqb-true h g e))
    by false e = inr (λ k. not_true (sym e ∙ eq-eqb h g (one k)))

groups : (xs : List Given) → GroupsTogether (map component xs) → AllByRecursion WholeOne (additions xs) → (g : ℕ) → HasOf g xs → LacksOf g xs → ⊥
groups [] t w g h k = h
groups (m ∷ xs) t w g h k = by (is_group_or g (group_of (component m).presence)) (λ n. groups xs (others_together (component m) (map component xs) t) (in_front_whole (group_of (component m).presence) m (additions xs) w) g (past_has g m xs n h) (past_lacks g m xs n k))
  where
    by : IsOfGroup g (component m) ⊎ (IsOfGroup g (component m) → ⊥) → ((IsOfGroup g (component m) → ⊥) → ⊥) → ⊥
    by (inr n) r = r n
    by (inl e) r =
        let f = first_of g m xs e t in
        let v = subst (AllByRecursion WholeOne) f.is w in
        v.0 (f.has h) g (f.lacks k)

-- ---- the components after the marker

components_of : {cs : List Component} {ws : Row} {ms : List Given} → Beside cs ws ms → map component ms ≡ cs
components_of beside_none = refl
components_of (beside_absent {c = c} a) = ap (λ q. c ∷ q) (components_of a)
components_of (beside_present {c = c} a) = ap (λ q. c ∷ q) (components_of a)

heads_same : {X : Type 0} {x y : X} {xs ys : List X} → x ∷ xs ≡ y ∷ ys → (x ≡ y) × (xs ≡ ys)
heads_same e = (cc, cc)

all_past_marker : (ms : List Given) → AllByRecursion (λ c. is_addition c ≡ true) (map component ms) → past_marker ms ≡ ms
all_past_marker [] h = refl
all_past_marker (m ∷ ms) h = ap (λ b. if b then m ∷ past_marker ms else past_marker ms) h.0 ∙ ap (λ q. m ∷ q) (all_past_marker ms h.1)

past_marker_of : (ms : List Given) (root more : List Component) → map component ms ≡ root ++ more → AllByRecursion (λ c. is_addition c ≡ false) root → AllByRecursion (λ c. is_addition c ≡ true) more → map component (past_marker ms) ≡ more
past_marker_of ms [] more e r m = ap (map component) (all_past_marker ms (subst (AllByRecursion (λ c. is_addition c ≡ true)) (sym e) m)) ∙ e
past_marker_of [] (c ∷ root) more e r m = absurd (cc)
past_marker_of (k ∷ ms) (c ∷ root) more e r m =
    let p = heads_same e in
    let b : is_addition (component k) ≡ false = ap is_addition p.0 ∙ r.0 in
    ap (λ q. map component (if q then k ∷ past_marker ms else past_marker ms)) b ∙ past_marker_of ms root more p.1 r.1 m

pub groups_whole : {s : List Resolved} {f : Form} {e : Bool} {cs : List Component} {ws : Row} {ms : List Given} {j : ℕ} {q d : Bits} → AreListed s e cs → Beside cs ws ms → Additions s f (additions (past_marker ms)) j q d → GroupsAreWhole cs ws
groups_whole {ms = ms} li b a g h k =
    let c : map component (past_marker ms) ≡ li.more = past_marker_of ms li.root li.more (components_of b ∙ li.parts) li.in_root li.behind in
    groups (past_marker ms) (subst GroupsTogether (sym c) li.groups) (additions_whole a) g (has_past_marker g ms (has_from g b h)) (lacks_past_marker g ms (lacks_from g b k))

-- without a marker there are none
pub none_past_marker : {s : List Resolved} {cs : List Component} {ws : Row} {ms : List Given} → AreListed s false cs → Beside cs ws ms → past_marker ms ≡ []
none_past_marker {ms = ms} li b = no_list (past_marker ms) (past_marker_of ms li.root li.more (components_of b ∙ li.parts) li.in_root li.behind ∙ li.marked refl)
  where
    no_list : (xs : List Given) → map component xs ≡ [] → xs ≡ []
    no_list [] e = refl
    no_list (x ∷ xs) e = absurd (cc)
