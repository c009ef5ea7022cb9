-- An encoding begins with a first tag of its type, and the contents of frames.
use Rattle.std.proofs.Common.{arith, ◌≡◌, ℕ, ◌≤◌, Bool, true, List, [], ◌∷◌, ◌++◌, length, refl, sym, ap, subst, ◌∙◌, length-append}
use Rattle.std.specs.List.{concat, AllByRecursion}
use Rattle.asn_base.specs.declared.tag.Tag.{Tag}
use Rattle.asn_base.specs.Abstract.{AbstractValue, Row}
use Rattle.asn_base.specs.Types.{Kind, Component, Resolved, Is}
use Rattle.asn_base.specs.Tags.{First, first_tag, first_of_choice, AreApart, IsChoice, AllTagged}
use Rattle.encodings.specs.Rules.{Rules}
use Rattle.encodings.specs.Orders.{BeginsWith}
use Rattle.encodings.specs.Encoding.{Framed, innermost, outer, Unknown, no_unknown, unknown, EncodesTo, says, ContentsEncode, leaf, sequence, set, sequence_of, set_of, choice, Members, no_member, left_out, member, Elements, no_element, element}
use Rattle.encodings.proofs.Identifiers.{any_front}
use Rattle.asn_base.specs.proving.OneTag.{tag_same}
use Rattle.encodings.proofs.Units.{IsUnit, says_unit, units_front}
use Rattle.encodings.specs.proving.LeafForms.{no_leaf, bare_is}
use Rattle.encodings.proofs.LeafValues.{header_some}

-- octets begin with a first tag of the type
pub record FirstOf (s : List Resolved) (t : ℕ) (o : List ℕ) : Type 0 where
  pub tag : Tag
  pub is_first : First s t tag
  pub begins : BeginsWith tag o

framed_begins : {r : Rules} {g : Tag} {ts : List Tag} {c : Bool} {x o : List ℕ} → Framed r (g ∷ ts) c x o → BeginsWith g o
framed_begins {c = c} {x = x} (innermost {h = h} a) = record { constructed = c; count = length x; header = h; rest = x; is_header = a.header; whole = refl }
framed_begins (outer {h = h} {y = y} f a) = record { constructed = true; count = length y; header = h; rest = y; is_header = a.header; whole = refl }

first_at : {s : List Resolved} {t : ℕ} {x o : List ℕ} → o ≡ x → FirstOf s t x → FirstOf s t o
first_at {s} {t} e f = subst (λ q. FirstOf s t q) (sym e) f

mutual
  pub says_first : {s : List Resolved} {r : Rules} {t n : ℕ} {v : AbstractValue} {o : List ℕ} → AllTagged s → EncodesTo s r t v n o → FirstOf s t o
  says_first all (says {tags = []} i h fr) = first_at (bare_is fr) (holds_first all (all _ _ i) i h)
  says_first all (says {tags = g ∷ ts} i h fr) = record { tag = g; is_first = first_tag i; begins = framed_begins fr }

  holds_first : {s : List Resolved} {r : Rules} {t : ℕ} {k : Kind} {n : ℕ} {v : AbstractValue} {c : Bool} {x : List ℕ} → AllTagged s → IsChoice k → Is s t [] k → ContentsEncode s r k v n c x → FirstOf s t x
  holds_first all h j (leaf con) = absurd (no_leaf h con)
  holds_first all h j (sequence ms u) = absurd h
  holds_first all h j (set ms p st u m) = absurd h
  holds_first all h j (sequence_of es) = absurd h
  holds_first all h j (set_of es st) = absurd h
  holds_first all h j (choice {i = i} g a) = let f = says_first all a in record { tag = f.tag; is_first = first_of_choice i j g f.is_first; begins = f.begins }

-- octets begin with one tag
pub one_tag : (g f : Tag) (o : List ℕ) → BeginsWith g o → BeginsWith f o → g ≡ f
one_tag g f o a b =
    let r = any_front g f a.constructed b.constructed a.count b.count a.header b.header a.rest b.rest a.is_header b.is_header (sym a.whole ∙ b.whole) in
    tag_same g f r.classes r.numbers

-- no octets begin with first tags of types that are apart
pub not_both : (s : List Resolved) (t u : ℕ) (o : List ℕ) → AreApart s t u → FirstOf s t o → FirstOf s u o → ⊥
not_both s t u o apart a b = apart b.tag (subst (First s t) (one_tag a.tag b.tag o a.begins b.begins) a.is_first) b.is_first

-- frames with one tag list hold one contents
pub record SameContents (c d : Bool) (x y : List ℕ) : Type 0 where
  pub forms : c ≡ d
  pub inside : x ≡ y

pub frames_contents : {r r' : Rules} {g : Tag} {ts : List Tag} {c d : Bool} {x y o p : List ℕ} → Framed r (g ∷ ts) c x o → Framed r' (g ∷ ts) d y p → o ≡ p → SameContents c d x y
frames_contents {c = c} {d = d} {x = x} {y = y} (innermost {t = t} {h = h} a) (innermost {h = h'} b) e =
    let r = any_front t t c d (length x) (length y) h h' x y a.header b.header e in
    record { forms = r.forms; inside = r.rest }
frames_contents (outer {t = t} {h = h} {y = z} f a) (outer {h = h'} {y = z'} f' b) e =
    let r = any_front t t true true (length z) (length z') h h' z z' a.header b.header e in
    frames_contents f f' r.rest

pub unit_some : {o : List ℕ} → IsUnit o → 1 ≤ length o
unit_some u = let l = ap length u.whole in omega (arith, l, header_some u.is_header, length-append u.header u.rest)

-- a sequence of units has only one division into units
pub units_list : (xs ys : List (List ℕ)) → AllByRecursion IsUnit xs → AllByRecursion IsUnit ys → concat xs ≡ concat ys → xs ≡ ys
units_list [] [] a b e = refl
units_list [] (y ∷ ys) a b e = absurd (let l = ap length e in omega (arith, l, unit_some b.0, length-append y (concat ys)))
units_list (x ∷ xs) [] a b e = absurd (let l = ap length e in omega (arith, l, unit_some a.0, length-append x (concat xs)))
units_list (x ∷ xs) (y ∷ ys) a b e =
    let r = units_front x y (concat xs) (concat ys) a.0 b.0 e in
    let h : x ≡ y = r.0 in
    let t : xs ≡ ys = units_list xs ys a.1 b.1 r.1 in
    cc

pub members_units : {s : List Resolved} {r : Rules} {cs : List Component} {vs : Row} {n : ℕ} {xs : List (List ℕ)} → AllTagged s → Members s r cs vs n xs → AllByRecursion IsUnit xs
members_units all no_member = tt
members_units all (left_out m ms) = members_units all ms
members_units all (member a d ms) = (says_unit all a, members_units all ms)

pub elements_units : {s : List Resolved} {r : Rules} {u n : ℕ} {vs : Row} {xs : List (List ℕ)} → AllTagged s → Elements s r u vs n xs → AllByRecursion IsUnit xs
elements_units all no_element = tt
elements_units all (element a es) = (says_unit all a, elements_units all es)

pub unknown_units : {s : List Resolved} {cs : List Component} {k : ℕ} {us : List (List ℕ)} → Unknown s cs k us → AllByRecursion IsUnit us
unknown_units no_unknown = tt
unknown_units (unknown {g = g} {c = c} {h = h} x hd b f u) = (record { tag = g; constructed = c; header = h; rest = x; is_header = hd; whole = refl }, unknown_units u)

pub all_appended : (P : List ℕ → Type 0) (xs ys : List (List ℕ)) → AllByRecursion P xs → AllByRecursion P ys → AllByRecursion P (xs ++ ys)
all_appended P [] ys a b = b
all_appended P (x ∷ xs) ys a b = (a.0, all_appended P xs ys a.1 b)
