-- The events of a value, as a tree whose octets are an encoding of the value.
use Rattle.std.proofs.Common.{◌≡◌, ℕ, suc, ◌<◌, ◌^◌, Bool, true, false, List, [], ◌∷◌, ◌++◌, length, refl, sym, ap, subst, ◌∙◌, arith, append-nil}
use Rattle.std.specs.Prelude.{Option, Some, None, IsSomeAnd}
use Rattle.std.specs.List.{concat}
use Rattle.asn_base.specs.declared.tag.Tag.{Tag}
use Rattle.asn_base.specs.Abstract.{AbstractValue, Row, end, absent, present}
use Rattle.asn_base.specs.Types.{Kind, Presence, mandatory, optional, default, addition, Component, Resolved, Is}
use Rattle.asn_base.specs.Tags.{is_mandatory}
use Rattle.asn_base.specs.Typed.{ValueIn, value_in, ValueOf, MayBeAbsent, where_optional, where_default, where_addition, AreComponents, no_component, component_absent, component_present, AreElements, no_element as no_value, one_element, members}
use Rattle.asn_base.specs.Same.{Alike, alike, AlikeBy, AlikeComponents, no_components, both_absent, both_present, second_default, AlikeElements, no_elements, alike_element, AlikeInAnyOrder, none_left, pair, Inserted as RowInserted, here as row_here, there as row_there}
use Rattle.asn_base.specs.Schemas.{HasValue, HasTag}
use Rattle.encodings.specs.Rules.{Distinguished}
use Rattle.encodings.specs.Header.{HeaderBy}
use Rattle.encodings.specs.Fewest.{shortest_header}
use Rattle.encodings.specs.Orders.{Permutes, permutes_none, permutes_more, EncodingInserted, here, there}
use Rattle.encodings.specs.Encoding.{EncodesTo, says, ContentsEncode, Members, no_member, left_out, member, Elements, no_element, element}
use Rattle.codec_code.specs.declared.step.RowKind.{RowKind}
use Rattle.codec_code.specs.Events.{Event, opens, closes, Order, by_octets, by_rank, row_of_order, Tree, done, within, ordered, Members as Group, flat, flats, SetMember, encodings_of, Arranged, HasOctets, PartsOf}
use Rattle.asn_base.specs.Order.{tag_at, outermost}
use Rattle.codec_code.specs.Routines.{heads, body, ends, row_of, is_constructed, routine_of, routine_at, rank}
use Rattle.codec_code.specs.Steps.{Steps, IsTheDefault as DefaultIn}
use Rattle.codec_code.specs.proving.Wrapped.{opened, closed_by, wrapped, flat_wrapped, InHeader, framed_in}
use Rattle.codec_code.specs.proving.Inversion.{heads_in}
use Rattle.codec_code.proofs.Ranks.{HasRank, framed_begins}

-- the octets are an encoding of what is alike
pub record Encoded (s : List Resolved) (n t : ℕ) (v : AbstractValue) (o : List ℕ) : Type 0 where
  pub w : AbstractValue
  pub value : ValueIn s n t w
  pub same : Alike s t v w
  pub is : EncodesTo s Distinguished t w 0 o

pub record EventsEncode (s : List Resolved) (n t : ℕ) (v : AbstractValue) (es : List Event) : Type 0 where
  pub tree : Tree
  pub is : es ≡ flat tree
  pub holds : (o : List ℕ) → HasOctets tree o → length o < 2 ^ 64 → Encoded s n t v o

pub record HeldBy (s : List Resolved) (n : ℕ) (k : Kind) (v : AbstractValue) (c : Bool) (x : List ℕ) : Type 0 where
  pub w : AbstractValue
  pub value : ValueOf s n k w
  pub same : AlikeBy s k v w
  pub is : ContentsEncode s Distinguished k w 0 c x

-- ---- what is within the headers

pub data Content : Type 0 where
  plain : Tree → Content
  grouped : Order → Group → Content

abbrev pub made_of : RowKind → Content → Tag → Tree
made_of k (plain i) g = within g (is_constructed k) k i done
made_of k (grouped o ms) g = ordered g o ms done

abbrev pub bare_of : Content → Tree
bare_of (plain i) = i
bare_of (grouped o ms) = done

abbrev pub events_of : Content → List Event
events_of (plain i) = flat i
events_of (grouped o ms) = flats ms

abbrev pub Means : Content → List ℕ → Type 0
Means (plain i) x = HasOctets i x
Means (grouped o ms) x = (ps : List SetMember) × (qs : List SetMember) × PartsOf ms ps × Arranged o ps qs × (x ≡ concat (encodings_of qs))

-- members that are put in order are in a header of their own
abbrev pub Suits : List Tag → RowKind → Content → Type 0
Suits tags k (plain i) = Unit {0}
Suits tags k (grouped o ms) = (k ≡ row_of_order o) × (tags ≡ [] → ⊥)

with_tag : (tags : List Tag) (k : RowKind) (c : Content) → Suits tags k c → (g : Tag) → flat (made_of k c g) ≡ opens g (is_constructed k) k ∷ (events_of c ++ closes ∷ [])
with_tag tags k (plain i) u g = refl
with_tag tags k (grouped by_octets ms) u g = ap (λ q. opens g (is_constructed q) q ∷ (flats ms ++ closes ∷ [])) (sym u.0)
with_tag tags k (grouped by_rank ms) u g = ap (λ q. opens g (is_constructed q) q ∷ (flats ms ++ closes ∷ [])) (sym u.0)

without_tag : (tags : List Tag) (k : RowKind) (c : Content) → Suits tags k c → tags ≡ [] → flat (bare_of c) ≡ events_of c
without_tag tags k (plain i) u e = refl
without_tag tags k (grouped o ms) u e = absurd (u.1 e)

drop_empty_rest : (d x y o : List ℕ) → y ≡ [] → o ≡ d ++ (x ++ y) → o ≡ d ++ x
drop_empty_rest d x y o e f = f ∙ ap (λ q. d ++ (x ++ q)) e ∙ ap (λ q. d ++ q) (append-nil x)

one_header : (tags : List Tag) (k : RowKind) (c : Content) → Suits tags k c → (g : Tag) (o : List ℕ) → HasOctets (made_of k c g) o → InHeader (Means c) g (is_constructed k) o
one_header tags k (plain i) u g o h = (h.0, h.2, drop_empty_rest (shortest_header g (is_constructed k) (length h.0)) h.0 h.1 o h.3 h.4)
one_header tags k (grouped by_octets ms) u g o h =
    subst (λ q. InHeader (Means (grouped by_octets ms)) g (is_constructed q) o) (sym u.0) (h.2, (h.0, h.1, h.4, h.5, h.6), drop_empty_rest (shortest_header g true (length h.2)) h.2 h.3 o h.7 h.8)
one_header tags k (grouped by_rank ms) u g o h =
    subst (λ q. InHeader (Means (grouped by_rank ms)) g (is_constructed q) o) (sym u.0) (h.2, (h.0, h.1, h.4, h.5, h.6), drop_empty_rest (shortest_header g true (length h.2)) h.2 h.3 o h.7 h.8)

no_header : (tags : List Tag) (k : RowKind) (c : Content) → Suits tags k c → tags ≡ [] → (o : List ℕ) → HasOctets (bare_of c) o → Means c o
no_header tags k (plain i) u e o h = h
no_header tags k (grouped a ms) u e o h = absurd (u.1 e)

pub record Inside (s : List Resolved) (n : ℕ) (tags : List Tag) (k : Kind) (v : AbstractValue) (fs : List Event) : Type 0 where
  pub content : Content
  pub suits : Suits tags (row_of k) content
  pub is : fs ≡ events_of content ++ closed_by (length tags)
  pub holds : (x : List ℕ) → Means content x → length x < 2 ^ 64 → HeldBy s n k v (is_constructed (row_of k)) x

pub routine_is : (s : List Resolved) (t : ℕ) (tags : List Tag) (k : Kind) → Is s t tags k → routine_at s t ≡ heads tags (row_of k) ++ (body s k ++ ends (length tags))
unfolding routine_of
routine_is s t tags k i = ap (λ o. elim o [ None ↦ [] | Some r ↦ routine_of s r ]) i.found

pub whole : (s : List Resolved) → ((t : Tag) (c : Bool) (n : ℕ) → n < 2 ^ 64 → HeaderBy Distinguished t c n (shortest_header t c n))
    → {n t : ℕ} {tags : List Tag} {k : Kind} {v : AbstractValue} → Is s t tags k → (es : List Event) → Steps s t (routine_at s t) v es
    → ((fs : List Event) → Steps s t (body s k ++ ends (length tags)) v fs → Inside s n tags k v fs) → EventsEncode s (suc n) t v es
whole s header {t = t} {tags = tags} {k = k} {v = v} i es d h =
    let r = row_of k in
    let p = heads_in tags r (body s k ++ ends (length tags)) (subst (λ q. Steps s t q v es) (routine_is s t tags k i) d) in
    let w = h p.0 p.1 in
    record {
      tree = wrapped tags (made_of r w.content) (bare_of w.content);
      is = p.2 ∙ ap (λ q. opened tags r ++ q) w.is ∙ flat_wrapped tags r (made_of r w.content) (bare_of w.content) (events_of w.content) (with_tag tags r w.content w.suits) (without_tag tags r w.content w.suits);
      holds = λ o ot lt.
          let b = framed_in header tags (is_constructed r) (made_of r w.content) (bare_of w.content) (Means w.content) (one_header tags r w.content w.suits) (no_header tags r w.content w.suits) o ot in
          let x = w.holds b.contents b.are (let m = b.more in omega (arith, m)) in
          record { w = x.w; value = value_in {v = x.w} i x.value; same = alike {w = x.w} i x.same; is = says {w = x.w} {x = b.contents} i x.is (b.framed lt) };
    }

-- ---- components

some_same : {A : Type 0} {x y : A} → Some x ≡ Some y → x ≡ y
some_same e = cc

abbrev mandatory_is : Presence → Bool
mandatory_is mandatory = true
mandatory_is optional = false
mandatory_is (default d) = false
mandatory_is (addition o g) = false

not_mandatory : {s : List Resolved} {n t : ℕ} {p : Presence} → MayBeAbsent s n t p → (c : Component) → c.presence ≡ p → is_mandatory c ≡ false
not_mandatory where_optional c e = ap mandatory_is e
not_mandatory (where_default v) c e = ap mandatory_is e
not_mandatory where_addition c e = ap mandatory_is e

-- components that are alike, and their encodings
pub record RowIn (s : List Resolved) (n : ℕ) (cs : List Component) (vs : Row) (xs : List (List ℕ)) : Type 0 where
  pub row : Row
  pub values : AreComponents s n cs row
  pub same : AlikeComponents s cs vs row
  pub are : Members s Distinguished cs row 0 xs

pub row_none : (s : List Resolved) (n : ℕ) → RowIn s n [] end []
row_none s n = record { row = end; values = no_component; same = no_components; are = no_member }

pub row_absent : {s : List Resolved} {n : ℕ} {c : Component} {cs : List Component} {vs : Row} {xs : List (List ℕ)} → MayBeAbsent s n c.type c.presence → RowIn s n cs vs xs → RowIn s n (c ∷ cs) (absent vs) xs
row_absent {c = c} m r = record { row = absent r.row; values = component_absent m r.values; same = both_absent r.same; are = left_out (not_mandatory m c refl) r.are }

module _ (s : List Resolved)
    (turn : (t : ℕ) (v w : AbstractValue) → Alike s t v w → Alike s t w v)
    (follow : (t : ℕ) (v w x : AbstractValue) → Alike s t v w → Alike s t w x → Alike s t v x)
    (levels : (m n t : ℕ) (v w : AbstractValue) → Alike s t v w → ValueIn s n t v → ValueIn s m t w → ValueIn s n t w) where
  pub row_omitted : {n : ℕ} {c : Component} {cs : List Component} {v : AbstractValue} {vs : Row} {xs : List (List ℕ)} → HasValue s c → ValueIn s n c.type v → DefaultIn s c v → RowIn s n cs vs xs → RowIn s n (c ∷ cs) (present v vs) xs
  row_omitted {n} {c} {v = v} h b d r =
      let x = d.same.are_alike in
      record {
        row = absent r.row;
        values = component_absent (subst (MayBeAbsent s n c.type) (sym d.has_default) (where_default (levels 64 n c.type v d.value x b (h d.value d.has_default).shaped))) r.values;
        same = second_default d.has_default x r.same;
        are = left_out (ap mandatory_is d.has_default) r.are;
      }

  -- being alike to the default is being the same
  pub default_from : {n : ℕ} {c : Component} {v d : AbstractValue} → HasValue s c → ValueIn s n c.type v → c.presence ≡ default d → Alike s c.type v d → DefaultIn s c v
  default_from {n} {c} {v} {d} h b e a =
      record { value = d; has_default = e; same = record { first = levels n 64 c.type d v (turn c.type v d a) (h d e).shaped b; second = (h d e).shaped; are_alike = a } }

  pub row_encodes : {n : ℕ} {c : Component} {cs : List Component} {v : AbstractValue} {vs : Row} {x : List ℕ} {xs : List (List ℕ)} → HasValue s c → ValueIn s n c.type v → (DefaultIn s c v → ⊥) → Encoded s n c.type v x → RowIn s n cs vs xs → RowIn s n (c ∷ cs) (present v vs) (x ∷ xs)
  row_encodes {c = c} {v = v} h b differs e r =
      record {
        row = present e.w r.row;
        values = component_present e.value r.values;
        same = both_present e.same r.same;
        are = member e.is (λ z q. differs (default_from h b q.1 (follow c.type v e.w q.0 e.same q.2))) r.are;
      }

-- ---- the tag of a component of a SET

tag_count : (o : Option Resolved) (r : Resolved) → IsSomeAnd o (λ q. 0 < length q.tags) → o ≡ Some r → 0 < length r.tags
tag_count None r h e = absurd (cc)
tag_count (Some q) r h e = subst (λ z. 0 < length z.tags) (some_same e) h

tags_in : {s : List Resolved} {t : ℕ} {tags : List Tag} {k : Kind} → Is s t tags k → HasTag s t → 0 < length tags
tags_in i h = tag_count _ _ h i.found

tag_found : {s : List Resolved} {t : ℕ} {g : Tag} {gs : List Tag} {k : Kind} → Is s t (g ∷ gs) k → tag_at s t ≡ Some g
tag_found i = ap (λ o. elim o [ None ↦ None | Some r ↦ outermost r.tags ]) i.found

pub has_rank : {s : List Resolved} {all : List Component} {t : ℕ} {w : AbstractValue} {x : List ℕ} → HasTag s t → EncodesTo s Distinguished t w 0 x → HasRank s all (record { rank = rank s all t; octets = x })
has_rank h (says {tags = []} i a f) = absurd (let l = tags_in i h in omega arith)
has_rank {s} {all} {t} h (says {tags = g ∷ gs} i a f) = record { type = t; tag = g; found = tag_found i; begins = framed_begins f; rank_is = refl }

-- ---- elements

pub data Rows (s : List Resolved) (n u : ℕ) : Row → List (List ℕ) → Type 0 where
  rows_none : Rows s n u end []
  rows_more : {v : AbstractValue} {vs : Row} {x : List ℕ} {xs : List (List ℕ)} → Encoded s n u v x → Rows s n u vs xs → Rows s n u (present v vs) (x ∷ xs)

pub record ElementsIn (s : List Resolved) (n u : ℕ) (vs : Row) (xs : List (List ℕ)) : Type 0 where
  pub row : Row
  pub values : AreElements s n u row
  pub same : AlikeElements s u vs row
  pub are : Elements s Distinguished u row 0 xs
  pub count : members vs ≡ members row

pub elements_in : {s : List Resolved} {n u : ℕ} {vs : Row} {xs : List (List ℕ)} → Rows s n u vs xs → ElementsIn s n u vs xs
elements_in rows_none = record { row = end; values = no_value; same = no_elements; are = no_element; count = refl }
elements_in (rows_more e r) =
    let p = elements_in r in
    record { row = present e.w p.row; values = one_element e.value p.values; same = alike_element e.same p.same; are = element e.is p.are; count = ap suc p.count }

data SaysRow (s : List Resolved) (n u : ℕ) : Row → List (List ℕ) → Type 0 where
  says_none : SaysRow s n u end []
  says_more : {w : AbstractValue} {ws : Row} {x : List ℕ} {xs : List (List ℕ)} → ValueIn s n u w → EncodesTo s Distinguished u w 0 x → SaysRow s n u ws xs → SaysRow s n u (present w ws) (x ∷ xs)

says_values : {s : List Resolved} {n u : ℕ} {ws : Row} {xs : List (List ℕ)} → SaysRow s n u ws xs → AreElements s n u ws
says_values says_none = no_value
says_values (says_more v a r) = one_element v (says_values r)

says_elements : {s : List Resolved} {n u : ℕ} {ws : Row} {xs : List (List ℕ)} → SaysRow s n u ws xs → Elements s Distinguished u ws 0 xs
says_elements says_none = no_element
says_elements (says_more v a r) = element a (says_elements r)

record PutRow (s : List Resolved) (n u : ℕ) (w : AbstractValue) (ws : Row) (zs : List (List ℕ)) : Type 0 where
  row : Row
  at : RowInserted w ws row
  are : SaysRow s n u row zs
  count : members row ≡ suc (members ws)

put_row : {s : List Resolved} {n u : ℕ} {w : AbstractValue} {x : List ℕ} {ws : Row} {ys zs : List (List ℕ)} → ValueIn s n u w → EncodesTo s Distinguished u w 0 x → EncodingInserted x ys zs → SaysRow s n u ws ys → PutRow s n u w ws zs
put_row {w = w} {ws = ws} v a here r = record { row = present w ws; at = row_here; are = says_more v a r; count = refl }
put_row v a (there i) (says_more {w = y} v' a' r) =
    let p = put_row v a i r in
    record { row = present y p.row; at = row_there p.at; are = says_more v' a' p.are; count = ap suc p.count }

pub record SetIn (s : List Resolved) (n u : ℕ) (vs : Row) (zs : List (List ℕ)) : Type 0 where
  pub row : Row
  pub values : AreElements s n u row
  pub same : AlikeInAnyOrder s u vs row
  pub are : Elements s Distinguished u row 0 zs
  pub count : members vs ≡ members row

record Moved (s : List Resolved) (n u : ℕ) (vs : Row) (zs : List (List ℕ)) : Type 0 where
  row : Row
  same : AlikeInAnyOrder s u vs row
  are : SaysRow s n u row zs
  count : members vs ≡ members row

moved : {s : List Resolved} {n u : ℕ} {vs : Row} {xs zs : List (List ℕ)} → Rows s n u vs xs → Permutes xs zs → Moved s n u vs zs
moved rows_none permutes_none = record { row = end; same = none_left; are = says_none; count = refl }
moved (rows_more e r) (permutes_more p i) =
    let q = moved r p in
    let z = put_row e.value e.is i q.are in
    record { row = z.row; same = pair e.same q.same z.at; are = z.are; count = ap suc q.count ∙ sym z.count }

pub set_in : {s : List Resolved} {n u : ℕ} {vs : Row} {xs zs : List (List ℕ)} → Rows s n u vs xs → Permutes xs zs → SetIn s n u vs zs
set_in r p = let q = moved r p in record { row = q.row; values = says_values q.are; same = q.same; are = says_elements q.are; count = q.count }
