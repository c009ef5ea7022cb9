-- An account that follows type and value in all that can be asked describes how octets encode the value.
use Rattle.std.proofs.Common.{arith, ◌≡◌, ℕ, zero, suc, ◌+◌, Bool, true, false, List, [], ◌∷◌, ◌++◌, length, drop, take, refl, sym, ap, subst, ◌∙◌, append_assoc, length-append}
use Rattle.std.specs.Prelude.{Some, slice_get}
use Rattle.std.specs.List.{sum, concat}
use Rattle.asn_base.specs.declared.tag.Tag.{Tag}
use Rattle.asn_base.specs.Abstract.{AbstractValue, fields, list, Row}
use Rattle.asn_base.specs.Types.{Kind, a_boolean, an_integer, an_enumerated, a_bit_string, a_named_bit_string, an_octet_string, a_null, an_object_identifier, a_relative_oid, a_utf8_string, a_restricted_string, a_sequence, a_set, a_sequence_of, a_set_of, a_choice, Component, Resolved}
use Rattle.asn_base.specs.Same.{IsLeaf}
use Rattle.encodings.specs.Header.{identifier, HeaderBy}
use Rattle.encodings.specs.Rules.{Distinguished}
use Rattle.encodings.specs.Fewest.{shortest_size, shortest_header}
use Rattle.encodings.specs.Account.{Numbers, Account, header, Inside, leaf_row, wrap_row, seq_row, seqof_row, set_row, setof_row, Rows, HeaderHasNumbers, Headed, headed_bare, headed_innermost, headed_outer, Describes, describes, ContentsHaveRows, leaf_listed, sequence_listed, set_listed, sequence_of_listed, set_of_listed, choice_listed, MembersHaveRows, no_member_listed, absent_listed, absent_default_listed, default_listed, member_listed, ElementsHaveRows, no_element_listed, element_listed}
use Rattle.account_checker.specs.Reasons.{to_contents}
use Rattle.account_checker.specs.Follows.{total_octets, sizes, before, is_built, AreNumbers, BeginsWithHeader, HeaderFollows, SliceAt, Follows, follows, Under, bare, innermost, outer, InsideFollows, leaf_follows, choice_follows, sequence_follows, sequence_of_follows, set_follows, set_of_follows, MembersFollow, none_follows, absent_follows, left_out_follows, default_follows, default_written, member_follows, ElementsFollow, no_element_follows, element_follows}
use Rattle.account_checker.proofs.Headers.{Only}
use Rattle.account_checker.proofs.Placement.{lens, next_slice, drop_all, one_some, stand_up}
use Rattle.account_checker.proofs.Members.{take_front, sum_append, append_nil}

-- ---- headers

pub shortest_length : (t : Tag) (c : Bool) (n : ℕ) → length (shortest_header t c n) ≡ length (identifier t.class t.number c) + length (shortest_size n)
unfolding shortest_header
shortest_length t c n = length-append (identifier t.class t.number c) (shortest_size n)

record AfterHeader (t : Tag) (c : Bool) (z : Numbers) (o x : List ℕ) : Type 0 where
  head : List ℕ
  whole : o ≡ head ++ x
  listed : HeaderHasNumbers t c (length x) head z
  contents : length x ≡ z.contents

following : Only → {t : Tag} {c : Bool} {z : Numbers} {o x : List ℕ} → HeaderFollows to_contents t c z o x → length o ≡ z.identifier + z.size + z.contents → AfterHeader t c z o x
following only {t} {c} {z} {o} {x} h l =
    let b : BeginsWithHeader t c z.contents o x = h.is_at in
    let n : AreNumbers t c z = h.numbers in
    let e = only t c z.contents b.header b.is_header in
    let f = ap length e ∙ shortest_length t c z.contents in
    let g = ap length b.whole ∙ length-append b.header x in
    let i = n.identifier_counted in
    let j = n.size_counted in
    let m : length x ≡ z.contents = omega arith in
    record {
      head = b.header;
      whole = b.whole;
      contents = m;
      listed = record {
        is_header = subst (λ k. HeaderBy Distinguished t c k b.header) (sym m) b.is_header;
        identifier_counted = i;
        size_counted = omega arith;
        contents_counted = sym m;
      };
    }

-- ---- places

-- members, one after another
pub record Done (all : List ℕ) (k : ℕ) (rs : Rows) : Type 0 where
  pub front : List ℕ
  pub split : all ≡ front ++ sizes rs
  pub many : length front ≡ k

pub there : {all : List ℕ} {k : ℕ} {rs : Rows} (d : Done all k rs) → before all k ≡ sum d.front
there {all} {k} {rs} d = ap (λ j. sum (take j all)) (sym d.many) ∙ ap (λ q. sum (take (length d.front) q)) d.split ∙ ap sum (take_front d.front (sizes rs))

pub one_more : {all : List ℕ} {k n : ℕ} {rs ms : Rows} → sizes rs ≡ n ∷ sizes ms → Done all k rs → Done all (suc k) ms
one_more {all} {k} {n} {rs} {ms} e d = record {
  front = d.front ++ (n ∷ []);
  split = d.split ∙ ap (λ q. d.front ++ q) e ∙ sym (append_assoc d.front (n ∷ []) (sizes ms));
  many = (let f = length-append d.front (n ∷ []) in let g = d.many in omega arith);
}

sum_one : (n : ℕ) → sum (n ∷ []) ≡ n
sum_one n = omega arith

pub further_one : {all : List ℕ} {k n : ℕ} {rs : Rows} (ms : Rows) (e : sizes rs ≡ n ∷ sizes ms) (d : Done all k rs) → before all k + n ≡ before all (suc k)
unfolding one_more
further_one {all} {k} {n} {rs} ms e d =
    let f = there d in
    let g = there (one_more {ms = ms} e d) in
    let h = sum_append d.front (n ∷ []) in
    let i = sum_one n in
    (let j : before all k + n ≡ sum (d.front ++ (n ∷ [])) = omega arith in j) ∙ sym g

-- members, each at its place
record Placed (T : List (List ℕ) → Type 0) (place : ℕ → ℕ) (k : ℕ) (o ns : List ℕ) : Type 0 where
  parts : List (List ℕ)
  listed : T parts
  each : (i : ℕ) (y : List ℕ) → slice_get parts i ≡ Some y → SliceAt o (place (k + i)) (length y) y
  many : ns ≡ lens parts

none_placed : (o : List ℕ) (j : ℕ → ℕ) (i : ℕ) (y : List ℕ) → slice_get [] i ≡ Some y → SliceAt o (j i) (length y) y
none_placed o j i y e = absurd (cc)

first_placed : (place : ℕ → ℕ) (k : ℕ) (o x : List ℕ) (n : ℕ) (ys : List (List ℕ)) → SliceAt o (place k) n x → ((i : ℕ) (y : List ℕ) → slice_get ys i ≡ Some y → SliceAt o (place (suc k + i)) (length y) y) → (i : ℕ) (y : List ℕ) → slice_get (x ∷ ys) i ≡ Some y → SliceAt o (place (k + i)) (length y) y
first_placed place k o x n ys a h zero y e =
    subst (λ z. SliceAt o (place (k + 0)) (length z) z) (one_some e)
    (subst (λ m. SliceAt o (place (k + 0)) m x) (sym a.as_many) (subst (λ j. SliceAt o (place j) n x) (let f : k ≡ k + 0 = omega arith in f) a))
first_placed place k o x n ys a h (suc i) y e = subst (λ j. SliceAt o (place j) (length y) y) (let f : suc k + i ≡ k + suc i = omega arith in f) (h i y e)

record Encoded (T : List (List ℕ) → Type 0) (x : List ℕ) (p : ℕ) : Type 0 where
  parts : List (List ℕ)
  listed : T parts
  joined : drop p x ≡ concat parts

-- no octets are left after the last member
at_last : (all : List ℕ) (k : ℕ) (rs : Rows) (x : List ℕ) → Done all k rs → sizes rs ≡ [] → length x ≡ sum all → drop (before all k) x ≡ []
at_last all k rs x d e l =
    let f = there d in
    let g : sum all ≡ sum d.front = ap sum (d.split ∙ ap (λ q. d.front ++ q) e ∙ append_nil d.front) in
    ap (λ j. drop j x) (f ∙ sym g ∙ sym l) ∙ drop_all x

pub leaf_not_built : (k : Kind) → IsLeaf k → is_built k ≡ false
leaf_not_built (a_sequence e cs) l = absurd l
leaf_not_built (a_set e cs) l = absurd l
leaf_not_built (a_sequence_of c u) l = absurd l
leaf_not_built (a_set_of c u) l = absurd l
leaf_not_built (a_choice r e m) l = absurd l
leaf_not_built q l = refl

module _ (only : Only) (s : List Resolved) where
  record Inner (tags : List Tag) (k : Kind) (v : AbstractValue) (o : List ℕ) (a : Account) : Type 0 where
    built : Bool
    x : List ℕ
    inside : Inside
    within : ContentsHaveRows s k v built x inside
    headed : Headed tags built x inside o a

  mutual
    right_of : {t : ℕ} {v : AbstractValue} {o : List ℕ} {a : Account} → Follows s to_contents t v o a → length o ≡ total_octets a → Describes s t v o a
    right_of (follows i d) l = let r = under_of d l in describes i r.within r.headed

    under_of : {tags : List Tag} {k : Kind} {v : AbstractValue} {o : List ℕ} {a : Account} → Under s to_contents tags k v o a → length o ≡ total_octets a → Inner tags k v o a
    under_of (bare {o = o} {a = a} g d) l = record { built = true; x = o; inside = wrap_row a; within = choice_listed g (right_of d l); headed = headed_bare }
    under_of (innermost {t = t} {k = k} {v = v} {o = o} {x = x} {z = z} {i = i} h d) l =
        let b = following only h l in
        record { built = is_built k; x = x; inside = i; within = inside_of d b.contents; headed = subst (λ w. Headed (t ∷ []) (is_built k) x i w (header z i)) (sym b.whole) (headed_innermost b.listed) }
    under_of (outer {t = t} {u = u} {ts = ts} {o = o} {x = x} {z = z} {a = a} h n d) l =
        let b = following only h l in
        let r = under_of d (b.contents ∙ n) in
        record { built = r.built; x = r.x; inside = r.inside; within = r.within; headed = subst (λ w. Headed (t ∷ u ∷ ts) r.built r.x r.inside w (header z (wrap_row a))) (sym b.whole) (headed_outer r.headed b.listed) }

    inside_of : {k : Kind} {v : AbstractValue} {n : ℕ} {x : List ℕ} {i : Inside} → InsideFollows s to_contents k v n x i → length x ≡ n → ContentsHaveRows s k v (is_built k) x i
    inside_of (leaf_follows {k = k} {v = v} {x = x} l m b) e = subst (λ w. ContentsHaveRows s k v w x leaf_row) (sym (leaf_not_built k l)) (leaf_listed l b.1 b.2)
    inside_of (choice_follows {a = a} g n d) e = choice_listed g (right_of d (e ∙ n))
    inside_of (sequence_follows {e = c} {cs = cs} {vs = vs} {x = x} {rs = rs} n d) e =
        let r = members_of d refl (record { front = []; split = refl; many = refl }) (e ∙ n) in
        subst (λ w. ContentsHaveRows s (a_sequence c cs) (fields vs) true w (seq_row rs)) (sym r.joined) (sequence_listed r.listed)
    inside_of (sequence_of_follows {u = u} {c = c} {vs = vs} {x = x} {rs = rs} n d) e =
        let r = elements_of d refl (record { front = []; split = refl; many = refl }) (e ∙ n) in
        subst (λ w. ContentsHaveRows s (a_sequence_of c u) (list vs) true w (seqof_row rs)) (sym r.joined) (sequence_of_listed r.listed)
    inside_of (set_follows {e = c} {cs = cs} {vs = vs} {x = x} {rs = rs} {p = p} {i = i} n a d) e =
        let r = parts_of d in
        let z = stand_up p i r.parts (sizes rs) x a r.many r.each (e ∙ n) in
        subst (λ w. ContentsHaveRows s (a_set c cs) (fields vs) true w (set_row rs p i)) (sym z.2) (set_listed r.listed z.1)
    inside_of (set_of_follows {u = u} {c = c} {vs = vs} {x = x} {rs = rs} {p = p} {i = i} n a d) e =
        let r = element_parts d in
        let z = stand_up p i r.parts (sizes rs) x a r.many r.each (e ∙ n) in
        subst (λ w. ContentsHaveRows s (a_set_of c u) (list vs) true w (setof_row rs p i)) (sym z.2) (set_of_listed r.listed z.1)

    parts_of : {place : ℕ → ℕ} {cs : List Component} {vs : Row} {k : ℕ} {x : List ℕ} {rs : Rows} → MembersFollow s to_contents place cs vs k x rs → Placed (λ xs. MembersHaveRows s cs vs xs rs) place k x (sizes rs)
    parts_of {place} {k = k} {x = x} none_follows = record { parts = []; listed = no_member_listed; each = none_placed x (λ i. place (k + i)); many = refl }
    parts_of (absent_follows n m) = let r = parts_of m in record { parts = r.parts; listed = absent_listed n r.listed; each = r.each; many = r.many }
    parts_of (left_out_follows w f m) = let r = parts_of m in record { parts = r.parts; listed = absent_default_listed w f r.listed; each = r.each; many = r.many }
    parts_of (default_follows w f n m) = let r = parts_of m in record { parts = r.parts; listed = default_listed n r.listed; each = r.each; many = r.many }
    parts_of (default_written w f n p g m) = absurd n
    parts_of {place} {k = k} {x = x} (member_follows {y = y} {a = a} {rs = ms} n p g m) =
        let r = parts_of m in
        let q : SliceAt x (place k) (total_octets a) y = p in
        record { parts = y ∷ r.parts; listed = member_listed n (right_of g q.as_many) r.listed; each = first_placed place k x y (total_octets a) r.parts q r.each; many = ap (λ j. j ∷ sizes ms) (sym q.as_many) ∙ ap (λ js. length y ∷ js) r.many }

    element_parts : {place : ℕ → ℕ} {u : ℕ} {vs : Row} {k : ℕ} {x : List ℕ} {rs : Rows} → ElementsFollow s to_contents place u vs k x rs → Placed (λ xs. ElementsHaveRows s u vs xs rs) place k x (sizes rs)
    element_parts {place} {k = k} {x = x} no_element_follows = record { parts = []; listed = no_element_listed; each = none_placed x (λ i. place (k + i)); many = refl }
    element_parts {place} {k = k} {x = x} (element_follows {y = y} {a = a} {rs = ms} p g m) =
        let r = element_parts m in
        let q : SliceAt x (place k) (total_octets a) y = p in
        record { parts = y ∷ r.parts; listed = element_listed (right_of g q.as_many) r.listed; each = first_placed place k x y (total_octets a) r.parts q r.each; many = ap (λ j. j ∷ sizes ms) (sym q.as_many) ∙ ap (λ js. length y ∷ js) r.many }

    members_of : {all : List ℕ} {place : ℕ → ℕ} {cs : List Component} {vs : Row} {k : ℕ} {x : List ℕ} {rs : Rows} → MembersFollow s to_contents place cs vs k x rs → place ≡ before all → Done all k rs → length x ≡ sum all → Encoded (λ xs. MembersHaveRows s cs vs xs rs) x (before all k)
    members_of {all} {k = k} {x = x} {rs = rs} none_follows pl d l = record { parts = []; listed = no_member_listed; joined = at_last all k rs x d refl l }
    members_of (absent_follows n m) pl d l = let r = members_of m pl (record { front = d.front; split = d.split; many = d.many }) l in record { parts = r.parts; listed = absent_listed n r.listed; joined = r.joined }
    members_of (left_out_follows w f m) pl d l = let r = members_of m pl (record { front = d.front; split = d.split; many = d.many }) l in record { parts = r.parts; listed = absent_default_listed w f r.listed; joined = r.joined }
    members_of (default_follows w f n m) pl d l = let r = members_of m pl (record { front = d.front; split = d.split; many = d.many }) l in record { parts = r.parts; listed = default_listed n r.listed; joined = r.joined }
    members_of (default_written w f n p g m) pl d l = absurd n
    members_of {all} {k = k} {x = x} (member_follows {y = y} {a = a} {rs = ms} n p g m) pl d l =
        let r = members_of m pl (one_more refl d) l in
        let q : SliceAt x (before all k) (total_octets a) y = subst (λ j. SliceAt x j (total_octets a) y) (ap (λ f. f k) pl) p in
        record { parts = y ∷ r.parts; listed = member_listed n (right_of g q.as_many) r.listed; joined = next_slice x (before all k) (total_octets a) y q ∙ ap (λ z. y ++ drop z x) (further_one ms refl d) ∙ ap (λ z. y ++ z) r.joined }

    elements_of : {all : List ℕ} {place : ℕ → ℕ} {u : ℕ} {vs : Row} {k : ℕ} {x : List ℕ} {rs : Rows} → ElementsFollow s to_contents place u vs k x rs → place ≡ before all → Done all k rs → length x ≡ sum all → Encoded (λ xs. ElementsHaveRows s u vs xs rs) x (before all k)
    elements_of {all} {k = k} {x = x} {rs = rs} no_element_follows pl d l = record { parts = []; listed = no_element_listed; joined = at_last all k rs x d refl l }
    elements_of {all} {k = k} {x = x} (element_follows {y = y} {a = a} {rs = ms} p g m) pl d l =
        let r = elements_of m pl (one_more refl d) l in
        let q : SliceAt x (before all k) (total_octets a) y = subst (λ j. SliceAt x j (total_octets a) y) (ap (λ f. f k) pl) p in
        record { parts = y ∷ r.parts; listed = element_listed (right_of g q.as_many) r.listed; joined = next_slice x (before all k) (total_octets a) y q ∙ ap (λ z. y ++ drop z x) (further_one ms refl d) ∙ ap (λ z. y ++ z) r.joined }

pub follows_right : Only → (s : List Resolved) (t : ℕ) (v : AbstractValue) (o : List ℕ) (a : Account) → length o ≡ total_octets a → Follows s to_contents t v o a → Describes s t v o a
follows_right only s t v o a l d = right_of only s d l
