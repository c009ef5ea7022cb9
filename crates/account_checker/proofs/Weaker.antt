-- An account that follows in all that can be asked follows in less. An account that describes the encoding follows in
-- all.
use Rattle.std.proofs.Common.{get_or, arith, ◌≡◌, ℕ, suc, ◌+◌, Bool, true, false, List, [], ◌∷◌, ◌++◌, length, refl, sym, ap, subst, ◌∙◌, append_assoc, length-append}
use Rattle.std.specs.List.{sum, concat}
use Rattle.std.specs.Prelude.{Some, slice_get}
use Rattle.encodings.specs.Account.{ArePlacedAt, ArePlaces}
use Rattle.account_checker.proofs.Lists.{length_mapped}
use Rattle.account_checker.proofs.Placement.{lens, standing_long, member_is_at}
use Rattle.asn_base.specs.declared.tag.Tag.{Tag}
use Rattle.asn_base.specs.Abstract.{AbstractValue, Row}
use Rattle.asn_base.specs.Types.{Kind, Component, Resolved}
use Rattle.encodings.specs.Header.{HeaderBy}
use Rattle.encodings.specs.Rules.{Distinguished}
use Rattle.encodings.specs.Contents.{Contents, of_false, of_true, of_integer, of_enumerated, of_bits, of_named_bits, of_octets, of_null, of_oid, of_relative_oid, of_utf8, of_restricted}
use Rattle.encodings.specs.Fewest.{shortest_size}
use Rattle.encodings.specs.Account.{Numbers, Account, Inside, wrap_row, Rows, HeaderHasNumbers, Headed, headed_bare, headed_innermost, headed_outer, Describes, describes, ContentsHaveRows, leaf_listed, sequence_listed, set_listed, sequence_of_listed, set_of_listed, choice_listed, MembersHaveRows, no_member_listed, absent_listed, absent_default_listed, default_listed, member_listed, ElementsHaveRows, no_element_listed, element_listed}
use Rattle.account_checker.specs.declared.checks.Checks.{Checks}
use Rattle.account_checker.specs.declared.reason.Reason.{Reason}
use Rattle.account_checker.specs.declared.reason.Reason.TheVariants.{NotOfType, Shape, Omitted, Numbers as Numbers', Places, Length, Header, Contents as Contents'}
use Rattle.account_checker.specs.Reasons.{to_contents, Fails, IsRightAccount}
use Rattle.account_checker.specs.Follows.{by_place, Checked, Slice, HeaderIsAt, total_octets, sizes, before, is_built, BeginsWithHeader, HeaderFollows, SliceAt, Follows, follows, Under, bare, innermost, outer, InsideFollows, leaf_follows, choice_follows, sequence_follows, sequence_of_follows, set_follows, set_of_follows, MembersFollow, none_follows, absent_follows, left_out_follows, default_follows, default_written, member_follows, ElementsFollow, no_element_follows, element_follows}
use Rattle.account_checker.proofs.Headers.{Only}
use Rattle.account_checker.proofs.Members.{sum_append}
use Rattle.account_checker.proofs.Laws.{shortest_length, leaf_not_built, Done, one_more, further_one}

-- ---- less is asked

given : (b : Bool) {P : Type 0} → P → Checked b P
given true p = p
given false p = tt

abbrev less : Bool → Bool → Bool → Bool → Checks
less om nu pl h = record { omitted = om; numbers = nu; places = pl; headers = h; contents = false }

is_at_less : (b : Bool) {t : Tag} {c : Bool} {n : ℕ} {o x : List ℕ} (p : List ℕ) → Checked b (p ≡ o) → HeaderIsAt true t c n o x → (y : List ℕ) × HeaderIsAt b t c n p y × Checked b (y ≡ x)
is_at_less true {t} {c} {n} {x = x} p e h = (x, subst (λ w. BeginsWithHeader t c n w x) (sym e) h, refl)
is_at_less false p e h = (p, refl, tt)

part_less : (b : Bool) {o x : List ℕ} {place n : ℕ} (p : List ℕ) → Checked b (p ≡ o) → Slice true o place n x → (y : List ℕ) × Slice b p place n y × Checked b (y ≡ x)
part_less true {x = x} {place = place} {n = n} p e h = (x, subst (λ w. SliceAt w place n x) (sym e) h, refl)
part_less false p e h = (p, refl, tt)

module _ (s : List Resolved) (om nu pl h : Bool) where
  mutual
    weaker : {t : ℕ} {v : AbstractValue} {o p : List ℕ} {a : Account} → Follows s to_contents t v o a → Checked h (p ≡ o) → Follows s (less om nu pl h) t v p a
    weaker (follows i d) e = follows i (under_weaker d e)

    under_weaker : {tags : List Tag} {k : Kind} {v : AbstractValue} {o p : List ℕ} {a : Account} → Under s to_contents tags k v o a → Checked h (p ≡ o) → Under s (less om nu pl h) tags k v p a
    under_weaker (bare g d) e = bare g (weaker d e)
    under_weaker (innermost f d) e = let r = is_at_less h _ e f.is_at in innermost (record { numbers = given nu f.numbers; is_at = r.1 }) (inside_weaker d r.2)
    under_weaker (outer f n d) e = let r = is_at_less h _ e f.is_at in outer (record { numbers = given nu f.numbers; is_at = r.1 }) (given nu n) (under_weaker d r.2)

    inside_weaker : {k : Kind} {v : AbstractValue} {n : ℕ} {x y : List ℕ} {i : Inside} → InsideFollows s to_contents k v n x i → Checked h (y ≡ x) → InsideFollows s (less om nu pl h) k v n y i
    inside_weaker (leaf_follows l m b) e = leaf_follows l (given nu m) tt
    inside_weaker (choice_follows g n d) e = choice_follows g (given nu n) (weaker d e)
    inside_weaker (sequence_follows n d) e = sequence_follows (given nu n) (members_weaker d e)
    inside_weaker (sequence_of_follows n d) e = sequence_of_follows (given nu n) (elements_weaker d e)
    inside_weaker (set_follows n p d) e = set_follows (given nu n) (given pl p) (members_weaker d e)
    inside_weaker (set_of_follows n p d) e = set_of_follows (given nu n) (given pl p) (elements_weaker d e)

    members_weaker : {place : ℕ → ℕ} {cs : List Component} {vs : Row} {k : ℕ} {x y : List ℕ} {rs : Rows} → MembersFollow s to_contents place cs vs k x rs → Checked h (y ≡ x) → MembersFollow s (less om nu pl h) place cs vs k y rs
    members_weaker none_follows e = none_follows
    members_weaker (absent_follows n d) e = absent_follows n (members_weaker d e)
    members_weaker (left_out_follows w f d) e = left_out_follows w f (members_weaker d e)
    members_weaker (default_follows w f n d) e = default_follows w f (given om n) (members_weaker d e)
    members_weaker (default_written w f n p g d) e = absurd n
    members_weaker (member_follows n p g d) e = let r = part_less h _ e p in member_follows (given om n) r.1 (weaker g r.2) (members_weaker d e)

    elements_weaker : {place : ℕ → ℕ} {u : ℕ} {vs : Row} {k : ℕ} {x y : List ℕ} {rs : Rows} → ElementsFollow s to_contents place u vs k x rs → Checked h (y ≡ x) → ElementsFollow s (less om nu pl h) place u vs k y rs
    elements_weaker no_element_follows e = no_element_follows
    elements_weaker (element_follows p g d) e = let r = part_less h _ e p in element_follows r.1 (weaker g r.2) (elements_weaker d e)

-- ---- lengths

mutual
  pub long_of : {s : List Resolved} {t : ℕ} {v : AbstractValue} {o : List ℕ} {a : Account} → Describes s t v o a → length o ≡ total_octets a
  long_of (describes i d h) = headed_long d h

  headed_long : {s : List Resolved} {tags : List Tag} {k : Kind} {v : AbstractValue} {c : Bool} {x o : List ℕ} {i : Inside} {a : Account} → ContentsHaveRows s k v c x i → Headed tags c x i o a → length o ≡ total_octets a
  headed_long (choice_listed g d) headed_bare = long_of d
  headed_long d (headed_innermost {h = h} {x = x} k) = let e = k.size_counted in let f = k.contents_counted in omega (arith, length-append h x)
  headed_long d (headed_outer {h = h} {y = y} f k) = let e = k.size_counted in let g = k.contents_counted in omega (arith, length-append h y)

-- ---- an account that describes an encoding follows

contents_whole : {k : Kind} {w : AbstractValue} {c : Bool} {x : List ℕ} → Contents Distinguished k w c x → c ≡ false
contents_whole (of_bits p e f) = e
contents_whole (of_named_bits p e f t) = e
contents_whole (of_octets p e) = e
contents_whole (of_utf8 p e) = e
contents_whole (of_restricted p e) = e
contents_whole q = refl

built_is : {s : List Resolved} {k : Kind} {v : AbstractValue} {c : Bool} {x : List ℕ} {i : Inside} → ContentsHaveRows s k v c x i → c ≡ is_built k
built_is (leaf_listed {k = k} l a con) = contents_whole con ∙ sym (leaf_not_built k l)
built_is (sequence_listed d) = refl
built_is (set_listed d p) = refl
built_is (sequence_of_listed d) = refl
built_is (set_of_listed d p) = refl
built_is (choice_listed g d) = refl

module _ (only : Only) (s : List Resolved) where
  header_from : {t : Tag} {c : Bool} {h x : List ℕ} {z : Numbers} → HeaderHasNumbers t c (length x) h z → HeaderFollows to_contents t c z (h ++ x) x
  header_from {t} {c} {h} {x} {z} k =
      let e = only t c (length x) h k.is_header in
      let f = ap length e ∙ shortest_length t c (length x) in
      let i = k.identifier_counted in
      let j = k.size_counted in
      let m : z.size ≡ length (shortest_size (length x)) = omega arith in
      record {
        numbers = record { identifier_counted = i; size_counted = m ∙ ap (λ n. length (shortest_size n)) (sym k.contents_counted) };
        is_at = record { header = h; is_header = subst (λ n. HeaderBy Distinguished t c n h) (sym k.contents_counted) k.is_header; whole = refl };
      }

  sizes_right : {cs : List Component} {vs : Row} {xs : List (List ℕ)} {rs : Rows} → MembersHaveRows s cs vs xs rs → length (concat xs) ≡ sum (sizes rs)
  sizes_right no_member_listed = refl
  sizes_right (absent_listed n d) = sizes_right d
  sizes_right (absent_default_listed w e d) = sizes_right d
  sizes_right (default_listed e d) = sizes_right d
  sizes_right (member_listed {x = x} {xs = xs} {a = a} {rs = rs} n g d) =
      let e = sum_append (total_octets a ∷ []) (sizes rs) in
      let f : sum (total_octets a ∷ []) ≡ total_octets a = omega arith in
      omega (arith, length-append x (concat xs), long_of g, sizes_right d)

  sizes_of_elements : {u : ℕ} {vs : Row} {xs : List (List ℕ)} {rs : Rows} → ElementsHaveRows s u vs xs rs → length (concat xs) ≡ sum (sizes rs)
  sizes_of_elements no_element_listed = refl
  sizes_of_elements (element_listed {x = x} {xs = xs} {a = a} {rs = rs} g d) =
      let e = sum_append (total_octets a ∷ []) (sizes rs) in
      let f : sum (total_octets a ∷ []) ≡ total_octets a = omega arith in
      omega (arith, length-append x (concat xs), long_of g, sizes_of_elements d)

  sizes_lens : {cs : List Component} {vs : Row} {xs : List (List ℕ)} {rs : Rows} → MembersHaveRows s cs vs xs rs → sizes rs ≡ lens xs
  sizes_lens no_member_listed = refl
  sizes_lens (absent_listed n d) = sizes_lens d
  sizes_lens (absent_default_listed w e d) = sizes_lens d
  sizes_lens (default_listed e d) = sizes_lens d
  sizes_lens (member_listed {x = x} {a = a} {rs = rs} n g d) = ap (λ m. m ∷ sizes rs) (sym (long_of g)) ∙ ap (λ ns. length x ∷ ns) (sizes_lens d)

  lens_of_elements : {u : ℕ} {vs : Row} {xs : List (List ℕ)} {rs : Rows} → ElementsHaveRows s u vs xs rs → sizes rs ≡ lens xs
  lens_of_elements no_element_listed = refl
  lens_of_elements (element_listed {x = x} {a = a} {rs = rs} g d) = ap (λ m. m ∷ sizes rs) (sym (long_of g)) ∙ ap (λ ns. length x ∷ ns) (lens_of_elements d)

  placed_right : {p q ns : List ℕ} {xs zs : List (List ℕ)} → ns ≡ lens xs → ArePlacedAt p q xs zs → ArePlaces (length ns) p q
  placed_right {p} {q} {ns} {xs} e a = subst (λ m. ArePlaces m p q) (sym (ap length e ∙ length_mapped length xs)) a.are_places

  at_sum : (place : ℕ → ℕ) {o y : List ℕ} {n : ℕ} (i : ℕ) → SliceAt o (place i) n y → SliceAt o (place (0 + i)) n y
  at_sum place {o} {y} {n} i a = subst (λ j. SliceAt o (place j) n y) (let e : i ≡ 0 + i = omega arith in e) a

  first_at : (place : ℕ → ℕ) (k : ℕ) (o x : List ℕ) (n : ℕ) → length x ≡ n → SliceAt o (place (k + 0)) (length x) x → SliceAt o (place k) n x
  first_at place k o x n e a = subst (λ m. SliceAt o (place k) m x) e (subst (λ j. SliceAt o (place j) (length x) x) (let f : k + 0 ≡ k = omega arith in f) a)

  next_at : (place : ℕ → ℕ) (k i : ℕ) (o y : List ℕ) → SliceAt o (place (k + suc i)) (length y) y → SliceAt o (place (suc k + i)) (length y) y
  next_at place k i o y a = subst (λ j. SliceAt o (place j) (length y) y) (let f : k + suc i ≡ suc k + i = omega arith in f) a

  slice_here : {all : List ℕ} {k : ℕ} {rs : Rows} (o fr x following : List ℕ) (n : ℕ) (d : Done all k rs) → o ≡ fr ++ (x ++ following) → length fr ≡ before all k → length x ≡ n → SliceAt o (before all k) n x
  slice_here o fr x following n d e f g = record { front = fr; following = following; whole = e; there = f; as_many = g }

  bare_from : {k : Kind} {v : AbstractValue} {n : ℕ} {x : List ℕ} {a : Account} → InsideFollows s to_contents k v n x (wrap_row a) → Under s to_contents [] k v x a
  bare_from (choice_follows g n d) = bare g d

  under_from : {tags : List Tag} {k : Kind} {v : AbstractValue} {c : Bool} {x o : List ℕ} {i : Inside} {a : Account} → ContentsHaveRows s k v c x i → ((n : ℕ) → n ≡ length x → InsideFollows s to_contents k v n x i) → Headed tags c x i o a → Under s to_contents tags k v o a
  under_from {x = x} d m headed_bare = bare_from (m (length x) refl)
  under_from d m (headed_innermost {t = t} {h = h} {x = x} {z = z} k) = innermost (subst (λ w. HeaderFollows to_contents t w z (h ++ x) x) (built_is d) (header_from k)) (m z.contents k.contents_counted)
  under_from d m (headed_outer f k) = outer (header_from k) (k.contents_counted ∙ headed_long d f) (under_from d m f)

  mutual
    follows_of : {t : ℕ} {v : AbstractValue} {o : List ℕ} {a : Account} → Describes s t v o a → Follows s to_contents t v o a
    follows_of (describes i d h) = follows i (under_from d (inside_from d) h)

    inside_from : {k : Kind} {v : AbstractValue} {c : Bool} {x : List ℕ} {i : Inside} → ContentsHaveRows s k v c x i → (n : ℕ) → n ≡ length x → InsideFollows s to_contents k v n x i
    inside_from (leaf_listed {k = k} {w = w} {x = x} l a con) n e =
        let c = subst (λ b. Contents Distinguished k w b x) (contents_whole con) con in
        leaf_follows l (x, (w, a, c), sym e) (w, a, c)
    inside_from (choice_listed g d) n e = choice_follows g (e ∙ long_of d) (follows_of d)
    inside_from (sequence_listed {xs = xs} d) n e = sequence_follows (e ∙ sizes_right d) (members_from d refl (record { front = []; split = refl; many = refl }) [] refl refl)
    inside_from (sequence_of_listed {xs = xs} d) n e = sequence_of_follows (e ∙ sizes_of_elements d) (elements_from d refl (record { front = []; split = refl; many = refl }) [] refl refl)
    inside_from (set_listed {rs = rs} {p = p} {q = q} d at) n e =
        set_follows (e ∙ standing_long at ∙ sizes_right d) (placed_right (sizes_lens d) at)
        (members_at d (λ i y f. at_sum (λ k. before (by_place (sizes rs) q) (get_or p k 0)) i (member_is_at at (sizes_lens d) i y f)))
    inside_from (set_of_listed {rs = rs} {p = p} {q = q} d at) n e =
        set_of_follows (e ∙ standing_long at ∙ sizes_of_elements d) (placed_right (lens_of_elements d) at)
        (elements_at d (λ i y f. at_sum (λ k. before (by_place (sizes rs) q) (get_or p k 0)) i (member_is_at at (lens_of_elements d) i y f)))

    members_at : {place : ℕ → ℕ} {cs : List Component} {vs : Row} {k : ℕ} {o : List ℕ} {ws : List (List ℕ)} {rs : Rows} → MembersHaveRows s cs vs ws rs → ((i : ℕ) (y : List ℕ) → slice_get ws i ≡ Some y → SliceAt o (place (k + i)) (length y) y) → MembersFollow s to_contents place cs vs k o rs
    members_at no_member_listed h = none_follows
    members_at (absent_listed n m) h = absent_follows n (members_at m h)
    members_at (absent_default_listed w g m) h = left_out_follows w g (members_at m h)
    members_at (default_listed g m) h = default_follows g.0 g.1 g (members_at m h)
    members_at {place} {k = k} {o = o} (member_listed {x = x} {a = a} n g m) h =
        member_follows n (first_at place k o x (total_octets a) (long_of g) (h 0 x refl)) (follows_of g) (members_at m (λ i y e. next_at place k i o y (h (suc i) y e)))

    elements_at : {place : ℕ → ℕ} {u : ℕ} {vs : Row} {k : ℕ} {o : List ℕ} {ws : List (List ℕ)} {rs : Rows} → ElementsHaveRows s u vs ws rs → ((i : ℕ) (y : List ℕ) → slice_get ws i ≡ Some y → SliceAt o (place (k + i)) (length y) y) → ElementsFollow s to_contents place u vs k o rs
    elements_at no_element_listed h = no_element_follows
    elements_at {place} {k = k} {o = o} (element_listed {x = x} {a = a} g m) h =
        element_follows (first_at place k o x (total_octets a) (long_of g) (h 0 x refl)) (follows_of g) (elements_at m (λ i y e. next_at place k i o y (h (suc i) y e)))

    members_from : {all : List ℕ} {place : ℕ → ℕ} {cs : List Component} {vs : Row} {k : ℕ} {o : List ℕ} {xs : List (List ℕ)} {rs : Rows} → MembersHaveRows s cs vs xs rs → place ≡ before all → Done all k rs → (fr : List ℕ) → o ≡ fr ++ concat xs → length fr ≡ before all k → MembersFollow s to_contents place cs vs k o rs
    members_from no_member_listed pl d fr e f = none_follows
    members_from (absent_listed n m) pl d fr e f = absent_follows n (members_from m pl (record { front = d.front; split = d.split; many = d.many }) fr e f)
    members_from (absent_default_listed w g m) pl d fr e f = left_out_follows w g (members_from m pl (record { front = d.front; split = d.split; many = d.many }) fr e f)
    members_from (default_listed g m) pl d fr e f = default_follows g.0 g.1 g (members_from m pl (record { front = d.front; split = d.split; many = d.many }) fr e f)
    members_from {all} {k = k} {o = o} (member_listed {x = x} {xs = xs} {a = a} {rs = ms} n g m) pl d fr e f =
        member_follows n (subst (λ j. SliceAt o j (total_octets a) x) (sym (ap (λ w. w k) pl)) (slice_here o fr x (concat xs) (total_octets a) d e f (long_of g))) (follows_of g)
        (members_from m pl (one_more refl d) (fr ++ x) (e ∙ sym (append_assoc fr x (concat xs))) (length-append fr x ∙ (let y = long_of g in let z : length fr + length x ≡ before all k + total_octets a = omega arith in z) ∙ further_one ms refl d))

    elements_from : {all : List ℕ} {place : ℕ → ℕ} {u : ℕ} {vs : Row} {k : ℕ} {o : List ℕ} {xs : List (List ℕ)} {rs : Rows} → ElementsHaveRows s u vs xs rs → place ≡ before all → Done all k rs → (fr : List ℕ) → o ≡ fr ++ concat xs → length fr ≡ before all k → ElementsFollow s to_contents place u vs k o rs
    elements_from no_element_listed pl d fr e f = no_element_follows
    elements_from {all} {k = k} {o = o} (element_listed {x = x} {xs = xs} {a = a} {rs = ms} g m) pl d fr e f =
        element_follows (subst (λ j. SliceAt o j (total_octets a) x) (sym (ap (λ w. w k) pl)) (slice_here o fr x (concat xs) (total_octets a) d e f (long_of g))) (follows_of g)
        (elements_from m pl (one_more refl d) (fr ++ x) (e ∙ sym (append_assoc fr x (concat xs))) (length-append fr x ∙ (let y = long_of g in let z : length fr + length x ≡ before all k + total_octets a = omega arith in z) ∙ further_one ms refl d))

pub right_follows : Only → (s : List Resolved) (t : ℕ) (v : AbstractValue) (o : List ℕ) (a : Account) → Describes s t v o a → Follows s to_contents t v o a
right_follows only s t v o a d = follows_of only s d

-- ---- a right account has no reason

pub none_fails : (s : List Resolved) (t : ℕ) (v : AbstractValue) (o : List ℕ) (a : Account) (r : Reason) → IsRightAccount s t v o a → Follows s to_contents t v o a → Fails s t v o a r → ⊥
none_fails s t v o a NotOfType i d f = f.denied i.value
none_fails s t v o a Shape i d f = f.denied (weaker s false false false false d tt)
none_fails s t v o a Omitted i d f = f.denied (weaker s true false false false d tt)
none_fails s t v o a Numbers' i d f = f.denied (weaker s true true false false d tt)
none_fails s t v o a Places i d f = f.denied (weaker s true true true false d tt)
none_fails s t v o a Length i d f = f.denied (long_of i.describes)
none_fails s t v o a Header i d f = f.denied (weaker s true true true true d refl)
none_fails s t v o a Contents' i d f = f.denied d
