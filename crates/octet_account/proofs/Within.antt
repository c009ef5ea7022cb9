-- The account of a value's encoding within a message keeps the bounds of accounts.
use Rattle.std.proofs.Common.{arith, ◌≡◌, ℕ, zero, suc, ◌+◌, ◌*◌, ◌-◌, ◌<◌, ◌≤◌, Bool, List, [], ◌∷◌, length, refl, sym, ap, subst, ◌∙◌, length-append}
use Rattle.std.specs.Prelude.{Option, Some, None, slice_get}
use Rattle.std.specs.List.{concat, AllByRecursion}
use Rattle.std.proofs.lemmas.Option.{slice_get_within}
use Rattle.asn_base.specs.declared.tag.Tag.{Tag}
use Rattle.asn_base.specs.Abstract.{AbstractValue, Row}
use Rattle.asn_base.specs.Types.{Alternative, Kind, Component, Resolved}
use Rattle.asn_base.specs.Typed.{ValueIn, value_in, ValueOf, of_leaf, of_sequence, of_set, of_sequence_of, of_set_of, of_choice, AreComponents, component_absent, component_present, AreElements, one_element}
use Rattle.asn_base.specs.Schemas.{AreListed, IsSound, IsSchema}
use Rattle.encodings.specs.Header.{identifier, LengthOf, short, long}
use Rattle.encodings.specs.Account.{Numbers, Account, header, Inside, wrap_row, Rows, HeaderHasNumbers, Headed, headed_bare, headed_innermost, headed_outer, ArePlacedAt, Describes, describes, ContentsHaveRows, leaf_listed, sequence_listed, set_listed, sequence_of_listed, set_of_listed, choice_listed, MembersHaveRows, no_member_listed, absent_listed, absent_default_listed, default_listed, member_listed, ElementsHaveRows, no_element_listed, element_listed}
use Rattle.octet_account.specs.Flat.{count, IsSmall, AreSmall, AllWritten, IsWithin, IsInsideWithin, AreRowsWithin}
use Rattle.asn_base.specs.proving.OneKind.{same_kind}

alternative_type : {o : Option Alternative} {a b : Alternative} → o ≡ Some a → o ≡ Some b → b.type ≡ a.type
alternative_type e f = ap type_in (sym f ∙ e)
  where
    type_in : Option Alternative → ℕ
    type_in None = 0
    type_in (Some a) = a.type

value_of_at : {s : List Resolved} {n : ℕ} {k k' : Kind} {v : AbstractValue} → k' ≡ k → ValueOf s n k' v → ValueOf s n k v
value_of_at {s} {n} {v = v} e a = subst (λ q. ValueOf s n q v) e a

value_at : {s : List Resolved} {n t u : ℕ} {v : AbstractValue} → u ≡ t → ValueIn s n u v → ValueIn s n t v
value_at {s} {n} {v = v} e a = subst (λ q. ValueIn s n q v) e a

-- ---- headers

small : {t : Tag} {c : Bool} {n : ℕ} {h : List ℕ} {z : Numbers} → HeaderHasNumbers t c n h z → length h ≤ 16777216 → n ≤ 16777216 → AreSmall z
small a l m =
    let e = a.size_counted in
    let f = a.contents_counted in
    record { identifier_small = omega arith; size_small = omega arith; contents_small = omega arith }

-- as many rows as headers around what is within
headed_within : {ts : List Tag} {c : Bool} {x o : List ℕ} {i : Inside} {a : Account} (n : ℕ) → Headed ts c x i o a → length o ≤ 16777216 → IsInsideWithin n i → IsWithin (length ts + n) a
headed_within n (headed_bare {a = a}) l w = subst (λ k. IsWithin k a) (let e : n ≡ 0 + n = omega arith in e) w
headed_within n (headed_innermost {h = h} {x = x} {z = z} {i = i} k) l w =
    let e = length-append h x in
    subst (λ m. IsWithin m (header z i)) (let f : suc n ≡ 1 + n = omega arith in f) (small k (omega arith) (omega arith), w)
headed_within n (headed_outer {u = u} {ts = ts} {h = h} {y = y} {z = z} {a = a} f k) l w =
    let e = length-append h y in
    let b = headed_within n f (omega arith) w in
    subst (λ m. IsWithin m (header z (wrap_row a))) (let g : suc (length (u ∷ ts) + n) ≡ suc (length (u ∷ ts)) + n = omega arith in g) (small k (omega arith) (omega arith), b)

headed_longer : {ts : List Tag} {c : Bool} {x o : List ℕ} {i : Inside} {a : Account} → Headed ts c x i o a → length x ≤ length o
headed_longer headed_bare = omega arith
headed_longer (headed_innermost {h = h} {x = x} k) = omega (arith, length-append h x)
headed_longer (headed_outer {h = h} {y = y} f k) = omega (arith, length-append h y, headed_longer f)

-- ---- members

each_short : (m : ℕ) (xs : List (List ℕ)) → length (concat xs) ≤ m → AllByRecursion (λ x. length x ≤ m) xs
each_short m [] l = tt
each_short m (x ∷ xs) l = let e = length-append x (concat xs) in ((omega arith), each_short m xs (omega arith))

at_short : (m : ℕ) (xs : List (List ℕ)) (i : ℕ) (x : List ℕ) → AllByRecursion (λ x. length x ≤ m) xs → slice_get xs i ≡ Some x → length x ≤ m
at_short m [] i x a e = absurd (cc)
at_short m (y ∷ xs) zero x a e = subst (λ q. length q ≤ m) (ap (some_or y) e) a.0
  where
    some_or : List ℕ → Option (List ℕ) → List ℕ
    some_or d None = d
    some_or d (Some q) = q
at_short m (y ∷ xs) (suc i) x a e = at_short m xs i x a.1 e

all_short : (m : ℕ) (xs : List (List ℕ)) → ((i : ℕ) (x : List ℕ) → slice_get xs i ≡ Some x → length x ≤ m) → AllByRecursion (λ x. length x ≤ m) xs
all_short m [] h = tt
all_short m (x ∷ xs) h = (h 0 x refl, all_short m xs (λ i y. h (suc i) y))

found_at : (p : List ℕ) (i : ℕ) → i < length p → (j : ℕ) × (slice_get p i ≡ Some j)
found_at [] i h = absurd (omega arith)
found_at (j ∷ p) zero h = (j, refl)
found_at (k ∷ p) (suc i) h = found_at p i (omega arith)

standing_short : {p q : List ℕ} {xs zs : List (List ℕ)} (m : ℕ) → ArePlacedAt p q xs zs → length (concat zs) ≤ m → AllByRecursion (λ x. length x ≤ m) xs
standing_short {p} {q} {xs} {zs} m a l = all_short m xs (λ i x e.
    (let b = slice_get_within xs i x e in
    let r = a.are_places.each_member in
    let f = found_at p i (omega arith) in
    at_short m zs f.0 x (each_short m zs l) (a.each i f.0 f.1 ∙ e)))

all_small : (m : ℕ) (p : List ℕ) → m ≤ 16777217 → ((i j : ℕ) → slice_get p i ≡ Some j → j < m) → AllByRecursion IsSmall p
all_small m [] l h = tt
all_small m (j ∷ p) l h = (let b = h 0 j refl in omega arith, all_small m p l (λ i k. h (suc i) k))

places_small : {p q : List ℕ} {xs zs : List (List ℕ)} → ArePlacedAt p q xs zs → length xs ≤ 16777216 → AllByRecursion IsSmall p
places_small {p} {q} {xs} a l = all_small (length xs) p (omega arith) (λ i j e. (let b = slice_get_within q j i (a.are_places.there i j e) in let r = a.are_places.each_place in omega arith))

inverse_small : {p q : List ℕ} {xs zs : List (List ℕ)} → ArePlacedAt p q xs zs → length xs ≤ 16777216 → AllByRecursion IsSmall q
inverse_small {p} {q} {xs} a l = all_small (length xs) q (omega arith) (λ j i e. (let b = slice_get_within p i j (a.are_places.back i j e) in let r = a.are_places.each_member in omega arith))

-- each encoding has some octets
abbrev AllSome : List (List ℕ) → Type 0
AllSome xs = AllByRecursion (λ x. 1 ≤ length x) xs

as_many_octets : (xs : List (List ℕ)) → AllSome xs → length xs ≤ length (concat xs)
as_many_octets [] a = omega arith
as_many_octets (x ∷ xs) a = let l = as_many_octets xs a.1 in let b = a.0 in omega (arith, l, b, length-append x (concat xs))

elements_count : {s : List Resolved} {u : ℕ} {vs : Row} {xs : List (List ℕ)} {rs : Rows} → ElementsHaveRows s u vs xs rs → count rs ≡ length xs
elements_count no_element_listed = refl
elements_count (element_listed a d) = ap suc (elements_count d)

elements_written : {s : List Resolved} {u : ℕ} {vs : Row} {xs : List (List ℕ)} {rs : Rows} → ElementsHaveRows s u vs xs rs → AllWritten rs
elements_written no_element_listed = tt
elements_written (element_listed a d) = elements_written d

members_count : {s : List Resolved} {cs : List Component} {vs : Row} {xs : List (List ℕ)} {rs : Rows} → MembersHaveRows s cs vs xs rs → (count rs ≡ length cs) × (length xs ≤ length cs)
members_count no_member_listed = (refl, omega arith)
members_count (absent_listed n d) = let r = members_count d in (ap suc r.0, (let l = r.1 in omega arith))
members_count (absent_default_listed x e d) = let r = members_count d in (ap suc r.0, (let l = r.1 in omega arith))
members_count (default_listed e d) = let r = members_count d in (ap suc r.0, (let l = r.1 in omega arith))
members_count (member_listed n a d) = let r = members_count d in (ap suc r.0, (let l = r.1 in omega arith))

few_members : {s : List Resolved} {e : Bool} {cs : List Component} → AreListed s e cs → length cs ≤ 16777216
few_members l = let e = ap length l.parts in let a = l.few_root in let b = l.few_more in omega (arith, e, a, b, length-append l.root l.more)

some_placed : {p q : List ℕ} {xs zs : List (List ℕ)} → ArePlacedAt p q xs zs → AllSome xs → AllSome zs
some_placed {p} {q} {xs} {zs} a h = each zs (λ j x e.
    (let b = slice_get_within zs j x e in
    let l = a.as_many in
    let r = a.are_places.each_place in
    let f = found_at q j (omega arith) in
    some_at xs f.0 x h (sym (a.each f.0 j (a.are_places.back f.0 j f.1)) ∙ e)))
  where
    some_or : List ℕ → Option (List ℕ) → List ℕ
    some_or d None = d
    some_or d (Some y) = y

    some_at : (xs : List (List ℕ)) (i : ℕ) (x : List ℕ) → AllSome xs → slice_get xs i ≡ Some x → 1 ≤ length x
    some_at [] i x a e = absurd (cc)
    some_at (y ∷ xs) zero x a e = subst (λ q. 1 ≤ length q) (ap (some_or y) e) a.0
    some_at (y ∷ xs) (suc i) x a e = some_at xs i x a.1 e

    each : (zs : List (List ℕ)) → ((j : ℕ) (x : List ℕ) → slice_get zs j ≡ Some x → 1 ≤ length x) → AllSome zs
    each [] h = tt
    each (z ∷ zs) h = (h 0 z refl, each zs (λ j x. h (suc j) x))

some_size : {n : ℕ} {l : List ℕ} → LengthOf n l → 1 ≤ length l
some_size (short h) = omega arith
some_size (long {ds = ds} f) = omega arith

some_header : {t : Tag} {c : Bool} {n : ℕ} {h : List ℕ} {z : Numbers} → HeaderHasNumbers t c n h z → 1 ≤ length h
some_header {t} {c} a =
    let b = a.is_header.header in
    let e = ap length b.whole in
    omega (arith, e, some_size b.is_size, length-append (identifier t.class t.number c) b.size)

mutual
  some_octets : {s : List Resolved} {t : ℕ} {v : AbstractValue} {o : List ℕ} {a : Account} → Describes s t v o a → 1 ≤ length o
  some_octets (describes i (choice_listed g d) headed_bare) = some_octets d
  some_octets (describes i d (headed_innermost {h = h} {x = x} k)) = omega (arith, some_header k, length-append h x)
  some_octets (describes i d (headed_outer {h = h} {y = y} f k)) = omega (arith, some_header k, length-append h y)

all_some : {s : List Resolved} {u : ℕ} {vs : Row} {xs : List (List ℕ)} {rs : Rows} → ElementsHaveRows s u vs xs rs → AllSome xs
all_some no_element_listed = tt
all_some (element_listed a d) = (some_octets a, all_some d)

module _ (s : List Resolved) (schema : IsSchema s) where
  mutual
    account_within : {m t : ℕ} {v : AbstractValue} {o : List ℕ} {a : Account} → Describes s t v o a → ValueIn s m t v → length o ≤ 16777216 → (n : ℕ) → 6 * m + 1 ≤ n → IsWithin n a
    account_within (describes {tags = tags} {x = x} {a = a} i d h) (value_in {n = m} j b) l n g =
        let few : length tags ≤ 6 = schema.few_tags _ _ _ i in
        let w = inside_within (schema.sound _ _ _ i) d (value_of_at (same_kind i j) b) (let e = headed_longer h in omega arith) (n - length tags) (omega arith) in
        subst (λ k. IsWithin k a) (let e : length tags + (n - length tags) ≡ n = omega arith in e) (headed_within (n - length tags) h l w)

    inside_within : {m : ℕ} {k : Kind} {v : AbstractValue} {c : Bool} {x : List ℕ} {i : Inside} → IsSound s k → ContentsHaveRows s k v c x i → ValueOf s m k v → length x ≤ 16777216 → (n : ℕ) → 6 * m + 1 ≤ n → IsInsideWithin n i
    inside_within sound (leaf_listed t e con) b l n g = tt
    inside_within sound (sequence_listed d) (of_leaf f) l n g = elim f [ ]
    inside_within sound (sequence_listed {xs = xs} d) (of_sequence b w) l n g =
        let c = members_count d in
        let e = c.0 in
        let f = few_members sound in
        (omega arith, members_within d b (each_short 16777216 xs l) n g)
    inside_within sound (set_listed d at) (of_leaf f) l n g = elim f [ ]
    inside_within sound (set_listed d at) (of_set b w) l n g =
        let c = members_count d in
        let e = c.0 in
        let k = c.1 in
        let f = few_members sound.0 in
        (omega arith, members_within d b (standing_short 16777216 at l) n g, places_small at (omega arith), inverse_small at (omega arith))
    inside_within sound (sequence_of_listed d) (of_leaf f) l n g = elim f [ ]
    inside_within sound (sequence_of_listed {xs = xs} d) (of_sequence_of b w) l n g =
        let c = elements_count d in
        let f = as_many_octets xs (all_some d) in
        (omega arith, elements_within d b (each_short 16777216 xs l) n g, elements_written d)
    inside_within sound (set_of_listed d at) (of_leaf f) l n g = elim f [ ]
    inside_within sound (set_of_listed {zs = zs} d at) (of_set_of b w) l n g =
        let c = elements_count d in
        let f = as_many_octets zs (some_placed at (all_some d)) in
        let k = at.as_many in
        (omega arith, elements_within d b (standing_short 16777216 at l) n g, elements_written d, places_small at (omega arith), inverse_small at (omega arith))
    inside_within sound (choice_listed h d) (of_leaf f) l n g = elim f [ ]
    inside_within sound (choice_listed h d) (of_choice j b) l n g = account_within d (value_at (alternative_type h j) b) l n g

    members_within : {m : ℕ} {cs : List Component} {vs : Row} {xs : List (List ℕ)} {rs : Rows} → MembersHaveRows s cs vs xs rs → AreComponents s m cs vs → AllByRecursion (λ x. length x ≤ 16777216) xs → (n : ℕ) → 6 * m + 1 ≤ n → AreRowsWithin n rs
    members_within no_member_listed b l n g = tt
    members_within (absent_listed e d) (component_absent b bs) l n g = (omega arith, members_within d bs l n g)
    members_within (absent_default_listed x e d) (component_absent b bs) l n g = (omega arith, members_within d bs l n g)
    members_within (default_listed e d) (component_present b bs) l n g = (omega arith, members_within d bs l n g)
    members_within (member_listed e a d) (component_present b bs) l n g = (account_within a b l.0 n g, members_within d bs l.1 n g)

    elements_within : {m u : ℕ} {vs : Row} {xs : List (List ℕ)} {rs : Rows} → ElementsHaveRows s u vs xs rs → AreElements s m u vs → AllByRecursion (λ x. length x ≤ 16777216) xs → (n : ℕ) → 6 * m + 1 ≤ n → AreRowsWithin n rs
    elements_within no_element_listed b l n g = tt
    elements_within (element_listed a d) (one_element b bs) l n g = (account_within a b l.0 n g, elements_within d bs l.1 n g)

  pub within : (t : ℕ) (v : AbstractValue) (o : List ℕ) (a : Account) → ValueIn s 64 t v → length o ≤ 16777216 → Describes s t v o a → IsWithin 400 a
  within t v o a b l d = account_within d b l 400 (omega arith)
