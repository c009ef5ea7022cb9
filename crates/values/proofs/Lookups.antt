-- The first place of a name in a list.
use Rattle.std.proofs.Common.{◌≡◌, ℕ, zero, suc, ◌+◌, ◌<◌, ◌≤◌, Bool, true, false, List, [], ◌∷◌, ◌++◌, Option, Some, None, refl, sym, subst, ap, ◌∙◌, take, length, map, arith, cond, option_map, get_or, below_more}
use Rattle.std.specs.Prelude.{bytes_eq, slice_get, MatchOption}
use Rattle.std.proofs.lemmas.List.{length-map}
use Rattle.std.proofs.lemmas.Option.{same_Some, none-some, slice_get_within, slice_get_read}
use Rattle.trees.specs.declared.value.Named.{Named}
use Rattle.trees.specs.declared.value.ValueSyntax.{ValueSyntax}
use Rattle.trees.specs.Values.{Name, name_at, member_of}
use Rattle.names.specs.Modules.{OccursIn, OccursTwice, AreDifferent}
use Rattle.names.specs.proving.Distinct.{same_bytes, equal_bytes, item_at, occurs_map}
use Rattle.type_table.specs.declared.table.ListMember.{ListMember}
use Rattle.type_table.specs.Seen.{part_of}
use Rattle.type_table.specs.Table.{Part}
use Rattle.value_notations.specs.Notations.{field_names, part_names}
use Rattle.value_notations.specs.Wrong.{AreIn}
use Rattle.values.specs.Arranged.{first_place}

-- ---- fronts

-- an element of a front is there in the whole
pub in_front : {A : Type 0} (xs : List A) (i k : ℕ) (x : A) → slice_get (take i xs) k ≡ Some x → (k < i) × (slice_get xs k ≡ Some x)
in_front [] zero k x e = absurd (none-some x e)
in_front [] (suc i) k x e = absurd (none-some x e)
in_front (y ∷ xs) zero k x e = absurd (none-some x e)
in_front (y ∷ xs) (suc i) zero x e = (omega arith, e)
in_front (y ∷ xs) (suc i) (suc k) x e = let h = in_front xs i k x e in let l = h.0 in (omega (arith, l), h.1)

-- an element before the end of a front is in the front
pub to_front : {A : Type 0} (xs : List A) (i k : ℕ) (x : A) → k < i → slice_get xs k ≡ Some x → slice_get (take i xs) k ≡ Some x
to_front [] i k x l e = absurd (none-some x e)
to_front (y ∷ xs) zero k x l e = absurd (omega (arith, l))
to_front (y ∷ xs) (suc i) zero x l e = e
to_front (y ∷ xs) (suc i) (suc k) x l e = to_front xs i k x (omega (arith, l)) e

-- a name in a front and after it is there twice
pub twice_of : (xs : List Name) (i : ℕ) (x : Name) → slice_get xs i ≡ Some x → OccursIn (take i xs) x → OccursTwice xs x
twice_of xs i x e s =
    let h = in_front xs i s.0 x s.1 in
    record { first = s.0; second = i; apart = h.0; here = h.1; there = e }

-- ---- searching

passed : (b : Bool) (o : Option ℕ) → cond b (Some 0) (option_map suc o) ≡ None → (b ≡ false) × (o ≡ None)
passed true o e = absurd cc
passed false None e = (refl, refl)
passed false (Some n) e = absurd cc

module _ (x : Name) where
  pub found_at : (ys : List Name) (i : ℕ) (y : Name) →
      first_place x (take i ys) ≡ None →
      slice_get ys i ≡ Some y →
      bytes_eq x y ≡ true →
      first_place x ys ≡ Some i
  found_at [] i y n s b = absurd cc
  found_at (z ∷ ys) zero y n s b = let q : z ≡ y = cc in rw (q, b) refl
  found_at (z ∷ ys) (suc i) y n s b =
      let m = passed (bytes_eq x z) (first_place x (take i ys)) n in
      let r = found_at ys i y m.1 s b in
      rw (m.0) (ap (option_map suc) r)

  pub passed_at : (ys : List Name) (i : ℕ) (y : Name) →
      first_place x (take i ys) ≡ None →
      slice_get ys i ≡ Some y →
      bytes_eq x y ≡ false →
      first_place x (take (i + 1) ys) ≡ None
  passed_at [] i y n s b = absurd cc
  passed_at (z ∷ ys) zero y n s b = let q : z ≡ y = cc in rw (q, b) refl
  passed_at (z ∷ ys) (suc i) y n s b =
      let m = passed (bytes_eq x z) (first_place x (take i ys)) n in
      let q : suc i + 1 ≡ suc (i + 1) = omega arith in
      let r = passed_at ys i y m.1 s b in
      rw (q, m.0) (ap (option_map suc) r)

  pub passed_all : (ys : List Name) (i : ℕ) → first_place x (take i ys) ≡ None → length ys ≤ i → first_place x ys ≡ None
  passed_all [] i n l = refl
  passed_all (z ∷ ys) zero n l = absurd (omega (arith, l))
  passed_all (z ∷ ys) (suc i) n l =
      let m = passed (bytes_eq x z) (first_place x (take i ys)) n in
      let r = passed_all ys i m.1 (omega (arith, l)) in
      rw (m.0) (ap (option_map suc) r)

-- ---- what the first place is

-- the first place of a name at place i
pub record IsFirst (x : Name) (xs : List Name) (i : ℕ) : Type 0 where
  pub place : ℕ
  pub is : first_place x xs ≡ Some place
  pub most : place ≤ i
  pub there : slice_get xs place ≡ Some x

first_on : (x y : Name) (ys : List Name) (i : ℕ) (b : Bool) → bytes_eq x y ≡ b → slice_get (y ∷ ys) i ≡ Some x →
    ((j : ℕ) → slice_get ys j ≡ Some x → IsFirst x ys j) → IsFirst x (y ∷ ys) i
first_on x y ys i true q e go =
    record {
      place = 0;
      is = ap (λ b. cond b (Some 0) (option_map suc (first_place x ys))) q;
      most = omega arith;
      there = ap Some (sym (equal_bytes x y q));
    }
first_on x y ys zero false q e go =
    let n : y ≡ x = same_Some y x e in
    let t : bytes_eq x y ≡ true = ap (bytes_eq x) n ∙ same_bytes x in
    absurd cc
first_on x y ys (suc i) false q e go =
    let r = go i e in
    let m = r.most in
    record {
      place = suc r.place;
      is = ap (λ b. cond b (Some 0) (option_map suc (first_place x ys))) q ∙ ap (option_map suc) r.is;
      most = omega (arith, m);
      there = r.there;
    }

pub first_of : (x : Name) (xs : List Name) (i : ℕ) → slice_get xs i ≡ Some x → IsFirst x xs i
first_of x [] i e = absurd cc
first_of x (y ∷ ys) i e = first_on x y ys i (bytes_eq x y) refl e (first_of x ys)

suc_some : (o : Option ℕ) (i : ℕ) → option_map suc o ≡ Some i → (j : ℕ) × (o ≡ Some j) × (suc j ≡ i)
suc_some None i e = absurd cc
suc_some (Some j) i e = (j, refl, same_Some (suc j) i e)

there_on : (x y : Name) (ys : List Name) (i : ℕ) (b : Bool) → bytes_eq x y ≡ b →
    cond b (Some 0) (option_map suc (first_place x ys)) ≡ Some i →
    ((j : ℕ) → first_place x ys ≡ Some j → slice_get ys j ≡ Some x) → slice_get (y ∷ ys) i ≡ Some x
there_on x y ys i true q e go =
    subst (λ k. slice_get (y ∷ ys) k ≡ Some x) (same_Some 0 i e) (ap Some (sym (equal_bytes x y q)))
there_on x y ys i false q e go =
    let r = suc_some (first_place x ys) i e in
    subst (λ k. slice_get (y ∷ ys) k ≡ Some x) r.2 (go r.0 r.1)

pub place_there : (x : Name) (xs : List Name) (i : ℕ) → first_place x xs ≡ Some i → slice_get xs i ≡ Some x
place_there x [] i e = absurd cc
place_there x (y ∷ ys) i e = there_on x y ys i (bytes_eq x y) refl e (place_there x ys)

pub place_none : (x : Name) (xs : List Name) → first_place x xs ≡ None → OccursIn xs x → ⊥
place_none x xs e s =
    let f = first_of x xs s.0 s.1 in
    let g = f.is in
    absurd cc

none_on : (x : Name) (xs : List Name) (o : Option ℕ) → first_place x xs ≡ o → (OccursIn xs x → ⊥) → first_place x xs ≡ None
none_on x xs None e n = e
none_on x xs (Some i) e n = absurd (n (i, place_there x xs i e))

pub no_place : (x : Name) (xs : List Name) → (OccursIn xs x → ⊥) → first_place x xs ≡ None
no_place x xs n = none_on x xs (first_place x xs) refl n

-- if the first place of each name is its own, no name is there twice
pub distinct_firsts : (xs : List Name) → ((i : ℕ) (x : Name) → slice_get xs i ≡ Some x → first_place x xs ≡ Some i) →
    AreDifferent xs
distinct_firsts xs f x t =
    let a = f t.first x t.here in
    let b = f t.second x t.there in
    let l = t.apart in
    let same : t.first ≡ t.second = same_Some t.first t.second (sym a ∙ b) in
    absurd (omega (arith, same, l))

-- a name whose first place is before a place is in the front up to there
pub before_place : (xs : List Name) (i j : ℕ) (x : Name) → first_place x xs ≡ Some j → j < i → OccursIn (take i xs) x
before_place xs i j x f l = (j, to_front xs i j x l (place_there x xs j f))

-- a name whose first place isn't before its own has its own as the first
pub first_itself : (xs : List Name) (i j : ℕ) (x : Name) → slice_get xs i ≡ Some x → first_place x xs ≡ Some j → i ≤ j →
    first_place x xs ≡ Some i
first_itself xs i j x e f l =
    let r = first_of x xs i e in
    let same : r.place ≡ j = same_Some r.place j (sym r.is ∙ f) in
    let m = r.most in
    let q : j ≡ i = omega (arith, same, m, l) in
    f ∙ ap Some q

-- ---- names as they lie in memory

pub field_at : (fs : List (Named ValueSyntax)) (i : ℕ) (f : Named ValueSyntax) → i < length fs → f ≡ get_or fs i f →
    slice_get (field_names (map member_of fs)) i ≡ Some (name_at f.name)
field_at fs i f l e = occurs_map (λ (g : _ × _). g.0) (map member_of fs) i (member_of f) (item_at member_of fs i f l e)

pub part_at : (cs : List ListMember) (i : ℕ) (c : ListMember) → i < length cs → c ≡ get_or cs i c →
    slice_get (part_names (map part_of cs)) i ≡ Some (name_at c.name)
part_at cs i c l e = occurs_map (λ (p : Part). p.name) (map part_of cs) i (part_of c) (item_at part_of cs i c l e)

pub fields_long : (fs : List (Named ValueSyntax)) → length (field_names (map member_of fs)) ≡ length fs
fields_long fs = length-map (map member_of fs) (λ f. f.0) ∙ length-map fs member_of

pub parts_long : (cs : List ListMember) → length (part_names (map part_of cs)) ≡ length cs
parts_long cs = length-map (map part_of cs) (λ (c : Part). c.name) ∙ length-map cs part_of

-- ---- walks over names

pub occurs_some : (x : Name) (xs : List Name) {i : ℕ} → Some i ≡ first_place x xs → OccursIn xs x
occurs_some x xs {i} e = (i, place_there x xs i (sym e))

-- the first i fields have names of components
abbrev pub AreKnown : (parts fields : List Name) → ℕ → Type 0
AreKnown cs fs i = (k : ℕ) → k < i → (x : Name) → slice_get fs k ≡ Some x → OccursIn cs x

pub known_next : (cs fs : List Name) (i : ℕ) (x n : Name) → slice_get fs i ≡ Some x → n ≡ x → OccursIn cs n →
    AreKnown cs fs i → AreKnown cs fs (i + 1)
known_next cs fs i x n e q s a =
    below_more (λ k. (y : Name) → slice_get fs k ≡ Some y → OccursIn cs y) i a
    (λ y f. subst (OccursIn cs) (q ∙ same_Some x y (sym e ∙ f)) s)

pub known_all : (cs fs : List Name) (i : ℕ) → length fs ≤ i → AreKnown cs fs i → (x : Name) → OccursIn fs x → OccursIn cs x
known_all cs fs i l a x s = let w = slice_get_within fs s.0 x s.1 in a s.0 (omega (arith, w, l)) x s.1

pub known_before : (cs fs : List Name) (i : ℕ) → AreKnown cs fs i → AreIn (take i fs) cs
known_before cs fs i a x s = let h = in_front fs i s.0 x s.1 in a s.0 h.0 x h.1

-- the first i fields are each at the first place of their names
abbrev pub AreFirst : List Name → ℕ → Type 0
AreFirst fs i = (k : ℕ) → k < i → (x : Name) → slice_get fs k ≡ Some x → first_place x fs ≡ Some k

pub first_next : (fs : List Name) (i : ℕ) (x n : Name) {j : ℕ} → slice_get fs i ≡ Some x → n ≡ x →
    Some j ≡ first_place n fs → i ≤ j → AreFirst fs i → AreFirst fs (i + 1)
first_next fs i x n {j} e q f l a =
    below_more (λ k. (y : Name) → slice_get fs k ≡ Some y → first_place y fs ≡ Some k) i a
    (λ y g. first_itself fs i j y g (sym (ap (λ z. first_place z fs) (q ∙ same_Some x y (sym e ∙ g))) ∙ sym f) l)

pub first_all : (fs : List Name) (i : ℕ) → length fs ≤ i → AreFirst fs i → AreDifferent fs
first_all fs i l a = distinct_firsts fs (λ k x e. let w = slice_get_within fs k x e in a k (omega (arith, w, l)) x e)

pub first_before : (fs : List Name) (i : ℕ) → AreFirst fs i → AreDifferent (take i fs)
first_before fs i a x t =
    let h = in_front fs i t.first x t.here in
    let g = in_front fs i t.second x t.there in
    let b = a t.first h.0 x h.1 in
    let c = a t.second g.0 x g.1 in
    let l = t.apart in
    let same : t.first ≡ t.second = same_Some t.first t.second (sym b ∙ c) in
    absurd (omega (arith, same, l))

-- the places of fields, in one pass
abbrev pub place_in : List Name → ListMember → Option ℕ
place_in fs c = first_place (name_at c.name) fs

pub places_all : (fs : List Name) (cs : List ListMember) →
    map (place_in fs) cs ≡ map (λ x. first_place x fs) (part_names (map part_of cs))
places_all fs [] = refl
places_all fs (c ∷ cs) = ap (λ ps. first_place (name_at c.name) fs ∷ ps) (places_all fs cs)

pub places_more : {A : Type 0} (ps : List A) (f : ListMember → A) (cs : List ListMember) (i : ℕ) (c : ListMember) → i < length cs →
    c ≡ get_or cs i c → ps ≡ map f (take i cs) → ps ++ f c ∷ [] ≡ map f (take (i + 1) cs)
places_more ps f cs i c l e h =
    ap (λ qs. qs ++ f c ∷ []) h ∙ mapped_more f cs i c (slice_get_read cs (length cs) i c refl l e)
  where
    mapped_more : {A : Type 0} (f : ListMember → A) (cs : List ListMember) (i : ℕ) (c : ListMember) → slice_get cs i ≡ Some c →
        map f (take i cs) ++ f c ∷ [] ≡ map f (take (i + 1) cs)
    mapped_more f [] i c e = absurd cc
    mapped_more f (d ∷ cs) zero c e = let q : d ≡ c = same_Some d c e in ap (λ z. f z ∷ []) (sym q)
    mapped_more f (d ∷ cs) (suc i) c e =
        let q : suc i + 1 ≡ suc (i + 1) = omega arith in
        ap (λ qs. f d ∷ qs) (mapped_more f cs i c e) ∙ ap (λ k. map f (take k (d ∷ cs))) (sym q)

-- what the first place means
pub place_found : (x : Name) (xs : List Name) (o : Option ℕ) → o ≡ first_place x xs →
    MatchOption o (OccursIn xs x → ⊥) (λ i. slice_get xs i ≡ Some x)
place_found x xs None e = place_none x xs (sym e)
place_found x xs (Some i) e = place_there x xs i (sym e)
