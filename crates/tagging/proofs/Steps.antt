-- The way through references, and the tags after them.
use Rattle.std.proofs.Common.{◌≡◌, ℕ, suc, ◌+◌, ◌<◌, ◌≤◌, false, List, ◌∷◌, length, Option, Some, refl, sym, ap, ◌∙◌, arith, subst}
use Rattle.asn_base.specs.declared.tag.Tag.{Tag}
use Rattle.trees.specs.declared.types.Keyword.{Keyword}
use Rattle.trees.specs.declared.module.TagDefault.{TagDefault}
use Rattle.trees.specs.declared.types.ListKind.TheVariants.{Sequence, Set, Choice}
use Rattle.type_table.specs.Table.{Type', WrittenKind, simple, reference, tagged, members, elements, target_of, IsWrittenType, IsLinked}
use Rattle.tagging.specs.proving.Columns.{is_reference, Front, here, through}
use Rattle.tagging.specs.Tags.{Path, label, own, is_tagged, tag_form, WrittenTags, core, target, inside, TagCount, none_written, as_target, one_more}
use Rattle.tagging.specs.Tagged.{IsOverfull}
use Rattle.tagging.specs.proving.TagStep.{IsInside}
use Rattle.tagging.proofs.Paths.{same_kind, written_exists}

pub front_written : (ts : List Type') (i f : ℕ) (p : Path) → Front ts i f → WrittenTags ts f p → WrittenTags ts i p
front_written ts i f p (here h e) w = w
front_written ts i f p (through {j = j} h u) w = target h (front_written ts j f p u w)

pub front_count : (ts : List Type') (i f n : ℕ) → Front ts i f → TagCount ts f n → TagCount ts i n
front_count ts i f n (here h e) w = w
front_count ts i f n (through {j = j} h u) w = as_target h (front_count ts j f n u w)

pub front_not : (ts : List Type') (i f : ℕ) (k : WrittenKind) (d : TagDefault) (l : Option (ℕ × ℕ)) → Front ts i f →
    IsWrittenType ts f k d l → is_reference k ≡ false
front_not ts i f k d l (here h e) g = ap is_reference (same_kind g h) ∙ e
front_not ts i f k d l (through {j = j} h u) g = front_not ts j f k d l u g

pub front_through : (ts : List Type') (i j f : ℕ) (k : WrittenKind) (d : TagDefault) (l : Option (ℕ × ℕ)) → Front ts i f →
    IsWrittenType ts i k d l → k ≡ reference j → Front ts j f
front_through ts i j f k d l (here h e) g r = let x = sym (ap is_reference (same_kind h g ∙ r)) ∙ e in absurd cc
front_through ts i j f k d l (through {j = m} h u) g r = let x = same_kind h g ∙ r in let q : m ≡ j = cc in subst (λ z. Front ts z f) q u

-- what is no reference and no tag has tags of its own
pub own_there : (k : WrittenKind) → is_reference k ≡ false → is_tagged k ≡ false → (p : Path) × (own k ≡ Some p)
own_there (simple n) e f = (_, refl)
own_there (members Sequence m cs) e f = (_, refl)
own_there (members Set m cs) e f = (_, refl)
own_there (members Choice m cs) e f = (_, refl)
own_there (elements y j) e f = (_, refl)
own_there (reference j) e f = absurd cc
own_there (tagged t k j) e f = absurd cc

pub ends_there : (ts : List Type') (i f : ℕ) (k : WrittenKind) (d : TagDefault) (l : Option (ℕ × ℕ)) (q : Path) →
    Front ts i f → IsWrittenType ts f k d l → is_tagged k ≡ false → ((p : Path) → own k ≡ Some p → p ≡ q) →
    WrittenTags ts i q × TagCount ts i 0
ends_there ts i f k d l q u h e g =
    let o = own_there k (front_not ts i f k d l u h) e in (
      subst (WrittenTags ts i) (g o.0 o.1) (front_written ts i f o.0 u (core h o.1)),
      front_count ts i f 0 u (none_written h o.1),
    )

pub inside_there : (ts : List Type') (i f j : ℕ) (t : Tag) (w : Keyword) (d : TagDefault) (l : Option (ℕ × ℕ)) →
    IsLinked ts → Front ts i f → IsWrittenType ts f (tagged t w j) d l → IsInside ts i t w d j
inside_there ts i f j t w d l k u h = record {
  there = k.closed f j (ap target_of h.found);
  tags = λ p v. front_written ts i f ((label t, tag_form w d p) ∷ p) u (inside h v refl);
  count = λ n c. front_count ts i f (suc n) u (one_more h c);
}

count_of : (ts : List Type') (i : ℕ) (p : Path) → WrittenTags ts i p → (n : ℕ) × TagCount ts i n
count_of ts i p (core h e) = (0, none_written h e)
count_of ts i p (target {j = j} {p = q} h w) = let c = count_of ts j q w in (c.0, as_target h c.1)
count_of ts i p (inside {j = j} {p = q} h w e) = let c = count_of ts j q w in (suc c.0, one_more h c.1)

pub count_exists : (ts : List Type') (i : ℕ) → IsLinked ts → i < length ts → (n : ℕ) × TagCount ts i n
count_exists ts i k l = let w = written_exists ts i k l in count_of ts i w.0 w.1

-- a type has one number of written tags
pub count_unique : (ts : List Type') (i m n : ℕ) → TagCount ts i m → TagCount ts i n → m ≡ n
count_unique ts i m n (none_written h e) (none_written g f) = refl
count_unique ts i m n (none_written h e) (as_target g w) = let s = same_kind h g in let t = ap own s in absurd cc
count_unique ts i m n (none_written h e) (one_more g w) = let s = same_kind h g in let t = ap own s in absurd cc
count_unique ts i m n (as_target h v) (none_written g f) = let s = same_kind h g in let t = ap own s in absurd cc
count_unique ts i m n (as_target {j = j} h v) (as_target {j = q} g w) = let s = same_kind h g in let t : j ≡ q = cc in count_unique ts q m n (subst (λ z. TagCount ts z m) t v) w
count_unique ts i m n (as_target h v) (one_more g w) = let s = same_kind h g in absurd cc
count_unique ts i m n (one_more h v) (none_written g f) = let s = same_kind h g in let t = ap own s in absurd cc
count_unique ts i m n (one_more h v) (as_target g w) = let s = same_kind h g in absurd cc
count_unique ts i m n (one_more {j = j} {n = m'} h v) (one_more {j = q} {n = n'} g w) =
    let s = same_kind h g in
    let t : j ≡ q = cc in
    ap suc (count_unique ts q m' n' (subst (λ z. TagCount ts z m') t v) w)

-- the number of tags from `at` on, with the passed ones, is the whole number
abbrev pub Passed : List Type' → ℕ → ℕ → ℕ → Type 0
Passed ts start at passed = (n : ℕ) → TagCount ts at n → TagCount ts start (passed + n)

pub none_passed : (ts : List Type') (start : ℕ) → Passed ts start start 0
none_passed ts start n w = let e : n ≡ 0 + n = omega arith in subst (TagCount ts start) e w

pub few_passed : (ts : List Type') (start at passed : ℕ) → Passed ts start at passed → TagCount ts at 0 →
    passed ≤ 4 → (n : ℕ) → TagCount ts start n → n ≤ 4
few_passed ts start at passed onto c l n w = let e : passed + 0 ≡ n = count_unique ts start (passed + 0) n (onto 0 c) w in omega (arith, e, l)

pub many_passed : (ts : List Type') (start at passed : ℕ) → IsLinked ts → at < length ts →
    Passed ts start at passed → 4 < passed → IsOverfull ts start
many_passed ts start at passed k l onto m = let c = count_exists ts at k l in record { count = passed + c.0; counts = onto c.0 c.1; many = omega (arith, m) }

pub one_passed : (ts : List Type') (start at passed : ℕ) (t : Tag) (w : Keyword) (d : TagDefault) (j : ℕ) →
    Passed ts start at passed → IsInside ts at t w d j → Passed ts start j (passed + 1)
one_passed ts start at passed t w d j onto u n c =
    let e : passed + suc n ≡ passed + 1 + n = omega arith in
    subst (TagCount ts start) e (onto (suc n) (u.count n c))
