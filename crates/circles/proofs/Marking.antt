-- Marks of types: one after the other, and what marked types lead to.
use Rattle.std.proofs.Common.{◌≡◌, ◌⊎◌, inl, inr, ℕ, zero, suc, ◌+◌, ◌<◌, ◌==◌, Bool, true, false, cond, eqb, List, [], ◌∷◌, ◌++◌, length, Some, refl, sym, subst, ap, ◌∙◌, arith, set, replicate, map, option_map, get_or, eq-eqb}
use Rattle.std.specs.Prelude.{slice_get, IsTrue}
use Rattle.std.proofs.lemmas.Bool.{eqb-true, cases_Bool, cases_lt}
use Rattle.std.proofs.lemmas.List.{length-set}
use Rattle.std.proofs.lemmas.Option.{slice_get_within, slice_get-map, slice_get_read, slice_get-get_or, get_or_from_slice_get, same_Some}
use Rattle.type_table.specs.asn_base.declared.tag.Tag.{Tag}
use Rattle.type_table.specs.trees.declared.types.Keyword.{Keyword}
use Rattle.type_table.specs.declared.table.ListMember.{ListMember}
use Rattle.type_table.specs.trees.declared.types.ElementsKind.{ElementsKind}
use Rattle.type_table.specs.trees.declared.types.ListKind.{ListKind}
use Rattle.type_table.specs.names.Modules.{OccursIn}
use Rattle.type_table.specs.trees.Types.{Plain}
use Rattle.type_table.specs.Seen.{part_of}
use Rattle.type_table.specs.Table.{Part, simple, reference, tagged, members, elements, Type'}
use Rattle.circles.specs.Circles.{IsPart, referred, target_tag, member, element, Reaches, itself, onward}
use Rattle.type_table.specs.proving.Notes.{set_kept, set_here, set_only}
use Rattle.type_table.specs.proving.Tables.{alike}
use Rattle.circles.specs.proving.Reach.{HasDefault, IsDefaulted, DefaultPath, IsMarked, AreUpTo, unmarked, Marks, MarksReached}

self : (s : ℕ) → (s == s) ≡ true
self s = search (arith, refl)

abbrev bit : Bool → ℕ
bit b = cond b 0 1

differ : (v s : ℕ) → (v ≡ s → ⊥) → (v == s) ≡ false
differ v s n = elim (cases_Bool (v == s)) [ inl e ↦ absurd (n (eqb-true v s e)) | inr e ↦ e ]

set_count : (xs : List ℕ) (i s v : ℕ) → slice_get xs i ≡ Some v → (v ≡ s → ⊥) →
    unmarked s (set xs i s) + 1 ≡ unmarked s xs
set_count [] i s v e f = absurd cc
set_count (x ∷ xs) zero s v e f =
    let q : x ≡ v = cc in
    let g : (x == s) ≡ false = ap (λ z. z == s) q ∙ differ v s f in
    cc (number (cond (s == s) 0 1) (cond (x == s) 0 1) (unmarked s xs) (ap bit (self s)) (ap bit g))
  where
    number : (a b n : ℕ) → a ≡ 0 → b ≡ 1 → a + n + 1 ≡ b + n
    number a b n e f = omega (arith, e, f)
set_count (x ∷ xs) (suc i) s v e f =
    let h = set_count xs i s v e f in
    omega (arith, h)

last : (xs : List ℕ) (x : ℕ) → slice_get (xs ++ x ∷ []) (length xs) ≡ Some x
last [] x = refl
last (y ∷ xs) x = last xs x

stays : (xs ys : List ℕ) (k j : ℕ) → slice_get xs k ≡ Some j → slice_get (xs ++ ys) k ≡ Some j
stays [] ys k j e = absurd cc
stays (x ∷ xs) ys zero j e = e
stays (x ∷ xs) ys (suc k) j e = stays xs ys k j e

-- an element of a list with one item more was in the list before, or is that item
either : (xs : List ℕ) (x k j : ℕ) → slice_get (xs ++ x ∷ []) k ≡ Some j → OccursIn xs j ⊎ (x ≡ j)
either [] x zero j e = let q : x ≡ j = cc in inr q
either [] x (suc k) j e = absurd cc
either (y ∷ xs) x zero j e = inl (zero, e)
either (y ∷ xs) x (suc k) j e = elim (either xs x k j e) [ inl h ↦ inl (suc h.0, h.1) | inr h ↦ inr h ]

-- ---- marking

-- it is marked now
pub marked_now : (s i v : ℕ) (marks waiting : List ℕ) → slice_get marks i ≡ Some v → (v ≡ s → ⊥) →
    Marks s (λ j. j ≡ i) marks (set marks i s) waiting (waiting ++ i ∷ [])
marked_now s i v marks waiting e f =
    let here : IsMarked s (set marks i s) i = set_here marks i s (slice_get_within marks i v e) in
    record {
      long = length-set marks i s;
      all = λ j q. subst (λ z. IsMarked s (set marks i s) z) (sym q) here;
      kept = λ j h. set_kept marks i j s h;
      only = λ j h. elim (set_only marks i j s s h) [ inl g ↦ inl g | inr g ↦ inr (g.0, (length waiting, last waiting i ∙ ap Some (sym g.0))) ];
      others = λ j n h. elim (set_only marks i j s n h) [ inl g ↦ inl g | inr g ↦ inr g.1 ];
      wait = λ j h. (h.0, stays waiting (i ∷ []) h.0 j h.1);
      marked = λ g j h. elim (either waiting i h.0 j h.1) [ inl k ↦ set_kept marks i j s (g j k) | inr k ↦ subst (λ z. IsMarked s (set marks i s) z) k here ];
      count = counted s i v marks waiting e f;
    }
  where
    counted : (s i v : ℕ) (marks waiting : List ℕ) → slice_get marks i ≡ Some v → (v ≡ s → ⊥) →
        unmarked s (set marks i s) + length (waiting ++ i ∷ []) ≡ unmarked s marks + length waiting
    counted s i v marks waiting e f = omega (arith, set_count marks i s v e f, longer waiting i)
      where
        longer : (xs : List ℕ) (x : ℕ) → length (xs ++ x ∷ []) ≡ length xs + 1
        longer [] x = refl
        longer (y ∷ xs) x = let h = longer xs x in omega (arith, h)

-- nothing is to be marked
pub marks_none : (s : ℕ) (Q : ℕ → Type 0) (marks waiting : List ℕ) → ((j : ℕ) → Q j → ⊥) →
    Marks s Q marks marks waiting waiting
marks_none s Q marks waiting none = record {
  long = refl;
  all = λ j q. absurd (none j q);
  kept = λ j h. h;
  only = λ j h. inl h;
  others = λ j n h. inl h;
  wait = λ j h. h;
  marked = λ f. f;
  count = refl;
}

-- first some are marked, and then others
pub marks_both : (s : ℕ) (Q R P : ℕ → Type 0) (m m' m'' w w' w'' : List ℕ) → Marks s Q m m' w w' →
    Marks s R m' m'' w' w'' → ((j : ℕ) → P j → Q j ⊎ R j) → ((j : ℕ) → Q j → P j) → ((j : ℕ) → R j → P j) →
    Marks s P m m'' w w''
marks_both s Q R P m m' m'' w w' w'' a b split left right = record {
  long = b.long ∙ a.long;
  all = λ j p. elim (split j p) [ inl q ↦ b.kept j (a.all j q) | inr r ↦ b.all j r ];
  kept = λ j h. b.kept j (a.kept j h);
  only = λ j h. elim (b.only j h) [
    | inl g ↦ elim (a.only j g) [ inl k ↦ inl k | inr k ↦ inr (left j k.0, b.wait j k.1) ]
    | inr g ↦ inr (right j g.0, g.1)
  ];
  others = λ j n h. elim (b.others j n h) [ inl g ↦ a.others j n g | inr g ↦ inr g ];
  wait = λ j h. b.wait j (a.wait j h);
  marked = λ f. b.marked (a.marked f);
  count = b.count ∙ a.count;
}

-- the same types, said otherwise
pub marks_alike : (s : ℕ) (Q P : ℕ → Type 0) (m m' w w' : List ℕ) → Marks s Q m m' w w' → ((j : ℕ) → P j → Q j) →
    ((j : ℕ) → Q j → P j) → Marks s P m m' w w'
marks_alike s Q P m m' w w' a to from = record {
  long = a.long;
  all = λ j p. a.all j (to j p);
  kept = a.kept;
  only = λ j h. elim (a.only j h) [ inl g ↦ inl g | inr g ↦ inr (from j g.0, g.1) ];
  others = a.others;
  wait = a.wait;
  marked = a.marked;
  count = a.count;
}

-- ---- the parts of types that aren't lists

reference_part : (i j : ℕ) → IsPart i (reference j) → i ≡ j
reference_part i j referred = refl

tagged_part : (g : Tag) (w : Keyword) (i j : ℕ) → IsPart i (tagged g w j) → i ≡ j
tagged_part g w i j target_tag = refl

elements_part : (e : ElementsKind) (i j : ℕ) → IsPart i (elements e j) → i ≡ j
elements_part e i j element = refl

simple_part : (p : Plain) (i : ℕ) → IsPart i (simple p) → ⊥
simple_part p i h = elim h [ ]

pub marks_simple : (s : ℕ) (p : Plain) (m w : List ℕ) → Marks s (λ i. IsPart i (simple p)) m m w w
marks_simple s p m w = marks_none s (λ i. IsPart i (simple p)) m w (λ i h. simple_part p i h)

pub marks_reference : (s j : ℕ) (m m' w w' : List ℕ) → Marks s (λ i. i ≡ j) m m' w w' →
    Marks s (λ i. IsPart i (reference j)) m m' w w'
marks_reference s j m m' w w' a = marks_alike s (λ i. i ≡ j) (λ i. IsPart i (reference j)) m m' w w' a (λ i h. reference_part i j h) (λ i q. subst (λ z. IsPart z (reference j)) (sym q) referred)

pub marks_tagged : (s j : ℕ) (g : Tag) (k : Keyword) (m m' w w' : List ℕ) → Marks s (λ i. i ≡ j) m m' w w' →
    Marks s (λ i. IsPart i (tagged g k j)) m m' w w'
marks_tagged s j g k m m' w w' a = marks_alike s (λ i. i ≡ j) (λ i. IsPart i (tagged g k j)) m m' w w' a (λ i h. tagged_part g k i j h) (λ i q. subst (λ z. IsPart z (tagged g k j)) (sym q) target_tag)

pub marks_elements : (s j : ℕ) (e : ElementsKind) (m m' w w' : List ℕ) → Marks s (λ i. i ≡ j) m m' w w' →
    Marks s (λ i. IsPart i (elements e j)) m m' w w'
marks_elements s j e m m' w w' a = marks_alike s (λ i. i ≡ j) (λ i. IsPart i (elements e j)) m m' w w' a (λ i h. elements_part e i j h) (λ i q. subst (λ y. IsPart y (elements e j)) (sym q) element)

-- ---- members, one after the other

pub part_at : (cs : List ListMember) (i : ℕ) (c : ListMember) → i < length cs → c ≡ get_or cs i c →
    slice_get (map part_of cs) i ≡ Some (part_of c)
part_at cs i c l e = slice_get-map part_of cs i ∙ ap (option_map part_of) (slice_get_read cs (length cs) i c refl l e)

-- the kind of the list doesn't matter
pub member_either : (l l' : ListKind) (m m' : Bool) (cs : List Part) (k : ℕ) → IsPart k (members l m cs) →
    IsPart k (members l' m' cs)
member_either l l' m m' cs k (member n c e q) = member n c e q

-- type j is that of one of the first n members
pub record IsMemberBelow (cs : List Part) (n j : ℕ) : Type 0 where
  pub number : ℕ
  pub few : number < n
  pub component : Part
  pub held : slice_get cs number ≡ Some component
  pub ty : component.ty ≡ j

no_member_below : (cs : List Part) (j : ℕ) → IsMemberBelow cs 0 j → ⊥
no_member_below cs j b = absurd (omega (arith, b.few))

pub members_none : (s : ℕ) (cs : List Part) (m w : List ℕ) → Marks s (λ j. IsMemberBelow cs 0 j) m m w w
members_none s cs m w = marks_none s (λ j. IsMemberBelow cs 0 j) m w (no_member_below cs)

-- there is one at a place
pub same_at : {X : Type 0} (xs : List X) (i : ℕ) (x y : X) → slice_get xs i ≡ Some x → slice_get xs i ≡ Some y → x ≡ y
same_at xs i x y e f = same_Some x y (sym e ∙ f)

pub last_or : (k n : ℕ) → k < n + 1 → (k < n) ⊎ (k ≡ n)
last_or k n l = elim (cases_lt k n) [ inl h ↦ inl h | inr h ↦ inr (omega (arith, h, l)) ]

pub members_more : (s n : ℕ) (cs : List Part) (c : Part) (m m' m'' w w' w'' : List ℕ) → slice_get cs n ≡ Some c →
    Marks s (λ j. IsMemberBelow cs n j) m m' w w' → Marks s (λ j. j ≡ c.ty) m' m'' w' w'' →
    Marks s (λ j. IsMemberBelow cs (n + 1) j) m m'' w w''
members_more s n cs c m m' m'' w w' w'' e a b =
    marks_both s (λ j. IsMemberBelow cs n j) (λ j. j ≡ c.ty) (λ j. IsMemberBelow cs (n + 1) j) m m' m'' w w' w'' a b (split n cs c e) (λ j p. left n cs j p) (λ j p. right n cs c e j p)
  where
    split : (n : ℕ) (cs : List Part) (c : Part) → slice_get cs n ≡ Some c → (j : ℕ) → IsMemberBelow cs (n + 1) j →
        IsMemberBelow cs n j ⊎ (j ≡ c.ty)
    split n cs c e j p = elim (last_or p.number n p.few) [
      | inl h ↦ inl (record { number = p.number; few = h; component = p.component; held = p.held; ty = p.ty })
      | inr h ↦ inr (sym p.ty ∙ ap (λ (q : Part). q.ty) (same_at cs n p.component c (ap (λ z. slice_get cs z) (sym h) ∙ p.held) e))
    ]

    left : (n : ℕ) (cs : List Part) (j : ℕ) → IsMemberBelow cs n j → IsMemberBelow cs (n + 1) j
    left n cs j p = record { number = p.number; few = omega (arith, p.few); component = p.component; held = p.held; ty = p.ty }

    right : (n : ℕ) (cs : List Part) (c : Part) → slice_get cs n ≡ Some c → (j : ℕ) → j ≡ c.ty →
        IsMemberBelow cs (n + 1) j
    right n cs c e j p = record { number = n; few = omega arith; component = c; held = e; ty = sym p }

member_below : (l : ListKind) (b : Bool) (cs : List Part) (k : ℕ) → IsPart k (members l b cs) →
    IsMemberBelow cs (length cs) k
member_below l b cs k (member n c e q) = record { number = n; few = slice_get_within cs n c e; component = c; held = e; ty = q }

pub members_all : (s : ℕ) (l : ListKind) (b : Bool) (cs : List Part) (m m' w w' : List ℕ) →
    Marks s (λ j. IsMemberBelow cs (length cs) j) m m' w w' → Marks s (λ k. IsPart k (members l b cs)) m m' w w'
members_all s l b cs m m' w w' a = marks_alike s (λ j. IsMemberBelow cs (length cs) j) (λ k. IsPart k (members l b cs)) m m' w w' a (λ k p. member_below l b cs k p) (λ k p. member p.number p.component p.held p.ty)

-- type j is that of one of the first n members, which has a DEFAULT
pub record IsDefaultedBelow (cs : List Part) (n j : ℕ) : Type 0 where
  pub is : IsDefaulted cs j
  pub few : is.number < n

no_default_below : (cs : List Part) (j : ℕ) → IsDefaultedBelow cs 0 j → ⊥
no_default_below cs j b = absurd (omega (arith, b.few))

pub defaults_none : (s : ℕ) (cs : List Part) (m w : List ℕ) → Marks s (λ j. IsDefaultedBelow cs 0 j) m m w w
defaults_none s cs m w = marks_none s (λ j. IsDefaultedBelow cs 0 j) m w (no_default_below cs)

pub defaults_more : (s n : ℕ) (cs : List Part) (c : Part) (m m' m'' w w' w'' : List ℕ) → slice_get cs n ≡ Some c →
    Marks s (λ j. IsDefaultedBelow cs n j) m m' w w' → Marks s (λ j. HasDefault c × (j ≡ c.ty)) m' m'' w' w'' →
    Marks s (λ j. IsDefaultedBelow cs (n + 1) j) m m'' w w''
defaults_more s n cs c m m' m'' w w' w'' e a b =
    marks_both s (λ j. IsDefaultedBelow cs n j) (λ j. HasDefault c × (j ≡ c.ty)) (λ j. IsDefaultedBelow cs (n + 1) j) m m' m'' w w' w'' a b (split n cs c e) (λ j p. left n cs j p) (λ j p. right n cs c e j p)
  where
    split : (n : ℕ) (cs : List Part) (c : Part) → slice_get cs n ≡ Some c → (j : ℕ) →
        IsDefaultedBelow cs (n + 1) j → IsDefaultedBelow cs n j ⊎ (HasDefault c × (j ≡ c.ty))
    split n cs c e j p = elim (last_or p.is.number n p.few) [
      | inl h ↦ inl (record { is = p.is; few = h })
      | inr h ↦ (let q = same_at cs n p.is.component c (ap (λ z. slice_get cs z) (sym h) ∙ p.is.held) e in inr (subst HasDefault q p.is.defaulted, sym p.is.ty ∙ ap (λ (q : Part). q.ty) q))
    ]

    left : (n : ℕ) (cs : List Part) (j : ℕ) → IsDefaultedBelow cs n j → IsDefaultedBelow cs (n + 1) j
    left n cs j p = record { is = p.is; few = omega (arith, p.few) }

    right : (n : ℕ) (cs : List Part) (c : Part) → slice_get cs n ≡ Some c → (j : ℕ) → HasDefault c × (j ≡ c.ty) →
        IsDefaultedBelow cs (n + 1) j
    right n cs c e j p = record { is = record { number = n; component = c; held = e; defaulted = p.0; ty = sym p.1 }; few = omega arith }

pub defaults_all : (s : ℕ) (cs : List Part) (m m' w w' : List ℕ) →
    Marks s (λ j. IsDefaultedBelow cs (length cs) j) m m' w w' → Marks s (IsDefaulted cs) m m' w w'
defaults_all s cs m m' w w' a = marks_alike s (λ j. IsDefaultedBelow cs (length cs) j) (IsDefaulted cs) m m' w w' a (λ k p. record { is = p; few = slice_get_within cs p.number p.component p.held }) (λ k p. p.is)

-- ---- what marked types lead to

-- some marked types still wait
pub record IsSearching (ts : List Type') (s : ℕ) (first marks waiting : List ℕ) : Type 0 where
  pub long : length marks ≡ length first
  pub kept : (j : ℕ) → IsMarked s first j → IsMarked s marks j
  pub marked : (j : ℕ) → OccursIn waiting j → IsMarked s marks j
  pub closed : (i : ℕ) → IsMarked s marks i →
      OccursIn waiting i ⊎ ((k : ℕ) (t : Type') → slice_get ts i ≡ Some t → IsPart k t.kind → IsMarked s marks k)
  pub only : (j : ℕ) → IsMarked s marks j → (i : ℕ) × IsMarked s first i × Reaches ts i j
  pub others : (j n : ℕ) → slice_get marks j ≡ Some n → slice_get first j ≡ Some n ⊎ (n ≡ s)

pub searching_first : (ts : List Type') (s : ℕ) (marks waiting : List ℕ) →
    ((j : ℕ) → IsMarked s marks j → OccursIn waiting j) → ((j : ℕ) → OccursIn waiting j → IsMarked s marks j) →
    IsSearching ts s marks marks waiting
searching_first ts s marks waiting wait marked = record {
  long = refl;
  kept = λ j h. h;
  marked = marked;
  closed = λ i h. inl (wait i h);
  only = λ j h. (j, h, itself);
  others = λ j n h. inl h;
}

reaches_more : (ts : List Type') (i j k : ℕ) (t : Type') → Reaches ts i j → slice_get ts j ≡ Some t →
    IsPart k t.kind → Reaches ts i k
reaches_more ts i j k t itself e p = onward k t e p itself
reaches_more ts i j k t (onward l u f q r) e p = onward l u f q (reaches_more ts l j k t r e p)

-- the last of those that wait is looked at
pub searching_next : (ts : List Type') (s at : ℕ) (t : Type') (first marks marks' waiting waiting' : List ℕ) →
    IsSearching ts s first marks (waiting ++ at ∷ []) → slice_get ts at ≡ Some t →
    Marks s (λ k. IsPart k t.kind) marks marks' waiting waiting' → IsSearching ts s first marks' waiting'
searching_next ts s at t first marks marks' waiting waiting' h e m =
    let here : IsMarked s marks at = h.marked at (length waiting, last waiting at) in
    record {
      long = m.long ∙ h.long;
      kept = λ j g. m.kept j (h.kept j g);
      marked = m.marked (λ j g. h.marked j (g.0, stays waiting (at ∷ []) g.0 j g.1));
      closed = λ i g. elim (m.only i g) [
        | inl k ↦ elim (h.closed i k) [
          | inl w ↦ elim (either waiting at w.0 i w.1) [
            | inl v ↦ inl (m.wait i v)
            | inr q ↦ inr (λ p u f is. m.all p (subst (λ z. IsPart p z.kind) (same ts i u t f (ap (λ z. slice_get ts z) (sym q) ∙ e)) is))
          ]
          | inr c ↦ inr (λ p u f is. m.kept p (c p u f is))
        ]
        | inr k ↦ inl k.1
      ];
      only = λ j g. elim (m.only j g) [
        | inl k ↦ h.only j k
        | inr k ↦ (let o = h.only at here in (o.0, o.1, reaches_more ts o.0 at j t o.2 e k.0))
      ];
      others = λ j n g. elim (m.others j n g) [ inl k ↦ h.others j n k | inr k ↦ inr k ];
    }
  where
    same : (ts : List Type') (i : ℕ) (u t : Type') → slice_get ts i ≡ Some u → slice_get ts i ≡ Some t → u ≡ t
    same ts i u t e f = let g = sym e ∙ f in cc

-- what waits is a type of the table
pub searching_below : (ts : List Type') (s at : ℕ) (first marks waiting : List ℕ) →
    IsSearching ts s first marks (waiting ++ at ∷ []) → at < length marks
searching_below ts s at first marks waiting h = slice_get_within marks at s (h.marked at (length waiting, last waiting at))

-- none waits any more
pub searching_last : (ts : List Type') (s : ℕ) (first marks waiting : List ℕ) → length waiting ≡ 0 →
    IsSearching ts s first marks waiting → MarksReached ts s first marks
searching_last ts s first marks waiting z h = record {
  long = h.long;
  kept = h.kept;
  closed = λ i k t g e p. elim (h.closed i g) [ inl w ↦ absurd (none waiting z w.0 i w.1) | inr c ↦ c k t e p ];
  only = h.only;
  others = h.others;
}
  where
    none : (xs : List ℕ) → length xs ≡ 0 → (k i : ℕ) → slice_get xs k ≡ Some i → ⊥
    none xs z k i e = let l = slice_get_within xs k i e in absurd (omega (arith, l, z))

-- marked types are closed under what they lead to
pub reached_marked : (ts : List Type') (s i j : ℕ) (first marks : List ℕ) → MarksReached ts s first marks →
    IsMarked s marks i → Reaches ts i j → IsMarked s marks j
reached_marked ts s i j first marks m h itself = h
reached_marked ts s i j first marks m h (onward k t e p r) = reached_marked ts s k j first marks m (m.closed i k t h e p) r

-- one search: no type has its mark before
pub first_wait : (s : ℕ) (Q : ℕ → Type 0) (m m' w w' : List ℕ) → ((j : ℕ) → IsMarked s m j → ⊥) →
    Marks s Q m m' w w' → (j : ℕ) → IsMarked s m' j → OccursIn w' j
first_wait s Q m m' w w' fresh a j h = elim (a.only j h) [ inl g ↦ absurd (fresh j g) | inr g ↦ g.1 ]

pub first_marked : (s : ℕ) (Q : ℕ → Type 0) (m m' w w' : List ℕ) → w ≡ [] → Marks s Q m m' w w' → (j : ℕ) →
    OccursIn w' j → IsMarked s m' j
first_marked s Q m m' w w' e a = a.marked (λ j h. absurd (none w e h.0 j h.1))
  where
    none : (xs : List ℕ) → xs ≡ [] → (k i : ℕ) → slice_get xs k ≡ Some i → ⊥
    none [] z k i e = absurd cc
    none (x ∷ xs) z k i e = absurd cc

pub found : (ts : List Type') (cs : List Part) (s j : ℕ) (m m' m'' w w' : List ℕ) → ((j : ℕ) → IsMarked s m j → ⊥) →
    Marks s (IsDefaulted cs) m m' w w' → MarksReached ts s m' m'' → j < length m'' → IsTrue (eqb (get_or m'' j 0) s) →
    DefaultPath ts cs j
found ts cs s j m m' m'' w w' fresh a b l t =
    let e : get_or m'' j 0 ≡ s = eqb-true (get_or m'' j 0) s t in
    let o = b.only j (slice_get-get_or m'' j 0 l ∙ ap Some e) in
    elim (a.only o.0 o.1) [ inl g ↦ absurd (fresh o.0 g) | inr g ↦ record { from = o.0; defaulted = g.0; reaches = o.2 } ]

pub finds : (ts : List Type') (cs : List Part) (s j : ℕ) (m m' m'' w w' : List ℕ) →
    Marks s (IsDefaulted cs) m m' w w' → MarksReached ts s m' m'' → DefaultPath ts cs j → IsTrue (eqb (get_or m'' j 0) s)
finds ts cs s j m m' m'' w w' a b h = eq-eqb (get_or m'' j 0) s (get_or_from_slice_get m'' j s 0 (reached_marked ts s h.from j m' m'' b (b.kept h.from (a.all h.from h.defaulted)) h.reaches))

pub up_to : (ts : List Type') (Q : ℕ → Type 0) (s : ℕ) (m m' m'' w w' : List ℕ) →
    ((j n : ℕ) → slice_get m j ≡ Some n → n < s) → Marks s Q m m' w w' → MarksReached ts s m' m'' → AreUpTo s m''
up_to ts Q s m m' m'' w w' earlier a b j n e =
    elim (b.others j n e) [
      | inl g ↦ elim (a.others j n g) [
        | inl h ↦ (let l = earlier j n h in omega (arith, l))
        | inr q ↦ omega (arith, q)
      ]
      | inr q ↦ omega (arith, q)
    ]

pub no_marks : (n : ℕ) → AreUpTo 0 (replicate n 0)
no_marks n j k e = let q = alike n 0 j k e in omega (arith, q)
