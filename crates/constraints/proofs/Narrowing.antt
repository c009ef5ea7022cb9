-- What constraints leave, one by one.
use Rattle.std.proofs.Common.{◌≡◌, ◌⊎◌, ◌↔◌, inl, inr, ℕ, zero, suc, ◌+◌, ◌<◌, ℤ, List, [], ◌∷◌, Option, Some, None, Bool, true, false, ◌||◌, refl, sym, ap, ◌∙◌, subst, arith}
use Rattle.std.specs.Prelude.{slice_get, MatchOption, pos, negsuc, ◌≤ℤ◌, if◌then◌else◌}
use Rattle.std.proofs.lemmas.Int.{ints}
use Rattle.asn_base.specs.Names.{IsMember}
use Rattle.asn_base.specs.Schemas.{IsSize}
use Rattle.asn_base.specs.Types.{Range}
use Rattle.asn_base.specs.Typed.{IsInSome}
use Rattle.trees.specs.Values.{Name}
use Rattle.trees.specs.Constraints.{ConstraintTree}
use Rattle.trees.specs.Types.{an_integer}
use Rattle.trees.specs.Types as types
use Rattle.type_table.specs.Table.{WrittenKind, simple, reference, tagged, members, elements}
use Rattle.resolve.specs.Program.{Program}
use Rattle.constraints.specs.Constraints.{IsFitting, AllowsNumber, AllowsCharacter, has_marker, is_integer}
use Rattle.constraints.specs.Allowed.{IsCounted}
use Rattle.constraints.specs.declared.limit.Limit.{Limit}
use Rattle.constraints.specs.declared.meaning.ConstraintMeaning.{ConstraintMeaning}
use Rattle.constraints.specs.declared.meaning.Rule.TheVariants as rules
use Rattle.constraints.specs.declared.meaning.ConstraintFault.{ConstraintFault}
use Rattle.constraints.specs.declared.meaning.ConstraintFault.TheVariants as wrongs
use Rattle.constraints.specs.proving.Meanings.{IsMeaningOf, IsWrong}
use Rattle.constraints.specs.proving.Limits.{IsNarrowed, Narrows, IsMarkedIn, InAny, AmongAny, floor, AreWrong}
use Rattle.constraints.proofs.Senses.{counted_number}

-- ---- no constraint

counted_other : (k : WrittenKind) (z : ℤ) → is_integer k ≡ false → (IsCounted k z ↔ IsSize z)
counted_other (simple (an_integer ns)) z e = absurd cc
counted_other (simple types.a_boolean) z e = (λ i. i, λ i. i)
counted_other (simple (types.a_bit_string bs)) z e = (λ i. i, λ i. i)
counted_other (simple types.an_octet_string) z e = (λ i. i, λ i. i)
counted_other (simple types.a_null) z e = (λ i. i, λ i. i)
counted_other (simple types.an_object_identifier) z e = (λ i. i, λ i. i)
counted_other (simple types.a_relative_oid) z e = (λ i. i, λ i. i)
counted_other (simple (types.an_enumerated a b)) z e = (λ i. i, λ i. i)
counted_other (simple types.a_utf8_string) z e = (λ i. i, λ i. i)
counted_other (simple (types.a_restricted_string s)) z e = (λ i. i, λ i. i)
counted_other (reference j) z e = (λ i. i, λ i. i)
counted_other (tagged t w j) z e = (λ i. i, λ i. i)
counted_other (members l m cs) z e = (λ i. i, λ i. i)
counted_other (elements y j) z e = (λ i. i, λ i. i)

size_from : (z : ℤ) → pos 0 ≤ℤ z → IsSize z
size_from (pos n) h = tt
size_from (negsuc n) h = absurd (omega (arith, ints, h))

from_size : (z : ℤ) → IsSize z → pos 0 ≤ℤ z
from_size (pos n) h = omega (arith, ints)
from_size (negsuc n) h = absurd h

first_by : (k : WrittenKind) (z : ℤ) (b : Bool) →
    is_integer k ≡ b →
    (IsInSome z (record { least = if b then None else Some (pos 0); greatest = None } ∷ []) ↔ IsCounted k z)
first_by k z true e = (λ i. counted_number k z e, λ i. inl (tt, tt))
first_by k z false e = (λ i. (counted_other k z e).1 (forth i), λ i. inl (from_size z ((counted_other k z e).0 i), tt))
  where
    forth : IsInSome z (record { least = Some (pos 0); greatest = None } ∷ []) → IsSize z
    forth (inl i) = size_from z i.0
    forth (inr i) = absurd i

pub first_is : (k : WrittenKind) (z : ℤ) → (IsInSome z (record { least = floor k; greatest = None } ∷ []) ↔ IsCounted k z)
first_is k z = first_by k z (is_integer k) refl

-- ---- one more

number_by : (p : Program) (k : WrittenKind) (M : Name) (c : ConstraintTree) (z : ℤ) (o : Option (List Range)) →
    IsCounted k z →
    MatchOption o ((z : ℤ) → AllowsNumber p k M c z) (λ ns. (z : ℤ) → (IsInSome z ns ↔ (IsCounted k z × AllowsNumber p k M c z))) →
    (InAny o z ↔ AllowsNumber p k M c z)
number_by p k M c z None h a = (λ i. a z, λ i. tt)
number_by p k M c z (Some ns) h a = (λ i. ((a z).0 i).1, λ i. (a z).1 (h, i))

code_by : (c : ConstraintTree) (x : ℕ) (o : Option (List ℕ)) →
    x < 128 →
    MatchOption o ((x : ℕ) → AllowsCharacter c x) (λ cs. (x : ℕ) → (IsMember x cs ↔ (AllowsCharacter c x × (x < 128)))) →
    (AmongAny o x ↔ AllowsCharacter c x)
code_by c x None h a = (λ i. a x, λ i. tt)
code_by c x (Some cs) h a = (λ i. ((a x).0 i).0, λ i. (a x).1 (i, h))

below_more : (i n : ℕ) → i < n + 1 → (i < n) ⊎ (i ≡ n)
below_more zero zero l = inr refl
below_more zero (suc n) l = inl (omega arith)
below_more (suc i) zero l = absurd (omega (arith, l))
below_more (suc i) (suc n) l =
    elim (below_more i n (omega (arith, l))) [
      | inl h ↦ inl (omega (arith, h))
      | inr h ↦ inr (ap suc h)
    ]

or_either : (a b : Bool) → (a || b) ≡ true → (a ≡ true) ⊎ (b ≡ true)
or_either true b e = inl refl
or_either false b e = inr e

or_true : (a b : Bool) → (a ≡ true) ⊎ (b ≡ true) → (a || b) ≡ true
or_true true b e = refl
or_true false b (inl e) = absurd cc
or_true false b (inr e) = e

same_at : (cs : List ConstraintTree) (n : ℕ) (c d : ConstraintTree) → slice_get cs n ≡ Some c → slice_get cs n ≡ Some d → c ≡ d
same_at cs n c d e f = let q : Some c ≡ Some d = sym e ∙ f in cc

marked_later : (cs : List ConstraintTree) (n : ℕ) → IsMarkedIn cs n → IsMarkedIn cs (n + 1)
marked_later cs n m = record {
  number = m.number;
  constraint = m.constraint;
  before = (let l = m.before in omega (arith, l));
  there = m.there;
  marked = m.marked;
}

marked_either : (cs : List ConstraintTree) (n : ℕ) (c : ConstraintTree) →
    slice_get cs n ≡ Some c →
    IsMarkedIn cs (n + 1) →
    IsMarkedIn cs n ⊎ (has_marker c ≡ true)
marked_either cs n c e m =
    elim (below_more m.number n m.before) [
      | inl l ↦ inl (record { number = m.number; constraint = m.constraint; before = l; there = m.there; marked = m.marked })
      | inr q ↦ (let s = same_at cs n m.constraint c (ap (slice_get cs) (sym q) ∙ m.there) e in
          inr (subst (λ d. has_marker d ≡ true) s m.marked))
    ]

pub narrow_start : (p : Program) (k : WrittenKind) (M : Name) (cs : List ConstraintTree) (l : Limit) →
    Narrows p k M cs 0 l l
narrow_start p k M cs l = record {
  numbers = λ z h. (λ i. (i, λ j c b e. absurd (omega (arith, b))), λ i. i.0);
  fewer = λ z i. i;
  codes = λ x h. (λ i. (i, λ j c b e. absurd (omega (arith, b))), λ i. i.0);
  fewer_codes = λ x i. i;
  marked = (λ e. inl e, λ e. start e);
  fitting = λ i c b e. absurd (omega (arith, b));
  last = λ i b m. omega (arith, b);
}
  where
    start : (l.extensible ≡ true) ⊎ IsMarkedIn cs 0 → l.extensible ≡ true
    start (inl e) = e
    start (inr m) = let b = m.before in absurd (omega (arith, b))

module _ (p : Program) (k : WrittenKind) (M : Name) (cs : List ConstraintTree) (n : ℕ) (l m o : Limit) (c : ConstraintTree) (s : ConstraintMeaning)
    (w : Narrows p k M cs n l m)
    (plain : m.extensible ≡ false)
    (e : slice_get cs n ≡ Some c)
    (a : IsMeaningOf p k M c s)
    (d : IsNarrowed m s o) where
  number_forth : (z : ℤ) →
      IsCounted k z →
      IsInSome z o.numbers →
      IsInSome z l.numbers × ((i : ℕ) (c : ConstraintTree) → i < n + 1 → slice_get cs i ≡ Some c → AllowsNumber p k M c z)
  number_forth z h i =
      let j = (d.numbers z).0 i in
      let f = (w.numbers z h).0 j.0 in
      let g = (number_by p k M c z s.numbers h a.numbers).0 j.1 in (
        f.0,
        λ i x b q. elim (below_more i n b) [
          | inl t ↦ f.1 i x t q
          | inr t ↦ subst (λ y. AllowsNumber p k M y z) (same_at cs n c x e (ap (slice_get cs) (sym t) ∙ q)) g
        ],
      )

  number_back : (z : ℤ) →
      IsCounted k z →
      IsInSome z l.numbers × ((i : ℕ) (c : ConstraintTree) → i < n + 1 → slice_get cs i ≡ Some c → AllowsNumber p k M c z) →
      IsInSome z o.numbers
  number_back z h f =
      (d.numbers z).1 (
        (w.numbers z h).1 (f.0, λ i x b q. f.1 i x (omega (arith, b)) q),
        (number_by p k M c z s.numbers h a.numbers).1 (f.1 n c (omega arith) e),
      )

  code_forth : (x : ℕ) →
      x < 128 →
      IsMember x o.codes →
      IsMember x l.codes × ((i : ℕ) (c : ConstraintTree) → i < n + 1 → slice_get cs i ≡ Some c → AllowsCharacter c x)
  code_forth x h i =
      let j = (d.codes x).0 i in
      let f = (w.codes x h).0 j.0 in
      let g = (code_by c x s.codes h a.codes).0 j.1 in (
        f.0,
        λ i y b q. elim (below_more i n b) [
          | inl t ↦ f.1 i y t q
          | inr t ↦ subst (λ z. AllowsCharacter z x) (same_at cs n c y e (ap (slice_get cs) (sym t) ∙ q)) g
        ],
      )

  code_back : (x : ℕ) →
      x < 128 →
      IsMember x l.codes × ((i : ℕ) (c : ConstraintTree) → i < n + 1 → slice_get cs i ≡ Some c → AllowsCharacter c x) →
      IsMember x o.codes
  code_back x h f =
      (d.codes x).1 (
        (w.codes x h).1 (f.0, λ i y b q. f.1 i y (omega (arith, b)) q),
        (code_by c x s.codes h a.codes).1 (f.1 n c (omega arith) e),
      )

  mark_forth : (m.extensible ≡ true) ⊎ (s.marker ≡ true) → (l.extensible ≡ true) ⊎ IsMarkedIn cs (n + 1)
  mark_forth (inl q) = let f : false ≡ true = sym plain ∙ q in absurd cc
  mark_forth (inr q) = inr (record { number = n; constraint = c; before = omega arith; there = e; marked = sym a.marker ∙ q })

  mark_back_or : IsMarkedIn cs n ⊎ (has_marker c ≡ true) → (m.extensible ≡ true) ⊎ (s.marker ≡ true)
  mark_back_or (inl q) = inl (w.marked.1 (inr q))
  mark_back_or (inr q) = inr (a.marker ∙ q)

  mark_back : (l.extensible ≡ true) ⊎ IsMarkedIn cs (n + 1) → (m.extensible ≡ true) ⊎ (s.marker ≡ true)
  mark_back (inl q) = inl (w.marked.1 (inl q))
  mark_back (inr q) = mark_back_or (marked_either cs n c e q)

  pub narrow_more : Narrows p k M cs (n + 1) l o
  narrow_more = record {
    numbers = λ z h. (λ i. number_forth z h i, λ i. number_back z h i);
    fewer = λ z i. w.fewer z ((d.numbers z).0 i).0;
    codes = λ x h. (λ i. code_forth x h i, λ i. code_back x h i);
    fewer_codes = λ x i. w.fewer_codes x ((d.codes x).0 i).0;
    marked = (
      λ q. mark_forth (or_either m.extensible s.marker (sym d.extensible ∙ q)),
      λ q. d.extensible ∙ or_true m.extensible s.marker (mark_back q),
    );
    fitting = λ i x b q. elim (below_more i n b) [
      | inl t ↦ w.fitting i x t q
      | inr t ↦ subst (IsFitting p k M) (same_at cs n c x e (ap (slice_get cs) (sym t) ∙ q)) a.fitting
    ];
    last = λ i b q. elim (below_more i n b) [
      | inl t ↦ w.last i t q
      | inr t ↦ (let f : false ≡ true = sym plain ∙ w.marked.1 (subst (λ j. (l.extensible ≡ true) ⊎ IsMarkedIn cs j) t q) in absurd cc)
    ];
  }

-- ---- what is wrong

pub at_wrong : (p : Program) (k : WrittenKind) (M : Name) (cs : List ConstraintTree) (l : Limit) (n : ℕ) (c : ConstraintTree) (w : ConstraintFault) →
    slice_get cs n ≡ Some c →
    IsWrong p k M c w →
    AreWrong p k M cs l w
at_wrong p k M cs l n c wrongs.Memory e w = tt
at_wrong p k M cs l n c (wrongs.Circular v) e w = (n, c, e, w)
at_wrong p k M cs l n c (wrongs.At rules.Empty at) e w = absurd w
at_wrong p k M cs l n c (wrongs.At rules.WrongKind at) e w = (n, c, e, w)
at_wrong p k M cs l n c (wrongs.At rules.Reconstrained at) e w = absurd w
at_wrong p k M cs l n c (wrongs.At rules.LowerAboveUpper at) e w = (n, c, e, w)
at_wrong p k M cs l n c (wrongs.At rules.MarkerPlace at) e w = (n, c, e, w)
