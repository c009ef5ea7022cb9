-- The bits that are left, after what is read or from the place of a fault on, are the last ones of those that there were.
use Rattle.std.proofs.Common.{◌≡◌, ℕ, Bool, true, false, List, [], ◌∷◌, ◌++◌, refl, sym, subst}
use Rattle.std.specs.Prelude.{if◌then◌else◌}
use Rattle.asn_base.specs.Abstract.{AbstractValue, Row}
use Rattle.asn_base.specs.Types.{Component, Resolved}
use Rattle.packed_encodings.specs.Lengths.{Bits}
use Rattle.packed_code.specs.declared.step.PackedField.{PackedField}
use Rattle.decode_faults.specs.declared.refusal.Refusal.{Refusal}
use Rattle.decode_faults.specs.declared.refusal.Refusal.TheVariants as why
use Rattle.packed_reader.specs.declared.part.Part.{Part}
use Rattle.packed_reader.specs.declared.part.Part.TheVariants.{Component as Component'}
use Rattle.packed_reader.specs.declared.sent.Sent.{Sent}
use Rattle.packed_reader.specs.Levels.{is_within, may_lack}
use Rattle.packed_reader.specs.Readings.{Fault, Reading, read, refused, stop, next, in_part, tested, Taken, taken, IsExact}
use Rattle.packed_reader.specs.Steps.{value_by}
use Rattle.packed_reader.specs.Structures.{presence_from}
use Rattle.packed_reader.specs.Values.{IsValueRead, value_from}
use Rattle.packed_reader.specs.proving.Running.{past, RunsValue, run_value, component_of_field, sent, run_presences, any_sent, differs, put, run_present, run_absent, run_member, run_members, run_group_inside}
use Rattle.packed_reader.proofs.Exact.{not_both, one_value, one_fault, in_three}

abbrev pub Suffix : Bits → Bits → Type 0
Suffix b r = (x : Bits) × (b ≡ x ++ r)

-- the bits that are left by what is read from b
abbrev pub Leaves : {X : Type 0} → Bits → Reading X → Type 0
Leaves b (read w r) = Suffix b r
Leaves b (refused e r) = Suffix b r

pub left_by_value : {X : Type 0} (b r : Bits) (w : X) (o : Reading X) → Leaves b o → o ≡ read w r → Suffix b r
left_by_value b r w (read v y) h e = subst (Suffix b) (one_value e).1 h
left_by_value b r w (refused d y) h e = absurd (not_both (sym e))

pub left_by_fault : {X : Type 0} (b r : Bits) (d : Fault) (o : Reading X) → Leaves b o → o ≡ refused d r → Suffix b r
left_by_fault b r d (read v y) h e = absurd (not_both e)
left_by_fault b r d (refused c y) h e = subst (Suffix b) (one_fault e).1 h

-- ---- what is made of parts

all_left : (b : Bits) → Suffix b b
all_left b = ([], refl)

left_of_left : (b y r : Bits) → Suffix b y → Suffix y r → Suffix b r
left_of_left b y r h i = (h.0 ++ i.0, in_three h.0 i.0 r h.1 i.1)

leaves_of_left : {X : Type 0} (b y : Bits) (o : Reading X) → Suffix b y → Leaves y o → Leaves b o
leaves_of_left b y (read w r) h i = left_of_left b y r h i
leaves_of_left b y (refused e r) h i = left_of_left b y r h i

next_leaves : {X Y : Type 0} (b : Bits) (o : Reading X) (g : X → Bits → Reading Y) → Leaves b o → ((v : X) (y : Bits) → Leaves y (g v y)) → Leaves b (next o g)
next_leaves b (read v y) g h i = leaves_of_left b y (g v y) h (i v y)
next_leaves b (refused e y) g h i = h

part_leaves : {X : Type 0} (b : Bits) (p : Part) (o : Reading X) → Leaves b o → Leaves b (in_part p o)
part_leaves b p (read v r) h = h
part_leaves b p (refused e r) h = h

tested_leaves : {X : Type 0} (test : X → Bool) (c : Refusal) (f : Bits → Reading X) (b : Bits) → Leaves b (f b) → Leaves b (tested test c f b)
tested_leaves {X} test c f b h = of (f b) h
  where
    by : (t : Bool) (v : X) (r : Bits) → Suffix b r → Leaves b (if t then read v r else stop c b)
    by true v r i = i
    by false v r i = all_left b

    of : (o : Reading X) → Leaves b o → Leaves b (next o (λ v r. if test v then read v r else stop c b))
    of (read v r) i = by (test v) v r i
    of (refused e r) i = i

exact_leaves : {X : Type 0} {P : X → Bits → Type 0} {f : Bits → Reading X} (F : IsExact P f) (b : Bits) → Leaves b (f b)
exact_leaves {X} {P} {f} F b = of (f b) refl
  where
    of : (o : Reading X) → f b ≡ o → Leaves b o
    of (read v r) e = let p = F.sound b r v e in (p.0, p.2)
    of (refused d r) e = F.inside b r d e

-- ---- values

past_leaves : {X : Type 0} (b : Bits) (k : ℕ) (o : Reading (Taken X)) → Leaves b o → Leaves b (past k o)
past_leaves b k (read w r) h = h
past_leaves b k (refused e r) h = h

pub value_leaves : (s : List Resolved) (l t k n : ℕ) (b : Bits) → IsExact (IsValueRead s l t n) (value_from s l t n) → value_by s l t n b ≡ value_from s l t n b → Leaves b (run_value s l t k n b)
value_leaves s l t k n b F e = past_leaves b k (value_by s l t n b) (subst (Leaves b) (sym e) (exact_leaves F b))

-- ---- components

presence_leaves : (c : Bool) (b : Bits) → Leaves b (presence_from c b)
presence_leaves true [] = all_left []
presence_leaves true (x ∷ b) = (x ∷ [], refl)
presence_leaves false b = all_left b

presences_leave : (xs : List Sent) (fs : List PackedField) (b : Bits) → Leaves b (run_presences xs fs b)
presences_leave xs [] b = all_left b
presences_leave xs (f ∷ fs) b =
    next_leaves b (presence_from f.with_bit b) (λ c r. run_presences (xs ++ sent f c ∷ []) fs r)
    (presence_leaves f.with_bit b) (λ c r. presences_leave (xs ++ sent f c ∷ []) fs r)

module _ (s : List Resolved) (l : ℕ) (value : RunsValue) (each : (t k n : ℕ) (b : Bits) → Leaves b (value t k n b)) (cs : List Component) where
  present_leaves : (f : PackedField) (ws : Row) (k n : ℕ) (b : Bits) → Leaves b (run_present s value cs f ws k n b)
  present_leaves f ws k n b =
      let test : Taken AbstractValue → Bool = differs s (component_of_field cs f) k in
      let inner : Leaves b (tested test why.NotCanonical (value f.ty.index k n) b) = tested_leaves test why.NotCanonical (value f.ty.index k n) b (each f.ty.index k n b) in
      next_leaves b (in_part (Component' f.place) (tested test why.NotCanonical (value f.ty.index k n) b)) (λ w r. read (put f ws w) r)
      (part_leaves b (Component' f.place) (tested test why.NotCanonical (value f.ty.index k n) b) inner) (λ w r. all_left r)

  absent_leaves : (f : PackedField) (ws : Row) (k n : ℕ) (b : Bits) → Leaves b (run_absent s l cs f ws k n b)
  absent_leaves f ws k n b = by (may_lack (is_within s l) (component_of_field cs f))
    where
      by : (t : Bool) → Leaves b (if t then read (taken ws k n) b else in_part (Component' f.place) (stop why.TooDeep b))
      by true = all_left b
      by false = all_left b

  member_leaves : (x : Sent) (ws : Row) (k n : ℕ) (b : Bits) → Leaves b (run_member s l value cs x ws k n b)
  member_leaves x ws k n b = by x.present
    where
      by : (t : Bool) → Leaves b (if t then run_present s value cs x.field ws k n b else run_absent s l cs x.field ws k n b)
      by true = present_leaves x.field ws k n b
      by false = absent_leaves x.field ws k n b

  members_leave : (xs : List Sent) (ws : Row) (k n : ℕ) (b : Bits) → Leaves b (run_members s l value cs xs ws k n b)
  members_leave [] ws k n b = all_left b
  members_leave (x ∷ xs) ws k n b =
      next_leaves b (run_member s l value cs x ws k n b) (λ w r. run_members s l value cs xs w.it w.skipped w.left r)
      (member_leaves x ws k n b) (λ w r. members_leave xs w.it w.skipped w.left r)

  pub group_leaves : (fs : List PackedField) (ws : Row) (k n : ℕ) (b : Bits) → Leaves b (run_group_inside s l value cs fs ws k n b)
  group_leaves fs ws k n b =
      next_leaves b (tested any_sent why.NotCanonical (run_presences [] fs) b) (λ xs r. run_members s l value cs xs ws k n r)
      (tested_leaves any_sent why.NotCanonical (run_presences [] fs) b (presences_leave [] fs b)) (λ xs r. members_leave xs ws k n r)
