-- Components of the root and of groups.
use Rattle.std.proofs.Common.{arith, ◌≡◌, ℕ, ◌+◌, ◌==◌, ◌&&◌, Bool, true, false, List, [], ◌∷◌, ◌++◌, map, refl, sym, ap, subst, ◌∙◌}
use Rattle.std.specs.Prelude.{if◌then◌else◌, not}
use Rattle.std.proofs.lemmas.Bool.{eqb-true, eq-eqb}
use Rattle.asn_base.specs.Abstract.{AbstractValue}
use Rattle.asn_base.specs.Types.{Component, Resolved}
use Rattle.asn_base.specs.Typed.{ValueIn, MayBeAbsent}
use Rattle.packed_encodings.specs.Weights.{weight}
use Rattle.encodings.specs.Encoding.{IsDefault}
use Rattle.packed_encodings.specs.Lengths.{Bits}
use Rattle.packed_encodings.specs.Orders.{Member, missing, standing, component, is_present, has_bit}
use Rattle.packed_encodings.specs.Packing.{lenient, EncodesPer, MembersPer, no_member, must_be_present, may_be_present, is_missing}
use Rattle.packed_encodings.specs.Computed.{is_default}
use Rattle.decode_faults.specs.declared.refusal.Refusal.TheVariants as why
use Rattle.packed_readings.specs.Outcome.{IsReading, Then, bit_from}
use Rattle.packed_reader.specs.Readings.{read, stop, in_part, Taken, taken, IsExact}
use Rattle.packed_reader.specs.Levels.{is_within, may_lack}
use Rattle.packed_reader.specs.Structures.{ReadsValue, presence_from, presences_from, part_of, may_be_present_so, taken_member, member_from, joined, members_from}
use Rattle.packed_reader.specs.Values.{IsValueRead}
use Rattle.packed_reader.proofs.Exact.{done_exact, stop_exact, convert, next_exact, Made, made_exact, part_exact, plain_exact, tested_exact}
use Rattle.packed_reader.proofs.Opening.{not_true}

-- ---- presence

-- the bits that tell which of these components are present
pub data PresenceIs {X : Type 0} : List (Member X) → List Bool → Bits → Type 0 where
  presence_none : PresenceIs [] [] []
  presence_bit : {m : Member X} {ms : List (Member X)} {c : Bool} {cs : List Bool} {p : Bits}
      → has_bit (component m).presence ≡ true
      → PresenceIs ms cs p
      → PresenceIs (m ∷ ms) (c ∷ cs) (c ∷ p)
  presence_without : {m : Member X} {ms : List (Member X)} {cs : List Bool} {p : Bits}
      → has_bit (component m).presence ≡ false
      → PresenceIs ms cs p
      → PresenceIs (m ∷ ms) (true ∷ cs) p

-- whether one is: its bit, if it has one
abbrev TellsOne : Bool → Bool → Bits → Type 0
TellsOne true c x = x ≡ c ∷ []
TellsOne false c x = (c ≡ true) × (x ≡ [])

pub moved : {X : Type 0} {v w : X} {x y : Bits} (P : X → Bits → Type 0) → w ≡ v → y ≡ x → P v x → P w y
moved {v = v} {w = w} {x = x} {y = y} P e f p = subst (λ q. P w q) (sym f) (subst (λ q. P q x) (sym e) p)

module _ (bit : IsReading (λ v x. x ≡ v ∷ []) bit_from) where
  presence_exact : (h : Bool) → IsExact (TellsOne h) (presence_from h)
  presence_exact true = plain_exact bit
  presence_exact false = done_exact true

  pub presences_exact : (ms : List (Member ℕ)) → IsExact (PresenceIs ms) (presences_from ms)
  presences_exact [] = convert (done_exact []) (λ v x p. moved (PresenceIs {X = ℕ} []) p.0 p.1 presence_none) from
    where
      from : (v : List Bool) (x : Bits) → PresenceIs {X = ℕ} [] v x → (v ≡ []) × (x ≡ [])
      from v x presence_none = (refl, refl)
  presences_exact (m ∷ ms) =
      convert (next_exact {Q = λ c. Made (PresenceIs ms) (λ cs. c ∷ cs)} (presence_exact (has_bit (component m).presence)) (λ c x p. made_exact (λ cs. c ∷ cs) (presences_exact ms))) to from
    where
      by : (h c : Bool) (cs : List Bool) (x y : Bits) → has_bit (component m).presence ≡ h → TellsOne h c x → PresenceIs ms cs y → PresenceIs (m ∷ ms) (c ∷ cs) (x ++ y)
      by true c cs x y e q r = subst (λ z. PresenceIs (m ∷ ms) (c ∷ cs) (z ++ y)) (sym q) (presence_bit e r)
      by false c cs x y e q r = subst (λ d. PresenceIs (m ∷ ms) (d ∷ cs) (x ++ y)) (sym q.0) (subst (λ z. PresenceIs (m ∷ ms) (true ∷ cs) (z ++ y)) (sym q.1) (presence_without e r))

      to : (v : List Bool) (z : Bits) → Then (TellsOne (has_bit (component m).presence)) (λ c. Made (PresenceIs ms) (λ cs. c ∷ cs)) v z → PresenceIs (m ∷ ms) v z
      to v z t = moved (PresenceIs (m ∷ ms)) t.is_next.made t.whole (by (has_bit (component m).presence) t.first t.is_next.of t.front t.back refl t.is_first t.is_next.is)

      from : (v : List Bool) (z : Bits) → PresenceIs (m ∷ ms) v z → Then (TellsOne (has_bit (component m).presence)) (λ c. Made (PresenceIs ms) (λ cs. c ∷ cs)) v z
      from v z (presence_bit {c = c} {cs = cs} {p = p} e r) = record {
        first = c;
        front = c ∷ [];
        back = p;
        is_first = subst (λ h. TellsOne h c (c ∷ [])) (sym e) refl;
        is_next = record { of = cs; is = r; made = refl };
        whole = refl;
      }
      from v z (presence_without {cs = cs} {p = p} e r) = record {
        first = true;
        front = [];
        back = p;
        is_first = subst (λ h. TellsOne h true []) (sym e) (refl, refl);
        is_next = record { of = cs; is = r; made = refl };
        whole = refl;
      }

-- ---- one component

-- a component's value, or its absence, with at most l levels
abbrev pub IsValid : List Resolved → ℕ → Member AbstractValue → Type 0
IsValid s l (missing c) = MayBeAbsent s l c.type c.presence
IsValid s l (standing c w) = ValueIn s l c.type w

abbrev pub member_weight : Member AbstractValue → ℕ
member_weight (missing c) = 0
member_weight (standing c w) = weight w

abbrev pub all_weight : List (Member AbstractValue) → ℕ
all_weight [] = 0
all_weight (m ∷ ms) = member_weight m + all_weight ms

-- it is present
pub record StoodSo (s : List Resolved) (l n : ℕ) (c : Component) (t : Taken (Member AbstractValue)) (x : Bits) : Type 0 where
  pub value : Taken AbstractValue
  pub is : IsValueRead s l c.type n value x
  pub right : value.skipped ≡ 0 → IsDefault s c value.it → ⊥
  pub made : t ≡ taken_member c value

-- it is absent
pub record LackedSo (s : List Resolved) (l n : ℕ) (c : Component) (t : Taken (Member AbstractValue)) (x : Bits) : Type 0 where
  pub may : MayBeAbsent s l c.type c.presence
  pub made : t ≡ taken (missing c) 0 n
  pub none : x ≡ []

abbrev pub OneMember : List Resolved → (l n : ℕ) → Component → Bool → Taken (Member AbstractValue) → Bits → Type 0
OneMember s l n c true = StoodSo s l n c
OneMember s l n c false = LackedSo s l n c

-- members that were read are of these components, in order
pub data AllRead {X : Type 0} (s : List Resolved) (l : ℕ) : List (Member X) → List (Member AbstractValue) → Type 0 where
  none_read : AllRead s l [] []
  one_read : {m : Member X} {r : Member AbstractValue} {ms : List (Member X)} {rs : List (Member AbstractValue)}
      → component m ≡ component r
      → IsValid s l r
      → AllRead s l ms rs
      → AllRead s l (m ∷ ms) (r ∷ rs)

-- bits that say members, of which p tells which are present
pub record AreMembersRead (s : List Resolved) (l : ℕ) (ms : List (Member ℕ)) (cs : List Bool) (p : Bits) (n : ℕ) (t : Taken (List (Member AbstractValue))) (x : Bits) : Type 0 where
  pub say_them : MembersPer s lenient t.it t.skipped p x
  pub are : AllRead s l ms t.it
  pub they_are_present : map is_present t.it ≡ cs
  pub counted : n ≡ all_weight t.it + t.left

-- what a test of defaults and one of their levels tell
pub record IsDecided (s : List Resolved) (l : ℕ) (c : Component) : Type 0 where
  pub default : (v : AbstractValue) → ValueIn s l c.type v → IsDefault s c v → is_default s c v ≡ true
  pub no_default : (v : AbstractValue) → ValueIn s l c.type v → (IsDefault s c v → ⊥) → is_default s c v ≡ false
  pub lacks : may_lack (is_within s l) c ≡ true → MayBeAbsent s l c.type c.presence
  pub may : MayBeAbsent s l c.type c.presence → may_lack (is_within s l) c ≡ true

pub data AllDecided (s : List Resolved) (l : ℕ) : List (Member ℕ) → Type 0 where
  none_decided : AllDecided s l []
  one_decided : {m : Member ℕ} {ms : List (Member ℕ)} → IsDecided s l (component m) → AllDecided s l ms → AllDecided s l (m ∷ ms)

-- a component without a bit has no DEFAULT
not_default : {s : List Resolved} (d : Component) {w : AbstractValue} → has_bit d.presence ≡ false → IsDefault s d w → ⊥
not_default {s} d {w} h i = not_true (sym h ∙ ap has_bit i.1)

module _ (s : List Resolved) (l : ℕ) (value : ReadsValue) (V : (t n : ℕ) → IsExact (IsValueRead s l t n) (value t n)) where
  right_of : (c : Component) (w : Taken AbstractValue) → IsDecided s l c → ValueIn s l c.type w.it → may_be_present_so s c w ≡ true → w.skipped ≡ 0 → IsDefault s c w.it → ⊥
  right_of c w h v e z d =
      let a : (w.skipped == 0) ≡ true = eq-eqb w.skipped 0 z in
      let b : is_default s c w.it ≡ true = h.default w.it v d in
      not_true (sym (ap (λ q. not (q && is_default s c w.it)) a ∙ ap not b) ∙ e)

  may_of : (c : Component) (w : Taken AbstractValue) → IsDecided s l c → ValueIn s l c.type w.it → (w.skipped ≡ 0 → IsDefault s c w.it → ⊥) → may_be_present_so s c w ≡ true
  may_of c w h v r = by (w.skipped == 0) refl
    where
      by : (q : Bool) → (w.skipped == 0) ≡ q → not (q && is_default s c w.it) ≡ true
      by false e = refl
      by true e = ap not (h.no_default w.it v (r (eqb-true w.skipped 0 e)))

  pub member_exact : (m : Member ℕ) (n : ℕ) (c : Bool) → IsDecided s l (component m) → IsExact (OneMember s l n (component m) c) (member_from s l value m c n)
  member_exact m n true h =
      convert (made_exact (taken_member (component m)) (part_exact (part_of m) (tested_exact (may_be_present_so s (component m)) why.NotCanonical (V (component m).type n)))) to from
    where
      to : (t : Taken (Member AbstractValue)) (x : Bits) → Made (λ v x. IsValueRead s l (component m).type n v x × (may_be_present_so s (component m) v ≡ true)) (taken_member (component m)) t x → StoodSo s l n (component m) t x
      to t x q = record { value = q.of; is = q.is.0; right = right_of (component m) q.of h q.is.0.value q.is.1; made = q.made }

      from : (t : Taken (Member AbstractValue)) (x : Bits) → StoodSo s l n (component m) t x → Made (λ v x. IsValueRead s l (component m).type n v x × (may_be_present_so s (component m) v ≡ true)) (taken_member (component m)) t x
      from t x q = record { of = q.value; is = (q.is, may_of (component m) q.value h q.is.value q.right); made = q.made }
  member_exact m n false h = by (may_lack (is_within s l) (component m)) refl
    where
      by : (q : Bool) → may_lack (is_within s l) (component m) ≡ q → IsExact (LackedSo s l n (component m)) (λ b. if q then read (taken (missing (component m)) 0 n) b else in_part (part_of m) (stop why.TooDeep b))
      by true e = convert (done_exact (taken (missing (component m)) 0 n)) (λ t x p. record { may = h.lacks e; made = p.0; none = p.1 }) (λ t x p. (p.made, p.none))
      by false e = convert (stop_exact (record { why = why.TooDeep; path = part_of m ∷ [] })) (λ t x p. absurd p) (λ t x p. absurd (not_true (sym e ∙ h.may p.may)))

  -- ---- all components

  -- in front of others
  cons_taken : {ms : List (Member ℕ)} {cs : List Bool} {p q : Bits} (m : Member ℕ) (n : ℕ) (w : Taken AbstractValue) (ts : Taken (List (Member AbstractValue))) (x y : Bits)
      → ((j : ℕ) (b : Bits) → MembersPer s lenient ts.it j p b → MembersPer s lenient (standing (component m) w.it ∷ ts.it) (w.skipped + j) q (x ++ b))
      → IsValueRead s l (component m).type n w x → AreMembersRead s l ms cs p w.left ts y → AreMembersRead s l (m ∷ ms) (true ∷ cs) q n (joined (taken_member (component m) w) ts) (x ++ y)
  cons_taken m n w ts x y f v r = record {
    say_them = f ts.skipped y r.say_them;
    are = one_read refl v.value r.are;
    they_are_present = ap (λ q. true ∷ q) r.they_are_present;
    counted = (let a = v.counted in let b = r.counted in omega arith);
  }

  cons_lacked : {ms : List (Member ℕ)} {cs : List Bool} {p : Bits} (m : Member ℕ) (n : ℕ) (ts : Taken (List (Member AbstractValue))) (y : Bits)
      → has_bit (component m).presence ≡ true → MayBeAbsent s l (component m).type (component m).presence → AreMembersRead s l ms cs p n ts y → AreMembersRead s l (m ∷ ms) (false ∷ cs) (false ∷ p) n (joined (taken (missing (component m)) 0 n) ts) y
  cons_lacked {p = p} m n ts y h a r = record {
    say_them = subst (λ k. MembersPer s lenient (missing (component m) ∷ ts.it) k (false ∷ p) y) (let z : ts.skipped ≡ 0 + ts.skipped = omega arith in z) (is_missing h r.say_them);
    are = one_read refl a r.are;
    they_are_present = ap (λ q. false ∷ q) r.they_are_present;
    counted = (let b = r.counted in omega arith);
  }

  no_members : (it : List (Member AbstractValue)) (k left n : ℕ) (x : Bits) → MembersPer s lenient it k [] x → AllRead {X = ℕ} s l [] it → n ≡ all_weight it + left → (taken it k left ≡ taken [] 0 n) × (x ≡ [])
  no_members [] _ left n _ no_member none_read e = (ap (taken [] 0) (let f : left ≡ n = omega arith in f), refl)
  no_members (r ∷ rs) k left n x m a e = elim a [ ]

  abbrev First : (ms : List (Member ℕ)) → List Bool → Bits → ℕ → Component → Bool → Taken (List (Member AbstractValue)) → Bits → Type 0
  First ms cs p n d c = Then (OneMember s l n d c) (λ t. Made (AreMembersRead s l ms cs p t.left) (joined t))

  -- the first of members that were read, and the others
  taken_first : {ms : List (Member ℕ)} {rs : List (Member AbstractValue)} {cs : List Bool} {p : Bits} (d : Component) (w : AbstractValue) (n j k left : ℕ) (x b : Bits)
      → EncodesPer s lenient d.type w j x → ValueIn s l d.type w → (j ≡ 0 → IsDefault s d w → ⊥)
      → MembersPer s lenient rs k p b → AllRead s l ms rs → map is_present rs ≡ cs → n ≡ (weight w + all_weight rs) + left
      → First ms cs p n d true (taken (standing d w ∷ rs) (j + k) left) (x ++ b)
  taken_first {rs = rs} d w n j k left x b a v r m q e c = record {
    first = taken (standing d w) j (all_weight rs + left);
    front = x;
    back = b;
    is_first = record { value = taken w j (all_weight rs + left); is = record { says_it = a; value = v; counted = omega arith }; right = r; made = refl };
    is_next = record { of = taken rs k left; is = record { say_them = m; are = q; they_are_present = e; counted = refl }; made = refl };
    whole = refl;
  }

  lacked_first : {ms : List (Member ℕ)} {rs : List (Member AbstractValue)} {cs : List Bool} {p : Bits} (d : Component) (n k left : ℕ) (b : Bits)
      → MayBeAbsent s l d.type d.presence
      → MembersPer s lenient rs k p b → AllRead s l ms rs → map is_present rs ≡ cs → n ≡ (0 + all_weight rs) + left
      → First ms cs p n d false (taken (missing d ∷ rs) k left) b
  lacked_first {rs = rs} d n k left b a m q e c = record {
    first = taken (missing d) 0 n;
    front = [];
    back = b;
    is_first = record { may = a; made = refl; none = refl };
    is_next = record { of = taken rs k left; is = record { say_them = m; are = q; they_are_present = e; counted = omega arith }; made = ap (λ z. taken (missing d ∷ rs) z left) (let z : k ≡ 0 + k = omega arith in z) };
    whole = refl;
  }

  same_bit : {c d : Component} → c ≡ d → has_bit d.presence ≡ has_bit c.presence
  same_bit e = ap (λ q. has_bit q.presence) (sym e)

  heads : {x y : Bool} {xs ys : List Bool} → x ∷ xs ≡ y ∷ ys → xs ≡ ys
  heads e = cc

  split_bit : (m : Member ℕ) (ms : List (Member ℕ)) (c : Bool) (cs : List Bool) (p : Bits) (n : ℕ) → has_bit (component m).presence ≡ true → (it : List (Member AbstractValue)) (k left : ℕ) (x : Bits) → MembersPer s lenient it k (c ∷ p) x → AllRead s l (m ∷ ms) it → map is_present it ≡ c ∷ cs → n ≡ all_weight it + left → First ms cs p n (component m) c (taken it k left) x
  split_bit m ms c cs p n hb _ _ left _ (must_be_present h a r) (one_read e v q) st ct = absurd (not_true (sym h ∙ same_bit e ∙ hb))
  split_bit m ms _ cs p n hb _ _ left _ (may_be_present {c = d} {w = w} {ms = rs} {j = j} {n = k} {x = x} {b = b} h a r ms') (one_read e v q) st ct =
      subst (λ y. First ms cs p n y true (taken (standing d w ∷ rs) (j + k) left) (x ++ b)) (sym e) (taken_first d w n j k left x b a v r ms' q (heads st) ct)
  split_bit m ms _ cs p n hb _ _ left _ (is_missing {c = d} {ms = rs} {n = k} {b = b} h ms') (one_read e v q) st ct =
      subst (λ y. First ms cs p n y false (taken (missing d ∷ rs) k left) b) (sym e) (lacked_first d n k left b v ms' q (heads st) ct)

  split_must : (m : Member ℕ) (ms : List (Member ℕ)) (cs : List Bool) (p : Bits) (n : ℕ) → has_bit (component m).presence ≡ false → (it : List (Member AbstractValue)) (k left : ℕ) (x : Bits) → MembersPer s lenient it k p x → AllRead s l (m ∷ ms) it → map is_present it ≡ true ∷ cs → n ≡ all_weight it + left → First ms cs p n (component m) true (taken it k left) x
  split_must m ms cs p n hb _ _ left _ (must_be_present {c = d} {w = w} {ms = rs} {j = j} {n = k} {x = x} {b = b} h a ms') (one_read e v q) st ct =
      subst (λ y. First ms cs p n y true (taken (standing d w ∷ rs) (j + k) left) (x ++ b)) (sym e) (taken_first d w n j k left x b a v (λ z i. not_default d h i) ms' q (heads st) ct)
  split_must m ms cs _ n hb _ _ left _ (may_be_present h a r ms') (one_read e v q) st ct = absurd (not_true (sym hb ∙ sym (same_bit e) ∙ h))
  split_must m ms cs _ n hb _ _ left _ (is_missing h ms') (one_read e v q) st ct = absurd (not_true (sym hb ∙ sym (same_bit e) ∙ h))
  split_must m ms cs _ n hb [] _ left _ no_member a st ct = elim a [ ]

  pub members_exact : {ms : List (Member ℕ)} {cs : List Bool} {p : Bits} → PresenceIs ms cs p → AllDecided s l ms → (n : ℕ) → IsExact (AreMembersRead s l ms cs p n) (members_from s l value ms cs n)
  members_exact presence_none h n = convert (done_exact (taken [] 0 n)) to (λ t x a. no_members t.it t.skipped t.left n x a.say_them a.are a.counted)
    where
      to : (t : Taken (List (Member AbstractValue))) (x : Bits) → (t ≡ taken [] 0 n) × (x ≡ []) → AreMembersRead s l [] [] [] n t x
      to t x q = moved (AreMembersRead s l [] [] [] n) q.0 q.1 (record { say_them = no_member; are = none_read; they_are_present = refl; counted = omega arith })
  members_exact (presence_bit {m = m} {ms = ms} {c = c} {cs = cs} {p = p} e r) (one_decided h hs) n =
      convert (next_exact {Q = λ t. Made (AreMembersRead s l ms cs p t.left) (joined t)} (member_exact m n c h) (λ t x q. made_exact (joined t) (members_exact r hs t.left))) (to c)
      (λ t x a. split_bit m ms c cs p n e t.it t.skipped t.left x a.say_them a.are a.they_are_present a.counted)
    where
      to : (c : Bool) (t : Taken (List (Member AbstractValue))) (x : Bits) → First ms cs p n (component m) c t x → AreMembersRead s l (m ∷ ms) (c ∷ cs) (c ∷ p) n t x
      to true t x q =
          let a = q.is_first in
          moved (AreMembersRead s l (m ∷ ms) (true ∷ cs) (true ∷ p) n) (q.is_next.made ∙ ap (λ y. joined y q.is_next.of) a.made) q.whole
          (cons_taken m n a.value q.is_next.of q.front q.back (λ j b y. may_be_present e a.is.says_it a.right y) a.is (subst (λ y. AreMembersRead s l ms cs p y.left q.is_next.of q.back) a.made q.is_next.is))
      to false t x q =
          let a = q.is_first in
          moved (AreMembersRead s l (m ∷ ms) (false ∷ cs) (false ∷ p) n) (q.is_next.made ∙ ap (λ y. joined y q.is_next.of) a.made) (q.whole ∙ ap (λ y. y ++ q.back) a.none)
          (cons_lacked m n q.is_next.of q.back e a.may (subst (λ y. AreMembersRead s l ms cs p y.left q.is_next.of q.back) a.made q.is_next.is))
  members_exact (presence_without {m = m} {ms = ms} {cs = cs} {p = p} e r) (one_decided h hs) n =
      convert (next_exact {Q = λ t. Made (AreMembersRead s l ms cs p t.left) (joined t)} (member_exact m n true h) (λ t x q. made_exact (joined t) (members_exact r hs t.left))) to
      (λ t x a. split_must m ms cs p n e t.it t.skipped t.left x a.say_them a.are a.they_are_present a.counted)
    where
      to : (t : Taken (List (Member AbstractValue))) (x : Bits) → First ms cs p n (component m) true t x → AreMembersRead s l (m ∷ ms) (true ∷ cs) p n t x
      to t x q =
          let a = q.is_first in
          moved (AreMembersRead s l (m ∷ ms) (true ∷ cs) p n) (q.is_next.made ∙ ap (λ y. joined y q.is_next.of) a.made) q.whole
          (cons_taken m n a.value q.is_next.of q.front q.back (λ j b y. must_be_present e a.is.says_it y) a.is (subst (λ y. AreMembersRead s l ms cs p y.left q.is_next.of q.back) a.made q.is_next.is))
