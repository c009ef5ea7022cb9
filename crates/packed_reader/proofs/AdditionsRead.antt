-- Additions, those of groups together, and those that a type lacks.
use Rattle.std.proofs.Common.{arith, ◌≡◌, ℕ, suc, ◌+◌, Bool, true, false, List, [], ◌∷◌, ◌++◌, length, map, refl, sym, ap, subst, ◌∙◌}
use Rattle.asn_base.specs.Abstract.{AbstractValue}
use Rattle.asn_base.specs.Types.{Component, Resolved, Presence, mandatory, optional, default, addition}
use Rattle.asn_base.specs.Typed.{MayBeAbsent, where_addition}
use Rattle.asn_base.specs.Schemas.{is_addition}
use Rattle.encodings.specs.Header.{Octets}
use Rattle.packed_encodings.specs.Lengths.{Bits, CountedOctets}
use Rattle.packed_encodings.specs.Orders.{Member, missing, standing, component, is_present, any_present, has_bit, Addition, alone, bracketed}
use Rattle.packed_encodings.specs.Padding.{Open, UnknownAdditions, no_bit, clear_bit, set_bit}
use Rattle.packed_encodings.specs.Packing.{any_set, lenient, MembersPer, no_member, must_be_present, may_be_present, is_missing, Additions, no_addition, added, not_added, group, no_group}
use Rattle.decode_faults.specs.declared.refusal.Refusal.TheVariants as why
use Rattle.packed_readings.specs.Outcome.{IsReading, Then, bit_from}
use Rattle.packed_readings.specs.Counts.{octets_from}
use Rattle.packed_reader.specs.Readings.{Taken, taken, IsExact}
use Rattle.packed_reader.specs.Structures.{ReadsValue, part_of, joined, members_from, group_from, by_itself, in_brackets, addition_from, lacking, without, additions_from, unknown_from}
use Rattle.packed_reader.specs.Values.{IsValueRead}
use Rattle.packed_reader.proofs.Exact.{done_exact, convert, next_exact, Made, made_exact, part_exact, plain_exact, tested_exact}
use Rattle.packed_reader.proofs.Opening.{not_true, Opened, AreContents, contents_read, open_exact}
use Rattle.packed_reader.proofs.Members.{PresenceIs, presence_none, presence_bit, presence_without, moved, presences_exact, IsValid, member_weight, all_weight, AllRead, none_read, one_read, AreMembersRead, IsDecided, AllDecided, members_exact}

-- ---- presence once more

pub one_presence : {X : Type 0} {ms : List (Member X)} {cs : List Bool} {p q : Bits} → PresenceIs ms cs p → PresenceIs ms cs q → p ≡ q
one_presence presence_none presence_none = refl
one_presence (presence_bit {c = c} e a) (presence_bit f b) = ap (λ z. c ∷ z) (one_presence a b)
one_presence (presence_bit e a) (presence_without f b) = absurd (not_true (sym f ∙ e))
one_presence (presence_without e a) (presence_bit f b) = absurd (not_true (sym e ∙ f))
one_presence (presence_without e a) (presence_without f b) = one_presence a b

bit_same : {c d : Component} → c ≡ d → has_bit c.presence ≡ has_bit d.presence
bit_same e = ap (λ q. has_bit q.presence) e

-- members tell which of them are present
pub presence_said : {s : List Resolved} {l k : ℕ} {X : Type 0} {ms : List (Member X)} {rs : List (Member AbstractValue)} {p b : Bits} → MembersPer s lenient rs k p b → AllRead s l ms rs → PresenceIs ms (map is_present rs) p
presence_said no_member none_read = presence_none
presence_said (must_be_present h a m) (one_read e v r) = presence_without (bit_same e ∙ h) (presence_said m r)
presence_said (may_be_present h a d m) (one_read e v r) = presence_bit (bit_same e ∙ h) (presence_said m r)
presence_said (is_missing h m) (one_read e v r) = presence_bit (bit_same e ∙ h) (presence_said m r)

pub any_same : (rs : List (Member AbstractValue)) → any_set (map is_present rs) ≡ any_present rs
any_same [] = refl
any_same (missing c ∷ rs) = any_same rs
any_same (standing c w ∷ rs) = refl

-- ---- what is told of additions

pub data AllMore {X : Type 0} : List (Member X) → Type 0 where
  none_more : AllMore []
  one_more : {m : Member X} {ms : List (Member X)} → is_addition (component m) ≡ true → AllMore ms → AllMore (m ∷ ms)

pub data AdditionsDecided (s : List Resolved) (l : ℕ) : List (Addition ℕ) → Type 0 where
  nothing_decided : AdditionsDecided s l []
  alone_decided : {m : Member ℕ} {ds : List (Addition ℕ)} → IsDecided s l (component m) → is_addition (component m) ≡ true → AdditionsDecided s l ds → AdditionsDecided s l (alone m ∷ ds)
  group_decided : {ms : List (Member ℕ)} {ds : List (Addition ℕ)} → AllDecided s l ms → AllMore ms → AdditionsDecided s l ds → AdditionsDecided s l (bracketed ms ∷ ds)

pub data AdditionsRead {X : Type 0} (s : List Resolved) (l : ℕ) : List (Addition X) → List (Addition AbstractValue) → Type 0 where
  nothing_read : AdditionsRead s l [] []
  alone_read : {m : Member X} {r : Member AbstractValue} {ds : List (Addition X)} {rs : List (Addition AbstractValue)}
      → component m ≡ component r
      → IsValid s l r
      → AdditionsRead s l ds rs
      → AdditionsRead s l (alone m ∷ ds) (alone r ∷ rs)
  group_read : {ms : List (Member X)} {ns : List (Member AbstractValue)} {ds : List (Addition X)} {rs : List (Addition AbstractValue)}
      → AllRead s l ms ns
      → AdditionsRead s l ds rs
      → AdditionsRead s l (bracketed ms ∷ ds) (bracketed ns ∷ rs)

abbrev pub addition_weight : List (Addition AbstractValue) → ℕ
addition_weight [] = 0
addition_weight (alone m ∷ ds) = member_weight m + addition_weight ds
addition_weight (bracketed ms ∷ ds) = all_weight ms + addition_weight ds

pub record AreAdditionsRead (s : List Resolved) (l : ℕ) (ds : List (Addition ℕ)) (q : Bits) (n : ℕ) (t : Taken (List (Addition AbstractValue))) (x : Bits) : Type 0 where
  pub say_them : Additions s lenient t.it t.skipped q x
  pub are : AdditionsRead s l ds t.it
  pub counted : n ≡ addition_weight t.it + t.left

absent_addition : {s : List Resolved} {l : ℕ} (t : ℕ) (p : Presence) → elim p [ mandatory ↦ false | optional ↦ false | default d ↦ false | addition o g ↦ true ] ≡ true → MayBeAbsent s l t p
absent_addition t mandatory e = absurd (not_true e)
absent_addition t optional e = absurd (not_true e)
absent_addition t (default d) e = absurd (not_true e)
absent_addition t (addition o g) e = where_addition

pub may_lack_addition : {s : List Resolved} {l : ℕ} (c : Component) → is_addition c ≡ true → MayBeAbsent s l c.type c.presence
may_lack_addition c e = absent_addition c.type c.presence e

-- ---- members that are absent

lacking_read : {s : List Resolved} {l : ℕ} {ms : List (Member ℕ)} → AllMore ms → AllRead s l ms (map lacking ms)
lacking_read none_more = none_read
lacking_read (one_more {m = m} e h) = one_read refl (may_lack_addition (component m) e) (lacking_read h)

none_lacking_present : (ms : List (Member ℕ)) → any_present (map lacking ms) ≡ false
none_lacking_present [] = refl
none_lacking_present (m ∷ ms) = none_lacking_present ms

no_weight : (ms : List (Member ℕ)) → all_weight (map lacking ms) ≡ 0
no_weight [] = refl
no_weight (m ∷ ms) = let e = no_weight ms in omega arith

both_same : {X : Type 0} {x y : X} {xs ys : List X} → x ≡ y → xs ≡ ys → x ∷ xs ≡ y ∷ ys
both_same e f = cc

all_lacking : {s : List Resolved} {l : ℕ} {ms : List (Member ℕ)} {rs : List (Member AbstractValue)} → AllRead s l ms rs → any_present rs ≡ false → rs ≡ map lacking ms
all_lacking none_read e = refl
all_lacking {rs = missing c ∷ rs} (one_read h v r) e = both_same (ap missing (sym h)) (all_lacking r e)
all_lacking {rs = standing c w ∷ rs} (one_read h v r) e = absurd (not_true (sym e))

-- ---- groups and single additions

-- members behind the bits that tell which of them are present, of which there is one
pub record IsGroupRead (s : List Resolved) (l : ℕ) (ms : List (Member ℕ)) (n : ℕ) (t : Taken (List (Member AbstractValue))) (x : Bits) : Type 0 where
  pub presence : List Bool
  pub bits : Bits
  pub contents : Bits
  pub tells : PresenceIs ms presence bits
  pub some : any_set presence ≡ true
  pub read : AreMembersRead s l ms presence bits n t contents
  pub whole : x ≡ bits ++ contents

abbrev pub OneAddition : List Resolved → ℕ → Addition ℕ → ℕ → Taken (Addition AbstractValue) → Bits → Type 0
OneAddition s l (alone m) n = Made (Opened (IsValueRead s l (component m).type n)) (by_itself (component m))
OneAddition s l (bracketed ms) n = Made (Opened (IsGroupRead s l ms n)) in_brackets

module _ (bit : IsReading (λ v x. x ≡ v ∷ []) bit_from)
    (front : (o r : Octets) (a b p q : Bits) → CountedOctets o a → CountedOctets r b → a ++ p ≡ b ++ q → (o ≡ r) × (p ≡ q))
    (octets : IsReading CountedOctets octets_from)
    (s : List Resolved) (l : ℕ) (value : ReadsValue) (V : (t n : ℕ) → IsExact (IsValueRead s l t n) (value t n)) where
  -- members with the bits that tell them
  record MembersPresent (ms : List (Member ℕ)) (n : ℕ) (cs : List Bool) (t : Taken (List (Member AbstractValue))) (x : Bits) : Type 0 where
    bits : Bits
    tells : PresenceIs ms cs bits
    read : AreMembersRead s l ms cs bits n t x

  exact_by_presence : {ms : List (Member ℕ)} {cs : List Bool} {p : Bits} → PresenceIs ms cs p → AllDecided s l ms → (n : ℕ) → IsExact (MembersPresent ms n cs) (members_from s l value ms cs n)
  exact_by_presence {ms} {cs} {p} a h n =
      convert (members_exact s l value V a h n) (λ t x r. record { bits = p; tells = a; read = r })
      (λ t x r. subst (λ q. AreMembersRead s l ms cs q n t x) (one_presence r.tells a) r.read)

  pub group_exact : (ms : List (Member ℕ)) (n : ℕ) → AllDecided s l ms → IsExact (IsGroupRead s l ms n) (group_from s l value ms n)
  group_exact ms n h =
      convert (next_exact {Q = MembersPresent ms n} (tested_exact any_set why.NotCanonical (presences_exact bit ms)) (λ cs x p. exact_by_presence p.0 h n)) to from
    where
      to : (t : Taken (List (Member AbstractValue))) (x : Bits) → Then (λ cs x. PresenceIs ms cs x × (any_set cs ≡ true)) (MembersPresent ms n) t x → IsGroupRead s l ms n t x
      to t x q = record {
        presence = q.first;
        bits = q.front;
        contents = q.back;
        tells = q.is_first.0;
        some = q.is_first.1;
        read = subst (λ z. AreMembersRead s l ms q.first z n t q.back) (one_presence q.is_next.tells q.is_first.0) q.is_next.read;
        whole = q.whole;
      }

      from : (t : Taken (List (Member AbstractValue))) (x : Bits) → IsGroupRead s l ms n t x → Then (λ cs x. PresenceIs ms cs x × (any_set cs ≡ true)) (MembersPresent ms n) t x
      from t x q = record {
        first = q.presence;
        front = q.bits;
        back = q.contents;
        is_first = (q.tells, q.some);
        is_next = record { bits = q.bits; tells = q.tells; read = q.read };
        whole = q.whole;
      }

  addition_exact_alone : (m : Member ℕ) (n : ℕ) → IsExact (OneAddition s l (alone m) n) (addition_from s l value (alone m) n)
  addition_exact_alone m n = made_exact (by_itself (component m)) (part_exact (part_of m) (open_exact front octets (V (component m).type n)))

  addition_exact_group : (ms : List (Member ℕ)) (n : ℕ) → AllDecided s l ms → IsExact (OneAddition s l (bracketed ms) n) (addition_from s l value (bracketed ms) n)
  addition_exact_group ms n h = made_exact in_brackets (open_exact front octets (group_exact ms n h))

  -- ---- all additions

  abbrev FirstAddition : List (Addition ℕ) → Bits → ℕ → Addition ℕ → Taken (List (Addition AbstractValue)) → Bits → Type 0
  FirstAddition ds q n d = Then (OneAddition s l d n) (λ t. Made (AreAdditionsRead s l ds q t.left) (joined t))

  no_additions : (it : List (Addition AbstractValue)) (k left n : ℕ) (x : Bits) → Additions s lenient it k [] x → AdditionsRead {X = ℕ} s l [] it → n ≡ addition_weight it + left → (taken it k left ≡ taken [] 0 n) × (x ≡ [])
  no_additions [] _ left n _ no_addition nothing_read e = (ap (taken [] 0) (let f : left ≡ n = omega arith in f), refl)
  no_additions (r ∷ rs) k left n x m a e = elim a [ ]

  -- one that is absent
  lacked_to : (d : Addition ℕ) (ds : List (Addition ℕ)) (q : Bits) (n : ℕ) (ts : Taken (List (Addition AbstractValue))) (x : Bits) → AdditionsDecided s l (d ∷ ds) → AreAdditionsRead s l ds q n ts x → AreAdditionsRead s l (d ∷ ds) (false ∷ q) n (without d ts) x
  lacked_to (alone m) ds q n ts x (alone_decided h e hs) a = record {
    say_them = not_added a.say_them;
    are = alone_read refl (may_lack_addition (component m) e) a.are;
    counted = (let c = a.counted in omega arith);
  }
  lacked_to (bracketed ms) ds q n ts x (group_decided h e hs) a = record {
    say_them = no_group (none_lacking_present ms) a.say_them;
    are = group_read (lacking_read e) a.are;
    counted = (let c = a.counted in let z = no_weight ms in omega arith);
  }

  same_taken : {r r' : Addition AbstractValue} {rs : List (Addition AbstractValue)} {k left : ℕ} → r ≡ r' → taken (r ∷ rs) k left ≡ taken (r' ∷ rs) k left
  same_taken {rs = rs} {k = k} {left = left} e = ap (λ q. taken (q ∷ rs) k left) e

  lacked_from : (d : Addition ℕ) (ds : List (Addition ℕ)) (q : Bits) (n : ℕ) (it : List (Addition AbstractValue)) (k left : ℕ) (x : Bits) → Additions s lenient it k (false ∷ q) x → AdditionsRead s l (d ∷ ds) it → n ≡ addition_weight it + left → Made (AreAdditionsRead s l ds q n) (without d) (taken it k left) x
  lacked_from d ds q n _ k left x (not_added {c = c} {as' = as'} a) (alone_read {m = m} e v r) h = record {
    of = taken as' k left;
    is = record { say_them = a; are = r; counted = omega arith };
    made = same_taken (ap (λ z. alone (missing z)) (sym e));
  }
  lacked_from d ds q n _ k left x (no_group {as' = as'} f a) (group_read {ms = ms} {ns = ns} g r) h = record {
    of = taken as' k left;
    is = record { say_them = a; are = r; counted = (let z : all_weight ns ≡ 0 = ap all_weight (all_lacking g f) ∙ no_weight ms in omega arith) };
    made = same_taken (ap bracketed (all_lacking g f));
  }

  -- one that is present
  present_to : (d : Addition ℕ) (ds : List (Addition ℕ)) (q : Bits) (n : ℕ) (t : Taken (Addition AbstractValue)) (ts : Taken (List (Addition AbstractValue))) (x y : Bits) → OneAddition s l d n t x → AreAdditionsRead s l ds q t.left ts y → AreAdditionsRead s l (d ∷ ds) (true ∷ q) n (joined t ts) (x ++ y)
  present_to (alone m) ds q n t ts x y o a =
      let p = o.is in
      let v = p.is in
      subst (λ z. AreAdditionsRead s l (alone m ∷ ds) (true ∷ q) n (joined z ts) (x ++ y)) (sym o.made)
      (record {
        say_them = added v.says_it p.is_open a.say_them;
        are = alone_read refl v.value a.are;
        counted = (let b = v.counted in let c = a.counted in let e : t.left ≡ o.of.left = ap (λ z. z.left) o.made in omega arith);
      })
  present_to (bracketed ms) ds q n t ts x y o a =
      let p = o.is in
      let g = p.is in
      let r = g.read in
      subst (λ z. AreAdditionsRead s l (bracketed ms ∷ ds) (true ∷ q) n (joined z ts) (x ++ y)) (sym o.made)
      (record {
        say_them = group (sym (any_same o.of.it) ∙ ap any_set r.they_are_present ∙ g.some) r.say_them (subst (λ z. Open z x) g.whole p.is_open) a.say_them;
        are = group_read r.are a.are;
        counted = (let b = r.counted in let c = a.counted in let e : t.left ≡ o.of.left = ap (λ z. z.left) o.made in omega arith);
      })

  present_from : (d : Addition ℕ) (ds : List (Addition ℕ)) (q : Bits) (n : ℕ) (it : List (Addition AbstractValue)) (k left : ℕ) (x : Bits) → Additions s lenient it k (true ∷ q) x → AdditionsRead s l (d ∷ ds) it → n ≡ addition_weight it + left → FirstAddition ds q n d (taken it k left) x
  present_from d ds q n _ _ left _ (added {c = c} {w = w} {as' = as'} {j = j} {n = k} {x = x} {y = y} {d = b} sa op a) (alone_read {m = m} e v r) h =
      subst (λ z. Then (Made (Opened (IsValueRead s l z.type n)) (by_itself z)) (λ t. Made (AreAdditionsRead s l ds q t.left) (joined t)) (taken (alone (standing c w) ∷ as') (j + k) left) (y ++ b)) (sym e)
      (record {
        first = by_itself c (taken w j (addition_weight as' + left));
        front = y;
        back = b;
        is_first = record { of = taken w j (addition_weight as' + left); is = record { inside = x; is = record { says_it = sa; value = v; counted = omega arith }; is_open = op }; made = refl };
        is_next = record { of = taken as' k left; is = record { say_them = a; are = r; counted = refl }; made = refl };
        whole = refl;
      })
  present_from d ds q n _ _ left _ (group {ms = ns} {as' = as'} {j = j} {n = k} {p = p} {b = b} {y = y} {d = z} f m op a) (group_read {ms = ms} g r) h = record {
    first = in_brackets (taken ns j (addition_weight as' + left));
    front = y;
    back = z;
    is_first = record {
      of = taken ns j (addition_weight as' + left);
      is = record {
        inside = p ++ b;
        is = record {
          presence = map is_present ns;
          bits = p;
          contents = b;
          tells = presence_said m g;
          some = any_same ns ∙ f;
          read = record { say_them = m; are = g; they_are_present = refl; counted = omega arith };
          whole = refl;
        };
        is_open = op;
      };
      made = refl;
    };
    is_next = record { of = taken as' k left; is = record { say_them = a; are = r; counted = refl }; made = refl };
    whole = refl;
  }

  addition_exact : (d : Addition ℕ) (ds : List (Addition ℕ)) (n : ℕ) → AdditionsDecided s l (d ∷ ds) → IsExact (OneAddition s l d n) (addition_from s l value d n)
  addition_exact (alone m) ds n h = addition_exact_alone m n
  addition_exact (bracketed ms) ds n (group_decided h e hs) = addition_exact_group ms n h

  others_decided : {d : Addition ℕ} {ds : List (Addition ℕ)} → AdditionsDecided s l (d ∷ ds) → AdditionsDecided s l ds
  others_decided (alone_decided h e hs) = hs
  others_decided (group_decided h e hs) = hs

  pub additions_exact : (ds : List (Addition ℕ)) (q : Bits) (n : ℕ) → length q ≡ length ds → AdditionsDecided s l ds → IsExact (AreAdditionsRead s l ds q n) (additions_from s l value ds q n)
  additions_exact [] [] n e h = convert (done_exact (taken [] 0 n)) to (λ t x a. no_additions t.it t.skipped t.left n x a.say_them a.are a.counted)
    where
      to : (t : Taken (List (Addition AbstractValue))) (x : Bits) → (t ≡ taken [] 0 n) × (x ≡ []) → AreAdditionsRead s l [] [] n t x
      to t x q = moved (AreAdditionsRead s l [] [] n) q.0 q.1 (record { say_them = no_addition; are = nothing_read; counted = omega arith })
  additions_exact [] (c ∷ q) n e h = absurd (omega arith)
  additions_exact (d ∷ ds) [] n e h = absurd (omega arith)
  additions_exact (d ∷ ds) (false ∷ q) n e h =
      convert (made_exact (without d) (additions_exact ds q n (omega arith) (others_decided h)))
      (λ t x p. moved (AreAdditionsRead s l (d ∷ ds) (false ∷ q) n) p.made refl (lacked_to d ds q n p.of x h p.is))
      (λ t x a. lacked_from d ds q n t.it t.skipped t.left x a.say_them a.are a.counted)
  additions_exact (d ∷ ds) (true ∷ q) n e h =
      convert (next_exact {Q = λ t. Made (AreAdditionsRead s l ds q t.left) (joined t)} (addition_exact d ds n h) (λ t x p. made_exact (joined t) (additions_exact ds q t.left (omega arith) (others_decided h))))
      (λ t x p. moved (AreAdditionsRead s l (d ∷ ds) (true ∷ q) n) p.is_next.made p.whole (present_to d ds q n p.first p.is_next.of p.front p.back p.is_first p.is_next.is))
      (λ t x a. present_from d ds q n t.it t.skipped t.left x a.say_them a.are a.counted)

  -- ---- additions that the type lacks

  pub unknown_exact : (u : Bits) → IsExact (UnknownAdditions u) (unknown_from u)
  unknown_exact [] = convert (done_exact 0) (λ k x p. moved (UnknownAdditions []) p.0 p.1 no_bit) from
    where
      from : (k : ℕ) (x : Bits) → UnknownAdditions [] k x → (k ≡ 0) × (x ≡ [])
      from k x no_bit = (refl, refl)
  unknown_exact (false ∷ u) = convert (unknown_exact u) (λ k x a. clear_bit a) from
    where
      from : (k : ℕ) (x : Bits) → UnknownAdditions (false ∷ u) k x → UnknownAdditions u k x
      from k x (clear_bit a) = a
  unknown_exact (true ∷ u) =
      convert (next_exact {Q = λ o. Made (UnknownAdditions u) suc} (plain_exact (contents_read octets)) (λ o x p. made_exact suc (unknown_exact u))) to from
    where
      to : (k : ℕ) (x : Bits) → Then AreContents (λ o. Made (UnknownAdditions u) suc) k x → UnknownAdditions (true ∷ u) k x
      to k x t = moved (UnknownAdditions (true ∷ u)) t.is_next.made t.whole (set_bit t.is_first.some t.is_first.counted t.is_next.is)

      from : (k : ℕ) (x : Bits) → UnknownAdditions (true ∷ u) k x → Then AreContents (λ o. Made (UnknownAdditions u) suc) k x
      from k x (set_bit {k = j} {o = o} {x = a} {b = b} n c r) = record {
        first = o;
        front = a;
        back = b;
        is_first = record { counted = c; some = n };
        is_next = record { of = j; is = r; made = refl };
        whole = refl;
      }
