-- SEQUENCE and SET are read as what bits say.
use Rattle.std.proofs.Common.{arith, ◌≡◌, ℕ, suc, ◌+◌, ◌-◌, ◌^◌, ◌<◌, Bool, true, false, List, [], ◌∷◌, ◌++◌, length, map, replicate, Option, Some, None, refl, sym, ap, subst, ◌∙◌, append_assoc, append-nil}
use Rattle.std.specs.Prelude.{if◌then◌else◌}
use Rattle.std.specs.List.{AllByRecursion}
use Rattle.bits.specs.Words.{low_bits}
use Rattle.asn_base.specs.Abstract.{AbstractValue, fields, Row}
use Rattle.asn_base.specs.Types.{Kind, a_sequence, a_set, Component, Resolved}
use Rattle.packed_encodings.specs.Weights.{weight}
use Rattle.asn_base.specs.Typed.{members, group_of, ValueOf, of_leaf, of_sequence, of_set, AreComponents, no_component, component_absent, component_present, GroupsAreWhole}
use Rattle.asn_base.specs.Schemas.{is_addition, HasValue, AreListed}
use Rattle.encodings.specs.Header.{Octets}
use Rattle.packed_encodings.specs.Lengths.{Bits, CountedOctets}
use Rattle.packed_encodings.specs.Orders.{Member, missing, standing, component, is_present, any_present, Beside, beside_none, beside_absent, beside_present, root_members, past_marker, Addition, alone, bracketed, is_of_group, in_front, additions}
use Rattle.packed_encodings.specs.Padding.{UnknownAdditions}
use Rattle.packed_encodings.specs.Packing.{lenient, any_set, Extended, no_marker, no_member_present, some_member_present, EncodesKindPer, leaf, sequence, set, MembersPer, Additions, no_addition, added, not_added, group, no_group}
use Rattle.packed_encodings.specs.Computed.{is_default, DecidesDefaults}
use Rattle.packed_code.specs.Routines.{placed_from}
use Rattle.packed_readings.specs.Outcome.{IsReading, bit_from, field_from}
use Rattle.packed_readings.specs.Counts.{several_bits, octets_from}
use Rattle.packed_reader.specs.Readings.{Taken, taken, IsExact}
use Rattle.packed_reader.specs.Structures.{ReadsValue, lacking, lacking_addition, own_bits, Pieces, in_pieces, no_row, members_in, row_of}
use Rattle.packed_reader.specs.Values.{IsValueRead, structure_from}
use Rattle.packed_reader.proofs.Exact.{convert, Made, made_exact}
use Rattle.packed_reader.proofs.Opening.{not_true}
use Rattle.packed_reader.proofs.Members.{IsValid, all_weight, AllRead, none_read, one_read, IsDecided, AllDecided, none_decided, one_decided}
use Rattle.packed_reader.proofs.AdditionsRead.{presence_said, AllMore, none_more, one_more, AdditionsDecided, nothing_decided, alone_decided, group_decided, AdditionsRead, nothing_read, alone_read, group_read, addition_weight, may_lack_addition}
use Rattle.packed_reader.proofs.Pieces.{own_stated, own_only, IsRest, IsMark, ArePieces, pieces_exact}
use Rattle.packed_reader.proofs.Within.{component_decided}
use Rattle.packed_encodings.specs.proving.Natural.{root_same, past_marker_same, additions_same, on_additions}
use Rattle.packed_reader.proofs.Places.{ordered, ordered_same, of_parts, root_part, more_part, part_weight, Distinct, parts_distinct, Below, parts_below, seen, seen_component, beside_seen, beside_is, beside_weight, all_many, Parallel, parallel_none, parallel_more, seen_members, no_row_blank, no_row_many, flat_additions, ParallelAdditions, parallel_nothing, parallel_alone, parallel_group, parallel_length, flat_parallel, with_both, map_parts, same_additions}
use Rattle.packed_reader.proofs.Groups.{groups_whole, none_past_marker}

-- ---- what is told of components

all_decided : {s : List Resolved} {l : ℕ} (ms : List (Member ℕ)) → AllByRecursion (λ m. IsDecided s l (component m)) ms → AllDecided s l ms
all_decided [] h = none_decided
all_decided (m ∷ ms) h = one_decided h.0 (all_decided ms h.1)

placed_decided : (s : List Resolved) (l i : ℕ) (cs : List Component) → DecidesDefaults s (is_default s) → AllByRecursion (HasValue s) cs → AllByRecursion (λ m. IsDecided s l (component m)) (placed_from i cs)
placed_decided s l i [] t h = tt
placed_decided s l i (c ∷ cs) t h = (component_decided s l c t h.0, placed_decided s l (suc i) cs t h.1)

abbrev DecidedAddition : List Resolved → ℕ → Member ℕ → Type 0
DecidedAddition s l m = IsDecided s l (component m) × (is_addition (component m) ≡ true)

past_marker_decided : (s : List Resolved) (l : ℕ) (ms : List (Member ℕ)) → AllByRecursion (λ m. IsDecided s l (component m)) ms → AllByRecursion (DecidedAddition s l) (past_marker ms)
past_marker_decided s l [] h = tt
past_marker_decided s l (m ∷ ms) h = by (is_addition (component m)) refl (past_marker_decided s l ms h.1)
  where
    by : (b : Bool) → is_addition (component m) ≡ b → AllByRecursion (DecidedAddition s l) (past_marker ms) → AllByRecursion (DecidedAddition s l) (if b then m ∷ past_marker ms else past_marker ms)
    by true e r = ((h.0, e), r)
    by false e r = r

front_decided : {s : List Resolved} {l : ℕ} (g : Option ℕ) (m : Member ℕ) (ds : List (Addition ℕ)) → DecidedAddition s l m → AdditionsDecided s l ds → AdditionsDecided s l (in_front g m ds)
front_decided None m ds h a = alone_decided h.0 h.1 a
front_decided (Some g) m [] h a = group_decided (one_decided h.0 none_decided) (one_more h.1 none_more) a
front_decided (Some g) m (alone n ∷ ds) h a = group_decided (one_decided h.0 none_decided) (one_more h.1 none_more) a
front_decided (Some g) m (bracketed [] ∷ ds) h a = group_decided (one_decided h.0 none_decided) (one_more h.1 none_more) a
front_decided {s} {l} (Some g) m (bracketed (n ∷ ns) ∷ ds) h (group_decided k e a) = by (is_of_group g n)
  where
    by : (b : Bool) → AdditionsDecided s l (if b then bracketed (m ∷ (n ∷ ns)) ∷ ds else bracketed (m ∷ []) ∷ (bracketed (n ∷ ns) ∷ ds))
    by true = group_decided (one_decided h.0 k) (one_more h.1 e) a
    by false = group_decided (one_decided h.0 none_decided) (one_more h.1 none_more) (group_decided k e a)

additions_decided : {s : List Resolved} {l : ℕ} (ms : List (Member ℕ)) → AllByRecursion (DecidedAddition s l) ms → AdditionsDecided s l (additions ms)
additions_decided [] h = nothing_decided
additions_decided (m ∷ ms) h = front_decided (group_of (component m).presence) m (additions ms) h.0 (additions_decided ms h.1)

-- ---- what was read is of the same components

read_parallel : {s : List Resolved} {l : ℕ} {ms : List (Member ℕ)} {rs : List (Member AbstractValue)} → AllRead s l ms rs → Parallel ms rs
read_parallel none_read = parallel_none
read_parallel (one_read e v r) = parallel_more e (read_parallel r)

read_valid : {s : List Resolved} {l : ℕ} {ms : List (Member ℕ)} {rs : List (Member AbstractValue)} → AllRead s l ms rs → AllByRecursion (IsValid s l) rs
read_valid none_read = tt
read_valid (one_read e v r) = (v, read_valid r)

additions_parallel : {s : List Resolved} {l : ℕ} {ds : List (Addition ℕ)} {us : List (Addition AbstractValue)} → AdditionsRead s l ds us → ParallelAdditions ds us
additions_parallel nothing_read = parallel_nothing
additions_parallel (alone_read e v r) = parallel_alone e (additions_parallel r)
additions_parallel (group_read g r) = parallel_group (read_parallel g) (additions_parallel r)

both_valid : (s : List Resolved) (l : ℕ) (xs ys : List (Member AbstractValue)) → AllByRecursion (IsValid s l) xs → AllByRecursion (IsValid s l) ys → AllByRecursion (IsValid s l) (xs ++ ys)
both_valid s l [] ys a b = b
both_valid s l (x ∷ xs) ys a b = (a.0, both_valid s l xs ys a.1 b)

first_valid : (s : List Resolved) (l : ℕ) (xs ys : List (Member AbstractValue)) → AllByRecursion (IsValid s l) (xs ++ ys) → AllByRecursion (IsValid s l) xs × AllByRecursion (IsValid s l) ys
first_valid s l [] ys a = (tt, a)
first_valid s l (x ∷ xs) ys a = let r = first_valid s l xs ys a.1 in ((a.0, r.0), r.1)

additions_valid : {s : List Resolved} {l : ℕ} {ds : List (Addition ℕ)} {us : List (Addition AbstractValue)} → AdditionsRead s l ds us → AllByRecursion (IsValid s l) (members_in us)
additions_valid nothing_read = tt
additions_valid (alone_read e v r) = (v, additions_valid r)
additions_valid {s} {l} (group_read {ns = ns} {rs = rs} g r) = both_valid s l ns (members_in rs) (read_valid g) (additions_valid r)

weight_both : (xs ys : List (Member AbstractValue)) → all_weight (xs ++ ys) ≡ all_weight xs + all_weight ys
weight_both [] ys = let z : all_weight ys ≡ 0 + all_weight ys = omega arith in z
weight_both (x ∷ xs) ys = let e = weight_both xs ys in omega arith

flat_weight : (us : List (Addition AbstractValue)) → all_weight (members_in us) ≡ addition_weight us
flat_weight [] = refl
flat_weight (alone m ∷ us) = let e = flat_weight us in omega arith
flat_weight (bracketed ms ∷ us) = let e = flat_weight us in let f = weight_both ms (members_in us) in omega arith

-- members of a row are read where they are valid
read_seen : {s : List Resolved} {l : ℕ} (ws : Row) (ms : List (Member ℕ)) → AllByRecursion (IsValid s l) (map (seen ws) ms) → AllRead s l ms (map (seen ws) ms)
read_seen ws [] a = none_read
read_seen ws (m ∷ ms) a = one_read (sym (seen_component ws m)) a.0 (read_seen ws ms a.1)

map_both : {X Y : Type 0} (f : X → Y) (xs ys : List X) → map f (xs ++ ys) ≡ map f xs ++ map f ys
map_both f [] ys = refl
map_both f (x ∷ xs) ys = ap (λ q. f x ∷ q) (map_both f xs ys)

flat_map_same : (f : Member ℕ → Member AbstractValue) (ds : List (Addition ℕ)) → members_in (map (on_additions f) ds) ≡ map f (members_in ds)
flat_map_same f [] = refl
flat_map_same f (alone m ∷ ds) = ap (λ q. f m ∷ q) (flat_map_same f ds)
flat_map_same f (bracketed ms ∷ ds) = ap (λ q. map f ms ++ q) (flat_map_same f ds) ∙ sym (map_both f ms (members_in ds))

additions_seen : {s : List Resolved} {l : ℕ} (ws : Row) (ds : List (Addition ℕ)) → AllByRecursion (IsValid s l) (map (seen ws) (members_in ds)) → AdditionsRead s l ds (map (on_additions (seen ws)) ds)
additions_seen ws [] a = nothing_read
additions_seen ws (alone m ∷ ds) a = alone_read (sym (seen_component ws m)) a.0 (additions_seen ws ds a.1)
additions_seen {s} {l} ws (bracketed ms ∷ ds) a =
    let p = first_valid s l (map (seen ws) ms) (map (seen ws) (members_in ds)) (subst (AllByRecursion (IsValid s l)) (map_both (seen ws) ms (members_in ds)) a) in
    group_read (read_seen ws ms p.0) (additions_seen ws ds p.1)

-- ---- none of the additions is present

lacking_clear : (ds : List (Addition ℕ)) → any_set (replicate (length ds) false) ≡ false
lacking_clear [] = refl
lacking_clear (d ∷ ds) = lacking_clear ds

no_member_there : (ms : List (Member ℕ)) → any_present (map lacking ms) ≡ false
no_member_there [] = refl
no_member_there (m ∷ ms) = no_member_there ms

lacking_said : {s : List Resolved} (ds : List (Addition ℕ)) → Additions s lenient (map lacking_addition ds) 0 (replicate (length ds) false) []
lacking_said [] = no_addition
lacking_said (alone m ∷ ds) = not_added (lacking_said ds)
lacking_said (bracketed ms ∷ ds) = no_group (no_member_there ms) (lacking_said ds)

more_lack : {s : List Resolved} {l : ℕ} {ms : List (Member ℕ)} → AllMore ms → AllRead s l ms (map lacking ms)
more_lack none_more = none_read
more_lack (one_more {m = m} e h) = one_read refl (may_lack_addition (component m) e) (more_lack h)

lacking_read : {s : List Resolved} {l : ℕ} {ds : List (Addition ℕ)} → AdditionsDecided s l ds → AdditionsRead s l ds (map lacking_addition ds)
lacking_read nothing_decided = nothing_read
lacking_read (alone_decided {m = m} h e r) = alone_read refl (may_lack_addition (component m) e) (lacking_read r)
lacking_read (group_decided h e r) = group_read (more_lack e) (lacking_read r)

lacking_no_weight : (ms : List (Member ℕ)) → all_weight (map lacking ms) ≡ 0
lacking_no_weight [] = refl
lacking_no_weight (m ∷ ms) = let e = lacking_no_weight ms in omega arith

none_weight : (ds : List (Addition ℕ)) → addition_weight (map lacking_addition ds) ≡ 0
none_weight [] = refl
none_weight (alone m ∷ ds) = let e = none_weight ds in omega arith
none_weight (bracketed ms ∷ ds) = let e = none_weight ds in let f = lacking_no_weight ms in omega arith

two_same : {X : Type 0} {x y : X} {xs ys : List X} → x ≡ y → xs ≡ ys → x ∷ xs ≡ y ∷ ys
two_same e f = cc

group_lacks : {s : List Resolved} {l : ℕ} {ms : List (Member ℕ)} {rs : List (Member AbstractValue)} → AllRead s l ms rs → any_present rs ≡ false → rs ≡ map lacking ms
group_lacks none_read e = refl
group_lacks {rs = missing c ∷ rs} (one_read h v r) e = two_same (ap missing (sym h)) (group_lacks r e)
group_lacks {rs = standing c w ∷ rs} (one_read h v r) e = absurd (not_true (sym e))

-- no bit is set
no_bit_set : {s : List Resolved} {l j : ℕ} {ds : List (Addition ℕ)} {us : List (Addition AbstractValue)} {q d : Bits} → Additions s lenient us j q d → AdditionsRead s l ds us → any_set q ≡ false → (us ≡ map lacking_addition ds) × (j ≡ 0)
no_bit_set no_addition nothing_read e = (refl, refl)
no_bit_set (added a o r) (alone_read h v k) e = absurd (not_true (sym e))
no_bit_set (not_added r) (alone_read h v k) e = let p = no_bit_set r k e in (two_same (ap (λ z. alone (missing z)) (sym h)) p.0, p.1)
no_bit_set (group h m o r) (group_read g k) e = absurd (not_true (sym e))
no_bit_set (no_group h r) (group_read g k) e = let p = no_bit_set r k e in (two_same (ap bracketed (group_lacks g h)) p.0, p.1)

as_long : {s : List Resolved} {l j : ℕ} {ds : List (Addition ℕ)} {us : List (Addition AbstractValue)} {q d : Bits} → Additions s lenient us j q d → AdditionsRead s l ds us → length q ≡ length ds
as_long no_addition nothing_read = refl
as_long (added a o r) (alone_read h v k) = ap suc (as_long r k)
as_long (not_added r) (alone_read h v k) = ap suc (as_long r k)
as_long (group h m o r) (group_read g k) = ap suc (as_long r k)
as_long (no_group h r) (group_read g k) = ap suc (as_long r k)

-- ---- what follows the root

record RestSaid (s : List Resolved) (l : ℕ) (e : Bool) (ds : List (Addition ℕ)) (n : ℕ) (r : Bits) (rest : Taken (List (Addition AbstractValue))) (x : Bits) : Type 0 where
  own : ℕ
  others : ℕ
  stated : Bits
  types : Bits
  say_them : Additions s lenient rest.it own stated types
  extended : Extended lenient e r stated types others x
  sum : rest.skipped ≡ own + others
  are : AdditionsRead s l ds rest.it
  counted : n ≡ addition_weight rest.it + rest.left

none_said : {s : List Resolved} {l : ℕ} (e : Bool) (ds : List (Addition ℕ)) (n : ℕ) (r x : Bits) (rest : Taken (List (Addition AbstractValue))) → AdditionsDecided s l ds → rest ≡ taken (map lacking_addition ds) 0 n → Extended lenient e r (replicate (length ds) false) [] 0 x → RestSaid s l e ds n r rest x
none_said {s} {l} e ds n r x rest h is ex = subst (λ t. RestSaid s l e ds n r t x) (sym is) (record {
  own = 0;
  others = 0;
  stated = replicate (length ds) false;
  types = [];
  say_them = lacking_said ds;
  extended = ex;
  sum = refl;
  are = lacking_read h;
  counted = (let z = none_weight ds in omega arith);
})

rest_said : {s : List Resolved} {l : ℕ} (e mark : Bool) (front : Bits) (ds : List (Addition ℕ)) (n : ℕ) (rest : Taken (List (Addition AbstractValue))) (back r x : Bits) → (e ≡ false → ds ≡ []) → AdditionsDecided s l ds → IsMark e mark front → IsRest s l mark ds n rest back → x ≡ front ++ (r ++ back) → RestSaid s l e ds n r rest x
rest_said false true front ds n rest back r x none h m q w = absurd (not_true (sym m.0))
rest_said false false front ds n rest back r x none h m q w =
    let d : replicate (length ds) false ≡ [] = ap (λ z. replicate (length z) false) (none refl) in
    let y : x ≡ r = w ∙ ap (λ z. z ++ (r ++ back)) m.1 ∙ ap (λ z. r ++ z) q.1 ∙ append-nil r in
    none_said false ds n r x rest h q.0 (subst (λ z. Extended lenient false r z [] 0 x) (sym d) (subst (λ z. Extended lenient false r [] [] 0 z) (sym y) no_marker))
rest_said true false front ds n rest back r x none h m q w =
    let y : x ≡ false ∷ r = w ∙ ap (λ z. z ++ (r ++ back)) m ∙ ap (λ z. false ∷ (r ++ z)) q.1 ∙ ap (λ z. false ∷ z) (append-nil r) in
    none_said true ds n r x rest h q.0 (subst (λ z. Extended lenient true r (replicate (length ds) false) [] 0 z) (sym y) (no_member_present (lacking_clear ds)))
rest_said {s} {l} true true front ds n rest back r x none h m q w =
    let v = low_bits 6 (length q.map - 1) in
    let y : x ≡ true ∷ (r ++ (false ∷ (v ++ (q.map ++ (q.types ++ q.skipped)))))
    = w ∙ ap (λ z. z ++ (r ++ back)) m ∙ ap (λ z. true ∷ (r ++ z)) (q.whole ∙ ap (λ z. z ++ (q.types ++ q.skipped)) q.is_map.is ∙ ap (λ z. false ∷ z) (append_assoc v q.map (q.types ++ q.skipped))) in
    subst (λ t. RestSaid s l true ds n r t x) (sym q.made) (record {
      own = q.own.skipped;
      others = q.others;
      stated = own_bits (length ds) q.map;
      types = q.types;
      say_them = q.are_own.say_them;
      extended = subst (λ z. Extended lenient true r (own_bits (length ds) q.map) q.types q.others z) (sym y)
          (some_member_present q.map (own_stated (length ds) q.map) q.is_map.some q.is_map.few q.are_others);
      sum = refl;
      are = q.are_own.are;
      counted = q.are_own.counted;
    })

-- the parts of bits that say them
record RestParts (s : List Resolved) (l : ℕ) (e : Bool) (ds : List (Addition ℕ)) (n left : ℕ) (us : List (Addition AbstractValue)) (k : ℕ) (r x : Bits) : Type 0 where
  mark : Bool
  front : Bits
  is_mark : IsMark e mark front
  rest : Taken (List (Addition AbstractValue))
  back : Bits
  is_rest : IsRest s l mark ds n rest back
  same : rest ≡ taken us k left
  whole : x ≡ front ++ (r ++ back)

no_parts : (ds : List (Addition ℕ)) {us : List (Addition AbstractValue)} (n left j : ℕ) → n ≡ addition_weight us + left → (us ≡ map lacking_addition ds) × (j ≡ 0) → taken (map lacking_addition ds) 0 n ≡ taken us (j + 0) left
no_parts ds {us = us} n left j c p =
    let z : addition_weight us ≡ 0 = ap addition_weight p.0 ∙ none_weight ds in
    let f : left ≡ n = omega arith in
    let g : j + 0 ≡ 0 = (let h = p.1 in omega arith) in
    sym (ap (λ q. taken q (j + 0) left) p.0 ∙ ap (λ q. taken (map lacking_addition ds) q left) g ∙ ap (taken (map lacking_addition ds) 0) f)

rest_parts : {s : List Resolved} {l : ℕ} {e : Bool} {ds : List (Addition ℕ)} (n left : ℕ) {us : List (Addition AbstractValue)} {j k : ℕ} {r q d x : Bits} → Additions s lenient us j q d → AdditionsRead s l ds us → n ≡ addition_weight us + left → Extended lenient e r q d k x → RestParts s l e ds n left us (j + k) r x
rest_parts {s} {l} {ds = ds} n left {us} {j} {r = r} a v c no_marker = record {
  mark = false;
  front = [];
  is_mark = (refl, refl);
  rest = taken (map lacking_addition ds) 0 n;
  back = [];
  is_rest = (refl, refl);
  same = no_parts ds n left j c (no_bit_set a v refl);
  whole = sym (append-nil r);
}
rest_parts {s} {l} {ds = ds} n left {us} {j} {r = r} a v c (no_member_present z) = record {
  mark = false;
  front = false ∷ [];
  is_mark = refl;
  rest = taken (map lacking_addition ds) 0 n;
  back = [];
  is_rest = (refl, refl);
  same = no_parts ds n left j c (no_bit_set a v z);
  whole = ap (λ q. false ∷ q) (sym (append-nil r));
}
rest_parts {s} {l} {ds = ds} n left {us} {j} {k} {r} {q} {d} a v c (some_member_present {u = u} {x = x} m t some few un) =
    let o = own_only (length ds) q u m (as_long a v) t in
    let w = low_bits 6 (length m - 1) in
    record {
      mark = true;
      front = true ∷ [];
      is_mark = refl;
      rest = taken us (j + k) left;
      back = (false ∷ (w ++ m)) ++ (d ++ x);
      is_rest = record {
        map = m;
        front = false ∷ (w ++ m);
        is_map = record { some = some; few = few; is = refl };
        own = taken us j left;
        types = d;
        are_own = record { say_them = subst (λ z. Additions s lenient us j z d) o.0 a; are = v; counted = c };
        others = k;
        skipped = x;
        are_others = subst (λ z. UnknownAdditions z k x) o.1 un;
        made = refl;
        whole = refl;
      };
      same = refl;
      whole = ap (λ z. true ∷ (r ++ (false ∷ z))) (sym (append_assoc w m (d ++ x)));
    }

-- ---- values of both kinds

abbrev pub the_kind : Bool → Bool → List Component → Kind
the_kind false e cs = a_sequence e cs
the_kind true e cs = a_set e cs

-- bits that say a value of a kind as it stands, whose members have at most l levels, and how many values may begin after
-- it where n may begin within
pub record IsKindRead (s : List Resolved) (l n : ℕ) (k : Kind) (w : Taken AbstractValue) (x : Bits) : Type 0 where
  pub holds_it : EncodesKindPer s lenient k w.it w.skipped x
  pub value : ValueOf s l k w.it
  pub counted : suc n ≡ weight w.it + w.left

-- what bits say of components, for both kinds
record StructureSaid (s : List Resolved) (set e : Bool) (cs : List Component) (ws : Row) (k : ℕ) (x : Bits) : Type 0 where
  ms : List (Member AbstractValue)
  beside : Beside cs ws ms
  in_root : ℕ
  in_more : ℕ
  others : ℕ
  p : Bits
  b : Bits
  q : Bits
  d : Bits
  members : MembersPer s lenient (ordered set s (root_members ms)) in_root p b
  additions' : Additions s lenient (additions (past_marker ms)) in_more q d
  extended : Extended lenient e (p ++ b) q d others x
  sum : k ≡ in_root + (in_more + others)

holds_of : {s : List Resolved} (set' e : Bool) {cs : List Component} {ws : Row} {k : ℕ} {x : Bits} → StructureSaid s set' e cs ws k x → EncodesKindPer s lenient (the_kind set' e cs) (fields ws) k x
holds_of {s} false e {cs} {ws} {k} {x} a = subst (λ j. EncodesKindPer s lenient (a_sequence e cs) (fields ws) j x) (sym a.sum) (sequence a.beside a.members a.additions' a.extended)
holds_of {s} true e {cs} {ws} {k} {x} a = subst (λ j. EncodesKindPer s lenient (a_set e cs) (fields ws) j x) (sym a.sum) (set a.beside a.members a.additions' a.extended)

value_of : {s : List Resolved} {l : ℕ} (set e : Bool) {cs : List Component} {ws : Row} → AreComponents s l cs ws → GroupsAreWhole cs ws → ValueOf s l (the_kind set e cs) (fields ws)
value_of false e a g = of_sequence a g
value_of true e a g = of_set a g

-- a value that was read of one of these kinds
record Split (s : List Resolved) (l : ℕ) (set e : Bool) (cs : List Component) (v : AbstractValue) (k : ℕ) (x : Bits) : Type 0 where
  ws : Row
  is : v ≡ fields ws
  said : StructureSaid s set e cs ws k x
  components : AreComponents s l cs ws

split : {s : List Resolved} {l : ℕ} (set' e : Bool) {cs : List Component} {v : AbstractValue} {k : ℕ} {x : Bits} → EncodesKindPer s lenient (the_kind set' e cs) v k x → ValueOf s l (the_kind set' e cs) v → Split s l set' e cs v k x
split false e (leaf f) a = elim f [ ]
split false e (sequence {i = i} {j = j} {k = k} {ws = ws} {ms = ms} {p = p} {b = b} {q = q} {d = d} be m ad ex) (of_leaf f) = elim f [ ]
split false e (sequence {i = i} {j = j} {k = k} {ws = ws} {ms = ms} {p = p} {b = b} {q = q} {d = d} be m ad ex) (of_sequence a g) = record {
  ws = ws;
  is = refl;
  said = record { ms = ms; beside = be; in_root = i; in_more = j; others = k; p = p; b = b; q = q; d = d; members = m; additions' = ad; extended = ex; sum = refl };
  components = a;
}
split true e (leaf f) a = elim f [ ]
split true e (set {i = i} {j = j} {k = k} {ws = ws} {ms = ms} {p = p} {b = b} {q = q} {d = d} be m ad ex) (of_leaf f) = elim f [ ]
split true e (set {i = i} {j = j} {k = k} {ws = ws} {ms = ms} {p = p} {b = b} {q = q} {d = d} be m ad ex) (of_set a g) = record {
  ws = ws;
  is = refl;
  said = record { ms = ms; beside = be; in_root = i; in_more = j; others = k; p = p; b = b; q = q; d = d; members = m; additions' = ad; extended = ex; sum = refl };
  components = a;
}

are_valid : {s : List Resolved} {l : ℕ} {cs : List Component} {ws : Row} {ms : List (Member AbstractValue)} → Beside cs ws ms → AllByRecursion (IsValid s l) ms → AreComponents s l cs ws
are_valid beside_none a = no_component
are_valid (beside_absent b) a = component_absent a.0 (are_valid b a.1)
are_valid (beside_present b) a = component_present a.0 (are_valid b a.1)

valid_of : {s : List Resolved} {l : ℕ} {cs : List Component} {ws : Row} {ms : List (Member AbstractValue)} → Beside cs ws ms → AreComponents s l cs ws → AllByRecursion (IsValid s l) ms
valid_of beside_none no_component = tt
valid_of (beside_absent b) (component_absent m a) = (m, valid_of b a)
valid_of (beside_present b) (component_present v a) = (v, valid_of b a)

module _ (s : List Resolved) (l : ℕ) (set e : Bool) (cs : List Component) (li : AreListed s e cs) where
  abbrev places : List (Member ℕ)
  places = placed_from 0 cs

  abbrev root : List (Member ℕ)
  root = ordered set s (root_members places)

  abbrev more : List (Addition ℕ)
  more = additions (past_marker places)

  -- what a row has of members, in both orders
  root_seen : (ws : Row) → ordered set s (root_members (map (seen ws) places)) ≡ map (seen ws) root
  root_seen ws = ap (ordered set s) (root_same (seen ws) (seen_component ws) places) ∙ ordered_same set s (seen ws) (seen_component ws) (root_members places)

  past_marker_seen : (ws : Row) → past_marker (map (seen ws) places) ≡ map (seen ws) (past_marker places)
  past_marker_seen ws = past_marker_same (seen ws) (seen_component ws) places

  more_seen : (ws : Row) → additions (past_marker (map (seen ws) places)) ≡ map (on_additions (seen ws)) more
  more_seen ws = ap additions (past_marker_seen ws) ∙ additions_same (seen ws) (seen_component ws) (past_marker places)

  -- the row that was made of pieces
  record Row_of (p : Pieces) : Type 0 where
    ms : List (Member AbstractValue)
    beside : Beside cs (row_of cs root more p) ms
    root_is : ordered set s (root_members ms) ≡ p.root
    more_is : additions (past_marker ms) ≡ p.more
    past_marker_is : past_marker ms ≡ members_in p.more

  the_row : (p : Pieces) → Parallel root p.root → ParallelAdditions more p.more → Row_of p
  the_row p a b =
      let ws = row_of cs root more p in
      let flat : members_in more ≡ past_marker places = flat_additions (past_marker places) in
      let all = root ++ members_in more in
      let dist : Distinct all = subst (λ q. Distinct (root ++ q)) (sym flat) (parts_distinct set s cs) in
      let low : Below (members (no_row cs)) all = subst (λ n. Below n all) (sym (no_row_many cs)) (subst (λ q. Below (length cs) (root ++ q)) (sym flat) (parts_below set s cs)) in
      let both : Parallel all (p.root ++ members_in p.more) = with_both a (flat_parallel b) in
      let is : map (seen ws) all ≡ p.root ++ members_in p.more = seen_members all (p.root ++ members_in p.more) (no_row cs) dist low (no_row_blank cs all) both in
      let halves = map_parts (seen ws) root (members_in more) p.root (members_in p.more) (parallel_length a) is in
      record {
        ms = map (seen ws) places;
        beside = beside_seen cs ws (all_many all (p.root ++ members_in p.more) (no_row cs) ∙ no_row_many cs);
        root_is = root_seen ws ∙ halves.0;
        more_is = more_seen ws ∙ same_additions (seen ws) more p.more b halves.1;
        past_marker_is = past_marker_seen ws ∙ ap (map (seen ws)) (sym flat) ∙ halves.1;
      }

  no_list : {X Y : Type 0} (f : X → Y) (xs : List X) → map f xs ≡ [] → xs ≡ []
  no_list f [] h = refl
  no_list f (x ∷ xs) h = absurd (cc)

  pub no_more : e ≡ false → more ≡ []
  no_more f =
      let ws = no_row cs in
      let b = none_past_marker (subst (λ z. AreListed s z cs) f li) (beside_seen cs ws (no_row_many cs)) in
      ap additions (no_list (seen ws) (past_marker places) (sym (past_marker_seen ws) ∙ b))

  module _ (tells : DecidesDefaults s (is_default s)) where
    root_decided : AllDecided s l root
    root_decided = all_decided root (root_part (λ m. IsDecided s l (component m)) set s places (placed_decided s l 0 cs tells li.defaults))

    more_decided : AdditionsDecided s l more
    more_decided = additions_decided (past_marker places) (past_marker_decided s l places (placed_decided s l 0 cs tells li.defaults))

    abbrev FieldsOf : ℕ → Taken AbstractValue → Bits → Type 0
    FieldsOf n = Made (ArePieces s l e root more n) (λ p. taken (fields (row_of cs root more p.it)) p.skipped p.left)

    built : (n : ℕ) (t : Taken Pieces) (x : Bits) → (q : ArePieces s l e root more n t x) → IsKindRead s l n (the_kind set e cs) (taken (fields (row_of cs root more (in_pieces q.members q.rest).it)) (in_pieces q.members q.rest).skipped (in_pieces q.members q.rest).left) x
    built n t x q =
        let p = in_pieces q.members q.rest in
        let ws = row_of cs root more p.it in
        let said = rest_said e q.mark q.front more q.members.left q.rest q.back (q.bits ++ q.contents) x no_more more_decided q.is_mark q.is_rest (q.whole ∙ ap (λ z. q.front ++ z) (sym (append_assoc q.bits q.contents q.back))) in
        let r = the_row p.it (read_parallel q.are_members.are) (additions_parallel said.are) in
        let struct : StructureSaid s set e cs ws p.skipped x = record {
          ms = r.ms;
          beside = r.beside;
          in_root = q.members.skipped;
          in_more = said.own;
          others = said.others;
          p = q.bits;
          b = q.contents;
          q = said.stated;
          d = said.types;
          members = subst (λ z. MembersPer s lenient z q.members.skipped q.bits q.contents) (sym r.root_is) q.are_members.say_them;
          additions' = subst (λ z. Additions s lenient z said.own said.stated said.types) (sym r.more_is) said.say_them;
          extended = said.extended;
          sum = ap (λ z. q.members.skipped + z) said.sum;
        } in
        let valid = of_parts (IsValid s l) set s r.ms (subst (AllByRecursion (IsValid s l)) (sym r.root_is) (read_valid q.are_members.are)) (subst (AllByRecursion (IsValid s l)) (sym r.past_marker_is) (additions_valid said.are)) in
        record {
          holds_it = holds_of set e struct;
          value = value_of set e (are_valid r.beside valid) (groups_whole li r.beside struct.additions');
          counted = count ws q.rest.it q.members.it q.members.left q.rest.left r.ms r.beside r.root_is r.past_marker_is q.are_members.counted said.counted;
        }
      where
        count : (ws : Row) (us : List (Addition AbstractValue)) (rs : List (Member AbstractValue)) (left1 left : ℕ) (ms : List (Member AbstractValue)) → Beside cs ws ms → ordered set s (root_members ms) ≡ rs → past_marker ms ≡ members_in us → n ≡ all_weight rs + left1 → left1 ≡ addition_weight us + left → suc n ≡ weight (fields ws) + left
        count ws us rs left1 left ms b ri bi c1 c2 =
            let a1 = beside_weight b in
            let a2 = part_weight set s ms in
            let a3 = ap all_weight ri in
            let a4 = ap all_weight bi ∙ flat_weight us in
            omega arith

    to : (n : ℕ) (w : Taken AbstractValue) (x : Bits) → FieldsOf n w x → IsKindRead s l n (the_kind set e cs) w x
    to n w x m =
        subst (λ z. IsKindRead s l n (the_kind set e cs) z x) (sym (m.made ∙ ap (λ p. taken (fields (row_of cs root more p.it)) p.skipped p.left) m.is.made)) (built n m.of x m.is)

    module _ (only : (v w : AbstractValue) (j k : ℕ) (x : Bits) → EncodesKindPer s lenient (the_kind set e cs) v j x → EncodesKindPer s lenient (the_kind set e cs) w k x → v ≡ w) where
      from : (n : ℕ) (w : Taken AbstractValue) (x : Bits) → IsKindRead s l n (the_kind set e cs) w x → FieldsOf n w x
      from n w x a = by (split set e a.holds_it a.value)
        where
          by : Split s l set e cs w.it w.skipped x → FieldsOf n w x
          by sp =
              let ws = sp.ws in
              let st = sp.said in
              let mi : st.ms ≡ map (seen ws) places = beside_is st.beside in
              let root_is : ordered set s (root_members st.ms) ≡ map (seen ws) root = ap (λ z. ordered set s (root_members z)) mi ∙ root_seen ws in
              let past_marker_is : past_marker st.ms ≡ map (seen ws) (past_marker places) = ap past_marker mi ∙ past_marker_seen ws in
              let more_is : additions (past_marker st.ms) ≡ map (on_additions (seen ws)) more = ap (λ z. additions (past_marker z)) mi ∙ more_seen ws in
              let flat : members_in more ≡ past_marker places = flat_additions (past_marker places) in
              let valid = valid_of st.beside sp.components in
              let rs = map (seen ws) root in
              let us = map (on_additions (seen ws)) more in
              let allr : AllRead s l root rs = read_seen ws root (subst (AllByRecursion (IsValid s l)) root_is (root_part (IsValid s l) set s st.ms valid)) in
              let addr : AdditionsRead s l more us = additions_seen ws more (subst (AllByRecursion (IsValid s l)) (past_marker_is ∙ ap (map (seen ws)) (sym flat)) (more_part (IsValid s l) st.ms valid)) in
              let mem = subst (λ z. MembersPer s lenient z st.in_root st.p st.b) root_is st.members in
              let add = subst (λ z. Additions s lenient z st.in_more st.q st.d) more_is st.additions' in
              let left1 = addition_weight us + w.left in
              let parts = rest_parts left1 w.left add addr refl st.extended in
              let mt = taken rs st.in_root left1 in
              let pieces : ArePieces s l e root more n (in_pieces mt parts.rest) x = record {
                mark = parts.mark;
                front = parts.front;
                is_mark = parts.is_mark;
                presence = map is_present rs;
                bits = st.p;
                tells = presence_said mem allr;
                members = mt;
                contents = st.b;
                are_members = record { say_them = mem; are = allr; they_are_present = refl; counted = count ws us rs st.ms st.beside root_is (past_marker_is ∙ ap (map (seen ws)) (sym flat) ∙ sym (flat_map_same (seen ws) more)) (a.counted ∙ ap (λ z. weight z + w.left) sp.is) };
                rest = parts.rest;
                back = parts.back;
                is_rest = parts.is_rest;
                made = refl;
                whole = parts.whole ∙ ap (λ z. parts.front ++ z) (append_assoc st.p st.b parts.back);
              } in
              let v = built n (in_pieces mt parts.rest) x pieces in
              let same : w.it ≡ fields (row_of cs root more (in_pieces mt parts.rest).it) = only w.it (fields (row_of cs root more (in_pieces mt parts.rest).it)) w.skipped (in_pieces mt parts.rest).skipped x a.holds_it v.holds_it in
              let skips : w.skipped ≡ (in_pieces mt parts.rest).skipped = st.sum ∙ ap (λ z. st.in_root + z) (sym (ap (λ z. z.skipped) parts.same)) in
              let lefts : w.left ≡ (in_pieces mt parts.rest).left = sym (ap (λ z. z.left) parts.same) in
              record {
                of = in_pieces mt parts.rest;
                is = pieces;
                made = ap (λ z. taken z w.skipped w.left) same ∙ ap (λ z. taken (fields (row_of cs root more (in_pieces mt parts.rest).it)) z w.left) skips ∙ ap (taken (fields (row_of cs root more (in_pieces mt parts.rest).it)) (in_pieces mt parts.rest).skipped) lefts;
              }
            where
              count : (ws : Row) (us : List (Addition AbstractValue)) (rs ms : List (Member AbstractValue)) → Beside cs ws ms → ordered set s (root_members ms) ≡ rs → past_marker ms ≡ members_in us → suc n ≡ weight (fields ws) + w.left → n ≡ all_weight rs + (addition_weight us + w.left)
              count ws us rs ms b ri bi c =
                  let a1 = beside_weight b in
                  let a2 = part_weight set s ms in
                  let a3 = ap all_weight ri in
                  let a4 = ap all_weight bi ∙ flat_weight us in
                  omega arith

      module _ (bit : IsReading (λ v x. x ≡ v ∷ []) bit_from)
          (field : (n : ℕ) → IsReading (λ v x. (v < 2 ^ n) × (x ≡ low_bits n v)) (field_from n))
          (several : (n : ℕ) → IsReading (λ v x. (length v ≡ n) × (x ≡ v)) (several_bits n))
          (front : (o r : Octets) (a b p q : Bits) → CountedOctets o a → CountedOctets r b → a ++ p ≡ b ++ q → (o ≡ r) × (p ≡ q))
          (octets : IsReading CountedOctets octets_from)
          (value : ReadsValue) (V : (t n : ℕ) → IsExact (IsValueRead s l t n) (value t n)) where
        pub structure_exact : (n : ℕ) → IsExact (IsKindRead s l n (the_kind set e cs)) (structure_from s l value e cs root n)
        structure_exact n =
            convert (made_exact (λ p. taken (fields (row_of cs root more p.it)) p.skipped p.left) (pieces_exact bit field several front octets s l value V e root more n root_decided more_decided)) (to n) (from n)
