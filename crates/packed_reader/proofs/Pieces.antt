-- What follows the root, and all pieces of a SEQUENCE or a SET.
use Rattle.std.proofs.Common.{arith, ◌≡◌, ℕ, zero, suc, ◌+◌, ◌-◌, ◌^◌, ◌<◌, ◌≤◌, inl, inr, Bool, true, false, List, [], ◌∷◌, ◌++◌, length, map, drop, replicate, refl, sym, ap, subst, ◌∙◌, length-append}
use Rattle.std.specs.Prelude.{not}
use Rattle.std.proofs.lemmas.List.{length-replicate}
use Rattle.bits.specs.Words.{low_bits}
use Rattle.asn_base.specs.Abstract.{AbstractValue}
use Rattle.asn_base.specs.Types.{Resolved}
use Rattle.encodings.specs.Header.{Octets}
use Rattle.packed_encodings.specs.Lengths.{Bits, CountedOctets}
use Rattle.packed_encodings.specs.Orders.{Member, Addition}
use Rattle.packed_encodings.specs.Padding.{UnknownAdditions}
use Rattle.packed_encodings.specs.Packing.{any_set, lenient, AnnounceAdditions}
use Rattle.decode_faults.specs.declared.refusal.Refusal.TheVariants as why
use Rattle.packed_readings.specs.Outcome.{IsReading, Then, bit_from, field_from}
use Rattle.packed_readings.specs.Counts.{several_bits, octets_from}
use Rattle.packed_reader.specs.Readings.{Taken, taken, IsExact}
use Rattle.packed_reader.specs.Structures.{ReadsValue, members_from, lacking_addition, count_from, bitmap_from, own_bits, and_unknown, extension_from, rest_from, Pieces, in_pieces, mark_from, pieces_from}
use Rattle.packed_reader.specs.Values.{IsValueRead}
use Rattle.packed_reader.proofs.Exact.{done_exact, convert, next_exact, Made, made_exact, plain_exact, tested_exact}
use Rattle.packed_reader.proofs.Opening.{not_true}
use Rattle.packed_reader.proofs.Members.{PresenceIs, presences_exact, AreMembersRead, AllDecided, members_exact}
use Rattle.packed_reader.proofs.AdditionsRead.{one_presence, AdditionsDecided, AreAdditionsRead, additions_exact, unknown_exact}

-- ---- a bit for each addition

pub record IsBitmap (m x : Bits) : Type 0 where
  pub some : any_set m ≡ true
  pub few : length m ≤ 64
  pub is : x ≡ false ∷ (low_bits 6 (length m - 1) ++ m)

some_set : (m : Bits) → any_set m ≡ true → 1 ≤ length m
some_set [] e = absurd (not_true e)
some_set (b ∷ m) e = omega arith

pub own_length : (n : ℕ) (m : Bits) → length (own_bits n m) ≡ n
own_length zero m = refl
own_length (suc n) [] = let e = own_length n [] in omega arith
own_length (suc n) (c ∷ m) = let e = own_length n m in omega arith

none_own : (n : ℕ) → own_bits n [] ≡ replicate n false
none_own zero = refl
none_own (suc n) = ap (λ q. false ∷ q) (none_own n)

pub own_stated : (n : ℕ) (m : Bits) → AnnounceAdditions lenient (own_bits n m) (drop n m) m
own_stated zero m = inl refl
own_stated (suc n) [] = inr (refl, suc n, none_own (suc n))
own_stated (suc n) (c ∷ m) = by (own_stated n m)
  where
    by : AnnounceAdditions lenient (own_bits n m) (drop n m) m → AnnounceAdditions lenient (c ∷ own_bits n m) (drop n m) (c ∷ m)
    by (inl e) = inl (ap (λ q. c ∷ q) e)
    by (inr e) = inr (e.0, e.1, ap (λ q. c ∷ q) e.2)

own_front : (q u : Bits) → (own_bits (length q) (q ++ u) ≡ q) × (drop (length q) (q ++ u) ≡ u)
own_front [] u = (refl, refl)
own_front (c ∷ q) u = let r = own_front q u in (ap (λ z. c ∷ z) r.0, r.1)

none_dropped : (n : ℕ) → drop {A = Bool} n [] ≡ []
none_dropped zero = refl
none_dropped (suc n) = refl

own_fewer : (n : ℕ) (m : Bits) (k : ℕ) → n ≡ length m + k → (own_bits n m ≡ m ++ replicate k false) × (drop n m ≡ [])
own_fewer n [] k e = (none_own n ∙ ap (λ z. replicate z false) (let f : n ≡ k = omega arith in f), none_dropped n)
own_fewer zero (c ∷ m) k e = absurd (omega arith)
own_fewer (suc n) (c ∷ m) k e = let r = own_fewer n m k (omega arith) in (ap (λ z. c ∷ z) r.0, r.1)

pub own_only : (n : ℕ) (q u m : Bits) → length q ≡ n → AnnounceAdditions lenient q u m → (q ≡ own_bits n m) × (u ≡ drop n m)
own_only n q u m l (inl e) =
    let r = own_front q u in
    (sym r.0 ∙ ap (λ z. own_bits (length q) z) (sym e) ∙ ap (λ z. own_bits z m) l, sym r.1 ∙ ap (drop (length q)) (sym e) ∙ ap (λ z. drop z m) l)
own_only n q u m l (inr e) =
    let k : length q ≡ length m + e.1 = ap length e.2 ∙ length-append m (replicate e.1 false) ∙ ap (λ z. length m + z) (length-replicate e.1 false) in
    let r = own_fewer n m e.1 (omega arith) in
    (e.2 ∙ sym r.0, e.0 ∙ sym r.1)

module _ (bit : IsReading (λ v x. x ≡ v ∷ []) bit_from)
    (field : (n : ℕ) → IsReading (λ v x. (v < 2 ^ n) × (x ≡ low_bits n v)) (field_from n))
    (several : (n : ℕ) → IsReading (λ v x. (length v ≡ n) × (x ≡ v)) (several_bits n)) where
  count_exact : IsExact (λ v x. (v < 64) × (x ≡ false ∷ low_bits 6 v)) count_from
  count_exact = convert (next_exact {Q = λ c v x. (v < 64) × (x ≡ low_bits 6 v)} (tested_exact not why.TooManyAdditions (plain_exact bit)) (λ c x p. plain_exact (field 6))) to from
    where
      to : (v : ℕ) (x : Bits) → Then (λ c x. (x ≡ c ∷ []) × (not c ≡ true)) (λ c v x. (v < 64) × (x ≡ low_bits 6 v)) v x → (v < 64) × (x ≡ false ∷ low_bits 6 v)
      to v x t =
          let c : t.first ≡ false = not_of t.first t.is_first.1 in
          (t.is_next.0, t.whole ∙ ap (λ q. q ++ t.back) (t.is_first.0 ∙ ap (λ q. q ∷ []) c) ∙ ap (λ q. false ∷ q) t.is_next.1)
        where
          not_of : (b : Bool) → not b ≡ true → b ≡ false
          not_of true e = absurd (not_true e)
          not_of false e = refl

      from : (v : ℕ) (x : Bits) → (v < 64) × (x ≡ false ∷ low_bits 6 v) → Then (λ c x. (x ≡ c ∷ []) × (not c ≡ true)) (λ c v x. (v < 64) × (x ≡ low_bits 6 v)) v x
      from v x p = record { first = false; front = false ∷ []; back = low_bits 6 v; is_first = (refl, refl); is_next = (p.0, refl); whole = p.1 }

  pub bitmap_exact : IsExact IsBitmap bitmap_from
  bitmap_exact = convert (next_exact {Q = λ n m x. ((length m ≡ suc n) × (x ≡ m)) × (any_set m ≡ true)} count_exact (λ n x p. tested_exact any_set why.NotCanonical (plain_exact (several (suc n))))) to from
    where
      to : (m x : Bits) → Then (λ v x. (v < 64) × (x ≡ false ∷ low_bits 6 v)) (λ n m x. ((length m ≡ suc n) × (x ≡ m)) × (any_set m ≡ true)) m x → IsBitmap m x
      to m x t =
          let n = t.is_next.0 in
          let e : length m - 1 ≡ t.first = (let h = n.0 in omega arith) in
          record {
            some = t.is_next.1;
            few = (let h = n.0 in let k = t.is_first.0 in omega arith);
            is = t.whole ∙ ap (λ q. q ++ t.back) (t.is_first.1 ∙ ap (λ q. false ∷ low_bits 6 q) (sym e)) ∙ ap (λ q. (false ∷ low_bits 6 (length m - 1)) ++ q) n.1;
          }

      from : (m x : Bits) → IsBitmap m x → Then (λ v x. (v < 64) × (x ≡ false ∷ low_bits 6 v)) (λ n m x. ((length m ≡ suc n) × (x ≡ m)) × (any_set m ≡ true)) m x
      from m x b =
          let l = some_set m b.some in
          record {
            first = length m - 1;
            front = false ∷ low_bits 6 (length m - 1);
            back = m;
            is_first = ((let h = b.few in omega arith), refl);
            is_next = (((omega arith), refl), b.some);
            whole = b.is;
          }

-- ---- what follows the root

-- additions, of which m tells which are present; the type's own ones, and others
pub record IsExtension (s : List Resolved) (l : ℕ) (ds : List (Addition ℕ)) (n : ℕ) (t : Taken (List (Addition AbstractValue))) (x : Bits) : Type 0 where
  pub map : Bits
  pub front : Bits
  pub is_map : IsBitmap map front
  pub own : Taken (List (Addition AbstractValue))
  pub types : Bits
  pub are_own : AreAdditionsRead s l ds (own_bits (length ds) map) n own types
  pub others : ℕ
  pub skipped : Bits
  pub are_others : UnknownAdditions (drop (length ds) map) others skipped
  pub made : t ≡ and_unknown own others
  pub whole : x ≡ front ++ (types ++ skipped)

abbrev pub IsRest : List Resolved → ℕ → Bool → List (Addition ℕ) → ℕ → Taken (List (Addition AbstractValue)) → Bits → Type 0
IsRest s l true ds n t x = IsExtension s l ds n t x
IsRest s l false ds n t x = (t ≡ taken (map lacking_addition ds) 0 n) × (x ≡ [])

-- the extension bit, if there is one
abbrev pub IsMark : Bool → Bool → Bits → Type 0
IsMark true c x = x ≡ c ∷ []
IsMark false c x = (c ≡ false) × (x ≡ [])

-- all pieces
pub record ArePieces (s : List Resolved) (l : ℕ) (e : Bool) (root : List (Member ℕ)) (ds : List (Addition ℕ)) (n : ℕ) (t : Taken Pieces) (x : Bits) : Type 0 where
  pub mark : Bool
  pub front : Bits
  pub is_mark : IsMark e mark front
  pub presence : List Bool
  pub bits : Bits
  pub tells : PresenceIs root presence bits
  pub members : Taken (List (Member AbstractValue))
  pub contents : Bits
  pub are_members : AreMembersRead s l root presence bits n members contents
  pub rest : Taken (List (Addition AbstractValue))
  pub back : Bits
  pub is_rest : IsRest s l mark ds members.left rest back
  pub made : t ≡ in_pieces members rest
  pub whole : x ≡ front ++ (bits ++ (contents ++ back))

module _ (bit : IsReading (λ v x. x ≡ v ∷ []) bit_from)
    (field : (n : ℕ) → IsReading (λ v x. (v < 2 ^ n) × (x ≡ low_bits n v)) (field_from n))
    (several : (n : ℕ) → IsReading (λ v x. (length v ≡ n) × (x ≡ v)) (several_bits n))
    (front : (o r : Octets) (a b p q : Bits) → CountedOctets o a → CountedOctets r b → a ++ p ≡ b ++ q → (o ≡ r) × (p ≡ q))
    (octets : IsReading CountedOctets octets_from)
    (s : List Resolved) (l : ℕ) (value : ReadsValue) (V : (t n : ℕ) → IsExact (IsValueRead s l t n) (value t n)) where
  abbrev OwnThen : List (Addition ℕ) → ℕ → Bits → Taken (List (Addition AbstractValue)) → Bits → Type 0
  OwnThen ds n m = Then (AreAdditionsRead s l ds (own_bits (length ds) m) n) (λ t. Made (UnknownAdditions (drop (length ds) m)) (and_unknown t))

  extension_exact : (ds : List (Addition ℕ)) (n : ℕ) → AdditionsDecided s l ds → IsExact (IsExtension s l ds n) (extension_from s l value ds n)
  extension_exact ds n h =
      convert (next_exact {Q = OwnThen ds n} (bitmap_exact bit field several) (λ m x p.
      next_exact {Q = λ t. Made (UnknownAdditions (drop (length ds) m)) (and_unknown t)} (additions_exact bit front octets s l value V ds (own_bits (length ds) m) n (own_length (length ds) m) h) (λ t y a.
      made_exact (and_unknown t) (unknown_exact bit front octets s l value V (drop (length ds) m))))) to from
    where
      to : (t : Taken (List (Addition AbstractValue))) (x : Bits) → Then IsBitmap (OwnThen ds n) t x → IsExtension s l ds n t x
      to t x q =
          let r = q.is_next in
          record {
            map = q.first;
            front = q.front;
            is_map = q.is_first;
            own = r.first;
            types = r.front;
            are_own = r.is_first;
            others = r.is_next.of;
            skipped = r.back;
            are_others = r.is_next.is;
            made = r.is_next.made;
            whole = q.whole ∙ ap (λ z. q.front ++ z) r.whole;
          }

      from : (t : Taken (List (Addition AbstractValue))) (x : Bits) → IsExtension s l ds n t x → Then IsBitmap (OwnThen ds n) t x
      from t x q = record {
        first = q.map;
        front = q.front;
        back = q.types ++ q.skipped;
        is_first = q.is_map;
        is_next = record {
          first = q.own;
          front = q.types;
          back = q.skipped;
          is_first = q.are_own;
          is_next = record { of = q.others; is = q.are_others; made = q.made };
          whole = refl;
        };
        whole = q.whole;
      }

  rest_exact : (c : Bool) (ds : List (Addition ℕ)) (n : ℕ) → AdditionsDecided s l ds → IsExact (IsRest s l c ds n) (rest_from s l value c ds n)
  rest_exact true ds n h = extension_exact ds n h
  rest_exact false ds n h = done_exact (taken (map lacking_addition ds) 0 n)

  mark_exact : (e : Bool) → IsExact (IsMark e) (mark_from e)
  mark_exact true = plain_exact bit
  mark_exact false = done_exact false

  -- members with the bits that tell them
  record RootPresent (ms : List (Member ℕ)) (n : ℕ) (cs : List Bool) (t : Taken (List (Member AbstractValue))) (x : Bits) : Type 0 where
    bits : Bits
    tells : PresenceIs ms cs bits
    read : AreMembersRead s l ms cs bits n t x

  exact_by_presence : {ms : List (Member ℕ)} {cs : List Bool} {p : Bits} → PresenceIs ms cs p → AllDecided s l ms → (n : ℕ) → IsExact (RootPresent ms n cs) (members_from s l value ms cs n)
  exact_by_presence {ms} {cs} {p} a h n =
      convert (members_exact s l value V a h n) (λ t x r. record { bits = p; tells = a; read = r })
      (λ t x r. subst (λ q. AreMembersRead s l ms cs q n t x) (one_presence r.tells a) r.read)

  abbrev RootThen : List (Member ℕ) → List (Addition ℕ) → ℕ → Bool → List Bool → Taken Pieces → Bits → Type 0
  RootThen root ds n c cs = Then (RootPresent root n cs) (λ t. Made (IsRest s l c ds t.left) (in_pieces t))

  abbrev MarkThen : List (Member ℕ) → List (Addition ℕ) → ℕ → Bool → Taken Pieces → Bits → Type 0
  MarkThen root ds n c = Then (PresenceIs root) (RootThen root ds n c)

  pub pieces_exact : (e : Bool) (root : List (Member ℕ)) (ds : List (Addition ℕ)) (n : ℕ) → AllDecided s l root → AdditionsDecided s l ds → IsExact (ArePieces s l e root ds n) (pieces_from s l value e root ds n)
  pieces_exact e root ds n h k =
      convert (next_exact {Q = MarkThen root ds n} (mark_exact e) (λ c x p.
      next_exact {Q = RootThen root ds n c} (presences_exact bit root) (λ cs x p.
      next_exact {Q = λ t. Made (IsRest s l c ds t.left) (in_pieces t)} (exact_by_presence p h n) (λ t x a.
      made_exact (in_pieces t) (rest_exact c ds t.left k))))) to from
    where
      to : (t : Taken Pieces) (x : Bits) → Then (IsMark e) (MarkThen root ds n) t x → ArePieces s l e root ds n t x
      to t x q =
          let r = q.is_next in
          let m = r.is_next in
          record {
            mark = q.first;
            front = q.front;
            is_mark = q.is_first;
            presence = r.first;
            bits = r.front;
            tells = r.is_first;
            members = m.first;
            contents = m.front;
            are_members = subst (λ z. AreMembersRead s l root r.first z n m.first m.front) (one_presence m.is_first.tells r.is_first) m.is_first.read;
            rest = m.is_next.of;
            back = m.back;
            is_rest = m.is_next.is;
            made = m.is_next.made;
            whole = q.whole ∙ ap (λ z. q.front ++ z) (r.whole ∙ ap (λ z. r.front ++ z) m.whole);
          }

      from : (t : Taken Pieces) (x : Bits) → ArePieces s l e root ds n t x → Then (IsMark e) (MarkThen root ds n) t x
      from t x q = record {
        first = q.mark;
        front = q.front;
        back = q.bits ++ (q.contents ++ q.back);
        is_first = q.is_mark;
        is_next = record {
          first = q.presence;
          front = q.bits;
          back = q.contents ++ q.back;
          is_first = q.tells;
          is_next = record {
            first = q.members;
            front = q.contents;
            back = q.back;
            is_first = record { bits = q.bits; tells = q.tells; read = q.are_members };
            is_next = record { of = q.rest; is = q.is_rest; made = q.made };
            whole = refl;
          };
          whole = refl;
        };
        whole = q.whole;
      }
