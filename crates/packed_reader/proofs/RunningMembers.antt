-- Components that are read one after the other, each put at its place at once.
use Rattle.std.proofs.Common.{arith, ◌≡◌, ℕ, suc, ◌+◌, Bool, true, false, List, [], ◌∷◌, ◌++◌, length, map, refl, sym, ap, ◌∙◌, append_assoc, append-nil}
use Rattle.std.specs.Prelude.{not, ◌&&◌, ◌||◌, if◌then◌else◌}
use Rattle.std.specs.List.{AllByRecursion}
use Rattle.asn_base.specs.Abstract.{AbstractValue, Row}
use Rattle.asn_base.specs.Types.{Component, Resolved}
use Rattle.packed_encodings.specs.Lengths.{Bits}
use Rattle.packed_encodings.specs.Orders.{Member, missing, standing, component, has_bit}
use Rattle.packed_encodings.specs.Packing.{any_set}
use Rattle.packed_encodings.specs.Computed.{is_default}
use Rattle.packed_code.specs.declared.step.PackedField.{PackedField}
use Rattle.packed_code.specs.Routines.{place_in}
use Rattle.decode_faults.specs.declared.refusal.Refusal.TheVariants as why
use Rattle.packed_reader.specs.declared.part.Part.TheVariants.{Component as Component'}
use Rattle.packed_reader.specs.declared.sent.Sent.{Sent}
use Rattle.packed_reader.specs.Levels.{is_within, may_lack}
use Rattle.packed_reader.specs.Readings.{Reading, read, refused, stop, next, in_part, tested, Taken, taken}
use Rattle.packed_reader.specs.Structures.{ReadsValue, presence_from, presences_from, part_of, may_be_present_so, taken_member, member_from, joined, members_from, lacking, with_value, with_members}
use Rattle.packed_reader.specs.Steps.{member_at}
use Rattle.packed_reader.specs.proving.Running.{past, RunsValue, sent, run_presences, any_sent, differs, run_member, run_members}
use Rattle.packed_reader.proofs.RunningState.{plus_none, none_since, past_by, same_read, Always, always_next, always_after, onto, nothing_asked, with_others}

-- ---- fields

-- the field is that of the component at its place
pub record Fits (cs : List Component) (f : PackedField) : Type 0 where
  pub bit : f.with_bit ≡ has_bit (component (member_at cs f)).presence
  pub type : f.ty.index ≡ (component (member_at cs f)).type
  pub place : place_in (member_at cs f) ≡ f.place

-- a value with a state
abbrev pub run_of : ReadsValue → RunsValue
run_of value t k n b = past k (value t n b)

-- ---- whether they are present

abbrev pub all_sent : List PackedField → List Bool → List Sent
all_sent [] cs = []
all_sent (f ∷ fs) [] = []
all_sent (f ∷ fs) (c ∷ cs) = sent f c ∷ all_sent fs cs

pub presences_same : (cs : List Component) (xs : List Sent) (fs : List PackedField) (b : Bits) → AllByRecursion (Fits cs) fs → run_presences xs fs b ≡ next (presences_from (map (member_at cs) fs) b) (λ c r. read (xs ++ all_sent fs c) r)
presences_same cs xs [] b h = ap (λ q. read q b) (sym (append-nil xs))
presences_same cs xs (f ∷ fs) b h =
    ap (λ q. next (presence_from q b) (λ c r. run_presences (xs ++ (sent f c ∷ [])) fs r)) h.0.bit
    ∙ by (presence_from (has_bit (component (member_at cs f)).presence) b) (λ c r. presences_same cs (xs ++ (sent f c ∷ [])) fs r h.1)
  where
    ms : List (Member ℕ)
    ms = map (member_at cs) fs

    others : (c : Bool) (o : Reading (List Bool)) → next o (λ q r. read ((xs ++ (sent f c ∷ [])) ++ all_sent fs q) r) ≡ next (next o (λ q z. read (c ∷ q) z)) (λ q r. read (xs ++ all_sent (f ∷ fs) q) r)
    others c (read q r) = ap (λ y. read y r) (append_assoc xs (sent f c ∷ []) (all_sent fs q))
    others c (refused e r) = refl

    by : (o : Reading Bool)
        → ((c : Bool) (r : Bits) → run_presences (xs ++ (sent f c ∷ [])) fs r ≡ next (presences_from (map (member_at cs) fs) r) (λ q r. read ((xs ++ (sent f c ∷ [])) ++ all_sent fs q) r))
        → next o (λ c r. run_presences (xs ++ (sent f c ∷ [])) fs r) ≡ next (next o (λ c r. next (presences_from (map (member_at cs) fs) r) (λ q z. read (c ∷ q) z))) (λ q r. read (xs ++ all_sent (f ∷ fs) q) r)
    by (read c r) ih = ih c r ∙ others c (presences_from (map (member_at cs) fs) r)
    by (refused e r) ih = refl

pub presences_many : (ms : List (Member ℕ)) (b : Bits) → Always (λ c. length c ≡ length ms) (presences_from ms b)
presences_many [] b = refl
presences_many (m ∷ ms) b =
    always_after (λ c. length c ≡ suc (length ms)) (presence_from (has_bit (component m).presence) b) (λ c r. next (presences_from ms r) (λ q z. read (c ∷ q) z))
    (λ c r. always_next (λ q. length q ≡ length ms) (λ c. length c ≡ suc (length ms)) (presences_from ms r) (λ q z. read (c ∷ q) z) (presences_many ms r) (λ q z e. ap suc e))

pub any_same : (cs : List Component) (fs : List PackedField) (c : List Bool) → length c ≡ length (map (member_at cs) fs) → any_sent (all_sent fs c) ≡ any_set c
any_same cs [] [] e = refl
any_same cs [] (x ∷ c) e = absurd (omega arith)
any_same cs (f ∷ fs) [] e = absurd (omega arith)
any_same cs (f ∷ fs) (x ∷ c) e = ap (λ q. x || q) (any_same cs fs c (omega arith))

-- ---- rows

abbrev pub put_member : Member ℕ → Row → Member AbstractValue → Row
put_member m ws (standing c w) = with_value (place_in m) w ws
put_member m ws (missing c) = ws

pub put_first : (m : Member ℕ) (ms : List (Member ℕ)) (v : Member AbstractValue) (vs : List (Member AbstractValue)) (ws : Row) → with_members ms vs (put_member m ws v) ≡ with_members (m ∷ ms) (v ∷ vs) ws
put_first m ms (standing c w) vs ws = refl
put_first m ms (missing c) vs ws = refl

pub in_turn : (as' bs : List (Member ℕ)) (xs ys : List (Member AbstractValue)) (ws : Row) → length xs ≡ length as' → with_members bs ys (with_members as' xs ws) ≡ with_members (as' ++ bs) (xs ++ ys) ws
in_turn [] bs [] ys ws e = refl
in_turn [] bs (x ∷ xs) ys ws e = absurd (omega arith)
in_turn (a ∷ as') bs [] ys ws e = absurd (omega arith)
in_turn (a ∷ as') bs (standing c w ∷ xs) ys ws e = in_turn as' bs xs ys (with_value (place_in a) w ws) (omega arith)
in_turn (a ∷ as') bs (missing c ∷ xs) ys ws e = in_turn as' bs xs ys ws (omega arith)

-- those that lack leave the row as it is
pub lack_first : (ms bs : List (Member ℕ)) (ys : List (Member AbstractValue)) (ws : Row) → with_members bs ys ws ≡ with_members (ms ++ bs) (map lacking ms ++ ys) ws
lack_first [] bs ys ws = refl
lack_first (m ∷ ms) bs ys ws = lack_first ms bs ys ws

-- ---- members

module _ (s : List Resolved) (l : ℕ) (value : ReadsValue) where
  pub members_many : (ms : List (Member ℕ)) (c : List Bool) (n : ℕ) (b : Bits) → length c ≡ length ms → Always (λ t. length t.it ≡ length ms) (members_from s l value ms c n b)
  members_many [] c n b e = refl
  members_many (m ∷ ms) [] n b e = e
  members_many (m ∷ ms) (x ∷ c) n b e =
      always_after (λ t. length t.it ≡ suc (length ms)) (member_from s l value m x n b) (λ t r. next (members_from s l value ms c t.left r) (λ ts z. read (joined t ts) z))
      (λ t r. always_next (λ ts. length ts.it ≡ length ms) (λ t. length t.it ≡ suc (length ms)) (members_from s l value ms c t.left r) (λ ts z. read (joined t ts) z) (members_many ms c t.left r (omega arith)) (λ ts z e. ap suc e))

  present_same : (m : Member ℕ) (ws : Row) (k n : ℕ) (b : Bits)
      → next (in_part (Component' (place_in m)) (tested (differs s (component m) k) why.NotCanonical (run_of value (component m).type k n) b)) (λ w r. read (taken (with_value (place_in m) w.it ws) w.skipped w.left) r)
      ≡ past_by (put_member m ws) k (member_from s l value m true n b)
  present_same m ws k n b = by (value (component m).type n b)
    where
      which : (w : Taken AbstractValue) (r : Bits) (c : Bool)
          → next (in_part (Component' (place_in m)) (if c then read (taken w.it (k + w.skipped) w.left) r else stop why.NotCanonical b)) (λ w r. read (taken (with_value (place_in m) w.it ws) w.skipped w.left) r)
          ≡ past_by (put_member m ws) k (next (in_part (part_of m) (if c then read w r else stop why.NotCanonical b)) (λ w r. read (taken_member (component m) w) r))
      which w r true = refl
      which w r false = refl

      by : (o : Reading (Taken AbstractValue))
          → next (in_part (Component' (place_in m)) (next (past k o) (λ v r. if differs s (component m) k v then read v r else stop why.NotCanonical b))) (λ w r. read (taken (with_value (place_in m) w.it ws) w.skipped w.left) r)
          ≡ past_by (put_member m ws) k (next (in_part (part_of m) (next o (λ v r. if may_be_present_so s (component m) v then read v r else stop why.NotCanonical b))) (λ w r. read (taken_member (component m) w) r))
      by (read w r) =
          ap (λ q. next (in_part (Component' (place_in m)) (if not (q && is_default s (component m) w.it) then read (taken w.it (k + w.skipped) w.left) r else stop why.NotCanonical b)) (λ w r. read (taken (with_value (place_in m) w.it ws) w.skipped w.left) r)) (none_since k w.skipped)
          ∙ which w r (may_be_present_so s (component m) w)
      by (refused e r) = refl

  absent_same : (m : Member ℕ) (ws : Row) (k n : ℕ) (b : Bits)
      → (if may_lack (is_within s l) (component m) then read (taken ws k n) b else in_part (Component' (place_in m)) (stop why.TooDeep b))
      ≡ past_by (put_member m ws) k (member_from s l value m false n b)
  absent_same m ws k n b = which (may_lack (is_within s l) (component m))
    where
      which : (c : Bool)
          → (if c then read (taken ws k n) b else in_part (Component' (place_in m)) (stop why.TooDeep b))
          ≡ past_by (put_member m ws) k (if c then read (taken (missing (component m)) 0 n) b else in_part (part_of m) (stop why.TooDeep b))
      which true = same_read n b refl (plus_none k)
      which false = refl

  module _ (cs : List Component) where
    member_same : (f : PackedField) (c : Bool) (ws : Row) (k n : ℕ) (b : Bits) → Fits cs f → run_member s l (run_of value) cs (sent f c) ws k n b ≡ past_by (put_member (member_at cs f) ws) k (member_from s l value (member_at cs f) c n b)
    member_same f true ws k n b h =
        ap (λ t. next (in_part (Component' f.place) (tested (differs s (component (member_at cs f)) k) why.NotCanonical (run_of value t k n) b)) (λ w r. read (taken (with_value f.place w.it ws) w.skipped w.left) r)) h.type
        ∙ ap (λ p. next (in_part (Component' p) (tested (differs s (component (member_at cs f)) k) why.NotCanonical (run_of value (component (member_at cs f)).type k n) b)) (λ w r. read (taken (with_value p w.it ws) w.skipped w.left) r)) (sym h.place)
        ∙ present_same (member_at cs f) ws k n b
    member_same f false ws k n b h =
        ap (λ p. if may_lack (is_within s l) (component (member_at cs f)) then read (taken ws k n) b else in_part (Component' p) (stop why.TooDeep b)) (sym h.place)
        ∙ absent_same (member_at cs f) ws k n b

    pub members_same : (fs : List PackedField) (c : List Bool) (ws : Row) (k n : ℕ) (b : Bits) → AllByRecursion (Fits cs) fs → run_members s l (run_of value) cs (all_sent fs c) ws k n b ≡ past_by (λ vs. with_members (map (member_at cs) fs) vs ws) k (members_from s l value (map (member_at cs) fs) c n b)
    members_same [] c ws k n b h = same_read n b refl (plus_none k)
    members_same (f ∷ fs) [] ws k n b h = same_read n b refl (plus_none k)
    members_same (f ∷ fs) (x ∷ c) ws k n b h =
        let m = member_at cs f in
        let ms = map (member_at cs) fs in
        onto (λ t. Unit {0}) (put_member m ws) (λ vs. with_members (m ∷ ms) vs ws) k
        (member_from s l value m x n b)
        (run_member s l (run_of value) cs (sent f x) ws k n b)
        (λ t r. next (members_from s l value ms c t.left r) (λ ts z. read (joined t ts) z))
        (λ w r. run_members s l (run_of value) cs (all_sent fs c) w.it w.skipped w.left r)
        (nothing_asked (member_from s l value m x n b))
        (member_same f x ws k n b h.0)
        (λ t r u. members_same fs c (put_member m ws t.it) (k + t.skipped) t.left r h.1
        ∙ with_others (λ vs. with_members ms vs (put_member m ws t.it)) (λ vs. with_members (m ∷ ms) vs ws) k t.skipped (λ vs. t.it ∷ vs) (members_from s l value ms c t.left r) (λ vs. put_first m ms t.it vs ws))
