-- Additions that are read one after the other, each put at its place at once.
use Rattle.std.proofs.Common.{◌≡◌, ℕ, zero, suc, ◌+◌, Bool, true, false, List, [], ◌∷◌, length, map, drop, refl, sym, ap, ◌∙◌}
use Rattle.std.specs.Prelude.{if◌then◌else◌}
use Rattle.std.specs.List.{AllByRecursion}
use Rattle.asn_base.specs.Abstract.{AbstractValue, Row}
use Rattle.asn_base.specs.Types.{Component, Resolved}
use Rattle.packed_encodings.specs.Lengths.{Bits}
use Rattle.packed_encodings.specs.Orders.{Member, component, Addition, alone, bracketed}
use Rattle.packed_encodings.specs.Packing.{any_set}
use Rattle.packed_code.specs.declared.step.PackedField.{PackedField}
use Rattle.packed_code.specs.declared.step.PackedStep.{PackedStep}
use Rattle.packed_code.specs.declared.step.PackedStep.TheVariants as steps
use Rattle.packed_code.specs.Meaning.{next_fields}
use Rattle.packed_code.specs.Routines.{place_in}
use Rattle.decode_faults.specs.declared.refusal.Refusal.TheVariants as why
use Rattle.packed_reader.specs.declared.part.Part.TheVariants.{Component as Component'}
use Rattle.packed_reader.specs.Readings.{Reading, read, refused, stop, next, in_part, tested, Taken, taken}
use Rattle.packed_reader.specs.Structures.{ReadsValue, presences_from, part_of, joined, members_from, open_from, group_from, by_itself, in_brackets, addition_from, lacking_addition, without, additions_from, unknown_from, bitmap_from, own_bits, and_unknown, rest_from, with_value, with_members, members_in}
use Rattle.packed_reader.specs.Steps.{member_at, next_members, additions_in}
use Rattle.packed_reader.specs.proving.Running.{Runs, any_sent, run_members, run_added, run_group_inside, run_group, first_bit, other_bits, run_additions, run_rest}
use Rattle.packed_reader.proofs.RunningState.{plus_none, plus_more, plus_zero, past_by, past_is, same_read, Always, always_next, always_after, always_tested, next_next, after, onto, opened, always_opened}
use Rattle.packed_reader.proofs.RunningMembers.{Fits, run_of, all_sent, presences_same, presences_many, any_same, put_member, put_first, in_turn, lack_first, members_many, members_same}

-- ---- steps

abbrev pub StepFits : List Component → PackedStep → Type 0
StepFits cs (steps.Field f) = Fits cs f
StepFits cs (steps.Added f) = Fits cs f
StepFits cs (steps.Member f) = Fits cs f
StepFits cs st = Unit {0}

pub next_fit : (cs : List Component) (n : ℕ) (ss : List PackedStep) → AllByRecursion (StepFits cs) ss → AllByRecursion (Fits cs) (next_fields n ss)
next_fit cs zero ss h = tt
next_fit cs (suc n) [] h = tt
next_fit cs (suc n) (steps.Field f ∷ ss) h = (h.0, next_fit cs n ss h.1)
next_fit cs (suc n) (steps.Member f ∷ ss) h = (h.0, next_fit cs n ss h.1)
next_fit cs (suc n) (st ∷ ss) h = next_fit cs n ss h.1

pub drop_fit : (cs : List Component) (n : ℕ) (ss : List PackedStep) → AllByRecursion (StepFits cs) ss → AllByRecursion (StepFits cs) (drop n ss)
drop_fit cs zero ss h = h
drop_fit cs (suc n) [] h = tt
drop_fit cs (suc n) (st ∷ ss) h = drop_fit cs n ss h.1

-- ---- rows

abbrev pub HasShape : Addition ℕ → Addition AbstractValue → Type 0
HasShape (alone m) (alone v) = Unit {0}
HasShape (alone m) (bracketed vs) = ⊥
HasShape (bracketed ms) (alone v) = ⊥
HasShape (bracketed ms) (bracketed vs) = length vs ≡ length ms

abbrev pub put_addition : Addition ℕ → Row → Addition AbstractValue → Row
put_addition (alone m) ws (alone v) = put_member m ws v
put_addition (alone m) ws (bracketed vs) = ws
put_addition (bracketed ms) ws (alone v) = ws
put_addition (bracketed ms) ws (bracketed vs) = with_members ms vs ws

addition_first : (d : Addition ℕ) (ds : List (Addition ℕ)) (a : Addition AbstractValue) (as' : List (Addition AbstractValue)) (ws : Row) → HasShape d a → with_members (members_in ds) (members_in as') (put_addition d ws a) ≡ with_members (members_in (d ∷ ds)) (members_in (a ∷ as')) ws
addition_first (alone m) ds (alone v) as' ws h = put_first m (members_in ds) v (members_in as') ws
addition_first (alone m) ds (bracketed vs) as' ws h = absurd h
addition_first (bracketed ms) ds (alone v) as' ws h = absurd h
addition_first (bracketed ms) ds (bracketed vs) as' ws h = in_turn ms (members_in ds) vs (members_in as') ws h

lacking_first : (d : Addition ℕ) (ds : List (Addition ℕ)) (as' : List (Addition AbstractValue)) (ws : Row) → with_members (members_in ds) (members_in as') ws ≡ with_members (members_in (d ∷ ds)) (members_in (lacking_addition d ∷ as')) ws
lacking_first (alone m) ds as' ws = refl
lacking_first (bracketed ms) ds as' ws = lack_first ms (members_in ds) (members_in as') ws

all_lacking : (ds : List (Addition ℕ)) (ws : Row) → ws ≡ with_members (members_in ds) (members_in (map lacking_addition ds)) ws
all_lacking [] ws = refl
all_lacking (d ∷ ds) ws = all_lacking ds ws ∙ lacking_first d ds (map lacking_addition ds) ws

-- ---- additions that the type lacks

abbrev pub then_unknown : Bits → Taken (List (Addition AbstractValue)) → Bits → Reading (Taken (List (Addition AbstractValue)))
then_unknown u t y = next (unknown_from u y) (λ k z. read (and_unknown t k) z)

abbrev no_bits : Bits
no_bits = []

none_dropped : (n : ℕ) → drop n no_bits ≡ no_bits
none_dropped zero = refl
none_dropped (suc n) = refl

-- the row with these additions
abbrev pub rows : List (Addition ℕ) → Row → List (Addition AbstractValue) → Row
rows ds ws as' = with_members (members_in ds) (members_in as') ws

lacked : (d : Addition ℕ) (ds : List (Addition ℕ)) (ws : Row) (k : ℕ) (u : Bits) (o : Reading (Taken (List (Addition AbstractValue)))) → past_by (rows ds ws) k (next o (then_unknown u)) ≡ past_by (rows (d ∷ ds) ws) k (next (next o (λ ts z. read (without d ts) z)) (then_unknown u))
lacked d ds ws k u (refused e r) = refl
lacked d ds ws k u (read ts r) = by (unknown_from u r)
  where
    by : (p : Reading ℕ) → past_by (rows ds ws) k (next p (λ j z. read (and_unknown ts j) z)) ≡ past_by (rows (d ∷ ds) ws) k (next p (λ j z. read (and_unknown (without d ts) j) z))
    by (read j z) = ap (λ q. read (taken q (k + (ts.skipped + j)) ts.left) z) (lacking_first d ds ts.it ws)
    by (refused e z) = refl

came : (d : Addition ℕ) (ds : List (Addition ℕ)) (ws : Row) (k : ℕ) (u : Bits) (t : Taken (Addition AbstractValue)) (o : Reading (Taken (List (Addition AbstractValue)))) → HasShape d t.it → past_by (rows ds (put_addition d ws t.it)) (k + t.skipped) (next o (then_unknown u)) ≡ past_by (rows (d ∷ ds) ws) k (next (next o (λ ts z. read (joined t ts) z)) (then_unknown u))
came d ds ws k u t (refused e r) h = refl
came d ds ws k u t (read ts r) h = by (unknown_from u r)
  where
    by : (p : Reading ℕ) → past_by (rows ds (put_addition d ws t.it)) (k + t.skipped) (next p (λ j z. read (and_unknown ts j) z)) ≡ past_by (rows (d ∷ ds) ws) k (next p (λ j z. read (and_unknown (joined t ts) j) z))
    by (read j z) = same_read ts.left z (addition_first d ds t.it ts.it ws h) (plus_more k t.skipped ts.skipped j)
    by (refused e z) = refl

-- ---- one addition

module _ (s : List Resolved) (l : ℕ) (value : ReadsValue) where
  group_many : (ms : List (Member ℕ)) (n : ℕ) (b : Bits) → Always (λ t. length t.it ≡ length ms) (group_from s l value ms n b)
  group_many ms n b =
      always_next (λ c. length c ≡ length ms) (λ t. length t.it ≡ length ms) (tested any_set why.NotCanonical (presences_from ms) b) (λ c r. members_from s l value ms c n r)
      (always_tested (λ c. length c ≡ length ms) any_set why.NotCanonical (presences_from ms) b (presences_many ms b))
      (λ c r e. members_many s l value ms c n r e)

  has_shape : (d : Addition ℕ) (n : ℕ) (b : Bits) → Always (λ t. HasShape d t.it) (addition_from s l value d n b)
  has_shape (alone m) n b = always_after (λ t. HasShape (alone m) t.it) (in_part (part_of m) (open_from (value (component m).type n) b)) (λ w r. read (by_itself (component m) w) r) (λ w r. tt)
  has_shape (bracketed ms) n b =
      always_next (λ t. length t.it ≡ length ms) (λ t. HasShape (bracketed ms) t.it) (open_from (group_from s l value ms n) b) (λ t r. read (in_brackets t) r)
      (always_opened (λ t. length t.it ≡ length ms) (group_from s l value ms n) (λ b. group_many ms n b) b)
      (λ t r e. e)

  alone_same : (m : Member ℕ) (ws : Row) (k n : ℕ) (b : Bits)
      → next (in_part (Component' (place_in m)) (open_from (run_of value (component m).type k n) b)) (λ w r. read (taken (with_value (place_in m) w.it ws) w.skipped w.left) r)
      ≡ past_by (put_addition (alone m) ws) k (addition_from s l value (alone m) n b)
  alone_same m ws k n b =
      ap (λ o. next (in_part (Component' (place_in m)) o) (λ w r. read (taken (with_value (place_in m) w.it ws) w.skipped w.left) r)) (opened (λ x. x) k (value (component m).type n) (run_of value (component m).type k n) (λ b. past_is k (value (component m).type n b)) b)
      ∙ by (open_from (value (component m).type n) b)
    where
      by : (o : Reading (Taken AbstractValue))
          → next (in_part (Component' (place_in m)) (past_by (λ x. x) k o)) (λ w r. read (taken (with_value (place_in m) w.it ws) w.skipped w.left) r)
          ≡ past_by (put_addition (alone m) ws) k (next (in_part (part_of m) o) (λ w r. read (by_itself (component m) w) r))
      by (read w r) = refl
      by (refused e r) = refl

  module _ (cs : List Component) where
    added_same : (f : PackedField) (ws : Row) (k n : ℕ) (b : Bits) → Fits cs f → run_added (run_of value) f ws k n b ≡ past_by (put_addition (alone (member_at cs f)) ws) k (addition_from s l value (alone (member_at cs f)) n b)
    added_same f ws k n b h =
        ap (λ t. next (in_part (Component' f.place) (open_from (run_of value t k n) b)) (λ w r. read (taken (with_value f.place w.it ws) w.skipped w.left) r)) h.type
        ∙ ap (λ p. next (in_part (Component' p) (open_from (run_of value (component (member_at cs f)).type k n) b)) (λ w r. read (taken (with_value p w.it ws) w.skipped w.left) r)) (sym h.place)
        ∙ alone_same (member_at cs f) ws k n b

    inside_same : (fs : List PackedField) (ws : Row) (k n : ℕ) (b : Bits) → AllByRecursion (Fits cs) fs → run_group_inside s l (run_of value) cs fs ws k n b ≡ past_by (λ vs. with_members (map (member_at cs) fs) vs ws) k (group_from s l value (map (member_at cs) fs) n b)
    inside_same fs ws k n b h =
        ap (λ o. next (next o (λ xs r. if any_sent xs then read xs r else stop why.NotCanonical b)) (λ xs r. run_members s l (run_of value) cs xs ws k n r)) (presences_same cs [] fs b h)
        ∙ by (presences_from (map (member_at cs) fs) b) (presences_many (map (member_at cs) fs) b)
      where
        which : (c : List Bool) (r : Bits) (q : Bool)
            → next (if q then read (all_sent fs c) r else stop why.NotCanonical b) (λ xs r. run_members s l (run_of value) cs xs ws k n r)
            ≡ past_by (λ vs. with_members (map (member_at cs) fs) vs ws) k (next (if q then read c r else stop why.NotCanonical b) (λ c r. members_from s l value (map (member_at cs) fs) c n r))
        which c r true = members_same s l value cs fs c ws k n r h
        which c r false = refl

        by : (o : Reading (List Bool)) → Always (λ c. length c ≡ length (map (member_at cs) fs)) o
            → next (next (next o (λ c r. read (all_sent fs c) r)) (λ xs r. if any_sent xs then read xs r else stop why.NotCanonical b)) (λ xs r. run_members s l (run_of value) cs xs ws k n r)
            ≡ past_by (λ vs. with_members (map (member_at cs) fs) vs ws) k (next (next o (λ c r. if any_set c then read c r else stop why.NotCanonical b)) (λ c r. members_from s l value (map (member_at cs) fs) c n r))
        by (read c r) a = ap (λ q. next (if q then read (all_sent fs c) r else stop why.NotCanonical b) (λ xs r. run_members s l (run_of value) cs xs ws k n r)) (any_same cs fs c a) ∙ which c r (any_set c)
        by (refused e r) a = refl

    group_same : (fs : List PackedField) (ws : Row) (k n : ℕ) (b : Bits) → AllByRecursion (Fits cs) fs → run_group s l (run_of value) cs fs ws k n b ≡ past_by (put_addition (bracketed (map (member_at cs) fs)) ws) k (addition_from s l value (bracketed (map (member_at cs) fs)) n b)
    group_same fs ws k n b h =
        opened (λ vs. with_members (map (member_at cs) fs) vs ws) k (group_from s l value (map (member_at cs) fs) n) (run_group_inside s l (run_of value) cs fs ws k n) (λ b. inside_same fs ws k n b h) b
        ∙ by (open_from (group_from s l value (map (member_at cs) fs) n) b)
      where
        by : (o : Reading (Taken (List (Member AbstractValue)))) → past_by (λ vs. with_members (map (member_at cs) fs) vs ws) k o ≡ past_by (put_addition (bracketed (map (member_at cs) fs)) ws) k (next o (λ t r. read (in_brackets t) r))
        by (read t r) = refl
        by (refused e r) = refl

  -- ---- all additions

  abbrev all_additions : List (Addition ℕ) → Bits → ℕ → Bits → Reading (Taken (List (Addition AbstractValue)))
  all_additions ds q n b = next (additions_from s l value ds (own_bits (length ds) q) n b) (then_unknown (drop (length ds) q))

  one_more : (d : Addition ℕ) (ds : List (Addition ℕ)) (one : Reading (Taken Row)) (others : Bits → Row → Runs Row) (q : Bits) (ws : Row) (k n : ℕ) (b : Bits)
      → one ≡ past_by (put_addition d ws) k (addition_from s l value d n b)
      → ((q : Bits) (ws : Row) (k n : ℕ) (b : Bits) → others q ws k n b ≡ past_by (rows ds ws) k (all_additions ds q n b))
      → (if first_bit q then next one (λ w r. others (other_bits q) w.it w.skipped w.left r) else others (other_bits q) ws k n b) ≡ past_by (rows (d ∷ ds) ws) k (all_additions (d ∷ ds) q n b)
  one_more d ds one others [] ws k n b e f =
      f [] ws k n b
      ∙ ap (λ u. past_by (rows ds ws) k (next (additions_from s l value ds (own_bits (length ds) []) n b) (then_unknown u))) (none_dropped (length ds))
      ∙ lacked d ds ws k [] (additions_from s l value ds (own_bits (length ds) []) n b)
  one_more d ds one others (false ∷ q) ws k n b e f = f q ws k n b ∙ lacked d ds ws k (drop (length ds) q) (additions_from s l value ds (own_bits (length ds) q) n b)
  one_more d ds one others (true ∷ q) ws k n b e f =
      onto (λ t. HasShape d t.it) (put_addition d ws) (rows (d ∷ ds) ws) k (addition_from s l value d n b) one
      (λ t r. next (next (additions_from s l value ds (own_bits (length ds) q) t.left r) (λ ts z. read (joined t ts) z)) (then_unknown (drop (length ds) q)))
      (λ w r. others q w.it w.skipped w.left r)
      (has_shape d n b)
      e
      (λ t r h. f q (put_addition d ws t.it) (k + t.skipped) t.left r ∙ came d ds ws k (drop (length ds) q) t (additions_from s l value ds (own_bits (length ds) q) t.left r) h)
      ∙ ap (past_by (rows (d ∷ ds) ws) k) (sym (next_next (addition_from s l value d n b) (λ t r. next (additions_from s l value ds (own_bits (length ds) q) t.left r) (λ ts z. read (joined t ts) z)) (then_unknown (drop (length ds) q))))

  module _ (cs : List Component) where
    additions_same : (ss : List PackedStep) (q : Bits) (ws : Row) (k n : ℕ) (b : Bits) → AllByRecursion (StepFits cs) ss → run_additions s l (run_of value) cs ss q ws k n b ≡ past_by (rows (additions_in cs ss) ws) k (all_additions (additions_in cs ss) q n b)
    additions_same [] q ws k n b h =
        after (rows [] ws) k (unknown_from q b) (λ j z. read (and_unknown (taken [] 0 n) j) z) (λ j r. read (taken ws (k + j) n) r) (λ j r. same_read n r refl (plus_zero k j))
    additions_same (steps.Added f ∷ ss) q ws k n b h =
        one_more (alone (member_at cs f)) (additions_in cs ss) (run_added (run_of value) f ws k n b) (λ q ws k n b. run_additions s l (run_of value) cs ss q ws k n b) q ws k n b
        (added_same cs f ws k n b h.0)
        (λ q ws k n b. additions_same ss q ws k n b h.1)
    additions_same (steps.Group m ∷ ss) q ws k n b h =
        one_more (bracketed (next_members cs m ss)) (additions_in cs ss) (run_group s l (run_of value) cs (next_fields m ss) ws k n b) (λ q ws k n b. run_additions s l (run_of value) cs ss q ws k n b) q ws k n b
        (group_same cs (next_fields m ss) ws k n b (next_fit cs m ss h.1))
        (λ q ws k n b. additions_same ss q ws k n b h.1)
    additions_same (st ∷ ss) q ws k n b h = additions_same ss q ws k n b h.1

    pub rest_same : (e : Bool) (ss : List PackedStep) (ws : Row) (k n : ℕ) (b : Bits) → AllByRecursion (StepFits cs) ss → run_rest s l (run_of value) cs e ss ws k n b ≡ past_by (rows (additions_in cs ss) ws) k (rest_from s l value e (additions_in cs ss) n b)
    rest_same true ss ws k n b h =
        after (rows (additions_in cs ss) ws) k (bitmap_from b) (λ q r. all_additions (additions_in cs ss) q n r) (λ q r. run_additions s l (run_of value) cs ss q ws k n r) (λ q r. additions_same ss q ws k n r h)
    rest_same false ss ws k n b h = same_read n b (all_lacking (additions_in cs ss) ws) (plus_none k)
