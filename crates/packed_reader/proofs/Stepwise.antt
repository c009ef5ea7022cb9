-- What a routine reads is what its type says.
use Rattle.std.proofs.Common.{arith, ◌≡◌, ℕ, zero, suc, ◌+◌, ◌==◌, ◌≤◌, Bool, true, false, List, [], ◌∷◌, ◌++◌, length, map, take, drop, Option, Some, None, slice_get, refl, sym, ap, subst, ◌∙◌, append_assoc, append-nil, ℤ}
use Rattle.std.specs.Prelude.{if◌then◌else◌, option_map}
use Rattle.std.specs.List.{AllByRecursion}
use Rattle.std.proofs.lemmas.Bool.{eq-eqb, ne_eqb}
use Rattle.asn_base.specs.Abstract.{fields}
use Rattle.asn_base.specs.Types.{Alternative, Component, Kind, a_boolean, an_integer, an_enumerated, a_bit_string, a_named_bit_string, an_octet_string, a_null, an_object_identifier, a_relative_oid, a_utf8_string, a_restricted_string, a_sequence, a_set, a_sequence_of, a_set_of, a_choice, TypeNumber, Resolved, Is}
use Rattle.asn_base.specs.Schemas.{components, IsSound, IsSchema}
use Rattle.packed_encodings.specs.Lengths.{Bits}
use Rattle.packed_encodings.specs.Leaves.{place_width}
use Rattle.packed_encodings.specs.Orders.{canonical_place, Member, missing, standing, root_members, past_marker, Addition, alone, bracketed, additions}
use Rattle.packed_encodings.specs.Computed.{kind_at, type_of}
use Rattle.packed_code.specs.declared.step.PackedStep.{PackedStep}
use Rattle.packed_code.specs.declared.step.PackedStep.TheVariants as steps
use Rattle.packed_code.specs.Routines.{id_of, placed_from, field_at, root_steps, member_steps, addition_steps, rest_if, structure, root_calls, more_calls, integer_step, routine_of, routine_at}
use Rattle.packed_code.specs.Meaning.{next_fields}
use Rattle.decode_faults.specs.declared.refusal.Refusal.TheVariants as why
use Rattle.packed_readings.specs.Outcome.{onward, good, bad, judging, bit_from, field_from, small_from}
use Rattle.packed_readings.specs.Leaves.{leaf_within}
use Rattle.packed_reader.specs.Readings.{read, stop, next, plain, taken}
use Rattle.packed_reader.specs.Structures.{ReadsValue, pieces_from, row_of, members_in}
use Rattle.packed_reader.specs.Lists.{list_from}
use Rattle.packed_reader.specs.Values.{Chosen, in_root, added, ranked, root_choice, added_choice, root_chosen, chosen_from, chosen_value, elements_value, leaf_taken, structure_from, kind_from, value_from}
use Rattle.packed_reader.specs.Steps.{no_component, member_at, next_members, additions_in, structure_by, ranked_call, added_call, or_refused, root_call, call_from, size_in, steps_from, value_by}
use Rattle.packed_reader.proofs.Within.{kind_is}
use Rattle.packed_reader.proofs.Places.{ordered, root_part, more_part, flat_additions}
use Rattle.packed_reader.proofs.Fields.{no_more}

-- ---- components

abbrev pub Good : List Component → Member ℕ → Type 0
Good cs m = member_at cs (field_at m) ≡ m

get_at : (pre : List Component) (c : Component) (cs : List Component) → slice_get (pre ++ (c ∷ cs)) (length pre) ≡ Some c
get_at [] c cs = refl
get_at (d ∷ pre) c cs = get_at pre c cs

pub placed_good : (pre cs : List Component) → AllByRecursion (Good (pre ++ cs)) (placed_from (length pre) cs)
placed_good pre [] = tt
placed_good pre (c ∷ cs) =
    let e : (pre ++ (c ∷ [])) ++ cs ≡ pre ++ (c ∷ cs) = append_assoc pre (c ∷ []) cs in
    let l : length (pre ++ (c ∷ [])) ≡ suc (length pre) = longer pre in (
      ap (λ o. elim o [ None ↦ missing no_component | Some d ↦ standing d (length pre) ]) (get_at pre c cs),
      subst (λ n. AllByRecursion (Good (pre ++ (c ∷ cs))) (placed_from n cs)) l (subst (λ all. AllByRecursion (Good all) (placed_from (length (pre ++ (c ∷ []))) cs)) e (placed_good (pre ++ (c ∷ [])) cs)),
    )
  where
    longer : (xs : List Component) → length (xs ++ (c ∷ [])) ≡ suc (length xs)
    longer [] = refl
    longer (x ∷ xs) = ap suc (longer xs)

two_same : {X : Type 0} {x y : X} {xs ys : List X} → x ≡ y → xs ≡ ys → x ∷ xs ≡ y ∷ ys
two_same e f = cc

members_back : (cs : List Component) (ms : List (Member ℕ)) → AllByRecursion (Good cs) ms → map (member_at cs) (map field_at ms) ≡ ms
members_back cs [] h = refl
members_back cs (m ∷ ms) h = two_same h.0 (members_back cs ms h.1)

-- ---- their steps

root_fields : (ms : List (Member ℕ)) (ss : List PackedStep) → next_fields (length ms) (root_steps ms ++ ss) ≡ map field_at ms
root_fields [] ss = refl
root_fields (m ∷ ms) ss = ap (λ q. field_at m ∷ q) (root_fields ms ss)

root_dropped : (ms : List (Member ℕ)) (ss : List PackedStep) → drop (length ms) (root_steps ms ++ ss) ≡ ss
root_dropped [] ss = refl
root_dropped (m ∷ ms) ss = root_dropped ms ss

group_fields : (ms : List (Member ℕ)) (ss : List PackedStep) → next_fields (length ms) (member_steps ms ++ ss) ≡ map field_at ms
group_fields [] ss = refl
group_fields (m ∷ ms) ss = ap (λ q. field_at m ∷ q) (group_fields ms ss)

past_members : (cs : List Component) (ms : List (Member ℕ)) (ss : List PackedStep) → additions_in cs (member_steps ms ++ ss) ≡ additions_in cs ss
past_members cs [] ss = refl
past_members cs (m ∷ ms) ss = past_members cs ms ss

pub first_good : (cs : List Component) (xs ys : List (Member ℕ)) → AllByRecursion (Good cs) (xs ++ ys) → AllByRecursion (Good cs) xs × AllByRecursion (Good cs) ys
first_good cs [] ys a = (tt, a)
first_good cs (x ∷ xs) ys a = let r = first_good cs xs ys a.1 in ((a.0, r.0), r.1)

additions_back : (cs : List Component) (ds : List (Addition ℕ)) (ss : List PackedStep) → AllByRecursion (Good cs) (members_in ds) → additions_in cs (addition_steps ds ++ ss) ≡ ds ++ additions_in cs ss
additions_back cs [] ss h = refl
additions_back cs (alone m ∷ ds) ss h = two_same (ap alone h.0) (additions_back cs ds ss h.1)
additions_back cs (bracketed ms ∷ ds) ss h =
    let p = first_good cs ms (members_in ds) h in
    let e : (member_steps ms ++ addition_steps ds) ++ ss ≡ member_steps ms ++ (addition_steps ds ++ ss) = append_assoc (member_steps ms) (addition_steps ds) ss in
    two_same
    (ap bracketed (ap (λ q. next_members cs (length ms) q) e ∙ ap (map (member_at cs)) (group_fields ms (addition_steps ds ++ ss)) ∙ members_back cs ms p.0))
    (ap (additions_in cs) e ∙ past_members cs ms (addition_steps ds ++ ss) ∙ additions_back cs ds ss p.1)

rest_back : (cs : List Component) (e : Bool) (ds : List (Addition ℕ)) → (e ≡ false → ds ≡ []) → AllByRecursion (Good cs) (members_in ds) → additions_in cs (rest_if e ds) ≡ ds
rest_back cs true ds n h = additions_back cs ds (steps.Rest ∷ []) h ∙ append-nil ds
rest_back cs false ds n h = sym (n refl)

module _ (s : List Resolved) (l : ℕ) (value : ReadsValue) (t : TypeNumber) (set : Bool) (cs : List Component) where
  abbrev every : List (Member ℕ)
  every = placed_from 0 cs

  abbrev root : List (Member ℕ)
  root = ordered set s (root_members every)

  abbrev more : List (Addition ℕ)
  more = additions (past_marker every)

  root_back : (rest : List PackedStep) → next_members cs (length root) (root_steps root ++ rest) ≡ root
  root_back rest = ap (map (member_at cs)) (root_fields root rest) ∙ members_back cs root (root_part (Good cs) set s every (placed_good [] cs))

  more_back : (e : Bool) → (e ≡ false → more ≡ []) → additions_in cs (drop (length root) (root_steps root ++ rest_if e more)) ≡ more
  more_back e n =
      ap (additions_in cs) (root_dropped root (rest_if e more))
      ∙ rest_back cs e more n (subst (AllByRecursion (Good cs)) (sym (flat_additions (past_marker every))) (more_part (Good cs) every (placed_good [] cs)))

  fields_by : (e : Bool) (n : ℕ) (b : Bits) → components (kind_at s t) ≡ cs → (e ≡ false → more ≡ []) → structure_by s l value t e (length root) (root_steps root ++ rest_if e more) n b ≡ structure_from s l value e cs root n b
  fields_by e n b k m =
      ap (λ c. next (pieces_from s l value e (next_members c (length root) (root_steps root ++ rest_if e more)) (additions_in c (drop (length root) (root_steps root ++ rest_if e more))) n b) (λ p r. read (taken (fields (row_of c (next_members c (length root) (root_steps root ++ rest_if e more)) (additions_in c (drop (length root) (root_steps root ++ rest_if e more))) p.it)) p.skipped p.left) r)) k
      ∙ ap (λ q. next (pieces_from s l value e q (additions_in cs (drop (length root) (root_steps root ++ rest_if e more))) n b) (λ p r. read (taken (fields (row_of cs q (additions_in cs (drop (length root) (root_steps root ++ rest_if e more))) p.it)) p.skipped p.left) r)) (root_back (rest_if e more))
      ∙ ap (λ q. next (pieces_from s l value e root q n b) (λ p r. read (taken (fields (row_of cs root q p.it)) p.skipped p.left) r)) (more_back e m)

  structure_reads : (e : Bool) (n : ℕ) (b : Bits) → components (kind_at s t) ≡ cs → (e ≡ false → more ≡ []) → steps_from s l value t (structure e root every) n b ≡ structure_from s l value e cs root n b
  structure_reads true n b k m = fields_by true n b k m
  structure_reads false n b k m = fields_by false n b k m

-- ---- alternatives

abbrev root_at : List Alternative → ℕ → Chosen
root_at all i = in_root i (type_of (slice_get all i))

get_here : (pre : List Alternative) (a : Alternative) (as' : List Alternative) → slice_get (pre ++ (a ∷ as')) (length pre) ≡ Some a
get_here [] a as' = refl
get_here (d ∷ pre) a as' = get_here pre a as'

length_more : (pre : List Alternative) (a : Alternative) → length (pre ++ (a ∷ [])) ≡ suc (length pre)
length_more [] a = refl
length_more (d ∷ pre) a = ap suc (length_more pre a)

-- none of the additions has a rank
more_unranked : (r : ℕ) (k : ℕ) (more : List Alternative) (i : ℕ) → ranked_call r (more_calls k more) i ≡ None
more_unranked r k [] i = refl
more_unranked r k (a ∷ more) i = more_unranked r (suc k) more (suc i)

ranked_back : (s : List Resolved) (e : Bool) (r : ℕ) (pre as' more : List Alternative) (all : List Alternative) → all ≡ pre ++ as' → ranked_call r (root_calls s e all as' ++ more_calls 0 more) (length pre) ≡ option_map (root_at all) (ranked s all r as' (length pre))
ranked_back s e r pre [] more all h = more_unranked r 0 more (length pre)
ranked_back s e r pre (a ∷ as') more all h =
    by (canonical_place s all a.type == r)
    (subst (λ n. ranked_call r (root_calls s e all as' ++ more_calls 0 more) n ≡ option_map (root_at all) (ranked s all r as' n)) (length_more pre a) (ranked_back s e r (pre ++ (a ∷ [])) as' more all (h ∙ sym (append_assoc pre (a ∷ []) as'))))
  where
    here : a.type ≡ type_of (slice_get all (length pre))
    here = sym (ap (λ q. type_of (slice_get q (length pre))) h ∙ ap type_of (get_here pre a as'))

    by : (b : Bool) → ranked_call r (root_calls s e all as' ++ more_calls 0 more) (suc (length pre)) ≡ option_map (root_at all) (ranked s all r as' (suc (length pre)))
        → (if b then Some (in_root (length pre) a.type) else ranked_call r (root_calls s e all as' ++ more_calls 0 more) (suc (length pre))) ≡ option_map (root_at all) (if b then Some (length pre) else ranked s all r as' (suc (length pre)))
    by true h = ap (λ q. Some (in_root (length pre) q)) here
    by false h = h

root_judged : (s : List Resolved) (e : Bool) (root more : List Alternative) (r : ℕ) → or_refused why.Outside (ranked_call r (root_calls s e root root ++ more_calls 0 more) 0) ≡ root_choice s root r
root_judged s e root more r = ap (or_refused why.Outside) (ranked_back s e r [] root more root refl) ∙ by (ranked s root r root 0)
  where
    by : (o : Option ℕ) → or_refused why.Outside (option_map (root_at root) o) ≡ elim o [ None ↦ bad why.Outside | Some i ↦ good (root_at root i) ]
    by None = refl
    by (Some i) = refl

abbrev added_at : ℕ → Option Alternative → Option Chosen
added_at i None = None
added_at i (Some a) = Some (added i a.type)

past_root : (s : List Resolved) (e : Bool) (all as' : List Alternative) (j i : ℕ) (ss : List PackedStep) → added_call j (root_calls s e all as' ++ ss) i ≡ added_call j ss (length as' + i)
past_root s e all [] j i ss = ap (added_call j ss) (let z : i ≡ 0 + i = omega arith in z)
past_root s e all (a ∷ as') j i ss = past_root s e all as' j (suc i) ss ∙ ap (added_call j ss) (let z : length as' + suc i ≡ suc (length as') + i = omega arith in z)

more_back_at : (k j i : ℕ) (more : List Alternative) → added_call (k + j) (more_calls k more) i ≡ added_at (i + j) (slice_get more j)
more_back_at k zero i [] = refl
more_back_at k (suc j) i [] = refl
more_back_at k zero i (a ∷ more) =
    let t0 : (k == (k + 0)) ≡ true = eq-eqb k (k + 0) (omega arith) in
    ap (λ q. if q then Some (added i a.type) else added_call (k + 0) (more_calls (suc k) more) (suc i)) t0
    ∙ ap (λ q. Some (added q a.type)) (let z : i ≡ i + 0 = omega arith in z)
more_back_at k (suc j) i (a ∷ more) =
    let t0 : (k == (k + suc j)) ≡ false = ne_eqb k (k + suc j) (λ h. omega arith) in
    ap (λ q. if q then Some (added i a.type) else added_call (k + suc j) (more_calls (suc k) more) (suc i)) t0
    ∙ ap (λ q. added_call q (more_calls (suc k) more) (suc i)) (let z : k + suc j ≡ suc k + j = omega arith in z)
    ∙ more_back_at (suc k) j (suc i) more
    ∙ ap (λ q. added_at q (slice_get more j)) (let z : suc i + j ≡ i + suc j = omega arith in z)

added_judged : (s : List Resolved) (e : Bool) (root more : List Alternative) (j : ℕ) → or_refused why.UnknownAlternative (added_call j (root_calls s e root root ++ more_calls 0 more) 0) ≡ added_choice root more j
added_judged s e root more j =
    ap (or_refused why.UnknownAlternative)
    (past_root s e root root j 0 (more_calls 0 more) ∙ ap (λ q. added_call q (more_calls 0 more) (length root + 0)) (let z : j ≡ 0 + j = omega arith in z)
    ∙ more_back_at 0 j (length root + 0) more ∙ ap (λ q. added_at q (slice_get more j)) (let z : (length root + 0) + j ≡ length root + j = omega arith in z))
    ∙ by (slice_get more j)
  where
    by : (o : Option Alternative) → or_refused why.UnknownAlternative (added_at (length root + j) o) ≡ elim o [ None ↦ bad why.UnknownAlternative | Some a ↦ good (added (length root + j) a.type) ]
    by None = refl
    by (Some a) = refl

all_calls : (s : List Resolved) (e : Bool) (all root more : List Alternative) (k : ℕ) → take (length root + length more) (root_calls s e all root ++ more_calls k more) ≡ root_calls s e all root ++ more_calls k more
all_calls s e all [] more k = ap (λ n. take n (more_calls k more)) (let z : 0 + length more ≡ length more = omega arith in z) ∙ at k more
  where
    at : (k : ℕ) (more : List Alternative) → take (length more) (more_calls k more) ≡ more_calls k more
    at k [] = refl
    at k (a ∷ more) = ap (λ q. steps.More k (id_of a.type) ∷ q) (at (suc k) more)
all_calls s e all (a ∷ root) more k =
    ap (λ n. take n (root_calls s e all (a ∷ root) ++ more_calls k more)) (let z : suc (length root) + length more ≡ suc (length root + length more) = omega arith in z)
    ∙ ap (λ q. steps.Root (record { extensible = e; width = place_width (length all); rank = canonical_place s all a.type; ty = id_of a.type }) ∷ q) (all_calls s e all root more k)

call_back : (s : List Resolved) (root : List Alternative) (e : Bool) (more : List Alternative) (b : Bits) → 1 ≤ length root → call_from (take (length root + length more) (root_calls s e root root ++ more_calls 0 more)) b ≡ chosen_from s root e more b
call_back s [] e more b some = absurd (omega arith)
call_back s (a ∷ root) e more b some =
    ap (λ q. call_from q b) (all_calls s e all all more 0) ∙ by e
  where
    all : List Alternative
    all = a ∷ root

    same_root : (e : Bool) (x : Bits) → root_call (place_width (length (a ∷ root))) (root_calls s e (a ∷ root) (a ∷ root) ++ more_calls 0 more) x ≡ root_chosen s (a ∷ root) x
    same_root e x = ap (λ j. judging j (field_from (place_width (length (a ∷ root)))) x) (λ i r. root_judged s e (a ∷ root) more r i)

    same_added : (e : Bool) (x : Bits) → judging (λ j. or_refused why.UnknownAlternative (added_call j (root_calls s e (a ∷ root) (a ∷ root) ++ more_calls 0 more) 0)) (small_from why.UnknownAlternative) x ≡ judging (added_choice (a ∷ root) more) (small_from why.UnknownAlternative) x
    same_added e x = ap (λ j. judging j (small_from why.UnknownAlternative) x) (λ i r. added_judged s e (a ∷ root) more r i)

    after_bit : (e c : Bool) (x : Bits) → (if c then judging (λ j. or_refused why.UnknownAlternative (added_call j (root_calls s e (a ∷ root) (a ∷ root) ++ more_calls 0 more) 0)) (small_from why.UnknownAlternative) x else root_call (place_width (length (a ∷ root))) (root_calls s e (a ∷ root) (a ∷ root) ++ more_calls 0 more) x) ≡ (if c then judging (added_choice (a ∷ root) more) (small_from why.UnknownAlternative) x else root_chosen s (a ∷ root) x)
    after_bit e true x = same_added e x
    after_bit e false x = same_root e x

    by : (e : Bool) → call_from (root_calls s e (a ∷ root) (a ∷ root) ++ more_calls 0 more) b ≡ chosen_from s (a ∷ root) e more b
    by true = ap (λ g. onward (bit_from b) g) (λ i c x. after_bit true c x i)
    by false = same_root false b

-- ---- all kinds

number_reads : (s : List Resolved) (l : ℕ) (value : ReadsValue) (t : TypeNumber) (e : Bool) (least greatest : Option ℤ) (n : ℕ) (b : Bits) → steps_from s l value t (integer_step e least greatest ∷ []) n b ≡ next (plain (leaf_within n (kind_at s t) b)) (λ v r. read (leaf_taken n v) r)
number_reads s l value t true least greatest n b = refl
number_reads s l value t false None greatest n b = refl
number_reads s l value t false (Some x) None n b = refl
number_reads s l value t false (Some x) (Some y) n b = refl

module _ (s : List Resolved) (l : ℕ) (value : ReadsValue) (t : TypeNumber) where
  leaf_at : (k : Kind) (n : ℕ) (b : Bits) → kind_at s t ≡ k → next (plain (leaf_within n (kind_at s t) b)) (λ v r. read (leaf_taken n v) r) ≡ next (plain (leaf_within n k b)) (λ v r. read (leaf_taken n v) r)
  leaf_at k n b e = ap (λ q. next (plain (leaf_within n q b)) (λ v r. read (leaf_taken n v) r)) e

  routine_reads : (k : Kind) (n : ℕ) (b : Bits) → kind_at s t ≡ k → IsSound s k → steps_from s l value t (routine_of s k) n b ≡ kind_from s l value k n b
  unfolding routine_of
  routine_reads a_boolean n b e ok = leaf_at a_boolean n b e
  routine_reads (an_integer c) n b e ok = number_reads s l value t c.visible.extensible c.visible.least c.visible.greatest n b ∙ leaf_at (an_integer c) n b e
  routine_reads (an_enumerated root x more) n b e ok = leaf_at (an_enumerated root x more) n b e
  routine_reads (a_bit_string c) n b e ok = leaf_at (a_bit_string c) n b e
  routine_reads (a_named_bit_string ns) n b e ok = leaf_at (a_named_bit_string ns) n b e
  routine_reads (an_octet_string c) n b e ok = leaf_at (an_octet_string c) n b e
  routine_reads a_null n b e ok = leaf_at a_null n b e
  routine_reads an_object_identifier n b e ok = leaf_at an_object_identifier n b e
  routine_reads a_relative_oid n b e ok = leaf_at a_relative_oid n b e
  routine_reads (a_utf8_string c) n b e ok = leaf_at (a_utf8_string c) n b e
  routine_reads (a_restricted_string k a c) n b e ok = leaf_at (a_restricted_string k a c) n b e
  routine_reads (a_sequence x cs) n b e ok = structure_reads s l value t false cs x n b (ap components e) (no_more s l false x cs ok)
  routine_reads (a_set x cs) n b e ok = structure_reads s l value t true cs x n b (ap components e) (no_more s l true x cs ok.0)
  routine_reads (a_sequence_of c u) n b e ok = ap (λ q. next (list_from (value u) false q n b) (λ w r. read (elements_value w) r)) (ap size_in e)
  routine_reads (a_set_of c u) n b e ok = ap (λ q. next (list_from (value u) true q n b) (λ w r. read (elements_value w) r)) (ap size_in e)
  routine_reads (a_choice root x more) n b e ok = ap (λ q. next (plain q) (λ c r. chosen_value value c n r)) (call_back s root x more b ok.some)

  type_reads : (n : ℕ) (b : Bits) → IsSchema s → (o : Option Resolved) → slice_get s t ≡ o → steps_from s l value t (routine_at s t) n b ≡ elim o [ None ↦ stop why.Outside b | Some r ↦ kind_from s l value r.kind n b ]
  type_reads n b schema None f = ap (λ o. steps_from s l value t (elim o [ None ↦ [] | Some r ↦ routine_of s r.kind ]) n b) f
  type_reads n b schema (Some r) f =
      let is : Is s t r.tags r.kind = record { found = f } in
      ap (λ o. steps_from s l value t (elim o [ None ↦ [] | Some r ↦ routine_of s r.kind ]) n b) f
      ∙ routine_reads r.kind n b (kind_is is) (schema.sound t r.tags r.kind is)

pub all_read : (s : List Resolved) → IsSchema s → (l t n : ℕ) (b : Bits) → value_by s l t n b ≡ value_from s l t n b
all_read s schema zero t n b = refl
all_read s schema (suc l) t zero b = refl
all_read s schema (suc l) t (suc n) b =
    ap (λ v. steps_from s l v t (routine_at s t) n b) (λ i t n b. all_read s schema l t n b i)
    ∙ type_reads s l (value_from s l) t n b schema (slice_get s t) refl
