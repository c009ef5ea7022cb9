-- The routine of each type writes the bits of its values.
use Rattle.std.proofs.Common.{◌≡◌, ℕ, Bool, true, false, List, [], ◌∷◌, ◌++◌, length, map, refl, sym, ap, subst, ◌∙◌, append-nil}
use Rattle.std.specs.Prelude.{Option, Some, None, slice_get, nat_lt, ◌-◌, ℤ, if◌then◌else◌}
use Rattle.asn_base.specs.declared.tag.Tag.{Tag}
use Rattle.asn_base.specs.Abstract.{AbstractValue, integer, fields, alternative, Row}
use Rattle.asn_base.specs.Types.{Bounds, Kind, a_null, a_sequence, a_set, Component, Resolved, Is}
use Rattle.asn_base.specs.Typed.{IsPrimitive, fits_boolean, fits_integer, fits_enumerated, fits_bits, fits_named_bits, fits_octets, fits_null, fits_oid, fits_relative_oid, fits_utf8, fits_restricted, ValueIn, value_in, ValueOf, of_leaf, of_sequence, of_set, of_sequence_of, of_set_of, of_choice, AreComponents}
use Rattle.asn_base.specs.Schemas.{IsSchema, IsSound, AreListed, components}
use Rattle.packed_encodings.specs.Lengths.{Bits}
use Rattle.packed_encodings.specs.Packing.{any_set}
use Rattle.bits.specs.Words.{low_bits}
use Rattle.packed_encodings.specs.Leaves.{root_bit, place_bits}
use Rattle.packed_encodings.specs.Orders.{Member, canonical_place, root_members, past_marker, canonical, additions}
use Rattle.packed_encodings.specs.Computed.{is_default, leaf_bits, integer_bits, is_in_root, root_integer_bits, octets_bits, signed_octets, members_by, elements_by, bits_of, kind_at, structure_bits, list_bits, open_bits, element_of, choice_bits, alternative_of, type_of, sorted, extended_bits, presence_bits, member_bits}
use Rattle.packed_encodings.specs.Computed as c
use Rattle.packed_code.specs.declared.step.PackedStep.{PackedStep}
use Rattle.packed_code.specs.declared.step.PackedStep.TheVariants as steps
use Rattle.packed_code.specs.Routines.{placed_from, structure, root_calls, more_calls, integer_step, routine_of, routine_at}
use Rattle.packed_code.specs.Meaning.{members_of, step_bits, steps_bits, listed_bits, call_bits, any_from}
use Rattle.packed_encodings.specs.proving.Natural.{on_additions, root_same, past_marker_same, canonical_same, additions_same}
use Rattle.packed_code.proofs.Fields.{member_at, same_component, members_placed}
use Rattle.packed_code.proofs.Additions.{any_addition, no_addition, whole}
use Rattle.packed_code.proofs.Calls.{call_writes, calls_write, type_there}

kind_is : {s : List Resolved} {t : ℕ} {tags : List Tag} {k : Kind} → Is s t tags k → kind_at s t ≡ k
kind_is i = ap (λ o. elim o [ None ↦ a_null | Some r ↦ r.kind ]) i.found

pub routine_is : {s : List Resolved} {t : ℕ} {tags : List Tag} {k : Kind} → Is s t tags k → routine_at s t ≡ routine_of s k
routine_is {s} i = ap (λ o. elim o [ None ↦ [] | Some r ↦ routine_of s r.kind ]) i.found

module _ (s : List Resolved) (t : ℕ) where
  -- a leaf
  one_step : (v : AbstractValue) (st : PackedStep) (b : Bits) → step_bits s t v st [] ≡ b → steps_bits s t v (st ∷ []) ≡ b
  one_step v st b e = append-nil (step_bits s t v st []) ∙ e

  an_integer_writes : (k : Bounds) (z : ℤ) → leaf_bits (kind_at s t) (integer z) ≡ integer_bits k z → steps_bits s t (integer z) (integer_step k.extensible k.least k.greatest ∷ []) ≡ integer_bits k z
  an_integer_writes k z e = by k.extensible k.least k.greatest refl refl refl
    where
      by : (x : Bool) (l u : Option ℤ) → k.extensible ≡ x → k.least ≡ l → k.greatest ≡ u → steps_bits s t (integer z) (integer_step x l u ∷ []) ≡ integer_bits k z
      by true l u a b d = one_step (integer z) steps.Leaf (integer_bits k z) e
      by false None u a b d = one_step (integer z) steps.Leaf (integer_bits k z) e
      by false (Some l) None a b d = one_step (integer z) steps.Leaf (integer_bits k z) e
      by false (Some l) (Some u) a b d = append-nil (step_bits s t (integer z) (integer_step false (Some l) (Some u)) []) ∙ sym (ap (λ q. if q then (if is_in_root k z then false ∷ root_integer_bits k.least k.greatest z else true ∷ octets_bits (signed_octets z)) else root_integer_bits k.least k.greatest z) a ∙ ap (λ q. root_integer_bits q k.greatest z) b ∙ ap (λ q. root_integer_bits (Some l) q z) d)

  fits_write : {k : Kind} {v : AbstractValue} → IsPrimitive k v → kind_at s t ≡ k → steps_bits s t v (routine_of s k) ≡ bits_of s v t
  unfolding routine_of
  fits_write {v = v} fits_boolean e = append-nil (leaf_bits (kind_at s t) v)
  fits_write (fits_integer {c = k} {z = z} l a) e =
      let h = ap (λ q. leaf_bits q (integer z)) e in an_integer_writes k.visible z h ∙ sym h
  fits_write {v = v} (fits_enumerated l h) e = append-nil (leaf_bits (kind_at s t) v)
  fits_write {v = v} (fits_bits a) e = append-nil (leaf_bits (kind_at s t) v)
  fits_write {v = v} fits_named_bits e = append-nil (leaf_bits (kind_at s t) v)
  fits_write {v = v} (fits_octets b a) e = append-nil (leaf_bits (kind_at s t) v)
  fits_write {v = v} fits_null e = append-nil (leaf_bits (kind_at s t) v)
  fits_write {v = v} (fits_oid a) e = append-nil (leaf_bits (kind_at s t) v)
  fits_write {v = v} (fits_relative_oid a) e = append-nil (leaf_bits (kind_at s t) v)
  fits_write {v = v} (fits_utf8 u a) e = append-nil (leaf_bits (kind_at s t) v)
  fits_write {v = v} (fits_restricted m a) e = append-nil (leaf_bits (kind_at s t) v)

  -- ---- components

  structure_writes : {n : ℕ} (k : Kind) (e : Bool) (cs : List Component) (ws : Row) → kind_at s t ≡ k → components k ≡ cs → AreListed s e cs → AreComponents s n cs ws → (xs : List (Member ℕ)) (rs : List (Member Bits)) → rs ≡ map (member_at (members_of s t (fields ws))) xs → steps_bits s t (fields ws) (structure e xs (placed_from 0 cs)) ≡ extended_bits e (presence_bits rs ++ member_bits rs) (c.addition_map (additions (past_marker (members_of s t (fields ws))))) (c.addition_bits (additions (past_marker (members_of s t (fields ws)))))
  structure_writes k e cs ws kk kc li a xs rs re =
      let m = members_of s t (fields ws) in
      let ps = placed_from 0 cs in
      let me : m ≡ members_by (is_default s) s ws cs = ap (λ q. members_by (is_default s) s ws (components q)) kk ∙ ap (members_by (is_default s) s ws) kc in
      let placed : map (member_at m) ps ≡ m = subst (λ q. map (member_at q) ps ≡ q) (sym me) (members_placed (is_default s) a) in
      let ds = additions (past_marker ps) in
      let d : additions (past_marker m) ≡ map (on_additions (member_at m)) ds
      = ap (λ q. additions (past_marker q)) (sym placed) ∙ ap additions (past_marker_same (member_at m) (same_component m) ps) ∙ additions_same (member_at m) (same_component m) (past_marker ps) in
      let any : any_from (length (root_members ps)) ws ≡ any_set (c.addition_map (map (on_additions (member_at m)) ds))
      = any_addition s cs li.root li.more li.parts li.in_root li.behind a ∙ ap (λ q. any_set (c.addition_map (additions (past_marker q)))) (sym me) ∙ ap (λ q. any_set (c.addition_map q)) d in
      whole s t (fields ws) e (length (root_members ps)) xs ds (λ x. any) (λ x. sym any ∙ no_addition s cs li.root li.more li.parts (li.marked x) li.in_root li.behind a)
      ∙ ap (λ q. extended_bits e (presence_bits q ++ member_bits q) (c.addition_map (map (on_additions (member_at m)) ds)) (c.addition_bits (map (on_additions (member_at m)) ds))) (sym re)
      ∙ ap (λ q. extended_bits e (presence_bits rs ++ member_bits rs) (c.addition_map q) (c.addition_bits q)) (sym d)

  roots : {n : ℕ} (k : Kind) (cs : List Component) (ws : Row) → kind_at s t ≡ k → components k ≡ cs → AreComponents s n cs ws → root_members (members_of s t (fields ws)) ≡ map (member_at (members_of s t (fields ws))) (root_members (placed_from 0 cs))
  roots k cs ws kk kc a =
      let m = members_of s t (fields ws) in
      let ps = placed_from 0 cs in
      let me : m ≡ members_by (is_default s) s ws cs = ap (λ q. members_by (is_default s) s ws (components q)) kk ∙ ap (members_by (is_default s) s ws) kc in
      let placed : map (member_at m) ps ≡ m = subst (λ q. map (member_at q) ps ≡ q) (sym me) (members_placed (is_default s) a) in
      ap root_members (sym placed) ∙ root_same (member_at m) (same_component m) ps

  sequence_writes : {n : ℕ} (e : Bool) (cs : List Component) (ws : Row) → kind_at s t ≡ a_sequence e cs → AreListed s e cs → AreComponents s n cs ws → steps_bits s t (fields ws) (routine_of s (a_sequence e cs)) ≡ bits_of s (fields ws) t
  unfolding routine_of
  sequence_writes e cs ws kk li a =
      let m = members_of s t (fields ws) in
      structure_writes (a_sequence e cs) e cs ws kk refl li a (root_members (placed_from 0 cs)) (root_members m) (roots (a_sequence e cs) cs ws kk refl a)
      ∙ sym (ap (λ q. structure_bits s q m) kk)

  set_writes : {n : ℕ} (e : Bool) (cs : List Component) (ws : Row) → kind_at s t ≡ a_set e cs → AreListed s e cs → AreComponents s n cs ws → steps_bits s t (fields ws) (routine_of s (a_set e cs)) ≡ bits_of s (fields ws) t
  unfolding routine_of
  set_writes e cs ws kk li a =
      let m = members_of s t (fields ws) in
      structure_writes (a_set e cs) e cs ws kk refl li a (canonical s (root_members (placed_from 0 cs))) (canonical s (root_members m))
      (ap (canonical s) (roots (a_set e cs) cs ws kk refl a) ∙ canonical_same (member_at m) (same_component m) s (root_members (placed_from 0 cs)))
      ∙ sym (ap (λ q. structure_bits s q m) kk)

  -- ---- all kinds

  of_kind_writes : {n : ℕ} {k : Kind} {v : AbstractValue} → IsSound s k → kind_at s t ≡ k → ValueOf s n k v → steps_bits s t v (routine_of s k) ≡ bits_of s v t
  unfolding routine_of
  of_kind_writes ok kk (of_leaf f) = fits_write f kk
  of_kind_writes ok kk (of_sequence {e = e} {cs = cs} {vs = ws} a g) = sequence_writes e cs ws kk ok a
  of_kind_writes ok kk (of_set {e = e} {cs = cs} {vs = ws} a g) = set_writes e cs ws kk ok.0 a
  of_kind_writes ok kk (of_sequence_of {u = u} {c = k} {vs = ws} a z) =
      append-nil (listed_bits (kind_at s t) (elements_by (is_default s) s ws u))
      ∙ ap (λ q. listed_bits q (elements_by (is_default s) s ws u)) kk
      ∙ sym (ap (λ q. list_bits q (elements_by (is_default s) s ws (element_of q))) kk)
  of_kind_writes ok kk (of_set_of {u = u} {c = k} {vs = ws} a z) =
      append-nil (listed_bits (kind_at s t) (sorted (elements_by (is_default s) s ws u)))
      ∙ ap (λ q. listed_bits q (sorted (elements_by (is_default s) s ws u))) kk
      ∙ sym (ap (λ q. list_bits q (elements_by (is_default s) s ws (element_of q))) kk)
  of_kind_writes ok kk (of_choice {i = i} {e = e} {root = root} {more = more} {a = a} {v = w} g h) =
      let cs = root_calls s e root root ++ more_calls 0 more in
      ap (λ q. call_bits s w (slice_get cs i) ++ q) (calls_write s t (alternative i w) e root root more)
      ∙ append-nil (call_bits s w (slice_get cs i))
      ∙ call_writes s e root more i a w g
      ∙ ap (λ q. if nat_lt i (length root) then root_bit e ++ (place_bits (length root) (canonical_place s root (type_of (slice_get root i))) ++ bits_of s w q) else true ∷ (false ∷ (low_bits 6 (i - length root) ++ open_bits (bits_of s w q)))) (sym (type_there (root ++ more) i a g))
      ∙ sym (ap (λ q. choice_bits s q i (bits_of s w (alternative_of q i))) kk)

pub written : (s : List Resolved) (t n : ℕ) (v : AbstractValue) → IsSchema s → ValueIn s n t v → steps_bits s t v (routine_at s t) ≡ bits_of s v t
written s t n v schema (value_in {tags = tags} {k = k} i a) = ap (steps_bits s t v) (routine_is i) ∙ of_kind_writes s t (schema.sound t tags k i) (kind_is i) a
