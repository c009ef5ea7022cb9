-- The bits after those of the root.
use Rattle.std.proofs.Common.{◌≡◌, ℕ, suc, Bool, true, false, List, [], ◌∷◌, ◌++◌, length, map, refl, sym, ap, subst, ◌∙◌, append_assoc, append-nil}
use Rattle.std.specs.Prelude.{if◌then◌else◌, ◌||◌, ◌-◌, Option, Some, None}
use Rattle.std.specs.List.{AllByRecursion}
use Rattle.bits.specs.Words.{low_bits}
use Rattle.asn_base.specs.Types.{Component, Resolved, Presence, mandatory, optional, default, addition}
use Rattle.asn_base.specs.Abstract.{AbstractValue, Row}
use Rattle.asn_base.specs.Schemas.{is_addition}
use Rattle.asn_base.specs.Typed.{group_of, AreComponents, no_component, component_absent, component_present}
use Rattle.packed_encodings.specs.Lengths.{Bits}
use Rattle.packed_encodings.specs.Leaves.{root_bit}
use Rattle.packed_encodings.specs.Packing.{any_set}
use Rattle.packed_encodings.specs.Orders.{Member, missing, standing, component, is_present, any_present, past_marker, root_members, Addition, alone, bracketed, is_of_group, in_front, additions}
use Rattle.packed_encodings.specs.Computed.{is_default, bits_by, members_by, presence_bits, member_bits, open_bits, extended_bits}
use Rattle.packed_encodings.specs.Computed as c
use Rattle.packed_code.specs.declared.step.PackedStep.{PackedStep}
use Rattle.packed_code.specs.declared.step.PackedStep.TheVariants.{Map, Rest}
use Rattle.packed_code.specs.Routines.{placed_from, place_in, field_at, root_steps, member_steps, addition_steps, mark_if, rest_if}
use Rattle.packed_code.specs.Meaning.{members_of, is_written, bits_at, any_from, mark_bit, next_fields, map_bits, any_written, field_bits, addition_map, bitmap_bits, group_bits, steps_bits}
use Rattle.packed_encodings.specs.proving.Natural.{on_additions}
use Rattle.packed_code.proofs.Fields.{made, member_at, root_fields, member_fields, map_is, any_is, bits_are, roots_write, members_write, both}

-- ---- by a test

if_eq : {X : Type 0} {b b' : Bool} {x x' y y' : X} → b ≡ b' → x ≡ x' → y ≡ y' → (if b then x else y) ≡ (if b' then x' else y')
if_eq e f g = cc

or_assoc : (a b d : Bool) → (a || b) || d ≡ a || (b || d)
or_assoc true b d = refl
or_assoc false b d = refl

-- ---- one addition

alone_map : (b : Bool) (k : Component) (x : Bits) (ds : List (Addition Bits)) → c.addition_map (alone (made b k x) ∷ ds) ≡ b ∷ c.addition_map ds
alone_map true k x ds = refl
alone_map false k x ds = refl

alone_bits : (b : Bool) (k : Component) (x : Bits) (ds : List (Addition Bits)) → c.addition_bits (alone (made b k x) ∷ ds) ≡ (if b then open_bits x else []) ++ c.addition_bits ds
alone_bits true k x ds = refl
alone_bits false k x ds = refl

if_joined : (b : Bool) (x y : Bits) → (if b then x ++ y else y) ≡ (if b then x else []) ++ y
if_joined true x y = refl
if_joined false x y = refl

-- ---- the steps of additions

-- the steps of a group's members are none of additions
members_map : (ms : List (Member Bits)) (xs : List (Member ℕ)) (ss : List PackedStep) → addition_map ms (member_steps xs ++ ss) ≡ addition_map ms ss
members_map ms [] ss = refl
members_map ms (m ∷ xs) ss = members_map ms xs ss

group_split : (xs : List (Member ℕ)) (ds : List (Addition ℕ)) (ss : List PackedStep) → (member_steps xs ++ addition_steps ds) ++ ss ≡ member_steps xs ++ (addition_steps ds ++ ss)
group_split xs ds ss = append_assoc (member_steps xs) (addition_steps ds) ss

pub additions_map : (ms : List (Member Bits)) (ds : List (Addition ℕ)) (ss : List PackedStep) → addition_map ms (addition_steps ds ++ ss) ≡ c.addition_map (map (on_additions (member_at ms)) ds) ++ addition_map ms ss
additions_map ms [] ss = refl
additions_map ms (alone m ∷ ds) ss =
    ap (λ q. is_written ms (place_in m) ∷ q) (additions_map ms ds ss)
    ∙ ap (λ q. q ++ addition_map ms ss) (sym (alone_map (is_written ms (place_in m)) (component m) (bits_at ms (place_in m)) (map (on_additions (member_at ms)) ds)))
additions_map ms (bracketed xs ∷ ds) ss =
    let e = group_split xs ds ss in
    ap (λ q. any_written ms (next_fields (length xs) q) ∷ addition_map ms q) e
    ∙ both (ap (any_written ms) (member_fields xs (addition_steps ds ++ ss)) ∙ any_is ms xs) (members_map ms xs (addition_steps ds ++ ss) ∙ additions_map ms ds ss)

pub additions_write : (s : List Resolved) (t : ℕ) (v : AbstractValue) (ds : List (Addition ℕ)) (ss : List PackedStep) → steps_bits s t v (addition_steps ds ++ ss) ≡ c.addition_bits (map (on_additions (member_at (members_of s t v))) ds) ++ steps_bits s t v ss
additions_write s t v [] ss = refl
additions_write s t v (alone m ∷ ds) ss =
    let ms = members_of s t v in
    let x = if is_written ms (place_in m) then open_bits (bits_at ms (place_in m)) else [] in
    let r = c.addition_bits (map (on_additions (member_at ms)) ds) in
    ap (λ q. x ++ q) (additions_write s t v ds ss)
    ∙ sym (append_assoc x r (steps_bits s t v ss))
    ∙ ap (λ q. q ++ steps_bits s t v ss) (sym (alone_bits (is_written ms (place_in m)) (component m) (bits_at ms (place_in m)) (map (on_additions (member_at ms)) ds)))
additions_write s t v (bracketed xs ∷ ds) ss =
    let ms = members_of s t v in
    let us = addition_steps ds ++ ss in
    let hs = map (member_at ms) xs in
    let o = open_bits (presence_bits hs ++ member_bits hs) in
    let r = c.addition_bits (map (on_additions (member_at ms)) ds) in
    let g : group_bits ms (next_fields (length xs) (member_steps xs ++ us)) ≡ (if any_present hs then o else [])
    = ap (group_bits ms) (member_fields xs us)
    ∙ if_eq (any_is ms xs) (ap open_bits (ap (λ q. q ++ field_bits ms (map field_at xs)) (map_is ms xs) ∙ ap (λ q. presence_bits hs ++ q) (bits_are ms xs))) refl in
    ap (λ q. group_bits ms (next_fields (length xs) q) ++ steps_bits s t v q) (group_split xs ds ss)
    ∙ ap (λ q. q ++ steps_bits s t v (member_steps xs ++ us)) g
    ∙ ap (λ q. (if any_present hs then o else []) ++ q) (members_write s t v xs us ∙ additions_write s t v ds ss)
    ∙ sym (append_assoc (if any_present hs then o else []) r (steps_bits s t v ss))
    ∙ ap (λ q. q ++ steps_bits s t v ss) (sym (if_joined (any_present hs) o r))

map_length : (ds : List (Addition Bits)) → length (c.addition_map ds) ≡ length ds
map_length [] = refl
map_length (alone (missing k) ∷ ds) = ap (λ q. suc q) (map_length ds)
map_length (alone (standing k x) ∷ ds) = ap (λ q. suc q) (map_length ds)
map_length (bracketed ms ∷ ds) = ap (λ q. suc q) (map_length ds)

length_on : {X Y : Type 0} (f : X → Y) (xs : List X) → length (map f xs) ≡ length xs
length_on f [] = refl
length_on f (x ∷ xs) = ap (λ q. suc q) (length_on f xs)

or_false : (a b : Bool) → a || b ≡ false → (a ≡ false) × (b ≡ false)
or_false true b e = absurd (cc)
or_false false b e = (refl, e)

-- if none is present, none is written
none_written : (ds : List (Addition Bits)) → any_set (c.addition_map ds) ≡ false → c.addition_bits ds ≡ []
none_written [] e = refl
none_written (alone (missing k) ∷ ds) e = none_written ds e
none_written (alone (standing k x) ∷ ds) e = absurd (cc)
none_written (bracketed ms ∷ ds) e =
    let p = or_false (any_present ms) (any_set (c.addition_map ds)) e in
    ap (λ b. if b then open_bits (presence_bits ms ++ member_bits ms) ++ c.addition_bits ds else c.addition_bits ds) p.0 ∙ none_written ds p.1

-- ---- whether an addition is present

front_any : (g : Option ℕ) (m : Member Bits) (ds : List (Addition Bits)) → any_set (c.addition_map (in_front g m ds)) ≡ is_present m || any_set (c.addition_map ds)
front_any None (missing k) ds = refl
front_any None (standing k x) ds = refl
front_any (Some g) (missing k) [] = refl
front_any (Some g) (standing k x) [] = refl
front_any (Some g) (missing k) (alone n ∷ ds) = refl
front_any (Some g) (standing k x) (alone n ∷ ds) = refl
front_any (Some g) (missing k) (bracketed [] ∷ ds) = refl
front_any (Some g) (standing k x) (bracketed [] ∷ ds) = refl
front_any (Some g) m (bracketed (n ∷ ns) ∷ ds) = by (is_of_group g n) m
  where
    by : (b : Bool) (m : Member Bits) → any_set (c.addition_map (if b then bracketed (m ∷ (n ∷ ns)) ∷ ds else bracketed (m ∷ []) ∷ (bracketed (n ∷ ns) ∷ ds))) ≡ is_present m || ((is_present n || any_present ns) || any_set (c.addition_map ds))
    by true (missing k) = refl
    by true (standing k x) = refl
    by false (missing k) = refl
    by false (standing k x) = refl

any_of_all : (xs : List (Member Bits)) → any_set (c.addition_map (additions xs)) ≡ any_present xs
any_of_all [] = refl
any_of_all (m ∷ xs) = front_any (group_of (component m).presence) m (additions xs) ∙ ap (λ q. is_present m || q) (any_of_all xs)

addition_tested : (p : Presence) (f : AbstractValue → Bool) → (elim p [ mandatory ↦ false | optional ↦ false | default d ↦ false | addition o g ↦ true ]) ≡ true → (elim p [ default d ↦ f d | mandatory ↦ false | optional ↦ false | addition o g ↦ false ]) ≡ false
addition_tested mandatory f e = refl
addition_tested optional f e = refl
addition_tested (default d) f e = absurd (cc)
addition_tested (addition o g) f e = refl

module _ (s : List Resolved) where
  marker_first : (b : Bool) (m : Member Bits) (ms : List (Member Bits)) → is_addition (component m) ≡ b → past_marker (m ∷ ms) ≡ (if b then m ∷ past_marker ms else past_marker ms)
  marker_first b m ms e = ap (λ q. if q then m ∷ past_marker ms else past_marker ms) e

  present_component : (b : Bool) (k : Component) (x : Bits) → component (if b then missing k else standing k x) ≡ k
  present_component true k x = refl
  present_component false k x = refl

  made_is_present : (b : Bool) (k : Component) (x : Bits) → b ≡ false → is_present (if b then missing k else standing k x) ≡ true
  made_is_present true k x e = absurd (cc)
  made_is_present false k x e = refl

  any_more : {n : ℕ} {cs : List Component} {ws : Row} → AllByRecursion (λ k. is_addition k ≡ true) cs → AreComponents s n cs ws → any_present (past_marker (members_by (is_default s) s ws cs)) ≡ any_from 0 ws
  any_more h no_component = refl
  any_more h (component_absent {c = k} {cs = cs} {vs = ws} m a) = ap any_present (marker_first true (missing k) (members_by (is_default s) s ws cs) h.0) ∙ any_more h.1 a
  any_more h (component_present {c = k} {cs = cs} {v = w} {vs = ws} m a) =
      let x = if is_default s k w then missing k else standing k (bits_by (is_default s) s w k.type) in
      let ms = members_by (is_default s) s ws cs in
      ap any_present (marker_first true x ms (ap is_addition (present_component (is_default s k w) k (bits_by (is_default s) s w k.type)) ∙ h.0))
      ∙ ap (λ q. q || any_present (past_marker ms)) (made_is_present (is_default s k w) k (bits_by (is_default s) s w k.type) (addition_tested k.presence _ h.0))

  -- the components of the root are before the additions
  any_past_marker : {n : ℕ} {ws : Row} (root more : List Component) → AllByRecursion (λ k. is_addition k ≡ false) root → AllByRecursion (λ k. is_addition k ≡ true) more → AreComponents s n (root ++ more) ws → any_present (past_marker (members_by (is_default s) s ws (root ++ more))) ≡ any_from (length root) ws
  any_past_marker [] more r h a = any_more h a
  any_past_marker (k ∷ root) more r h (component_absent {vs = ws} m a) = ap any_present (marker_first false (missing k) (members_by (is_default s) s ws (root ++ more)) r.0) ∙ any_past_marker root more r.1 h a
  any_past_marker (k ∷ root) more r h (component_present {v = w} {vs = ws} m a) =
      ap any_present (marker_first false (if is_default s k w then missing k else standing k (bits_by (is_default s) s w k.type)) (members_by (is_default s) s ws (root ++ more)) (ap is_addition (present_component (is_default s k w) k (bits_by (is_default s) s w k.type)) ∙ r.0))
      ∙ any_past_marker root more r.1 h a

root_number : (i : ℕ) (root more : List Component) → AllByRecursion (λ k. is_addition k ≡ false) root → AllByRecursion (λ k. is_addition k ≡ true) more → length (root_members (placed_from i (root ++ more))) ≡ length root
root_number i [] [] r h = refl
root_number i [] (k ∷ more) r h = ap (λ b. length (if b then root_members (placed_from (suc i) more) else standing k i ∷ root_members (placed_from (suc i) more))) h.0 ∙ root_number (suc i) [] more r h.1
root_number i (k ∷ root) more r h = ap (λ b. length (if b then root_members (placed_from (suc i) (root ++ more)) else standing k i ∷ root_members (placed_from (suc i) (root ++ more)))) r.0 ∙ ap (λ q. suc q) (root_number (suc i) root more r.1 h)

pub any_addition : (s : List Resolved) {n : ℕ} {ws : Row} (cs root more : List Component) → cs ≡ root ++ more → AllByRecursion (λ k. is_addition k ≡ false) root → AllByRecursion (λ k. is_addition k ≡ true) more → AreComponents s n cs ws → any_from (length (root_members (placed_from 0 cs))) ws ≡ any_set (c.addition_map (additions (past_marker (members_by (is_default s) s ws cs))))
any_addition s {n} {ws} cs root more e r h a =
    let goal : any_from (length (root_members (placed_from 0 (root ++ more)))) ws ≡ any_set (c.addition_map (additions (past_marker (members_by (is_default s) s ws (root ++ more)))))
    = ap (λ q. any_from q ws) (root_number 0 root more r h) ∙ sym (any_past_marker s root more r h (subst (λ q. AreComponents s n q ws) e a)) ∙ sym (any_of_all (past_marker (members_by (is_default s) s ws (root ++ more)))) in
    subst (λ q. any_from (length (root_members (placed_from 0 q))) ws ≡ any_set (c.addition_map (additions (past_marker (members_by (is_default s) s ws q))))) (sym e) goal

past_end : {s : List Resolved} {n : ℕ} {cs : List Component} {ws : Row} → AreComponents s n cs ws → any_from (length cs) ws ≡ false
past_end no_component = refl
past_end (component_absent m a) = past_end a
past_end (component_present m a) = past_end a

-- without a marker there are no additions
pub no_addition : (s : List Resolved) {n : ℕ} {ws : Row} (cs root more : List Component) → cs ≡ root ++ more → more ≡ [] → AllByRecursion (λ k. is_addition k ≡ false) root → AllByRecursion (λ k. is_addition k ≡ true) more → AreComponents s n cs ws → any_from (length (root_members (placed_from 0 cs))) ws ≡ false
no_addition s {n} {ws} cs root more e m r h a =
    let l : length (root_members (placed_from 0 cs)) ≡ length root = ap (λ q. length (root_members (placed_from 0 q))) e ∙ root_number 0 root more r h in
    let k : length root ≡ length cs = sym (ap length (e ∙ ap (λ q. root ++ q) m ∙ append-nil root)) in
    ap (λ q. any_from q ws) (l ∙ k) ∙ past_end a

-- ---- a whole SEQUENCE or SET

-- the root, and what follows it
pub whole : (s : List Resolved) (t : ℕ) (v : AbstractValue) (e : Bool) (i : ℕ) (xs : List (Member ℕ)) (ds : List (Addition ℕ)) → (e ≡ true → mark_bit i v ≡ any_set (c.addition_map (map (on_additions (member_at (members_of s t v))) ds))) → (e ≡ false → any_set (c.addition_map (map (on_additions (member_at (members_of s t v))) ds)) ≡ false) → steps_bits s t v (mark_if e i ++ (Map (length xs) ∷ (root_steps xs ++ rest_if e ds))) ≡ extended_bits e (presence_bits (map (member_at (members_of s t v)) xs) ++ member_bits (map (member_at (members_of s t v)) xs)) (c.addition_map (map (on_additions (member_at (members_of s t v))) ds)) (c.addition_bits (map (on_additions (member_at (members_of s t v))) ds))
whole s t v e i xs ds h n = by e h n
  where
    ms : List (Member Bits)
    ms = members_of s t v

    p : Bits
    p = presence_bits (map (member_at (members_of s t v)) xs)

    b : Bits
    b = member_bits (map (member_at (members_of s t v)) xs)

    q : Bits
    q = c.addition_map (map (on_additions (member_at (members_of s t v))) ds)

    d : Bits
    d = c.addition_bits (map (on_additions (member_at (members_of s t v))) ds)

    root : (ss : List PackedStep) → steps_bits s t v (Map (length xs) ∷ (root_steps xs ++ ss)) ≡ (presence_bits (map (member_at (members_of s t v)) xs) ++ member_bits (map (member_at (members_of s t v)) xs)) ++ steps_bits s t v ss
    root ss =
        let ms = members_of s t v in
        let p = presence_bits (map (member_at ms) xs) in
        let b = member_bits (map (member_at ms) xs) in
        ap (λ z. map_bits ms z ++ steps_bits s t v (root_steps xs ++ ss)) (root_fields xs ss)
        ∙ ap (λ z. z ++ steps_bits s t v (root_steps xs ++ ss)) (map_is ms xs)
        ∙ ap (λ z. p ++ z) (roots_write s t v xs ss)
        ∙ sym (append_assoc p b (steps_bits s t v ss))

    extended : (k : Bool) (m : Bool) (r q d : Bits) → any_set q ≡ k → m ≡ k → (k ≡ false → d ≡ []) → (m ∷ []) ++ (r ++ (bitmap_bits (length q) q ++ (d ++ []))) ≡ extended_bits true r q d
    extended true m r q d a e f =
        ap (λ z. (z ∷ []) ++ (r ++ (bitmap_bits (length q) q ++ (d ++ [])))) e
        ∙ ap (λ z. true ∷ (r ++ ((if z then false ∷ (low_bits 6 (length q - 1) ++ q) else []) ++ (d ++ [])))) a
        ∙ ap (λ z. true ∷ (r ++ ((false ∷ (low_bits 6 (length q - 1) ++ q)) ++ z))) (append-nil d)
        ∙ ap (λ z. true ∷ (r ++ (false ∷ z))) (append_assoc (low_bits 6 (length q - 1)) q d)
        ∙ sym (ap (λ z. if z then true ∷ (r ++ (false ∷ (low_bits 6 (length q - 1) ++ (q ++ d)))) else root_bit true ++ r) a)
    extended false m r q d a e f =
        ap (λ z. (z ∷ []) ++ (r ++ (bitmap_bits (length q) q ++ (d ++ [])))) e
        ∙ ap (λ z. false ∷ (r ++ ((if z then false ∷ (low_bits 6 (length q - 1) ++ q) else []) ++ (d ++ [])))) a
        ∙ ap (λ z. false ∷ (r ++ (z ++ []))) (f refl)
        ∙ ap (λ z. false ∷ z) (append-nil r)
        ∙ sym (ap (λ z. if z then true ∷ (r ++ (false ∷ (low_bits 6 (length q - 1) ++ (q ++ d)))) else root_bit true ++ r) a)

    by : (e : Bool) → (e ≡ true → mark_bit i v ≡ any_set (c.addition_map (map (on_additions (member_at (members_of s t v))) ds))) → (e ≡ false → any_set (c.addition_map (map (on_additions (member_at (members_of s t v))) ds)) ≡ false) → steps_bits s t v (mark_if e i ++ (Map (length xs) ∷ (root_steps xs ++ rest_if e ds))) ≡ extended_bits e (presence_bits (map (member_at (members_of s t v)) xs) ++ member_bits (map (member_at (members_of s t v)) xs)) (c.addition_map (map (on_additions (member_at (members_of s t v))) ds)) (c.addition_bits (map (on_additions (member_at (members_of s t v))) ds))
    by true h n =
        let ms = members_of s t v in
        let r = presence_bits (map (member_at ms) xs) ++ member_bits (map (member_at ms) xs) in
        let ns = map (on_additions (member_at ms)) ds in
        let q = c.addition_map ns in
        let d = c.addition_bits ns in
        let l : length ds ≡ length q = sym (map_length ns ∙ length_on (on_additions (member_at ms)) ds) in
        let f : addition_map ms (addition_steps ds ++ (Rest ∷ [])) ≡ q = additions_map ms ds (Rest ∷ []) ∙ append-nil q in
        let w : steps_bits s t v (addition_steps ds ++ (Rest ∷ [])) ≡ d ++ [] = additions_write s t v ds (Rest ∷ []) in
        ap (λ z. (mark_bit i v ∷ []) ++ z) (root (rest_if true ds))
        ∙ ap (λ z. (mark_bit i v ∷ []) ++ (r ++ (bitmap_bits (length ds) z ++ steps_bits s t v (addition_steps ds ++ (Rest ∷ []))))) f
        ∙ ap (λ z. (mark_bit i v ∷ []) ++ (r ++ (bitmap_bits (length ds) q ++ z))) w
        ∙ ap (λ z. (mark_bit i v ∷ []) ++ (r ++ (bitmap_bits z q ++ (d ++ [])))) l
        ∙ extended (any_set q) (mark_bit i v) r q d refl (h refl) (λ e. none_written ns e)
    by false h n =
        let ms = members_of s t v in
        let r = presence_bits (map (member_at ms) xs) ++ member_bits (map (member_at ms) xs) in
        let ns = map (on_additions (member_at ms)) ds in
        let q = c.addition_map ns in
        let d = c.addition_bits ns in
        root [] ∙ append-nil r
        ∙ sym (ap (λ z. if z then true ∷ (r ++ (false ∷ (low_bits 6 (length q - 1) ++ (q ++ d)))) else r) (n refl))
