-- Fields, and the members whose fields they are.
use Rattle.std.proofs.Common.{◌≡◌, ℕ, suc, zero, Bool, true, false, List, [], ◌∷◌, ◌++◌, length, map, refl, sym, ap, subst, ◌∙◌, append_assoc, length-append, arith}
use Rattle.std.specs.Prelude.{if◌then◌else◌, ◌||◌}
use Rattle.asn_base.specs.Types.{Component, Resolved}
use Rattle.asn_base.specs.Abstract.{AbstractValue, Row}
use Rattle.asn_base.specs.Typed.{AreComponents, no_component, component_absent, component_present}
use Rattle.packed_encodings.specs.Lengths.{Bits}
use Rattle.packed_encodings.specs.Orders.{Member, missing, standing, component, is_present, any_present, has_bit}
use Rattle.packed_encodings.specs.Computed.{DefaultTest, bits_by, members_by, presence_bits, member_bits}
use Rattle.packed_code.specs.declared.step.PackedStep.{PackedStep}
use Rattle.packed_code.specs.Routines.{placed_from, place_in, field_at, root_steps, member_steps}
use Rattle.packed_code.specs.Meaning.{members_of, is_written, bits_at, next_fields, map_bits, any_written, field_bits, steps_bits}

-- a component with these bits, if it is written
abbrev pub made : Bool → Component → Bits → Member Bits
made true c x = standing c x
made false c x = missing c

-- the member at the place
abbrev pub member_at : List (Member Bits) → Member ℕ → Member Bits
member_at ms m = made (is_written ms (place_in m)) (component m) (bits_at ms (place_in m))

made_component : (b : Bool) (c : Component) (x : Bits) → component (made b c x) ≡ c
made_component true c x = refl
made_component false c x = refl

pub same_component : (ms : List (Member Bits)) (m : Member ℕ) → component (member_at ms m) ≡ component m
same_component ms m = made_component (is_written ms (place_in m)) (component m) (bits_at ms (place_in m))

unwritten : (ms : List (Member Bits)) (i : ℕ) → is_written ms i ≡ false → bits_at ms i ≡ []
unwritten [] i e = refl
unwritten (missing c ∷ ms) zero e = refl
unwritten (standing c x ∷ ms) zero e = absurd (cc)
unwritten (missing c ∷ ms) (suc i) e = unwritten ms i e
unwritten (standing c x ∷ ms) (suc i) e = unwritten ms i e

-- ---- places in order of definition

first_at : (pre : List (Member Bits)) (m : Member Bits) (rest : List (Member Bits)) → member_at (pre ++ (m ∷ rest)) (standing (component m) (length pre)) ≡ m
first_at [] (missing c) rest = refl
first_at [] (standing c x) rest = refl
first_at (missing c ∷ pre) m rest = first_at pre m rest
first_at (standing c x ∷ pre) m rest = first_at pre m rest

pub both : {X : Type 0} {x y : X} {xs ys : List X} → x ≡ y → xs ≡ ys → (x ∷ xs) ≡ (y ∷ ys)
both e f = cc

placed_back : (pre rest : List (Member Bits)) → map (member_at (pre ++ rest)) (placed_from (length pre) (map component rest)) ≡ rest
placed_back pre [] = refl
placed_back pre (m ∷ rest) =
    let e : (pre ++ (m ∷ [])) ++ rest ≡ pre ++ (m ∷ rest) = append_assoc pre (m ∷ []) rest in
    let l : length (pre ++ (m ∷ [])) ≡ suc (length pre) = length-append pre (m ∷ []) ∙ omega arith in
    both (first_at pre m rest)
    (ap (λ q. map (member_at q) (placed_from (suc (length pre)) (map component rest))) (sym e)
    ∙ ap (λ q. map (member_at ((pre ++ (m ∷ [])) ++ rest)) (placed_from q (map component rest))) (sym l)
    ∙ placed_back (pre ++ (m ∷ [])) rest)

one_component : (b : Bool) (c : Component) (x : Bits) → component (if b then missing c else standing c x) ≡ c
one_component true c x = refl
one_component false c x = refl

components_are : {s : List Resolved} {n : ℕ} {cs : List Component} {ws : Row} (test : DefaultTest) → AreComponents s n cs ws → map component (members_by test s ws cs) ≡ cs
components_are test no_component = refl
components_are test (component_absent {c = c} m a) = ap (λ q. c ∷ q) (components_are test a)
components_are {s} test (component_present {c = c} {v = v} h a) = both (one_component (test c v) c (bits_by test s v c.type)) (components_are test a)

-- the members of a value, by the places of its components
pub members_placed : {s : List Resolved} {n : ℕ} {cs : List Component} {ws : Row} (test : DefaultTest) → AreComponents s n cs ws → map (member_at (members_by test s ws cs)) (placed_from 0 cs) ≡ members_by test s ws cs
members_placed {s} {cs = cs} {ws = ws} test a =
    let ms = members_by test s ws cs in
    subst (λ q. map (member_at ms) (placed_from 0 q) ≡ ms) (components_are test a) (placed_back [] ms)

-- ---- the next fields

pub root_fields : (xs : List (Member ℕ)) (ss : List PackedStep) → next_fields (length xs) (root_steps xs ++ ss) ≡ map field_at xs
root_fields [] ss = refl
root_fields (m ∷ xs) ss = ap (λ q. field_at m ∷ q) (root_fields xs ss)

pub member_fields : (xs : List (Member ℕ)) (ss : List PackedStep) → next_fields (length xs) (member_steps xs ++ ss) ≡ map field_at xs
member_fields [] ss = refl
member_fields (m ∷ xs) ss = ap (λ q. field_at m ∷ q) (member_fields xs ss)

-- ---- what fields write

presence_first : (b : Bool) (c : Component) (x : Bits) (ms : List (Member Bits)) → presence_bits (made b c x ∷ ms) ≡ (if has_bit c.presence then b ∷ presence_bits ms else presence_bits ms)
presence_first true c x ms = refl
presence_first false c x ms = refl

pub first_is_present : (b : Bool) (c : Component) (x : Bits) → is_present (made b c x) ≡ b
first_is_present true c x = refl
first_is_present false c x = refl

bits_first : (b : Bool) (c : Component) (x : Bits) (ms : List (Member Bits)) → (b ≡ false → x ≡ []) → member_bits (made b c x ∷ ms) ≡ x ++ member_bits ms
bits_first true c x ms h = refl
bits_first false c x ms h = ap (λ q. q ++ member_bits ms) (sym (h refl))

module _ (ms : List (Member Bits)) where
  pub map_is : (xs : List (Member ℕ)) → map_bits ms (map field_at xs) ≡ presence_bits (map (member_at ms) xs)
  map_is [] = refl
  map_is (m ∷ xs) =
      ap (λ q. if has_bit (component m).presence then is_written ms (place_in m) ∷ q else q) (map_is xs)
      ∙ sym (presence_first (is_written ms (place_in m)) (component m) (bits_at ms (place_in m)) (map (member_at ms) xs))

  pub any_is : (xs : List (Member ℕ)) → any_written ms (map field_at xs) ≡ any_present (map (member_at ms) xs)
  any_is [] = refl
  any_is (m ∷ xs) =
      ap (λ q. is_written ms (place_in m) || q) (any_is xs)
      ∙ ap (λ q. q || any_present (map (member_at ms) xs)) (sym (first_is_present (is_written ms (place_in m)) (component m) (bits_at ms (place_in m))))

  pub bits_are : (xs : List (Member ℕ)) → field_bits ms (map field_at xs) ≡ member_bits (map (member_at ms) xs)
  bits_are [] = refl
  bits_are (m ∷ xs) =
      ap (λ q. bits_at ms (place_in m) ++ q) (bits_are xs)
      ∙ sym (bits_first (is_written ms (place_in m)) (component m) (bits_at ms (place_in m)) (map (member_at ms) xs) (unwritten ms (place_in m)))

-- the steps of the root's components, and those after them
pub roots_write : (s : List Resolved) (t : ℕ) (v : AbstractValue) (xs : List (Member ℕ)) (ss : List PackedStep) → steps_bits s t v (root_steps xs ++ ss) ≡ member_bits (map (member_at (members_of s t v)) xs) ++ steps_bits s t v ss
roots_write s t v [] ss = refl
roots_write s t v (m ∷ xs) ss =
    let ms = members_of s t v in
    ap (λ q. bits_at ms (place_in m) ++ q) (roots_write s t v xs ss)
    ∙ sym (append_assoc (bits_at ms (place_in m)) (member_bits (map (member_at ms) xs)) (steps_bits s t v ss))
    ∙ ap (λ q. q ++ steps_bits s t v ss) (sym (bits_first (is_written ms (place_in m)) (component m) (bits_at ms (place_in m)) (map (member_at ms) xs) (unwritten ms (place_in m))))

-- the steps of a group's members write nothing by themselves
pub members_write : (s : List Resolved) (t : ℕ) (v : AbstractValue) (xs : List (Member ℕ)) (ss : List PackedStep) → steps_bits s t v (member_steps xs ++ ss) ≡ steps_bits s t v ss
members_write s t v [] ss = refl
members_write s t v (m ∷ xs) ss = members_write s t v xs ss
