-- Tokens that show a value build its tree.
use Rattle.std.proofs.Common.{arith, ◌≡◌, ℕ, zero, suc, ◌+◌, ◌≤◌, Bool, true, false, List, [], ◌∷◌, ◌++◌, length, refl, sym, ap, subst, ◌∙◌, append_assoc, length-append}
use Rattle.std.proofs.lemmas.List.{append-nil}
use Rattle.std.proofs.Math.Seq.{take-append_seam}
use Rattle.std.specs.Prelude.{Option, Some, None, replicate, take, drop, ◌-◌}
use Rattle.std.specs.List.{slice_range}
use Rattle.asn_base.specs.Abstract.{AbstractValue, fields, list, alternative, Row, present}
use Rattle.asn_base.specs.Types.{TypeNumber, Kind, a_sequence, a_set, a_sequence_of, a_set_of, a_choice, Component, Resolved, Is}
use Rattle.asn_base.specs.Schemas.{IsSchema, IsSound, AreListed}
use Rattle.codec_code.specs.Routines.{id_of, routine_at}
use Rattle.octet_answers.specs.States.{Token, component, chosen, begun, ended, held, passed}
use Rattle.laws_reading.specs.TokensShow.{TokensShow, shows, ShowsOf, shows_leaf, shows_sequence, shows_set, shows_sequence_of, shows_set_of, shows_choice, ShowsFields, no_field, absent_field, present_field, ShowsMixed, nothing_mixed, passed_mixed, component_mixed, ShowsElements, no_element_shown, element_shown, IsSliceAt, AreSlicesOf}
use Rattle.views.specs.Building.{Building, opened, open_fields, open_list, open_alternative, Header, Closes, closes_fields, closes_list, closes_alternative, with_tree, begun as begun'}
use Rattle.views.specs.Tree.{Leaf, boolean, integer, enumerated, bits, octets, text, null, oid, relative_oid, leaf_value, ViewTree, leaf, value_of, ViewMembers, no_member, member, joined, element_values, component_value, IsBorrowed, AreBorrowed, IsBorrowedLeaf, IsBorrowedAt}
use Rattle.views.specs.Tree as tree
use Rattle.laws_reading.specs.TokensShow.{skipped_in}
use Rattle.ber_reader.specs.Messages.{IsMessage, IsRead, IsViewed}
use Rattle.ber_source.specs.declared.view_sink.Built.{Built}
use Rattle.ber_source.specs.ViewSink.{GiveTree, IsBuiltOf}
use Rattle.ber_source.specs.Log.{passes}
use Rattle.ber_source.specs.Shapes.{shape_of, shape_in}
use Rattle.ber_source.specs.Shown.{IsShownAs, leaves_of, leaves_in, AreShown}
use Rattle.ber_source.specs.Wants.{Reading, begun_as, number_as, Wants}
use Rattle.ber_reader.proofs.Shapes.{shape_at, leaf_shape}
use Rattle.ber_reader.proofs.Rows.{many, Ordered, ordered_none, ordered_absent, ordered_present, ordered_row, Mixed, mixed_none, mixed_more, mixed_row, joined_none, joined_more, found_below}

-- ---- what is in the message

pub slices_first : (m : List ℕ) (xs ys : List Token) → AreSlicesOf m (xs ++ ys) → AreSlicesOf m xs
slices_first m [] ys a = tt
slices_first m (held k c x at ∷ xs) ys a = (a.0, slices_first m xs ys a.1)
slices_first m (component i ∷ xs) ys a = slices_first m xs ys a
slices_first m (chosen i ∷ xs) ys a = slices_first m xs ys a
slices_first m (begun t ∷ xs) ys a = slices_first m xs ys a
slices_first m (ended ∷ xs) ys a = slices_first m xs ys a
slices_first m (passed ∷ xs) ys a = slices_first m xs ys a

pub slices_second : (m : List ℕ) (xs ys : List Token) → AreSlicesOf m (xs ++ ys) → AreSlicesOf m ys
slices_second m [] ys a = a
slices_second m (held k c x at ∷ xs) ys a = slices_second m xs ys a.1
slices_second m (component i ∷ xs) ys a = slices_second m xs ys a
slices_second m (chosen i ∷ xs) ys a = slices_second m xs ys a
slices_second m (begun t ∷ xs) ys a = slices_second m xs ys a
slices_second m (ended ∷ xs) ys a = slices_second m xs ys a
slices_second m (passed ∷ xs) ys a = slices_second m xs ys a

drop_front : (a y : List ℕ) → drop (length a) (a ++ y) ≡ y
drop_front [] y = refl
drop_front (x ∷ a) y = drop_front a y

range_of : (a x b : List ℕ) → slice_range (a ++ (x ++ b)) (length a) (length a + length x) ≡ x
range_of a x b =
    ap (λ q. take (length a + length x - length a) q) (drop_front a (x ++ b)) ∙ ap (λ q. take q (x ++ b)) (let e : length a + length x - length a ≡ length x = omega arith in e) ∙ take-append_seam x b

slice_at : {m : List ℕ} {at : ℕ} {x : List ℕ} → IsSliceAt m at x → slice_range m at (at + length x) ≡ x
slice_at {m} {at} {x} s = ap (λ q. slice_range q at (at + length x)) s.whole ∙ ap (λ q. slice_range (s.before ++ (x ++ s.following)) q (q + length x)) (sym s.place) ∙ range_of s.before x s.following

-- the slice after the first octet
slice_later : {m : List ℕ} {at n : ℕ} {x o : List ℕ} → IsSliceAt m at x → x ≡ n ∷ o → IsSliceAt m (suc at) o
slice_later {n = n} {o = o} s e = record {
  before = s.before ++ n ∷ [];
  following = s.following;
  whole = s.whole ∙ ap (λ q. s.before ++ (q ++ s.following)) e ∙ sym (append_assoc s.before (n ∷ []) (o ++ s.following));
  place = (let a = length-append s.before (n ∷ []) in let b = s.place in omega arith);
}

string_in_place : {m : List ℕ} {at : ℕ} {x o : List ℕ} (p : Option ℕ) → IsSliceAt m at x → o ≡ x → p ≡ Some at → IsBorrowedAt m o p
string_in_place {m} {at} {x} {o} p s e f = subst (λ q. IsBorrowedAt m o q) (sym f) (subst (λ q. slice_range m at (at + length q) ≡ q) (sym e) (slice_at s))

joined_in_place : (m o : List ℕ) (p : Option ℕ) → p ≡ None → IsBorrowedAt m o p
joined_in_place m o p e = subst (λ q. IsBorrowedAt m o q) (sym e) tt

leaf_in_place : (m : List ℕ) (c : Bool) (x : List ℕ) (at : ℕ) (l : Leaf) → IsSliceAt m at x → IsShownAs c x at l → IsBorrowedLeaf m l
leaf_in_place m c x at (boolean b) s h = tt
leaf_in_place m c x at (integer z) s h = tt
leaf_in_place m c x at (enumerated z) s h = tt
leaf_in_place m c x at null s h = tt
leaf_in_place m c x at (oid ns) s h = tt
leaf_in_place m c x at (relative_oid ns) s h = tt
leaf_in_place m false x at (octets o p) s h = string_in_place p s h.0 h.1
leaf_in_place m false x at (text o p) s h = string_in_place p s h.0 h.1
leaf_in_place m false x at (bits n o p) s h = string_in_place p (slice_later s h.0) refl h.1
leaf_in_place m true x at (octets o p) s h = joined_in_place m o p h
leaf_in_place m true x at (text o p) s h = joined_in_place m o p h
leaf_in_place m true x at (bits n o p) s h = joined_in_place m o p h

-- ---- what is shown

shown_both : (xs ys : List Token) (ks ls : List Leaf) → AreShown xs ks → AreShown ys ls → AreShown (xs ++ ys) (ks ++ ls)
shown_both [] ys [] ls a b = b
shown_both [] ys (l ∷ ks) ls a b = absurd a
shown_both (held k c x at ∷ xs) ys [] ls a b = absurd a
shown_both (held k c x at ∷ xs) ys (l ∷ ks) ls a b = (a.0, shown_both xs ys ks ls a.1 b)
shown_both (component i ∷ xs) ys ks ls a b = shown_both xs ys ks ls a b
shown_both (chosen i ∷ xs) ys ks ls a b = shown_both xs ys ks ls a b
shown_both (begun t ∷ xs) ys ks ls a b = shown_both xs ys ks ls a b
shown_both (ended ∷ xs) ys ks ls a b = shown_both xs ys ks ls a b
shown_both (passed ∷ xs) ys ks ls a b = shown_both xs ys ks ls a b

none_passed : (n : ℕ) → AreShown (replicate n passed) []
none_passed zero = tt
none_passed (suc n) = none_passed n

-- a token without contents octets follows
shown_end : (ts : List Token) (ls : List Leaf) → AreShown ts ls → AreShown (ts ++ ended ∷ []) ls
shown_end ts ls a = subst (λ q. AreShown (ts ++ ended ∷ []) q) (append-nil ls) (shown_both ts (ended ∷ []) ls [] a tt)

shown_passed : (ts : List Token) (n : ℕ) (ls : List Leaf) → AreShown ts ls → AreShown (ts ++ replicate n passed) ls
shown_passed ts n ls a = subst (λ q. AreShown (ts ++ replicate n passed) q) (append-nil ls) (shown_both ts (replicate n passed) ls [] a (none_passed n))

-- a member, and those after it
shown_next : {all : List Token} (xs ts : List Token) (t : ViewTree) (ms : ViewMembers) → AreShown xs (leaves_of t) → AreShown ts (leaves_in ms) → xs ++ ts ≡ all → AreShown all (leaves_of t ++ leaves_in ms)
shown_next xs ts t ms a b e = subst (λ q. AreShown q (leaves_of t ++ leaves_in ms)) e (shown_both xs ts (leaves_of t) (leaves_in ms) a b)

shown_more : {i : ℕ} {all : List Token} (xs ts : List Token) (t : ViewTree) (ms : ViewMembers) → AreShown xs (leaves_of t) → AreShown ts (leaves_in ms) → component i ∷ (xs ++ ts) ≡ all → AreShown all (leaves_of t ++ leaves_in ms)
shown_more {i = i} xs ts t ms a b e = subst (λ q. AreShown q (leaves_of t ++ leaves_in ms)) e (shown_both xs ts (leaves_of t) (leaves_in ms) a b)

module _ (s : List Resolved) (schema : IsSchema s) (g : Reading) (short : length g.message ≤ 16777216) (w0 : AbstractValue) where
  -- the condition on what follows holds for each tree that shows the value and its tokens
  abbrev Tree_then : List Token → List Token → ℕ → Building → AbstractValue → Type 0
  Tree_then ts rest n b w = (t : ViewTree) → value_of t ≡ w → IsBorrowed g.message t → AreShown ts (leaves_of t) → Wants s g w0 rest 0 false (with_tree n t b)

  abbrev more : Building → ViewMembers → Building
  more b ms = record { here = joined b.here ms; waits = b.waits }

  more_none : (b : Building) → more b no_member ≡ b
  more_none b = ap (λ q. record { here = q; waits = b.waits }) (joined_none b.here)

  more_more : (b : Building) (n : ℕ) (t : ViewTree) (ms : ViewMembers) → more (with_tree n t b) ms ≡ more b (member n t ms)
  more_more b n t ms = ap (λ q. record { here = q; waits = b.waits }) (joined_more b.here (member n t no_member) ms)

  passed_over : (j : ℕ) (ts : List Token) (n : ℕ) (h : Bool) (b : Building) → Wants s g w0 ts n h b → Wants s g w0 (replicate j passed ++ ts) n h b
  passed_over zero ts n h b f = f
  passed_over (suc j) ts n h b f = passed_over j ts n h b f

  -- the innermost open node is closed
  closed_with : (rest : List Token) (n : ℕ) (h : Header) (b : Building) (ms : ViewMembers) (t : ViewTree) → Closes h ms t → Wants s g w0 rest 0 false (with_tree n t b) → Wants s g w0 (ended ∷ rest) 0 false (more (opened n h b) ms)
  closed_with rest n h b ms t c f = record {
    building = with_tree n t b;
    wait = record { number = n; header = h; before = b.here };
    waits = b.waits;
    tree = t;
    closed = record { is_open = refl; tree = c; closed = refl };
    then = f;
  }

  few_of : (e : Bool) (cs : List Component) → AreListed s e cs → length cs ≤ 320
  few_of e cs a = let p = ap length a.parts in let q = length-append a.root a.more in let x = a.few_root in let y = a.few_more in omega arith

  mutual
    value_wants : {t : TypeNumber} {w : AbstractValue} {ts : List Token} → TokensShow s t w ts → AreSlicesOf g.message ts → (rest : List Token) (n : ℕ) (b : Building) → Tree_then ts rest n b w → Wants s g w0 (ts ++ rest) n false b
    value_wants (shows {t = t} {tags = tags} {k = k} {w = w} {ts = ts} i o e) st rest n b f =
        let st2 = slices_first g.message ts (ended ∷ []) (subst (AreSlicesOf g.message) e st) in
        let g2 : Tree_then ts rest n b w = λ u x bor sh. f u x bor (subst (λ q. AreShown q (leaves_of u)) (sym e) (shown_end ts (leaves_of u) sh)) in
        let inner = kind_wants k o (schema.sound t tags k i) st2 rest n b g2 in
        let shape = shape_at s t tags k i (λ q. schema.tagged t k (subst (λ g. Is s t g k) q i)) in
        let one = subst (λ q. Wants s g w0 (ts ++ ended ∷ rest) (number_as q n) false (begun_as q n b)) (sym shape) inner in
        let two = subst (λ q. Wants s g w0 q (number_as (shape_in (routine_at s t)) n) false (begun_as (shape_in (routine_at s t)) n b)) (sym (append_assoc ts (ended ∷ []) rest)) one in
        subst (λ q. Wants s g w0 (q ++ rest) n false b) (sym e) two

    kind_wants : (k : Kind) {w : AbstractValue} {ts : List Token} → ShowsOf s k w ts → IsSound s k → AreSlicesOf g.message ts → (rest : List Token) (n : ℕ) (b : Building) → Tree_then ts rest n b w → Wants s g w0 (ts ++ ended ∷ rest) (number_as (shape_of k) n) false (begun_as (shape_of k) n b)
    kind_wants k {w = w} (shows_leaf {lk = lk} {c = c} {at = at} {x = x} levels few steps contents) sound st rest n b f =
        let place = st.0 in
        let l1 = ap length place.whole in
        let l2 = length-append place.before (x ++ place.following) in
        let l3 = length-append x place.following in
        let l4 = place.place in
        subst (λ q. Wants s g w0 (held lk c x at ∷ ended ∷ rest) (number_as q n) false (begun_as q n b)) (sym (leaf_shape s k lk steps)) (record {
          value = w;
          held = record { levels = levels; few = few; short = omega arith; contents = contents };
          then = λ l e h. f (leaf l) e (leaf_in_place g.message c x at l place h) (h, tt);
        })
    kind_wants (a_sequence e cs) (shows_sequence {ws = ws} {ts = ts} j fs all) sound st rest n b f =
        let st2 = slices_first g.message ts (replicate j passed) (subst (AreSlicesOf g.message) all st) in
        let size = length cs in
        let b2 = opened n (open_fields size) b in
        let q = fields_want fs (let z = few_of e cs sound in omega arith) st2 (replicate j passed ++ ended ∷ rest) b2
        (λ ms r o bor sh. passed_over j (ended ∷ rest) 0 false (more b2 ms) (closed_with rest n (open_fields size) b ms (tree.fields size ms) closes_fields
        (f (tree.fields size ms) (ap fields (ordered_row size ws ms r o)) bor (subst (λ z. AreShown z (leaves_in ms)) (sym all) (shown_passed ts j (leaves_in ms) sh))))) in
        subst (λ z. Wants s g w0 (z ++ ended ∷ rest) 0 false b2) (sym all) (subst (λ z. Wants s g w0 z 0 false b2) (sym (append_assoc ts (replicate j passed) (ended ∷ rest))) q)
    kind_wants (a_set e cs) (shows_set {ws = ws} ms') sound st rest n b f =
        let size = length cs in
        let b2 = opened n (open_fields size) b in
        mixed_want ms' (let z = few_of e cs sound.0 in omega arith) st (ended ∷ rest) b2
        (λ ms x bor sh. closed_with rest n (open_fields size) b ms (tree.fields size ms) closes_fields (f (tree.fields size ms) (ap fields (mixed_row size ws ms x)) bor sh))
    kind_wants (a_sequence_of c u) (shows_sequence_of es) sound st rest n b f =
        let b2 = opened n open_list b in
        elements_want es st (ended ∷ rest) b2 (λ ms x bor sh. closed_with rest n open_list b ms (tree.list ms) closes_list (f (tree.list ms) (ap list x) bor sh))
    kind_wants (a_set_of c u) (shows_set_of es) sound st rest n b f =
        let b2 = opened n open_list b in
        elements_want es st (ended ∷ rest) b2 (λ ms x bor sh. closed_with rest n open_list b ms (tree.list ms) closes_list (f (tree.list ms) (ap list x) bor sh))
    kind_wants (a_choice root e more') (shows_choice {i = i} g sh) sound st rest n b f =
        value_wants sh st (ended ∷ rest) 0 (opened n (open_alternative i) b)
        (λ t x bor sh. closed_with rest n (open_alternative i) b (member 0 t no_member) (tree.alternative i t) closes_alternative (f (tree.alternative i t) (ap (alternative i) x) bor sh))

    fields_want : {i : ℕ} {cs : List Component} {ws : Row} {ts : List Token} → ShowsFields s i cs ws ts → i + length cs ≤ 400 → AreSlicesOf g.message ts → (rest : List Token) (b : Building)
        → ((ms : ViewMembers) → many ws ≡ length cs → Ordered i ws ms → AreBorrowed g.message ms → AreShown ts (leaves_in ms) → Wants s g w0 rest 0 false (more b ms))
        → Wants s g w0 (ts ++ rest) 0 false b
    fields_want {i = i} no_field few st rest b f = subst (λ q. Wants s g w0 rest 0 false q) (more_none b) (f no_member refl (ordered_none i) tt tt)
    fields_want {i = i} (absent_field {ws = ws} fs) few st rest b f = fields_want fs (omega arith) st rest b (λ ms r o bor sh. f ms (ap suc r) (ordered_absent i ws ms o) bor sh)
    fields_want {i = i} {cs = cs} (present_field {c = c} {cs = ds} {w = w} {ws = ws} {xs = xs} {ts = ts} sh fs all) few st rest b f =
        let st2 = subst (AreSlicesOf g.message) all st in
        let sx = slices_first g.message xs ts st2 in
        let sy = slices_second g.message xs ts st2 in
        let q = value_wants sh sx (ts ++ rest) i b (λ t e bt sht. fields_want fs (omega arith) sy rest (with_tree i t b)
        (λ ms r o bor shm. subst (λ z. Wants s g w0 rest 0 false z) (sym (more_more b i t ms)) (f (member i t ms) (ap suc r) (ordered_present i ws ms t w e o) (bt, bor) (shown_more xs ts t ms sht shm (sym all))))) in
        subst (λ z. Wants s g w0 (z ++ rest) 0 false b) (sym all) (omega arith, subst (λ z. Wants s g w0 z i false b) (sym (append_assoc xs ts rest)) q)

    mixed_want : {cs : List Component} {ws : Row} {ts : List Token} → ShowsMixed s cs ws ts → length cs ≤ 400 → AreSlicesOf g.message ts → (rest : List Token) (b : Building)
        → ((ms : ViewMembers) → Mixed (length cs) ws ms → AreBorrowed g.message ms → AreShown ts (leaves_in ms) → Wants s g w0 rest 0 false (more b ms))
        → Wants s g w0 (ts ++ rest) 0 false b
    mixed_want {cs = cs} nothing_mixed few st rest b f = subst (λ q. Wants s g w0 rest 0 false q) (more_none b) (f no_member (mixed_none cs) tt tt)
    mixed_want (passed_mixed ms') few st rest b f = mixed_want ms' few st rest b f
    mixed_want {cs = cs} (component_mixed {i = i} {w = w} {ws = ws} {xs = xs} {ts = ts} has a sh ms' with all) few st rest b f =
        let st2 = subst (AreSlicesOf g.message) all st in
        let sx = slices_first g.message xs ts st2 in
        let sy = slices_second g.message xs ts st2 in
        let below = found_below cs i _ has in
        let q = value_wants sh sx (ts ++ rest) i b (λ t e bt sht. mixed_want ms' few sy rest (with_tree i t b)
        (λ ms x bor shm. subst (λ z. Wants s g w0 rest 0 false z) (sym (more_more b i t ms)) (f (member i t ms) (subst (λ z. Mixed (length cs) z (member i t ms)) (sym with) (mixed_more (length cs) ws ms i t w e a below x)) (bt, bor) (shown_more xs ts t ms sht shm (sym all))))) in
        subst (λ z. Wants s g w0 (z ++ rest) 0 false b) (sym all) (omega arith, subst (λ z. Wants s g w0 z i false b) (sym (append_assoc xs ts rest)) q)

    elements_want : {u : TypeNumber} {ws : Row} {ts : List Token} → ShowsElements s u ws ts → AreSlicesOf g.message ts → (rest : List Token) (b : Building)
        → ((ms : ViewMembers) → element_values ms ≡ ws → AreBorrowed g.message ms → AreShown ts (leaves_in ms) → Wants s g w0 rest 0 false (more b ms))
        → Wants s g w0 (ts ++ rest) 0 false b
    elements_want no_element_shown st rest b f = subst (λ q. Wants s g w0 rest 0 false q) (more_none b) (f no_member refl tt tt)
    elements_want (element_shown {w = w} {ws = ws} {xs = xs} {ts = ts} sh es all) st rest b f =
        let st2 = subst (AreSlicesOf g.message) all st in
        let sx = slices_first g.message xs ts st2 in
        let sy = slices_second g.message xs ts st2 in
        let q = value_wants sh sx (ts ++ rest) 0 b (λ t e bt sht. elements_want es sy rest (with_tree 0 t b)
        (λ ms x bor shm. subst (λ z. Wants s g w0 rest 0 false z) (sym (more_more b 0 t ms)) (f (member 0 t ms) (ap (λ z. present z (element_values ms)) e ∙ ap (present w) x) (bt, bor) (shown_next xs ts t ms sht shm (sym all))))) in
        subst (λ z. Wants s g w0 (z ++ rest) 0 false b) (sym all) (subst (λ z. Wants s g w0 z 0 false b) (sym (append_assoc xs ts rest)) q)

pub shown_builds : (s : List Resolved) → IsSchema s → (m : List ℕ) → length m ≤ 16777216 → (t : TypeNumber) (w : AbstractValue) (ts : List Token) → TokensShow s t w ts → AreSlicesOf m ts → Wants s (record { message = m; tokens = ts }) w ts 0 false begun'
shown_builds s schema m short t w ts sh st =
    subst (λ q. Wants s (record { message = m; tokens = ts }) w q 0 false begun') (append-nil ts) (value_wants s schema (record { message = m; tokens = ts }) short w sh st [] 0 begun' (λ t e b c. record { tree = t; whole = refl; shows = e; borrowed = b; shown = c }))

-- the tokens of a message give its tree
pub gives_tree : (s : List Resolved) → IsSchema s → (t : TypeNumber) (o : List ℕ) (ts : List Token) → IsMessage s t o ts → GiveTree s ts
gives_tree s schema t o ts m = record {
  reading = record { message = o; tokens = ts };
  value = m.value;
  wants = shown_builds s schema o m.short t m.value ts m.shown m.slices;
}

as_many : (ts : List Token) → passes ts ≡ skipped_in ts
as_many [] = refl
as_many (passed ∷ ts) = ap suc (as_many ts)
as_many (component i ∷ ts) = as_many ts
as_many (chosen i ∷ ts) = as_many ts
as_many (begun t ∷ ts) = as_many ts
as_many (ended ∷ ts) = as_many ts
as_many (held k c x at ∷ ts) = as_many ts

-- the view of a message that was read
pub viewed : (s : List Resolved) → IsSchema s → (t : TypeNumber) (o : List ℕ) (b : Built) (r : IsRead s (id_of t) o)
    → ((other : IsRead s (id_of t) o) → other.last ≡ r.last)
    → r.last.here.at ≡ length o
    → IsMessage s t o r.last.emitted
    → IsBuiltOf s r.last.emitted b
    → IsViewed s t o b
viewed s schema t o b r one at m v =
    let ts = r.last.emitted in
    let q = v.view (record { message = o; tokens = ts }) m.value (shown_builds s schema o m.short t m.value ts m.shown m.slices) in
    record {
      read = r;
      one = one;
      place = at;
      message = m;
      value = q.0;
      skipped = v.counts ∙ as_many ts ∙ m.counted;
      borrowed = q.1;
      shown = q.2;
    }

pub viewed_value : (s : List Resolved) → IsSchema s → (t : TypeNumber) (o : List ℕ) (b : Built) (ts : List Token) (m : IsMessage s t o ts) → IsBuiltOf s ts b → value_of b.view ≡ m.value
viewed_value s schema t o b ts m v = (v.view (record { message = o; tokens = ts }) m.value (shown_builds s schema o m.short t m.value ts m.shown m.slices)).0
