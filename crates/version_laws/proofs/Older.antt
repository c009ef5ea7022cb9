-- What octets say of a value of a later version, they say of what the earlier type keeps of it.
use Rattle.std.proofs.Common.{arith, ◌≡◌, ℕ, suc, ◌+◌, ◌≤◌, Bool, true, false, List, [], ◌∷◌, ◌++◌, length, refl, sym, ap, subst, ◌∙◌}
use Rattle.std.proofs.lemmas.List.{append-nil}
use Rattle.std.specs.Prelude.{slice_get}
use Rattle.std.specs.List.{concat, AllByRecursion}
use Rattle.asn_base.specs.declared.tag.Tag.{Tag}
use Rattle.asn_base.specs.Abstract.{AbstractValue, fields, list, alternative, Row, end}
use Rattle.asn_base.specs.Names.{IsMember, is_first, is_later}
use Rattle.asn_base.specs.Tags.{First, HasDistinctTags}
use Rattle.asn_base.specs.Types.{Kind, Component, Resolved}
use Rattle.asn_base.specs.Typed.{ValueIn, value_in, ValueOf, of_leaf, of_sequence, of_set, of_sequence_of, of_set_of, of_choice, AreComponents, component_absent, component_present, AreElements, one_element}
use Rattle.asn_base.specs.Schemas.{AreListed, IsSchema, IsSound, is_addition, types_in}
use Rattle.encodings.specs.Rules.{Rules, Basic}
use Rattle.encodings.specs.Header.{HeaderBy}
use Rattle.encodings.specs.Contents.{Contents, of_false, of_true, of_integer, of_enumerated, of_bits, of_named_bits, of_octets, of_null, of_oid, of_relative_oid, of_utf8, of_restricted}
use Rattle.encodings.specs.Orders.{Permutes}
use Rattle.encodings.specs.Encoding.{Framed, bare, innermost, outer, Unknown, no_unknown, unknown, UnknownIf, closed, extensible, last_run, EncodesTo, says, ContentsEncode, leaf, sequence, set, sequence_of, set_of, choice, Members, no_member, left_out as is_absent, member, Elements, no_element, element}
use Rattle.encodings.specs.Levels.{levels, inner_levels, leaf_levels, member_levels, element_levels, unknown_levels}
use Rattle.later_versions.specs.Projected.{members_of, projected, projected_row, projected_elements, left_out, left_out_of_row, left_out_of_elements}
use Rattle.later_versions.specs.Later.{IsLaterKind, later_boolean, later_integer, later_enumerated, later_bit_string, later_named_bits, later_octet_string, later_null, later_object_identifier, later_relative_oid, later_utf8_string, later_restricted_string, later_sequence, later_set, later_sequence_of, later_set_of, later_choice, Later}
use Rattle.version_laws.proofs.Beside.{later_here, members_are, later_members, LaterMembers, types, Beside, appended, beside, beside_of, components_after, after_member, after_additions, all_member, mandatory_same}
use Rattle.version_laws.proofs.Begun.{Begun, begun, levels_some}
use Rattle.version_laws.proofs.Places.{element_at, member_at, kept_none}
use Rattle.version_laws.proofs.Apart.{mapped, NoneFirst, apart_in_run, apart_in_set}
use Rattle.version_laws.proofs.Mixed.{Below, below_rest, below_each, below_framed, all_front, permuted_back, permuted, permuted_long, merged_alone, parted}

-- ---- leaves, headers

basic_header : {q : Rules} {t : Tag} {c : Bool} {n : ℕ} {h : List ℕ} → HeaderBy q t c n h → HeaderBy Basic t c n h
basic_header a = record { header = a.header; fewest = tt }

pub basic_frame : {q : Rules} {ts : List Tag} {c : Bool} {x o : List ℕ} → Framed q ts c x o → Framed Basic ts c x o
basic_frame bare = bare
basic_frame (innermost h) = innermost (basic_header h)
basic_frame (outer f h) = outer (basic_frame f) (basic_header h)

-- contents of a kind that hold a value, with as many unknown additions, and with no more levels than m
pub record Within (s : List Resolved) (k : Kind) (w : AbstractValue) (n : ℕ) (c : Bool) (x : List ℕ) (m : ℕ) : Type 0 where
  pub holds : ContentsEncode s Basic k w n c x
  pub few : inner_levels holds ≤ m

leaf_within : {s : List Resolved} {r : Rules} {k k' : Kind} {w : AbstractValue} {c : Bool} {x : List ℕ} (t : ℕ) → IsLaterKind s k k' → (con : Contents r k' w c x) → Within s k (projected s t w) (left_out s t w) c x (leaf_levels con)
leaf_within t later_boolean of_false = record { holds = leaf of_false; few = omega arith }
leaf_within t later_boolean (of_true a l e) = record { holds = leaf (of_true a l tt); few = omega arith }
leaf_within t (later_integer q) (of_integer a) = record { holds = leaf (of_integer a); few = omega arith }
leaf_within t (later_enumerated q) (of_enumerated a) = record { holds = leaf (of_enumerated a); few = omega arith }
leaf_within t (later_bit_string q) (of_bits a e y) = record { holds = leaf (of_bits a tt tt); few = omega arith }
leaf_within t (later_named_bits q) (of_named_bits a e y z) = record { holds = leaf (of_named_bits a tt tt tt); few = omega arith }
leaf_within t (later_octet_string q) (of_octets a e) = record { holds = leaf (of_octets a tt); few = omega arith }
leaf_within t later_null of_null = record { holds = leaf of_null; few = omega arith }
leaf_within t later_object_identifier (of_oid a) = record { holds = leaf (of_oid a); few = omega arith }
leaf_within t later_relative_oid (of_relative_oid a) = record { holds = leaf (of_relative_oid a); few = omega arith }
leaf_within t (later_utf8_string q) (of_utf8 a e) = record { holds = leaf (of_utf8 a tt); few = omega arith }
leaf_within t (later_restricted_string q) (of_restricted a e) = record { holds = leaf (of_restricted a tt); few = omega arith }
leaf_within t (later_sequence q) con = elim con [ ]
leaf_within t (later_set q) con = elim con [ ]
leaf_within t (later_sequence_of q) con = elim con [ ]
leaf_within t (later_set_of q) con = elim con [ ]
leaf_within t (later_choice q f) con = elim con [ ]

within_at : {s : List Resolved} {k : Kind} {v w : AbstractValue} {i j : ℕ} {c : Bool} {x y : List ℕ} {m : ℕ} → v ≡ w → i ≡ j → x ≡ y → Within s k v i c x m → Within s k w j c y m
within_at {s} {k} {v} {w} {i} {j} {c} {x} {y} {m} e f g h =
    subst (λ q. Within s k w j c q m) g (subst (λ q. Within s k w q c x m) f (subst (λ q. Within s k q i c x m) e h))

-- an encoding of an addition that was appended
pub record IsRest (s' : List Resolved) (ds : List Component) (x : List ℕ) : Type 0 where
  pub component : Component
  pub is_so : IsMember component ds
  pub begun : Begun s' component.type x
  pub below : Below x

unknown_rests : (s s' : List Resolved) (ds known : List Component) → ((d : Component) (g : Tag) → IsMember d ds → First s' d.type g → NoneFirst s g known) → (xs : List (List ℕ)) → AllByRecursion (IsRest s' ds) xs → Unknown s known (length xs) xs
unknown_rests s s' ds known none [] a = no_unknown
unknown_rests s s' ds known none (x ∷ xs) a =
    let r = a.0 in
    let b = r.begun in
    subst (λ q. Unknown s known (suc (length xs)) (q ∷ xs)) (sym b.whole)
    (unknown b.contents b.is_header (below_rest b.header b.contents (subst Below b.whole r.below)) (none r.component b.tag r.is_so b.is_first) (unknown_rests s s' ds known none xs a.1))

unknown_if : {s : List Resolved} {known : List Component} (s' : List Resolved) (ds : List Component) (e : Bool) (xs : List (List ℕ)) → (e ≡ false → (x : List ℕ) → IsRest s' ds x → ⊥) → AllByRecursion (IsRest s' ds) xs → Unknown s known (length xs) xs → UnknownIf s known e (length xs) xs
unknown_if s' ds true xs never a u = extensible u
unknown_if s' ds false [] never a u = closed
unknown_if s' ds false (x ∷ xs) never a u = absurd (never refl x a.0)

unknown_few : {s : List Resolved} {known : List Component} {e : Bool} {k : ℕ} {xs : List (List ℕ)} (m : ℕ) (u : UnknownIf s known e k xs) → (1 ≤ k → 1 ≤ m) → unknown_levels u ≤ m
unknown_few m closed f = omega arith
unknown_few m (extensible no_unknown) f = omega arith
unknown_few m (extensible (unknown x h b g u)) f = f (omega arith)

pub none_unknown : {s : List Resolved} {known : List Component} {e : Bool} {k : ℕ} {us : List (List ℕ)} → UnknownIf s known e k us → k ≡ 0 → us ≡ []
none_unknown closed e = refl
none_unknown (extensible no_unknown) e = refl
none_unknown (extensible (unknown x h b f u)) e = absurd (omega (arith, e))

-- without a marker nothing was appended
not_closed : {s s' : List Resolved} {e : Bool} {cs ds : List Component} → Beside s s' cs ds → AreListed s' e ds → e ≡ false → (x : List ℕ) → IsRest s' (components_after cs ds) x → ⊥
not_closed {cs = cs} {ds = ds} b l f x r =
    let whole = l.parts ∙ ap (λ q. l.root ++ q) (l.marked f) ∙ append-nil l.root in
    let none = subst (AllByRecursion (λ c. is_addition c ≡ false)) (sym whole) l.in_root in
    let no = all_member (λ c. is_addition c ≡ false) ds none (after_member cs ds r.is_so) in
    let yes = all_member (λ c. is_addition c ≡ true) (components_after cs ds) (after_additions b) r.is_so in
    let z : false ≡ true = sym no ∙ yes in cc

-- the components of the earlier version, and the encodings of those that were appended
pub record MembersWithin (s s' : List Resolved) (cs ds : List Component) (ws : Row) (xs : List (List ℕ)) (m : ℕ) : Type 0 where
  pub known : List (List ℕ)
  pub more : List (List ℕ)
  pub parts : xs ≡ known ++ more
  pub count : ℕ
  pub members : Members s Basic cs (projected_row s (types cs) ws) count known
  pub counted : count + length more ≡ left_out_of_row s (types cs) ws
  pub few : member_levels members ≤ m
  pub some : 1 ≤ length more → 1 ≤ m
  pub rests : AllByRecursion (IsRest s' (components_after cs ds)) more

pub record ElementsWithin (s : List Resolved) (u : ℕ) (ws : Row) (n : ℕ) (xs : List (List ℕ)) (m : ℕ) : Type 0 where
  pub elements : Elements s Basic u ws n xs
  pub few : element_levels elements ≤ m

pub record SaysWithin (s : List Resolved) (t : ℕ) (w : AbstractValue) (n : ℕ) (o : List ℕ) (m : ℕ) : Type 0 where
  pub says_it : EncodesTo s Basic t w n o
  pub few : levels says_it ≤ m

-- all encodings after the components of the earlier version are rests
record AreRests (s' : List Resolved) (s : List Resolved) (ds : List Component) (ws : Row) (xs : List (List ℕ)) (m : ℕ) : Type 0 where
  counted : length xs ≡ left_out_of_row s [] ws
  some : 1 ≤ length xs → 1 ≤ m
  rests : AllByRecursion (IsRest s' ds) xs

wider : (s' : List Resolved) (d : Component) (ds : List Component) (xs : List (List ℕ)) → AllByRecursion (IsRest s' ds) xs → AllByRecursion (IsRest s' (d ∷ ds)) xs
wider s' d ds [] a = tt
wider s' d ds (x ∷ xs) a = (
  record { component = a.0.component; is_so = is_later a.0.is_so; begun = a.0.begun; below = a.0.below },
  wider s' d ds xs a.1,
)

module _ (s s' : List Resolved) (schema : IsSchema s') where
  all_rests : {r : Rules} {ds : List Component} {ws : Row} {j : ℕ} {xs : List (List ℕ)} → (ms : Members s' r ds ws j xs) → AllByRecursion Below xs → AreRests s' s ds ws xs (member_levels ms)
  all_rests no_member b = record { counted = refl; some = λ l. absurd (omega arith); rests = tt }
  all_rests (is_absent {c = c} {cs = cs} {xs = xs} f ms) b =
      let r = all_rests ms b in
      record { counted = r.counted; some = r.some; rests = wider s' c cs xs r.rests }
  all_rests (member {c = c} {cs = cs} {xs = xs} a st ms) b =
      let r = all_rests ms b.1 in
      let l = levels_some schema.tagged a in
      record {
        counted = ap suc r.counted;
        some = λ q. omega (arith, l);
        rests = (record { component = c; is_so = is_first; begun = begun schema.tagged a; below = b.0 }, wider s' c cs xs r.rests);
      }

  none_high : {w : Row} (e : end ≡ w) (m : ℕ) → member_levels (subst (λ y. Members s Basic [] y 0 []) e no_member) ≤ m
  none_high e m = by (subst (λ y. Members s Basic [] y 0 []) e no_member)
    where
      by : {w : Row} {n : ℕ} {xs : List (List ℕ)} (ms : Members s Basic [] w n xs) → member_levels ms ≤ m
      by no_member = omega arith

  mutual
    pub older : {r : Rules} {t t' n m : ℕ} {w : AbstractValue} {o : List ℕ} → Later s t s' t' → (d : EncodesTo s' r t' w n o) → ValueIn s m t (projected s t w) → n ≡ 0 → Below o → SaysWithin s t (projected s t w) (left_out s t w) o (levels d)
    older {t = t} {w = w} {o = o} l (says {tags = ts'} {k = k'} {c = c} {x = x} j h f) (value_in {tags = ts} {k = k} i v) z b =
        let e = later_here l i j in
        let within = holds_older t (members_are i) (later_members l i j) e.kind h v (schema.sound _ _ _ j) (schema.distinct_tags _ _ _ j) z (below_framed f b) in
        let frame = subst (λ q. Framed Basic q c x o) (sym e.tags) (basic_frame f) in
        let q = ap length e.tags in
        let few = within.few in
        record { says_it = says i within.holds frame; few = omega (arith, q, few) }

    holds_older : {r : Rules} {k k' : Kind} {n m : ℕ} {w : AbstractValue} {c : Bool} {x : List ℕ} (t : ℕ) → members_of s t ≡ types_in k → LaterMembers s s' (types_in k) (types_in k') → IsLaterKind s k k' → (h : ContentsEncode s' r k' w n c x) → ValueOf s m k (projected s t w) → IsSound s' k' → HasDistinctTags s' k' → n ≡ 0 → Below x → Within s k (projected s t w) (left_out s t w) c x (inner_levels h)
    holds_older t q ms kind (leaf con) v sound apart z b = leaf_within t kind con
    holds_older {m = m} t q ms (later_sequence {e = e} {cs = cs} {ds = ds} a) (sequence {ws = ws} {xs = xs} {us = us} p u) (of_sequence v g) sound apart z b =
        let side : Beside s s' cs ds = beside_of cs ds a.front.none_dropped a.front.projected a.appended ms in
        let no_us = none_unknown u (omega arith) in
        let each = all_front Below xs us (below_each (xs ++ us) b) in
        let r = members_older side p (subst (λ y. AreComponents s m cs (projected_row s y ws)) q v) (omega arith) each in
        let un = unknown_rests s s' (components_after cs ds) (last_run cs) (λ d y m f. apart_in_run schema side apart sound.types m f) r.more r.rests in
        let lacks = unknown_if s' (components_after cs ds) e r.more (λ f. not_closed side sound f) r.rests un in
        let more = unknown_few (member_levels p) lacks r.some in
        let few = r.few in
        within_at (ap (λ y. fields (projected_row s y ws)) (sym q)) (r.counted ∙ ap (λ y. left_out_of_row s y ws) (sym q))
        (ap concat (sym r.parts ∙ sym (append-nil xs) ∙ ap (λ y. xs ++ y) (sym no_us)))
        (record { holds = sequence r.members lacks; few = omega (arith, few, more) })
    holds_older {m = m} t q ms (later_set {e = e} {cs = cs} {ds = ds} a) (set {ws = ws} {xs = xs} {zs = zs} {us = us} {ys = ys} p pe st u mg) (of_set v g) sound apart z b =
        let side : Beside s s' cs ds = beside_of cs ds a.front.none_dropped a.front.projected a.appended ms in
        let no_us = none_unknown u (omega arith) in
        let alone = merged_alone mg no_us in
        let each = permuted_back Below pe (subst (AllByRecursion Below) alone (below_each ys b)) in
        let r = members_older side p (subst (λ y. AreComponents s m cs (projected_row s y ws)) q v) (omega arith) each in
        let two = parted r.known r.more (subst (λ y. Permutes y zs) r.parts pe) in
        let rests = permuted (IsRest s' (components_after cs ds)) two.second r.rests in
        let un = unknown_rests s s' (components_after cs ds) cs (λ d y m f. apart_in_set schema side apart sound.0.types m f) two.more rests in
        let lacks = unknown_if s' (components_after cs ds) e two.more (λ f. not_closed side sound.0 f) rests un in
        let long = permuted_long two.second in
        let more = unknown_few (member_levels p) lacks (λ l. r.some (omega (arith, long, l))) in
        let few = r.few in
        within_at (ap (λ y. fields (projected_row s y ws)) (sym q)) (ap (λ y. r.count + y) long ∙ r.counted ∙ ap (λ y. left_out_of_row s y ws) (sym q))
        (ap concat (sym alone))
        (record { holds = set r.members two.first tt lacks two.merged; few = omega (arith, few, more) })
    holds_older {m = m} t q ms (later_sequence_of {u = u} {v = u'} ls) (sequence_of {ws = ws} {xs = xs} es) (of_sequence_of v g) sound apart z b =
        let at = element_at s t u q in
        let r = elements_older (ms 0 u u' refl refl) es (subst (λ y. AreElements s m u (projected_elements s y ws)) at v) z (below_each xs b) in
        within_at (ap (λ y. list (projected_elements s y ws)) (sym at)) (ap (λ y. left_out_of_elements s y ws) (sym at)) refl
        (record { holds = sequence_of r.elements; few = r.few })
    holds_older {m = m} t q ms (later_set_of {u = u} {v = u'} ls) (set_of {ws = ws} {xs = xs} es st) (of_set_of v g) sound apart z b =
        let at = element_at s t u q in
        let r = elements_older (ms 0 u u' refl refl) es (subst (λ y. AreElements s m u (projected_elements s y ws)) at v) z (below_each xs b) in
        within_at (ap (λ y. list (projected_elements s y ws)) (sym at)) (ap (λ y. left_out_of_elements s y ws) (sym at)) refl
        (record { holds = set_of r.elements tt; few = r.few })
    holds_older {m = m} t q ms (later_choice {e = e} {root = root} {others = others} {more = more} {all = all} names front) (choice {i = i} {a = a'} {w = w} g' d) (of_choice {a = a} g v) sound apart z b =
        let here = mapped (λ y. y.type) (root ++ more) i g in
        let there = mapped (λ y. y.type) (others ++ all) i g' in
        let at = member_at s t i a.type (ap (λ y. slice_get y i) q ∙ here) in
        let r = older (ms i a.type a'.type here there) d (subst (λ y. ValueIn s m a.type (projected s y w)) at v) z b in
        within_at (ap (λ y. alternative i (projected s y w)) (sym at)) (ap (λ y. left_out s y w) (sym at)) refl
        (record { holds = choice g r.says_it; few = r.few })
    holds_older t q ms (later_sequence a) (sequence p u) (of_leaf f) sound apart z b = elim f [ ]
    holds_older t q ms (later_set a) (set p pe st u mg) (of_leaf f) sound apart z b = elim f [ ]
    holds_older t q ms (later_sequence_of ls) (sequence_of es) (of_leaf f) sound apart z b = elim f [ ]
    holds_older t q ms (later_set_of ls) (set_of es st) (of_leaf f) sound apart z b = elim f [ ]
    holds_older t q ms (later_choice names front) (choice g d) (of_leaf f) sound apart z b = elim f [ ]

    members_older : {r : Rules} {cs ds : List Component} {ws : Row} {j m : ℕ} {xs : List (List ℕ)} → Beside s s' cs ds → (ms : Members s' r ds ws j xs) → AreComponents s m cs (projected_row s (types cs) ws) → j ≡ 0 → AllByRecursion Below xs → MembersWithin s s' cs ds ws xs (member_levels ms)
    members_older {ws = ws} {xs = xs} (appended a) ms v z b =
        let r = all_rests ms b in
        record {
          known = [];
          more = xs;
          parts = refl;
          count = 0;
          members = subst (λ y. Members s Basic [] y 0 []) (sym (kept_none s ws)) no_member;
          counted = (let e = r.counted in omega (arith, e));
          few = none_high (sym (kept_none s ws)) (member_levels ms);
          some = r.some;
          rests = r.rests;
        }
    members_older (beside {c = c} {d = d} l mk bs) (is_absent f ms) (component_absent mb v) z b =
        let r = members_older bs ms v z b in
        record {
          known = r.known;
          more = r.more;
          parts = r.parts;
          count = r.count;
          members = is_absent (mandatory_same c d mk ∙ f) r.members;
          counted = r.counted;
          few = r.few;
          some = r.some;
          rests = r.rests;
        }
    members_older (beside {c = c} {d = d} {cs = cs} l mk bs) (member {w = w} {ws = ws} {x = x} a st ms) (component_present v vs) z b =
        let one = older l a v (omega arith) b.0 in
        let r = members_older bs ms vs (omega arith) b.1 in
        let few = one.few in
        let rest = r.few in
        let counted = r.counted in
        record {
          known = x ∷ r.known;
          more = r.more;
          parts = ap (λ y. x ∷ y) r.parts;
          count = left_out s c.type w + r.count;
          members = member one.says_it tt r.members;
          counted = omega (arith, counted);
          few = omega (arith, few, rest);
          some = λ q. (let p = r.some q in omega (arith, p));
          rests = r.rests;
        }

    elements_older : {r : Rules} {u u' n m : ℕ} {ws : Row} {xs : List (List ℕ)} → Later s u s' u' → (es : Elements s' r u' ws n xs) → AreElements s m u (projected_elements s u ws) → n ≡ 0 → AllByRecursion Below xs → ElementsWithin s u (projected_elements s u ws) (left_out_of_elements s u ws) xs (element_levels es)
    elements_older l no_element v z b = record { elements = no_element; few = omega arith }
    elements_older l (element a es) (one_element v vs) z b =
        let one = older l a v (omega arith) b.0 in
        let r = elements_older l es vs (omega arith) b.1 in
        let few = one.few in
        let rest = r.few in
        record { elements = element one.says_it r.elements; few = omega (arith, few, rest) }
