-- Components and elements, taken one by one.
use Rattle.std.proofs.Common.{arith, ◌≡◌, ℕ, ◌+◌, ◌≤◌, ◌⊎◌, inl, inr, ⊎_elim, Bool, true, List, [], ◌∷◌, ◌++◌, length, drop, refl, sym, ap, subst, ◌∙◌, length-append}
use Rattle.std.proofs.lemmas.Bool.{eqb-true, eq-eqb}
use Rattle.std.specs.Prelude.{◌↔◌, ◌==◌, IsTrue, Option, Some, None, slice_get}
use Rattle.std.specs.List.{concat}
use Rattle.asn_base.specs.declared.tag.Tag.{Tag}
use Rattle.asn_base.specs.Abstract.{AbstractValue, Row, end, absent, present, row_of_options}
use Rattle.asn_base.specs.Types.{TypeNumber, Component, Resolved}
use Rattle.asn_base.specs.Typed.{ValueIn, AreComponents, component_absent, component_present, AreElements, one_element}
use Rattle.encodings.specs.Rules.{Rules, Basic, Distinguished}
use Rattle.encodings.specs.Orders.{Ascending, InTagOrder}
use Rattle.encodings.specs.Encoding.{EncodesTo, Members, no_member, left_out, member, Elements, no_element, element}
use Rattle.codec_code.specs.declared.step.Step.{Step}
use Rattle.der_check.specs.Units.{IsUnit, AreUnits}
use Rattle.der_check.specs.declared.rule.Breach.{Breach}
use Rattle.der_check.specs.declared.rule.RuleOfDer.{RuleOfDer}
use Rattle.der_check.specs.Broken.{Breaks, MemberBreaks, StartsAt, HasMember, member_first, after_absent, after_present, HasElement, element_first, element_later}
use Rattle.der_check.specs.Places.{Has, has_first, has_later, IsOnly, ArePlaced, placed_absent, placed_present}
use Rattle.der_check.specs.Strict.{ValueGiven, ElementsGiven, StepsGiven, SequenceGiven, SetGiven, MemberBy, PartBreaks, PartBreaksIn, PartGiven, PartBy, ComesFirst, IsAmong, SequenceBy, SetBy}
use Rattle.der_check.proofs.Orders.{at_zero}
use Rattle.der_check.proofs.Split.{unit_some, drop_next}

none_some : {A : Type 0} {x : A} → None ≡ Some x → ⊥
none_some e = cc

-- ---- components

-- The members that are left, of a whole with these components, this row and these encodings. What is left is encoded by
-- the distinguished rules exactly if the whole is, unless a rule was found broken. Whether additions were skipped so far
-- is known. The encodings that are left start at an offset.
pub record MembersLeft (s : List Resolved) (n : ℕ) (cs : List Component) (ws : Row) (xs : List (List ℕ)) (i : ℕ) (os : List (Option AbstractValue)) (todo : List (List ℕ)) (whole : Bool) (fine : Type 0) (start : ℕ) : Type 0 where
  pub left : List Component
  pub is_left : drop i cs ≡ left
  pub values : AreComponents s n left (row_of_options os)
  pub count : ℕ
  pub says_them : Members s Basic left (row_of_options os) count todo
  pub forth : fine → (j : ℕ) → Members s Distinguished cs ws j xs → (k : ℕ) × Members s Distinguished left (row_of_options os) k todo
  pub back : fine → (k : ℕ) → Members s Distinguished left (row_of_options os) k todo → (j : ℕ) × Members s Distinguished cs ws j xs × ((j ≡ 0) ↔ (IsTrue whole × (k ≡ 0)))
  pub placed : (c : Component) (w : AbstractValue) (x : List ℕ) (m : ℕ) → HasMember left (row_of_options os) todo c w x m → HasMember cs ws xs c w x (start + m)
  pub only : fine → (c : Component) (w : AbstractValue) (x : List ℕ) (m : ℕ) (q : RuleOfDer) (n : ℕ) → HasMember cs ws xs c w x m → MemberBreaks s c w x q n → (p : ℕ) × HasMember left (row_of_options os) todo c w x p × (m ≡ start + p)

pub members_begin : {s : List Resolved} {n k : ℕ} {cs : List Component} {os : List (Option AbstractValue)} {xs : List (List ℕ)} {fine : Type 0} → AreComponents s n cs (row_of_options os) → Members s Basic cs (row_of_options os) k xs → MembersLeft s n cs (row_of_options os) xs 0 os xs true fine 0
members_begin {k = k} {cs = cs} {os = os} {xs = xs} v m = record {
  left = cs;
  is_left = refl;
  values = v;
  count = k;
  says_them = m;
  forth = λ y j d. (j, d);
  back = λ y j d. (j, d, (λ e. (refl, e), λ e. e.1));
  placed = λ c w x n h. at_zero (HasMember cs (row_of_options os) xs c w x) n h;
  only = λ y c w x m q n h b. (m, h, omega arith);
}

pub members_end : {s : List Resolved} {n i start : ℕ} {cs : List Component} {ws : Row} {xs todo : List (List ℕ)} {os : List (Option AbstractValue)} {whole : Bool} {fine : Type 0} → MembersLeft s n cs ws xs i os todo whole fine start → fine → os ≡ [] → (todo ≡ []) × ((j : ℕ) × Members s Distinguished cs ws j xs × (IsTrue whole ↔ (j ≡ 0)))
members_end {s} {os = []} {whole = whole} m y e = by m.says_them (m.back y)
  where
    by : {left : List Component} {k : ℕ} {todo : List (List ℕ)} {cs : List Component} {ws : Row} {xs : List (List ℕ)} → Members s Basic left end k todo → ((k : ℕ) → Members s Distinguished left end k todo → (j : ℕ) × Members s Distinguished cs ws j xs × ((j ≡ 0) ↔ (IsTrue whole × (k ≡ 0)))) → (todo ≡ []) × ((j : ℕ) × Members s Distinguished cs ws j xs × (IsTrue whole ↔ (j ≡ 0)))
    by no_member b = let r = b 0 no_member in (refl, (r.0, r.1, (λ w. r.2.1 (w, refl), λ z. (r.2.0 z).0)))
members_end {os = o ∷ os} m y e = absurd (let l = ap length e in omega arith)

-- the encoding of a part comes first, if it has one
abbrev pub IsFront : Option AbstractValue → List ℕ → List (List ℕ) → List (List ℕ) → Type 0
IsFront None x more todo = todo ≡ more
IsFront (Some v) x more todo = todo ≡ x ∷ more

abbrev pub IsSaid : List Resolved → ℕ → Component → Option AbstractValue → List ℕ → Type 0
IsSaid s n c None x = Unit {0}
IsSaid s n c (Some v) x = ValueIn s n c.type v × ((k : ℕ) × EncodesTo s Basic c.type v k x)

-- the encoding of a part is at this offset, if it has one
abbrev pub HasPart : List Component → Row → List (List ℕ) → Component → Option AbstractValue → List ℕ → ℕ → Type 0
HasPart cs ws xs c None x n = Unit {0}
HasPart cs ws xs c (Some v) x n = HasMember cs ws xs c v x n

-- how many octets it has
abbrev pub part_length : Option AbstractValue → List ℕ → ℕ
part_length None x = 0
part_length (Some v) x = length x

-- the next component
pub record Taken (s : List Resolved) (n : ℕ) (cs : List Component) (ws : Row) (xs : List (List ℕ)) (i : ℕ) (o : Option AbstractValue) (os : List (Option AbstractValue)) (todo : List (List ℕ)) (whole : Bool) (fine : Type 0) (start : ℕ) : Type 0 where
  pub component : Component
  pub others : List Component
  pub left_is : drop i cs ≡ component ∷ others
  pub others_is : drop (i + 1) cs ≡ others
  pub encoding : List ℕ
  pub more : List (List ℕ)
  pub is_at : slice_get cs i ≡ Some component
  pub front : IsFront o encoding more todo
  pub said : IsSaid s n component o encoding
  pub has : HasPart cs ws xs component o encoding start
  pub only : fine → (c : Component) (w : AbstractValue) (y : List ℕ) (m : ℕ) (q : RuleOfDer) (n : ℕ) → HasMember cs ws xs c w y m → MemberBreaks s c w y q n → (PartBreaks s component o encoding q n × (m ≡ start)) ⊎ (start + part_length o encoding ≤ m)
  pub next : (j : ℕ) (part after : Bool) → PartBy s component o encoding j → (IsTrue part ↔ (j ≡ 0)) → (IsTrue after ↔ (IsTrue whole × IsTrue part)) → MembersLeft s n cs ws xs (i + 1) os more after fine (start + part_length o encoding)
  pub refused : fine → ((j : ℕ) → PartBy s component o encoding j → ⊥) → (j : ℕ) → Members s Distinguished cs ws j xs → ⊥
  pub pass : (after : Bool) → MembersLeft s n cs ws xs (i + 1) os more after ⊥ (start + part_length o encoding)

value_absent : {s : List Resolved} {n : ℕ} {c : Component} {cs : List Component} {vs : Row} → AreComponents s n (c ∷ cs) (absent vs) → AreComponents s n cs vs
value_absent (component_absent m a) = a

value_present : {s : List Resolved} {n : ℕ} {c : Component} {cs : List Component} {v : AbstractValue} {vs : Row} → AreComponents s n (c ∷ cs) (present v vs) → ValueIn s n c.type v × AreComponents s n cs vs
value_present (component_present v a) = (v, a)

rest_absent : {s : List Resolved} {r : Rules} {c : Component} {cs : List Component} {vs : Row} {n : ℕ} {xs : List (List ℕ)} → Members s r (c ∷ cs) (absent vs) n xs → Members s r cs vs n xs
rest_absent (left_out m ms) = ms

-- the first member by the distinguished rules, and the others
record FirstMember (s : List Resolved) (c : Component) (cs : List Component) (v : AbstractValue) (vs : Row) (x : List ℕ) (xs : List (List ℕ)) : Type 0 where
  one : ℕ
  others : ℕ
  by : MemberBy s c v x one
  rest : Members s Distinguished cs vs others xs

first_member : {s : List Resolved} {c : Component} {cs : List Component} {v : AbstractValue} {vs : Row} {n : ℕ} {x : List ℕ} {xs : List (List ℕ)} → Members s Distinguished (c ∷ cs) (present v vs) n (x ∷ xs) → FirstMember s c cs v vs x xs
first_member (member {j = j} {n = n} a nd ms) = record { one = j; others = n; by = record { says_it = a; no_default = nd }; rest = ms }

-- the places of the members after the first one
later_absent : {c : Component} {cs all : List Component} {ws vs : Row} {xs todo : List (List ℕ)} (start : ℕ) → ((d : Component) (w : AbstractValue) (x : List ℕ) (m : ℕ) → HasMember (c ∷ cs) (absent vs) todo d w x m → HasMember all ws xs d w x (start + m)) → (d : Component) (w : AbstractValue) (x : List ℕ) (m : ℕ) → HasMember cs vs todo d w x m → HasMember all ws xs d w x ((start + 0) + m)
later_absent {all = all} {ws = ws} {xs = xs} start p d w x m h = subst (λ q. HasMember all ws xs d w x (q + m)) (let e : start ≡ start + 0 = omega arith in e) (p d w x m (after_absent h))

later_present : {c : Component} {cs all : List Component} {v : AbstractValue} {ws vs : Row} {y : List ℕ} {xs todo : List (List ℕ)} (start : ℕ) → ((d : Component) (w : AbstractValue) (x : List ℕ) (m : ℕ) → HasMember (c ∷ cs) (present v vs) (y ∷ todo) d w x m → HasMember all ws xs d w x (start + m)) → (d : Component) (w : AbstractValue) (x : List ℕ) (m : ℕ) → HasMember cs vs todo d w x m → HasMember all ws xs d w x ((start + length y) + m)
later_present {all = all} {ws = ws} {y = y} {xs = xs} start p d w x m h = subst (HasMember all ws xs d w x) (let e : start + (length y + m) ≡ (start + length y) + m = omega arith in e) (p d w x (length y + m) (after_present h))

first_here : {cs : List Component} {ws : Row} {xs : List (List ℕ)} {c : Component} {v : AbstractValue} {x : List ℕ} (start : ℕ) → HasMember cs ws xs c v x (start + 0) → HasMember cs ws xs c v x start
first_here {cs} {ws} {xs} {c} {v} {x} start h = subst (HasMember cs ws xs c v x) (let e : start + 0 ≡ start = omega arith in e) h

-- a component that breaks a rule isn't encoded by the distinguished rules
abbrev pub MemberNot : List Resolved → Type 0
MemberNot s = (c : Component) (v : AbstractValue) (x : List ℕ) (r : RuleOfDer) (j n : ℕ) → MemberBreaks s c v x r n → MemberBy s c v x j → ⊥

rest_member : {c d : Component} {cs : List Component} {vs : Row} {xs : List (List ℕ)} {w : AbstractValue} {x : List ℕ} {p : ℕ} → HasMember (c ∷ cs) (absent vs) xs d w x p → HasMember cs vs xs d w x p
rest_member (after_absent h) = h

not_first : {s : List Resolved} {c d : Component} {cs : List Component} {v w : AbstractValue} {vs : Row} {x y : List ℕ} {xs : List (List ℕ)} {p n : ℕ} {q : RuleOfDer} → ((r : RuleOfDer) (m : ℕ) → MemberBreaks s c v y r m → ⊥) → HasMember (c ∷ cs) (present v vs) (y ∷ xs) d w x p → MemberBreaks s d w x q n → (k : ℕ) × HasMember cs vs xs d w x k × (p ≡ length y + k)
not_first {n = n} {q = q} f member_first b = absurd (f q n b)
not_first f (after_present {n = k} h) b = (k, h, refl)

which : {s : List Resolved} {c d : Component} {cs : List Component} {v w : AbstractValue} {vs : Row} {x y : List ℕ} {xs : List (List ℕ)} {p n : ℕ} {q : RuleOfDer} (start m : ℕ) → m ≡ start + p → HasMember (c ∷ cs) (present v vs) (y ∷ xs) d w x p → MemberBreaks s d w x q n → (MemberBreaks s c v y q n × (m ≡ start)) ⊎ (start + length y ≤ m)
which start m e member_first b = inl (b, omega (arith, e))
which start m e (after_present h) b = inr (omega (arith, e))

pub take_member : {s : List Resolved} {n i start : ℕ} {cs : List Component} {ws : Row} {xs todo : List (List ℕ)} (o : Option AbstractValue) (os : List (Option AbstractValue)) {all : List (Option AbstractValue)} {whole : Bool} {fine : Type 0} → MemberNot s → MembersLeft s n cs ws xs i all todo whole fine start → all ≡ o ∷ os → Taken s n cs ws xs i o os todo whole fine start
take_member {s} {n} {i} {start} {cs} {ws} {xs} {todo} o os {whole = whole} {fine = fine} nb m e =
    by o m.is_left (subst (λ q. AreComponents s n m.left (row_of_options q)) e m.values) (subst (λ q. Members s Basic m.left (row_of_options q) m.count todo) e m.says_them)
    (λ y j d. let f = m.forth y j d in (f.0, subst (λ q. Members s Distinguished m.left (row_of_options q) f.0 todo) e f.1))
    (λ y k d. m.back y k (subst (λ q. Members s Distinguished m.left (row_of_options q) k todo) (sym e) d))
    (λ c w x k h. m.placed c w x k (subst (λ q. HasMember m.left (row_of_options q) todo c w x k) (sym e) h))
    (λ y c w x k q n h b. let r = m.only y c w x k q n h b in (r.0, subst (λ q. HasMember m.left (row_of_options q) todo c w x r.0) e r.1, r.2))
  where
    by : {left : List Component} {count : ℕ} {todo : List (List ℕ)} (o : Option AbstractValue) → drop i cs ≡ left → AreComponents s n left (row_of_options (o ∷ os)) → Members s Basic left (row_of_options (o ∷ os)) count todo
        → (fine → (j : ℕ) → Members s Distinguished cs ws j xs → (k : ℕ) × Members s Distinguished left (row_of_options (o ∷ os)) k todo)
        → (fine → (k : ℕ) → Members s Distinguished left (row_of_options (o ∷ os)) k todo → (j : ℕ) × Members s Distinguished cs ws j xs × ((j ≡ 0) ↔ (IsTrue whole × (k ≡ 0))))
        → ((c : Component) (w : AbstractValue) (x : List ℕ) (m : ℕ) → HasMember left (row_of_options (o ∷ os)) todo c w x m → HasMember cs ws xs c w x (start + m))
        → (fine → (c : Component) (w : AbstractValue) (x : List ℕ) (m : ℕ) (q : RuleOfDer) (n : ℕ) → HasMember cs ws xs c w x m → MemberBreaks s c w x q n → (p : ℕ) × HasMember left (row_of_options (o ∷ os)) todo c w x p × (m ≡ start + p))
        → Taken s n cs ws xs i o os todo whole fine start
    by {count = count} {todo = todo} None d v (left_out {c = c} {cs = ds} man ms) f b q on =
        let at = drop_next cs i d in
        record {
          component = c;
          others = ds;
          left_is = d;
          others_is = at.1;
          encoding = [];
          more = todo;
          is_at = at.0;
          front = refl;
          said = tt;
          has = tt;
          only = λ y d' w' x' m' q' n' h b'. let r = on y d' w' x' m' q' n' h b' in let e' = r.2 in inr (omega (arith, e'));
          next = λ j part after z p w. record {
            left = ds;
            is_left = at.1;
            values = value_absent v;
            count = count;
            says_them = ms;
            forth = λ y k dm. let g = f y k dm in (g.0, rest_absent g.1);
            back = λ y k dm. let g = b y k (left_out man dm) in (g.0, g.1, (λ q. let h = g.2.0 q in (w.1 (h.0, p.1 z), h.1), λ q. g.2.1 ((w.0 q.0).0, q.1)));
            placed = later_absent start q;
            only = λ y d' w' x' m' q' n' h b'. let r = on y d' w' x' m' q' n' h b' in (r.0, rest_member r.1, let e' = r.2 in omega (arith, e'));
          };
          refused = λ y no j dm. no 0 refl;
          pass = λ after. record {
            left = ds;
            is_left = at.1;
            values = value_absent v;
            count = count;
            says_them = ms;
            forth = λ y. absurd y;
            back = λ y. absurd y;
            only = λ y. absurd y;
            placed = later_absent start q;
          };
        }
    by (Some u) d v (member {c = c} {cs = ds} {j = k1} {n = k2} {x = x} {xs = more} a nd ms) f b q on =
        let at = drop_next cs i d in
        let vs = value_present v in
        record {
          component = c;
          others = ds;
          left_is = d;
          others_is = at.1;
          encoding = x;
          more = more;
          is_at = at.0;
          front = refl;
          said = (vs.0, (k1, a));
          has = first_here start (q c u x 0 member_first);
          only = λ y d' w' x' m' q' n' h b'. let r = on y d' w' x' m' q' n' h b' in which start m' r.2 r.1 b';
          next = λ j part after z p w. record {
            left = ds;
            is_left = at.1;
            values = vs.1;
            count = k2;
            says_them = ms;
            forth = λ y k dm. let g = first_member (f y k dm).1 in (g.others, g.rest);
            back = λ y k dm. let g = b y (j + k) (member z.says_it z.no_default dm) in (
              g.0,
              g.1,
              (
                λ q. let h = g.2.0 q in let hz = h.1 in (w.1 (h.0, p.1 (omega arith)), omega arith),
                λ q. let y = w.0 q.0 in let jz = p.0 y.1 in let kz = q.1 in g.2.1 (y.0, omega arith),
              ),
            );
            placed = later_present start q;
            only = λ y d' w' x' m' q' n' h b'. let r = on y d' w' x' m' q' n' h b' in let k' = not_first (λ r' n2 bb. nb c u x r' j n2 bb z) r.1 b' in (k'.0, k'.1, let e' = r.2 in let g' = k'.2 in omega (arith, e', g'));
          };
          refused = λ y no j dm. let g = first_member (f y j dm).1 in no g.one g.by;
          pass = λ after. record {
            left = ds;
            is_left = at.1;
            values = vs.1;
            count = k2;
            says_them = ms;
            forth = λ y. absurd y;
            back = λ y. absurd y;
            only = λ y. absurd y;
            placed = later_present start q;
          };
        }

-- what is given of the next component
pub part_given : {s : List Resolved} {t : TypeNumber} {n : ℕ} {ss : List Step} {cs : List Component} {c : Component} (i : ℕ) (x : List ℕ) (o : Option AbstractValue) → n ≤ 64 → StepsGiven s t ss cs → slice_get cs i ≡ Some c → IsSaid s n c o x → length x ≤ 16777216 → PartGiven s t n ss o i c x
part_given i x None few st at a l = tt
part_given {cs = cs} i x (Some v) few st at a l = record { all = cs; steps = st; is_at = at; given = record { few = few; value = a.0; count = a.1.0; says_it = a.1.1; short = l } }

-- ---- in a SEQUENCE

pub record SequenceLeft (s : List Resolved) (n : ℕ) (cs : List Component) (ws : Row) (xs us : List (List ℕ)) (i : ℕ) (os : List (Option AbstractValue)) (whole : Bool) (rest : List ℕ) (total : ℕ) : Type 0 where
  pub todo : List (List ℕ)
  pub start : ℕ
  pub members : MembersLeft s n cs ws xs i os todo whole (Unit {0}) start
  pub units : AreUnits (todo ++ us) rest
  pub reached : start + length rest ≡ total

pub sequence_begin : {s : List Resolved} {t : TypeNumber} {n : ℕ} {ss : List Step} {os : List (Option AbstractValue)} {cs : List Component} {xs us : List (List ℕ)} {o : List ℕ} → SequenceGiven s t n ss os cs xs us o → SequenceLeft s n cs (row_of_options os) xs us 0 os true o (length o)
sequence_begin {xs = xs} g = record { todo = xs; start = 0; members = members_begin g.values g.says_them; units = g.units; reached = omega arith }

-- the octets of the next component, and what follows them
pub record SequenceTaken (s : List Resolved) (t : TypeNumber) (n : ℕ) (ss : List Step) (cs : List Component) (ws : Row) (xs us : List (List ℕ)) (i : ℕ) (o : Option AbstractValue) (os : List (Option AbstractValue)) (whole : Bool) (rest : List ℕ) (total : ℕ) : Type 0 where
  pub component : Component
  pub encoding : List ℕ
  pub following : List ℕ
  pub start : ℕ
  pub given : PartGiven s t n ss o i component encoding
  pub first : ComesFirst o encoding following rest
  pub has : HasPart cs ws xs component o encoding start
  pub only : (c : Component) (w : AbstractValue) (y : List ℕ) (m : ℕ) (q : RuleOfDer) (n : ℕ) → HasMember cs ws xs c w y m → MemberBreaks s c w y q n → (PartBreaks s component o encoding q n × (m ≡ start)) ⊎ (start + part_length o encoding ≤ m)
  pub reached : start + length rest ≡ total
  pub within : part_length o encoding ≤ length rest
  pub next : (j : ℕ) (part after : Bool) → PartBy s component o encoding j → (IsTrue part ↔ (j ≡ 0)) → (IsTrue after ↔ (IsTrue whole × IsTrue part)) → SequenceLeft s n cs ws xs us (i + 1) os after following total
  pub refused : ((j : ℕ) → PartBy s component o encoding j → ⊥) → (j : ℕ) → Members s Distinguished cs ws j xs → ⊥

pub take_next : {s : List Resolved} {t : TypeNumber} {n i : ℕ} {ss : List Step} {cs : List Component} {ws : Row} {xs us : List (List ℕ)} (o : Option AbstractValue) (os : List (Option AbstractValue)) {all : List (Option AbstractValue)} {whole : Bool} {rest : List ℕ} {total : ℕ} → MemberNot s → n ≤ 64 → StepsGiven s t ss cs → SequenceLeft s n cs ws xs us i all whole rest total → all ≡ o ∷ os → SequenceTaken s t n ss cs ws xs us i o os whole rest total
take_next {s} {t} {n} {i} {ss} {cs} {ws} {xs} {us} o os {whole = whole} {rest = rest} {total = total} nb few st l e = by o (take_member o os nb l.members e) l.units
  where
    by : (o : Option AbstractValue) → Taken s n cs ws xs i o os l.todo whole (Unit {0}) l.start → AreUnits (l.todo ++ us) rest → SequenceTaken s t n ss cs ws xs us i o os whole rest total
    by None k u = record {
      component = k.component;
      encoding = [];
      following = rest;
      start = l.start;
      given = tt;
      first = refl;
      has = tt;
      only = k.only tt;
      reached = l.reached;
      within = omega arith;
      next = λ j part after z p w. record { todo = k.more; start = l.start + 0; members = k.next j part after z p w; units = subst (λ q. AreUnits (q ++ us) rest) k.front u; reached = (let h = l.reached in omega (arith, h)) };
      refused = k.refused tt;
    }
    by (Some v) k u =
        let x = k.encoding in
        let u2 : AreUnits (x ∷ (k.more ++ us)) rest = subst (λ q. AreUnits (q ++ us) rest) k.front u in
        let r = concat (k.more ++ us) in
        let long = ap length u2.whole in
        let parts = length-append x r in
        let short = u2.short in
        let reached = l.reached in
        record {
          component = k.component;
          encoding = x;
          following = r;
          start = l.start;
          given = part_given i k.encoding (Some v) few st k.is_at k.said (omega arith);
          first = (u2.whole, u2.short, u2.units.0);
          has = k.has;
          only = k.only tt;
          reached = l.reached;
          within = omega arith;
          next = λ j part after z p w. record { todo = k.more; start = l.start + length x; members = k.next j part after z p w; units = record { units = u2.units.1; whole = refl; short = omega arith }; reached = omega arith };
          refused = k.refused tt;
        }

no_octets : (us : List (List ℕ)) {o : List ℕ} → AreUnits us o → (length o ≡ 0) ↔ (length us ≡ 0)
no_octets [] u = (λ e. refl, λ e. ap length u.whole)
no_octets (x ∷ us) u = (λ e. absurd (let a = ap length u.whole in let b = length-append x (concat us) in let c = unit_some u.units.0.1 in omega arith), λ e. absurd (omega arith))

pub is_none : (b : Bool) (n : ℕ) → b ≡ (n == 0) → IsTrue b ↔ (n ≡ 0)
is_none b n e = (λ t. eqb-true n 0 (sym e ∙ t), λ z. e ∙ eq-eqb n 0 z)

pub sequence_end : {s : List Resolved} {n i : ℕ} {cs : List Component} {os all : List (Option AbstractValue)} {xs us : List (List ℕ)} {whole empty after : Bool} {rest : List ℕ} {total : ℕ} → SequenceLeft s n cs (row_of_options all) xs us i os whole rest total → os ≡ [] → (IsTrue empty ↔ (length rest ≡ 0)) → (IsTrue after ↔ (IsTrue whole × IsTrue empty)) → (j : ℕ) × SequenceBy s all cs xs us j × (IsTrue after ↔ (j ≡ 0))
sequence_end {us = us} {rest = rest} l e z w =
    let m = members_end l.members tt e in
    let d = m.1 in
    let u = no_octets us (subst (λ q. AreUnits (q ++ us) rest) m.0 l.units) in (
      d.0 + length us,
      record { count = d.0; says_them = d.1; counted = refl },
      (
        λ a. let b = w.0 a in let g = d.2.0 b.0 in let h = u.0 (z.0 b.1) in omega arith,
        λ a. w.1 (d.2.1 (omega arith), z.1 (u.1 (omega arith))),
      ),
    )

pub sequence_refused : {s : List Resolved} {os : List (Option AbstractValue)} {cs : List Component} {xs us : List (List ℕ)} → ((j : ℕ) → Members s Distinguished cs (row_of_options os) j xs → ⊥) → (j : ℕ) → SequenceBy s os cs xs us j → ⊥
sequence_refused n j b = n b.count b.says_them

-- ---- in a SET

-- the breach is at this offset or before it
abbrev pub AtMostAt : Option Breach → ℕ → Type 0
AtMostAt None n = ⊥
AtMostAt (Some b) n = b.offset ≤ n

-- what the component breaks isn't before the breach
abbrev pub IsJudged : List Resolved → List (List ℕ) → Option Breach → Component → AbstractValue → List ℕ → Type 0
IsJudged s ys o c w x = (q : RuleOfDer) (m n : ℕ) → StartsAt x m ys → MemberBreaks s c w x q n → AtMostAt o (m + n)

which_judged : {s : List Resolved} {ys : List (List ℕ)} (o : Option Breach) {c d : Component} {cs : List Component} {v w : AbstractValue} {vs : Row} {x y : List ℕ} {xs : List (List ℕ)} {p : ℕ} → IsJudged s ys o c v y → HasMember (c ∷ cs) (present v vs) (y ∷ xs) d w x p → ((k : ℕ) × HasMember cs vs xs d w x k) ⊎ IsJudged s ys o d w x
which_judged o j member_first = inr j
which_judged o j (after_present {n = k} h) = inl (k, h)

pub record KnownLeft (s : List Resolved) (n : ℕ) (cs : List Component) (ws : Row) (xs ys : List (List ℕ)) (i : ℕ) (os : List (Option AbstractValue)) (whole : Bool) (breach : Option Breach) : Type 0 where
  pub todo : List (List ℕ)
  pub start : ℕ
  pub members : MembersLeft s n cs ws xs i os todo whole (breach ≡ None) start
  pub places : ArePlaced s ys members.left (row_of_options os) todo
  pub judged : (c : Component) (w : AbstractValue) (x : List ℕ) (p : ℕ) → HasMember cs ws xs c w x p → ((k : ℕ) × HasMember members.left (row_of_options os) todo c w x k) ⊎ IsJudged s ys breach c w x

pub known_begin : {s : List Resolved} {t : TypeNumber} {n : ℕ} {ss : List Step} {os : List (Option AbstractValue)} {cs : List Component} {xs zs us ys : List (List ℕ)} {o : List ℕ} {breach : Option Breach} → SetGiven s t n ss os cs xs zs us ys o → KnownLeft s n cs (row_of_options os) xs ys 0 os true breach
unfolding members_begin
known_begin {xs = xs} g = record { todo = xs; start = 0; members = members_begin g.values g.says_them; places = g.places; judged = λ c w x p h. inl (p, h) }

-- the octets of the next component, among some
pub record KnownTaken (s : List Resolved) (t : TypeNumber) (n : ℕ) (ss : List Step) (cs : List Component) (ws : Row) (xs ys : List (List ℕ)) (i : ℕ) (o : Option AbstractValue) (os : List (Option AbstractValue)) (whole : Bool) (breach : Option Breach) (contents : List ℕ) : Type 0 where
  pub component : Component
  pub encoding : List ℕ
  pub given : PartGiven s t n ss o i component encoding
  pub among : IsAmong s component o encoding ys contents
  pub start : ℕ
  pub has : HasPart cs ws xs component o encoding start
  pub next : (j : ℕ) (part after : Bool) → PartBy s component o encoding j → (IsTrue part ↔ (j ≡ 0)) → (IsTrue after ↔ (IsTrue whole × IsTrue part)) → KnownLeft s n cs ws xs ys (i + 1) os after breach
  pub refused : breach ≡ None → ((j : ℕ) → PartBy s component o encoding j → ⊥) → (j : ℕ) → Members s Distinguished cs ws j xs → ⊥
  pub pass : (after : Bool) (b : Breach) → ((k : ℕ) → AtMostAt breach k → b.offset ≤ k) → ((q : RuleOfDer) (k : ℕ) → PartBreaksIn s component o encoding ys q k → b.offset ≤ k) → KnownLeft s n cs ws xs ys (i + 1) os after (Some b)

has_shorter : (zs : List (List ℕ)) {x : List ℕ} → Has x zs → length x ≤ length (concat zs)
has_shorter [] h = elim h [ ]
has_shorter (z ∷ zs) has_first = let l = length-append z (concat zs) in omega arith
has_shorter (z ∷ zs) (has_later k) = let m = has_shorter zs k in let l = length-append z (concat zs) in omega arith

placed_absent_in : {s : List Resolved} {ys : List (List ℕ)} {c : Component} {cs : List Component} {ws : Row} {xs : List (List ℕ)} → ArePlaced s ys (c ∷ cs) (absent ws) xs → ArePlaced s ys cs ws xs
placed_absent_in (placed_absent a) = a

placed_present_in : {s : List Resolved} {ys : List (List ℕ)} {c : Component} {cs : List Component} {v : AbstractValue} {ws : Row} {x : List ℕ} {xs : List (List ℕ)} → ArePlaced s ys (c ∷ cs) (present v ws) (x ∷ xs) → IsOnly s c.type ys x × ArePlaced s ys cs ws xs
placed_present_in (placed_present o a) = (o, a)

some_none : {b : Breach} {P : Type 0} → Some b ≡ None → P
some_none e = absurd (none_some (sym e))

-- no rule was found broken, for another reason
members_if : {s : List Resolved} {n i start : ℕ} {cs : List Component} {ws : Row} {xs todo : List (List ℕ)} {os : List (Option AbstractValue)} {whole : Bool} {fine other : Type 0} → (other → fine) → MembersLeft s n cs ws xs i os todo whole fine start → MembersLeft s n cs ws xs i os todo whole other start
members_if f m = record {
  left = m.left;
  is_left = m.is_left;
  values = m.values;
  count = m.count;
  says_them = m.says_them;
  forth = λ y. m.forth (f y);
  back = λ y. m.back (f y);
  placed = m.placed;
  only = λ y. m.only (f y);
}

absent_judged : {s : List Resolved} {ys todo more : List (List ℕ)} {c d : Component} {cs left others : List Component} (os : List (Option AbstractValue)) {w : AbstractValue} {x : List ℕ} (o p : Option Breach) → left ≡ c ∷ others → others ≡ cs → todo ≡ more → (IsJudged s ys o d w x → IsJudged s ys p d w x) → ((k : ℕ) × HasMember left (row_of_options (None ∷ os)) todo d w x k) ⊎ IsJudged s ys o d w x → ((k : ℕ) × HasMember cs (row_of_options os) more d w x k) ⊎ IsJudged s ys p d w x
absent_judged {todo = todo} {more = more} {d = d} {others = others} os {w = w} {x = x} o p e f g j h =
    ⊎_elim (λ a. inl (a.0, subst (λ z. HasMember z (row_of_options os) more d w x a.0) f (subst (λ z. HasMember others (row_of_options os) z d w x a.0) g (rest_member (subst (λ z. HasMember z (absent (row_of_options os)) todo d w x a.0) e a.1))))) (λ b. inr (j b)) h

present_judged : {s : List Resolved} {ys todo more : List (List ℕ)} {c d : Component} {cs left others : List Component} (os : List (Option AbstractValue)) {v w : AbstractValue} {x y : List ℕ} (o p : Option Breach) → left ≡ c ∷ others → others ≡ cs → todo ≡ y ∷ more → (IsJudged s ys o d w x → IsJudged s ys p d w x) → IsJudged s ys p c v y → ((k : ℕ) × HasMember left (row_of_options (Some v ∷ os)) todo d w x k) ⊎ IsJudged s ys o d w x → ((k : ℕ) × HasMember cs (row_of_options os) more d w x k) ⊎ IsJudged s ys p d w x
present_judged {todo = todo} {more = more} {c = c} {d = d} {others = others} os {v = v} {w = w} {x = x} {y = y} o p e f g j k h =
    ⊎_elim
    (λ a. ⊎_elim (λ b. inl (b.0, subst (λ z. HasMember z (row_of_options os) more d w x b.0) f b.1)) (λ b. inr b)
    (which_judged p k (subst (λ z. HasMember (c ∷ others) (present v (row_of_options os)) z d w x a.0) g (subst (λ z. HasMember z (present v (row_of_options os)) todo d w x a.0) e a.1))))
    (λ b. inr (j b)) h

pub take_known : {s : List Resolved} {t : TypeNumber} {n i : ℕ} {ss : List Step} {cs : List Component} {ws : Row} {xs ys : List (List ℕ)} (o : Option AbstractValue) (os : List (Option AbstractValue)) {all : List (Option AbstractValue)} {whole : Bool} {breach : Option Breach} {contents : List ℕ} → MemberNot s → n ≤ 64 → StepsGiven s t ss cs → AreUnits ys contents → KnownLeft s n cs ws xs ys i all whole breach → all ≡ o ∷ os → KnownTaken s t n ss cs ws xs ys i o os whole breach contents
take_known {s} {t} {n} {i} {ss} {cs} {ws} {xs} {ys} o os {all} {whole = whole} {breach = breach} {contents = contents} nb few st u l e =
    by o (take_member o os nb l.members e) (subst (λ q. ArePlaced s ys l.members.left (row_of_options q) l.todo) e l.places)
    (λ c w x p h. subst (λ q. ((k : ℕ) × HasMember l.members.left (row_of_options q) l.todo c w x k) ⊎ IsJudged s ys breach c w x) e (l.judged c w x p h))
  where
    by : (o : Option AbstractValue) → (k : Taken s n cs ws xs i o os l.todo whole (breach ≡ None) l.start) → ArePlaced s ys l.members.left (row_of_options (o ∷ os)) l.todo → ((c : Component) (w : AbstractValue) (x : List ℕ) (p : ℕ) → HasMember cs ws xs c w x p → ((m : ℕ) × HasMember l.members.left (row_of_options (o ∷ os)) l.todo c w x m) ⊎ IsJudged s ys breach c w x) → KnownTaken s t n ss cs ws xs ys i o os whole breach contents
    by None k p ju =
        let q = placed_absent_in (subst (λ z. ArePlaced s ys z (absent (row_of_options os)) l.todo) (sym l.members.is_left ∙ k.left_is) p) in
        record {
          component = k.component;
          encoding = [];
          given = tt;
          among = tt;
          start = l.start;
          has = tt;
          next = λ j part after z h w. let m = k.next j part after z h w in record { todo = k.more; start = l.start + 0; members = m; places = subst (λ z. ArePlaced s ys m.left (row_of_options os) z) k.front (subst (λ z. ArePlaced s ys z (row_of_options os) l.todo) (sym k.others_is ∙ m.is_left) q); judged = λ c w x r h. absent_judged os breach breach (sym l.members.is_left ∙ k.left_is) (sym k.others_is ∙ m.is_left) k.front (λ y. y) (ju c w x r h) };
          refused = k.refused;
          pass = λ after b low pj. let m = members_if (λ y. some_none y) (k.pass after) in record { todo = k.more; start = l.start + 0; members = m; places = subst (λ z. ArePlaced s ys m.left (row_of_options os) z) k.front (subst (λ z. ArePlaced s ys z (row_of_options os) l.todo) (sym k.others_is ∙ m.is_left) q); judged = λ c w x r h. absent_judged os breach (Some b) (sym l.members.is_left ∙ k.left_is) (sym k.others_is ∙ m.is_left) k.front (λ j q' m' n' st b'. low (m' + n') (j q' m' n' st b')) (ju c w x r h) };
        }
    by (Some v) k p ju =
        let q = placed_present_in (subst (λ z. ArePlaced s ys (k.component ∷ k.others) (present v (row_of_options os)) z) k.front (subst (λ z. ArePlaced s ys z (present v (row_of_options os)) l.todo) (sym l.members.is_left ∙ k.left_is) p)) in
        let m1 = has_shorter ys q.0.there in
        let long = ap length u.whole in
        let short = u.short in
        record {
          component = k.component;
          encoding = k.encoding;
          given = part_given i k.encoding (Some v) few st k.is_at k.said (omega arith);
          among = (u, q.0);
          start = l.start;
          has = k.has;
          next = λ j part after z h w. let m = k.next j part after z h w in record { todo = k.more; start = l.start + length k.encoding; members = m; places = subst (λ z. ArePlaced s ys z (row_of_options os) k.more) (sym k.others_is ∙ m.is_left) q.1; judged = λ c w x r h'. present_judged os breach breach (sym l.members.is_left ∙ k.left_is) (sym k.others_is ∙ m.is_left) k.front (λ y. y) (λ q' m' n' st b'. absurd (nb k.component v k.encoding q' j n' b' z)) (ju c w x r h') };
          refused = k.refused;
          pass = λ after b low pj. let m = members_if (λ y. some_none y) (k.pass after) in record { todo = k.more; start = l.start + length k.encoding; members = m; places = subst (λ z. ArePlaced s ys z (row_of_options os) k.more) (sym k.others_is ∙ m.is_left) q.1; judged = λ c w x r h'. present_judged os breach (Some b) (sym l.members.is_left ∙ k.left_is) (sym k.others_is ∙ m.is_left) k.front (λ j q' m' n' st b'. low (m' + n') (j q' m' n' st b')) (λ q' m' n' st b'. pj q' (m' + n') (m', n', st, b', refl)) (ju c w x r h') };
        }

pub known_end : {s : List Resolved} {n i : ℕ} {cs : List Component} {ws : Row} {xs ys : List (List ℕ)} {os : List (Option AbstractValue)} {whole : Bool} {breach : Option Breach} → KnownLeft s n cs ws xs ys i os whole breach → breach ≡ None → os ≡ [] → (j : ℕ) × Members s Distinguished cs ws j xs × (IsTrue whole ↔ (j ≡ 0))
known_end l y e = (members_end l.members y e).1

-- all were judged
pub all_judged : {s : List Resolved} {n i : ℕ} {cs : List Component} {ws : Row} {xs ys : List (List ℕ)} {os : List (Option AbstractValue)} {whole : Bool} {breach : Option Breach} → KnownLeft s n cs ws xs ys i os whole breach → os ≡ [] → (c : Component) (w : AbstractValue) (x : List ℕ) (p : ℕ) → HasMember cs ws xs c w x p → IsJudged s ys breach c w x
all_judged l e c w x p h = ⊎_elim (λ a. absurd (no_members (subst (λ q. HasMember l.members.left (row_of_options q) l.todo c w x a.0) e a.1))) (λ j. j) (l.judged c w x p h)
  where
    no_members : {left : List Component} {todo : List (List ℕ)} {d : Component} {v : AbstractValue} {y : List ℕ} {k : ℕ} → HasMember left end todo d v y k → ⊥
    no_members h = elim h [ ]

-- all of them, in the order of their tags
pub set_end : {s : List Resolved} {cs : List Component} {os : List (Option AbstractValue)} {xs zs us : List (List ℕ)} {whole none_else after : Bool} → ((j : ℕ) × Members s Distinguished cs (row_of_options os) j xs × (IsTrue whole ↔ (j ≡ 0))) → Ascending InTagOrder zs × (IsTrue none_else ↔ (us ≡ [])) → (IsTrue after ↔ (IsTrue whole × IsTrue none_else)) → (j : ℕ) × SetBy s os cs xs zs us j × (IsTrue after ↔ (j ≡ 0))
set_end {us = us} d e w = (
  d.0 + length us,
  record { count = d.0; says_them = d.1; ascend = e.0; counted = refl },
  (λ a. let b = w.0 a in let g = d.2.0 b.0 in let h = ap length (e.1.0 b.1) in omega arith, λ a. w.1 (d.2.1 (omega arith), e.1.1 (no_length us (omega arith)))),
)
  where
    no_length : (us : List (List ℕ)) → length us ≡ 0 → us ≡ []
    no_length [] e = refl
    no_length (u ∷ us) e = absurd (omega arith)

-- ---- elements

pub record ElementsLeft (s : List Resolved) (t : TypeNumber) (n : ℕ) (ws : Row) (xs : List (List ℕ)) (vs : Row) (whole : Bool) (rest : List ℕ) (total : ℕ) : Type 0 where
  pub todo : List (List ℕ)
  pub start : ℕ
  pub values : AreElements s n t vs
  pub count : ℕ
  pub says_them : Elements s Basic t vs count todo
  pub units : AreUnits todo rest
  pub reached : start + length rest ≡ total
  pub forth : (j : ℕ) → Elements s Distinguished t ws j xs → (k : ℕ) × Elements s Distinguished t vs k todo
  pub back : (k : ℕ) → Elements s Distinguished t vs k todo → (j : ℕ) × Elements s Distinguished t ws j xs × ((j ≡ 0) ↔ (IsTrue whole × (k ≡ 0)))
  pub placed : (w : AbstractValue) (x : List ℕ) (m : ℕ) → HasElement vs todo w x m → HasElement ws xs w x (start + m)
  pub only : (w : AbstractValue) (x : List ℕ) (m : ℕ) (q : RuleOfDer) (n : ℕ) → HasElement ws xs w x m → Breaks s t w x q n → (p : ℕ) × HasElement vs todo w x p × (m ≡ start + p)

pub elements_begin : {s : List Resolved} {t : TypeNumber} {n : ℕ} {vs : Row} {xs : List (List ℕ)} {o : List ℕ} → ElementsGiven s t n vs xs o → ElementsLeft s t n vs xs vs true o (length o)
elements_begin {vs = vs} {xs = xs} g = record {
  todo = xs;
  start = 0;
  values = g.values;
  count = g.count;
  says_them = g.says_them;
  units = g.units;
  reached = omega arith;
  forth = λ j d. (j, d);
  back = λ j d. (j, d, (λ e. (refl, e), λ e. e.1));
  placed = λ w x n h. at_zero (HasElement vs xs w x) n h;
  only = λ w x m q n h b. (m, h, omega arith);
}

absent_end : {vs : Row} → absent vs ≡ end → ⊥
absent_end e = cc

present_end : {v : AbstractValue} {vs : Row} → present v vs ≡ end → ⊥
present_end e = cc

pub elements_end : {s : List Resolved} {t : TypeNumber} {n : ℕ} {ws : Row} {xs : List (List ℕ)} {vs : Row} {whole : Bool} {rest : List ℕ} {total : ℕ} → ElementsLeft s t n ws xs vs whole rest total → vs ≡ end → (j : ℕ) × Elements s Distinguished t ws j xs × (IsTrue whole ↔ (j ≡ 0))
elements_end {s} {t} {ws = ws} {xs = xs} {vs = end} {whole = whole} l e = by l.says_them l.back
  where
    by : {k : ℕ} {todo : List (List ℕ)} → Elements s Basic t end k todo → ((k : ℕ) → Elements s Distinguished t end k todo → (j : ℕ) × Elements s Distinguished t ws j xs × ((j ≡ 0) ↔ (IsTrue whole × (k ≡ 0)))) → (j : ℕ) × Elements s Distinguished t ws j xs × (IsTrue whole ↔ (j ≡ 0))
    by no_element b = let r = b 0 no_element in (r.0, r.1, (λ w. r.2.1 (w, refl), λ z. (r.2.0 z).0))
elements_end {vs = absent vs} l e = absurd (absent_end e)
elements_end {vs = present v vs} l e = absurd (present_end e)

-- the next element
pub record ElementTaken (s : List Resolved) (t : TypeNumber) (n : ℕ) (ws : Row) (xs : List (List ℕ)) (v : AbstractValue) (vs : Row) (whole : Bool) (rest : List ℕ) (total : ℕ) : Type 0 where
  pub encoding : List ℕ
  pub start : ℕ
  pub following : List ℕ
  pub given : ValueGiven s t n v encoding
  pub unit : (g : Tag) × IsUnit g encoding
  pub first : rest ≡ encoding ++ following
  pub short : length rest ≤ 16777216
  pub next : (j : ℕ) (part after : Bool) → EncodesTo s Distinguished t v j encoding → (IsTrue part ↔ (j ≡ 0)) → (IsTrue after ↔ (IsTrue whole × IsTrue part)) → ElementsLeft s t n ws xs vs after following total
  pub has : HasElement ws xs v encoding start
  pub only : (w : AbstractValue) (y : List ℕ) (m : ℕ) (q : RuleOfDer) (n : ℕ) → HasElement ws xs w y m → Breaks s t w y q n → (Breaks s t v encoding q n × (m ≡ start)) ⊎ (start + length encoding ≤ m)
  pub reached : start + length rest ≡ total
  pub within : length encoding ≤ length rest
  pub refused : ((j : ℕ) → EncodesTo s Distinguished t v j encoding → ⊥) → (j : ℕ) → Elements s Distinguished t ws j xs → ⊥

value_first : {s : List Resolved} {n u : ℕ} {v : AbstractValue} {vs : Row} → AreElements s n u (present v vs) → ValueIn s n u v × AreElements s n u vs
value_first (one_element v a) = (v, a)

record FirstElement (s : List Resolved) (u : ℕ) (v : AbstractValue) (vs : Row) (x : List ℕ) (xs : List (List ℕ)) : Type 0 where
  one : ℕ
  others : ℕ
  by : EncodesTo s Distinguished u v one x
  rest : Elements s Distinguished u vs others xs

first_element : {s : List Resolved} {u : ℕ} {v : AbstractValue} {vs : Row} {n : ℕ} {x : List ℕ} {xs : List (List ℕ)} → Elements s Distinguished u (present v vs) n (x ∷ xs) → FirstElement s u v vs x xs
first_element (element {j = j} {n = n} a es) = record { one = j; others = n; by = a; rest = es }

-- a value whose encoding breaks a rule isn't encoded by the distinguished rules
abbrev pub ValueNot : List Resolved → TypeNumber → Type 0
ValueNot s t = (v : AbstractValue) (x : List ℕ) (r : RuleOfDer) (j n : ℕ) → Breaks s t v x r n → EncodesTo s Distinguished t v j x → ⊥

not_first_element : {s : List Resolved} {t : TypeNumber} {v w : AbstractValue} {vs : Row} {x y : List ℕ} {xs : List (List ℕ)} {p n : ℕ} {q : RuleOfDer} → ((r : RuleOfDer) (m : ℕ) → Breaks s t v y r m → ⊥) → HasElement (present v vs) (y ∷ xs) w x p → Breaks s t w x q n → (k : ℕ) × HasElement vs xs w x k × (p ≡ length y + k)
not_first_element {n = n} {q = q} f element_first b = absurd (f q n b)
not_first_element f (element_later {n = k} h) b = (k, h, refl)

which_element : {s : List Resolved} {t : TypeNumber} {v w : AbstractValue} {vs : Row} {x y : List ℕ} {xs : List (List ℕ)} {p n : ℕ} {q : RuleOfDer} (start m : ℕ) → m ≡ start + p → HasElement (present v vs) (y ∷ xs) w x p → Breaks s t w x q n → (Breaks s t v y q n × (m ≡ start)) ⊎ (start + length y ≤ m)
which_element start m e element_first b = inl (b, omega (arith, e))
which_element start m e (element_later h) b = inr (omega (arith, e))

pub take_element : {s : List Resolved} {t : TypeNumber} {n : ℕ} {ws : Row} {xs : List (List ℕ)} (v : AbstractValue) (vs : Row) {all : Row} {whole : Bool} {rest : List ℕ} {total : ℕ} → ValueNot s t → n ≤ 64 → ElementsLeft s t n ws xs all whole rest total → all ≡ present v vs → ElementTaken s t n ws xs v vs whole rest total
take_element {s} {t} {n} {ws} {xs} v vs {whole = whole} {rest = rest} {total = total} nb few l e =
    by (subst (λ q. AreElements s n t q) e l.values) (subst (λ q. Elements s Basic t q l.count l.todo) e l.says_them) l.units
    (λ j d. let f = l.forth j d in (f.0, subst (λ q. Elements s Distinguished t q f.0 l.todo) e f.1))
    (λ k d. l.back k (subst (λ q. Elements s Distinguished t q k l.todo) (sym e) d))
    (λ w x m h. l.placed w x m (subst (λ q. HasElement q l.todo w x m) (sym e) h))
    (λ w x m q n h b. let r = l.only w x m q n h b in (r.0, subst (λ q. HasElement q l.todo w x r.0) e r.1, r.2))
  where
    by : {count : ℕ} {todo : List (List ℕ)} → AreElements s n t (present v vs) → Elements s Basic t (present v vs) count todo → AreUnits todo rest
        → ((j : ℕ) → Elements s Distinguished t ws j xs → (k : ℕ) × Elements s Distinguished t (present v vs) k todo)
        → ((k : ℕ) → Elements s Distinguished t (present v vs) k todo → (j : ℕ) × Elements s Distinguished t ws j xs × ((j ≡ 0) ↔ (IsTrue whole × (k ≡ 0))))
        → ((w : AbstractValue) (x : List ℕ) (m : ℕ) → HasElement (present v vs) todo w x m → HasElement ws xs w x (l.start + m))
        → ((w : AbstractValue) (x : List ℕ) (m : ℕ) (q : RuleOfDer) (n : ℕ) → HasElement ws xs w x m → Breaks s t w x q n → (p : ℕ) × HasElement (present v vs) todo w x p × (m ≡ l.start + p))
        → ElementTaken s t n ws xs v vs whole rest total
    by a (element {j = k1} {n = k2} {x = x} {xs = more} said es) u f b pl on =
        let vs' = value_first a in
        let r = concat more in
        let long = ap length u.whole in
        let parts = length-append x r in
        let short = u.short in
        let reached = l.reached in
        record {
          encoding = x;
          start = l.start;
          has = subst (HasElement ws xs v x) (let z : l.start + 0 ≡ l.start = omega arith in z) (pl v x 0 element_first);
          reached = l.reached;
          within = omega arith;
          only = λ w' x' m' q' n' h b'. let r' = on w' x' m' q' n' h b' in which_element l.start m' r'.2 r'.1 b';
          following = r;
          given = record { few = few; value = vs'.0; count = k1; says_it = said; short = omega arith };
          unit = u.units.0;
          first = u.whole;
          short = u.short;
          next = λ j part after z p w. record {
            todo = more;
            values = vs'.1;
            count = k2;
            says_them = es;
            units = record { units = u.units.1; whole = refl; short = omega arith };
            start = l.start + length x;
            reached = omega arith;
            placed = λ w y m h. subst (HasElement ws xs w y) (let z : l.start + (length x + m) ≡ (l.start + length x) + m = omega arith in z) (pl w y (length x + m) (element_later h));
            only = λ w' x' m' q' n' h b'. let r' = on w' x' m' q' n' h b' in let k' = not_first_element (λ r2 n2 bb. nb v x r2 j n2 bb z) r'.1 b' in (k'.0, k'.1, let e' = r'.2 in let g' = k'.2 in omega (arith, e', g'));
            forth = λ k d. let g = first_element (f k d).1 in (g.others, g.rest);
            back = λ k d. let g = b (j + k) (element z d) in (
              g.0,
              g.1,
              (
                λ q. let h = g.2.0 q in let hz = h.1 in (w.1 (h.0, p.1 (omega arith)), omega arith),
                λ q. let y = w.0 q.0 in let jz = p.0 y.1 in let kz = q.1 in g.2.1 (y.0, omega arith),
              ),
            );
          };
          refused = λ no j d. let g = first_element (f j d).1 in no g.one g.by;
        }
