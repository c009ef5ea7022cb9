-- The first rule that a SET breaks, while its components are judged.
use Rattle.std.proofs.Common.{arith, ◌≡◌, ℕ, ◌+◌, ◌<◌, ◌≤◌, ◌⊎◌, inl, inr, ⊎_elim, Bool, List, [], length, refl, sym, ap, subst, ◌∙◌}
use Rattle.std.specs.Prelude.{◌↔◌, IsTrue, Option, Some, None, Result, Ok, Err, MatchResult}
use Rattle.asn_base.specs.declared.schema.TypeId.{TypeId}
use Rattle.asn_base.specs.Abstract.{AbstractValue, Row, list, row_of_options}
use Rattle.asn_base.specs.Schemas.{IsSchema}
use Rattle.asn_base.specs.Types.{Component, Kind, Resolved, TypeNumber}
use Rattle.codec_code.specs.declared.step.Step.{Step}
use Rattle.encodings.specs.Encoding.{ContentsEncode, Elements}
use Rattle.encodings.specs.Orders.{Ascending, AtMost, InTagOrder}
use Rattle.encodings.specs.Rules.{Distinguished}
use Rattle.der_check.specs.declared.refusal.Refusal.{Refusal}
use Rattle.der_check.specs.declared.refusal.Refusal.TheVariants.{Broken, Memory}
use Rattle.der_check.specs.declared.rule.Breach.{Breach}
use Rattle.der_check.specs.declared.rule.RuleOfDer.{RuleOfDer}
use Rattle.der_check.specs.declared.rule.RuleOfDer.TheVariants.{OrderOfElements}
use Rattle.der_check.specs.Broken.{ContentsBreak, FirstFall, falls_here, falls_later, HasMember, StartsAt, starts_first, starts_later}
use Rattle.der_check.specs.Places.{Has, has_first, has_later, Once, once_first, once_later}
use Rattle.der_check.specs.Strict.{ClimbsNot, Decides, ElementsBreak, element_breaks, FallsAt, Finds, IsEarlier, IsFound, IsOrder, IsRefused, IsSoFar, IsWithFall, Judges, PartBreaksIn, PartBy, SetBreaks, member_breaks, tag_breaks, SetBy, form_of}
use Rattle.der_check.proofs.Deciding.{AsList}
use Rattle.der_check.proofs.Excluded.{element_at}
use Rattle.der_check.proofs.Orders.{fall_one, falls_not}
use Rattle.der_check.proofs.Split.{HeadersApart}
use Rattle.der_check.proofs.Taking.{AtMostAt, HasPart, IsJudged, KnownLeft, KnownTaken, ValueNot}

-- the first encoding out of order isn't before the breach
abbrev pub IsTagJudged : List (List ℕ) → List (List ℕ) → Option Breach → Type 0
IsTagJudged zs ys o = (x : List ℕ) (p n : ℕ) → FirstFall InTagOrder zs x p → StartsAt x n ys → AtMostAt o n

abbrev pub IsNoted : List Resolved → List (Option AbstractValue) → List Component → List (List ℕ) → List (List ℕ) → List (List ℕ) → List (List ℕ) → ℕ → Bool → Option Breach → Type 0
IsNoted s os cs xs zs us ys total b None = Ascending InTagOrder zs × (IsTrue b ↔ (us ≡ []))
IsNoted s os cs xs zs us ys total b (Some c) = ((j : ℕ) → SetBy s os cs xs zs us j → ⊥) × (SetBreaks s cs (row_of_options os) xs zs ys c.rule c.offset × (c.offset < total))

-- If no rule was found broken so far, the encodings are in the order of their tags. Else the rule is broken, and the
-- octets aren't those of the distinguished rules.
pub record IsFoundSoFar (s : List Resolved) (os : List (Option AbstractValue)) (cs : List Component) (xs zs us ys : List (List ℕ)) (total : ℕ) (b : Bool) (o : Option Breach) : Type 0 where
  pub tags : IsTagJudged zs ys o
  pub noted : IsNoted s os cs xs zs us ys total b o

none_some : {A : Type 0} {x : A} {o : Option A} {P : Type 0} → o ≡ Some x → o ≡ None → P
none_some e f = absurd (let d = sym f ∙ e in cc)

starts_has : {x : List ℕ} {n : ℕ} {ys : List (List ℕ)} → StartsAt x n ys → Has x ys
starts_has starts_first = has_first
starts_has (starts_later h) = has_later (starts_has h)

has_as : {z x : List ℕ} {ys : List (List ℕ)} → z ≡ x → Has x ys → Has z ys
has_as {ys = ys} e h = subst (λ q. Has q ys) (sym e) h

one_start : {z x y : List ℕ} {n m : ℕ} {ys : List (List ℕ)} → z ≡ x → z ≡ y → Once z ys → StartsAt x n ys → StartsAt y m ys → n ≡ m
one_start d e o starts_first starts_first = refl
one_start d e (once_first f) starts_first (starts_later h) = absurd (f (has_as e (starts_has h)))
one_start d e (once_later f o) starts_first (starts_later h) = absurd (f d)
one_start d e (once_first f) (starts_later h) starts_first = absurd (f (has_as d (starts_has h)))
one_start d e (once_later f o) (starts_later h) starts_first = absurd (f e)
one_start d e (once_first f) (starts_later h) (starts_later k) = absurd (f (has_as d (starts_has h)))
one_start d e (once_later f o) (starts_later {y = y} h) (starts_later k) = ap (λ q. length y + q) (one_start d e o h k)

fall_has : {R : List ℕ → List ℕ → Type 0} {zs : List (List ℕ)} {y : List ℕ} {n : ℕ} → FirstFall R zs y n → Has y zs
fall_has (falls_here f) = has_later has_first
fall_has (falls_later h f) = has_later (fall_has f)

-- the one first encoding out of order is at one place
tag_start : {zs ys : List (List ℕ)} {x y : List ℕ} {p q n m : ℕ} → ((x : List ℕ) → Has x zs → Once x ys) → FirstFall InTagOrder zs x p → StartsAt x n ys → FirstFall InTagOrder zs y q → StartsAt y m ys → n ≡ m
tag_start once f a g b = one_start refl (fall_one f g).0 (once _ (fall_has f)) a b

pub order_so_far : (s : List Resolved) (os : List (Option AbstractValue)) (cs : List Component) (xs zs us ys : List (List ℕ)) (contents : List ℕ) (r : Result Bool ℕ) (b : Bool) (o : Option Breach) → ((x : List ℕ) → Has x zs → Once x ys) → MatchResult r (λ c. Ascending InTagOrder zs × (IsTrue c ↔ (us ≡ []))) (ClimbsNot zs ys contents) → IsOrder r b o → IsFoundSoFar s os cs xs zs us ys (length contents) b o
order_so_far s os cs xs zs us ys contents (Ok c) b o once d e =
    subst (λ q. IsFoundSoFar s os cs xs zs us ys (length contents) q o) (sym e.0) (subst (IsFoundSoFar s os cs xs zs us ys (length contents) c) (sym e.1)
    (record { tags = λ x p n f h. falls_not f d.0; noted = d }))
order_so_far s os cs xs zs us ys contents (Err n) b o once d e =
    subst (IsFoundSoFar s os cs xs zs us ys (length contents) b) (sym e) (record {
      tags = λ x p m f h. (let z = tag_start once d.2 d.3 f h in omega (arith, z));
      noted = (λ j q. falls_not d.2 q.ascend, (tag_breaks d.2 d.3, d.4));
    })

-- the breach that is noted after one more isn't after any before
lower : (o : Option Breach) (a c : Breach) → IsEarlier o a c → (k : ℕ) → AtMostAt o k → c.offset ≤ k
lower None a c e k h = absurd h
lower (Some d) a c e k h = ⊎_elim (λ l. let z = ap (λ q. q.offset) l.1 in let y = l.0 in omega (arith, z, y, h)) (λ l. let z = ap (λ q. q.offset) l.1 in omega (arith, z, h)) e

at_most : (o : Option Breach) (a c : Breach) → IsEarlier o a c → c.offset ≤ a.offset
at_most None a c e = let z = ap (λ q. q.offset) e in omega (arith, z)
at_most (Some d) a c e = ⊎_elim (λ l. let z = ap (λ q. q.offset) l.1 in omega (arith, z)) (λ l. let z = ap (λ q. q.offset) l.1 in let y = l.0 in omega (arith, z, y)) e

noted_more : (s : List Resolved) (os : List (Option AbstractValue)) (cs : List Component) (xs zs us ys : List (List ℕ)) (total : ℕ) (b : Bool) (o : Option Breach) (a c : Breach) → IsEarlier o a c → (o ≡ None → (j : ℕ) → SetBy s os cs xs zs us j → ⊥) → SetBreaks s cs (row_of_options os) xs zs ys a.rule a.offset × (a.offset < total) → IsNoted s os cs xs zs us ys total b o → IsNoted s os cs xs zs us ys total b (Some c)
noted_more s os cs xs zs us ys total b None a c e n f v = (n refl, subst (λ q. SetBreaks s cs (row_of_options os) xs zs ys q.rule q.offset × (q.offset < total)) (sym e) f)
noted_more s os cs xs zs us ys total b (Some d) a c e n f v =
    (v.0, ⊎_elim (λ l. subst (λ q. SetBreaks s cs (row_of_options os) xs zs ys q.rule q.offset × (q.offset < total)) (sym l.1) f) (λ l. subst (λ q. SetBreaks s cs (row_of_options os) xs zs ys q.rule q.offset × (q.offset < total)) (sym l.1) v.1) e)

part_breaks : (s : List Resolved) (cs : List Component) (ws : Row) (xs zs ys : List (List ℕ)) (c : Component) (x : List ℕ) (p : ℕ) (o : Option AbstractValue) {r : RuleOfDer} {n : ℕ} → HasPart cs ws xs c o x p → PartBreaksIn s c o x ys r n → SetBreaks s cs ws xs zs ys r n
part_breaks s cs ws xs zs ys c x p None h w = absurd w
part_breaks s cs ws xs zs ys c x p (Some v) {r} h w = subst (SetBreaks s cs ws xs zs ys r) (sym w.4) (member_breaks h w.2 w.3)

pub set_next : {s : List Resolved} {t : TypeNumber} {n i : ℕ} {ss : List Step} {cs : List Component} (os : List (Option AbstractValue)) (xs zs us ys : List (List ℕ)) {w : Option AbstractValue} {left : List (Option AbstractValue)} {contents : List ℕ} (b : Bool) (judged : Result Bool Refusal) (whole after : Bool) (o p : Option Breach) → (k : KnownTaken s t n ss cs (row_of_options os) xs ys i w left whole o contents) → Judges (PartBy s k.component w k.encoding) (PartBreaksIn s k.component w k.encoding ys) (length contents) judged → IsSoFar whole o judged after p → IsFoundSoFar s os cs xs zs us ys (length contents) b o → KnownLeft s n cs (row_of_options os) xs ys (i + 1) left after p × IsFoundSoFar s os cs xs zs us ys (length contents) b p
set_next {s} {n = n} {i = i} {cs = cs} os xs zs us ys {left = left} {contents = contents} b (Ok c) whole after o p k d f v = (
  subst (KnownLeft s n cs (row_of_options os) xs ys (i + 1) left after) (sym f.1) (k.next d.0.0 c after d.0.1 d.0.2 f.0),
  subst (IsFoundSoFar s os cs xs zs us ys (length contents) b) (sym f.1) v,
)
set_next {s} {n = n} {i = i} {cs = cs} os xs zs us ys {w = w} {left = left} {contents = contents} b (Err (Broken a)) whole after o p k d f v =
    let low = at_most o a f.0 f.2 in (
      subst (KnownLeft s n cs (row_of_options os) xs ys (i + 1) left after) (sym f.1) (k.pass after f.0 (lower o a f.0 f.2) (λ q m h. let z = d.1.0.none_before q m h in omega (arith, z, low))),
      subst (IsFoundSoFar s os cs xs zs us ys (length contents) b) (sym f.1) (record {
        tags = λ x q m g h. lower o a f.0 f.2 m (v.tags x q m g h);
        noted = noted_more s os cs xs zs us ys (length contents) b o a f.0 f.2 (λ e j q. k.refused e (d.0 tt) q.count q.says_them) (part_breaks s cs (row_of_options os) xs zs ys k.component k.encoding k.start w k.has d.1.0.broken, d.1.1) v.noted;
      }),
    )
set_next os xs zs us ys b (Err Memory) whole after o p k d f v = absurd f

none_before_set : {s : List Resolved} {cs : List Component} {ws : Row} {xs zs ys : List (List ℕ)} {r : RuleOfDer} {m : ℕ} (o : Option Breach) → IsTagJudged zs ys o → ((c : Component) (w : AbstractValue) (x : List ℕ) (p : ℕ) → HasMember cs ws xs c w x p → IsJudged s ys o c w x) → SetBreaks s cs ws xs zs ys r m → AtMostAt o m
none_before_set {r = r} o t j (member_breaks {c = c} {w = w} {x = x} {m = m} {n = n} {p = p} h a b) = j c w x p h r m n a b
none_before_set o t j (tag_breaks {x = x} {n = n} {p = p} f a) = t x p n f a

pub found_end : (s : List Resolved) (os : List (Option AbstractValue)) (cs : List Component) (xs zs us ys : List (List ℕ)) (total : ℕ) (b : Bool) (o : Option Breach) (c : Breach) → o ≡ Some c → ((c : Component) (w : AbstractValue) (x : List ℕ) (p : ℕ) → HasMember cs (row_of_options os) xs c w x p → IsJudged s ys o c w x) → IsFoundSoFar s os cs xs zs us ys total b o → (IsRefused (Broken c) → (j : ℕ) → SetBy s os cs xs zs us j → ⊥) × IsFound (SetBreaks s cs (row_of_options os) xs zs ys) total (Broken c)
found_end s os cs xs zs us ys total b o c e j v =
    let w = subst (IsNoted s os cs xs zs us ys total b) e v.noted in
    (λ i. w.0, (record { broken = w.1.0; none_before = λ q m h. subst (λ z. AtMostAt z m) e (none_before_set o v.tags j h) }, w.1.1))

pub none_found : (s : List Resolved) (os : List (Option AbstractValue)) (cs : List Component) (xs zs us ys : List (List ℕ)) (total : ℕ) (b : Bool) (o : Option Breach) → o ≡ None → IsFoundSoFar s os cs xs zs us ys total b o → Ascending InTagOrder zs × (IsTrue b ↔ (us ≡ []))
none_found s os cs xs zs us ys total b o e v = subst (IsNoted s os cs xs zs us ys total b) e v.noted

-- ---- elements

-- what the elements and their order break isn't before the breach
abbrev IsLeast : (RuleOfDer → ℕ → Type 0) → Breach → Type 0
IsLeast B c = (q : RuleOfDer) (m : ℕ) → B q m → c.offset ≤ m

elements_not : {s : List Resolved} {u : TypeNumber} {ws : Row} {xs : List (List ℕ)} {r : RuleOfDer} {j m : ℕ} → ValueNot s u → Elements s Distinguished u ws j xs → ElementsBreak s u ws xs r m → ⊥
elements_not {r = r} nb es (element_breaks {w = w} {x = x} {n = n} h b) = let d = element_at h es in nb w x r d.0 n b d.1

-- the breach of a list with an element out of order
fall_first : (B C : RuleOfDer → ℕ → Type 0) (n total : ℕ) (judged : Result Bool Refusal) (e : Refusal) → C OrderOfElements n × (n < total) → ((q : RuleOfDer) (m : ℕ) → B q m → C q m) → ((q : RuleOfDer) (m : ℕ) → C q m → B q m ⊎ (m ≡ n)) → (MatchResult judged (λ b. (q : RuleOfDer) (m : ℕ) → B q m → ⊥) (λ f. Unit {0})) → Finds B total judged → IsWithFall n judged e → IsFound C total e
fall_first B C n total (Ok b) e f up down no_one g w = subst (IsFound C total) (sym w) (record { broken = f.0; none_before = λ q m c. ⊎_elim (λ z. absurd (no_one q m z)) (λ z. omega (arith, z)) (down q m c) }, f.1)
fall_first B C n total (Err (Broken b)) e f up down no_one g w =
    let fall : Breach = record { rule = OrderOfElements; offset = n } in
    let low = at_most (Some fall) b w.0 w.2 in
    let under = lower (Some fall) b w.0 w.2 n (omega arith) in
    let is : C w.0.rule w.0.offset × (w.0.offset < total) = ⊎_elim (λ l. subst (λ q. C q.rule q.offset × (q.offset < total)) (sym l.1) (up b.rule b.offset g.0.broken, g.1)) (λ l. subst (λ q. C q.rule q.offset × (q.offset < total)) (sym l.1) f) w.2 in
    subst (IsFound C total) (sym w.1) (record { broken = is.0; none_before = λ q m c. ⊎_elim (λ z. let y = g.0.none_before q m z in omega (arith, y, low)) (λ z. omega (arith, z, under)) (down q m c) }, is.1)
fall_first B C n total (Err Memory) e f up down no_one g w = subst (IsFound C total) (sym w) tt

judged_not : (B : RuleOfDer → ℕ → Type 0) (P : ℕ → Type 0) (r : Result Bool Refusal) → ((j : ℕ) → P j → (q : RuleOfDer) (m : ℕ) → B q m → ⊥) → Decides P r → MatchResult r (λ b. (q : RuleOfDer) (m : ℕ) → B q m → ⊥) (λ f. Unit {0})
judged_not B P (Ok b) f d = f d.0 d.1
judged_not B P (Err e) f d = tt

pub list_fallen : {s : List Resolved} {law : HeadersApart} {sch : IsSchema s} {t n : ℕ} {ss : List Step} {ws : Row} {k : Kind} {x : List ℕ} {u : TypeId} {sorted : Bool} → ValueNot s u.index → (l : AsList law sch t n ss ws k x u sorted) (m : ℕ) (judged : Result Bool Refusal) (e : Refusal) → IsTrue sorted × FallsAt AtMost l.encodings x m → Judges (λ j. Elements s Distinguished u.index ws j l.encodings) (ElementsBreak s u.index ws l.encodings) (length x) judged → IsWithFall m judged e → (IsRefused e → (j : ℕ) → ContentsEncode s Distinguished k (list ws) j (form_of k) x → ⊥) × IsFound (ContentsBreak s k (list ws) (form_of k) x) (length x) e
list_fallen {s} {ws = ws} {k = k} {x = x} {u = u} nb l m judged e f g w = (
  λ i j h. falls_not f.1.1 ((l.back j h).1 f.0),
  fall_first (ElementsBreak s u.index ws l.encodings) (ContentsBreak s k (list ws) (form_of k) x) m (length x) judged e (l.falls f.0 f.1.0 m f.1.1, f.1.2) l.breaks
      (λ q p b. ⊎_elim (λ z. inl z) (λ z. inr (sym (fall_one f.1.1 z.1.1).1)) (l.only q p b))
      (judged_not (ElementsBreak s u.index ws l.encodings) (λ j. Elements s Distinguished u.index ws j l.encodings) judged (λ j es q p b. elements_not nb es b) g.0) g.1 w,
)
