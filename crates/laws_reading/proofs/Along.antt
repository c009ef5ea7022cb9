-- Octets that are read from one state to another, all else being as before.
use Rattle.std.proofs.Common.{arith, ◌≡◌, ℕ, zero, suc, ◌+◌, Bool, List, [], ◌∷◌, ◌++◌, length, take, refl, sym, ap, subst, ◌∙◌, append_assoc, length-append}
use Rattle.std.proofs.lemmas.List.{append-nil}
use Rattle.std.proofs.Math.Seq.{take-append_seam}
use Rattle.std.specs.Prelude.{replicate}
use Rattle.std.specs.Int.Digits.{AllBelowBase}
use Rattle.asn_base.specs.declared.tag.Tag.{Tag}
use Rattle.asn_base.specs.declared.schema.TypeId.{TypeId}
use Rattle.codec_code.specs.declared.step.Head.{Head}
use Rattle.encodings.specs.Header.{Header}
use Rattle.octet_answers.specs.Units.{UnitAt}
use Rattle.octet_answers.specs.States.{State, Token, component, chosen, begun, ended, held, passed, following}
use Rattle.octet_answers.specs.Answers.{Begins, Ends, Opens, Closes}
use Rattle.laws_reading.specs.TokensShow.{skipped_in}

-- these octets were at the front and were read; the contents end where they did
pub record Along (a b : State) (o : List ℕ) : Type 0 where
  pub octets : a.here.octets ≡ o ++ b.here.octets
  pub form : b.here.constructed ≡ a.here.constructed
  pub from : b.here.from ≡ a.here.from
  pub outer : b.outer ≡ a.outer
  pub values : b.values ≡ a.values
  pub schema : b.schema ≡ a.schema
  pub ends : b.here.at + length b.here.octets ≡ a.here.at + length a.here.octets

pub stays : (a b : State) → b.here ≡ a.here → b.outer ≡ a.outer → b.values ≡ a.values → b.schema ≡ a.schema → Along a b []
stays a b h o v s = record {
  octets = sym (ap (λ w. w.octets) h);
  form = ap (λ w. w.constructed) h;
  from = ap (λ w. w.from) h;
  outer = o;
  values = v;
  schema = s;
  ends = ap (λ w. w.at + length w.octets) h;
}

pub both : {a b c : State} {o p : List ℕ} → Along a b o → Along b c p → Along a c (o ++ p)
both {a} {b} {c} {o} {p} x y = record {
  octets = x.octets ∙ ap (λ q. o ++ q) y.octets ∙ sym (append_assoc o p c.here.octets);
  form = y.form ∙ x.form;
  from = y.from ∙ x.from;
  outer = y.outer ∙ x.outer;
  values = y.values ∙ x.values;
  schema = y.schema ∙ x.schema;
  ends = y.ends ∙ x.ends;
}

pub along_as : {a b : State} {o p : List ℕ} → o ≡ p → Along a b o → Along a b p
along_as {a} {b} e x = subst (λ q. Along a b q) e x

-- ---- lists with one more at the end

abbrev tail_of : {A : Type 0} → List A → List A
tail_of [] = []
tail_of (x ∷ xs) = xs

abbrev head_or : {A : Type 0} → A → List A → A
head_or d [] = d
head_or d (x ∷ xs) = x

pub last_same : {A : Type 0} (xs ys : List A) (x y : A) → xs ++ x ∷ [] ≡ ys ++ y ∷ [] → (xs ≡ ys) × (x ≡ y)
last_same [] [] x y e = (refl, ap (head_or x) e)
last_same [] (b ∷ []) x y e = absurd (let l = ap length e in omega arith)
last_same [] (b ∷ c ∷ ys) x y e = absurd (let l = ap length e in omega arith)
last_same (a ∷ []) [] x y e = absurd (let l = ap length e in omega arith)
last_same (a ∷ c ∷ xs) [] x y e = absurd (let l = ap length e in omega arith)
last_same (a ∷ xs) (b ∷ ys) x y e =
    let r = last_same xs ys x y (ap tail_of e) in
    let h : a ≡ b = ap (head_or a) e in
    let t : xs ≡ ys = r.0 in (cc, r.1)

-- ---- octets below 256

pub below_rest : (a b : List ℕ) → AllBelowBase 256 (a ++ b) → AllBelowBase 256 b
below_rest [] b f = f
below_rest (x ∷ a) b f = below_rest a b f.1

pub below_front : (a b : List ℕ) → AllBelowBase 256 (a ++ b) → AllBelowBase 256 a
below_front [] b f = tt
below_front (x ∷ a) b f = (f.0, below_front a b f.1)

pub below_after : {a b : State} {o : List ℕ} → Along a b o → AllBelowBase 256 a.here.octets → AllBelowBase 256 b.here.octets
below_after {a} {b} {o} x f = below_rest o b.here.octets (subst (AllBelowBase 256) x.octets f)

pub below_contents : {g : Tag} {c : Bool} {k : ℕ} {x rest o : List ℕ} → UnitAt g c k x rest o → AllBelowBase 256 o → AllBelowBase 256 x
below_contents {x = x} {rest = rest} u f = below_front x rest (below_rest u.header (x ++ rest) (subst (AllBelowBase 256) u.whole f))

-- ---- headers that are opened and closed

-- octets after a header and its contents end where all of them do
pub unit_ends : {g : Tag} {c : Bool} {k : ℕ} {x rest o : List ℕ} (at : ℕ) → UnitAt g c k x rest o → (at + (k + length x)) + length rest ≡ at + length o
unit_ends {x = x} {rest = rest} at u =
    let e = ap length u.whole in
    let f = length-append u.header (x ++ rest) in
    let h = length-append x rest in
    let l = u.long in
    omega arith

pub record Framed (a b : State) (h : Head) (c : Bool) (y : List ℕ) : Type 0 where
  pub header : List ℕ
  pub is_header : Header h.tag c (length y) header
  pub along : Along a b (header ++ y)

pub framed : {a d e b : State} {h : Head} {y : List ℕ} → (o : Opens a h d) → Along d e y → Closes e b → Framed a b h o.constructed y
framed {a} {d} {e} {b} {h} {y} o al c =
    let inside : o.contents ≡ y = sym (ap (λ q. q.here.octets) o.is) ∙ al.octets ∙ ap (λ q. y ++ q) c.none_left ∙ append-nil y in
    let all : a.outer ++ following a.here o.count o.contents o.rest ∷ [] ≡ c.others ++ c.open_contents ∷ [] = sym (ap (λ q. q.outer) o.is) ∙ sym al.outer ∙ c.is_open in
    let p = last_same a.outer c.others (following a.here o.count o.contents o.rest) c.open_contents all in
    let w : b.here ≡ following a.here o.count o.contents o.rest = ap (λ q. q.here) c.is ∙ sym p.1 in
    record {
      header = o.unit.header;
      is_header = subst (λ q. Header h.tag o.constructed (length q) o.unit.header) inside o.unit.is_header;
      along = record {
        octets = o.unit.whole ∙ sym (append_assoc o.unit.header o.contents o.rest) ∙ ap (λ q. (o.unit.header ++ q) ++ o.rest) inside ∙ ap (λ q. (o.unit.header ++ y) ++ q) (sym (ap (λ q. q.octets) w));
        form = ap (λ q. q.constructed) w;
        from = ap (λ q. q.from) w;
        outer = ap (λ q. q.outer) c.is ∙ sym p.0;
        values = ap (λ q. q.values) c.is ∙ al.values ∙ ap (λ q. q.values) o.is;
        schema = ap (λ q. q.schema) c.is ∙ al.schema ∙ ap (λ q. q.schema) o.is;
        ends = ap (λ q. q.at + length q.octets) w ∙ unit_ends a.here.at o.unit;
      };
    }

-- the marks that were there when the header was opened
pub marks_closed : {a d e b : State} {h : Head} {y : List ℕ} (more : List ℕ) → Opens a h d → Along d e y → Closes e b → e.marks ≡ d.marks ++ more → b.marks ≡ a.marks
marks_closed {a} {d} {e} {b} {h} {y} more o al c m =
    let f : e.here.from ≡ length a.marks = al.from ∙ ap (λ q. q.here.from) o.is in
    let g : e.marks ≡ a.marks ++ more = m ∙ ap (λ q. q.marks ++ more) o.is in
    ap (λ q. q.marks) c.is ∙ ap (λ q. take q e.marks) f ∙ ap (λ q. take (length a.marks) q) g ∙ take-append_seam a.marks more

-- ---- values that begin and end

pub along_value : {x a b z : State} {t : TypeId} {o : List ℕ} → Begins x t a → Along a b o → Ends b z → Along x z o
along_value {x} {a} {b} {z} {t} {o} g al e =
    let v : x.values ++ t ∷ [] ≡ e.others ++ e.value ∷ [] = sym (ap (λ q. q.values) g.is) ∙ sym al.values ∙ e.is_open in
    let p = last_same x.values e.others t e.value v in
    record {
      octets = sym (ap (λ q. q.here.octets) g.is) ∙ al.octets ∙ ap (λ q. o ++ q) (sym (ap (λ q. q.here.octets) e.is));
      form = ap (λ q. q.here.constructed) e.is ∙ al.form ∙ ap (λ q. q.here.constructed) g.is;
      from = ap (λ q. q.here.from) e.is ∙ al.from ∙ ap (λ q. q.here.from) g.is;
      outer = ap (λ q. q.outer) e.is ∙ al.outer ∙ ap (λ q. q.outer) g.is;
      values = ap (λ q. q.values) e.is ∙ sym p.0;
      schema = ap (λ q. q.schema) e.is ∙ al.schema ∙ ap (λ q. q.schema) g.is;
      ends = ap (λ q. q.here.at + length q.here.octets) e.is ∙ al.ends ∙ ap (λ q. q.here.at + length q.here.octets) g.is;
    }

-- ---- tokens

pub emitted_both : {A : Type 0} {b c : List A} (a x y : List A) → b ≡ a ++ x → c ≡ b ++ y → c ≡ a ++ (x ++ y)
emitted_both a x y e f = f ∙ ap (λ q. q ++ y) e ∙ append_assoc a x y

pub emitted_closed : {a d e b : State} {h : Head} (ts : List Token) → Opens a h d → Closes e b → e.emitted ≡ d.emitted ++ ts → b.emitted ≡ a.emitted ++ ts
emitted_closed ts o c m = ap (λ q. q.emitted) c.is ∙ m ∙ ap (λ q. q.emitted ++ ts) o.is

pub emitted_value : {x a b z : State} {t : TypeId} (ts : List Token) → Begins x t a → b.emitted ≡ a.emitted ++ ts → Ends b z → z.emitted ≡ x.emitted ++ begun t ∷ (ts ++ ended ∷ [])
emitted_value {x} {a} {t = t} ts g m e = emitted_both x.emitted (begun t ∷ []) (ts ++ ended ∷ []) (ap (λ q. q.emitted) g.is) (emitted_both a.emitted ts (ended ∷ []) m (ap (λ q. q.emitted) e.is))

pub passed_both : (xs ys : List Token) → skipped_in (xs ++ ys) ≡ skipped_in xs + skipped_in ys
passed_both [] ys = omega arith
passed_both (passed ∷ xs) ys = let r = passed_both xs ys in omega arith
passed_both (component i ∷ xs) ys = passed_both xs ys
passed_both (chosen i ∷ xs) ys = passed_both xs ys
passed_both (begun t ∷ xs) ys = passed_both xs ys
passed_both (ended ∷ xs) ys = passed_both xs ys
passed_both (held k c x at ∷ xs) ys = passed_both xs ys

pub passed_times : (n : ℕ) → skipped_in (replicate n passed) ≡ n
passed_times zero = refl
passed_times (suc n) = ap suc (passed_times n)
