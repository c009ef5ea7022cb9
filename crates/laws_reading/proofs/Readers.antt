-- Octets are read as what they encode: values, one by one, and headers around them.
use Rattle.std.proofs.Common.{arith, ◌≡◌, ℕ, zero, suc, ◌+◌, ◌<◌, ◌≤◌, Bool, true, List, [], ◌∷◌, ◌++◌, length, take, refl, sym, ap, subst, ◌∙◌, append_assoc, length-append}
use Rattle.std.proofs.lemmas.List.{append-nil}
use Rattle.std.proofs.Math.Seq.{take-append_seam}
use Rattle.asn_base.specs.declared.tag.Tag.{Tag}
use Rattle.asn_base.specs.declared.schema.TypeId.{TypeId}
use Rattle.asn_base.specs.Abstract.{AbstractValue, boolean, integer, enumerated, bits, octets, text, null, oid, relative_oid, fields, list, alternative}
use Rattle.asn_base.specs.Types.{TypeNumber, Kind, Resolved, Is}
use Rattle.asn_base.specs.Typed.{nodes, row_nodes}
use Rattle.asn_base.specs.Tags.{First, IsChoice}
use Rattle.encodings.specs.Rules.{Basic}
use Rattle.encodings.specs.Header.{Header, identifier}
use Rattle.encodings.specs.Encoding.{Framed, bare, innermost, outer}
use Rattle.codec_code.specs.declared.step.Head.{Head as Head'}
use Rattle.codec_code.specs.declared.step.RowKind.TheVariants as rows
use Rattle.codec_code.specs.declared.step.Step.{Step}
use Rattle.codec_code.specs.declared.step.Step.TheVariants.{Head}
use Rattle.codec_code.specs.Routines.{routine_at, id_of, heads, row_of, is_constructed, body, ends}
use Rattle.codec_source.specs.Events.{Event, begins, ends as ends', opens, closes}
use Rattle.codec_source.specs.Reading.{Does, finished, goes_on, head, ending, Reads}
use Rattle.octet_answers.specs.Units.{UnitAt}
use Rattle.octet_answers.specs.States.{State, following, begun_at, ended_at, opened_at, closed_at}
use Rattle.octet_answers.specs.Answers.{Answers, Takes}
use Rattle.laws_reading.proofs.Runs.{routine_is}
use Rattle.laws_reading.proofs.Sets.{size_some}

-- an encoding that begins with this tag
pub record Fronted (g : Tag) (o : List ℕ) : Type 0 where
  pub constructed : Bool
  pub header : List ℕ
  pub contents : List ℕ
  pub is_header : Header g constructed (length contents) header
  pub whole : o ≡ header ++ contents

pub front_some : {g : Tag} {o : List ℕ} → Fronted g o → 1 ≤ length o
front_some {g} f =
    let h = f.is_header in
    let a = ap length f.whole in
    let b = length-append f.header f.contents in
    let c = ap length h.whole in
    let d = length-append (identifier g.class g.number f.constructed) h.size in
    let e = size_some h.is_size in
    omega (arith, a, b, c, d, e)

pub unit_at : {g : Tag} {o : List ℕ} (f : Fronted g o) (rest all : List ℕ) → all ≡ o ++ rest → length o ≤ 16777216 → UnitAt g f.constructed (length f.header) f.contents rest all
unit_at f rest all e l = record {
  header = f.header;
  is_header = f.is_header;
  few = (let a = ap length f.whole in let b = length-append f.header f.contents in omega arith);
  long = refl;
  whole = e ∙ ap (λ q. q ++ rest) f.whole ∙ append_assoc f.header f.contents rest;
}

-- the state after what was read
pub record Past (x y : State) (rest : List ℕ) (more : List ℕ) (m : ℕ) : Type 0 where
  pub octets : y.here.octets ≡ rest
  pub form : y.here.constructed ≡ x.here.constructed
  pub from : y.here.from ≡ x.here.from
  pub outer : y.outer ≡ x.outer
  pub values : y.values ≡ x.values
  pub schema : y.schema ≡ x.schema
  pub marks : y.marks ≡ x.marks ++ more
  pub budget : y.budget + m ≡ x.budget

pub stayed : (x y : State) (rest : List ℕ) → y.here.octets ≡ rest → y.here.constructed ≡ x.here.constructed → y.here.from ≡ x.here.from → y.outer ≡ x.outer → y.values ≡ x.values → y.schema ≡ x.schema → y.marks ≡ x.marks → y.budget ≡ x.budget → Past x y rest [] 0
stayed x y rest a b c d e f g h = record { octets = a; form = b; from = c; outer = d; values = e; schema = f; marks = g ∙ sym (append-nil x.marks); budget = omega arith }

pub past_both : {x y z : State} {r q : List ℕ} {a b : List ℕ} {m n : ℕ} → Past x y r a m → Past y z q b n → Past x z q (a ++ b) (m + n)
past_both {x} {y} {z} {a = a} {b = b} p w = record {
  octets = w.octets;
  form = w.form ∙ p.form;
  from = w.from ∙ p.from;
  outer = w.outer ∙ p.outer;
  values = w.values ∙ p.values;
  schema = w.schema ∙ p.schema;
  marks = w.marks ∙ ap (λ q. q ++ b) p.marks ∙ append_assoc x.marks a b;
  budget = (let c = p.budget in let d = w.budget in omega arith);
}

-- the values in a value
abbrev pub inner_nodes : AbstractValue → ℕ
inner_nodes (fields vs) = row_nodes vs
inner_nodes (list vs) = row_nodes vs
inner_nodes (alternative i v) = nodes v
inner_nodes v = 0

pub nodes_is : (w : AbstractValue) → nodes w ≡ suc (inner_nodes w)
nodes_is (boolean b) = refl
nodes_is (integer z) = refl
nodes_is (enumerated z) = refl
nodes_is (bits b) = refl
nodes_is (octets o) = refl
nodes_is (text o) = refl
nodes_is null = refl
nodes_is (oid ns) = refl
nodes_is (relative_oid ns) = refl
nodes_is (fields vs) = refl
nodes_is (list vs) = refl
nodes_is (alternative i v) = refl

-- room for one more
some_left : (n : ℕ) → 1 ≤ n → (m : ℕ) × (n ≡ suc m)
some_left zero l = absurd (omega arith)
some_left (suc n) l = (n, refl)

module _ (s : List Resolved) (tk : (a b : State) (e : Event) → Answers a e b → Takes a e b) where
  abbrev pub routine : ℕ → List Step
  routine = λ u. routine_at s u

  -- a state from which values of n levels, l levels of headers and m nodes can be read
  pub record Ready (x : State) (n l m : ℕ) : Type 0 where
    pub schema : x.schema ≡ s
    pub values : n + length x.values ≤ 64
    pub levels : l + length x.outer ≤ 400
    pub budget : m ≤ x.budget

  -- a value is read
  pub record ValueTo (t : TypeNumber) (x : State) (rest : List ℕ) (m : ℕ) : Type 0 where
    pub state : State
    pub reads : Reads routine Takes (id_of t) x state
    pub past : Past x state rest [] m

  -- an encoding from which a value of the type is read
  pub record Reader (t : TypeNumber) (o : List ℕ) (n l m : ℕ) : Type 0 where
    pub tag : Tag
    pub first : First s t tag
    pub front : Fronted tag o
    pub goes : (x : State) (rest : List ℕ) → Ready x n l m → length o ≤ 16777216 → x.here.octets ≡ o ++ rest → ValueTo t x rest m

  pub wider : {t : TypeNumber} {o : List ℕ} {n l m : ℕ} (k : ℕ) → l ≤ k → Reader t o n l m → Reader t o n k m
  wider k l r = record {
    tag = r.tag;
    first = r.first;
    front = r.front;
    goes = λ x rest a b e. r.goes x rest (record { schema = a.schema; values = a.values; levels = (let c = a.levels in omega arith); budget = a.budget }) b e;
  }

  -- within contents of a kind
  pub record Inside (c : Bool) (x : State) (rest : List ℕ) : Type 0 where
    pub form : x.here.constructed ≡ c
    pub end : rest ≡ []
    pub fresh : x.here.from ≡ length x.marks

  abbrev pub IsInnermost : TypeNumber → State → Type 0
  IsInnermost t x = (vs : List TypeId) × (x.values ≡ vs ++ id_of t ∷ [])

  -- contents are read
  pub record BodyTo (k : Kind) (x : State) (rest : List ℕ) (m : ℕ) : Type 0 where
    pub state : State
    pub leads : (j : ℕ) (z : State) → Does routine Takes (ends j) state z → Does routine Takes (body s k ++ ends j) x z
    pub more : List ℕ
    pub past : Past x state rest more m
    pub none : IsChoice k → more ≡ []

  abbrev pub BodyReader : TypeNumber → Kind → Bool → List ℕ → ℕ → ℕ → ℕ → Type 0
  BodyReader t k c y n l m = (x : State) (rest : List ℕ) → Ready x n l m → length y ≤ 16777216 → x.here.octets ≡ y ++ rest → IsInnermost t x → ((IsChoice k → ⊥) → Inside c x rest) → BodyTo k x rest m

  -- ---- headers

  pub record FrameTo (tags : List Tag) (k : Kind) (x : State) (rest : List ℕ) (m : ℕ) : Type 0 where
    pub state : State
    pub leads : (j : ℕ) (z : State) → Does routine Takes (ends j) state z → Does routine Takes (heads tags (row_of k) ++ (body s k ++ ends (length tags + j))) x z
    pub past : Past x state rest [] m

  -- what is read within a header
  record WithinTo (ss : ℕ → List Step) (d : State) (m : ℕ) : Type 0 where
    state : State
    leads : (j : ℕ) (z : State) → Does routine Takes (ends j) state z → Does routine Takes (ss j) d z
    more : List ℕ
    past : Past d state [] more m

  record WrappedTo (h : Head') (ss : ℕ → List Step) (x : State) (rest : List ℕ) (m : ℕ) : Type 0 where
    state : State
    leads : (j : ℕ) (z : State) → Does routine Takes (ends j) state z → Does routine Takes (Head h ∷ ss (suc j)) x z
    past : Past x state rest [] m

  wrap : (h : Head') (c : Bool) (y hd : List ℕ) (ss : ℕ → List Step) (x : State) (rest : List ℕ) (m : ℕ)
      → Header h.tag c (length y) hd
      → (h.constructed ≡ true → c ≡ true)
      → x.here.octets ≡ (hd ++ y) ++ rest
      → length (hd ++ y) ≤ 16777216
      → length x.outer < 400
      → WithinTo ss (opened_at x c (length hd) y rest) m
      → WrappedTo h ss x rest m
  wrap h c y hd ss x rest m header form e l few w =
      let d = opened_at x c (length hd) y rest in
      let open_contents = following x.here (length hd) y rest in
      let b = w.state in
      let p = w.past in
      let z = closed_at b open_contents x.outer in
      let u : UnitAt h.tag c (length hd) y rest x.here.octets = record { header = hd; is_header = header; few = (let q = length-append hd y in omega arith); long = refl; whole = e ∙ append_assoc hd y rest } in
      let o = tk x d (opens h) (record { constructed = c; count = length hd; contents = y; rest = rest; unit = u; form = form; few_levels = few; is = refl }) in
      let q = tk b z closes (record { open_contents = open_contents; others = x.outer; none_left = p.octets; is_open = p.outer; is = refl }) in
      record {
        state = z;
        leads = λ j v dd. goes_on (head o) (w.leads (suc j) v (goes_on (ending q) dd));
        past = record {
          octets = refl;
          form = refl;
          from = refl;
          outer = refl;
          values = p.values;
          schema = p.schema;
          marks = ap (λ i. take i b.marks) p.from ∙ ap (λ i. take (length x.marks) i) p.marks ∙ take-append_seam x.marks w.more ∙ sym (append-nil x.marks);
          budget = p.budget;
        };
      }

  pub framed : (tags : List Tag) (t : TypeNumber) (k : Kind) {c : Bool} {y o : List ℕ} {n l m : ℕ}
      → Framed Basic tags c y o
      → (tags ≡ [] → IsChoice k)
      → (is_constructed (row_of k) ≡ true → c ≡ true)
      → BodyReader t k c y n l m
      → (x : State) (rest : List ℕ)
      → Ready x n (length tags + l) m
      → length o ≤ 16777216
      → x.here.octets ≡ o ++ rest
      → IsInnermost t x
      → FrameTo tags k x rest m
  framed [] t k {c = c} {y = y} {m = m} bare choice form f x rest r l e i =
      let b = f x rest (record { schema = r.schema; values = r.values; levels = (let q = r.levels in omega arith); budget = r.budget }) l e i (λ q. absurd (q (choice refl))) in
      record {
        state = b.state;
        leads = λ j z d. subst (λ q. Does routine Takes (body s k ++ ends q) x z) (let q : j ≡ 0 + j = omega arith in q) (b.leads j z d);
        past = subst (λ q. Past x b.state rest q m) (b.none (choice refl)) b.past;
      }
  framed (g ∷ []) t k {c = c} {y = y} {m = m} (innermost {h = hd} h) choice form f x rest r l e i =
      let hh : Head' = record { tag = g; constructed = is_constructed (row_of k); row = row_of k } in
      let d = opened_at x c (length hd) y rest in
      let out = length-append x.outer (following x.here (length hd) y rest ∷ []) in
      let q = r.levels in
      let len = length-append hd y in
      let b = f d [] (record { schema = r.schema; values = r.values; levels = omega arith; budget = r.budget }) (omega arith) (sym (append-nil y)) i (λ n. record { form = refl; end = refl; fresh = refl }) in
      let w = wrap hh c y hd (λ j. body s k ++ ends j) x rest m h.header form e l (omega arith) (record { state = b.state; leads = b.leads; more = b.more; past = b.past }) in
      record {
        state = w.state;
        leads = λ j z dd. subst (λ v. Does routine Takes (Head hh ∷ (body s k ++ ends v)) x z) (let v : suc j ≡ 1 + j = omega arith in v) (w.leads j z dd);
        past = w.past;
      }
  framed (g ∷ u ∷ ts) t k {c = c} {y = y'} {m = m} (outer {h = hd} {y = v} fr h) choice form f x rest r l e i =
      let hh : Head' = record { tag = g; constructed = true; row = rows.Wrap } in
      let d = opened_at x true (length hd) v rest in
      let out = length-append x.outer (following x.here (length hd) v rest ∷ []) in
      let q = r.levels in
      let len = length-append hd v in
      let b = framed (u ∷ ts) t k fr (λ n. absurd (let w = ap length n in omega arith)) form f d [] (record { schema = r.schema; values = r.values; levels = omega arith; budget = r.budget }) (omega arith) (sym (append-nil v)) i in
      let w = wrap hh true v hd (λ j. heads (u ∷ ts) (row_of k) ++ (body s k ++ ends (length (u ∷ ts) + j))) x rest m h.header (λ n. refl) e l (omega arith)
      (record { state = b.state; leads = b.leads; more = []; past = b.past }) in
      record {
        state = w.state;
        leads = λ j z dd. subst (λ a. Does routine Takes (Head hh ∷ (heads (u ∷ ts) (row_of k) ++ (body s k ++ ends a))) x z) (let a : length (u ∷ ts) + suc j ≡ length (g ∷ u ∷ ts) + j = omega arith in a) (w.leads j z dd);
        past = w.past;
      }

  -- ---- values

  pub reader : (t : TypeNumber) (tags : List Tag) (k : Kind) (w : AbstractValue) {c : Bool} {y o : List ℕ} {n l : ℕ} (g : Tag)
      → Is s t tags k
      → Framed Basic tags c y o
      → (tags ≡ [] → IsChoice k)
      → (is_constructed (row_of k) ≡ true → c ≡ true)
      → BodyReader t k c y n l (inner_nodes w)
      → First s t g
      → Fronted g o
      → Reader t o (suc n) (length tags + l) (nodes w)
  reader t tags k w {o = o} {n = n} {l = l} g i fr choice form f first front = record { tag = g; first = first; front = front; goes = by }
    where
      by : (x : State) (rest : List ℕ) → Ready x (suc n) (length tags + l) (nodes w) → length o ≤ 16777216 → x.here.octets ≡ o ++ rest → ValueTo t x rest (nodes w)
      by x rest r q e =
          let many = nodes_is w in
          let budget = some_left x.budget (let z = r.budget in omega arith) in
          let a = begun_at x (id_of t) budget.0 in
          let len = length-append x.values (id_of t ∷ []) in
          let begun = tk x a (begins (id_of t)) (record { left = budget.0; has_budget = budget.1; few_levels = (let z = r.values in omega arith); is = refl }) in
          let v = framed tags t k fr choice form f a rest (record { schema = r.schema; values = (let z = r.values in omega arith); levels = r.levels; budget = (let z = r.budget in let y = budget.1 in omega arith) }) q e (x.values, refl) in
          let b = v.state in
          let p = v.past in
          let z = ended_at b x.values in
          let ended = tk b z ends' (record { value = id_of t; others = x.values; is_open = p.values; is = refl }) in
          let zero_tail : length tags ≡ length tags + 0 = omega arith in
          let done = subst (λ u. Does routine Takes (heads tags (row_of k) ++ (body s k ++ ends u)) a b) (sym zero_tail) (v.leads 0 b finished) in
          record {
            state = z;
            reads = record { first = a; last = b; begun = begun; done = subst (λ u. Does routine Takes u a b) (sym (routine_is s t tags k i)) done; ended = ended };
            past = record {
              octets = p.octets;
              form = p.form;
              from = p.from;
              outer = p.outer;
              values = refl;
              schema = p.schema;
              marks = p.marks;
              budget = (let y = p.budget in let u = budget.1 in omega arith);
            };
          }
