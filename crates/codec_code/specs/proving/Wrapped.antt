-- Contents with their tags, as events, as a tree and as octets.
use Rattle.std.proofs.Common.{◌≡◌, ℕ, zero, suc, ◌+◌, ◌<◌, ◌≤◌, ◌^◌, Bool, true, List, [], ◌∷◌, ◌++◌, length, refl, sym, ap, subst, ◌∙◌, arith, append_assoc, append-nil, length-append}
use Rattle.std.specs.Prelude.{replicate}
use Rattle.asn_base.specs.declared.tag.Tag.{Tag}
use Rattle.encodings.specs.Rules.{Distinguished}
use Rattle.encodings.specs.Header.{HeaderBy}
use Rattle.encodings.specs.Fewest.{shortest_header}
use Rattle.encodings.specs.Encoding.{Framed, bare, innermost, outer}
use Rattle.codec_code.specs.declared.step.RowKind.{RowKind}
use Rattle.codec_code.specs.declared.step.RowKind.TheVariants.{Wrap}
use Rattle.codec_code.specs.Routines.{is_constructed}
use Rattle.codec_code.specs.Events.{Event, opens, closes, Tree, done, within, flat, HasOctets}

abbrev pub opened : List Tag → RowKind → List Event
opened [] k = []
opened (g ∷ []) k = opens g (is_constructed k) k ∷ []
opened (g ∷ f ∷ gs) k = opens g true Wrap ∷ opened (f ∷ gs) k

abbrev pub closed_by : ℕ → List Event
closed_by n = replicate n closes

-- the innermost header is made by a function of its tag; without tags the tree is b
abbrev pub wrapped : List Tag → (Tag → Tree) → Tree → Tree
wrapped [] made b = b
wrapped (g ∷ []) made b = made g
wrapped (g ∷ f ∷ gs) made b = within g true Wrap (wrapped (f ∷ gs) made b) done

replicate_last : (n : ℕ) → closed_by n ++ closes ∷ [] ≡ closed_by (suc n)
replicate_last zero = refl
replicate_last (suc n) = ap (λ k. closes ∷ k) (replicate_last n)

pub flat_wrapped : (tags : List Tag) (k : RowKind) (made : Tag → Tree) (b : Tree) (inner : List Event)
    → ((g : Tag) → flat (made g) ≡ opens g (is_constructed k) k ∷ (inner ++ closes ∷ []))
    → (tags ≡ [] → flat b ≡ inner)
    → opened tags k ++ (inner ++ closed_by (length tags)) ≡ flat (wrapped tags made b)
flat_wrapped [] k made b inner f h = append-nil inner ∙ sym (h refl)
flat_wrapped (g ∷ []) k made b inner f h = sym (f g)
flat_wrapped (g ∷ g' ∷ gs) k made b inner f h =
    let n = length (g' ∷ gs) in
    let os = opened (g' ∷ gs) k in
    let e : os ++ (inner ++ closed_by (suc n)) ≡ (os ++ (inner ++ closed_by n)) ++ closes ∷ [] =
    sym (append_assoc os (inner ++ closed_by n) (closes ∷ [])
    ∙ ap (λ q. os ++ q) (append_assoc inner (closed_by n) (closes ∷ []) ∙ ap (λ q. inner ++ q) (replicate_last n))) in
    ap (λ q. opens g true Wrap ∷ q)
    (e ∙ ap (λ q. q ++ closes ∷ []) (flat_wrapped (g' ∷ gs) k made b inner f (λ z. absurd (cc))))

pub record Framed_in (tags : List Tag) (c : Bool) (P : List ℕ → Type 0) (o : List ℕ) : Type 0 where
  pub contents : List ℕ
  pub are : P contents
  pub more : length contents ≤ length o
  pub framed : length o < 2 ^ 64 → Framed Distinguished tags c contents o

-- contents for which P holds, in one header
abbrev pub InHeader : (List ℕ → Type 0) → Tag → Bool → List ℕ → Type 0
InHeader P g c o = (x : List ℕ) × P x × (o ≡ shortest_header g c (length x) ++ x)

module _ (header : (t : Tag) (c : Bool) (n : ℕ) → n < 2 ^ 64
    → HeaderBy Distinguished t c n (shortest_header t c n)) where
  pub framed_in : (tags : List Tag) (c : Bool) (made : Tag → Tree) (b : Tree) (P : List ℕ → Type 0)
      → ((g : Tag) (o : List ℕ) → HasOctets (made g) o → InHeader P g c o)
      → (tags ≡ [] → (o : List ℕ) → HasOctets b o → P o)
      → (o : List ℕ) → HasOctets (wrapped tags made b) o → Framed_in tags c P o
  framed_in [] c made b P f h o s = record { contents = o; are = h refl o s; more = omega arith; framed = λ lt. bare }
  framed_in (g ∷ []) c made b P f h o s =
      let p = f g o s in
      let d = shortest_header g c (length p.0) in
      let n : length o ≡ length d + length p.0 = ap length p.2 ∙ length-append d p.0 in
      record {
        contents = p.0;
        are = p.1;
        more = omega (arith, n);
        framed = λ lt. subst (λ q. Framed Distinguished (g ∷ []) c p.0 q) (sym p.2)
            (innermost (header g c (length p.0) (omega (arith, n))));
      }
  framed_in (g ∷ g' ∷ gs) c made b P f h o s =
      let y = s.0 in
      let d = shortest_header g true (length y) in
      let p = framed_in (g' ∷ gs) c made b P f (λ z. absurd (cc)) y s.2 in
      let e : o ≡ d ++ y = s.4 ∙ ap (λ q. d ++ (y ++ q)) s.3 ∙ ap (λ q. d ++ q) (append-nil y) in
      let n : length o ≡ length d + length y = ap length e ∙ length-append d y in
      record {
        contents = p.contents;
        are = p.are;
        more = (let m = p.more in omega (arith, m, n));
        framed = λ lt. let k : length y < 2 ^ 64 = omega (arith, n) in subst
            (λ q. Framed Distinguished (g ∷ g' ∷ gs) c p.contents q) (sym e)
            (outer (p.framed k) (header g true (length y) k));
      }
