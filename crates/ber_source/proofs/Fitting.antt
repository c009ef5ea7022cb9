-- Tokens that fit, one by one.
use Rattle.std.proofs.Common.{arith, ◌≡◌, ℕ, zero, suc, ◌*◌, ◌-◌, Bool, true, false, List, [], ◌∷◌, ◌++◌, length, refl, sym, ap, subst, ◌∙◌}
use Rattle.std.specs.Prelude.{Option, Some, take, flat_map, ◌≤◌}
use Rattle.asn_base.specs.declared.tag.Tag.{Tag}
use Rattle.asn_base.specs.Abstract.{AbstractValue, oid, relative_oid, bits_of_octet}
use Rattle.asn_base.specs.Types.{Kind, an_object_identifier, a_relative_oid, Resolved}
use Rattle.asn_base.specs.Typed.{IsPrimitive, fits_oid, fits_relative_oid, IsObjectIdentifier, IsRelativeOid}
use Rattle.encodings.specs.declared.leaf_kind.LeafKind.{LeafKind}
use Rattle.octet_answers.specs.Answers.{AreContents}
use Rattle.octet_answers.specs.States.{Token}
use Rattle.primitive_reader.specs.Leaves.{Denotes, IsReadAs, bits_but}
use Rattle.primitive_reader.specs.declared.leaf.Leaf.{Leaf}
use Rattle.ber_source.specs.PrimitiveValue.{AreReadAs}
use Rattle.ber_source.specs.declared.token.PrimitiveValue.TheVariants.{Whole}
use Rattle.ber_source.specs.declared.judge.Judge.{Judge}
use Rattle.ber_source.proofs.Leaves.{eight}
use Rattle.ber_source.proofs.Passed.{some_same}
use Rattle.ber_source.specs.Fits.{Last, after, after_all, at_first, Fits, AllFit, IsJudge}

after_one : (l : Last) (ts : List Token) (t : Token) → after_all l (ts ++ t ∷ []) ≡ after (after_all l ts) t
after_one l [] t = refl
after_one l (u ∷ ts) t = after_one (after l u) ts t

fit_one : (s : List Resolved) (l : Last) (ts : List Token) (t : Token) → AllFit s l ts → Fits s (after_all l ts) t → AllFit s l (ts ++ t ∷ [])
fit_one s l [] t a f = (f, tt)
fit_one s l (u ∷ ts) t a f = (a.0, fit_one s (after l u) ts t a.1 f)

abbrev last_in : Judge → Last
last_in j = record { type = j.last; fresh = j.fresh }

-- a judge that knows one token more
pub knows_more : (s : List Resolved) (j k : Judge) (ts : List Token) (t : Token)
    → IsJudge s j ts
    → after (last_in j) t ≡ last_in k
    → (k.fits ≡ true → (j.fits ≡ true) × Fits s (last_in j) t)
    → IsJudge s k (ts ++ t ∷ [])
knows_more s j k ts t i e f = record {
  last = after_one at_first ts t ∙ ap (λ q. after q t) i.last ∙ e;
  fit = λ h. let g = f h in fit_one s at_first ts t (i.fit g.0) (subst (λ q. Fits s q t) (sym i.last) g.1);
}

-- what a leaf of primitive contents octets is, the octets mean
pub means_leaf : ((k : LeafKind) (v w : AbstractValue) (x : List ℕ) → IsReadAs k v x → IsReadAs k w x → v ≡ w)
    → (c : Bool) (k : LeafKind) (v : AbstractValue) (levels : ℕ) (x : List ℕ) (l : Leaf)
    → AreReadAs c k x (Whole l)
    → AreContents c k v levels x
    → Denotes l v
means_leaf one false k v levels x l r a = subst (λ q. Denotes l q) (one k r.value v x r.is_read a) r.means
means_leaf one true k v levels x l r a = absurd r

taken : (n : ℕ) (xs : List Bool) → n ≤ length xs → length (take n xs) ≡ n
taken zero xs h = refl
taken (suc n) [] h = absurd (omega arith)
taken (suc n) (x ∷ xs) h = ap suc (taken n xs (omega arith))

-- the number of bits in octets, without the unused ones
pub count_of : (n : ℕ) (o : List ℕ) → length (bits_but n o) ≡ 8 * length o - n
count_of n o = let e = eight o in taken (8 * length o - n) (flat_map bits_of_octet o) (omega arith)

-- ---- object identifiers

pub oid_fits : {k : Kind} {v : AbstractValue} {ns : List ℕ} → k ≡ an_object_identifier → v ≡ oid ns → IsObjectIdentifier ns → IsPrimitive k v
oid_fits {v = v} e f i = subst (λ q. IsPrimitive q v) (sym e) (subst (λ q. IsPrimitive an_object_identifier q) (sym f) (fits_oid i))

pub relative_oid_fits : {k : Kind} {v : AbstractValue} {ns : List ℕ} → k ≡ a_relative_oid → v ≡ relative_oid ns → IsRelativeOid ns → IsPrimitive k v
relative_oid_fits {v = v} e f i = subst (λ q. IsPrimitive q v) (sym e) (subst (λ q. IsPrimitive a_relative_oid q) (sym f) (fits_relative_oid i))

-- a judge that got one token more
pub judged_more : (s r : List Resolved) (j k : Judge) (ts all : List Token) (t : Token)
    → r ≡ s
    → all ≡ ts ++ t ∷ []
    → ((us : List Token) → IsJudge r j us → IsJudge r k (us ++ t ∷ []))
    → IsJudge s j ts
    → IsJudge s k all
judged_more s r j k ts all t i e f h =
    subst (λ q. IsJudge q k all) i (subst (λ q. IsJudge r k q) (sym e) (f ts (subst (λ q. IsJudge q j ts) (sym i) h)))

-- the type that is there is of this kind
pub kind_there : {o : Option Resolved} {k : Kind} {tags : List Tag} {r : Resolved} → o ≡ Some (record { tags = tags; kind = k }) → o ≡ Some r → k ≡ r.kind
kind_there e f = ap (λ r. r.kind) (some_same (sym e ∙ f))
