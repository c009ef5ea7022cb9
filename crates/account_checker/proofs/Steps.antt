-- Tags from the outermost inward.
use Rattle.std.proofs.Common.{arith, length, ◌≡◌, ℕ, ◌<◌, Bool, true, false, List, [], ◌∷◌, ◌++◌, refl, sym, ap, subst, ◌∙◌}
use Rattle.std.specs.Prelude.{◌↔◌, IsTrue}
use Rattle.asn_base.specs.declared.tag.Tag.{Tag}
use Rattle.asn_base.specs.Abstract.{AbstractValue}
use Rattle.asn_base.specs.Types.{Kind, Resolved}
use Rattle.encodings.specs.Account.{Numbers, Account, header, wrap_row}
use Rattle.account_checker.specs.declared.checks.Checks.{Checks}
use Rattle.account_checker.specs.Follows.{Checked, total_octets, HeaderIsAt, HeaderFollows, Under, outer}
use Rattle.octet_account.specs.declared.row.Numbers.{Numbers as Numbers'}
use Rattle.octet_account.specs.declared.row.RowLayout.{RowLayout}
use Rattle.octet_account.specs.declared.row.RowLayout.TheVariants as listed
use Rattle.octet_account.specs.Flat.{FlatRow, a_wrap, rows_of}
use Rattle.octet_account.specs.Seen.{flat_row}
use Rattle.account_checker.specs.Parts.{IsOuterOf}
use Rattle.account_checker.proofs.Rows.{first_or}
use Rattle.account_checker.proofs.Fronts.{same_rest}
use Rattle.account_checker.proofs.Headers.{Only}

is_at_one : Only → (b : Bool) (t : Tag) (c : Bool) (n : ℕ) (o x y : List ℕ) → HeaderIsAt b t c n o x → HeaderIsAt b t c n o y → y ≡ x
is_at_one only true t c n o x y f g =
    let e = only t c n f.header f.is_header in
    let h = only t c n g.header g.is_header in
    same_rest f.header y x (ap (λ q. q ++ y) (e ∙ sym h) ∙ sym g.whole ∙ f.whole)
is_at_one only false t c n o x y f g = g ∙ sym f

pub header_one : Only → {q : Checks} {t : Tag} {c : Bool} {z : Numbers} {o x y : List ℕ} → HeaderFollows q t c z o x → HeaderFollows q t c z o y → y ≡ x
header_one only {q} {t} {c} {z} {o} {x} {y} f g = is_at_one only q.headers t c z.contents o x y f.is_at g.is_at

pub one_tag : (q : Checks) (g : Tag) (o : List ℕ) (a : Account) → IsOuterOf q (g ∷ []) o a g o a
one_tag q g o a = record { inward = λ s k v u. u; outward = λ s k v u. u }

-- what an explicit tag holds
pub record Wrapped (s : List Resolved) (q : Checks) (t : Tag) (ts : List Tag) (k : Kind) (v : AbstractValue) (o : List ℕ) (z : Numbers) (b : Account) : Type 0 where
  pub x : List ℕ
  pub is_at : HeaderFollows q t true z o x
  pub numbers : Checked q.numbers (z.contents ≡ total_octets b)
  pub within : Under s q ts k v x b

wrapped : {s : List Resolved} {q : Checks} {t u : Tag} {ts : List Tag} {k : Kind} {v : AbstractValue} {o : List ℕ} {z : Numbers} {b : Account} → Under s q (t ∷ u ∷ ts) k v o (header z (wrap_row b)) → Wrapped s q t (u ∷ ts) k v o z b
wrapped (outer {x = x} h n d) = record { x = x; is_at = h; numbers = n; within = d }

pub outer_of : {s : List Resolved} {q : Checks} {t : Tag} {ts : List Tag} (inner : List Tag) {k : Kind} {v : AbstractValue} {o : List ℕ} {a : Account} {z : Numbers} {b : Account} → ts ≡ t ∷ inner → 0 < length inner → a ≡ header z (wrap_row b) → Under s q ts k v o a → Wrapped s q t inner k v o z b
outer_of [] e l f d = absurd (omega arith)
outer_of {s} {q} {t} {ts} (u ∷ us) {k} {v} {o} {a} {z} {b} e l f d = wrapped (subst (λ w. Under s q w k v o (header z (wrap_row b))) e (subst (λ w. Under s q ts k v o w) f d))

made : Only → {q : Checks} {t u : Tag} {us : List Tag} {o x y : List ℕ} {z : Numbers} {b c : Account} {g : Tag} → HeaderFollows q t true z o x → Checked q.numbers (z.contents ≡ total_octets b) → IsOuterOf q (u ∷ us) x b g y c → IsOuterOf q (t ∷ u ∷ us) o (header z (wrap_row b)) g y c
made only {q} {t} {u} {us} {o} {x} {y} {z} {b} {c} {g} h n i = record {
  inward = λ s k v d. (let w = wrapped d in i.inward s k v (subst (λ r. Under s q (u ∷ us) k v r b) (header_one only h w.is_at) w.within));
  outward = λ s k v d. outer h n (i.outward s k v d);
}

pub outer_next : Only → {q : Checks} {t : Tag} {ts : List Tag} (inner : List Tag) {o x y : List ℕ} {z : Numbers} {a b c : Account} {g : Tag} → ts ≡ t ∷ inner → 0 < length inner → a ≡ header z (wrap_row b) → HeaderFollows q t true z o x → Checked q.numbers (z.contents ≡ total_octets b) → IsOuterOf q inner x b g y c → IsOuterOf q ts o a g y c
outer_next only [] e l f h n i = absurd (omega arith)
outer_next only {q} {t} {ts} (u ∷ us) {o} {x} {y} {z} {a} {b} {c} {g} e l f h n i =
    subst (λ w. IsOuterOf q w o a g y c) (sym e) (subst (λ w. IsOuterOf q (t ∷ u ∷ us) o w g y c) (sym f) (made only h n i))

-- a header that isn't the last one holds a row
pub is_wrapped : {s : List Resolved} {q : Checks} {t : Tag} {ts : List Tag} (inner : List Tag) {k : Kind} {v : AbstractValue} {o : List ℕ} {a : Account} → ts ≡ t ∷ inner → 0 < length inner → Under s q ts k v o a → (z : Numbers) × (b : Account) × (a ≡ header z (wrap_row b))
is_wrapped [] e l d = absurd (omega arith)
is_wrapped {s} {q} {t} {ts} (u ∷ us) {k} {v} {o} {a} e l d = by (subst (λ w. Under s q w k v o a) e d)
  where
    by : {a : Account} → Under s q (t ∷ u ∷ us) k v o a → (z : Numbers) × (b : Account) × (a ≡ header z (wrap_row b))
    by (outer {z = z} {a = b} h n d) = (z, b, refl)

pub row_is_wrap : (t : RowLayout) (z : Numbers) → flat_row t ≡ a_wrap z → (w : Numbers') × (t ≡ listed.Wrap w)
row_is_wrap (listed.Wrap y) z e = (y, refl)
row_is_wrap q z e = absurd (cc)

-- the row that begins an account of a header around another one
pub no_wrap : {s : List Resolved} {q : Checks} {g : Tag} {ts : List Tag} (inner : List Tag) {k : Kind} {v : AbstractValue} {o : List ℕ} (a : Account) (t : RowLayout) (following rest : List FlatRow) → ts ≡ g ∷ inner → 0 < length inner → flat_row t ∷ following ≡ rows_of a ++ rest → ((w : Numbers') → t ≡ listed.Wrap w → ⊥) → Under s q ts k v o a → ⊥
no_wrap inner a t following rest e l f other d =
    let w = is_wrapped inner e l d in
    let p = f ∙ ap (λ y. rows_of y ++ rest) w.2 in
    let r = row_is_wrap t w.0 (ap (first_or (flat_row t)) p) in
    other r.0 r.1

pub inward_same : Only → {s : List Resolved} {q : Checks} {t : Tag} {ts : List Tag} {k : Kind} {v : AbstractValue} {o x : List ℕ} {z : Numbers} {b : Account} → HeaderFollows q t true z o x → Wrapped s q t ts k v o z b → Under s q ts k v x b
inward_same only {s} {q} {ts = ts} {k = k} {v = v} {b = b} h w = subst (λ r. Under s q ts k v r b) (header_one only h w.is_at) w.within

pub where_true : {b r : Bool} {P : Type 0} → b ≡ true → IsTrue r ↔ P → IsTrue r ↔ Checked b P
where_true {b} {r} {P} e a = subst (λ q. IsTrue r ↔ Checked q P) (sym e) a
