-- What checks of single types say of a rule.
use Rattle.std.proofs.Common.{arith, ◌≡◌, ℕ, ◌<◌, ◌≤◌, List, length, Some, sym, subst, ◌∙◌, inl, inr}
use Rattle.std.specs.Prelude.{slice_get, Option, None, Result, Ok, Err, IfOk, MatchOption}
use Rattle.std.proofs.lemmas.Option.{slice_get_within, same_Some}
use Rattle.std.proofs.lemmas.Bool.{cases_lt}
use Rattle.asn_base.specs.declared.rule.SchemaRule.{SchemaRule}
use Rattle.asn_base.specs.declared.rule.SchemaRule.TheVariants as rules
use Rattle.asn_base.specs.declared.rule.SchemaFault.{SchemaFault}
use Rattle.asn_base.specs.declared.rule.SchemaFault.TheVariants as faults
use Rattle.asn_base.specs.Types.{Resolved}
use Rattle.asn_base.specs.Rules.{Obeys, Keeps, AllKeep, place_of, IsFirstFault, IsRefused}
use Rattle.asn_base.specs.Depths.{row_at}
use Rattle.asn_base.specs.proving.Reaching.{parts_of, defaults_of, RowReaches}
use Rattle.asn_base.specs.proving.Ruling.{FirstBreak}
use Rattle.asn_base.proofs.Graphs.{no_circle, a_circle}
use Rattle.asn_base.proofs.Ruled.{rules_of_schema}

pub keeps_of : (s : List Resolved) (rule : SchemaRule) (t : ℕ) (r : Resolved) → slice_get s t ≡ Some r → Obeys s rule t r.tags r.kind → Keeps s rule t
keeps_of s rule t r e o tags k i = subst (λ (z : Resolved). Obeys s rule t z.tags z.kind) (same_Some r _ (sym e ∙ i.found)) o

pub keeps_past : (s : List Resolved) (rule : SchemaRule) (t : ℕ) → length s ≤ t → Keeps s rule t
keeps_past s rule t l tags k i = let w = slice_get_within s t _ i.found in absurd (omega (arith, l, w))

pub all_keep : (s : List Resolved) (rule : SchemaRule) (n : ℕ) → length s ≤ n → ((t : ℕ) → t < n → Keeps s rule t) → (t : ℕ) → Keeps s rule t
all_keep s rule n l f t = elim (cases_lt t n) [ inl h ↦ f t h | inr h ↦ keeps_past s rule t (omega (arith, l, h)) ]

-- an earlier rule
pub earlier : (s : List Resolved) (rule other now : SchemaRule) → AllKeep s (place_of now) → now ≡ rule → place_of other < place_of rule → (t : ℕ) → Keeps s other t
earlier s rule other now h e l = h other (subst (λ q. place_of other < place_of q) (sym e) l)

pub circle_answer : {E : Type 0} (s : List Resolved) (g d : List (List ℕ)) (r : Result (Option ℕ) E) → g ≡ parts_of s → d ≡ defaults_of s
    → IfOk r (λ o. MatchOption o ((i : ℕ) → RowReaches g (row_at d i) i → ⊥) (λ i. RowReaches g (row_at d i) i × ((k : ℕ) → k < i → RowReaches g (row_at d k) k → ⊥)))
    → IfOk r (FirstBreak s rules.NoCircle)
circle_answer s g d (Err x) e f h = tt
circle_answer s g d (Ok None) e f h = λ t. no_circle s t (λ r. h t (back t r))
  where
    back : (t : ℕ) → RowReaches (parts_of s) (row_at (defaults_of s) t) t → RowReaches g (row_at d t) t
    back t r = subst (λ q. RowReaches q (row_at d t) t) (sym e) (subst (λ q. RowReaches (parts_of s) (row_at q t) t) (sym f) r)
circle_answer s g d (Ok (Some i)) e f h = record {
  broken = a_circle s i (subst (λ q. RowReaches (parts_of s) (row_at q i) i) f (subst (λ q. RowReaches q (row_at d i) i) e h.0));
  first = λ u l. no_circle s u (λ r. h.1 u l (subst (λ q. RowReaches q (row_at d u) u) (sym e) (subst (λ q. RowReaches (parts_of s) (row_at q u) u) (sym f) r)));
}

pub refused : (s : List Resolved) (f : SchemaFault) → IsFirstFault s f → IsRefused s f
refused s faults.Memory h = tt
refused s (faults.Broken rule t) h = λ a. h.0.broken (rules_of_schema s a rule t)
