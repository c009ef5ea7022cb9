-- The first row of an account gives the number of octets of the encoding.
use Rattle.std.proofs.Common.{arith, ◌≡◌, ℕ, ◌+◌, List, ◌++◌, Bool, length, refl, sym, ap, subst, length-append}
use Rattle.asn_base.specs.declared.tag.Tag.{Tag}
use Rattle.asn_base.specs.Abstract.{AbstractValue}
use Rattle.asn_base.specs.Types.{Kind, Resolved}
use Rattle.encodings.specs.Header.{Octets}
use Rattle.encodings.specs.Account.{Numbers, Account, Inside, leaf_row, wrap_row, seq_row, seqof_row, set_row, setof_row, HeaderHasNumbers, Headed, headed_bare, headed_innermost, headed_outer, Describes, describes, ContentsHaveRows, leaf_listed, sequence_listed, set_listed, sequence_of_listed, set_of_listed, choice_listed}
use Rattle.der_writer.specs.Encoded.{total_octets}

header_and_contents : {g : Tag} {c : Bool} {z : Numbers} (h x : Octets) → HeaderHasNumbers g c (length x) h z
    → z.identifier + z.size + z.contents ≡ length (h ++ x)
header_and_contents h x w =
    let e = w.size_counted in
    let f = w.contents_counted in
    let l = length-append h x in
    omega (arith, e, f, l)

headed : {ts : List Tag} {c : Bool} {x o : Octets} {i : Inside} {a : Account} → Headed ts c x i o a
    → ((b : Account) → i ≡ wrap_row b → total_octets b ≡ length x)
    → total_octets a ≡ length o
headed headed_bare f = f _ refl
headed (headed_innermost {h = h} {x = x} w) f = header_and_contents h x w
headed (headed_outer {h = h} {y = y} d w) f = header_and_contents h y w

abbrev wrapped : Account → Inside → Account
wrapped a (wrap_row b) = b
wrapped a leaf_row = a
wrapped a (seq_row rs) = a
wrapped a (seqof_row rs) = a
wrapped a (set_row rs p q) = a
wrapped a (setof_row rs p q) = a

abbrev IsWrap : Inside → Type 0
IsWrap (wrap_row b) = Unit {0}
IsWrap leaf_row = ⊥
IsWrap (seq_row rs) = ⊥
IsWrap (seqof_row rs) = ⊥
IsWrap (set_row rs p q) = ⊥
IsWrap (setof_row rs p q) = ⊥

mutual
  pub first_row : {s : List Resolved} {t : ℕ} {v : AbstractValue} {o : Octets} {a : Account} → Describes s t v o a → total_octets a ≡ length o
  first_row (describes i d h) = headed h (λ b e. within d b e)

  within : {s : List Resolved} {k : Kind} {v : AbstractValue} {c : Bool} {x : Octets} {i : Inside} → ContentsHaveRows s k v c x i
      → (b : Account)
      → i ≡ wrap_row b
      → total_octets b ≡ length x
  within (choice_listed {x = x} {a = a} f d) b e = subst (λ z. total_octets z ≡ length x) (ap (wrapped a) e) (first_row d)
  within (leaf_listed k w d) b e = absurd (subst IsWrap (sym e) tt)
  within (sequence_listed d) b e = absurd (subst IsWrap (sym e) tt)
  within (set_listed d p) b e = absurd (subst IsWrap (sym e) tt)
  within (sequence_of_listed d) b e = absurd (subst IsWrap (sym e) tt)
  within (set_of_listed d p) b e = absurd (subst IsWrap (sym e) tt)
