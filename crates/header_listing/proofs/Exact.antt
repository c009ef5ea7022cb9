-- The octets of lines, joined.
use Rattle.std.proofs.Common.{arith, ◌≡◌, ℕ, ◌≤◌, ◌<◌, List, [], ◌∷◌, ◌++◌, length, refl, sym, ap, ◌∙◌, append_assoc, length-append, take}
use Rattle.std.proofs.lemmas.List.{append-nil}
use Rattle.std.proofs.lemmas.Grind.{flat_map-append}
use Rattle.std.proofs.Math.Seq.{take-append_seam, take-length}
use Rattle.std.specs.Prelude.{flat_map}
use Rattle.encodings.specs.Header.{Octets}
use Rattle.header_listing.specs.Shown.{Line, octets_of, ShowsLines, ends, primitive, within, after, none}
use Rattle.header_listing.specs.Listing.{IsListing}

pub record Exactly (o : Octets) (m : ℕ) (shown : Octets) : Type 0 where
  pub rest : Octets
  pub whole : o ≡ shown ++ rest
  pub long : length shown ≡ m

regroup_primitive : (i z x s r : List ℕ) → i ++ (z ++ (x ++ (s ++ r))) ≡ ((i ++ (z ++ x)) ++ s) ++ r
regroup_primitive i z x s r = simp append_assoc

regroup_within : (i z s r q : List ℕ) → i ++ (z ++ ((s ++ r) ++ q)) ≡ ((i ++ (z ++ [])) ++ s) ++ (r ++ q)
regroup_within i z s r q = simp (append-nil, append_assoc)

regroup_after : (i z s u r : List ℕ) → i ++ (z ++ (s ++ (u ++ r))) ≡ ((i ++ (z ++ [])) ++ (s ++ u)) ++ r
regroup_after i z s u r = simp (append-nil, append_assoc)

pub none_left : (r : List ℕ) → length r ≡ 0 → r ≡ []
none_left [] e = refl
none_left (c ∷ r) e = absurd (omega arith)

-- a list that is as long as its first part has no second part
all_of : (x s r : List ℕ) → x ≡ s ++ r → length s ≡ length x → x ≡ s
all_of x s r e l =
    let a = ap length e in
    let b = length-append s r in
    e ∙ ap (λ y. s ++ y) (none_left r (omega (arith, a, b, l))) ∙ append-nil s

pub exact : {d n m : ℕ} {o : Octets} {ls : List Line} → ShowsLines d n o m ls → Exactly o m (flat_map octets_of ls)
exact {o = o} ends = record { rest = o; whole = refl; long = refl }
exact (primitive {i = i} {z = z} {x = x} {ls = ls} f s) =
    let e = exact s in
    record {
      rest = e.rest;
      whole = f.whole ∙ ap (λ y. i ++ (z ++ (x ++ y))) e.whole ∙ regroup_primitive i z x (flat_map octets_of ls) e.rest;
      long = (let a = length-append (i ++ (z ++ x)) (flat_map octets_of ls) in omega (arith, a, e.long));
    }
exact (within {i = i} {z = z} {x = x} {rest = rest} {ls = ls} f s) =
    let e = exact s in
    record {
      rest = e.rest ++ rest;
      whole = f.whole ∙ ap (λ y. i ++ (z ++ (y ++ rest))) e.whole ∙ regroup_within i z (flat_map octets_of ls) e.rest rest;
      long = (
          let a = length-append (i ++ (z ++ [])) (flat_map octets_of ls) in
          let b = ap length (ap (λ y. i ++ y) (append-nil z)) in
          omega (arith, a, b, e.long));
    }
exact (after {i = i} {z = z} {x = x} {rest = rest} {ks = ks} {ls = ls} f s t) =
    let e = exact s in
    let g = exact t in
    let inner = all_of x (flat_map octets_of ks) e.rest e.whole e.long in
    record {
      rest = g.rest;
      whole = f.whole ∙ ap (λ y. i ++ (z ++ (y ++ rest))) inner
          ∙ ap (λ y. i ++ (z ++ (flat_map octets_of ks ++ y))) g.whole
          ∙ regroup_after i z (flat_map octets_of ks) (flat_map octets_of ls) g.rest
          ∙ ap (λ y. ((i ++ (z ++ [])) ++ y) ++ g.rest) (sym (flat_map-append octets_of ks ls));
      long = (
          let a = length-append (i ++ (z ++ [])) (flat_map octets_of (ks ++ ls)) in
          let b = ap length (ap (λ y. i ++ y) (append-nil z)) in
          let c = ap length (flat_map-append octets_of ks ls) in
          let d = length-append (flat_map octets_of ks) (flat_map octets_of ls) in
          omega (arith, a, b, c, d, e.long, g.long));
    }
exact {o = o} (none s h) = record { rest = []; whole = sym (append-nil (o ++ []) ∙ append-nil o); long = ap length (append-nil o) }

pub joined_is : {d n m : ℕ} {o : Octets} {ls : List Line} → ShowsLines d n o m ls → flat_map octets_of ls ≡ take m o
joined_is {m = m} {o = o} {ls = ls} s =
    let e = exact s in
    sym (take-append_seam (flat_map octets_of ls) e.rest)
    ∙ ap (λ k. take k (flat_map octets_of ls ++ e.rest)) e.long
    ∙ ap (λ y. take m y) (sym e.whole)

pub is_there : {d n m : ℕ} {o : Octets} {ls : List Line} → ShowsLines d n o m ls → m ≤ length o
is_there {ls = ls} s =
    let e = exact s in
    let a = ap length e.whole in
    let b = length-append (flat_map octets_of ls) e.rest in
    omega (arith, a, b, e.long)

reached : (a b : ℕ) → (a < b → b ≤ a) → b ≤ a
reached a b f = grind (arith, f)

pub all_joined : {o : Octets} {stop : ℕ} {text : List ℕ} (l : IsListing o (length o) stop text) → flat_map octets_of l.lines ≡ o
all_joined {o} {stop} l =
    let t = is_there l.shown in
    let a = reached stop (length o) l.all in
    let e : stop ≡ length o = omega arith in
    joined_is l.shown ∙ ap (λ k. take k o) e ∙ take-length o
