-- Functions that read what a relation says, made of others.
use Rattle.std.proofs.Common.{arith, ◌≡◌, ◌-◌, Bool, true, false, [], ◌∷◌, ◌++◌, length, take, refl, sym, ap, subst, ◌∙◌, append_assoc, length-append, append-nil}
use Rattle.std.proofs.Math.Seq.{take-append_seam}
use Rattle.std.specs.Prelude.{if◌then◌else◌}
use Rattle.packed_encodings.specs.Lengths.{Bits}
use Rattle.decode_faults.specs.declared.refusal.Refusal.{Refusal}
use Rattle.decode_faults.specs.declared.refusal.Refusal.TheVariants.{Truncated}
use Rattle.packed_readings.specs.Outcome.{Outcome, found, stops, IsReading, Then}
use Rattle.packed_reader.specs.declared.part.Part.{Part}
use Rattle.packed_reader.specs.Readings.{Fault, Reading, read, refused, stop, next, in_part, plain, tested, with_bits, IsExact}

-- ---- readings are of one form

pub not_both : {X : Type 0} {v : X} {e : Fault} {r s : Bits} → read v r ≡ refused e s → ⊥
not_both h = absurd (cc)

pub one_value : {X : Type 0} {v w : X} {r s : Bits} → read v r ≡ read w s → (v ≡ w) × (r ≡ s)
one_value h = (cc, cc)

pub one_fault : {X : Type 0} {d e : Fault} {r s : Bits} → ◌≡◌ {A = Reading X} (refused d r) (refused e s) → (d ≡ e) × (r ≡ s)
one_fault h = (cc, cc)

pub same_fault : {Y : Type 0} {d e : Fault} {r s : Bits} → d ≡ e → r ≡ s → ◌≡◌ {A = Reading Y} (refused d r) (refused e s)
same_fault h i = cc

pub same_value : {X : Type 0} {v w : X} {r s : Bits} → v ≡ w → r ≡ s → read v r ≡ read w s
same_value h i = cc

-- bits in front of others
pub in_three : (x y r : Bits) {b z : Bits} → b ≡ x ++ z → z ≡ y ++ r → b ≡ (x ++ y) ++ r
in_three x y r e f = e ∙ ap (λ q. x ++ q) f ∙ sym (append_assoc x y r)

pub further : (x r m : Bits) {b : Bits} → b ≡ x ++ r → b ++ m ≡ x ++ (r ++ m)
further x r m e = ap (λ q. q ++ m) e ∙ append_assoc x r m

-- ---- made of parts

pub done_exact : {X : Type 0} (v : X) → IsExact (λ w x. (w ≡ v) × (x ≡ [])) (read v)
done_exact v = record {
  sound = λ b r w e. ([], (sym (one_value e).0, refl), (one_value e).1);
  whole = λ w x r p. same_value (sym p.0) (ap (λ q. q ++ r) p.1);
  firm = λ b r m e h n. absurd (not_both h);
  inside = λ b r e h. absurd (not_both h);
}

pub stop_exact : {X : Type 0} (e : Fault) → IsExact {X = X} (λ w x. ⊥) (refused e)
stop_exact e = record {
  sound = λ b r w h. absurd (not_both (sym h));
  whole = λ w x r p. absurd p;
  firm = λ b r m d h n. same_fault (one_fault h).0 (ap (λ q. q ++ m) (one_fault h).1);
  inside = λ b r d h. ([], (one_fault h).1);
}

pub convert : {X : Type 0} {P Q : X → Bits → Type 0} {f : Bits → Reading X} → IsExact P f → ((v : X) (x : Bits) → P v x → Q v x) → ((v : X) (x : Bits) → Q v x → P v x) → IsExact Q f
convert F to from = record {
  sound = λ b r v e. let p = F.sound b r v e in (p.0, to v p.0 p.1, p.2);
  whole = λ v x r q. F.whole v x r (from v x q);
  firm = F.firm;
  inside = F.inside;
}

module _ {X Y : Type 0} {P : X → Bits → Type 0} {Q : X → Y → Bits → Type 0} {f : Bits → Reading X} {g : X → Bits → Reading Y}
    (F : IsExact P f) (G : (v : X) (x : Bits) → P v x → IsExact (Q v) (g v)) where
  next_sound : (b r : Bits) (w : Y) (o : Reading X) → f b ≡ o → next o g ≡ read w r → (z : Bits) × Then P Q w z × (b ≡ z ++ r)
  next_sound b r w (read v y) e h =
      let p = F.sound b y v e in
      let q = (G v p.0 p.1).sound y r w h in
      (p.0 ++ q.0, record { first = v; front = p.0; back = q.0; is_first = p.1; is_next = q.1; whole = refl }, in_three p.0 q.0 r p.2 q.2)
  next_sound b r w (refused d y) e h = absurd (not_both (sym h))

  next_whole : (w : Y) (z r : Bits) → Then P Q w z → next (f (z ++ r)) g ≡ read w r
  next_whole w z r t =
      ap (λ q. next (f (q ++ r)) g) t.whole
      ∙ ap (λ q. next (f q) g) (append_assoc t.front t.back r)
      ∙ ap (λ q. next q g) (F.whole t.first t.front (t.back ++ r) t.is_first)
      ∙ (G t.first t.front t.is_first).whole w t.back r t.is_next

  next_firm : (b r m : Bits) (d : Fault) (o : Reading X) → f b ≡ o → next o g ≡ refused d r → (d.why ≡ Truncated → ⊥) → next (f (b ++ m)) g ≡ refused d (r ++ m)
  next_firm b r m d (read v y) e h n =
      let p = F.sound b y v e in
      ap (λ q. next (f q) g) (further p.0 y m p.2)
      ∙ ap (λ q. next q g) (F.whole v p.0 (y ++ m) p.1)
      ∙ (G v p.0 p.1).firm y r m d h n
  next_firm b r m d (refused c y) e h n =
      let i = one_fault h in
      ap (λ q. next q g) (F.firm b r m d (e ∙ same_fault i.0 i.1) n)

  next_inside : (b r : Bits) (d : Fault) (o : Reading X) → f b ≡ o → next o g ≡ refused d r → (x : Bits) × (b ≡ x ++ r)
  next_inside b r d (read v y) e h =
      let p = F.sound b y v e in
      let q = (G v p.0 p.1).inside y r d h in
      (p.0 ++ q.0, in_three p.0 q.0 r p.2 q.1)
  next_inside b r d (refused c y) e h = let i = one_fault h in F.inside b r d (e ∙ same_fault i.0 i.1)

  pub next_exact : IsExact (Then P Q) (λ b. next (f b) g)
  next_exact = record {
    sound = λ b r w e. next_sound b r w (f b) refl e;
    whole = λ w z r t. next_whole w z r t;
    firm = λ b r m d h n. next_firm b r m d (f b) refl h n;
    inside = λ b r d h. next_inside b r d (f b) refl h;
  }

-- what a function makes of what is read
pub record Made {X Y : Type 0} (P : X → Bits → Type 0) (h : X → Y) (w : Y) (x : Bits) : Type 0 where
  pub of : X
  pub is : P of x
  pub made : w ≡ h of

pub made_exact : {X Y : Type 0} {P : X → Bits → Type 0} {f : Bits → Reading X} (h : X → Y) → IsExact P f → IsExact (Made P h) (λ b. next (f b) (λ v r. read (h v) r))
made_exact {P = P} h F = convert (next_exact {Q = λ v w y. (w ≡ h v) × (y ≡ [])} F (λ v x p. done_exact (h v))) to from
  where
    to : (w : _) (z : Bits) → Then P (λ v w y. (w ≡ h v) × (y ≡ [])) w z → Made P h w z
    to w z t = record {
      of = t.first;
      is = subst (P t.first) (sym (t.whole ∙ ap (λ q. t.front ++ q) t.is_next.1 ∙ append-nil t.front)) t.is_first;
      made = t.is_next.0;
    }

    from : (w : _) (z : Bits) → Made P h w z → Then P (λ v w y. (w ≡ h v) × (y ≡ [])) w z
    from w z m = record { first = m.of; front = z; back = []; is_first = m.is; is_next = (m.made, refl); whole = sym (append-nil z) }

-- ---- faults

pub part_exact : {X : Type 0} {P : X → Bits → Type 0} {f : Bits → Reading X} (p : Part) → IsExact P f → IsExact P (λ b. in_part p (f b))
part_exact {X} {P} {f} p F = record {
  sound = λ b r v e. sound b r v (f b) refl e;
  whole = λ v x r q. ap (in_part p) (F.whole v x r q);
  firm = λ b r m d h n. firm b r m d (f b) refl h n;
  inside = λ b r d h. inside b r d (f b) refl h;
}
  where
    sound : (b r : Bits) (v : X) (o : Reading X) → f b ≡ o → in_part p o ≡ read v r → (x : Bits) × P v x × (b ≡ x ++ r)
    sound b r v (read w y) e h = F.sound b r v (e ∙ h)
    sound b r v (refused d y) e h = absurd (not_both (sym h))

    within : Fault → Fault
    within d = record { why = d.why; path = p ∷ d.path }

    firm : (b r m : Bits) (d : Fault) (o : Reading X) → f b ≡ o → in_part p o ≡ refused d r → (d.why ≡ Truncated → ⊥) → in_part p (f (b ++ m)) ≡ refused d (r ++ m)
    firm b r m d (read w y) e h n = absurd (not_both h)
    firm b r m d (refused c y) e h n =
        let i = one_fault h in
        let k : c.why ≡ d.why = ap (λ q. q.why) i.0 in
        ap (in_part p) (F.firm b y m c e (λ t. n (sym k ∙ t))) ∙ same_fault i.0 (ap (λ q. q ++ m) i.1)

    inside : (b r : Bits) (d : Fault) (o : Reading X) → f b ≡ o → in_part p o ≡ refused d r → (x : Bits) × (b ≡ x ++ r)
    inside b r d (read w y) e h = absurd (not_both h)
    inside b r d (refused c y) e h =
        let q = F.inside b y c e in
        (q.0, q.1 ∙ ap (λ t. q.0 ++ t) (one_fault h).1)

pub plain_exact : {X : Type 0} {P : X → Bits → Type 0} {f : Bits → Outcome X} → IsReading P f → IsExact P (λ b. plain (f b))
plain_exact {X} {P} {f} F = record {
  sound = λ b r v e. sound b r v (f b) refl e;
  whole = λ v x r q. ap plain (F.whole v x r q);
  firm = λ b r m d h n. firm b r m d (f b) refl h n;
  inside = λ b r d h. inside b r d (f b) refl h;
}
  where
    sound : (b r : Bits) (v : X) (o : Outcome X) → f b ≡ o → plain o ≡ read v r → (x : Bits) × P v x × (b ≡ x ++ r)
    sound b r v (found w y) e h = F.sound b r v (e ∙ (let i = one_value h in cc))
    sound b r v (stops d y) e h = absurd (not_both (sym h))

    firm : (b r m : Bits) (d : Fault) (o : Outcome X) → f b ≡ o → plain o ≡ refused d r → (d.why ≡ Truncated → ⊥) → plain (f (b ++ m)) ≡ refused d (r ++ m)
    firm b r m d (found w y) e h n = absurd (not_both h)
    firm b r m d (stops c y) e h n =
        let i = one_fault h in
        let k : c ≡ d.why = ap (λ q. q.why) i.0 in
        ap plain (F.firm b y m c e (λ t. n (sym k ∙ t))) ∙ same_fault i.0 (ap (λ q. q ++ m) i.1)

    inside : (b r : Bits) (d : Fault) (o : Outcome X) → f b ≡ o → plain o ≡ refused d r → (x : Bits) × (b ≡ x ++ r)
    inside b r d (found w y) e h = absurd (not_both h)
    inside b r d (stops c y) e h =
        let q = F.inside b y c e in
        (q.0, q.1 ∙ ap (λ t. q.0 ++ t) (one_fault h).1)

-- ---- tests

module _ {X : Type 0} {P : X → Bits → Type 0} {f : Bits → Reading X} (test : X → Bool) (c : Refusal) (F : IsExact P f) where
  checked : Bits → X → Bits → Reading X
  checked b v r = if test v then read v r else stop c b

  passed : (t : Bool) (v w : X) (b r s : Bits) → test v ≡ t → (if t then read v r else stop c b) ≡ read w s → (v ≡ w) × (r ≡ s) × (test w ≡ true)
  passed true v w b r s e h = let i = one_value h in (i.0, i.1, ap test (sym i.0) ∙ e)
  passed false v w b r s e h = absurd (not_both (sym h))

  tested_sound : (b r : Bits) (w : X) (o : Reading X) → f b ≡ o → next o (λ v r. if test v then read v r else stop c b) ≡ read w r → (x : Bits) × (P w x × (test w ≡ true)) × (b ≡ x ++ r)
  tested_sound b r w (read v y) e h =
      let i = passed (test v) v w b y r refl h in
      let p = F.sound b r w (e ∙ same_value i.0 i.1) in
      (p.0, (p.1, i.2), p.2)
  tested_sound b r w (refused d y) e h = absurd (not_both (sym h))

  tested_whole : (w : X) (x r : Bits) → P w x × (test w ≡ true) → tested test c f (x ++ r) ≡ read w r
  tested_whole w x r p =
      ap (λ q. next q (λ v y. if test v then read v y else stop c (x ++ r))) (F.whole w x r p.0)
      ∙ ap (λ q. if q then read w r else stop c (x ++ r)) p.1

  failed : (t : Bool) (v : X) (b r s m : Bits) (d : Fault) → test v ≡ t → (if t then read v r else stop c b) ≡ refused d s → (if test v then read v (r ++ m) else stop c (b ++ m)) ≡ refused d (s ++ m)
  failed true v b r s m d e h = absurd (not_both h)
  failed false v b r s m d e h =
      let i = one_fault h in
      ap (λ q. if q then read v (r ++ m) else stop c (b ++ m)) e ∙ same_fault i.0 (ap (λ q. q ++ m) i.1)

  tested_firm : (b r m : Bits) (d : Fault) (o : Reading X) → f b ≡ o → next o (λ v r. if test v then read v r else stop c b) ≡ refused d r → (d.why ≡ Truncated → ⊥) → tested test c f (b ++ m) ≡ refused d (r ++ m)
  tested_firm b r m d (read v y) e h n =
      let p = F.sound b y v e in
      let g : f (b ++ m) ≡ read v (y ++ m) = ap f (further p.0 y m p.2) ∙ F.whole v p.0 (y ++ m) p.1 in
      ap (λ q. next q (λ w z. if test w then read w z else stop c (b ++ m))) g
      ∙ failed (test v) v b y r m d refl h
  tested_firm b r m d (refused k y) e h n =
      let i = one_fault h in
      ap (λ q. next q (λ w z. if test w then read w z else stop c (b ++ m))) (F.firm b r m d (e ∙ same_fault i.0 i.1) n)

  at_its_front : (t : Bool) (v : X) (b r s : Bits) (d : Fault) → (if t then read v r else stop c b) ≡ refused d s → b ≡ s
  at_its_front true v b r s d h = absurd (not_both h)
  at_its_front false v b r s d h = (one_fault h).1

  tested_inside : (b r : Bits) (d : Fault) (o : Reading X) → f b ≡ o → next o (λ v r. if test v then read v r else stop c b) ≡ refused d r → (x : Bits) × (b ≡ x ++ r)
  tested_inside b r d (read v y) e h = ([], at_its_front (test v) v b y r d h)
  tested_inside b r d (refused k y) e h = let i = one_fault h in F.inside b r d (e ∙ same_fault i.0 i.1)

  pub tested_exact : IsExact (λ v x. P v x × (test v ≡ true)) (tested test c f)
  tested_exact = record {
    sound = λ b r w e. tested_sound b r w (f b) refl e;
    whole = λ w x r p. tested_whole w x r p;
    firm = λ b r m d h n. tested_firm b r m d (f b) refl h n;
    inside = λ b r d h. tested_inside b r d (f b) refl h;
  }

-- ---- with bits

front_of : (x r : Bits) → take (length (x ++ r) - length r) (x ++ r) ≡ x
front_of x r =
    let e : length (x ++ r) - length r ≡ length x = (let l = length-append x r in omega arith) in
    ap (λ n. take n (x ++ r)) e ∙ take-append_seam x r

module _ {X : Type 0} {P : X → Bits → Type 0} {f : Bits → Reading X} (F : IsExact P f) where
  bits_sound : (b r : Bits) (w : X × Bits) (o : Reading X) → f b ≡ o → next o (λ v r. read (v, take (length b - length r) b) r) ≡ read w r → (x : Bits) × (P w.0 x × (w.1 ≡ x)) × (b ≡ x ++ r)
  bits_sound b r w (read v y) e h =
      let i = one_value h in
      let j : v ≡ w.0 = ap (λ q. q.0) i.0 in
      let k : take (length b - length y) b ≡ w.1 = ap (λ q. q.1) i.0 in
      let p = F.sound b r w.0 (e ∙ same_value j i.1) in
      (p.0, (p.1, sym k ∙ ap (λ q. take (length b - length q) b) i.1 ∙ ap (λ q. take (length q - length r) q) p.2 ∙ front_of p.0 r), p.2)
  bits_sound b r w (refused d y) e h = absurd (not_both (sym h))

  bits_firm : (b r m : Bits) (d : Fault) (o : Reading X) → f b ≡ o → next {Y = X × Bits} o (λ v r. read (v, take (length b - length r) b) r) ≡ refused d r → (d.why ≡ Truncated → ⊥) → with_bits f (b ++ m) ≡ refused d (r ++ m)
  bits_firm b r m d (read v y) e h n = absurd (not_both h)
  bits_firm b r m d (refused k y) e h n =
      let i = one_fault h in
      ap (λ q. next q (λ v z. read (v, take (length (b ++ m) - length z) (b ++ m)) z)) (F.firm b r m d (e ∙ same_fault i.0 i.1) n)

  bits_inside : (b r : Bits) (d : Fault) (o : Reading X) → f b ≡ o → next {Y = X × Bits} o (λ v r. read (v, take (length b - length r) b) r) ≡ refused d r → (x : Bits) × (b ≡ x ++ r)
  bits_inside b r d (read v y) e h = absurd (not_both h)
  bits_inside b r d (refused k y) e h = let i = one_fault h in F.inside b r d (e ∙ same_fault i.0 i.1)

  same_pair : (w : X × Bits) (x y : Bits) → y ≡ x → w.1 ≡ x → (w.0, y) ≡ w
  same_pair w x y e h = ap (λ q. (w.0, q)) (e ∙ sym h)

  bits_whole : (w : X × Bits) (x r : Bits) → P w.0 x × (w.1 ≡ x) → with_bits f (x ++ r) ≡ read w r
  bits_whole w x r p =
      ap (λ q. next q (λ v z. read (v, take (length (x ++ r) - length z) (x ++ r)) z)) (F.whole w.0 x r p.0)
      ∙ same_value (same_pair w x (take (length (x ++ r) - length r) (x ++ r)) (front_of x r) p.1) refl

  pub bits_exact : IsExact (λ w x. P w.0 x × (w.1 ≡ x)) (with_bits f)
  bits_exact = record {
    sound = λ b r w e. bits_sound b r w (f b) refl e;
    whole = λ w x r p. bits_whole w x r p;
    firm = λ b r m d h n. bits_firm b r m d (f b) refl h n;
    inside = λ b r d h. bits_inside b r d (f b) refl h;
  }
