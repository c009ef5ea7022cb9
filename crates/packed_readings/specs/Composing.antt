-- Readings one after the other, and checked readings, are readings. The proofs here need no search, so they can be
-- cited.
use Rattle.std.proofs.Common.{◌≡◌, [], ◌++◌, refl, sym, ap, subst, ◌∙◌, append_assoc}
use Rattle.packed_encodings.specs.Lengths.{Bits}
use Rattle.decode_faults.specs.declared.refusal.Refusal.{Refusal}
use Rattle.decode_faults.specs.declared.refusal.Refusal.TheVariants.{Truncated}
use Rattle.packed_readings.specs.Outcome.{Outcome, found, stops, onward, Judged, good, bad, verdict, judging, IsReading, Then, IsJudged}

-- ---- outcomes that are one

abbrev value_or : {X : Type 0} → X → Outcome X → X
value_or d (found v r) = v
value_or d (stops e r) = d

abbrev why_or : {X : Type 0} → Refusal → Outcome X → Refusal
why_or d (found v r) = d
why_or d (stops e r) = e

abbrev rest_of : {X : Type 0} → Outcome X → Bits
rest_of (found v r) = r
rest_of (stops e r) = r

abbrev IsFound : {X : Type 0} → Outcome X → Type 0
IsFound (found v r) = Unit {0}
IsFound (stops e r) = ⊥

pub found_value : {X : Type 0} {v w : X} {r s : Bits} → found v r ≡ found w s → v ≡ w
found_value {v = v} e = ap (value_or v) e

pub found_rest : {X : Type 0} {v w : X} {r s : Bits} → found v r ≡ found w s → r ≡ s
found_rest e = ap rest_of e

pub stops_why : {X : Type 0} {o : Outcome X} {e f : Refusal} {r s : Bits} → o ≡ stops e r → o ≡ stops f s → e ≡ f
stops_why g h = ap (why_or Truncated) (sym g ∙ h)

pub stops_where : {X : Type 0} {o : Outcome X} {e f : Refusal} {r s : Bits} → o ≡ stops e r → o ≡ stops f s → r ≡ s
stops_where g h = ap rest_of (sym g ∙ h)

pub not_both : {X : Type 0} {v : X} {e : Refusal} {r s : Bits} → stops e s ≡ found v r → ⊥
not_both h = subst IsFound (sym h) tt

pub not_either : {X : Type 0} {v : X} {e : Refusal} {r s : Bits} → found v r ≡ stops e s → ⊥
not_either h = subst IsFound h tt

-- ---- the four laws, one by one

pub record Sound {X : Type 0} (P : X → Bits → Type 0) (f : Bits → Outcome X) : Type 0 where
  pub is : (b r : Bits) (v : X) → f b ≡ found v r → (x : Bits) × P v x × (b ≡ x ++ r)

pub record Inside {X : Type 0} (f : Bits → Outcome X) : Type 0 where
  pub is : (b r : Bits) (e : Refusal) → f b ≡ stops e r → (x : Bits) × (b ≡ x ++ r)

-- g returns, with more bits at the end, what f returns, except Truncated
pub record Grows {X : Type 0} (f g : Bits → Outcome X) : Type 0 where
  pub finds : (b r m : Bits) (v : X) → f b ≡ found v r → g (b ++ m) ≡ found v (r ++ m)
  pub stays : (b r m : Bits) (e : Refusal) → f b ≡ stops e r → (e ≡ Truncated → ⊥) → g (b ++ m) ≡ stops e (r ++ m)

pub sound_of : {X : Type 0} {P : X → Bits → Type 0} {f : Bits → Outcome X} → IsReading P f → Sound P f
sound_of F = record { is = F.sound }

pub inside_of : {X : Type 0} {P : X → Bits → Type 0} {f : Bits → Outcome X} → IsReading P f → Inside f
inside_of F = record { is = F.inside }

pub grows_of : {X : Type 0} {P : X → Bits → Type 0} {f : Bits → Outcome X} → IsReading P f → Grows f f
grows_of {X} {P} {f} F = record {
  finds = λ b r m v e. (let s = F.sound b r v e in ap (λ q. f (q ++ m)) s.2 ∙ ap f (append_assoc s.0 r m)
      ∙ F.whole v s.0 (r ++ m) s.1);
  stays = F.firm;
}

-- ---- one after the other

module _ {X Y : Type 0} {P : X → Bits → Type 0} {Q : X → Y → Bits → Type 0} {f : Bits → Outcome X}
    {g : X → Bits → Outcome Y} where
  pub next_sound : Sound P f → ((v : X) → Sound (Q v) (g v)) → Sound (Then P Q) (λ b. onward (f b) g)
  next_sound F G = record { is = λ b r w e. by b r w (f b) refl e }
    where
      by : (b r : Bits) (w : Y) (o : Outcome X) → f b ≡ o → onward o g ≡ found w r → (x : Bits) × Then P Q w x
          × (b ≡ x ++ r)
      by b r w (found v s) d h =
          let p = F.is b s v d in
          let q = (G v).is s r w h in (
            p.0 ++ q.0,
            record { first = v; front = p.0; back = q.0; is_first = p.1; is_next = q.1; whole = refl },
            p.2
                ∙ ap (λ z. p.0 ++ z) q.2 ∙ sym (append_assoc p.0 q.0 r),
          )
      by b r w (stops e s) d h = absurd (not_both h)

module _ {X Y : Type 0} {P : X → Bits → Type 0} {f : Bits → Outcome X} {g : X → Bits → Outcome Y} where
  pub next_inside : Sound P f → Inside f → ((v : X) → Inside (g v)) → Inside (λ b. onward (f b) g)
  next_inside F I G = record { is = λ b r e h. by b r e (f b) refl h }
    where
      by : (b r : Bits) (e : Refusal) (o : Outcome X) → f b ≡ o → onward o g ≡ stops e r → (x : Bits) × (b ≡ x ++ r)
      by b r e (found v s) d h =
          let p = F.is b s v d in
          let q = (G v).is s r e h in
          (p.0 ++ q.0, p.2 ∙ ap (λ z. p.0 ++ z) q.1 ∙ sym (append_assoc p.0 q.0 r))
      by b r e (stops e' s) d h =
          let p = I.is b s e' d in
          (p.0, p.1 ∙ ap (λ z. p.0 ++ z) (stops_where refl h))

module _ {X Y : Type 0} {f f' : Bits → Outcome X} {g g' : X → Bits → Outcome Y} where
  pub next_grows : Grows f f' → ((v : X) → Grows (g v) (g' v)) → Grows (λ b. onward (f b) g) (λ b. onward (f' b) g')
  next_grows F G = record {
    finds = λ b r m w h. by_found b r m w (f b) refl h;
    stays = λ b r m e h n. by_stop b r m e
        (f b) refl h n;
  }
    where
      by_found : (b r m : Bits) (w : Y) (o : Outcome X) → f b ≡ o → onward o g ≡ found w r
          → onward (f' (b ++ m)) g' ≡ found w (r ++ m)
      by_found b r m w (found v s) d h = ap (λ o. onward o g') (F.finds b s m v d) ∙ (G v).finds s r m w h
      by_found b r m w (stops e s) d h = absurd (not_both h)

      by_stop : (b r m : Bits) (e : Refusal) (o : Outcome X) → f b ≡ o → onward o g ≡ stops e r → (e ≡ Truncated → ⊥)
          → onward (f' (b ++ m)) g' ≡ stops e (r ++ m)
      by_stop b r m e (found v s) d h n = ap (λ o. onward o g') (F.finds b s m v d) ∙ (G v).stays s r m e h n
      by_stop b r m e (stops e' s) d h n =
          let same : e' ≡ e = stops_why refl h in
          let rest : s ≡ r = stops_where refl h in
          ap (λ o. onward o g') (F.stays b s m e' d (λ t. n (sym same ∙ t)))
          ∙ ap (λ q. stops q (s ++ m)) same ∙ ap (λ q. stops e (q ++ m)) rest

module _ {X Y : Type 0} {P : X → Bits → Type 0} {Q : X → Y → Bits → Type 0} {f : Bits → Outcome X}
    {g : X → Bits → Outcome Y} where
  pub next : IsReading P f → ((v : X) → IsReading (Q v) (g v)) → IsReading (Then P Q) (λ b. onward (f b) g)
  next F G =
      let grown = next_grows (grows_of F) (λ v. grows_of (G v)) in
      record {
        sound = (next_sound (sound_of F) (λ v. sound_of (G v))).is;
        whole = λ w z r t.
            ap (λ q. onward (f (q ++ r)) g) t.whole
            ∙ ap (λ q. onward (f q) g) (append_assoc t.front t.back r)
            ∙ ap (λ o. onward o g) (F.whole t.first t.front (t.back ++ r) t.is_first)
            ∙ (G t.first).whole w t.back r t.is_next;
        firm = grown.stays;
        inside = (next_inside (sound_of F) (inside_of F) (λ v. inside_of (G v))).is;
      }

-- ---- judged

module _ {X Y : Type 0} {P : X → Bits → Type 0} (j : X → Judged Y) {f : Bits → Outcome X} where
  pub judged_sound : Sound P f → Sound (IsJudged P j) (judging j f)
  judged_sound F = record { is = λ b r w e. by b r w (f b) refl e }
    where
      at : (b r s : Bits) (w : Y) (v : X) (k : Judged Y) → j v ≡ k → verdict k b s ≡ found w r → f b ≡ found v s
          → (x : Bits) × IsJudged P j w x × (b ≡ x ++ r)
      at b r s w v (good u) c h d =
          let p = F.is b s v d in (
            p.0,
            record { read = v; is_read = p.1; judged = c ∙ ap good (found_value h) },
            p.2 ∙ ap (λ z. p.0 ++ z)
                (found_rest h),
          )
      at b r s w v (bad e) c h d = absurd (not_both h)

      by : (b r : Bits) (w : Y) (o : Outcome X) → f b ≡ o → onward o (λ v r. verdict (j v) b r) ≡ found w r → (x : Bits)
          × IsJudged P j w x × (b ≡ x ++ r)
      by b r w (found v s) d h = at b r s w v (j v) refl h d
      by b r w (stops e s) d h = absurd (not_both h)

module _ {X Y : Type 0} (j : X → Judged Y) {f : Bits → Outcome X} where
  pub judged_inside : Inside f → Inside (judging j f)
  judged_inside I = record { is = λ b r e h. by b r e (f b) refl h }
    where
      at : (b r s : Bits) (e : Refusal) (k : Judged Y) → verdict k b s ≡ stops e r → (x : Bits) × (b ≡ x ++ r)
      at b r s e (good u) h = absurd (not_either h)
      at b r s e (bad e') h = ([], stops_where refl h)

      by : (b r : Bits) (e : Refusal) (o : Outcome X) → f b ≡ o → onward o (λ v r. verdict (j v) b r) ≡ stops e r
          → (x : Bits) × (b ≡ x ++ r)
      by b r e (found v s) d h = at b r s e (j v) h
      by b r e (stops e' s) d h =
          let p = I.is b s e' d in
          (p.0, p.1 ∙ ap (λ z. p.0 ++ z) (stops_where refl h))

  pub judged_grows : Grows f f → Grows (judging j f) (judging j f)
  judged_grows F = record {
    finds = λ b r m w h. by_found b r m w (f b) refl h;
    stays = λ b r m e h n. by_stop b r m e
        (f b) refl h n;
  }
    where
      again : (b s m : Bits) (v : X) → f b ≡ found v s → judging j f (b ++ m) ≡ verdict (j v) (b ++ m) (s ++ m)
      again b s m v d = ap (λ o. onward o (λ v r. verdict (j v) (b ++ m) r)) (F.finds b s m v d)

      at_found : (b r s m : Bits) (w : Y) (k : Judged Y) → verdict k b s ≡ found w r
          → verdict k (b ++ m) (s ++ m) ≡ found w (r ++ m)
      at_found b r s m w (good u) h = ap (λ q. found q (s ++ m)) (found_value h) ∙ ap (λ q. found w (q ++ m))
          (found_rest h)
      at_found b r s m w (bad e) h = absurd (not_both h)

      at_stop : (b r s m : Bits) (e : Refusal) (k : Judged Y) → verdict k b s ≡ stops e r
          → verdict k (b ++ m) (s ++ m) ≡ stops e (r ++ m)
      at_stop b r s m e (good u) h = absurd (not_either h)
      at_stop b r s m e (bad e') h = ap (λ q. stops q (b ++ m)) (stops_why refl h) ∙ ap (λ q. stops e (q ++ m))
          (stops_where refl h)

      by_found : (b r m : Bits) (w : Y) (o : Outcome X) → f b ≡ o → onward o (λ v r. verdict (j v) b r) ≡ found w r
          → judging j f (b ++ m) ≡ found w (r ++ m)
      by_found b r m w (found v s) d h = again b s m v d ∙ at_found b r s m w (j v) h
      by_found b r m w (stops e s) d h = absurd (not_both h)

      by_stop : (b r m : Bits) (e : Refusal) (o : Outcome X) → f b ≡ o → onward o (λ v r. verdict (j v) b r) ≡ stops e r
          → (e ≡ Truncated → ⊥) → judging j f (b ++ m) ≡ stops e (r ++ m)
      by_stop b r m e (found v s) d h n = again b s m v d ∙ at_stop b r s m e (j v) h
      by_stop b r m e (stops e' s) d h n =
          let same : e' ≡ e = stops_why refl h in
          let rest : s ≡ r = stops_where refl h in
          ap (λ o. onward o (λ v r. verdict (j v) (b ++ m) r)) (F.stays b s m e' d (λ t. n (sym same ∙ t)))
          ∙ ap (λ q. stops q (s ++ m)) same ∙ ap (λ q. stops e (q ++ m)) rest

module _ {X Y : Type 0} {P : X → Bits → Type 0} (j : X → Judged Y) {f : Bits → Outcome X} where
  pub judged : IsReading P f → IsReading (IsJudged P j) (judging j f)
  judged F = record {
    sound = (judged_sound j (sound_of F)).is;
    whole = λ w x r t.
        ap (λ o. onward o (λ v r'. verdict (j v) (x ++ r) r')) (F.whole t.read x r t.is_read)
        ∙ ap (λ k. verdict k (x ++ r) r) t.judged;
    firm = (judged_grows j (grows_of F)).stays;
    inside = (judged_inside j (inside_of F)).is;
  }

-- ---- the same in other words

pub same_sound : {X : Type 0} {P Q : X → Bits → Type 0} {f : Bits → Outcome X} → ((v : X) (x : Bits) → P v x → Q v x)
    → Sound P f → Sound Q f
same_sound to F = record { is = λ b r v e. (let s = F.is b r v e in (s.0, to v s.0 s.1, s.2)) }

pub same : {X : Type 0} {P Q : X → Bits → Type 0} {f : Bits → Outcome X} → ((v : X) (x : Bits) → P v x → Q v x)
    → ((v : X) (x : Bits) → Q v x → P v x) → IsReading P f → IsReading Q f
same to from F = record {
  sound = (same_sound to (sound_of F)).is;
  whole = λ v x r q. F.whole v x r (from v x q);
  firm = F.firm;
  inside = F.inside;
}
