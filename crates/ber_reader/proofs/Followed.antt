-- The values that are open, while tokens are received and not kept.
use Rattle.std.proofs.Common.{arith, ◌≡◌, ℕ, suc, ◌+◌, ◌<◌, ◌≤◌, false, true, List, [], ◌∷◌, ◌++◌, length, refl, sym, ap, subst, ◌∙◌, length-append}
use Rattle.std.specs.List.{AllByRecursion}
use Rattle.std.specs.Prelude.{Some}
use Rattle.octet_answers.specs.States.{Token, component, chosen, begun, ended, held, passed}
use Rattle.ber_source.specs.Log.{logged}
use Rattle.ber_reader.specs.Followed.{AreFew, IsSeen}
use Rattle.ber_reader.specs.Opened.{on_last, but_last, entered, opened, after_part, with_part, opens_after, opens_from, opens}
use Rattle.ber_reader.specs.Paths.{begun_in}
use Rattle.ber_reader.specs.declared.open_sink.OpenSink.{OpenSink}
use Rattle.ber_reader.specs.declared.open.OpenValue.{OpenValue}
use Rattle.ber_reader.specs.declared.open.Part.TheVariants.{Component, Alternative}
use Rattle.ber_reader.proofs.Budgets.{begun_both}
use Rattle.ber_reader.proofs.Opened.{Few, few_last, few_but, few_both, below_all}
use Rattle.ber_reader.proofs.Paths.{on_last_length}

few_same : (f : OpenValue → OpenValue) (n : ℕ) (os : List OpenValue) → ((o : OpenValue) → (f o).read ≡ o.read) → Few n os → Few n (on_last f os)
few_same f n [] g h = tt
few_same f n (o ∷ []) g h = (let a = h.0 in let b = g o in omega (arith, a, b), tt)
few_same f n (o ∷ p ∷ os) g h = (h.0, few_same f n (p ∷ os) g h.1)

but_length : (o : OpenValue) (os : List OpenValue) → suc (length (but_last (o ∷ os))) ≡ length (o ∷ os)
but_length o [] = refl
but_length o (p ∷ os) = ap suc (but_length p os)

few_kept : (f : OpenValue → OpenValue) (n m : ℕ) (os : List OpenValue) → ((o : OpenValue) → (f o).read ≡ o.read) → m ≡ n + 0 → AreFew n os → AreFew m (on_last f os)
few_kept f n m os g e a = record { ended = a.ended; few = few_same f a.ended os g a.few; all = (let b = a.all in let c = on_last_length f os in omega (arith, b, c, e)) }

-- one token more
pub few_opened : (n m : ℕ) (os : List OpenValue) (t : Token) → m ≡ n + begun_in (t ∷ []) → AreFew n os → AreFew m (opens_after os t)
few_opened n m os (component i) e a = few_kept (with_part (Some (Component i))) n m os (λ o. refl) e a
few_opened n m os (chosen i) e a = few_kept (with_part (Some (Alternative i))) n m os (λ o. refl) e a
few_opened n m os (begun t) e a = record {
  ended = a.ended;
  few = few_both a.ended (on_last entered os) (opened t ∷ []) (few_same entered a.ended os (λ o. refl) a.few) (omega arith, tt);
  all = (let b = a.all in let c = on_last_length entered os in let d = length-append (on_last entered os) (opened t ∷ []) in omega arith);
}
few_opened n m [] ended e a = record { ended = a.ended; few = tt; all = (let b = a.all in omega arith) }
few_opened n m (o ∷ os) ended e a = record {
  ended = suc a.ended;
  few = few_last after_part a.ended (but_last (o ∷ os)) (λ p l. omega arith) (few_but a.ended (o ∷ os) a.few);
  all = (let b = a.all in let c = but_length o os in let d = on_last_length after_part (but_last (o ∷ os)) in omega arith);
}
few_opened n m os (held k c x at) e a = record { ended = a.ended; few = a.few; all = (let b = a.all in omega arith) }
few_opened n m os passed e a = record { ended = a.ended; few = a.few; all = (let b = a.all in omega arith) }

pub few_read : (n m : ℕ) (os : List OpenValue) → n ≤ m → AreFew n os → AllByRecursion (λ o. o.read < m) os
few_read n m [] l a = tt
few_read n m (o ∷ os) l a = below_all a.ended m (o ∷ os) (let b = a.all in omega arith) a.few

opens_on : (os : List OpenValue) (ts : List Token) (t : Token) → opens_from os (ts ++ t ∷ []) ≡ opens_after (opens_from os ts) t
opens_on os [] t = refl
opens_on os (u ∷ ts) t = opens_on (opens_after os u) ts t

pub opens_last : (ts : List Token) (t : Token) → opens (ts ++ t ∷ []) ≡ opens_after (opens ts) t
opens_last ts t = opens_on [] ts t

pub seen_more : (f g : OpenSink) (t : Token)
    → length f.begun.items ≤ 18446744073709551615
    → (AllByRecursion (λ o. o.read < 18446744073709551615) f.values.items → g.values.items ≡ opens_after f.values.items t)
    → length g.begun.items ≡ length f.begun.items + begun_in (t ∷ [])
    → logged g.log ≡ logged f.log ++ t ∷ []
    → IsSeen f
    → IsSeen g
seen_more f g t l takes counts logs a =
    let v = takes (few_read (length f.begun.items) 18446744073709551615 f.values.items l a.few) in
    record {
      opened = v ∙ ap (λ q. opens_after q t) a.opened ∙ sym (opens_last (logged f.log) t) ∙ ap opens (sym logs);
      began = counts ∙ ap (λ q. q + begun_in (t ∷ [])) a.began ∙ sym (begun_both (logged f.log) (t ∷ [])) ∙ ap begun_in (sym logs);
      few = subst (AreFew (length g.begun.items)) (sym v) (few_opened (length f.begun.items) (length g.begun.items) f.values.items t counts a.few);
    }

pub never : {P : Type 0} → true ≡ false → P
never e = absurd (let f : true ≡ false = e in cc)
