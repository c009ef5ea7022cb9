use Rattle.std.proofs.Common.{arith, ◌≡◌, ◌<◌, ◌≤◌, pos, [], ◌∷◌, ◌++◌, length, get_or, true, false, refl, sym, subst, ap, ◌∙◌, ⊎_elim}
use Rattle.std.proofs.lemmas.Bool.{cases_lt}
use Rattle.std.specs.Int.Digits.{digits_of}
use Rattle.encodings.specs.Contents.{Number}
use Rattle.primitive_writer.proofs.Digits.{most_256}
use Rattle.primitive_writer.proofs.TwosComplement.{low_number, high_number}
use Rattle.primitive_writer.proofs.number.unsigned_octets.Goals as goal

pub push_digits-requires : goal.push_digits-requires
push_digits-requires c = omega (arith, ap length c.new-digits.ensures, most_256 c.args.number c.ranges.number.fits)

pub returns-then-starts_low-clause-number : goal.returns-then-starts_low-clause-number
returns-then-starts_low-clause-number c =
    let d = c.push_digits.new.out.items in
    let is : d ≡ digits_of 256 c.args.number = c.push_digits.ensures ∙ ap (λ q. q ++ digits_of 256 c.args.number) c.new-digits.ensures in
    let low : (0 < length d) × (get_or d 0 0 < 128) = subst (λ x. (0 < length x) × (get_or x 0 0 < 128)) c.as_slice.ensures.value (c.if-starts_low.ensures.0 refl) in
    low_number c.args.number d is low.0 low.1

pub returns-then-starts_low-clause-few : goal.returns-then-starts_low-clause-few
returns-then-starts_low-clause-few c =
    let is : c.push_digits.new.out.items ≡ digits_of 256 c.args.number = c.push_digits.ensures ∙ ap (λ q. q ++ digits_of 256 c.args.number) c.new-digits.ensures in
    omega (arith, ap length is, most_256 c.args.number c.ranges.number.fits)

pub push_digits-requires-2 : goal.push_digits-requires-2
push_digits-requires-2 c = omega (arith, ap length (c.push.ensures.items ∙ ap (λ q. q ++ 0 ∷ []) c.new-out.ensures), most_256 c.args.number c.ranges.number.fits)

pub returns-clause-number : goal.returns-clause-number
returns-clause-number c =
    let d = c.push_digits.new.out.items in
    let is : d ≡ digits_of 256 c.args.number = c.push_digits.ensures ∙ ap (λ q. q ++ digits_of 256 c.args.number) c.new-digits.ensures in
    let e : c.push_digits-2.new.out.items ≡ 0 ∷ d = c.push_digits-2.ensures ∙ ap (λ x. x ++ digits_of 256 c.args.number) (c.push.ensures.items ∙ ap (λ q. q ++ 0 ∷ []) c.new-out.ensures) ∙ ap (λ x. 0 ∷ x) (sym is) in
    let high : 0 < length d → 128 ≤ get_or d 0 0 = λ h. ⊎_elim (λ lt. absurd (not_low h lt)) (λ ge. ge) (cases_lt (get_or d 0 0) 128) in
    subst (λ o. Number (pos c.args.number) o) (sym e) (high_number c.args.number d is high)
  where
    not_low : 0 < length c.push_digits.new.out.items → get_or c.push_digits.new.out.items 0 0 < 128 → ⊥
    not_low h lt = let e : false ≡ true = c.if-starts_low.ensures.1 (subst (λ x. (0 < length x) × (get_or x 0 0 < 128)) (sym c.as_slice.ensures.value) (h, lt)) in cc

pub returns-clause-few : goal.returns-clause-few
returns-clause-few c =
    let e = c.push_digits-2.ensures ∙ ap (λ x. x ++ digits_of 256 c.args.number) (c.push.ensures.items ∙ ap (λ q. q ++ 0 ∷ []) c.new-out.ensures) in
    omega (arith, ap length e, most_256 c.args.number c.ranges.number.fits)
