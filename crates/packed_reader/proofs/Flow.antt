-- What is read first, and what then; and why reading stops.
use Rattle.std.proofs.Common.{arith, ◌≡◌, ◌+◌, ◌≤◌, List, [], ◌∷◌, length, refl, sym, ap, subst, ◌∙◌}
use Rattle.packed_encodings.specs.Lengths.{Bits}
use Rattle.decode_faults.specs.declared.refusal.Refusal.{Refusal}
use Rattle.packed_readings.specs.declared.refusal.PackedFault.{PackedFault}
use Rattle.packed_readings.specs.declared.refusal.PackedFault.TheVariants as faults
use Rattle.packed_readings.specs.Outcome.{Outcome, stops, IsFault}
use Rattle.packed_reader.specs.declared.part.Part.{Part}
use Rattle.packed_reader.specs.declared.reader.Progress.{Progress}
use Rattle.packed_reader.specs.declared.stop.Stop.{Stop}
use Rattle.packed_reader.specs.declared.stop.Stop.TheVariants.{Memory, Refused}
use Rattle.packed_reader.specs.Readings.{Reading, refused, stop, next, in_part, plain}
use Rattle.packed_reader.specs.proving.Code.{IsStopAt, IsStopOf, IsWithin, IsStop, IsBare, Advanced}

pub refused_as : (X : Type 0) (e f : Refusal) (ps qs : List Part) (r : Bits) → e ≡ f → ps ≡ qs → ◌≡◌ {A = Reading X} (refused (record { why = e; path = ps }) r) (refused (record { why = f; path = qs }) r)
refused_as X e f ps qs r h g = cc

pub stop_here : (X : Type 0) (e : Refusal) (x : Stop) (b : Bits) → IsStopAt e x → IsStop {X = X} (stop e b) x b
stop_here X e Memory b h = tt
stop_here X e (Refused f ps) b h = refused_as X e f [] ps.items b (sym h.0) (sym h.1)

module _ {X : Type 0} where
  pub stop_next : {Y : Type 0} (o : Reading X) (g : X → Bits → Reading Y) (x : Stop) (r : Bits) → IsStop o x r → IsStop (next o g) x r
  stop_next o g Memory r h = tt
  stop_next o g (Refused e ps) r h = ap (λ q. next q g) h

  pub stop_within : (p : Part) (o : Reading X) (x y : Stop) (r : Bits) → IsStop o x r → IsWithin p x y → IsStop (in_part p o) y r
  stop_within p o Memory y r h w = subst (λ q. IsStop (in_part p o) q r) (sym w) tt
  stop_within p o (Refused e ps) Memory r h w = tt
  stop_within p o (Refused e ps) (Refused f qs) r h w = ap (in_part p) h ∙ refused_as X e f (p ∷ ps.items) qs.items r (sym w.0) (sym w.1)

  pub stop_as : (o q : Reading X) (x : Stop) (r : Bits) → o ≡ q → IsStop q x r → IsStop o x r
  stop_as o q x r e h = subst (λ z. IsStop z x r) (sym e) h

  pub stop_at : (o : Reading X) (e : Refusal) (x : Stop) (r : Bits) → o ≡ stop e r → IsStopAt e x → IsStop o x r
  stop_at o e x r h a = stop_as o (stop e r) x r h (stop_here X e x r a)

  pub stop_bare : (o : Outcome X) (x : Stop) (r : Bits) → IsBare o r x → IsStop (plain o) x r
  stop_bare o Memory r h = tt
  stop_bare o (Refused e ps) r h = ap plain h.0 ∙ refused_as X e e [] ps.items r refl (sym h.1)

  pub stop_of : (o : Outcome X) (f : PackedFault) (x : Stop) (r : Bits) → IsFault o f r → IsStopOf f x → IsStop (plain o) x r
  stop_of o faults.Memory x r h w = subst (λ q. IsStop (plain o) q r) (sym w) tt
  stop_of o (faults.Refused e) x r h w = stop_at (plain o) e x r (ap plain h) w

  pub bare_of : (o : Outcome X) (f : PackedFault) (x : Stop) (r : Bits) → IsFault o f r → IsStopOf f x → IsBare o r x
  bare_of o faults.Memory x r h w = subst (λ q. IsBare o r q) (sym w) tt
  bare_of o (faults.Refused e) Memory r h w = tt
  bare_of o (faults.Refused e) (Refused f ps) r h w = (h ∙ ap (λ q. stops q r) (sym w.0), w.1)

  pub fault_next : {Y : Type 0} (o : Reading X) (g : X → Bits → Reading Y) (e : Refusal) (x : Stop) (r : Bits) → o ≡ stop e r → IsStopAt e x → IsStop (next o g) x r
  fault_next o g e x r h a = stop_next o g x r (stop_at o e x r h a)

pub went_same : (p : Progress) (b : Bits) → Advanced p b p b
went_same p b = record { left = (let k : p.left ≤ p.left = omega arith in k); room = (let k : p.skipped + length b ≤ p.skipped + length b = omega arith in k) }
