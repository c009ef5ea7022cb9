-- The values that are open while a message is read, of which no tokens are kept.
use Rattle.std.specs.Prelude.{◌≡◌, ℕ, ◌+◌, ◌<◌, ◌≤◌, ◌==◌, ◌&&◌, Bool, true, false, List, [], ◌∷◌, ◌++◌, length}
use Rattle.std.specs.Prelude.{Option, Some, None}
use Rattle.std.specs.List.{AllByRecursion}
use Rattle.std.proofs.Common.{ap, sym, ◌∙◌}
use Rattle.asn_base.specs.declared.schema.TypeId.{TypeId}
use Rattle.asn_base.specs.Types.{Resolved}
use Rattle.codec_source.specs.Events.{Event, Alike, begins, ends, opens as opens', closes, holds, skips, comes, more, among, picks}
use Rattle.codec_source.specs.Events.{Question}
use Rattle.decode_faults.specs.declared.read_fault.ReadFault.{ReadFault}
use Rattle.octet_answers.specs.Answers.{Takes}
use Rattle.octet_answers.specs.States.{State, Token}
use Rattle.octet_answers.specs.Unanswered.{Leaves}
use Rattle.ber_source.specs.Laws.{begins_less, never_more, lemma_one_answer}
use Rattle.ber_source.specs.Log.{logged}
use Rattle.ber_reader.specs.Opened.{entered, on_last, opens}
use Rattle.ber_reader.specs.Paths.{BeginsBefore, begun_in}
use Rattle.ber_reader.specs.declared.open.OpenValue.{OpenValue}
use Rattle.ber_reader.specs.declared.open.Part.{Part}
use Rattle.ber_reader.specs.declared.open.Part.TheVariants.{Component, Alternative, Element}
use Rattle.ber_reader.specs.declared.open_sink.OpenSink.{OpenSink}

-- ---- the receiver

-- the parts that ended, and the values that are open, are no more than n values
pub record AreFew (n : ℕ) (os : List OpenValue) : Type 0 where
  pub ended : ℕ
  pub few : AllByRecursion (λ o. o.read ≤ ended) os
  pub all : ended + length os ≤ n

-- the receiver has the values that are open after the tokens that it received
pub record IsSeen (f : OpenSink) : Type 0 where
  pub opened : f.values.items ≡ opens (logged f.log)
  pub began : length f.begun.items ≡ begun_in (logged f.log)
  pub few : AreFew (length f.begun.items) f.values.items

-- unless an allocation failed
abbrev pub IsOpenSink : OpenSink → List Resolved → Type 0
IsOpenSink f s = f.failed ≡ false → IsSeen f

-- ---- the source

abbrev pub same_part : Option Part → Option Part → Bool
same_part None None = true
same_part (Some (Component i)) (Some (Component j)) = i == j
same_part (Some (Alternative i)) (Some (Alternative j)) = i == j
same_part (Some (Element i)) (Some (Element j)) = i == j
same_part _ _ = false

-- the values are of one type, and the same part of them is being read
abbrev pub same_steps : List OpenValue → List OpenValue → Bool
same_steps [] [] = true
same_steps [] (p ∷ ps) = false
same_steps (o ∷ os) [] = false
same_steps (o ∷ os) (p ∷ ps) = (o.ty.index == p.ty.index) && (same_part o.part p.part && same_steps os ps)

-- whether a value that begins in the innermost open value is the one to which the way leads
abbrev pub leads_to : List OpenValue → List OpenValue → Bool
leads_to path os = same_steps (on_last entered os) path

-- The state of a reader of octets, with a way, and the number of values that began before the first one to which the
-- way leads, once that one began.
pub record Led : Type 0 where
  pub state : State
  pub path : List OpenValue
  pub before : Option ℕ

abbrev pub led : State → List OpenValue → Option ℕ → Led
led a p n = record { state = a; path = p; before = n }

-- the number, once it is known; n others began, and the way leads to the value that begins, or not
abbrev pub found_by : Bool → ℕ → Option ℕ → Option ℕ
found_by b n (Some m) = Some m
found_by true n None = Some n
found_by false n None = None

abbrev pub number_or : ℕ → Option ℕ → ℕ
number_or n (Some m) = m
number_or n None = n

abbrev pub before_after : Led → Event → Option ℕ
before_after a (begins t) = found_by (leads_to a.path (opens a.state.emitted)) (begun_in a.state.emitted) a.before
before_after a ends = a.before
before_after a (opens' h) = a.before
before_after a closes = a.before
before_after a (holds k) = a.before
before_after a skips = a.before
before_after a (comes f b) = a.before
before_after a (more t s b) = a.before
before_after a (among ss t) = a.before
before_after a (picks ss t) = a.before

-- the answer is taken, and the way stays
pub record Follows (a : Led) (e : Event) (b : Led) : Type 0 where
  pub taken : Takes a.state e b.state
  pub path : b.path ≡ a.path
  pub before : b.before ≡ before_after a e

abbrev pub LeavesLed : Led → Question → Led → ReadFault → Type 0
LeavesLed a q b e = Leaves a.state q b.state e

same_led : (b c : Led) → b.state ≡ c.state → b.path ≡ c.path → b.before ≡ c.before → b ≡ c
same_led b c p q r = ap (λ s. led s b.path b.before) p ∙ ap (λ l. led c.state l b.before) q ∙ ap (led c.state c.path) r

pub one_led : (a b c : Led) (e f : Event) → Alike e f → Follows a e b → Follows a f c → (e ≡ f) × (b ≡ c)
one_led a b c e f k x y =
    let h = lemma_one_answer a.state b.state c.state e f k x.taken y.taken in
    (h.0, same_led b c h.1 (x.path ∙ sym y.path) (x.before ∙ ap (before_after a) h.0 ∙ sym y.before))

pub led_less : (a b : Led) (t : TypeId) → Follows a (begins t) b → b.state.budget < a.state.budget
led_less a b t x = begins_less a.state b.state t x.taken

pub never_more_led : (a b : Led) (e : Event) → Follows a e b → b.state.budget ≤ a.state.budget
never_more_led a b e x = never_more a.state b.state e x.taken
