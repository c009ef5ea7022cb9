-- Additions that are passed, from the place of a cursor on.
use Rattle.std.proofs.Common.{◌≡◌, Bool, List, refl, sym, subst, ◌∙◌}
use Rattle.std.specs.Prelude.{Option}
use Rattle.codec_code.specs.declared.step.Field.{Field}
use Rattle.codec_code.specs.declared.step.Step.{Step}
use Rattle.asn_base.specs.Types.{Resolved}
use Rattle.octet_answers.specs.States.{State, Token}
use Rattle.octet_answers.specs.Found.{Passes}
use Rattle.octet_answers.specs.Unanswered.{CantSkip}
use Rattle.decode_faults.specs.declared.read_fault.ReadFault.{ReadFault}
use Rattle.ber_source.specs.declared.reader_state.ReaderState.{ReaderState}
use Rattle.ber_source.specs.Seen.{IsValidState, state_of}

-- for who receives the tokens
module _ {T : Type 0} (suits : T → List Resolved → Type 0) (emitted : T → List Token) where
  -- whatever leads on from q leads on from p, to the same
  pub record IsPassing (ss : List Step) (e : Bool) (p q : ReaderState T) : Type 0 where
    pub within : IsValidState suits q
    pub code : q.code.now ≡ p.code.now
    pub to : (f : Option Field) (b : State)
        → Passes p.code.now ss e (state_of emitted q) f b
        → Passes p.code.now ss e (state_of emitted p) f b
    pub back : (f : Option Field) (b : State)
        → Passes p.code.now ss e (state_of emitted p) f b
        → Passes p.code.now ss e (state_of emitted q) f b
    pub onward : (b : State) (x : ReadFault)
        → CantSkip p.code.now ss e (state_of emitted q) b x
        → CantSkip p.code.now ss e (state_of emitted p) b x

  pub at_first : (ss : List Step) (e : Bool) (p : ReaderState T) → IsValidState suits p → IsPassing ss e p p
  at_first ss e p w = record { within = w; code = refl; to = λ f b h. h; back = λ f b h. h; onward = λ b x h. h }

  pub one_more : (ss : List Step) (e : Bool) (p q r : ReaderState T)
      → IsPassing ss e p q
      → IsValidState suits r
      → r.code.now ≡ q.code.now
      → ((f : Option Field) (b : State)
      → Passes q.code.now ss e (state_of emitted r) f b
      → Passes q.code.now ss e (state_of emitted q) f b)
      → ((f : Option Field) (b : State)
      → Passes q.code.now ss e (state_of emitted q) f b
      → Passes q.code.now ss e (state_of emitted r) f b)
      → ((b : State) (x : ReadFault)
      → CantSkip q.code.now ss e (state_of emitted r) b x
      → CantSkip q.code.now ss e (state_of emitted q) b x)
      → IsPassing ss e p r
  one_more ss e p q r i w c to back onward = record {
    within = w;
    code = c ∙ i.code;
    to = λ f b h. i.to f b (subst (λ s. Passes s ss e (state_of emitted q) f b) i.code (to f b (subst (λ s. Passes s ss e (state_of emitted r) f b) (sym i.code) h)));
    back = λ f b h. subst (λ s. Passes s ss e (state_of emitted r) f b) i.code (back f b (subst (λ s. Passes s ss e (state_of emitted q) f b) (sym i.code) (i.back f b h)));
    onward = λ b x h. i.onward b x (subst (λ s. CantSkip s ss e (state_of emitted q) b x) i.code (onward b x (subst (λ s. CantSkip s ss e (state_of emitted r) b x) (sym i.code) h)));
  }

  -- the same by the code of the first
  pub by_first : (ss : List Step) (e : Bool) (p q : ReaderState T) (a b : State) (f : Option Field)
      → IsPassing ss e p q
      → Passes q.code.now ss e a f b
      → Passes p.code.now ss e a f b
  by_first ss e p q a b f i h = subst (λ s. Passes s ss e a f b) i.code h

  pub by_last : (ss : List Step) (e : Bool) (p q : ReaderState T) (a b : State) (f : Option Field)
      → IsPassing ss e p q
      → Passes p.code.now ss e a f b
      → Passes q.code.now ss e a f b
  by_last ss e p q a b f i h = subst (λ s. Passes s ss e a f b) (sym i.code) h

  pub blocks_by_first : (ss : List Step) (e : Bool) (p q : ReaderState T) (a b : State) (x : ReadFault)
      → IsPassing ss e p q
      → CantSkip q.code.now ss e a b x
      → CantSkip p.code.now ss e a b x
  blocks_by_first ss e p q a b x i h = subst (λ s. CantSkip s ss e a b x) i.code h
