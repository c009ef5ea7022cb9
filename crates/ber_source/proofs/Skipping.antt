-- What isn't skipped, and what isn't among the components of a SET.
use Rattle.std.proofs.Common.{◌≡◌, ℕ, Bool, true, false, List, [], ◌∷◌, ◌++◌, IsTrue, ◌↔◌, drop, sym, ap, subst, ◌∙◌}
use Rattle.std.specs.Prelude.{Option, Some, None}
use Rattle.asn_base.specs.declared.schema.TypeId.{TypeId}
use Rattle.asn_base.specs.Names.{IsMember}
use Rattle.codec_code.specs.declared.step.Field.{Field}
use Rattle.codec_code.specs.declared.step.Step.{Step}
use Rattle.codec_code.specs.Routines.{routine_at}
use Rattle.codec_source.specs.Events.{to_skip, which_comes}
use Rattle.decode_faults.specs.declared.read_fault.ReadFault.{ReadFault}
use Rattle.decode_faults.specs.declared.read_fault.ReadFault.TheVariants.{UnexpectedTag, Missing}
use Rattle.octet_answers.specs.States.{State}
use Rattle.octet_answers.specs.Found.{Passes, AreRead, is_extensible, last_steps}
use Rattle.octet_answers.specs.Unanswered.{CantSkip, Leaves, not_skipped, out_of_order, no_component, repeated_component, not_all_read}
use Rattle.ber_source.proofs.Windows.{fails}

-- the steps after the last component that must be present
pub skip_steps : (a : State) (ss whole : List Step) (t : TypeId) → ss ≡ last_steps whole → whole ≡ routine_at a.schema t.index → ss ≡ last_steps (routine_at a.schema t.index)
skip_steps a ss whole t e f = e ∙ ap last_steps f

pub left_by_skip : (a b : State) (ss : List Step) (t : TypeId) (x : ReadFault) → (others : List TypeId) × (a.values ≡ others ++ t ∷ []) → ss ≡ last_steps (routine_at a.schema t.index) → CantSkip a.schema ss true a b x → Leaves a to_skip b x
left_by_skip a b ss t x v e h = not_skipped t v.0 v.1 (subst (λ q. CantSkip a.schema q true a b x) e h)

pub left_out_of_order : (a b : State) (ss : List Step) (t : TypeId) (o : Option Field) (f : Field) → (others : List TypeId) × (a.values ≡ others ++ t ∷ []) → ss ≡ last_steps (routine_at a.schema t.index) → o ≡ Some f → Passes a.schema ss true a o b → Leaves a to_skip b UnexpectedTag
left_out_of_order a b ss t o f v e i h = out_of_order t v.0 v.1 (subst (λ q. Passes a.schema ss' true a q b) i (subst (λ q. Passes a.schema q true a o b) e h))
  where
    ss' : List Step
    ss' = last_steps (routine_at a.schema t.index)

pub left_among : (a b : State) (ss : List Step) (d : Bool) (x : ReadFault) → d ≡ is_extensible ss → CantSkip a.schema ss d a b x → Leaves a (which_comes ss) b x
left_among a b ss d x e h = no_component (subst (λ q. CantSkip a.schema ss q a b x) e h)

pub left_again : (a b : State) (ss : List Step) (d : Bool) (o : Option Field) (f : Field) (ms : List ℕ) (m : Bool) → d ≡ is_extensible ss → o ≡ Some f → Passes a.schema ss d a o b → ms ≡ drop b.here.from b.marks → m ≡ true → IsTrue m ↔ IsMember f.place ms → Leaves a (which_comes ss) b UnexpectedTag
left_again a b ss d o f ms m e i h j y k =
    repeated_component (subst (λ q. Passes a.schema ss (is_extensible ss) a q b) i (subst (λ q. Passes a.schema ss q a o b) e h))
    (subst (λ q. IsMember f.place q) j (k.0 y))

pub left_unread : (a b : State) (ss : List Step) (d : Bool) (o : Option Field) (ms : List ℕ) (m : Bool) → d ≡ is_extensible ss → o ≡ None → Passes a.schema ss d a o b → ms ≡ drop b.here.from b.marks → m ≡ false → IsTrue m ↔ AreRead ms ss → Leaves a (which_comes ss) b Missing
left_unread a b ss d o ms m e i h j n k =
    not_all_read (subst (λ q. Passes a.schema ss (is_extensible ss) a q b) i (subst (λ q. Passes a.schema ss q a o b) e h))
    (λ r. fails m n k (subst (λ q. AreRead q ss) (sym j) r))
