-- A view while it receives the tokens of a message.
use Rattle.std.specs.Prelude.{◌≡◌, true, false, List, ◌++◌, length}
use Rattle.asn_base.specs.Abstract.{AbstractValue}
use Rattle.asn_base.specs.Types.{Resolved}
use Rattle.octet_answers.specs.States.{Token}
use Rattle.views.specs.Building.{begun}
use Rattle.views.specs.Tree.{value_of, IsBorrowed}
use Rattle.ber_source.specs.declared.build.Build.{Build}
use Rattle.ber_source.specs.declared.view_sink.Built.{Built}
use Rattle.ber_source.specs.declared.view_sink.ViewSink.{ViewSink}
use Rattle.ber_source.specs.Fits.{at_first, AllFit, IsJudge}
use Rattle.ber_source.specs.Log.{logged, passes}
use Rattle.ber_source.specs.Shown.{leaves_of, AreShown}
use Rattle.ber_source.specs.Wants.{Reading, IsBefore, Wants}

-- So much of a value is built as the tokens so far give. It stays true whatever tokens follow, if all tokens together
-- give the value's tree.
abbrev pub IsFaithful : List Resolved → List Token → Build → Type 0
IsFaithful s emitted b = (m : Reading) (w : AbstractValue) (ts : List Token)
    → Wants s m w (emitted ++ ts) 0 false begun
    → IsBefore s m w ts b

-- the view receives values of this schema; unless an allocation failed, the tokens so far are built
pub record IsViewSink (t : ViewSink) (s : List Resolved) : Type 0 where
  pub code : t.code.now ≡ s
  pub builds : t.failed ≡ false → IsFaithful s (logged t.log) t.build
  pub counts : t.failed ≡ false → length t.skipped.items ≡ passes (logged t.log)
  pub judges : t.failed ≡ false → IsJudge s t.judge (logged t.log)

-- the tokens give the tree of some value
pub record GiveTree (s : List Resolved) (emitted : List Token) : Type 0 where
  pub reading : Reading
  pub value : AbstractValue
  pub wants : Wants s reading value emitted 0 false begun

-- The view of the value whose tree the tokens give, and the number of additions that were skipped. If it says that the
-- value fits, all tokens fit.
pub record IsBuiltOf (s : List Resolved) (emitted : List Token) (b : Built) : Type 0 where
  pub view : (m : Reading) (w : AbstractValue)
      → Wants s m w emitted 0 false begun
      → (value_of b.view ≡ w) × IsBorrowed m.message b.view × AreShown m.tokens (leaves_of b.view)
  pub counts : b.skipped ≡ passes emitted
  pub fit : b.fits ≡ true → AllFit s at_first emitted
