use Rattle.std.proofs.Common.{ℕ, ◌+◌, ◌<◌, ◌∙◌, List, map, length, arith, Some, ◌≡◌}
use Rattle.std.specs.Prelude.{slice_get}
use Rattle.type_table.specs.Seen.{part_of, types_of}
use Rattle.circles.specs.proving.Reach.{AreUpTo, IsDefaulted, IsMarked}
use Rattle.circles.proofs.Marking.{first_wait, first_marked, found, finds, up_to}
use Rattle.circles.proofs.reach.lead_to.Goals as goal

earlier : (s : ℕ) (m : List ℕ) → AreUpTo s m → (j n : ℕ) → slice_get m j ≡ Some n → n < s + 1
earlier s m h j n e = let l = h j n e in omega (arith, l)

fresh : (s : ℕ) (m : List ℕ) → ((j n : ℕ) → slice_get m j ≡ Some n → n < s) → (j : ℕ) → IsMarked s m j → ⊥
fresh s m earlier j h = let l = earlier j s h in absurd (omega (arith, l))

pub mark_defaults-requires : goal.mark_defaults-requires
mark_defaults-requires c = λ k d. let here = c.requires.inside k d in omega (arith, here, c.requires.long)

pub mark_reached-requires : goal.mark_reached-requires
mark_reached-requires c =
    record {
      parts = c.requires.parts;
      long = c.in_ok-mark_defaults.ensures.long ∙ c.requires.long;
      wait = first_wait (c.args.ty + 1) (IsDefaulted (map part_of c.args.components.now)) c.args.marks.now c.mark_defaults.new.marks c.new-waiting.result.items c.mark_defaults.new.waiting.items (fresh (c.args.ty + 1) c.args.marks.now (earlier c.args.ty c.args.marks.now c.requires.earlier)) c.in_ok-mark_defaults.ensures;
      marked = first_marked (c.args.ty + 1) (IsDefaulted (map part_of c.args.components.now)) c.args.marks.now c.mark_defaults.new.marks c.new-waiting.result.items c.mark_defaults.new.waiting.items c.new-waiting.ensures.items c.in_ok-mark_defaults.ensures;
    }

pub bounds-marks-ty : goal.bounds-marks-ty
bounds-marks-ty c = omega (arith, c.in_ok-mark_reached.ensures.long, c.in_ok-mark_defaults.ensures.long, c.requires.long, c.requires.there)

pub returns : goal.returns
returns c =
    let inside : c.args.ty < length c.mark_reached.new.marks = omega (arith, c.in_ok-mark_reached.ensures.long, c.in_ok-mark_defaults.ensures.long, c.requires.long, c.requires.there) in
    record {
      found = (
        found (types_of c.args.types.now) (map part_of c.args.components.now) (c.args.ty + 1) c.args.ty c.args.marks.now c.mark_defaults.new.marks c.mark_reached.new.marks c.new-waiting.result.items c.mark_defaults.new.waiting.items (fresh (c.args.ty + 1) c.args.marks.now (earlier c.args.ty c.args.marks.now c.requires.earlier)) c.in_ok-mark_defaults.ensures c.in_ok-mark_reached.ensures inside,
        finds (types_of c.args.types.now) (map part_of c.args.components.now) (c.args.ty + 1) c.args.ty c.args.marks.now c.mark_defaults.new.marks c.mark_reached.new.marks c.new-waiting.result.items c.mark_defaults.new.waiting.items c.in_ok-mark_defaults.ensures c.in_ok-mark_reached.ensures,
      );
      marks = up_to (types_of c.args.types.now) (IsDefaulted (map part_of c.args.components.now)) (c.args.ty + 1) c.args.marks.now c.mark_defaults.new.marks c.mark_reached.new.marks c.new-waiting.result.items c.mark_defaults.new.waiting.items (earlier c.args.ty c.args.marks.now c.requires.earlier) c.in_ok-mark_defaults.ensures c.in_ok-mark_reached.ensures;
    }
