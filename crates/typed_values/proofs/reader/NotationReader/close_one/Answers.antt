use Rattle.std.proofs.Common.{length, refl, sym, ap, subst, arith}
use Rattle.typed_values.specs.Chains.{HasTurn}
use Rattle.typed_values.specs.proving.Reading.{IsLater}
use Rattle.typed_values.specs.proving.Turns.{AreLower}
use Rattle.typed_values.proofs.Closing.{closes, comes}
use Rattle.typed_values.proofs.Tables.{known_as, true_as}
use Rattle.typed_values.proofs.reader.NotationReader.close_one.Goals as goal

pub note-requires-clause-known : goal.note-requires-clause-known
note-requires-clause-known c = true_as c.args.self.now.defaults.now.named c.close.new.self c.close.ensures.entries c.close.ensures.lower c.requires.ready.known.named

pub note-requires-clause-comes : goal.note-requires-clause-comes
note-requires-clause-comes c =
    let x = c.close.ensures in
    let same = c.latest-latest.ensures in
    let low = x.latest in
    let most = x.counted.2 in
    comes c.in-Some.number c.close_latest.new.self c.in-Some.ensures c.requires.ended c.close.new.self.turns.items
    c.latest-latest.result x.counted.0 x.lower (omega (arith, same, low)) x.counted.1 (omega (arith, same, most))

pub returns-in-None : goal.returns-in-None
returns-in-None c =
    let f = c.requires.ended.fewer in
    let e = ap length c.in-None.ensures.0 in
    absurd (omega (arith, f, e))

pub returns-in-Some : goal.returns-in-Some
returns-in-Some c =
    let t = c.args.self.now.defaults.now in
    let a = c.in-Some.number in
    let qs = c.close_latest.new.self in
    let e = c.in-Some.ensures in
    let x = c.close.ensures in
    let y = c.note.ensures in
    let turn = x.counted.0 in
    let lower = subst (λ z. AreLower t.named.turns.items z.items) (sym y.turns) x.lower in
    let there = subst (λ z. HasTurn z.items a turn) (sym y.turns) x.counted.1 in
    let latest = y.latest in
    let low = x.latest in
    let most = x.counted.2 in
    let later : IsLater t (record {
      levels = t.levels;
      places = t.places;
      lowest = t.lowest;
      named = c.note.new.self;
      chains = t.chains;
      lacks_memory = t.lacks_memory;
    }) =
    record { lowest = omega arith; latest = omega (arith, low, latest); turns = lower } in
    record {
      closed = λ m before after os M n v l h.
          closes a qs e later refl turn there
          (omega (arith, most, latest)) l h;
      one = (let s = ap length e in omega (arith, s));
      later = later;
      lowest = refl;
      left = refl;
      ready = record {
        same = refl;
        text = refl;
        ready = record { sound = c.requires.ready.sound; known = known_as refl refl lower y.known c.requires.ready.known };
      };
      same_table = refl;
    }
