use Rattle.std.proofs.Common.{subst, sym}
use Rattle.std.specs.Prelude.{None}
use Rattle.codec_code.specs.Routines.{routine_at}
use Rattle.codec_source.specs.Reading.{Reads}
use Rattle.codec_source.specs.Stopping.{StopsReading}
use Rattle.ber_reader.specs.Followed.{Follows, LeavesLed}
use Rattle.ber_reader.specs.Stops.{stops, reads}
use Rattle.ber_reader.proofs.Led.{never_led, only_led, reads_plainly, starts_with, stops_reading_plainly}
use Rattle.ber_reader.proofs.Stopped.{at_emitted, stop_emitted, place_emitted, stopped_before}
use Rattle.ber_reader.proofs.stop.stop_before.Goals as goal

pub returns-in-Ok-read-clause-is : goal.returns-in-Ok-read-clause-is
returns-in-Ok-read-clause-is c =
    let s = c.args.code.now in
    let t = c.args.id in
    let o = c.args.octets.now in
    let m = c.args.most in
    let z = c.read.new.source in
    let r = reads_plainly (subst (λ q. Reads (λ u. routine_at s u) Follows t q z) c.in-Ok.ensures.ok c.in-Ok-read.ensures.ok) in
    stop_emitted s t o m z.state c.stopped.result (λ w a. reads z.state c.in-Ok.ensures.few r a) (c.lemma_stops_in_place.ensures.read s t o m z.state r) c.stopped.ensures.place c.stopped.ensures.values

pub returns-in-Ok-read-clause-place : goal.returns-in-Ok-read-clause-place
returns-in-Ok-read-clause-place c =
    let s = c.args.code.now in
    let t = c.args.id in
    let o = c.args.octets.now in
    let z = c.read.new.source in
    let r = reads_plainly (subst (λ q. Reads (λ u. routine_at s u) Follows t q z) c.in-Ok.ensures.ok c.in-Ok-read.ensures.ok) in
    place_emitted o z.state c.stopped.result (c.lemma_stops_in_place.ensures.read s t o c.args.most z.state r) c.stopped.ensures.place

pub returns-else-is_memory-clause-is : goal.returns-else-is_memory-clause-is
returns-else-is_memory-clause-is c =
    let s = c.args.code.now in
    let t = c.args.id in
    let o = c.args.octets.now in
    let m = c.args.most in
    let e = c.in-Err-read.fault in
    let z = c.read.new.source in
    let r = stops_reading_plainly (subst (λ q. StopsReading (λ u. routine_at s u) Follows (λ a q b. LeavesLed a q b e) t q z) c.in-Ok.ensures.ok (c.in-Err-read.ensures.stopped (c.is_memory.ensures c.if-is_memory.false))) in
    stop_emitted s t o m z.state c.stopped-in-Err-read.result (λ w a. stops z.state e c.in-Ok.ensures.few r a) (c.lemma_stops_in_place.ensures.stopped s t o m z.state e r).0 c.stopped-in-Err-read.ensures.place c.stopped-in-Err-read.ensures.values

pub returns-else-is_memory-clause-place : goal.returns-else-is_memory-clause-place
returns-else-is_memory-clause-place c =
    let s = c.args.code.now in
    let t = c.args.id in
    let o = c.args.octets.now in
    let e = c.in-Err-read.fault in
    let z = c.read.new.source in
    let r = stops_reading_plainly (subst (λ q. StopsReading (λ u. routine_at s u) Follows (λ a q b. LeavesLed a q b e) t q z) c.in-Ok.ensures.ok (c.in-Err-read.ensures.stopped (c.is_memory.ensures c.if-is_memory.false))) in
    place_emitted o z.state c.stopped-in-Err-read.result (c.lemma_stops_in_place.ensures.stopped s t o c.args.most z.state e r).0 c.stopped-in-Err-read.ensures.place

pub returns-in-Ok-read-clause-before : goal.returns-in-Ok-read-clause-before
returns-in-Ok-read-clause-before c r few l = stopped_before c.stopped.result c.lemma_one_answer.ensures.takes (returns-in-Ok-read-clause-is c) r few l

pub returns-else-is_memory-clause-before : goal.returns-else-is_memory-clause-before
returns-else-is_memory-clause-before c r few l = stopped_before c.stopped-in-Err-read.result c.lemma_one_answer.ensures.takes (returns-else-is_memory-clause-is c) r few l

pub returns-in-Ok-read-clause-whole : goal.returns-in-Ok-read-clause-whole
returns-in-Ok-read-clause-whole c r few m =
    let s = c.args.code.now in
    let t = c.args.id in
    let o = c.args.octets.now in
    let z = c.read.new.source in
    let start = starts_with c.in-Ok.ensures.ok m in
    let q = reads_plainly (subst (λ x. Reads (λ u. routine_at s u) Follows t x z) c.in-Ok.ensures.ok c.in-Ok-read.ensures.ok) in
    at_emitted c.stopped.result (sym (only_led start c.in-Ok-read.ensures.only r)) (c.lemma_stops_in_place.ensures.read s t o c.args.most z.state q) c.stopped.ensures.place c.stopped.ensures.values

pub returns-else-is_memory-clause-whole : goal.returns-else-is_memory-clause-whole
returns-else-is_memory-clause-whole c r few m =
    let s = c.args.code.now in
    let o = c.args.octets.now in
    let start = starts_with c.in-Ok.ensures.ok m in
    absurd (never_led start (c.in-Err-read.ensures.err (c.is_memory.ensures c.if-is_memory.false)) r)
