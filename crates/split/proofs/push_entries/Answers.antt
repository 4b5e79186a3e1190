use Rattle.std.proofs.Common.{arith, ◌+◌, ◌≡◌}
use Rattle.split.specs.PushLaws.{entry-room, entry-next}
use Rattle.split.proofs.push_entries.Goals as goal

pub loop-i-preserved : goal.loop-i-preserved
loop-i-preserved c =
    let s = c.in-Some.ensures.steps in
    let end = c.args.end in
    let room = entry-room c.loop-i.invariant _ _ s.0 (omega (arith, c.requires)) in
    let next : end + c.next.new.self.count ≡ end + c.loop-i.i-iterator.count + 1 = omega (arith, s.2) in
    rw (next, s.1) (entry-next c.loop-i.invariant _ s.0 room)
