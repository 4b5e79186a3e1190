use Rattle.std.proofs.Common.{arith, refl, add-zero, ◌≡◌, length, take, length-take-le}
use Rattle.group.specs.WriteLaws.{written-more}
use Rattle.group.proofs.Sort.write_rows.Goals as goal
use Rattle.group.specs.declared.Sort.{Sort}

pub loop-i-init : goal.loop-i-init
loop-i-init g c = rw add-zero refl

-- there are as many numbers as are counted
taken : {WORDS NEEDS ENTRIES : _} (s : Sort WORDS NEEDS ENTRIES) → length (take s.group.split.count s.arrays.order) ≡ s.group.split.count
taken s = length-take-le s.group.split.count s.arrays.order (omega (arith, s.group.split.counts, s.arrays.order_size))

pub loop-i-preserved : goal.loop-i-preserved
loop-i-preserved g c =
    let s = c.args.self.now in
    let l = c.loop-i in
    let more =
    written-more s.group.split.rows s.arrays.order l.out s.group.split.count c.args.at l.i (omega (arith, c.loop-i-test.true, taken s))
    (omega (arith, s.group.split.counts, s.arrays.order_size)) in
    rw (c.from.ensures, ← more) l.invariant
