use Rattle.std.proofs.Common.{arith, sym, ◌∙◌, ◌<◌, length-take, length-set, get_or-take}
use Rattle.layout.specs.NumberLaws.{noted_more, noted-all}
use Rattle.layout.proofs.Group.note_numbers.Goals as goal

pub loop-x-preserved : goal.loop-x-preserved
loop-x-preserved g c =
    let l = c.loop-x in
    let s = c.args.self.now.split in
    let within : l.x < s.count = omega (arith, c.loop-x-test.true, length-take s.count s.rows) in
    let more = noted_more s.rows s.count l.x l.self.1.1.0 within (omega (arith, s.sizes, s.counts)) in
    (simp length-set l.invariant.0, rw (c.from.ensures, get_or-take s.count s.rows l.x 0 within) (sym more ∙ l.invariant.1))

pub returns-clause-numbers : goal.returns-clause-numbers
returns-clause-numbers g c =
    let l = c.loop-x in
    let s = c.args.self.now.split in
    sym (noted-all s.rows s.count l.x l.self.1.1.0 (omega (arith, length-take s.count s.rows))) ∙ l.invariant.1
