use Rattle.std.proofs.Common.{refl, sym, ◌∙◌}
use Rattle.laws.specs.Orders.{get_or-∈}
use Rattle.chunk.specs.CircleLaws.{holding-start, holding-old, holding-new, room-left}
use Rattle.chunk.proofs.gathered.Gathered.append_new.Goals as goal
use Rattle.chunk.proofs.gathered.Gathered.append_new.Goals.{then-not-has, else-not-has}

pub loop-m-init : goal.loop-m-init
loop-m-init c = (refl, holding-start c.args.self.now)

pub has-requires : goal.has-requires
has-requires c = c.requires _ (get_or-∈ c.args.list.now _ 0 c.loop-m-test.true)

pub bounds-self-count : goal.bounds-self-count
bounds-self-count c =
    room-left c.args.list.now c.loop-m.m-index c.loop-m-test.true c.requires c.loop-m.invariant.1 (sym c.has.ensures ∙ c.if-not-has.true)

pub with-have-requires : goal.with-have-requires
with-have-requires c = c.requires _ (get_or-∈ c.args.list.now _ 0 c.loop-m-test.true)

pub loop-m-preserved : goal.loop-m-preserved
loop-m-preserved c =
    let list = c.args.list.now in
    let l = c.loop-m in
    elim c.if-not-has.branch [
      | then-not-has w ↦ rw (w.self-is, w.count-is, w.have-is)
          (l.invariant.0, holding-new list l.m-index c.loop-m-test.true c.requires l.invariant.1 (sym c.has.ensures ∙ w.if-not-has.true) w.with-have.result w.with-have.ensures)
      | else-not-has w ↦ rw (w.self-is, w.count-is, w.have-is)
          (l.invariant.0, holding-old list l.m-index c.loop-m-test.true c.requires l.invariant.1 (sym c.has.ensures ∙ w.if-not-has.false))
    ]
