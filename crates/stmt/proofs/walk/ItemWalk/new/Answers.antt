-- `ItemWalk::new` meets its contract: its parts in turn. Assumes nothing.
use Rattle.std.proofs.Common.{arith}
use Rattle.stmt.specs.WalkLaws.{first-held}
use Rattle.stmt.proofs.StartLaws.{clearable, shows-started}
use Rattle.stmt.proofs.walk.ItemWalk.new.Goals as goal

pub start-requires : goal.start-requires
start-requires g c = (c.requires.0, clearable c.requires.1 c.args.arrays.now)

pub returns-clause-shows : goal.returns-clause-shows
returns-clause-shows g c i h =
    let list = c.first_list-end in
    shows-started h
    (c.start.ensures.started i list.new.list (clearable h c.args.arrays.now)
    (first-held (list.ensures i h.listable) h.first-most (omega (arith, h.room, list.auto.list, c.args.arrays.now.list_size))))

pub returns-clause-moved_beyond : goal.returns-clause-moved_beyond
returns-clause-moved_beyond g c = c.start.ensures.moved_beyond

pub returns-clause-list_beyond : goal.returns-clause-list_beyond
returns-clause-list_beyond g c = let r = c.requires in rw c.start.ensures.numbers ((c.first_list-end.ensures r.0 r.1.listable).rest)
