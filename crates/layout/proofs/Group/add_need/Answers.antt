-- `Group::add_need` meets its contract. Assumes nothing.
use Rattle.std.proofs.Common.{arith, rules, ℕ, ◌≡◌, length, take, length-take-le}
use Rattle.layout.specs.declared.Group.{Group}
use Rattle.layout.specs.NeedLaws.{no-dependant, no-dependency, need-room, need-shown}
use Rattle.layout.proofs.Group.add_need.Goals as goal

pub returns-in_default-clause-added : goal.returns-in_default-clause-added
returns-in_default-clause-added g c =
    let s = c.args.self.now.split in
    λ needs room. rw (no-dependant (take s.count s.rows) c.args.need needs (rw c.in_default.is at c.number_of.ensures)) room.shows

pub returns-in_default-number_of-clause-added : goal.returns-in_default-number_of-clause-added
returns-in_default-number_of-clause-added g c =
    let s = c.args.self.now.split in
    λ needs room. rw (no-dependency (take s.count s.rows) c.args.need needs (rw c.in_default-number_of.is at c.number_of-2.ensures)) room.shows

-- there are as many rows as are counted
rows-size : {WORDS NEEDS : ℕ} (g : Group WORDS NEEDS) → length (take g.split.count g.split.rows) ≡ g.split.count
rows-size g = length-take-le g.split.count g.split.rows (omega (arith, g.split.sizes, g.split.counts))

pub add_edge-requires : goal.add_edge-requires
add_edge-requires g c =
    let old = c.args.self.now in (
      search rules,
      need-room (take old.split.count old.split.rows) c.args.need c.requires.room.0 (rw c.in-Some.is at c.number_of.ensures)
          (rw c.in-Some-number_of.is at c.number_of-2.ensures) (rows-size old) c.requires.room.1,
    )

pub returns-clause-added : goal.returns-clause-added
returns-clause-added g c =
    let old = c.args.self.now in
    let new = c.add_edge.ensures in
    λ needs room.
    need-shown (take old.split.count old.split.rows) c.args.need needs (rw c.in-Some.is at c.number_of.ensures)
    (rw c.in-Some-number_of.is at c.number_of-2.ensures) (rows-size old) room new.nodes new.words new.added
