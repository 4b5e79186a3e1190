-- `SortTurns::take` meets its contract: its parts in turn. Assumes nothing.
use Rattle.std.proofs.Common.{rules}
use Rattle.order.specs.ReadyLaws.{sorting}
use Rattle.order.proofs.tables.SortTurns.take.Goals as goal

pub new-sort-requires : goal.new-sort-requires
new-sort-requires g c = (search rules, c.requires.bounds.0)

pub sort_turns-requires : goal.sort_turns-requires
sort_turns-requires g c =
    let known = c.requires.going in
    (search rules, (search rules, (known.0, known.1, known.2, sorting known.3 known.4 (c.new-needs.ensures.chained known.0 known.1 known.3.owned known.4.places))))

pub returns : goal.returns
returns g c = λ p groups before h z. c.sort_turns.ensures p groups before (sorting h z (c.new-needs.ensures.chained p groups h.owned z.places))
