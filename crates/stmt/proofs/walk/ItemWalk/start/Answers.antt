-- `ItemWalk::start` meets its contract. Assumes nothing.
use Rattle.stmt.proofs.StartLaws.{beyond, pairs-fit, started}
use Rattle.stmt.proofs.walk.ItemWalk.start.Goals as goal

pub returns-clause-started : goal.returns-clause-started
returns-clause-started c g list h l = started h (c.fill.ensures.after (λ y e. e)) (c.fill-2.ensures.after (λ y e. e)) l

pub returns-clause-placed : goal.returns-clause-placed
returns-clause-placed c = c.fill.ensures.after (λ y e. e)

pub returns-clause-moved_beyond : goal.returns-clause-moved_beyond
returns-clause-moved_beyond c = beyond _ c.args.moved.now (pairs-fit c.requires.1) (c.fill-2.ensures.after (λ y e. e))
