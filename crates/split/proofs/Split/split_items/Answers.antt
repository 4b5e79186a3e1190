-- `Split::split_items` meets its contract: its parts in turn. Assumes nothing.
use Rattle.std.proofs.Common.{arith}
use Rattle.split.specs.SplitLaws.{numbered-parts}
use Rattle.split.specs.ShownLaws.{split-stored, split-shown}
use Rattle.split.proofs.Split.split_items.Goals as goal

pub number_injected-requires : goal.number_injected-requires
number_injected-requires c =
    let first = c.number_uninjected.ensures c.requires.0 c.requires.1 c.requires.2 in
    (c.requires.0, c.requires.1, c.requires.2, omega (arith, first.rows_stored.count, c.requires.2.numbering-most, numbered-parts c.requires.0 c.args.modules.now))

pub returns : goal.returns
returns c =
    λ p h a.
    let first = c.number_uninjected.ensures p h a in
    let second = c.number_injected.ensures p h a in
    (split-shown first second a, split-stored first second)
