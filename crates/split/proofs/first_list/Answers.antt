-- `first_list` meets its contract: its parts in turn. Assumes nothing.
use Rattle.std.proofs.Common.{arith, ◌-◌}
use Rattle.laws.specs.Lists.{length-up_from}
use Rattle.split.specs.FirstListLaws.{parts-length, first-listed}
use Rattle.split.proofs.first_list.Goals as goal

pub push_numbers-injected-requires : goal.push_numbers-injected-requires
push_numbers-injected-requires c = (omega (arith, c.requires.1.most), omega (arith, parts-length c.requires.1, c.requires.2))

pub push_ranges-ranges-requires : goal.push_ranges-ranges-requires
push_ranges-ranges-requires c =
    let a = c.args in
    (c.requires.0, c.requires.1.within, omega (arith, parts-length c.requires.1, c.requires.2, c.push_numbers-injected.ensures.count, length-up_from a.uninjected (a.count - a.uninjected), c.push_numbers-injected.auto.list))

pub push_entries-requires : goal.push_entries-requires
push_entries-requires c =
    let a = c.args in
    omega (
      arith,
      parts-length c.requires.1,
      c.requires.2,
      c.push_numbers-injected.ensures.count,
      length-up_from a.uninjected (a.count - a.uninjected),
      c.push_numbers-injected.auto.list,
      (c.push_ranges-ranges.ensures c.requires.0 c.requires.1.within).count,
      c.push_ranges-ranges.auto.list,
    )

pub returns : goal.returns
returns c = λ g h. first-listed h c.push_numbers-injected.ensures (c.push_ranges-ranges.ensures g h.within) c.push_entries.ensures
