-- `Split::first_len` meets its contract. The loop's invariant: the ranges that hold the starts passed are counted. Assumes nothing.
use Rattle.std.proofs.Common.{◌+◌, ◌≡◌, length, drop}
use Rattle.rules.specs.Items.{Group}
use Rattle.split.specs.FirstLists.{held_by, starts_on, Listable}
use Rattle.split.proofs.Split.first_len.Given as goal

abbrev pub invariant-loop-start : goal.invariant-loop-start
invariant-loop-start l =
    (g : Group) → Listable g l.self → l.n + length (held_by g (drop l.start-index (starts_on l.self))) ≡ l.initial.n + length (held_by g (starts_on l.self))
