-- `giving_modules` meets its contract. The loop's invariant: what has been gathered, with the members left that give, the last first, is what is to be
-- gathered. Assumes nothing.
use Rattle.std.proofs.Common.{ℕ, Bool, not, ◌&&◌, ◌≡◌, ◌++◌, reverse}
use Rattle.rules.specs.Lists.{keep}
use Rattle.rules.specs.Project.{module_limit}
use Rattle.laws.specs.Counting.{Below}
use Rattle.lists.specs.Bits.{bit}
use Rattle.giving.specs.Giving.{giving_of}
use Rattle.giving.proofs.giving_modules.Given as goal

-- whether a module that is not used gives items
abbrev pub test : ℕ → ℕ → ℕ → Bool
test used givers m = not (bit used m) && bit givers m

abbrev pub invariant-loop-m : goal.invariant-loop-m
invariant-loop-m l =
    (goal.iterator-loop-m).can_next l.m-iterator
    × (goal.iterator-loop-m).is_finite l.m-iterator
    × Below module_limit l.m-iterator.iter.rest.now
    × (l.modules.items ++ keep (test l.used l.givers) (reverse l.m-iterator.iter.rest.now) ≡ giving_of l.used l.givers l.members)
