-- `chunk::walk::toposort_real_module_ids` meets its contract: the walk begins with the project's start, and its groups are those of the array. Assumes
-- nothing.
use Rattle.std.proofs.Common.{refl}
use Rattle.std.proofs.Math.Nat.{sub-zero}
use Rattle.rules.specs.Modules.{module_start, run_modules}
use Rattle.walks.specs.RunLaws.{ran-as}
use Rattle.chunk.specs.StartLaws.{walk-starts, shown-holds}
use Rattle.chunk.proofs.walk.toposort_real_module_ids.Goals as goal

pub run-requires : goal.run-requires
run-requires c =
    (c.requires.0, module_start c.requires.0, walk-starts c.requires.1 _ refl c.lay_out.ensures c.new-start.ensures)

pub returns : goal.returns
unfolding run_modules
returns c p h =
    rw sub-zero at
    (ran-as (λ _ _ k. shown-holds k.0.shows) (λ _ k. k.0)
    (c.run.ensures p (module_start p) (walk-starts h _ refl c.lay_out.ensures c.new-start.ensures)))
