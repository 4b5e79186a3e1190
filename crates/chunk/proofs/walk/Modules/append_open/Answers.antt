use Rattle.std.proofs.Common.{[], ◌∷◌, get_or}
use mathlib.Core.List.Memᴰ
use Rattle.rules.specs.Project.{module_limit}
use Rattle.laws.specs.Lists.{∈-self}
use Rattle.chunk.specs.Imports.{open_left}
use Rattle.chunk.proofs.OpenLaws.{open-below}
use Rattle.chunk.specs.AppendLaws.{appending-start, appending-rest, appending-more}
use Rattle.chunk.proofs.walk.Modules.append_open.Goals as goal

pub loop-d-init : goal.loop-d-init
loop-d-init c =
    let imports = c.args.self.now.imports.now in
    let modules = open-below imports.rows.to imports.chains.next c.args.done c.args.set (get_or imports.chains.heads c.args.m.0 0) module_limit imports.below in
    rw (c.into_iter-d-iterator.ensures.into_iter_gives, c.open-d-items.ensures) (tt, tt, modules, appending-start c.args.circle.now _)

pub append_one-requires : goal.append_one-requires
append_one-requires c = c.loop-d.invariant.2 _ (rw c.in-Some.ensures.steps ∈-self)

pub loop-d-preserved : goal.loop-d-preserved
loop-d-preserved c = (
  tt,
  tt,
  λ x m. c.loop-d.invariant.2 x (rw c.in-Some.ensures.steps (Memᴰ.tail m)),
  appending-more (c.in-Some.d.0 ∷ []) (open_left c.next.new.self) (appending-rest c.in-Some.ensures.steps c.loop-d.invariant.3) c.append_one.ensures,
)
