-- `Writes::put_open` meets its contract. Assumes nothing.
use Rattle.std.proofs.Common.{arith, refl, ◌+◌, take, length-append, length-take}
use Rattle.rules.specs.Items.{item_list, placed_of}
use Rattle.walks.specs.Runs.{went_on, was_full}
use Rattle.stmt.proofs.StateLaws.{entry-count, shows_prepended}
use Rattle.stmt.proofs.slices.Writes.put_open.Goals as goal

pub returns-then-w-n-gt-LIST-clause-comes : goal.returns-then-w-n-gt-LIST-clause-comes
unfolding item_list
returns-then-w-n-gt-LIST-clause-comes c m width s h =
    let a = c.args in
    was_full
    (omega (
      arith,
      length-append (take a.n a.self.now.«open».now) (item_list s),
      length-take a.n a.self.now.«open».now,
      entry-count h,
      c.requires.5,
    ))

pub put_first-end-requires : goal.put_first-end-requires
put_first-end-requires c =
    let a = c.args in
    (omega (arith, c.requires.5), omega (arith, c.requires.6 (a.w.end + a.n) (omega arith) (omega arith)))

pub returns-clause-comes : goal.returns-clause-comes
unfolding placed_of
returns-clause-comes c m width s h =
    let a = c.args in
    let count = length-take a.n a.self.now.«open».now in
    let pushed = c.put_first-end.ensures.pushed in
    went_on refl
    (shows_prepended h _ (take a.n a.self.now.«open».now) refl refl refl pushed (omega (arith, pushed.count, count))
    (rw c.put_first-end.ensures.sizes.1 (omega (arith, pushed.count, count, c.requires.6 (a.w.end + a.n) (omega arith) (omega arith)))))
