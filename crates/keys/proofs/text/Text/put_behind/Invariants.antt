use Rattle.std.proofs.Common.{◌≡◌, ◌++◌, ◌+◌, ◌*◌, ◌≤◌, length, take}
use Rattle.keys.specs.Texts.{behind_by}
use Rattle.keys.proofs.text.Text.put_behind.Given as goal

abbrev pub invariant-loop-n : goal.invariant-loop-n
invariant-loop-n g l =
    (l.self.bytes.items ≡ l.initial.self.bytes.items ++ behind_by g.N.Integer.text (take l.n-index l.numbers))
    × (length l.self.bytes.items ≤ length l.initial.self.bytes.items + (g.N.Integer.MAX_STR_LEN + 1) * l.n-index)
