-- `project::kinds::KindByte::kind` meets its contract: each arm by the numbers that lead to it. Assumes nothing.
use native.Mathlib.Omega.{arith}
use Rattle.project.specs.KindLaws.{says-number, says_all, says-none}
use Rattle.project.proofs.kinds.KindByte.kind.Goals as goal

pub returns-in-0 : goal.returns-in-0
returns-in-0 c = rw c.in-0.is says-number.0

pub returns-in-3 : goal.returns-in-3
returns-in-3 c = rw c.in-3.is says-number.3

pub returns-in-4 : goal.returns-in-4
returns-in-4 c = rw c.in-4.is says-number.4

pub returns-in-5 : goal.returns-in-5
returns-in-5 c = rw c.in-5.is says-number.5

pub returns-in-1-to-2 : goal.returns-in-1-to-2
returns-in-1-to-2 c = says_all c.args.self.0 (omega arith) (omega arith)

pub returns-in_default : goal.returns-in_default
returns-in_default c = says-none c.args.self.0 (omega arith)
