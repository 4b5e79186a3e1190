use Rattle.std.proofs.Common.{rules, ◌<◌, ℕ, get_or, arith}
use Rattle.keys.specs.TextLaws.{separated-put, separated-nothing}
use Rattle.keys.proofs.text.Text.put_rows.Goals as goal

pub returns-in-Some-clause-text : goal.returns-in-Some-clause-text
returns-in-Some-clause-text c =
    let bytes : (i : ℕ) → get_or c.args.rows.now i 0 < 256 = search rules in
    separated-put c.args.rows.now (λ i. omega (arith, bytes i)) c.in-Some.ensures.cases.0 c.args.self.now.bytes.items c.put_number.ensures.text c.put_behind.ensures.text

pub returns-in_default-clause-text : goal.returns-in_default-clause-text
returns-in_default-clause-text c = separated-nothing c.args.rows.now (search rules) c.args.self.now.bytes.items
