-- What an entry of a host comes to. Assumes nothing.
use Rattle.std.specs.Prelude.{ℕ, List}
use Rattle.rules.specs.Calls.{Entry}

-- The number that an entry returns, with the bytes that then stand in the reply and in the report.
abbrev pub entry_of : ℕ → List ℕ → List ℕ → Entry
entry_of number reply report = record { number = number; reply = reply; report = report }
