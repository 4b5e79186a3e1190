-- `Turns::keep_group` meets its contract: its parts in turn. Assumes nothing.
use Rattle.std.proofs.Common.{◌∙◌}
use Rattle.split.specs.RowLaws.{rows-among}
use Rattle.order.specs.TurnLaws.{giving-room, keeps}
use Rattle.order.proofs.turns.Turns.keep_group.Goals as goal

pub write_given-kept-requires : goal.write_given-kept-requires
write_given-kept-requires c =
    let taking = c.requires.2 in
    let room = giving-room taking (c.as_slice.ensures.value ∙ c.giving_modules-given.ensures) in
    (c.requires.0, rows-among taking.rows_shown room.0, room.0, room.1)

pub returns : goal.returns
returns c =
    λ p earlier h.
    let found = c.as_slice.ensures.value ∙ c.giving_modules-given.ensures in
    keeps h found (c.write_given-kept.ensures p (rows-among h.rows_shown (giving-room h found).0)) c.after.ensures
