-- `Group::number_items` meets its contract. Assumes nothing.
use Rattle.std.proofs.Common.{rules}
use Rattle.split.specs.SplitLaws.{splittable}
use Rattle.layout.specs.NumberLaws.{row_below, numbers-noted}
use Rattle.layout.proofs.Group.number_items.Goals as goal

pub split_items-requires : goal.split_items-requires
split_items-requires g c = let r = c.requires in (r.0, r.1.rows_shown, splittable r.1.accepted r.1.giving)

pub note_numbers-requires : goal.note_numbers-requires
note_numbers-requires g c =
    let r = c.requires in
    let splits = (c.split_items.ensures r.0 r.1.rows_shown (splittable r.1.accepted r.1.giving)).0 in (search rules, row_below r.1 splits)

pub returns-clause-numbered : goal.returns-clause-numbered
returns-clause-numbered g c =
    λ p able.
    let splits = (c.split_items.ensures p able.rows_shown (splittable able.accepted able.giving)).0 in
    let new = c.note_numbers.ensures in
    record {
      splits = rw new.split splits;
      noted = rw new.split (numbers-noted able splits c.args.self.now.numbers c.args.self.now.size new.numbers);
    }
