-- `Arrays::visit` meets its contract, by that of a visit over slices. Assumes nothing.
use Rattle.stmt.proofs.LendLaws.{lent-walks, arrays-shown, arrays-came}
use Rattle.stmt.proofs.arrays.Arrays.visit.Goals as goal

pub visit-requires : goal.visit-requires
visit-requires g c =
    let r = c.requires.walking in
    record {
      some = c.requires.some;
      walking = (
        r.0,
        r.1,
        lent-walks r.2 c.of.result c.of.ensures.width (c.of.ensures.laid r.0 r.2.laid),
        rw c.args.self.now.list_size r.3,
      );
    }

pub returns-clause-came : goal.returns-clause-came
returns-clause-came g c i walked s same h =
    let r = c.of.result in
    arrays-came h r c.of.ensures.width same (c.visit.ensures.comes i s (lent-walks h r c.of.ensures.width (c.of.ensures.laid i h.laid)))

pub returns-clause-shown : goal.returns-clause-shown
returns-clause-shown g c i s h =
    let r = c.of.result in
    arrays-shown h r c.of.ensures.width (c.visit.ensures.comes i s (lent-walks h r c.of.ensures.width (c.of.ensures.laid i h.laid)))
