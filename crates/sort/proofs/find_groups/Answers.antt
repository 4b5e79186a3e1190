use Rattle.rules.specs.Project.{project_of}
use Rattle.sort.specs.GroupLaws.{groupable}
use Rattle.sort.proofs.find_groups.Goals as goal

pub toposort_real_module_ids-requires : goal.toposort_real_module_ids-requires
toposort_real_module_ids-requires c =
    (project_of c.args.project.bytes.now, rw (c.imports.ensures, c.circles.ensures) (groupable c.args.project.bytes.now c.args.project.accepts))

pub returns : goal.returns
returns c =
    c.toposort_real_module_ids.ensures _ (rw (c.imports.ensures, c.circles.ensures) (groupable c.args.project.bytes.now c.args.project.accepts))
