-- Laws for the run of the module walk: when it has ended, and what holds after a visit. Assumes nothing.
use Rattle.std.specs.Prelude.{ℕ, ◌≤◌, ◌<◌, ◌≡◌, false, eqb, List, length}
use Rattle.std.proofs.Common.{arith, sym, ap, ◌∙◌}
use Rattle.std.proofs.lemmas.Bool.{eqb-false}
use Rattle.rules.specs.Lists.{is_empty}
use Rattle.rules.specs.Project.{Project}
use Rattle.rules.specs.Modules.{ModuleState, module_list, groups_of, visit_module}
use Rattle.rules.specs.Calls.{module_list_limit}
use Rattle.laws.specs.ModuleWalk.{walked_on}
use Rattle.lists.specs.StackLaws.{stack-length}
use Rattle.walks.specs.declared.Outcome.{Outcome}
use Rattle.walks.specs.Runs.{Came}
use Rattle.walks.specs.RunLaws.{came-as}
use Rattle.chunk.specs.declared.arrays.Arrays.{Arrays}
use Rattle.chunk.specs.declared.imports.Imports.{Imports}
use Rattle.chunk.specs.declared.walk.ModuleWalk.{ModuleWalk}
use Rattle.chunk.specs.WalkLaws.{empty-length}
use Rattle.chunk.specs.Walks.{Shows, Walking, Visited}

module _ {a : Arrays} {w : ModuleWalk} {s : ModuleState} (h : Shows a w s) where
  pub entry-count : length (module_list s) ≡ w.end
  entry-count = sym (ap length h.entries) ∙ stack-length a.list w.end

  pub ended-shown : is_empty (module_list s) ≡ eqb w.end 0
  ended-shown = empty-length (module_list s) ∙ ap (λ (n : ℕ). eqb n 0) entry-count

  pub entries-left : is_empty (module_list s) ≡ false → 0 < w.end
  entries-left e = omega (arith, eqb-false w.end 0 (sym ended-shown ∙ e))

module _ {p : Project} {section : List ℕ} {imports : Imports} {a : Arrays} {w : ModuleWalk} {s : ModuleState}
    (h : Walking p section imports a w s) where
  pub walking-within : length (module_list s) ≤ module_list_limit
  walking-within = omega (arith, entry-count h.shows, h.shows.within)

  -- The walk goes on from what a visit shows.
  pub walking_on : is_empty (module_list s) ≡ false → {after : Arrays} {o : Outcome ModuleWalk} → Visited p s after o
      → Came module_list_limit module_list groups_of (Walking p section imports after) (groups_of s) (visit_module p s) o
  walking_on e =
      came-as
      (λ v k. record {
        accepted = h.accepted;
        circles = h.circles;
        sound = h.sound;
        laid = h.laid;
        shows = k;
        walked = walked_on h.accepted 0 s h.walked e;
      })
