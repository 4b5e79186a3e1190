-- Laws for the proof of `toposort_real_module_ids` of src/walk.rt: the walk of a project begins, and ends as the definition's. Assumes nothing.
use Rattle.std.specs.Prelude.{ℕ, ◌+◌, ◌<◌, ◌≡◌, refl, take}
use Rattle.std.proofs.Common.{arith, ap, ◌∙◌, subst}
use mathlib.Core.List.{List, ◌∷◌, flat_map}
use Rattle.rules.specs.Lists.{any, elem, up_from}
use Rattle.rules.specs.Project.{Project, import_row, pair_rows}
use Rattle.rules.specs.Modules.{ModuleState, is_done, module_list, groups_of, groups_in_order, module_start}
use Rattle.rules.specs.Calls.{group_bytes, module_list_limit}
use Rattle.laws.specs.ModuleWalk.{walked_start}
use Rattle.lists.specs.Bits.{bit}
use Rattle.lists.specs.BitLaws.{bit-zero}
use Rattle.lists.specs.Stacks.{stack}
use Rattle.chunk.specs.declared.arrays.Arrays.{Arrays}
use Rattle.chunk.specs.declared.imports.Imports.{Imports}
use Rattle.chunk.specs.declared.walk.ModuleWalk.{ModuleWalk}
use Rattle.chunk.specs.Imports.{FitRows, Laid}
use Rattle.chunk.specs.Walks.{marks_of, Started, Shows, Walking, Holds, Groupable}

-- A list filled with the entry and the modules, and numbers that are 0.
pub walk-started : {list : List ℕ} (modules entry : ℕ) → modules < module_list_limit → stack list (modules + 1) ≡ entry ∷ up_from 0 modules
    → Started modules entry list (record { end = modules + 1; done = 0; marks = 0; groups = 0; used = 0 })
unfolding module_start module_list
walk-started modules entry most filled =
    record {
      entries = λ p e f. rw (e, f) filled;
      within = omega arith;
      done = refl;
      marks = refl;
      groups = refl;
      used = refl;
    }

-- With an array that holds the list, whatever stands where the groups will, it shows the start of such a project.
pub start-shown : {modules entry : ℕ} {list : List ℕ} {w : ModuleWalk} → Started modules entry list w → (p : Project) → p.modules ≡ modules
    → p.entry ≡ entry → (a : Arrays) → a.list ≡ list → Shows a w (module_start p)
unfolding module_start groups_of groups_in_order marks_of is_done any elem group_bytes flat_map
start-shown {w = w} s p e f a same =
    record {
      entries = rw same (s.entries p e f);
      within = s.within;
      done = λ m. ap (λ (x : ℕ). bit x m) s.done ∙ bit-zero m;
      marks = λ m. ap (λ (x : ℕ). bit x m) s.marks ∙ bit-zero m;
      count = s.groups;
      used = s.used;
      bytes = ap (λ (n : ℕ). take n a.groups) s.used;
    }

module _ {p : Project} {rows section : List ℕ} {count first : ℕ} (h : Groupable p rows section count first) where
  pub rows_fit : FitRows (pair_rows import_row rows)
  rows_fit =
      let most = h.accepted.modules-most in
      let fits : FitRows p.imports =
      record {
        importers-below = λ i k. omega (arith, (h.accepted.import-rows i k).importer-below);
        imported-below = λ i k. omega (arith, (h.accepted.import-rows i k).imported-below);
        most = h.accepted.imports-most;
      } in
      subst FitRows h.imports fits

  pub walk-starts : {imports : Imports} {w : ModuleWalk} (a : Arrays) {list : List ℕ} → a.list ≡ list → Laid (pair_rows import_row rows) imports → Started count first list w
      → Walking p section imports a w (module_start p)
  walk-starts a same l s =
      record {
        accepted = h.accepted;
        circles = h.circles;
        sound = h.sound;
        laid = rw h.imports l;
        shows = start-shown s p h.modules h.entry a same;
        walked = walked_start h.accepted;
      }

pub shown-holds : {a : Arrays} {w : ModuleWalk} {s : ModuleState} → Shows a w s → Holds a.groups w s
shown-holds h = record { count = h.count; used = h.used; bytes = h.bytes }
