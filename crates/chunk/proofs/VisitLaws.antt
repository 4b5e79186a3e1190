-- Laws for the proof of `visit` of src/walk.rt: what a visit makes of a state, step by step, and how arrays and numbers show the state after it.
-- Assumes nothing.
use Rattle.std.specs.Prelude.{ℕ, zero, suc, ◌+◌, ◌-◌, ◌≤◌, ◌<◌, ◌≡◌, refl, Bool, true, false, ◌||◌}
use native.Mathlib.Omega.{arith}
use Rattle.std.proofs.Math.Path.{sym, ap, ap₂}
use Rattle.std.proofs.Common.{◌∙◌}
use mathlib.Core.List.{List, [], ◌∷◌, ◌++◌, flat_map, reverse, reverse-cons, append-nil, append_assoc}
use Rattle.std.proofs.Math.ListN.{length, get_or, take, length-append}
use Rattle.rules.specs.Lists.{is_empty, any, elem, append_new}
use Rattle.rules.specs.Project.{Project}
use Rattle.rules.specs.Modules.{ModuleState, module_state, is_done, undone_imports, circle_of, outside_imports, with_group, visit_module, module_list, groups_of, groups_in_order}
use Rattle.rules.specs.Calls.{group_bytes, module_list_limit}
use Rattle.lists.specs.Bits.{bit}
use Rattle.lists.specs.BitLaws.{bit-zero}
use Rattle.lists.specs.Stacks.{stack, placed_below}
use Rattle.lists.specs.StackLaws.{placed-stack}
use Rattle.chunk.specs.declared.arrays.Arrays.{Arrays}
use Rattle.chunk.specs.declared.walk.ModuleWalk.{ModuleWalk}
use Rattle.walks.specs.declared.Outcome.TheVariants.{WentOn}
use Rattle.chunk.specs.Walks.{marks_of, Grouped, Expanded, put, Shows}

-- What a visit makes of a state, by its steps.
module _ (p : Project) (m : ℕ) (rest marks : List ℕ) (groups : List (List ℕ)) where
  abbrev visited : ModuleState
  visited = visit_module p (module_state (m ∷ rest) marks groups)

  pub visit-done : is_done groups m ≡ true → visited ≡ module_state rest marks groups
  unfolding visit_module
  visit-done d = rw (d, visit_module)

  module _ (d : is_done groups m ≡ false) where
    pub visit-alone : is_empty (undone_imports p groups m) ≡ true → visited ≡ module_state rest [] ((m ∷ []) ∷ groups)
    unfolding visit_module with_group
    visit-alone i = rw (d, visit_module, i)

    module _ (i : is_empty (undone_imports p groups m) ≡ false) where
      pub visit-uncircled : is_empty (circle_of p m) ≡ true → visited ≡ module_state (undone_imports p groups m ++ (m ∷ rest)) marks groups
      unfolding visit_module
      visit-uncircled c = rw (d, visit_module, i, c)

      module _ (c : is_empty (circle_of p m) ≡ false) where
        abbrev outside : List ℕ
        outside = outside_imports p groups (circle_of p m)

        pub visit-whole : is_empty outside ≡ true → visited ≡ module_state rest [] (circle_of p m ∷ groups)
        unfolding visit_module with_group
        visit-whole o = rw (d, visit_module, i, c, o)

        pub visit-gave-up : is_empty outside ≡ false → elem m marks ≡ true → visited ≡ module_state rest [] (append_new (circle_of p m) outside ∷ groups)
        unfolding visit_module with_group
        visit-gave-up o k = rw (d, visit_module, i, c, o, k)

        pub visit-marked : is_empty outside ≡ false → elem m marks ≡ false → visited ≡ module_state (outside ++ (m ∷ rest)) (m ∷ marks) groups
        unfolding visit_module
        visit-marked o k = rw (d, visit_module, i, c, o, k)

-- Counted imports put in front.
pub expanded-put : {imports before after : List ℕ} {w : ModuleWalk} {marks n : ℕ} → n ≡ length imports → w.end + n ≤ module_list_limit
    → after ≡ placed_below (w.end + n) imports before
    → Expanded imports before after w marks (WentOn (record { end = w.end + n; done = w.done; marks = marks; groups = w.groups; used = w.used }))
expanded-put e fits h = rw e (put (rw e at h) (omega arith))

-- The front of the list.
pub stack-front : (a : List ℕ) (n : ℕ) → 0 < n → stack a n ≡ get_or a (n - 1) 0 ∷ stack a (n - 1)
unfolding stack
stack-front a zero h = absurd (omega arith)
stack-front a (suc n) h = let e : suc n - 1 ≡ n = omega arith in rw e

shape : (s : ModuleState) {m : ℕ} {rest : List ℕ} → module_list s ≡ m ∷ rest → s ≡ module_state (m ∷ rest) (marks_of s) (groups_of s)
unfolding module_list marks_of groups_of
shape (module_state list marks groups) e = ap (λ (l : List ℕ). module_state l marks groups) e

pub front-shown : {a : Arrays} {w : ModuleWalk} {s : ModuleState} → Shows a w s → 0 < w.end
    → s ≡ module_state (get_or a.list (w.end - 1) 0 ∷ stack a.list (w.end - 1)) (marks_of s) (groups_of s)
front-shown {a} {w} {s} h e = shape s (sym h.entries ∙ stack-front a.list w.end e)

-- The bytes of one more group.
flat_map-append : (f : List ℕ → List ℕ) (k l : List (List ℕ)) → flat_map f (k ++ l) ≡ flat_map f k ++ flat_map f l
unfolding flat_map
flat_map-append f [] l = refl
flat_map-append f (x ∷ k) l = rw (flat_map-append f k l, append_assoc)

pub more_bytes : (g : List ℕ) (groups : List (List ℕ)) → group_bytes (reverse (g ∷ groups)) ≡ group_bytes (reverse groups) ++ (length g ∷ g)
unfolding group_bytes flat_map
more_bytes g groups = rw (reverse-cons, flat_map-append (λ h. length h ∷ h) (reverse groups) (g ∷ []), append-nil)

or_swap : (a b : Bool) → (a || b) ≡ (b || a)
or_swap true true = refl
or_swap true false = refl
or_swap false true = refl
or_swap false false = refl

-- The arrays and numbers after a visit.
module _ {a : Arrays} {w : ModuleWalk} {m : ℕ} {rest marks : List ℕ} {made : List (List ℕ)}
    (h : Shows a w (module_state (m ∷ rest) marks made)) (e : 0 < w.end) where
  below-front : stack a.list (w.end - 1) ≡ rest
  unfolding module_list
  below-front = let f : get_or a.list (w.end - 1) 0 ∷ stack a.list (w.end - 1) ≡ m ∷ rest = sym (stack-front a.list w.end e) ∙ h.entries in cc

  pub shows-passed : Shows a (record { end = w.end - 1; done = w.done; marks = w.marks; groups = w.groups; used = w.used }) (module_state rest marks made)
  unfolding module_list marks_of groups_of groups_in_order
  shows-passed =
      record {
        entries = below-front;
        within = omega (arith, h.within);
        done = h.done;
        marks = h.marks;
        count = h.count;
        used = h.used;
        bytes = h.bytes;
      }

  pub shows-grouped : {g : List ℕ} {set : ℕ} {r : ModuleWalk} (after : Arrays) → after.list ≡ a.list → Grouped w g set a.groups after.groups r
      → ((j : ℕ) → bit set j ≡ elem j g) → Shows after r (module_state rest [] (g ∷ made))
  unfolding module_list marks_of groups_of groups_in_order is_done any elem
  shows-grouped {g} {set} {r} after l k same =
      let last : r.end ≡ w.end - 1 = omega (arith, k.end) in
      record {
        entries = ap₂ stack l last ∙ below-front;
        within = omega (arith, h.within);
        done = λ j. k.done j ∙ ap₂ (λ (x y : Bool). x || y) (h.done j) (same j) ∙ or_swap (any (elem j) made) (elem j g);
        marks = λ j. ap (λ (x : ℕ). bit x j) k.marks ∙ bit-zero j;
        count = omega (arith, k.groups, h.count);
        used = omega (arith, k.used, h.used, ap length (more_bytes g made), length-append (group_bytes (reverse made)) (length g ∷ g));
        bytes = ap (λ (n : ℕ). take n after.groups) k.used ∙ k.bytes ∙ ap (λ (l : List ℕ). l ++ (length g ∷ g)) h.bytes ∙ sym (more_bytes g made);
      }

  pub shows-expanded : (front new_marks : List ℕ) {word : ℕ} (after : Arrays) → after.groups ≡ a.groups → w.end + length front ≤ module_list_limit
      → after.list ≡ placed_below (w.end + length front) front a.list → ((j : ℕ) → bit word j ≡ elem j new_marks)
      → Shows after (record { end = w.end + length front; done = w.done; marks = word; groups = w.groups; used = w.used })
      (module_state (front ++ (m ∷ rest)) new_marks made)
  unfolding module_list marks_of groups_of groups_in_order
  shows-expanded front new_marks after g fits written same =
      let back : w.end + length front - length front ≡ w.end = omega arith in
      record {
        entries =
            ap (λ (l : List ℕ). stack l (w.end + length front)) written ∙ placed-stack (w.end + length front) front a.list (omega arith) (omega (arith, a.sizes))
            ∙ ap (λ (n : ℕ). front ++ stack a.list n) back ∙ ap (λ (l : List ℕ). front ++ l) h.entries;
        within = fits;
        done = h.done;
        marks = same;
        count = h.count;
        used = h.used;
        bytes = ap (take w.used) g ∙ h.bytes;
      }
