-- Laws for the proofs of `visit` of src/walk.rt and of the functions that it goes through: what each finds, and what the visit comes to. Assumes
-- nothing.
use Rattle.std.specs.Prelude.{ℕ, suc, ◌+◌, ◌*◌, ◌-◌, ◌≤◌, ◌<◌, ◌≡◌, refl, Bool, true, false, ◌||◌, eqb, get_or}
use native.Mathlib.Omega.{arith}
use Rattle.std.proofs.Math.Nat.{le_trans}
use Rattle.std.proofs.Common.{mul-le-mul_right, mul-le-mul_left, subst, ◌∙◌, length-take-le}
use Rattle.std.proofs.Math.Path.{sym, ap}
use mathlib.Core.List.{List, [], ◌∷◌, ◌++◌, reverse}
use Rattle.std.proofs.Math.ListN.{length, length-append}
use Rattle.rules.specs.Lists.{is_empty, elem, append_new}
use Rattle.rules.specs.Project.{Project, module_limit}
use Rattle.rules.specs.Modules.{ModuleState, module_state, is_done, undone_imports, circle_of, outside_imports, visit_module, module_list, groups_of, groups_in_order}
use Rattle.rules.specs.Calls.{group_bytes, groups_bytes}
use Rattle.laws.specs.Lists.{∈-self}
use Rattle.laws.specs.Counting.{below-nil, below-cons, below_length}
use Rattle.laws.specs.ModuleWalk.{WalkedIn, made-count, made-members, bytes_most, walked_on}
use Rattle.lists.specs.Bits.{bit}
use Rattle.lists.specs.BitLaws.{bit-zero}
use Rattle.lists.specs.Stacks.{stack}
use Rattle.chunk.specs.declared.arrays.Arrays.{Arrays}
use Rattle.chunk.specs.declared.gathered.Gathered.{Gathered}
use Rattle.chunk.specs.declared.imports.Imports.{Imports}
use Rattle.chunk.specs.declared.walk.ModuleWalk.{ModuleWalk}
use Rattle.walks.specs.declared.Outcome.{Outcome}
use Rattle.walks.specs.declared.Outcome.TheVariants.{WentOn, Placed}
use Rattle.walks.specs.Runs.{went_on, placed_one, was_full}
use Rattle.chunk.specs.Marks.{Marks}
use Rattle.chunk.specs.Circles.{gathered_on, Appended, CircleGathered}
use Rattle.chunk.specs.Imports.{Members, open_imports}
use Rattle.chunk.proofs.ImportLaws.{members-most, open-outside, open-undone}
use Rattle.chunk.specs.Walks.{marks_of, Grouped, Expandable, Expanded, put, no_room, Shows, Walking, Visited, Behind, state_at, Undone, Importing, Circled, Leaving}
use Rattle.chunk.specs.WalkLaws.{empty-none, empty-some}
use Rattle.chunk.specs.RunLaws.{entry-count}
use Rattle.chunk.proofs.VisitLaws.{more_bytes, front-shown, visit-done, visit-alone, visit-uncircled, visit-whole, visit-gave-up, visit-marked, shows-passed, shows-grouped, shows-expanded}

-- A visit of a front module.
module _ {b : Behind} {section : List ℕ} {imports : Imports} {a : Arrays} {w : ModuleWalk} {m : ℕ}
    (h : Walking b.project section imports a w (state_at m b)) where
  abbrev visited : ModuleState
  visited = visit_module b.project (state_at m b)

  front-count : w.end ≡ suc (length b.rest)
  unfolding module_list
  front-count = sym (entry-count h.shows)

  pub front_below : m < module_limit
  front_below = omega (arith, h.walked.list-below m ∈-self, h.accepted.modules-most)

  done-shown : (d : ℕ) → bit w.done d ≡ is_done b.made d
  unfolding groups_of
  done-shown = h.shows.done

  pub marks-shown : Marks w.marks b.marks
  unfolding marks_of
  marks-shown = h.shows.marks

  came-on : {l k : List ℕ} {after : Arrays} {r : ModuleWalk} → visited ≡ module_state l k b.made → Shows after r (module_state l k b.made)
      → Visited b.project (state_at m b) after (WentOn r)
  unfolding groups_of
  came-on {r = r} e f = went_on {w = r} (ap groups_of e) (rw e f)

  came-done : is_done b.made m ≡ true
      → Visited b.project (state_at m b) a
      (WentOn (record { end = w.end - 1; done = w.done; marks = w.marks; groups = w.groups; used = w.used }))
  came-done d = came-on (visit-done b.project m b.rest b.marks b.made d) (shows-passed h.shows (omega (arith, front-count)))

  -- One more group: there is room for it.
  module _ {g : List ℕ} (e : visited ≡ module_state b.rest [] (g ∷ b.made)) where
    pub group-room : (0 < w.end) × (w.groups < module_limit) × (w.used + 1 + length g ≤ length a.groups) × (length g < 256)
    unfolding is_empty module_list groups_of groups_in_order groups_bytes
    group-room =
        let p = b.project in
        let most = h.accepted.modules-most in
        let walked : WalkedIn p (module_state b.rest [] (g ∷ b.made)) = rw e at (walked_on h.accepted 0 (state_at m b) h.walked refl) in
        let member = made-members walked.made g ∈-self in
        let size : length g ≤ module_limit = le_trans (below_length member.once member.below) most in
        let next : p.modules + 1 ≤ module_limit + 1 = omega arith in
        let square : p.modules * (p.modules + 1) ≤ module_limit * (module_limit + 1) =
        le_trans (mul-le-mul_right (p.modules + 1) most) (mul-le-mul_left module_limit next) in (
          omega (arith, front-count),
          omega (arith, made-count walked.made, h.shows.count),
          omega (
            arith,
            a.sizes,
            h.shows.used,
            bytes_most p walked.made,
            ap length (more_bytes g b.made),
            length-append (group_bytes (reverse b.made)) (length g ∷ g),
          ),
          omega arith,
        )

    pub came-grouped : {set : ℕ} {r : ModuleWalk} (after : Arrays) → after.list ≡ a.list → Grouped w g set a.groups after.groups r → Marks set g
        → Visited b.project (state_at m b) after (Placed r)
    unfolding groups_of
    came-grouped {r = r} after l k same = placed_one {w = r} (ap groups_of e) (rw e (shows-grouped h.shows (omega (arith, front-count)) after l k same))

  -- Imports put in front.
  pub came-expanded : {front marks : List ℕ} {word : ℕ} {o : Outcome ModuleWalk} (after : Arrays) → after.groups ≡ a.groups
      → visited ≡ module_state (front ++ (m ∷ b.rest)) marks b.made → Expanded front a.list after.list w word o → Marks word marks
      → Visited b.project (state_at m b) after o
  unfolding module_list
  came-expanded {front} {marks} after g e (put x fits) same = came-on e (shows-expanded h.shows (omega (arith, front-count)) front marks after g fits x same)
  came-expanded {front} after g e (no_room f _) same = was_full (rw e (omega (arith, front-count, length-append front (m ∷ b.rest))))

  pub expandable : {members : List ℕ} (set : ℕ) {count : ℕ} → Members members → count ≡ length (open_imports imports w.done set members)
      → Expandable (open_imports imports w.done set members) count a.list w
  expandable {members} set k e =
      record {
        counted = e;
        most = members-most imports w.done set members k.most;
        size = a.sizes.0;
        within = h.shows.within;
      }

  -- The module by itself.
  pub alone-members : Members (m ∷ [])
  alone-members = record { below = below-cons front_below below-nil; most = omega arith }

  pub alone-open : open_imports imports w.done 0 (m ∷ []) ≡ undone_imports b.project b.made m
  alone-open = open-undone b.project imports h.laid b.made w.done (λ d _. done-shown d) m front_below

  -- Its circle.
  circle-open : (circle : Gathered) → gathered_on circle ≡ circle_of b.project m
      → open_imports imports w.done circle.have (gathered_on circle) ≡ outside_imports b.project b.made (circle_of b.project m)
  circle-open circle e =
      open-outside b.project imports h.laid b.made w.done (λ d _. done-shown d) circle.have (gathered_on circle) circle.below (λ d _. circle.marks d)
      ∙ ap (outside_imports b.project b.made) e

pub circle-members : (circle : Gathered) → Members (gathered_on circle)
circle-members circle = record { below = circle.below; most = below_length circle.once circle.below }

-- A set with one more module.
pub marks-more : (new old m : ℕ) (l : List ℕ) → Marks old l → ((j : ℕ) → bit new j ≡ (eqb j m || bit old j)) → Marks new (m ∷ l)
unfolding elem
marks-more new old m l h f j = f j ∙ ap (λ (x : Bool). eqb j m || x) (h j)

pub marks-none : Marks 0 []
unfolding elem
marks-none = bit-zero

-- Step 1. What stands behind the front of the list.
abbrev pub behind : Project → Arrays → ModuleWalk → ModuleState → Behind
behind p a w s = record { project = p; rest = stack a.list (w.end - 1); marks = marks_of s; made = groups_of s }

module _ {p : Project} {section : List ℕ} {imports : Imports} {a : Arrays} {w : ModuleWalk} {s : ModuleState}
    (h : Walking p section imports a w s) (some : 0 < w.end) where
  abbrev front : ℕ
  front = get_or a.list (w.end - 1) 0

  pub at_front : Walking p section imports a w (state_at front (behind p a w s))
  at_front = subst (Walking p section imports a w) (front-shown h.shows some) h

  pub from_front : {after : Arrays} {o : Outcome ModuleWalk} → Visited p (state_at front (behind p a w s)) after o → Visited p s after o
  from_front {after} {o} c = subst (λ (t : ModuleState). Visited p t after o) (sym (front-shown h.shows some)) c

  pub is-passed : bit w.done front ≡ true
      → Visited p s a (WentOn (record { end = w.end - 1; done = w.done; marks = w.marks; groups = w.groups; used = w.used }))
  is-passed d = from_front (came-done at_front (sym (h.shows.done front) ∙ d))

  pub is-undone : bit w.done front ≡ false → Undone (behind p a w s) section imports a w front
  is-undone d = record { walking = at_front; undone = sym (h.shows.done front) ∙ d }

-- Step 2.
module _ {b : Behind} {section : List ℕ} {imports : Imports} {a : Arrays} {w : ModuleWalk} {m : ℕ} (u : Undone b section imports a w m)
    {count : ℕ} (counted : count ≡ length (open_imports imports w.done 0 (m ∷ []))) where
  same_count : count ≡ length (undone_imports b.project b.made m)
  same_count = counted ∙ ap length (alone-open u.walking)

  pub is-alone : count ≡ 0 → visit_module b.project (state_at m b) ≡ module_state b.rest [] ((m ∷ []) ∷ b.made)
  is-alone e =
      visit-alone b.project m b.rest b.marks b.made u.undone
      (empty-none (undone_imports b.project b.made m) (omega (arith, same_count)))

  pub is-importing : (count ≡ 0 → ⊥) → Importing b section imports a w m count
  is-importing e = record { undone = u; counted = same_count; some = omega arith }

-- Step 3.
module _ {b : Behind} {section : List ℕ} {imports : Imports} {a : Arrays} {w : ModuleWalk} {m count : ℕ}
    (i : Importing b section imports a w m count) where
  pub importing-count : count ≡ length (open_imports imports w.done 0 (m ∷ []))
  importing-count = i.counted ∙ ap length (sym (alone-open i.undone.walking))

  imports-some : is_empty (undone_imports b.project b.made m) ≡ false
  imports-some = empty-some (undone_imports b.project b.made m) (omega (arith, i.counted, i.some))

  module _ (circle : Gathered) (c : CircleGathered section m circle) where
    same-circle : gathered_on circle ≡ circle_of b.project m
    same-circle =
        let h = i.undone.walking in
        c b.project h.accepted h.circles (h.walked.list-below m ∈-self)

    circle-count : length (circle_of b.project m) ≡ circle.count
    circle-count = sym (ap length same-circle) ∙ length-take-le circle.count circle.array (omega (arith, circle.sizes))

    pub is-uncircled : circle.count ≡ 0
        → visit_module b.project (state_at m b)
        ≡ module_state (open_imports imports w.done 0 (m ∷ []) ++ (m ∷ b.rest)) b.marks b.made
    is-uncircled e =
        visit-uncircled b.project m b.rest b.marks b.made i.undone.undone imports-some
        (empty-none (circle_of b.project m) (omega (arith, circle-count)))
        ∙ ap (λ (l : List ℕ). module_state (l ++ (m ∷ b.rest)) b.marks b.made) (sym (alone-open i.undone.walking))

    pub is-circled : (circle.count ≡ 0 → ⊥) → Circled b imports a w m circle
    is-circled e =
        record {
          section = section;
          undone = i.undone;
          importing = imports-some;
          same = same-circle;
          some = omega arith;
        }

-- Step 4.
module _ {b : Behind} {imports : Imports} {a : Arrays} {w : ModuleWalk} {m : ℕ} {circle : Gathered}
    (k : Circled b imports a w m circle) where
  circle-some : is_empty (circle_of b.project m) ≡ false
  circle-some =
      empty-some (circle_of b.project m)
      (omega (arith, k.some, sym (ap length k.same) ∙ length-take-le circle.count circle.array (omega (arith, circle.sizes))))

  abbrev outside : List ℕ
  outside = outside_imports b.project b.made (circle_of b.project m)

  outside-open : open_imports imports w.done circle.have (gathered_on circle) ≡ outside
  outside-open = circle-open k.undone.walking circle k.same

  module _ {count : ℕ} (counted : count ≡ length (open_imports imports w.done circle.have (gathered_on circle))) where
    pub is_whole : count ≡ 0 → visit_module b.project (state_at m b) ≡ module_state b.rest [] (gathered_on circle ∷ b.made)
    is_whole e =
        visit-whole b.project m b.rest b.marks b.made k.undone.undone k.importing circle-some
        (empty-none outside (omega (arith, counted, ap length outside-open)))
        ∙ ap (λ (l : List ℕ). module_state b.rest [] (l ∷ b.made)) (sym k.same)

    pub is-leaving : (count ≡ 0 → ⊥) → Leaving b imports a w m circle count
    is-leaving e = record { circled = k; counted = counted ∙ ap length outside-open; some = omega arith }

module _ {b : Behind} {imports : Imports} {a : Arrays} {w : ModuleWalk} {m : ℕ} {circle : Gathered} {count : ℕ}
    (l : Leaving b imports a w m circle count) where
  pub leaving-count : count ≡ length (open_imports imports w.done circle.have (gathered_on circle))
  leaving-count = l.counted ∙ ap length (sym (outside-open l.circled))

  outside-some : is_empty (outside l.circled) ≡ false
  outside-some = empty-some (outside l.circled) (omega (arith, l.counted, l.some))

  pub gives_up : bit w.marks m ≡ true → (r : Gathered) → Appended circle r (open_imports imports w.done circle.have (gathered_on circle))
      → visit_module b.project (state_at m b) ≡ module_state b.rest [] (gathered_on r ∷ b.made)
  gives_up e r p =
      let same : append_new (circle_of b.project m) (outside l.circled) ≡ gathered_on r =
      sym (p.front ∙ ap (append_new (gathered_on circle)) (outside-open l.circled) ∙ ap (λ (x : List ℕ). append_new x (outside l.circled)) l.circled.same) in
      visit-gave-up b.project m b.rest b.marks b.made l.circled.undone.undone l.circled.importing (circle-some l.circled) outside-some
      (sym (marks-shown l.circled.undone.walking m) ∙ e)
      ∙ ap (λ (x : List ℕ). module_state b.rest [] (x ∷ b.made)) same

  pub is-marked : bit w.marks m ≡ false
      → visit_module b.project (state_at m b)
      ≡ module_state (open_imports imports w.done circle.have (gathered_on circle) ++ (m ∷ b.rest)) (m ∷ b.marks) b.made
  is-marked e =
      visit-marked b.project m b.rest b.marks b.made l.circled.undone.undone l.circled.importing (circle-some l.circled) outside-some
      (sym (marks-shown l.circled.undone.walking m) ∙ e)
      ∙ ap (λ (x : List ℕ). module_state (x ++ (m ∷ b.rest)) (m ∷ b.marks) b.made) (sym (outside-open l.circled))
