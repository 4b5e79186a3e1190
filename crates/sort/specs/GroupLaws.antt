-- Laws for the proofs of the groups call. Assumes nothing.
use Rattle.std.specs.Prelude.{ℕ, ◌+◌, ◌*◌, ◌≤◌, ◌<◌, ◌≡◌, refl, take, Result, Ok, Err}
use Rattle.std.specs.declared.convert.Infallible.{Infallible}
use Rattle.std.proofs.Common.{arith, mul-le-mul, ◌∙◌, lt-ltb, le-ltb}
use Rattle.std.proofs.Math.Nat.{le_trans}
use Rattle.std.proofs.Math.Path.{sym, ap, subst}
use mathlib.Core.List.{List}
use Rattle.std.proofs.Math.ListN.{length}
use Rattle.rules.specs.Project.{Project, refused, read, project_of, module_limit, section}
use Rattle.rules.specs.Walk.{Stop, finished}
use Rattle.rules.specs.Modules.{ModuleState, groups_in_order, run_modules}
use Rattle.rules.specs.Calls.{refusal, module_list_limit, overwrite, group_bytes, groups_bytes, groups_answer, groups_of_project, groups_call}
use Rattle.laws.specs.Accepted.{Accepted, read-accepted, read-passes}
use Rattle.laws.specs.ModuleWalk.{groups-made, groups-fit}
use Rattle.laws.proofs.Calls.{groups-short, groups-long}
use Rattle.project.specs.Sections.{Accepts}
use Rattle.project.specs.declared.Layout.{Layout}
use Rattle.walks.specs.declared.Stop.{Stop as WalkStop}
use Rattle.walks.specs.Runs.{Ran, has_finished, was_spent, list_was_full, was_crowded}
use Rattle.chunk.specs.Walks.{Holds, Groupable}
use Rattle.chunk.specs.CircleLaws.{sound-wider}
use Rattle.chunk.specs.declared.walk.ModuleWalk.{ModuleWalk}
use Rattle.sort.specs.declared.Numbers.{Numbers}
use Rattle.sort.specs.Answers.{number_of, refusal_of, Halted, halted_spent, halted_full, numbers_of, Answered}
use Rattle.sort.specs.Groups.{Answerable}

-- What a run comes to says of the definition's run.
module _ {Spec State : Type 0} {stop : Stop Spec} {shows : State → Spec → Type 0} where
  pub finished-of : {C : Type 0} {crowds : C → Type 0} {w : State} {n : ℕ} → Ran stop shows crowds (Ok (w, n))
      → (s : Spec) × (stop ≡ finished s n) × shows w s
  finished-of (has_finished s e h) = (s, e, h)

  pub halted-of : {crowds : Infallible → Type 0} {d : WalkStop Infallible} → Ran stop shows crowds (Err d)
      → Halted stop (number_of (refusal_of d).0) (refusal_of d).1
  halted-of (was_spent e) = halted_spent e
  halted-of (list_was_full e) = halted_full e
  halted-of (was_crowded {c} h) = elim c [ ]

-- A refusal writes nothing.
pub refuses : (n module_visits item_visits : ℕ) (reply : List ℕ)
    → Answered (refusal n module_visits item_visits) reply reply (numbers_of (refusal n module_visits item_visits))
unfolding refusal overwrite
refuses n module_visits item_visits reply = record { numbers = refl; reply = refl }

groups-halted : {stop : Stop ModuleState} {number made : ℕ} → Halted stop number made → groups_answer stop ≡ refusal number made 0
unfolding groups_answer
groups-halted (halted_spent e) = rw e
groups-halted (halted_full e) = rw e

-- The answers to a grouping.
module _ {stop : Stop ModuleState} {out reply : List ℕ} where
  pub answers-finished : {w : ModuleWalk} {n : ℕ} {after : List ℕ} → Answerable stop out reply (Ok (w, n)) → after ≡ overwrite (take w.used out) reply
      → Answered (groups_answer stop) reply after
      (record { answer = 0; kept = 0; groups = w.groups; module_visits = n; item_visits = 0 })
  unfolding groups_answer
  answers-finished {n = n} a e =
      let f = finished-of a.ran in
      rw f.1
      (record {
        numbers = ap (λ (g : ℕ). record { answer = 0; kept = 0; groups = g; module_visits = n; item_visits = 0 }) f.2.count;
        reply = e ∙ ap (λ (l : List ℕ). overwrite l reply) f.2.bytes;
      })

  pub answers-stopped : {d : WalkStop Infallible} → Answerable stop out reply (Err d)
      → Answered (groups_answer stop) reply reply (numbers_of (refusal (number_of (refusal_of d).0) (refusal_of d).1 0))
  answers-stopped {d} a = rw (groups-halted (halted-of a.ran)) (refuses (number_of (refusal_of d).0) (refusal_of d).1 0 reply)

-- What a grouping writes fits the array that is made for it.
pub bytes_fit : {p : Project} → Accepted p → (allowance : ℕ) (s : ModuleState) (n : ℕ) → run_modules p module_list_limit allowance ≡ finished s n
    → length (group_bytes (groups_in_order s)) ≤ module_limit * (module_limit + 1)
unfolding groups_bytes
bytes_fit {p} a allowance s n f =
    let most : p.modules ≤ module_limit = a.modules-most in
    let more : p.modules + 1 ≤ module_limit + 1 = omega arith in
    le_trans (groups-fit a module_list_limit allowance s n f) (mul-le-mul most more)

-- The grouping of an accepted project.
module _ (bytes : List ℕ) {l : Layout} (a : Accepts bytes l) where
  abbrev p : Project
  p = project_of bytes

  project-accepted : Accepted p
  project-accepted = read-accepted bytes p a.reads

  pub groupable : Groupable p (section bytes 1) (section bytes 2) l.modules l.entry.0
  unfolding project_of
  groupable =
      record {
        accepted = project-accepted;
        modules = sym a.modules;
        entry = sym a.entry;
        imports = refl;
        circles = refl;
        sound = sound-wider p.modules module_limit 0 _ project-accepted.modules-most (read-passes bytes p a.reads).0.no-bad-circle;
      }

  pub answerable : (allowance : ℕ) {out reply : List ℕ} {found : Result (ModuleWalk × ℕ) (WalkStop Infallible)} → length out ≡ module_limit * (module_limit + 1)
      → l.modules * (l.modules + 1) ≤ length reply → Ran (run_modules p module_list_limit allowance) (Holds out) (λ _. ⊥) found
      → Answerable (run_modules p module_list_limit allowance) out reply found
  unfolding groups_bytes
  answerable allowance {reply = reply} size long e =
      record {
        ran = e;
        count = λ s n f. le_trans (groups-made project-accepted module_list_limit allowance s n f).count project-accepted.modules-most;
        within = λ s n f. rw size (bytes_fit project-accepted allowance s n f);
        fits = λ s n f.
            le_trans (groups-fit project-accepted module_list_limit allowance s n f) (subst (λ (m : ℕ). m * (m + 1) ≤ length reply) a.modules long);
      }

  -- Number 10, and an answer behind it.
  pub answers-short : (allowance : ℕ) (reply : List ℕ) → length reply < l.modules * (l.modules + 1)
      → Answered (groups_of_project p (length reply) allowance) reply reply (numbers_of (refusal 10 0 0))
  unfolding groups_bytes
  answers-short allowance reply h =
      let short : length reply < p.modules * (p.modules + 1) = subst (λ (m : ℕ). length reply < m * (m + 1)) a.modules h in
      rw (groups-short p (length reply) allowance (lt-ltb (length reply) (p.modules * (p.modules + 1)) short)) (refuses 10 0 0 reply)

  pub answers-long : (allowance : ℕ) {reply after : List ℕ} {r : Numbers} → l.modules * (l.modules + 1) ≤ length reply
      → Answered (groups_answer (run_modules p module_list_limit allowance)) reply after r
      → Answered (groups_of_project p (length reply) allowance) reply after r
  unfolding groups_bytes
  answers-long allowance {reply} h k =
      let long : p.modules * (p.modules + 1) ≤ length reply = subst (λ (m : ℕ). m * (m + 1) ≤ length reply) a.modules h in
      rw (groups-long p (length reply) allowance (le-ltb (length reply) (p.modules * (p.modules + 1)) long)) k

-- The call as a whole.
pub call-refused : (bytes reply : List ℕ) (allowance n : ℕ) → read bytes ≡ refused n
    → Answered (groups_call bytes (length reply) allowance) reply reply (numbers_of (refusal n 0 0))
unfolding groups_call
call-refused bytes reply allowance n e = rw (e, groups_call) (refuses n 0 0 reply)
