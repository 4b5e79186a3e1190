-- Laws for the proofs of the order call. Assumes nothing.
use Rattle.std.specs.Prelude.{ℕ, ◌+◌, ◌-◌, ◌/◌, ◌≤◌, ◌<◌, ◌≡◌, refl, eqb, ltb, drop, Result, Ok, Err}
use Rattle.std.specs.declared.convert.Infallible.{Infallible}
use native.Mathlib.Omega.{arith}
use Rattle.std.proofs.Math.Nat.{le_trans}
use Rattle.std.proofs.Common.{◌∙◌, take_at, lt-ltb, le-ltb, ltb-false, eqb-true}
use Rattle.std.proofs.Math.Path.{sym, ap}
use mathlib.Core.List.{List, []}
use Rattle.std.proofs.Math.ListN.{length, take}
use Rattle.std.proofs.lemmas.List.{length-reverse}
use Rattle.std.proofs.lemmas.List.Edits.{sets, sets-eq}
use Rattle.std.proofs.Math.Seq.{length-sets}
use Rattle.std.proofs.lemmas.Bool.{eqb-false}
use Rattle.rules.specs.Lists.{up_from}
use Rattle.rules.specs.Project.{Project, Reading, refused, accepted, read, project_of, section, module_limit, item_limit, item_row}
use Rattle.rules.specs.Walk.{Stop, finished, spent, full}
use Rattle.rules.specs.Modules.{ModuleState, groups_of, groups_in_order, module_walk, run_modules}
use Rattle.rules.specs.Items.{kept_rows}
use Rattle.rules.specs.Calls.{refusal, allowed, module_list_limit, item_list_limit, groups_bytes, order_bytes, overwrite, order_groups, order_answer, after_groups, order_of_project, order_call}
use Rattle.laws.specs.Lists.{Tested, holds, fails, tested, once-length, reverse-∈, ∈-up_from, length-up_from}
use Rattle.laws.specs.Accepted.{Accepted, read-accepted}
use Rattle.laws.specs.Runs.{Stopped, at-end}
use Rattle.laws.specs.ModuleWalk.{WalkedIn, walked, groups-made}
use Rattle.laws.proofs.Splits.{kept_rows-∈, once-kept_rows}
use Rattle.laws.proofs.Calls.{order-of, order-short, order-long}
use Rattle.laws.proofs.GivenOrders.{kept-count}
use Rattle.project.specs.RowLaws.{pairs-length}
use Rattle.chunk.specs.declared.walk.ModuleWalk.{ModuleWalk}
use Rattle.walks.specs.declared.Stop.{Stop as WalkStop}
use Rattle.order.specs.Orders.{Orderable, Ordered}
use Rattle.sort.specs.declared.Numbers.{Numbers}
use Rattle.sort.specs.Answers.{number_of, refusal_of, Halted, halted_spent, halted_full, numbers_of, Answered}
use Rattle.sort.specs.GroupLaws.{refuses, finished-of, halted-of}
use Rattle.sort.specs.Orders.{Ready, Walked, Found, Givable}

order-halted : (p : Project) (groups visits : ℕ) {stop : Stop (List ℕ)} {number made : ℕ} → Halted stop number made
    → order_answer p groups visits stop ≡ refusal number visits made
unfolding order_answer
order-halted p groups visits (halted_spent e) = rw e
order-halted p groups visits (halted_full e) = rw e

-- The rows stand in front.
front : (before placed rows : List ℕ) (end : ℕ) → length placed ≤ length before → rows ≡ sets before 0 placed → end ≡ length placed → take end rows ≡ placed
front before placed rows end h e f =
    let size : 0 + length placed ≤ length before = omega arith in
    rw (e, sets-eq placed before 0 size) (take_at placed (drop (0 + length placed) before) end (sym f))

-- The answers to a sort of all groups.
module _ {p : Project} {stop : Stop (List ℕ)} {rows reply : List ℕ} {count : ℕ} where
  pub rows-within : {end n : ℕ} → Givable p stop rows count reply (Ok (end, n)) → end ≤ length rows
  rows-within g =
      let r = finished-of g.ordered in
      rw r.2.whole (simp length-sets (omega (arith, r.2.count, g.kept r.0 _ r.1, g.kept-most, g.size)))

  pub gives-order : (visits : ℕ) {end n : ℕ} {after : List ℕ} → Givable p stop rows count reply (Ok (end, n)) → after ≡ overwrite (take end rows) reply
      → Answered (order_answer p count visits stop) reply after
      (record { answer = 0; kept = end; groups = count; module_visits = visits; item_visits = n })
  unfolding order_answer
  gives-order visits {end} {n} g e =
      let r = finished-of g.ordered in
      let same : length (kept_rows p) ≡ length r.0 = g.kept r.0 n r.1 in
      let first : take end rows ≡ r.0 = front g.before r.0 rows end (omega (arith, g.kept-most, g.size)) r.2.whole (omega (arith, r.2.count)) in
      let kept : end ≡ length (kept_rows p) = omega (arith, r.2.count) in
      rw r.1
      (record {
        numbers = ap (λ (k : ℕ). record { answer = 0; kept = k; groups = count; module_visits = visits; item_visits = n }) kept;
        reply = e ∙ ap (λ (l : List ℕ). overwrite l reply) first;
      })

  pub gives-stopped : (visits : ℕ) {d : WalkStop Infallible} → Givable p stop rows count reply (Err d)
      → Answered (order_answer p count visits stop) reply reply (numbers_of (refusal (number_of (refusal_of d).0) visits (refusal_of d).1))
  gives-stopped visits {d} g =
      rw (order-halted p count visits (halted-of g.ordered)) (refuses (number_of (refusal_of d).0) visits (refusal_of d).1 reply)

-- No more rows are kept than there are.
pub kept-items : (p : Project) → length (kept_rows p) ≤ length p.items
kept-items p =
    let most : length (kept_rows p) ≤ length (up_from 0 (length p.items)) =
    once-length (up_from 0 (length p.items)) (once-kept_rows p) (λ row m. ∈-up_from 0 (length p.items) (omega arith) (omega (arith, (kept_rows-∈ p m).item))) in
    omega (arith, length-up_from 0 (length p.items))

-- An allowance that is not 0 stands for itself.
allowed-some : (allowance : ℕ) → 1 ≤ allowance → allowed allowance ≡ allowance
unfolding allowed
allowed-some allowance h = go (tested (eqb allowance 0))
  where
    go : Tested (eqb allowance 0) → allowed allowance ≡ allowance
    go (holds e) = absurd (omega (arith, eqb-true allowance 0 e))
    go (fails e) = rw (e, allowed)

pub allowed-most : (allowance : ℕ) → 1 ≤ allowed allowance
unfolding allowed
allowed-most allowance = go (tested (eqb allowance 0))
  where
    go : Tested (eqb allowance 0) → 1 ≤ allowed allowance
    go (holds e) = rw (e, allowed) (omega arith)
    go (fails e) = rw (e, allowed) (omega (arith, eqb-false allowance 0 e))

-- The visits of a walk that has finished are within its allowance.
pub visits-within : {p : Project} → Accepted p → (allowance : ℕ) {s : ModuleState} {n : ℕ} → run_modules p module_list_limit allowance ≡ finished s n
    → n ≤ allowance
visits-within {p} a allowance {s} {n} e = go (rw e at (walked a module_list_limit allowance))
  where
    go : Stopped (module_walk p) module_list_limit (λ n s. WalkedIn p s) allowance (finished s n) → n ≤ allowance
    go (at-end w f h) = h

-- The groups that the walk of an accepted project has found.
module _ {bytes groups reply : List ℕ} {count visits allowance : ℕ} {s : ModuleState} (f : Found bytes groups count visits reply allowance s) where
  abbrev p : Project
  p = project_of bytes

  project-accepted : Accepted p
  project-accepted = read-accepted bytes p f.ready.reads

  pub found-visits : visits ≤ allowance
  found-visits = visits-within project-accepted allowance f.grouped

  pub orderable : {out : List ℕ} → length out ≡ item_limit
      → Orderable p (groups_in_order s) (section bytes 0) (section bytes 1) (section bytes 3) groups count out
  unfolding project_of groups_in_order groups_bytes
  orderable size =
      let made = groups-made project-accepted module_list_limit allowance s visits f.grouped in
      let most : p.modules ≤ module_limit = project-accepted.modules-most in
      record {
        accepted = project-accepted;
        items-are = refl;
        imports-are = refl;
        needs-are = refl;
        bytes-are = f.bytes-are;
        count-is = f.count-is ∙ sym (length-reverse (groups_of s));
        count_most = omega (arith, f.count-is, made.count);
        each-once = λ g m. (made.members g (reverse-∈ (groups_of s) m)).once;
        members-below = λ g m. (made.members g (reverse-∈ (groups_of s) m)).below;
        out-size = size;
      }

  -- An order holds as many rows as are kept.
  placed-kept : (placed : List ℕ) (n : ℕ) → order_groups p item_list_limit (allowance - visits) [] (groups_in_order s) [] 0 ≡ finished placed n
      → length (kept_rows p) ≡ length placed
  placed-kept placed n e =
      let same = allowed-some allowance f.ready.some in
      kept-count project-accepted allowance
      {answer = record { number = 0; kept = length (kept_rows p); groups = count; module_visits = visits; item_visits = n; written = placed }}
      (record {
        state = s;
        module_visits = visits;
        grouped = rw same f.grouped;
        item_visits = n;
        ordered = rw same e;
        kept_count = refl;
      })

  pub givable : {before rows : List ℕ} {ending : Result (ℕ × ℕ) (WalkStop Infallible)} → length before ≡ item_limit
      → Ordered (order_groups p item_list_limit (allowance - visits) [] (groups_in_order s) [] 0) before rows ending
      → Givable p (order_groups p item_list_limit (allowance - visits) [] (groups_in_order s) [] 0) rows count reply ending
  unfolding order_bytes
  givable {before} size sorted =
      let made = groups-made project-accepted module_list_limit allowance s visits f.grouped in
      record {
        before = before;
        size = size;
        ordered = sorted;
        count_most = omega (arith, f.count-is, made.count, project-accepted.modules-most);
        kept = placed-kept;
        kept-most = omega (arith, kept-items p, project-accepted.items-most);
        room = omega (arith, kept-items p, f.ready.room);
      }

after-halted : (p : Project) (allowance : ℕ) {stop : Stop ModuleState} {number made : ℕ} → Halted stop number made
    → after_groups p allowance stop ≡ refusal number made 0
unfolding after_groups
after-halted p allowance (halted_spent e) = rw e
after-halted p allowance (halted_full e) = rw e

-- From the module walk to the sort of its groups.
module _ {bytes groups reply : List ℕ} {allowance : ℕ} where
  pub found : {w : ModuleWalk} {n : ℕ} (k : Walked bytes groups reply allowance (Ok (w, n)))
      → Found bytes (take w.used groups) w.groups n reply allowance (finished-of k.ran).0
  found k =
      let e = finished-of k.ran in
      record { ready = k.ready; grouped = e.1; bytes-are = e.2.bytes; count-is = e.2.count }

  pub sorts-finished : {w : ModuleWalk} {n : ℕ} {after : List ℕ} {r : Numbers} (k : Walked bytes groups reply allowance (Ok (w, n)))
      → ((s : ModuleState) → Found bytes (take w.used groups) w.groups n reply allowance s
      → Answered
      (order_answer (project_of bytes) (length (groups_of s)) n (order_groups (project_of bytes) item_list_limit (allowance - n) [] (groups_in_order s) [] 0)) reply after r)
      → Answered (after_groups (project_of bytes) allowance (run_modules (project_of bytes) module_list_limit allowance)) reply after r
  unfolding after_groups
  sorts-finished k h = rw (finished-of k.ran).1 (h _ (found k))

  pub sorts-stopped : {d : WalkStop Infallible} → Walked bytes groups reply allowance (Err d)
      → Answered (after_groups (project_of bytes) allowance (run_modules (project_of bytes) module_list_limit allowance)) reply reply
      (numbers_of (refusal (number_of (refusal_of d).0) (refusal_of d).1 0))
  sorts-stopped {d} k =
      rw (after-halted (project_of bytes) allowance (halted-of k.ran)) (refuses (number_of (refusal_of d).0) (refusal_of d).1 0 reply)

-- Number 10, and an answer behind it.
module _ (bytes : List ℕ) (allowance : ℕ) (reply : List ℕ) where
  rows-count : order_bytes (project_of bytes) ≡ length (section bytes 0) / 2
  unfolding order_bytes project_of
  rows-count = pairs-length item_row (section bytes 0)

  pub order-answers-short : length reply < length (section bytes 0) / 2
      → Answered (order_of_project (project_of bytes) (length reply) allowance) reply reply (numbers_of (refusal 10 0 0))
  order-answers-short h =
      rw (order-short (project_of bytes) (length reply) allowance (lt-ltb (length reply) (order_bytes (project_of bytes)) (rw rows-count h))) (refuses 10 0 0 reply)

  pub ready : read bytes ≡ accepted (project_of bytes) → length (section bytes 0) / 2 ≤ length reply → 1 ≤ allowance → Ready bytes reply allowance
  ready reads h k = record { reads = reads; room = rw rows-count h; some = k }

  pub order-answers-long : {after : List ℕ} {r : Numbers} → length (section bytes 0) / 2 ≤ length reply
      → Answered (after_groups (project_of bytes) allowance (run_modules (project_of bytes) module_list_limit allowance)) reply after r
      → Answered (order_of_project (project_of bytes) (length reply) allowance) reply after r
  order-answers-long h k =
      rw (order-long (project_of bytes) (length reply) allowance (le-ltb (length reply) (order_bytes (project_of bytes)) (rw rows-count h))) k

-- The call as a whole.
turned_down : (bytes : List ℕ) (space allowance n : ℕ) → read bytes ≡ refused n → order_call bytes space allowance ≡ refusal n 0 0
unfolding order_call
turned_down bytes space allowance n e = rw (e, order_call)

pub order-refused : (bytes reply : List ℕ) (allowance n : ℕ) → read bytes ≡ refused n
    → Answered (order_call bytes (length reply) allowance) reply reply (numbers_of (refusal n 0 0))
order-refused bytes reply allowance n e = rw (turned_down bytes (length reply) allowance n e) (refuses n 0 0 reply)

-- Whatever a call answers, as many bytes as it reports kept items have room in its reply.
module _ (p : Project) (space : ℕ) where
  answer-fits : (groups visits : ℕ) → order_bytes p ≤ space → (stop : Stop (List ℕ)) → (order_answer p groups visits stop).kept ≤ space
  unfolding order_answer refusal order_bytes
  answer-fits groups visits h (finished rows made) = le_trans (kept-items p) h
  answer-fits groups visits h (spent made) = omega arith
  answer-fits groups visits h (full made) = omega arith

  after-fits : (allowance : ℕ) → order_bytes p ≤ space → (stop : Stop ModuleState) → (after_groups p allowance stop).kept ≤ space
  unfolding after_groups refusal
  after-fits allowance h (finished s made) = answer-fits (length (groups_of s)) made h _
  after-fits allowance h (spent made) = omega arith
  after-fits allowance h (full made) = omega arith

  project-fits : (allowance : ℕ) → (order_of_project p space allowance).kept ≤ space
  unfolding refusal
  project-fits allowance = go (tested (ltb space (order_bytes p)))
    where
      go : Tested (ltb space (order_bytes p)) → (order_of_project p space allowance).kept ≤ space
      go (holds e) = rw (order-short p space allowance e) (omega arith)
      go (fails e) =
          rw (order-long p space allowance e) (after-fits allowance (ltb-false space (order_bytes p) e) (run_modules p module_list_limit allowance))

pub kept-fits : (bytes : List ℕ) (space allowance : ℕ) → (order_call bytes space allowance).kept ≤ space
unfolding refusal
kept-fits bytes space allowance = go (read bytes) refl
  where
    go : (r : Reading) → read bytes ≡ r → (order_call bytes space allowance).kept ≤ space
    go (refused n) e = rw (turned_down bytes space allowance n e) (omega arith)
    go (accepted p) e = rw (order-of bytes p e space allowance) (project-fits p space (allowed allowance))
