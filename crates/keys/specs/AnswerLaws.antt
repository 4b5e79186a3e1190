-- The answer of an order call, read off the numbers returned and the reply. Assumes nothing.
use Rattle.std.specs.Prelude.{ℕ, ◌≤◌, ◌<◌, ◌≡◌, refl, List, ◌++◌, Result, Ok, Err, ltb, length, take, drop}
use Rattle.std.proofs.Common.{arith, sym, take_at, lt-ltb, le-ltb}
use Rattle.rules.specs.Project.{Project, Reading, refused, accepted, read, item_limit}
use Rattle.rules.specs.Walk.{Stop, finished, spent, full}
use Rattle.rules.specs.Modules.{ModuleState, groups_of, run_modules}
use Rattle.rules.specs.Calls.{Answer, refusal, allowed, module_list_limit, order_bytes, order_answer, after_groups, order_of_project, order_call, overwrite}
use Rattle.laws.specs.Lists.{Tested, holds, fails, tested}
use Rattle.laws.specs.Terms.{Given}
use Rattle.laws.specs.Accepted.{read-accepted}
use Rattle.laws.proofs.Calls.{order-short, order-long, order-of, call-given}
use Rattle.laws.proofs.GivenOrders.{kept-count}
use Rattle.sort.specs.declared.Numbers.{Numbers}
use Rattle.sort.specs.Answers.{Answered}
use Rattle.keys.specs.declared.TooShort.{TooShort}
use Rattle.rules.specs.Keys.{key_of, key_allowance, key_text}
use Rattle.keys.specs.Texts.{key_text_limit, answer_of, rendered, rendered_bytes, Renders}

-- An answer is a refusal, or an order is given.
data Kind : Answer → Type 0 where
  refuses : (n module_visits item_visits : ℕ) → Kind (refusal n module_visits item_visits)
  gives : {a : Answer} → Given a → Kind a

module _ (p : Project) where
  answer-kind : (groups visits : ℕ) (stop : Stop (List ℕ)) → Kind (order_answer p groups visits stop)
  unfolding order_answer
  answer-kind groups visits (finished rows made) = gives refl
  answer-kind groups visits (spent made) = refuses 11 visits made
  answer-kind groups visits (full made) = refuses 12 visits made

  after-kind : (allowance : ℕ) (stop : Stop ModuleState) → Kind (after_groups p allowance stop)
  unfolding after_groups
  after-kind allowance (finished s made) = answer-kind (length (groups_of s)) made _
  after-kind allowance (spent made) = refuses 11 made 0
  after-kind allowance (full made) = refuses 12 made 0

  project-kind : (space allowance : ℕ) → Kind (order_of_project p space allowance)
  project-kind space allowance = go (tested (ltb space (order_bytes p)))
    where
      go : Tested (ltb space (order_bytes p)) → Kind (order_of_project p space allowance)
      go (holds e) = rw (order-short p space allowance e) (refuses 10 0 0)
      go (fails e) = rw (order-long p space allowance e) (after-kind allowance (run_modules p module_list_limit allowance))

-- As many bytes are written as items are kept, whatever the answer is.
module _ (bytes : List ℕ) (space allowance : ℕ) where
  turned_down : (n : ℕ) → read bytes ≡ refused n → order_call bytes space allowance ≡ refusal n 0 0
  unfolding order_call
  turned_down n e = rw (e, order_call)

  pub written-kept : (order_call bytes space allowance).kept ≡ length (order_call bytes space allowance).written
  unfolding refusal
  written-kept = go (read bytes) refl
    where
      by_kind : (p : Project) → read bytes ≡ accepted p → {a : Answer} → order_call bytes space allowance ≡ a → Kind a → a.kept ≡ length a.written
      by_kind p e f (refuses n module_visits item_visits) = refl
      by_kind p e f (gives g) =
          rw f at (kept-count (read-accepted bytes p e) allowance (call-given bytes p e space allowance (rw (sym f) at g)))

      go : (r : Reading) → read bytes ≡ r → (order_call bytes space allowance).kept ≡ length (order_call bytes space allowance).written
      go (refused n) e = rw (turned_down n e) refl
      go (accepted p) e = by_kind p e refl (rw (order-of bytes p e space allowance) (project-kind p space (allowed allowance)))

-- The first bytes of the reply, as many as the kept items, are the rows written.
pub answer-read : (bytes : List ℕ) (space allowance : ℕ) {before after : List ℕ} {r : Numbers}
    → Answered (order_call bytes space allowance) before after r → answer_of r (take r.kept after) ≡ order_call bytes space allowance
unfolding overwrite
answer-read bytes space allowance {before} {after} {r} h =
    let a = order_call bytes space allowance in
    let rows : take a.kept (a.written ++ drop (length a.written) before) ≡ a.written =
    take_at a.written (drop (length a.written) before) a.kept (sym (written-kept bytes space allowance)) in
    rw (h.numbers, h.reply, rows) refl

-- A text of n bytes, and a slice that is too short for it, or long enough.
module _ (text before : List ℕ) {n : ℕ} (size : n ≡ length text) where
  pub renders-short : length before < n → Renders text before before (Err (record { length = n }))
  unfolding rendered rendered_bytes
  renders-short h =
      let short = lt-ltb (length before) (length text) (omega (arith, size)) in
      record { answer = rw (short, rendered, size) refl; bytes = rw (short, rendered_bytes) refl }

  pub renders-written : {copied : List ℕ} → n ≤ length before → copied ≡ text → Renders text before (copied ++ drop n before) (Ok n)
  unfolding rendered rendered_bytes overwrite
  renders-written h e =
      let long = le-ltb (length before) (length text) (omega (arith, size)) in
      record { answer = rw (long, rendered, size) refl; bytes = rw (long, rendered_bytes, e, size) refl }

-- From the text of the answer that was read to the key of the project.
pub key-rendered : (bytes : List ℕ) {before after out left : List ℕ} {r : Numbers} {n : Result ℕ TooShort} → Answered (order_call bytes item_limit key_allowance) before after r
    → Renders (key_of (answer_of r (take r.kept after))) out left n × (length (key_of (answer_of r (take r.kept after))) ≤ key_text_limit)
    → Renders (key_text bytes) out left n × (length (key_text bytes) ≤ key_text_limit)
unfolding key_text
key-rendered bytes h k = let e = answer-read bytes item_limit key_allowance h in (rw e at k.0, rw e at k.1)

-- A slice that is long enough has the text in front.
pub renders-long : (text : List ℕ) {before after : List ℕ} {r : Result ℕ TooShort} → Renders text before after r → length text ≤ length before
    → (r ≡ Ok (length text)) × (after ≡ overwrite text before)
unfolding rendered rendered_bytes
renders-long text {before} k h =
    let long = le-ltb (length before) (length text) h in
    (rw (long, rendered) at k.answer, rw (long, rendered_bytes) at k.bytes)
