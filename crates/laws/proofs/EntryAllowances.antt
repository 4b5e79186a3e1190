-- "A larger allowance changes no key", of the entries, and what two hosts read off. Assumes nothing.
use Rattle.std.specs.Prelude.{ℕ, ◌≤◌, ◌≡◌, refl, List, ltb, length}
use Rattle.std.proofs.Common.{arith, ◌∙◌, inl, ⊎_elim, le-ltb}
use Rattle.std.proofs.Math.Path.{sym, ap}
use Rattle.rules.specs.Project.{Reading, refused, accepted, read}
use Rattle.rules.specs.Calls.{Answer, refusal, allowed, order_call, report_bytes, reported, groups_entry, order_entry}
use Rattle.laws.proofs.LargerAllowances.{Larger, same, further, groups-call-larger, order-call-larger, Within, within_more, groups-call-within, order-call-within, allowed-small}
use Rattle.laws.specs.Lists.{Tested, holds, fails, tested}
use Rattle.laws.specs.Entries.{reported-short, reported-long, visits-read, items-read, report-read, given-read, order-read}
use Rattle.laws.specs.Demands.{order_read}
use Rattle.laws.proofs.EntryDemands.{read_off}
use Rattle.laws.specs.Allowances.{EntryChangesNoKey, OneKey}
use Rattle.laws.proofs.Allowances.{order-key}

module _ (b : ℕ) (reply report : List ℕ) where
  entry-changes-none : {x y : Answer} → Larger x y → Within (allowed b) x → Within (allowed b) y
      → EntryChangesNoKey b (reported x reply report) (reported y reply report)
  entry-changes-none same v w = record { same-entry = λ o. refl; same_number = λ n. refl; no-fewer = λ bits e. (omega arith, omega arith) }
  entry-changes-none {x} {y} (further e m i) v w = go (tested (ltb (length report) 20))
    where
      go : Tested (ltb (length report) 20) → EntryChangesNoKey b (reported x reply report) (reported y reply report)
      go (holds t) =
          rw (reported-short x reply report t, reported-short y reply report t)
          (record { same-entry = λ o. refl; same_number = λ n. refl; no-fewer = λ bits f. (omega arith, omega arith) })
      go (fails t) =
          rw (reported-long x reply report t, reported-long y reply report t)
          (record {
            same-entry = ⊎_elim (λ o. absurd (omega arith)) (λ o. absurd (omega arith));
            same_number = λ n. absurd (n e);
            no-fewer =
                λ bits f.
                let small = allowed-small b bits in (
                  rw (visits-read x reply report (omega (arith, v.modules-most)), visits-read y reply report (omega (arith, w.modules-most))) m,
                  rw (items-read x reply report (omega (arith, v.items-most)), items-read y reply report (omega (arith, w.items-most))) i,
                );
          })

module _ (bytes reply report : List ℕ) (a b : ℕ) (no-larger : allowed a ≤ allowed b) where
  pub groups-entry-key : EntryChangesNoKey b (groups_entry bytes reply report a) (groups_entry bytes reply report b)
  unfolding groups_entry
  groups-entry-key =
      entry-changes-none b reply report (groups-call-larger bytes (length reply) a b no-larger)
      (within_more no-larger (groups-call-within bytes (length reply) a)) (groups-call-within bytes (length reply) b)

  pub order-entry-key : EntryChangesNoKey b (order_entry bytes reply report a) (order_entry bytes reply report b)
  unfolding order_entry
  order-entry-key =
      entry-changes-none b reply report (order-call-larger bytes (length reply) a b no-larger)
      (within_more no-larger (order-call-within bytes (length reply) a)) (order-call-within bytes (length reply) b)

order-off : (bytes reply report : List ℕ) (allowance : ℕ) → (order_entry bytes reply report allowance).number ≡ 0
    → order_read (order_entry bytes reply report allowance) ≡ (order_call bytes (length reply) allowance).written
unfolding order_entry order_call refusal
order-off bytes reply report allowance given = go (read bytes) refl
  where
    go : (r : Reading) → read bytes ≡ r → order_read (order_entry bytes reply report allowance) ≡ (order_call bytes (length reply) allowance).written
    go (accepted p) e = read_off bytes p e reply report allowance given
    go (refused n) e =
        order-read (order_call bytes (length reply) allowance) reply report
        (given-read (order_call bytes (length reply) allowance) reply report given).1 (rw (e, order_call) (omega arith)) (rw (e, order_call) refl)

module _ (bytes : List ℕ) (a b : ℕ) (no-larger : allowed a ≤ allowed b) (reply report : List ℕ) (given : (order_entry bytes reply report a).number ≡ 0)
    (other-reply other-report : List ℕ) (one-length : length other-reply ≡ length reply) (long : 20 ≤ length other-report) where
  abbrev answer : Answer
  answer = order_call bytes (length reply) a

  answer-given : (answer.number ≡ 0) × (20 ≤ length report)
  unfolding order_entry
  answer-given = given-read answer reply report given

  one_answer : order_call bytes (length other-reply) b ≡ answer
  one_answer = rw one-length ((order-key bytes (length reply) a b no-larger).same_answer (inl answer-given.0))

  entry-given : (order_entry bytes other-reply other-report b).number ≡ 0
  unfolding order_entry
  entry-given = rw (one_answer, reported-long answer other-reply other-report (le-ltb (length other-report) 20 long)) answer-given.0

  pub one_key : OneKey (order_entry bytes reply report a) (order_entry bytes other-reply other-report b)
  unfolding order_entry
  one_key =
      record {
        one_number = entry-given ∙ sym given;
        one-order =
            order-off bytes other-reply other-report b entry-given ∙ ap (λ (x : Answer). x.written) one_answer
            ∙ sym (order-off bytes reply report a given);
        one-report =
            report-read (order_call bytes (length other-reply) b) other-reply other-report long ∙ ap report_bytes one_answer
            ∙ sym (report-read answer reply report answer-given.1);
      }
