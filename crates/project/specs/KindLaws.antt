-- What the code's kinds of items say of the numbers that stand for them. Assumes nothing.
use Rattle.std.specs.Prelude.{ℕ, zero, suc, ◌≤◌, ◌<◌, ◌≡◌, Bool, true, false, not, eqb, Option, Some, None, MatchOption, IsTrue}
use Rattle.std.specs.Option.{is_some}
use Rattle.std.proofs.Common.{arith, rules, refl, sym, ◌∙◌, lt-ltb, ne_eqb}
use Rattle.rules.specs.Items.{is_kept, is_injected, may_drop}
use Rattle.project.specs.declared.kinds.Kind.{Kind}
use Rattle.project.specs.declared.kinds.Kind.TheVariants.{Plain, MayDropAll, MayDropWeak, Injected, Dropped}
use Rattle.project.specs.Kinds.{kept_by, injected_by, may_drop_by, is_no_kind, Says}

-- 0 to 5, by place
pub says-number : Says (Some Plain) 0 × Says (Some MayDropAll) 1 × Says (Some MayDropAll) 2 × Says (Some MayDropWeak) 3 × Says (Some Injected) 4 × Says (Some Dropped) 5
unfolding is_kept is_injected may_drop kept_by injected_by may_drop_by is_no_kind
says-number = search rules

pub says_all : (kind : ℕ) → 1 ≤ kind → kind ≤ 2 → Says (Some MayDropAll) kind
says_all zero h k = absurd (omega arith)
says_all (suc zero) h k = says-number.1
says_all (suc (suc zero)) h k = says-number.2
says_all (suc (suc (suc n))) h k = absurd (omega arith)

pub says-none : (kind : ℕ) → 5 < kind → Says None kind
unfolding is_kept is_injected may_drop kept_by injected_by may_drop_by is_no_kind
says-none kind h =
    record {
      above = lt-ltb 5 kind h;
      kept = rw (other 5 (omega arith));
      injected = other 4 (omega arith);
      drops = λ weight. rw (other 1 (omega arith), other 2 (omega arith), other 3 (omega arith));
    }
  where
    other : (n : ℕ) → n ≤ 5 → eqb kind n ≡ false
    other n k = ne_eqb kind n (λ e. omega arith)

pub none_shown : (k : Option Kind) (r : Bool) → is_some k ≡ not r → r ≡ is_no_kind k
unfolding is_no_kind
none_shown (Some k) false e = refl
none_shown (Some k) true e = e
none_shown None true e = refl
none_shown None false e = e

-- A test of a kind, by what it answers where there is one, and where there is none.
module _ (test : Option Kind → Bool) {P : Kind → Type 0} {r : Bool} where
  pub some_and : (k : Option Kind) → test None ≡ false → ((x : Kind) → P x → r ≡ test (Some x)) → MatchOption k (r ≡ false) P → r ≡ test k
  some_and (Some x) n f e = f x e
  some_and None n f e = e ∙ sym n

  pub none_or : (k : Option Kind) → test None ≡ true → ((x : Kind) → P x → r ≡ test (Some x)) → MatchOption k (IsTrue r) P → r ≡ test k
  none_or (Some x) n f e = f x e
  none_or None n f e = e ∙ sym n
