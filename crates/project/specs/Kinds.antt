-- What the code's kinds of items mean, by the paper's tests on kind numbers. Assumes nothing.
use Rattle.std.specs.Prelude.{ℕ, ◌≡◌, Bool, true, false, eqb, ltb, Option, Some, None}
use Rattle.rules.specs.Items.{is_kept, is_injected, may_drop}
use Rattle.project.specs.declared.kinds.Kind.{Kind}
use Rattle.project.specs.declared.kinds.Kind.TheVariants.{Plain, MayDropAll, MayDropWeak, Injected, Dropped}

-- A number above 5 is not 5: the paper's test keeps it, and number 6 of the table turns it down.
unfoldable pub kept_by : Option Kind → Bool
kept_by (Some Plain) = true
kept_by (Some MayDropAll) = true
kept_by (Some MayDropWeak) = true
kept_by (Some Injected) = true
kept_by (Some Dropped) = false
kept_by None = true

unfoldable pub injected_by : Option Kind → Bool
injected_by (Some Plain) = false
injected_by (Some MayDropAll) = false
injected_by (Some MayDropWeak) = false
injected_by (Some Injected) = true
injected_by (Some Dropped) = false
injected_by None = false

-- by the weight of the dependency
unfoldable pub may_drop_by : Option Kind → ℕ → Bool
may_drop_by (Some Plain) weight = false
may_drop_by (Some MayDropAll) weight = true
may_drop_by (Some MayDropWeak) weight = eqb weight 1
may_drop_by (Some Injected) weight = false
may_drop_by (Some Dropped) weight = false
may_drop_by None weight = false

unfoldable pub is_no_kind : Option Kind → Bool
is_no_kind (Some k) = false
is_no_kind None = true

-- A kind, or none, says of a kind number what the paper's tests say of it.
pub record Says (k : Option Kind) (kind : ℕ) : Type 0 where
  pub above : ltb 5 kind ≡ is_no_kind k
  pub kept : is_kept kind ≡ kept_by k
  pub injected : is_injected kind ≡ injected_by k
  pub drops : (weight : ℕ) → may_drop kind weight ≡ may_drop_by k weight
