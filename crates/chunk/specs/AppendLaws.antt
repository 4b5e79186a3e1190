-- Laws for the proofs of `append_open` and `append_all` of src/walk.rt: modules are appended to those gathered, part by part. Assumes nothing.
use Rattle.std.specs.Prelude.{ℕ, ◌≡◌, refl, List, [], ◌++◌}
use Rattle.std.proofs.Common.{sym, subst, ◌∙◌, append_assoc, append-nil}
use Rattle.chunk.specs.declared.gathered.Gathered.{Gathered}
use Rattle.chunk.specs.Circles.{Appended}
use Rattle.chunk.specs.CircleLaws.{appended-none, appended-append}

-- In the midst of appending a list: a part of it is appended, and the rest is left.
pub record Appending (before after : Gathered) (list rest : List ℕ) : Type 0 where
  pub passed : List ℕ
  pub whole : passed ++ rest ≡ list
  pub appended : Appended before after passed

pub appending-start : (g : Gathered) (list : List ℕ) → Appending g g list list
appending-start g list = record { passed = []; whole = refl; appended = appended-none g }

module _ {a b : Gathered} {list : List ℕ} where
  pub appending-rest : {rest rest' : List ℕ} → rest ≡ rest' → Appending a b list rest → Appending a b list rest'
  appending-rest e p = subst (Appending a b list) e p

  pub appending-more : {c : Gathered} (x rest : List ℕ) → Appending a b list (x ++ rest) → Appended b c x → Appending a c list rest
  appending-more x rest p q =
      record { passed = p.passed ++ x; whole = append_assoc p.passed x rest ∙ p.whole; appended = appended-append p.appended q }

  pub appending-end : Appending a b list [] → Appended a b list
  appending-end p = subst (Appended a b) (sym (append-nil p.passed) ∙ p.whole) p.appended
