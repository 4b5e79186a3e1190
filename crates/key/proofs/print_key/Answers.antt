use Rattle.std.proofs.Common.{◌≡◌, ℕ, ◌<◌, ◌≤◌, ◌⊎◌, inl, inr, List, [], ◌++◌, Option, None, Some, IfSome, OnOk, Result, arith, rules, length, take, take_all, length-take-le, append-nil, sym, ap, ◌∙◌, subst}
use Rattle.std.proofs.Math.Seq.{take-append_seam}
use Rattle.std.specs.Io.KnownBytes.{Appends, Consumes, IsAtEnd}
use Rattle.std.proofs.lemmas.Bool.{cases_lt}
use Rattle.std.proofs.lemmas.Option.{IfSome_then}
use Rattle.std.proofs.lemmas.Result.{on_ok_weaker}
use Rattle.rules.specs.Keys.{key_input_limit, printed}
use Rattle.key.specs.Prints.{Prints}
use Rattle.key.proofs.print_key.Goals as goal

-- What was read into a buffer until it was full, or the input at its end, is the front of that input.
module _ (read : List ℕ) (n limit : ℕ) (size : length read ≡ limit) (within : n ≤ length read) where
  front-whole : (all rest : List ℕ) → all ≡ take n read ++ rest → n < limit → rest ≡ [] → take n read ≡ take limit all
  front-whole all rest consumed short end =
      let whole : all ≡ take n read = consumed ∙ ap (λ l. take n read ++ l) end ∙ append-nil (take n read) in
      let long : length all ≤ limit = omega (arith, ap length whole, length-take-le n read within) in
      sym whole ∙ sym (take_all limit all long)

  front-full : (all rest : List ℕ) → all ≡ take n read ++ rest → limit ≤ n → take n read ≡ take limit all
  front-full all rest consumed full =
      let long : length (take n read) ≡ limit = omega (arith, length-take-le n read within) in
      sym (take-append_seam (take n read) rest) ∙ ap (λ m. take m (take n read ++ rest)) long ∙ ap (take limit) (sym consumed)

  front-read : (a b : Option (List ℕ)) → Consumes a b (take n read) → (n < length read → IsAtEnd b) → IfSome a (λ all. take n read ≡ take limit all)
  front-read None b consumed end = tt
  front-read (Some all) None consumed end = absurd consumed
  front-read (Some all) (Some rest) consumed end = go (cases_lt n limit)
    where
      go : (n < limit) ⊎ (limit ≤ n) → take n read ≡ take limit all
      go (inl h) = front-whole all rest consumed h (end (omega arith))
      go (inr h) = front-full all rest consumed h

-- Where the key of these bytes is written, the paper's text for the input is.
key-written : {E : Type 0} (r : Result Unit E) (a b before after : Option (List ℕ)) (read text : List ℕ) (n end : ℕ) → length read ≡ key_input_limit
    → n ≤ length read → Consumes a b (take n read) → (n < length read → IsAtEnd b) → Prints (take n read) text end
    → OnOk r (Appends before after (take end text)) → OnOk r (IfSome a (λ all. Appends before after (printed all)))
key-written r a b before after read text n end size within consumed short prints written =
    let front = front-read read n key_input_limit size within a b consumed short in
    on_ok_weaker r (λ w. IfSome_then a front (λ all same. subst (Appends before after) (prints.paper all same) w)) written

pub returns : goal.returns
returns g c =
    key-written _ _ _ _ _ c.read_full.new.buf c.text_of-end.new.text c.in_ok-n.n c.text_of-end.result (search rules) c.in_ok-n.ensures.within c.in_ok-n.ensures.bytes
    c.in_ok-n.ensures.end c.text_of-end.ensures c.write_all.ensures.bytes
