-- A fresh state beside a store that it leaves, and a number that no call has. For the proof of
-- `call`. Assumes nothing.
use mathlib.Core.Path.{◌≡◌, refl}
use native.Mathlib.Omega.{arith}
use borrow.Author.Tests.{ne_eqb}
use Prim.Native.Nat.{ℕ, ◌<◌}
use mathlib.Core.List.{List, []}
use mathlib.Core.Bool.{Bool, true, false, cond}
use Rattle.statevector.specs.Answers.{made-response}
use Rattle.state.specs.Fresh.{fresh_call}
use Rattle.words.specs.Words.{state_size, AfterMaking, after_making, wrong_length, no_call, has_words}
use Rattle.calls.specs.Calls.{unchanged, only_answered, fresh_at}
use Rattle.numbered.specs.declared.Numbers.{Numbers}
use Rattle.numbered.specs.Numbered.{reading, call_at}

-- a fresh state asks for no right store, so that a call with one leaves it
pub fresh-beside : (width : ℕ) (state left right : List ℕ) → let o = fresh_at width state left [] in ◌≡◌ {A = AfterMaking} (record { answer = o.answer; state = o.state; left = o.left; right = right }) (fresh_at width state left right)
unfolding fresh_at
fresh-beside width state left right = go (has_words state_size state)
  where
    o : Bool → List ℕ → AfterMaking
    o b r = cond b (after_making (made-response (fresh_call width left).answer) state (fresh_call width left).left r) (unchanged wrong_length state left r)

    go : (b : Bool) → ◌≡◌ {A = AfterMaking} (record { answer = (o b []).answer; state = (o b []).state; left = (o b []).left; right = right }) (o b right)
    go true = refl
    go false = refl

pub no-such-call : (n : ℕ) (ns : Numbers) (state arg arg2 left right third out : List ℕ) → (0 < n → 12 < n)
    → reading (only_answered no_call out) state left right third ≡ call_at n state ns arg arg2 left right third out
unfolding call_at
no-such-call n ns state arg arg2 left right third out h =
    rw (
      ne_eqb n 1 (λ e. omega arith),
      ne_eqb n 2 (λ e. omega arith),
      ne_eqb n 3 (λ e. omega arith),
      ne_eqb n 4 (λ e. omega arith),
      ne_eqb n 5 (λ e. omega arith),
      ne_eqb n 6 (λ e. omega arith),
      ne_eqb n 7 (λ e. omega arith),
      ne_eqb n 8 (λ e. omega arith),
      ne_eqb n 9 (λ e. omega arith),
      ne_eqb n 10 (λ e. omega arith),
      ne_eqb n 11 (λ e. omega arith),
      ne_eqb n 12 (λ e. omega arith),
    )
