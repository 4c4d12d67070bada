-- Any call by its number, on words. What the clause of src/lib.rt cites. Assumes nothing.
use Rattle.std.specs.Prelude.{ℕ, List, cond, eqb}
use Rattle.words.specs.Words.{AfterMaking, AfterReading, AfterBoth, no_call}
use Rattle.numbered.specs.declared.Numbers.{Numbers}
use Rattle.step_lists.specs.Lists.{run_at}
use Rattle.calls.specs.Calls.{only_answered, check_at, lookup_at, export_at, premeasure_at, collapse_at, forecast_at, compare_at, fresh_at, gate_at, measure_at, dense_at}

-- what any call leaves: its number, and all words that may change
pub record AfterCall : Type 0 where
  pub answer : ℕ
  pub state : List ℕ
  pub left : List ℕ
  pub right : List ℕ
  pub third : List ℕ
  pub out : List ℕ

-- a call that makes a state leaves the words for results, one that reads the state and the stores;
-- no call has a use for the third buffer yet
abbrev pub making : AfterMaking → List ℕ → List ℕ → AfterCall
making o third out = record { answer = o.answer; state = o.state; left = o.left; right = o.right; third = third; out = out }

abbrev pub reading : AfterReading → List ℕ → List ℕ → List ℕ → List ℕ → AfterCall
reading g state left right third = record { answer = g.answer; state = state; left = left; right = right; third = third; out = g.out }

abbrev pub doing : AfterBoth → List ℕ → AfterCall
doing o third = record { answer = o.answer; state = o.state; left = o.left; right = o.right; third = third; out = o.out }

-- 1 gate, 2 measure, 3 premeasure, as a step's kind; 4 fresh, 5 import_dense, 6 check, 7 lookup, 8
-- export, 9 collapse_delta, 10 forecast, 11 run, 12 compare. a is the qubit or the width, b the
-- outcome, the front mark, the entry or whether a qubit is left out, c the scale or that qubit, arg
-- the gate, the key, the dense list or the steps, and arg2 the second key. A third buffer is for
-- later calls.
unfoldable pub call_at : ℕ → List ℕ → Numbers → List ℕ → List ℕ → List ℕ → List ℕ → List ℕ → List ℕ → AfterCall
call_at number state ns arg arg2 left right third out =
    cond (eqb number 1) (doing (gate_at state ns.a arg left right out) third)
    (cond (eqb number 2) (making (measure_at state ns.a ns.b ns.c left right) third out)
    (cond (eqb number 3) (reading (premeasure_at state ns.a left right out) state left right third)
    (cond (eqb number 4) (making (fresh_at ns.a state left right) third out)
    (cond (eqb number 5) (making (dense_at ns.a arg ns.b state left right) third out)
    (cond (eqb number 6) (reading (only_answered (check_at state left right) out) state left right third)
    (cond (eqb number 7) (reading (lookup_at state arg left right out) state left right third)
    (cond (eqb number 8) (reading (export_at state left right out) state left right third)
    (cond (eqb number 9) (reading (collapse_at state ns.a arg ns.b left right out) state left right third)
    (cond (eqb number 10) (reading (forecast_at state ns.a arg left right out) state left right third)
    (cond (eqb number 11) (doing (run_at state arg left right out) third)
    (cond (eqb number 12) (reading (compare_at ns.a ns.b ns.c arg arg2 out) state left right third)
    (reading (only_answered no_call out) state left right third))))))))))))
