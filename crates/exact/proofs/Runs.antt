-- Demand 3 of a run, for whoever uses runs: a run of gate steps that nothing stops is the list of
-- their gate calls, each accepted. So what demand 3 says of a list of calls holds of it. Assumes
-- nothing.
use Rattle.statevector.specs.declared.Refusal.{Refusal}
use Rattle.gates.specs.declared.Gated.{Gated}
use Rattle.std.specs.Prelude.{◌≡◌, refl, ℕ, List, [], ◌∷◌, map, Bool, Err, Ok, Result}
use Rattle.std.proofs.Common.{sym, ap, ap₂, ◌∙◌, subst, arith}
use Rattle.statevector.specs.declared.State.{State}
use Rattle.gates.specs.Gate.{gate_call}
use Rattle.statevector.specs.Endings.{Ending}
use Rattle.run.specs.declared.Ran.{Ran}
use Rattle.run.specs.declared.Step.{Step}
use Rattle.run.specs.Run.{tested_as, onward, run_from, run_of}
use Rattle.run.specs.Steps.{written_gate, call_of, step_of, list_step_of, gate_taken, answered}
use Rattle.exact.specs.Table.{Snapshot, gate_refused, gate_result, after, Logged, log, front_entries, start, AcceptedSnapshot, AllWhole, Premises, FollowsTable, ExactTable}
use Rattle.exact.proofs.Theorem.{exact-table}
use Rattle.exact.specs.Runs.{Gates, gate_of, snapshot_of, all_accepted, Unstopped}

-- a gate step is its gate call
step_call : (x : Step) (s : State) (left right : List ℕ) → x.kind ≡ 1 → list_step_of s x left right ≡ answered (gate_taken s) (gate_call s x.qubit (written_gate x.words) left right)
unfolding list_step_of step_of call_of
step_call x s left right e = rw e

pub run-calls : (xs : List Step) (h : Snapshot) → Gates xs
    → let o = run_from xs h.state h.left h.right in o.answer.stopped ≡ Ok tt → Unstopped xs h o
unfolding run_from after log gate_of
run-calls [] h g = λ e. record { done = refl; after = refl; logged = refl }
run-calls (x ∷ xs) h g = rw (step_call x h.state h.left h.right g.0) (go (λ k f. run-calls xs k g.1 f) c.answer refl)
  where
    c : Ending (Result Gated Refusal)
    c = gate_call h.state x.qubit (written_gate x.words) h.left h.right

    leaves : Result Gated Refusal → Snapshot
    leaves p = record { state = (gate_taken h.state p).state; left = c.left; right = c.right }

    rest : Result Gated Refusal → Ending Ran
    rest p = run_from xs (gate_taken h.state p).state c.left c.right

    whole : Result Gated Refusal → Ending Ran
    whole p = onward (tested_as (gate_taken h.state p).answer) (record { answer = gate_taken h.state p; left = c.left; right = c.right }) (rest p)

    go : ((k : Snapshot) → (run_from xs k.state k.left k.right).answer.stopped ≡ Ok tt → Unstopped xs k (run_from xs k.state k.left k.right))
        → (p : Result Gated Refusal) → c.answer ≡ p → (whole p).answer.stopped ≡ Ok tt → Unstopped (x ∷ xs) h (whole p)
    go later (Ok d) e f =
        let i = later (leaves (Ok d)) f in
        let a : (gate_result h c).after ≡ leaves (Ok d) = ap (λ (p : Result Gated Refusal). (gate_result h (record { answer = p; left = c.left; right = c.right })).after) e in
        record {
          done = omega (arith, i.done);
          after = i.after ∙ ap (after (map gate_of xs)) (sym a);
          logged = ap₂ (λ (b : Bool) (ls : List Logged). record { call = gate_of x; refused = b } ∷ ls) (ap gate_refused e) (ap (log (map gate_of xs)) a ∙ i.logged);
        }
    go later (Err r) e f = let z : ◌≡◌ {A = ℕ} 0 1 = cc in absurd (omega arith)

-- the same of a run, whose state is tested even for an empty list
pub run-unstopped : (xs : List Step) (h : Snapshot) → Gates xs
    → let o = run_of xs h.state h.left h.right in o.answer.stopped ≡ Ok tt → Unstopped xs h o
unfolding run_of after log
run-unstopped [] h g e = record { done = refl; after = refl; logged = refl }
run-unstopped (x ∷ xs) h g e = run-calls (x ∷ xs) h g e

-- demand 3 of a run: it follows the table that was fed every step's gate, each accepted
pub run-exact : (xs : List Step) (h : Snapshot)
    → let o = run_of xs h.state h.left h.right in
    let calls = all_accepted (map gate_of xs) in
    Gates xs
    → o.answer.stopped ≡ Ok tt
    → AcceptedSnapshot h
    → AllWhole (front_entries h)
    → Premises calls (start h)
    → FollowsTable h calls (snapshot_of o)
unfolding ExactTable
run-exact xs h g e a w p =
    let u = run-unstopped xs h g e in
    let q : Premises (log (map gate_of xs) h) (start h) = subst (λ (ls : List Logged). Premises ls (start h)) (sym u.logged) p in
    subst (FollowsTable h (all_accepted (map gate_of xs))) (sym u.after)
    (subst (λ (ls : List Logged). FollowsTable h ls (after (map gate_of xs) h)) u.logged (exact-table (map gate_of xs) h a w q))
