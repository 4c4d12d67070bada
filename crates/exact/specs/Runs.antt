-- What `Runs` of proofs/ says of a run of gate steps that nothing stops. Definitions only.
use Rattle.std.specs.Prelude.{◌≡◌, List, map, false, length}
use Rattle.keys.specs.Lists.{All}
use Rattle.statevector.specs.Endings.{Ending}
use Rattle.run.specs.declared.Ran.{Ran}
use Rattle.run.specs.declared.Step.{Step}
use Rattle.run.specs.Steps.{written_gate}
use Rattle.exact.specs.Table.{Snapshot, Call, gate, after, Logged, log}

-- steps of kind 1, and the gate call that such a step stands for
abbrev pub Gates : List Step → Type 0
Gates xs = All (λ x. x.kind ≡ 1) xs

unfoldable pub gate_of : Step → Call
gate_of x = gate x.qubit (written_gate x.words)

-- what a run leaves
abbrev pub snapshot_of : Ending Ran → Snapshot
snapshot_of o = record { state = o.answer.state; left = o.left; right = o.right }

-- the calls as they were accepted
abbrev pub all_accepted : List Call → List Logged
all_accepted cs = map (λ (c : Call). record { call = c; refused = false }) cs

-- what a run that nothing stopped says of its steps
pub record Unstopped (xs : List Step) (h : Snapshot) (o : Ending Ran) : Type 0 where
  pub done : o.answer.done ≡ length xs
  pub after : snapshot_of o ≡ after (map gate_of xs) h
  pub logged : log (map gate_of xs) h ≡ all_accepted (map gate_of xs)
