-- What the proof of demand 3 asks of one call, for whoever adds a call to the list: ready before
-- it, ready after it. The inductions over the list, in `Theorem`, use nothing else. Assumes
-- nothing.
use Rattle.std.specs.Prelude.{◌≡◌, List, ◌*ℤ◌}
use Rattle.std.proofs.Common.{sym, ap, ap₂, ◌∙◌, subst}
use Rattle.keys.specs.Keys.{Words, IsKey}
use Rattle.keys.specs.Lists.{All}
use Rattle.merge.specs.Laws.{key_in, Distinct}
use Rattle.merge.specs.Records.{Entry, at}
use Rattle.statevector.specs.declared.Side.{Side}
use Rattle.statevector.specs.declared.Side.TheVariants.{Left, Right}
use Rattle.statevector.specs.declared.State.{State}
use Rattle.state.specs.Laws.{stored-keys, side-words, distinct-entries, accepted-sound}
use Rattle.statevector.specs.States.{front_of, entries_of}
use Rattle.statevector.specs.Tests.{Accepted}
use Rattle.exact.specs.Table.{Snapshot, front_words, front_entries, Call, result_of, Table, numbers_of, exact_sum, weight, effect, effect_unless, PremiseUnless, AcceptedSnapshot, AllWhole, Agree}

-- before each call, and after the last
pub record Ready (h : Snapshot) (t : Table) : Type 0 where
  pub accepted : AcceptedSnapshot h
  pub agree : Agree h t

pub record Keeps (c : Call) : Type 0 where
  -- with no premise, whatever the call says
  pub accepted : (h : Snapshot) → AcceptedSnapshot h → AcceptedSnapshot (result_of c h).after
  -- the table takes the call's step, unless it was refused
  pub ready : (h : Snapshot) (t : Table)
      → Ready h t
      → PremiseUnless (result_of c h).refused c t
      → Ready (result_of c h).after (effect_unless (result_of c h).refused c t)
  pub sum : (t : Table) → (effect c t).sum ≡ t.sum *ℤ weight c

-- ---- a refused call: state and front words are as they were, and so is all that was said of them

pub accepted-unchanged : (h o : Snapshot) → o.state ≡ h.state → front_words o ≡ front_words h
    → Accepted h.state (front_words h) → Accepted o.state (front_words o)
accepted-unchanged h o s f a =
    subst (λ (t : State). Accepted t (front_words o)) (sym s) (subst (Accepted h.state) (sym f) a)

pub agree-unchanged : (h o : Snapshot) (t : Table) → o.state ≡ h.state → front_words o ≡ front_words h
    → Agree h t → Agree o t
agree-unchanged h o t s f a =
    let e : front_entries o ≡ front_entries h = ap₂ entries_of s f in
    record {
      width = ap (λ (r : State). r.width) s ∙ a.width;
      whole = subst AllWhole (sym e) a.whole;
      numbers = λ k i. ap (λ (es : List Entry). numbers_of (at k es)) e ∙ a.numbers k i;
      sum = ap exact_sum e ∙ a.sum;
    }

-- ---- the entries of an accepted snapshot: their keys are keys of its width, and no two are the same

front-words : (h : Snapshot) → AcceptedSnapshot h → Words (front_words h)
front-words h a = (side-words h.state.front h.left h.right a.left a.right).0

pub keys_in : (h : Snapshot) → AcceptedSnapshot h → All (λ e. IsKey h.state.width e.key) (front_entries h)
keys_in h a =
    stored-keys h.state (front_words h) (front-words h a)
    (accepted-sound h.state (front_words h) a.accepted)

pub distinct-in : (h : Snapshot) → AcceptedSnapshot h → Distinct key_in (front_entries h)
distinct-in h a =
    distinct-entries h.state (front_words h) (accepted-sound h.state (front_words h) a.accepted)
