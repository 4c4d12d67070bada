-- THE THEOREM of demand 3, `exact-table`, whose statement is in `Table`: the list by induction,
-- from one lemma for each call. Besides, that a list of calls keeps a state accepted. Assumes
-- nothing.
use Rattle.std.specs.Prelude.{◌≡◌, refl, List, [], ◌∷◌, Bool, true, false, ℤ, ◌*ℤ◌}
use Rattle.std.proofs.Common.{sym, ap, ◌∙◌}
use Rattle.algebra.proofs.Laws.{*ℤ-assoc, *ℤ-idr}
use Rattle.exact.proofs.OneCall.{Ready, Keeps}
use Rattle.exact.proofs.OneGate.{gate-keeps}
use Rattle.exact.specs.Table.{Snapshot, Call, gate, result_of, after, Table, start, effect_unless, Logged, log, table_after, weight_unless, weights, Premises, AcceptedSnapshot, Agree, ExactTable}

-- the one place that tells the calls apart: a call that joins the list adds its line
keeps : (c : Call) → Keeps c
keeps (gate q g) = gate-keeps q g

-- ---- the list

list-ready : (calls : List Call) (h : Snapshot) (t : Table) → Ready h t
    → Premises (log calls h) t
    → Ready (after calls h) (table_after (log calls h) t)
unfolding after log table_after Premises
list-ready [] h t r p = r
list-ready (c ∷ cs) h t r p =
    list-ready cs (result_of c h).after (effect_unless (result_of c h).refused c t) ((keeps c).ready h t r p.0) p.1

-- the table's sum is the starting one times the weights
call-sum : (refused : Bool) (c : Call) (t : Table)
    → (effect_unless refused c t).sum ≡ t.sum *ℤ weight_unless refused c
call-sum true c t = sym (*ℤ-idr t.sum)
call-sum false c t = (keeps c).sum t

table-sum : (ls : List Logged) (t : Table) → (table_after ls t).sum ≡ t.sum *ℤ weights ls
unfolding table_after weights
table-sum [] t = sym (*ℤ-idr t.sum)
table-sum (l ∷ ls) t =
    table-sum ls (effect_unless l.refused l.call t)
    ∙ ap (λ (z : ℤ). z *ℤ weights ls) (call-sum l.refused l.call t)
    ∙ *ℤ-assoc t.sum (weight_unless l.refused l.call) (weights ls)

pub exact-table : ExactTable
unfolding ExactTable start
exact-table calls h a w p =
    let s : Agree h (start h) = record { width = refl; whole = w; numbers = λ k i. refl; sum = refl } in
    let r = list-ready calls h (start h) (record { accepted = a; agree = s }) p in
    record { agree = r.agree; sum = r.agree.sum ∙ table-sum (log calls h) (start h) }

-- after any list of calls an accepted state is accepted, whatever was refused: no premise on gates
-- or amplitudes
pub list-accepted : (calls : List Call) (h : Snapshot)
    → AcceptedSnapshot h
    → AcceptedSnapshot (after calls h)
unfolding after
list-accepted [] h a = a
list-accepted (c ∷ cs) h a = list-accepted cs (result_of c h).after ((keeps c).accepted h a)
