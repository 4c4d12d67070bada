-- `estimates::Accepted::partner` meets its contract. Assumes nothing.
use Rattle.std.specs.Prelude.{cond}
use Prim.Native.Nat.{ℕ}
use mathlib.Core.Path.{◌≡◌, sym, ap, ap₂, ◌∙◌}
use mathlib.Core.Bool.{Bool, true, false}
use mathlib.Core.List.{List}
use lib.Dec.{ltb}
use lib.ListN.{length}
use Rattle.keys.specs.Keys.{toggle}
use Rattle.merge.specs.Records.{record_at, key_of}
use Rattle.merge.specs.Pairs.{position_of}
use Rattle.statevector.specs.States.{part_of}
use Rattle.estimates.proofs.Estimating.{ready, key-length, partner-key, found-by-tag, found_first, found_second}
use Rattle.estimates.proofs.Accepted.partner.Goals.{Start, After-key, After-copy_key_toggled}
use Rattle.estimates.proofs.Accepted.partner.Goals as goal

-- the key of record r has its words
long : (c : Start) → length (key_of c.args.self.now.s.width (record_at c.args.self.now.s.width c.args.self.now.ws.now c.args.r)) ≡ c.args.self.now.s.width
long c = key-length c.args.self.now c.args.r c.requires.r_bound

-- the words that it is made of
made : (c : After-key) → let a = c.args.self.now in c.key.result.now ≡ key_of a.s.width (record_at a.s.width a.ws.now c.args.r)
made c = c.key.ensures ∙ ap₂ key_of c.record.ensures.n_value c.record.ensures.words_value

-- where the key that was made is searched
sought : (c : After-copy_key_toggled) (k : c.key.result.now ≡ key_of c.args.self.now.s.width (record_at c.args.self.now.s.width c.args.self.now.ws.now c.args.r)) (b : Bool) → let a = c.args.self.now in
    position_of a.s.width c.copy_key_toggled.new.dst (cond b a.s.n0 0) (part_of b a.s a.ws.now)
    ≡ position_of a.s.width (partner-key a c.args.r c.requires.r_bound) (cond b a.s.n0 0) (part_of b a.s a.ws.now)
sought c k b =
    let a = c.args.self.now in
    ap (λ (k : List ℕ). position_of a.s.width k (cond b a.s.n0 0) (part_of b a.s a.ws.now)) (c.copy_key_toggled.ensures ∙ ap (toggle a.q) k)

pub copy_key_toggled-requires-clause-dst_len : goal.copy_key_toggled-requires-clause-dst_len
copy_key_toggled-requires-clause-dst_len c =
    c.requires.key_len ∙ sym (ap length (made (goal.at.copy_key_toggled-requires-clause-dst_len c).After-key) ∙ long (goal.at.copy_key_toggled-requires-clause-dst_len c).Start)

pub copy_key_toggled-requires-clause-q_bound : goal.copy_key_toggled-requires-clause-q_bound
copy_key_toggled-requires-clause-q_bound c =
    rw (made (goal.at.copy_key_toggled-requires-clause-q_bound c).After-key, long (goal.at.copy_key_toggled-requires-clause-q_bound c).Start) (ready c.args.self.now).inside

pub returns-then-eq : goal.returns-then-eq
returns-then-eq c =
    let a = c.args.self.now in
    found-by-tag a c.args.r c.requires.r_bound (sym c.eq.ensures ∙ c.if-eq.true) _ (c.find.ensures ∙ sought (goal.at.returns-then-eq c).After-copy_key_toggled (made (goal.at.returns-then-eq c).After-key) (ltb c.args.r a.s.n0))

pub returns-in-Some : goal.returns-in-Some
returns-in-Some c =
    let a = c.args.self.now in
    found_first a c.args.r c.requires.r_bound c.in-Some.j (sym c.in-Some.is ∙ c.find-2.ensures ∙ sought (goal.at.returns-in-Some c).After-copy_key_toggled (made (goal.at.returns-in-Some c).After-key) false)

pub returns-in-None : goal.returns-in-None
returns-in-None c =
    let a = c.args.self.now in
    found_second a c.args.r c.requires.r_bound _ (sym c.in-None.is ∙ c.find-2.ensures ∙ sought (goal.at.returns-in-None c).After-copy_key_toggled (made (goal.at.returns-in-None c).After-key) false)
    (c.find-in-None.ensures ∙ sought (goal.at.returns-in-None c).After-copy_key_toggled (made (goal.at.returns-in-None c).After-key) true)
