-- `estimates::Accepted::change_at` meets its contract. Assumes nothing.
use Rattle.std.specs.Prelude.{ℕ, ◌/◌, ◌<◌, List, Bool, Err, Ok, Some}
use mathlib.Core.Path.{◌≡◌, sym, ap, ap₂, ◌∙◌, subst}
use Rattle.std.proofs.lemmas.Result.{err_from_is_err_and}
use Rattle.amplitudes.specs.declared.Complex.{Complex}
use Rattle.amplitudes.specs.declared.U4.{U4}
use Rattle.amplitudes.specs.Pairs.{combined}
use Rattle.merge.specs.Records.{record_at, record_bit, amplitude_of, finite_record, decode}
use Rattle.statevector.specs.States.{entries_of}
use Rattle.estimates.specs.Estimates.{pair_at}
use Rattle.estimates.specs.Passes.{change_of}
use Rattle.estimates.specs.Laws.{pair-alone, pair-with, say-drops}
use Rattle.estimates.proofs.Estimating.{ready, is_finite}
use Rattle.estimates.proofs.Accepted.change_at.Goals.{After-amplitude-2}
use Rattle.estimates.proofs.Accepted.change_at.Goals as goal

same-pair : (g : U4) {s t : Bool} {a b x y : Complex} → s ≡ t → a ≡ x → b ≡ y → combined g s a b ≡ combined g t x y
same-pair g e f h = cc

-- the pair of record r is that of the amplitudes read
paired : (c : After-amplitude-2) → let a = c.args.self.now in
    pair_at a.q a.g (entries_of a.s a.ws.now) (decode a.s.width (record_at a.s.width a.ws.now c.args.r)) ≡ Some (combined a.g c.bit.result c.amplitude.result c.amplitude-2.result)
paired c =
    let a = c.args.self.now in
    let x = c.record-x.ensures in
    let y = c.record-y.ensures in
    pair-with a.s.width a.q a.g (entries_of a.s a.ws.now) (record_at a.s.width a.ws.now c.args.r) _ c.in-Some.ensures.2
    ∙ ap Some
    (sym
    (same-pair a.g (c.bit.ensures ∙ ap₂ (λ (m : ℕ) (r : List ℕ). record_bit m a.q r) x.n_value x.words_value) (c.amplitude.ensures ∙ ap₂ amplitude_of x.n_value x.words_value)
    (c.amplitude-2.ensures ∙ ap₂ amplitude_of y.n_value y.words_value)))

pub returns-in_default : goal.returns-in_default
returns-in_default c =
    let a = c.args.self.now in
    sym (ap change_of (pair-alone a.s.width a.q a.g (entries_of a.s a.ws.now) (record_at a.s.width a.ws.now c.args.r) c.in_default.ensures))

pub bit-requires : goal.bit-requires
bit-requires c = subst (λ (m : ℕ). c.args.self.now.q / 64 < m) (sym c.record-x.ensures.n_value) (ready c.args.self.now).inside

pub amplitude-requires : goal.amplitude-requires
amplitude-requires c = let x = c.record-x.ensures in ap₂ finite_record x.n_value x.words_value ∙ is_finite c.args.self.now c.args.r c.requires.r_bound

pub amplitude-requires-2 : goal.amplitude-requires-2
amplitude-requires-2 c = let y = c.record-y.ensures in ap₂ finite_record y.n_value y.words_value ∙ is_finite c.args.self.now c.in-Some.j c.in-Some.ensures.1

pub returns-in_err-dropped : goal.returns-in_err-dropped
returns-in_err-dropped c =
    let p = err_from_is_err_and c.from_residual.result c.from_residual.ensures.1 in
    let x = combined c.args.self.now.g c.bit.result c.amplitude.result c.amplitude-2.result in
    rw (p.1, p.2) (say-drops x (Err _) c.in_err-dropped.ensures ∙ sym (ap change_of (paired (goal.at.returns-in_err-dropped c).After-amplitude-2)))

pub returns : goal.returns
returns c =
    let x = combined c.args.self.now.g c.bit.result c.amplitude.result c.amplitude-2.result in
    (say-drops x (Ok _) c.in_ok-dropped.ensures).0 ∙ sym (ap change_of (paired (goal.at.returns c).After-amplitude-2))
